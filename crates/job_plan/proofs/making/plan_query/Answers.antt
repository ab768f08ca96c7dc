use Rattle.std.proofs.Common.{◌∙◌, ap, refl, sym, slice_index}
use Rattle.job_plan.specs.Entries.{kind_of}
use Rattle.job_plan.proofs.Moving.{kind-moved}
use Rattle.job_plan.proofs.making.plan_query.Goals as goal

pub returns : goal.returns
returns c = record {
  dataset = refl;
  shape = c.in_ok-copy_shape.ensures;
  over = c.in_ok-move_shape.ensures;
  kind = c.in_ok-make_kind.ensures ∙ sym (ap kind_of c.in_ok-move_shape.ensures ∙ kind-moved (slice_index c.args.kept.now) c.args.query.now.shape);
  heading = c.in_ok-make_heading.ensures;
}
