use Rattle.std.proofs.Common.{◌∙◌, ◌<◌, sym, length, arith}
use Rattle.csv.specs.Records.{fields_of}
use Rattle.job_plan.proofs.Places.{place-here, place-more}
use Rattle.job_plan.proofs.columns.place_of.Goals as goal

pub returns-then-field_is : goal.returns-then-field_is
returns-then-field_is c =
    let h : c.loop-i.i < length (fields_of c.args.header.now) = omega arith in
    place-here c.args.name.now (fields_of c.args.header.now) c.loop-i.i h (sym c.field_is.ensures ∙ c.if-field_is.true) ∙ sym c.loop-i.invariant

pub loop-i-preserved : goal.loop-i-preserved
loop-i-preserved c =
    let h : c.loop-i.i < length (fields_of c.args.header.now) = omega arith in
    c.loop-i.invariant ∙ place-more c.args.name.now (fields_of c.args.header.now) c.loop-i.i h (sym c.field_is.ensures ∙ c.if-field_is.false)
