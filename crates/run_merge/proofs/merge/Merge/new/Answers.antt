use Rattle.std.proofs.Common.{◌≡◌, ◌<◌, ◌∷◌, ◌++◌, [], false, length, ap, ◌∙◌, arith}
use Rattle.std.proofs.lemmas.List.{length_push}
use Rattle.row_form.specs.declared.form.Form.TheVariants.{Entries}
use Rattle.run_file.specs.Readers.{form_of, run_of}
use Rattle.run_file.specs.Reading.{Begins}
use Rattle.run_file.specs.Several.{run_at}
use Rattle.run_merge.specs.Heads.{EachReader}
use Rattle.run_merge.proofs.Beginning.{all_begin, each_push, heads_push, left_push, runs_push}
use Rattle.run_merge.proofs.merge.Merge.new.Goals as goal

pub loop-run-preserved : goal.loop-run-preserved
loop-run-preserved c =
    let readers = c.loop-run.readers.items in
    let heads = c.loop-run.heads.items in
    let new = c.new.result in
    let runs = c.args.runs.now in
    let i = c.loop-run.run-index in
    let lt : i < length runs = c.loop-run-test.true in
    let run : run_of new ≡ run_at runs i = c.new.ensures.run in
    let put : c.push.new.self.items ≡ readers ++ new ∷ [] = c.in_ok-push.ensures.items in
    let flag : c.push-in-loop-run.new.self.items ≡ heads ++ false ∷ [] = c.in_ok-push-2.ensures.items in
    let form : form_of new ≡ Entries c.args.kind.now = c.new.ensures.form ∙ ap Entries c.in_ok-copy.ensures in
    let inv = c.loop-run.invariant in
    rw (put, flag, c.in_ok-push-3.ensures.items) (record {
      heads = omega (arith, length_push readers new, length_push heads false, inv.heads);
      as_many = omega (arith, length_push readers new, length_push c.loop-run.fronts.items 0, inv.as_many);
      runs = runs_push runs i readers new lt run inv.runs;
      none = heads_push heads inv.none;
      forms = each_push readers new (λ k reader. form_of reader ≡ Entries c.args.kind.now) (λ k reader. form_of reader ≡ Entries c.args.kind.now) inv.forms (λ k reader below h. h) form;
      begins = each_push readers new (λ k reader. Begins reader) (λ k reader. Begins reader) inv.begins (λ k reader below h. h) c.new.ensures.begins;
      left = left_push runs i readers heads new lt run c.new.ensures.found inv.left;
    })

pub returns-clause-begins : goal.returns-clause-begins
returns-clause-begins c files lists have =
    let forms : EachReader c.loop-run.readers.items (λ k reader. form_of reader ≡ Entries c.in_ok-copy-2.field-0) = rw c.in_ok-copy-2.ensures c.loop-run.invariant.forms in
    let come = all_begin files c.in_ok-copy-2.field-0 c.loop-run.readers.items c.loop-run.heads.items lists c.loop-run.invariant.heads c.loop-run.invariant.none c.loop-run.invariant.begins forms have in
    record { lists = come.lists; left = come.left; formed = come.formed; ascend = come.ascend; are = come.are }
