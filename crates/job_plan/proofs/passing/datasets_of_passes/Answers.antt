use Rattle.std.proofs.Common.{◌≡◌, ◌++◌, ◌∷◌, ◌∙◌, [], true, false, get_or, sym, rules}
use Rattle.job_plan.specs.Passes.{is_first}
use Rattle.job_plan.proofs.PassLists.{one_more_dataset, same_datasets}
use Rattle.job_plan.proofs.passing.datasets_of_passes.Goals as goal
use Rattle.job_plan.proofs.passing.datasets_of_passes.Goals.{then-is_first_over+in_ok-push, else-is_first_over}

pub loop-i-preserved : goal.loop-i-preserved
loop-i-preserved c =
    let datasets = c.args.datasets.now in
    let i = c.loop-i.i in
    elim c.if-is_first_over.branch [
      | then-is_first_over+in_ok-push w ↦
          let first : is_first datasets i ≡ true = sym c.is_first_over.ensures ∙ w.if-is_first_over.true in
          let pushed : w.push.new.self.items ≡ c.loop-i.passes.items ++ get_or datasets i 0 ∷ [] = search rules in
          rw (w.passes-is, pushed, c.loop-i.invariant) (sym (one_more_dataset datasets i first))
      | else-is_first_over w ↦
          let later : is_first datasets i ≡ false = sym c.is_first_over.ensures ∙ w.if-is_first_over.false in
          rw (w.passes-is, c.loop-i.invariant) (sym (same_datasets datasets i later))
    ]
