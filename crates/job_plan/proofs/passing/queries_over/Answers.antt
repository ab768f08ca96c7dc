use Rattle.std.proofs.Common.{◌≡◌, ◌++◌, ◌∷◌, ◌∙◌, ℕ, [], true, false, sym, rules, arith}
use Rattle.std.specs.Prelude.{◌==◌, slice_index_or}
use Rattle.job_plan.proofs.PassLists.{none_kept, one_kept}
use Rattle.job_plan.proofs.passing.queries_over.Goals as goal
use Rattle.job_plan.proofs.passing.queries_over.Goals.{then-is_over+in_ok-push, else-is_over}

pub loop-i-preserved : goal.loop-i-preserved
loop-i-preserved c =
    let i = c.loop-i.i in
    let goes = λ (q : ℕ). slice_index_or c.args.datasets.now q 0 == c.args.dataset in
    elim c.if-is_over.branch [
      | then-is_over+in_ok-push w ↦
          let over : goes i ≡ true = sym c.is_over.ensures ∙ w.if-is_over.true in
          let pushed : w.push.new.self.items ≡ c.loop-i.queries.items ++ i ∷ [] = search rules in
          rw (w.queries-is, pushed, c.loop-i.invariant) (sym (one_kept goes 0 i i (omega arith) over))
      | else-is_over w ↦
          let other : goes i ≡ false = sym c.is_over.ensures ∙ w.if-is_over.false in
          rw (w.queries-is, c.loop-i.invariant) (sym (none_kept goes 0 i i (omega arith) other))
    ]
