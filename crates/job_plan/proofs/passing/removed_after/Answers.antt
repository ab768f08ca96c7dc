use Rattle.std.proofs.Common.{◌≡◌, ◌++◌, ◌∷◌, ◌∙◌, ◌+◌, ℕ, [], true, false, sym, rules, arith}
use Rattle.std.specs.Prelude.{◌&&◌}
use Rattle.row_filter.specs.Chains.{links_of}
use Rattle.job_plan.specs.Passes.{has_level, is_last_use}
use Rattle.job_plan.proofs.PassLists.{none_kept, one_kept}
use Rattle.job_plan.proofs.passing.removed_after.Goals as goal
use Rattle.job_plan.proofs.passing.removed_after.Goals.{then-is_removed+in_ok-push, else-is_removed}

pub loop-before-preserved : goal.loop-before-preserved
loop-before-preserved c =
    let links = links_of c.args.chain.now in
    let passes = c.args.passes.now in
    let pass = c.args.pass in
    let before = c.loop-before.before in
    let goes = λ (d : ℕ). has_level links d && is_last_use links passes d pass in
    elim c.if-is_removed.branch [
      | then-is_removed+in_ok-push w ↦
          let removed : goes (before + 1) ≡ true = sym c.is_removed.ensures ∙ w.if-is_removed.true in
          let pushed : w.push.new.self.items ≡ c.loop-before.datasets.items ++ (before + 1) ∷ [] = search rules in
          rw (w.datasets-is, pushed, c.loop-before.invariant) (sym (one_kept goes 1 before (before + 1) (omega arith) removed))
      | else-is_removed w ↦
          let stays : goes (before + 1) ≡ false = sym c.is_removed.ensures ∙ w.if-is_removed.false in
          rw (w.datasets-is, c.loop-before.invariant) (sym (none_kept goes 1 before (before + 1) (omega arith) stays))
    ]
