use Rattle.std.proofs.Common.{◌<◌, ◌-◌, ◌^◌, ◌∷◌, ◌++◌, [], List, ℕ, arith}
use Rattle.run_file.specs.declared.run.Run.{Run}
use Rattle.run_file.specs.Several.{AreOn}
use Rattle.file_tests.proofs.tests.lists.put_lists.Goals as goal

on_push : (count : ℕ) (runs : List Run) (run : Run) → AreOn count runs → run.disk < count → AreOn count (runs ++ run ∷ [])
on_push count [] run on lt = (lt, tt)
on_push count (r ∷ runs) run on lt = (on.0, on_push count runs run on.1 lt)

pub loop-list-preserved : goal.loop-list-preserved
loop-list-preserved g c =
    let small : c.in_ok-put_run.field-0.disk < 2 ^ 32 - 1 = omega (arith, c.in_ok-put_run.ensures, c.if-number-gt100.false) in
    rw c.in_ok-push.ensures.items (on_push (2 ^ 32 - 1) c.loop-list.runs.items c.in_ok-put_run.field-0 c.loop-list.invariant small)
