use Rattle.std.proofs.Common.{◌<◌, ℕ, List, true, Ok, ap, subst, ◌∙◌}
use Rattle.std.specs.Prelude.{slice_index}
use Rattle.std.proofs.Math.Logic.{∥∥₁_elim}
use mathlib.Core.Logic.{∥∥₁_prop}
use Rattle.aggregate.specs.Fronts.{front_of}
use Rattle.run_file.specs.Readers.{form_of}
use Rattle.run_file.specs.Reading.{Moves, TakesRow}
use Rattle.run_file.proofs.Standing.{entry_taken}
use Rattle.run_merge.proofs.heads.let_on.Goals as goal

pub key-requires : goal.key-requires
key-requires g c =
    let moved : Moves c.args.reader.now c.advance.new.self (Ok true) = rw c.if-not-branch.false at c.in_ok-advance.ensures.moved in
    let took : TakesRow c.advance.new.self (Ok true) = rw c.if-not-branch.false at c.in_ok-advance.ensures.taken in
    (c.requires.of_kind.0, ∥∥₁_elim c.requires.of_kind.1 ∥∥₁_prop (λ form. ∣ entry_taken c.requires.of_kind.0 c.advance.new.self (ap form_of moved ∙ form) took ∣₁))

pub returns-clause-front : goal.returns-clause-front
returns-clause-front g c was is =
    (c.front_beside.ensures.front ∙ ap front_of c.key.ensures, subst (λ (key : List ℕ). (k : ℕ) → slice_index key k < 256) c.key.ensures c.front_beside.ensures.bytes)

pub returns-clause-stands : goal.returns-clause-stands
returns-clause-stands g c kind form was is =
    let moved : Moves c.args.reader.now c.advance.new.self (Ok true) = rw c.if-not-branch.false at c.in_ok-advance.ensures.moved in
    let took : TakesRow c.advance.new.self (Ok true) = rw c.if-not-branch.false at c.in_ok-advance.ensures.taken in
    ∣ entry_taken kind c.advance.new.self (ap form_of moved ∙ form) took ∣₁
