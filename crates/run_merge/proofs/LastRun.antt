-- What merging all runs gives, where there was one or none, and where one is left.
use Rattle.std.proofs.Common.{◌≡◌, ℕ, ◌≤◌, List, [], ◌∷◌, Option, Ok, refl, sym, ap, subst, ◌∙◌, length, arith}
use Rattle.std.specs.Prelude.{slice_get}
use Rattle.std.proofs.lemmas.List.{append-nil}
use Rattle.aggregate.specs.declared.kind.Kind.{Kind}
use Rattle.aggregate.specs.Totals.{Entry, total}
use Rattle.spill_disk.specs.Files.{Files}
use Rattle.run_file.specs.declared.run.Run.{Run}
use Rattle.run_file.specs.Several.{HasEntries, HaveEntries, concatenated}
use Rattle.run_merge.specs.Becoming.{ComesTo}
use Rattle.run_merge.specs.Merged.{IsFresh, Merges, answered}
use Rattle.run_merge.proofs.Ascending.{own_total}

-- one run alone has the total of its entries, which ascend
pub one_has : (files : Option Files) (kind : Kind) (run : Run) (entries : List Entry) → HasEntries files kind run entries → HasEntries files kind run (total kind (concatenated (entries ∷ [])))
one_has files kind run entries has =
    let same = ap (total kind) (append-nil entries) ∙ own_total kind entries has.ascends in
    subst (λ (t : List Entry). HasEntries files kind run t) (sym same) has

-- one run or none stays as it is
pub few_merge : (files : ℕ → Option Files) (kind : Kind) (runs : List Run) (lists : List (List Entry)) → length runs ≤ 1 → HaveEntries files kind runs lists → Merges files kind lists (Ok (slice_get runs 0))
few_merge files kind [] [] few have = refl
few_merge files kind [] (entries ∷ lists) few have = absurd have
few_merge files kind (run ∷ []) [] few have = absurd have
few_merge files kind (run ∷ []) (entries ∷ []) few have = one_has (files run.disk) kind run entries have.0
few_merge files kind (run ∷ []) (entries ∷ other ∷ lists) few have = absurd have.1
few_merge files kind (run ∷ other ∷ runs) lists few have = absurd (omega arith)

-- and its file is one of theirs
pub few_fresh : (named : ℕ → ℕ) (before : ℕ → Option Files) (runs : List Run) → length runs ≤ 1 → IsFresh named before runs (answered (slice_get runs 0))
few_fresh named before [] few disk file is other = absurd (let none = is.1 in omega arith)
few_fresh named before (run ∷ []) few disk file is other = absurd (other is)
few_fresh named before (run ∷ other ∷ runs) few disk file is none = absurd (omega arith)

-- the run that is left has the total of all
pub last_has : (files : Option Files) (kind : Kind) (run : Run) (entries all : List Entry) → HasEntries files kind run entries → total kind entries ≡ total kind all → HasEntries files kind run (total kind all)
last_has files kind run entries all has same =
    subst (λ (t : List Entry). HasEntries files kind run t) (sym (own_total kind entries has.ascends) ∙ same) has

pub left_merges : (named : ℕ → ℕ) (files : ℕ → Option Files) (kind : Kind) (lists : List (List Entry)) (run : Run) → ComesTo named files kind lists (run ∷ []) → HasEntries (files run.disk) kind run (total kind (concatenated lists))
left_merges named files kind lists run comes = one_of comes.own comes.stand comes.same
  where
    one_of : (own : List (List Entry)) → HaveEntries files kind (run ∷ []) own → total kind (concatenated own) ≡ total kind (concatenated lists) → HasEntries (files run.disk) kind run (total kind (concatenated lists))
    one_of [] have same = absurd have
    one_of (entries ∷ []) have same = last_has (files run.disk) kind run entries (concatenated lists) have.0 (sym (ap (total kind) (append-nil entries)) ∙ same)
    one_of (entries ∷ other ∷ rest) have same = absurd have.1
