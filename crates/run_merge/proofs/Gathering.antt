-- What a merge gave so far, as the rows of a run that is being written.
use Rattle.std.proofs.Common.{◌≡◌, ℕ, List, [], ◌∷◌, ◌++◌, Option, Ok, Err, Bool, true, false, ◌+◌, length, refl, sym, ap, subst, ◌∙◌, append_assoc, arith}
use Rattle.std.specs.List.{AllByRecursion}
use Rattle.std.proofs.lemmas.List.{append-nil, length-append, map-append}
use Rattle.aggregate.specs.Rows.{entries_of, entry_of}
use Rattle.aggregate.specs.declared.kind.Kind.TheVariants.{Order}
use Rattle.aggregate.specs.Totals.{Entry}
use Rattle.spill_disk.specs.Files.{Files}
use Rattle.row_form.specs.declared.form.Form.TheVariants.{Entries}
use Rattle.run_file.specs.declared.run.Run.{Run}
use Rattle.run_file.specs.declared.run.RunFault.{RunFault}
use Rattle.run_file.specs.Causes.{NotDamaged}
use Rattle.row_form.specs.Forms.{IsWellFormed}
use Rattle.run_file.specs.Several.{IsFileAmong, greatest_of}
use Rattle.run_file.specs.Writing.{IsSoFar, IsWritten, WriterView}
use Rattle.run_file.specs.Shelved.{SameBut}
use Rattle.run_file.proofs.Among.{all_join}
use Rattle.run_merge.specs.declared.merge.Merge.{Merge}
use Rattle.run_merge.specs.Becoming.{WritesAll}
use Rattle.run_merge.specs.Merging.{Falls, ReadsOn, IsToCome, kind_of, left_of, row_of, runs_of}
use Rattle.run_merge.proofs.Kept.{IsSame, kept_beside, to_come_kept}

-- some entries are still to come, and these rows were those before them
pub record IsLeftOf (now : ℕ → Option Files) (merge : Merge) (rows : List (List (List ℕ))) (entries : List Entry) : Type 0 where
  pub rest : List Entry
  pub come : IsToCome now merge rest
  pub whole : entries_of rows ++ rest ≡ entries

-- rows that a merge gave since it was `first` and the files as at the start; where the run's file is none of the merge's, they
-- are those before the entries that are still to come
pub record IsUnderway (start now : ℕ → Option Files) (to : ℕ) (first merge : Merge) (writer : WriterView) (apart : Type 0) : Type 0 where
  pub rows : List (List (List ℕ))
  pub so_far : IsSoFar (now to) writer rows
  pub formed : AllByRecursion (IsWellFormed (Entries (kind_of first)) (greatest_of (runs_of first))) rows
  pub gives : apart → (entries : List Entry) → IsToCome start first entries → IsLeftOf now merge rows entries
  pub counted : kind_of first ≡ Order → length rows + left_of merge ≡ left_of first

pub underway_none : (start : ℕ → Option Files) (to : ℕ) (first : Merge) (writer : WriterView) (apart : Type 0) → IsSoFar (start to) writer [] → IsUnderway start start to first first writer apart
underway_none start to first writer apart begun = record {
  rows = [];
  so_far = begun;
  formed = tt;
  gives = λ _ entries come. record { rest = entries; come = come; whole = refl };
  counted = λ order. omega arith;
}

-- one more row, of which the entry was to come
more_left : (mid after : ℕ → Option Files) (merge : Merge) (rows : List (List (List ℕ))) (entries rest : List Entry) → AllByRecursion (IsSame mid after) (runs_of merge) → entries_of rows ++ rest ≡ entries → ReadsOn mid merge rest (Ok true) → IsLeftOf after merge (rows ++ row_of merge ∷ []) entries
more_left mid after merge rows entries [] same whole goes = absurd goes
more_left mid after merge rows entries (entry ∷ rest) same whole goes =
    let given : entry_of (row_of merge) ≡ entry = ap entry_of goes.0 in
    record {
      rest = rest;
      come = to_come_kept mid after merge rest same goes.1;
      whole =
          ap (λ (t : List Entry). t ++ rest) (map-append entry_of rows (row_of merge ∷ []))
          ∙ append_assoc (entries_of rows) (entry_of (row_of merge) ∷ []) rest
          ∙ ap (λ (e : Entry). entries_of rows ++ (e ∷ rest)) given
          ∙ whole;
    }

-- what is known of the calls of one step
pub record Steps (now mid after : ℕ → Option Files) (named : ℕ → ℕ) (to file : ℕ) (first merge merge' : Merge) (writer writer' : WriterView) (row : List (List ℕ)) : Type 0 where
  pub left : (j : ℕ) → mid j ≡ now j
  pub goes : (entries : List Entry) → IsToCome now merge entries → ReadsOn mid merge' entries (Ok true)
  pub formed : IsWellFormed (Entries (kind_of merge')) (greatest_of (runs_of merge')) (row_of merge')
  pub runs : runs_of merge' ≡ runs_of first
  pub kind : kind_of merge' ≡ kind_of first
  pub row_is : row ≡ row_of merge'
  pub put : (rows : List (List (List ℕ))) → IsSoFar (mid to) writer rows → IsSoFar (after to) writer' (rows ++ row ∷ [])
  pub same : SameBut named mid after to file
  pub falls : Falls merge merge' (Ok true)
  pub kind_was : kind_of merge ≡ kind_of first

pub underway_more : (start now mid after : ℕ → Option Files) (named : ℕ → ℕ) (to file : ℕ) (first merge merge' : Merge) (writer writer' : WriterView) (row : List (List ℕ)) (apart : Type 0) → (apart → IsFileAmong named (runs_of first) to file → ⊥)
    → Steps now mid after named to file first merge merge' writer writer' row → IsUnderway start now to first merge writer apart → IsUnderway start after to first merge' writer' apart
underway_more start now mid after named to file first merge merge' writer writer' row apart is_apart step before = record {
  rows = before.rows ++ row_of merge' ∷ [];
  so_far =
      subst (λ (r : List (List ℕ)). IsSoFar (after to) writer' (before.rows ++ r ∷ [])) step.row_is
      (step.put before.rows (subst (λ (files : Option Files). IsSoFar files writer before.rows) (sym (step.left to)) before.so_far));
  formed =
      let given : IsWellFormed (Entries (kind_of first)) (greatest_of (runs_of first)) (row_of merge') = rw (← step.kind, ← step.runs) step.formed in
      all_join (IsWellFormed (Entries (kind_of first)) (greatest_of (runs_of first))) before.rows (row_of merge' ∷ []) before.formed (given, tt);
  gives = λ known entries come.
      let left = before.gives known entries come in
      let beside = kept_beside named mid after to file (runs_of first) step.same (is_apart known) in
      let same : AllByRecursion (IsSame mid after) (runs_of merge') = subst (λ (runs : List Run). AllByRecursion (IsSame mid after) runs) (sym step.runs) beside in
      more_left mid after merge' before.rows entries left.rest same left.whole (step.goes left.rest left.come);
  counted = λ order.
      let was = before.counted order in
      let one = step.falls.1 (step.kind_was ∙ order) in
      omega (arith, length-append before.rows (row_of merge' ∷ []), was, one);
}

none_left : (now : ℕ → Option Files) (merge : Merge) (rows : List (List (List ℕ))) (entries rest : List Entry) → entries_of rows ++ rest ≡ entries → ReadsOn now merge rest (Ok false) → entries_of rows ≡ entries
none_left now merge rows entries [] whole goes = sym (append-nil (entries_of rows)) ∙ whole
none_left now merge rows entries (entry ∷ rest) whole goes = absurd goes

-- where it gave up nothing was damaged
pub goes_undamaged : (now : ℕ → Option Files) (merge : Merge) (rest : List Entry) (fault : RunFault) → ReadsOn now merge rest (Err fault) → NotDamaged {T = Bool} (Err fault)
goes_undamaged now merge [] fault goes = goes
goes_undamaged now merge (entry ∷ rest) fault goes = goes

-- the run was finished, and nothing is left
pub underway_all : (start now mid after : ℕ → Option Files) (to : ℕ) (first merge merge' : Merge) (writer : WriterView) (run : Run) (apart : Type 0) → IsUnderway start now to first merge writer apart → ((j : ℕ) → mid j ≡ now j) → ((entries : List Entry) → IsToCome now merge entries → ReadsOn mid merge' entries (Ok false)) → left_of merge ≡ 0
    → ((rows : List (List (List ℕ))) → IsSoFar (mid to) writer rows → IsWritten (after to) run rows) → WritesAll start first (after to) run apart
underway_all start now mid after to first merge merge' writer run apart before left goes none written =
    let done = written before.rows (subst (λ (files : Option Files). IsSoFar files writer before.rows) (sym (left to)) before.so_far) in
    record {
      rows = before.rows;
      counts = done.counts;
      file = done.file;
      formed = before.formed;
      are = λ known entries come.
          let last = before.gives known entries come in
          none_left mid merge' before.rows entries last.rest last.whole (goes last.rest last.come);
      counted = λ order. omega (arith, before.counted order, none);
    }
