-- What runs and readers have still to give, where their files are kept.
use Rattle.std.proofs.Common.{◌≡◌, ℕ, zero, suc, ◌<◌, Bool, true, false, List, [], ◌∷◌, ◌++◌, Option, Some, None, length, map, take, drop, refl, sym, ap, subst, ◌∙◌, arith}
use Rattle.std.specs.Prelude.{IsSome, is_some, unwrap_or}
use Rattle.std.specs.FinMap as map
use Rattle.std.specs.List.{AllByRecursion}
use Rattle.std.proofs.lemmas.Bool.{false≢true}
use Rattle.aggregate.specs.declared.kind.Kind.{Kind}
use Rattle.aggregate.specs.Totals.{Entry}
use Rattle.row_page.specs.Grammar.{IsPage}
use Rattle.spill_disk.specs.Files.{Files}
use Rattle.run_file.specs.declared.run.Run.{Run}
use Rattle.run_file.specs.Readers.{ReaderView, known_ahead, run_of}
use Rattle.run_file.specs.Reading.{ArePage, IsAhead}
use Rattle.run_file.specs.Runs.{CountsRows, Stands}
use Rattle.run_file.specs.Several.{IsFileAmong, HasEntries, HaveEntries, run_at}
use Rattle.run_file.specs.Shelved.{IsNotThere, file_in, SameBut}
use Rattle.run_file.proofs.Among.{among_left, among_right, is_among_one}
use Rattle.run_merge.specs.declared.merge.Merge.{Merge}
use Rattle.run_merge.specs.Merging.{AreLeft, IsLeft, IsToCome, runs_of}

-- a run's file is as before
abbrev pub IsSame : (ℕ → Option Files) → (ℕ → Option Files) → Run → Type 0
IsSame before after run = file_in (after run.disk) run.file ≡ file_in (before run.disk) run.file

pub stands_kept : (before after : Option Files) (run : Run) (rows : List (List (List ℕ))) → file_in after run.file ≡ file_in before run.file → Stands before run rows → Stands after run rows
stands_kept None after run rows same stands = absurd stands
stands_kept (Some b) None run rows same stands = cc same
stands_kept (Some b) (Some a) run rows same stands =
    let found : map.get b run.file ≡ map.get a run.file = cc same in
    subst (λ (o : Option (List ℕ)). IsSome o × IsPage (take run.bytes (unwrap_or o [])) rows × CountsRows run rows) found stands

pub has_kept : (before after : Option Files) (kind : Kind) (run : Run) (entries : List Entry) → file_in after run.file ≡ file_in before run.file → HasEntries before kind run entries → HasEntries after kind run entries
has_kept before after kind run entries same has = record {
  rows = has.rows;
  stands = stands_kept before after run has.rows same has.stands;
  formed = has.formed;
  are = has.are;
  ascends = has.ascends;
}

pub have_kept : (before after : ℕ → Option Files) (kind : Kind) (runs : List Run) (lists : List (List Entry)) → AllByRecursion (IsSame before after) runs → HaveEntries before kind runs lists → HaveEntries after kind runs lists
have_kept before after kind [] [] same have = tt
have_kept before after kind [] (entries ∷ lists) same have = absurd have
have_kept before after kind (run ∷ runs) [] same have = absurd have
have_kept before after kind (run ∷ runs) (entries ∷ lists) same have =
    (has_kept (before run.disk) (after run.disk) kind run entries same.0 have.0, have_kept before after kind runs lists same.1 have.1)

-- runs are kept where none of them is the one file that was changed
pub kept_beside : (named : ℕ → ℕ) (before after : ℕ → Option Files) (disk file : ℕ) (runs : List Run) → SameBut named before after disk file → (IsFileAmong named runs disk file → ⊥) → AllByRecursion (IsSame before after) runs
kept_beside named before after disk file [] same apart = tt
kept_beside named before after disk file (run ∷ runs) same apart = (
  same run.disk run.file (λ is. apart (among_left named (run ∷ []) runs disk file (is_among_one named run disk file is.0 is.1))),
  kept_beside named before after disk file runs same (λ h. apart (among_right named (run ∷ []) runs disk file h)),
)

-- a run that stands is there
there_not_gone : (files : Option Files) (run : Run) (rows : List (List (List ℕ))) → Stands files run rows → IsNotThere files run.file → ⊥
there_not_gone None run rows stands gone = stands
there_not_gone (Some files) run rows stands gone = false≢true (sym (ap is_some gone) ∙ stands.0)

pub have_there : (files : ℕ → Option Files) (kind : Kind) (runs : List Run) (lists : List (List Entry)) → HaveEntries files kind runs lists → (i : ℕ) → i < length runs → IsNotThere (files (run_at runs i).disk) (run_at runs i).file → ⊥
have_there files kind [] lists have i within gone = omega arith
have_there files kind (run ∷ runs) [] have i within gone = have
have_there files kind (run ∷ runs) (entries ∷ lists) have zero within gone = there_not_gone (files run.disk) run have.0.rows have.0.stands gone
have_there files kind (run ∷ runs) (entries ∷ lists) have (suc i) within gone = have_there files kind runs lists have.1 i (omega arith) gone

-- ---- lists of runs beside each other

pub record Splits (files : ℕ → Option Files) (kind : Kind) (xs ys : List Run) (lists : List (List Entry)) : Type 0 where
  pub front : List (List Entry)
  pub behind : List (List Entry)
  pub whole : lists ≡ front ++ behind
  pub left : HaveEntries files kind xs front
  pub right : HaveEntries files kind ys behind

pub have_splits : (files : ℕ → Option Files) (kind : Kind) (xs ys : List Run) (lists : List (List Entry)) → HaveEntries files kind (xs ++ ys) lists → Splits files kind xs ys lists
have_splits files kind [] ys lists have = record { front = []; behind = lists; whole = refl; left = tt; right = have }
have_splits files kind (x ∷ xs) ys [] have = absurd have
have_splits files kind (x ∷ xs) ys (entries ∷ lists) have =
    let rest = have_splits files kind xs ys lists have.1 in
    record { front = entries ∷ rest.front; behind = rest.behind; whole = ap (λ (t : List (List Entry)). entries ∷ t) rest.whole; left = (have.0, rest.left); right = rest.right }

pub have_join : (files : ℕ → Option Files) (kind : Kind) (xs ys : List Run) (front behind : List (List Entry)) → HaveEntries files kind xs front → HaveEntries files kind ys behind → HaveEntries files kind (xs ++ ys) (front ++ behind)
have_join files kind [] ys [] behind left right = right
have_join files kind [] ys (entries ∷ front) behind left right = absurd left
have_join files kind (x ∷ xs) ys [] behind left right = absurd left
have_join files kind (x ∷ xs) ys (entries ∷ front) behind left right = (left.0, have_join files kind xs ys front behind left.1 right)

-- ---- what a merge has still to give

-- the bytes that are ahead stay where the file's do
ahead_same : (before after : Option Files) (reader : ReaderView) → file_in after reader.run.file ≡ file_in before reader.run.file → known_ahead after reader ≡ known_ahead before reader
ahead_same None None reader same = refl
ahead_same None (Some a) reader same = cc same
ahead_same (Some b) None reader same = cc same
ahead_same (Some b) (Some a) reader same =
    let found : map.get a reader.run.file ≡ map.get b reader.run.file = cc same in
    ap (λ (o : Option (List ℕ)). Some (reader.kept.rest ++ drop reader.kept.at (take reader.run.bytes (unwrap_or o [])))) found

ahead_kept : (before after : Option Files) (reader : ReaderView) (rows : List (List (List ℕ))) → file_in after (run_of reader).file ≡ file_in before (run_of reader).file → IsAhead before reader rows → IsAhead after reader rows
ahead_kept before after reader rows same ahead = record {
  count = ahead.count;
  formed = ahead.formed;
  bytes = subst (λ (bytes : Option (List ℕ)). ArePage bytes rows) (sym (ahead_same before after reader same)) ahead.bytes;
}

left_kept : (before after : ℕ → Option Files) (reader : ReaderView) (head : Bool) (rows : List (List (List ℕ))) → IsSame before after (run_of reader) → IsLeft before reader head rows → IsLeft after reader head rows
left_kept before after reader true [] same left = left
left_kept before after reader true (row ∷ rows) same left = (left.0, ahead_kept _ _ reader rows same left.1)
left_kept before after reader false rows same left = ahead_kept _ _ reader rows same left

are_left_kept : (before after : ℕ → Option Files) (begun : Bool) (readers : List ReaderView) (heads : List Bool) (lists : List (List (List (List ℕ)))) → AllByRecursion (IsSame before after) (map run_of readers) → AreLeft before begun readers heads lists → AreLeft after begun readers heads lists
are_left_kept before after begun [] [] [] same left = tt
are_left_kept before after begun [] [] (rows ∷ lists) same left = absurd left
are_left_kept before after begun [] (head ∷ heads) lists same left = absurd left
are_left_kept before after begun (reader ∷ readers) [] lists same left = absurd left
are_left_kept before after begun (reader ∷ readers) (head ∷ heads) [] same left = absurd left
are_left_kept before after begun (reader ∷ readers) (head ∷ heads) (rows ∷ lists) same left =
    (left_kept before after reader head rows same.0 left.0, left.1, are_left_kept before after begun readers heads lists same.1 left.2)

pub to_come_kept : (before after : ℕ → Option Files) (merge : Merge) (entries : List Entry) → AllByRecursion (IsSame before after) (runs_of merge) → IsToCome before merge entries → IsToCome after merge entries
to_come_kept before after merge entries same come = record {
  lists = come.lists;
  left = are_left_kept before after false merge.readers.items merge.heads.items come.lists same come.left;
  formed = come.formed;
  ascend = come.ascend;
  are = come.are;
}
