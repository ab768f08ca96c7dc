-- Posts whose disks are those of other posts: what holds of the ones holds of the others.
use Rattle.std.proofs.Common.{◌≡◌, ◌∙◌, ℕ, ◌≤◌, List, [], ◌∷◌, Option, Some, None, Result, Ok, Err, map, sym, ap, subst, arith}
use Rattle.std.specs.Prelude.{slice_get}
use Rattle.std.specs.Global.{Vec}
use Rattle.std.specs.Option.{option_map, option_map_or, option_and_then}
use Rattle.std.proofs.lemmas.Option.{slice_get-map}
use Rattle.aggregate.specs.Totals.{Entry, total}
use Rattle.aggregate.specs.declared.kind.Kind.{Kind}
use Rattle.spill_disk.specs.Files.{Files}
use Rattle.run_file.specs.declared.run.Run.{Run}
use Rattle.run_file.specs.Several.{HasEntries, HaveEntries, concatenated}
use Rattle.task_memory.specs.RunLists.{runs_at}
use Rattle.task_runner.specs.Answers.{HasCauseAmong}
use Rattle.task_runner.specs.Finals.{HasMerged, HaveLists, MergeTotals}
use Rattle.task_runner.specs.PassViews.{PassView}
use Rattle.task_runner.specs.Queries.{kind_in}
use Rattle.task_runner.specs.Workers.{answer_at}
use Rattle.task_runner.specs.declared.post.Post.{Post}
use Rattle.task_runner.specs.declared.work_fault.WorkFault.{WorkFault}
use Rattle.task_runner.specs.declared.work_fault.WorkFault.TheVariants.{NoRoom, DiskFault, Damaged, NoMemory}
use Rattle.csv_program.specs.Posts.{post_faults, post_files}

-- what is at a place of two lists that are alike in a part
pub part_alike : {P X : Type 0} (own : P → X) (xs ys : List P) → map own xs ≡ map own ys → (i : ℕ) → option_map own (slice_get xs i) ≡ option_map own (slice_get ys i)
part_alike {P = P} {X = X} own xs ys same i = sym (slice_get-map own xs i) ∙ ap (λ (zs : List X). slice_get zs i) same ∙ slice_get-map own ys i

pub files_alike : {D C : Type 0} (files : D → Option Files) (some other : Vec (Post D C)) → map (λ post. post.disk) some.items ≡ map (λ post. post.disk) other.items → (i : ℕ) → post_files files some i ≡ post_files files other i
files_alike {D = D} {C = C} files some other same i = ap (λ (disk : Option D). option_and_then files disk) (part_alike (λ post. post.disk) some.items other.items same i)

pub faults_alike : {D C : Type 0} (faults : D → ℕ) (some other : Vec (Post D C)) → map (λ post. post.disk) some.items ≡ map (λ post. post.disk) other.items → (i : ℕ) → post_faults faults some i ≡ post_faults faults other i
faults_alike {D = D} {C = C} faults some other same i = ap (λ (disk : Option D). option_map_or faults disk 0) (part_alike (λ post. post.disk) some.items other.items same i)

-- ---- files that are the same

pub have_alike : (files files' : ℕ → Option Files) (kind : Kind) (runs : List Run) (lists : List (List Entry)) → ((i : ℕ) → files' i ≡ files i) → HaveEntries files kind runs lists → HaveEntries files' kind runs lists
have_alike files files' kind [] [] same have = tt
have_alike files files' kind (run ∷ runs) (entries ∷ lists) same have =
    (subst (λ (f : Option Files). HasEntries f kind run entries) (sym (same run.disk)) have.0, have_alike files files' kind runs lists same have.1)
have_alike files files' kind [] (entries ∷ lists) same have = absurd have
have_alike files files' kind (run ∷ runs) [] same have = absurd have

pub lists_alike : (files files' : ℕ → Option Files) (pass : PassView) (lists : List (List Run)) (entries : ℕ → List (List Entry)) → ((i : ℕ) → files' i ≡ files i) → HaveLists files pass lists entries → HaveLists files' pass lists entries
lists_alike files files' pass lists entries same have i query = have_alike files files' (kind_in pass.plan pass.queries i) (runs_at lists i) (entries i) same (have i query)

merged_alike : (files files' : ℕ → Option Files) (kind : Kind) (lists : List (List Entry)) (answer : Option Run) → ((i : ℕ) → files' i ≡ files i) → HasMerged files kind lists answer → HasMerged files' kind lists answer
merged_alike files files' kind lists None same merges = merges
merged_alike files files' kind lists (Some run) same merges = subst (λ (f : Option Files). HasEntries f kind run (total kind (concatenated lists))) (sym (same run.disk)) merges

pub merges_alike : (files files' : ℕ → Option Files) (pass : PassView) (entries : ℕ → List (List Entry)) (result : Result (Vec (Option Run)) WorkFault) → ((i : ℕ) → files' i ≡ files i) → MergeTotals files pass entries result → MergeTotals files' pass entries result
merges_alike files files' pass entries (Ok answers) same merges = λ i query. merged_alike files files' (kind_in pass.plan pass.queries i) (entries i) (answer_at answers.items i) same (merges i query)
merges_alike files files' pass entries (Err (NoRoom asked held floor)) same merges = tt
merges_alike files files' pass entries (Err (DiskFault post)) same merges = tt
merges_alike files files' pass entries (Err (Damaged damage)) same merges = merges
merges_alike files files' pass entries (Err NoMemory) same merges = tt

-- ---- why a call gave up

pub cause_around : {T : Type 0} (before mid mid' after : ℕ → ℕ) (answer : Result T WorkFault) → ((i : ℕ) → before i ≤ mid i) → ((i : ℕ) → mid' i ≤ after i) → HasCauseAmong mid mid' answer → HasCauseAmong before after answer
cause_around before mid mid' after (Ok x) first last cause = tt
cause_around before mid mid' after (Err (NoRoom asked held floor)) first last cause = tt
cause_around before mid mid' after (Err (DiskFault post)) first last cause = let low = first post in let high = last post in omega (arith, low, high, cause)
cause_around before mid mid' after (Err (Damaged damage)) first last cause = cause
cause_around before mid mid' after (Err NoMemory) first last cause = tt
