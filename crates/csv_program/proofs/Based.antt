-- What is said of the rows of cached blocks is so, and is said of each where all disks tell.
use Rattle.std.proofs.Common.{◌≡◌, ◌∙◌, ℕ, zero, suc, ◌+◌, ◌-◌, ◌*◌, ◌≤◌, ◌<◌, ◌%◌, false, List, [], ◌∷◌, Option, Some, None, length, map, take, drop, refl, sym, ap, subst, inl, inr, arith}
use Rattle.std.specs.Prelude.{IsSome, is_some, not, slice_get}
use Rattle.std.specs.List.{list_all}
use Rattle.std.specs.Option.{option_and_then, option_map}
use Rattle.std.proofs.Math.Nat.{mod-lt}
use Rattle.std.proofs.lemmas.Bool.{cases_Bool}
use Rattle.row_page.proofs.Shown.{rows_shown}
use Rattle.spill_disk.specs.Files.{Files, bytes_of}
use Rattle.row_form.specs.Forms.{HasForm}
use Rattle.run_file.specs.Runs.{Stands}
use Rattle.run_file.specs.declared.run.Run.{Run}
use Rattle.run_file.specs.Several.{run_at}
use Rattle.row_filter.specs.Chains.{base_of, level_at}
use Rattle.row_filter.specs.Derived.{derived}
use Rattle.row_filter.specs.declared.chain.Link.{Link}
use Rattle.job_plan.specs.Columns.{Fields}
use Rattle.job_plan.specs.Moved.{link_over}
use Rattle.job_plan.specs.Plans.{IsPlanOf, chain_in, form_in}
use Rattle.job_plan.specs.declared.query_plan.Plan.{Plan}
use Rattle.job_text.specs.declared.job.Dataset.{Dataset}
use Rattle.job_text.specs.declared.job.Job.{Job}
use Rattle.landing.specs.Landed.{AreChecked, AreLanded, partition_of}
use Rattle.lineage.specs.Standing.{HoldsInput, SaysKept}
use Rattle.csv_program.specs.Basis.{StandAs, rows_on, said_by}
use Rattle.job_ending.specs.Calls.{keeps_none}
use Rattle.job_ending.specs.Posts.{AllTell}
use Rattle.csv_program.specs.QueryResults.{SaysParts, lineage_in}
use Rattle.job_ending.specs.declared.call.RunCall.{RunCall}
use Rattle.csv_program.proofs.ToldTotals.{all_drop, all_take}

-- ---- one partition

-- a run that stands is read as its rows
stands_on : (files : Option Files) (run : Run) (rows : List Fields) → Stands files run rows → rows_on files run ≡ Some rows
stands_on None run rows stands = absurd stands
stands_on (Some files) run rows stands = ap Some (rows_shown (take run.bytes (bytes_of files run.file)) rows stands.1)

-- where the store disk tells, the rows of each dataset are said of a partition that is read
says_on : (store : Option Files) (files : ℕ → Option Files) (plan : Plan) (parts : List Run) (workers name part : ℕ) (rows : List Fields) → IsSome store → rows_on (files (part % workers)) (run_at parts part) ≡ Some rows
    → said_by store files plan parts workers name part ≡ Some (derived (chain_in plan) (name - base_of (chain_in plan)) rows)
says_on None files plan parts workers name part rows tells is = absurd (cc tells)
says_on (Some store) files plan parts workers name part rows tells is = ap (option_map (derived (chain_in plan) (name - base_of (chain_in plan)))) is

-- what is said is said where both disks tell
said_tells : (store : Option Files) (files : ℕ → Option Files) (plan : Plan) (parts : List Run) (workers name part : ℕ) (rows : List Fields) → said_by store files plan parts workers name part ≡ Some rows → IsSome store × IsSome (files (part % workers))
said_tells None files plan parts workers name part rows is = absurd (let none : None ≡ Some rows = is in cc none)
said_tells (Some store) files plan parts workers name part rows is = (refl, by (files (part % workers)) is)
  where
    by : (on : Option Files) → option_map (derived (chain_in plan) (name - base_of (chain_in plan))) (rows_on on (run_at parts part)) ≡ Some rows → IsSome on
    by None is = absurd (let none : None ≡ Some rows = is in cc none)
    by (Some on) is = refl

some_is : {X : Type 0} (found : Option X) (x : X) → found ≡ Some x → IsSome found
some_is found x is = ap is_some is

-- ---- all partitions

module _ (files : ℕ → Option Files) (plan : Plan) (parts : List Run) (part_rows workers : ℕ) (rows : List Fields) (landed : AreLanded files part_rows workers parts rows) (checked : AreChecked (form_in plan) rows) where
  abbrev input : ℕ → List Fields
  input part = partition_of part_rows part rows

  holds : (part : ℕ) → part < length parts → IsSome (files (part % workers)) → HoldsInput (files (part % workers)) (lineage_in plan parts part_rows) part (input part)
  holds part within tells = record {
    stands = landed.stand part within tells;
    formed = all_take (HasForm (form_in plan)) part_rows (drop (part * part_rows) rows) (all_drop (HasForm (form_in plan)) (part * part_rows) rows checked.formed);
  }

  name_back : (base dataset : ℕ) → base + dataset - base ≡ dataset
  name_back base dataset = omega arith

  says_kept : (store : Option Files) (part : ℕ) → part < length parts → IsSome store → IsSome (files (part % workers)) → SaysKept (said_by store files plan parts workers) (chain_in plan) part
  says_kept store part within stored tells dataset there kept =
      some_is _ _ (says_on store files plan parts workers (base_of (chain_in plan) + dataset) part (input part) stored
      (stands_on (files (part % workers)) (run_at parts part) (input part) (landed.stand part within tells)))

  pub says_parts : (store : Option Files) → SaysParts files (said_by store files plan parts workers) plan parts part_rows workers
  says_parts store part within dataset found some there is =
      let tells = said_tells store files plan parts workers (base_of (chain_in plan) + dataset) part found is in
      let said = says_on store files plan parts workers (base_of (chain_in plan) + dataset) part (input part) tells.0
      (stands_on (files (part % workers)) (run_at parts part) (input part) (landed.stand part within tells.1)) in
      let both : Some found ≡ Some (derived (chain_in plan) (base_of (chain_in plan) + dataset - base_of (chain_in plan)) (input part)) = sym is ∙ said in
      let same : found ≡ derived (chain_in plan) (base_of (chain_in plan) + dataset - base_of (chain_in plan)) (input part) = cc both in
      record {
        input = input part;
        holds = holds part within tells.1;
        rows_are = same ∙ ap (λ (d : ℕ). derived (chain_in plan) d (input part)) (name_back (base_of (chain_in plan)) dataset);
        kept = says_kept store part within tells.0 tells.1;
      }

  -- where the posts' disks tell, and the store disk, if it is needed
  pub says_all : (store : Option Files) → 1 ≤ workers → ((place : ℕ) → place < workers → IsSome (files place)) → ((dataset : ℕ) → IsSome (level_at (chain_in plan) dataset) → IsSome store)
      → (part : ℕ) → part < length parts → SaysKept (said_by store files plan parts workers) (chain_in plan) part
  says_all store some tell needs part within dataset there kept = says_kept store part within (needs dataset kept) (tell (part % workers) (mod-lt part some)) dataset there kept

pub none_said : (store : Option Files) (files : ℕ → Option Files) (plan : Plan) (parts : List Run) (workers : ℕ) → is_some store ≡ false → (name part : ℕ) → said_by store files plan parts workers name part ≡ None
none_said None files plan parts workers none name part = refl
none_said (Some store) files plan parts workers none name part = absurd (cc none)

-- ---- jobs that keep a dataset

keeps_some : (place : ℕ → ℕ) (datasets : List Dataset) (n : ℕ) → IsSome (option_and_then (λ link. link.level) (slice_get (map (link_over place) datasets) n)) → list_all (λ dataset. not (is_some dataset.level)) datasets ≡ false
keeps_some place [] n kept = absurd (cc kept)
keeps_some place (dataset ∷ datasets) zero kept = rw kept refl
keeps_some place (dataset ∷ datasets) (suc n) kept = elim (cases_Bool (is_some dataset.level)) [
  | inl level ↦ rw level refl
  | inr none ↦ rw none (keeps_some place datasets n kept)
]

-- a plan's kept dataset is one of its job
pub keeps_of : (job : Job) (header : Fields) (plan : Plan) → IsPlanOf job header plan → (dataset : ℕ) → IsSome (level_at (chain_in plan) dataset) → keeps_none job ≡ false
keeps_of job header plan planned zero kept = absurd (cc kept)
keeps_of job header plan planned (suc before) kept =
    keeps_some _ job.datasets before (subst (λ (links : List Link). IsSome (option_and_then (λ link. link.level) (slice_get links before))) planned.links kept)

-- ---- a run's posts

-- where the posts' disks tell, and the store disk, if a dataset is kept, what landed stands as it is
pub stand_as : (store : Option Files) (before files : ℕ → Option Files) (asked : RunCall) (header : Fields) (plan : Plan) (parts : List Run) (rows : List Fields) → 1 ≤ asked.pool.workers → IsPlanOf asked.job header plan
    → AreLanded files asked.part_rows asked.pool.workers parts rows → AreChecked (form_in plan) rows → ((place : ℕ) → is_some (files place) ≡ is_some (before place)) → AllTell asked before store
    → StandAs (said_by store files plan parts asked.pool.workers) files asked plan parts rows
stand_as store before files asked header plan parts rows some planned landed checked same tell =
    let tells : (place : ℕ) → place < asked.pool.workers → IsSome (files place) = λ place below. same place ∙ tell.posts place below in
    record {
      tell = tells;
      landed = landed;
      checked = checked;
      says = says_all files plan parts asked.part_rows asked.pool.workers rows landed checked store some tells (λ dataset kept. tell.keeps (keeps_of asked.job header plan planned dataset kept));
    }
