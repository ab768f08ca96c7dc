-- What a call is for, where it is of a run and where it isn't.
use Rattle.std.proofs.Common.{◌≡◌, ◌∙◌, ℕ, Option, None, sym, subst, inl}
use Rattle.std.specs.Prelude.{◌⊎◌, IfSome}
use Rattle.landing.specs.Landed.{IsOfInput}
use Rattle.landing.specs.declared.fault.LandFault.{LandFault}
use Rattle.job_ending.specs.Calls.{Call, ForNoRun, ForRun, IsWhyNot, NoCall, NoHeap, NoJob, Runs, TellsCall}
use Rattle.job_ending.specs.Endings.{Ending, MayEndAs, status_of}
use Rattle.job_ending.specs.Statuses.{IsDamaged, IsDamagedOn, IsJudged, IsUnlanded}
use Rattle.job_ending.specs.declared.call.RunCall.{RunCall}
use Rattle.job_ending.specs.declared.status.Status.{Status}
use Rattle.job_ending.specs.declared.status.Status.TheVariants as status
use Rattle.csv_program.proofs.Judged.{comes_before, unlanded_refuses_nothing}

-- ---- a call of a run

pub for_run : (call : Call) (asked : RunCall) (P : RunCall → Type 0) → call ≡ Runs asked → P asked → ForRun call P
for_run call asked P is holds = subst (λ (c : Call). ForRun c P) (sym is) holds

pub no_run_not : (call : Call) (asked : RunCall) (P : Type 0) → call ≡ Runs asked → ForNoRun call P
no_run_not call asked P is = subst (λ (c : Call). ForNoRun c P) (sym is) _

pub tells_run : (call : Call) (asked : RunCall) (ended : Status) → call ≡ Runs asked → IsJudged ended → TellsCall call ended
tells_run call asked ended is judged = subst (λ (c : Call). TellsCall c ended) (sym is) judged

-- ---- a call of none

pub for_no_run : (call : Call) (P : Type 0) → P → ForNoRun call P
for_no_run NoCall P holds = holds
for_no_run (NoJob place) P holds = holds
for_no_run NoHeap P holds = holds
for_no_run (Runs asked) P holds = _

pub tells_why : (call : Call) (ended : Status) → IsWhyNot call ended → TellsCall call ended
tells_why NoCall ended why = why
tells_why (NoJob place) ended why = why
tells_why NoHeap ended why = why
tells_why (Runs asked) ended why = subst IsJudged (sym why) _

-- a run for which memory was wanting
pub for_none : (call : Call) (ended : Status) (P : RunCall → Type 0) → IsWhyNot call ended → ((asked : RunCall) → ended ≡ status.NoMemory → P asked) → ForRun call P
for_none NoCall ended P why each = _
for_none (NoJob place) ended P why each = _
for_none NoHeap ended P why each = _
for_none (Runs asked) ended P why each = each asked why

-- ---- what holds where memory was wanting

is_unlanded : (ended : Status) → ended ≡ status.NoMemory → IsUnlanded ended
is_unlanded ended is = subst IsUnlanded (sym is) _

pub wanting_before : (ending : Ending) (ended : Status) → ended ≡ status.NoMemory → MayEndAs ending ended
wanting_before ending ended is = inl (comes_before ending ended (is_unlanded ended is))

pub wanting_refused : (why : LandFault) (ended : Status) → ended ≡ status.NoMemory → IsUnlanded ended ⊎ (ended ≡ status_of why)
wanting_refused why ended is = inl (is_unlanded ended is)

pub wanting_calls_nothing : (why : LandFault) (ended : Status) → ended ≡ status.NoMemory → IsOfInput why → ended ≡ status_of why → ⊥
wanting_calls_nothing why ended is of_input tells = unlanded_refuses_nothing why ended (is_unlanded ended is) of_input tells

pub wanting_undamaged_on : (ended : Status) (P : ℕ → Type 0) → ended ≡ status.NoMemory → IsDamagedOn ended P
wanting_undamaged_on ended P is = subst (λ (s : Status). IsDamagedOn s P) (sym is) _

pub wanting_undamaged : (ended : Status) (P : ℕ → ℕ → Type 0) → ended ≡ status.NoMemory → IsDamaged ended P
wanting_undamaged ended P is = subst (λ (s : Status). IsDamaged s P) (sym is) _

pub wanting_not_done : (ended : Status) → ended ≡ status.NoMemory → ended ≡ status.Done → ⊥
wanting_not_done ended is done = let both : status.NoMemory ≡ status.Done = sym is ∙ done in cc both

pub none_has : {A : Type 0} (o : Option A) (P : A → Type 0) → o ≡ None → IfSome o P
none_has o P is = subst (λ (x : Option _). IfSome x P) (sym is) _
