-- The tokens of a text with their places, and what reading it gives.
-- This project's own.
use Rattle.std.specs.Prelude.{⊤, ◌≡◌, ℕ, zero, suc, ◌+◌, ◌-◌, List, [], ◌∷◌, length, nat_lt, if◌then◌else◌, Option, Some, None, Result, Ok, Err}
use Rattle.job_text.specs.declared.token.Token.{Token}
use Rattle.job_text.specs.declared.job.Job.{Job}
use Rattle.job_text.specs.declared.fault.JobFault.{JobFault}
use Rattle.job_text.specs.declared.fault.JobFault.TheVariants as faults
use Rattle.job_text.specs.declared.state.State.{State}
use Rattle.job_text.specs.Scan.{is_blank, token_at}
use Rattle.job_text.specs.Step.{step, start}
use Rattle.job_text.specs.Begins.{job_at}

-- the tokens, each with its place, and where one can't be read
pub record Scanned : Type 0 where
  pub tokens : List (Token × ℕ)
  pub stop : Option ℕ

-- a token in front
abbrev pub with_token : Token → ℕ → Scanned → Scanned
with_token t place scanned = record scanned { tokens = (t, place) ∷ scanned.tokens }

-- the token at a place, and then the rest behind the further bytes of the token
abbrev pub token_then : ℕ → Option (Token × ℕ) → (ℕ → Scanned) → Scanned
token_then place None rest = record { tokens = []; stop = Some place }
token_then place (Some found) rest = with_token found.0 place (rest (found.1 - 1))

-- the tokens from a place on; `skip` bytes belong to the token before
unfoldable pub scan : ℕ → ℕ → List ℕ → Scanned
scan skip place [] = record { tokens = []; stop = None }
scan (suc skip) place (b ∷ bytes) = scan skip (place + 1) bytes
scan zero place (b ∷ bytes) =
    if is_blank b then scan 0 (place + 1) bytes
    else token_then place (token_at (b ∷ bytes)) (λ skip. scan skip (place + 1) bytes)

-- at the end of the tokens: the job, or where the text stops
abbrev pub at_end : ℕ → Option ℕ → Option Job → Result Job ℕ
at_end len (Some place) job = Err place
at_end len None None = Err len
at_end len None (Some job) = Ok job

-- on from the next state, or refused
abbrev pub next_or : Option State → Result Job ℕ → (State → Result Job ℕ) → Result Job ℕ
next_or None refused rest = refused
next_or (Some s) refused rest = rest s

-- what the tokens lead to: a job, or the place of the refusal
unfoldable pub outcome : ℕ → State → List (Token × ℕ) → Option ℕ → Result Job ℕ
outcome len s [] stop = at_end len stop (job_at (Some s))
outcome len s (t ∷ ts) stop = next_or (step s t.0) (Err t.1) (λ next. outcome len next ts stop)

-- the same, of what was scanned
abbrev pub outcome_of : ℕ → State → Scanned → Result Job ℕ
outcome_of len s scanned = outcome len s scanned.tokens scanned.stop

-- the job of a text, or the place where it is refused
unfoldable pub read_of : List ℕ → Result Job ℕ
read_of text = if nat_lt 16384 (length text) then Err 16384 else outcome_of (length text) start (scan 0 0 text)

-- the fault is that refusal, or memory ran out
abbrev pub Refuses : JobFault → Result Job ℕ → Type 0
Refuses faults.NoMemory read = ⊤
Refuses (faults.BadJob place) read = read ≡ Err place

-- what a function returned is what reading gives, unless memory ran out
abbrev pub ReadsLike : Result Job JobFault → Result Job ℕ → Type 0
ReadsLike (Ok job) read = read ≡ Ok job
ReadsLike (Err fault) read = Refuses fault read
