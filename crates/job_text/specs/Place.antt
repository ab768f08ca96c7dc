-- The place of a refusal, by what begins a job.
-- This project's own.
use Rattle.std.specs.Prelude.{⊤, ◌≡◌, ℕ, ◌<◌, ◌≤◌, List, [], ◌∷◌, ◌++◌, length, map, Option, Some, None}
use Rattle.job_text.specs.declared.token.Token.{Token}
use Rattle.job_text.specs.declared.job.Job.{Job}
use Rattle.job_text.specs.declared.fault.JobFault.{JobFault}
use Rattle.job_text.specs.declared.fault.JobFault.TheVariants as faults
use Rattle.job_text.specs.Begins.{job_of, LeadsToJob}
use Rattle.job_text.specs.Text.{scan}

-- the tokens without their places
abbrev pub only_tokens : List (Token × ℕ) → List Token
only_tokens ts = map (λ t. t.0) ts

-- the first token with which the tokens begin no job; where there is none, the byte that begins no token, or the end
pub data IsRefusedAt (len : ℕ) (tokens : List (Token × ℕ)) (stop : Option ℕ) (place : ℕ) : Type 0 where
  at_token : (before after : List (Token × ℕ)) (t : Token) → tokens ≡ before ++ (t, place) ∷ after
      → LeadsToJob (only_tokens before) → (LeadsToJob (only_tokens before ++ t ∷ []) → ⊥) → IsRefusedAt len tokens stop place
  at_stop : stop ≡ Some place → LeadsToJob (only_tokens tokens) → IsRefusedAt len tokens stop place
  at_end : stop ≡ None → LeadsToJob (only_tokens tokens) → job_of (only_tokens tokens) ≡ None → place ≡ len → IsRefusedAt len tokens stop place

-- the text's tokens are a job
pub record IsJobText (text : List ℕ) (job : Job) : Type 0 where
  pub short : length text ≤ 16384
  pub whole : (scan 0 0 text).stop ≡ None
  pub is : job_of (only_tokens (scan 0 0 text).tokens) ≡ Some job

-- the text is refused at this place
abbrev pub IsRefusal : List ℕ → ℕ → Type 0
IsRefusal text place =
    (16384 < length text → place ≡ 16384)
    × (length text ≤ 16384 → IsRefusedAt (length text) (scan 0 0 text).tokens (scan 0 0 text).stop place)

-- the text has this fault; memory may run out at any text
abbrev pub IsFaultOf : List ℕ → JobFault → Type 0
IsFaultOf text faults.NoMemory = ⊤
IsFaultOf text (faults.BadJob place) = IsRefusal text place
