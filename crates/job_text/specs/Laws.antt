-- What holds of the language as a whole.
-- This project's own.
use Rattle.std.specs.Prelude.{◌≡◌, ◌↔◌, List, Some}
use Rattle.job_text.specs.declared.token.Token.{Token}
use Rattle.job_text.specs.declared.job.Job.{Job}
use Rattle.job_text.specs.Begins.{job_of}
use Rattle.job_text.specs.Meaning.{SpellsJob}
use Rattle.job_text.specs.Jobs.{IsJob}
use Rattle.job_text.specs.JobPrinting.{job_tokens}

-- tokens are read as a job exactly where the grammar has them as that job
abbrev pub ReadsTheGrammar : Type 0
ReadsTheGrammar = (tokens : List Token) (job : Job) → (job_of tokens ≡ Some job) ↔ SpellsJob tokens job

-- the grammar has tokens as one job at most
abbrev pub HasOneMeaning : Type 0
HasOneMeaning = (tokens : List Token) (one other : Job) → SpellsJob tokens one → SpellsJob tokens other → one ≡ other

-- the printed tokens of a job are read as that job
abbrev pub ReadsThePrinted : Type 0
ReadsThePrinted = (job : Job) → IsJob job → job_of (job_tokens job) ≡ Some job
