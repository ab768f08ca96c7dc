-- Which lists of tokens are a job, and which begin one.
-- This project's own.
use Rattle.std.specs.Prelude.{List, [], ◌∷◌, ◌++◌, Option, Some, None, All, IsSome, option_and_then}
use Rattle.job_text.specs.declared.token.Token.{Token}
use Rattle.job_text.specs.declared.job.Job.{Job}
use Rattle.job_text.specs.declared.job.Query.{Query}
use Rattle.job_text.specs.declared.state.Read.{Read}
use Rattle.job_text.specs.declared.state.State.{State}
use Rattle.job_text.specs.Scan.{IsSpelled}
use Rattle.job_text.specs.Step.{step, last_query, start}

-- what the tokens lead to
unfoldable pub steps : State → List Token → Option State
steps s [] = Some s
steps s (t ∷ ts) = option_and_then (λ next. steps next ts) (step s t)

-- the job, with the query at hand as its last
abbrev pub job_with : Read → Option Query → Option Job
job_with r None = None
job_with r (Some query) = Some (record { names = r.names; datasets = r.datasets; queries = r.queries ++ query ∷ [] })

-- the job that ends here, where one may
abbrev pub job_at : Option State → Option Job
job_at None = None
job_at (Some s) = job_with s.read (last_query s.at)

-- the job of these tokens, where they are one
abbrev pub job_of : List Token → Option Job
job_of ts = job_at (steps start ts)

-- some tokens that a text may have go on from these to a job
abbrev pub LeadsToJob : List Token → Type 0
LeadsToJob ts = (rest : List Token) × All IsSpelled rest × IsSome (job_of (ts ++ rest))
