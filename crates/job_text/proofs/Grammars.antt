-- Reading is by the grammar, and each job that is read has what each job has.
use Rattle.std.proofs.Common.{◌≡◌, ℕ, List, Some, Option, Result, Ok, Err, sym, ap, subst, ◌∙◌}
use Rattle.std.specs.Prelude.{IfOk, All}
use Rattle.job_text.specs.declared.token.Token.{Token}
use Rattle.job_text.specs.declared.job.Job.{Job}
use Rattle.job_text.specs.declared.fault.JobFault.{JobFault}
use Rattle.job_text.specs.Begins.{job_of}
use Rattle.job_text.specs.Meaning.{job_meant, SpellsJob}
use Rattle.job_text.specs.Jobs.{IsJob}
use Rattle.job_text.specs.Laws.{ReadsTheGrammar, HasOneMeaning}
use Rattle.job_text.specs.Place.{only_tokens, IsJobText}
use Rattle.job_text.specs.Text.{ReadsLike, read_of, scan}
use Rattle.job_text.proofs.Meant.{job_is}
use Rattle.job_text.proofs.Places.{found_of}
use Rattle.job_text.proofs.Ranged.{IsOfText, scanned_of_text}
use Rattle.job_text.proofs.Sound.{read_written}
use Rattle.job_text.proofs.Written.{written_read}

same_job : (one other : Job) → let a : Option Job = Some one in a ≡ Some other → one ≡ other
same_job one other e = cc

is_written : (tokens : List Token) (job : Job) → job_of tokens ≡ Some job → SpellsJob tokens job
is_written tokens job e =
    let w = read_written tokens job e in
    record { written = w.0; spelled = w.1; right = w.2; meant = same_job job (job_meant w.0) (sym e ∙ ap job_of w.1 ∙ written_read w.0 w.2) }

is_read : (tokens : List Token) (job : Job) → SpellsJob tokens job → job_of tokens ≡ Some job
is_read tokens job h = ap job_of h.spelled ∙ written_read h.written h.right ∙ ap (λ (j : Job). Some j) (sym h.meant)

pub reads_the_grammar : ReadsTheGrammar
reads_the_grammar tokens job = (is_written tokens job, is_read tokens job)

pub one_meaning : HasOneMeaning
one_meaning tokens one other h g = same_job one other (sym (is_read tokens one h) ∙ is_read tokens other g)

-- ---- what a function returned

whole_job : (text : List ℕ) (job : Job) → IsJobText text job → IsJob job
whole_job text job h =
    let ts = only_tokens (scan 0 0 text).tokens in
    let w = is_written ts job h.is in
    subst IsJob (sym w.meant) (job_is w.written w.right (subst (All IsOfText) w.spelled (scanned_of_text text 0 0)))

pub whole_of : (text : List ℕ) (r : Result Job JobFault) → ReadsLike r (read_of text) → IfOk r IsJob
whole_of text r h = on r (found_of text r h)
  where
    on : (r : Result Job JobFault) → IfOk r (λ job. IsJobText text job) → IfOk r IsJob
    on (Ok job) f = whole_job text job f
    on (Err fault) f = tt
