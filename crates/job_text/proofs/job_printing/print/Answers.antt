use Rattle.std.proofs.Common.{◌≡◌, ◌≤◌, ◌∙◌, ℕ, List, length, sym, ap, subst}
use Rattle.job_text.specs.declared.mark.Mark.TheVariants as marks
use Rattle.job_text.specs.Columns.{dataset_names}
use Rattle.job_text.specs.Grammar.{ended_by, separated}
use Rattle.job_text.specs.JobPrinting.{dataset_tokens, query_tokens, printed, job_tokens}
use Rattle.job_text.specs.Sheets.{Sheet, blank_sheet, with_tokens}
use Rattle.job_text.specs.Place.{IsJobText}
use Rattle.job_text.proofs.Printable.{printed_again}
use Rattle.job_text.proofs.Texts.{text_of, with_tokens-append}
use Rattle.job_text.proofs.job_printing.print.Goals as goal

text_is : goal.returns-clause-text
unfolding printed
text_is c =
    let job = c.args.job.now in
    let all = dataset_names job.datasets in
    let made = ended_by marks.Semicolon (dataset_tokens job.names all) job.datasets in
    let queries = separated marks.Semicolon (query_tokens job.names all) job.queries in
    let written : c.print_queries.new.printer ≡ with_tokens blank_sheet (job_tokens job) =
    rw (c.in_ok-print_queries.ensures, c.in_ok-print_datasets.ensures, c.new-printer.ensures, c.items-names.ensures, c.items-datasets.ensures, c.items.ensures) (sym (with_tokens-append made queries blank_sheet)) in
    c.into_text.ensures ∙ ap (λ (s : Sheet). s.text) written ∙ text_of (job_tokens job)

pub returns-clause-text : goal.returns-clause-text
returns-clause-text c = text_is c

pub returns-clause-again : goal.returns-clause-again
returns-clause-again c = λ short.
    let job = c.args.job.now in
    let text = text_is c in
    subst (λ (l : List ℕ). IsJobText l job) (sym text) (printed_again job c.requires.whole (subst (λ (l : List ℕ). length l ≤ 16384) text short))
