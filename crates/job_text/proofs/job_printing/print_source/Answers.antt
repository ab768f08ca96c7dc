use Rattle.std.proofs.Common.{◌∙◌, ap}
use Rattle.job_text.specs.declared.token.Token.{Token}
use Rattle.job_text.specs.Sheets.{with_token, with_tokens}
use Rattle.job_text.proofs.Texts.{source_is}
use Rattle.job_text.proofs.job_printing.print_source.Goals as goal

pub returns : goal.returns
unfolding with_tokens
returns c = c.in_ok-word.ensures ∙ ap (λ (t : Token). with_token c.args.printer.now t) (source_is c.args.datasets.now c.args.number c.index-datasets-number.result c.if-number-eq0.false c.requires.there)
