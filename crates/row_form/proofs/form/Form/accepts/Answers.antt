use Rattle.row_page.specs.Views.{fields_in}
use Rattle.row_form.proofs.Formed.{row_formed}
use Rattle.row_form.proofs.form.Form.accepts.Goals as goal

pub returns : goal.returns
returns c = (
  λ yes. row_formed c.args.self.now c.args.greatest c.bytes.result.now (fields_in c.args.row) c.bytes.ensures.grammar (c.takes.ensures.0 yes),
  λ formed. c.takes.ensures.1 (fields_in c.args.row, c.bytes.ensures.grammar, formed),
)
