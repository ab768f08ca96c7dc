use Rattle.std.proofs.Common.{ap, length, ◌∙◌}
use Rattle.row_page.proofs.Parts.{pieces_spell}
use Rattle.row_page.proofs.Lengths.{length-row_bytes}
use Rattle.row_page.proofs.Rows.{row_had}
use Rattle.row_page.proofs.row_view.RowView.bytes.Goals as goal

pub returns-clause-grammar : goal.returns-clause-grammar
returns-clause-grammar c = row_had _ c.args.self.now.formed

pub returns-clause-spelling : goal.returns-clause-spelling
returns-clause-spelling c = pieces_spell _ _ (row_had _ c.args.self.now.formed).pieces

pub returns-clause-length : goal.returns-clause-length
returns-clause-length c = ap length (pieces_spell _ _ (row_had _ c.args.self.now.formed).pieces) ∙ length-row_bytes _
