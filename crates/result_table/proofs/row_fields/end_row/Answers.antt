use Rattle.result_table.proofs.RowFields.{ends_row}
use Rattle.result_table.proofs.row_fields.end_row.Goals.{in-Err, in-Ok}
use Rattle.result_table.proofs.row_fields.end_row.Goals as goal

pub returns : goal.returns
returns c = elim c.match-end_record.branch [
  | in-Ok w ↦
      let ended = w.in-Ok.ensures in
      rw w.result-is (ends_row c.args.writer.now c.end_record.new.self
      (record { text = ended.bytes; same = ended.same; fields = ended.fields; wrote = ended.wrote }))
  | in-Err w ↦ rw w.result-is tt
]
