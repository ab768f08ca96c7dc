use Rattle.result_table.proofs.RowFields.{puts_field}
use Rattle.result_table.proofs.row_fields.put_field.Goals.{in-Err, in-Ok}
use Rattle.result_table.proofs.row_fields.put_field.Goals as goal

pub returns : goal.returns
returns c = elim c.match-write_field.branch [
  | in-Ok w ↦
      let put = w.in-Ok.ensures in
      rw w.result-is (puts_field c.args.writer.now c.write_field.new.self c.args.field.now
      (record { text = put.text; same = put.same; count = put.count; wrote = put.wrote; stays = put.stays }))
  | in-Err w ↦ rw w.result-is tt
]
