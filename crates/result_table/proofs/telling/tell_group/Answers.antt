use Rattle.std.proofs.Common.{◌++◌, [], length, map}
use Rattle.job_plan.specs.Telling.{key_fields, told_field, value_partials}
use Rattle.result_table.specs.Table.{text_in}
use Rattle.result_table.proofs.RowFields.{in_row}
use Rattle.result_table.proofs.telling.tell_group.Goals as goal

pub returns-clause-row : goal.returns-clause-row
returns-clause-row c told =
    let start = text_in c.args.writer.now in
    let keys = key_fields c.args.columns c.args.key.now in
    let numbers = map told_field (value_partials (length c.args.aggs.now) c.args.value.now) in
    c.in_ok-end_row.ensures start (keys ++ numbers)
    (c.in_ok-put_numbers.ensures.row c.if-not-branch-2.false start keys
    (c.in_ok-put_key.ensures.row c.if-not-branch.false start [] (in_row c.args.writer.now c.requires.between)))
