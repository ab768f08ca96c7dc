use Rattle.std.proofs.Common.{◌∙◌, ap}
use Rattle.row_form.specs.declared.form.Form.TheVariants.{Entries}
use Rattle.result_table.proofs.Ahead.{begins_with}
use Rattle.result_table.proofs.entry_reader.EntryReader.new.Goals as goal

pub returns-clause-begins : goal.returns-clause-begins
returns-clause-begins c files entries has =
    begins_with c.args.kind.now c.args.run.now _ c.new.ensures.run (c.new.ensures.form ∙ ap Entries c.in_ok-copy.ensures) c.new.ensures.begins files entries has
