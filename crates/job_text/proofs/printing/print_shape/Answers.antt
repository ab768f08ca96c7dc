use Rattle.std.proofs.Common.{length}
use Rattle.job_text.specs.declared.mark.Mark.TheVariants as marks
use Rattle.job_text.specs.declared.token.Token.TheVariants.{Fixed}
use Rattle.job_text.specs.Grammar.{separated}
use Rattle.job_text.specs.Printing.{key_tokens, part_tokens, place_tokens}
use Rattle.job_text.proofs.Texts.{keys_named, two_lists}
use Rattle.job_text.proofs.printing.print_shape.Goals as goal

pub print_keys-requires : goal.print_keys-requires
print_keys-requires c =
    let fine = rw c.in-Order.is at c.requires.fine in
    record { named = rw c.items-in-Order.ensures (keys_named (length c.args.names.now) c.in-Order.keys fine.0.named) }

pub returns-in_ok-print_parts-in-Group : goal.returns-in_ok-print_parts-in-Group
returns-in_ok-print_parts-in-Group c =
    let names = c.args.names.now in
    rw (c.in_ok-print_parts-in-Group.ensures, c.in_ok-mark-in-Group-2.ensures, c.in_ok-print_columns-in-Group.ensures, c.in_ok-mark-in-Group.ensures, c.items.ensures, c.items-in-Group.ensures, c.in-Group.is)
    (two_lists c.args.printer.now (Fixed marks.Group) (Fixed marks.Colon) (separated marks.Comma (place_tokens names) c.in-Group.columns) (separated marks.Comma (part_tokens names) c.in-Group.parts))

pub returns-in_ok-print_columns-in-Order : goal.returns-in_ok-print_columns-in-Order
returns-in_ok-print_columns-in-Order c =
    let names = c.args.names.now in
    rw (c.in_ok-print_columns-in-Order.ensures, c.in_ok-mark-in-Order-2.ensures, c.in_ok-print_keys-in-Order.ensures, c.in_ok-mark-in-Order.ensures, c.items-in-Order.ensures, c.items-in-Order-2.ensures, c.in-Order.is)
    (two_lists c.args.printer.now (Fixed marks.Order) (Fixed marks.Colon) (separated marks.Comma (key_tokens names) c.in-Order.keys) (separated marks.Comma (place_tokens names) c.in-Order.columns))
