use Rattle.std.proofs.Common.{rules, length, sym}
use Rattle.row_page.specs.Views.{fields_in}
use Rattle.row_filter.specs.declared.filter.Filter.{the_lemmas}
use Rattle.row_filter.specs.Rows.{column_in}
use Rattle.row_filter.proofs.Meanings.{keeps-and, keeps-or}
use Rattle.row_filter.proofs.Columns.{and_covered, or_covered, test_covered}
use Rattle.row_filter.proofs.keeping.+keep.Goals as goal

pub is_kept-field-requires : goal.is_kept-field-requires
is_kept-field-requires t c = test_covered (length (fields_in c.args.row.now)) c.in-Test.column c.in-Test.test c.in-Test.constant (rw c.in-Test.is at c.requires.covers)

pub is_kept-all_keep-requires : goal.is_kept-all_keep-requires
is_kept-all_keep-requires t c = (
  search (rules, the_lemmas),
  rw c.items.ensures (and_covered (length (fields_in c.args.row.now)) c.in-And.parts (rw c.in-And.is at c.requires.covers)),
)

pub is_kept-some_keeps-requires : goal.is_kept-some_keeps-requires
is_kept-some_keeps-requires t c = (
  search (rules, the_lemmas),
  rw c.items-in-Or.ensures (or_covered (length (fields_in c.args.row.now)) c.in-Or.parts (rw c.in-Or.is at c.requires.covers)),
)

pub is_kept-returns-in-And : goal.is_kept-returns-in-And
is_kept-returns-in-And t c = rw (c.all_keep.ensures, c.items.ensures, c.in-And.is) (sym (keeps-and (column_in (fields_in c.args.row.now)) c.in-And.parts))

pub is_kept-returns-in-Or : goal.is_kept-returns-in-Or
is_kept-returns-in-Or t c = rw (c.some_keeps.ensures, c.items-in-Or.ensures, c.in-Or.is) (sym (keeps-or (column_in (fields_in c.args.row.now)) c.in-Or.parts))
