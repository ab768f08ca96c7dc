use Rattle.std.proofs.Common.{rules, ◌≡◌, sym, subst, length, IfOk}
use Rattle.row_filter.specs.declared.filter.Filter.{the_lemmas}
use Rattle.job_text.specs.declared.mark.Mark.TheVariants as marks
use Rattle.job_text.specs.Grammar.{optional}
use Rattle.job_text.specs.FilterPrinting.{printed_filter, printed_in, constant_token}
use Rattle.job_text.specs.Sheets.{Sheet, with_token, with_tokens}
use Rattle.job_text.proofs.Texts.{with_tokens-nil}
use Rattle.job_text.proofs.FilterTexts.{nth_written, item_named, test_named, test_text, not_text, and_text, or_text}
use Rattle.job_text.proofs.filter_printing.+print_nested.Goals as goal

pub print_items-loop-i-init : goal.print_items-loop-i-init
print_items-loop-i-init t c = record { written = sym (with_tokens-nil c.args.printer.now) }

pub print_items-print_as-requires : goal.print_items-print_as-requires
print_items-print_as-requires t c = (
  search (rules, the_lemmas),
  item_named (length c.args.names.now) c.args.items.now c.loop-i.i c.index-items-i.result c.loop-i-test.true c.index-items-i.is c.requires.named,
)

pub print_items-loop-i-preserved : goal.print_items-loop-i-preserved
print_items-loop-i-preserved t c = record {
  written = rw (c.in_ok-print_as.ensures, c.in_ok-print_sign.ensures, c.loop-i.invariant.written)
      (nth_written c.args.names.now c.args.sign c.args.as_units c.args.printer.now c.args.items.now c.loop-i.i c.index-items-i.result c.loop-i-test.true c.index-items-i.is);
}

pub print_as-print_column-requires : goal.print_as-print_column-requires
print_as-print_column-requires t c = record {
  named = test_named (length c.args.names.now) c.in-Test.column c.in-Test.test c.in-Test.constant (rw c.in-Test.is at c.requires.named);
}

pub print_as-returns-in_ok-mark-in-Test : goal.print_as-returns-in_ok-mark-in-Test
print_as-returns-in_ok-mark-in-Test t c =
    let names = c.args.names.now in
    let column = c.in-Test.column in
    let same : with_token c.mark.new.self (constant_token c.in-Test.constant) ≡ with_tokens c.args.printer.now (printed_in c.args.as_unit (printed_filter names c.args.filter.now)) =
    rw (c.in_ok-mark-in-Test.ensures, c.mark_of.ensures, c.in_ok-print_column-in-Test.ensures, c.in-Test.is) (test_text names c.args.as_unit c.args.printer.now column c.in-Test.test c.in-Test.constant) in
    subst (λ (s : Sheet). IfOk c.print_constant.result (λ _. c.print_constant.new.printer ≡ s)) same c.print_constant.ensures

pub print_as-returns-in_ok-print_items-in-And : goal.print_as-returns-in_ok-print_items-in-And
print_as-returns-in_ok-print_items-in-And t c =
    let names = c.args.names.now in
    let same : with_tokens c.print_items.new.printer (optional c.args.as_unit marks.Close) ≡ with_tokens c.args.printer.now (printed_in c.args.as_unit (printed_filter names c.args.filter.now)) =
    rw (c.in_ok-print_items-in-And.ensures, c.items.ensures, c.in_ok-print_word-in-And.ensures, c.in-And.is) (and_text names c.args.as_unit c.args.printer.now c.in-And.units) in
    subst (λ (s : Sheet). IfOk c.print_word-in-And.result (λ _. c.print_word-in-And.new.printer ≡ s)) same c.print_word-in-And.ensures

pub print_as-returns-in_ok-print_items-in-Or : goal.print_as-returns-in_ok-print_items-in-Or
print_as-returns-in_ok-print_items-in-Or t c =
    let names = c.args.names.now in
    let same : with_tokens c.print_items-in-Or.new.printer (optional c.args.as_unit marks.Close) ≡ with_tokens c.args.printer.now (printed_in c.args.as_unit (printed_filter names c.args.filter.now)) =
    rw (c.in_ok-print_items-in-Or.ensures, c.items-in-Or.ensures, c.in_ok-print_word-in-Or.ensures, c.in-Or.is) (or_text names c.args.as_unit c.args.printer.now c.in-Or.parts) in
    subst (λ (s : Sheet). IfOk c.print_word-in-Or-2.result (λ _. c.print_word-in-Or-2.new.printer ≡ s)) same c.print_word-in-Or-2.ensures

pub print_as-returns-in_ok-mark-in-Not : goal.print_as-returns-in_ok-mark-in-Not
print_as-returns-in_ok-mark-in-Not t c =
    let names = c.args.names.now in
    let same : with_tokens c.mark-in-Not.new.self (printed_filter names c.value.result.now).unit ≡ with_tokens c.args.printer.now (printed_in c.args.as_unit (printed_filter names c.args.filter.now)) =
    rw (c.in_ok-mark-in-Not.ensures, c.value.ensures, c.in-Not.is) (not_text names c.args.as_unit c.args.printer.now c.in-Not.unit) in
    subst (λ (s : Sheet). IfOk c.print_as.result (λ _. c.print_as.new.printer ≡ s)) same c.print_as.ensures
