use Rattle.std.proofs.Common.{◌≡◌, ◌++◌, ◌∷◌, [], ℕ, List, subst, drop, length, arith}
use Rattle.std.proofs.lemmas.Bool.{eqb-false, eqb-true}
use Rattle.std.proofs.lemmas.List.{take_rest}
use Rattle.aggregate.specs.Spelling.{BeginsWithNone, TakesField}
use Rattle.result_table.specs.Table.{PutsFields}
use Rattle.result_table.specs.Told.{IsSpelling}
use Rattle.result_table.proofs.KeyFields.{no_more, taken_all, taken_are, taken_next, too_long}
use Rattle.result_table.proofs.RowFields.{puts_more}
use Rattle.result_table.proofs.row_fields.put_key.Goals as goal

pub returns-in_default-clause-untold : goal.returns-in_default-clause-untold
returns-in_default-clause-untold c refused fields spelling =
    let at_slice = rw c.in_default.is at c.in_ok-size.ensures.none in
    let none : BeginsWithNone (drop c.loop-column.at c.args.key.now) = rw (take_rest c.args.key.now c.loop-column.at) at at_slice in
    no_more c.spellings_are_apart.ensures c.args.key.now c.loop-column.at c.loop-column._column c.args.columns c.loop-column.invariant.fields
    c.loop-column.invariant.taken c.loop-column-test.true none fields spelling

pub loop-column-preserved : goal.loop-column-preserved
loop-column-preserved c =
    let inv = c.loop-column.invariant in
    let at_slice = rw c.in-Some.is at c.in_ok-size.ensures.some in
    let takes : TakesField (drop c.loop-column.at c.args.key.now) [] c.take_field.new.into.items c.in-Some.size =
    rw (c.clear.ensures.items, take_rest c.args.key.now c.loop-column.at) at at_slice in
    let put : PutsFields c.loop-column.writer c.put_field.new.writer (c.take_field.new.into.items ∷ []) = rw c.deref.ensures.value at c.in_ok-put_field.ensures in
    record {
      fields = inv.fields ++ c.take_field.new.into.items ∷ [];
      taken = taken_next c.args.key.now c.loop-column.at c.loop-column._column c.in-Some.size inv.fields c.take_field.new.into.items inv.taken takes;
      puts = puts_more c.args.writer.now c.loop-column.writer c.put_field.new.writer inv.fields (c.take_field.new.into.items ∷ []) inv.puts put;
    }

pub returns-clause-row : goal.returns-clause-row
returns-clause-row c told =
    let inv = c.loop-column.invariant in
    subst (λ (fields : List (List ℕ)). PutsFields c.args.writer.now c.loop-column.writer fields)
    (taken_are c.args.key.now c.loop-column.at c.loop-column._column c.args.columns inv.fields inv.taken
    (omega (arith, c.loop-column-test.false, c.loop-column.auto._column-end))) inv.puts

pub returns-clause-told : goal.returns-clause-told
returns-clause-told c told =
    let inv = c.loop-column.invariant in
    let all : c.loop-column._column ≡ c.args.columns = omega (arith, c.loop-column-test.false, c.loop-column.auto._column-end) in
    subst (λ (fields : List (List ℕ)). IsSpelling c.args.columns fields c.args.key.now)
    (taken_are c.args.key.now c.loop-column.at c.loop-column._column c.args.columns inv.fields inv.taken all)
    (taken_all c.args.key.now c.loop-column.at c.loop-column._column c.args.columns inv.fields inv.taken all
    (eqb-true c.loop-column.at (length c.args.key.now) told))

pub returns-clause-untold : goal.returns-clause-untold
returns-clause-untold c refused fields spelling =
    let inv = c.loop-column.invariant in
    too_long c.spellings_are_apart.ensures c.args.key.now c.loop-column.at c.loop-column._column c.args.columns inv.fields inv.taken
    (omega (arith, c.loop-column-test.false, c.loop-column.auto._column-end))
    (eqb-false c.loop-column.at (length c.args.key.now) refused) fields spelling
