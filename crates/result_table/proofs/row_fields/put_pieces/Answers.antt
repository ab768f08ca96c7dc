use Rattle.std.proofs.Common.{◌≡◌, ◌<◌, ◌++◌, ◌∷◌, ◌∙◌, [], ℕ, List, length, subst, sym, append_assoc, length-append, arith, rules}
use Rattle.std.proofs.lemmas.List.{append-nil}
use Rattle.row_page.specs.Grammar.{ArePieces}
use Rattle.row_page.proofs.Fronts.{front_length}
use Rattle.row_page.proofs.Parts.{has_front, rest_has_pieces}
use Rattle.result_table.proofs.RowFields.{none_left, puts_more}
use Rattle.result_table.proofs.row_fields.put_pieces.Goals as goal

pub returns-in_default-clause-none : goal.returns-in_default-clause-none
returns-in_default-clause-none c has =
    let some : 0 < length c.loop-rest.rest.now = search rules in
    let front = has_front c.loop-rest.rest.now (c.loop-rest.invariant.left has) some in
    c.in_default.ensures.none front.0 front.1 front.2

pub loop-rest-preserved : goal.loop-rest-preserved
loop-rest-preserved c =
    let inv = c.loop-rest.invariant in
    let front = c.in-Some.ensures.found in
    let field = c.in-Some.piece.now in
    record {
      fields = inv.fields ++ field ∷ [];
      several = length-append inv.fields (field ∷ []) ∙ omega (arith, inv.several);
      puts = puts_more c.args.writer.now c.loop-rest.writer c.put_field.new.writer inv.fields (field ∷ []) inv.puts c.in_ok-put_field.ensures;
      behind = λ others are.
          subst (λ (fields : List (List ℕ)). ArePieces c.args.bytes.now fields) (sym (append_assoc inv.fields (field ∷ []) others))
          (inv.behind (field ∷ others) (c.in-Some.behind.now, front, are));
      left = λ has. (rest_has_pieces c.loop-rest.rest.now field c.in-Some.behind.now front).1 (inv.left has);
      fits = omega (arith, inv.fits, front_length c.loop-rest.rest.now field c.in-Some.behind.now front);
    }

pub returns-clause-some : goal.returns-clause-some
returns-clause-some c =
    let inv = c.loop-rest.invariant in
    let none : length c.loop-rest.rest.now ≡ 0 = search rules in (
      inv.fields,
      subst (λ (fields : List (List ℕ)). ArePieces c.args.bytes.now fields) (append-nil inv.fields) (inv.behind [] (none_left c.loop-rest.rest.now none)),
      inv.several,
      inv.puts,
    )
