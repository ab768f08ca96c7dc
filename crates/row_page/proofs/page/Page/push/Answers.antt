use Rattle.std.proofs.Common.{ap, arith, refl}
use Rattle.std.proofs.lemmas.Result.{err_from_is_err_and}
use Rattle.row_page.specs.Pages.{PageView}
use Rattle.row_page.specs.Views.{fields_in}
use Rattle.row_page.proofs.PageRows.{bytes_by_rows}
use Rattle.row_page.proofs.PagePlaces.{page_grown}
use Rattle.row_page.proofs.page.Page.push.Goals as goal

pub returns-then-self-len-clause-full : goal.returns-then-self-len-clause-full
returns-then-self-len-clause-full c =
    let used = bytes_by_rows c.self.inside.bytes c.args.self.now.rows c.self.invariant.grammar (ap (λ (v : PageView). v.rows) c.self.view_is) in
    let room = ap (λ (v : PageView). v.room) c.self.view_is in
    (λ _. omega (arith, used, room, c.len.ensures, c.bytes-piece.ensures.length, c.if-self-len.true), λ _. refl)

pub returns-in_err-add_piece-clause-full : goal.returns-in_err-add_piece-clause-full
returns-in_err-add_piece-clause-full c =
    let used = bytes_by_rows c.self.inside.bytes c.args.self.now.rows c.self.invariant.grammar (ap (λ (v : PageView). v.rows) c.self.view_is) in
    let room = ap (λ (v : PageView). v.room) c.self.view_is in
    let p = err_from_is_err_and c.from_residual.result c.from_residual.ensures.1 in
    (λ full. let e = p.1 in let f = p.2 in absurd cc, λ past. absurd (omega (arith, used, room, c.len.ensures, c.bytes-piece.ensures.length, c.if-self-len.false, past)))

pub invariant_of-self-2 : goal.invariant_of-self-2
invariant_of-self-2 c =
    (page_grown c.self.inside.starts.items c.self.inside.bytes c.add_piece.new.starts.items c.add_piece.new.bytes c.self.inside.room c.args.self.now.rows c.bytes-piece.result.now (fields_in c.args.row) c.self.invariant (ap (λ (v : PageView). v.rows) c.self.view_is) c.bytes-piece.ensures.grammar (omega (arith, c.len.ensures, c.if-self-len.false)) c.in_ok-add_piece.ensures.starts c.in_ok-add_piece.ensures.bytes).0

pub returns-clause-ok : goal.returns-clause-ok
returns-clause-ok c =
    let grown = (page_grown c.self.inside.starts.items c.self.inside.bytes c.add_piece.new.starts.items c.add_piece.new.bytes c.self.inside.room c.args.self.now.rows c.bytes-piece.result.now (fields_in c.args.row) c.self.invariant (ap (λ (v : PageView). v.rows) c.self.view_is) c.bytes-piece.ensures.grammar (omega (arith, c.len.ensures, c.if-self-len.false)) c.in_ok-add_piece.ensures.starts c.in_ok-add_piece.ensures.bytes).1 in
    let room = ap (λ (v : PageView). v.room) c.self.view_is in
    cc

pub returns-clause-full : goal.returns-clause-full
returns-clause-full c =
    let used = bytes_by_rows c.self.inside.bytes c.args.self.now.rows c.self.invariant.grammar (ap (λ (v : PageView). v.rows) c.self.view_is) in
    let room = ap (λ (v : PageView). v.room) c.self.view_is in
    (λ full. absurd cc, λ past. absurd (omega (arith, used, room, c.len.ensures, c.bytes-piece.ensures.length, c.if-self-len.false, past)))
