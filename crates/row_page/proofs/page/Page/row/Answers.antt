use Rattle.std.proofs.Common.{◌≡◌, ◌<◌, List, ℕ, length, drop, refl, ap, arith}
use Rattle.std.proofs.lemmas.List.{take_rest, length-drop}
use Rattle.row_page.specs.Grammar.{IsPieceThen}
use Rattle.row_page.specs.Pages.{PageView}
use Rattle.row_page.specs.Reading.{rows_of}
use Rattle.row_page.proofs.PageRows.{page_has_pieces, page_has_bytes, row_at_place}
use Rattle.row_page.proofs.PagePlaces.{place_leads}
use Rattle.row_page.proofs.page.Page.row.Goals as goal

-- the asked place is one of the page's
within : (starts : List ℕ) (shown rows : List (List (List ℕ))) (i : ℕ) → length starts ≡ length shown → shown ≡ rows → i < length rows → i < length starts
within starts shown rows i count same lt = omega (arith, ap length same)

pub first_piece-requires-clause-pieces : goal.first_piece-requires-clause-pieces
first_piece-requires-clause-pieces c =
    let bytes = c.self.inside.bytes in
    let at = place_leads c.self.inside.starts.items bytes (rows_of bytes) c.args.i c.index-start.result.now (length c.self.inside.starts.items) c.self.invariant.places refl (within c.self.inside.starts.items (rows_of bytes) c.args.self.now.rows c.args.i c.self.invariant.count (ap (λ (v : PageView). v.rows) c.self.view_is) c.requires) c.index-start.ensures in
    rw (take_rest, c.as_slice.ensures) (page_has_pieces _ _ at.1)

pub first_piece-requires-clause-some : goal.first_piece-requires-clause-some
first_piece-requires-clause-some c =
    let bytes = c.self.inside.bytes in
    let at = place_leads c.self.inside.starts.items bytes (rows_of bytes) c.args.i c.index-start.result.now (length c.self.inside.starts.items) c.self.invariant.places refl (within c.self.inside.starts.items (rows_of bytes) c.args.self.now.rows c.args.i c.self.invariant.count (ap (λ (v : PageView). v.rows) c.self.view_is) c.requires) c.index-start.ensures in
    rw (take_rest, c.as_slice.ensures) (page_has_bytes _ _ at.1 (omega (arith, length-drop c.args.i (rows_of bytes), within c.self.inside.starts.items (rows_of bytes) c.args.self.now.rows c.args.i c.self.invariant.count (ap (λ (v : PageView). v.rows) c.self.view_is) c.requires, c.self.invariant.count)))

pub of_known-requires : goal.of_known-requires
of_known-requires c =
    let bytes = c.self.inside.bytes in
    let at = place_leads c.self.inside.starts.items bytes (rows_of bytes) c.args.i c.index-start.result.now (length c.self.inside.starts.items) c.self.invariant.places refl (within c.self.inside.starts.items (rows_of bytes) c.args.self.now.rows c.args.i c.self.invariant.count (ap (λ (v : PageView). v.rows) c.self.view_is) c.requires) c.index-start.ensures in
    let front : IsPieceThen (drop c.index-start.result.now bytes) c.first_piece.result.0.now c.first_piece.result.1.now = rw (take_rest, c.as_slice.ensures) at c.first_piece.ensures in
    (_, (row_at_place _ (rows_of bytes) c.args.i c.first_piece.result.0.now c.first_piece.result.1.now at.1 front).item)

pub returns : goal.returns
returns c =
    let bytes = c.self.inside.bytes in
    let at = place_leads c.self.inside.starts.items bytes (rows_of bytes) c.args.i c.index-start.result.now (length c.self.inside.starts.items) c.self.invariant.places refl (within c.self.inside.starts.items (rows_of bytes) c.args.self.now.rows c.args.i c.self.invariant.count (ap (λ (v : PageView). v.rows) c.self.view_is) c.requires) c.index-start.ensures in
    let front : IsPieceThen (drop c.index-start.result.now bytes) c.first_piece.result.0.now c.first_piece.result.1.now = rw (take_rest, c.as_slice.ensures) at c.first_piece.ensures in
    rw (← c.self.view_is) (c.of_known.ensures.only _ (row_at_place _ (rows_of bytes) c.args.i c.first_piece.result.0.now c.first_piece.result.1.now at.1 front).item)
