use Rattle.std.proofs.Common.{◌≡◌, ◌∙◌, ◌+◌, ◌<◌, ◌++◌, ◌∷◌, [], ℕ, List, length, map, take, get_or, refl, sym, ap}
use Rattle.std.specs.Prelude.{All}
use Rattle.std.proofs.lemmas.List.{map-append, take_more}
use Rattle.std.proofs.lemmas.List.Elements.{All-push}
use Rattle.csv.specs.Records.{fields_of}
use Rattle.job_plan.specs.Plans.{form_in, places_in}
use Rattle.landing.proofs.Keeping.{is_kept, row_fits}
use Rattle.landing.proofs.rules.make_row.Goals as goal

pub add_field-requires-in-loop-place : goal.add_field-requires-in-loop-place
add_field-requires-in-loop-place c =
    let rules = c.args.rules.now in
    let row = fields_of c.args.row.now in
    let i = c.loop-place.place-index in
    let within : i < length (places_in rules.plan) = rw (sym c.places-place-items.ensures) c.loop-place-test.true in
    let place : get_or c.places-place-items.result.now i 0 ≡ get_or (places_in rules.plan) i 0 = rw c.places-place-items.ensures refl in
    rw (c.loop-place.invariant.so_far, c.field_of.ensures, place)
    (row_fits (form_in rules.plan) (places_in rules.plan) c.args.n row i (is_kept rules c.args.n row c.requires.rules c.requires.passes) within)

pub loop-place-preserved : goal.loop-place-preserved
loop-place-preserved c =
    let row = fields_of c.args.row.now in
    let places : List ℕ = places_in c.args.rules.now.plan in
    let i = c.loop-place.place-index in
    let within : i < length places = rw (sym c.places-place-items.ensures) c.loop-place-test.true in
    let place : get_or c.places-place-items.result.now i 0 ≡ get_or places i 0 = rw c.places-place-items.ensures refl in
    let mapped : map (λ p. get_or row p []) (take (i + 1) places) ≡ map (λ p. get_or row p []) (take i places) ++ get_or row (get_or places i 0) [] ∷ [] =
    ap (map (λ (p : ℕ). get_or row p [])) (take_more places i 0 within) ∙ map-append (λ (p : ℕ). get_or row p []) (take i places) (get_or places i 0 ∷ []) in
    record {
      so_far = rw (mapped, c.in_ok-add_field-2.ensures.ok, c.loop-place.invariant.so_far, c.field_of.ensures, place) refl;
      bytes = rw c.in_ok-add_field-2.ensures.ok (All-push (λ (field : List ℕ). All (λ b. b < 256) field) c.loop-place.landed c.field_of.result.now c.loop-place.invariant.bytes c.in_ok-add_field-2.ensures.bytes);
    }
