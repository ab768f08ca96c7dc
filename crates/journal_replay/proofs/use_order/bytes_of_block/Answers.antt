use Rattle.std.proofs.Common.{◌≡◌, ◌∙◌, ◌∷◌, [], ℕ, All, false, Some, None, Option, ap, arith, sym}
use Rattle.std.specs.List.{list_any}
use Rattle.std.specs.Option.{option_map_or}
use Rattle.std.proofs.lemmas.List.Elements.{All-weaker}
use Rattle.pool_ledger.specs.Blocks.{is_block, sizes}
use Rattle.journal_replay.specs.declared.placed.Placed.{Placed}
use Rattle.journal_audit.specs.Rules.{is_the}
use Rattle.journal_replay.specs.UseOrder.{block_by, place_of, resident_in, residents_in}
use Rattle.journal_replay.proofs.InUse.{none_kept}
use Rattle.journal_replay.proofs.Known.{each_at, none_listed, only_taken, StandsAt}
use Rattle.journal_replay.proofs.use_order.bytes_of_block.Goals as goal

pub returns-in_default : goal.returns-in_default
returns-in_default c =
    let d = c.args.dataset in
    let p = c.args.part in
    let blocks = c.args.order.now.placed in
    let none : place_of c.args.order.now.places d p ≡ None = sym c.in_default.ensures.value in
    let unlisted : list_any (is_block d p) (residents_in blocks.entries) ≡ false =
    none_listed d p blocks.entries
    (All-weaker (λ (e : ℕ × Placed). block_by blocks e.0 ≡ Some e.1) (λ (e : ℕ × Placed). is_block d p (resident_in e.1) ≡ false)
    (λ e there. sym (c.requires.known e.0 e.1 there d p) ∙ ap (λ (o : Option ℕ). is_the o e.0) none) blocks.entries (each_at blocks c.len-count.ensures.ordered)) in
    sym (ap sizes (none_kept (is_block d p) (residents_in blocks.entries) unlisted))

pub returns-in-Some-get : goal.returns-in-Some-get
returns-in-Some-get c =
    let d = c.args.dataset in
    let p = c.args.part in
    let place = c.in-Some.place.now in
    let blocks = c.args.order.now.placed in
    let there : place_of c.args.order.now.places d p ≡ Some place = sym c.in-Some.ensures.value in
    let stands : All (StandsAt d p place) blocks.entries =
    All-weaker (λ (e : ℕ × Placed). block_by blocks e.0 ≡ Some e.1) (StandsAt d p place) (λ e here. ap (λ (o : Option ℕ). is_the o e.0) (sym there) ∙ c.requires.known e.0 e.1 here d p) blocks.entries
    (each_at blocks c.len-count.ensures.ordered) in
    let one =
    only_taken d p place blocks.entries c.len-count.ensures.ordered stands
    ∙ ap (λ (o : Option Placed). option_map_or (λ x. resident_in x ∷ []) o []) (sym c.in-Some-get.ensures.value) in
    omega (arith, ap sizes one)

pub returns-in-None : goal.returns-in-None
returns-in-None c =
    let d = c.args.dataset in
    let p = c.args.part in
    let place = c.in-Some.place.now in
    let blocks = c.args.order.now.placed in
    let there : place_of c.args.order.now.places d p ≡ Some place = sym c.in-Some.ensures.value in
    let stands : All (StandsAt d p place) blocks.entries =
    All-weaker (λ (e : ℕ × Placed). block_by blocks e.0 ≡ Some e.1) (StandsAt d p place) (λ e here. ap (λ (o : Option ℕ). is_the o e.0) (sym there) ∙ c.requires.known e.0 e.1 here d p) blocks.entries
    (each_at blocks c.len-count.ensures.ordered) in
    sym (ap sizes (only_taken d p place blocks.entries c.len-count.ensures.ordered stands
    ∙ ap (λ (o : Option Placed). option_map_or (λ x. resident_in x ∷ []) o []) (sym c.in-None.ensures.value)))
