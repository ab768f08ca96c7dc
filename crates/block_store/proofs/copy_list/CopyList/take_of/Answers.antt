use Rattle.std.proofs.Common.{◌≡◌, ℕ, eqb, sym, subst, ap, ◌∙◌, Some}
use Rattle.std.specs.List.{position, remove, slice_get}
use Rattle.std.proofs.lemmas.Bool.{eqb-true}
use Rattle.std.proofs.lemmas.Option.{same_Some}
use Rattle.block_store.specs.declared.block_copy.BlockCopy.{BlockCopy}
use Rattle.block_store.specs.Copies.{CopiesView, of_others}
use Rattle.block_store.proofs.Places.{PassesAt, position_passes, position_none, kept_all, read_at}
use Rattle.block_store.proofs.copy_list.CopyList.take_of.Goals as goal
use Rattle.block_store.proofs.copy_list.CopyList.take_of.Goals.{After-remove}

pub returns-in_default-clause-none : goal.returns-in_default-clause-none
returns-in_default-clause-none c =
    subst (λ (v : CopiesView). of_others c.args.dataset v.list ≡ v.list) c.self.view_is
    (kept_all (λ (copy : BlockCopy). eqb copy.dataset c.args.dataset) c.self.inside.copies.items
    (position_none (λ (copy : BlockCopy). eqb copy.dataset c.args.dataset) c.self.inside.copies.items
    (ap (position (λ (copy : BlockCopy). eqb copy.dataset c.args.dataset)) (sym c.deref.ensures.value) ∙ sym c.place_of.ensures ∙ c.in_default.is)))

found : (c : After-remove) → PassesAt (λ (copy : BlockCopy). eqb copy.dataset c.args.dataset) c.self.inside.copies.items c.in-Some.place
found c =
    position_passes (λ (copy : BlockCopy). eqb copy.dataset c.args.dataset) c.self.inside.copies.items c.in-Some.place
    (ap (position (λ (copy : BlockCopy). eqb copy.dataset c.args.dataset)) (sym c.deref.ensures.value) ∙ sym c.place_of.ensures ∙ c.in-Some.is)

pub returns-clause-taken : goal.returns-clause-taken
returns-clause-taken c =
    subst (λ (v : CopiesView). (place : ℕ) × (slice_get v.list place ≡ Some c.remove.result) × (c.remove.new.self.items ≡ remove v.list place)) c.self.view_is
    (c.in-Some.place, read_at (λ (copy : BlockCopy). eqb copy.dataset c.args.dataset) c.self.inside.copies.items c.in-Some.place c.remove.result (found c) c.remove.ensures.value, c.remove.ensures.items)

pub returns-clause-of : goal.returns-clause-of
returns-clause-of c =
    let at = found c in
    let same : at.item ≡ c.remove.result = same_Some at.item c.remove.result (sym at.here ∙ read_at (λ (copy : BlockCopy). eqb copy.dataset c.args.dataset) c.self.inside.copies.items c.in-Some.place c.remove.result at c.remove.ensures.value) in
    sym (ap (λ (copy : BlockCopy). copy.dataset) same) ∙ eqb-true at.item.dataset c.args.dataset at.passes
