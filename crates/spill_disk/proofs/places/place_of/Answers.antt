use Rattle.std.proofs.Common.{◌≡◌, ℕ, Some, nat_eq, sym, ap, ◌∙◌, rules}
use Rattle.std.specs.Map.{lookup_key}
use Rattle.indexmap.specs.IndexMap.{get}
use Rattle.spill_disk.proofs.OpenFiles.{key_found}
use Rattle.spill_disk.proofs.places.place_of.Goals as goal

pub returns-then-key-number-clause-found : goal.returns-then-key-number-clause-found
returns-then-key-number-clause-found g c =
    let opened = c.in-Some.field-0-1.now in
    let same : c.in-Some.key.now ≡ c.args.number = c.if-key-number.true in
    record {
      opened = opened;
      entry = sym c.in-Some.ensures.entry ∙ ap (λ (k : ℕ). Some (k, opened)) same;
      found = ap (get nat_eq c.args.kept.now) (sym same) ∙ c.in-Some.ensures.value;
    }

pub returns-clause-found : goal.returns-clause-found
returns-clause-found g c =
    let opened = c.in_ok-at.field-0-2.now in
    let key : lookup_key (nat_eq c.args.number) c.args.kept.now.entries ≡ Some c.in_ok-at.field-0-1.now = search rules in
    let same : c.in_ok-at.field-0-1.now ≡ c.args.number = key_found c.args.number c.args.kept.now.entries c.in_ok-at.field-0-1.now key in
    record {
      opened = opened;
      entry = c.in_ok-at.ensures.entry ∙ ap (λ (k : ℕ). Some (k, opened)) same;
      found = sym c.in_ok-at.ensures.value;
    }
