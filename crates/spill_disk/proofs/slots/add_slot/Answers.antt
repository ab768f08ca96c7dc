use Rattle.std.proofs.Common.{◌≡◌, ◌++◌, ◌∷◌, [], length, true, ◌∙◌, ap, refl, not, rules}
use Rattle.std.specs.Prelude.{is_ok, vec_len}
use Rattle.spill_disk.specs.Kept.{files_from}
use Rattle.std.specs.FinMap as map
use Rattle.spill_disk.specs.declared.memory_disk.Stored.{Stored}
use Rattle.spill_disk.proofs.LookUps.{push_slot, at_number, slot_at_past, there_put}
use Rattle.spill_disk.proofs.slots.add_slot.Goals as goal

pub returns-clause-ok : goal.returns-clause-ok
returns-clause-ok c =
    let old = c.args.slots.now.items in
    let made : Stored = record { is_there = true; bytes = c.new.result } in
    let ok : is_ok c.push.result ≡ true = c.is_err.ensures.negation ∙ ap not c.if-is_err.false in
    let pushed : c.push.new.self.items ≡ old ++ made ∷ [] = rw ok at c.push.ensures.items in
    let none = at_number old (vec_len c.args.slots.now) ∙ slot_at_past old (vec_len c.args.slots.now) (search rules) in
    let count : length old ≡ vec_len c.args.slots.now = search rules in
    (none, rw (← count) (ap (files_from 0) pushed ∙ push_slot old made refl ∙ ap (map.insert (files_from 0 old) (length old)) c.new.ensures.items))

pub returns-clause-there : goal.returns-clause-there
returns-clause-there c =
    let old = c.args.slots.now.items in
    let made : Stored = record { is_there = true; bytes = c.new.result } in
    let ok : is_ok c.push.result ≡ true = c.is_err.ensures.negation ∙ ap not c.if-is_err.false in
    let pushed : c.push.new.self.items ≡ old ++ made ∷ [] = rw ok at c.push.ensures.items in
    let count : length old ≡ vec_len c.args.slots.now = search rules in
    rw (← count) (there_put (files_from 0 old) (files_from 0 c.push.new.self.items) (length old) c.new.result.items (ap (files_from 0) pushed ∙ push_slot old made refl))
