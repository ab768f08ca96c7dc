use Rattle.std.proofs.Common.{◌∷◌, List, Option, ap, subst, sym, ◌∙◌}
use Rattle.pool_ledger.specs.Blocks.{residents_after}
use Rattle.journal_replay.specs.declared.block_name.BlockName.{BlockName}
use Rattle.journal_replay.specs.Tables.{TellsPins}
use Rattle.journal_replay.proofs.Noted.{pins_noted}
use Rattle.journal_replay.proofs.tables.note.Goals as goal

pub returns : goal.returns
returns c = record {
  ok = λ s h may tells. record {
    blocks = record { in_order = c.in_ok-note_use.ensures.ok ∙ ap (residents_after c.args.entry.event) tells.blocks.in_order; unbounded = c.in_ok-note_use.ensures.unbounded };
    pins = subst (λ (pins : List (Option BlockName)). TellsPins pins (c.args.entry ∷ h)) (sym c.note_pin.ensures) (pins_noted s c.args.tables.now.pins h c.args.entry c.requires.worker may tells.pins);
    begun = c.in_ok-note_begin.ensures.ok h c.args.entry.worker tells.begun;
    copies = c.in_ok-note_copy.ensures.ok h c.args.entry.worker tells.copies;
  };
}
