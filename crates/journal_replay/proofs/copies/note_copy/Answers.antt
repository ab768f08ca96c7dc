use Rattle.journal_replay.proofs.Noted.{copy_noted}
use Rattle.journal_replay.proofs.copies.note_copy.Goals as goal

pub returns-in_ok-insert : goal.returns-in_ok-insert
returns-in_ok-insert c =
    let at = c.in-Evict-default-default-default-Disk in
    let disk = rw at.is at at.fate-is in
    record { ok = λ h w tells. copy_noted c.args.copies.now c.insert.new.self c.args.event at.dataset at.part at.size at.fate at.is disk c.in_ok-insert.ensures.updates h w tells }
