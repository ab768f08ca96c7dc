use Rattle.journal_replay.specs.Replays.{history_of, setup_of}
use Rattle.journal_replay.specs.Tables.{blocks_in}
use Rattle.journal_replay.proofs.Lists.{is_free}
use Rattle.journal_replay.proofs.replay.add.Goals as goal

pub note-requires-clause-free : goal.note-requires-clause-free
note-requires-clause-free c =
    is_free (setup_of c.args.replay.now) (history_of c.args.replay.now) c.args.entry (blocks_in c.args.replay.now.tables.blocks.entries)
    c.requires.tells.tables.blocks.in_order c.requires.next

pub returns-clause-ok : goal.returns-clause-ok
returns-clause-ok c = record {
  turns = c.in_ok-add_turn.ensures.ok;
  tables = c.in_ok-note.ensures.ok (setup_of c.args.replay.now) (history_of c.args.replay.now) c.requires.next c.requires.tells.tables;
}
