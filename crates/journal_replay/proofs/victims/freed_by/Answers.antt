use Rattle.std.proofs.Common.{◌<◌, List, ap, arith, length, sym, ◌∙◌}
use Rattle.std.specs.Option.{option_map}
use Rattle.eviction.specs.declared.candidate.Candidate.{Candidate}
use Rattle.eviction.specs.Victims.{evictable as evictable_in, sizes as bytes_in}
use Rattle.pool_ledger.specs.Blocks.{Resident, sizes}
use Rattle.pool_ledger.proofs.Fronts.{front_none}
use Rattle.journal_replay.specs.Checks.{sum_of}
use Rattle.journal_replay.specs.UseOrder.{candidates_of}
use Rattle.journal_replay.proofs.Chosen.{all_stored, chosen_are, found_are, none_are}
use Rattle.journal_replay.proofs.Lists.{listed_before}
use Rattle.journal_replay.proofs.victims.freed_by.Goals as goal

pub front_of-requires-clause-small : goal.front_of-requires-clause-small
front_of-requires-clause-small c =
    let laws = c.ledger_keeps_laws.ensures in
    omega (
      arith,
      all_stored c.args.replay.now.turns.ledger.history (candidates_of c.args.replay.now.tables.pins c.args.replay.now.turns.before.order.placed.entries) (listed_before c.args.replay.now c.requires.tells),
      laws.laws.never_passes,
      laws.small,
    )

pub returns-then-evictable_bytes-need : goal.returns-then-evictable_bytes-need
returns-then-evictable_bytes-need c =
    let base = c.args.replay.now.turns.ledger.history in
    let list = candidates_of c.args.replay.now.tables.pins c.args.replay.now.turns.before.order.placed.entries in
    let few : bytes_in (evictable_in c.args.except list) < c.args.need = omega (arith, c.evictable_bytes.ensures, c.if-evictable_bytes-need.true) in
    let none =
    none_are base list (listed_before c.args.replay.now c.requires.tells) c.args.except c.args.need c.requires.some_need
    (sym (ap (option_map sum_of) (front_none (λ (block : Candidate). block.size) c.args.need (evictable_in c.args.except list) few))) in
    record {
      count = ap (λ (bs : List Resident). length bs) (sym none);
      bytes = ap sizes (sym none);
      first = sym none;
      few = omega arith;
      stored = omega arith;
    }

pub returns-in-Some : goal.returns-in-Some
returns-in-Some c =
    let base = c.args.replay.now.turns.ledger.history in
    let list = candidates_of c.args.replay.now.tables.pins c.args.replay.now.turns.before.order.placed.entries in
    let is = listed_before c.args.replay.now c.requires.tells in
    let sum = found_are base list is c.args.except c.args.need c.requires.some_need c.in-Some.freed (sym c.in-Some.is ∙ c.front_of.ensures) in
    let are = chosen_are base list is c.args.except c.args.need c.requires.some_need in
    record {
      count = sum.count_is ∙ ap (λ (bs : List Resident). length bs) are;
      bytes = sum.bytes_is ∙ ap sizes are;
      first = sum.first ∙ are;
      few = sum.few;
      stored = sum.in_stored;
    }

pub returns-in-None : goal.returns-in-None
returns-in-None c =
    let base = c.args.replay.now.turns.ledger.history in
    let list = candidates_of c.args.replay.now.tables.pins c.args.replay.now.turns.before.order.placed.entries in
    let is = listed_before c.args.replay.now c.requires.tells in
    let none = none_are base list is c.args.except c.args.need c.requires.some_need (sym c.in-None.is ∙ c.front_of.ensures) in
    record {
      count = ap (λ (bs : List Resident). length bs) (sym none);
      bytes = ap sizes (sym none);
      first = sym none;
      few = omega arith;
      stored = omega arith;
    }
