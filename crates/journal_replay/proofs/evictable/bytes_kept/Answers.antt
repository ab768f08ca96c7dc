use Rattle.std.proofs.Common.{List, Option, Some, ap, arith, sym, take, ◌∙◌}
use Rattle.journal_replay.specs.declared.block_name.BlockName.{BlockName}
use Rattle.journal_replay.specs.UseOrder.{evictable_bytes}
use Rattle.journal_replay.proofs.MayGo.{pinned_before, pinned_now, pins_more, stays_anyway}
use Rattle.journal_replay.proofs.evictable.bytes_kept.Goals as goal

pub returns-then-is_excepted : goal.returns-then-is_excepted
returns-then-is_excepted c =
    let pins = c.args.pins.now in
    let w = c.args.worker in
    let es = c.args.order.now.placed.entries in
    let more = pins_more pins w (Some c.in-Some.name) (omega (arith, c.told-pins, c.requires.one)) c.in-Some.is in
    omega (
      arith,
      stays_anyway c.args.except (take w pins) c.in-Some.name es (sym c.is_excepted.ensures ∙ c.if-is_excepted.true),
      ap (λ (some : List (Option BlockName)). evictable_bytes c.args.except some es) more,
    )

pub returns-then-is_pinned_by_first : goal.returns-then-is_pinned_by_first
returns-then-is_pinned_by_first c =
    let pins = c.args.pins.now in
    let w = c.args.worker in
    let es = c.args.order.now.placed.entries in
    let more = pins_more pins w (Some c.in-Some.name) (omega (arith, c.told-pins, c.requires.one)) c.in-Some.is in
    omega (
      arith,
      pinned_before c.args.except (take w pins) c.in-Some.name es (sym c.is_pinned_by_first.ensures ∙ c.if-is_pinned_by_first.true),
      ap (λ (some : List (Option BlockName)). evictable_bytes c.args.except some es) more,
    )

pub returns : goal.returns
returns c =
    let pins = c.args.pins.now in
    let w = c.args.worker in
    let es = c.args.order.now.placed.entries in
    let more = pins_more pins w (Some c.in-Some.name) (omega (arith, c.told-pins, c.requires.one)) c.in-Some.is in
    omega (
      arith,
      pinned_now c.args.except (take w pins) c.in-Some.name es (sym c.is_excepted.ensures ∙ c.if-is_excepted.false) (sym c.is_pinned_by_first.ensures ∙ c.if-is_pinned_by_first.false),
      ap (λ (some : List (Option BlockName)). evictable_bytes c.args.except some es) more,
      c.bytes_of_block.ensures,
    )
