use Rattle.std.proofs.Common.{false, get_or, not, eqb}
use Rattle.std.proofs.lemmas.Bool.{and_left, and_right, ne_eqb}
use Rattle.eviction.specs.declared.candidate.Candidate.{Candidate}
use Rattle.memory_core.proofs.LeastPart.{a_pin_keeps, least_begins, least_falls, least_passes, least_stays, next_least, no_pin_keeps}
use Rattle.memory_core.proofs.choice.least_of.Goals as goal
use Rattle.memory_core.proofs.choice.least_of.Goals.{then-may_go+then-block-dataset+in-Some, then-may_go+then-block-dataset+in_default, in_default-via-in-Some+else-other-block, in_default-via-in_default, else-may_go, else-may_go-via-then-may_go+else-block-dataset, else-may_go-via-else-may_go}

-- what a read past the end gives
abbrev none_there : Candidate
none_there = record { dataset = 0; part = 0; size = 0; pinned = false }

pub loop-block-preserved : goal.loop-block-preserved
loop-block-preserved c =
    let here : Candidate = get_or c.args.list.now c.loop-block.block-index none_there in
    next_least c.args.dataset c.loop-block.least c.if-may_go.least c.args.list.now c.loop-block.block-index none_there c.loop-block-test.true c.loop-block.invariant (elim c.if-may_go.branch [
      | then-may_go+then-block-dataset+in-Some w ↦
          least_stays c.args.dataset c.loop-block.least c.if-may_go.least w.in-Some.other here (no_pin_keeps here c.may_go.result c.may_go.ensures w.if-may_go.true) w.if-block-dataset.true w.in-Some.is w.if-other-block.true w.least-is
      | then-may_go+then-block-dataset+in_default w ↦ elim w.in_default.branch [
        | in_default-via-in-Some+else-other-block w' ↦
            least_falls c.args.dataset c.loop-block.least c.if-may_go.least w'.in-Some.other here (no_pin_keeps here c.may_go.result c.may_go.ensures w.if-may_go.true) w.if-block-dataset.true w'.in-Some.is w'.if-other-block.false w.least-is
        | in_default-via-in_default w' ↦
            least_begins c.args.dataset c.loop-block.least c.if-may_go.least here (no_pin_keeps here c.may_go.result c.may_go.ensures w.if-may_go.true) w.if-block-dataset.true w'.in_default.is w.least-is
      ]
      | else-may_go w ↦ elim w.else-may_go.branch [
        | else-may_go-via-then-may_go+else-block-dataset w' ↦
            least_passes c.args.dataset c.loop-block.least c.if-may_go.least here (and_right (not here.pinned) (eqb here.dataset c.args.dataset) (ne_eqb here.dataset c.args.dataset w'.if-block-dataset.false)) w.least-is
        | else-may_go-via-else-may_go w' ↦
            least_passes c.args.dataset c.loop-block.least c.if-may_go.least here (and_left (not here.pinned) (eqb here.dataset c.args.dataset) (a_pin_keeps here c.may_go.result c.may_go.ensures w'.if-may_go.false)) w.least-is
      ]
    ])
