use Rattle.std.proofs.Common.{◌+◌, map}
use Rattle.csv_program.specs.Made.{AreMadeConsumers}
use Rattle.csv_program.specs.QueryConsumers.{state_in}
use Rattle.csv_program.proofs.consumers.make_consumers.Given as goal

abbrev pub invariant-loop : goal.invariant-loop
invariant-loop l = AreMadeConsumers (map state_in l.consumers.items) l.counter

abbrev pub invariant-loop-2 : goal.invariant-loop-2
invariant-loop-2 l = AreMadeConsumers (map state_in l.consumers.items) (8 + l.counter)
