use Rattle.aggregate.proofs.Tested.{length_value, tested}
use Rattle.aggregate.proofs.partial.combine.Goals as goal

pub combine_slots-requires-clause-into : goal.combine_slots-requires-clause-into
combine_slots-requires-clause-into c = tested c.args.aggs.now c.args.into.now c.requires.into

pub combine_slots-requires-clause-from : goal.combine_slots-requires-clause-from
combine_slots-requires-clause-from c = tested c.args.aggs.now c.args.from.now c.requires.from

pub combine_slots-requires-clause-long : goal.combine_slots-requires-clause-long
combine_slots-requires-clause-long c = length_value c.args.aggs.now c.args.into.now c.requires.into

pub combine_slots-requires-clause-alike : goal.combine_slots-requires-clause-alike
combine_slots-requires-clause-alike c = length_value c.args.aggs.now c.args.from.now c.requires.from
