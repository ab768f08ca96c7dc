use Rattle.std.proofs.Common.{◌≡◌, IsSome, length}
use Rattle.std.specs.Prelude.{option_map}
use Rattle.std.specs.Option.{option_map_or}
use Rattle.byte_io.specs.Records.{IsReading, rows_left}
use Rattle.trial_input.specs.Tallies.{no_tally}
use Rattle.trial_input.proofs.Reading.{tally_on}
use Rattle.trial_input.proofs.tally.tally_records.Given as goal

-- what is counted so far, with the records that are left, comes to what all come to
abbrev pub invariant-records : goal.invariant-records
invariant-records g l = record {
  reading : IsReading l.records;
  tells : IsSome (rows_left l.records);
  so_far : option_map (tally_on l.tally) (rows_left l.records) ≡ option_map (tally_on no_tally) (rows_left l.fn.records);
}

abbrev pub decreases-records : goal.decreases-records
decreases-records g l = option_map_or length (rows_left l.records) 0
