-- What a source and a sink in memory hold.
-- This project's own.
use Rattle.std.specs.Prelude.{◌≡◌, ℕ, ◌+◌, ◌-◌, ◌^◌, List, drop, length, min}
use Rattle.byte_io.specs.declared.memory.MemorySource.{MemorySource}
use Rattle.byte_io.specs.declared.memory.MemorySink.{MemorySink}

-- the bytes that the source has still to give
abbrev pub source_left : MemorySource → List ℕ
source_left source = drop source.at source.bytes.items

-- how many bytes that is
abbrev pub source_turns : MemorySource → ℕ
source_turns source = length source.bytes.items - source.at

-- the numbers of the calls that fail
abbrev pub source_fails : MemorySource → List ℕ
source_fails source = source.fails.items

-- how many calls were made, as far as a `u64` counts
abbrev pub source_calls : MemorySource → ℕ
source_calls source = source.calls

-- how many of them failed, as far as a `u64` counts
abbrev pub source_faults : MemorySource → ℕ
source_faults source = source.faults

-- there was one call more, and the calls that fail are the same
pub record CountsRead (before after : MemorySource) : Type 0 where
  pub calls : source_calls after ≡ min (source_calls before + 1) (2 ^ 64 - 1)
  pub fails : source_fails after ≡ source_fails before

-- the bytes that the sink has taken
abbrev pub sink_bytes : MemorySink → List ℕ
sink_bytes sink = sink.bytes.items

-- the numbers of the calls that fail
abbrev pub sink_fails : MemorySink → List ℕ
sink_fails sink = sink.fails.items

-- how many calls were made, as far as a `u64` counts
abbrev pub sink_calls : MemorySink → ℕ
sink_calls sink = sink.calls

-- how many of them failed, as far as a `u64` counts
abbrev pub sink_faults : MemorySink → ℕ
sink_faults sink = sink.faults

-- there was one call more, and the calls that fail are the same
pub record CountsWrite (before after : MemorySink) : Type 0 where
  pub calls : sink_calls after ≡ min (sink_calls before + 1) (2 ^ 64 - 1)
  pub fails : sink_fails after ≡ sink_fails before
