-- What contracts see of a source and a sink over a file: their counts and whether it is open, but not its bytes.
-- This project's own.
use Rattle.std.specs.Prelude.{ℕ, Bool, is_some}
use Rattle.byte_io.specs.declared.file.FileSource.{FileSource}
use Rattle.byte_io.specs.declared.file.FileSink.{FileSink}

-- how often the source's file can still be read
abbrev pub file_source_turns : {R F G : Type 0} → FileSource R F G → ℕ
file_source_turns source = source.turns

-- how often the source failed, as far as a `u64` counts
abbrev pub file_source_faults : {R F G : Type 0} → FileSource R F G → ℕ
file_source_faults source = source.faults

-- whether the source's file is open
abbrev pub is_source_open : {R F G : Type 0} → FileSource R F G → Bool
is_source_open source = is_some source.file

-- how often the sink failed, as far as a `u64` counts
abbrev pub file_sink_faults : {R F G : Type 0} → FileSink R F G → ℕ
file_sink_faults sink = sink.faults

-- whether the sink's file is open
abbrev pub is_sink_open : {R F G : Type 0} → FileSink R F G → Bool
is_sink_open sink = is_some sink.file
