-- What a source holds over std's readers, and a sink over std's writers.
-- This project's own.
use Rattle.std.specs.Prelude.{ℕ, List, Option, None}
use Rattle.byte_io.specs.declared.stream.StdSource.{StdSource}
use Rattle.byte_io.specs.declared.stream.StdSink.{StdSink}

-- the reader that it reads
abbrev pub reader_of : {R : Type 0} → StdSource R → R
reader_of source = source.reader

-- the bytes that it tells: it tells nothing, whatever its reader does
abbrev pub source_tells : {R : Type 0} → StdSource R → Option (List ℕ)
source_tells source = None

-- how often it can still be read
abbrev pub turns_of : {R : Type 0} → StdSource R → ℕ
turns_of source = source.turns

-- how often it failed, as far as a `u64` counts
abbrev pub reader_faults : {R : Type 0} → StdSource R → ℕ
reader_faults source = source.faults

-- the writer that it writes to
abbrev pub writer_of : {W : Type 0} → StdSink W → W
writer_of sink = sink.writer

-- the bytes that it tells: it tells nothing, whatever its writer does
abbrev pub sink_tells : {W : Type 0} → StdSink W → Option (List ℕ)
sink_tells sink = None

-- how often it failed, as far as a `u64` counts
abbrev pub writer_faults : {W : Type 0} → StdSink W → ℕ
writer_faults sink = sink.faults
