-- What a sink in memory has taken.
-- This project's own.
use Rattle.std.specs.Prelude.{ℕ, List}
use Rattle.trial_input.specs.declared.sink.TextSink.{TextSink}

-- the bytes that it has taken
abbrev pub text_taken : TextSink → List ℕ
text_taken sink = sink.bytes.items
