-- What a source over bytes in memory has still to give.
-- This project's own.
use Rattle.std.specs.Prelude.{ℕ, ◌-◌, List, drop, length}
use Rattle.trial_input.specs.declared.source.TextSource.{TextSource}

-- the bytes that it has still to give
abbrev pub text_left : TextSource → List ℕ
text_left source = drop source.at source.text.now

-- how many bytes that is
abbrev pub bytes_left : TextSource → ℕ
bytes_left source = length source.text.now - source.at
