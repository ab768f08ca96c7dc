-- What the totals of parts come to.
-- This project's own.
use Rattle.std.specs.Prelude.{◌≡◌, List, map}
use Rattle.aggregate.specs.Totals.{Entry, total}
use Rattle.aggregate.specs.declared.kind.Kind.{Kind}
use Rattle.run_file.specs.Several.{concatenated}

-- what the totals of parts come to, the parts in order, is what all their entries come to
abbrev pub PartsTellAll : Type 0
PartsTellAll =
    (kind : Kind) (parts : List (List Entry)) → total kind (concatenated (map (total kind) parts)) ≡ total kind (concatenated parts)
