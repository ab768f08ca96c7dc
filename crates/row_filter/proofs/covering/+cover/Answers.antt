use Rattle.std.proofs.Common.{All, IsTrue, ◌↔◌}
use Rattle.row_filter.specs.Rows.{HasTestedColumns}
use Rattle.row_filter.proofs.Columns.{and_covered, covered_and, covered_or, or_covered}
use Rattle.row_filter.proofs.covering.+cover.Goals as goal

pub covers-returns-in-And : goal.covers-returns-in-And
covers-returns-in-And t c =
    let fields = c.args.fields in
    let parts = c.in-And.parts in
    let each : IsTrue c.all_covered.result ↔ All (HasTestedColumns fields) parts = rw c.items.ensures at c.all_covered.ensures in
    rw c.in-And.is (λ h. covered_and fields parts (each.0 h), λ h. each.1 (and_covered fields parts h))

pub covers-returns-in-Or : goal.covers-returns-in-Or
covers-returns-in-Or t c =
    let fields = c.args.fields in
    let parts = c.in-Or.parts in
    let each : IsTrue c.all_covered-in-Or.result ↔ All (HasTestedColumns fields) parts = rw c.items-in-Or.ensures at c.all_covered-in-Or.ensures in
    rw c.in-Or.is (λ h. covered_or fields parts (each.0 h), λ h. each.1 (or_covered fields parts h))
