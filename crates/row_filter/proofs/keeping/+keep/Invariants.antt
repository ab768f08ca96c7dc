use Rattle.std.proofs.Common.{◌≡◌, true, false, take}
use Rattle.std.specs.List.{list_all, list_any}
use Rattle.row_page.specs.Views.{fields_in}
use Rattle.row_filter.specs.Rows.{keeps_row}
use Rattle.row_filter.proofs.keeping.+keep.Given as goal

-- each one so far keeps the row
abbrev pub invariant-all_keep-loop-part : goal.invariant-all_keep-loop-part
invariant-all_keep-loop-part l = record { keep : list_all (λ part. keeps_row part (fields_in l.fn.row)) (take l.part-index l.fn.parts) ≡ true }

-- none so far keeps the row
abbrev pub invariant-some_keeps-loop-part : goal.invariant-some_keeps-loop-part
invariant-some_keeps-loop-part l = record { drop : list_any (λ part. keeps_row part (fields_in l.fn.row)) (take l.part-index l.fn.parts) ≡ false }
