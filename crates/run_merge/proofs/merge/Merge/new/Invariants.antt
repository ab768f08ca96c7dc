use Rattle.std.proofs.Common.{◌≡◌, ℕ, map, take, length, false}
use Rattle.std.specs.Prelude.{sum_by}
use Rattle.row_form.specs.declared.form.Form.TheVariants.{Entries}
use Rattle.run_file.specs.Readers.{form_of, run_of}
use Rattle.run_file.specs.Reading.{Begins}
use Rattle.run_merge.specs.Heads.{EachReader, has_head}
use Rattle.run_merge.specs.Merging.{left_by}
use Rattle.run_merge.proofs.merge.Merge.new.Given as goal

abbrev pub invariant-loop-run : goal.invariant-loop-run
invariant-loop-run l = record {
  heads : length l.heads.items ≡ length l.readers.items;
  as_many : length l.fronts.items ≡ length l.readers.items;
  runs : map run_of l.readers.items ≡ take l.run-index l.runs;
  none : (k : ℕ) → has_head l.heads.items k ≡ false;
  forms : EachReader l.readers.items (λ k reader. form_of reader ≡ Entries l.kind);
  begins : EachReader l.readers.items (λ k reader. Begins reader);
  left : left_by l.readers.items l.heads.items ≡ sum_by (λ run. run.count) (take l.run-index l.runs);
}
