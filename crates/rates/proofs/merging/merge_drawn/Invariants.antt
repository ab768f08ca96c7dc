use Rattle.std.proofs.Common.{◌≡◌, Some, ◌-◌, ◌^◌}
use Rattle.aggregate.specs.declared.kind.Kind.TheVariants.{Order}
use Rattle.row_page.specs.Pages.{empty_page}
use Rattle.consumer_trait.specs.States.{Rest}
use Rattle.row_sorter.specs.Sorters.{state_of}
use Rattle.run_merge.specs.Merging.{runs_of}
use Rattle.run_file.specs.Several.{AreOn}
use Rattle.rates.proofs.merging.merge_drawn.Given as goal

-- the sorter rests, the page is empty, and the runs are on the one disk
abbrev pub invariant-loop-run : goal.invariant-loop-run
invariant-loop-run l = record {
  kind : (state_of l.sorter).kind ≡ Some Order;
  rest : (state_of l.sorter).stage ≡ Rest;
  page : l.page ≡ empty_page;
  on : AreOn (2 ^ 32 - 1) l.runs.items;
}

-- the merge's runs stay
abbrev pub invariant-loop-row : goal.invariant-loop-row
invariant-loop-row l = record {
  on : AreOn (2 ^ 32 - 1) (runs_of l.merge);
}
