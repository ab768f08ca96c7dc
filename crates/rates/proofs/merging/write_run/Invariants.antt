use Rattle.std.proofs.Common.{◌≡◌, Some}
use Rattle.aggregate.specs.declared.kind.Kind.TheVariants.{Order}
use Rattle.row_page.specs.Pages.{empty_page}
use Rattle.consumer_trait.specs.States.{Rest}
use Rattle.row_sorter.specs.Sorters.{state_of}
use Rattle.rates.proofs.merging.write_run.Given as goal

-- the sorter rests, and the page is empty
abbrev pub invariant-loop-entry : goal.invariant-loop-entry
invariant-loop-entry l = record {
  kind : (state_of l.sorter).kind ≡ Some Order;
  rest : (state_of l.sorter).stage ≡ Rest;
  page : l.page ≡ empty_page;
}
