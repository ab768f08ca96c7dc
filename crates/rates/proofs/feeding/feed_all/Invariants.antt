use Rattle.std.proofs.Common.{◌≡◌, Some}
use Rattle.row_page.specs.Pages.{empty_page}
use Rattle.consumer_trait.specs.States.{Rest}
use Rattle.rates.proofs.feeding.feed_all.Given as goal

-- the consumer rests, of its kind, and the page is empty
abbrev pub invariant-loop-entry : goal.invariant-loop-entry
invariant-loop-entry g l = record {
  kind : (g.C.Consumer.state l.consumer).kind ≡ Some l.kind;
  rest : (g.C.Consumer.state l.consumer).stage ≡ Rest;
  page : l.page ≡ empty_page;
}
