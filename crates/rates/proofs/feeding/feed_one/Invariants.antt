use Rattle.std.proofs.Common.{◌≡◌}
use Rattle.row_page.specs.Pages.{empty_page}
use Rattle.consumer_trait.specs.States.{Rest}
use Rattle.rates.proofs.feeding.feed_one.Given as goal

-- the consumer rests, of its kind, and the page is empty
abbrev pub invariant-loop-attempt : goal.invariant-loop-attempt
invariant-loop-attempt g l = record {
  kind : (g.C.Consumer.state l.consumer).kind ≡ (g.C.Consumer.state l.fn.consumer).kind;
  rest : (g.C.Consumer.state l.consumer).stage ≡ Rest;
  page : l.page ≡ empty_page;
}
