use Rattle.std.proofs.Common.{◌≡◌}
use Rattle.row_page.specs.Pages.{empty_page}
use Rattle.rates.proofs.feeding.spill.Given as goal

-- the kind stays, and the page is empty
abbrev pub invariant-loop-turn : goal.invariant-loop-turn
invariant-loop-turn g l = record {
  kind : (g.C.Consumer.state l.consumer).kind ≡ (g.C.Consumer.state l.fn.consumer).kind;
  page : l.page ≡ empty_page;
}
