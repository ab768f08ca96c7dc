use Rattle.std.proofs.Common.{◌≡◌}
use Rattle.row_page.specs.Pages.{empty_page}
use Rattle.spill_disk.specs.Files.{IsThere}
use Rattle.rates.proofs.merging.spill_to.Given as goal

-- the kind stays, the page is empty, and the run's file is there
abbrev pub invariant-loop-turn : goal.invariant-loop-turn
invariant-loop-turn g l = record {
  kind : (g.C.Consumer.state l.consumer).kind ≡ (g.C.Consumer.state l.fn.consumer).kind;
  page : l.page ≡ empty_page;
  there : IsThere (g.D.Disk.files l.disk) l.writer.file;
  disk : l.writer.disk ≡ l.fn.writer.disk;
}
