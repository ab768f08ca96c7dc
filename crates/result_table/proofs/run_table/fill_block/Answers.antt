use Rattle.std.proofs.Common.{ℕ, Bool}
use Rattle.std.specs.Global.{Global}
use Rattle.std.specs.Prelude.{Vec}
use Rattle.std.proofs.lemmas.Result.{err_from_is_err_and}
use Rattle.result_table.proofs.Stopping.{stops_as}
use Rattle.result_table.proofs.run_table.fill_block.Goals as goal

pub returns-in_err-more-clause-stops : goal.returns-in_err-more-clause-stops
returns-in_err-more-clause-stops g c =
    let p = err_from_is_err_and c.from_residual.result c.from_residual.ensures.1 in
    rw (p.1, p.2) (stops_as Bool (Vec ℕ Global × Bool) c.args.shape.now _ c.args.reader.now _ c.in_err-more.ensures.stops)
