use Rattle.std.proofs.Math.Logic.{∥∥₁_elim}
use Rattle.std.proofs.Props.{props}
use Rattle.std.proofs.lemmas.Result.{on_ok_weaker}
use Rattle.row_page.specs.Views.{fields_in}
use Rattle.job_plan.proofs.Sizes.{row-short, value-order}
use Rattle.job_plan.proofs.entries.put_value.Goals as goal

pub put_columns-requires-clause-short : goal.put_columns-requires-clause-short
put_columns-requires-clause-short c =
    ∥∥₁_elim c.args.row.now.formed (hlevel props) (λ h. row-short c.args.row.now.bytes.now (fields_in c.args.row.now) h)

pub returns-in-Order : goal.returns-in-Order
returns-in-Order c =
    let same = value-order (fields_in c.args.row.now) c.in-Order.keys c.in-Order.columns in
    on_ok_weaker c.put_columns.result (λ h. cc (h, same)) c.put_columns.ensures
