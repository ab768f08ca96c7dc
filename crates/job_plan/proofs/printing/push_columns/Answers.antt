use Rattle.std.proofs.Common.{◌≡◌, ◌++◌, get_or, sym}
use Rattle.std.specs.Prelude.{codes, string_bytes}
use Rattle.job_plan.specs.PlanText.{column_text}
use Rattle.job_plan.proofs.Texts.{listed_more}
use Rattle.job_plan.proofs.printing.push_columns.Goals as goal

pub loop-i-preserved : goal.loop-i-preserved
loop-i-preserved c =
    let item = c.index-columns-i.result in
    let put : string_bytes c.push_column.new.out ≡ string_bytes c.push_comma.new.out ++ column_text (get_or c.args.columns.now c.loop-i.i item) =
    rw (sym c.index-columns-i.is) c.in_ok-push_column.ensures in
    listed_more column_text c.args.columns.now c.loop-i.i item (string_bytes c.args.out.now ++ codes "columns ") (string_bytes c.loop-i.out) (string_bytes c.push_comma.new.out)
    (string_bytes c.push_column.new.out) c.loop-i-test.true c.loop-i.invariant c.in_ok-push_comma.ensures put
