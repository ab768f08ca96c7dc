use Rattle.std.proofs.Common.{◌≡◌, ◌+◌, ◌-◌, ◌<◌, ◌≤◌, length, take, drop, rules}
use Rattle.std.proofs.lemmas.List.{take_rest}
use Rattle.run_file.specs.Filling.{BeginsRow}
use Rattle.run_file.specs.Reading.{BeginsDamaged}
use Rattle.run_file.proofs.Wholes.{one_checked, none_damaged, all_used}
use Rattle.run_file.proofs.whole.check_rows.Goals as goal

pub returns-in_default-clause-all : goal.returns-in_default-clause-all
returns-in_default-clause-all c rows are =
    let so_far = c.loop-found.invariant in
    let rest : take (length c.args.bytes.now - c.loop-found.at) (drop c.loop-found.at c.args.bytes.now) ≡ drop c.loop-found.at c.args.bytes.now = take_rest c.args.bytes.now c.loop-found.at in
    let damaged : BeginsDamaged c.args.form.now c.args.run.now.greatest (drop c.loop-found.at c.args.bytes.now) = rw rest at c.in_default.ensures.none in
    let more : c.loop-found.found < c.args.run.now.count = search rules in
    absurd (none_damaged c.args.form.now c.args.run.now c.args.bytes.now c.loop-found.at c.loop-found.found so_far more damaged rows are)

pub loop-found-preserved : goal.loop-found-preserved
loop-found-preserved c =
    let so_far = c.loop-found.invariant in
    let rest : take (length c.args.bytes.now - c.loop-found.at) (drop c.loop-found.at c.args.bytes.now) ≡ drop c.loop-found.at c.args.bytes.now = take_rest c.args.bytes.now c.loop-found.at in
    let next : BeginsRow c.args.form.now c.args.run.now.greatest (drop c.loop-found.at c.args.bytes.now) c.in-Some.size = rw rest at c.in-Some.ensures.some in
    let fits : 4 + c.in-Some.size ≤ length (drop c.loop-found.at c.args.bytes.now) = rw rest at c.in-Some.ensures.inside in
    let more : c.loop-found.found < c.args.run.now.count = search rules in
    one_checked c.args.form.now c.args.run.now c.args.bytes.now c.loop-found.at c.loop-found.found c.in-Some.size so_far more next fits

pub returns-clause-all : goal.returns-clause-all
returns-clause-all c rows are =
    let ended : c.args.run.now.count ≤ c.loop-found.found = search rules in
    all_used c.args.form.now c.args.run.now c.args.bytes.now c.loop-found.at c.loop-found.found c.loop-found.invariant ended rows are

pub returns-in_default-clause-why : goal.returns-in_default-clause-why
returns-in_default-clause-why c =
    let so_far = c.loop-found.invariant in
    let rest : take (length c.args.bytes.now - c.loop-found.at) (drop c.loop-found.at c.args.bytes.now) ≡ drop c.loop-found.at c.args.bytes.now = take_rest c.args.bytes.now c.loop-found.at in
    let damaged : BeginsDamaged c.args.form.now c.args.run.now.greatest (drop c.loop-found.at c.args.bytes.now) = rw rest at c.in_default.ensures.none in
    rw c.damage_of.ensures (c.loop-found.at, so_far.begins, damaged)
