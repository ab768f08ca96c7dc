use Rattle.std.proofs.Common.{◌≡◌, ◌≤◌, ◌<◌, ◌+◌, ◌*◌, length, arith}
use Rattle.std.proofs.Props.{props}
use Rattle.std.proofs.lemmas.List.{length-map}
use Rattle.std.proofs.lemmas.Result.{on_ok_weaker}
use Rattle.row_page.specs.Views.{fields_in}
use Rattle.job_plan.specs.Entries.{field_bytes, key_of, kind_of, value_of}
use Rattle.job_plan.specs.Plans.{kept_at}
use Rattle.job_plan.specs.Within.{HasColumnsOf}
use Rattle.job_plan.specs.declared.planned.Planned.{Planned}
use Rattle.job_plan.proofs.Queries.{kept_read, with_shape}
use Rattle.job_plan.proofs.Sizes.{covers, covers-prop, key-long, value-kind, value-long, value-prop}
use Rattle.job_plan.proofs.query_plan.Plan.entry.Goals as goal

pub put_key-requires-clause-covers : goal.put_key-requires-clause-covers
put_key-requires-clause-covers c =
    let plan = c.args.self.now in
    let row = fields_in c.args.row in
    let query = c.index.result.now in
    let within : c.args.query < length plan.queries.items = omega (arith, length-map plan.queries.items (λ (q : Planned). q.kept)) in
    with_shape plan.chain plan.queries.items plan.passes.items c.args.query query row (HasColumnsOf row query.kept) plan.planned within c.index.ensures c.requires.row (covers-prop row query.kept)
    (λ n e eight s. covers row n query.kept e s)

pub put_value-requires : goal.put_value-requires
put_value-requires c =
    let plan = c.args.self.now in
    let row = fields_in c.args.row in
    let query = c.index.result.now in
    let within : c.args.query < length plan.queries.items = omega (arith, length-map plan.queries.items (λ (q : Planned). q.kept)) in
    with_shape plan.chain plan.queries.items plan.passes.items c.args.query query row (HasColumnsOf row query.kept) plan.planned within c.index.ensures c.requires.row (covers-prop row query.kept)
    (λ n e eight s. covers row n query.kept e s)

pub returns-clause-kind : goal.returns-clause-kind
returns-clause-kind c =
    let plan = c.args.self.now in
    let row = fields_in c.args.row in
    let query = c.index.result.now in
    let within : c.args.query < length plan.queries.items = omega (arith, length-map plan.queries.items (λ (q : Planned). q.kept)) in
    let same : kept_at plan c.args.query ≡ query.kept = kept_read plan.queries.items c.args.query query within c.index.ensures in
    on_ok_weaker c.put_value.result
    (λ h. (let is : c.put_value.new.value.items ≡ value_of query.kept row = cc h in
    rw (same, is) (with_shape plan.chain plan.queries.items plan.passes.items c.args.query query row _ plan.planned within c.index.ensures c.requires.row (value-prop (kind_of query.kept) (value_of query.kept row))
    (λ n e eight s. value-kind row n query.kept s)))) c.put_value.ensures

pub returns-clause-short_key : goal.returns-clause-short_key
returns-clause-short_key c =
    let plan = c.args.self.now in
    let row = fields_in c.args.row in
    let query = c.index.result.now in
    let within : c.args.query < length plan.queries.items = omega (arith, length-map plan.queries.items (λ (q : Planned). q.kept)) in
    let is : c.put_key.new.key.items ≡ key_of query.kept row = cc c.in_ok-put_key.ensures in
    on_ok_weaker c.put_value.result
    (λ _ short. with_shape plan.chain plan.queries.items plan.passes.items c.args.query query row _ plan.planned within c.index.ensures c.requires.row (hlevel props)
    (λ n e eight s. (let long : length (key_of query.kept row) ≤ 2 * field_bytes row + 72 = key-long row n query.kept e eight s in rw is (omega arith)))) c.put_value.ensures

pub returns-clause-short_value : goal.returns-clause-short_value
returns-clause-short_value c =
    let plan = c.args.self.now in
    let row = fields_in c.args.row in
    let query = c.index.result.now in
    let within : c.args.query < length plan.queries.items = omega (arith, length-map plan.queries.items (λ (q : Planned). q.kept)) in
    on_ok_weaker c.put_value.result
    (λ h short. with_shape plan.chain plan.queries.items plan.passes.items c.args.query query row _ plan.planned within c.index.ensures c.requires.row (hlevel props)
    (λ n e eight s. (let is : c.put_value.new.value.items ≡ value_of query.kept row = cc h in rw is (value-long row n query.kept e s short)))) c.put_value.ensures
