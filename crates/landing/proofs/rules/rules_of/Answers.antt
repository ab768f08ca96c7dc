use Rattle.std.proofs.Common.{◌≡◌, ◌∙◌, sym}
use Rattle.csv.specs.Records.{fields_of}
use Rattle.job_plan.specs.Columns.{kept, number_places}
use Rattle.landing.proofs.Keeping.{numbers_within}
use Rattle.landing.proofs.rules.rules_of.Goals as goal

pub heads_of-requires : goal.heads_of-requires
heads_of-requires c =
    let job = c.args.job.now in
    let header = fields_of c.args.header.now in
    let planned = c.in-Ok.ensures.ok in
    let form = sym c.in-Landed.is ∙ c.form.ensures in
    let numbers : c.items.result.now ≡ number_places job header = cc (form, c.chain.ensures.is, planned.form) in
    let places : c.places.result.now ≡ kept job.names header = c.places.ensures ∙ planned.places in
    rw (numbers, places) (numbers_within job header)
