use Rattle.std.proofs.Common.{◌≡◌, ◌∙◌, List, ℕ, ap, arith, map, refl, subst}
use Rattle.csv.specs.Records.{fields_of}
use Rattle.row_filter.specs.Chains.{links_of}
use Rattle.job_text.specs.declared.job.Dataset.{Dataset}
use Rattle.job_plan.specs.Columns.{kept}
use Rattle.job_plan.specs.Making.{ArePasses, ascending, name_for}
use Rattle.job_plan.specs.declared.planned.Planned.{Planned}
use Rattle.job_plan.proofs.Assembled.{are_asked, are_planned, asked_few, fits_chain, is_plan, kept-count, made_of}
use Rattle.job_plan.proofs.Whole.{kept_is, told_of}
use Rattle.job_plan.proofs.making.plan_at.Goals as goal

pub make_passes-requires : goal.make_passes-requires
make_passes-requires c =
    let job = c.args.job.now in
    let header = fields_of c.args.header.now in
    let places = c.args.places.now in
    let queries = c.in_ok-queries.queries.items in
    let same : c.in_ok-kept.kept.items ≡ kept job.names header =
    c.in_ok-kept.ensures.found ∙ ap (λ n. ascending places n) c.len.ensures ∙ kept_is header job.names places c.requires.places in
    let told = told_of job header places c.requires.job c.requires.places c.items.result.now c.in_ok-kept.kept.items c.deref.result.now c.in_ok-indexes.indexes.items c.deref-2.result.now
    c.items-2.result.now queries c.items.ensures same c.deref.ensures.value c.in_ok-indexes.ensures c.deref-2.ensures.value c.items-2.ensures c.in_ok-queries.ensures.planned in
    let made = made_of job header places c.requires.job c.requires.places c.in_ok-kept.kept.items c.deref.result.now c.deref-3.result.now c.in_ok-indexes.indexes.items c.deref-4.result.now
    c.items-3.result.now queries c.deref-5.result.now c.in_ok-chain.chain same c.deref.ensures.value c.deref-3.ensures.value c.in_ok-indexes.ensures c.deref-4.ensures.value c.items-3.ensures c.deref-5.ensures.value c.in_ok-chain.ensures in
    let asked : c.deref-7.result.now ≡ map (λ (p : Planned). p.dataset) queries =
    c.deref-7.ensures.value ∙ c.in_ok-datasets_of.ensures ∙ ap (map (λ (p : Planned). p.dataset)) c.deref-6.ensures.value in
    let count = kept-count job header places c.requires.job c.requires.places in
    let fits = fits_chain job header places c.requires.job c.requires.places c.in_ok-chain.chain count queries made refl in
    record {
      few = fits.few;
      ordered = fits.ordered;
      queries = rw asked (asked_few job header places c.requires.job c.requires.places c.in_ok-chain.chain count queries made refl told);
      there = rw asked (are_asked job header places c.requires.job c.requires.places c.in_ok-chain.chain count queries made refl told);
    }

pub invariant_of-result : goal.invariant_of-result
invariant_of-result c =
    let job = c.args.job.now in
    let header = fields_of c.args.header.now in
    let places = c.args.places.now in
    let queries = c.in_ok-queries.queries.items in
    let same : c.in_ok-kept.kept.items ≡ kept job.names header =
    c.in_ok-kept.ensures.found ∙ ap (λ n. ascending places n) c.len.ensures ∙ kept_is header job.names places c.requires.places in
    let told = told_of job header places c.requires.job c.requires.places c.items.result.now c.in_ok-kept.kept.items c.deref.result.now c.in_ok-indexes.indexes.items c.deref-2.result.now
    c.items-2.result.now queries c.items.ensures same c.deref.ensures.value c.in_ok-indexes.ensures c.deref-2.ensures.value c.items-2.ensures c.in_ok-queries.ensures.planned in
    let made = made_of job header places c.requires.job c.requires.places c.in_ok-kept.kept.items c.deref.result.now c.deref-3.result.now c.in_ok-indexes.indexes.items c.deref-4.result.now
    c.items-3.result.now queries c.deref-5.result.now c.in_ok-chain.chain same c.deref.ensures.value c.deref-3.ensures.value c.in_ok-indexes.ensures c.deref-4.ensures.value c.items-3.ensures c.deref-5.ensures.value c.in_ok-chain.ensures in
    let asked : c.deref-7.result.now ≡ map (λ (p : Planned). p.dataset) queries =
    c.deref-7.ensures.value ∙ c.in_ok-datasets_of.ensures ∙ ap (map (λ (p : Planned). p.dataset)) c.deref-6.ensures.value in
    let count = kept-count job header places c.requires.job c.requires.places in
    let are : ArePasses (links_of c.in_ok-chain.chain) (map (λ (p : Planned). p.dataset) queries) c.in_ok-passes.passes.items =
    subst (λ (list : List ℕ). ArePasses (links_of c.in_ok-chain.chain) list c.in_ok-passes.passes.items) asked c.in_ok-passes.ensures in
    record {
      planned = ∣ are_planned job header places c.requires.job c.requires.places c.in_ok-chain.chain count queries made refl c.in_ok-passes.passes.items are told ∣₁;
      low = omega arith;
    }

pub returns : goal.returns
returns c =
    let job = c.args.job.now in
    let header = fields_of c.args.header.now in
    let places = c.args.places.now in
    let queries = c.in_ok-queries.queries.items in
    let same : c.in_ok-kept.kept.items ≡ kept job.names header =
    c.in_ok-kept.ensures.found ∙ ap (λ n. ascending places n) c.len.ensures ∙ kept_is header job.names places c.requires.places in
    let told = told_of job header places c.requires.job c.requires.places c.items.result.now c.in_ok-kept.kept.items c.deref.result.now c.in_ok-indexes.indexes.items c.deref-2.result.now
    c.items-2.result.now queries c.items.ensures same c.deref.ensures.value c.in_ok-indexes.ensures c.deref-2.ensures.value c.items-2.ensures c.in_ok-queries.ensures.planned in
    let made = made_of job header places c.requires.job c.requires.places c.in_ok-kept.kept.items c.deref.result.now c.deref-3.result.now c.in_ok-indexes.indexes.items c.deref-4.result.now
    c.items-3.result.now queries c.deref-5.result.now c.in_ok-chain.chain same c.deref.ensures.value c.deref-3.ensures.value c.in_ok-indexes.ensures c.deref-4.ensures.value c.items-3.ensures c.deref-5.ensures.value c.in_ok-chain.ensures in
    let asked : c.deref-7.result.now ≡ map (λ (p : Planned). p.dataset) queries =
    c.deref-7.ensures.value ∙ c.in_ok-datasets_of.ensures ∙ ap (map (λ (p : Planned). p.dataset)) c.deref-6.ensures.value in
    let are : ArePasses (links_of c.in_ok-chain.chain) (map (λ (p : Planned). p.dataset) queries) c.in_ok-passes.passes.items =
    subst (λ (list : List ℕ). ArePasses (links_of c.in_ok-chain.chain) list c.in_ok-passes.passes.items) asked c.in_ok-passes.ensures in
    let columns : c.in_ok-columns.columns.items ≡ map (name_for job.names places) (kept job.names header) =
    c.in_ok-columns.ensures ∙ ap (λ (names : List (List ℕ)). map (name_for names places) c.deref-8.result.now) c.items-4.ensures ∙ ap (map (name_for job.names places)) (c.deref-8.ensures.value ∙ same) in
    let names = c.in_ok-names.ensures ∙ ap (map (λ (d : Dataset). d.name)) c.items-5.ensures in
    is_plan job header places c.requires.job c.requires.places _ (kept-count job header places c.requires.job c.requires.places) c.requires.found same columns names made refl are refl told
