-- The plan of a job over a header, put together from its chain and its passes.
use Rattle.std.proofs.Common.{◌≡◌, ◌≤◌, ◌+◌, ◌∙◌, ℕ, List, None, length, map, sym, ap, arith, subst, slice_index}
use Rattle.std.specs.Prelude.{All, IfSome}
use Rattle.std.specs.List.{range_with_len}
use Rattle.std.proofs.lemmas.List.{length-map}
use Rattle.row_filter.specs.Chains.{form_of, links_of}
use Rattle.row_filter.specs.Lines.{AreOrdered}
use Rattle.row_filter.specs.Rows.{HasTestedColumns}
use Rattle.row_filter.specs.declared.chain.Chain.{Chain}
use Rattle.row_filter.specs.declared.chain.Link.{Link}
use Rattle.row_form.specs.declared.form.Form.TheVariants.{Landed}
use Rattle.row_form.specs.declared.number_list.NumberPlace.{NumberPlace}
use Rattle.job_text.specs.Jobs.{IsJob}
use Rattle.job_text.specs.declared.job.Dataset.{Dataset}
use Rattle.job_text.specs.declared.job.Job.{Job}
use Rattle.job_text.specs.declared.job.Query.{Query}
use Rattle.job_plan.specs.Columns.{Fields, kept_place, linked, missing}
use Rattle.job_plan.specs.Making.{AreFound, ArePasses, ArePlannedOf, IsChainOf, name_for, place_in, places_over}
use Rattle.job_plan.specs.Moved.{link_over}
use Rattle.job_plan.specs.Passes.{pass_datasets, queries_over, removed_after}
use Rattle.job_plan.specs.Planning.{ArePlanned, FitsChain, IsPass, IsPlanned}
use Rattle.row_form.specs.Forms.{columns_of, is_landed}
use Rattle.job_plan.specs.Plans.{IsPlanOf}
use Rattle.job_plan.specs.declared.passing.Pass.{Pass}
use Rattle.job_plan.specs.declared.planned.Planned.{Planned}
use Rattle.job_plan.specs.declared.query_plan.Plan.{Plan}
use Rattle.job_plan.proofs.Linked.{links_covered, links_ordered}
use Rattle.job_plan.proofs.PassLists.{are_passes, few_passes, some_pass, their_datasets, their_queries}
use Rattle.job_plan.proofs.Whole.{asked_there, indexes, kept_within, links_are, names_are, numbers_is, over_is, planned_is, the-kept}

module _ (job : Job) (header : Fields) (places : List ℕ) (is : IsJob job) (found : AreFound job.names header places) where
  abbrev names-count : ℕ
  names-count = length job.names

  abbrev pub kept-count : ℕ
  kept-count = length (the-kept job header places is found)

  abbrev move : ℕ → ℕ
  move = slice_index (indexes job header places is found)

  abbrev Told : List Planned → Type 0
  Told ps = ArePlannedOf job.names (indexes job header places is found) job.queries ps

  module _ (chain : Chain) (n : ℕ) (ps : List Planned) (made : IsChainOf n move job.datasets ps chain) (wide : n ≡ kept-count) where
    links : links_of chain ≡ linked job header
    links = made.links ∙ links_are job header places is found

    columns : columns_of (form_of chain) ≡ kept-count
    columns = ap columns_of made.form ∙ wide

    pub as_many : length (links_of chain) ≡ length job.datasets
    as_many = ap length links ∙ length-map job.datasets (link_over (kept_place job header))

    pub fits_chain : FitsChain (form_of chain) (links_of chain)
    fits_chain = record {
      landed = ap is_landed made.form;
      few = omega (arith, is.datasets.few, as_many);
      ordered = subst AreOrdered (sym links) (links_ordered (kept_place job header) names-count job.datasets is.datasets);
      covered = subst (λ (m : ℕ). All (λ (link : Link). IfSome link.filter (HasTestedColumns (m + 1))) (links_of chain)) (sym columns)
          (subst (All (λ (link : Link). IfSome link.filter (HasTestedColumns (kept-count + 1)))) (sym links)
          (links_covered (kept_place job header) names-count kept-count (kept_within job header places is found) job.datasets is.datasets));
    }

    -- as many datasets are asked for as there are queries
    pub asked_few : Told ps → length (map (λ (p : Planned). p.dataset) ps) ≤ 8
    asked_few told = omega (arith, is.several.few, ap length told.datasets, length-map job.queries (λ (q : Query). q.dataset))

    pub are_asked : Told ps → All (λ (d : ℕ). d ≤ length (links_of chain)) (map (λ (p : Planned). p.dataset) ps)
    are_asked told = asked_there job header places is found (length (links_of chain)) ps as_many told

    pub are_planned : (passes : List Pass) → ArePasses (links_of chain) (map (λ (p : Planned). p.dataset) ps) passes → Told ps → ArePlanned (form_of chain) (links_of chain) ps passes
    are_planned passes are told =
        let asked = map (λ (p : Planned). p.dataset) ps in
        let many : length asked ≡ length ps = length-map ps (λ (p : Planned). p.dataset) in
        let several : length asked ≡ length job.queries = ap length told.datasets ∙ length-map job.queries (λ (q : Query). q.dataset) in
        record {
          chain = fits_chain;
          few = omega (arith, many, several, is.several.few);
          each = subst (λ (m : ℕ). All (IsPlanned m) ps) (sym columns) (planned_is job header places is found ps told);
          some = some_pass asked (links_of chain) passes are (omega (arith, several, is.several.some));
          several = omega (arith, few_passes asked (links_of chain) passes are, several, is.several.few);
          passes = subst (λ (m : ℕ). All (IsPass (length (links_of chain)) m) passes) many (are_passes asked (links_of chain) passes are (length (links_of chain)) (are_asked told));
        }

  -- the chain, as it was told of lists that are these
  pub made_of : (k k' k'' ix ix' : List ℕ) (ds : List Dataset) (ps ps' : List Planned) (chain : Chain) → k ≡ the-kept job header places is found → k' ≡ k → k'' ≡ k
      → ix ≡ map (place_in k') places → ix' ≡ ix → ds ≡ job.datasets → ps' ≡ ps → IsChainOf (length k'') (slice_index ix') ds ps' chain → IsChainOf kept-count move job.datasets ps chain
  made_of k k' k'' ix ix' ds ps ps' chain e e' e'' i i' d p made =
      let at : ix' ≡ indexes job header places is found = i' ∙ i ∙ ap (λ list. map (place_in list) places) (e' ∙ e) in
      subst (λ (n : ℕ). IsChainOf n move job.datasets ps chain) (ap length (e'' ∙ e))
      (subst (λ (list : List ℕ). IsChainOf (length k'') (slice_index list) job.datasets ps chain) at
      (subst (λ (list : List Dataset). IsChainOf (length k'') (slice_index ix') list ps chain) d
      (subst (λ (list : List Planned). IsChainOf (length k'') (slice_index ix') ds list chain) p made)))

  pub is_plan : (plan : Plan) (n : ℕ) → missing job.names header ≡ None → plan.places.items ≡ the-kept job header places is found
      → plan.columns.items ≡ map (name_for job.names places) (the-kept job header places is found) → plan.names.items ≡ map (λ (d : Dataset). d.name) job.datasets
      → IsChainOf n move job.datasets plan.queries.items plan.chain → n ≡ kept-count
      → ArePasses (links_of plan.chain) (map (λ (p : Planned). p.dataset) plan.queries.items) plan.passes.items → plan.first_task ≡ 0 → Told plan.queries.items → IsPlanOf job header plan
  is_plan plan n there at columns_are names made wide are first told =
      let ps = plan.queries.items in
      let asked = map (λ (p : Planned). p.dataset) ps in
      let chained : links_of plan.chain ≡ linked job header = made.links ∙ links_are job header places is found in
      record {
        found = there;
        places = at;
        columns = columns_are ∙ names_are job header places is found;
        names = names;
        links = chained;
        base = made.base;
        first = first;
        form = made.form ∙ ap (λ (all : List Link). Landed n (places_over all ps n)) (links_are job header places is found)
            ∙ ap (λ (m : ℕ). Landed m (places_over (linked job header) ps m)) wide
            ∙ ap (λ (list : List NumberPlace). Landed kept-count list) (numbers_is job header places is found ps told);
        datasets = told.datasets;
        shapes = told.shapes;
        over = over_is job header places is found ps told;
        headings = told.headings;
        passes = their_datasets asked (links_of plan.chain) plan.passes.items are ∙ ap pass_datasets told.datasets;
        queries = their_queries asked (links_of plan.chain) plan.passes.items are
            ∙ ap (λ (list : List ℕ). map (queries_over list) (pass_datasets list)) told.datasets;
        removed = are.removed
            ∙ ap (λ (all : List Link). map (removed_after all (pass_datasets asked)) (range_with_len 0 (length (pass_datasets asked)))) chained
            ∙ ap (λ (list : List ℕ). map (removed_after (linked job header) (pass_datasets list)) (range_with_len 0 (length (pass_datasets list)))) told.datasets;
      }
