-- What holds of each query of a plan.
use Rattle.std.proofs.Common.{◌≡◌, ◌<◌, ◌∙◌, ℕ, Option, Some, None, List, [], length, map, get_or, sym, ap, subst}
use Rattle.std.specs.Prelude.{All, IfSome}
use Rattle.std.proofs.Math.Logic.{∥∥₁_elim}
use Rattle.std.proofs.Props.{props}
use Rattle.std.proofs.lemmas.List.{get_or-map}
use Rattle.row_filter.specs.Chains.{form_of, links_of}
use Rattle.row_filter.specs.Rows.{HasTestedColumns}
use Rattle.row_filter.specs.declared.chain.Chain.{Chain}
use Rattle.row_filter.specs.declared.chain.Link.{Link}
use Rattle.row_filter.specs.declared.filter.Filter.{Filter}
use Rattle.row_form.specs.Forms.{HasForm, columns_of}
use Rattle.row_form.specs.declared.form.Form.{Form}
use Rattle.job_text.specs.Jobs.{IsShape}
use Rattle.job_plan.specs.declared.passing.Pass.{Pass}
use Rattle.job_plan.specs.declared.planned.Planned.{Planned}
use Rattle.job_plan.specs.Entries.{kind_of}
use Rattle.job_plan.specs.Planning.{ArePlanned, FitsChain, FitsQueries, IsPass, IsPlanned}
use Rattle.job_plan.specs.Plans.{no_shape}
use Rattle.job_plan.proofs.Sizes.{landed-has}

-- a query that is read has the shape over kept columns that stands at its place
pub kept_read : (ps : List Planned) (i : ℕ) (p : Planned) → i < length ps → p ≡ get_or ps i p
    → get_or (map (λ (q : Planned). q.kept) ps) i no_shape ≡ p.kept
kept_read ps i p lt e = get_or-map (λ (q : Planned). q.kept) ps i p no_shape lt ∙ ap (λ (q : Planned). q.kept) (sym e)

-- and what is planned of each
pub planned_read : (n : ℕ) (ps : List Planned) (i : ℕ) (p : Planned) → i < length ps → p ≡ get_or ps i p → All (IsPlanned n) ps → IsPlanned n p
planned_read n ps i p lt e all = subst (λ (q : Planned). IsPlanned n q) (sym e) (all i p lt)

pub kind_read : (n : ℕ) (ps : List Planned) (i : ℕ) (p : Planned) → i < length ps → p ≡ get_or ps i p → All (IsPlanned n) ps
    → p.kind ≡ kind_of (get_or (map (λ (q : Planned). q.kept) ps) i no_shape)
kind_read n ps i p lt e all = (planned_read n ps i p lt e all).kind ∙ ap kind_of (sym (kept_read ps i p lt e))

-- what follows from a query's shape over the columns of a landed row
pub with_shape : (chain : Chain) (ps : List Planned) (over : List Pass) (i : ℕ) (p : Planned) (row : List (List ℕ)) (Q : Type 0)
    → ∥ ArePlanned (form_of chain) (links_of chain) ps over ∥₁ → i < length ps → p ≡ get_or ps i p → HasForm (form_of chain) row → IsProp Q
    → ((n : ℕ) → n < length row → length (get_or row 0 []) ≡ 8 → IsShape n p.kept → Q) → Q
with_shape chain ps over i p row Q known lt e form prop use_it = ∥∥₁_elim known prop (λ h. go h)
  where
    go : ArePlanned (form_of chain) (links_of chain) ps over → Q
    go h =
        let shape : IsShape (columns_of (form_of chain)) p.kept = (planned_read (columns_of (form_of chain)) ps i p lt e h.each).shape in
        let wide = landed-has (form_of chain) row p.kept form shape in
        use_it (columns_of (form_of chain)) wide.0 wide.1 shape

-- ---- what holds of each plan is no choice

own-prop : (n : ℕ) (filter : Option Filter) → IsProp (IfSome filter (HasTestedColumns n))
own-prop n None = hlevel props
own-prop n (Some f) = hlevel props

pub chain-prop : (form : Form) (links : List Link) → IsProp (FitsChain form links)
chain-prop form links = hlevel (props, own-prop)

pub queries-prop : (count : ℕ) (queries : List ℕ) → IsProp (FitsQueries count queries)
queries-prop count queries = hlevel props

-- ---- a pass that is read

pub pass_field : {Y : Type 0} (f : Pass → Y) (ps : List Pass) (i : ℕ) (p : Pass) (e : Y) → i < length ps → p ≡ get_or ps i p → f p ≡ get_or (map f ps) i e
pass_field f ps i p e lt at = sym (get_or-map f ps i p e lt ∙ ap f (sym at))

pub pass_read : (datasets count : ℕ) (ps : List Pass) (i : ℕ) (p : Pass) → i < length ps → p ≡ get_or ps i p → All (IsPass datasets count) ps → IsPass datasets count p
pass_read datasets count ps i p lt at all = subst (λ (q : Pass). IsPass datasets count q) (sym at) (all i p lt)
