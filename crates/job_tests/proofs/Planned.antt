-- A plan's chain over landed runs is a lineage.
use Rattle.std.proofs.Common.{◌≡◌, ℕ, ◌+◌, ◌≤◌, List, All, refl, sym, subst, ◌∙◌, arith}
use Rattle.std.specs.Prelude.{IfSome}
use Rattle.row_form.specs.declared.form.Form.{Form}
use Rattle.row_form.specs.declared.form.Form.TheVariants.{Entries, Landed}
use Rattle.run_file.specs.declared.run.Run.{Run}
use Rattle.row_filter.specs.declared.chain.Chain.{Chain}
use Rattle.row_filter.specs.declared.chain.Link.{Link}
use Rattle.row_filter.specs.Chains.{base_of, form_of, links_of}
use Rattle.row_filter.specs.Rows.{HasTestedColumns}
use Rattle.job_plan.specs.Planning.{FitsChain}
use Rattle.lineage.specs.LineageViews.{IsLineage, LineageView}

abbrev pub lineage_with : Chain → List Run → ℕ → LineageView
lineage_with chain landed part_rows = record { chain = chain; landed = landed; part_rows = part_rows }

pub planned : (chain other : Chain) (landed : List Run) (part_rows base : ℕ) → FitsChain (form_of other) (links_of other) → chain ≡ other → base ≡ base_of other → base ≤ 4096 → IsLineage (lineage_with chain landed part_rows)
planned chain other landed part_rows base fits is named few =
    subst (λ (c : Chain). IsLineage (lineage_with c landed part_rows)) (sym is) (record {
      landed = fits.landed;
      ordered = fits.ordered;
      covered = fits.covered;
      named = let least = fits.few in omega (arith, least, named, few);
    })
