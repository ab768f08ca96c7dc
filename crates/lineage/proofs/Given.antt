-- What the basis says of a dataset's rows, and which are computed.
use Rattle.std.proofs.Common.{◌≡◌, ◌≢◌, ◌∙◌, ℕ, ◌<◌, ◌≤◌, List, length, Option, None, Some, refl, sym, ap}
use Rattle.std.specs.Prelude.{IsSome}
use Rattle.spill_disk.specs.Files.{Files}
use Rattle.run_file.proofs.Wholes.{same_rows}
use Rattle.run_file.specs.Runs.{Stands}
use Rattle.run_file.specs.declared.run.Run.{Run}
use Rattle.row_filter.specs.Chains.{level_at, links_of, parent_at}
use Rattle.row_filter.specs.Derived.{derived}
use Rattle.row_filter.specs.Lines.{AreOrdered}
use Rattle.row_filter.proofs.Lineage.{derived_made}
use Rattle.memory_core.specs.Caches.{AreGiven, RowsByName}
use Rattle.lineage.specs.LineageViews.{LineageView, name_for, own_rows, run_for}
use Rattle.lineage.specs.Standing.{HoldsInput, IsSaid, SaysDerived, SaysKept}

-- a run stands with one list of rows
one_list : (files : Option Files) (run : Run) (a b : List (List (List ℕ))) → Stands files run a → Stands files run b → a ≡ b
one_list None run a b one other = absurd one
one_list (Some files) run a b one other = same_rows _ a b one.1 other.1

module _ (given : RowsByName) (files : Option Files) (lineage : LineageView) (part dataset : ℕ) where
  said_rows : (rows : List (List (List ℕ))) → AreGiven given (name_for lineage.chain dataset) part rows → (said : Option (List (List (List ℕ))))
      → given (name_for lineage.chain dataset) part ≡ said → IsSome said → (wanted : List (List (List ℕ))) × (given (name_for lineage.chain dataset) part ≡ Some wanted) × (rows ≡ wanted)
  said_rows rows are None is some = absurd (cc some)
  said_rows rows are (Some wanted) is some = (wanted, is, are wanted is)

  -- the rows of a kept dataset's block are the dataset's
  pub block_derived : (rows input : List (List (List ℕ))) → 0 < dataset → dataset ≤ length (links_of lineage.chain) → SaysDerived given files lineage part
      → HoldsInput files lineage part input → SaysKept given lineage.chain part → IsSome (level_at lineage.chain dataset)
      → AreGiven given (name_for lineage.chain dataset) part rows → rows ≡ derived lineage.chain dataset input
  block_derived rows input some there says holds kept level are =
      let known = said_rows rows are (given (name_for lineage.chain dataset) part) refl (kept dataset there level) in
      let said : IsSaid given files lineage part dataset known.0 = says dataset known.0 some there known.1 in
      known.2 ∙ said.rows_are ∙ ap (derived lineage.chain dataset) (one_list files (run_for lineage part) said.input input said.holds.stands holds.stands)

  module _ (parent : ℕ) (is_parent : parent ≡ parent_at lineage.chain dataset) (other : dataset ≢ 0) (ordered : AreOrdered (links_of lineage.chain)) where
    -- what is made of the parent's rows is the dataset's
    pub made_derived : (rows made input : List (List (List ℕ))) → made ≡ own_rows lineage.chain dataset rows → rows ≡ derived lineage.chain parent input → made ≡ derived lineage.chain dataset input
    made_derived rows made input made_of is =
        made_of ∙ ap (own_rows lineage.chain dataset) (is ∙ ap (λ (d : ℕ). derived lineage.chain d input) is_parent) ∙ sym (derived_made lineage.chain dataset input ordered other)

    -- and so it is what the basis says
    pub made_given : (rows : List (List (List ℕ))) → 0 < dataset → dataset ≤ length (links_of lineage.chain) → SaysDerived given files lineage part
        → ((input : List (List (List ℕ))) → HoldsInput files lineage part input → SaysKept given lineage.chain part → rows ≡ derived lineage.chain parent input)
        → AreGiven given (name_for lineage.chain dataset) part (own_rows lineage.chain dataset rows)
    made_given rows some there says are wanted is =
        let said : IsSaid given files lineage part dataset wanted = says dataset wanted some there is in
        made_derived rows (own_rows lineage.chain dataset rows) said.input refl (are said.input said.holds said.kept) ∙ sym said.rows_are
