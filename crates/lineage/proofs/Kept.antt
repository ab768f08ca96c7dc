-- Which entries tell of the nearest kept dataset's block.
use Rattle.std.proofs.Common.{◌≡◌, ◌≢◌, ◌∙◌, ℕ, zero, suc, Bool, false, ◌∷◌, Option, None, Some, refl, sym, ap, subst, inl, inr}
use Rattle.std.specs.Prelude.{Err, IfOk, IfSome, IsSome, Ok, Result, is_some}
use Rattle.std.specs.List.{find}
use Rattle.std.proofs.lemmas.Bool.{cases_Bool}
use Rattle.row_filter.specs.declared.chain.Chain.{Chain}
use Rattle.row_filter.specs.Chains.{level_at, links_of, parent_at}
use Rattle.row_filter.specs.Lines.{AreOrdered, line}
use Rattle.row_filter.proofs.Lineage.{line_behind}
use Rattle.turn_lock.specs.Passes.{WorkerView}
use Rattle.task_pool.proofs.GoingOn.{sees_more}
use Rattle.task_pool.specs.Workers.{SeesMore}
use Rattle.lineage.specs.LineageViews.{name_for}
use Rattle.block_store.specs.declared.block.Block.{Block}
use Rattle.lineage.specs.declared.rows.Rows.{Rows}
use Rattle.lineage.specs.declared.rows.Rows.TheVariants.{Own, Pinned}
use Rattle.lineage.specs.declared.rows_fault.RowsFault.{RowsFault}
use Rattle.lineage.specs.Telling.{TellsKeep, TellsLook, TellsMade, TellsNearest, TellsOwn, ToldOf, nearest}
use Rattle.lineage.proofs.Told.{keep_earlier, told_between, told_earlier, told_kept, told_later}

-- the line of a dataset that isn't the input, by that of its parent
on_line : (chain : Chain) (dataset : ℕ) → dataset ≢ 0 → AreOrdered (links_of chain) → line (links_of chain) dataset ≡ dataset ∷ line (links_of chain) (parent_at chain dataset)
on_line chain zero some ordered = absurd (some refl)
on_line chain (suc before) some ordered = line_behind (links_of chain) ordered before

module _ (chain : Chain) (dataset : ℕ) (some : dataset ≢ 0) (ordered : AreOrdered (links_of chain)) where
  abbrev is_kept : ℕ → Bool
  is_kept d = is_some (level_at chain d)

  nearest_here : IsSome (level_at chain dataset) → nearest chain dataset ≡ Some dataset
  nearest_here kept = ap (find is_kept) (on_line chain dataset some ordered) ∙ rw kept refl

  nearest_up : is_kept dataset ≡ false → nearest chain dataset ≡ nearest chain (parent_at chain dataset)
  nearest_up lost = ap (find is_kept) (on_line chain dataset some ordered) ∙ rw lost refl

  -- a kept dataset's block, by an entry of its own
  pub tells_here : (part : ℕ) (before after : WorkerView) → IsSome (level_at chain dataset) → ToldOf (name_for chain dataset) part before after → TellsNearest chain dataset part before after
  tells_here part before after kept told =
      subst (λ (o : Option ℕ). IfSome o (λ d. ToldOf (name_for chain d) part before after)) (sym (nearest_here kept)) told

  -- the same of a dataset that isn't kept, by its parent's
  tells_up : (part : ℕ) (before after : WorkerView) → is_kept dataset ≡ false → TellsNearest chain (parent_at chain dataset) part before after → TellsNearest chain dataset part before after
  tells_up part before after lost told =
      subst (λ (o : Option ℕ). IfSome o (λ d. ToldOf (name_for chain d) part before after)) (sym (nearest_up lost)) told

-- more was seen before and behind
wider : (chain : Chain) (found : Option ℕ) (part : ℕ) (first before after last : WorkerView) → SeesMore first before → SeesMore after last
    → IfSome found (λ d. ToldOf (name_for chain d) part before after) → IfSome found (λ d. ToldOf (name_for chain d) part first last)
wider chain None part first before after last one two told = tt
wider chain (Some d) part first before after last one two told =
    told_earlier (name_for chain d) part first before last one (told_later (name_for chain d) part before after last told two)

-- the parent's rows were handed out between a look for the dataset's block and its making
pub tells_made : (chain : Chain) (dataset part : ℕ) (first looked handed last : WorkerView) → dataset ≢ 0 → AreOrdered (links_of chain) → SeesMore first looked → SeesMore looked handed → SeesMore handed last
    → TellsLook chain dataset part first looked None → TellsNearest chain (parent_at chain dataset) part looked handed → TellsMade chain dataset part handed last
    → TellsNearest chain dataset part first last
tells_made chain dataset part first looked handed last some ordered one two three look parent made =
    elim (cases_Bool (is_some (level_at chain dataset))) [
      | inl kept ↦ tells_here chain dataset some ordered part first last kept (elim (look kept) [
        | inl told ↦ told_later (name_for chain dataset) part first looked last told (sees_more looked handed last two three)
        | inr absent ↦ elim (made kept) [
          | inl told ↦ told_earlier (name_for chain dataset) part first handed last (sees_more first looked handed one two) (told_kept (name_for chain dataset) part handed last told)
          | inr there ↦
              told_earlier (name_for chain dataset) part first looked last one
              (told_between (name_for chain dataset) part looked last absent there (sees_more looked handed last two three))
        ]
      ])
      | inr lost ↦ tells_up chain dataset some ordered part first last lost (wider chain (nearest chain (parent_at chain dataset)) part first looked handed last one three parent)
    ]

-- ---- rows that no pin keeps

own_none : (chain : Chain) (part : ℕ) (before after : WorkerView) (rows : Rows) → TellsOwn chain 0 part before after rows
own_none chain part before after (Pinned block) = tt
own_none chain part before after (Own block) = λ kept. absurd (cc kept)

-- the input isn't kept
pub own_input : (chain : Chain) (dataset part : ℕ) (before after : WorkerView) (result : Result Rows RowsFault) → dataset ≡ 0 → IfOk result (TellsOwn chain dataset part before after)
own_input chain dataset part before after (Ok rows) is = subst (λ (d : ℕ). TellsOwn chain d part before after rows) (sym is) (own_none chain part before after rows)
own_input chain dataset part before after (Err fault) is = tt

-- rows that were made, where more had been seen before
pub own_made : (chain : Chain) (dataset part : ℕ) (first looked handed last : WorkerView) (rows : Rows) → SeesMore first looked → SeesMore looked handed → TellsMade chain dataset part handed last
    → TellsOwn chain dataset part first last rows
own_made chain dataset part first looked handed last (Pinned block) one two made = tt
own_made chain dataset part first looked handed last (Own block) one two made = λ kept.
    keep_earlier (name_for chain dataset) part first handed last (sees_more first looked handed one two) (made kept)

-- a copy that was read back was kept
pub own_copy : (chain : Chain) (dataset part : ℕ) (block : Block) (before read after : WorkerView) → block.dataset ≡ name_for chain dataset → block.part ≡ part → SeesMore before read
    → TellsKeep block.dataset block.part read after → TellsMade chain dataset part before after
own_copy chain dataset part block before read after named its sees told = λ kept.
    keep_earlier (name_for chain dataset) part before read after sees
    (subst (λ (p : ℕ). TellsKeep (name_for chain dataset) p read after) its (subst (λ (d : ℕ). TellsKeep d block.part read after) named told))
