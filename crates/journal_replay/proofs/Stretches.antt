-- Stretches of one dataset in the use order: after a block is put last, after one is taken out, and what a walk passes over.
use Rattle.std.proofs.Common.{◌≡◌, ◌≢◌, ℕ, ◌<◌, ◌≤◌, Bool, true, false, cond, Option, Some, None, refl, sym, ap, subst, ◌∙◌, inl, inr, arith}
use Rattle.std.proofs.lemmas.Bool.{both_ways, cases_eq, cases_lt}
use Rattle.journal_replay.specs.declared.placed.Placed.{Placed}
use Rattle.journal_replay.proofs.Known.{still_there}

-- what isn't there with one more wasn't there
pub not_added : (t was is : Bool) → is ≡ cond t true was → is ≡ false → was ≡ false
not_added true was is same none = absurd (both_ways is none same)
not_added false was is same none = sym same ∙ none

-- the blocks by their places, and where stretches begin
module _ (at : ℕ → Option Placed) where
  -- two blocks are of one dataset where no stretch begins between them
  abbrev pub Parted : (ℕ → Bool) → Type 0
  Parted starts = (p q : ℕ) (a b : Placed) → at p ≡ Some a → at q ≡ Some b → p < q
      → ((start : ℕ) → p < start → start ≤ q → starts start ≡ false) → a.name.dataset ≡ b.name.dataset

  -- a start may go where the blocks on its two sides are of one dataset
  pub parted_without : (old new : ℕ → Bool) (gone : ℕ) → Parted old → ((start : ℕ) → start ≢ gone → new start ≡ false → old start ≡ false)
      → ((p q : ℕ) (a b : Placed) → at p ≡ Some a → at q ≡ Some b → p < gone → gone ≤ q → ((start : ℕ) → p < start → start ≤ q → new start ≡ false)
      → a.name.dataset ≡ b.name.dataset)
      → Parted new
  parted_without old new gone parted others across p q a b at_p at_q order none = elim (cases_lt p gone) [
    | inl behind ↦ elim (cases_lt q gone) [
      | inl before ↦ parted p q a b at_p at_q order (λ start later within. others start (λ same. absurd (omega (arith, same, within, before))) (none start later within))
      | inr upto ↦ across p q a b at_p at_q behind upto none
    ]
    | inr past ↦ parted p q a b at_p at_q order (λ start later within. others start (λ same. absurd (omega (arith, same, later, past))) (none start later within))
  ]

  -- a block and the next one are of one dataset, and so are those beyond them
  module _ (starts : ℕ → Bool) (parted : Parted starts) (low high : ℕ) (before behind : Placed) (at_low : at low ≡ Some before) (at_high : at high ≡ Some behind)
      (same : before.name.dataset ≡ behind.name.dataset) where
    pub up_to : (p : ℕ) (a : Placed) → at p ≡ Some a → p ≤ low → ((start : ℕ) → p < start → start ≤ low → starts start ≡ false) → a.name.dataset ≡ before.name.dataset
    up_to p a at_p order none = elim (cases_eq p low) [
      | inl is ↦
          let one : Some a ≡ Some before = sym at_p ∙ ap at is ∙ at_low in
          let alike : a ≡ before = cc one in
          ap (λ (x : Placed). x.name.dataset) alike
      | inr other ↦ parted p low a before at_p at_low (omega (arith, order, other)) none
    ]

    on_from : (q : ℕ) (b : Placed) → at q ≡ Some b → high ≤ q → ((start : ℕ) → high < start → start ≤ q → starts start ≡ false) → behind.name.dataset ≡ b.name.dataset
    on_from q b at_q order none = elim (cases_eq high q) [
      | inl is ↦
          let one : Some behind ≡ Some b = sym at_high ∙ ap at is ∙ at_q in
          let alike : behind ≡ b = cc one in
          ap (λ (x : Placed). x.name.dataset) alike
      | inr other ↦ parted high q behind b at_high at_q (omega (arith, order, other)) none
    ]

    pub joined : (p q : ℕ) (a b : Placed) → at p ≡ Some a → at q ≡ Some b → p ≤ low → high ≤ q
        → ((start : ℕ) → p < start → start ≤ low → starts start ≡ false) → ((start : ℕ) → high < start → start ≤ q → starts start ≡ false)
        → a.name.dataset ≡ b.name.dataset
    joined p q a b at_p at_q below above none_before none_behind = up_to p a at_p below none_before ∙ same ∙ on_from q b at_q above none_behind

-- after a block is put at a place behind the others
pub parted_put : (at new_at : ℕ → Option Placed) (starts new : ℕ → Bool) (place : ℕ) (placed : Placed) → Parted at starts
    → ((p : ℕ) (a : Placed) → at p ≡ Some a → p < place) → new_at place ≡ Some placed → ((p : ℕ) → p ≢ place → new_at p ≡ at p)
    → ((start : ℕ) → new start ≡ false → starts start ≡ false)
    → (new place ≡ false → (p : ℕ) (a : Placed) → at p ≡ Some a → ((start : ℕ) → p < start → start ≤ place → starts start ≡ false) → a.name.dataset ≡ placed.name.dataset)
    → Parted new_at new
parted_put at new_at starts new place placed parted below here others kept last p q a b at_p at_q order none =
    elim (cases_eq q place) [
      | inl is ↦
          let one : Some b ≡ Some placed = sym at_q ∙ ap new_at is ∙ here in
          let alike : b ≡ placed = cc one in
          let start_none : new place ≡ false = subst (λ (k : ℕ). new k ≡ false) is (none q order (omega arith)) in
          last start_none p a (sym (others p (λ e. omega (arith, e, is, order))) ∙ at_p)
          (λ start later within. kept start (none start later (omega (arith, within, is))))
          ∙ ap (λ (x : Placed). x.name.dataset) (sym alike)
      | inr other ↦
          let old_q : at q ≡ Some b = sym (others q other) ∙ at_q in
          let low : q < place = below q b old_q in
          parted p q a b (sym (others p (λ e. omega (arith, e, low, order))) ∙ at_p) old_q order (λ start later within. kept start (none start later within))
    ]

-- after a block is taken out
pub parted_taken : (at new_at : ℕ → Option Placed) (starts : ℕ → Bool) (place : ℕ) → Parted at starts → new_at place ≡ None → ((p : ℕ) → p ≢ place → new_at p ≡ at p)
    → Parted new_at starts
parted_taken at new_at starts place parted gone others p q a b at_p at_q order none =
    parted p q a b (still_there at new_at place gone others p a at_p).0 (still_there at new_at place gone others q b at_q).0 order none

-- after a block was taken out at a place: of the others, those next to it
module _ (at : ℕ → Option Placed) (old mid new : ℕ → Bool) (place : ℕ) (parted : Parted at old) (gone : (start : ℕ) → start ≢ place → new start ≡ false → mid start ≡ false) where
  -- none is on one of the two sides
  pub mended_end : ((start : ℕ) → mid start ≡ false → old start ≡ false) → ((p q : ℕ) (a b : Placed) → at p ≡ Some a → at q ≡ Some b → p < place → place ≤ q → ⊥) → Parted at new
  mended_end kept alone =
      parted_without at old new place parted (λ start other none. kept start (gone start other none))
      (λ p q a b at_p at_q low high none. absurd (alone p q a b at_p at_q low high))

  module _ (low high : ℕ) (before behind : Placed) (at_low : at low ≡ Some before) (at_high : at high ≡ Some behind) (below : low < place) (above : place ≤ high)
      (greatest : (q : ℕ) (x : Placed) → at q ≡ Some x → q < place → q ≤ low) (least : (q : ℕ) (x : Placed) → at q ≡ Some x → place ≤ q → high ≤ q) where
    -- they are of one dataset, and no stretch begins between them
    pub mended_same : ((start : ℕ) → start ≢ high → mid start ≡ false → old start ≡ false) → before.name.dataset ≡ behind.name.dataset → Parted at new
    mended_same others same =
        parted_without at mid new place half gone
        (λ p q a b at_p at_q behind_p before_q none. joined at mid half low high before behind at_low at_high same p q a b at_p at_q (greatest p a at_p behind_p) (least q b at_q before_q)
        (λ start later within. gone start (λ e. absurd (omega (arith, e, within, below))) (none start later (omega (arith, within, below, before_q))))
        (λ start later within. gone start (λ e. absurd (omega (arith, e, later, above))) (none start (omega (arith, later, above, behind_p)) within)))
      where
        half : Parted at mid
        half =
            parted_without at old mid high parted others
            (λ p q a b at_p at_q behind_p before_q none. joined at old parted low high before behind at_low at_high same p q a b at_p at_q (side p a at_p behind_p) before_q
            (λ start later within. others start (λ e. absurd (omega (arith, e, within, below, above))) (none start later (omega (arith, within, below, above, before_q))))
            (λ start later within. others start (λ e. absurd (omega (arith, e, later))) (none start (omega (arith, later, behind_p)) within)))
          where
            side : (p : ℕ) (a : Placed) → at p ≡ Some a → p < high → p ≤ low
            side p a at_p behind_p = elim (cases_lt p place) [
              | inl first ↦ greatest p a at_p first
              | inr later ↦ let far = least p a at_p later in absurd (omega (arith, far, behind_p))
            ]

    -- a stretch begins at the second of them
    pub mended_apart : ((start : ℕ) → mid start ≡ false → old start ≡ false) → mid high ≡ true → at place ≡ None → Parted at new
    mended_apart kept begins none_here =
        parted_without at old new place parted (λ start other none. kept start (gone start other none))
        (λ p q a b at_p at_q behind_p before_q none.
        absurd (both_ways (mid high) (gone high apart (none high (omega (arith, behind_p, above)) (least q b at_q before_q))) begins))
      where
        apart : high ≢ place
        apart same = let both : Some behind ≡ None = sym at_high ∙ ap at same ∙ none_here in absurd (cc both)

-- after a block was put last, where the last one before it was of this dataset or a stretch begins there
pub put_begins : (at : ℕ → Option Placed) (starts : ℕ → Bool) (place low : ℕ) (last : Placed) (dataset : ℕ) → Parted at starts → at low ≡ Some last
    → ((q : ℕ) (x : Placed) → at q ≡ Some x → q < place → q ≤ low) → ((q : ℕ) (x : Placed) → at q ≡ Some x → q < place) → last.name.dataset ≡ dataset → low < place
    → (p : ℕ) (a : Placed) → at p ≡ Some a → ((start : ℕ) → p < start → start ≤ place → starts start ≡ false) → a.name.dataset ≡ dataset
put_begins at starts place low last dataset parted at_low greatest behind is below p a at_p none =
    let within = greatest p a at_p (behind p a at_p) in
    up_to at starts parted low low last last at_low at_low refl p a at_p within (λ start later upto. none start later (omega (arith, upto, below)))
    ∙ is
