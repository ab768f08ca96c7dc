-- What a queue has once a place is put in.
use Rattle.std.proofs.Common.{◌≡◌, ℕ, ◌+◌, ◌-◌, ◌<◌, ◌≤◌, List, length, get_or, set, drop, sym, ap, ◌∙◌, inl, inr, arith}
use Rattle.std.specs.List.{insert}
use Rattle.std.proofs.lemmas.Bool.{cases_eq, cases_lt}
use Rattle.std.proofs.lemmas.List.{get_or-set_same, get_or-set_other, get_or-drop, length-drop, length-set, same_lists}
use Rattle.std.proofs.lemmas.List.Edits.{get_or-insert_above, get_or-insert_at, get_or-insert_below, length-insert}

-- where those from `to` on moved down by one, as many as are to stand before it, a place stands behind them
module _ (old new : List ℕ) (to at place : ℕ) (count : length new ≡ length old) (within : to + at < length old)
    (moved : (k d : ℕ) → to ≤ k → k < to + at → get_or new k d ≡ get_or old (k + 1) d)
    (behind : (k d : ℕ) → to + at ≤ k → get_or new k d ≡ get_or old k d) where
  fits : at ≤ length (drop (to + 1) old)
  fits = omega (arith, length-drop (to + 1) old, within)

  whole : length (drop to (set new (to + at) place)) ≡ length (insert (drop (to + 1) old) at place)
  whole = omega (arith, length-drop to (set new (to + at) place), length-set new (to + at) place, length-insert (drop (to + 1) old) at place fits, length-drop (to + 1) old, count, within)

  put_before : (k d : ℕ) → k < at → get_or (set new (to + at) place) (to + k) d ≡ get_or (insert (drop (to + 1) old) at place) k d
  put_before k d lt =
      let on : to + k + 1 ≡ to + 1 + k = omega arith in
      get_or-set_other new (to + at) (to + k) place d (λ e. absurd (omega (arith, e, lt)))
      ∙ moved (to + k) d (omega arith) (omega (arith, lt))
      ∙ ap (λ (n : ℕ). get_or old n d) on
      ∙ sym (get_or-insert_below (drop (to + 1) old) at place d k lt fits ∙ get_or-drop (to + 1) old k d)

  put_at : (k d : ℕ) → k ≡ at → get_or (set new (to + at) place) (to + k) d ≡ get_or (insert (drop (to + 1) old) at place) k d
  put_at k d e =
      ap (λ (n : ℕ). get_or (set new (to + at) place) (to + n) d) e
      ∙ get_or-set_same new (to + at) place d (omega (arith, count, within))
      ∙ sym (ap (λ (n : ℕ). get_or (insert (drop (to + 1) old) at place) n d) e ∙ get_or-insert_at (drop (to + 1) old) at place d fits)

  put_behind : (k d : ℕ) → at < k → get_or (set new (to + at) place) (to + k) d ≡ get_or (insert (drop (to + 1) old) at place) k d
  put_behind k d lt =
      let on : k ≡ (k - 1) + 1 = omega (arith, lt) in
      let back : to + k ≡ to + 1 + (k - 1) = omega (arith, lt) in
      get_or-set_other new (to + at) (to + k) place d (λ e. absurd (omega (arith, e, lt)))
      ∙ behind (to + k) d (omega (arith, lt))
      ∙ ap (λ (n : ℕ). get_or old n d) back
      ∙ sym (ap (λ (n : ℕ). get_or (insert (drop (to + 1) old) at place) n d) on ∙ get_or-insert_above (drop (to + 1) old) at place d (k - 1) (omega (arith, lt)) fits ∙ get_or-drop (to + 1) old (k - 1) d)

  put_each : (k d : ℕ) → k < length (drop to (set new (to + at) place)) → get_or (drop to (set new (to + at) place)) k d ≡ get_or (insert (drop (to + 1) old) at place) k d
  put_each k d lt = get_or-drop to (set new (to + at) place) k d ∙
      elim (cases_lt k at) [
        | inl before ↦ put_before k d before
        | inr from ↦ elim (cases_eq k at) [ inl same ↦ put_at k d same | inr apart ↦ put_behind k d (omega (arith, from, apart)) ]
      ]

  pub gap_filled : drop to (set new (to + at) place) ≡ insert (drop (to + 1) old) at place
  gap_filled = same_lists (drop to (set new (to + at) place)) (insert (drop (to + 1) old) at place) whole put_each
