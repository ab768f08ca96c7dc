-- What stands in the page where the next kept row is put, or passes its room.
use Rattle.std.proofs.Common.{◌≡◌, ℕ, ◌+◌, ◌<◌, true, false, cond, List, [], ◌∷◌, ◌++◌, length, take, drop, get_or, sym, ap, subst, ◌∙◌, arith}
use Rattle.std.proofs.lemmas.List.{append-nil, append_assoc, take-append-drop}
use Rattle.std.proofs.lemmas.List.Elements.{filter-append, filter_more}
use Rattle.std.proofs.lemmas.List.Sums.{sum_by-append, sum_by-cons}
use Rattle.row_page.specs.Pages.{PageView}
use Rattle.row_page.specs.Spelling.{page_length, row_length}
use Rattle.row_filter.specs.declared.filter.Filter.{Filter}
use Rattle.row_filter.specs.Rows.{TakesFront, TakesWhatFits, keeps_row, kept_rows}

module _ (f : Filter) (rows : List (List (List ℕ))) (i : ℕ) (lt : i < length rows) where
  abbrev row : List (List ℕ)
  row = get_or rows i []

  abbrev before : List (List (List ℕ))
  before = kept_rows f (take i rows)

  abbrev behind : List (List (List ℕ))
  behind = kept_rows f (drop (i + 1) rows)

  pub one_more : keeps_row f row ≡ true → kept_rows f (take (i + 1) rows) ≡ before ++ row ∷ []
  one_more k = filter_more (keeps_row f) rows i [] lt ∙ ap (λ b. before ++ cond b (row ∷ []) []) k

  pub none_more : keeps_row f row ≡ false → kept_rows f (take (i + 1) rows) ≡ before
  none_more k = filter_more (keeps_row f) rows i [] lt ∙ ap (λ b. before ++ cond b (row ∷ []) []) k ∙ append-nil before

  kept_split : keeps_row f row ≡ true → kept_rows f rows ≡ before ++ row ∷ behind
  kept_split k = ap (kept_rows f) (sym (take-append-drop (i + 1) rows)) ∙ filter-append (keeps_row f) (take (i + 1) rows) (drop (i + 1) rows)
      ∙ ap (λ front. front ++ behind) (one_more k) ∙ append_assoc before (row ∷ []) behind

  module _ (old now : PageView) (put : now ≡ record old { rows = old.rows ++ before }) (k : keeps_row f row ≡ true) where
    pub front_taken : TakesFront old now (kept_rows f rows)
    front_taken = (before, row ∷ behind, kept_split k, put)

    pub row_put : (new : PageView) (next : List (List ℕ)) → next ≡ row → new ≡ record now { rows = now.rows ++ next ∷ [] }
        → new ≡ record old { rows = old.rows ++ kept_rows f (take (i + 1) rows) }
    row_put new next is pushed = pushed ∙ ap (λ (p : PageView). record p { rows = p.rows ++ next ∷ [] }) put
        ∙ ap (λ (all : List (List (List ℕ))). record old { rows = all })
        (append_assoc old.rows before (next ∷ []) ∙ ap (λ (r : List (List ℕ)). old.rows ++ (before ++ r ∷ [])) is ∙ ap (λ kept. old.rows ++ kept) (sym (one_more k)))

    module _ (full : now.room < page_length now.rows + (4 + row_length row)) where
      pub fitting_taken : TakesWhatFits old now (kept_rows f rows)
      fitting_taken = (before, behind, row, kept_split k, put, full)

      pub room_passed : old.room < page_length (old.rows ++ kept_rows f rows)
      room_passed =
          let whole : page_length (old.rows ++ kept_rows f rows) ≡ page_length ((old.rows ++ before) ++ row ∷ behind) =
          ap (λ kept. page_length (old.rows ++ kept)) (kept_split k) ∙ ap page_length (sym (append_assoc old.rows before (row ∷ behind))) in
          let parts = sum_by-append (λ (r : List (List ℕ)). 4 + row_length r) (old.rows ++ before) (row ∷ behind) in
          let next = sum_by-cons (λ (r : List (List ℕ)). 4 + row_length r) row behind in
          let passed : old.room < page_length (old.rows ++ before) + (4 + row_length row) = subst (λ (p : PageView). p.room < page_length p.rows + (4 + row_length row)) put full in
          omega (arith, whole, parts, next, passed)
