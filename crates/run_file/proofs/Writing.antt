-- Rows behind rows: their bytes, their numbers and their greatest cost.
use Rattle.std.proofs.Common.{◌≡◌, ℕ, ◌+◌, max, ◌<◌, List, [], ◌∷◌, ◌++◌, length, take, get_or, sym, ap, subst, ◌∙◌, append_assoc, arith}
use Rattle.std.proofs.lemmas.List.{take_more, length-append}
use Rattle.std.proofs.lemmas.List.Sums.{sum_by-append}
use Rattle.row_page.specs.Grammar.{IsPieceThen, IsPage}
use Rattle.row_page.specs.Spelling.{row_length, page_length}
use Rattle.run_file.specs.Runs.{greatest_cost, CountsRows}
use Rattle.run_file.specs.declared.run.Run.{Run}

-- more bytes behind change no piece
front-append : (bytes piece behind more : List ℕ) → IsPieceThen bytes piece behind → IsPieceThen (bytes ++ more) piece (behind ++ more)
front-append [] piece behind more h = absurd h
front-append (a ∷ []) piece behind more h = absurd h
front-append (a ∷ b ∷ []) piece behind more h = absurd h
front-append (a ∷ b ∷ c ∷ []) piece behind more h = absurd h
front-append (a ∷ b ∷ c ∷ d ∷ bytes) piece behind more h =
    (h.0, ap (λ (t : List ℕ). t ++ more) h.1 ∙ append_assoc piece behind more)

-- a page behind a page is a page
pub is_page-append : (a b : List ℕ) (rows more : List (List (List ℕ))) → IsPage a rows → IsPage b more → IsPage (a ++ b) (rows ++ more)
is_page-append a b [] more h last = subst (λ (t : List ℕ). IsPage (t ++ b) more) (sym h) last
is_page-append a b (row ∷ rows) more h last =
    (h.0, h.1 ++ b, front-append a h.0 h.1 b h.2, h.3, is_page-append h.1 b rows more h.4 last)

pub greatest_cost-append : (rows more : List (List (List ℕ))) → greatest_cost (rows ++ more) ≡ max (greatest_cost rows) (greatest_cost more)
greatest_cost-append [] more = omega arith
greatest_cost-append (row ∷ rows) more = omega (arith, greatest_cost-append rows more)

-- one more row of those that were looked at
pub greatest_more : (rows : List (List (List ℕ))) (i n : ℕ) (row : List (List ℕ)) → i < length rows → row ≡ get_or rows i [] → n ≡ row_length row → max (greatest_cost (take i rows)) (24 + n) ≡ greatest_cost (take (i + 1) rows)
greatest_more rows i n row lt is e =
    let one : take (i + 1) rows ≡ take i rows ++ row ∷ [] = rw is (take_more rows i [] lt) in
    rw one (omega (arith, greatest_cost-append (take i rows) (row ∷ []), e))

-- the numbers of a run that became longer
pub counts_more : (old new : Run) (rows more : List (List (List ℕ))) → new.bytes ≡ old.bytes + page_length more → new.count ≡ old.count + length more → new.greatest ≡ max old.greatest (greatest_cost more) → CountsRows old rows → CountsRows new (rows ++ more)
counts_more old new rows more bytes count greatest h =
    record {
      bytes = omega (arith, bytes, h.bytes, sum_by-append (λ (row : List (List ℕ)). 4 + row_length row) rows more);
      count = omega (arith, count, h.count, length-append rows more);
      greatest = greatest ∙ ap (λ (n : ℕ). max n (greatest_cost more)) h.greatest ∙ sym (greatest_cost-append rows more);
    }
