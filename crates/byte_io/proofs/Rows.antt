-- The records of a text, one at a time.
use Rattle.std.proofs.Common.{◌≡◌, ◌<◌, ◌≤◌, ◌+◌, ◌∷◌, ◌∙◌, inl, inr, [], ℕ, zero, suc, List, Option, Some, None, true, false, length, refl, sym, ap, arith, add-one}
use Rattle.std.specs.Prelude.{◌⊎◌, IfSome, option_map}
use Rattle.std.proofs.lemmas.Bool.{cases_Bool, false≢true}
use Rattle.csv.specs.Machine.{Read, ends_at_end, field_after, fields_after, is_end, next_record, step}
use Rattle.csv.specs.Reading.{NextIs, ReadsNext, default_config, records_from, records_next}
use Rattle.csv.specs.Records.{Row, fields_of}
use Rattle.csv.specs.declared.parser.Config.{Config}
use Rattle.csv.specs.declared.parser.State.{State}
use Rattle.csv.specs.declared.parser.State.TheVariants as st
use Rattle.byte_io.specs.Rows.{rows_from}
use Rattle.byte_io.specs.Records.{GivesRow}

-- what follows a record is shorter, or nothing at the start of a record
abbrev Shrinks : List ℕ → Read → Type 0
Shrinks xs p = (suc (length p.2) ≤ length xs) ⊎ ((p.1 ≡ st.StartRecord) × (p.2 ≡ []))

shrinks-more : (c : ℕ) (rest : List ℕ) (o : Option Read) → IfSome o (Shrinks rest) → IfSome o (Shrinks (c ∷ rest))
shrinks-more c rest None h = tt
shrinks-more c rest (Some p) h = elim h [ inl l ↦ inl (omega arith) | inr e ↦ inr e ]

shrinks : (cfg : Config) (s : State) (fields : List (List ℕ)) (field xs : List ℕ) → IfSome (next_record cfg s fields field xs) (Shrinks xs)
unfolding next_record
shrinks cfg s fields field [] = elim (cases_Bool (ends_at_end s)) [
  | inl e ↦ rw e (inr (refl, refl))
  | inr e ↦ rw e tt
]
shrinks cfg s fields field (c ∷ rest) = elim (cases_Bool (is_end (step cfg s c).1)) [
  | inl e ↦ rw e (inl (omega arith))
  | inr e ↦ rw e (shrinks-more c rest _ (shrinks cfg (step cfg s c).0 (fields_after (step cfg s c).1 fields field) (field_after (step cfg s c).1 c field) rest))
]

-- no record comes of nothing, at the start of one
none-left : (cfg : Config) (n : ℕ) → records_from cfg n st.StartRecord [] ≡ []
unfolding records_from next_record
none-left cfg zero = refl
none-left cfg (suc n) = refl

-- any number of turns that passes the length gives the same records
same-next : (cfg : Config) (n m : ℕ) (xs : List ℕ) (o : Option Read) → IfSome o (Shrinks xs) → length xs ≤ n → length xs ≤ m
    → ((s : State) (ys : List ℕ) → length ys < n → length ys < m → records_from cfg n s ys ≡ records_from cfg m s ys)
    → records_next (records_from cfg n) o ≡ records_next (records_from cfg m) o
same-next cfg n m xs None h a b more = refl
same-next cfg n m xs (Some p) h a b more = elim h [
  | inl l ↦ ap (λ (t : List (List (List ℕ))). p.0 ∷ t) (more p.1 p.2 (omega arith) (omega arith))
  | inr e ↦ rw (e.0, e.1, none-left cfg n, none-left cfg m) refl
]

same-fuel : (cfg : Config) (n m : ℕ) (s : State) (xs : List ℕ) → length xs < n → length xs < m → records_from cfg n s xs ≡ records_from cfg m s xs
unfolding records_from
same-fuel cfg zero m s xs a b = absurd (omega arith)
same-fuel cfg (suc n) zero s xs a b = absurd (omega arith)
same-fuel cfg (suc n) (suc m) s xs a b =
    same-next cfg n m xs (next_record cfg s [] [] xs) (shrinks cfg s [] [] xs) (omega arith) (omega arith) (λ s2 ys. same-fuel cfg n m s2 ys)

-- the records from a state: the next one and those behind it
rows-from : (s : State) (xs : List ℕ) → rows_from s xs ≡ records_next rows_from (next_record default_config s [] [] xs)
unfolding records_from
rows-from s xs = rw add-one (step-next (next_record default_config s [] [] xs) (shrinks default_config s [] [] xs))
  where
    step-next : (o : Option Read) → IfSome o (Shrinks xs) → records_next (records_from default_config (length xs)) o ≡ records_next rows_from o
    step-next None h = refl
    step-next (Some p) h = elim h [
      | inl l ↦ ap (λ (t : List (List (List ℕ))). p.0 ∷ t) (same-fuel default_config (length xs) (length p.2 + 1) p.1 p.2 (omega arith) (omega arith))
      | inr e ↦ rw (e.0, e.1, none-left default_config (length xs), none-left default_config 1) refl
    ]

given-row : (o : Option Read) (row : Row) (s : State) (ys : List ℕ) → NextIs o true (fields_of row) s ys → records_next rows_from o ≡ fields_of row ∷ rows_from s ys
given-row None row s ys h = absurd (false≢true (sym h))
given-row (Some p) row s ys h = rw (h.1, h.2, h.3) refl

given-none : (o : Option Read) (fields : List (List ℕ)) (s : State) (ys : List ℕ) → NextIs o false fields s ys → records_next rows_from o ≡ []
given-none None fields s ys h = refl
given-none (Some p) fields s ys h = absurd (false≢true h.0)

-- a read that found a record gives the first of those that were left
pub gives-row : (s s2 : State) (before after : Option (List ℕ)) (row : Row) → ReadsNext default_config s before after true (fields_of row) s2
    → GivesRow (option_map (rows_from s) before) (option_map (rows_from s2) after) (Some row)
gives-row s s2 None after row h = tt
gives-row s s2 (Some xs) None row h = h
gives-row s s2 (Some xs) (Some ys) row h = rows-from s xs ∙ given-row _ row s2 ys h

-- a read that found none shows that none was left
pub gives-none : (s s2 : State) (before after : Option (List ℕ)) (fields : List (List ℕ)) → ReadsNext default_config s before after false fields s2
    → GivesRow (option_map (rows_from s) before) (Some []) None
gives-none s s2 None after fields h = tt
gives-none s s2 (Some xs) None fields h = absurd h
gives-none s s2 (Some xs) (Some ys) fields h = (rows-from s xs ∙ given-none _ fields s2 ys h, refl)
