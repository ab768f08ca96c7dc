-- Rows in the grammar: one encoding each, one row each, one more field at the end.
use Rattle.std.proofs.Common.{◌≡◌, ℕ, ◌+◌, ◌^◌, ◌<◌, List, [], ◌∷◌, ◌++◌, length, Result, Ok, Err, refl, sym, ap, subst, ◌∙◌, arith, lit<}
use Rattle.std.specs.Prelude.{OnOk, OnErr}
use Rattle.std.specs.List.{AllByRecursion}
use Rattle.std.proofs.Math.Logic.{∥∥₁_elim}
use Rattle.std.specs.Coded.{Coded-set, coded_list, coded_ℕ, le_prop}
use Rattle.std.proofs.lemmas.List.{length-append}
use Rattle.std.proofs.lemmas.List.Sums.{sum_by-cons}
use Rattle.row_page.specs.Grammar.{IsPieceThen, IsRow}
use Rattle.row_page.specs.Reading.{fields_of}
use Rattle.row_page.specs.Spelling.{with_length, row_bytes, row_length}
use Rattle.row_page.proofs.Fronts.{one_front}
use Rattle.row_page.proofs.Parts.{one_list, pieces_spell, are_pieces-spelled, are_pieces_push}
use Rattle.row_page.proofs.Lengths.{length-row_bytes, length-with_length}
use Rattle.row_page.proofs.Shown.{fields_shown}

-- each field of a short row is short
short_fields : (n : ℕ) (fields : List (List ℕ)) → row_length fields < n → AllByRecursion (λ f. length f < n) fields
short_fields n [] lt = tt
short_fields n (f ∷ fields) lt =
    let both = sum_by-cons (λ (field : List ℕ). 4 + length field) f fields in
    (omega arith, short_fields n fields (omega arith))

pub row_of_fields : (fields : List (List ℕ)) → row_length fields < 2 ^ 32 → IsRow (row_bytes fields) fields
row_of_fields fields lt =
    record { pieces = are_pieces-spelled fields (short_fields (2 ^ 32) fields lt); short = omega (arith, length-row_bytes fields) }

pub one_encoding : (a b : List ℕ) (fields : List (List ℕ)) → IsRow a fields → IsRow b fields → a ≡ b
one_encoding a b fields p q = pieces_spell a fields p.pieces ∙ sym (pieces_spell b fields q.pieces)

pub one_row : (bytes : List ℕ) (f g : List (List ℕ)) → IsRow bytes f → IsRow bytes g → f ≡ g
one_row bytes f g p q = one_list bytes f g p.pieces q.pieces

pub one_row_begins : (bytes a b x y : List ℕ) (f g : List (List ℕ)) → IsPieceThen bytes a x → IsRow a f → IsPieceThen bytes b y → IsRow b g → (f ≡ g) × (x ≡ y)
one_row_begins bytes a b x y f g front first other second =
    let same = one_front bytes a b x y front other in
    (one_row b f g (subst (λ (t : List ℕ). IsRow t f) same.0 first) second, same.1)

-- bytes that are a row show that row
pub row_shown : (bytes : List ℕ) (fields : List (List ℕ)) → IsRow bytes fields → IsRow bytes (fields_of bytes) × (fields_of bytes ≡ fields)
row_shown bytes fields h =
    let e = fields_shown bytes fields h.pieces in
    (subst (IsRow bytes) (sym e) h, e)

-- the bytes that a view lends are a row's
pub row_had : (bytes : List ℕ) → ∥ IsRow bytes (fields_of bytes) ∥₁ → IsRow bytes (fields_of bytes)
row_had bytes had =
    let spelled : bytes ≡ row_bytes (fields_of bytes) = ∥∥₁_elim had (Coded-set (coded_list coded_ℕ) _ _) (λ h. pieces_spell bytes (fields_of bytes) h.pieces) in
    let short : length bytes < 2 ^ 32 = ∥∥₁_elim had le_prop (λ h. h.short) in
    subst (λ (t : List ℕ). IsRow t (fields_of bytes)) (sym spelled) (row_of_fields (fields_of bytes) (omega (arith, short, ap length spelled, length-row_bytes (fields_of bytes))))

-- one more field at the end of a row, as long as the row stays short
pub row_push : (bytes : List ℕ) (fields : List (List ℕ)) (field new : List ℕ) → IsRow bytes fields → row_length fields + (4 + length field) < 2 ^ 32 → new ≡ bytes ++ with_length field → IsRow new (fields_of new) × (fields_of new ≡ fields ++ field ∷ [])
row_push bytes fields field new h lt e =
    let whole : length (bytes ++ with_length field) < 2 ^ 32 =
    omega (arith, length-append bytes (with_length field), length-with_length field, ap length (pieces_spell bytes fields h.pieces), length-row_bytes fields) in
    let pushed : IsRow (bytes ++ with_length field) (fields ++ field ∷ []) =
    record { pieces = are_pieces_push bytes fields field h.pieces (omega arith); short = whole } in
    row_shown new (fields ++ field ∷ []) (subst (λ (t : List ℕ). IsRow t (fields ++ field ∷ [])) (sym e) pushed)

-- no bytes are the row without fields
pub empty_row : IsRow [] (fields_of []) × (fields_of [] ≡ [])
empty_row = row_shown [] [] (record { pieces = refl; short = lit< tt })

-- what a row that is put together is after a field was put behind it, or after that failed
pub record AfterAdd {T E : Type 0} (r : Result T E) (fields : List (List ℕ)) (field new : List ℕ) : Type 0 where
  pub sound : IsRow new (fields_of new)
  pub ok : OnOk r (fields_of new ≡ fields ++ field ∷ [])
  pub err : OnErr r (fields_of new ≡ fields)

pub row_added : {T E : Type 0} (r : Result T E) (bytes : List ℕ) (fields : List (List ℕ)) (field new : List ℕ) → IsRow bytes (fields_of bytes) → fields_of bytes ≡ fields → row_length fields + (4 + length field) < 2 ^ 32 → OnOk r (new ≡ bytes ++ with_length field) → OnErr r (new ≡ bytes) → AfterAdd r fields field new
row_added (Ok x) bytes fields field new h shown lt ok err =
    let pushed = row_push bytes fields field new (subst (IsRow bytes) shown h) lt ok in
    record { sound = pushed.0; ok = pushed.1; err = tt }
row_added (Err e) bytes fields field new h shown lt ok err =
    let same = row_shown new fields (subst (λ (t : List ℕ). IsRow t fields) (sym err) (subst (IsRow bytes) shown h)) in
    record { sound = same.0; ok = tt; err = same.1 }
