-- The walk over the bytes of a row: an entry's two fields, or a landed row's number and its columns. After some of the
-- columns, those are as the form wants them, and the others are ahead.
use Rattle.std.proofs.Common.{◌≡◌, ℕ, ◌+◌, ◌<◌, List, [], ◌∷◌, length, drop, refl, sym, ap, ◌∙◌, arith, inl, inr, get_or, slice_index_or, IsTrue}
use Rattle.std.proofs.lemmas.Bool.Decides.{leb_tells}
use Rattle.std.proofs.lemmas.List.{length-drop}
use Rattle.aggregate.specs.Values.{IsValueOf}
use Rattle.aggregate.specs.declared.kind.Kind.{Kind}
use Rattle.row_page.proofs.Steps.{no_pieces, piece_at_place}
use Rattle.row_page.specs.Grammar.{ArePieces, IsPieceThen}
use Rattle.row_form.specs.declared.form.Form.TheVariants.{Entries, Landed}
use Rattle.row_form.specs.Forms.{IsOfForm}
use Rattle.row_form.specs.Numbers.{may_be}
use Rattle.row_form.specs.declared.number_list.NumberPlace.{NumberPlace}
use Rattle.std.specs.List.{All}

-- no piece stands at the front
abbrev pub HasNone : List ℕ → Type 0
HasNone bytes = (piece behind : List ℕ) → IsPieceThen bytes piece behind → ⊥

-- bytes that have a piece begin with one
begins : (bytes : List ℕ) (pieces : List (List ℕ)) → ArePieces bytes pieces → HasNone bytes → 0 < length pieces → ⊥
begins bytes [] are none some = omega (arith, some)
begins bytes (p ∷ pieces) are none some = none p are.0 are.1

-- bytes that have none are empty
empty : (bytes : List ℕ) (pieces : List (List ℕ)) → ArePieces bytes pieces → length pieces ≡ 0 → length bytes ≡ 0
empty bytes [] are none = ap length are
empty bytes (p ∷ pieces) are none = absurd (omega (arith, none))

nil : (bytes : List ℕ) → length bytes ≡ 0 → bytes ≡ []
nil [] none = refl
nil (b ∷ bytes) none = absurd (omega (arith, none))

-- behind the key stands a value
pub has_value : (kind : Kind) (bytes key behind : List ℕ) → IsPieceThen bytes key behind → HasNone behind → IsOfForm (Entries kind) bytes → ⊥
has_value kind bytes key behind front none (row, are, (two, value_is)) =
    begins behind (drop 1 row) (piece_at_place bytes row 0 key behind are front).others none (omega (arith, two, length-drop 1 row))

-- which is the last, and of the kind
pub ends_entry : (kind : Kind) (bytes key behind value rest : List ℕ) → IsPieceThen bytes key behind → IsPieceThen behind value rest → IsOfForm (Entries kind) bytes → (length rest ≡ 0) × IsValueOf kind value
ends_entry kind bytes key behind value rest front next (row, are, (two, value_is)) =
    let second = piece_at_place behind row 1 value rest (piece_at_place bytes row 0 key behind are front).others next in
    (empty rest (drop 2 row) second.others (omega (arith, two, length-drop 2 row)), rw second.item value_is)

pub is_entry : (kind : Kind) (bytes key behind value rest : List ℕ) → IsPieceThen bytes key behind → IsPieceThen behind value rest → length rest ≡ 0 → IsValueOf kind value → IsOfForm (Entries kind) bytes
is_entry kind bytes key behind value rest front next none value_is =
    (key ∷ value ∷ [], (behind, front, (rest, next, nil rest none)), (refl, value_is))

-- the field of the place may stand there
abbrev MayBeAt : List (List ℕ) → NumberPlace → Type 0
MayBeAt row place = IsTrue (may_be place (slice_index_or row (place.column + 1) []))

-- the field may stand in each number column that is at the place
abbrev pub MayStand : List NumberPlace → ℕ → List ℕ → Type 0
MayStand numbers column field = All (λ place. place.column ≡ column → IsTrue (may_be place field)) numbers

-- the number and so many columns were passed: those stand as they have to, and the bytes that are left are the others
pub record Passed (row : List (List ℕ)) (numbers : List NumberPlace) (rest : List ℕ) (columns : ℕ) : Type 0 where
  pub others : ArePieces rest (drop (columns + 1) row)
  pub within : columns < length row
  pub first : length (slice_index_or row 0 []) ≡ 8
  pub stand : All (λ place. place.column < columns → MayBeAt row place) numbers

-- so far the bytes are those of each row that they may be
pub record Walked (bytes : List ℕ) (numbers : List NumberPlace) (rest : List ℕ) (columns : ℕ) : Type 0 where
  pub row : (more : List (List ℕ)) → ArePieces rest more → (all : List (List ℕ)) × ArePieces bytes all
  pub passed : (row : List (List ℕ)) → ArePieces bytes row → Passed row numbers rest columns

first_passed : (row : List (List ℕ)) (numbers : List NumberPlace) (bytes number behind : List ℕ) → ArePieces bytes row → IsPieceThen bytes number behind → length number ≡ 8 → Passed row numbers behind 0
first_passed row numbers bytes number behind are front eight =
    let here = piece_at_place bytes row 0 number behind are front in
    record {
      others = here.others;
      within = here.within;
      first = ap length (sym here.item) ∙ eight;
      stand = λ k d lt none. absurd (omega (arith, none));
    }

more_passed : (row : List (List ℕ)) (numbers : List NumberPlace) (rest field behind : List ℕ) (place : ℕ) → Passed row numbers rest place → IsPieceThen rest field behind
    → MayStand numbers place field → Passed row numbers behind (place + 1)
more_passed row numbers rest field behind place passed front may =
    let here = piece_at_place rest row (place + 1) field behind passed.others front in
    record {
      others = here.others;
      within = here.within;
      first = passed.first;
      stand = λ k d lt below.
          let at = get_or numbers k d in
          elim (leb_tells place at.column) [
            | inl last ↦
                let same : at.column ≡ place = omega (arith, last.1, below) in
                rw (same, ← here.item) (may k d lt same)
            | inr before ↦ passed.stand k d lt before.1
          ];
    }

pub first_walked : (numbers : List NumberPlace) (bytes number behind : List ℕ) → IsPieceThen bytes number behind → length number ≡ 8 → Walked bytes numbers behind 0
first_walked numbers bytes number behind front eight =
    record {
      row = λ more are. (number ∷ more, (behind, front, are));
      passed = λ row are. first_passed row numbers bytes number behind are front eight;
    }

pub more_walked : (numbers : List NumberPlace) (bytes rest field behind : List ℕ) (place : ℕ) → Walked bytes numbers rest place → IsPieceThen rest field behind
    → MayStand numbers place field → Walked bytes numbers behind (place + 1)
more_walked numbers bytes rest field behind place walked front may =
    record {
      row = λ more are. walked.row (field ∷ more) (behind, front, are);
      passed = λ row are. more_passed row numbers rest field behind place (walked.passed row are) front may;
    }

-- as long as it has more columns, a piece is ahead
pub has_column : (numbers : List NumberPlace) (bytes rest : List ℕ) (place columns : ℕ) → Walked bytes numbers rest place → place < columns → HasNone rest → IsOfForm (Landed columns numbers) bytes → ⊥
has_column numbers bytes rest place columns walked lt none (row, are, (count, eight, stand)) =
    begins rest (drop (place + 1) row) (walked.passed row are).others none (omega (arith, lt, count, length-drop (place + 1) row))

-- which may stand in its column
pub there_stands : (numbers : List NumberPlace) (bytes rest field behind : List ℕ) (place columns : ℕ) → Walked bytes numbers rest place → IsPieceThen rest field behind → IsOfForm (Landed columns numbers) bytes
    → MayStand numbers place field
there_stands numbers bytes rest field behind place columns walked front (row, are, (count, eight, stand)) k d lt same =
    let here = piece_at_place rest row (place + 1) field behind (walked.passed row are).others front in
    rw (here.item, ← same) (stand k d lt).1

-- a number's place is a column's
pub below_columns : (numbers : List NumberPlace) (bytes : List ℕ) (columns : ℕ) → IsOfForm (Landed columns numbers) bytes → All (λ place. place.column < columns) numbers
below_columns numbers bytes columns (row, are, (count, eight, stand)) k d lt = (stand k d lt).0

pub all_walked : (numbers : List NumberPlace) (bytes rest : List ℕ) (columns : ℕ) → Walked bytes numbers rest columns → length rest ≡ 0 → All (λ place. place.column < columns) numbers → IsOfForm (Landed columns numbers) bytes
all_walked numbers bytes rest columns walked none below =
    let all = walked.row [] (nil rest none) in
    let passed = walked.passed all.0 all.1 in
    let ended = no_pieces rest (drop (columns + 1) all.0) passed.others none in
    (all.0, all.1, (omega (arith, ended, length-drop (columns + 1) all.0, passed.within), passed.first, λ k d lt. (below k d lt, passed.stand k d lt (below k d lt))))
