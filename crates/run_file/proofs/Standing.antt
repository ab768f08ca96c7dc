-- The row that a reader stands at is the one that its bytes show.
use Rattle.std.proofs.Common.{◌≡◌, ℕ, true, List, [], ◌∷◌, length, get_or, Ok, refl, sym, subst, arith}
use Rattle.std.specs.Coded.{Coded-set, coded_ℕ}
use Rattle.std.proofs.Math.Logic.{∥∥₁_elim}
use mathlib.Core.Logic.{∥∥₁_prop}
use Rattle.row_page.proofs.Shown.{fields_shown}
use Rattle.row_page.proofs.Rows.{row_had}
use Rattle.aggregate.specs.declared.kind.Kind.{Kind}
use Rattle.aggregate.specs.Rows.{entry_of}
use Rattle.row_form.specs.declared.form.Form.{Form}
use Rattle.row_form.specs.declared.form.Form.TheVariants.{Entries}
use Rattle.run_file.specs.AtEntries.{IsAtEntry}
use Rattle.row_form.specs.Forms.{IsWellFormed}
use Rattle.run_file.specs.Readers.{ReaderView}
use Rattle.run_file.specs.Reading.{IsAtRow, TakesRow, row_at}

pub row_at-is : (reader : ReaderView) (row : List (List ℕ)) → IsAtRow reader row → row_at reader ≡ row
row_at-is reader row h = fields_shown reader.kept.row row h.pieces

-- that there is a row at which it stands says at which
pub stands_there : (reader : ReaderView) → ∥ IsAtRow reader (row_at reader) ∥₁ → IsAtRow reader (row_at reader)
stands_there reader t = row_had reader.kept.row t

-- a row of which it is known that it stands there is the one that its bytes show
pub entry_taken : (kind : Kind) (reader : ReaderView) → reader.form ≡ Entries kind → TakesRow reader (Ok true) → IsAtEntry kind reader
entry_taken kind reader form (row, there, formed) =
    let same : row ≡ row_at reader = sym (row_at-is reader row there) in
    record {
      there = subst (IsAtRow reader) same there;
      formed = subst (IsWellFormed (Entries kind) reader.run.greatest) same (subst (λ (f : Form). IsWellFormed f reader.run.greatest row) form formed);
    }

pub at_entry : (kind : Kind) (reader : ReaderView) → ∥ IsAtEntry kind reader ∥₁ → IsAtRow reader (row_at reader)
at_entry kind reader t = stands_there reader (∥∥₁_elim t ∥∥₁_prop (λ h. ∣ h.there ∣₁))

-- an entry has a key and a value
pub two_fields : (kind : Kind) (reader : ReaderView) → ∥ IsAtEntry kind reader ∥₁ → length (row_at reader) ≡ 2
two_fields kind reader t = ∥∥₁_elim t (Coded-set coded_ℕ _ _) (λ h. h.formed.has_form.0)

pub key_is : (row : List (List ℕ)) → length row ≡ 2 → get_or row 0 [] ≡ (entry_of row).key
key_is [] e = absurd cc
key_is (key ∷ []) e = absurd (omega (arith, e))
key_is (key ∷ value ∷ rest) e = refl

pub value_is : (row : List (List ℕ)) → length row ≡ 2 → get_or row 1 [] ≡ (entry_of row).value
value_is [] e = absurd cc
value_is (key ∷ []) e = absurd (omega (arith, e))
value_is (key ∷ value ∷ rest) e = refl
