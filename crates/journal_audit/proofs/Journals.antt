-- No text is of two journals.
use Rattle.std.proofs.Common.{ℕ, ◌≡◌, ◌∙◌, ◌++◌, ◌∷◌, [], List, Some, None, All, sym, ap, refl, append_assoc}
use Rattle.std.specs.List.{AllByRecursion}
use Rattle.std.proofs.lemmas.List.Elements.{recursion_from_All}
use Rattle.pool_ledger.specs.declared.entry.Entry.{Entry}
use Rattle.pool_ledger.specs.Sizes.{Sizes}
use Rattle.journal_audit.specs.declared.version.Version.{Version}
use Rattle.journal_audit.specs.declared.version.Version.TheVariants.{Second}
use Rattle.journal_audit.specs.Text.{entry_text, head_text, lines_text, Fits, FitsIn}
use Rattle.journal_audit.specs.Reading.{cut, cut_behind, line_at, head_line_at}
use Rattle.journal_audit.specs.Lines.{IsSetup}
use Rattle.journal_audit.proofs.LinesOf.{line_again, head_line_again}
use Rattle.journal_audit.proofs.FieldsTake.{some_is}

-- what fits is spelled in the second version
pub in_second : (entry : Entry) → Fits entry → FitsIn Second entry
in_second entry h = record { fits = h; known = λ same. absurd (cc same) }

-- the first line of the lines
first : (entry : Entry) (rest : List ℕ) → Fits entry → line_at Second ((entry_text entry ++ (10 ∷ [])) ++ rest) ≡ Some (entry, rest)
first entry rest h = ap (line_at Second) (append_assoc (entry_text entry) (10 ∷ []) rest) ∙ line_again Second entry rest (in_second entry h)

none_here : line_at Second [] ≡ None
unfolding line_at cut cut_behind
none_here = refl

same_lines : (a b : List Entry) → AllByRecursion Fits a → AllByRecursion Fits b → lines_text a ≡ lines_text b → a ≡ b
same_lines [] [] fa fb same = refl
same_lines [] (y ∷ b) fa fb same = absurd (cc (sym none_here ∙ ap (line_at Second) same ∙ first y (lines_text b) fb.0))
same_lines (x ∷ a) [] fa fb same = absurd (cc (sym none_here ∙ ap (line_at Second) (sym same) ∙ first x (lines_text a) fa.0))
same_lines (x ∷ a) (y ∷ b) fa fb same =
    let pair : (x, lines_text a) ≡ (y, lines_text b) = some_is (sym (first x (lines_text a) fa.0) ∙ ap (line_at Second) same ∙ first y (lines_text b) fb.0) in
    let head : x ≡ y = ap (λ (p : Entry × List ℕ). p.0) pair in
    let tail : a ≡ b = same_lines a b fa.1 fb.1 (ap (λ (p : Entry × List ℕ). p.1) pair) in
    rw (head, tail) refl

-- texts that are the same have the same version and sizes, and the same bytes behind their first line
pub same_heads : (v w : Version) (a b : Sizes) (one two : List ℕ) → IsSetup a → IsSetup b
    → head_text v a ++ (10 ∷ one) ≡ head_text w b ++ (10 ∷ two) → (v ≡ w) × (a ≡ b) × (one ≡ two)
same_heads v w a b one two fa fb same =
    let left : Version × Sizes × List ℕ = (v, a, one) in
    let right : Version × Sizes × List ℕ = (w, b, two) in
    let pair : left ≡ right = some_is (sym (head_line_again v a one fa) ∙ ap head_line_at same ∙ head_line_again w b two fb) in
    (ap (λ (p : Version × Sizes × List ℕ). p.0) pair, ap (λ (p : Version × Sizes × List ℕ). p.1) pair, ap (λ (p : Version × Sizes × List ℕ). p.2) pair)

pub same_entries : (a b : List Entry) → All Fits a → All Fits b → lines_text a ≡ lines_text b → a ≡ b
same_entries a b fa fb same = same_lines a b (recursion_from_All Fits a fa) (recursion_from_All Fits b fb) same
