-- A text has one verdict.
use Rattle.std.proofs.Common.{◌≡◌, ℕ, ◌+◌, Bool, true, false, cond, List, [], ◌∷◌, ◌++◌, All, length, Option, Some, None, refl, sym, ap, subst, ◌∙◌, inl, inr, arith, append_assoc, append-nil}
use Rattle.std.specs.Prelude.{reverse}
use Rattle.std.specs.List.{AllByRecursion}
use Rattle.std.proofs.lemmas.Bool.{cases_Bool}
use Rattle.std.proofs.lemmas.List.{reverse-append}
use Rattle.std.proofs.lemmas.List.Elements.{recursion_from_All, All-weaker}
use Rattle.pool_ledger.specs.declared.entry.Entry.{Entry}
use Rattle.pool_ledger.specs.Sizes.{Sizes}
use Rattle.pool_ledger.specs.History.{History}
use Rattle.pool_ledger.specs.Legal.{IsPermitted}
use Rattle.journal_audit.specs.declared.rules.Rule.{Rule}
use Rattle.journal_audit.specs.declared.rules.Rule.TheVariants.{Pending}
use Rattle.journal_audit.specs.declared.version.Version.{Version}
use Rattle.journal_audit.specs.Text.{entry_text, lines_text, Fits, FitsIn}
use Rattle.journal_audit.specs.Reading.{cut, cut_behind, line_at}
use Rattle.journal_audit.specs.Lines.{BeginsHead, BeginsLine, IsBadLine}
use Rattle.journal_audit.specs.Rules.{first_broken, is_waiting}
use Rattle.journal_audit.proofs.FieldsTake.{some_is}
use Rattle.journal_audit.proofs.Follows.{breaks_none}
use Rattle.journal_audit.proofs.Journals.{same_entries, same_heads}
use Rattle.journal_audit.proofs.LinesOf.{line_again}
use Rattle.journal_audit.proofs.Tests.{is_not_waiting, none_waits}
use Rattle.journal_replay.specs.declared.verdict.Verdict.{Verdict}
use Rattle.journal_replay.specs.declared.verdict.Verdict.TheVariants.{Yes, No, BadLine}
use Rattle.journal_replay.specs.Verdicts.{BreaksAt, HasBadLine, IsAnswer, IsOfJournal, IsVerdict}
use Rattle.journal_replay.proofs.TurnsKept.{permitted_before}

-- Where entries break a rule

-- the number of an entry and the rule that it breaks, or what comes behind it
told : Option Rule → ℕ → Option (ℕ × Rule) → Option (ℕ × Rule)
told None n later = later
told (Some rule) n later = Some (n + 1, rule)

-- the first entry that isn't permitted after n entries, and the rule that it breaks
fault_from : Sizes → History → ℕ → List Entry → Option (ℕ × Rule)
fault_from s h n [] = cond (is_waiting h) (Some (n + 1, Pending)) None
fault_from s h n (e ∷ es) = told (first_broken s h e) n (fault_from s (e ∷ h) (n + 1) es)

past : (s : Sizes) (front rest : List Entry) (h : History) (n : ℕ) → IsPermitted s (reverse front ++ h) → fault_from s h n (front ++ rest) ≡ fault_from s (reverse front ++ h) (n + length front) rest
unfolding fault_from told
past s [] rest h n permitted = let same : n ≡ n + 0 = omega arith in ap (λ m. fault_from s h m rest) same
past s (e ∷ front) rest h n permitted =
    let grouped : reverse (e ∷ front) ++ h ≡ reverse front ++ (e ∷ h) = ap (λ (g : History). g ++ h) (reverse-append (e ∷ []) front) ∙ append_assoc (reverse front) (e ∷ []) h in
    let after : IsPermitted s (reverse front ++ (e ∷ h)) = subst (IsPermitted s) grouped permitted in
    let may = (permitted_before s (reverse front) (e ∷ h) after).1 in
    let count : (n + 1) + length front ≡ n + length (e ∷ front) = omega arith in
    ap (λ (o : Option Rule). told o n (fault_from s (e ∷ h) (n + 1) (front ++ rest))) (breaks_none s h e may)
    ∙ past s front rest (e ∷ h) (n + 1) after
    ∙ ap (λ (g : History). fault_from s g ((n + 1) + length front) rest) (sym grouped)
    ∙ ap (λ m. fault_from s (reverse (e ∷ front) ++ h) m rest) count

-- the same of an answer
fault_of : Verdict → Option (ℕ × Rule)
fault_of (Yes events) = None
fault_of (No event rule) = Some (event, rule)
fault_of (BadLine line) = None

-- at the end of permitted entries
at_end : (s : Sizes) (entries : List Entry) (waits : Bool) → IsPermitted s (reverse entries) → is_waiting (reverse entries) ≡ waits → fault_from s [] 0 entries ≡ cond waits (Some (length entries + 1, Pending)) None
unfolding fault_from told
at_end s entries waits permitted is =
    let count : 0 + length entries ≡ length entries = omega arith in
    ap (fault_from s [] 0) (sym (append-nil entries))
    ∙ past s entries [] [] 0 (subst (IsPermitted s) (sym (append-nil (reverse entries))) permitted)
    ∙ ap (λ (h : History). fault_from s h (0 + length entries) []) (append-nil (reverse entries))
    ∙ ap (λ n. cond (is_waiting (reverse entries)) (Some (n + 1, Pending)) None) count
    ∙ ap (λ t. cond t (Some (length entries + 1, Pending)) None) is

breaks_at : (s : Sizes) (entries : List Entry) (event : ℕ) (rule : Rule) → BreaksAt s entries event rule → fault_from s [] 0 entries ≡ Some (event, rule)
unfolding fault_from told
breaks_at s entries event rule at =
    let number : (0 + length at.front) + 1 ≡ event = omega (arith, at.number) in
    ap (fault_from s [] 0) at.split
    ∙ past s at.front (at.entry ∷ at.behind) [] 0 (subst (IsPermitted s) (sym (append-nil (reverse at.front))) at.permitted)
    ∙ ap (λ (h : History). fault_from s h (0 + length at.front) (at.entry ∷ at.behind)) (append-nil (reverse at.front))
    ∙ ap (λ (o : Option Rule). told o (0 + length at.front) (fault_from s (at.entry ∷ reverse at.front) ((0 + length at.front) + 1) at.behind)) at.breaks
    ∙ ap (λ n. Some (n, rule)) number

answered : (s : Sizes) (entries : List Entry) (verdict : Verdict) → IsAnswer s entries verdict → fault_from s [] 0 entries ≡ fault_of verdict
unfolding fault_of
answered s entries (Yes events) is = at_end s entries false is.0.permitted (is_not_waiting (reverse entries) is.0.whole)
answered s entries (No event rule) (inl at) = breaks_at s entries event rule at
answered s entries (No event rule) (inr amid) =
    let waits : is_waiting (reverse entries) ≡ true = elim (cases_Bool (is_waiting (reverse entries))) [
      | inl holds ↦ holds
      | inr fails ↦ absurd (amid.waits (none_waits (reverse entries) fails))
    ] in
    at_end s entries true amid.permitted waits
    ∙ ap (λ (n : ℕ). Some (n, Pending)) (sym amid.number)
    ∙ ap (λ (r : Rule). Some (event, r)) (sym amid.rule_is)
answered s entries (BadLine line) is = absurd is

same_answer : (s : Sizes) (entries : List Entry) (one two : Verdict) → IsAnswer s entries one → IsAnswer s entries two → fault_of one ≡ fault_of two → one ≡ two
unfolding fault_of
same_answer s entries (Yes a) (Yes b) one two same = ap Yes (one.1 ∙ sym two.1)
same_answer s entries (Yes a) (No event rule) one two same = absurd (cc same)
same_answer s entries (No event rule) (Yes b) one two same = absurd (cc same)
same_answer s entries (No a r) (No b q) one two same =
    let pair : (a, r) ≡ (b, q) = some_is same in
    ap (λ (n : ℕ). No n r) (ap (λ (p : ℕ × Rule). p.0) pair) ∙ ap (No b) (ap (λ (p : ℕ × Rule). p.1) pair)
same_answer s entries (BadLine line) two one is same = absurd one
same_answer s entries (Yes a) (BadLine line) one two same = absurd two
same_answer s entries (No event rule) (BadLine line) one two same = absurd two

-- What stands in a text

all_fit : (version : Version) (entries : List Entry) → All (FitsIn version) entries → All Fits entries
all_fit version entries fits = All-weaker (FitsIn version) Fits (λ entry fit. fit.fits) entries fits

same_journal : (text : List ℕ) (one two : Verdict) → IsOfJournal text one → IsOfJournal text two → one ≡ two
same_journal text one two a b =
    let parts = same_heads a.of.version b.of.version a.setup b.setup (lines_text a.entries) (lines_text b.entries) a.of.setup_is b.of.setup_is (sym a.of.text_is ∙ b.of.text_is) in
    let entries = same_entries a.entries b.entries (all_fit a.of.version a.entries a.of.fits) (all_fit b.of.version b.entries b.of.fits) parts.2 in
    let first : IsAnswer b.setup b.entries one =
    subst (λ (es : List Entry). IsAnswer b.setup es one) entries (subst (λ (s : Sizes). IsAnswer s a.entries one) parts.1 a.answer) in
    same_answer b.setup b.entries one two first b.answer (sym (answered b.setup b.entries one first) ∙ answered b.setup b.entries two b.answer)

-- Where lines end

none_here : (version : Version) → line_at version [] ≡ None
unfolding line_at cut cut_behind
none_here version = refl

-- no line begins where nothing is left
nothing : (version : Version) → BeginsLine version [] → ⊥
nothing version begins = cc (sym (none_here version) ∙ ap (line_at version) begins.3 ∙ line_again version begins.0 begins.1 begins.2)

pub line_more : (x : Entry) (a : List Entry) (r : List ℕ) → lines_text (x ∷ a) ++ r ≡ entry_text x ++ (10 ∷ (lines_text a ++ r))
line_more x a r = append_assoc (entry_text x ++ (10 ∷ [])) (lines_text a) r ∙ append_assoc (entry_text x) (10 ∷ []) (lines_text a ++ r)

module _ (version : Version) where
  same_fronts : (a b : List Entry) (r q : List ℕ) → AllByRecursion (FitsIn version) a → AllByRecursion (FitsIn version) b
      → (BeginsLine version r → ⊥) → (BeginsLine version q → ⊥) → lines_text a ++ r ≡ lines_text b ++ q → (a ≡ b) × (r ≡ q)
  same_fronts [] [] r q fa fb nr nq same = (refl, same)
  same_fronts [] (y ∷ b) r q fa fb nr nq same = absurd (nr (y, lines_text b ++ q, fb.0, same ∙ line_more y b q))
  same_fronts (x ∷ a) [] r q fa fb nr nq same = absurd (nq (x, lines_text a ++ r, fa.0, sym same ∙ line_more x a r))
  same_fronts (x ∷ a) (y ∷ b) r q fa fb nr nq same =
      let pair : (x, lines_text a ++ r) ≡ (y, lines_text b ++ q) =
      some_is (sym (line_again version x (lines_text a ++ r) fa.0) ∙ ap (line_at version) (sym (line_more x a r) ∙ same ∙ line_more y b q) ∙ line_again version y (lines_text b ++ q) fb.0) in
      let head : x ≡ y = ap (λ (p : Entry × List ℕ). p.0) pair in
      let rest = same_fronts a b r q fa.1 fb.1 nr nq (ap (λ (p : Entry × List ℕ). p.1) pair) in
      (ap (λ (e : Entry). e ∷ a) head ∙ ap (λ (es : List Entry). y ∷ es) rest.0, rest.1)

  -- the lines of entries have no bad one
  no_bad_line : (entries : List Entry) (lines : List ℕ) (line : ℕ) → All (FitsIn version) entries → lines_text entries ≡ lines → IsBadLine version lines line → ⊥
  no_bad_line entries lines line fits same bad =
      let both = same_fronts entries bad.front [] bad.rest (recursion_from_All (FitsIn version) entries fits) (recursion_from_All (FitsIn version) bad.front bad.fits) (nothing version) bad.bad
      (append-nil (lines_text entries) ∙ same ∙ bad.split) in
      let none : length bad.rest ≡ 0 = ap length (sym both.1) in
      omega (arith, none, bad.left)

  -- lines have one bad line
  one_bad_line : (lines others : List ℕ) (a b : ℕ) → lines ≡ others → IsBadLine version lines a → IsBadLine version others b → a ≡ b
  one_bad_line lines others a b same one two =
      let both = same_fronts one.front two.front one.rest two.rest (recursion_from_All (FitsIn version) one.front one.fits) (recursion_from_All (FitsIn version) two.front two.fits) one.bad two.bad
      (sym one.split ∙ same ∙ two.split) in
      let counts : length one.front ≡ length two.front = ap length both.0 in
      omega (arith, one.number, two.number, counts)

-- no line of a journal's text is bad
none_bad : (text : List ℕ) (verdict : Verdict) (line : ℕ) → IsOfJournal text verdict → HasBadLine text line → ⊥
none_bad text verdict line of has =
    let parts = same_heads of.of.version has.version of.setup has.setup (lines_text of.entries) has.lines of.of.setup_is has.setup_is (sym of.of.text_is ∙ has.split) in
    let bad : IsBadLine of.of.version has.lines line = subst (λ (v : Version). IsBadLine v has.lines line) (sym parts.0) has.bad in
    no_bad_line of.of.version of.entries has.lines line of.of.fits parts.2 bad

same_bad : (text : List ℕ) (a b : ℕ) → HasBadLine text a → HasBadLine text b → a ≡ b
same_bad text a b one two =
    let parts = same_heads one.version two.version one.setup two.setup one.lines two.lines one.setup_is two.setup_is (sym one.split ∙ two.split) in
    let bad : IsBadLine two.version one.lines a = subst (λ (v : Version). IsBadLine v one.lines a) parts.0 one.bad in
    one_bad_line two.version one.lines two.lines a b parts.2 bad two.bad

-- One verdict

begins : (text : List ℕ) (verdict : Verdict) (of : IsOfJournal text verdict) → BeginsHead of.of.version text
begins text verdict of = (of.setup, lines_text of.entries, of.of.setup_is, of.of.text_is)

begins_too : (text : List ℕ) (line : ℕ) (has : HasBadLine text line) → BeginsHead has.version text
begins_too text line has = (has.setup, has.lines, has.setup_is, has.split)

apart : (text : List ℕ) (verdict : Verdict) (line : ℕ) → IsOfJournal text verdict → IsVerdict text (BadLine line) → ⊥
apart text verdict line of (inl no_head) = no_head.0 of.of.version (begins text verdict of)
apart text verdict line of (inr has) = none_bad text verdict line of has

same_lines : (text : List ℕ) (a b : ℕ) → IsVerdict text (BadLine a) → IsVerdict text (BadLine b) → a ≡ b
same_lines text a b (inl x) (inl y) = x.1 ∙ sym y.1
same_lines text a b (inl x) (inr has) = absurd (x.0 has.version (begins_too text b has))
same_lines text a b (inr has) (inl y) = absurd (y.0 has.version (begins_too text a has))
same_lines text a b (inr one) (inr two) = same_bad text a b one two

pub one_verdict : (text : List ℕ) (one two : Verdict) → IsVerdict text one → IsVerdict text two → one ≡ two
one_verdict text (Yes n) (Yes m) a b = same_journal text (Yes n) (Yes m) a b
one_verdict text (Yes n) (No m r) a b = same_journal text (Yes n) (No m r) a b
one_verdict text (Yes n) (BadLine l) a b = absurd (apart text (Yes n) l a b)
one_verdict text (No n r) (Yes m) a b = same_journal text (No n r) (Yes m) a b
one_verdict text (No n r) (No m q) a b = same_journal text (No n r) (No m q) a b
one_verdict text (No n r) (BadLine l) a b = absurd (apart text (No n r) l a b)
one_verdict text (BadLine l) (Yes n) a b = absurd (apart text (Yes n) l b a)
one_verdict text (BadLine l) (No n r) a b = absurd (apart text (No n r) l b a)
one_verdict text (BadLine l) (BadLine m) a b = ap BadLine (same_lines text l m a b)
