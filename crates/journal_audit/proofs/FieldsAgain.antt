-- The first field of a line is read as it is spelled.
use Rattle.std.proofs.Common.{ℕ, ◌≡◌, ◌<◌, ◌≤◌, ◌^◌, ◌++◌, ◌+◌, ◌%◌, ◌∷◌, [], List, Option, Some, None, decimal, codes, length, take, drop, true, false, Bool, nat_lt, IfSome, arith, rules, refl, ap, subst, length-append}
use Rattle.std.specs.List.{prefix_len}
use Rattle.std.specs.Str.{bytes_eq}
use Rattle.std.proofs.lemmas.List.Folds.{prefix_len-append}
use Rattle.std.proofs.lemmas.Slice.Eq.{bytes_eq-Decides}
use Rattle.std.proofs.lemmas.Fmt.{decimal_by_steps}
use Rattle.pool_ledger.specs.declared.entry.Fate.{Fate}
use Rattle.pool_ledger.specs.declared.entry.Fate.TheVariants.{Disk, Gone, NoMemory}
use Rattle.pool_ledger.specs.declared.entry.Level.{Level}
use Rattle.pool_ledger.specs.declared.entry.Level.TheVariants.{Memory, Disk as OnDisk}
use Rattle.journal_audit.specs.Text.{field, number_field, got_text, fate_word, level_word, form_word}
use Rattle.journal_audit.specs.Fields.{is_no_comma, split, field_at, whole, long_at, short_at, got_of, got_at, fate_of, fate_at, level_of, level_at, form_of, form_at}
use Rattle.journal_audit.proofs.Wholes.{whole_again}

-- no comma in the text
abbrev pub IsPlain : List ℕ → Type 0
IsPlain text = prefix_len is_no_comma text ≡ length text

-- nothing, or a comma first
abbrev pub IsEnd : List ℕ → Type 0
IsEnd rest = prefix_len is_no_comma rest ≡ 0

pub take_front : (a b : List ℕ) → take (length a) (a ++ b) ≡ a
take_front [] b = refl
take_front (x ∷ a) b = ap (λ l. x ∷ l) (take_front a b)

pub drop_front : (a b : List ℕ) → drop (length a) (a ++ b) ≡ b
drop_front [] b = refl
drop_front (x ∷ a) b = drop_front a b

pub passes_append : (p : ℕ → Bool) (a b : List ℕ) → prefix_len p a ≡ length a → prefix_len p (a ++ b) ≡ length a + prefix_len p b
passes_append p [] b h = omega arith
passes_append p (x ∷ a) b h = search (rules, arith, prefix_len-append p (x ∷ a) b)

pub digits_pass : (p : ℕ → Bool) → ((b : ℕ) → 48 ≤ b → b < 58 → p b ≡ true) → (n : ℕ) → n < 2 ^ 64 → prefix_len p (decimal n) ≡ length (decimal n)
digits_pass p each n h = decimal_by_steps (λ _ ds. prefix_len p ds ≡ length ds)
    (λ m below. rw (each (48 + m) (omega arith) (omega arith)) refl)
    (λ m ds _ all.
    let one : prefix_len p ((48 + m % 10) ∷ []) ≡ 1 = rw (each (48 + m % 10) (omega arith) (omega arith)) refl in
    omega (arith, passes_append p ds ((48 + m % 10) ∷ []) all, one, length-append ds ((48 + m % 10) ∷ [])))
    n h

digit_plain : (b : ℕ) → 48 ≤ b → b < 58 → is_no_comma b ≡ true
digit_plain b h _ = search (rules, arith)

digit_low : (b : ℕ) → 48 ≤ b → b < 58 → nat_lt b 58 ≡ true
digit_low b _ h = search (rules, arith)

pub plain_decimal : (n : ℕ) → n < 2 ^ 64 → IsPlain (decimal n)
plain_decimal = digits_pass is_no_comma digit_plain

pub split_again : (text rest : List ℕ) → IsPlain text → IsEnd rest → split (text ++ rest) ≡ (text, rest)
unfolding split
split_again text rest p e =
    let len : prefix_len is_no_comma (text ++ rest) ≡ length text = omega (arith, passes_append is_no_comma text rest p, e) in
    rw (len, take_front text rest, drop_front text rest) refl

pub field_again : (text rest : List ℕ) → IsPlain text → IsEnd rest → field_at (field text ++ rest) ≡ Some (text, rest)
unfolding field_at
field_again text rest p e = ap Some (split_again text rest p e)

pub long_again : (n : ℕ) (rest : List ℕ) → n < 2 ^ 64 → IsEnd rest → long_at (number_field n ++ rest) ≡ Some (n, rest)
unfolding long_at
long_again n rest h e = rw (field_again (decimal n) rest (plain_decimal n h) e) (rw (whole_again n h) refl)

pub short_again : (n : ℕ) (rest : List ℕ) → n < 2 ^ 32 → IsEnd rest → short_at (number_field n ++ rest) ≡ Some (n, rest)
unfolding short_at
short_again n rest h e =
    let below : nat_lt n (2 ^ 32) ≡ true = search (rules, arith) in
    rw (long_again n rest (omega (arith, h)) e) (rw below refl)

-- other bytes aren't the word
isn't : (a b : List ℕ) → (a ≡ b → ⊥) → bytes_eq a b ≡ false
isn't a b h = search (rules, bytes_eq-Decides a b)

wait_isn't : (n : ℕ) → n < 2 ^ 64 → decimal n ≡ codes "wait" → ⊥
wait_isn't n h e =
    let no : 0 ≡ 4 = subst (λ x. prefix_len (λ b. nat_lt b 58) x ≡ length x) e (digits_pass (λ b. nat_lt b 58) digit_low n h) in
    absurd (cc no)

got_of_again : (got : Option ℕ) → IfSome got (λ n. n < 2 ^ 64) → got_of (got_text got) ≡ Some got
unfolding got_of whole
got_of_again None h = refl
got_of_again (Some n) h =
    let other : bytes_eq (decimal n) (codes "wait") ≡ false = isn't (decimal n) (codes "wait") (λ e. wait_isn't n h e) in
    rw other (rw (whole_again n h) refl)

got_plain : (got : Option ℕ) → IfSome got (λ n. n < 2 ^ 64) → IsPlain (got_text got)
got_plain None h = refl
got_plain (Some n) h = plain_decimal n h

pub got_again : (got : Option ℕ) (rest : List ℕ) → IfSome got (λ n. n < 2 ^ 64) → IsEnd rest → got_at (field (got_text got) ++ rest) ≡ Some (got, rest)
unfolding got_at
got_again got rest h e = rw (field_again (got_text got) rest (got_plain got h) e) (rw (got_of_again got h) refl)

pub fate_again : (fate : Fate) (rest : List ℕ) → IsEnd rest → fate_at (field (fate_word fate) ++ rest) ≡ Some (fate, rest)
unfolding fate_at fate_of
fate_again Disk rest e = rw (field_again (codes "disk") rest refl e) refl
fate_again Gone rest e = rw (field_again (codes "gone") rest refl e) refl
fate_again NoMemory rest e = rw (field_again (codes "nomem") rest refl e) refl

pub level_again : (level : Level) (rest : List ℕ) → IsEnd rest → level_at (field (level_word level) ++ rest) ≡ Some (level, rest)
unfolding level_at level_of
level_again Memory rest e = rw (field_again (codes "memory") rest refl e) refl
level_again OnDisk rest e = rw (field_again (codes "disk") rest refl e) refl

pub form_again : (copy : Bool) (rest : List ℕ) → IsEnd rest → form_at (field (form_word copy) ++ rest) ≡ Some (copy, rest)
unfolding form_at form_of
form_again true rest e = rw (field_again (codes "copy") rest refl e) refl
form_again false rest e = rw (field_again (codes "resident") rest refl e) refl
