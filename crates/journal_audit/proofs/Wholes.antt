-- A decimal is read as its number, and what is read as a number is its decimal.
use Rattle.std.proofs.Common.{ℕ, ◌≡◌, ◌<◌, ◌^◌, List, Option, Some, None, decimal, true, false, Bool, ◌&&◌, nat_lt, IfSome, arith, rules, sym, ◌∙◌, refl, ap}
use Rattle.std.specs.Str.{bytes_eq}
use Rattle.std.specs.Str.Parse.{digits_value}
use Rattle.std.proofs.lemmas.Option.{cond_some}
use Rattle.std.proofs.lemmas.Slice.Eq.{bytes_eq-Decides}
use Rattle.std.proofs.lemmas.Fmt.{decimal_is_IsNumeral}
use Rattle.journal_audit.specs.Fields.{whole}

-- what isn't any number is none
pub is_none : {A : Type 0} (o : Option A) → ((x : A) → o ≡ Some x → ⊥) → None ≡ o
is_none None h = refl
is_none (Some x) h = absurd (h x refl)

pub both : (a b : Bool) → (a && b) ≡ true → (a ≡ true) × (b ≡ true)
both true b h = (refl, h)
both false b h = absurd (cc h)

pub same_bytes : (a b : List ℕ) → bytes_eq a b ≡ true → a ≡ b
same_bytes a b h = search (rules, bytes_eq-Decides a b)

pub bytes_eq_self : (a : List ℕ) → bytes_eq a a ≡ true
bytes_eq_self a = search (rules, bytes_eq-Decides a a)

-- a decimal is read as its number
pub whole_again : (n : ℕ) → n < 2 ^ 64 → whole (decimal n) ≡ Some n
unfolding whole
whole_again n h = rw (decimal_is_IsNumeral n h).1 (rw (bytes_eq_self (decimal n)) (search (rules, arith)))

-- what is read is a number's decimal
pub whole_takes : (bytes : List ℕ) (n : ℕ) → whole bytes ≡ Some n → (n < 2 ^ 64) × (bytes ≡ decimal n)
unfolding whole
whole_takes bytes n h =
    let v = digits_value 10 bytes in
    let t = cond_some (nat_lt v (2 ^ 64) && bytes_eq bytes (decimal v)) v n h in
    let u = both (nat_lt v (2 ^ 64)) (bytes_eq bytes (decimal v)) t.0 in
    let s : bytes ≡ decimal v = same_bytes bytes (decimal v) u.1 in
    let below : v < 2 ^ 64 = search (rules, arith) in
    (rw (sym t.1) below, s ∙ ap decimal t.1)

-- what gives a number exactly for its decimal gives what reading gives
pub whole_is : (bytes : List ℕ) (o : Option ℕ) → IfSome o (λ n. (n < 2 ^ 64) × (bytes ≡ decimal n)) → ((n : ℕ) → n < 2 ^ 64 → bytes ≡ decimal n → o ≡ Some n) → o ≡ whole bytes
whole_is bytes (Some n) found only = rw found.1 (sym (whole_again n found.0))
whole_is bytes None found only = is_none (whole bytes) (λ n h. let t = whole_takes bytes n h in absurd (cc (only n t.0 t.1)))
