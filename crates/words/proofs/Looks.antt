-- What `clap` sees of a word is what `Reading` sees of it.
use Rattle.std.proofs.Common.{◌≡◌, ℕ, Bool, true, false, refl, sym, subst, List, [], ◌∷◌, Some, None, true≢false}
use Rattle.std.specs.Prelude.{◌==◌, slice_get}
use Rattle.std.specs.Str.{IsUtf8, bytes_eq, chars}
use Rattle.std.proofs.lemmas.Bool.{eqb-true}
use Rattle.std.proofs.lemmas.Str.{is_utf8-from_IsUtf8}
use Rattle.std.specs.Str.{is_utf8}
use Rattle.std.specs.Str.{encode_utf8_all}
use lib.Utf8.{scalars, encode}
use Rattle.clap.proofs.WalkLemmas.{both}
use Rattle.clap.specs.Lexer.{long_of, short_of}
use Rattle.words.specs.Reading.{Text, Word, dashes, named, refused, plain, word_of, after_dash, after_two_dashes}

-- ---- what a word looks like

abbrev pub double_dash : Text
double_dash = 45 ∷ 45 ∷ []

-- `clap` sees the word as `Reading` does
abbrev pub LooksLike : Text → Word → Type 0
LooksLike x dashes = bytes_eq x double_dash ≡ true
LooksLike x (named n v) = (bytes_eq x double_dash ≡ false) × (long_of x ≡ Some (n, v))
LooksLike x refused = (bytes_eq x double_dash ≡ false) × (long_of x ≡ None)
    × ((b : ℕ) × (flags : Text) × (c : ℕ) × (short_of x ≡ Some (b ∷ flags)) × (slice_get (chars (b ∷ flags)) 0 ≡ Some c))
LooksLike x plain = (bytes_eq x double_dash ≡ false) × (long_of x ≡ None) × (short_of x ≡ None)

-- a text that goes on behind an ASCII byte has a character there
pub text_goes_on : (b : ℕ) (rest : Text) → IsUtf8 (45 ∷ b ∷ rest) → (c : ℕ) × (slice_get (chars (b ∷ rest)) 0 ≡ Some c)
unfolding chars is_utf8 encode
text_goes_on b rest u =
    let test : is_utf8 (45 ∷ b ∷ rest) ≡ true = is_utf8-from_IsUtf8 (45 ∷ b ∷ rest) u in
    go (chars (b ∷ rest)) (both (scalars (45 ∷ chars (b ∷ rest))) (bytes_eq (encode_utf8_all (45 ∷ chars (b ∷ rest))) (45 ∷ b ∷ rest)) test).1
  where
    go : (cs : List ℕ) → bytes_eq (encode_utf8_all (45 ∷ cs)) (45 ∷ b ∷ rest) ≡ true → (c : ℕ) × (slice_get cs 0 ≡ Some c)
    go [] e = absurd (true≢false (sym e))
    go (c ∷ cs) e = (c, refl)

pub looks : (x : Text) → IsUtf8 x → LooksLike x (word_of x)
looks [] u = (refl, refl, refl)
looks (x ∷ rest) u = first (x == 45) refl
  where
    third : (rest : Text) → LooksLike (45 ∷ 45 ∷ rest) (after_two_dashes rest)
    third [] = refl
    third (z ∷ more) = (refl, refl)

    second : (rest : Text) → IsUtf8 (45 ∷ rest) → LooksLike (45 ∷ rest) (after_dash rest)
    second [] u = (refl, refl, refl)
    second (y ∷ more) u = pick (y == 45) refl
      where
        pick : (b : Bool) → (y == 45) ≡ b → LooksLike (45 ∷ y ∷ more) (after_dash (y ∷ more))
        pick true t =
            let is : y ≡ 45 = eqb-true y 45 t in
            subst (λ z. LooksLike (45 ∷ z ∷ more) (after_dash (z ∷ more))) (sym is) (third more)
        pick false t =
            let c = text_goes_on y more u in
            let is : after_dash (y ∷ more) ≡ refused = rw t refl in
            subst (λ w. LooksLike (45 ∷ y ∷ more) w) (sym is) (rw t refl, rw t refl, (y, more, c.0, rw t refl, c.1))

    first : (b : Bool) → (x == 45) ≡ b → LooksLike (x ∷ rest) (word_of (x ∷ rest))
    first true t =
        let is : x ≡ 45 = eqb-true x 45 t in
        subst (λ z. LooksLike (z ∷ rest) (word_of (z ∷ rest))) (sym is) (second rest (subst (λ z. IsUtf8 (z ∷ rest)) is u))
    first false t =
        let is : word_of (x ∷ rest) ≡ plain = rw t refl in
        subst (λ w. LooksLike (x ∷ rest) w) (sym is) (rw t refl, rw t refl, rw t refl)
