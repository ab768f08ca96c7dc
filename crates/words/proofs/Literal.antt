-- The stricter reading and the reading of the definition come to the same where no value that begins with `-` is taken; none is a number.
use Rattle.std.proofs.Common.{◌≡◌, ◌∙◌, ◌&&◌, ◌||◌, ◌⊎◌, inl, inr, Bool, cond, codes, true, false, refl, sym, ap, List, [], ◌∷◌, ◌++◌, map, Option, Some, None, is_some, append_assoc, append-nil, nat_lt, nat_le, length, true≢false}
use Rattle.std.specs.Prelude.{◌==◌, option_and_then}
use Rattle.std.specs.List.{find, list_all}
use Rattle.std.specs.Option.{option_map_or}
use Rattle.std.specs.Str.{bytes_eq}
use Rattle.std.specs.Str.Parse.{digits_value}
use Rattle.std.proofs.lemmas.Slice.Eq.{bytes_eq-Decides}
use Rattle.std.proofs.lemmas.Bool.{eqb-true}
use Rattle.std.proofs.Math.Bool.{and-false}
use Rattle.words.specs.Reading.{Grammar, Kind, Text, Use, Word, valued, bare, unknown, dashes, named, refused, plain, after_dash, collect, contains_text, has_use, word_kind_in, named_use, read, read_places, read_word, use_of, value_of, with_place, with_use, word_of}
use Rattle.words.specs.Numbers.{NumberOption, fits, fits_text, is_decimal}
use Rattle.words.proofs.Rules.{or_parts}
use Rattle.words.proofs.Strict.{bytes_same, strict, strict_value}

abbrev pub is_plain : Word → Bool
is_plain plain = true
is_plain _ = false

module _ (g : Grammar) where
  -- an option with a value that begins with `-`
  pub record Bad (u : Use) : Type 0 where
    pub option : word_kind_in g u.name ≡ valued
    pub dash : is_plain (word_of u.value) ≡ false

  abbrev pub HasBad : List Use → Type 0
  HasBad [] = ⊥
  HasBad (u ∷ us) = Bad u ⊎ HasBad us

  abbrev NoneOrBad : Option (List Use) → Type 0
  NoneOrBad None = Unit {0}
  NoneOrBad (Some us) = HasBad us

  abbrev pub Agrees : Option (List Use) → Option (List Use) → Type 0
  Agrees s r = (s ≡ r) ⊎ ((s ≡ None) × NoneOrBad r)

  agrees_use : (u : Use) (s r : Option (List Use)) → Agrees s r → Agrees (with_use u s) (with_use u r)
  agrees_use u s r (inl e) = inl (ap (with_use u) e)
  agrees_use u s None (inr h) = inr (ap (with_use u) h.0, tt)
  agrees_use u s (Some us) (inr h) = inr (ap (with_use u) h.0, inr h.1)

  bad_use : (u : Use) (r : Option (List Use)) → Bad u → NoneOrBad (with_use u r)
  bad_use u None b = tt
  bad_use u (Some us) b = inl b

  abbrev Waits : Option Text → Type 0
  Waits None = Unit {0}
  Waits (Some n) = word_kind_in g n ≡ valued

  value_agrees : (n x : Text) (k : Word) → word_of x ≡ k → word_kind_in g n ≡ valued → (s r : Option (List Use)) → Agrees s r → Agrees (strict_value n k x s) (with_use (use_of n x) r)
  value_agrees n x plain is kind s r a = agrees_use (use_of n x) s r a
  value_agrees n x dashes is kind s r a = inr (refl, bad_use (use_of n x) r (record { option = kind; dash = ap is_plain is }))
  value_agrees n x (named m v) is kind s r a = inr (refl, bad_use (use_of n x) r (record { option = kind; dash = ap is_plain is }))
  value_agrees n x refused is kind s r a = inr (refl, bad_use (use_of n x) r (record { option = kind; dash = ap is_plain is }))

  named_agrees : (k : Kind) (n : Text) (v : Option Text) → word_kind_in g n ≡ k → (s r : Option Text → Option (List Use)) → ((w : Option Text) → Waits w → Agrees (s w) (r w))
      → Agrees (named_use k n v s) (named_use k n v r)
  named_agrees valued n (Some v) is s r a = agrees_use (use_of n v) (s None) (r None) (a None tt)
  named_agrees valued n None is s r a = a (Some n) is
  named_agrees bare n (Some v) is s r a = inl refl
  named_agrees bare n None is s r a = agrees_use (use_of n (codes "true")) (s None) (r None) (a None tt)
  named_agrees unknown n v is s r a = inl refl

  place_agrees : (places : List Text) (x : Text) (s r : List Text → Option (List Use)) → ((ps : List Text) → Agrees (s ps) (r ps)) → Agrees (with_place places x s) (with_place places x r)
  place_agrees [] x s r a = inl refl
  place_agrees (p ∷ ps) x s r a = agrees_use (use_of p x) (s ps) (r ps) (a ps)

  word_agrees : (k : Word) (x : Text) (places : List Text) (behind : Option (List Use)) (s r : List Text → Option Text → Option (List Use))
      → ((ps : List Text) (w : Option Text) → Waits w → Agrees (s ps w) (r ps w)) → Agrees (read_word g k x places behind s) (read_word g k x places behind r)
  word_agrees dashes x places behind s r a = inl refl
  word_agrees (named n v) x places behind s r a = named_agrees (word_kind_in g n) n v refl (s places) (r places) (λ w h. a places w h)
  word_agrees refused x places behind s r a = inl refl
  word_agrees plain x places behind s r a = place_agrees places x (λ ps. s ps None) (λ ps. r ps None) (λ ps. a ps None tt)

  pub agrees : (words places : List Text) (w : Option Text) → Waits w → Agrees (strict g words places w) (read g words places w)
  unfolding strict read
  agrees [] places None h = inl refl
  agrees [] places (Some n) h = inl refl
  agrees (x ∷ rest) places None h =
      word_agrees (word_of x) x places (read_places rest places) (strict g rest) (read g rest) (λ ps w k. agrees rest ps w k)
  agrees (x ∷ rest) places (Some n) h =
      value_agrees n x (word_of x) refl h (strict g rest places None) (read g rest places None) (agrees rest places None tt)

-- ---- what `collect` keeps

pub collect_is : (us before r : List Use) → collect before us ≡ Some r → r ≡ before ++ us
collect_is [] before r e = sym (ap (λ o. option_map_or (λ x. x) o before) e) ∙ sym (append-nil before)
collect_is (u ∷ us) before r e = go (has_use u.name before) e (λ t. collect_is us (before ++ u ∷ []) r t)
  where
    go : (b : Bool) → cond b None (collect (before ++ u ∷ []) us) ≡ Some r → (collect (before ++ u ∷ []) us ≡ Some r → r ≡ (before ++ u ∷ []) ++ us) → r ≡ before ++ (u ∷ us)
    go true t ih = absurd (true≢false (sym (ap is_some t)))
    go false t ih = ih t ∙ append_assoc before (u ∷ []) us

use_found : (before : List Use) (u : Use) (more : List Use) → has_use u.name before ≡ false → find (λ v. bytes_eq v.name u.name) ((before ++ u ∷ []) ++ more) ≡ Some u
use_found [] u more new = ap (λ b. cond b (Some u) (find (λ v. bytes_eq v.name u.name) more)) (bytes_same u.name)
use_found (x ∷ before) u more new =
    let parts = or_parts (bytes_eq x.name u.name) (has_use u.name before) new in
    ap (λ b. cond b (Some x) (find (λ v. bytes_eq v.name u.name) ((before ++ u ∷ []) ++ more))) parts.0 ∙ use_found before u more parts.1

pub bad_found : (g : Grammar) (us before r : List Use) → collect before us ≡ Some r → HasBad g us → (u : Use) × (Bad g u × (find (λ v. bytes_eq v.name u.name) r ≡ Some u))
bad_found g [] before r e h = absurd h
bad_found g (u ∷ us) before r e h = go (has_use u.name before) refl e (λ t k. bad_found g us (before ++ u ∷ []) r t k) h
  where
    go : (b : Bool) → has_use u.name before ≡ b → cond b None (collect (before ++ u ∷ []) us) ≡ Some r
        → (collect (before ++ u ∷ []) us ≡ Some r → HasBad g us → (x : Use) × (Bad g x × (find (λ v. bytes_eq v.name x.name) r ≡ Some x)))
        → Bad g u ⊎ HasBad g us → (x : Use) × (Bad g x × (find (λ v. bytes_eq v.name x.name) r ≡ Some x))
    go true new t ih k = absurd (true≢false (sym (ap is_some t)))
    go false new t ih (inl b) =
        let is : r ≡ (before ++ u ∷ []) ++ us = collect_is us (before ++ u ∷ []) r t in
        (u, (b, ap (find (λ v. bytes_eq v.name u.name)) is ∙ use_found before u us new))
    go false new t ih (inr k) = ih t k

-- ---- such a value is no number

no_decimal : (v : Text) → is_plain (word_of v) ≡ false → is_decimal v ≡ false
no_decimal [] e = absurd (true≢false e)
no_decimal (x ∷ rest) e = go (x == 45) refl
  where
    go : (b : Bool) → (x == 45) ≡ b → is_decimal (x ∷ rest) ≡ false
    go true t =
        let is : x ≡ 45 = eqb-true x 45 t in
        ap (λ y. is_decimal (y ∷ rest)) is
        ∙ ap (λ b. nat_lt 0 (length (45 ∷ rest)) && b) (and-false (nat_le (length (45 ∷ rest)) 20)) ∙ and-false (nat_lt 0 (length (45 ∷ rest)))
    go false t = absurd (true≢false (sym (ap (λ b. is_plain (cond b (after_dash rest) plain)) t) ∙ e))

pub unfit : (table : List NumberOption) (us : List Use) (n v : Text) → contains_text (map (λ o. o.name) table) n ≡ true → value_of n us ≡ Some v → is_plain (word_of v) ≡ false
    → list_all (fits (λ x. value_of x us)) table ≡ false
unfit [] us n v has is dash = absurd (true≢false (sym has))
unfit (o ∷ os) us n v has is dash = go (bytes_eq o.name n) refl has (λ t. unfit os us n v t is dash)
  where
    go : (b : Bool) → bytes_eq o.name n ≡ b → (b || contains_text (map (λ o. o.name) os) n) ≡ true
        → (contains_text (map (λ o. o.name) os) n ≡ true → list_all (fits (λ x. value_of x us)) os ≡ false) → (fits (λ x. value_of x us) o && list_all (fits (λ x. value_of x us)) os) ≡ false
    go true t h ih =
        let same : o.name ≡ n = (bytes_eq-Decides o.name n).0 t in
        ap (λ x. fits_text o.least o.greatest (value_of x us) && list_all (fits (λ x. value_of x us)) os) same
        ∙ ap (λ x. fits_text o.least o.greatest x && list_all (fits (λ x. value_of x us)) os) is
        ∙ ap (λ b. (b && (nat_le o.least (digits_value 10 v) && nat_le (digits_value 10 v) o.greatest)) && list_all (fits (λ x. value_of x us)) os) (no_decimal v dash)
    go false t h ih = ap (λ b. fits (λ x. value_of x us) o && b) (ih h) ∙ and-false (fits (λ x. value_of x us) o)

-- ---- the literal reading comes to what the stricter one comes to

pub comes_to : {X : Type 0} (g : Grammar) (words : List Text) (f : List Use → Option X)
    → ((r : List Use) (u : Use) → Bad g u → find (λ v. bytes_eq v.name u.name) r ≡ Some u → f r ≡ None)
    → option_and_then f (option_and_then (collect []) (read g words g.places None)) ≡ option_and_then f (option_and_then (collect []) (strict g words g.places None))
comes_to g words f refuses = go (strict g words g.places None) (read g words g.places None) (agrees g words g.places None tt)
  where
    none : (us : List Use) (o : Option (List Use)) → collect [] us ≡ o → HasBad g us → option_and_then f o ≡ None
    none us None e h = refl
    none us (Some r) e h =
        let (u, b, found) = flat (bad_found g us [] r e h) in
        refuses r u b found
      where
        flat : (u : Use) × (Bad g u × (find (λ v. bytes_eq v.name u.name) r ≡ Some u)) → (u : Use) × Bad g u × (find (λ v. bytes_eq v.name u.name) r ≡ Some u)
        flat p = (p.0, p.1.0, p.1.1)

    go : (s r : Option (List Use)) → Agrees g s r → option_and_then f (option_and_then (collect []) r) ≡ option_and_then f (option_and_then (collect []) s)
    go s r (inl e) = ap (λ o. option_and_then f (option_and_then (collect []) o)) (sym e)
    go s None (inr h) = ap (λ o. option_and_then f (option_and_then (collect []) o)) (sym h.0)
    go s (Some us) (inr h) = none us (collect [] us) refl h.1 ∙ ap (λ o. option_and_then f (option_and_then (collect []) o)) (sym h.0)
