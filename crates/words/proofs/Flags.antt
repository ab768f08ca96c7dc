-- A flag that words give has the value `true`, in any grammar that has flags.
use Rattle.std.proofs.Common.{◌≡◌, ◌∙◌, ◌&&◌, ◌||◌, Bool, cond, codes, true, false, not, refl, sym, ap, List, [], ◌∷◌, Option, Some, None, is_some, true≢false}
use Rattle.std.specs.List.{find, list_all}
use Rattle.std.specs.Option.{option_map_or}
use Rattle.std.specs.Str.{bytes_eq}
use Rattle.clap.proofs.WalkLemmas.{both}
use Rattle.words.specs.Reading.{Grammar, Kind, Text, Use, Word, valued, bare, unknown, dashes, named, refused, plain, word_kind_in, named_use, read_places, read_word, use_of, with_place, with_use, word_of}
use Rattle.words.proofs.Strict.{strict, strict_value}

abbrev pub is_bare : Kind → Bool
is_bare bare = true
is_bare _ = false

module _ (g : Grammar) where
  abbrev pub is_set : Use → Bool
  is_set u = not (is_bare (word_kind_in g u.name)) || bytes_eq u.value (codes "true")

  abbrev pub AllSet : Option (List Use) → Type 0
  AllSet r = option_map_or (list_all is_set) r true ≡ true

  set_use : (u : Use) (r : Option (List Use)) → is_set u ≡ true → AllSet r → AllSet (with_use u r)
  set_use u None s h = refl
  set_use u (Some us) s h = ap (λ b. b && list_all is_set us) s ∙ h

  abbrev pub NamesNoFlag : List Text → Type 0
  NamesNoFlag [] = Unit {0}
  NamesNoFlag (p ∷ ps) = (is_bare (word_kind_in g p) ≡ false) × NamesNoFlag ps

  no_flag : (n v : Text) → is_bare (word_kind_in g n) ≡ false → is_set (use_of n v) ≡ true
  no_flag n v e = ap (λ b. not b || bytes_eq v (codes "true")) e

  abbrev WaitsNoFlag : Option Text → Type 0
  WaitsNoFlag None = Unit {0}
  WaitsNoFlag (Some n) = is_bare (word_kind_in g n) ≡ false

  flag_set : (n : Text) → word_kind_in g n ≡ bare → is_set (use_of n (codes "true")) ≡ true
  flag_set n e = ap (λ k. not (is_bare k) || true) e

  value_set : (n x : Text) (k : Word) (r : Option (List Use)) → is_bare (word_kind_in g n) ≡ false → AllSet r → AllSet (strict_value n k x r)
  value_set n x plain r e h = set_use (use_of n x) r (no_flag n x e) h
  value_set n x dashes r e h = refl
  value_set n x (named m v) r e h = refl
  value_set n x refused r e h = refl

  behind_set : (words places : List Text) → NamesNoFlag places → AllSet (read_places words places)
  behind_set [] places e = refl
  behind_set (x ∷ rest) [] e = refl
  behind_set (x ∷ rest) (p ∷ ps) e = set_use (use_of p x) (read_places rest ps) (no_flag p x e.0) (behind_set rest ps e.1)

  named_set : (k : Kind) (n : Text) (v : Option Text) → word_kind_in g n ≡ k → (r : Option Text → Option (List Use)) → ((w : Option Text) → WaitsNoFlag w → AllSet (r w)) → AllSet (named_use k n v r)
  named_set valued n (Some v) is r a = set_use (use_of n v) (r None) (no_flag n v (ap is_bare is)) (a None tt)
  named_set valued n None is r a = a (Some n) (ap is_bare is)
  named_set bare n (Some v) is r a = refl
  named_set bare n None is r a = set_use (use_of n (codes "true")) (r None) (flag_set n is) (a None tt)
  named_set unknown n v is r a = refl

  place_set : (places : List Text) (x : Text) (r : List Text → Option (List Use)) → NamesNoFlag places → ((ps : List Text) → NamesNoFlag ps → AllSet (r ps)) → AllSet (with_place places x r)
  place_set [] x r e a = refl
  place_set (p ∷ ps) x r e a = set_use (use_of p x) (r ps) (no_flag p x e.0) (a ps e.1)

  word_set : (k : Word) (x : Text) (places : List Text) (behind : Option (List Use)) (r : List Text → Option Text → Option (List Use)) → NamesNoFlag places → AllSet behind
      → ((ps : List Text) (w : Option Text) → NamesNoFlag ps → WaitsNoFlag w → AllSet (r ps w)) → AllSet (read_word g k x places behind r)
  word_set dashes x places behind r e h a = h
  word_set (named n v) x places behind r e h a = named_set (word_kind_in g n) n v refl (r places) (λ w k. a places w e k)
  word_set refused x places behind r e h a = refl
  word_set plain x places behind r e h a = place_set places x (λ ps. r ps None) e (λ ps k. a ps None k tt)

  pub all_set : (words places : List Text) (w : Option Text) → NamesNoFlag places → WaitsNoFlag w → AllSet (strict g words places w)
  unfolding strict
  all_set [] places None e h = refl
  all_set [] places (Some n) e h = refl
  all_set (x ∷ rest) places None e h =
      word_set (word_of x) x places (read_places rest places) (strict g rest) e (behind_set rest places e) (λ ps w k l. all_set rest ps w k l)
  all_set (x ∷ rest) places (Some n) e h = value_set n x (word_of x) (strict g rest places None) h (all_set rest places None e tt)

  pub found_set : (us : List Use) (n : Text) (u : Use) → list_all is_set us ≡ true → find (λ v. bytes_eq v.name n) us ≡ Some u → is_set u ≡ true
  found_set [] n u h e = absurd (true≢false (sym (ap is_some e)))
  found_set (x ∷ us) n u h e =
      let parts = both _ _ h in
      go (bytes_eq x.name n) e parts.0 (λ t. found_set us n u parts.1 t)
    where
      go : (b : Bool) → cond b (Some x) (find (λ v. bytes_eq v.name n) us) ≡ Some u → is_set x ≡ true → (find (λ v. bytes_eq v.name n) us ≡ Some u → is_set u ≡ true) → is_set u ≡ true
      go true t s ih = ap (λ o. option_map_or is_set o true) (sym t) ∙ s
      go false t s ih = ih t
