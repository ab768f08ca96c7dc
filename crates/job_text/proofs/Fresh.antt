-- A name that none of these columns is.
use Rattle.std.proofs.Common.{◌≡◌, ℕ, zero, suc, ◌+◌, ◌<◌, ◌≤◌, true, false, cond, List, [], ◌∷◌, ◌++◌, length, get_or, refl, sym, ap, subst, ◌∙◌, arith, add-one, inl, inr}
use Rattle.std.specs.Prelude.{◌==◌}
use Rattle.std.specs.Str.{bytes_eq}
use Rattle.std.proofs.lemmas.Bool.{cases_lt, cases_Bool, or_from, or_left, or_right, and_from, le-ltb, eqb-true, eqb-false, ne_eqb, true≢false}
use Rattle.std.proofs.lemmas.Slice.Eq.{bytes_eq-Decides}
use Rattle.std.specs.Prelude.{All}
use Rattle.std.specs.Str.{IsUtf8}
use Rattle.std.proofs.lemmas.List.Elements.{All-nil, All-cons}
use Rattle.std.proofs.lemmas.Str.{IsUtf8-from_ascii}
use Rattle.std.proofs.lemmas.Str.Ascii.{IsAscii-from_all}
use Rattle.std.specs.List.{list_all}
use Rattle.job_text.specs.Columns.{place_of, is_among, with_name, has_column}
use Rattle.job_text.specs.Scan.{is_plain, is_word_byte}

abbrev pub AreBelow : ℕ → List ℕ → Type 0
AreBelow n [] = Unit {0}
AreBelow n (c ∷ cs) = (c < n) × AreBelow n cs

pub AreBelow-push : (n : ℕ) (cs : List ℕ) (c : ℕ) → AreBelow n cs → c < n → AreBelow n (cs ++ c ∷ [])
AreBelow-push n [] c h lt = (lt, tt)
AreBelow-push n (d ∷ cs) c h lt = (h.0, AreBelow-push n cs c h.1 lt)

pub AreBelow-more : (m n : ℕ) (cs : List ℕ) → m ≤ n → AreBelow m cs → AreBelow n cs
AreBelow-more m n [] le h = tt
AreBelow-more m n (c ∷ cs) le h = (omega (arith, h.0), AreBelow-more m n cs le h.1)

pub length-with_name : (names : List (List ℕ)) (name : List ℕ) → length names ≤ length (with_name names name)
length-with_name [] name = omega arith
length-with_name (first ∷ names) name = elim (cases_Bool (bytes_eq first name)) [
  | inl e ↦ rw e (omega arith)
  | inr e ↦ rw e (omega (arith, length-with_name names name))
]

pub place_below : (names : List (List ℕ)) (name : List ℕ) → place_of names name < length (with_name names name)
place_below [] name = omega arith
place_below (first ∷ names) name = elim (cases_Bool (bytes_eq first name)) [
  | inl e ↦ rw e (omega arith)
  | inr e ↦ rw e (omega (arith, place_below names name))
]

-- what stands at a name's place is the name
pub name_at : (names : List (List ℕ)) (name : List ℕ) → place_of names name < length names → get_or names (place_of names name) [] ≡ name
name_at [] name lt = absurd (omega arith)
name_at (first ∷ names) name lt = elim (cases_Bool (bytes_eq first name)) [
  | inl e ↦ rw e ((bytes_eq-Decides first name).0 e)
  | inr e ↦
      let below = rw e at lt in
      rw (e, add-one) (name_at names name (omega arith))
]

-- ---- by the diagonal

other : ℕ → ℕ
other b = cond (b == 97) 98 97

other_is : (b : ℕ) → b ≡ other b → ⊥
unfolding other
other_is b e = elim (cases_Bool (b == 97)) [
  | inl t ↦ let a : b ≡ 97 = eqb-true b 97 t in let c : b ≡ 98 = e ∙ rw t refl in absurd (omega arith)
  | inr t ↦ let c : b ≡ 97 = e ∙ rw t refl in absurd (eqb-false b 97 t c)
]

other_ascii : (b : ℕ) → other b < 128
unfolding other
other_ascii b = elim (cases_Bool (b == 97)) [
  | inl t ↦ rw t (omega arith)
  | inr t ↦ rw t (omega arith)
]

diagonal : List (List ℕ) → ℕ → List ℕ → List ℕ
diagonal names i [] = []
diagonal names i (c ∷ cs) = other (get_or (get_or names c []) i 0) ∷ diagonal names (suc i) cs

diagonal_ascii : (names : List (List ℕ)) (i : ℕ) (cs : List ℕ) → All (λ b. b < 128) (diagonal names i cs)
unfolding diagonal
diagonal_ascii names i [] = All-nil (λ b. b < 128)
diagonal_ascii names i (c ∷ cs) = All-cons (λ b. b < 128) _ _ (other_ascii (get_or (get_or names c []) i 0)) (diagonal_ascii names (suc i) cs)

length-diagonal : (names : List (List ℕ)) (i : ℕ) (cs : List ℕ) → length (diagonal names i cs) ≡ length cs
unfolding diagonal
length-diagonal names i [] = refl
length-diagonal names i (c ∷ cs) = ap suc (length-diagonal names (suc i) cs)

none_is : (names : List (List ℕ)) (cs : List ℕ) (i p : ℕ) (name : List ℕ) → ((k : ℕ) → get_or name (i + k) 0 ≡ get_or (diagonal names i cs) k 0) → get_or names p [] ≡ name → has_column cs p ≡ false
unfolding diagonal
none_is names [] i p name at is = refl
none_is names (c ∷ cs) i p name at is =
    let here : get_or name i 0 ≡ other (get_or (get_or names c []) i 0) = subst (λ (j : ℕ). get_or name j 0 ≡ other (get_or (get_or names c []) i 0)) (omega arith) (at 0) in
    let differs : (c == p) ≡ false = ne_eqb c p (λ e. other_is (get_or name i 0) (here ∙ ap (λ (l : List ℕ). other (get_or l i 0)) (ap (λ (j : ℕ). get_or names j []) e ∙ is))) in
    or_from _ _ differs (none_is names cs (suc i) p name (λ k. subst (λ (j : ℕ). get_or name j 0 ≡ get_or (diagonal names (suc i) cs) k 0) (omega arith) (at (suc k))) is)

not_beyond : (cs : List ℕ) (n p : ℕ) → AreBelow n cs → n ≤ p → has_column cs p ≡ false
not_beyond [] n p h le = refl
not_beyond (c ∷ cs) n p h le = or_from _ _ (ne_eqb c p (λ e. absurd (omega (arith, h.0)))) (not_beyond cs n p h.1 le)

pub record IsFresh (names : List (List ℕ)) (cs : List ℕ) (name : List ℕ) : Type 0 where
  pub long : length name ≡ length cs
  pub new : has_column cs (place_of names name) ≡ false
  pub spelled : IsUtf8 name

pub fresh : (names : List (List ℕ)) (cs : List ℕ) → AreBelow (length names) cs → (name : List ℕ) × IsFresh names cs name
fresh names cs h =
    let name = diagonal names 0 cs in (
      name,
      record {
        long = length-diagonal names 0 cs;
        spelled = IsUtf8-from_ascii name (IsAscii-from_all name (diagonal_ascii names 0 cs));
        new = elim (cases_lt (place_of names name) (length names)) [
          | inl lt ↦ none_is names cs 0 (place_of names name) name (λ k. ap (λ (j : ℕ). get_or name j 0) (omega arith)) (name_at names name lt)
          | inr le ↦ not_beyond cs (length names) (place_of names name) h le
        ];
      },
    )

-- ---- a word that is no dataset's name

places : ℕ → ℕ → List ℕ
places i zero = []
places i (suc n) = i ∷ places (i + 1) n

length-places : (n i : ℕ) → length (places i n) ≡ n
unfolding places
length-places zero i = refl
length-places (suc n) i = ap suc (length-places n (i + 1))

has_places : (n i p : ℕ) → i ≤ p → p < i + n → has_column (places i n) p ≡ true
unfolding places
has_places zero i p le lt = absurd (omega arith)
has_places (suc n) i p le lt = elim (cases_Bool (i == p)) [
  | inl e ↦ or_left (i == p) (has_column (places (i + 1) n) p) e
  | inr e ↦ or_right (i == p) (has_column (places (i + 1) n) p) (has_places n (i + 1) p (omega (arith, le, eqb-false i p e)) (omega arith))
]

other_word : (b : ℕ) → is_word_byte (other b) ≡ true
unfolding other
other_word b = elim (cases_Bool (b == 97)) [
  | inl t ↦ rw t refl
  | inr t ↦ rw t refl
]

diagonal_word : (names : List (List ℕ)) (i : ℕ) (cs : List ℕ) → list_all is_word_byte (diagonal names i cs) ≡ true
unfolding diagonal
diagonal_word names i [] = refl
diagonal_word names i (c ∷ cs) = and_from _ _ (other_word (get_or (get_or names c []) i 0)) (diagonal_word names (suc i) cs)

-- no reserved word begins with `b`
free_word : (bytes : List ℕ) → list_all is_word_byte bytes ≡ true → is_plain (98 ∷ bytes) ≡ true
free_word bytes h = rw h refl

pub fresh_word : (names : List (List ℕ)) → (name : List ℕ) × (length name ≡ length names + 1) × (is_among names name ≡ false) × (is_plain name ≡ true)
fresh_word names =
    let cs = places 0 (length names) in
    let name : List ℕ = 98 ∷ diagonal names 1 cs in
    let behind : (k : ℕ) → get_or name (1 + k) 0 ≡ get_or (diagonal names 1 cs) k 0 = λ k. let e : suc k ≡ 1 + k = omega arith in subst (λ (j : ℕ). get_or name j 0 ≡ get_or (diagonal names 1 cs) k 0) e refl in (
      name,
      omega (arith, length-diagonal names 1 cs, length-places (length names) 0),
      le-ltb (place_of names name) (length names) (elim (cases_lt (place_of names name) (length names)) [
        | inl lt ↦ absurd (true≢false (sym (has_places (length names) 0 (place_of names name) (omega arith) (omega (arith, lt))) ∙ none_is names cs 1 (place_of names name) name behind (name_at names name lt)))
        | inr le ↦ le
      ]),
      free_word (diagonal names 1 cs) (diagonal_word names 1 cs),
    )
