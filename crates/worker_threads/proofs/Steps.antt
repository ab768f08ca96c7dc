-- What holds of each place of two lists, from the first place and the others.
use Rattle.std.specs.Prelude.{◌≡◌, ℕ, zero, suc, ◌+◌, ◌≤◌, ◌<◌, List, ◌∷◌, length, slice_get, slice_index_or}
use Rattle.std.proofs.Common.{refl, ap, sym, subst, ◌∙◌, ◌++◌, [], take, drop, arith}
use Rattle.std.proofs.Math.Seq.{drop-length, take-length}
use Rattle.std.proofs.lemmas.List.{append-nil}
use Rattle.worker_threads.specs.Places.{AtEachPlace, AtPlace}

pub same_rest : {W P : Type 0} (w : W) (ws all_w : List W) (p : P) (ps all_p : List P) → all_w ≡ w ∷ ws → all_p ≡ p ∷ ps
    → length all_p ≡ length all_w → length ps ≡ length ws
same_rest w ws all_w p ps all_p is_w is_p same = omega (arith, ap length is_w, ap length is_p, same)

pub few_rest : {W P : Type 0} (w : W) (ws all_w : List W) (p : P) (ps all_p : List P) → all_w ≡ w ∷ ws → all_p ≡ p ∷ ps
    → length all_w ≤ length all_p → length ws ≤ length ps
few_rest w ws all_w p ps all_p is_w is_p few = omega (arith, ap length is_w, ap length is_p, few)

-- a fact of each place of two lists holds of the first
pub first_of_both : {W P : Type 0} (Q : ℕ → W → P → Type 0) (base : ℕ) (w : W) (ws all_w : List W) (p : P) (ps all_p : List P)
    → all_w ≡ w ∷ ws → all_p ≡ p ∷ ps
    → ((k : ℕ) (d : W) (e : P) → k < length all_w → Q (base + k) (slice_index_or all_w k d) (slice_index_or all_p k e)) → Q base w p
first_of_both Q base w ws all_w p ps all_p is_w is_p all =
    let at : Q (base + 0) (slice_index_or all_w 0 w) (slice_index_or all_p 0 p) = all 0 w p (omega (arith, ap length is_w)) in
    let place : base + 0 ≡ base = omega arith in
    subst (λ k. Q k w p) place (subst (λ x. Q (base + 0) w (slice_index_or x 0 p)) is_p (subst (λ x. Q (base + 0) (slice_index_or x 0 w) (slice_index_or all_p 0 p)) is_w at))

-- and of each of the others
pub rest_of_both : {W P : Type 0} (Q : ℕ → W → P → Type 0) (base : ℕ) (w : W) (ws all_w : List W) (p : P) (ps all_p : List P)
    → all_w ≡ w ∷ ws → all_p ≡ p ∷ ps
    → ((k : ℕ) (d : W) (e : P) → k < length all_w → Q (base + k) (slice_index_or all_w k d) (slice_index_or all_p k e))
    → (k : ℕ) (d : W) (e : P) → k < length ws → Q (base + 1 + k) (slice_index_or ws k d) (slice_index_or ps k e)
rest_of_both Q base w ws all_w p ps all_p is_w is_p all k d e within =
    let at : Q (base + suc k) (slice_index_or all_w (suc k) d) (slice_index_or all_p (suc k) e) = all (suc k) d e (omega (arith, within, ap length is_w)) in
    let place : base + suc k ≡ base + 1 + k = omega arith in
    subst (λ j. Q j (slice_index_or ws k d) (slice_index_or ps k e)) place
    (subst (λ x. Q (base + suc k) (slice_index_or ws k d) (slice_index_or x (suc k) e)) is_p
    (subst (λ x. Q (base + suc k) (slice_index_or x (suc k) d) (slice_index_or all_p (suc k) e)) is_w at))

-- where there is no worker, nothing was done
pub no_place : {W P A : Type 0} (R : ℕ → W → W → P → P → A → Type 0) (base : ℕ) (ws : List W) (ps : List P) (answers : List A)
    → ws ≡ [] → length answers ≡ length ws → AtEachPlace R base ws ws ps ps answers
no_place R base ws ps answers none same = record {
  same_workers = refl;
  same_posts = refl;
  all_answered = same;
  others = λ place behind. refl;
  each = λ k within. absurd (omega (arith, within, ap length none));
}

each_of : {W P A : Type 0} (R : ℕ → W → W → P → P → A → Type 0) (base : ℕ) (w w' : W) (ws ws' : List W) (p p' : P) (ps ps' : List P) (a : A)
    (answers : List A) → R base w w' p p' a → AtEachPlace R (base + 1) ws ws' ps ps' answers
    → (k : ℕ) → k < length (w ∷ ws)
    → AtPlace R (base + k) (slice_get (w ∷ ws) k) (slice_get (w' ∷ ws') k) (slice_get (p ∷ ps) k) (slice_get (p' ∷ ps') k) (slice_get (a ∷ answers) k)
each_of R base w w' ws ws' p p' ps ps' a answers did rest zero within =
    let place : base ≡ base + 0 = omega arith in
    record {
      one = w;
      one_is = refl;
      one_after = w';
      one_left = refl;
      other = p;
      other_is = refl;
      other_after = p';
      other_left = refl;
      told = a;
      told_is = refl;
      did = subst (λ k. R k w w' p p' a) place did;
    }
each_of R base w w' ws ws' p p' ps ps' a answers did rest (suc k) within =
    let place : base + 1 + k ≡ base + suc k = omega arith in
    subst (λ j. AtPlace R j (slice_get ws k) (slice_get ws' k) (slice_get ps k) (slice_get ps' k) (slice_get answers k)) place (rest.each k (omega (arith, within)))

others_of : {W P A : Type 0} (R : ℕ → W → W → P → P → A → Type 0) (base : ℕ) (w : W) (ws ws' : List W) (p p' : P) (ps ps' : List P) (answers : List A)
    → AtEachPlace R base ws ws' ps ps' answers → (place : ℕ) → length (w ∷ ws) ≤ place → slice_get (p' ∷ ps') place ≡ slice_get (p ∷ ps) place
others_of R base w ws ws' p p' ps ps' answers rest zero behind = absurd (omega (arith, behind))
others_of R base w ws ws' p p' ps ps' answers rest (suc place) behind = rest.others place (omega (arith, behind))

pub all_places : {W P A : Type 0} (R : ℕ → W → W → P → P → A → Type 0) (base : ℕ) (w w' : W) (ws ws' all_w : List W)
    (p p' : P) (ps ps' all_p : List P)
    (a : A) (answers : List A) → all_w ≡ w ∷ ws → all_p ≡ p ∷ ps
    → R base w w' p p' a → AtEachPlace R (base + 1) ws ws' ps ps' answers → AtEachPlace R base all_w (w' ∷ ws') all_p (p' ∷ ps') (a ∷ answers)
all_places R base w w' ws ws' all_w p p' ps ps' all_p a answers is_w is_p did rest =
    rw (is_w, is_p) (record {
      same_workers = ap suc rest.same_workers;
      same_posts = ap suc rest.same_posts;
      all_answered = ap suc rest.all_answered;
      others = others_of R (base + 1) w ws ws' p p' ps ps' answers rest;
      each = each_of R base w w' ws ws' p p' ps ps' a answers did rest;
    })

-- where one relation gives another, it does so at each place
pub places_by : {W P A : Type 0} (R S : ℕ → W → W → P → P → A → Type 0) (base : ℕ) (ws ws' : List W) (ps ps' : List P) (answers : List A)
    → ((k : ℕ) (w w' : W) (p p' : P) (a : A) → R k w w' p p' a → S k w w' p p' a)
    → AtEachPlace R base ws ws' ps ps' answers → AtEachPlace S base ws ws' ps ps' answers
places_by R S base ws ws' ps ps' answers gives all = record {
  same_workers = all.same_workers;
  same_posts = all.same_posts;
  all_answered = all.all_answered;
  others = all.others;
  each = λ k within. let at = all.each k within in record {
    one = at.one;
    one_is = at.one_is;
    one_after = at.one_after;
    one_left = at.one_left;
    other = at.other;
    other_is = at.other_is;
    other_after = at.other_after;
    other_left = at.other_left;
    told = at.told;
    told_is = at.told_is;
    did = gives _ _ _ _ _ _ at.did;
  };
}

-- a list whose slice was written holds what was left there
pub left_in_list : {X : Type 0} (n : ℕ) (xs ys : List X) → length ys ≡ length xs → n ≡ length xs → take n (ys ++ drop (length ys) xs) ≡ ys
left_in_list n xs ys same is =
    let none : drop (length ys) xs ≡ [] = rw same (drop-length xs) in
    let whole : n ≡ length ys = is ∙ sym same in
    rw (none, append-nil ys, whole) (take-length ys)

-- the same of the lists whose slices were lent
pub places_in_lists : {W P A : Type 0} (S : ℕ → W → W → P → P → A → Type 0) (base n m o : ℕ) (ws all_w ws' : List W) (ps all_p ps' : List P)
    (before answers : List A) → ws ≡ all_w → ps ≡ all_p → n ≡ length all_w → m ≡ length all_p → o ≡ length before
    → length before ≡ length all_w
    → AtEachPlace S base ws ws' ps ps' answers
    → AtEachPlace S base all_w (take n (ws' ++ drop (length ws') all_w)) all_p (take m (ps' ++ drop (length ps') all_p))
    (take o (answers ++ drop (length answers) before))
places_in_lists S base n m o ws all_w ws' ps all_p ps' before answers is_w is_p len_w len_p len_a same all =
    let one = left_in_list n all_w ws' (all.same_workers ∙ ap length is_w) len_w in
    let other = left_in_list m all_p ps' (all.same_posts ∙ ap length is_p) len_p in
    let told = left_in_list o before answers (all.all_answered ∙ (ap length is_w ∙ sym same)) len_a in
    rw (one, other, told) (subst (λ l. AtEachPlace S base l ws' all_p ps' answers) is_w
    (subst (λ l. AtEachPlace S base ws ws' l ps' answers) is_p all))
