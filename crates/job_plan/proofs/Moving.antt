-- Shapes whose columns are moved.
use Rattle.std.proofs.Common.{◌≡◌, ◌≢◌, ◌<◌, ◌∙◌, ℕ, List, [], ◌∷◌, Option, Some, None, length, map, get_or, refl, sym, ap, inl, inr, arith, subst}
use Rattle.std.specs.Prelude.{All, IfSome, is_some, option_map}
use Rattle.std.specs.List.{filter, flat_map}
use Rattle.std.specs.Option.{option_to_list}
use Rattle.std.proofs.lemmas.Bool.{cases_Bool}
use Rattle.std.proofs.lemmas.List.{get_or-map, length-map, map-append}
use Rattle.std.proofs.lemmas.List.Elements.{All-head, All-map, All-tail}
use Rattle.std.proofs.lemmas.Option.{same_Some}
use Rattle.std.proofs.lemmas.Simd.{map-map}
use Rattle.aggregate.specs.declared.kind.Kind.TheVariants as kinds
use Rattle.aggregate.specs.declared.agg_list.Agg.{Agg}
use Rattle.job_text.specs.Jobs.{IsColumns, IsDistinct, IsAggregate, IsShape, IsShortList}
use Rattle.job_text.specs.declared.job.KeyItem.{KeyItem}
use Rattle.job_text.specs.declared.job.Part.{Part}
use Rattle.job_text.specs.declared.job.Shape.{Shape}
use Rattle.job_text.specs.declared.job.Shape.TheVariants.{Group, Order}
use Rattle.job_plan.specs.Columns.{ordered_in, told_in}
use Rattle.job_plan.specs.Entries.{kind_of}
use Rattle.job_plan.specs.Moved.{moved, moved_item, moved_part}

pub map_same : {X Y : Type 0} (f g : X → Y) (xs : List X) → All (λ x. f x ≡ g x) xs → map f xs ≡ map g xs
map_same f g [] h = refl
map_same f g (x ∷ xs) h = rw (All-head (λ y. f y ≡ g y) x xs h, map_same f g xs (All-tail (λ y. f y ≡ g y) x xs h)) refl

-- ---- moves that agree

module _ (f g : ℕ → ℕ) (n : ℕ) (agree : (c : ℕ) → c < n → f c ≡ g c) where
  option-same : (o : Option ℕ) → IfSome o (λ c. c < n) → option_map f o ≡ option_map g o
  option-same None h = refl
  option-same (Some c) h = ap Some (agree c h)

  columns-same : (cs : List ℕ) → All (λ c. c < n) cs → map f cs ≡ map g cs
  columns-same cs h = map_same f g cs (λ i d lt. agree (get_or cs i d) (h i d lt))

  part-same : (p : Part) → IsAggregate n p → moved_part f p ≡ moved_part g p
  part-same p h = ap (λ (o : Option ℕ). record p { column = o }) (option-same p.column h.named)

  item-same : (k : KeyItem) → k.column < n → moved_item f k ≡ moved_item g k
  item-same k h = ap (λ (c : ℕ). record k { column = c }) (agree k.column h)

  items-same : (ks : List KeyItem) → All (λ c. c < n) (map (λ (k : KeyItem). k.column) ks) → map (moved_item f) ks ≡ map (moved_item g) ks
  items-same ks h = map_same (moved_item f) (moved_item g) ks
      (λ i d lt. item-same (get_or ks i d) (let inside : i < length (map (λ (k : KeyItem). k.column) ks) = omega (arith, length-map ks (λ (k : KeyItem). k.column)) in
      omega (arith, h i 0 inside, get_or-map (λ (k : KeyItem). k.column) ks i d 0 lt)))

  pub moved-same : (s : Shape) → IsShape n s → moved f s ≡ moved g s
  moved-same (Group cs ps) h =
      rw (columns-same cs h.0.named, map_same (moved_part f) (moved_part g) ps (λ i d lt. part-same (get_or ps i d) (h.2 i d lt))) refl
  moved-same (Order ks cs) h = rw (items-same ks h.0.named, columns-same cs h.1.named) refl

-- ---- moves that keep columns apart

module _ (g : ℕ → ℕ) (n m : ℕ) (inside : (c : ℕ) → c < n → g c < m) (apart : (a b : ℕ) → a < n → b < n → a ≢ b → g a ≢ g b) where
  short-moved : {X Y : Type 0} (f : X → Y) (xs : List X) → IsShortList xs → IsShortList (map f xs)
  short-moved f xs h =
      let some = h.some in let few = h.few in
      record { some = omega (arith, length-map xs f); few = omega (arith, length-map xs f) }

  columns-moved : (cs : List ℕ) → IsColumns n cs → IsColumns m (map g cs)
  columns-moved cs h = record {
    short = short-moved g cs h.short;
    named = All-map (λ c. c < m) g cs (λ i d lt. inside (get_or cs i d) (h.named i d lt));
    distinct = λ i j d lt within. (
        let long : length (map g cs) ≡ length cs = length-map cs g in
        let later : j < length cs = omega arith in
        let earlier : i < length cs = omega arith in
        λ e. apart (get_or cs i 0) (get_or cs j 0) (h.named i 0 earlier) (h.named j 0 later) (h.distinct i j 0 lt later)
        (sym (get_or-map g cs i 0 d earlier) ∙ e ∙ get_or-map g cs j 0 d later));
  }

  some-moved : (o : Option ℕ) → is_some (option_map g o) ≡ is_some o
  some-moved None = refl
  some-moved (Some c) = refl

  option-moved : (o : Option ℕ) → IfSome o (λ c. c < n) → IfSome (option_map g o) (λ c. c < m)
  option-moved None h = tt
  option-moved (Some c) h = inside c h

  part-moved : (p : Part) → IsAggregate n p → IsAggregate m (moved_part g p)
  part-moved p h = record { column = some-moved p.column ∙ h.column; named = option-moved p.column h.named }

  columns-apart : (x y : Option ℕ) → IfSome x (λ c. c < n) → IfSome y (λ c. c < n) → x ≢ y → option_map g x ≢ option_map g y
  columns-apart None None hx hy differ e = differ refl
  columns-apart None (Some d) hx hy differ e = absurd (cc e)
  columns-apart (Some c) None hx hy differ e = absurd (cc e)
  columns-apart (Some c) (Some d) hx hy differ e = apart c d hx hy (λ same. differ (ap Some same)) (same_Some (g c) (g d) e)

  part-apart : (p q : Part) → IsAggregate n p → IsAggregate n q → p ≢ q → moved_part g p ≢ moved_part g q
  part-apart p q hp hq differ e =
      columns-apart p.column q.column hp.named hq.named
      (λ same. differ (ap (λ (a : Agg). record p { agg = a }) (ap (λ (part : Part). part.agg) e) ∙ ap (λ (o : Option ℕ). record q { column = o }) same))
      (ap (λ (part : Part). part.column) e)

  parts-apart : (ps : List Part) → All (IsAggregate n) ps → IsDistinct ps → IsDistinct (map (moved_part g) ps)
  parts-apart ps parts distinct = λ i j d lt within. (
      let long : length (map (moved_part g) ps) ≡ length ps = length-map ps (moved_part g) in
      let later : j < length ps = omega arith in
      let earlier : i < length ps = omega arith in
      λ e. part-apart (get_or ps i d) (get_or ps j d) (parts i d earlier) (parts j d later) (distinct i j d lt later)
      (sym (get_or-map (moved_part g) ps i d d earlier) ∙ e ∙ get_or-map (moved_part g) ps j d d later))

  pub shape-moved : (s : Shape) → IsShape n s → IsShape m (moved g s)
  shape-moved (Group cs ps) h = (
    columns-moved cs h.0,
    short-moved (moved_part g) ps h.1,
    All-map (IsAggregate m) (moved_part g) ps (λ i d lt. part-moved (get_or ps i d) (h.2 i d lt)),
    parts-apart ps h.2 h.3,
  )
  shape-moved (Order ks cs) h =
      let same : map g (map (λ (k : KeyItem). k.column) ks) ≡ map (λ (k : KeyItem). k.column) (map (moved_item g) ks) =
      map-map g (λ (k : KeyItem). k.column) ks ∙ sym (map-map (λ (k : KeyItem). k.column) (moved_item g) ks) in
      (subst (λ (list : List ℕ). IsColumns m list) same (columns-moved (map (λ (k : KeyItem). k.column) ks) h.0), columns-moved cs h.1)

-- ---- what stays

pub kind-moved : (g : ℕ → ℕ) (s : Shape) → kind_of (moved g s) ≡ kind_of s
kind-moved g (Group cs ps) = ap kinds.Group (map-map (λ (p : Part). p.agg) (moved_part g) ps)
kind-moved g (Order ks cs) = refl

list-moved : (g : ℕ → ℕ) (o : Option ℕ) → option_to_list (option_map g o) ≡ map g (option_to_list o)
list-moved g None = refl
list-moved g (Some c) = refl

parts-numbers : (g : ℕ → ℕ) (ps : List Part) → flat_map (λ (p : Part). option_to_list p.column) (map (moved_part g) ps) ≡ map g (flat_map (λ (p : Part). option_to_list p.column) ps)
parts-numbers g [] = refl
parts-numbers g (p ∷ ps) =
    rw (list-moved g p.column, parts-numbers g ps) (sym (map-append g (option_to_list p.column) (flat_map (λ (q : Part). option_to_list q.column) ps)))

keys-numbers : (g : ℕ → ℕ) (ks : List KeyItem) → map (λ (k : KeyItem). k.column) (filter (λ (k : KeyItem). k.number) (map (moved_item g) ks)) ≡ map g (map (λ (k : KeyItem). k.column) (filter (λ (k : KeyItem). k.number) ks))
keys-numbers g [] = refl
keys-numbers g (k ∷ ks) = elim (cases_Bool k.number) [
  | inl here ↦ rw here (ap (λ (list : List ℕ). g k.column ∷ list) (keys-numbers g ks))
  | inr past ↦ rw past (keys-numbers g ks)
]

pub told-moved : (g : ℕ → ℕ) (s : Shape) → told_in (moved g s) ≡ map g (told_in s)
told-moved g (Group cs ps) = parts-numbers g ps
told-moved g (Order ks cs) = refl

pub ordered-moved : (g : ℕ → ℕ) (s : Shape) → ordered_in (moved g s) ≡ map g (ordered_in s)
ordered-moved g (Group cs ps) = refl
ordered-moved g (Order ks cs) = keys-numbers g ks
