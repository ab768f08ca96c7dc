-- The tables after an event.
use Rattle.std.proofs.Common.{◌≡◌, ◌≢◌, ℕ, ◌+◌, ◌<◌, Bool, true, false, not, cond, ◌&&◌, ◌||◌, ◌⊎◌, List, [], ◌∷◌, length, get_or, Option, Some, None, refl, sym, ap, subst, ◌∙◌, inl, inr, arith}
use Rattle.std.specs.Prelude.{nat_eq, nat_lt, is_some, slice_get, slice_set, count_by}
use Rattle.std.specs.List.{list_any}
use Rattle.std.specs.Option.{option_map}
use Rattle.std.specs.Cmp.{nat_eq_equiv}
use Rattle.std.specs.HashSet as bag
use Rattle.std.specs.HashSet.{HashSet}
use Rattle.std.proofs.lemmas.Bool.{cases_Bool, cases_eq, eq-eqb, ne_eqb, ltb-true, ltb-false, lt-ltb, le-ltb}
use Rattle.std.proofs.lemmas.Grind.{common_steps}
use Rattle.std.proofs.lemmas.List.Sums.{sum_by-cons, sum_by-set}
use Rattle.std.proofs.lemmas.Option.{gets, slice_get_within, get_or_from_slice_get}
use Rattle.pool_ledger.specs.declared.entry.Entry.{Entry}
use Rattle.pool_ledger.specs.declared.entry.Event.{Event}
use Rattle.pool_ledger.specs.declared.entry.Event.TheVariants.{Evict, Pin, Unpin}
use Rattle.pool_ledger.specs.declared.entry.Fate.{Fate}
use Rattle.pool_ledger.specs.declared.entry.Fate.TheVariants.{Disk}
use Rattle.pool_ledger.specs.Sizes.{Sizes}
use Rattle.pool_ledger.specs.History.{History, total}
use Rattle.pool_ledger.specs.Blocks.{Name, is_pinned, leaves_copy, pin_after, pin_of, unpin_of, worker_pin}
use Rattle.pool_ledger.specs.Legal.{MayCome, MayFollow}
use Rattle.pool_laws.specs.Growing.{entry_by}
use Rattle.journal_audit.specs.Rules.{is_name}
use Rattle.journal_replay.specs.declared.block_name.BlockName.{BlockName}
use Rattle.journal_replay.specs.Tables.{as_pin, has_copy, is_pin, named, pins_after, same_name, TellsCopies, TellsPins}

-- Copies

one_more : (t was : Bool) (n : ℕ) → was ≡ not (nat_eq n 0) → cond t true was ≡ not (nat_eq (n + cond t 1 0) 0)
one_more true was n same = sym (ap not (ne_eqb (n + 1) 0 (λ e. omega (arith, e))))
one_more false was n same = let zero_more : n ≡ n + 0 = omega arith in same ∙ ap (λ m. not (nat_eq m 0)) zero_more

pub copy_noted : {S : Type 0} (old new : HashSet BlockName S) (event : Event) (d p size : ℕ) (fate : Fate) → event ≡ Evict d p size fate → fate ≡ Disk
    → bag.Updates same_name old new (named d p) true → (h : History) (worker : ℕ) → TellsCopies old h → TellsCopies new (entry_by worker event ∷ h)
copy_noted old new event d p size fate is disk updates h worker tells d' p' =
    let same : event ≡ Evict d p size Disk = is ∙ ap (Evict d p size) disk in
    rw same (updates.0 (named d' p') ∙ one_more (same_name (named d p) (named d' p')) (has_copy old d' p') (total (leaves_copy d' p') h) (tells d' p'))

-- Pins

pub same_some : (o : Option Name) → is_some (option_map as_pin o) ≡ is_some o
same_some None = refl
same_some (Some name) = refl

pub same_pin : (o : Option Name) (d p : ℕ) → is_pin d p (option_map as_pin o) ≡ is_name o d p
same_pin None d p = refl
same_pin (Some name) d p = refl

any_counted : (q : Option BlockName → Bool) (pins : List (Option BlockName)) → list_any q pins ≡ nat_lt 0 (count_by q pins)
any_counted q [] = refl
any_counted q (x ∷ xs) = by (q x) refl (any_counted q xs)
  where
    by : (t : Bool) → q x ≡ t → list_any q xs ≡ nat_lt 0 (count_by q xs) → (t || list_any q xs) ≡ nat_lt 0 (count_by q (x ∷ xs))
    by true is more = sym (lt-ltb 0 (count_by q (x ∷ xs)) (omega (arith, sum_by-cons (λ y. cond {A = ℕ} (q y) 1 0) x xs, ap (λ t. cond {A = ℕ} t 1 0) is)))
    by false is more =
        let same : count_by q xs ≡ count_by q (x ∷ xs) = omega (arith, sum_by-cons (λ y. cond {A = ℕ} (q y) 1 0) x xs, ap (λ t. cond {A = ℕ} t 1 0) is) in
        more ∙ ap (nat_lt 0) same

same_lt : (n u p : ℕ) → n + u ≡ p → nat_lt 0 n ≡ nat_lt u p
same_lt n u p sum = by (cases_Bool (nat_lt 0 n))
  where
    by : (nat_lt 0 n ≡ true) ⊎ (nat_lt 0 n ≡ false) → nat_lt 0 n ≡ nat_lt u p
    by (inl some) = some ∙ sym (lt-ltb u p (omega (arith, ltb-true 0 n some)))
    by (inr none) = none ∙ sym (le-ltb u p (omega (arith, ltb-false 0 n none)))

-- a block is pinned where a worker has its pin
pub pinned_is : (pins : List (Option BlockName)) (h : History) → TellsPins pins h → (d p : ℕ) → list_any (is_pin d p) pins ≡ is_pinned h d p
pinned_is pins h tells d p =
    any_counted (is_pin d p) pins ∙ same_lt (count_by (is_pin d p) pins) (total (unpin_of d p) h) (total (pin_of d p) h) (tells.counted d p)

slice_get-set_same : (xs : List (Option BlockName)) (i : ℕ) (x : Option BlockName) → i < length xs → slice_get (slice_set xs i x) i ≡ Some x
slice_get-set_same xs i x below = grind (arith, common_steps, gets)

slice_get-set_other : (xs : List (Option BlockName)) (i j : ℕ) (x : Option BlockName) → j ≢ i → slice_get (slice_set xs i x) j ≡ slice_get xs j
slice_get-set_other xs i j x other = grind (arith, common_steps, gets)

own_pin : (h : History) (w : ℕ) (e : Event) → worker_pin (entry_by w e ∷ h) w ≡ pin_after e (worker_pin h w)
own_pin h w e = rw (eq-eqb w w refl) refl

other_pin : (h : History) (w : ℕ) (e : Event) (v : ℕ) → v ≢ w → worker_pin (entry_by w e ∷ h) v ≡ worker_pin h v
other_pin h w e v other = rw (ne_eqb w v (λ same. other (sym same))) refl

-- one worker's pin is another one
pins_set : (pins : List (Option BlockName)) (h : History) (w : ℕ) (e : Event) (was new : Option Name) → w < 16 → TellsPins pins h → worker_pin h w ≡ was → pin_after e was ≡ new
    → ((d p : ℕ) → cond {A = ℕ} (is_name new d p) 1 0 + unpin_of d p e ≡ cond {A = ℕ} (is_name was d p) 1 0 + pin_of d p e)
    → TellsPins (slice_set pins w (option_map as_pin new)) (entry_by w e ∷ h)
pins_set pins h w e was new known tells had gets_new counts =
    let there : slice_get pins w ≡ Some (option_map as_pin was) = tells.own w known ∙ ap (λ (o : Option Name). Some (option_map as_pin o)) had in
    let within : w < length pins = slice_get_within pins w (option_map as_pin was) there in
    record {
      own = λ v below. elim (cases_eq v w) [
        | inl same ↦
            subst (λ (u : ℕ). slice_get (slice_set pins w (option_map as_pin new)) u ≡ Some (option_map as_pin (worker_pin (entry_by w e ∷ h) u))) (sym same)
            (slice_get-set_same pins w (option_map as_pin new) within ∙ ap (λ (o : Option Name). Some (option_map as_pin o)) (sym (own_pin h w e ∙ ap (pin_after e) had ∙ gets_new)))
        | inr other ↦
            slice_get-set_other pins w v (option_map as_pin new) other ∙ tells.own v below ∙ ap (λ (o : Option Name). Some (option_map as_pin o)) (sym (other_pin h w e v other))
      ];
      counted = λ d p.
          let set = sum_by-set (λ (o : Option BlockName). cond {A = ℕ} (is_pin d p o) 1 0) pins w (option_map as_pin new) None within in
          let old : get_or pins w None ≡ option_map as_pin was = get_or_from_slice_get pins w (option_map as_pin was) None there in
          let old_is : cond {A = ℕ} (is_pin d p (get_or pins w None)) 1 0 ≡ cond {A = ℕ} (is_name was d p) 1 0 =
          ap (λ (o : Option BlockName). cond {A = ℕ} (is_pin d p o) 1 0) old ∙ ap (λ t. cond {A = ℕ} t 1 0) (same_pin was d p) in
          let new_is : cond {A = ℕ} (is_pin d p (option_map as_pin new)) 1 0 ≡ cond {A = ℕ} (is_name new d p) 1 0 = ap (λ t. cond {A = ℕ} t 1 0) (same_pin new d p) in
          omega (arith, set, old_is, new_is, tells.counted d p, counts d p);
    }

same_either : (t : Bool) (o : Option Name) → cond t o o ≡ o
same_either true o = refl
same_either false o = refl

-- no pin is another one
pins_stay : (pins : List (Option BlockName)) (h : History) (w : ℕ) (e : Event) → TellsPins pins h → ((o : Option Name) → pin_after e o ≡ o)
    → ((d p : ℕ) → pin_of d p e ≡ 0) → ((d p : ℕ) → unpin_of d p e ≡ 0) → TellsPins pins (entry_by w e ∷ h)
pins_stay pins h w e tells stays pins_none unpins_none = record {
  own = λ v below. tells.own v below ∙ ap (λ (o : Option Name). Some (option_map as_pin o)) (sym (ap (λ (o : Option Name). cond (nat_eq w v) o (worker_pin h v)) (stays (worker_pin h v)) ∙ same_either (nat_eq w v) (worker_pin h v)));
  counted = λ d p. omega (arith, tells.counted d p, pins_none d p, unpins_none d p);
}

pub turned : (a b c d : ℕ) → (nat_eq a c && nat_eq b d) ≡ (nat_eq c a && nat_eq d b)
turned a b c d = ap (λ t. t && nat_eq b d) (nat_eq_equiv.symm a c) ∙ ap (λ t. nat_eq c a && t) (nat_eq_equiv.symm b d)

noted_at : (s : Sizes) (pins : List (Option BlockName)) (h : History) (w : ℕ) (e : Event) → w < 16 → MayCome s h w e → TellsPins pins h → TellsPins (pins_after w e pins) (entry_by w e ∷ h)
noted_at s pins h w (Pin d p false) known may tells =
    pins_set pins h w (Pin d p false) None (Some (record { dataset = d; part = p })) known tells may.2 refl
    (λ d' p'. let same : cond {A = ℕ} (nat_eq d d' && nat_eq p p') 1 0 ≡ cond {A = ℕ} (nat_eq d' d && nat_eq p' p) 1 0 = ap (λ t. cond {A = ℕ} t 1 0) (turned d p d' p') in omega (arith, same))
noted_at s pins h w (Pin d p true) known may tells = pins_stay pins h w (Pin d p true) tells (λ o. refl) (λ _ _. refl) (λ _ _. refl)
noted_at s pins h w (Unpin d p) known may tells =
    pins_set pins h w (Unpin d p) (Some (record { dataset = d; part = p })) None known tells may.1 refl
    (λ d' p'. let same : cond {A = ℕ} (nat_eq d d' && nat_eq p p') 1 0 ≡ cond {A = ℕ} (nat_eq d' d && nat_eq p' p) 1 0 = ap (λ t. cond {A = ℕ} t 1 0) (turned d p d' p') in omega (arith, same))
noted_at s pins h w e known may tells = pins_stay pins h w e tells (λ o. refl) (λ _ _. refl) (λ _ _. refl)

-- the pins after an entry that may follow
pub pins_noted : (s : Sizes) (pins : List (Option BlockName)) (h : History) (entry : Entry) → entry.worker < 16 → MayFollow s h entry → TellsPins pins h → TellsPins (pins_after entry.worker entry.event pins) (entry ∷ h)
pins_noted s pins h entry known may tells = noted_at s pins h entry.worker entry.event known may.event tells
