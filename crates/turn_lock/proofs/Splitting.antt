-- A new pass keeps the rule of the turn.
use Rattle.std.proofs.Common.{◌≡◌, inl, ◌++◌, ℕ, zero, suc, ◌+◌, ◌^◌, ◌<◌, eqb, cond, List, [], ◌∷◌, length, set, get_or, All, Contains, refl, ap, sym, ◌∙◌, subst, arith, eq-eqb, ne_eqb}
use mathlib.Core.Logic.{dite}
use native.Mathlib.Decide.{ℕ_discrete}
use Rattle.atomic_table.specs.Table.{Splits}
use Rattle.atomic_table.proofs.Lists.{at_longer, at_last}
use Rattle.pool_ledger.specs.declared.entry.Entry.{Entry}
use Rattle.turn_lock.specs.declared.view.View.{View}
use Rattle.pool_ledger.specs.Workers.{entries_of}
use Rattle.turn_lock.specs.Views.{emptied_view, split_view}
use Rattle.turn_lock.specs.Turns.{Owns, SpeaksFor, Stands, IsInTurn}
use Rattle.turn_lock.proofs.Prefixes.{all_front}
use Rattle.turn_lock.proofs.Entries.{entries_of-unknown}
use Rattle.turn_lock.proofs.Parts.{none_in, part_nobody}
use Rattle.turn_lock.proofs.Views.{each_set, each_end}
use Rattle.turn_lock.proofs.Reviews.{holds_reviewed, speaks_reviewed}

-- who speaks for a number, once the number next was given to m
abbrev pub given_to : (ℕ → ℕ) → ℕ → ℕ → ℕ → ℕ
given_to owner next m n = cond (eqb n next) m (owner n)

given_to-new : (owner : ℕ → ℕ) (next m n : ℕ) → n ≡ next → given_to owner next m n ≡ m
given_to-new owner next m n is = ap (λ b. cond b m (owner n)) (eq-eqb n next is)

given_to-old : (owner : ℕ → ℕ) (next m n : ℕ) → n < next → given_to owner next m n ≡ owner n
given_to-old owner next m n less = ap (λ b. cond b m (owner n)) (ne_eqb n next (λ e. omega arith))

owns_still : (owner : ℕ → ℕ) (next m j : ℕ) (numbers : List ℕ) → Owns owner next j numbers → Owns (given_to owner next m) (next + 1) j numbers
owns_still owner next m j numbers o n h = let x = o n h in let less = x.0 in (omega arith, given_to-old owner next m n less ∙ x.1)

pub one_of : (x n : ℕ) → Contains (x ∷ []) n → n ≡ x
one_of x n h = one_at h.0 h.1 h.2
  where
    one_at : (k : ℕ) → k < 1 → get_or (x ∷ []) k n ≡ n → n ≡ x
    one_at zero l e = sym e
    one_at (suc k) l e = absurd (omega arith)

module _ {T : Type 0} (history : T → List Entry) (fact : T → Type 0) where
  pub splits_number : (id : ℕ) (v : View) → v.spare < 2 ^ 32 → Splits (IsInTurn history fact) id v (emptied_view v) (split_view v)
  splits_number id v some_left s r at =
      let k = r.each id v at in
      let its = k.gives some_left in
      let next_is : v.spare ≡ r.next = its.0 in
      let giver_is : r.giver ≡ id = its.1 in
      let views : List View = set s.views id (emptied_view v) in
      let m : ℕ = length views in
      let owner : ℕ → ℕ = given_to r.owner r.next m in
      let none : entries_of v.spare r.past ≡ [] = subst (λ (n : ℕ). entries_of n r.past ≡ []) (sym next_is) (entries_of-unknown r.next r.past r.written) in
      let none_seen : entries_of v.spare v.seen ≡ [] =
      subst (λ (n : ℕ). entries_of n v.seen ≡ []) (sym next_is) (entries_of-unknown r.next v.seen (all_front (λ e. e.worker < r.next) v.seen k.knows.begins.0 (subst (All (λ e. e.worker < r.next)) (sym k.knows.begins.1) r.written))) in
      let right : Stands r.past r.turn (r.next + 1) owner m s.homes m (split_view v) = record {
        knows = record { begins = k.knows.begins; own = λ n h. subst (λ (x : ℕ). entries_of x r.past ≡ entries_of x v.seen) (sym (one_of v.spare n h)) (none ∙ sym none_seen) };
        hears = part_nobody [] r.past (r.past, refl);
        speaks = λ n h. let is = one_of v.spare n h in (omega arith, given_to-new r.owner r.next m n (is ∙ next_is));
        joined = λ n h. absurd (none_in n h);
        gives = λ _. (ap (λ (x : ℕ). x + 1) next_is, refl);
        stage = tt;
      } in
      let left : Stands r.past r.turn (r.next + 1) owner m s.homes id (emptied_view v) = record {
        knows = k.knows;
        hears = k.hears;
        speaks = owns_still r.owner r.next m id v.speaks k.speaks;
        joined = owns_still r.owner r.next m id v.joined k.joined;
        gives = λ h. absurd (omega arith);
        stage = k.stage;
      } in
      record {
        past = r.past;
        turn = r.turn;
        next = r.next + 1;
        owner = owner;
        giver = m;
        one_word = r.one_word;
        bounded = omega arith;
        spoken = λ n less. dite (ℕ_discrete n r.next)
            (λ here. subst (λ (j : ℕ). SpeaksFor j n (views ++ split_view v ∷ [])) (sym (given_to-new r.owner r.next m n here))
            record { view = split_view v; at = at_last views (split_view v) m refl; has = inl (0, omega arith, next_is ∙ sym here) })
            (λ other. let h = speaks_reviewed s.views id v (emptied_view v) n (r.owner n) at (λ x. x) (r.spoken n (omega arith)) in
            subst (λ (j : ℕ). SpeaksFor j n (views ++ split_view v ∷ [])) (sym (given_to-old r.owner r.next m n (omega arith)))
            record { view = h.view; at = at_longer views (split_view v ∷ []) (r.owner n) h.view h.at; has = h.has });
        left = λ _. record { view = split_view v; at = at_last views (split_view v) m refl; spare_is = ap (λ (x : ℕ). x + 1) next_is };
        written = λ i d h. let less = r.written i d h in omega arith;
        free = r.free;
        held = λ j e. let h = holds_reviewed s.views id v (emptied_view v) (get_or s.words 0 0) j at refl (λ o. o) (λ n x. x) (r.held j e) in
            record { view = h.view; at = at_longer views (split_view v ∷ []) j h.view h.at; word_is = h.word_is; number = h.number; out = h.out };
        each = each_end (Stands r.past r.turn (r.next + 1) owner m s.homes) views (split_view v) right
            (each_set (Stands r.past r.turn (r.next + 1) owner m s.homes) s.views id (emptied_view v) left
            (λ j u other e. let o = r.each j u e in record {
              knows = o.knows;
              hears = o.hears;
              speaks = owns_still r.owner r.next m j u.speaks o.speaks;
              joined = owns_still r.owner r.next m j u.joined o.joined;
              gives = λ h. absurd (other (sym (o.gives h).1 ∙ giver_is));
              stage = o.stage;
            }));
      }
