-- A take of the turn keeps the rule.
use Rattle.std.proofs.Common.{◌≡◌, ℕ, suc, ◌-◌, eqb, List, [], set, get_or, Contains, Option, Some, refl, ap, sym, ◌∙◌, subst, arith, length-set, get_or-set_same, eq-eqb, ne_eqb}
use mathlib.Core.Logic.{dite}
use mathlib.Core.Option.{some}
use mathlib.Core.Option as maybe
use native.Mathlib.Decide.{ℕ_discrete}
use lib.ListN.{get_elem?}
use lib.Seq.{set-get_or}
use prog.Atomic.{either}
use Rattle.atomic_table.specs.Table.{State, step, keeps, takes, stepped, Allows}
use Rattle.atomic_table.proofs.Lists.{set_again, set_here}
use Rattle.pool_ledger.specs.declared.entry.Entry.{Entry}
use Rattle.turn_lock.specs.declared.view.Stage.TheVariants.{Open}
use Rattle.turn_lock.specs.declared.view.View.{View}
use Rattle.turn_lock.specs.Parts.{IsPart}
use Rattle.turn_lock.specs.Views.{staged_view}
use Rattle.turn_lock.specs.Turns.{word_of, Stands, Holds, IsInTurn}
use Rattle.turn_lock.specs.Steps.{IsFound, TakesTurn}
use Rattle.turn_lock.proofs.Views.{at_below, each_set}
use Rattle.turn_lock.proofs.Reviews.{stands_elsewhere, stands_staged, speaks_reviewed, gives_reviewed}

module _ {T : Type 0} (history : T → List Entry) (fact : T → Type 0) where
  abbrev S : Type 0
  S = State (Option T) View

  abbrev Rule : S → Type 0
  Rule = IsInTurn history fact

  abbrev word : S → ℕ
  word s = get_or s.words 0 0

  -- a step that changes nothing
  unmoved : (s : S) (id n : ℕ) (v : View) (cs : List (ℕ × Option T)) → Rule s → get_elem? s.views id ≡ some v → n ≡ word s → Rule (stepped s 0 n id cs v keeps)
  unmoved s id n v cs r at same = subst Rule (λ i. record { words = sym (ap (set s.words 0) same ∙ set-get_or s.words 0 0) i; homes = s.homes; views = sym (set_again s.views id v at) i }) r

  free_turn : (s : S) (r : Rule s) → word s ≡ 0 → r.turn ≡ 0
  free_turn s r is = dite (ℕ_discrete r.turn 0) (λ e. e) (λ n. let h = r.held (r.turn - 1) (omega arith) in absurd (let w = h.word_is in omega arith))

  taken : (s : S) (r : Rule s) (id : ℕ) (v : View) (new : ℕ) (cs : List (ℕ × Option T)) → get_elem? s.views id ≡ some v → (turn_free : r.turn ≡ 0) → new ≡ word_of v.number → Contains v.speaks v.number
      → Rule (stepped s 0 new id cs (staged_view (Open (history (r.free turn_free).1.value)) v) (takes 0 (Some (r.free turn_free).1.value)))
  taken s r id v new cs at turn_free new_is has =
      let home = (r.free turn_free).1 in
      let w : View = staged_view (Open (history home.value)) v in
      let one = r.one_word in
      let now : get_or (set s.words 0 new) 0 0 ≡ new = get_or-set_same s.words 0 new 0 (omega arith) in
      record {
        past = r.past;
        turn = suc id;
        next = r.next;
        owner = r.owner;
        giver = r.giver;
        one_word = length-set s.words 0 new ∙ one;
        bounded = r.bounded;
        spoken = λ n less. speaks_reviewed s.views id v w n (r.owner n) at (λ h. h) (r.spoken n less);
        left = λ more. gives_reviewed s.views id v w r.next r.giver at refl (r.left more);
        written = r.written;
        free = λ e. absurd (omega arith);
        held = λ j e. let here : id ≡ j = omega arith in subst (λ (k : ℕ). Holds (get_or (set s.words 0 new) 0 0) k (set s.views id w)) here record {
          view = w;
          at = set_here s.views id w (at_below s.views id v at);
          word_is = now ∙ new_is;
          number = has;
          out = tt;
        };
        each = each_set (Stands r.past (suc id) r.next r.owner r.giver (set s.homes 0 maybe.none)) s.views id w
            (stands_staged r.past r.turn (suc id) r.next r.owner r.giver s.homes (set s.homes 0 maybe.none) id v (Open (history home.value)) (r.each id v at) (refl, home.history_is))
            (λ j u _ e. stands_elsewhere r.past r.turn (suc id) r.next r.owner r.giver s.homes (set s.homes 0 maybe.none) j u (λ (t : r.turn ≡ suc j). omega arith) (r.each j u e));
      }

  pub takes_turn : (id new : ℕ) (v : View) → new ≡ word_of v.number → Contains v.speaks v.number → Allows Rule 1 id (v, []) 0 (λ n. either (eqb n 0) new n) (TakesTurn history fact (step 1 0 0 new maybe.none) (v, []))
  takes_turn id new v new_is has s r long at small = dite (ℕ_discrete (word s) 0)
      (λ zero_word.
      let turn_free : r.turn ≡ 0 = free_turn s r zero_word in
      let home = (r.free turn_free).1 in
      let found : IsFound history fact v home.value = record { meets = home.meets; part = subst (IsPart v.speaks v.seen) (sym home.history_is) (r.each id v at).knows } in
      let w : View = staged_view (Open (history home.value)) v in (
        w,
        takes 0 (Some home.value),
        home.at,
        subst (λ b. Rule (stepped s 0 (either b new (word s)) id [] w (takes 0 (Some home.value)))) (sym (eq-eqb (word s) 0 zero_word)) (taken s r id v new [] at turn_free new_is has),
        ((λ _. (home.value, refl, found)), (λ other. absurd (other zero_word))),
      ))
      (λ other. (v, keeps, tt, subst (λ b. Rule (stepped s 0 (either b new (word s)) id [] v keeps)) (sym (ne_eqb (word s) 0 other)) (unmoved s id (word s) v [] r at refl), ((λ z. absurd (other z)), (λ _. refl))))
