-- The holder's slot goes home with None, and is out again, under the rule.
use Rattle.std.proofs.Common.{◌≡◌, ℕ, suc, List, [], ◌∷◌, set, get_or, Contains, Option, None, refl, ap, sym, ◌∙◌, subst, arith}
use mathlib.Core.Option.{some}
use mathlib.Core.Option as maybe
use lib.ListN.{get_elem?}
use lib.Seq.{set-get_or}
use Rattle.atomic_table.specs.Table.{State, step, takes, gives, Allows}
use Rattle.atomic_table.proofs.Lists.{set_here}
use Rattle.pool_ledger.specs.declared.entry.Entry.{Entry}
use Rattle.turn_lock.specs.declared.view.Stage.{Stage}
use Rattle.turn_lock.specs.declared.view.Stage.TheVariants.{Open, Taken}
use Rattle.turn_lock.specs.declared.view.View.{View}
use Rattle.turn_lock.specs.Views.{staged_view}
use Rattle.turn_lock.specs.Turns.{word_of, IsOut, IsInStage, Stands, Holds, IsInTurn}
use Rattle.turn_lock.specs.Steps.{LeavesSlot, ReturnsSlot}
use Rattle.turn_lock.proofs.Views.{at_below, same_at, each_set}
use Rattle.turn_lock.proofs.Reviews.{stands_elsewhere, stands_staged, speaks_reviewed, gives_reviewed}

module _ {T : Type 0} (history : T → List Entry) (fact : T → Type 0) where
  abbrev S : Type 0
  S = State (Option T) View

  abbrev Rule : S → Type 0
  Rule = IsInTurn history fact

  abbrev word : S → ℕ
  word s = get_or s.words 0 0

  held_at : (s : S) (r : Rule s) (id : ℕ) (v w : View) (n : ℕ) → r.turn ≡ suc id → get_elem? s.views id ≡ some v → w.number ≡ v.number → w.speaks ≡ v.speaks → IsOut w.stage → n ≡ word s
      → (j : ℕ) → r.turn ≡ suc j → Holds n j (set s.views id w)
  held_at s r id v w n mine at number speaks out same j is =
      let h = r.held id mine in
      let v_is : h.view ≡ v = same_at s.views id h.view v h.at at in
      let here : id ≡ j = omega arith in
      subst (λ (k : ℕ). Holds n k (set s.views id w)) here record {
        view = w;
        at = set_here s.views id w (at_below s.views id v at);
        word_is = same ∙ h.word_is ∙ ap (λ (u : View). word_of u.number) v_is ∙ ap word_of (sym number);
        number = subst (λ (z : List ℕ × ℕ). Contains z.0 z.1) (λ i. ((ap (λ (u : View). u.speaks) v_is ∙ sym speaks) i, (ap (λ (u : View). u.number) v_is ∙ sym number) i)) h.number;
        out = out;
      }

  -- the holder's slot changes, and its stage
  moved : (s : S) (r : Rule s) (id : ℕ) (v : View) (stage : Stage) (homes : List (maybe.Option (Option T))) → get_elem? s.views id ≡ some v → r.turn ≡ suc id → IsOut stage → IsInStage r.past r.turn homes id stage
      → Rule record { words = set s.words 0 (word s); homes = homes; views = set s.views id (staged_view stage v) }
  moved s r id v stage homes at mine out now =
      let w : View = staged_view stage v in
      subst (λ (ws : List ℕ). Rule record { words = ws; homes = homes; views = set s.views id w }) (sym (set-get_or s.words 0 0)) record {
        past = r.past;
        turn = r.turn;
        next = r.next;
        owner = r.owner;
        giver = r.giver;
        one_word = r.one_word;
        bounded = r.bounded;
        spoken = λ n less. speaks_reviewed s.views id v w n (r.owner n) at (λ h. h) (r.spoken n less);
        left = λ more. gives_reviewed s.views id v w r.next r.giver at refl (r.left more);
        written = r.written;
        free = λ e. absurd (omega arith);
        held = held_at s r id v w (word s) mine at refl refl out refl;
        each = each_set (Stands r.past r.turn r.next r.owner r.giver homes) s.views id w
            (stands_staged r.past r.turn r.turn r.next r.owner r.giver s.homes homes id v stage (r.each id v at) now)
            (λ j u other e. stands_elsewhere r.past r.turn r.turn r.next r.owner r.giver s.homes homes j u (λ (t : r.turn ≡ suc j). other (omega arith)) (r.each j u e));
      }

  pub leaves_slot : (id : ℕ) (v : View) (base : List Entry) → v.stage ≡ Open base → Allows Rule 1 id (v, (0, None) ∷ []) 0 (λ n. n) (LeavesSlot (step 1 0 0 0 maybe.none) (v, (0, None) ∷ []))
  leaves_slot id v base is s r long at small =
      let mine : (r.turn ≡ suc id) × (base ≡ r.past) = subst (IsInStage r.past r.turn s.homes id) is (r.each id v at).stage in
      let homes : List (maybe.Option (Option T)) = set s.homes 0 (some None) in
      (staged_view (Taken base) v, gives, tt, moved s r id v (Taken base) homes at mine.0 tt (mine.0, mine.1, set_here s.homes 0 (some None) (omega arith)), λ other e. ap (λ (b : List Entry). (staged_view (Taken b) v, [])) (open_same base other (sym is ∙ e)))
    where
      open_same : (a b : List Entry) → Open a ≡ Open b → a ≡ b
      open_same a b e = cc e

  pub returns_slot : (id : ℕ) (v : View) (base : List Entry) → v.stage ≡ Taken base → Allows Rule 1 id (v, []) 0 (λ n. n) (ReturnsSlot (step 1 0 0 0 maybe.none) (v, []))
  returns_slot id v base is s r long at small =
      let mine : (r.turn ≡ suc id) × (base ≡ r.past) × (get_elem? s.homes 0 ≡ some (some None)) = subst (IsInStage r.past r.turn s.homes id) is (r.each id v at).stage in
      let homes : List (maybe.Option (Option T)) = set s.homes 0 maybe.none in
      (staged_view (Open base) v, takes 0 None, mine.2, moved s r id v (Open base) homes at mine.0 tt (mine.0, mine.1), λ other e. ap (λ (b : List Entry). (staged_view (Open b) v, (0, None) ∷ [])) (taken_same base other (sym is ∙ e)))
    where
      taken_same : (a b : List Entry) → Taken a ≡ Taken b → a ≡ b
      taken_same a b e = cc e
