-- A give of the turn keeps the rule: what was added is of the holder's number, which no other view speaks for.
use Rattle.std.proofs.Common.{◌≡◌, ℕ, suc, ◌<◌, List, [], ◌∷◌, length, set, All, Contains, Option, Some, refl, ap, sym, ◌∙◌, subst, arith, length-set, get_or-set_same}
use mathlib.Core.Option.{some}
use mathlib.Core.Option as maybe
use lib.ListN.{get_elem?}
use Rattle.std.proofs.lemmas.List.Elements.{All-append}
use Rattle.atomic_table.specs.Table.{State, step, gives, Allows}
use Rattle.atomic_table.proofs.Lists.{set_here}
use Rattle.pool_ledger.specs.declared.entry.Entry.{Entry}
use Rattle.pool_ledger.specs.Workers.{Continues}
use Rattle.turn_lock.specs.declared.view.Stage.TheVariants.{Open}
use Rattle.turn_lock.specs.declared.view.View.{View}
use Rattle.turn_lock.specs.Parts.{IsPart}
use Rattle.turn_lock.specs.Views.{resting_view}
use Rattle.turn_lock.specs.Turns.{IsInStage, Stands, IsInTurn}
use Rattle.turn_lock.specs.Steps.{GivesTurn}
use Rattle.turn_lock.proofs.Parts.{part_self, part_nobody, part_continued}
use Rattle.turn_lock.proofs.Views.{each_set}
use Rattle.turn_lock.proofs.Slots.{same_in_hand}
use Rattle.turn_lock.proofs.Reviews.{stage_elsewhere, speaks_reviewed, gives_reviewed}

module _ {T : Type 0} (history : T → List Entry) (fact : T → Type 0) where
  abbrev S : Type 0
  S = State (Option T) View

  abbrev Rule : S → Type 0
  Rule = IsInTurn history fact

  given : (s : S) (r : Rule s) (id : ℕ) (v : View) (x : T) → get_elem? s.views id ≡ some v → v.joined ≡ [] → v.told ≡ [] → r.turn ≡ suc id → Contains v.speaks v.number → fact x → Continues v.number r.past (history x) → 0 < length s.homes
      → Rule record { words = set s.words 0 0; homes = set s.homes 0 (some (Some x)); views = set s.views id (resting_view (history x) v) }
  given s r id v x at no_joined no_told mine has good more slot =
      let after : List Entry = history x in
      let w : View = resting_view after v in
      let homes : List (maybe.Option (Option T)) = set s.homes 0 (some (Some x)) in
      let one = r.one_word in
      let k = r.each id v at in
      let its = k.speaks v.number has in
      record {
        past = after;
        turn = 0;
        next = r.next;
        owner = r.owner;
        giver = r.giver;
        one_word = length-set s.words 0 0 ∙ one;
        bounded = r.bounded;
        spoken = λ n less. speaks_reviewed s.views id v w n (r.owner n) at (λ h. h) (r.spoken n less);
        left = λ some_left. gives_reviewed s.views id v w r.next r.giver at refl (r.left some_left);
        written = subst (All (λ e. e.worker < r.next)) more.1 (All-append (λ e. e.worker < r.next) r.past more.0 r.written (λ i d h. let is = more.2 i d h in let less = its.0 in omega arith));
        free = λ _. (get_or-set_same s.words 0 0 0 (omega arith), record { value = x; at = set_here s.homes 0 (some (Some x)) slot; history_is = refl; meets = good });
        held = λ j e. absurd (omega arith);
        each = each_set (Stands after 0 r.next r.owner r.giver homes) s.views id w
            record {
              knows = part_self v.speaks after;
              hears = subst (λ (z : List ℕ × List Entry). IsPart z.0 z.1 after) (λ i. (sym no_joined i, sym no_told i)) (part_nobody [] after (after, refl));
              speaks = k.speaks;
              joined = k.joined;
              gives = k.gives;
              stage = tt;
            }
            (λ j u other e. let o = r.each j u e in record {
              knows = part_continued u.speaks u.seen r.past after v.number o.knows more (λ n h same. let where_ = (o.speaks n h).1 in let here = its.1 in other (sym where_ ∙ ap r.owner same ∙ here));
              hears = part_continued u.joined u.told r.past after v.number o.hears more (λ n h same. let where_ = (o.joined n h).1 in let here = its.1 in other (sym where_ ∙ ap r.owner same ∙ here));
              speaks = o.speaks;
              joined = o.joined;
              gives = o.gives;
              stage = stage_elsewhere r.past after r.turn 0 s.homes homes j u.stage (λ (t : r.turn ≡ suc j). other (omega arith)) o.stage;
            });
      }

  pub gives_turn : (id : ℕ) (v : View) (base : List Entry) (x : T) → v.stage ≡ Open base → v.joined ≡ [] → v.told ≡ [] → Contains v.speaks v.number → fact x → Continues v.number base (history x)
      → Allows Rule 1 id (v, (0, Some x) ∷ []) 0 (λ _. 0) (GivesTurn history (step 1 0 0 0 maybe.none) (v, (0, Some x) ∷ []))
  gives_turn id v base x is no_joined no_told has good more s r long at small =
      let mine : (r.turn ≡ suc id) × (base ≡ r.past) = subst (IsInStage r.past r.turn s.homes id) is (r.each id v at).stage in (
        resting_view (history x) v,
        gives,
        tt,
        given s r id v x at no_joined no_told mine.0 has good (subst (λ (b : List Entry). Continues v.number b (history x)) mine.1 more) (omega arith),
        λ y e. ap (λ (h : T). (resting_view (history h) v, [])) (same_in_hand x y e),
      )
