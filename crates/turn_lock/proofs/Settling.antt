-- The comparison of a joined view's two lists keeps the rule.
use Rattle.std.proofs.Common.{◌≡◌, ◌⊎◌, inl, ⊎_elim, ℕ, List, set, get_or, Contains, Option, [], refl, sym, ◌∙◌, subst}
use mathlib.Core.Option.{some}
use mathlib.Core.Option as maybe
use lib.ListN.{get_elem?}
use lib.Seq.{set-get_or}
use Rattle.std.proofs.lemmas.List.Elements.{Contains-append_cases, Contains-append_left, Contains-append_right}
use Rattle.atomic_table.specs.Table.{State, step, keeps, Allows}
use Rattle.pool_ledger.specs.declared.entry.Entry.{Entry}
use Rattle.turn_lock.specs.declared.view.View.{View}
use Rattle.turn_lock.specs.Parts.{IsPart}
use Rattle.turn_lock.specs.Views.{settled_view}
use Rattle.turn_lock.specs.Turns.{IsOut, Stands, IsInTurn}
use Rattle.turn_lock.specs.Steps.{SettlesSeen}
use Rattle.turn_lock.proofs.Parts.{none_in, part_nobody, parts_longer}
use Rattle.turn_lock.proofs.Views.{each_set}
use Rattle.turn_lock.proofs.Reviews.{holds_reviewed, speaks_reviewed, gives_reviewed}

module _ {T : Type 0} (history : T → List Entry) (fact : T → Type 0) where
  abbrev S : Type 0
  S = State (Option T) View

  abbrev Rule : S → Type 0
  Rule = IsInTurn history fact

  -- the view of one seat changes, and with it neither the turn nor the history
  reviewed : (s : S) (r : Rule s) (id : ℕ) (v w : View) → get_elem? s.views id ≡ some v → w.number ≡ v.number → (IsOut v.stage → IsOut w.stage) → ((n : ℕ) → Contains v.speaks n → Contains w.speaks n)
      → ((n : ℕ) → Contains v.speaks n ⊎ Contains v.joined n → Contains w.speaks n ⊎ Contains w.joined n) → w.spare ≡ v.spare → Stands r.past r.turn r.next r.owner r.giver s.homes id w
      → Rule record { words = s.words; homes = s.homes; views = set s.views id w }
  reviewed s r id v w at number out grows keeps_all spare now = record {
    past = r.past;
    turn = r.turn;
    next = r.next;
    owner = r.owner;
    giver = r.giver;
    one_word = r.one_word;
    bounded = r.bounded;
    spoken = λ n less. speaks_reviewed s.views id v w n (r.owner n) at (keeps_all n) (r.spoken n less);
    left = λ more. gives_reviewed s.views id v w r.next r.giver at spare (r.left more);
    written = r.written;
    free = r.free;
    held = λ j e. holds_reviewed s.views id v w (get_or s.words 0 0) j at number out grows (r.held j e);
    each = each_set (Stands r.past r.turn r.next r.owner r.giver s.homes) s.views id w now (λ j u _ e. r.each j u e);
  }

  settles_view : (past : List Entry) (turn next : ℕ) (owner : ℕ → ℕ) (giver : ℕ) (homes : List (maybe.Option (Option T))) (id : ℕ) (v : View) → Stands past turn next owner giver homes id v
      → Stands past turn next owner giver homes id (settled_view v) × IsPart v.speaks v.seen (settled_view v).seen × IsPart v.joined v.told (settled_view v).seen
  settles_view past turn next owner giver homes id v k =
      let l = parts_longer past v.seen v.told v.speaks v.joined k.knows k.hears in (
        record {
          knows = record {
            begins = l.0;
            own = λ n h. ⊎_elim (λ (a : Contains v.speaks n). k.knows.own n a ∙ sym (l.1.own n a)) (λ (b : Contains v.joined n). k.hears.own n b ∙ sym (l.2.own n b)) (Contains-append_cases v.speaks v.joined n h);
          };
          hears = part_nobody [] past (past, refl);
          speaks = λ n h. ⊎_elim (λ (a : Contains v.speaks n). k.speaks n a) (λ (b : Contains v.joined n). k.joined n b) (Contains-append_cases v.speaks v.joined n h);
          joined = λ n h. absurd (none_in n h);
          gives = k.gives;
          stage = k.stage;
        },
        l.1,
        l.2,
      )

  pub settles : (id : ℕ) (me : View × List (ℕ × Option T)) → Allows Rule 1 id me 0 (λ n. n) (SettlesSeen (step 1 0 0 0 maybe.none) me)
  settles id me s r long at small =
      let v : View = me.0 in
      let now = settles_view r.past r.turn r.next r.owner r.giver s.homes id v (r.each id v at) in (
        settled_view v,
        keeps,
        tt,
        subst (λ (ws : List ℕ). Rule record { words = ws; homes = s.homes; views = set s.views id (settled_view v) }) (sym (set-get_or s.words 0 0))
            (reviewed s r id v (settled_view v) at refl (λ o. o) (λ n h. Contains-append_left v.speaks v.joined n h) (λ n h. inl (⊎_elim (λ (a : Contains v.speaks n). Contains-append_left v.speaks v.joined n a) (λ (b : Contains v.joined n). Contains-append_right v.speaks v.joined n b) h)) refl now.0),
        (refl, now.1, now.2),
      )
