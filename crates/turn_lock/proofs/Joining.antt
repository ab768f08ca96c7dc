-- A pass that takes in another keeps the rule of the turn.
use Rattle.std.proofs.Common.{◌≡◌, ◌≢◌, ◌⊎◌, inl, inr, ⊎_elim, ℕ, ◌^◌, ◌<◌, ◌≤◌, min, Contains, eqb, cond, List, [], set, get_or, refl, ap, sym, ◌∙◌, subst, arith, eq-eqb, ne_eqb}
use mathlib.Core.Logic.{dite}
use mathlib.Core.Option.{some}
use native.Mathlib.Decide.{ℕ_discrete, dec_le}
use lib.ListN.{get_elem?}
use Rattle.atomic_table.specs.Table.{Joins}
use Rattle.atomic_table.proofs.Lists.{set_else, set_here}
use Rattle.pool_ledger.specs.declared.entry.Entry.{Entry}
use Rattle.turn_lock.specs.declared.view.Stage.TheVariants.{Idle}
use Rattle.turn_lock.specs.declared.view.View.{View}
use Rattle.turn_lock.specs.Views.{spent_view, joined_view}
use Rattle.turn_lock.specs.Turns.{Owns, IsOut, SpeaksFor, MayGive, Stands, Holds, IsInTurn}
use Rattle.turn_lock.proofs.Parts.{none_in, part_nobody}
use Rattle.turn_lock.proofs.Views.{at_below, same_at, each_set}
use Rattle.turn_lock.proofs.Reviews.{holds_reviewed, speaks_reviewed}

-- what the seat a had is the seat b's
abbrev pub handed : ℕ → ℕ → ℕ → ℕ
handed a b j = cond (eqb j a) b j

handed-same : (a b j : ℕ) → j ≡ a → handed a b j ≡ b
handed-same a b j is = ap (λ c. cond c b j) (eq-eqb j a is)

handed-other : (a b j : ℕ) → j ≢ a → handed a b j ≡ j
handed-other a b j other = ap (λ c. cond c b j) (ne_eqb j a other)

owns_still : (owner : ℕ → ℕ) (next a b j : ℕ) (numbers : List ℕ) → j ≢ a → Owns owner next j numbers → Owns (λ n. handed a b (owner n)) next j numbers
owns_still owner next a b j numbers other o n h = let x = o n h in (x.0, ap (handed a b) x.1 ∙ handed-other a b j other)

owns_now : (owner : ℕ → ℕ) (next a b : ℕ) (numbers : List ℕ) → Owns owner next a numbers → Owns (λ n. handed a b (owner n)) next b numbers
owns_now owner next a b numbers o n h = let x = o n h in (x.0, handed-same a b (owner n) x.1)

-- who isn't the holder may go
holds_without : (views : List View) (id : ℕ) (v w : View) (n j : ℕ) → get_elem? views id ≡ some v → (IsOut v.stage → ⊥) → Holds n j views → Holds n j (set views id w)
holds_without views id v w n j at away h = dite (ℕ_discrete j id)
    (λ here. absurd (away (subst (λ (u : View). IsOut u.stage) (same_at views id h.view v (subst (λ (k : ℕ). get_elem? views k ≡ some h.view) here h.at) at) h.out)))
    (λ other. record { view = h.view; at = set_else views id j w other ∙ h.at; word_is = h.word_is; number = h.number; out = h.out })

-- the numbers that are left, where one of the two has them
least : (a b next : ℕ) → next ≤ 2 ^ 32 → (a < 2 ^ 32 → a ≡ next) → (b < 2 ^ 32 → b ≡ next) → (a ≡ next) ⊎ (b ≡ next) → min a b ≡ next
least a b next most mine theirs which = dite (dec_le (2 ^ 32) a)
    (λ none. dite (dec_le (2 ^ 32) b) (λ none'. ⊎_elim (λ (e : a ≡ next). omega arith) (λ (e : b ≡ next). omega arith) which) (λ some_left. let e = theirs (omega arith) in omega arith))
    (λ some_left. let e = mine (omega arith) in dite (dec_le (2 ^ 32) b) (λ none. omega arith) (λ more. let e' = theirs (omega arith) in omega arith))

module _ {T : Type 0} (history : T → List Entry) (fact : T → Type 0) where
  pub joins_pass : (id : ℕ) (v : View) (other : ℕ) (w : View) → v.joined ≡ [] → w.joined ≡ [] → w.stage ≡ Idle → Joins (IsInTurn history fact) id v other w (joined_view v w) spent_view
  joins_pass id v other w no_joined no_more idle s r at apart there =
      let one : View = joined_view v w in
      let views : List View = set s.views id one in
      let there_before : get_elem? s.views other ≡ some w = sym (set_else s.views id other one apart) ∙ there in
      let k = r.each id v at in
      let o = r.each other w there_before in
      let owner : ℕ → ℕ = λ n. handed other id (r.owner n) in
      let giver : ℕ = handed other id r.giver in
      let K : ℕ → View → Type 0 = Stands r.past r.turn r.next owner giver s.homes in
      let apart' : id ≢ other = λ e. apart (sym e) in
      let joined_one : K id one = record {
        knows = k.knows;
        hears = o.knows;
        speaks = owns_still r.owner r.next other id id v.speaks apart' k.speaks;
        joined = owns_now r.owner r.next other id w.speaks o.speaks;
        gives = λ h. dite (dec_le (2 ^ 32) v.spare)
            (λ none. let x = o.gives (omega arith) in let is = x.0 in let b = r.bounded in (omega arith, handed-same other id r.giver x.1))
            (λ some_left. let x = k.gives (omega arith) in let is = x.0 in
            (dite (dec_le (2 ^ 32) w.spare) (λ none. omega arith) (λ more. let y = o.gives (omega arith) in let is' = y.0 in omega arith), handed-other other id r.giver (λ e. apart' (sym x.1 ∙ e)) ∙ x.1));
        stage = k.stage;
      } in
      let at_one : get_elem? (set views other spent_view) id ≡ some one = set_else views other id spent_view apart' ∙ set_here s.views id one (at_below s.views id v at) in
      let spoken_joined : (n j : ℕ) → SpeaksFor j n s.views → SpeaksFor (handed other id j) n (set views other spent_view) = λ n j h. dite (ℕ_discrete j other)
      (λ here. subst (λ (i : ℕ). SpeaksFor i n (set views other spent_view)) (sym (handed-same other id j here)) record {
        view = one;
        at = at_one;
        has =
            let same : h.view ≡ w = same_at s.views other h.view w (subst (λ (i : ℕ). get_elem? s.views i ≡ some h.view) here h.at) there_before in
            inr (⊎_elim (λ (a : Contains w.speaks n). a) (λ (b : Contains w.joined n). absurd (none_in n (subst (λ (l : List ℕ). Contains l n) no_more b))) (subst (λ (u : View). Contains u.speaks n ⊎ Contains u.joined n) same h.has));
      })
      (λ elsewhere.
      let k' = speaks_reviewed s.views id v one n j at (λ x. inl (⊎_elim (λ (a : Contains v.speaks n). a) (λ (b : Contains v.joined n). absurd (none_in n (subst (λ (l : List ℕ). Contains l n) no_joined b))) x)) h in
      subst (λ (i : ℕ). SpeaksFor i n (set views other spent_view)) (sym (handed-other other id j elsewhere)) record { view = k'.view; at = set_else views other j spent_view elsewhere ∙ k'.at; has = k'.has }) in
      let least_spare : (v.spare ≡ r.next) ⊎ (w.spare ≡ r.next) → min v.spare w.spare ≡ r.next = least v.spare w.spare r.next r.bounded (λ less. (k.gives less).0) (λ less. (o.gives less).0) in
      let may_joined : MayGive r.giver r.next s.views → MayGive giver r.next (set views other spent_view) = λ h. dite (ℕ_discrete r.giver other)
      (λ here.
      let same : h.view ≡ w = same_at s.views other h.view w (subst (λ (i : ℕ). get_elem? s.views i ≡ some h.view) here h.at) there_before in
      subst (λ (i : ℕ). MayGive i r.next (set views other spent_view)) (sym (handed-same other id r.giver here))
      record { view = one; at = at_one; spare_is = least_spare (inr (ap (λ (u : View). u.spare) (sym same) ∙ h.spare_is)) })
      (λ elsewhere. subst (λ (i : ℕ). MayGive i r.next (set views other spent_view)) (sym (handed-other other id r.giver elsewhere)) (dite (ℕ_discrete r.giver id)
      (λ mine.
      let same : h.view ≡ v = same_at s.views id h.view v (subst (λ (i : ℕ). get_elem? s.views i ≡ some h.view) mine h.at) at in
      subst (λ (i : ℕ). MayGive i r.next (set views other spent_view)) (sym mine) record { view = one; at = at_one; spare_is = least_spare (inl (ap (λ (u : View). u.spare) (sym same) ∙ h.spare_is)) })
      (λ others. record { view = h.view; at = set_else views other r.giver spent_view elsewhere ∙ (set_else s.views id r.giver one others ∙ h.at); spare_is = h.spare_is }))) in
      let spent : K other spent_view = record {
        knows = part_nobody [] r.past (r.past, refl);
        hears = part_nobody [] r.past (r.past, refl);
        speaks = λ n h. absurd (none_in n h);
        joined = λ n h. absurd (none_in n h);
        gives = λ h. absurd (omega arith);
        stage = tt;
      } in
      record {
        past = r.past;
        turn = r.turn;
        next = r.next;
        owner = owner;
        giver = giver;
        one_word = r.one_word;
        bounded = r.bounded;
        spoken = λ n less. spoken_joined n (r.owner n) (r.spoken n less);
        left = λ more. may_joined (r.left more);
        written = r.written;
        free = r.free;
        held = λ j e. holds_without views other w spent_view (get_or s.words 0 0) j there (λ out. subst IsOut idle out)
            (holds_reviewed s.views id v one (get_or s.words 0 0) j at refl (λ x. x) (λ n x. x) (r.held j e));
        each = each_set K views other spent_view spent (λ j u not_other e. each_set (λ i x. i ≢ other → K i x) s.views id one (λ _. joined_one)
            (λ i x not_id at' not_other'. let y = r.each i x at' in record {
              knows = y.knows;
              hears = y.hears;
              speaks = owns_still r.owner r.next other id i x.speaks not_other' y.speaks;
              joined = owns_still r.owner r.next other id i x.joined not_other' y.joined;
              gives = λ h. let z = y.gives h in (z.0, ap (handed other id) z.1 ∙ handed-other other id i not_other');
              stage = y.stage;
            }) j u e not_other);
      }
