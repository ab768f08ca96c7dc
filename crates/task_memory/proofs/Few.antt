-- How many bytes are got for the outermost ask.
use Rattle.std.proofs.Common.{◌≡◌, ℕ, ◌+◌, ◌-◌, ◌≤◌, List, [], ◌∷◌, length, get_or, set, refl, sym, ap, subst, ◌∙◌, arith, inl, inr}
use Rattle.std.specs.Prelude.{max}
use Rattle.std.proofs.lemmas.List.{get_or_default, get_or-set_same, get_or-set_other}
use Rattle.task_memory.specs.declared.ask.Ask.{Ask}
use Rattle.task_pool.specs.Accounts.{Held, less_by}
use Rattle.task_memory.specs.Asks.{no_ask, ask_at, top_of, Tries, Settles}
use Rattle.task_memory.proofs.Places.{at_or_not, less_or_not}

-- an attempt for the innermost ask keeps a bound of the outermost: it is another, or the attempt is within the bound
pub tries_few : (old new : Held) (asks asks' : List Ask) (want most : ℕ) → 1 ≤ length asks → Tries old new asks asks' want → (ask_at asks 0).got ≤ most → (length asks ≡ 1 → (ask_at asks 0).got + want ≤ most) → (ask_at asks' 0).got ≤ most
tries_few old new asks asks' want most some tries had alone =
    let last = length asks - 1 in
    let raised : Ask = record (top_of asks) { got = (top_of asks).got + tries.granted } in
    let granted = tries.grants.most in
    subst (λ (each : List Ask). (ask_at each 0).got ≤ most) (sym tries.top) (elim (at_or_not 0 last) [
      | inl first ↦
          let within = alone (omega arith) in
          let is : ask_at (set asks last raised) last ≡ raised = get_or-set_same asks last raised no_ask (omega arith) in
          let got : (ask_at (set asks last raised) 0).got ≡ (top_of asks).got + tries.granted = ap (λ k. (ask_at (set asks last raised) k).got) first ∙ ap (λ (each : Ask). each.got) is in
          let top : (ask_at asks 0).got ≡ (top_of asks).got = ap (λ k. (ask_at asks k).got) first in
          omega arith
      | inr other ↦
          let same : (ask_at (set asks last raised) 0).got ≡ (ask_at asks 0).got = ap (λ (each : Ask). each.got) (get_or-set_other asks last 0 raised no_ask other) in
          omega arith
    ])

-- a settlement gets no more for it than it had got before or needs
pub settles_few : (old new : Held) (asks asks' : List Ask) (given : ℕ) → 1 ≤ length asks → Settles old new asks asks' given → (ask_at asks' 0).got ≤ max (ask_at asks 0).got (ask_at asks 0).need
settles_few old new asks asks' given some settles =
    elim (less_or_not (top_of asks).got (top_of asks).need) [
      | inl lacks ↦
          tries_few (less_by old given) new asks asks' ((top_of asks).need - (top_of asks).got) (max (ask_at asks 0).got (ask_at asks 0).need) some (settles.lacks lacks) (grind arith)
          (λ one.
          let got : (top_of asks).got ≡ (ask_at asks 0).got = ap (λ n. (ask_at asks (n - 1)).got) one in
          let need : (top_of asks).need ≡ (ask_at asks 0).need = ap (λ n. (ask_at asks (n - 1)).need) one in
          grind arith)
      | inr meets ↦ rw (settles.meets meets).1 (grind arith)
    ]

-- one ask, for which at most so much was got
pub record IsOneFew (asks : List Ask) (most : ℕ) : Type 0 where
  pub one : length asks ≡ 1
  pub few : (ask_at asks 0).got ≤ most

-- the first attempt for one ask gets at most its wish
pub first_few : (old new : Held) (ask : Ask) (asks asks' : List Ask) (wish : ℕ) → ask.got ≡ 0 → asks ≡ ask ∷ [] → Tries old new asks asks' wish → IsOneFew asks' wish × ((ask_at asks' 0).need ≡ ask.need)
first_few old new ask asks after wish none single tries =
    let tried : Tries old new (ask ∷ []) after wish = subst (λ (each : List Ask). Tries old new each after wish) single tries in
    let granted = tried.grants.most in
    rw tried.top (record { one = refl; few = omega (arith, none, granted) }, refl)

-- and so it stays while the ask is served
pub served_few : (asks asks' : List Ask) (need wish : ℕ) → IsOneFew asks wish → (ask_at asks 0).need ≡ need → need ≤ wish → length asks' ≡ 1 → (ask_at asks' 0).got ≤ max (ask_at asks 0).got (ask_at asks 0).need → IsOneFew asks' wish
served_few asks asks' need wish first same within one few = let at_first = first.few in record { one = one; few = grind arith }

-- what is read of it
pub read_few : (asks : List Ask) (ask : Ask) (most : ℕ) → IsOneFew asks most → ask ≡ get_or asks 0 ask → ask.got ≤ most
read_few asks ask most few is =
    let top : ask_at asks 0 ≡ ask = get_or_default asks 0 no_ask ask (let one = few.one in omega arith) ∙ sym is in
    let got : (ask_at asks 0).got ≡ ask.got = ap (λ (each : Ask). each.got) top in
    let got_few = few.few in
    omega arith
