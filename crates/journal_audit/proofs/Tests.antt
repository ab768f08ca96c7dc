-- What the tests of the rules say: each is true, or false, exactly where the fact holds.
use Rattle.std.proofs.Common.{ℕ, ◌≡◌, ◌++◌, ◌∷◌, [], List, Option, Some, None, Bool, true, false, not, cond, ◌&&◌, ◌||◌, map, length, inl, inr, sym, ◌∙◌, refl, ap, subst}
use Rattle.std.specs.Prelude.{is_some}
use Rattle.std.proofs.lemmas.Bool.{cases_Bool, eqb-true, eq-eqb, cond-false, cond-true}
use Rattle.pool_ledger.specs.declared.entry.Fate.{Fate}
use Rattle.pool_ledger.specs.declared.entry.Fate.TheVariants.{Disk, Gone, NoMemory}
use Rattle.pool_ledger.specs.declared.entry.Level.{Level}
use Rattle.pool_ledger.specs.declared.entry.Level.TheVariants.{Memory, Disk as OnDisk}
use Rattle.pool_ledger.specs.History.{History}
use Rattle.pool_ledger.specs.Blocks.{Name, Resident}
use Rattle.pool_ledger.specs.Legal.{Evicted, evicted_by, evicted_of, is_eviction, pending, is_own_turn, SuitsLevel, Evicts}
use Rattle.journal_audit.specs.declared.rules.Rule.{Rule}
use Rattle.journal_audit.specs.Rules.{is_the, is_name, is_answer, is_waiting, suits, has_size, are_evicted, goes}

-- Checks

-- where no rule is broken, the first one isn't, and none of the others
pub passed : (broken : Bool) (rule : Rule) (rest : Option Rule) → cond broken (Some rule) rest ≡ None → (broken ≡ false) × (rest ≡ None)
passed true rule rest h = absurd (cc h)
passed false rule rest h = (refl, h)

pub passes : (broken : Bool) (rule : Rule) (rest : Option Rule) → broken ≡ false → rest ≡ None → cond broken (Some rule) rest ≡ None
passes true rule rest h more = absurd (cc h)
passes false rule rest h more = more

-- Truth

pub not_off : (b : Bool) → not b ≡ false → b ≡ true
not_off true h = refl
not_off false h = absurd (cc h)

pub off_not : (b : Bool) → b ≡ true → not b ≡ false
off_not true h = refl
off_not false h = absurd (cc h)

pub or_off : (a b : Bool) → (a || b) ≡ false → (a ≡ false) × (b ≡ false)
or_off true b h = absurd (cc h)
or_off false b h = (refl, h)

pub off_or : (a b : Bool) → a ≡ false → b ≡ false → (a || b) ≡ false
off_or true b h k = absurd (cc h)
off_or false b h k = k

pub and_on : (a b : Bool) → a ≡ true → b ≡ true → (a && b) ≡ true
and_on true b h k = k
and_on false b h k = absurd (cc h)

pub and_both : (a b : Bool) → (a && b) ≡ true → (a ≡ true) × (b ≡ true)
and_both true b h = (refl, h)
and_both false b h = absurd (cc h)

pub with_true : (b : Bool) → (b && true) ≡ false → b ≡ false
with_true true h = absurd (cc h)
with_true false h = refl

pub true_with : (b : Bool) → b ≡ false → (b && true) ≡ false
true_with true h = absurd (cc h)
true_with false h = refl

-- Names and numbers

pub the_is : (o : Option ℕ) (n : ℕ) → is_the o n ≡ true → o ≡ Some n
the_is None n h = absurd (cc h)
the_is (Some m) n h = ap Some (eqb-true m n h)

pub is_the_one : (o : Option ℕ) (n : ℕ) → o ≡ Some n → is_the o n ≡ true
is_the_one None n h = absurd (cc h)
is_the_one (Some m) n h = eq-eqb m n (cc h)

pub name_is : (o : Option Name) (d p : ℕ) → is_name o d p ≡ true → o ≡ Some (record { dataset = d; part = p })
name_is None d p h = absurd (cc h)
name_is (Some name) d p h =
    let two = and_both _ _ h in
    let dataset : name.dataset ≡ d = eqb-true name.dataset d two.0 in
    let part : name.part ≡ p = eqb-true name.part p two.1 in
    rw (sym dataset, sym part) refl

pub is_the_name : (o : Option Name) (d p : ℕ) → o ≡ Some (record { dataset = d; part = p }) → is_name o d p ≡ true
is_the_name o d p h = rw h (and_on _ _ (eq-eqb d d refl) (eq-eqb p p refl))

pub none_is : {A : Type 0} (o : Option A) → is_some o ≡ false → o ≡ None
none_is None h = refl
none_is (Some x) h = absurd (cc h)

pub is_none : {A : Type 0} (o : Option A) → o ≡ None → is_some o ≡ false
is_none None h = refl
is_none (Some x) h = absurd (cc h)

pub answer_is : (a b : Option ℕ) → is_answer a b ≡ true → a ≡ b
answer_is None None h = refl
answer_is (Some a) (Some b) h = ap Some (eqb-true a b h)
answer_is None (Some b) h = absurd (cc h)
answer_is (Some a) None h = absurd (cc h)

same_answer : (a : Option ℕ) → is_answer a a ≡ true
same_answer None = refl
same_answer (Some a) = eq-eqb a a refl

pub is_the_answer : (a b : Option ℕ) → a ≡ b → is_answer a b ≡ true
is_the_answer a b h = subst (λ x. is_answer a x ≡ true) h (same_answer a)

-- Blocks

pub suits_is : (fate : Fate) (level : Level) → suits fate level ≡ true → SuitsLevel fate level
suits_is Gone level h = tt
suits_is Disk Memory h = absurd (cc h)
suits_is Disk OnDisk h = tt
suits_is NoMemory Memory h = absurd (cc h)
suits_is NoMemory OnDisk h = tt

pub is_suited : (fate : Fate) (level : Level) → SuitsLevel fate level → suits fate level ≡ true
is_suited Gone level h = refl
is_suited Disk Memory h = absurd h
is_suited Disk OnDisk h = refl
is_suited NoMemory Memory h = absurd h
is_suited NoMemory OnDisk h = refl

pub size_is : (o : Option Resident) (size : ℕ) → has_size o size ≡ true → (block : Resident) × (o ≡ Some block) × (block.size ≡ size)
size_is None size h = absurd (cc h)
size_is (Some block) size h = (block, refl, eqb-true block.size size h)

pub evicted_are : (gone : List Evicted) (blocks : List Resident) → are_evicted gone blocks ≡ true → gone ≡ map evicted_of blocks
evicted_are [] [] h = refl
evicted_are [] (block ∷ blocks) h = absurd (cc h)
evicted_are (x ∷ gone) [] h = absurd (cc h)
evicted_are (x ∷ gone) (block ∷ blocks) h =
    let two = and_both _ _ h in
    let three = and_both _ _ two.0 in
    let names = and_both _ _ three.0 in
    let dataset : x.dataset ≡ block.dataset = eqb-true x.dataset block.dataset names.0 in
    let part : x.part ≡ block.part = eqb-true x.part block.part names.1 in
    let size : x.size ≡ block.size = eqb-true x.size block.size three.1 in
    let head : x ≡ evicted_of block = rw (sym dataset, sym part, sym size) refl in
    rw (head, evicted_are gone blocks two.1) refl

all_evicted : (blocks : List Resident) → are_evicted (map evicted_of blocks) blocks ≡ true
all_evicted [] = refl
all_evicted (block ∷ blocks) =
    and_on _ _ (and_on _ _ (and_on _ _ (eq-eqb block.dataset block.dataset refl) (eq-eqb block.part block.part refl)) (eq-eqb block.size block.size refl)) (all_evicted blocks)

pub goes_is : (history : History) (blocks : List Resident) (evictions : ℕ) → goes history blocks evictions ≡ true → Evicts history blocks evictions
goes_is history blocks evictions h =
    let two = and_both _ _ h in
    record { blocks_are = evicted_are (pending history) blocks two.0; number = eqb-true evictions (length blocks) two.1 }

pub is_goes : (history : History) (blocks : List Resident) (evictions : ℕ) → Evicts history blocks evictions → goes history blocks evictions ≡ true
is_goes history blocks evictions h =
    and_on _ _ (subst (λ gone. are_evicted gone blocks ≡ true) (sym h.blocks_are) (all_evicted blocks)) (eq-eqb evictions (length blocks) h.number)

-- Turns

nothing_pushed : (xs : List Evicted) (x : Evicted) → xs ++ x ∷ [] ≡ [] → ⊥
nothing_pushed [] x is = cc
nothing_pushed (y ∷ ys) x is = cc

pub none_waits : (history : History) → is_waiting history ≡ false → pending history ≡ []
none_waits [] h = refl
none_waits (entry ∷ before) h = cond-false (is_eviction entry.event) (pending before ++ evicted_by entry.event ∷ []) [] h

pub is_not_waiting : (history : History) → pending history ≡ [] → is_waiting history ≡ false
is_not_waiting [] h = refl
is_not_waiting (entry ∷ before) h = elim (cases_Bool (is_eviction entry.event)) [
  | inl holds ↦ absurd (nothing_pushed (pending before) (evicted_by entry.event)
      (sym (cond-true (is_eviction entry.event) (pending before ++ evicted_by entry.event ∷ []) [] holds) ∙ h))
  | inr fails ↦ fails
]

any_turn : (history : History) (worker : ℕ) → is_waiting history ≡ false → is_own_turn history worker ≡ true
any_turn [] worker h = refl
any_turn (entry ∷ before) worker h = rw h refl

turn_by : (waits own : Bool) → (waits ≡ false → own ≡ true) → (waits && not own) ≡ false → own ≡ true
turn_by true own free h = not_off own h
turn_by false own free h = free refl

pub turn_is : (history : History) (worker : ℕ) → (is_waiting history && not (is_own_turn history worker)) ≡ false → is_own_turn history worker ≡ true
turn_is history worker h = turn_by (is_waiting history) (is_own_turn history worker) (any_turn history worker) h

pub turn_of_none : (history : History) (worker : ℕ) → is_waiting history ≡ false → is_own_turn history worker ≡ true
turn_of_none = any_turn

turns : (waits own : Bool) → own ≡ true → (waits && not own) ≡ false
turns true true h = refl
turns false true h = refl
turns waits false h = absurd (cc h)

pub is_turn : (history : History) (worker : ℕ) → is_own_turn history worker ≡ true → (is_waiting history && not (is_own_turn history worker)) ≡ false
is_turn history worker h = turns (is_waiting history) (is_own_turn history worker) h
