-- What is read as the first field of a line is spelled so, and fits.
use Rattle.std.proofs.Common.{ℕ, ◌≡◌, ◌<◌, ◌^◌, ◌++◌, ◌⊎◌, inl, inr, ◌∷◌, [], List, Option, Some, None, codes, true, false, Bool, nat_eq, nat_lt, cond, IfSome, arith, rules, sym, ◌∙◌, refl, ap, subst}
use Rattle.std.specs.Str.{bytes_eq}
use Rattle.std.proofs.lemmas.List.{take-append-drop}
use Rattle.std.proofs.lemmas.Option.{cond_some}
use Rattle.pool_ledger.specs.declared.entry.Fate.{Fate}
use Rattle.pool_ledger.specs.declared.entry.Fate.TheVariants.{NoMemory}
use Rattle.pool_ledger.specs.declared.entry.Level.{Level}
use Rattle.pool_ledger.specs.declared.entry.Level.TheVariants.{Disk as OnDisk}
use Rattle.journal_audit.specs.Text.{field, number_field, got_text, fate_word, level_word, form_word}
use Rattle.journal_audit.specs.Fields.{◌>>=◌, split, field_at, whole, long_at, short_at, got_of, got_at, fate_of, fate_at, level_of, level_at, form_of, form_at, ended}
use Rattle.journal_audit.proofs.Wholes.{whole_takes, same_bytes}

pub some_is : {A : Type 0} {x y : A} → Some x ≡ Some y → x ≡ y
some_is h = cc h

pub bind_some : {A B : Type 0} (o : Option A) (f : A → Option B) (y : B) → (o >>= f) ≡ Some y → (x : A) × (o ≡ Some x) × (f x ≡ Some y)
bind_some None f y h = absurd (cc h)
bind_some (Some x) f y h = (x, refl, h)

pub split_takes : (bytes : List ℕ) → bytes ≡ (split bytes).0 ++ (split bytes).1
unfolding split
split_takes bytes = sym (take-append-drop _ bytes)

pub field_takes : (bytes : List ℕ) (p : List ℕ × List ℕ) → field_at bytes ≡ Some p → bytes ≡ field p.0 ++ p.1
unfolding field_at
field_takes [] p h = absurd (cc h)
field_takes (b ∷ bytes) p h =
    let t = cond_some (nat_eq b 44) (split bytes) p h in
    let comma : b ≡ 44 = search (rules, arith) in
    rw comma (ap (λ l. 44 ∷ l) (subst (λ (q : List ℕ × List ℕ). bytes ≡ q.0 ++ q.1) t.1 (split_takes bytes)))

pub long_takes : (bytes : List ℕ) (p : ℕ × List ℕ) → long_at bytes ≡ Some p → (p.0 < 2 ^ 64) × (bytes ≡ number_field p.0 ++ p.1)
unfolding long_at
long_takes bytes p h =
    let f = bind_some (field_at bytes) _ p h in
    let n = bind_some (whole f.0.0) _ p f.2 in
    let w = whole_takes f.0.0 n.0 n.1 in
    let is : bytes ≡ number_field n.0 ++ f.0.1 = field_takes bytes f.0 f.1 ∙ ap (λ x. field x ++ f.0.1) w.1 in
    let pair : (n.0, f.0.1) ≡ p = some_is n.2 in
    subst (λ (q : ℕ × List ℕ). (q.0 < 2 ^ 64) × (bytes ≡ number_field q.0 ++ q.1)) pair (w.0, is)

pub short_takes : (bytes : List ℕ) (p : ℕ × List ℕ) → short_at bytes ≡ Some p → (p.0 < 2 ^ 32) × (bytes ≡ number_field p.0 ++ p.1)
unfolding short_at
short_takes bytes p h =
    let f = bind_some (long_at bytes) _ p h in
    let t = cond_some (nat_lt f.0.0 (2 ^ 32)) f.0 p f.2 in
    let below : f.0.0 < 2 ^ 32 = search (rules, arith) in
    subst (λ (q : ℕ × List ℕ). (q.0 < 2 ^ 32) × (bytes ≡ number_field q.0 ++ q.1)) t.1 (below, (long_takes bytes f.0 f.1).1)

pub ended_takes : {A : Type 0} (x y : A) (bytes : List ℕ) → ended x bytes ≡ Some y → (bytes ≡ []) × (x ≡ y)
unfolding ended
ended_takes x y [] h = (refl, some_is h)
ended_takes x y (b ∷ bytes) h = absurd (cc h)

pub chosen : {A : Type 0} (b : Bool) (x y z : A) → cond b x y ≡ z → ((b ≡ true) × (x ≡ z)) ⊎ ((b ≡ false) × (y ≡ z))
chosen true x y z h = inl (refl, h)
chosen false x y z h = inr (refl, h)

pub got_of_takes : (text : List ℕ) (g : Option ℕ) → got_of text ≡ Some g → IfSome g (λ n. n < 2 ^ 64) × (text ≡ got_text g)
unfolding got_of
got_of_takes text g h = elim (chosen (bytes_eq text (codes "wait")) _ _ (Some g) h) [
  | inl t ↦ subst (λ (v : Option ℕ). IfSome v (λ n. n < 2 ^ 64) × (text ≡ got_text v)) (some_is t.1) (tt, same_bytes text (codes "wait") t.0)
  | inr t ↦
      let w = bind_some (whole text) (λ n. Some (Some n)) g t.1 in
      subst (λ (v : Option ℕ). IfSome v (λ n. n < 2 ^ 64) × (text ≡ got_text v)) (some_is w.2) (whole_takes text w.0 w.1)
]

pub got_takes : (bytes : List ℕ) (p : Option ℕ × List ℕ) → got_at bytes ≡ Some p → IfSome p.0 (λ n. n < 2 ^ 64) × (bytes ≡ field (got_text p.0) ++ p.1)
unfolding got_at
got_takes bytes p h =
    let f = bind_some (field_at bytes) _ p h in
    let n = bind_some (got_of f.0.0) _ p f.2 in
    let w = got_of_takes f.0.0 n.0 n.1 in
    let is : bytes ≡ field (got_text n.0) ++ f.0.1 = field_takes bytes f.0 f.1 ∙ ap (λ x. field x ++ f.0.1) w.1 in
    subst (λ (q : Option ℕ × List ℕ). IfSome q.0 (λ m. m < 2 ^ 64) × (bytes ≡ field (got_text q.0) ++ q.1)) (some_is n.2) (w.0, is)

pub fate_of_takes : (text : List ℕ) (f : Fate) → fate_of text ≡ Some f → text ≡ fate_word f
unfolding fate_of
fate_of_takes text f h = elim (chosen (bytes_eq text (codes "disk")) _ _ (Some f) h) [
  | inl t ↦ same_bytes text (codes "disk") t.0 ∙ ap fate_word (some_is t.1)
  | inr t ↦ elim (chosen (bytes_eq text (codes "gone")) _ _ (Some f) t.1) [
    | inl u ↦ same_bytes text (codes "gone") u.0 ∙ ap fate_word (some_is u.1)
    | inr u ↦
        let v = cond_some (bytes_eq text (codes "nomem")) NoMemory f u.1 in
        same_bytes text (codes "nomem") v.0 ∙ ap fate_word v.1
  ]
]

pub fate_takes : (bytes : List ℕ) (p : Fate × List ℕ) → fate_at bytes ≡ Some p → bytes ≡ field (fate_word p.0) ++ p.1
unfolding fate_at
fate_takes bytes p h =
    let f = bind_some (field_at bytes) _ p h in
    let n = bind_some (fate_of f.0.0) _ p f.2 in
    let is : bytes ≡ field (fate_word n.0) ++ f.0.1 = field_takes bytes f.0 f.1 ∙ ap (λ x. field x ++ f.0.1) (fate_of_takes f.0.0 n.0 n.1) in
    subst (λ (q : Fate × List ℕ). bytes ≡ field (fate_word q.0) ++ q.1) (some_is n.2) is

level_of_takes : (text : List ℕ) (level : Level) → level_of text ≡ Some level → text ≡ level_word level
unfolding level_of
level_of_takes text level h = elim (chosen (bytes_eq text (codes "memory")) _ _ (Some level) h) [
  | inl t ↦ same_bytes text (codes "memory") t.0 ∙ ap level_word (some_is t.1)
  | inr t ↦
      let v = cond_some (bytes_eq text (codes "disk")) OnDisk level t.1 in
      same_bytes text (codes "disk") v.0 ∙ ap level_word v.1
]

pub level_takes : (bytes : List ℕ) (p : Level × List ℕ) → level_at bytes ≡ Some p → bytes ≡ field (level_word p.0) ++ p.1
unfolding level_at
level_takes bytes p h =
    let f = bind_some (field_at bytes) _ p h in
    let n = bind_some (level_of f.0.0) _ p f.2 in
    let is : bytes ≡ field (level_word n.0) ++ f.0.1 = field_takes bytes f.0 f.1 ∙ ap (λ x. field x ++ f.0.1) (level_of_takes f.0.0 n.0 n.1) in
    subst (λ (q : Level × List ℕ). bytes ≡ field (level_word q.0) ++ q.1) (some_is n.2) is

form_of_takes : (text : List ℕ) (copy : Bool) → form_of text ≡ Some copy → text ≡ form_word copy
unfolding form_of
form_of_takes text copy h = elim (chosen (bytes_eq text (codes "copy")) _ _ (Some copy) h) [
  | inl t ↦ same_bytes text (codes "copy") t.0 ∙ ap form_word (some_is t.1)
  | inr t ↦
      let v = cond_some (bytes_eq text (codes "resident")) false copy t.1 in
      same_bytes text (codes "resident") v.0 ∙ ap form_word v.1
]

pub form_takes : (bytes : List ℕ) (p : Bool × List ℕ) → form_at bytes ≡ Some p → bytes ≡ field (form_word p.0) ++ p.1
unfolding form_at
form_takes bytes p h =
    let f = bind_some (field_at bytes) _ p h in
    let n = bind_some (form_of f.0.0) _ p f.2 in
    let is : bytes ≡ field (form_word n.0) ++ f.0.1 = field_takes bytes f.0 f.1 ∙ ap (λ x. field x ++ f.0.1) (form_of_takes f.0.0 n.0 n.1) in
    subst (λ (q : Bool × List ℕ). bytes ≡ field (form_word q.0) ++ q.1) (some_is n.2) is
