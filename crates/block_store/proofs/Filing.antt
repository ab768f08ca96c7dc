-- The files of a disk while one file is written or removed.
use Rattle.std.proofs.Common.{◌≡◌, ℕ, ◌≤◌, cond, eqb, List, [], ◌++◌, Option, Some, None, Result, Ok, Err, refl, sym, ap, subst, ◌∙◌, inl, inr, arith}
use Rattle.std.specs.Prelude.{is_some, unwrap_or, OnOk, OnErr, ⊤}
use Rattle.std.specs.Cmp.{unsigned_tied}
use Rattle.std.specs.FinMap as map
use Rattle.std.specs.FinMap.{get-insert, get-remove}
use Rattle.std.proofs.lemmas.Cmp.{nat_cmp_total}
use Rattle.std.proofs.lemmas.Bool.{eq-eqb, ne_eqb, true≢false, false≢true}
use Rattle.spill_disk.specs.Files.{Files, bytes_of, Creates, Appends, Removes}
use Rattle.block_store.specs.Evictions.{file_at, OnlyFile, WritesCopy, BeginsAtMost, SameBelow}

get_put : (m : Files) (k : ℕ) (v : List ℕ) (q : ℕ) → map.get (map.insert m k v) q ≡ cond (eqb q k) (Some v) (map.get m q)
get_put m k v q = get-insert nat_cmp_total m k v q ∙ ap (λ b. cond b (Some v) (map.get m q)) (unsigned_tied q k)

get_taken : (m : Files) (k q : ℕ) → map.get (map.remove m k) q ≡ cond (eqb q k) None (map.get m q)
get_taken m k q = get-remove nat_cmp_total m k q ∙ ap (λ b. cond b None (map.get m q)) (unsigned_tied q k)

put_self : (m : Files) (k : ℕ) (v : List ℕ) → map.get (map.insert m k v) k ≡ Some v
put_self m k v = get_put m k v k ∙ ap (λ b. cond b (Some v) (map.get m k)) (eq-eqb k k refl)

put_other : (m : Files) (k : ℕ) (v : List ℕ) (q : ℕ) → (q ≡ k → ⊥) → map.get (map.insert m k v) q ≡ map.get m q
put_other m k v q other = get_put m k v q ∙ ap (λ b. cond b (Some v) (map.get m q)) (ne_eqb q k other)

taken_other : (m : Files) (k q : ℕ) → (q ≡ k → ⊥) → map.get (map.remove m k) q ≡ map.get m q
taken_other m k q other = get_taken m k q ∙ ap (λ b. cond b None (map.get m q)) (ne_eqb q k other)

-- a file that was made and appended to has what was appended
pub written : (before mid after : Option Files) (file : ℕ) (bytes : List ℕ) → Creates before mid file → Appends mid after file bytes → WritesCopy before after file bytes
written None mid after file bytes made grown = tt
written (Some b) None after file bytes made grown = absurd made
written (Some b) (Some m) None file bytes made grown = absurd grown
written (Some b) (Some m) (Some a) file bytes made grown =
    let empty : bytes_of m file ≡ [] = ap (λ (o : Option (List ℕ)). unwrap_or o []) (ap (λ (f : Files). map.get f file) made.1 ∙ put_self b file []) in (
      ap (λ (f : Files). map.get f file) grown ∙ put_self m file (bytes_of m file ++ bytes) ∙ ap (λ (v : List ℕ). Some (v ++ bytes)) empty,
      (made.0, λ other apart. ap (λ (f : Files). map.get f other) grown ∙ put_other m file (bytes_of m file ++ bytes) other apart ∙ ap (λ (f : Files). map.get f other) made.1 ∙ put_other b file [] other apart),
    )

-- nothing but one file differs, and it wasn't there
abbrev pub DiffersAt : Option Files → Option Files → ℕ → Type 0
DiffersAt (Some before) (Some after) file = OnlyFile before after file
DiffersAt None after file = ⊤
DiffersAt (Some before) None file = ⊥

pub differs_written : (before after : Option Files) (file : ℕ) (bytes : List ℕ) → WritesCopy before after file bytes → DiffersAt before after file
differs_written None after file bytes h = tt
differs_written (Some b) None file bytes h = h
differs_written (Some b) (Some a) file bytes h = h.1

-- what was written in part is removed, or not
pub differs_removed : {E : Type 0} (before after last : Option Files) (file : ℕ) (answer : Result (Unit {0}) E) → DiffersAt before after file → OnOk answer (Removes after last file) → OnErr answer (last ≡ after) → DiffersAt before last file
differs_removed None after last file answer h ok err = tt
differs_removed (Some b) None last file answer h ok err = absurd h
differs_removed (Some b) (Some a) last file (Err e) h ok err = subst (λ (f : Option Files). DiffersAt (Some b) f file) (sym err) h
differs_removed (Some b) (Some a) None file (Ok u) h ok err = absurd ok
differs_removed (Some b) (Some a) (Some l) file (Ok u) h ok err =
    (h.0, λ other apart. ap (λ (f : Files). map.get f other) ok ∙ taken_other a file other apart ∙ h.1 other apart)

pub begins : (before after : Option Files) (file : ℕ) → DiffersAt before after file → BeginsAtMost before after
begins None after file h = tt
begins (Some b) None file h = h
begins (Some b) (Some a) file h = inr (file, h)

pub begins_none : (before after : Option Files) → after ≡ before → BeginsAtMost before after
begins_none None after e = tt
begins_none (Some b) None e = absurd (false≢true (ap is_some e))
begins_none (Some b) (Some a) e = inl (elim_some a b e)
  where
    elim_some : (x y : Files) → Some x ≡ Some y → x ≡ y
    elim_some x y same = ap (λ (o : Option Files). unwrap_or o x) same

pub same_below : (before after : Option Files) (file next : ℕ) → DiffersAt before after file → is_some after ≡ is_some before → next ≤ file → SameBelow next before after
same_below None None file next h tells above q lt = refl
same_below None (Some a) file next h tells above q lt = absurd (true≢false tells)
same_below (Some b) None file next h tells above q lt = absurd h
same_below (Some b) (Some a) file next h tells above q lt = h.1 q (λ e. absurd (omega (arith, e)))

-- after a file's removal, or its refusal, each other file is as before
pub removal_same : {E : Type 0} (before after : Option Files) (file : ℕ) (answer : Result (Unit {0}) E) (other : ℕ) → is_some after ≡ is_some before → OnOk answer (Removes before after file) → OnErr answer (after ≡ before) → (other ≡ file → ⊥) → file_at after other ≡ file_at before other
removal_same before after file (Err e) other tells ok err apart = ap (λ (f : Option Files). file_at f other) err
removal_same None None file (Ok u) other tells ok err apart = refl
removal_same None (Some a) file (Ok u) other tells ok err apart = absurd (true≢false tells)
removal_same (Some b) None file (Ok u) other tells ok err apart = absurd ok
removal_same (Some b) (Some a) file (Ok u) other tells ok err apart =
    ap (λ (f : Files). map.get f other) ok ∙ taken_other b file other apart
