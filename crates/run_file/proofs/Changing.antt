-- What a call on one disk of a shelf changes: one file, under each number that names the disk.
use Rattle.std.proofs.Common.{◌≡◌, ℕ, cond, eqb, List, [], ◌++◌, Option, Some, None, Ok, Err, refl, sym, ap, subst, ◌∙◌, inl, inr}
use Rattle.std.specs.Prelude.{is_some, Result, OnOk, OnErr}
use Rattle.std.specs.Cmp.{unsigned_tied}
use Rattle.std.specs.FinMap as map
use Rattle.std.specs.FinMap.{get-insert, get-remove}
use Rattle.std.specs.Option.{option_and_then}
use Rattle.std.proofs.lemmas.Cmp.{nat_cmp_total}
use Rattle.std.proofs.lemmas.Bool.{eq-eqb, true≢false}
use Rattle.std.proofs.lemmas.Bool.Decides.{eqb_tells}
use Rattle.spill_disk.specs.Files.{Files, bytes_of, Creates, Appends, AppendsPart, Removes}
use Rattle.run_file.specs.Shelved.{file_in, IsNotThere, IsNotThereOn, SameBut}

get_put : (m : Files) (k : ℕ) (v : List ℕ) (q : ℕ) → map.get (map.insert m k v) q ≡ cond (eqb q k) (Some v) (map.get m q)
get_put m k v q = get-insert nat_cmp_total m k v q ∙ ap (λ b. cond b (Some v) (map.get m q)) (unsigned_tied q k)

get_cut : (m : Files) (k q : ℕ) → map.get (map.remove m k) q ≡ cond (eqb q k) None (map.get m q)
get_cut m k q = get-remove nat_cmp_total m k q ∙ ap (λ b. cond b None (map.get m q)) (unsigned_tied q k)

-- another file than the one that was put is as before
put_other : (m : Files) (k : ℕ) (v : List ℕ) (q : ℕ) → (q ≡ k → ⊥) → map.get (map.insert m k v) q ≡ map.get m q
put_other m k v q apart = elim (eqb_tells q k) [
  | inl same ↦ absurd (apart same.1)
  | inr differs ↦ get_put m k v q ∙ ap (λ b. cond b (Some v) (map.get m q)) differs.0
]

cut_other : (m : Files) (k q : ℕ) → (q ≡ k → ⊥) → map.get (map.remove m k) q ≡ map.get m q
cut_other m k q apart = elim (eqb_tells q k) [
  | inl same ↦ absurd (apart same.1)
  | inr differs ↦ get_cut m k q ∙ ap (λ b. cond b None (map.get m q)) differs.0
]

pub made_other : (before after : Option Files) (file q : ℕ) → Creates before after file → is_some after ≡ is_some before → (q ≡ file → ⊥) → file_in after q ≡ file_in before q
made_other None None file q made tells apart = refl
made_other None (Some a) file q made tells apart = absurd (true≢false tells)
made_other (Some b) None file q made tells apart = absurd made
made_other (Some b) (Some a) file q made tells apart = ap Some (ap (λ (m : Files). map.get m q) made.1 ∙ put_other b file [] q apart)

pub made_fresh : (before after : Option Files) (file : ℕ) → Creates before after file → IsNotThere before file
made_fresh None after file made = tt
made_fresh (Some b) None file made = absurd made
made_fresh (Some b) (Some a) file made = made.0

pub grown_other : (before after : Option Files) (file q : ℕ) (bytes : List ℕ) → Appends before after file bytes → is_some after ≡ is_some before → (q ≡ file → ⊥) → file_in after q ≡ file_in before q
grown_other None None file q bytes grown tells apart = refl
grown_other None (Some a) file q bytes grown tells apart = absurd (true≢false tells)
grown_other (Some b) None file q bytes grown tells apart = absurd grown
grown_other (Some b) (Some a) file q bytes grown tells apart =
    ap Some (ap (λ (m : Files). map.get m q) grown ∙ put_other b file (bytes_of b file ++ bytes) q apart)

-- and so where only a part was put
pub put_some_other : {T E : Type 0} (r : Result T E) (before after : Option Files) (file q : ℕ) (bytes : List ℕ) → OnOk r (Appends before after file bytes) → OnErr r (AppendsPart before after file bytes) → is_some after ≡ is_some before → (q ≡ file → ⊥) → file_in after q ≡ file_in before q
put_some_other (Ok x) before after file q bytes whole part tells apart = grown_other before after file q bytes whole tells apart
put_some_other (Err e) before after file q bytes whole part tells apart = grown_other before after file q part.0 part.3 tells apart

pub removed_other : (before after : Option Files) (file q : ℕ) → Removes before after file → is_some after ≡ is_some before → (q ≡ file → ⊥) → file_in after q ≡ file_in before q
removed_other None None file q removed tells apart = refl
removed_other None (Some a) file q removed tells apart = absurd (true≢false tells)
removed_other (Some b) None file q removed tells apart = absurd removed
removed_other (Some b) (Some a) file q removed tells apart = ap Some (ap (λ (m : Files). map.get m q) removed ∙ cut_other b file q apart)

pub removed_gone : (before after : Option Files) (file : ℕ) → Removes before after file → is_some after ≡ is_some before → IsNotThere after file
removed_gone before None file removed tells = tt
removed_gone None (Some a) file removed tells = absurd (true≢false tells)
removed_gone (Some b) (Some a) file removed tells =
    ap (λ (m : Files). map.get m file) removed ∙ get_cut b file file ∙ ap (λ c. cond c None (map.get b file)) (eq-eqb file file refl)

-- one disk of a shelf was changed: which numbers name it, and what they name then
pub record IsChanged {D : Type 0} (named : ℕ → ℕ) (before after : ℕ → Option D) (i : ℕ) (old new : D) : Type 0 where
  pub was : (j : ℕ) → named j ≡ named i → before j ≡ Some old
  pub is : (j : ℕ) → named j ≡ named i → after j ≡ Some new
  pub others : (j : ℕ) → (named j ≡ named i → ⊥) → after j ≡ before j

-- a change of one file of one disk
pub same_but : {D : Type 0} (named : ℕ → ℕ) (before after : ℕ → Option D) (files : D → Option Files) (i file : ℕ) (old new : D) → IsChanged named before after i old new → ((q : ℕ) → (q ≡ file → ⊥) → file_in (files new) q ≡ file_in (files old) q)
    → SameBut named (λ j. option_and_then files (before j)) (λ j. option_and_then files (after j)) i file
same_but named before after files i file old new changed other j q apart = elim (eqb_tells (named j) (named i)) [
  | inl same ↦
      let from = ap (λ o. file_in (option_and_then files o) q) (changed.was j same.1) in
      let to = ap (λ o. file_in (option_and_then files o) q) (changed.is j same.1) in
      to ∙ other q (λ e. apart (same.1, e)) ∙ sym from
  | inr differs ↦ ap (λ o. file_in (option_and_then files o) q) (changed.others j differs.1)
]

-- a file that the changed disk doesn't have is there under none of its numbers
pub gone_on : {D : Type 0} (named : ℕ → ℕ) (before after : ℕ → Option D) (files : D → Option Files) (i file : ℕ) (old new : D) → IsChanged named before after i old new → IsNotThere (files new) file → IsNotThereOn named (λ j. option_and_then files (after j)) i file
gone_on named before after files i file old new changed gone j same =
    subst (λ o. IsNotThere (option_and_then files o) file) (sym (changed.is j same)) gone
