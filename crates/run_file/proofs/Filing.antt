-- A run's file as the disk's calls change it.
use Rattle.std.proofs.Common.{◌≡◌, ℕ, cond, eqb, List, [], ◌++◌, Option, Some, None, refl, sym, ap, ◌∙◌, inl, inr}
use Rattle.std.specs.Prelude.{IsSome, is_some, unwrap_or}
use Rattle.std.specs.Cmp.{unsigned_tied}
use Rattle.std.specs.FinMap as map
use Rattle.std.specs.FinMap.{nat_cmp-IsAntisymmetric, get-insert, same_map}
use Rattle.std.proofs.lemmas.Cmp.{nat_cmp_total}
use Rattle.std.proofs.lemmas.Bool.{eq-eqb, false≢true, true≢false}
use Rattle.std.proofs.lemmas.Bool.Decides.{eqb_tells}
use Rattle.std.proofs.lemmas.List.{append-nil}
use Rattle.row_page.specs.Grammar.{IsPage}
use Rattle.spill_disk.specs.Files.{Files, bytes_of, IsThere, Creates, Appends, AppendsPart}
use Rattle.run_file.specs.Runs.{IsFileOf}
use Rattle.run_file.proofs.Writing.{is_page-append}

get_put : (m : Files) (k : ℕ) (v : List ℕ) (q : ℕ) → map.get (map.insert m k v) q ≡ cond (eqb q k) (Some v) (map.get m q)
get_put m k v q = get-insert nat_cmp_total m k v q ∙ ap (λ b. cond b (Some v) (map.get m q)) (unsigned_tied q k)

bytes_put : (m : Files) (k : ℕ) (v : List ℕ) → bytes_of (map.insert m k v) k ≡ v
bytes_put m k v =
    ap (λ o. unwrap_or o []) (get_put m k v k ∙ ap (λ b. cond b (Some v) (map.get m k)) (eq-eqb k k refl))

own_bytes : (o : Option (List ℕ)) → IsSome o → Some (unwrap_or o []) ≡ o
own_bytes (Some v) there = refl
own_bytes None there = absurd (false≢true there)

-- to put a file's own bytes is to change nothing
put_again : (m : Files) (k : ℕ) → IsSome (map.get m k) → m ≡ map.insert m k (bytes_of m k)
put_again m k there =
    same_map nat_cmp_total nat_cmp-IsAntisymmetric m (map.insert m k (bytes_of m k)) (λ q. elim (eqb_tells q k) [
      | inl same ↦ ap (map.get m) same.1 ∙ sym (own_bytes (map.get m k) there) ∙ sym (get_put m k (bytes_of m k) q ∙ ap (λ b. cond b (Some (bytes_of m k)) (map.get m q)) same.0)
      | inr differs ↦ sym (get_put m k (bytes_of m k) q ∙ ap (λ b. cond b (Some (bytes_of m k)) (map.get m q)) differs.0)
    ])

-- nothing was added
pub nothing_appended : (m : Option Files) (file : ℕ) (bytes : List ℕ) → IsThere m file → AppendsPart m m file bytes
nothing_appended None file bytes there = ([], bytes, refl, tt)
nothing_appended (Some m) file bytes there =
    ([], bytes, refl, put_again m file there ∙ ap (map.insert m file) (sym (append-nil (bytes_of m file))))

-- a file that was made has no rows
pub empty_file : (before after : Option Files) (file : ℕ) → Creates before after file → is_some after ≡ is_some before → IsFileOf after file []
empty_file None None file made tells = tt
empty_file None (Some a) file made tells = absurd (true≢false tells)
empty_file (Some b) None file made tells = tt
empty_file (Some b) (Some a) file made tells = ap (λ (f : Files). bytes_of f file) made.1 ∙ bytes_put b file []

-- a file after a page was put behind its rows
pub longer_file : (before after : Option Files) (file : ℕ) (bytes : List ℕ) (rows more : List (List (List ℕ))) → Appends before after file bytes → is_some after ≡ is_some before → IsPage bytes more → IsFileOf before file rows → IsFileOf after file (rows ++ more)
longer_file None None file bytes rows more grown tells page h = tt
longer_file None (Some a) file bytes rows more grown tells page h = absurd (true≢false tells)
longer_file (Some b) None file bytes rows more grown tells page h = tt
longer_file (Some b) (Some a) file bytes rows more grown tells page h =
    let content : bytes_of a file ≡ bytes_of b file ++ bytes = ap (λ (f : Files). bytes_of f file) grown ∙ bytes_put b file (bytes_of b file ++ bytes) in
    rw content (is_page-append (bytes_of b file) bytes rows more h page)
