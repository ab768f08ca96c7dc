-- A line is read as it is spelled, and what is read is spelled so.
use Rattle.std.proofs.Common.{ℕ, ◌≡◌, ◌<◌, ◌≤◌, ◌^◌, ◌++◌, ◌∷◌, [], List, inl, inr, Some, decimal, codes, length, take, drop, true, ◌&&◌, nat_eq, nat_le, arith, rules, sym, ◌∙◌, refl, ap, subst}
use Rattle.std.specs.List.{prefix_len}
use Rattle.std.specs.Str.{bytes_eq}
use Rattle.std.proofs.lemmas.Option.{cond_some}
use Rattle.std.proofs.lemmas.List.{take-append-drop}
use Rattle.pool_ledger.specs.declared.entry.Entry.{Entry}
use Rattle.pool_ledger.specs.Sizes.{Sizes, IsInRange}
use Rattle.journal_audit.specs.declared.version.Version.{Version}
use Rattle.journal_audit.specs.declared.version.Version.TheVariants.{First, Second}
use Rattle.journal_audit.specs.Text.{field, fields_joined, entry_text, version_words, head_text, FitsIn}
use Rattle.journal_audit.specs.Fields.{split, long_at, ended}
use Rattle.journal_audit.specs.Entries.{entry_at}
use Rattle.journal_audit.specs.Reading.{is_inline, cut, cut_behind, setup_of, sizes_at, version_of, head_at, line_at, head_line_at}
use Rattle.journal_audit.specs.Lines.{IsSetup}
use Rattle.journal_audit.proofs.Wholes.{both, same_bytes}
use Rattle.journal_audit.proofs.FieldsAgain.{IsPlain, passes_append, take_front, drop_front, split_again, long_again}
use Rattle.journal_audit.proofs.FieldsTake.{bind_some, some_is, chosen, split_takes, long_takes, ended_takes}
use Rattle.journal_audit.proofs.EntriesAgain.{entry_again}
use Rattle.journal_audit.proofs.EntriesTake.{entry_takes}
use Rattle.journal_audit.proofs.Inline.{IsInline, inline_append, joined_inline, inline_number, entry_inline}

-- Cuts

-- a line without a line feed is cut off at the one behind it
pub cut_again : (line rest : List ℕ) → IsInline line → cut (line ++ (10 ∷ rest)) ≡ Some (line, rest)
unfolding cut cut_behind
cut_again line rest h =
    let len : prefix_len is_inline (line ++ (10 ∷ rest)) ≡ length line = omega (arith, passes_append is_inline line (10 ∷ rest) h) in
    rw (len, take_front line (10 ∷ rest), drop_front line (10 ∷ rest)) refl

behind_takes : (line behind : List ℕ) (p : List ℕ × List ℕ) → cut_behind line behind ≡ Some p → line ++ behind ≡ p.0 ++ (10 ∷ p.1)
unfolding cut_behind
behind_takes line [] p h = absurd (cc h)
behind_takes line (b ∷ rest) p h =
    let t = cond_some (nat_eq b 10) (line, rest) p h in
    let feed : b ≡ 10 = search (rules, arith) in
    rw feed (subst (λ (q : List ℕ × List ℕ). line ++ (10 ∷ rest) ≡ q.0 ++ (10 ∷ q.1)) t.1 refl)

pub cut_takes : (bytes : List ℕ) (p : List ℕ × List ℕ) → cut bytes ≡ Some p → bytes ≡ p.0 ++ (10 ∷ p.1)
unfolding cut
cut_takes bytes p h =
    let n = prefix_len is_inline bytes in
    sym (take-append-drop n bytes) ∙ behind_takes (take n bytes) (drop n bytes) p h

-- Entries

pub line_again : (version : Version) (entry : Entry) (rest : List ℕ) → FitsIn version entry
    → line_at version (entry_text entry ++ (10 ∷ rest)) ≡ Some (entry, rest)
unfolding line_at
line_again version entry rest h =
    rw (cut_again (entry_text entry) rest (entry_inline entry h.fits)) (rw (entry_again version entry h) refl)

pub line_takes : (version : Version) (bytes : List ℕ) (p : Entry × List ℕ) → line_at version bytes ≡ Some p
    → FitsIn version p.0 × (bytes ≡ entry_text p.0 ++ (10 ∷ p.1))
unfolding line_at
line_takes version bytes p h =
    let c = bind_some (cut bytes) _ p h in
    let e = bind_some (entry_at version c.0.0) _ p c.2 in
    let k = entry_takes version c.0.0 e.0 e.1 in
    let is : bytes ≡ entry_text e.0 ++ (10 ∷ c.0.1) = cut_takes bytes c.0 c.1 ∙ ap (λ x. x ++ (10 ∷ c.0.1)) k.1 in
    subst (λ (q : Entry × List ℕ). FitsIn version q.0 × (bytes ≡ entry_text q.0 ++ (10 ∷ q.1))) (some_is e.2) (k.0, is)

-- Setups

pub setup_again : (setup : Sizes) → IsSetup setup → setup_of setup.maximum setup.region setup.workers ≡ Some setup
unfolding setup_of
setup_again setup h =
    let fits : nat_le setup.region setup.maximum ≡ true = search (rules, arith, h.region_fits) in
    let small : nat_le setup.maximum (2 ^ 40) ≡ true = search (rules, arith, h.maximum_small) in
    let some : nat_le 1 setup.workers ≡ true = search (rules, arith, h.some_worker) in
    let few : nat_le setup.workers 16 ≡ true = search (rules, arith, h.few_workers) in
    rw fits (rw small (rw some (rw few refl)))

pub setup_takes : (maximum region workers : ℕ) (setup : Sizes) → setup_of maximum region workers ≡ Some setup
    → IsInRange maximum region workers × (record { maximum = maximum; region = region; workers = workers } ≡ setup)
unfolding setup_of
setup_takes maximum region workers setup h =
    let t = cond_some ((nat_le region maximum && nat_le maximum (2 ^ 40)) && (nat_le 1 workers && nat_le workers 16))
    (record { maximum = maximum; region = region; workers = workers }) setup h in
    let two = both (nat_le region maximum && nat_le maximum (2 ^ 40)) (nat_le 1 workers && nat_le workers 16) t.0 in
    let sizes = both (nat_le region maximum) (nat_le maximum (2 ^ 40)) two.0 in
    let counts = both (nat_le 1 workers) (nat_le workers 16) two.1 in
    let fits : region ≤ maximum = search (rules, arith, sizes.0) in
    let small : maximum ≤ 2 ^ 40 = search (rules, arith, sizes.1) in
    let some : 1 ≤ workers = search (rules, arith, counts.0) in
    let few : workers ≤ 16 = search (rules, arith, counts.1) in
    (record { region_fits = fits; maximum_small = small; some_worker = some; few_workers = few }, t.1)

sizes_again : (setup : Sizes) → IsSetup setup
    → sizes_at (fields_joined (decimal setup.maximum ∷ decimal setup.region ∷ decimal setup.workers ∷ [])) ≡ Some setup
unfolding sizes_at ended
sizes_again setup h =
    let behind = fields_joined (decimal setup.region ∷ decimal setup.workers ∷ []) in
    let last = fields_joined (decimal setup.workers ∷ []) in
    let small : setup.maximum < 2 ^ 64 = omega (arith, h.maximum_small) in
    let in_it : setup.region < 2 ^ 64 = omega (arith, h.region_fits, h.maximum_small) in
    let few : setup.workers < 2 ^ 64 = omega (arith, h.few_workers) in
    rw (long_again setup.maximum behind small refl) (rw (long_again setup.region last in_it refl)
    (rw (long_again setup.workers [] few refl) (rw (setup_again setup h) refl)))

sizes_takes : (bytes : List ℕ) (setup : Sizes) → sizes_at bytes ≡ Some setup
    → IsSetup setup × (bytes ≡ fields_joined (decimal setup.maximum ∷ decimal setup.region ∷ decimal setup.workers ∷ []))
unfolding sizes_at
sizes_takes bytes setup h =
    let maximum = bind_some (long_at bytes) _ setup h in
    let region = bind_some (long_at maximum.0.1) _ setup maximum.2 in
    let workers = bind_some (long_at region.0.1) _ setup region.2 in
    let found = bind_some (setup_of maximum.0.0 region.0.0 workers.0.0) _ setup workers.2 in
    let done = ended_takes _ setup workers.0.1 found.2 in
    let is_maximum = long_takes bytes maximum.0 maximum.1 in
    let is_region = long_takes maximum.0.1 region.0 region.1 in
    let is_workers = long_takes region.0.1 workers.0 workers.1 in
    let is_setup = setup_takes maximum.0.0 region.0.0 workers.0.0 found.0 found.1 in
    let from_workers : region.0.1 ≡ fields_joined (decimal workers.0.0 ∷ []) = is_workers.1 ∙ ap (λ x. field (decimal workers.0.0) ++ x) done.0 in
    let from_region : maximum.0.1 ≡ fields_joined (decimal region.0.0 ∷ decimal workers.0.0 ∷ []) = is_region.1 ∙ ap (λ x. field (decimal region.0.0) ++ x) from_workers in
    let from_maximum : bytes ≡ fields_joined (decimal maximum.0.0 ∷ decimal region.0.0 ∷ decimal workers.0.0 ∷ []) =
    is_maximum.1 ∙ ap (λ x. field (decimal maximum.0.0) ++ x) from_region in
    subst (λ (s : Sizes). IsSetup s × (bytes ≡ fields_joined (decimal s.maximum ∷ decimal s.region ∷ decimal s.workers ∷ [])))
    (is_setup.1 ∙ done.1) (is_setup.0, from_maximum)

-- Versions

version_again : (version : Version) → version_of (version_words version) ≡ Some version
unfolding version_of
version_again First = refl
version_again Second = refl

version_takes : (words : List ℕ) (version : Version) → version_of words ≡ Some version → words ≡ version_words version
unfolding version_of
version_takes words version h = elim (chosen (bytes_eq words (codes "memory journal 1")) _ _ (Some version) h) [
  | inl t ↦ same_bytes words (codes "memory journal 1") t.0 ∙ ap version_words (some_is t.1)
  | inr t ↦
      let u = cond_some (bytes_eq words (codes "memory journal 2")) Second version t.1 in
      same_bytes words (codes "memory journal 2") u.0 ∙ ap version_words u.1
]

version_plain : (version : Version) → IsPlain (version_words version)
version_plain First = refl
version_plain Second = refl

version_inline : (version : Version) → IsInline (version_words version)
version_inline First = refl
version_inline Second = refl

-- First lines

-- the fields behind the words of a first line
abbrev sizes_text : Sizes → List ℕ
sizes_text setup = fields_joined (decimal setup.maximum ∷ decimal setup.region ∷ decimal setup.workers ∷ [])

head_again : (version : Version) (setup : Sizes) → IsSetup setup → head_at (head_text version setup) ≡ Some (version, setup)
unfolding head_at
head_again version setup h =
    rw (split_again (version_words version) (sizes_text setup) (version_plain version) refl)
    (rw (version_again version) (rw (sizes_again setup h) refl))

head_takes : (bytes : List ℕ) (p : Version × Sizes) → head_at bytes ≡ Some p → IsSetup p.1 × (bytes ≡ head_text p.0 p.1)
unfolding head_at
head_takes bytes p h =
    let version = bind_some (version_of (split bytes).0) _ p h in
    let setup = bind_some (sizes_at (split bytes).1) _ p version.2 in
    let sizes = sizes_takes (split bytes).1 setup.0 setup.1 in
    let is : bytes ≡ head_text version.0 setup.0 =
    split_takes bytes ∙ ap (λ x. x ++ (split bytes).1) (version_takes (split bytes).0 version.0 version.1)
    ∙ ap (λ x. version_words version.0 ++ x) sizes.1 in
    subst (λ (q : Version × Sizes). IsSetup q.1 × (bytes ≡ head_text q.0 q.1)) (some_is setup.2) (sizes.0, is)

head_inline : (version : Version) (setup : Sizes) → IsSetup setup → IsInline (head_text version setup)
head_inline version setup h =
    let small : setup.maximum < 2 ^ 64 = omega (arith, h.maximum_small) in
    let in_it : setup.region < 2 ^ 64 = omega (arith, h.region_fits, h.maximum_small) in
    let few : setup.workers < 2 ^ 64 = omega (arith, h.few_workers) in
    let texts : List (List ℕ) = decimal setup.maximum ∷ decimal setup.region ∷ decimal setup.workers ∷ [] in
    inline_append (version_words version) (fields_joined texts) (version_inline version) (joined_inline texts
    (inline_number setup.maximum small, (inline_number setup.region in_it, (inline_number setup.workers few, tt))))

pub head_line_again : (version : Version) (setup : Sizes) (rest : List ℕ) → IsSetup setup
    → head_line_at (head_text version setup ++ (10 ∷ rest)) ≡ Some (version, setup, rest)
unfolding head_line_at
head_line_again version setup rest h =
    rw (cut_again (head_text version setup) rest (head_inline version setup h)) (rw (head_again version setup h) refl)

pub head_line_takes : (bytes : List ℕ) (p : Version × Sizes × List ℕ) → head_line_at bytes ≡ Some p
    → IsSetup p.1 × (bytes ≡ head_text p.0 p.1 ++ (10 ∷ p.2))
unfolding head_line_at
head_line_takes bytes p h =
    let c = bind_some (cut bytes) _ p h in
    let e = bind_some (head_at c.0.0) _ p c.2 in
    let k = head_takes c.0.0 e.0 e.1 in
    let is : bytes ≡ head_text e.0.0 e.0.1 ++ (10 ∷ c.0.1) = cut_takes bytes c.0 c.1 ∙ ap (λ x. x ++ (10 ∷ c.0.1)) k.1 in
    subst (λ (q : Version × Sizes × List ℕ). IsSetup q.1 × (bytes ≡ head_text q.0 q.1 ++ (10 ∷ q.2))) (some_is e.2) (k.0, is)
