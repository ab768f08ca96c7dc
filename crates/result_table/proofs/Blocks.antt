-- A table is written block by block, and what was written is always a front of it.
use Rattle.std.proofs.Common.{◌≡◌, ◌++◌, ◌∙◌, [], refl, ℕ, List, None, Option, Some, length, take, drop, sym, ap, subst, append_assoc, take-append-drop}
use Rattle.std.proofs.lemmas.List.{append-nil}
use Rattle.std.proofs.lemmas.Grind.{flat_map-append}
use Rattle.std.proofs.KnownBytes.{Appends-trans}
use Rattle.std.proofs.Math.Seq.{take-append_seam}
use Rattle.std.specs.Io.KnownBytes.{Appends}
use Rattle.byte_io.specs.Sinks.{AppendsPrefix}
use Rattle.csv.specs.Writing.{default_writer, row_text}
use Rattle.result_table.specs.Table.{table}

pub table-append : (xs ys : List (List (List ℕ))) → table (xs ++ ys) ≡ table xs ++ table ys
table-append xs ys = flat_map-append (row_text default_writer) xs ys

-- what was written is a front of the whole
pub front-done : (a b : Option (List ℕ)) (done rest whole : List ℕ) → Appends a b done → whole ≡ done ++ rest → AppendsPrefix a b whole
front-done a b done rest whole first e =
    let front : take (length done) whole ≡ done = ap (take (length done)) e ∙ take-append_seam done rest in
    (length done, subst (Appends a b) (sym front) first)

-- what was written and a front of the next block are a front of the whole
pub front-more : (a b c : Option (List ℕ)) (done piece rest whole : List ℕ) → Appends a b done → AppendsPrefix b c piece
    → whole ≡ (done ++ piece) ++ rest → AppendsPrefix a c whole
front-more a b c done piece rest whole first second e =
    let cut : whole ≡ (done ++ take second.0 piece) ++ (drop second.0 piece ++ rest) =
    e ∙ ap (λ (p : List ℕ). (done ++ p) ++ rest) (sym (take-append-drop second.0 piece))
    ∙ ap (λ (p : List ℕ). p ++ rest) (sym (append_assoc done (take second.0 piece) (drop second.0 piece)))
    ∙ append_assoc (done ++ take second.0 piece) (drop second.0 piece) rest in
    front-done a c (done ++ take second.0 piece) (drop second.0 piece ++ rest) whole (Appends-trans a b c done (take second.0 piece) first second.1) cut

-- a front of a piece is a front of what begins with it
pub front-within : (a b : Option (List ℕ)) (piece rest : List ℕ) → AppendsPrefix a b piece → AppendsPrefix a b (piece ++ rest)
front-within a b piece rest first =
    front-done a b (take first.0 piece) (drop first.0 piece ++ rest) (piece ++ rest) first.1
    (ap (λ (p : List ℕ). p ++ rest) (sym (take-append-drop first.0 piece)) ∙ append_assoc (take first.0 piece) (drop first.0 piece) rest)

-- where nothing was written, that is a front of all
pub appends_none : (a : Option (List ℕ)) → Appends a a []
appends_none None = tt
appends_none (Some bytes) = sym (append-nil bytes)

pub front-none : (a : Option (List ℕ)) (whole : List ℕ) → AppendsPrefix a a whole
front-none a whole = front-done a a [] whole whole (appends_none a) refl
