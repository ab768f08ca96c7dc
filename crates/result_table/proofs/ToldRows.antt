-- Entries that are told one after the other: those so far, those that are ahead, and where telling stops.
use Rattle.std.proofs.Common.{◌≡◌, ◌≤◌, ◌+◌, ◌++◌, ℕ, Bool, true, false, List, [], ◌∷◌, Option, Ok, length, map, sym, ap, subst, ◌∙◌, refl, append_assoc, length-append, arith}
use Rattle.std.specs.List.{All}
use Rattle.std.proofs.lemmas.List.{append-nil, map-append}
use Rattle.std.proofs.lemmas.List.Elements.{All-append, All-cons, All-head, All-nil, All-tail}
use Rattle.csv.specs.Writing.{default_writer, row_text}
use Rattle.aggregate.specs.Rows.{entries_of}
use Rattle.aggregate.specs.Totals.{Entry}
use Rattle.spill_disk.specs.Files.{Files}
use Rattle.job_text.specs.declared.job.Shape.{Shape}
use Rattle.job_plan.specs.Telling.{IsTold, row_of}
use Rattle.run_file.specs.AtEntries.{entry_at}
use Rattle.run_file.specs.Readers.{ReaderView}
use Rattle.result_table.specs.Ahead.{AreAhead, ReadsOn, GoesTo}
use Rattle.result_table.specs.Table.{table}
use Rattle.result_table.specs.Told.{AreFirst, IsUntoldBehind, StopsBehind, TellsEntries, rows_told}
use Rattle.result_table.proofs.Blocks.{table-append}

pub rows_told-append : (shape : Shape) (xs ys : List Entry) → rows_told shape (xs ++ ys) ≡ rows_told shape xs ++ rows_told shape ys
rows_told-append shape xs ys = ap table (map-append (row_of shape) xs ys) ∙ table-append (map (row_of shape) xs) (map (row_of shape) ys)

-- the entries so far, and one more
pub one_more : (shape : Shape) (told : List Entry) (entry : Entry) → All (IsTold shape) told → IsTold shape entry → All (IsTold shape) (told ++ entry ∷ [])
one_more shape told entry all can = All-append (IsTold shape) told (entry ∷ []) all (All-cons (IsTold shape) entry [] can (All-nil (IsTold shape)))

-- nothing was read yet
pub tells_none : (shape : Shape) (files : Option Files) (reader : ReaderView) → TellsEntries shape files files reader reader []
tells_none shape files reader = record {
  can = All-nil (IsTold shape);
  counted = omega arith;
  behind = λ entries ahead. record { rest = entries; are = refl; ahead = ahead };
}

-- where a reader goes on, whichever entries are ahead of it
abbrev pub Goes : Option Files → Option Files → ReaderView → ReaderView → Bool → Type 0
Goes was now before after more = (entries : List Entry) → AreAhead was before entries → GoesTo now after entries (Ok more)

-- one entry more
pub tells_next : (shape : Shape) (was middle now : Option Files) (before between after : ReaderView) (told : List Entry) → TellsEntries shape was middle before between told
    → Goes middle now between after true → after.found ≡ between.found + 1 → IsTold shape (entry_at after)
    → TellsEntries shape was now before after (told ++ entry_at after ∷ [])
tells_next shape was middle now before between after told h goes one can = record {
  can = one_more shape told (entry_at after) h.can can;
  counted = omega (arith, h.counted, one, length-append told (entry_at after ∷ []));
  behind = λ entries ahead.
      let first = h.behind entries ahead in
      by_rest entries first.rest first.are (goes first.rest first.ahead);
}
  where
    by_rest : (entries rest : List Entry) → entries ≡ told ++ rest → GoesTo now after rest (Ok true) → AreFirst (told ++ entry_at after ∷ []) now after entries
    by_rest entries [] are goes = absurd goes
    by_rest entries (entry ∷ rest) are goes = record {
      rest = rest;
      are = are ∙ ap (λ (e : Entry). told ++ e ∷ rest) (sym goes.0) ∙ sym (append_assoc told (entry_at after ∷ []) rest);
      ahead = goes.1;
    }

-- where it took none, the same were told
pub tells_same : (shape : Shape) (was middle now : Option Files) (before between after : ReaderView) (told : List Entry) → TellsEntries shape was middle before between told
    → after ≡ between → now ≡ middle → TellsEntries shape was now before after told
tells_same shape was middle now before between after told h stays same = record {
  can = h.can;
  counted = h.counted ∙ ap (λ (reader : ReaderView). reader.found) (sym stays);
  behind = λ entries ahead.
      let first = h.behind entries ahead in
      record {
        rest = first.rest;
        are = first.are;
        ahead = rw (stays, same) first.ahead;
      };
}

-- more entries behind those so far
pub tells_trans : (shape : Shape) (was middle now : Option Files) (before between after : ReaderView) (told more : List Entry)
    → TellsEntries shape was middle before between told → TellsEntries shape middle now between after more → TellsEntries shape was now before after (told ++ more)
tells_trans shape was middle now before between after told more h next = record {
  can = All-append (IsTold shape) told more h.can next.can;
  counted = omega (arith, h.counted, next.counted, length-append told more);
  behind = λ entries ahead.
      let first = h.behind entries ahead in
      let second = next.behind first.rest first.ahead in
      record {
        rest = second.rest;
        are = first.are ∙ ap (λ (es : List Entry). told ++ es) second.are ∙ sym (append_assoc told more second.rest);
        ahead = second.ahead;
      };
}

-- ---- where telling stops
-- an entry that can't be told, behind those so far
pub stops_untold : (shape : Shape) (was middle now : Option Files) (before between after : ReaderView) (found : ℕ) (told : List Entry) → TellsEntries shape was middle before between told
    → Goes middle now between after true → found ≡ between.found → (IsTold shape (entry_at after) → ⊥) → StopsBehind shape was before found told
stops_untold shape was middle now before between after found told h goes same untold = record {
  can = h.can;
  counted = h.counted ∙ sym same;
  untold = λ entries ahead.
      let first = h.behind entries ahead in
      by_rest entries first.rest first.are (goes first.rest first.ahead);
}
  where
    by_rest : (entries rest : List Entry) → entries ≡ told ++ rest → GoesTo now after rest (Ok true) → IsUntoldBehind shape told entries
    by_rest entries [] are goes = absurd goes
    by_rest entries (entry ∷ rest) are goes =
        record { entry = entry; rest = rest; are = are; untold = λ can. untold (subst (IsTold shape) (sym goes.0) can) }

-- those so far stand before where it stops
pub stops_later : (shape : Shape) (was middle : Option Files) (before between : ReaderView) (found : ℕ) (told more : List Entry)
    → TellsEntries shape was middle before between told → StopsBehind shape middle between found more → StopsBehind shape was before found (told ++ more)
stops_later shape was middle before between found told more h stop = record {
  can = All-append (IsTold shape) told more h.can stop.can;
  counted = omega (arith, h.counted, stop.counted, length-append told more);
  untold = λ entries ahead.
      let first = h.behind entries ahead in
      let at = stop.untold first.rest first.ahead in
      record {
        entry = at.entry;
        rest = at.rest;
        are = first.are ∙ ap (λ (es : List Entry). told ++ es) at.are ∙ sym (append_assoc told more (at.entry ∷ at.rest));
        untold = at.untold;
      };
}

-- an entry that stands among some others is told where all are
pub told_among : (shape : Shape) (front : List Entry) (entry : Entry) (behind : List Entry) → All (IsTold shape) (front ++ entry ∷ behind) → IsTold shape entry
told_among shape [] entry behind all = All-head (IsTold shape) entry behind all
told_among shape (first ∷ front) entry behind all = told_among shape front entry behind (All-tail (IsTold shape) first (front ++ entry ∷ behind) all)

-- ---- all entries
none_ahead : (files : Option Files) (reader : ReaderView) (entries : List Entry) → reader.found ≡ reader.run.count → AreAhead files reader entries → entries ≡ []
none_ahead files reader entries whole h = h.are ∙ by_rows h.rows (omega (arith, whole, h.ahead.count))
  where
    by_rows : (rows : List (List (List ℕ))) → length rows ≡ 0 → entries_of rows ≡ []
    by_rows [] none = refl
    by_rows (row ∷ rows) none = absurd (omega (arith, none))

-- where a reader gave all entries of its run, those that were told are all
pub all_told : (shape : Shape) (was now : Option Files) (before after : ReaderView) (entries told : List Entry) → TellsEntries shape was now before after told
    → after.found ≡ after.run.count → AreAhead was before entries → entries ≡ told
all_told shape was now before after entries told h whole ahead =
    let first = h.behind entries ahead in
    first.are ∙ ap (λ (es : List Entry). told ++ es) (none_ahead now after first.rest whole first.ahead) ∙ append-nil told

-- what was given is among the run's entries
pub few_left : (before after : ReaderView) (more : Bool) → (more ≡ false → after.found ≡ before.run.count) → (more ≡ true → ReadsOn before after) → after.found ≤ before.run.count
few_left before after true whole on = (on refl).1
few_left before after false whole on = omega (arith, whole refl)

-- ---- rows: the text so far, and one row more
pub row_laid : (shape : Shape) (start middle text : List ℕ) (told : List Entry) (entry : Entry) → middle ≡ start ++ rows_told shape told
    → text ≡ middle ++ row_text default_writer (row_of shape entry) → text ≡ start ++ rows_told shape (told ++ entry ∷ [])
row_laid shape start middle text told entry laid more =
    more ∙ ap (λ (t : List ℕ). t ++ row_text default_writer (row_of shape entry)) laid
    ∙ append_assoc start (rows_told shape told) (row_text default_writer (row_of shape entry))
    ∙ ap (λ (t : List ℕ). start ++ (rows_told shape told ++ t)) (sym (append-nil (row_text default_writer (row_of shape entry))))
    ∙ ap (λ (t : List ℕ). start ++ t) (sym (rows_told-append shape told (entry ∷ [])))

-- ---- blocks: what was written, and the text that is written next
pub joined_next : (shape : Shape) (done text start : List ℕ) (told more : List Entry) (filled : List ℕ) → done ++ text ≡ start ++ rows_told shape told
    → filled ≡ text ++ rows_told shape more → done ++ filled ≡ start ++ rows_told shape (told ++ more)
joined_next shape done text start told more filled joined fills =
    ap (λ (t : List ℕ). done ++ t) fills ∙ sym (append_assoc done text (rows_told shape more)) ∙ ap (λ (t : List ℕ). t ++ rows_told shape more) joined
    ∙ append_assoc start (rows_told shape told) (rows_told shape more) ∙ ap (λ (t : List ℕ). start ++ t) (sym (rows_told-append shape told more))
