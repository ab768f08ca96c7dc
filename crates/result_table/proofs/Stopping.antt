-- Why the printing of a table stopped, and what it had written.
use Rattle.std.proofs.Common.{◌≡◌, ◌<◌, ◌≤◌, ◌+◌, ◌-◌, ◌++◌, ℕ, Bool, true, List, [], ◌∷◌, Option, Some, Result, Ok, Err, length, sym, ap, subst, ◌∙◌, refl, append_assoc, arith}
use Rattle.std.specs.List.{All}
use Rattle.std.specs.Prelude.{OnErr, OnOk}
use Rattle.std.proofs.lemmas.List.{append-nil}
use Rattle.std.proofs.lemmas.List.Elements.{All-nil}
use Rattle.std.specs.Io.KnownBytes.{Appends}
use Rattle.byte_io.specs.Sinks.{AppendsPrefix}
use Rattle.aggregate.specs.Totals.{Entry}
use Rattle.aggregate.specs.declared.kind.Kind.{Kind}
use Rattle.spill_disk.specs.Files.{Files}
use Rattle.job_text.specs.declared.job.Shape.{Shape}
use Rattle.job_plan.specs.Telling.{IsTold}
use Rattle.run_file.specs.AtEntries.{entry_at}
use Rattle.run_file.specs.Causes.{damage_in}
use Rattle.run_file.specs.Readers.{ReaderView}
use Rattle.run_file.specs.Reading.{TellsPlace}
use Rattle.run_file.specs.Several.{HasEntries}
use Rattle.run_file.specs.declared.run.Damage.{Damage}
use Rattle.run_file.specs.declared.run.Run.{Run}
use Rattle.run_file.specs.declared.run.RunFault.{RunFault}
use Rattle.run_file.specs.declared.run.RunFault.TheVariants as run_fault
use Rattle.result_table.specs.Ahead.{AreAhead, BeginsWith, GoesTo}
use Rattle.result_table.specs.Faults.{HasCauseWritten, TellsRun, fault_of}
use Rattle.result_table.specs.Results.{FindsNoDamage, HasResult, StopsAmong}
use Rattle.result_table.specs.Told.{HasFound, StopsIn, TellsEntries, WritesFront, rows_told}
use Rattle.result_table.specs.declared.print_fault.PrintFault.{PrintFault}
use Rattle.result_table.specs.declared.print_fault.PrintFault.TheVariants.{WriteFault, DiskFault, Damaged, NoMemory}
use Rattle.result_table.proofs.Blocks.{front-done, front-more, front-within}
use Rattle.result_table.proofs.ToldRows.{Goes, all_told, rows_told-append, stops_later, stops_untold, told_among}

abbrev Done : Type 0
Done = Unit {0}

-- ---- where reading or telling stopped
no_damage : (now : Option Files) (after : ReaderView) (entries : List Entry) (damage : Damage) → GoesTo now after entries (Err (run_fault.Damaged damage)) → ⊥
no_damage now after [] damage goes = goes
no_damage now after (entry ∷ entries) damage goes = goes

-- a fault of a reader behind the entries that were told
pub stops_read : (T : Type 0) (shape : Shape) (was middle now : Option Files) (before between after : ReaderView) (fault : RunFault) (told : List Entry) → TellsEntries shape was middle before between told
    → between.run ≡ before.run → ((entries : List Entry) → AreAhead middle between entries → GoesTo now after entries (Err fault))
    → TellsPlace {T = Bool} between (Err fault) → StopsIn {T = T} shape was before (Err (fault_of fault))
stops_read T shape was middle now before between after (run_fault.DiskFault disk) told h run goes place = tt
stops_read T shape was middle now before between after (run_fault.Damaged damage) told h run goes place =
    let found : damage.found ≡ between.found = ap (λ (d : Damage). d.found) place.0 in (
      place.0 ∙ rw (found, run) refl,
      omega (arith, place.1, found, ap (λ (r : Run). r.count) run),
      (
        told,
        record {
          can = h.can;
          counted = h.counted ∙ sym found;
          untold = λ entries ahead.
              let first = h.behind entries ahead in
              absurd (no_damage now after first.rest damage (goes first.rest first.ahead));
        },
      ),
    )
stops_read T shape was middle now before between after run_fault.NoMemory told h run goes place = tt

-- an entry that can't be told, behind those that were
pub stops_damage : (T : Type 0) (shape : Shape) (was middle now : Option Files) (before between after : ReaderView) (told : List Entry) → TellsEntries shape was middle before between told
    → between.run ≡ before.run → after.run ≡ between.run → Goes middle now between after true → after.found ≡ between.found + 1 → after.found ≤ between.run.count
    → (IsTold shape (entry_at after) → ⊥) → StopsIn {T = T} shape was before (Err (Damaged (damage_in after.run (after.found - 1))))
stops_damage T shape was middle now before between after told h run same goes one few untold = (
  rw (same, run) refl,
  omega (arith, one, few, ap (λ (r : Run). r.count) run),
  (told, stops_untold shape was middle now before between after (after.found - 1) told h goes (omega (arith, one)) untold),
)

-- a block that wasn't filled, behind the entries that were told
pub stops_block : (S T : Type 0) (shape : Shape) (was middle : Option Files) (before between : ReaderView) (fault : PrintFault) (told : List Entry) → TellsEntries shape was middle before between told
    → between.run ≡ before.run → StopsIn {T = S} shape middle between (Err fault) → StopsIn {T = T} shape was before (Err fault)
stops_block S T shape was middle before between WriteFault told h run stop = tt
stops_block S T shape was middle before between (DiskFault disk) told h run stop = tt
stops_block S T shape was middle before between (Damaged damage) told h run stop = (
  stop.0 ∙ rw run refl,
  omega (arith, stop.1, ap (λ (r : Run). r.count) run),
  (told ++ stop.2.0, stops_later shape was middle before between damage.found told stop.2.0 h stop.2.1),
)
stops_block S T shape was middle before between NoMemory told h run stop = tt

-- the same of another call's result
pub stops_as : (S T : Type 0) (shape : Shape) (was : Option Files) (before : ReaderView) (fault : PrintFault) → StopsIn {T = S} shape was before (Err fault) → StopsIn {T = T} shape was before (Err fault)
stops_as S T shape was before WriteFault stop = tt
stops_as S T shape was before (DiskFault disk) stop = tt
stops_as S T shape was before (Damaged damage) stop = stop
stops_as S T shape was before NoMemory stop = tt

-- a call that only writes finds nothing damaged
pub stops_written : (S T : Type 0) (shape : Shape) (was : Option Files) (before : ReaderView) (old new : ℕ) (fault : PrintFault)
    → HasCauseWritten {T = S} old new (Err fault) → StopsIn {T = T} shape was before (Err fault)
stops_written S T shape was before old new WriteFault cause = tt
stops_written S T shape was before old new (DiskFault disk) cause = tt
stops_written S T shape was before old new (Damaged damage) cause = absurd cause
stops_written S T shape was before old new NoMemory cause = tt

pub found_written : (S T : Type 0) (count old new : ℕ) (fault : PrintFault) → HasCauseWritten {T = S} old new (Err fault) → HasFound {T = T} count (Err fault)
found_written S T count old new WriteFault cause = tt
found_written S T count old new (DiskFault disk) cause = tt
found_written S T count old new (Damaged damage) cause = absurd cause
found_written S T count old new NoMemory cause = tt

-- ---- what was written by then
-- blocks were written, and the next one wasn't filled
pub front_unfilled : (S T : Type 0) (shape : Shape) (was middle : Option Files) (before between : ReaderView) (fault : PrintFault) (start done text : List ℕ) (old new : Option (List ℕ)) (told : List Entry)
    → TellsEntries shape was middle before between told → between.run ≡ before.run → between.found ≤ before.run.count → StopsIn {T = S} shape middle between (Err fault)
    → Appends old new done → done ++ text ≡ start ++ rows_told shape told
    → WritesFront {T = T} shape (AreAhead was before) before.found before.run.count start old new (Err fault)
front_unfilled S T shape was middle before between fault start done text old new told h run few stop written joined = by_fault fault stop
  where
    alone : (fault : PrintFault) → HasFound {T = T} (before.found + length told) (Err fault) → WritesFront {T = T} shape (AreAhead was before) before.found before.run.count start old new (Err fault)
    alone fault found = record {
      told = told;
      can = h.can;
      few = omega (arith, h.counted, few);
      found = found;
      first = λ entries ahead. let first = h.behind entries ahead in (first.rest, first.are);
      front = front-done old new done text _ written (sym joined);
    }

    by_fault : (fault : PrintFault) → StopsIn {T = S} shape middle between (Err fault) → WritesFront {T = T} shape (AreAhead was before) before.found before.run.count start old new (Err fault)
    by_fault WriteFault stop = alone WriteFault tt
    by_fault (DiskFault disk) stop = alone (DiskFault disk) tt
    by_fault (Damaged damage) stop =
        let more = stop.2.0 in
        let all = stops_later shape was middle before between damage.found told more h stop.2.1 in
        let less : damage.found < before.run.count = omega (arith, stop.1, ap (λ (r : Run). r.count) run) in
        record {
          told = told ++ more;
          can = all.can;
          few = omega (arith, all.counted, less);
          found = sym all.counted;
          first = λ entries ahead. let at = all.untold entries ahead in (at.entry ∷ at.rest, at.are);
          front = front-done old new done (text ++ rows_told shape more) _ written
              (ap (λ (t : List ℕ). start ++ t) (rows_told-append shape told more)
              ∙ sym (append_assoc start (rows_told shape told) (rows_told shape more))
              ∙ ap (λ (t : List ℕ). t ++ rows_told shape more) (sym joined)
              ∙ append_assoc done text (rows_told shape more));
        }
    by_fault NoMemory stop = alone NoMemory tt

-- a block was filled, and not all of it was written
pub front_unwritten : (S T : Type 0) (shape : Shape) (was now : Option Files) (before after : ReaderView) (fault : PrintFault) (start done filled : List ℕ) (old middle new : Option (List ℕ)) (faults_old faults_new : ℕ) (told : List Entry)
    → TellsEntries shape was now before after told → after.found ≤ before.run.count → HasCauseWritten {T = S} faults_old faults_new (Err fault)
    → Appends old middle done → AppendsPrefix middle new filled → done ++ filled ≡ start ++ rows_told shape told
    → WritesFront {T = T} shape (AreAhead was before) before.found before.run.count start old new (Err fault)
front_unwritten S T shape was now before after fault start done filled old middle new faults_old faults_new told h few cause written part joined = record {
  told = told;
  can = h.can;
  few = omega (arith, h.counted, few);
  found = found_written S T (before.found + length told) faults_old faults_new fault cause;
  first = λ entries ahead. let first = h.behind entries ahead in (first.rest, first.are);
  front = front-more old middle new done filled [] _ written part (sym (append-nil (done ++ filled) ∙ joined));
}

-- nothing but a front of the text was written
pub front_alone : (T : Type 0) (shape : Shape) (Has : List Entry → Type 0) (count : ℕ) (text : List ℕ) (old new : Option (List ℕ)) (fault : PrintFault)
    → AppendsPrefix old new text → HasFound {T = T} 0 (Err fault) → WritesFront {T = T} shape Has 0 count text old new (Err fault)
front_alone T shape Has count text old new fault part found = record {
  told = [];
  can = All-nil (IsTold shape);
  few = omega arith;
  found = found;
  first = λ entries has. (entries, refl);
  front = front-within old new text [] part;
}

-- ---- the answer as a whole
-- a front of some entries' rows is one of all entries'
pub front_of_all : (T : Type 0) (shape : Shape) (Has : List Entry → Type 0) (given count : ℕ) (text : List ℕ) (old new : Option (List ℕ)) (result : Result T PrintFault) (entries : List Entry)
    → WritesFront shape Has given count text old new result → Has entries → AppendsPrefix old new (text ++ rows_told shape entries)
front_of_all T shape Has given count text old new result entries h has =
    let first = h.first entries has in
    subst (λ (t : List ℕ). AppendsPrefix old new t)
    (append_assoc text (rows_told shape h.told) (rows_told shape first.0)
    ∙ ap (λ (t : List ℕ). text ++ t) (sym (rows_told-append shape h.told first.0) ∙ ap (rows_told shape) (sym first.1)))
    (front-within old new (text ++ rows_told shape h.told) (rows_told shape first.0) h.front)

pub stops_among : (shape : Shape) (was : Option Files) (before : ReaderView) (result : Result Done PrintFault) (entries : List Entry) → before.found ≡ 0
    → StopsIn shape was before result → AreAhead was before entries → StopsAmong shape entries result
stops_among shape was before (Ok x) entries none stop ahead = tt
stops_among shape was before (Err WriteFault) entries none stop ahead = tt
stops_among shape was before (Err (DiskFault disk)) entries none stop ahead = tt
stops_among shape was before (Err (Damaged damage)) entries none stop ahead =
    let at = stop.2.1 in
    (stop.2.0, omega (arith, none, at.counted), at.can, at.untold entries ahead)
stops_among shape was before (Err NoMemory) entries none stop ahead = tt

pub undamaged_among : (shape : Shape) (result : Result Done PrintFault) (entries : List Entry) → StopsAmong shape entries result → All (IsTold shape) entries → FindsNoDamage result
undamaged_among shape (Ok x) entries stop all = tt
undamaged_among shape (Err WriteFault) entries stop all = tt
undamaged_among shape (Err (DiskFault disk)) entries stop all = tt
undamaged_among shape (Err (Damaged damage)) entries stop all =
    let at = stop.3 in
    at.untold (told_among shape stop.0 at.entry at.rest (subst (λ (es : List Entry). All (IsTold shape) es) at.are all))
undamaged_among shape (Err NoMemory) entries stop all = tt

pub tells_run : (shape : Shape) (was : Option Files) (before : ReaderView) (result : Result Done PrintFault) → StopsIn shape was before result → TellsRun before.run result
tells_run shape was before (Ok x) stop = tt
tells_run shape was before (Err WriteFault) stop = tt
tells_run shape was before (Err (DiskFault disk)) stop = tt
tells_run shape was before (Err (Damaged damage)) stop = (stop.0, stop.1)
tells_run shape was before (Err NoMemory) stop = tt

-- a call that only wrote
pub front_written : (shape : Shape) (Has : List Entry → Type 0) (count : ℕ) (text : List ℕ) (old new : Option (List ℕ)) (faults_old faults_new : ℕ) (result : Result Done PrintFault)
    → HasCauseWritten faults_old faults_new result → OnErr result (AppendsPrefix old new text) → OnErr result (WritesFront shape Has 0 count text old new result)
front_written shape Has count text old new faults_old faults_new (Ok x) cause part = tt
front_written shape Has count text old new faults_old faults_new (Err fault) cause part =
    front_alone Done shape Has count text old new fault part (found_written Done Done 0 faults_old faults_new fault cause)

pub written_alone : (shape : Shape) (old new : ℕ) (result : Result Done PrintFault) (entries : List Entry) → HasCauseWritten old new result → StopsAmong shape entries result
written_alone shape old new (Ok x) entries cause = tt
written_alone shape old new (Err WriteFault) entries cause = tt
written_alone shape old new (Err (DiskFault disk)) entries cause = tt
written_alone shape old new (Err (Damaged damage)) entries cause = absurd cause
written_alone shape old new (Err NoMemory) entries cause = tt

-- ---- a table that was printed to its end
pub rows_whole : (shape : Shape) (was now : Option Files) (before after : ReaderView) (run : Run) (text : List ℕ) (old new : Option (List ℕ)) (result : Result Done PrintFault)
    → before.run ≡ run → before.found ≡ 0 → OnOk result ((told : List Entry) × TellsEntries shape was now before after told × Appends old new (text ++ rows_told shape told))
    → OnOk result (after.found ≡ before.run.count)
    → OnOk result ((told : List Entry) × (length told ≡ run.count) × All (IsTold shape) told × Appends old new (text ++ rows_told shape told))
rows_whole shape was now before after run text old new (Ok x) same none printed whole =
    let tells = printed.1 in
    (printed.0, omega (arith, tells.counted, none, whole, ap (λ (r : Run). r.count) same), tells.can, printed.2)
rows_whole shape was now before after run text old new (Err fault) same none printed whole = tt

pub told_whole : (shape : Shape) (was now : Option Files) (before after : ReaderView) (text : List ℕ) (old new : Option (List ℕ)) (result : Result Done PrintFault)
    → after.run ≡ before.run → OnOk result ((told : List Entry) × TellsEntries shape was now before after told × Appends old new (text ++ rows_told shape told))
    → OnOk result (after.found ≡ before.run.count)
    → OnOk result ((entries : List Entry) → AreAhead was before entries → All (IsTold shape) entries × Appends old new (text ++ rows_told shape entries))
told_whole shape was now before after text old new (Ok x) same printed whole = λ entries ahead.
    let all : entries ≡ printed.0 = all_told shape was now before after entries printed.0 printed.1 (whole ∙ ap (λ (r : Run). r.count) (sym same)) ahead in
    (subst (λ (es : List Entry). All (IsTold shape) es) (sym all) printed.1.can, subst (λ (es : List Entry). Appends old new (text ++ rows_told shape es)) (sym all) printed.2)
told_whole shape was now before after text old new (Err fault) same printed whole = tt

-- a result's entries are ahead of a reader that begins with its run's
pub result_ahead : (files : ℕ → Option Files) (kind kept : Kind) (answer : Option Run) (run : Run) (reader : ReaderView) (entries : List Entry)
    → answer ≡ Some run → kept ≡ kind → reader.run ≡ run → BeginsWith kept run reader → HasResult files kind answer entries
    → AreAhead (files reader.run.disk) reader entries
result_ahead files kind kept answer run reader entries is same reads begins has =
    let stands : HasEntries (files run.disk) kind run entries = subst (λ (o : Option Run). HasResult files kind o entries) is has in
    let of_kept : HasEntries (files run.disk) kept run entries = subst (λ (k : Kind). HasEntries (files run.disk) k run entries) (sym same) stands in
    subst (λ (r : Run). AreAhead (files r.disk) reader entries) (sym reads) (begins (files run.disk) entries of_kept)

-- what was written of a run's entries is what was written of the result's
pub front_result : (shape : Shape) (Has Is : List Entry → Type 0) (given count : ℕ) (text : List ℕ) (old new : Option (List ℕ)) (result : Result Done PrintFault)
    → ((entries : List Entry) → Is entries → Has entries)
    → OnErr result (WritesFront shape Has given count text old new result) → OnErr result (WritesFront shape Is given count text old new result)
front_result shape Has Is given count text old new (Ok x) has front = tt
front_result shape Has Is given count text old new (Err fault) has front = record {
  told = front.told;
  can = front.can;
  few = front.few;
  found = front.found;
  first = λ entries is. front.first entries (has entries is);
  front = front.front;
}
