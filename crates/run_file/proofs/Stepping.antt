-- A reader's step: rows that are ahead are given, one by one, and no damage is told of them.
use Rattle.std.proofs.Common.{◌≡◌, ℕ, ◌+◌, ◌<◌, Bool, true, false, List, [], ◌∷◌, ◌++◌, take, drop, Option, Some, None, Result, Ok, Err, refl, sym, ap, subst, ◌∙◌, arith}
use Rattle.std.specs.Prelude.{IfSome, OnOk, OnErr, IfErr}
use Rattle.std.proofs.lemmas.List.{drop-drop, take_at, drop_at}
use Rattle.row_page.proofs.Fronts.{one_front, front-append}
use Rattle.row_page.specs.Grammar.{IsPieceThen, IsRow, IsPage}
use Rattle.spill_disk.specs.Files.{Files, bytes_of}
use Rattle.run_file.specs.declared.run.Run.{Run}
use Rattle.run_file.specs.declared.run.RunFault.{RunFault}
use Rattle.run_file.specs.declared.run.RunFault.TheVariants.{DiskFault, Damaged, NoMemory}
use Rattle.run_file.specs.Causes.{damage_by}
use Rattle.run_file.specs.Filling.{ShowsFront, TakesAhead}
use Rattle.run_file.specs.Readers.{ReaderView, known_ahead}
use Rattle.run_file.specs.Reading.{IsAhead, ReadsOn, TellsDamage, Moves, BeginsDamaged, ExplainsDamage, ArePage}
use Rattle.run_file.proofs.Reaching.{front_tells}

piece_parts : (bytes piece behind : List ℕ) → IsPieceThen bytes piece behind → drop 4 bytes ≡ piece ++ behind
piece_parts [] piece behind h = absurd h
piece_parts (a ∷ []) piece behind h = absurd h
piece_parts (a ∷ b ∷ []) piece behind h = absurd h
piece_parts (a ∷ b ∷ c ∷ []) piece behind h = absurd h
piece_parts (a ∷ b ∷ c ∷ d ∷ bytes) piece behind h = h.1

-- what it stands at then, and what is behind that
row_is : (before after : ReaderView) (took : TakesAhead before after) → after.kept.row ≡ took.begins.piece
row_is before after took =
    took.row ∙ ap (take took.size) (piece_parts before.kept.rest took.begins.piece took.begins.behind took.begins.front) ∙ take_at took.begins.piece took.begins.behind took.size took.begins.size_is

rest_is : (before after : ReaderView) (took : TakesAhead before after) → after.kept.rest ≡ took.begins.behind
rest_is before after took =
    took.rest ∙ sym (drop-drop took.size 4 before.kept.rest) ∙ ap (drop took.size) (piece_parts before.kept.rest took.begins.piece took.begins.behind took.begins.front) ∙ drop_at took.begins.piece took.begins.behind took.size took.begins.size_is

-- what a read before the step leaves
pub record Reaches (files : Option Files) (before middle : ReaderView) : Type 0 where
  pub moved : middle ≡ record before { kept = middle.kept }
  pub ahead : known_ahead files middle ≡ known_ahead files before
  pub shows : IfSome (known_ahead files middle) (ShowsFront before.run middle.kept.rest)

damage_ahead : (files : Option Files) (before middle : ReaderView) → Reaches files before middle → BeginsDamaged before.form before.run.greatest middle.kept.rest → IfSome (known_ahead files before) (BeginsDamaged before.form before.run.greatest)
damage_ahead None before middle reached damaged = tt
damage_ahead (Some files) before middle reached damaged =
    subst (λ (a : Option (List ℕ)). IfSome a (BeginsDamaged before.form before.run.greatest)) reached.ahead
    (front_tells before.run before.form middle.kept.rest (middle.kept.rest ++ drop middle.kept.at (take middle.run.bytes (bytes_of files middle.run.file))) reached.shows damaged)

-- what a damaged front says of the bytes that are ahead
pub explains : (files : Option Files) (before middle after : ReaderView) (r : Result Bool RunFault) → Reaches files before middle → TellsDamage middle after r → OnErr r (after ≡ middle) → ExplainsDamage files before r
explains files before middle after (Ok more) reached told stays = tt
explains files before middle after (Err (DiskFault disk)) reached told stays = tt
explains files before middle after (Err NoMemory) reached told stays = tt
explains files before middle after (Err (Damaged damage)) reached told stays =
    let form = ap (λ (v : ReaderView). v.form) reached.moved in
    let run = ap (λ (v : ReaderView). v.run) reached.moved in
    damage_ahead files before middle reached (rw (← form, ← run, ← stays) told.2)

-- no row is ahead of a damaged front
none_ahead : (files : Option Files) (before : ReaderView) (row : List (List ℕ)) (rows : List (List (List ℕ))) → IsAhead files before (row ∷ rows) → IfSome (known_ahead files before) (BeginsDamaged before.form before.run.greatest) → ⊥
none_ahead None before row rows ahead damaged = ahead.bytes
none_ahead (Some files) before row rows ahead damaged = damaged row ahead.bytes.0 ahead.bytes.1 ahead.bytes.2 ahead.bytes.3 ahead.formed.0

-- rows that are ahead are given, one by one
pub goes_on : (old new : Option Files) (before middle after : ReaderView) (rows : List (List (List ℕ))) (r : Result Bool RunFault) → new ≡ old → Reaches old before middle → before.found < before.run.count
    → (r ≡ Ok false → ⊥) → OnOk r (TakesAhead middle after) → TellsDamage middle after r → IfErr r (λ fault. fault ≡ damage_by middle.run middle.found) → OnErr r (after ≡ middle) → Moves middle after r → IsAhead old before rows → ReadsOn new after rows r
goes_on old new before middle after [] r same reached left some took told only stays moved ahead = absurd (omega (arith, ahead.count, left))
goes_on old new before middle after (row ∷ rows) (Ok false) same reached left some took told only stays moved ahead = absurd (some refl)
goes_on old new before middle after (row ∷ rows) (Err (DiskFault disk)) same reached left some took told only stays moved ahead = tt
goes_on old new before middle after (row ∷ rows) (Err NoMemory) same reached left some took told only stays moved ahead = tt
goes_on old new before middle after (row ∷ rows) (Err (Damaged damage)) same reached left some took told only stays moved ahead =
    none_ahead old before row rows ahead (explains old before middle after (Err (Damaged damage)) reached told stays)
goes_on None new before middle after (row ∷ rows) (Ok true) same reached left some took told only stays moved ahead = absurd ahead.bytes
goes_on (Some files) new before middle after (row ∷ rows) (Ok true) same reached left some took told only stays moved ahead =
    let run : after.run ≡ before.run = ap (λ (v : ReaderView). v.run) moved ∙ ap (λ (v : ReaderView). v.run) reached.moved in
    let middle_run : middle.run ≡ before.run = ap (λ (v : ReaderView). v.run) reached.moved in
    let form : after.form ≡ before.form = ap (λ (v : ReaderView). v.form) moved ∙ ap (λ (v : ReaderView). v.form) reached.moved in
    let found : after.found ≡ before.found + 1 = ap (λ (v : ReaderView). v.found) moved ∙ ap (λ (v : ReaderView). v.found + 1) reached.moved in
    let begins = took.begins in
    let tail = drop middle.kept.at (take middle.run.bytes (bytes_of files middle.run.file)) in
    let page = subst (λ (a : Option (List ℕ)). ArePage a (row ∷ rows)) (sym reached.ahead) ahead.bytes in
    let one = one_front (middle.kept.rest ++ tail) page.0 begins.piece page.1 (begins.behind ++ tail) page.2 (front-append middle.kept.rest begins.piece begins.behind tail begins.front) in
    let at_row : IsRow after.kept.row row = subst (λ (t : List ℕ). IsRow t row) (one.0 ∙ sym (row_is middle after took)) page.3 in
    let kept : after.kept.rest ++ drop after.kept.at (take after.run.bytes (bytes_of files after.run.file)) ≡ begins.behind ++ tail =
    ap (λ (r : List ℕ). r ++ drop after.kept.at (take after.run.bytes (bytes_of files after.run.file))) (rest_is middle after took)
    ∙ ap (λ (n : ℕ). begins.behind ++ drop n (take after.run.bytes (bytes_of files after.run.file))) took.at
    ∙ ap (λ (u : Run). begins.behind ++ drop middle.kept.at (take u.bytes (bytes_of files u.file))) (run ∙ sym middle_run) in
    let left_page : IsPage (after.kept.rest ++ drop after.kept.at (take after.run.bytes (bytes_of files after.run.file))) rows = subst (λ (t : List ℕ). IsPage t rows) (one.1 ∙ sym kept) page.4 in
    let run_count : after.run.count ≡ before.run.count = ap (λ (u : Run). u.count) run in (
      at_row,
      record {
        count = omega (arith, found, ahead.count, run_count);
        formed = rw (form, run) ahead.formed.1;
        bytes = subst (λ (f : Option Files). ArePage (known_ahead f after) rows) (sym same) left_page;
      },
    )
