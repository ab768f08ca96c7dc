use Rattle.std.proofs.Common.{◌≡◌, ◌+◌, ◌%◌, ◌<◌, ◌≤◌, ◌∷◌, ◌++◌, ◌∙◌, [], ℕ, List, Some, true, refl, sym, ap, subst, arith, length}
use Rattle.std.specs.Prelude.{IfSome, not}
use Rattle.std.specs.Result.{is_ok}
use Rattle.std.proofs.Math.Nat.{mod-lt}
use Rattle.std.proofs.lemmas.Result.{err_from_is_err_and}
use Rattle.fault_count.specs.Faults.{Rose}
use Rattle.byte_io.specs.Records.{rows_left, source_under}
use Rattle.row_page.specs.Pages.{PageView}
use Rattle.run_file.specs.declared.run.Run.{Run}
use Rattle.run_file.specs.Shelved.{files_on, faults_on}
use Rattle.run_file.specs.Several.{SameOthers}
use Rattle.run_file.proofs.Shelves.{keeps_self, keeps_trans}
use Rattle.landing.specs.Explaining.{FailsAmong, FailsOn}
use Rattle.landing.specs.Filling.{AreLandedSoFar}
use Rattle.landing.specs.Landed.{AreMade}
use Rattle.landing.specs.Ruling.{ahead, first_refusal_in}
use Rattle.landing.proofs.Following.{follows_read, follows_start}
use Rattle.landing.proofs.NewFiles.{made_more, made_none}
use Rattle.landing.proofs.Partitions.{so_far_all, so_far_more, so_far_none, so_far_refused}
use Rattle.landing.proofs.Shelves.{explains_more, fails_among, files_same, if_ok, files_trans, others_more}
use Rattle.landing.proofs.landing.land_rows.Goals as goal

pub parts-init : goal.parts-init
parts-init g c =
    let shelf = c.args.shelf.now in
    let files = files_on g.H.Shelf.disk_of g.D.Disk.files in
    let rules = c.args.rules.now in
    let all = rows_left c.args.records.now in
    let rest = ahead c.take.new.self.more c.take.new.self.row (rows_left c.take.new.records) in
    let read = follows_read rules 1 [] all all (rows_left c.take.new.records) c.take.new.self.more c.take.new.self.row (follows_start rules 1 all) c.in_ok-take.ensures.rows in
    record {
      so_far = subst (λ (parts : List Run). AreLandedSoFar (files shelf) rules c.args.part_rows c.args.workers parts 0 c.take.new.self.more all rest) (sym c.new-parts.ensures.items)
          (so_far_none (files shelf) rules c.args.part_rows c.args.workers c.take.new.self.more all rest c.requires.some read);
      reading = c.in_ok-take.ensures.reading;
      end = c.in_ok-take.ensures.end;
      within = c.requires.shelf;
      empty = ap (λ (page : PageView). page.rows) c.new-page.ensures;
      made = subst (λ (parts : List Run). AreMade (g.H.Shelf.named shelf) (files shelf) parts) (sym c.new-parts.ensures.items) (made_none (g.H.Shelf.named shelf) (files shelf));
      only = λ disk file apart. refl;
      files = files_same (files shelf) (files shelf) (λ j. refl);
      shelf = keeps_self g.H.Shelf.count_of g.H.Shelf.named g.H.Shelf.disk_of g.D.Disk.files g.D.Disk.faults shelf;
    }

pub returns-in_err-run-clause-files : goal.returns-in_err-run-clause-files
returns-in_err-run-clause-files g c =
    let files = files_on g.H.Shelf.disk_of g.D.Disk.files in
    files_trans (files c.args.shelf.now) (files c.parts.shelf) (files c.land_part.new.shelf) c.parts.invariant.files c.land_part.ensures.files

pub returns-in_err-run-clause-err : goal.returns-in_err-run-clause-err
returns-in_err-run-clause-err g c =
    let files = files_on g.H.Shelf.disk_of g.D.Disk.files in
    let faults = faults_on g.H.Shelf.disk_of g.D.Disk.faults in
    let rules = c.args.rules.now in
    let workers = c.args.workers in
    let to = c.len.result % workers in
    let all = rows_left c.args.records.now in
    let left = rows_left c.parts.records in
    let row = c.parts.desk.row in
    let some : 0 < workers = omega arith in
    let within : to < workers = mod-lt c.len.result some in
    let p = err_from_is_err_and c.from_residual-in_err-run.result c.from_residual-in_err-run.ensures.1 in
    rw (p.1, p.2)
    (explains_more (λ why. IfSome (ahead true row left) (λ rows. first_refusal_in rules (c.parts.rows + 1) rows ≡ Some why)) (λ why. IfSome all (λ rows. first_refusal_in rules 1 rows ≡ Some why))
    (Rose g.O.Origin.faults (g.T.Tap.faults (source_under c.land_part.new.records))) (Rose g.O.Origin.faults (g.T.Tap.faults (source_under c.land_part.new.records)))
    (FailsOn to (faults c.parts.shelf) (faults c.land_part.new.shelf)) (FailsAmong workers (faults c.args.shelf.now) (faults c.land_part.new.shelf))
    (λ why refused. so_far_refused (files c.parts.shelf) rules c.args.part_rows workers c.parts.parts.items c.parts.rows c.parts.desk.more row left all why c.parts-test.true c.parts.invariant.so_far refused)
    (λ read. read)
    (λ disk h. fails_among to workers (faults c.args.shelf.now) (faults c.parts.shelf) (faults c.land_part.new.shelf) disk within c.parts.invariant.shelf.later h)
    c.in_err-run.field-0.0 c.in_err-run.ensures.err)

pub returns-then-is_err-clause-files : goal.returns-then-is_err-clause-files
returns-then-is_err-clause-files g c =
    let files = files_on g.H.Shelf.disk_of g.D.Disk.files in
    files_trans (files c.args.shelf.now) (files c.parts.shelf) (files c.land_part.new.shelf) c.parts.invariant.files c.land_part.ensures.files

pub returns-then-is_err-clause-shelf : goal.returns-then-is_err-clause-shelf
returns-then-is_err-clause-shelf g c =
    keeps_trans g.H.Shelf.count_of g.H.Shelf.named g.H.Shelf.disk_of g.D.Disk.files g.D.Disk.faults c.args.shelf.now c.parts.shelf c.land_part.new.shelf c.parts.invariant.shelf c.land_part.ensures.shelf

pub parts-preserved : goal.parts-preserved
parts-preserved g c =
    let files = files_on g.H.Shelf.disk_of g.D.Disk.files in
    let start = c.args.shelf.now in
    let now = c.parts.shelf in
    let after = c.land_part.new.shelf in
    let rules = c.args.rules.now in
    let workers = c.args.workers in
    let desk = c.land_part.new.desk in
    let parts = c.parts.parts.items in
    let run = c.in_ok-run.run' in
    let to = c.len.result % workers in
    let all = rows_left c.args.records.now in
    let rest = ahead desk.more desk.row (rows_left c.land_part.new.records) in
    let before = c.parts.invariant in
    let several : c.len.result ≡ length parts = omega (arith, c.len.ensures, c.parts.parts.ok.0) in
    let ok : is_ok c.push.result ≡ true = c.is_err.ensures.negation ∙ ap not c.if-is_err.false in
    let pushed : c.push.new.self.items ≡ parts ++ run ∷ [] = if_ok c.push.result c.push.new.self.items (parts ++ run ∷ []) parts c.push.ensures.items ok in
    record {
      so_far = subst (λ (runs : List Run). AreLandedSoFar (files after) rules c.args.part_rows workers runs (c.parts.rows + run.count) desk.more all rest) (sym pushed)
          (so_far_more (files now) (files after) rules c.args.part_rows workers parts c.parts.rows run to c.parts.desk.more desk.more c.parts.desk.row (rows_left c.parts.records) all rest
          c.parts-test.true c.requires.rules before.so_far c.in_ok-run.ensures.lands c.in_ok-run.ensures.disk (ap (λ (n : ℕ). n % workers) several) c.land_part.ensures.files c.land_part.ensures.shelf.tells);
      reading = c.in_ok-run.ensures.reading;
      end = c.in_ok-run.ensures.end;
      within = subst (λ (n : ℕ). workers ≤ n) (sym c.land_part.ensures.shelf.count) before.within;
      empty = c.in_ok-run.ensures.page;
      made = subst (λ (runs : List Run). AreMade (g.H.Shelf.named start) (files start) runs) (sym pushed)
          (made_more (g.H.Shelf.named start) (g.H.Shelf.named now) (files start) (files now) c.args.part_rows workers parts before.so_far.rows run to before.shelf.names before.shelf.tells before.files before.so_far.are_landed
          c.in_ok-run.ensures.disk c.in_ok-run.ensures.fresh before.made);
      only = subst (λ (runs : List Run). SameOthers (g.H.Shelf.named start) (files start) (files after) runs) (sym pushed)
          (others_more (g.H.Shelf.named start) (g.H.Shelf.named now) (files start) (files now) (files after) parts run to before.shelf.names c.in_ok-run.ensures.disk before.only c.in_ok-run.ensures.only);
      files = files_trans (files start) (files now) (files after) before.files c.land_part.ensures.files;
      shelf = keeps_trans g.H.Shelf.count_of g.H.Shelf.named g.H.Shelf.disk_of g.D.Disk.files g.D.Disk.faults start now after before.shelf c.land_part.ensures.shelf;
    }

pub returns-clause-lands : goal.returns-clause-lands
returns-clause-lands g c =
    let files = files_on g.H.Shelf.disk_of g.D.Disk.files in
    so_far_all (files c.parts.shelf) c.args.rules.now c.args.part_rows c.args.workers c.parts.parts.items c.parts.rows c.parts.desk.more c.parts.desk.row (rows_left c.parts.records) (rows_left c.args.records.now) c.parts-test.false c.parts.invariant.so_far
