use Rattle.std.proofs.Common.{◌≡◌, ◌+◌, ◌<◌, ℕ, Some, true, refl, sym, subst, ◌∙◌, arith}
use Rattle.std.specs.Prelude.{IfSome}
use Rattle.std.proofs.lemmas.Result.{err_from_is_err_and}
use Rattle.csv.specs.Records.{fields_of}
use Rattle.fault_count.specs.Faults.{Rose}
use Rattle.byte_io.specs.Records.{rows_left, source_under}
use Rattle.run_file.specs.Shelved.{files_on, faults_on}
use Rattle.run_file.proofs.Shelves.{keeps_self, keeps_trans, same_more}
use Rattle.landing.specs.Explaining.{FailsOn}
use Rattle.landing.specs.Filling.{IsFilling}
use Rattle.landing.specs.Ruling.{ahead, first_refusal_in, refusal_in}
use Rattle.landing.proofs.Filled.{filling_more, filling_none, filling_refused}
use Rattle.landing.proofs.Shelves.{explains_more, fails_later}
use Rattle.landing.proofs.part.fill_part.Goals as goal

pub rows-init : goal.rows-init
rows-init g c =
    let shelf = c.args.shelf.now in
    let files = files_on g.H.Shelf.disk_of g.D.Disk.files in
    let desk = c.args.desk.now in
    let writer = c.args.writer.now in
    record {
      filling = rw c.requires.more (filling_none (files shelf writer.run.disk) c.args.rules.now c.args.first writer (ahead true desk.row (rows_left c.args.records.now)) c.requires.begun c.requires.first);
      most = omega arith;
      some = λ over. absurd (cc (c.requires.more, over));
      reading = c.requires.reading;
      end = λ over. absurd (cc (c.requires.more, over));
      within = c.requires.to;
      there = c.requires.there;
      disk = refl;
      file = refl;
      same = λ j file apart. refl;
      shelf = keeps_self g.H.Shelf.count_of g.H.Shelf.named g.H.Shelf.disk_of g.D.Disk.files g.D.Disk.faults shelf;
    }

pub returns-in_err-put_record-clause-err : goal.returns-in_err-put_record-clause-err
returns-in_err-put_record-clause-err g c =
    let files = files_on g.H.Shelf.disk_of g.D.Disk.files in
    let faults = faults_on g.H.Shelf.disk_of g.D.Disk.faults in
    let rules = c.args.rules.now in
    let to = c.args.writer.now.run.disk in
    let before = ahead true c.args.desk.now.row (rows_left c.args.records.now) in
    let row = c.rows.desk.row in
    let why_err = rw c.rows.invariant.disk at c.in_err-put_record.ensures.err in
    let p = err_from_is_err_and c.from_residual.result c.from_residual.ensures.1 in
    rw (p.1, p.2)
    (explains_more (λ why. refusal_in rules (c.args.first + c.rows.count + 1) (fields_of row) ≡ Some why) (λ why. IfSome before (λ rows. first_refusal_in rules (c.args.first + 1) rows ≡ Some why))
    ⊥ (Rose g.O.Origin.faults (g.T.Tap.faults (source_under c.rows.records))) (FailsOn to (faults c.rows.shelf) (faults c.put_record.new.shelf)) (FailsOn to (faults c.args.shelf.now) (faults c.put_record.new.shelf))
    (λ why refused. filling_refused (files c.rows.shelf to) rules c.args.first c.rows.count c.rows.writer before (rows_left c.rows.records) row c.rows.desk.more why c.rows-test.true c.rows.invariant.filling refused)
    (λ never. absurd never)
    (λ disk h. fails_later to (faults c.args.shelf.now) (faults c.rows.shelf) (faults c.put_record.new.shelf) disk c.rows.invariant.shelf.later h)
    c.in_err-put_record.field-0.0 why_err)

pub rows-preserved : goal.rows-preserved
rows-preserved g c =
    let files = files_on g.H.Shelf.disk_of g.D.Disk.files in
    let start = c.args.shelf.now in
    let now = c.rows.shelf in
    let after = c.put_record.new.shelf in
    let before = c.rows.invariant in
    let begun = c.args.writer.now.run in
    let to = begun.disk in
    let rules = c.args.rules.now in
    let all = ahead true c.args.desk.now.row (rows_left c.args.records.now) in
    let left = ahead c.rows.desk.more c.rows.desk.row (rows_left c.rows.records) in
    let rest = ahead c.take.new.self.more c.take.new.self.row (rows_left c.take.new.records) in
    let at = c.rows.writer.run.disk in
    let filling = subst (λ (n : ℕ). IsFilling (files now n) rules c.args.first c.rows.count c.rows.writer all left) (sym before.disk) before.filling in
    let more = filling_more (files now at) (files after at) rules c.args.first c.rows.count c.rows.writer c.put_record.new.writer
    all (rows_left c.rows.records) (rows_left c.take.new.records) c.rows.desk.row c.take.new.self.row c.rows.desk.more c.take.new.self.more
    c.rows-test.true c.requires.rules filling c.in_ok-put_record.ensures.passes c.in_ok-put_record.ensures.bytes c.in_ok-put_record.ensures.put c.in_ok-take.ensures.rows in
    let there = rw (before.disk, before.file) at c.put_record.ensures.there in
    let same = rw (before.disk, before.file) at c.put_record.ensures.same in
    record {
      filling = subst (λ (n : ℕ). IsFilling (files after n) rules c.args.first (c.rows.count + 1) c.put_record.new.writer all rest) before.disk more;
      most = omega arith;
      some = λ over. omega arith;
      reading = c.in_ok-take.ensures.reading;
      end = c.in_ok-take.ensures.end;
      within = subst (λ (n : ℕ). to < n) (sym c.put_record.ensures.shelf.count) before.within;
      there = there;
      disk = c.put_record.ensures.disk ∙ before.disk;
      file = c.put_record.ensures.file ∙ before.file;
      same = same_more (g.H.Shelf.named start) (g.H.Shelf.named now) (files start) (files now) (files after) to begun.file before.shelf.names before.same same;
      shelf = keeps_trans g.H.Shelf.count_of g.H.Shelf.named g.H.Shelf.disk_of g.D.Disk.files g.D.Disk.faults start now after before.shelf c.put_record.ensures.shelf;
    }
