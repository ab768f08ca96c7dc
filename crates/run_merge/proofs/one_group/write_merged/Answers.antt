use Rattle.std.proofs.Common.{◌≡◌, ℕ, Bool, List, [], ◌∷◌, ◌++◌, Ok, Err, refl, sym, ap, subst, ◌∙◌}
use Rattle.row_page.specs.Views.{fields_in}
use Rattle.run_file.specs.Writing.{IsSoFar, IsWritten}
use Rattle.run_file.specs.declared.run.Run.{Run}
use Rattle.run_file.specs.Shelved.{files_on, SameBut}
use Rattle.run_file.specs.Several.{IsFileAmong, AreOn}
use Rattle.run_file.proofs.Among.{among_renamed}
use Rattle.run_file.proofs.Shelves.{keeps_left, keeps_self, keeps_trans, same_left, same_more}
use Rattle.std.proofs.lemmas.Result.{err_from_is_err_and}
use Rattle.run_merge.specs.Causes.{IsDamageIn}
use Rattle.run_merge.specs.Merging.{runs_of}
use Rattle.run_merge.proofs.Damage.{damage_of_runs}
use Rattle.run_merge.proofs.Gathering.{goes_undamaged, underway_none, underway_more, underway_all}
use Rattle.run_merge.proofs.one_group.write_merged.Goals as goal

pub entries-init : goal.entries-init
entries-init g c =
    let shelf = c.args.shelf.now in
    let run = c.args.writer.run in
    record {
      underway = underway_none (files_on g.H.Shelf.disk_of g.D.Disk.files shelf) run.disk c.args.merge.now c.args.writer (IsFileAmong (g.H.Shelf.named shelf) (runs_of c.args.merge.now) run.disk run.file → ⊥) c.requires.begun;
      runs = refl;
      kind = refl;
      on = c.requires.runs;
      within = c.requires.to;
      there = c.requires.there;
      disk = refl;
      file = refl;
      same = λ j file apart. refl;
      shelf = keeps_self g.H.Shelf.count_of g.H.Shelf.named g.H.Shelf.disk_of g.D.Disk.files g.D.Disk.faults shelf;
    }

pub returns-in_err-advance-clause-undamaged : goal.returns-in_err-advance-clause-undamaged
returns-in_err-advance-clause-undamaged g c entries come apart =
    let left = c.entries.invariant.underway.gives apart entries come in
    let p = err_from_is_err_and c.from_residual.result c.from_residual.ensures.1 in
    rw (p.1, p.2) (goes_undamaged (files_on g.H.Shelf.disk_of g.D.Disk.files c.advance.new.shelf) c.advance.new.self left.rest c.in_err-advance.field-0.0 (c.in_err-advance.ensures.gives left.rest left.come))

pub returns-in_err-advance-clause-damaged : goal.returns-in_err-advance-clause-damaged
returns-in_err-advance-clause-damaged g c =
    let p = err_from_is_err_and c.from_residual.result c.from_residual.ensures.1 in
    let told : IsDamageIn {T = Unit {0}} (runs_of c.advance.new.self) (Err c.in_err-advance.field-0.0) = damage_of_runs Bool (Unit {0}) c.advance.new.self.readers.items c.in_err-advance.field-0.0 c.in_err-advance.ensures.damaged in
    let runs : runs_of c.advance.new.self ≡ runs_of c.args.merge.now = c.advance.ensures.runs ∙ c.entries.invariant.runs in
    rw (p.1, p.2) (subst (λ (all : List Run). IsDamageIn {T = Unit {0}} all (Err c.in_err-advance.field-0.0)) runs told)

pub entries-preserved : goal.entries-preserved
entries-preserved g c =
    let files = files_on g.H.Shelf.disk_of g.D.Disk.files in
    let start = c.args.shelf.now in
    let now = c.entries.shelf in
    let mid = c.advance.new.shelf in
    let after = c.put.new.shelf in
    let before = c.entries.invariant in
    let to = c.args.writer.run.disk in
    let file = c.args.writer.run.file in
    let writer = c.entries.writer in
    let writer' = c.put.new.self in
    let merge' = c.advance.new.self in
    let names : (j : ℕ) → g.H.Shelf.named mid j ≡ g.H.Shelf.named start j = λ j. c.advance.ensures.shelf.names j ∙ before.shelf.names j in
    let count : g.H.Shelf.count_of after ≡ g.H.Shelf.count_of now = c.put.ensures.shelf.count ∙ c.advance.ensures.shelf.count in
    let runs : runs_of merge' ≡ runs_of c.args.merge.now = c.advance.ensures.runs ∙ before.runs in
    let same : SameBut (g.H.Shelf.named mid) (files mid) (files after) to file = rw (before.disk, before.file) at c.put.ensures.same in
    record {
      underway = underway_more (files start) (files now) (files mid) (files after) (g.H.Shelf.named mid) to file c.args.merge.now c.entries.merge merge' writer writer' (fields_in c.row.result) (IsFileAmong (g.H.Shelf.named start) (runs_of c.args.merge.now) to file → ⊥)
          (λ known here. known (among_renamed (g.H.Shelf.named start) (g.H.Shelf.named mid) (runs_of c.args.merge.now) to file names here))
          (record {
            left = c.advance.ensures.shelf.same;
            goes = λ entries come. rw c.if-branch.true at (c.in_ok-advance.ensures.gives entries come);
            formed = rw c.if-branch.true at c.in_ok-advance.ensures.formed;
            runs = runs;
            kind = c.advance.ensures.kind ∙ before.kind;
            row_is = c.row.ensures;
            put = subst (λ (disk : ℕ). (rows : List (List (List ℕ))) → IsSoFar (files mid disk) writer rows → IsSoFar (files after disk) writer' (rows ++ fields_in c.row.result ∷ [])) before.disk c.in_ok-put.ensures.put;
            same = same;
            falls = rw c.if-branch.true at c.in_ok-advance.ensures.falls;
            kind_was = before.kind;
          })
          before.underway;
      runs = runs;
      kind = c.advance.ensures.kind ∙ before.kind;
      on = subst (λ (n : ℕ). AreOn n (runs_of merge')) (sym count) (subst (λ (all : List Run). AreOn (g.H.Shelf.count_of now) all) (sym c.advance.ensures.runs) before.on);
      within = rw (c.put.ensures.disk, count) before.within;
      there = rw (c.put.ensures.disk, c.put.ensures.file) c.put.ensures.there;
      disk = c.put.ensures.disk ∙ before.disk;
      file = c.put.ensures.file ∙ before.file;
      same = same_more (g.H.Shelf.named start) (g.H.Shelf.named mid) (files start) (files mid) (files after) to file names
          (same_left (g.H.Shelf.named start) (files start) (files now) (files mid) to file before.same c.advance.ensures.shelf.same) same;
      shelf = keeps_trans g.H.Shelf.count_of g.H.Shelf.named g.H.Shelf.disk_of g.D.Disk.files g.D.Disk.faults start mid after
          (keeps_trans g.H.Shelf.count_of g.H.Shelf.named g.H.Shelf.disk_of g.D.Disk.files g.D.Disk.faults start now mid before.shelf (keeps_left g.H.Shelf.count_of g.H.Shelf.named g.H.Shelf.disk_of g.D.Disk.files g.D.Disk.faults now mid c.advance.ensures.shelf))
          c.put.ensures.shelf;
    }

pub returns-clause-all : goal.returns-clause-all
returns-clause-all g c =
    let files = files_on g.H.Shelf.disk_of g.D.Disk.files in
    let start = c.args.shelf.now in
    let mid = c.advance.new.shelf in
    let after = c.finish.new.shelf in
    let run = c.in_ok-run.run' in
    let written = subst (λ (disk : ℕ). (rows : List (List (List ℕ))) → IsSoFar (files mid disk) c.entries.writer rows → IsWritten (files after disk) run rows) c.entries.invariant.disk c.in_ok-run.ensures.written in
    underway_all (files start) (files c.entries.shelf) (files mid) (files after) c.args.writer.run.disk c.args.merge.now c.entries.merge c.advance.new.self c.entries.writer run (IsFileAmong (g.H.Shelf.named start) (runs_of c.args.merge.now) c.args.writer.run.disk c.args.writer.run.file → ⊥)
    c.entries.invariant.underway c.advance.ensures.shelf.same (λ entries come. rw c.if-branch.false at (c.in_ok-advance.ensures.gives entries come)) (c.in_ok-advance.ensures.end.0 (ap Ok c.if-branch.false)) written
