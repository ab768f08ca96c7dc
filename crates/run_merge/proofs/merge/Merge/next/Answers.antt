use Rattle.std.proofs.Common.{refl}
use Rattle.run_file.specs.Shelved.{files_on}
use Rattle.run_merge.specs.Merging.{left_of}
use Rattle.run_merge.proofs.Lent.{end_fault, end_lent, end_none, fault_first, lent_damage, lent_first, lent_formed, none_first, same_cause}
use Rattle.run_merge.proofs.merge.Merge.next.Goals as goal

pub returns-in-Ok-true : goal.returns-in-Ok-true
returns-in-Ok-true g c =
    let files = files_on g.H.Shelf.disk_of g.D.Disk.files c.advance.new.shelf in
    let after = c.advance.new.self in
    let went = c.in-Ok-true.ensures in (
      (
        refl,
        λ _. tt,
        record {
          gives = λ entries come. rw c.in-Ok-true.field-0-test at (went.gives entries come);
          falls = rw c.in-Ok-true.field-0-test at went.falls;
          damaged = tt;
          lent = c.row.ensures;
          runs = went.runs;
          kind = went.kind;
        },
      ),
      record {
        gives = λ entries come. lent_first files after entries c.row.result c.row.ensures (rw c.in-Ok-true.field-0-test at (went.gives entries come));
        end = end_lent (left_of c.args.self.now) c.in-Ok-true.field-0 c.row.result c.in-Ok-true.field-0-test went.end;
        formed = lent_formed c.args.self.now after c.row.result c.row.ensures went.runs went.kind (rw c.in-Ok-true.field-0-test at went.formed);
        damaged = tt;
        stands = tt;
        cause = tt;
        shelf = went.shelf;
      },
    )

pub returns-in-Ok-false : goal.returns-in-Ok-false
returns-in-Ok-false g c =
    let files = files_on g.H.Shelf.disk_of g.D.Disk.files c.advance.new.shelf in
    let after = c.advance.new.self in
    let went = c.in-Ok-false.ensures in (
      (
        refl,
        λ _. tt,
        record {
          gives = λ entries come. rw c.in-Ok-false.field-0-test at (went.gives entries come);
          falls = rw c.in-Ok-false.field-0-test at went.falls;
          damaged = tt;
          lent = tt;
          runs = went.runs;
          kind = went.kind;
        },
      ),
      record {
        gives = λ entries come. none_first files after entries (rw c.in-Ok-false.field-0-test at (went.gives entries come));
        end = end_none (left_of c.args.self.now) c.in-Ok-false.field-0 c.in-Ok-false.field-0-test went.end;
        formed = tt;
        damaged = tt;
        stands = tt;
        cause = tt;
        shelf = went.shelf;
      },
    )

pub returns-in-Err : goal.returns-in-Err
returns-in-Err g c =
    let files = files_on g.H.Shelf.disk_of g.D.Disk.files c.advance.new.shelf in
    let after = c.advance.new.self in
    let went = c.in-Err.ensures in (
      (
        refl,
        λ _. tt,
        record {
          gives = λ entries come. went.gives entries come;
          falls = tt;
          damaged = went.damaged;
          lent = tt;
          runs = went.runs;
          kind = went.kind;
        },
      ),
      record {
        gives = λ entries come. fault_first files after entries c.in-Err.fault (went.gives entries come);
        end = end_fault (left_of c.args.self.now) c.in-Err.fault went.end;
        formed = tt;
        damaged = lent_damage c.args.self.now after c.in-Err.fault went.runs went.damaged;
        stands = tt;
        cause = same_cause _ _ c.in-Err.fault went.cause;
        shelf = went.shelf;
      },
    )
