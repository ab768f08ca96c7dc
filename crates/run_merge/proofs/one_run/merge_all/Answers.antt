use Rattle.std.proofs.Common.{◌≡◌, ◌≤◌, [], ◌∷◌, length, ◌∙◌, arith}
use Rattle.std.specs.Prelude.{slice_get}
use Rattle.run_file.specs.Shelved.{files_on}
use Rattle.run_merge.specs.Becoming.{Becomes}
use Rattle.run_merge.proofs.Becoming.{leaves_only}
use Rattle.run_merge.proofs.LastRun.{few_fresh, few_merge, left_merges}
use Rattle.run_merge.proofs.one_run.merge_all.Goals as goal

pub returns-then-len-lt2-clause-merges : goal.returns-then-len-lt2-clause-merges
returns-then-len-lt2-clause-merges g c lists told have apart =
    let files = files_on g.H.Shelf.disk_of g.D.Disk.files c.args.shelf.now in
    let few : length c.args.runs.items ≤ 1 = omega (arith, c.args.runs.ok.0, c.len.ensures, c.if-len-lt2.true) in
    let answer : c.copied.result ≡ slice_get c.args.runs.items 0 = c.copied.ensures ∙ c.first.ensures.value ∙ rw c.deref.ensures.value in
    rw answer (few_merge files c.args.kind.now c.args.runs.items lists few have)

pub returns-in-Ok-clause-merges : goal.returns-in-Ok-clause-merges
returns-in-Ok-clause-merges g c lists told have apart =
    let files = files_on g.H.Shelf.disk_of g.D.Disk.files in
    let step : Becomes (g.H.Shelf.count_of c.args.shelf.now) (g.H.Shelf.named c.args.shelf.now) (files c.args.shelf.now) (files c.merge_rounds.new.shelf) c.args.kind.now c.args.to c.args.runs.items (c.in-Ok.run' ∷ []) =
    rw c.deref-2.ensures.value at c.in-Ok.ensures.becomes in
    let several : 2 ≤ length c.args.runs.items = omega (arith, c.args.runs.ok.0, c.len.ensures, c.if-len-lt2.false) in
    left_merges (g.H.Shelf.named c.args.shelf.now) (files c.merge_rounds.new.shelf) c.args.kind.now lists c.in-Ok.run' (step.same (told several) lists have apart)

pub returns-in-Ok-clause-files : goal.returns-in-Ok-clause-files
returns-in-Ok-clause-files g c =
    let files = files_on g.H.Shelf.disk_of g.D.Disk.files in
    leaves_only (g.H.Shelf.count_of c.args.shelf.now) (g.H.Shelf.named c.args.shelf.now) (files c.args.shelf.now) (files c.merge_rounds.new.shelf) c.args.kind.now c.args.to c.args.runs.items (c.in-Ok.run' ∷ []) (rw c.deref-2.ensures.value at c.in-Ok.ensures.becomes)

pub returns-then-len-lt2-clause-fresh : goal.returns-then-len-lt2-clause-fresh
returns-then-len-lt2-clause-fresh g c =
    let few : length c.args.runs.items ≤ 1 = omega (arith, c.args.runs.ok.0, c.len.ensures, c.if-len-lt2.true) in
    let answer : c.copied.result ≡ slice_get c.args.runs.items 0 = c.copied.ensures ∙ c.first.ensures.value ∙ rw c.deref.ensures.value in
    rw answer (few_fresh (g.H.Shelf.named c.args.shelf.now) (files_on g.H.Shelf.disk_of g.D.Disk.files c.args.shelf.now) c.args.runs.items few)

pub returns-in-Ok-clause-fresh : goal.returns-in-Ok-clause-fresh
returns-in-Ok-clause-fresh g c =
    let files = files_on g.H.Shelf.disk_of g.D.Disk.files in
    let step : Becomes (g.H.Shelf.count_of c.args.shelf.now) (g.H.Shelf.named c.args.shelf.now) (files c.args.shelf.now) (files c.merge_rounds.new.shelf) c.args.kind.now c.args.to c.args.runs.items (c.in-Ok.run' ∷ []) =
    rw c.deref-2.ensures.value at c.in-Ok.ensures.becomes in
    step.fresh
