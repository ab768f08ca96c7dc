use Rattle.std.proofs.Common.{◌<◌, subst, arith}
use Rattle.run_file.specs.Readers.{ReaderView}
use Rattle.run_file.specs.Shelved.{files_on}
use Rattle.run_file.proofs.Stepping.{Reaches, goes_on, explains}
use Rattle.run_file.proofs.run_reader.RunReader.advance.Goals as goal

pub returns-clause-gives : goal.returns-clause-gives
returns-clause-gives g c rows ahead =
    let files = files_on g.H.Shelf.disk_of g.D.Disk.files in
    let before = c.args.self.now in
    let went = c.step.ensures in
    let reached : Reaches (files c.args.shelf.now before.run.disk) before c.reach.new.self = record { moved = c.reach.ensures.moved; ahead = c.reach.ensures.ahead; shows = c.in_ok-reach.ensures.shows } in
    let left : before.found < before.run.count = subst (λ (v : ReaderView). v.found < v.run.count) c.self.view_is (omega (arith, c.if-self.false)) in
    goes_on (files c.args.shelf.now before.run.disk) (files c.reach.new.shelf before.run.disk) before c.reach.new.self c.step.new.self rows c.step.result
    (c.reach.ensures.shelf.same before.run.disk) reached left went.some went.takes went.damaged went.only went.stays went.moved ahead

pub returns-clause-why : goal.returns-clause-why
returns-clause-why g c =
    let files = files_on g.H.Shelf.disk_of g.D.Disk.files in
    let before = c.args.self.now in
    explains (files c.args.shelf.now before.run.disk) before c.reach.new.self c.step.new.self c.step.result
    (record { moved = c.reach.ensures.moved; ahead = c.reach.ensures.ahead; shows = c.in_ok-reach.ensures.shows }) c.step.ensures.damaged c.step.ensures.stays
