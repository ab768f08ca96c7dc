use Rattle.std.proofs.Common.{◌<◌, length}
use Rattle.task_memory.specs.Feeding.{Tells}
use Rattle.task_memory.specs.Scenes.{Scene, Stays}
use Rattle.task_memory.specs.Words.{scene_of}
use Rattle.task_memory.proofs.Between.{between_told}
use Rattle.task_memory.proofs.Raising.{asked_is}
use Rattle.task_memory.proofs.obtaining.TaskMemorySpillsObtaining.acquire_at.Goals as goal

pub returns-in-Ok-Got-clause-acquires : goal.returns-in-Ok-Got-clause-acquires
returns-in-Ok-Got-clause-acquires g c =
    let consumers = c.args.self.now.consumers.now in
    let old : Scene = scene_of g.C.Consumer.state g.P.Pool.state g.D.Disk.files g.D.Disk.faults c.args.self.now in
    let mid : Scene = scene_of g.C.Consumer.state g.P.Pool.state g.D.Disk.files g.D.Disk.faults c.obtain.new.self in
    let new : Scene = scene_of g.C.Consumer.state g.P.Pool.state g.D.Disk.files g.D.Disk.faults (record c.obtain.new.self { consumers = record c.obtain.new.self.consumers { now = c.grant_at.new.members } }) in
    let within : c.args.place < length old.stack.states = c.requires.within in
    let came = c.in-Ok-Got.ensures.obtains in
    let obtains = rw c.in-Ok-Got.field-0-is at came.obtains in
    let few = rw c.in-Ok-Got.field-0-is at came.few in
    let told : Tells old.stack new.stack c.args.place c.in-Ok-Got.got = record { before = mid.stack.states; keeps = obtains.1; told = c.grant_at.ensures } in
    let goes = c.obtain.ensures.goes in
    let stays : Stays old new = record { lent = goes.stays.lent; leasts = goes.stays.leasts; roomed = goes.stays.roomed } in
    record {
      enough = obtains.0;
      few = few;
      told = told;
      first = came.first;
      shorts = came.shorts;
      few_runs = came.few_runs;
      between = between_told old new c.args.place c.args.must c.requires.between (asked_is old.stack new.stack c.args.place c.args.must c.in-Ok-Got.got c.requires.between.rests.ready within obtains.0 told) stays came.page goes.pool.at_work;
    }
