use Rattle.std.proofs.Common.{refl, set, ◌++◌, arith}
use Rattle.spill_disk.specs.Files.{bytes_of}
use Rattle.spill_disk.specs.Kept.{files_from}
use Rattle.spill_disk.proofs.LookUps.{there_within, bytes_added, there_stays}
use Rattle.spill_disk.specs.declared.memory_disk.Stored.{Stored}
use Rattle.spill_disk.proofs.slots.add_bytes.Goals as goal

pub index_mut-stored-requires : goal.index_mut-stored-requires
index_mut-stored-requires c = omega (arith, there_within c.args.slots.now.items c.args.file c.requires)

pub returns-clause-ok : goal.returns-clause-ok
returns-clause-ok c =
    (bytes_added c.extend_from_slice.result c.args.slots.now.items c.args.file c.index_mut-stored.result.now (record { is_there = c.index_mut-stored.result.now.is_there; bytes = c.extend_from_slice.new.self }) c.args.bytes.now c.requires c.index_mut-stored.ensures.value refl c.extend_from_slice.ensures.items).0

pub returns-clause-err : goal.returns-clause-err
returns-clause-err c =
    (bytes_added c.extend_from_slice.result c.args.slots.now.items c.args.file c.index_mut-stored.result.now (record { is_there = c.index_mut-stored.result.now.is_there; bytes = c.extend_from_slice.new.self }) c.args.bytes.now c.requires c.index_mut-stored.ensures.value refl c.extend_from_slice.ensures.items).1

pub returns-clause-there : goal.returns-clause-there
returns-clause-there c =
    let old = c.args.slots.now.items in
    let next : Stored = record { is_there = c.index_mut-stored.result.now.is_there; bytes = c.extend_from_slice.new.self } in
    let added = bytes_added c.extend_from_slice.result old c.args.file c.index_mut-stored.result.now next c.args.bytes.now c.requires c.index_mut-stored.ensures.value refl c.extend_from_slice.ensures.items in
    there_stays c.extend_from_slice.result (files_from 0 old) (files_from 0 (set old c.args.file next)) c.args.file (bytes_of (files_from 0 old) c.args.file ++ c.args.bytes.now) c.requires added.0 added.1
