use Rattle.std.proofs.Common.{length, inl}
use Rattle.indexmap.specs.IndexMap.{with_value_at}
use Rattle.spill_disk.proofs.OpenFiles.{collected_after, covers_found, found_after, given_again, none_collected, on_ok, others_after, was_open}
use Rattle.spill_disk.proofs.folder_disk.read_open.Goals as goal

pub returns-clause-collected : goal.returns-clause-collected
returns-clause-collected g c =
    let kept = c.args.kept.now in
    let after = c.read_at.new.self in
    let found = found_after kept c.args.number c.args.at after c.get_index_mut.ensures.unique c.requires.open in
    on_ok c.read_at.result (collected_after (with_value_at kept c.args.at after) c.args.number after found c.read_at.ensures.collected)

pub returns-clause-given : goal.returns-clause-given
returns-clause-given g c short =
    let after = c.read_at.new.self in
    let found = found_after c.args.kept.now c.args.number c.args.at after c.get_index_mut.ensures.unique c.requires.open in
    rw found (c.read_at.ensures.given short)

pub returns-clause-again : goal.returns-clause-again
returns-clause-again g c =
    let kept = c.args.kept.now in
    let after = c.read_at.new.self in
    let found = found_after kept c.args.number c.args.at after c.get_index_mut.ensures.unique c.requires.open in
    let was = was_open kept c.args.number c.args.at c.in-Some.opened.now c.requires.open c.in-Some.ensures.value in
    on_ok c.read_at.result (given_again kept (with_value_at kept c.args.at after) c.args.number c.args.place (length c.args.buf.now) c.in-Some.opened.now after was found c.read_at.ensures.again_at c.read_at.ensures.again)

pub returns-clause-others : goal.returns-clause-others
returns-clause-others g c other apart =
    inl (others_after c.args.kept.now c.args.number c.args.at c.read_at.new.self c.get_index_mut.ensures.unique c.requires.open other apart)

pub returns-clause-still : goal.returns-clause-still
returns-clause-still g c none ahead short =
    let was = was_open c.args.kept.now c.args.number c.args.at c.in-Some.opened.now c.requires.open c.in-Some.ensures.value in
    let kept = c.args.kept.now in
    let lent = c.in-Some.opened.now in
    c.read_at.ensures.still (none_collected kept c.args.number lent was none) (covers_found kept c.args.number c.args.place (length c.args.buf.now) lent was ahead) short
