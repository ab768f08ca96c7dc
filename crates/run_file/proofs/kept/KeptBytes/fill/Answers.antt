use Rattle.std.proofs.Common.{◌≡◌, ◌+◌, ◌-◌, ◌≤◌, min, length, rules, ◌∙◌}
use Rattle.run_file.specs.Readers.{most_kept}
use Rattle.run_file.proofs.Reaching.{ahead_stays, front_shown, same_ahead}
use Rattle.run_file.proofs.kept.KeptBytes.fill.Goals as goal

pub returns-in-Ok-clause-ahead : goal.returns-in-Ok-clause-ahead
returns-in-Ok-clause-ahead g c =
    let files = g.D.Disk.files c.args.disk.now in
    let run = c.args.run.now in
    let kept = c.keep_rest.new.self in
    let w = c.wanted_of-wanted.result in
    let le : kept.at + w ≤ run.bytes = search rules in
    let counted : kept.count ≡ length kept.rest = search rules in
    ahead_stays files run kept c.read_more.new.self w le counted c.read_more.ensures.count c.read_more.ensures.place c.in-Ok.ensures.read
    ∙ same_ahead files run c.args.self.now kept c.keep_rest.ensures.rest c.keep_rest.ensures.at

pub returns-in-Ok-clause-shows : goal.returns-in-Ok-clause-shows
returns-in-Ok-clause-shows g c =
    let files = g.D.Disk.files c.args.disk.now in
    let run = c.args.run.now in
    let kept = c.keep_rest.new.self in
    let w = c.wanted_of-wanted.result in
    let inside : kept.at ≤ run.bytes = search rules in
    let bound : kept.count ≤ most_kept run = search rules in
    let counted : kept.count ≡ length kept.rest = search rules in
    let w_is : w ≡ min (run.bytes - kept.at) (most_kept run - kept.count) = search rules in
    front_shown files run kept c.read_more.new.self w inside bound w_is counted c.read_more.ensures.count c.read_more.ensures.place c.in-Ok.ensures.read
