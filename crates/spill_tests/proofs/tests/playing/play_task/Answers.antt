use Rattle.spill_tests.proofs.tests.playing.play_task.Goals as goal

pub live_through-live-requires-clause-nothing : goal.live_through-live-requires-clause-nothing
live_through-live-requires-clause-nothing g c = rw (c.of-account.ensures.worker, c.of-account.ensures.task, c.in_ok-task.ensures.begun) c.in_ok-task.ensures.nothing
