use Rattle.turn_lock.proofs.Ends.{begins_with}
use Rattle.turn_lock.proofs.lock.TurnLock.new.Goals as goal

pub new-requires : goal.new-requires
new-requires g c = begins_with g.V.Kept.history g.V.Kept.fact c.args.value c.in_ok-slots.slots.items c.push.new.self.items c.in_ok-slots.ensures.items c.in_ok-push.ensures.items c.requires.empty c.requires.meets
