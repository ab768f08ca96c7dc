use Rattle.memory_lock.proofs.Answered.{last_answer}
use Rattle.memory_lock.proofs.answers.last_attempts_are_answered.Goals as goal

pub returns : goal.returns
returns c = last_answer
