use Rattle.memory_core.proofs.Going.{go_on}
use Rattle.memory_core.proofs.state.states_go_on.Goals as goal

pub returns : goal.returns
returns c = go_on c.legal_histories_grow.ensures c.victims_go_one_by_one.ensures
