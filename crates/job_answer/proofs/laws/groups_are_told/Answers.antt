use Rattle.job_answer.proofs.Groups.{groups-tell}
use Rattle.job_answer.proofs.laws.groups_are_told.Goals as goal

pub returns : goal.returns
returns c = groups-tell c.keys_in_order.ensures c.spellings_are_read_back.ensures c.partials_are_long.ensures c.partials_come_back.ensures
