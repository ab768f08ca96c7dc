use Rattle.job_plan.proofs.MovedFilters.{numbers-and, numbers-or}
use Rattle.job_plan.proofs.filter_numbers.+put_filter.Goals as goal

pub put_one-returns-in-And : goal.put_one-returns-in-And
put_one-returns-in-And t c = rw (c.in-And.is, numbers-and c.in-And.parts) (rw c.items.ensures at c.put_each.ensures)

pub put_one-returns-in-Or : goal.put_one-returns-in-Or
put_one-returns-in-Or t c = rw (c.in-Or.is, numbers-or c.in-Or.parts) (rw c.items-in-Or.ensures at c.put_each-in-Or.ensures)
