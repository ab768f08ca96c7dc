-- Worked answers: three rows of a city and a number, as groups and in order.
use Rattle.std.proofs.Common.{◌≡◌, ◌∙◌, true, false, List, [], ◌∷◌, Some, None, codes, refl, pos, negsuc}
use Rattle.aggregate.specs.declared.agg_list.Agg.TheVariants.{Count, Sum, Min, Max}
use Rattle.job_text.specs.declared.job.Job.{Job}
use Rattle.job_text.specs.declared.job.Part.{Part}
use Rattle.job_text.specs.declared.job.Shape.TheVariants.{Order}
use Rattle.job_plan.specs.Columns.{Fields}
use Rattle.job_answer.specs.Answer.{arranged, group_of, groups}
use Rattle.job_answer.specs.Output.{shape_rows}
use Rattle.job_answer.proofs.Classes.{entries-classes}
use Rattle.job_answer.proofs.Groups.{tell}

abbrev cities : Job
cities = record { names = codes "city" ∷ codes "n" ∷ []; datasets = []; queries = [] }

-- a column that the job doesn't name stands between those that it does
abbrev head : Fields
head = codes "n" ∷ codes "note" ∷ codes "city" ∷ []

abbrev visits : List Fields
visits =
    (codes "10" ∷ codes "a" ∷ codes "Oslo" ∷ [])
    ∷ (codes "+7" ∷ codes "b" ∷ codes "Bergen" ∷ [])
    ∷ (codes "-3" ∷ codes "c" ∷ codes "Oslo" ∷ [])
    ∷ []

abbrev parts_told : List Part
parts_told =
    record { agg = Count; column = None }
    ∷ record { agg = Sum; column = Some 1 }
    ∷ record { agg = Min; column = Some 1 }
    ∷ record { agg = Max; column = Some 1 }
    ∷ []

-- each city once, ascending, with the count, the sum, the least and the greatest of its numbers
cities_are_groups : groups cities head (0 ∷ []) parts_told visits
    ≡ (codes "Bergen" ∷ [], Some (pos 1) ∷ Some (pos 7) ∷ Some (pos 7) ∷ Some (pos 7) ∷ [])
    ∷ (codes "Oslo" ∷ [], Some (pos 2) ∷ Some (pos 7) ∷ Some (negsuc 2) ∷ Some (pos 10) ∷ []) ∷ []
cities_are_groups = entries-classes (group_of cities head (0 ∷ [])) (tell cities head (0 ∷ []) parts_told visits) visits ∙ refl

-- the greatest city first, and of one city the least number, which isn't the least text
cities_in_order : shape_rows cities head visits (Order (record { column = 0; number = false; down = true } ∷ record { column = 1; number = true; down = false } ∷ []) (1 ∷ []))
    ≡ (codes "-3" ∷ []) ∷ (codes "10" ∷ []) ∷ (codes "+7" ∷ []) ∷ []
cities_in_order = refl

-- rows that no item tells apart stand as they stood
equal_rows_stay : arranged cities head (record { column = 0; number = false; down = false } ∷ []) visits
    ≡ (codes "+7" ∷ codes "b" ∷ codes "Bergen" ∷ []) ∷ (codes "10" ∷ codes "a" ∷ codes "Oslo" ∷ []) ∷ (codes "-3" ∷ codes "c" ∷ codes "Oslo" ∷ []) ∷ []
equal_rows_stay = refl
