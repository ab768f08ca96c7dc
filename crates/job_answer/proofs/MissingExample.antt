-- A worked answer over missing values: three rows of one group, of which one has no number, and two of another one, which
-- have none.
use Rattle.std.proofs.Common.{◌≡◌, ◌∙◌, ◌++◌, List, [], ◌∷◌, Option, Some, None, codes, map, refl, ap, ℤ, pos}
use Rattle.std.specs.Prelude.{option_map}
use Rattle.std.specs.Fmt.{digits}
use Rattle.std.specs.List.{find, flat_map, list_any}
use Rattle.csv.specs.Writing.{escaped, fields_text, is_blank}
use Rattle.aggregate.specs.declared.agg_list.Agg.TheVariants.{Count, Sum, Min, Max}
use Rattle.aggregate.specs.Spelling.{spelled}
use Rattle.job_text.specs.declared.job.Job.{Job}
use Rattle.job_text.specs.declared.job.Part.{Part}
use Rattle.job_text.specs.declared.job.Shape.TheVariants.{Group}
use Rattle.job_plan.specs.Columns.{Fields}
use Rattle.job_plan.specs.Plans.{heading_of}
use Rattle.job_plan.specs.Telling.{leaves_i64, told_field}
use Rattle.job_answer.specs.Answer.{group_of, groups}
use Rattle.job_answer.specs.Output.{output, shape_rows, shape_wide, text_of}
use Rattle.job_answer.proofs.Classes.{entries-classes}
use Rattle.job_answer.proofs.Groups.{tell}

abbrev head : Fields
head = codes "kind" ∷ codes "amount" ∷ []

abbrev rows : List Fields
rows =
    (codes "a" ∷ codes "5" ∷ [])
    ∷ (codes "b" ∷ [] ∷ [])
    ∷ (codes "a" ∷ [] ∷ [])
    ∷ (codes "a" ∷ codes "7" ∷ [])
    ∷ (codes "b" ∷ [] ∷ [])
    ∷ []

abbrev amount : List Part
amount = record { agg = Sum; column = Some 1 } ∷ record { agg = Min; column = Some 1 } ∷ record { agg = Max; column = Some 1 } ∷ []

abbrev parts : List Part
parts = record { agg = Count; column = None } ∷ amount

-- `group kind: count, sum amount, min amount, max amount`
abbrev job : Job
job = record { names = codes "kind" ∷ codes "amount" ∷ []; datasets = []; queries = record { dataset = 0; shape = Group (0 ∷ []) parts } ∷ [] }

-- a group, and what is told of it
abbrev Told : Type 0
Told = Fields × List (Option ℤ)

abbrev told : List Told
told =
    (codes "a" ∷ [], Some (pos 3) ∷ Some (pos 12) ∷ Some (pos 5) ∷ Some (pos 7) ∷ [])
    ∷ (codes "b" ∷ [], Some (pos 2) ∷ None ∷ None ∷ None ∷ [])
    ∷ []

-- each row is counted; what is told of the amounts passes over the missing ones, and is missing where all are
amounts_are_told : groups job head (0 ∷ []) parts rows ≡ told
amounts_are_told = entries-classes (group_of job head (0 ∷ [])) (tell job head (0 ∷ []) parts rows) rows ∙ refl

-- a missing one is an empty field of the table
amounts_as_fields : shape_rows job head rows (Group (0 ∷ []) parts)
    ≡ (codes "a" ∷ codes "3" ∷ codes "12" ∷ codes "5" ∷ codes "7" ∷ []) ∷ (codes "b" ∷ codes "2" ∷ [] ∷ [] ∷ [] ∷ []) ∷ []
unfolding digits
amounts_as_fields = ap (map (λ (group : Told). group.0 ++ map told_field group.1)) amounts_are_told

-- and it isn't too wide
none_is_wide : shape_wide job head rows (Group (0 ∷ []) parts) ≡ None
none_is_wide =
    ap (λ (found : List Told). option_map (λ (group : Told). flat_map spelled group.0) (find (λ (group : Told). list_any leaves_i64 group.1) found)) amounts_are_told

-- what is printed
amounts_are_printed : output job head rows ≡ codes "kind,count,sum_amount,min_amount,max_amount" ++ 10 ∷ codes "a,3,12,5,7" ++ 10 ∷ codes "b,2,,," ++ 10 ∷ []
unfolding output escaped fields_text is_blank
amounts_are_printed = ap (λ (found : List Fields). text_of (heading_of job.names (Group (0 ∷ []) parts) ∷ found)) amounts_as_fields
