-- Joining partial values from the right is joining the numbers of those that are there.
use Rattle.std.proofs.Common.{◌≡◌, ◌∷◌, [], ◌∙◌, List, Option, Some, None, refl, ap, ℤ}
use Rattle.aggregate.specs.declared.agg_list.Agg.{Agg}
use Rattle.std.specs.Prelude.{◌++◌, option_to_list}
use Rattle.aggregate.specs.Partial.{joined, joined_number, present}

-- partial values, joined from the right
abbrev pub joint : Agg → Option ℤ → List (Option ℤ) → Option ℤ
joint agg a [] = a
joint agg a (b ∷ bs) = joined agg a (joint agg b bs)

-- numbers, joined from the right
abbrev pub joint_number : Agg → ℤ → List ℤ → ℤ
joint_number agg a [] = a
joint_number agg a (b ∷ bs) = joined_number agg a (joint_number agg b bs)

-- what numbers come to; none where there are none
abbrev pub joint_of : Agg → List ℤ → Option ℤ
joint_of agg [] = None
joint_of agg (n ∷ ns) = Some (joint_number agg n ns)

one-more : (agg : Agg) (a : Option ℤ) (ns : List ℤ) → joined agg a (joint_of agg ns) ≡ joint_of agg (option_to_list a ++ ns)
one-more agg None ns = refl
one-more agg (Some a) [] = refl
one-more agg (Some a) (n ∷ ns) = refl

pub joint-present : (agg : Agg) (a : Option ℤ) (bs : List (Option ℤ)) → joint agg a bs ≡ joint_of agg (present (a ∷ bs))
joint-present agg None [] = refl
joint-present agg (Some a) [] = refl
joint-present agg a (b ∷ bs) = ap (joined agg a) (joint-present agg b bs) ∙ one-more agg a (present (b ∷ bs))
