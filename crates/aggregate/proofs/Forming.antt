-- A joint value is a value.
use Rattle.std.proofs.Common.{◌∷◌, [], ℕ, List, take, drop, refl}
use Rattle.std.proofs.lemmas.List.{take_at, drop_at}
use Rattle.aggregate.specs.declared.agg_list.Agg.{Agg}
use Rattle.aggregate.specs.Partial.{combined, joined, joined_bytes, partial_in}
use Rattle.aggregate.specs.Values.{ArePartials, IsPartial}
use Rattle.aggregate.proofs.Numbers.{partial-fits}
use Rattle.aggregate.proofs.Combining.{joined_suits, length-joined_bytes, read_suits}
use Rattle.aggregate.proofs.CombinedLaws.{joined-fits}

pub joint_formed : (agg : Agg) (a b : List ℕ) → IsPartial agg a → IsPartial agg (joined_bytes agg a b)
joint_formed agg a b (o, fits, is, suits) =
    (joined agg (partial_in a) (partial_in b), joined-fits agg (partial_in a) (partial_in b) (partial-fits a) (partial-fits b), refl, joined_suits agg (partial_in a) (partial_in b) (rw is (read_suits agg o suits)))

-- a joint value is a value
pub stays_formed : (aggs : List Agg) (a b : List ℕ) → ArePartials aggs a → ArePartials aggs (combined aggs a b)
stays_formed [] a b are = refl
stays_formed (agg ∷ aggs) a b are =
    let one = length-joined_bytes agg (take 17 a) (take 17 b) in
    rw (
      take_at (joined_bytes agg (take 17 a) (take 17 b)) (combined aggs (drop 17 a) (drop 17 b)) 17 one,
      drop_at (joined_bytes agg (take 17 a) (take 17 b)) (combined aggs (drop 17 a) (drop 17 b)) 17 one,
    )
    (joint_formed agg (take 17 a) (take 17 b) are.0, stays_formed aggs (drop 17 a) (drop 17 b) are.1)
