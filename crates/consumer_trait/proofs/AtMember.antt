-- The states of a list of consumers, after a call on one of them.
use Rattle.std.proofs.Common.{◌≡◌, ℕ, ◌<◌, List, length, map, get_or, set, refl, sym, ap, ◌∙◌, arith}
use Rattle.std.proofs.lemmas.List.{map-set, get_or-map, length-map}
use Rattle.std.proofs.lemmas.Grind.{get_or-set_at}
use Rattle.consumer_trait.specs.States.{State}
use Rattle.consumer_trait.specs.Members.{blank, state_at, OnlyAt}

-- the state at a place is that of the member there, whatever stands for one past the end
pub state_at-is : {A : Type 0} (state_of : A → State) (members : List A) (i : ℕ) (default : A) → i < length members → state_at (map state_of members) i ≡ state_of (get_or members i default)
state_at-is state_of members i default within = get_or-map state_of members i default blank within

-- after a write the state at its place is that of what was written
pub state_at-set : {A : Type 0} (state_of : A → State) (members : List A) (i : ℕ) (member : A) → i < length members → state_at (map state_of (set members i member)) i ≡ state_of member
state_at-set state_of members i member within =
    ap (λ states. state_at states i) (map-set state_of members i member)
    ∙ get_or-set_at (map state_of members) i i (state_of member) blank refl (let same_length = length-map members state_of in omega arith)

-- and the others are as they were
pub only_at-set : {A : Type 0} (state_of : A → State) (members : List A) (i : ℕ) (member : A) → i < length members → OnlyAt (map state_of members) (map state_of (set members i member)) i
only_at-set state_of members i member within = map-set state_of members i member ∙ ap (λ s. set (map state_of members) i s) (sym (state_at-set state_of members i member within))
