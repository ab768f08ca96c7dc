-- What consumers that keep entries have in common: the numbers that they keep, their stage, and how an entry stands on a page.
-- This project's own.
use Rattle.std.specs.Prelude.{ℕ, Bool, true, false, List, [], ◌∷◌, Option, Some, None}
use Rattle.aggregate.specs.declared.agg_list.Agg.{Agg}
use Rattle.aggregate.specs.declared.kind.Kind.{Kind}
use Rattle.aggregate.specs.declared.kind.Kind.TheVariants.{Group, Order}
use Rattle.aggregate.specs.Totals.{Entry}
use Rattle.consumer_trait.specs.States.{State, Stage, Rest, Spill}
use Rattle.consumer_trait.specs.declared.usage.Usage.{Usage}

-- whether entries of this kind are kept one by one
abbrev pub is_order : Kind → Bool
is_order Order = true
is_order (Group aggs) = false

-- whether values of one key are combined
abbrev pub is_group : Kind → Bool
is_group (Group aggs) = true
is_group Order = false

-- the kind of a consumer of orders, once it was begun
abbrev pub order_if : Bool → Option Kind
order_if true = Some Order
order_if false = None

-- the kind of a consumer of groups, once it was begun with these aggregates
abbrev pub group_of : Option (List Agg) → Option Kind
group_of (Some aggs) = Some (Group aggs)
group_of None = None

-- the stage by flags, the first of which says whether the consumer spills
abbrev pub stage_by : Bool → Bool → Bool → Bool → ℕ → List Entry → Stage
stage_by true asked wrote freed mark left = Spill (record { asked = asked; wrote = wrote; freed = freed; mark = mark; left = left })
stage_by false asked wrote freed mark left = Rest

-- the numbers and flags of a consumer: the bytes that its entries cost, those that it was granted and has not given back, how
-- many entries it was ever fed, the room that there was when its spill began, and how far that has come
pub record Numbers : Type 0 where
  pub costs : ℕ
  pub used : ℕ
  pub fed : ℕ
  pub mark : ℕ
  pub spilling : Bool
  pub asked : Bool
  pub wrote : Bool
  pub freed : Bool

-- the same of what a consumer keeps
abbrev pub numbers_of : Usage → Numbers
numbers_of usage = record {
  costs = usage.costs;
  used = usage.used;
  fed = usage.fed;
  mark = usage.mark;
  spilling = usage.spilling;
  asked = usage.asked;
  wrote = usage.wrote;
  freed = usage.freed;
}

-- the numbers of a consumer that was fed so many entries and has nothing
abbrev pub fed_alone : ℕ → Numbers
fed_alone fed = record { costs = 0; used = 0; fed = fed; mark = 0; spilling = false; asked = false; wrote = false; freed = false }

-- the room when the spill began that the next turn belongs to
abbrev pub mark_by : Bool → ℕ → ℕ → ℕ
mark_by true mark room = mark
mark_by false mark room = room

-- a consumer with these numbers, which is of this kind, has these entries, and has `left` of them still to write
abbrev pub state_by : Option Kind → List Entry → List Entry → Usage → ℕ → (Kind → Bool) → State
state_by kind entries left usage least serves = record {
  kind = kind;
  entries = entries;
  fed = usage.fed;
  stage = stage_by usage.spilling usage.asked usage.wrote usage.freed usage.mark left;
  used = usage.used;
  least = least;
  serves = serves;
}

-- the fields that an entry has on a page
abbrev pub fields_of_entry : Entry → List (List ℕ)
fields_of_entry entry = entry.key ∷ (entry.value ∷ [])
