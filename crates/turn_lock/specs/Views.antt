-- The view that a pass's seat has at the lock's table: between two calls, and after each step.
-- This project's own.
use Rattle.std.specs.Prelude.{◌≡◌, ℕ, ◌+◌, ◌^◌, ◌≤◌, min, List, [], ◌∷◌, ◌++◌, Contains, Option, Some, None}
use Rattle.pool_ledger.specs.declared.entry.Entry.{Entry}
use Rattle.turn_lock.specs.declared.view.Stage.{Stage}
use Rattle.turn_lock.specs.declared.view.Stage.TheVariants.{Idle, Open, Taken}
use Rattle.turn_lock.specs.declared.view.View.{View}
use Rattle.turn_lock.specs.Parts.{longer}
use Rattle.turn_lock.specs.Passes.{LockId, WorkerView}

-- Between two calls

-- the history that the pass took the turn with, at a stage
abbrev pub base_of : Stage → Option (List Entry)
base_of Idle = None
base_of (Open base) = Some base
base_of (Taken base) = Some base

-- the stage between two calls of a pass that took the turn with this history
abbrev pub stage_of : Option (List Entry) → Stage
stage_of None = Idle
stage_of (Some base) = Taken base

-- what is left of a view that was joined into another: it speaks for no number
abbrev pub spent_view : View
spent_view = record { number = 0; speaks = []; spare = 2 ^ 32; seen = []; joined = []; told = []; stage = Idle }

-- the one view of a badge; a spent one, where it has none
abbrev pub view_of : List View → View
view_of [] = spent_view
view_of (view ∷ others) = view

-- what contracts see of a view of this lock
abbrev pub state_of : LockId → View → WorkerView
state_of lock view = record { lock = lock; number = view.number; speaks = view.speaks; spare = view.spare; seen = view.seen; base = base_of view.stage }

-- the view of a pass between two calls
abbrev pub view_at : WorkerView → View
view_at pass = record { number = pass.number; speaks = pass.speaks; spare = pass.spare; seen = pass.seen; joined = []; told = []; stage = stage_of pass.base }

-- a pass between two calls: its one view is that of its state, and its two numbers are the view's
abbrev pub IsAtRest : ℕ → ℕ → LockId → List View → Type 0
IsAtRest number spare lock views =
    (views ≡ view_at (state_of lock (view_of views)) ∷ [])
    × ((view_of views).number ≡ number)
    × ((view_of views).spare ≡ spare)
    × (spare ≤ 2 ^ 32)
    × Contains (view_of views).speaks number

-- After each step

-- the view of the first pass
abbrev pub first_view : View
first_view = record { number = 0; speaks = 0 ∷ []; spare = 1; seen = []; joined = []; told = []; stage = Idle }

-- the view at another stage
abbrev pub staged_view : Stage → View → View
staged_view stage view = record view { stage = stage }

-- the view, after the rest of the numbers went to a new pass
abbrev pub emptied_view : View → View
emptied_view view = record view { spare = 2 ^ 32 }

-- the view of a new pass that takes the rest of another's numbers
abbrev pub split_view : View → View
split_view view = record { number = view.spare; speaks = view.spare ∷ []; spare = view.spare + 1; seen = view.seen; joined = []; told = []; stage = Idle }

-- one view for two: what the other spoke for and has seen stays apart until a load compares the two lists
abbrev pub joined_view : View → View → View
joined_view view other = record { number = view.number; speaks = view.speaks; spare = min view.spare other.spare; seen = view.seen; joined = other.speaks; told = other.seen; stage = view.stage }

-- the view, after its two lists were compared
abbrev pub settled_view : View → View
settled_view view = record { number = view.number; speaks = view.speaks ++ view.joined; spare = view.spare; seen = longer view.seen view.told; joined = []; told = []; stage = view.stage }

-- the view, after a value with this history was given back
abbrev pub resting_view : List Entry → View → View
resting_view seen view = record view { seen = seen; stage = Idle }
