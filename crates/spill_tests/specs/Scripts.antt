-- What each step of a test's script keeps.
-- This project's own.
use Rattle.std.specs.Prelude.{◌≡◌, ◌≢◌, ℕ, ◌<◌, true, List, Some, length, slice_index}
use Rattle.aggregate.specs.declared.kind.Kind.{Kind}
use Rattle.aggregate.specs.declared.kind.Kind.TheVariants.{Order}
use Rattle.consumer_trait.specs.States.{State}
use Rattle.consumer_trait.specs.Members.{state_at}
use Rattle.task_pool.specs.Pools.{Goes}
use Rattle.task_memory.specs.Scenes.{IsLive, Scene}
use Rattle.task_memory.specs.Stacks.{IsDry}
use Rattle.task_memory.specs.Starting.{kind_at}

-- consumers that were begun keep entries one by one
abbrev pub AreOrders : List State → Type 0
AreOrders states = (i : ℕ) → i < length states → (kind : Kind) → (state_at states i).kind ≡ Some kind → kind ≡ Order

-- the memory of so many consumers is ready for the next step
pub record IsSet (scene : Scene) (count : ℕ) : Type 0 where
  pub live : IsLive scene
  pub consumers : length scene.stack.picks ≡ count
  pub orders : AreOrders scene.stack.states
  pub no_room : scene.roomed ≡ 0

-- the same once all are drained and the leasts are freed, where so many bytes were got as room
pub record IsFreed (scene : Scene) (count roomed : ℕ) : Type 0 where
  pub live : IsLive scene
  pub consumers : length scene.stack.picks ≡ count
  pub dry : IsDry scene.stack.states
  pub freed : scene.leasts ≡ 0
  pub room : scene.roomed ≡ roomed

-- the worker goes on with the same task, and what is lent is the same
abbrev pub GoesAlong : Scene → Scene → Type 0
GoesAlong old new = Goes old.pool new.pool × (new.lent ≡ old.lent)

-- four consumers that keep entries one by one
pub record AreFour (states : List State) : Type 0 where
  pub four : length states ≡ 4
  pub serve : (i : ℕ) → i < length states → (state_at states i).serves Order ≡ true

-- distinct places of four such consumers, each with the kind under which entries are kept one by one
pub record ArePlacesOfFour (picks : List ℕ) (kinds : List Kind) : Type 0 where
  pub as_many : length kinds ≡ length picks
  pub within : (j : ℕ) → j < length picks → slice_index picks j < 4
  pub distinct : (j k : ℕ) → j < k → k < length picks → slice_index picks j ≢ slice_index picks k
  pub orders : (j : ℕ) → kind_at kinds j ≡ Order
