-- A page as contracts see it, and where its rows begin.
-- This project's own.
use Rattle.std.specs.Prelude.{◌≡◌, ℕ, ◌^◌, ◌<◌, ◌≤◌, List, [], length, drop, slice_index}
use Rattle.row_page.specs.Grammar.{IsPage}

-- a page's rows, each the list of its fields, and how many bytes its rows may have
pub record PageView : Type 0 where
  pub rows : List (List (List ℕ))
  pub room : ℕ

-- the room of a page that rows are landed, spilled and merged by, in bytes
abbrev pub page_room : ℕ
page_room = 262144

-- such a page without rows
abbrev pub empty_page : PageView
empty_page = record { rows = []; room = page_room }

-- at each place the page's bytes are the row of that number and those behind it
pub record HasPlaces (starts bytes : List ℕ) (rows : List (List (List ℕ))) : Type 0 where
  pub within : (i : ℕ) → i < length starts → slice_index starts i ≤ length bytes
  pub each : (i : ℕ) → i < length starts → IsPage (drop (slice_index starts i) bytes) (drop i rows)

-- what is true of each page
pub record IsSound (starts bytes : List ℕ) (room : ℕ) (rows : List (List (List ℕ))) : Type 0 where
  pub grammar : IsPage bytes rows
  pub count : length starts ≡ length rows
  pub places : HasPlaces starts bytes rows
  pub fits : length bytes ≤ room
  pub small : room ≤ 2 ^ 40
