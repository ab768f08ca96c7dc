-- What each call does to a consumer.
-- This project's own.
use Rattle.std.specs.Prelude.{◌≡◌, ◌≢◌, ℕ, ◌+◌, ◌-◌, ◌≤◌, ◌<◌, ◌^◌, min, max, Bool, true, false, List, [], ◌∷◌, ◌++◌, Option, Some, Result, Ok, Err, length, All}
use Rattle.std.specs.List.{list_any}
use Rattle.std.specs.Ordering.{is_eq}
use Rattle.aggregate.specs.declared.kind.Kind.{Kind}
use Rattle.aggregate.specs.declared.kind.Kind.TheVariants.{Group}
use Rattle.aggregate.specs.Totals.{Entry, cost, costs, key_cmp}
pub use Rattle.aggregate.specs.Rows.{Ascends, entries_of, entry_of}
use Rattle.row_page.specs.Pages.{PageView}
use Rattle.consumer_trait.specs.States.{State, Rest, Spill, room, total_by, IsEntryBy, current}
use Rattle.consumer_trait.specs.declared.answers.Fed.{Fed}
use Rattle.consumer_trait.specs.declared.answers.Fed.TheVariants.{Taken, Need}
use Rattle.consumer_trait.specs.declared.answers.Turn.{Turn}
use Rattle.consumer_trait.specs.declared.answers.Turn.TheVariants.{Ask, Write, Freed, Done}

-- Feeding

-- whether some entry has this key
abbrev pub has_key : List ℕ → List Entry → Bool
has_key key entries = list_any (λ entry. is_eq (key_cmp key entry.key)) entries

-- nothing where the key is there
abbrev pub charge_at : Bool → Entry → ℕ
charge_at true entry = 0
charge_at false entry = cost entry

-- the bytes that an entry takes beside those in memory: in a group, none where its key is there
abbrev pub charge : Option Kind → List Entry → Entry → ℕ
charge (Some (Group aggs)) entries entry = charge_at (has_key entry.key entries) entry
charge kind entries entry = cost entry

-- the entry was taken, for which there was room
pub record Takes (old new : State) (entry : Entry) : Type 0 where
  pub same : new ≡ record old { entries = new.entries; fed = min (old.fed + 1) (2 ^ 64 - 1) }
  pub total : total_by old.kind new.entries ≡ total_by old.kind (old.entries ++ (entry ∷ []))
  pub fits : charge old.kind old.entries entry ≤ room old
  pub covered : costs new.entries ≤ new.used
  pub enough : cost entry ≤ new.used

-- the entry needs more room: what is missing is what it takes beyond the room
pub record Needs (old new : State) (entry : Entry) (must wish : ℕ) : Type 0 where
  pub same : new ≡ old
  pub short : room old < charge old.kind old.entries entry
  pub missing : must + room old ≡ charge old.kind old.entries entry
  pub wished : wish ≡ max must 16384
  pub covered : costs old.entries ≤ old.used

-- what the call with an entry did to the consumer: it was taken, or needs more room; a fault changes nothing
abbrev pub Feeds : {E : Type 0} → State → State → Entry → Result Fed E → Type 0
Feeds old new entry (Ok Taken) = Takes old new entry
Feeds old new entry (Ok (Need must wish)) = Needs old new entry must wish
Feeds old new entry (Err _) = new ≡ old

-- Turns of a spill

-- a row with a key and a value that the kind takes
pub record IsEntryRow (kind : Option Kind) (row : List (List ℕ)) : Type 0 where
  pub fields : length row ≡ 2
  pub entry : IsEntryBy kind (entry_of row)

-- the spill asks for further bytes, once, before it writes
pub record Asks (old new : State) (bytes : ℕ) : Type 0 where
  pub first : (current old).asked ≡ false
  pub before : (current old).wrote ≡ false
  pub some : 1 ≤ bytes
  pub most : bytes ≤ 2 ^ 50
  pub same : new ≡ record old { stage = Spill (record (current old) { asked = true }) }

-- the spill moves entries to the page, ascending, and has `left` still to write
pub record Writes (old new : State) (rows : List (List (List ℕ))) (left : List Entry) : Type 0 where
  pub same : new ≡ record old { entries = new.entries; stage = Spill (record (current old) { wrote = true; left = left }) }
  pub total : total_by old.kind (entries_of rows ++ new.entries) ≡ total_by old.kind old.entries
  pub some : 1 ≤ length rows
  pub moved : length rows + length new.entries ≡ length old.entries
  pub formed : All (IsEntryRow old.kind) rows
  pub ascends : Ascends old.kind (entries_of rows ++ left)
  pub follows : (current old).wrote ≡ true → entries_of rows ++ left ≡ (current old).left
  pub covered : costs new.entries ≤ new.used

-- the spill gives bytes back, once all is written
pub record Frees (old new : State) (bytes : ℕ) : Type 0 where
  pub written : (current old).left ≡ []
  pub some : 1 ≤ bytes
  pub most : bytes ≤ old.used
  pub same : new ≡ record old { used = old.used - bytes; stage = Spill (record (current old) { freed = true }) }
  pub covered : costs new.entries ≤ new.used

-- the spill ends: all was written, and where it wrote it gave back; a consumer that is empty uses nothing, and one that isn't
-- has at least the room that it had
pub record Ends (old new : State) : Type 0 where
  pub written : (current old).left ≡ []
  pub same : new ≡ record old { stage = Rest }
  pub nothing : (current old).wrote ≡ false → old.entries ≡ []
  pub gave : (current old).wrote ≡ true → (current old).freed ≡ true
  pub empty : old.entries ≡ [] → old.used ≡ 0
  pub gained : old.entries ≢ [] → (current old).mark ≤ room old

-- what no spill changes of a consumer, not even a turn that gives up, after which it may only be reset
pub record SameConsumer (old new : State) : Type 0 where
  pub kind : new.kind ≡ old.kind
  pub fed : new.fed ≡ old.fed
  pub least : new.least ≡ old.least
  pub serves : new.serves ≡ old.serves

-- what a turn did to the consumer and to the page
abbrev pub Turns : {E : Type 0} → State → State → PageView → PageView → Result Turn E → Type 0
Turns old new before after (Ok (Ask bytes)) = Asks old new bytes × (after ≡ before)
Turns old new before after (Ok Write) = Writes old new after.rows (current new).left × (after.room ≡ before.room)
Turns old new before after (Ok (Freed bytes)) = Frees old new bytes × (after ≡ before)
Turns old new before after (Ok Done) = Ends old new × (after ≡ before)
Turns old new before after (Err _) = SameConsumer old new × (after.room ≡ before.room)
