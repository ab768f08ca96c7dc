-- The list of the blocks before the evictions that wait, and what an entry that may follow asks of the tables.
use Rattle.std.proofs.Common.{◌≡◌, ℕ, List, [], ◌∷◌, map, refl, sym, ap, subst, ◌∙◌, arith}
use Rattle.std.specs.Prelude.{nat_lt}
use Rattle.std.specs.List.{list_any}
use Rattle.eviction.specs.declared.candidate.Candidate.{Candidate}
use Rattle.pool_ledger.specs.declared.entry.Entry.{Entry}
use Rattle.pool_ledger.specs.declared.entry.Event.{Event}
use Rattle.pool_ledger.specs.declared.entry.Event.TheVariants.{Admit, Evict}
use Rattle.pool_ledger.specs.Sizes.{Sizes}
use Rattle.pool_ledger.specs.History.{History, total}
use Rattle.pool_ledger.specs.Blocks.{Resident, is_pinned, pin_of, residents, unpin_of}
use Rattle.pool_ledger.specs.Legal.{settled, MayCome, MayFollow}
use Rattle.pool_laws.proofs.Settled.{absent_settled}
use Rattle.pool_plans.specs.Listed.{listed, seen_in}
use Rattle.pool_laws.specs.Growing.{entry_by}
use Rattle.journal_replay.specs.declared.replay.Replay.{Replay}
use Rattle.journal_replay.specs.Replays.{history_of, IsReplay, TellsHistory}
use Rattle.journal_replay.specs.Tables.{candidate_in, is_pin, IsNewBlock}
use Rattle.journal_replay.specs.UseOrder.{candidates_of, residents_in}
use Rattle.journal_replay.proofs.Noted.{pinned_is}

-- a replay of a history is that of its own entries
pub is_replay : (replay : Replay) (h : History) → TellsHistory replay h → IsReplay replay
is_replay replay h tells = subst (TellsHistory replay) (sym tells.turns.same) tells

map_same : (f g : Resident → Candidate) → ((block : Resident) → f block ≡ g block) → (blocks : List Resident) → map f blocks ≡ map g blocks
map_same f g same [] = refl
map_same f g same (block ∷ blocks) =
    ap (λ (c : Candidate). c ∷ map f blocks) (same block) ∙ ap (λ (cs : List Candidate). g block ∷ cs) (map_same f g same blocks)

-- evictions pin no block
pinned_settled : (h : History) (d p : ℕ) → is_pinned (settled h) d p ≡ is_pinned h d p
pinned_settled [] d p = refl
pinned_settled (entry ∷ before) d p = by entry.worker entry.event (pinned_settled before d p)
  where
    by : (w : ℕ) (e : Event) → is_pinned (settled before) d p ≡ is_pinned before d p → is_pinned (settled (entry_by w e ∷ before)) d p ≡ is_pinned (entry_by w e ∷ before) d p
    by w (Evict dataset part size fate) same =
        let after : History = entry_by w (Evict dataset part size fate) ∷ before in
        let unpins : total (unpin_of d p) before ≡ total (unpin_of d p) after = omega arith in
        let pins : total (pin_of d p) before ≡ total (pin_of d p) after = omega arith in
        same ∙ ap (λ n. nat_lt n (total (pin_of d p) before)) unpins ∙ ap (nat_lt (total (unpin_of d p) after)) pins
    by w _ same = refl

-- the blocks before the evictions that wait
pub listed_before : (replay : Replay) → IsReplay replay → candidates_of replay.tables.pins replay.turns.before.order.placed.entries ≡ listed replay.turns.ledger.history
listed_before replay tells =
    let base = replay.turns.ledger.history in
    let pinned : (d p : ℕ) → list_any (is_pin d p) replay.tables.pins ≡ is_pinned base d p = λ d p.
    pinned_is replay.tables.pins (history_of replay) tells.tables.pins d p ∙ sym (pinned_settled (history_of replay) d p) ∙ ap (λ (h : History). is_pinned h d p) tells.turns.base in
    map_same (candidate_in replay.tables.pins) (seen_in base)
    (λ block. ap (λ t. record { dataset = block.dataset; part = block.part; size = block.size; pinned = t }) (pinned block.dataset block.part))
    (residents_in replay.turns.before.order.placed.entries)
    ∙ ap (map (seen_in base)) tells.turns.before.blocks

-- An admission is of a block that isn't in memory

free_at : (s : Sizes) (h : History) (w : ℕ) (e : Event) → MayCome s h w e → IsNewBlock e (residents h)
free_at s h w (Admit d p size level borrowed evictions) may = absent_settled h d p may.absent
free_at s h w _ may = tt

pub is_free : (s : Sizes) (h : History) (entry : Entry) (blocks : List Resident) → blocks ≡ residents h → MayFollow s h entry → IsNewBlock entry.event blocks
is_free s h entry blocks same may = subst (IsNewBlock entry.event) (sym same) (free_at s h entry.worker entry.event may.event)
