-- The least entry of the readers is given, and in a group those of its key are joined to it first.
use Rattle.std.proofs.Common.{◌≡◌, ℕ, ◌<◌, Bool, true, false, List, [], ◌∷◌, length, get_or, set, refl, sym, ap, subst, ◌∙◌, inl, inr, arith}
use Rattle.std.specs.Prelude.{Option, Some}
use Rattle.std.specs.List.{AllByRecursion}
use Rattle.std.specs.Ordering.{is_gt}
use Rattle.std.specs.declared.cmp.Ordering.TheVariants.{Less}
use Rattle.std.proofs.lemmas.Bool.{cases_Bool, cases_eq, cases_lt}
use Rattle.std.proofs.lemmas.List.{get_or-set_same, get_or-set_other, get_or_default, get_or_past}
use Rattle.aggregate.specs.declared.agg_list.Agg.{Agg}
use Rattle.aggregate.specs.declared.kind.Kind.{Kind}
use Rattle.aggregate.specs.declared.kind.Kind.TheVariants.{Group, Order}
use Rattle.aggregate.specs.PartialLaws.{IsAssociative}
use Rattle.aggregate.specs.Rows.{Ascends, StandsBefore, entries_of, entry_of}
use Rattle.aggregate.specs.Totals.{Entry, insert_entry, insert_group, key_cmp, total}
use Rattle.spill_disk.specs.Files.{Files}
use Rattle.row_form.specs.declared.form.Form.TheVariants.{Entries}
use Rattle.run_file.specs.Readers.{ReaderView}
use Rattle.row_form.specs.Forms.{HasForm}
use Rattle.run_merge.specs.Giving.{AreComing, AllAbove, Gives, IsTaken, NoneBelow}
use Rattle.run_file.specs.Reading.{row_at}
use Rattle.run_file.specs.AtEntries.{entry_at}
use Rattle.run_file.specs.Several.{concatenated}
use Rattle.run_merge.specs.Heads.{has_head, IsFirst}
use Rattle.run_merge.specs.Merging.{AreLeft}
use Rattle.run_merge.specs.Orders.{BeginsApart, IsOrder}
use Rattle.run_merge.proofs.Finishing.{reader_at}
use Rattle.run_merge.proofs.Orders.{all_apart, head_within}
use Rattle.run_merge.proofs.Inserting.{insert_first, insert_joined, joint, total-keys}
use Rattle.run_merge.proofs.KeyOrders.{less_not_gt}
use Rattle.run_merge.proofs.Rising.{all_at, all_concatenated, all_entries, all_set, all_weaker, others_ascend, others_behind, pulled, rows_above, rows_not_below}
use Rattle.run_merge.proofs.Taking.{left_taken, lists_left, none_left, standing_at}

abbrev Row : Type 0
Row = List (List ℕ)

nothing_ascends : (kind : Kind) → Ascends (Some kind) (entries_of [])
nothing_ascends kind = λ i j d lt within. absurd (omega arith)

-- what is left of the lists behind a row that was taken
record Rest (kind : Kind) (lists : List (List Row)) (i : ℕ) (row : Row) (rows : List Row) : Type 0 where
  formed : AllByRecursion (λ rs. AllByRecursion (HasForm (Entries kind)) rs) (set lists i rows)
  ascend : AllByRecursion (λ rs. Ascends (Some kind) (entries_of rs)) (set lists i rows)
  ascends : Ascends (Some kind) (entries_of (row ∷ rows))

rest_of : (kind : Kind) (lists : List (List Row)) (i : ℕ) (row : Row) (rows : List Row) → get_or lists i [] ≡ row ∷ rows → AllByRecursion (λ rs. AllByRecursion (HasForm (Entries kind)) rs) lists → AllByRecursion (λ rs. Ascends (Some kind) (entries_of rs)) lists → Rest kind lists i row rows
rest_of kind lists i row rows is formed ascend =
    let here : AllByRecursion (HasForm (Entries kind)) (row ∷ rows) = subst (AllByRecursion (HasForm (Entries kind))) is (all_at (λ rs. AllByRecursion (HasForm (Entries kind)) rs) lists i [] tt formed) in
    let rises : Ascends (Some kind) (entries_of (row ∷ rows)) = subst (λ (rs : List Row). Ascends (Some kind) (entries_of rs)) is (all_at (λ rs. Ascends (Some kind) (entries_of rs)) lists i [] (nothing_ascends kind) ascend) in
    record {
      formed = all_set (λ rs. AllByRecursion (HasForm (Entries kind)) rs) lists i rows here.1 formed;
      ascend = all_set (λ rs. Ascends (Some kind) (entries_of rs)) lists i rows (others_ascend kind row rows rises) ascend;
      ascends = rises;
    }

-- the keys of a list compare with a key as that of its first row does
list_not_below : (kind : Kind) (lists : List (List Row)) (i : ℕ) (key : List ℕ) (row : Row) (rows : List Row) → get_or lists i [] ≡ row ∷ rows → AllByRecursion (λ rs. Ascends (Some kind) (entries_of rs)) lists → is_gt (key_cmp key (entry_of row).key) ≡ false → NoneBelow key (get_or lists i [])
list_not_below kind lists i key row rows is ascend first =
    let rises : Ascends (Some kind) (entries_of (row ∷ rows)) = subst (λ (rs : List Row). Ascends (Some kind) (entries_of rs)) is (all_at (λ rs. Ascends (Some kind) (entries_of rs)) lists i [] (nothing_ascends kind) ascend) in
    subst (NoneBelow key) (sym is) (rows_not_below kind key row rows first rises)

list_above : (kind : Kind) (lists : List (List Row)) (i : ℕ) (key : List ℕ) (row : Row) (rows : List Row) → get_or lists i [] ≡ row ∷ rows → AllByRecursion (λ rs. Ascends (Some kind) (entries_of rs)) lists → key_cmp key (entry_of row).key ≡ Less → AllAbove key (get_or lists i [])
list_above kind lists i key row rows is ascend first =
    let rises : Ascends (Some kind) (entries_of (row ∷ rows)) = subst (λ (rs : List Row). Ascends (Some kind) (entries_of rs)) is (all_at (λ rs. Ascends (Some kind) (entries_of rs)) lists i [] (nothing_ascends kind) ascend) in
    subst (AllAbove key) (sym is) (rows_above kind key row rows first rises)

not_below_weaker : (key : List ℕ) (rows : List Row) → AllAbove key rows → NoneBelow key rows
not_below_weaker key rows above =
    all_weaker (λ r. key_cmp key (entry_of r).key ≡ Less) (λ r. is_gt (key_cmp key (entry_of r).key) ≡ false) (λ r h. less_not_gt (key_cmp key (entry_of r).key) h) rows above

-- the first of the readers was taken
record IsPulled (files : ℕ → Option Files) (kind : Kind) (readers : List ReaderView) (heads : List Bool) (place : ℕ) (row : Row) (entries : List Entry) : Type 0 where
  lists : List (List Row)
  rows : List Row
  left : AreLeft files false readers (set heads place false) (set lists place rows)
  rest : Rest kind lists place row rows
  done : (k : ℕ) → k < place → AllAbove (entry_of row).key (get_or (set lists place rows) k [])
  todo : (k : ℕ) → place < k → NoneBelow (entry_of row).key (get_or (set lists place rows) k [])
  ended : (k : ℕ) → place < k → has_head (set heads place false) k ≡ false → get_or (set lists place rows) k [] ≡ []
  here : get_or (set lists place rows) place [] ≡ rows
  are : entries ≡ insert_entry kind (entry_of row) (total kind (entries_of (concatenated (set lists place rows))))

pulled_first : (files : ℕ → Option Files) (kind : Kind) (readers : List ReaderView) (heads : List Bool) (place : ℕ) (first : ReaderView) (entries : List Entry) → first ≡ get_or readers place first → IsFirst readers heads place
    → AreComing files true kind readers heads entries → IsPulled files kind readers heads place (row_at first) entries
pulled_first files kind readers heads place first entries first-is least coming =
    let stands = standing_at files true readers heads coming.lists place first least.within first-is least.stands coming.left in
    let key = (entry_at first).key in
    let count = lists_left files true readers heads coming.lists coming.left in
    let before : (k : ℕ) → k < place → AllAbove key (get_or coming.lists k []) = λ k lt.
    elim (cases_Bool (has_head heads k)) [
      | inl head ↦
          let reader : ReaderView = get_or readers k first in
          let within : k < length readers = omega (arith, lt, least.within) in
          let is : reader ≡ get_or readers k reader = get_or_default readers k first reader within in
          let other = standing_at files true readers heads coming.lists k reader within is head coming.left in
          list_above kind coming.lists k key (row_at reader) other.rows other.are coming.ascend (least.before first first-is k reader within is lt head)
      | inr none ↦ subst (AllAbove key) (sym (none_left files readers heads coming.lists coming.left k none)) tt
    ] in
    let behind : (k : ℕ) → place < k → NoneBelow key (get_or coming.lists k []) = λ k lt.
    elim (cases_lt k (length readers)) [
      | inl within ↦
          elim (cases_Bool (has_head heads k)) [
            | inl head ↦
                let reader : ReaderView = get_or readers k first in
                let is : reader ≡ get_or readers k reader = get_or_default readers k first reader within in
                let other = standing_at files true readers heads coming.lists k reader within is head coming.left in
                list_not_below kind coming.lists k key (row_at reader) other.rows other.are coming.ascend (least.behind first first-is k reader within is (omega arith) head)
            | inr none ↦ subst (NoneBelow key) (sym (none_left files readers heads coming.lists coming.left k none)) tt
          ]
      | inr past ↦ subst (NoneBelow key) (sym (get_or_past coming.lists k [] (omega (arith, count)))) tt
    ] in
    let other : (k : ℕ) → (k ≡ place → ⊥) → get_or (set coming.lists place stands.rows) k [] ≡ get_or coming.lists k [] = λ k apart. get_or-set_other coming.lists place k stands.rows [] apart in
    record {
      lists = coming.lists;
      rows = stands.rows;
      left = left_taken files true readers heads coming.lists place (row_at first) stands.rows least.stands stands.are coming.left;
      rest = rest_of kind coming.lists place (row_at first) stands.rows stands.are coming.formed coming.ascend;
      done = λ k lt. subst (AllAbove key) (sym (other k (λ e. absurd (omega arith)))) (before k lt);
      todo = λ k lt. subst (NoneBelow key) (sym (other k (λ e. absurd (omega arith)))) (behind k lt);
      ended = λ k lt none.
          let apart : k ≡ place → ⊥ = λ e. absurd (omega arith) in
          other k apart ∙ none_left files readers heads coming.lists coming.left k (sym (get_or-set_other heads place k false false apart) ∙ none);
      here = get_or-set_same coming.lists place stands.rows [] (omega (arith, count, least.within));
      are = coming.are ∙ pulled kind coming.lists place (row_at first) stands.rows stands.are before;
    }

-- no key that is left is below it
pulled_above : (files : ℕ → Option Files) (kind : Kind) (readers : List ReaderView) (heads : List Bool) (place : ℕ) (row : Row) (entries : List Entry) → (p : IsPulled files kind readers heads place row entries) → NoneBelow (entry_of row).key p.rows
    → (k : ℕ) → NoneBelow (entry_of row).key (get_or (set p.lists place p.rows) k [])
pulled_above files kind readers heads place row entries p own k =
    let key = (entry_of row).key in
    elim (cases_lt k place) [
      | inl below ↦ not_below_weaker key (get_or (set p.lists place p.rows) k []) (p.done k below)
      | inr from ↦
          elim (cases_eq k place) [
            | inl same ↦ subst (NoneBelow key) (sym (ap (λ (n : ℕ). get_or (set p.lists place p.rows) n []) same ∙ p.here)) own
            | inr apart ↦ p.todo k (omega (arith, apart))
          ]
    ]

-- an entry that stands before all that is left is given
given_first : (files : ℕ → Option Files) (kind : Kind) (readers : List ReaderView) (heads : List Bool) (lists : List (List Row)) (row : Row) (entry : Entry) (entries : List Entry) → row ≡ entry.key ∷ (entry.value ∷ [])
    → AreLeft files false readers heads lists → AllByRecursion (λ rs. AllByRecursion (HasForm (Entries kind)) rs) lists → AllByRecursion (λ rs. Ascends (Some kind) (entries_of rs)) lists
    → AllByRecursion (λ e. StandsBefore (Some kind) entry e) (total kind (entries_of (concatenated lists))) → entries ≡ insert_entry kind entry (total kind (entries_of (concatenated lists)))
    → Gives files kind readers heads row entries
given_first files kind readers heads lists row entry entries row-is left formed ascend before are =
    let whole : entries ≡ entry ∷ total kind (entries_of (concatenated lists)) = are ∙ insert_first kind entry (total kind (entries_of (concatenated lists))) before in
    subst (Gives files kind readers heads row) (sym whole) (row-is, record { lists = lists; left = left; formed = formed; ascend = ascend; are = refl })

-- where entries of one key stay side by side, the first is given as it is
pub order_given : (files : ℕ → Option Files) (readers : List ReaderView) (heads : List Bool) (place : ℕ) (first : ReaderView) (row : Row) (entries : List Entry) → row ≡ (entry_at first).key ∷ ((entry_at first).value ∷ [])
    → first ≡ get_or readers place first → IsFirst readers heads place → AreComing files true Order readers heads entries → Gives files Order readers (set heads place false) row entries
order_given files readers heads place first row entries row-is first-is least coming =
    let p = pulled_first files Order readers heads place first entries first-is least coming in
    let key = (entry_at first).key in
    let own : NoneBelow key p.rows = others_behind Order (row_at first) p.rows p.rest.ascends in
    let none = pulled_above files Order readers heads place (row_at first) entries p own in
    let all = all_concatenated (λ r. is_gt (key_cmp key (entry_of r).key) ≡ false) (set p.lists place p.rows) none in
    let before = total-keys (λ k. is_gt (key_cmp key k) ≡ false) Order (entries_of (concatenated (set p.lists place p.rows))) (all_entries (λ e. is_gt (key_cmp key e.key) ≡ false) (concatenated (set p.lists place p.rows)) all) in
    given_first files Order readers (set heads place false) (set p.lists place p.rows) row (entry_at first) entries row-is p.left p.rest.formed p.rest.ascend before p.are

-- in a group the first is taken, and its run has no other of its key
pub group_taken : (files : ℕ → Option Files) (aggs : List Agg) (readers : List ReaderView) (heads : List Bool) (place : ℕ) (first : ReaderView) (entries : List Entry) → first ≡ get_or readers place first → IsFirst readers heads place
    → AreComing files true (Group aggs) readers heads entries → IsTaken files (Group aggs) readers (set heads place false) (entry_at first) entries
group_taken files aggs readers heads place first entries first-is least coming =
    let p = pulled_first files (Group aggs) readers heads place first entries first-is least coming in
    let key = (entry_at first).key in
    let own : AllAbove key p.rows = others_behind (Group aggs) (row_at first) p.rows p.rest.ascends in
    record {
      lists = set p.lists place p.rows;
      left = p.left;
      formed = p.rest.formed;
      ascend = p.rest.ascend;
      none_below = pulled_above files (Group aggs) readers heads place (row_at first) entries p (not_below_weaker key p.rows own);
      taken = λ k none.
          elim (cases_lt k place) [
            | inl below ↦ p.done k below
            | inr from ↦
                elim (cases_eq k place) [
                  | inl same ↦ subst (AllAbove key) (sym (ap (λ (n : ℕ). get_or (set p.lists place p.rows) n []) same ∙ p.here)) own
                  | inr apart ↦ subst (AllAbove key) (sym (p.ended k (omega (arith, apart, from)) none)) tt
                ]
          ];
      are = p.are;
    }

-- the next that stands at the key is joined
pub joined_one : (files : ℕ → Option Files) (aggs : List Agg) → IsAssociative → (readers : List ReaderView) (heads : List Bool) (next : ℕ) (reader : ReaderView) (entry : Entry) (entries : List Entry) → IsFirst readers heads next → reader ≡ get_or readers next reader → (entry_at reader).key ≡ entry.key
    → IsTaken files (Group aggs) readers heads entry entries → IsTaken files (Group aggs) readers (set heads next false) (joint aggs entry (entry_at reader)) entries
joined_one files aggs assoc readers heads next reader entry entries first is same_key h =
    let stands = standing_at files false readers heads h.lists next reader first.within is first.stands h.left in
    let rest = rest_of (Group aggs) h.lists next (row_at reader) stands.rows stands.are h.formed h.ascend in
    let key = (entry_at reader).key in
    let own : AllAbove entry.key stands.rows = subst (λ (k : List ℕ). AllAbove k stands.rows) same_key (others_behind (Group aggs) (row_at reader) stands.rows rest.ascends) in
    let count = lists_left files false readers heads h.lists h.left in
    let here : get_or (set h.lists next stands.rows) next [] ≡ stands.rows = get_or-set_same h.lists next stands.rows [] (omega (arith, count, first.within)) in
    let other : (k : ℕ) → (k ≡ next → ⊥) → get_or (set h.lists next stands.rows) k [] ≡ get_or h.lists k [] = λ k apart. get_or-set_other h.lists next k stands.rows [] apart in
    let at_next : (k : ℕ) → k ≡ next → get_or (set h.lists next stands.rows) k [] ≡ stands.rows = λ k same. ap (λ (m : ℕ). get_or (set h.lists next stands.rows) m []) same ∙ here in
    let above : (k : ℕ) → k < next → AllAbove key (get_or h.lists k []) = λ k below.
    elim (cases_Bool (has_head heads k)) [
      | inl head ↦
          let before : ReaderView = get_or readers k reader in
          let within : k < length readers = omega (arith, below, first.within) in
          let before-is : before ≡ get_or readers k before = get_or_default readers k reader before within in
          let its = standing_at files false readers heads h.lists k before within before-is head h.left in
          list_above (Group aggs) h.lists k key (row_at before) its.rows its.are h.ascend (first.before reader is k before within before-is below head)
      | inr none ↦ subst (λ (k' : List ℕ). AllAbove k' (get_or h.lists k [])) (sym same_key) (h.taken k none)
    ] in
    let behind = total (Group aggs) (entries_of (concatenated (set h.lists next stands.rows))) in
    record {
      lists = set h.lists next stands.rows;
      left = left_taken files false readers heads h.lists next (row_at reader) stands.rows first.stands stands.are h.left;
      formed = rest.formed;
      ascend = rest.ascend;
      none_below = λ k.
          elim (cases_eq k next) [
            | inl same ↦ subst (NoneBelow entry.key) (sym (at_next k same)) (not_below_weaker entry.key stands.rows own)
            | inr apart ↦ subst (NoneBelow entry.key) (sym (other k apart)) (h.none_below k)
          ];
      taken = λ k none.
          elim (cases_eq k next) [
            | inl same ↦ subst (AllAbove entry.key) (sym (at_next k same)) own
            | inr apart ↦ subst (AllAbove entry.key) (sym (other k apart)) (h.taken k (sym (get_or-set_other heads next k false false apart) ∙ none))
          ];
      are = h.are ∙ ap (insert_group aggs entry) (pulled (Group aggs) h.lists next (row_at reader) stands.rows stands.are above)
          ∙ insert_joined aggs assoc entry (entry_at reader) behind (sym same_key);
    }

-- once the next stands at another key, the entry is given
pub group_given : (files : ℕ → Option Files) (aggs : List Agg) (readers : List ReaderView) (heads : List Bool) (order : List ℕ) (row : Row) (entry : Entry) (entries : List Entry) → row ≡ entry.key ∷ (entry.value ∷ []) → length heads ≡ length readers → IsOrder readers heads order → BeginsApart readers order entry.key
    → IsTaken files (Group aggs) readers heads entry entries → Gives files (Group aggs) readers heads row entries
group_given files aggs readers heads order row entry entries row-is count is apart h =
    let none_below : (k : ℕ) (reader : ReaderView) → k < length readers → reader ≡ get_or readers k reader → has_head heads k ≡ true → is_gt (key_cmp entry.key (entry_at reader).key) ≡ false = λ k reader lt reader-is head.
    let its = standing_at files false readers heads h.lists k reader lt reader-is head h.left in
    let all : NoneBelow entry.key (row_at reader ∷ its.rows) = subst (NoneBelow entry.key) its.are (h.none_below k) in
    all.0 in
    let each : (k : ℕ) → AllAbove entry.key (get_or h.lists k []) = λ k.
    elim (cases_Bool (has_head heads k)) [
      | inl head ↦
          let lt : k < length readers = omega (arith, count, head_within heads k head) in
          let r = reader_at readers k lt in
          let its = standing_at files false readers heads h.lists k r.0 lt r.1 head h.left in
          list_above (Group aggs) h.lists k entry.key (row_at r.0) its.rows its.are h.ascend (all_apart readers heads order entry.key count is apart none_below k r.0 lt r.1 head)
      | inr none ↦ h.taken k none
    ] in
    let all = all_concatenated (λ r. key_cmp entry.key (entry_of r).key ≡ Less) h.lists each in
    let before = total-keys (λ k. key_cmp entry.key k ≡ Less) (Group aggs) (entries_of (concatenated h.lists)) (all_entries (λ e. key_cmp entry.key e.key ≡ Less) (concatenated h.lists) all) in
    given_first files (Group aggs) readers heads h.lists row entry entries row-is h.left h.formed h.ascend before h.are
