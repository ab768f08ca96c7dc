-- Each token that is read of a dataset keeps what was read written.
use Rattle.std.proofs.Common.{◌≡◌, ℕ, ◌+◌, ◌<◌, Bool, true, false, cond, List, [], ◌∷◌, ◌++◌, length, Option, Some, None, refl, sym, ap, subst, ◌∙◌, append_assoc, arith, ◌&&◌}
use Rattle.std.specs.Prelude.{IfSome, flat_map, option_and_then, nat_lt, nat_le, not}
use Rattle.std.proofs.lemmas.Bool.{ltb-true, not-true, and_parts, leb-true}
use Rattle.std.proofs.lemmas.List.{append-nil, length-append, length-map, map-append}
use Rattle.std.proofs.lemmas.List.Elements.{All-push}
use Rattle.job_text.specs.declared.mark.Mark.{Mark}
use Rattle.job_text.specs.declared.mark.Mark.TheVariants as marks
use Rattle.job_text.specs.declared.token.Token.{Token}
use Rattle.job_text.specs.declared.token.Token.TheVariants.{Fixed, Word}
use Rattle.job_text.specs.declared.job.Query.{Query}
use Rattle.job_text.specs.declared.job.Dataset.{Dataset}
use Rattle.pool_ledger.specs.declared.entry.Level.{Level}
use Rattle.pool_ledger.specs.declared.entry.Level.TheVariants as levels
use Rattle.job_text.specs.declared.state.At.{At}
use Rattle.job_text.specs.declared.state.At.TheVariants as at
use Rattle.job_text.specs.declared.state.Read.{Read}
use Rattle.job_text.specs.declared.state.State.{State}
use Rattle.job_text.specs.Columns.{place_of, dataset_names, is_among, number_of, with_names}
use Rattle.job_text.specs.Step.{after_name, after_equals, after_parent, after_made, after_keep, filter_ended, filtered, in_filter, dataset_ended, input_as, made_from, ended, one_more}
use Rattle.job_text.specs.Grammar.{WrittenSource, WrittenFilter, WrittenDataset, where_written, keep_written, WrittenQuery, ended_by, source_written, level_written, dataset_written, query_written}
use Rattle.job_text.specs.Rules.{IsFilterRight, filter_uses, dataset_uses, IsSourceRight, IsDatasetRight, AreDatasets, IsQueryRight, names_written}
use Rattle.job_text.specs.Grammar.{input, by_name}
use Rattle.row_filter.specs.declared.filter.Filter.{Filter}
use Rattle.job_text.specs.declared.filter_state.FilterState.{FilterState}
use Rattle.job_text.specs.FilterStep.{filter_start, filter_step, filter_steps, filter_at}
use Rattle.job_text.specs.FilterGrammar.{IsWrittenFilter}
use Rattle.std.proofs.lemmas.List.Concat.{flat_map-append}
use Rattle.job_text.proofs.FilterNames.{filter_steps-append}
use Rattle.job_text.proofs.FilterSound.{read_written as filter_read}
use Rattle.job_text.proofs.FilterUses.{token_names, filter_uses_are}
use Rattle.job_text.proofs.Fitting.{put}
use Rattle.job_text.proofs.Named.{with_names-append}
use Rattle.job_text.proofs.Names.{Reaches}
use Rattle.job_text.proofs.Spelled.{ended-push}
use Rattle.job_text.proofs.SoFar.{IsDatasetBegun, IsAtWritten, AreBefore, IsStateWritten, IsQueryWhole}

-- ---- each step keeps it

module _ (names : List (List ℕ)) (r : Read) (front : List Token) (before : AreBefore r front) where
  -- the names before the dataset at hand
  abbrev base : List (List ℕ)
  base = with_names [] (flat_map dataset_uses before.made)

  abbrev Goes : List Token → State → Type 0
  Goes back next = Reaches next.read.names names → IsStateWritten names (front ++ back) next

  pub goes_cond : (back : List Token) (b : Bool) (x : State) → (b ≡ true → Goes back x) → IfSome (cond b (Some x) None) (Goes back)
  goes_cond back true x h = h refl
  goes_cond back false x h = tt

  pub goes_none : (back : List Token) (b : Bool) (x : State) → (b ≡ false → Goes back x) → IfSome (cond b None (Some x)) (Goes back)
  goes_none back true x h = tt
  goes_none back false x h = h refl

  pub stays : (back : List Token) (place : At) → IsAtWritten names base r back place → Goes back (record { read = r; at = place })
  stays back place h = λ _. (front, back, refl, before, h)

  pub more : {A : Type 0} (back : List Token) (items : List A) (next : At) → (length items < 8 → IsAtWritten names base r back next) → IfSome (one_more r items next) (Goes back)
  more back items next h = goes_cond back (nat_lt (length items) 8) (record { read = r; at = next }) (λ t. stays back next (h (ltb-true _ _ t)))

  front_more : (q : WrittenQuery) → front ++ (query_written q ++ Fixed marks.Semicolon ∷ []) ≡ ended_by marks.Semicolon dataset_written before.made ++ ended_by marks.Semicolon query_written (before.written ++ q ∷ [])
  front_more q =
      let made = ended_by marks.Semicolon dataset_written before.made in
      let done = ended_by marks.Semicolon query_written before.written in
      let one : List Token = query_written q ++ Fixed marks.Semicolon ∷ [] in
      ap (λ (l : List Token). l ++ one) before.tokens_are ∙ append_assoc made done one
      ∙ ap (λ (l : List Token). made ++ l) (sym (append_assoc done (query_written q) (Fixed marks.Semicolon ∷ [])) ∙ sym (ended-push marks.Semicolon query_written before.written q))

  before_more : (query : Query) (q : WrittenQuery) → IsQueryRight (dataset_names r.datasets) q → length r.queries + 1 < 8 → AreBefore (record r { queries = r.queries ++ query ∷ [] }) (front ++ (query_written q ++ Fixed marks.Semicolon ∷ []))
  before_more query q right lt = record {
    made = before.made;
    written = before.written ++ q ∷ [];
    tokens_are = front_more q;
    names_are = before.names_are;
    made_right = before.made_right;
    made_few = before.made_few;
    as_many = omega (arith, before.as_many, length-append before.written (q ∷ []), length-append r.queries (query ∷ []));
    few = omega (arith, lt, length-append r.queries (query ∷ []));
    right = All-push (IsQueryRight (dataset_names r.datasets)) before.written q before.right right;
  }

  pub goes_ended : (back : List Token) (query : Query) (mark : Mark) → IsQueryWhole names base r back → IfSome (ended r query mark) (Goes (back ++ Fixed mark ∷ []))
  goes_ended back query marks.Semicolon h =
      goes_cond (back ++ Fixed marks.Semicolon ∷ []) (nat_lt (length r.queries + 1) 8) (put r.names r.datasets (r.queries ++ query ∷ []) at.Query) (λ t. λ _. (
        front ++ (query_written h.0 ++ Fixed marks.Semicolon ∷ []),
        [],
        ap (λ (l : List Token). front ++ (l ++ Fixed marks.Semicolon ∷ [])) h.1 ∙ sym (append-nil (front ++ (query_written h.0 ++ Fixed marks.Semicolon ∷ []))),
        before_more query h.0 h.2 (ltb-true _ _ t),
        refl,
      ))
  goes_ended back query _ h = tt

  -- ---- datasets

  none_written : (ws : List WrittenQuery) → length ws ≡ 0 → ended_by marks.Semicolon query_written ws ≡ []
  none_written [] e = refl
  none_written (w ∷ ws) e = absurd (omega (arith, e))

  datasets_push : (all names : List (List ℕ)) (made : List WrittenDataset) (w : WrittenDataset) → AreDatasets all names made → IsDatasetRight all (names ++ names_written made) w → AreDatasets all names (made ++ w ∷ [])
  datasets_push all names [] w h right = (subst (λ (l : List (List ℕ)). IsDatasetRight all l w) (append-nil names) right, tt)
  datasets_push all names (one ∷ made) w h right =
      (h.0, datasets_push all (names ++ one.name ∷ []) made w h.1 (subst (λ (l : List (List ℕ)). IsDatasetRight all l w) (sym (append_assoc names (one.name ∷ []) (names_written made))) right))

  -- the names behind one dataset more
  more_names : (w : WrittenDataset) → with_names [] (flat_map dataset_uses (before.made ++ w ∷ [])) ≡ with_names base (dataset_uses w)
  more_names w =
      ap (with_names []) (flat_map-append dataset_uses before.made (w ∷ []) ∙ ap (λ (l : List (List ℕ)). flat_map dataset_uses before.made ++ l) (append-nil (dataset_uses w)))
      ∙ with_names-append (flat_map dataset_uses before.made) (dataset_uses w) []

  all_right : (w : WrittenDataset) → r.names ≡ with_names base (dataset_uses w) → ((later : List (List ℕ)) → IsDatasetRight (with_names r.names later) (dataset_names r.datasets) w) → (later : List (List ℕ))
      → AreDatasets (with_names (with_names [] (flat_map dataset_uses (before.made ++ w ∷ []))) later) [] (before.made ++ w ∷ [])
  all_right w names_are right later =
      let all = with_names (with_names [] (flat_map dataset_uses (before.made ++ w ∷ []))) later in
      let one : with_names base (dataset_uses w ++ later) ≡ all = with_names-append (dataset_uses w) later base ∙ ap (λ (l : List (List ℕ)). with_names l later) (sym (more_names w)) in
      let other : with_names r.names later ≡ all = ap (λ (l : List (List ℕ)). with_names l later) (names_are ∙ sym (more_names w)) in
      datasets_push all [] before.made w (subst (λ (l : List (List ℕ)). AreDatasets l [] before.made) one (before.made_right (dataset_uses w ++ later)))
      (subst (λ (l : List (List ℕ)). IsDatasetRight all l w) before.names_are (subst (λ (l : List (List ℕ)). IsDatasetRight l (dataset_names r.datasets) w) other (right later)))

  dataset_front : (w : WrittenDataset) → length r.queries ≡ 0 → front ++ (dataset_written w ++ Fixed marks.Semicolon ∷ []) ≡ ended_by marks.Semicolon dataset_written (before.made ++ w ∷ []) ++ ended_by marks.Semicolon query_written before.written
  dataset_front w none =
      let made = ended_by marks.Semicolon dataset_written before.made in
      let one : List Token = dataset_written w ++ Fixed marks.Semicolon ∷ [] in
      let no = none_written before.written (before.as_many ∙ none) in
      ap (λ (l : List Token). l ++ one) (before.tokens_are ∙ ap (λ (l : List Token). made ++ l) no ∙ append-nil made)
      ∙ sym (append_assoc made (dataset_written w) (Fixed marks.Semicolon ∷ [])) ∙ sym (ended-push marks.Semicolon dataset_written before.made w)
      ∙ sym (append-nil (ended_by marks.Semicolon dataset_written (before.made ++ w ∷ []))) ∙ ap (λ (l : List Token). ended_by marks.Semicolon dataset_written (before.made ++ w ∷ []) ++ l) (sym no)

  abbrev dataset_before : (d : Dataset) (w : WrittenDataset) → d.name ≡ w.name → ((later : List (List ℕ)) → IsDatasetRight (with_names r.names later) (dataset_names r.datasets) w) → length r.queries ≡ 0 → length r.datasets < 8
      → r.names ≡ with_names base (dataset_uses w) → AreBefore (record r { datasets = r.datasets ++ d ∷ [] }) (front ++ (dataset_written w ++ Fixed marks.Semicolon ∷ []))
  dataset_before d w same right none few names_are = record {
    made = before.made ++ w ∷ [];
    written = before.written;
    tokens_are = dataset_front w none;
    names_are = map-append (λ dataset. dataset.name) r.datasets (d ∷ []) ∙ ap (λ (l : List (List ℕ)). l ++ d.name ∷ []) before.names_are ∙ ap (λ (n : List ℕ). names_written before.made ++ n ∷ []) same ∙ sym (map-append (λ dataset. dataset.name) before.made (w ∷ []));
    made_right = all_right w names_are right;
    made_few = omega (arith, few, length-append before.made (w ∷ []), ap length before.names_are, length-map r.datasets (λ dataset. dataset.name), length-map before.made (λ dataset. dataset.name));
    as_many = before.as_many;
    few = before.few;
    right = λ k d lt. absurd (omega (arith, lt, before.as_many, none));
  }

  pub goes_dataset : (back : List Token) (d : Dataset) (mark : Mark) → IsAtWritten names base r back (at.Kept d) → IfSome (dataset_ended r d mark) (Goes (back ++ Fixed mark ∷ []))
  goes_dataset back d marks.Semicolon h = λ _. (
    front ++ (dataset_written h.0 ++ Fixed marks.Semicolon ∷ []),
    [],
    ap (λ (l : List Token). front ++ (l ++ Fixed marks.Semicolon ∷ [])) h.1 ∙ sym (append-nil (front ++ (dataset_written h.0 ++ Fixed marks.Semicolon ∷ []))),
    dataset_before d h.0 h.5 h.2 h.3 h.4 h.6,
    (refl, h.3, h.6 ∙ sym (more_names h.0)),
  )
  goes_dataset back d _ h = tt

  -- a dataset with no level
  whole_dataset : (back : List Token) (d : Dataset) (source : WrittenSource) (filter : Option WrittenFilter) (level : Option Level) → back ≡ Fixed marks.Let ∷ Word d.name ∷ Fixed marks.Equal ∷ ((source_written source ++ where_written filter) ++ keep_written level)
      → IsDatasetBegun r d.name → IsSourceRight (dataset_names r.datasets) source → r.names ≡ with_names base (filter_uses filter) → ((later : List (List ℕ)) → IfSome filter (IsFilterRight (with_names r.names later))) → IsAtWritten names base r back (at.Kept d)
  whole_dataset back d source filter level e h right names_are filters = (
    record { name = d.name; source = source; filter = filter; level = level },
    e,
    λ later. record { short = h.short; new = h.new; source = right; filter = filters later },
    h.none,
    h.few,
    refl,
    names_are,
  )

  made_whole : (back : List Token) (d : Dataset) → IsAtWritten names base r back (at.Made d) → IsAtWritten names base r back (at.Kept d)
  made_whole back d h =
      let source = source_written h.0 in
      whole_dataset back d h.0 None None (h.1 ∙ ap (λ (l : List Token). Fixed marks.Let ∷ Word d.name ∷ Fixed marks.Equal ∷ l) (sym (append-nil source) ∙ sym (append-nil (source ++ [])))) h.2 h.3 h.4 (λ later. tt)

  pub goes_made : (back : List Token) (d : Dataset) (mark : Mark) → IsAtWritten names base r back (at.Made d) → IfSome (after_made r d mark) (Goes (back ++ Fixed mark ∷ []))
  unfolding filter_steps
  goes_made back d marks.Where h = stays (back ++ Fixed marks.Where ∷ []) (at.Filter d.name d.parent filter_start) (h.0, [], ap (λ (l : List Token). l ++ Fixed marks.Where ∷ []) h.1, h.2, h.3, nothing_read h.4)
    where
      nothing_read : r.names ≡ base → filter_steps base filter_start [] ≡ Some (r.names, filter_start)
      nothing_read e = ap (λ (l : List (List ℕ)). Some (l, filter_start)) (sym e)
  goes_made back d marks.Keep h = stays (back ++ Fixed marks.Keep ∷ []) (at.Level d) (
    h.0,
    None,
    ap (λ (l : List Token). l ++ Fixed marks.Keep ∷ []) h.1 ∙ ap (λ (l : List Token). Fixed marks.Let ∷ Word d.name ∷ Fixed marks.Equal ∷ (l ++ Fixed marks.Keep ∷ [])) (sym (append-nil (source_written h.0))),
    h.2,
    h.3,
    h.4,
    λ later. tt,
  )
  goes_made back d mark h = goes_dataset back d mark (made_whole back d h)

  level_whole : (back : List Token) (d : Dataset) (level : Level) → IsAtWritten names base r back (at.Level d) → IsAtWritten names base r (back ++ level_written level) (at.Kept (record d { level = Some level }))
  level_whole back d level h =
      whole_dataset (back ++ level_written level) (record d { level = Some level }) h.0 h.1 (Some level)
      (ap (λ (l : List Token). l ++ level_written level) h.2 ∙ ap (λ (l : List Token). Fixed marks.Let ∷ Word d.name ∷ Fixed marks.Equal ∷ l) (append_assoc (source_written h.0 ++ where_written h.1) (Fixed marks.Keep ∷ []) (level_written level)))
      h.3 h.4 h.5 h.6

  pub goes_keep : (back : List Token) (d : Dataset) (mark : Mark) → IsAtWritten names base r back (at.Level d) → IfSome (after_keep r d mark) (Goes (back ++ Fixed mark ∷ []))
  goes_keep back d marks.Memory h = stays (back ++ Fixed marks.Memory ∷ []) (at.Kept (record d { level = Some levels.Memory })) (level_whole back d levels.Memory h)
  goes_keep back d marks.Disk h = stays (back ++ Fixed marks.Disk ∷ []) (at.Kept (record d { level = Some levels.Disk })) (level_whole back d levels.Disk h)
  goes_keep back d _ h = tt

  -- ---- filters

  -- the names change, and nothing else
  abbrev pub renamed : (more : List (List ℕ)) → AreBefore (record r { names = more }) front
  renamed more = record {
    made = before.made;
    written = before.written;
    tokens_are = before.tokens_are;
    names_are = before.names_are;
    made_right = before.made_right;
    made_few = before.made_few;
    as_many = before.as_many;
    few = before.few;
    right = before.right;
  }

  -- the filter that was read
  filter_is : (fs : List Token) (s : FilterState) (filter : Filter) → filter_steps base filter_start fs ≡ Some (r.names, s) → filter_at s ≡ Some filter
      → (r.names ≡ with_names base (token_names fs)) × ((later : List (List ℕ)) → IsWrittenFilter (with_names r.names later) fs (token_names fs) filter)
  filter_is fs s filter e is = (
    (let w = filter_read base r.names [] fs s filter e is in sym w.1 ∙ ap (with_names base) (filter_uses_are (with_names r.names []) fs w.0 filter w.2)),
    λ later.
        let w = filter_read base r.names later fs s filter e is in
        subst (λ (l : List (List ℕ)). IsWrittenFilter (with_names r.names later) fs l filter) (filter_uses_are (with_names r.names later) fs w.0 filter w.2) w.2,
  )

  goes_filter_keep : (back : List Token) (name : List ℕ) (parent : ℕ) (s : FilterState) (o : Option Filter) → filter_at s ≡ o → IsAtWritten names base r back (at.Filter name parent s) → IfSome (filter_ended r name parent o marks.Keep) (Goes (back ++ Fixed marks.Keep ∷ []))
  goes_filter_keep back name parent s None e h = tt
  goes_filter_keep back name parent s (Some filter) e h =
      let is = filter_is h.1 s filter h.5 e in
      stays (back ++ Fixed marks.Keep ∷ []) (at.Level (made_from name parent (Some filter))) (
        h.0,
        Some (record { tokens = h.1; used = token_names h.1; means = filter }),
        ap (λ (l : List Token). l ++ Fixed marks.Keep ∷ []) h.2,
        h.3,
        h.4,
        is.0,
        is.1,
      )

  goes_filter_end : (back : List Token) (name : List ℕ) (parent : ℕ) (s : FilterState) (o : Option Filter) → filter_at s ≡ o → IsAtWritten names base r back (at.Filter name parent s) → IfSome (filter_ended r name parent o marks.Semicolon) (Goes (back ++ Fixed marks.Semicolon ∷ []))
  goes_filter_end back name parent s None e h = tt
  goes_filter_end back name parent s (Some filter) e h =
      let is = filter_is h.1 s filter h.5 e in
      let dataset = made_from name parent (Some filter) in
      goes_dataset back dataset marks.Semicolon (whole_dataset back dataset h.0 (Some (record { tokens = h.1; used = token_names h.1; means = filter })) None
      (h.2 ∙ ap (λ (l : List Token). Fixed marks.Let ∷ Word name ∷ Fixed marks.Equal ∷ l) (sym (append-nil (source_written h.0 ++ Fixed marks.Where ∷ h.1)))) h.3 h.4 is.0 is.1)

  goes_filtered : (back : List Token) (name : List ℕ) (parent : ℕ) (s : FilterState) (t : Token) (o : Option (List (List ℕ) × FilterState)) → filter_step r.names s t ≡ o → IsAtWritten names base r back (at.Filter name parent s)
      → IfSome (filtered r name parent o) (Goes (back ++ t ∷ []))
  unfolding filter_steps
  goes_filtered back name parent s t None e h = tt
  goes_filtered back name parent s t (Some next) e h = λ _. (
    front,
    back ++ t ∷ [],
    refl,
    renamed next.0,
    (
      h.0,
      h.1 ++ t ∷ [],
      ap (λ (l : List Token). l ++ t ∷ []) h.2 ∙ ap (λ (l : List Token). Fixed marks.Let ∷ Word name ∷ Fixed marks.Equal ∷ l) (append_assoc (source_written h.0) (Fixed marks.Where ∷ h.1) (t ∷ [])),
      record { none = h.3.none; few = h.3.few; short = h.3.short; new = h.3.new },
      h.4,
      one_more_token,
    ),
  )
    where
      one_more_token : filter_steps base filter_start (h.1 ++ t ∷ []) ≡ Some (next.0, next.1)
      one_more_token = filter_steps-append h.1 (t ∷ []) base filter_start ∙ ap (λ (o : Option (List (List ℕ) × FilterState)). option_and_then (λ next. filter_steps next.0 next.1 (t ∷ [])) o) h.5
          ∙ ap (λ (o : Option (List (List ℕ) × FilterState)). option_and_then (λ next. filter_steps next.0 next.1 []) o) e

  pub goes_in_filter : (back : List Token) (name : List ℕ) (parent : ℕ) (s : FilterState) (t : Token) → IsAtWritten names base r back (at.Filter name parent s) → IfSome (in_filter r name parent s t) (Goes (back ++ t ∷ []))
  goes_in_filter back name parent s (Fixed marks.Keep) h = goes_filter_keep back name parent s (filter_at s) refl h
  goes_in_filter back name parent s (Fixed marks.Semicolon) h = goes_filter_end back name parent s (filter_at s) refl h
  goes_in_filter back name parent s t h = goes_filtered back name parent s t (filter_step r.names s t) refl h

  -- a source that is known
  goes_parent : (back : List Token) (name : List ℕ) (source : WrittenSource) (parent : ℕ) → IsSourceRight (dataset_names r.datasets) source → IsAtWritten names base r back (at.DatasetSource name)
      → IfSome (after_parent r name (Some parent)) (Goes (back ++ source_written source))
  goes_parent back name source parent right h = stays (back ++ source_written source) (at.Made (made_from name parent None)) (source, ap (λ (l : List Token). l ++ source_written source) h.0, h.1, right, h.2)

  pub goes_parent_mark : (back : List Token) (name : List ℕ) (mark : Mark) → IsAtWritten names base r back (at.DatasetSource name) → IfSome (after_parent r name (input_as mark)) (Goes (back ++ Fixed mark ∷ []))
  goes_parent_mark back name marks.Input h = goes_parent back name input 0 tt h
  goes_parent_mark back name _ h = tt

  pub goes_parent_word : (back : List Token) (name title : List ℕ) → IsAtWritten names base r back (at.DatasetSource name) → IfSome (after_parent r name (number_of r.datasets title)) (Goes (back ++ Word title ∷ []))
  goes_parent_word back name title h = by (is_among (dataset_names r.datasets) title) refl
    where
      by : (b : Bool) → is_among (dataset_names r.datasets) title ≡ b → IfSome (after_parent r name (cond b (Some (place_of (dataset_names r.datasets) title + 1)) None)) (Goes (back ++ Word title ∷ []))
      by true e = goes_parent back name (by_name title) (place_of (dataset_names r.datasets) title + 1) e h
      by false e = tt

  pub goes_equals : (back : List Token) (name : List ℕ) (mark : Mark) → IsAtWritten names base r back (at.DatasetEquals name) → IfSome (after_equals r name mark) (Goes (back ++ Fixed mark ∷ []))
  goes_equals back name marks.Equal h = stays (back ++ Fixed marks.Equal ∷ []) (at.DatasetSource name) (ap (λ (l : List Token). l ++ Fixed marks.Equal ∷ []) h.0, h.1, h.2)
  goes_equals back name _ h = tt

  pub goes_name : (back : List Token) (title : List ℕ) → IsAtWritten names base r back at.DatasetName → IfSome (after_name r title) (Goes (back ++ Word title ∷ []))
  goes_name back title h =
      goes_cond (back ++ Word title ∷ []) (nat_le (length title) 64 && not (is_among (dataset_names r.datasets) title)) (record { read = r; at = at.DatasetEquals title }) (λ t.
      let both = and_parts (nat_le (length title) 64) (not (is_among (dataset_names r.datasets) title)) t in
      stays (back ++ Word title ∷ []) (at.DatasetEquals title) (
        ap (λ (l : List Token). l ++ Word title ∷ []) h.0,
        record { none = h.1; few = h.2; short = leb-true (length title) 64 both.0; new = not-true (is_among (dataset_names r.datasets) title) both.1 },
        h.3,
      ))
