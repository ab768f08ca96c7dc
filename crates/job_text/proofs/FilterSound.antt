-- Tokens that are read as a filter are written as the grammar has it.
use Rattle.std.proofs.Common.{◌≡◌, ℕ, ◌<◌, ◌≤◌, Bool, true, false, List, [], ◌∷◌, ◌++◌, length, Option, Some, None, refl, sym, ap, subst, ◌∙◌, append_assoc}
use Rattle.std.specs.Prelude.{IfSome, option_and_then, nat_lt, if◌then◌else◌}
use Rattle.std.proofs.lemmas.Bool.{ltb-true, leb-true}
use Rattle.std.proofs.lemmas.List.{append-nil}
use Rattle.row_filter.specs.declared.filter.Comparison.{Comparison}
use Rattle.row_filter.specs.declared.filter.Constant.{Constant}
use Rattle.row_filter.specs.declared.filter.Constant.TheVariants as constants
use Rattle.row_filter.specs.declared.filter.Filter.{Filter}
use Rattle.row_filter.specs.declared.filter.Filter.TheVariants as filters
use Rattle.job_text.specs.declared.mark.Mark.{Mark}
use Rattle.job_text.specs.declared.mark.Mark.TheVariants as marks
use Rattle.job_text.specs.declared.token.Token.{Token}
use Rattle.job_text.specs.declared.token.Token.TheVariants.{Fixed, Word, Quoted, Text, Whole}
use Rattle.job_text.specs.declared.filter_state.Terms.{Terms}
use Rattle.job_text.specs.declared.filter_state.Open.{Open}
use Rattle.job_text.specs.declared.filter_state.Open.TheVariants.{Not, Parenthesis}
use Rattle.job_text.specs.declared.filter_state.FilterAt.{FilterAt}
use Rattle.job_text.specs.declared.filter_state.FilterAt.TheVariants as at
use Rattle.job_text.specs.declared.filter_state.FilterState.{FilterState}
use Rattle.job_text.specs.Columns.{place_of, with_name, with_names, is_short}
use Rattle.job_text.specs.FilterStep.{filter_step, filter_steps, filter_start, filter_at, filter_when, filter_of, filter_mark, filter_constant, filter_column, after_unit, after_test, after_behind, after_close, comparison_of, same_names, opened, close_nots, unit_read, whole_parts, no_terms}
use Rattle.job_text.specs.FilterGrammar.{IsColumn, IsTest, IsConstant, IsWrittenFilter}
use Rattle.job_text.specs.FilterGrammar.{word, in_quotes, equal, not_equal, less, at_most, greater, at_least, number, text, compared}
use Rattle.job_text.proofs.Named.{place_now, with_names-append}
use Rattle.job_text.proofs.FilterBegun.{IsBefore, IsBehind, unit_done, close_done, and_done, or_done, not_done, open_done, nothing_begun, terms_parts}

module _ (all : List (List ℕ)) where
  -- a column behind such tokens
  record BehindColumn (around : List Open) (terms : Terms) (column : ℕ) (ts : List Token) (used : List (List ℕ)) : Type 0 where
    outer : List Token
    outer_names : List (List ℕ)
    token : Token
    name : List ℕ
    before : IsBefore all around terms outer outer_names
    is : IsColumn token name
    place : column ≡ place_of all name
    tokens : ts ≡ outer ++ token ∷ []
    names : used ≡ outer_names ++ name ∷ []

  -- a column and a test behind such tokens
  record BehindTest (around : List Open) (terms : Terms) (column : ℕ) (test : Comparison) (ts : List Token) (used : List (List ℕ)) : Type 0 where
    outer : List Token
    token : Token
    before : BehindColumn around terms column outer used
    is : IsTest token test
    tokens : ts ≡ outer ++ token ∷ []

  -- the tokens so far, by what comes next
  abbrev ReadAs : List Open → Terms → FilterAt → List Token → List (List ℕ) → Type 0
  ReadAs around terms at.Unit ts used = IsBefore all around terms ts used
  ReadAs around terms (at.Test column) ts used = BehindColumn around terms column ts used
  ReadAs around terms (at.Constant column test) ts used = BehindTest around terms column test ts used
  ReadAs around terms at.Behind ts used = IsBehind all around terms ts used

  abbrev IsReadAs : FilterState → List Token → List (List ℕ) → Type 0
  IsReadAs s ts used = ReadAs s.around s.terms s.at ts used

  -- what a token that isn't a column adds
  abbrev Keeps : FilterState → Token → FilterState → Type 0
  Keeps s t next = (ts : List Token) (used : List (List ℕ)) → IsReadAs s ts used → IsReadAs next (ts ++ t ∷ []) used

  keeps_opened : (s : FilterState) (t : Token) (outer : Open) (terms : Terms)
      → (length s.around < 64 → Keeps s t (record { around = outer ∷ s.around; terms = terms; at = at.Unit })) → IfSome (opened s outer terms) (Keeps s t)
  keeps_opened s t outer terms h = on (nat_lt (length s.around) 64) (λ e. h (ltb-true (length s.around) 64 e))
    where
      on : (b : Bool) → (b ≡ true → Keeps s t (record { around = outer ∷ s.around; terms = terms; at = at.Unit }))
          → IfSome (if b then Some (record { around = outer ∷ s.around; terms = terms; at = at.Unit }) else None) (Keeps s t)
      on true g = g refl
      on false g = tt

  module _ (around : List Open) (terms : Terms) where
    abbrev standing : FilterAt → FilterState
    standing place = record { around = around; terms = terms; at = place }

    unit_mark : (mark : Mark) → IfSome (after_unit (standing at.Unit) mark) (Keeps (standing at.Unit) (Fixed mark))
    unit_mark marks.Not = keeps_opened (standing at.Unit) (Fixed marks.Not) Not terms (λ few ts used b. not_done all around terms ts used few b)
    unit_mark marks.Open = keeps_opened (standing at.Unit) (Fixed marks.Open) (Parenthesis terms) no_terms (λ few ts used b. open_done all around terms ts used few b)
    unit_mark _ = tt

    tested : (column : ℕ) (mark : Mark) (test : Comparison) → IsTest (Fixed mark) test → Keeps (standing (at.Test column)) (Fixed mark) (standing (at.Constant column test))
    tested column mark test is ts used b = record { outer = ts; token = Fixed mark; before = b; is = is; tokens = refl }

    test_mark : (column : ℕ) (mark : Mark) → IfSome (after_test (standing (at.Test column)) column (comparison_of mark)) (Keeps (standing (at.Test column)) (Fixed mark))
    test_mark column marks.Equal = tested column marks.Equal _ equal
    test_mark column marks.NotEqual = tested column marks.NotEqual _ not_equal
    test_mark column marks.Less = tested column marks.Less _ less
    test_mark column marks.AtMost = tested column marks.AtMost _ at_most
    test_mark column marks.Greater = tested column marks.Greater _ greater
    test_mark column marks.AtLeast = tested column marks.AtLeast _ at_least
    test_mark column _ = tt

    behind_mark : (mark : Mark) → IfSome (after_behind (standing at.Behind) mark) (Keeps (standing at.Behind) (Fixed mark))
    behind_mark marks.And = λ ts used b. and_done all around terms ts used b
    behind_mark marks.Or = λ ts used b. or_done all around terms ts used b
    behind_mark marks.Close = closed around
      where
        closed : (around : List Open) → IfSome (after_close around (filter_of terms)) (Keeps (record { around = around; terms = terms; at = at.Behind }) (Fixed marks.Close))
        closed [] = tt
        closed (Not ∷ outer) = tt
        closed (Parenthesis before ∷ outer) = λ ts used b. close_done all outer before terms ts used b
    behind_mark _ = tt

    keeps_mark : (place : FilterAt) (mark : Mark) → IfSome (filter_mark (standing place) place mark) (Keeps (standing place) (Fixed mark))
    keeps_mark at.Unit mark = unit_mark mark
    keeps_mark (at.Test column) mark = test_mark column mark
    keeps_mark (at.Constant column test) mark = tt
    keeps_mark at.Behind mark = behind_mark mark

    constant_kept : (column : ℕ) (test : Comparison) (t : Token) (constant : Constant) → IsConstant t constant
        → Keeps (standing (at.Constant column test)) t (unit_read terms (close_nots around (filters.Test column test constant)))
    constant_kept column test t constant is ts used b =
        let c = b.before in
        let done = unit_done all around c.outer (c.token ∷ b.token ∷ t ∷ []) c.outer_names (c.name ∷ []) terms (filters.Test (place_of all c.name) test constant) c.before (compared c.is b.is is) in
        let same : c.outer ++ c.token ∷ b.token ∷ t ∷ [] ≡ ts ++ t ∷ [] =
        sym (append_assoc c.outer (c.token ∷ []) (b.token ∷ t ∷ [])) ∙ ap (λ (l : List Token). l ++ b.token ∷ t ∷ []) (sym c.tokens)
        ∙ sym (append_assoc b.outer (b.token ∷ []) (t ∷ [])) ∙ ap (λ (l : List Token). l ++ t ∷ []) (sym b.tokens) in
        rw (c.place, c.names, sym same) done

    keeps_constant : (place : FilterAt) (t : Token) (constant : Constant) → IsConstant t constant → IfSome (filter_constant (standing place) place constant) (Keeps (standing place) t)
    keeps_constant at.Unit t constant is = tt
    keeps_constant (at.Test column) t constant is = tt
    keeps_constant (at.Constant column test) t constant is = constant_kept column test t constant is
    keeps_constant at.Behind t constant is = tt

  -- ---- names too

  -- a token adds some names, and what was read is read with it
  record Grows (names : List (List ℕ)) (s : FilterState) (ts : List Token) (next : List (List ℕ) × FilterState) : Type 0 where
    more : List (List ℕ)
    names_are : with_names names more ≡ next.0
    read : (before : List Token) (used later : List (List ℕ)) → with_names next.0 later ≡ all → IsReadAs s before used → IsReadAs next.1 (before ++ ts) (used ++ more)

  with_same_names : (names : List (List ℕ)) (s : FilterState) (t : Token) (o : Option FilterState) → IfSome o (Keeps s t) → IfSome (same_names names o) (Grows names s (t ∷ []))
  with_same_names names s t None h = tt
  with_same_names names s t (Some next) h = record {
    more = [];
    names_are = refl;
    read = λ before used later is b. rw (append-nil used) (h before used b);
  }

  column_grown : (names : List (List ℕ)) (s : FilterState) (t : Token) (name : List ℕ) → s.at ≡ at.Unit → IsColumn t name
      → Grows names s (t ∷ []) (with_name names name, record s { at = at.Test (place_of names name) })
  column_grown names s t name e is = record {
    more = name ∷ [];
    names_are = refl;
    read = λ before used later same b. record {
      outer = before;
      outer_names = used;
      token = t;
      name = name;
      before = rw e at b;
      is = is;
      place = place_now names name later ∙ ap (λ (l : List (List ℕ)). place_of l name) same;
      tokens = refl;
      names = refl;
    };
  }

  column_when : (names : List (List ℕ)) (s : FilterState) (t : Token) (next : List (List ℕ) × FilterState) (b : Bool) → (b ≡ true → Grows names s (t ∷ []) next) → IfSome (if b then Some next else None) (Grows names s (t ∷ []))
  column_when names s t next true h = h refl
  column_when names s t next false h = tt

  with_column : (names : List (List ℕ)) (s : FilterState) (t : Token) (place : FilterAt) (name : List ℕ) → s.at ≡ place → (length name ≤ 1024 → IsColumn t name)
      → IfSome (filter_column names s place name) (Grows names s (t ∷ []))
  with_column names s t at.Unit name e is =
      column_when names s t (with_name names name, record s { at = at.Test (place_of names name) }) (is_short name) (λ short. column_grown names s t name e (is (leb-true (length name) 1024 short)))
  with_column names s t (at.Test column) name e is = tt
  with_column names s t (at.Constant column test) name e is = tt
  with_column names s t at.Behind name e is = tt

  grows_step : (names : List (List ℕ)) (s : FilterState) (t : Token) → IfSome (filter_step names s t) (Grows names s (t ∷ []))
  unfolding filter_step
  grows_step names s (Fixed mark) = with_same_names names s (Fixed mark) _ (keeps_mark s.around s.terms s.at mark)
  grows_step names s (Word name) = with_column names s (Word name) s.at name refl (λ short. word short)
  grows_step names s (Quoted name) = with_column names s (Quoted name) s.at name refl (λ short. in_quotes short)
  grows_step names s (Text bytes) = with_same_names names s (Text bytes) _ (keeps_constant s.around s.terms s.at (Text bytes) (constants.Text bytes) text)
  grows_step names s (Whole None) = tt
  grows_step names s (Whole (Some value)) = with_same_names names s (Whole (Some value)) _ (keeps_constant s.around s.terms s.at (Whole (Some value)) (constants.Number value) number)

  -- ---- many tokens

  joined : (names : List (List ℕ)) (s : FilterState) (t : Token) (ts : List Token) (mid last : List (List ℕ) × FilterState)
      → Grows names s (t ∷ []) mid → Grows mid.0 mid.1 ts last → Grows names s (t ∷ ts) last
  joined names s t ts mid last g h = record {
    more = g.more ++ h.more;
    names_are = with_names-append g.more h.more names ∙ ap (λ (l : List (List ℕ)). with_names l h.more) g.names_are ∙ h.names_are;
    read = λ before used later is b.
        let first = g.read before used (h.more ++ later) (with_names-append h.more later mid.0 ∙ ap (λ (l : List (List ℕ)). with_names l later) h.names_are ∙ is) b in
        subst (λ (l : List (List ℕ)). IsReadAs last.1 (before ++ t ∷ ts) l) (append_assoc used g.more h.more)
        (subst (λ (l : List Token). IsReadAs last.1 l ((used ++ g.more) ++ h.more)) (append_assoc before (t ∷ []) ts) (h.read (before ++ t ∷ []) (used ++ g.more) later is first));
  }

  joined_some : (names : List (List ℕ)) (s : FilterState) (t : Token) (ts : List Token) (mid : List (List ℕ) × FilterState) (o : Option (List (List ℕ) × FilterState))
      → Grows names s (t ∷ []) mid → IfSome o (Grows mid.0 mid.1 ts) → IfSome o (Grows names s (t ∷ ts))
  joined_some names s t ts mid None g h = tt
  joined_some names s t ts mid (Some last) g h = joined names s t ts mid last g h

  on_next : (names : List (List ℕ)) (s : FilterState) (t : Token) (ts : List Token) (o : Option (List (List ℕ) × FilterState))
      → ((mid : List (List ℕ) × FilterState) → IfSome (filter_steps mid.0 mid.1 ts) (Grows mid.0 mid.1 ts))
      → IfSome o (Grows names s (t ∷ [])) → IfSome (option_and_then (λ next. filter_steps next.0 next.1 ts) o) (Grows names s (t ∷ ts))
  on_next names s t ts None again g = tt
  on_next names s t ts (Some mid) again g = joined_some names s t ts mid (filter_steps mid.0 mid.1 ts) g (again mid)

  grows : (ts : List Token) (names : List (List ℕ)) (s : FilterState) → IfSome (filter_steps names s ts) (Grows names s ts)
  unfolding filter_steps
  grows [] names s = record {
    more = [];
    names_are = refl;
    read = λ before used later is b. rw (append-nil before, append-nil used) b;
  }
  grows (t ∷ ts) names s = on_next names s t ts (filter_step names s t) (λ mid. grows ts mid.0 mid.1) (grows_step names s t)

  -- where a filter may end
  ends : (around : List Open) (place : FilterAt) (terms : Terms) (ts : List Token) (used : List (List ℕ)) (filter : Filter)
      → ReadAs around terms place ts used → filter_when around place terms ≡ Some filter → IsWrittenFilter all ts used filter
  ends [] at.Unit terms ts used filter b e = absurd (cc)
  ends [] (at.Test column) terms ts used filter b e = absurd (cc)
  ends [] (at.Constant column test) terms ts used filter b e = absurd (cc)
  ends [] at.Behind terms ts used filter b e = record { parts = whole_parts terms; written = terms_parts all 0 ts used terms b; is = sym (same (filter_of terms) filter e) }
    where
      same : (one other : Filter) → (let found : Option Filter = Some one in found ≡ Some other) → one ≡ other
      same one other e = cc
  ends (outer ∷ around) place terms ts used filter b e = absurd (cc)

-- what is read is written, with the names that it adds
pub read_written : (names final later : List (List ℕ)) (ts : List Token) (last : FilterState) (filter : Filter) → filter_steps names filter_start ts ≡ Some (final, last) → filter_at last ≡ Some filter
    → (used : List (List ℕ)) × (with_names names used ≡ final) × IsWrittenFilter (with_names final later) ts used filter
read_written names final later ts last filter e is =
    let all = with_names final later in
    let g = rw e at (grows all ts names filter_start) in
    (g.more, g.names_are, ends all last.around last.at last.terms ts g.more filter (g.read [] [] later refl (nothing_begun all 0)) is)
