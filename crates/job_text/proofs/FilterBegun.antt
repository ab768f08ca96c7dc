-- Each state of a filter that is read has a written beginning.
use Rattle.std.proofs.Common.{◌≡◌, ℕ, suc, ◌<◌, List, [], ◌∷◌, ◌++◌, length, refl, sym, ap, subst, ◌∙◌, append_assoc}
use Rattle.std.proofs.lemmas.List.{append-nil}
use Rattle.row_filter.specs.declared.filter.Filter.{Filter}
use Rattle.row_filter.specs.declared.filter.Filter.TheVariants as filters
use Rattle.job_text.specs.declared.mark.Mark.TheVariants as marks
use Rattle.job_text.specs.declared.token.Token.{Token}
use Rattle.job_text.specs.declared.token.Token.TheVariants.{Fixed}
use Rattle.job_text.specs.declared.filter_state.Terms.{Terms}
use Rattle.job_text.specs.declared.filter_state.Open.{Open}
use Rattle.job_text.specs.declared.filter_state.Open.TheVariants.{Not, Parenthesis}
use Rattle.job_text.specs.FilterLists.{units_in, parts_in, and_of}
use Rattle.job_text.specs.FilterStep.{filter_of, close_nots, whole_parts, no_terms}
use Rattle.job_text.specs.FilterGrammar.{IsUnit, AreUnits, AreParts}
use Rattle.job_text.specs.FilterGrammar.{negated, in_parentheses, one_unit, and_unit, one_part, or_part}

-- whole parts, each with an `or` behind it
pub data PartsBegun (all : List (List ℕ)) : ℕ → List Token → List (List ℕ) → List Filter → Type 0 where
  no_parts : {outside : ℕ} → PartsBegun all outside [] [] []
  then_or : {outside : ℕ} {ts : List Token} {used : List (List ℕ)} {parts : List Filter} → AreParts all outside ts used parts → PartsBegun all outside (ts ++ Fixed marks.Or ∷ []) used parts

-- whole units, each with an `and` behind it
pub data UnitsBegun (all : List (List ℕ)) : ℕ → List Token → List (List ℕ) → List Filter → Type 0 where
  no_units : {outside : ℕ} → UnitsBegun all outside [] [] []
  then_and : {outside : ℕ} {ts : List Token} {used : List (List ℕ)} {units : List Filter} → AreUnits all outside ts used units → UnitsBegun all outside (ts ++ Fixed marks.And ∷ []) used units

module _ (all : List (List ℕ)) where
  -- what stands before a unit
  pub record TermsBegun (outside : ℕ) (ts : List Token) (used : List (List ℕ)) (terms : Terms) : Type 0 where
    pub parts_tokens : List Token
    pub units_tokens : List Token
    pub parts_names : List (List ℕ)
    pub units_names : List (List ℕ)
    pub parts : PartsBegun all outside parts_tokens parts_names terms.parts
    pub units : UnitsBegun all outside units_tokens units_names terms.units
    pub tokens : ts ≡ parts_tokens ++ units_tokens
    pub names : used ≡ parts_names ++ units_names

  -- what ends with a unit
  pub record TermsWhole (outside : ℕ) (ts : List Token) (used : List (List ℕ)) (terms : Terms) : Type 0 where
    pub parts_tokens : List Token
    pub units_tokens : List Token
    pub parts_names : List (List ℕ)
    pub units_names : List (List ℕ)
    pub parts : PartsBegun all outside parts_tokens parts_names terms.parts
    pub units : AreUnits all outside units_tokens units_names terms.units
    pub tokens : ts ≡ parts_tokens ++ units_tokens
    pub names : used ≡ parts_names ++ units_names

  -- a `not` behind such tokens
  pub record BehindNot (Before : List Token → List (List ℕ) → Type 0) (around : List Open) (ts : List Token) (used : List (List ℕ)) : Type 0 where
    pub outer : List Token
    pub few : length around < 64
    pub before : Before outer used
    pub tokens : ts ≡ outer ++ Fixed marks.Not ∷ []

  -- a parenthesis behind such tokens, and what stands in it
  pub record BehindOpen (Before Inside : List Token → List (List ℕ) → Type 0) (around : List Open) (ts : List Token) (used : List (List ℕ)) : Type 0 where
    pub outer : List Token
    pub inner : List Token
    pub outer_names : List (List ℕ)
    pub inner_names : List (List ℕ)
    pub few : length around < 64
    pub before : Before outer outer_names
    pub inside : Inside inner inner_names
    pub tokens : ts ≡ outer ++ Fixed marks.Open ∷ inner
    pub names : used ≡ outer_names ++ inner_names

  -- the tokens so far, where a unit must come
  abbrev pub IsBefore : List Open → Terms → List Token → List (List ℕ) → Type 0
  IsBefore [] terms ts used = TermsBegun 0 ts used terms
  IsBefore (Not ∷ around) terms ts used = BehindNot (IsBefore around terms) around ts used
  IsBefore (Parenthesis outer ∷ around) terms ts used = BehindOpen (IsBefore around outer) (λ us more. TermsBegun (suc (length around)) us more terms) around ts used

  -- the tokens so far, behind a unit
  abbrev pub IsBehind : List Open → Terms → List Token → List (List ℕ) → Type 0
  IsBehind [] terms ts used = TermsWhole 0 ts used terms
  IsBehind (Not ∷ around) terms ts used = ⊥
  IsBehind (Parenthesis outer ∷ around) terms ts used = BehindOpen (IsBefore around outer) (λ us more. TermsWhole (suc (length around)) us more terms) around ts used

  -- ---- a unit more

  begun_unit : (outside : ℕ) (ts us : List Token) (used more : List (List ℕ)) (units : List Filter) (unit : Filter) → UnitsBegun all outside ts used units → IsUnit all outside us more unit
      → AreUnits all outside (ts ++ us) (used ++ more) (units ++ units_in unit)
  begun_unit outside ts us used more units unit no_units h = one_unit h
  begun_unit outside ts us used more units unit (then_and {ts = before} g) h =
      subst (λ (l : List Token). AreUnits all outside l (used ++ more) (units ++ units_in unit)) (sym (append_assoc before (Fixed marks.And ∷ []) us)) (and_unit g h)

  begun_part : (outside : ℕ) (ts us : List Token) (used more : List (List ℕ)) (parts units : List Filter) → PartsBegun all outside ts used parts → AreUnits all outside us more units
      → AreParts all outside (ts ++ us) (used ++ more) (parts ++ parts_in (and_of units))
  begun_part outside ts us used more parts units no_parts h = one_part h
  begun_part outside ts us used more parts units (then_or {ts = before} g) h =
      subst (λ (l : List Token). AreParts all outside l (used ++ more) (parts ++ parts_in (and_of units))) (sym (append_assoc before (Fixed marks.Or ∷ []) us)) (or_part g h)

  terms_whole : (outside : ℕ) (ts us : List Token) (used more : List (List ℕ)) (terms : Terms) (unit : Filter) → TermsBegun outside ts used terms → IsUnit all outside us more unit
      → TermsWhole outside (ts ++ us) (used ++ more) (record terms { units = terms.units ++ units_in unit })
  terms_whole outside ts us used more terms unit b h = record {
    parts_tokens = b.parts_tokens;
    units_tokens = b.units_tokens ++ us;
    parts_names = b.parts_names;
    units_names = b.units_names ++ more;
    parts = b.parts;
    units = begun_unit outside b.units_tokens us b.units_names more terms.units unit b.units h;
    tokens = ap (λ (l : List Token). l ++ us) b.tokens ∙ append_assoc b.parts_tokens b.units_tokens us;
    names = ap (λ (l : List (List ℕ)). l ++ more) b.names ∙ append_assoc b.parts_names b.units_names more;
  }

  pub terms_parts : (outside : ℕ) (ts : List Token) (used : List (List ℕ)) (terms : Terms) → TermsWhole outside ts used terms → AreParts all outside ts used (whole_parts terms)
  terms_parts outside ts used terms w =
      rw (w.tokens, w.names) (begun_part outside w.parts_tokens w.units_tokens w.parts_names w.units_names terms.parts terms.units w.parts w.units)

  -- the state behind a unit
  abbrev pub IsRead : Terms → List Open × Filter → List Token → List (List ℕ) → Type 0
  IsRead terms closed ts used = IsBehind closed.0 (record terms { units = terms.units ++ units_in closed.1 }) ts used

  pub unit_done : (around : List Open) (ts us : List Token) (used more : List (List ℕ)) (terms : Terms) (unit : Filter) → IsBefore around terms ts used → IsUnit all (length around) us more unit
      → IsRead terms (close_nots around unit) (ts ++ us) (used ++ more)
  unit_done [] ts us used more terms unit b h = terms_whole 0 ts us used more terms unit b h
  unit_done (Not ∷ around) ts us used more terms unit b h =
      subst (λ (l : List Token). IsRead terms (close_nots around (filters.Not unit)) l (used ++ more)) (sym (append_assoc b.outer (Fixed marks.Not ∷ []) us) ∙ ap (λ (l : List Token). l ++ us) (sym b.tokens))
      (unit_done around b.outer (Fixed marks.Not ∷ us) used more terms (filters.Not unit) b.before (negated b.few h))
  unit_done (Parenthesis outer ∷ around) ts us used more terms unit b h = record {
    outer = b.outer;
    inner = b.inner ++ us;
    outer_names = b.outer_names;
    inner_names = b.inner_names ++ more;
    few = b.few;
    before = b.before;
    inside = terms_whole (suc (length around)) b.inner us b.inner_names more terms unit b.inside h;
    tokens = ap (λ (l : List Token). l ++ us) b.tokens ∙ append_assoc b.outer (Fixed marks.Open ∷ b.inner) us;
    names = ap (λ (l : List (List ℕ)). l ++ more) b.names ∙ append_assoc b.outer_names b.inner_names more;
  }

  -- ---- a token more

  pub close_done : (around : List Open) (outer terms : Terms) (ts : List Token) (used : List (List ℕ)) → IsBehind (Parenthesis outer ∷ around) terms ts used
      → IsRead outer (close_nots around (filter_of terms)) (ts ++ Fixed marks.Close ∷ []) used
  close_done around outer terms ts used b =
      let parts = terms_parts (suc (length around)) b.inner b.inner_names terms b.inside in
      subst (λ (l : List (List ℕ)). IsRead outer (close_nots around (filter_of terms)) (ts ++ Fixed marks.Close ∷ []) l) (sym b.names)
      (subst (λ (l : List Token). IsRead outer (close_nots around (filter_of terms)) l (b.outer_names ++ b.inner_names))
      (sym (append_assoc b.outer (Fixed marks.Open ∷ b.inner) (Fixed marks.Close ∷ [])) ∙ ap (λ (l : List Token). l ++ Fixed marks.Close ∷ []) (sym b.tokens))
      (unit_done around b.outer (Fixed marks.Open ∷ b.inner ++ Fixed marks.Close ∷ []) b.outer_names b.inner_names outer (filter_of terms) b.before (in_parentheses b.few parts)))

  terms_or : (outside : ℕ) (ts : List Token) (used : List (List ℕ)) (terms : Terms) → TermsWhole outside ts used terms → TermsBegun outside (ts ++ Fixed marks.Or ∷ []) used (record { parts = whole_parts terms; units = [] })
  terms_or outside ts used terms w = record {
    parts_tokens = ts ++ Fixed marks.Or ∷ [];
    units_tokens = [];
    parts_names = used;
    units_names = [];
    parts = then_or (terms_parts outside ts used terms w);
    units = no_units;
    tokens = sym (append-nil (ts ++ Fixed marks.Or ∷ []));
    names = sym (append-nil used);
  }

  terms_and : (outside : ℕ) (ts : List Token) (used : List (List ℕ)) (terms : Terms) → TermsWhole outside ts used terms → TermsBegun outside (ts ++ Fixed marks.And ∷ []) used terms
  terms_and outside ts used terms w = record {
    parts_tokens = w.parts_tokens;
    units_tokens = w.units_tokens ++ Fixed marks.And ∷ [];
    parts_names = w.parts_names;
    units_names = w.units_names;
    parts = w.parts;
    units = then_and w.units;
    tokens = ap (λ (l : List Token). l ++ Fixed marks.And ∷ []) w.tokens ∙ append_assoc w.parts_tokens w.units_tokens (Fixed marks.And ∷ []);
    names = w.names;
  }

  -- other terms behind the same beginning
  goes_on : (around : List Open) (terms later : Terms) (t : Token) (ts : List Token) (used : List (List ℕ))
      → ((outside : ℕ) (us : List Token) (more : List (List ℕ)) → TermsWhole outside us more terms → TermsBegun outside (us ++ t ∷ []) more later)
      → IsBehind around terms ts used → IsBefore around later (ts ++ t ∷ []) used
  goes_on [] terms later t ts used on b = on 0 ts used b
  goes_on (Not ∷ around) terms later t ts used on b = absurd b
  goes_on (Parenthesis outer ∷ around) terms later t ts used on b = record {
    outer = b.outer;
    inner = b.inner ++ t ∷ [];
    outer_names = b.outer_names;
    inner_names = b.inner_names;
    few = b.few;
    before = b.before;
    inside = on (suc (length around)) b.inner b.inner_names b.inside;
    tokens = ap (λ (l : List Token). l ++ t ∷ []) b.tokens ∙ append_assoc b.outer (Fixed marks.Open ∷ b.inner) (t ∷ []);
    names = b.names;
  }

  pub and_done : (around : List Open) (terms : Terms) (ts : List Token) (used : List (List ℕ)) → IsBehind around terms ts used → IsBefore around terms (ts ++ Fixed marks.And ∷ []) used
  and_done around terms ts used b = goes_on around terms terms (Fixed marks.And) ts used (λ outside us more w. terms_and outside us more terms w) b

  pub or_done : (around : List Open) (terms : Terms) (ts : List Token) (used : List (List ℕ)) → IsBehind around terms ts used
      → IsBefore around (record { parts = whole_parts terms; units = [] }) (ts ++ Fixed marks.Or ∷ []) used
  or_done around terms ts used b = goes_on around terms (record { parts = whole_parts terms; units = [] }) (Fixed marks.Or) ts used (λ outside us more w. terms_or outside us more terms w) b

  -- nothing stands there
  pub nothing_begun : (outside : ℕ) → TermsBegun outside [] [] no_terms
  nothing_begun outside = record {
    parts_tokens = [];
    units_tokens = [];
    parts_names = [];
    units_names = [];
    parts = no_parts;
    units = no_units;
    tokens = refl;
    names = refl;
  }

  pub not_done : (around : List Open) (terms : Terms) (ts : List Token) (used : List (List ℕ)) → length around < 64 → IsBefore around terms ts used → IsBefore (Not ∷ around) terms (ts ++ Fixed marks.Not ∷ []) used
  not_done around terms ts used few b = record { outer = ts; few = few; before = b; tokens = refl }

  pub open_done : (around : List Open) (terms : Terms) (ts : List Token) (used : List (List ℕ)) → length around < 64 → IsBefore around terms ts used
      → IsBefore (Parenthesis terms ∷ around) no_terms (ts ++ Fixed marks.Open ∷ []) used
  open_done around terms ts used few b = record {
    outer = ts;
    inner = [];
    outer_names = used;
    inner_names = [];
    few = few;
    before = b;
    inside = nothing_begun (suc (length around));
    tokens = refl;
    names = sym (append-nil used);
  }
