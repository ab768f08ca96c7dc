-- What one word does to a walk, and which words fail it.
use Rattle.std.proofs.Common.{◌≡◌, ◌∙◌, ◌+◌, ◌||◌, ℕ, Bool, cond, true, false, refl, sym, ap, ap₂, subst, List, [], ◌∷◌, length, drop, min, Option, Some, None}
use Rattle.std.specs.Prelude.{encode_utf8, slice_get}
use Rattle.std.specs.List.{fold}
use Rattle.std.specs.Option.{option_map_or}
use Rattle.std.specs.Str.{bytes_eq, chars}
use Rattle.std.proofs.Math.Bool.{and-false, or-false}
use Rattle.clap.specs.Lexer.{long_of, usize_max}
use Rattle.clap.specs.Walk.{Held, Row, Step, Waiting, Walk, after_flag, after_step, arg_by_index, finished, idle, long_met, long_or_other, option, plain_word, positional, pushed, subcommand_met, subcommand_or_other, trailing, settled, settled_rows, short_or_plain, to_positional, value, walked, word_met, is_pending}
use Rattle.clap.specs.Simple.{Shape}
use Rattle.clap.specs.Kinds.{Kinds, or_else}
use Rattle.clap.specs.Faults.{bundle_fault, bundle_step_fault, other_fault, short_fault, check_fault, defaults_fault, flag_word_fault, flags_fault, long_fault, positional_fault, settle_fault, step_fault, stray_fault, walk_fault, word_fault}
use Rattle.clap.specs.declared.error.kind.ErrorKind.TheVariants.{UnknownArgument}
use Rattle.words.specs.Texts.{AreTexts}
use Rattle.words.specs.Reading.{Kind, Text, Word, valued, bare, unknown, dashes, named, refused, plain, word_kind_in, word_of}
use Rattle.words.proofs.Rules.{place_rule, rule_for, plain_shape, HasPlaces, outcome, IsFault, fault_none, fault_first, Reader}
use Rattle.words.proofs.Looks.{double_dash, LooksLike, looks}

module _ (reader : Reader) where
  abbrev pub s : Shape
  s = plain_shape reader.name reader.rules

  abbrev pub held : List Row → Option (Text × List Text) → Held
  held rows pending = record { rows = rows; pending = pending; skip = 0 }

  abbrev pub at : List Row → Option (Text × List Text) → Waiting → ℕ → Bool → Walk
  at rows pending waiting position behind = record {
    held = held rows pending;
    waiting = waiting;
    position = position;
    is_trailing = behind;
    stopped = None;
  }

  abbrev pub over : Walk → List Text → Walk
  over w words = fold (walked reader.rules []) w words

  abbrev pub tail : Held → Kinds
  tail end = or_else (settle_fault reader.rules false end)
      (or_else (defaults_fault (settled reader.rules end).rows reader.rules) (check_fault s (finished reader.rules end) false))

  -- the rows of the uses that a walk from here comes to, where nothing fails
  abbrev pub result_at : Walk → List Text → Option (List Row)
  result_at w words = outcome (or_else (walk_fault s [] w words) (tail (over w words).held)) (settled reader.rules (over w words).held).rows

  -- one word on
  abbrev pub result_next : Kinds → Walk → List Text → Option (List Row)
  result_next turn w rest = outcome (or_else (or_else turn (walk_fault s [] w rest)) (tail (over w rest).held)) (settled reader.rules (over w rest).held).rows

  abbrev pub turn_of : Walk → Kinds → Held × Step → Kinds
  turn_of w word_kinds met = or_else word_kinds (step_fault s w.position met.0 met.1)

  pub result_step : (rows : List Row) (pending : Option (Text × List Text)) (waiting : Waiting) (position : ℕ) (behind : Bool) (word : Text) (rest : List Text)
      → let w = at rows pending waiting position behind in
      let met = word_met reader.rules [] behind waiting position word w.held in
      result_at w (word ∷ rest) ≡ result_next (turn_of w (word_fault s [] behind waiting word w.held) met) (after_step reader.rules word w met.0 met.1) rest
  unfolding walk_fault walked
  result_step rows pending waiting position behind word rest = refl

  pub next_fails : (turn : Kinds) (w : Walk) (rest : List Text) → IsFault turn → result_next turn w rest ≡ None
  next_fails [] w rest h = absurd h
  next_fails (k ∷ ks) w rest h = refl

  -- ---- words that fail

  pub word_fails : (rows : List Row) (pending : Option (Text × List Text)) (waiting : Waiting) (position : ℕ) (x : Text) (rest : List Text)
      → IsFault (word_fault s [] false waiting x (held rows pending)) → result_at (at rows pending waiting position false) (x ∷ rest) ≡ None
  word_fails rows pending waiting position x rest h =
      result_step rows pending waiting position false x rest ∙ next_fails _ _ rest (fault_first _ _ h)

  pub no_subcommand : (waiting : Waiting) (x : Text) → subcommand_met [] waiting x ≡ None
  no_subcommand idle x = refl
  no_subcommand (option n) x = refl
  no_subcommand positional x = refl

  pub fault_other : (waiting : Waiting) (x : Text) (h : Held) → bytes_eq x double_dash ≡ false
      → word_fault s [] false waiting x h ≡ flag_word_fault reader.rules false (long_of x) x h
  fault_other waiting x h e =
      ap (λ o. other_fault s o x h) (no_subcommand waiting x)
      ∙ ap (λ b. cond b [] (flag_word_fault reader.rules false (long_of x) x h)) e

  pub fault_named : (waiting : Waiting) (x n : Text) (v : Option Text) (h : Held) → LooksLike x (named n v)
      → word_fault s [] false waiting x h ≡ long_fault reader.rules false (rule_for (word_kind_in reader.grammar n) n) v h
  fault_named waiting x n v h like =
      fault_other waiting x h like.0 ∙ ap (λ l. flag_word_fault reader.rules false l x h) like.1
      ∙ ap (λ o. long_fault reader.rules false o v h) (reader.knows.long n)

  pub fault_plain : (waiting : Waiting) (x : Text) (h : Held) → LooksLike x plain → word_fault s [] false waiting x h ≡ []
  fault_plain waiting x h like =
      fault_other waiting x h like.0 ∙ ap (λ l. flag_word_fault reader.rules false l x h) like.1
      ∙ ap (λ o. option_map_or (λ flags. bundle_fault reader.rules false flags h) o []) like.2

  pub fault_dashes : (waiting : Waiting) (x : Text) (h : Held) → LooksLike x dashes → word_fault s [] false waiting x h ≡ []
  fault_dashes waiting x h e =
      ap (λ o. other_fault s o x h) (no_subcommand waiting x)
      ∙ ap (λ b. cond b [] (flag_word_fault reader.rules false (long_of x) x h)) e

  pub bundle_refused : (b : ℕ) (flags : Text) (c : ℕ) (h : Held) → slice_get (chars (b ∷ flags)) 0 ≡ Some c → h.skip ≡ 0 → IsFault (bundle_fault reader.rules false (b ∷ flags) h)
  unfolding flags_fault
  bundle_refused b flags c h e z =
      let next = flags_fault reader.rules false (length flags) in
      let is : bundle_fault reader.rules false (b ∷ flags) h ≡ UnknownArgument ∷ [] =
      ap (λ k. bundle_step_fault reader.rules false (slice_get (chars (b ∷ flags)) 0) (b ∷ flags) k (record h { skip = 0 }) next) z
      ∙ ap (λ o. bundle_step_fault reader.rules false o (b ∷ flags) 0 (record h { skip = 0 }) next) e
      ∙ ap (λ o. short_fault reader.rules false o (drop (length (encode_utf8 c)) (b ∷ flags)) (record h { skip = 0 }) (next (drop (length (encode_utf8 c)) (b ∷ flags)) 0)) (reader.knows.short c) in
      subst IsFault (sym is) tt

  pub fault_refused : (waiting : Waiting) (x : Text) (rows : List Row) (pending : Option (Text × List Text)) → LooksLike x refused
      → IsFault (word_fault s [] false waiting x (held rows pending))
  fault_refused waiting x rows pending like =
      let h = held rows pending in
      let (b, flags, c, short, first) = like.2 in
      let is = fault_other waiting x h like.0 ∙ ap (λ l. flag_word_fault reader.rules false l x h) like.1
      ∙ ap (λ o. option_map_or (λ fs. bundle_fault reader.rules false fs h) o []) short in
      subst IsFault (sym is) (bundle_refused b flags c h first refl)

  pub long_fails : (k : Kind) (n : Text) (v : Option Text) (h : Held) → IsFault (settle_fault reader.rules false h) → IsFault (long_fault reader.rules false (rule_for k n) v h)
  long_fails valued n (Some v) h e = fault_first _ _ e
  long_fails valued n None h e = e
  long_fails bare n (Some v) h e = tt
  long_fails bare n None h e = fault_first _ _ e
  long_fails unknown n v h e = tt

  -- ---- a word that goes to a positional

  abbrev pub on : ℕ → ℕ
  on position = min (position + 1) usize_max

  pub stray : (position : ℕ) (h : Held) → arg_by_index reader.rules position ≡ None → IsFault (step_fault s position h value)
  stray position h e =
      let is : step_fault s position h value ≡ stray_fault s = ap (λ o. option_map_or (λ a. positional_fault reader.rules false a h) o (stray_fault s)) e in
      subst IsFault (sym is) tt

  pub place_fault : (i position : ℕ) (p : Text) (h : Held) → arg_by_index reader.rules position ≡ Some (place_rule i p) → step_fault s position h value ≡ settle_fault reader.rules false h
  place_fault i position p h e =
      ap (λ o. option_map_or (λ a. positional_fault reader.rules false a h) o (stray_fault s)) e
      ∙ ap (λ b. cond b [] (settle_fault reader.rules false h)) (and-false (is_pending (place_rule i p) h.pending))

  pub place_walk : (i position : ℕ) (p x : Text) (rows : List Row) (pending : Option (Text × List Text)) (waiting : Waiting) (behind : Bool)
      → arg_by_index reader.rules position ≡ Some (place_rule i p)
      → after_step reader.rules x (at rows pending waiting position behind) (held rows pending) value ≡ at (settled_rows reader.rules pending rows) (Some (p, x ∷ [])) idle (on position) behind
  place_walk i position p x rows pending waiting behind e =
      let w = at rows pending waiting position behind in
      let h = held rows pending in
      let made : Bool → Bool → Walk = λ b t. record {
        held = pushed p x (cond b h (settled reader.rules h));
        waiting = idle;
        position = on position;
        is_trailing = t;
        stopped = None;
      } in
      ap (λ o. to_positional reader.rules o x w h) e
      ∙ ap (λ b. made b (behind || false)) (and-false (is_pending (place_rule i p) pending))
      ∙ ap (made false) (or-false behind)

  -- ---- a pending use that repeats a name fails whatever follows

  pub fails_at_end : (rows : List Row) (pending : Option (Text × List Text)) (waiting : Waiting) (position : ℕ) (behind : Bool)
      → IsFault (settle_fault reader.rules false (held rows pending)) → result_at (at rows pending waiting position behind) [] ≡ None
  unfolding walk_fault
  fails_at_end rows pending waiting position behind h = fault_none (settle_fault reader.rules false (held rows pending)) _ _ h

  pub broken_behind : (words : List Text) (rows : List Row) (pending : Option (Text × List Text)) (waiting : Waiting) (position : ℕ) (places : List Text)
      → HasPlaces reader.rules position places → IsFault (settle_fault reader.rules false (held rows pending)) → result_at (at rows pending waiting position true) words ≡ None
  broken_behind [] rows pending waiting position places has h = fails_at_end rows pending waiting position true h
  broken_behind (x ∷ rest) rows pending waiting position [] has h =
      result_step rows pending waiting position true x rest ∙ next_fails _ _ rest (stray position (held rows pending) has)
  broken_behind (x ∷ rest) rows pending waiting position (p ∷ ps) has h =
      result_step rows pending waiting position true x rest
      ∙ next_fails _ _ rest (subst IsFault (sym (place_fault position position p (held rows pending) has.0)) h)

  pub met_dashes : (waiting : Waiting) (position : ℕ) (x : Text) (h : Held) → LooksLike x dashes → word_met reader.rules [] false waiting position x h ≡ (h, trailing position)
  met_dashes waiting position x h e =
      ap (λ o. subcommand_or_other reader.rules o waiting position x h) (no_subcommand waiting x)
      ∙ ap (λ b. cond b (h, trailing position) (long_or_other reader.rules waiting x (long_of x) h)) e

  pub met_other : (waiting : Waiting) (position : ℕ) (x : Text) (h : Held) → bytes_eq x double_dash ≡ false
      → word_met reader.rules [] false waiting position x h ≡ long_or_other reader.rules waiting x (long_of x) h
  met_other waiting position x h e =
      ap (λ o. subcommand_or_other reader.rules o waiting position x h) (no_subcommand waiting x)
      ∙ ap (λ b. cond b (h, trailing position) (long_or_other reader.rules waiting x (long_of x) h)) e

  pub met_plain : (waiting : Waiting) (position : ℕ) (x : Text) (h : Held) → LooksLike x plain → word_met reader.rules [] false waiting position x h ≡ plain_word reader.rules waiting x h
  met_plain waiting position x h like =
      met_other waiting position x h like.0 ∙ ap (λ l. long_or_other reader.rules waiting x l h) like.1 ∙ ap (λ o. short_or_plain reader.rules waiting x o h) like.2

  pub met_named : (waiting : Waiting) (position : ℕ) (x n : Text) (v : Option Text) (h : Held) → LooksLike x (named n v)
      → let met = long_met reader.rules (rule_for (word_kind_in reader.grammar n) n) v h in
      word_met reader.rules [] false waiting position x h ≡ after_flag reader.rules waiting x met.0 met.1
  met_named waiting position x n v h like =
      met_other waiting position x h like.0 ∙ ap (λ l. long_or_other reader.rules waiting x l h) like.1
      ∙ ap (λ o. after_flag reader.rules waiting x (long_met reader.rules o v h).0 (long_met reader.rules o v h).1) (reader.knows.long n)

  -- what a turn comes to, by what the word was
  pub result_as : (rows : List Row) (pending : Option (Text × List Text)) (waiting : Waiting) (position : ℕ) (behind : Bool) (x : Text) (rest : List Text)
      (kinds : Kinds) (met : Held × Step) → word_fault s [] behind waiting x (held rows pending) ≡ kinds → word_met reader.rules [] behind waiting position x (held rows pending) ≡ met
      → let w = at rows pending waiting position behind in
      result_at w (x ∷ rest) ≡ result_next (turn_of w kinds met) (after_step reader.rules x w met.0 met.1) rest
  result_as rows pending waiting position behind x rest kinds met k m =
      let w = at rows pending waiting position behind in
      result_step rows pending waiting position behind x rest
      ∙ ap₂ (λ (a : Kinds) (b : Held × Step). result_next (turn_of w a b) (after_step reader.rules x w b.0 b.1) rest) k m

  -- behind `--`
  pub result_dashes : (rows : List Row) (pending : Option (Text × List Text)) (waiting : Waiting) (position : ℕ) (x : Text) (rest : List Text) → LooksLike x dashes
      → result_at (at rows pending waiting position false) (x ∷ rest) ≡ result_at (at rows pending waiting position true) rest
  result_dashes rows pending waiting position x rest like =
      result_as rows pending waiting position false x rest [] (held rows pending, trailing position)
      (fault_dashes waiting x (held rows pending) like) (met_dashes waiting position x (held rows pending) like)

  pub broken : (words : List Text) → AreTexts words → (rows : List Row) (pending : Option (Text × List Text)) (position : ℕ) (places : List Text)
      → HasPlaces reader.rules position places → IsFault (settle_fault reader.rules false (held rows pending)) → result_at (at rows pending idle position false) words ≡ None
  broken [] u rows pending position places has h = fails_at_end rows pending idle position false h
  broken (x ∷ rest) u rows pending position places has h = by (word_of x) (looks x u.0) places has
    where
      by : (k : Word) → LooksLike x k → (places : List Text) → HasPlaces reader.rules position places → result_at (at rows pending idle position false) (x ∷ rest) ≡ None
      by dashes like places has = result_dashes rows pending idle position x rest like ∙ broken_behind rest rows pending idle position places has h
      by (named n v) like places has =
          word_fails rows pending idle position x rest
          (subst IsFault (sym (fault_named idle x n v (held rows pending) like)) (long_fails (word_kind_in reader.grammar n) n v (held rows pending) h))
      by refused like places has = word_fails rows pending idle position x rest (fault_refused idle x rows pending like)
      by plain like [] has =
          result_as rows pending idle position false x rest [] (held rows pending, value) (fault_plain idle x (held rows pending) like) (met_plain idle position x (held rows pending) like)
          ∙ next_fails _ _ rest (stray position (held rows pending) has)
      by plain like (p ∷ ps) has =
          result_as rows pending idle position false x rest [] (held rows pending, value) (fault_plain idle x (held rows pending) like) (met_plain idle position x (held rows pending) like)
          ∙ next_fails _ _ rest (subst IsFault (sym (place_fault position position p (held rows pending) has.0)) h)
