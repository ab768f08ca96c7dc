-- From a replay to the answer to its entries, and from that to the verdict of a text.
use Rattle.std.proofs.Common.{◌≡◌, ℕ, ◌+◌, ◌<◌, ◌≤◌, true, false, List, [], ◌∷◌, ◌++◌, All, get_or, take, drop, length, Some, refl, sym, ap, subst, ◌∙◌, inl, inr, arith, append_assoc, take-append-drop}
use Rattle.std.specs.Prelude.{is_some, reverse}
use Rattle.std.proofs.lemmas.Bool.{both_ways}
use Rattle.std.proofs.lemmas.Grind.{flat_map-append}
use Rattle.std.proofs.lemmas.List.{at_drop_more, length-take-le, take_all}
use Rattle.std.proofs.lemmas.List.Elements.{All-push}
use Rattle.pool_ledger.specs.declared.entry.Entry.{Entry}
use Rattle.pool_ledger.specs.Sizes.{Sizes}
use Rattle.pool_ledger.specs.History.{History}
use Rattle.pool_ledger.specs.Journal.{after}
use Rattle.pool_ledger.specs.Legal.{pending, IsPermitted}
use Rattle.pool_ledger.proofs.Prefixes.{after-more}
use Rattle.journal_audit.specs.declared.rules.Rule.{Rule}
use Rattle.journal_audit.specs.declared.rules.Rule.TheVariants.{Pending}
use Rattle.journal_audit.specs.declared.version.Version.{Version}
use Rattle.journal_audit.specs.Text.{entry_text, head_text, lines_text, FitsIn}
use Rattle.journal_audit.specs.Lines.{IsBadLine, IsSetup}
use Rattle.journal_audit.specs.Rules.{first_broken, is_waiting}
use Rattle.journal_audit.proofs.Tests.{is_not_waiting, none_waits}
use Rattle.journal_replay.specs.declared.replay.Replay.{Replay}
use Rattle.journal_replay.specs.declared.verdict.Verdict.{Verdict}
use Rattle.journal_replay.specs.declared.verdict.Verdict.TheVariants.{Yes, No, BadLine}
use Rattle.journal_replay.specs.Replays.{history_of, setup_of, TellsHistory}
use Rattle.journal_replay.specs.Verdicts.{IsAnswer, IsBad, IsTextOf, IsVerdict}
use Rattle.journal_replay.proofs.OneVerdict.{line_more}

module _ (setup : Sizes) (entries : List Entry) (replay : Replay) (same : setup_of replay ≡ setup) where
  -- an entry that breaks a rule
  pub answer_no : (i : ℕ) (any : Entry) (rule : Rule) → TellsHistory replay (after i entries) → i < length entries
      → first_broken (setup_of replay) (history_of replay) (get_or entries i any) ≡ Some rule → IsAnswer setup entries (No (i + 1) rule)
  answer_no i any rule tells below breaks =
      let behind : drop i entries ≡ get_or entries i any ∷ drop (i + 1) entries = at_drop_more (λ (es : List Entry). es) entries i any below in
      let front : length (take i entries) ≡ i = length-take-le i entries (omega (arith, below)) in
      inl (record {
        front = take i entries;
        entry = get_or entries i any;
        behind = drop (i + 1) entries;
        split = sym (take-append-drop i entries) ∙ ap (λ (es : List Entry). take i entries ++ es) behind;
        permitted = subst (λ (s : Sizes). IsPermitted s (after i entries)) same tells.turns.permitted;
        breaks =
            ap (λ (s : Sizes). first_broken s (after i entries) (get_or entries i any)) (sym same)
            ∙ ap (λ (h : History). first_broken (setup_of replay) h (get_or entries i any)) (sym tells.turns.same)
            ∙ breaks;
        number = omega (arith, front);
      })

  -- evictions that wait at the end
  pub answer_amid : (n : ℕ) → TellsHistory replay (after n entries) → length entries ≤ n → is_some replay.turns.waits ≡ true → IsAnswer setup entries (No (length entries + 1) Pending)
  answer_amid n tells all waits =
      let whole : after n entries ≡ reverse entries = ap reverse (take_all n entries all) in
      inr (record {
        permitted = subst (λ (s : Sizes). IsPermitted s (reverse entries)) same (subst (IsPermitted (setup_of replay)) whole tells.turns.permitted);
        waits = λ none. both_ways (is_waiting (after n entries)) (is_not_waiting (after n entries) (ap pending whole ∙ none)) (tells.turns.waits ∙ waits);
        number = refl;
        rule_is = refl;
      })

  -- a legal journal
  pub answer_yes : (n : ℕ) → TellsHistory replay (after n entries) → length entries ≤ n → is_some replay.turns.waits ≡ false → IsAnswer setup entries (Yes (length entries))
  answer_yes n tells all waits =
      let whole : after n entries ≡ reverse entries = ap reverse (take_all n entries all) in (
        record {
          permitted = subst (λ (s : Sizes). IsPermitted s (reverse entries)) same (subst (IsPermitted (setup_of replay)) whole tells.turns.permitted);
          whole = ap pending (sym whole) ∙ none_waits (after n entries) (tells.turns.waits ∙ waits);
        },
        refl,
      )

-- the entries so far with one more
pub tells_more : (replay new : Replay) (entries : List Entry) (i : ℕ) (any : Entry) → TellsHistory replay (after i entries) → i < length entries
    → TellsHistory new (get_or entries i any ∷ history_of replay) → TellsHistory new (after (i + 1) entries)
tells_more replay new entries i any tells below after_it =
    subst (TellsHistory new) (sym (after-more i entries any below ∙ ap (λ (h : History). get_or entries i any ∷ h) (sym tells.turns.same))) after_it

-- the verdict of the text
module _ (text : List ℕ) (version : Version) (setup : Sizes) (lines : List ℕ) (is_setup : IsSetup setup) (split : text ≡ head_text version setup ++ (10 ∷ lines)) where
  of_entries : (entries : List Entry) → All (FitsIn version) entries → lines ≡ lines_text entries → IsTextOf text setup entries
  of_entries entries fits is =
      record { version = version; setup_is = is_setup; fits = fits; text_is = split ∙ ap (λ (bytes : List ℕ). head_text version setup ++ (10 ∷ bytes)) is }

  pub of_answer : (entries : List Entry) (verdict : Verdict) → All (FitsIn version) entries → lines ≡ lines_text entries → IsAnswer setup entries verdict → IsVerdict text verdict
  of_answer entries (Yes events) fits is answer = record { setup = setup; entries = entries; of = of_entries entries fits is; answer = answer }
  of_answer entries (No event rule) fits is answer = record { setup = setup; entries = entries; of = of_entries entries fits is; answer = answer }
  of_answer entries (BadLine line) fits is answer = absurd answer

  pub of_bad_line : (line : ℕ) → IsBadLine version lines line → IsBad text line
  of_bad_line line bad = inr (record { version = version; setup = setup; lines = lines; setup_is = is_setup; split = split; bad = bad })

-- one more line that was read
pub lines_more : (version : Version) (lines : List ℕ) (items more : List Entry) (rest behind : List ℕ) (entry : Entry)
    → All (FitsIn version) items × (lines ≡ lines_text items ++ rest) → more ≡ items ++ entry ∷ []
    → FitsIn version entry × (rest ≡ entry_text entry ++ (10 ∷ behind)) → All (FitsIn version) more × (lines ≡ lines_text more ++ behind)
lines_more version lines items more rest behind entry so_far is found =
    let fits : All (FitsIn version) more = subst (All (FitsIn version)) (sym is) (All-push (FitsIn version) items entry so_far.0 found.0) in
    let text : lines ≡ lines_text more ++ behind =
    so_far.1
    ∙ ap (λ (bytes : List ℕ). lines_text items ++ bytes) (found.1 ∙ sym (line_more entry [] behind))
    ∙ sym (append_assoc (lines_text items) (lines_text (entry ∷ [])) behind)
    ∙ ap (λ (bytes : List ℕ). bytes ++ behind) (sym (flat_map-append (λ (e : Entry). entry_text e ++ 10 ∷ []) items (entry ∷ [])))
    ∙ ap (λ (es : List Entry). lines_text es ++ behind) (sym is) in
    (fits, text)
