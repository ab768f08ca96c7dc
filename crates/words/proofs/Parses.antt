-- What a parse finds, or that it fails, is what the stricter reading says.
use Rattle.std.proofs.Common.{◌≡◌, ◌≢◌, ◌∙◌, false, refl, sym, ap, ap₂, List, [], ◌∷◌, drop, Option, Some, None, option_map, is_some, true≢false}
use Rattle.std.specs.Prelude.{option_and_then}
use Rattle.std.specs.List.{fold}
use Rattle.clap.specs.Walk.{Row, Rule, nothing_held, rows_after, settled, walk, with_default}
use Rattle.clap.specs.Simple.{App, argument_words, built, matches_of, names_of}
use Rattle.std.specs.Option.{unwrap_or}
use Rattle.clap.specs.Kinds.{Kinds}
use Rattle.clap.specs.Faults.{built_fault, fault_of, level_fault}
use Rattle.clap.proofs.FaultLemmas.{leaf_fault}
use Rattle.words.specs.Reading.{Grammar, Text, Use, collect}
use Rattle.words.specs.Texts.{AreTexts}
use Rattle.words.proofs.Rules.{Knows, outcome, plain_shape, rows_for}
use Rattle.words.proofs.Strict.{strict}
use Rattle.words.proofs.Walks.{reads}

abbrev pub strictly : Grammar → List Text → Option (List Use)
strictly g words = option_and_then (collect []) (strict g words g.places None)

pub record Reads (g : Grammar) (rules : List Rule) (a : App) (words : List Text) : Type 0 where
  pub ok : fault_of a words ≡ [] → (us : List Use) × (strictly g (drop 1 words) ≡ Some us) × (matches_of a words ≡ fold with_default (rows_for us) rules)
  pub bad : fault_of a words ≢ [] → strictly g (drop 1 words) ≡ None

pub came_out : (k : Kinds) (rows : List Row) (o : Option (List Use)) → outcome k rows ≡ option_map rows_for o → k ≡ [] → (us : List Use) × (o ≡ Some us) × (rows ≡ rows_for us)
came_out [] rows None e z = absurd (true≢false (ap is_some e))
came_out [] rows (Some us) e z = (us, refl, ap (λ o. unwrap_or o rows) e)
came_out (k ∷ ks) rows o e z = let no : ⊥ = cc in absurd no

pub came_none : (k : Kinds) (rows : List Row) (o : Option (List Use)) → outcome k rows ≡ option_map rows_for o → k ≢ [] → o ≡ None
came_none [] rows o e z = absurd (z refl)
came_none (k ∷ ks) rows None e z = refl
came_none (k ∷ ks) rows (Some us) e z = absurd (true≢false (sym (ap is_some e)))

pub reads_words : (name : Text) (g : Grammar) (rules : List Rule) (knows : Knows rules g) (a : App) (words : List Text)
    → built a ≡ record { top = plain_shape name rules; subs = [] } → argument_words a words ≡ drop 1 words → AreTexts (drop 1 words) → Reads g rules a words
reads_words name g rules knows a words made behind u =
    let w = drop 1 words in
    let top : App = record { top = plain_shape name rules; subs = [] } in
    let kinds : fault_of a words ≡ level_fault (plain_shape name rules) [] nothing_held w false [] =
    ap₂ (λ (b : App) (x : List Text). built_fault b nothing_held x) made behind ∙ leaf_fault top nothing_held w refl in
    let claim = (reads (record { rules = rules; grammar = g; knows = knows; name = name }) w u).0 [] [] None 1 g.places (record { rows_are = refl; no_fault = refl }) knows.places in
    let rows : matches_of a words ≡ fold with_default (settled rules (walk rules [] nothing_held w).held).rows rules =
    ap₂ (λ (b : App) (x : List Text). rows_after b.top.rules (names_of b) x) made behind in
    record {
      ok = λ none.
          let (us, is, same) = came_out _ _ (strictly g w) claim (sym kinds ∙ none) in
          (us, is, rows ∙ ap (λ rs. fold with_default rs rules) same);
      bad = λ some. came_none _ _ (strictly g w) claim (λ none. some (kinds ∙ none));
    }
