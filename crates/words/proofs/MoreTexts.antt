-- One more word that is UTF-8.
use Rattle.std.proofs.Common.{◌≡◌, ◌<◌, ◌+◌, ℕ, zero, suc, List, [], ◌∷◌, length, take, get_or, arith, subst}
use Rattle.std.specs.Str.{IsUtf8}
use Rattle.std.specs.Borrow.{Bor}
use Rattle.words.specs.Reading.{Text}
use Rattle.words.specs.Texts.{AreTexts, texts}

next_text : (ws : List (Bor Text)) (i : ℕ) (d : Bor Text) → i < length ws → AreTexts (texts (take i ws)) → IsUtf8 (get_or ws i d).now
    → AreTexts (texts (take (suc i) ws))
next_text [] i d lt before here = absurd (omega arith)
next_text (w ∷ ws) zero d lt before here = (here, tt)
next_text (w ∷ ws) (suc i) d lt before here = (before.0, next_text ws i d (omega arith) before.1 here)

pub texts_more : (ws : List (Bor Text)) (i : ℕ) (d : Bor Text) → i < length ws → AreTexts (texts (take i ws)) → IsUtf8 (get_or ws i d).now
    → AreTexts (texts (take (i + 1) ws))
texts_more ws i d lt before here =
    let e : suc i ≡ i + 1 = omega arith in
    subst (λ k. AreTexts (texts (take k ws))) e (next_text ws i d lt before here)
