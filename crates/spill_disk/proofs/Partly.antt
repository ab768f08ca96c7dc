-- An append that failed: a part of its bytes was added, or none.
use Rattle.std.proofs.Common.{◌≡◌, ℕ, ◌++◌, List, [], take, drop, Some, Result, Ok, Err, refl, sym, ap, ◌∙◌}
use Rattle.std.specs.Prelude.{IsSome, OnOk, OnErr}
use Rattle.std.specs.FinMap as map
use Rattle.std.proofs.lemmas.List.{append-nil, take-append-drop}
use Rattle.spill_disk.specs.Files.{Files, AppendsPart, bytes_of}
use Rattle.spill_disk.proofs.LookUps.{put_again}

-- files that are as they were have none of the bytes
pub none_added : (before after : Files) (file : ℕ) (bytes : List ℕ) → IsSome (map.get before file) → after ≡ before → AppendsPart (Some before) (Some after) file bytes
none_added before after file bytes there same =
    let own : bytes_of before file ++ [] ≡ bytes_of before file = append-nil (bytes_of before file) in
    ([], bytes, refl, same ∙ sym (ap (map.insert before file) own ∙ put_again before file there))

-- a try to add the first bytes
pub front_added : {T E : Type 0} (r : Result T E) (before after : Files) (file n : ℕ) (bytes : List ℕ) → IsSome (map.get before file) → OnOk r (after ≡ map.insert before file (bytes_of before file ++ take n bytes)) → OnErr r (after ≡ before) → AppendsPart (Some before) (Some after) file bytes
front_added (Ok x) before after file n bytes there ok err = (take n bytes, drop n bytes, sym (take-append-drop n bytes), ok)
front_added (Err e) before after file n bytes there ok err = none_added before after file bytes there err
