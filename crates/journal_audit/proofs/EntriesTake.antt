-- What is read as an entry is its text, and the entry fits.
use Rattle.std.proofs.Common.{ℕ, ◌≡◌, ◌++◌, inl, inr, ◌∷◌, [], List, Some, decimal, codes, true, ◌∙◌, refl, ap, subst}
use Rattle.std.specs.Str.{bytes_eq}
use Rattle.pool_ledger.specs.declared.entry.Entry.{Entry}
use Rattle.journal_audit.specs.declared.version.Version.{Version}
use Rattle.journal_audit.specs.declared.version.Version.TheVariants.{First, Second}
use Rattle.journal_audit.specs.Text.{field, fields_joined, got_text, fate_word, level_word, form_word, entry_text, FitsIn}
use Rattle.journal_audit.specs.Fields.{split, short_at, long_at, got_at, fate_at, level_at, form_at}
use Rattle.journal_audit.specs.Entries.{begin_at, attempt_at, release_at, end_at, evict_at, admit_at, refused_at, pin_at, unpin_at, remove_at, grow_at, block_word, task_word, entry_word, entry_at}
use Rattle.journal_audit.proofs.Wholes.{same_bytes}
use Rattle.journal_audit.proofs.FieldsTake.{bind_some, chosen, split_takes, short_takes, long_takes, got_takes, fate_takes, level_takes, form_takes, ended_takes}

-- what is read behind `begin` is spelled so
begin_takes : (bytes : List ℕ) (entry : Entry) → begin_at bytes ≡ Some entry → FitsIn First entry × (codes "begin" ++ bytes ≡ entry_text entry)
unfolding begin_at
begin_takes bytes entry h =
    let worker = bind_some (short_at bytes) _ entry h in
    let task = bind_some (short_at worker.0.1) _ entry worker.2 in
    let done = ended_takes _ entry task.0.1 task.2 in
    let is_worker = short_takes bytes worker.0 worker.1 in
    let is_task = short_takes worker.0.1 task.0 task.1 in
    let from_task : worker.0.1 ≡ fields_joined (decimal task.0.0 ∷ []) = is_task.1 ∙ ap (λ x. field (decimal task.0.0) ++ x) done.0 in
    let from_worker : bytes ≡ fields_joined (decimal worker.0.0 ∷ decimal task.0.0 ∷ []) = is_worker.1 ∙ ap (λ x. field (decimal worker.0.0) ++ x) from_task in
    subst (λ v. FitsIn First v × (codes "begin" ++ bytes ≡ entry_text v)) done.1 (record { fits = record { worker = is_worker.0; event = is_task.0 }; known = λ same. refl }, ap (λ x. codes "begin" ++ x) from_worker)

-- what is read behind `attempt` is spelled so
attempt_takes : (bytes : List ℕ) (entry : Entry) → attempt_at bytes ≡ Some entry → FitsIn First entry × (codes "attempt" ++ bytes ≡ entry_text entry)
unfolding attempt_at
attempt_takes bytes entry h =
    let worker = bind_some (short_at bytes) _ entry h in
    let task = bind_some (short_at worker.0.1) _ entry worker.2 in
    let asked = bind_some (long_at task.0.1) _ entry task.2 in
    let moved = bind_some (long_at asked.0.1) _ entry asked.2 in
    let evictions = bind_some (long_at moved.0.1) _ entry moved.2 in
    let got = bind_some (got_at evictions.0.1) _ entry evictions.2 in
    let done = ended_takes _ entry got.0.1 got.2 in
    let is_worker = short_takes bytes worker.0 worker.1 in
    let is_task = short_takes worker.0.1 task.0 task.1 in
    let is_asked = long_takes task.0.1 asked.0 asked.1 in
    let is_moved = long_takes asked.0.1 moved.0 moved.1 in
    let is_evictions = long_takes moved.0.1 evictions.0 evictions.1 in
    let is_got = got_takes evictions.0.1 got.0 got.1 in
    let from_got : evictions.0.1 ≡ fields_joined (got_text got.0.0 ∷ []) = is_got.1 ∙ ap (λ x. field (got_text got.0.0) ++ x) done.0 in
    let from_evictions : moved.0.1 ≡ fields_joined (decimal evictions.0.0 ∷ got_text got.0.0 ∷ []) = is_evictions.1 ∙ ap (λ x. field (decimal evictions.0.0) ++ x) from_got in
    let from_moved : asked.0.1 ≡ fields_joined (decimal moved.0.0 ∷ decimal evictions.0.0 ∷ got_text got.0.0 ∷ []) = is_moved.1 ∙ ap (λ x. field (decimal moved.0.0) ++ x) from_evictions in
    let from_asked : task.0.1 ≡ fields_joined (decimal asked.0.0 ∷ decimal moved.0.0 ∷ decimal evictions.0.0 ∷ got_text got.0.0 ∷ []) = is_asked.1 ∙ ap (λ x. field (decimal asked.0.0) ++ x) from_moved in
    let from_task : worker.0.1 ≡ fields_joined (decimal task.0.0 ∷ decimal asked.0.0 ∷ decimal moved.0.0 ∷ decimal evictions.0.0 ∷ got_text got.0.0 ∷ []) = is_task.1 ∙ ap (λ x. field (decimal task.0.0) ++ x) from_asked in
    let from_worker : bytes ≡ fields_joined (decimal worker.0.0 ∷ decimal task.0.0 ∷ decimal asked.0.0 ∷ decimal moved.0.0 ∷ decimal evictions.0.0 ∷ got_text got.0.0 ∷ []) = is_worker.1 ∙ ap (λ x. field (decimal worker.0.0) ++ x) from_task in
    subst (λ v. FitsIn First v × (codes "attempt" ++ bytes ≡ entry_text v)) done.1 (record { fits = record { worker = is_worker.0; event = (is_task.0, is_asked.0, is_moved.0, is_evictions.0, is_got.0) }; known = λ same. refl }, ap (λ x. codes "attempt" ++ x) from_worker)

-- what is read behind `release` is spelled so
release_takes : (bytes : List ℕ) (entry : Entry) → release_at bytes ≡ Some entry → FitsIn First entry × (codes "release" ++ bytes ≡ entry_text entry)
unfolding release_at
release_takes bytes entry h =
    let worker = bind_some (short_at bytes) _ entry h in
    let task = bind_some (short_at worker.0.1) _ entry worker.2 in
    let freed = bind_some (long_at task.0.1) _ entry task.2 in
    let done = ended_takes _ entry freed.0.1 freed.2 in
    let is_worker = short_takes bytes worker.0 worker.1 in
    let is_task = short_takes worker.0.1 task.0 task.1 in
    let is_freed = long_takes task.0.1 freed.0 freed.1 in
    let from_freed : task.0.1 ≡ fields_joined (decimal freed.0.0 ∷ []) = is_freed.1 ∙ ap (λ x. field (decimal freed.0.0) ++ x) done.0 in
    let from_task : worker.0.1 ≡ fields_joined (decimal task.0.0 ∷ decimal freed.0.0 ∷ []) = is_task.1 ∙ ap (λ x. field (decimal task.0.0) ++ x) from_freed in
    let from_worker : bytes ≡ fields_joined (decimal worker.0.0 ∷ decimal task.0.0 ∷ decimal freed.0.0 ∷ []) = is_worker.1 ∙ ap (λ x. field (decimal worker.0.0) ++ x) from_task in
    subst (λ v. FitsIn First v × (codes "release" ++ bytes ≡ entry_text v)) done.1 (record { fits = record { worker = is_worker.0; event = (is_task.0, is_freed.0) }; known = λ same. refl }, ap (λ x. codes "release" ++ x) from_worker)

-- what is read behind `end` is spelled so
end_takes : (bytes : List ℕ) (entry : Entry) → end_at bytes ≡ Some entry → FitsIn First entry × (codes "end" ++ bytes ≡ entry_text entry)
unfolding end_at
end_takes bytes entry h =
    let worker = bind_some (short_at bytes) _ entry h in
    let task = bind_some (short_at worker.0.1) _ entry worker.2 in
    let freed = bind_some (long_at task.0.1) _ entry task.2 in
    let done = ended_takes _ entry freed.0.1 freed.2 in
    let is_worker = short_takes bytes worker.0 worker.1 in
    let is_task = short_takes worker.0.1 task.0 task.1 in
    let is_freed = long_takes task.0.1 freed.0 freed.1 in
    let from_freed : task.0.1 ≡ fields_joined (decimal freed.0.0 ∷ []) = is_freed.1 ∙ ap (λ x. field (decimal freed.0.0) ++ x) done.0 in
    let from_task : worker.0.1 ≡ fields_joined (decimal task.0.0 ∷ decimal freed.0.0 ∷ []) = is_task.1 ∙ ap (λ x. field (decimal task.0.0) ++ x) from_freed in
    let from_worker : bytes ≡ fields_joined (decimal worker.0.0 ∷ decimal task.0.0 ∷ decimal freed.0.0 ∷ []) = is_worker.1 ∙ ap (λ x. field (decimal worker.0.0) ++ x) from_task in
    subst (λ v. FitsIn First v × (codes "end" ++ bytes ≡ entry_text v)) done.1 (record { fits = record { worker = is_worker.0; event = (is_task.0, is_freed.0) }; known = λ same. refl }, ap (λ x. codes "end" ++ x) from_worker)

-- what is read behind `evict` is spelled so
evict_takes : (bytes : List ℕ) (entry : Entry) → evict_at bytes ≡ Some entry → FitsIn First entry × (codes "evict" ++ bytes ≡ entry_text entry)
unfolding evict_at
evict_takes bytes entry h =
    let worker = bind_some (short_at bytes) _ entry h in
    let dataset = bind_some (short_at worker.0.1) _ entry worker.2 in
    let part = bind_some (short_at dataset.0.1) _ entry dataset.2 in
    let size = bind_some (long_at part.0.1) _ entry part.2 in
    let fate = bind_some (fate_at size.0.1) _ entry size.2 in
    let done = ended_takes _ entry fate.0.1 fate.2 in
    let is_worker = short_takes bytes worker.0 worker.1 in
    let is_dataset = short_takes worker.0.1 dataset.0 dataset.1 in
    let is_part = short_takes dataset.0.1 part.0 part.1 in
    let is_size = long_takes part.0.1 size.0 size.1 in
    let is_fate = fate_takes size.0.1 fate.0 fate.1 in
    let from_fate : size.0.1 ≡ fields_joined (fate_word fate.0.0 ∷ []) = is_fate ∙ ap (λ x. field (fate_word fate.0.0) ++ x) done.0 in
    let from_size : part.0.1 ≡ fields_joined (decimal size.0.0 ∷ fate_word fate.0.0 ∷ []) = is_size.1 ∙ ap (λ x. field (decimal size.0.0) ++ x) from_fate in
    let from_part : dataset.0.1 ≡ fields_joined (decimal part.0.0 ∷ decimal size.0.0 ∷ fate_word fate.0.0 ∷ []) = is_part.1 ∙ ap (λ x. field (decimal part.0.0) ++ x) from_size in
    let from_dataset : worker.0.1 ≡ fields_joined (decimal dataset.0.0 ∷ decimal part.0.0 ∷ decimal size.0.0 ∷ fate_word fate.0.0 ∷ []) = is_dataset.1 ∙ ap (λ x. field (decimal dataset.0.0) ++ x) from_part in
    let from_worker : bytes ≡ fields_joined (decimal worker.0.0 ∷ decimal dataset.0.0 ∷ decimal part.0.0 ∷ decimal size.0.0 ∷ fate_word fate.0.0 ∷ []) = is_worker.1 ∙ ap (λ x. field (decimal worker.0.0) ++ x) from_dataset in
    subst (λ v. FitsIn First v × (codes "evict" ++ bytes ≡ entry_text v)) done.1 (record { fits = record { worker = is_worker.0; event = (is_dataset.0, is_part.0, is_size.0) }; known = λ same. refl }, ap (λ x. codes "evict" ++ x) from_worker)

-- what is read behind `admit` is spelled so
admit_takes : (bytes : List ℕ) (entry : Entry) → admit_at bytes ≡ Some entry → FitsIn First entry × (codes "admit" ++ bytes ≡ entry_text entry)
unfolding admit_at
admit_takes bytes entry h =
    let worker = bind_some (short_at bytes) _ entry h in
    let dataset = bind_some (short_at worker.0.1) _ entry worker.2 in
    let part = bind_some (short_at dataset.0.1) _ entry dataset.2 in
    let size = bind_some (long_at part.0.1) _ entry part.2 in
    let level = bind_some (level_at size.0.1) _ entry size.2 in
    let borrowed = bind_some (long_at level.0.1) _ entry level.2 in
    let evictions = bind_some (long_at borrowed.0.1) _ entry borrowed.2 in
    let done = ended_takes _ entry evictions.0.1 evictions.2 in
    let is_worker = short_takes bytes worker.0 worker.1 in
    let is_dataset = short_takes worker.0.1 dataset.0 dataset.1 in
    let is_part = short_takes dataset.0.1 part.0 part.1 in
    let is_size = long_takes part.0.1 size.0 size.1 in
    let is_level = level_takes size.0.1 level.0 level.1 in
    let is_borrowed = long_takes level.0.1 borrowed.0 borrowed.1 in
    let is_evictions = long_takes borrowed.0.1 evictions.0 evictions.1 in
    let from_evictions : borrowed.0.1 ≡ fields_joined (decimal evictions.0.0 ∷ []) = is_evictions.1 ∙ ap (λ x. field (decimal evictions.0.0) ++ x) done.0 in
    let from_borrowed : level.0.1 ≡ fields_joined (decimal borrowed.0.0 ∷ decimal evictions.0.0 ∷ []) = is_borrowed.1 ∙ ap (λ x. field (decimal borrowed.0.0) ++ x) from_evictions in
    let from_level : size.0.1 ≡ fields_joined (level_word level.0.0 ∷ decimal borrowed.0.0 ∷ decimal evictions.0.0 ∷ []) = is_level ∙ ap (λ x. field (level_word level.0.0) ++ x) from_borrowed in
    let from_size : part.0.1 ≡ fields_joined (decimal size.0.0 ∷ level_word level.0.0 ∷ decimal borrowed.0.0 ∷ decimal evictions.0.0 ∷ []) = is_size.1 ∙ ap (λ x. field (decimal size.0.0) ++ x) from_level in
    let from_part : dataset.0.1 ≡ fields_joined (decimal part.0.0 ∷ decimal size.0.0 ∷ level_word level.0.0 ∷ decimal borrowed.0.0 ∷ decimal evictions.0.0 ∷ []) = is_part.1 ∙ ap (λ x. field (decimal part.0.0) ++ x) from_size in
    let from_dataset : worker.0.1 ≡ fields_joined (decimal dataset.0.0 ∷ decimal part.0.0 ∷ decimal size.0.0 ∷ level_word level.0.0 ∷ decimal borrowed.0.0 ∷ decimal evictions.0.0 ∷ []) = is_dataset.1 ∙ ap (λ x. field (decimal dataset.0.0) ++ x) from_part in
    let from_worker : bytes ≡ fields_joined (decimal worker.0.0 ∷ decimal dataset.0.0 ∷ decimal part.0.0 ∷ decimal size.0.0 ∷ level_word level.0.0 ∷ decimal borrowed.0.0 ∷ decimal evictions.0.0 ∷ []) = is_worker.1 ∙ ap (λ x. field (decimal worker.0.0) ++ x) from_dataset in
    subst (λ v. FitsIn First v × (codes "admit" ++ bytes ≡ entry_text v)) done.1 (record { fits = record { worker = is_worker.0; event = (is_dataset.0, is_part.0, is_size.0, is_borrowed.0, is_evictions.0) }; known = λ same. refl }, ap (λ x. codes "admit" ++ x) from_worker)

-- what is read behind `refused` is spelled so
refused_takes : (bytes : List ℕ) (entry : Entry) → refused_at bytes ≡ Some entry → FitsIn First entry × (codes "refused" ++ bytes ≡ entry_text entry)
unfolding refused_at
refused_takes bytes entry h =
    let worker = bind_some (short_at bytes) _ entry h in
    let dataset = bind_some (short_at worker.0.1) _ entry worker.2 in
    let part = bind_some (short_at dataset.0.1) _ entry dataset.2 in
    let size = bind_some (long_at part.0.1) _ entry part.2 in
    let borrowed = bind_some (long_at size.0.1) _ entry size.2 in
    let evictions = bind_some (long_at borrowed.0.1) _ entry borrowed.2 in
    let done = ended_takes _ entry evictions.0.1 evictions.2 in
    let is_worker = short_takes bytes worker.0 worker.1 in
    let is_dataset = short_takes worker.0.1 dataset.0 dataset.1 in
    let is_part = short_takes dataset.0.1 part.0 part.1 in
    let is_size = long_takes part.0.1 size.0 size.1 in
    let is_borrowed = long_takes size.0.1 borrowed.0 borrowed.1 in
    let is_evictions = long_takes borrowed.0.1 evictions.0 evictions.1 in
    let from_evictions : borrowed.0.1 ≡ fields_joined (decimal evictions.0.0 ∷ []) = is_evictions.1 ∙ ap (λ x. field (decimal evictions.0.0) ++ x) done.0 in
    let from_borrowed : size.0.1 ≡ fields_joined (decimal borrowed.0.0 ∷ decimal evictions.0.0 ∷ []) = is_borrowed.1 ∙ ap (λ x. field (decimal borrowed.0.0) ++ x) from_evictions in
    let from_size : part.0.1 ≡ fields_joined (decimal size.0.0 ∷ decimal borrowed.0.0 ∷ decimal evictions.0.0 ∷ []) = is_size.1 ∙ ap (λ x. field (decimal size.0.0) ++ x) from_borrowed in
    let from_part : dataset.0.1 ≡ fields_joined (decimal part.0.0 ∷ decimal size.0.0 ∷ decimal borrowed.0.0 ∷ decimal evictions.0.0 ∷ []) = is_part.1 ∙ ap (λ x. field (decimal part.0.0) ++ x) from_size in
    let from_dataset : worker.0.1 ≡ fields_joined (decimal dataset.0.0 ∷ decimal part.0.0 ∷ decimal size.0.0 ∷ decimal borrowed.0.0 ∷ decimal evictions.0.0 ∷ []) = is_dataset.1 ∙ ap (λ x. field (decimal dataset.0.0) ++ x) from_part in
    let from_worker : bytes ≡ fields_joined (decimal worker.0.0 ∷ decimal dataset.0.0 ∷ decimal part.0.0 ∷ decimal size.0.0 ∷ decimal borrowed.0.0 ∷ decimal evictions.0.0 ∷ []) = is_worker.1 ∙ ap (λ x. field (decimal worker.0.0) ++ x) from_dataset in
    subst (λ v. FitsIn First v × (codes "refused" ++ bytes ≡ entry_text v)) done.1 (record { fits = record { worker = is_worker.0; event = (is_dataset.0, is_part.0, is_size.0, is_borrowed.0, is_evictions.0) }; known = λ same. refl }, ap (λ x. codes "refused" ++ x) from_worker)

-- what is read behind `pin` is spelled so
pin_takes : (bytes : List ℕ) (entry : Entry) → pin_at bytes ≡ Some entry → FitsIn First entry × (codes "pin" ++ bytes ≡ entry_text entry)
unfolding pin_at
pin_takes bytes entry h =
    let worker = bind_some (short_at bytes) _ entry h in
    let dataset = bind_some (short_at worker.0.1) _ entry worker.2 in
    let part = bind_some (short_at dataset.0.1) _ entry dataset.2 in
    let copy = bind_some (form_at part.0.1) _ entry part.2 in
    let done = ended_takes _ entry copy.0.1 copy.2 in
    let is_worker = short_takes bytes worker.0 worker.1 in
    let is_dataset = short_takes worker.0.1 dataset.0 dataset.1 in
    let is_part = short_takes dataset.0.1 part.0 part.1 in
    let is_copy = form_takes part.0.1 copy.0 copy.1 in
    let from_copy : part.0.1 ≡ fields_joined (form_word copy.0.0 ∷ []) = is_copy ∙ ap (λ x. field (form_word copy.0.0) ++ x) done.0 in
    let from_part : dataset.0.1 ≡ fields_joined (decimal part.0.0 ∷ form_word copy.0.0 ∷ []) = is_part.1 ∙ ap (λ x. field (decimal part.0.0) ++ x) from_copy in
    let from_dataset : worker.0.1 ≡ fields_joined (decimal dataset.0.0 ∷ decimal part.0.0 ∷ form_word copy.0.0 ∷ []) = is_dataset.1 ∙ ap (λ x. field (decimal dataset.0.0) ++ x) from_part in
    let from_worker : bytes ≡ fields_joined (decimal worker.0.0 ∷ decimal dataset.0.0 ∷ decimal part.0.0 ∷ form_word copy.0.0 ∷ []) = is_worker.1 ∙ ap (λ x. field (decimal worker.0.0) ++ x) from_dataset in
    subst (λ v. FitsIn First v × (codes "pin" ++ bytes ≡ entry_text v)) done.1 (record { fits = record { worker = is_worker.0; event = (is_dataset.0, is_part.0) }; known = λ same. refl }, ap (λ x. codes "pin" ++ x) from_worker)

-- what is read behind `unpin` is spelled so
unpin_takes : (bytes : List ℕ) (entry : Entry) → unpin_at bytes ≡ Some entry → FitsIn First entry × (codes "unpin" ++ bytes ≡ entry_text entry)
unfolding unpin_at
unpin_takes bytes entry h =
    let worker = bind_some (short_at bytes) _ entry h in
    let dataset = bind_some (short_at worker.0.1) _ entry worker.2 in
    let part = bind_some (short_at dataset.0.1) _ entry dataset.2 in
    let done = ended_takes _ entry part.0.1 part.2 in
    let is_worker = short_takes bytes worker.0 worker.1 in
    let is_dataset = short_takes worker.0.1 dataset.0 dataset.1 in
    let is_part = short_takes dataset.0.1 part.0 part.1 in
    let from_part : dataset.0.1 ≡ fields_joined (decimal part.0.0 ∷ []) = is_part.1 ∙ ap (λ x. field (decimal part.0.0) ++ x) done.0 in
    let from_dataset : worker.0.1 ≡ fields_joined (decimal dataset.0.0 ∷ decimal part.0.0 ∷ []) = is_dataset.1 ∙ ap (λ x. field (decimal dataset.0.0) ++ x) from_part in
    let from_worker : bytes ≡ fields_joined (decimal worker.0.0 ∷ decimal dataset.0.0 ∷ decimal part.0.0 ∷ []) = is_worker.1 ∙ ap (λ x. field (decimal worker.0.0) ++ x) from_dataset in
    subst (λ v. FitsIn First v × (codes "unpin" ++ bytes ≡ entry_text v)) done.1 (record { fits = record { worker = is_worker.0; event = (is_dataset.0, is_part.0) }; known = λ same. refl }, ap (λ x. codes "unpin" ++ x) from_worker)

-- what is read behind `remove` is spelled so
remove_takes : (bytes : List ℕ) (entry : Entry) → remove_at bytes ≡ Some entry → FitsIn First entry × (codes "remove" ++ bytes ≡ entry_text entry)
unfolding remove_at
remove_takes bytes entry h =
    let worker = bind_some (short_at bytes) _ entry h in
    let dataset = bind_some (short_at worker.0.1) _ entry worker.2 in
    let part = bind_some (short_at dataset.0.1) _ entry dataset.2 in
    let size = bind_some (long_at part.0.1) _ entry part.2 in
    let done = ended_takes _ entry size.0.1 size.2 in
    let is_worker = short_takes bytes worker.0 worker.1 in
    let is_dataset = short_takes worker.0.1 dataset.0 dataset.1 in
    let is_part = short_takes dataset.0.1 part.0 part.1 in
    let is_size = long_takes part.0.1 size.0 size.1 in
    let from_size : part.0.1 ≡ fields_joined (decimal size.0.0 ∷ []) = is_size.1 ∙ ap (λ x. field (decimal size.0.0) ++ x) done.0 in
    let from_part : dataset.0.1 ≡ fields_joined (decimal part.0.0 ∷ decimal size.0.0 ∷ []) = is_part.1 ∙ ap (λ x. field (decimal part.0.0) ++ x) from_size in
    let from_dataset : worker.0.1 ≡ fields_joined (decimal dataset.0.0 ∷ decimal part.0.0 ∷ decimal size.0.0 ∷ []) = is_dataset.1 ∙ ap (λ x. field (decimal dataset.0.0) ++ x) from_part in
    let from_worker : bytes ≡ fields_joined (decimal worker.0.0 ∷ decimal dataset.0.0 ∷ decimal part.0.0 ∷ decimal size.0.0 ∷ []) = is_worker.1 ∙ ap (λ x. field (decimal worker.0.0) ++ x) from_dataset in
    subst (λ v. FitsIn First v × (codes "remove" ++ bytes ≡ entry_text v)) done.1 (record { fits = record { worker = is_worker.0; event = (is_dataset.0, is_part.0, is_size.0) }; known = λ same. refl }, ap (λ x. codes "remove" ++ x) from_worker)

-- the same of each word
block_word_takes : (word rest : List ℕ) (entry : Entry) → block_word word rest ≡ Some entry → FitsIn First entry × (word ++ rest ≡ entry_text entry)
unfolding block_word
block_word_takes word rest entry h =
    let at : (known : List ℕ) → bytes_eq word known ≡ true → word ++ rest ≡ known ++ rest = λ known same. ap (λ x. x ++ rest) (same_bytes word known same) in
    elim (chosen (bytes_eq word (codes "evict")) _ _ (Some entry) h) [
      | inl t ↦ let k = evict_takes rest entry t.1 in (k.0, at (codes "evict") t.0 ∙ k.1)
      | inr no_evict ↦
          elim (chosen (bytes_eq word (codes "admit")) _ _ (Some entry) no_evict.1) [
            | inl t ↦ let k = admit_takes rest entry t.1 in (k.0, at (codes "admit") t.0 ∙ k.1)
            | inr no_admit ↦
                elim (chosen (bytes_eq word (codes "refused")) _ _ (Some entry) no_admit.1) [
                  | inl t ↦ let k = refused_takes rest entry t.1 in (k.0, at (codes "refused") t.0 ∙ k.1)
                  | inr no_refused ↦
                      elim (chosen (bytes_eq word (codes "pin")) _ _ (Some entry) no_refused.1) [
                        | inl t ↦ let k = pin_takes rest entry t.1 in (k.0, at (codes "pin") t.0 ∙ k.1)
                        | inr no_pin ↦
                            elim (chosen (bytes_eq word (codes "unpin")) _ _ (Some entry) no_pin.1) [
                              | inl t ↦ let k = unpin_takes rest entry t.1 in (k.0, at (codes "unpin") t.0 ∙ k.1)
                              | inr no_unpin ↦
                                  elim (chosen (bytes_eq word (codes "remove")) _ _ (Some entry) no_unpin.1) [
                                    | inl t ↦ let k = remove_takes rest entry t.1 in (k.0, at (codes "remove") t.0 ∙ k.1)
                                    | inr no_remove ↦
                                        absurd (cc no_remove.1)
                                  ]
                            ]
                      ]
                ]
          ]
    ]

-- the same of each word
task_word_takes : (word rest : List ℕ) (entry : Entry) → task_word word rest ≡ Some entry → FitsIn First entry × (word ++ rest ≡ entry_text entry)
unfolding task_word
task_word_takes word rest entry h =
    let at : (known : List ℕ) → bytes_eq word known ≡ true → word ++ rest ≡ known ++ rest = λ known same. ap (λ x. x ++ rest) (same_bytes word known same) in
    elim (chosen (bytes_eq word (codes "begin")) _ _ (Some entry) h) [
      | inl t ↦ let k = begin_takes rest entry t.1 in (k.0, at (codes "begin") t.0 ∙ k.1)
      | inr no_begin ↦
          elim (chosen (bytes_eq word (codes "attempt")) _ _ (Some entry) no_begin.1) [
            | inl t ↦ let k = attempt_takes rest entry t.1 in (k.0, at (codes "attempt") t.0 ∙ k.1)
            | inr no_attempt ↦
                elim (chosen (bytes_eq word (codes "release")) _ _ (Some entry) no_attempt.1) [
                  | inl t ↦ let k = release_takes rest entry t.1 in (k.0, at (codes "release") t.0 ∙ k.1)
                  | inr no_release ↦
                      elim (chosen (bytes_eq word (codes "end")) _ _ (Some entry) no_release.1) [
                        | inl t ↦ let k = end_takes rest entry t.1 in (k.0, at (codes "end") t.0 ∙ k.1)
                        | inr no_end ↦
                            block_word_takes word rest entry no_end.1
                      ]
                ]
          ]
    ]

-- what is read behind `grow` is spelled so
grow_takes : (version : Version) (bytes : List ℕ) (entry : Entry) → grow_at version bytes ≡ Some entry → FitsIn version entry × (codes "grow" ++ bytes ≡ entry_text entry)
unfolding grow_at
grow_takes First bytes entry h = absurd (cc h)
grow_takes Second bytes entry h =
    let worker = bind_some (short_at bytes) _ entry h in
    let grown = bind_some (long_at worker.0.1) _ entry worker.2 in
    let done = ended_takes _ entry grown.0.1 grown.2 in
    let is_worker = short_takes bytes worker.0 worker.1 in
    let is_grown = long_takes worker.0.1 grown.0 grown.1 in
    let from_grown : worker.0.1 ≡ fields_joined (decimal grown.0.0 ∷ []) = is_grown.1 ∙ ap (λ x. field (decimal grown.0.0) ++ x) done.0 in
    let from_worker : bytes ≡ fields_joined (decimal worker.0.0 ∷ decimal grown.0.0 ∷ []) = is_worker.1 ∙ ap (λ x. field (decimal worker.0.0) ++ x) from_grown in
    subst (λ v. FitsIn Second v × (codes "grow" ++ bytes ≡ entry_text v)) done.1
    (record { fits = record { worker = is_worker.0; event = is_grown.0 }; known = λ same. absurd (cc same) }, ap (λ x. codes "grow" ++ x) from_worker)

-- what fits in the first version fits in each
in_each : (version : Version) (entry : Entry) → FitsIn First entry → FitsIn version entry
in_each version entry h = record { fits = h.fits; known = λ same. h.known refl }

-- what is read is an entry's text in the version
pub entry_takes : (version : Version) (bytes : List ℕ) (entry : Entry) → entry_at version bytes ≡ Some entry → FitsIn version entry × (bytes ≡ entry_text entry)
unfolding entry_at entry_word
entry_takes version bytes entry h =
    let word = (split bytes).0 in
    let rest = (split bytes).1 in
    elim (chosen (bytes_eq word (codes "grow")) _ _ (Some entry) h) [
      | inl t ↦
          let k = grow_takes version rest entry t.1 in
          (k.0, split_takes bytes ∙ ap (λ x. x ++ rest) (same_bytes word (codes "grow") t.0) ∙ k.1)
      | inr t ↦
          let k = task_word_takes word rest entry t.1 in
          (in_each version entry k.0, split_takes bytes ∙ k.1)
    ]
