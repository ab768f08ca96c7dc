-- The text of an entry is read as that entry.
use Rattle.std.proofs.Common.{ℕ, ◌≡◌, ◌<◌, ◌^◌, ◌∷◌, [], Bool, true, false, Option, Some, decimal, IfSome, refl}
use Rattle.pool_ledger.specs.declared.entry.Entry.{Entry}
use Rattle.pool_ledger.specs.declared.entry.Event.{Event}
use Rattle.pool_ledger.specs.declared.entry.Event.TheVariants.{Begin, Attempt, Release, End, Evict, Admit, Refused, Pin, Unpin, Remove, Grow}
use Rattle.pool_ledger.specs.declared.entry.Fate.{Fate}
use Rattle.pool_ledger.specs.declared.entry.Level.{Level}
use Rattle.journal_audit.specs.declared.version.Version.{Version}
use Rattle.journal_audit.specs.declared.version.Version.TheVariants.{First, Second}
use Rattle.journal_audit.specs.Text.{fields_joined, got_text, fate_word, level_word, form_word, event_text, entry_text, is_growth, EventFits, FitsIn}
use Rattle.journal_audit.specs.Fields.{split, ended}
use Rattle.journal_audit.specs.Entries.{begin_at, attempt_at, release_at, end_at, evict_at, admit_at, refused_at, pin_at, unpin_at, remove_at, grow_at, block_word, task_word, entry_word, entry_at}
use Rattle.journal_audit.proofs.FieldsAgain.{long_again, short_again, got_again, fate_again, level_again, form_again}

-- `begin` and its fields
begin_again : (worker : ℕ) (task : ℕ) → worker < 2 ^ 32 → task < 2 ^ 32
    → begin_at (fields_joined (decimal worker ∷ decimal task ∷ [])) ≡ Some (record { worker = worker; event = Begin task })
unfolding begin_at ended
begin_again worker task in_worker in_task =
    let after_worker = fields_joined (decimal task ∷ []) in
    rw (short_again worker after_worker in_worker refl) (rw (short_again task [] in_task refl) refl)

-- `attempt` and its fields
attempt_again : (worker : ℕ) (task : ℕ) (asked : ℕ) (moved : ℕ) (evictions : ℕ) (got : Option ℕ) → worker < 2 ^ 32 → task < 2 ^ 32 → asked < 2 ^ 64 → moved < 2 ^ 64 → evictions < 2 ^ 64 → IfSome got (λ n. n < 2 ^ 64)
    → attempt_at (fields_joined (decimal worker ∷ decimal task ∷ decimal asked ∷ decimal moved ∷ decimal evictions ∷ got_text got ∷ [])) ≡ Some (record { worker = worker; event = Attempt task asked moved evictions got })
unfolding attempt_at ended
attempt_again worker task asked moved evictions got in_worker in_task in_asked in_moved in_evictions in_got =
    let after_worker = fields_joined (decimal task ∷ decimal asked ∷ decimal moved ∷ decimal evictions ∷ got_text got ∷ []) in
    let after_task = fields_joined (decimal asked ∷ decimal moved ∷ decimal evictions ∷ got_text got ∷ []) in
    let after_asked = fields_joined (decimal moved ∷ decimal evictions ∷ got_text got ∷ []) in
    let after_moved = fields_joined (decimal evictions ∷ got_text got ∷ []) in
    let after_evictions = fields_joined (got_text got ∷ []) in
    rw (short_again worker after_worker in_worker refl) (rw (short_again task after_task in_task refl) (rw (long_again asked after_asked in_asked refl) (rw (long_again moved after_moved in_moved refl) (rw (long_again evictions after_evictions in_evictions refl) (rw (got_again got [] in_got refl) refl)))))

-- `release` and its fields
release_again : (worker : ℕ) (task : ℕ) (freed : ℕ) → worker < 2 ^ 32 → task < 2 ^ 32 → freed < 2 ^ 64
    → release_at (fields_joined (decimal worker ∷ decimal task ∷ decimal freed ∷ [])) ≡ Some (record { worker = worker; event = Release task freed })
unfolding release_at ended
release_again worker task freed in_worker in_task in_freed =
    let after_worker = fields_joined (decimal task ∷ decimal freed ∷ []) in
    let after_task = fields_joined (decimal freed ∷ []) in
    rw (short_again worker after_worker in_worker refl) (rw (short_again task after_task in_task refl) (rw (long_again freed [] in_freed refl) refl))

-- `end` and its fields
end_again : (worker : ℕ) (task : ℕ) (freed : ℕ) → worker < 2 ^ 32 → task < 2 ^ 32 → freed < 2 ^ 64
    → end_at (fields_joined (decimal worker ∷ decimal task ∷ decimal freed ∷ [])) ≡ Some (record { worker = worker; event = End task freed })
unfolding end_at ended
end_again worker task freed in_worker in_task in_freed =
    let after_worker = fields_joined (decimal task ∷ decimal freed ∷ []) in
    let after_task = fields_joined (decimal freed ∷ []) in
    rw (short_again worker after_worker in_worker refl) (rw (short_again task after_task in_task refl) (rw (long_again freed [] in_freed refl) refl))

-- `evict` and its fields
evict_again : (worker : ℕ) (dataset : ℕ) (part : ℕ) (size : ℕ) (fate : Fate) → worker < 2 ^ 32 → dataset < 2 ^ 32 → part < 2 ^ 32 → size < 2 ^ 64
    → evict_at (fields_joined (decimal worker ∷ decimal dataset ∷ decimal part ∷ decimal size ∷ fate_word fate ∷ [])) ≡ Some (record { worker = worker; event = Evict dataset part size fate })
unfolding evict_at ended
evict_again worker dataset part size fate in_worker in_dataset in_part in_size =
    let after_worker = fields_joined (decimal dataset ∷ decimal part ∷ decimal size ∷ fate_word fate ∷ []) in
    let after_dataset = fields_joined (decimal part ∷ decimal size ∷ fate_word fate ∷ []) in
    let after_part = fields_joined (decimal size ∷ fate_word fate ∷ []) in
    let after_size = fields_joined (fate_word fate ∷ []) in
    rw (short_again worker after_worker in_worker refl) (rw (short_again dataset after_dataset in_dataset refl) (rw (short_again part after_part in_part refl) (rw (long_again size after_size in_size refl) (rw (fate_again fate [] refl) refl))))

-- `admit` and its fields
admit_again : (worker : ℕ) (dataset : ℕ) (part : ℕ) (size : ℕ) (level : Level) (borrowed : ℕ) (evictions : ℕ) → worker < 2 ^ 32 → dataset < 2 ^ 32 → part < 2 ^ 32 → size < 2 ^ 64 → borrowed < 2 ^ 64 → evictions < 2 ^ 64
    → admit_at (fields_joined (decimal worker ∷ decimal dataset ∷ decimal part ∷ decimal size ∷ level_word level ∷ decimal borrowed ∷ decimal evictions ∷ [])) ≡ Some (record { worker = worker; event = Admit dataset part size level borrowed evictions })
unfolding admit_at ended
admit_again worker dataset part size level borrowed evictions in_worker in_dataset in_part in_size in_borrowed in_evictions =
    let after_worker = fields_joined (decimal dataset ∷ decimal part ∷ decimal size ∷ level_word level ∷ decimal borrowed ∷ decimal evictions ∷ []) in
    let after_dataset = fields_joined (decimal part ∷ decimal size ∷ level_word level ∷ decimal borrowed ∷ decimal evictions ∷ []) in
    let after_part = fields_joined (decimal size ∷ level_word level ∷ decimal borrowed ∷ decimal evictions ∷ []) in
    let after_size = fields_joined (level_word level ∷ decimal borrowed ∷ decimal evictions ∷ []) in
    let after_level = fields_joined (decimal borrowed ∷ decimal evictions ∷ []) in
    let after_borrowed = fields_joined (decimal evictions ∷ []) in
    rw (short_again worker after_worker in_worker refl) (rw (short_again dataset after_dataset in_dataset refl) (rw (short_again part after_part in_part refl) (rw (long_again size after_size in_size refl) (rw (level_again level after_level refl) (rw (long_again borrowed after_borrowed in_borrowed refl) (rw (long_again evictions [] in_evictions refl) refl))))))

-- `refused` and its fields
refused_again : (worker : ℕ) (dataset : ℕ) (part : ℕ) (size : ℕ) (borrowed : ℕ) (evictions : ℕ) → worker < 2 ^ 32 → dataset < 2 ^ 32 → part < 2 ^ 32 → size < 2 ^ 64 → borrowed < 2 ^ 64 → evictions < 2 ^ 64
    → refused_at (fields_joined (decimal worker ∷ decimal dataset ∷ decimal part ∷ decimal size ∷ decimal borrowed ∷ decimal evictions ∷ [])) ≡ Some (record { worker = worker; event = Refused dataset part size borrowed evictions })
unfolding refused_at ended
refused_again worker dataset part size borrowed evictions in_worker in_dataset in_part in_size in_borrowed in_evictions =
    let after_worker = fields_joined (decimal dataset ∷ decimal part ∷ decimal size ∷ decimal borrowed ∷ decimal evictions ∷ []) in
    let after_dataset = fields_joined (decimal part ∷ decimal size ∷ decimal borrowed ∷ decimal evictions ∷ []) in
    let after_part = fields_joined (decimal size ∷ decimal borrowed ∷ decimal evictions ∷ []) in
    let after_size = fields_joined (decimal borrowed ∷ decimal evictions ∷ []) in
    let after_borrowed = fields_joined (decimal evictions ∷ []) in
    rw (short_again worker after_worker in_worker refl) (rw (short_again dataset after_dataset in_dataset refl) (rw (short_again part after_part in_part refl) (rw (long_again size after_size in_size refl) (rw (long_again borrowed after_borrowed in_borrowed refl) (rw (long_again evictions [] in_evictions refl) refl)))))

-- `pin` and its fields
pin_again : (worker : ℕ) (dataset : ℕ) (part : ℕ) (copy : Bool) → worker < 2 ^ 32 → dataset < 2 ^ 32 → part < 2 ^ 32
    → pin_at (fields_joined (decimal worker ∷ decimal dataset ∷ decimal part ∷ form_word copy ∷ [])) ≡ Some (record { worker = worker; event = Pin dataset part copy })
unfolding pin_at ended
pin_again worker dataset part copy in_worker in_dataset in_part =
    let after_worker = fields_joined (decimal dataset ∷ decimal part ∷ form_word copy ∷ []) in
    let after_dataset = fields_joined (decimal part ∷ form_word copy ∷ []) in
    let after_part = fields_joined (form_word copy ∷ []) in
    rw (short_again worker after_worker in_worker refl) (rw (short_again dataset after_dataset in_dataset refl) (rw (short_again part after_part in_part refl) (rw (form_again copy [] refl) refl)))

-- `unpin` and its fields
unpin_again : (worker : ℕ) (dataset : ℕ) (part : ℕ) → worker < 2 ^ 32 → dataset < 2 ^ 32 → part < 2 ^ 32
    → unpin_at (fields_joined (decimal worker ∷ decimal dataset ∷ decimal part ∷ [])) ≡ Some (record { worker = worker; event = Unpin dataset part })
unfolding unpin_at ended
unpin_again worker dataset part in_worker in_dataset in_part =
    let after_worker = fields_joined (decimal dataset ∷ decimal part ∷ []) in
    let after_dataset = fields_joined (decimal part ∷ []) in
    rw (short_again worker after_worker in_worker refl) (rw (short_again dataset after_dataset in_dataset refl) (rw (short_again part [] in_part refl) refl))

-- `remove` and its fields
remove_again : (worker : ℕ) (dataset : ℕ) (part : ℕ) (size : ℕ) → worker < 2 ^ 32 → dataset < 2 ^ 32 → part < 2 ^ 32 → size < 2 ^ 64
    → remove_at (fields_joined (decimal worker ∷ decimal dataset ∷ decimal part ∷ decimal size ∷ [])) ≡ Some (record { worker = worker; event = Remove dataset part size })
unfolding remove_at ended
remove_again worker dataset part size in_worker in_dataset in_part in_size =
    let after_worker = fields_joined (decimal dataset ∷ decimal part ∷ decimal size ∷ []) in
    let after_dataset = fields_joined (decimal part ∷ decimal size ∷ []) in
    let after_part = fields_joined (decimal size ∷ []) in
    rw (short_again worker after_worker in_worker refl) (rw (short_again dataset after_dataset in_dataset refl) (rw (short_again part after_part in_part refl) (rw (long_again size [] in_size refl) refl)))

-- `grow` and its fields
grow_again : (worker : ℕ) (grown : ℕ) → worker < 2 ^ 32 → grown < 2 ^ 64
    → grow_at Second (fields_joined (decimal worker ∷ decimal grown ∷ [])) ≡ Some (record { worker = worker; event = Grow grown })
unfolding grow_at ended
grow_again worker grown in_worker in_grown =
    let after_worker = fields_joined (decimal grown ∷ []) in
    rw (short_again worker after_worker in_worker refl) (rw (long_again grown [] in_grown refl) refl)

-- `grow` and its fields, in a version that has it
growth_again : (version : Version) (worker : ℕ) (grown : ℕ) → (version ≡ First → true ≡ false) → worker < 2 ^ 32 → grown < 2 ^ 64
    → grow_at version (fields_joined (decimal worker ∷ decimal grown ∷ [])) ≡ Some (record { worker = worker; event = Grow grown })
growth_again First worker grown known in_worker in_grown = absurd (cc (known refl))
growth_again Second worker grown known in_worker in_grown = grow_again worker grown in_worker in_grown

event_again : (version : Version) (worker : ℕ) (event : Event) → (version ≡ First → is_growth event ≡ false) → worker < 2 ^ 32 → EventFits event
    → entry_at version (event_text worker event) ≡ Some (record { worker = worker; event = event })
unfolding entry_at entry_word task_word block_word split
event_again version worker (Begin task) known in_worker h = begin_again worker task in_worker h
event_again version worker (Attempt task asked moved evictions got) known in_worker h = attempt_again worker task asked moved evictions got in_worker h.0 h.1 h.2 h.3 h.4
event_again version worker (Release task freed) known in_worker h = release_again worker task freed in_worker h.0 h.1
event_again version worker (End task freed) known in_worker h = end_again worker task freed in_worker h.0 h.1
event_again version worker (Evict dataset part size fate) known in_worker h = evict_again worker dataset part size fate in_worker h.0 h.1 h.2
event_again version worker (Admit dataset part size level borrowed evictions) known in_worker h = admit_again worker dataset part size level borrowed evictions in_worker h.0 h.1 h.2 h.3 h.4
event_again version worker (Refused dataset part size borrowed evictions) known in_worker h = refused_again worker dataset part size borrowed evictions in_worker h.0 h.1 h.2 h.3 h.4
event_again version worker (Pin dataset part copy) known in_worker h = pin_again worker dataset part copy in_worker h.0 h.1
event_again version worker (Unpin dataset part) known in_worker h = unpin_again worker dataset part in_worker h.0 h.1
event_again version worker (Remove dataset part size) known in_worker h = remove_again worker dataset part size in_worker h.0 h.1 h.2
event_again version worker (Grow bytes) known in_worker h = growth_again version worker bytes known in_worker h

-- the text of an entry in a version is read as that entry
pub entry_again : (version : Version) (entry : Entry) → FitsIn version entry → entry_at version (entry_text entry) ≡ Some entry
entry_again version entry h = event_again version entry.worker entry.event h.known h.fits.worker h.fits.event
