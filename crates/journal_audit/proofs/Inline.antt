-- The texts of entries have no line feed.
use Rattle.std.proofs.Common.{ℕ, ◌≡◌, ◌<◌, ◌≤◌, ◌^◌, ◌++◌, ◌∷◌, [], List, Bool, Option, Some, None, decimal, codes, length, true, false, IfSome, arith, rules, refl, length-append}
use Rattle.std.specs.List.{prefix_len}
use Rattle.pool_ledger.specs.declared.entry.Entry.{Entry}
use Rattle.pool_ledger.specs.declared.entry.Event.{Event}
use Rattle.pool_ledger.specs.declared.entry.Event.TheVariants.{Begin, Attempt, Release, End, Evict, Admit, Refused, Pin, Unpin, Remove, Grow}
use Rattle.pool_ledger.specs.declared.entry.Fate.{Fate}
use Rattle.pool_ledger.specs.declared.entry.Fate.TheVariants.{Disk, Gone, NoMemory}
use Rattle.pool_ledger.specs.declared.entry.Level.{Level}
use Rattle.pool_ledger.specs.declared.entry.Level.TheVariants.{Memory, Disk as OnDisk}
use Rattle.journal_audit.specs.Text.{fields_joined, got_text, fate_word, level_word, form_word, event_text, entry_text, EventFits, Fits}
use Rattle.journal_audit.specs.Reading.{is_inline}
use Rattle.journal_audit.proofs.FieldsAgain.{passes_append, digits_pass}

-- no line feed in it
abbrev pub IsInline : List ℕ → Type 0
IsInline text = prefix_len is_inline text ≡ length text

digit_inline : (b : ℕ) → 48 ≤ b → b < 58 → is_inline b ≡ true
digit_inline b h _ = search (rules, arith)

pub inline_append : (a b : List ℕ) → IsInline a → IsInline b → IsInline (a ++ b)
inline_append a b ha hb = omega (arith, passes_append is_inline a b ha, hb, length-append a b)

-- no line feed in any of them
abbrev pub Inlines : List (List ℕ) → Type 0
Inlines [] = Unit {0}
Inlines (text ∷ texts) = IsInline text × Inlines texts

pub joined_inline : (texts : List (List ℕ)) → Inlines texts → IsInline (fields_joined texts)
joined_inline [] h = refl
joined_inline (text ∷ texts) h = omega (arith, inline_append text (fields_joined texts) h.0 (joined_inline texts h.1))

pub inline_number : (n : ℕ) → n < 2 ^ 64 → IsInline (decimal n)
inline_number = digits_pass is_inline digit_inline

inline_short : (n : ℕ) → n < 2 ^ 32 → IsInline (decimal n)
inline_short n h = inline_number n (omega (arith, h))

inline_got : (got : Option ℕ) → IfSome got (λ n. n < 2 ^ 64) → IsInline (got_text got)
inline_got None h = refl
inline_got (Some n) h = inline_number n h

inline_fate : (fate : Fate) → IsInline (fate_word fate)
inline_fate Disk = refl
inline_fate Gone = refl
inline_fate NoMemory = refl

inline_level : (level : Level) → IsInline (level_word level)
inline_level Memory = refl
inline_level OnDisk = refl

inline_form : (copy : Bool) → IsInline (form_word copy)
inline_form true = refl
inline_form false = refl

event_inline : (worker : ℕ) (event : Event) → worker < 2 ^ 32 → EventFits event → IsInline (event_text worker event)
event_inline worker (Begin task) in_worker h =
    let texts : List (List ℕ) = decimal worker ∷ decimal task ∷ [] in
    inline_append (codes "begin") (fields_joined texts) refl (joined_inline texts (inline_short worker in_worker, (inline_short task h, tt)))
event_inline worker (Attempt task asked moved evictions got) in_worker h =
    let texts : List (List ℕ) = decimal worker ∷ decimal task ∷ decimal asked ∷ decimal moved ∷ decimal evictions ∷ got_text got ∷ [] in
    inline_append (codes "attempt") (fields_joined texts) refl (joined_inline texts (inline_short worker in_worker, (inline_short task h.0, (inline_number asked h.1, (inline_number moved h.2, (inline_number evictions h.3, (inline_got got h.4, tt)))))))
event_inline worker (Release task freed) in_worker h =
    let texts : List (List ℕ) = decimal worker ∷ decimal task ∷ decimal freed ∷ [] in
    inline_append (codes "release") (fields_joined texts) refl (joined_inline texts (inline_short worker in_worker, (inline_short task h.0, (inline_number freed h.1, tt))))
event_inline worker (End task freed) in_worker h =
    let texts : List (List ℕ) = decimal worker ∷ decimal task ∷ decimal freed ∷ [] in
    inline_append (codes "end") (fields_joined texts) refl (joined_inline texts (inline_short worker in_worker, (inline_short task h.0, (inline_number freed h.1, tt))))
event_inline worker (Evict dataset part size fate) in_worker h =
    let texts : List (List ℕ) = decimal worker ∷ decimal dataset ∷ decimal part ∷ decimal size ∷ fate_word fate ∷ [] in
    inline_append (codes "evict") (fields_joined texts) refl (joined_inline texts (inline_short worker in_worker, (inline_short dataset h.0, (inline_short part h.1, (inline_number size h.2, (inline_fate fate, tt))))))
event_inline worker (Admit dataset part size level borrowed evictions) in_worker h =
    let texts : List (List ℕ) = decimal worker ∷ decimal dataset ∷ decimal part ∷ decimal size ∷ level_word level ∷ decimal borrowed ∷ decimal evictions ∷ [] in
    inline_append (codes "admit") (fields_joined texts) refl (joined_inline texts (inline_short worker in_worker, (inline_short dataset h.0, (inline_short part h.1, (inline_number size h.2, (inline_level level, (inline_number borrowed h.3, (inline_number evictions h.4, tt))))))))
event_inline worker (Refused dataset part size borrowed evictions) in_worker h =
    let texts : List (List ℕ) = decimal worker ∷ decimal dataset ∷ decimal part ∷ decimal size ∷ decimal borrowed ∷ decimal evictions ∷ [] in
    inline_append (codes "refused") (fields_joined texts) refl (joined_inline texts (inline_short worker in_worker, (inline_short dataset h.0, (inline_short part h.1, (inline_number size h.2, (inline_number borrowed h.3, (inline_number evictions h.4, tt)))))))
event_inline worker (Pin dataset part copy) in_worker h =
    let texts : List (List ℕ) = decimal worker ∷ decimal dataset ∷ decimal part ∷ form_word copy ∷ [] in
    inline_append (codes "pin") (fields_joined texts) refl (joined_inline texts (inline_short worker in_worker, (inline_short dataset h.0, (inline_short part h.1, (inline_form copy, tt)))))
event_inline worker (Unpin dataset part) in_worker h =
    let texts : List (List ℕ) = decimal worker ∷ decimal dataset ∷ decimal part ∷ [] in
    inline_append (codes "unpin") (fields_joined texts) refl (joined_inline texts (inline_short worker in_worker, (inline_short dataset h.0, (inline_short part h.1, tt))))
event_inline worker (Remove dataset part size) in_worker h =
    let texts : List (List ℕ) = decimal worker ∷ decimal dataset ∷ decimal part ∷ decimal size ∷ [] in
    inline_append (codes "remove") (fields_joined texts) refl (joined_inline texts (inline_short worker in_worker, (inline_short dataset h.0, (inline_short part h.1, (inline_number size h.2, tt)))))
event_inline worker (Grow bytes) in_worker h =
    let texts : List (List ℕ) = decimal worker ∷ decimal bytes ∷ [] in
    inline_append (codes "grow") (fields_joined texts) refl (joined_inline texts (inline_short worker in_worker, (inline_number bytes h, tt)))

-- the text of an entry has no line feed
pub entry_inline : (entry : Entry) → Fits entry → IsInline (entry_text entry)
entry_inline entry h = event_inline entry.worker entry.event h.worker h.event
