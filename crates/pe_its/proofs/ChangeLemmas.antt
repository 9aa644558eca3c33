-- Stores that go by what the word holds.
use Rattle.std.proofs.Common.{◌≡◌, ℕ, ◌==◌, true, false, IsTrue, List, [], ◌∷◌, ◌++◌, Option, Some, None, All, refl, sym, ap, subst, ◌∙◌}
use Rattle.std.proofs.lemmas.Bool.{eqb-true}
use Rattle.std.proofs.lemmas.List.{append_assoc}
use Rattle.std.proofs.lemmas.List.Elements.{All-nil, All-cons}
use Rattle.pe_mem.specs.Words.{GuestShape}
use Rattle.pe_mem.specs.Calls.{PlainWord, Happened, IsLastRead, has_plain, place_of_plain, plain_at}
use Rattle.pe_mem.specs.GicCall.declared.event.Event.TheVariants.{Read}
use Rattle.pe_mem.specs.GicCall.declared.event.Found.TheVariants.{Word as FoundWord}
use Rattle.pe_mem.specs.GicCall.declared.event.Place.TheVariants.{Word}
use Rattle.pe_mem.specs.Core.{RamLook, RamPut, Seen, AddsStep, shape_of, part_events, made_by}
use Rattle.pe_mem.specs.PortCall.Plain.{is_event_word}
use Rattle.pe_mem.specs.PortCall.Store.{MissesStore, TriesStore}
use Rattle.pe_mem.proofs.ItsExec.GicCall.TraceLemmas.{read_later}
use Rattle.pe_mem.proofs.PortCall.StoreLemmas.{look_misses, look_events, put_events, looked_known, try_stores, misses_join, misses_then_stores, read_of, put_of, if_event, tries}
use Rattle.pe_mem.proofs.PortCall.TurnLemmas.{events_then}
use Rattle.pe_its.specs.Change.{ChangesWord, StoresChanged, KeepsWord}

-- the look before the store, or alone, is the last read
look_read : (word : PlainWord) (found : ℕ) (after : List Happened) → All (λ (h : Happened). h.event ≡ Read (Word word) → ⊥) after → IsLastRead (Word word) (FoundWord found) (read_of word found ∷ after)
look_read word found after none = record { before = []; after = after; split = refl; last = none }

looked_events : (old new : Seen) (word : PlainWord) (index found : ℕ) → IsTrue (has_plain (shape_of old) word) → is_event_word word ≡ true → index ≡ place_of_plain (shape_of old) word → plain_at (shape_of old) index ≡ word → (add : AddsStep old new (RamLook index) found)
    → part_events old (made_by old (RamLook index) found add.tables ∷ []) ≡ read_of word found ∷ []
looked_events old new word index found there kept is back add =
    let at : plain_at (shape_of old) (place_of_plain (shape_of old) word) ≡ word = ap (plain_at (shape_of old)) (sym is) ∙ back in
    look_events old (made_by old (RamLook index) found add.tables) word there at (ap RamLook is) ∙ ap (λ b. if_event b (read_of word found)) kept

-- a look at a word for which the write is ignored
pub keeps_looked : (old new : Seen) (word : PlainWord) (changed : ℕ → Option ℕ) (index found : ℕ) → IsTrue (has_plain (shape_of old) word) → is_event_word word ≡ true → index ≡ place_of_plain (shape_of old) word → plain_at (shape_of old) index ≡ word → changed found ≡ None
    → AddsStep old new (RamLook index) found → KeepsWord old new word changed
unfolding look_misses
keeps_looked old new word changed index found there event is back kept add =
    let Last : List Happened → Type 0 = λ events. IsLastRead (Word word) (FoundWord found) events in
    record {
      found = found;
      kept = kept;
      looks = look_misses old new word index found there is back add;
      read = subst Last (sym (looked_events old new word index found there event is back add)) (look_read word found [] (All-nil (λ h. h.event ≡ Read (Word word) → ⊥)));
    }

-- a look and a try that found what was looked at
pub stores_tried :
    (old mid new : Seen) (word : PlainWord) (changed : ℕ → Option ℕ) (index seen value found : ℕ) → IsTrue (has_plain (shape_of old) word) → is_event_word word ≡ true → index ≡ place_of_plain (shape_of old) word → plain_at (shape_of old) index ≡ word → changed seen ≡ Some value
    → (found == seen) ≡ true → AddsStep old mid (RamLook index) seen → AddsStep mid new (RamPut index seen value) found → StoresChanged old new word changed seen
unfolding look_misses try_stores misses_then_stores
stores_tried old mid new word changed index seen value found there event is back does e look add =
    let shape : shape_of old ≡ shape_of mid = sym (ap shape_of look.adds.new_is) in
    let There : GuestShape → Type 0 = λ shape. IsTrue (has_plain shape word) in
    let there_mid = subst There shape there in
    let is_mid : index ≡ place_of_plain (shape_of mid) word = is ∙ ap (λ shape. place_of_plain shape word) shape in
    let back_mid : plain_at (shape_of mid) index ≡ word = ap (λ shape. plain_at shape index) (sym shape) ∙ back in
    let same : found ≡ seen = eqb-true found seen e in
    let looked = look_misses old mid word index seen there is back look in
    let put = try_stores mid new word index seen value found there_mid is_mid back_mid e (looked_known old mid index seen value look) add in
    let one = made_by old (RamLook index) seen look.tables in
    let two = made_by mid (RamPut index seen value) found add.tables in
    let at : plain_at (shape_of mid) (place_of_plain (shape_of mid) word) ≡ word = ap (plain_at (shape_of mid)) (sym is_mid) ∙ back_mid in
    let step : RamPut index seen value ≡ RamPut (place_of_plain (shape_of mid) word) found value
    = ap (λ index. RamPut index seen value) is_mid ∙ ap (λ seen. RamPut (place_of_plain (shape_of mid) word) seen value) (sym same) in
    let stored : part_events mid (two ∷ []) ≡ put_of word value found ∷ [] = put_events mid two word value there_mid at step ∙ ap (λ b. if_event b (put_of word value found)) event in
    let events : part_events old (one ∷ two ∷ []) ≡ read_of word seen ∷ put_of word value found ∷ []
    = events_then old mid (one ∷ []) (two ∷ []) look.adds ∙ ap (λ early. early ++ part_events mid (two ∷ [])) (looked_events old mid word index seen there event is back look) ∙ ap (λ late. read_of word seen ∷ late) stored in
    let Last : List Happened → Type 0 = λ events. IsLastRead (Word word) (FoundWord seen) events in
    let NotRead : Happened → Type 0 = λ h. h.event ≡ Read (Word word) → ⊥ in
    record {
      value = value;
      changed_is = does;
      stores = misses_then_stores old mid new word value looked put;
      found_is = same;
      read = subst Last (sym events) (look_read word seen (put_of word value found ∷ []) (All-cons NotRead (put_of word value found) [] (λ e. absurd (cc)) (All-nil NotRead)));
    }

-- and one that found another word
pub misses_tried :
    (old mid new : Seen) (word : PlainWord) (index seen value found : ℕ) → IsTrue (has_plain (shape_of old) word) → index ≡ place_of_plain (shape_of old) word → plain_at (shape_of old) index ≡ word → (found == seen) ≡ false
    → AddsStep old mid (RamLook index) seen → AddsStep mid new (RamPut index seen value) found → MissesStore old new word
misses_tried old mid new word index seen value found there is back e look add = subst (TriesStore old new word value) e (tries old mid new word index seen value found there is back look add)

-- after tries that missed
pub misses_then_changes : (old mid new : Seen) (word : PlainWord) (changed : ℕ → Option ℕ) (found : Option ℕ) → MissesStore old mid word → ChangesWord mid new word changed found → ChangesWord old new word changed found
unfolding misses_join misses_then_stores
misses_then_changes old mid new word changed (Some found) one two =
    let late = two.stores.misses ++ two.stores.last ∷ [] in
    let events : part_events old ((one.part ++ two.stores.misses) ++ two.stores.last ∷ []) ≡ part_events old one.part ++ part_events mid late
    = ap (part_events old) (append_assoc one.part two.stores.misses (two.stores.last ∷ [])) ∙ events_then old mid one.part late one.adds in
    let Last : List Happened → Type 0 = λ events. IsLastRead (Word word) (FoundWord found) events in
    record {
      value = two.value;
      changed_is = two.changed_is;
      stores = misses_then_stores old mid new word two.value one two.stores;
      found_is = two.found_is;
      read = subst Last (sym events) (read_later (Word word) (FoundWord found) (part_events old one.part) (part_events mid late) two.read);
    }
misses_then_changes old mid new word changed None one two =
    let Last : List Happened → Type 0 = λ events. IsLastRead (Word word) (FoundWord two.found) events in
    record {
      found = two.found;
      kept = two.kept;
      looks = misses_join old mid new word one two.looks;
      read = subst Last (sym (events_then old mid one.part two.looks.part one.adds)) (read_later (Word word) (FoundWord two.found) (part_events old one.part) (part_events mid two.looks.part) two.read);
    }
