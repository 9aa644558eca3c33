-- Stores that go by what the word holds.
use Rattle.std.proofs.Common.{◌≡◌, ℕ, ◌==◌, not, Bool, true, false, cond, IsTrue, List, [], ◌∷◌, ◌++◌, map, All, Option, Some, None, refl, sym, ap, subst, ◌∙◌}
use Rattle.std.proofs.lemmas.Bool.{eqb-true}
use Rattle.std.proofs.lemmas.List.{append_assoc}
use Rattle.std.proofs.lemmas.List.Sums.{fold-append}
use Rattle.std.proofs.lemmas.List.Elements.{All-cons, All-nil, All-head, All-tail, filter-append}
use Rattle.its_exec.specs.Calls.{PlainWord, has_plain, place_of_plain, plain_at, Event, Put, Place, Happened, Makes, HandsOut, IsLastRead, is_beside, named_of, held_at, View}
use Rattle.its_exec.specs.GicCall.declared.event.Event.TheVariants.{Read}
use Rattle.its_exec.specs.GicCall.declared.event.Found.TheVariants.{Word as FoundWord}
use Rattle.its_exec.specs.GicCall.declared.event.Place.TheVariants.{Word}
use Rattle.its_exec.specs.Core.{Made, RamLook, RamPut, last_made, Seen, AddsStep, shape_of, made_by, part_events}
use Rattle.its_exec.specs.PortCall.Plain.{is_event_word}
use Rattle.its_exec.specs.PortCall.Rest.{IsAtEase, StaysAtEase}
use Rattle.its_exec.specs.PortCall.Store.{Stores, MissesStore, TriesStore, AreStoreEvents}
use Rattle.its_exec.proofs.PortCall.StoreLemmas.{misses_join, misses_then_stores, tries}
use Rattle.pe_mem.specs.Call.{Serves}
use Rattle.pe_mem.specs.Store.{Updates, TriesUpdate}
use Rattle.pe_mem.proofs.EachLemmas.{own_of_piece, stays_self}
use Rattle.pe_mem.proofs.ServeLemmas.{nothing_known}

-- the last step is the last one
pub last_of : (own : List Made) (made : Made) → last_made (own ++ made ∷ []) ≡ Some made
last_of own made = fold-append (λ last made. Some made) None own (made ∷ [])

pub stores_last : (old new : Seen) (word : PlainWord) (value : ℕ) (stores : Stores old new word value) → last_made new.own ≡ Some stores.last
stores_last old new word value stores =
    ap (λ seen. last_made seen.own) stores.adds.new_is ∙ ap last_made (sym (append_assoc old.own stores.misses (stores.last ∷ []))) ∙ last_of (old.own ++ stores.misses) stores.last

pub same_last : (own : List Made) (one other : Made) → last_made own ≡ Some one → last_made own ≡ Some other → one ≡ other
same_last own one other e f = let same : Some one ≡ Some other = sym e ∙ f in cc

pub updates_tried :
    (old mid new : Seen) (word : PlainWord) (changed : ℕ → ℕ) (index seen value found : ℕ) → IsTrue (has_plain (shape_of old) word) → index ≡ place_of_plain (shape_of old) word → plain_at (shape_of old) index ≡ word → value ≡ changed seen
    → AddsStep old mid (RamLook index) seen → AddsStep mid new (RamPut index seen value) found → TriesUpdate old new word changed (found == seen)
updates_tried old mid new word changed index seen value found there is back does look add = of (found == seen) refl (tries old mid new word index seen value found there is back look add)
  where
    of : (b : Bool) → (found == seen) ≡ b → TriesStore old new word value b → TriesUpdate old new word changed b
    of true e stores =
        let made = made_by mid (RamPut index seen value) found add.tables in
        let by : last_made new.own ≡ Some made = ap (λ seen. last_made seen.own) add.adds.new_is ∙ last_of mid.own made in
        let same : stores.last ≡ made = same_last new.own stores.last made (stores_last old new word value stores) by in
        let By : (ℕ → Type 0) = λ n. (stores : Stores old new word n) × (stores.last.found ≡ seen) in
        let all : By (changed seen) = subst By does (stores, ap (λ made. made.found) same ∙ eqb-true found seen e) in
        record { found = seen; stores = all.0; found_is = all.1 }
    of false e misses = misses

misses_then_updates : (old mid new : Seen) (word : PlainWord) (changed : ℕ → ℕ) → MissesStore old mid word → Updates mid new word changed → Updates old new word changed
misses_then_updates old mid new word changed one two =
    let stores = misses_then_stores old mid new word (changed two.found) one two.stores in
    let same : stores.last ≡ two.stores.last = same_last new.own stores.last two.stores.last (stores_last old new word (changed two.found) stores) (stores_last mid new word (changed two.found) two.stores) in
    record { found = two.found; stores = stores; found_is = ap (λ made. made.found) same ∙ two.found_is }

pub tried_updates : (old mid new : Seen) (word : PlainWord) (changed : ℕ → ℕ) (took : Bool) → took ≡ true → MissesStore old mid word → TriesUpdate mid new word changed took → Updates old new word changed
tried_updates old mid new word changed took e one two = misses_then_updates old mid new word changed one (subst (TriesUpdate mid new word changed) e two)

pub tried_misses : (old mid new : Seen) (word : PlainWord) (changed : ℕ → ℕ) (took : Bool) → took ≡ false → MissesStore old mid word → TriesUpdate mid new word changed took → MissesStore old new word
tried_misses old mid new word changed took e one two = misses_join old mid new word one (subst (TriesUpdate mid new word changed) e two)

-- What it makes.

-- the guest where each plain word holds this
unfoldable pub stored_view : Seen → ℕ → View
stored_view seen found = record (nothing_known seen) { words = λ word. found }

pub reads_beside : (actor : Option ℕ) (place : Place) (reads : List Happened) → All (λ h. h.event ≡ Read place) reads → named_of actor reads ≡ []
reads_beside actor place [] all = refl
reads_beside actor place (h ∷ reads) all =
    let Reads : Happened → Type 0 = λ h. h.event ≡ Read place in
    ap (λ event. cond (not (is_beside actor event)) (h ∷ named_of actor reads) (named_of actor reads)) (All-head Reads h reads all) ∙ reads_beside actor place reads (All-tail Reads h reads all)

-- reads of a word, and then the store
pub put_made : (actor : Option ℕ) (view : View) (word : PlainWord) (value : ℕ) (reads : List Happened) → All (λ h. h.event ≡ Read (Word word)) reads → Makes actor view (Put word value ∷ []) [] [] (reads ++ (record { event = Put word value; found = FoundWord (view.words word) }) ∷ [])
put_made actor view word value reads are =
    let put : Happened = record { event = Put word value; found = FoundWord (view.words word) } in
    let Hands : Happened → Type 0 = λ h. HandsOut view h.event h.found in
    let named : named_of actor (reads ++ put ∷ []) ≡ put ∷ [] = filter-append (λ h. not (is_beside actor h.event)) reads (put ∷ []) ∙ ap (λ early. early ++ put ∷ []) (reads_beside actor (Word word) reads are) in
    record {
      events_are = ap (map (λ h. h.event)) named;
      found = subst (All Hands) (sym named) (All-cons Hands put [] refl (All-nil Hands));
      reads = All-nil (λ place. IsLastRead place (held_at view place) (reads ++ put ∷ []));
    }

-- the reads of a store, and that it hands out what was found
pub record IsPut (old : Seen) (word : PlainWord) (value found : ℕ) (part : List Made) : Type 0 where
  pub reads : List Happened
  pub are_reads : All (λ h. h.event ≡ Read (Word word)) reads
  pub split : part_events old part ≡ reads ++ (record { event = Put word value; found = FoundWord found }) ∷ []

pub is_put : (old new : Seen) (word : PlainWord) (changed : ℕ → ℕ) → is_event_word word ≡ true → (updates : Updates old new word changed) → IsPut old word (changed updates.found) updates.found (updates.stores.misses ++ updates.stores.last ∷ [])
is_put old new word changed kept updates =
    let part = updates.stores.misses ++ updates.stores.last ∷ [] in
    let value = changed updates.found in
    let By : ℕ → Type 0 = λ found. IsPut old word value found part in
    let Of : Bool → Type 0 = λ b. AreStoreEvents b word value updates.stores.last.found (part_events old part) in
    let are : Of true = subst Of kept updates.stores.events in
    subst By updates.found_is (record { reads = are.reads; are_reads = are.are_reads; split = are.split })

unfoldable pub serves_update : (old new : Seen) (word : PlainWord) (changed : ℕ → ℕ) (events named : View → List Event) → IsAtEase old.local → is_event_word word ≡ true → (updates : Updates old new word changed)
    → events (stored_view old updates.found) ≡ Put word (changed updates.found) ∷ [] → Serves old new events (λ view. []) named
unfolding stored_view
serves_update old new word changed events named ease kept updates is =
    let part = updates.stores.misses ++ updates.stores.last ∷ [] in
    let view = stored_view old updates.found in
    let put = is_put old new word changed kept updates in
    let By : List Event → Type 0 = λ events. Makes (Some old.actor) view events [] [] (part_events old part) in
    let Of : List Happened → Type 0 = λ piece. Makes (Some old.actor) view (Put word (changed updates.found) ∷ []) [] [] piece in
    record {
      view = view;
      part = part;
      adds = updates.stores.adds;
      made = subst By (sym is) (subst Of (sym put.split) (put_made (Some old.actor) view word (changed updates.found) put.reads put.are_reads));
      stays = subst (StaysAtEase old.local) (sym updates.stores.local_is) (stays_self old.local ease);
      none_taken = updates.stores.none_taken;
      piece = λ operation by. own_of_piece old operation part updates.stores.piece;
    }
