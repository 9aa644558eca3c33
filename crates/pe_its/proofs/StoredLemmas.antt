-- What the actor that has the ITS knows after it stored a register.
use Rattle.std.proofs.Common.{◌≡◌, ℕ, ◌==◌, true, IsTrue, List, [], ◌∷◌, ◌++◌, Some, refl, sym, ap, subst, ◌∙◌, arith}
use Rattle.std.specs.List.{list_all}
use Rattle.std.proofs.lemmas.Bool.{and_parts, eq-eqb}
use Rattle.std.proofs.lemmas.List.{append_assoc}
use Rattle.pe_mem.specs.Words.{Lpi, GuestShape, has_interrupt}
use Rattle.pe_mem.specs.Calls.{PlainWord, ItsCtlr, Cbaser, Cwriter, place_of_plain}
use Rattle.pe_mem.specs.GicCall.declared.event.Found.TheVariants.{Word as FoundWord}
use Rattle.pe_mem.specs.GicCall.declared.event.Place.TheVariants.{Word, Queue as QueuePlace}
use Rattle.pe_mem.specs.Registers.{IsValid, Maps}
use Rattle.pe_mem.specs.Core.{has_all_shut, Made, CoreStep, RamLook, RamPut, Irq, Plain, is_on, known, known_maps, since_turn, place_of_word, Seen, Adds, shape_of, word_of}
use Rattle.pe_mem.specs.PortCall.Rest.{IsAtEase}
use Rattle.pe_mem.specs.PortCall.Store.{Stores, MissesStore, is_store_step, is_store_miss, stores_not}
use Rattle.pe_mem.proofs.PortCall.KnownLemmas.{since_turn_on, are_endless, ends_none, maps_kept}
use Rattle.pe_mem.proofs.PortCall.TurnLemmas.{known_by_last}
use Rattle.pe_mem.specs.ItsExec.declared.known.KnownQueue.{KnownQueue}
use Rattle.pe_mem.specs.ItsExec.Known.{Knows, KnowsQueue}
use Rattle.pe_mem.specs.ItsExec.Queue.{IsReady, HasIts}
use Rattle.pe_mem.proofs.ItsExec.FrameLemmas.{both, since, knows_by, knows_on, maps_on, untouched_on}
use Rattle.pe_mem.proofs.ItsExec.LookLemmas.{queue_apart, plain_lpi_apart}
use Rattle.pe_mem.proofs.ItsExec.QueueLemmas.{stored_off, stored_leaves, stored_leaves_plain, stored_within, stored_reading}
use Rattle.pe_its.specs.Register.{IsReadyNow}

-- the word is known as it was stored
pub stored_known : (old new : Seen) (word : PlainWord) (value : ℕ) → Stores old new word value → Knows new (Word word) (FoundWord value)
stored_known old new word value stores =
    let shape = shape_of old in
    let on = Plain (place_of_plain shape word) in
    let place = place_of_word shape on in
    let last_on : is_on shape old.actor on stores.last ≡ true = ap (λ step. place_of_word shape (word_of shape old.actor step) == place) stores.last_is ∙ eq-eqb place place refl in
    let own : since_turn (old.own ++ (stores.misses ++ stores.last ∷ [])) ≡ (since_turn old.own ++ stores.misses) ++ stores.last ∷ []
    = since_turn_on old.own (stores.misses ++ stores.last ∷ []) stores.none_taken ∙ sym (append_assoc (since_turn old.own) stores.misses (stores.last ∷ [])) in
    let is : since new on ≡ Some stores.last.left
    = ap (λ seen. since seen on) stores.adds.new_is ∙ ap (λ own. known shape old.actor own on) own ∙ known_by_last shape old.actor (since_turn old.own ++ stores.misses) stores.last on last_on in
    let By : ℕ → Type 0 = λ n. Knows new (Word word) (FoundWord n) in
    subst By stores.left_is (knows_by new (Word word) stores.last.left (ap (λ shape. since new (Plain (place_of_plain shape word))) (ap shape_of stores.adds.new_is) ∙ is))

-- and the others as before
pub control_knows : (old new : Seen) (value : ℕ) (queue : KnownQueue) → Stores old new ItsCtlr value → KnowsQueue old queue → KnowsQueue new (record queue { ctlr = value })
control_knows old new value queue stores knows =
    record {
      place = knows_on old new QueuePlace _ (stored_leaves old new ItsCtlr value QueuePlace stores (queue_apart (shape_of old) (place_of_plain (shape_of old) ItsCtlr))) knows.place;
      ctlr = stored_known old new ItsCtlr value stores;
      cbaser = knows_on old new (Word Cbaser) _ (stored_leaves_plain old new ItsCtlr Cbaser value stores (λ e. omega (arith, e))) knows.cbaser;
      cwriter = knows_on old new (Word Cwriter) _ (stored_leaves_plain old new ItsCtlr Cwriter value stores (λ e. omega (arith, e))) knows.cwriter;
      in_range = knows.in_range;
    }

pub cwriter_knows : (old new : Seen) (value : ℕ) (queue : KnownQueue) → Stores old new Cwriter value → KnowsQueue old queue → KnowsQueue new (record queue { cwriter = value })
cwriter_knows old new value queue stores knows =
    record {
      place = knows_on old new QueuePlace _ (stored_leaves old new Cwriter value QueuePlace stores (queue_apart (shape_of old) (place_of_plain (shape_of old) Cwriter))) knows.place;
      ctlr = knows_on old new (Word ItsCtlr) _ (stored_leaves_plain old new Cwriter ItsCtlr value stores (λ e. omega (arith, e))) knows.ctlr;
      cbaser = knows_on old new (Word Cbaser) _ (stored_leaves_plain old new Cwriter Cbaser value stores (λ e. omega (arith, e))) knows.cbaser;
      cwriter = stored_known old new Cwriter value stores;
      in_range = knows.in_range;
    }

-- The actor still has the ITS.

has_by : (old new : Seen) (part : List Made) → Adds old new part → new.local ≡ old.local → known_maps new.own ≡ known_maps old.own → HasIts old (known_maps old.own) → HasIts new (known_maps old.own)
has_by old new part adds same maps has =
    record {
      taken = ap (λ seen. seen.taken) adds.new_is ∙ has.taken;
      ease = subst IsAtEase (sym same) has.ease;
      lines = ap has_all_shut same ∙ has.lines;
      maps = sym maps;
      valid = subst (λ shape. IsValid shape (known_maps old.own)) (sym (ap shape_of adds.new_is)) has.valid;
    }

pub stored_maps : (old new : Seen) (word : PlainWord) (value : ℕ) → Stores old new word value → known_maps new.own ≡ known_maps old.own
stored_maps old new word value stores = maps_on old new (stores.misses ++ stores.last ∷ []) stores.adds (stored_within old new word value stores)

pub stored_has : (old new : Seen) (word : PlainWord) (value : ℕ) → Stores old new word value → HasIts old (known_maps old.own) → HasIts new (known_maps old.own)
stored_has old new word value stores has = has_by old new (stores.misses ++ stores.last ∷ []) stores.adds stores.local_is (stored_maps old new word value stores) has

missed_endless : (place : ℕ) (part : List Made) → IsTrue (list_all (is_store_miss place) part) → IsTrue (are_endless part)
missed_endless place [] h = refl
missed_endless place (made ∷ part) h =
    let parts = and_parts (is_store_miss place made) (list_all (is_store_miss place) part) h in
    both (ends_none made.step) (are_endless part) (of made.step (and_parts (is_store_step place made.step) (stores_not made.step made.found) parts.0).0) (missed_endless place part parts.1)
  where
    of : (step : CoreStep) → IsTrue (is_store_step place step) → IsTrue (ends_none step)
    of (RamLook index) h = refl
    of (RamPut index seen value) h = refl
    of _ h = absurd (cc)

pub missed_has : (old new : Seen) (word : PlainWord) → MissesStore old new word → HasIts old (known_maps old.own) → HasIts new (known_maps old.own)
missed_has old new word misses has =
    has_by old new misses.part misses.adds misses.local_is
    (ap (λ seen. known_maps seen.own) misses.adds.new_is ∙ maps_kept old.own misses.part misses.none_taken (missed_endless (place_of_plain (shape_of old) word) misses.part misses.missed)) has

pub has_then : (one two three : Seen) → HasIts two (known_maps one.own) → HasIts three (known_maps two.own) → HasIts three (known_maps one.own)
has_then one two three first second = subst (HasIts three) (sym first.maps) second

-- The actor is ready.

pub ready_has : (seen : Seen) (shape : GuestShape) (maps : Maps) (queue : KnownQueue) → IsReady seen shape maps queue → HasIts seen maps
ready_has seen shape maps queue ready = record { taken = ready.taken; ease = ready.ease; lines = ready.lines; maps = ready.maps; valid = subst (λ shape. IsValid shape maps) ready.shape_is ready.valid }

pub ready_now : (seen : Seen) (shape : GuestShape) (maps : Maps) (queue : KnownQueue) → IsReady seen shape maps queue → IsReadyNow seen queue
ready_now seen shape maps queue ready =
    let By : Maps → Type 0 = λ maps. IsReady seen (shape_of seen) maps queue in
    let For : GuestShape → Type 0 = λ shape. IsReady seen shape maps queue in
    subst By ready.maps (subst For ready.shape_is ready)

pub stored_ready : (old new : Seen) (word : PlainWord) (value : ℕ) (queue after : KnownQueue) → Stores old new word value → IsReadyNow old queue → KnowsQueue new after → IsReadyNow new after
stored_ready old new word value queue after stores ready knows =
    let part = stores.misses ++ stores.last ∷ [] in
    let same : shape_of new ≡ shape_of old = ap shape_of stores.adds.new_is in
    let maps = stored_maps old new word value stores in
    let within = stored_within old new word value stores in
    let There : ℕ → GuestShape → Type 0 = λ id shape. IsTrue (has_interrupt shape (Lpi id)) in
    record {
      shape_is = refl;
      taken = ap (λ seen. seen.taken) stores.adds.new_is ∙ ready.taken;
      ease = subst IsAtEase (sym stores.local_is) ready.ease;
      lines = ap has_all_shut stores.local_is ∙ ready.lines;
      maps = refl;
      valid = subst (λ shape. IsValid shape (known_maps new.own)) (sym same) (subst (IsValid (shape_of old)) (sym maps) ready.valid);
      fresh =
          record {
            reading = stored_reading old new word value stores ready.fresh.reading;
            each = λ id there.
                (let was = subst (There id) same there in
                untouched_on old new part id stores.adds within
                (stored_off old new word value (Irq (Lpi id)) stores (plain_lpi_apart (shape_of old) (place_of_plain (shape_of old) word) id was)) (ready.fresh.each id was));
          };
      knows = knows;
    }
