-- What the events of a piece found of the guest: the view by which a call is judged that does not take the ITS (own choice). Of an interrupt, and of a word that is
-- stored, the events themselves tell what was there; of all else the last read does.
use Rattle.std.specs.Prelude.{ℕ, ◌==◌, ◌&&◌, not, Bool, true, false, List, [], fold, Option, Some, None, if◌then◌else◌}
use Rattle.std.specs.Option.{option_or}
use Rattle.history_calls.specs.Words.{Key, Irq, is_same_key}
use Rattle.history_calls.specs.Registers.{Enables}
use Rattle.history_calls.specs.Calls.{Event, Touch, Put, Found, Record, Place, PlainWord, Ram, Propbaser, Pendbaser, ItsCtlr, Cbaser, Cwriter, Baser0, Baser1, Fault, Happened, View, opening_irq}
use Rattle.legal_lists.specs.GicCall.declared.event.Event.TheVariants.{Read}
use Rattle.legal_lists.specs.GicCall.declared.event.Place.TheVariants.{Word, Queue as QueuePlace, Ctlr, Lpis}
use Rattle.legal_lists.specs.GicCall.declared.event.Found.TheVariants.{Word as FoundWord, Queue as FoundQueue, Ctlr as FoundCtlr, Lpis as FoundLpis}

-- Which events tell what.

abbrev pub is_same_word : PlainWord → PlainWord → Bool
is_same_word (Ram index) (Ram other) = index == other
is_same_word (Propbaser vcpu) (Propbaser other) = vcpu == other
is_same_word (Pendbaser vcpu) (Pendbaser other) = vcpu == other
is_same_word ItsCtlr ItsCtlr = true
is_same_word Cbaser Cbaser = true
is_same_word Cwriter Cwriter = true
is_same_word Baser0 Baser0 = true
is_same_word Baser1 Baser1 = true
is_same_word Fault Fault = true
is_same_word word other = false

abbrev pub is_same_place : Place → Place → Bool
is_same_place (Word word) (Word other) = is_same_word word other
is_same_place QueuePlace QueuePlace = true
is_same_place Ctlr Ctlr = true
is_same_place (Lpis vcpu) (Lpis other) = vcpu == other
is_same_place place other = false

abbrev pub touches : Key → Event → Bool
touches key (Touch other touching) = is_same_key other key
touches key event = false

abbrev pub stores : PlainWord → Event → Bool
stores word (Put other value) = is_same_word other word
stores word event = false

abbrev pub reads : Place → Event → Bool
reads place (Read other) = is_same_place other place
reads place event = false

-- what the last event of some kind handed out
abbrev pub telling : (Event → Bool) → Option Found → Happened → Option Found
telling is last happened = if is happened.event then Some happened.found else last

abbrev pub last_found : (Event → Bool) → List Happened → Option Found
last_found is piece = fold (telling is) None piece

-- What that is.

abbrev pub record_in : Key → Option Found → Irq
record_in key (Some (Record irq)) = irq
record_in key found = opening_irq true key

abbrev pub word_in : Option Found → ℕ
word_in (Some (FoundWord value)) = value
word_in found = 0

abbrev pub lpis_in : Option Found → Bool
lpis_in (Some (FoundLpis is_on)) = is_on
lpis_in found = false

abbrev pub enables_in : Option Found → Enables
enables_in (Some (FoundCtlr enables is_spreading)) = enables
enables_in found = record { group0 = false; group1 = false }

abbrev pub spreads_in : Option Found → Bool
spreads_in (Some (FoundCtlr enables is_spreading)) = is_spreading
spreads_in found = false

abbrev pub offset_in : Option Found → ℕ
offset_in (Some (FoundQueue offset is_stalled)) = offset
offset_in found = 0

abbrev pub stalled_in : Option Found → Bool
stalled_in (Some (FoundQueue offset is_stalled)) = is_stalled
stalled_in found = false

-- the view that a piece found
abbrev pub found_by : List Happened → View
found_by piece =
    record {
      irqs = λ key. record_in key (last_found (touches key) piece);
      targets = λ id. None;
      lpis = λ vcpu. lpis_in (last_found (reads (Lpis vcpu)) piece);
      words = λ word. word_in (option_or (last_found (stores word) piece) (last_found (reads (Word word)) piece));
      enables = enables_in (last_found (reads Ctlr) piece);
      is_spreading = spreads_in (last_found (reads Ctlr) piece);
      offset = offset_in (last_found (reads QueuePlace) piece);
      is_stalled = stalled_in (last_found (reads QueuePlace) piece);
      maps = record { devices = []; events = []; collections = [] };
    }

-- and that of a call that may be open, and read more: whether EnableLPIs of a vCPU is 1 a later read can still tell, and what a call has stored already tells
-- that it was 0
abbrev pub seen_by : Bool → List Happened → View
seen_by is_open piece = record (found_by piece) { lpis = λ vcpu. not is_open && lpis_in (last_found (reads (Lpis vcpu)) piece) }

abbrev pub open_by : List Happened → View
open_by piece = seen_by true piece
