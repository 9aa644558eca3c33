-- Which tables are valid, event by event.
use Rattle.std.proofs.Common.{◌≡◌, ℕ, ◌<◌, ◌≤◌, ◌^◌, ◌&&◌, not, nat_lt, Bool, true, false, IsTrue, Option, Some, None, IfSome, inl, inr, is_some, is_none, unwrap_or, List, [], length, get_or, map, take, refl, sym, ap, subst, ◌∙◌, arith}
use Rattle.std.specs.Ordering.{nat_cmp}
use Rattle.std.specs.Cmp.{nat_cmp_total}
use Rattle.std.specs.List.{All}
use Rattle.std.specs.List.Sorted.{IsStrictlySortedBy}
use Rattle.std.specs.Map.{keys_of}
use Rattle.std.specs.BTreeMap.{is_at}
use Rattle.std.proofs.lemmas.Option.{none-some}
use Rattle.std.proofs.lemmas.Grind.{common_steps}
use Rattle.std.proofs.lemmas.List.Elements.{recursion_from_All}
use Rattle.std.proofs.lemmas.Map.Lookups.{exact_unsigned}
use Rattle.saved_guest.specs.IdealGuests.Words.{GuestShape, Lpi, has_interrupt}
use Rattle.saved_guest.specs.IdealGuests.Registers.{Maps, event_cmp, at_number, pair_of, owner_of, with_event, is_past_device, IsSound, IsValid}
use Rattle.saved_guest.specs.IdealGuests.Calls.{DevEnd, EvtEnd, ColEnd}
use Rattle.saved_guest.proofs.IdealGuests.ItsTab.MapLemmas.{equal_from_test}
use Rattle.saved_guest.proofs.IdealGuests.ItsTab.TableLemmas.{event_order, pair_of-with_event, sound-with_event}
use Rattle.saved_guest.proofs.IdealGuests.ItsTab.SearchLemmas.{OwnerFacts, owner_facts, pair_from_id}
use Rattle.saved_check.specs.Tables.{dev_entry, evt_entry, col_entry, with_events, IsValidDev, IsValidCol, can_map}
use Rattle.saved_check.proofs.OrderLemmas.{found_at, not_before, found_further, holds_of_found}

left : (a b : Bool) → (a && b) ≡ true → a ≡ true
left true b e = refl
left false b e = absurd (cc)

right : (a b : Bool) → (a && b) ≡ true → b ≡ true
right true b e = e
right false b e = absurd (cc)

both : (a b : Bool) → a ≡ true → b ≡ true → (a && b) ≡ true
both true true e f = refl
both true false e f = absurd (cc)
both false b e f = absurd (cc)

there : {X : Type 0} (o : Option X) → is_some o ≡ true → (x : X) × (o ≡ Some x)
there None e = absurd (cc)
there (Some x) e = (x, refl)

is_there : {X : Type 0} (o : Option X) (x : X) → o ≡ Some x → is_some o ≡ true
is_there o x e = ap is_some e

none_is : {X : Type 0} (o : Option X) → is_none o ≡ true → o ≡ None
none_is None e = refl
none_is (Some x) e = absurd (cc)

for_none : {X : Type 0} (P : X → Type 0) (o : Option X) → o ≡ None → IfSome o P
for_none P None e = tt
for_none P (Some x) e = absurd (cc)

-- an EventID that is not past those of its device
in_range : (bits : Option ℕ) (n event : ℕ) → bits ≡ Some n → not (not (nat_lt event (2 ^ unwrap_or bits 0))) ≡ true → event < 2 ^ n
in_range bits n event is test = let same : unwrap_or bits 0 ≡ n = ap (λ o. unwrap_or o 0) is in grind (arith, common_steps)

not_past : (bits : Option ℕ) (n event : ℕ) → bits ≡ Some n → event < 2 ^ n → not (not (nat_lt event (2 ^ unwrap_or bits 0))) ≡ true
not_past bits n event is below = let same : unwrap_or bits 0 ≡ n = ap (λ o. unwrap_or o 0) is in grind (arith, common_steps)

-- an event that can be mapped leaves valid maps valid
pub valid_with : (shape : GuestShape) (maps : Maps) (evt : EvtEnd) → IsValid shape maps → can_map shape maps evt ≡ true → IsValid shape (with_event maps (evt.device, evt.event) (evt.id, evt.icid))
valid_with shape maps evt valid can =
    let mapped = is_some (at_number maps.devices evt.device) in
    let within = not (is_past_device maps evt.device evt.event) in
    let lpi = has_interrupt shape (Lpi evt.id) in
    let device = there (at_number maps.devices evt.device) (left mapped within (left (mapped && within) (lpi && is_none (owner_of maps evt.id)) can)) in
    let below = in_range (at_number maps.devices evt.device) device.0 evt.event device.1 (right mapped within (left (mapped && within) (lpi && is_none (owner_of maps evt.id)) can)) in
    let rest = right (mapped && within) (lpi && is_none (owner_of maps evt.id)) can in
    let free = for_none (λ owner. owner ≡ (evt.device, evt.event)) (owner_of maps evt.id) (none_is (owner_of maps evt.id) (right lpi (is_none (owner_of maps evt.id)) rest)) in
    let Told : ℕ × ℕ → ℕ × ℕ → Type 0 = λ q w. IfSome (at_number maps.devices q.0) (λ bits. q.1 < 2 ^ bits) × IsTrue (has_interrupt shape (Lpi w.0)) in
    let here : Told (evt.device, evt.event) (evt.id, evt.icid) = (subst (λ o. IfSome o (λ bits. evt.event < 2 ^ bits)) (sym device.1) below, left lpi (is_none (owner_of maps evt.id)) rest) in
    let each : (q w : ℕ × ℕ) → pair_of (with_event maps (evt.device, evt.event) (evt.id, evt.icid)) q ≡ Some w → Told q w = λ q w found.
    elim (pair_of-with_event maps (evt.device, evt.event) (evt.id, evt.icid) q w found) [
      | inl e ↦ subst (λ x. Told x w) e.0 (subst (λ y. Told (evt.device, evt.event) y) e.1 here)
      | inr e ↦ (valid.event q w e, valid.interrupt q w e)
    ] in
    record {
      sound = sound-with_event maps (evt.device, evt.event) (evt.id, evt.icid) valid.sound (is_there (at_number maps.devices evt.device) device.0 device.1) free;
      device = valid.device;
      bits = valid.bits;
      event = λ q w found. (each q w found).0;
      interrupt = λ q w found. (each q w found).1;
      target = valid.target;
    }

-- of valid maps each event could be mapped after those before it
pub can_map_next : (shape : GuestShape) (maps : Maps) (evts : List EvtEnd) (i : ℕ) (d : EvtEnd) → IsStrictlySortedBy event_cmp (keys_of (map evt_entry evts)) → IsValid shape (with_events maps evts) → IsSound (with_events maps (take i evts)) → i < length evts
    → can_map shape (with_events maps (take i evts)) (get_or evts i d) ≡ true
can_map_next shape maps evts i d sorted valid sound below =
    let evt = get_or evts i d in
    let key : ℕ × ℕ = (evt.device, evt.event) in
    let whole = with_events maps evts in
    let first = with_events maps (take i evts) in
    let here : pair_of whole key ≡ Some (evt.id, evt.icid) = found_at event_order evt_entry evts i d sorted below in
    let lost : pair_of first key ≡ None = not_before event_order evt_entry evts i d sorted below in
    let device = there (at_number maps.devices evt.device) (valid.sound.of_mapped key (evt.id, evt.icid) here) in
    let within : evt.event < 2 ^ device.0 = subst (λ o. IfSome o (λ bits. evt.event < 2 ^ bits)) device.1 (valid.event key (evt.id, evt.icid) here) in
    let lpi = has_interrupt shape (Lpi evt.id) in
    let free : is_none (owner_of first evt.id) ≡ true = elim (owner_of first evt.id) as (λ o. OwnerFacts first evt.id o → is_none o ≡ true) [
      | None ↦ λ facts. refl
      | (Some owner) ↦ λ facts.
          let had = pair_from_id first owner evt.id facts.found in
          let still : pair_of whole owner ≡ Some (evt.id, had.0) = found_further evt_entry (is_at (event_cmp owner)) evts i (evt.id, had.0) had.1 in
          let same : owner ≡ key = valid.sound.one_each owner key evt.id had.0 evt.icid still here in
          absurd (none-some (evt.id, had.0) (sym lost ∙ ap (pair_of first) (sym same) ∙ had.1))
    ] (owner_facts first evt.id sound) in
    both (is_some (at_number maps.devices evt.device) && not (is_past_device maps evt.device evt.event)) (lpi && is_none (owner_of first evt.id))
    (both (is_some (at_number maps.devices evt.device)) (not (is_past_device maps evt.device evt.event)) (is_there (at_number maps.devices evt.device) device.0 device.1) (not_past (at_number maps.devices evt.device) device.0 evt.event device.1 within))
    (both lpi (is_none (owner_of first evt.id)) (valid.interrupt key (evt.id, evt.icid) here) free)

-- ---- without events

exact : (q k : ℕ) → is_at (nat_cmp q) k ≡ true → q ≡ k
exact q k e = exact_unsigned q k (equal_from_test (nat_cmp q k) e)

abbrev pub bare : List DevEnd → List ColEnd → Maps
bare devs cols = record { devices = map dev_entry devs; events = []; collections = map col_entry cols }

pub valid_bare : (shape : GuestShape) (devs : List DevEnd) (cols : List ColEnd) → IsStrictlySortedBy nat_cmp (keys_of (map dev_entry devs)) → IsStrictlySortedBy nat_cmp (keys_of (map col_entry cols)) → All IsValidDev devs → All (IsValidCol shape) cols → IsValid shape (bare devs cols)
unfolding IsStrictlySortedBy
valid_bare shape devs cols devices collections each_dev each_col =
    let of_dev : (device bits : ℕ) → at_number (map dev_entry devs) device ≡ Some bits → (device < 65536) × (1 ≤ bits) × (bits ≤ 16) = λ device bits found.
    holds_of_found dev_entry (λ device bits. (device < 65536) × (1 ≤ bits) × (bits ≤ 16)) (is_at (nat_cmp device)) device (exact device) devs bits (recursion_from_All IsValidDev devs each_dev) found in
    record {
      sound = record { devices = devices; events = tt; collections = collections; one_each = λ x y id a b found. absurd (none-some (id, a) found); of_mapped = λ event pair found. absurd (none-some pair found) };
      device = λ device bits found. (of_dev device bits found).0;
      bits = λ device bits found. ((of_dev device bits found).1, (of_dev device bits found).2);
      event = λ event pair found. absurd (none-some pair found);
      interrupt = λ event pair found. absurd (none-some pair found);
      target = λ icid vcpu found. holds_of_found col_entry (λ icid vcpu. vcpu < shape.vcpus) (is_at (nat_cmp icid)) icid (exact icid) cols vcpu (recursion_from_All (IsValidCol shape) cols each_col) found;
    }

-- of valid maps each device and each collection is valid
pub devs_valid : (shape : GuestShape) (maps : Maps) (devs : List DevEnd) → maps.devices ≡ map dev_entry devs → IsValid shape maps → All IsValidDev devs
devs_valid shape maps devs are valid i d below =
    let sorted = subst (λ es. IsStrictlySortedBy nat_cmp (keys_of es)) are valid.sound.devices in
    let dev = get_or devs i d in
    let found : at_number maps.devices dev.device ≡ Some dev.bits = ap (λ es. at_number es dev.device) are ∙ found_at nat_cmp_total dev_entry devs i d sorted below in
    let bits = valid.bits dev.device dev.bits found in
    (valid.device dev.device dev.bits found, bits.0, bits.1)

pub cols_valid : (shape : GuestShape) (maps : Maps) (cols : List ColEnd) → maps.collections ≡ map col_entry cols → IsValid shape maps → All (IsValidCol shape) cols
cols_valid shape maps cols are valid i d below =
    let sorted = subst (λ es. IsStrictlySortedBy nat_cmp (keys_of es)) are valid.sound.collections in
    let col = get_or cols i d in
    valid.target col.icid col.vcpu (ap (λ es. at_number es col.icid) are ∙ found_at nat_cmp_total col_entry cols i d sorted below)
