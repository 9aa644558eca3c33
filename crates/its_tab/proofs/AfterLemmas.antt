-- The maps stay valid under a command without a fault.
use Rattle.std.proofs.Common.{◌≡◌, ℕ, ◌<◌, ◌≤◌, ◌+◌, ◌^◌, ◌==◌, ◌&&◌, ◌||◌, not, nat_le, nat_lt, Bool, true, false, cond, is_none, IsTrue, Some, None, Option, IsSome, IfSome, ◌⊎◌, inl, inr, List, [], ◌∷◌, refl, sym, ap, ◌∙◌, subst, find, unwrap_or, true≢false, arith}
use Rattle.std.specs.Option.{option_map}
use Rattle.std.specs.List.{filter, AllByRecursion}
use Rattle.std.specs.Ordering.{nat_cmp}
use Rattle.std.specs.Cmp.{nat_cmp_total}
use Rattle.std.specs.BTreeMap.{is_at, insert_entry}
use Rattle.std.specs.Map.{keys_of, remove_entry}
use Rattle.std.specs.List.Sorted.{IsStrictlySortedBy}
use Rattle.std.proofs.lemmas.List.Kept.{IsStrictlySortedBy-filter}
use Rattle.std.proofs.lemmas.Map.Entries.{lookup-filter-keys}
use Rattle.std.proofs.lemmas.Bool.{eqb-true}
use Rattle.std.proofs.lemmas.Option.{none-some}
use Rattle.std.proofs.lemmas.Grind.{common_steps}
use Rattle.std.proofs.lemmas.Map.Lookups.{exact_unsigned}
use Rattle.its_cmd.specs.Words.{GuestShape, Lpi, has_interrupt}
use Rattle.its_cmd.specs.declared.command.Command.TheVariants.{Movi, Int, Clear, Sync, Mapd, Mapc, Mapti, Mapi, Inv, Invall, Movall, Discard}
use Rattle.its_tab.specs.declared.fault.CmdFault.{CmdFault}
use Rattle.its_tab.specs.Maps.{Maps, event_cmp, at_number, bits_of, pair_of, owner_of, first_event, with_device, with_event, with_collection, without_device, without_event, without_collection, IsSound}
use Rattle.its_tab.specs.Fault.{first_fault, is_past_device, is_of_other, is_wrong_id, on_mapping, faults}
use Rattle.its_tab.specs.After.{without_events, recollected, IsValid, GoodCommandsKeepMaps}
use Rattle.sorted_pairs.proofs.MapLemmas.{equal_from_test, keys_of-filter, lookup-insert_entry, lookup-removed, sorted-insert, sorted-remove}
use Rattle.its_tab.proofs.TableLemmas.{same_event, put_or_there, was_there, pair_of-with_event, pair_of-without_event, sound-with_event, sound-without_event, sound-with_device, sound-without_device, not_of_device}
use Rattle.its_tab.proofs.SearchLemmas.{OwnerFacts, owner_facts}

-- a fault that is not there, and those after it
clear : (test : Bool) (fault : CmdFault) (rows : List (Bool × CmdFault)) → first_fault ((test, fault) ∷ rows) ≡ None → (test ≡ false) × (first_fault rows ≡ None)
clear true fault rows h = absurd (none-some fault (sym h))
clear false fault rows h = (refl, h)

pub all_clear : (rows : List (Bool × CmdFault)) → first_fault rows ≡ None → AllByRecursion (λ row. row.0 ≡ false) rows
all_clear [] h = tt
all_clear (row ∷ rows) h = let first = clear row.0 row.1 rows h in (first.0, all_clear rows first.1)

pub there : {X : Type 0} (o : Option X) → is_none o ≡ false → (x : X) × (o ≡ Some x)
there None h = absurd (true≢false h)
there (Some x) h = (x, refl)

pub some_from_test : {X : Type 0} (o : Option X) → IsSome o → (x : X) × (o ≡ Some x)
some_from_test None h = absurd (true≢false (sym h))
some_from_test (Some x) h = (x, refl)

pub size_below : (size : ℕ) → nat_lt 15 size ≡ false → size + 1 ≤ 16
size_below size h = grind (arith, common_steps)

pub below_from_test : (m n : ℕ) → nat_le m n ≡ false → n < m
below_from_test m n h = grind (arith, common_steps)

in_device : (maps : Maps) (device event bits : ℕ) → is_past_device maps device event ≡ false → bits_of maps device ≡ Some bits → event < 2 ^ bits
in_device maps device event bits h e = let same : unwrap_or (bits_of maps device) 0 ≡ bits = ap (λ o. unwrap_or o 0) e in grind (arith, common_steps)

pub or_clear : (a b : Bool) → (a || b) ≡ false → (a ≡ false) × (b ≡ false)
or_clear true b h = absurd (true≢false h)
or_clear false b h = (refl, h)

and_both : (a b : Bool) → (a && b) ≡ true → (a ≡ true) × (b ≡ true)
and_both true b h = (refl, h)
and_both false b h = absurd (true≢false (sym h))

set_from_not : (a : Bool) → not a ≡ false → a ≡ true
set_from_not true h = refl
set_from_not false h = absurd (true≢false h)

is_pair : (owner : ℕ × ℕ) (device event : ℕ) → owner.0 ≡ device → owner.1 ≡ event → owner ≡ (device, event)
is_pair owner device event p q = λ i. (p i, q i)

no_other : (device event : ℕ) (owner : Option (ℕ × ℕ)) → unwrap_or (option_map (λ o. not (o.0 == device && o.1 == event)) owner) false ≡ false → IfSome owner (λ o. o ≡ (device, event))
no_other device event None h = tt
no_other device event (Some o) h =
    let same = and_both (o.0 == device) (o.1 == event) (set_from_not (o.0 == device && o.1 == event) h) in
    is_pair o device event (eqb-true o.0 device same.0) (eqb-true o.1 event same.1)

pub right_id : (shape : GuestShape) (maps : Maps) (device event id : ℕ) → is_wrong_id shape maps device event id ≡ false → IsTrue (has_interrupt shape (Lpi id)) × IfSome (owner_of maps id) (λ owner. owner ≡ (device, event))
right_id shape maps device event id h =
    let parts = or_clear (not (has_interrupt shape (Lpi id))) (is_of_other maps device event id) h in
    (set_from_not (has_interrupt shape (Lpi id)) parts.0, no_other device event (owner_of maps id) parts.1)

-- the INTID of an event is had by no other
pub own_id : (maps : Maps) (event pair : ℕ × ℕ) → IsSound maps → pair_of maps event ≡ Some pair → IfSome (owner_of maps pair.0) (λ owner. owner ≡ event)
own_id maps event pair sound h = elim (owner_of maps pair.0) as (λ o. OwnerFacts maps pair.0 o → IfSome o (λ owner. owner ≡ event)) [
  | None ↦ λ f. tt
  | (Some owner) ↦ λ f. sym (f.only event (ap (option_map (λ w. w.0)) h))
] (owner_facts maps pair.0 sound)

-- an event is mapped to an LPI that no other event has
valid-with_event : (shape : GuestShape) (maps : Maps) (event pair : ℕ × ℕ) (bits : ℕ) → IsValid shape maps → bits_of maps event.0 ≡ Some bits → event.1 < 2 ^ bits → IsTrue (has_interrupt shape (Lpi pair.0)) → IfSome (owner_of maps pair.0) (λ owner. owner ≡ event) → IsValid shape (with_event maps event pair)
valid-with_event shape maps event pair bits valid mapped below lpi owner = record {
  sound = sound-with_event maps event pair valid.sound (subst IsSome (sym mapped) refl) owner;
  device = valid.device;
  bits = valid.bits;
  event = λ q w h. elim (pair_of-with_event maps event pair q w h) [
    | inl e ↦ subst (λ (x : ℕ × ℕ). IfSome (bits_of maps x.0) (λ b. x.1 < 2 ^ b)) e.0 (subst (λ o. IfSome o (λ b. event.1 < 2 ^ b)) (sym mapped) below)
    | inr e ↦ valid.event q w e
  ];
  interrupt = λ q w h. elim (pair_of-with_event maps event pair q w h) [
    | inl e ↦ subst (λ (x : ℕ × ℕ). IsTrue (has_interrupt shape (Lpi x.0))) e.1 lpi
    | inr e ↦ valid.interrupt q w e
  ];
  target = valid.target;
}

pub valid-without_event : (shape : GuestShape) (maps : Maps) (event : ℕ × ℕ) → IsValid shape maps → IsValid shape (without_event maps event)
valid-without_event shape maps event valid = record {
  sound = sound-without_event maps event valid.sound;
  device = valid.device;
  bits = valid.bits;
  event = λ q w h. valid.event q w (pair_of-without_event maps event q w valid.sound h);
  interrupt = λ q w h. valid.interrupt q w (pair_of-without_event maps event q w valid.sound h);
  target = valid.target;
}

-- a value after one was put at a number
at_number-put : (es : List (ℕ × ℕ)) (k v q w : ℕ) → at_number (insert_entry nat_cmp es k v) q ≡ Some w → ((k ≡ q) × (v ≡ w)) ⊎ (at_number es q ≡ Some w)
at_number-put es k v q w h = elim (put_or_there (is_at (nat_cmp k) q) v w (at_number es q) (sym (lookup-insert_entry nat_cmp_total q k v es) ∙ h)) [
  | inl e ↦ inl (exact_unsigned k q (equal_from_test (nat_cmp k q) e.0), e.1)
  | inr e ↦ inr e
]

at_number-removed : (es : List (ℕ × ℕ)) (k q w : ℕ) → IsStrictlySortedBy nat_cmp (keys_of es) → at_number (remove_entry (is_at (nat_cmp k)) es) q ≡ Some w → at_number es q ≡ Some w
at_number-removed es k q w sorted h = was_there (is_at (nat_cmp k) q) w (at_number es q) (sym (lookup-removed nat_cmp_total q k es sorted) ∙ h)

valid-with_collection : (shape : GuestShape) (maps : Maps) (icid vcpu : ℕ) → IsValid shape maps → vcpu < shape.vcpus → IsValid shape (with_collection maps icid vcpu)
valid-with_collection shape maps icid vcpu valid below =
    let sound = valid.sound in
    record {
      sound = record { devices = sound.devices; events = sound.events; collections = sorted-insert nat_cmp_total icid vcpu maps.collections sound.collections; one_each = sound.one_each; of_mapped = sound.of_mapped };
      device = valid.device;
      bits = valid.bits;
      event = valid.event;
      interrupt = valid.interrupt;
      target = λ q w h. elim (at_number-put maps.collections icid vcpu q w h) [
        | inl e ↦ subst (λ n. n < shape.vcpus) e.1 below
        | inr e ↦ valid.target q w e
      ];
    }

valid-without_collection : (shape : GuestShape) (maps : Maps) (icid : ℕ) → IsValid shape maps → IsValid shape (without_collection maps icid)
valid-without_collection shape maps icid valid =
    let sound = valid.sound in
    record {
      sound = record { devices = sound.devices; events = sound.events; collections = sorted-remove nat_cmp (is_at (nat_cmp icid)) maps.collections sound.collections; one_each = sound.one_each; of_mapped = sound.of_mapped };
      device = valid.device;
      bits = valid.bits;
      event = valid.event;
      interrupt = valid.interrupt;
      target = λ q w h. valid.target q w (at_number-removed maps.collections icid q w sound.collections h);
    }

-- the bits of another device stay
other_device : (maps : Maps) (device bits q : ℕ) → is_at (nat_cmp device) q ≡ false → bits_of (with_device maps device bits) q ≡ bits_of maps q
other_device maps device bits q h = lookup-insert_entry nat_cmp_total q device bits maps.devices ∙ ap (λ b. cond b (Some bits) (bits_of maps q)) h

other_device_stays : (maps : Maps) (device q : ℕ) → IsSound maps → is_at (nat_cmp device) q ≡ false → bits_of (without_device maps device) q ≡ bits_of maps q
other_device_stays maps device q sound h = lookup-removed nat_cmp_total q device maps.devices sound.devices ∙ ap (λ b. cond b None (bits_of maps q)) h

valid-with_device : (shape : GuestShape) (maps : Maps) (device bits : ℕ) → IsValid shape maps → first_event maps device ≡ None → device < 65536 → 1 ≤ bits → bits ≤ 16 → IsValid shape (with_device maps device bits)
valid-with_device shape maps device bits valid none range some few = record {
  sound = sound-with_device maps device bits valid.sound;
  device = λ q w h. elim (at_number-put maps.devices device bits q w h) [ inl e ↦ subst (λ n. n < 65536) e.0 range | inr e ↦ valid.device q w e ];
  bits = λ q w h. elim (at_number-put maps.devices device bits q w h) [ inl e ↦ subst (λ n. (1 ≤ n) × (n ≤ 16)) e.1 (some, few) | inr e ↦ valid.bits q w e ];
  event = λ q w h. subst (λ o. IfSome o (λ b. q.1 < 2 ^ b)) (sym (other_device maps device bits q.0 (not_of_device maps device q w none h))) (valid.event q w h);
  interrupt = valid.interrupt;
  target = valid.target;
}

valid-without_device : (shape : GuestShape) (maps : Maps) (device : ℕ) → IsValid shape maps → first_event maps device ≡ None → IsValid shape (without_device maps device)
valid-without_device shape maps device valid none = record {
  sound = sound-without_device maps device valid.sound none;
  device = λ q w h. valid.device q w (at_number-removed maps.devices device q w valid.sound.devices h);
  bits = λ q w h. valid.bits q w (at_number-removed maps.devices device q w valid.sound.devices h);
  event = λ q w h. subst (λ o. IfSome o (λ b. q.1 < 2 ^ b)) (sym (other_device_stays maps device q.0 valid.sound (not_of_device maps device q w none h))) (valid.event q w h);
  interrupt = valid.interrupt;
  target = valid.target;
}

-- the events of all other devices
pub none_left : (device : ℕ) (es : List ((ℕ × ℕ) × (ℕ × ℕ))) → find (λ pair. pair.0.0 == device) (filter (λ pair. not (pair.0.0 == device)) es) ≡ None
none_left device [] = refl
none_left device (e ∷ es) = elim (e.0.0 == device) as (λ b. (e.0.0 == device) ≡ b → find (λ pair. pair.0.0 == device) (cond (not b) (e ∷ filter (λ pair. not (pair.0.0 == device)) es) (filter (λ pair. not (pair.0.0 == device)) es)) ≡ None) [
  | true ↦ λ h. none_left device es
  | false ↦ λ h. ap (λ b. cond b (Some e) (find (λ pair. pair.0.0 == device) (filter (λ pair. not (pair.0.0 == device)) es))) h ∙ none_left device es
] refl

kept : (b : Bool) (w : ℕ × ℕ) (found : Option (ℕ × ℕ)) → cond b found None ≡ Some w → found ≡ Some w
kept true w found h = h
kept false w found h = absurd (none-some w h)

pair_of-without_events : (maps : Maps) (device : ℕ) (q w : ℕ × ℕ) → pair_of (without_events maps device) q ≡ Some w → pair_of maps q ≡ Some w
pair_of-without_events maps device q w h =
    let p : ℕ × ℕ → Bool = λ k. not (k.0 == device) in
    let alike : (k : ℕ × ℕ) → is_at (event_cmp q) k ≡ true → p k ≡ p q = λ k e. ap p (sym (same_event q k e)) in
    kept (p q) w (pair_of maps q) (sym (lookup-filter-keys (is_at (event_cmp q)) p (p q) alike maps.events) ∙ h)

valid-without_events : (shape : GuestShape) (maps : Maps) (device : ℕ) → IsValid shape maps → IsValid shape (without_events maps device)
valid-without_events shape maps device valid =
    let p : ℕ × ℕ → Bool = λ k. not (k.0 == device) in
    let stays = pair_of-without_events maps device in
    let sound = valid.sound in
    record {
      sound = record {
        devices = sound.devices;
        events = subst (IsStrictlySortedBy event_cmp) (sym (keys_of-filter p maps.events)) (IsStrictlySortedBy-filter event_cmp p (keys_of maps.events) sound.events);
        collections = sound.collections;
        one_each = λ x y id a b hx hy. sound.one_each x y id a b (stays x (id, a) hx) (stays y (id, b) hy);
        of_mapped = λ q w h. sound.of_mapped q w (stays q w h);
      };
      device = valid.device;
      bits = valid.bits;
      event = λ q w h. valid.event q w (stays q w h);
      interrupt = λ q w h. valid.interrupt q w (stays q w h);
      target = valid.target;
    }

-- each command
mapped_well : (shape : GuestShape) (maps : Maps) (device event id icid : ℕ) → IsValid shape maps → first_fault (on_mapping shape maps device event id icid) ≡ None → IsValid shape (with_event maps (device, event) (id, icid))
mapped_well shape maps device event id icid valid h =
    let tests = all_clear (on_mapping shape maps device event id icid) h in
    let bits = there (bits_of maps device) tests.1.0 in
    let own = right_id shape maps device event id tests.1.1.1.0 in
    valid-with_event shape maps (device, event) (id, icid) bits.0 valid bits.1 (in_device maps device event bits.0 tests.1.1.0 bits.1) own.0 own.1

recollected_well : (shape : GuestShape) (maps : Maps) (event : ℕ × ℕ) (icid : ℕ) (found : Option (ℕ × ℕ)) → IsValid shape maps → pair_of maps event ≡ found → IsValid shape (recollected maps event icid found)
recollected_well shape maps event icid None valid h = valid
recollected_well shape maps event icid (Some pair) valid h =
    let bits = some_from_test (bits_of maps event.0) (valid.sound.of_mapped event pair h) in
    let below : event.1 < 2 ^ bits.0 = subst (λ o. IfSome o (λ b. event.1 < 2 ^ b)) bits.1 (valid.event event pair h) in
    valid-with_event shape maps event (pair.0, icid) bits.0 valid bits.1 below (valid.interrupt event pair h) (own_id maps event pair valid.sound h)

pub kept_valid : GoodCommandsKeepMaps
kept_valid shape maps (Mapd device size itt_addr true) valid h =
    let tests = all_clear (faults shape maps (Mapd device size itt_addr true)) h in
    let none : first_event (without_events maps device) device ≡ None = ap (option_map (λ pair. pair.0.1)) (none_left device maps.events) in
    valid-with_device shape (without_events maps device) device (size + 1) (valid-without_events shape maps device valid) none (below_from_test 65536 device tests.0) (omega arith) (size_below size tests.1.0)
kept_valid shape maps (Mapd device size itt_addr false) valid h =
    let none : first_event (without_events maps device) device ≡ None = ap (option_map (λ pair. pair.0.1)) (none_left device maps.events) in
    valid-without_device shape (without_events maps device) device (valid-without_events shape maps device valid) none
kept_valid shape maps (Mapc icid rdbase true) valid h = valid-with_collection shape maps icid rdbase valid (below_from_test shape.vcpus rdbase (all_clear (faults shape maps (Mapc icid rdbase true)) h).0)
kept_valid shape maps (Mapc icid rdbase false) valid h = valid-without_collection shape maps icid valid
kept_valid shape maps (Mapti device event id icid) valid h = mapped_well shape maps device event id icid valid h
kept_valid shape maps (Mapi device event icid) valid h = mapped_well shape maps device event event icid valid h
kept_valid shape maps (Movi device event icid) valid h = recollected_well shape maps (device, event) icid (pair_of maps (device, event)) valid refl
kept_valid shape maps (Discard device event) valid h = valid-without_event shape maps (device, event) valid
kept_valid shape maps (Int device event) valid h = valid
kept_valid shape maps (Clear device event) valid h = valid
kept_valid shape maps (Sync rdbase) valid h = valid
kept_valid shape maps (Inv device event) valid h = valid
kept_valid shape maps (Invall icid) valid h = valid
kept_valid shape maps (Movall rdbase second) valid h = valid
