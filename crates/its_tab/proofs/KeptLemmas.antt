-- What the tables of an ITS keep as something is mapped and unmapped: their index, that all fits, and their room.
use Rattle.std.proofs.Common.{◌≡◌, ◌≢◌, ℕ, suc, ◌+◌, ◌<◌, ◌≤◌, Bool, cond, Some, None, Option, IsSome, IfSome, IfNone, List, [], ◌∷◌, length, refl, sym, ap, ◌∙◌, subst, true, false, true≢false, find, arith}
use Rattle.std.specs.declared.cmp.Ordering.{Ordering}
use Rattle.std.specs.declared.cmp.Ordering.TheVariants.{Less, Equal, Greater}
use Rattle.std.specs.Ordering.{nat_cmp, is_le, is_eq}
use Rattle.std.specs.Cmp.{nat_cmp_total, ranked, tied_itself}
use Rattle.std.specs.List.{AllByRecursion}
use Rattle.std.specs.List.Sorted.{IsStrictlySortedBy}
use Rattle.std.specs.Map.{lookup, keys_of, remove_entry}
use Rattle.std.specs.BTreeMap.{is_at, insert_entry}
use Rattle.std.proofs.lemmas.Option.{none-some}
use Rattle.its_tab.specs.Maps.{Maps, event_cmp, bits_of, pair_of, owner_of, first_event, with_device, with_event, with_collection, without_device, without_event, without_collection, IsIndexed}
use Rattle.its_cmd.specs.Words.{GuestShape}
use Rattle.its_tab.specs.After.{IsValid}
use Rattle.its_tab.specs.Room.{Room, IsLpi, IsEnough, Fit, IsKept}
use Rattle.sorted_pairs.proofs.MapLemmas.{same_number, lookup-insert_entry, sorted-insert, sorted-remove}
use Rattle.sorted_pairs.proofs.RoomLemmas.{found_count, length-put, length-taken, all_put, all_taken, room_for}
use Rattle.its_tab.proofs.TableLemmas.{event_order, sound-with_device, sound-without_device}
use Rattle.its_tab.proofs.IndexLemmas.{indexed-put, indexed-moved, indexed-taken, owner_missing, owner_missing_other, owner_there}

from_zero : (high : ℕ) (ks : List ℕ) → AllByRecursion (λ y. y < high) ks → AllByRecursion (λ y. (0 ≤ y) × (y < high)) ks
from_zero high [] h = tt
from_zero high (k ∷ ks) h = ((omega arith, h.0), from_zero high ks h.1)

if_none : {X : Type 0} (o : Option X) {P : Type 0} → (o ≡ None → P) → IfNone o P
if_none None h = h refl
if_none (Some x) h = tt

module _ {owners : List (ℕ × (ℕ × ℕ))} {maps : Maps} {room : Room} (kept : IsKept owners maps room) where
  -- what is mapped newly finds room
  pub device_room : (device bits len : ℕ) → device < 65536 → len ≡ length maps.devices → IfNone (bits_of maps device) (len < room.devices)
  device_room device bits len range long = if_none (bits_of maps device) (λ missing.
      let below = room_for maps.devices device bits 0 65536 kept.indexed.sound.devices (from_zero 65536 (keys_of maps.devices) kept.fit.devices) (omega arith) range missing in
      omega (arith, below, long, kept.enough.devices))

  pub collection_room : (icid vcpu len : ℕ) → icid < 65536 → len ≡ length maps.collections → IfNone (lookup (is_at (nat_cmp icid)) maps.collections) (len < room.collections)
  collection_room icid vcpu len range long = if_none (lookup (is_at (nat_cmp icid)) maps.collections) (λ missing.
      let below = room_for maps.collections icid vcpu 0 65536 kept.indexed.sound.collections (from_zero 65536 (keys_of maps.collections) kept.fit.collections) (omega arith) range missing in
      omega (arith, below, long, kept.enough.collections))

  fewer : (id : ℕ) (event : ℕ × ℕ) → IsLpi id → lookup (is_at (nat_cmp id)) owners ≡ None → length owners < 4096
  fewer id event lpi missing =
      let below = room_for owners id event 8192 12288 kept.indexed.index.ordered kept.fit.lpis lpi.0 lpi.1 missing in
      omega (arith, below)

  pub owner_room : (id : ℕ) (event : ℕ × ℕ) (len : ℕ) → IsLpi id → len ≡ length owners → IfNone (lookup (is_at (nat_cmp id)) owners) (len < room.owners)
  owner_room id event len lpi long = if_none (lookup (is_at (nat_cmp id)) owners) (λ missing. omega (arith, fewer id event lpi missing, long, kept.enough.owners))

  -- an event that is not mapped has no INTID that another had
  pub event_room : {seen : Maps} (id : ℕ) (event : ℕ × ℕ) (len : ℕ) → maps ≡ seen → IfSome (owner_of seen id) (λ owner. owner ≡ event) → IsLpi id → len ≡ length maps.events → IfNone (pair_of maps event) (len < room.events)
  event_room id event len view free lpi long = if_none (pair_of maps event) (λ missing.
      let free' = subst (λ m. IfSome (owner_of m id) (λ owner. owner ≡ event)) (sym view) free in
      let few = fewer id event lpi (kept.indexed.index.inverse id ∙ owner_missing maps event id kept.indexed.sound free' missing) in
      omega (arith, few, long, kept.fit.one_each, kept.enough.events))

  pub kept-with_device : (device bits cap : ℕ) {put : List (ℕ × ℕ)} → device < 65536 → put ≡ (with_device maps device bits).devices → room.devices ≤ cap → IsKept owners (record maps { devices = put }) (record room { devices = cap })
  kept-with_device device bits cap range is more = subst (λ ps. IsKept owners (record maps { devices = ps }) (record room { devices = cap })) (sym is) (record {
    indexed = record { sound = sound-with_device maps device bits kept.indexed.sound; index = record { ordered = kept.indexed.index.ordered; inverse = kept.indexed.index.inverse } };
    fit = record { devices = all_put nat_cmp_total device bits (λ y. y < 65536) maps.devices kept.fit.devices range; collections = kept.fit.collections; lpis = kept.fit.lpis; one_each = kept.fit.one_each };
    enough = record { devices = omega (arith, more, kept.enough.devices); events = kept.enough.events; collections = kept.enough.collections; owners = kept.enough.owners };
  })

  pub kept-without_device : {seen : Maps} (device cap : ℕ) {left : List (ℕ × ℕ)} → maps ≡ seen → first_event seen device ≡ None → left ≡ (without_device maps device).devices → room.devices ≤ cap → IsKept owners (record maps { devices = left }) (record room { devices = cap })
  kept-without_device device cap view none is more =
      let none' = subst (λ m. first_event m device ≡ None) (sym view) none in
      subst (λ ps. IsKept owners (record maps { devices = ps }) (record room { devices = cap })) (sym is) (record {
        indexed = record { sound = sound-without_device maps device kept.indexed.sound none'; index = record { ordered = kept.indexed.index.ordered; inverse = kept.indexed.index.inverse } };
        fit = record { devices = all_taken (is_at (nat_cmp device)) (λ y. y < 65536) maps.devices kept.fit.devices; collections = kept.fit.collections; lpis = kept.fit.lpis; one_each = kept.fit.one_each };
        enough = record { devices = omega (arith, more, kept.enough.devices); events = kept.enough.events; collections = kept.enough.collections; owners = kept.enough.owners };
      })

  pub kept-with_collection : (icid vcpu cap : ℕ) {put : List (ℕ × ℕ)} → icid < 65536 → put ≡ (with_collection maps icid vcpu).collections → room.collections ≤ cap → IsKept owners (record maps { collections = put }) (record room { collections = cap })
  kept-with_collection icid vcpu cap range is more =
      let sound = kept.indexed.sound in
      subst (λ ps. IsKept owners (record maps { collections = ps }) (record room { collections = cap })) (sym is) (record {
        indexed = record {
          sound = record { devices = sound.devices; events = sound.events; collections = sorted-insert nat_cmp_total icid vcpu maps.collections sound.collections; one_each = sound.one_each; of_mapped = sound.of_mapped };
          index = record { ordered = kept.indexed.index.ordered; inverse = kept.indexed.index.inverse };
        };
        fit = record { devices = kept.fit.devices; collections = all_put nat_cmp_total icid vcpu (λ y. y < 65536) maps.collections kept.fit.collections range; lpis = kept.fit.lpis; one_each = kept.fit.one_each };
        enough = record { devices = kept.enough.devices; events = kept.enough.events; collections = omega (arith, more, kept.enough.collections); owners = kept.enough.owners };
      })

  pub kept-without_collection : (icid cap : ℕ) {left : List (ℕ × ℕ)} → left ≡ (without_collection maps icid).collections → room.collections ≤ cap → IsKept owners (record maps { collections = left }) (record room { collections = cap })
  kept-without_collection icid cap is more =
      let sound = kept.indexed.sound in
      subst (λ ps. IsKept owners (record maps { collections = ps }) (record room { collections = cap })) (sym is) (record {
        indexed = record {
          sound = record { devices = sound.devices; events = sound.events; collections = sorted-remove nat_cmp (is_at (nat_cmp icid)) maps.collections sound.collections; one_each = sound.one_each; of_mapped = sound.of_mapped };
          index = record { ordered = kept.indexed.index.ordered; inverse = kept.indexed.index.inverse };
        };
        fit = record { devices = kept.fit.devices; collections = all_taken (is_at (nat_cmp icid)) (λ y. y < 65536) maps.collections kept.fit.collections; lpis = kept.fit.lpis; one_each = kept.fit.one_each };
        enough = record { devices = kept.enough.devices; events = kept.enough.events; collections = omega (arith, more, kept.enough.collections); owners = kept.enough.owners };
      })

  -- the fit of other events and owners, where they are as many
  fit_again : {es : List ((ℕ × ℕ) × (ℕ × ℕ))} {left : List (ℕ × (ℕ × ℕ))} → AllByRecursion IsLpi (keys_of left) → length es ≡ length left → Fit left (record maps { events = es })
  fit_again lpis same = record { devices = kept.fit.devices; collections = kept.fit.collections; lpis = lpis; one_each = same }

  enough_again : {e o : ℕ} → room.events ≤ e → room.owners ≤ o → IsEnough (record room { events = e; owners = o })
  enough_again more most = record { devices = kept.enough.devices; events = omega (arith, more, kept.enough.events); collections = kept.enough.collections; owners = omega (arith, most, kept.enough.owners) }

  module _ {seen : Maps} (event : ℕ × ℕ) (id icid : ℕ) (view : maps ≡ seen) (mapped : IsSome (bits_of seen event.0)) (free : IfSome (owner_of seen id) (λ owner. owner ≡ event)) (lpi : IsLpi id) {es : List ((ℕ × ℕ) × (ℕ × ℕ))} {put : List (ℕ × (ℕ × ℕ))} (is_events : es ≡ (with_event maps event (id, icid)).events) (is_put : put ≡ insert_entry nat_cmp owners id event) where
    free_here : IfSome (owner_of maps id) (λ owner. owner ≡ event)
    free_here = subst (λ m. IfSome (owner_of m id) (λ owner. owner ≡ event)) (sym view) free

    put_long : length put + found_count (owner_of maps id) ≡ suc (length owners)
    put_long = ap (λ ps. length ps + found_count (owner_of maps id)) is_put ∙ ap (λ o. length (insert_entry nat_cmp owners id event) + found_count o) (sym (kept.indexed.index.inverse id)) ∙ length-put nat_cmp_total id event owners kept.indexed.index.ordered

    events_long : length es + found_count (pair_of maps event) ≡ suc (length maps.events)
    events_long = ap (λ ps. length ps + found_count (pair_of maps event)) is_events ∙ length-put event_order event (id, icid) maps.events kept.indexed.sound.events

    put_lpis : AllByRecursion IsLpi (keys_of put)
    put_lpis = subst (λ ps. AllByRecursion IsLpi (keys_of ps)) (sym is_put) (all_put nat_cmp_total id event IsLpi owners kept.fit.lpis lpi)

    -- the event had this INTID, or none
    pub kept-put : {e o : ℕ} (older : Option (ℕ × ℕ)) → older ≡ pair_of maps event → IfSome older (λ pair. pair.0 ≡ id) → room.events ≤ e → room.owners ≤ o → IsKept put (record maps { events = es }) (record room { events = e; owners = o })
    kept-put None is own more most =
        let none : found_count (pair_of maps event) ≡ 0 = ap found_count (sym is) in
        let unowned : found_count (owner_of maps id) ≡ 0 = ap found_count (owner_missing maps event id kept.indexed.sound free_here (sym is)) in
        record {
          indexed = indexed-put event id icid view kept.indexed mapped free (subst (λ o. IfSome o (λ pair. pair.0 ≡ id)) is own) is_put is_events;
          fit = fit_again put_lpis (omega (arith, put_long, events_long, none, unowned, kept.fit.one_each));
          enough = enough_again more most;
        }
    kept-put (Some pair) is own more most =
        let one : found_count (pair_of maps event) ≡ 1 = ap found_count (sym is) in
        let owned : found_count (owner_of maps id) ≡ 1 = ap found_count (owner_there maps event pair id kept.indexed.sound (sym is) own) in
        record {
          indexed = indexed-put event id icid view kept.indexed mapped free (subst (λ o. IfSome o (λ pair. pair.0 ≡ id)) is own) is_put is_events;
          fit = fit_again put_lpis (omega (arith, put_long, events_long, one, owned, kept.fit.one_each));
          enough = enough_again more most;
        }

    -- it had another one
    pub kept-moved : {e o : ℕ} {left : List (ℕ × (ℕ × ℕ))} (pair : ℕ × ℕ) → Some pair ≡ pair_of maps event → pair.0 ≢ id → left ≡ remove_entry (is_at (nat_cmp pair.0)) put → room.events ≤ e → room.owners ≤ o → IsKept left (record maps { events = es }) (record room { events = e; owners = o })
    kept-moved {left = left} pair is moved is_left more most =
        let one : found_count (pair_of maps event) ≡ 1 = ap found_count (sym is) in
        let unowned : found_count (owner_of maps id) ≡ 0 = ap found_count (owner_missing_other maps event pair id kept.indexed.sound free_here (sym is) moved) in
        let older : owner_of maps pair.0 ≡ Some event = owner_there maps event pair pair.0 kept.indexed.sound (sym is) refl in
        let found : found_count (lookup (is_at (nat_cmp pair.0)) put) ≡ 1 = ap (λ ps. found_count (lookup (is_at (nat_cmp pair.0)) ps)) is_put ∙ ap found_count (lookup-insert_entry nat_cmp_total pair.0 id event owners) ∙ there (is_at (nat_cmp id) pair.0) (lookup (is_at (nat_cmp pair.0)) owners) (kept.indexed.index.inverse pair.0 ∙ older) in
        let gone : length left + found_count (lookup (is_at (nat_cmp pair.0)) put) ≡ length put = ap (λ ps. length ps + found_count (lookup (is_at (nat_cmp pair.0)) put)) is_left ∙ length-taken (is_at (nat_cmp pair.0)) put in
        record {
          indexed = indexed-moved event id icid view kept.indexed pair mapped free (sym is) moved is_put is_left is_events;
          fit = fit_again (subst (λ ps. AllByRecursion IsLpi (keys_of ps)) (sym is_left) (all_taken (is_at (nat_cmp pair.0)) IsLpi put put_lpis)) (omega (arith, put_long, events_long, one, unowned, found, gone, kept.fit.one_each));
          enough = enough_again more most;
        }
      where
        there : (b : Bool) (found : Option (ℕ × ℕ)) → found ≡ Some event → found_count (cond b (Some event) found) ≡ 1
        there b found h = elim b as (λ b. found_count (cond b (Some event) found) ≡ 1) [ true ↦ refl | false ↦ ap found_count h ]

  pub kept-taken : {seen : Maps} (event : ℕ × ℕ) (pair : ℕ × ℕ) {e o : ℕ} {es : List ((ℕ × ℕ) × (ℕ × ℕ))} {left : List (ℕ × (ℕ × ℕ))} → maps ≡ seen → Some pair ≡ pair_of maps event → es ≡ (without_event maps event).events → left ≡ remove_entry (is_at (nat_cmp pair.0)) owners → room.events ≤ e → room.owners ≤ o → IsKept left (record maps { events = es }) (record room { events = e; owners = o })
  kept-taken event pair {es = es} {left = left} view is is_events is_left more most =
      let one : found_count (pair_of maps event) ≡ 1 = ap found_count (sym is) in
      let owned : found_count (lookup (is_at (nat_cmp pair.0)) owners) ≡ 1 = ap found_count (kept.indexed.index.inverse pair.0 ∙ owner_there maps event pair pair.0 kept.indexed.sound (sym is) refl) in
      let fewer_events : length es + found_count (pair_of maps event) ≡ length maps.events = ap (λ ps. length ps + found_count (pair_of maps event)) is_events ∙ length-taken (is_at (event_cmp event)) maps.events in
      let fewer_owners : length left + found_count (lookup (is_at (nat_cmp pair.0)) owners) ≡ length owners = ap (λ ps. length ps + found_count (lookup (is_at (nat_cmp pair.0)) owners)) is_left ∙ length-taken (is_at (nat_cmp pair.0)) owners in
      record {
        indexed = indexed-taken event pair.0 pair.1 view kept.indexed (sym is) is_left is_events;
        fit = fit_again (subst (λ ps. AllByRecursion IsLpi (keys_of ps)) (sym is_left) (all_taken (is_at (nat_cmp pair.0)) IsLpi owners kept.fit.lpis)) (omega (arith, one, owned, fewer_events, fewer_owners, kept.fit.one_each));
        enough = enough_again more most;
      }

  -- the INTID of an event that is mapped is of an LPI
  pub lpi_of : (event pair : ℕ × ℕ) → pair_of maps event ≡ Some pair → IsLpi pair.0
  lpi_of event pair there = found_key owners (subst IsSome (sym (kept.indexed.index.inverse pair.0 ∙ owner_there maps event pair pair.0 kept.indexed.sound there refl)) refl) kept.fit.lpis
    where
      found_key : (ps : List (ℕ × (ℕ × ℕ))) → IsSome (lookup (is_at (nat_cmp pair.0)) ps) → AllByRecursion IsLpi (keys_of ps) → IsLpi pair.0
      found_key [] h all = absurd (true≢false (sym h))
      found_key (p ∷ ps) h all = elim (is_at (nat_cmp pair.0) p.0) as (λ b. is_at (nat_cmp pair.0) p.0 ≡ b → IsSome (cond b (Some p.1) (lookup (is_at (nat_cmp pair.0)) ps)) → IsLpi pair.0) [
        | true ↦ λ t k. subst IsLpi (sym (same_number pair.0 p.0 t)) all.0
        | false ↦ λ t k. found_key ps k all.1
      ] refl h

-- nothing is mapped
pub kept-opened : (room : Room) → IsEnough room → IsKept [] (record { devices = []; events = []; collections = [] }) room
unfolding IsStrictlySortedBy
kept-opened room enough = record {
  indexed = record {
    sound = record { devices = tt; events = tt; collections = tt; one_each = λ x y id a b h g. absurd (none-some (id, a) h); of_mapped = λ event pair h. absurd (none-some pair h) };
    index = record { ordered = tt; inverse = λ id. refl };
  };
  fit = record { devices = tt; collections = tt; lpis = tt; one_each = refl };
  enough = enough;
}

valid-opened : (shape : GuestShape) → IsValid shape (record { devices = []; events = []; collections = [] })
unfolding IsStrictlySortedBy
valid-opened shape = record {
  sound = record { devices = tt; events = tt; collections = tt; one_each = λ x y id a b h g. absurd (none-some (id, a) h); of_mapped = λ event pair h. absurd (none-some pair h) };
  device = λ device bits h. absurd (none-some bits h);
  bits = λ device bits h. absurd (none-some bits h);
  event = λ event pair h. absurd (none-some pair h);
  interrupt = λ event pair h. absurd (none-some pair h);
  target = λ icid vcpu h. absurd (none-some vcpu h);
}

pub kept-empty : {devices collections : List (ℕ × ℕ)} {events : List ((ℕ × ℕ) × (ℕ × ℕ))} {owners : List (ℕ × (ℕ × ℕ))} (room : Room) → devices ≡ [] → events ≡ [] → collections ≡ [] → owners ≡ [] → IsEnough room → IsKept owners (record { devices = devices; events = events; collections = collections }) room
kept-empty {devices} {collections} {events} {owners} room d e c o enough =
    let opened = kept-opened room enough in
    let with_owners = subst (λ os. IsKept os (record { devices = []; events = []; collections = [] }) room) (sym o) opened in
    let with_devices = subst (λ ds. IsKept owners (record { devices = ds; events = []; collections = [] }) room) (sym d) with_owners in
    let with_events = subst (λ es. IsKept owners (record { devices = devices; events = es; collections = [] }) room) (sym e) with_devices in
    subst (λ cs. IsKept owners (record { devices = devices; events = events; collections = cs }) room) (sym c) with_events

-- maps in which nothing is mapped are those of any guest
pub valid-empty : (shape : GuestShape) {devices collections : List (ℕ × ℕ)} {events : List ((ℕ × ℕ) × (ℕ × ℕ))} → devices ≡ [] → events ≡ [] → collections ≡ [] → IsValid shape (record { devices = devices; events = events; collections = collections })
valid-empty shape {devices} {collections} {events} d e c =
    let with_devices = subst (λ ds. IsValid shape (record { devices = ds; events = []; collections = [] })) (sym d) (valid-opened shape) in
    let with_events = subst (λ es. IsValid shape (record { devices = devices; events = es; collections = [] })) (sym e) with_devices in
    subst (λ cs. IsValid shape (record { devices = devices; events = events; collections = cs })) (sym c) with_events

-- the least INTID from a number on that an event has
pub record NextFacts (maps : Maps) (from : ℕ) (next : Option (ℕ × (ℕ × ℕ))) : Type 0 where
  pub found : IfSome next (λ pair. IsSome (owner_of maps pair.0))
  pub least : IfSome next (λ pair. (from ≤ pair.0) × ((other : ℕ) → from ≤ other → IsSome (owner_of maps other) → pair.0 ≤ other))
  pub none : IfNone next ((other : ℕ) → from ≤ other → owner_of maps other ≡ None)

-- the same of what is looked up in the index
record Next (owners : List (ℕ × (ℕ × ℕ))) (from : ℕ) (next : Option (ℕ × (ℕ × ℕ))) : Type 0 where
  found : IfSome next (λ pair. IsSome (lookup (is_at (nat_cmp pair.0)) owners))
  least : IfSome next (λ pair. (from ≤ pair.0) × ((other : ℕ) → from ≤ other → IsSome (lookup (is_at (nat_cmp other)) owners) → pair.0 ≤ other))
  none : IfNone next ((other : ℕ) → from ≤ other → lookup (is_at (nat_cmp other)) owners ≡ None)

at_most : (r : Ordering) (x y : ℕ) → r ≡ nat_cmp x y → is_le r ≡ true → x ≤ y
at_most Less x y e h = let below : x < y = ranked x y Less e in omega arith
at_most Equal x y e h = let same : x ≡ y = ranked x y Equal e in omega arith
at_most Greater x y e h = absurd (true≢false (sym h))

past : (r : Ordering) (x y : ℕ) → r ≡ nat_cmp x y → is_le r ≡ false → y < x
past Less x y e h = absurd (true≢false h)
past Equal x y e h = absurd (true≢false h)
past Greater x y e h = ranked x y Greater e

looked_up : (other : ℕ) (x : ℕ × (ℕ × ℕ)) (owners : List (ℕ × (ℕ × ℕ))) → AllByRecursion (λ y. nat_cmp x.0 y ≡ Less) (keys_of owners) → IsSome (lookup (is_at (nat_cmp other)) (x ∷ owners)) → x.0 ≤ other
looked_up other x owners rising there = elim (is_at (nat_cmp other) x.0) as (λ b. is_at (nat_cmp other) x.0 ≡ b → IsSome (cond b (Some x.1) (lookup (is_at (nat_cmp other)) owners)) → x.0 ≤ other) [
  | true ↦ λ t k. let same : other ≡ x.0 = same_number other x.0 t in omega arith
  | false ↦ λ t k. among other x.0 owners rising k
] refl there
  where
    among : (other low : ℕ) (owners : List (ℕ × (ℕ × ℕ))) → AllByRecursion (λ y. nat_cmp low y ≡ Less) (keys_of owners) → IsSome (lookup (is_at (nat_cmp other)) owners) → low ≤ other
    among other low [] rising there = absurd (true≢false (sym there))
    among other low (y ∷ owners) rising there = elim (is_at (nat_cmp other) y.0) as (λ b. is_at (nat_cmp other) y.0 ≡ b → IsSome (cond b (Some y.1) (lookup (is_at (nat_cmp other)) owners)) → low ≤ other) [
      | true ↦ λ t k. let same : other ≡ y.0 = same_number other y.0 t in let later : low < y.0 = ranked low y.0 Less (sym rising.0) in omega arith
      | false ↦ λ t k. among other low owners rising.1 k
    ] refl there

next_of : (owners : List (ℕ × (ℕ × ℕ))) (from : ℕ) → IsStrictlySortedBy nat_cmp (keys_of owners) → Next owners from (find (λ pair. is_le (nat_cmp from pair.0)) owners)
unfolding IsStrictlySortedBy
next_of [] from s = record { found = tt; least = tt; none = λ other h. refl }
next_of (x ∷ owners) from s = elim (is_le (nat_cmp from x.0)) as (λ b. is_le (nat_cmp from x.0) ≡ b → Next (x ∷ owners) from (cond b (Some x) (find (λ pair. is_le (nat_cmp from pair.0)) owners))) [
  | true ↦ λ t. record {
    found = subst (λ b. IsSome (cond b (Some x.1) (lookup (is_at (nat_cmp x.0)) owners))) (sym (at_itself x.0)) refl;
    least = (at_most (nat_cmp from x.0) from x.0 refl t, λ other h there. looked_up other x owners s.0 there);
    none = tt;
  }
  | false ↦ λ t.
      let rest = next_of owners from s.1 in
      let before : x.0 < from = past (nat_cmp from x.0) from x.0 refl t in
      let skip : (other : ℕ) → from ≤ other → lookup (is_at (nat_cmp other)) (x ∷ owners) ≡ lookup (is_at (nat_cmp other)) owners = λ other h. skipped other x owners (λ same. omega arith) in
      elim (find (λ pair. is_le (nat_cmp from pair.0)) owners) as (λ o. Next owners from o → Next (x ∷ owners) from o) [
        | None ↦ λ facts. record { found = tt; least = tt; none = λ other h. skip other h ∙ facts.none other h }
        | (Some e) ↦ λ facts. record {
          found = subst IsSome (sym (skip e.0 facts.least.0)) facts.found;
          least = (facts.least.0, λ other h there. facts.least.1 other h (subst IsSome (skip other h) there));
          none = tt;
        }
      ] rest
] refl
  where
    skipped : (other : ℕ) (x : ℕ × (ℕ × ℕ)) (owners : List (ℕ × (ℕ × ℕ))) → (other ≡ x.0 → ⊥) → lookup (is_at (nat_cmp other)) (x ∷ owners) ≡ lookup (is_at (nat_cmp other)) owners
    skipped other x owners apart = elim (is_at (nat_cmp other) x.0) as (λ b. is_at (nat_cmp other) x.0 ≡ b → cond b (Some x.1) (lookup (is_at (nat_cmp other)) owners) ≡ lookup (is_at (nat_cmp other)) owners) [
      | true ↦ λ t. absurd (apart (same_number other x.0 t))
      | false ↦ λ t. refl
    ] refl

    at_itself : (n : ℕ) → is_at (nat_cmp n) n ≡ true
    at_itself n = ap is_eq (tied_itself nat_cmp_total n)

pub next_facts : {owners : List (ℕ × (ℕ × ℕ))} {maps seen : Maps} (from : ℕ) (next : Option (ℕ × (ℕ × ℕ))) → maps ≡ seen → IsIndexed owners maps → next ≡ find (λ pair. is_le (nat_cmp from pair.0)) owners → NextFacts seen from next
next_facts {owners} {maps} {seen} from next view indexed is = subst (λ m. NextFacts m from next) view (subst (NextFacts maps from) (sym is) (of_next (find (λ pair. is_le (nat_cmp from pair.0)) owners) (next_of owners from indexed.index.ordered)))
  where
    of_next : (o : Option (ℕ × (ℕ × ℕ))) → Next owners from o → NextFacts maps from o
    of_next None facts = record { found = tt; least = tt; none = λ other h. sym (indexed.index.inverse other) ∙ facts.none other h }
    of_next (Some e) facts = record {
      found = subst IsSome (indexed.index.inverse e.0) facts.found;
      least = (facts.least.0, λ other h there. facts.least.1 other h (subst IsSome (sym (indexed.index.inverse other)) there));
      none = tt;
    }
