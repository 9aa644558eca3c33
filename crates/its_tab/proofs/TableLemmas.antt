-- The maps stay sound as one of them changes.
use Rattle.std.proofs.Common.{◌≡◌, ℕ, ◌==◌, Bool, true, false, cond, Some, None, Option, IsSome, IfSome, OnSome, ◌⊎◌, inl, inr, refl, sym, ap, ◌∙◌, subst, find}
use Rattle.std.proofs.lemmas.Bool.{eqb-true, eq-eqb}
use Rattle.std.specs.Option.{option_map}
use Rattle.std.specs.Ordering.{nat_cmp}
use Rattle.std.specs.Cmp.{IsTotalOrder, on_total, then_total, nat_cmp_total}
use Rattle.std.specs.BTreeMap.{is_at}
use Rattle.std.proofs.lemmas.Map.Lookups.{exact_pairs, exact_unsigned}
use Rattle.std.proofs.lemmas.Option.{none-some, same_Some}
use Rattle.its_tab.specs.Maps.{Maps, event_cmp, bits_of, pair_of, owner_of, first_event, with_device, with_event, without_device, without_event, IsSound}
use Rattle.sorted_pairs.proofs.MapLemmas.{equal_from_test, lookup-insert_entry, lookup-removed, lookup-found, lookup-unfound, lookup-no_key, sorted-insert, sorted-remove}

pub event_order : IsTotalOrder event_cmp
event_order = then_total (on_total (λ (x : ℕ × ℕ). x.0) nat_cmp_total) (on_total (λ (x : ℕ × ℕ). x.1) nat_cmp_total)

pub same_event : (x y : ℕ × ℕ) → is_at (event_cmp x) y ≡ true → x ≡ y
same_event x y e = exact_pairs nat_cmp nat_cmp exact_unsigned exact_unsigned x y (equal_from_test (event_cmp x y) e)

-- what is found after a change at a key was put there, or was found before
pub put_or_there : {X : Type 0} (b : Bool) (v w : X) (found : Option X) → cond b (Some v) found ≡ Some w → ((b ≡ true) × (v ≡ w)) ⊎ (found ≡ Some w)
put_or_there true v w found e = inl (refl, same_Some v w e)
put_or_there false v w found e = inr e

pub was_there : {X : Type 0} (b : Bool) (w : X) (found : Option X) → cond b None found ≡ Some w → found ≡ Some w
was_there true w found e = absurd (none-some w e)
was_there false w found e = e

put_stays : {X : Type 0} (b : Bool) (v : X) (found : Option X) → IsSome found → IsSome (cond b (Some v) found)
put_stays true v found h = refl
put_stays false v found h = h

-- an event after one was mapped
pub pair_of-with_event : (maps : Maps) (event pair q w : ℕ × ℕ) → pair_of (with_event maps event pair) q ≡ Some w → ((event ≡ q) × (pair ≡ w)) ⊎ (pair_of maps q ≡ Some w)
pair_of-with_event maps event pair q w e =
    elim (put_or_there (is_at (event_cmp event) q) pair w (pair_of maps q) (sym (lookup-insert_entry event_order q event pair maps.events) ∙ e)) [
      | inl h ↦ inl (same_event event q h.0, h.1)
      | inr h ↦ inr h
    ]

-- an INTID that only this event may have is had by no other
owner_only : (maps : Maps) (event q : ℕ × ℕ) (id b : ℕ) → IsSound maps → IfSome (owner_of maps id) (λ owner. owner ≡ event) → pair_of maps q ≡ Some (id, b) → event ≡ q
owner_only maps event q id b sound owner there =
    elim (find (λ pair. pair.1.0 == id) maps.events) as (λ o. find (λ pair. pair.1.0 == id) maps.events ≡ o → IfSome (option_map (λ pair. pair.0) o) (λ owner. owner ≡ event) → event ≡ q) [
      | None ↦ λ f h.
          let other : (id == id) ≡ false = lookup-unfound (is_at (event_cmp q)) (λ pair. pair.0 == id) maps.events (id, b) f there in
          let same : (id == id) ≡ true = eq-eqb id id refl in
          cc
      | (Some e) ↦ λ f h.
          let found = lookup-found event_order (λ pair. pair.1.0 == id) maps.events e sound.events f in
          let same : pair_of maps e.0 ≡ Some (id, e.1.1) = found.0 ∙ ap (λ n. Some (n, e.1.1)) (eqb-true e.1.0 id found.1) in
          sym h ∙ sound.one_each e.0 q id e.1.1 b same there
    ] refl owner

pub sound-with_event : (maps : Maps) (event pair : ℕ × ℕ) → IsSound maps → IsSome (bits_of maps event.0) → IfSome (owner_of maps pair.0) (λ owner. owner ≡ event) → IsSound (with_event maps event pair)
sound-with_event maps event pair sound mapped owner = record {
  devices = sound.devices;
  events = sorted-insert event_order event pair maps.events sound.events;
  collections = sound.collections;
  one_each = λ x y id a b hx hy.
      elim (pair_of-with_event maps event pair x (id, a) hx) [
        | inl e ↦ elim (pair_of-with_event maps event pair y (id, b) hy) [
          | inl g ↦ sym e.0 ∙ g.0
          | inr g ↦ sym e.0 ∙ owner_only maps event y id b sound (subst (λ n. IfSome (owner_of maps n) (λ owner. owner ≡ event)) (ap (λ p. p.0) e.1) owner) g
        ]
        | inr e ↦ elim (pair_of-with_event maps event pair y (id, b) hy) [
          | inl g ↦ sym (owner_only maps event x id a sound (subst (λ n. IfSome (owner_of maps n) (λ owner. owner ≡ event)) (ap (λ p. p.0) g.1) owner) e) ∙ g.0
          | inr g ↦ sound.one_each x y id a b e g
        ]
      ];
  of_mapped = λ q w h. elim (pair_of-with_event maps event pair q w h) [
    | inl e ↦ subst (λ (x : ℕ × ℕ). IsSome (bits_of maps x.0)) e.0 mapped
    | inr e ↦ sound.of_mapped q w e
  ];
}

pub pair_of-without_event : (maps : Maps) (event q w : ℕ × ℕ) → IsSound maps → pair_of (without_event maps event) q ≡ Some w → pair_of maps q ≡ Some w
pair_of-without_event maps event q w sound e = was_there (is_at (event_cmp event) q) w (pair_of maps q) (sym (lookup-removed event_order q event maps.events sound.events) ∙ e)

pub sound-without_event : (maps : Maps) (event : ℕ × ℕ) → IsSound maps → IsSound (without_event maps event)
sound-without_event maps event sound = record {
  devices = sound.devices;
  events = sorted-remove event_cmp (is_at (event_cmp event)) maps.events sound.events;
  collections = sound.collections;
  one_each = λ x y id a b hx hy. sound.one_each x y id a b (pair_of-without_event maps event x (id, a) sound hx) (pair_of-without_event maps event y (id, b) sound hy);
  of_mapped = λ q w h. sound.of_mapped q w (pair_of-without_event maps event q w sound h);
}

pub sound-with_device : (maps : Maps) (device bits : ℕ) → IsSound maps → IsSound (with_device maps device bits)
sound-with_device maps device bits sound = record {
  devices = sorted-insert nat_cmp_total device bits maps.devices sound.devices;
  events = sound.events;
  collections = sound.collections;
  one_each = sound.one_each;
  of_mapped = λ q w h. subst IsSome (sym (lookup-insert_entry nat_cmp_total q.0 device bits maps.devices)) (put_stays (is_at (nat_cmp device) q.0) bits (bits_of maps q.0) (sound.of_mapped q w h));
}

pub unmapped : {X Y : Type 0} (f : X → Y) (o : Option X) → option_map f o ≡ None → o ≡ None
unmapped f None e = refl
unmapped f (Some x) e = absurd (none-some (f x) (sym e))

-- a device without events is the device of no event
pub not_of_device : (maps : Maps) (device : ℕ) (q w : ℕ × ℕ) → first_event maps device ≡ None → pair_of maps q ≡ Some w → is_at (nat_cmp device) q.0 ≡ false
not_of_device maps device q w none there =
    let nothing = unmapped (λ (pair : (ℕ × ℕ) × (ℕ × ℕ)). pair.0.1) (find (λ pair. pair.0.0 == device) maps.events) none in
    elim (is_at (nat_cmp device) q.0) as (λ b. is_at (nat_cmp device) q.0 ≡ b → b ≡ false) [
      | true ↦ λ e.
          let own : device ≡ q.0 = exact_unsigned device q.0 (equal_from_test (nat_cmp device q.0) e) in
          let missed : pair_of maps q ≡ None = lookup-no_key (is_at (event_cmp q)) (λ k. k.0 == device) maps.events (λ k h. eq-eqb k.0 device (sym (ap (λ (x : ℕ × ℕ). x.0) (same_event q k h)) ∙ sym own)) nothing in
          cc
      | false ↦ λ e. refl
    ] refl

pub sound-without_device : (maps : Maps) (device : ℕ) → IsSound maps → first_event maps device ≡ None → IsSound (without_device maps device)
sound-without_device maps device sound none = record {
  devices = sorted-remove nat_cmp (is_at (nat_cmp device)) maps.devices sound.devices;
  events = sound.events;
  collections = sound.collections;
  one_each = sound.one_each;
  of_mapped = λ q w h.
      let other : is_at (nat_cmp device) q.0 ≡ false = not_of_device maps device q w none h in
      let same : bits_of (without_device maps device) q.0 ≡ bits_of maps q.0 = lookup-removed nat_cmp_total q.0 device maps.devices sound.devices ∙ ap (λ b. cond b None (bits_of maps q.0)) other in
      subst IsSome (sym same) (sound.of_mapped q w h);
}

-- the device of an event that is found is mapped, in the maps that callers see
pub mapped_found : {maps seen : Maps} (event : ℕ × ℕ) (found : Option (ℕ × ℕ)) → maps ≡ seen → IsSound maps → found ≡ pair_of maps event → OnSome found (IsSome (bits_of seen event.0))
mapped_found {maps} {seen} event None view sound e = tt
mapped_found {maps} {seen} event (Some pair) view sound e = subst (λ m. IsSome (bits_of m event.0)) view (sound.of_mapped event pair (sym e))
