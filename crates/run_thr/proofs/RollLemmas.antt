-- All actors that a run ends with: each is there once.
use Rattle.std.proofs.Common.{◌≡◌, ℕ, ◌+◌, ◌<◌, inl, inr, zero, suc, true, IsTrue, All, List, [], ◌∷◌, ◌++◌, length, map, Some, refl, sym, ap, subst, ◌∙◌, arith}
use Rattle.std.specs.Prelude.{slice_get}
use Rattle.std.proofs.lemmas.Option.{get_or_from_slice_get, slice_get_within}
use Rattle.law_threads_are_history.specs.Core.{Seen}
use Rattle.thr_cast.specs.PortTable.Told.{WordsTold, RootTold, AreRoots, words_at}
use Rattle.law_threads_are_history.specs.ScnBase.declared.pes.VcpuName.{VcpuName}
use Rattle.law_threads_are_history.specs.ScnBase.declared.scenario.Scenario.{Scenario}
use Rattle.thr_cast.specs.ThrTrip.Device.{DeviceTold, IsDevice}
use Rattle.thr_cast.specs.ThrTrip.Script.{all_vcpus}
use Rattle.thr_cast.specs.ThrTrip.Trip.{IsTrip, TripTold, is_done}
use Rattle.thr_cast.specs.Cast.{name_of}
use Rattle.thr_cast.specs.Names.{DeviceName, all_devices}
use Rattle.thr_cast.specs.Set.{IsSet}
use Rattle.thr_cast.proofs.NameLemmas.{devices_apart, from_either, vcpu_named, vcpus_apart}
use Rattle.run_thr.proofs.JoinLemmas.{AreApart, AreThere}

-- Elements by their places.

pub at_all : {X : Type 0} (P : X → Type 0) (xs : List X) (p : ℕ) (x : X) → All P xs → slice_get xs p ≡ Some x → P x
at_all {X = X} P xs p x all e = subst P (get_or_from_slice_get xs p x x e) (all p x (slice_get_within xs p x e))

pub mapped : {X Y : Type 0} (f : X → Y) (xs : List X) (p : ℕ) (x : X) → slice_get xs p ≡ Some x → slice_get (map f xs) p ≡ Some (f x)
mapped f [] p x e = absurd (cc)
mapped f (first ∷ xs) zero x e = let same : first ≡ x = cc in ap (λ one. Some (f one)) same
mapped f (first ∷ xs) (suc p) x e = mapped f xs p x e

-- one of some that were mapped
pub record From {X Y : Type 0} (f : X → Y) (xs : List X) (p : ℕ) (y : Y) : Type 0 where
  pub one : X
  pub there : slice_get xs p ≡ Some one
  pub is : f one ≡ y

pub from_mapped : {X Y : Type 0} (f : X → Y) (xs : List X) (p : ℕ) (y : Y) → slice_get (map f xs) p ≡ Some y → From f xs p y
from_mapped f [] p y e = absurd (cc)
from_mapped f (first ∷ xs) zero y e = record { one = first; there = refl; is = cc }
from_mapped f (first ∷ xs) (suc p) y e = let later = from_mapped f xs p y e in record { one = later.one; there = later.there; is = later.is }

-- at a place that there is stands one
pub there_is : {X : Type 0} (xs : List X) (p : ℕ) → p < length xs → (x : X) × (slice_get xs p ≡ Some x)
there_is [] p few = absurd (omega (arith, few))
there_is (first ∷ xs) zero few = (first, refl)
there_is (first ∷ xs) (suc p) few = there_is xs p (omega (arith, few))

-- What a run ends with: its vCPUs and its devices, all of them, each done.
pub record Roll (scenario : Scenario) (words : List WordsTold) (devices : List DeviceTold) (trips : List TripTold) : Type 0 where
  pub set : IsSet scenario words
  pub names : map name_of devices ≡ all_devices words
  pub device : All (IsDevice words scenario.steps) devices
  pub finished : All (λ (device : DeviceTold). device.done ≡ true) devices
  pub count : length trips ≡ length (all_vcpus words)
  pub trip : All (IsTrip words scenario.lrs scenario.steps) trips
  pub placed : (p : ℕ) (trip : TripTold) → slice_get trips p ≡ Some trip → trip.place ≡ p
  pub done : All (λ (trip : TripTold). IsTrue (is_done trip)) trips

-- their ports
abbrev pub seens_of : List DeviceTold → List TripTold → List Seen
seens_of devices trips = map (λ (device : DeviceTold). device.seen) devices ++ map (λ (trip : TripTold). trip.seen) trips

module _ (scenario : Scenario) (words : List WordsTold) (devices : List DeviceTold) (trips : List TripTold) (roll : Roll scenario words devices trips) where
  device_seen : DeviceTold → Seen
  device_seen device = device.seen

  trip_seen : TripTold → Seen
  trip_seen trip = trip.seen

  -- the name of a vCPU stands at its place, and that of a device
  pub trip_named : (p : ℕ) (trip : TripTold) → slice_get trips p ≡ Some trip → slice_get (all_vcpus words) p ≡ Some (record { guest = trip.vcpu.guest; vcpu = trip.vcpu.vcpu })
  trip_named p trip e = ap (slice_get (all_vcpus words)) (sym (roll.placed p trip e)) ∙ (at_all (IsTrip words scenario.lrs scenario.steps) trips p trip roll.trip e).place

  pub device_at : (p : ℕ) (device : DeviceTold) → slice_get devices p ≡ Some device → slice_get (all_devices words) p ≡ Some (name_of device)
  device_at p device e = ap (λ (names : List DeviceName). slice_get names p) (sym roll.names) ∙ mapped name_of devices p device e

  -- the actor of its port
  pub device_actor : (p : ℕ) (device : DeviceTold) → slice_get devices p ≡ Some device → device.seen.actor ≡ (words_at words device.guest).guest.shape.vcpus + device.device
  device_actor p device e = (at_all (IsDevice words scenario.steps) devices p device roll.device e).actor.actor

  pub trip_few : (p : ℕ) (trip : TripTold) → slice_get trips p ≡ Some trip → trip.vcpu.vcpu < (words_at words trip.vcpu.guest).guest.shape.vcpus
  trip_few p trip e = (vcpu_named words p _ roll.set.number (trip_named p trip e)).vcpu

  -- no vCPU has the actor of a device
  differ : (p q : ℕ) (device : DeviceTold) (trip : TripTold) → slice_get devices p ≡ Some device → slice_get trips q ≡ Some trip → device.seen.number ≡ trip.seen.number → device.seen.actor ≡ trip.seen.actor → ⊥
  differ p q device trip d t number actor =
      let is_device = at_all (IsDevice words scenario.steps) devices p device roll.device d in
      let is_trip = at_all (IsTrip words scenario.lrs scenario.steps) trips q trip roll.trip t in
      let guest : device.guest ≡ trip.vcpu.guest = sym is_device.number ∙ number ∙ is_trip.off.actor.guest in
      let few : trip.vcpu.vcpu < (words_at words device.guest).guest.shape.vcpus = subst (λ g. trip.vcpu.vcpu < (words_at words g).guest.shape.vcpus) (sym guest) (trip_few q trip t) in
      let past = device_actor p device d in
      let same = is_trip.off.actor.number in
      absurd (omega (arith, few, past, same, actor))

  devices_differ : (p q : ℕ) (one other : DeviceTold) → slice_get devices p ≡ Some one → slice_get devices q ≡ Some other → one.seen.number ≡ other.seen.number → one.seen.actor ≡ other.seen.actor → p ≡ q
  devices_differ p q one other is_one is_other number actor =
      let a = at_all (IsDevice words scenario.steps) devices p one roll.device is_one in
      let b = at_all (IsDevice words scenario.steps) devices q other roll.device is_other in
      let guest : other.guest ≡ one.guest = sym b.number ∙ sym number ∙ a.number in
      let first = device_actor p one is_one in
      let second : other.seen.actor ≡ (words_at words one.guest).guest.shape.vcpus + other.device = device_actor q other is_other ∙ ap (λ g. (words_at words g).guest.shape.vcpus + other.device) guest in
      let device : other.device ≡ one.device = omega (arith, first, second, actor) in
      let named : name_of other ≡ name_of one = ap (λ g. (let name : DeviceName = record { guest = g; device = other.device } in name)) guest ∙ ap (λ d. (let name : DeviceName = record { guest = one.guest; device = d } in name)) device in
      devices_apart words p q (name_of one) roll.set.number (device_at p one is_one) (device_at q other is_other ∙ ap Some named)

  trips_differ : (p q : ℕ) (one other : TripTold) → slice_get trips p ≡ Some one → slice_get trips q ≡ Some other → one.seen.number ≡ other.seen.number → one.seen.actor ≡ other.seen.actor → p ≡ q
  trips_differ p q one other is_one is_other number actor =
      let a = (at_all (IsTrip words scenario.lrs scenario.steps) trips p one roll.trip is_one).off.actor in
      let b = (at_all (IsTrip words scenario.lrs scenario.steps) trips q other roll.trip is_other).off.actor in
      let guest : other.vcpu.guest ≡ one.vcpu.guest = sym b.guest ∙ sym number ∙ a.guest in
      let vcpu : other.vcpu.vcpu ≡ one.vcpu.vcpu = sym b.number ∙ sym actor ∙ a.number in
      let name : VcpuName = record { guest = one.vcpu.guest; vcpu = one.vcpu.vcpu } in
      let named : Some (let other : VcpuName = record { guest = other.vcpu.guest; vcpu = other.vcpu.vcpu } in other) ≡ Some name =
      ap (λ g. Some (let n : VcpuName = record { guest = g; vcpu = other.vcpu.vcpu } in n)) guest ∙ ap (λ v. Some (let n : VcpuName = record { guest = one.vcpu.guest; vcpu = v } in n)) vcpu in
      vcpus_apart words p q name roll.set.number (trip_named p one is_one) (trip_named q other is_other ∙ named)

  pub apart : AreApart (seens_of devices trips)
  apart i j one other is_one is_other number actor =
      elim (from_either (map (λ (device : DeviceTold). device.seen) devices) (map (λ (trip : TripTold). trip.seen) trips) i one is_one) [
        | inl early ↦ (let a = from_mapped (λ (device : DeviceTold). device.seen) devices i one early in
            elim (from_either (map (λ (device : DeviceTold). device.seen) devices) (map (λ (trip : TripTold). trip.seen) trips) j other is_other) [
              | inl early2 ↦ (let b = from_mapped (λ (device : DeviceTold). device.seen) devices j other early2 in
                  devices_differ i j a.one b.one a.there b.there (ap (λ (s : Seen). s.number) a.is ∙ number ∙ ap (λ (s : Seen). s.number) (sym b.is)) (ap (λ (s : Seen). s.actor) a.is ∙ actor ∙ ap (λ (s : Seen). s.actor) (sym b.is)))
              | inr late2 ↦ (let b = from_mapped (λ (trip : TripTold). trip.seen) trips late2.0 other late2.2 in
                  absurd (differ i late2.0 a.one b.one a.there b.there (ap (λ (s : Seen). s.number) a.is ∙ number ∙ ap (λ (s : Seen). s.number) (sym b.is)) (ap (λ (s : Seen). s.actor) a.is ∙ actor ∙ ap (λ (s : Seen). s.actor) (sym b.is))))
            ])
        | inr late ↦ (let a = from_mapped (λ (trip : TripTold). trip.seen) trips late.0 one late.2 in
            elim (from_either (map (λ (device : DeviceTold). device.seen) devices) (map (λ (trip : TripTold). trip.seen) trips) j other is_other) [
              | inl early2 ↦ (let b = from_mapped (λ (device : DeviceTold). device.seen) devices j other early2 in
                  absurd (differ j late.0 b.one a.one b.there a.there (ap (λ (s : Seen). s.number) b.is ∙ sym number ∙ ap (λ (s : Seen). s.number) (sym a.is)) (ap (λ (s : Seen). s.actor) b.is ∙ sym actor ∙ ap (λ (s : Seen). s.actor) (sym a.is))))
              | inr late2 ↦ (let b = from_mapped (λ (trip : TripTold). trip.seen) trips late2.0 other late2.2 in
                  let same = trips_differ late.0 late2.0 a.one b.one a.there b.there (ap (λ (s : Seen). s.number) a.is ∙ number ∙ ap (λ (s : Seen). s.number) (sym b.is)) (ap (λ (s : Seen). s.actor) a.is ∙ actor ∙ ap (λ (s : Seen). s.actor) (sym b.is)) in
                  omega (arith, same, late.1, late2.1))
            ])
      ]

  pub there : (root : List RootTold) → AreRoots words root → AreThere (seens_of devices trips) root
  there root are p seen e =
      elim (from_either (map (λ (device : DeviceTold). device.seen) devices) (map (λ (trip : TripTold). trip.seen) trips) p seen e) [
        | inl early ↦ (let a = from_mapped (λ (device : DeviceTold). device.seen) devices p seen early in
            subst (λ n. seen.number < n) (sym are.each) (subst (λ (s : Seen). s.number < length words) a.is (at_all (IsDevice words scenario.steps) devices p a.one roll.device a.there).of.guest))
        | inr late ↦ (let a = from_mapped (λ (trip : TripTold). trip.seen) trips late.0 seen late.2 in
            subst (λ n. seen.number < n) (sym are.each) (subst (λ (s : Seen). s.number < length words) a.is (at_all (IsTrip words scenario.lrs scenario.steps) trips late.0 a.one roll.trip a.there).of.guest))
      ]
