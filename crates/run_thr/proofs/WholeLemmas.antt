-- From what the calls of a run say, one after the other: who was there at first, and that the run was done.
use Rattle.std.proofs.Common.{◌≡◌, ℕ, ◌<◌, All, List, [], ◌∷◌, append-nil, length, length-append, map, take, get_or, Option, refl, sym, ap, subst, ◌∙◌, arith}
use Rattle.std.specs.Prelude.{◌^◌}
use Rattle.std.proofs.Math.Seq.{take-length}
use Rattle.std.proofs.lemmas.List.Elements.{All-get_or}
use Rattle.law_threads_are_history.specs.IdealGuests.Opening.{opening as opening_guest}
use Rattle.law_threads_are_history.specs.Histories.{IdealGuest}
use Rattle.law_threads_are_history.specs.PortOps.Opened.{no_guest}
use Rattle.thr_cast.specs.PortTable.Told.{RootTold, WordsTold, words_at}
use Rattle.law_threads_are_history.specs.Calls.{IsGoodGuest}
use Rattle.law_threads_are_history.specs.ScnBase.declared.scenario.Scenario.{Scenario}
use Rattle.law_threads_are_history.specs.ScnBase.declared.step.Step.{Step}
use Rattle.thr_cast.specs.declared.cast.Cast.{Cast}
use Rattle.thr_cast.specs.Back.{trips_in}
use Rattle.thr_cast.specs.Cast.{HasCast, name_of, names_of}
use Rattle.thr_cast.specs.Crew.{devices_in, joined_all}
use Rattle.thr_cast.specs.Names.{DeviceName, all_devices}
use Rattle.thr_cast.specs.Set.{IsSet}
use Rattle.thr_cast.proofs.CastLemmas.{few_places}
use Rattle.thr_cast.proofs.NameLemmas.{length-vcpus_of}
use Rattle.thr_cast.specs.ThrTrip.declared.device.DeviceRun.{DeviceRun}
use Rattle.thr_cast.specs.ThrTrip.declared.naming.Naming.{Ghosts}
use Rattle.thr_cast.specs.ThrTrip.declared.trip.Trip.{Trip}
use Rattle.thr_cast.specs.ThrTrip.Device.{DeviceTold, IsDevice}
use Rattle.thr_cast.specs.ThrTrip.Script.{all_vcpus, vcpus_of}
use Rattle.thr_cast.specs.ThrTrip.Told.{device_told}
use Rattle.thr_cast.specs.ThrTrip.Trip.{IsTrip, TripTold}
use Rattle.thr_cast.specs.VcpuShelf.Told.{ShelfTold}
use Rattle.run_thr.specs.Returned.{HaveReturned}
use Rattle.run_thr.proofs.CrewLemmas.{AllCame, Hand}
use Rattle.run_thr.proofs.JoinLemmas.{joined_after}
use Rattle.run_thr.proofs.RollLemmas.{Roll, seens_of}

-- a good scenario has a vCPU
some_vcpu : (scenario : Scenario) (words : List WordsTold) → IsSet scenario words → 0 < length (all_vcpus words)
some_vcpu scenario words set = of words set.each (λ there. set.guest 0 there)
  where
    good : IsGoodGuest (get_or scenario.guests 0 no_guest)
    good = All-get_or IsGoodGuest scenario.guests 0 no_guest (let some = set.good.some_guest in omega (arith, some)) set.good.each_guest

    of : (words : List WordsTold) → length words ≡ length scenario.guests → (0 < length words → (words_at words 0).guest ≡ opening_guest (get_or scenario.guests 0 no_guest)) → 0 < length (all_vcpus words)
    of [] each guest = let some = set.good.some_guest in absurd (omega (arith, some, each))
    of (one ∷ words) each guest =
        let some = good.shape.some_vcpu in
        let vcpus : one.guest.shape.vcpus ≡ (get_or scenario.guests 0 no_guest).shape.vcpus = ap (λ (g : IdealGuest). g.shape.vcpus) (guest (omega arith)) in
        omega (arith, length-append (vcpus_of one) (all_vcpus words), length-vcpus_of one, vcpus, some)

-- all actors of a run
module _ {J : Type 0} {run : Ghosts J} (scenario : Scenario) (words : List WordsTold) (set : IsSet scenario words) (cast : Cast J run) (has : HasCast words cast (length words) 0 []) where
  pub cast_count : length cast.trips.items ≡ length (all_vcpus words)
  cast_count = let whole = ap (λ (ws : List WordsTold). length (all_vcpus ws)) (take-length words) in let each = has.each in omega (arith, whole, each)

  pub cast_some : 0 < length cast.trips.items
  cast_some = subst (λ n. 0 < n) (sym cast_count) (some_vcpu scenario words set)

  pub cast_few : length cast.trips.items < 2 ^ 32
  cast_few = let few = few_places scenario words set (length words) in let each = has.each in omega (arith, few, each)

  cast_names : names_of cast.devices.items ≡ all_devices words
  cast_names = has.names ∙ append-nil (all_devices (take (length words) words)) ∙ ap all_devices (take-length words)

-- the devices that have a thread are those of the cast
told_names : {J : Type 0} {run : Ghosts J} (devices : List (DeviceRun J run)) → map name_of (map device_told devices) ≡ names_of devices
told_names [] = refl
told_names (device ∷ devices) = ap (λ (names : List DeviceName). name_of (device_told device) ∷ names) (told_names devices)

-- what the run ended with
module _ {J : Type 0} {run : Ghosts J} (scenario : Scenario) (words : List WordsTold) (lrs : ℕ) (steps : List Step) (set : IsSet scenario words) (lrs_is : scenario.lrs ≡ lrs) (steps_are : scenario.steps ≡ steps) (cast : Cast J run) (has : HasCast words cast (length words) 0 []) where
  pub roll_of :
      (shelf : ShelfTold) (old new : List (Hand J run)) (slots : List (Option (Trip J run))) → devices_in old ≡ map device_told cast.devices.items → HaveReturned shelf old new → All (IsDevice words steps) (devices_in new)
      → AllCame (length cast.trips.items) slots → All (IsTrip words lrs steps) (trips_in slots) → Roll scenario words (devices_in new) (trips_in slots)
  roll_of shelf old new slots devices_are returned device came trip = record {
    set = set;
    names = returned.names ∙ ap (map name_of) devices_are ∙ told_names cast.devices.items ∙ cast_names scenario words set cast has;
    device = subst (λ (s : List Step). All (IsDevice words s) (devices_in new)) (sym steps_are) device;
    finished = returned.finished;
    count = came.count ∙ cast_count scenario words set cast has;
    trip = subst (λ (s : List Step). All (IsTrip words scenario.lrs s) (trips_in slots)) (sym steps_are) (subst (λ n. All (IsTrip words n steps) (trips_in slots)) (sym lrs_is) trip);
    placed = came.placed;
    done = came.done;
  }

-- the roots after all were joined, devices first
pub joined_both : (devices : List DeviceTold) (trips : List TripTold) (first middle last : List RootTold) → middle ≡ joined_all (map (λ device. device.seen) devices) first → last ≡ joined_all (map (λ trip. trip.seen) trips) middle → last ≡ joined_all (seens_of devices trips) first
joined_both devices trips first middle last early late =
    late ∙ ap (joined_all (map (λ (trip : TripTold). trip.seen) trips)) early ∙ sym (joined_after (map (λ (device : DeviceTold). device.seen) devices) (map (λ (trip : TripTold). trip.seen) trips) first)
