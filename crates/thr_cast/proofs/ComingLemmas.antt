-- Who is there, as actors come.
use Rattle.std.proofs.Common.{◌≡◌, ℕ, ◌+◌, ◌<◌, All, false, List, [], ◌∷◌, ◌++◌, append-nil, length, length-append, take, sym, ap, subst, ◌∙◌, arith}
use Rattle.std.proofs.lemmas.Grind.{take_at_read}
use Rattle.std.proofs.lemmas.List.{append_assoc, map-append}
use Rattle.std.proofs.lemmas.List.Elements.{All-nil, All-cons, All-append}
use Rattle.std.proofs.lemmas.List.FromFn.{map-range_with_len_more}
use Rattle.thr_trip.specs.PortTable.Told.{WordsTold, no_words, words_at}
use Rattle.thr_trip.specs.declared.device.DeviceRun.{DeviceRun}
use Rattle.thr_trip.specs.declared.naming.Naming.{Ghosts}
use Rattle.thr_trip.specs.declared.trip.Trip.{Trip}
use Rattle.thr_trip.specs.Script.{all_vcpus, vcpus_of}
use Rattle.thr_trip.specs.Told.{device_told}
use Rattle.thr_trip.specs.VcpuShelf.Answer.{AreInPlace}
use Rattle.thr_trip.proofs.VcpuShelf.PlaceLemmas.{in_place_push}
use Rattle.thr_cast.specs.declared.cast.Cast.{Cast}
use Rattle.thr_cast.specs.Cast.{HasCast, first_devices, name_of, names_of}
use Rattle.thr_cast.specs.Names.{DeviceName, all_devices, devices_of}
use Rattle.thr_cast.proofs.NameLemmas.{all_devices_more, all_vcpus_more, length-vcpus_of}

module _ {J : Type 0} {run : Ghosts J} (words : List WordsTold) (guest : ℕ) (old new : Cast J run) where
  -- a vCPU
  pub vcpu_came : (vcpus : ℕ) (devices : List DeviceName) (trip : Trip J run) → HasCast words old guest vcpus devices → new.trips.items ≡ old.trips.items ++ trip ∷ [] → new.devices.items ≡ old.devices.items → trip.place ≡ length (all_vcpus (take guest words)) + vcpus
      → HasCast words new guest (vcpus + 1) devices
  vcpu_came vcpus devices trip cast pushed same place =
      let more = length-append old.trips.items (trip ∷ []) in
      let each = cast.each in
      let long : length new.trips.items ≡ length (old.trips.items ++ trip ∷ []) = ap length pushed in
      record {
        each = omega (arith, more, each, long);
        placed = subst (AreInPlace (λ (trip : Trip J run). trip.place)) (sym pushed) (in_place_push (λ (trip : Trip J run). trip.place) old.trips.items trip cast.placed (place ∙ sym cast.each));
        names = ap names_of same ∙ cast.names;
        fresh = subst (All (λ (device : DeviceRun J run). device.done ≡ false)) (sym same) cast.fresh;
      }

  -- a device
  pub device_came : (vcpus count : ℕ) (device : DeviceRun J run) → HasCast words old guest vcpus (first_devices guest count) → new.devices.items ≡ old.devices.items ++ device ∷ [] → new.trips.items ≡ old.trips.items → device.guest ≡ guest → device.device ≡ count → device.done ≡ false
      → HasCast words new guest vcpus (first_devices guest (count + 1))
  device_came vcpus count device cast pushed same guest_is number_is fresh =
      let Fresh : DeviceRun J run → Type 0 = λ device. device.done ≡ false in
      let name : ℕ → ℕ → DeviceName = λ guest device. record { guest = guest; device = device } in
      let longer : first_devices guest (count + 1) ≡ first_devices guest count ++ name guest count ∷ [] = map-range_with_len_more (name guest) 0 count count (omega arith) in
      let last : name_of (device_told device) ≡ name guest count = ap (λ g. name g device.device) guest_is ∙ ap (name guest) number_is in
      record {
        each = ap length same ∙ cast.each;
        placed = subst (AreInPlace (λ (trip : Trip J run). trip.place)) (sym same) cast.placed;
        names =
            ap names_of pushed ∙ map-append (λ (device : DeviceRun J run). name_of (device_told device)) old.devices.items (device ∷ []) ∙ ap (λ names. names ++ name_of (device_told device) ∷ []) cast.names
            ∙ ap (λ one. (all_devices (take guest words) ++ first_devices guest count) ++ one ∷ []) last ∙ append_assoc (all_devices (take guest words)) (first_devices guest count) (name guest count ∷ [])
            ∙ ap (λ names. all_devices (take guest words) ++ names) (sym longer);
        fresh = subst (All Fresh) (sym pushed) (All-append Fresh old.devices.items (device ∷ []) cast.fresh (All-cons Fresh device [] fresh (All-nil Fresh)));
      }

-- then the next guest
module _ {J : Type 0} {run : Ghosts J} (words : List WordsTold) (guest : ℕ) (cast : Cast J run) (there : guest < length words) (number : (words_at words guest).number ≡ guest) where
  one : WordsTold
  one = words_at words guest

  longer : take (guest + 1) words ≡ take guest words ++ one ∷ []
  unfolding one
  longer = (take_at_read words guest no_words there).1

  pub guest_came : HasCast words cast guest (words_at words guest).guest.shape.vcpus (first_devices guest (words_at words guest).guest.shape.devices) → HasCast words cast (guest + 1) 0 []
  unfolding one
  guest_came has =
      let vcpus : all_vcpus (take (guest + 1) words) ≡ all_vcpus (take guest words) ++ vcpus_of one
      = ap all_vcpus longer ∙ all_vcpus_more (take guest words) one in
      let devices : all_devices (take (guest + 1) words) ≡ all_devices (take guest words) ++ devices_of one
      = ap all_devices longer ∙ all_devices_more (take guest words) one in
      let long = ap length vcpus in
      let each = has.each in
      let same : first_devices guest one.guest.shape.devices ≡ devices_of one = ap (λ n. first_devices n one.guest.shape.devices) (sym number) in
      record {
        each = omega (arith, long, length-append (all_vcpus (take guest words)) (vcpus_of one), length-vcpus_of one, each);
        placed = has.placed;
        names = has.names ∙ ap (λ rest. all_devices (take guest words) ++ rest) same ∙ sym devices ∙ sym (append-nil (all_devices (take (guest + 1) words)));
        fresh = has.fresh;
      }
