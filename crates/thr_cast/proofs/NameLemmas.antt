-- The names of the actors of all guests: which there are, and that each is there once.
use Rattle.std.proofs.Common.{◌≡◌, ℕ, zero, suc, ◌+◌, ◌<◌, ◌⊎◌, inl, inr, List, [], ◌∷◌, ◌++◌, length, map, take, Some, refl, sym, ap, subst, ◌∙◌, arith}
use Rattle.std.specs.Prelude.{slice_get}
use Rattle.std.specs.List.{flat_map, range_with_len}
use Rattle.std.proofs.lemmas.Grind.{flat_map-append}
use Rattle.std.proofs.lemmas.List.{append-nil, length-append}
use Rattle.std.proofs.lemmas.List.FromFn.{get_or-map-range_with_len, length-map-range_with_len}
use Rattle.std.proofs.lemmas.Option.{get_or_from_slice_get, slice_get-get_or, slice_get_within}
use Rattle.thr_trip.specs.PortTable.Told.{WordsTold, no_words, words_at}
use Rattle.guest_end.specs.ScnBase.declared.pes.VcpuName.{VcpuName}
use Rattle.guest_end.specs.ScnBase.Standing.{vcpu_name}
use Rattle.thr_trip.specs.Script.{all_vcpus, vcpus_of}
use Rattle.thr_cast.specs.Names.{DeviceName, all_devices, devices_of}

-- Lists that were put together.

-- an element of one list and another is of the first, or it is of the second at so many places less
pub from_either : {X : Type 0} (xs ys : List X) (p : ℕ) (x : X) → slice_get (xs ++ ys) p ≡ Some x → (slice_get xs p ≡ Some x) ⊎ ((q : ℕ) × (p ≡ length xs + q) × (slice_get ys q ≡ Some x))
from_either [] ys p x e = inr (p, omega arith, e)
from_either (first ∷ xs) ys zero x e = inl e
from_either (first ∷ xs) ys (suc p) x e = elim (from_either xs ys p x e) [
  | inl early ↦ inl early
  | inr late ↦ inr (late.0, omega (arith, late.1), late.2)
]

pub of_second : {X : Type 0} (xs ys : List X) (q : ℕ) (x : X) → slice_get ys q ≡ Some x → slice_get (xs ++ ys) (length xs + q) ≡ Some x
of_second [] ys q x e = let same : 0 + q ≡ q = omega arith in rw same e
of_second (first ∷ xs) ys q x e = let same : suc (length xs) + q ≡ suc (length xs + q) = omega arith in rw same (of_second xs ys q x e)

pub of_first : {X : Type 0} (xs ys : List X) (p : ℕ) (x : X) → slice_get xs p ≡ Some x → slice_get (xs ++ ys) p ≡ Some x
of_first [] ys p x e = absurd (cc)
of_first (first ∷ xs) ys zero x e = e
of_first (first ∷ xs) ys (suc p) x e = of_first xs ys p x e

-- an element at a place of the lists of some: whose list it is of, and where in that
record IsOf {W X : Type 0} (f : W → List X) (ws : List W) (p : ℕ) (x : X) : Type 0 where
  pub number : ℕ
  pub one : W
  pub there : slice_get ws number ≡ Some one
  pub place : ℕ
  pub at : p ≡ length (flat_map f (take number ws)) + place
  pub own : slice_get (f one) place ≡ Some x

is_of : {W X : Type 0} (f : W → List X) (ws : List W) (p : ℕ) (x : X) → slice_get (flat_map f ws) p ≡ Some x → IsOf f ws p x
is_of f [] p x e = absurd (cc)
is_of f (w ∷ ws) p x e = elim (from_either (f w) (flat_map f ws) p x e) [
  | inl early ↦ record { number = 0; one = w; there = refl; place = p; at = omega arith; own = early }
  | inr late ↦
      (let rest = is_of f ws late.0 x late.2 in
      record {
        number = suc rest.number;
        one = rest.one;
        there = rest.there;
        place = rest.place;
        at = omega (arith, late.1, rest.at, length-append (f w) (flat_map f (take rest.number ws)));
        own = rest.own;
      })
]

pub has : {W X : Type 0} (f : W → List X) (ws : List W) (number place : ℕ) (one : W) (x : X) → slice_get ws number ≡ Some one → slice_get (f one) place ≡ Some x
    → slice_get (flat_map f ws) (length (flat_map f (take number ws)) + place) ≡ Some x
has f [] number place one x there own = absurd (cc)
has {W = W} {X = X} f (w ∷ ws) zero place one x there own =
    let same : one ≡ w = cc in
    let mine : slice_get (f w) place ≡ Some x = subst (λ (o : W). slice_get (f o) place ≡ Some x) same own in
    let none : 0 + place ≡ place = omega arith in
    rw none (of_first (f w) (flat_map f ws) place x mine)
has f (w ∷ ws) (suc number) place one x there own =
    let early = flat_map f (take number ws) in
    let same : length (f w ++ early) + place ≡ length (f w) + (length early + place) = omega (arith, length-append (f w) early) in
    ap (slice_get (f w ++ flat_map f ws)) same ∙ of_second (f w) (flat_map f ws) (length early + place) x (has f ws number place one x there own)

-- Numbers in a row.

row_get : {X : Type 0} (f : ℕ → X) (n k : ℕ) → k < n → slice_get (map f (range_with_len 0 n)) k ≡ Some (f k)
row_get f n k few =
    let within : k < length (map f (range_with_len 0 n)) = omega (arith, few, length-map-range_with_len f 0 n) in
    slice_get-get_or (map f (range_with_len 0 n)) k (f 0) within ∙ ap Some (get_or-map-range_with_len f 0 n k k (f 0) few (omega arith))

row_few : {X : Type 0} (f : ℕ → X) (n k : ℕ) (x : X) → slice_get (map f (range_with_len 0 n)) k ≡ Some x → k < n
row_few f n k x e = omega (arith, slice_get_within (map f (range_with_len 0 n)) k x e, length-map-range_with_len f 0 n)

row_is : {X : Type 0} (f : ℕ → X) (n k : ℕ) (x : X) → slice_get (map f (range_with_len 0 n)) k ≡ Some x → f k ≡ x
row_is f n k x e = sym (get_or-map-range_with_len f 0 n k k x (row_few f n k x e) (omega arith)) ∙ get_or_from_slice_get (map f (range_with_len 0 n)) k x x e

-- Guests by their numbers.

-- each guest's number is its place
abbrev pub AreNumbered : List WordsTold → Type 0
AreNumbered words = (number : ℕ) → number < length words → (words_at words number).number ≡ number

words_found : (words : List WordsTold) (number : ℕ) (one : WordsTold) → slice_get words number ≡ Some one → words_at words number ≡ one
words_found words number one e = get_or_from_slice_get words number one no_words e

-- The vCPUs.

pub length-vcpus_of : (words : WordsTold) → length (vcpus_of words) ≡ words.guest.shape.vcpus
length-vcpus_of words = length-map-range_with_len (vcpu_name words.number) 0 words.guest.shape.vcpus

pub vcpus_of_at : (words : WordsTold) (vcpu : ℕ) → vcpu < words.guest.shape.vcpus → slice_get (vcpus_of words) vcpu ≡ Some (record { guest = words.number; vcpu = vcpu })
vcpus_of_at words vcpu few = row_get (vcpu_name words.number) words.guest.shape.vcpus vcpu few

-- one guest more
pub all_vcpus_more : (words : List WordsTold) (one : WordsTold) → all_vcpus (words ++ one ∷ []) ≡ all_vcpus words ++ vcpus_of one
all_vcpus_more words one = flat_map-append vcpus_of words (one ∷ []) ∙ ap (λ (late : List VcpuName). all_vcpus words ++ late) (append-nil (vcpus_of one))

-- each vCPU is there: past those of the guests before its own, and of its own those before it
pub vcpu_place : (words : List WordsTold) (number vcpu : ℕ) → AreNumbered words → number < length words → vcpu < (words_at words number).guest.shape.vcpus
    → slice_get (all_vcpus words) (length (all_vcpus (take number words)) + vcpu) ≡ Some (record { guest = number; vcpu = vcpu })
vcpu_place words number vcpu numbered there few =
    let one = words_at words number in
    let own : slice_get (vcpus_of one) vcpu ≡ Some (vcpu_name number vcpu) = vcpus_of_at one vcpu few ∙ ap (λ (n : ℕ). Some (vcpu_name n vcpu)) (numbered number there) in
    has vcpus_of words number vcpu one (vcpu_name number vcpu) (slice_get-get_or words number no_words there) own

pub vcpu_there : (words : List WordsTold) (number vcpu : ℕ) → AreNumbered words → number < length words → vcpu < (words_at words number).guest.shape.vcpus
    → (p : ℕ) × (slice_get (all_vcpus words) p ≡ Some (record { guest = number; vcpu = vcpu })) × (p < length (all_vcpus words))
vcpu_there words number vcpu numbered there few =
    let found = vcpu_place words number vcpu numbered there few in
    let place = length (all_vcpus (take number words)) + vcpu in
    (place, found, slice_get_within (all_vcpus words) place (vcpu_name number vcpu) found)

-- each name is that of a vCPU of its guest, and stands in its place
pub record IsVcpuOf (words : List WordsTold) (p : ℕ) (name : VcpuName) : Type 0 where
  pub guest : name.guest < length words
  pub vcpu : name.vcpu < (words_at words name.guest).guest.shape.vcpus
  pub place : p ≡ length (all_vcpus (take name.guest words)) + name.vcpu

pub vcpu_named : (words : List WordsTold) (p : ℕ) (name : VcpuName) → AreNumbered words → slice_get (all_vcpus words) p ≡ Some name → IsVcpuOf words p name
vcpu_named words p name numbered e =
    let found = is_of vcpus_of words p name e in
    let one = found.one in
    let within : found.number < length words = slice_get_within words found.number one found.there in
    let one_is : words_at words found.number ≡ one = words_found words found.number one found.there in
    let few : found.place < one.guest.shape.vcpus = row_few (vcpu_name one.number) one.guest.shape.vcpus found.place name found.own in
    let is : vcpu_name one.number found.place ≡ name = row_is (vcpu_name one.number) one.guest.shape.vcpus found.place name found.own in
    let guest_is : name.guest ≡ found.number = ap (λ (n : VcpuName). n.guest) (sym is) ∙ ap (λ (w : WordsTold). w.number) (sym one_is) ∙ numbered found.number within in
    let vcpu_is : name.vcpu ≡ found.place = ap (λ (n : VcpuName). n.vcpu) (sym is) in
    let below : name.vcpu < one.guest.shape.vcpus = omega (arith, few, vcpu_is) in
    record {
      guest = omega (arith, within, guest_is);
      vcpu =
          subst (λ (n : ℕ). name.vcpu < (words_at words n).guest.shape.vcpus) (sym guest_is)
          (subst (λ (w : WordsTold). name.vcpu < w.guest.shape.vcpus) (sym one_is) below);
      place = found.at ∙ ap (λ (n : ℕ). length (all_vcpus (take n words)) + found.place) (sym guest_is) ∙ ap (λ (n : ℕ). length (all_vcpus (take name.guest words)) + n) (sym vcpu_is);
    }

-- each name is there once
pub vcpus_apart : (words : List WordsTold) (i j : ℕ) (name : VcpuName) → AreNumbered words → slice_get (all_vcpus words) i ≡ Some name → slice_get (all_vcpus words) j ≡ Some name → i ≡ j
vcpus_apart words i j name numbered at_i at_j = (vcpu_named words i name numbered at_i).place ∙ sym (vcpu_named words j name numbered at_j).place

-- The devices.

abbrev device_name : ℕ → ℕ → DeviceName
device_name guest device = record { guest = guest; device = device }

pub length-devices_of : (words : WordsTold) → length (devices_of words) ≡ words.guest.shape.devices
length-devices_of words = length-map-range_with_len (device_name words.number) 0 words.guest.shape.devices

pub devices_of_at : (words : WordsTold) (device : ℕ) → device < words.guest.shape.devices → slice_get (devices_of words) device ≡ Some (record { guest = words.number; device = device })
devices_of_at words device few = row_get (device_name words.number) words.guest.shape.devices device few

-- one guest more
pub all_devices_more : (words : List WordsTold) (one : WordsTold) → all_devices (words ++ one ∷ []) ≡ all_devices words ++ devices_of one
all_devices_more words one = flat_map-append devices_of words (one ∷ []) ∙ ap (λ (late : List DeviceName). all_devices words ++ late) (append-nil (devices_of one))

-- each device is there: past those of the guests before its own, and of its own those before it
pub device_place : (words : List WordsTold) (number device : ℕ) → AreNumbered words → number < length words → device < (words_at words number).guest.shape.devices
    → slice_get (all_devices words) (length (all_devices (take number words)) + device) ≡ Some (record { guest = number; device = device })
device_place words number device numbered there few =
    let one = words_at words number in
    let own : slice_get (devices_of one) device ≡ Some (device_name number device) = devices_of_at one device few ∙ ap (λ (n : ℕ). Some (device_name n device)) (numbered number there) in
    has devices_of words number device one (device_name number device) (slice_get-get_or words number no_words there) own

pub device_there : (words : List WordsTold) (number device : ℕ) → AreNumbered words → number < length words → device < (words_at words number).guest.shape.devices
    → (p : ℕ) × (slice_get (all_devices words) p ≡ Some (record { guest = number; device = device })) × (p < length (all_devices words))
device_there words number device numbered there few =
    let found = device_place words number device numbered there few in
    let place = length (all_devices (take number words)) + device in
    (place, found, slice_get_within (all_devices words) place (device_name number device) found)

-- each name is that of a device of its guest, and stands in its place
pub record IsDeviceOf (words : List WordsTold) (p : ℕ) (name : DeviceName) : Type 0 where
  pub guest : name.guest < length words
  pub device : name.device < (words_at words name.guest).guest.shape.devices
  pub place : p ≡ length (all_devices (take name.guest words)) + name.device

pub device_named : (words : List WordsTold) (p : ℕ) (name : DeviceName) → AreNumbered words → slice_get (all_devices words) p ≡ Some name → IsDeviceOf words p name
device_named words p name numbered e =
    let found = is_of devices_of words p name e in
    let one = found.one in
    let within : found.number < length words = slice_get_within words found.number one found.there in
    let one_is : words_at words found.number ≡ one = words_found words found.number one found.there in
    let few : found.place < one.guest.shape.devices = row_few (device_name one.number) one.guest.shape.devices found.place name found.own in
    let is : device_name one.number found.place ≡ name = row_is (device_name one.number) one.guest.shape.devices found.place name found.own in
    let guest_is : name.guest ≡ found.number = ap (λ (n : DeviceName). n.guest) (sym is) ∙ ap (λ (w : WordsTold). w.number) (sym one_is) ∙ numbered found.number within in
    let device_is : name.device ≡ found.place = ap (λ (n : DeviceName). n.device) (sym is) in
    let below : name.device < one.guest.shape.devices = omega (arith, few, device_is) in
    record {
      guest = omega (arith, within, guest_is);
      device =
          subst (λ (n : ℕ). name.device < (words_at words n).guest.shape.devices) (sym guest_is)
          (subst (λ (w : WordsTold). name.device < w.guest.shape.devices) (sym one_is) below);
      place = found.at ∙ ap (λ (n : ℕ). length (all_devices (take n words)) + found.place) (sym guest_is) ∙ ap (λ (n : ℕ). length (all_devices (take name.guest words)) + n) (sym device_is);
    }

-- each name is there once
pub devices_apart : (words : List WordsTold) (i j : ℕ) (name : DeviceName) → AreNumbered words → slice_get (all_devices words) i ≡ Some name → slice_get (all_devices words) j ≡ Some name → i ≡ j
devices_apart words i j name numbered at_i at_j = (device_named words i name numbered at_i).place ∙ sym (device_named words j name numbered at_j).place
