-- The vCPUs on the PEs.
use Rattle.std.proofs.Common.{◌≡◌, ℕ, zero, suc, ◌+◌, ◌<◌, List, [], ◌∷◌, ◌++◌, length, map, true, Option, Some, None, slice_get, get_or, drop, drop-cons, add-one, append_assoc, refl, sym, subst, arith}
use Rattle.std.specs.Bool.{IsTrue}
use Rattle.std.specs.List.{range_with_len, All}
use Rattle.std.specs.Option.{option_map_or}
use Rattle.std.proofs.lemmas.Bool.Decides.{nat_tests}
use Rattle.std.proofs.lemmas.List.Elements.{All-nil, All-append, All-map, All-get_or, All-from_get_or}
use Rattle.std.proofs.lemmas.List.FromFn.{map-range_with_len_more, get_or-range_with_len, length-range_with_len, length-map-range_with_len}
use Rattle.std.proofs.lemmas.Option.{get_or_from_slice_get, slice_get_within}
use Rattle.gic_guest.specs.Words.{GuestShape}
use Rattle.scn_base.specs.declared.pes.VcpuName.{VcpuName}
use Rattle.gic_guest.specs.declared.guest.GuestSpec.{GuestSpec}
use Rattle.scn_base.specs.Standing.{vcpu_name, vcpus_from, opening_pes, has_vcpu, ResidentsExist}
use Rattle.gic_guest.specs.Good.{shapes_of}

-- one vCPU more of a guest
pub vcpus_more : (guest n : ℕ) (before names : List VcpuName) → names ≡ before ++ map (vcpu_name guest) (range_with_len 0 n)
    → names ++ vcpu_name guest n ∷ [] ≡ before ++ map (vcpu_name guest) (range_with_len 0 (n + 1))
vcpus_more guest n before names so_far =
    let more = map-range_with_len_more (vcpu_name guest) 0 n n (omega arith) in
    rw (so_far, more, append_assoc)

abbrev first_and_rest : ℕ → List GuestSpec → List VcpuName
first_and_rest i guests = vcpus_from i (shapes_of guests)

-- the vCPUs of one guest more
pub guests_more : (guests : List GuestSpec) (i : ℕ) (guest : GuestSpec) (names all : List VcpuName) → i < length guests → guest ≡ get_or guests i guest
    → names ++ vcpus_from i (shapes_of (drop i guests)) ≡ all
    → (names ++ map (vcpu_name i) (range_with_len 0 guest.shape.vcpus)) ++ vcpus_from (i + 1) (shapes_of (drop (i + 1) guests)) ≡ all
guests_more guests i guest names all within is so_far =
    let first : drop i guests ≡ guest ∷ drop (i + 1) guests = rw (add-one, drop-cons guests i guest within, ← is) refl in
    let whole : names ++ vcpus_from i (shapes_of (guest ∷ drop (i + 1) guests)) ≡ all = subst (λ (rest : List GuestSpec). names ++ first_and_rest i rest ≡ all) first so_far in
    rw append_assoc whole

-- a number in a range passes where each below its end does
all_below : (P : ℕ → Type 0) (n : ℕ) → ((k : ℕ) → k < n → P k) → All P (range_with_len 0 n)
all_below P n each =
    All-from_get_or P (range_with_len 0 n) 0
    (λ k within.
    let below : k < n = omega (arith, length-range_with_len 0 n) in
    let same : get_or (range_with_len 0 n) k 0 ≡ k = rw (get_or-range_with_len 0 n k 0 below) (omega arith) in
    subst P (sym same) (each k below))

-- where a list goes on with an element and others, at some place
goes_on : {X : Type 0} (whole : List X) (n : ℕ) (x : X) (rest : List X) → drop n whole ≡ x ∷ rest → (slice_get whole n ≡ Some x) × (drop (suc n) whole ≡ rest)
goes_on [] zero x rest e = absurd cc
goes_on [] (suc n) x rest e = absurd cc
goes_on (y ∷ ys) zero x rest e = (cc, cc)
goes_on (y ∷ ys) (suc n) x rest e = goes_on ys n x rest e

-- the guest of a number has this vCPU
abbrev is_there : List GuestShape → VcpuName → Type 0
is_there shapes name = IsTrue (has_vcpu shapes name.guest name.vcpu)

-- each vCPU of the guests from a number on is there
all_there : (whole : List GuestShape) (guest : ℕ) (shapes : List GuestShape) → drop guest whole ≡ shapes → All (is_there whole) (vcpus_from guest shapes)
all_there whole guest [] e = All-nil (is_there whole)
all_there whole guest (shape ∷ shapes) e =
    let here = goes_on whole guest shape shapes e in
    let rest : drop (guest + 1) whole ≡ shapes = rw add-one here.1 in
    let found = here.0 in
    All-append (is_there whole) (map (vcpu_name guest) (range_with_len 0 shape.vcpus)) (vcpus_from (guest + 1) shapes)
    (All-map (is_there whole) (vcpu_name guest) (range_with_len 0 shape.vcpus)
    (all_below (λ vcpu. IsTrue (has_vcpu whole guest vcpu)) shape.vcpus (λ vcpu below. rw found (grind (arith, nat_tests)))))
    (all_there whole (guest + 1) shapes rest)

-- who is found in a list of those that are there is there
found_there : (shapes : List GuestShape) (names : List VcpuName) (found : Option VcpuName) (n : ℕ) → All (is_there shapes) names → found ≡ slice_get names n
    → IsTrue (option_map_or (λ name. has_vcpu shapes name.guest name.vcpu) found true)
found_there shapes names None n all e = refl
found_there shapes names (Some name) n all e =
    subst (is_there shapes) (get_or_from_slice_get names n name name (sym e)) (All-get_or (is_there shapes) names n name (slice_get_within names n name (sym e)) all)

-- whoever stands on a PE at the opening is there
pub residents_exist : (pes : ℕ) (shapes : List GuestShape) → ResidentsExist shapes (opening_pes pes shapes)
residents_exist pes shapes =
    let names = vcpus_from 0 shapes in
    All-map (λ (resident : Option VcpuName). IsTrue (option_map_or (λ name. has_vcpu shapes name.guest name.vcpu) resident true)) (slice_get names) (range_with_len 0 pes)
    (all_below (λ pe. IsTrue (option_map_or (λ name. has_vcpu shapes name.guest name.vcpu) (slice_get names pe) true)) pes
    (λ pe below. found_there shapes names (slice_get names pe) pe (all_there shapes 0 shapes refl) refl))

pub length-opening_pes : (pes : ℕ) (shapes : List GuestShape) → length (opening_pes pes shapes) ≡ pes
length-opening_pes pes shapes = length-map-range_with_len (slice_get (vcpus_from 0 shapes)) 0 pes

-- one PE more
pub pes_more : (shapes : List GuestShape) (names : List VcpuName) (residents longer : List (Option VcpuName)) (resident : Option VcpuName) (pe : ℕ) → names ≡ vcpus_from 0 shapes
    → residents ≡ opening_pes pe shapes → resident ≡ slice_get names pe → longer ≡ residents ++ resident ∷ [] → longer ≡ opening_pes (pe + 1) shapes
pes_more shapes names residents longer resident pe all so_far is added =
    let more = map-range_with_len_more (slice_get (vcpus_from 0 shapes)) 0 pe pe (omega arith) in
    rw (added, is, so_far, all) (sym more)
