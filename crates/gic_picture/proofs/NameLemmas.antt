-- The interrupts and the vCPUs that are named are there.
use Rattle.std.proofs.Common.{◌≡◌, ℕ, zero, suc, ◌+◌, ◌<◌, List, [], ◌∷◌, All, IsTrue, map, Some, slice_get, get_or, drop, add-one, refl, sym, subst, arith}
use Rattle.std.specs.List.{range_with_len}
use Rattle.std.proofs.lemmas.Bool.Decides.{nat_tests}
use Rattle.std.proofs.lemmas.List.Elements.{All-nil, All-append, All-map, All-from_get_or}
use Rattle.std.proofs.lemmas.List.FromFn.{get_or-range_with_len, length-range_with_len}
use Rattle.ideal_guest.specs.Words.{GuestShape, interrupt_count}
use Rattle.ideal_guest.proofs.GicCall.PartLemmas.{key_at_there}
use Rattle.scn_base.specs.declared.pes.VcpuName.{VcpuName}
use Rattle.scn_base.specs.Standing.{vcpu_name, vcpus_from, has_vcpu}
use Rattle.gic_picture.specs.declared.names.IrqName.{IrqName}
use Rattle.gic_picture.specs.Names.{irq_name, names_from, is_there}

-- a number in a range passes where each below its end does
all_below : (P : ℕ → Type 0) (n : ℕ) → ((k : ℕ) → k < n → P k) → All P (range_with_len 0 n)
all_below P n each =
    All-from_get_or P (range_with_len 0 n) 0
    (λ k within.
    let below : k < n = omega (arith, length-range_with_len 0 n) in
    let same : get_or (range_with_len 0 n) k 0 ≡ k = rw (get_or-range_with_len 0 n k 0 below) (omega arith) in
    subst P (sym same) (each k below))

-- where a list goes on with an element and others, at some place
goes_on : {X : Type 0} (whole : List X) (n : ℕ) (x : X) (rest : List X) → drop n whole ≡ x ∷ rest → (slice_get whole n ≡ Some x) × (drop (suc n) whole ≡ rest)
goes_on [] zero x rest e = absurd cc
goes_on [] (suc n) x rest e = absurd cc
goes_on (y ∷ ys) zero x rest e = (cc, cc)
goes_on (y ∷ ys) (suc n) x rest e = goes_on ys n x rest e

abbrev pub IsThere : List GuestShape → IrqName → Type 0
IsThere shapes name = IsTrue (is_there shapes name)

abbrev pub HasVcpu : List GuestShape → VcpuName → Type 0
HasVcpu shapes name = IsTrue (has_vcpu shapes name.guest name.vcpu)

-- each interrupt of the guests from a number on is there
irqs_from : (whole : List GuestShape) (guest : ℕ) (shapes : List GuestShape) → drop guest whole ≡ shapes → All (IsThere whole) (names_from guest shapes)
irqs_from whole guest [] e = All-nil (IsThere whole)
irqs_from whole guest (shape ∷ shapes) e =
    let here = goes_on whole guest shape shapes e in
    let rest : drop (guest + 1) whole ≡ shapes = rw add-one here.1 in
    let found = here.0 in
    All-append (IsThere whole) (map (irq_name guest shape) (range_with_len 0 (interrupt_count shape))) (names_from (guest + 1) shapes)
    (All-map (IsThere whole) (irq_name guest shape) (range_with_len 0 (interrupt_count shape))
    (all_below (λ place. IsTrue (is_there whole (irq_name guest shape place))) (interrupt_count shape) (λ place below. rw found (key_at_there shape place below))))
    (irqs_from whole (guest + 1) shapes rest)

pub irqs_there : (shapes : List GuestShape) → All (IsThere shapes) (names_from 0 shapes)
irqs_there shapes = irqs_from shapes 0 shapes refl

-- each vCPU of the guests from a number on is there
vcpus_there_from : (whole : List GuestShape) (guest : ℕ) (shapes : List GuestShape) → drop guest whole ≡ shapes → All (HasVcpu whole) (vcpus_from guest shapes)
vcpus_there_from whole guest [] e = All-nil (HasVcpu whole)
vcpus_there_from whole guest (shape ∷ shapes) e =
    let here = goes_on whole guest shape shapes e in
    let rest : drop (guest + 1) whole ≡ shapes = rw add-one here.1 in
    let found = here.0 in
    All-append (HasVcpu whole) (map (vcpu_name guest) (range_with_len 0 shape.vcpus)) (vcpus_from (guest + 1) shapes)
    (All-map (HasVcpu whole) (vcpu_name guest) (range_with_len 0 shape.vcpus)
    (all_below (λ vcpu. IsTrue (has_vcpu whole guest vcpu)) shape.vcpus (λ vcpu below. rw found (grind (arith, nat_tests)))))
    (vcpus_there_from whole (guest + 1) shapes rest)

pub vcpus_there : (shapes : List GuestShape) → All (HasVcpu shapes) (vcpus_from 0 shapes)
vcpus_there shapes = vcpus_there_from shapes 0 shapes refl
