-- As a scenario opens, no vCPU stands on two PEs.
use Rattle.std.proofs.Common.{◌≡◌, ◌⊎◌, ℕ, zero, suc, ◌+◌, ◌≤◌, inl, inr, List, [], ◌∷◌, ◌++◌, length, map, Option, Some, sym, ap, ◌∙◌, subst, arith}
use Rattle.std.specs.Prelude.{slice_get}
use Rattle.std.specs.List.{range_with_len}
use Rattle.law_ends_agree.specs.Words.{GuestShape}
use Rattle.law_ends_agree.specs.ScnBase.declared.pes.VcpuName.{VcpuName}
use Rattle.law_ends_agree.specs.ScnBase.Standing.{opening_pes, vcpu_name, vcpus_from}
use Rattle.run_seq.specs.Agenda.{StandsOnce}

-- where something stands in a list is a mapped range

mapped_range : {X : Type 0} (f : ℕ → X) (start n i : ℕ) (x : X) → slice_get (map f (range_with_len start n)) i ≡ Some x → x ≡ f (start + i)
mapped_range f start zero i x e = absurd (cc)
mapped_range {X = X} f start (suc n) zero x e = subst (λ s. x ≡ f s) (omega arith) (head x e)
  where
    head : (x : X) → Some (f start) ≡ Some x → x ≡ f start
    head x e = cc
mapped_range f start (suc n) (suc i) x e = subst (λ s. x ≡ f s) (omega arith) (mapped_range f (start + 1) n i x e)

joined : {X : Type 0} (xs ys : List X) (i : ℕ) (x : X) → slice_get (xs ++ ys) i ≡ Some x → (slice_get xs i ≡ Some x) ⊎ ((j : ℕ) × (i ≡ length xs + j) × (slice_get ys j ≡ Some x))
joined [] ys i x e = inr (i, omega arith, e)
joined (y ∷ xs) ys zero x e = inl e
joined (y ∷ xs) ys (suc i) x e = elim (joined xs ys i x e) [
  | inl at ↦ inl at
  | inr at ↦ inr (at.0, omega (arith, at.1), at.2)
]

-- the vCPUs of a guest come once, and before those of later guests

later_guests : (shapes : List GuestShape) (guest i : ℕ) (name : VcpuName) → slice_get (vcpus_from guest shapes) i ≡ Some name → guest ≤ name.guest
later_guests [] guest i name e = absurd (cc)
later_guests (shape ∷ shapes) guest i name e = elim (joined (map (vcpu_name guest) (range_with_len 0 shape.vcpus)) (vcpus_from (guest + 1) shapes) i name e) [
  | inl at ↦ subst (λ (n : VcpuName). guest ≤ n.guest) (sym (mapped_range (vcpu_name guest) 0 shape.vcpus i name at)) (omega arith)
  | inr at ↦ let after = later_guests shapes (guest + 1) at.0 name at.2 in omega (arith, after)
]

number_of : (guest : ℕ) (n i : ℕ) (name : VcpuName) → slice_get (map (vcpu_name guest) (range_with_len 0 n)) i ≡ Some name → (name.guest ≡ guest) × (name.vcpu ≡ i)
number_of guest n i name e = let is = mapped_range (vcpu_name guest) 0 n i name e in (ap (λ (n : VcpuName). n.guest) is, ap (λ (n : VcpuName). n.vcpu) is ∙ omega arith)

pub names_once : (shapes : List GuestShape) (guest i j : ℕ) (name : VcpuName) → slice_get (vcpus_from guest shapes) i ≡ Some name → slice_get (vcpus_from guest shapes) j ≡ Some name → i ≡ j
names_once [] guest i j name a b = absurd (cc)
names_once (shape ∷ shapes) guest i j name a b =
    let own = map (vcpu_name guest) (range_with_len 0 shape.vcpus) in
    let later = vcpus_from (guest + 1) shapes in
    elim (joined own later i name a) [
      | inl first ↦
          elim (joined own later j name b) [
            | inl second ↦ sym (number_of guest shape.vcpus i name first).1 ∙ (number_of guest shape.vcpus j name second).1
            | inr second ↦ absurd (apart (number_of guest shape.vcpus i name first).0 (later_guests shapes (guest + 1) second.0 name second.2))
          ]
      | inr first ↦
          elim (joined own later j name b) [
            | inl second ↦ absurd (apart (number_of guest shape.vcpus j name second).0 (later_guests shapes (guest + 1) first.0 name first.2))
            | inr second ↦ first.1 ∙ ap (λ n. length own + n) (names_once shapes (guest + 1) first.0 second.0 name first.2 second.2) ∙ sym second.1
          ]
    ]
  where
    apart : name.guest ≡ guest → guest + 1 ≤ name.guest → ⊥
    apart same after = omega (arith, same, after)

found_in : (names : List VcpuName) (pes i : ℕ) (x : Option VcpuName) → slice_get (map (slice_get names) (range_with_len 0 pes)) i ≡ Some x → slice_get names i ≡ x
found_in names pes i x e = sym (mapped_range (slice_get names) 0 pes i x e ∙ ap (slice_get names) (omega arith))

pub opens_once : (pes : ℕ) (shapes : List GuestShape) → StandsOnce (opening_pes pes shapes)
opens_once pes shapes =
    record {
      same = λ one other name a b.
          let names = vcpus_from 0 shapes in
          names_once shapes 0 one other name (found_in names pes one (Some name) a) (found_in names pes other (Some name) b);
    }
