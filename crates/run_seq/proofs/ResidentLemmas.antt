-- Which vCPUs stand on the PEs, as one enters or leaves.
use Rattle.std.proofs.Common.{◌≡◌, ◌≢◌, ◌⊎◌, ℕ, zero, suc, ◌<◌, ◌==◌, ◌&&◌, ◌||◌, not, Bool, true, false, inl, inr, List, [], ◌∷◌, length, set, Option, Some, None, refl, sym, ap, ◌∙◌, arith}
use Rattle.std.specs.Prelude.{slice_get}
use Rattle.std.proofs.lemmas.Bool.{eq-eqb, eqb-true, and_parts}
use Rattle.law_ends_agree.specs.ScnBase.declared.pes.VcpuName.{VcpuName}
use Rattle.law_ends_agree.specs.ScnBase.Standing.{is_resident, resident_of, vcpu_name}
use Rattle.law_ends_agree.specs.Calls.{passes}
use Rattle.run_seq.specs.Agenda.{StandsOnce}

-- a vCPU is the one of this number of the guest of that
abbrev pub is_named : ℕ → ℕ → VcpuName → Bool
is_named guest vcpu name = name.guest == guest && name.vcpu == vcpu

or_swap : (a b : Bool) (x : Bool) → (a || (b || x)) ≡ (b || (a || x))
or_swap true true x = refl
or_swap true false x = refl
or_swap false b x = refl

-- One enters a PE on which none stands.

pub enters_resident : (pes : List (Option VcpuName)) (pe guest vcpu : ℕ) (name : VcpuName) → pe < length pes → resident_of pes pe ≡ None → is_resident (set pes pe (Some name)) guest vcpu ≡ (is_named guest vcpu name || is_resident pes guest vcpu)
enters_resident [] pe guest vcpu name there none = absurd (omega (arith, there))
enters_resident (x ∷ pes) zero guest vcpu name there none = ap (λ o. is_named guest vcpu name || (passes (is_named guest vcpu) o || is_resident pes guest vcpu)) (sym none)
enters_resident (x ∷ pes) (suc pe) guest vcpu name there none =
    ap (λ b. passes (is_named guest vcpu) x || b) (enters_resident pes pe guest vcpu name (omega (arith, there)) none)
    ∙ or_swap (passes (is_named guest vcpu) x) (is_named guest vcpu name) (is_resident pes guest vcpu)

-- One that stands on a PE is resident, and one that is resident stands on one.

pub stands_resident : (pes : List (Option VcpuName)) (pe : ℕ) (name : VcpuName) → slice_get pes pe ≡ Some (Some name) → is_resident pes name.guest name.vcpu ≡ true
stands_resident [] pe name e = absurd (cc)
stands_resident (x ∷ pes) zero name e = of x e
  where
    of : (x : Option VcpuName) → Some x ≡ Some (Some name) → (passes (is_named name.guest name.vcpu) x || is_resident pes name.guest name.vcpu) ≡ true
    of None e = absurd (cc)
    of (Some other) e =
        let is : other ≡ name = cc in
        ap (λ (n : VcpuName). is_named name.guest name.vcpu n || is_resident pes name.guest name.vcpu) is
        ∙ ap (λ b. (b && name.vcpu == name.vcpu) || is_resident pes name.guest name.vcpu) (eq-eqb name.guest name.guest refl)
        ∙ ap (λ b. b || is_resident pes name.guest name.vcpu) (eq-eqb name.vcpu name.vcpu refl)
stands_resident (x ∷ pes) (suc pe) name e = ap (λ b. passes (is_named name.guest name.vcpu) x || b) (stands_resident pes pe name e) ∙ or_true (passes (is_named name.guest name.vcpu) x)
  where
    or_true : (b : Bool) → (b || true) ≡ true
    or_true true = refl
    or_true false = refl

pub record StandsOn (pes : List (Option VcpuName)) (guest vcpu : ℕ) : Type 0 where
  pub pe : ℕ
  pub is : slice_get pes pe ≡ Some (Some (vcpu_name guest vcpu))

pub named_is : (guest vcpu : ℕ) (name : VcpuName) → is_named guest vcpu name ≡ true → name ≡ vcpu_name guest vcpu
named_is guest vcpu name h =
    let both = and_parts (name.guest == guest) (name.vcpu == vcpu) h in
    ap (λ g. vcpu_name g name.vcpu) (eqb-true name.guest guest both.0) ∙ ap (vcpu_name guest) (eqb-true name.vcpu vcpu both.1)

pub resident_stands : (pes : List (Option VcpuName)) (guest vcpu : ℕ) → is_resident pes guest vcpu ≡ true → StandsOn pes guest vcpu
resident_stands [] guest vcpu h = absurd (cc)
resident_stands (x ∷ pes) guest vcpu h = of (resident_stands pes guest vcpu) x refl (passes (is_named guest vcpu) x) refl
  where
    of : (is_resident pes guest vcpu ≡ true → StandsOn pes guest vcpu) → (o : Option VcpuName) → x ≡ o → (b : Bool) → passes (is_named guest vcpu) o ≡ b → StandsOn (x ∷ pes) guest vcpu
    of later None e true p = absurd (cc)
    of later (Some name) e true p = record { pe = 0; is = ap Some (e ∙ ap Some (named_is guest vcpu name p)) }
    of later o e false p = let rest = later (sym (ap (λ b. b || is_resident pes guest vcpu) (ap (passes (is_named guest vcpu)) e ∙ p)) ∙ h) in record { pe = suc rest.pe; is = rest.is }

-- One leaves the PE on which it stands.

set_none_other : (pes : List (Option VcpuName)) (pe guest vcpu : ℕ) (name : VcpuName) → slice_get pes pe ≡ Some (Some name) → is_named guest vcpu name ≡ false → is_resident (set pes pe None) guest vcpu ≡ is_resident pes guest vcpu
set_none_other [] pe guest vcpu name e apart = absurd (cc)
set_none_other (x ∷ pes) zero guest vcpu name e apart =
    let is : x ≡ Some name = cc in
    sym (ap (λ o. passes (is_named guest vcpu) o || is_resident pes guest vcpu) is ∙ ap (λ b. b || is_resident pes guest vcpu) apart)
set_none_other (x ∷ pes) (suc pe) guest vcpu name e apart = ap (λ b. passes (is_named guest vcpu) x || b) (set_none_other pes pe guest vcpu name e apart)

set_none_at : (pes : List (Option VcpuName)) (pe other : ℕ) (name : VcpuName) → slice_get (set pes pe None) other ≡ Some (Some name) → (other ≢ pe) × (slice_get pes other ≡ Some (Some name))
set_none_at [] pe other name e = absurd (cc)
set_none_at (x ∷ pes) zero zero name e = absurd (cc)
set_none_at (x ∷ pes) zero (suc other) name e = (λ same. absurd (omega (arith, same)), e)
set_none_at (x ∷ pes) (suc pe) zero name e = (λ same. absurd (omega (arith, same)), e)
set_none_at (x ∷ pes) (suc pe) (suc other) name e = let rest = set_none_at pes pe other name e in (λ same. rest.0 (omega (arith, same)), rest.1)

not_resident : (b : Bool) → (b ≡ true → ⊥) → b ≡ false
not_resident true h = absurd (h refl)
not_resident false h = refl

pub leaves_resident : (pes : List (Option VcpuName)) (pe guest vcpu : ℕ) (name : VcpuName) → StandsOnce pes → slice_get pes pe ≡ Some (Some name) → is_resident (set pes pe None) guest vcpu ≡ (not (is_named guest vcpu name) && is_resident pes guest vcpu)
leaves_resident pes pe guest vcpu name once e = of (is_named guest vcpu name) refl
  where
    of : (b : Bool) → is_named guest vcpu name ≡ b → is_resident (set pes pe None) guest vcpu ≡ (not (is_named guest vcpu name) && is_resident pes guest vcpu)
    of false apart = set_none_other pes pe guest vcpu name e apart ∙ ap (λ b. not b && is_resident pes guest vcpu) (sym apart)
    of true same =
        not_resident (is_resident (set pes pe None) guest vcpu)
        (λ h.
        let at = resident_stands (set pes pe None) guest vcpu h in
        let there = set_none_at pes pe at.pe (vcpu_name guest vcpu) at.is in
        there.0 (once.same at.pe pe (vcpu_name guest vcpu) there.1 (e ∙ ap (λ n. Some (Some n)) (named_is guest vcpu name same))))
        ∙ ap (λ b. not b && is_resident pes guest vcpu) (sym same)

pub leaves_once : (pes : List (Option VcpuName)) (pe : ℕ) → StandsOnce pes → StandsOnce (set pes pe None)
leaves_once pes pe once = record { same = λ one other name a b. once.same one other name (set_none_at pes pe one name a).1 (set_none_at pes pe other name b).1 }

-- None stands on two PEs.

set_some_at : (pes : List (Option VcpuName)) (pe other : ℕ) (name one : VcpuName) → slice_get (set pes pe (Some one)) other ≡ Some (Some name) → ((other ≡ pe) × (name ≡ one)) ⊎ (slice_get pes other ≡ Some (Some name))
set_some_at [] pe other name one e = absurd (cc)
set_some_at (x ∷ pes) zero zero name one e = inl (refl, cc)
set_some_at (x ∷ pes) zero (suc other) name one e = inr e
set_some_at (x ∷ pes) (suc pe) zero name one e = inr e
set_some_at (x ∷ pes) (suc pe) (suc other) name one e = elim (set_some_at pes pe other name one e) [
  | inl both ↦ inl (ap suc both.0, both.1)
  | inr at ↦ inr at
]

pub enters_once : (pes : List (Option VcpuName)) (pe : ℕ) (one : VcpuName) → is_resident pes one.guest one.vcpu ≡ false → StandsOnce pes → StandsOnce (set pes pe (Some one))
enters_once pes pe one free once =
    record {
      same = λ a b name ea eb.
          elim (set_some_at pes pe a name one ea) [
            | inl first ↦
                elim (set_some_at pes pe b name one eb) [
                  | inl second ↦ first.0 ∙ sym second.0
                  | inr at ↦ absurd (stands name b at first.1)
                ]
            | inr at ↦
                elim (set_some_at pes pe b name one eb) [
                  | inl second ↦ absurd (stands name a at second.1)
                  | inr too ↦ once.same a b name at too
                ]
          ];
    }
  where
    never : true ≡ false → ⊥
    never e = cc

    stands : (name : VcpuName) (at : ℕ) → slice_get pes at ≡ Some (Some name) → name ≡ one → ⊥
    stands name at e same = never (sym (stands_resident pes at name e) ∙ ap (λ (n : VcpuName). is_resident pes n.guest n.vcpu) same ∙ free)
