-- Where vCPUs stand on PEs in the midst of a run: each is one of the guests', and on one PE at most.
use Rattle.std.proofs.Common.{◌≡◌, ◌≢◌, ◌⊎◌, ℕ, zero, suc, ◌+◌, ◌≤◌, ◌==◌, ◌&&◌, ◌||◌, not, nat_lt, inl, inr, Bool, true, false, IsTrue, is_none, List, [], ◌∷◌, ◌++◌, length, map, Option, Some, None, refl, sym, ap, ◌∙◌, subst, arith}
use Rattle.std.specs.Prelude.{slice_get, slice_set}
use Rattle.std.specs.Option.{option_map_or}
use Rattle.std.specs.List.{range_with_len}
use Rattle.std.proofs.lemmas.Bool.{and_parts, eq-eqb, eqb-true}
use Rattle.std.proofs.lemmas.Bool.Decides.{eqb_tells}
use Rattle.std.proofs.lemmas.List.{length-set}
use Rattle.std.proofs.lemmas.List.Elements.{All-set}
use Rattle.eager_rest.specs.LawSavesGoOn.RunsSplit.GicIdeal.IdealGuests.Words.{GuestShape, Enter, Exit, Lrs}
use Rattle.eager_rest.specs.LawSavesGoOn.RunsSplit.GicIdeal.IdealGuests.Calls.{passes}
use Rattle.eager_rest.specs.LawSavesGoOn.RunsSplit.GicIdeal.ScnBase.declared.pes.VcpuName.{VcpuName}
use Rattle.eager_rest.specs.LawSavesGoOn.RunsSplit.GicIdeal.ScnBase.declared.standing.Standing.{Standing}
use Rattle.eager_rest.specs.LawSavesGoOn.RunsSplit.GicIdeal.ScnBase.declared.step.Step.{Step}
use Rattle.eager_rest.specs.LawSavesGoOn.RunsSplit.GicIdeal.ScnBase.declared.step.Step.TheVariants.{Vcpu, Device, Pe}
use Rattle.eager_rest.specs.LawSavesGoOn.RunsSplit.GicIdeal.ScnBase.declared.step.Mode.TheVariants.{Schedule}
use Rattle.eager_rest.specs.LawSavesGoOn.RunsSplit.GicIdeal.ScnBase.Good.{is_threads, is_formed, stands}
use Rattle.eager_rest.specs.LawSavesGoOn.RunsSplit.GicIdeal.ScnBase.Standing.{opening_pes, vcpu_name, vcpus_from, pes_after, ResidentsExist, is_resident, has_vcpu, resident_of}
use Rattle.eager_rest.specs.SavedCheck.SavedGuest.Whole.{stand_once}

-- where something stands in a list is a mapped range

mapped_range : {X : Type 0} (f : ℕ → X) (start n i : ℕ) (x : X) → slice_get (map f (range_with_len start n)) i ≡ Some x → x ≡ f (start + i)
mapped_range f start zero i x e = absurd (cc)
mapped_range {X = X} f start (suc n) zero x e = subst (λ s. x ≡ f s) (omega arith) (head x e)
  where
    head : (x : X) → Some (f start) ≡ Some x → x ≡ f start
    head x e = cc
mapped_range f start (suc n) (suc i) x e = subst (λ s. x ≡ f s) (omega arith) (mapped_range f (start + 1) n i x e)

joined : {X : Type 0} (xs ys : List X) (i : ℕ) (x : X) → slice_get (xs ++ ys) i ≡ Some x → (slice_get xs i ≡ Some x) ⊎ ((j : ℕ) × (i ≡ length xs + j) × (slice_get ys j ≡ Some x))
joined [] ys i x e = inr (i, omega arith, e)
joined (y ∷ xs) ys zero x e = inl e
joined (y ∷ xs) ys (suc i) x e = elim (joined xs ys i x e) [
  | inl at ↦ inl at
  | inr at ↦ inr (at.0, omega (arith, at.1), at.2)
]

-- the vCPUs of a guest come once, and before those of later guests

later_guests : (shapes : List GuestShape) (guest i : ℕ) (name : VcpuName) → slice_get (vcpus_from guest shapes) i ≡ Some name → guest ≤ name.guest
later_guests [] guest i name e = absurd (cc)
later_guests (shape ∷ shapes) guest i name e = elim (joined (map (vcpu_name guest) (range_with_len 0 shape.vcpus)) (vcpus_from (guest + 1) shapes) i name e) [
  | inl at ↦ subst (λ (n : VcpuName). guest ≤ n.guest) (sym (mapped_range (vcpu_name guest) 0 shape.vcpus i name at)) (omega arith)
  | inr at ↦ let after = later_guests shapes (guest + 1) at.0 name at.2 in omega (arith, after)
]

number_of : (guest : ℕ) (n i : ℕ) (name : VcpuName) → slice_get (map (vcpu_name guest) (range_with_len 0 n)) i ≡ Some name → (name.guest ≡ guest) × (name.vcpu ≡ i)
number_of guest n i name e = let is = mapped_range (vcpu_name guest) 0 n i name e in (ap (λ (n : VcpuName). n.guest) is, ap (λ (n : VcpuName). n.vcpu) is ∙ omega arith)

names_once : (shapes : List GuestShape) (guest i j : ℕ) (name : VcpuName) → slice_get (vcpus_from guest shapes) i ≡ Some name → slice_get (vcpus_from guest shapes) j ≡ Some name → i ≡ j
names_once [] guest i j name a b = absurd (cc)
names_once (shape ∷ shapes) guest i j name a b =
    let own = map (vcpu_name guest) (range_with_len 0 shape.vcpus) in
    let later = vcpus_from (guest + 1) shapes in
    elim (joined own later i name a) [
      | inl first ↦
          elim (joined own later j name b) [
            | inl second ↦ sym (number_of guest shape.vcpus i name first).1 ∙ (number_of guest shape.vcpus j name second).1
            | inr second ↦ absurd (apart (number_of guest shape.vcpus i name first).0 (later_guests shapes (guest + 1) second.0 name second.2))
          ]
      | inr first ↦
          elim (joined own later j name b) [
            | inl second ↦ absurd (apart (number_of guest shape.vcpus j name second).0 (later_guests shapes (guest + 1) first.0 name first.2))
            | inr second ↦ first.1 ∙ ap (λ n. length own + n) (names_once shapes (guest + 1) first.0 second.0 name first.2 second.2) ∙ sym second.1
          ]
    ]
  where
    apart : name.guest ≡ guest → guest + 1 ≤ name.guest → ⊥
    apart same after = omega (arith, same, after)

found_in : (names : List VcpuName) (pes i : ℕ) (x : Option VcpuName) → slice_get (map (slice_get names) (range_with_len 0 pes)) i ≡ Some x → slice_get names i ≡ x
found_in names pes i x e = sym (mapped_range (slice_get names) 0 pes i x e ∙ ap (slice_get names) (omega arith))

-- ---- each on one PE at most

pub IsOnce : List (Option VcpuName) → Type 0
IsOnce pes = (one other : ℕ) (name : VcpuName) → slice_get pes one ≡ Some (Some name) → slice_get pes other ≡ Some (Some name) → one ≡ other

pub opens_once : (pes : ℕ) (shapes : List GuestShape) → IsOnce (opening_pes pes shapes)
unfolding IsOnce
opens_once pes shapes = λ one other name a b.
    let names = vcpus_from 0 shapes in
    names_once shapes 0 one other name (found_in names pes one (Some name) a) (found_in names pes other (Some name) b)

same_name : (a b : VcpuName) → Some (Some a) ≡ Some (Some b) → a ≡ b
same_name a b e = cc

-- what stands after one is put
put_here : {X : Type 0} (xs : List X) (n : ℕ) (x y : X) → slice_get (slice_set xs n x) n ≡ Some y → x ≡ y
put_here [] n x y e = absurd (cc)
put_here {X} (z ∷ xs) zero x y e = of e
  where
    of : Some x ≡ Some y → x ≡ y
    of e = cc
put_here (z ∷ xs) (suc n) x y e = put_here xs n x y e

put_other : {X : Type 0} (xs : List X) (n m : ℕ) (x : X) → m ≢ n → slice_get (slice_set xs n x) m ≡ slice_get xs m
put_other [] n m x differ = refl
put_other (z ∷ xs) zero zero x differ = absurd (differ refl)
put_other (z ∷ xs) zero (suc m) x differ = refl
put_other (z ∷ xs) (suc n) zero x differ = refl
put_other (z ∷ xs) (suc n) (suc m) x differ = put_other xs n m x (λ e. differ (ap suc e))

-- who stands somewhere is resident, and who is resident stands somewhere
stands_there : (pes : List (Option VcpuName)) (n : ℕ) (name : VcpuName) → slice_get pes n ≡ Some (Some name) → is_resident pes name.guest name.vcpu ≡ true
stands_there [] n name e = absurd (cc)
stands_there (one ∷ pes) zero name e =
    ap (λ o. passes (λ (other : VcpuName). other.guest == name.guest && other.vcpu == name.vcpu) o || is_resident pes name.guest name.vcpu) (first one (Some name) e)
    ∙ ap (λ b. b || is_resident pes name.guest name.vcpu) (ap (λ b. b && name.vcpu == name.vcpu) (eq-eqb name.guest name.guest refl) ∙ eq-eqb name.vcpu name.vcpu refl)
  where
    first : (a b : Option VcpuName) → Some a ≡ Some b → a ≡ b
    first a b e = cc
stands_there (one ∷ pes) (suc n) name e = later (passes (λ (other : VcpuName). other.guest == name.guest && other.vcpu == name.vcpu) one) (is_resident pes name.guest name.vcpu) (stands_there pes n name e)
  where
    later : (a b : Bool) → b ≡ true → (a || b) ≡ true
    later true b e = refl
    later false b e = e

where_stands : (pes : List (Option VcpuName)) (guest vcpu : ℕ) → is_resident pes guest vcpu ≡ true → (n : ℕ) × (slice_get pes n ≡ Some (Some (vcpu_name guest vcpu)))
where_stands [] guest vcpu e = absurd (cc)
where_stands (None ∷ pes) guest vcpu e = let later = where_stands pes guest vcpu e in (suc later.0, later.1)
where_stands (Some name ∷ pes) guest vcpu e = of (name.guest == guest && name.vcpu == vcpu) refl e (where_stands pes guest vcpu)
  where
    is_name : name.guest ≡ guest → name.vcpu ≡ vcpu → name ≡ vcpu_name guest vcpu
    is_name g v = ap (λ (n : ℕ). let x : VcpuName = record { guest = n; vcpu = name.vcpu } in x) g ∙ ap (vcpu_name guest) v

    of : (b : Bool) → (name.guest == guest && name.vcpu == vcpu) ≡ b → (b || is_resident pes guest vcpu) ≡ true → (is_resident pes guest vcpu ≡ true → (n : ℕ) × (slice_get pes n ≡ Some (Some (vcpu_name guest vcpu))))
        → (n : ℕ) × (slice_get (Some name ∷ pes) n ≡ Some (Some (vcpu_name guest vcpu)))
    of true here e later =
        let both = and_parts (name.guest == guest) (name.vcpu == vcpu) here in
        (zero, ap (λ n. Some (Some n)) (is_name (eqb-true name.guest guest both.0) (eqb-true name.vcpu vcpu both.1)))
    of false here e later = let more = later e in (suc more.0, more.1)

clash : (b : Bool) → not b ≡ true → b ≡ true → ⊥
clash true n e = absurd (cc)
clash false n e = absurd (cc)

-- a step
entered_once : (pes : List (Option VcpuName)) (pe guest vcpu : ℕ) → IsTrue (not (is_resident pes guest vcpu)) → IsOnce pes → IsOnce (slice_set pes pe (Some (vcpu_name guest vcpu)))
unfolding IsOnce
entered_once pes pe guest vcpu absent once one other name a b =
    elim (eqb_tells one pe) [
      | inl first ↦
          elim (eqb_tells other pe) [
            | inl second ↦ first.1 ∙ sym second.1
            | inr second ↦ absurd (only one other first.1 second.1 a b)
          ]
      | inr first ↦
          elim (eqb_tells other pe) [
            | inl second ↦ absurd (only other one second.1 first.1 b a)
            | inr second ↦ once one other name (sym (put_other pes pe one (Some (vcpu_name guest vcpu)) first.1) ∙ a) (sym (put_other pes pe other (Some (vcpu_name guest vcpu)) second.1) ∙ b)
          ]
    ]
  where
    only : (one other : ℕ) → one ≡ pe → other ≢ pe → slice_get (slice_set pes pe (Some (vcpu_name guest vcpu))) one ≡ Some (Some name) → slice_get (slice_set pes pe (Some (vcpu_name guest vcpu))) other ≡ Some (Some name) → ⊥
    only one other here there a b =
        let mine : Some (vcpu_name guest vcpu) ≡ Some name = put_here pes pe (Some (vcpu_name guest vcpu)) (Some name) (subst (λ n. slice_get (slice_set pes pe (Some (vcpu_name guest vcpu))) n ≡ Some (Some name)) here a) in
        let is : vcpu_name guest vcpu ≡ name = same_name (vcpu_name guest vcpu) name (ap Some mine) in
        clash (is_resident pes guest vcpu) absent
        (subst (λ (n : VcpuName). is_resident pes n.guest n.vcpu ≡ true) (sym is) (stands_there pes other name (sym (put_other pes pe other (Some (vcpu_name guest vcpu)) there) ∙ b)))

left_once : (pes : List (Option VcpuName)) (pe : ℕ) → IsOnce pes → IsOnce (slice_set pes pe None)
unfolding IsOnce
left_once pes pe once one other name a b = once one other name (old one a) (old other b)
  where
    old : (n : ℕ) → slice_get (slice_set pes pe None) n ≡ Some (Some name) → slice_get pes n ≡ Some (Some name)
    old n e = elim (eqb_tells n pe) [
      | inl same ↦ absurd (none (put_here pes pe None (Some name) (subst (λ m. slice_get (slice_set pes pe None) m ≡ Some (Some name)) same.1 e)))
      | inr differ ↦ sym (put_other pes pe n None differ.1) ∙ e
    ]
      where
        none : None ≡ Some name → ⊥
        none e = cc

-- who stands on a PE, if somebody does, is there
abbrev IsThere : List GuestShape → Option VcpuName → Type 0
IsThere shapes resident = IsTrue (option_map_or (λ name. has_vcpu shapes name.guest name.vcpu) resident true)

pub record StandRight (shapes : List GuestShape) (count : ℕ) (pes : List (Option VcpuName)) : Type 0 where
  pub each : length pes ≡ count
  pub residents : ResidentsExist shapes pes
  pub once : IsOnce pes

pub step_right : (shapes : List GuestShape) (count : ℕ) (standing : Standing) (step : Step) → IsTrue (is_formed Schedule count shapes step) → IsTrue (stands Schedule standing step) → StandRight shapes count standing.pes → StandRight shapes count (pes_after step standing.pes)
step_right shapes count standing (Vcpu guest vcpu op) formed stands right = right
step_right shapes count standing (Device guest device op) formed stands right = right
step_right shapes count standing (Pe pe (Enter guest vcpu)) formed stands right =
    record {
      each = length-set standing.pes pe (Some (vcpu_name guest vcpu)) ∙ right.each;
      residents = All-set (IsThere shapes) standing.pes pe (Some (vcpu_name guest vcpu)) (and_parts (not (is_threads Schedule) && nat_lt pe count) (has_vcpu shapes guest vcpu) formed).1 right.residents;
      once = entered_once standing.pes pe guest vcpu (and_parts (is_none (resident_of standing.pes pe)) (not (is_resident standing.pes guest vcpu)) stands).1 right.once;
    }
step_right shapes count standing (Pe pe Exit) formed stands right =
    let none : Option VcpuName = None in
    record { each = length-set standing.pes pe none ∙ right.each; residents = All-set (IsThere shapes) standing.pes pe none refl right.residents; once = left_once standing.pes pe right.once }
step_right shapes count standing (Pe pe Lrs) formed stands right = right

-- as it is asked of what is saved
pub once_told : (pes : List (Option VcpuName)) → IsOnce pes → IsTrue (stand_once pes)
unfolding IsOnce
once_told [] once = refl
once_told (None ∷ pes) once = once_told pes (λ one other name a b. less (once (suc one) (suc other) name a b))
  where
    less : {a b : ℕ} → suc a ≡ suc b → a ≡ b
    less e = cc
once_told (Some name ∷ pes) once =
    ap (λ b. b && stand_once pes) (absent (is_resident pes name.guest name.vcpu) refl) ∙ once_told pes (λ one other other_name a b. less one other (once (suc one) (suc other) other_name a b))
  where
    less : (a b : ℕ) → suc a ≡ suc b → a ≡ b
    less a b e = cc

    absent : (b : Bool) → is_resident pes name.guest name.vcpu ≡ b → not b ≡ true
    absent false e = refl
    absent true e = let at = where_stands pes name.guest name.vcpu e in absurd (never at.0 (once zero (suc at.0) name refl at.1))
      where
        never : (n : ℕ) → zero ≡ suc n → ⊥
        never n e = cc
