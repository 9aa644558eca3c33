-- A field is told of each fault that the reader finds, unless it is one of shape of what is no object.
use Rattle.std.proofs.Common.{◌≡◌, ◌≢◌, ℕ, ◌-◌, ◌⊎◌, inl, inr, true≢false, Bool, true, false, List, Option, Some, None, Result, Ok, Err, nat_le, refl, sym, ap, ◌∙◌, subst, arith}
use Rattle.std.specs.Prelude.{IsSome, nat_eq, option_map, option_and_then, slice_get, codes, if◌then◌else◌}
use Rattle.std.proofs.lemmas.Bool.{cases_lt, eqb-true, eq-eqb, le-leb}
use Rattle.serde_json.specs.Data.{Data}
use Rattle.gic_host.specs.ScnRead.JsonField.Field.{elements_at}
use Rattle.gic_host.specs.ScnRead.ScnBase.declared.fault.Fault.{Fault}
use Rattle.gic_host.specs.ScnRead.ScnBase.declared.scenario.Scenario.{Scenario}
use Rattle.gic_host.specs.ScnRead.ScnBase.declared.standing.Standing.{Standing}
use Rattle.gic_host.specs.ScnRead.ScnBase.declared.step.Mode.{Mode}
use Rattle.gic_host.specs.ScnRead.ScnBase.declared.step.Step.{Step as StepOf}
use Rattle.gic_host.specs.ScnRead.declared.form.Form.{Form}
use Rattle.gic_host.specs.ScnRead.Form.{form_of}
use Rattle.gic_host.specs.ScnRead.Step.{step_of, said_by, judged}
use Rattle.gic_host.specs.ScnRead.Reading.{reading, reading_inside, outside_fault, opening_at, steps_of, scenario_or_fault}
use Rattle.scn_hint.specs.declared.field.What.{What}
use Rattle.scn_hint.specs.declared.place.Place.{Place}
use Rattle.scn_hint.specs.declared.place.Place.TheVariants.{Scenario as TheScenario, Guest, Preset, Step}
use Rattle.scn_hint.specs.declared.place.Asks.{Asks}
use Rattle.scn_hint.specs.declared.place.Asks.TheVariants.{Shape, Limit, There}
use Rattle.scn_hint.specs.Field.{is_object}
use Rattle.scn_hint.specs.Step.{shape_amiss, step_amiss, step_told, formless}
use Rattle.scn_hint.specs.Hint.{AllFit, asks_of, shaped, scenario_trouble, guest_trouble, preset_trouble, trouble_in_guest, trouble_at, told_of_step, step_in}
use Rattle.scn_hint.specs.Law.{IsNamed, value_at}
use Rattle.scn_hint.proofs.FaultLemmas.{HasFault, step_with, shape_said}
use Rattle.scn_hint.proofs.OutsideLemmas.{code_of, fits_outside, apart, asked_outside}
use Rattle.scn_hint.proofs.ShapeLemmas.{fields_told}

-- What a code asks for.

asks_code : (code : ℕ) (asks : Asks) → asks_of code ≡ Some asks → code ≡ code_of asks
asks_code code asks e = of (nat_eq code 1) refl (nat_eq code 2) refl (nat_eq code 4) refl e
  where
    one : (a b : Asks) → Some a ≡ Some b → code_of a ≡ code_of b
    one a b e = ap code_of (same e)
      where
        same : Some a ≡ Some b → a ≡ b
        same e = cc

    of : (a : Bool) → nat_eq code 1 ≡ a → (b : Bool) → nat_eq code 2 ≡ b → (c : Bool) → nat_eq code 4 ≡ c → (if a then Some Shape else if b then Some Limit else if c then Some There else None) ≡ Some asks → code ≡ code_of asks
    of true is b ib c ic e = eqb-true code 1 is ∙ one Shape asks e
    of false is true ib c ic e = eqb-true code 2 ib ∙ one Limit asks e
    of false is false ib true ic e = eqb-true code 4 ic ∙ one There asks e
    of false is false ib false ic e = absurd (cc)

-- A trouble is a field, or that the value is no object.

-- what is known of a trouble
abbrev IsTold : Asks → Data → Option (List ℕ × What) → Type 0
IsTold asks value amiss = IsSome amiss ⊎ ((asks ≡ Shape) × (is_object value ≡ false))

shaped_told : (d : Data) (found amiss : Option (List ℕ × What)) → shaped d found ≡ Some amiss → IsTold Shape d amiss
shaped_told d found amiss e = of (is_object d) refl found e
  where
    of : (b : Bool) → is_object d ≡ b → (found : Option (List ℕ × What)) → (if b then option_map Some found else Some None) ≡ Some amiss → IsTold Shape d amiss
    of true is None e = absurd (cc)
    of true is (Some told) e = inl (subst IsSome (same (Some told) amiss e) refl)
      where
        same : (a b : Option (List ℕ × What)) → Some a ≡ Some b → a ≡ b
        same a b e = cc
    of false is found e = inr (refl, is)

some_told : (asks : Asks) (d : Data) (found amiss : Option (List ℕ × What)) → option_map Some found ≡ Some amiss → IsTold asks d amiss
some_told asks d None amiss e = absurd (cc)
some_told asks d (Some told) amiss e = inl (subst IsSome (same (Some told) amiss e) refl)
  where
    same : (a b : Option (List ℕ × What)) → Some a ≡ Some b → a ≡ b
    same a b e = cc

scenario_told : (asks : Asks) (d : Data) (amiss : Option (List ℕ × What)) → scenario_trouble asks d ≡ Some amiss → IsTold asks d amiss
scenario_told Shape d amiss e = shaped_told d _ amiss e
scenario_told Limit d amiss e = some_told Limit d _ amiss e
scenario_told There d amiss e = absurd (cc)

guest_told : (asks : Asks) (d : Data) (amiss : Option (List ℕ × What)) → guest_trouble asks d ≡ Some amiss → IsTold asks d amiss
guest_told Shape d amiss e = shaped_told d _ amiss e
guest_told Limit d amiss e = some_told Limit d _ amiss e
guest_told There d amiss e = absurd (cc)

preset_told : (asks : Asks) (guest d : Data) (amiss : Option (List ℕ × What)) → preset_trouble asks guest d ≡ Some amiss → IsTold asks d amiss
preset_told Shape guest d amiss e = shaped_told d _ amiss e
preset_told Limit guest d amiss e = some_told Limit d _ amiss e
preset_told There guest d amiss e = some_told There d _ amiss e

-- Outside of the steps.

named : (asks : Asks) (place : Place) (amiss : Option (List ℕ × What)) (fault : Fault) (d value : Data) → fault.code ≡ code_of asks → value_at place d ≡ Some value → IsTold asks value amiss → IsNamed place amiss fault d
named asks place amiss fault d value code there told = record {
  value = value;
  there = there;
  named = elim told [
    | inl some ↦ inl some
    | inr none ↦ inr (code ∙ ap code_of none.0, none.1)
  ];
}

trouble_named : (asks : Asks) (place : Place) (amiss : Option (List ℕ × What)) (fault : Fault) (d : Data) → fault.code ≡ code_of asks → trouble_at asks place d ≡ Some amiss → IsNamed place amiss fault d
trouble_named asks TheScenario amiss fault d code e = named asks TheScenario amiss fault d d code refl (scenario_told asks d amiss e)
trouble_named asks (Guest guest) amiss fault d code e = of (slice_get (elements_at (codes "guests") d) guest) refl e
  where
    of : (o : Option Data) → slice_get (elements_at (codes "guests") d) guest ≡ o → option_and_then (trouble_in_guest asks (Guest guest)) o ≡ Some amiss → IsNamed (Guest guest) amiss fault d
    of None is e = absurd (cc)
    of (Some value) is e = named asks (Guest guest) amiss fault d value code is (guest_told asks value amiss e)
trouble_named asks (Preset guest preset) amiss fault d code e = of (slice_get (elements_at (codes "guests") d) guest) refl e
  where
    of : (o : Option Data) → slice_get (elements_at (codes "guests") d) guest ≡ o → option_and_then (trouble_in_guest asks (Preset guest preset)) o ≡ Some amiss → IsNamed (Preset guest preset) amiss fault d
    of None is e = absurd (cc)
    of (Some owner) is e = by (slice_get (elements_at (codes "irqs") owner) preset) refl e
      where
        by : (o : Option Data) → slice_get (elements_at (codes "irqs") owner) preset ≡ o → option_and_then (preset_trouble asks owner) o ≡ Some amiss → IsNamed (Preset guest preset) amiss fault d
        by None has e = absurd (cc)
        by (Some value) has e =
            named asks (Preset guest preset) amiss fault d value code (ap (option_and_then (λ guest. slice_get (elements_at (codes "irqs") guest) preset)) is ∙ has) (preset_told asks owner value amiss e)
trouble_named asks (Step number) amiss fault d code e = absurd (cc)

err_fault : {X : Type 0} (one other : Fault) → (let r : Result X Fault = Err one in r) ≡ Err other → one ≡ other
err_fault one other e = cc

steps_fault : (d : Data) (steps : Result (List StepOf) Fault) (fault : Fault) → scenario_or_fault d steps ≡ Err fault → steps ≡ Err fault
steps_fault d (Ok steps) fault e = absurd (cc)
steps_fault d (Err one) fault e = ap Err (err_fault {X = Scenario} one fault e)

-- a fault of the reader's is outside of the steps, or of one of them
abbrev Faulty : Mode → Data → Fault → Type 0
Faulty mode d fault = ((outside_fault d ≡ Some fault.code) × (fault.step ≡ 0)) ⊎ HasFault mode 1 (elements_at (codes "steps") d) fault

faulty : (mode : Mode) (d : Data) (fault : Fault) → reading mode d ≡ Err fault → Faulty mode d fault
faulty mode d fault e = of (outside_fault d) refl e
  where
    of : (o : Option ℕ) → outside_fault d ≡ o → reading_inside mode o d ≡ Err fault → Faulty mode d fault
    of (Some code) is e =
        let same = err_fault {X = Scenario} (record { code = code; step = 0 }) fault e in inl (is ∙ ap (λ (f : Fault). Some f.code) same, sym (ap (λ (f : Fault). f.step) same))
    of None is e = inr (step_with mode (opening_at d) 1 (elements_at (codes "steps") d) fault (steps_fault d (steps_of mode (opening_at d) 1 (elements_at (codes "steps") d)) fault e))

pub named_outside :
    (mode : Mode) (d : Data) (fault : Fault) (place : Place) (amiss : Option (List ℕ × What)) → reading mode d ≡ Err fault → fault.step ≡ 0
    → ((asks : Asks) → asks_of fault.code ≡ Some asks → (trouble_at asks place d ≡ Some amiss) ⊎ AllFit asks d) → IsNamed place amiss fault d
named_outside mode d fault place amiss read outside found = elim (faulty mode d fault read) [
  | inl at ↦ of (asks_of fault.code) refl at.0
  | inr step ↦ (let later = step.at_least in absurd (omega (arith, later, outside)))
]
  where
    of : (o : Option Asks) → asks_of fault.code ≡ o → outside_fault d ≡ Some fault.code → IsNamed place amiss fault d
    of None is e = absurd (asked_outside d fault.code (apart fault.code is) e)
    of (Some asks) is e =
        let code = asks_code fault.code asks is in
        elim (found asks is) [
          | inl trouble ↦ trouble_named asks place amiss fault d code trouble
          | inr fit ↦ absurd (fits_outside asks d fit (e ∙ ap Some code))
        ]

-- In a step.

said_none : (mode : Mode) (standing : Standing) (s : Data) (code : ℕ) → form_of s ≡ None → step_of mode standing s ≡ Err code → 1 ≡ code
said_none mode standing s code none e = one (sym (ap (judged mode standing) (ap (λ o. said_by o s) none)) ∙ e)
  where
    one : (let r : Result StepOf ℕ = Err 1 in r) ≡ Err code → 1 ≡ code
    one e = cc

pub named_within : (mode : Mode) (d : Data) (fault : Fault) → reading mode d ≡ Err fault → fault.step ≢ 0 → IsNamed (Step fault.step) (told_of_step fault.code fault.step d) fault d
named_within mode d fault read within = elim (faulty mode d fault read) [
  | inl at ↦ absurd (within at.1)
  | inr has ↦ of has
]
  where
    of : HasFault mode 1 (elements_at (codes "steps") d) fault → IsNamed (Step fault.step) (told_of_step fault.code fault.step d) fault d
    of has = record {
      value = has.step;
      there = there;
      named = subst (λ o. IsSome (option_and_then (λ step. step_amiss fault.code (form_of step) d step) o) ⊎ ((fault.code ≡ 1) × (is_object has.step ≡ false))) (sym there) (by (form_of has.step) refl (nat_eq fault.code 1) refl);
    }
      where
        there : step_in fault.step d ≡ Some has.step
        there = first (nat_le 1 fault.step) refl
          where
            first : (b : Bool) → nat_le 1 fault.step ≡ b → (if b then slice_get (elements_at (codes "steps") d) (fault.step - 1) else None) ≡ Some has.step
            first true e = has.there
            first false e = absurd (within (none fault.step e))
              where
                none : (n : ℕ) → nat_le 1 n ≡ false → n ≡ 0
                none n e = elim (cases_lt n 1) [
                  | inl less ↦ omega (arith, less)
                  | inr more ↦ absurd (true≢false (sym (le-leb 1 n more) ∙ e))
                ]

        by : (form : Option Form) → form_of has.step ≡ form → (shape : Bool) → nat_eq fault.code 1 ≡ shape → IsSome (if shape then shape_amiss form has.step else option_map (λ form. step_told fault.code form d has.step) form) ⊎ ((fault.code ≡ 1) × (is_object has.step ≡ false))
        by (Some form) is true e =
            let code = eqb-true fault.code 1 e in
            inl ((fields_told.steps form has.step is).0 (shape_said mode has.standing has.step (has.fault_is ∙ ap Err code)))
        by (Some form) is false e = inl refl
        by None is true e = object (is_object has.step) refl
          where
            object : (b : Bool) → is_object has.step ≡ b → IsSome (if b then Some (formless has.step) else None) ⊎ ((fault.code ≡ 1) × (is_object has.step ≡ false))
            object true o = inl refl
            object false o = inr (eqb-true fault.code 1 e, o)
        by None is false e = absurd (true≢false (sym (eq-eqb fault.code 1 (sym (said_none mode has.standing has.step fault.code is has.fault_is))) ∙ e))
