-- The scenario that a JSON value is, or its fault (own choice).
use Rattle.std.specs.Prelude.{◌≡◌, ℕ, ◌+◌, ◌≤◌, ◌&&◌, not, ⊤, List, [], ◌∷◌, length, map, nat_le, Bool, is_some, unwrap_or, Option, Some, None, Result, Ok, Err, codes}
use Rattle.serde_json.specs.Data.{Data}
use Rattle.scn_base.specs.GicGuest.declared.guest.GuestSpec.{GuestSpec}
use Rattle.scn_base.specs.declared.scenario.Scenario.{Scenario}
use Rattle.scn_base.specs.declared.step.Step.{Step}
use Rattle.scn_base.specs.declared.step.Mode.{Mode}
use Rattle.scn_base.specs.declared.fault.Fault.{Fault}
use Rattle.scn_read.specs.declared.refusal.ReadRefusal.{ReadRefusal}
use Rattle.scn_read.specs.declared.refusal.ReadRefusal.TheVariants.{Bad, NoMemory}
use Rattle.scn_base.specs.GicGuest.Good.{passes, shapes_of}
use Rattle.json_field.specs.Field.{has_only, number_or, list_at, elements_at}
pub use Rattle.scn_turn.specs.Turn.{before_steps, step_and_rest}
use Rattle.scn_read.specs.Guest.{guest_fault, guest_of}
use Rattle.scn_read.specs.Step.{step_of}
use Rattle.scn_base.specs.Codes.{shape_code, limit_code, first_code, first_of, first_met}
use Rattle.scn_base.specs.declared.standing.Standing.{Standing}
use Rattle.scn_base.specs.Standing.{opening_standing, standing_after}

-- the fields of a scenario
abbrev pub scenario_fields : List (List ℕ)
scenario_fields = codes "pes" ∷ codes "lrs" ∷ codes "guests" ∷ codes "steps" ∷ []

-- each field of a scenario is one of its table, and of its kind
abbrev pub is_scenario : Data → Bool
is_scenario d =
    has_only scenario_fields d
    && is_some (number_or (codes "pes") 1 d)
    && is_some (number_or (codes "lrs") 4 d)
    && is_some (list_at (codes "guests") d)
    && is_some (list_at (codes "steps") d)

-- each number of a scenario is in its range, the lengths of its lists among them
abbrev pub is_scenario_in_range : Data → Bool
is_scenario_in_range d =
    passes (λ pes. nat_le 1 pes && nat_le pes 8) (number_or (codes "pes") 1 d)
    && passes (λ lrs. nat_le 1 lrs && nat_le lrs 16) (number_or (codes "lrs") 4 d)
    && passes (λ guests. nat_le 1 (length guests) && nat_le (length guests) 4) (list_at (codes "guests") d)
    && passes (λ steps. nat_le (length steps) 100000) (list_at (codes "steps") d)

-- the fault of a scenario's own fields
abbrev pub scenario_fault : Data → Option ℕ
scenario_fault d = first_met ((not (is_scenario d), shape_code) ∷ (not (is_scenario_in_range d), limit_code) ∷ [])

-- the first fault of all that stands outside of the steps
abbrev pub outside_fault : Data → Option ℕ
outside_fault d = first_code (scenario_fault d) (first_of (map guest_fault (elements_at (codes "guests") d)))

-- the guests, where none of them has a fault
abbrev pub guests_at : Data → List GuestSpec
guests_at d = map guest_of (elements_at (codes "guests") d)

-- the standing at the opening
abbrev pub opening_at : Data → Standing
opening_at d = opening_standing (unwrap_or (number_or (codes "pes") 1 d) 0) (shapes_of (guests_at d))

-- the steps, the first of which has this number, or the first fault of them; each is judged by the standing before it, and moves it
abbrev pub steps_of : Mode → Standing → ℕ → List Data → Result (List Step) Fault
steps_of mode standing number [] = Ok []
steps_of mode standing number (d ∷ ds) =
    step_and_rest number (step_of mode standing d) (λ step. steps_of mode (standing_after step standing) (number + 1) ds)

-- the scenario around its steps
abbrev pub scenario_with : Data → List Step → Scenario
scenario_with d steps =
    record {
      pes = unwrap_or (number_or (codes "pes") 1 d) 0;
      lrs = unwrap_or (number_or (codes "lrs") 4 d) 0;
      guests = guests_at d;
      steps = steps;
    }

-- the scenario with these steps, or their fault
abbrev pub scenario_or_fault : Data → Result (List Step) Fault → Result Scenario Fault
scenario_or_fault d (Ok steps) = Ok (scenario_with d steps)
scenario_or_fault d (Err fault) = Err fault

-- the scenario where nothing outside of its steps has a fault
abbrev pub reading_inside : Mode → Option ℕ → Data → Result Scenario Fault
reading_inside mode (Some code) d = Err (record { code = code; step = 0 })
reading_inside mode None d = scenario_or_fault d (steps_of mode (opening_at d) 1 (elements_at (codes "steps") d))

-- the scenario that a value is, or its fault: the first by step, where 0 is the number of all outside of the steps, and then the
-- least code
abbrev pub reading : Mode → Data → Result Scenario Fault
reading mode d = reading_inside mode (outside_fault d) d

-- the refusal is the fault of a reading, or for memory
abbrev pub Refuses : {X : Type 0} → Result X Fault → ReadRefusal → Type 0
Refuses read (Bad fault) = read ≡ Err fault
Refuses read NoMemory = ⊤

-- the PEs, the list registers and the steps of a scenario, the own fields of which have no fault
pub record IsOpening (d : Data) (pes lrs : ℕ) (steps : List Data) : Type 0 where
  pub own : scenario_fault d ≡ None
  pub pes_are : number_or (codes "pes") 1 d ≡ Some pes
  pub some_pe : 1 ≤ pes
  pub few_pes : pes ≤ 8
  pub lrs_are : number_or (codes "lrs") 4 d ≡ Some lrs
  pub some_list_register : 1 ≤ lrs
  pub list_registers : lrs ≤ 16
  pub some_guest : 1 ≤ length (elements_at (codes "guests") d)
  pub few_guests : length (elements_at (codes "guests") d) ≤ 4
  pub steps_are : list_at (codes "steps") d ≡ Some steps
  pub few : length steps ≤ 100000
