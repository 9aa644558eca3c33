-- A scenario that was read is good.
use Rattle.std.proofs.Common.{◌≡◌, ℕ, suc, ◌+◌, ◌≤◌, List, [], ◌∷◌, length, map, true, Some, None, Result, Ok, Err, codes, unwrap_or, refl, ap, sym, ◌∙◌, subst, arith}
use Rattle.std.specs.List.{All}
use Rattle.std.proofs.lemmas.List.{length-map}
use Rattle.serde_json.specs.Data.{Data}
use Rattle.json_field.specs.Field.{elements_at}
use Rattle.scn_base.specs.declared.fault.Fault.{Fault}
use Rattle.scn_base.specs.GicGuest.declared.guest.GuestSpec.{GuestSpec}
use Rattle.scn_base.specs.declared.step.Step.{Step}
use Rattle.scn_base.specs.declared.step.Mode.{Mode}
use Rattle.scn_base.specs.declared.standing.Standing.{Standing}
use Rattle.scn_base.specs.Standing.{opening_standing, standing_after}
use Rattle.scn_base.specs.Good.{IsGood}
use Rattle.scn_base.specs.GicGuest.Good.{IsGoodGuest, shapes_of}
use Rattle.scn_base.specs.StepFault.{step_fault}
use Rattle.scn_base.proofs.PesLemmas.{length-opening_pes}
use Rattle.scn_base.proofs.StepLemmas.{have_no_fault, no_fault_good}
use Rattle.scn_read.specs.Step.{step_said, step_of}
use Rattle.serde_json.specs.View.{view}
use Rattle.std.specs.Result.{MatchResult}
use Rattle.scn_base.specs.Codes.{first_of, ok_unless, both}
use Rattle.scn_read.specs.declared.reading.Parts.{Parts}
use Rattle.scn_read.specs.declared.refusal.ReadRefusal.{ReadRefusal}
use Rattle.scn_read.specs.declared.refusal.ReadRefusal.TheVariants.{Bad, NoMemory}
use Rattle.scn_read.specs.Guest.{guest_fault, guest_of}
use Rattle.scn_read.specs.Reading.{scenario_fault, outside_fault, guests_at, before_steps, step_and_rest, steps_of, scenario_or_fault, reading, Refuses, IsOpening}
use Rattle.scn_read.proofs.GoodLemmas.{good_guests, read_parts}
use Rattle.scn_read.proofs.NarrowLemmas.{said_is_clean}

-- the first of the steps and the others, where there is no fault
record StepParts (standing : Standing) (first : Result Step ℕ) (rest : Step → Result (List Step) Fault) (read : List Step) : Type 0 where
  step : Step
  steps : List Step
  first_is : first ≡ Ok step
  rest_is : rest step ≡ Ok steps
  read_is : read ≡ step ∷ steps

rest_parts : (standing : Standing) (step : Step) (after : Result (List Step) Fault) (rest : Step → Result (List Step) Fault) (read : List Step) → rest step ≡ after → before_steps step after ≡ Ok read
    → StepParts standing (Ok step) rest read
rest_parts standing step (Ok steps) rest read e read_is = record { step = step; steps = steps; first_is = refl; rest_is = e; read_is = cc }
rest_parts standing step (Err fault) rest read e read_is = absurd cc

parts : (standing : Standing) (number : ℕ) (first : Result Step ℕ) (rest : Step → Result (List Step) Fault) (read : List Step) → step_and_rest number first rest ≡ Ok read → StepParts standing first rest read
parts standing number (Err code) rest read e = absurd cc
parts standing number (Ok step) rest read e = rest_parts standing step (rest step) rest read refl e

abbrev no_steps : Result (List Step) Fault
no_steps = Ok []

read_none : (read : List Step) → no_steps ≡ Ok read → read ≡ []
read_none read e = cc

-- steps that were read have no fault
clean_steps : (mode : Mode) (standing : Standing) (number : ℕ) (ds : List Data) (read : List Step) → steps_of mode standing number ds ≡ Ok read → have_no_fault mode standing read ≡ true
clean_steps mode standing number [] read e = rw (read_none read e) refl
clean_steps mode standing number (d ∷ ds) read e =
    let p = parts standing number (step_of mode standing d) (λ step. steps_of mode (standing_after step standing) (number + 1) ds) read e in
    let now : step_fault mode standing p.step ≡ None = said_is_clean mode standing (step_said d) p.step (sym p.first_is) in
    let rest = clean_steps mode (standing_after p.step standing) (number + 1) ds p.steps p.rest_is in
    rw (p.read_is, now, rest) refl

length-steps_of : (mode : Mode) (standing : Standing) (number : ℕ) (ds : List Data) (read : List Step) → steps_of mode standing number ds ≡ Ok read → length read ≡ length ds
length-steps_of mode standing number [] read e = ap length (read_none read e)
length-steps_of mode standing number (d ∷ ds) read e =
    let p = parts standing number (step_of mode standing d) (λ step. steps_of mode (standing_after step standing) (number + 1) ds) read e in
    ap length p.read_is ∙ ap suc (length-steps_of mode (standing_after p.step standing) (number + 1) ds p.steps p.rest_is)

-- a scenario of good guests and of steps without a fault
pub good_scenario : (mode : Mode) (pes lrs : ℕ) (guests : List GuestSpec) (standing : Standing) (ds : List Data) (steps : List Step) → 1 ≤ pes → pes ≤ 8 → 1 ≤ lrs → lrs ≤ 16
    → 1 ≤ length guests → length guests ≤ 4 → All IsGoodGuest guests → length ds ≤ 100000 → standing ≡ opening_standing pes (shapes_of guests) → steps_of mode standing 1 ds ≡ Ok steps
    → IsGood mode (record { pes = pes; lrs = lrs; guests = guests; steps = steps })
good_scenario mode pes lrs guests standing ds steps some_pe few_pes some_register registers some_guest few_guests good few opens read =
    let opening : Standing = opening_standing pes (shapes_of guests) in
    let clean : have_no_fault mode opening steps ≡ true = clean_steps mode opening 1 ds steps (subst (λ (s : Standing). steps_of mode s 1 ds ≡ Ok steps) opens read) in
    let both = no_fault_good mode opening pes steps (length-opening_pes pes (shapes_of guests)) clean in
    record {
      some_pe = some_pe;
      pes = few_pes;
      some_list_register = some_register;
      list_registers = registers;
      some_guest = some_guest;
      guests = few_guests;
      each_guest = good;
      steps = rw (length-steps_of mode standing 1 ds steps read) few;
      each_step = both.0;
      in_turn = both.1;
    }

-- all that stands outside of the steps was read
pub record Outside (d : Data) (pes lrs : ℕ) (steps : List Data) (guests : List GuestSpec) : Type 0 where
  pub opening : IsOpening d pes lrs steps
  pub guests_are : guests ≡ guests_at d
  pub none : outside_fault d ≡ None
  pub good : All IsGoodGuest guests

abbrev opening_of : Data → Parts → Type 0
opening_of d parts = IsOpening d parts.pes parts.lrs (map view parts.steps.now)

pub outside_of : (d : Data) (ds : List Data) (opening : Result Parts ℕ) (guests : Result (List GuestSpec) ℕ) (read : Parts × List GuestSpec)
    → MatchResult opening (opening_of d) (λ (code : ℕ). scenario_fault d ≡ Some code) → ds ≡ elements_at (codes "guests") d → guests ≡ ok_unless (first_of (map guest_fault ds)) (map guest_of ds)
    → Ok read ≡ both opening guests → Outside d read.0.pes read.0.lrs (map view read.0.steps.now) read.1
outside_of d ds opening guests read opens are guests_are e =
    let parts = read_parts (opening_of d) (λ (code : ℕ). scenario_fault d ≡ Some code) opening (first_of (map guest_fault ds)) guests (map guest_of ds) read opens guests_are e in
    record {
      opening = parts.0;
      guests_are = parts.2 ∙ ap (map guest_of) are;
      none = rw (parts.0.own, ← are, parts.1) refl;
      good = subst (All IsGoodGuest) (sym parts.2) (good_guests ds parts.1);
    }

module _ (mode : Mode) (d : Data) (pes lrs : ℕ) (ds : List Data) (guests : List GuestSpec) (standing : Standing) (outside : Outside d pes lrs ds guests)
    (opens : standing ≡ opening_standing pes (shapes_of guests)) where
  -- the reading goes by its steps
  pub reading_is : reading mode d ≡ scenario_or_fault d (steps_of mode standing 1 ds)
  reading_is =
      let steps_are : elements_at (codes "steps") d ≡ ds = ap (λ found. unwrap_or found []) outside.opening.steps_are in
      rw (outside.none, outside.opening.pes_are, steps_are, ← outside.guests_are, ← opens) refl

  pub scenario_is : (steps : List Step) → steps_of mode standing 1 ds ≡ Ok steps → reading mode d ≡ Ok (record { pes = pes; lrs = lrs; guests = guests; steps = steps })
  scenario_is steps e = reading_is ∙ rw (e, outside.opening.pes_are, outside.opening.lrs_are, ← outside.guests_are) refl

  pub scenario_good : (steps : List Step) → steps_of mode standing 1 ds ≡ Ok steps → IsGood mode (record { pes = pes; lrs = lrs; guests = guests; steps = steps })
  scenario_good steps e =
      let many : length guests ≡ length (elements_at (codes "guests") d) = ap length outside.guests_are ∙ simp length-map in
      let some_guest = outside.opening.some_guest in
      let few_guests = outside.opening.few_guests in
      good_scenario mode pes lrs guests standing ds steps outside.opening.some_pe outside.opening.few_pes outside.opening.some_list_register outside.opening.list_registers (omega arith) (omega arith)
      outside.good outside.opening.few opens e

  -- the refusal of its steps is that of the scenario
  pub refuses : (refusal : ReadRefusal) → Refuses (steps_of mode standing 1 ds) refusal → Refuses (reading mode d) refusal
  refuses (Bad fault) e = reading_is ∙ rw e refl
  refuses NoMemory e = tt
