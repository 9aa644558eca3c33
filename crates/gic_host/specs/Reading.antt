-- What a JSON value says to run, or its fault (own choice).
use Rattle.std.specs.Prelude.{◌≡◌, ℕ, ◌+◌, ◌≤◌, ◌&&◌, ◌||◌, not, min, List, [], ◌∷◌, length, map, find, nat_le, nat_lt, Bool, true, is_some, is_none, unwrap_or, if◌then◌else◌, Option, Some, None, option_and_then, Result, Ok, Err, codes}
use Rattle.std.specs.Str.{bytes_eq}
use Rattle.serde_json.specs.Data.{Data}
use Rattle.serde_json.specs.Find.{get}
use Rattle.gic_ich.specs.Words.{Iar0}
use Rattle.scn_read.specs.Reading.{step_and_rest}
use Rattle.scn_read.specs.ScnBase.declared.fault.Fault.{Fault}
use Rattle.scn_read.specs.ScnBase.Codes.{shape_code, limit_code, unknown_register_code, unknown_actor_code, first_code, first_of, first_met, ok_unless}
use Rattle.scn_read.specs.GicGuest.Good.{passes}
use Rattle.scn_read.specs.JsonField.Field.{has_only, number_at, number_or, flag_at, text_at, list_at, elements_at}
use Rattle.scn_read.specs.Step.{value_of, register_at}
use Rattle.gic_host.specs.declared.link.Link.{Link}
use Rattle.gic_host.specs.declared.step.PhysSet.{PhysSet}
use Rattle.gic_host.specs.declared.step.PhysSet.TheVariants.{Pend, Clear, Enable, Disable}
use Rattle.gic_host.specs.declared.step.HostStep.{HostStep}
use Rattle.gic_host.specs.declared.step.HostStep.TheVariants.{Phys, Icc, Enter, Exit, Lrs}
use Rattle.gic_host.specs.declared.scenario.HostScenario.{HostScenario}
use Rattle.gic_host.specs.declared.form.HostForm.{HostForm}
use Rattle.gic_host.specs.declared.form.HostForm.TheVariants.{Physical, Access, EnterPe, ExitPe, ShowPe}
use Rattle.gic_host.specs.Form.{row_of, form_of}
use Rattle.gic_host.specs.Good.{is_spi, is_priority, has_clash, step_fault, is_loaded_after}

-- two links have one physical interrupt, or one virtual interrupt of a vCPU
abbrev pub link_twice_code : ℕ
link_twice_code = 11

-- ---- links

abbrev pub link_fields : List (List ℕ)
link_fields = codes "phys" ∷ codes "vid" ∷ codes "vcpu" ∷ codes "prio" ∷ []

-- each field of a link is there, and a number
abbrev pub is_link : Data → Bool
is_link d =
    has_only link_fields d
    && is_some (number_at (codes "phys") d)
    && is_some (number_at (codes "vid") d)
    && is_some (number_at (codes "vcpu") d)
    && is_some (number_at (codes "prio") d)

abbrev pub is_link_in_range : Data → Bool
is_link_in_range d = is_spi (value_of (codes "phys") d) && is_spi (value_of (codes "vid") d) && is_priority (value_of (codes "prio") d)

-- the fault of a link, where there are so many vCPUs
abbrev pub link_fault : ℕ → Data → Option ℕ
link_fault vcpus d =
    first_met
    ((not (is_link d), shape_code)
    ∷ (not (is_link_in_range d), limit_code)
    ∷ (not (nat_lt (value_of (codes "vcpu") d) vcpus), unknown_actor_code)
    ∷ [])

-- what a link without a fault says
abbrev pub link_of : Data → Link
link_of d =
    record {
      phys = value_of (codes "phys") d;
      vid = value_of (codes "vid") d;
      vcpu = value_of (codes "vcpu") d;
      prio = value_of (codes "prio") d;
    }

-- ---- all that stands outside of the steps

abbrev pub host_fields : List (List ℕ)
host_fields = codes "vcpus" ∷ codes "lrs" ∷ codes "links" ∷ codes "steps" ∷ []

abbrev pub is_host : Data → Bool
is_host d =
    has_only host_fields d
    && is_some (number_at (codes "vcpus") d)
    && is_some (number_at (codes "lrs") d)
    && is_some (list_at (codes "links") d)
    && is_some (list_at (codes "steps") d)

-- each number is in its range, the lengths of the lists among them
abbrev pub is_host_in_range : Data → Bool
is_host_in_range d =
    passes (λ vcpus. nat_le 1 vcpus && nat_le vcpus 8) (number_at (codes "vcpus") d)
    && passes (λ lrs. nat_le 1 lrs && nat_le lrs 16) (number_at (codes "lrs") d)
    && passes (λ links. nat_le (length links) 64) (list_at (codes "links") d)
    && passes (λ steps. nat_le (length steps) 100000) (list_at (codes "steps") d)

abbrev pub host_fault : Data → Option ℕ
host_fault d = first_met ((not (is_host d), shape_code) ∷ (not (is_host_in_range d), limit_code) ∷ [])

-- how many vCPUs there are, which is never more than there may be
abbrev pub vcpus_of : Data → ℕ
vcpus_of d = min (value_of (codes "vcpus") d) 8

-- the least fault of the fields and of each link
abbrev pub own_fault : Data → Option ℕ
own_fault d = first_code (host_fault d) (first_of (map (link_fault (vcpus_of d)) (elements_at (codes "links") d)))

-- the links, where none of them has a fault
abbrev pub links_of : Data → List Link
links_of d = map link_of (elements_at (codes "links") d)

-- the fault of all that stands outside of the steps: of links that clash, where there is no other
abbrev pub outside_fault : Data → Option ℕ
outside_fault d = first_met ((is_some (own_fault d), unwrap_or (own_fault d) 0) ∷ (has_clash (links_of d), link_twice_code) ∷ [])

-- ---- steps

abbrev pub set_name : PhysSet → List ℕ
set_name Pend = codes "pend"
set_name Clear = codes "clear"
set_name Enable = codes "enable"
set_name Disable = codes "disable"

abbrev pub sets : List PhysSet
sets = Pend ∷ Clear ∷ Enable ∷ Disable ∷ []

-- what is done to a physical interrupt, by its word
abbrev pub set_named : List ℕ → Option PhysSet
set_named name = find (λ set. bytes_eq (set_name set) name) sets

abbrev pub set_at : Data → Option PhysSet
set_at d = option_and_then set_named (text_at (codes "set") d)

-- a step that is of the kinds that its form asks for, or a fault of shape
abbrev pub said : Bool → HostStep → Result HostStep ℕ
said is_shaped step = ok_unless (first_met ((not is_shaped, shape_code) ∷ [])) step

-- a physical interrupt is shown, or something is done to it
abbrev pub phys_said : Data → Result HostStep ℕ
phys_said d = said (is_some (number_at (codes "phys") d) && (is_none (get (codes "set") d) || is_some (set_at d))) (Phys (value_of (codes "phys") d) (set_at d))

-- a register of the CPU interface is read, or written
abbrev pub access_said : Data → Result HostStep ℕ
access_said d =
    ok_unless
    (first_met
    ((not (is_some (text_at (codes "icc") d) && is_some (number_or (codes "write") 0 d)), shape_code)
    ∷ (not (is_some (register_at d)), unknown_register_code)
    ∷ []))
    (Icc (unwrap_or (register_at d) Iar0) (number_at (codes "write") d))

abbrev pub enter_said : Data → Result HostStep ℕ
enter_said d = said (is_some (number_at (codes "enter") d)) (Enter (value_of (codes "enter") d))

-- a step whose field of this name says true
abbrev pub flag_said : List ℕ → HostStep → Data → Result HostStep ℕ
flag_said name step d = said (passes (λ flag. flag) (flag_at name d)) step

abbrev pub form_said : HostForm → Data → Result HostStep ℕ
form_said Physical d = phys_said d
form_said Access d = access_said d
form_said EnterPe d = enter_said d
form_said ExitPe d = flag_said (codes "exit") Exit d
form_said ShowPe d = flag_said (codes "lrs") Lrs d

-- a step that can be said, by the links, the vCPUs, and whether one is loaded
abbrev pub judged : List Link → ℕ → Bool → Result HostStep ℕ → Result HostStep ℕ
judged links vcpus loaded (Ok step) = ok_unless (step_fault links vcpus loaded step) step
judged links vcpus loaded (Err code) = Err code

-- a step of any form, which has only the fields of its form
abbrev pub said_by : List Link → ℕ → Bool → Option HostForm → Data → Result HostStep ℕ
said_by links vcpus loaded None d = Err shape_code
said_by links vcpus loaded (Some form) d = if has_only (row_of form).fields d then judged links vcpus loaded (form_said form d) else Err shape_code

abbrev pub step_of : List Link → ℕ → Bool → Data → Result HostStep ℕ
step_of links vcpus loaded d = said_by links vcpus loaded (form_of d) d

-- the steps, the first of which has this number, or the first fault of them
abbrev pub steps_of : List Link → ℕ → Bool → ℕ → List Data → Result (List HostStep) Fault
steps_of links vcpus loaded number [] = Ok []
steps_of links vcpus loaded number (d ∷ ds) =
    step_and_rest number (step_of links vcpus loaded d) (λ step. steps_of links vcpus (is_loaded_after step loaded) (number + 1) ds)

-- ---- all of it

-- what is run with these steps, or their fault
abbrev pub scenario_or_fault : Data → Result (List HostStep) Fault → Result HostScenario Fault
scenario_or_fault d (Ok steps) = Ok (record { vcpus = value_of (codes "vcpus") d; lrs = value_of (codes "lrs") d; links = links_of d; steps = steps })
scenario_or_fault d (Err fault) = Err fault

abbrev pub reading_inside : Option ℕ → Data → Result HostScenario Fault
reading_inside (Some code) d = Err (record { code = code; step = 0 })
reading_inside None d = scenario_or_fault d (steps_of (links_of d) (vcpus_of d) true 1 (elements_at (codes "steps") d))

-- what a value says to run, or its fault: the first by step, where 0 is the number of all outside of the steps, and then the least code
abbrev pub reading : Data → Result HostScenario Fault
reading d = reading_inside (outside_fault d) d

-- the vCPUs, the list registers and the steps, where the own fields have no fault
pub record IsOpening (d : Data) (vcpus lrs : ℕ) (steps : List Data) : Type 0 where
  pub own : host_fault d ≡ None
  pub vcpus_are : number_at (codes "vcpus") d ≡ Some vcpus
  pub some_vcpu : 1 ≤ vcpus
  pub few_vcpus : vcpus ≤ 8
  pub lrs_are : number_at (codes "lrs") d ≡ Some lrs
  pub some_list_register : 1 ≤ lrs
  pub list_registers : lrs ≤ 16
  pub few_links : length (elements_at (codes "links") d) ≤ 64
  pub steps_are : list_at (codes "steps") d ≡ Some steps
  pub few : length steps ≤ 100000
