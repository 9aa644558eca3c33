-- Where something is amiss with a scenario, and with which field (own choice).
use Rattle.std.specs.Prelude.{◌≡◌, ℕ, ◌-◌, List, All, Bool, nat_eq, nat_le, if◌then◌else◌, Option, Some, None, is_some, option_map, option_and_then, slice_get, codes}
use Rattle.std.specs.Str.{bytes_eq}
use Rattle.serde_json.specs.Data.{Data}
use Rattle.gic_host.specs.ScnRead.JsonField.Field.{elements_at, number_at}
use Rattle.gic_host.specs.ScnRead.Form.{form_of}
use Rattle.gic_host.specs.ScnRead.Guest.{guest_fields}
use Rattle.gic_host.specs.ScnRead.Preset.{is_private, preset_fields}
use Rattle.gic_host.specs.ScnRead.Reading.{scenario_fields}
use Rattle.scn_hint.specs.declared.field.What.{What}
use Rattle.scn_hint.specs.declared.field.What.TheVariants.{Unknown, OfOthers}
use Rattle.scn_hint.specs.declared.field.Kind.TheVariants.{Number}
use Rattle.scn_hint.specs.declared.place.Place.{Place}
use Rattle.scn_hint.specs.declared.place.Place.TheVariants.{Scenario, Guest, Preset, Step}
use Rattle.scn_hint.specs.declared.place.Asks.{Asks}
use Rattle.scn_hint.specs.declared.place.Asks.TheVariants.{Shape, Limit, There}
use Rattle.scn_hint.specs.Field.{amiss_in, is_object, misfit_of}
use Rattle.scn_hint.specs.Limit.{limits_amiss, guest_limits, scenario_limit, preset_limit, there_amiss}
use Rattle.scn_hint.specs.Step.{step_amiss}
use Rattle.scn_hint.specs.Table.{scenario_rules, guest_rules, preset_rules, must}

-- what the codes are called
abbrev pub name_of : ℕ → List ℕ
name_of code =
    if nat_eq code 1 then codes "Shape"
    else if nat_eq code 2 then codes "Limit"
    else if nat_eq code 3 then codes "UnknownRegister"
    else if nat_eq code 4 then codes "UnknownActor"
    else if nat_eq code 5 then codes "NotLoaded"
    else if nat_eq code 6 then codes "PeBusy"
    else if nat_eq code 7 then codes "PeStep"
    else if nat_eq code 8 then codes "WireLevel"
    else if nat_eq code 9 then codes "Address"
    else if nat_eq code 11 then codes "LinkTwice"
    else codes "Unknown"

-- what a fault outside of the steps asks for, by its code
abbrev pub asks_of : ℕ → Option Asks
asks_of code = if nat_eq code 1 then Some Shape else if nat_eq code 2 then Some Limit else if nat_eq code 4 then Some There else None

-- a field that a preset has only where its interrupt is of the other kind
abbrev pub what_of_preset : Bool → List ℕ → What → What
what_of_preset private name Unknown = if bytes_eq name (if private then codes "to" else codes "vcpu") then OfOthers else Unknown
what_of_preset private name what = what

-- the shape of a preset: first its INTID, which says what else it has
abbrev pub preset_shape : Data → Option (List ℕ × What)
preset_shape d =
    if is_some (number_at (codes "id") d)
    then option_map (λ found. (found.0, what_of_preset (is_private d) found.0 found.1)) (amiss_in (preset_fields d) (preset_rules (is_private d)) d)
    else option_map (λ what. (codes "id", what)) (misfit_of (codes "id") (must Number) d)

-- what is amiss with a value: it is no object, or a field of it is; nothing, where that is none
abbrev pub Trouble : Type 0
Trouble = Option (Option (List ℕ × What))

abbrev pub shaped : Data → Option (List ℕ × What) → Trouble
shaped d amiss = if is_object d then option_map Some amiss else Some None

-- with a scenario's own fields, with a guest's, and with those of a preset of a guest
abbrev pub scenario_trouble : Asks → Data → Trouble
scenario_trouble Shape d = shaped d (amiss_in scenario_fields scenario_rules d)
scenario_trouble Limit d = option_map Some (scenario_limit d)
scenario_trouble There d = None

abbrev pub guest_trouble : Asks → Data → Trouble
guest_trouble Shape d = shaped d (amiss_in guest_fields guest_rules d)
guest_trouble Limit d = option_map Some (limits_amiss guest_limits d)
guest_trouble There d = None

abbrev pub preset_trouble : Asks → Data → Data → Trouble
preset_trouble Shape guest d = shaped d (preset_shape d)
preset_trouble Limit guest d = option_map Some (preset_limit d)
preset_trouble There guest d = option_map Some (there_amiss guest d)

-- the step of a number, from 1
abbrev pub step_in : ℕ → Data → Option Data
step_in number d = if nat_le 1 number then slice_get (elements_at (codes "steps") d) (number - 1) else None

-- the guest that a place is of
abbrev pub guest_in : Place → Option ℕ
guest_in (Guest guest) = Some guest
guest_in (Preset guest preset) = Some guest
guest_in place = None

-- the number of the step that a place is, or 0 of all outside of the steps, as faults have it
abbrev pub step_number : Place → ℕ
step_number (Step number) = number
step_number place = 0

-- in a place of a guest, of one of some guests, and of a scenario outside of its steps
abbrev pub trouble_in_guest : Asks → Place → Data → Trouble
trouble_in_guest asks (Guest guest) d = guest_trouble asks d
trouble_in_guest asks (Preset guest preset) d = option_and_then (preset_trouble asks d) (slice_get (elements_at (codes "irqs") d) preset)
trouble_in_guest asks place d = None

abbrev pub trouble_among : Asks → Place → List Data → Trouble
trouble_among asks place ds = option_and_then (trouble_in_guest asks place) (option_and_then (slice_get ds) (guest_in place))

abbrev pub trouble_at : Asks → Place → Data → Trouble
trouble_at asks Scenario d = scenario_trouble asks d
trouble_at asks (Guest guest) d = trouble_among asks (Guest guest) (elements_at (codes "guests") d)
trouble_at asks (Preset guest preset) d = trouble_among asks (Preset guest preset) (elements_at (codes "guests") d)
trouble_at asks (Step number) d = None

-- nothing is amiss with a guest's fields, nor with those of its presets
pub record IsFitGuest (asks : Asks) (d : Data) : Type 0 where
  pub own : guest_trouble asks d ≡ None
  pub presets : All (λ preset. preset_trouble asks d preset ≡ None) (elements_at (codes "irqs") d)

-- nothing is amiss with the fields of all that stands outside of the steps
pub record AllFit (asks : Asks) (d : Data) : Type 0 where
  pub own : scenario_trouble asks d ≡ None
  pub guests : All (IsFitGuest asks) (elements_at (codes "guests") d)

-- with which field of a step something is amiss, by the code of its fault
abbrev pub told_of_step : ℕ → ℕ → Data → Option (List ℕ × What)
told_of_step code number d = option_and_then (λ step. step_amiss code (form_of step) d step) (step_in number d)
