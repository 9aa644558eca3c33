-- A field is told of each fault that the reader finds (own choice).
use Rattle.std.specs.Prelude.{◌≡◌, ◌↔◌, ◌⊎◌, ℕ, List, false, Option, Some, IsSome, Err, option_and_then, slice_get, codes}
use Rattle.serde_json.specs.Data.{Data}
use Rattle.gic_host.specs.ScnRead.JsonField.Field.{elements_at}
use Rattle.gic_host.specs.ScnRead.ScnBase.Codes.{shape_code}
use Rattle.gic_host.specs.ScnRead.ScnBase.declared.fault.Fault.{Fault}
use Rattle.gic_host.specs.ScnRead.declared.form.Form.{Form}
use Rattle.gic_host.specs.ScnRead.Form.{form_of}
use Rattle.gic_host.specs.ScnRead.Step.{step_said}
use Rattle.scn_hint.specs.declared.field.What.{What}
use Rattle.scn_hint.specs.declared.place.Place.{Place}
use Rattle.scn_hint.specs.declared.place.Place.TheVariants.{Scenario, Guest, Preset, Step}
use Rattle.scn_hint.specs.Field.{is_object}
use Rattle.scn_hint.specs.Hint.{step_in}
use Rattle.scn_hint.specs.Step.{shape_amiss}

-- a step that names a form is refused for its shape exactly where a field of it is told
pub record FieldsAreTold : Type 0 where
  pub steps : (form : Form) (d : Data) → form_of d ≡ Some form → (step_said d ≡ Err shape_code) ↔ IsSome (shape_amiss (Some form) d)

-- what stands at a place
abbrev pub guest_at : ℕ → Data → Option Data
guest_at guest d = slice_get (elements_at (codes "guests") d) guest

abbrev pub value_at : Place → Data → Option Data
value_at Scenario d = Some d
value_at (Guest guest) d = guest_at guest d
value_at (Preset guest preset) d = option_and_then (λ guest. slice_get (elements_at (codes "irqs") guest) preset) (guest_at guest d)
value_at (Step number) d = step_in number d

-- something stands at a place, and a field of it is told, unless the fault is one of shape and it is no object
pub record IsNamed (place : Place) (amiss : Option (List ℕ × What)) (fault : Fault) (d : Data) : Type 0 where
  pub value : Data
  pub there : value_at place d ≡ Some value
  pub named : IsSome amiss ⊎ ((fault.code ≡ shape_code) × (is_object value ≡ false))
