-- Where something is amiss with links and their steps, and with which field (own choice).
use Rattle.std.specs.Prelude.{ℕ, ◌+◌, List, [], ◌∷◌, nat_eq, if◌then◌else◌, Option, Some, None, option_and_then, codes}
use Rattle.serde_json.specs.Data.{Data}
use Rattle.gic_host.specs.Form.{row_of, form_of}
use Rattle.gic_host.specs.Reading.{host_fields, link_fields}
use Rattle.gic_host.specs.ScnRead.JsonField.Field.{elements_at}
use Rattle.gic_host.specs.ScnRead.ScnBase.declared.fault.Fault.{Fault}
use Rattle.gic_host.specs.declared.form.HostForm.{HostForm}
use Rattle.scn_hint.specs.declared.field.What.{What}
use Rattle.scn_hint.specs.declared.host.HostPlace.{HostPlace}
use Rattle.scn_hint.specs.declared.host.HostPlace.TheVariants.{Outside, Link, Step}
use Rattle.scn_hint.specs.Field.{amiss_in}
use Rattle.scn_hint.specs.Hint.{step_in}
use Rattle.scn_hint.specs.Table.{host_rules, link_rules, host_step_rules}

-- a place, and with which field something is amiss there
abbrev pub HostTold : Type 0
HostTold = HostPlace × Option (List ℕ × What)

-- a field of the link of a number, or else what is found further on
abbrev pub link_or : ℕ → Option (List ℕ × What) → HostTold → HostTold
link_or number (Some told) later = (Link number, Some told)
link_or number None later = later

-- the first of some links, the first of which has this number, with a field with which something is amiss
abbrev pub first_link : ℕ → List Data → HostTold
first_link number [] = (Outside, None)
first_link number (d ∷ ds) = link_or number (amiss_in link_fields link_rules d) (first_link (number + 1) ds)

-- an own field, or else one of a link
abbrev pub own_or : Option (List ℕ × What) → HostTold → HostTold
own_or (Some told) later = (Outside, Some told)
own_or None later = later

-- a field of a step, by the form that it names
abbrev pub told_of_form : Option HostForm → Data → Option (List ℕ × What)
told_of_form None d = None
told_of_form (Some form) d = amiss_in (row_of form).fields (host_step_rules form) d

-- all that a fault of shape asks for: outside of the steps, and in the step of a number
abbrev pub shape_told : ℕ → Data → HostTold
shape_told number d =
    if nat_eq number 0 then own_or (amiss_in host_fields host_rules d) (first_link 0 (elements_at (codes "links") d))
    else (Step number, option_and_then (λ step. told_of_form (form_of step) step) (step_in number d))

-- the place of a fault by its step alone
abbrev pub place_of : ℕ → HostPlace
place_of number = if nat_eq number 0 then Outside else Step number

-- what is told of a fault: its place, and the field where it is one of shape
abbrev pub host_told : Fault → Data → HostTold
host_told fault d = if nat_eq fault.code 1 then shape_told fault.step d else (place_of fault.step, None)
