-- With which field of a step something is amiss, by the code of its fault (own choice).
use Rattle.std.specs.Prelude.{ℕ, List, [], ◌∷◌, Bool, nat_eq, nat_lt, if◌then◌else◌, Option, Some, None, is_some, is_none, option_map, slice_get, unwrap_or, codes}
use Rattle.std.specs.List.{list_any}
use Rattle.std.specs.Str.{bytes_eq}
use Rattle.serde_json.specs.Data.{Data}
use Rattle.serde_json.specs.Find.{get}
use Rattle.gic_host.specs.ScnRead.JsonField.Field.{number_at, number_or, elements_at}
use Rattle.gic_host.specs.ScnRead.GicGuest.Good.{passes}
use Rattle.gic_host.specs.ScnRead.GicGuest.GicRam.Access.{is_size}
use Rattle.gic_host.specs.ScnRead.Guest.{numbers_of}
use Rattle.gic_host.specs.ScnRead.declared.form.Form.{Form}
use Rattle.gic_host.specs.ScnRead.declared.form.Form.TheVariants.{AccessRedistributor, SendMessage, MoveWire, SendMsi, EnterPe, ExitPe, ShowPe}
use Rattle.gic_host.specs.ScnRead.Form.{row_of, forms}
use Rattle.gic_host.specs.ScnRead.Step.{pair_of, register_at}
use Rattle.scn_hint.specs.declared.field.What.{What}
use Rattle.scn_hint.specs.declared.field.What.TheVariants.{Unknown, SecondForm, OtherActor, NoForm, NoActor, BadSize, TooLong, TooLarge, NoRegister, NotReadable, NotWritable, NotThere, NotLoaded, NoVcpu, Busy, NotOnThreads, SameLevel, Outside}
use Rattle.scn_hint.specs.Field.{amiss_in, is_object}
use Rattle.scn_hint.specs.Table.{rules_of}

-- ---- its shape

-- the fields that say who acts
abbrev pub actor_fields : List (List ℕ)
actor_fields = codes "vcpu" ∷ codes "dev" ∷ codes "pe" ∷ []

-- a field is one of these
abbrev pub is_among : List (List ℕ) → List ℕ → Bool
is_among names name = list_any (bytes_eq name) names

-- a field names a form
abbrev pub names_form : List ℕ → Bool
names_form name = list_any (λ form. bytes_eq name (row_of form).name) forms

-- what an unknown field is to a step of a form: it names a second form, or another actor
abbrev pub what_of_step : Form → List ℕ → What → What
what_of_step form name Unknown = if names_form name then SecondForm form else if is_among actor_fields name then OtherActor form else Unknown
what_of_step form name what = what

-- a step that names no form: of this actor, or of none
abbrev pub formless : Data → List ℕ × What
formless d =
    if is_some (get (codes "vcpu") d) then (codes "vcpu", NoForm)
    else if is_some (get (codes "dev") d) then (codes "dev", NoForm)
    else if is_some (get (codes "pe") d) then (codes "pe", NoForm)
    else (codes "vcpu", NoActor)

abbrev pub shape_amiss : Option Form → Data → Option (List ℕ × What)
shape_amiss None d = if is_object d then Some (formless d) else None
shape_amiss (Some form) d = option_map (λ found. (found.0, what_of_step form found.0 found.1)) (amiss_in (row_of form).fields (rules_of form) d)

-- ---- what it says

-- a size that is none, or a value that does not fit it; of an MSI, a number of 2^32 or more
abbrev pub limit_told : Form → Data → List ℕ × What
limit_told SendMsi d = (codes "msi", TooLarge)
limit_told form d =
    let size = unwrap_or (number_or (codes "size") 4 d) 0 in
    if is_size size then (codes "write", TooLong size) else (codes "size", BadSize size)

-- a register that is not there, or cannot be written or read
abbrev pub register_told : Data → List ℕ × What
register_told d = (codes "icc", if is_none (register_at d) then NoRegister else if is_some (number_at (codes "write") d) then NotWritable else NotReadable)

-- a scenario has a guest, and that so many vCPUs or devices
abbrev pub has_vcpu : Data → ℕ × ℕ → Bool
has_vcpu whole pair = passes (λ guest. nat_lt pair.1 (numbers_of guest).vcpus) (slice_get (elements_at (codes "guests") whole) pair.0)

abbrev pub has_device : Data → ℕ × ℕ → Bool
has_device whole pair = passes (λ guest. nat_lt pair.1 (numbers_of guest).devices) (slice_get (elements_at (codes "guests") whole) pair.0)

-- what a step names that is not there
abbrev pub device_told : Form → Data → Data → List ℕ
device_told form whole d = if has_device whole (pair_of (codes "dev") d) then (row_of form).name else codes "dev"

abbrev pub actor_told : Form → Data → Data → List ℕ
actor_told AccessRedistributor whole d = if has_vcpu whole (pair_of (codes "vcpu") d) then codes "of" else codes "vcpu"
actor_told SendMessage whole d = device_told SendMessage whole d
actor_told MoveWire whole d = device_told MoveWire whole d
actor_told SendMsi whole d = device_told SendMsi whole d
actor_told EnterPe whole d = if has_vcpu whole (pair_of (codes "enter") d) then codes "pe" else codes "enter"
actor_told ExitPe whole d = codes "pe"
actor_told ShowPe whole d = codes "pe"
actor_told form whole d = codes "vcpu"

-- who is on no PE, and which PE has no vCPU
abbrev pub loaded_told : Form → List ℕ × What
loaded_told ExitPe = (codes "pe", NoVcpu)
loaded_told form = (codes "vcpu", NotLoaded)

-- by the code of a fault, but that of shape
abbrev pub step_told : ℕ → Form → Data → Data → List ℕ × What
step_told code form whole d =
    if nat_eq code 2 then limit_told form d
    else if nat_eq code 3 then register_told d
    else if nat_eq code 4 then (actor_told form whole d, NotThere)
    else if nat_eq code 5 then loaded_told form
    else if nat_eq code 6 then (codes "enter", Busy)
    else if nat_eq code 7 then ((row_of form).name, NotOnThreads)
    else if nat_eq code 8 then (codes "wire", SameLevel)
    else ((row_of form).name, Outside)

-- by any code
abbrev pub step_amiss : ℕ → Option Form → Data → Data → Option (List ℕ × What)
step_amiss code form whole d = if nat_eq code 1 then shape_amiss form d else option_map (λ form. step_told code form whole d) form
