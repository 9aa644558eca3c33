-- The steps of a scenario: what each form says, and the fault of a step (own choice).
use Rattle.std.specs.Prelude.{ℕ, ◌^◌, ◌&&◌, not, List, [], ◌∷◌, nat_lt, if◌then◌else◌, Bool, false, Option, Some, None, is_some, unwrap_or, option_and_then, Result, Ok, Err, codes}
use Rattle.serde_json.specs.Data.{Data}
use Rattle.scn_base.specs.Words.{Key, Private, Spi, IccReg, Iar0, Frame, Dist, Redist, Its, Ram, Icc, Mem, Message, Wire, Msi, PeOp, Enter, Exit, Lrs, register_named}
use Rattle.json_field.specs.Field.{has_only, number_at, number_or, flag_at, text_at, pair_at}
use Rattle.scn_base.specs.declared.step.Step.{Step}
use Rattle.scn_base.specs.declared.step.Step.TheVariants.{Vcpu, Device, Pe}
use Rattle.scn_base.specs.declared.step.Mode.{Mode}
use Rattle.scn_base.specs.declared.standing.Standing.{Standing}
use Rattle.scn_base.specs.Codes.{shape_code, limit_code, unknown_register_code, first_met, ok_unless}
use Rattle.scn_base.specs.GicGuest.Good.{passes}
use Rattle.scn_base.specs.StepFault.{step_fault}
use Rattle.scn_read.specs.declared.form.Form.{Form}
use Rattle.scn_read.specs.declared.form.Form.TheVariants.{AccessRegister, AccessDistributor, AccessRedistributor, AccessIts, AccessMemory, SendMessage, MoveWire, SendMsi, EnterPe, ExitPe, ShowPe}
use Rattle.scn_read.specs.Form.{row_of, form_of}

-- the two numbers in a field that has two
abbrev pub pair_of : List ℕ → Data → ℕ × ℕ
pair_of name d = unwrap_or (pair_at name d) (0, 0)

-- the number in a field that has one
abbrev pub value_of : List ℕ → Data → ℕ
value_of name d = unwrap_or (number_at name d) 0

-- a step that is of the kinds that its form asks for, or a fault of shape
abbrev pub said : Bool → Step → Result Step ℕ
said is_shaped step = if is_shaped then Ok step else Err shape_code

-- ---- vCPUs

-- a register of the CPU interface is read, or written
abbrev pub is_register_step : Data → Bool
is_register_step d = is_some (pair_at (codes "vcpu") d) && is_some (text_at (codes "icc") d) && is_some (number_or (codes "write") 0 d)

-- the register that a step names
abbrev pub register_at : Data → Option IccReg
register_at d = option_and_then register_named (text_at (codes "icc") d)

abbrev pub register_step : Data → Step
register_step d =
    let place = pair_of (codes "vcpu") d in
    Vcpu place.0 place.1 (Icc (unwrap_or (register_at d) Iar0) (number_at (codes "write") d))

-- a step with a register's name that is none cannot be said at all
abbrev pub register_said : Data → Result Step ℕ
register_said d =
    ok_unless (first_met ((not (is_register_step d), shape_code) ∷ (not (is_some (register_at d)), unknown_register_code) ∷ [])) (register_step d)

-- a frame is read or written at the offset in the field of this name
abbrev pub is_access_step : List ℕ → Data → Bool
is_access_step name d =
    is_some (pair_at (codes "vcpu") d)
    && is_some (number_at name d)
    && is_some (number_or (codes "size") 4 d)
    && is_some (number_or (codes "write") 0 d)

abbrev pub access_step : List ℕ → Frame → Data → Step
access_step name frame d =
    let place = pair_of (codes "vcpu") d in
    Vcpu place.0 place.1 (Mem frame (value_of name d) (unwrap_or (number_or (codes "size") 4 d) 0) (number_at (codes "write") d))

abbrev pub access_said : List ℕ → Frame → Data → Result Step ℕ
access_said name frame d = said (is_access_step name d) (access_step name frame d)

-- the redistributor of a vCPU that is named besides
abbrev pub redistributor_said : Data → Result Step ℕ
redistributor_said d =
    said (is_some (number_at (codes "of") d) && is_access_step (codes "gicr") d) (access_step (codes "gicr") (Redist (value_of (codes "of") d)) d)

-- ---- devices

-- a device writes the INTID of an SPI to GICD_SETSPI_NSR
abbrev pub message_said : Data → Result Step ℕ
message_said d =
    let place = pair_of (codes "dev") d in
    said (is_some (pair_at (codes "dev") d) && is_some (number_at (codes "message") d)) (Device place.0 place.1 (Message (value_of (codes "message") d)))

-- the interrupt whose wire is moved: a private one of a vCPU, where one is named, or else a shared one
abbrev pub wired_key : Option ℕ → ℕ → Key
wired_key None id = Spi id
wired_key (Some vcpu) id = Private vcpu id

-- a device moves a wire
abbrev pub is_wire_step : Data → Bool
is_wire_step d =
    is_some (pair_at (codes "dev") d)
    && is_some (number_at (codes "wire") d)
    && is_some (flag_at (codes "up") d)
    && is_some (number_or (codes "vcpu") 0 d)

abbrev pub wire_step : Data → Step
wire_step d =
    let place = pair_of (codes "dev") d in
    Device place.0 place.1 (Wire (wired_key (number_at (codes "vcpu") d) (value_of (codes "wire") d)) (unwrap_or (flag_at (codes "up") d) false))

abbrev pub wire_said : Data → Result Step ℕ
wire_said d = said (is_wire_step d) (wire_step d)

-- the numbers of a device and an event have 32 bits (IHI 0069, GITS_TRANSLATER)
abbrev pub are_msi_numbers : ℕ × ℕ → Bool
are_msi_numbers numbers = nat_lt numbers.0 (2 ^ 32) && nat_lt numbers.1 (2 ^ 32)

-- a device writes an event to GITS_TRANSLATER
abbrev pub msi_said : Data → Result Step ℕ
msi_said d =
    let place = pair_of (codes "dev") d in
    let numbers = pair_of (codes "msi") d in
    ok_unless
    (first_met
    ((not (is_some (pair_at (codes "dev") d) && is_some (pair_at (codes "msi") d)), shape_code)
    ∷ (not (are_msi_numbers numbers), limit_code)
    ∷ []))
    (Device place.0 place.1 (Msi numbers.0 numbers.1))

-- ---- PEs

-- a vCPU enters a PE
abbrev pub enter_said : Data → Result Step ℕ
enter_said d =
    let place = pair_of (codes "enter") d in
    said (is_some (number_at (codes "pe") d) && is_some (pair_at (codes "enter") d)) (Pe (value_of (codes "pe") d) (Enter place.0 place.1))

-- something is done to a PE, where the field of this name says true
abbrev pub pe_said : List ℕ → PeOp → Data → Result Step ℕ
pe_said name op d = said (is_some (number_at (codes "pe") d) && passes (λ flag. flag) (flag_at name d)) (Pe (value_of (codes "pe") d) op)

-- ---- all forms

-- what a step of a form says, or the code of what it does not say
abbrev pub form_said : Form → Data → Result Step ℕ
form_said AccessRegister d = register_said d
form_said AccessDistributor d = access_said (codes "gicd") Dist d
form_said AccessRedistributor d = redistributor_said d
form_said AccessIts d = access_said (codes "gits") Its d
form_said AccessMemory d = access_said (codes "ram") Ram d
form_said SendMessage d = message_said d
form_said MoveWire d = wire_said d
form_said SendMsi d = msi_said d
form_said EnterPe d = enter_said d
form_said ExitPe d = pe_said (codes "exit") Exit d
form_said ShowPe d = pe_said (codes "lrs") Lrs d

-- the same of a step of any form, which has only the fields of its form
abbrev pub said_by : Option Form → Data → Result Step ℕ
said_by None d = Err shape_code
said_by (Some form) d = if has_only (row_of form).fields d then form_said form d else Err shape_code

abbrev pub step_said : Data → Result Step ℕ
step_said d = said_by (form_of d) d

-- a step that can be said is judged by the standing before it
abbrev pub judged : Mode → Standing → Result Step ℕ → Result Step ℕ
judged mode standing (Ok step) = ok_unless (step_fault mode standing step) step
judged mode standing (Err code) = Err code

-- what a step says, or the code of its fault
abbrev pub step_of : Mode → Standing → Data → Result Step ℕ
step_of mode standing d = judged mode standing (step_said d)
