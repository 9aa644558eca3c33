-- What an actor of a trace calls for: the forms are those of the steps of a scenario, without the fields that name who acts (own choice).
use Rattle.std.specs.Prelude.{ℕ, ◌&&◌, ◌||◌, not, List, [], ◌∷◌, Bool, true, false, nat_lt, Option, Some, None, is_some, unwrap_or, option_map, option_and_then, Result, Ok, Err, if◌then◌else◌, codes}
use Rattle.serde_json.specs.Data.{Data}
use Rattle.serde_json.specs.Find.{get}
use Rattle.scn_read.specs.JsonField.Field.{has_only, number_at, number_or, flag_at, text_at, pair_at}
use Rattle.scn_read.specs.ScnBase.Codes.{shape_code, limit_code, unknown_register_code, unknown_actor_code, address_code, first_met}
use Rattle.scn_read.specs.ScnBase.Words.{GuestShape, Actor, Vcpu, Device, IccReg, Frame, Dist, Redist, Its, Ram, GuestOp, Icc, Mem, Message, Wire, Msi}
use Rattle.scn_read.specs.GicGuest.Good.{is_usable, fits, has_frame, is_inside, is_good_event}
use Rattle.scn_read.specs.GicGuest.GicRam.Access.{is_size}
use Rattle.scn_read.specs.declared.form.Form.{Form}
use Rattle.scn_read.specs.declared.form.Form.TheVariants.{AccessRegister, AccessDistributor, AccessRedistributor, AccessIts, AccessMemory, SendMessage, MoveWire, SendMsi, EnterPe, ExitPe, ShowPe}
use Rattle.scn_read.specs.Form.{form_of}
use Rattle.scn_read.specs.Step.{value_of, register_at, wired_key, are_msi_numbers}
use Rattle.scn_read.specs.Narrow.{narrowed, narrowed_key, narrowed_frame}
use Rattle.trace_read.specs.declared.trace.TraceCall.{TraceCall}
use Rattle.trace_read.specs.declared.trace.TraceCall.TheVariants.{Vcpu as VcpuCall, Device as DeviceCall, Enter, Exit}
use Rattle.trace_read.specs.Part.{shaped, limited, true_in}

-- the fields that a form has here: those of a step but for the one that names who acts; the vCPU of a private interrupt's wire is `of`. No actor shows a PE
abbrev pub call_fields : Form → List (List ℕ)
call_fields AccessRegister = codes "icc" ∷ codes "write" ∷ []
call_fields AccessDistributor = codes "gicd" ∷ codes "size" ∷ codes "write" ∷ []
call_fields AccessRedistributor = codes "gicr" ∷ codes "of" ∷ codes "size" ∷ codes "write" ∷ []
call_fields AccessIts = codes "gits" ∷ codes "size" ∷ codes "write" ∷ []
call_fields AccessMemory = codes "ram" ∷ codes "size" ∷ codes "write" ∷ []
call_fields SendMessage = codes "message" ∷ []
call_fields MoveWire = codes "wire" ∷ codes "up" ∷ codes "of" ∷ []
call_fields SendMsi = codes "msi" ∷ []
call_fields EnterPe = codes "enter" ∷ []
call_fields ExitPe = codes "exit" ∷ []
call_fields ShowPe = []

-- a form is a device's, or a vCPU's
abbrev pub is_device_form : Form → Bool
is_device_form SendMessage = true
is_device_form MoveWire = true
is_device_form SendMsi = true
is_device_form form = false

abbrev pub is_form_of : Actor → Form → Bool
is_form_of (Vcpu guest vcpu) form = not (is_device_form form)
is_form_of (Device guest device) form = is_device_form form

-- ---- vCPUs

-- the register of the CPU interface that is read or written; it has to be there
abbrev pub register_of : Option IccReg → Option ℕ → Result TraceCall ℕ
register_of None write = Err unknown_register_code
register_of (Some reg) write = Ok (VcpuCall (Icc reg write))

abbrev pub register_call : Data → Result TraceCall ℕ
register_call d =
    if is_some (text_at (codes "icc") d) && is_some (number_or (codes "write") 0 d) then register_of (register_at d) (number_at (codes "write") d) else Err shape_code

-- a frame at the offset in the field of this name
abbrev pub access_call : List ℕ → Frame → Data → Option TraceCall
access_call name frame d =
    if is_some (number_at name d) && is_some (number_or (codes "size") 4 d) && is_some (number_or (codes "write") 0 d)
    then Some (VcpuCall (Mem frame (narrowed (value_of name d)) (narrowed (unwrap_or (number_or (codes "size") 4 d) 0)) (number_at (codes "write") d)))
    else None

-- the redistributor of a vCPU
abbrev pub redistributor_call : Data → Option TraceCall
redistributor_call d = option_and_then (λ vcpu. access_call (codes "gicr") (Redist (narrowed vcpu)) d) (number_at (codes "of") d)

-- ---- devices

abbrev pub message_call : Data → Option TraceCall
message_call d = option_map (λ spi. DeviceCall (Message (narrowed spi))) (number_at (codes "message") d)

abbrev pub wire_call : Data → Option TraceCall
wire_call d =
    if is_some (number_at (codes "wire") d) && is_some (flag_at (codes "up") d) && is_some (number_or (codes "of") 0 d)
    then Some (DeviceCall (Wire (narrowed_key (wired_key (number_at (codes "of") d) (value_of (codes "wire") d))) (unwrap_or (flag_at (codes "up") d) false)))
    else None

-- the numbers of a device and an event have 32 bits
abbrev pub msi_call : Option (ℕ × ℕ) → Result TraceCall ℕ
msi_call None = Err shape_code
msi_call (Some numbers) = limited (are_msi_numbers numbers) (DeviceCall (Msi numbers.0 numbers.1))

-- ---- all forms

-- what is called for in a form, or the code of what is not said
abbrev pub form_call : Form → Data → Result TraceCall ℕ
form_call AccessRegister d = register_call d
form_call AccessDistributor d = shaped (access_call (codes "gicd") Dist d)
form_call AccessRedistributor d = shaped (redistributor_call d)
form_call AccessIts d = shaped (access_call (codes "gits") Its d)
form_call AccessMemory d = shaped (access_call (codes "ram") Ram d)
form_call SendMessage d = shaped (message_call d)
form_call MoveWire d = shaped (wire_call d)
form_call SendMsi d = msi_call (pair_at (codes "msi") d)
form_call EnterPe d = shaped (option_and_then (true_in Enter) (get (codes "enter") d))
form_call ExitPe d = shaped (option_and_then (true_in Exit) (get (codes "exit") d))
form_call ShowPe d = Err shape_code

-- an actor calls for something in a form of its own kind, which has only its own fields
abbrev pub call_by : Actor → Option Form → Data → Result TraceCall ℕ
call_by by None d = Err shape_code
call_by by (Some form) d = if is_form_of by form && has_only (call_fields form) d then form_call form d else Err shape_code

abbrev pub call_said : Actor → Data → Result TraceCall ℕ
call_said by d = call_by by (form_of d) d

-- ---- what the guest has

-- the code of a call that its guest cannot serve
abbrev pub op_fault : GuestShape → GuestOp → Option ℕ
op_fault shape (Icc reg write) = first_met ((not (is_usable reg write), unknown_register_code) ∷ [])
op_fault shape (Mem frame offset size write) =
    first_met
    ((not (is_size size && fits size write), limit_code)
    ∷ (not (has_frame shape frame), unknown_actor_code)
    ∷ (not (is_inside shape frame offset size), address_code)
    ∷ [])

abbrev pub call_fault : GuestShape → TraceCall → Option ℕ
call_fault shape (VcpuCall op) = op_fault shape op
call_fault shape (DeviceCall op) = first_met ((not (is_good_event shape op), unknown_actor_code) ∷ [])
call_fault shape Enter = None
call_fault shape Exit = None
