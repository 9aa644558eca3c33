-- What happens in an event of a trace, by the field that says it (own choice).
use Rattle.std.specs.Prelude.{ℕ, ◌^◌, ◌&&◌, not, List, [], ◌∷◌, Bool, nat_lt, nat_le, Option, Some, None, option_map, option_and_then, Result, Ok, Err, if◌then◌else◌, find, codes}
use Rattle.std.specs.Option.{option_zip}
use Rattle.std.specs.Str.{bytes_eq}
use Rattle.serde_json.specs.Data.{Data}
use Rattle.serde_json.specs.Find.{as_bool, as_str}
use Rattle.scn_read.specs.JsonField.Field.{number_of, list_of}
use Rattle.scn_read.specs.ScnBase.Codes.{shape_code, unknown_register_code}
use Rattle.scn_read.specs.ScnBase.Words.{Actor, Key, IccReg, register_named}
use Rattle.scn_read.specs.Narrow.{narrowed}
use Rattle.floor_calls.specs.GicCall.Touch.{is_priority}
use Rattle.floor_calls.specs.GicCall.declared.touch.Touching.{Touching}
use Rattle.floor_calls.specs.GicCall.declared.touch.Touching.TheVariants.{Read as ReadPart, Register, Enables, MapLpi, Retarget, Configure, Forget}
use Rattle.trace_read.specs.declared.trace.Act.{Act}
use Rattle.trace_read.specs.declared.trace.TraceCall.{TraceCall}
use Rattle.trace_read.specs.declared.place.Place.{Place}
use Rattle.floor_calls.specs.GicBase.declared.operation.Kind.{Kind}
use Rattle.trace_read.specs.declared.trace.Act.TheVariants.{Begin, End, Reach, Take, Leave, Raise, Up, Down, Cpu, Touch, Enable, Read, Put, CtlrBegin, CtlrEnd, ItsBegin, ItsEnd, Queue}
use Rattle.trace_read.specs.declared.what.What.{What}
use Rattle.trace_read.specs.declared.what.What.TheVariants.{Read as Reads, Write as Writes, Enables as Copies, Map as Maps, Retarget as Retargets, Configure as Configures, Forget as Forgets}
use Rattle.trace_read.specs.declared.field.ActField.{ActField}
use Rattle.trace_read.specs.declared.field.ActField.TheVariants.{Begins, Ends, Reaches, Takes, Leaves, Raises, GoesUp, GoesDown, Accesses, Touches, EnablesLpis, ReadsPlace, PutsPlace, BeginsCtlr, EndsCtlr, BeginsIts, EndsIts, MovesQueue}
use Rattle.trace_read.specs.Name.{is_put}
use Rattle.trace_read.specs.Part.{shaped, limited, number_or_null, true_in, key_in, place_in, kind_in, zip_three, is_empty, one_in, two_in, three_in, four_in}
use Rattle.trace_read.specs.Call.{call_said}

-- ---- touches

-- how a touch is called
abbrev pub what_name : What → List ℕ
what_name Reads = codes "read"
what_name Writes = codes "write"
what_name Copies = codes "enables"
what_name Maps = codes "map"
what_name Retargets = codes "retarget"
what_name Configures = codes "configure"
what_name Forgets = codes "forget"

abbrev pub whats : List What
whats = Reads ∷ Writes ∷ Copies ∷ Maps ∷ Retargets ∷ Configures ∷ Forgets ∷ []

abbrev pub what_named : List ℕ → Option What
what_named text = find (λ what. bytes_eq text (what_name what)) whats

abbrev pub read_args : Option Data → Option Touching
read_args args = option_map ReadPart (option_and_then kind_in args)

abbrev pub write_args : Option (Data × Data) → Option Touching
write_args args = option_and_then (λ (a : Data × Data). option_map (λ (x : Kind × ℕ). Register x.0 x.1) (option_zip (kind_in a.0) (number_of a.1))) args

abbrev pub enables_args : Option (Data × Data) → Option Touching
enables_args args = option_and_then (λ (a : Data × Data). option_map (λ (x : Bool × Bool). Enables x.0 x.1) (option_zip (as_bool a.0) (as_bool a.1))) args

-- a target is a number of a vCPU, or null for none
abbrev pub retarget_args : Option Data → Option Touching
retarget_args args = option_map (λ target. Retarget (option_map narrowed target)) (option_and_then number_or_null args)

-- a priority is a multiple of 8 up to 248
abbrev pub map_args : Option (Data × Data × Data) → Option (ℕ × Bool × ℕ)
map_args args = option_and_then (λ (a : Data × Data × Data). zip_three (number_of a.0) (as_bool a.1) (number_of a.2)) args

abbrev pub map_of : Option (ℕ × Bool × ℕ) → Result Touching ℕ
map_of None = Err shape_code
map_of (Some x) = limited (is_priority x.2) (MapLpi (narrowed x.0) x.1 x.2)

abbrev pub configure_args : Option (Data × Data) → Option (Bool × ℕ)
configure_args args = option_and_then (λ (a : Data × Data). option_zip (as_bool a.0) (number_of a.1)) args

abbrev pub configure_of : Option (Bool × ℕ) → Result Touching ℕ
configure_of None = Err shape_code
configure_of (Some x) = limited (is_priority x.1) (Configure x.0 x.1)

-- a touch with these arguments
abbrev pub touching_of : What → List Data → Result Touching ℕ
touching_of Reads args = shaped (read_args (one_in args))
touching_of Writes args = shaped (write_args (two_in args))
touching_of Copies args = shaped (enables_args (two_in args))
touching_of Maps args = map_of (map_args (three_in args))
touching_of Retargets args = shaped (retarget_args (one_in args))
touching_of Configures args = configure_of (configure_args (two_in args))
touching_of Forgets args = if is_empty args then Ok Forget else Err shape_code

abbrev pub touching_said : Option What → Option (List Data) → Result Touching ℕ
touching_said None args = Err shape_code
touching_said (Some what) None = Err shape_code
touching_said (Some what) (Some args) = touching_of what args

-- the touch of an interrupt, with what it answers
abbrev pub touch_of : Option (Key × Option ℕ) → Result Touching ℕ → Result Act ℕ
touch_of None touching = Err shape_code
touch_of (Some x) (Err code) = Err code
touch_of (Some x) (Ok touching) = Ok (Touch x.0 touching x.1)

abbrev pub touch_in : Option (Data × Data × Data × Data) → Result Act ℕ
touch_in None = Err shape_code
touch_in (Some a) = touch_of (option_zip (key_in a.0) (number_or_null a.3)) (touching_said (option_and_then what_named (as_str a.1)) (list_of a.2))

-- ---- accesses of the CPU interface

-- the register has to be there
abbrev pub cpu_of : Option IccReg → Option ℕ → Option ℕ → Result Act ℕ
cpu_of None write answer = Err unknown_register_code
cpu_of (Some reg) write answer = Ok (Cpu reg write answer)

abbrev pub cpu_said : Option (List ℕ × Option ℕ × Option ℕ) → Result Act ℕ
cpu_said None = Err shape_code
cpu_said (Some x) = cpu_of (register_named x.0) x.1 x.2

abbrev pub cpu_args : Option (Data × Data × Data) → Option (List ℕ × Option ℕ × Option ℕ)
cpu_args args = option_and_then (λ (a : Data × Data × Data). zip_three (as_str a.0) (number_or_null a.1) (number_or_null a.2)) args

-- ---- words and registers

abbrev pub place_and_value : Option (Data × Data) → Option (Place × ℕ)
place_and_value args = option_and_then (λ (a : Data × Data). option_zip (place_in a.0) (number_of a.1)) args

abbrev pub read_of : Place × ℕ → Act
read_of x = Read x.0 x.1

abbrev pub put_of : Place × ℕ → Option Act
put_of x = if is_put x.0 then Some (Put x.0 x.1) else None

-- GICD_CTLR's two group enables
abbrev pub ctlr_of : Option ℕ → Result Act ℕ
ctlr_of None = Err shape_code
ctlr_of (Some n) = limited (nat_le n 3) (CtlrBegin n)

abbrev pub queue_args : Option (Data × Data) → Option (ℕ × Bool)
queue_args args = option_and_then (λ (a : Data × Data). option_zip (number_of a.0) (as_bool a.1)) args

abbrev pub queue_of : Option (ℕ × Bool) → Result Act ℕ
queue_of None = Err shape_code
queue_of (Some x) = limited (nat_lt x.0 (2 ^ 32)) (Queue x.0 x.1)

-- ---- all fields

-- the fields that say what happens
abbrev pub field_name : ActField → List ℕ
field_name Begins = codes "begin"
field_name Ends = codes "end"
field_name Reaches = codes "reach"
field_name Takes = codes "take"
field_name Leaves = codes "leave"
field_name Raises = codes "raise"
field_name GoesUp = codes "up"
field_name GoesDown = codes "down"
field_name Accesses = codes "cpu"
field_name Touches = codes "touch"
field_name EnablesLpis = codes "enable"
field_name ReadsPlace = codes "read"
field_name PutsPlace = codes "put"
field_name BeginsCtlr = codes "ctlr_begin"
field_name EndsCtlr = codes "ctlr_end"
field_name BeginsIts = codes "its_begin"
field_name EndsIts = codes "its_end"
field_name MovesQueue = codes "queue"

abbrev pub act_fields : List ActField
act_fields =
    Begins
    ∷ Ends
    ∷ Reaches
    ∷ Takes
    ∷ Leaves
    ∷ Raises
    ∷ GoesUp
    ∷ GoesDown
    ∷ Accesses
    ∷ Touches
    ∷ EnablesLpis
    ∷ ReadsPlace
    ∷ PutsPlace
    ∷ BeginsCtlr
    ∷ EndsCtlr
    ∷ BeginsIts
    ∷ EndsIts
    ∷ MovesQueue
    ∷ []

abbrev pub begin_of : Result TraceCall ℕ → Result Act ℕ
begin_of (Ok call) = Ok (Begin call)
begin_of (Err code) = Err code

-- what happens, by what stands in the field, or the code of what is not said
abbrev pub act_in : Actor → ActField → Data → Result Act ℕ
act_in by Begins d = begin_of (call_said by d)
act_in by Ends d = shaped (option_map End (number_or_null d))
act_in by Reaches d = shaped (option_map Reach (key_in d))
act_in by Takes d = shaped (option_map Take (key_in d))
act_in by Leaves d = shaped (option_map Leave (key_in d))
act_in by Raises d = shaped (option_map Raise (key_in d))
act_in by GoesUp d = shaped (option_map Up (key_in d))
act_in by GoesDown d = shaped (option_map Down (key_in d))
act_in by Accesses d = cpu_said (cpu_args (option_and_then three_in (list_of d)))
act_in by Touches d = touch_in (option_and_then four_in (list_of d))
act_in by EnablesLpis d = shaped (true_in Enable d)
act_in by ReadsPlace d = shaped (option_map read_of (place_and_value (option_and_then two_in (list_of d))))
act_in by PutsPlace d = shaped (option_and_then put_of (place_and_value (option_and_then two_in (list_of d))))
act_in by BeginsCtlr d = ctlr_of (number_of d)
act_in by EndsCtlr d = shaped (true_in CtlrEnd d)
act_in by BeginsIts d = shaped (true_in ItsBegin d)
act_in by EndsIts d = shaped (true_in ItsEnd d)
act_in by MovesQueue d = queue_of (queue_args (option_and_then two_in (list_of d)))
