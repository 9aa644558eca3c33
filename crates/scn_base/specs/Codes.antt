-- The codes of the faults, and which is given where there are several (own choice).
use Rattle.std.specs.Prelude.{ℕ, min, List, [], ◌∷◌, fold, Bool, if◌then◌else◌, Option, Some, None, Result, Ok, Err}

-- a field is missing, unknown or of the wrong kind, or a step has none of the forms
abbrev pub shape_code : ℕ
shape_code = 1

-- a number is outside of its range, or a list is too short or too long
abbrev pub limit_code : ℕ
limit_code = 2

-- a register of the CPU interface is not there, or cannot be read or written as asked
abbrev pub unknown_register_code : ℕ
unknown_register_code = 3

-- a guest, a vCPU, a device, a PE or an interrupt is not there
abbrev pub unknown_actor_code : ℕ
unknown_actor_code = 4

-- a vCPU acts that is on no PE, or one leaves a PE that has none
abbrev pub not_loaded_code : ℕ
not_loaded_code = 5

-- a vCPU enters that is on a PE, or enters a PE that has a vCPU
abbrev pub pe_busy_code : ℕ
pe_busy_code = 6

-- a step of a PE, where the scenario is run on threads
abbrev pub pe_step_code : ℕ
pe_step_code = 7

-- a wire moves to the level that it has, or is one that another device moved before
abbrev pub wire_level_code : ℕ
wire_level_code = 8

-- an access of memory is not aligned or not inside, or an offset lies outside of its frame
abbrev pub address_code : ℕ
address_code = 9

-- the first of two codes, where there are any: the lesser
abbrev pub first_code : Option ℕ → Option ℕ → Option ℕ
first_code None other = other
first_code (Some code) None = Some code
first_code (Some code) (Some other) = Some (min code other)

-- the first code of all
abbrev pub first_of : List (Option ℕ) → Option ℕ
first_of faults = fold first_code None faults

-- the code of the first row whose test is met
abbrev pub first_met : List (Bool × ℕ) → Option ℕ
first_met [] = None
first_met (row ∷ rows) = if row.0 then Some row.1 else first_met rows

-- the value where there is no fault, else the fault
abbrev pub ok_unless : {X : Type 0} → Option ℕ → X → Result X ℕ
ok_unless None value = Ok value
ok_unless (Some code) value = Err code

-- both values where there is no fault, else the first of their faults
abbrev pub both : {X Y : Type 0} → Result X ℕ → Result Y ℕ → Result (X × Y) ℕ
both (Ok x) (Ok y) = Ok (x, y)
both (Ok x) (Err code) = Err code
both (Err code) (Ok y) = Err code
both (Err code) (Err other) = Err (min code other)
