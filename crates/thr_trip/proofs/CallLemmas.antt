-- The calls of parts, and of the first operations of a script.
use Rattle.std.proofs.Common.{◌≡◌, ℕ, zero, suc, List, [], ◌∷◌, ◌++◌, length, take, Option, Some, None, refl, ap, ◌∙◌}
use Rattle.std.specs.Prelude.{slice_get}
use Rattle.pe_place.specs.LawEagerIsHistory.Calls.{Made, answer_of, made_of}
use Rattle.gic_io.specs.Words.{DeviceOp, GuestOp}
use Rattle.port_table.specs.Calls.{Operation, Access, Device, Residence}
use Rattle.pe_place.specs.Calls.{calls_in}
use Rattle.pe_place.specs.Parts.{Part}
use Rattle.thr_trip.specs.Script.{calls_answered, calls_received}

-- one more part

made_before : (operation : Operation) (answer : Option ℕ) (early late : List Made) → made_of operation answer (early ++ late) ≡ made_of operation answer early ++ late
made_before (Access op) answer early late = refl
made_before (Device op) answer early late = refl
made_before Residence answer early late = refl

pub calls_more : (parts : List Part) (part : Part) → calls_in (parts ++ part ∷ []) ≡ calls_in parts ++ made_of part.operation part.answer []
calls_more [] part = refl
calls_more (one ∷ parts) part = ap (made_of one.operation one.answer) (calls_more parts part) ∙ made_before one.operation one.answer (calls_in parts) (made_of part.operation part.answer [])

-- one more operation of a vCPU

first_is : (x y : GuestOp) → Some x ≡ Some y → x ≡ y
first_is x y e = cc

pub answered_more :
    (script : List GuestOp) (answers : List (Option ℕ)) (op : GuestOp) (answer : Option ℕ) → slice_get script (length answers) ≡ Some op
    → calls_answered script (answers ++ answer ∷ []) ≡ calls_answered script answers ++ (record { operation = Access op; answer = answer_of answer }) ∷ []
answered_more [] [] op answer e = absurd (cc)
answered_more [] (one ∷ answers) op answer e = absurd (cc)
answered_more (one ∷ script) [] op answer e = ap (λ (o : GuestOp). (let made : Made = record { operation = Access o; answer = answer_of answer } in made) ∷ calls_answered script []) (first_is one op e) ∙ ap (λ (rest : List Made). (let made : Made = record { operation = Access op; answer = answer_of answer } in made) ∷ rest) (none script)
  where
    none : (script : List GuestOp) → calls_answered script [] ≡ []
    none [] = refl
    none (op ∷ script) = refl
answered_more (one ∷ script) (first ∷ answers) op answer e = ap (λ (rest : List Made). (let made : Made = record { operation = Access one; answer = answer_of first } in made) ∷ rest) (answered_more script answers op answer e)

-- none
pub answered_none : (script : List GuestOp) → calls_answered script [] ≡ []
answered_none [] = refl
answered_none (op ∷ script) = refl

-- one more operation of a device

device_is : (x y : DeviceOp) → Some x ≡ Some y → x ≡ y
device_is x y e = cc

pub received_more :
    (script : List DeviceOp) (done : ℕ) (op : DeviceOp) → slice_get script done ≡ Some op
    → calls_received (take (suc done) script) ≡ calls_received (take done script) ++ (record { operation = Device op; answer = answer_of None }) ∷ []
received_more [] done op e = absurd (cc)
received_more (one ∷ script) zero op e = ap (λ (o : DeviceOp). (let made : Made = record { operation = Device o; answer = answer_of None } in made) ∷ []) (device_is one op e)
received_more (one ∷ script) (suc done) op e = ap (λ (rest : List Made). (let made : Made = record { operation = Device one; answer = answer_of None } in made) ∷ rest) (received_more script done op e)
