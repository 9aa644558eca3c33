-- Steps as they are written read again.
use Rattle.std.proofs.Common.{◌≡◌, ℕ, ◌+◌, ◌&&◌, not, Bool, true, false, IsTrue, List, [], ◌∷◌, length, map, All, Option, Some, None, Result, Ok, is_some, is_none, unwrap_or, refl, sym, ap, subst, ◌∙◌}
use Rattle.std.specs.Prelude.{nat_lt}
use Rattle.std.specs.List.{slice_get}
use Rattle.std.proofs.lemmas.List.Elements.{All-head, All-tail}
use Rattle.serde_json.proofs.OnLiterals.{serde_json_on_literals}
use Rattle.scn_read.specs.ScnBase.Words.{IccReg, Iar0, Iar1, Hppir0, Hppir1, Eoir0, Eoir1, Dir, Rpr, Pmr, Bpr0, Bpr1, Ctlr, Igrpen0, Igrpen1, Ap0r0, Ap1r0, Sgi1r, Sre, name_of, register_named, GuestShape, Private, Spi, Lpi, Dist, Redist, Its, Ram, Icc, Mem, Message, Wire, Msi, Enter, Exit, Lrs}
use Rattle.scn_read.specs.ScnBase.declared.step.Step.{Step}
use Rattle.scn_read.specs.ScnBase.declared.step.Step.TheVariants.{Vcpu, Device, Pe}
use Rattle.scn_read.specs.ScnBase.declared.step.Mode.TheVariants.{Schedule}
use Rattle.scn_read.specs.ScnBase.declared.standing.Standing.{Standing}
use Rattle.scn_read.specs.ScnBase.Standing.{standing_after}
use Rattle.scn_read.specs.ScnBase.Good.{is_formed, stands, stand_in_turn}
use Rattle.scn_read.specs.ScnBase.GicGuest.Good.{passes, is_good_event}
use Rattle.scn_read.specs.ScnBase.StepFault.{step_fault}
use Rattle.scn_read.specs.ScnBase.Codes.{shape_code, limit_code, unknown_register_code, first_met, ok_unless}
use Rattle.scn_base.proofs.StepLemmas.{clean_is, length-pes_after}
use Rattle.scn_read.specs.Step.{step_said, judged, step_of}
use Rattle.scn_read.specs.Reading.{steps_of, step_and_rest, before_steps}
use Rattle.gic_save.specs.Step.{step_data}
use Rattle.gic_resume.specs.Back.{IsShort, StepsReadBack}

-- the name of a register names it
named : (reg : IccReg) → register_named (name_of reg) ≡ Some reg
named Iar0 = refl
named Iar1 = refl
named Hppir0 = refl
named Hppir1 = refl
named Eoir0 = refl
named Eoir1 = refl
named Dir = refl
named Rpr = refl
named Pmr = refl
named Bpr0 = refl
named Bpr1 = refl
named Ctlr = refl
named Igrpen0 = refl
named Igrpen1 = refl
named Ap0r0 = refl
named Ap1r0 = refl
named Sgi1r = refl
named Sre = refl

by_register : ℕ → ℕ → Option ℕ → Option IccReg → Result Step ℕ
by_register guest vcpu write reg = ok_unless (first_met ((false, shape_code) ∷ (not (is_some reg), unknown_register_code) ∷ [])) (Vcpu guest vcpu (Icc (unwrap_or reg Iar0) write))

by_numbers : ℕ → ℕ → ℕ → ℕ → Bool → Result Step ℕ
by_numbers guest device number event short = ok_unless (first_met ((false, shape_code) ∷ (not short, limit_code) ∷ [])) (Device guest device (Msi number event))

-- the LPIs have no wires
no_wire : (guest device id : ℕ) (up : Bool) (found : Option GuestShape) → passes (λ shape. nat_lt device shape.devices && is_good_event shape (Wire (Lpi id) up)) found ≡ true → ⊥
no_wire guest device id up None e = absurd (cc)
no_wire guest device id up (Some shape) e = of (nat_lt device shape.devices) e
  where
    of : (b : Bool) → (b && false) ≡ true → ⊥
    of true e = absurd (cc)
    of false e = absurd (cc)

said_back : (pes : ℕ) (shapes : List GuestShape) (step : Step) → IsTrue (is_formed Schedule pes shapes step) → IsShort step → step_said (step_data step) ≡ Ok step
unfolding serde_json_on_literals by_register by_numbers
said_back pes shapes (Vcpu guest vcpu (Icc reg None)) formed short = ap (by_register guest vcpu None) (named reg)
said_back pes shapes (Vcpu guest vcpu (Icc reg (Some value))) formed short = ap (by_register guest vcpu (Some value)) (named reg)
said_back pes shapes (Vcpu guest vcpu (Mem Dist offset size None)) formed short = refl
said_back pes shapes (Vcpu guest vcpu (Mem Dist offset size (Some value))) formed short = refl
said_back pes shapes (Vcpu guest vcpu (Mem (Redist of) offset size None)) formed short = refl
said_back pes shapes (Vcpu guest vcpu (Mem (Redist of) offset size (Some value))) formed short = refl
said_back pes shapes (Vcpu guest vcpu (Mem Its offset size None)) formed short = refl
said_back pes shapes (Vcpu guest vcpu (Mem Its offset size (Some value))) formed short = refl
said_back pes shapes (Vcpu guest vcpu (Mem Ram offset size None)) formed short = refl
said_back pes shapes (Vcpu guest vcpu (Mem Ram offset size (Some value))) formed short = refl
said_back pes shapes (Device guest device (Message spi)) formed short = refl
said_back pes shapes (Device guest device (Wire (Private vcpu id) up)) formed short = refl
said_back pes shapes (Device guest device (Wire (Spi id) up)) formed short = refl
said_back pes shapes (Device guest device (Wire (Lpi id) up)) formed short = absurd (no_wire guest device id up (slice_get shapes guest) formed)
said_back pes shapes (Device guest device (Msi number event)) formed short = ap (by_numbers guest device number event) short
said_back pes shapes (Pe pe (Enter guest vcpu)) formed short = refl
said_back pes shapes (Pe pe Exit) formed short = refl
said_back pes shapes (Pe pe Lrs) formed short = refl

-- a step that is formed and stands has no fault
none_is : (o : Option ℕ) → is_none o ≡ true → o ≡ None
none_is None e = refl
none_is (Some n) e = absurd (cc)

both : (a b : Bool) → a ≡ true → b ≡ true → (a && b) ≡ true
both true true e f = refl
both true false e f = absurd (cc)
both false b e f = absurd (cc)

left : (a b : Bool) → (a && b) ≡ true → a ≡ true
left true b e = refl
left false b e = absurd (cc)

right : (a b : Bool) → (a && b) ≡ true → b ≡ true
right true b e = e
right false b e = absurd (cc)

step_back : (standing : Standing) (step : Step) → IsTrue (is_formed Schedule (length standing.pes) standing.shapes step) → stands Schedule standing step ≡ true → IsShort step → step_of Schedule standing (step_data step) ≡ Ok step
step_back standing step formed stand short =
    let clean : step_fault Schedule standing step ≡ None =
    none_is (step_fault Schedule standing step) (clean_is Schedule standing step ∙ both (is_formed Schedule (length standing.pes) standing.shapes step) (stands Schedule standing step) formed stand) in
    ap (judged Schedule standing) (said_back (length standing.pes) standing.shapes step formed short) ∙ ap (λ (fault : Option ℕ). ok_unless fault step) clean

pub steps_read_back : StepsReadBack
steps_read_back standing number [] formed turn short = refl
steps_read_back standing number (step ∷ steps) formed turn short =
    let Formed : ℕ → Step → Type 0 = λ pes step. IsTrue (is_formed Schedule pes standing.shapes step) in
    let later = standing_after step standing in
    let same : length standing.pes ≡ length later.pes = sym (length-pes_after step standing.pes) in
    let rest : All (Formed (length later.pes)) steps = subst (λ (pes : ℕ). All (Formed pes) steps) same (All-tail (Formed (length standing.pes)) step steps formed) in
    ap (λ (said : Result Step ℕ). step_and_rest number said (λ step. steps_of Schedule (standing_after step standing) (number + 1) (map step_data steps)))
    (step_back standing step (All-head (Formed (length standing.pes)) step steps formed) (left (stands Schedule standing step) (stand_in_turn Schedule later steps) turn) (All-head IsShort step steps short))
    ∙ ap (before_steps step) (steps_read_back later (number + 1) steps rest (right (stands Schedule standing step) (stand_in_turn Schedule later steps) turn) (All-tail IsShort step steps short))
