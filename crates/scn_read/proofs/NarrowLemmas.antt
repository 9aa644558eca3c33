-- A step with its numbers in 32 bits has the fault of the whole step, and is that step where there is none.
use Rattle.std.proofs.Common.{◌≡◌, ℕ, ◌<◌, ◌≤◌, ◌⊎◌, inl, inr, ◌&&◌, not, Bool, true, false, cond, List, length, Option, Some, None, Result, Ok, Err, slice_get, nat_lt, refl, sym, ◌∙◌, ap, subst, arith}
use Rattle.std.specs.List.{All}
use Rattle.std.proofs.lemmas.Bool.{and_parts}
use Rattle.std.proofs.lemmas.Bool.Decides.{nat_tests}
use Rattle.std.proofs.lemmas.List.Elements.{All-get_or}
use Rattle.std.proofs.lemmas.Option.{slice_get_within, get_or_from_slice_get}
use Rattle.scn_base.specs.Words.{GuestShape, IccReg, Key, PeOp, Private, Spi, Lpi, Frame, Dist, Redist, Its, Ram, Icc, Mem, Message, Wire, Msi, Enter, Exit, Lrs, IsShape, has_interrupt}
use Rattle.scn_base.specs.GicRam.Access.{is_size}
use Rattle.scn_base.specs.declared.step.Step.{Step}
use Rattle.scn_base.specs.declared.step.Step.TheVariants.{Vcpu, Device, Pe}
use Rattle.scn_base.specs.declared.step.Mode.{Mode}
use Rattle.scn_base.specs.declared.step.Mode.TheVariants.{Schedule, Threads}
use Rattle.scn_base.specs.declared.standing.Standing.{Standing}
use Rattle.scn_base.specs.GicGuest.Good.{passes, is_usable, fits, has_frame, is_inside, has_wire}
use Rattle.scn_base.specs.Standing.{has_vcpu, IsStanding}
use Rattle.scn_base.specs.Good.{is_loaded}
use Rattle.scn_base.specs.StepFault.{has_access, has_device, step_fault}
use Rattle.scn_read.specs.Narrow.{narrowed, narrowed_frame, narrowed_step, narrowed_said}
use Rattle.scn_read.specs.Step.{judged}
use Rattle.scn_read.proofs.ListLemmas.{ok_parts}

-- ---- numbers

abbrev greatest : ℕ
greatest = 0xffff_ffff

kept : (n : ℕ) → n < greatest → narrowed n ≡ n
kept n below = omega arith

kept_if : (n : ℕ) → narrowed n < greatest → narrowed n ≡ n
kept_if n below = omega arith

-- four numbers stay as they are
record Kept (a b c d : ℕ) : Type 0 where
  a_is : narrowed a ≡ a
  b_is : narrowed b ≡ b
  c_is : narrowed c ≡ c
  d_is : narrowed d ≡ d

-- four numbers are below the greatest one
record Below (a b c d : ℕ) : Type 0 where
  a_below : a < greatest
  b_below : b < greatest
  c_below : c < greatest
  d_below : d < greatest

-- a test fails, of numbers as they are and in 32 bits
record Fails (test : ℕ → ℕ → ℕ → ℕ → Bool) (a b c d : ℕ) : Type 0 where
  narrow : test (narrowed a) (narrowed b) (narrowed c) (narrowed d) ≡ false
  whole : test a b c d ≡ false

by_tests : (test : ℕ → ℕ → ℕ → ℕ → Bool) → ((a b c d : ℕ) → test a b c d ≡ true → Below a b c d) → (a b c d : ℕ) (whole narrow : Bool) → test a b c d ≡ whole
    → test (narrowed a) (narrowed b) (narrowed c) (narrowed d) ≡ narrow → Kept a b c d ⊎ Fails test a b c d
by_tests test bounds a b c d true narrow w n =
    let below = bounds a b c d w in
    inl (record { a_is = kept a below.a_below; b_is = kept b below.b_below; c_is = kept c below.c_below; d_is = kept d below.d_below })
by_tests test bounds a b c d false true w n =
    let below = bounds (narrowed a) (narrowed b) (narrowed c) (narrowed d) n in
    inl (record { a_is = kept_if a below.a_below; b_is = kept_if b below.b_below; c_is = kept_if c below.c_below; d_is = kept_if d below.d_below })
by_tests test bounds a b c d false false w n = inr (record { narrow = n; whole = w })

-- a test that only small numbers pass: they stay as they are, or it fails both ways
kept_or_fails : (test : ℕ → ℕ → ℕ → ℕ → Bool) → ((a b c d : ℕ) → test a b c d ≡ true → Below a b c d) → (a b c d : ℕ) → Kept a b c d ⊎ Fails test a b c d
kept_or_fails test bounds a b c d = by_tests test bounds a b c d (test a b c d) (test (narrowed a) (narrowed b) (narrowed c) (narrowed d)) refl refl

-- ---- guests

-- a guest of a number that passes a test
record Found (guest : ℕ) (test : GuestShape → Bool) : Type 0 where
  shape : GuestShape
  guest_below : guest < 4
  is : IsShape shape
  passed : test shape ≡ true

by_shape : (shapes : List GuestShape) (guest : ℕ) (test : GuestShape → Bool) (found : Option GuestShape) → All IsShape shapes → length shapes ≤ 4 → slice_get shapes guest ≡ found → passes test found ≡ true
    → Found guest test
by_shape shapes guest test None each few e passed = absurd cc
by_shape shapes guest test (Some shape) each few e passed =
    let within = slice_get_within shapes guest shape e in
    record {
      shape = shape;
      guest_below = omega arith;
      is = subst IsShape (get_or_from_slice_get shapes guest shape shape e) (All-get_or IsShape shapes guest shape within each);
      passed = passed;
    }

found_in : (standing : Standing) (guest : ℕ) (test : GuestShape → Bool) → IsStanding standing → passes test (slice_get standing.shapes guest) ≡ true → Found guest test
found_in standing guest test fine passed = by_shape standing.shapes guest test (slice_get standing.shapes guest) fine.shapes fine.guests refl passed

-- ---- steps

-- a narrower step has the fault of the whole one, and is it where there is none
record Narrows (mode : Mode) (standing : Standing) (whole narrow : Step) : Type 0 where
  fault : step_fault mode standing narrow ≡ step_fault mode standing whole
  clean : step_fault mode standing whole ≡ None → narrow ≡ whole

-- it is the whole one
same_step : (mode : Mode) (standing : Standing) (whole narrow : Step) → narrow ≡ whole → Narrows mode standing whole narrow
same_step mode standing whole narrow e = record { fault = ap (step_fault mode standing) e; clean = λ none. e }

-- a row is met, and perhaps the one before it
never_none : {P : Type 0} (test : Bool) (first second : ℕ) → cond test (Some first) (Some second) ≡ None → P
never_none true first second e = absurd cc
never_none false first second e = absurd cc

-- both fail alike
fail_alike : (mode : Mode) (standing : Standing) (whole narrow : Step) (test : Bool) (first second : ℕ) → step_fault mode standing narrow ≡ cond test (Some first) (Some second)
    → step_fault mode standing whole ≡ cond test (Some first) (Some second) → Narrows mode standing whole narrow
fail_alike mode standing whole narrow test first second n w = record { fault = n ∙ sym w; clean = λ none. never_none test first second (sym w ∙ none) }

-- which guest, vCPU and frame
abbrev vcpu_test : Standing → ℕ → ℕ → ℕ → ℕ → Bool
vcpu_test standing guest vcpu c d = has_vcpu standing.shapes guest vcpu && nat_lt c 1 && nat_lt d 1

abbrev redist_test : Standing → ℕ → ℕ → ℕ → ℕ → Bool
redist_test standing guest vcpu of d = has_access standing.shapes guest vcpu (Redist of) && nat_lt d 1

abbrev frame_test : Standing → Frame → ℕ → ℕ → ℕ → ℕ → Bool
frame_test standing frame guest vcpu c d = has_access standing.shapes guest vcpu frame && nat_lt c 1 && nat_lt d 1

abbrev size_test : Option ℕ → ℕ → ℕ → ℕ → ℕ → Bool
size_test write size b c d = is_size size && fits size write && nat_lt b 1 && nat_lt c 1 && nat_lt d 1

abbrev message_test : Standing → ℕ → ℕ → ℕ → ℕ → Bool
message_test standing guest device spi d = has_device (λ shape. has_interrupt shape (Spi spi)) standing.shapes guest device && nat_lt d 1

abbrev ppi_test : Standing → ℕ → ℕ → ℕ → ℕ → Bool
ppi_test standing guest device vcpu id = has_device (λ shape. has_wire (Private vcpu id) && has_interrupt shape (Private vcpu id)) standing.shapes guest device

abbrev msi_test : Standing → ℕ → ℕ → ℕ → ℕ → Bool
msi_test standing guest device c d = has_device (λ shape. nat_lt 0 shape.lpis) standing.shapes guest device && nat_lt c 1 && nat_lt d 1

-- an offset that is inside its frame is small
inside_below : (shape : GuestShape) (frame : Frame) (offset size : ℕ) → IsShape shape → is_inside shape frame offset size ≡ true → offset < greatest
inside_below shape Dist offset size is e = grind (arith, nat_tests)
inside_below shape (Redist vcpu) offset size is e = grind (arith, nat_tests)
inside_below shape Its offset size is e = grind (arith, nat_tests)
inside_below shape Ram offset size is e = let ram = is.ram in grind (arith, nat_tests)

abbrev inside_test : Standing → ℕ → Frame → ℕ → ℕ → ℕ → ℕ → ℕ → Bool
inside_test standing guest frame size offset b c d = passes (λ shape. is_inside shape frame offset size) (slice_get standing.shapes guest) && nat_lt b 1 && nat_lt c 1 && nat_lt d 1

module _ (standing : Standing) (fine : IsStanding standing) where
  vcpu_below : (guest vcpu c d : ℕ) → vcpu_test standing guest vcpu c d ≡ true → Below guest vcpu c d
  vcpu_below guest vcpu c d e =
      let parts = and_parts (has_vcpu standing.shapes guest vcpu && nat_lt c 1) (nat_lt d 1) e in
      let first = and_parts (has_vcpu standing.shapes guest vcpu) (nat_lt c 1) parts.0 in
      let found = found_in standing guest (λ shape. nat_lt vcpu shape.vcpus) fine first.0 in
      let few = found.is.vcpus in
      record { a_below = omega (arith, found.guest_below); b_below = grind (arith, nat_tests); c_below = grind (arith, nat_tests); d_below = grind (arith, nat_tests) }

  redist_below : (guest vcpu of d : ℕ) → redist_test standing guest vcpu of d ≡ true → Below guest vcpu of d
  redist_below guest vcpu of d e =
      let parts = and_parts (has_access standing.shapes guest vcpu (Redist of)) (nat_lt d 1) e in
      let found = found_in standing guest (λ shape. nat_lt vcpu shape.vcpus && has_frame shape (Redist of)) fine parts.0 in
      let few = found.is.vcpus in
      record { a_below = omega (arith, found.guest_below); b_below = grind (arith, nat_tests); c_below = grind (arith, nat_tests); d_below = grind (arith, nat_tests) }

  frame_below : (frame : Frame) (guest vcpu c d : ℕ) → frame_test standing frame guest vcpu c d ≡ true → Below guest vcpu c d
  frame_below frame guest vcpu c d e =
      let parts = and_parts (has_access standing.shapes guest vcpu frame && nat_lt c 1) (nat_lt d 1) e in
      let first = and_parts (has_access standing.shapes guest vcpu frame) (nat_lt c 1) parts.0 in
      let found = found_in standing guest (λ shape. nat_lt vcpu shape.vcpus && has_frame shape frame) fine first.0 in
      let here = and_parts (nat_lt vcpu found.shape.vcpus) (has_frame found.shape frame) found.passed in
      let few = found.is.vcpus in
      record { a_below = omega (arith, found.guest_below); b_below = grind (arith, nat_tests); c_below = grind (arith, nat_tests); d_below = grind (arith, nat_tests) }

  message_below : (guest device spi d : ℕ) → message_test standing guest device spi d ≡ true → Below guest device spi d
  message_below guest device spi d e =
      let parts = and_parts (has_device (λ shape. has_interrupt shape (Spi spi)) standing.shapes guest device) (nat_lt d 1) e in
      let found = found_in standing guest (λ shape. nat_lt device shape.devices && has_interrupt shape (Spi spi)) fine parts.0 in
      let few = found.is.devices in
      let spis = found.is.spis in
      let espis = found.is.espis in
      record { a_below = omega (arith, found.guest_below); b_below = grind (arith, nat_tests); c_below = grind (arith, nat_tests); d_below = grind (arith, nat_tests) }

  ppi_below : (guest device vcpu id : ℕ) → ppi_test standing guest device vcpu id ≡ true → Below guest device vcpu id
  ppi_below guest device vcpu id e =
      let found = found_in standing guest (λ shape. nat_lt device shape.devices && (has_wire (Private vcpu id) && has_interrupt shape (Private vcpu id))) fine e in
      let few = found.is.devices in
      let vcpus = found.is.vcpus in
      record { a_below = omega (arith, found.guest_below); b_below = grind (arith, nat_tests); c_below = grind (arith, nat_tests); d_below = grind (arith, nat_tests) }

  msi_below : (guest device c d : ℕ) → msi_test standing guest device c d ≡ true → Below guest device c d
  msi_below guest device c d e =
      let parts = and_parts (has_device (λ shape. nat_lt 0 shape.lpis) standing.shapes guest device && nat_lt c 1) (nat_lt d 1) e in
      let first = and_parts (has_device (λ shape. nat_lt 0 shape.lpis) standing.shapes guest device) (nat_lt c 1) parts.0 in
      let found = found_in standing guest (λ shape. nat_lt device shape.devices && nat_lt 0 shape.lpis) fine first.0 in
      let few = found.is.devices in
      record { a_below = omega (arith, found.guest_below); b_below = grind (arith, nat_tests); c_below = grind (arith, nat_tests); d_below = grind (arith, nat_tests) }

  offset_below : (guest : ℕ) (frame : Frame) (size offset b c d : ℕ)
      → passes (λ shape. is_inside shape frame offset size) (slice_get standing.shapes guest) && nat_lt b 1 && nat_lt c 1 && nat_lt d 1 ≡ true → Below offset b c d
  offset_below guest frame size offset b c d e =
      let parts = and_parts (passes (λ shape. is_inside shape frame offset size) (slice_get standing.shapes guest) && nat_lt b 1 && nat_lt c 1) (nat_lt d 1) e in
      let second = and_parts (passes (λ shape. is_inside shape frame offset size) (slice_get standing.shapes guest) && nat_lt b 1) (nat_lt c 1) parts.0 in
      let first = and_parts (passes (λ shape. is_inside shape frame offset size) (slice_get standing.shapes guest)) (nat_lt b 1) second.0 in
      let found = found_in standing guest (λ shape. is_inside shape frame offset size) fine first.0 in
      record { a_below = inside_below found.shape frame offset size found.is found.passed; b_below = grind (arith, nat_tests); c_below = grind (arith, nat_tests); d_below = grind (arith, nat_tests) }

small_size : (size : ℕ) → is_size size ≡ true → size < greatest
small_size size e = grind (arith, nat_tests)

size_below : (write : Option ℕ) (size b c d : ℕ) → size_test write size b c d ≡ true → Below size b c d
size_below write size b c d e =
    let parts = and_parts (is_size size && fits size write && nat_lt b 1 && nat_lt c 1) (nat_lt d 1) e in
    let third = and_parts (is_size size && fits size write && nat_lt b 1) (nat_lt c 1) parts.0 in
    let second = and_parts (is_size size && fits size write) (nat_lt b 1) third.0 in
    let first = and_parts (is_size size) (fits size write) second.0 in
    record { a_below = small_size size first.0; b_below = grind (arith, nat_tests); c_below = grind (arith, nat_tests); d_below = grind (arith, nat_tests) }

-- ---- forms

abbrev narrow_goal : Mode → Standing → Step → Type 0
narrow_goal mode standing step = Narrows mode standing step (narrowed_step step)

-- what follows of Fails: the test alone
first_fails : (b c d : Bool) → (b && c && d) ≡ false → c ≡ true → d ≡ true → b ≡ false
first_fails true c d e t u = cc
first_fails false c d e t u = refl

third_fails : (b : Bool) → (b && true && true && true) ≡ false → b ≡ false
third_fails true e = cc
third_fails false e = refl

second_fails : (b c : Bool) → (b && c) ≡ false → c ≡ true → b ≡ false
second_fails true c e t = cc
second_fails false c e t = refl

narrow_register : (mode : Mode) (standing : Standing) (guest vcpu : ℕ) (reg : IccReg) (write : Option ℕ) → IsStanding standing → narrow_goal mode standing (Vcpu guest vcpu (Icc reg write))
narrow_register mode standing guest vcpu reg write fine =
    elim (kept_or_fails (vcpu_test standing) (vcpu_below standing fine) guest vcpu 0 0) [
      | inl k ↦ same_step mode standing (Vcpu guest vcpu (Icc reg write)) (Vcpu (narrowed guest) (narrowed vcpu) (Icc reg write)) (rw (k.a_is, k.b_is) refl)
      | inr f ↦
          let n = first_fails (has_vcpu standing.shapes (narrowed guest) (narrowed vcpu)) true true f.narrow refl refl in
          let w = first_fails (has_vcpu standing.shapes guest vcpu) true true f.whole refl refl in
          fail_alike mode standing (Vcpu guest vcpu (Icc reg write)) (Vcpu (narrowed guest) (narrowed vcpu) (Icc reg write)) (not (is_usable reg write)) 3 4 (rw n refl) (rw w refl)
    ]

-- a frame, with who accesses it
abbrev frame_result : Standing → ℕ → ℕ → Frame → Type 0
frame_result standing guest vcpu frame =
    ((narrowed guest ≡ guest) × (narrowed vcpu ≡ vcpu) × (narrowed_frame frame ≡ frame))
    ⊎ ((has_access standing.shapes (narrowed guest) (narrowed vcpu) (narrowed_frame frame) ≡ false) × (has_access standing.shapes guest vcpu frame ≡ false))

plain_kept : (standing : Standing) (guest vcpu : ℕ) (frame : Frame) → narrowed_frame frame ≡ frame → IsStanding standing → frame_result standing guest vcpu frame
plain_kept standing guest vcpu frame same fine =
    elim (kept_or_fails (frame_test standing frame) (frame_below standing fine frame) guest vcpu 0 0) [
      | inl k ↦ inl (k.a_is, k.b_is, same)
      | inr f ↦
          inr (
            rw same (first_fails (has_access standing.shapes (narrowed guest) (narrowed vcpu) frame) true true f.narrow refl refl),
            first_fails (has_access standing.shapes guest vcpu frame) true true f.whole refl refl,
          )
    ]

frame_kept : (standing : Standing) (guest vcpu : ℕ) (frame : Frame) → IsStanding standing → frame_result standing guest vcpu frame
frame_kept standing guest vcpu (Redist of) fine =
    elim (kept_or_fails (redist_test standing) (redist_below standing fine) guest vcpu of 0) [
      | inl k ↦ inl (k.a_is, k.b_is, rw k.c_is refl)
      | inr f ↦
          inr (
            second_fails (has_access standing.shapes (narrowed guest) (narrowed vcpu) (Redist (narrowed of))) true f.narrow refl,
            second_fails (has_access standing.shapes guest vcpu (Redist of)) true f.whole refl,
          )
    ]
frame_kept standing guest vcpu Dist fine = plain_kept standing guest vcpu Dist refl fine
frame_kept standing guest vcpu Its fine = plain_kept standing guest vcpu Its refl fine
frame_kept standing guest vcpu Ram fine = plain_kept standing guest vcpu Ram refl fine

abbrev some_code : ℕ → Option ℕ
some_code code = Some code

some_row : {P : Type 0} (a b c : Bool) → cond a (some_code 2) (cond b (some_code 4) (cond c (some_code 5) (some_code 9))) ≡ None → P
some_row true b c e = absurd cc
some_row false true c e = absurd cc
some_row false false true e = absurd cc
some_row false false false e = absurd cc

-- an access whose frame and who accesses it stay, and whose size does
access_inside : (mode : Mode) (standing : Standing) (guest vcpu : ℕ) (frame : Frame) (offset size : ℕ) (write : Option ℕ) → IsStanding standing
    → Narrows mode standing (Vcpu guest vcpu (Mem frame offset size write)) (Vcpu guest vcpu (Mem frame (narrowed offset) size write))
access_inside mode standing guest vcpu frame offset size write fine =
    let whole : Step = Vcpu guest vcpu (Mem frame offset size write) in
    let narrow : Step = Vcpu guest vcpu (Mem frame (narrowed offset) size write) in
    elim (kept_or_fails (inside_test standing guest frame size) (offset_below standing fine guest frame size) offset 0 0 0) [
      | inl k ↦ same_step mode standing whole narrow (rw k.a_is refl)
      | inr f ↦
          let n = third_fails (passes (λ shape. is_inside shape frame (narrowed offset) size) (slice_get standing.shapes guest)) f.narrow in
          let w = third_fails (passes (λ shape. is_inside shape frame offset size) (slice_get standing.shapes guest)) f.whole in
          record {
            fault = rw (n, w) refl;
            clean = λ none.
                some_row (not (is_size size && fits size write)) (not (has_access standing.shapes guest vcpu frame)) (not (is_loaded mode standing guest vcpu)) (rw w at none);
          }
    ]

narrow_access : (mode : Mode) (standing : Standing) (guest vcpu : ℕ) (frame : Frame) (offset size : ℕ) (write : Option ℕ) → IsStanding standing → narrow_goal mode standing (Vcpu guest vcpu (Mem frame offset size write))
narrow_access mode standing guest vcpu frame offset size write fine =
    let whole : Step = Vcpu guest vcpu (Mem frame offset size write) in
    let narrow : Step = narrowed_step whole in
    elim (kept_or_fails (size_test write) (size_below write) size 0 0 0) [
      | inr f ↦
          let n = third_fails (is_size (narrowed size) && fits (narrowed size) write) f.narrow in
          let w = third_fails (is_size size && fits size write) f.whole in
          fail_alike mode standing whole narrow true 2 2 (rw n refl) (rw w refl)
      | inl s ↦
          elim (frame_kept standing guest vcpu frame fine) [
            | inr f ↦ fail_alike mode standing whole narrow (not (is_size size && fits size write)) 2 4 (rw (s.a_is, f.0) refl) (rw f.1 refl)
            | inl k ↦ rw (s.a_is, k.0, k.1, k.2) (access_inside mode standing guest vcpu frame offset size write fine)
          ]
    ]

narrow_message : (mode : Mode) (standing : Standing) (guest device spi : ℕ) → IsStanding standing → narrow_goal mode standing (Device guest device (Message spi))
narrow_message mode standing guest device spi fine =
    let whole : Step = Device guest device (Message spi) in
    elim (kept_or_fails (message_test standing) (message_below standing fine) guest device spi 0) [
      | inl k ↦ same_step mode standing whole (narrowed_step whole) (rw (k.a_is, k.b_is, k.c_is) refl)
      | inr f ↦
          let n = second_fails (has_device (λ shape. has_interrupt shape (Spi (narrowed spi))) standing.shapes (narrowed guest) (narrowed device)) true f.narrow refl in
          let w = second_fails (has_device (λ shape. has_interrupt shape (Spi spi)) standing.shapes guest device) true f.whole refl in
          fail_alike mode standing whole (narrowed_step whole) true 4 4 (rw n refl) (rw w refl)
    ]

narrow_msi : (mode : Mode) (standing : Standing) (guest device number event : ℕ) → IsStanding standing → narrow_goal mode standing (Device guest device (Msi number event))
narrow_msi mode standing guest device number event fine =
    let whole : Step = Device guest device (Msi number event) in
    elim (kept_or_fails (msi_test standing) (msi_below standing fine) guest device 0 0) [
      | inl k ↦ same_step mode standing whole (narrowed_step whole) (rw (k.a_is, k.b_is) refl)
      | inr f ↦
          let n = first_fails (has_device (λ shape. nat_lt 0 shape.lpis) standing.shapes (narrowed guest) (narrowed device)) true true f.narrow refl refl in
          let w = first_fails (has_device (λ shape. nat_lt 0 shape.lpis) standing.shapes guest device) true true f.whole refl refl in
          fail_alike mode standing whole (narrowed_step whole) true 4 4 (rw n refl) (rw w refl)
    ]

-- no LPI has a wire
no_wire : (shapes : List GuestShape) (guest device id : ℕ) → has_device (λ shape. has_wire (Lpi id) && has_interrupt shape (Lpi id)) shapes guest device ≡ false
no_wire shapes guest device id = grind (arith, nat_tests)

narrow_wire : (mode : Mode) (standing : Standing) (guest device : ℕ) (key : Key) (up : Bool) → IsStanding standing → narrow_goal mode standing (Device guest device (Wire key up))
narrow_wire mode standing guest device (Spi spi) up fine =
    let whole : Step = Device guest device (Wire (Spi spi) up) in
    elim (kept_or_fails (message_test standing) (message_below standing fine) guest device spi 0) [
      | inl k ↦ same_step mode standing whole (narrowed_step whole) (rw (k.a_is, k.b_is, k.c_is) refl)
      | inr f ↦
          let n = second_fails (has_device (λ shape. has_interrupt shape (Spi (narrowed spi))) standing.shapes (narrowed guest) (narrowed device)) true f.narrow refl in
          let w = second_fails (has_device (λ shape. has_interrupt shape (Spi spi)) standing.shapes guest device) true f.whole refl in
          fail_alike mode standing whole (narrowed_step whole) true 4 4 (rw n refl) (rw w refl)
    ]
narrow_wire mode standing guest device (Private vcpu id) up fine =
    let whole : Step = Device guest device (Wire (Private vcpu id) up) in
    elim (kept_or_fails (ppi_test standing) (ppi_below standing fine) guest device vcpu id) [
      | inl k ↦ same_step mode standing whole (narrowed_step whole) (rw (k.a_is, k.b_is, k.c_is, k.d_is) refl)
      | inr f ↦ fail_alike mode standing whole (narrowed_step whole) true 4 4 (rw f.narrow refl) (rw f.whole refl)
    ]
narrow_wire mode standing guest device (Lpi id) up fine =
    let whole : Step = Device guest device (Wire (Lpi id) up) in
    fail_alike mode standing whole (narrowed_step whole) true 4 4 (rw (no_wire standing.shapes (narrowed guest) (narrowed device) (narrowed id)) refl) (rw (no_wire standing.shapes guest device id) refl)

-- a PE
pe_below : (standing : Standing) (pe b c d : ℕ) → IsStanding standing → nat_lt pe (length standing.pes) && nat_lt b 1 && nat_lt c 1 && nat_lt d 1 ≡ true → Below pe b c d
pe_below standing pe b c d fine e =
    let few = fine.pes in
    record { a_below = grind (arith, nat_tests); b_below = grind (arith, nat_tests); c_below = grind (arith, nat_tests); d_below = grind (arith, nat_tests) }

abbrev pe_test : Standing → ℕ → ℕ → ℕ → ℕ → Bool
pe_test standing pe b c d = nat_lt pe (length standing.pes) && nat_lt b 1 && nat_lt c 1 && nat_lt d 1

abbrev enter_test : Standing → ℕ → ℕ → ℕ → ℕ → Bool
enter_test standing pe guest vcpu d = (nat_lt pe (length standing.pes) && has_vcpu standing.shapes guest vcpu) && nat_lt d 1

enter_below : (standing : Standing) → IsStanding standing → (pe guest vcpu d : ℕ) → enter_test standing pe guest vcpu d ≡ true → Below pe guest vcpu d
enter_below standing fine pe guest vcpu d e =
    let parts = and_parts (nat_lt pe (length standing.pes) && has_vcpu standing.shapes guest vcpu) (nat_lt d 1) e in
    let first = and_parts (nat_lt pe (length standing.pes)) (has_vcpu standing.shapes guest vcpu) parts.0 in
    let found = found_in standing guest (λ shape. nat_lt vcpu shape.vcpus) fine first.1 in
    let few = found.is.vcpus in
    let pes = fine.pes in
    record { a_below = grind (arith, nat_tests); b_below = omega (arith, found.guest_below); c_below = grind (arith, nat_tests); d_below = grind (arith, nat_tests) }

narrow_enter : (mode : Mode) (standing : Standing) (pe guest vcpu : ℕ) → IsStanding standing → narrow_goal mode standing (Pe pe (Enter guest vcpu))
narrow_enter Schedule standing pe guest vcpu fine =
    let whole : Step = Pe pe (Enter guest vcpu) in
    elim (kept_or_fails (enter_test standing) (enter_below standing fine) pe guest vcpu 0) [
      | inl k ↦ same_step Schedule standing whole (narrowed_step whole) (rw (k.a_is, k.b_is, k.c_is) refl)
      | inr f ↦
          let n = second_fails (nat_lt (narrowed pe) (length standing.pes) && has_vcpu standing.shapes (narrowed guest) (narrowed vcpu)) true f.narrow refl in
          let w = second_fails (nat_lt pe (length standing.pes) && has_vcpu standing.shapes guest vcpu) true f.whole refl in
          fail_alike Schedule standing whole (narrowed_step whole) true 4 4 (rw n refl) (rw w refl)
    ]
narrow_enter Threads standing pe guest vcpu fine =
    let whole : Step = Pe pe (Enter guest vcpu) in
    elim (kept_or_fails (vcpu_test standing) (vcpu_below standing fine) guest vcpu 0 0) [
      | inl k ↦ fail_alike Threads standing whole (narrowed_step whole) (not (has_vcpu standing.shapes guest vcpu)) 4 7 (rw (k.a_is, k.b_is) refl) refl
      | inr f ↦
          let n = first_fails (has_vcpu standing.shapes (narrowed guest) (narrowed vcpu)) true true f.narrow refl refl in
          let w = first_fails (has_vcpu standing.shapes guest vcpu) true true f.whole refl refl in
          fail_alike Threads standing whole (narrowed_step whole) true 4 4 (rw n refl) (rw w refl)
    ]

-- an exit, or a showing
narrow_pe : (mode : Mode) (standing : Standing) (pe : ℕ) (op : PeOp) → IsStanding standing → narrow_goal mode standing (Pe pe op)
narrow_pe mode standing pe (Enter guest vcpu) fine = narrow_enter mode standing pe guest vcpu fine
narrow_pe Threads standing pe Exit fine = fail_alike Threads standing (Pe pe Exit) (Pe (narrowed pe) Exit) true 7 7 refl refl
narrow_pe Threads standing pe Lrs fine = fail_alike Threads standing (Pe pe Lrs) (Pe (narrowed pe) Lrs) true 7 7 refl refl
narrow_pe Schedule standing pe Exit fine =
    elim (kept_or_fails (pe_test standing) (λ pe b c d e. pe_below standing pe b c d fine e) pe 0 0 0) [
      | inl k ↦ same_step Schedule standing (Pe pe Exit) (Pe (narrowed pe) Exit) (rw k.a_is refl)
      | inr f ↦
          fail_alike Schedule standing (Pe pe Exit) (Pe (narrowed pe) Exit) true 4 4 (rw (third_fails (nat_lt (narrowed pe) (length standing.pes)) f.narrow) refl)
          (rw (third_fails (nat_lt pe (length standing.pes)) f.whole) refl)
    ]
narrow_pe Schedule standing pe Lrs fine =
    elim (kept_or_fails (pe_test standing) (λ pe b c d e. pe_below standing pe b c d fine e) pe 0 0 0) [
      | inl k ↦ same_step Schedule standing (Pe pe Lrs) (Pe (narrowed pe) Lrs) (rw k.a_is refl)
      | inr f ↦
          fail_alike Schedule standing (Pe pe Lrs) (Pe (narrowed pe) Lrs) true 4 4 (rw (third_fails (nat_lt (narrowed pe) (length standing.pes)) f.narrow) refl)
          (rw (third_fails (nat_lt pe (length standing.pes)) f.whole) refl)
    ]

-- every step
narrows : (mode : Mode) (standing : Standing) (step : Step) → IsStanding standing → narrow_goal mode standing step
narrows mode standing (Vcpu guest vcpu (Icc reg write)) fine = narrow_register mode standing guest vcpu reg write fine
narrows mode standing (Vcpu guest vcpu (Mem frame offset size write)) fine = narrow_access mode standing guest vcpu frame offset size write fine
narrows mode standing (Device guest device (Message spi)) fine = narrow_message mode standing guest device spi fine
narrows mode standing (Device guest device (Wire key up)) fine = narrow_wire mode standing guest device key up fine
narrows mode standing (Device guest device (Msi number event)) fine = narrow_msi mode standing guest device number event fine
narrows mode standing (Pe pe op) fine = narrow_pe mode standing pe op fine

-- ---- what is read

-- a step that was said, and the fault of what was read of it
pub fails_as_said : (mode : Mode) (standing : Standing) (said : Result Step ℕ) (step : Step) (code : ℕ) → IsStanding standing → Ok step ≡ narrowed_said said → step_fault mode standing step ≡ Some code
    → Err code ≡ judged mode standing said
fails_as_said mode standing (Ok whole) step code fine e fault =
    let same : step ≡ narrowed_step whole = cc in
    let whole_fault : step_fault mode standing whole ≡ Some code = sym (narrows mode standing whole fine).fault ∙ ap (step_fault mode standing) (sym same) ∙ fault in
    rw whole_fault refl
fails_as_said mode standing (Err other) step code fine e fault = absurd cc

pub is_as_said : (mode : Mode) (standing : Standing) (said : Result Step ℕ) (step : Step) → IsStanding standing → Ok step ≡ narrowed_said said → step_fault mode standing step ≡ None
    → Ok step ≡ judged mode standing said
is_as_said mode standing (Ok whole) step fine e fault =
    let same : step ≡ narrowed_step whole = cc in
    let narrow = narrows mode standing whole fine in
    let whole_fault : step_fault mode standing whole ≡ None = sym narrow.fault ∙ ap (step_fault mode standing) (sym same) ∙ fault in
    rw (same, narrow.clean whole_fault, whole_fault) refl
is_as_said mode standing (Err other) step fine e fault = absurd cc

-- a step that cannot be said
pub stays_unsaid : (mode : Mode) (standing : Standing) (said : Result Step ℕ) (code : ℕ) → Err code ≡ narrowed_said said → Err code ≡ judged mode standing said
stays_unsaid mode standing (Ok whole) code e = absurd cc
stays_unsaid mode standing (Err other) code e = cc

-- a step that is as it was said has no fault
pub said_is_clean : (mode : Mode) (standing : Standing) (said : Result Step ℕ) (step : Step) → Ok step ≡ judged mode standing said → step_fault mode standing step ≡ None
said_is_clean mode standing (Ok whole) step e =
    let parts = ok_parts (step_fault mode standing whole) whole step e in
    rw parts.1 parts.0
said_is_clean mode standing (Err other) step e = absurd cc
