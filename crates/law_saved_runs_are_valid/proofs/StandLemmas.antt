-- A guest and its wires, step by step.
use Rattle.std.proofs.Common.{◌≡◌, ◌≢◌, ℕ, zero, suc, ◌+◌, ◌<◌, ◌&&◌, nat_lt, Bool, true, false, cond, if◌then◌else◌, IsTrue, All, List, [], ◌∷◌, length, get_or, fold, take, Option, Some, None, inl, inr, refl, sym, ap, ◌∙◌, subst, arith}
use Rattle.std.specs.List.{slice_get, slice_set, slice_index_or}
use Rattle.std.specs.Option.{option_map_or}
use Rattle.std.proofs.lemmas.Bool.{and_parts, ltb-true}
use Rattle.std.proofs.lemmas.Bool.Decides.{eqb_tells}
use Rattle.std.proofs.lemmas.List.{length-set, length-replicate, get_or-set_same, get_or-set_other, get_or-replicate}
use Rattle.std.proofs.lemmas.List.Elements.{All-head, All-tail, All-set, All-get_or}
use Rattle.std.proofs.lemmas.List.Sums.{fold-append}
use Rattle.std.proofs.lemmas.Option.{get_or_from_slice_get, slice_get_within}
use Rattle.eager_rest.specs.LawSavesGoOn.RunsSplit.GicIdeal.IdealGuests.Words.{GuestShape, Key, Private, Spi, Lpi, Irq, IsShape, GuestOp, Message, Wire, Msi, wire_up, wire_down, has_interrupt, interrupt_count, is_same_key, key_at, place_of}
use Rattle.eager_rest.specs.LawSavesGoOn.RunsSplit.GicIdeal.IdealGuests.Calls.{GuestSpec, IsGoodGuest, Preset, passes, has_wire, is_good_op, is_good_event, irqs_of, irq_in, opening_irq, opening_irqs, preset_key, after_preset, with_irq_in, with_preset, Event, device_events}
use Rattle.eager_rest.specs.LawSavesGoOn.RunsSplit.GicIdeal.IdealGuests.declared.guest.IdealGuest.{IdealGuest}
use Rattle.eager_rest.specs.LawSavesGoOn.RunsSplit.GicIdeal.IdealGuests.Ideal.{irq_at, view_of, changed_irq, after_event, after_events}
use Rattle.eager_rest.specs.LawSavesGoOn.RunsSplit.GicIdeal.IdealGuests.Opening.{opening}
use Rattle.eager_rest.specs.LawSavesGoOn.RunsSplit.GicIdeal.Deeds.{op_events, step_events, steps_events}
use Rattle.eager_rest.specs.LawSavesGoOn.RunsSplit.GicIdeal.ScnBase.declared.standing.MovedWire.{MovedWire}
use Rattle.eager_rest.specs.LawSavesGoOn.RunsSplit.GicIdeal.ScnBase.declared.standing.Standing.{Standing}
use Rattle.eager_rest.specs.LawSavesGoOn.RunsSplit.GicIdeal.ScnBase.declared.step.Step.{Step}
use Rattle.eager_rest.specs.LawSavesGoOn.RunsSplit.GicIdeal.ScnBase.declared.step.Step.TheVariants.{Vcpu, Device, Pe}
use Rattle.eager_rest.specs.LawSavesGoOn.RunsSplit.GicIdeal.ScnBase.declared.step.Mode.{Mode}
use Rattle.eager_rest.specs.LawSavesGoOn.RunsSplit.GicIdeal.ScnBase.Good.{is_formed}
use Rattle.eager_rest.specs.LawSavesGoOn.RunsSplit.GicIdeal.ScnBase.Standing.{wire_count, wire_place, wires_after, standing_after, opening_standing}
use Rattle.eager_rest.specs.LawSavesGoOn.SavedTake.Taken.{stands_after}
use Rattle.eager_rest.proofs.LawSavesGoOn.RunsSplit.GicIdeal.IdealGuests.KeyLemmas.{irq_changed}
use Rattle.eager_rest.proofs.LawSavesGoOn.RunsSplit.GicIdeal.IdealGuests.SoundLemmas.{whole_of}
use Rattle.eager_rest.proofs.LawSavesGoOn.RunsSplit.GicIdeal.IdealGuests.GicBase.KeyLemmas.{same_key, same_itself}
use Rattle.eager_rest.proofs.LawSavesGoOn.RunsSplit.GicIdeal.IdealGuests.GicCall.PartLemmas.{each_made}
use Rattle.eager_rest.proofs.LawSavesGoOn.RunsSplit.GicIdeal.IdealGuests.GicOpen.KeyLemmas.{place_within, place_same}
use Rattle.eager_rest.proofs.LawSavesGoOn.StoredLemmas.{same_shape}
use Rattle.law_unmapped_lpis.proofs.PartLemmas.{clash}
use Rattle.law_saved_runs_are_valid.proofs.OpLemmas.{op_own, device_own_events}
use Rattle.law_saved_runs_are_valid.proofs.LineLemmas.{events_line}
use Rattle.law_saved_runs_are_valid.proofs.WireLemmas.{wire_within, wires_apart}
use Rattle.law_saved_runs_are_valid.proofs.ReachedLemmas.{IsReached, op_reached, device_reached, opens_reached}

-- a wire that was moved is at the level of its interrupt's line, and was moved by one of the guest's devices
pub record IsWired (shape : GuestShape) (key : Key) (line : Bool) (wire : MovedWire) : Type 0 where
  pub up : wire.up ≡ line
  pub device : wire.device < shape.devices
  pub there : IsTrue (has_wire key)

abbrev pub WireIs : GuestShape → Key → Bool → Option MovedWire → Type 0
WireIs shape key line None = line ≡ false
WireIs shape key line (Some wire) = IsWired shape key line wire

abbrev pub wire_at : List GuestShape → List (Option MovedWire) → ℕ → GuestShape → Key → Option MovedWire
wire_at shapes wires n shape key = slice_index_or wires (wire_count (take n shapes) + place_of shape key) None

-- the guest of a number
pub record IsThere (shapes : List GuestShape) (n : ℕ) (wires : List (Option MovedWire)) (state : IdealGuest) : Type 0 where
  pub at : slice_get shapes n ≡ Some state.shape
  pub long : length wires ≡ wire_count shapes
  pub reached : IsReached state
  pub wired : (key : Key) → IsTrue (has_interrupt state.shape key) → WireIs state.shape key (irq_at state key).line (wire_at shapes wires n state.shape key)

module _ (mode : Mode) (count : ℕ) (shapes : List GuestShape) (each : All IsShape shapes) (n : ℕ) where
  shape_of : (m : ℕ) (shape : GuestShape) → slice_get shapes m ≡ Some shape → IsShape shape
  shape_of m shape at = subst IsShape (get_or_from_slice_get shapes m shape shape at) (All-get_or IsShape shapes m shape (slice_get_within shapes m shape at) each)

  -- events that move no line
  quiet_there : (wires : List (Option MovedWire)) (state : IdealGuest) (events : List Event) → IsReached (after_events events state) → ((key : Key) → IsTrue (has_interrupt state.shape key) → (irq_at (after_events events state) key).line ≡ (irq_at state key).line)
      → IsThere shapes n wires state → IsThere shapes n wires (after_events events state)
  quiet_there wires state events reached line is =
      let shape = same_shape events state in
      record {
        at = is.at ∙ ap Some (sym shape);
        long = is.long;
        reached = reached;
        wired = λ key there.
            let here : IsTrue (has_interrupt state.shape key) = ap (λ s. has_interrupt s key) (sym shape) ∙ there in
            subst (λ s. WireIs s key (irq_at (after_events events state) key).line (wire_at shapes wires n s key)) (sym shape)
            (subst (λ l. WireIs state.shape key l (wire_at shapes wires n state.shape key)) (sym (line key here)) (is.wired key here));
      }

  -- what a test says of the shape of a number
  passed : (test : GuestShape → Bool) (m : ℕ) (shape : GuestShape) → slice_get shapes m ≡ Some shape → passes test (slice_get shapes m) ≡ true → test shape ≡ true
  passed test m shape at h = sym (ap (passes test) at) ∙ h

  some_shape : (test : GuestShape → Bool) (o : Option GuestShape) → passes test o ≡ true → (shape : GuestShape) × (o ≡ Some shape) × (test shape ≡ true)
  some_shape test None h = absurd (cc)
  some_shape test (Some shape) h = (shape, refl, h)

  -- a vCPU of the guest does something
  op_there : (wires : List (Option MovedWire)) (state : IdealGuest) (vcpu : ℕ) (op : GuestOp) → (nat_lt vcpu state.shape.vcpus && is_good_op state.shape op) ≡ true → IsThere shapes n wires state → IsThere shapes n wires (after_events (op_events op state vcpu) state)
  op_there wires state vcpu op formed is =
      let tests = and_parts (nat_lt vcpu state.shape.vcpus) (is_good_op state.shape op) formed in
      quiet_there wires state (op_events op state vcpu) (op_reached op state vcpu (ltb-true vcpu state.shape.vcpus tests.0) tests.1 is.reached)
      (λ key there. events_line (op_events op state vcpu) state key (whole_of state is.reached.rest.sound) (op_own ⊥ op state vcpu is.reached.fit tests.1) there) is

  -- a device of the guest that moves no wire
  message_there : (wires : List (Option MovedWire)) (state : IdealGuest) (spi : ℕ) → is_good_event state.shape (Message spi) ≡ true → IsThere shapes n wires state → IsThere shapes n wires (after_events (device_events (view_of state) (Message spi)) state)
  message_there wires state spi good is =
      quiet_there wires state (device_events (view_of state) (Message spi)) (device_reached (Message spi) state good is.reached)
      (λ key there. events_line (device_events (view_of state) (Message spi)) state key (whole_of state is.reached.rest.sound) (device_own_events ⊥ (Message spi) state tt) there) is

  msi_there : (wires : List (Option MovedWire)) (state : IdealGuest) (number event : ℕ) → is_good_event state.shape (Msi number event) ≡ true → IsThere shapes n wires state → IsThere shapes n wires (after_events (device_events (view_of state) (Msi number event)) state)
  msi_there wires state number event good is =
      quiet_there wires state (device_events (view_of state) (Msi number event)) (device_reached (Msi number event) state good is.reached)
      (λ key there. events_line (device_events (view_of state) (Msi number event)) state key (whole_of state is.reached.rest.sound) (device_own_events ⊥ (Msi number event) state tt) there) is

  -- a wire of the guest moves
  place_is : (m : ℕ) (shape : GuestShape) (key : Key) → slice_get shapes m ≡ Some shape → wire_place shapes m key ≡ wire_count (take m shapes) + place_of shape key
  place_is m shape key at = ap (λ o. wire_count (take m shapes) + option_map_or (λ shape. place_of shape key) o 0) at

  moved : (state : IdealGuest) (key : Key) (up : Bool) → after_events (device_events (view_of state) (Wire key up)) state ≡ changed_irq key (λ irq. if up then wire_up irq else wire_down irq) state
  moved state key true = refl
  moved state key false = refl

  line_moved : (up : Bool) (irq : Irq) → up ≡ (if up then wire_up irq else wire_down irq).line
  line_moved true irq = refl
  line_moved false irq = refl

  wire_there : (wires : List (Option MovedWire)) (state : IdealGuest) (device : ℕ) (key : Key) (up : Bool) → (nat_lt device state.shape.devices && is_good_event state.shape (Wire key up)) ≡ true → IsThere shapes n wires state
      → IsThere shapes n (slice_set wires (wire_place shapes n key) (Some (record { device = device; up = up }))) (after_events (device_events (view_of state) (Wire key up)) state)
  wire_there wires state device key up formed is =
      let tests = and_parts (nat_lt device state.shape.devices) (is_good_event state.shape (Wire key up)) formed in
      let wired = and_parts (has_wire key) (has_interrupt state.shape key) tests.1 in
      let good = shape_of n state.shape is.at in
      let reached = device_reached (Wire key up) state tests.1 is.reached in
      let wire : MovedWire = record { device = device; up = up } in
      let at = wire_count (take n shapes) + place_of state.shape key in
      let change : Irq → Irq = λ irq. if up then wire_up irq else wire_down irq in
      subst (λ place. IsThere shapes n (slice_set wires place (Some wire)) (after_events (device_events (view_of state) (Wire key up)) state)) (sym (place_is n state.shape key is.at))
      (subst (λ g. IsThere shapes n (slice_set wires at (Some wire)) g) (sym (moved state key up))
      (record {
        at = is.at;
        long = length-set wires at (Some wire) ∙ is.long;
        reached = subst IsReached (moved state key up) reached;
        wired = λ other there. by_key other there (is_same_key other key) refl good tests.0 wired.0 wired.1;
      }))
    where
      by_key : (other : Key) → IsTrue (has_interrupt state.shape other) → (b : Bool) → is_same_key other key ≡ b → IsShape state.shape → nat_lt device state.shape.devices ≡ true → IsTrue (has_wire key) → IsTrue (has_interrupt state.shape key)
          → WireIs state.shape other (irq_at (changed_irq key (λ irq. if up then wire_up irq else wire_down irq) state) other).line
          (wire_at shapes (slice_set wires (wire_count (take n shapes) + place_of state.shape key) (Some (record { device = device; up = up }))) n state.shape other)
      by_key other there true e good few has here =
          let at = wire_count (take n shapes) + place_of state.shape key in
          let wire : MovedWire = record { device = device; up = up } in
          let change : Irq → Irq = λ irq. if up then wire_up irq else wire_down irq in
          let within : at < length wires = subst (λ k. at < k) (sym is.long) (wire_within shapes n state.shape (place_of state.shape key) is.at (place_within state.shape key good here)) in
          let line : (irq_at (changed_irq key change state) key).line ≡ (change (irq_at state key)).line =
          ap (λ (irq : Irq). irq.line) (irq_changed state key key change (whole_of state is.reached.rest.sound) here) ∙ ap (λ b. (cond b (change (irq_at state key)) (irq_at state key)).line) (same_itself key) in
          subst (λ k. WireIs state.shape k (irq_at (changed_irq key change state) k).line (wire_at shapes (slice_set wires at (Some wire)) n state.shape k)) (sym (same_key other key e))
          (subst (λ w. WireIs state.shape key (irq_at (changed_irq key change state) key).line w) (sym (get_or-set_same wires at (Some wire) None within))
          (record { up = line_moved up (irq_at state key) ∙ sym line; device = ltb-true device state.shape.devices few; there = has }))
      by_key other there false e good few has here =
          let at = wire_count (take n shapes) + place_of state.shape key in
          let wire : MovedWire = record { device = device; up = up } in
          let change : Irq → Irq = λ irq. if up then wire_up irq else wire_down irq in
          let line : (irq_at (changed_irq key change state) other).line ≡ (irq_at state other).line =
          ap (λ (irq : Irq). irq.line) (irq_changed state key other change (whole_of state is.reached.rest.sound) there) ∙ ap (λ b. (cond b (change (irq_at state other)) (irq_at state other)).line) e in
          let apart : wire_count (take n shapes) + place_of state.shape other ≢ at =
          λ same. clash (is_same_key other key) (ap (is_same_key other) (sym (place_same state.shape other key good there here (less (wire_count (take n shapes)) (place_of state.shape other) (place_of state.shape key) same))) ∙ same_itself other) e in
          subst (λ l. WireIs state.shape other l (wire_at shapes (slice_set wires at (Some wire)) n state.shape other)) (sym line)
          (subst (λ w. WireIs state.shape other (irq_at state other).line w) (sym (get_or-set_other wires at (wire_count (take n shapes) + place_of state.shape other) (Some wire) None apart)) (is.wired other there))
        where
          less : (a b c : ℕ) → a + b ≡ a + c → b ≡ c
          less a b c e = omega (arith, e)

  -- a wire of another guest
  other_there : (wires : List (Option MovedWire)) (state : IdealGuest) (m : ℕ) (shape : GuestShape) (key : Key) (wire : Option MovedWire) → m ≢ n → slice_get shapes m ≡ Some shape → IsTrue (has_interrupt shape key) → IsThere shapes n wires state
      → IsThere shapes n (slice_set wires (wire_place shapes m key) wire) state
  other_there wires state m shape key wire differ at there is = record {
    at = is.at;
    long = length-set wires (wire_place shapes m key) wire ∙ is.long;
    reached = is.reached;
    wired = λ other has.
        let good = shape_of n state.shape is.at in
        let apart : wire_count (take n shapes) + place_of state.shape other ≢ wire_place shapes m key =
        λ same. wires_apart shapes n m state.shape shape (place_of state.shape other) (place_of shape key) (λ e. differ (sym e)) is.at at (place_within state.shape other good has) (place_within shape key (shape_of m shape at) there) (same ∙ place_is m shape key at) in
        subst (λ w. WireIs state.shape other (irq_at state other).line w) (sym (get_or-set_other wires (wire_place shapes m key) (wire_count (take n shapes) + place_of state.shape other) wire None apart)) (is.wired other has);
  }

  -- ---- steps

  pub step_there : (step : Step) (wires : List (Option MovedWire)) (state : IdealGuest) → IsTrue (is_formed mode count shapes step) → IsThere shapes n wires state → IsThere shapes n (wires_after shapes step wires) (after_events (step_events n step state) state)
  step_there (Vcpu g vcpu op) wires state formed is =
      let test : GuestShape → Bool = λ shape. nat_lt vcpu shape.vcpus && is_good_op shape op in
      elim (eqb_tells g n) [
        | inl same ↦ rw same.0 (op_there wires state vcpu op (passed test n state.shape is.at (subst (λ m. passes test (slice_get shapes m) ≡ true) same.1 formed)) is)
        | inr differ ↦ rw differ.0 is
      ]
  step_there (Device g device (Message spi)) wires state formed is =
      let test : GuestShape → Bool = λ shape. nat_lt device shape.devices && is_good_event shape (Message spi) in
      elim (eqb_tells g n) [
        | inl same ↦ rw same.0 (message_there wires state spi (and_parts (nat_lt device state.shape.devices) (is_good_event state.shape (Message spi)) (passed test n state.shape is.at (subst (λ m. passes test (slice_get shapes m) ≡ true) same.1 formed))).1 is)
        | inr differ ↦ rw differ.0 is
      ]
  step_there (Device g device (Msi number event)) wires state formed is =
      let test : GuestShape → Bool = λ shape. nat_lt device shape.devices && is_good_event shape (Msi number event) in
      elim (eqb_tells g n) [
        | inl same ↦ rw same.0 (msi_there wires state number event (and_parts (nat_lt device state.shape.devices) (is_good_event state.shape (Msi number event)) (passed test n state.shape is.at (subst (λ m. passes test (slice_get shapes m) ≡ true) same.1 formed))).1 is)
        | inr differ ↦ rw differ.0 is
      ]
  step_there (Device g device (Wire key up)) wires state formed is =
      let test : GuestShape → Bool = λ shape. nat_lt device shape.devices && is_good_event shape (Wire key up) in
      elim (eqb_tells g n) [
        | inl same ↦
            rw same.0
            (subst (λ m. IsThere shapes n (slice_set wires (wire_place shapes m key) (Some (record { device = device; up = up }))) (after_events (device_events (view_of state) (Wire key up)) state)) (sym same.1)
            (wire_there wires state device key up (passed test n state.shape is.at (subst (λ m. passes test (slice_get shapes m) ≡ true) same.1 formed)) is))
        | inr differ ↦
            let found = some_shape test (slice_get shapes g) formed in
            let wired = and_parts (has_wire key) (has_interrupt found.0 key) (and_parts (nat_lt device found.0.devices) (is_good_event found.0 (Wire key up)) found.2).1 in
            rw differ.0 (other_there wires state g found.0 key (Some (record { device = device; up = up })) differ.1 found.1 wired.1 is)
      ]
  step_there (Pe pe op) wires state formed is = is

  pub steps_there : (steps : List Step) (standing : Standing) (state : IdealGuest) → standing.shapes ≡ shapes → All (λ step. IsTrue (is_formed mode count shapes step)) steps → IsThere shapes n standing.wires state
      → IsThere shapes n (stands_after steps standing).wires (after_events (steps_events n steps state) state)
  steps_there [] standing state same formed is = is
  steps_there (step ∷ steps) standing state same formed is =
      let events = step_events n step state in
      let middle = after_events events state in
      let first : IsThere shapes n (standing_after step standing).wires middle =
      subst (λ s. IsThere shapes n (wires_after s step standing.wires) middle) (sym same) (step_there step standing.wires state (All-head (λ step. IsTrue (is_formed mode count shapes step)) step steps formed) is) in
      subst (λ g. IsThere shapes n (stands_after steps (standing_after step standing)).wires g) (sym (fold-append after_event state events (steps_events n steps middle)))
      (steps_there steps (standing_after step standing) middle same (All-tail (λ step. IsTrue (is_formed mode count shapes step)) step steps formed) first)

-- ---- as guests open

-- each line is down
IsDown : Irq → Type 0
IsDown irq = irq.line ≡ false

opened_down : (on : Bool) (key : Key) → (opening_irq on key).line ≡ false
opened_down on (Private vcpu id) = refl
opened_down on (Spi id) = refl
opened_down on (Lpi id) = refl

down_in : (shape : GuestShape) (irqs : List Irq) (key : Key) → All IsDown irqs → (irq_in shape irqs key).line ≡ false
unfolding IsDown
down_in shape irqs key all = of (has_interrupt shape key)
  where
    got : (irqs : List Irq) (n : ℕ) (d : Irq) → d.line ≡ false → All IsDown irqs → (get_or irqs n d).line ≡ false
    got [] n d down all = down
    got (x ∷ xs) zero d down all = All-head IsDown x xs all
    got (x ∷ xs) (suc n) d down all = got xs n d down (All-tail IsDown x xs all)

    of : (b : Bool) → (cond b (get_or irqs (place_of shape key) (opening_irq false key)) (opening_irq false key)).line ≡ false
    of true = got irqs (place_of shape key) (opening_irq false key) (opened_down false key) all
    of false = opened_down false key

put_down : (shape : GuestShape) (irqs : List Irq) (key : Key) (irq : Irq) → irq.line ≡ false → All IsDown irqs → All IsDown (with_irq_in shape key irq irqs)
unfolding IsDown
put_down shape irqs key irq down all = of (has_interrupt shape key)
  where
    of : (b : Bool) → All IsDown (cond b (slice_set irqs (place_of shape key) irq) irqs)
    of true = All-set IsDown irqs (place_of shape key) irq down all
    of false = all

presets_down : (shape : GuestShape) (presets : List Preset) (irqs : List Irq) → All IsDown irqs → All IsDown (fold (after_preset shape) irqs presets)
presets_down shape [] irqs all = all
presets_down shape (preset ∷ presets) irqs all = presets_down shape presets (after_preset shape irqs preset) (put_down shape irqs (preset_key preset) (with_preset preset (irq_in shape irqs (preset_key preset))) (down_in shape irqs (preset_key preset) all) all)

all_down : (guest : GuestSpec) → All IsDown (irqs_of guest)
unfolding IsDown
all_down guest = presets_down guest.shape guest.presets (opening_irqs guest.on guest.shape) (each_made IsDown (λ place. opening_irq guest.on (key_at guest.shape place)) (interrupt_count guest.shape) (λ place few. opened_down guest.on (key_at guest.shape place)))

pub opens_there : (shapes : List GuestShape) (n : ℕ) (guest : GuestSpec) (pes : ℕ) → IsGoodGuest guest → slice_get shapes n ≡ Some guest.shape → IsThere shapes n (opening_standing pes shapes).wires (opening guest)
opens_there shapes n guest pes good at =
    let none : Option MovedWire = None in
    record {
      at = at;
      long = length-replicate (wire_count shapes) none;
      reached = opens_reached guest good;
      wired = λ key there.
          subst (λ w. WireIs guest.shape key (irq_at (opening guest) key).line w)
          (sym (get_or-replicate (wire_count shapes) (wire_count (take n shapes) + place_of guest.shape key) none none (wire_within shapes n guest.shape (place_of guest.shape key) at (place_within guest.shape key good.shape there))))
          (down_in guest.shape (irqs_of guest) key (all_down guest));
    }
