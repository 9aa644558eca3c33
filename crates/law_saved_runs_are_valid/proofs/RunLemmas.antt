-- What is saved of a scenario can have been saved.
use Rattle.std.proofs.Common.{◌≡◌, ℕ, zero, suc, ◌+◌, ◌<◌, ◌==◌, Bool, true, false, if◌then◌else◌, IsTrue, is_some, All, List, [], ◌∷◌, length, map, take, drop, Option, Some, None, refl, sym, ap, ◌∙◌, subst, arith}
use Rattle.std.specs.List.{slice_get, slice_index_or}
use Rattle.std.specs.Option.{option_map}
use Rattle.std.proofs.lemmas.Bool.{and_parts, lt-ltb}
use Rattle.std.proofs.lemmas.List.{length-map, length-take-le, length-drop, get_or-drop}
use Rattle.std.proofs.lemmas.List.Elements.{All-head, All-tail, All-get_or, All-take, All-drop, All-map}
use Rattle.std.proofs.lemmas.List.Sums.{count_by-le-length}
use Rattle.std.proofs.lemmas.Option.{same_Some, slice_get-map, get_or_from_slice_get, slice_get_within}
use Rattle.eager_rest.specs.LawSavesGoOn.RunsSplit.GicIdeal.IdealGuests.Words.{GuestShape, Key, Lpi, IsShape, has_interrupt, interrupt_count, key_at, place_of}
use Rattle.eager_rest.specs.LawSavesGoOn.RunsSplit.GicIdeal.IdealGuests.Registers.{has_target}
use Rattle.eager_rest.specs.LawSavesGoOn.RunsSplit.GicIdeal.IdealGuests.Calls.{GuestSpec, IsGoodGuest, shapes_of, has_wire}
use Rattle.eager_rest.specs.LawSavesGoOn.RunsSplit.GicIdeal.IdealGuests.declared.guest.IdealGuest.{IdealGuest}
use Rattle.eager_rest.specs.LawSavesGoOn.RunsSplit.GicIdeal.IdealGuests.Ideal.{irq_at, view_of, after_events}
use Rattle.eager_rest.specs.LawSavesGoOn.RunsSplit.GicIdeal.IdealGuests.Opening.{opening}
use Rattle.eager_rest.specs.LawSavesGoOn.RunsSplit.GicIdeal.IdealGuests.Sound.{IsSound}
use Rattle.eager_rest.specs.LawSavesGoOn.RunsSplit.GicIdeal.Deeds.{steps_events}
use Rattle.eager_rest.specs.LawSavesGoOn.RunsSplit.GicIdeal.ScnBase.declared.scenario.Scenario.{Scenario}
use Rattle.eager_rest.specs.LawSavesGoOn.RunsSplit.GicIdeal.ScnBase.declared.standing.MovedWire.{MovedWire}
use Rattle.eager_rest.specs.LawSavesGoOn.RunsSplit.GicIdeal.ScnBase.declared.standing.Standing.{Standing}
use Rattle.eager_rest.specs.LawSavesGoOn.RunsSplit.GicIdeal.ScnBase.declared.step.Step.{Step}
use Rattle.eager_rest.specs.LawSavesGoOn.RunsSplit.GicIdeal.ScnBase.declared.step.Mode.TheVariants.{Schedule}
use Rattle.eager_rest.specs.LawSavesGoOn.RunsSplit.GicIdeal.ScnBase.Good.{IsGood, is_formed, stands, stand_in_turn}
use Rattle.eager_rest.specs.LawSavesGoOn.RunsSplit.GicIdeal.ScnBase.Standing.{wire_count, opening_standing, standing_after}
use Rattle.eager_rest.specs.SavedCheck.SavedGuest.ScnSaved.Read.{is_read}
use Rattle.eager_rest.specs.SavedCheck.SavedGuest.Standing.{no_device}
use Rattle.eager_rest.specs.SavedCheck.SavedGuest.Valid.{is_device_or_none}
use Rattle.eager_rest.specs.SavedCheck.SavedGuest.Whole.{AreValidStates}
use Rattle.eager_rest.specs.LawSavesGoOn.SavedTake.Taken.{mover_of, wires_at, all_taken, stands_after, standing_at, saved_of}
use Rattle.eager_rest.specs.LawSavesGoOn.SavedTake.Back.{IsLevelOf, AreLevels, AreTaken}
use Rattle.eager_rest.specs.LawSavesGoOn.Stored.{HoldsOwnBits}
use Rattle.eager_rest.specs.LawSavesGoOn.Resume.{reached}
use Rattle.eager_rest.proofs.LawSavesGoOn.RunsSplit.GicIdeal.StepLemmas.{steps_are_events}
use Rattle.eager_rest.proofs.LawSavesGoOn.RunsSplit.GicIdeal.IdealGuests.GicOpen.KeyLemmas.{key_at_there, place_at}
use Rattle.eager_rest.proofs.ScnBase.PesLemmas.{residents_exist, length-opening_pes}
use Rattle.eager_rest.proofs.LawSavesGoOn.SavedTake.StandingBack.{standing_tells_back}
use Rattle.eager_rest.proofs.LawSavesGoOn.ShapeLemmas.{shapes_reached}
use Rattle.eager_rest.proofs.LawSavesGoOn.StoredLemmas.{states_hold_own_bits, same_shape}
use Rattle.eager_rest.proofs.LawSavesGoOn.ResumeLemmas.{saved_then_resumed}
use Rattle.gic_resume.proofs.BackLemmas.{images_read_back}
use Rattle.law_unmapped_lpis.proofs.PartLemmas.{clash}
use Rattle.law_saved_runs_are_valid.specs.Valid.{SavedRunsAreValid, SavedRunsAreResumed}
use Rattle.law_saved_runs_are_valid.proofs.CopyLemmas.{copied}
use Rattle.law_saved_runs_are_valid.proofs.PeLemmas.{StandRight, step_right, opens_once, once_told}
use Rattle.law_saved_runs_are_valid.proofs.RecLemmas.{IsStill}
use Rattle.law_saved_runs_are_valid.proofs.StandLemmas.{IsWired, WireIs, IsThere, steps_there, opens_there}
use Rattle.law_saved_runs_are_valid.proofs.StateLemmas.{CanBeTaken, valid_state}

-- ---- PEs, and steps in turn

first_right : (shapes : List GuestShape) (count : ℕ) (steps : List Step) (done : ℕ) (standing : Standing) → All (λ step. IsTrue (is_formed Schedule count shapes step)) steps → IsTrue (stand_in_turn Schedule standing steps) → StandRight shapes count standing.pes
    → StandRight shapes count (stands_after (take done steps) standing).pes
first_right shapes count steps zero standing formed turn right = right
first_right shapes count [] (suc done) standing formed turn right = right
first_right shapes count (step ∷ steps) (suc done) standing formed turn right =
    let both = and_parts (stands Schedule standing step) (stand_in_turn Schedule (standing_after step standing) steps) turn in
    first_right shapes count steps done (standing_after step standing) (All-tail (λ step. IsTrue (is_formed Schedule count shapes step)) step steps formed) both.1
    (step_right shapes count standing step (All-head (λ step. IsTrue (is_formed Schedule count shapes step)) step steps formed) both.0 right)

later_turn : (steps : List Step) (done : ℕ) (standing : Standing) → IsTrue (stand_in_turn Schedule standing steps) → IsTrue (stand_in_turn Schedule (stands_after (take done steps) standing) (drop done steps))
later_turn steps zero standing turn = turn
later_turn [] (suc done) standing turn = refl
later_turn (step ∷ steps) (suc done) standing turn = later_turn steps done (standing_after step standing) (and_parts (stands Schedule standing step) (stand_in_turn Schedule (standing_after step standing) steps) turn).1

shapes_stay : (steps : List Step) (standing : Standing) → (stands_after steps standing).shapes ≡ standing.shapes
shapes_stay [] standing = refl
shapes_stay (step ∷ steps) standing = shapes_stay steps (standing_after step standing)

-- ---- wires

module _ (shape : GuestShape) (good : IsShape shape) (key : Key) (line : Bool) where
  level_is : (wire : Option MovedWire) → WireIs shape key line wire → (wire ≡ None → line ≡ false) × ((w : MovedWire) → wire ≡ Some w → IsWired shape key line w)
  level_is None is = (λ e. is, λ w e. absurd (cc))
  level_is (Some w) is = (λ e. absurd (cc), λ v e. subst (IsWired shape key line) (same_Some w v e) is)

  mover_there : (wire : Option MovedWire) → WireIs shape key line wire → IsTrue (is_device_or_none shape (mover_of wire))
  mover_there None is = refl
  mover_there (Some w) is = of (w.device == no_device)
    where
      of : (b : Bool) → IsTrue (is_device_or_none shape (if b then None else Some w.device))
      of true = refl
      of false = lt-ltb w.device shape.devices is.device

  still_there : (wire : Option MovedWire) → WireIs shape key line wire → has_wire key ≡ false → IsStill line wire
  still_there None is none = record { down = is; unmoved = refl }
  still_there (Some w) is none = absurd (clash (has_wire key) is.there none)

  no_such : (w : MovedWire) → IsWired shape key line w → w.device ≡ no_device → ⊥
  no_such w is e = let few = good.devices in let below = is.device in omega (arith, few, below, e)

-- ---- one guest

module _ (scenario : Scenario) (done : ℕ) (good : IsGood Schedule scenario) where
  abbrev at_last : Standing
  at_last = standing_at scenario done

  formed : All (λ step. IsTrue (is_formed Schedule scenario.pes (shapes_of scenario.guests) step)) (take done scenario.steps)
  formed = All-take (λ step. IsTrue (is_formed Schedule scenario.pes (shapes_of scenario.guests) step)) done scenario.steps good.each_step

  shapes_good : All IsShape (shapes_of scenario.guests)
  shapes_good = All-map IsShape (λ (guest : GuestSpec). guest.shape) scenario.guests (λ k d h. (good.each_guest k d h).shape)

  module _ (n : ℕ) (guest : GuestSpec) (here : slice_get scenario.guests n ≡ Some guest) where
    abbrev state : IdealGuest
    state = after_events (steps_events n (take done scenario.steps) (opening guest)) (opening guest)

    at : slice_get (shapes_of scenario.guests) n ≡ Some guest.shape
    at = slice_get-map (λ (guest : GuestSpec). guest.shape) scenario.guests n ∙ ap (option_map (λ (guest : GuestSpec). guest.shape)) here

    guest_good : IsGoodGuest guest
    guest_good = subst IsGoodGuest (get_or_from_slice_get scenario.guests n guest guest here) (All-get_or IsGoodGuest scenario.guests n guest (slice_get_within scenario.guests n guest here) good.each_guest)

    shape_is : state.shape ≡ guest.shape
    shape_is = same_shape (steps_events n (take done scenario.steps) (opening guest)) (opening guest)

    is_there : IsThere (shapes_of scenario.guests) n at_last.wires state
    is_there =
        steps_there Schedule scenario.pes (shapes_of scenario.guests) shapes_good n (take done scenario.steps) (opening_standing scenario.pes (shapes_of scenario.guests)) (opening guest) refl formed
        (opens_there (shapes_of scenario.guests) n guest scenario.pes guest_good at)

    state_here : slice_get (reached scenario done) n ≡ Some state
    state_here = steps_are_events (map opening scenario.guests) (take done scenario.steps) n (opening guest) (slice_get-map opening scenario.guests n ∙ ap (option_map opening) here)

    held : HoldsOwnBits state
    held =
        subst HoldsOwnBits (get_or_from_slice_get (reached scenario done) n state state state_here)
        (All-get_or HoldsOwnBits (reached scenario done) n state (slice_get_within (reached scenario done) n state state_here) (states_hold_own_bits scenario.guests (take done scenario.steps)))

    sound : IsSound state
    sound = is_there.reached.rest.sound

    -- the wire of a place
    wire_is : (place : ℕ) → place < interrupt_count state.shape → WireIs state.shape (key_at state.shape place) (irq_at state (key_at state.shape place)).line (slice_index_or (wires_at at_last n) place None)
    wire_is place few =
        let key = key_at state.shape place in
        let index : wire_count (take n (shapes_of scenario.guests)) + place_of state.shape key ≡ wire_count (take n at_last.shapes) + place =
        ap (λ k. wire_count (take n (shapes_of scenario.guests)) + k) (place_at state.shape place sound.shape few) ∙ ap (λ s. wire_count (take n s) + place) (sym (shapes_stay (take done scenario.steps) (opening_standing scenario.pes (shapes_of scenario.guests)))) in
        subst (WireIs state.shape key (irq_at state key).line) (ap (λ k. slice_index_or at_last.wires k None) index ∙ sym (get_or-drop (wire_count (take n at_last.shapes)) at_last.wires place None))
        (is_there.wired key (key_at_there state.shape place sound.shape few))

    targets_are : (id : ℕ) → IsTrue (has_interrupt state.shape (Lpi id)) → (b : Bool) → has_target state.tables id ≡ b → is_some ((view_of state).targets id) ≡ b
    targets_are id there true e = is_there.reached.some id there e
    targets_are id there false e = ap is_some (is_there.reached.none id e)

    pub can_be_taken : CanBeTaken guest (wires_at (standing_at scenario done) n) (after_events (steps_events n (take done scenario.steps) (opening guest)) (opening guest))
    can_be_taken = record {
      good = guest_good;
      sound = sound;
      order = is_there.reached.rest.order;
      held = held;
      fit = is_there.reached.fit;
      owned = is_there.reached.owned;
      copies = copied Schedule scenario.pes (shapes_of scenario.guests) n guest (take done scenario.steps) guest_good sound at formed;
      targets = λ id there. targets_are id there (has_target state.tables id) refl;
      shape = shape_is;
      still = λ place few none. still_there state.shape sound.shape (key_at state.shape place) (irq_at state (key_at state.shape place)).line (slice_index_or (wires_at at_last n) place None) (wire_is place few) none;
      movers = λ place few. mover_there state.shape sound.shape (key_at state.shape place) (irq_at state (key_at state.shape place)).line (slice_index_or (wires_at at_last n) place None) (wire_is place few);
    }

    level_of : (place : ℕ) → place < interrupt_count state.shape → (wire : Option MovedWire) → WireIs state.shape (key_at state.shape place) (irq_at state (key_at state.shape place)).line wire → IsLevelOf (irq_at state (key_at state.shape place)) wire
    level_of place few None is = is
    level_of place few (Some w) is = (is.up, λ e. absurd (no_such state.shape sound.shape (key_at state.shape place) (irq_at state (key_at state.shape place)).line w is e))

    pub levels : AreLevels (wires_at (standing_at scenario done) n) (after_events (steps_events n (take done scenario.steps) (opening guest)) (opening guest))
    levels place few = level_of place few (slice_index_or (wires_at at_last n) place None) (wire_is place few)

-- ---- all guests

record IsOne (standing : Standing) (n : ℕ) (guest : GuestSpec) (state : IdealGuest) : Type 0 where
  pub taken : CanBeTaken guest (wires_at standing n) state
  pub levels : AreLevels (wires_at standing n) state

abbrev Each : Standing → ℕ → List GuestSpec → List IdealGuest → Type 0
Each standing n guests states = (k : ℕ) (guest : GuestSpec) (state : IdealGuest) → slice_get guests k ≡ Some guest → slice_get states k ≡ Some state → IsOne standing (n + k) guest state

first_one : (standing : Standing) (n : ℕ) (guest : GuestSpec) (guests : List GuestSpec) (state : IdealGuest) (states : List IdealGuest) → Each standing n (guest ∷ guests) (state ∷ states) → IsOne standing n guest state
first_one standing n guest guests state states each = subst (λ m. IsOne standing m guest state) (omega arith) (each 0 guest state refl refl)

other_ones : (standing : Standing) (n : ℕ) (guest : GuestSpec) (guests : List GuestSpec) (state : IdealGuest) (states : List IdealGuest) → Each standing n (guest ∷ guests) (state ∷ states) → Each standing (n + 1) guests states
other_ones standing n guest guests state states each = λ k one two a b. subst (λ m. IsOne standing m one two) (omega arith) (each (suc k) one two a b)

all_valid : (standing : Standing) (n : ℕ) (guests : List GuestSpec) (states : List IdealGuest) → length states ≡ length guests → Each standing n guests states → AreValidStates guests (all_taken standing n guests states)
all_valid standing n [] states many each = tt
all_valid standing n (guest ∷ guests) [] many each = absurd (omega (arith, many))
all_valid standing n (guest ∷ guests) (state ∷ states) many each =
    (valid_state guest (wires_at standing n) state (first_one standing n guest guests state states each).taken, all_valid standing (n + 1) guests states (omega (arith, many)) (other_ones standing n guest guests state states each))

are_taken : (standing : Standing) (n : ℕ) (guests : List GuestSpec) (states : List IdealGuest) → length states ≡ length guests → Each standing n guests states → AreTaken standing n guests states
are_taken standing n [] [] many each = tt
are_taken standing n [] (state ∷ states) many each = absurd (omega (arith, many))
are_taken standing n (guest ∷ guests) [] many each = absurd (omega (arith, many))
are_taken standing n (guest ∷ guests) (state ∷ states) many each =
    let one = first_one standing n guest guests state states each in
    (record { good = one.taken.good; sound = one.taken.sound; shape = one.taken.shape; levels = one.levels }, are_taken standing (n + 1) guests states (omega (arith, many)) (other_ones standing n guest guests state states each))

pub saved_runs_are_valid : SavedRunsAreValid
saved_runs_are_valid scenario done good few =
    let standing = standing_at scenario done in
    let states = reached scenario done in
    let shapes = shapes_of scenario.guests in
    let opened = opening_standing scenario.pes shapes in
    let many : length states ≡ length scenario.guests =
    sym (length-map states (λ (state : IdealGuest). state.shape)) ∙ ap length (shapes_reached (take done scenario.steps) scenario.guests) ∙ length-map scenario.guests (λ (guest : GuestSpec). guest.shape) in
    let each : Each standing 0 scenario.guests states = λ k guest state a b.
    let is : after_events (steps_events k (take done scenario.steps) (opening guest)) (opening guest) ≡ state = same_Some _ state (sym (state_here scenario done good k guest a) ∙ b) in
    subst (λ m. IsOne standing m guest state) (omega arith) (subst (IsOne standing k guest) is (record { taken = can_be_taken scenario done good k guest a; levels = levels scenario done good k guest a })) in
    let right = first_right shapes scenario.pes scenario.steps done opened good.each_step good.in_turn (record { each = length-opening_pes scenario.pes shapes; residents = residents_exist scenario.pes shapes; once = opens_once scenario.pes shapes }) in
    let long : length (take done scenario.steps) ≡ done = length-take-le done scenario.steps few in
    let reads = count_by-le-length is_read (take done scenario.steps) in
    let left = length-drop done scenario.steps in
    let most = good.steps in
    record {
      run = record {
        some_pe = good.some_pe;
        pes = good.pes;
        some_list_register = good.some_list_register;
        list_registers = good.list_registers;
        some_guest = good.some_guest;
        guests = good.guests;
        each_guest = good.each_guest;
        each_pe = right.each;
        residents = right.residents;
        once = once_told standing.pes right.once;
        states = all_valid standing 0 scenario.guests states many each;
        reads = omega (arith, reads, long);
        steps = omega (arith, left, few, most);
      };
      each_step = All-drop (λ step. IsTrue (is_formed Schedule scenario.pes shapes step)) done scenario.steps good.each_step;
      in_turn =
          subst (λ s. IsTrue (stand_in_turn Schedule s (drop done scenario.steps))) (sym (standing_tells_back scenario done states (are_taken standing 0 scenario.guests states many each)))
          (later_turn scenario.steps done opened good.in_turn);
    }

pub saved_runs_are_resumed : SavedRunsAreResumed
saved_runs_are_resumed scenario done good few short = record {
  read = images_read_back (saved_of scenario done (reached scenario done)) (saved_runs_are_valid scenario done good few) short;
  goes_on = saved_then_resumed scenario done good few;
}
