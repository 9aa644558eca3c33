-- A step of the eager controller is a call, and steps are a history.
use Rattle.std.proofs.Common.{◌≡◌, ℕ, ◌+◌, ◌<◌, ◌%◌, zero, suc, Bool, true, false, ◌&&◌, nat_lt, IsTrue, inl, inr, All, List, [], ◌∷◌, ◌++◌, replicate, fold, Option, Some, None, is_none, refl, sym, ap, ◌∙◌, subst, arith}
use Rattle.std.specs.List.{slice_get, range_with_len}
use Rattle.std.proofs.lemmas.Bool.{and_parts}
use Rattle.std.proofs.lemmas.Bool.Decides.{eqb_tells}
use Rattle.std.proofs.lemmas.Grind.{fold-append}
use Rattle.std.proofs.lemmas.List.{append_assoc, append-nil}
use Rattle.std.proofs.lemmas.List.Elements.{All-nil, All-cons, All-head, All-tail}
use Rattle.floor_histories.proofs.GicFrame.TestLemmas.{under}
use Rattle.floor_histories.specs.Words.{Frame, Dist, Redist, Its, Ram as Memory, GuestOp, Icc, Mem, GuestShape}
use Rattle.floor_histories.specs.GicImap.Map.{decoded as its_decoded}
use Rattle.floor_histories.specs.GicImap.declared.map.RegRef.{RegRef as ItsRef}
use Rattle.floor_histories.specs.GicImap.declared.map.RegRef.TheVariants.{Plain as ItsPlain, Reserved as ItsReserved}
use Rattle.floor_histories.specs.Calls.{passes, is_good_op, is_good_event, Event, Moment, Operation, Access, Device as DeviceCall, takes_turn, device_events}
use Rattle.gic_ideal.specs.ScnBase.declared.step.Mode.{Mode}
use Rattle.gic_ideal.specs.ScnBase.declared.step.Step.{Step}
use Rattle.gic_ideal.specs.ScnBase.declared.step.Step.TheVariants.{Vcpu, Device, Pe}
use Rattle.gic_ideal.specs.ScnBase.Good.{is_formed}
use Rattle.floor_histories.proofs.GicCall.CallLemmas.{device_valid}
use Rattle.floor_histories.specs.Histories.{IdealGuest, view_of, after_event, after_events, IsQueueInOrder, IsSound, after_leave, emptied, home, Call, begun, Course, IsEnded, actor_count, course_of, gone_on, GoesOn, last_of, Track, opening_track, CanOpen}
use Rattle.gic_ideal.specs.Deeds.{op_events, step_events, steps_events}
use Rattle.gic_ideal.proofs.SoundEvents.{sound_events}
use Rattle.gic_ideal.proofs.StepLemmas.{free_follow, op_follows}
use Rattle.floor_histories.specs.GicHistory.State.{opening as opening_ideal}
use Rattle.floor_histories.proofs.GicHistory.CallLemmas.{goes_on}
use Rattle.law_eager_is_history.specs.Moments.{op_made, op_read, device_made, settled, takes_its, call_moments, step_moments, history_of}
use Rattle.law_eager_is_history.specs.Possible.{IsFreshWhole}
use Rattle.law_eager_is_history.proofs.CourseLemmas.{call_after, idle, Leaves, call_made}
use Rattle.law_eager_is_history.proofs.FreshLemmas.{IsFreshFrom, none_fresh, call_then}
use Rattle.law_eager_is_history.proofs.StandLemmas.{nothing_at}
use Rattle.law_eager_is_history.proofs.CallLemmas.{IsGoodCall, plain_call, device_call, is_device}
use Rattle.law_eager_is_history.proofs.IccLemmas.{icc_call}
use Rattle.law_eager_is_history.proofs.TurnLemmas.{its_call}

-- An operation of a vCPU is a call.

taken_call : (guest : IdealGuest) → IsSound guest → IsQueueInOrder guest → (vcpu : ℕ) → vcpu < guest.shape.vcpus → (frame : Frame) (offset size : ℕ) (write : Option ℕ) → takes_its guest.shape frame offset size write ≡ true → IsTrue (is_good_op guest.shape (Mem frame offset size write))
    → IsGoodCall vcpu (Access (Mem frame offset size write)) (op_made (Mem frame offset size write) guest vcpu) (op_read (Mem frame offset size write) guest vcpu) guest (after_events (op_events (Mem frame offset size write) guest vcpu) guest)
taken_call guest sound order vcpu there Dist offset size write h good = absurd (cc)
taken_call guest sound order vcpu there (Redist v) offset size write h good = absurd (cc)
taken_call guest sound order vcpu there Memory offset size write h good = absurd (cc)
taken_call guest sound order vcpu there Its offset size None h good = absurd (never (its_decoded offset size) h)
  where
    never : (ref : ItsRef) → takes_turn guest.shape ref None ≡ true → ⊥
    never (ItsPlain reg half) h = cc
    never ItsReserved h = cc
taken_call guest sound order vcpu there Its offset size (Some value) h good = its_call guest sound order vcpu there offset size value h good

pub op_call : (guest : IdealGuest) → IsSound guest → IsQueueInOrder guest → (vcpu : ℕ) → vcpu < guest.shape.vcpus → (op : GuestOp) → IsTrue (is_good_op guest.shape op)
    → IsGoodCall vcpu (Access op) (op_made op guest vcpu) (op_read op guest vcpu) guest (after_events (op_events op guest vcpu) guest)
op_call guest sound order vcpu there (Icc reg write) good = icc_call guest sound vcpu there reg write good
op_call guest sound order vcpu there (Mem frame offset size write) good = of (takes_its guest.shape frame offset size write) refl
  where
    of : (b : Bool) → takes_its guest.shape frame offset size write ≡ b
        → IsGoodCall vcpu (Access (Mem frame offset size write)) (op_made (Mem frame offset size write) guest vcpu) (op_read (Mem frame offset size write) guest vcpu) guest (after_events (op_events (Mem frame offset size write) guest vcpu) guest)
    of true h = taken_call guest sound order vcpu there frame offset size write h good
    of false h = plain_call guest sound vcpu there frame offset size write h good

-- Steps.

-- from a guest where nothing stands and no call is open, moments go on, are fresh, and leave such a guest
pub record IsRun (count : ℕ) (guest next : IdealGuest) (moments : List Moment) : Type 0 where
  pub goes : (signals : ℕ → Bool) → GoesOn (idle count signals (settled guest)) moments
  pub leaves : (signals : ℕ → Bool) → Leaves count (settled next) (course_of (idle count signals (settled guest)) moments)
  pub fresh : (track : Track) (late : List Moment) → track.leaving ≡ [] → ((later : Track) → later.leaving ≡ [] → IsFreshFrom (settled next) later late) → IsFreshFrom (settled guest) track (moments ++ late)
  pub sound : IsSound next
  pub order : IsQueueInOrder next
  pub shape : next.shape ≡ guest.shape

no_run : (count : ℕ) (guest : IdealGuest) → IsSound guest → IsQueueInOrder guest → IsRun count guest guest []
no_run count guest sound order = record { goes = λ signals. tt; leaves = λ signals. record { signals = signals; is = refl }; fresh = λ track late none rest. rest track none; sound = sound; order = order; shape = refl }

runs_on : (count : ℕ) (guest middle next : IdealGuest) (early late : List Moment) → IsRun count guest middle early → IsRun count middle next late → IsRun count guest next (early ++ late)
runs_on count guest middle next early late one two =
    record {
      goes = λ signals. let then = one.leaves signals in goes_on (idle count signals (settled guest)) early late (one.goes signals) (subst (λ c. GoesOn c late) (sym then.is) (two.goes then.signals));
      leaves = λ signals.
          let then = one.leaves signals in
          let last = two.leaves then.signals in
          record { signals = last.signals; is = fold-append gone_on (idle count signals (settled guest)) early late ∙ ap (λ c. course_of c late) then.is ∙ last.is };
      fresh = λ track last none rest. subst (IsFreshFrom (settled guest) track) (sym (append_assoc early late last)) (one.fresh track (late ++ last) none (λ later left. two.fresh later last left rest));
      sound = two.sound;
      order = two.order;
      shape = two.shape ∙ one.shape;
    }

call_run : (count actor : ℕ) (operation : Operation) (events : List Event) (answer : Option ℕ) (guest next : IdealGuest) → count ≡ actor_count guest.shape → actor < count → IsQueueInOrder guest → IsSound next → IsGoodCall actor operation events answer guest next
    → IsRun count guest next (call_moments actor operation events answer guest)
call_run count actor operation events answer guest next each within order sound call =
    let ended = subst (λ s. IsEnded s actor (call_after actor events (settled guest) (begun (settled guest) operation)) answer) (sym (ap (λ s. s.guest.shape) call.leaves ∙ call.shape)) call.ended in
    let made = call_made count actor operation events answer guest each within call.fine ended in
    record {
      goes = made.goes;
      leaves = λ signals. let then = made.leaves signals in record { signals = then.signals; is = then.is ∙ ap (idle count then.signals) call.leaves };
      fresh = λ track late none rest. call_then actor operation events answer guest track late none call.fresh (λ later left. subst (λ s. IsFreshFrom s later late) (sym call.leaves) (rest later left));
      sound = sound;
      order = call.order order;
      shape = call.shape;
    }

both : (a b : Bool) → (a && b) ≡ true → (a ≡ true) × (b ≡ true)
both a b h = and_parts a b h

passed : (test : GuestShape → Bool) (shapes : List GuestShape) (n : ℕ) (shape : GuestShape) → slice_get shapes n ≡ Some shape → passes test (slice_get shapes n) ≡ true → test shape ≡ true
passed test shapes n shape e h = sym (ap (passes test) e) ∙ h

module _ (mode : Mode) (pes : ℕ) (shapes : List GuestShape) (n : ℕ) (shape : GuestShape) (at : slice_get shapes n ≡ Some shape) where
  step_run : (step : Step) (guest : IdealGuest) → IsSound guest → IsQueueInOrder guest → guest.shape ≡ shape → IsTrue (is_formed mode pes shapes step) → IsRun (actor_count shape) guest (after_events (step_events n step guest) guest) (step_moments n step guest)
  step_run (Pe pe op) guest sound order same formed = no_run (actor_count shape) guest sound order
  step_run (Vcpu g vcpu op) guest sound order same formed =
      elim (eqb_tells g n) [
        | inl is ↦
            rw is.0
            (let test : GuestShape → Bool = λ s. nat_lt vcpu s.vcpus && is_good_op s op in
            let tests = both (nat_lt vcpu shape.vcpus) (is_good_op shape op) (passed test shapes n shape at (subst (λ m. passes test (slice_get shapes m) ≡ true) is.1 formed)) in
            let there : vcpu < guest.shape.vcpus = subst (λ (s : GuestShape). vcpu < s.vcpus) (sym same) (under vcpu shape.vcpus tests.0) in
            let good : IsTrue (is_good_op guest.shape op) = subst (λ s. IsTrue (is_good_op s op)) (sym same) tests.1 in
            let within : vcpu < actor_count shape = subst (λ (s : GuestShape). vcpu < actor_count s) same (omega (arith, there)) in
            call_run (actor_count shape) vcpu (Access op) (op_made op guest vcpu) (op_read op guest vcpu) guest (after_events (op_events op guest vcpu) guest) (ap actor_count (sym same)) within order
            (sound_events guest (op_events op guest vcpu) sound (op_follows op guest vcpu sound there good)) (op_call guest sound order vcpu there op good))
        | inr differ ↦ rw differ.0 (no_run (actor_count shape) guest sound order)
      ]
  step_run (Device g device op) guest sound order same formed =
      elim (eqb_tells g n) [
        | inl is ↦
            rw is.0
            (let test : GuestShape → Bool = λ s. nat_lt device s.devices && is_good_event s op in
            let tests = both (nat_lt device shape.devices) (is_good_event shape op) (passed test shapes n shape at (subst (λ m. passes test (slice_get shapes m) ≡ true) is.1 formed)) in
            let there : device < guest.shape.devices = subst (λ (s : GuestShape). device < s.devices) (sym same) (under device shape.devices tests.0) in
            let good : IsTrue (is_good_event guest.shape op) = subst (λ s. IsTrue (is_good_event s op)) (sym same) tests.1 in
            let actor = guest.shape.vcpus + device in
            let within : actor < actor_count shape = subst (λ (s : GuestShape). guest.shape.vcpus + device < actor_count s) same (omega (arith, there)) in
            let events = device_events (view_of guest) op in
            call_run (actor_count shape) actor (DeviceCall op) (device_made op guest) None guest (after_events events guest) (ap actor_count (sym same)) within order
            (sound_events guest events sound (free_follow guest events (device_valid guest.shape (view_of guest) op sound.maps good))) (device_call guest sound actor (is_device guest.shape device) op good))
        | inr differ ↦ rw differ.0 (no_run (actor_count shape) guest sound order)
      ]

  steps_run : (steps : List Step) (guest : IdealGuest) → IsSound guest → IsQueueInOrder guest → guest.shape ≡ shape → All (λ step. IsTrue (is_formed mode pes shapes step)) steps → IsRun (actor_count shape) guest (after_events (steps_events n steps guest) guest) (history_of n steps guest)
  steps_run [] guest sound order same formed = no_run (actor_count shape) guest sound order
  steps_run (step ∷ steps) guest sound order same formed =
      let events = step_events n step guest in
      let middle = after_events events guest in
      let one = step_run step guest sound order same (All-head (λ step. IsTrue (is_formed mode pes shapes step)) step steps formed) in
      let rest = steps_run steps middle one.sound one.order (one.shape ∙ same) (All-tail (λ step. IsTrue (is_formed mode pes shapes step)) step steps formed) in
      subst (λ g. IsRun (actor_count shape) guest g (step_moments n step guest ++ history_of n steps middle)) (sym (fold-append after_event guest events (steps_events n steps middle)))
      (runs_on (actor_count shape) guest middle (after_events (steps_events n steps middle) middle) (step_moments n step guest) (history_of n steps middle) one rest)

-- From the opening.

-- all that stands at an interface taken back: nothing
home_is : (guest : IdealGuest) → home (settled guest) ≡ guest
home_is guest = ap (λ s. s.guest) (of 0 guest.shape.vcpus)
  where
    one : (vcpu : ℕ) → emptied (settled guest) vcpu ≡ settled guest
    one vcpu = ap (fold (λ now standing. after_leave standing.key vcpu now) (settled guest)) (nothing_at guest vcpu)

    of : (a n : ℕ) → fold emptied (settled guest) (range_with_len a n) ≡ settled guest
    of a zero = refl
    of a (suc n) = ap (λ s. fold emptied s (range_with_len (a + 1) n)) (one a) ∙ of (a + 1) n

pub record IsWholeRun (n : ℕ) (guest : IdealGuest) (steps : List Step) : Type 0 where
  pub is : IsFreshWhole guest (history_of n steps guest)
  pub ends : home (last_of guest (history_of n steps guest)) ≡ after_events (steps_events n steps guest) guest

none_open : (count : ℕ) → All (λ (call : Option Call). IsTrue (is_none call)) (replicate count None)
none_open zero = All-nil (λ call. IsTrue (is_none call))
none_open (suc count) = All-cons (λ call. IsTrue (is_none call)) None (replicate count None) refl (none_open count)

pub whole_run : (mode : Mode) (pes : ℕ) (shapes : List GuestShape) (n : ℕ) (guest : IdealGuest) (steps : List Step) → CanOpen guest → slice_get shapes n ≡ Some guest.shape → All (λ step. IsTrue (is_formed mode pes shapes step)) steps → IsWholeRun n guest steps
whole_run mode pes shapes n guest steps good at formed =
    let run = steps_run mode pes shapes n guest.shape at steps guest good.sound good.queue refl formed in
    let moments = history_of n steps guest in
    let fresh : IsFreshFrom (opening_ideal guest) (opening_track guest.shape) moments =
    subst (IsFreshFrom (opening_ideal guest) (opening_track guest.shape)) (append-nil moments) (run.fresh (opening_track guest.shape) [] refl (λ later left. none_fresh (settled (after_events (steps_events n steps guest) guest)) later)) in
    record {
      is = record {
        history = run.goes (λ actor. false);
        fresh = record { acknowledge = fresh.acknowledge; interface = fresh.interface; end = fresh.end; deactivation = fresh.deactivation };
        whole = subst (λ (c : Course). All (λ call. IsTrue (is_none call)) c.calls) (sym (run.leaves (λ actor. false)).is) (none_open (actor_count guest.shape));
      };
      ends = ap (λ (c : Course). home c.ideal) (run.leaves (λ actor. false)).is ∙ home_is (after_events (steps_events n steps guest) guest);
    }
