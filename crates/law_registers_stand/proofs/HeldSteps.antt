-- The record of an interrupt at a vCPU's interface, after a step.
use Rattle.std.proofs.Common.{◌≡◌, ℕ, ◌<◌, ◌==◌, ◌||◌, inl, inr, true≢false, not, Bool, true, false, cond, if◌then◌else◌, IsTrue, List, [], fold, Option, Some, None, is_some, refl, sym, ap, subst, ◌∙◌, arith}
use Rattle.std.specs.List.{list_all}
use Rattle.std.specs.Option.{option_map_or}
use Rattle.std.proofs.lemmas.Option.{none-some, same_Some}
use Rattle.law_core_is_history.specs.Words.{Key, GuestShape, has_interrupt, interrupt_count, IsShape, Irq, cleared, irq_of}
use Rattle.law_core_is_history.proofs.GicBase.KeyLemmas.{same_itself}
use Rattle.law_core_is_history.specs.Calls.{Reach, Take, Moved, reached, taken, Happened}
use Rattle.law_core_is_history.specs.GicCall.declared.event.Found.TheVariants.{Nothing}
use Rattle.law_core_is_history.specs.Histories.{Changes, changes_of, happened, Ideal, moved_at, irq_at}
use Rattle.law_core_is_history.proofs.LawHistories.StateLemmas.{record_is}
use Rattle.law_core_is_history.proofs.IdealGuests.KeyLemmas.{IsWhole}
use Rattle.law_core_is_history.specs.Registers.{Maps}
use Rattle.law_core_is_history.specs.Core.{AtIrq, Local, Phase, Off, Scanning, Claiming, Loaded, Folding, Made, CoreStep, Look, Claim, Poll, Touch, RamLook, RamPut, CtlrTake, TurnTake, LineEnter, LineFill, Irq as IrqWord, Vcpu, Queue, Ctlr, Plain, Index, Line, fault_place, is_ready, given_back, succeeds, vcpu_of, back_of, entry_for, is_at, CoreState, seat_at, word_in, IsSound, stands_for, event_moments}
use Rattle.law_core_is_history.proofs.PortCore.StepLemmas.{steps_sound}
use Rattle.law_core_is_history.proofs.CoreProper.ReachLemmas.{number_is}
use Rattle.law_core_is_history.specs.Known.{IsKnown}
use Rattle.law_core_is_history.specs.Related.{bare, is_folding, IsHeldRelated, Related}
use Rattle.law_core_is_history.specs.Simulates.{IsSimulatedAs, event_of}
use Rattle.law_core_is_history.proofs.AfterLemmas.{later}
use Rattle.law_core_is_history.proofs.RunSteps.{entry_simulates}
use Rattle.law_core_is_history.proofs.StandingLemmas.{moved_is, not_given, passes}
use Rattle.law_core_is_history.proofs.StepContext.{one, IsStep}
use Rattle.law_registers_stand.specs.Followed.{Followed, follows}
use Rattle.law_registers_stand.proofs.TellLemmas.{moved_key, record_spared, since_spared, changes_told, IsTold}

-- Which events are moves.

abbrev move_in : Option Happened → Option Key
move_in o = option_map_or (λ one. moved_key one.event) o None

abbrev is_claim : CoreStep → Bool
is_claim (Claim key seen) = true
is_claim step = false

if_none : (b : Bool) (o : Option Happened) → move_in o ≡ None → move_in (if b then o else None) ≡ None
if_none true o e = e
if_none false o e = refl

none_if : (b : Bool) (o : Option Happened) → move_in o ≡ None → move_in (if b then None else o) ≡ None
none_if true o e = refl
none_if false o e = e

-- only a claim is one
still_event : (shape : GuestShape) (actor : ℕ) (local : Local) (own : List Made) (step : CoreStep) (found : ℕ) → is_claim step ≡ false → move_in (stands_for shape actor local own step found) ≡ None
still_event shape actor local own (Look (IrqWord key)) found e = refl
still_event shape actor local own (Look (Vcpu v)) found e = refl
still_event shape actor local own (Look Queue) found e = refl
still_event shape actor local own (Look Ctlr) found e = refl
still_event shape actor local own (Look (Plain i)) found e = refl
still_event shape actor local own (Look (Index v n)) found e = refl
still_event shape actor local own (Look (Line n)) found e = refl
still_event shape actor local own (Claim key seen) found e = absurd (true≢false e)
still_event shape actor local own (Poll None write) found e = refl
still_event shape actor local own (Poll (Some reg) write) found e = none_if (vcpu_of found).kick _ refl
still_event shape actor local own (Touch key seen kind) found e = if_none (succeeds shape actor local (Touch key seen kind) found) _ refl
still_event shape actor local own (RamLook i) found e = none_if (i == fault_place shape) _ refl
still_event shape actor local own (RamPut i seen value) found e = if_none (succeeds shape actor local (RamPut i seen value) found) _ (none_if (i == fault_place shape) _ refl)
still_event shape actor local own (CtlrTake seen value) found e = if_none (succeeds shape actor local (CtlrTake seen value) found) _ refl
still_event shape actor local own (TurnTake seen) found e = if_none (succeeds shape actor local (TurnTake seen) found) _ refl
still_event shape actor local own (LineEnter line seen) found e = if_none (succeeds shape actor local (LineEnter line seen) found) None refl
still_event shape actor local own (LineFill line device event lpi) found e = if_none (succeeds shape actor local (LineFill line device event lpi) found) None refl
still_event shape actor local own step found e = refl

-- a step that is no claim of an interrupt, or one that failed, is no move of it
pub no_move : (shape : GuestShape) (actor : ℕ) (local : Local) (own : List Made) (step : CoreStep) (found : ℕ) (key : Key) → ((seen : ℕ) → step ≡ Claim key seen → succeeds shape actor local step found ≡ false) → (happening : Happened) → stands_for shape actor local own step found ≡ Some happening → moved_key happening.event ≡ Some key → ⊥
no_move shape actor local own (Claim other seen) found key failed happening e h = of (succeeds shape actor local (Claim other seen) found) refl e
  where
    by_at : (b : Bool) → moved_key (if b then Take other actor else Reach other actor) ≡ Some other
    by_at true = refl
    by_at false = refl

    of : (b : Bool) → succeeds shape actor local (Claim other seen) found ≡ b → (if b then (let silent : Option Happened = Some (record { event = if is_at other local.at then Take other actor else Reach other actor; found = Nothing }) in silent) else None) ≡ Some happening → ⊥
    of false s f = none-some happening f
    of true s f =
        let same : other ≡ key = same_Some other key (sym (by_at (is_at other local.at)) ∙ ap (λ o. move_in o) f ∙ h) in
        true≢false (sym s ∙ failed seen (ap (λ k. Claim k seen) same))
no_move shape actor local own step found key failed happening e h = absurd (none-some key (sym (still_event shape actor local own step found refl) ∙ ap move_in e ∙ h))

-- At a vCPU's interface.

unfolded : (phase : Phase) (b : Bool) → IsTrue (is_ready phase) → IsTrue (is_folding phase || b) → b ≡ true
unfolded Off b r h = absurd (cc)
unfolded Scanning b r h = absurd (cc)
unfolded Claiming b r h = h
unfolded Loaded b r h = h
unfolded Folding b r h = absurd (cc)

there_is : (key : Key) (at : List AtIrq) → is_at key at ≡ true → (entry : AtIrq) × (entry_for key at ≡ Some entry)
there_is key at h = of (entry_for key at) refl h
  where
    of : (o : Option AtIrq) → entry_for key at ≡ o → is_some o ≡ true → (entry : AtIrq) × (entry_for key at ≡ Some entry)
    of None e h = absurd (true≢false (sym h))
    of (Some entry) e h = (entry, e)

-- its word says what the ideal controller has
pub held_record : (shape : GuestShape) (state : CoreState) (ideal : Ideal) (vcpu : ℕ) (key : Key) → IsSound shape state → Related shape state ideal → vcpu < shape.vcpus → IsTrue (has_interrupt shape key) → is_at key (seat_at state vcpu).local.at ≡ true → IsTrue (is_ready (seat_at state vcpu).local.phase)
    → bare (irq_of (word_in shape state (IrqWord key))) ≡ irq_at ideal.guest key
held_record shape state ideal vcpu key sound related within there at ready =
    let local = (seat_at state vcpu).local in
    let word = irq_of (word_in shape state (IrqWord key)) in
    let holder = number_is vcpu word.holder (sound.ties vcpu (IrqWord key) (omega (arith, within)) there ∙ at) in
    let entry = there_is key local.at at in
    let held : IsHeldRelated vcpu entry.0 word (irq_at ideal.guest key) = (related.words (IrqWord key) there).held vcpu holder entry.0 entry.1 in
    let whole = unfolded local.phase (list_all (λ (at : AtIrq). not at.given) local.at) ready (related.seats vcpu within).given in
    let given = not_given entry.0.given (passes (λ (at : AtIrq). not at.given) key local.at entry.0 whole entry.1) in
    held.word_is ∙ ap (λ b. if b then given_back vcpu (back_of entry.0) (irq_at ideal.guest key) else irq_at ideal.guest key) given

whole_of : (shape : GuestShape) (state : CoreState) (ideal : Ideal) → IsShape shape → Related shape state ideal → IsWhole ideal.guest
whole_of shape state ideal good related = record { shape = subst IsShape (sym related.shape_is) good; each = related.irqs_each ∙ ap interrupt_count (sym related.shape_is) }

module _ {shape : GuestShape} {state : CoreState} {ideal : Ideal} {actor : ℕ} {step : CoreStep} {found left : ℕ} {tables : Option Maps} (is : IsStep shape state ideal actor step found left tables) (known : IsKnown shape state) (vcpu : ℕ) (within : vcpu < shape.vcpus) (key : Key) (there : IsTrue (has_interrupt shape key))
    (at_later : is_at key (seat_at (later is) vcpu).local.at ≡ true) (ready_later : IsTrue (is_ready (seat_at (later is) vcpu).local.phase)) where
  there_ideal : IsTrue (has_interrupt ideal.guest.shape key)
  there_ideal = subst (λ s. IsTrue (has_interrupt s key)) (sym is.related.shape_is) there

  next_sound : IsSound shape (later is)
  next_sound = steps_sound shape state (one actor step found left tables) is.good is.sound is.takes

  -- the record after what the step stands for
  record_later : (happening : Happened) → event_of shape state (one actor step found left tables) ≡ Some happening → bare (irq_of (word_in shape (later is) (IrqWord key))) ≡ irq_at (happened actor happening.event ideal).guest key
  record_later happening e =
      let simulated : IsSimulatedAs shape (later is) ideal actor (Some happening) = subst (IsSimulatedAs shape (later is) ideal actor) e (entry_simulates shape state ideal (one actor step found left tables) is.good is.sound is.related known is.takes) in
      held_record shape (later is) (happened actor happening.event ideal) vcpu key next_sound simulated.related within there at_later ready_later

  -- it was there, and the step is no move of it: where nobody changed it since it got there, nobody had before, and its record is as it was
  pub record_same :
      is_at key (seat_at state vcpu).local.at ≡ true → IsTrue (is_ready (seat_at state vcpu).local.phase) → ((seen : ℕ) → step ≡ Claim key seen → succeeds shape actor (seat_at state actor).local step found ≡ false)
      → (telling : Followed) → IsTold shape telling → (changes_of shape (fold follows telling (event_moments actor (event_of shape state (one actor step found left tables)))).track key).since ≡ []
      → ((changes_of shape telling.track key).since ≡ []) × (bare (irq_of (word_in shape (later is) (IrqWord key))) ≡ bare (irq_of (word_in shape state (IrqWord key))))
  record_same at ready no_claim telling told none = of (event_of shape state (one actor step found left tables)) refl none
    where
      before : bare (irq_of (word_in shape state (IrqWord key))) ≡ irq_at ideal.guest key
      before = held_record shape state ideal vcpu key is.sound is.related within there at ready

      of : (o : Option Happened) → event_of shape state (one actor step found left tables) ≡ o → (changes_of shape (fold follows telling (event_moments actor o)).track key).since ≡ []
          → ((changes_of shape telling.track key).since ≡ []) × (bare (irq_of (word_in shape (later is) (IrqWord key))) ≡ bare (irq_of (word_in shape state (IrqWord key))))
      of None e none =
          let related : Related shape (later is) ideal = subst (IsSimulatedAs shape (later is) ideal actor) e (entry_simulates shape state ideal (one actor step found left tables) is.good is.sound is.related known is.takes) in
          (none, held_record shape (later is) ideal vcpu key next_sound related within there at_later ready_later ∙ sym before)
      of (Some happening) e none =
          let simulated : IsSimulatedAs shape (later is) ideal actor (Some happening) = subst (IsSimulatedAs shape (later is) ideal actor) e (entry_simulates shape state ideal (one actor step found left tables) is.good is.sound is.related known is.takes) in
          let still = no_move shape actor (seat_at state actor).local (seat_at state actor).own step found key no_claim happening e in
          let track_none = sym (ap (λ (c : Changes). c.since) (changes_told shape telling actor happening key told)) ∙ none in
          elim (since_spared shape is.good key there telling.track told.each actor happening.event simulated.can track_none) [
            | inl reach ↦ absurd (still (ap moved_key reach.1))
            | inr spared ↦ (spared.0, record_later happening e ∙ record_is ideal key (whole_of shape state ideal is.good is.related) there_ideal actor happening.event ∙ record_spared happening.event ideal key spared.1 still ∙ sym before)
          ]

-- A vCPU's own claim.

module _ {shape : GuestShape} {state : CoreState} {ideal : Ideal} {vcpu : ℕ} (key : Key) (seen : ℕ) {found left : ℕ} {tables : Option Maps} (is : IsStep shape state ideal vcpu (Claim key seen) found left tables) (known : IsKnown shape state) (within : vcpu < shape.vcpus) (there : IsTrue (has_interrupt shape key))
    (done : succeeds shape vcpu (seat_at state vcpu).local (Claim key seen) found ≡ true) (at_later : is_at key (seat_at (later is) vcpu).local.at ≡ true) (ready_later : IsTrue (is_ready (seat_at (later is) vcpu).local.phase)) where
  there_now : IsTrue (has_interrupt ideal.guest.shape key)
  there_now = subst (λ s. IsTrue (has_interrupt s key)) (sym is.related.shape_is) there

  -- it is a move
  stands_as : event_of shape state (one vcpu (Claim key seen) found left tables) ≡ Some (record { event = if is_at key (seat_at state vcpu).local.at then Take key vcpu else Reach key vcpu; found = Nothing })
  stands_as = ap (λ b. if b then Some (record { event = if is_at key (seat_at state vcpu).local.at then Take key vcpu else Reach key vcpu; found = Nothing }) else None) done

  -- it got to the interface
  pub record_reached : is_at key (seat_at state vcpu).local.at ≡ false → (irq_of found).holder ≡ None → bare (irq_of (word_in shape (later is) (IrqWord key))) ≡ (reached (bare (irq_of found))).irq
  record_reached away free =
      let stands : event_of shape state (one vcpu (Claim key seen) found left tables) ≡ Some (record { event = Reach key vcpu; found = Nothing }) = stands_as ∙ ap (λ b. Some (record { event = if b then Take key vcpu else Reach key vcpu; found = Nothing })) away in
      let word : irq_of (word_in shape state (IrqWord key)) ≡ irq_of found = ap irq_of (sym is.takes.found) in
      let home : irq_at ideal.guest key ≡ bare (irq_of found) = sym ((is.related.words (IrqWord key) there).home (ap (λ (i : Irq). i.holder) word ∙ free)) ∙ ap bare word in
      record_later is known vcpu within key there at_later ready_later (record { event = Reach key vcpu; found = Nothing }) stands
      ∙ record_is ideal key (whole_of shape state ideal is.good is.related) there_now vcpu (Reach key vcpu)
      ∙ ap (λ b. cond b (reached (irq_at ideal.guest key)).irq (irq_at ideal.guest key)) (same_itself key)
      ∙ ap (λ i. (reached i).irq) home

  -- its causes came, and nobody changed it before where nobody did since
  pub record_taken :
      is_at key (seat_at state vcpu).local.at ≡ true → IsTrue (is_ready (seat_at state vcpu).local.phase) → (telling : Followed) → IsTold shape telling → (changes_of shape (fold follows telling (event_moments vcpu (event_of shape state (one vcpu (Claim key seen) found left tables)))).track key).since ≡ []
      → ((changes_of shape telling.track key).since ≡ []) × (bare (irq_of (word_in shape (later is) (IrqWord key))) ≡ cleared (bare (irq_of (word_in shape state (IrqWord key)))))
  record_taken at ready telling told none =
      let taking : Happened = record { event = Take key vcpu; found = Nothing } in
      let stands : event_of shape state (one vcpu (Claim key seen) found left tables) ≡ Some (record { event = Take key vcpu; found = Nothing }) = stands_as ∙ ap (λ b. Some (record { event = if b then Take key vcpu else Reach key vcpu; found = Nothing })) at in
      let before = held_record shape state ideal vcpu key is.sound is.related within there at ready in
      let entry = there_is key (seat_at state vcpu).local.at at in
      let moved = moved_is is.sound is.related vcpu key entry.0 within entry.1 in
      let track_none = sym (ap (λ (c : Changes). c.since) (changes_told shape telling vcpu taking key told)) ∙ ap (λ o. (changes_of shape (fold follows telling (event_moments vcpu o)).track key).since) (sym stands) ∙ none in (
        track_none,
        record_later is known vcpu within key there at_later ready_later taking stands
            ∙ record_is ideal key (whole_of shape state ideal is.good is.related) there_now vcpu (Take key vcpu)
            ∙ ap (λ b. cond b (option_map_or (λ (moved : Moved). (taken moved).irq) (moved_at ideal vcpu key) (irq_at ideal.guest key)) (irq_at ideal.guest key)) (same_itself key)
            ∙ ap (λ o. option_map_or (λ (moved : Moved). (taken moved).irq) o (irq_at ideal.guest key)) moved
            ∙ ap cleared (sym before),
      )
