-- Events that bring a command midway: touches of an LPI, by steps that change one.
use Rattle.std.proofs.Common.{◌≡◌, ℕ, ◌==◌, ◌⊎◌, inl, true≢false, Bool, true, false, List, Option, Some, None, if◌then◌else◌, refl, sym, ap, ◌∙◌}
use Rattle.std.specs.Option.{option_map_or}
use Rattle.std.proofs.lemmas.Bool.{or_cases}
use Rattle.law_lines_translate.specs.Words.{IccReg, GuestShape}
use Rattle.law_lines_translate.specs.Calls.{Event, Touch as TouchEvent, Reach, Take, ItsBegin, Touching, MapLpi, Happened}
use Rattle.law_lines_translate.specs.GicCall.declared.event.Event.TheVariants.{Queue as QueueEvent}
use Rattle.law_lines_translate.specs.GicCall.declared.event.Found.TheVariants.{Nothing}
use Rattle.law_lines_translate.specs.GicCall.declared.touch.Touching.TheVariants.{Retarget, Configure, Forget}
use Rattle.law_lines_translate.specs.GicHistory.History.{changes_lpi, midway_after}
use Rattle.law_lines_translate.specs.Core.{changes_lpi as changes_by_step, Local, Made, CoreStep, Look, Claim, Poll, Touch, RamLook, RamPut, TurnTake, WordId, Queue, Ctlr, Vcpu, event_done, fault_place, is_at, is_taking, look_event, poll_event, stands_for, succeeds, vcpu_of}
use Rattle.law_lines_translate.specs.Lines.{changes_one}

-- a touch changes an LPI by the history's rule where it does by the core's
same_changes : (touching : Touching) → changes_lpi touching ≡ changes_by_step touching
same_changes (MapLpi target enabled prio) = refl
same_changes (Retarget target) = refl
same_changes (Configure enabled prio) = refl
same_changes Forget = refl
same_changes touching = refl

-- an event does, alone
abbrev pub changes_event : Event → Bool
changes_event (TouchEvent key touching) = changes_lpi touching
changes_event event = false

pub midway_cases : (b : Bool) (event : Event) → midway_after b event ≡ true → (b ≡ true) ⊎ (changes_event event ≡ true)
midway_cases b (TouchEvent key touching) h = or_cases b (changes_lpi touching) h
midway_cases b ItsBegin h = absurd (true≢false (sym h))
midway_cases b (QueueEvent offset change) h = absurd (true≢false (sym h))
midway_cases b event h = inl h

-- so does what a step stands for
abbrev changes_if : Option Happened → Bool
changes_if o = option_map_or (λ (one : Happened). changes_event one.event) o false

either_quiet : (b : Bool) (o : Option Happened) → changes_if o ≡ false → changes_if (if b then o else None) ≡ false
either_quiet true o e = e
either_quiet false o e = refl

quiet_either : (b : Bool) (o : Option Happened) → changes_if o ≡ false → changes_if (if b then None else o) ≡ false
quiet_either true o e = refl
quiet_either false o e = e

module _ (shape : GuestShape) (actor : ℕ) (local : Local) (own : List Made) (found : ℕ) where
  look_quiet : (word : WordId) → changes_if (look_event word found) ≡ false
  look_quiet Queue = refl
  look_quiet Ctlr = refl
  look_quiet (Vcpu vcpu) = refl
  look_quiet word = refl

  poll_quiet : (reg : Option IccReg) (write : Option ℕ) → changes_if (poll_event actor reg write found local) ≡ false
  poll_quiet None write = refl
  poll_quiet (Some reg) write = quiet_either (vcpu_of found).kick _ refl

  -- only a touch that changes an LPI
  done_changes : (step : CoreStep) → changes_if (event_done shape actor local own step found) ≡ true → changes_one step ≡ true
  done_changes (Touch key seen kind) h = sym (same_changes kind) ∙ h
  done_changes (Look word) h = absurd (true≢false (sym h ∙ look_quiet word))
  done_changes (Claim key seen) h = of (is_at key local.at) h
    where
      of : (b : Bool) → changes_event (if b then Take key actor else Reach key actor) ≡ true → false ≡ true
      of true h = h
      of false h = h
  done_changes (Poll reg write) h = absurd (true≢false (sym h ∙ poll_quiet reg write))
  done_changes (RamLook index) h = absurd (true≢false (sym h ∙ quiet_either (index == fault_place shape) _ refl))
  done_changes (RamPut index seen value) h = absurd (true≢false (sym h ∙ quiet_either (index == fault_place shape) _ refl))
  done_changes step h = absurd (true≢false (sym h))

  pub step_changes : (step : CoreStep) (one : Happened) → stands_for shape actor local own step found ≡ Some one → changes_event one.event ≡ true → changes_one step ≡ true
  step_changes step one e h = of (succeeds shape actor local step found) (ap changes_if e ∙ h)
    where
      of : (b : Bool) → changes_if (if b then event_done shape actor local own step found else None) ≡ true → changes_one step ≡ true
      of true h = done_changes step h
      of false h = absurd (true≢false (sym h))

  -- one that takes the ITS stands for that
  pub taking_is : (step : CoreStep) → is_taking step ≡ true → succeeds shape actor local step found ≡ true → stands_for shape actor local own step found ≡ Some (record { event = ItsBegin; found = Nothing })
  taking_is (TurnTake seen) takes done = ap (λ b. if b then event_done shape actor local own (TurnTake seen) found else None) done
  taking_is step takes done = absurd (true≢false (sym takes))
