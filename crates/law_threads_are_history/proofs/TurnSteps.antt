-- Which step of an actor takes the ITS, and the maps that it hands out.
use Rattle.std.proofs.Common.{◌≡◌, ℕ, ◌==◌, ◌⊎◌, inl, inr, Bool, true, false, cond, if◌then◌else◌, IsTrue, List, Option, Some, None, refl}
use Rattle.std.specs.Option.{option_map_or}
use Rattle.law_ends_agree.specs.Words.{IccReg, GuestShape}
use Rattle.law_ends_agree.specs.Calls.{Cpu, ItsBegin, Put, Reach, Take, Happened, plain_at}
use Rattle.law_ends_agree.specs.GicCall.declared.event.Event.TheVariants.{Read}
use Rattle.law_ends_agree.specs.GicCall.declared.event.Found.TheVariants.{Answer, Nothing, Word as FoundWord}
use Rattle.law_ends_agree.specs.GicCall.declared.event.Place.TheVariants.{Word}
use Rattle.law_ends_agree.specs.Registers.{interface_answer, Maps}
use Rattle.law_runs_are_fresh.proofs.LawEagerIsHistory.WindowLemmas.{is_no_turn}
use Rattle.law_ends_agree.specs.Core.{Local, Made, CoreStep, Look, Claim, Poll, RamLook, RamPut, TurnTake, WordId, Ctlr, Queue as QueueWord, Vcpu, interface_of, fault_place, succeeds, vcpu_of, is_at, CoreState, Takes, is_taking, seat_at, event_done, look_event, poll_event, silent, stands_for, with_found, entry_by}

-- what a step stands for is not that it takes the ITS
abbrev pub no_turn : Option Happened → Bool
no_turn o = option_map_or (λ (one : Happened). is_no_turn one.event) o true

either : (b : Bool) (one two : Option Happened) → IsTrue (no_turn one) → IsTrue (no_turn two) → IsTrue (no_turn (cond b one two))
either true one two h k = h
either false one two h k = k

module _ (shape : GuestShape) (actor : ℕ) (local : Local) (own : List Made) (found : ℕ) where
  look_none : (word : WordId) → IsTrue (no_turn (look_event word found))
  look_none QueueWord = refl
  look_none Ctlr = refl
  look_none (Vcpu vcpu) = refl
  look_none word = refl

  poll_none : (reg : Option IccReg) (write : Option ℕ) → IsTrue (no_turn (poll_event actor reg write found local))
  poll_none None write = refl
  poll_none (Some reg) write = either (vcpu_of found).kick None (with_found (Cpu actor reg write) (Answer (interface_answer reg write (interface_of local)))) refl refl

  done_none : (step : CoreStep) → is_taking step ≡ false → IsTrue (no_turn (event_done shape actor local own step found))
  done_none (TurnTake seen) h = absurd (cc)
  done_none (Look word) h = look_none word
  done_none (Claim key seen) h = of (is_at key local.at)
    where
      of : (b : Bool) → IsTrue (no_turn (silent (cond b (Take key actor) (Reach key actor))))
      of true = refl
      of false = refl
  done_none (Poll reg write) h = poll_none reg write
  done_none (RamLook index) h = either (index == fault_place shape) None (with_found (Read (Word (plain_at shape index))) (FoundWord found)) refl refl
  done_none (RamPut index seen value) h = either (index == fault_place shape) None (with_found (Put (plain_at shape index) value) (FoundWord found)) refl refl
  done_none step h = refl

-- a step takes the ITS and hands out its maps
pub record TakesTurn (maps : Maps) (tables : Option Maps) (o : Option Happened) : Type 0 where
  pub handed : tables ≡ Some maps
  pub event : o ≡ Some (record { event = ItsBegin; found = Nothing })

-- or it does neither
pub record TakesNone (tables : Option Maps) (o : Option Happened) : Type 0 where
  pub none : tables ≡ None
  pub event : IsTrue (no_turn o)

module _ (shape : GuestShape) (actor : ℕ) (local : Local) (own : List Made) (maps : Maps) (found : ℕ) where
  by_step : (step : CoreStep) (b : Bool) (tables : Option Maps) → tables ≡ (if is_taking step then (if b then Some maps else None) else None)
      → TakesTurn maps tables (cond b (event_done shape actor local own step found) None) ⊎ TakesNone tables (cond b (event_done shape actor local own step found) None)
  by_step (TurnTake seen) true tables e = inl (record { handed = e; event = refl })
  by_step (TurnTake seen) false tables e = inr (record { none = e; event = refl })
  by_step step b tables e = inr (record { none = e; event = either b (event_done shape actor local own step found) None (done_none shape actor local own found step refl) refl })

pub turn_cases : (shape : GuestShape) (actor : ℕ) (state : CoreState) (made : Made) → Takes shape state (entry_by actor made)
    → TakesTurn state.maps made.tables (stands_for shape actor (seat_at state actor).local (seat_at state actor).own made.step made.found)
    ⊎ TakesNone made.tables (stands_for shape actor (seat_at state actor).local (seat_at state actor).own made.step made.found)
turn_cases shape actor state made takes =
    by_step shape actor (seat_at state actor).local (seat_at state actor).own state.maps made.found made.step (succeeds shape actor (seat_at state actor).local made.step made.found) made.tables takes.tables
