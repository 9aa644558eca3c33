-- A step that ends a command is made while its actor wants nothing.
use Rattle.std.proofs.Common.{◌≡◌, ℕ, ◌==◌, true≢false, Bool, true, false, IsTrue, List, [], Some, None, if◌then◌else◌, refl, sym, ap, ◌∙◌}
use Rattle.law_serial_is_eager.specs.Words.{Key, GuestShape}
use Rattle.law_serial_is_eager.specs.Calls.{Event, Cpu, Put, Take, Reach, Found, Happened, plain_at}
use Rattle.law_serial_is_eager.specs.GicCall.declared.event.Event.TheVariants.{Read}
use Rattle.law_serial_is_eager.specs.GicCall.declared.event.Found.TheVariants.{Nothing, Answer, Word as FoundWord}
use Rattle.law_serial_is_eager.specs.GicCall.declared.event.Place.TheVariants.{Word}
use Rattle.law_serial_is_eager.specs.Registers.{interface_answer}
use Rattle.law_serial_is_eager.specs.Core.{Local, Made, CoreStep, Look, Raise, Claim, GiveBack, Release, Poll, Kick, Touch, Want, WireUp, WireDown, EnableLpis, RamLook, RamPut, CtlrTake, CtlrEnd, TurnTake, CommandDone, TurnRelease, Mark, TakeIndex, LineEnter, LineLeave, LineFill, LineClose, Irq, Vcpu, Queue, Ctlr, Plain, Index, Line, interface_of, fault_place, succeeds, vcpu_of, is_at, event_done, silent, stands_for, with_found, Progress, keeps_want}
use Rattle.law_serial_is_eager.proofs.AloneRuns.{none_wanted}
use Rattle.law_serial_is_eager.specs.Histories.{ends_turn}
use Rattle.law_runs_are_fresh.proofs.ReadLemmas.{is_done}

-- a step that ends one, or moves the queue
pub ending :
    (shape : GuestShape) (actor : ℕ) (local : Local) (own : List Made) (step : CoreStep) (found : ℕ) (one : Happened) → stands_for shape actor local own step found ≡ Some one → ends_turn one.event ≡ true → is_done step ≡ true
ending shape actor local own step found one e ends = of (succeeds shape actor local step found) e
  where
    other : {T : Type 0} (event : Event) (what : Found) → ends_turn event ≡ false → with_found event what ≡ Some one → T
    other event what quiet e = absurd (true≢false (sym ends ∙ ap ends_turn (event_is (record { event = event; found = what }) one e) ∙ quiet))
      where
        event_is : (x y : Happened) → Some x ≡ Some y → y.event ≡ x.event
        event_is x y e = cc

    never : {T : Type 0} → None ≡ Some one → T
    never e = absurd (cc)

    plain : {T : Type 0} (b : Bool) (event : Event) (what : Found) → ends_turn event ≡ false → (if b then None else with_found event what) ≡ Some one → T
    plain true event what quiet e = never e
    plain false event what quiet e = other event what quiet e

    claim : {T : Type 0} (b : Bool) (k : Key) → silent (if b then Take k actor else Reach k actor) ≡ Some one → T
    claim true k e = other (Take k actor) Nothing refl e
    claim false k e = other (Reach k actor) Nothing refl e

    done : (s : CoreStep) → event_done shape actor local own s found ≡ Some one → is_done s ≡ true
    done (CommandDone offset stalled ending) e = refl
    done (Look (Irq k)) e = never e
    done (Look (Vcpu v)) e = other _ _ refl e
    done (Look Queue) e = other _ _ refl e
    done (Look Ctlr) e = other _ _ refl e
    done (Look (Plain i)) e = never e
    done (Look (Index v n)) e = never e
    done (Look (Line n)) e = never e
    done (Raise k) e = other _ _ refl e
    done (Claim k seen) e = claim (is_at k local.at) k e
    done (GiveBack k back) e = never e
    done (Release k) e = other _ _ refl e
    done (Poll None write) e = never e
    done (Poll (Some reg) write) e = plain (vcpu_of found).kick (Cpu actor reg write) (Answer (interface_answer reg write (interface_of local))) refl e
    done (Kick v) e = never e
    done (Touch k seen kind) e = other _ _ refl e
    done (Want k) e = never e
    done (WireUp k) e = other _ _ refl e
    done (WireDown k) e = other _ _ refl e
    done (EnableLpis v) e = other _ _ refl e
    done (RamLook index) e = plain (index == fault_place shape) (Read (Word (plain_at shape index))) (FoundWord found) refl e
    done (RamPut index seen value) e = plain (index == fault_place shape) (Put (plain_at shape index) value) (FoundWord found) refl e
    done (CtlrTake seen value) e = other _ _ refl e
    done CtlrEnd e = other _ _ refl e
    done (TurnTake seen) e = other _ _ refl e
    done TurnRelease e = other _ _ refl e
    done (Mark k v) e = never e
    done (TakeIndex w) e = never e
    done (LineEnter line seen) e = never e
    done (LineLeave line) e = never e
    done (LineFill line device event lpi) e = never e
    done (LineClose line) e = never e

    of : (b : Bool) → (if b then event_done shape actor local own step found else None) ≡ Some one → is_done step ≡ true
    of true e = done step e
    of false e = never e

pub unwanting :
    (shape : GuestShape) (actor : ℕ) (local : Local) (own : List Made) (step : CoreStep) (found : ℕ) (one : Happened) (p : Progress) → stands_for shape actor local own step found ≡ Some one → ends_turn one.event ≡ true → IsTrue (keeps_want shape actor p step) → p.wants ≡ []
unwanting shape actor local own step found one p e ends keeps = of step (ending shape actor local own step found one e ends) keeps
  where
    of : (s : CoreStep) → is_done s ≡ true → IsTrue (keeps_want shape actor p s) → p.wants ≡ []
    of (CommandDone offset stalled ending) d h = none_wanted p.wants h
    of s d h = absurd (true≢false (sym d))
