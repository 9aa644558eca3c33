-- Every step of every run is what it stands for.
use Rattle.std.proofs.Common.{◌≡◌, ℕ, ◌<◌, false, if◌then◌else◌, slice_index, slice_index_or, IsTrue, List, [], ◌∷◌, Option, Some, None, arith, true≢false, refl, sym, ap, ◌∙◌, subst}
use Rattle.std.proofs.lemmas.Bool.{ltb-true, eqb-true}
use Rattle.std.proofs.lemmas.Option.{none-some}
use Rattle.std.proofs.lemmas.List.{get_or-replicate, length-replicate}
use Rattle.law_lines_translate.specs.Words.{GuestShape, IsShape, Irq, irq_of, packed}
use Rattle.law_lines_translate.specs.Registers.{QueueWord, Maps}
use Rattle.law_lines_translate.specs.Calls.{plain_count, plain_at, place_of_plain, Happened}
use Rattle.law_lines_translate.specs.Histories.{irq_at, cpu_at, word_at, Ideal, IdealGuest, CanOpen}
use Rattle.law_lines_translate.specs.GicHistory.State.{opening as opening_ideal}
use Rattle.law_lines_translate.specs.Core.{Entry, CoreStep, Look, Raise, Claim, GiveBack, Release, Poll, Kick, Touch, Want, WireUp, WireDown, EnableLpis, RamLook, RamPut, CtlrTake, CtlrEnd, TurnTake, CommandDone, TurnRelease, Mark, TakeIndex, LineEnter, LineLeave, LineFill, LineClose, CtlrWord, WordId, Irq as IrqWord, Vcpu, Queue, Ctlr, Plain, Index, Line, fault_place, has_word, CoreState, Seat, opening, opening_seat, opening_word_of, after, Takes, IsRun, IsSound, end_of}
use Rattle.law_lines_translate.proofs.PortCore.OpeningLemmas.{opens_sound, record_back, queue_is, ctlr_is, seat_opens, word_opens}
use Rattle.law_lines_translate.proofs.PortCore.StepLemmas.{steps_sound}
use Rattle.law_core_is_history.specs.Known.{IsKnown}
use Rattle.law_core_is_history.specs.Laws.{followed, followed_by, IsFollowedBy, IsFollowed, RunsAreSimulated}
use Rattle.law_core_is_history.specs.Related.{bare, WordSays, SeatSays, Related, locals_of}
use Rattle.law_core_is_history.specs.Simulates.{IsSimulated, IsSimulatedAs, event_of}
use Rattle.law_core_is_history.proofs.AccessSteps.{simulates_poll}
use Rattle.law_core_is_history.proofs.CauseSteps.{simulates_raise, simulates_wire_up, simulates_wire_down}
use Rattle.law_core_is_history.proofs.ClaimSteps.{simulates_claim}
use Rattle.law_core_is_history.proofs.EnableSteps.{simulates_enable}
use Rattle.law_core_is_history.proofs.KnownSteps.{keeps_known}
use Rattle.law_core_is_history.proofs.LineSteps.{simulates_on_line}
use Rattle.law_core_is_history.proofs.MarkSteps.{simulates_ctlr_take, simulates_ctlr_end, simulates_turn_take, simulates_turn_release}
use Rattle.law_core_is_history.proofs.MoveSteps.{simulates_give_back, simulates_release}
use Rattle.law_core_is_history.proofs.PutSteps.{plain_back, simulates_ram_put}
use Rattle.law_core_is_history.proofs.QueueSteps.{simulates_command_done}
use Rattle.law_core_is_history.proofs.QuietSteps.{simulates_kick, simulates_mark, simulates_want, simulates_take_index}
use Rattle.law_core_is_history.proofs.ReadSteps.{plain_there, simulates_look, simulates_ram_look}
use Rattle.law_core_is_history.proofs.StepContext.{one, IsStep, lpis_back}
use Rattle.law_core_is_history.proofs.TouchSteps.{simulates_touch}

-- Each kind of step.

simulates : (shape : GuestShape) (state : CoreState) (ideal : Ideal) (actor : ℕ) (step : CoreStep) (found left : ℕ) (tables : Option Maps) → IsKnown shape state → IsStep shape state ideal actor step found left tables → IsSimulated shape state ideal (one actor step found left tables)
simulates shape state ideal actor (Look word) found left tables known is = simulates_look word is
simulates shape state ideal actor (Raise key) found left tables known is = simulates_raise key is
simulates shape state ideal actor (Claim key seen) found left tables known is = simulates_claim key seen is
simulates shape state ideal actor (GiveBack key back) found left tables known is = simulates_give_back key back is
simulates shape state ideal actor (Release key) found left tables known is = simulates_release key is
simulates shape state ideal actor (Poll reg write) found left tables known is = simulates_poll reg write is
simulates shape state ideal actor (Kick vcpu) found left tables known is = simulates_kick vcpu is
simulates shape state ideal actor (Touch key seen kind) found left tables known is = simulates_touch key seen kind is
simulates shape state ideal actor (Want key) found left tables known is = simulates_want key is
simulates shape state ideal actor (WireUp key) found left tables known is = simulates_wire_up key is
simulates shape state ideal actor (WireDown key) found left tables known is = simulates_wire_down key is
simulates shape state ideal actor (EnableLpis vcpu) found left tables known is = simulates_enable vcpu is
simulates shape state ideal actor (RamLook index) found left tables known is = simulates_ram_look index is
simulates shape state ideal actor (RamPut index seen value) found left tables known is = simulates_ram_put index seen value known is
simulates shape state ideal actor (CtlrTake seen value) found left tables known is = simulates_ctlr_take seen value is
simulates shape state ideal actor CtlrEnd found left tables known is = simulates_ctlr_end is
simulates shape state ideal actor (TurnTake seen) found left tables known is = simulates_turn_take seen is
simulates shape state ideal actor (CommandDone offset stalled ending) found left tables known is = simulates_command_done offset stalled ending known is
simulates shape state ideal actor TurnRelease found left tables known is = simulates_turn_release is
simulates shape state ideal actor (Mark key vcpu) found left tables known is = simulates_mark key vcpu is
simulates shape state ideal actor (TakeIndex word) found left tables known is = simulates_take_index word is
simulates shape state ideal actor (LineEnter line seen) found left tables known is = simulates_on_line (LineEnter line seen) line refl refl refl is
simulates shape state ideal actor (LineLeave line) found left tables known is = simulates_on_line (LineLeave line) line refl refl refl is
simulates shape state ideal actor (LineFill line device event lpi) found left tables known is = simulates_on_line (LineFill line device event lpi) line refl refl refl is
simulates shape state ideal actor (LineClose line) found left tables known is = simulates_on_line (LineClose line) line refl refl refl is

pub entry_simulates : (shape : GuestShape) (state : CoreState) (ideal : Ideal) (entry : Entry) → IsShape shape → IsSound shape state → Related shape state ideal → IsKnown shape state → Takes shape state entry → IsSimulated shape state ideal entry
entry_simulates shape state ideal entry good sound related known takes =
    simulates shape state ideal entry.actor entry.made.step entry.made.found entry.made.left entry.made.tables known (record { good = good; sound = sound; related = related; takes = takes })

-- Runs.

-- what is simulated happens as it may, and leads to what agrees
split : (shape : GuestShape) (core : CoreState) (ideal : Ideal) (actor : ℕ) (o : Option Happened) → IsSimulatedAs shape core ideal actor o → IsFollowedBy shape ideal actor o × Related shape core (followed_by actor o ideal)
split shape core ideal actor None related = (tt, related)
split shape core ideal actor (Some happening) is = (record { can = is.can; allowed = is.allowed; hands = is.hands }, is.related)

run_simulates :
    (shape : GuestShape) (state : CoreState) (ideal : Ideal) (entries : List Entry) → IsShape shape → IsSound shape state → Related shape state ideal → IsKnown shape state → IsRun shape state entries
    → IsFollowed shape state ideal entries × Related shape (end_of shape state entries) (followed shape state ideal entries)
run_simulates shape state ideal [] good sound related known run = (tt, related)
run_simulates shape state ideal (entry ∷ entries) good sound related known run =
    let next = steps_sound shape state entry good sound run.0 in
    let first = split shape (after shape state entry) ideal entry.actor (event_of shape state entry) (entry_simulates shape state ideal entry good sound related known run.0) in
    let rest = run_simulates shape (after shape state entry) (followed_by entry.actor (event_of shape state entry) ideal) entries good next first.1 (keeps_known shape state entry good sound run.0 next known) run.1 in
    ((first.0, rest.0), rest.1)

-- The opening.

module _ (guest : IdealGuest) (number : ℕ) (good : CanOpen guest) where
  -- a plain word
  plain_opens : (index : ℕ) → index < plain_count guest.shape → word_at guest (plain_at guest.shape index) ≡ slice_index_or guest.words index 0
  plain_opens index few =
      ap (λ b. if b then slice_index guest.words (place_of_plain guest.shape (plain_at guest.shape index)) else 0) (plain_there guest.shape index few) ∙ ap (slice_index guest.words) (plain_back guest.shape index few)

  says_open : (word : WordId) → IsTrue (has_word guest.shape word) → WordSays guest.shape (locals_of (opening guest number)) (opening_ideal guest) word (opening_word_of guest word)
  says_open (IrqWord key) there =
      let is = good.sound.records key there in
      let irq = irq_at guest key in
      let back : irq_of (packed irq) ≡ irq = record_back guest key good there in
      record {
        home = λ h. ap bare back ∙ ap (λ o. record irq { holder = o; want = false }) (sym is.home.unheld) ∙ ap (λ w. record irq { want = w }) (sym is.home.unwanted);
        held = λ vcpu h. absurd (none-some vcpu (sym (ap (λ (i : Irq). i.holder) back ∙ is.home.unheld) ∙ h));
      }
  says_open (Vcpu vcpu) there = sym (lpis_back (record { lpis = (cpu_at guest vcpu).lpis; kick = false }))
  says_open Queue there =
      let back = queue_is guest good in
      record { turn = sym (ap (λ (q : QueueWord). q.turn) back); offset = sym (ap (λ (q : QueueWord). q.offset) back); stalled = sym (ap (λ (q : QueueWord). q.stalled) back) }
  says_open Ctlr there = let back = ctlr_is guest in record { enables = sym (ap (λ (c : CtlrWord). c.enables) back); spreads = sym (ap (λ (c : CtlrWord). c.mark) back) }
  says_open (Plain index) there = record { stored = λ e. plain_opens index (ltb-true index (plain_count guest.shape) there); fault = λ e h. ap (slice_index guest.words) (sym (eqb-true index (fault_place guest.shape) e)) }
  says_open (Index vcpu number) there = tt
  says_open (Line number) there = tt

  stands_open : (vcpu : ℕ) → vcpu < guest.shape.vcpus → SeatSays (opening_ideal guest) vcpu (opening_seat guest number vcpu).local
  stands_open vcpu there = record {
    at = get_or-replicate guest.shape.vcpus vcpu [] [] there;
    cpu = record { same = refl; lpis = λ h. h };
    given = refl;
  }

  pub related_opens : Related guest.shape (opening guest number) (opening_ideal guest)
  related_opens = record {
    shape_is = refl;
    words = λ word there. subst (WordSays guest.shape (locals_of (opening guest number)) (opening_ideal guest) word) (sym (word_opens guest number word good there)) (says_open word there);
    seats = λ vcpu there. subst (λ (s : Seat). SeatSays (opening_ideal guest) vcpu s.local) (sym (seat_opens guest number vcpu (omega (arith, there)))) (stands_open vcpu there);
    maps = refl;
    irqs_each = good.sound.irqs;
    cpus_each = good.sound.cpus;
    words_each = good.sound.words;
    at_each = length-replicate guest.shape.vcpus [];
  }

  pub known_opens : IsKnown guest.shape (opening guest number)
  known_opens actor there turn = absurd (true≢false (sym turn ∙ ap (λ (s : Seat). s.local.turn) (seat_opens guest number actor there)))

pub runs_simulate : RunsAreSimulated
runs_simulate guest number entries good run =
    let whole = run_simulates guest.shape (opening guest number) (opening_ideal guest) entries good.sound.shape (opens_sound guest number good) (related_opens guest number good) (known_opens guest number good) run in
    record { follows = whole.0; related = whole.1 }
