-- A moment goes on in parts.
use Rattle.std.proofs.Common.{◌≡◌, ℕ, Bool, IsTrue, List, Option, option_map, Some, None, is_none, is_some, refl, sym, ap, ◌∙◌, subst, true≢false}
use Rattle.std.proofs.lemmas.Option.{none-some}
use Rattle.legal_steps.specs.Calls.{Moment, Begin, Happens, Happened, Operation}
use Rattle.legal_steps.specs.GicCall.declared.event.Moment.TheVariants.{End}
use Rattle.legal_steps.specs.Histories.{IdealGuest, Ideal, Call, Course, call_of, IsNext, IsCallEnded, Track, doing_of}
use Rattle.legal_steps.specs.Words.{GuestShape}
use Rattle.legal_steps.specs.Step.{Pass, GoesOnLegally}
use Rattle.legal_play.specs.Pieces.{AreCalls}
use Rattle.legal_play.specs.Board.{BoardOf, IsOfPass, IsComingNext, IsFreshAt, IsRightEnd, GoesOnInParts}
use Rattle.legal_play.specs.Laws.{PartsAreAll}

abbrev operation_in : Option Call → Option Operation
operation_in o = option_map (λ (call : Call). call.operation) o

none_is : (o : Option Call) (doing : Option Operation) → operation_in o ≡ doing → IsTrue (is_none o) → doing ≡ None
none_is None doing is h = sym is
none_is (Some call) doing is h = absurd (true≢false (sym h))

is_nobody : (o : Option Call) (doing : Option Operation) → operation_in o ≡ doing → doing ≡ None → IsTrue (is_none o)
is_nobody None doing is h = refl
is_nobody (Some call) doing is h = absurd (none-some call.operation (sym (is ∙ h)))

busy_is : (o : Option Call) (doing : Option Operation) → operation_in o ≡ doing → IsTrue (is_some o) → IsTrue (is_some doing)
busy_is None doing is h = absurd (true≢false (sym h))
busy_is (Some call) doing is h = ap is_some (sym is)

is_busy : (o : Option Call) (doing : Option Operation) → operation_in o ≡ doing → IsTrue (is_some doing) → IsTrue (is_some o)
is_busy None doing is h = absurd (true≢false (sym (ap is_some is ∙ h)))
is_busy (Some call) doing is h = refl

ended_busy : (signals : Bool) (shape : GuestShape) (actor : ℕ) (o : Option Call) (answer : Option ℕ) → IsCallEnded signals shape actor o answer → IsTrue (is_some o)
ended_busy signals shape actor None answer h = absurd h
ended_busy signals shape actor (Some call) answer h = refl

-- of a state and a track that are those of the course
module _ (course : Course) (track : Track) (pieces : List (List Happened)) (are : AreCalls course track pieces) where
  next_parts : (moment : Moment) → IsNext course moment → IsComingNext course.ideal track moment × IsRightEnd course moment
  next_parts (Begin actor operation) next = ((next.0, none_is (call_of course actor) (doing_of track actor).operation (are.operations actor) next.1), tt)
  next_parts (Happens actor event found) next = (record { within = busy_is (call_of course actor) (doing_of track actor).operation (are.operations actor) next.within; can = next.can; allowed = next.allowed; hands = next.hands }, tt)
  next_parts (End actor answer) next = (busy_is (call_of course actor) (doing_of track actor).operation (are.operations actor) (ended_busy (course.signals actor) course.ideal.guest.shape actor (call_of course actor) answer next), next)

  parts_next : (moment : Moment) → IsComingNext course.ideal track moment → IsRightEnd course moment → IsNext course moment
  parts_next (Begin actor operation) coming right = (coming.0, is_nobody (call_of course actor) (doing_of track actor).operation (are.operations actor) coming.1)
  parts_next (Happens actor event found) coming right = record { within = is_busy (call_of course actor) (doing_of track actor).operation (are.operations actor) coming.within; can = coming.can; allowed = coming.allowed; hands = coming.hands }
  parts_next (End actor answer) coming right = right

module _ (guest : IdealGuest) (pass : Pass) (board : BoardOf) (moment : Moment) (of : IsOfPass guest.shape pass board) where
  -- what is said of the board's own state and track
  here : (P : Ideal → Track → Type 0) → P pass.course.ideal pass.track → P board.state board.track
  here P h = subst (λ track. P board.state track) of.track_is (subst (λ state. P state pass.track) of.state_is h)

  there : (P : Ideal → Track → Type 0) → P board.state board.track → P pass.course.ideal pass.track
  there P h = subst (λ state. P state pass.track) (sym of.state_is) (subst (λ track. P board.state track) (sym of.track_is) h)

  divided : GoesOnLegally guest pass moment → GoesOnInParts guest pass board moment
  divided goes =
      let parts = next_parts pass.course board.track board.pieces of.calls moment goes.next in
      record {
        coming = subst (λ state. IsComingNext state board.track moment) of.state_is parts.0;
        right = parts.1;
        fresh = here (λ state track. IsFreshAt state track moment) (record { interface = goes.interface; end = goes.end; deactivation = goes.deactivation });
        begun = goes.begun;
        answered = goes.answered;
      }

  whole : GoesOnInParts guest pass board moment → GoesOnLegally guest pass moment
  whole parts =
      let fresh : IsFreshAt pass.course.ideal pass.track moment = there (λ state track. IsFreshAt state track moment) parts.fresh in
      record {
        next = parts_next pass.course board.track board.pieces of.calls moment (subst (λ state. IsComingNext state board.track moment) (sym of.state_is) parts.coming) parts.right;
        begun = parts.begun;
        answered = parts.answered;
        interface = fresh.interface;
        end = fresh.end;
        deactivation = fresh.deactivation;
      }

pub parts_are_all : PartsAreAll
parts_are_all guest pass board moment of = (divided guest pass board moment of, whole guest pass board moment of)
