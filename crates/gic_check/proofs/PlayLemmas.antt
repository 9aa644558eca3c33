-- What is known of a guest after some moments of it.
use Rattle.std.proofs.Common.{◌≡◌, ◌↔◌, ℕ, ◌<◌, Bool, true, false, IsTrue, List, [], ◌∷◌, ◌++◌, length, replicate, Option, option_map, Some, None, is_some, refl, sym, ap, ◌∙◌, subst, true≢false}
use Rattle.std.specs.Option.{option_map_or}
use Rattle.std.proofs.lemmas.Grind.{fold-append}
use Rattle.std.proofs.lemmas.List.{length-replicate}
use Rattle.std.proofs.lemmas.Option.{none-some, same_Some}
use Rattle.trace_told.specs.Words.{GuestShape, IsShape}
use Rattle.trace_told.specs.Calls.{GuestSpec, Operation, Happened, Moment}
use Rattle.trace_told.specs.GicCall.declared.event.Moment.TheVariants.{End}
use Rattle.trace_told.specs.Histories.{IdealGuest, Ideal, Call, opening_guest, actor_count, call_of, course_of, opening_course, doing_of, IsEndedAs, IsCallEnded}
use Rattle.trace_told.specs.LegalLists.Legal.{IsBegun}
use Rattle.trace_told.specs.LegalPlay.LegalSteps.Step.{opening_pass, passed, pass_of, IsActorBegun}
use Rattle.trace_told.specs.LegalPlay.Board.{BoardOf, IsOfPass, HasRoom, IsRightEnd}
use Rattle.trace_told.specs.LegalPlay.Pieces.{piece_of}
use Rattle.trace_told.specs.LegalPlay.Answering.{AreGood}
use Rattle.trace_told.specs.LegalPlay.HistoryPlay.HistoryCalls.Exact.{is_good, are_records, IsOpen}
use Rattle.trace_told.proofs.LegalPlay.LegalSteps.CourseLemmas.{nobody_opens}
use Rattle.trace_told.proofs.LegalPlay.LegalSteps.PassLaw.{pass_course}
use Rattle.trace_told.proofs.LegalPlay.HistoryPlay.CourseLemmas.{busy_there}
use Rattle.trace_told.proofs.LegalPlay.HistoryPlay.HistoryCalls.OpenLaw.{calls_open}
use Rattle.history_turns.specs.Noted.{NotedOf, HasNoted, IsNotedOf}
use Rattle.history_turns.specs.Begun.{begun_by as commands_by}
use Rattle.history_turns.proofs.PlaceLaw.{calls_placed}
use Rattle.history_turns.proofs.BegunLaw.{commands_counted}
use Rattle.gic_check.specs.Notes.{AreAllDone, nothing_noted, noted_of}
use Rattle.gic_check.specs.Play.{IsPlayed}
use Rattle.gic_check.proofs.NoteLemmas.{ArePlaced}

-- Calls of a pass.

module _ (guest : IdealGuest) (moments : List Moment) where
  in_course : (actor : ℕ) (call : Call) → call_of (pass_of guest moments).course actor ≡ Some call → call_of (course_of (opening_course guest) moments) actor ≡ Some call
  in_course actor call is = ap (λ c. call_of c actor) (sym (pass_course (opening_pass guest) moments)) ∙ is

  pub are_placed : ArePlaced (pass_of guest moments).course
  are_placed actor call is = calls_placed guest moments actor call (in_course actor call is)

  are_counted : (actor : ℕ) (call : Call) → call_of (pass_of guest moments).course actor ≡ Some call → length call.commands ≡ commands_by call.piece
  are_counted actor call is = commands_counted guest moments actor call (in_course actor call is)

  are_open : (actor : ℕ) (call : Call) → call_of (pass_of guest moments).course actor ≡ Some call → IsOpen call
  are_open actor call is = calls_open guest moments actor call (in_course actor call is)

-- with one moment more
pub one_more : (guest : IdealGuest) (moments : List Moment) (moment : Moment) → pass_of guest (moments ++ moment ∷ []) ≡ passed (pass_of guest moments) moment
one_more guest moments moment = fold-append passed (opening_pass guest) moments (moment ∷ [])

-- What a board and notes say of an actor's call.

-- an operation and a piece that can be judged
pub record IsJudgeable (s : GuestShape) (operation : Operation) (piece : List Happened) : Type 0 where
  pub shaped : IsShape s
  pub records : IsTrue (are_records s piece)
  pub good : IsTrue (is_good s operation)

pub record IsKnown (guest : IdealGuest) (moments : List Moment) (board : BoardOf) (notes : List NotedOf) (actor : ℕ) (operation : Operation) : Type 0 where
  pub call : Call
  pub there : call_of (pass_of guest moments).course actor ≡ Some call
  pub noted : IsNotedOf guest.shape operation (piece_of board.pieces actor) (noted_of notes actor) call
  pub signals : (pass_of guest moments).course.signals actor ≡ (noted_of notes actor).signals

nobody : (signals : Bool) (shape : GuestShape) (actor : ℕ) (o : Option Call) (answer : Option ℕ) → option_map (λ (call : Call). call.operation) o ≡ None → IsCallEnded signals shape actor o answer → ⊥
nobody signals shape actor None answer h right = right
nobody signals shape actor (Some call) answer h right = none-some call.operation (sym h)

module _ (guest : IdealGuest) (moments : List Moment) (board : BoardOf) (notes : List NotedOf) (is : IsPlayed guest moments board notes) where
  pub room : HasRoom board
  room = record { ready = is.of.ready; kept = is.of.kept; rooms = is.of.calls.rooms }

  pub is_shape : IsShape board.state.guest.shape
  is_shape = is.of.ready.shape

  pub good : AreGood board.state.guest.shape board.track
  good = subst (λ s. AreGood s board.track) (sym is.of.shape_is) is.good

  pub records_here : (actor : ℕ) → IsTrue (are_records board.state.guest.shape (piece_of board.pieces actor))
  records_here actor = subst (λ s. IsTrue (are_records s (piece_of board.pieces actor))) (sym is.of.shape_is) (is.records actor)

  pub notes_long : length notes ≡ length board.track.doings
  notes_long = is.noted.rooms ∙ is.of.calls.actors

  pub notes_count : length notes ≡ actor_count board.state.guest.shape
  notes_count = notes_long ∙ is.of.kept.followed.actors

  pub course_shape : (pass_of guest moments).course.ideal.guest.shape ≡ guest.shape
  course_shape = ap (λ (s : Ideal). s.guest.shape) is.of.state_is ∙ is.of.shape_is

  pub known : (actor : ℕ) (operation : Operation) → (doing_of board.track actor).operation ≡ Some operation → IsKnown guest moments board notes actor operation
  known actor operation busy = of (call_of (pass_of guest moments).course actor) refl (is.of.calls.operations actor ∙ busy)
    where
      of : (o : Option Call) → call_of (pass_of guest moments).course actor ≡ o → option_map (λ (call : Call). call.operation) o ≡ Some operation → IsKnown guest moments board notes actor operation
      of None e h = absurd (none-some operation h)
      of (Some call) e h =
          let noted = is.noted.of actor call e in
          record {
            call = call;
            there = e;
            noted = record {
              of = record {
                operation_is = same_Some _ _ h;
                piece_is = ap (λ o. option_map_or (λ (c : Call). c.piece) o []) (sym e) ∙ is.of.calls.made actor;
                opened = are_open guest moments actor call e;
              };
              place = are_placed guest moments actor call e;
              counted = are_counted guest moments actor call e;
              has = subst (λ op. HasNoted guest.shape (noted_of notes actor) op call) (same_Some _ _ h) noted.has;
            };
            signals = noted.signals_is;
          }

  -- whether it is right as it ends, and can still become it
  pub ended_right : (actor : ℕ) (operation : Operation) (answer : Option ℕ) (ended : Bool) → (doing_of board.track actor).operation ≡ Some operation
      → ((call : Call) → IsNotedOf board.state.guest.shape operation (piece_of board.pieces actor) (noted_of notes actor) call → IsTrue ended ↔ IsEndedAs (noted_of notes actor).signals board.state.guest.shape actor call answer)
      → IsTrue ended ↔ IsRightEnd (pass_of guest moments).course (End actor answer)
  ended_right actor operation answer ended busy so =
      let k = known actor operation busy in
      let here : IsTrue ended ↔ IsEndedAs (noted_of notes actor).signals board.state.guest.shape actor k.call answer =
      so k.call (subst (λ s. IsNotedOf s operation (piece_of board.pieces actor) (noted_of notes actor) k.call) (sym is.of.shape_is) k.noted) in
      subst (λ o. IsTrue ended ↔ IsCallEnded ((pass_of guest moments).course.signals actor) (pass_of guest moments).course.ideal.guest.shape actor o answer) (sym k.there)
      (subst (λ s. IsTrue ended ↔ IsEndedAs s (pass_of guest moments).course.ideal.guest.shape actor k.call answer) (sym k.signals)
      (subst (λ s. IsTrue ended ↔ IsEndedAs (noted_of notes actor).signals s actor k.call answer) (is.of.shape_is ∙ sym course_shape) here))

  pub ended_none : (actor : ℕ) (answer : Option ℕ) → (doing_of board.track actor).operation ≡ None → IsTrue false ↔ IsRightEnd (pass_of guest moments).course (End actor answer)
  ended_none actor answer idle = (
    λ h. absurd (true≢false (sym h)),
    λ right. absurd (nobody ((pass_of guest moments).course.signals actor) (pass_of guest moments).course.ideal.guest.shape actor (call_of (pass_of guest moments).course actor) answer (is.of.calls.operations actor ∙ idle) right),
  )

  pub begun_right : (actor : ℕ) (operation : Operation) (begun : Bool) → (doing_of board.track actor).operation ≡ Some operation
      → ((call : Call) → IsNotedOf board.state.guest.shape operation (piece_of board.pieces actor) (noted_of notes actor) call → IsTrue begun ↔ IsBegun (noted_of notes actor).signals board.state.guest.shape actor call)
      → IsTrue begun ↔ IsActorBegun guest (pass_of guest moments).course actor
  begun_right actor operation begun busy so =
      let k = known actor operation busy in
      let here : IsTrue begun ↔ IsBegun (noted_of notes actor).signals board.state.guest.shape actor k.call =
      so k.call (subst (λ s. IsNotedOf s operation (piece_of board.pieces actor) (noted_of notes actor) k.call) (sym is.of.shape_is) k.noted) in
      let there : IsTrue begun ↔ IsBegun ((pass_of guest moments).course.signals actor) guest.shape actor k.call =
      subst (λ s. IsTrue begun ↔ IsBegun s guest.shape actor k.call) (sym k.signals) (subst (λ s. IsTrue begun ↔ IsBegun (noted_of notes actor).signals s actor k.call) is.of.shape_is here) in
      (λ h call e. subst (IsBegun ((pass_of guest moments).course.signals actor) guest.shape actor) (same_Some k.call call (sym k.there ∙ e)) (there.0 h), λ all. there.1 (all k.call k.there))

  pub begun_none : (actor : ℕ) → (doing_of board.track actor).operation ≡ None → IsTrue true ↔ IsActorBegun guest (pass_of guest moments).course actor
  begun_none actor idle = (
    λ h call e. absurd (none-some call.operation (sym (is.of.calls.operations actor ∙ idle) ∙ ap (option_map (λ (c : Call). c.operation)) e)),
    λ all. refl,
  )

  -- what the judges of calls ask for
  pub judgeable : (s : GuestShape) (actor : ℕ) (operation : Operation) (piece : List Happened) → s ≡ board.state.guest.shape → (doing_of board.track actor).operation ≡ Some operation → piece ≡ piece_of board.pieces actor → IsJudgeable s operation piece
  judgeable s actor operation piece same busy made = record {
    shaped = subst IsShape (sym same) is_shape;
    records = subst (λ x. IsTrue (are_records x piece)) (sym same) (subst (λ p. IsTrue (are_records board.state.guest.shape p)) (sym made) (records_here actor));
    good = subst (λ x. IsTrue (is_good x operation)) (sym same) (good actor operation busy);
  }

  -- by what the judges say of these
  pub ended_by : (s : GuestShape) (actor : ℕ) (operation : Operation) (piece : List Happened) (noted : NotedOf) (answer : Option ℕ) (ended : Bool) → s ≡ board.state.guest.shape → (doing_of board.track actor).operation ≡ Some operation
      → piece ≡ piece_of board.pieces actor → noted ≡ noted_of notes actor → ((call : Call) → IsNotedOf s operation piece noted call → IsTrue ended ↔ IsEndedAs noted.signals s actor call answer) → IsTrue ended ↔ IsRightEnd (pass_of guest moments).course (End actor answer)
  ended_by s actor operation piece noted answer ended same busy made notes_are so =
      ended_right actor operation answer ended busy
      (subst (λ (n : NotedOf). (call : Call) → IsNotedOf board.state.guest.shape operation (piece_of board.pieces actor) n call → IsTrue ended ↔ IsEndedAs n.signals board.state.guest.shape actor call answer) notes_are
      (subst (λ p. (call : Call) → IsNotedOf board.state.guest.shape operation p noted call → IsTrue ended ↔ IsEndedAs noted.signals board.state.guest.shape actor call answer) made
      (subst (λ x. (call : Call) → IsNotedOf x operation piece noted call → IsTrue ended ↔ IsEndedAs noted.signals x actor call answer) same so)))

  pub begun_by : (s : GuestShape) (actor : ℕ) (operation : Operation) (piece : List Happened) (noted : NotedOf) (begun : Bool) → s ≡ board.state.guest.shape → (doing_of board.track actor).operation ≡ Some operation
      → piece ≡ piece_of board.pieces actor → noted ≡ noted_of notes actor → ((call : Call) → IsNotedOf s operation piece noted call → IsTrue begun ↔ IsBegun noted.signals s actor call) → IsTrue begun ↔ IsActorBegun guest (pass_of guest moments).course actor
  begun_by s actor operation piece noted begun same busy made notes_are so =
      begun_right actor operation begun busy
      (subst (λ (n : NotedOf). (call : Call) → IsNotedOf board.state.guest.shape operation (piece_of board.pieces actor) n call → IsTrue begun ↔ IsBegun n.signals board.state.guest.shape actor call) notes_are
      (subst (λ p. (call : Call) → IsNotedOf board.state.guest.shape operation p noted call → IsTrue begun ↔ IsBegun noted.signals board.state.guest.shape actor call) made
      (subst (λ x. (call : Call) → IsNotedOf x operation piece noted call → IsTrue begun ↔ IsBegun noted.signals x actor call) same so)))

  pub actor_there : (actor : ℕ) (operation : Operation) → (doing_of board.track actor).operation ≡ Some operation → actor < length notes
  actor_there actor operation busy = subst (λ n. actor < n) (sym notes_long) (busy_there board.track.doings actor (ap is_some busy))

-- As a guest opens.

abbrev pub operation_in : Option Call → Option Operation
operation_in o = option_map (λ (call : Call). call.operation) o

abbrev pub piece_in : Option Call → List Happened
piece_in o = option_map_or (λ (call : Call). call.piece) o []

pub opened : (guest : IdealGuest) (board : BoardOf) (notes : List NotedOf) → IsOfPass guest.shape (opening_pass guest) board → notes ≡ replicate (actor_count guest.shape) nothing_noted → IsPlayed guest [] board notes
opened guest board notes of are = record {
  of = of;
  noted = record {
    rooms = ap length are ∙ (length-replicate (actor_count guest.shape) nothing_noted ∙ sym (length-replicate (actor_count guest.shape) nobody_calls));
    of = λ actor call is. absurd (none-some call (sym (nobody_opens guest actor) ∙ is));
  };
  good = λ actor operation busy. absurd (none-some operation (ap operation_in (sym (nobody_opens guest actor)) ∙ (of.calls.operations actor ∙ busy)));
  records = λ actor. ap (are_records guest.shape) (sym (of.calls.made actor) ∙ ap piece_in (nobody_opens guest actor));
}
  where
    nobody_calls : Option Call
    nobody_calls = None

-- as none is mapped then, no command was done
pub opened_done : (spec : GuestSpec) (board : BoardOf) → IsOfPass spec.shape (opening_pass (opening_guest spec)) board → AreAllDone board.state []
opened_done spec board of = ap (λ (ideal : Ideal). ideal.guest.tables) (sym of.state_is)
