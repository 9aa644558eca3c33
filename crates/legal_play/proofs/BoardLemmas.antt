-- What is known after some moments.
use Rattle.std.proofs.Common.{◌≡◌, ◌<◌, ℕ, ◌+◌, zero, suc, List, [], length, replicate, Option, option_map, None, slice_index_or, refl, sym, ap, ◌∙◌, subst}
use Rattle.std.specs.Prelude.{false}
use Rattle.std.specs.Option.{option_map_or}
use Rattle.std.proofs.lemmas.List.{length-replicate}
use Rattle.legal_steps.specs.Words.{GuestShape}
use Rattle.legal_steps.specs.Calls.{Moment, Begin, Happens, Happened}
use Rattle.legal_steps.specs.GicCall.declared.event.Moment.TheVariants.{End}
use Rattle.legal_steps.specs.Histories.{IdealGuest, Ideal, Call, actor_count, opening_course, opening_track, Doing, Track, tracked, after_moment}
use Rattle.legal_steps.specs.Waiting.{Waiting, waits_after}
use Rattle.legal_steps.specs.Step.{Pass, opening_pass, passed, actor_of}
use Rattle.legal_steps.proofs.PassLaw.{state_after}
use Rattle.history_play.specs.HistoryCheck.GicHistory.State.{opening}
use Rattle.history_play.specs.HistoryCheck.Ready.{IsReady}
use Rattle.history_play.specs.Coming.{is_unknown, CanFollow}
use Rattle.history_play.specs.Kept.{IsKept}
use Rattle.history_play.proofs.CheckLemmas.{opened as opens_kept}
use Rattle.history_play.proofs.CourseLemmas.{shape_kept, kept_more, busy_there}
use Rattle.legal_play.specs.Passing.{CanPass}
use Rattle.legal_play.specs.Pieces.{pieces_after, AreCalls, IsOfActor}
use Rattle.legal_play.specs.Board.{BoardOf, IsOfPass, HasRoom, IsComingNext}
use Rattle.legal_play.proofs.CallsLaw.{followed}

-- As a guest opens.

abbrev idle : Doing
idle = record { operation = None; number = 0; done = []; fetched = false }

abbrev nobody : Option Call
nobody = None

none_called : (n j : ℕ) → option_map (λ (call : Call). call.operation) (slice_index_or (replicate n nobody) j None) ≡ (slice_index_or (replicate n idle) j idle).operation
none_called zero j = refl
none_called (suc n) zero = refl
none_called (suc n) (suc j) = none_called n j

none_made : (n j : ℕ) → option_map_or (λ (call : Call). call.piece) (slice_index_or (replicate n nobody) j None) [] ≡ slice_index_or (replicate {A = List Happened} n []) j []
none_made zero j = refl
none_made (suc n) zero = refl
none_made (suc n) (suc j) = none_made n j

opening_calls : (guest : IdealGuest) → AreCalls (opening_course guest) (opening_track guest.shape) (replicate (actor_count guest.shape) [])
opening_calls guest =
    let n = actor_count guest.shape in
    record {
      actors = length-replicate n nobody ∙ sym (length-replicate n idle);
      rooms = length-replicate n [] ∙ sym (length-replicate n idle);
      operations = none_called n;
      made = none_made n;
    }

pub opened : (guest : IdealGuest) (state : Ideal) (track : Track) (pieces : List (List Happened)) → IsReady state → state ≡ opening guest → track ≡ opening_track guest.shape → pieces ≡ replicate (actor_count guest.shape) []
    → IsOfPass guest.shape (opening_pass guest) (record { state = state; track = track; pieces = pieces; waits = []; moments = 0 })
opened guest state track pieces ready is tracks are = record {
  state_is = sym is;
  track_is = sym tracks;
  waits_are = refl;
  calls = subst (λ pieces. AreCalls (opening_course guest) track pieces) (sym are) (subst (λ track. AreCalls (opening_course guest) track (replicate (actor_count guest.shape) [])) (sym tracks) (opening_calls guest));
  ready = ready;
  kept = (opens_kept guest [] state track ready is tracks).kept;
  shape_is = ap (λ (s : Ideal). s.guest.shape) is;
}

-- A moment that goes on.

module _ (state : Ideal) (track : Track) (n : ℕ) (kept : IsKept state.guest.shape n track) where
  -- its actor is there
  of_actor : (moment : Moment) → IsComingNext state track moment → IsOfActor track moment
  of_actor (Begin actor operation) coming = subst (λ count. actor < count) (sym kept.followed.actors) coming.0
  of_actor (Happens actor event found) coming = coming.within
  of_actor (End actor answer) coming = busy_there track.doings actor coming

  in_track : (moment : Moment) → IsComingNext state track moment → actor_of moment < length track.doings
  in_track (Begin actor operation) coming = subst (λ count. actor < count) (sym kept.followed.actors) coming.0
  in_track (Happens actor event found) coming = busy_there track.doings actor coming.within
  in_track (End actor answer) coming = busy_there track.doings actor coming

  pub can_follow : (moment : Moment) → IsComingNext state track moment → is_unknown state moment ≡ false → CanFollow state moment
  can_follow (Begin actor operation) coming known = coming.0
  can_follow (Happens actor event found) coming known = (subst (λ count. actor < count) kept.followed.actors (busy_there track.doings actor coming.within), coming.can, known)
  can_follow (End actor answer) coming known = subst (λ count. actor < count) kept.followed.actors (busy_there track.doings actor coming)

pub can_pass : (state : Ideal) (track : Track) (moment : Moment) → IsComingNext state track moment → CanPass state.guest.shape moment
can_pass state track (Begin actor operation) coming = tt
can_pass state track (Happens actor event found) coming = coming.can
can_pass state track (End actor answer) coming = tt

pub has_piece : (board : BoardOf) (moment : Moment) → HasRoom board → IsComingNext board.state board.track moment → actor_of moment < length board.pieces
has_piece board moment room coming = subst (λ count. actor_of moment < count) (sym room.rooms) (in_track board.state board.track board.moments room.kept moment coming)

pub advanced : (shape : GuestShape) (pass : Pass) (board : BoardOf) (moment : Moment) (state : Ideal) (track : Track) (pieces : List (List Happened)) (waits : List Waiting) → IsOfPass shape pass board → IsComingNext board.state board.track moment
    → IsReady state → state ≡ after_moment board.state moment → track ≡ tracked board.state moment board.track → pieces ≡ pieces_after moment board.pieces → waits ≡ waits_after board.state board.track moment board.waits
    → IsOfPass shape (passed pass moment) (record { state = state; track = track; pieces = pieces; waits = waits; moments = board.moments + 1 })
advanced shape pass board moment state track pieces waits of coming ready is tracks are wait =
    let course = pass.course in
    let shape-same : state.guest.shape ≡ board.state.guest.shape = ap (λ (s : Ideal). s.guest.shape) is ∙ shape_kept board.state moment in
    let calls = followed course board.track board.pieces moment of.calls (of_actor board.state board.track board.moments of.kept moment coming) in
    let track-is : tracked course.ideal moment board.track ≡ track = ap (λ s. tracked s moment board.track) of.state_is ∙ sym tracks in
    record {
      state_is = state_after course moment ∙ (ap (λ s. after_moment s moment) of.state_is ∙ sym is);
      track_is = ap (λ t. tracked course.ideal moment t) of.track_is ∙ track-is;
      waits_are = ap (λ s. waits_after s pass.track moment pass.waits) of.state_is ∙ (ap (λ t. waits_after board.state t moment pass.waits) of.track_is ∙ (ap (waits_after board.state board.track moment) of.waits_are ∙ sym wait));
      calls = subst (λ t. AreCalls (passed pass moment).course t pieces) track-is (subst (AreCalls (passed pass moment).course (tracked course.ideal moment board.track)) (sym are) calls);
      ready = ready;
      kept = subst (λ s. IsKept s (board.moments + 1) track) (sym shape-same) (subst (IsKept board.state.guest.shape (board.moments + 1)) (sym tracks) (kept_more board.state board.moments board.track moment of.kept));
      shape_is = shape-same ∙ of.shape_is;
    }
