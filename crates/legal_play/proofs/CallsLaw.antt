-- What is noted of the calls of a course, moment by moment.
use Rattle.std.proofs.Common.{◌≡◌, ℕ, zero, suc, false, IsTrue, List, [], ◌∷◌, ◌++◌, map, length, Option, option_map, Some, None, is_some, slice_set, slice_index_or, refl, sym, ap, ◌∙◌, arith, true≢false}
use Rattle.std.specs.Option.{option_map_or}
use Rattle.std.proofs.lemmas.List.{length-set, length-map}
use Rattle.legal_steps.specs.Words.{GuestShape}
use Rattle.legal_steps.specs.Calls.{Event, Cpu, Found, Runs, Begin, Happens, Happened, Operation}
use Rattle.legal_steps.specs.GicCall.declared.event.Event.TheVariants.{Queue}
use Rattle.legal_steps.specs.GicCall.declared.event.Moment.TheVariants.{End}
use Rattle.legal_steps.specs.Histories.{Ideal, Call, call_of, begun, noted, made, seeing, happened, Doing, Track, doing_of, after_changes, after_doing, after_leaving}
use Rattle.legal_steps.proofs.CourseLemmas.{noted_piece}
use Rattle.legal_play.specs.Pieces.{piece_of}
use Rattle.legal_play.specs.Laws.{CallsAreFollowed}

-- Two lists that agree, and an element of each.

agree : {X Y V : Type 0} (f : X → V) (g : Y → V) (dx : X) (dy : Y) (xs : List X) (ys : List Y) (i : ℕ) (x : X) (y : Y) → length xs ≡ length ys → f x ≡ g y
    → ((j : ℕ) → f (slice_index_or xs j dx) ≡ g (slice_index_or ys j dy)) → (j : ℕ) → f (slice_index_or (slice_set xs i x) j dx) ≡ g (slice_index_or (slice_set ys i y) j dy)
agree f g dx dy [] [] i x y same here all j = all j
agree f g dx dy [] (b ∷ ys) i x y same here all j = absurd (omega (arith, same))
agree f g dx dy (a ∷ xs) [] i x y same here all j = absurd (omega (arith, same))
agree f g dx dy (a ∷ xs) (b ∷ ys) zero x y same here all zero = here
agree f g dx dy (a ∷ xs) (b ∷ ys) zero x y same here all (suc j) = all (suc j)
agree f g dx dy (a ∷ xs) (b ∷ ys) (suc i) x y same here all zero = all zero
agree f g dx dy (a ∷ xs) (b ∷ ys) (suc i) x y same here all (suc j) = agree f g dx dy xs ys i x y (omega (arith, same)) here (λ j. all (suc j)) j

seen : {V : Type 0} (f : Option Call → V) (change : Call → Call) → ((o : Option Call) → f (option_map change o) ≡ f o) → (calls : List (Option Call)) (j : ℕ) → f (slice_index_or (map (option_map change) calls) j None) ≡ f (slice_index_or calls j None)
seen f change keeps [] j = refl
seen f change keeps (x ∷ calls) zero = keeps x
seen f change keeps (x ∷ calls) (suc j) = seen f change keeps calls j

-- What events leave.

pub noted_operation : (ideal : Ideal) (event : Event) (call : Call) → (noted ideal event call).operation ≡ call.operation
noted_operation ideal (Queue offset Runs) call = refl
noted_operation ideal (Queue offset change) call = refl
noted_operation ideal event call = refl

doing_operation : (state : Ideal) (actor : ℕ) (event : Event) (doing : Doing) → (after_doing state actor event doing).operation ≡ doing.operation
doing_operation state actor event doing = of event
  where
    of : (event : Event) → (after_doing state actor event doing).operation ≡ doing.operation
    of (Queue offset change) = refl
    of event = refl

doings_same : (state : Ideal) (shape : GuestShape) (actor : ℕ) (event : Event) (track : Track) → (after_leaving state event (after_changes shape actor event track)).doings ≡ track.doings
doings_same state shape actor event track = of event
  where
    of : (event : Event) → (after_leaving state event (after_changes shape actor event track)).doings ≡ track.doings
    of (Cpu vcpu reg write) = refl
    of event = refl

-- What is noted of a call.

abbrev operation_in : Option Call → Option Operation
operation_in o = option_map (λ (call : Call). call.operation) o

abbrev piece_in : Option Call → List Happened
piece_in o = option_map_or (λ (call : Call). call.piece) o []

made_operation : (ideal : Ideal) (event : Event) (found : Found) (o : Option Call) → operation_in (option_map (made ideal event found) o) ≡ operation_in o
made_operation ideal event found None = refl
made_operation ideal event found (Some call) = ap Some (noted_operation ideal event call)

made_piece : (ideal : Ideal) (event : Event) (found : Found) (o : Option Call) (doing : Option Operation) (piece : List Happened) → operation_in o ≡ doing → IsTrue (is_some doing) → piece_in o ≡ piece
    → piece_in (option_map (made ideal event found) o) ≡ piece ++ (record { event = event; found = found }) ∷ []
made_piece ideal event found None doing piece is busy so = absurd (true≢false (sym busy ∙ ap is_some (sym is)))
made_piece ideal event found (Some call) doing piece is busy so = ap (λ piece. piece ++ (record { event = event; found = found }) ∷ []) (noted_piece ideal event call ∙ so)

seen_operation : (ideal : Ideal) (o : Option Call) → operation_in (option_map (seeing ideal) o) ≡ operation_in o
seen_operation ideal None = refl
seen_operation ideal (Some call) = refl

seen_piece : (ideal : Ideal) (o : Option Call) → piece_in (option_map (seeing ideal) o) ≡ piece_in o
seen_piece ideal None = refl
seen_piece ideal (Some call) = refl

abbrev idle : Doing
idle = record { operation = None; number = 0; done = []; fetched = false }

abbrev operation_of : Doing → Option Operation
operation_of doing = doing.operation

pub followed : CallsAreFollowed
followed course track pieces (Begin actor operation) are of = record {
  actors = length-set course.calls actor _ ∙ are.actors ∙ sym (length-set track.doings actor _);
  rooms = length-set pieces actor [] ∙ are.rooms ∙ sym (length-set track.doings actor _);
  operations = agree operation_in operation_of None idle course.calls track.doings actor (Some (begun course.ideal operation)) _ are.actors refl are.operations;
  made = agree piece_in (λ piece. piece) None [] course.calls pieces actor (Some (begun course.ideal operation)) [] (are.actors ∙ sym are.rooms) refl are.made;
}
followed course track pieces (End actor answer) are of = record {
  actors = length-set course.calls actor _ ∙ are.actors ∙ sym (length-set track.doings actor _);
  rooms = length-set pieces actor [] ∙ are.rooms ∙ sym (length-set track.doings actor _);
  operations = agree operation_in operation_of None idle course.calls track.doings actor None _ are.actors refl are.operations;
  made = agree piece_in (λ piece. piece) None [] course.calls pieces actor None [] (are.actors ∙ sym are.rooms) refl are.made;
}
followed course track pieces (Happens actor event found) are of =
    let ideal = happened actor event course.ideal in
    let call = option_map (made course.ideal event found) (call_of course actor) in
    let doing = after_doing course.ideal actor event (doing_of track actor) in
    let doings = (after_leaving course.ideal event (after_changes course.ideal.guest.shape actor event track)).doings in
    let same : doings ≡ track.doings = doings_same course.ideal course.ideal.guest.shape actor event track in
    let set : length (slice_set doings actor doing) ≡ length track.doings = length-set doings actor doing ∙ ap length same in
    record {
      actors = length-map (slice_set course.calls actor call) (option_map (seeing ideal)) ∙ length-set course.calls actor call ∙ are.actors ∙ sym set;
      rooms = length-set pieces actor _ ∙ are.rooms ∙ sym set;
      operations = λ j.
          seen operation_in (seeing ideal) (seen_operation ideal) (slice_set course.calls actor call) j
          ∙ agree operation_in operation_of None idle course.calls track.doings actor call doing are.actors (made_operation course.ideal event found (call_of course actor) ∙ are.operations actor ∙ sym (doing_operation course.ideal actor event (doing_of track actor))) are.operations j
          ∙ ap (λ (ds : List Doing). (slice_index_or (slice_set ds actor doing) j idle).operation) (sym same);
      made = λ j.
          seen piece_in (seeing ideal) (seen_piece ideal) (slice_set course.calls actor call) j
          ∙ agree piece_in (λ piece. piece) None [] course.calls pieces actor call _ (are.actors ∙ sym are.rooms) (made_piece course.ideal event found (call_of course actor) (doing_of track actor).operation (piece_of pieces actor) (are.operations actor) of (are.made actor)) are.made j;
    }
