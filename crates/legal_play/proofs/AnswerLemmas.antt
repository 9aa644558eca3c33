-- Who may still answer.
use Rattle.std.proofs.Common.{◌≡◌, ℕ, false, List, [], map, Option, option_map, Some, None, refl, sym, ap, ◌∙◌}
use Rattle.std.specs.Option.{option_map_or}
use Rattle.std.proofs.lemmas.Option.{none-some, same_Some}
use Rattle.legal_steps.specs.Words.{GuestShape, Key}
use Rattle.legal_steps.specs.Calls.{Happened, Operation}
use Rattle.legal_steps.specs.Histories.{Call, Course, call_of, Track, doing_of}
use Rattle.legal_steps.specs.LegalLists.Legal.{may_make, may_make_after}
use Rattle.legal_play.specs.Pieces.{piece_of, AreCalls}

of_call : (shape : GuestShape) (actor : ℕ) (key : Key) (o : Option Call) (operation : Operation) (piece : List Happened) → option_map (λ (call : Call). call.operation) o ≡ Some operation → option_map_or (λ (call : Call). call.piece) o [] ≡ piece
    → may_make_after shape actor operation (map (λ happened. happened.event) piece) key ≡ option_map_or (λ call. may_make shape actor call key) o false
of_call shape actor key None operation piece is so = absurd (none-some operation is)
of_call shape actor key (Some call) operation piece is so =
    ap (λ operation. may_make_after shape actor operation (map (λ happened. happened.event) piece) key) (sym (same_Some _ _ is)) ∙ ap (λ piece. may_make_after shape actor call.operation (map (λ happened. happened.event) piece) key) (sym so)

of_none : (shape : GuestShape) (actor : ℕ) (key : Key) (o : Option Call) → option_map (λ (call : Call). call.operation) o ≡ None → false ≡ option_map_or (λ call. may_make shape actor call key) o false
of_none shape actor key None is = refl
of_none shape actor key (Some call) is = absurd (none-some call.operation (sym is))

pub answers : (shape : GuestShape) (course : Course) (track : Track) (pieces : List (List Happened)) (actor : ℕ) (key : Key) (operation : Operation) → AreCalls course track pieces → (doing_of track actor).operation ≡ Some operation
    → may_make_after shape actor operation (map (λ happened. happened.event) (piece_of pieces actor)) key ≡ option_map_or (λ call. may_make shape actor call key) (call_of course actor) false
answers shape course track pieces actor key operation are is = of_call shape actor key (call_of course actor) operation (piece_of pieces actor) (are.operations actor ∙ is) (are.made actor)

pub answers_not : (shape : GuestShape) (course : Course) (track : Track) (pieces : List (List Happened)) (actor : ℕ) (key : Key) → AreCalls course track pieces → (doing_of track actor).operation ≡ None
    → false ≡ option_map_or (λ call. may_make shape actor call key) (call_of course actor) false
answers_not shape course track pieces actor key are is = of_none shape actor key (call_of course actor) (are.operations actor ∙ is)
