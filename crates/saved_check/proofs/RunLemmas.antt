-- States of guests, one for each, and their wires.
use Rattle.std.proofs.Common.{◌≡◌, ℕ, List, [], ◌∷◌, length, fold, replicate, Option, None, refl, ◌∙◌, arith}
use Rattle.std.proofs.lemmas.List.{length-set, length-replicate, length-append, length-map}
use Rattle.std.proofs.lemmas.List.Sums.{sum_by-cons}
use Rattle.std.proofs.lemmas.List.Elements.{All-map, All-weaker}
use Rattle.std.specs.List.{slice_set}
use Rattle.saved_guest.specs.IdealGuests.Words.{GuestShape, IsShape, interrupt_count, place_of}
use Rattle.saved_guest.specs.IdealGuests.Calls.{IsGoodGuest, shapes_of}
use Rattle.saved_guest.specs.ScnSaved.ScnBase.declared.standing.MovedWire.{MovedWire}
use Rattle.saved_guest.specs.ScnSaved.ScnBase.Standing.{wire_count, IsStanding}
use Rattle.saved_guest.specs.ScnSaved.declared.saved.Saved.{Saved}
use Rattle.saved_guest.specs.ScnSaved.declared.state.RecState.{RecState}
use Rattle.saved_guest.specs.Standing.{moved_wire, wires_of, all_wires, standing_of}
use Rattle.saved_guest.specs.IdealGuests.Calls.{GuestSpec}
use Rattle.saved_guest.specs.ScnSaved.declared.state.GuestState.{GuestState}
use Rattle.saved_guest.specs.Whole.{AreValidStates, IsValidRun}

pub as_many : (guests : List GuestSpec) (states : List GuestState) → AreValidStates guests states → length states ≡ length guests
as_many [] [] valid = refl
as_many [] (state ∷ states) valid = absurd valid
as_many (guest ∷ guests) [] valid = absurd valid
as_many (guest ∷ guests) (state ∷ states) valid = let more = as_many guests states valid.1 in omega (arith, more)

-- a guest has a wire for each of its interrupts
put_wires : GuestShape → List (Option MovedWire) → List RecState → List (Option MovedWire)
put_wires shape wires recs = fold (λ wires rec. slice_set wires (place_of shape rec.key) (moved_wire rec)) wires recs

length-put_wires : (shape : GuestShape) (wires : List (Option MovedWire)) (recs : List RecState) → length (put_wires shape wires recs) ≡ length wires
unfolding put_wires
length-put_wires shape wires [] = refl
length-put_wires shape wires (rec ∷ recs) = length-put_wires shape (slice_set wires (place_of shape rec.key) (moved_wire rec)) recs ∙ length-set wires (place_of shape rec.key) (moved_wire rec)

length-wires_of : (shape : GuestShape) (recs : List RecState) → length (wires_of shape recs) ≡ interrupt_count shape
unfolding put_wires
length-wires_of shape recs = length-put_wires shape (replicate (interrupt_count shape) None) recs ∙ length-replicate (interrupt_count shape) None

length-all_wires : (guests : List GuestSpec) (states : List GuestState) → AreValidStates guests states → length (all_wires guests states) ≡ wire_count (shapes_of guests)
length-all_wires [] [] valid = refl
length-all_wires [] (state ∷ states) valid = absurd valid
length-all_wires (guest ∷ guests) [] valid = absurd valid
length-all_wires (guest ∷ guests) (state ∷ states) valid =
    let more = length-all_wires guests states valid.1 in
    let here = length-wires_of guest.shape state.rec in
    let whole = length-append (wires_of guest.shape state.rec) (all_wires guests states) in
    let sum = sum_by-cons interrupt_count guest.shape (shapes_of guests) in
    omega (arith, more, here, whole, sum)

pub stands : (rest : ℕ) (saved : Saved) → IsValidRun rest saved → IsStanding (standing_of saved)
stands rest saved valid =
    let many = length-map saved.scenario.guests (λ guest. guest.shape) in
    record {
      shapes = All-map IsShape (λ (guest : GuestSpec). guest.shape) saved.scenario.guests (All-weaker IsGoodGuest (λ guest. IsShape guest.shape) (λ guest good. good.shape) saved.scenario.guests valid.each_guest);
      guests = omega (arith, many, valid.guests);
      pes = omega (arith, valid.each_pe, valid.pes);
      wires = length-all_wires saved.scenario.guests saved.state valid.states;
    }
