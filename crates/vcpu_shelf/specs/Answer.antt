-- What the calls of the shelf promise: the answer of `take`, and what travels.
use Rattle.std.specs.Prelude.{◌≡◌, ℕ, ◌<◌, ◌++◌, ◌∷◌, [], Bool, false, IsTrue, List, Option, Some, None, slice_get, length}
use Rattle.vcpu_shelf.specs.declared.view.Deed.TheVariants.{Stored}
use Rattle.vcpu_shelf.specs.declared.traveller.Taken.{Taken as Answer}
use Rattle.vcpu_shelf.specs.declared.traveller.Taken.TheVariants.{Vcpu, Busy, AllDone}
use Rattle.vcpu_shelf.specs.Scan.{Finding, Outcome, Got, SomeLeft, NoneLeft, IsScan, deeds_from, outcome, out_after}
use Rattle.vcpu_shelf.specs.Told.{SeatTold}
use Rattle.vcpu_shelf.specs.Word.{next_in, stored_word}

-- a fact of the traveller, where one was handed out; one where none was; and one where all places were found finished
abbrev pub IfVcpu : {T : Type 0} → Answer T → (T → Type 0) → Type 0
IfVcpu (Vcpu traveller) fact = fact traveller
IfVcpu Busy fact = Unit {0}
IfVcpu AllDone fact = Unit {0}

abbrev pub OnNone : {T : Type 0} → Answer T → Type 0 → Type 0
OnNone (Vcpu traveller) fact = Unit {0}
OnNone Busy fact = fact
OnNone AllDone fact = fact

abbrev pub OnAllDone : {T : Type 0} → Answer T → Type 0 → Type 0
OnAllDone (Vcpu traveller) fact = Unit {0}
OnAllDone Busy fact = Unit {0}
OnAllDone AllDone fact = fact

module _ {T : Type 0} (place_of next_of : T → ℕ) (done_of : T → Bool) where
  -- a traveller that is handed out is of the place that was won, as far as its owner word says, and not done
  pub record IsHandedOut (at word : ℕ) (traveller : T) : Type 0 where
    pub at_is : place_of traveller ≡ at
    pub next : next_of traveller ≡ next_in word
    pub done : done_of traveller ≡ false

  -- the answer is the one that a scan comes to
  abbrev pub IsAnswer : Outcome → Answer T → Type 0
  IsAnswer (Got place word) (Vcpu traveller) = IsHandedOut place word traveller
  IsAnswer SomeLeft Busy = Unit {0}
  IsAnswer NoneLeft AllDone = Unit {0}
  IsAnswer came answer = ⊥

  -- a seat made one scan of so many places, and got the answer that this comes to
  pub record IsTaking (places : ℕ) (before : SeatTold) (answer : Answer T) (after : SeatTold) : Type 0 where
    pub findings : List Finding
    pub scan : IsScan places findings
    pub answer_is : IsAnswer (outcome findings) answer
    pub after_is : after ≡ record { home = before.home; deeds = before.deeds ++ deeds_from 0 findings; out = out_after (outcome findings) }

  -- a seat after it put a traveller back: it stored that its place is finished, where the traveller is done, or else free
  abbrev pub putting : T → SeatTold → SeatTold
  putting traveller seat = record { home = seat.home; deeds = seat.deeds ++ Stored (place_of traveller) (stored_word (done_of traveller) (next_of traveller)) ∷ []; out = None }

-- each traveller stands at its place
abbrev pub AreInPlace : {T : Type 0} → (T → ℕ) → List T → Type 0
AreInPlace {T} place_of travellers = (place : ℕ) (traveller : T) → slice_get travellers place ≡ Some traveller → place_of traveller ≡ place

-- a place has its traveller, which is done
pub record IsBack {T : Type 0} (place_of : T → ℕ) (done_of : T → Bool) (slots : List (Option T)) (place : ℕ) : Type 0 where
  pub traveller : T
  pub there : slice_get slots place ≡ Some (Some traveller)
  pub at : place_of traveller ≡ place
  pub done : IsTrue (done_of traveller)

-- so many places have their travellers, which are all done
pub record AreBack {T : Type 0} (place_of : T → ℕ) (done_of : T → Bool) (places : ℕ) (slots : List (Option T)) : Type 0 where
  pub count : length slots ≡ places
  pub each : (place : ℕ) → place < places → IsBack place_of done_of slots place
