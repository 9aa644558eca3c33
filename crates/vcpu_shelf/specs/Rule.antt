-- The rule of the owner words, the slots and what the seats know, and what one step tells its seat.
use Rattle.std.specs.Prelude.{◌≡◌, ◌≢◌, ℕ, ◌≤◌, Bool, false, IsTrue, List, ◌∷◌, Option, Some, length, slice_index}
use mathlib.Core.Option.{Option as Slot, some, none}
use lib.ListN.{get_elem?}
use Rattle.atomic_table.specs.Table.{State, Me, rest}
use Rattle.vcpu_shelf.specs.declared.word.TheConstants.{FINISHED}
use Rattle.vcpu_shelf.specs.declared.view.View.{View}
use Rattle.vcpu_shelf.specs.Word.{state_in, next_in, is_taken, is_finished}
use Rattle.vcpu_shelf.specs.View.{is_found_finished, looked, tried, stored}

-- what was found finished is finished; what is out with a seat is taken, and is out with no other
pub record AreViews (words : List ℕ) (views : List View) : Type 0 where
  pub finished : (id place : ℕ) (view : View) → get_elem? views id ≡ some view → IsTrue (is_found_finished place view.deeds) → IsTrue (is_finished (slice_index words place))
  pub taken : (id place : ℕ) (view : View) → get_elem? views id ≡ some view → view.out ≡ Some place → IsTrue (is_taken (slice_index words place))
  pub apart : (one other place : ℕ) (view more : View) → get_elem? views one ≡ some view → get_elem? views other ≡ some more → view.out ≡ Some place → more.out ≡ Some place → one ≡ other

module _ {T : Type 0} (place_of next_of : T → ℕ) (done_of : T → Bool) where
  -- a slot is at home with the traveller of its place, which is as the word says
  pub record IsHome (at word : ℕ) (slot : Slot (Option T)) : Type 0 where
    pub traveller : T
    pub there : slot ≡ some (Some traveller)
    pub place : place_of traveller ≡ at
    pub next : next_of traveller ≡ next_in word
    pub done : done_of traveller ≡ is_finished word

  -- a place is free, taken or finished; its traveller is with one seat, or on the shelf
  pub record IsPlace (at word : ℕ) (slot : Slot (Option T)) : Type 0 where
    pub state : state_in word ≤ FINISHED
    pub home : is_taken word ≡ false → IsHome at word slot
    pub away : IsTrue (is_taken word) → slot ≡ none

  -- the rule of a shelf of so many places
  pub record IsShelf (places : ℕ) (table : State (Option T) View) : Type 0 where
    pub words : length table.words ≡ places
    pub homes : length table.homes ≡ places
    pub each : (place : ℕ) (slot : Slot (Option T)) → get_elem? table.homes place ≡ some slot → IsPlace place (slice_index table.words place) slot
    pub views : AreViews table.words table.views

  -- a try that found the word as seen took the slot, with the traveller that the word tells of
  pub record TakesSlot (at seen : ℕ) (before after : Me (Option T) View) : Type 0 where
    pub traveller : T
    pub holds : after.1 ≡ (at, Some traveller) ∷ before.1
    pub place : place_of traveller ≡ at
    pub next : next_of traveller ≡ next_in seen
    pub done : done_of traveller ≡ false

  -- a try took the slot where it found the word as seen, and else nothing
  pub record IsTried (place seen : ℕ) (before : Me (Option T) View) (found : ℕ) (after : Me (Option T) View) : Type 0 where
    pub knows : after.0 ≡ tried place seen found before.0
    pub won : found ≡ seen → TakesSlot place seen before after
    pub lost : found ≢ seen → after.1 ≡ before.1

module _ {T : Type 0} where
  -- a look found a word of some state
  pub record IsLooked (place : ℕ) (before : Me (Option T) View) (found : ℕ) (after : Me (Option T) View) : Type 0 where
    pub knows : after.0 ≡ looked place found before.0
    pub holds : after.1 ≡ before.1
    pub state : state_in found ≤ FINISHED

  -- a put stored a word, and gave the slot back
  pub record IsStored (place word : ℕ) (before after : Me (Option T) View) : Type 0 where
    pub knows : after.0 ≡ stored place word before.0
    pub holds : after.1 ≡ rest before.1
