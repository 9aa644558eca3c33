-- What is told of the shared words of guests, of their roots and of the actors' ports, and what a run leaves of all.
use Rattle.std.specs.Prelude.{All, ◌≡◌, ℕ, ◌<◌, false, IsTrue, List, [], ◌∷◌, ◌++◌, None, length, map, slice_index_or, slice_set}
use Rattle.atomic_table.specs.Seated.{TableId}
use Rattle.port_ops.specs.PortCore.IdealGuests.declared.guest.IdealGuest.{IdealGuest}
use Rattle.port_ops.specs.PortCore.IdealGuests.Opening.{opening as opening_guest}
use Rattle.port_ops.specs.PortCore.declared.end.GuestWords.{GuestWords}
use Rattle.port_ops.specs.PortCore.declared.run.Entry.{Entry}
use Rattle.port_ops.specs.PortCore.declared.run.Made.{Made}
use Rattle.port_ops.specs.Words.{Actor}
use Rattle.port_ops.specs.GuestWords.{words_at_end}
use Rattle.port_ops.specs.PortCore.Actor.{guest_of, number_of, has_actor}
use Rattle.port_ops.specs.PortCore.Port.{Seen, local_by}
use Rattle.port_ops.specs.PortCore.Run.{IsRun, opening, opening_local_of, own_steps}
use Rattle.port_ops.specs.Opened.{no_guest}
use Rattle.port_ops.specs.World.{state_after}
use Rattle.port_table.specs.declared.view.Account.{Account}
use Rattle.port_table.specs.View.{is_among, is_back, steps_of, with_account}

-- the words of a guest: where they are, how the guest opened, and its number
pub record WordsTold : Type 0 where
  pub home : TableId
  pub guest : IdealGuest
  pub number : ℕ

-- the root of a guest: which words it is of; the actors that were split off, and the steps of each that was joined again
pub record RootTold : Type 0 where
  pub home : TableId
  pub split : List ℕ
  pub joined : List Account

-- the root as a guest opens
abbrev pub opening_root : WordsTold → RootTold
opening_root words = record { home = words.home; split = []; joined = [] }

-- the root after an actor was split off, and after one was joined again
abbrev pub with_split : ℕ → RootTold → RootTold
with_split actor root = record root { split = root.split ++ actor ∷ [] }

abbrev pub with_joined : ℕ → List Made → RootTold → RootTold
with_joined actor own root = record root { joined = with_account actor own root.joined }

-- an actor's port as it is split off: nothing was done
abbrev pub opening_seen : WordsTold → ℕ → Seen
opening_seen words actor =
    record {
      home = words.home;
      guest = words.guest;
      number = words.number;
      actor = actor;
      local = opening_local_of words.guest words.number actor;
      own = [];
      taken = false;
      world = None;
    }

-- by its steps an actor has not the ITS
abbrev pub HasNoTurn : WordsTold → Account → Type 0
HasNoTurn words account = (local_by words.guest.shape account.actor (opening_local_of words.guest words.number account.actor) account.own).turn ≡ false

-- each actor that was split off was joined again, and none of them has the ITS
pub record IsDone (words : WordsTold) (root : RootTold) : Type 0 where
  pub back : (actor : ℕ) → IsTrue (is_among actor root.split) → IsTrue (is_back actor root.joined)
  pub idle : All (HasNoTurn words) root.joined

-- the lists that a root keeps are the parts of one run of the core from its guest's opening, by the guest's actors alone, which ends in these words and maps
pub record EndsRun (words : WordsTold) (root : RootTold) (left : GuestWords) : Type 0 where
  pub world : List Entry
  pub run : IsRun words.guest.shape (opening words.guest words.number) world
  pub lists : (actor : ℕ) → steps_of actor root.joined ≡ own_steps actor world
  pub left_is : left ≡ words_at_end words.guest.shape (state_after words.guest words.number world).words (state_after words.guest words.number world).maps

-- All guests of a scenario.

-- no words, and no root
abbrev pub no_words : WordsTold
no_words = record { home = record { words = 0; slots = 0; views_name = 0; atom = 0; block = 0; offset = 0; slot_names = [] }; guest = opening_guest no_guest; number = 0 }

-- those of the guest of a number
abbrev pub words_at : List WordsTold → ℕ → WordsTold
words_at words number = slice_index_or words number no_words

abbrev pub root_at : List RootTold → ℕ → RootTold
root_at root number = slice_index_or root number (opening_root no_words)

-- the words and the roots of guests as they open, in their order
pub record IsOpening (guests : List IdealGuest) (words : List WordsTold) (root : List RootTold) : Type 0 where
  pub each : length words ≡ length guests
  pub opened : (number : ℕ) → number < length guests → words_at words number ≡ record { home = (words_at words number).home; guest = slice_index_or guests number (opening_guest no_guest); number = number }
  pub roots : root ≡ map opening_root words

-- the roots are of these words
pub record AreRoots (words : List WordsTold) (root : List RootTold) : Type 0 where
  pub each : length root ≡ length words
  pub home : (number : ℕ) → number < length words → (root_at root number).home ≡ (words_at words number).home

-- there is such an actor, and its number in its guest
pub record HasActor (words : List WordsTold) (actor : Actor) : Type 0 where
  pub guest : guest_of actor < length words
  pub there : IsTrue (has_actor (words_at words (guest_of actor)).guest.shape actor)

abbrev pub number_in : List WordsTold → Actor → ℕ
number_in words actor = number_of (words_at words (guest_of actor)).guest.shape actor

-- it was not split off
abbrev pub HadNone : List WordsTold → List RootTold → Actor → Type 0
HadNone words root actor = is_among (number_in words actor) (root_at root (guest_of actor)).split ≡ false

-- an actor's port is of these words
pub record PortIsOf (words : List WordsTold) (seen : Seen) : Type 0 where
  pub guest : seen.number < length words
  pub home : (words_at words seen.number).home ≡ seen.home

-- the roots after an actor was split off, and after one was joined again: those of other guests stay
abbrev pub splitting : List WordsTold → Actor → List RootTold → List RootTold
splitting words actor root = slice_set root (guest_of actor) (with_split (number_in words actor) (root_at root (guest_of actor)))

abbrev pub joining_in : Seen → List RootTold → List RootTold
joining_in seen root = slice_set root seen.number (with_joined seen.actor seen.own (root_at root seen.number))

-- each actor that was split off was joined again, and none has an ITS
abbrev pub AllDone : List WordsTold → List RootTold → Type 0
AllDone words root = (number : ℕ) → number < length words → IsDone (words_at words number) (root_at root number)

-- each guest's own steps end its own run
abbrev pub EndsRuns : List WordsTold → List RootTold → List GuestWords → Type 0
EndsRuns [] [] [] = Unit {0}
EndsRuns (words ∷ others) (root ∷ roots) (left ∷ ends) = EndsRun words root left × EndsRuns others roots ends
EndsRuns words root ends = ⊥
