-- Parts of an actor that are still to come, as its port tells of them.
use Rattle.std.proofs.Common.{◌≡◌, ℕ, List, [], ◌∷◌, ◌++◌, map, Option, refl, sym, ap, ◌∙◌, subst}
use Rattle.std.proofs.lemmas.List.{append-nil, append_assoc}
use Rattle.law_ends_agree.specs.Words.{GuestShape}
use Rattle.law_ends_agree.specs.Calls.{Operation}
use Rattle.law_ends_agree.specs.Histories.{IdealGuest}
use Rattle.law_ends_agree.specs.Core.{Made, local_after, Seen, local_by, seen_after, Seat, Act, begins, makes, ends}
use Rattle.pe_place.specs.Parts.{AreCalls, IsPartFound, Part, acts_in}

-- what a port tells of an actor with this for itself
abbrev pub told_by : IdealGuest → ℕ → Seen → Seat → Seen
told_by guest actor base seat = record base { guest = guest; actor = actor; local = seat.local; own = seat.own }

-- an actor after a step, and after some
abbrev pub next_seat : GuestShape → ℕ → Seat → Made → Seat
next_seat shape actor seat made = record { local = local_after shape actor seat.local made.step made.found; own = seat.own ++ made ∷ [] }

abbrev pub seat_after : GuestShape → ℕ → Seat → List Made → Seat
seat_after shape actor seat steps = record { local = local_by shape actor seat.local steps; own = seat.own ++ steps }

-- the actor is in no part, and these acts are all that is left of it
pub record IsIdle (guest : IdealGuest) (actor : ℕ) (now : Seat) (acts : List Act) : Type 0 where
  pub base : Seen
  pub parts : List Part
  pub acts_are : acts ≡ acts_in parts
  pub told : AreCalls (told_by guest actor base now) parts

-- it is in a part, with these steps still to come, and these parts after it
pub record IsPartly (guest : IdealGuest) (actor : ℕ) (now : Seat) (acts : List Act) (seat : Seat) (part : Part) (todo : List Made) : Type 0 where
  pub base : Seen
  pub rest : List Part
  pub acts_are : acts ≡ map makes todo ++ ends part.answer ∷ acts_in rest
  pub later : AreCalls (seen_after (told_by guest actor base seat) part.steps) rest
  pub local_is : local_by guest.shape actor seat.local part.steps ≡ local_by guest.shape actor now.local todo
  pub own_is : seat.own ++ part.steps ≡ now.own ++ todo

same_head : (one two : Act) (first next : List Act) → one ∷ first ≡ two ∷ next → one ≡ two
same_head one two first next e = cc

same_tail : (one two : Act) (first next : List Act) → one ∷ first ≡ two ∷ next → first ≡ next
same_tail one two first next e = cc

-- Where a part begins.

pub record Begins (guest : IdealGuest) (actor : ℕ) (now : Seat) (operation : Operation) (acts : List Act) : Type 0 where
  pub base : Seen
  pub part : Part
  pub operation_is : part.operation ≡ operation
  pub told : IsPartFound (told_by guest actor base now) part
  pub partly : IsPartly guest actor now acts now part part.steps

begun_operation : (one two : Operation) (m n : ℕ) → begins one m ≡ begins two n → two ≡ one
begun_operation one two m n e = cc

pub idle_begins : (guest : IdealGuest) (actor : ℕ) (now : Seat) (operation : Operation) (lrs : ℕ) (acts : List Act) → IsIdle guest actor now (begins operation lrs ∷ acts) → Begins guest actor now operation acts
idle_begins guest actor now operation lrs acts idle = of idle.parts idle.acts_are idle.told
  where
    of : (parts : List Part) → begins operation lrs ∷ acts ≡ acts_in parts → AreCalls (told_by guest actor idle.base now) parts → Begins guest actor now operation acts
    of [] e told = absurd (cc)
    of (part ∷ parts) e told = record {
      base = idle.base;
      part = part;
      operation_is = begun_operation operation part.operation lrs part.lrs (same_head (begins operation lrs) (begins part.operation part.lrs) acts _ e);
      told = told.0;
      partly = record {
        base = idle.base;
        rest = parts;
        acts_are = same_tail (begins operation lrs) (begins part.operation part.lrs) acts _ e ∙ append_assoc (map makes part.steps) (ends part.answer ∷ []) (acts_in parts);
        later = told.1;
        local_is = refl;
        own_is = refl;
      };
    }

-- an actor in no part makes no step and ends none
pub idle_makes_none : (guest : IdealGuest) (actor : ℕ) (now : Seat) (made : Made) (acts : List Act) → IsIdle guest actor now (makes made ∷ acts) → ⊥
idle_makes_none guest actor now made acts idle = of idle.parts idle.acts_are
  where
    of : (parts : List Part) → makes made ∷ acts ≡ acts_in parts → ⊥
    of [] e = cc
    of (part ∷ parts) e = let head = same_head (makes made) (begins part.operation part.lrs) acts _ e in cc

pub idle_ends_none : (guest : IdealGuest) (actor : ℕ) (now : Seat) (answer : Option ℕ) (acts : List Act) → IsIdle guest actor now (ends answer ∷ acts) → ⊥
idle_ends_none guest actor now answer acts idle = of idle.parts idle.acts_are
  where
    of : (parts : List Part) → ends answer ∷ acts ≡ acts_in parts → ⊥
    of [] e = cc
    of (part ∷ parts) e = let head = same_head (ends answer) (begins part.operation part.lrs) acts _ e in cc

-- Where a part goes on.

module _ (guest : IdealGuest) (actor : ℕ) (now : Seat) (seat : Seat) (part : Part) where
  -- it begins no other
  pub partly_begins_none : (operation : Operation) (lrs : ℕ) (acts : List Act) (todo : List Made) → IsPartly guest actor now (begins operation lrs ∷ acts) seat part todo → ⊥
  partly_begins_none operation lrs acts [] is = let head = same_head (begins operation lrs) (ends part.answer) acts (acts_in is.rest) is.acts_are in cc
  partly_begins_none operation lrs acts (made ∷ todo) is = let head = same_head (begins operation lrs) (makes made) acts (map makes todo ++ ends part.answer ∷ acts_in is.rest) is.acts_are in cc

  same_made : (one two : Made) → makes one ≡ makes two → two ≡ one
  same_made one two e = cc

  -- its next step
  pub record Makes (made : Made) (acts : List Act) (todo : List Made) : Type 0 where
    pub more : List Made
    pub todo_is : todo ≡ made ∷ more
    pub partly : IsPartly guest actor (next_seat guest.shape actor now made) acts seat part more

  pub partly_makes : (made : Made) (acts : List Act) (todo : List Made) → IsPartly guest actor now (makes made ∷ acts) seat part todo → Makes made acts todo
  partly_makes made acts [] is = absurd (let head = same_head (makes made) (ends part.answer) acts (acts_in is.rest) is.acts_are in cc)
  partly_makes made acts (first ∷ todo) is =
      let same : first ≡ made = same_made made first (same_head (makes made) (makes first) acts (map makes todo ++ ends part.answer ∷ acts_in is.rest) is.acts_are) in
      record {
        more = todo;
        todo_is = ap (λ one. one ∷ todo) same;
        partly = record {
          base = is.base;
          rest = is.rest;
          acts_are = same_tail (makes made) (makes first) acts (map makes todo ++ ends part.answer ∷ acts_in is.rest) is.acts_are;
          later = is.later;
          local_is = is.local_is ∙ ap (λ (one : Made). local_by guest.shape actor (local_after guest.shape actor now.local one.step one.found) todo) same;
          own_is = is.own_is ∙ ap (λ one. now.own ++ one ∷ todo) same ∙ sym (append_assoc now.own (made ∷ []) todo);
        };
      }

  -- its end
  pub record Ends (answer : Option ℕ) (acts : List Act) (todo : List Made) : Type 0 where
    pub todo_is : todo ≡ []
    pub answer_is : answer ≡ part.answer
    pub idle : IsIdle guest actor now acts

  same_answer : (one two : Option ℕ) → ends one ≡ ends two → one ≡ two
  same_answer one two e = cc

  pub partly_ends : (answer : Option ℕ) (acts : List Act) (todo : List Made) → IsPartly guest actor now (ends answer ∷ acts) seat part todo → Ends answer acts todo
  partly_ends answer acts (first ∷ todo) is = absurd (let head = same_head (ends answer) (makes first) acts (map makes todo ++ ends part.answer ∷ acts_in is.rest) is.acts_are in cc)
  partly_ends answer acts [] is = record {
    todo_is = refl;
    answer_is = same_answer answer part.answer (same_head (ends answer) (ends part.answer) acts (acts_in is.rest) is.acts_are);
    idle = record {
      base = seen_after (told_by guest actor is.base seat) part.steps;
      parts = is.rest;
      acts_are = same_tail (ends answer) (ends part.answer) acts (acts_in is.rest) is.acts_are;
      told = subst (λ (s : Seat). AreCalls (told_by guest actor (seen_after (told_by guest actor is.base seat) part.steps) s) is.rest) seat_is is.later;
    };
  }
    where
      seat_is : seat_after guest.shape actor seat part.steps ≡ now
      seat_is =
          ap (λ local. let s : Seat = record { local = local; own = seat.own ++ part.steps } in s) is.local_is
          ∙ ap (λ own. let s : Seat = record { local = now.local; own = own } in s) (is.own_is ∙ append-nil now.own)
