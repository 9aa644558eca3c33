-- Laws of legal lists.
use Rattle.std.specs.Prelude.{ℕ, Bool, false, IsTrue, List, ◌++◌, Option}
use Rattle.std.specs.Option.{option_map_or}
use Rattle.law_histories.specs.Words.{Key}
use Rattle.law_histories.specs.Calls.{Moment}
use Rattle.law_histories.specs.Histories.{IdealGuest, Call, IsHistory, IsWhole, IsFresh, is_to_come, call_of, course_of, opening_course}
use Rattle.legal_lists.specs.Legal.{IsLegal, may_make, may_come}

-- the first moments of a legal list are one
abbrev pub PartsOfLegalAreLegal : Type 0
PartsOfLegalAreLegal = (guest : IdealGuest) (early late : List Moment) → IsLegal guest (early ++ late) → IsLegal guest early

-- moments are legal exactly where they are a history and fresh
pub record IsLegalWhereFresh (guest : IdealGuest) (moments : List Moment) : Type 0 where
  pub history : IsLegal guest moments → IsHistory guest moments
  pub fresh : IsLegal guest moments → IsFresh guest moments
  pub legal : IsHistory guest moments → IsFresh guest moments → IsLegal guest moments

-- so it is of a list in which all calls ended
abbrev pub WholeLegalIsFresh : Type 0
WholeLegalIsFresh = (guest : IdealGuest) (moments : List Moment) → IsWhole guest moments → IsLegalWhereFresh guest moments

-- the call of an actor after moments of a guest
abbrev pub call_after : IdealGuest → List Moment → ℕ → Option Call
call_after guest moments actor = call_of (course_of (opening_course guest) moments) actor

-- an actor's call may make an event of an interrupt
abbrev pub may_make_now : IdealGuest → List Moment → ℕ → Key → Bool
may_make_now guest moments actor key = option_map_or (λ call. may_make guest.shape actor call key) (call_after guest moments actor) false

pub record MadeWasToCome : Type 0 where
  -- what an actor makes of an interrupt further on in its call, or command, of a legal list is among what that might make before
  pub among : (guest : IdealGuest) (early late : List Moment) (actor : ℕ) (key : Key) → IsLegal guest (early ++ late) → IsTrue (is_to_come actor key late) → IsTrue (may_make_now guest early actor key)
  -- and so is what it may yet make at the end of the list, where it is still in that
  pub shrinks :
      (guest : IdealGuest) (early late : List Moment) (actor : ℕ) (key : Key) → IsLegal guest (early ++ late) → IsTrue (may_come guest.shape (call_after guest (early ++ late) actor) actor key late) →
      IsTrue (may_make_now guest early actor key)
