-- The copies of the group enables of GICD_CTLR that the interrupts have (IHI 0069, GICD_CTLR.RWP: a write has taken effect once it reads 0; own choice of
-- the copies).
use Rattle.std.specs.Prelude.{◌≡◌, ℕ, ◌<◌, ◌≤◌, IsTrue, List, ◌++◌, fold, Option, Some, None}
use Rattle.floor_histories.specs.Words.{Key, GuestShape, has_interrupt, place_of, Irq}
use Rattle.floor_histories.specs.Calls.{CtlrBegin, Moment, Happens}
use Rattle.floor_histories.specs.Registers.{Enables}
use Rattle.floor_histories.specs.Histories.{irq_at, Ideal, IsHistory, IsWhole, last_of, IdealGuest, CanOpen, copy_in}
use Rattle.floor_histories.specs.GicHistory.State.{opening}

-- what GICD_CTLR has, and what the last write of it replaced, after a moment
abbrev pub replaced : Enables × Enables → Moment → Enables × Enables
replaced pair (Happens actor (CtlrBegin enables) found) = (enables, pair.0)
replaced pair moment = pair

abbrev pub replaced_in : IdealGuest → List Moment → Enables × Enables
replaced_in guest moments = fold replaced ((opening guest).guest.enables, (opening guest).guest.enables) moments

-- a write of GICD_CTLR is half done: the interrupts before a place in key order have copies of the new enables, and the others of those that it replaced
pub record IsHalfDone (shape : GuestShape) (irqs : Key → Irq) (enables old : Enables) : Type 0 where
  pub place : ℕ
  pub passed : (key : Key) → IsTrue (has_interrupt shape key) → place_of shape key < place → copy_in (irqs key) ≡ enables
  pub ahead : (key : Key) → IsTrue (has_interrupt shape key) → place ≤ place_of shape key → copy_in (irqs key) ≡ old

-- the records have copies of what GICD_CTLR has, where nobody has the mark that RWP shows; and where an actor has it, its write is half done
pub record CopiesAgree (shape : GuestShape) (irqs : Key → Irq) (enables old : Enables) (mark : Option ℕ) : Type 0 where
  pub free : mark ≡ None → (key : Key) → IsTrue (has_interrupt shape key) → copy_in (irqs key) ≡ enables
  pub taken : (actor : ℕ) → mark ≡ Some actor → IsHalfDone shape irqs enables old

abbrev pub CopiesAgreeIn : Ideal → Enables → Type 0
CopiesAgreeIn state old = CopiesAgree state.guest.shape (irq_at state.guest) state.guest.enables old state.spreads

-- at each moment of a history of a good guest that can go on until all its calls ended. (A call is judged at its end: one that never ends may have made events
-- that begin no call.)
abbrev pub EnablesAgree : Type 0
EnablesAgree =
    (guest : IdealGuest) (moments more : List Moment) → CanOpen guest → IsHistory guest (moments ++ more) → IsWhole guest (moments ++ more) → CopiesAgreeIn (last_of guest moments) (replaced_in guest moments).1
