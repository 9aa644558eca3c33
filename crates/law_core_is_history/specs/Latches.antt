-- Latched causes in runs.
use Rattle.std.specs.Prelude.{◌≡◌, ℕ, ◌&&◌, ◌||◌, Bool, IsTrue, List, nat_lt}
use Rattle.std.specs.List.{list_any, range_with_len}
use Rattle.law_lines_translate.specs.Calls.{GuestSpec, IsGoodGuest}
use Rattle.law_lines_translate.specs.Words.{Key, GuestShape, has_interrupt, is_same_key, irq_of}
use Rattle.law_lines_translate.specs.Histories.{opening_course, IdealGuest, opening_guest}
use Rattle.law_lines_translate.specs.GicHistory.State.{opening as opening_ideal}
use Rattle.law_histories.specs.Latches.{StaysEdge, latch_of, LatchHolds}
use Rattle.law_lines_translate.specs.Core.{AtIrq, Irq, CoreState, opening, seat_at, word_in, end_of_moments, ideal_of, CoreMoment, IsPartedRun}
use Rattle.law_core_is_history.specs.Laws.{AreCalls}

-- a vCPU has a cause of it at its interface, also where the interrupt was given back and not released yet
abbrev pub has_cause_of : Key → AtIrq → Bool
has_cause_of key at = is_same_key at.key key && (at.rise || at.soft)

abbrev pub has_cause_at : CoreState → Key → ℕ → Bool
has_cause_at state key vcpu = list_any (has_cause_of key) (seat_at state vcpu).local.at

-- a cause of an interrupt is there: in its word, or at an interface
abbrev pub has_cause_in : GuestShape → CoreState → Key → Bool
has_cause_in shape state key = let irq = irq_of (word_in shape state (Irq key)) in irq.rise || irq.soft || list_any (has_cause_at state key) (range_with_len 0 shape.vcpus)

-- the words and interfaces have a cause exactly where one came since they were spent; and so it is in the history
pub record LatchHoldsIn (guest : IdealGuest) (number : ℕ) (key : Key) (moments : List CoreMoment) : Type 0 where
  pub there :
      has_cause_in guest.shape (end_of_moments guest.shape (opening guest number) moments) key
      ≡ nat_lt (latch_of guest key (ideal_of guest.shape (opening guest number) moments)).spent (latch_of guest key (ideal_of guest.shape (opening guest number) moments)).cause
  pub history : LatchHolds guest key (ideal_of guest.shape (opening guest number) moments)

-- at the end of every run whose parts make their calls, of each interrupt that is edge-triggered all along
abbrev pub Latches : Type 0
Latches =
    (spec : GuestSpec) (number : ℕ) (key : Key) (moments : List CoreMoment) → IsGoodGuest spec → IsTrue (has_interrupt spec.shape key) → IsPartedRun (opening_guest spec) number moments
    → AreCalls spec.shape (opening (opening_guest spec) number) (opening_course (opening_guest spec)) moments
    → StaysEdge key (opening_ideal (opening_guest spec)) (ideal_of spec.shape (opening (opening_guest spec) number) moments) → LatchHoldsIn (opening_guest spec) number key moments
