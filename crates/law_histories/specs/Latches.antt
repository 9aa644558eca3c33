-- Latched causes of an interrupt that stays edge-triggered: which there are, and since when (IHI 0069, "Interrupt handling state machine").
use Rattle.std.specs.Prelude.{◌≡◌, ℕ, ◌+◌, ◌<◌, ◌==◌, ◌&&◌, ◌||◌, Bool, true, false, IsTrue, List, [], ◌∷◌, nat_lt, None, if◌then◌else◌}
use Rattle.std.specs.List.{list_any}
use Rattle.std.specs.Option.{option_map_or}
use Rattle.floor_histories.specs.Words.{IccReg, Iar0, Iar1, Key, SetPending, ClearPending, has_interrupt, intid_of, is_same_key, is_number}
use Rattle.floor_histories.specs.Calls.{Event, Up, Touch, Reach, Take, Cpu, Found, Moment, Happens, Register, GuestSpec, IsGoodGuest}
use Rattle.floor_histories.specs.GicCall.declared.event.Event.TheVariants.{Raise}
use Rattle.floor_histories.specs.GicCall.declared.event.Found.TheVariants.{Answer}
use Rattle.floor_histories.specs.GicCall.declared.touch.Touching.TheVariants.{Forget}
use Rattle.floor_histories.specs.Histories.{irq_at, after_moment, IsHistory, last_of, Ideal, Standing, is_of, moved_at, IdealGuest, opening_guest}
use Rattle.floor_histories.specs.GicHistory.State.{opening}

-- Events of an interrupt.

-- a cause comes: a raise, a wire that goes up, or a write of 1 to its bit of ISPENDR
abbrev pub brings_cause : Key → Event → Bool
brings_cause key (Raise other) = is_same_key key other
brings_cause key (Up other) = is_same_key key other
brings_cause key (Touch other (Register SetPending value)) = is_same_key key other && value == 1
brings_cause key event = false

-- its causes are cleared: by a write of 1 to its bit of ICPENDR, by CLEAR, or as an LPI is discarded
abbrev pub clears_causes : Key → Event → Bool
clears_causes key (Touch other (Register ClearPending value)) = is_same_key key other && value == 1
clears_causes key (Touch other Forget) = is_same_key key other
clears_causes key event = false

-- it gets to an interface, or becomes pending there once more
abbrev pub is_offered : Key → Event → Bool
is_offered key (Reach other vcpu) = is_same_key key other
is_offered key (Take other vcpu) = is_same_key key other
is_offered key event = false

-- it is acknowledged: a read of IAR0 or IAR1 answers its INTID while it is pending at the vCPU's interface
abbrev pub is_iar : IccReg → Bool
is_iar Iar0 = true
is_iar Iar1 = true
is_iar reg = false

abbrev pub is_pending_at : Ideal → ℕ → Key → Bool
is_pending_at state vcpu key = option_map_or (λ moved. moved.entry.pending) (moved_at state vcpu key) false

abbrev pub acknowledges : Ideal → Key → Event → Found → Bool
acknowledges state key (Cpu vcpu reg None) (Answer answer) = is_iar reg && is_number (intid_of key) answer && is_pending_at state vcpu key
acknowledges state key event found = false

-- Along a history.

-- the events of a history are numbered from 1: how many there were; and of an interrupt the number of the last that brought a cause, of the last that offered
-- it to a vCPU, and of the one up to which its causes are spent: the last clear, or the offer whose causes an acknowledge consumed (0: none)
pub record Latch : Type 0 where
  pub now : ℕ
  pub cause : ℕ
  pub offer : ℕ
  pub spent : ℕ

abbrev pub no_latch : Latch
no_latch = record { now = 0; cause = 0; offer = 0; spent = 0 }

-- after a moment, where the state before it is this
abbrev pub latched : Key → Ideal → Moment → Latch → Latch
latched key state (Happens actor event found) latch =
    let now = latch.now + 1 in
    record {
      now = now;
      cause = if brings_cause key event then now else latch.cause;
      offer = if is_offered key event then now else latch.offer;
      spent = if clears_causes key event then now else (if acknowledges state key event found then latch.offer else latch.spent);
    }
latched key state moment latch = latch

abbrev pub latch_from : Key → Ideal → Latch → List Moment → Latch
latch_from key state latch [] = latch
latch_from key state latch (moment ∷ moments) = latch_from key (after_moment state moment) (latched key state moment latch) moments

abbrev pub latch_of : IdealGuest → Key → List Moment → Latch
latch_of guest key moments = latch_from key (opening guest) no_latch moments

-- it is edge-triggered all along
abbrev pub StaysEdge : Key → Ideal → List Moment → Type 0
StaysEdge key state [] = (irq_at state.guest key).edge ≡ true
StaysEdge key state (moment ∷ moments) = ((irq_at state.guest key).edge ≡ true) × StaysEdge key (after_moment state moment) moments

-- The law.

-- a cause is there: in its record, or at an interface
abbrev pub has_cause_there : Key → Standing → Bool
has_cause_there key standing = is_of key standing && (standing.entry.rise || standing.entry.soft)

abbrev pub has_cause : Ideal → Key → Bool
has_cause state key = let irq = irq_at state.guest key in irq.rise || irq.soft || list_any (list_any (has_cause_there key)) state.at

-- an interface has a cause of it
abbrev pub has_cause_at : Ideal → ℕ → Key → Bool
has_cause_at state vcpu key = option_map_or (λ moved. moved.entry.rise || moved.entry.soft) (moved_at state vcpu key) false

-- at the end of a history: a cause is there exactly where one came since they were spent; and an acknowledge would find one at its vCPU's interface, which
-- came since they were spent: so none is acknowledged twice, nor after a clear
pub record LatchHolds (guest : IdealGuest) (key : Key) (moments : List Moment) : Type 0 where
  pub there : has_cause (last_of guest moments) key ≡ nat_lt (latch_of guest key moments).spent (latch_of guest key moments).cause
  pub found : (vcpu : ℕ) (reg : IccReg) (found : Found) → acknowledges (last_of guest moments) key (Cpu vcpu reg None) found ≡ true → has_cause_at (last_of guest moments) vcpu key ≡ true
  pub came : (vcpu : ℕ) (reg : IccReg) (found : Found) → acknowledges (last_of guest moments) key (Cpu vcpu reg None) found ≡ true → (latch_of guest key moments).spent < (latch_of guest key moments).cause

-- in every history of a good guest from its opening, of each interrupt that is edge-triggered all along
abbrev pub Latches : Type 0
Latches =
    (spec : GuestSpec) (key : Key) (moments : List Moment) → IsGoodGuest spec → IsTrue (has_interrupt spec.shape key) → IsHistory (opening_guest spec) moments
    → StaysEdge key (opening (opening_guest spec)) moments → LatchHolds (opening_guest spec) key moments
