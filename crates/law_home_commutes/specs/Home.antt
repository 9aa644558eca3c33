-- How the events of a history go on with the guest as it is with all that stands at an interface taken back (own choice; the architecture leaves the moves to the implementation).
use Rattle.std.specs.Prelude.{◌≡◌, ℕ, ◌==◌, ◌&&◌, ◌||◌, not, Bool, true, false, IsTrue, Option, Some, is_some}
use Rattle.std.specs.List.{list_any}
use Rattle.std.specs.Option.{option_map_or}
use Rattle.law_histories.specs.Words.{IccReg, intid_of, key_of, is_number}
use Rattle.law_histories.specs.Registers.{Candidate, taken_by, deactivated_by, first_of, InterfaceState, candidates_at, interface_answer}
use Rattle.law_histories.specs.Calls.{Event, Reach, Take, Leave, Cpu, HandsOut, View}
use Rattle.law_histories.specs.Histories.{IdealGuest, irq_at, cpu_at, candidates, access_answer, view_of, after_event, asks_first, handed_out, happened, home, Ideal, interface_at}

-- an event moves an interrupt to an interface or from it, or makes it pending there
abbrev pub is_move : Event → Bool
is_move (Reach key vcpu) = true
is_move (Take key vcpu) = true
is_move (Leave key vcpu) = true
is_move event = false

-- an event is an access of a CPU interface register
abbrev pub is_cpu : Event → Bool
is_cpu (Cpu vcpu reg write) = true
is_cpu event = false

-- what a call can find in the guest with all taken back; whether GICD_CTLR is being copied is the state's
abbrev pub home_view : Ideal → View
home_view state = record (view_of (home state)) { is_spreading = is_some state.spreads }

-- an event does to the guest with all taken back what the eager controller does, and hands out what is there
pub record PassesHome (state : Ideal) (actor : ℕ) (event : Event) : Type 0 where
  pub goes : home (happened actor event state) ≡ after_event (home state) event
  pub hands : HandsOut (home_view state) event (handed_out state event)

-- When an access of a vCPU's interface shows the guest with all taken back.

-- the interrupt with an INTID is active at an interface; it is active by a vCPU in a guest
abbrev pub is_active_at : InterfaceState → ℕ → Bool
is_active_at interface id = list_any (λ one. intid_of one.key == id && one.active) interface.at

abbrev pub is_active_by : IdealGuest → ℕ → ℕ → Bool
is_active_by guest vcpu id = option_map_or (λ key. is_number vcpu (irq_at guest key).act_by) (key_of id vcpu guest.shape) false

-- the record of the interrupt with an INTID has no latched cause, but for those that an interface has of it
abbrev pub has_no_cause : IdealGuest → ℕ → ℕ → Bool
has_no_cause guest vcpu id = option_map_or (λ key. let irq = irq_at guest key in not (irq.rise || irq.soft)) (key_of id vcpu guest.shape) true

-- a read of IAR or HPPIR finds the first of all that are deliverable to the vCPU; what IAR acknowledges has all its causes at the interface; and what a write of EOIR
-- or DIR deactivates is active at the interface exactly where it is active by the vCPU. The other registers need nothing
pub record ShowsHome (state : Ideal) (vcpu : ℕ) (reg : IccReg) (write : Option ℕ) : Type 0 where
  pub first : asks_first reg write ≡ true → first_of (candidates_at (interface_at state vcpu)) ≡ first_of (candidates (home state) vcpu)
  pub causes : (found : Candidate) → taken_by reg write (cpu_at state.guest vcpu) (candidates_at (interface_at state vcpu)) ≡ Some found → IsTrue (has_no_cause state.guest vcpu found.id)
  pub end : (id : ℕ) → deactivated_by reg write (cpu_at state.guest vcpu) ≡ Some id → is_active_at (interface_at state vcpu) id ≡ is_active_by (home state) vcpu id

-- an access answers what it answers in the eager controller, and does what it does there
pub record AccessPassesHome (state : Ideal) (actor vcpu : ℕ) (reg : IccReg) (write : Option ℕ) : Type 0 where
  pub answers : interface_answer reg write (interface_at state vcpu) ≡ access_answer reg write (home state) vcpu
  pub goes : home (happened actor (Cpu vcpu reg write) state) ≡ after_event (home state) (Cpu vcpu reg write)
