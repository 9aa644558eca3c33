-- The candidate indices are complete: a scan that looks at the bits that it finds there overlooks no interrupt (own choice).
use Rattle.std.specs.Prelude.{◌≡◌, ◌⊎◌, ℕ, ◌<◌, ◌/◌, ◌%◌, ◌&&◌, ◌||◌, Bool, false, IsTrue, List, None, is_none}
use Rattle.std.specs.Option.{option_map_or}
use Rattle.law_registers_stand.specs.Words.{Key, GuestShape, has_interrupt, is_same_key, has_bit, Irq as IrqRecord, is_number, is_ripe, irq_of}
use Rattle.law_registers_stand.specs.Histories.{IdealGuest, CanOpen}
use Rattle.law_registers_stand.specs.Core.{Local, Entry, Irq, Index, actor_count, is_cand, index_bit, CoreState, opening, seat_at, word_in, IsRun, end_of, concerns}

-- it waits for the vCPU: it is inactive and ripe for it, or active by it, so that the vCPU may take it to its interface, but for what it enables there itself
abbrev pub waits_for : GuestShape → ℕ → IrqRecord → Bool
waits_for shape vcpu irq = (is_none irq.act_by && is_ripe irq vcpu shape) || is_number vcpu irq.act_by

-- its bit is in the vCPU's index
abbrev pub is_indexed : GuestShape → CoreState → ℕ → Key → Bool
is_indexed shape state vcpu key = has_bit (word_in shape state (Index vcpu (index_bit shape key / 64))) (index_bit shape key % 64)

-- the vCPU took its bit, and did not settle it yet
abbrev pub is_taken : GuestShape → CoreState → ℕ → Key → Bool
is_taken shape state vcpu key = is_cand (seat_at state vcpu).local.cands (index_bit shape key)

-- an actor owes the vCPU a kick, and a mark of the interrupt
abbrev pub owes_kick : ℕ → Local → Bool
owes_kick vcpu local = has_bit local.owes.0 vcpu

abbrev pub owes_mark : Key → ℕ → Local → Bool
owes_mark key vcpu local = option_map_or (λ owed. is_same_key owed key) local.marks.key false && has_bit local.marks.vcpus.0 vcpu

-- an actor owes the vCPU a mark of it; where the interrupt waits for the vCPU, with a kick, unless the actor is that vCPU itself
pub record IsOwed (shape : GuestShape) (state : CoreState) (vcpu : ℕ) (key : Key) : Type 0 where
  pub actor : ℕ
  pub there : actor < actor_count shape
  pub owes : IsTrue (owes_mark key vcpu (seat_at state actor).local)
  pub kicks : IsTrue (waits_for shape vcpu (irq_of (word_in shape state (Irq key)))) → IsTrue (owes_kick vcpu (seat_at state actor).local) ⊎ (actor ≡ vcpu)

-- the vCPU is told of it: by its index, by what it took of that, or by a mark that is owed
abbrev pub IsTold : GuestShape → CoreState → ℕ → Key → Type 0
IsTold shape state vcpu key = IsTrue (is_indexed shape state vcpu key) ⊎ IsTrue (is_taken shape state vcpu key) ⊎ IsOwed shape state vcpu key

-- each vCPU is told of each interrupt that nobody holds and that concerns it
abbrev pub IsComplete : GuestShape → CoreState → Type 0
IsComplete shape state =
    (key : Key) (vcpu : ℕ) → IsTrue (has_interrupt shape key) → vcpu < shape.vcpus → (irq_of (word_in shape state (Irq key))).holder ≡ None → IsTrue (concerns shape vcpu (irq_of (word_in shape state (Irq key)))) → IsTold shape state vcpu key

-- so it is at every moment of every run
abbrev pub IndexIsComplete : Type 0
IndexIsComplete = (guest : IdealGuest) (number : ℕ) (entries : List Entry) → CanOpen guest → IsRun guest.shape (opening guest number) entries → IsComplete guest.shape (end_of guest.shape (opening guest number) entries)
