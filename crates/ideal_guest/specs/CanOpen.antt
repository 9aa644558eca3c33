-- States in which a guest can open (own choice): what an opening gives is one, and so is what a guest is at home, with nothing at an interface, in the midst
-- of a run.
use Rattle.std.specs.Prelude.{◌≡◌, ℕ, ◌<◌, ◌^◌, Bool, true, false, IsTrue, All, Option, None}
use Rattle.std.specs.Option.{option_map_or}
use Rattle.floor_calls.specs.Words.{Key, is_of_vcpu, has_interrupt, Irq}
use Rattle.floor_calls.specs.Registers.{Enables, has_target}
use Rattle.floor_calls.specs.Calls.{Fault, GuestSpec, IsGoodGuest}
use Rattle.ideal_guest.specs.declared.guest.IdealGuest.{IdealGuest}
use Rattle.ideal_guest.specs.Ideal.{irq_at, word_at, view_of}
use Rattle.ideal_guest.specs.Opening.{opening}
use Rattle.ideal_guest.specs.Queue.{IsQueueInOrder}
use Rattle.ideal_guest.specs.Sound.{IsSound}

-- the record's copies of the group enables of GICD_CTLR
abbrev pub copy_in : Irq → Enables
copy_in irq = record { group0 = irq.en0; group1 = irq.en1 }

-- the vCPU, if there is one, is one that the interrupt can get to: a private interrupt is active by its own vCPU or by none
abbrev pub is_own : Key → Option ℕ → Bool
is_own key vcpu = option_map_or (λ vcpu. is_of_vcpu vcpu key) vcpu true

-- each LPI without an event, or whose event is in a collection that is not mapped, is for no vCPU (IHI 0069, "The ITS tables")
abbrev pub AreForNone : IdealGuest → Type 0
AreForNone guest = (id : ℕ) → has_target guest.tables id ≡ false → (view_of guest).targets id ≡ None

-- a sound guest, whose words have 64 bits each; its interrupts have copies of GICD_CTLR's enables, and LPIs without a target are for none; its queue is in
-- order, and the number of a fault is 0 where the queue is not stalled
pub record CanOpen (guest : IdealGuest) : Type 0 where
  pub sound : IsSound guest
  pub own : (key : Key) → IsTrue (has_interrupt guest.shape key) → IsTrue (is_own key (irq_at guest key).act_by)
  pub copies : (key : Key) → IsTrue (has_interrupt guest.shape key) → copy_in (irq_at guest key) ≡ guest.enables
  pub none : AreForNone guest
  pub fits : All (λ word. word < 2 ^ 64) guest.words
  pub queue : IsQueueInOrder guest
  pub fault : guest.is_stalled ≡ false → word_at guest Fault ≡ 0

-- a good guest opens in such a state
abbrev pub OpeningsCanOpen : Type 0
OpeningsCanOpen = (guest : GuestSpec) → IsGoodGuest guest → CanOpen (opening guest)
