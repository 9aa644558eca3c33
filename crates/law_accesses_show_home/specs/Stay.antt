-- What stands at an interface and was not changed since it got there (own choice).
use Rattle.std.specs.Prelude.{◌≡◌, ℕ, ◌<◌, true, false, IsTrue, List, [], Contains}
use Rattle.law_home_commutes.specs.Words.{GuestShape, Irq, is_pending, is_ripe}
use Rattle.law_home_commutes.specs.Calls.{Moment}
use Rattle.law_home_commutes.specs.Histories.{changes_of, IsHistory, Ideal, Standing, standing_at, irq_at, cpu_at, IdealGuest, CanOpen}
use Rattle.law_home_commutes.specs.Registers.{takes_kind}
use Rattle.law_scans_miss_none.specs.LawRegistersStand.Followed.{Followed, followed_by}

-- the record of what stands there, with the causes that the interface has of it
abbrev pub with_causes : Ideal → Standing → Irq
with_causes state standing = record (irq_at state.guest standing.key) { rise = standing.entry.rise; soft = standing.entry.soft }

-- it is pending there with all its causes: its record has none besides, and with them it is ripe for the vCPU, which takes interrupts of its kind
pub record IsWhollyThere (shape : GuestShape) (state : Ideal) (vcpu : ℕ) (standing : Standing) : Type 0 where
  pub no_rise : (irq_at state.guest standing.key).rise ≡ false
  pub no_soft : (irq_at state.guest standing.key).soft ≡ false
  pub ripe : IsTrue (is_ripe (with_causes state standing) vcpu shape)
  pub kind : IsTrue (takes_kind standing.key (cpu_at state.guest vcpu))

-- where it is pending there, it is so with all its causes; and where it is neither pending nor active there, and pending in its record, it is to leave before the call ends
pub record IsAsReached (shape : GuestShape) (at : Followed) (vcpu : ℕ) (standing : Standing) : Type 0 where
  pub pending : standing.entry.pending ≡ true → IsWhollyThere shape at.ideal vcpu standing
  pub leaves : standing.entry.pending ≡ false → standing.entry.active ≡ false → is_pending (irq_at at.ideal.guest standing.key) ≡ true → Contains at.track.leaving (vcpu, standing.key)

-- so it is in each state of a history, of what nobody changed since it got to the interface
abbrev pub StandsAsReached : Type 0
StandsAsReached =
    (guest : IdealGuest) (moments : List Moment) (vcpu : ℕ) (standing : Standing) → CanOpen guest → IsHistory guest moments → vcpu < guest.shape.vcpus → Contains (standing_at (followed_by guest moments).ideal vcpu) standing
    → (changes_of guest.shape (followed_by guest moments).track standing.key).since ≡ [] → IsAsReached guest.shape (followed_by guest moments) vcpu standing
