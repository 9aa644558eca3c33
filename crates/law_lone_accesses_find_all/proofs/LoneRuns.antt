-- An access of a vCPU that is alone finds all that is there for it.
use Rattle.std.proofs.Common.{◌≡◌, ℕ, ◌<◌, Bool, true, false, IsTrue, List, Option, Some, refl}
use Rattle.law_late_ones_leave.specs.Words.{IccReg, Eoir0, Eoir1, Dir, Key, GuestShape, has_interrupt}
use Rattle.law_late_ones_leave.specs.Histories.{asks_first, comes_first, ended_by, is_far_active, IdealGuest, CanOpen}
use Rattle.law_late_ones_leave.proofs.IdealGuests.KeyLemmas.{key_there}
use Rattle.law_late_ones_leave.specs.Registers.{intid_written}
use Rattle.law_late_ones_leave.specs.Core.{CoreMoment, IsProperRun}
use Rattle.law_late_ones_leave.specs.LawScansMissNone.Excuse.{followed_in}
use Rattle.law_late_ones_leave.specs.LawRegistersStand.Followed.{Followed}
use Rattle.law_accesses_show_home.specs.UpToDate.{FindsAll}
use Rattle.law_lone_accesses_find_all.specs.Lone.{IsAlone, IsReadyFor, LoneAccessesFindAll}
use Rattle.law_lone_accesses_find_all.proofs.AskLemmas.{far_known, none_first}
use Rattle.law_lone_accesses_find_all.proofs.LoneLemmas.{none_excused, not_wanted}

-- an end names an interrupt of the guest
pub ended_there : (shape : GuestShape) (vcpu : ℕ) (reg : IccReg) (write : Option ℕ) (key : Key) → ended_by shape vcpu reg write ≡ Some key → IsTrue (has_interrupt shape key)
ended_there shape vcpu Eoir0 (Some value) key e = key_there (intid_written value) vcpu shape key e
ended_there shape vcpu Eoir1 (Some value) key e = key_there (intid_written value) vcpu shape key e
ended_there shape vcpu Dir (Some value) key e = key_there (intid_written value) vcpu shape key e
ended_there shape vcpu reg write key e = absurd (cc)

module _ (guest : IdealGuest) (number : ℕ) (moments : List CoreMoment) (vcpu : ℕ) (reg : IccReg) (write : Option ℕ) (good : CanOpen guest) (proper : IsProperRun guest number moments) (few : vcpu < guest.shape.vcpus)
    (alone : IsAlone guest number moments vcpu) (ready : IsReadyFor guest number moments vcpu reg write) where
  abbrev shape : GuestShape
  shape = guest.shape

  abbrev at : Followed
  at = followed_in guest number moments

  -- What the access finds.

  first_is : asks_first reg write ≡ true → (key : Key) → IsTrue (has_interrupt shape key) → comes_first at.ideal vcpu key ≡ false
  first_is asks key there =
      none_first guest number moments vcpu good proper few (ready.first asks).asks key there (none_excused guest number moments vcpu good proper few alone key) (not_wanted guest number moments vcpu good proper few alone (ready.first asks).unwanted key there)

  far_is : (key : Key) → ended_by shape vcpu reg write ≡ Some key → is_far_active at.ideal vcpu key ≡ false
  far_is key ends = of (is_far_active at.ideal vcpu key) refl
    where
      of : (b : Bool) → is_far_active at.ideal vcpu key ≡ b → b ≡ false
      of false e = refl
      of true e = absurd (none_excused guest number moments vcpu good proper few alone key (far_known guest number moments vcpu good proper few key (ended_there shape vcpu reg write key ends) (ready.ends key ends) e))

  pub finds : FindsAll shape at.ideal vcpu reg write
  finds = record { first = first_is; end = far_is }

pub lone_accesses_find_all : LoneAccessesFindAll
lone_accesses_find_all guest number moments vcpu reg write good proper few alone ready = finds guest number moments vcpu reg write good proper few alone ready
