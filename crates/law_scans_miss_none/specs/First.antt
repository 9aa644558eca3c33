-- The first interrupt at a vCPU's interface (own choice).
use Rattle.std.specs.Prelude.{◌≡◌, ℕ, ◌<◌, ◌||◌, not, true, false, IsTrue, List}
use Rattle.std.specs.Option.{option_map_or}
use Rattle.law_registers_stand.specs.Words.{Key, GuestShape, intid_of}
use Rattle.law_registers_stand.specs.Registers.{is_before, is_deliverable, first_of, candidates_at}
use Rattle.law_registers_stand.specs.Histories.{IdealGuest, CanOpen}
use Rattle.law_registers_stand.specs.Core.{interface_of, CoreState, opening, end_of_moments, CoreMoment, Progress, progress_in, is_paid, IsProperRun}
use Rattle.law_registers_stand.specs.Stands.{IsLoaded}
use Rattle.law_scans_miss_none.specs.Excuse.{followed_in}
use Rattle.law_scans_miss_none.specs.Waiting.{record_in, IsDue}
use Rattle.law_registers_stand.specs.Asks.{IsUnkicked}

-- a vCPU may ask for its first interrupt: it is not kicked, no claim failed, it may do accesses and owes no scan, and in trap mode it scanned since its last look for
-- a kick
pub record MayAsk (shape : GuestShape) (state : CoreState) (vcpu : ℕ) (p : Progress) : Type 0 where
  pub unkicked : IsUnkicked shape state vcpu
  pub none_failed : p.failed ≡ false
  pub loaded : IsLoaded p
  pub paid : IsTrue (is_paid p.debt)
  pub scanned : IsTrue (not p.trapping || p.scanned)

-- at every moment of every proper run: no interrupt that is due and deliverable to such a vCPU comes before the first at its interface, and there is one where any is
abbrev pub FirstComesFirst : Type 0
FirstComesFirst =
    (guest : IdealGuest) (number : ℕ) (moments : List CoreMoment) (vcpu : ℕ) (key : Key) → CanOpen guest → IsProperRun guest number moments → vcpu < guest.shape.vcpus
    → MayAsk guest.shape (end_of_moments guest.shape (opening guest number) moments) vcpu (progress_in guest number moments vcpu)
    → IsDue guest.shape (end_of_moments guest.shape (opening guest number) moments) (followed_in guest number moments).track vcpu key
    → let irq = record_in guest.shape (end_of_moments guest.shape (opening guest number) moments) key in
    let local = (progress_in guest number moments vcpu).local in
    IsTrue (is_deliverable key irq vcpu local.cpu guest.shape) → option_map_or (is_before (record { id = intid_of key; prio = irq.prio; group = irq.group })) (first_of (candidates_at (interface_of local))) true ≡ false
