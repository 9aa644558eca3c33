-- A vCPU's scan overlooks no interrupt that is due (own choice).
use Rattle.std.specs.Prelude.{◌≡◌, ◌⊎◌, ℕ, ◌/◌, ◌≤◌, false, IsTrue, List, Contains, None, ◌<◌}
use Rattle.std.specs.Option.{option_map}
use Rattle.law_registers_stand.specs.Words.{Key, GuestShape}
use Rattle.law_registers_stand.specs.Histories.{Track, IdealGuest, CanOpen}
use Rattle.law_registers_stand.specs.Lists.{Pending, Offer, first_among, plan, regs_of, chosen_as}
use Rattle.law_registers_stand.specs.Core.{is_cand, index_bit, CoreState, opening, end_of_moments, CoreMoment, Progress, progress_in, IsProperRun, alone, Purpose, planned, trapped, bare, Scan, idle, taking, looking, claiming}
use Rattle.law_scans_miss_none.specs.Excuse.{followed_in}
use Rattle.law_scans_miss_none.specs.Waiting.{record_in, IsDue}
use Rattle.law_registers_stand.specs.Asks.{IsUnkicked}

-- an interrupt with the record in its word
abbrev pub offer_in : GuestShape → CoreState → Key → Offer
offer_in shape state key = record { key = key; irq = record_in shape state key }

-- a vCPU took its bit from the index and is still to look at it, where its scan looked at the bits before this one
pub record IsAhead (shape : GuestShape) (p : Progress) (from : ℕ) (key : Key) : Type 0 where
  pub cand : IsTrue (is_cand p.local.cands (index_bit shape key))
  pub ahead : from ≤ index_bit shape key

-- a vCPU's registers are those that its scan asks for, of these interrupts, on a PE with so many list registers: the plan's; those with the first one alone; or
-- those with none
abbrev pub IsFilled : GuestShape → ℕ → Progress → List Offer → ℕ → Purpose → Type 0
IsFilled shape vcpu p offers lrs planned = let fill = plan offers vcpu p.local.cpu shape lrs in (p.regs ≡ regs_of fill p.local.cpu lrs) × (p.trapping ≡ fill.trapping)
IsFilled shape vcpu p offers lrs trapped = p.regs ≡ alone (option_map (chosen_as Pending) (first_among offers vcpu p.local.cpu shape)) p.local.cpu lrs
IsFilled shape vcpu p offers lrs bare = p.regs ≡ alone None p.local.cpu lrs

-- a vCPU filled its registers by what it found, and every interrupt that is due is among that, as it is
pub record HasScanned (shape : GuestShape) (state : CoreState) (track : Track) (vcpu : ℕ) (p : Progress) : Type 0 where
  pub offers : List Offer
  pub lrs : ℕ
  pub purpose : Purpose
  pub filled : IsFilled shape vcpu p offers lrs purpose
  pub covers : (key : Key) → IsDue shape state track vcpu key → Contains offers (offer_in shape state key)

-- while a scan goes on, each interrupt that is due is still to be found, or was found as it is
abbrev pub Covers : GuestShape → CoreState → Track → ℕ → Progress → Scan → Type 0
Covers shape state track vcpu p idle = Unit {0}
Covers shape state track vcpu p (taking purpose words) = (key : Key) → IsDue shape state track vcpu key → IsTrue (is_cand p.local.cands (index_bit shape key)) ⊎ (words ≤ index_bit shape key / 64)
Covers shape state track vcpu p (looking purpose from offers) = (key : Key) → IsDue shape state track vcpu key → IsAhead shape p from key ⊎ Contains offers (offer_in shape state key)
Covers shape state track vcpu p (claiming claims takes) = HasScanned shape state track vcpu p

-- so it is at every moment of every proper run, of a vCPU that is not kicked and had no claim fail
abbrev pub ScanOverlooksNone : Type 0
ScanOverlooksNone =
    (guest : IdealGuest) (number : ℕ) (moments : List CoreMoment) (vcpu : ℕ) → CanOpen guest → IsProperRun guest number moments → vcpu < guest.shape.vcpus → IsUnkicked guest.shape (end_of_moments guest.shape (opening guest number) moments) vcpu
    → (progress_in guest number moments vcpu).failed ≡ false
    → Covers guest.shape (end_of_moments guest.shape (opening guest number) moments) (followed_in guest number moments).track vcpu (progress_in guest number moments vcpu) (progress_in guest number moments vcpu).scan
