-- Laws of calls while nobody else acts, kind by kind.
use Rattle.std.specs.Prelude.{ℕ, ◌<◌, IsTrue, List, ◌++◌, Option}
use Rattle.law_home_commutes.specs.Words.{IccReg, DeviceOp, Dist, Redist, Its, Ram, GuestOp, Icc, Mem}
use Rattle.law_home_commutes.specs.Calls.{Moment, Operation, Access, Device, Residence, device_events, Happened, is_good_op, is_good_event}
use Rattle.law_home_commutes.specs.Histories.{IsWhole, IdealGuest, view_of, after_events, CanOpen}
use Rattle.law_eager_is_history.specs.GicIdeal.Deeds.{op_events}
use Rattle.law_lone_calls_are_eager.specs.LoneCalls.{lone_call, IsLoneCall, IsAtRest, PassesAlone, PassesAtRest}

-- an access of a CPU interface register, with the SGIs that a write of SGI1R sends
abbrev pub InterfaceCallsPass : Type 0
InterfaceCallsPass = (reg : IccReg) (write : Option ℕ) → PassesAlone (Access (Icc reg write))

-- a vCPU that enters or leaves a PE, or looks whether it was kicked
abbrev pub ResidencesPass : Type 0
ResidencesPass = PassesAlone Residence

-- what a device does
abbrev pub DeviceCallsPass : Type 0
DeviceCallsPass = (op : DeviceOp) → PassesAlone (Device op)

-- an access of the distributor: of registers over interrupts, of GICD_CTLR, and of those that send a message
abbrev pub DistributorCallsPass : Type 0
DistributorCallsPass = (offset size : ℕ) (write : Option ℕ) → PassesAlone (Access (Mem Dist offset size write))

-- an access of a redistributor: of registers over interrupts, of the tables' addresses, and of EnableLPIs, which makes LPIs of the pending table pending
abbrev pub RedistributorCallsPass : Type 0
RedistributorCallsPass = (vcpu offset size : ℕ) (write : Option ℕ) → PassesAlone (Access (Mem (Redist vcpu) offset size write))

-- an access of the guest's memory
abbrev pub MemoryCallsPass : Type 0
MemoryCallsPass = (offset size : ℕ) (write : Option ℕ) → PassesAlone (Access (Mem Ram offset size write))

-- an access of the ITS, with the commands that a write starts
abbrev pub ItsCallsPass : Type 0
ItsCallsPass = (offset size : ℕ) (write : Option ℕ) → PassesAtRest (Access (Mem Its offset size write))

-- any call
abbrev pub CallsPassHome : Type 0
CallsPassHome = (operation : Operation) → PassesAtRest operation

-- all calls ended again after such a call
abbrev pub CallsEndAgain : Type 0
CallsEndAgain =
    (guest : IdealGuest) (moments : List Moment) (actor : ℕ) (operation : Operation) (piece : List Happened) (answer : Option ℕ) → IsLoneCall guest moments actor operation piece answer
    → IsWhole guest (moments ++ lone_call actor operation piece answer)

-- what calls rest on stays under the eager controller: a guest is at rest as it opens, and after each operation of a vCPU and of a device
pub record RestStays : Type 0 where
  pub opens : (guest : IdealGuest) → CanOpen guest → IsAtRest guest
  pub accesses :
      (guest : IdealGuest) (vcpu : ℕ) (op : GuestOp) → IsAtRest guest → vcpu < guest.shape.vcpus → IsTrue (is_good_op guest.shape op) → IsAtRest (after_events (op_events op guest vcpu) guest)
  pub devices : (guest : IdealGuest) (op : DeviceOp) → IsAtRest guest → IsTrue (is_good_event guest.shape op) → IsAtRest (after_events (device_events (view_of guest) op) guest)
