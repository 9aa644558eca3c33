-- Every call, while nobody else acts.
use Rattle.std.proofs.Common.{◌≡◌, ℕ, ◌++◌, Bool, true, false, Option, Some, None, refl}
use Rattle.law_home_commutes.specs.Words.{Dist, Redist, Its, Ram, Icc, Mem, GuestShape}
use Rattle.law_home_commutes.specs.GicImap.Map.{decoded as its_decoded}
use Rattle.law_home_commutes.specs.GicImap.declared.map.RegRef.{RegRef as ItsRef}
use Rattle.law_home_commutes.specs.GicImap.declared.map.RegRef.TheVariants.{Plain as ItsPlain, Reserved as ItsReserved}
use Rattle.law_home_commutes.specs.Calls.{Access, Device, Residence, takes_turn, IsItsWrite, IsCall}
use Rattle.law_home_commutes.specs.Histories.{vcpu_of, last_of, home}
use Rattle.law_lone_calls_are_eager.specs.LoneCalls.{lone_call, IsEagerCall, PassesAtRest}
use Rattle.law_lone_calls_are_eager.specs.Laws.{CallsPassHome}
use Rattle.law_lone_calls_are_eager.proofs.AccessLemmas.{its_so, distributor_calls_pass, redistributor_calls_pass, memory_calls_pass}
use Rattle.law_lone_calls_are_eager.proofs.DeviceLemmas.{device_calls_pass}
use Rattle.law_lone_calls_are_eager.proofs.IccLemmas.{interface_calls_pass, residences_pass}
use Rattle.law_lone_calls_are_eager.proofs.ItsLemmas.{its_call_passes}
use Rattle.law_lone_calls_are_eager.proofs.RunLemmas.{LoneRun, lone_run}

-- a read takes no turn
no_turn_read : (shape : GuestShape) (ref : ItsRef) → takes_turn shape ref None ≡ false
no_turn_read shape (ItsPlain reg half) = refl
no_turn_read shape ItsReserved = refl

pub its_calls_pass : (offset size : ℕ) (write : Option ℕ) → PassesAtRest (Access (Mem Its offset size write))
its_calls_pass offset size None guest moments actor piece answer is rest = of (vcpu_of guest.shape actor) run.is_call
  where
    run : LoneRun guest moments actor (Access (Mem Its offset size None)) piece answer
    run = lone_run guest moments actor (Access (Mem Its offset size None)) piece answer is

    of : (o : Option ℕ) → IsCall guest.shape run.ended.beside o (Access (Mem Its offset size None)) piece answer
        → IsEagerCall actor (Access (Mem Its offset size None)) answer (home (last_of guest moments)) (home (last_of guest (moments ++ lone_call actor (Access (Mem Its offset size None)) piece answer)))
    of None is_call = absurd is_call
    of (Some vcpu) is_call = its_so guest moments actor piece answer offset size None run vcpu (no_turn_read guest.shape (its_decoded offset size)) is_call
its_calls_pass offset size (Some value) guest moments actor piece answer is rest = of (vcpu_of guest.shape actor) run.is_call
  where
    run : LoneRun guest moments actor (Access (Mem Its offset size (Some value))) piece answer
    run = lone_run guest moments actor (Access (Mem Its offset size (Some value))) piece answer is

    by_turn : (vcpu : ℕ) (b : Bool) → takes_turn guest.shape (its_decoded offset size) (Some value) ≡ b → IsItsWrite b guest.shape run.ended.beside vcpu offset size value piece answer
        → IsEagerCall actor (Access (Mem Its offset size (Some value))) answer (home (last_of guest moments)) (home (last_of guest (moments ++ lone_call actor (Access (Mem Its offset size (Some value))) piece answer)))
    by_turn vcpu true takes is_call = its_call_passes guest moments actor piece answer offset size value run vcpu takes is_call rest
    by_turn vcpu false takes is_call = its_so guest moments actor piece answer offset size (Some value) run vcpu takes is_call

    of : (o : Option ℕ) → IsCall guest.shape run.ended.beside o (Access (Mem Its offset size (Some value))) piece answer
        → IsEagerCall actor (Access (Mem Its offset size (Some value))) answer (home (last_of guest moments)) (home (last_of guest (moments ++ lone_call actor (Access (Mem Its offset size (Some value))) piece answer)))
    of None is_call = absurd is_call
    of (Some vcpu) is_call = by_turn vcpu (takes_turn guest.shape (its_decoded offset size) (Some value)) refl is_call

pub calls_pass_home : CallsPassHome
calls_pass_home (Access (Icc reg write)) guest moments actor piece answer is rest = interface_calls_pass reg write guest moments actor piece answer is
calls_pass_home (Access (Mem Dist offset size write)) guest moments actor piece answer is rest = distributor_calls_pass offset size write guest moments actor piece answer is
calls_pass_home (Access (Mem (Redist vcpu) offset size write)) guest moments actor piece answer is rest = redistributor_calls_pass vcpu offset size write guest moments actor piece answer is
calls_pass_home (Access (Mem Its offset size write)) guest moments actor piece answer is rest = its_calls_pass offset size write guest moments actor piece answer is rest
calls_pass_home (Access (Mem Ram offset size write)) guest moments actor piece answer is rest = memory_calls_pass offset size write guest moments actor piece answer is
calls_pass_home (Device op) guest moments actor piece answer is rest = device_calls_pass op guest moments actor piece answer is
calls_pass_home Residence guest moments actor piece answer is rest = residences_pass guest moments actor piece answer is
