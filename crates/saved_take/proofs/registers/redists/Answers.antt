use Rattle.std.proofs.Common.{refl}
use Rattle.saved_take.specs.Taken.{redist_state}
use Rattle.saved_guest.proofs.IdealGuests.GicOpen.RangeLemmas.{map_pushed}
use Rattle.saved_take.proofs.registers.redists.Goals as goal

pub loop-vcpu-preserved : goal.loop-vcpu-preserved
loop-vcpu-preserved c =
    record {
      end = refl;
      so_far = map_pushed (redist_state c.args.state.now) c.loop-vcpu.vcpu c.loop-vcpu.redists _ c.redist.result c.loop-vcpu.invariant.so_far c.in_ok-push.ensures.ok c.redist.ensures;
    }
