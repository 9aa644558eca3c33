use Rattle.std.proofs.Common.{rules}
use Rattle.scn_base.specs.Standing.{vcpu_name}
use Rattle.gic_picture.proofs.ListLemmas.{mapped_more}
use Rattle.gic_picture.proofs.names.add_vcpus.Goals as goal

pub loop-vcpu-preserved : goal.loop-vcpu-preserved
loop-vcpu-preserved c =
    mapped_more (vcpu_name c.args.guest) c.loop-vcpu.vcpu c.args.names.now c.loop-vcpu.names _ _ c.loop-vcpu.invariant c.in_ok-push.ensures.ok (search rules)
