use Rattle.std.proofs.Common.{◌∙◌}
use Rattle.scn_base.proofs.PesLemmas.{vcpus_more}
use Rattle.scn_base.proofs.pes.add_vcpus.Goals as goal

pub loop-vcpu-preserved : goal.loop-vcpu-preserved
loop-vcpu-preserved c = c.in_ok-push.ensures.ok ∙ vcpus_more c.args.guest c.loop-vcpu.vcpu c.args.names.now c.loop-vcpu.names c.loop-vcpu.invariant
