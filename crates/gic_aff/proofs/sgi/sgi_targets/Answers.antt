use Rattle.std.proofs.Common.{◌≡◌, ◌+◌, ◌*◌, ◌%◌, ◌<◌, ◌^◌, ◌∙◌, ap, arith}
use Rattle.floor_words.specs.Words.{set_of}
use Rattle.gic_aff.specs.Sgi.{is_target}
use Rattle.floor_words.proofs.GicBits.SetLemmas.{set_of-below, has_bit-set_of}
use Rattle.gic_aff.proofs.WordLemmas.{sum_fits}
use Rattle.gic_aff.proofs.sgi.sgi_targets.Goals as goal

pub overflow_add-targets : goal.overflow_add-targets
overflow_add-targets c =
    let vcpu = c.loop-vcpu.vcpu in
    let few : c.loop-vcpu.targets < 2 ^ vcpu = rw c.loop-vcpu.invariant (set_of-below (is_target c.args.value c.args.sender) vcpu) in
    let sum : c.loop-vcpu.targets + 1 * 2 ^ vcpu % 2 ^ 32 < 2 ^ 32 = sum_fits c.loop-vcpu.targets vcpu (omega arith) few in
    omega arith

pub returns-clause-members : goal.returns-clause-members
returns-clause-members c =
    let end : c.loop-vcpu.vcpu ≡ c.args.shape.now.vcpus = omega arith in
    let is : c.loop-vcpu.targets ≡ set_of (is_target c.args.value c.args.sender) c.args.shape.now.vcpus = c.loop-vcpu.invariant ∙ ap (set_of (is_target c.args.value c.args.sender)) end in
    λ t. rw is (has_bit-set_of (is_target c.args.value c.args.sender) c.args.shape.now.vcpus t)
