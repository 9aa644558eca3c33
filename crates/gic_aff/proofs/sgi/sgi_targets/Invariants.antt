use Rattle.std.proofs.Common.{◌≡◌}
use Rattle.floor_words.specs.Words.{set_of}
use Rattle.gic_aff.specs.Sgi.{is_target}
use Rattle.gic_aff.proofs.sgi.sgi_targets.Given as goal

-- the vCPUs so far that the write names
abbrev pub invariant-loop-vcpu : goal.invariant-loop-vcpu
invariant-loop-vcpu l = l.targets ≡ set_of (is_target l.value l.sender) l.vcpu
