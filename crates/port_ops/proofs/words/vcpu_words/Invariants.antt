use Rattle.std.proofs.Common.{◌≡◌}
use Rattle.port_core.specs.CoreWords.declared.word_id.WordId.TheVariants.{Vcpu}
use Rattle.port_ops.specs.GuestWords.{words_among}
use Rattle.port_ops.proofs.words.vcpu_words.Given as goal

-- the words of the vCPUs so far
abbrev pub invariant-loop-vcpu : goal.invariant-loop-vcpu
invariant-loop-vcpu l =
    record {
      end : l.vcpu-end ≡ l.shape.vcpus;
      so_far : l.list ≡ words_among l.shape l.words Vcpu l.vcpu;
    }
