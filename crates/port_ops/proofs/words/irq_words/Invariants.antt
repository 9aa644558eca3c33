use Rattle.std.proofs.Common.{◌≡◌}
use Rattle.port_core.specs.Words.{interrupt_count, key_at}
use Rattle.port_core.specs.CoreWords.declared.word_id.WordId.TheVariants.{Irq}
use Rattle.port_ops.specs.GuestWords.{words_among}
use Rattle.port_ops.proofs.words.irq_words.Given as goal

-- the words at the places so far
abbrev pub invariant-loop-place : goal.invariant-loop-place
invariant-loop-place l =
    record {
      end : l.place-end ≡ interrupt_count l.shape;
      so_far : l.list ≡ words_among l.shape l.words (λ place. Irq (key_at l.shape place)) l.place;
    }
