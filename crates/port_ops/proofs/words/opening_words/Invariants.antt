use Rattle.std.proofs.Common.{◌≡◌, map}
use Rattle.std.specs.List.{range_with_len}
use Rattle.port_core.specs.Place.{word_count}
use Rattle.port_core.specs.Run.{opening_word}
use Rattle.port_ops.proofs.words.opening_words.Given as goal

-- the words at the places so far
abbrev pub invariant-loop-place : goal.invariant-loop-place
invariant-loop-place l =
    record {
      end : l.place-end ≡ word_count l.guest.shape;
      so_far : l.words ≡ map (opening_word l.guest) (range_with_len 0 l.place);
    }
