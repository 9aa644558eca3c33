-- The words of a guest as they are told of at its end.
use Rattle.std.specs.Prelude.{ℕ, List, map, slice_index_or}
use Rattle.std.specs.List.{range_with_len}
use Rattle.port_core.specs.Words.{GuestShape, interrupt_count, key_at}
use Rattle.port_core.specs.Calls.{plain_count}
use Rattle.port_core.specs.Registers.{Maps}
use Rattle.port_core.specs.declared.end.GuestWords.{GuestWords}
use Rattle.port_core.specs.CoreWords.declared.word_id.WordId.{WordId}
use Rattle.port_core.specs.CoreWords.declared.word_id.WordId.TheVariants.{Irq, Vcpu, Queue, Ctlr, Plain}
use Rattle.port_core.specs.Place.{place_of_word}

-- a word among all of a guest's
abbrev pub word_among : GuestShape → List ℕ → WordId → ℕ
word_among shape words word = slice_index_or words (place_of_word shape word) 0

-- so many words, in the order of their numbers
abbrev pub words_among : GuestShape → List ℕ → (ℕ → WordId) → ℕ → List ℕ
words_among shape words which count = map (λ number. word_among shape words (which number)) (range_with_len 0 count)

-- the words of a guest, and its maps, as they are told of at its end: each word that is neither of a candidate index
-- nor a translation line
abbrev pub words_at_end : GuestShape → List ℕ → Maps → GuestWords
words_at_end shape words maps =
    record {
      irqs = words_among shape words (λ place. Irq (key_at shape place)) (interrupt_count shape);
      vcpus = words_among shape words Vcpu shape.vcpus;
      queue = word_among shape words Queue;
      ctlr = word_among shape words Ctlr;
      plain = words_among shape words Plain (plain_count shape);
      tables = maps;
    }
