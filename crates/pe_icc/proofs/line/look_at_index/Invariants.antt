-- So many words were looked at.
use Rattle.std.proofs.Common.{◌≡◌}
use Rattle.pe_loop.specs.Core.{index_words, shape_of}
use Rattle.pe_icc.specs.Lines.{LooksAtWords}
use Rattle.pe_icc.proofs.line.look_at_index.Given as goal

abbrev pub invariant-loop-word : goal.invariant-loop-word
invariant-loop-word g l =
    record {
      vcpu : l.vcpu ≡ (g.P.Port.seen l.initial.port).actor;
      end : l.word-end ≡ index_words (shape_of (g.P.Port.seen l.initial.port));
      looks : LooksAtWords (g.P.Port.seen l.initial.port) (g.P.Port.seen l.port) l.word l.words;
    }
