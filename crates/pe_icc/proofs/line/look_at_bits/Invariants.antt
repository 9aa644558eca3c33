-- So many bits were looked at.
use Rattle.std.proofs.Common.{◌≡◌, None}
use Rattle.pe_loop.specs.Core.{index_bits, shape_of}
use Rattle.pe_icc.specs.Lines.{LooksAtBits}
use Rattle.pe_icc.proofs.line.look_at_bits.Given as goal

abbrev pub invariant-loop-bit : goal.invariant-loop-bit
invariant-loop-bit g l =
    record {
      end : l.bit-end ≡ index_bits (shape_of (g.P.Port.seen l.initial.port));
      looks : LooksAtBits (g.P.Port.seen l.initial.port) (g.P.Port.seen l.port) l.words 0 l.bit None l.first;
    }
