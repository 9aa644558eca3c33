-- Bit by bit.
use Rattle.std.proofs.Common.{ap, ◌∙◌}
use Rattle.pe_loop.specs.Core.{index_bits}
use Rattle.pe_icc.proofs.LineLemmas.{bits_more, no_bits}
use Rattle.pe_icc.proofs.line.look_at_bits.Goals as goal

pub loop-bit-init : goal.loop-bit-init
loop-bit-init g c = record { end = c.index_bits-bit-end.ensures.value ∙ ap index_bits c.shape.ensures; looks = no_bits (g.P.Port.seen c.args.port.now) c.args.words.now }

pub loop-bit-preserved : goal.loop-bit-preserved
loop-bit-preserved g c =
    record {
      end = c.index_bits-bit-end.ensures.value ∙ ap index_bits c.shape.ensures;
      looks =
          bits_more (g.P.Port.seen c.args.port.now) (g.P.Port.seen c.loop-bit.port) (g.P.Port.seen c.look_at_bit-first.new.port) c.args.words.now c.loop-bit.bit c.loop-bit.first c.look_at_bit-first.result
          c.loop-bit.invariant.looks c.look_at_bit-first.ensures;
    }
