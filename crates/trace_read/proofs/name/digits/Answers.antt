use Rattle.std.proofs.Common.{sym, arith}
use Rattle.trace_read.proofs.NameLemmas.{digits_more, narrowed_twice}
use Rattle.trace_read.proofs.name.digits.Goals as goal

pub loop-byte-preserved : goal.loop-byte-preserved
loop-byte-preserved c =
    record {
      small = rw c.narrowed-number.ensures (narrowed_twice _);
      whole = digits_more c.loop-byte.number c.narrowed-number.result c.args.bytes.now c.loop-byte.byte-index c.in_ok-digit.field-0 _ (omega arith) (sym c.in_ok-digit.ensures.value) (rw (c.from.ensures, c.from-in-loop-byte.ensures, c.from-in-loop-byte-2.ensures) at c.narrowed-number.ensures) c.loop-byte.invariant.whole;
    }
