use Rattle.std.proofs.Common.{◌+◌, All, refl, arith}
use Rattle.history_turns.specs.Registers.{pending_address}
use Rattle.history_turns.specs.Calls.{memory_places}
use Rattle.history_turns.specs.Risen.{rising_by, IsReadSo}
use Rattle.history_turns.proofs.RiseSteps.{below_more, all_bits, bits_all}
use Rattle.history_turns.proofs.rise.are_bits_read.Goals as goal

pub returns-then-not-is_bit_read : goal.returns-then-not-is_bit_read
returns-then-not-is_bit_read c = λ is_on vcpu. (
  λ h. absurd (cc),
  λ all. let so = (c.is_bit_read.ensures is_on vcpu).1 (bits_all c.args.shape.now c.args.piece.now is_on vcpu c.args.pendbaser c.loop-number.number c.loop-number-test.true all) in let not = c.if-not-is_bit_read.true in absurd (cc),
)

pub returns : goal.returns
returns c = λ is_on vcpu. (
  λ h. all_bits c.args.shape.now c.args.piece.now is_on vcpu c.args.pendbaser (λ n lt. c.loop-number.invariant.so_far is_on vcpu n (omega (arith, lt, c.loop-number-test.false))),
  λ all. refl,
)

pub loop-number-preserved : goal.loop-number-preserved
loop-number-preserved c = record {
  end = c.loop-number.invariant.end;
  so_far = λ is_on vcpu.
      below_more (λ n. All (IsReadSo (rising_by is_on vcpu c.args.piece.now) c.args.piece.now) (memory_places c.args.shape.now (pending_address c.args.pendbaser (8192 + n)).0 1)) c.loop-number.number (c.loop-number.invariant.so_far is_on vcpu)
      ((c.is_bit_read.ensures is_on vcpu).0 c.if-not-is_bit_read.false);
}
