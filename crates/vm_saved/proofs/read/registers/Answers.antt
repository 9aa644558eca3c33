use Rattle.std.proofs.Common.{◌≡◌, length, refl, arith}
use Rattle.vm_saved.proofs.NumberLemmas.{registers_are}
use Rattle.vm_saved.proofs.read.registers.Goals as goal

pub returns : goal.returns
returns c =
    let numbers = c.args.numbers.now in
    let many : length numbers ≡ 65 = omega (arith, c.if-numbers-ne-NUMBERS.false) in
    registers_are numbers _ c.in_ok-first_chunk.field-0.now c.in_ok-first_chunk-2.field-0.now many refl c.in_ok-first_chunk.ensures.cases.same c.in_ok-first_chunk-2.ensures.cases.same
