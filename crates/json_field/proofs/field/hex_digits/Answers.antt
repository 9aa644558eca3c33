use Rattle.std.proofs.Common.{◌+◌, ◌*◌, ◌^◌, ◌<◌, arith}
use Rattle.json_field.proofs.FieldLemmas.{hex_fits}
use Rattle.json_field.proofs.field.hex_digits.Goals as goal

pub overflow_mul-number : goal.overflow_mul-number
overflow_mul-number c =
    let fits : 16 * c.loop-digit.number + 0 < 2 ^ 64 = hex_fits c.loop-digit.digit-index c.loop-digit.number 0 (omega arith) c.loop-digit.invariant.fits (omega arith) in
    rw c.from.ensures (omega (arith, fits))

pub overflow_add-number : goal.overflow_add-number
overflow_add-number c =
    let fits = hex_fits c.loop-digit.digit-index c.loop-digit.number c.in_ok-number.field-0 (omega arith) c.loop-digit.invariant.fits c.in_ok-number.ensures.small in
    rw c.from.ensures (omega (arith, fits))
