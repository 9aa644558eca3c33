use Rattle.std.proofs.Common.{◌≡◌, ◌<◌, ◌^◌, drop}
use Rattle.json_field.specs.Field.{hex_digits}
use Rattle.json_field.proofs.field.hex_digits.Given as goal

-- the digits so far fit in as many, and those that are left spell the whole after them
abbrev pub invariant-loop-digit : goal.invariant-loop-digit
invariant-loop-digit l =
    record { fits : l.number < 16 ^ l.digit-index; whole : hex_digits l.number (drop l.digit-index l.digits) ≡ hex_digits 0 l.digits }
