use Rattle.std.proofs.Common.{◌≡◌, drop}
use Rattle.scn_read.specs.Narrow.{narrowed}
use Rattle.trace_read.proofs.NameLemmas.{digits_from}
use Rattle.trace_read.proofs.name.digits.Given as goal

-- the digits that are left, behind what those before them spell, give what all of them do
abbrev pub invariant-loop-byte : goal.invariant-loop-byte
invariant-loop-byte l = record { small : narrowed l.number ≡ l.number; whole : digits_from l.number (drop l.byte-index l.bytes) ≡ digits_from 0 l.bytes }
