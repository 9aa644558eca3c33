use Rattle.std.proofs.Common.{◌≡◌, drop}
use Rattle.gic_c.specs.Feed.{read_at}
use Rattle.gic_c.proofs.feed.read.Given as goal

-- what is read is in the spans that are left
abbrev pub invariant-loop-span : goal.invariant-loop-span
invariant-loop-span l = read_at l.spans l.bytes l.address ≡ read_at (drop l.span-index l.spans) l.rest l.address
