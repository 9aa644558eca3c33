use Rattle.std.proofs.Common.{◌≡◌, drop}
use Rattle.gic_host.specs.Good.{has_clash}
use Rattle.gic_host.proofs.good.has_clash.Given as goal

-- the links clash exactly where those that are left do
abbrev pub invariant-loop-index : goal.invariant-loop-index
invariant-loop-index l = has_clash (drop l.index l.links) ≡ has_clash l.links
