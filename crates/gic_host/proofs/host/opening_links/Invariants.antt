use Rattle.std.proofs.Common.{◌≡◌, map, take}
use Rattle.gic_host.specs.State.{opening_link}
use Rattle.gic_host.proofs.host.opening_links.Given as goal

-- those so far opened
abbrev pub invariant-loop-link : goal.invariant-loop-link
invariant-loop-link l = l.states.items ≡ map opening_link (take l.link-index l.link-items)
