use Rattle.std.proofs.Common.{◌≡◌, ◌++◌, drop}
use Rattle.gic_guest.specs.Good.{shapes_of}
use Rattle.scn_base.proofs.standing.shapes.Given as goal

-- the shapes so far and those of the guests that are left are all
abbrev pub invariant-loop-guest : goal.invariant-loop-guest
invariant-loop-guest l = l.shapes ++ shapes_of (drop l.guest-index l.guests) ≡ shapes_of l.guests
