use Rattle.std.proofs.Common.{All, ◌≡◌, map, take}
use Rattle.ideal_guest.specs.Opening.{opening}
use Rattle.ideal_guest.specs.Sound.{IsSound}
use Rattle.gic_ideal.proofs.run.open_all.Given as goal

-- the states of the guests so far
abbrev pub invariant-loop-guest : goal.invariant-loop-guest
invariant-loop-guest l = record { value : l.states.items ≡ map opening (take l.guest-index l.guests); sound : All IsSound l.states.items }
