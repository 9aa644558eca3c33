use Rattle.std.proofs.Common.{◌≡◌, true, take}
use Rattle.std.specs.List.{list_all}
use Rattle.floor_histories.specs.Histories.{Standing, standing_at, is_open, changes_of}
use Rattle.history_check.proofs.track.Track.is_fresh_at_interface.Given as goal

abbrev pub invariant-loop-one : goal.invariant-loop-one
invariant-loop-one l = list_all (λ (standing : Standing). list_all (is_open l.self l.vcpu) (changes_of l.state.guest.shape l.self standing.key).since) (take l.one-index (standing_at l.state l.vcpu)) ≡ true
