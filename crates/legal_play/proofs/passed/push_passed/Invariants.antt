use Rattle.std.proofs.Common.{◌≡◌, ◌++◌, map, filter, take}
use Rattle.legal_steps.specs.Words.{key_at}
use Rattle.legal_steps.specs.Waiting.{is_passed_by, waits_for}
use Rattle.legal_play.proofs.PassedLemmas.{places_of}
use Rattle.legal_play.proofs.passed.push_passed.Given as goal

abbrev pub invariant-loop-index : goal.invariant-loop-index
invariant-loop-index l = l.waits ≡ l.fn.waits ++ map (waits_for l.state.guest.shape l.track l.vcpu) (filter (is_passed_by l.state l.track l.vcpu) (map (key_at l.state.guest.shape) (take l.index (places_of l.state.guest.irqs))))
