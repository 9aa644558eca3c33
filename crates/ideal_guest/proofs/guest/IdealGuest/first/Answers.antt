use Rattle.std.proofs.Common.{◌≡◌, ◌<◌, ◌≤◌, ◌∙◌, length, take, sym, ap, Some, None, arith}
use Rattle.std.specs.List.{filter_map}
use Rattle.floor_calls.specs.Registers.{first_of}
use Rattle.irq_records.specs.Pending.{pending_places}
use Rattle.ideal_guest.specs.Ideal.{candidate_at}
use Rattle.ideal_guest.proofs.PendingLemmas.{found_more, none_more, first_found}
use Rattle.ideal_guest.proofs.guest.IdealGuest.first.Goals as goal
use Rattle.ideal_guest.proofs.guest.IdealGuest.first.Goals.{in-Some, in_default}

pub loop-index-preserved : goal.loop-index-preserved
loop-index-preserved c =
    let at = candidate_at c.args.self.now c.args.vcpu in
    let places = pending_places c.args.self.now.irqs in
    let n = c.loop-index.index in
    let more : n < length places = omega (arith, c.loop-index-test.true, c.loop-index.invariant.end) in
    elim c.match-candidate.branch [
      | in-Some w ↦
          let here : at c.pending_at.result ≡ Some w.in-Some.next = sym c.candidate.ensures ∙ w.in-Some.is in
          record {
            end = c.loop-index.invariant.end;
            found =
                w.first-is ∙ sym (w.earlier.ensures.first (filter_map at (take n places)) c.loop-index.invariant.found)
                ∙ ap first_of (sym (found_more at places n c.pending_at.result w.in-Some.next more c.pending_at.ensures here));
          }
      | in_default w ↦
          let here : at c.pending_at.result ≡ None = sym c.candidate.ensures ∙ w.in_default.is in
          record {
            end = c.loop-index.invariant.end;
            found = w.first-is ∙ c.loop-index.invariant.found ∙ ap first_of (sym (none_more at places n c.pending_at.result more c.pending_at.ensures here));
          }
    ]

pub returns : goal.returns
returns c = first_found c.args.self.now c.args.vcpu c.loop-index.index c.loop-index.first c.requires.sound (omega (arith, c.loop-index-test.false, c.loop-index.invariant.end)) c.loop-index.invariant.found
