use Rattle.std.proofs.Common.{◌∙◌, sym, refl}
use Rattle.gic_ideal.specs.Ends.{cpu_end, is_same_cpu_end, changed_at}
use Rattle.ideal_guest.proofs.GicCall.RangeLemmas.{filter_map_pushed, filter_map_kept}
use Rattle.gic_ideal.proofs.ends.cpu_ends.Goals as goal
use Rattle.gic_ideal.proofs.ends.cpu_ends.Goals.{in-Some+in_ok-push, in_default}

pub loop-vcpu-preserved : goal.loop-vcpu-preserved
loop-vcpu-preserved c =
    let at = changed_at is_same_cpu_end (cpu_end c.args.opened.now) (cpu_end c.args.closed.now) in
    let n = c.loop-vcpu.vcpu in
    elim c.match-changed_cpu.branch [
      | in-Some+in_ok-push w ↦
          record {
            end = refl;
            so_far = rw w.ends-is (filter_map_pushed at n c.loop-vcpu.ends _ w.in-Some.end c.loop-vcpu.invariant.so_far w.in_ok-push.ensures.ok (sym c.changed_cpu.ensures ∙ w.in-Some.is));
          }
      | in_default w ↦ record { end = refl; so_far = rw w.ends-is (filter_map_kept at n c.loop-vcpu.ends c.loop-vcpu.invariant.so_far (sym c.changed_cpu.ensures ∙ w.in_default.is)) }
    ]
