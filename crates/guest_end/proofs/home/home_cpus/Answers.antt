use Rattle.std.proofs.Common.{◌≡◌, ◌<◌, Bool, false, length, get_or, ap, arith, ◌∙◌}
use Rattle.std.proofs.lemmas.List.{get_or_default}
use Rattle.port_core.specs.Calls.{opening_cpu}
use Rattle.port_core.proofs.GicOpen.RangeLemmas.{map_pushed}
use Rattle.port_core.specs.Registers.{CpuRec}
use Rattle.guest_end.specs.Home.{cpu_at_home}
use Rattle.guest_end.proofs.home.home_cpus.Goals as goal

-- one more CPU record
pub loop-vcpu-preserved : goal.loop-vcpu-preserved
loop-vcpu-preserved c =
    let words = c.args.words.now in
    let cpus = c.args.cpus.now in
    let vcpu = c.loop-vcpu.vcpu in
    let zero : CpuRec = record { pmr = 0; bpr0 = 0; bpr1 = 0; cbpr = false; eoimode = false; en0 = false; en1 = false; lpis = false; ap0 = 0; ap1 = 0 } in
    let with_lpis : CpuRec → Bool → CpuRec = λ cpu lpis. record cpu { lpis = lpis } in
    let there : vcpu < length cpus = omega (arith, c.requires, c.loop-vcpu.invariant.end) in
    let same : get_or cpus vcpu zero ≡ get_or cpus vcpu (opening_cpu false) = get_or_default cpus vcpu zero (opening_cpu false) there in
    record {
      end = c.loop-vcpu.invariant.end;
      so_far =
          map_pushed (cpu_at_home words cpus) vcpu c.loop-vcpu.list _ _ c.loop-vcpu.invariant.so_far c.in_ok-push.ensures.ok
          (ap (λ cpu. with_lpis cpu c.of.result.lpis) same ∙ ap (λ word. with_lpis (get_or cpus vcpu (opening_cpu false)) word.lpis) c.of.ensures);
    }
