use Rattle.std.proofs.Common.{◌≡◌, ◌<◌, true, nat_lt, refl, ◌∙◌, arith}
use Rattle.floor_calls.specs.Registers.{is_target}
use Rattle.floor_calls.specs.Calls.{sgi_at, sgi_events}
use Rattle.floor_calls.proofs.GicFrame.TestLemmas.{is_under}
use Rattle.ideal_guest.proofs.EachLemmas.{found_happened, found_none, sgi_named, sgi_unnamed, target_bit}
use Rattle.ideal_guest.proofs.guest.IdealGuest.send.Goals.{then-has_bit, else-has_bit}
use Rattle.ideal_guest.proofs.guest.IdealGuest.send.Goals as goal

pub loop-vcpu-preserved : goal.loop-vcpu-preserved
loop-vcpu-preserved c =
    let old = c.args.self.now in
    let now = c.loop-vcpu.self in
    let at = sgi_at c.args.value c.args.sender in
    let events = sgi_events old.shape c.args.sender c.args.value in
    let n = c.loop-vcpu.vcpu in
    let more : n < old.shape.vcpus = omega arith in
    let there : nat_lt n old.shape.vcpus ≡ true = is_under n old.shape.vcpus more in
    let bit : is_target c.args.value c.args.sender n ≡ _ = target_bit _ (nat_lt n old.shape.vcpus) _ (c.sgi_targets-targets.ensures.members n) there in
    elim c.if-has_bit.branch [
      | then-has_bit w ↦
          record {
            end = refl;
            way =
                rw w.self-is
                (found_happened old now w.raise.new.self events at n old.shape.vcpus _ more
                (sgi_named c.args.value c.args.sender n _ (bit ∙ (let a = c.from.ensures in let b = w.if-has_bit.ensures in let t = w.if-has_bit.true in cc)) c.sgi_intid-id.ensures.value) w.raise.ensures.after w.raise.ensures.sound w.raise.ensures.shape c.loop-vcpu.invariant.way);
          }
      | else-has_bit w ↦
          record {
            end = refl;
            way =
                rw w.self-is
                (found_none old now events at n old.shape.vcpus more (sgi_unnamed c.args.value c.args.sender n (bit ∙ (let a = c.from.ensures in let b = w.if-has_bit.ensures in let t = w.if-has_bit.false in cc))) c.loop-vcpu.invariant.way);
          }
    ]
