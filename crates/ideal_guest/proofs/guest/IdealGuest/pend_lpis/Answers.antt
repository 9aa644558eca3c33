use Rattle.std.proofs.Common.{◌<◌, ◌+◌, cond, Some, None, refl, ap, ◌∙◌, arith}
use Rattle.floor_calls.specs.Words.{Lpi, SetPending}
use Rattle.floor_calls.specs.Calls.{Touch, Register}
use Rattle.ideal_guest.proofs.SweepLemmas.{pends_start, pends_hit, pends_miss}
use Rattle.ideal_guest.proofs.guest.IdealGuest.pend_lpis.Goals.{then-is_pended, else-is_pended}
use Rattle.ideal_guest.proofs.guest.IdealGuest.pend_lpis.Goals as goal

pub loop-number-init : goal.loop-number-init
loop-number-init c = record { end = refl; so_far = pends_start c.args.self.now c.args.vcpu c.requires.sound }

pub loop-number-preserved : goal.loop-number-preserved
loop-number-preserved c =
    let old = c.args.self.now in
    let now = c.loop-number.self in
    let n = c.loop-number.number in
    let more : n < old.shape.lpis = omega (arith, c.loop-number.invariant.end) in
    elim c.if-is_pended.branch [
      | then-is_pended w ↦
          record {
            end = c.loop-number.invariant.end;
            so_far =
                rw w.self-is
                (pends_hit old now w.touch.new.self c.args.vcpu n more (c.is_pended.ensures ∙ ap (λ b. cond b (Some (Touch (Lpi (8192 + n)) (Register SetPending 1))) None) w.if-is_pended.true) w.touch.ensures.after w.touch.ensures.sound c.loop-number.invariant.so_far);
          }
      | else-is_pended w ↦
          record {
            end = c.loop-number.invariant.end;
            so_far = rw w.self-is (pends_miss old now c.args.vcpu n more (c.is_pended.ensures ∙ ap (λ b. cond b (Some (Touch (Lpi (8192 + n)) (Register SetPending 1))) None) w.if-is_pended.false) c.loop-number.invariant.so_far);
          }
    ]
