use Rattle.std.proofs.Common.{◌≡◌, ◌+◌, ◌∙◌, ℕ, sym, ap, refl, take, arith}
use Rattle.ideal_guest.proofs.GicCall.RangeLemmas.{map_pushed}
use Rattle.gic_ideal.specs.Eager.{after_step, after_steps}
use Rattle.gic_picture.specs.declared.picture.Column.{Column}
use Rattle.gic_picture.specs.Picture.{column_of, value_at}
use Rattle.gic_picture.specs.Steps.{step_value}
use Rattle.gic_picture.proofs.PictureLemmas.{value_here}
use Rattle.gic_picture.proofs.TallyLemmas.{one_more_step}
use Rattle.gic_picture.proofs.picture.show_steps.Goals as goal

pub loop-step-preserved : goal.loop-step-preserved
loop-step-preserved c =
    let guests = c.args.states.now.items in
    let steps = c.args.steps.now in
    let n = c.loop-step.step-index in
    let now : c.do_step.new.states.items ≡ after_steps (take (n + 1) steps) guests =
    c.do_step.ensures.after ∙ ap (after_step _) c.loop-step.invariant.states ∙ sym (one_more_step steps guests n _ _ (omega arith) refl) in
    let column : ℕ → Column = λ m. column_of c.args.rows.now c.args.vcpus.now (after_steps (take m steps) guests) in
    record {
      sound = c.do_step.ensures.sound;
      shapes = c.do_step.ensures.shapes ∙ c.loop-step.invariant.shapes;
      states = now;
      columns = map_pushed column (n + 1) c.loop-step.columns _ _ c.loop-step.invariant.columns c.in_ok-push-3.ensures.ok
          (sym (c.in_ok-column_of-2.ensures ∙ ap (column_of c.args.rows.now c.args.vcpus.now) (c.as_slice-in-loop-step.ensures.value ∙ now)));
      values = map_pushed (value_at steps guests) n c.loop-step.values _ _ c.loop-step.invariant.values c.in_ok-push-2.ensures.ok
          (value_here steps guests n _ _ (omega arith) refl ∙ ap (step_value _) (sym c.loop-step.invariant.states) ∙ sym c.do_step.ensures.value);
    }
