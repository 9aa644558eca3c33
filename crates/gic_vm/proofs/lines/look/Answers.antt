use Rattle.std.proofs.Common.{◌≡◌, ◌<◌, not, ◌+◌, ◌*◌, ◌%◌, ◌^◌, ◌∙◌, arith}
use Rattle.std.proofs.lemmas.List.{length-set}
use Rattle.gic_vm.specs.Lines.{lines_of, is_same_lines, lines_in}
use Rattle.gic_vm.proofs.LineLemmas.{sum_fits, differ_is, lines_now, lines_before, changed_more, changed_same, changed_below}
use Rattle.gic_vm.proofs.lines.look.Goals as goal
use Rattle.gic_vm.proofs.lines.look.Goals.{then-ne, else-ne}

pub overflow_add-changed : goal.overflow_add-changed
overflow_add-changed c =
    let vcpu = c.loop-vcpu.vcpu in
    let few : c.loop-vcpu.changed < 2 ^ vcpu = rw c.loop-vcpu.invariant.changed (changed_below (lines_in c.args.lines.now) (lines_of c.args.guest.now) vcpu) in
    let sum : c.loop-vcpu.changed + 1 * 2 ^ vcpu % 2 ^ 32 < 2 ^ 32 = sum_fits c.loop-vcpu.changed vcpu (omega (arith, c.requires.sound.shape.vcpus, c.loop-vcpu.invariant.end, c.loop-vcpu-test.true)) few in
    omega arith

pub loop-vcpu-preserved : goal.loop-vcpu-preserved
loop-vcpu-preserved c =
    let vcpu = c.loop-vcpu.vcpu in
    let now = c.lines_of-now.result in
    let before = lines_in c.args.lines.now in
    let after = lines_of c.args.guest.now in
    let few : vcpu < 32 = omega (arith, c.requires.sound.shape.vcpus, c.loop-vcpu.invariant.end, c.loop-vcpu-test.true) in
    let found : not (is_same_lines (before vcpu) (after vcpu)) ≡ c.ne.result = differ_is c.loop-vcpu.lines c.args.lines.now vcpu now (after vcpu) c.ne.result c.ne.ensures (c.loop-vcpu.invariant.before vcpu (omega arith)) c.lines_of-now.ensures in
    record {
      end = c.loop-vcpu.invariant.end;
      room = length-set c.loop-vcpu.lines vcpu now ∙ c.loop-vcpu.invariant.room;
      changed = elim c.if-ne.branch [
        | then-ne w ↦ changed_more before after vcpu c.loop-vcpu.changed c.if-ne.changed few c.loop-vcpu.invariant.changed (found ∙ w.if-ne.true) w.changed-is
        | else-ne w ↦ changed_same before after vcpu c.loop-vcpu.changed c.if-ne.changed c.loop-vcpu.invariant.changed (found ∙ w.if-ne.false) w.changed-is
      ];
      now = lines_now c.loop-vcpu.lines vcpu now after (omega (arith, c.loop-vcpu.invariant.room, few)) c.lines_of-now.ensures c.loop-vcpu.invariant.now;
      before = lines_before c.loop-vcpu.lines c.args.lines.now vcpu now c.loop-vcpu.invariant.before;
    }
