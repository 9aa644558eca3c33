-- The machine makes the access of the memory that was fed, which is then dropped.
use Rattle.std.proofs.Common.{◌≡◌, ℕ, List, refl, sym, subst, ap, ◌∙◌}
use Rattle.vm_saved.specs.GicVm.Mmio.{IsMade}
use Rattle.vm_saved.specs.GicVm.State.{MachineState}
use Rattle.gic_c.specs.declared.board.Board.{Board}
use Rattle.gic_c.specs.Board.{with_machine}
use Rattle.gic_c.specs.Fetch.{access_of}
use Rattle.gic_c.specs.Mmio.{WasFed}
use Rattle.gic_c.proofs.board.Board.make.Goals as goal

pub returns-in-Ok : goal.returns-in-Ok
returns-in-Ok c =
    let before = c.args.self.now in
    let call = c.args.call.now in
    let spans = c.args.spans.now in
    let same : c.forget.new.self.machine ≡ c.mmio-answer.new.self = ap (λ (board : Board). board.machine) c.forget.ensures in
    record {
      done = c.in-Ok.done;
      replies = refl;
      made =
          subst (λ (after : MachineState). IsMade (WasFed spans before.feed.bytes) (access_of before.machine call) call.vcpu before.machine after c.in-Ok.done) (sym same)
          (subst (λ (bytes : List ℕ). IsMade (WasFed spans bytes) (access_of before.machine call) call.vcpu before.machine c.mmio-answer.new.self c.in-Ok.done) c.as_slice.ensures c.in-Ok.ensures.made);
      alone = c.forget.ensures ∙ ap (with_machine before) (sym same);
    }
