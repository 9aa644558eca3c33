-- One copy more.
use Rattle.std.proofs.Common.{ap, ◌∙◌}
use Rattle.its_exec.specs.Words.{interrupt_count, key_at}
use Rattle.pe_mem.proofs.CopyLemmas.{copied_none, copied_more}
use Rattle.pe_mem.proofs.ctlr.copy_enables.Goals as goal

pub loop-place-init : goal.loop-place-init
loop-place-init g c =
    record { end = c.interrupt_count-place-end.ensures.value ∙ ap interrupt_count c.shape-shape.ensures; copies = copied_none (g.P.Port.seen c.args.port.now) c.args.enables c.requires }

pub loop-place-preserved : goal.loop-place-preserved
loop-place-preserved g c =
    record {
      end = c.loop-place.invariant.end;
      copies =
          copied_more (g.P.Port.seen c.args.port.now) (g.P.Port.seen c.loop-place.port) (g.P.Port.seen c.touch.new.port) c.args.enables c.loop-place.place c.key_at.result c.touch.result
          (c.key_at.ensures.value ∙ ap (λ shape. key_at shape c.loop-place.place) c.shape-shape.ensures) c.loop-place.invariant.copies c.touch.ensures;
    }
