use Rattle.std.proofs.Common.{◌∙◌, sym, ap, arith}
use Rattle.gic_ideal.specs.Ends.{end_of}
use Rattle.gic_ideal.proofs.StateLemmas.{same_shape, ends_step}
use Rattle.gic_ideal.proofs.run.end_all.Goals as goal

pub end_of-requires-clause-shape : goal.end_of-requires-clause-shape
end_of-requires-clause-shape c =
    same_shape c.args.closed.now c.args.guests.now c.loop-number.number c.index-closed-number.result c.index-guests-number.result c.requires.shapes (omega arith) c.index-closed-number.is c.index-guests-number.is
    ∙ ap (λ state. state.shape) (sym c.in_ok-opened.ensures.value)

pub loop-number-preserved : goal.loop-number-preserved
loop-number-preserved c =
    let guests = c.args.guests.now in
    let n = c.loop-number.number in
    record {
      each = c.loop-number.invariant.each;
      told =
          ends_step c.loop-number.ends c.push.new.self c.in_ok-end_of.field-0 guests c.args.closed.now n c.index-guests-number.result c.index-closed-number.result (omega arith) (omega (arith, c.loop-number.invariant.each)) c.index-guests-number.is
          c.index-closed-number.is c.in_ok-push.ensures.ok (c.in_ok-end_of.ensures ∙ ap (λ opened. end_of opened c.index-closed-number.result) c.in_ok-opened.ensures.value)
          ∙ c.loop-number.invariant.told;
    }
