use Rattle.std.proofs.Common.{ap, ◌∙◌, arith}
use Rattle.serde_json.specs.Data.{array}
use Rattle.serde_json.specs.View.{view, items_of}
use Rattle.gic_save.proofs.GuestLemmas.{guests_step, guests_done}
use Rattle.gic_save.proofs.guest.guests.Goals as goal

pub loop-number-preserved : goal.loop-number-preserved
loop-number-preserved c =
    record {
      each = c.loop-number.invariant.each;
      told =
          guests_step c.loop-number.values.items c.push.new.self.items c.in_ok-guest.field-0 c.args.specs.now c.args.states.now c.loop-number.number c.index-specs-number.result c.index-states-number.result (omega arith)
          (omega (arith, c.loop-number.invariant.each)) c.index-specs-number.is c.index-states-number.is c.in_ok-push.ensures.items c.in_ok-guest.ensures
          ∙ c.loop-number.invariant.told;
    }

pub returns : goal.returns
returns c = c.array_of.ensures ∙ ap (λ ds. array (items_of ds)) (guests_done c.loop-number.values.items c.args.specs.now c.args.states.now c.loop-number.number (omega arith) c.loop-number.invariant.told)
