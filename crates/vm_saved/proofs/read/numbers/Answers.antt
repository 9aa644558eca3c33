use Rattle.std.proofs.Common.{map, sym, ◌∙◌, arith}
use Rattle.serde_json.specs.View.{view}
use Rattle.vm_saved.specs.Reading.{numbers_in}
use Rattle.vm_saved.proofs.NumberLemmas.{numbers_first, numbers_more, numbers_none, numbers_done}
use Rattle.vm_saved.proofs.read.numbers.Goals as goal

pub loop-value-init : goal.loop-value-init
loop-value-init c = rw c.new-numbers.ensures (numbers_first (numbers_in (map view c.args.values.now)))

pub returns-in_default : goal.returns-in_default
returns-in_default c =
    sym (numbers_none c.loop-value.numbers c.args.values.now c.loop-value.value-index c.value-item.result (numbers_in (map view c.args.values.now)) (omega arith) c.value-item.is (sym c.number_of.ensures ∙ c.in_default.is) c.loop-value.invariant)

pub loop-value-preserved : goal.loop-value-preserved
loop-value-preserved c =
    rw c.in_ok-push.ensures.ok
    (numbers_more c.loop-value.numbers c.args.values.now c.loop-value.value-index c.value-item.result c.in-Some.number (numbers_in (map view c.args.values.now)) (omega arith) c.value-item.is (sym c.number_of.ensures ∙ c.in-Some.is) c.loop-value.invariant)

pub returns : goal.returns
returns c = sym (numbers_done c.loop-value.numbers c.args.values.now c.loop-value.value-index (numbers_in (map view c.args.values.now)) (omega arith) c.loop-value.invariant)
