use Rattle.history_calls.specs.Found.{seen_by}
use Rattle.history_calls.proofs.CountLemmas.{touch_hands, put_hands}
use Rattle.history_calls.proofs.compare.hands_out.Goals as goal

pub returns-in-Touch : goal.returns-in-Touch
returns-in-Touch c = touch_hands (seen_by c.args.is_open c.args.piece.now) c.args.event.now c.args.found.now c.in-Touch.key c.in-Touch.touching c.irq_at-irq.result c.is_same_found.result c.in-Touch.is c.irq_at-irq.ensures c.is_same_found.ensures

pub returns-in-Put : goal.returns-in-Put
returns-in-Put c = put_hands (seen_by c.args.is_open c.args.piece.now) c.args.event.now c.args.found.now c.in-Put.word c.in-Put.value c.word_at-value.result c.is_same_found-in-Put.result c.in-Put.is c.word_at-value.ensures c.is_same_found-in-Put.ensures
