use Rattle.history_commands.specs.HistoryCalls.Found.{found_by}
use Rattle.history_calls.proofs.CountLemmas.{put_hands}
use Rattle.history_commands.proofs.written.hands_out.Goals as goal

pub returns-in-Put : goal.returns-in-Put
returns-in-Put c = put_hands (found_by c.args.piece.now) c.args.event.now c.args.found.now c.in-Put.word c.in-Put.value c.word_at-value.result c.is_same_found.result c.in-Put.is c.word_at-value.ensures c.is_same_found.ensures
