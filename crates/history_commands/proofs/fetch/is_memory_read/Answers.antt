use Rattle.std.proofs.Common.{sym, ◌∙◌}
use Rattle.history_commands.specs.Calls.{memory_places}
use Rattle.history_commands.specs.HistoryCalls.Found.{found_by}
use Rattle.history_commands.specs.Known.{view_by}
use Rattle.history_calls.proofs.CallLemmas.{read_decided}
use Rattle.history_commands.proofs.FetchLemmas.{place_is}
use Rattle.history_commands.specs.Calls.{Ram}
use Rattle.history_commands.specs.GicCall.declared.event.Place.TheVariants.{Word}
use Rattle.history_commands.proofs.fetch.is_memory_read.Goals as goal

pub returns-in-Some-clause-found : goal.returns-in-Some-clause-found
returns-in-Some-clause-found c =
    read_decided (found_by c.args.reads.now) c.args.reads.now (memory_places c.args.shape.now c.args.address c.args.size) (Word (Ram c.in-Some.part.index)) c.was_read.result
    (place_is c.args.shape.now c.args.address c.args.size c.in-Some.part (sym c.split.ensures.value ∙ c.in-Some.is)) c.was_read.ensures

pub returns-in-Some-clause-known : goal.returns-in-Some-clause-known
returns-in-Some-clause-known c = λ its maps targets.
    read_decided (view_by its maps targets c.args.reads.now) c.args.reads.now (memory_places c.args.shape.now c.args.address c.args.size) (Word (Ram c.in-Some.part.index)) c.was_read.result
    (place_is c.args.shape.now c.args.address c.args.size c.in-Some.part (sym c.split.ensures.value ∙ c.in-Some.is)) c.was_read.ensures
