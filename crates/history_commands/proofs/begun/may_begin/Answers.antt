use Rattle.std.proofs.Common.{Some}
use Rattle.history_commands.specs.Beginning.{MayBegin}
use Rattle.history_commands.proofs.BegunNamed.{none_may, some_may}
use Rattle.history_commands.proofs.begun.may_begin.Goals as goal

pub returns-in-None : goal.returns-in-None
returns-in-None c = none_may (Some c.args.actor) c.args.piece.now c.from_named.result.now (MayBegin c.args.reg c.args.half c.args.value) c.from_named.ensures c.in-None.ensures.cases tt

pub returns-in-Some : goal.returns-in-Some
returns-in-Some c = some_may (Some c.args.actor) c.args.piece.now c.from_named.result.now c.in-Some.one.now c.in-Some.rest.now (MayBegin c.args.reg c.args.half c.args.value) c.may_write.result c.from_named.ensures c.in-Some.ensures.cases.0 c.may_write.ensures
