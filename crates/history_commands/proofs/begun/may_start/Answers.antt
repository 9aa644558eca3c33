use Rattle.std.proofs.Common.{Some}
use Rattle.history_commands.specs.Calls.{named_of}
use Rattle.history_commands.specs.Beginning.{RunsFrom, MayStore, MayStart}
use Rattle.history_commands.proofs.BegunNamed.{none_may, some_may, then_both, not_both}
use Rattle.history_commands.proofs.begun.may_start.Goals as goal

pub returns-in-None : goal.returns-in-None
returns-in-None c = none_may (Some c.args.actor) c.args.piece.now c.from_named.result.now (MayStart c.args.half c.args.value) c.from_named.ensures c.in-None.ensures.cases tt

pub returns-then-starts_anew : goal.returns-then-starts_anew
returns-then-starts_anew c =
    some_may (Some c.args.actor) c.args.piece.now c.from_named.result.now c.in-Some.one.now c.in-Some.rest.now (MayStart c.args.half c.args.value) c.may_store.result c.from_named.ensures c.in-Some.ensures.cases.0
    (then_both c.starts_anew.result c.may_store.result (RunsFrom 0 c.in-Some.one.now) (MayStore c.args.half c.args.value (named_of (Some c.args.actor) c.in-Some.rest.now)) c.if-starts_anew.true c.starts_anew.ensures c.may_store.ensures)

pub returns-else-starts_anew : goal.returns-else-starts_anew
returns-else-starts_anew c =
    some_may (Some c.args.actor) c.args.piece.now c.from_named.result.now c.in-Some.one.now c.in-Some.rest.now (MayStart c.args.half c.args.value) c.starts_anew.result c.from_named.ensures c.in-Some.ensures.cases.0
    (not_both c.starts_anew.result (RunsFrom 0 c.in-Some.one.now) (MayStore c.args.half c.args.value (named_of (Some c.args.actor) c.in-Some.rest.now)) c.if-starts_anew.false c.starts_anew.ensures)
