-- An end of interrupt, the first interrupt in trap mode, and another access.
use Rattle.std.proofs.Common.{sym, ◌∙◌}
use Rattle.pe_loop.specs.Core.{shape_of}
use Rattle.pe_icc.proofs.ReadyLemmas.{ended_there, prepared_end, prepared_first, prepared_not}
use Rattle.pe_icc.proofs.prepare.prepare.Goals as goal

pub ready_end-requires-clause-there : goal.ready_end-requires-clause-there
ready_end-requires-clause-there g c = let old = g.P.Port.seen c.args.port.now in (ended_there (shape_of old) old.actor c.args.reg c.args.write c.in-Some.key (sym c.ended.ensures ∙ c.in-Some.is)).there

pub ready_end-requires-clause-own : goal.ready_end-requires-clause-own
ready_end-requires-clause-own g c = let old = g.P.Port.seen c.args.port.now in (ended_there (shape_of old) old.actor c.args.reg c.args.write c.in-Some.key (sym c.ended.ensures ∙ c.in-Some.is)).own

pub returns-in-Some : goal.returns-in-Some
returns-in-Some g c =
    prepared_end (g.P.Port.seen c.args.port.now) (g.P.Port.seen c.ready_end.new.port) c.args.reg c.args.write c.args.stay c.ready_end.result c.in-Some.key (sym c.ended.ensures ∙ c.in-Some.is) c.ready_end.ensures

pub returns-then-is_to_find : goal.returns-then-is_to_find
returns-then-is_to_find g c =
    prepared_first (g.P.Port.seen c.args.port.now) (g.P.Port.seen c.scan_first.new.port) c.args.reg c.args.write c.args.stay c.scan_first.result (sym c.is_to_find.ensures ∙ c.if-is_to_find.true) (sym c.ended.ensures ∙ c.in_default.is) c.requires.ending c.scan_first.ensures

pub returns : goal.returns
returns g c =
    prepared_not (g.P.Port.seen c.args.port.now) c.args.reg c.args.write c.args.stay (sym c.ended.ensures ∙ c.in_default.is) c.requires.ending c.requires.up (sym c.is_to_find.ensures ∙ c.if-is_to_find.false)
