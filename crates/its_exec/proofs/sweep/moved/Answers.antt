-- The collection, and the look.
use Rattle.std.proofs.Common.{sym, ◌∙◌}
use Rattle.its_exec.proofs.SweepLemmas.{moved_unmapped, moved_other, moved_on}
use Rattle.its_exec.proofs.sweep.moved.Goals as goal

pub returns-then-not-has_target : goal.returns-then-not-has_target
returns-then-not-has_target g c = moved_unmapped (g.P.Port.seen c.args.port.now) c.args.tables.now c.args.rdbase c.args.second c.args.lpi (sym c.has_target.ensures ∙ c.if-not-has_target.true)

pub returns-then-not-is_for : goal.returns-then-not-is_for
returns-then-not-is_for g c =
    moved_other (g.P.Port.seen c.args.port.now) (g.P.Port.seen c.look_at_target-target.new.port) c.args.tables.now c.args.rdbase c.args.second c.args.lpi c.look_at_target-target.result (sym c.has_target.ensures ∙ c.if-not-has_target.false) c.requires.there c.requires.untouched c.look_at_target-target.ensures
    (sym c.is_for.ensures ∙ c.if-not-is_for.true)

pub returns : goal.returns
returns g c =
    moved_on (g.P.Port.seen c.args.port.now) (g.P.Port.seen c.look_at_target-target.new.port) c.args.tables.now c.args.rdbase c.args.second c.args.lpi c.look_at_target-target.result (sym c.has_target.ensures ∙ c.if-not-has_target.false) c.requires.there c.requires.vcpu c.requires.untouched
    c.look_at_target-target.ensures (sym c.is_for.ensures ∙ c.if-not-is_for.false)
