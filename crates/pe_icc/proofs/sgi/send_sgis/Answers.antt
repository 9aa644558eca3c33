-- A write of ICC_SGI1R, and another access.
use Rattle.std.proofs.Common.{sym, subst, ◌∙◌}
use Rattle.pe_loop.specs.Core.{shape_of}
use Rattle.pe_icc.specs.Sgi.{Sends}
use Rattle.pe_icc.proofs.SgiLemmas.{all_raises, no_raises, sends_none}
use Rattle.pe_icc.proofs.sgi.send_sgis.Goals as goal

pub returns-in-Some : goal.returns-in-Some
returns-in-Some g c =
    let old = g.P.Port.seen c.args.port.now in
    subst (Sends old (g.P.Port.seen c.send_all.new.port)) (sym (all_raises (shape_of old) old.actor c.args.reg c.args.write c.in-Some.value (sym c.sgi_value.ensures ∙ c.in-Some.is))) c.send_all.ensures

pub returns-in_default : goal.returns-in_default
returns-in_default g c =
    let old = g.P.Port.seen c.args.port.now in
    subst (Sends old old) (sym (no_raises (shape_of old) old.actor c.args.reg c.args.write (sym c.sgi_value.ensures ∙ c.in_default.is))) (sends_none old c.requires.owes)
