-- Where it is to scan again, and where not.
use Rattle.std.proofs.Common.{sym, ◌∙◌}
use Rattle.pe_icc.proofs.ReenterLemmas.{reenters_so, refills_again, refills_not}
use Rattle.pe_icc.proofs.reenter.refill.Goals as goal

pub returns-then-is_to_scan : goal.returns-then-is_to_scan
returns-then-is_to_scan g c =
    let old = g.P.Port.seen c.args.port.now in
    let new = g.P.Port.seen c.reenter.new.port in
    refills_again old new c.args.vcpu c.reenter.result c.args.owing (sym c.is_to_scan.ensures ∙ c.if-is_to_scan.true) (reenters_so old new c.args.vcpu c.reenter.result c.reenter.ensures)

pub returns-else-is_to_scan : goal.returns-else-is_to_scan
returns-else-is_to_scan g c = refills_not (g.P.Port.seen c.args.port.now) c.args.vcpu c.args.owing (sym c.is_to_scan.ensures ∙ c.if-is_to_scan.false) c.requires
