-- The scan, the claims, and the end of the scan.
use Rattle.std.proofs.Common.{ap, arith}
use Rattle.pe_loop.proofs.EnterLemmas.{enters_so}
use Rattle.pe_loop.proofs.entry.enter.Goals as goal

pub returns : goal.returns
returns g c =
    enters_so (g.P.Port.seen c.args.port.now) (g.P.Port.seen c.scan-fill.new.port) (g.P.Port.seen c.claim_all-failed.new.port) (g.P.Port.seen c.end_scan.new.port) c.args.vcpu c.args.lrs c.local_ref.result.now.cpu c.scan-fill.result c.ready-loaded.result c.claim_all-failed.new.vcpu
    c.claim_all-failed.result (omega arith) (omega arith) c.requires.off c.scan-fill.ensures (ap (λ local. local.cpu) c.local_ref.ensures) c.ready-loaded.ensures c.claim_all-failed.ensures c.end_scan.ensures
