-- The round, the claim, and the end of the scan.
use Rattle.pe_icc.proofs.FirstLemmas.{is_first_among, may_claim_first, scans_first_so, still_vcpu}
use Rattle.pe_icc.proofs.first.scan_first.Goals as goal

pub claim_first-failed-requires : goal.claim_first-failed-requires
claim_first-failed-requires g c =
    let old = g.P.Port.seen c.args.port.now in
    let mid = g.P.Port.seen c.look_round-chooser.new.port in
    let round = c.look_round-chooser.ensures in
    may_claim_first old mid c.args.vcpu c.empty-bare.result c.look_round-chooser.result round c.first.result c.requires.up c.requires.trapping c.empty-bare.ensures
    (is_first_among old mid c.args.vcpu c.look_round-chooser.result round c.first.result (still_vcpu old mid round.part round.adds c.requires.up.on.actor.is_one) c.first.ensures)

pub returns : goal.returns
returns g c =
    let old = g.P.Port.seen c.args.port.now in
    let mid = g.P.Port.seen c.look_round-chooser.new.port in
    let round = c.look_round-chooser.ensures in
    scans_first_so old mid (g.P.Port.seen c.claim_first-failed.new.port) (g.P.Port.seen c.end_scan.new.port) c.args.vcpu c.empty-bare.result c.claim_first-failed.new.vcpu c.look_round-chooser.result c.first.result c.claim_first-failed.result c.requires.up c.requires.trapping round
    c.empty-bare.ensures (is_first_among old mid c.args.vcpu c.look_round-chooser.result round c.first.result (still_vcpu old mid round.part round.adds c.requires.up.on.actor.is_one) c.first.ensures) c.claim_first-failed.ensures c.end_scan.ensures
