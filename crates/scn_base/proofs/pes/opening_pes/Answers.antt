use Rattle.std.proofs.Common.{◌≡◌, ◌∙◌, ap, sym, length, subst, arith}
use Rattle.scn_base.specs.Standing.{ResidentsExist}
use Rattle.gic_guest.specs.Good.{shapes_of}
use Rattle.scn_base.proofs.PesLemmas.{pes_more, length-opening_pes, residents_exist}
use Rattle.scn_base.proofs.pes.opening_pes.Goals as goal

pub loop-pe-preserved : goal.loop-pe-preserved
loop-pe-preserved c =
    pes_more (shapes_of c.args.guests.now) c.in_ok-names.names c.loop-pe.residents c.push.new.self c.copied.result c.loop-pe.pe c.in_ok-names.ensures c.loop-pe.invariant
    (c.copied.ensures ∙ c.get.ensures) c.in_ok-push.ensures.ok

pub returns-clause-pes : goal.returns-clause-pes
returns-clause-pes c =
    let all : c.loop-pe.pe ≡ c.args.pes = omega arith in
    ap length c.loop-pe.invariant ∙ length-opening_pes c.loop-pe.pe (shapes_of c.args.guests.now) ∙ all

pub returns-clause-exist : goal.returns-clause-exist
returns-clause-exist c = subst (ResidentsExist (shapes_of c.args.guests.now)) (sym c.loop-pe.invariant) (residents_exist c.loop-pe.pe (shapes_of c.args.guests.now))
