-- The step, and whether it found the word.
use Rattle.pe_loop.proofs.ClaimLemmas.{claims_so}
use Rattle.pe_loop.proofs.claims.claim.Goals as goal

pub returns : goal.returns
returns g c =
    claims_so (g.P.Port.seen c.args.port.now) (g.P.Port.seen c.step.new.self) c.args.key c.args.irq.now c.step.result c.pack-seen.result c.pack-seen.ensures.value c.pack-seen.ensures.back c.requires.may c.step.ensures.adds c.step.ensures.left.valid
