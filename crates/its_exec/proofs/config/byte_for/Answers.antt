-- An LPI for no vCPU is not read of.
use Rattle.std.proofs.Common.{ℕ, Option, sym, subst}
use Rattle.its_exec.specs.Config.{ReadsConfig}
use Rattle.its_exec.proofs.ConfigLemmas.{config_none}
use Rattle.its_exec.proofs.config.byte_for.Goals as goal

pub returns-in-None : goal.returns-in-None
returns-in-None g c =
    let seen = g.P.Port.seen c.args.port.now in
    let For : Option ℕ → Type 0 = λ target. ReadsConfig seen seen c.args.fetched.now target c.args.lpi 0 in
    subst For (sym c.in-None.is) (config_none seen c.args.fetched.now c.args.lpi)
