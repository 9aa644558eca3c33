use Rattle.std.proofs.Common.{◌≡◌, sym, subst}
use Rattle.std.proofs.lemmas.Result.{IfOk-weaker}
use Rattle.port_seq.specs.IdealGuests.CanOpen.{CanOpen}
use Rattle.port_seq.specs.IdealGuests.Opening.{opening}
use Rattle.port_seq.proofs.PortCore.IdealGuests.CanOpenLemmas.{openings_can_open}
use Rattle.op_rows.proofs.tests.image.opened.Goals as goal

pub returns : goal.returns
returns c =
    let guest = c.args.guest.now in
    IfOk-weaker c.open.result (λ state. state ≡ opening guest) CanOpen (λ state is. subst CanOpen (sym is) (openings_can_open guest c.requires)) c.open.ensures.value
