use Rattle.history_commands.specs.HistoryCalls.Found.{found_by}
use Rattle.history_commands.proofs.RegisterLemmas.{start_ctlr}
use Rattle.history_commands.proofs.register.its_start.Goals as goal

pub returns-in-Ctlr : goal.returns-in-Ctlr
returns-in-Ctlr c =
    start_ctlr c.args.shape.now (found_by c.args.piece.now) c.in-Plain.reg c.in-Plain.half c.args.value c.args.reference c.ctlr_start.result c.in-Plain.is c.in-Ctlr.is c.if-shape-eq0.false (c.ctlr_start.ensures c.args.shape.now c.in-Plain.half)
