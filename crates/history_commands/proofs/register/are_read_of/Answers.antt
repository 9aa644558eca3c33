use Rattle.std.proofs.Common.{◌↔◌, IsTrue, All, sym, subst}
use Rattle.history_commands.specs.Calls.{IsLastRead, held_at, its_write_places}
use Rattle.history_commands.specs.HistoryCalls.Found.{found_by}
use Rattle.history_commands.proofs.register.are_read_of.Goals as goal

pub returns-in-Ctlr : goal.returns-in-Ctlr
returns-in-Ctlr c = subst (λ reg. IsTrue c.are_all_read.result ↔ All (λ place. IsLastRead place (held_at (found_by c.args.piece.now) place) c.args.piece.now) (its_write_places reg)) (sym c.in-Ctlr.is) c.are_all_read.ensures

pub returns-in-Cwriter : goal.returns-in-Cwriter
returns-in-Cwriter c = subst (λ reg. IsTrue c.are_all_read-in-Cwriter.result ↔ All (λ place. IsLastRead place (held_at (found_by c.args.piece.now) place) c.args.piece.now) (its_write_places reg)) (sym c.in-Cwriter.is) c.are_all_read-in-Cwriter.ensures
