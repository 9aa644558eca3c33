-- What touches read.
use Rattle.std.proofs.Common.{IsTrue}
use Rattle.legal_play.specs.Words.{Key}
use Rattle.legal_play.specs.Calls.{Touching, CanTouch, is_shown}
use Rattle.legal_play.specs.Histories.{Ideal, irq_at}
use Rattle.legal_play.proofs.LegalSteps.GicCall.TouchLemmas.{shown}
use Rattle.legal_play.specs.HistoryPlay.HistoryCheck.Ready.{IsReady}

pub shown_there : (state : Ideal) (key : Key) (touching : Touching) → IsReady state → CanTouch state.guest.shape key touching → IsTrue (is_shown touching (irq_at state.guest key))
shown_there state key touching ready can = shown state.guest.shape key touching (irq_at state.guest key) can (ready.records key can.there)
