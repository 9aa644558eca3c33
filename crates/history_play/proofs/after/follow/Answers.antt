use Rattle.std.proofs.Common.{sym, ap, ◌∙◌}
use Rattle.history_check.specs.Histories.{tracked}
use Rattle.history_play.proofs.after.follow.Goals as goal

pub returns-in-Begin-clause-track : goal.returns-in-Begin-clause-track
returns-in-Begin-clause-track c = c.begins.ensures c.args.state.now ∙ ap (λ moment. tracked c.args.state.now moment c.args.track.now) (sym c.in-Begin.is)

pub returns-in_ok-step-in-Happens-clause-track : goal.returns-in_ok-step-in-Happens-clause-track
returns-in_ok-step-in-Happens-clause-track c = c.in_ok-happens-in-Happens.ensures c.in-Happens.found ∙ ap (λ moment. tracked c.args.state.now moment c.args.track.now) (sym c.in-Happens.is)

pub returns-in_ok-ends-in-End-clause-track : goal.returns-in_ok-ends-in-End-clause-track
returns-in_ok-ends-in-End-clause-track c = c.in_ok-ends-in-End.ensures c.args.state.now c.in-End.answer ∙ ap (λ moment. tracked c.args.state.now moment c.args.track.now) (sym c.in-End.is)
