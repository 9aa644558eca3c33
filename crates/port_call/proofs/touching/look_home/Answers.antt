-- The look, and the request.
use Rattle.std.proofs.Common.{sym, ◌∙◌}
use Rattle.port_call.proofs.TouchLemmas.{looked_marks, held_by_look}
use Rattle.port_call.proofs.touching.look_home.Goals as goal

pub ask-requires-clause-marks : goal.ask-requires-clause-marks
ask-requires-clause-marks g c = looked_marks (g.P.Port.seen c.args.port.now) (g.P.Port.seen c.step-word.new.self) c.args.key c.step-word.result c.requires.ease.owes c.step-word.ensures.adds

pub returns-in-Some-clause-held : goal.returns-in-Some-clause-held
returns-in-Some-clause-held g c = λ kind.
    held_by_look (g.P.Port.seen c.args.port.now) (g.P.Port.seen c.step-word.new.self) (g.P.Port.seen c.ask.new.port) c.args.key kind c.step-word.result c.in-Some.holder c.requires.ease.owes
    (sym c.holder_in.ensures ∙ c.in-Some.is) c.step-word.ensures.adds c.ask.ensures

pub returns-in-None-clause-home : goal.returns-in-None-clause-home
returns-in-None-clause-home g c = record { look = c.step-word.ensures.adds; word_is = c.step-word.ensures.found.valid; home = sym c.holder_in.ensures ∙ c.in-None.is }
