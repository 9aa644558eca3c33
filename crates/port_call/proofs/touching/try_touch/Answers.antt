-- The look, and the touch after it.
use Rattle.port_call.proofs.TouchLemmas.{looked_can, may_look}
use Rattle.port_call.proofs.touching.try_touch.Goals as goal

pub touch_seen-requires-clause-can : goal.touch_seen-requires-clause-can
touch_seen-requires-clause-can g c =
    looked_can (g.P.Port.seen c.args.port.now) (g.P.Port.seen c.look_home.new.port) c.args.key c.args.kind c.in_ok-seen.seen c.requires.can c.in_ok-seen.ensures.home

pub touch_seen-requires-clause-looked : goal.touch_seen-requires-clause-looked
touch_seen-requires-clause-looked g c = record { before = g.P.Port.seen c.args.port.now; ease = c.requires.ease; finds = c.in_ok-seen.ensures.home }

pub touch_seen-requires-clause-lines : goal.touch_seen-requires-clause-lines
touch_seen-requires-clause-lines g c =
    may_look (g.P.Port.seen c.args.port.now) (g.P.Port.seen c.look_home.new.port) c.args.key c.args.kind c.in_ok-seen.seen c.requires.ease c.in_ok-seen.ensures.home c.requires.lines

pub returns-clause-touched : goal.returns-clause-touched
returns-clause-touched g c = c.in_ok-touch_seen.ensures.touched (g.P.Port.seen c.args.port.now) c.requires.ease c.in_ok-seen.ensures.home
