use Rattle.std.proofs.Common.{◌<◌, length, arith}
use Rattle.history_check.specs.IdealGuests.Opening.{opening as opening_guest}
use Rattle.history_play.proofs.CheckLemmas.{opened, goes_in, plays_all, refuses, there_at}
use Rattle.history_play.proofs.whole.check.Goals as goal

pub loop-number-init : goal.loop-number-init
loop-number-init c = opened (opening_guest c.args.guest.now) c.args.moments.now c.in_ok-state.state c.in_ok-track.track c.in_ok-state.ensures.ready c.in_ok-state.ensures.value c.in_ok-track.ensures

pub returns-in-Some-clause-refused : goal.returns-in-Some-clause-refused
returns-in-Some-clause-refused c =
    let moments = c.args.moments.now in
    let number = c.loop-number.number in
    let within : number < length moments = omega arith in
    refuses (opening_guest c.args.guest.now) moments _ number _ c.in-Some.cause c.loop-number.state c.loop-number.track within c.moments_after-later.ensures (there_at moments number _ within) c.loop-number.invariant (rw c.in-Some.is at c.judge.ensures.some)

pub loop-number-preserved : goal.loop-number-preserved
loop-number-preserved c =
    let moments = c.args.moments.now in
    let number = c.loop-number.number in
    let within : number < length moments = omega arith in
    goes_in (opening_guest c.args.guest.now) moments _ number _ c.loop-number.state c.follow.new.state c.loop-number.track c.follow.new.track within c.moments_after-later.ensures c.loop-number.invariant (rw c.in_default.is at c.judge.ensures.none)
    c.in_ok-follow.ensures.ready c.in_ok-follow.ensures.state c.in_ok-follow.ensures.track

pub returns-clause-fresh : goal.returns-clause-fresh
returns-clause-fresh c = plays_all (opening_guest c.args.guest.now) c.args.moments.now c.loop-number.number c.loop-number.state c.loop-number.track (omega arith) c.loop-number.invariant
