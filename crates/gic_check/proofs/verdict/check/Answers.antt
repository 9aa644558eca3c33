use Rattle.std.proofs.Common.{◌+◌, refl}
use Rattle.trace_told.specs.Histories.{opening_guest}
use Rattle.trace_told.specs.declared.verdict.Verdict.TheVariants.{Yes, No}
use Rattle.gic_check.proofs.CheckLemmas.{after_none, ends_with, goes_further, stops_here, is_yes, is_no, refuses_more, fresh_on_yes}
use Rattle.gic_check.proofs.verdict.check.Goals as goal

pub loop-index-init : goal.loop-index-init
loop-index-init c = after_none (opening_guest c.args.trace.now.guest) c.in_ok-play.play c.in_ok-play.ensures.played c.in_ok-play.ensures.done c.in_ok-play.ensures.none

pub loop-index-preserved : goal.loop-index-preserved
loop-index-preserved c =
    goes_further (opening_guest c.args.trace.now.guest) c.args.trace.now.events c.as_slice-events.result.now c.loop-index.index c.as_slice-events.ensures _ _ refl c.loop-index-test.true c.loop-index.play c.follows.new.play c.in_ok-can.can c.in_ok-can.ensures c.loop-index.invariant
    c.if-not-can.false

pub returns-then-not-can-clause-value : goal.returns-then-not-can-clause-value
returns-then-not-can-clause-value c =
    stops_here (opening_guest c.args.trace.now.guest) c.args.trace.now.events c.as_slice-events.result.now c.loop-index.index c.as_slice-events.ensures _ _ refl c.loop-index-test.true c.loop-index.play c.follows.new.play c.in_ok-can.can c.in_ok-can.ensures c.loop-index.invariant
    c.if-not-can.true

pub returns-then-not-can-clause-yes : goal.returns-then-not-can-clause-yes
returns-then-not-can-clause-yes c = is_yes (opening_guest c.args.trace.now.guest) c.args.trace.now.events (No (c.loop-index.index + 1)) (returns-then-not-can-clause-value c)

pub returns-then-not-can-clause-no : goal.returns-then-not-can-clause-no
returns-then-not-can-clause-no c = is_no (opening_guest c.args.trace.now.guest) c.args.trace.now.events (No (c.loop-index.index + 1)) (returns-then-not-can-clause-value c)

pub returns-then-not-can-clause-more : goal.returns-then-not-can-clause-more
returns-then-not-can-clause-more c = refuses_more (opening_guest c.args.trace.now.guest) c.args.trace.now.events (No (c.loop-index.index + 1)) (returns-then-not-can-clause-value c)

pub returns-clause-value : goal.returns-clause-value
returns-clause-value c =
    ends_with (opening_guest c.args.trace.now.guest) c.args.trace.now.events c.as_slice-events.result.now c.loop-index.index c.as_slice-events.ensures c.loop-index-test.false c.loop-index.play c.loop-index.invariant

pub returns-clause-no : goal.returns-clause-no
returns-clause-no c = is_no (opening_guest c.args.trace.now.guest) c.args.trace.now.events Yes (returns-clause-value c)

pub returns-clause-fresh : goal.returns-clause-fresh
returns-clause-fresh c = fresh_on_yes (opening_guest c.args.trace.now.guest) c.args.trace.now.events Yes (returns-clause-value c)
