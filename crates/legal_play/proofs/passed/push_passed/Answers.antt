use Rattle.std.proofs.Common.{◌≡◌, ◌<◌, ◌≤◌, ◌++◌, ◌∙◌, ap, sym, subst, cond, length, slice_index, [], map, filter, true, arith}
use Rattle.std.proofs.lemmas.Grind.{common_steps}
use Rattle.legal_steps.specs.Words.{key_at}
use Rattle.legal_steps.specs.Waiting.{is_passed_by, waits_for}
use Rattle.legal_steps.specs.Histories.{asks_first, keys_in}
use Rattle.legal_play.proofs.PassedLemmas.{places_of, within, kept_more, all_passed}
use Rattle.legal_play.proofs.passed.push_passed.Goals as goal

pub loop-index-preserved : goal.loop-index-preserved
loop-index-preserved c =
    let state = c.args.state.now in
    let same = ap (λ guest. places_of guest.irqs) c.guest.ensures in
    let there = subst (λ n. c.loop-index.index < n) (c.pending_count-index-end.ensures ∙ ap length same) c.loop-index-test.true in
    kept_more (key_at state.guest.shape) (is_passed_by state c.args.track.now c.args.vcpu) (waits_for state.guest.shape c.args.track.now c.args.vcpu) (places_of state.guest.irqs) c.loop-index.index c.pending_at-place.result
    there (c.pending_at-place.ensures ∙ ap (λ places. slice_index places c.loop-index.index) same) c.args.waits.now c.loop-index.waits _ c.loop-index.invariant c.in_ok-push_if_passed.ensures

pub push_if_passed-requires-clause-place : goal.push_if_passed-requires-clause-place
push_if_passed-requires-clause-place c =
    let same = ap (λ guest. places_of guest.irqs) c.guest.ensures in
    let there = subst (λ n. c.loop-index.index < n) (c.pending_count-index-end.ensures ∙ ap length same) c.loop-index-test.true in
    within c.args.state.now c.loop-index.index c.pending_at-place.result c.requires.ready there (c.pending_at-place.ensures ∙ ap (λ places. slice_index places c.loop-index.index) same)

pub returns : goal.returns
returns c =
    let state = c.args.state.now in
    let passed = map (waits_for state.guest.shape c.args.track.now c.args.vcpu) (filter (is_passed_by state c.args.track.now c.args.vcpu) (keys_in state.guest.shape)) in
    let whole = subst (λ n. n ≤ c.loop-index.index) (c.pending_count-index-end.ensures ∙ ap (λ guest. length (places_of guest.irqs)) c.guest.ensures) c.loop-index-test.false in
    let asks : asks_first c.args.reg c.args.write ≡ true = grind (arith, common_steps, c.asks_first.ensures, c.if-not-asks_first.ensures, c.if-not-asks_first.false) in
    all_passed state c.args.track.now c.args.vcpu c.loop-index.index (waits_for state.guest.shape c.args.track.now c.args.vcpu) c.args.waits.now c.loop-index.waits c.requires.ready whole c.loop-index.invariant
    ∙ ap (λ b. c.args.waits.now ++ cond b passed []) (sym asks)
