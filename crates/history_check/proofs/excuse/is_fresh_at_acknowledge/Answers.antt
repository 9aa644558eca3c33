use Rattle.std.proofs.Common.{◌≡◌, ◌||◌, not, Bool, true, false, sym, ap, ◌∙◌, arith}
use Rattle.std.specs.List.{list_all}
use Rattle.floor_histories.specs.Words.{Key, GuestShape, interrupt_count, key_at}
use Rattle.floor_histories.specs.Histories.{asks_first, comes_first, is_excused, keys_in}
use Rattle.history_check.proofs.ExcuseLemmas.{all_more, all_fails}
use Rattle.history_check.proofs.excuse.is_fresh_at_acknowledge.Goals as goal

pub loop-place-preserved : goal.loop-place-preserved
loop-place-preserved c =
    let state = c.args.state.now in
    let passes : Key → Bool = λ key. not (comes_first state c.args.vcpu key) || is_excused c.args.later.now state c.args.track.now c.args.vcpu key in
    let key : key_at state.guest.shape c.loop-place.place ≡ c.key_at-key.result = ap (λ (s : GuestShape). key_at s c.loop-place.place) (sym c.shape-in-loop-place.ensures) ∙ sym c.key_at-key.ensures.value in
    all_more passes (key_at state.guest.shape) c.loop-place.place c.loop-place.invariant (ap passes key ∙ sym c.may_wait.ensures ∙ c.if-not-may_wait.false)

pub returns-then-not-may_wait : goal.returns-then-not-may_wait
returns-then-not-may_wait c =
    let state = c.args.state.now in
    let passes : Key → Bool = λ key. not (comes_first state c.args.vcpu key) || is_excused c.args.later.now state c.args.track.now c.args.vcpu key in
    let key : key_at state.guest.shape c.loop-place.place ≡ c.key_at-key.result = ap (λ (s : GuestShape). key_at s c.loop-place.place) (sym c.shape-in-loop-place.ensures) ∙ sym c.key_at-key.ensures.value in
    let count : c.interrupt_count-place-end.result ≡ interrupt_count state.guest.shape = c.interrupt_count-place-end.ensures.value ∙ ap interrupt_count c.shape.ensures in
    let asks : asks_first c.args.reg c.args.write ≡ true = sym c.asks_first.ensures ∙ c.if-not-asks_first.false in
    let fails : list_all passes (keys_in state.guest.shape) ≡ false = all_fails passes (key_at state.guest.shape) (interrupt_count state.guest.shape) c.loop-place.place (omega (arith, count, c.loop-place-test.true)) (ap passes key ∙ sym c.may_wait.ensures ∙ c.if-not-may_wait.true) in
    sym (ap (λ b. not b || list_all passes (keys_in state.guest.shape)) asks ∙ fails)
