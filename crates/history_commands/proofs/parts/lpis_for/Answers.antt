use Rattle.std.proofs.Common.{◌≡◌, ◌+◌, ℕ, ap, sym, ◌∙◌, arith, filter, Bool}
use Rattle.std.specs.List.{range_with_len}
use Rattle.history_commands.specs.Words.{is_number}
use Rattle.history_commands.specs.Mapped.{targets_by}
use Rattle.history_commands.proofs.PartLemmas.{number_is, filter_pushed, filter_kept}
use Rattle.history_commands.proofs.parts.lpis_for.Goals.{then-eq+in_ok-push, else-eq}
use Rattle.history_commands.proofs.parts.lpis_for.Goals as goal

pub returns : goal.returns
returns c =
    let same : c.loop-place.place ≡ c.args.shape.now.lpis = omega (arith, c.loop-place-test.false, c.loop-place.auto.place-end) in
    c.loop-place.invariant ∙ ap (λ n. filter (λ id. is_number c.args.vcpu (targets_by c.args.commands.now c.args.number id)) (range_with_len 8192 n)) same

pub loop-place-preserved : goal.loop-place-preserved
loop-place-preserved c =
    let n = c.loop-place.place in
    let p : ℕ → Bool = λ id. is_number c.args.vcpu (targets_by c.args.commands.now c.args.number id) in
    let is : p (8192 + n) ≡ c.eq.result = ap (is_number c.args.vcpu) (sym c.target_of.ensures) ∙ sym (number_is c.args.vcpu c.target_of.result) ∙ sym c.eq.ensures in
    elim c.if-eq.branch [
      | then-eq+in_ok-push w ↦ rw w.ids-is (filter_pushed p n c.loop-place.ids _ c.loop-place.invariant w.in_ok-push.ensures.ok (is ∙ w.if-eq.true))
      | else-eq w ↦ rw w.ids-is (filter_kept p n c.loop-place.ids c.loop-place.invariant (is ∙ w.if-eq.false))
    ]
