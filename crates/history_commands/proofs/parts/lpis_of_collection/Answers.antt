use Rattle.std.proofs.Common.{◌≡◌, ◌+◌, ℕ, ap, sym, ◌∙◌, arith, filter, Bool}
use Rattle.std.specs.List.{range_with_len}
use Rattle.history_commands.specs.Words.{is_number}
use Rattle.history_commands.specs.Registers.{collection_of}
use Rattle.history_commands.proofs.PartLemmas.{number_is, filter_pushed, filter_kept}
use Rattle.history_commands.proofs.parts.lpis_of_collection.Goals.{then-eq+in_ok-push, else-eq}
use Rattle.history_commands.proofs.parts.lpis_of_collection.Goals as goal

pub returns : goal.returns
returns c =
    let same : c.loop-number.number ≡ c.args.shape.now.lpis = omega (arith, c.loop-number-test.false, c.loop-number.auto.number-end) in
    c.loop-number.invariant ∙ ap (λ n. filter (λ id. is_number c.args.icid (collection_of c.args.tables.now id)) (range_with_len 8192 n)) same

pub loop-number-preserved : goal.loop-number-preserved
loop-number-preserved c =
    let n = c.loop-number.number in
    let p : ℕ → Bool = λ id. is_number c.args.icid (collection_of c.args.tables.now id) in
    let is : p (8192 + n) ≡ c.eq.result = ap (is_number c.args.icid) (sym c.collection_of.ensures) ∙ sym (number_is c.args.icid c.collection_of.result) ∙ sym c.eq.ensures in
    elim c.if-eq.branch [
      | then-eq+in_ok-push w ↦ rw w.ids-is (filter_pushed p n c.loop-number.ids _ c.loop-number.invariant w.in_ok-push.ensures.ok (is ∙ w.if-eq.true))
      | else-eq w ↦ rw w.ids-is (filter_kept p n c.loop-number.ids c.loop-number.invariant (is ∙ w.if-eq.false))
    ]
