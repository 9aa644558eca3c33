use Rattle.std.proofs.Common.{ℕ, refl, ◌∙◌, length, arith}
use Rattle.std.proofs.lemmas.List.{length-set}
use Rattle.guest_memory.proofs.ListLemmas.{put_next, full_of}
use Rattle.gic_vm.proofs.reset.fill.Goals as goal

pub loop-place-preserved : goal.loop-place-preserved
loop-place-preserved g c =
    let is = c.loop-place.invariant in
    rw c.set.ensures
    (record {
      end = c.len-place-end.ensures;
      long = length-set c.loop-place.list c.loop-place.place c.args.value ∙ is.long;
      full =
          put_next c.loop-place.list c.loop-place.place c.args.value c.args.value (λ (i : ℕ). c.args.value) (omega (arith, c.loop-place-test.true, is.end, is.long)) refl is.full;
    })

pub returns : goal.returns
returns g c =
    let is = c.loop-place.invariant in
    full_of c.loop-place.list (length c.args.list.now) c.args.value is.long (λ i h. is.full i (omega (arith, h, c.loop-place-test.false, is.end)))
