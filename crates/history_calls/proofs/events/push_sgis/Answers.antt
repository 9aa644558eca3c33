use Rattle.std.proofs.Common.{◌≡◌, ◌<◌, ◌++◌, ◌∷◌, [], true, nat_lt, sym, ap, ◌∙◌, arith, append_assoc}
use Rattle.std.specs.List.{filter_map, range_with_len}
use Rattle.history_calls.specs.Registers.{is_target}
use Rattle.history_calls.specs.Words.{Private}
use Rattle.history_calls.specs.Calls.{Event, sgi_at}
use Rattle.legal_lists.specs.GicCall.declared.event.Event.TheVariants.{Raise}
use Rattle.legal_lists.proofs.GicCall.RangeLemmas.{filter_map_found, filter_map_none}
use Rattle.legal_lists.proofs.IdealGuests.GicFrame.TestLemmas.{is_under}
use Rattle.legal_lists.proofs.IdealGuests.EachLemmas.{sgi_named, sgi_unnamed, target_bit}
use Rattle.history_calls.proofs.events.push_sgis.Goals.{then-has_bit+in_ok-push, else-has_bit}
use Rattle.history_calls.proofs.events.push_sgis.Goals as goal

pub loop-vcpu-preserved : goal.loop-vcpu-preserved
loop-vcpu-preserved c =
    let shape = c.args.shape.now in
    let at = sgi_at c.args.value c.args.sender in
    let n = c.loop-vcpu.vcpu in
    let old = c.args.events.now in
    let raised : Event = Raise (Private n c.sgi_intid-id.result) in
    let more : n < shape.vcpus = omega (arith, c.loop-vcpu.invariant.end) in
    let there : nat_lt n shape.vcpus ≡ true = is_under n shape.vcpus more in
    let bit : is_target c.args.value c.args.sender n ≡ _ = target_bit _ (nat_lt n shape.vcpus) _ (c.sgi_targets-targets.ensures.members n) there in
    elim c.if-has_bit.branch [
      | then-has_bit+in_ok-push w ↦
          record {
            end = c.loop-vcpu.invariant.end;
            so_far =
                rw w.events-is
                (w.in_ok-push.ensures.ok ∙ ap (λ es. es ++ raised ∷ []) c.loop-vcpu.invariant.so_far ∙ append_assoc old (filter_map at (range_with_len 0 n)) (raised ∷ [])
                ∙ ap (λ es. old ++ es)
                (sym (filter_map_found at n raised (sgi_named c.args.value c.args.sender n _ (bit ∙ (let a = c.from.ensures in let b = w.if-has_bit.ensures in let t = w.if-has_bit.true in cc)) c.sgi_intid-id.ensures.value))));
          }
      | else-has_bit w ↦
          record {
            end = c.loop-vcpu.invariant.end;
            so_far =
                rw w.events-is
                (c.loop-vcpu.invariant.so_far
                ∙ ap (λ es. old ++ es) (sym (filter_map_none at n (sgi_unnamed c.args.value c.args.sender n (bit ∙ (let a = c.from.ensures in let b = w.if-has_bit.ensures in let t = w.if-has_bit.false in cc))))));
          }
    ]
