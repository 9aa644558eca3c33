-- One more guest ended.
use Rattle.std.proofs.Common.{Some, suc, get_or, sym, ap, subst, ◌∙◌, arith}
use Rattle.std.proofs.lemmas.Option.{slice_get-get_or}
use Rattle.gic_ideal.specs.IdealGuests.Opening.{opening}
use Rattle.gic_ideal.specs.Ends.{end_of}
use Rattle.guest_end.specs.Home.{IsAtEnd, guest_of}
use Rattle.guest_end.specs.Ends.{HaveEnded}
use Rattle.guest_end.proofs.EndsLemmas.{EndsSoFar, ends_more, next_cpus, next_ends}
use Rattle.guest_end.proofs.ends.ends_of.Goals as goal

pub split_at-requires : goal.split_at-requires
split_at-requires c = next_cpus c.as_slice-spec-items.result.now c.args.words.now c.args.cpus.now c.loop-guest.rest.now c.loop-guest.guest c.loop-guest.invariant.walks c.spec-item.result (slice_get-get_or c.as_slice-spec-items.result.now c.loop-guest.guest c.spec-item.result (omega arith) ∙ ap Some (sym c.spec-item.is)) (subst (λ guests. HaveEnded guests c.args.words.now c.args.cpus.now) (sym c.as_slice-spec-items.ensures) c.requires)

pub end_of-requires-clause-good : goal.end_of-requires-clause-good
end_of-requires-clause-good c = (next_ends c.as_slice-spec-items.result.now c.args.words.now c.args.cpus.now c.loop-guest.rest.now c.loop-guest.guest c.loop-guest.invariant.walks c.spec-item.result (slice_get-get_or c.as_slice-spec-items.result.now c.loop-guest.guest c.spec-item.result (omega arith) ∙ ap Some (sym c.spec-item.is)) c.index-as_slice-guest.result (ap (λ words. get_or words c.loop-guest.guest c.index-as_slice-guest.result) (sym c.as_slice.ensures) ∙ sym c.index-as_slice-guest.is) (subst (λ guests. HaveEnded guests c.args.words.now c.args.cpus.now) (sym c.as_slice-spec-items.ensures) c.requires)).good

pub end_of-requires-clause-ended : goal.end_of-requires-clause-ended
end_of-requires-clause-ended c = subst (IsAtEnd c.spec-item.result.shape c.index-as_slice-guest.result) (sym c.split_at.ensures.front) (next_ends c.as_slice-spec-items.result.now c.args.words.now c.args.cpus.now c.loop-guest.rest.now c.loop-guest.guest c.loop-guest.invariant.walks c.spec-item.result (slice_get-get_or c.as_slice-spec-items.result.now c.loop-guest.guest c.spec-item.result (omega arith) ∙ ap Some (sym c.spec-item.is)) c.index-as_slice-guest.result (ap (λ words. get_or words c.loop-guest.guest c.index-as_slice-guest.result) (sym c.as_slice.ensures) ∙ sym c.index-as_slice-guest.is) (subst (λ guests. HaveEnded guests c.args.words.now c.args.cpus.now) (sym c.as_slice-spec-items.ensures) c.requires)).ended

pub loop-guest-preserved : goal.loop-guest-preserved
loop-guest-preserved c =
    let more =
    ends_more c.as_slice-spec-items.result.now c.args.words.now c.args.cpus.now c.loop-guest.rest.now c.loop-guest.ends c.loop-guest.guest c.loop-guest.invariant c.spec-item.result (slice_get-get_or c.as_slice-spec-items.result.now c.loop-guest.guest c.spec-item.result (omega arith) ∙ ap Some (sym c.spec-item.is)) c.index-as_slice-guest.result c.in_ok-end_of.field-0 c.push.new.self (ap (λ words. get_or words c.loop-guest.guest c.index-as_slice-guest.result) (sym c.as_slice.ensures) ∙ sym c.index-as_slice-guest.is) c.in_ok-push.ensures.ok
    (c.in_ok-end_of.ensures ∙ ap (λ own. end_of (opening c.spec-item.result) (guest_of c.spec-item.result.shape c.index-as_slice-guest.result own)) c.split_at.ensures.front) in
    subst (EndsSoFar c.as_slice-spec-items.result.now c.args.words.now c.args.cpus.now c.split_at.result.1.now c.push.new.self) (omega arith)
    (subst (λ rest. EndsSoFar c.as_slice-spec-items.result.now c.args.words.now c.args.cpus.now rest c.push.new.self (suc c.loop-guest.guest)) (sym c.split_at.ensures.back) more)
