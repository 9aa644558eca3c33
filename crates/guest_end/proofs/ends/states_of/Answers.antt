-- One more guest.
use Rattle.std.proofs.Common.{◌≡◌, ◌+◌, ◌++◌, ◌∷◌, [], ℕ, suc, length, get_or, sym, ap, subst, ◌∙◌, arith}
use Rattle.std.specs.Vec.Iter.{into_iter_items}
use Rattle.std.proofs.lemmas.List.{append_assoc, append-nil, length_push}
use Rattle.guest_end.specs.Home.{IsAtEnd, guest_of}
use Rattle.guest_end.proofs.EndsLemmas.{StatesSoFar, next_cpus, next_ends, next_one, nothing_left, states_all, states_more}
use Rattle.guest_end.proofs.ends.states_of.Goals as goal

pub split_at-requires : goal.split_at-requires
split_at-requires c = next_cpus c.args.guests.now c.args.words c.args.cpus.now c.loop-one.rest.now (length c.loop-one.yielded) c.loop-one.invariant.so.walks c.index-as_slice-len.result (next_one c.args.guests.now c.args.words c.args.cpus.now c.loop-one.rest.now c.loop-one.yielded (into_iter_items c.next.new.self) c.in-Some.one c.index-as_slice-len.result c.loop-one.invariant.so.walks c.requires (sym c.loop-one.invariant.rest ∙ ap (λ rest. c.loop-one.yielded ++ rest) c.in-Some.ensures.steps.0) (c.index-as_slice-len.is ∙ ap (λ guests. get_or guests c.len.result c.index-as_slice-len.result) c.as_slice.ensures ∙ ap (λ n. get_or c.args.guests.now n c.index-as_slice-len.result) (c.len.ensures ∙ c.loop-one.states.ok.0 ∙ c.loop-one.invariant.each))).here c.requires

pub state_of-requires : goal.state_of-requires
state_of-requires c = subst (IsAtEnd c.index-as_slice-len.result.shape c.in-Some.one) (sym c.split_at.ensures.front) (next_ends c.args.guests.now c.args.words c.args.cpus.now c.loop-one.rest.now (length c.loop-one.yielded) c.loop-one.invariant.so.walks c.index-as_slice-len.result (next_one c.args.guests.now c.args.words c.args.cpus.now c.loop-one.rest.now c.loop-one.yielded (into_iter_items c.next.new.self) c.in-Some.one c.index-as_slice-len.result c.loop-one.invariant.so.walks c.requires (sym c.loop-one.invariant.rest ∙ ap (λ rest. c.loop-one.yielded ++ rest) c.in-Some.ensures.steps.0) (c.index-as_slice-len.is ∙ ap (λ guests. get_or guests c.len.result c.index-as_slice-len.result) c.as_slice.ensures ∙ ap (λ n. get_or c.args.guests.now n c.index-as_slice-len.result) (c.len.ensures ∙ c.loop-one.states.ok.0 ∙ c.loop-one.invariant.each))).here c.in-Some.one (next_one c.args.guests.now c.args.words c.args.cpus.now c.loop-one.rest.now c.loop-one.yielded (into_iter_items c.next.new.self) c.in-Some.one c.index-as_slice-len.result c.loop-one.invariant.so.walks c.requires (sym c.loop-one.invariant.rest ∙ ap (λ rest. c.loop-one.yielded ++ rest) c.in-Some.ensures.steps.0) (c.index-as_slice-len.is ∙ ap (λ guests. get_or guests c.len.result c.index-as_slice-len.result) c.as_slice.ensures ∙ ap (λ n. get_or c.args.guests.now n c.index-as_slice-len.result) (c.len.ensures ∙ c.loop-one.states.ok.0 ∙ c.loop-one.invariant.each))).is c.requires).ended

pub loop-one-preserved : goal.loop-one-preserved
loop-one-preserved c =
    let next = next_one c.args.guests.now c.args.words c.args.cpus.now c.loop-one.rest.now c.loop-one.yielded (into_iter_items c.next.new.self) c.in-Some.one c.index-as_slice-len.result c.loop-one.invariant.so.walks c.requires (sym c.loop-one.invariant.rest ∙ ap (λ rest. c.loop-one.yielded ++ rest) c.in-Some.ensures.steps.0) (c.index-as_slice-len.is ∙ ap (λ guests. get_or guests c.len.result c.index-as_slice-len.result) c.as_slice.ensures ∙ ap (λ n. get_or c.args.guests.now n c.index-as_slice-len.result) (c.len.ensures ∙ c.loop-one.states.ok.0 ∙ c.loop-one.invariant.each)) in
    let more =
    states_more c.args.guests.now c.args.words c.args.cpus.now c.loop-one.rest.now c.loop-one.states.items (length c.loop-one.yielded) c.loop-one.invariant.so c.index-as_slice-len.result next.here c.requires c.in-Some.one c.in_ok-state_of.field-0 c.push.new.self.items next.is c.in_ok-push.ensures.items
    (c.in_ok-state_of.ensures ∙ ap (guest_of c.index-as_slice-len.result.shape c.in-Some.one) c.split_at.ensures.front) in
    record {
      next = tt;
      finite = tt;
      left =
          let was = c.loop-one.invariant.left in
          let gone = c.in-Some.ensures.steps.1 in
          let short = ap length c.in-Some.ensures.steps.0 in
          omega (arith, was, gone, short);
      rest = append_assoc c.loop-one.yielded (c.in-Some.one ∷ []) (into_iter_items c.next.new.self) ∙ sym (sym c.loop-one.invariant.rest ∙ ap (λ rest. c.loop-one.yielded ++ rest) c.in-Some.ensures.steps.0);
      each = ap length c.in_ok-push.ensures.items ∙ length_push c.loop-one.states.items c.in_ok-state_of.field-0 ∙ ap (λ n. n + 1) c.loop-one.invariant.each ∙ sym (length_push c.loop-one.yielded c.in-Some.one);
      so =
          subst (λ rest. StatesSoFar c.args.guests.now c.args.words c.args.cpus.now rest c.push.new.self.items (length (c.loop-one.yielded ++ c.in-Some.one ∷ []))) (sym c.split_at.ensures.back)
          (subst (StatesSoFar c.args.guests.now c.args.words c.args.cpus.now _ c.push.new.self.items) (one_more (length c.loop-one.yielded) ∙ sym (length_push c.loop-one.yielded c.in-Some.one)) more);
    }
  where
    one_more : (n : ℕ) → suc n ≡ n + 1
    one_more n = omega arith

pub returns : goal.returns
returns c = states_all c.args.guests.now c.args.words c.args.cpus.now c.loop-one.rest.now c.loop-one.states.items c.loop-one.yielded c.loop-one.invariant.so (sym c.loop-one.invariant.rest ∙ ap (λ rest. c.loop-one.yielded ++ rest) (nothing_left (into_iter_items c.loop-one.one-iterator) (sym c.loop-one.invariant.left ∙ c.in-None.ensures.steps.0)) ∙ append-nil c.loop-one.yielded)
