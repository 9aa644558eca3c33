-- One more guest is told.
use Rattle.std.proofs.Common.{◌+◌, ◌++◌, ◌∷◌, ◌≡◌, [], ℕ, Some, length, suc, take, sym, ap, subst, ◌∙◌, arith}
use Rattle.std.proofs.lemmas.List.{length_push, take_all}
use Rattle.std.proofs.lemmas.List.Elements.{All-get_or}
use Rattle.std.proofs.lemmas.Option.{slice_get-get_or}
use Rattle.law_saves_go_on.specs.Resume.{states_of}
use Rattle.gic_ideal.specs.IdealGuests.Calls.{IsGoodGuest}
use Rattle.eager_rest.proofs.ToldLemmas.{same_count, told_more, valid_at}
use Rattle.eager_rest.proofs.told.all_told.Goals as goal

pub bounds-states-number : goal.bounds-states-number
bounds-states-number c = let count = same_count c.args.guests.now c.args.states.now c.requires.valid in omega (arith, count)

pub told-requires-clause-good : goal.told-requires-clause-good
told-requires-clause-good c = subst IsGoodGuest (sym c.index-guests-number.is) (All-get_or IsGoodGuest c.args.guests.now c.loop-number.number c.index-guests-number.result (omega arith) c.requires.good)

pub told-requires-clause-valid : goal.told-requires-clause-valid
told-requires-clause-valid c = valid_at c.args.guests.now c.args.states.now c.loop-number.number c.index-guests-number.result c.index-states-number.result c.requires.valid (slice_get-get_or c.args.guests.now c.loop-number.number c.index-guests-number.result (omega arith) ∙ ap Some (sym c.index-guests-number.is)) (slice_get-get_or c.args.states.now c.loop-number.number c.index-states-number.result (let count = same_count c.args.guests.now c.args.states.now c.requires.valid in omega (arith, count)) ∙ ap Some (sym c.index-states-number.is))

pub push_reserved-requires : goal.push_reserved-requires
push_reserved-requires c = omega (arith, c.loop-number.all.ok.0, c.loop-number.invariant.each, c.loop-number.invariant.room)

pub loop-number-preserved : goal.loop-number-preserved
loop-number-preserved c =
    record {
      told =
          c.push_reserved.ensures.items
          ∙ ap (λ all. all ++ c.in_ok-told.field-0 ∷ []) c.loop-number.invariant.told
          ∙ ap (λ one. states_of (take c.loop-number.number c.args.guests.now) (take c.loop-number.number c.args.states.now) ++ one ∷ []) c.in_ok-told.ensures
          ∙ sym (told_more c.args.guests.now c.args.states.now c.loop-number.number c.index-guests-number.result c.index-states-number.result (slice_get-get_or c.args.guests.now c.loop-number.number c.index-guests-number.result (omega arith) ∙ ap Some (sym c.index-guests-number.is)) (slice_get-get_or c.args.states.now c.loop-number.number c.index-states-number.result (let count = same_count c.args.guests.now c.args.states.now c.requires.valid in omega (arith, count)) ∙ ap Some (sym c.index-states-number.is)))
          ∙ ap (λ n. states_of (take n c.args.guests.now) (take n c.args.states.now)) (one_more c.loop-number.number);
      each = ap length c.push_reserved.ensures.items ∙ length_push c.loop-number.all.items c.in_ok-told.field-0 ∙ ap (λ n. n + 1) c.loop-number.invariant.each;
      room = omega (arith, c.push_reserved.ensures.capacity, c.loop-number.invariant.room);
    }
  where
    one_more : (n : ℕ) → suc n ≡ n + 1
    one_more n = omega arith

pub returns : goal.returns
returns c =
    let count = same_count c.args.guests.now c.args.states.now c.requires.valid in
    c.loop-number.invariant.told
    ∙ ap (λ guests. states_of guests (take c.loop-number.number c.args.states.now)) (take_all c.loop-number.number c.args.guests.now (omega arith))
    ∙ ap (states_of c.args.guests.now) (take_all c.loop-number.number c.args.states.now (omega (arith, count)))
