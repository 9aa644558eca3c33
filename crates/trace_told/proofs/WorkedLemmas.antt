-- The worked traces.
use Rattle.std.proofs.Common.{◌≡◌, ℕ, ◌+◌, ◌≤◌, zero, suc, List, [], ◌∷◌, ◌++◌, length, take, Contains, Option, Some, None, IsTrue, refl, sym, ap, ◌∙◌, subst, arith, false, true, true≢false}
use Rattle.std.proofs.lemmas.List.Elements.{All-nil, All-from_recursion}
use Rattle.std.proofs.lemmas.Option.{none-some, same_Some}
use Rattle.trace_read.specs.declared.trace.TraceEvent.{TraceEvent}
use Rattle.legal_play.specs.LegalLists.Registers.{least_in, with_level, without_level}
use Rattle.legal_play.specs.Words.{GuestShape, Iar1, Spi, Icc}
use Rattle.legal_play.specs.Calls.{Reach, Cpu, Found, Moment, Begin, Happens, Access, Happened, IsCall}
use Rattle.legal_play.specs.GicCall.declared.event.Event.TheVariants.{Raise}
use Rattle.legal_play.specs.GicCall.declared.event.Found.TheVariants.{Nothing, Answer}
use Rattle.legal_play.specs.GicCall.declared.event.Moment.TheVariants.{End}
use Rattle.legal_play.specs.Histories.{IdealGuest, Call, opening_course, vcpu_of, IsHistory, IsFresh, IsEnded, worked_guest, message, overlooked, outdated}
use Rattle.legal_play.specs.LegalLists.Legal.{IsLegal, unseen}
use Rattle.legal_play.specs.LegalLists.Open.{read_twice, raises_another, raises_nothing}
use Rattle.legal_play.proofs.LegalSteps.GicHistory.CallLemmas.{hands_one, beside_of, head_in, is_some_window}
use Rattle.legal_play.proofs.LegalSteps.OpenLemmas.{open_refused}
use Rattle.legal_play.proofs.LegalSteps.StepLaw.{go_on}
use Rattle.legal_play.proofs.LegalSteps.WholeLaw.{whole}
use Rattle.legal_play.proofs.LegalSteps.WorkedLemmas.{refused as unfresh_refused, IsOver, calls_after}
use Rattle.trace_told.specs.Told.{told_from}
use Rattle.trace_told.specs.Verdict.{CanBe, IsLeastRefused}
use Rattle.trace_told.specs.Worked.{served, overlooked as overlooked_trace, read_twice as read_twice_trace, raises_another as raises_another_trace, raises_nothing as raises_nothing_trace, mistaken, answered, outdated as outdated_trace, outside, WorkedTraces}
use Rattle.trace_told.proofs.VerdictLemmas.{first_can_be}

-- Verdicts by what events say.

take_less : {X : Type 0} (n m : ℕ) (xs : List X) → n ≤ m → take n (take m xs) ≡ take n xs
take_less zero m xs h = refl
take_less (suc n) zero xs h = absurd (omega (arith, h))
take_less (suc n) (suc m) [] h = refl
take_less (suc n) (suc m) (x ∷ xs) h = ap (λ xs. x ∷ xs) (take_less n m xs (omega (arith, h)))

least_at : (guest : IdealGuest) (events : List TraceEvent) (count : ℕ) → count + 1 ≤ length events → CanBe guest (take count events) → (CanBe guest (take (count + 1) events) → ⊥) → IsLeastRefused guest events (count + 1)
least_at guest events count within can cannot = record {
  within = within;
  refused = cannot;
  before = λ n below. subst (CanBe guest) (take_less n count events (omega (arith, below))) (first_can_be guest (take count events) n can);
}

not_legal : (guest : IdealGuest) (events : List TraceEvent) (moments : List Moment) → told_from (opening_course guest) events ≡ Some moments → (IsLegal guest moments → ⊥) → CanBe guest events → ⊥
not_legal guest events moments told never is = never (subst (IsLegal guest) (same_Some _ _ (sym is.told ∙ told)) is.legal)

not_told : (guest : IdealGuest) (events : List TraceEvent) → told_from (opening_course guest) events ≡ None → CanBe guest events → ⊥
not_told guest events told is = none-some is.moments (sym told ∙ is.told)

-- A message that is served.

abbrev served_moments : List Moment
served_moments =
    message 40 ++ Begin 0 (Access (Icc Iar1 None)) ∷ Happens 0 (Reach (Spi 40) 0) Nothing ∷ Happens 0 (Cpu 0 Iar1 None) (Answer (Some 40)) ∷ End 0 (Some 40) ∷ []

ended_by : (shape : GuestShape) (actor : ℕ) (call : Call) (answer : Option ℕ) → ((id : ℕ) → IsTrue (is_some_window (call.targets id))) → IsCall shape (beside_of call) (vcpu_of shape actor) call.operation call.piece answer → IsEnded shape actor call answer
ended_by shape actor call answer window is = record { beside = beside_of call; maps = refl; commands = refl; targets = λ id. head_in (call.targets id) (window id); right = λ h. h; is_call = is }

served_is : IsHistory worked_guest served_moments
unfolding least_in with_level without_level
served_is = (
  (omega arith, refl),
  (
    record { within = refl; can = refl; allowed = refl; hands = refl },
    (
      ended_by worked_guest.shape 2 _ None (λ id. refl) (record { view = unseen; maps = refl; made = record { events_are = refl; found = hands_one unseen (Raise (Spi 40)) Nothing refl; reads = All-nil _ }; answers = refl }),
      (
        (omega arith, refl),
        (
          record { within = refl; can = (refl, omega arith); allowed = refl; hands = refl },
          (
            record { within = refl; can = (omega arith, refl); allowed = refl; hands = refl },
            (
              ended_by worked_guest.shape 0 _ (Some 40) (λ id. refl) (record { view = unseen; made = record { events_are = refl; found = hands_one unseen (Cpu 0 Iar1 None) (Answer (Some 40)) ((Some 40), refl); reads = All-nil _ }; answers = (1, omega arith, refl) }),
              tt,
            ),
          ),
        ),
      ),
    ),
  ),
)

served_fresh : IsFresh worked_guest served_moments
unfolding least_in with_level without_level
served_fresh = record { acknowledge = refl; interface = refl; end = refl; deactivation = refl }

served_can : CanBe worked_guest served
unfolding least_in with_level without_level
served_can = record { moments = served_moments; told = refl; legal = (whole worked_guest served_moments (All-from_recursion IsOver (calls_after served_moments) (refl, (refl, (refl, tt))))).legal served_is served_fresh }

-- Another answer.

read_of : Happened → ℕ
read_of happened = in_found happened.found
  where
    in_found : Found → ℕ
    in_found (Answer (Some value)) = value
    in_found found = 0

abbrev accessed : ℕ → Happened
accessed value = record { event = Cpu 0 Iar1 None; found = Answer (Some value) }

abbrev piece : List Happened
piece = (record { event = Reach (Spi 40) 0; found = Nothing }) ∷ accessed 40 ∷ []

not_answered : Contains piece (accessed 41) → ⊥
unfolding read_of
not_answered (zero, h, e) = let k : 0 ≡ 41 = ap read_of e in absurd (omega (arith, k))
not_answered (suc zero, h, e) = let k : 40 ≡ 41 = ap read_of e in absurd (omega (arith, k))
not_answered (suc (suc n), h, e) = absurd (omega (arith, h))

-- The rows.

pub worked_traces : WorkedTraces
unfolding least_in with_level without_level
worked_traces = record {
  empty = record { moments = []; told = refl; legal = go_on.none worked_guest };
  served = λ count. first_can_be worked_guest served count served_can;
  overlooked = least_at worked_guest overlooked_trace 4 (omega arith) (record { moments = take 4 overlooked; told = refl; legal = unfresh_refused.overlooked.before }) (not_legal worked_guest _ (take 5 overlooked) refl unfresh_refused.overlooked.refused);
  read_twice = least_at worked_guest read_twice_trace 7 (omega arith) (record { moments = take 7 read_twice; told = refl; legal = open_refused.read_twice.before }) (not_legal worked_guest _ (take 8 read_twice) refl open_refused.read_twice.refused);
  raises_another = least_at worked_guest raises_another_trace 1 (omega arith) (record { moments = take 1 raises_another; told = refl; legal = open_refused.raises_another.before }) (not_legal worked_guest _ (take 2 raises_another) refl open_refused.raises_another.refused);
  raises_nothing = least_at worked_guest raises_nothing_trace 1 (omega arith) (record { moments = take 1 raises_nothing; told = refl; legal = open_refused.raises_nothing.before }) (not_legal worked_guest _ (take 2 raises_nothing) refl open_refused.raises_nothing.refused);
  mistaken = least_at worked_guest mistaken 5 (omega arith) (first_can_be worked_guest served 5 served_can) (not_told worked_guest _ refl);
  answered = least_at worked_guest answered 6 (omega arith) (first_can_be worked_guest served 6 served_can) (not_legal worked_guest _ (take 6 served_moments ++ End 0 (Some 41) ∷ []) refl (λ is. not_answered is.history.1.1.1.1.1.1.0.is_call.answers));
  outdated = least_at worked_guest outdated_trace 10 (omega arith) (record { moments = take 10 outdated; told = refl; legal = unfresh_refused.outdated.before }) (not_legal worked_guest _ (take 11 outdated) refl unfresh_refused.outdated.refused);
  outside = least_at worked_guest outside 0 (omega arith) (record { moments = []; told = refl; legal = go_on.none worked_guest }) (not_legal worked_guest _ (Happens 0 (Reach (Spi 40) 0) Nothing ∷ []) refl (λ is. let k : false ≡ true = is.history.0.within in true≢false (sym k)));
}
