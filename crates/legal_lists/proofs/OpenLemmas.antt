-- The worked lists that break off while calls are open.
use Rattle.std.proofs.Common.{◌≡◌, inl, ℕ, zero, suc, ◌^◌, nat_lt, true, false, cond, IsTrue, List, [], ◌∷◌, ◌++◌, take, Option, Some, None, refl, sym, ap, ◌∙◌, subst, arith, true≢false, le-ltb}
use Rattle.std.proofs.lemmas.List.Elements.{All-nil, All-from_recursion}
use Rattle.std.proofs.lemmas.Option.{none-some, same_Some}
use Rattle.law_histories.specs.Registers.{least_in, with_level, without_level}
use Rattle.law_histories.specs.Words.{Iar1, Spi, Message, Msi, Redist, Mem, GuestShape}
use Rattle.law_histories.specs.Calls.{Cpu, Enable, ItsBegin, Begin, Happens, Access, Device, ItsCtlr, Pendbaser, Happened, Beside, View, IsCall, IsIccCall, IsLastRead, held_at}
use Rattle.law_histories.specs.GicCall.declared.event.Event.TheVariants.{Raise, Read, ItsEnd}
use Rattle.law_histories.specs.GicCall.declared.event.Found.TheVariants.{Nothing, Answer, Word as FoundWord, Lpis as FoundLpis}
use Rattle.law_histories.specs.GicCall.declared.event.Place.TheVariants.{Word}
use Rattle.law_histories.specs.Histories.{Call, IsHistory, IsEnded, vcpu_of, opening_course, course_of, worked_guest}
use Rattle.law_histories.proofs.GicCall.ReadLemmas.{last_read}
use Rattle.law_histories.proofs.GicHistory.CallLemmas.{hands_one, beside_of, head_in, is_some_window}
use Rattle.legal_lists.specs.Legal.{Made, IsBegun, unseen}
use Rattle.legal_lists.specs.Worked.{IsRefusedAfter}
use Rattle.legal_lists.specs.Open.{read_twice, raises_another, raises_nothing, waiting_guest, passes_by, signals_none, OpenCallsAreRefused}
use Rattle.legal_lists.proofs.CallLaw.{AreBegun, made_was}
use Rattle.legal_lists.proofs.WorkedLemmas.{cut, history_before, begun_before, IsOver, calls_after}

-- what a call made is the call, with the maps and the vCPUs of LPIs that it noted first
ended_by : (shape : GuestShape) (actor : ℕ) (call : Call) (answer : Option ℕ) → ((id : ℕ) → IsTrue (is_some_window (call.targets id))) → IsCall shape (beside_of call) (vcpu_of shape actor) call.operation call.piece answer → IsEnded shape actor call answer
ended_by shape actor call answer window is = record { beside = beside_of call; maps = refl; commands = refl; targets = λ id. head_in (call.targets id) (window id); right = λ h. h; is_call = is }

-- a read of IAR1 by vCPU 0 that finds nothing
read_is : (shape : GuestShape) → IsIccCall shape 0 Iar1 None ((record { event = Cpu 0 Iar1 None; found = Answer (Some 1023) }) ∷ []) (Some 1023)
read_is shape = record { view = unseen; made = record { events_are = refl; found = hands_one unseen (Cpu 0 Iar1 None) (Answer (Some 1023)) ((Some 1023), refl); reads = All-nil _ }; answers = (0, omega arith, refl) }

-- A read after the message has ended.

read_twice_is : IsHistory worked_guest read_twice
unfolding least_in with_level without_level
read_twice_is = (
  (omega arith, refl),
  (
    record { within = refl; can = refl; allowed = refl; hands = refl },
    (
      (omega arith, refl),
      (
        record { within = refl; can = (omega arith, refl); allowed = refl; hands = refl },
        (
          ended_by worked_guest.shape 2 _ None (λ id. refl) (record { view = unseen; maps = refl; made = record { events_are = refl; found = hands_one unseen (Raise (Spi 40)) Nothing refl; reads = All-nil _ }; answers = refl }),
          (
            ended_by worked_guest.shape 0 _ (Some 1023) (λ id. refl) (read_is worked_guest.shape),
            (
              (omega arith, refl),
              (
                record { within = refl; can = (omega arith, refl); allowed = refl; hands = refl },
                (ended_by worked_guest.shape 0 _ (Some 1023) (λ id. refl) (read_is worked_guest.shape), tt),
              ),
            ),
          ),
        ),
      ),
    ),
  ),
)

read_twice_refused : IsRefusedAfter worked_guest read_twice 7
unfolding least_in with_level without_level
read_twice_refused = record {
  before = record {
    history = history_before read_twice 7 read_twice_is;
    begun = begun_before read_twice 7 read_twice_is (All-from_recursion IsOver (calls_after read_twice) (refl, (refl, (refl, tt))));
    acknowledge = refl;
    interface = refl;
    end = refl;
    deactivation = refl;
  };
  refused = λ is. true≢false (sym is.acknowledge);
}

-- Messages that are none.

raises_another_refused : IsRefusedAfter worked_guest raises_another 1
raises_another_refused = record {
  before = cut.served 1;
  refused = λ is. true≢false (sym (made_was.among worked_guest (Begin 2 (Device (Message 40)) ∷ []) (Happens 2 (Raise (Spi 41)) Nothing ∷ []) 2 (Spi 41) is refl));
}

raises_nothing_refused : IsRefusedAfter worked_guest raises_nothing 1
raises_nothing_refused = record {
  before = cut.served 1;
  refused = λ is. let h : [] ≡ Raise (Spi 40) ∷ [] = is.history.1.0.is_call.made.events_are in absurd (cc);
}

-- Calls that an LPI may yet be made pending by.

-- the write of EnableLPIs: it may find that its pending table has only zeros
seen : (id : ℕ) (xs : List (Option ℕ)) (x : Option ℕ) → IsTrue (is_some_window (cond (nat_lt id 0) xs (xs ++ x ∷ [])))
seen id xs x = ap (λ b. is_some_window (cond b xs (xs ++ x ∷ []))) (le-ltb id 0 (omega arith)) ∙ of xs
  where
    of : (xs : List (Option ℕ)) → is_some_window (xs ++ x ∷ []) ≡ true
    of [] = refl
    of (y ∷ ys) = refl

abbrev zeros : View
zeros = record unseen { words = λ word. 2 ^ 62 }

abbrev looks : Happened
looks = record { event = Read (Word (Pendbaser 1)); found = FoundWord (2 ^ 62) }

enables_is : (beside : Beside) → IsCall waiting_guest.shape beside (Some 1) (Access (Mem (Redist 1) 0 4 (Some 1))) ((record { event = Enable 1; found = FoundLpis false }) ∷ looks ∷ []) None
enables_is beside =
    let view : View = record zeros { targets = beside.targets } in
    record {
      view = view;
      targets = refl;
      made = record {
        begin = (record { event = Enable 1; found = FoundLpis false }) ∷ [];
        rest = looks ∷ [];
        split = refl;
        begun = record { events_are = refl; found = hands_one view (Enable 1) (FoundLpis false) refl; reads = All-nil _ };
        made = record { events_are = refl; found = All-nil _; reads = All-from_recursion (λ place. IsLastRead place (held_at view place) (looks ∷ [])) (Word (Pendbaser 1) ∷ []) (last_read [] [] refl, tt) };
      };
      answers = refl;
    }

passed_begun : AreBegun waiting_guest.shape (course_of (opening_course waiting_guest) (take 4 passes_by))
unfolding least_in with_level without_level
passed_begun zero call e = subst (IsBegun false waiting_guest.shape 0) (same_Some _ call e) (record { notes = []; answer = Some 1023; ended = ended_by waiting_guest.shape 0 _ (Some 1023) (λ id. refl) (read_is waiting_guest.shape) })
passed_begun (suc zero) call e =
    subst (IsBegun false waiting_guest.shape 1) (same_Some _ call e)
    (record {
      notes = Made false (opening_course waiting_guest).ideal (Read (Word (Pendbaser 1))) (FoundWord (2 ^ 62)) ∷ [];
      answer = None;
      ended = ended_by waiting_guest.shape 1 _ None (λ id. seen id _ _) (enables_is _);
    })
passed_begun (suc (suc zero)) call e = absurd (none-some call e)
passed_begun (suc (suc (suc n))) call e = absurd (none-some call e)

passes_by_refused : IsRefusedAfter waiting_guest passes_by 4
unfolding least_in with_level without_level
passes_by_refused = record {
  before = record {
    history = ((omega arith, refl), (record { within = refl; can = omega arith; allowed = refl; hands = refl }, ((omega arith, refl), (record { within = refl; can = (omega arith, refl); allowed = refl; hands = refl }, tt))));
    begun = passed_begun;
    acknowledge = refl;
    interface = refl;
    end = refl;
    deactivation = refl;
  };
  refused = λ is. true≢false (sym is.acknowledge);
}

-- the message-signalled interrupt: it may find the ITS disabled
abbrev reads_ctlr : Happened
reads_ctlr = record { event = Read (Word ItsCtlr); found = FoundWord 0 }

abbrev gives : Happened
gives = record { event = ItsEnd; found = Nothing }

abbrev takes : Happened
takes = record { event = ItsBegin; found = Nothing }

signals_is : (beside : Beside) → IsCall waiting_guest.shape beside None (Device (Msi 0 0)) (takes ∷ reads_ctlr ∷ gives ∷ []) None
signals_is beside =
    let view : View = record unseen { maps = beside.maps } in
    record {
      view = view;
      maps = refl;
      made = inl (record {
        raising = takes ∷ reads_ctlr ∷ [];
        last = gives ∷ [];
        split = refl;
        raised = record {
          begin = takes ∷ [];
          rest = reads_ctlr ∷ [];
          split = refl;
          begun = record { events_are = refl; found = hands_one view ItsBegin Nothing refl; reads = All-nil _ };
          made = record { events_are = refl; found = All-nil _; reads = All-from_recursion (λ place. IsLastRead place (held_at view place) (reads_ctlr ∷ [])) (Word ItsCtlr ∷ []) (last_read [] [] refl, tt) };
        };
        ended = record { events_are = refl; found = hands_one view ItsEnd Nothing refl; reads = All-nil _ };
      });
      answers = refl;
    }

signals_begun : AreBegun waiting_guest.shape (course_of (opening_course waiting_guest) (take 4 signals_none))
unfolding least_in with_level without_level
signals_begun zero call e = subst (IsBegun false waiting_guest.shape 0) (same_Some _ call e) (record { notes = []; answer = Some 1023; ended = ended_by waiting_guest.shape 0 _ (Some 1023) (λ id. refl) (read_is waiting_guest.shape) })
signals_begun (suc zero) call e = absurd (none-some call e)
signals_begun (suc (suc zero)) call e =
    subst (IsBegun false waiting_guest.shape 2) (same_Some _ call e)
    (record {
      notes = Made false (opening_course waiting_guest).ideal (Read (Word ItsCtlr)) (FoundWord 0) ∷ Made false (opening_course waiting_guest).ideal ItsEnd Nothing ∷ [];
      answer = None;
      ended = ended_by waiting_guest.shape 2 _ None (λ id. refl) (signals_is _);
    })
signals_begun (suc (suc (suc n))) call e = absurd (none-some call e)

signals_none_refused : IsRefusedAfter waiting_guest signals_none 4
unfolding least_in with_level without_level
signals_none_refused = record {
  before = record {
    history = ((omega arith, refl), (record { within = refl; can = tt; allowed = refl; hands = refl }, ((omega arith, refl), (record { within = refl; can = (omega arith, refl); allowed = refl; hands = refl }, tt))));
    begun = signals_begun;
    acknowledge = refl;
    interface = refl;
    end = refl;
    deactivation = refl;
  };
  refused = λ is. true≢false (sym is.acknowledge);
}

pub open_refused : OpenCallsAreRefused
open_refused = record { read_twice = read_twice_refused; raises_another = raises_another_refused; raises_nothing = raises_nothing_refused; passes_by = passes_by_refused; signals_none = signals_none_refused }
