-- An access of a CPU interface in a proper run: where it asks for the first interrupt its vCPU may ask, and it looked at one that it ends.
use Rattle.std.proofs.Common.{◌≡◌, ℕ, ◌||◌, ◌&&◌, true≢false, not, Bool, true, false, IsTrue, List, Option, Some, None, unwrap_or, refl, sym, ap, ◌∙◌, subst}
use Rattle.std.specs.Option.{option_map_or}
use Rattle.std.proofs.lemmas.Bool.{and_parts}
use Rattle.law_lone_calls_are_eager.specs.Words.{IccReg, Iar0, Iar1, Hppir0, Hppir1, Eoir0, Eoir1, Dir, Key, GuestShape, has_interrupt, is_number}
use Rattle.law_lone_calls_are_eager.specs.Histories.{asks_first, ended_by as ended_in, IdealGuest, CanOpen}
use Rattle.law_lone_accesses_find_all.specs.Core.{Local, Made, Poll, Irq as IrqWord, vcpu_of, is_at, CoreState, opening, end_of_moments, makes, CoreMoment, Progress, Debt, paid, after_end, before_next, ended_by, is_end_of, is_paid, progress_in, asks_first as asks_by, may_access}
use Rattle.law_lone_accesses_find_all.specs.LawScansMissNone.Far.{HasLookedFar}
use Rattle.law_lone_accesses_find_all.specs.LawScansMissNone.First.{MayAsk}
use Rattle.law_lone_accesses_find_all.specs.LawScansMissNone.Waiting.{record_in}
use Rattle.law_lone_accesses_find_all.proofs.LawScansMissNone.RunFrame.{IsNextOf}
use Rattle.law_lone_accesses_find_all.proofs.LawLateOnesLeave.PollLemmas.{IsPolled, polled, seat_so}
use Rattle.law_lone_accesses_find_all.proofs.AskLemmas.{not_folding}
use Rattle.law_lone_accesses_find_all.proofs.LoneRuns.{ended_there}

-- What an access asks for, and what it ends.

asks_no_end : (shape : GuestShape) (vcpu : ℕ) (reg : IccReg) (write : Option ℕ) → asks_first reg write ≡ true → ended_by shape vcpu reg write ≡ None
asks_no_end shape vcpu Iar0 None h = refl
asks_no_end shape vcpu Iar1 None h = refl
asks_no_end shape vcpu Hppir0 None h = refl
asks_no_end shape vcpu Hppir1 None h = refl
asks_no_end shape vcpu reg write h = absurd (true≢false (sym h))

asks_so : (reg : IccReg) (write : Option ℕ) → asks_first reg write ≡ true → asks_by reg ≡ true
asks_so Iar0 None h = refl
asks_so Iar1 None h = refl
asks_so Hppir0 None h = refl
asks_so Hppir1 None h = refl
asks_so reg write h = absurd (true≢false (sym h))

ends_same : (shape : GuestShape) (vcpu : ℕ) (reg : IccReg) (write : Option ℕ) (key : Key) → ended_in shape vcpu reg write ≡ Some key → ended_by shape vcpu reg write ≡ Some key
ends_same shape vcpu Eoir0 (Some value) key e = e
ends_same shape vcpu Eoir1 (Some value) key e = e
ends_same shape vcpu Dir (Some value) key e = e
ends_same shape vcpu reg write key e = absurd (cc)

paid_so : (debt : Debt) → IsTrue (may_access debt None) → IsTrue (is_paid debt)
paid_so paid h = refl
paid_so after_end h = absurd (cc)
paid_so before_next h = absurd (cc)

scanned_so : (trapping asks scanned : Bool) → asks ≡ true → IsTrue (not (trapping && asks) || scanned) → IsTrue (not trapping || scanned)
scanned_so true true scanned e h = h
scanned_so false asks scanned e h = refl
scanned_so true false scanned e h = absurd (true≢false (sym e))

inactive_so : (far : Option Bool) → IsTrue (not (unwrap_or far true)) → far ≡ Some false
inactive_so None h = absurd (cc)
inactive_so (Some true) h = absurd (cc)
inactive_so (Some false) h = refl

right_of : (a b : Bool) → a ≡ false → IsTrue (a || b) → IsTrue b
right_of false b e h = h
right_of true b e h = absurd (true≢false e)

-- The access.

module _ (guest : IdealGuest) (number : ℕ) (early : List CoreMoment) (v : ℕ) (made : Made) (reg : IccReg) (write : Option ℕ) (good : CanOpen guest) (next : IsNextOf guest number early v (makes made)) (step_is : made.step ≡ Poll (Some reg) write) (unkicked : (vcpu_of made.found).kick ≡ false) where
  abbrev shape : GuestShape
  shape = guest.shape

  abbrev state : CoreState
  state = end_of_moments guest.shape (opening guest number) early

  abbrev p : Progress
  p = progress_in guest number early v

  polls : IsPolled shape state v p reg write
  polls = polled guest number v good early made next reg write step_is unkicked

  pub may_ask : asks_first reg write ≡ true → MayAsk shape state v p
  may_ask asks = record {
    unkicked = polls.free;
    none_failed = polls.none_failed;
    loaded = polls.loaded;
    paid = paid_so p.debt (subst (λ o. IsTrue (may_access p.debt o)) (asks_no_end shape v reg write asks) polls.proper.refill);
    scanned = scanned_so p.trapping (asks_by reg) p.scanned (asks_so reg write asks) polls.proper.trap;
  }

  pub looked_far : (key : Key) → ended_in shape v reg write ≡ Some key → (record_in shape state key).holder ≡ None → HasLookedFar shape state v p key
  looked_far key named none =
      let is : IsTrue (has_interrupt shape key) = ended_there shape v reg write key named in
      let away : is_at key p.local.at ≡ false = ap (λ (l : Local). is_at key l.at) (seat_so guest number v good early made next).local ∙ sym (next.at.sound.ties v (IrqWord key) next.acts.there is) ∙ ap (is_number v) none in
      let far : IsTrue (is_at key p.local.at || (is_end_of shape v p.operation key && not (unwrap_or p.far true))) =
      subst (λ o. IsTrue (option_map_or (λ key. is_at key p.local.at || (is_end_of shape v p.operation key && not (unwrap_or p.far true))) o true)) (ends_same shape v reg write key named) polls.proper.far in
      let both = and_parts (is_end_of shape v p.operation key) (not (unwrap_or p.far true)) (right_of (is_at key p.local.at) (is_end_of shape v p.operation key && not (unwrap_or p.far true)) away far) in
      record {
        there = is;
        unkicked = polls.free;
        stays = not_folding p.local.phase polls.ready;
        none_failed = polls.none_failed;
        ends = both.0;
        inactive = inactive_so p.far both.1;
      }
