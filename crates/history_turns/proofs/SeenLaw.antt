-- What a call notes of an LPI goes on with each event.
use Rattle.std.proofs.Common.{◌≡◌, ℕ, Bool, true, false, cond, List, [], ◌∷◌, ◌++◌, Contains, Option, Some, IsTrue, refl, sym, ◌∙◌, subst, arith, inl, inr}
use Rattle.std.proofs.lemmas.List.Elements.{Contains-append_left, Contains-push, Contains-push_cases}
use Rattle.history_turns.specs.Words.{is_number}
use Rattle.history_turns.specs.Calls.{Event, Enable, Touch, ItsBegin, Done, Runs, Stalls}
use Rattle.history_turns.specs.GicCall.declared.event.Event.TheVariants.{Queue}
use Rattle.history_turns.specs.Histories.{Ideal, Call, made, seeing, noted as noted_by, targets_in, is_passed}
use Rattle.history_turns.specs.Laws.{NotesGoOn}
use Rattle.history_turns.specs.Noted.{IsSeen, nothing_seen, with_target, restarts, seen_on, seen_anew}
use Rattle.history_turns.specs.declared.noted.Seen.{Seen}
use Rattle.history_turns.proofs.PlaceLaw.{noted_place}
use Rattle.history_turns.proofs.RiseLaw.{number_is, number_not}

in_none : (target : Option ℕ) → Contains [] target → ⊥
in_none target h = absurd (omega (arith, h.1))

none_seen : (vcpu : ℕ) → IsSeen vcpu [] nothing_seen
none_seen vcpu = record { own = (λ h. absurd (cc), λ h. absurd (in_none (Some vcpu) h)); other = (λ h. absurd (cc), λ h. absurd (in_none h.0 h.1)) }

more_seen : (vcpu : ℕ) (targets : List (Option ℕ)) (target : Option ℕ) (seen : Seen) → IsSeen vcpu targets seen → IsSeen vcpu (targets ++ target ∷ []) (with_target vcpu target seen)
more_seen vcpu targets target seen is = of (is_number vcpu target) refl
  where
    After : Seen → Type 0
    After s = IsSeen vcpu (targets ++ target ∷ []) s

    old_own : (target ≡ Some vcpu → ⊥) → Contains (targets ++ target ∷ []) (Some vcpu) → IsTrue seen.is_own
    old_own differ h = elim (Contains-push_cases targets target (Some vcpu) h) [
      | inl c ↦ is.own.1 c
      | inr e ↦ absurd (differ e)
    ]

    old_other : target ≡ Some vcpu → (one : Option ℕ) → Contains (targets ++ target ∷ []) one → (one ≡ Some vcpu → ⊥) → IsTrue seen.is_other
    old_other same one h differ = elim (Contains-push_cases targets target one h) [
      | inl c ↦ is.other.1 (one, c, differ)
      | inr e ↦ absurd (differ (sym e ∙ same))
    ]

    of : (b : Bool) → is_number vcpu target ≡ b → After (cond b (record { is_own = true; is_other = seen.is_other }) (record { is_own = seen.is_own; is_other = true }))
    of true e =
        let same = number_is vcpu target e in
        record {
          own = (λ h. subst (Contains (targets ++ target ∷ [])) same (Contains-push targets target), λ h. refl);
          other = (
            λ h. let one = is.other.0 h in (one.0, Contains-append_left targets (target ∷ []) one.0 one.1, one.2),
            λ h. old_other same h.0 h.1 h.2,
          );
        }
    of false e =
        let differ = number_not vcpu target e in
        record {
          own = (λ h. Contains-append_left targets (target ∷ []) (Some vcpu) (is.own.0 h), old_own differ);
          other = (λ h. (target, Contains-push targets target, differ), λ h. refl);
        }

on_seen : (vcpu id : ℕ) (place : Option ℕ) (targets : List (Option ℕ)) (target : Option ℕ) (seen : Seen) → IsSeen vcpu targets seen → IsSeen vcpu (cond (is_passed place id) targets (targets ++ target ∷ [])) (seen_on vcpu place id target seen)
on_seen vcpu id place targets target seen is = of (is_passed place id)
  where
    of : (b : Bool) → IsSeen vcpu (cond b targets (targets ++ target ∷ [])) (cond b seen (with_target vcpu target seen))
    of true = is
    of false = more_seen vcpu targets target seen is

anew_seen : (vcpu id : ℕ) (before : Ideal) (event : Event) (call : Call) (seen : Seen) → IsSeen vcpu (call.targets id) seen → IsSeen vcpu ((noted_by before event call).targets id) (seen_anew call.place event id seen)
anew_seen vcpu id before (Enable other) call seen is = none_seen vcpu
anew_seen vcpu id before (Touch key touching) call seen is = of (restarts call.place (Touch key touching) id)
  where
    of : (b : Bool) → IsSeen vcpu (cond b [] (call.targets id)) (cond b nothing_seen seen)
    of true = none_seen vcpu
    of false = is
anew_seen vcpu id before ItsBegin call seen is = is
anew_seen vcpu id before (Queue offset Runs) call seen is = is
anew_seen vcpu id before (Queue offset (Done words)) call seen is = is
anew_seen vcpu id before (Queue offset (Stalls fault)) call seen is = is
anew_seen vcpu id before event call seen is = is

pub notes_on : NotesGoOn
notes_on = record {
  begins = λ ideal operation vcpu id. more_seen vcpu [] (targets_in ideal id) nothing_seen (none_seen vcpu);
  goes_on = λ vcpu id call seen is. record {
    own = λ before after event found.
        subst (λ place. IsSeen vcpu ((seeing after (made before event found call)).targets id) (seen_on vcpu place id (targets_in after id) (seen_anew call.place event id seen))) (noted_place before event call)
        (on_seen vcpu id (noted_by before event call).place ((noted_by before event call).targets id) (targets_in after id) (seen_anew call.place event id seen) (anew_seen vcpu id before event call seen is));
    other = λ after. on_seen vcpu id call.place (call.targets id) (targets_in after id) seen is;
  };
}
