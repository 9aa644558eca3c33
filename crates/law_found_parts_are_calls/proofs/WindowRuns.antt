-- For which vCPUs the LPIs are as each command of a call begins, and that its windows begin with that.
use Rattle.std.proofs.Common.{◌≡◌, ℕ, not, Bool, true, false, cond, IsTrue, List, [], ◌∷◌, ◌++◌, refl, sym, ap, ◌∙◌, subst}
use Rattle.std.specs.List.{list_all}
use Rattle.std.proofs.lemmas.Bool.{and_parts}
use Rattle.std.proofs.lemmas.List.{append-nil, append_assoc}
use Rattle.law_unmapped_lpis.specs.Calls.{Event, Enable, Runs, Done, Stalls, ItsBegin}
use Rattle.law_unmapped_lpis.specs.GicCall.declared.event.Event.TheVariants.{Queue}
use Rattle.law_unmapped_lpis.specs.Histories.{Ideal, happened, Call, targets_in}
use Rattle.law_serial_is_eager.proofs.LawEagerIsHistory.CourseLemmas.{call_after, state_after}
use Rattle.law_serial_is_eager.proofs.LawEagerIsHistory.WindowLemmas.{AreWindows, Targets, next_call, windows_done, windows_stalled, windows_within, is_no_turn}
use Rattle.law_found_parts_are_calls.proofs.TurnRuns.{is_ending}

-- for which vCPUs they are as each further command begins
abbrev pub begun_after : ℕ → List Event → Ideal → List Targets
begun_after actor [] state = []
begun_after actor (event ∷ events) state =
    let next = happened actor event state in cond (is_ending event) (targets_in next ∷ begun_after actor events next) (begun_after actor events next)

-- an event that does not store EnableLPIs
abbrev pub is_no_enable : Event → Bool
is_no_enable (Enable vcpu) = false
is_no_enable event = true

one_more : (actor : ℕ) (state : Ideal) (event : Event) (call : Call) (t : Targets) (firsts : List Targets) → is_no_enable event ≡ true → is_no_turn event ≡ true → AreWindows call t firsts
    → AreWindows (next_call state actor event call) t (firsts ++ cond (is_ending event) (targets_in (happened actor event state) ∷ []) [])
one_more actor state (Enable vcpu) call t firsts h n are = absurd (cc)
one_more actor state ItsBegin call t firsts h n are = absurd (cc)
one_more actor state (Queue offset (Done words)) call t firsts h n are = windows_done state actor call t firsts are offset words
one_more actor state (Queue offset (Stalls fault)) call t firsts h n are = windows_stalled state actor call t firsts are offset fault
one_more actor state (Queue offset Runs) call t firsts h n are = subst (AreWindows (next_call state actor (Queue offset Runs) call) t) (sym (append-nil firsts)) (windows_within state actor call t firsts are (Queue offset Runs) refl)
one_more actor state event call t firsts h n are = subst (AreWindows (next_call state actor event call) t) (sym (append-nil firsts)) (windows_within state actor call t firsts are event refl)

pub windows_along : (actor : ℕ) (events : List Event) (state : Ideal) (call : Call) (t : Targets) (firsts : List Targets) → IsTrue (list_all is_no_enable events) → IsTrue (list_all is_no_turn events) → AreWindows call t firsts
    → AreWindows (call_after actor events state call) t (firsts ++ begun_after actor events state)
windows_along actor [] state call t firsts h n are = subst (AreWindows call t) (sym (append-nil firsts)) are
windows_along actor (event ∷ events) state call t firsts h n are =
    let parts = and_parts (is_no_enable event) (list_all is_no_enable events) h in
    let turns = and_parts (is_no_turn event) (list_all is_no_turn events) n in
    let next = happened actor event state in
    let more = cond (is_ending event) (targets_in next ∷ []) [] in
    subst (AreWindows (call_after actor events next (next_call state actor event call)) t) (append_assoc firsts more (begun_after actor events next) ∙ ap (λ xs. firsts ++ xs) (joined (is_ending event)))
    (windows_along actor events next (next_call state actor event call) t (firsts ++ more) parts.1 turns.1 (one_more actor state event call t firsts parts.0 turns.0 are))
  where
    joined : (b : Bool) → cond b (targets_in (happened actor event state) ∷ []) [] ++ begun_after actor events (happened actor event state)
        ≡ cond b (targets_in (happened actor event state) ∷ begun_after actor events (happened actor event state)) (begun_after actor events (happened actor event state))
    joined true = refl
    joined false = refl

-- events that end no command come before
pub begun_past : (actor : ℕ) (first next : List Event) (state : Ideal) → IsTrue (list_all (λ event. not (is_ending event)) first) → begun_after actor (first ++ next) state ≡ begun_after actor next (state_after actor first state)
begun_past actor [] next state h = refl
begun_past actor (event ∷ first) next state h =
    let parts = and_parts (not (is_ending event)) (list_all (λ event. not (is_ending event)) first) h in
    let after = happened actor event state in
    of (is_ending event) parts.0 ∙ begun_past actor first next after parts.1
  where
    of : (b : Bool) → IsTrue (not b) → cond b (targets_in (happened actor event state) ∷ begun_after actor (first ++ next) (happened actor event state)) (begun_after actor (first ++ next) (happened actor event state)) ≡ begun_after actor (first ++ next) (happened actor event state)
    of true h = absurd (cc)
    of false h = refl

-- and one that ends a command
pub begun_end : (actor : ℕ) (event : Event) (next : List Event) (state : Ideal) → is_ending event ≡ true → begun_after actor (event ∷ next) state ≡ targets_in (happened actor event state) ∷ begun_after actor next (happened actor event state)
begun_end actor event next state e = ap (λ b. cond b (targets_in (happened actor event state) ∷ begun_after actor next (happened actor event state)) (begun_after actor next (happened actor event state))) e
