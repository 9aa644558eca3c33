-- An access that leaves a late interrupt behind owes a scan.
use Rattle.std.proofs.Common.{◌≡◌, ℕ, ◌==◌, ◌&&◌, true≢false, not, Bool, true, false, IsTrue, All, List, [], ◌∷◌, find, fold, Option, Some, None, is_some, refl, sym, ap, ◌∙◌, subst}
use Rattle.std.specs.Option.{option_map, option_map_or}
use Rattle.std.proofs.lemmas.Bool.{and_parts, eqb-true}
use Rattle.std.proofs.lemmas.Option.{none-some}
use Rattle.std.proofs.lemmas.List.Elements.{All-head, All-tail}
use Rattle.law_scans_miss_none.specs.Words.{IccReg, Key, GuestShape, is_pending}
use Rattle.law_scans_miss_none.specs.Calls.{Moved}
use Rattle.law_scans_miss_none.specs.Histories.{Turn, Track, doing_of, changes_of, is_late, is_open, last_since, Ideal, is_of, moved_at, irq_at}
use Rattle.law_scans_miss_none.specs.Registers.{CpuRec, deactivated_by}
use Rattle.law_scans_miss_none.specs.Core.{AtIrq, Local, entry_for, CoreState, seat_at}
use Rattle.law_scans_miss_none.specs.LawCoreIsHistory.Related.{IsCpuRelated, SeatSays, stands}
use Rattle.law_scans_miss_none.proofs.LawCoreIsHistory.CpuLemmas.{with_lpis, deactivated_lpis}
use Rattle.law_scans_miss_none.proofs.LawCoreIsHistory.StandingLemmas.{find_stands}
use Rattle.law_scans_miss_none.specs.Index.{owes_kick}
use Rattle.law_scans_miss_none.specs.Standing.{AreOwed, IsOwing}

-- what a late interrupt has at the vCPU's interface
pub record IsLateAt (ideal : Ideal) (local : Local) (key : Key) : Type 0 where
  pub entry : AtIrq
  pub there : entry_for key local.at ≡ Some entry
  pub active : entry.active ≡ true
  pub inactive : entry.pending ≡ false
  pub pending : is_pending (irq_at ideal.guest key) ≡ true

pub late_at : (ideal : Ideal) (track : Track) (vcpu : ℕ) (local : Local) (key : Key) → SeatSays ideal vcpu local → IsTrue (is_late ideal track vcpu key) → IsLateAt ideal local key
late_at ideal track vcpu local key says late = by_entry (entry_for key local.at) refl
  where
    moves : moved_at ideal vcpu key ≡ option_map (λ standing. record { irq = irq_at ideal.guest key; entry = standing.entry }) (option_map stands (entry_for key local.at))
    moves = ap (λ o. option_map (λ standing. record { irq = irq_at ideal.guest key; entry = standing.entry }) o) (ap (find (is_of key)) says.at ∙ find_stands key local.at)

    part : IsTrue (option_map_or (λ (moved : Moved). moved.entry.active && not moved.entry.pending && is_pending moved.irq) (moved_at ideal vcpu key) false)
    part = (and_parts (option_map_or (λ (moved : Moved). moved.entry.active && not moved.entry.pending && is_pending moved.irq) (moved_at ideal vcpu key) false) _ late).0

    inverse : (b : Bool) → IsTrue (not b) → b ≡ false
    inverse true h = absurd (true≢false (sym h))
    inverse false h = refl

    by_entry : (o : Option AtIrq) → entry_for key local.at ≡ o → IsLateAt ideal local key
    by_entry None e = absurd (true≢false (sym part ∙ ap (λ o. option_map_or (λ (moved : Moved). moved.entry.active && not moved.entry.pending && is_pending moved.irq) o false) (moves ∙ ap (λ o. option_map (λ standing. record { irq = irq_at ideal.guest key; entry = standing.entry }) (option_map stands o)) e)))
    by_entry (Some entry) e =
        let now : IsTrue (entry.active && not entry.pending && is_pending (irq_at ideal.guest key)) = sym (ap (λ o. option_map_or (λ (moved : Moved). moved.entry.active && not moved.entry.pending && is_pending moved.irq) o false) (moves ∙ ap (λ o. option_map (λ standing. record { irq = irq_at ideal.guest key; entry = standing.entry }) (option_map stands o)) e)) ∙ part in
        let first = and_parts (entry.active && not entry.pending) (is_pending (irq_at ideal.guest key)) now in
        let second = and_parts entry.active (not entry.pending) first.0 in
        record { entry = entry; there = e; active = second.0; inactive = inverse entry.pending second.1; pending = first.1 }

-- The last change since an interrupt got there.

-- the last of some turns is what all of them are
last_so : (P : Turn → Type 0) (turns : List Turn) (before : Option Turn) (turn : Turn) → fold (λ (last : Option Turn) (turn : Turn). Some turn) before turns ≡ Some turn → ((one : Turn) → before ≡ Some one → P one) → All P turns → P turn
last_so P [] before turn e first all = first turn e
last_so P (one ∷ turns) before turn e first all = last_so P turns (Some one) turn e (λ other same. subst P (some_is one other same) (All-head P one turns all)) (All-tail P one turns all)
  where
    some_is : (a b : Turn) → Some a ≡ Some b → a ≡ b
    some_is a b e = cc

-- where the vCPU owes itself no kick, each change being owed to it, a late interrupt was not changed
pub unchanged : (shape : GuestShape) (state : CoreState) (ideal : Ideal) (track : Track) (vcpu : ℕ) (key : Key) → ideal.guest.shape ≡ shape → AreOwed shape state track vcpu key → (IsTrue (owes_kick vcpu (seat_at state vcpu).local) → ⊥)
    → IsTrue (is_late ideal track vcpu key) → (changes_of shape track key).since ≡ []
unchanged shape state ideal track vcpu key same owed none late = of (changes_of shape track key).since refl
  where
    no_none : {T : Type 0} → (t : Turn) → None ≡ Some t → T
    no_none t e = absurd (none-some t e)

    closed : IsTrue (not (option_map_or (is_open track vcpu) (fold (λ (last : Option Turn) (turn : Turn). Some turn) None (changes_of shape track key).since) false))
    closed =
        subst (λ s. IsTrue (not (option_map_or (is_open track vcpu) (last_since (changes_of s track key)) false))) same
        (and_parts (option_map_or (λ (moved : Moved). moved.entry.active && not moved.entry.pending && is_pending moved.irq) (moved_at ideal vcpu key) false) (not (option_map_or (is_open track vcpu) (last_since (changes_of ideal.guest.shape track key)) false)) late).1

    -- a turn that owes the vCPU a kick is of another actor, in a call that goes on
    opens : (turn : Turn) → IsOwing shape state track vcpu turn → is_open track vcpu turn ≡ true
    opens turn owing = by_actor (turn.actor == vcpu) refl
      where
        joined : (a b c : Bool) → a ≡ true → (b && c) ≡ true → (a && b && c) ≡ true
        joined true b c e h = h
        joined false b c e h = absurd (true≢false (sym e))

        by_actor : (b : Bool) → (turn.actor == vcpu) ≡ b → is_open track vcpu turn ≡ true
        by_actor true e = absurd (none (subst (λ n. IsTrue (owes_kick vcpu (seat_at state n).local)) (eqb-true turn.actor vcpu e) owing.owes))
        by_actor false e = joined (not (turn.actor == vcpu)) (is_some (doing_of track turn.actor).operation) ((doing_of track turn.actor).number == turn.number) (ap not e) owing.current

    last_some : (turns : List Turn) (before : Turn) → (turn : Turn) × (fold (λ (last : Option Turn) (turn : Turn). Some turn) (Some before) turns ≡ Some turn)
    last_some [] before = (before, refl)
    last_some (one ∷ turns) before = last_some turns one

    of : (turns : List Turn) → (changes_of shape track key).since ≡ turns → turns ≡ []
    of [] e = refl
    of (one ∷ turns) e =
        let last = last_some turns one in
        let all : All (IsOwing shape state track vcpu) (one ∷ turns) = subst (All (IsOwing shape state track vcpu)) e owed in
        let owing = last_so (IsOwing shape state track vcpu) (one ∷ turns) None last.0 last.1 (λ t h. no_none t h) all in
        let last_is : fold (λ (last : Option Turn) (turn : Turn). Some turn) None (changes_of shape track key).since ≡ Some last.0 = ap (fold (λ (last : Option Turn) (turn : Turn). Some turn) None) e ∙ last.1 in
        absurd (true≢false (sym (sym (ap (λ o. not (option_map_or (is_open track vcpu) o false)) last_is) ∙ closed) ∙ ap not (opens last.0 owing)))

-- the vCPU's own copy of its record ends the same
pub own_ends : (own cpu : CpuRec) → IsCpuRelated own cpu → (reg : IccReg) (write : Option ℕ) → deactivated_by reg write own ≡ deactivated_by reg write cpu
own_ends own cpu related reg write = sym (deactivated_lpis cpu.lpis own reg write) ∙ ap (deactivated_by reg write) same
  where
    same : with_lpis cpu.lpis own ≡ cpu
    same = ap (with_lpis cpu.lpis) (sym related.same)
