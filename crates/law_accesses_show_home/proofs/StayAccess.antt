-- What an access of a CPU interface leaves of what stands there as it was reached.
use Rattle.std.proofs.Common.{◌≡◌, ℕ, ◌<◌, ◌==◌, ◌&&◌, ◌||◌, ◌⊎◌, not, inl, inr, true≢false, Bool, true, false, cond, IsTrue, List, [], ◌∷◌, map, fold, length, Contains, Option, option_map, option_and_then, Some, None, if◌then◌else◌, refl, sym, ap, ◌∙◌, subst, arith}
use Rattle.std.specs.Option.{option_map_or}
use Rattle.std.proofs.lemmas.Bool.{cases_eq, and_from, eqb-true}
use Rattle.std.proofs.lemmas.List.{get_or-set_other}
use Rattle.std.proofs.lemmas.List.Elements.{Contains-append_right}
use Rattle.std.proofs.lemmas.Grind.{common_steps}
use Rattle.law_home_commutes.specs.Words.{IccReg, Iar0, Iar1, Eoir0, Eoir1, Dir, Key, Private, Spi, Lpi, GuestShape, interrupt_count, intid_of, key_of, IsShape, Irq, has_active_state, is_pending, is_of_kind}
use Rattle.law_home_commutes.specs.Registers.{Candidate, CpuRec, taken_by, deactivated_by, cpu_after, takes_kind, AtInterface, acknowledged_entry, candidates_at, deactivated_entry}
use Rattle.law_home_commutes.specs.Calls.{Cpu, Found, Happens, Entry, Moved, at_interface, entry_of, CanHappen}
use Rattle.law_home_commutes.specs.Histories.{irq_at, cpu_at, Turn, changes_of, is_late, is_open, last_since, left_behind, Standing, interface_at}
use Rattle.law_home_commutes.proofs.LawHistories.LatchMoves.{acked, ended}
use Rattle.law_home_commutes.proofs.LawHistories.StandLemmas.{of_key, standing_of_key}
use Rattle.law_home_commutes.proofs.AccessLemmas.{access, here_is, other_is}
use Rattle.law_home_commutes.proofs.CpuLemmas.{named_own}
use Rattle.law_home_commutes.proofs.SpotLemmas.{Spot, IsSpot, IsThere, IsTidy, entry_found}
use Rattle.law_scans_miss_none.proofs.VcpuRefill.ElementLemmas.{Contains-here}
use Rattle.law_scans_miss_none.proofs.LawCoreIsHistory.CpuLemmas.{after_lpis}
use Rattle.law_scans_miss_none.specs.LawRegistersStand.Followed.{Followed, follows}
use Rattle.law_scans_miss_none.proofs.TrackLemmas.{subject}
use Rattle.law_accesses_show_home.specs.Stay.{IsAsReached}
use Rattle.law_accesses_show_home.proofs.StayEvents.{AllAsReached, stays, leaves_still, since_is}
use Rattle.law_accesses_show_home.proofs.StayLemmas.{there_so, stored_cases}

-- An access either acknowledges or ends.

none_ended : (reg : IccReg) (cpu : CpuRec) → deactivated_by reg None cpu ≡ None
none_ended Eoir0 cpu = refl
none_ended Eoir1 cpu = refl
none_ended Dir cpu = refl
none_ended reg cpu = refl

none_taken : (reg : IccReg) (value : ℕ) (cpu : CpuRec) (among : List Candidate) → taken_by reg (Some value) cpu among ≡ None
none_taken Iar0 value cpu among = refl
none_taken Iar1 value cpu among = refl
none_taken reg value cpu among = refl

-- it leaves EnableLPIs
kind_after : (key : Key) (reg : IccReg) (write : Option ℕ) (cpu : CpuRec) (among : List Candidate) → IsTrue (takes_kind key cpu) → IsTrue (takes_kind key (cpu_after reg write cpu among))
kind_after (Private v id) reg write cpu among h = refl
kind_after (Spi id) reg write cpu among h = refl
kind_after (Lpi id) reg write cpu among h = ap (λ (c : CpuRec). c.lpis) (after_lpis cpu.lpis cpu reg write among) ∙ h

-- what has no active state is not pending without a latched cause
edge_quiet : (key : Key) (irq : Irq) → IsTrue (is_of_kind key irq) → has_active_state key ≡ false → irq.rise ≡ false → irq.soft ≡ false → is_pending irq ≡ false
edge_quiet (Private v id) irq kind h rise soft = absurd (true≢false h)
edge_quiet (Spi id) irq kind h rise soft = absurd (true≢false h)
edge_quiet (Lpi id) irq kind h rise soft = grind (arith, common_steps, kind, rise, soft)

-- an entry that is not active where there is no active state
never_active : (key : Key) (entry : Entry) → IsTrue (not entry.active || has_active_state key) → has_active_state key ≡ false → entry.active ≡ false
never_active key entry is h = of entry.active (subst (λ b. IsTrue (not entry.active || b)) h is)
  where
    of : (b : Bool) → IsTrue (not b || false) → b ≡ false
    of true h = absurd (cc)
    of false h = refl

either : (reg : IccReg) (write : Option ℕ) (cpu : CpuRec) (among : List Candidate) → (taken_by reg write cpu among ≡ None) ⊎ (deactivated_by reg write cpu ≡ None)
either reg None cpu among = inr (none_ended reg cpu)
either reg (Some value) cpu among = inl (none_taken reg value cpu among)

one_standing : (a b : Standing) → a ∷ [] ≡ b ∷ [] → a.entry ≡ b.entry
one_standing a b e = ap (λ (s : Standing). s.entry) (first a b e)
  where
    first : (x y : Standing) → x ∷ [] ≡ y ∷ [] → x ≡ y
    first x y e = cc

module _ (shape : GuestShape) (good : IsShape shape) (at : Followed) (tidy : IsTidy shape at.ideal) (each : length at.track.changes ≡ interrupt_count shape) (before : AllAsReached shape at) (actor : ℕ) (w : ℕ) (reg : IccReg) (write : Option ℕ) (found : Found) (can : CanHappen shape (Cpu w reg write)) where
  few : w < shape.vcpus
  few = can.0

  abbrev after : Followed
  after = follows at (Happens actor (Cpu w reg write) found)

  abbrev cpu : CpuRec
  cpu = cpu_at at.ideal.guest w

  abbrev taken_now : Option Candidate
  taken_now = taken_by reg write cpu (candidates_at (interface_at at.ideal w))

  abbrev ended_now : Option ℕ
  ended_now = deactivated_by reg write cpu

  leaving_still : (pair : ℕ × Key) → Contains at.track.leaving pair → Contains after.track.leaving pair
  leaving_still pair h = leaves_still shape good at tidy each before actor (Cpu w reg write) found can pair refl h

  not_of : (key : Key) → subject (Cpu w reg write) ≡ Some key → ⊥
  not_of key e = cc

  -- the record of the CPU interface takes the kinds that it took
  takes_on : (key : Key) (vcpu : ℕ) → IsTrue (takes_kind key (cpu_at at.ideal.guest vcpu)) → IsTrue (takes_kind key (cpu_at after.ideal.guest vcpu))
  takes_on key vcpu h = elim (cases_eq vcpu w) [
    | inl e ↦ subst (λ v. IsTrue (takes_kind key (cpu_at after.ideal.guest v))) (sym e)
        (let here : IsTrue (takes_kind key cpu) = subst (λ v. IsTrue (takes_kind key (cpu_at at.ideal.guest v))) e h in
        stored_cases (λ c. IsTrue (takes_kind key c)) at.ideal.guest.cpus w w (cpu_after reg write cpu (candidates_at (interface_at at.ideal w))) _ (kind_after key reg write cpu (candidates_at (interface_at at.ideal w)) here) here)
    | inr differ ↦ subst (λ c. IsTrue (takes_kind key c)) (sym (get_or-set_other at.ideal.guest.cpus w vcpu (cpu_after reg write cpu (candidates_at (interface_at at.ideal w))) _ differ)) h
  ]

  -- One that stands at the interface of the access.

  module _ (key : Key) (old : Entry) (was : of_key at.ideal key w ≡ standing_of_key key old ∷ []) (none : (changes_of shape after.track key).since ≡ []) where
    at_it : IsThere shape key (of_key at.ideal key) (record { vcpu = w; entry = old })
    at_it = there_so shape at.ideal tidy key w old was

    abbrev irq : Irq
    irq = irq_at at.ideal.guest key

    none_before : (changes_of shape at.track key).since ≡ []
    none_before = sym (since_is shape good at tidy each before actor (Cpu w reg write) found can key) ∙ none

    was_so : IsAsReached shape at w (standing_of_key key old)
    was_so = before key w old was none_before

    kept : IsAsReached shape after w (standing_of_key key old)
    kept = stays shape good at tidy each before actor (Cpu w reg write) found can key w old at_it.there (not_of key) refl (takes_on key w) (leaving_still (w, key)) was none

    abbrev Goal : Entry → Type 0
    Goal entry = IsAsReached shape after w (standing_of_key key entry)

    abbrev one : AtInterface
    one = at_interface key (record { irq = irq; entry = old })

    -- it is acknowledged, and has no active state
    acknowledged_leaves : has_active_state key ≡ false → is_pending irq ≡ true → Contains after.track.leaving (w, key)
    acknowledged_leaves a h = of old.pending refl
      where
        of : (b : Bool) → old.pending ≡ b → Contains after.track.leaving (w, key)
        of true e = let wholly = was_so.pending e in absurd (true≢false (sym h ∙ edge_quiet key irq (tidy.records key at_it.there).valid.kind a wholly.no_rise wholly.no_soft))
        of false e = leaving_still (w, key) (was_so.leaves e (never_active key old at_it.entry.kind a) h)

    acked_so : (f : Candidate) → Goal (entry_of (acked (Some f) one))
    acked_so f = of (intid_of key == f.id)
      where
        of : (b : Bool) → Goal (entry_of (cond b (acknowledged_entry one) one))
        of false = kept
        of true = record { pending = λ p. absurd (true≢false (sym p)); leaves = λ p a h. acknowledged_leaves a h }

    -- it is ended, and pending in its record alone
    late : (id : ℕ) → ended_now ≡ Some id → intid_of key ≡ id → old.active ≡ true → old.pending ≡ false → is_pending irq ≡ true → Contains (left_behind at.ideal at.track (Cpu w reg write)) (w, key)
    late id is same active unpending h =
        subst (λ (l : List (ℕ × Key)). Contains l (w, key)) (sym (ap (λ o. option_map_or behind (option_and_then (λ i. key_of i w at.ideal.guest.shape) o) []) is ∙ ap (λ o. option_map_or behind o []) named ∙ ap (λ (b : Bool). cond b ((w, key) ∷ []) []) is_it)) (Contains-here (w, key) [])
      where
        behind : Key → List (ℕ × Key)
        behind k = if is_late at.ideal at.track w k then (w, k) ∷ [] else []

        named : key_of id w at.ideal.guest.shape ≡ Some key
        named = subst (λ (s : GuestShape). key_of id w s ≡ Some key) (sym tidy.shape_is) (subst (λ i. key_of i w shape ≡ Some key) same (named_own shape key w good few at_it.there at_it.own))

        no_last : last_since (changes_of at.ideal.guest.shape at.track key) ≡ None
        no_last = ap (λ (s : GuestShape). last_since (changes_of s at.track key)) tidy.shape_is ∙ ap (λ (turns : List Turn). fold (λ (last : Option Turn) turn. Some turn) None turns) none_before

        is_it : is_late at.ideal at.track w key ≡ true
        is_it =
            and_from _ _
            (ap (λ (o : Option Standing). option_map_or (λ (moved : Moved). moved.entry.active && not moved.entry.pending && is_pending moved.irq) (option_map (λ (standing : Standing). let m : Moved = record { irq = irq; entry = standing.entry } in m) o) false) (entry_found at.ideal key w old was)
            ∙ and_from (old.active && not old.pending) (is_pending irq) (and_from old.active (not old.pending) active (ap not unpending)) h)
            (ap (λ o. not (option_map_or (is_open at.track w) o false)) no_last)

    ended_so : (id : ℕ) → ended_now ≡ Some id → Goal (entry_of (ended (Some id) one))
    ended_so id is = of (intid_of key == id) refl
      where
        leaves_so : intid_of key ≡ id → old.pending ≡ false → is_pending irq ≡ true → Contains after.track.leaving (w, key)
        leaves_so same p h = by old.active refl
          where
            by : (b : Bool) → old.active ≡ b → Contains after.track.leaving (w, key)
            by false e = leaving_still (w, key) (was_so.leaves p e h)
            by true e = Contains-append_right at.track.leaving (left_behind at.ideal at.track (Cpu w reg write)) (w, key) (late id is same e p h)

        of : (b : Bool) → (intid_of key == id) ≡ b → Goal (entry_of (cond b (deactivated_entry one) one))
        of false e = kept
        of true e = record {
          pending = λ p. let wholly = was_so.pending p in record { no_rise = wholly.no_rise; no_soft = wholly.no_soft; ripe = wholly.ripe; kind = takes_on key w wholly.kind };
          leaves = λ p a h. leaves_so (eqb-true (intid_of key) id e) p h;
        }

    each_so : (t : Option Candidate) (d : Option ℕ) → ended_now ≡ d → (t ≡ None) ⊎ (d ≡ None) → Goal (entry_of (ended d (acked t one)))
    each_so None None is which = kept
    each_so (Some f) None is which = acked_so f
    each_so None (Some id) is which = ended_so id is
    each_so (Some f) (Some id) is which = absurd (elim which [ inl e ↦ some_none f e | inr e ↦ none_id id e ])
      where
        some_none : (c : Candidate) → Some c ≡ None → ⊥
        some_none c e = cc

        none_id : (n : ℕ) → Some n ≡ None → ⊥
        none_id n e = cc

    pub accessed_so : Goal (entry_of (ended ended_now (acked taken_now one)))
    accessed_so = each_so taken_now ended_now refl (either reg write cpu (candidates_at (interface_at at.ideal w)))

  pub access_stays : AllAsReached shape after
  access_stays key vcpu entry here none = elim (cases_eq vcpu w) [
    | inr differ ↦
        let was = sym (other_is shape at.ideal tidy w few actor reg write key vcpu differ) ∙ here in
        stays shape good at tidy each before actor (Cpu w reg write) found can key vcpu entry (there_so shape at.ideal tidy key vcpu entry was).there (not_of key) refl (takes_on key vcpu) (leaving_still (vcpu, key)) was none
    | inl e ↦ subst (λ v. IsAsReached shape after v (standing_of_key key entry)) (sym e) (at_spot (subst (λ v. of_key after.ideal key v ≡ standing_of_key key entry ∷ []) e here) (tidy.placed key).spot (tidy.placed key).is)
  ]
    where
      nowhere : of_key after.ideal key w ≡ standing_of_key key entry ∷ [] → of_key at.ideal key w ≡ [] → ⊥
      nowhere h empty = let e = sym (here_is shape at.ideal tidy w few actor reg write key ∙ ap (map (access shape at.ideal tidy w few actor reg write)) empty) ∙ h in cc

      at_spot : of_key after.ideal key w ≡ standing_of_key key entry ∷ [] → (spot : Option Spot) → IsSpot shape key (of_key at.ideal key) spot → IsAsReached shape after w (standing_of_key key entry)
      at_spot h None is = absurd (nowhere h (is w))
      at_spot h (Some one) is = elim (cases_eq w one.vcpu) [
        | inr differ ↦ absurd (nowhere h (is.elsewhere w differ))
        | inl same ↦
            let was : of_key at.ideal key w ≡ standing_of_key key one.entry ∷ [] = subst (λ v. of_key at.ideal key v ≡ standing_of_key key one.entry ∷ []) (sym same) is.here in
            subst (λ (n : Entry). IsAsReached shape after w (standing_of_key key n))
            (one_standing (access shape at.ideal tidy w few actor reg write (standing_of_key key one.entry)) (standing_of_key key entry) (sym (here_is shape at.ideal tidy w few actor reg write key ∙ ap (map (access shape at.ideal tidy w few actor reg write)) was) ∙ h))
            (accessed_so key one.entry was none)
      ]
