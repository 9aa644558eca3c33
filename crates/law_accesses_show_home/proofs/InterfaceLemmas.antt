-- What stands at an interface, as it shows it and as it is once it is taken back.
use Rattle.std.proofs.Common.{◌≡◌, ℕ, ◌==◌, ◌&&◌, ◌||◌, not, inl, inr, true≢false, Bool, true, false, cond, IsTrue, List, [], ◌∷◌, map, Contains, Option, Some, None, is_none, refl, sym, ap, ◌∙◌, subst, arith}
use Rattle.std.specs.List.{list_any}
use Rattle.std.proofs.lemmas.Bool.{and_parts, and_from, eq-eqb}
use Rattle.std.proofs.lemmas.Grind.{common_steps}
use Rattle.law_home_commutes.specs.Words.{Key, GuestShape, intid_of, Irq, is_forwarded, is_number, is_pending, is_ripe, target_in}
use Rattle.law_home_commutes.specs.Registers.{Candidate, CpuRec, is_before, is_deliverable, is_group_enabled, takes_kind, AtInterface, candidate_of, candidates_at}
use Rattle.law_home_commutes.specs.Calls.{Entry, left}
use Rattle.law_home_commutes.specs.Histories.{irq_at, cpu_at, has_left_all, Ideal, Standing, standing_at, is_of, shown_at, interface_at}
use Rattle.law_home_commutes.proofs.LawHistories.StandLemmas.{of_key, standing_of_key}
use Rattle.law_home_commutes.proofs.SpotLemmas.{IsThere}
use Rattle.law_scans_miss_none.proofs.VcpuRefill.ElementLemmas.{Contains-cases, Contains-here, Contains-map, Contains-nothing, map_cases}
use Rattle.law_scans_miss_none.proofs.VcpuRefill.StandLemmas.{in_filter_map, from_filter_map}
use Rattle.law_scans_miss_none.specs.LawRegistersStand.Followed.{Followed}
use Rattle.law_accesses_show_home.specs.Stay.{IsAsReached, IsWhollyThere}
use Rattle.law_accesses_show_home.proofs.ListLemmas.{filtered_from}

-- Records.

-- a record taken back with all the causes that an interface has of it is as with these
back_ripe : (irq : Irq) (entry : Entry) (vcpu w : ℕ) (shape : GuestShape) → irq.rise ≡ false → irq.soft ≡ false → IsTrue (is_ripe (record irq { rise = entry.rise; soft = entry.soft }) vcpu shape) → IsTrue (is_ripe (left w (record { irq = irq; entry = entry })) vcpu shape)
back_ripe irq entry vcpu w shape rise soft ripe =
    subst (λ b. IsTrue (is_ripe (record irq { rise = b; soft = irq.soft || entry.soft }) vcpu shape)) (ap (λ b. b || entry.rise) (sym rise))
    (subst (λ b. IsTrue (is_ripe (record irq { rise = entry.rise; soft = b }) vcpu shape)) (ap (λ b. b || entry.soft) (sym soft)) ripe)

-- one that is not pending at the interface has no cause there, so what is pending once it is taken back is in the record
back_pending : (irq : Irq) (entry : Entry) (w : ℕ) → IsTrue (entry.pending || not (entry.rise || entry.soft)) → entry.pending ≡ false → is_pending (left w (record { irq = irq; entry = entry })) ≡ true → is_pending irq ≡ true
back_pending irq entry w causes unpending h = grind (arith, common_steps, causes, unpending, h)

-- two candidates with one INTID are one, and else one is before the other
pub same_id : (a b : Candidate) → is_before a b ≡ false → is_before b a ≡ false → a.id ≡ b.id
same_id a b h k = grind (arith, common_steps, h, k)

-- an interrupt as it is shown
abbrev pub as_shown : Ideal → Standing → Candidate
as_shown state standing = record { id = intid_of standing.key; prio = (irq_at state.guest standing.key).prio; group = (irq_at state.guest standing.key).group }

-- What stands at a vCPU's interface.

module _ (shape : GuestShape) (at : Followed) (vcpu : ℕ) where
  abbrev state : Ideal
  state = at.ideal

  abbrev cpu : CpuRec
  cpu = cpu_at state.guest vcpu

  abbrev interface : List Candidate
  interface = candidates_at (interface_at state vcpu)

  pub record IsOne (c : Candidate) : Type 0 where
    pub standing : Standing
    pub among_it : Contains (standing_at state vcpu) standing
    pub pending : standing.entry.pending ≡ true
    pub inactive : standing.entry.active ≡ false
    pub enabled : IsTrue (is_group_enabled (irq_at state.guest standing.key).group cpu)
    pub is : as_shown at.ideal standing ≡ c

  -- a candidate at the interface
  pub from_interface : (c : Candidate) → Contains interface c → IsOne c
  from_interface c h = of (from_filter_map (candidate_of cpu) (map (shown_at state) (standing_at state vcpu)) c h)
    where
      of : (one : AtInterface) × Contains (map (shown_at state) (standing_at state vcpu)) one × (candidate_of cpu one ≡ Some c) → IsOne c
      of (one, has, e) = by (map_cases (shown_at state) (standing_at state vcpu) one has)
        where
          by : (standing : Standing) × Contains (standing_at state vcpu) standing × (shown_at state standing ≡ one) → IsOne c
          by (standing, there, same) = test (standing.entry.pending && not standing.entry.active && is_group_enabled (irq_at state.guest standing.key).group cpu) refl (ap (candidate_of cpu) same ∙ e)
            where
              test : (b : Bool) → (standing.entry.pending && not standing.entry.active && is_group_enabled (irq_at state.guest standing.key).group cpu) ≡ b → cond b (Some (as_shown at.ideal standing)) None ≡ Some c → IsOne c
              test false t h = absurd (cc)
              test true t h =
                  let parts = and_parts (standing.entry.pending && not standing.entry.active) (is_group_enabled (irq_at state.guest standing.key).group cpu) t in
                  let two = and_parts standing.entry.pending (not standing.entry.active) parts.0 in
                  record { standing = standing; among_it = there; pending = two.0; inactive = not_true standing.entry.active two.1; enabled = parts.1; is = some_same (as_shown at.ideal standing) c h }
                where
                  some_same : (x y : Candidate) → Some x ≡ Some y → x ≡ y
                  some_same x y h = cc

                  not_true : (b : Bool) → IsTrue (not b) → b ≡ false
                  not_true true h = absurd (cc)
                  not_true false h = refl

  pub to_interface : (standing : Standing) → Contains (standing_at state vcpu) standing → standing.entry.pending ≡ true → standing.entry.active ≡ false → IsTrue (is_group_enabled (irq_at state.guest standing.key).group cpu) → Contains interface (as_shown at.ideal standing)
  to_interface standing there pending inactive enabled =
      in_filter_map (candidate_of cpu) (map (shown_at state) (standing_at state vcpu)) (shown_at state standing) (as_shown at.ideal standing) (Contains-map (shown_at state) (standing_at state vcpu) standing there)
      (ap (λ (b : Bool). cond b (Some (as_shown at.ideal standing)) None)
      (and_from (standing.entry.pending && not standing.entry.active) (is_group_enabled (irq_at state.guest standing.key).group cpu) (and_from standing.entry.pending (not standing.entry.active) pending (ap not inactive)) enabled))

  -- one that is pending there with all its causes is deliverable once it is taken back
  pub delivers_back : (c : Candidate) (one : IsOne c) → IsWhollyThere shape state vcpu one.standing → IsTrue (is_deliverable one.standing.key (left vcpu (record { irq = irq_at state.guest one.standing.key; entry = one.standing.entry })) vcpu cpu shape)
  delivers_back c one wholly =
      let key = one.standing.key in
      let entry = one.standing.entry in
      let irq = irq_at state.guest key in
      let back : Irq = left vcpu (record { irq = irq; entry = entry }) in
      let none : is_none back.act_by ≡ true = ap (λ (b : Bool). is_none (cond b (Some vcpu) None)) one.inactive in
      let ripe = back_ripe irq entry vcpu vcpu shape wholly.no_rise wholly.no_soft wholly.ripe in
      and_from (is_ripe back vcpu shape && is_none back.act_by && is_group_enabled back.group cpu) (takes_kind key cpu)
      (and_from (is_ripe back vcpu shape && is_none back.act_by) (is_group_enabled back.group cpu) (and_from (is_ripe back vcpu shape) (is_none back.act_by) ripe none) one.enabled) wholly.kind

  -- nothing is to leave
  none_leaves : (w : ℕ) (key : Key) → IsTrue (has_left_all at.track w) → Contains at.track.leaving (w, key) → ⊥
  none_leaves w key gone h = true≢false (sym gone ∙ ap not (among_any at.track.leaving h))
    where
      among_any : (list : List (ℕ × Key)) → Contains list (w, key) → list_any (λ (pair : ℕ × Key). pair.0 == w) list ≡ true
      among_any [] h = absurd (Contains-nothing (w, key) h)
      among_any (pair ∷ list) h = elim (Contains-cases pair (w, key) list h) [
        | inl e ↦ ap (λ b. b || list_any (λ (p : ℕ × Key). p.0 == w) list) (eq-eqb pair.0 w (ap (λ (p : ℕ × Key). p.0) e))
        | inr later ↦ or_later (pair.0 == w) (list_any (λ (p : ℕ × Key). p.0 == w) list) (among_any list later)
      ]
        where
          or_later : (a b : Bool) → b ≡ true → (a || b) ≡ true
          or_later true b h = refl
          or_later false b h = h

  same_number : (a b : ℕ) (o : Option ℕ) → is_number a o ≡ true → is_number b o ≡ true → a ≡ b
  same_number a b None h k = absurd (cc)
  same_number a b (Some n) h k = grind (arith, common_steps, h, k)

  -- one that stands somewhere and is deliverable with all taken back is a candidate at the interface
  pub stands_among : (key : Key) (w : ℕ) (entry : Entry) → IsThere shape key (of_key state key) (record { vcpu = w; entry = entry }) → IsAsReached shape at w (standing_of_key key entry) → IsTrue (has_left_all at.track w) → IsTrue (is_deliverable key (left w (record { irq = irq_at state.guest key; entry = entry })) vcpu cpu shape) → Contains interface (as_shown at.ideal (standing_of_key key entry))
  stands_among key w entry is reached gone h = of entry.pending refl
    where
      irq : Irq
      irq = irq_at state.guest key

      back : Irq
      back = left w (record { irq = irq_at state.guest key; entry = entry })

      rest_is : IsTrue (is_ripe back vcpu shape && is_none back.act_by && is_group_enabled back.group cpu)
      rest_is = (and_parts (is_ripe back vcpu shape && is_none back.act_by && is_group_enabled back.group cpu) (takes_kind key cpu) h).0

      enabled : IsTrue (is_group_enabled back.group cpu)
      enabled = (and_parts (is_ripe back vcpu shape && is_none back.act_by) (is_group_enabled back.group cpu) rest_is).1

      two : IsTrue (is_ripe back vcpu shape) × IsTrue (is_none back.act_by)
      two = and_parts (is_ripe back vcpu shape) (is_none back.act_by) (and_parts (is_ripe back vcpu shape && is_none back.act_by) (is_group_enabled back.group cpu) rest_is).0

      inactive : entry.active ≡ false
      inactive = by entry.active two.1
        where
          by : (b : Bool) → IsTrue (is_none (cond b (Some w) None)) → b ≡ false
          by true h = absurd (cc)
          by false h = refl

      ripe_parts : (i : Irq) (v : ℕ) → IsTrue (is_ripe i v shape) → IsTrue (is_pending i) × IsTrue (is_number v (target_in i.route shape))
      ripe_parts i v r =
          let first = and_parts (is_pending i && i.enabled && is_forwarded i) (is_number v (target_in i.route shape)) r in
          ((and_parts (is_pending i) i.enabled (and_parts (is_pending i && i.enabled) (is_forwarded i) first.0).0).0, first.1)

      of : (b : Bool) → entry.pending ≡ b → Contains interface (as_shown at.ideal (standing_of_key key entry))
      of false e = absurd (none_leaves w key gone (reached.leaves e inactive (back_pending irq entry w is.entry.causes e (ripe_parts back vcpu two.0).0)))
      of true e =
          let same : w ≡ vcpu = same_number w vcpu (target_in irq.route shape) (ripe_parts (record irq { rise = entry.rise; soft = entry.soft }) w (reached.pending e).ripe).1 (ripe_parts back vcpu two.0).1 in
          let here : of_key state key vcpu ≡ standing_of_key key entry ∷ [] = subst (λ v. of_key state key v ≡ standing_of_key key entry ∷ []) same is.here in
          to_interface (standing_of_key key entry) (filtered_from (is_of key) (standing_at state vcpu) (standing_of_key key entry) (subst (λ l. Contains l (standing_of_key key entry)) (sym here) (Contains-here (standing_of_key key entry) []))) e inactive enabled
