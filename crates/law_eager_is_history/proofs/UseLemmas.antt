-- What an access makes of the interrupt that it uses, alone at the interface, is what the eager controller makes of it.
use Rattle.std.proofs.Common.{◌≡◌, ℕ, ◌==◌, Bool, true, false, not, ◌&&◌, ◌||◌, cond, IsTrue, if◌then◌else◌, List, [], ◌∷◌, map, Option, Some, None, is_none, refl, sym, ap, ◌∙◌}
use Rattle.std.specs.Prelude.{option_and_then}
use Rattle.std.specs.Option.{option_map_or}
use Rattle.std.proofs.lemmas.Bool.{and_parts, eq-eqb}
use Rattle.std.proofs.lemmas.Option.{same_Some}
use Rattle.floor_histories.specs.Words.{IccReg, Iar0, Iar1, Hppir0, Hppir1, Eoir0, Eoir1, Dir, Key, GuestShape, has_interrupt, intid_of, key_of, G0, G1, Irq, acknowledged, cleared, deactivated, has_active_state, is_number, is_ripe}
use Rattle.floor_histories.specs.Registers.{Candidate, CpuRec, is_signalled, taken_by, activated_by, deactivated_by, answer_of, cpu_after, takes_kind, first_of, is_group_enabled, is_deliverable, AtInterface, InterfaceState, candidates_at, interface_after, interface_answer, acknowledged_at, deactivated_at, acknowledged_entry, deactivated_entry, is_same_group, intid_read, intid_written, ended, eoir_deactivates, dir_deactivates}
use Rattle.std.specs.List.{filter_map}
use Rattle.floor_histories.proofs.GicPrio.AccessLemmas.{taken_first}
use Rattle.floor_histories.proofs.GicPrio.FirstLemmas.{before_itself}
use Rattle.floor_histories.specs.Calls.{Entry, Moved, may_reach, reached, left, at_interface}
use Rattle.floor_histories.specs.Histories.{IdealGuest, irq_at, cpu_at, changed_irq, candidates, after_acknowledge, after_deactivation, access_answer, standing_of, asks_first, ended_by}
use Rattle.floor_histories.proofs.IdealGuests.CandidateLemmas.{IsCandidateOf, deliverable_inactive}
use Rattle.floor_histories.proofs.IdealGuests.KeyLemmas.{key_intid}
use Rattle.law_eager_is_history.proofs.StandLemmas.{as_it_is}

-- What an access takes of the candidates is by the first of them alone.

abbrev pub PicksFirst : (List Candidate) → (List Candidate) → Type 0
PicksFirst cs ds = first_of cs ≡ first_of ds

pub same_taken : (reg : IccReg) (write : Option ℕ) (cpu : CpuRec) (cs ds : List Candidate) → PicksFirst cs ds → taken_by reg write cpu cs ≡ taken_by reg write cpu ds
same_taken Iar0 None cpu cs ds e = ap (λ o. option_and_then (λ (first : Candidate). if is_same_group first.group G0 && is_signalled first.prio first.group cpu then Some first else None) o) e
same_taken Iar1 None cpu cs ds e = ap (λ o. option_and_then (λ (first : Candidate). if is_same_group first.group G1 && is_signalled first.prio first.group cpu then Some first else None) o) e
same_taken reg write cpu cs ds e = refl

pub same_answer : (reg : IccReg) (write : Option ℕ) (cpu : CpuRec) (cs ds : List Candidate) → PicksFirst cs ds → answer_of reg write cpu cs ≡ answer_of reg write cpu ds
same_answer Iar0 None cpu cs ds e = ap (λ o. Some (intid_read o)) (same_taken Iar0 None cpu cs ds e)
same_answer Iar1 None cpu cs ds e = ap (λ o. Some (intid_read o)) (same_taken Iar1 None cpu cs ds e)
same_answer Hppir0 None cpu cs ds e = ap (λ o. Some (intid_read (option_and_then (λ (first : Candidate). if is_same_group first.group G0 then Some first else None) o))) e
same_answer Hppir1 None cpu cs ds e = ap (λ o. Some (intid_read (option_and_then (λ (first : Candidate). if is_same_group first.group G1 then Some first else None) o))) e
same_answer reg None cpu cs ds e = refl
same_answer reg (Some value) cpu cs ds e = refl

pub same_cpu : (reg : IccReg) (write : Option ℕ) (cpu : CpuRec) (cs ds : List Candidate) → PicksFirst cs ds → cpu_after reg write cpu cs ≡ cpu_after reg write cpu ds
same_cpu reg None cpu cs ds e = ap (λ o. activated_by o cpu) (same_taken reg None cpu cs ds e)
same_cpu reg (Some value) cpu cs ds e = refl

-- an access that asks for the first deactivates nothing, and one that does not takes nothing and does not go by candidates
pub asking_ends_none : (reg : IccReg) (write : Option ℕ) (cpu : CpuRec) → asks_first reg write ≡ true → deactivated_by reg write cpu ≡ None
asking_ends_none Iar0 None cpu h = refl
asking_ends_none Iar1 None cpu h = refl
asking_ends_none Hppir0 None cpu h = refl
asking_ends_none Hppir1 None cpu h = refl
asking_ends_none Eoir0 (Some value) cpu h = absurd (cc)
asking_ends_none Eoir1 (Some value) cpu h = absurd (cc)
asking_ends_none Dir (Some value) cpu h = absurd (cc)
asking_ends_none reg write cpu h = refl

pub asking_names_none : (shape : GuestShape) (vcpu : ℕ) (reg : IccReg) (write : Option ℕ) → asks_first reg write ≡ true → ended_by shape vcpu reg write ≡ None
asking_names_none shape vcpu Iar0 None h = refl
asking_names_none shape vcpu Iar1 None h = refl
asking_names_none shape vcpu Hppir0 None h = refl
asking_names_none shape vcpu Hppir1 None h = refl
asking_names_none shape vcpu Eoir0 (Some value) h = absurd (cc)
asking_names_none shape vcpu Eoir1 (Some value) h = absurd (cc)
asking_names_none shape vcpu Dir (Some value) h = absurd (cc)
asking_names_none shape vcpu reg write h = refl

pub other_takes_none : (reg : IccReg) (write : Option ℕ) (cpu : CpuRec) (cs : List Candidate) → asks_first reg write ≡ false → taken_by reg write cpu cs ≡ None
other_takes_none Iar0 None cpu cs h = absurd (cc)
other_takes_none Iar1 None cpu cs h = absurd (cc)
other_takes_none reg write cpu cs h = refl

pub other_answer : (reg : IccReg) (write : Option ℕ) (cpu : CpuRec) (cs ds : List Candidate) → asks_first reg write ≡ false → answer_of reg write cpu cs ≡ answer_of reg write cpu ds
other_answer Iar0 None cpu cs ds h = absurd (cc)
other_answer Iar1 None cpu cs ds h = absurd (cc)
other_answer Hppir0 None cpu cs ds h = absurd (cc)
other_answer Hppir1 None cpu cs ds h = absurd (cc)
other_answer reg None cpu cs ds h = refl
other_answer reg (Some value) cpu cs ds h = refl

pub other_cpu : (reg : IccReg) (write : Option ℕ) (cpu : CpuRec) (cs ds : List Candidate) → asks_first reg write ≡ false → cpu_after reg write cpu cs ≡ cpu_after reg write cpu ds
other_cpu reg None cpu cs ds h = ap (λ o. activated_by o cpu) (other_takes_none reg None cpu cs h ∙ sym (other_takes_none reg None cpu ds h))
other_cpu reg (Some value) cpu cs ds h = refl

-- what an access deactivates it names
cond_named : (b : Bool) (id id' : ℕ) → cond b (Some id) None ≡ Some id' → id ≡ id'
cond_named true id id' e = same_Some id id' e
cond_named false id id' e = absurd (cc)

pub ended_named : (shape : GuestShape) (vcpu : ℕ) (reg : IccReg) (write : Option ℕ) (cpu : CpuRec) (id : ℕ) → deactivated_by reg write cpu ≡ Some id → ended_by shape vcpu reg write ≡ key_of id vcpu shape
ended_named shape vcpu Eoir0 (Some value) cpu id e = ap (λ n. key_of n vcpu shape) (cond_named (eoir_deactivates G0 (intid_written value) cpu) (intid_written value) id e)
ended_named shape vcpu Eoir1 (Some value) cpu id e = ap (λ n. key_of n vcpu shape) (cond_named (eoir_deactivates G1 (intid_written value) cpu) (intid_written value) id e)
ended_named shape vcpu Dir (Some value) cpu id e = ap (λ n. key_of n vcpu shape) (cond_named (dir_deactivates (intid_written value) cpu) (intid_written value) id e)
ended_named shape vcpu reg write cpu id e = absurd (cc)

-- The interrupt at the interface.

or_none : (b : Bool) → (b || false) ≡ b
or_none true = refl
or_none false = refl

pub first_alone : (one : Candidate) → first_of (one ∷ []) ≡ Some one
first_alone one = ap (λ b. cond {A = Option Candidate} (not (b || false)) (Some one) None) (before_itself one)

-- the interface with an interrupt alone
abbrev pub alone : IdealGuest → ℕ → Key → InterfaceState
alone guest vcpu key = record { cpu = cpu_at guest vcpu; at = at_interface key (reached (irq_at guest key)) ∷ [] }

-- what the access does to it
pub record IsUse (guest : IdealGuest) (vcpu : ℕ) (key : Key) (reg : IccReg) (write : Option ℕ) : Type 0 where
  pub there : IsTrue (has_interrupt guest.shape key)
  pub may : IsTrue (may_reach guest.shape key (irq_at guest key) vcpu (cpu_at guest vcpu))
  pub entry : Entry
  pub stays : map standing_of (interface_after reg write (alone guest vcpu key)).at ≡ (record { key = key; entry = entry }) ∷ []
  pub cpu : (interface_after reg write (alone guest vcpu key)).cpu ≡ cpu_after reg write (cpu_at guest vcpu) (candidates guest vcpu)
  pub answer : interface_answer reg write (alone guest vcpu key) ≡ access_answer reg write guest vcpu
  pub leaves : changed_irq key (λ before. left vcpu (record { irq = (reached before).irq; entry = entry })) guest
      ≡ after_deactivation (deactivated_by reg write (cpu_at guest vcpu)) (after_acknowledge (taken_by reg write (cpu_at guest vcpu) (candidates guest vcpu)) guest vcpu) vcpu
  pub ends : (id : ℕ) → deactivated_by reg write (cpu_at guest vcpu) ≡ Some id → key_of id vcpu guest.shape ≡ Some key

-- The first that is deliverable.

module _ (guest : IdealGuest) (vcpu : ℕ) (key : Key) (reg : IccReg) (write : Option ℕ) (found : Candidate) (first : first_of (candidates guest vcpu) ≡ Some found) (of : IsCandidateOf guest vcpu found key) (named : key_of found.id vcpu guest.shape ≡ Some key) (asks : asks_first reg write ≡ true) where
  pub first_inactive : reached (irq_at guest key) ≡ record { irq = cleared (irq_at guest key); entry = record { pending = true; active = false; rise = (irq_at guest key).rise; soft = (irq_at guest key).soft } }
  first_inactive =
      let irq = irq_at guest key in
      let away : Moved = record { irq = cleared irq; entry = record { pending = true; active = false; rise = irq.rise; soft = irq.soft } } in
      let here : Moved = record { irq = irq; entry = record { pending = false; active = true; rise = false; soft = false } } in
      ap (λ (o : Option ℕ). cond (is_none o) away here) (deliverable_inactive key irq vcpu (cpu_at guest vcpu) guest.shape of.deliverable)

  waits : AtInterface
  waits = at_interface key (record { irq = cleared (irq_at guest key); entry = record { pending = true; active = false; rise = (irq_at guest key).rise; soft = (irq_at guest key).soft } })

  group_on : is_group_enabled (irq_at guest key).group (cpu_at guest vcpu) ≡ true
  group_on = enabled (is_ripe (irq_at guest key) vcpu guest.shape) (is_none (irq_at guest key).act_by) (is_group_enabled (irq_at guest key).group (cpu_at guest vcpu)) (takes_kind key (cpu_at guest vcpu)) of.deliverable
    where
      enabled : (a b c d : Bool) → (a && b && c && d) ≡ true → c ≡ true
      enabled true true c d h = (and_parts c d h).0
      enabled true false c d h = absurd (cc)
      enabled false b c d h = absurd (cc)

  found_is : Candidate
  found_is = record { id = intid_of key; prio = (irq_at guest key).prio; group = (irq_at guest key).group }

  candidate_is : found ≡ record { id = intid_of key; prio = (irq_at guest key).prio; group = (irq_at guest key).group }
  candidate_is =
      ap (λ (id : ℕ). let c : Candidate = record found { id = id } in c) of.id
      ∙ ap (λ (prio : ℕ). let c : Candidate = record found { id = intid_of key; prio = prio } in c) of.prio
      ∙ ap (λ group. let c : Candidate = record found { id = intid_of key; prio = (irq_at guest key).prio; group = group } in c) of.group

  pub only_candidate : candidates_at (alone guest vcpu key) ≡ found ∷ []
  only_candidate =
      let one : Candidate = record { id = intid_of key; prio = (irq_at guest key).prio; group = (irq_at guest key).group } in
      ap (λ (moved : Moved). candidates_at (record { cpu = cpu_at guest vcpu; at = at_interface key moved ∷ [] })) first_inactive
      ∙ ap (λ b. filter_map (λ (x : Option Candidate). x) (cond b (Some one) None ∷ [])) group_on
      ∙ ap (λ c. c ∷ []) (sym candidate_is)

  pub same_first : PicksFirst (candidates_at (alone guest vcpu key)) (candidates guest vcpu)
  same_first = ap first_of only_candidate ∙ first_alone found ∙ sym first

  ends_none : deactivated_by reg write (cpu_at guest vcpu) ≡ None
  ends_none = asking_ends_none reg write (cpu_at guest vcpu) asks

  -- a record that got to the interface, without its causes, and left with an entry
  abbrev back_with : Entry → Irq
  back_with entry = left vcpu (record { irq = cleared (irq_at guest key); entry = entry })

  reach_may : IsTrue (may_reach guest.shape key (irq_at guest key) vcpu (cpu_at guest vcpu))
  reach_may = right_of (is_number vcpu (irq_at guest key).act_by) of.deliverable
    where
      right_of : (a : Bool) {b : Bool} → b ≡ true → (a || b) ≡ true
      right_of true h = refl
      right_of false h = h

  used_with :
      (taken : Option Candidate) (entry : Entry) → taken_by reg write (cpu_at guest vcpu) (candidates guest vcpu) ≡ taken → map standing_of (acknowledged_at taken (waits ∷ [])) ≡ (record { key = key; entry = entry }) ∷ []
      → changed_irq key (λ before. back_with entry) guest ≡ after_acknowledge taken guest vcpu → IsUse guest vcpu key reg write
  unfolding waits
  used_with taken entry e stays leaves =
      let cpu = cpu_at guest vcpu in
      let one = alone guest vcpu key in
      let same : taken_by reg write cpu (candidates_at one) ≡ taken = same_taken reg write cpu (candidates_at one) (candidates guest vcpu) same_first ∙ e in
      record {
        there = of.there;
        may = reach_may;
        entry = entry;
        stays = ap (λ d. map standing_of (deactivated_at d (acknowledged_at (taken_by reg write cpu (candidates_at one)) one.at))) ends_none
            ∙ ap (λ t. map standing_of (acknowledged_at t one.at)) same
            ∙ ap (λ (moved : Moved). map standing_of (acknowledged_at taken (at_interface key moved ∷ []))) first_inactive
            ∙ stays;
        cpu = same_cpu reg write cpu (candidates_at one) (candidates guest vcpu) same_first;
        answer = same_answer reg write cpu (candidates_at one) (candidates guest vcpu) same_first;
        leaves = ap (λ (moved : Moved). changed_irq key (λ before. left vcpu (record { irq = moved.irq; entry = entry })) guest) first_inactive
            ∙ leaves
            ∙ ap (λ t. after_acknowledge t guest vcpu) (sym e)
            ∙ ap (λ d. after_deactivation d (after_acknowledge (taken_by reg write cpu (candidates guest vcpu)) guest vcpu) vcpu) (sym ends_none);
        ends = λ id h. absurd (none_some id (sym ends_none ∙ h));
      }
    where
      none_some : (id : ℕ) → None ≡ Some id → ⊥
      none_some id h = cc

  pub first_used : IsUse guest vcpu key reg write
  unfolding waits
  first_used = used (taken_by reg write (cpu_at guest vcpu) (candidates guest vcpu)) refl
    where
      used : (taken : Option Candidate) → taken_by reg write (cpu_at guest vcpu) (candidates guest vcpu) ≡ taken → IsUse guest vcpu key reg write
      used None e =
          let irq = irq_at guest key in
          let inactive = deliverable_inactive key irq vcpu (cpu_at guest vcpu) guest.shape of.deliverable in
          let same : (let i : Irq = record irq { act_by = None } in i) ≡ irq = ap (λ (o : Option ℕ). let i : Irq = record irq { act_by = o } in i) (sym inactive) in
          used_with None (record { pending = true; active = false; rise = irq.rise; soft = irq.soft }) e refl
          (ap (λ (i : Irq). changed_irq key (λ before. i) guest) same ∙ ap (λ irqs. let g : IdealGuest = record guest { irqs = irqs } in g) (as_it_is guest.shape key guest.irqs))
      used (Some f) e =
          let irq = irq_at guest key in
          let same : f ≡ found = same_Some f found (sym (taken_first reg write (cpu_at guest vcpu) (candidates guest vcpu) f e) ∙ first) in
          let is : (intid_of key == f.id) ≡ true = eq-eqb (intid_of key) f.id (sym (ap (λ (c : Candidate). c.id) same ∙ of.id)) in
          let name : key_of f.id vcpu guest.shape ≡ Some key = ap (λ (c : Candidate). key_of c.id vcpu guest.shape) same ∙ named in
          used_with (Some f) (record { pending = false; active = has_active_state key; rise = false; soft = false }) e
          (ap (λ b. map standing_of (cond b (acknowledged_entry waits) waits ∷ [])) is)
          (ap (λ o. option_map_or (λ k. changed_irq k (acknowledged k vcpu) guest) o guest) (sym name))

-- One that is active, and that the access names.

module _ (guest : IdealGuest) (vcpu : ℕ) (key : Key) (reg : IccReg) (write : Option ℕ) (there : IsTrue (has_interrupt guest.shape key)) (active : (irq_at guest key).act_by ≡ Some vcpu) (named : ended_by guest.shape vcpu reg write ≡ Some key) (asks : asks_first reg write ≡ false) where
  stays_active : reached (irq_at guest key) ≡ record { irq = irq_at guest key; entry = record { pending = false; active = true; rise = false; soft = false } }
  stays_active =
      let irq = irq_at guest key in
      let away : Moved = record { irq = cleared irq; entry = record { pending = true; active = false; rise = irq.rise; soft = irq.soft } } in
      let here : Moved = record { irq = irq; entry = record { pending = false; active = true; rise = false; soft = false } } in
      ap (λ (o : Option ℕ). cond (is_none o) away here) active

  runs : AtInterface
  runs = at_interface key (record { irq = irq_at guest key; entry = record { pending = false; active = true; rise = false; soft = false } })

  active_may : IsTrue (may_reach guest.shape key (irq_at guest key) vcpu (cpu_at guest vcpu))
  active_may = ap (λ b. b || is_deliverable key (irq_at guest key) vcpu (cpu_at guest vcpu) guest.shape) (ap (is_number vcpu) active ∙ eq-eqb vcpu vcpu refl)

  ended_with :
      (ended : Option ℕ) (entry : Entry) → deactivated_by reg write (cpu_at guest vcpu) ≡ ended → map standing_of (deactivated_at ended (runs ∷ [])) ≡ (record { key = key; entry = entry }) ∷ []
      → changed_irq key (λ before. left vcpu (record { irq = irq_at guest key; entry = entry })) guest ≡ after_deactivation ended guest vcpu → ((id : ℕ) → ended ≡ Some id → key_of id vcpu guest.shape ≡ Some key)
      → IsUse guest vcpu key reg write
  unfolding runs
  ended_with ended entry e stays leaves ends =
      let cpu = cpu_at guest vcpu in
      let one = alone guest vcpu key in
      record {
        there = there;
        may = active_may;
        entry = entry;
        stays = ap (λ t. map standing_of (deactivated_at (deactivated_by reg write cpu) (acknowledged_at t one.at))) (other_takes_none reg write cpu (candidates_at one) asks)
            ∙ ap (λ d. map standing_of (deactivated_at d one.at)) e
            ∙ ap (λ (moved : Moved). map standing_of (deactivated_at ended (at_interface key moved ∷ []))) stays_active
            ∙ stays;
        cpu = other_cpu reg write cpu (candidates_at one) (candidates guest vcpu) asks;
        answer = other_answer reg write cpu (candidates_at one) (candidates guest vcpu) asks;
        leaves = ap (λ (moved : Moved). changed_irq key (λ before. left vcpu (record { irq = moved.irq; entry = entry })) guest) stays_active
            ∙ leaves
            ∙ ap (λ d. after_deactivation d guest vcpu) (sym e)
            ∙ ap (λ t. after_deactivation (deactivated_by reg write cpu) (after_acknowledge t guest vcpu) vcpu) (sym (other_takes_none reg write cpu (candidates guest vcpu) asks));
        ends = λ id h. ends id (sym e ∙ h);
      }

  pub active_used : IsUse guest vcpu key reg write
  unfolding runs
  active_used = used (deactivated_by reg write (cpu_at guest vcpu)) refl
    where
      -- what comes back without causes
      back : (act : Option ℕ) → (let i : Irq = record (irq_at guest key) { rise = (irq_at guest key).rise || false; soft = (irq_at guest key).soft || false; act_by = act } in i) ≡ record (irq_at guest key) { act_by = act }
      back act =
          let irq = irq_at guest key in
          ap (λ b. let i : Irq = record irq { rise = b; soft = irq.soft || false; act_by = act } in i) (or_none irq.rise) ∙ ap (λ b. let i : Irq = record irq { soft = b; act_by = act } in i) (or_none irq.soft)

      used : (ended : Option ℕ) → deactivated_by reg write (cpu_at guest vcpu) ≡ ended → IsUse guest vcpu key reg write
      used None e =
          let irq = irq_at guest key in
          let same : (let i : Irq = record irq { act_by = Some vcpu } in i) ≡ irq = ap (λ (o : Option ℕ). let i : Irq = record irq { act_by = o } in i) (sym active) in
          ended_with None (record { pending = false; active = true; rise = false; soft = false }) e refl
          (ap (λ (i : Irq). changed_irq key (λ before. i) guest) (back (Some vcpu) ∙ same) ∙ ap (λ irqs. let g : IdealGuest = record guest { irqs = irqs } in g) (as_it_is guest.shape key guest.irqs))
          (λ id h. absurd (cc))
      used (Some id) e =
          let irq = irq_at guest key in
          let name : key_of id vcpu guest.shape ≡ Some key = sym (ended_named guest.shape vcpu reg write (cpu_at guest vcpu) id e) ∙ named in
          let is : (intid_of key == id) ≡ true = eq-eqb (intid_of key) id (key_intid id vcpu guest.shape key name) in
          let ends : (let i : Irq = record irq { act_by = None } in i) ≡ deactivated vcpu irq = sym (ap (λ b. let i : Irq = cond b (record irq { act_by = None }) irq in i) (ap (is_number vcpu) active ∙ eq-eqb vcpu vcpu refl)) in
          ended_with (Some id) (record { pending = false; active = false; rise = false; soft = false }) e
          (ap (λ b. map standing_of (cond b (deactivated_entry runs) runs ∷ [])) is)
          (ap (λ (i : Irq). changed_irq key (λ before. i) guest) (back None ∙ ends) ∙ ap (λ o. option_map_or (λ k. changed_irq k (deactivated vcpu) guest) o guest) (sym name))
          (λ other h. ap (λ n. key_of n vcpu guest.shape) (sym (same_Some id other h)) ∙ name)
