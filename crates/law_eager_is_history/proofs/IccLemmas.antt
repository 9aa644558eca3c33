-- Calls of CPU interface registers.
use Rattle.std.proofs.Common.{◌≡◌, ℕ, ◌<◌, Bool, true, false, not, cond, IsTrue, All, List, [], ◌∷◌, ◌++◌, map, replicate, Option, Some, None, refl, sym, ap, ◌∙◌, subst, arith, true≢false}
use Rattle.std.specs.Prelude.{option_and_then}
use Rattle.std.specs.List.{list_all}
use Rattle.std.specs.Option.{option_map_or}
use Rattle.std.proofs.lemmas.Option.{same_Some}
use Rattle.std.proofs.lemmas.List.{append_assoc, map-append}
use Rattle.std.proofs.lemmas.List.Elements.{filter-append, All-cons, All-nil, All-tail, Contains-append_left}
use Rattle.std.proofs.lemmas.Grind.{common_steps}
use Rattle.floor_histories.specs.Words.{IccReg, Iar0, Iar1, Eoir0, Eoir1, Dir, Sgi1r, Key, Private, Icc, GuestShape, has_interrupt, key_of, deactivated, is_number}
use Rattle.floor_histories.specs.Registers.{intid_of, is_target, Candidate, taken_by, deactivated_by, first_of, candidates_at, intid_written}
use Rattle.floor_histories.specs.Calls.{is_usable, Event, Cpu, Access, sgi_at, icc_raises, Happened, HandsOut, IsLastRead, IsIccCall, IsCall, held_at, is_beside, named_of, HappensFreely, View}
use Rattle.floor_histories.specs.GicCall.declared.event.Event.TheVariants.{Raise}
use Rattle.floor_histories.specs.GicCall.declared.event.Found.TheVariants.{Answer}
use Rattle.floor_histories.proofs.GicCall.CallLemmas.{icc_valid}
use Rattle.floor_histories.specs.Histories.{IdealGuest, irq_at, cpu_at, changed_irq, candidates, after_acknowledge, after_deactivation, access_answer, view_of, after_events, IsSound, Ideal, asks_first, ended_by, begun, targets_in, happened}
use Rattle.floor_histories.specs.IdealGuests.Ideal.{after_access}
use Rattle.floor_histories.proofs.IdealGuests.CandidateLemmas.{first_was}
use Rattle.floor_histories.proofs.IdealGuests.KeyLemmas.{key_there, shape_access}
use Rattle.gic_ideal.specs.Deeds.{op_events}
use Rattle.law_eager_is_history.specs.Moments.{first_key, active_key, used_by, between_moves, op_made, op_read, settled, happenings, moment_of}
use Rattle.law_eager_is_history.proofs.CourseLemmas.{state_after, state_append, AreFine, fine_append, happenings_append, call_after}
use Rattle.law_eager_is_history.proofs.FreshLemmas.{IsFreshFrom, quiet_then}
use Rattle.law_eager_is_history.proofs.WindowLemmas.{heads_of, is_within, is_no_turn, call_ends, windows_after, operation_after, piece_after, maps_after, beside_with}
use Rattle.law_eager_is_history.proofs.ReadLemmas.{HandOut, named_own, all_hand_out, events_of}
use Rattle.law_eager_is_history.proofs.EventLemmas.{is_plain, is_calm, all_calm, all_of, all_found, settled_quiet, plain_state, plain_are_fine, shape_events, settled_with}
use Rattle.law_eager_is_history.proofs.StandLemmas.{as_it_is}
use Rattle.law_eager_is_history.proofs.UseLemmas.{asking_ends_none, asking_names_none, other_takes_none, other_cpu, other_answer, same_taken, same_cpu, same_answer, ended_named, same_first, first_used, active_used}
use Rattle.law_eager_is_history.proofs.FirstLemmas.{none_comes, none_before}
use Rattle.law_eager_is_history.proofs.CpuLemmas.{IsSegment, shows_alone, used_segment, unused_segment}
use Rattle.law_eager_is_history.proofs.CallLemmas.{IsGoodCall, is_vcpu, begun_windows, no_maps}
use Rattle.law_eager_is_history.proofs.PieceLemmas.{all_weaker}
use Rattle.law_eager_is_history.proofs.QueueLemmas.{keeps_queue, order_events}
use Rattle.law_eager_is_history.proofs.OrderLemmas.{order_access}
use Rattle.gic_ideal.proofs.SoundEvents.{sound_event}

-- Which interrupt an access uses.

number_is : (n : ℕ) (o : Option ℕ) → is_number n o ≡ true → o ≡ Some n
number_is n None e = absurd (cc)
number_is n (Some m) e = ap Some (grind (arith, common_steps, e))

ended_there : (shape : GuestShape) (vcpu : ℕ) (reg : IccReg) (write : Option ℕ) (key : Key) → ended_by shape vcpu reg write ≡ Some key → IsTrue (has_interrupt shape key)
ended_there shape vcpu Eoir0 (Some value) key e = key_there (intid_written value) vcpu shape key e
ended_there shape vcpu Eoir1 (Some value) key e = key_there (intid_written value) vcpu shape key e
ended_there shape vcpu Dir (Some value) key e = key_there (intid_written value) vcpu shape key e
ended_there shape vcpu reg write key e = absurd (cc)

module _ (guest : IdealGuest) (sound : IsSound guest) (vcpu : ℕ) (there : vcpu < guest.shape.vcpus) (reg : IccReg) (write : Option ℕ) (usable : IsTrue (is_usable reg write)) where
  -- a deactivation of what is not active by the vCPU changes nothing
  ends_nothing : asks_first reg write ≡ false → ((k : Key) → ended_by guest.shape vcpu reg write ≡ Some k → is_number vcpu (irq_at guest k).act_by ≡ false)
      → after_deactivation (deactivated_by reg write (cpu_at guest vcpu)) (after_acknowledge (taken_by reg write (cpu_at guest vcpu) (candidates guest vcpu)) guest vcpu) vcpu ≡ guest
  ends_nothing asks far =
      ap (λ t. after_deactivation (deactivated_by reg write (cpu_at guest vcpu)) (after_acknowledge t guest vcpu) vcpu) (other_takes_none reg write (cpu_at guest vcpu) (candidates guest vcpu) asks)
      ∙ of (deactivated_by reg write (cpu_at guest vcpu)) refl
    where
      one : (o : Option Key) → ((k : Key) → o ≡ Some k → is_number vcpu (irq_at guest k).act_by ≡ false) → option_map_or (λ k. changed_irq k (deactivated vcpu) guest) o guest ≡ guest
      one None h = refl
      one (Some k) h =
          ap (λ b. let g : IdealGuest = changed_irq k (λ irq. cond b (record irq { act_by = None }) irq) guest in g) (h k refl)
          ∙ ap (λ irqs. let g : IdealGuest = record guest { irqs = irqs } in g) (as_it_is guest.shape k guest.irqs)

      of : (o : Option ℕ) → deactivated_by reg write (cpu_at guest vcpu) ≡ o → after_deactivation o guest vcpu ≡ guest
      of None e = refl
      of (Some id) e = one (key_of id vcpu guest.shape) (λ k h. far k (ended_named guest.shape vcpu reg write (cpu_at guest vcpu) id e ∙ h))

  pub segment : IsSegment guest vcpu reg write (between_moves vcpu (used_by guest vcpu reg write) (Cpu vcpu reg write))
  segment = of (asks_first reg write) refl
    where
      asking : asks_first reg write ≡ true → (o : Option Candidate) → first_of (candidates guest vcpu) ≡ o → IsSegment guest vcpu reg write (between_moves vcpu (option_and_then (λ first. key_of first.id vcpu guest.shape) o) (Cpu vcpu reg write))
      asking asks None e =
          let cpu = cpu_at guest vcpu in
          let cs = candidates guest vcpu in
          unused_segment guest vcpu there reg write usable
          (ap (λ t. after_deactivation (deactivated_by reg write cpu) (after_acknowledge t guest vcpu) vcpu) (same_taken reg write cpu cs [] e ∙ none_taken reg write) ∙ ap (λ d. after_deactivation d guest vcpu) (asking_ends_none reg write cpu asks))
          (same_cpu reg write cpu [] cs (sym e)) (same_answer reg write cpu [] cs (sym e)) (λ h place within. none_comes guest vcpu e place within)
          (λ k h. absurd (none_some k (sym (asking_names_none guest.shape vcpu reg write asks) ∙ h)))
        where
          none_some : (k : Key) → None ≡ Some k → ⊥
          none_some k h = cc

          none_taken : (reg : IccReg) (write : Option ℕ) → taken_by reg write (cpu_at guest vcpu) [] ≡ None
          none_taken Iar0 None = refl
          none_taken Iar1 None = refl
          none_taken reg write = refl
      asking asks (Some found) e =
          let was = first_was guest vcpu found sound e in
          let uses = first_used guest vcpu was.key reg write found e was.of was.named asks in
          subst (λ o. IsSegment guest vcpu reg write (between_moves vcpu o (Cpu vcpu reg write))) (sym was.named)
          (used_segment guest sound vcpu there was.key reg write usable uses
          (λ h place within. none_before guest sound vcpu there was.key found e
          (ap (λ i. first_of (candidates_at i)) (shows_alone guest sound vcpu there was.key reg write usable uses) ∙ same_first guest vcpu was.key reg write found e was.of was.named asks ∙ e) place within)
          (λ k h. absurd (none_some k (sym (asking_names_none guest.shape vcpu reg write asks) ∙ h))))
        where
          none_some : (k : Key) → None ≡ Some k → ⊥
          none_some k h = cc

      unused : asks_first reg write ≡ false → ((k : Key) → ended_by guest.shape vcpu reg write ≡ Some k → is_number vcpu (irq_at guest k).act_by ≡ false) → IsSegment guest vcpu reg write (Cpu vcpu reg write ∷ [])
      unused asks far =
          unused_segment guest vcpu there reg write usable (ends_nothing asks far) (other_cpu reg write (cpu_at guest vcpu) [] (candidates guest vcpu) asks) (other_answer reg write (cpu_at guest vcpu) [] (candidates guest vcpu) asks)
          (λ h. absurd (true≢false (sym h ∙ asks))) far

      naming : asks_first reg write ≡ false → (o : Option Key) → ended_by guest.shape vcpu reg write ≡ o
          → IsSegment guest vcpu reg write (between_moves vcpu (option_and_then (λ key. cond (is_number vcpu (irq_at guest key).act_by) (Some key) None) o) (Cpu vcpu reg write))
      naming asks None e = unused asks (λ k h. absurd (none_some k (sym e ∙ h)))
        where
          none_some : (k : Key) → None ≡ Some k → ⊥
          none_some k h = cc
      naming asks (Some key) e = by (is_number vcpu (irq_at guest key).act_by) refl
        where
          by : (b : Bool) → is_number vcpu (irq_at guest key).act_by ≡ b → IsSegment guest vcpu reg write (between_moves vcpu (cond b (Some key) None) (Cpu vcpu reg write))
          by true active =
              used_segment guest sound vcpu there key reg write usable (active_used guest vcpu key reg write (ended_there guest.shape vcpu reg write key e) (number_is vcpu (irq_at guest key).act_by active) e asks)
              (λ h. absurd (true≢false (sym h ∙ asks))) (λ k h. sym (same_Some key k (sym e ∙ h)))
          by false inactive = unused asks (λ k h. ap (λ j. is_number vcpu (irq_at guest j).act_by) (sym (same_Some key k (sym e ∙ h))) ∙ inactive)

      of : (b : Bool) → asks_first reg write ≡ b → IsSegment guest vcpu reg write (between_moves vcpu (cond b (first_key guest vcpu) (active_key guest vcpu reg write)) (Cpu vcpu reg write))
      of true e = asking e (first_of (candidates guest vcpu)) refl
      of false e = naming e (ended_by guest.shape vcpu reg write) refl

-- The SGIs after a write of SGI1R.

abbrev is_raise : Event → Bool
is_raise (Raise key) = true
is_raise event = false

raise_plain : (event : Event) → IsTrue (is_raise event) → IsTrue (is_plain false event)
raise_plain (Raise key) h = refl
raise_plain event h = absurd (cc)

raise_keeps : (event : Event) → IsTrue (is_raise event) → IsTrue (keeps_queue event)
raise_keeps (Raise key) h = refl
raise_keeps event h = absurd (cc)

raise_calm : (event : Event) → IsTrue (is_raise event) → IsTrue (is_calm event)
raise_calm (Raise key) h = refl
raise_calm event h = absurd (cc)

raises_hand : (by : ℕ) (view : View) (events : List Event) (state : Ideal) → IsTrue (list_all is_raise events) → HandOut by view state events
raises_hand by view [] state h = tt
raises_hand by view (Raise key ∷ events) state h = (refl, raises_hand by view events (happened by (Raise key) state) h)
raises_hand by view (event ∷ events) state h = absurd (cc)

are_raises : (shape : GuestShape) (vcpu : ℕ) (reg : IccReg) (write : Option ℕ) → IsTrue (list_all is_raise (icc_raises shape vcpu reg write))
are_raises shape vcpu Sgi1r (Some value) = all_found is_raise (sgi_at value vcpu) 0 shape.vcpus (λ v. of v (is_target value vcpu v))
  where
    of : (v : ℕ) (b : Bool) → IsTrue (option_map_or is_raise (cond b (Some (Raise (Private v (intid_of value)))) None) true)
    of v true = refl
    of v false = refl
are_raises shape vcpu reg write = refl

moves_within : (vcpu : ℕ) (reg : IccReg) (write : Option ℕ) (used : Option Key) → IsTrue (list_all is_within (between_moves vcpu used (Cpu vcpu reg write)))
moves_within vcpu reg write None = refl
moves_within vcpu reg write (Some key) = refl

moves_no_turn : (vcpu : ℕ) (reg : IccReg) (write : Option ℕ) (used : Option Key) → IsTrue (list_all is_no_turn (between_moves vcpu used (Cpu vcpu reg write)))
moves_no_turn vcpu reg write None = refl
moves_no_turn vcpu reg write (Some key) = refl

-- The call.

pub icc_call : (guest : IdealGuest) → IsSound guest → (vcpu : ℕ) → vcpu < guest.shape.vcpus → (reg : IccReg) (write : Option ℕ) → IsTrue (is_usable reg write)
    → IsGoodCall vcpu (Access (Icc reg write)) (op_made (Icc reg write) guest vcpu) (op_read (Icc reg write) guest vcpu) guest (after_events (op_events (Icc reg write) guest vcpu) guest)
icc_call guest sound vcpu there reg write usable =
    let seg = between_moves vcpu (used_by guest vcpu reg write) (Cpu vcpu reg write) in
    let raises = icc_raises guest.shape vcpu reg write in
    let events = seg ++ raises in
    let first = settled guest in
    let is = segment guest sound vcpu there reg write usable in
    let g = after_access reg write guest vcpu in
    let shape : g.shape ≡ guest.shape = shape_access reg write guest vcpu in
    let middle : state_after vcpu seg first ≡ settled g = is.leaves ∙ ap (λ (s : GuestShape). let i : Ideal = record { guest = g; at = replicate s.vcpus []; spreads = None; has_its = None } in i) (sym shape) in
    let all = are_raises guest.shape vcpu reg write in
    let plain = all_weaker is_raise (is_plain false) raise_plain raises all in
    let calm = all_calm raises (all_weaker is_raise is_calm raise_calm raises all) in
    let can : All (HappensFreely g.shape) raises = subst (λ s. All (HappensFreely s) raises) (sym shape) (All-tail (HappensFreely guest.shape) (Cpu vcpu reg write) raises (icc_valid guest.shape vcpu reg write there usable)) in
    let quiet = settled_quiet g vcpu in
    let sound_then : IsSound g = sound_event guest (Cpu vcpu reg write) sound (there, usable) in
    let answer = access_answer reg write guest vcpu in
    let access : Happened = record { event = Cpu vcpu reg write; found = Answer answer } in
    let early = happenings vcpu seg first in
    let late = happenings vcpu raises (settled g) in
    let named : named_of (Some vcpu) (early ++ late) ≡ access ∷ late =
    filter-append (λ (one : Happened). not (is_beside (Some vcpu) one.event)) early late ∙ ap (λ xs. xs ++ named_of (Some vcpu) late) is.named ∙ ap (λ xs. access ∷ xs) (named_own (Some vcpu) vcpu raises (settled g) calm.own) in
    let view = view_of guest in
    let P : Happened → Type 0 = λ one. HandsOut view one.event one.found in
    let made : IsIccCall guest.shape vcpu reg write (early ++ late) answer = record {
      view = view;
      made = record {
        events_are = ap (map (λ (one : Happened). one.event)) named ∙ ap (λ es. Cpu vcpu reg write ∷ es) (events_of vcpu raises (settled g));
        found = subst (All P) (sym named) (All-cons P access late (answer, refl) (all_hand_out vcpu view raises (settled g) (raises_hand vcpu view raises (settled g) all)));
        reads = All-nil (λ place. IsLastRead place (held_at view place) (early ++ late));
      };
      answers = Contains-append_left early late access is.there;
    } in
    let call = begun first (Access (Icc reg write)) in
    let last = call_after vcpu events first call in
    record {
      fine = fine_append vcpu seg raises first is.fine (subst (λ s. AreFine vcpu s raises) (sym middle) (plain_are_fine false vcpu (settled g) quiet g.shape raises g refl plain can));
      leaves = state_append vcpu seg raises first ∙ ap (state_after vcpu raises) middle ∙ plain_state false vcpu (settled g) quiet raises g plain ∙ settled_with g (after_events raises g) (shape_events raises g);
      shape = shape_events raises g ∙ shape;
      order = λ order. order_events g.shape raises g refl sound_then.words can (all_weaker is_raise keeps_queue raise_keeps raises all) (order_access reg write guest vcpu order);
      ended = call_ends guest.shape vcpu last (Access (Icc reg write)) (early ++ late) no_maps (targets_in first) [] answer (operation_after vcpu events first call)
          (piece_after vcpu events first call ∙ happenings_append vcpu seg raises first ∙ ap (λ s. early ++ happenings vcpu raises s) middle)
          (maps_after vcpu events first call (all_of is_no_turn seg raises (moves_no_turn vcpu reg write (used_by guest vcpu reg write)) calm.no_turn))
          (heads_of (windows_after vcpu events first call (targets_in first) [] (all_of is_within seg raises (moves_within vcpu reg write (used_by guest vcpu reg write)) calm.within) (begun_windows guest (Access (Icc reg write)))))
          (subst (λ v. IsCall guest.shape (beside_with no_maps (targets_in first) []) v (Access (Icc reg write)) (early ++ late) answer) (sym (is_vcpu guest.shape vcpu there)) made);
      fresh = λ track rest none later.
          subst (λ ms. IsFreshFrom first track (ms ++ rest)) (sym (ap (map (moment_of vcpu)) (happenings_append vcpu seg raises first) ∙ map-append (moment_of vcpu) early (happenings vcpu raises (state_after vcpu seg first))))
          (subst (λ ms. IsFreshFrom first track ms) (sym (append_assoc (map (moment_of vcpu) early) (map (moment_of vcpu) (happenings vcpu raises (state_after vcpu seg first))) rest))
          (is.fresh track (map (moment_of vcpu) (happenings vcpu raises (state_after vcpu seg first)) ++ rest) none
          (λ between gone. quiet_then vcpu raises (state_after vcpu seg first) between rest calm.no_access gone
          (λ end left. subst (λ s. IsFreshFrom s end rest) (state_append vcpu seg raises first) (later end left)))));
    }
