-- A vCPU takes the causes of an interrupt that it claimed: they come, or they do not.
use Rattle.std.proofs.Common.{◌≡◌, ◌≢◌, ℕ, inl, inr, true≢false, Bool, true, false, if◌then◌else◌, IsTrue, List, [], ◌∷◌, ◌++◌, Contains, All, Some, slice_index_or, refl, sym, ap, subst, ◌∙◌}
use Rattle.std.proofs.lemmas.List.Elements.{All-contains, All-contains_itself}
use Rattle.law_core_is_history.specs.Words.{Key, GuestShape, has_interrupt, intid_of, is_of_vcpu, is_same_key, IsShape, Irq as IrqRecord}
use Rattle.law_core_is_history.proofs.GicBase.KeyLemmas.{same_key, same_itself, other_key}
use Rattle.law_core_is_history.specs.Calls.{taken}
use Rattle.law_core_is_history.specs.Lists.{IchRegs, Seen, seen_of, listed_of, Active, with_state, Choice}
use Rattle.law_core_is_history.proofs.GicIcv.ChangeLemmas.{seen_with_state}
use Rattle.law_core_is_history.proofs.GicIcv.PlaceLemmas.{alone, from_map, map_among}
use Rattle.law_core_is_history.specs.Core.{AtIrq, Local, Made, Irq, claimed_at, shown, moved_of, known, entry_for, changed_at, with_entry, settled, has_word, word_of, IsAt, IsOnce, without_take, has_key, without_key}
use Rattle.law_core_is_history.proofs.PortCore.AtLemmas.{entry_is, is_at_mapped}
use Rattle.law_core_is_history.proofs.CoreProper.ReachLemmas.{claimed_by}
use Rattle.law_registers_stand.proofs.ComeLemmas.{finished, Comes, IsClaiming, finished_id, key_by_id, known_on, to_claim_on}
use Rattle.law_registers_stand.proofs.KeyLemmas.{without_other, without_itself, has_its_key}
use Rattle.law_registers_stand.proofs.ShowLemmas.{lives, Shows, shows_as, shows_changed, IsChangedAt, live_place, changed_holds}

-- what a claim of an interrupt leaves that is at the interface
pub taken_local : (shape : GuestShape) (actor : ℕ) (key : Key) (irq : IrqRecord) (local : Local) (one : AtIrq) → entry_for key local.at ≡ Some one
    → claimed_at shape actor key irq local ≡ record local { cands = settled shape actor key local.cands; at = changed_at (λ entry. record (with_entry entry (taken (moved_of irq one)).entry) { consumed = false }) key local.at }
taken_local shape actor key irq local one there = ap (claimed_by shape actor key irq local) there

module _ (shape : GuestShape) (good : IsShape shape) (vcpu : ℕ) (local : Local) (all : All (IsAt shape vcpu) local.at) (once : IsOnce local.at) (own : List Made) (regs : IchRegs) (claims takes : List Key) (is : IsClaiming shape vcpu local own regs claims takes) (key : Key) (there : IsTrue (has_interrupt shape key)) (mine : IsTrue (is_of_vcpu vcpu key)) (made : Made) (on : word_of shape vcpu made.step ≡ Irq key)
    (no_claim : has_key key claims ≡ false) (take : has_key key takes ≡ true) (one : AtIrq) (at_one : entry_for key local.at ≡ Some one) where
  among : Contains local.at one × (one.key ≡ key)
  among = entry_is (Contains local.at) key local.at one (All-contains_itself local.at) at_one

  -- it came active, and its causes did not come before
  came : (one.active ≡ true) × (one.pending ≡ false)
  came = is.coming one among.0 (ap (λ k. has_key k takes) among.1 ∙ take)

  -- it is none of the choices that are still to be claimed
  not_awaited : (c : Choice) → Contains is.rest c → c.key ≢ key
  not_awaited c has e = true≢false (sym (has_its_key c is.rest has) ∙ ap (λ keys. has_key c.key keys) (sym is.keys) ∙ ap (λ k. has_key k claims) e ∙ no_claim)

  knows_on : (c : Choice) → Contains is.rest c → known shape vcpu (own ++ made ∷ []) (Irq c.key) ≡ known shape vcpu own (Irq c.key)
  knows_on c has = known_on shape vcpu own made (Irq c.key) good (ap (has_word shape) on ∙ there) (is.each c has).there (λ e. not_awaited c has (of c.key key (sym e ∙ on)))
    where
      of : (j k : Key) → Irq j ≡ Irq k → j ≡ k
      of j k e = cc

  abbrev left : List Key
  left = without_key key takes

  -- there is one entry of it
  same_one : (entry : AtIrq) → Contains local.at entry → entry.key ≡ key → entry ≡ one
  same_one entry has e = alone (λ (x : AtIrq). is_same_key x.key key) local.at entry one (once key) has among.0 (ap (λ k. is_same_key k key) e ∙ same_itself key) (ap (λ k. is_same_key k key) among.1 ∙ same_itself key)

  as_finished : (entry : AtIrq) → entry.key ≢ key → finished left entry ≡ finished takes entry
  as_finished entry apart = ap (λ b. if b then record (seen_of (shown entry)) { pending = true } else seen_of (shown entry)) (without_other key entry.key takes apart)

  -- as it is to be seen before and after
  seen_before : finished takes one ≡ record { id = intid_of one.key; prio = one.entry_prio; group = one.group; pending = true; active = true }
  seen_before =
      ap (λ b. if b then record (seen_of (shown one)) { pending = true } else seen_of (shown one)) (ap (λ k. has_key k takes) among.1 ∙ take)
      ∙ ap (λ b. record (seen_of (shown one)) { pending = true; active = b }) came.0

  taken_away : has_key one.key left ≡ false
  taken_away = ap (λ k. has_key k left) among.1 ∙ without_itself key takes

  -- They come.

  abbrev change : IrqRecord → AtIrq → AtIrq
  change irq entry = record (with_entry entry (taken (moved_of irq one)).entry) { consumed = false }

  abbrev changed : IrqRecord → AtIrq → AtIrq
  changed irq entry = if is_same_key entry.key key then change irq entry else entry

  changed_key : (irq : IrqRecord) (entry : AtIrq) → (changed irq entry).key ≡ entry.key
  changed_key irq entry = of (is_same_key entry.key key)
    where
      of : (b : Bool) → (if b then change irq entry else entry).key ≡ entry.key
      of true = refl
      of false = refl

  changed_seen : (irq : IrqRecord) (entry : AtIrq) → Contains local.at entry → finished left (changed irq entry) ≡ finished takes entry
  changed_seen irq entry has = of (is_same_key entry.key key) refl
    where
      of : (b : Bool) → is_same_key entry.key key ≡ b → finished left (if b then change irq entry else entry) ≡ finished takes entry
      of false e = as_finished entry (λ f. true≢false (sym (ap (λ k. is_same_key k key) f ∙ same_itself key) ∙ e))
      of true e =
          let same = same_one entry has (same_key entry.key key e) in
          ap (λ x. finished left (change irq x)) same
          ∙ ap (λ b. if b then record (seen_of (shown (change irq one))) { pending = true } else seen_of (shown (change irq one))) taken_away
          ∙ ap (λ b. record (seen_of (shown one)) { pending = true; active = b }) came.0
          ∙ sym seen_before
          ∙ ap (finished takes) (sym same)

  to_taken : (irq : IrqRecord) (s : Seen) → Comes is.rest takes local.at s → Comes is.rest left (changed_at (change irq) key local.at) s
  to_taken irq s (inl awaited) = inl awaited
  to_taken irq s (inr here) = inr (record { entry = changed irq here.entry; among = map_among (changed irq) local.at here.entry (changed irq here.entry) here.among refl; is = changed_seen irq here.entry here.among ∙ here.is })

  from_taken : (irq : IrqRecord) (s : Seen) → lives s ≡ true → Comes is.rest left (changed_at (change irq) key local.at) s → Comes is.rest takes local.at s
  from_taken irq s h (inl awaited) = inl awaited
  from_taken irq s h (inr here) =
      let from = from_map (changed irq) local.at here.entry here.among in
      inr (record { entry = from.0; among = from.1; is = sym (changed_seen irq from.0 from.1) ∙ ap (finished left) from.2 ∙ here.is })

  -- it is no longer to be taken
  left_apart : (k : Key) → has_key k left ≡ true → k ≢ key
  left_apart k h e = true≢false (sym h ∙ ap (λ k. has_key k left) e ∙ without_itself key takes)

  pub takes_causes : (irq : IrqRecord) → IsClaiming shape vcpu (claimed_at shape vcpu key irq local) (own ++ made ∷ []) regs claims left
  takes_causes irq = subst (λ (l : Local). IsClaiming shape vcpu l (own ++ made ∷ []) regs claims left) (sym (taken_local shape vcpu key irq local one at_one)) (record {
    rest = is.rest;
    keys = is.keys;
    each = λ c has.
        to_claim_on shape vcpu own (own ++ made ∷ []) local.at (changed_at (change irq) key local.at) takes left c (knows_on c has) (is_at_mapped (changed irq) (changed_key irq) c.key local.at) (without_other key c.key takes (not_awaited c has)) (is.each c has);
    one = is.one;
    holds = is.holds;
    shows = shows_as (listed_of regs) (Comes is.rest takes local.at) (Comes is.rest left (changed_at (change irq) key local.at)) (to_taken irq) (from_taken irq) is.shows;
    placed = λ k h. elim (is.placed k (sym (without_other key k takes (left_apart k h)) ∙ h)) [ inl claim ↦ inl claim | inr at ↦ inr (is_at_mapped (changed irq) (changed_key irq) k local.at ∙ at) ];
    coming = λ entry has h.
        let from = from_map (changed irq) local.at entry has in
        let apart : from.0.key ≢ key = λ e. left_apart entry.key h (ap (λ (x : AtIrq). x.key) (sym from.2) ∙ changed_key irq from.0 ∙ e) in
        let same : changed irq from.0 ≡ from.0 = ap (λ b. if b then change irq from.0 else from.0) (other_key from.0.key key apart) in
        subst (λ (x : AtIrq). (x.active ≡ true) × (x.pending ≡ false)) (sym same ∙ from.2)
        (is.coming from.0 from.1 (sym (without_other key from.0.key takes apart) ∙ ap (λ (x : AtIrq). has_key x.key left) (sym same ∙ from.2) ∙ h));
  })

  -- They do not come: its list register has State 2.

  abbrev active_alone : Seen → Seen
  active_alone s = record s { pending = false; active = true }

  -- what is to be seen with its INTID is that of its entry
  of_one : (keys : List Key) (s : Seen) → Comes is.rest keys local.at s → s.id ≡ intid_of key → s ≡ finished keys one
  of_one keys s (inl awaited) e =
      let c = is.each awaited.choice awaited.among in
      absurd (not_awaited awaited.choice awaited.among (key_by_id shape vcpu awaited.choice.key key good c.there there c.mine mine (ap (λ (s : Seen). s.id) awaited.is ∙ e)))
  of_one keys s (inr here) e =
      let at = All-contains (IsAt shape vcpu) local.at here.entry all here.among in
      let same = key_by_id shape vcpu here.entry.key key good at.there there at.own mine (sym (finished_id keys here.entry) ∙ ap (λ (s : Seen). s.id) here.is ∙ e) in
      sym here.is ∙ ap (finished keys) (same_one here.entry here.among same)

  -- without it as it was
  seen_after : finished left one ≡ active_alone (finished takes one)
  seen_after =
      ap (λ b. if b then record (seen_of (shown one)) { pending = true } else seen_of (shown one)) taken_away
      ∙ ap (λ b. record (seen_of (shown one)) { pending = b }) came.1 ∙ ap (λ b. record (seen_of (shown one)) { pending = false; active = b }) came.0
      ∙ sym (ap active_alone seen_before)

  other_seen : (keys now : List Key) (s : Seen) → ((entry : AtIrq) → entry.key ≢ key → finished now entry ≡ finished keys entry) → Comes is.rest keys local.at s → s.id ≢ intid_of key → Comes is.rest now local.at s
  other_seen keys now s same (inl awaited) apart = inl awaited
  other_seen keys now s same (inr here) apart =
      inr (record { entry = here.entry; among = here.among; is = same here.entry (λ e. apart (sym (ap (λ (s : Seen). s.id) here.is) ∙ finished_id keys here.entry ∙ ap intid_of e)) ∙ here.is })

  pub takes_none : IsClaiming shape vcpu local (own ++ made ∷ []) (without_take key regs) claims left
  takes_none = record {
    rest = is.rest;
    keys = is.keys;
    each = λ c has. to_claim_on shape vcpu own (own ++ made ∷ []) local.at local.at takes left c (knows_on c has) refl (without_other key c.key takes (not_awaited c has)) (is.each c has);
    one = is.one;
    holds = changed_holds key (λ word. with_state word Active) regs local.cpu is.holds;
    shows =
        subst (λ words. Shows words (Comes is.rest left local.at)) (sym place.listed)
        (shows_changed (listed_of regs) (Comes is.rest takes local.at) (Comes is.rest left local.at) place.place (intid_of key) (with_state (slice_index_or (listed_of regs) place.place 0) Active) active_alone place.within place.live (seen_with_state (slice_index_or (listed_of regs) place.place 0) Active) (λ s. refl) (λ s. refl)
        (λ s p apart. other_seen takes left s as_finished p apart) (λ s p e. inr (record { entry = one; among = among.0; is = seen_after ∙ ap active_alone (sym (of_one takes s p e)) }))
        (λ s h q apart. other_seen left takes s (λ entry e. sym (as_finished entry e)) q apart) (λ s t p e q f. of_one left t q f ∙ seen_after ∙ ap active_alone (sym (of_one takes s p e))) is.shows);
    placed = λ k h. is.placed k (sym (without_other key k takes (left_apart k h)) ∙ h);
    coming = λ entry has h. is.coming entry has (sym (without_other key entry.key takes (left_apart entry.key h)) ∙ h);
  }
    where
      place : IsChangedAt (intid_of key) (λ word. with_state word Active) regs
      place = live_place regs (Comes is.rest takes local.at) (intid_of key) (λ word. with_state word Active) (finished takes one) is.shows (ap lives seen_before) (inr (record { entry = one; among = among.0; is = refl })) (finished_id takes one ∙ ap intid_of among.1)
