-- A vCPU claims a choice: it comes, or it does not.
use Rattle.std.proofs.Common.{◌≡◌, ◌≢◌, ℕ, ◌||◌, ◌⊎◌, inl, inr, true≢false, not, Bool, true, false, if◌then◌else◌, IsTrue, List, [], ◌∷◌, ◌++◌, Contains, All, is_none, refl, sym, ap, subst, ◌∙◌}
use Rattle.std.proofs.lemmas.List.Elements.{All-contains, Contains-append_left, Contains-push, Contains-push_cases}
use Rattle.law_core_is_history.specs.Words.{Key, GuestShape, intid_of, is_same_key, IsShape, Irq as IrqRecord, cleared}
use Rattle.law_core_is_history.proofs.GicBase.KeyLemmas.{same_key, same_itself, other_key}
use Rattle.law_core_is_history.specs.Calls.{Moved, reached}
use Rattle.law_core_is_history.specs.Lists.{IchRegs, Seen, seen_of, listed_of, LrState, Invalid, Pending, Active, Both, state_has_active, state_has_pending, Choice}
use Rattle.law_core_is_history.proofs.VcpuRefill.EarnedLemmas.{from_filter}
use Rattle.law_core_is_history.proofs.VcpuRefill.ElementLemmas.{Contains-filter}
use Rattle.law_core_is_history.specs.Core.{AtIrq, Local, Made, Irq, claimed_at, shown, known, entry_for, is_at, arrived, has_word, word_of, IsAt, without_claim, has_key, without_key, is_both}
use Rattle.law_core_is_history.proofs.PortCore.AtLemmas.{is_at_added}
use Rattle.law_core_is_history.proofs.CoreProper.ReachLemmas.{number_is, reached_local}
use Rattle.law_registers_stand.proofs.ComeLemmas.{seen_choice, finished, Comes, IsRight, IsToClaim, IsClaiming, finished_id, key_by_id, is_there, none_some, known_on, to_claim_on}
use Rattle.law_registers_stand.proofs.KeyLemmas.{without_other, without_itself, keys_of, choices_without, keys_without}
use Rattle.law_registers_stand.proofs.ShowLemmas.{lives, Shows, shows_as, shows_without, IsChangedAt, live_place, changed_holds}

-- The interrupt as it comes.

-- what there is to see of it, by whether its record is inactive and whether its causes are to be taken
abbrev seen_by : Key → IrqRecord → Bool → Bool → Seen
seen_by key irq none has =
    let there : Moved = if none then record { irq = cleared irq; entry = record { pending = true; active = false; rise = irq.rise; soft = irq.soft } } else record { irq = irq; entry = record { pending = false; active = true; rise = false; soft = false } } in
    if has then record (seen_of (shown (arrived key irq there.entry))) { pending = true } else seen_of (shown (arrived key irq there.entry))

arrival_seen : (vcpu : ℕ) (takes : List Key) (c : Choice) → IsRight vcpu c → has_key c.key takes ≡ is_both c.entry.state → finished takes (arrived c.key c.irq (reached c.irq).entry) ≡ seen_choice c
arrival_seen vcpu takes c right both = ap (seen_by c.key c.irq (is_none c.irq.act_by)) both ∙ of right
  where
    seen_at : LrState → Seen
    seen_at state = record { id = intid_of c.key; prio = c.irq.prio; group = c.irq.group; pending = state_has_pending state; active = state_has_active state }

    active : (state : LrState) → IsTrue (state_has_active state) → seen_by c.key c.irq false (is_both state) ≡ record { id = intid_of c.key; prio = c.irq.prio; group = c.irq.group; pending = state_has_pending state; active = state_has_active state }
    active Invalid h = absurd (cc)
    active Pending h = absurd (cc)
    active Active h = refl
    active Both h = refl

    of : IsRight vcpu c → seen_by c.key c.irq (is_none c.irq.act_by) (is_both c.entry.state) ≡ seen_choice c
    of (inl pending) = ap (λ b. seen_by c.key c.irq b (is_both c.entry.state)) pending.1 ∙ ap (λ state. seen_by c.key c.irq true (is_both state)) pending.0 ∙ sym (ap (λ state. seen_at state) pending.0)
    of (inr is) = ap (λ o. seen_by c.key c.irq (is_none o) (is_both c.entry.state)) (number_is vcpu c.irq.act_by is.1) ∙ active c.entry.state is.0

-- where its causes are to be taken, it comes active
active_comes : (vcpu : ℕ) (c : Choice) → IsRight vcpu c → is_both c.entry.state ≡ true → let e = arrived c.key c.irq (reached c.irq).entry in (e.active ≡ true) × (e.pending ≡ false)
active_comes vcpu c (inl pending) both = absurd (true≢false (sym both ∙ ap is_both pending.0))
active_comes vcpu c (inr is) both =
    let e : IrqRecord → AtIrq = λ irq. arrived c.key irq (reached irq).entry in
    let some = number_is vcpu c.irq.act_by is.1 in
    (ap (λ o. (e (record c.irq { act_by = o })).active) some, ap (λ o. (e (record c.irq { act_by = o })).pending) some)

-- a choice is pending or active
pub right_lives : (vcpu : ℕ) (c : Choice) → IsRight vcpu c → lives (seen_choice c) ≡ true
right_lives vcpu c (inl pending) = ap (λ state. state_has_pending state || state_has_active state) pending.0
right_lives vcpu c (inr is) = of (state_has_pending c.entry.state) (state_has_active c.entry.state) is.0
  where
    of : (a b : Bool) → IsTrue b → (a || b) ≡ true
    of true b h = refl
    of false b h = h

module _ (shape : GuestShape) (good : IsShape shape) (vcpu : ℕ) (local : Local) (all : All (IsAt shape vcpu) local.at) (own : List Made) (regs : IchRegs) (claims takes : List Key) (is : IsClaiming shape vcpu local own regs claims takes) (c : Choice) (among : Contains is.rest c) (made : Made) (on : word_of shape vcpu made.step ≡ Irq c.key) where
  to : IsToClaim shape vcpu own local.at takes c
  to = is.each c among

  abbrev rest : List Choice
  rest = choices_without c.key is.rest

  -- the other choices
  kept : (d : Choice) → Contains (choices_without c.key is.rest) d → Contains is.rest d × (d.key ≢ c.key)
  kept d has =
      let from = from_filter (λ (d : Choice). not (is_same_key c.key d.key)) is.rest d has in
      (from.0, λ e. not_same (is_same_key c.key d.key) (ap (is_same_key c.key) e ∙ same_itself c.key) from.1)
    where
      not_same : (b : Bool) → b ≡ true → not b ≡ true → ⊥
      not_same true e f = absurd (cc)
      not_same false e f = absurd (cc)

  stays : (d : Choice) → Contains is.rest d → is_same_key c.key d.key ≡ false → Contains (choices_without c.key is.rest) d
  stays d has e = Contains-filter (λ (d : Choice). not (is_same_key c.key d.key)) is.rest d (ap not e) has

  same_choice : (d : Choice) → Contains is.rest d → is_same_key c.key d.key ≡ true → d ≡ c
  same_choice d has e = is.one d c has among (sym (same_key c.key d.key e))

  knows_on : (d : Choice) → Contains is.rest d → d.key ≢ c.key → known shape vcpu (own ++ made ∷ []) (Irq d.key) ≡ known shape vcpu own (Irq d.key)
  knows_on d has apart =
      known_on shape vcpu own made (Irq d.key) good (ap (has_word shape) on ∙ to.there) (is.each d has).there (λ e. apart (of d.key c.key (sym e ∙ on)))
    where
      of : (j k : Key) → Irq j ≡ Irq k → j ≡ k
      of j k e = cc

  claims_left : without_key c.key claims ≡ keys_of (choices_without c.key is.rest)
  claims_left = ap (without_key c.key) is.keys ∙ sym (keys_without c.key is.rest)

  -- It comes.

  abbrev come : AtIrq
  come = arrived c.key c.irq (reached c.irq).entry

  added : (key : Key) → key ≢ c.key → is_at key (local.at ++ come ∷ []) ≡ is_at key local.at
  added key apart = is_at_added key local.at come ∙ ap (λ b. is_at key local.at || b) (other_key c.key key (λ e. apart (sym e))) ∙ or_false (is_at key local.at)
    where
      or_false : (b : Bool) → (b || false) ≡ b
      or_false true = refl
      or_false false = refl

  there_now : is_at c.key (local.at ++ come ∷ []) ≡ true
  there_now = is_at_added c.key local.at come ∙ ap (λ b. is_at c.key local.at || b) (same_itself c.key) ∙ or_true (is_at c.key local.at)
    where
      or_true : (b : Bool) → (b || true) ≡ true
      or_true true = refl
      or_true false = refl

  come_seen : finished takes come ≡ seen_choice c
  come_seen = arrival_seen vcpu takes c to.right to.both

  to_come : (s : Seen) → Comes is.rest takes local.at s → Comes rest takes (local.at ++ come ∷ []) s
  to_come s (inr here) = inr (record { entry = here.entry; among = Contains-append_left local.at (come ∷ []) here.entry here.among; is = here.is })
  to_come s (inl awaited) = of (is_same_key c.key awaited.choice.key) refl
    where
      of : (b : Bool) → is_same_key c.key awaited.choice.key ≡ b → Comes rest takes (local.at ++ come ∷ []) s
      of true e = inr (record { entry = come; among = Contains-push local.at come; is = come_seen ∙ sym (ap seen_choice (same_choice awaited.choice awaited.among e)) ∙ awaited.is })
      of false e = inl (record { choice = awaited.choice; among = stays awaited.choice awaited.among e; is = awaited.is })

  from_come : (s : Seen) → lives s ≡ true → Comes rest takes (local.at ++ come ∷ []) s → Comes is.rest takes local.at s
  from_come s h (inl awaited) = inl (record { choice = awaited.choice; among = (kept awaited.choice awaited.among).0; is = awaited.is })
  from_come s h (inr here) = elim (Contains-push_cases local.at come here.entry here.among) [
    | inl old ↦ inr (record { entry = here.entry; among = old; is = here.is })
    | inr same ↦ inl (record { choice = c; among = among; is = sym come_seen ∙ ap (finished takes) same ∙ here.is })
  ]

  placed_come : (key : Key) → has_key key takes ≡ true → (has_key key (without_key c.key claims) ≡ true) ⊎ (is_at key (local.at ++ come ∷ []) ≡ true)
  placed_come key h = of (is_same_key c.key key) refl
    where
      of : (b : Bool) → is_same_key c.key key ≡ b → (has_key key (without_key c.key claims) ≡ true) ⊎ (is_at key (local.at ++ come ∷ []) ≡ true)
      of true e = inr (ap (λ k. is_at k (local.at ++ come ∷ [])) (sym (same_key c.key key e)) ∙ there_now)
      of false e =
          let apart : key ≢ c.key = λ f. true≢false (sym (ap (is_same_key c.key) f ∙ same_itself c.key) ∙ e) in
          elim (is.placed key h) [ inl claim ↦ inl (without_other c.key key claims apart ∙ claim) | inr at ↦ inr (added key apart ∙ at) ]

  coming_come : (entry : AtIrq) → Contains (local.at ++ come ∷ []) entry → has_key entry.key takes ≡ true → (entry.active ≡ true) × (entry.pending ≡ false)
  coming_come entry has h = elim (Contains-push_cases local.at come entry has) [
    | inl old ↦ is.coming entry old h
    | inr same ↦
        (let facts = active_comes vcpu c to.right (sym to.both ∙ ap (λ (x : AtIrq). has_key x.key takes) same ∙ h) in
        (ap (λ (x : AtIrq). x.active) (sym same) ∙ facts.0, ap (λ (x : AtIrq). x.pending) (sym same) ∙ facts.1))
  ]

  pub comes : IsClaiming shape vcpu (claimed_at shape vcpu c.key c.irq local) (own ++ made ∷ []) regs (without_key c.key claims) takes
  comes = subst (λ (l : Local). IsClaiming shape vcpu l (own ++ made ∷ []) regs (without_key c.key claims) takes) (sym (reached_local shape vcpu c.key c.irq local (none_some (entry_for c.key local.at) to.away))) (record {
    rest = rest;
    keys = claims_left;
    each = λ d has. let from = kept d has in to_claim_on shape vcpu own (own ++ made ∷ []) local.at (local.at ++ come ∷ []) takes takes d (knows_on d from.0 from.1) (added d.key from.1) refl (is.each d from.0);
    one = λ d f has have. is.one d f (kept d has).0 (kept f have).0;
    holds = is.holds;
    shows = shows_as (listed_of regs) (Comes is.rest takes local.at) (Comes rest takes (local.at ++ come ∷ [])) to_come from_come is.shows;
    placed = placed_come;
    coming = coming_come;
  })

  -- It does not come: its list register is free.

  abbrev left : List Key
  left = without_key c.key takes

  not_here : (entry : AtIrq) → Contains local.at entry → entry.key ≢ c.key
  not_here entry has e = true≢false (sym (is_there local.at entry has) ∙ ap (λ k. is_at k local.at) e ∙ to.away)

  as_finished : (entry : AtIrq) → entry.key ≢ c.key → finished left entry ≡ finished takes entry
  as_finished entry apart = ap (λ b. if b then record (seen_of (shown entry)) { pending = true } else seen_of (shown entry)) (without_other c.key entry.key takes apart)

  to_miss : (s : Seen) → Comes is.rest takes local.at s → s.id ≢ intid_of c.key → Comes rest left local.at s
  to_miss s (inr here) apart = inr (record { entry = here.entry; among = here.among; is = as_finished here.entry (not_here here.entry here.among) ∙ here.is })
  to_miss s (inl awaited) apart = of (is_same_key c.key awaited.choice.key) refl
    where
      of : (b : Bool) → is_same_key c.key awaited.choice.key ≡ b → Comes rest left local.at s
      of true e = absurd (apart (sym (ap (λ (s : Seen). s.id) awaited.is) ∙ ap intid_of (sym (same_key c.key awaited.choice.key e))))
      of false e = inl (record { choice = awaited.choice; among = stays awaited.choice awaited.among e; is = awaited.is })

  from_miss : (s : Seen) → lives s ≡ true → Comes rest left local.at s → Comes is.rest takes local.at s × (s.id ≢ intid_of c.key)
  from_miss s h (inl awaited) =
      let from = kept awaited.choice awaited.among in
      let other = is.each awaited.choice from.0 in (
        inl (record { choice = awaited.choice; among = from.0; is = awaited.is }),
        λ e. from.1 (key_by_id shape vcpu awaited.choice.key c.key good other.there to.there other.mine to.mine (ap (λ (s : Seen). s.id) awaited.is ∙ e)),
      )
  from_miss s h (inr here) =
      let apart = not_here here.entry here.among in
      let at = All-contains (IsAt shape vcpu) local.at here.entry all here.among in (
        inr (record { entry = here.entry; among = here.among; is = sym (as_finished here.entry apart) ∙ here.is }),
        λ e. apart (key_by_id shape vcpu here.entry.key c.key good at.there to.there at.own to.mine (sym (finished_id left here.entry) ∙ ap (λ (s : Seen). s.id) here.is ∙ e)),
      )

  pub misses : IsClaiming shape vcpu local (own ++ made ∷ []) (without_claim c.key regs) (without_key c.key claims) left
  misses = record {
    rest = rest;
    keys = claims_left;
    each = λ d has. let from = kept d has in to_claim_on shape vcpu own (own ++ made ∷ []) local.at local.at takes left d (knows_on d from.0 from.1) refl (without_other c.key d.key takes from.1) (is.each d from.0);
    one = λ d f has have. is.one d f (kept d has).0 (kept f have).0;
    holds = changed_holds c.key (λ word. 0) regs local.cpu is.holds;
    shows = subst (λ words. Shows words (Comes rest left local.at)) (sym place.listed) (shows_without (listed_of regs) (Comes is.rest takes local.at) (Comes rest left local.at) place.place (intid_of c.key) place.within place.live to_miss from_miss is.shows);
    placed = λ key h. of key (is_same_key c.key key) refl h;
    coming = λ entry has h. is.coming entry has (sym (without_other c.key entry.key takes (not_here entry has)) ∙ h);
  }
    where
      place : IsChangedAt (intid_of c.key) (λ word. 0) regs
      place = live_place regs (Comes is.rest takes local.at) (intid_of c.key) (λ word. 0) (seen_choice c) is.shows (right_lives vcpu c to.right) (inl (record { choice = c; among = among; is = refl })) refl

      of : (key : Key) (b : Bool) → is_same_key c.key key ≡ b → has_key key left ≡ true → (has_key key (without_key c.key claims) ≡ true) ⊎ (is_at key local.at ≡ true)
      of key true e h = absurd (true≢false (sym h ∙ ap (λ k. has_key k left) (sym (same_key c.key key e)) ∙ without_itself c.key takes))
      of key false e h =
          let apart : key ≢ c.key = λ f. true≢false (sym (ap (is_same_key c.key) f ∙ same_itself c.key) ∙ e) in
          elim (is.placed key (sym (without_other c.key key takes apart) ∙ h)) [ inl claim ↦ inl (without_other c.key key claims apart ∙ claim) | inr at ↦ inr at ]
