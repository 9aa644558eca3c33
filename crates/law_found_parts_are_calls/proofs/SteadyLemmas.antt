-- Events that move no LPI, change no map and end no command.
use Rattle.std.proofs.Common.{◌≡◌, ℕ, ◌⊎◌, inl, inr, Bool, true, false, cond, IsTrue, List, [], ◌∷◌, ◌++◌, Option, nat_lt, refl, sym, ap, ◌∙◌, subst, arith}
use Rattle.std.specs.List.{list_all}
use Rattle.std.proofs.lemmas.Bool.{and_parts, le-ltb}
use Rattle.law_unmapped_lpis.specs.Words.{Key, Private, Spi, Lpi, SetPending, has_interrupt, is_same_key, Irq, raised, wire_up, wire_down}
use Rattle.law_unmapped_lpis.specs.Calls.{Event, Up, Down, Touch, Reach, Take, Leave, Enable, Runs, Done, Stalls, Touching, Register, Enables as CopyEnables, touched, is_beside, ItsBegin}
use Rattle.law_unmapped_lpis.specs.GicCall.declared.event.Event.TheVariants.{Raise, Queue}
use Rattle.law_unmapped_lpis.specs.Histories.{irq_at, Ideal, handed_out, happened, Call, is_passed, made, targets_in}
use Rattle.law_unmapped_lpis.proofs.IdealGuests.KeyLemmas.{IsWhole, irq_changed}
use Rattle.law_unmapped_lpis.proofs.LawHistories.StateLemmas.{guest_is}
use Rattle.law_unmapped_lpis.proofs.LawHistories.TurnSteps.{tables_are}
use Rattle.law_serial_is_eager.proofs.LawEagerIsHistory.CourseLemmas.{call_after, state_after}
use Rattle.law_serial_is_eager.proofs.LawEagerIsHistory.WindowLemmas.{AreWindows, HaveHeads, IsEnabling, IsHead, enabled_heads, enabling_touched, heads_of, next_call, windows_within, windows_begun}
use Rattle.law_serial_is_eager.proofs.LawLoneCallsAreEager.MapsLemmas.{keeps_maps, tables_kept}
use Rattle.law_serial_is_eager.proofs.LawLoneCallsAreEager.PassLemmas.{PassesNamed, is_plain_touch}
use Rattle.law_unmapped_lpis.proofs.LawHistories.TargetLemmas.{by_record, either}
use Rattle.law_serial_is_eager.proofs.LawLoneCallsAreEager.TargetLemmas.{event_targets}

abbrev pub is_steady : Event → Bool
is_steady (Touch key touching) = is_plain_touch key touching
is_steady (Queue offset Runs) = true
is_steady (Queue offset change) = false
is_steady event = true

pub beside_steady : (actor : Option ℕ) (event : Event) → is_beside actor event ≡ true → is_steady event ≡ true
beside_steady actor (Touch key touching) h = absurd (cc)
beside_steady actor (Queue offset Runs) h = refl
beside_steady actor (Queue offset (Done words)) h = absurd (cc)
beside_steady actor (Queue offset (Stalls fault)) h = absurd (cc)
beside_steady actor event h = refl

pub named_steady : PassesNamed is_steady
named_steady = record {
  raise = λ key. refl;
  up = λ key. refl;
  down = λ key. refl;
  touch = λ key touching plain. plain;
  enable = λ vcpu. refl;
  ctlr_begin = λ enables. refl;
  ctlr_end = refl;
  its_begin = refl;
  its_end = refl;
  ram = λ index value. refl;
  propbaser = λ vcpu value. refl;
  pendbaser = λ vcpu value. refl;
}

pub steady_maps : (event : Event) → is_steady event ≡ true → keeps_maps event ≡ true
steady_maps (Queue offset Runs) h = refl
steady_maps (Queue offset (Done words)) h = absurd (cc)
steady_maps (Queue offset (Stalls fault)) h = refl
steady_maps event h = refl

-- For which vCPUs LPIs are.

module _ (actor : ℕ) (state : Ideal) (whole : IsWhole state.guest) (id : ℕ) where
  changed_route : (event : Event) (other : Key) (change : Irq → Irq) → (IsTrue (has_interrupt state.guest.shape (Lpi id)) → irq_at (happened actor event state).guest (Lpi id) ≡ cond (is_same_key (Lpi id) other) (change (irq_at state.guest (Lpi id))) (irq_at state.guest (Lpi id)))
      → (change (irq_at state.guest (Lpi id))).route ≡ (irq_at state.guest (Lpi id)).route → targets_in (happened actor event state) id ≡ targets_in state id
  changed_route event other change now same =
      by_record state (happened actor event state) id (guest_is actor event state).shape (λ there. ap (λ (i : Irq). i.route) (now there) ∙ either (is_same_key (Lpi id) other) (change (irq_at state.guest (Lpi id))) (irq_at state.guest (Lpi id)) same)

  other_route : (event : Event) (other : Key) (change : Irq → Irq) → is_same_key (Lpi id) other ≡ false
      → (IsTrue (has_interrupt state.guest.shape (Lpi id)) → irq_at (happened actor event state).guest (Lpi id) ≡ cond (is_same_key (Lpi id) other) (change (irq_at state.guest (Lpi id))) (irq_at state.guest (Lpi id))) → targets_in (happened actor event state) id ≡ targets_in state id
  other_route event other change differ now =
      by_record state (happened actor event state) id (guest_is actor event state).shape (λ there. ap (λ (i : Irq). i.route) (now there) ∙ ap (λ b. (cond b (change (irq_at state.guest (Lpi id))) (irq_at state.guest (Lpi id))).route) differ)

  touch_route : (key : Key) (touching : Touching) → is_plain_touch key touching ≡ true → targets_in (happened actor (Touch key touching) state) id ≡ targets_in state id
  touch_route (Lpi i) (Register SetPending value) h = event_targets actor state whole id (Touch (Lpi i) (Register SetPending value)) refl
  touch_route (Lpi i) (CopyEnables en0 en1) h = changed_route (Touch (Lpi i) (CopyEnables en0 en1)) (Lpi i) (touched state.guest.shape (Lpi i) (CopyEnables en0 en1)) (irq_changed state.guest (Lpi i) (Lpi id) (touched state.guest.shape (Lpi i) (CopyEnables en0 en1)) whole) refl
  touch_route (Lpi i) touching h = absurd (cc)
  touch_route (Spi i) touching h = other_route (Touch (Spi i) touching) (Spi i) (touched state.guest.shape (Spi i) touching) refl (irq_changed state.guest (Spi i) (Lpi id) (touched state.guest.shape (Spi i) touching) whole)
  touch_route (Private v i) touching h = other_route (Touch (Private v i) touching) (Private v i) (touched state.guest.shape (Private v i) touching) refl (irq_changed state.guest (Private v i) (Lpi id) (touched state.guest.shape (Private v i) touching) whole)

  pub steady_targets : (event : Event) → is_steady event ≡ true → targets_in (happened actor event state) id ≡ targets_in state id
  steady_targets (Raise key) h = changed_route (Raise key) key raised (irq_changed state.guest key (Lpi id) raised whole) refl
  steady_targets (Up key) h = changed_route (Up key) key wire_up (irq_changed state.guest key (Lpi id) wire_up whole) refl
  steady_targets (Down key) h = changed_route (Down key) key wire_down (irq_changed state.guest key (Lpi id) wire_down whole) refl
  steady_targets (Touch key touching) h = touch_route key touching h
  steady_targets (Reach key u) h = event_targets actor state whole id (Reach key u) refl
  steady_targets (Take key u) h = event_targets actor state whole id (Take key u) refl
  steady_targets (Leave key u) h = event_targets actor state whole id (Leave key u) refl
  steady_targets (Queue offset Runs) h = refl
  steady_targets (Queue offset (Done words)) h = absurd (cc)
  steady_targets (Queue offset (Stalls fault)) h = absurd (cc)
  steady_targets event h = refl

-- after some such events

pub targets_steady : (actor : ℕ) (events : List Event) (state : Ideal) (id : ℕ) → IsTrue (list_all is_steady events) → IsWhole state.guest → targets_in (state_after actor events state) id ≡ targets_in state id
targets_steady actor [] state id all whole = refl
targets_steady actor (event ∷ events) state id all whole =
    let parts = and_parts (is_steady event) (list_all is_steady events) all in
    targets_steady actor events (happened actor event state) id parts.1 ((guest_is actor event state).whole whole) ∙ steady_targets actor state whole id event parts.0

pub maps_steady : (actor : ℕ) (events : List Event) (state : Ideal) → IsTrue (list_all is_steady events) → (state_after actor events state).guest.tables ≡ state.guest.tables
maps_steady actor [] state all = refl
maps_steady actor (event ∷ events) state all =
    let parts = and_parts (is_steady event) (list_all is_steady events) all in
    maps_steady actor events (happened actor event state) parts.1 ∙ tables_are actor event state ∙ tables_kept event state.guest.tables (steady_maps event parts.0)

-- What a call notes of them.

-- before EnableLPIs is stored, and after that
abbrev pub IsNoting : Call → (ℕ → Option ℕ) → Type 0
IsNoting call t = AreWindows call t call.commands ⊎ IsEnabling call t call.commands

heads_more : (passed : Bool) (window : List (Option ℕ)) (t : Option ℕ) → IsHead window t → IsHead (cond passed window (window ++ t ∷ [])) t
heads_more true window t h = h
heads_more false [] t h = absurd h
heads_more false (x ∷ window) t h = h

-- an event that only the moment of is noted
enabling_on : (actor : ℕ) (state : Ideal) (event : Event) (call : Call) (t : ℕ → Option ℕ) → ((id : ℕ) → targets_in (happened actor event state) id ≡ t id) → IsEnabling call t call.commands → (made state event (handed_out state event) call).place ≡ call.place
    → (made state event (handed_out state event) call).targets ≡ call.targets → IsEnabling (next_call state actor event call) t (next_call state actor event call).commands
enabling_on actor state event call t now is place targets =
    let later = made state event (handed_out state event) call in
    record {
      here = is.here;
      place = place ∙ is.place;
      commands = refl;
      heads = λ id.
          subst (λ x. IsHead (cond (is_passed later.place id) (later.targets id) (later.targets id ++ x ∷ [])) (t id)) (sym (now id))
          (heads_more (is_passed later.place id) (later.targets id) (t id) (subst (λ w. IsHead (w id) (t id)) (sym targets) (is.heads id)));
    }

enabling_again : (actor : ℕ) (state : Ideal) (vcpu : ℕ) (call : Call) (t : ℕ → Option ℕ) → ((id : ℕ) → targets_in (happened actor (Enable vcpu) state) id ≡ t id) → IsEnabling (next_call state actor (Enable vcpu) call) t call.commands
enabling_again actor state vcpu call t now =
    record {
      here = 0;
      place = refl;
      commands = refl;
      heads = λ id. subst (λ x. IsHead (cond (nat_lt id 0) [] (x ∷ [])) (t id)) (sym (now id)) (subst (λ b. IsHead (cond b [] (t id ∷ [])) (t id)) (sym (le-ltb id 0 (omega arith))) refl);
    }

enabling_steady : (actor : ℕ) (state : Ideal) (event : Event) (call : Call) (t : ℕ → Option ℕ) → is_steady event ≡ true → ((id : ℕ) → targets_in (happened actor event state) id ≡ t id) → IsEnabling call t call.commands
    → IsEnabling (next_call state actor event call) t (next_call state actor event call).commands
enabling_steady actor state (Enable u) call t h now is = enabling_again actor state u call t now
enabling_steady actor state (Touch key touching) call t h now is = enabling_touched state actor key touching call t call.commands now is
enabling_steady actor state (Queue offset Runs) call t h now is = enabling_on actor state (Queue offset Runs) call t now is refl refl
enabling_steady actor state (Queue offset (Done words)) call t h now is = absurd (cc)
enabling_steady actor state (Queue offset (Stalls fault)) call t h now is = absurd (cc)
enabling_steady actor state event call t h now is = enabling_on actor state event call t now is refl refl

noting_windows : {call : Call} {t : ℕ → Option ℕ} {firsts : List (ℕ → Option ℕ)} → AreWindows call t firsts → IsNoting call t
noting_windows are = inl (record { place = are.place; commands = refl; heads = are.heads })

windows_steady : (actor : ℕ) (state : Ideal) (event : Event) (call : Call) (t : ℕ → Option ℕ) → is_steady event ≡ true → ((id : ℕ) → targets_in (happened actor event state) id ≡ t id) → AreWindows call t call.commands → IsNoting (next_call state actor event call) t
windows_steady actor state (Enable u) call t h now are = inr (enabling_again actor state u call t now)
windows_steady actor state ItsBegin call t h now are = noting_windows (windows_begun state actor call t call.commands are)
windows_steady actor state (Queue offset (Done words)) call t h now are = absurd (cc)
windows_steady actor state (Queue offset (Stalls fault)) call t h now are = absurd (cc)
windows_steady actor state (Queue offset Runs) call t h now are = noting_windows (windows_within state actor call t call.commands are (Queue offset Runs) refl)
windows_steady actor state event call t h now are = noting_windows (windows_within state actor call t call.commands are event refl)

noting_on : (actor : ℕ) (state : Ideal) (event : Event) (call : Call) (t : ℕ → Option ℕ) → is_steady event ≡ true → ((id : ℕ) → targets_in (happened actor event state) id ≡ t id) → IsNoting call t → IsNoting (next_call state actor event call) t
noting_on actor state event call t h now (inl are) = windows_steady actor state event call t h now are
noting_on actor state event call t h now (inr is) = inr (enabling_steady actor state event call t h now is)

pub noting_after : (actor : ℕ) (events : List Event) (state : Ideal) (call : Call) (t : ℕ → Option ℕ) → IsTrue (list_all is_steady events) → IsWhole state.guest → ((id : ℕ) → targets_in state id ≡ t id) → IsNoting call t → IsNoting (call_after actor events state call) t
noting_after actor [] state call t h whole now is = is
noting_after actor (event ∷ events) state call t h whole now is =
    let parts = and_parts (is_steady event) (list_all is_steady events) h in
    let next : (id : ℕ) → targets_in (happened actor event state) id ≡ t id = λ id. steady_targets actor state whole id event parts.0 ∙ now id in
    noting_after actor events (happened actor event state) (next_call state actor event call) t parts.1 ((guest_is actor event state).whole whole) next (noting_on actor state event call t parts.0 next is)

pub noted_heads : (call : Call) (t : ℕ → Option ℕ) → IsNoting call t → HaveHeads call t call.commands
noted_heads call t (inl are) = heads_of are
noted_heads call t (inr is) = enabled_heads is
