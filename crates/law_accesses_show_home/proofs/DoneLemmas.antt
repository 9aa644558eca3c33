-- What an event leaves of the turns that changed an interrupt since it got to its interface, and of what these have done.
use Rattle.std.proofs.Common.{◌≡◌, ◌≢◌, ℕ, ◌<◌, ◌≤◌, ◌==◌, ◌&&◌, ◌⊎◌, inl, inr, Bool, true, false, IsTrue, [], ◌∷◌, ◌++◌, length, slice_index_or, Contains, Option, Some, None, is_some, refl, sym, ap, ◌∙◌, subst, arith}
use Rattle.std.specs.Option.{option_map_or}
use Rattle.std.proofs.lemmas.Bool.{cases_eq, and_parts, and_from, eqb-true, eq-eqb}
use Rattle.std.proofs.lemmas.List.Elements.{Contains-append_left, Contains-append_right, Contains-append_cases}
use Rattle.law_home_commutes.specs.Words.{Key, GuestShape, has_interrupt, interrupt_count, place_of, IsShape}
use Rattle.law_home_commutes.proofs.GicOpen.KeyLemmas.{place_within}
use Rattle.law_home_commutes.specs.Calls.{Event, Up, Down, Touch, Leave, Found, Happens, CanHappen}
use Rattle.law_home_commutes.specs.GicCall.declared.event.Event.TheVariants.{Raise, Queue}
use Rattle.law_home_commutes.specs.Histories.{Turn, Doing, Changes, Track, doing_of, changes_of, turn_of, changed_by, with_changes, after_changes, after_doing, tracked, Ideal}
use Rattle.law_scans_miss_none.proofs.VcpuRefill.ElementLemmas.{Contains-cases, Contains-here, Contains-nothing}
use Rattle.law_scans_miss_none.specs.Excuse.{is_current}
use Rattle.law_scans_miss_none.proofs.TrackLemmas.{subject, kind_of, Kind, reaches, alters, keeps, key_cases, changes_here, changes_apart, as_changed, as_reached, happens_changes, happens_here, happens_other, is_queue, doing_kept, number_kept}

-- the number of an actor's turn never goes down
number_up : (ideal : Ideal) (actor : ℕ) (event : Event) (doing : Doing) → doing.number ≤ (after_doing ideal actor event doing).number
number_up ideal actor event doing = of (is_queue event) refl
  where
    queued : (e : Event) → is_queue e ≡ true → doing.number ≤ (after_doing ideal actor e doing).number
    queued (Queue offset change) h = omega arith
    queued e h = absurd (cc)

    of : (b : Bool) → is_queue event ≡ b → doing.number ≤ (after_doing ideal actor event doing).number
    of true e = queued event e
    of false e = omega (arith, number_kept ideal actor event doing e)

-- what it did stays while its number does
done_kept : (ideal : Ideal) (actor : ℕ) (event : Event) (doing : Doing) (key : Key) → (after_doing ideal actor event doing).number ≡ doing.number → Contains doing.done key → Contains (after_doing ideal actor event doing).done key
done_kept ideal actor event doing key = of event
  where
    more : (o : Option Key) → Contains doing.done key → Contains (option_map_or (λ k. doing.done ++ k ∷ []) o doing.done) key
    more None h = h
    more (Some k) h = Contains-append_left doing.done (k ∷ []) key h

    of : (e : Event) → (after_doing ideal actor e doing).number ≡ doing.number → Contains doing.done key → Contains (after_doing ideal actor e doing).done key
    of (Queue offset change) same h = absurd (omega (arith, same))
    of (Raise k) same h = more (Some k) h
    of (Up k) same h = more (Some k) h
    of (Down k) same h = more (Some k) h
    of (Touch k touching) same h = more (Some k) h
    of event same h = h

-- an event that changes an interrupt, and is no leave, is one of those that its actor has done then
done_now : (ideal : Ideal) (actor : ℕ) (event : Event) (doing : Doing) (key : Key) → changed_by event ≡ Some key → ((vcpu : ℕ) → event ≡ Leave key vcpu → ⊥) → Contains (after_doing ideal actor event doing).done key
done_now ideal actor event doing key = of event
  where
    pushed : (k : Key) → Some k ≡ Some key → Contains (doing.done ++ k ∷ []) key
    pushed k e = subst (λ j. Contains (doing.done ++ k ∷ []) j) (same k e) (Contains-append_right doing.done (k ∷ []) k (Contains-here k []))
      where
        same : (x : Key) → Some x ≡ Some key → x ≡ key
        same x e = cc

    of : (e : Event) → changed_by e ≡ Some key → ((vcpu : ℕ) → e ≡ Leave key vcpu → ⊥) → Contains (after_doing ideal actor e doing).done key
    of (Raise k) h stays = pushed k h
    of (Up k) h stays = pushed k h
    of (Down k) h stays = pushed k h
    of (Touch k touching) h stays = pushed k h
    of (Leave k vcpu) h stays = absurd (stays vcpu (leaves k h))
      where
        leaves : (x : Key) → Some x ≡ Some key → Leave x vcpu ≡ Leave key vcpu
        leaves x e = cc
    of e h stays = absurd (cc)

-- A happening.

module _ (shape : GuestShape) (good : IsShape shape) (ideal : Ideal) (track : Track) (actor : ℕ) (event : Event) (found : Found) (same : ideal.guest.shape ≡ shape) (can : CanHappen shape event) (each : length track.changes ≡ interrupt_count shape) (in_it : actor < length track.doings) where
  abbrev after : Track
  after = tracked ideal (Happens actor event found) track

  here : doing_of after actor ≡ after_doing ideal actor event (doing_of track actor)
  here = happens_here shape good ideal actor event found track same can in_it

  other : (one : ℕ) → one ≢ actor → doing_of after one ≡ doing_of track one
  other one differ = happens_other shape good ideal actor event found track one same can differ

  pub numbers_up : (one : ℕ) → (doing_of track one).number ≤ (doing_of after one).number
  numbers_up one = elim (cases_eq one actor) [
    | inl e ↦ subst (λ n. (doing_of track n).number ≤ (doing_of after n).number) (sym e) (subst (λ (d : Doing). (doing_of track actor).number ≤ d.number) (sym here) (number_up ideal actor event (doing_of track actor)))
    | inr differ ↦ subst (λ (d : Doing). (doing_of track one).number ≤ d.number) (sym (other one differ)) (omega arith)
  ]

  -- who changed the interrupt since then
  pub turns_before : (key : Key) → IsTrue (has_interrupt shape key) → (turn : Turn) → Contains (changes_of shape after key).since turn → Contains (changes_of shape track key).since turn ⊎ ((turn ≡ turn_of track actor) × (changed_by event ≡ Some key))
  turns_before key there turn h = of (kind_of shape actor event track can) (subst (λ (c : Changes). Contains c.since turn) (ap (λ cs. slice_index_or {A = Changes} cs (place_of shape key) (record { last = None; since = [] })) (happens_changes shape good ideal actor event found track same can)) h)
    where
      same_some : (a b : Key) → Some a ≡ Some b → a ≡ b
      same_some a b e = cc

      kept : (subject event ≡ Some key → ⊥) → Contains (changes_of shape (after_changes shape actor event track) key).since turn → Contains (changes_of shape track key).since turn
      kept apart has = subst (λ (c : Changes). Contains c.since turn) (changes_apart shape good actor event track can key there apart) has

      of : Kind shape actor event track → Contains (changes_of shape (after_changes shape actor event track) key).since turn → Contains (changes_of shape track key).since turn ⊎ ((turn ≡ turn_of track actor) × (changed_by event ≡ Some key))
      of (keeps e changed is) has = inl (kept (λ s. none_some (sym is ∙ s)) has)
        where
          none_some : None ≡ Some key → ⊥
          none_some e = cc
      of (reaches k here e changed is) has = elim (key_cases k key) [
        | inr differ ↦ inl (kept (λ s. differ (same_some k key (sym is ∙ s))) has)
        | inl same ↦ absurd (Contains-nothing turn (subst (λ (c : Changes). Contains c.since turn) (ap (λ t. changes_of shape t key) e ∙ reached_now k same) has))
      ]
        where
          reached_now : (j : Key) → j ≡ key → changes_of shape (with_changes shape j as_reached track) key ≡ as_reached (changes_of shape track key)
          reached_now j same = subst (λ i. changes_of shape (with_changes shape i as_reached track) key ≡ as_reached (changes_of shape track key)) (sym same) (changes_here shape key as_reached track (subst (λ n. place_of shape key < n) (sym each) (place_within shape key good there)))
      of (alters k here e changed is) has = elim (key_cases k key) [
        | inr differ ↦ inl (kept (λ s. differ (same_some k key (sym is ∙ s))) has)
        | inl same ↦
            elim (Contains-append_cases (changes_of shape track key).since (turn_of track actor ∷ []) turn (subst (λ (c : Changes). Contains c.since turn) (ap (λ t. changes_of shape t key) e ∙ changed_now k same) has)) [
              | inl old ↦ inl old
              | inr new ↦ elim (Contains-cases (turn_of track actor) turn [] new) [ inl is_it ↦ inr (sym is_it, changed ∙ ap Some same) | inr nothing ↦ absurd (Contains-nothing turn nothing) ]
            ]
      ]
        where
          changed_now : (j : Key) → j ≡ key → changes_of shape (with_changes shape j (as_changed track actor) track) key ≡ as_changed track actor (changes_of shape track key)
          changed_now j same = subst (λ i. changes_of shape (with_changes shape i (as_changed track actor) track) key ≡ as_changed track actor (changes_of shape track key)) (sym same) (changes_here shape key (as_changed track actor) track (subst (λ n. place_of shape key < n) (sym each) (place_within shape key good there)))

  -- a turn that goes on went on before, and what it has done stays
  pub still_done : (turn : Turn) → turn.number ≤ (doing_of track turn.actor).number → IsTrue (is_current after turn) → (key : Key) → (IsTrue (is_current track turn) → Contains (doing_of track turn.actor).done key) → Contains (doing_of after turn.actor).done key
  still_done turn low current key done = elim (cases_eq turn.actor actor) [
    | inr differ ↦ subst (λ (d : Doing). Contains d.done key) (sym (other turn.actor differ)) (done (subst (λ (d : Doing). IsTrue (is_some d.operation && d.number == turn.number)) (other turn.actor differ) current))
    | inl e ↦
        let mine : doing_of after turn.actor ≡ after_doing ideal actor event (doing_of track turn.actor) = subst (λ n. doing_of after n ≡ after_doing ideal actor event (doing_of track n)) (sym e) here in
        let now = and_parts (is_some (after_doing ideal actor event (doing_of track turn.actor)).operation) ((after_doing ideal actor event (doing_of track turn.actor)).number == turn.number) (subst (λ (d : Doing). IsTrue (is_some d.operation && d.number == turn.number)) mine current) in
        let number : (after_doing ideal actor event (doing_of track turn.actor)).number ≡ turn.number = eqb-true (after_doing ideal actor event (doing_of track turn.actor)).number turn.number now.1 in
        let stays : (after_doing ideal actor event (doing_of track turn.actor)).number ≡ (doing_of track turn.actor).number = omega (arith, number, low, number_up ideal actor event (doing_of track turn.actor)) in
        let before : IsTrue (is_current track turn) =
        and_from (is_some (doing_of track turn.actor).operation) ((doing_of track turn.actor).number == turn.number) (subst (λ o. IsTrue (is_some o)) (doing_kept ideal actor event (doing_of track turn.actor)) now.0) (eq-eqb (doing_of track turn.actor).number turn.number (sym stays ∙ number)) in
        subst (λ (d : Doing). Contains d.done key) (sym mine) (done_kept ideal actor event (doing_of track turn.actor) key stays (done before))
  ]

  -- and the event's own
  pub now_done : (key : Key) → changed_by event ≡ Some key → ((vcpu : ℕ) → event ≡ Leave key vcpu → ⊥) → Contains (doing_of after actor).done key
  now_done key changed stays = subst (λ (d : Doing). Contains d.done key) (sym here) (done_now ideal actor event (doing_of track actor) key changed stays)
