-- What an actor's own list says of what it has for itself is what it has in the run.
use Rattle.std.proofs.Common.{◌≡◌, ◌≢◌, ℕ, ◌<◌, ◌==◌, Bool, true, false, cond, List, [], ◌∷◌, ◌++◌, map, filter, length, is_none, append-nil, refl, sym, subst, ◌∙◌, arith}
use Rattle.std.proofs.lemmas.Bool.{eqb-true}
use Rattle.std.proofs.lemmas.Grind.{common_steps}
use Rattle.std.proofs.lemmas.List.{append_assoc, get_or-set_same, get_or-set_other, length-set}
use Rattle.std.proofs.lemmas.List.FromFn.{length-map-range_with_len, get_or-map-range_with_len}
use Rattle.floor_histories.specs.Words.{GuestShape}
use Rattle.floor_histories.specs.Histories.{IdealGuest}
use Rattle.floor_lists.specs.Lists.{Offer}
use Rattle.port_core.specs.declared.local.Local.{Local}
use Rattle.port_core.specs.declared.run.Made.{Made}
use Rattle.port_core.specs.After.{local_after}
use Rattle.port_core.specs.Effect.{succeeds}
use Rattle.port_core.specs.Place.{index_words}
use Rattle.port_core.specs.Port.{local_by}
use Rattle.port_core.specs.Run.{CoreState, Seat, no_seat, seat_at, after, opening, opening_seat}
use Rattle.port_core.specs.Actor.{actor_count}
use Rattle.core_proper.specs.Ideal.{after_moment, end_of_moments}
use Rattle.core_proper.specs.Parts.{Act, begins, makes, ends, CoreMoment, own_acts, entry_by}
use Rattle.core_proper.specs.Progress.{Progress, filled, looks_on, goes_on, scan_on, changed_by, stepped, progressed, progress_of, progress_in, opening_progress}
use Rattle.core_proper.specs.Scan.{Purpose, planned, trapped, bare, Scan, idle, taking, looking, claiming, next_cand}
use Rattle.core_proper.specs.Laws.{IsSeatOf}

-- a scan goes on

filled_keeps : (shape : GuestShape) (vcpu : ℕ) (purpose : Purpose) (offers : List Offer) (p : Progress) (seat : Seat) → IsSeatOf p seat → IsSeatOf (filled shape vcpu purpose offers p) seat
filled_keeps shape vcpu planned offers p seat is = record { local = is.local; own = is.own }
filled_keeps shape vcpu trapped offers p seat is = record { local = is.local; own = is.own }
filled_keeps shape vcpu bare offers p seat is = record { local = is.local; own = is.own }

looks_keep : (shape : GuestShape) (vcpu : ℕ) (purpose : Purpose) (from : ℕ) (offers : List Offer) (p : Progress) (seat : Seat) → IsSeatOf p seat → IsSeatOf (looks_on shape vcpu purpose from offers p) seat
looks_keep shape vcpu purpose from offers p seat is = by_end (is_none (next_cand shape vcpu p.local.cands from))
  where
    by_end : (b : Bool) → IsSeatOf (cond b (filled shape vcpu purpose offers p) (record p { scan = looking purpose from offers })) seat
    by_end true = filled_keeps shape vcpu purpose offers p seat is
    by_end false = record { local = is.local; own = is.own }

goes_keep : (shape : GuestShape) (vcpu : ℕ) (scan : Scan) (p : Progress) (seat : Seat) → IsSeatOf p seat → IsSeatOf (goes_on shape vcpu scan p) seat
goes_keep shape vcpu idle p seat is = is
goes_keep shape vcpu (taking purpose words) p seat is = by_last (words == index_words shape)
  where
    by_last : (b : Bool) → IsSeatOf (cond b (looks_on shape vcpu purpose 0 [] p) p) seat
    by_last true = looks_keep shape vcpu purpose 0 [] p seat is
    by_last false = is
goes_keep shape vcpu (looking purpose from offers) p seat is = looks_keep shape vcpu purpose from offers p seat is
goes_keep shape vcpu (claiming claims takes) p seat is = is

scan_keeps : (shape : GuestShape) (vcpu : ℕ) (p : Progress) (seat : Seat) → IsSeatOf p seat → IsSeatOf (scan_on shape vcpu p) seat
scan_keeps shape vcpu p seat is = let on = goes_keep shape vcpu p.scan p seat is in record { local = on.local; own = on.own }

-- a step

seat_after : GuestShape → ℕ → Made → Seat → Seat
seat_after shape actor made seat = record { local = local_after shape actor seat.local made.step made.found; own = seat.own ++ made ∷ [] }

step_follows : (shape : GuestShape) (actor : ℕ) (made : Made) (p : Progress) (seat : Seat) → IsSeatOf p seat → IsSeatOf (stepped shape actor made p) (seat_after shape actor made seat)
unfolding seat_after
step_follows shape actor made p seat is =
    let done = succeeds shape actor p.local made.step made.found in
    let later = changed_by shape actor made.step made.found done p in
    scan_keeps shape actor (record later { local = local_after shape actor p.local made.step made.found; own = p.own ++ made ∷ [] }) (seat_after shape actor made seat)
    (record { local = rw is.local refl; own = rw is.own refl })

-- some steps

pub steps_follow :
    (shape : GuestShape) (actor : ℕ) (part : List Made) (p : Progress) (local : Local) (own : List Made) → IsSeatOf p (record { local = local; own = own })
    → IsSeatOf (progress_of shape actor p (map makes part)) (record { local = local_by shape actor local part; own = own ++ part })
unfolding seat_after
steps_follow shape actor [] p local own is = record { local = is.local; own = is.own ∙ sym (append-nil own) }
steps_follow shape actor (made ∷ part) p local own is =
    let first = step_follows shape actor made p (record { local = local; own = own }) is in
    let rest = steps_follow shape actor part (stepped shape actor made p) (local_after shape actor local made.step made.found) (own ++ made ∷ []) first in
    record { local = rest.local; own = rest.own ∙ append_assoc own (made ∷ []) part }

-- a moment of the actor, and one of another

act_follows : (shape : GuestShape) (actor : ℕ) (state : CoreState) (p : Progress) (act : Act) → actor < length state.seats → IsSeatOf p (seat_at state actor) → IsSeatOf (progressed shape actor p act) (seat_at (after_moment shape state (record { actor = actor; act = act })) actor)
unfolding seat_after
act_follows shape actor state p (begins operation lrs) there is = record { local = is.local; own = is.own }
act_follows shape actor state p (makes made) there is =
    let same : seat_at (after shape state (entry_by actor made)) actor ≡ seat_after shape actor made (seat_at state actor)
    = get_or-set_same state.seats actor (seat_after shape actor made (seat_at state actor)) no_seat there in
    subst (IsSeatOf (stepped shape actor made p)) (sym same) (step_follows shape actor made p (seat_at state actor) is)
act_follows shape actor state p (ends answer) there is = record { local = is.local; own = is.own }

other_stays : (shape : GuestShape) (actor other : ℕ) (state : CoreState) (act : Act) → actor ≢ other → seat_at (after_moment shape state (record { actor = other; act = act })) actor ≡ seat_at state actor
unfolding seat_after
other_stays shape actor other state (begins operation lrs) apart = refl
other_stays shape actor other state (makes made) apart = get_or-set_other state.seats other actor (seat_after shape other made (seat_at state other)) no_seat apart
other_stays shape actor other state (ends answer) apart = refl

seats_stay : (shape : GuestShape) (other : ℕ) (state : CoreState) (act : Act) → length (after_moment shape state (record { actor = other; act = act })).seats ≡ length state.seats
unfolding seat_after
seats_stay shape other state (begins operation lrs) = refl
seats_stay shape other state (makes made) = length-set state.seats other (seat_after shape other made (seat_at state other))
seats_stay shape other state (ends answer) = refl

-- a run

follows : (shape : GuestShape) (actor : ℕ) (moments : List CoreMoment) (state : CoreState) (p : Progress) → actor < length state.seats → IsSeatOf p (seat_at state actor) → IsSeatOf (progress_of shape actor p (own_acts actor moments)) (seat_at (end_of_moments shape state moments) actor)
follows shape actor [] state p there is = is
follows shape actor (moment ∷ moments) state p there is =
    let still = subst (λ n. actor < n) (sym (seats_stay shape moment.actor state moment.act)) there in
    by_actor (moment.actor == actor) refl (λ q so. follows shape actor moments (after_moment shape state moment) q still so)
  where
    by_actor : (b : Bool) → (moment.actor == actor) ≡ b → ((q : Progress) → IsSeatOf q (seat_at (after_moment shape state moment) actor) → IsSeatOf (progress_of shape actor q (own_acts actor moments)) (seat_at (end_of_moments shape (after_moment shape state moment) moments) actor)) → IsSeatOf (progress_of shape actor p (map (λ moment. moment.act) (cond b (moment ∷ filter (λ moment. moment.actor == actor) moments) (filter (λ moment. moment.actor == actor) moments)))) (seat_at (end_of_moments shape (after_moment shape state moment) moments) actor)
    by_actor true e rest =
        rest (progressed shape actor p moment.act)
        (subst (λ a. IsSeatOf (progressed shape actor p moment.act) (seat_at (after_moment shape state (record { actor = a; act = moment.act })) actor)) (sym (eqb-true moment.actor actor e)) (act_follows shape actor state p moment.act there is))
    by_actor false e rest = rest p (subst (IsSeatOf p) (sym (other_stays shape actor moment.actor state moment.act (λ same. grind (arith, common_steps, e, same)))) is)

pub progress_follows : (guest : IdealGuest) (number : ℕ) (moments : List CoreMoment) (actor : ℕ) → actor < actor_count guest.shape → IsSeatOf (progress_in guest number moments actor) (seat_at (end_of_moments guest.shape (opening guest number) moments) actor)
progress_follows guest number moments actor there =
    let seats = length-map-range_with_len (opening_seat guest number) 0 (actor_count guest.shape) in
    let mine : seat_at (opening guest number) actor ≡ opening_seat guest number actor
    = get_or-map-range_with_len (opening_seat guest number) 0 (actor_count guest.shape) actor actor no_seat there (omega arith) in
    follows guest.shape actor moments (opening guest number) (opening_progress guest number actor) (subst (λ n. actor < n) (sym seats) there)
    (subst (IsSeatOf (opening_progress guest number actor)) (sym mine) (record { local = refl; own = refl }))
