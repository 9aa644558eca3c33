-- Runs: their parts, and the steps of an actor in them.
use Rattle.std.proofs.Common.{◌≡◌, ℕ, ◌<◌, ◌==◌, Bool, true, false, cond, List, [], ◌∷◌, ◌++◌, map, filter, length, refl, sym, ap, subst, ◌∙◌}
use Rattle.std.proofs.lemmas.Bool.{eq-eqb, ne_eqb}
use Rattle.std.proofs.lemmas.List.{append-nil, append_assoc, map-append, length-set}
use Rattle.std.proofs.lemmas.List.Elements.{filter-append}
use Rattle.core_words.specs.Words.{GuestShape}
use Rattle.port_core.specs.declared.run.Entry.{Entry}
use Rattle.port_core.specs.After.{local_after}
use Rattle.port_core.specs.Laws.{RunsJoin}
use Rattle.port_core.specs.Port.{local_by}
use Rattle.port_core.specs.Run.{CoreState, Seat, IsRun, seat_at, after, end_of, own_steps}
use Rattle.port_core.specs.Actor.{actor_count}
use Rattle.port_core.proofs.FrameLemmas.{seat_changed}
use Rattle.port_core.proofs.PortLemmas.{local_joins}

run_joins : (shape : GuestShape) (state : CoreState) (early late : List Entry) → IsRun shape state early → IsRun shape (end_of shape state early) late → IsRun shape state (early ++ late)
run_joins shape state [] late first then = then
run_joins shape state (entry ∷ early) late first then = (first.0, run_joins shape (after shape state entry) early late first.1 then)

end_joins : (shape : GuestShape) (state : CoreState) (early late : List Entry) → end_of shape state (early ++ late) ≡ end_of shape (end_of shape state early) late
end_joins shape state [] late = refl
end_joins shape state (entry ∷ early) late = end_joins shape (after shape state entry) early late

pub runs_joined : RunsJoin
runs_joined = record { is_run = run_joins; end = end_joins }

-- the parts of a run are runs
pub run_splits : (shape : GuestShape) (state : CoreState) (early late : List Entry) → IsRun shape state (early ++ late) → IsRun shape state early × IsRun shape (end_of shape state early) late
run_splits shape state [] late run = (tt, run)
run_splits shape state (entry ∷ early) late run = let rest = run_splits shape (after shape state entry) early late run.1 in ((run.0, rest.0), rest.1)

-- The steps of an actor.

pub own_joins : (actor : ℕ) (early late : List Entry) → own_steps actor (early ++ late) ≡ own_steps actor early ++ own_steps actor late
own_joins actor early late =
    ap (map (λ entry. entry.made)) (filter-append (λ entry. entry.actor == actor) early late) ∙ map-append (λ (entry : Entry). entry.made) (filter (λ entry. entry.actor == actor) early) (filter (λ entry. entry.actor == actor) late)

-- an actor's own list after a step of any actor
own_after : (shape : GuestShape) (state : CoreState) (entry : Entry) (actor : ℕ) → length state.seats ≡ actor_count shape → entry.actor < actor_count shape → (seat_at (after shape state entry) actor).own ≡ (seat_at state actor).own ++ own_steps actor (entry ∷ [])
own_after shape state entry actor each there =
    seat_changed state.seats entry.actor actor seat (λ n one. one.own ≡ (seat_at state n).own ++ own_steps n (entry ∷ [])) (subst (λ n. entry.actor < n) (sym each) there) (sym (mine (entry.actor == entry.actor) (eq-eqb entry.actor entry.actor refl)))
    (λ apart. sym (others (entry.actor == actor) (ne_eqb entry.actor actor (λ e. apart (sym e)))))
  where
    seat : Seat
    seat = record { local = local_after shape entry.actor (seat_at state entry.actor).local entry.made.step entry.made.found; own = (seat_at state entry.actor).own ++ entry.made ∷ [] }

    mine : (b : Bool) → b ≡ true → (seat_at state entry.actor).own ++ map (λ (one : Entry). one.made) (cond b (entry ∷ []) []) ≡ (seat_at state entry.actor).own ++ entry.made ∷ []
    mine true e = refl
    mine false e = absurd (cc)

    others : (b : Bool) → b ≡ false → (seat_at state actor).own ++ map (λ (one : Entry). one.made) (cond b (entry ∷ []) []) ≡ (seat_at state actor).own
    others true e = absurd (cc)
    others false e = append-nil (seat_at state actor).own

-- and after a run: longer by its steps in the run
pub own_of_run :
    (shape : GuestShape) (state : CoreState) (entries : List Entry) (actor : ℕ) → length state.seats ≡ actor_count shape → IsRun shape state entries → (seat_at (end_of shape state entries) actor).own ≡ (seat_at state actor).own ++ own_steps actor entries
own_of_run shape state [] actor each run = sym (append-nil (seat_at state actor).own)
own_of_run shape state (entry ∷ entries) actor each run =
    own_of_run shape (after shape state entry) entries actor (length-set state.seats entry.actor _ ∙ each) run.1
    ∙ ap (λ own. own ++ own_steps actor entries) (own_after shape state entry actor each run.0.actor)
    ∙ append_assoc (seat_at state actor).own (own_steps actor (entry ∷ [])) (own_steps actor entries)
    ∙ ap (λ own. (seat_at state actor).own ++ own) (sym (own_joins actor (entry ∷ []) entries))

-- What an actor has for itself after a run: what its own steps made of it.

local_after_entry : (shape : GuestShape) (state : CoreState) (entry : Entry) (actor : ℕ) → length state.seats ≡ actor_count shape → entry.actor < actor_count shape
    → (seat_at (after shape state entry) actor).local ≡ local_by shape actor (seat_at state actor).local (own_steps actor (entry ∷ []))
local_after_entry shape state entry actor each there =
    seat_changed state.seats entry.actor actor seat (λ n one. one.local ≡ local_by shape n (seat_at state n).local (own_steps n (entry ∷ []))) (subst (λ n. entry.actor < n) (sym each) there)
    (sym (mine (entry.actor == entry.actor) (eq-eqb entry.actor entry.actor refl))) (λ apart. sym (others (entry.actor == actor) (ne_eqb entry.actor actor (λ e. apart (sym e)))))
  where
    seat : Seat
    seat = record { local = local_after shape entry.actor (seat_at state entry.actor).local entry.made.step entry.made.found; own = (seat_at state entry.actor).own ++ entry.made ∷ [] }

    mine : (b : Bool) → b ≡ true
        → local_by shape entry.actor (seat_at state entry.actor).local (map (λ (one : Entry). one.made) (cond b (entry ∷ []) [])) ≡ local_after shape entry.actor (seat_at state entry.actor).local entry.made.step entry.made.found
    mine true e = refl
    mine false e = absurd (cc)

    others : (b : Bool) → b ≡ false → local_by shape actor (seat_at state actor).local (map (λ (one : Entry). one.made) (cond b (entry ∷ []) [])) ≡ (seat_at state actor).local
    others true e = absurd (cc)
    others false e = refl

pub local_of_run :
    (shape : GuestShape) (state : CoreState) (entries : List Entry) (actor : ℕ) → length state.seats ≡ actor_count shape → IsRun shape state entries
    → (seat_at (end_of shape state entries) actor).local ≡ local_by shape actor (seat_at state actor).local (own_steps actor entries)
local_of_run shape state [] actor each run = refl
local_of_run shape state (entry ∷ entries) actor each run =
    local_of_run shape (after shape state entry) entries actor (length-set state.seats entry.actor _ ∙ each) run.1
    ∙ ap (λ local. local_by shape actor local (own_steps actor entries)) (local_after_entry shape state entry actor each run.0.actor)
    ∙ sym (local_joins shape actor (seat_at state actor).local (own_steps actor (entry ∷ [])) (own_steps actor entries))
    ∙ ap (local_by shape actor (seat_at state actor).local) (sym (own_joins actor (entry ∷ []) entries))
