-- The world of a guest, and one more step of an actor in it.
use Rattle.std.proofs.Common.{◌≡◌, ℕ, ◌+◌, ◌<◌, ◌==◌, arith, zero, suc, false, IsTrue, List, [], ◌∷◌, ◌++◌, length, map, take, set, get_or, Some, inl, inr, refl, sym, ap, subst, ◌∙◌}
use Rattle.std.proofs.lemmas.Bool.Decides.{eqb_tells}
use Rattle.std.proofs.lemmas.List.{length-set, length-map, get_or-map, get_or-set_same, get_or-set_other}
use Rattle.std.proofs.lemmas.List.FromFn.{length-map-range_with_len}
use mathlib.Core.Option.{some, some-injective, some-ne-none}
use lib.ListN.{get_elem?}
use Rattle.port_core.specs.Words.{GuestShape, IsShape}
use Rattle.port_core.specs.Registers.{Maps}
use Rattle.port_core.specs.IdealGuests.CanOpen.{CanOpen}
use Rattle.port_core.specs.IdealGuests.declared.guest.IdealGuest.{IdealGuest}
use Rattle.port_core.specs.declared.atomic.Atomic.{Atomic}
use Rattle.port_core.specs.declared.local.Local.{Local}
use Rattle.port_core.specs.declared.run.Entry.{Entry}
use Rattle.port_core.specs.declared.step.CoreStep.{CoreStep}
use Rattle.port_core.specs.declared.step.CoreStep.TheVariants.{Claim, CommandDone}
use Rattle.port_core.specs.Actor.{actor_count}
use Rattle.port_core.specs.After.{local_after}
use Rattle.port_core.specs.Atomic.{applied, Makes}
use Rattle.port_core.specs.declared.run.Made.{Made}
use Rattle.port_core.specs.Condition.{Meets, has_room}
use Rattle.port_core.specs.Effect.{word_after}
use Rattle.port_core.specs.Known.{maps_by_step}
use Rattle.port_core.specs.Port.{keeps_tables}
use Rattle.port_core.specs.Run.{IsRun, IsSound, Takes, CoreState, Seat, opening, opening_seat, after, end_of, no_seat, seat_at, word_in}
use Rattle.port_core.specs.Step.{CanStep, word_of}
use Rattle.port_core.proofs.OpeningLemmas.{opens_sound}
use Rattle.port_core.proofs.RunLemmas.{runs_joined}
use Rattle.port_core.proofs.StepLemmas.{run_sound, found_valid}
use Rattle.port_core.proofs.StepMaps.{turn_stays}
use Rattle.port_ops.specs.declared.opened.Opened.{Opened}
use Rattle.port_ops.specs.World.{state_after, entry_in, locals_in, HasTurn}

-- the state of a guest after a run is sound
pub sound_after : (opened : Opened) (world : List Entry) → CanOpen opened.guest → IsRun opened.guest.shape (opening opened.guest opened.number) world → IsSound opened.guest.shape (state_after opened.guest opened.number world)
sound_after opened world good run = run_sound opened.guest.shape (opening opened.guest opened.number) world good.sound.shape (opens_sound opened.guest opened.number good) run

-- the state after one more step
pub one_more : (opened : Opened) (world : List Entry) (entry : Entry) → state_after opened.guest opened.number (world ++ entry ∷ []) ≡ after opened.guest.shape (state_after opened.guest opened.number world) entry
one_more opened world entry = runs_joined.end opened.guest.shape (opening opened.guest opened.number) world (entry ∷ [])

-- a run with one more step
pub run_more :
    (opened : Opened) (world : List Entry) (entry : Entry) → IsRun opened.guest.shape (opening opened.guest opened.number) world → Takes opened.guest.shape (state_after opened.guest opened.number world) entry
    → IsRun opened.guest.shape (opening opened.guest opened.number) (world ++ entry ∷ [])
run_more opened world entry run takes = runs_joined.is_run opened.guest.shape (opening opened.guest opened.number) world (entry ∷ []) run (takes, tt)

-- a step that an actor may make is one that the state takes, where it finds its word
pub takes_it :
    (shape : GuestShape) (state : CoreState) (actor : ℕ) (step : CoreStep) (found : ℕ) → actor < actor_count shape → CanStep shape actor step → Meets shape actor (seat_at state actor).local (seat_at state actor).own step
    → found ≡ word_in shape state (word_of shape actor step) → Takes shape state (entry_in shape state actor step found)
takes_it shape state actor step found there can meets is = record { actor = there; can = can; meets = meets; found = is; left = refl; tables = refl }

-- the word as an operation leaves it is the one that the step leaves
pub left_by_operation :
    (shape : GuestShape) (state : CoreState) (actor : ℕ) (step : CoreStep) (atomic : Atomic) (found : ℕ) → IsShape shape → IsSound shape state → Takes shape state (entry_in shape state actor step found)
    → Makes shape actor (seat_at state actor).local step atomic → applied atomic found ≡ word_after shape actor (seat_at state actor).local step found
left_by_operation shape state actor step atomic found is sound takes makes = makes found (found_valid shape state (entry_in shape state actor step found) is sound takes)

seats_kept : (shape : GuestShape) (state : CoreState) (entries : List Entry) → length (end_of shape state entries).seats ≡ length state.seats
seats_kept shape state [] = refl
seats_kept shape state (entry ∷ entries) = seats_kept shape (after shape state entry) entries ∙ length-set state.seats entry.actor _

-- each actor has a seat
pub each_seat : (guest : IdealGuest) (number : ℕ) (world : List Entry) → length (state_after guest number world).seats ≡ actor_count guest.shape
each_seat guest number world = seats_kept guest.shape (opening guest number) world ∙ length-map-range_with_len (opening_seat guest number) 0 (actor_count guest.shape)

pub each_local : (guest : IdealGuest) (number : ℕ) (world : List Entry) (locals : List Local) → locals ≡ locals_in (state_after guest number world) → length locals ≡ actor_count guest.shape
each_local guest number world locals are = ap length are ∙ length-map (state_after guest number world).seats (λ (seat : Seat). seat.local) ∙ each_seat guest number world

-- the one at an actor's number is the actor's
pub local_at :
    (guest : IdealGuest) (number : ℕ) (world : List Entry) (locals : List Local) (actor : ℕ) (d : Local) → locals ≡ locals_in (state_after guest number world) → actor < actor_count guest.shape → get_or locals actor d ≡ (seat_at (state_after guest number world) actor).local
local_at guest number world locals actor d are there =
    ap (λ l. get_or l actor d) are ∙ get_or-map (λ (seat : Seat). seat.local) (state_after guest number world).seats actor no_seat d (subst (λ n. actor < n) (sym (each_seat guest number world)) there)

-- a step that may be made while the tables are here leaves the maps
pub maps_same : (maps : Maps) (step : CoreStep) → IsTrue (keeps_tables false step) → maps_by_step maps step ≡ maps
maps_same maps (CommandDone offset stalled (Some words)) may = absurd (cc)
maps_same maps step may = refl

-- who has taken the tables keeps the ITS
pub taker_keeps :
    (opened : Opened) (world : List Entry) (taker actor : ℕ) (step : CoreStep) (found : ℕ) → actor < actor_count opened.guest.shape → IsTrue (keeps_tables (taker == actor) step) → HasTurn opened.guest.shape (state_after opened.guest opened.number world) taker
    → HasTurn opened.guest.shape (after opened.guest.shape (state_after opened.guest opened.number world) (entry_in opened.guest.shape (state_after opened.guest opened.number world) actor step found)) taker
taker_keeps opened world taker actor step found there may has =
    let shape = opened.guest.shape in
    let state = state_after opened.guest opened.number world in
    let seat : Seat = record { local = local_after shape actor (seat_at state actor).local step found; own = (seat_at state actor).own ++ (entry_in shape state actor step found).made ∷ [] } in
    record {
      there = has.there;
      turn = elim (eqb_tells taker actor) [
        | inl same ↦
            subst (λ a. IsTrue (get_or (set state.seats actor seat) a no_seat).local.turn) (sym same.1)
            (subst (λ s. IsTrue s.local.turn) (sym (get_or-set_same state.seats actor seat no_seat (subst (λ n. actor < n) (sym (each_seat opened.guest opened.number world)) there)))
            (turn_stays shape actor (seat_at state actor).local step found (subst (λ b. IsTrue (keeps_tables b step)) same.0 may) (subst (λ a. IsTrue (seat_at state a).local.turn) same.1 has.turn)))
        | inr differ ↦ subst (λ s. IsTrue s.local.turn) (sym (get_or-set_other state.seats actor taker seat no_seat differ.1)) has.turn
      ];
    }

-- a step that an actor may make finds room at the interface
pub room_of : (shape : GuestShape) (actor : ℕ) (local : Local) (own : List Made) (step : CoreStep) → Meets shape actor local own step → IsTrue (has_room step local)
room_of shape actor local own (Claim key seen) meets = meets
room_of shape actor local own step meets = refl

-- what each actor has for itself as a guest opens
pub map_twice : {A B C : Type 0} (f : A → B) (g : B → C) (xs : List A) → map (λ x. g (f x)) xs ≡ map g (map f xs)
map_twice f g [] = refl
map_twice f g (x ∷ xs) = ap (λ ys. g (f x) ∷ ys) (map_twice f g xs)

-- one more word of a list
take_suc : {A : Type 0} (xs : List A) (i : ℕ) (x : A) → get_elem? xs i ≡ some x → take (suc i) xs ≡ take i xs ++ x ∷ []
take_suc [] i x e = absurd (some-ne-none x (sym e))
take_suc (y ∷ ys) zero x e = ap (λ z. z ∷ []) (some-injective y x e)
take_suc (y ∷ ys) (suc i) x e = ap (λ zs. y ∷ zs) (take_suc ys i x e)

pub take_next : {A : Type 0} (xs : List A) (i : ℕ) (x : A) → get_elem? xs i ≡ some x → take (i + 1) xs ≡ take i xs ++ x ∷ []
take_next xs i x e = let same : i + 1 ≡ suc i = omega arith in ap (λ n. take n xs) same ∙ take_suc xs i x e

-- the only view of a table that has one
pub only_view : {A : Type 0} (x y : A) (id : ℕ) → get_elem? (x ∷ []) id ≡ some y → (id ≡ zero) × (x ≡ y)
only_view x y zero e = (refl, some-injective x y e)
only_view x y (suc id) e = absurd (some-ne-none y (sym e))
