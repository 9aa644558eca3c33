-- What follows from the steps of a guest that were a run.
use Rattle.std.proofs.Common.{◌≡◌, ℕ, ◌<◌, ◌++◌, List, [], IsTrue, true, false, Some, sym, ap, subst, ◌∙◌}
use Rattle.std.specs.Option.{ForSome}
use Rattle.std.proofs.Props.{props}
use Rattle.std.proofs.Math.Logic.{∥∥₁_elim}
use Rattle.std.proofs.lemmas.Bool.{eq-eqb}
use Rattle.port_ops.specs.Words.{is_number}
use Rattle.port_ops.specs.PortCore.IdealGuests.CanOpen.{CanOpen}
use Rattle.port_ops.specs.PortCore.IdealGuests.declared.guest.IdealGuest.{IdealGuest}
use Rattle.port_ops.specs.PortCore.declared.run.Entry.{Entry}
use Rattle.port_ops.specs.PortCore.Actor.{actor_count}
use Rattle.port_ops.specs.PortCore.Known.{known_maps}
use Rattle.port_ops.specs.PortCore.Port.{local_by}
use Rattle.port_ops.specs.PortCore.Run.{IsRun, IsSound, opening, own_steps, opening_local_of}
use Rattle.port_ops.specs.World.{HasTurn, state_after}
use Rattle.port_ops.proofs.PortCore.OpeningLemmas.{opens_sound, seat_opens}
use Rattle.port_ops.proofs.PortCore.RunLemmas.{own_of_run, local_of_run}
use Rattle.port_ops.proofs.PortCore.StepLemmas.{run_sound}
use Rattle.port_ops.proofs.PortCore.StepMaps.{one_has_turn}
use Rattle.port_seq.specs.Told.{AreMade, GuestTold, seen_of, state_of}

-- the state of a guest is sound
pub world_sound : (guest : IdealGuest) (number : ℕ) (world : List Entry) → CanOpen guest → IsRun guest.shape (opening guest number) world → IsSound guest.shape (state_after guest number world)
world_sound guest number world good run = run_sound guest.shape (opening guest number) world good.sound.shape (opens_sound guest number good) run

pub told_sound : (told : GuestTold) → CanOpen told.guest → IsRun told.guest.shape (opening told.guest told.number) told.world → IsSound told.guest.shape (state_of told)
told_sound told good run = world_sound told.guest told.number told.world good run

-- a guest that just opened
pub opening_sound : (guest : IdealGuest) (number : ℕ) (world : List Entry) → world ≡ [] → CanOpen guest → IsSound guest.shape (state_after guest number world)
opening_sound guest number world e good = world_sound guest number world good (subst (IsRun guest.shape (opening guest number)) (sym e) tt)

-- what each actor has for itself is what its steps made of what it opened with
pub each_made : (guest : IdealGuest) (number : ℕ) (world : List Entry) → CanOpen guest → IsRun guest.shape (opening guest number) world → AreMade guest number world
each_made guest number world good run = λ actor there.
    let shape = guest.shape in
    let opens = opening guest number in
    let each = (opens_sound guest number good).actors in
    let seat = seat_opens guest number actor there in
    local_of_run shape opens world actor each run
    ∙ ap (λ s. local_by shape actor s.local (own_steps actor world)) seat
    ∙ ap (local_by shape actor (opening_local_of guest number actor)) (sym (own_of_run shape opens world actor each run ∙ ap (λ s. s.own ++ own_steps actor world) seat))

pub opening_made : (guest : IdealGuest) (number : ℕ) (world : List Entry) → world ≡ [] → CanOpen guest → AreMade guest number world
opening_made guest number world e good = each_made guest number world good (subst (IsRun guest.shape (opening guest number)) (sym e) tt)

-- the actor that has the ITS knows the maps
pub known_here :
    (told : GuestTold) → CanOpen told.guest → told.actor < actor_count told.guest.shape → ∥ IsRun told.guest.shape (opening told.guest told.number) told.world ∥₁ → IsTrue (seen_of told).local.turn → known_maps (seen_of told).own ≡ (state_of told).maps
known_here told good there run turn = ∥∥₁_elim run (Prim.hlevel props) (λ is. (told_sound told good is).known told.actor there turn)

-- while it has not taken the tables, no actor has
pub none_took :
    (told : GuestTold) → CanOpen told.guest → told.actor < actor_count told.guest.shape → ∥ IsRun told.guest.shape (opening told.guest told.number) told.world ∥₁ → ForSome told.taken (HasTurn told.guest.shape (state_of told)) → IsTrue (seen_of told).local.turn
    → (seen_of told).taken ≡ false → (taker : ℕ) → told.taken ≡ Some taker → ⊥
none_took told good there run turns turn home taker e =
    ∥∥₁_elim run (Prim.hlevel props)
    (λ is.
    let has = turns taker e in
    let same : taker ≡ told.actor = one_has_turn told.guest.shape (state_of told) taker told.actor (told_sound told good is) has.there there has.turn turn in
    let yes : is_number told.actor told.taken ≡ true = ap (is_number told.actor) e ∙ eq-eqb taker told.actor same in
    let no : true ≡ false = sym yes ∙ home in
    absurd (cc))
