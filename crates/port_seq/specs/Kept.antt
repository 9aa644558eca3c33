-- What is true of all that a port of one thread tells.
use Rattle.std.specs.Prelude.{◌≡◌, ℕ, ◌<◌, IsTrue, false, Option, Some, None}
use Rattle.std.specs.Option.{ForSome}
use Rattle.std.proofs.Common.{subst, refl}
use Rattle.std.proofs.Math.Logic.{∥∥₁_elim}
use Rattle.port_ops.specs.Words.{is_number}
use Rattle.std.proofs.lemmas.Bool.{eqb-true}
use Rattle.port_ops.specs.PortCore.IdealGuests.CanOpen.{CanOpen}
use Rattle.port_ops.specs.PortCore.Actor.{actor_count}
use Rattle.port_ops.specs.PortCore.Port.{IsPort}
use Rattle.port_ops.specs.PortCore.Run.{IsRun, IsSound, opening, seat_at}
use Rattle.port_ops.specs.Props.{port_prop}
use Rattle.port_seq.specs.Told.{AreMade, GuestTold, seen_of, state_of}
use Rattle.port_ops.specs.World.{HasTurn}

-- of a guest is told what a port of it keeps: the guest could open and has the actor, the steps so far are a run, and the actor that has taken the tables has the ITS
pub record IsTold (told : GuestTold) : Type 0 where
  pub good : CanOpen told.guest
  pub there : told.actor < actor_count told.guest.shape
  pub run : ∥ IsRun told.guest.shape (opening told.guest told.number) told.world ∥₁
  pub turn : ForSome told.taken (HasTurn told.guest.shape (state_of told))

-- no actor of the guest has the ITS
abbrev pub IsFree : GuestTold → Type 0
IsFree told = (actor : ℕ) → actor < actor_count told.guest.shape → (seat_at (state_of told) actor).local.turn ≡ false

-- then none has taken the tables
pub untaken : (told : GuestTold) → IsTold told → IsFree told → told.taken ≡ None
untaken told is free = of told.taken refl
  where
    of : (taken : Option ℕ) → told.taken ≡ taken → taken ≡ None
    of None e = refl
    of (Some actor) e = absurd (let has = is.turn actor e in let yes = has.turn in let no = free actor has.there in cc)

-- the actor that has taken the tables has the ITS
turn_of_taker : (told : GuestTold) → ForSome told.taken (HasTurn told.guest.shape (state_of told)) → IsTrue (is_number told.actor told.taken) → IsTrue (seat_at (state_of told) told.actor).local.turn
turn_of_taker told turn = of told.taken refl
  where
    of : (taken : Option ℕ) → told.taken ≡ taken → IsTrue (is_number told.actor taken) → IsTrue (seat_at (state_of told) told.actor).local.turn
    of None e h = absurd (cc)
    of (Some n) e h = subst (λ a. IsTrue (seat_at (state_of told) a).local.turn) (eqb-true n told.actor h) (turn n e).turn

-- then all that the port tells of its actor is so
pub told_is_port :
    (told : GuestTold) → CanOpen told.guest → told.actor < actor_count told.guest.shape → ∥ IsSound told.guest.shape (state_of told) ∥₁ → AreMade told.guest told.number told.world → ForSome told.taken (HasTurn told.guest.shape (state_of told)) → IsPort (seen_of told)
told_is_port told good there sound made turn =
    ∥∥₁_elim sound (port_prop (seen_of told))
    (λ is. record { good = good; actor = there; local = is.locals told.actor there; made = made told.actor there; turn = turn_of_taker told turn })
