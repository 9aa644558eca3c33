-- That a guest can open, and what a port tells, is true in one way.
use Rattle.std.specs.Prelude.{ℕ, ◌<◌, ◌^◌, IfSome, Option, Some, None}
use Rattle.std.proofs.Props.{props}
use Rattle.port_core.specs.Words.{Key, GuestShape, Route, Affinity, Target, IsRoute, IsSeat}
use Rattle.port_core.specs.IdealGuests.CanOpen.{CanOpen}
use Rattle.port_core.specs.IdealGuests.declared.guest.IdealGuest.{IdealGuest}
use Rattle.port_core.specs.Port.{Seen, IsPort}
use Rattle.port_core.specs.Valid.{AreMarks}

some_prop : (bits : Option ℕ) (event : ℕ) → IsProp (IfSome bits (λ bits. event < 2 ^ bits))
some_prop None event = Prim.hlevel props
some_prop (Some bits) event = Prim.hlevel props

seat_prop : (seat : Option ℕ) → IsProp (IsSeat seat)
seat_prop None = Prim.hlevel props
seat_prop (Some vcpu) = Prim.hlevel props

route_prop : (route : Route) → IsProp (IsRoute route)
route_prop (Affinity affinity) = Prim.hlevel props
route_prop (Target target) = seat_prop target

pub can_open_prop : (guest : IdealGuest) → IsProp (CanOpen guest)
can_open_prop guest = Prim.hlevel (some_prop, seat_prop, route_prop, props)

marks_prop : (shape : GuestShape) (key : Option Key) (set : ℕ) → IsProp (AreMarks shape key set)
marks_prop shape None set = Prim.hlevel props
marks_prop shape (Some key) set = Prim.hlevel props

pub port_prop : (seen : Seen) → IsProp (IsPort seen)
port_prop seen = Prim.hlevel (can_open_prop, marks_prop, props)
