-- That a guest is at its end is a proposition: it is known without who knows it.
use Rattle.std.proofs.Common.{ℕ, ◌<◌, List, Option, Some, None}
use Rattle.std.specs.Prelude.{◌^◌, IfSome}
use Rattle.std.proofs.Props.{props}
use Rattle.port_core.specs.Registers.{CpuRec}
use Rattle.port_core.specs.Words.{GuestShape, Route, Affinity, Target, IsRoute, IsSeat}
use Rattle.port_core.specs.declared.end.GuestWords.{GuestWords}
use Rattle.guest_end.specs.Home.{IsAtEnd}

some_prop : (bits : Option ℕ) (event : ℕ) → IsProp (IfSome bits (λ bits. event < 2 ^ bits))
some_prop None event = Prim.hlevel props
some_prop (Some bits) event = Prim.hlevel props

seat_prop : (seat : Option ℕ) → IsProp (IsSeat seat)
seat_prop None = Prim.hlevel props
seat_prop (Some vcpu) = Prim.hlevel props

route_prop : (route : Route) → IsProp (IsRoute route)
route_prop (Affinity affinity) = Prim.hlevel props
route_prop (Target target) = seat_prop target

pub end_prop : (shape : GuestShape) (words : GuestWords) (cpus : List CpuRec) → IsProp (IsAtEnd shape words cpus)
end_prop shape words cpus = Prim.hlevel (some_prop, seat_prop, route_prop, props)
