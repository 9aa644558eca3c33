-- What has a thread of its own in a run (own choice).
use Rattle.vcpu_shelf.specs.Shelf.{seat_told}
use Rattle.vcpu_shelf.specs.Told.{ShelfTold}
use Rattle.thr_trip.specs.declared.worker.Worker.{Worker}
use Rattle.thr_trip.specs.declared.worker.Worker.TheVariants.{Pe, Device}
use Rattle.thr_trip.specs.Seat.{IsDoneSeat, IsFreeSeat}

-- a PE's seat is of this shelf; a device has done nothing yet
abbrev pub CanWork : {T D : Type 0} → (D → Type 0) → ShelfTold → Worker T D → Type 0
CanWork IsNew shelf (Pe pe) = IsFreeSeat shelf (seat_told pe.seat)
CanWork IsNew shelf (Device device) = IsNew device

-- a PE found all vCPUs done; a device did all that it had to do
abbrev pub HasWorked : {T D : Type 0} → (D → D → Type 0) → ShelfTold → Worker T D → Worker T D → Type 0
HasWorked HasFinished shelf (Pe before) (Pe after) = IsDoneSeat shelf (seat_told after.seat)
HasWorked HasFinished shelf (Device before) (Device after) = HasFinished before after
HasWorked HasFinished shelf before after = ⊥
