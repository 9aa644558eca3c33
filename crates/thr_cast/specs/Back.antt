-- vCPUs that came back from the shelf (own choice).
use Rattle.std.specs.Prelude.{◌≡◌, List, [], ◌∷◌, map, Option, Some, None}
use Rattle.thr_trip.specs.declared.naming.Naming.{Ghosts}
use Rattle.thr_trip.specs.declared.trip.Trip.{Trip}
use Rattle.thr_trip.specs.Told.{trip_told}
use Rattle.thr_trip.specs.Trip.{TripTold}
use Rattle.thr_cast.specs.declared.answers.Heard.{Heard}
use Rattle.thr_cast.specs.declared.back.Back.{Back}

-- those that lie in some slots
abbrev pub trips_in : {J : Type 0} {run : Ghosts J} → List (Option (Trip J run)) → List TripTold
trips_in [] = []
trips_in (Some trip ∷ slots) = trip_told trip ∷ trips_in slots
trips_in (None ∷ slots) = trips_in slots

-- what a vCPU was answered
abbrev pub heard_of : TripTold → Heard
heard_of trip = record { name = record { guest = trip.vcpu.guest; vcpu = trip.vcpu.vcpu }; answers = trip.answers }

-- they brought back what each was answered and the record of its CPU interface
pub record BroughtBack (trips : List TripTold) (back : Back) : Type 0 where
  pub heard : back.heard ≡ map heard_of trips
  pub cpus : back.cpus ≡ map (λ trip. trip.vcpu.cpu) trips
