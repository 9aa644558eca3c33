-- One more vCPU came back.
use Rattle.std.proofs.Common.{◌≡◌, true, List, [], ◌∷◌, ◌++◌, map, Option, Some, None, is_some, refl, sym, ap, ◌∙◌}
use Rattle.std.proofs.lemmas.List.{map-append}
use Rattle.thr_trip.specs.Core.{Seen}
use Rattle.thr_trip.specs.PortTable.Told.{RootTold, joining_in}
use Rattle.thr_trip.specs.declared.naming.Naming.{Ghosts}
use Rattle.thr_trip.specs.declared.trip.Trip.{Trip}
use Rattle.thr_trip.specs.Told.{trip_told}
use Rattle.thr_trip.specs.Trip.{TripTold}
use Rattle.thr_cast.specs.Back.{trips_in}
use Rattle.thr_cast.specs.Crew.{joined_all}
use Rattle.thr_cast.proofs.WorkerLemmas.{joined_more}

trips_more : {J : Type 0} {run : Ghosts J} (early late : List (Option (Trip J run))) → trips_in (early ++ late) ≡ trips_in early ++ trips_in late
trips_more [] late = refl
trips_more (Some trip ∷ early) late = ap (λ rest. trip_told trip ∷ rest) (trips_more early late)
trips_more (None ∷ early) late = trips_more early late

pub trips_with : {J : Type 0} {run : Ghosts J} (early : List (Option (Trip J run))) (slot : Option (Trip J run)) (trip : Trip J run) → slot ≡ Some trip → trips_in (early ++ slot ∷ []) ≡ trips_in early ++ trip_told trip ∷ []
trips_with {J = J} {run = run} early slot trip is = ap (λ (one : Option (Trip J run)). trips_in (early ++ one ∷ [])) is ∙ trips_more early (Some trip ∷ [])

-- what each of them brings
pub each_with : {X : Type 0} (f : TripTold → X) (trips more : List TripTold) (trip : TripTold) (xs new : List X) → more ≡ trips ++ trip ∷ [] → xs ≡ map f trips → new ≡ xs ++ f trip ∷ [] → new ≡ map f more
each_with {X = X} f trips more trip xs new longer so pushed = pushed ∙ ap (λ (early : List X). early ++ f trip ∷ []) so ∙ sym (map-append f trips (trip ∷ [])) ∙ ap (map f) (sym longer)

pub root_with :
    (trips more : List TripTold) (trip : TripTold) (first old new : List RootTold) → more ≡ trips ++ trip ∷ [] → old ≡ joined_all (map (λ (t : TripTold). t.seen) trips) first → new ≡ joining_in trip.seen old
    → new ≡ joined_all (map (λ (t : TripTold). t.seen) more) first
root_with trips more trip first old new longer so joins =
    let seen : TripTold → Seen = λ (t : TripTold). t.seen in
    let each : map seen trips ++ trip.seen ∷ [] ≡ map seen more = sym (map-append seen trips (trip ∷ [])) ∙ ap (map seen) (sym longer) in
    joins ∙ ap (joining_in trip.seen) so ∙ sym (joined_more (map seen trips) trip.seen first) ∙ ap (λ (seens : List Seen). joined_all seens first) each

-- one that is there is not none
pub not_there : {X : Type 0} (slot : Option X) → is_some slot ≡ true → slot ≡ None → ⊥
not_there {X = X} slot some none = let same = ap (λ (o : Option X). is_some o) none in cc
