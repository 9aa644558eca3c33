-- Those that had a thread, once all have returned; and the vCPUs that lie on the shelf then.
use Rattle.std.proofs.Common.{◌≡◌, ◌+◌, ◌<◌, ℕ, zero, suc, true, IsTrue, All, List, [], ◌∷◌, length, map, get_or, Option, Some, None, is_some, refl, sym, ap, subst, ◌∙◌, arith}
use Rattle.std.specs.Prelude.{slice_get}
use Rattle.std.proofs.lemmas.List.Elements.{All-nil, All-cons}
use Rattle.thr_cast.specs.ThrTrip.declared.device.DeviceRun.{DeviceRun}
use Rattle.thr_cast.specs.ThrTrip.declared.naming.Naming.{Ghosts}
use Rattle.thr_cast.specs.ThrTrip.declared.trip.Trip.{Trip}
use Rattle.thr_cast.specs.ThrTrip.declared.worker.Worker.{Worker}
use Rattle.thr_cast.specs.ThrTrip.declared.worker.Worker.TheVariants.{Pe, Device}
use Rattle.thr_cast.specs.ThrTrip.Device.{DeviceTold}
use Rattle.thr_cast.specs.ThrTrip.Finish.{HasFinished}
use Rattle.thr_cast.specs.ThrTrip.Told.{device_told, trip_told}
use Rattle.thr_cast.specs.ThrTrip.Trip.{TripTold, is_done}
use Rattle.thr_cast.specs.ThrTrip.Worker.{HasWorked}
use Rattle.thr_cast.specs.VcpuShelf.Answer.{AreBack}
use Rattle.thr_cast.specs.VcpuShelf.Told.{ShelfTold}
use Rattle.thr_cast.specs.Back.{trips_in}
use Rattle.thr_cast.specs.Cast.{name_of}
use Rattle.thr_cast.specs.Crew.{IsOver, devices_in, has_pe}
use Rattle.thr_cast.specs.Names.{DeviceName}
use Rattle.run_thr.specs.Returned.{HaveReturned}

-- who has a thread
abbrev pub Hand : (J : Type 0) → Ghosts J → Type 0
Hand J run = Worker (Trip J run) (DeviceRun J run)

module _ {J : Type 0} {run : Ghosts J} (shelf : ShelfTold) where
  Finished : DeviceRun J run → DeviceRun J run → Type 0
  Finished before after = HasFinished (device_told before) (device_told after)

  abbrev Over : Hand J run → Type 0
  Over worker = IsOver shelf worker

  pub returned :
      (old new : List (Hand J run)) → length new ≡ length old → ((n : ℕ) (none : Hand J run) → n < length old → HasWorked (λ (before after : DeviceRun J run). HasFinished (device_told before) (device_told after)) shelf (get_or old n none) (get_or new n none))
      → HaveReturned shelf old new
  returned [] [] long each = record { over = All-nil Over; names = refl; finished = All-nil (λ (device : DeviceTold). device.done ≡ true); pe = refl }
  returned [] (worker ∷ new) long each = absurd (omega (arith, long))
  returned (worker ∷ old) [] long each = absurd (omega (arith, long))
  returned (Pe before ∷ old) (Pe after ∷ new) long each =
      let later = returned old new (omega (arith, long)) (λ n none there. each (suc n) none (omega (arith, there))) in
      record { over = All-cons Over (Pe after) new (each 0 (Pe before) (omega arith)) later.over; names = later.names; finished = later.finished; pe = refl }
  returned (Device before ∷ old) (Device after ∷ new) long each =
      let later = returned old new (omega (arith, long)) (λ n none there. each (suc n) none (omega (arith, there))) in
      let here : HasFinished (device_told before) (device_told after) = each 0 (Device before) (omega arith) in
      let named : name_of (device_told after) ≡ name_of (device_told before)
      = ap (λ g. (let name : DeviceName = record { guest = g; device = after.device } in name)) here.guest ∙ ap (λ d. (let name : DeviceName = record { guest = before.guest; device = d } in name)) here.device in
      record {
        over = All-cons Over (Device after) new here.all later.over;
        names = ap (λ (name : DeviceName). name ∷ map name_of (devices_in new)) named ∙ ap (λ (names : List DeviceName). name_of (device_told before) ∷ names) later.names;
        finished = All-cons (λ (device : DeviceTold). device.done ≡ true) (device_told after) (devices_in new) here.all later.finished;
        pe = later.pe;
      }
  returned (Pe before ∷ old) (Device after ∷ new) long each = absurd (each 0 (Pe before) (omega arith))
  returned (Device before ∷ old) (Pe after ∷ new) long each = absurd (each 0 (Device before) (omega arith))

-- a PE is somebody
pub somebody : {J : Type 0} {run : Ghosts J} (workers : List (Hand J run)) → has_pe workers ≡ true → 0 < length workers
somebody [] pe = absurd (cc)
somebody (worker ∷ workers) pe = omega arith

-- The vCPUs on the shelf.

pub record AllCame {J : Type 0} {run : Ghosts J} (places : ℕ) (slots : List (Option (Trip J run))) : Type 0 where
  pub there : All (λ (slot : Option (Trip J run)). is_some slot ≡ true) slots
  pub count : length (trips_in slots) ≡ places
  pub placed : (p : ℕ) (trip : TripTold) → slice_get (trips_in slots) p ≡ Some trip → trip.place ≡ p
  pub done : All (λ (trip : TripTold). IsTrue (is_done trip)) (trips_in slots)

-- whatever lies there, by what it tells
module _ {X : Type 0} (told : X → TripTold) where
  told_in : List (Option X) → List TripTold
  told_in [] = []
  told_in (Some one ∷ slots) = told one ∷ told_in slots
  told_in (None ∷ slots) = told_in slots

  record Lies (from p : ℕ) (slots : List (Option X)) : Type 0 where
    pub one : X
    pub there : slice_get slots p ≡ Some (Some one)
    pub at : (told one).place ≡ from + p
    pub done : IsTrue (is_done (told one))

  record Came (from : ℕ) (slots : List (Option X)) : Type 0 where
    pub there : All (λ (slot : Option X). is_some slot ≡ true) slots
    pub count : length (told_in slots) ≡ length slots
    pub placed : (p : ℕ) (trip : TripTold) → slice_get (told_in slots) p ≡ Some trip → trip.place ≡ from + p
    pub done : All (λ (trip : TripTold). IsTrue (is_done trip)) (told_in slots)

  placed_more : (from : ℕ) (one : X) (slots : List (Option X)) → (told one).place ≡ from → ((p : ℕ) (trip : TripTold) → slice_get (told_in slots) p ≡ Some trip → trip.place ≡ (from + 1) + p)
      → (p : ℕ) (trip : TripTold) → slice_get (told one ∷ told_in slots) p ≡ Some trip → trip.place ≡ from + p
  placed_more from one slots here later zero trip e = let same : told one ≡ trip = cc in let first = ap (λ (t : TripTold). t.place) same in omega (arith, here, first)
  placed_more from one slots here later (suc p) trip e = let so = later p trip e in omega (arith, so)

  more : (from : ℕ) (one : X) (slots : List (Option X)) → (told one).place ≡ from → IsTrue (is_done (told one)) → Came (from + 1) slots → Came from (Some one ∷ slots)
  unfolding told_in
  more from one slots here done later =
      let count = later.count in
      record {
        there = All-cons (λ (slot : Option X). is_some slot ≡ true) (Some one) slots refl later.there;
        count = omega (arith, count);
        placed = placed_more from one slots here later.placed;
        done = All-cons (λ (trip : TripTold). IsTrue (is_done trip)) (told one) (told_in slots) done later.done;
      }

  came_on : (from : ℕ) (slot : Option X) (slots : List (Option X)) → Lies from 0 (slot ∷ slots) → Came (from + 1) slots → Came from (slot ∷ slots)
  came_on from slot slots first later =
      let is : slot ≡ Some first.one = let there = first.there in cc in
      let at = first.at in
      subst (λ (s : Option X). Came from (s ∷ slots)) (sym is) (more from first.one slots (omega (arith, at)) first.done later)

  lies_on : (from p : ℕ) (slot : Option X) (slots : List (Option X)) → Lies from (suc p) (slot ∷ slots) → Lies (from + 1) p slots
  lies_on from p slot slots one = let at = one.at in record { one = one.one; there = one.there; at = omega (arith, at); done = one.done }

  came : (from : ℕ) (slots : List (Option X)) → ((p : ℕ) → p < length slots → Lies from p slots) → Came from slots
  unfolding told_in
  came from [] each = record { there = All-nil (λ (slot : Option X). is_some slot ≡ true); count = refl; placed = λ p trip e. absurd (cc); done = All-nil (λ (trip : TripTold). IsTrue (is_done trip)) }
  came from (slot ∷ slots) each = came_on from slot slots (each 0 (omega arith)) (came (from + 1) slots (λ p there. lies_on from p slot slots (each (suc p) (omega (arith, there)))))

module _ {J : Type 0} {run : Ghosts J} where
  same_told : (slots : List (Option (Trip J run))) → told_in trip_told slots ≡ trips_in slots
  unfolding told_in
  same_told [] = refl
  same_told (Some trip ∷ slots) = ap (λ (trips : List TripTold). trip_told trip ∷ trips) (same_told slots)
  same_told (None ∷ slots) = same_told slots

  pub all_came : (places : ℕ) (slots : List (Option (Trip J run))) → AreBack (λ (trip : Trip J run). trip.place) (λ (trip : Trip J run). is_done (trip_told trip)) places slots → AllCame places slots
  all_came places slots back =
      let so = came trip_told 0 slots (λ p there. (let one = back.each p (subst (λ n. p < n) back.count there) in let at = one.at in record { one = one.traveller; there = one.there; at = omega (arith, at); done = one.done })) in
      let same = same_told slots in
      record {
        there = so.there;
        count = ap length (sym same) ∙ so.count ∙ back.count;
        placed = λ p trip e. (let at = so.placed p trip (ap (λ (trips : List TripTold). slice_get trips p) same ∙ e) in omega (arith, at));
        done = subst (All (λ (trip : TripTold). IsTrue (is_done trip))) same so.done;
      }
