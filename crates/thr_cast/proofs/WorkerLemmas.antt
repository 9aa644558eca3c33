-- Who has a thread, one after the other.
use Rattle.std.proofs.Common.{◌≡◌, ◌||◌, suc, Bool, true, false, All, List, [], ◌∷◌, ◌++◌, append-nil, length, refl, sym, ap, subst, ◌∙◌, arith}
use Rattle.std.proofs.lemmas.List.{append_assoc}
use Rattle.std.proofs.lemmas.List.Elements.{All-nil, All-cons, All-append}
use Rattle.thr_trip.specs.Core.{Seen}
use Rattle.thr_trip.specs.PortTable.Told.{RootTold, joining_in}
use Rattle.thr_trip.specs.declared.device.DeviceRun.{DeviceRun}
use Rattle.thr_trip.specs.declared.naming.Naming.{Ghosts}
use Rattle.thr_trip.specs.declared.pe.PeRun.{PeRun}
use Rattle.thr_trip.specs.declared.trip.Trip.{Trip}
use Rattle.thr_trip.specs.declared.worker.Worker.{Worker}
use Rattle.thr_trip.specs.declared.worker.Worker.TheVariants.{Pe, Device}
use Rattle.thr_trip.specs.Device.{DeviceTold}
use Rattle.thr_trip.specs.Seat.{IsFreeSeat}
use Rattle.thr_trip.specs.Told.{device_told}
use Rattle.thr_trip.specs.Worker.{CanWork}
use Rattle.thr_trip.specs.VcpuShelf.Shelf.{seat_told}
use Rattle.thr_trip.specs.VcpuShelf.Told.{ShelfTold}
use Rattle.thr_cast.specs.Crew.{HaveWorkers, devices_in, has_pe, joined_all, pe_numbers}

-- all of a list and one more
pub all_more : {X : Type 0} (P : X → Type 0) (xs : List X) (x : X) → All P xs → P x → All P (xs ++ x ∷ [])
all_more P xs x all one = All-append P xs (x ∷ []) all (All-cons P x [] one (All-nil P))

-- and one in the middle
middle : {X : Type 0} (P : X → Type 0) (early late : List X) (x : X) → All P (early ++ x ∷ late) → P x
middle P [] late x all = all 0 x (omega arith)
middle P (first ∷ early) late x all = middle P early late x (λ k d there. all (suc k) d (omega (arith, there)))

pub one_of : {X : Type 0} (P : X → Type 0) (all early late rest : List X) (x : X) → early ++ rest ≡ all → rest ≡ x ∷ late → All P all → P x
one_of {X = X} P all early late rest x is next so = middle P early late x (subst (All P) (sym (ap (λ (xs : List X). early ++ xs) (sym next) ∙ is)) so)

-- the next is yielded
pub yielded_more : {X : Type 0} (all early late rest : List X) (x : X) → early ++ rest ≡ all → rest ≡ x ∷ late → (early ++ x ∷ []) ++ late ≡ all
yielded_more {X = X} all early late rest x is next = append_assoc early (x ∷ []) late ∙ ap (λ (xs : List X). early ++ xs) (sym next) ∙ is

-- all were
pub yielded_all : {X : Type 0} (all early rest : List X) → early ++ rest ≡ all → rest ≡ [] → early ≡ all
yielded_all {X = X} all early rest is none = sym (append-nil early) ∙ ap (λ (xs : List X). early ++ xs) (sym none) ∙ is

-- ports that were joined, and one more
pub joined_more : (seens : List Seen) (seen : Seen) (root : List RootTold) → joined_all (seens ++ seen ∷ []) root ≡ joining_in seen (joined_all seens root)
joined_more [] seen root = refl
joined_more (first ∷ seens) seen root = joined_more seens seen (joining_in first root)

-- a PE, or a device
abbrev Hand : (J : Type 0) → Ghosts J → Type 0
Hand J run = Worker (Trip J run) (DeviceRun J run)

pub devices_more : {J : Type 0} {run : Ghosts J} (early late : List (Hand J run)) → devices_in (early ++ late) ≡ devices_in early ++ devices_in late
devices_more [] late = refl
devices_more (Pe pe ∷ early) late = devices_more early late
devices_more (Device device ∷ early) late = ap (λ rest. device_told device ∷ rest) (devices_more early late)

pub pe_more : {J : Type 0} {run : Ghosts J} (early late : List (Hand J run)) → has_pe (early ++ late) ≡ (has_pe early || has_pe late)
pe_more [] late = refl
pe_more (Pe pe ∷ early) late = refl
pe_more (Device device ∷ early) late = pe_more early late

pub numbers_more : {J : Type 0} {run : Ghosts J} (early : List (Hand J run)) (pe : PeRun (Trip J run)) → pe_numbers (early ++ Pe pe ∷ []) ≡ pe_numbers early ++ pe.pe ∷ []
numbers_more [] pe = refl
numbers_more (Pe first ∷ early) pe = ap (λ rest. first.pe ∷ rest) (numbers_more early pe)
numbers_more (Device device ∷ early) pe = numbers_more early pe

pub numbers_stay : {J : Type 0} {run : Ghosts J} (early : List (Hand J run)) (device : DeviceRun J run) → pe_numbers (early ++ Device device ∷ []) ≡ pe_numbers early
numbers_stay [] device = refl
numbers_stay (Pe first ∷ early) device = ap (λ rest. first.pe ∷ rest) (numbers_stay early device)
numbers_stay (Device first ∷ early) device = numbers_stay early device

or_true : (b : Bool) → (b || true) ≡ true
or_true true = refl
or_true false = refl

or_false : (b : Bool) → (b || false) ≡ b
or_false true = refl
or_false false = refl

abbrev Can : (J : Type 0) (run : Ghosts J) → ShelfTold → Hand J run → Type 0
Can J run shelf = CanWork (λ (device : DeviceRun J run). device.done ≡ false) shelf

pub pe_came :
    {J : Type 0} {run : Ghosts J} (shelf : ShelfTold) (workers : List (Hand J run)) (devices : List DeviceTold) (pes : Bool) (pe : PeRun (Trip J run)) → HaveWorkers shelf workers devices pes → IsFreeSeat shelf (seat_told pe.seat)
    → HaveWorkers shelf (workers ++ Pe pe ∷ []) devices true
pe_came {J = J} {run = run} shelf workers devices pes pe have free =
    record {
      can = all_more (Can J run shelf) workers (Pe pe) have.can free;
      devices_are = devices_more workers (Pe pe ∷ []) ∙ append-nil (devices_in workers) ∙ have.devices_are;
      pe = pe_more workers (Pe pe ∷ []) ∙ or_true (has_pe workers);
    }

pub device_came :
    {J : Type 0} {run : Ghosts J} (shelf : ShelfTold) (workers : List (Hand J run)) (devices : List DeviceTold) (pes : Bool) (device : DeviceRun J run) → HaveWorkers shelf workers devices pes → device.done ≡ false
    → HaveWorkers shelf (workers ++ Device device ∷ []) (devices ++ device_told device ∷ []) pes
device_came {J = J} {run = run} shelf workers devices pes device have fresh =
    record {
      can = all_more (Can J run shelf) workers (Device device) have.can fresh;
      devices_are = devices_more workers (Device device ∷ []) ∙ ap (λ ds. ds ++ device_told device ∷ []) have.devices_are;
      pe = pe_more workers (Device device ∷ []) ∙ or_false (has_pe workers) ∙ have.pe;
    }

-- one that was joined again

module _ {J : Type 0} {run : Ghosts J} (yielded : List (Hand J run)) where
  pub devices_with_pe : (pe : PeRun (Trip J run)) → devices_in (yielded ++ Pe pe ∷ []) ≡ devices_in yielded
  devices_with_pe pe = devices_more yielded (Pe pe ∷ []) ∙ append-nil (devices_in yielded)

  pub devices_with : (device : DeviceRun J run) → devices_in (yielded ++ Device device ∷ []) ≡ devices_in yielded ++ device_told device ∷ []
  devices_with device = devices_more yielded (Device device ∷ [])

  pub pe_with_device : (device : DeviceRun J run) → has_pe (yielded ++ Device device ∷ []) ≡ has_pe yielded
  pe_with_device device = pe_more yielded (Device device ∷ []) ∙ or_false (has_pe yielded)
