-- What the events of a call say of the commands of the ITS, one after the other.
use Rattle.std.proofs.Common.{◌≡◌, ℕ, ◌+◌, not, Bool, true, false, cond, List, [], ◌∷◌, ◌++◌, fold, Option, Some, None, Ok, refl, sym, ap, ◌∙◌, subst}
use Rattle.std.specs.List.{list_all}
use Rattle.std.proofs.lemmas.Bool.{and_parts}
use Rattle.std.proofs.lemmas.Grind.{fold-append}
use Rattle.std.proofs.lemmas.List.{map-append}
use Rattle.floor_histories.specs.Words.{GuestShape}
use Rattle.floor_histories.specs.Registers.{Command, fault_number, Maps}
use Rattle.floor_histories.specs.ItsCmd.Command.{decoded}
use Rattle.floor_histories.specs.Calls.{Part, Event, Up, Down, Touch, Reach, Take, Leave, Enable, Cpu, Put, CtlrBegin, CtlrEnd, ItsBegin, Runs, Done, Stalls, parts, maps_done, Happened, is_beside, named_of}
use Rattle.floor_histories.specs.GicCall.declared.event.Event.TheVariants.{Raise, Read, ItsEnd, Queue}
use Rattle.law_histories.specs.Sync.{more_parts}
use Rattle.law_histories.proofs.SpreadLemmas.{events_of}

-- the maps, what was done of the next command, and how many commands ended
pub record Scan : Type 0 where
  pub maps : Maps
  pub made : List Part
  pub number : ℕ

-- after an event of an actor that took the ITS with these maps
abbrev pub scanned : Maps → Scan → Event → Scan
scanned taken scan ItsBegin = record scan { maps = taken; made = [] }
scanned taken scan (Queue offset Runs) = record scan { made = [] }
scanned taken scan (Queue offset (Done words)) = record { maps = maps_done scan.maps words; made = []; number = scan.number + 1 }
scanned taken scan (Queue offset (Stalls fault)) = record scan { made = []; number = scan.number + 1 }
scanned taken scan event = record scan { made = more_parts scan.made event }

abbrev pub scan_of : Maps → Scan → List Event → Scan
scan_of taken scan events = fold (scanned taken) scan events

-- a good command was done, and a bad one was not begun
pub record IsDoneBy (shape : GuestShape) (targets : ℕ → Option ℕ) (scan : Scan) (words : List ℕ) : Type 0 where
  pub command : Command
  pub is : decoded words ≡ Ok command
  pub good : fault_number shape scan.maps (decoded words) ≡ None
  pub done : scan.made ≡ parts shape scan.maps targets command

pub record IsStalledBy (shape : GuestShape) (scan : Scan) (fault : ℕ) : Type 0 where
  pub words : List ℕ
  pub is : fault_number shape scan.maps (decoded words) ≡ Some fault
  pub nothing : scan.made ≡ []

abbrev pub IsEndOf : GuestShape → (ℕ → ℕ → Option ℕ) → Scan → Event → Type 0
IsEndOf shape targets scan (Queue offset (Done words)) = IsDoneBy shape (targets scan.number) scan words
IsEndOf shape targets scan (Queue offset (Stalls fault)) = IsStalledBy shape scan fault
IsEndOf shape targets scan event = Unit {0}

abbrev pub AreEnds : GuestShape → (ℕ → ℕ → Option ℕ) → Maps → Scan → List Event → Type 0
AreEnds shape targets taken scan [] = Unit {0}
AreEnds shape targets taken scan (event ∷ events) = IsEndOf shape targets scan event × AreEnds shape targets taken (scanned taken scan event) events

-- Lists.

module _ (shape : GuestShape) (targets : ℕ → ℕ → Option ℕ) (taken : Maps) where
  pub ends_both : (scan : Scan) (one other : List Event) → AreEnds shape targets taken scan one → AreEnds shape targets taken (scan_of taken scan one) other → AreEnds shape targets taken scan (one ++ other)
  ends_both scan [] other h k = k
  ends_both scan (event ∷ one) other h k = (h.0, ends_both (scanned taken scan event) one other h.1 k)

  pub ends_later : (scan : Scan) (one other : List Event) → AreEnds shape targets taken scan (one ++ other) → AreEnds shape targets taken (scan_of taken scan one) other
  ends_later scan [] other h = h
  ends_later scan (event ∷ one) other h = ends_later (scanned taken scan event) one other h.1

-- events that end no command
abbrev pub is_open : Event → Bool
is_open (Queue offset Runs) = true
is_open (Queue offset change) = false
is_open event = true

open_end : (shape : GuestShape) (targets : ℕ → ℕ → Option ℕ) (scan : Scan) (event : Event) → is_open event ≡ true → IsEndOf shape targets scan event
open_end shape targets scan (Queue offset Runs) h = tt
open_end shape targets scan (Queue offset (Done words)) h = absurd (cc)
open_end shape targets scan (Queue offset (Stalls fault)) h = absurd (cc)
open_end shape targets scan (Raise key) h = tt
open_end shape targets scan (Up key) h = tt
open_end shape targets scan (Down key) h = tt
open_end shape targets scan (Touch key touching) h = tt
open_end shape targets scan (Reach key vcpu) h = tt
open_end shape targets scan (Take key vcpu) h = tt
open_end shape targets scan (Leave key vcpu) h = tt
open_end shape targets scan (Enable vcpu) h = tt
open_end shape targets scan (Cpu vcpu reg write) h = tt
open_end shape targets scan (Read place) h = tt
open_end shape targets scan (Put word value) h = tt
open_end shape targets scan (CtlrBegin enables) h = tt
open_end shape targets scan CtlrEnd h = tt
open_end shape targets scan ItsBegin h = tt
open_end shape targets scan ItsEnd h = tt

pub open_ends : (shape : GuestShape) (targets : ℕ → ℕ → Option ℕ) (taken : Maps) (scan : Scan) (events : List Event) → list_all is_open events ≡ true → AreEnds shape targets taken scan events
open_ends shape targets taken scan [] h = tt
open_ends shape targets taken scan (event ∷ events) h =
    let both = and_parts (is_open event) (list_all is_open events) h in
    (open_end shape targets scan event both.0, open_ends shape targets taken (scanned taken scan event) events both.1)

-- Reads and moves change nothing of it.

record IsBesideScan (shape : GuestShape) (targets : ℕ → ℕ → Option ℕ) (taken : Maps) (scan : Scan) (event : Event) : Type 0 where
  pub end : IsEndOf shape targets scan event
  pub same : scanned taken scan event ≡ scan

beside_scan : (actor : Option ℕ) (shape : GuestShape) (targets : ℕ → ℕ → Option ℕ) (taken : Maps) (scan : Scan) (event : Event) → is_beside actor event ≡ true → IsBesideScan shape targets taken scan event
beside_scan actor shape targets taken scan (Read place) h = record { end = tt; same = refl }
beside_scan actor shape targets taken scan (Reach key vcpu) h = record { end = tt; same = refl }
beside_scan actor shape targets taken scan (Take key vcpu) h = record { end = tt; same = refl }
beside_scan actor shape targets taken scan (Leave key vcpu) h = record { end = tt; same = refl }
beside_scan actor shape targets taken scan (Raise key) h = absurd (cc)
beside_scan actor shape targets taken scan (Up key) h = absurd (cc)
beside_scan actor shape targets taken scan (Down key) h = absurd (cc)
beside_scan actor shape targets taken scan (Touch key touching) h = absurd (cc)
beside_scan actor shape targets taken scan (Enable vcpu) h = absurd (cc)
beside_scan actor shape targets taken scan (Cpu vcpu reg write) h = absurd (cc)
beside_scan actor shape targets taken scan (Put word value) h = absurd (cc)
beside_scan actor shape targets taken scan (CtlrBegin enables) h = absurd (cc)
beside_scan actor shape targets taken scan CtlrEnd h = absurd (cc)
beside_scan actor shape targets taken scan ItsBegin h = absurd (cc)
beside_scan actor shape targets taken scan ItsEnd h = absurd (cc)
beside_scan actor shape targets taken scan (Queue offset change) h = absurd (cc)

-- so a piece says what its named events do
pub record IsScanned (shape : GuestShape) (targets : ℕ → ℕ → Option ℕ) (taken : Maps) (scan later : Scan) (events : List Event) : Type 0 where
  pub ends : AreEnds shape targets taken scan events
  pub leads : scan_of taken scan events ≡ later

pub scanned_named : (actor : Option ℕ) (shape : GuestShape) (targets : ℕ → ℕ → Option ℕ) (taken : Maps) (scan later : Scan) (piece : List Happened) → IsScanned shape targets taken scan later (events_of (named_of actor piece)) → IsScanned shape targets taken scan later (events_of piece)
scanned_named actor shape targets taken scan later [] is = is
scanned_named actor shape targets taken scan later (one ∷ piece) is = of (is_beside actor one.event) refl is (λ s. scanned_named actor shape targets taken s later piece)
  where
    of : (b : Bool) → is_beside actor one.event ≡ b → IsScanned shape targets taken scan later (events_of (cond (not b) (one ∷ named_of actor piece) (named_of actor piece)))
        → ((s : Scan) → IsScanned shape targets taken s later (events_of (named_of actor piece)) → IsScanned shape targets taken s later (events_of piece))
        → IsScanned shape targets taken scan later (events_of (one ∷ piece))
    of true e is rest =
        let beside = beside_scan actor shape targets taken scan one.event e in
        let later_is = rest scan is in
        record { ends = (beside.end, subst (λ s. AreEnds shape targets taken s (events_of piece)) (sym beside.same) later_is.ends); leads = ap (λ s. scan_of taken s (events_of piece)) beside.same ∙ later_is.leads }
    of false e is rest =
        let later_is = rest (scanned taken scan one.event) (record { ends = is.ends.1; leads = is.leads }) in
        record { ends = (is.ends.0, later_is.ends); leads = later_is.leads }

pub scanned_both : (shape : GuestShape) (targets : ℕ → ℕ → Option ℕ) (taken : Maps) (scan between later : Scan) (one other : List Happened) → IsScanned shape targets taken scan between (events_of one) → IsScanned shape targets taken between later (events_of other)
    → IsScanned shape targets taken scan later (events_of (one ++ other))
scanned_both shape targets taken scan between later one other h k =
    subst (IsScanned shape targets taken scan later) (sym (map-append (λ (happened : Happened). happened.event) one other))
    (record {
      ends = ends_both shape targets taken scan (events_of one) (events_of other) h.ends (subst (λ s. AreEnds shape targets taken s (events_of other)) (sym h.leads) k.ends);
      leads = fold-append (scanned taken) scan (events_of one) (events_of other) ∙ ap (λ s. scan_of taken s (events_of other)) h.leads ∙ k.leads;
    })
