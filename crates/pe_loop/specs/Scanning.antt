-- A vCPU's scan as it goes on (own choice).
use Rattle.std.specs.Prelude.{◌≡◌, ◌≢◌, ℕ, ◌+◌, ◌-◌, ◌<◌, ◌==◌, Bool, false, IsTrue, List, [], ◌∷◌, ◌++◌, map, All, AllPairs, Option, Some, None, if◌then◌else◌}
use Rattle.std.specs.List.{range_with_len}
use Rattle.port_call.specs.Words.{Key, GuestShape, has_interrupt, is_of_vcpu, irq_of, packed}
use Rattle.port_call.specs.Registers.{CpuRec}
use Rattle.port_call.specs.Lists.{Kept, StandsFor, Offer}
use Rattle.port_call.specs.Core.{Phase, Scanning, Claiming, Made, Look, TakeIndex, Irq, known, has_no_cand, is_cand, index_bit, index_bits, index_words, Seen, Adds, AddsStep, shape_of, part_events, makes, IsIrqWord, Progress, filled, looks_on, scan_on, progress_of, IsProper, Purpose, Scan, taking, ended_scan, next_cand, offered}
use Rattle.port_call.specs.Piece.{steps_of, takes_none}
use Rattle.pe_loop.specs.Counting.{count_from, looks_in, bits_taken, AreTaken}
use Rattle.pe_loop.specs.Steps.{all_are, is_search}

-- an actor's protocol so far is that of what its port tells, with this scan in progress
pub record IsScanAt (seen : Seen) (p : Progress) (scan : Scan) : Type 0 where
  pub local : p.local ≡ seen.local
  pub own : p.own ≡ seen.own
  pub is : p.scan ≡ scan

-- an actor as far as another, with what a port tells
abbrev pub told_by : Seen → Progress → Progress
told_by seen p = record p { local = seen.local; own = seen.own }

-- the same where its scan has all words of the index, looked at the candidates before a bit, and found these interrupts
abbrev pub looked_on : Seen → Purpose → ℕ → List Offer → Progress → Progress
looked_on seen purpose from offers p =
    let on = looks_on (shape_of seen) seen.actor purpose from offers (told_by seen p) in record on { scan = ended_scan on.local on.scan }

-- The index.

-- how far a vCPU is after so many words of its index
abbrev pub phase_taken : GuestShape → ℕ → Phase → Phase
phase_taken shape words Scanning = if words == index_words shape then Claiming else Scanning
phase_taken shape words phase = phase

-- a vCPU took the first words of its index: it has their bits as candidates, and nothing else of it changed
pub record IsTaking (old now : Seen) (words : ℕ) : Type 0 where
  pub part : List Made
  pub adds : Adds old now part
  pub steps_are : steps_of part ≡ map TakeIndex (range_with_len 0 words)
  pub same : record now.local { cands = old.local.cands; phase = old.local.phase } ≡ old.local
  pub phase : now.local.phase ≡ phase_taken (shape_of old) words old.local.phase
  pub none_taken : IsTrue (takes_none part)
  pub silent : part_events old part ≡ []
  pub taken : IsTrue (has_no_cand old.local) → AreTaken now.local.cands words (bits_taken part)
  pub proper : (purpose : Purpose) (p : Progress) → IsScanAt old p (taking purpose 0) → IsProper (shape_of old) old.actor p (map makes part)
  pub goes_on :
      (purpose : Purpose) (p : Progress) → IsScanAt old p (taking purpose 0)
      → progress_of (shape_of old) old.actor p (map makes part) ≡ scan_on (shape_of old) old.actor (record (told_by now p) { scan = taking purpose words })

-- it took all
abbrev pub TakesIndex : Seen → Seen → Type 0
TakesIndex old new = IsTaking old new (index_words (shape_of old))

-- The candidates.

-- what a scan knows of the interrupts that it found: each is one of the guest's that the vCPU can get to, found at no interface and not wanted, with the record of its
-- word as the vCPU's last step on it left it; and each was found once
pub record IsFound (seen : Seen) (offer : Offer) : Type 0 where
  pub there : IsTrue (has_interrupt (shape_of seen) offer.key)
  pub own : IsTrue (is_of_vcpu seen.actor offer.key)
  pub word : IsIrqWord (shape_of seen) offer.key (packed offer.irq)
  pub record_is : irq_of (packed offer.irq) ≡ offer.irq
  pub home : offer.irq.holder ≡ None
  pub unwanted : offer.irq.want ≡ false
  pub known_as : known (shape_of seen) seen.actor seen.own (Irq offer.key) ≡ Some (packed offer.irq)

pub record AreFound (seen : Seen) (offers : List Offer) : Type 0 where
  pub each : All (IsFound seen) offers
  pub once : AllPairs (λ one other. one.key ≢ other.key) offers

-- an actor's protocol is that of a scan that looked at its candidates before a bit; of the interrupt that its call ends, if any, it goes by the last look
pub record IsLookedOn (seen : Seen) (purpose : Purpose) (from : ℕ) (offers : List Offer) (p q : Progress) : Type 0 where
  pub far : Option Bool
  pub is : q ≡ looked_on seen purpose from offers (record p { far = far })

-- an actor looked at an interrupt, and offered it to a chooser where nobody holds it and no access waits for it
pub record LooksAt (old new : Seen) (before after : Kept) (cpu : CpuRec) (key : Key) : Type 0 where
  pub found : ℕ
  pub adds : AddsStep old new (Look (Irq key)) found
  pub word : IsIrqWord (shape_of old) key found
  pub lrs : after.lrs ≡ before.lrs
  pub vcpu : after.vcpu ≡ before.vcpu
  pub stands : (offers : List Offer) → StandsFor before cpu offers → StandsFor after cpu (offers ++ offered key (irq_of found))

-- a vCPU that had all words of its index looked at its candidates before a bit, once each and in order, and offered what it found to a chooser
pub record IsLooking (old now : Seen) (before after : Kept) (cpu : CpuRec) (from : ℕ) : Type 0 where
  pub part : List Made
  pub offers : List Offer
  pub adds : Adds old now part
  pub steps_are : IsTrue (all_are is_search part)
  pub same : record now.local { cands = old.local.cands } ≡ old.local
  pub none_taken : IsTrue (takes_none part)
  pub silent : part_events old part ≡ []
  pub looks : looks_in part + count_from (is_cand now.local.cands) from (index_bits (shape_of old) - from) ≡ count_from (is_cand old.local.cands) 0 (index_bits (shape_of old))
  pub none_left : bits_taken part ≡ 0
  pub found : AreFound now offers
  pub below : All (λ offer. index_bit (shape_of old) offer.key < from) offers
  pub lrs : after.lrs ≡ before.lrs
  pub vcpu : after.vcpu ≡ before.vcpu
  pub stands : StandsFor before cpu [] → StandsFor after cpu offers
  pub proper : (purpose : Purpose) (p : Progress) → IsProper (shape_of old) old.actor (looked_on old purpose 0 [] p) (map makes part)
  pub goes_on : (purpose : Purpose) (p : Progress) → IsLookedOn now purpose from offers p (progress_of (shape_of old) old.actor (looked_on old purpose 0 [] p) (map makes part))

-- it looked at all
pub record LooksOver (old new : Seen) (before after : Kept) (cpu : CpuRec) : Type 0 where
  pub from : ℕ
  pub looking : IsLooking old new before after cpu from
  pub none : next_cand (shape_of new) new.actor new.local.cands from ≡ None

-- A scan's round: the index, and the looks.

-- a part begins with the first word of the index
pub record IsFromIndex (part : List Made) : Type 0 where
  pub first : Made
  pub rest : List Made
  pub part_is : part ≡ first ∷ rest
  pub first_is : first.step ≡ TakeIndex 0

-- an actor's protocol is that of a scan that looked at all its candidates, and found these interrupts
pub record IsFilled (seen : Seen) (purpose : Purpose) (offers : List Offer) (p q : Progress) : Type 0 where
  pub far : Option Bool
  pub is : q ≡ (let on = filled (shape_of seen) seen.actor purpose offers (record (told_by seen p) { far = far }) in record on { scan = ended_scan on.local on.scan })

-- a vCPU took its index, looked at its candidates, and kept of what it found what a choice for so many list registers needs
pub record Rounds (old new : Seen) (lrs : ℕ) (kept : Kept) : Type 0 where
  pub part : List Made
  pub offers : List Offer
  pub adds : Adds old new part
  pub from_index : IsFromIndex part
  pub steps_are : IsTrue (all_are is_search part)
  pub none_taken : IsTrue (takes_none part)
  pub silent : part_events old part ≡ []
  pub looks : IsTrue (has_no_cand old.local) → looks_in part ≡ bits_taken part
  pub same : record new.local { cands = old.local.cands; phase = old.local.phase } ≡ old.local
  pub phase : new.local.phase ≡ phase_taken (shape_of old) (index_words (shape_of old)) old.local.phase
  pub found : AreFound new offers
  pub lrs_is : kept.lrs ≡ lrs
  pub vcpu_is : kept.vcpu ≡ new.actor
  pub stands : StandsFor kept new.local.cpu offers
  pub proper : (purpose : Purpose) (p : Progress) → IsScanAt old p (taking purpose 0) → IsProper (shape_of old) old.actor p (map makes part)
  pub goes_on : (purpose : Purpose) (p : Progress) → IsScanAt old p (taking purpose 0) → IsFilled new purpose offers p (progress_of (shape_of old) old.actor p (map makes part))
