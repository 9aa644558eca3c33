-- A vCPU claims what its plan chose (own choice).
use Rattle.std.specs.Prelude.{◌≡◌, ◌≢◌, ◌⊎◌, ℕ, ◌<◌, ◌==◌, ◌||◌, not, Bool, true, false, IsTrue, List, [], ◌∷◌, ◌++◌, map, length, All, Option, Some, None, option_to_list, if◌then◌else◌, ◌≤◌, drop, replicate}
use Rattle.std.specs.List.{cons_option, list_all, slice_index_or}
use Rattle.std.specs.Option.{option_map}
use Rattle.port_call.specs.Words.{Key, GuestShape, has_interrupt, is_of_vcpu, is_same_key, Irq as IrqRecord, irq_of, packed, HeldIrq}
use Rattle.port_call.specs.Lists.{IchRegs, Pending, Active, Both, packed as packed_entry, state_has_active, Choice, offer_of, is_active_by, is_deliverable_to, is_deliverable_once_inactive, Fill, Offer, entry_of, held_as, plan, regs_of, word_of, StandFor}
use Rattle.port_call.specs.Registers.{CpuRec}
use Rattle.vcpu_state.specs.declared.loaded.Loaded.{Loaded}
use Rattle.vcpu_state.specs.Places.{with_place}
use Rattle.port_call.specs.Core.{interface_of, AtIrq, Made, Claim, Irq, succeeds, known, is_vcpu, entry_for, Seen, Adds, AddsStep, shape_of, left_by, part_events, IsIrqWord, makes, Progress, progress_of, IsProper, without_claim, without_take, claiming, ended_scan, key_of_both, keys_chosen, keys_of_both}
use Rattle.port_call.specs.Piece.{takes_none}
use Rattle.pe_loop.specs.declared.claims.Claimed.{Claimed}
use Rattle.pe_loop.specs.declared.claims.Claimed.TheVariants.{Whole, Bare, Missed}
use Rattle.pe_loop.specs.Moves.{are_moves}
use Rattle.pe_loop.specs.Counting.{are_quiet}
use Rattle.pe_loop.specs.Scanning.{told_by, IsFound, AreFound}
use Rattle.pe_loop.specs.Steps.{all_are, all_hit, is_claim}

-- A claim.

-- a vCPU claimed an interrupt by a word that it saw: so it did exactly where the step found that word
pub record Claims (old new : Seen) (key : Key) (irq : IrqRecord) (done : Bool) : Type 0 where
  pub found : ℕ
  pub adds : AddsStep old new (Claim key (packed irq)) found
  pub done_is : succeeds (shape_of old) old.actor old.local (Claim key (packed irq)) found ≡ done
  pub hit : done ≡ (found == packed irq)
  pub found_is : done ≡ true → irq_of found ≡ irq
  pub left : IsIrqWord (shape_of old) key (left_by old (Claim key (packed irq)) found)

-- What was chosen for a list register.

-- the vCPU may have it with its State
pub record IsRight (shape : GuestShape) (vcpu : ℕ) (cpu : CpuRec) (choice : Choice) : Type 0 where
  pub state : ((choice.entry.state ≡ Pending) × IsTrue (is_deliverable_to vcpu cpu shape (offer_of choice))) ⊎ (IsTrue (state_has_active choice.entry.state) × IsTrue (is_active_by vcpu (offer_of choice)))
  pub both : choice.entry.state ≡ Both → IsTrue (is_deliverable_once_inactive vcpu cpu shape (offer_of choice))

-- it is to be claimed: a vCPU found it, and has room for it
pub record IsClaimable (seen : Seen) (choice : Choice) : Type 0 where
  pub vcpu : is_vcpu (shape_of seen) seen.actor ≡ true
  pub found : IsFound seen (offer_of choice)
  pub right : IsRight (shape_of seen) seen.actor seen.local.cpu choice
  pub free : entry_for choice.key seen.local.at ≡ None
  pub room : length seen.local.at < 16

-- the same with State 2, and so without causes
abbrev pub without_causes : Choice → Choice
without_causes choice = record choice { entry = record choice.entry { state = Active } }

-- its record once the vCPU holds it with its active state
abbrev pub held_irq : ℕ → Choice → IrqRecord
held_irq vcpu choice = record choice.irq { holder = Some vcpu }

-- what a list register has of it after the claim
abbrev pub choice_left : Claimed → Choice → Option Choice
choice_left Whole choice = Some choice
choice_left Bare choice = Some (without_causes choice)
choice_left Missed choice = None

-- as it stands at the interface
abbrev pub at_of : Choice → AtIrq
at_of choice =
    let entry = entry_of choice in
    record {
      key = entry.key;
      entry_prio = entry.prio;
      group = entry.group;
      pending = entry.pending;
      active = entry.active;
      rise = entry.rise;
      soft = entry.soft;
      consumed = false;
      given = false;
    }

-- what the protocol's registers are after the claim
abbrev pub regs_left : Claimed → Key → IchRegs → IchRegs
regs_left Whole key regs = regs
regs_left Bare key regs = without_take key regs
regs_left Missed key regs = without_claim key regs

abbrev pub is_whole : Claimed → Bool
is_whole Whole = true
is_whole claimed = false

-- an interrupt is none of some
pub record IsNoneOf (key : Key) (keys : List Key) : Type 0 where
  pub each : All (λ other. is_same_key key other ≡ false) keys

-- a vCPU that has these claims and takes to make, with these registers so far
abbrev pub claims_by : Seen → List Key → List Key → IchRegs → Bool → Bool → Progress → Progress
claims_by seen claims takes regs trapping failed p = record (told_by seen p) { scan = ended_scan seen.local (claiming claims takes); regs = regs; trapping = trapping; failed = failed }

-- The causes of what was chosen with State 3.

-- it came active to the interface, where nothing was of it before, and its causes are to be taken
pub record IsTakeable (seen : Seen) (choice : Choice) : Type 0 where
  pub vcpu : is_vcpu (shape_of seen) seen.actor ≡ true
  pub own : IsTrue (is_of_vcpu seen.actor choice.key)
  pub there : IsTrue (has_interrupt (shape_of seen) choice.key)
  pub word : IsIrqWord (shape_of seen) choice.key (packed (held_irq seen.actor choice))
  pub record_is : irq_of (packed (held_irq seen.actor choice)) ≡ held_irq seen.actor choice
  pub known_as : known (shape_of seen) seen.actor seen.own (Irq choice.key) ≡ Some (packed (held_irq seen.actor choice))
  pub before : List AtIrq
  pub at : seen.local.at ≡ before ++ at_of (without_causes choice) ∷ []
  pub free : entry_for choice.key before ≡ None
  pub state : choice.entry.state ≡ Both
  pub deliverable : IsTrue (is_deliverable_once_inactive seen.actor seen.local.cpu (shape_of seen) (offer_of choice))

-- a vCPU took the causes: whole or not at all
pub record TakesCauses (old new : Seen) (choice : Choice) (claimed : Claimed) : Type 0 where
  pub done : Bool
  pub claims : Claims old new choice.key (held_irq old.actor choice) done
  pub claimed_is : claimed ≡ (if done then Whole else Bare)

-- a vCPU claimed what was chosen, and took its causes where that has State 3
pub record ClaimsChosen (old new : Seen) (choice : Choice) (claimed : Claimed) : Type 0 where
  pub part : List Made
  pub adds : Adds old new part
  pub none_taken : IsTrue (takes_none part)
  pub quiet : IsTrue (are_quiet part)
  pub steps_are : IsTrue (all_are is_claim part)
  pub whole_is : is_whole claimed ≡ all_hit part
  pub moves : IsTrue (are_moves old.actor (part_events old part))
  pub same : record new.local { at = old.local.at; cands = old.local.cands } ≡ old.local
  pub at : new.local.at ≡ old.local.at ++ option_to_list (option_map at_of (choice_left claimed choice))
  pub bare : claimed ≡ Bare → choice.entry.state ≡ Both
  pub others : (key : Key) → IsTrue (has_interrupt (shape_of old) key) → key ≢ choice.key → known (shape_of old) old.actor new.own (Irq key) ≡ known (shape_of old) old.actor old.own (Irq key)
  pub proper :
      (claims takes : List Key) (regs : IchRegs) (trapping failed : Bool) (p : Progress) → IsNoneOf choice.key claims → IsNoneOf choice.key takes
      → IsProper (shape_of old) old.actor (claims_by old (choice.key ∷ claims) (cons_option (key_of_both choice) takes) regs trapping failed p) (map makes part)
  pub goes_on :
      (claims takes : List Key) (regs : IchRegs) (trapping failed : Bool) (p : Progress) → IsNoneOf choice.key claims → IsNoneOf choice.key takes
      → progress_of (shape_of old) old.actor (claims_by old (choice.key ∷ claims) (cons_option (key_of_both choice) takes) regs trapping failed p) (map makes part)
      ≡ claims_by new claims takes (regs_left claimed choice.key regs) trapping (failed || not (is_whole claimed)) p

-- The places of list registers.

-- a vCPU with what came at a place
abbrev pub loaded_with : ℕ → Option Choice → Loaded → Loaded
loaded_with place None vcpu = vcpu
loaded_with place (Some choice) vcpu = with_place place (packed_entry choice.entry) (Some (held_as choice)) vcpu

-- a vCPU claimed what was chosen for a place, if anything was, and stored what came
pub record ClaimsSome (old new : Seen) (place : ℕ) (choice : Choice) (before after : Loaded) (failed : Bool) : Type 0 where
  pub claimed : Claimed
  pub chosen : ClaimsChosen old new choice claimed
  pub loaded : after ≡ loaded_with place (choice_left claimed choice) before
  pub failed_is : failed ≡ not (is_whole claimed)

pub record ClaimsNone (old new : Seen) (before after : Loaded) (failed : Bool) : Type 0 where
  pub seen : new ≡ old
  pub loaded : after ≡ before
  pub failed_is : failed ≡ false

abbrev pub ClaimsAt : Seen → Seen → ℕ → Option Choice → Loaded → Loaded → Bool → Type 0
ClaimsAt old new place None before after failed = ClaimsNone old new before after failed
ClaimsAt old new place (Some choice) before after failed = ClaimsSome old new place choice before after failed

abbrev pub CanClaimAt : Seen → Option Choice → Type 0
CanClaimAt seen None = Unit {0}
CanClaimAt seen (Some choice) = IsClaimable seen choice

-- a fill is the plan of a vCPU with so many list registers over what it found
pub record IsPlanOf (seen : Seen) (lrs : ℕ) (fill : Fill) : Type 0 where
  pub vcpu : is_vcpu (shape_of seen) seen.actor ≡ true
  pub few : lrs ≤ 16
  pub offers : List Offer
  pub found : AreFound seen offers
  pub is : fill ≡ plan offers seen.actor seen.local.cpu (shape_of seen) lrs

-- a vCPU is about to claim what a fill has: it holds nothing yet, and its registers are those that the fill asks for, but for the list registers
pub record IsBlank (seen : Seen) (fill : Fill) (vcpu : Loaded) : Type 0 where
  pub empty : seen.local.at ≡ []
  pub regs : vcpu.regs ≡ record (regs_of fill seen.local.cpu vcpu.regs.n) { lr = replicate 16 0 }
  pub held : vcpu.held ≡ replicate 16 None
  pub trapping : vcpu.trapping ≡ fill.trapping

-- what is held at a place was chosen for it, and the place is before another
pub record IsClaimed (fill : Fill) (place j : ℕ) (one : HeldIrq) : Type 0 where
  pub before : j < place
  pub choice : Choice
  pub chosen : slice_index_or fill.choice j None ≡ Some choice
  pub key : choice.key ≡ one.key

-- the protocol's registers are those of the vCPU at the places before one, and those of the fill from there on
pub record IsRegsAt (fill : Fill) (place : ℕ) (loaded : Loaded) (regs : IchRegs) : Type 0 where
  pub same : record regs { lr = [] } ≡ record loaded.regs { lr = [] }
  pub size : length regs.lr ≡ 16
  pub done : (i : ℕ) → i < place → slice_index_or regs.lr i 0 ≡ slice_index_or loaded.regs.lr i 0
  pub left : (i : ℕ) → place ≤ i → i < 16 → slice_index_or regs.lr i 0 ≡ word_of (slice_index_or fill.choice i None)

-- the same of what the vCPU holds
pub record IsLoadedAt (now : Seen) (fill : Fill) (place : ℕ) (before loaded : Loaded) : Type 0 where
  pub same : record loaded { regs = record loaded.regs { lr = before.regs.lr }; held = before.held } ≡ before
  pub words : length loaded.regs.lr ≡ 16
  pub places : length loaded.held ≡ 16
  pub zero : (i : ℕ) → place ≤ i → slice_index_or loaded.regs.lr i 0 ≡ 0
  pub held : (j : ℕ) (one : HeldIrq) → slice_index_or loaded.held j None ≡ Some one → IsClaimed fill place j one
  pub stands : StandFor loaded.regs loaded.held (interface_of now.local)
  pub few : length now.local.at ≤ place
  pub whole : IsTrue (list_all (λ at. not at.given) now.local.at)

-- a vCPU claimed what was chosen for the places before one
pub record IsClaiming (old now : Seen) (fill : Fill) (before loaded : Loaded) (place : ℕ) (failed : Bool) : Type 0 where
  pub part : List Made
  pub adds : Adds old now part
  pub none_taken : IsTrue (takes_none part)
  pub quiet : IsTrue (are_quiet part)
  pub steps_are : IsTrue (all_are is_claim part)
  pub failed_is : failed ≡ not (all_hit part)
  pub moves : IsTrue (are_moves old.actor (part_events old part))
  pub same : record now.local { at = old.local.at; cands = old.local.cands } ≡ old.local
  pub known_as : (i : ℕ) (choice : Choice) → place ≤ i → slice_index_or fill.choice i None ≡ Some choice → known (shape_of old) old.actor now.own (Irq choice.key) ≡ Some (packed choice.irq)
  pub loaded_is : IsLoadedAt now fill place before loaded
  pub regs : IchRegs
  pub regs_are : IsRegsAt fill place loaded regs
  pub proper :
      (failing : Bool) (p : Progress)
      → IsProper (shape_of old) old.actor (claims_by old (keys_chosen fill) (keys_of_both fill) (regs_of fill old.local.cpu before.regs.n) fill.trapping failing p) (map makes part)
  pub goes_on :
      (failing : Bool) (p : Progress)
      → progress_of (shape_of old) old.actor (claims_by old (keys_chosen fill) (keys_of_both fill) (regs_of fill old.local.cpu before.regs.n) fill.trapping failing p) (map makes part)
      ≡ claims_by now (keys_chosen (record fill { choice = drop place fill.choice })) (keys_of_both (record fill { choice = drop place fill.choice })) regs fill.trapping (failing || failed) p

-- it claimed all: its registers, with what is held, stand for what is at its interface
pub record ClaimsAll (old new : Seen) (fill : Fill) (before after : Loaded) (failed : Bool) : Type 0 where
  pub part : List Made
  pub adds : Adds old new part
  pub none_taken : IsTrue (takes_none part)
  pub quiet : IsTrue (are_quiet part)
  pub steps_are : IsTrue (all_are is_claim part)
  pub failed_is : failed ≡ not (all_hit part)
  pub moves : IsTrue (are_moves old.actor (part_events old part))
  pub same : record new.local { at = old.local.at; cands = old.local.cands } ≡ old.local
  pub loaded : record after { regs = record after.regs { lr = before.regs.lr }; held = before.held } ≡ before
  pub held : (j : ℕ) (one : HeldIrq) → slice_index_or after.held j None ≡ Some one → IsClaimed fill 16 j one
  pub stands : StandFor after.regs after.held (interface_of new.local)
  pub whole : IsTrue (list_all (λ at. not at.given) new.local.at)
  pub proper :
      (failing : Bool) (p : Progress)
      → IsProper (shape_of old) old.actor (claims_by old (keys_chosen fill) (keys_of_both fill) (regs_of fill old.local.cpu before.regs.n) fill.trapping failing p) (map makes part)
  pub goes_on :
      (failing : Bool) (p : Progress)
      → progress_of (shape_of old) old.actor (claims_by old (keys_chosen fill) (keys_of_both fill) (regs_of fill old.local.cpu before.regs.n) fill.trapping failing p) (map makes part)
      ≡ claims_by new [] [] after.regs fill.trapping (failing || failed) p
