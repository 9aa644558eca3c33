-- The scan of trap mode: the first interrupt that is deliverable to a vCPU comes to its interface (own choice).
use Rattle.std.specs.Prelude.{◌≡◌, ℕ, ◌≤◌, not, Bool, true, false, IsTrue, List, [], map, replicate, Option, Some, None, option_to_list, IfSome}
use Rattle.std.specs.List.{list_all}
use Rattle.std.specs.Option.{option_map}
use Rattle.pe_loop.specs.Calls.{Operation, named_of}
use Rattle.pe_loop.specs.Lists.{IchRegs, StandFor, Pending, Offer, is_deliverable_to, chosen_as}
use Rattle.pe_loop.specs.VcpuState.declared.loaded.Loaded.{Loaded}
use Rattle.pe_loop.specs.Core.{Made, interface_of, is_vcpu, Seen, Adds, shape_of, part_events, makes, Progress, Debt, progress_of, IsProper, alone}
use Rattle.pe_loop.specs.PortCall.Piece.{takes_none}
use Rattle.pe_loop.specs.Claiming.{claims_by}
use Rattle.pe_loop.specs.Scanning.{IsFound}
use Rattle.pe_icc.specs.Amid.{IsAble, IsSame, IsSet, Leads}

-- a scan found it so, and it is deliverable to the vCPU
pub record IsFirst (seen : Seen) (offer : Offer) : Type 0 where
  pub found : IsFound seen offer
  pub deliverable : IsTrue (is_deliverable_to seen.actor seen.local.cpu (shape_of seen) offer)

-- a vCPU with nothing at its interface and in its list registers may claim it
pub record CanClaimFirst (seen : Seen) (vcpu : Loaded) (first : Option Offer) : Type 0 where
  pub vcpu_is : is_vcpu (shape_of seen) seen.actor ≡ true
  pub lrs : 1 ≤ vcpu.regs.n
  pub empty : seen.local.at ≡ []
  pub regs : vcpu.regs ≡ alone None seen.local.cpu vcpu.regs.n
  pub held : vcpu.held ≡ replicate 16 None
  pub is : IfSome first (IsFirst seen)

-- the registers with it, if there is one
abbrev pub with_first : Seen → ℕ → Option Offer → IchRegs
with_first seen n first = alone (option_map (chosen_as Pending) first) seen.local.cpu n

-- it did, or it did not come
pub record ClaimsFirst (old new : Seen) (before after : Loaded) (first : Option Offer) (failed : Bool) : Type 0 where
  pub part : List Made
  pub adds : Adds old new part
  pub none_taken : IsTrue (takes_none part)
  pub moves : named_of (Some old.actor) (part_events old part) ≡ []
  pub local_is : record new.local { at = old.local.at; cands = old.local.cands } ≡ old.local
  pub whole : IsTrue (list_all (λ at. not at.given) new.local.at)
  pub same : record after { regs = record after.regs { lr = before.regs.lr }; held = before.held } ≡ before
  pub stands : StandFor after.regs after.held (interface_of new.local)
  pub proper :
      (trapping : Bool) (p : Progress)
      → IsProper (shape_of old) old.actor (claims_by old (option_to_list (option_map (λ offer. offer.key) first)) [] (with_first old before.regs.n first) trapping false p) (map makes part)
  pub goes_on :
      (trapping : Bool) (p : Progress)
      → progress_of (shape_of old) old.actor (claims_by old (option_to_list (option_map (λ offer. offer.key) first)) [] (with_first old before.regs.n first) trapping false p) (map makes part)
      ≡ claims_by new [] [] after.regs trapping failed p

-- a vCPU scanned in trap mode since its last look for a kick
pub record HasScanned (seen : Seen) (vcpu : Loaded) (operation : Operation) (debt : Debt) (p : Progress) : Type 0 where
  pub able : IsAble seen vcpu operation debt p
  pub scanned : p.scanned ≡ true

-- it scanned so, and took the first interrupt to its interface
pub record ScansFirst (old new : Seen) (before after : Loaded) : Type 0 where
  pub part : List Made
  pub adds : Adds old new part
  pub none_taken : IsTrue (takes_none part)
  pub moves : named_of (Some old.actor) (part_events old part) ≡ []
  pub set : IsSet new after
  pub same : IsSame before after
  pub leads : (operation : Operation) (debt : Debt) → Leads old part (IsAble old before operation debt) (HasScanned new after operation debt)
