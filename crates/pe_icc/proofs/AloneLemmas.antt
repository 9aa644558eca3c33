-- One interrupt in the list registers, or none.
use Rattle.std.proofs.Common.{◌≡◌, ℕ, ◌^◌, ◌≤◌, true, [], ◌∷◌, replicate, Some, None, refl, sym, ap, ◌∙◌, arith}
use Rattle.std.proofs.lemmas.Option.{none-some}
use Rattle.pe_loop.specs.Words.{intid_of}
use Rattle.pe_loop.specs.Lists.{IchRegs, hcr_en, HoldCpu, StandFor, seen_in, vmcr_of, is_live, packed as packed_entry, Choice, FitsRegister, offer_of, chosen_as, entry_of, held_as}
use Rattle.pe_loop.specs.Registers.{CpuRec}
use Rattle.pe_loop.proofs.VcpuRefill.StandLemmas.{stands_chosen}
use Rattle.pe_loop.specs.VcpuState.declared.loaded.Loaded.{Loaded}
use Rattle.pe_loop.proofs.VcpuState.PlaceLemmas.{put_stands}
use Rattle.pe_loop.specs.Core.{alone, without_claim}
use Rattle.pe_loop.specs.Stay.{IsOpen}
use Rattle.pe_loop.proofs.ClaimingLemmas.{blank_places, none_there}
use Rattle.pe_loop.proofs.StoreLemmas.{changed_there, is_with}
use Rattle.pe_icc.specs.Prepare.{emptied}

-- none
pub empty_stands : (n : ℕ) (cpu : CpuRec) → StandFor (alone None cpu n) (replicate 16 None) (record { cpu = cpu; at = [] })
empty_stands n cpu = record { holds = record { enabled = refl; vmcr = refl; ap0 = refl; ap1 = refl }; places = blank_places n }

-- the emptied registers of a vCPU
pub emptied_alone : (vcpu : Loaded) (cpu : CpuRec) → HoldCpu vcpu.regs cpu → (emptied vcpu).regs ≡ alone None cpu vcpu.regs.n
emptied_alone vcpu cpu holds =
    let make : ℕ → ℕ → ℕ → IchRegs = λ vmcr ap0 ap1. record { lr = replicate 16 0; n = vcpu.regs.n; vmcr = vmcr; hcr = 2 ^ hcr_en; ap0r = ap0; ap1r = ap1 } in
    ap (λ vmcr. make vmcr vcpu.regs.ap0r vcpu.regs.ap1r) holds.vmcr ∙ ap (λ ap0. make (vmcr_of cpu) ap0 vcpu.regs.ap1r) holds.ap0 ∙ ap (make (vmcr_of cpu) cpu.ap0) holds.ap1

-- one
pub single_stands : (n : ℕ) (cpu : CpuRec) (choice : Choice) → 1 ≤ n → FitsRegister (offer_of choice) → choice ≡ chosen_as choice.entry.state (offer_of choice) → StandFor (alone (Some choice) cpu n) (Some (held_as choice) ∷ replicate 15 None) (record { cpu = cpu; at = entry_of choice ∷ [] })
single_stands n cpu choice some fits whole =
    put_stands (alone None cpu n) (replicate 16 None) (record { cpu = cpu; at = [] }) (entry_of choice ∷ []) 0 (packed_entry choice.entry) (held_as choice) (entry_of choice) (omega arith) (omega arith) (empty_stands n cpu) (omega (arith, some)) (none_there 16 0)
    (λ held. none-some held.one (sym (none_there 16 held.place) ∙ held.there)) (stands_chosen choice fits whole) (is_with (entry_of choice) [])

-- one that was not claimed
pub missed_alone : (n : ℕ) (cpu : CpuRec) (choice : Choice) → 1 ≤ n → is_live (intid_of choice.key) (seen_in (packed_entry choice.entry)) ≡ true → without_claim choice.key (alone (Some choice) cpu n) ≡ alone None cpu n
missed_alone n cpu choice some live = changed_there (alone (Some choice) cpu n) choice.key 0 (λ word. 0) (omega (arith, some)) refl (omega arith) live (λ k less. absurd (omega (arith, less)))

-- ICH_HCR that is En alone traps nothing
pub en_opens : IsOpen (2 ^ hcr_en)
en_opens = record { common = refl; group_0 = refl; group_1 = refl; deactivate = refl }
