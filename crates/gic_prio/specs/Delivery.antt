-- Which interrupt comes first at a CPU interface (IHI 0069, "Interrupt prioritization").
use Rattle.std.specs.Prelude.{ℕ, ◌&&◌, ◌||◌, ◌==◌, Bool, true, not, nat_lt, Option, is_none, find, List}
use Rattle.std.specs.List.{list_any}
use Rattle.floor_words.specs.GicWord.declared.record.Group.{Group}
use Rattle.floor_words.specs.Words.{G0, G1, Irq, is_ripe, Key, Private, Spi, Lpi, GuestShape}
use Rattle.gic_prio.specs.declared.candidate.Candidate.{Candidate}
use Rattle.gic_prio.specs.declared.cpu.CpuRec.{CpuRec}

-- the vCPU listens to this group (IHI 0069, ICC_IGRPEN0 and ICC_IGRPEN1)
abbrev pub is_group_enabled : Group → CpuRec → Bool
is_group_enabled G0 cpu = cpu.en0
is_group_enabled G1 cpu = cpu.en1

-- the vCPU takes interrupts of this kind: LPIs only where its redistributor has them enabled (IHI 0069, GICR_CTLR)
abbrev pub takes_kind : Key → CpuRec → Bool
takes_kind (Private vcpu id) cpu = true
takes_kind (Spi id) cpu = true
takes_kind (Lpi id) cpu = cpu.lpis

-- the interrupt can be delivered to the vCPU of a guest
abbrev pub is_deliverable : Key → Irq → ℕ → CpuRec → GuestShape → Bool
is_deliverable key irq vcpu cpu shape = is_ripe irq vcpu shape && is_none irq.act_by && is_group_enabled irq.group cpu && takes_kind key cpu

-- delivered before another: of lower priority value, or of the same and with a lower INTID (own choice at a tie)
abbrev pub is_before : Candidate → Candidate → Bool
is_before a b = nat_lt a.prio b.prio || (a.prio == b.prio && nat_lt a.id b.id)

-- the first of some candidates: none of them is before it
abbrev pub first_of : List Candidate → Option Candidate
first_of candidates = find (λ one. not (list_any (λ other. is_before other one) candidates)) candidates
