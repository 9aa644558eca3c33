-- What a Chooser keeps of the interrupts that it was offered.
use Rattle.std.specs.Prelude.{ℕ, ◌≡◌, ◌<◌, List}
use Rattle.gic_ich.specs.Words.{GuestShape}
use Rattle.gic_ich.specs.GicPrio.declared.cpu.CpuRec.{CpuRec}
use Rattle.vcpu_refill.specs.declared.offer.Offer.{Offer}
use Rattle.vcpu_refill.specs.declared.ranking.Ranking.{Ranking}
use Rattle.vcpu_refill.specs.Order.{active_among, deliverable_among}
use Rattle.vcpu_refill.specs.Ranking.{ranking_of}

-- what a Chooser keeps: how many list registers there are, the vCPU, and the first of the active and of the deliverable interrupts
pub record Kept : Type 0 where
  pub lrs : ℕ
  pub vcpu : ℕ
  pub active : Ranking
  pub deliverable : Ranking

-- what is kept is of these ordered lists
pub record Keeps (kept : Kept) (active deliverable : List Offer) : Type 0 where
  pub kept_active : kept.active ≡ ranking_of active
  pub kept_deliverable : kept.deliverable ≡ ranking_of deliverable

-- what is kept is, under this CPU record, of these interrupts in the order in which they were offered, in every guest that has the vCPU
abbrev pub StandsFor : Kept → CpuRec → List Offer → Type 0
StandsFor kept cpu offers =
    (shape : GuestShape) → kept.vcpu < shape.vcpus → Keeps kept (active_among offers kept.vcpu) (deliverable_among offers kept.vcpu cpu shape)
