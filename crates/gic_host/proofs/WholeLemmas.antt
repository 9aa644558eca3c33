-- One access, from the plan to what is read back.
use Rattle.std.proofs.Common.{◌≡◌, ◌<◌, ◌≤◌, ◌+◌, ℕ, Bool, true, false, ◌||◌, nat_lt, cond, Option, Some, None, List, ◌∷◌, map, filter, refl, sym, ap, ◌∙◌, subst, arith, unwrap_or}
use Rattle.std.specs.Prelude.{◌==◌}
use Rattle.gic_ich.specs.Words.{GuestShape, HeldIrq, IccReg, Eoir0, Eoir1, Bpr1, G0, G1, has_bit}
use Rattle.gic_ich.specs.GicWord.declared.record.Group.{Group}
use Rattle.gic_ich.specs.GicPrio.declared.cpu.CpuRec.{CpuRec}
use Rattle.gic_ich.specs.GicPrio.declared.candidate.Candidate.{Candidate}
use Rattle.gic_ich.specs.GicPrio.Priority.{HasBinaryPoints, level_activated, level_dropped, least_level, running_level}
use Rattle.gic_ich.specs.GicPrio.Signal.{intid_written, is_special}
use Rattle.gic_ich.specs.GicPrio.Registers.{binary_point_written}
use Rattle.gic_ich.specs.GicPrio.Access.{taken_by, activated_by, cpu_after}
use Rattle.gic_ich.specs.GicPrio.Interface.{InterfaceState, IsInterface, candidates_at, interface_after, interface_answer}
use Rattle.gic_ich.specs.declared.regs.IchRegs.{IchRegs}
use Rattle.gic_ich.specs.Vmcr.{cpu_of}
use Rattle.gic_ich.specs.Place.{HoldCpu}
use Rattle.floor_lists.specs.Lists.{Offer, Fill, HasEntries, Outcome, Agrees, Follows, plan, interface_of, regs_of, held_of, StandFor, listed_of, trap_cause, answered, words_of}
use Rattle.floor_lists.proofs.GicIcv.PlaceLemmas.{places_agree}
use Rattle.floor_lists.proofs.GicIcv.CpuLemmas.{holds}
use Rattle.gic_host.specs.declared.link.Link.{Link}
use Rattle.gic_host.specs.declared.state.LinkState.{LinkState}
use Rattle.gic_host.specs.Link.{linked_fill, AreLinked, FitRegisters}
use Rattle.gic_host.specs.State.{is_at, entry_of, accessed}
use Rattle.gic_host.specs.Text.{offers_at, shape_of, planned_registers}
use Rattle.gic_host.specs.Good.{are_good_links}
use Rattle.gic_host.specs.Access.{HasGoodLinks, offers_for, read_back}
use Rattle.gic_host.proofs.GoodLemmas.{AreGood, link_of, good_parts, phys_fits}
use Rattle.gic_host.proofs.PartLemmas.{choices_linked}
use Rattle.gic_host.proofs.NeededLemmas.{Suffices, suffices}
use Rattle.gic_host.proofs.AccessLemmas.{part_interface, are_linked, linked_before, answer_same, cpu_same, links_same}

-- EnableLPIs is as it was
lpis_kept : (reg : IccReg) (write : Option ℕ) (cpu : CpuRec) (candidates : List Candidate) → (cpu_after reg write cpu candidates).lpis ≡ cpu.lpis
lpis_kept reg None cpu candidates = of (taken_by reg None cpu candidates)
  where
    at : (prio : ℕ) (group : Group) → (level_activated prio group cpu).lpis ≡ cpu.lpis
    at prio G0 = refl
    at prio G1 = refl

    of : (found : Option Candidate) → (activated_by found cpu).lpis ≡ cpu.lpis
    of None = refl
    of (Some one) = at one.prio one.group
lpis_kept Eoir0 (Some value) cpu candidates = of (is_special (intid_written value) || running_level cpu == 32 || nat_lt (running_level cpu) (least_level G0 cpu))
  where
    of : (b : Bool) → (unwrap_or (cond b None (Some (level_dropped G0 cpu))) cpu).lpis ≡ cpu.lpis
    of true = refl
    of false = refl
lpis_kept Eoir1 (Some value) cpu candidates = of (is_special (intid_written value) || running_level cpu == 32 || nat_lt (running_level cpu) (least_level G1 cpu))
  where
    of : (b : Bool) → (unwrap_or (cond b None (Some (level_dropped G1 cpu))) cpu).lpis ≡ cpu.lpis
    of true = refl
    of false = refl
lpis_kept Bpr1 (Some value) cpu candidates = of cpu.cbpr
  where
    of : (b : Bool) → (cond b cpu (record cpu { bpr1 = binary_point_written 3 value })).lpis ≡ cpu.lpis
    of true = refl
    of false = refl
lpis_kept reg (Some value) cpu candidates = refl

-- registers that hold a record give it back
cpu_back : (regs : IchRegs) (cpu : CpuRec) (lpis : Bool) → HasBinaryPoints cpu → HoldCpu regs cpu → cpu.lpis ≡ lpis → cpu_of regs lpis ≡ cpu
cpu_back regs cpu lpis points hold e =
    ap (λ (c : CpuRec). record c { lpis = lpis }) (holds regs cpu points hold.vmcr hold.ap0 hold.ap1) ∙ ap (λ (b : Bool). record cpu { lpis = b }) (sym e)

-- the parts of good links
pub good_of : (list : List Link) (ls : List LinkState) (good : HasGoodLinks list) → map link_of ls ≡ list → AreGood good.vcpus ls
good_of list ls good are = good_parts good.vcpus ls (subst (λ (links : List Link). are_good_links good.vcpus links ≡ true) (sym are) good.good)

module _ (list : List Link) (ls : List LinkState) (good : HasGoodLinks list) (are : map link_of ls ≡ list) (vcpu : ℕ) (cpu : CpuRec) (points : HasBinaryPoints cpu) (n : ℕ) (some : 1 ≤ n) (few : n ≤ 16)
    (reg : IccReg) (write : Option ℕ) (fill : Fill)
    (choice_is : (shape : GuestShape) → vcpu < shape.vcpus → fill.choice ≡ (plan (offers_for ls vcpu cpu shape n reg write) vcpu cpu shape n).choice)
    (entries : HasEntries fill.choice) (enabled : has_bit fill.hcr 0 ≡ true) where
  abbrev shape : GuestShape
  shape = shape_of (vcpu + 1)

  abbrev offers : List Offer
  offers = offers_for ls vcpu cpu shape n reg write

  abbrev whole : InterfaceState
  whole = record { cpu = cpu; at = map entry_of (filter (is_at vcpu) ls) }

  abbrev part : InterfaceState
  part = interface_of (plan offers vcpu cpu shape n) cpu

  fine : AreGood good.vcpus ls
  fine = good_of list ls good are

  enough : Suffices ls vcpu cpu shape n reg write offers
  enough = suffices good.vcpus ls fine vcpu cpu shape n reg some write

  same : fill.choice ≡ (plan offers vcpu cpu shape n).choice
  same = choice_is shape (omega arith)

  pub linked_ok : AreLinked list vcpu fill
  linked_ok = subst (λ (links : List Link). AreLinked links vcpu fill) are (are_linked good.vcpus ls fine vcpu cpu shape n few reg write offers enough points fill same entries enabled)

  pub numbers_ok : FitRegisters list
  numbers_ok = subst FitRegisters are (phys_fits good.vcpus ls fine)

  is_interface : IsInterface part
  is_interface = part_interface good.vcpus ls fine vcpu cpu shape n few reg write offers enough points

  before_stands : StandFor (regs_of (linked_fill list vcpu fill) cpu n) (held_of (linked_fill list vcpu fill)) part
  before_stands =
      subst (λ (links : List Link). StandFor (regs_of (linked_fill links vcpu fill) cpu n) (held_of (linked_fill links vcpu fill)) part) are
      (linked_before good.vcpus ls fine vcpu cpu shape n few reg write offers enough points fill same entries enabled)

  module _ (before after : IchRegs) (outcome : Outcome) (before_is : before ≡ regs_of (linked_fill list vcpu fill) cpu n) (untrapped : trap_cause fill.hcr reg ≡ None)
      (follow : (interface : InterfaceState) → IsInterface interface → Agrees before interface → trap_cause before.hcr reg ≡ None → Follows reg write interface outcome after)
      (place : (interface : InterfaceState) (held : List (Option HeldIrq)) → IsInterface interface → StandFor before held interface → trap_cause before.hcr reg ≡ None → StandFor after held (interface_after reg write interface)) where
    abbrev held : List (Option HeldIrq)
    held = held_of (linked_fill list vcpu fill)

    stands : StandFor before held part
    stands = subst (λ (regs : IchRegs). StandFor regs held part) (sym before_is) before_stands

    open_access : trap_cause before.hcr reg ≡ None
    open_access = ap (λ (regs : IchRegs). trap_cause regs.hcr reg) before_is ∙ untrapped

    follows : Follows reg write part outcome after
    follows = follow part is_interface (places_agree before held part is_interface stands) open_access

    pub answer_ok : outcome ≡ answered (interface_answer reg write whole)
    answer_ok = follows.answer ∙ ap answered (answer_same good.vcpus ls fine vcpu cpu shape n few reg write offers enough points fill same entries enabled)

    pub cpu_ok : cpu_of after cpu.lpis ≡ (interface_after reg write whole).cpu
    cpu_ok =
        cpu_back after (interface_after reg write part).cpu cpu.lpis follows.stays.points follows.registers.holds (lpis_kept reg write cpu (candidates_at part))
        ∙ cpu_same good.vcpus ls fine vcpu cpu shape n few reg write offers enough points fill same entries enabled

    stands_after : StandFor after held (interface_after reg write part)
    stands_after = place part held is_interface stands open_access

    pub links_ok : map (read_back vcpu (listed_of before) (listed_of after)) ls ≡ map (accessed vcpu (interface_after reg write whole).at) ls
    links_ok =
        ap (λ (regs : IchRegs). map (read_back vcpu (listed_of regs) (listed_of after)) ls) before_is
        ∙ ap (λ (links : List Link). map (read_back vcpu (listed_of (regs_of (linked_fill links vcpu fill) cpu n)) (listed_of after)) ls) (sym are)
        ∙ links_same good.vcpus ls fine vcpu cpu shape n few reg write offers enough points fill same entries enabled after
        (subst (λ (links : List Link). StandFor after (held_of (linked_fill links vcpu fill)) (interface_after reg write part)) (sym are) stands_after)

-- the plan of all that is at an interface has its links, and so its registers
module _ (list : List Link) (ls : List LinkState) (good : HasGoodLinks list) (are : map link_of ls ≡ list) (vcpu : ℕ) (cpu : CpuRec) (n : ℕ) (fill : Fill)
    (is : (shape : GuestShape) → vcpu < shape.vcpus → fill ≡ plan (offers_at ls vcpu) vcpu cpu shape n) where
  pub plan_linked : AreLinked list vcpu fill
  plan_linked =
      subst (λ (links : List Link). AreLinked links vcpu fill) are
      (choices_linked good.vcpus ls (good_of list ls good are) (offers_at ls vcpu) vcpu cpu (shape_of (vcpu + 1)) n (λ offer has. has) fill (ap (λ (f : Fill). f.choice) (is (shape_of (vcpu + 1)) (omega arith))))

  pub plan_numbers : FitRegisters list
  plan_numbers = subst FitRegisters are (phys_fits good.vcpus ls (good_of list ls good are))

  pub plan_shown : (linked : Fill) (vcpus : ℕ) → linked ≡ linked_fill list vcpu fill → vcpu < vcpus → linked.hcr ∷ words_of linked n ≡ planned_registers n vcpus cpu vcpu ls
  plan_shown linked vcpus e less =
      ap (λ (f : Fill). f.hcr ∷ words_of f n) (e ∙ ap (linked_fill list vcpu) (is (shape_of vcpus) less))
      ∙ ap (λ (links : List Link). (let f = linked_fill links vcpu (plan (offers_at ls vcpu) vcpu cpu (shape_of vcpus) n) in f.hcr ∷ words_of f n)) (sym are)
