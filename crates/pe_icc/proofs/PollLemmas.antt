-- A look for a kick that decides an access.
use Rattle.std.proofs.Common.{◌≡◌, ℕ, not, Bool, true, false, if◌then◌else◌, List, [], ◌∷◌, ◌++◌, Option, Some, None, refl, sym, ap, subst, ◌∙◌, ◌||◌}
use Rattle.std.specs.List.{list_all}
use Rattle.std.specs.Option.{option_to_list}
use Rattle.pe_loop.specs.Words.{IccReg}
use Rattle.pe_loop.specs.Calls.{Cpu, Operation, Happened}
use Rattle.pe_loop.specs.GicCall.declared.event.Found.TheVariants.{Answer}
use Rattle.pe_loop.specs.Lists.{IchRegs, StandFor}
use Rattle.pe_loop.proofs.GicIcv.CpuLemmas.{deaf, holds}
use Rattle.pe_loop.specs.Registers.{CpuRec, candidates_at, interface_after, interface_answer}
use Rattle.pe_loop.specs.VcpuState.declared.loaded.Loaded.{Loaded}
use Rattle.pe_loop.specs.Core.{Local, Folding, Made, Poll, interface_of, accessed, local_after, vcpu_of, is_vcpu, Seen, IsPort, AddsStep, made_by, shape_of, IsAtRest, Progress, Debt, after_poll, ended_by, scan_on, stepped, IsProperStep, is_settled, may_access, after_operation, idle}
use Rattle.pe_loop.proofs.PortCall.PieceLemmas.{idle_is, idle_on, scan_free}
use Rattle.pe_loop.specs.Stay.{IsActor, IsOn}
use Rattle.pe_icc.specs.Amid.{IsSet}
use Rattle.pe_icc.specs.Operate.{MayAsk, MayReenter, HasAsked, debt_left, Operates, Polls}
use Rattle.pe_icc.specs.declared.operate.Polled.TheVariants.{Kicked, Done}
use Rattle.pe_loop.proofs.CoreProper.InterfaceLemmas.{interface_accessed, is_interface}
use Rattle.pe_icc.proofs.InterfaceLemmas.{lpis_kept, whole_accessed}

-- The step.

asked_proper : (old : Seen) (vcpu : Loaded) (operation : Operation) (debt : Debt) (reg : IccReg) (write : Option ℕ) (p : Progress) → MayAsk old vcpu operation debt reg write p → IsProperStep (shape_of old) old.actor p (Poll (Some reg) write)
asked_proper old vcpu operation debt reg write p may =
    let amid = may.able.amid in
    record {
      scan = scan_free (shape_of old) old.actor p (Poll (Some reg) write) (idle_is p.scan amid.rest.scan);
      trap = may.trap;
      failed = ap not amid.none_failed;
      far = may.far;
      refill = ap (λ debt. may_access debt (ended_by (shape_of old) old.actor reg write)) amid.debt_is ∙ may.refill;
      want = refl;
      seen = refl;
    }

asked_told : (old new : Seen) (reg : IccReg) (write : Option ℕ) (found : ℕ) (add : AddsStep old new (Poll (Some reg) write) found) (p : Progress) (kick : Bool) → IsAtRest old p → (vcpu_of found).kick ≡ kick
    → stepped (shape_of old) old.actor (made_by old (Poll (Some reg) write) found add.tables) p ≡ record (after_poll (Some reg) write kick p) { local = new.local; own = new.own }
asked_told old new reg write found add p kick rest kicked =
    let shape = shape_of old in
    let actor = old.actor in
    let step = Poll (Some reg) write in
    let made = made_by old step found add.tables in
    let after : Bool → Progress = λ kick. after_poll (Some reg) write kick p in
    let make : Local → List Made → Progress = λ local own. record (after kick) { local = local; own = own } in
    ap (λ kick. scan_on shape actor (record (after kick) { local = local_after shape actor p.local step found; own = p.own ++ made ∷ [] })) kicked
    ∙ idle_on shape actor (make (local_after shape actor p.local step found) (p.own ++ made ∷ [])) (scan_is kick)
    ∙ ap (λ local. make (local_after shape actor local step found) (p.own ++ made ∷ [])) rest.local
    ∙ ap (λ own. make (local_after shape actor old.local step found) (own ++ made ∷ [])) rest.own
    ∙ ap (λ (seen : Seen). make seen.local seen.own) (sym add.adds.new_is)
  where
    scan_is : (kick : Bool) → (after_poll (Some reg) write kick p).scan ≡ idle
    scan_is true = idle_is p.scan rest.scan
    scan_is false = idle_is p.scan rest.scan

-- what it leaves the actor
local_left : (old new : Seen) (reg : IccReg) (write : Option ℕ) (found : ℕ) (kick : Bool) → AddsStep old new (Poll (Some reg) write) found → (vcpu_of found).kick ≡ kick → new.local ≡ (if kick then record old.local { phase = Folding } else accessed reg write old.local)
local_left old new reg write found kick add kicked = ap (λ seen. seen.local) add.adds.new_is ∙ ap (λ kick. if kick then record old.local { phase = Folding } else accessed reg write old.local) kicked

same_actor : (old new : Seen) (before after : Loaded) (reg : IccReg) (write : Option ℕ) (found : ℕ) → AddsStep old new (Poll (Some reg) write) found → after.base ≡ before.base → IsActor old before.base → IsActor new after.base
same_actor old new before after reg write found add base is =
    let new_is = add.adds.new_is in
    record {
      guest = ap (λ seen. seen.number) new_is ∙ is.guest ∙ sym (ap (λ base. base.guest) base);
      number = ap (λ seen. seen.actor) new_is ∙ is.number ∙ sym (ap (λ base. base.vcpu) base);
      is_one = ap (λ seen. is_vcpu (shape_of seen) seen.actor) new_is ∙ is.is_one;
    }

-- A kick.

pub kicked_so : (old new : Seen) (reg : IccReg) (write : Option ℕ) (found : ℕ) (before after : Loaded) → IsSet old before → AddsStep old new (Poll (Some reg) write) found → (vcpu_of found).kick ≡ true → after ≡ before → Polls old new reg write before after Kicked
kicked_so old new reg write found before after set add kicked same =
    let made = made_by old (Poll (Some reg) write) found add.tables in
    let local = local_left old new reg write found true add kicked in
    let on = set.on in
    let now_on : IsOn new before = record {
      actor = same_actor old new before before reg write found add refl on.actor;
      stands = subst (λ local. StandFor before.regs before.held (interface_of local)) (sym local) on.stands;
      cpu = on.cpu ∙ sym (ap (λ local. local.cpu) local);
      whole = ap (λ local. list_all (λ at. not at.given) local.at) local ∙ on.whole;
      settled = ap is_settled local ∙ on.settled;
    } in
    record {
      found = found;
      adds = add;
      is =
          record {
            same = same;
            kicked = ap (λ b. b || false) kicked;
            on = subst (IsOn new) (sym same) now_on;
            silent = ap (λ b. option_to_list (if b then None else Some (record { event = Cpu old.actor reg write; found = Answer (interface_answer reg write (interface_of old.local)) })) ++ []) kicked;
            leads = λ operation debt. record {
              proper = λ p may. (asked_proper old before operation debt reg write p may, tt);
              after = λ p may.
                  let amid = may.able.amid in
                  subst (MayReenter new operation before.regs.n debt) (sym (asked_told old new reg write found add p true amid.rest kicked))
                  (record { amid = record { rest = record { local = refl; own = refl; scan = amid.rest.scan; wants = amid.rest.wants }; operation_is = amid.operation_is; lrs_is = amid.lrs_is; none_failed = amid.none_failed; debt_is = amid.debt_is }; near = refl });
            };
          };
    }

-- No kick.

-- the registers hold the record after the access
holds_after : (regs : IchRegs) (lpis : Bool) (cpu : CpuRec) → cpu.lpis ≡ lpis → record (deaf cpu) { lpis = lpis } ≡ cpu
holds_after regs lpis cpu is = let make : Bool → CpuRec = λ lpis. record cpu { lpis = lpis } in ap make (sym is)

pub done_so : (old new : Seen) (reg : IccReg) (write : Option ℕ) (found : ℕ) (before after : Loaded) (answer : Option ℕ) → IsPort old → IsSet old before → AddsStep old new (Poll (Some reg) write) found → (vcpu_of found).kick ≡ false → Operates reg write before after answer
    → Polls old new reg write before after (Done answer)
done_so old new reg write found before after answer port set add kicked did =
    let shape = shape_of old in
    let made = made_by old (Poll (Some reg) write) found add.tables in
    let local = local_left old new reg write found false add kicked in
    let on = set.on in
    let interface = interface_of old.local in
    let ok = is_interface shape old.actor old.local port.good.sound.shape port.local in
    let stands = did.stands interface ok on.stands in
    let cpu_next = (interface_after reg write interface).cpu in
    let base : after.base ≡ before.base = ap (λ (vcpu : Loaded). vcpu.base) did.same in
    let trapping : after.trapping ≡ before.trapping = ap (λ (vcpu : Loaded). vcpu.trapping) did.same in
    let held_cpu = holds after.regs cpu_next (did.points interface ok on.stands) stands.holds.vmcr stands.holds.ap0 stands.holds.ap1 in
    let lpis : cpu_next.lpis ≡ after.base.cpu.lpis
    = lpis_kept reg write old.local.cpu (candidates_at interface) ∙ sym (ap (λ (cpu : CpuRec). cpu.lpis) on.cpu) ∙ sym (ap (λ base. base.cpu.lpis) base) in
    let with_lpis : CpuRec → CpuRec = λ cpu. record cpu { lpis = after.base.cpu.lpis } in
    let answer_is = did.answers interface ok on.stands in
    let event : Option ℕ → List Happened = λ answer. (record { event = Cpu old.actor reg write; found = Answer answer }) ∷ [] in
    record {
      found = found;
      adds = add;
      is =
          record {
            regs = did.regs;
            same = did.same;
            on =
                record {
                  actor = same_actor old new before after reg write found add base on.actor;
                  stands = subst (StandFor after.regs after.held) (sym (ap interface_of local ∙ interface_accessed reg write old.local)) stands;
                  cpu = ap with_lpis held_cpu ∙ holds_after after.regs after.base.cpu.lpis cpu_next lpis ∙ sym (ap (λ local. local.cpu) local);
                  whole = ap (λ local. list_all (λ at. not at.given) local.at) local ∙ whole_accessed reg write old.local ∙ on.whole;
                  settled = ap is_settled local ∙ on.settled;
                };
            phase = ap (λ local. local.phase) local;
            opens = did.opens;
            lrs = did.lrs;
            event =
                ap (λ b. option_to_list (if b then None else Some (record { event = Cpu old.actor reg write; found = Answer (interface_answer reg write interface) })) ++ []) kicked
                ∙ ap event (sym answer_is);
            answer_is = answer_is;
            leads = λ operation debt. record {
              proper = λ p may. (asked_proper old before operation debt reg write p may, tt);
              after = λ p may.
                  let amid = may.able.amid in
                  let regs : after_operation p.trapping reg write p.regs ≡ after.regs
                  = ap (λ trapping. after_operation trapping reg write p.regs) may.able.trapping ∙ ap (after_operation before.trapping reg write) may.able.regs ∙ sym did.regs in
                  subst (HasAsked new after operation (debt_left after.regs before.trapping debt)) (sym (asked_told old new reg write found add p false amid.rest kicked))
                  (record {
                    able =
                        record {
                          amid =
                              record {
                                rest = record { local = refl; own = refl; scan = amid.rest.scan; wants = amid.rest.wants };
                                operation_is = amid.operation_is;
                                lrs_is = amid.lrs_is ∙ sym did.lrs;
                                none_failed = amid.none_failed;
                                debt_is =
                                    ap (λ regs. debt_left regs p.trapping p.debt) regs
                                    ∙ ap (λ trapping. debt_left after.regs trapping p.debt) may.able.trapping
                                    ∙ ap (debt_left after.regs before.trapping) amid.debt_is;
                              };
                          regs = regs;
                          trapping = may.able.trapping ∙ sym trapping;
                        };
                    near = refl;
                  });
            };
          };
    }
