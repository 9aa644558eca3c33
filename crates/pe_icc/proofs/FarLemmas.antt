-- The interrupt that a call ends, where it is not at the interface.
use Rattle.std.proofs.Common.{◌≡◌, ℕ, ◌<◌, ◌≤◌, ◌&&◌, ◌||◌, not, Bool, true, false, if◌then◌else◌, IsTrue, List, [], ◌∷◌, ◌++◌, map, replicate, Some, None, is_none, unwrap_or, refl, sym, ap, subst, ◌∙◌, arith}
use Rattle.std.specs.List.{list_all}
use Rattle.std.specs.Option.{option_map_or, option_to_list}
use Rattle.std.proofs.lemmas.Bool.{eq-eqb, ltb-true}
use Rattle.pe_loop.specs.Words.{Key, GuestShape, IsShape, Irq as IrqRecord, is_number, irq_of, packed}
use Rattle.pe_loop.specs.Calls.{Operation, named_of, may_reach, may_take, reached}
use Rattle.pe_loop.specs.Lists.{IchRegs, StandFor, Active, packed as packed_entry, Choice, FitsRegister, offer_of, chosen_as, entry_of, held_as}
use Rattle.pe_loop.specs.Registers.{InterfaceState, is_deliverable}
use Rattle.pe_loop.specs.VcpuState.declared.loaded.Loaded.{Loaded}
use Rattle.pe_loop.specs.VcpuState.declared.shelved.Shelved.{Shelved}
use Rattle.pe_loop.specs.VcpuState.Moves.{shelved_of}
use Rattle.pe_loop.specs.VcpuState.Places.{with_place}
use Rattle.pe_loop.specs.Core.{AtIrq, Local, Cands, Made, Look, Claim, Kick, Irq, claimed_at, interface_of, local_after, shown, may_hold, may_move, moved_of, succeeds, known, arrived, owes_no_mark, entry_for, has_no_cand, is_vcpu, no_vcpus, settled, without_vcpu, is_ready, claim_event, Seen, IsPort, Adds, AddsStep, CanMake, made_by, shape_of, part_events, CanFind, IsAtRest, Progress, Debt, after_claim, owing_after, is_end_of, scan_on, stepped, IsProperStep, is_empty, is_settled, alone, Scan, idle, is_idle, scan_looked}
use Rattle.pe_loop.proofs.PortCore.PortLemmas.{adds_join}
use Rattle.pe_loop.proofs.PortCall.MemoryLemmas.{on_own}
use Rattle.pe_loop.proofs.PortCall.PieceLemmas.{idle_is, idle_on, scan_free}
use Rattle.pe_loop.proofs.PortCall.RestLemmas.{cands_kept, kick_kept, look_kept, owes_none}
use Rattle.pe_loop.proofs.PortCall.SettleLemmas.{handed_none}
use Rattle.pe_loop.proofs.PortCall.TryLemmas.{none_append}
use Rattle.pe_loop.proofs.PortCall.TurnLemmas.{events_then, known_by_last}
use Rattle.pe_loop.specs.Claiming.{Claims, at_of}
use Rattle.pe_loop.specs.Stay.{IsActor, IsOpen}
use Rattle.pe_loop.specs.Moves.{are_moves}
use Rattle.pe_loop.proofs.ChosenLemmas.{tries}
use Rattle.pe_loop.proofs.MoveLemmas.{both_moves, claim_moves, moves_unnamed}
use Rattle.pe_loop.proofs.LeaveLemmas.{settled_owes}
use Rattle.pe_loop.proofs.CoreProper.IntidLemmas.{id_fits, in_range}
use Rattle.pe_loop.proofs.CoreProper.ReachLemmas.{reached_local}
use Rattle.pe_loop.proofs.ReachLemmas.{active_reached}
use Rattle.pe_icc.specs.Prepare.{emptied, HasLooked, LooksFor, CanClaimFar, ClaimsFar}
use Rattle.pe_icc.proofs.AmidLemmas.{leads_then}
use Rattle.pe_icc.proofs.AloneLemmas.{emptied_alone, empty_stands, en_opens, single_stands}

-- The look.

look_proper : (shape : GuestShape) (actor : ℕ) (p : Progress) (key : Key) → p.scan ≡ idle → IsProperStep shape actor p (Look (Irq key))
look_proper shape actor p key e = record { scan = scan_free shape actor p (Look (Irq key)) e; trap = refl; failed = refl; far = refl; refill = refl; want = refl; seen = refl }

look_told : (old new : Seen) (key : Key) (found : ℕ) (add : AddsStep old new (Look (Irq key)) found) (p : Progress) → IsAtRest old p → is_end_of (shape_of old) old.actor p.operation key ≡ true
    → stepped (shape_of old) old.actor (made_by old (Look (Irq key)) found add.tables) p ≡ record p { scan = idle; far = Some (is_number old.actor (irq_of found).act_by); local = new.local; own = new.own }
look_told old new key found add p rest ends =
    let shape = shape_of old in
    let actor = old.actor in
    let step = Look (Irq key) in
    let made = made_by old step found add.tables in
    let irq = irq_of found in
    let make : Scan → Bool → Local → List Made → Progress = λ scan ending local own. record p { scan = scan; far = if ending then Some (is_number actor irq.act_by) else p.far; local = local; own = own } in
    ap (λ scan. scan_on shape actor (make (scan_looked shape key irq scan) (is_end_of shape actor p.operation key) (local_after shape actor p.local step found) (p.own ++ made ∷ []))) (idle_is p.scan rest.scan)
    ∙ ap (λ ending. make idle ending (local_after shape actor p.local step found) (p.own ++ made ∷ [])) ends
    ∙ ap (λ local. make idle true (local_after shape actor local step found) (p.own ++ made ∷ [])) rest.local
    ∙ ap (λ own. make idle true (local_after shape actor old.local step found) (own ++ made ∷ [])) rest.own
    ∙ ap (λ (seen : Seen). make idle true seen.local seen.own) (sym add.adds.new_is)

pub looked_for : (old new : Seen) (key : Key) (found : ℕ) (irq : IrqRecord) → IsTrue (has_no_cand old.local) → CanFind (shape_of old) old.actor old.local (Irq key) found → AddsStep old new (Look (Irq key)) found → irq ≡ irq_of found → LooksFor old new key irq
looked_for old new key found irq none can add is =
    let shape = shape_of old in
    let made = made_by old (Look (Irq key)) found add.tables in
    record {
      found = found;
      part = made ∷ [];
      adds = add.adds;
      none_taken = ap (λ b. b && true) (handed_none (Look (Irq key)) found old add.tables refl add.handed);
      silent = refl;
      word = can.valid;
      irq_is = is;
      free = ap (λ (irq : IrqRecord). is_number old.actor irq.holder) is ∙ can.ties;
      same = ap (λ (seen : Seen). seen.local) add.adds.new_is ∙ look_kept shape old.actor key (irq_of found) old.local none;
      known_as = ap (λ seen. known (shape_of seen) seen.actor seen.own (Irq key)) add.adds.new_is ∙ known_by_last shape old.actor old.own made (Irq key) (on_own shape old.actor (Irq key) made refl);
      leads = λ vcpu operation debt ends. record {
        proper = λ p able. (look_proper shape old.actor p key (idle_is p.scan able.amid.rest.scan), tt);
        after = λ p able.
            let amid = able.amid in
            subst (HasLooked new vcpu operation debt (is_number old.actor irq.act_by)) (sym (look_told old new key found add p amid.rest (ap (λ operation. is_end_of shape old.actor operation key) amid.operation_is ∙ ends)))
            (record {
              able =
                  record {
                    amid = record { rest = record { local = refl; own = refl; scan = refl; wants = amid.rest.wants }; operation_is = amid.operation_is; lrs_is = amid.lrs_is; none_failed = amid.none_failed; debt_is = amid.debt_is };
                    regs = able.regs;
                    trapping = able.trapping;
                  };
              far = ap (λ (irq : IrqRecord). Some (is_number old.actor irq.act_by)) (sym is);
            });
      };
    }

-- The claim.

pub far_may : (seen : Seen) (vcpu : Loaded) (key : Key) (irq : IrqRecord) → CanClaimFar seen vcpu key irq → may_move (shape_of seen) seen.actor seen.local key irq ≡ true
far_may seen vcpu key irq can =
    let shape = shape_of seen in
    let actor = seen.actor in
    let cpu = seen.local.cpu in
    ap (λ at. option_map_or (λ entry. is_number actor irq.holder && may_take shape key (moved_of irq entry) actor cpu) (entry_for key at) (is_none irq.holder && may_reach shape key irq actor cpu && may_hold actor irq)) can.empty
    ∙ ap (λ holder. is_none holder && may_reach shape key irq actor cpu && may_hold actor irq) can.free
    ∙ ap (λ active. (active || is_deliverable key irq actor cpu shape) && may_hold actor irq) can.active
    ∙ ap (λ active. not irq.want || active) can.active
    ∙ or_true (not irq.want)
  where
    or_true : (b : Bool) → (b || true) ≡ true
    or_true true = refl
    or_true false = refl

far_proper : (old : Seen) (vcpu : Loaded) (operation : Operation) (debt : Debt) (key : Key) (seen : ℕ) (p : Progress) → HasLooked old vcpu operation debt true p → is_end_of (shape_of old) old.actor (Some operation) key ≡ true → old.local.at ≡ [] → known (shape_of old) old.actor old.own (Irq key) ≡ Some seen
    → IsProperStep (shape_of old) old.actor p (Claim key seen)
far_proper old vcpu operation debt key seen p has ends empty knows =
    let shape = shape_of old in
    let actor = old.actor in
    let amid = has.able.amid in
    let scan = idle_is p.scan amid.rest.scan in
    record {
      scan = scan_free shape actor p (Claim key seen) scan;
      trap = refl;
      failed = refl;
      far =
          ap (λ scan. not (is_idle scan) || (unwrap_or p.far false && is_end_of shape actor p.operation key && is_empty p.local.at)) scan
          ∙ ap (λ far. unwrap_or far false && is_end_of shape actor p.operation key && is_empty p.local.at) has.far
          ∙ ap (λ operation. is_end_of shape actor operation key && is_empty p.local.at) amid.operation_is
          ∙ ap (λ b. b && is_empty p.local.at) ends
          ∙ ap (λ (local : Local). is_empty local.at) amid.rest.local
          ∙ ap is_empty empty;
      refill = refl;
      want = refl;
      seen = ap (λ own. is_number seen (known shape actor own (Irq key))) amid.rest.own ∙ ap (is_number seen) knows ∙ eq-eqb seen seen refl;
    }

far_told : (old new : Seen) (key : Key) (seen found : ℕ) (add : AddsStep old new (Claim key seen) found) (done : Bool) (p : Progress) → IsAtRest old p → succeeds (shape_of old) old.actor old.local (Claim key seen) found ≡ done
    → stepped (shape_of old) old.actor (made_by old (Claim key seen) found add.tables) p ≡ record (after_claim key (irq_of found) done idle p) { local = new.local; own = new.own }
far_told old new key seen found add done p rest is =
    let shape = shape_of old in
    let actor = old.actor in
    let step = Claim key seen in
    let made = made_by old step found add.tables in
    let irq = irq_of found in
    let scan = idle_is p.scan rest.scan in
    let after : Bool → Scan → Progress = λ done scan. after_claim key irq done scan p in
    let make : Local → List Made → Progress = λ local own. record (after done idle) { local = local; own = own } in
    ap (λ done. scan_on shape actor (record (after done p.scan) { local = local_after shape actor p.local step found; own = p.own ++ made ∷ [] })) (ap (λ local. succeeds shape actor local step found) rest.local ∙ is)
    ∙ ap (λ scan. scan_on shape actor (record (after done scan) { local = local_after shape actor p.local step found; own = p.own ++ made ∷ [] })) scan
    ∙ idle_on shape actor (make (local_after shape actor p.local step found) (p.own ++ made ∷ [])) scan
    ∙ ap (λ local. make (local_after shape actor local step found) (p.own ++ made ∷ [])) rest.local
    ∙ ap (λ own. make (local_after shape actor old.local step found) (own ++ made ∷ [])) rest.own
    ∙ ap (λ (seen : Seen). make seen.local seen.own) (sym add.adds.new_is)

-- the interrupt as it is chosen
abbrev far_choice : Key → IrqRecord → Choice
far_choice key irq = chosen_as Active (record { key = key; irq = irq })

-- what the claim leaves the actor
far_local : (old new : Seen) (key : Key) (irq : IrqRecord) → old.local.at ≡ [] → IsTrue (has_no_cand old.local) → is_number old.actor irq.act_by ≡ true → new.local ≡ claimed_at (shape_of old) old.actor key irq old.local → new.local ≡ record old.local { at = at_of (far_choice key irq) ∷ [] }
far_local old new key irq empty none active is =
    let choice = far_choice key irq in
    let make : Cands → List AtIrq → Local = λ cands at. record old.local { cands = cands; at = at } in
    is
    ∙ reached_local (shape_of old) old.actor key irq old.local (ap (entry_for key) empty)
    ∙ ap (λ at. make (settled (shape_of old) old.actor key old.local.cands) (at ++ arrived key irq (reached irq).entry ∷ [])) empty
    ∙ ap (λ one. make (settled (shape_of old) old.actor key old.local.cands) (one ∷ [])) (active_reached old.actor choice active)
    ∙ ap (λ cands. make cands (at_of choice ∷ [])) (cands_kept (shape_of old) old.actor key old.local.cands none)

far_actor : (old new : Seen) (part : List Made) (before after : Loaded) → Adds old new part → after.base ≡ before.base → IsActor old before.base → IsActor new after.base
far_actor old new part before after add base is =
    let new_is = add.new_is in
    record {
      guest = ap (λ (seen : Seen). seen.number) new_is ∙ is.guest ∙ sym (ap (λ base. base.guest) base);
      number = ap (λ (seen : Seen). seen.actor) new_is ∙ is.number ∙ sym (ap (λ base. base.vcpu) base);
      is_one = ap (λ seen. is_vcpu (shape_of seen) seen.actor) new_is ∙ is.is_one;
    }

pub no_cands : (local : Local) → IsTrue (is_settled local) → IsTrue (has_no_cand local)
no_cands local settled = (owes_none local (settled_owes local settled)).cands

far_fits : (old : Seen) (vcpu : Loaded) (key : Key) (irq : IrqRecord) → IsShape (shape_of old) → CanClaimFar old vcpu key irq → FitsRegister (record { key = key; irq = irq })
far_fits old vcpu key irq good can = let few = can.fits.prio_bits in record { id = id_fits key (in_range (shape_of old) key good can.there); prio = omega (arith, few) }

-- the claim is to be seen as a move
far_moves : (old new : Seen) (key : Key) (irq : IrqRecord) (done : Bool) (claims : Claims old new key irq done) → named_of (Some old.actor) (part_events old (made_by old (Claim key (packed irq)) claims.found claims.adds.tables ∷ [])) ≡ []
far_moves old new key irq done claims =
    moves_unnamed old.actor (part_events old (made_by old (Claim key (packed irq)) claims.found claims.adds.tables ∷ []))
    (ap (λ b. are_moves old.actor (option_to_list (if b then claim_event old.actor key old.local else None) ++ [])) claims.done_is ∙ claim_moves old.actor key old.local done)

-- it came
pub far_done : (old new : Seen) (before after : Loaded) (key : Key) (irq : IrqRecord) (choice : Choice) → IsPort old → CanClaimFar old before key irq → Claims old new key irq true → choice ≡ far_choice key irq → after ≡ with_place 0 (packed_entry choice.entry) (Some (held_as choice)) (emptied before)
    → ClaimsFar old new key before after
far_done old new before after key irq choice port can claims choice_is after_is =
    let shape = shape_of old in
    let actor = old.actor in
    let set = can.set in
    let cpu = old.local.cpu in
    let n = before.regs.n in
    let tried = tries old new key irq true port.good.sound.shape can.there claims in
    let one = far_choice key irq in
    let local = far_local old new key irq can.empty (no_cands old.local set.on.settled) can.active tried.local in
    let chosen : (choice : Choice) → Loaded = λ choice. with_place 0 (packed_entry choice.entry) (Some (held_as choice)) (emptied before) in
    let is : after ≡ chosen one = after_is ∙ ap chosen choice_is in
    let base : after.base ≡ before.base = ap (λ (vcpu : Loaded). vcpu.base) is in
    let with_word : IchRegs → IchRegs = λ regs. record regs { lr = packed_entry one.entry ∷ replicate 15 0 } in
    let regs : after.regs ≡ alone (Some one) cpu n = ap (λ (vcpu : Loaded). vcpu.regs) is ∙ ap with_word (emptied_alone before cpu set.on.stands.holds) in
    let held : after.held ≡ Some (held_as one) ∷ replicate 15 None = ap (λ (vcpu : Loaded). vcpu.held) is in
    let fits : FitsRegister (offer_of one) = far_fits old before key irq port.good.sound.shape can in
    let stands : StandFor after.regs after.held (interface_of new.local)
    = subst (StandFor after.regs after.held) (sym (ap interface_of local)) (subst (λ held. StandFor after.regs held (record { cpu = cpu; at = entry_of one ∷ [] })) (sym held) (subst (λ regs. StandFor regs (Some (held_as one) ∷ replicate 15 None) (record { cpu = cpu; at = entry_of one ∷ [] })) (sym regs)
    (single_stands n cpu one set.lrs.0 fits refl))) in
    let made = made_by old (Claim key (packed irq)) claims.found claims.adds.tables in
    record {
      part = made ∷ [];
      adds = claims.adds.adds;
      none_taken = ap (λ b. b && true) (handed_none (Claim key (packed irq)) claims.found old claims.adds.tables refl claims.adds.handed);
      moves = far_moves old new key irq true claims;
      set =
          record {
            on =
                record {
                  actor = far_actor old new (made ∷ []) before after claims.adds.adds base set.on.actor;
                  stands = stands;
                  cpu = ap (λ vcpu. (shelved_of vcpu).cpu) is ∙ set.on.cpu ∙ sym (ap (λ (local : Local). local.cpu) local);
                  whole = ap (λ (local : Local). list_all (λ at. not at.given) local.at) local;
                  settled = ap is_settled local ∙ set.on.settled;
                };
            lrs = (subst (λ (regs : IchRegs). 1 ≤ regs.n) (sym regs) set.lrs.0, subst (λ (regs : IchRegs). regs.n ≤ 16) (sym regs) set.lrs.1);
            ready = ap (λ (local : Local). is_ready local.phase) local ∙ set.ready;
            free = λ none. subst (λ (regs : IchRegs). IsOpen regs.hcr) (sym regs) en_opens;
          };
      same = (let with_cpu : Shelved → Shelved = λ base. record base { cpu = before.base.cpu } in record { base = ap with_cpu base; lrs = ap (λ (regs : IchRegs). regs.n) regs });
      leads = λ operation debt ends. record {
        proper = λ p has. (far_proper old before operation debt key (packed irq) p has ends can.empty can.known_as, tt);
        after = λ p has.
            let amid = has.able.amid in
            let irq_is = claims.found_is refl in
            subst (HasLooked new after operation (owing_after debt) false) (sym (far_told old new key (packed irq) claims.found claims.adds true p amid.rest claims.done_is))
            (record {
              able =
                  record {
                    amid =
                        record {
                          rest = record { local = refl; own = refl; scan = amid.rest.scan; wants = amid.rest.wants };
                          operation_is = amid.operation_is;
                          lrs_is = amid.lrs_is ∙ sym (ap (λ (regs : IchRegs). regs.n) regs);
                          none_failed = or_false p.failed amid.none_failed;
                          debt_is = ap owing_after amid.debt_is;
                        };
                    regs =
                        ap (λ irq. alone (Some (far_choice key irq)) p.local.cpu p.lrs) irq_is
                        ∙ ap (λ (local : Local). alone (Some one) local.cpu p.lrs) amid.rest.local
                        ∙ ap (alone (Some one) cpu) amid.lrs_is ∙ sym regs;
                    trapping = has.able.trapping ∙ sym (ap (λ (vcpu : Loaded). vcpu.trapping) is);
                  };
              far = refl;
            });
      };
    }
  where
    or_false : (b : Bool) → b ≡ false → (b || false) ≡ false
    or_false true e = absurd (cc)
    or_false false e = refl

-- it did not: the vCPU kicks itself

-- a claim of it failed
record HasMissed (seen : Seen) (vcpu : Loaded) (operation : Operation) (debt : Debt) (p : Progress) : Type 0 where
  rest : IsAtRest seen p
  operation_is : p.operation ≡ Some operation
  lrs_is : p.lrs ≡ vcpu.regs.n
  debt_is : p.debt ≡ owing_after debt
  far : p.far ≡ Some false
  regs : p.regs ≡ alone None seen.local.cpu vcpu.regs.n
  trapping : p.trapping ≡ vcpu.trapping

kick_proper : (shape : GuestShape) (actor : ℕ) (p : Progress) → p.scan ≡ idle → IsProperStep shape actor p (Kick actor)
kick_proper shape actor p e = record { scan = scan_free shape actor p (Kick actor) e; trap = refl; failed = refl; far = refl; refill = refl; want = refl; seen = refl }

kick_told : (mid new : Seen) (found : ℕ) (add : AddsStep mid new (Kick mid.actor) found) (q : Progress) → q.scan ≡ idle → q.local ≡ mid.local → q.own ≡ mid.own
    → stepped (shape_of mid) mid.actor (made_by mid (Kick mid.actor) found add.tables) q ≡ record q { failed = false; local = new.local; own = new.own }
kick_told mid new found add q scan local own =
    let shape = shape_of mid in
    let actor = mid.actor in
    let step = Kick actor in
    let made = made_by mid step found add.tables in
    let make : Bool → Local → List Made → Progress = λ failed local own. record q { failed = failed; local = local; own = own } in
    ap (λ b. scan_on shape actor (make (q.failed && not b) (local_after shape actor q.local step found) (q.own ++ made ∷ []))) (eq-eqb actor actor refl)
    ∙ ap (λ failed. scan_on shape actor (make failed (local_after shape actor q.local step found) (q.own ++ made ∷ []))) (and_false q.failed)
    ∙ idle_on shape actor (make false (local_after shape actor q.local step found) (q.own ++ made ∷ [])) scan
    ∙ ap (λ local. make false (local_after shape actor local step found) (q.own ++ made ∷ [])) local
    ∙ ap (λ own. make false (local_after shape actor mid.local step found) (own ++ made ∷ [])) own
    ∙ ap (λ (seen : Seen). make false seen.local seen.own) (sym add.adds.new_is)
  where
    and_false : (b : Bool) → (b && false) ≡ false
    and_false true = refl
    and_false false = refl

pub far_missed : (old mid new : Seen) (before after : Loaded) (key : Key) (irq : IrqRecord) (vcpu found : ℕ) → IsPort old → CanClaimFar old before key irq → Claims old mid key irq false → vcpu ≡ mid.actor → AddsStep mid new (Kick vcpu) found → after ≡ emptied before → ClaimsFar old new key before after
far_missed old mid new before after key irq vcpu found port can claims vcpu_is kicked is =
    let shape = shape_of old in
    let actor = old.actor in
    let set = can.set in
    let cpu = old.local.cpu in
    let n = before.regs.n in
    let tried = tries old mid key irq false port.good.sound.shape can.there claims in
    let add : AddsStep mid new (Kick mid.actor) found = subst (λ vcpu. AddsStep mid new (Kick vcpu) found) vcpu_is kicked in
    let made = made_by old (Claim key (packed irq)) claims.found claims.adds.tables in
    let kick = made_by mid (Kick mid.actor) found add.tables in
    let adds : Adds old new (made ∷ kick ∷ []) = adds_join old mid new (made ∷ []) (kick ∷ []) claims.adds.adds add.adds in
    let owes : old.local.owes ≡ no_vcpus = (owes_none old.local (settled_owes old.local set.on.settled)).kicks in
    let sent : Local → Local = λ local. record local { owes = without_vcpu local.owes mid.actor } in
    let local : new.local ≡ old.local
    = ap (λ (seen : Seen). seen.local) add.adds.new_is ∙ ap sent tried.local ∙ kick_kept mid.actor old.local owes in
    let base : after.base ≡ before.base = ap (λ (vcpu : Loaded). vcpu.base) is in
    let regs : after.regs ≡ alone None cpu n = ap (λ (vcpu : Loaded). vcpu.regs) is ∙ emptied_alone before cpu set.on.stands.holds in
    let held : after.held ≡ replicate 16 None = ap (λ (vcpu : Loaded). vcpu.held) is in
    let seen_at : List AtIrq → InterfaceState = λ at. record { cpu = cpu; at = map shown at } in
    let interface : interface_of new.local ≡ record { cpu = cpu; at = [] } = ap interface_of local ∙ ap seen_at can.empty in
    let stands : StandFor after.regs after.held (interface_of new.local)
    = subst (StandFor after.regs after.held) (sym interface) (subst (λ held. StandFor after.regs held (record { cpu = cpu; at = [] })) (sym held) (subst (λ regs. StandFor regs (replicate 16 None) (record { cpu = cpu; at = [] })) (sym regs) (empty_stands n cpu))) in
    let mid_is = claims.adds.adds.new_is in
    record {
      part = made ∷ kick ∷ [];
      adds = adds;
      none_taken =
          none_append (made ∷ []) (kick ∷ []) (ap (λ b. b && true) (handed_none (Claim key (packed irq)) claims.found old claims.adds.tables refl claims.adds.handed))
          (ap (λ b. b && true) (handed_none (Kick mid.actor) found mid add.tables refl add.handed));
      moves =
          ap (named_of (Some actor)) (events_then old mid (made ∷ []) (kick ∷ []) claims.adds.adds)
          ∙ both_moves (Some actor) (part_events old (made ∷ [])) (part_events mid (kick ∷ [])) (far_moves old mid key irq false claims) refl;
      set =
          record {
            on =
                record {
                  actor = far_actor old new (made ∷ kick ∷ []) before after adds base set.on.actor;
                  stands = stands;
                  cpu = ap (λ vcpu. (shelved_of vcpu).cpu) is ∙ set.on.cpu ∙ sym (ap (λ (local : Local). local.cpu) local);
                  whole = ap (λ (local : Local). list_all (λ at. not at.given) local.at) local ∙ set.on.whole;
                  settled = ap is_settled local ∙ set.on.settled;
                };
            lrs = (subst (λ (regs : IchRegs). 1 ≤ regs.n) (sym regs) set.lrs.0, subst (λ (regs : IchRegs). regs.n ≤ 16) (sym regs) set.lrs.1);
            ready = ap (λ (local : Local). is_ready local.phase) local ∙ set.ready;
            free = λ none. subst (λ (regs : IchRegs). IsOpen regs.hcr) (sym regs) en_opens;
          };
      same = (let with_cpu : Shelved → Shelved = λ base. record base { cpu = before.base.cpu } in record { base = ap with_cpu base; lrs = ap (λ (regs : IchRegs). regs.n) regs });
      leads = λ operation debt ends.
          let Middle : Progress → Type 0 = λ q. HasMissed mid before operation debt q in
          leads_then old mid (made ∷ []) (kick ∷ []) (HasLooked old before operation debt true) Middle (HasLooked new after operation (owing_after debt) false) claims.adds.adds
          (record {
            proper = λ p has. (far_proper old before operation debt key (packed irq) p has ends can.empty can.known_as, tt);
            after = λ p has.
                let amid = has.able.amid in
                subst Middle (sym (far_told old mid key (packed irq) claims.found claims.adds false p amid.rest claims.done_is))
                (record {
                  rest = record { local = refl; own = refl; scan = amid.rest.scan; wants = amid.rest.wants };
                  operation_is = amid.operation_is;
                  lrs_is = amid.lrs_is;
                  debt_is = ap owing_after amid.debt_is;
                  far = refl;
                  regs = ap (λ (local : Local). alone None local.cpu p.lrs) amid.rest.local ∙ ap (alone None cpu) amid.lrs_is ∙ ap (λ (local : Local). alone None local.cpu n) (sym tried.local);
                  trapping = has.able.trapping;
                });
          })
          (record {
            proper = λ q has. (kick_proper (shape_of mid) mid.actor q (idle_is q.scan has.rest.scan), tt);
            after = λ q has.
                subst (HasLooked new after operation (owing_after debt) false) (sym (kick_told mid new found add q (idle_is q.scan has.rest.scan) has.rest.local has.rest.own))
                (record {
                  able =
                      record {
                        amid =
                            record {
                              rest = record { local = refl; own = refl; scan = has.rest.scan; wants = has.rest.wants };
                              operation_is = has.operation_is;
                              lrs_is = has.lrs_is ∙ sym (ap (λ (regs : IchRegs). regs.n) regs);
                              none_failed = refl;
                              debt_is = has.debt_is;
                            };
                        regs = has.regs ∙ ap (λ (local : Local). alone None local.cpu n) tried.local ∙ sym regs;
                        trapping = has.trapping ∙ sym (ap (λ (vcpu : Loaded). vcpu.trapping) is);
                      };
                  far = has.far;
                });
          });
    }

pub can_kick : (old mid : Seen) (before : Loaded) (key : Key) (irq : IrqRecord) (vcpu : ℕ) → IsPort old → CanClaimFar old before key irq → Claims old mid key irq false → vcpu ≡ mid.actor → CanMake mid (Kick vcpu)
can_kick old mid before key irq vcpu port can claims is =
    let tried = tries old mid key irq false port.good.sound.shape can.there claims in
    let one : is_vcpu (shape_of mid) mid.actor ≡ true = ap (λ seen. is_vcpu (shape_of seen) seen.actor) claims.adds.adds.new_is ∙ can.set.on.actor.is_one in
    record {
      can = subst (λ vcpu. vcpu < (shape_of mid).vcpus) (sym is) (ltb-true mid.actor (shape_of mid).vcpus one);
      seen_is = tt;
      meets = ap owes_no_mark tried.local ∙ (owes_none old.local (settled_owes old.local can.set.on.settled)).marks;
      tables = refl;
    }
