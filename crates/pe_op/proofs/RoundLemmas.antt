-- A memory-mapped access between an exit and an entry.
use Rattle.std.proofs.Common.{◌≡◌, ℕ, true, if◌then◌else◌, IsTrue, List, ◌++◌, Option, Some, None, is_some, is_none, refl, sym, ap, subst, ◌∙◌}
use Rattle.pe_icc.specs.Words.{Frame, Mem}
use Rattle.pe_icc.specs.Calls.{Happened, Beside, IsCall}
use Rattle.pe_icc.specs.VcpuState.declared.loaded.Loaded.{Loaded}
use Rattle.pe_icc.specs.VcpuState.declared.shelved.Shelved.{Shelved}
use Rattle.pe_icc.specs.VcpuState.Holding.{held_keys}
use Rattle.pe_icc.specs.VcpuState.Moves.{shelved_of}
use Rattle.pe_icc.specs.Core.{Made, is_vcpu, Seen, Adds, shape_of, part_events, MakesCall, maps_taken, vcpu_of_actor, begins, Progress, paid, before_next, progressed}
use Rattle.pe_icc.proofs.PortCore.PortLemmas.{adds_join}
use Rattle.pe_icc.proofs.PortCall.TurnLemmas.{events_then}
use Rattle.pe_icc.specs.PeLoop.Enter.{Enters}
use Rattle.pe_icc.specs.PeLoop.Leave.{Leaves}
use Rattle.pe_icc.specs.PeLoop.Moves.{are_moves}
use Rattle.pe_icc.specs.PeLoop.Stay.{IsUp}
use Rattle.pe_icc.proofs.PeLoop.MoveLemmas.{only_leave}
use Rattle.pe_icc.specs.Amid.{IsRunning, IsAble, IsSame, Leads}
use Rattle.pe_icc.specs.Operate.{MayReenter}
use Rattle.pe_icc.proofs.AmidLemmas.{leads_then}
use Rattle.pe_icc.proofs.IccLemmas.{part_proper, part_runs}
use Rattle.pe_icc.proofs.ReenterLemmas.{enter_leads, good_leads, idle_again, piece_leads}
use Rattle.pe_its.specs.PeMem.Call.{IsPieceOf, MakesAccess, access_of}
use Rattle.pe_its.specs.PeMem.Found.{IsCallAsFound, takes_its_by}
use Rattle.pe_op.specs.Operation.{DoesOperation, LeavesFirst}
use Rattle.pe_op.proofs.AboutLemmas.{access_answers, access_between, maps_between}
use Rattle.pe_op.proofs.FoundLemmas.{finding_between}

-- The round.

-- an exit, some steps, and an entry on as many list registers
record Round (old new : Seen) (before after : Loaded) (access : List Made) : Type 0 where
  mid : Seen
  mid2 : Seen
  shelved : Shelved
  shelved_is : shelved ≡ shelved_of before
  leaves : Leaves old mid before shelved
  adds : Adds mid mid2 access
  enters : Enters mid2 new shelved before.regs.n after

abbrev round_part : (old new : Seen) (before after : Loaded) (access : List Made) → Round old new before after access → List Made
round_part old new before after access round = round.leaves.part ++ (access ++ round.enters.part)

round_adds : (old new : Seen) (before after : Loaded) (access : List Made) (round : Round old new before after access) → Adds old new (round_part old new before after access round)
round_adds old new before after access round =
    adds_join old round.mid new round.leaves.part (access ++ round.enters.part) round.leaves.adds (adds_join round.mid round.mid2 new access round.enters.part round.adds round.enters.adds)

round_same : (old new : Seen) (before after : Loaded) (access : List Made) → Round old new before after access → IsSame before after
round_same old new before after access round =
    let with_cpu : Shelved → Shelved = λ base. record base { cpu = before.base.cpu } in
    record { base = ap with_cpu round.enters.kept ∙ ap with_cpu round.shelved_is; lrs = round.enters.lrs_is }

left_first : (old new : Seen) (before after : Loaded) (access : List Made) (round : Round old new before after access) → LeavesFirst old before (round_part old new before after access round)
left_first old new before after access round =
    let leaves = round.leaves in
    record { first = leaves.part; rest = access ++ round.enters.part; split = refl; events = leaves.events; empty = ap (λ (seen : Seen). seen.local.at) (sym leaves.adds.new_is) ∙ leaves.off.empty }

-- the protocol, where a call of it begins between two accesses
begins_so : (old : Seen) (before : Loaded) (frame : Frame) (offset size : ℕ) (write : Option ℕ) (p : Progress) → IsRunning old before p
    → MayReenter old (access_of frame offset size write) before.regs.n before_next (progressed (shape_of old) old.actor p (begins (access_of frame offset size write) before.regs.n))
begins_so old before frame offset size write p run =
    record {
      amid =
          record {
            rest = record { local = run.rest.local; own = run.rest.own; scan = run.rest.scan; wants = run.rest.wants };
            operation_is = refl;
            lrs_is = refl;
            none_failed = run.none_failed;
            debt_is = refl;
          };
      near = refl;
    }

round_leads : (old new : Seen) (before after : Loaded) (access : List Made) (frame : Frame) (offset size : ℕ) (write : Option ℕ) (round : Round old new before after access) → IsPieceOf round.mid (access_of frame offset size write) access
    → Leads old (round_part old new before after access round) (MayReenter old (access_of frame offset size write) before.regs.n before_next) (IsAble new after (access_of frame offset size write) paid)
round_leads old new before after access frame offset size write round piece =
    let operation = access_of frame offset size write in
    let mid = round.mid in
    let mid2 = round.mid2 in
    let lrs = before.regs.n in
    let May : Seen → Progress → Type 0 = λ seen. MayReenter seen operation lrs before_next in
    let Able : Progress → Type 0 = IsAble new after operation paid in
    leads_then old mid round.leaves.part (access ++ round.enters.part) (May old) (May mid) Able round.leaves.adds (piece_leads old mid round.leaves.part operation lrs before_next round.leaves.adds round.leaves.piece)
    (leads_then mid mid2 access round.enters.part (May mid) (May mid2) Able round.adds
    (good_leads mid mid2 access operation lrs before_next round.adds (λ p may. piece p (idle_again mid operation lrs before_next p may) may.amid.operation_is may.amid.rest.wants))
    (enter_leads mid2 new round.shelved lrs after round.enters operation before_next))

-- What it is.

-- the events of the access are those of its call, with the moves about them
call_between :
    (old new : Seen) (before after : Loaded) (access : List Made) (frame : Frame) (offset size : ℕ) (write answer : Option ℕ) (round : Round old new before after access) (beside : Beside) → is_vcpu (shape_of old) old.actor ≡ true
    → IsCall (shape_of round.mid) beside (vcpu_of_actor (shape_of round.mid) round.mid.actor) (access_of frame offset size write) (part_events round.mid access) answer
    → IsCall (shape_of old) beside (vcpu_of_actor (shape_of old) old.actor) (access_of frame offset size write) (part_events old (round_part old new before after access round)) answer
call_between old new before after access frame offset size write answer round beside is_one call =
    let operation = access_of frame offset size write in
    let shape = shape_of old in
    let actor = old.actor in
    let mid = round.mid in
    let mid2 = round.mid2 in
    let leaves = round.leaves in
    let enters = round.enters in
    let first = part_events old leaves.part in
    let own = part_events mid access in
    let last = part_events mid2 enters.part in
    let vcpu : vcpu_of_actor shape actor ≡ Some actor = ap (λ b. if b then Some actor else None) is_one in
    let Of : Option ℕ → List Happened → Type 0 = λ vcpu events. IsCall shape beside vcpu operation events answer in
    let By : Seen → Type 0 = λ seen. IsCall (shape_of seen) beside (vcpu_of_actor (shape_of seen) seen.actor) operation own answer in
    let by_old : Of (Some actor) own = subst (λ vcpu. Of vcpu own) vcpu (subst By leaves.adds.new_is call) in
    let actor_is : mid2.actor ≡ actor = ap (λ (seen : Seen). seen.actor) round.adds.new_is ∙ ap (λ (seen : Seen). seen.actor) leaves.adds.new_is in
    let moves_first : IsTrue (are_moves actor first) = ap (are_moves actor) leaves.events ∙ only_leave actor (held_keys before) in
    let moves_last : IsTrue (are_moves actor last) = ap (λ actor. are_moves actor last) (sym actor_is) ∙ enters.moves in
    let events : part_events old (leaves.part ++ (access ++ enters.part)) ≡ first ++ (own ++ last)
    = events_then old mid leaves.part (access ++ enters.part) leaves.adds ∙ ap (λ events. first ++ events) (events_then mid mid2 access enters.part round.adds) in
    subst (λ vcpu. Of vcpu (part_events old (leaves.part ++ (access ++ enters.part)))) (sym vcpu)
    (subst (Of (Some actor)) (sym events) (access_between shape beside actor frame offset size write answer first own last moves_first moves_last by_old))

round_maps : (old new : Seen) (before after : Loaded) (access : List Made) (round : Round old new before after access) → maps_taken (round_part old new before after access round) ≡ maps_taken access
round_maps old new before after access round = maps_between round.leaves.part access round.enters.part round.leaves.none_taken round.enters.none_taken

round_call : (old new : Seen) (before after : Loaded) (access : List Made) (frame : Frame) (offset size : ℕ) (write answer : Option ℕ) (round : Round old new before after access) → is_vcpu (shape_of old) old.actor ≡ true
    → MakesCall round.mid access (access_of frame offset size write) answer → MakesCall old (round_part old new before after access round) (access_of frame offset size write) answer
round_call old new before after access frame offset size write answer round is_one made =
    record {
      beside = made.beside;
      maps = made.maps ∙ sym (round_maps old new before after access round);
      signals = made.signals;
      call = call_between old new before after access frame offset size write answer round made.beside is_one made.call;
    }

round_found : (old new : Seen) (before after : Loaded) (access : List Made) (frame : Frame) (offset size : ℕ) (write answer : Option ℕ) (round : Round old new before after access) → is_vcpu (shape_of old) old.actor ≡ true
    → IsCallAsFound round.mid access (access_of frame offset size write) answer → IsCallAsFound old (round_part old new before after access round) (access_of frame offset size write) answer
round_found old new before after access frame offset size write answer round is_one made =
    let leaves = round.leaves in
    let enters = round.enters in
    let shape : shape_of round.mid ≡ shape_of old = ap shape_of leaves.adds.new_is in
    let actor : round.mid2.actor ≡ old.actor = ap (λ (seen : Seen). seen.actor) round.adds.new_is ∙ ap (λ (seen : Seen). seen.actor) leaves.adds.new_is in
    record {
      finding = made.finding;
      kind = made.kind ∙ ap (λ shape. takes_its_by shape (access_of frame offset size write)) shape;
      is_finding =
          finding_between old round.mid round.mid2 leaves.part access enters.part made.finding leaves.adds (ap (are_moves old.actor) leaves.events ∙ only_leave old.actor (held_keys before)) round.adds
          (ap (λ actor. are_moves actor (part_events round.mid2 enters.part)) (sym actor) ∙ enters.moves) made.is_finding;
      call = λ beside maps agrees. call_between old new before after access frame offset size write answer round beside is_one (made.call beside (maps ∙ round_maps old new before after access round) agrees);
    }

round_answers : (seen : Seen) (access : List Made) (frame : Frame) (offset size : ℕ) (write answer : Option ℕ) → is_vcpu (shape_of seen) seen.actor ≡ true → MakesCall seen access (access_of frame offset size write) answer → is_some answer ≡ is_none write
round_answers seen access frame offset size write answer is_one made =
    let vcpu : vcpu_of_actor (shape_of seen) seen.actor ≡ Some seen.actor = ap (λ b. if b then Some seen.actor else None) is_one in
    let Of : Option ℕ → Type 0 = λ vcpu. IsCall (shape_of seen) made.beside vcpu (access_of frame offset size write) (part_events seen access) answer in
    access_answers (shape_of seen) made.beside seen.actor frame offset size write answer (part_events seen access) (subst Of vcpu made.call)

pub round_done :
    (old mid mid2 new : Seen) (before after : Loaded) (shelved : Shelved) (frame : Frame) (offset size : ℕ) (write answer : Option ℕ) → IsUp old before → shelved ≡ shelved_of before → Leaves old mid before shelved → MakesAccess mid mid2 frame offset size write answer
    → Enters mid2 new shelved before.regs.n after → DoesOperation old new (Mem frame offset size write) before after answer
round_done old mid mid2 new before after shelved frame offset size write answer up is leaves makes enters =
    let operation = access_of frame offset size write in
    let access = makes.part in
    let round : Round old new before after access = record { mid = mid; mid2 = mid2; shelved = shelved; shelved_is = is; leaves = leaves; adds = makes.adds; enters = enters } in
    let leads = round_leads old new before after access frame offset size write round makes.piece in
    let part = round_part old new before after access round in
    let lrs = before.regs.n in
    let May : Progress → Type 0 = MayReenter old operation lrs before_next in
    record {
      part = part;
      adds = round_adds old new before after access round;
      call = round_call old new before after access frame offset size write answer round up.on.actor.is_one makes.call;
      found = round_found old new before after access frame offset size write answer round up.on.actor.is_one makes.found;
      proper = λ p run. part_proper old new after operation lrs answer part May p enters.up leads (begins_so old before frame offset size write p run);
      goes_on = λ p run. part_runs old new after operation lrs answer part May p leads (begins_so old before frame offset size write p run);
      answers = round_answers mid access frame offset size write answer leaves.off.actor.is_one makes.call;
      made = left_first old new before after access round;
      up = enters.up;
      same = round_same old new before after access round;
    }
