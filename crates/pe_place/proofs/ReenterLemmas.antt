-- A vCPU that leaves its PE and enters it again, in one part.
use Rattle.std.proofs.Common.{◌≡◌, ℕ, ◌&&◌, not, false, if◌then◌else◌, IsTrue, List, [], ◌∷◌, ◌++◌, map, Option, Some, None, append-nil, refl, sym, ap, subst, ◌∙◌}
use Rattle.std.proofs.lemmas.List.Sums.{fold-append}
use Rattle.gic_msi.specs.Calls.{Residence, Beside, IsCall}
use Rattle.pe_op.specs.VcpuState.declared.loaded.Loaded.{Loaded}
use Rattle.pe_op.specs.VcpuState.declared.shelved.Shelved.{Shelved}
use Rattle.gic_msi.specs.Core.{Local, Made, Seen, shape_of, part_events, MakesCall, maps_taken, vcpu_of_actor, begins, makes, ends, part_of, Progress, paid, is_paid, owed_after_part, progressed, progress_of, IsProper, IsProperEnd, is_empty, gives_back, is_settled, wants_nothing}
use Rattle.gic_msi.proofs.PortCore.PortLemmas.{adds_join}
use Rattle.gic_msi.proofs.CoreProper.PartLemmas.{proper_append}
use Rattle.pe_op.specs.PeLoop.Enter.{Enters, MayEnter}
use Rattle.pe_op.specs.PeLoop.Leave.{Leaves}
use Rattle.pe_op.specs.PeLoop.Moves.{are_moves}
use Rattle.pe_op.specs.PeLoop.Stay.{IsUp}
use Rattle.pe_op.specs.PeLoop.Steps.{IsEntryPart}
use Rattle.pe_op.proofs.PeLoop.JoinLemmas.{same_progress, two_on}
use Rattle.pe_op.proofs.PeLoop.MoveLemmas.{moves_join, moves_unnamed, only_leave}
use Rattle.pe_op.specs.PeIcc.Amid.{IsAble, IsRunning, Leads}
use Rattle.pe_op.specs.PeIcc.Operate.{MayReenter}
use Rattle.pe_op.proofs.PeIcc.AmidLemmas.{leads_then}
use Rattle.pe_op.proofs.PeIcc.ReenterLemmas.{enter_leads, piece_leads}
use Rattle.pe_place.specs.declared.place.Place.TheVariants.{Pe}
use Rattle.pe_place.specs.Parts.{residence, acts_in, acts_of, AreResidences}
use Rattle.pe_place.specs.Moves.{Reenters}
use Rattle.pe_place.proofs.KindLemmas.{residences_one}
use Rattle.pe_place.proofs.LookLemmas.{keeps_all, or_right}
use Rattle.pe_place.proofs.MoveLemmas.{moves_once, residence_found}

-- A part of a residence in which a vCPU may enter again, and after which it may access: it is proper, and the vCPU runs on after it.

may_begin : (old : Seen) (vcpu : Loaded) (p : Progress) → IsRunning old vcpu p → MayReenter old Residence vcpu.regs.n paid (progressed (shape_of old) old.actor p (begins Residence vcpu.regs.n))
may_begin old vcpu p run =
    record {
      amid =
          record {
            rest = record { local = run.rest.local; own = run.rest.own; scan = run.rest.scan; wants = run.rest.wants };
            operation_is = refl;
            lrs_is = refl;
            none_failed = run.none_failed;
            debt_is = run.debt;
          };
      near = refl;
    }

able_ends : (new : Seen) (after : Loaded) (q : Progress) → IsUp new after → IsAble new after Residence paid q → IsProperEnd q
able_ends new after q up able =
    let rest = able.amid.rest in
    let local = rest.local in
    record {
      scan = rest.scan;
      refill =
          or_right (is_empty q.local.at) (is_paid q.debt && not (gives_back q.local.phase))
          (ap (λ debt. is_paid debt && not (gives_back q.local.phase)) able.amid.debt_is ∙ ap (λ (local : Local). not (gives_back local.phase)) local ∙ keeps_all new.local.phase up.ready);
      want = ap wants_nothing rest.wants;
      settled = ap is_settled local ∙ up.on.settled;
    }

record RunsAgain (old new : Seen) (before after : Loaded) (part : List Made) (p : Progress) : Type 0 where
  proper : IsProper (shape_of old) old.actor p (part_of Residence before.regs.n part None)
  runs : IsRunning new after (progress_of (shape_of old) old.actor p (part_of Residence before.regs.n part None))

runs_again : (old new : Seen) (before after : Loaded) (part : List Made) → IsUp new after → Leads old part (MayReenter old Residence before.regs.n paid) (IsAble new after Residence paid) → (p : Progress) → IsRunning old before p → RunsAgain old new before after part p
runs_again old new before after part up leads p run =
    let shape = shape_of old in
    let actor = old.actor in
    let start = progressed shape actor p (begins Residence before.regs.n) in
    let may = may_begin old before p run in
    let able = leads.after start may in
    let rest = able.amid.rest in
    let q = progress_of shape actor start (map makes part) in
    record {
      proper = (tt, (proper_append shape actor start (map makes part) (ends None ∷ [])).1 (leads.proper start may, (able_ends new after q up able, tt)));
      runs =
          subst (IsRunning new after) (sym (fold-append (progressed shape actor) start (map makes part) (ends None ∷ [])))
          (record {
            rest = record { local = rest.local; own = rest.own; scan = rest.scan; wants = rest.wants };
            regs = able.regs;
            trapping = able.trapping;
            none_failed = able.amid.none_failed;
            debt = ap owed_after_part able.amid.debt_is;
          });
    }

-- It is the call, with no event to be seen.

again_call : (old mid new : Seen) (vcpu loaded : Loaded) (shelved : Shelved) → IsUp old vcpu → (leaves : Leaves old mid vcpu shelved) → (enters : Enters mid new shelved vcpu.regs.n loaded) → MakesCall old (leaves.part ++ enters.part) Residence None
again_call old mid new vcpu loaded shelved up leaves enters =
    let part = leaves.part ++ enters.part in
    let shape = shape_of old in
    let none : Option ℕ = None in
    let beside : Beside = record { maps = maps_taken part; targets = λ id. None; commands = []; signals = false } in
    let moves : IsTrue (are_moves old.actor (part_events old part))
    = moves_join old mid leaves.part enters.part leaves.adds (ap (are_moves old.actor) leaves.events ∙ only_leave old.actor _) enters.moves in
    let one : vcpu_of_actor shape old.actor ≡ Some old.actor = ap (λ b. if b then Some old.actor else None) up.on.actor.is_one in
    record {
      beside = beside;
      maps = refl;
      signals = refl;
      call = subst (λ actor. IsCall shape beside actor Residence (part_events old part) none) (sym one) (moves_unnamed old.actor (part_events old part) moves, refl);
    }

-- Since the look for a kick in the entry it began no scan of trap mode.

again_untrapped : (old mid new : Seen) (vcpu loaded : Loaded) (shelved : Shelved) (leaves : Leaves old mid vcpu shelved) (enters : Enters mid new shelved vcpu.regs.n loaded) (p : Progress) → IsRunning old vcpu p
    → (progress_of (shape_of old) old.actor p (acts_in (residence vcpu.regs.n (leaves.part ++ enters.part) ∷ []))).scanned ≡ false
again_untrapped old mid new vcpu loaded shelved leaves enters p run =
    let shape = shape_of old in
    let actor = old.actor in
    let lrs = vcpu.regs.n in
    let part = leaves.part ++ enters.part in
    let start = progressed shape actor p (begins Residence lrs) in
    let middle = progress_of shape actor start (map makes leaves.part) in
    let may = (piece_leads old mid leaves.part Residence lrs paid leaves.adds leaves.piece).after start (may_begin old vcpu p run) in
    let enter : MayEnter mid lrs middle
    = record { idle = record { local = may.amid.rest.local; own = may.amid.rest.own; scan = may.amid.rest.scan }; near = may.near; lrs_is = may.amid.lrs_is; none_failed = may.amid.none_failed } in
    ap (λ acts. (progress_of shape actor p acts).scanned) (append-nil (acts_of (residence lrs part)))
    ∙ ap (λ (p : Progress). p.scanned) (fold-append (progressed shape actor) start (map makes part) (ends None ∷ []))
    ∙ ap (λ (p : Progress). p.scanned) (two_on shape actor start leaves.part enters.part ∙ same_progress old mid leaves.part enters.part middle leaves.adds)
    ∙ ap (λ (p : Progress). p.scanned) (enters.goes_on middle enter).is

-- Both, one after the other.

pub reenters : (old mid new : Seen) (vcpu loaded : Loaded) (shelved : Shelved) → IsUp old vcpu → Leaves old mid vcpu shelved → Enters mid new shelved vcpu.regs.n loaded → Reenters old new vcpu loaded
unfolding moves_once
reenters old mid new vcpu loaded shelved up leaves enters =
    let lrs = vcpu.regs.n in
    let part = leaves.part ++ enters.part in
    let leads : Leads old part (MayReenter old Residence lrs paid) (IsAble new loaded Residence paid)
    = leads_then old mid leaves.part enters.part (MayReenter old Residence lrs paid) (MayReenter mid Residence lrs paid) (IsAble new loaded Residence paid) leaves.adds (piece_leads old mid leaves.part Residence lrs paid leaves.adds leaves.piece)
    (enter_leads mid new shelved lrs loaded enters Residence paid) in
    record {
      moves =
          moves_once AreResidences old new (Pe vcpu) (Pe loaded) (residence lrs part) (residences_one old.actor lrs part) (λ n one two. one) (adds_join old mid new leaves.part enters.part leaves.adds enters.adds)
          (residence_found old lrs part (again_call old mid new vcpu loaded shelved up leaves enters)) (λ p run. (runs_again old new vcpu loaded part enters.up leads p run).proper) (λ p run. (runs_again old new vcpu loaded part enters.up leads p run).runs) enters.up;
      exit = leaves.part;
      entry = enters.part;
      entry_is = subst (λ (actor : ℕ). IsEntryPart actor enters.part) (ap (λ (seen : Seen). seen.actor) leaves.adds.new_is) enters.steps;
      alone = refl;
      untrapped = again_untrapped old mid new vcpu loaded shelved leaves enters;
    }
