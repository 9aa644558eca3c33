-- A look of a vCPU at its own word is a part of its own.
use Rattle.std.proofs.Common.{◌≡◌, ℕ, ◌||◌, ◌&&◌, not, Bool, true, false, if◌then◌else◌, IsTrue, List, [], ◌∷◌, ◌++◌, map, Option, Some, None, refl, sym, ap, subst, ◌∙◌}
use Rattle.std.specs.Option.{option_to_list}
use Rattle.std.proofs.lemmas.List.Sums.{fold-append}
use Rattle.pe_op.specs.VcpuState.declared.loaded.Loaded.{Loaded}
use Rattle.gic_msi.specs.Calls.{Residence, Beside, IsCall, named_of}
use Rattle.gic_msi.specs.Core.{Local, Phase, Off, Scanning, Claiming, Loaded as LoadedPhase, Folding, Made, Look, Vcpu, local_after, is_ready, Seen, Adds, shape_of, part_events, stands_for, MakesCall, maps_taken, vcpu_of_actor, begins, makes, ends, part_of, Progress, paid, is_paid, owed_after_part, progressed, progress_of, IsProper, IsProperEnd, is_empty, gives_back, is_settled, wants_nothing}
use Rattle.gic_msi.proofs.CoreProper.PartLemmas.{proper_append}
use Rattle.gic_msi.proofs.CoreProper.RestLemmas.{rests_again}
use Rattle.gic_msi.specs.PortCall.Piece.{IsPiece, is_plain, goes_by_known}
use Rattle.gic_msi.proofs.PortCall.PieceLemmas.{piece_one}
use Rattle.pe_op.specs.PeLoop.Stay.{IsUp}
use Rattle.pe_op.specs.PeIcc.Amid.{IsRunning}
use Rattle.pe_op.proofs.PeIcc.ReenterLemmas.{none_still}
use Rattle.pe_place.specs.declared.place.Place.TheVariants.{Pe}
use Rattle.pe_place.specs.Parts.{residence, AreResidences}
use Rattle.pe_place.specs.Moves.{LooksForKick, LooksOnce}
use Rattle.pe_place.proofs.FrameLemmas.{IsSame, up_same}
use Rattle.pe_place.proofs.KindLemmas.{residences_one}
use Rattle.pe_place.proofs.MoveLemmas.{moves_once, residence_found}

pub or_right : (a b : Bool) → IsTrue b → IsTrue (a || b)
or_right true b h = refl
or_right false b h = h

pub keeps_all : (phase : Phase) → IsTrue (is_ready phase) → IsTrue (not (gives_back phase))
keeps_all Off h = absurd (cc)
keeps_all Scanning h = absurd (cc)
keeps_all Claiming h = refl
keeps_all LoadedPhase h = refl
keeps_all Folding h = absurd (cc)

-- what the actor has for itself stays, and no event of it is named

same_local : (old : Seen) (made : Made) → made.step ≡ Look (Vcpu old.actor) → local_after (shape_of old) old.actor old.local made.step made.found ≡ old.local
same_local old made is = ap (λ step. local_after (shape_of old) old.actor old.local step made.found) is

unnamed : (old : Seen) (made : Made) → made.step ≡ Look (Vcpu old.actor) → named_of (Some old.actor) (part_events old (made ∷ [])) ≡ []
unnamed old made is = ap (λ step. named_of (Some old.actor) (option_to_list (stands_for (shape_of old) old.actor old.local old.own step made.found) ++ [])) is

look_call : (old : Seen) (vcpu : Loaded) (made : Made) → made.step ≡ Look (Vcpu old.actor) → IsUp old vcpu → MakesCall old (made ∷ []) Residence None
look_call old vcpu made is up =
    let shape = shape_of old in
    let none : Option ℕ = None in
    let beside : Beside = record { maps = maps_taken (made ∷ []); targets = λ id. None; commands = []; signals = false } in
    let one : vcpu_of_actor shape old.actor ≡ Some old.actor = ap (λ b. if b then Some old.actor else None) up.on.actor.is_one in
    record {
      beside = beside;
      maps = refl;
      signals = refl;
      call = subst (λ actor. IsCall shape beside actor Residence (part_events old (made ∷ [])) none) (sym one) (unnamed old made is, refl);
    }

-- it is proper, and the vCPU runs on after it
record RunsOn (old new : Seen) (vcpu : Loaded) (part : List Made) (p : Progress) : Type 0 where
  proper : IsProper (shape_of old) old.actor p (part_of Residence vcpu.regs.n part None)
  runs : IsRunning new vcpu (progress_of (shape_of old) old.actor p (part_of Residence vcpu.regs.n part None))

look_runs : (old new : Seen) (vcpu : Loaded) (made : Made) → made.step ≡ Look (Vcpu old.actor) → Adds old new (made ∷ []) → IsUp old vcpu → (p : Progress) → IsRunning old vcpu p → RunsOn old new vcpu (made ∷ []) p
look_runs old new vcpu made is adds up p run =
    let shape = shape_of old in
    let actor = old.actor in
    let part = made ∷ [] in
    let begun = progressed shape actor p (begins Residence vcpu.regs.n) in
    let piece : IsPiece old part = piece_one old made (subst (λ step. IsTrue (is_plain step)) (sym is) refl) (subst (λ step. IsTrue (goes_by_known old step)) (sym is) refl) in
    let good = piece begun (record { local = run.rest.local; own = run.rest.own; scan = run.rest.scan }) in
    let q = progress_of shape actor begun (map makes part) in
    let same = good.stays.same in
    let debt : q.debt ≡ paid = ap (λ (p : Progress). p.debt) same ∙ run.debt in
    let local : q.local ≡ old.local = good.ends.local ∙ same_local old made is in
    let kept : IsTrue (not (gives_back q.local.phase)) = ap (λ (local : Local). not (gives_back local.phase)) local ∙ keeps_all old.local.phase up.ready in
    let end : IsProperEnd q
    = record {
      scan = good.ends.scan;
      refill = or_right (is_empty q.local.at) (is_paid q.debt && not (gives_back q.local.phase)) (ap (λ debt. is_paid debt && not (gives_back q.local.phase)) debt ∙ kept);
      want = ap wants_nothing (ap (λ (p : Progress). p.wants) same ∙ run.rest.wants);
      settled = ap is_settled local ∙ up.on.settled;
    } in
    let proper : IsProper shape actor p (part_of Residence vcpu.regs.n part None) = (tt, (proper_append shape actor begun (map makes part) (ends None ∷ [])).1 (good.proper, (end, tt))) in
    let whole = fold-append (progressed shape actor) begun (map makes part) (ends None ∷ []) in
    record {
      proper = proper;
      runs =
          record {
            rest = rests_again old new p part Residence vcpu.regs.n None run.rest proper adds;
            regs = ap (λ (p : Progress). p.regs) whole ∙ ap (λ (p : Progress). p.regs) same ∙ run.regs;
            trapping = ap (λ (p : Progress). p.trapping) whole ∙ ap (λ (p : Progress). p.trapping) same ∙ run.trapping;
            none_failed = ap (λ (p : Progress). p.failed) whole ∙ none_still p.failed q.failed good.stays.failed run.none_failed;
            debt = ap (λ (p : Progress). p.debt) whole ∙ ap owed_after_part debt;
          };
    }

pub looks_once : (old new : Seen) (vcpu : Loaded) (kicked : Bool) → IsUp old vcpu → LooksForKick old new kicked → LooksOnce old new vcpu kicked
unfolding moves_once
looks_once old new vcpu kicked up looks =
    let made = looks.look in
    let is = looks.step_is in
    let after = looks.adds.new_is in
    let same : IsSame old new
    = record { number = ap (λ (seen : Seen). seen.number) after; guest = ap (λ (seen : Seen). seen.guest) after; actor = ap (λ (seen : Seen). seen.actor) after; local = ap (λ (seen : Seen). seen.local) after ∙ same_local old made is } in
    record {
      looks = looks;
      moves =
          moves_once AreResidences old new (Pe vcpu) (Pe vcpu) (residence vcpu.regs.n (made ∷ [])) (residences_one old.actor vcpu.regs.n (made ∷ [])) (λ n one two. one) looks.adds (residence_found old vcpu.regs.n (made ∷ []) (look_call old vcpu made is up)) (λ p run. (look_runs old new vcpu made is looks.adds up p run).proper)
          (λ p run. (look_runs old new vcpu made is looks.adds up p run).runs) (up_same old new vcpu same up);
      alone = refl;
    }
