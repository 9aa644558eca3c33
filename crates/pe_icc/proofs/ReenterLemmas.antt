-- A vCPU leaves and enters again.
use Rattle.std.proofs.Common.{◌≡◌, ℕ, ◌||◌, not, Bool, true, false, if◌then◌else◌, IsTrue, List, [], ◌++◌, map, unwrap_or, refl, sym, ap, subst, ◌∙◌}
use Rattle.pe_loop.specs.Calls.{Operation}
use Rattle.pe_loop.specs.VcpuState.declared.loaded.Loaded.{Loaded}
use Rattle.pe_loop.specs.VcpuState.declared.shelved.Shelved.{Shelved}
use Rattle.pe_loop.specs.Core.{Made, Seen, Adds, shape_of, part_events, seen_after, makes, Progress, Debt, paid, before_next, is_paid, is_to_scan, owed_after_scan, progress_of}
use Rattle.pe_loop.proofs.PortCore.PortLemmas.{adds_join}
use Rattle.pe_loop.specs.PortCall.Piece.{IsIdle, IsGoodPiece, IsPiece, StaysSo}
use Rattle.pe_loop.proofs.PortCall.PieceLemmas.{seen_nil}
use Rattle.pe_loop.proofs.PortCall.TryLemmas.{none_append}
use Rattle.pe_loop.specs.Again.{LeavesThenEnters}
use Rattle.pe_loop.specs.Enter.{MayEnter, Enters}
use Rattle.pe_loop.proofs.MoveLemmas.{moves_join, moves_unnamed, only_leave}
use Rattle.pe_loop.specs.Moves.{are_moves}
use Rattle.pe_icc.specs.Amid.{IsAmid, IsAble, IsSet, Leads, debt_of}
use Rattle.pe_icc.specs.Operate.{MayReenter, HasAsked, debt_left}
use Rattle.pe_icc.specs.Reenter.{Reenters, Refills}
use Rattle.pe_icc.proofs.AmidLemmas.{leads_from, leads_nil, leads_then}

-- A piece of a part leaves the protocol as far.

pub none_still : (before after : Bool) → (IsTrue after → IsTrue before) → before ≡ false → after ≡ false
none_still before true to none = absurd (both before (to refl) none)
  where
    both : (b : Bool) → IsTrue b → b ≡ false → ⊥
    both b t f = cc
none_still before false to none = refl

-- the protocol as a piece leaves it
pub amid_after : (old mid : Seen) (part : List Made) (operation : Operation) (lrs : ℕ) (debt : Debt) (p q : Progress) → Adds old mid part → StaysSo p q → IsIdle (seen_after old part) q → IsAmid old operation lrs debt p → IsAmid mid operation lrs debt q
amid_after old mid part operation lrs debt p q add stays ends amid =
    let same = stays.same in
    record {
      rest =
          record {
            local = ends.local ∙ sym (ap (λ (seen : Seen). seen.local) add.new_is);
            own = ends.own ∙ sym (ap (λ (seen : Seen). seen.own) add.new_is);
            scan = ends.scan;
            wants = ap (λ (p : Progress). p.wants) same ∙ amid.rest.wants;
          };
      operation_is = ap (λ (p : Progress). p.operation) same ∙ amid.operation_is;
      lrs_is = ap (λ (p : Progress). p.lrs) same ∙ amid.lrs_is;
      none_failed = none_still p.failed q.failed stays.failed amid.none_failed;
      debt_is = ap (λ (p : Progress). p.debt) same ∙ amid.debt_is;
    }

pub good_leads : (old mid : Seen) (part : List Made) (operation : Operation) (lrs : ℕ) (debt : Debt) → Adds old mid part → ((p : Progress) → MayReenter old operation lrs debt p → IsGoodPiece old p part) → Leads old part (MayReenter old operation lrs debt) (MayReenter mid operation lrs debt)
good_leads old mid part operation lrs debt add piece =
    record {
      proper = λ p may. (piece p may).proper;
      after = λ p may.
          let good = piece p may in
          record {
            amid = amid_after old mid part operation lrs debt p (progress_of (shape_of old) old.actor p (map makes part)) add good.stays good.ends may.amid;
            near = ap (λ (p : Progress). unwrap_or p.far false) good.stays.same ∙ may.near;
          };
    }

-- an actor that may enter again has no scan in progress
pub idle_again : (seen : Seen) (operation : Operation) (lrs : ℕ) (debt : Debt) (p : Progress) → MayReenter seen operation lrs debt p → IsIdle seen p
idle_again seen operation lrs debt p may = record { local = may.amid.rest.local; own = may.amid.rest.own; scan = may.amid.rest.scan }

pub piece_leads : (old mid : Seen) (part : List Made) (operation : Operation) (lrs : ℕ) (debt : Debt) → Adds old mid part → IsPiece old part → Leads old part (MayReenter old operation lrs debt) (MayReenter mid operation lrs debt)
piece_leads old mid part operation lrs debt add piece = good_leads old mid part operation lrs debt add (λ p may. piece p (idle_again old operation lrs debt p may))

-- An entry leads to where the vCPU may access.

pub enter_leads : (mid new : Seen) (shelved : Shelved) (lrs : ℕ) (loaded : Loaded) (enters : Enters mid new shelved lrs loaded) (operation : Operation) (debt : Debt) → Leads mid enters.part (MayReenter mid operation lrs debt) (IsAble new loaded operation (owed_after_scan debt))
enter_leads mid new shelved lrs loaded enters operation debt =
    let may_enter : (p : Progress) → MayReenter mid operation lrs debt p → MayEnter mid lrs p
    = λ p may. record { idle = idle_again mid operation lrs debt p may; near = may.near; lrs_is = may.amid.lrs_is; none_failed = may.amid.none_failed } in
    record {
      proper = λ p may. enters.proper p (may_enter p may);
      after = λ p may.
          let on = enters.goes_on p (may_enter p may) in
          subst (IsAble new loaded operation (owed_after_scan debt)) (sym on.is)
          (record {
            amid =
                record {
                  rest = record { local = refl; own = refl; scan = refl; wants = may.amid.rest.wants };
                  operation_is = may.amid.operation_is;
                  lrs_is = may.amid.lrs_is ∙ sym enters.lrs_is;
                  none_failed = refl;
                  debt_is = ap owed_after_scan may.amid.debt_is;
                };
            regs = refl;
            trapping = refl;
          });
    }

pub reenters_so : (old new : Seen) (before after : Loaded) → LeavesThenEnters old new before after → Reenters old new before after
reenters_so old new before after round =
    let mid = round.mid in
    let leaves = round.leaves in
    let enters = round.enters in
    let part = leaves.part ++ enters.part in
    let with_cpu : Shelved → Shelved = λ base. record base { cpu = before.base.cpu } in
    record {
      part = part;
      adds = adds_join old mid new leaves.part enters.part leaves.adds enters.adds;
      none_taken = none_append leaves.part enters.part leaves.none_taken enters.none_taken;
      moves = moves_unnamed old.actor (part_events old part) (moves_join old mid leaves.part enters.part leaves.adds (ap (are_moves old.actor) leaves.events ∙ only_leave old.actor _) enters.moves);
      up = enters.up;
      same = record { base = ap with_cpu enters.kept ∙ ap with_cpu round.shelved_is; lrs = enters.lrs_is };
      leads = λ operation debt.
          leads_then old mid leaves.part enters.part (MayReenter old operation before.regs.n debt) (MayReenter mid operation before.regs.n debt) (IsAble new after operation (owed_after_scan debt)) leaves.adds
          (piece_leads old mid leaves.part operation before.regs.n debt leaves.adds leaves.piece)
          (enter_leads mid new round.shelved before.regs.n after enters operation debt);
    }

-- After an access.

owes_so : (owing : Bool) → not (is_paid (debt_of owing)) ≡ owing
owes_so true = refl
owes_so false = refl

pub refills_again : (old new : Seen) (before after : Loaded) (owing : Bool) → is_to_scan before.regs before.trapping (debt_of owing) ≡ true → Reenters old new before after → Refills old new before after owing
refills_again old new before after owing scan again =
    record {
      part = again.part;
      adds = again.adds;
      none_taken = again.none_taken;
      moves = again.moves;
      up = again.up;
      same = again.same;
      light = λ none. absurd (both (is_to_scan before.regs before.trapping (debt_of owing)) scan none);
      leads = λ operation.
          leads_from old again.part (HasAsked old before operation (debt_left before.regs before.trapping (debt_of owing))) (MayReenter old operation before.regs.n before_next) (IsAble new after operation paid)
          (λ p has. let amid = has.able.amid in
          record {
            amid =
                record {
                  rest = amid.rest;
                  operation_is = amid.operation_is;
                  lrs_is = amid.lrs_is;
                  none_failed = amid.none_failed;
                  debt_is = amid.debt_is ∙ ap (λ b. if b then before_next else paid) scan;
                };
            near = has.near;
          })
          (again.leads operation before_next);
    }
  where
    both : (b : Bool) → b ≡ true → b ≡ false → ⊥
    both b t f = cc

pub refills_not : (seen : Seen) (vcpu : Loaded) (owing : Bool) → is_to_scan vcpu.regs vcpu.trapping (debt_of owing) ≡ false → IsSet seen vcpu → Refills seen seen vcpu vcpu owing
refills_not seen vcpu owing scan set =
    record {
      part = [];
      adds = record { new_is = sym (seen_nil seen) };
      none_taken = refl;
      moves = refl;
      up =
          record {
            on = set.on;
            lrs = set.lrs;
            ready = set.ready;
            free = set.free;
            bare = λ trapping. absurd (trapped vcpu.trapping _ _ trapping scan);
          };
      same = record { base = refl; lrs = refl };
      light = λ none. (refl, refl);
      leads = λ operation.
          leads_from seen [] (HasAsked seen vcpu operation (debt_left vcpu.regs vcpu.trapping (debt_of owing))) (IsAble seen vcpu operation paid) (IsAble seen vcpu operation paid)
          (λ p has. let amid = has.able.amid in
          record {
            amid =
                record {
                  rest = amid.rest;
                  operation_is = amid.operation_is;
                  lrs_is = amid.lrs_is;
                  none_failed = amid.none_failed;
                  debt_is = amid.debt_is ∙ ap (λ b. if b then before_next else paid) scan;
                };
            regs = has.able.regs;
            trapping = has.able.trapping;
          })
          (leads_nil seen (IsAble seen vcpu operation paid));
    }
  where
    trapped : (b a c : Bool) → b ≡ true → (a || b || c) ≡ false → ⊥
    trapped true true c t f = cc
    trapped true false c t f = cc
    trapped false a c t f = cc
