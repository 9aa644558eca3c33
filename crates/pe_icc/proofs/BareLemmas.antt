-- A scan that takes nothing.
use Rattle.std.proofs.Common.{◌≡◌, ℕ, ◌≤◌, ◌==◌, ◌&&◌, not, Bool, true, false, if◌then◌else◌, IsTrue, List, [], ◌∷◌, ◌++◌, map, replicate, Option, Some, None, is_none, unwrap_or, refl, sym, ap, subst, ◌∙◌}
use Rattle.std.specs.List.{list_all}
use Rattle.std.proofs.lemmas.Bool.{and_parts, eq-eqb}
use Rattle.pe_loop.specs.Calls.{Operation}
use Rattle.pe_loop.specs.Lists.{IchRegs, StandFor, Kept}
use Rattle.pe_loop.specs.Registers.{CpuRec}
use Rattle.pe_loop.specs.VcpuState.declared.loaded.Loaded.{Loaded}
use Rattle.pe_loop.specs.VcpuState.declared.shelved.Shelved.{Shelved}
use Rattle.pe_loop.specs.VcpuState.Moves.{loaded_of, shelved_of}
use Rattle.pe_loop.specs.Core.{Local, Scanning, Claiming, Made, Poll, interface_of, local_after, shown, is_ready, vcpu_of, has_no_cand, is_vcpu, owes_no_kick, owes_no_mark, owes_nothing, index_words, Seen, Adds, AddsStep, made_by, shape_of, part_events, IsAtRest, makes, Progress, Debt, after_end, begun, scan_on, stepped, progress_of, IsProper, is_settled, alone, bare, taking}
use Rattle.pe_loop.proofs.PortCore.PortLemmas.{adds_join}
use Rattle.pe_loop.proofs.PortCall.PieceLemmas.{idle_is}
use Rattle.pe_loop.proofs.PortCall.SettleLemmas.{handed_none}
use Rattle.pe_loop.proofs.PortCall.TryLemmas.{none_append}
use Rattle.pe_loop.specs.PortCall.Piece.{IsIdle, IsPiece}
use Rattle.pe_loop.specs.Claiming.{claims_by}
use Rattle.pe_loop.specs.Enter.{EndsScan}
use Rattle.pe_loop.specs.Leave.{Leaves}
use Rattle.pe_loop.specs.Scanning.{told_by, phase_taken, IsScanAt, Rounds}
use Rattle.pe_loop.specs.Stay.{IsOff, IsOpen}
use Rattle.pe_loop.specs.Moves.{are_moves}
use Rattle.pe_loop.proofs.MoveLemmas.{moves_join, moves_unnamed, only_leave}
use Rattle.pe_loop.proofs.EnterLemmas.{poll_proper}
use Rattle.pe_loop.proofs.IndexLemmas.{less_words, still_taking}
use Rattle.pe_loop.proofs.JoinLemmas.{two_silent}
use Rattle.pe_loop.proofs.LeaveLemmas.{settled_owes}
use Rattle.pe_loop.proofs.RoundLemmas.{some_word}
use Rattle.pe_icc.specs.Amid.{IsAble, Leads}
use Rattle.pe_icc.specs.Prepare.{HasLooked}
use Rattle.pe_icc.specs.Bare.{MayGather, EntersBare, Gathers}
use Rattle.pe_icc.proofs.AloneLemmas.{empty_stands, en_opens}
use Rattle.pe_icc.proofs.AmidLemmas.{leads_then}
use Rattle.pe_icc.proofs.ReenterLemmas.{amid_after}

-- The look for a kick.

bare_told : (old mid : Seen) (found : ℕ) (add : AddsStep old mid (Poll None None) found) (p : Progress) → IsAtRest old p → p.far ≡ Some true
    → stepped (shape_of old) old.actor (made_by old (Poll None None) found add.tables) p ≡ record (told_by mid (begun true p)) { scan = taking bare 0 }
bare_told old mid found add p rest far =
    let shape = shape_of old in
    let actor = old.actor in
    let made = made_by old (Poll None None) found add.tables in
    let none : (0 == index_words shape) ≡ false = less_words shape 0 (some_word shape) in
    let from : Bool → Local → List Made → Progress = λ far local own. scan_on shape actor (record (begun far p) { local = local_after shape actor local (Poll None None) found; own = own ++ made ∷ [] }) in
    let make : Local → List Made → Progress = λ local own. record (begun true p) { local = local; own = own; scan = taking bare 0 } in
    ap (λ far. from (unwrap_or far false) p.local p.own) far
    ∙ ap (λ local. from true local p.own) rest.local
    ∙ ap (from true old.local) rest.own
    ∙ still_taking shape actor (make (local_after shape actor old.local (Poll None None) found) (old.own ++ made ∷ [])) bare 0 none
    ∙ ap (λ local. make local (old.own ++ made ∷ [])) (sym (ap (λ (seen : Seen). seen.local) add.adds.new_is))
    ∙ ap (make mid.local) (sym (ap (λ (seen : Seen). seen.own) add.adds.new_is))

-- how far it is then, and after the looks
record IsBegun (old mid : Seen) (operation : Operation) (lrs : ℕ) (debt : Debt) (q : Progress) : Type 0 where
  from : Progress
  may : MayGather old operation lrs debt from
  is : q ≡ record (told_by mid (begun true from)) { scan = taking bare 0 }

record IsRounded (old mid : Seen) (operation : Operation) (lrs : ℕ) (debt : Debt) (q : Progress) : Type 0 where
  from : Progress
  may : MayGather old operation lrs debt from
  far : Option Bool
  is : q ≡ claims_by mid [] [] (alone None mid.local.cpu lrs) false false (record (begun true from) { far = far })

poll_leads : (old mid : Seen) (found lrs : ℕ) (add : AddsStep old mid (Poll None None) found) (operation : Operation) (debt : Debt)
    → Leads old (made_by old (Poll None None) found add.tables ∷ []) (MayGather old operation lrs debt) (IsBegun old mid operation lrs debt)
poll_leads old mid found lrs add operation debt =
    record {
      proper = λ p may. (poll_proper (shape_of old) old.actor p (idle_is p.scan may.amid.rest.scan) may.amid.none_failed, tt);
      after = λ p may. record { from = p; may = may; is = bare_told old mid found add p may.amid.rest may.far };
    }

round_leads : (old mid mid2 : Seen) (lrs : ℕ) (kept : Kept) (round : Rounds mid mid2 lrs kept) (operation : Operation) (debt : Debt) → Leads mid round.part (IsBegun old mid operation lrs debt) (IsRounded old mid2 operation lrs debt)
round_leads old mid mid2 lrs kept round operation debt =
    let start : Progress → Progress = λ p. record (told_by mid (begun true p)) { scan = taking bare 0 } in
    let at : (p : Progress) → IsScanAt mid (start p) (taking bare 0) = λ p. record { local = refl; own = refl; is = refl } in
    record {
      proper = λ q begun_so. subst (λ q. IsProper (shape_of mid) mid.actor q (map makes round.part)) (sym begun_so.is) (round.proper bare (start begun_so.from) (at begun_so.from));
      after = λ q begun_so.
          let p = begun_so.from in
          let on = round.goes_on bare (start p) (at p) in
          let claims : ℕ → Bool → Progress = λ lrs failed. claims_by mid2 [] [] (alone None mid2.local.cpu lrs) false failed (record (begun true p) { far = on.far }) in
          record {
            from = p;
            may = begun_so.may;
            far = on.far;
            is =
                ap (λ q. progress_of (shape_of mid) mid.actor q (map makes round.part)) begun_so.is
                ∙ on.is
                ∙ ap (λ lrs. claims lrs p.failed) begun_so.may.amid.lrs_is
                ∙ ap (claims lrs) begun_so.may.amid.none_failed;
          };
    }

end_leads : (old mid2 new : Seen) (lrs : ℕ) (loaded : Loaded) (over : EndsScan mid2 new false) (operation : Operation) (debt : Debt) → loaded.regs ≡ alone None mid2.local.cpu lrs → loaded.trapping ≡ false
    → Leads mid2 over.part (IsRounded old mid2 operation lrs debt) (IsAble new loaded operation after_end)
end_leads old mid2 new lrs loaded over operation debt regs trapping =
    let alone_regs = alone None mid2.local.cpu lrs in
    let start : Progress → Option Bool → Progress = λ p far. record (begun true p) { far = far } in
    record {
      proper = λ q so. subst (λ q. IsProper (shape_of mid2) mid2.actor q (map makes over.part)) (sym so.is) (over.proper alone_regs false (start so.from so.far));
      after = λ q so.
          let amid = so.may.amid in
          subst (IsAble new loaded operation after_end) (sym (ap (λ q. progress_of (shape_of mid2) mid2.actor q (map makes over.part)) so.is ∙ over.goes_on alone_regs false (start so.from so.far)))
          (record {
            amid =
                record {
                  rest = record { local = refl; own = refl; scan = refl; wants = amid.rest.wants };
                  operation_is = amid.operation_is;
                  lrs_is = amid.lrs_is ∙ sym (ap (λ (regs : IchRegs). regs.n) regs);
                  none_failed = refl;
                  debt_is = refl;
                };
            regs = sym regs;
            trapping = sym trapping;
          });
    }

-- What the actor has for itself then.

record IsBareLocal (old new : Seen) : Type 0 where
  at : new.local.at ≡ []
  phase : new.local.phase ≡ Claiming
  settled : IsTrue (is_settled new.local)

bare_local : (old mid mid2 new : Seen) (vcpu : Shelved) (lrs found : ℕ) (kept : Kept) → IsOff old vcpu → AddsStep old mid (Poll None None) found → Rounds mid mid2 lrs kept → EndsScan mid2 new false → IsBareLocal old new
bare_local old mid mid2 new vcpu lrs found kept off add round over =
    let polled : mid.local ≡ record old.local { phase = Scanning; cpu = record old.local.cpu { lpis = (vcpu_of found).lpis } } = ap (λ (seen : Seen). seen.local) add.adds.new_is in
    let with_marks = and_parts (owes_no_kick old.local && owes_no_mark old.local) (has_no_cand old.local) (settled_owes old.local off.settled) in
    let parts = and_parts (owes_no_kick old.local) (owes_no_mark old.local) with_marks.0 in
    let line = and_parts (owes_nothing old.local && not old.local.turn && not old.local.ctlr) (is_none old.local.line) off.settled in
    let ctlr = and_parts (owes_nothing old.local && not old.local.turn) (not old.local.ctlr) line.0 in
    let turn = and_parts (owes_nothing old.local) (not old.local.turn) ctlr.0 in
    let kicks : IsTrue (owes_no_kick new.local) = over.owes (ap owes_no_kick round.same ∙ ap owes_no_kick polled ∙ parts.0) in
    let marks : IsTrue (owes_no_mark new.local) = ap owes_no_mark over.same ∙ ap owes_no_mark round.same ∙ ap owes_no_mark polled ∙ parts.1 in
    let no_turn : IsTrue (not new.local.turn) = ap (λ (local : Local). not local.turn) over.same ∙ ap (λ (local : Local). not local.turn) round.same ∙ ap (λ (local : Local). not local.turn) polled ∙ turn.1 in
    let no_ctlr : IsTrue (not new.local.ctlr) = ap (λ (local : Local). not local.ctlr) over.same ∙ ap (λ (local : Local). not local.ctlr) round.same ∙ ap (λ (local : Local). not local.ctlr) polled ∙ ctlr.1 in
    let no_line : IsTrue (is_none new.local.line) = ap (λ (local : Local). is_none local.line) over.same ∙ ap (λ (local : Local). is_none local.line) round.same ∙ ap (λ (local : Local). is_none local.line) polled ∙ line.1 in
    record {
      at = ap (λ (local : Local). local.at) over.same ∙ ap (λ (local : Local). local.at) round.same ∙ ap (λ (local : Local). local.at) polled ∙ off.empty;
      phase =
          ap (λ (local : Local). local.phase) over.same ∙ round.phase ∙ ap (phase_taken (shape_of mid) (index_words (shape_of mid))) (ap (λ (local : Local). local.phase) polled)
          ∙ ap (λ b. if b then Claiming else Scanning) (eq-eqb (index_words (shape_of mid)) (index_words (shape_of mid)) refl);
      settled = all_true (owes_no_kick new.local) (owes_no_mark new.local) (has_no_cand new.local) (not new.local.turn) (not new.local.ctlr) (is_none new.local.line) kicks marks over.none no_turn no_ctlr no_line;
    }
  where
    all_true : (a b c d e f : Bool) → IsTrue a → IsTrue b → IsTrue c → IsTrue d → IsTrue e → IsTrue f → IsTrue (((a && b) && c) && d && e && f)
    all_true a b c d e f h i j k l m = rw (h, i, j, k, l, m) refl

pub enters_bare_so :
    (old mid mid2 new : Seen) (vcpu : Shelved) (lrs found : ℕ) (kept : Kept) (cpu : CpuRec) (loaded : Loaded) → 1 ≤ lrs → lrs ≤ 16 → IsOff old vcpu → AddsStep old mid (Poll None None) found → Rounds mid mid2 lrs kept → EndsScan mid2 new false → cpu ≡ new.local.cpu
    → loaded ≡ loaded_of (record vcpu { cpu = cpu }) lrs → shelved_of loaded ≡ record vcpu { cpu = cpu } → EntersBare old new vcpu lrs loaded
enters_bare_so old mid mid2 new vcpu lrs found kept cpu loaded some few off add round over cpu_is is back =
    let made = made_by old (Poll None None) found add.tables in
    let late = round.part ++ over.part in
    let adds_late : Adds mid new late = adds_join mid mid2 new round.part over.part round.adds over.adds in
    let adds : Adds old new (made ∷ late) = adds_join old mid new (made ∷ []) late add.adds adds_late in
    let so = bare_local old mid mid2 new vcpu lrs found kept off add round over in
    let cpu_mid : new.local.cpu ≡ mid2.local.cpu = ap (λ (local : Local). local.cpu) over.same in
    let base : loaded.base ≡ record vcpu { cpu = cpu } = ap (λ (vcpu : Loaded). vcpu.base) is in
    let regs : loaded.regs ≡ alone None cpu lrs = ap (λ (vcpu : Loaded). vcpu.regs) is in
    let held : loaded.held ≡ replicate 16 None = ap (λ (vcpu : Loaded). vcpu.held) is in
    let trapping : loaded.trapping ≡ false = ap (λ (vcpu : Loaded). vcpu.trapping) is in
    let interface : interface_of new.local ≡ record { cpu = cpu; at = [] } = ap (λ at. record { cpu = new.local.cpu; at = map shown at }) so.at ∙ ap (λ cpu. record { cpu = cpu; at = [] }) (sym cpu_is) in
    let with_cpu : Shelved → Shelved = λ base. record base { cpu = vcpu.cpu } in
    record {
      part = made ∷ late;
      adds = adds;
      none_taken = none_append (made ∷ []) late (ap (λ b. b && true) (handed_none (Poll None None) found old add.tables refl add.handed)) (none_append round.part over.part round.none_taken over.none_taken);
      silent = two_silent old mid (made ∷ []) late add.adds refl (two_silent mid mid2 round.part over.part round.adds round.silent over.silent);
      set =
          record {
            on =
                record {
                  actor =
                      record {
                        guest = ap (λ (seen : Seen). seen.number) adds.new_is ∙ off.actor.guest ∙ sym (ap (λ (base : Shelved). base.guest) base);
                        number = ap (λ (seen : Seen). seen.actor) adds.new_is ∙ off.actor.number ∙ sym (ap (λ (base : Shelved). base.vcpu) base);
                        is_one = ap (λ seen. is_vcpu (shape_of seen) seen.actor) adds.new_is ∙ off.actor.is_one;
                      };
                  stands =
                      subst (StandFor loaded.regs loaded.held) (sym interface)
                      (subst (λ held. StandFor loaded.regs held (record { cpu = cpu; at = [] })) (sym held) (subst (λ regs. StandFor regs (replicate 16 None) (record { cpu = cpu; at = [] })) (sym regs) (empty_stands lrs cpu)));
                  cpu = ap (λ (base : Shelved). base.cpu) back ∙ cpu_is;
                  whole = ap (list_all (λ at. not at.given)) so.at;
                  settled = so.settled;
                };
            lrs = (subst (λ (regs : IchRegs). 1 ≤ regs.n) (sym regs) some, subst (λ (regs : IchRegs). regs.n ≤ 16) (sym regs) few);
            ready = ap is_ready so.phase;
            free = λ none. subst (λ (regs : IchRegs). IsOpen regs.hcr) (sym regs) en_opens;
          };
      empty = so.at;
      kept = ap with_cpu base;
      lrs_is = ap (λ (regs : IchRegs). regs.n) regs;
      leads = λ operation debt.
          leads_then old mid (made ∷ []) late (MayGather old operation lrs debt) (IsBegun old mid operation lrs debt) (IsAble new loaded operation after_end) add.adds (poll_leads old mid found lrs add operation debt)
          (leads_then mid mid2 round.part over.part (IsBegun old mid operation lrs debt) (IsRounded old mid2 operation lrs debt) (IsAble new loaded operation after_end) round.adds (round_leads old mid mid2 lrs kept round operation debt)
          (end_leads old mid2 new lrs loaded over operation debt (regs ∙ ap (λ cpu. alone None cpu lrs) (cpu_is ∙ cpu_mid)) trapping));
    }

-- It leaves first.

leave_leads : (old mid : Seen) (before : Loaded) (part : List Made) (operation : Operation) (debt : Debt) → Adds old mid part → IsPiece old part → Leads old part (HasLooked old before operation debt true) (MayGather mid operation before.regs.n debt)
leave_leads old mid before part operation debt add piece =
    let idle : (p : Progress) → HasLooked old before operation debt true p → IsIdle old p = λ p has. record { local = has.able.amid.rest.local; own = has.able.amid.rest.own; scan = has.able.amid.rest.scan } in
    record {
      proper = λ p has. (piece p (idle p has)).proper;
      after = λ p has.
          let good = piece p (idle p has) in
          record {
            amid = amid_after old mid part operation before.regs.n debt p (progress_of (shape_of old) old.actor p (map makes part)) add good.stays good.ends has.able.amid;
            far = ap (λ (p : Progress). p.far) good.stays.same ∙ has.far;
          };
    }

pub gathers_so : (old mid new : Seen) (before after : Loaded) (shelved : Shelved) → shelved ≡ shelved_of before → Leaves old mid before shelved → EntersBare mid new shelved before.regs.n after → Gathers old new before after
gathers_so old mid new before after shelved is leaves enters =
    let with_cpu : Shelved → Shelved = λ base. record base { cpu = before.base.cpu } in
    record {
      part = leaves.part ++ enters.part;
      adds = adds_join old mid new leaves.part enters.part leaves.adds enters.adds;
      none_taken = none_append leaves.part enters.part leaves.none_taken enters.none_taken;
      moves =
          moves_unnamed old.actor (part_events old (leaves.part ++ enters.part))
          (moves_join old mid leaves.part enters.part leaves.adds (ap (are_moves old.actor) leaves.events ∙ only_leave old.actor _) (ap (are_moves mid.actor) enters.silent));
      set = enters.set;
      empty = enters.empty;
      same = record { base = ap with_cpu enters.kept ∙ ap with_cpu is; lrs = enters.lrs_is };
      leads = λ operation debt.
          leads_then old mid leaves.part enters.part (HasLooked old before operation debt true) (MayGather mid operation before.regs.n debt) (IsAble new after operation after_end) leaves.adds
          (leave_leads old mid before leaves.part operation debt leaves.adds leaves.piece) (enters.leads operation debt);
    }
