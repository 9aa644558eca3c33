-- A vCPU enters a PE.
use Rattle.std.proofs.Common.{◌≡◌, ℕ, zero, suc, ◌+◌, ◌^◌, ◌<◌, ◌≤◌, ◌==◌, ◌&&◌, ◌||◌, not, Bool, true, false, if◌then◌else◌, IsTrue, List, [], ◌∷◌, ◌++◌, append-nil, map, Option, Some, None, is_none, Contains, replicate, slice_index_or, refl, sym, ap, subst, ◌∙◌, arith}
use Rattle.std.specs.List.{list_all}
use Rattle.std.proofs.lemmas.List.{append_assoc}
use Rattle.std.proofs.lemmas.Option.{none-some}
use Rattle.std.proofs.lemmas.Bool.{and_parts, eq-eqb, eqb-true, ltb-true}
use Rattle.port_call.specs.Registers.{Targets, CpuRec}
use Rattle.port_call.specs.Words.{GuestShape}
use Rattle.port_call.specs.Calls.{Residence, Beside, IsCall}
use Rattle.port_call.specs.Lists.{IchRegs, StandFor, Kept, StandsFor, Fill, Offer, HasEntries, choices_of, hcr_of, plan, regs_of, active_among, deliverable_among, in_places, Choice, hcr_en, hcr_npie, hcr_vgrp0eie, hcr_vgrp0die, hcr_vgrp1eie, hcr_vgrp1die}
use Rattle.port_call.proofs.VcpuRefill.ElementLemmas.{Contains-here, Contains-map}
use Rattle.port_call.proofs.VcpuRefill.PlaceLemmas.{nothing_placed}
use Rattle.port_call.specs.Core.{AtIrq, is_ready as may_access, Local, Scanning, Claiming, Made, Kick, Poll, interface_of, local_after, shown, vcpu_of, is_vcpu, has_no_cand, owes_no_kick, owes_no_mark, owes_nothing, without_vcpu, index_words, Seen, Adds, AddsStep, made_by, shape_of, part_events, vcpu_of_actor, maps_taken, makes, ends, Progress, paid, begun, owed_after_scan, is_paid, progress_of, scan_on, stepped, IsProper, IsProperStep, IsProperEnd, is_empty, gives_back, is_settled, wants_nothing, planned, idle, taking, claiming, keys_chosen, keys_of_both}
use Rattle.vcpu_state.specs.declared.loaded.Loaded.{Loaded}
use Rattle.vcpu_state.specs.declared.shelved.Shelved.{Shelved}
use Rattle.vcpu_state.specs.Moves.{shelved_of}
use Rattle.port_call.proofs.PortCore.PortLemmas.{adds_join}
use Rattle.port_call.proofs.CoreProper.PartLemmas.{proper_append}
use Rattle.port_call.proofs.PieceLemmas.{idle_is, scan_free}
use Rattle.port_call.proofs.SettleLemmas.{handed_none}
use Rattle.port_call.proofs.TryLemmas.{none_append}
use Rattle.pe_loop.specs.Claiming.{claims_by, IsPlanOf, ClaimsAll}
use Rattle.pe_loop.specs.Enter.{MayEnter, Scans, IsReady, EndsScan, entered, HasEntered, IsBetween, Enters}
use Rattle.pe_loop.specs.Marking.{MarksRest}
use Rattle.pe_loop.specs.Moves.{are_moves}
use Rattle.pe_loop.specs.Scanning.{told_by, phase_taken, IsScanAt, Rounds}
use Rattle.pe_loop.specs.Stay.{IsOff, IsOpen}
use Rattle.pe_loop.specs.Steps.{all_hit, IsEntryPart}
use Rattle.pe_loop.proofs.MoveLemmas.{moves_join, moves_unnamed}
use Rattle.pe_loop.proofs.StepLemmas.{turned}
use Rattle.pe_loop.proofs.CountLemmas.{looks_append, quiet_append, quiet_none, taken_append}
use Rattle.pe_loop.proofs.JoinLemmas.{two_on, two_proper, same_proper, same_progress, two_silent}
use Rattle.pe_loop.proofs.IndexLemmas.{less_words, still_taking}
use Rattle.pe_loop.proofs.LeaveLemmas.{settled_owes}
use Rattle.pe_loop.proofs.RoundLemmas.{some_word}

-- The end of a scan.

marked : (old mid : Seen) (marks : MarksRest old mid) (regs : IchRegs) (trapping failed : Bool) (p : Progress)
    → progress_of (shape_of old) old.actor (claims_by old [] [] regs trapping failed p) (map makes marks.marking.part) ≡ record (told_by mid p) { scan = idle; regs = regs; trapping = trapping; failed = failed }
marked old mid marks regs trapping failed p =
    let q : Progress = record p { regs = regs; trapping = trapping; failed = failed } in
    marks.marking.goes_on q ∙ ap (λ b. record (told_by mid q) { scan = if b then idle else claiming [] [] }) marks.none

pub ends_well : (old mid : Seen) → MarksRest old mid → EndsScan old mid false
ends_well old mid marks =
    let so = marks.marking in
    let back : Local → Local = λ local. record local { owes = old.local.owes } in
    record {
      part = so.part;
      adds = so.adds;
      marks = so.part;
      kick = [];
      part_is = sym (append-nil so.part);
      marks_are = so.steps_are;
      kick_is = refl;
      none_taken = so.none_taken;
      quiet = so.quiet;
      silent = so.silent;
      same = ap back so.same;
      none = marks.none;
      owes = λ h. ap owes_no_kick so.same ∙ h;
      proper = λ regs trapping p. so.proper (record p { regs = regs; trapping = trapping; failed = false });
      goes_on = λ regs trapping p. marked old mid marks regs trapping false p;
    }

kick_proper : (shape : GuestShape) (actor vcpu : ℕ) (p : Progress) → p.scan ≡ idle → IsProperStep shape actor p (Kick vcpu)
kick_proper shape actor vcpu p e = record { scan = scan_free shape actor p (Kick vcpu) e; trap = refl; failed = refl; far = refl; refill = refl; want = refl; seen = refl }

kick_stepped : (mid new : Seen) (found : ℕ) (add : AddsStep mid new (Kick mid.actor) found) (regs : IchRegs) (trapping : Bool) (p : Progress)
    → stepped (shape_of mid) mid.actor (made_by mid (Kick mid.actor) found add.tables) (record (told_by mid p) { scan = idle; regs = regs; trapping = trapping; failed = true })
    ≡ record (told_by new p) { scan = idle; regs = regs; trapping = trapping; failed = false }
kick_stepped mid new found add regs trapping p =
    let make : Local → List Made → Bool → Progress = λ local own failed. record p { local = local; own = own; scan = idle; regs = regs; trapping = trapping; failed = failed } in
    let local = local_after (shape_of mid) mid.actor mid.local (Kick mid.actor) found in
    let own = mid.own ++ made_by mid (Kick mid.actor) found add.tables ∷ [] in
    ap (λ b. make local own (true && not b)) (eq-eqb mid.actor mid.actor refl)
    ∙ ap (λ local. make local own false) (sym (ap (λ seen. seen.local) add.adds.new_is))
    ∙ ap (λ own. make new.local own false) (sym (ap (λ seen. seen.own) add.adds.new_is))

pub ends_kicked : (old mid new : Seen) (vcpu found : ℕ) → MarksRest old mid → vcpu ≡ mid.actor → AddsStep mid new (Kick vcpu) found → EndsScan old new true
ends_kicked old mid new vcpu found marks vcpu_is added =
    let so = marks.marking in
    let add : AddsStep mid new (Kick mid.actor) found = subst (λ vcpu. AddsStep mid new (Kick vcpu) found) vcpu_is added in
    let made = made_by mid (Kick mid.actor) found add.tables in
    let local : new.local ≡ record mid.local { owes = without_vcpu mid.local.owes mid.actor } = ap (λ seen. seen.local) add.adds.new_is in
    let back : Local → Local = λ local. record local { cands = old.local.cands; owes = old.local.owes } in
    let with_owes : Local → Local = λ local. record local { owes = old.local.owes } in
    let set : ℕ → Targets = λ n. record { 0 = n } in
    let at = λ (regs : IchRegs) (trapping : Bool) (p : Progress). marked old mid marks regs trapping true p in
    record {
      part = so.part ++ made ∷ [];
      adds = adds_join old mid new so.part (made ∷ []) so.adds add.adds;
      marks = so.part;
      kick = made ∷ [];
      part_is = refl;
      marks_are = so.steps_are;
      kick_is = ap (λ (seen : Seen). Kick seen.actor ∷ []) so.adds.new_is;
      none_taken = none_append so.part (made ∷ []) so.none_taken (ap (λ b. b && true) (handed_none (Kick mid.actor) found mid add.tables refl add.handed));
      quiet = quiet_append so.part (made ∷ []) so.quiet refl;
      silent = two_silent old mid so.part (made ∷ []) so.adds so.silent refl;
      same = ap back local ∙ ap with_owes so.same;
      none = ap has_no_cand local ∙ marks.none;
      owes = λ h. ap owes_no_kick local ∙ ap (λ owes. (without_vcpu owes mid.actor).0 == 0) (ap (λ local. local.owes) so.same ∙ ap set (eqb-true old.local.owes.0 0 h));
      proper = λ regs trapping p.
          two_proper (shape_of old) old.actor (claims_by old [] [] regs trapping true p) (record (told_by mid p) { scan = idle; regs = regs; trapping = trapping; failed = true }) so.part (made ∷ [])
          (so.proper (record p { regs = regs; trapping = trapping; failed = true })) (at regs trapping p)
          (kick_proper (shape_of old) old.actor mid.actor (record (told_by mid p) { scan = idle; regs = regs; trapping = trapping; failed = true }) refl, tt);
      goes_on = λ regs trapping p.
          two_on (shape_of old) old.actor (claims_by old [] [] regs trapping true p) so.part (made ∷ [])
          ∙ ap (λ q. progress_of (shape_of old) old.actor q (map makes (made ∷ []))) (at regs trapping p)
          ∙ same_progress old mid so.part (made ∷ []) (record (told_by mid p) { scan = idle; regs = regs; trapping = trapping; failed = true }) so.adds
          ∙ kick_stepped mid new found add regs trapping p;
    }

-- The scan.

pub poll_proper : (shape : GuestShape) (actor : ℕ) (p : Progress) → p.scan ≡ idle → p.failed ≡ false → IsProperStep shape actor p (Poll None None)
poll_proper shape actor p e none = record { scan = scan_free shape actor p (Poll None None) e; trap = refl; failed = ap not none; far = refl; refill = refl; want = refl; seen = refl }

-- where the look for a kick leaves the protocol
polled_on : (old mid : Seen) (found lrs : ℕ) (add : AddsStep old mid (Poll None None) found) (p : Progress) → MayEnter old lrs p
    → stepped (shape_of old) old.actor (made_by old (Poll None None) found add.tables) p ≡ record (told_by mid (begun false p)) { scan = taking planned 0 }
polled_on old mid found lrs add p may =
    let shape = shape_of old in
    let actor = old.actor in
    let made = made_by old (Poll None None) found add.tables in
    let none : (0 == index_words shape) ≡ false = less_words shape 0 (some_word shape) in
    let from : Bool → Local → List Made → Progress = λ far local own. scan_on shape actor (record (begun far p) { local = local_after shape actor local (Poll None None) found; own = own ++ made ∷ [] }) in
    let make : Local → List Made → Progress = λ local own. record (begun false p) { local = local; own = own; scan = taking planned 0 } in
    ap (λ far. from far p.local p.own) may.near
    ∙ ap (λ local. from false local p.own) may.idle.local
    ∙ ap (from false old.local) may.idle.own
    ∙ still_taking shape actor (make (local_after shape actor old.local (Poll None None) found) (old.own ++ made ∷ [])) planned 0 none
    ∙ ap (λ local. make local (old.own ++ made ∷ [])) (sym (ap (λ seen. seen.local) add.adds.new_is))
    ∙ ap (make mid.local) (sym (ap (λ seen. seen.own) add.adds.new_is))

pub scans_so :
    (old mid new : Seen) (vcpu : Shelved) (lrs found : ℕ) (kept : Kept) (cpu : CpuRec) (fill : Fill) → lrs ≤ 16 → IsOff old vcpu → AddsStep old mid (Poll None None) found → Rounds mid new lrs kept → cpu ≡ new.local.cpu → HasEntries fill.choice
    → ((offers : List Offer) → StandsFor kept cpu offers → (shape : GuestShape) → kept.vcpu < shape.vcpus → fill ≡ plan offers kept.vcpu cpu shape kept.lrs) → Scans old new lrs fill
scans_so old mid new vcpu lrs found kept cpu fill few off add round cpu_is entries value =
    let shape = shape_of old in
    let actor = old.actor in
    let made = made_by old (Poll None None) found add.tables in
    let rest = round.part in
    let adds : Adds old new (made ∷ rest) = adds_join old mid new (made ∷ []) rest add.adds round.adds in
    let polled : mid.local ≡ record old.local { phase = Scanning; cpu = record old.local.cpu { lpis = (vcpu_of found).lpis } } = ap (λ seen. seen.local) add.adds.new_is in
    let back : Local → Local = λ local. record local { cands = old.local.cands; phase = old.local.phase; cpu = old.local.cpu } in
    let with_lpis : CpuRec → CpuRec = λ cpu. record cpu { lpis = old.local.cpu.lpis } in
    let cpu_old : new.local.cpu ≡ record old.local.cpu { lpis = (vcpu_of found).lpis } = ap (λ local. local.cpu) round.same ∙ ap (λ local. local.cpu) polled in
    let is_one : is_vcpu (shape_of new) new.actor ≡ true = ap (λ seen. is_vcpu (shape_of seen) seen.actor) adds.new_is ∙ off.actor.is_one in
    let less : new.actor < (shape_of new).vcpus = ltb-true new.actor (shape_of new).vcpus is_one in
    let plan_is : fill ≡ plan round.offers new.actor new.local.cpu (shape_of new) lrs
    = value round.offers (subst (λ cpu. StandsFor kept cpu round.offers) (sym cpu_is) round.stands) (shape_of new) (subst (λ vcpu. vcpu < (shape_of new).vcpus) (sym round.vcpu_is) less)
    ∙ ap (λ vcpu. plan round.offers vcpu cpu (shape_of new) kept.lrs) round.vcpu_is
    ∙ ap (λ cpu. plan round.offers new.actor cpu (shape_of new) kept.lrs) cpu_is
    ∙ ap (plan round.offers new.actor new.local.cpu (shape_of new)) round.lrs_is in
    let none_before : IsTrue (has_no_cand mid.local) = ap has_no_cand polled ∙ (and_parts (owes_no_kick old.local && owes_no_mark old.local) (has_no_cand old.local) (settled_owes old.local off.settled)).1 in
    let looks_all = looks_append (made ∷ []) rest in
    let bits_all = taken_append (made ∷ []) rest in
    let poll_quiet = quiet_none (made ∷ []) refl in
    let poll_looks = poll_quiet.0 in
    let poll_bits = poll_quiet.1 in
    let same_count = round.looks none_before in
    let begins_at : Progress → Progress = λ p. record (told_by mid (begun false p)) { scan = taking planned 0 } in
    let poll : (p : Progress) → MayEnter old lrs p → progress_of shape actor p (map makes (made ∷ [])) ≡ begins_at p = λ p may. polled_on old mid found lrs add p may in
    let at : (p : Progress) → IsScanAt mid (begins_at p) (taking planned 0) = λ p. record { local = refl; own = refl; is = refl } in
    record {
      part = made ∷ rest;
      adds = adds;
      look = made;
      rest = rest;
      part_is = refl;
      look_is = refl;
      rest_is = round.steps_are;
      none_taken = none_append (made ∷ []) rest (ap (λ b. b && true) (handed_none (Poll None None) found old add.tables refl add.handed)) round.none_taken;
      looks = omega (arith, same_count, looks_all, bits_all, poll_looks, poll_bits);
      silent = two_silent old mid (made ∷ []) rest add.adds refl round.silent;
      same = ap back round.same ∙ ap back polled;
      phase =
          round.phase ∙ ap (phase_taken (shape_of mid) (index_words (shape_of mid))) (ap (λ local. local.phase) polled)
          ∙ ap (λ b. if b then Claiming else Scanning) (eq-eqb (index_words (shape_of mid)) (index_words (shape_of mid)) refl);
      cpu = ap with_lpis cpu_old;
      plan = record { vcpu = is_one; few = few; offers = round.offers; found = round.found; is = plan_is };
      entries = entries;
      proper = λ p may.
          two_proper shape actor p (begins_at p) (made ∷ []) rest (poll_proper shape actor p (idle_is p.scan may.idle.scan) may.none_failed, tt) (poll p may)
          (same_proper old mid (made ∷ []) rest (begins_at p) add.adds (round.proper planned (begins_at p) (at p)));
      goes_on = λ p may.
          let on = round.goes_on planned (begins_at p) (at p) in
          let claims : Fill → ℕ → Bool → Progress = λ fill lrs failed. claims_by new (keys_chosen fill) (keys_of_both fill) (regs_of fill new.local.cpu lrs) fill.trapping failed (record (begun false p) { far = on.far }) in
          record {
            far = on.far;
            is =
                two_on shape actor p (made ∷ []) rest
                ∙ ap (λ q. progress_of shape actor q (map makes rest)) (poll p may)
                ∙ same_progress old mid (made ∷ []) rest (begins_at p) add.adds
                ∙ on.is
                ∙ ap (λ lrs. claims (plan round.offers new.actor new.local.cpu (shape_of new) lrs) lrs p.failed) may.lrs_is
                ∙ ap (λ fill. claims fill lrs p.failed) (sym plan_is)
                ∙ ap (claims fill lrs) may.none_failed;
          };
    }

-- The entry.

-- where the claims and the end of the scan leave the protocol
record ClaimsOn (mid new : Seen) (fill : Fill) (lrs : ℕ) (loaded : Loaded) (part : List Made) : Type 0 where
  proper : (p : Progress) → IsProper (shape_of mid) mid.actor (claims_by mid (keys_chosen fill) (keys_of_both fill) (regs_of fill mid.local.cpu lrs) fill.trapping false p) (map makes part)
  goes_on :
      (p : Progress)
      → progress_of (shape_of mid) mid.actor (claims_by mid (keys_chosen fill) (keys_of_both fill) (regs_of fill mid.local.cpu lrs) fill.trapping false p) (map makes part)
      ≡ record (told_by new p) { scan = idle; regs = loaded.regs; trapping = fill.trapping; failed = false }

claims_on : (mid mid2 new : Seen) (fill : Fill) (lrs : ℕ) (ready loaded : Loaded) (failed : Bool) → ready.regs.n ≡ lrs → (claims : ClaimsAll mid mid2 fill ready loaded failed) (over : EndsScan mid2 new failed) → ClaimsOn mid new fill lrs loaded (claims.part ++ over.part)
claims_on mid mid2 new fill lrs ready loaded failed count claims over =
    let shape = shape_of mid in
    let actor = mid.actor in
    let start : ℕ → Progress → Progress = λ n p. claims_by mid (keys_chosen fill) (keys_of_both fill) (regs_of fill mid.local.cpu n) fill.trapping false p in
    let done : Progress → Progress = λ p. claims_by mid2 [] [] loaded.regs fill.trapping failed p in
    let Proper : ℕ → Progress → Type 0 = λ n p. IsProper shape actor (start n p) (map makes (claims.part ++ over.part)) in
    record {
      proper = λ p.
          subst (λ n. Proper n p) count
          (two_proper shape actor (start ready.regs.n p) (done p) claims.part over.part (claims.proper false p) (claims.goes_on false p) (same_proper mid mid2 claims.part over.part (done p) claims.adds (over.proper loaded.regs fill.trapping p)));
      goes_on = λ p.
          ap (λ n. progress_of shape actor (start n p) (map makes (claims.part ++ over.part))) (sym count)
          ∙ two_on shape actor (start ready.regs.n p) claims.part over.part
          ∙ ap (λ q. progress_of shape actor q (map makes over.part)) (claims.goes_on false p)
          ∙ same_progress mid mid2 claims.part over.part (done p) claims.adds
          ∙ over.goes_on loaded.regs fill.trapping p;
    }

-- a plan out of trap mode traps no access
hcr_opens : (cpu : CpuRec) (cut : Bool) → IsOpen (hcr_of cpu cut false)
hcr_opens cpu cut = of cpu.en0 cpu.en1 cut
  where
    of : (a b c : Bool) → IsOpen (2 ^ hcr_en + (if c then 2 ^ hcr_npie else 0) + (if a then 2 ^ hcr_vgrp0die else 2 ^ hcr_vgrp0eie) + (if b then 2 ^ hcr_vgrp1die else 2 ^ hcr_vgrp1eie) + 0)
    of true true true = record { common = refl; group_0 = refl; group_1 = refl; deactivate = refl }
    of true true false = record { common = refl; group_0 = refl; group_1 = refl; deactivate = refl }
    of true false true = record { common = refl; group_0 = refl; group_1 = refl; deactivate = refl }
    of true false false = record { common = refl; group_0 = refl; group_1 = refl; deactivate = refl }
    of false true true = record { common = refl; group_0 = refl; group_1 = refl; deactivate = refl }
    of false true false = record { common = refl; group_0 = refl; group_1 = refl; deactivate = refl }
    of false false true = record { common = refl; group_0 = refl; group_1 = refl; deactivate = refl }
    of false false false = record { common = refl; group_0 = refl; group_1 = refl; deactivate = refl }

plan_opens : (seen : Seen) (lrs : ℕ) (fill : Fill) → IsPlanOf seen lrs fill → fill.trapping ≡ false → IsOpen fill.hcr
plan_opens seen lrs fill is none =
    let made = plan is.offers seen.actor seen.local.cpu (shape_of seen) lrs in
    let off : made.trapping ≡ false = ap (λ (fill : Fill). fill.trapping) (sym is.is) ∙ none in
    subst IsOpen (sym (ap (λ (fill : Fill). fill.hcr) is.is ∙ ap (hcr_of seen.local.cpu made.cut) off)) (hcr_opens seen.local.cpu made.cut)

-- one of trap mode chooses nothing
abbrev no_choices : ℕ → List (Option Choice)
no_choices n = replicate n None

none_chosen : (seen : Seen) {lrs : ℕ} {fill : Fill} → IsPlanOf seen lrs fill → fill.trapping ≡ true → (place : ℕ) → slice_index_or fill.choice place None ≡ None
none_chosen seen {lrs} {fill} is all place =
    let made = plan is.offers seen.actor seen.local.cpu (shape_of seen) lrs in
    let on : made.trapping ≡ true = ap (λ (fill : Fill). fill.trapping) (sym is.is) ∙ all in
    let choices = choices_of (active_among is.offers seen.actor) (deliverable_among is.offers seen.actor seen.local.cpu (shape_of seen)) made.cut seen.actor seen.local.cpu (shape_of seen) lrs in
    ap (λ (fill : Fill). slice_index_or fill.choice place None) is.is
    ∙ ap (λ b. slice_index_or (in_places (if b then [] else choices)) place None) on
    ∙ ap (λ places. slice_index_or places place None) (sym nothing_placed)
    ∙ of 16 place
  where
    of : (n i : ℕ) → slice_index_or (no_choices n) i None ≡ None
    of zero zero = refl
    of zero (suc i) = refl
    of (suc n) zero = refl
    of (suc n) (suc i) = of n i

none_at : (at : List AtIrq) → ((entry : AtIrq) → Contains at entry → ⊥) → at ≡ []
none_at [] none = refl
none_at (entry ∷ rest) none = absurd (none entry (Contains-here entry rest))

-- what it has for itself then
record EndsSo (old new : Seen) (vcpu : Shelved) (lrs : ℕ) (loaded : Loaded) (fill : Fill) : Type 0 where
  phase : new.local.phase ≡ Claiming
  settled : IsTrue (is_settled new.local)
  base : record loaded.base { cpu = vcpu.cpu } ≡ vcpu
  stands : StandFor loaded.regs loaded.held (interface_of new.local)
  cpu : (shelved_of loaded).cpu ≡ new.local.cpu
  whole : IsTrue (list_all (λ at. not at.given) new.local.at)
  trapping : loaded.trapping ≡ fill.trapping
  count : loaded.regs.n ≡ lrs
  hcr : loaded.regs.hcr ≡ fill.hcr
  bare : fill.trapping ≡ true → new.local.at ≡ []

ends_so : (old mid mid2 new : Seen) (vcpu : Shelved) (lrs : ℕ) (cpu : CpuRec) (fill : Fill) (ready loaded : Loaded) (failed : Bool) → IsOff old vcpu → Scans old mid lrs fill → cpu ≡ mid.local.cpu → IsReady vcpu cpu lrs fill ready → ClaimsAll mid mid2 fill ready loaded failed → EndsScan mid2 new failed
    → EndsSo old new vcpu lrs loaded fill
ends_so old mid mid2 new vcpu lrs cpu fill ready loaded failed off scans cpu_is is_ready claims over =
    let with_cpu : Shelved → Shelved = λ base. record base { cpu = vcpu.cpu } in
    let owes = settled_owes old.local off.settled in
    let with_marks = and_parts (owes_no_kick old.local && owes_no_mark old.local) (has_no_cand old.local) owes in
    let parts = and_parts (owes_no_kick old.local) (owes_no_mark old.local) with_marks.0 in
    let line = and_parts (owes_nothing old.local && not old.local.turn && not old.local.ctlr) (is_none old.local.line) off.settled in
    let ctlr = and_parts (owes_nothing old.local && not old.local.turn) (not old.local.ctlr) line.0 in
    let turn = and_parts (owes_nothing old.local) (not old.local.turn) ctlr.0 in
    let kicks : IsTrue (owes_no_kick new.local) = over.owes (ap owes_no_kick claims.same ∙ ap owes_no_kick scans.same ∙ parts.0) in
    let marks : IsTrue (owes_no_mark new.local) = ap owes_no_mark over.same ∙ ap owes_no_mark claims.same ∙ ap owes_no_mark scans.same ∙ parts.1 in
    let no_turn : IsTrue (not new.local.turn) = ap (λ local. not local.turn) over.same ∙ ap (λ local. not local.turn) claims.same ∙ ap (λ local. not local.turn) scans.same ∙ turn.1 in
    let no_ctlr : IsTrue (not new.local.ctlr) = ap (λ local. not local.ctlr) over.same ∙ ap (λ local. not local.ctlr) claims.same ∙ ap (λ local. not local.ctlr) scans.same ∙ ctlr.1 in
    let no_line : IsTrue (is_none new.local.line) = ap (λ local. is_none local.line) over.same ∙ ap (λ local. is_none local.line) claims.same ∙ ap (λ local. is_none local.line) scans.same ∙ line.1 in
    record {
      phase = ap (λ local. local.phase) over.same ∙ ap (λ local. local.phase) claims.same ∙ scans.phase;
      settled = all_true (owes_no_kick new.local) (owes_no_mark new.local) (has_no_cand new.local) (not new.local.turn) (not new.local.ctlr) (is_none new.local.line) kicks marks over.none no_turn no_ctlr no_line;
      base = ap (λ (one : Loaded). with_cpu one.base) claims.loaded ∙ ap with_cpu is_ready.base;
      stands = subst (StandFor loaded.regs loaded.held) (sym (ap interface_of over.same)) claims.stands;
      cpu =
          ap (λ vcpu. (shelved_of vcpu).cpu) claims.loaded ∙ ap (λ vcpu. vcpu.cpu) is_ready.back ∙ cpu_is
          ∙ sym (ap (λ local. local.cpu) over.same ∙ ap (λ local. local.cpu) claims.same);
      whole = ap (λ local. list_all (λ at. not at.given) local.at) over.same ∙ claims.whole;
      trapping = ap (λ vcpu. vcpu.trapping) claims.loaded ∙ is_ready.trapping;
      count = ap (λ (one : Loaded). one.regs.n) claims.loaded ∙ ap (λ (regs : IchRegs). regs.n) is_ready.regs;
      hcr = ap (λ (one : Loaded). one.regs.hcr) claims.loaded ∙ ap (λ (regs : IchRegs). regs.hcr) is_ready.regs;
      bare = λ trapping.
          ap (λ local. local.at) over.same
          ∙ none_at mid2.local.at
          (λ entry among. let held = claims.stands.places.each (shown entry) (Contains-map shown mid2.local.at entry among) in let one = claims.held held.place held.one held.there in
          none-some one.choice (sym (none_chosen mid scans.plan trapping held.place) ∙ one.chosen));
    }
  where
    all_true : (a b c d e f : Bool) → IsTrue a → IsTrue b → IsTrue c → IsTrue d → IsTrue e → IsTrue f → IsTrue (((a && b) && c) && d && e && f)
    all_true a b c d e f h i j k l m = rw (h, i, j, k, l, m) refl

-- the part may end
entered_ends : (new : Seen) (loaded : Loaded) (far : Option Bool) (p : Progress) → new.local.phase ≡ Claiming → IsTrue (is_settled new.local) → owed_after_scan p.debt ≡ paid → p.wants ≡ [] → IsProperEnd (entered new loaded far p)
entered_ends new loaded far p phase settled debt wants =
    record {
      scan = refl;
      refill =
          ap (λ debt. is_empty new.local.at || (is_paid debt && not (gives_back new.local.phase))) debt
          ∙ ap (λ phase. is_empty new.local.at || not (gives_back phase)) phase ∙ or_true (is_empty new.local.at);
      want = ap wants_nothing wants;
      settled = settled;
    }
  where
    or_true : (b : Bool) → (b || true) ≡ true
    or_true true = refl
    or_true false = refl

-- its steps
steps_so :
    (old mid mid2 new : Seen) (lrs : ℕ) (fill : Fill) (ready loaded : Loaded) (failed : Bool) (scans : Scans old mid lrs fill) (claims : ClaimsAll mid mid2 fill ready loaded failed) (over : EndsScan mid2 new failed) → IsEntryPart old.actor (scans.part ++ (claims.part ++ over.part))
steps_so old mid mid2 new lrs fill ready loaded failed scans claims over =
    let first = scans.look ∷ scans.rest in
    let actor : mid2.actor ≡ old.actor = ap (λ (seen : Seen). seen.actor) claims.adds.new_is ∙ ap (λ (seen : Seen). seen.actor) scans.adds.new_is in
    record {
      look = scans.look;
      search = scans.rest;
      claims = claims.part;
      marks = over.marks;
      kick = over.kick;
      part_is =
          ap (λ first. first ++ (claims.part ++ over.part)) scans.part_is ∙ ap (λ last. first ++ (claims.part ++ last)) over.part_is ∙ sym (append_assoc first claims.part (over.marks ++ over.kick))
          ∙ sym (append_assoc (first ++ claims.part) over.marks over.kick);
      look_is = scans.look_is;
      search_is = scans.rest_is;
      claims_are = claims.steps_are;
      marks_are = over.marks_are;
      kick_is =
          over.kick_is ∙ ap (λ b. if b then Kick mid2.actor ∷ [] else []) claims.failed_is ∙ turned (all_hit claims.part) (Kick mid2.actor ∷ []) [] ∙ ap (λ actor. if all_hit claims.part then [] else Kick actor ∷ []) actor;
    }

pub enters_so :
    (old mid mid2 new : Seen) (vcpu : Shelved) (lrs : ℕ) (cpu : CpuRec) (fill : Fill) (ready loaded : Loaded) (failed : Bool) → 1 ≤ lrs → lrs ≤ 16 → IsOff old vcpu → Scans old mid lrs fill → cpu ≡ mid.local.cpu → IsReady vcpu cpu lrs fill ready → ClaimsAll mid mid2 fill ready loaded failed → EndsScan mid2 new failed
    → Enters old new vcpu lrs loaded
enters_so old mid mid2 new vcpu lrs cpu fill ready loaded failed some few off scans cpu_is is_ready claims over =
    let shape = shape_of old in
    let actor = old.actor in
    let late = claims.part ++ over.part in
    let part = scans.part ++ late in
    let adds : Adds old new part = adds_join old mid new scans.part late scans.adds (adds_join mid mid2 new claims.part over.part claims.adds over.adds) in
    let is = adds.new_is in
    let count : ready.regs.n ≡ lrs = ap (λ regs. regs.n) is_ready.regs in
    let on_claims = claims_on mid mid2 new fill lrs ready loaded failed count claims over in
    let so = ends_so old mid mid2 new vcpu lrs cpu fill ready loaded failed off scans cpu_is is_ready claims over in
    let start : Progress → Progress = λ p. claims_by mid (keys_chosen fill) (keys_of_both fill) (regs_of fill mid.local.cpu lrs) fill.trapping false p in
    let moves : IsTrue (are_moves actor (part_events old part))
    = moves_join old mid scans.part late scans.adds (ap (are_moves actor) scans.silent) (moves_join mid mid2 claims.part over.part claims.adds claims.moves (ap (are_moves mid2.actor) over.silent)) in
    let begins_with : (p : Progress) → Option Bool → Progress = λ p far. record (begun false p) { far = far } in
    let proper : (p : Progress) → MayEnter old lrs p → IsProper shape actor p (map makes part)
    = λ p may. let on = scans.goes_on p may in
    two_proper shape actor p (start (begins_with p on.far)) scans.part late (scans.proper p may) on.is (same_proper old mid scans.part late (start (begins_with p on.far)) scans.adds (on_claims.proper (begins_with p on.far))) in
    let goes_on : (p : Progress) → MayEnter old lrs p → HasEntered new loaded p (progress_of shape actor p (map makes part))
    = λ p may. let on = scans.goes_on p may in
    record {
      far = on.far;
      is =
          two_on shape actor p scans.part late
          ∙ ap (λ q. progress_of shape actor q (map makes late)) on.is
          ∙ same_progress old mid scans.part late (start (begins_with p on.far)) scans.adds
          ∙ on_claims.goes_on (begins_with p on.far)
          ∙ ap (λ trapping. record (told_by new (begins_with p on.far)) { scan = idle; regs = loaded.regs; trapping = trapping; failed = false }) (sym so.trapping);
    } in
    let as_before : CpuRec → CpuRec = λ cpu. record cpu { lpis = old.local.cpu.lpis } in
    let answer : Option ℕ = None in
    let beside : Beside = record { maps = maps_taken part; targets = λ id. None; commands = []; signals = false } in
    let Call : Option ℕ → Type 0 = λ actor. IsCall shape beside actor Residence (part_events old part) answer in
    let is_vcpu_so : vcpu_of_actor shape actor ≡ Some actor = ap (λ b. if b then Some actor else None) off.actor.is_one in
    let begin : Progress → Progress = λ p. record p { operation = Some Residence; lrs = lrs; far = None } in
    let may_begin : (p : Progress) → IsBetween old p → MayEnter old lrs (begin p)
    = λ p between. record { idle = record { local = between.rest.local; own = between.rest.own; scan = between.rest.scan }; near = refl; lrs_is = refl; none_failed = between.none_failed } in
    record {
      part = part;
      adds = adds;
      steps = steps_so old mid mid2 new lrs fill ready loaded failed scans claims over;
      none_taken = none_append scans.part late scans.none_taken (none_append claims.part over.part claims.none_taken over.none_taken);
      looks =
          (let first = scans.looks in
          let looks_all = looks_append scans.part late in
          let looks_late = looks_append claims.part over.part in
          let bits_all = taken_append scans.part late in
          let bits_late = taken_append claims.part over.part in
          let claims_none = quiet_none claims.part claims.quiet in
          let over_none = quiet_none over.part over.quiet in
          let a = claims_none.0 in
          let b = claims_none.1 in
          let c = over_none.0 in
          let d = over_none.1 in
          omega (arith, first, looks_all, looks_late, bits_all, bits_late, a, b, c, d));
      moves = moves;
      call = record { beside = beside; maps = refl; signals = refl; call = subst Call (sym is_vcpu_so) (moves_unnamed actor (part_events old part) moves, refl) };
      proper = proper;
      goes_on = goes_on;
      whole_part = λ p between.
          let may = may_begin p between in (
            tt,
            (proper_append shape actor (begin p) (map makes part) (ends None ∷ [])).1
                (proper (begin p) may, (let on = goes_on (begin p) may in subst IsProperEnd (sym on.is) (entered_ends new loaded on.far (begin p) so.phase so.settled between.debt between.rest.wants), tt)),
          );
      up =
          record {
            on =
                record {
                  actor =
                      record {
                        guest = ap (λ seen. seen.number) is ∙ off.actor.guest ∙ sym (ap (λ base. base.guest) so.base);
                        number = ap (λ seen. seen.actor) is ∙ off.actor.number ∙ sym (ap (λ base. base.vcpu) so.base);
                        is_one = ap (λ seen. is_vcpu (shape_of seen) seen.actor) is ∙ off.actor.is_one;
                      };
                  stands = so.stands;
                  cpu = so.cpu;
                  whole = so.whole;
                  settled = so.settled;
                };
            lrs = (subst (λ n. 1 ≤ n) (sym so.count) some, subst (λ n. n ≤ 16) (sym so.count) few);
            ready = ap may_access so.phase;
            free = λ none. subst IsOpen (sym so.hcr) (plan_opens mid lrs fill scans.plan (sym so.trapping ∙ none));
            bare = λ all. so.bare (sym so.trapping ∙ all);
          };
      lrs_is = so.count;
      cpu = ap as_before (ap (λ local. local.cpu) over.same ∙ ap (λ local. local.cpu) claims.same) ∙ scans.cpu;
      kept = so.base;
    }
