-- The scan of trap mode.
use Rattle.std.proofs.Common.{◌≡◌, ℕ, ◌<◌, ◌≤◌, ◌==◌, ◌&&◌, ◌||◌, not, Bool, true, false, IsTrue, List, [], ◌∷◌, ◌++◌, map, length, replicate, Option, Some, None, is_none, option_to_list, slice_get, slice_set, IfSome, Contains, inl, refl, sym, ap, subst, ◌∙◌, arith}
use Rattle.std.specs.List.{list_all}
use Rattle.std.specs.Option.{option_map}
use Rattle.std.proofs.lemmas.Bool.{and_parts, ltb-true}
use Rattle.std.proofs.lemmas.List.Elements.{All-nil, All-contains}
use Rattle.pe_loop.specs.Words.{Key, GuestShape, IsShape}
use Rattle.pe_loop.specs.Calls.{Operation, named_of}
use Rattle.pe_loop.specs.Lists.{IchRegs, StandFor, Pending, Both, packed as packed_entry, Kept, StandsFor, Choice, Offer, FitsRegister, deliverable_among, first_among, is_deliverable_to, chosen_as, entry_of, held_as}
use Rattle.pe_loop.specs.Registers.{CpuRec}
use Rattle.pe_loop.proofs.VcpuRefill.EarnedLemmas.{from_ordered}
use Rattle.pe_loop.proofs.VcpuRefill.ElementLemmas.{Contains-here}
use Rattle.pe_loop.proofs.VcpuRefill.StandLemmas.{stands_chosen}
use Rattle.pe_loop.specs.VcpuState.declared.loaded.Loaded.{Loaded}
use Rattle.pe_loop.specs.VcpuState.declared.shelved.Shelved.{Shelved}
use Rattle.pe_loop.specs.VcpuState.Moves.{shelved_of}
use Rattle.pe_loop.specs.Core.{AtIrq, Local, Phase, Off, Scanning, Claiming, Loaded as LoadedPhase, Folding, Made, CoreStep, TakeIndex, interface_of, local_after, shown, is_ready, may_take_index, succeeds, entry_for, has_no_cand, is_vcpu, owes_no_kick, owes_no_mark, owes_nothing, index_words, Seen, Adds, shape_of, part_events, IsAtRest, makes, Progress, Debt, scan_on, stepped, progress_of, IsProper, IsProperStep, is_empty, is_settled, alone, Scan, trapped, idle, is_idle, taking, word_taken}
use Rattle.pe_loop.proofs.PortCore.PortLemmas.{adds_join}
use Rattle.pe_loop.specs.CoreProper.Progress.{changed_by}
use Rattle.pe_loop.proofs.PortCall.PieceLemmas.{idle_is, scan_free, seen_nil}
use Rattle.pe_loop.proofs.PortCall.TryLemmas.{none_append}
use Rattle.pe_loop.proofs.PortCall.TurnLemmas.{events_then}
use Rattle.pe_loop.specs.Claiming.{IsRight, IsClaimable, ClaimsSome, IsNoneOf, at_of, choice_left, claims_by, is_whole, loaded_with, regs_left}
use Rattle.pe_loop.specs.declared.claims.Claimed.{Claimed}
use Rattle.pe_loop.specs.declared.claims.Claimed.TheVariants.{Whole, Bare, Missed}
use Rattle.pe_loop.specs.Enter.{EndsScan}
use Rattle.pe_loop.specs.Scanning.{phase_taken, IsScanAt, IsFound, AreFound, Rounds}
use Rattle.pe_loop.specs.Stay.{IsOn, IsUp}
use Rattle.pe_loop.proofs.MoveLemmas.{both_moves, moves_unnamed}
use Rattle.pe_loop.proofs.LeaveLemmas.{settled_owes}
use Rattle.pe_loop.proofs.PlanLemmas.{fits_offer}
use Rattle.pe_loop.proofs.StoreLemmas.{chosen_live}
use Rattle.pe_icc.specs.Amid.{IsAble, Leads}
use Rattle.pe_icc.specs.First.{IsFirst, CanClaimFirst, with_first, ClaimsFirst, HasScanned, ScansFirst}
use Rattle.pe_icc.specs.Prepare.{emptied}
use Rattle.pe_icc.proofs.AloneLemmas.{emptied_alone, empty_stands, missed_alone, single_stands}
use Rattle.pe_icc.proofs.AmidLemmas.{leads_then}

-- The claim.

first_right : (seen : Seen) (offer : Offer) → IsFirst seen offer → IsRight (shape_of seen) seen.actor seen.local.cpu (chosen_as Pending offer)
first_right seen offer is = record { state = inl (refl, is.deliverable); both = λ e. absurd (cc) }

pub can_claim_first : (seen : Seen) (vcpu : Loaded) (offer : Offer) (choice : Choice) → CanClaimFirst seen vcpu (Some offer) → choice ≡ chosen_as Pending offer → IsClaimable seen choice
can_claim_first seen vcpu offer choice can is =
    let first : IsFirst seen offer = can.is in
    subst (IsClaimable seen) (sym is)
    (record {
      vcpu = can.vcpu_is;
      found = first.found;
      right = first_right seen offer first;
      free = ap (entry_for offer.key) can.empty;
      room = (let none : length seen.local.at ≡ 0 = ap length can.empty in omega (arith, none));
    })

none_else : (key : Key) → IsNoneOf key []
none_else key = record { each = All-nil _ }

pub none_claimed : (seen : Seen) (vcpu : Loaded) → CanClaimFirst seen vcpu None → ClaimsFirst seen seen vcpu vcpu None false
none_claimed seen vcpu can =
    let interface : interface_of seen.local ≡ record { cpu = seen.local.cpu; at = [] } = ap (λ at. record { cpu = seen.local.cpu; at = map shown at }) can.empty in
    record {
      part = [];
      adds = record { new_is = sym (seen_nil seen) };
      none_taken = refl;
      moves = refl;
      local_is = refl;
      whole = ap (list_all (λ at. not at.given)) can.empty;
      same = refl;
      stands =
          subst (StandFor vcpu.regs vcpu.held) (sym interface)
          (subst (λ held. StandFor vcpu.regs held (record { cpu = seen.local.cpu; at = [] })) (sym can.held) (subst (λ regs. StandFor regs (replicate 16 None) (record { cpu = seen.local.cpu; at = [] })) (sym can.regs) (empty_stands vcpu.regs.n seen.local.cpu)));
      proper = λ trapping p. tt;
      goes_on = λ trapping p. ap (λ regs. claims_by seen [] [] regs trapping false p) (sym can.regs);
    }

-- what came of it
record FirstCame (old new : Seen) (before after : Loaded) (choice : Choice) (failed : Bool) (claimed : Claimed) : Type 0 where
  failed_is : failed ≡ not (is_whole claimed)
  same : record after { regs = record after.regs { lr = before.regs.lr }; held = before.held } ≡ before
  regs : regs_left claimed choice.key (alone (Some choice) old.local.cpu before.regs.n) ≡ after.regs
  stands : StandFor after.regs after.held (record { cpu = old.local.cpu; at = map shown (option_to_list (option_map at_of (choice_left claimed choice))) })
  whole : IsTrue (list_all (λ at. not at.given) (option_to_list (option_map at_of (choice_left claimed choice))))

came : (old new : Seen) (before after : Loaded) (offer : Offer) (failed : Bool) → IsShape (shape_of old) → CanClaimFirst old before (Some offer) → (claims : ClaimsSome old new 0 (chosen_as Pending offer) before after failed) → FirstCame old new before after (chosen_as Pending offer) failed claims.claimed
came old new before after offer failed good can claims = of claims.claimed claims.loaded claims.failed_is claims.chosen.bare
  where
    choice : Choice
    choice = chosen_as Pending offer

    cpu : CpuRec
    cpu = old.local.cpu

    n : ℕ
    n = before.regs.n

    first : IsFirst old offer
    first = can.is

    fits : FitsRegister offer
    fits = fits_offer old offer good first.found

    with_word : IchRegs → IchRegs
    with_word regs = record regs { lr = packed_entry choice.entry ∷ replicate 15 0 }

    of : (claimed : Claimed) → after ≡ loaded_with 0 (choice_left claimed choice) before → failed ≡ not (is_whole claimed) → (claimed ≡ Bare → choice.entry.state ≡ Both) → FirstCame old new before after choice failed claimed
    of Whole is failed_is bare =
        let lr : before.regs.lr ≡ replicate 16 0 = ap (λ (regs : IchRegs). regs.lr) can.regs in
        let regs : after.regs ≡ alone (Some choice) cpu n
        = ap (λ (vcpu : Loaded). vcpu.regs) is ∙ ap (λ lr. record before.regs { lr = slice_set lr 0 (packed_entry choice.entry) }) lr ∙ ap with_word can.regs in
        let held : after.held ≡ Some (held_as choice) ∷ replicate 15 None = ap (λ (vcpu : Loaded). vcpu.held) is ∙ ap (λ held. slice_set held 0 (Some (held_as choice))) can.held in
        record {
          failed_is = failed_is;
          same = ap (λ (vcpu : Loaded). record vcpu { regs = record vcpu.regs { lr = before.regs.lr }; held = before.held }) is;
          regs = sym regs;
          stands =
              subst (λ held. StandFor after.regs held (record { cpu = cpu; at = entry_of choice ∷ [] })) (sym held)
              (subst (λ regs. StandFor regs (Some (held_as choice) ∷ replicate 15 None) (record { cpu = cpu; at = entry_of choice ∷ [] })) (sym regs) (single_stands n cpu choice can.lrs fits refl));
          whole = refl;
        }
    of Bare is failed_is bare = absurd (none (bare refl))
      where
        none : Pending ≡ Both → ⊥
        none e = cc
    of Missed is failed_is bare =
        let live = chosen_live (shape_of old) old choice (first_right old offer first) (stands_chosen choice fits refl) in
        record {
          failed_is = failed_is;
          same = ap (λ (vcpu : Loaded). record vcpu { regs = record vcpu.regs { lr = before.regs.lr }; held = before.held }) is;
          regs = missed_alone n cpu choice can.lrs live ∙ sym can.regs ∙ sym (ap (λ (vcpu : Loaded). vcpu.regs) is);
          stands =
              subst (λ (vcpu : Loaded). StandFor vcpu.regs vcpu.held (record { cpu = cpu; at = [] })) (sym is)
              (subst (λ held. StandFor before.regs held (record { cpu = cpu; at = [] })) (sym can.held) (subst (λ regs. StandFor regs (replicate 16 None) (record { cpu = cpu; at = [] })) (sym can.regs) (empty_stands n cpu)));
          whole = refl;
        }

pub some_claimed : (old new : Seen) (before after : Loaded) (offer : Offer) (failed : Bool) → IsShape (shape_of old) → CanClaimFirst old before (Some offer) → ClaimsSome old new 0 (chosen_as Pending offer) before after failed → ClaimsFirst old new before after (Some offer) failed
some_claimed old new before after offer failed good can claims =
    let choice = chosen_as Pending offer in
    let chosen = claims.chosen in
    let so = came old new before after offer failed good can claims in
    let come : List AtIrq = option_to_list (option_map at_of (choice_left claims.claimed choice)) in
    let at : new.local.at ≡ come = chosen.at ∙ ap (λ at. at ++ come) can.empty in
    let cpu : new.local.cpu ≡ old.local.cpu = ap (λ (local : Local). local.cpu) chosen.same in
    let interface : interface_of new.local ≡ record { cpu = old.local.cpu; at = map shown come } = ap (λ at. record { cpu = new.local.cpu; at = map shown at }) at ∙ ap (λ cpu. record { cpu = cpu; at = map shown come }) cpu in
    record {
      part = chosen.part;
      adds = chosen.adds;
      none_taken = chosen.none_taken;
      moves = moves_unnamed old.actor (part_events old chosen.part) chosen.moves;
      local_is = chosen.same;
      whole = ap (list_all (λ at. not at.given)) at ∙ so.whole;
      same = so.same;
      stands = subst (StandFor after.regs after.held) (sym interface) so.stands;
      proper = λ trapping p. chosen.proper [] [] (with_first old before.regs.n (Some offer)) trapping false p (none_else offer.key) (none_else offer.key);
      goes_on = λ trapping p.
          chosen.goes_on [] [] (with_first old before.regs.n (Some offer)) trapping false p (none_else offer.key) (none_else offer.key)
          ∙ ap (λ regs. claims_by new [] [] regs trapping (not (is_whole claims.claimed)) p) so.regs
          ∙ ap (λ failed. claims_by new [] [] after.regs trapping failed p) (sym so.failed_is);
    }

-- The index, in trap mode.

-- a scan of trap mode, before its first word
abbrev trapped_start : Progress → Progress
trapped_start p = record p { scan = taking trapped 0; scanned = true }

-- a step by what it is
abbrev stepped_by : GuestShape → ℕ → Made → CoreStep → Progress → Progress
stepped_by shape actor made step p =
    let done = succeeds shape actor p.local step made.found in
    let after = changed_by shape actor step made.found done p in
    scan_on shape actor (record after { local = local_after shape actor p.local step made.found; own = p.own ++ made ∷ [] })

first_stepped : (shape : GuestShape) (actor : ℕ) (made : Made) (p : Progress) → made.step ≡ TakeIndex 0 → p.scan ≡ idle → stepped shape actor made p ≡ stepped shape actor made (trapped_start p)
first_stepped shape actor made p is e =
    let local = local_after shape actor p.local (TakeIndex 0) made.found in
    let make : Scan → Bool → Progress = λ scan scanned. scan_on shape actor (record p { scan = scan; scanned = scanned; local = local; own = p.own ++ made ∷ [] }) in
    ap (λ step. stepped_by shape actor made step p) is
    ∙ ap (λ scan. make (word_taken scan) (p.scanned || is_idle scan)) e
    ∙ ap (make (taking trapped 1)) (or_true p.scanned)
    ∙ sym (ap (λ step. stepped_by shape actor made step (trapped_start p)) is)
  where
    or_true : (b : Bool) → (b || true) ≡ true
    or_true true = refl
    or_true false = refl

first_proper : (old : Seen) (p : Progress) (step : CoreStep) → step ≡ TakeIndex 0 → IsAtRest old p → p.trapping ≡ true → old.local.at ≡ [] → IsProperStep (shape_of old) old.actor p step
first_proper old p step is rest trapping empty =
    let e = idle_is p.scan rest.scan in
    subst (IsProperStep (shape_of old) old.actor p) (sym is)
    (record {
      scan = scan_free (shape_of old) old.actor p (TakeIndex 0) e;
      trap =
          ap (λ scan. not (is_idle scan) || (p.trapping && (0 == 0) && is_empty p.local.at)) e
          ∙ ap (λ trapping. trapping && (0 == 0) && is_empty p.local.at) trapping
          ∙ ap (λ (local : Local). is_empty local.at) rest.local
          ∙ ap is_empty empty;
      failed = refl;
      far = refl;
      refill = refl;
      want = refl;
      seen = refl;
    })

round_proper : (old new : Seen) (lrs : ℕ) (kept : Kept) (round : Rounds old new lrs kept) (p : Progress) → IsAtRest old p → p.trapping ≡ true → old.local.at ≡ [] → IsProper (shape_of old) old.actor p (map makes round.part)
round_proper old new lrs kept round p rest trapping empty =
    let shape = shape_of old in
    let actor = old.actor in
    let from = round.from_index in
    let q = trapped_start p in
    let at : IsScanAt old q (taking trapped 0) = record { local = rest.local; own = rest.own; is = refl } in
    let proper_q : IsProper shape actor q (map makes (from.first ∷ from.rest)) = subst (λ part. IsProper shape actor q (map makes part)) from.part_is (round.proper trapped q at) in
    let same = first_stepped shape actor from.first p from.first_is (idle_is p.scan rest.scan) in
    subst (λ part. IsProper shape actor p (map makes part)) (sym from.part_is)
    (first_proper old p from.first.step from.first_is rest trapping empty, subst (λ r. IsProper shape actor r (map makes from.rest)) (sym same) proper_q.1)

round_same : (old new : Seen) (lrs : ℕ) (kept : Kept) (round : Rounds old new lrs kept) (p : Progress) → IsAtRest old p → progress_of (shape_of old) old.actor p (map makes round.part) ≡ progress_of (shape_of old) old.actor (trapped_start p) (map makes round.part)
round_same old new lrs kept round p rest =
    let shape = shape_of old in
    let actor = old.actor in
    let from = round.from_index in
    ap (λ part. progress_of shape actor p (map makes part)) from.part_is
    ∙ ap (λ r. progress_of shape actor r (map makes from.rest)) (first_stepped shape actor from.first p from.first_is (idle_is p.scan rest.scan))
    ∙ sym (ap (λ part. progress_of shape actor (trapped_start p) (map makes part)) from.part_is)

-- how far the vCPU is once it looked, and once it claimed
record IsChosen (old mid : Seen) (vcpu : Loaded) (operation : Operation) (debt : Debt) (first : Option Offer) (q : Progress) : Type 0 where
  from : Progress
  able : IsAble old vcpu operation debt from
  far : Option Bool
  is : q ≡ claims_by mid (option_to_list (option_map (λ offer. offer.key) first)) [] (with_first mid vcpu.regs.n first) from.trapping false (record (trapped_start from) { far = far })

record IsOver (old mid : Seen) (vcpu : Loaded) (operation : Operation) (debt : Debt) (regs : IchRegs) (failed : Bool) (q : Progress) : Type 0 where
  from : Progress
  able : IsAble old vcpu operation debt from
  far : Option Bool
  is : q ≡ claims_by mid [] [] regs from.trapping failed (record (trapped_start from) { far = far })

round_leads : (old mid : Seen) (vcpu : Loaded) (kept : Kept) (round : Rounds old mid vcpu.regs.n kept) (first : Option Offer) → first ≡ first_among round.offers mid.actor mid.local.cpu (shape_of mid) → vcpu.trapping ≡ true → old.local.at ≡ [] → (operation : Operation) (debt : Debt)
    → Leads old round.part (IsAble old vcpu operation debt) (IsChosen old mid vcpu operation debt first)
round_leads old mid vcpu kept round first first_is trapping empty operation debt =
    record {
      proper = λ p able. round_proper old mid vcpu.regs.n kept round p able.amid.rest (able.trapping ∙ trapping) empty;
      after = λ p able.
          let q = trapped_start p in
          let at : IsScanAt old q (taking trapped 0) = record { local = able.amid.rest.local; own = able.amid.rest.own; is = refl } in
          let on = round.goes_on trapped q at in
          let claims : Option Offer → ℕ → Bool → Progress = λ first n failed. claims_by mid (option_to_list (option_map (λ offer. offer.key) first)) [] (with_first mid n first) p.trapping failed (record q { far = on.far }) in
          record {
            from = p;
            able = able;
            far = on.far;
            is =
                round_same old mid vcpu.regs.n kept round p able.amid.rest
                ∙ on.is
                ∙ ap (λ first. claims first p.lrs p.failed) (sym first_is)
                ∙ ap (λ n. claims first n p.failed) able.amid.lrs_is
                ∙ ap (claims first vcpu.regs.n) able.amid.none_failed;
          };
    }

claim_leads : (old mid mid2 : Seen) (vcpu before after : Loaded) (first : Option Offer) (failed : Bool) (claims : ClaimsFirst mid mid2 before after first failed) (operation : Operation) (debt : Debt) → before.regs.n ≡ vcpu.regs.n
    → Leads mid claims.part (IsChosen old mid vcpu operation debt first) (IsOver old mid2 vcpu operation debt after.regs failed)
claim_leads old mid mid2 vcpu before after first failed claims operation debt count =
    let chosen : ℕ → Bool → Progress → Progress = λ n trapping p. claims_by mid (option_to_list (option_map (λ offer. offer.key) first)) [] (with_first mid n first) trapping false p in
    let start : Progress → Option Bool → Progress = λ p far. record (trapped_start p) { far = far } in
    record {
      proper = λ q so.
          subst (λ q. IsProper (shape_of mid) mid.actor q (map makes claims.part)) (sym (so.is ∙ ap (λ n. chosen n so.from.trapping (start so.from so.far)) (sym count))) (claims.proper so.from.trapping (start so.from so.far));
      after = λ q so. record {
        from = so.from;
        able = so.able;
        far = so.far;
        is =
            ap (λ q. progress_of (shape_of mid) mid.actor q (map makes claims.part)) (so.is ∙ ap (λ n. chosen n so.from.trapping (start so.from so.far)) (sym count))
            ∙ claims.goes_on so.from.trapping (start so.from so.far);
      };
    }

over_leads : (old mid2 new : Seen) (vcpu after : Loaded) (failed : Bool) (over : EndsScan mid2 new failed) (operation : Operation) (debt : Debt) → after.regs.n ≡ vcpu.regs.n → after.trapping ≡ vcpu.trapping
    → Leads mid2 over.part (IsOver old mid2 vcpu operation debt after.regs failed) (HasScanned new after operation debt)
over_leads old mid2 new vcpu after failed over operation debt count trapping =
    let start : Progress → Option Bool → Progress = λ p far. record (trapped_start p) { far = far } in
    record {
      proper = λ q so. subst (λ q. IsProper (shape_of mid2) mid2.actor q (map makes over.part)) (sym so.is) (over.proper after.regs so.from.trapping (start so.from so.far));
      after = λ q so.
          let amid = so.able.amid in
          subst (HasScanned new after operation debt) (sym (ap (λ q. progress_of (shape_of mid2) mid2.actor q (map makes over.part)) so.is ∙ over.goes_on after.regs so.from.trapping (start so.from so.far)))
          (record {
            able =
                record {
                  amid =
                      record {
                        rest = record { local = refl; own = refl; scan = refl; wants = amid.rest.wants };
                        operation_is = amid.operation_is;
                        lrs_is = amid.lrs_is ∙ sym count;
                        none_failed = refl;
                        debt_is = amid.debt_is;
                      };
                  regs = refl;
                  trapping = so.able.trapping ∙ sym trapping;
                };
            scanned = refl;
          });
    }

-- What is first.

head_among : (offers : List Offer) (offer : Offer) → slice_get offers 0 ≡ Some offer → Contains offers offer
head_among [] offer e = absurd (cc)
head_among (one ∷ rest) offer e = let same : one ≡ offer = cc in subst (Contains (one ∷ rest)) same (Contains-here one rest)

first_so : (seen : Seen) (offers : List Offer) → AreFound seen offers → (first : Option Offer) → first ≡ first_among offers seen.actor seen.local.cpu (shape_of seen) → IfSome first (IsFirst seen)
first_so seen offers found None is = tt
first_so seen offers found (Some offer) is =
    let test = is_deliverable_to seen.actor seen.local.cpu (shape_of seen) in
    let among = from_ordered test offers offer (head_among (deliverable_among offers seen.actor seen.local.cpu (shape_of seen)) offer (sym is)) in
    record { found = All-contains (IsFound seen) offers offer found.each among.0; deliverable = among.1 }

pub ready_takes : (phase : Phase) → IsTrue (is_ready phase) → IsTrue (may_take_index phase)
ready_takes Off ready = absurd (cc)
ready_takes Scanning ready = refl
ready_takes Claiming ready = refl
ready_takes LoadedPhase ready = refl
ready_takes Folding ready = absurd (cc)

ready_kept : (shape : GuestShape) (words : ℕ) (phase : Phase) → IsTrue (is_ready phase) → IsTrue (is_ready (phase_taken shape words phase))
ready_kept shape words Off ready = absurd (cc)
ready_kept shape words Scanning ready = absurd (cc)
ready_kept shape words Claiming ready = refl
ready_kept shape words LoadedPhase ready = refl
ready_kept shape words Folding ready = absurd (cc)

pub is_first_among : (old mid : Seen) (vcpu : Loaded) (kept : Kept) (round : Rounds old mid vcpu.regs.n kept) (first : Option Offer) → is_vcpu (shape_of mid) mid.actor ≡ true
    → ((cpu : CpuRec) (offers : List Offer) → StandsFor kept cpu offers → (shape : GuestShape) → kept.vcpu < shape.vcpus → first ≡ first_among offers kept.vcpu cpu shape) → first ≡ first_among round.offers mid.actor mid.local.cpu (shape_of mid)
is_first_among old mid vcpu kept round first one value =
    let less : mid.actor < (shape_of mid).vcpus = ltb-true mid.actor (shape_of mid).vcpus one in
    value mid.local.cpu round.offers round.stands (shape_of mid) (subst (λ vcpu. vcpu < (shape_of mid).vcpus) (sym round.vcpu_is) less)
    ∙ ap (λ vcpu. first_among round.offers vcpu mid.local.cpu (shape_of mid)) round.vcpu_is

pub still_vcpu : (old mid : Seen) (part : List Made) → Adds old mid part → is_vcpu (shape_of old) old.actor ≡ true → is_vcpu (shape_of mid) mid.actor ≡ true
still_vcpu old mid part add one = ap (λ seen. is_vcpu (shape_of seen) seen.actor) add.new_is ∙ one

pub may_claim_first : (old mid : Seen) (vcpu bare : Loaded) (kept : Kept) (round : Rounds old mid vcpu.regs.n kept) (first : Option Offer) → IsUp old vcpu → vcpu.trapping ≡ true → bare ≡ emptied vcpu → first ≡ first_among round.offers mid.actor mid.local.cpu (shape_of mid) → CanClaimFirst mid bare first
may_claim_first old mid vcpu bare kept round first up trapping bare_is first_is =
    let cpu : mid.local.cpu ≡ old.local.cpu = ap (λ (local : Local). local.cpu) round.same in
    let count : bare.regs.n ≡ vcpu.regs.n = ap (λ (vcpu : Loaded). vcpu.regs.n) bare_is in
    record {
      vcpu_is = still_vcpu old mid round.part round.adds up.on.actor.is_one;
      lrs = subst (λ n. 1 ≤ n) (sym count) up.lrs.0;
      empty = ap (λ (local : Local). local.at) round.same ∙ up.bare trapping;
      regs =
          ap (λ (vcpu : Loaded). vcpu.regs) bare_is ∙ emptied_alone vcpu old.local.cpu up.on.stands.holds
          ∙ ap (λ cpu. alone None cpu vcpu.regs.n) (sym cpu) ∙ ap (alone None mid.local.cpu) (sym count);
      held = ap (λ (vcpu : Loaded). vcpu.held) bare_is;
      is = first_so mid round.offers round.found first first_is;
    }

-- the marks and kicks of the actor
first_settled : (old mid mid2 new : Seen) (vcpu before after : Loaded) (kept : Kept) (first : Option Offer) (failed : Bool) → IsOn old vcpu → Rounds old mid vcpu.regs.n kept → ClaimsFirst mid mid2 before after first failed → EndsScan mid2 new failed → IsTrue (is_settled new.local)
first_settled old mid mid2 new vcpu before after kept first failed on round claims over =
    let with_marks = and_parts (owes_no_kick old.local && owes_no_mark old.local) (has_no_cand old.local) (settled_owes old.local on.settled) in
    let parts = and_parts (owes_no_kick old.local) (owes_no_mark old.local) with_marks.0 in
    let line = and_parts (owes_nothing old.local && not old.local.turn && not old.local.ctlr) (is_none old.local.line) on.settled in
    let ctlr = and_parts (owes_nothing old.local && not old.local.turn) (not old.local.ctlr) line.0 in
    let turn = and_parts (owes_nothing old.local) (not old.local.turn) ctlr.0 in
    let kicks : IsTrue (owes_no_kick new.local) = over.owes (ap owes_no_kick claims.local_is ∙ ap owes_no_kick round.same ∙ parts.0) in
    let marks : IsTrue (owes_no_mark new.local) = ap owes_no_mark over.same ∙ ap owes_no_mark claims.local_is ∙ ap owes_no_mark round.same ∙ parts.1 in
    let no_turn : IsTrue (not new.local.turn) = ap (λ (local : Local). not local.turn) over.same ∙ ap (λ (local : Local). not local.turn) claims.local_is ∙ ap (λ (local : Local). not local.turn) round.same ∙ turn.1 in
    let no_ctlr : IsTrue (not new.local.ctlr) = ap (λ (local : Local). not local.ctlr) over.same ∙ ap (λ (local : Local). not local.ctlr) claims.local_is ∙ ap (λ (local : Local). not local.ctlr) round.same ∙ ctlr.1 in
    let no_line : IsTrue (is_none new.local.line) = ap (λ (local : Local). is_none local.line) over.same ∙ ap (λ (local : Local). is_none local.line) claims.local_is ∙ ap (λ (local : Local). is_none local.line) round.same ∙ line.1 in
    all_true (owes_no_kick new.local) (owes_no_mark new.local) (has_no_cand new.local) (not new.local.turn) (not new.local.ctlr) (is_none new.local.line) kicks marks over.none no_turn no_ctlr no_line
  where
    all_true : (a b c d e f : Bool) → IsTrue a → IsTrue b → IsTrue c → IsTrue d → IsTrue e → IsTrue f → IsTrue (((a && b) && c) && d && e && f)
    all_true a b c d e f h i j k l m = rw (h, i, j, k, l, m) refl

pub scans_first_so :
    (old mid mid2 new : Seen) (vcpu bare after : Loaded) (kept : Kept) (first : Option Offer) (failed : Bool) → IsUp old vcpu → vcpu.trapping ≡ true → (round : Rounds old mid vcpu.regs.n kept) → bare ≡ emptied vcpu → first ≡ first_among round.offers mid.actor mid.local.cpu (shape_of mid)
    → ClaimsFirst mid mid2 bare after first failed → EndsScan mid2 new failed → ScansFirst old new vcpu after
scans_first_so old mid mid2 new vcpu bare after kept first failed up trapping round bare_is first_is claims over =
    let late = claims.part ++ over.part in
    let adds_late : Adds mid new late = adds_join mid mid2 new claims.part over.part claims.adds over.adds in
    let adds : Adds old new (round.part ++ late) = adds_join old mid new round.part late round.adds adds_late in
    let mid_actor : mid.actor ≡ old.actor = ap (λ (seen : Seen). seen.actor) round.adds.new_is in
    let base : after.base ≡ vcpu.base = ap (λ (vcpu : Loaded). vcpu.base) claims.same ∙ ap (λ (vcpu : Loaded). vcpu.base) bare_is in
    let count : after.regs.n ≡ vcpu.regs.n = ap (λ (vcpu : Loaded). vcpu.regs.n) claims.same ∙ ap (λ (vcpu : Loaded). vcpu.regs.n) bare_is in
    let same_trapping : after.trapping ≡ vcpu.trapping = ap (λ (vcpu : Loaded). vcpu.trapping) claims.same ∙ ap (λ (vcpu : Loaded). vcpu.trapping) bare_is in
    let cpu : new.local.cpu ≡ old.local.cpu = ap (λ (local : Local). local.cpu) over.same ∙ ap (λ (local : Local). local.cpu) claims.local_is ∙ ap (λ (local : Local). local.cpu) round.same in
    let with_cpu : Shelved → Shelved = λ base. record base { cpu = vcpu.base.cpu } in
    record {
      part = round.part ++ late;
      adds = adds;
      none_taken = none_append round.part late round.none_taken (none_append claims.part over.part claims.none_taken over.none_taken);
      moves =
          ap (named_of (Some old.actor)) (events_then old mid round.part late round.adds)
          ∙ both_moves (Some old.actor) (part_events old round.part) (part_events mid late) (ap (named_of (Some old.actor)) round.silent)
          (ap (λ actor. named_of (Some actor) (part_events mid late)) (sym mid_actor)
          ∙ ap (named_of (Some mid.actor)) (events_then mid mid2 claims.part over.part claims.adds)
          ∙ both_moves (Some mid.actor) (part_events mid claims.part) (part_events mid2 over.part) claims.moves (ap (named_of (Some mid.actor)) over.silent));
      set =
          record {
            on =
                record {
                  actor =
                      record {
                        guest = ap (λ (seen : Seen). seen.number) adds.new_is ∙ up.on.actor.guest ∙ sym (ap (λ (base : Shelved). base.guest) base);
                        number = ap (λ (seen : Seen). seen.actor) adds.new_is ∙ up.on.actor.number ∙ sym (ap (λ (base : Shelved). base.vcpu) base);
                        is_one = ap (λ seen. is_vcpu (shape_of seen) seen.actor) adds.new_is ∙ up.on.actor.is_one;
                      };
                  stands = subst (StandFor after.regs after.held) (sym (ap interface_of over.same)) claims.stands;
                  cpu = ap (λ vcpu. (shelved_of vcpu).cpu) claims.same ∙ ap (λ vcpu. (shelved_of vcpu).cpu) bare_is ∙ up.on.cpu ∙ sym cpu;
                  whole = ap (λ (local : Local). list_all (λ at. not at.given) local.at) over.same ∙ claims.whole;
                  settled = first_settled old mid mid2 new vcpu bare after kept first failed up.on round claims over;
                };
            lrs = (subst (λ n. 1 ≤ n) (sym count) up.lrs.0, subst (λ n. n ≤ 16) (sym count) up.lrs.1);
            ready =
                ap (λ (local : Local). is_ready local.phase) over.same ∙ ap (λ (local : Local). is_ready local.phase) claims.local_is ∙ ap is_ready round.phase
                ∙ ready_kept (shape_of old) (index_words (shape_of old)) old.local.phase up.ready;
            free = λ none. absurd (both after.trapping (same_trapping ∙ trapping) none);
          };
      same = record { base = ap with_cpu base; lrs = count };
      leads = λ operation debt.
          leads_then old mid round.part late (IsAble old vcpu operation debt) (IsChosen old mid vcpu operation debt first) (HasScanned new after operation debt) round.adds (round_leads old mid vcpu kept round first first_is trapping (up.bare trapping) operation debt)
          (leads_then mid mid2 claims.part over.part (IsChosen old mid vcpu operation debt first) (IsOver old mid2 vcpu operation debt after.regs failed) (HasScanned new after operation debt) claims.adds
          (claim_leads old mid mid2 vcpu bare after first failed claims operation debt (ap (λ (vcpu : Loaded). vcpu.regs.n) bare_is)) (over_leads old mid2 new vcpu after failed over operation debt count same_trapping));
    }
  where
    both : (b : Bool) → b ≡ true → b ≡ false → ⊥
    both b t f = cc
