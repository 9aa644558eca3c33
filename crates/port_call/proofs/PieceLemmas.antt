-- Pieces of a part, one after the other.
use Rattle.std.proofs.Common.{◌≡◌, ℕ, ◌==◌, ◌&&◌, ◌||◌, not, Bool, true, false, IsTrue, List, [], ◌∷◌, ◌++◌, map, Option, Some, None, option_map, append-nil, refl, sym, ap, subst, ◌∙◌}
use Rattle.std.proofs.lemmas.List.{map-append}
use Rattle.std.proofs.lemmas.List.Sums.{fold-append}
use Rattle.floor_core.specs.Words.{GuestShape}
use Rattle.floor_core.specs.Core.{Local, Entry, Made, CoreStep, Look, Raise, Claim, GiveBack, Release, Poll, Kick, Touch, Want, WireUp, WireDown, EnableLpis, RamLook, RamPut, CtlrTake, CtlrEnd, TurnTake, CommandDone, TurnRelease, Mark, TakeIndex, LineEnter, LineLeave, LineFill, LineClose, Irq, Vcpu, Index, Queue, Ctlr, Plain, Line, local_after, succeeds, Seen, shape_of, seen_after, IsAtRest, IsProperPart, begins, makes, ends, Progress, is_paid, scan_on, stepped, progressed, progress_of, is_empty, gives_back, wants_nothing, is_settled, IsProper, IsProperStep, IsProperEnd, keeps_scan, keeps_trap_scan, keeps_failed_claim, keeps_far_end, keeps_refill, keeps_want, keeps_seen, Scan, idle, taking, looking, claiming, is_idle, scan_allows}
use Rattle.floor_core.proofs.PortCore.PortLemmas.{seen_joins}
use Rattle.floor_core.specs.Calls.{Operation}
use Rattle.floor_core.specs.CoreProper.Progress.{changed_by}
use Rattle.floor_core.proofs.CoreProper.PartLemmas.{proper_append}
use Rattle.port_call.specs.Piece.{IsIdle, StaysSo, IsGoodPiece, IsPiece, IsRestedPiece, is_plain, goes_by_known}

-- no scan

pub idle_is : (scan : Scan) → IsTrue (is_idle scan) → scan ≡ idle
idle_is idle h = refl
idle_is (taking purpose words) h = absurd (cc)
idle_is (looking purpose from offers) h = absurd (cc)
idle_is (claiming claims takes) h = absurd (cc)

pub idle_on : (shape : GuestShape) (actor : ℕ) (p : Progress) → p.scan ≡ idle → scan_on shape actor p ≡ p
idle_on shape actor p e = let P : Scan → Type 0 = λ scan. scan_on shape actor (record p { scan = scan }) ≡ record p { scan = scan } in subst P (sym e) refl

-- A step.

-- what a plain step changes besides the actor's own state
record ChangesFailed (p after : Progress) : Type 0 where
  failed : Bool
  is : after ≡ record p { failed = failed }
  less : IsTrue failed → IsTrue p.failed

unchanged : (p after : Progress) → after ≡ p → ChangesFailed p after
unchanged p after e = record { failed = p.failed; is = e; less = λ h. h }

left : (a b : Bool) → IsTrue (a && b) → IsTrue a
left true b h = refl
left false b h = absurd (cc)

plain_changes : (shape : GuestShape) (actor : ℕ) (step : CoreStep) (found : ℕ) (done : Bool) (p : Progress) → IsTrue (is_plain step) → ChangesFailed p (changed_by shape actor step found done p)
plain_changes shape actor (Look (Irq key)) found done p h = absurd (cc)
plain_changes shape actor (Look (Vcpu v)) found done p h = unchanged p p refl
plain_changes shape actor (Look (Index v w)) found done p h = unchanged p p refl
plain_changes shape actor (Look Queue) found done p h = unchanged p p refl
plain_changes shape actor (Look Ctlr) found done p h = unchanged p p refl
plain_changes shape actor (Look (Plain i)) found done p h = unchanged p p refl
plain_changes shape actor (Look (Line n)) found done p h = unchanged p p refl
plain_changes shape actor (Claim key seen) found done p h = absurd (cc)
plain_changes shape actor (Poll reg write) found done p h = absurd (cc)
plain_changes shape actor (Touch key seen kind) found done p h = absurd (cc)
plain_changes shape actor (Want key) found done p h = absurd (cc)
plain_changes shape actor (TakeIndex word) found done p h = absurd (cc)
plain_changes shape actor (Kick v) found done p h = record { failed = p.failed && not (v == actor); is = refl; less = left p.failed _ }
plain_changes shape actor (Raise key) found done p h = unchanged p p refl
plain_changes shape actor (GiveBack key back) found done p h = unchanged p p refl
plain_changes shape actor (Release key) found done p h = unchanged p p refl
plain_changes shape actor (WireUp key) found done p h = unchanged p p refl
plain_changes shape actor (WireDown key) found done p h = unchanged p p refl
plain_changes shape actor (EnableLpis v) found done p h = unchanged p p refl
plain_changes shape actor (RamLook i) found done p h = unchanged p p refl
plain_changes shape actor (RamPut i seen value) found done p h = unchanged p p refl
plain_changes shape actor (CtlrTake seen value) found done p h = unchanged p p refl
plain_changes shape actor CtlrEnd found done p h = unchanged p p refl
plain_changes shape actor (TurnTake seen) found done p h = unchanged p p refl
plain_changes shape actor (CommandDone offset stalled ending) found done p h = absurd (cc)
plain_changes shape actor TurnRelease found done p h = unchanged p p refl
plain_changes shape actor (Mark key v) found done p h = unchanged p p refl
plain_changes shape actor (LineEnter n seen) found done p h = unchanged p p refl
plain_changes shape actor (LineLeave n) found done p h = unchanged p p refl
plain_changes shape actor (LineFill n device event lpi) found done p h = unchanged p p refl
plain_changes shape actor (LineClose n) found done p h = unchanged p p refl

-- the conditions of a step, but for the scan and the seen word
record IsFree (shape : GuestShape) (actor : ℕ) (p : Progress) (step : CoreStep) : Type 0 where
  trap : IsTrue (keeps_trap_scan p step)
  failed : IsTrue (keeps_failed_claim p step)
  far : IsTrue (keeps_far_end shape actor p step)
  refill : IsTrue (keeps_refill shape actor p step)
  want : IsTrue (keeps_want shape actor p step)

plain_is_free : (shape : GuestShape) (actor : ℕ) (p : Progress) (step : CoreStep) → IsTrue (is_plain step) → IsFree shape actor p step
plain_is_free shape actor p (Look word) h = record { trap = refl; failed = refl; far = refl; refill = refl; want = refl }
plain_is_free shape actor p (Claim key seen) h = absurd (cc)
plain_is_free shape actor p (Poll reg write) h = absurd (cc)
plain_is_free shape actor p (Touch key seen kind) h = absurd (cc)
plain_is_free shape actor p (Want key) h = absurd (cc)
plain_is_free shape actor p (TakeIndex word) h = absurd (cc)
plain_is_free shape actor p (Kick v) h = record { trap = refl; failed = refl; far = refl; refill = refl; want = refl }
plain_is_free shape actor p (Raise key) h = record { trap = refl; failed = refl; far = refl; refill = refl; want = refl }
plain_is_free shape actor p (GiveBack key back) h = record { trap = refl; failed = refl; far = refl; refill = refl; want = refl }
plain_is_free shape actor p (Release key) h = record { trap = refl; failed = refl; far = refl; refill = refl; want = refl }
plain_is_free shape actor p (WireUp key) h = record { trap = refl; failed = refl; far = refl; refill = refl; want = refl }
plain_is_free shape actor p (WireDown key) h = record { trap = refl; failed = refl; far = refl; refill = refl; want = refl }
plain_is_free shape actor p (EnableLpis v) h = record { trap = refl; failed = refl; far = refl; refill = refl; want = refl }
plain_is_free shape actor p (RamLook i) h = record { trap = refl; failed = refl; far = refl; refill = refl; want = refl }
plain_is_free shape actor p (RamPut i seen value) h = record { trap = refl; failed = refl; far = refl; refill = refl; want = refl }
plain_is_free shape actor p (CtlrTake seen value) h = record { trap = refl; failed = refl; far = refl; refill = refl; want = refl }
plain_is_free shape actor p CtlrEnd h = record { trap = refl; failed = refl; far = refl; refill = refl; want = refl }
plain_is_free shape actor p (TurnTake seen) h = record { trap = refl; failed = refl; far = refl; refill = refl; want = refl }
plain_is_free shape actor p (CommandDone offset stalled ending) h = absurd (cc)
plain_is_free shape actor p TurnRelease h = record { trap = refl; failed = refl; far = refl; refill = refl; want = refl }
plain_is_free shape actor p (Mark key v) h = record { trap = refl; failed = refl; far = refl; refill = refl; want = refl }
plain_is_free shape actor p (LineEnter n seen) h = record { trap = refl; failed = refl; far = refl; refill = refl; want = refl }
plain_is_free shape actor p (LineLeave n) h = record { trap = refl; failed = refl; far = refl; refill = refl; want = refl }
plain_is_free shape actor p (LineFill n device event lpi) h = record { trap = refl; failed = refl; far = refl; refill = refl; want = refl }
plain_is_free shape actor p (LineClose n) h = record { trap = refl; failed = refl; far = refl; refill = refl; want = refl }

pub scan_free : (shape : GuestShape) (actor : ℕ) (p : Progress) (step : CoreStep) → p.scan ≡ idle → IsTrue (keeps_scan shape actor p step)
scan_free shape actor p step e = let P : Scan → Type 0 = λ scan. IsTrue (scan_allows shape actor p.local scan step) in subst P (sym e) refl

plain_proper : (seen : Seen) (p : Progress) (step : CoreStep) → IsTrue (is_plain step) → IsTrue (goes_by_known seen step) → IsIdle seen p → IsProperStep (shape_of seen) seen.actor p step
plain_proper seen p step plain known is =
    let free = plain_is_free (shape_of seen) seen.actor p step plain in
    let own : List Made → Type 0 = λ own. IsTrue (keeps_seen (shape_of seen) seen.actor (record p { own = own }) step) in
    record {
      scan = scan_free (shape_of seen) seen.actor p step (idle_is p.scan is.scan);
      trap = free.trap;
      failed = free.failed;
      far = free.far;
      refill = free.refill;
      want = free.want;
      seen = subst own (sym is.own) known;
    }

-- an actor after a plain step
plain_stepped : (shape : GuestShape) (actor : ℕ) (made : Made) (p : Progress) → IsTrue (is_plain made.step) → p.scan ≡ idle → ChangesFailed (record p { local = local_after shape actor p.local made.step made.found; own = p.own ++ made ∷ [] }) (stepped shape actor made p)
plain_stepped shape actor made p plain e =
    let done = succeeds shape actor p.local made.step made.found in
    let changed = plain_changes shape actor made.step made.found done p plain in
    let local = local_after shape actor p.local made.step made.found in
    let own = p.own ++ made ∷ [] in
    let q : Progress = record p { failed = changed.failed; local = local; own = own } in
    let on : scan_on shape actor q ≡ q = idle_on shape actor q e in
    record {
      failed = changed.failed;
      is = ap (λ r. scan_on shape actor (record r { local = local; own = own })) changed.is ∙ on;
      less = changed.less;
    }

step_stays : (shape : GuestShape) (actor : ℕ) (made : Made) (p : Progress) → IsTrue (is_plain made.step) → p.scan ≡ idle → StaysSo p (stepped shape actor made p)
step_stays shape actor made p plain e =
    let after = plain_stepped shape actor made p plain e in
    let back : Progress → Progress = λ q. record q { local = p.local; own = p.own; failed = p.failed } in
    record {
      same = ap back after.is;
      failed = λ h. after.less (ap (λ q. q.failed) (sym after.is) ∙ h);
    }

step_idle : (seen : Seen) (made : Made) (p : Progress) → IsTrue (is_plain made.step) → IsIdle seen p → IsIdle (seen_after seen (made ∷ [])) (stepped (shape_of seen) seen.actor made p)
step_idle seen made p plain is =
    let shape = shape_of seen in
    let after = plain_stepped shape seen.actor made p plain (idle_is p.scan is.scan) in
    record {
      local = ap (λ q. q.local) after.is ∙ ap (λ local. local_after shape seen.actor local made.step made.found) is.local;
      own = ap (λ q. q.own) after.is ∙ ap (λ own. own ++ made ∷ []) is.own;
      scan = ap (λ q. is_idle q.scan) after.is ∙ is.scan;
    }

-- Pieces.

stays_same : (p : Progress) → StaysSo p p
stays_same p = record { same = refl; failed = λ h. h }

pub stays_on : (p q r : Progress) → StaysSo p q → StaysSo q r → StaysSo p r
stays_on p q r a b =
    let back : Progress → Progress = λ s. record s { local = p.local; own = p.own; failed = p.failed } in
    record {
      same = ap back b.same ∙ a.same;
      failed = λ h. a.failed (b.failed h);
    }

-- a part of no step
pub seen_nil : (seen : Seen) → seen_after seen [] ≡ seen
seen_nil seen =
    let by_own : List Made → Seen = λ own. record seen { own = own; world = option_map (λ world. world ++ []) seen.world } in
    let by_world : Option (List Entry) → Seen = λ world. record seen { world = world } in
    ap by_own (append-nil seen.own) ∙ ap by_world (of seen.world)
  where
    of : (world : Option (List Entry)) → option_map (λ world. world ++ []) world ≡ world
    of None = refl
    of (Some world) = ap Some (append-nil world)

pub piece_nil : (seen : Seen) → IsPiece seen []
piece_nil seen p is =
    record { proper = tt; stays = stays_same p; ends = record { local = is.local; own = is.own ∙ sym (append-nil seen.own); scan = is.scan } }

-- a plain step, and a piece after it
pub piece_cons : (seen : Seen) (made : Made) (part : List Made) → IsTrue (is_plain made.step) → IsTrue (goes_by_known seen made.step) → IsPiece (seen_after seen (made ∷ [])) part → IsPiece seen (made ∷ part)
piece_cons seen made part plain known later p is =
    let shape = shape_of seen in
    let rest = later (stepped shape seen.actor made p) (step_idle seen made p plain is) in
    let Ends : Seen → Type 0 = λ told. IsIdle told (progress_of shape seen.actor p (map makes (made ∷ part))) in
    record {
      proper = (plain_proper seen p made.step plain known is, rest.proper);
      stays = stays_on p (stepped shape seen.actor made p) (progress_of shape seen.actor p (map makes (made ∷ part))) (step_stays shape seen.actor made p plain (idle_is p.scan is.scan)) rest.stays;
      ends = subst Ends (sym (seen_joins seen (made ∷ []) part)) rest.ends;
    }

pub piece_one : (seen : Seen) (made : Made) → IsTrue (is_plain made.step) → IsTrue (goes_by_known seen made.step) → IsPiece seen (made ∷ [])
piece_one seen made plain known = piece_cons seen made [] plain known (piece_nil (seen_after seen (made ∷ [])))

-- two pieces, the second from where the first left the actor
pub good_joins : (seen : Seen) (p : Progress) (early late : List Made) → IsGoodPiece seen p early → IsGoodPiece (seen_after seen early) (progress_of (shape_of seen) seen.actor p (map makes early)) late → IsGoodPiece seen p (early ++ late)
good_joins seen p early late first second =
    let shape = shape_of seen in
    let acts = map-append makes early late in
    let q = progress_of shape seen.actor p (map makes early) in
    let along : progress_of shape seen.actor p (map makes (early ++ late)) ≡ progress_of shape seen.actor q (map makes late)
    = ap (progress_of shape seen.actor p) acts ∙ fold-append (progressed shape seen.actor) p (map makes early) (map makes late) in
    let Ends : Seen → Type 0 = λ told. IsIdle told (progress_of shape seen.actor p (map makes (early ++ late))) in
    record {
      proper = subst (IsProper shape seen.actor p) (sym acts) ((proper_append shape seen.actor p (map makes early) (map makes late)).1 (first.proper, second.proper));
      stays = subst (StaysSo p) (sym along) (stays_on p q (progress_of shape seen.actor q (map makes late)) first.stays second.stays);
      ends = subst Ends (sym (seen_joins seen early late)) (subst (IsIdle (seen_after (seen_after seen early) late)) (sym along) second.ends);
    }

pub piece_joins : (seen : Seen) (early late : List Made) → IsPiece seen early → IsPiece (seen_after seen early) late → IsPiece seen (early ++ late)
piece_joins seen early late one two p is = let first = one p is in good_joins seen p early late first (two (progress_of (shape_of seen) seen.actor p (map makes early)) first.ends)

-- The end of a command of the ITS, of an actor that asks for no interrupt.

done_proper : (shape : GuestShape) (actor : ℕ) (p : Progress) (offset : ℕ) (stalled : Bool) (ending : Option (List ℕ)) → p.scan ≡ idle → p.wants ≡ [] → IsProperStep shape actor p (CommandDone offset stalled ending)
done_proper shape actor p offset stalled ending idle_so none = record {
  scan = scan_free shape actor p (CommandDone offset stalled ending) idle_so;
  trap = refl;
  failed = refl;
  far = refl;
  refill = refl;
  want = ap wants_nothing none;
  seen = refl;
}

-- an actor after it
done_stepped : (shape : GuestShape) (actor : ℕ) (made : Made) (p : Progress) (offset : ℕ) (stalled : Bool) (ending : Option (List ℕ)) → made.step ≡ CommandDone offset stalled ending → p.scan ≡ idle
    → stepped shape actor made p ≡ record p { local = local_after shape actor p.local made.step made.found; own = p.own ++ made ∷ [] }
done_stepped shape actor made p offset stalled ending e idle_so =
    let local = local_after shape actor p.local made.step made.found in
    let own = p.own ++ made ∷ [] in
    let By : CoreStep → Progress = λ step. scan_on shape actor (record (changed_by shape actor step made.found (succeeds shape actor p.local step made.found) p) { local = local; own = own }) in
    ap By e ∙ idle_on shape actor (record p { local = local; own = own }) idle_so

pub command_done : (seen : Seen) (made : Made) (offset : ℕ) (stalled : Bool) (ending : Option (List ℕ)) → made.step ≡ CommandDone offset stalled ending → IsRestedPiece seen (made ∷ [])
command_done seen made offset stalled ending e p is none =
    let shape = shape_of seen in
    let idle_so = idle_is p.scan is.scan in
    let after = done_stepped shape seen.actor made p offset stalled ending e idle_so in
    let back : Progress → Progress = λ q. record q { local = p.local; own = p.own; failed = p.failed } in
    record {
      proper = (subst (IsProperStep shape seen.actor p) (sym e) (done_proper shape seen.actor p offset stalled ending idle_so none), tt);
      stays = record { same = ap back after; failed = λ h. ap (λ (q : Progress). q.failed) (sym after) ∙ h };
      ends = record {
        local = ap (λ (q : Progress). q.local) after ∙ ap (λ local. local_after shape seen.actor local made.step made.found) is.local;
        own = ap (λ (q : Progress). q.own) after ∙ ap (λ own. own ++ made ∷ []) is.own;
        scan = ap (λ (q : Progress). is_idle q.scan) after ∙ is.scan;
      };
    }

-- pieces of an actor that asks for no interrupt

pub rested : (seen : Seen) (part : List Made) → IsPiece seen part → IsRestedPiece seen part
rested seen part piece p is none = piece p is

pub rested_joins : (seen : Seen) (early late : List Made) → IsRestedPiece seen early → IsRestedPiece (seen_after seen early) late → IsRestedPiece seen (early ++ late)
rested_joins seen early late one two p is none =
    let first = one p is none in
    good_joins seen p early late first (two (progress_of (shape_of seen) seen.actor p (map makes early)) first.ends (ap (λ (q : Progress). q.wants) first.stays.same ∙ none))

-- Whole parts.

-- the end of a part
proper_end : (p : Progress) (local : Local) → p.local ≡ local → IsTrue (is_idle p.scan) → p.wants ≡ [] → local.at ≡ [] → IsTrue (is_settled local) → IsProperEnd p
proper_end p local is scan wants at settled =
    let none : p.local.at ≡ [] = ap (λ l. l.at) is ∙ at in
    record {
      scan = scan;
      refill = ap (λ entries. is_empty entries || (is_paid p.debt && not (gives_back p.local.phase))) none;
      want = ap wants_nothing wants;
      settled = ap is_settled is ∙ settled;
    }

-- a piece after which a part may end is a proper part
pub piece_ends : (seen : Seen) (part : List Made) (operation : Operation) (lrs : ℕ) (answer : Option ℕ) → IsPiece seen part
    → ((p q : Progress) → IsAtRest seen p → StaysSo (progressed (shape_of seen) seen.actor p (begins operation lrs)) q → IsIdle (seen_after seen part) q → IsProperEnd q) → IsProperPart seen part operation lrs answer
piece_ends seen part operation lrs answer piece may_end p rest =
    let shape = shape_of seen in
    let begun = progressed shape seen.actor p (begins operation lrs) in
    let good = piece begun (record { local = rest.local; own = rest.own; scan = rest.scan }) in
    let q = progress_of shape seen.actor begun (map makes part) in
    (tt, (proper_append shape seen.actor begun (map makes part) (ends answer ∷ [])).1 (good.proper, (may_end p q rest good.stays good.ends, tt)))

-- so is one after which the actor has settled and has nothing at its interface
pub piece_is_part : (seen : Seen) (part : List Made) (operation : Operation) (lrs : ℕ) (answer : Option ℕ) → IsPiece seen part → (seen_after seen part).local.at ≡ [] → IsTrue (is_settled (seen_after seen part).local) → IsProperPart seen part operation lrs answer
piece_is_part seen part operation lrs answer piece at settled =
    piece_ends seen part operation lrs answer piece
    (λ p q rest stays ends. proper_end q (seen_after seen part).local ends.local ends.scan (ap (λ r. r.wants) stays.same ∙ rest.wants) at settled)
