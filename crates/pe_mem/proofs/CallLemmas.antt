-- A piece of a memory-mapped access, as the whole call.
use Rattle.std.proofs.Common.{◌≡◌, if◌then◌else◌, ℕ, ◌&&◌, ◌||◌, not, Bool, true, false, cond, IsTrue, List, [], ◌∷◌, map, Option, Some, None, is_none, refl, sym, ap, subst, ◌∙◌}
use Rattle.std.proofs.lemmas.Bool.{and_from, and_parts}
use Rattle.its_exec.specs.Words.{Frame, Dist, Redist, Its, Ram as Memory, Lpi, has_interrupt}
use Rattle.its_exec.specs.GicImap.Map.{decoded as its_decoded}
use Rattle.its_exec.specs.Calls.{Operation, takes_turn, Happened, Beside, IsCall, IsPlainCall, IsItsWrite, read_answer, MakesPlain, sets_lpis}
use Rattle.its_exec.specs.GicDmap.Map.{decoded as dist_decoded}
use Rattle.its_exec.specs.GicRmap.Map.{decoded as redist_decoded}
use Rattle.pe_mem.specs.Redist.{ServesRedist}
use Rattle.pe_mem.specs.Dist.{ServesDist}
use Rattle.its_exec.specs.Core.{Local, Made, is_vcpu, owes_nothing, Seen, IsPort, Adds, shape_of, seen_after, part_events, IsProperPart, vcpu_of_actor, maps_taken, begins, makes, ends, Progress, is_paid, progressed, progress_of, IsProperEnd, is_empty, gives_back, wants_nothing, is_settled, is_idle}
use Rattle.its_exec.proofs.CoreProper.PartLemmas.{proper_append}
use Rattle.its_exec.specs.PortCall.Rest.{IsAtEase, StaysAtEase}
use Rattle.its_exec.proofs.PortCall.RestLemmas.{ease_owes}
use Rattle.its_exec.proofs.PortCall.TurnLemmas.{not_taken}
use Rattle.pe_mem.specs.Call.{CanAccess, MakesAccess, ServesAccess, NamesBy, IsPieceOf, access_of}
use Rattle.its_exec.specs.Histories.{named_by_access, starts_queue, takes_commands}
use Rattle.its_exec.specs.Registers.{Cwriter, has_lpis}
use Rattle.its_exec.specs.GicImap.declared.map.Reg.TheVariants.{Ctlr as ItsCtlrReg}
use Rattle.its_exec.specs.GicImap.declared.map.RegRef.{RegRef as ItsRef}
use Rattle.its_exec.specs.GicImap.declared.map.RegRef.TheVariants.{Plain as ItsPlain}
use Rattle.pe_mem.specs.Found.{by_looks, goes_by_target, takes_its_by}
use Rattle.pe_mem.proofs.TargetLemmas.{plain_with, value_with, with_targets}

-- What a vCPU has that can make an access.

can_parts : (seen : Seen) → CanAccess seen → IsTrue (owes_nothing seen.local && not seen.local.turn && not seen.local.ctlr) × IsTrue (is_none seen.local.line)
can_parts seen can = and_parts (owes_nothing seen.local && not seen.local.turn && not seen.local.ctlr) (is_none seen.local.line) can.settled

pub can_ease : (seen : Seen) → CanAccess seen → IsAtEase seen.local
can_ease seen can =
    record { owes = (and_parts (owes_nothing seen.local) (not seen.local.turn) (and_parts (owes_nothing seen.local && not seen.local.turn) (not seen.local.ctlr) (can_parts seen can).0).0).0; empty = can.empty }

not_is : (b : Bool) → IsTrue (not b) → b ≡ false
not_is true h = absurd (cc)
not_is false h = refl

pub can_free : (seen : Seen) → CanAccess seen → seen.local.ctlr ≡ false
can_free seen can = not_is seen.local.ctlr (and_parts (owes_nothing seen.local && not seen.local.turn) (not seen.local.ctlr) (can_parts seen can).0).1

pub can_turn : (seen : Seen) → CanAccess seen → seen.local.turn ≡ false
can_turn seen can = not_is seen.local.turn (and_parts (owes_nothing seen.local) (not seen.local.turn) (and_parts (owes_nothing seen.local && not seen.local.turn) (not seen.local.ctlr) (can_parts seen can).0).0).1

-- and has the same after it
settled_by : (local : Local) → IsTrue (owes_nothing local) → local.turn ≡ false → local.ctlr ≡ false → IsTrue (is_none local.line) → IsTrue (is_settled local)
settled_by local owes turn ctlr line = all (owes_nothing local) local.turn local.ctlr (is_none local.line) owes turn ctlr line
  where
    all : (a b c d : Bool) → IsTrue a → b ≡ false → c ≡ false → IsTrue d → (a && not b && not c && d) ≡ true
    all a b c d ha hb hc hd = rw (ha, hb, hc, hd) refl

pub can_after : (old new : Seen) (part : List Made) → CanAccess old → Adds old new part → StaysAtEase old.local new.local → CanAccess new
can_after old new part can adds stays =
    record {
      vcpu = ap (λ seen. is_vcpu (shape_of seen) seen.actor) adds.new_is ∙ can.vcpu;
      empty = ap (λ l. l.at) stays.same ∙ can.empty;
      settled =
          settled_by new.local (ease_owes old.local new.local stays (can_ease old can).owes) (ap (λ l. l.turn) stays.same ∙ can_turn old can) (ap (λ l. l.ctlr) stays.same ∙ can_free old can)
          (ap (λ l. is_none l.line) stays.same ∙ (can_parts old can).1);
    }

-- Proper parts.

proper_end : (p : Progress) (local : Local) → p.local ≡ local → IsTrue (is_idle p.scan) → p.wants ≡ [] → local.at ≡ [] → IsTrue (is_settled local) → IsProperEnd p
proper_end p local is scan wants at settled =
    let none : p.local.at ≡ [] = ap (λ l. l.at) is ∙ at in
    record {
      scan = scan;
      refill = ap (λ entries. is_empty entries || (is_paid p.debt && not (gives_back p.local.phase))) none;
      want = ap wants_nothing wants;
      settled = ap is_settled is ∙ settled;
    }

pub own_is_part : (seen : Seen) (part : List Made) (operation : Operation) (lrs : ℕ) (answer : Option ℕ) → IsPieceOf seen operation part → (seen_after seen part).local.at ≡ [] → IsTrue (is_settled (seen_after seen part).local) → IsProperPart seen part operation lrs answer
own_is_part seen part operation lrs answer piece at settled p rest =
    let shape = shape_of seen in
    let begun = progressed shape seen.actor p (begins operation lrs) in
    let good = piece begun (record { local = rest.local; own = rest.own; scan = rest.scan }) refl rest.wants in
    let q = progress_of shape seen.actor begun (map makes part) in
    let may_end = proper_end q (seen_after seen part).local good.ends.local good.ends.scan (ap (λ r. r.wants) good.stays.same ∙ rest.wants) at settled in
    (tt, (proper_append shape seen.actor begun (map makes part) (ends answer ∷ [])).1 (good.proper, (may_end, tt)))

-- a whole part, of a piece that leaves the vCPU so
pub proper_of : (old new : Seen) (part : List Made) (operation : Operation) (answer : Option ℕ) → Adds old new part → CanAccess new → IsPieceOf old operation part → (lrs : ℕ) → IsProperPart old part operation lrs answer
proper_of old new part operation answer adds can piece lrs =
    let Empty : Seen → Type 0 = λ seen. seen.local.at ≡ [] in
    let Settled : Seen → Type 0 = λ seen. IsTrue (is_settled seen.local) in
    own_is_part old part operation lrs answer piece (subst Empty adds.new_is can.empty) (subst Settled adds.new_is can.settled)

-- Calls.

-- an access that does not take the ITS
abbrev pub IsPlain : Seen → Frame → ℕ → ℕ → Option ℕ → Type 0
IsPlain seen Its offset size write = takes_turn (shape_of seen) (its_decoded offset size) write ≡ false
IsPlain seen frame offset size write = Unit {0}

plain_call : (seen : Seen) (beside : Beside) (frame : Frame) (offset size : ℕ) (write answer : Option ℕ) (piece : List Happened) → IsPlain seen frame offset size write → IsPlainCall (shape_of seen) beside seen.actor frame offset size write piece answer
    → IsCall (shape_of seen) beside (Some seen.actor) (access_of frame offset size write) piece answer
plain_call seen beside Dist offset size write answer piece plain call = call
plain_call seen beside (Redist vcpu) offset size write answer piece plain call = call
plain_call seen beside Memory offset size write answer piece plain call = call
plain_call seen beside Its offset size None answer piece plain call = call
plain_call seen beside Its offset size (Some value) answer piece plain call =
    let By : Bool → Type 0 = λ b. IsItsWrite b (shape_of seen) beside seen.actor offset size value piece answer in subst By (sym plain) call

-- the access with its LPIs for other vCPUs that agree with what it found
call_with :
    (old new : Seen) (frame : Frame) (offset size : ℕ) (write : Option ℕ) (value : ℕ) (answer : Option ℕ) (beside : Beside) → answer ≡ read_answer write value → (made : ServesAccess old new frame offset size write value)
    → ((id : ℕ) → IsTrue (has_interrupt (shape_of old) (Lpi id)) → IsTrue (goes_by_target (shape_of old) made.serves.view frame offset size write id) → beside.targets id ≡ made.serves.view.targets id)
    → IsPlainCall (shape_of old) beside old.actor frame offset size write (part_events old made.serves.part) answer
call_with old new frame offset size write value answer beside answers made agree =
    let shape = shape_of old in
    let serves = made.serves in
    let t = beside.targets in
    let view = with_targets t serves.view in
    record {
      view = view;
      targets = refl;
      made = plain_with shape old.actor t serves.view frame offset size write (part_events old serves.part) agree made.made;
      answers = answers ∙ made.reads ∙ ap (read_answer write) (sym (value_with shape t serves.view frame offset size));
    }

plain_kind : (seen : Seen) (frame : Frame) (offset size : ℕ) (write : Option ℕ) → IsPlain seen frame offset size write → takes_its_by (shape_of seen) (access_of frame offset size write) ≡ false
plain_kind seen Dist offset size write plain = refl
plain_kind seen (Redist vcpu) offset size write plain = refl
plain_kind seen Memory offset size write plain = refl
plain_kind seen Its offset size write plain = plain

plain_commands : (seen : Seen) (frame : Frame) (offset size : ℕ) (write : Option ℕ) → IsPlain seen frame offset size write → takes_commands (shape_of seen) (access_of frame offset size write) ≡ false
plain_commands seen Dist offset size write plain = refl
plain_commands seen (Redist vcpu) offset size write plain = refl
plain_commands seen Memory offset size write plain = refl
plain_commands seen Its offset size None plain = refl
plain_commands seen Its offset size (Some value) plain = of (its_decoded offset size) plain
  where
    by : (a b : Bool) → (a && true) ≡ false → (a && b) ≡ false
    by true b h = absurd (cc)
    by false b h = refl

    none : (a : Bool) → (a && false) ≡ false
    none true = refl
    none false = refl

    of : (ref : ItsRef) → takes_turn (shape_of seen) ref (Some value) ≡ false → (has_lpis (shape_of seen) && starts_queue ref) ≡ false
    of (ItsPlain ItsCtlrReg half) h = h
    of (ItsPlain Cwriter half) h = h
    of ref h = none (has_lpis (shape_of seen))

pub makes_access :
    (old new : Seen) (frame : Frame) (offset size : ℕ) (write : Option ℕ) (value : ℕ) (answer : Option ℕ) → IsPort new → CanAccess old → IsPlain old frame offset size write → answer ≡ read_answer write value
    → ServesAccess old new frame offset size write value → MakesAccess old new frame offset size write answer
makes_access old new frame offset size write value answer is_new can plain answers made =
    let serves = made.serves in
    let part = serves.part in
    let operation = access_of frame offset size write in
    let after = can_after old new part can serves.adds serves.stays in
    let by : NamesBy (shape_of old) old.actor operation (λ view. named_by_access (shape_of old) view frame offset size write) = record { commands = plain_commands old frame offset size write plain; ends_none = λ key. refl; named_are = λ view. refl } in
    let actor : vcpu_of_actor (shape_of old) old.actor ≡ Some old.actor = ap (λ b. cond b (Some old.actor) None) can.vcpu in
    let Agree : (ℕ → Option ℕ) → Type 0 = λ t. (id : ℕ) → IsTrue (has_interrupt (shape_of old) (Lpi id)) → IsTrue (goes_by_target (shape_of old) serves.view frame offset size write id) → t id ≡ serves.view.targets id in
    let call : (beside : Beside) → Agree beside.targets → IsCall (shape_of old) beside (vcpu_of_actor (shape_of old) old.actor) operation (part_events old part) answer
    = λ beside agree.
    (let Of : Option ℕ → Type 0 = λ actor. IsCall (shape_of old) beside actor operation (part_events old part) answer in
    subst Of (sym actor) (plain_call old beside frame offset size write answer (part_events old part) plain (call_with old new frame offset size write value answer beside answers made agree))) in
    let own : Beside = record { maps = maps_taken part; targets = serves.view.targets; commands = []; signals = false } in
    let goes : ℕ → Bool = λ id. has_interrupt (shape_of old) (Lpi id) && goes_by_target (shape_of old) serves.view frame offset size write id in
    record {
      part = part;
      adds = serves.adds;
      call = record { beside = own; maps = refl; signals = refl; call = call own (λ id there bit. refl) };
      found =
          record {
            finding = by_looks goes serves.view.targets;
            kind = sym (plain_kind old frame offset size write plain);
            is_finding = λ id going. let both = and_parts (has_interrupt (shape_of old) (Lpi id)) (goes_by_target (shape_of old) serves.view frame offset size write id) going in made.found id both.0 both.1;
            call = λ beside maps agrees. call beside (λ id there bit. agrees id (and_from (has_interrupt (shape_of old) (Lpi id)) (goes_by_target (shape_of old) serves.view frame offset size write id) there bit));
          };
      piece = serves.piece operation by;
      proper = proper_of old new part operation answer serves.adds after (serves.piece operation by);
      stays = serves.stays;
      tables = not_taken new is_new (can_turn new after);
      after = after;
    }

-- Frames.

pub dist_accessed : (old new : Seen) (offset size : ℕ) (write : Option ℕ) (value : ℕ) → ServesDist old new (dist_decoded offset size) write value → ServesAccess old new Dist offset size write value
dist_accessed old new offset size write value made = record { serves = made.serves; reads = made.reads; found = λ id there bit. absurd (cc); made = made.serves.made }

pub redist_accessed : (old new : Seen) (vcpu offset size : ℕ) (write : Option ℕ) (value : ℕ) → ServesRedist old new vcpu (redist_decoded offset size) write value → ServesAccess old new (Redist vcpu) offset size write value
redist_accessed old new vcpu offset size write value made = record { serves = made.serves; reads = made.reads; found = made.found; made = of (sets_lpis (shape_of old) (redist_decoded offset size) write) refl }
  where
    of : (b : Bool) → sets_lpis (shape_of old) (redist_decoded offset size) write ≡ b → MakesPlain (if b then Some vcpu else None) (shape_of old) made.serves.view old.actor (Redist vcpu) offset size write (part_events old made.serves.part)
    of true h = made.after h
    of false h = made.serves.made
