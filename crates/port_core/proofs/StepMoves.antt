-- Steps that bring an interrupt to an interface, give back what is there, and release it.
use Rattle.std.proofs.Common.{◌≡◌, ◌≢◌, ℕ, ◌<◌, ◌==◌, ◌&&◌, ◌||◌, not, Bool, true, false, cond, nat_lt, IsTrue, is_none, is_some, List, [], ◌∷◌, ◌++◌, length, map, Option, Some, None, refl, sym, ap, subst, ◌∙◌}
use Rattle.std.specs.Option.{option_map_or}
use Rattle.std.proofs.lemmas.Bool.{and_parts, ltb-true}
use Rattle.core_words.specs.Words.{GuestShape, Back, Key, IsShape, has_interrupt, is_of_vcpu, is_same_key, Irq as IrqRecord, cleared, has_active_state, is_number, packed, irq_of}
use Rattle.core_words.specs.Calls.{Moved, may_reach, reached, may_take, taken, IsEntryOf}
use Rattle.core_words.proofs.GicCall.MoveLemmas.{reached_valid}
use Rattle.port_core.specs.declared.at_list.AtIrq.{AtIrq}
use Rattle.port_core.specs.declared.local.Local.{Local}
use Rattle.port_core.specs.declared.local.Phase.TheVariants.{Folding}
use Rattle.port_core.specs.declared.run.Made.{Made}
use Rattle.port_core.specs.declared.step.CoreStep.TheVariants.{Claim, GiveBack, Release}
use Rattle.core_words.specs.declared.word_id.WordId.TheVariants.{Irq}
use Rattle.port_core.specs.After.{release_at, target_of, told_of_release, marked_of_release}
use Rattle.port_core.specs.Condition.{may_claim}
use Rattle.port_core.specs.Effect.{may_hold, may_move, moved_of, moved_irq, given_back, released, is_active_at}
use Rattle.port_core.specs.Local.{is_vcpu, entry_for, is_at, changed_at, without_at, with_entry, arrived, settled}
use Rattle.port_core.specs.Valid.{IsAt, IsLocal}
use Rattle.port_core.proofs.FrameLemmas.{Keeps}
use Rattle.port_core.proofs.StepWords.{IsOwned, owned_of}
use Rattle.port_core.proofs.OwnLemmas.{IsTold, told_none, told_some, told_target, owned_as, owned_given, owned_released, owned_reached}
use Rattle.core_words.proofs.GicBase.KeyLemmas.{same_key, same_itself, other_key}
use Rattle.port_core.proofs.AtLemmas.{entry_is, is_at_mapped, is_at_added, is_at_released, is_at_without, are_mapped, are_added, are_without}
use Rattle.port_core.proofs.StepLocals.{vcpu_only, AreTold, local_owing, cands_settled, at_of}
use Rattle.port_core.proofs.StepTies.{number_is, number_self, number_other, none_is, keeps_irq, keeps_moved}
use Rattle.port_core.proofs.StepMade.{IsMade, StepKeeps, keeps_tried, all_three}

-- Changes of the entry of one interrupt.

-- an entry or its change, which is of the same interrupt
key_kept : (b : Bool) (one entry : AtIrq) → one.key ≡ entry.key → (cond b one entry).key ≡ entry.key
key_kept true one entry e = e
key_kept false one entry e = refl

at_kept : (shape : GuestShape) (actor : ℕ) (b : Bool) (one entry : AtIrq) → (b ≡ true → IsAt shape actor one) → IsAt shape actor entry → IsAt shape actor (cond b one entry)
at_kept shape actor true one entry h is = h refl
at_kept shape actor false one entry h is = is

-- the interrupt of an entry, where the actor has it
entry_at : (shape : GuestShape) (actor : ℕ) (key : Key) (local : Local) (entry : AtIrq) → IsLocal shape actor local → entry_for key local.at ≡ Some entry → IsAt shape actor entry × (entry.key ≡ key)
entry_at shape actor key local entry is h = entry_is (IsAt shape actor) key local.at entry is.at h

-- Claims.

-- what a claim makes of an interrupt: the vCPU holds it, and did so before or nobody did
record IsClaimed (shape : GuestShape) (key : Key) (actor : ℕ) (irq : IrqRecord) (moved : Moved) : Type 0 where
  owned : IsOwned shape key moved.irq
  held : moved.irq.holder ≡ Some actor
  entry : IsEntryOf key moved.entry
  others : (other : ℕ) → other ≢ actor → is_number other irq.holder ≡ false

claim_is :
    (shape : GuestShape) (key : Key) (actor : ℕ) (local : Local) (irq : IrqRecord) → IsShape shape → IsTrue (has_interrupt shape key) → IsTold shape key (Some actor) → IsLocal shape actor local → IsOwned shape key irq
    → may_move shape actor local key irq ≡ true → IsClaimed shape key actor irq (moved_irq actor local key irq)
claim_is shape key actor local irq good there told local_is is may = of (entry_for key local.at) refl may
  where
    others_of : irq.holder ≡ None → (other : ℕ) → other ≢ actor → is_number other irq.holder ≡ false
    others_of e other differ = ap (is_number other) e

    of : (o : Option AtIrq) → entry_for key local.at ≡ o
        → option_map_or (λ entry. is_number actor irq.holder && may_take shape key (moved_of irq entry) actor local.cpu) o (is_none irq.holder && may_reach shape key irq actor local.cpu && may_hold actor irq) ≡ true
        → IsClaimed shape key actor irq (option_map_or (λ entry. taken (moved_of irq entry)) o (record (reached irq) { irq = record (reached irq).irq { holder = Some actor } }))
    of None e h =
        let parts = all_three (is_none irq.holder) (may_reach shape key irq actor local.cpu) (may_hold actor irq) h in
        let none : irq.holder ≡ None = none_is irq.holder parts.0 in
        record { owned = owned_reached shape key irq actor local.cpu good told parts.1 is; held = refl; entry = (reached_valid shape key irq is.record_of).entry; others = others_of none }
    of (Some entry) e h =
        let held : irq.holder ≡ Some actor = number_is actor irq.holder (and_parts (is_number actor irq.holder) (may_take shape key (moved_of irq entry) actor local.cpu) h).0 in
        let at = entry_at shape actor key local entry local_is e in
        record {
          owned = owned_as shape key irq (cleared irq) refl refl refl refl refl refl is;
          held = held;
          entry = record { kind = subst (λ k. IsTrue (not entry.active || has_active_state k)) at.1 at.0.entry.kind; causes = refl };
          others = λ other differ. ap (is_number other) held ∙ number_other other actor differ;
        }

-- there is room for an interrupt that is not there
room_of : (o : Option AtIrq) (room : Bool) → is_some o ≡ false → option_map_or (λ entry. not entry.given) o room ≡ true → room ≡ true
room_of None room e h = h
room_of (Some entry) room e h = absurd (cc)

claim_keeps :
    (shape : GuestShape) (key : Key) (actor : ℕ) (local : Local) (found : ℕ) (moved : Moved) → IsTrue (is_vcpu shape actor) → IsTrue (has_interrupt shape key) → IsTrue (is_of_vcpu actor key) → IsTrue (may_claim key local) → IsLocal shape actor local
    → is_number actor (irq_of found).holder ≡ is_at key local.at → IsClaimed shape key actor (irq_of found) moved → (b : Bool) → is_at key local.at ≡ b
    → Keeps shape actor local
    (record local { cands = settled shape actor key local.cands; at = cond b (changed_at (λ entry. record (with_entry entry moved.entry) { consumed = false }) key local.at) (local.at ++ arrived key (irq_of found) moved.entry ∷ []) })
    (Irq key) found (packed moved.irq)
claim_keeps shape key actor local found moved vcpu there own may is ties made true e =
    let change : AtIrq → AtIrq = λ entry. record (with_entry entry moved.entry) { consumed = false } in
    let each : AtIrq → AtIrq = λ entry. cond (is_same_key entry.key key) (change entry) entry in
    let keeps : (entry : AtIrq) → (each entry).key ≡ entry.key = λ entry. key_kept (is_same_key entry.key key) (change entry) entry refl in
    let at = are_mapped shape actor local.at each keeps
    (λ entry h. at_kept shape actor (is_same_key entry.key key) (change entry) entry
    (λ same. record { there = h.there; own = h.own; entry = subst (λ k. IsEntryOf k moved.entry) (sym (same_key entry.key key same)) made.entry }) h)
    (at_of shape actor local is) in
    keeps_moved shape actor local (record local { cands = settled shape actor key local.cands; at = map each local.at }) key found moved.irq made.owned
    (record { points = is.points; levels = is.levels; at = at.each; once = at.once; room = at.room; owes = is.owes; marks_are = is.marks_are; marks = is.marks; cands = cands_settled shape actor key local.cands is.cands; line = is.line; shut = is.shut; idle = is.idle; device = vcpu_only shape actor _ vcpu })
    (record {
      here = ap (is_number actor) made.held ∙ number_self actor ∙ sym e ∙ sym (is_at_mapped each keeps key local.at);
      others = λ other differ. ap (is_number other) made.held ∙ number_other other actor differ ∙ sym (made.others other differ);
      at = λ other differ. is_at_mapped each keeps other local.at;
      turn = refl;
      ctlr = refl;
      line = λ n. refl;
    })
claim_keeps shape key actor local found moved vcpu there own may is ties made false e =
    let entry : AtIrq = arrived key (irq_of found) moved.entry in
    let room : length local.at < 16 = ltb-true (length local.at) 16 (room_of (entry_for key local.at) (nat_lt (length local.at) 16) e may) in
    let at = are_added shape actor local.at entry (record { there = there; own = own; entry = made.entry }) e room (at_of shape actor local is) in
    keeps_moved shape actor local (record local { cands = settled shape actor key local.cands; at = local.at ++ entry ∷ [] }) key found moved.irq made.owned
    (record { points = is.points; levels = is.levels; at = at.each; once = at.once; room = at.room; owes = is.owes; marks_are = is.marks_are; marks = is.marks; cands = cands_settled shape actor key local.cands is.cands; line = is.line; shut = is.shut; idle = is.idle; device = vcpu_only shape actor _ vcpu })
    (record {
      here = ap (is_number actor) made.held ∙ number_self actor ∙ sym (is_at_added key local.at entry ∙ ap (λ b. b || is_same_key key key) e ∙ same_itself key);
      others = λ other differ. ap (is_number other) made.held ∙ number_other other actor differ ∙ sym (made.others other differ);
      at = λ other differ. is_at_added other local.at entry ∙ ap (λ b. is_at other local.at || b) (other_key key other (λ f. differ (sym f))) ∙ or_false (is_at other local.at);
      turn = refl;
      ctlr = refl;
      line = λ n. refl;
    })
  where
    or_false : (b : Bool) → (b || false) ≡ b
    or_false true = refl
    or_false false = refl

pub keeps_claim : (shape : GuestShape) (actor : ℕ) (local : Local) (own : List Made) (key : Key) (seen found : ℕ) → IsMade shape actor local own (Claim key seen) found → StepKeeps shape actor local (Claim key seen) found
keeps_claim shape actor local own key seen found made =
    let can = all_three (is_vcpu shape actor) (is_of_vcpu actor key) (has_interrupt shape key) made.can in
    let told = told_some shape key actor (ltb-true actor shape.vcpus can.0) can.1 in
    keeps_tried shape actor local own (Claim key seen) found made
    (λ h.
    claim_keeps shape key actor local found (moved_irq actor local key (irq_of found)) can.0 can.2 can.1 made.meets made.valid made.find.ties
    (claim_is shape key actor local (irq_of found) made.good can.2 told made.valid (owned_of shape key found made.find.valid) (and_parts (found == seen) (may_move shape actor local key (irq_of found)) h).1)
    (is_at key local.at) refl)

-- Give-backs.

pub keeps_give_back : (shape : GuestShape) (actor : ℕ) (local : Local) (own : List Made) (key : Key) (back : Back) (found : ℕ) → IsMade shape actor local own (GiveBack key back) found → StepKeeps shape actor local (GiveBack key back) found
keeps_give_back shape actor local own key back found made =
    let can = and_parts (is_vcpu shape actor) (has_interrupt shape key) made.can in
    let is = made.valid in
    let entry = made.meets.entry in
    let here = entry_at shape actor key local entry is made.meets.at in
    let told = told_some shape key actor (ltb-true actor shape.vcpus can.0) (subst (λ k. IsTrue (is_of_vcpu actor k)) here.1 here.0.own) in
    let held : is_number actor (irq_of found).holder ≡ true = made.find.ties ∙ ap is_some made.meets.at in
    let kind : IsTrue (not back.active || has_active_state key) =
    subst (λ b. IsTrue (not b.active || has_active_state key)) (sym made.meets.whole) (subst (λ k. IsTrue (not entry.active || has_active_state k)) here.1 here.0.entry.kind) in
    let each : AtIrq → AtIrq = λ one. cond (is_same_key one.key key) (record one { given = true }) one in
    let keeps : (one : AtIrq) → (each one).key ≡ one.key = λ one. key_kept (is_same_key one.key key) (record one { given = true }) one refl in
    let at = are_mapped shape actor local.at each keeps
    (λ one h. at_kept shape actor (is_same_key one.key key) (record one { given = true }) one (λ same. record { there = h.there; own = h.own; entry = h.entry }) h) (at_of shape actor local is) in
    keeps_irq shape actor local (record local { at = map each local.at; phase = Folding }) key found (given_back actor back (irq_of found))
    (owned_given shape key actor back (irq_of found) made.good told kind held (owned_of shape key found made.find.valid)) refl made.find.ties
    (record { points = is.points; levels = is.levels; at = at.each; once = at.once; room = at.room; owes = is.owes; marks_are = is.marks_are; marks = is.marks; cands = is.cands; line = is.line; shut = is.shut; idle = is.idle; device = vcpu_only shape actor _ can.0 })
    (record { at = λ k. is_at_mapped each keeps k local.at; turn = refl; ctlr = refl; line = λ n. refl })

-- Releases.

-- those to whom a release is told, and for whom the interrupt is marked
told_release : (shape : GuestShape) (key : Key) (actor : ℕ) (active : Bool) (irq : IrqRecord) → IsTrue (has_interrupt shape key) → IsOwned shape key irq → AreTold shape key (told_of_release shape actor active irq)
told_release shape key actor active irq there is = (of (active || is_number actor (target_of shape irq)), tt)
  where
    of : (b : Bool) → IsTold shape key (cond b None (target_of shape irq))
    of true = told_none shape key
    of false = told_target shape key irq.route there is.record_of.route

marked_release :
    (shape : GuestShape) (key : Key) (actor : ℕ) (active : Bool) (irq : IrqRecord) → IsTrue (has_interrupt shape key) → IsTold shape key (Some actor) → IsOwned shape key irq → AreTold shape key (marked_of_release shape actor active irq)
marked_release shape key actor active irq there told is = (told_target shape key irq.route there is.record_of.route, (of active, tt))
  where
    of : (b : Bool) → IsTold shape key (cond b (Some actor) None)
    of true = told
    of false = told_none shape key

pub keeps_release : (shape : GuestShape) (actor : ℕ) (local : Local) (own : List Made) (key : Key) (found : ℕ) → IsMade shape actor local own (Release key) found → StepKeeps shape actor local (Release key) found
keeps_release shape actor local own key found made =
    let can = and_parts (is_vcpu shape actor) (has_interrupt shape key) made.can in
    let is = made.valid in
    let irq = irq_of found in
    let active = is_active_at key local in
    let here = entry_at shape actor key local made.meets.entry is made.meets.at in
    let told = told_some shape key actor (ltb-true actor shape.vcpus can.0) (subst (λ k. IsTrue (is_of_vcpu actor k)) here.1 here.0.own) in
    let owned = owned_of shape key found made.find.valid in
    let held : irq.holder ≡ Some actor = number_is actor irq.holder (made.find.ties ∙ ap is_some made.meets.at) in
    let at = are_without shape actor local.at key (at_of shape actor local is) in
    let left : Local = record local { at = without_at key local.at } in
    let valid : IsLocal shape actor left =
    record { points = is.points; levels = is.levels; at = at.each; once = at.once; room = at.room; owes = is.owes; marks_are = is.marks_are; marks = is.marks; cands = is.cands; line = is.line; shut = is.shut; idle = is.idle; device = vcpu_only shape actor _ can.0 } in
    keeps_moved shape actor local (release_at shape actor key irq active local) key found (released active irq) (owned_released shape key active irq made.good owned)
    (local_owing shape actor (told_of_release shape actor active irq) key (marked_of_release shape actor active irq) left can.1 (told_release shape key actor active irq can.1 owned) (marked_release shape key actor active irq can.1 told owned) valid)
    (record {
      here = sym (is_at_released key local.at);
      others = λ other differ. sym (ap (is_number other) held ∙ number_other other actor differ);
      at = λ other differ. is_at_without key other local.at differ;
      turn = refl;
      ctlr = refl;
      line = λ n. refl;
    })
