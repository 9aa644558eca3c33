-- Steps on an interrupt's word that leave who holds it: looks, causes, touches and what an access waits for.
use Rattle.std.proofs.Common.{◌≡◌, ℕ, ◌==◌, ◌&&◌, Bool, true, false, cond, IsTrue, is_none, List, Option, None, refl}
use Rattle.std.proofs.lemmas.Bool.{and_parts}
use Rattle.core_words.specs.Words.{GuestShape, Key, has_interrupt, Irq as IrqRecord, raised, wire_up, wire_down, packed, irq_of}
use Rattle.core_words.specs.Calls.{Touching, touched, has_wire}
use Rattle.port_core.specs.declared.local.Local.{Local}
use Rattle.port_core.specs.declared.run.Made.{Made}
use Rattle.port_core.specs.declared.step.CoreStep.TheVariants.{Look, Raise, Touch, Want, WireUp, WireDown}
use Rattle.core_words.specs.declared.word_id.WordId.{WordId}
use Rattle.core_words.specs.declared.word_id.WordId.TheVariants.{Irq, Vcpu, Index, Queue, Ctlr, Plain, Line}
use Rattle.port_core.specs.After.{is_settled_by_look, holder_or_active, concerned, concerned_by}
use Rattle.port_core.specs.Local.{settled, owing, owing_both}
use Rattle.port_core.specs.Valid.{IsLocal, CanFind}
use Rattle.port_core.proofs.FrameLemmas.{Keeps}
use Rattle.port_core.proofs.StepWords.{IsOwned, owned_of}
use Rattle.port_core.proofs.OwnLemmas.{IsTold, told_active, told_holder, told_target, owned_as, owned_touched, touched_holder}
use Rattle.port_core.proofs.StepLocals.{none_kept, settled_device, AreTold, local_owing, cands_settled}
use Rattle.port_core.proofs.StepTies.{SameTies, none_is, keeps_word, keeps_all, keeps_irq}
use Rattle.port_core.proofs.StepMade.{IsMade, StepKeeps, keeps_tried}
use Rattle.port_core.proofs.StepLines.{keeps_look_line}

-- an actor that owes more has what it had
owing_ties : (kicks : List (Option ℕ)) (key : Key) (marks : List (Option ℕ)) (local : Local) → SameTies local (owing kicks key marks local)
owing_ties kicks key marks local = record { at = λ k. refl; turn = refl; ctlr = refl; line = λ n. refl }

-- those whom a cause concerns
told_holder_or_active : (shape : GuestShape) (key : Key) (irq : IrqRecord) → IsOwned shape key irq → IsTold shape key (holder_or_active irq)
told_holder_or_active shape key irq is = of (is_none irq.holder)
  where
    of : (b : Bool) → IsTold shape key (cond b irq.act_by irq.holder)
    of true = told_active shape key irq is
    of false = told_holder shape key irq is

told_concerned : (shape : GuestShape) (key : Key) (irq : IrqRecord) → IsTrue (has_interrupt shape key) → IsOwned shape key irq → AreTold shape key (concerned shape irq)
told_concerned shape key irq there is = (told_target shape key irq.route there is.record_of.route, (told_holder_or_active shape key irq is, tt))

-- a change of causes, of which the actor tells those whom it concerns
keeps_caused :
    (shape : GuestShape) (actor : ℕ) (local : Local) (key : Key) (found : ℕ) (irq : IrqRecord) → IsTrue (has_interrupt shape key) → CanFind shape actor local (Irq key) found → IsLocal shape actor local
    → IsOwned shape key irq → irq.holder ≡ (irq_of found).holder → Keeps shape actor local (owing_both key (concerned shape (irq_of found)) local) (Irq key) found (packed irq)
keeps_caused shape actor local key found irq there find is owned held =
    let told = told_concerned shape key (irq_of found) there (owned_of shape key found find.valid) in
    keeps_irq shape actor local (owing_both key (concerned shape (irq_of found)) local) key found irq owned held find.ties
    (local_owing shape actor (concerned shape (irq_of found)) key (concerned shape (irq_of found)) local there told told is) (owing_ties (concerned shape (irq_of found)) key (concerned shape (irq_of found)) local)

pub keeps_raise : (shape : GuestShape) (actor : ℕ) (local : Local) (own : List Made) (key : Key) (found : ℕ) → IsMade shape actor local own (Raise key) found → StepKeeps shape actor local (Raise key) found
keeps_raise shape actor local own key found made =
    let irq = irq_of found in
    keeps_caused shape actor local key found (raised irq) made.can made.find made.valid (owned_as shape key irq (raised irq) refl refl refl refl refl refl (owned_of shape key found made.find.valid)) refl

pub keeps_wire_up : (shape : GuestShape) (actor : ℕ) (local : Local) (own : List Made) (key : Key) (found : ℕ) → IsMade shape actor local own (WireUp key) found → StepKeeps shape actor local (WireUp key) found
keeps_wire_up shape actor local own key found made =
    let irq = irq_of found in
    keeps_caused shape actor local key found (wire_up irq) (and_parts (has_wire key) (has_interrupt shape key) made.can).1 made.find made.valid
    (owned_as shape key irq (wire_up irq) refl refl refl refl refl refl (owned_of shape key found made.find.valid)) refl

pub keeps_wire_down : (shape : GuestShape) (actor : ℕ) (local : Local) (own : List Made) (key : Key) (found : ℕ) → IsMade shape actor local own (WireDown key) found → StepKeeps shape actor local (WireDown key) found
keeps_wire_down shape actor local own key found made =
    let irq = irq_of found in
    keeps_caused shape actor local key found (wire_down irq) (and_parts (has_wire key) (has_interrupt shape key) made.can).1 made.find made.valid
    (owned_as shape key irq (wire_down irq) refl refl refl refl refl refl (owned_of shape key found made.find.valid)) refl

pub keeps_want : (shape : GuestShape) (actor : ℕ) (local : Local) (own : List Made) (key : Key) (found : ℕ) → IsMade shape actor local own (Want key) found → StepKeeps shape actor local (Want key) found
keeps_want shape actor local own key found made =
    let irq : IrqRecord = record (irq_of found) { want = true } in
    keeps_irq shape actor local local key found irq (owned_as shape key (irq_of found) irq refl refl refl refl refl refl (owned_of shape key found made.find.valid)) refl made.find.ties made.valid
    (record { at = λ k. refl; turn = refl; ctlr = refl; line = λ n. refl })

-- a touch tells both targets, and the vCPUs by which the interrupt is active
pub keeps_touch : (shape : GuestShape) (actor : ℕ) (local : Local) (own : List Made) (key : Key) (seen : ℕ) (kind : Touching) (found : ℕ) → IsMade shape actor local own (Touch key seen kind) found → StepKeeps shape actor local (Touch key seen kind) found
keeps_touch shape actor local own key seen kind found made = keeps_tried shape actor local own (Touch key seen kind) found made done
  where
    done : (found == seen && is_none (irq_of found).holder) ≡ true
        → Keeps shape actor local (owing_both key (concerned_by shape (irq_of found) (touched shape key kind (irq_of found))) local) (Irq key) found (packed (record (touched shape key kind (irq_of found)) { want = false }))
    done h =
        let irq = irq_of found in
        let before = owned_of shape key found made.find.valid in
        let unheld : irq.holder ≡ None = none_is irq.holder (and_parts (found == seen) (is_none irq.holder) h).1 in
        let after = owned_touched shape key kind irq made.good made.can unheld before in
        let left : IrqRecord = record (touched shape key kind irq) { want = false } in
        let whom = concerned_by shape irq (touched shape key kind irq) in
        let told : AreTold shape key whom = (
          told_target shape key irq.route made.can.there before.record_of.route,
          (told_target shape key (touched shape key kind irq).route made.can.there after.record_of.route, (told_active shape key irq before, (told_active shape key (touched shape key kind irq) after, tt))),
        ) in
        keeps_irq shape actor local (owing_both key whom local) key found left (owned_as shape key (touched shape key kind irq) left refl refl refl refl refl refl after) (touched_holder shape key kind irq) made.find.ties
        (local_owing shape actor whom key whom local made.can.there told told made.valid) (owing_ties whom key whom local)

-- a look may end a candidate
pub keeps_look : (shape : GuestShape) (actor : ℕ) (local : Local) (own : List Made) (word : WordId) (found : ℕ) → IsMade shape actor local own (Look word) found → StepKeeps shape actor local (Look word) found
keeps_look shape actor local own (Irq key) found made = of (is_settled_by_look shape actor (irq_of found))
  where
    of : (b : Bool) → Keeps shape actor local (cond b (record local { cands = settled shape actor key local.cands }) local) (Irq key) found found
    of false = keeps_all shape actor local (Irq key) found made.find made.valid
    of true =
        let is = made.valid in
        keeps_word shape actor local (record local { cands = settled shape actor key local.cands }) (Irq key) found made.find
        (record { points = is.points; levels = is.levels; at = is.at; once = is.once; room = is.room; owes = is.owes; marks_are = is.marks_are; marks = is.marks; cands = cands_settled shape actor key local.cands is.cands; line = is.line; shut = is.shut; idle = is.idle; device = λ e. none_kept local (record local { cands = settled shape actor key local.cands }) refl (settled_device shape actor key local.cands e) (is.device e) })
        (record { at = λ k. refl; turn = refl; ctlr = refl; line = λ n. refl })
keeps_look shape actor local own Queue found made = keeps_all shape actor local Queue found made.find made.valid
keeps_look shape actor local own Ctlr found made = keeps_all shape actor local Ctlr found made.find made.valid
keeps_look shape actor local own (Vcpu vcpu) found made = keeps_all shape actor local (Vcpu vcpu) found made.find made.valid
keeps_look shape actor local own (Index vcpu number) found made = keeps_all shape actor local (Index vcpu number) found made.find made.valid
keeps_look shape actor local own (Plain index) found made = keeps_all shape actor local (Plain index) found made.find made.valid
keeps_look shape actor local own (Line number) found made = keeps_look_line shape actor local own number found made
