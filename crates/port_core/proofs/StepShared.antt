-- Steps on the words that are no interrupt's: a vCPU's, its index, the queue's, GICD_CTLR's and the plain words.
use Rattle.std.proofs.Common.{◌≡◌, ℕ, ◌/◌, ◌%◌, ◌^◌, ◌<◌, ◌==◌, Bool, true, false, cond, nat_lt, is_none, List, bit_or, Option, Some, None, lit<, refl, sym, ap, subst, ◌∙◌}
use Rattle.std.proofs.Math.Bool.{not-or_self}
use Rattle.std.proofs.lemmas.Bool.{and_parts}
use Rattle.std.specs.Int.{bit_not, w32}
use Rattle.core_words.specs.Words.{GuestShape, IccReg, Key, IsShape, has_interrupt, intid_of, is_of_vcpu, has_active_state, is_number}
use Rattle.core_words.specs.Registers.{enables_in, taken_by, deactivated_by, candidates_at, IsQueue, queue_of}
use Rattle.core_words.proofs.GicPrio.AccessLemmas.{points_after, levels_after}
use Rattle.port_core.specs.declared.at_list.AtIrq.{AtIrq}
use Rattle.port_core.specs.declared.local.Local.{Local}
use Rattle.port_core.specs.declared.local.Phase.TheVariants.{Folding}
use Rattle.port_core.specs.declared.run.Made.{Made}
use Rattle.port_core.specs.declared.step.CoreStep.TheVariants.{Poll, Kick, EnableLpis, RamLook, RamPut, CtlrTake, CtlrEnd, TurnTake, CommandDone, TurnRelease, Mark, TakeIndex}
use Rattle.core_words.specs.declared.word_id.WordId.TheVariants.{Vcpu, Queue, Plain}
use Rattle.port_core.specs.After.{interface_of, acknowledged_entry, deactivated_entry, changed_id, id_of, accessed, polled, marked, index_taken}
use Rattle.core_words.specs.Forms.{vcpu_of, packed_vcpu, ctlr_of}
use Rattle.port_core.specs.Local.{is_vcpu, without_vcpu, is_at, settled}
use Rattle.core_words.specs.Place.{index_bit, index_words}
use Rattle.port_core.specs.Actor.{actor_count}
use Rattle.port_core.specs.Step.{is_poll}
use Rattle.port_core.specs.Valid.{IsAt, IsActorOrNone, AreCands, CanFind}
use Rattle.port_core.proofs.FrameLemmas.{Keeps}
use Rattle.port_core.proofs.StepWords.{queue_fits}
use Rattle.port_core.proofs.AtLemmas.{is_at_mapped, AreAt, are_mapped}
use Rattle.port_core.proofs.StepLocals.{vcpu_only, none_kept, settled_device, fewer_vcpus, marks_done, zero_index, one_index, both_index, cands_settled, cands_taken, bit_there, at_of}
use Rattle.port_core.proofs.StepTies.{number_is, number_self, number_other, none_is, few_actors, keeps_all, keeps_vcpu, keeps_index, keeps_queue, keeps_ctlr}
use Rattle.port_core.proofs.StepMade.{IsMade, StepKeeps, keeps_tried, all_three}

-- The word of a vCPU.

-- an access changes the interrupts with an INTID, and leaves each where it is
changed_id_is :
    (shape : GuestShape) (actor : ℕ) (change : AtIrq → AtIrq) (id : Option ℕ) (at : List AtIrq) → ((entry : AtIrq) → (change entry).key ≡ entry.key) → ((entry : AtIrq) → IsAt shape actor entry → IsAt shape actor (change entry))
    → AreAt shape actor at → AreAt shape actor (changed_id change id at) × ((key : Key) → is_at key (changed_id change id at) ≡ is_at key at)
changed_id_is shape actor change id at keeps valid are =
    let each : AtIrq → AtIrq = λ entry. cond (is_number (intid_of entry.key) id) (change entry) entry in
    let same : (entry : AtIrq) → (each entry).key ≡ entry.key = λ entry. key_of (is_number (intid_of entry.key) id) entry in
    (are_mapped shape actor at each same (λ entry h. at_of_either (is_number (intid_of entry.key) id) entry h) are, λ key. is_at_mapped each same key at)
  where
    key_of : (b : Bool) (entry : AtIrq) → (cond b (change entry) entry).key ≡ entry.key
    key_of true entry = keeps entry
    key_of false entry = refl

    at_of_either : (b : Bool) (entry : AtIrq) → IsAt shape actor entry → IsAt shape actor (cond b (change entry) entry)
    at_of_either true entry is = valid entry is
    at_of_either false entry is = is

acknowledged_is : (shape : GuestShape) (actor : ℕ) (entry : AtIrq) → IsAt shape actor entry → IsAt shape actor (acknowledged_entry entry)
acknowledged_is shape actor entry is = record { there = is.there; own = is.own; entry = record { kind = not-or_self (has_active_state entry.key); causes = refl } }

deactivated_is : (shape : GuestShape) (actor : ℕ) (entry : AtIrq) → IsAt shape actor entry → IsAt shape actor (deactivated_entry entry)
deactivated_is shape actor entry is = record { there = is.there; own = is.own; entry = record { kind = refl; causes = is.entry.causes } }

pub keeps_poll : (shape : GuestShape) (actor : ℕ) (local : Local) (own : List Made) (reg : Option IccReg) (write : Option ℕ) (found : ℕ) → IsMade shape actor local own (Poll reg write) found → StepKeeps shape actor local (Poll reg write) found
keeps_poll shape actor local own None write found made =
    let is = made.valid in
    keeps_vcpu shape actor local (polled None write found local) actor found (record (vcpu_of found) { kick = false })
    (record {
      points = record { group_0 = is.points.group_0; group_1 = is.points.group_1 };
      levels = record { group_0 = is.levels.group_0; group_1 = is.levels.group_1 };
      at = is.at;
      once = is.once;
      room = is.room;
      owes = is.owes;
      marks_are = is.marks_are;
      marks = is.marks;
      cands = is.cands;
      line = is.line;
      shut = is.shut;
      idle = is.idle;
      device = vcpu_only shape actor _ (and_parts (is_vcpu shape actor) (is_poll None write) made.can).0;
    })
    (record { at = λ k. refl; turn = refl; ctlr = refl; line = λ n. refl })
keeps_poll shape actor local own (Some reg) write found made = of (vcpu_of found).kick
  where
    of : (b : Bool) → Keeps shape actor local (cond b (record local { phase = Folding }) (accessed reg write local)) (Vcpu actor) found (packed_vcpu (record (vcpu_of found) { kick = false }))
    of true =
        let is = made.valid in
        keeps_vcpu shape actor local (record local { phase = Folding }) actor found (record (vcpu_of found) { kick = false })
        (record { points = is.points; levels = is.levels; at = is.at; once = is.once; room = is.room; owes = is.owes; marks_are = is.marks_are; marks = is.marks; cands = is.cands; line = is.line; shut = is.shut; idle = is.idle; device = vcpu_only shape actor _ (and_parts (is_vcpu shape actor) (is_poll (Some reg) write) made.can).0 }) (record { at = λ k. refl; turn = refl; ctlr = refl; line = λ n. refl })
    of false =
        let is = made.valid in
        let among = candidates_at (interface_of local) in
        let taken = id_of (taken_by reg write local.cpu among) in
        let first = changed_id_is shape actor acknowledged_entry taken local.at (λ entry. refl) (acknowledged_is shape actor) (at_of shape actor local is) in
        let second = changed_id_is shape actor deactivated_entry (deactivated_by reg write local.cpu) (changed_id acknowledged_entry taken local.at) (λ entry. refl) (deactivated_is shape actor) first.0 in
        keeps_vcpu shape actor local (accessed reg write local) actor found (record (vcpu_of found) { kick = false })
        (record {
          points = points_after reg write local.cpu among is.points;
          levels = levels_after reg write local.cpu among is.levels;
          at = second.0.each;
          once = second.0.once;
          room = second.0.room;
          owes = is.owes;
          marks_are = is.marks_are;
          marks = is.marks;
          cands = is.cands;
          line = is.line;
          shut = is.shut;
          idle = is.idle;
          device = vcpu_only shape actor _ (and_parts (is_vcpu shape actor) (is_poll (Some reg) write) made.can).0;
        })
        (record { at = λ k. second.1 k ∙ first.1 k; turn = refl; ctlr = refl; line = λ n. refl })

pub keeps_kick : (shape : GuestShape) (actor : ℕ) (local : Local) (own : List Made) (vcpu found : ℕ) → IsMade shape actor local own (Kick vcpu) found → StepKeeps shape actor local (Kick vcpu) found
keeps_kick shape actor local own vcpu found made =
    let is = made.valid in
    keeps_vcpu shape actor local (record local { owes = without_vcpu local.owes vcpu }) vcpu found (record (vcpu_of found) { kick = true })
    (record {
      points = is.points;
      levels = is.levels;
      at = is.at;
      once = is.once;
      room = is.room;
      owes = fewer_vcpus shape local.owes.0 (bit_not w32 (2 ^ vcpu)) is.owes;
      marks_are = is.marks_are;
      marks = is.marks;
      cands = is.cands;
      line = is.line;
      shut = is.shut;
      idle = is.idle;
      device = λ e. none_kept local (record local { owes = without_vcpu local.owes vcpu }) refl refl (is.device e);
    })
    (record { at = λ k. refl; turn = refl; ctlr = refl; line = λ n. refl })

pub keeps_enable : (shape : GuestShape) (actor : ℕ) (local : Local) (own : List Made) (vcpu found : ℕ) → IsMade shape actor local own (EnableLpis vcpu) found → StepKeeps shape actor local (EnableLpis vcpu) found
keeps_enable shape actor local own vcpu found made = keeps_vcpu shape actor local local vcpu found (record { lpis = true; kick = true }) made.valid (record { at = λ k. refl; turn = refl; ctlr = refl; line = λ n. refl })

-- The words of an index.

pub keeps_mark : (shape : GuestShape) (actor : ℕ) (local : Local) (own : List Made) (key : Key) (vcpu found : ℕ) → IsMade shape actor local own (Mark key vcpu) found → StepKeeps shape actor local (Mark key vcpu) found
keeps_mark shape actor local own key vcpu found made =
    let is = made.valid in
    let there = (all_three (nat_lt vcpu shape.vcpus) (is_of_vcpu vcpu key) (has_interrupt shape key) made.can).2 in
    let bit = index_bit shape key in
    let owed = marks_done shape key vcpu local.marks is.marks_are is.marks in
    keeps_index shape actor local (marked shape actor key vcpu local) vcpu (bit / 64) found (bit_or found (2 ^ (bit % 64))) (both_index shape (bit / 64) found (2 ^ (bit % 64)) made.find.valid (one_index shape bit (bit_there shape key made.good there)))
    (record {
      points = is.points;
      levels = is.levels;
      at = is.at;
      once = is.once;
      room = is.room;
      owes = is.owes;
      marks_are = owed.0;
      marks = owed.1;
      cands = of (vcpu == actor);
      line = is.line;
      shut = is.shut;
      idle = is.idle;
      device = λ e. none_kept local (marked shape actor key vcpu local) refl (same e (vcpu == actor)) (is.device e);
    })
    (record { at = λ k. refl; turn = refl; ctlr = refl; line = λ n. refl })
  where
    of : (b : Bool) → AreCands shape (cond b (settled shape actor key local.cands) local.cands).words
    of true = cands_settled shape actor key local.cands made.valid.cands
    of false = made.valid.cands

    same : is_vcpu shape actor ≡ false → (b : Bool) → (cond b (settled shape actor key local.cands) local.cands).words ≡ local.cands.words
    same e true = settled_device shape actor key local.cands e
    same e false = refl

pub keeps_take_index : (shape : GuestShape) (actor : ℕ) (local : Local) (own : List Made) (word found : ℕ) → IsMade shape actor local own (TakeIndex word) found → StepKeeps shape actor local (TakeIndex word) found
keeps_take_index shape actor local own word found made =
    let is = made.valid in
    keeps_index shape actor local (index_taken shape word found local) actor word found 0 (zero_index shape word)
    (record {
      points = is.points;
      levels = is.levels;
      at = is.at;
      once = is.once;
      room = is.room;
      owes = is.owes;
      marks_are = is.marks_are;
      marks = is.marks;
      cands = cands_taken shape local.cands word found made.find.valid is.cands;
      line = is.line;
      shut = is.shut;
      idle = is.idle;
      device = vcpu_only shape actor _ (and_parts (is_vcpu shape actor) (nat_lt word (index_words shape)) made.can).0;
    })
    (record { at = λ k. refl; turn = refl; ctlr = refl; line = λ n. refl })

-- The plain words.

pub keeps_ram_look : (shape : GuestShape) (actor : ℕ) (local : Local) (own : List Made) (index found : ℕ) → IsMade shape actor local own (RamLook index) found → StepKeeps shape actor local (RamLook index) found
keeps_ram_look shape actor local own index found made = keeps_all shape actor local (Plain index) found made.find made.valid

pub keeps_ram_put : (shape : GuestShape) (actor : ℕ) (local : Local) (own : List Made) (index seen value found : ℕ) → IsMade shape actor local own (RamPut index seen value) found → StepKeeps shape actor local (RamPut index seen value) found
keeps_ram_put shape actor local own index seen value found made =
    keeps_tried shape actor local own (RamPut index seen value) found made
    (λ h. record { valid = made.can.1; local = made.valid; here = tt; others = λ other l differ k. tt; elsewhere = λ w n differ k. k })

-- The word of the queue.

-- what it says is what a queue can be
found_queue : (shape : GuestShape) (actor : ℕ) (local : Local) (found : ℕ) → IsShape shape → CanFind shape actor local Queue found → IsQueue (queue_of found)
found_queue shape actor local found good find = queue_fits found (few_actors shape (queue_of found).turn good find.valid.1)

pub keeps_turn_take : (shape : GuestShape) (actor : ℕ) (local : Local) (own : List Made) (seen found : ℕ) → IsMade shape actor local own (TurnTake seen) found → StepKeeps shape actor local (TurnTake seen) found
keeps_turn_take shape actor local own seen found made =
    keeps_tried shape actor local own (TurnTake seen) found made
    (λ h.
    let free : (queue_of found).turn ≡ None = none_is (queue_of found).turn (and_parts (found == seen) (is_none (queue_of found).turn) h).1 in
    let is = found_queue shape actor local found made.good made.find in
    keeps_queue shape actor local true local.shut found (record (queue_of found) { turn = Some actor }) made.valid.shut (λ e. absurd (cc)) made.good (mine shape actor made.there)
    (record { actor = few_actors shape (Some actor) made.good (mine shape actor made.there); command = is.command; within = is.within }) (number_self actor)
    (λ other differ. number_other other actor differ ∙ sym (ap (is_number other) free)) made.valid)
  where
    mine : (shape : GuestShape) (actor : ℕ) → actor < actor_count shape → IsActorOrNone shape (Some actor)
    mine shape actor there a e = let same : actor ≡ a = cc in subst (λ n. n < actor_count shape) same there

pub keeps_turn_release : (shape : GuestShape) (actor : ℕ) (local : Local) (own : List Made) (found : ℕ) → IsMade shape actor local own TurnRelease found → StepKeeps shape actor local TurnRelease found
keeps_turn_release shape actor local own found made =
    let held : (queue_of found).turn ≡ Some actor = number_is actor (queue_of found).turn (made.find.ties ∙ made.meets) in
    let is = found_queue shape actor local found made.good made.find in
    keeps_queue shape actor local false 0 found (record (queue_of found) { turn = None }) (lit< tt) (λ e. refl) made.good (λ a e. absurd (cc)) (record { actor = λ a e. absurd (cc); command = is.command; within = is.within }) refl
    (λ other differ. sym (ap (is_number other) held ∙ number_other other actor differ)) made.valid

pub keeps_command_done :
    (shape : GuestShape) (actor : ℕ) (local : Local) (own : List Made) (offset : ℕ) (stalled : Bool) (ending : Option (List ℕ)) (found : ℕ) → IsMade shape actor local own (CommandDone offset stalled ending) found
    → StepKeeps shape actor local (CommandDone offset stalled ending) found
keeps_command_done shape actor local own offset stalled ending found made =
    let is = found_queue shape actor local found made.good made.find in
    keeps_queue shape actor local local.turn local.shut found (record (queue_of found) { offset = offset; stalled = stalled }) made.valid.shut made.valid.idle made.good made.find.valid.1 (record { actor = is.actor; command = made.can.0.place; within = made.can.0.within })
    made.find.ties (λ other differ. refl) made.valid

-- The word of GICD_CTLR.

pub keeps_ctlr_take : (shape : GuestShape) (actor : ℕ) (local : Local) (own : List Made) (seen value found : ℕ) → IsMade shape actor local own (CtlrTake seen value) found → StepKeeps shape actor local (CtlrTake seen value) found
keeps_ctlr_take shape actor local own seen value found made =
    keeps_tried shape actor local own (CtlrTake seen value) found made
    (λ h.
    let free : (ctlr_of found).mark ≡ None = none_is (ctlr_of found).mark (and_parts (found == seen) (is_none (ctlr_of found).mark) h).1 in
    keeps_ctlr shape actor local true found (record { enables = enables_in value; mark = Some actor }) made.good
    (λ a e. let same : actor ≡ a = cc in subst (λ n. n < actor_count shape) same made.there) (number_self actor)
    (λ other differ. number_other other actor differ ∙ sym (ap (is_number other) free)) made.valid)

pub keeps_ctlr_end : (shape : GuestShape) (actor : ℕ) (local : Local) (own : List Made) (found : ℕ) → IsMade shape actor local own CtlrEnd found → StepKeeps shape actor local CtlrEnd found
keeps_ctlr_end shape actor local own found made =
    let held : (ctlr_of found).mark ≡ Some actor = number_is actor (ctlr_of found).mark (made.find.ties ∙ made.meets) in
    keeps_ctlr shape actor local false found (record (ctlr_of found) { mark = None }) made.good (λ a e. absurd (cc)) refl
    (λ other differ. sym (ap (is_number other) held ∙ number_other other actor differ)) made.valid
