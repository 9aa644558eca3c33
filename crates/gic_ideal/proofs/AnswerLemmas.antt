-- What a read of IAR answers, and what it leaves.
use Rattle.std.proofs.Common.{◌≡◌, ◌≢◌, ◌<◌, ℕ, false, IsTrue, Option, Some, None, List, [], ◌∷◌, ◌++◌, length, refl, sym, ap, subst, ◌∙◌, arith}
use Rattle.std.specs.List.{slice_set, slice_index_or}
use Rattle.std.specs.Option.{option_map_or}
use Rattle.std.proofs.lemmas.Grind.{common_steps}
use Rattle.std.proofs.lemmas.List.{get_or-set_same}
use Rattle.std.proofs.lemmas.Option.{none-some, same_Some}
use Rattle.scn_base.specs.GicWord.declared.record.Group.{Group}
use Rattle.ideal_guest.specs.Words.{G0, G1, Irq, is_pending, IccReg, Iar0, Iar1, Key, Private, Spi, Lpi, GuestShape, has_interrupt, intid_of}
use Rattle.ideal_guest.specs.Registers.{CpuRec, Candidate, is_signalled, level_activated, acknowledged, intid_read, Preempts, taken_by, answer_of, activated_by}
use Rattle.ideal_guest.proofs.GicPrio.AnswerLemmas.{answered_first, spurious, preempts}
use Rattle.ideal_guest.specs.Calls.{opening_cpu, Event}
use Rattle.ideal_guest.proofs.GicOpen.OpeningLemmas.{opening_valid}
use Rattle.ideal_guest.specs.declared.guest.IdealGuest.{IdealGuest}
use Rattle.ideal_guest.specs.Opening.{opening}
use Rattle.ideal_guest.specs.Ideal.{irq_at, cpu_at, candidates, access_answer, after_acknowledge, after_event, after_events, is_named}
use Rattle.ideal_guest.specs.Sound.{IsSound}
use Rattle.gic_ideal.specs.Deeds.{acknowledges, is_latched, is_caused_since}
use Rattle.gic_ideal.specs.Laws.{CanFollowAll, AcknowledgesId, iar_of, iar_read, is_spi_id, AcknowledgeAnswers, AnswerAcknowledges, SpuriousReadExactly, AcknowledgeRuns, CausedBetweenReads, EdgePendingExactly}
use Rattle.ideal_guest.proofs.KeyLemmas.{key_intid, is_named_by}
use Rattle.ideal_guest.proofs.CandidateLemmas.{candidates_named, taken_named, taken_was, taken_of}
use Rattle.gic_ideal.proofs.EffectLemmas.{cpus_acknowledged}
use Rattle.ideal_guest.proofs.SoundLemmas.{cpu_valid, vcpu_there}
use Rattle.gic_ideal.proofs.SoundEvents.{sound_events}
use Rattle.ideal_guest.proofs.OpeningLemmas.{empty_valid, sound_opening}
use Rattle.gic_ideal.proofs.DeedLemmas.{ready}
use Rattle.gic_ideal.proofs.LawLemmas.{caused, latched_exactly}

-- a read of IAR of a group
read_takes : (group : Group) (cpu : CpuRec) (among : List Candidate) → taken_by (iar_of group) None cpu among ≡ acknowledged group cpu among
read_takes G0 cpu among = refl
read_takes G1 cpu among = refl

read_answers : (group : Group) (guest : IdealGuest) (vcpu : ℕ) → access_answer (iar_of group) None guest vcpu ≡ Some (intid_read (acknowledged group (cpu_at guest vcpu) (candidates guest vcpu)))
read_answers G0 guest vcpu = refl
read_answers G1 guest vcpu = refl

-- 1023 exactly where the first candidate is passed over
pub spurious_read : SpuriousReadExactly
spurious_read guest vcpu group sound =
    let is = read_answers group guest vcpu in
    let exactly = spurious group (cpu_at guest vcpu) (candidates guest vcpu) (candidates_named guest vcpu sound.shape) in
    ((λ e. exactly.0 (same_Some _ 1023 (sym is ∙ e))), λ e. is ∙ ap Some (exactly.1 e))

-- an access that acknowledges an interrupt answers its INTID
taken_answers : (reg : IccReg) (write : Option ℕ) (cpu : CpuRec) (among : List Candidate) (found : Candidate) → taken_by reg write cpu among ≡ Some found → answer_of reg write cpu among ≡ Some found.id
taken_answers Iar0 None cpu among found h = ap (λ o. Some (intid_read o)) h
taken_answers Iar1 None cpu among found h = ap (λ o. Some (intid_read o)) h
taken_answers reg write cpu among found h = absurd (none-some found h)

pub acknowledge_answers : AcknowledgeAnswers
acknowledge_answers guest vcpu reg write key h =
    let was = taken_named reg write guest vcpu key h in
    taken_answers reg write (cpu_at guest vcpu) (candidates guest vcpu) was.found was.taken ∙ ap Some (sym (key_intid was.found.id vcpu guest.shape key was.named))

-- a read of IAR that answers another INTID acknowledges an interrupt with it
pub answered : AnswerAcknowledges
answered guest vcpu id group sound real h = of_found (acknowledged group (cpu_at guest vcpu) (candidates guest vcpu)) refl (same_Some _ id (sym (read_answers group guest vcpu) ∙ h))
  where
    of_found : (o : Option Candidate) → acknowledged group (cpu_at guest vcpu) (candidates guest vcpu) ≡ o → intid_read o ≡ id → AcknowledgesId (iar_read vcpu group) id guest
    of_found None f i = absurd (real (sym i))
    of_found (Some found) f i =
        let taken : taken_by (iar_of group) None (cpu_at guest vcpu) (candidates guest vcpu) ≡ Some found = read_takes group (cpu_at guest vcpu) (candidates guest vcpu) ∙ f in
        let was = taken_was (iar_of group) None guest vcpu found sound taken in
        record {
          key = was.key;
          done = ap (λ o. option_map_or (λ found. is_named found.id vcpu guest.shape was.key) o false) taken ∙ is_named_by found.id vcpu guest.shape was.key was.named;
          intid = key_intid found.id vcpu guest.shape was.key was.named ∙ i;
        }

-- the interface after a read of IAR that acknowledges
cpu_read : (group : Group) (guest : IdealGuest) (vcpu : ℕ) (found : Candidate) → acknowledged group (cpu_at guest vcpu) (candidates guest vcpu) ≡ Some found → vcpu < length guest.cpus → cpu_at (after_event guest (iar_read vcpu group)) vcpu ≡ level_activated found.prio found.group (cpu_at guest vcpu)
cpu_read group guest vcpu found h within = of group h
  where
    put : (group : Group) → acknowledged group (cpu_at guest vcpu) (candidates guest vcpu) ≡ Some found → slice_index_or (slice_set (after_acknowledge (acknowledged group (cpu_at guest vcpu) (candidates guest vcpu)) guest vcpu).cpus vcpu (activated_by (acknowledged group (cpu_at guest vcpu) (candidates guest vcpu)) (cpu_at guest vcpu))) vcpu (opening_cpu false) ≡ level_activated found.prio found.group (cpu_at guest vcpu)
    put group h =
        let taken = acknowledged group (cpu_at guest vcpu) (candidates guest vcpu) in
        let next = activated_by taken (cpu_at guest vcpu) in
        ap (λ cpus. slice_index_or (slice_set cpus vcpu next) vcpu (opening_cpu false)) (cpus_acknowledged taken guest vcpu)
        ∙ get_or-set_same guest.cpus vcpu next (opening_cpu false) within
        ∙ ap (λ o. activated_by o (cpu_at guest vcpu)) h

    of : (group : Group) → acknowledged group (cpu_at guest vcpu) (candidates guest vcpu) ≡ Some found → cpu_at (after_event guest (iar_read vcpu group)) vcpu ≡ level_activated found.prio found.group (cpu_at guest vcpu)
    of G0 h = put G0 h
    of G1 h = put G1 h

-- what runs after it
pub runs : AcknowledgeRuns
runs guest vcpu key group sound h =
    let cpu = cpu_at guest vcpu in
    let was = taken_named (iar_of group) None guest vcpu key h in
    let found = was.found in
    let taken : acknowledged group cpu (candidates guest vcpu) ≡ Some found = sym (read_takes group cpu (candidates guest vcpu)) ∙ was.taken in
    let of = taken_of (iar_of group) None guest vcpu key sound was in
    let answer = answered_first group cpu (candidates guest vcpu) found taken in
    let valid = cpu_valid guest.cpus vcpu sound.interfaces in
    let first = taken_was (iar_of group) None guest vcpu found sound was.taken in
    let within : vcpu < length guest.cpus = omega (arith, vcpu_there guest vcpu found sound first, sound.cpus) in
    let prio = (irq_at guest key).prio in
    let activated : level_activated found.prio found.group cpu ≡ level_activated prio group cpu = ap (λ p. level_activated p found.group cpu) of.prio ∙ ap (λ g. level_activated prio g cpu) answer.group_is in
    let signalled : IsTrue (is_signalled prio group cpu) = ap (λ g. is_signalled prio g cpu) (sym answer.group_is) ∙ ap (λ p. is_signalled p found.group cpu) (sym of.prio) ∙ answer.signalled in
    let result = preempts prio group cpu valid.levels.group_0 valid.levels.group_1 (sound.records key of.there).valid.packable.prio signalled in
    subst (Preempts prio group cpu) (sym (cpu_read group guest vcpu found taken within ∙ activated)) result

-- the interrupt that has the INTID of an SPI
key_of_spi : (shape : GuestShape) (key : Key) (id : ℕ) → IsTrue (has_interrupt shape key) → intid_of key ≡ id → IsTrue (is_spi_id id) → key ≡ Spi id
key_of_spi shape (Private vcpu number) id h e spi = absurd (small number id (grind (arith, common_steps, h)) e spi)
  where
    small : (number id : ℕ) → number < 32 → number ≡ id → IsTrue (is_spi_id id) → ⊥
    small number id h e spi = grind (arith, common_steps, h, e, spi)
key_of_spi shape (Spi number) id h e spi = ap Spi e
key_of_spi shape (Lpi number) id h e spi = absurd (large number id (grind (arith, common_steps, h)) e spi)
  where
    large : (number id : ℕ) → 8191 < number → number ≡ id → IsTrue (is_spi_id id) → ⊥
    large number id h e spi = grind (arith, common_steps, h, e, spi)

spi_real : (id : ℕ) → IsTrue (is_spi_id id) → id ≢ 1023
spi_real id spi e = grind (arith, common_steps, spi, e)

read_acknowledged : (guest : IdealGuest) (vcpu id : ℕ) (group : Group) → IsSound guest → IsTrue (is_spi_id id) → access_answer (iar_of group) None guest vcpu ≡ Some id → IsTrue (acknowledges (iar_read vcpu group) guest (Spi id))
read_acknowledged guest vcpu id group sound spi h =
    let one = answered guest vcpu id group sound (spi_real id spi) h in
    subst (λ key. IsTrue (acknowledges (iar_read vcpu group) guest key)) (key_of_spi guest.shape one.key id (ready (iar_read vcpu group) guest one.key sound one.done).there one.intid spi) one.done

-- the first of some events can follow
before_last : (guest : IdealGuest) (between : List Event) (next : Event) → CanFollowAll guest (between ++ next ∷ []) → CanFollowAll guest between
before_last guest [] next can = tt
before_last guest (event ∷ between) next can = record { can = can.can; rest = before_last (after_event guest event) between next can.rest }

pub caused_reads : CausedBetweenReads
caused_reads guest vcpu other id group next between sound can spi h g =
    let first = iar_read vcpu group in
    caused guest (Spi id) first between (iar_read other next) sound can (read_acknowledged guest vcpu id group sound spi h)
    (read_acknowledged (after_events (first ∷ between) guest) other id next (sound_events guest (first ∷ between) sound (before_last guest (first ∷ between) (iar_read other next) can)) spi g)

-- an edge-triggered interrupt from the opening on
edge_latched : (irq : Irq) → IsTrue irq.edge → is_pending irq ≡ is_latched irq
edge_latched irq h = grind (arith, common_steps, h)

unlatched : (irq : Irq) → irq.rise ≡ false → irq.soft ≡ false → is_latched irq ≡ false
unlatched irq e f = grind (arith, common_steps, e, f)

pub edge_pending : EdgePendingExactly
edge_pending spec events key good can there edge =
    let valid = opening_valid spec key good there in
    edge_latched (irq_at (after_events events (opening spec)) key) edge
    ∙ latched_exactly (opening spec) events key (sound_opening spec good (empty_valid spec.shape)) can there
    ∙ ap (λ b. is_caused_since b events (opening spec) key) (unlatched (irq_at (opening spec) key) valid.no_rise valid.no_soft)
