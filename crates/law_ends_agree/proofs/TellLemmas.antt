-- The guest that words and CPU records say is the ideal one, but for a fault by which nothing is stalled.
use Rattle.std.proofs.Common.{◌≡◌, ◌≢◌, ℕ, ◌<◌, Bool, true, false, cond, IsTrue, inl, inr, List, map, length, arith, refl, sym, ap, ◌∙◌, subst, get_or, set, slice_index}
use Rattle.std.proofs.lemmas.Bool.{cases_eq, eq-eqb, ne_eqb, lt-ltb}
use Rattle.std.proofs.lemmas.List.{ext_get_or, get_or_default, get_or-map, get_or-set_same, get_or-set_other, length-map}
use Rattle.std.proofs.lemmas.List.FromFn.{get_or-map-range_with_len, length-map-range_with_len}
use Rattle.port_ops.specs.Words.{Spi, GuestShape, has_interrupt, interrupt_count, key_at, IsShape, Irq}
use Rattle.port_ops.specs.GuestWords.{word_among, words_among}
use Rattle.port_ops.specs.Calls.{Fault, irq_in, opening_cpu, opening_irq, has_plain, place_of_plain, plain_at, plain_count}
use Rattle.port_ops.proofs.GicOpen.KeyLemmas.{irq_in_there, key_at_there}
use Rattle.port_ops.specs.Registers.{Enables, CpuRec, Maps}
use Rattle.law_core_is_history.specs.Histories.{Ideal, IdealGuest, cpu_at, word_at}
use Rattle.law_core_is_history.proofs.LawHistories.SpreadSteps.{place_at}
use Rattle.law_core_is_history.specs.Core.{WordId, Irq as IrqWord, Vcpu, Queue, Ctlr, Plain, fault_place, vcpu_of, CoreState, IsSound, seat_at, word_in}
use Rattle.law_core_is_history.specs.Related.{Related, IsPlainRelated}
use Rattle.law_core_is_history.proofs.PutSteps.{plain_back}
use Rattle.law_core_is_history.proofs.ReadSteps.{plain_there}
use Rattle.guest_end.specs.Home.{home_irq, cpu_at_home, cpus_at_home, plain_at_home}
use Rattle.law_ends_agree.specs.End.{AreEmpty, cpus_in, told_in, without_past_fault}
use Rattle.law_ends_agree.proofs.EmptyLemmas.{record_is}
use Rattle.law_ends_agree.proofs.LineLemmas.{plain_each}

-- two guests with the same fields
same_guest :
    (one other : IdealGuest) → one.shape ≡ other.shape → one.irqs ≡ other.irqs → one.cpus ≡ other.cpus → one.enables ≡ other.enables → one.words ≡ other.words → one.offset ≡ other.offset → one.is_stalled ≡ other.is_stalled → one.tables ≡ other.tables → one ≡ other
same_guest one other shape irqs cpus enables words offset stalled tables =
    ap (λ (x : GuestShape). record one { shape = x }) shape
    ∙ ap (λ (x : List Irq). record one { shape = other.shape; irqs = x }) irqs
    ∙ ap (λ (x : List CpuRec). record one { shape = other.shape; irqs = other.irqs; cpus = x }) cpus
    ∙ ap (λ (x : Enables). record one { shape = other.shape; irqs = other.irqs; cpus = other.cpus; enables = x }) enables
    ∙ ap (λ (x : List ℕ). record other { words = x; offset = one.offset; is_stalled = one.is_stalled; tables = one.tables }) words
    ∙ ap (λ (x : ℕ). record other { offset = x; is_stalled = one.is_stalled; tables = one.tables }) offset
    ∙ ap (λ (x : Bool). record other { is_stalled = x; tables = one.tables }) stalled
    ∙ ap (λ (x : Maps). record other { tables = x }) tables

-- a word of some in the order of their numbers
among_is : (shape : GuestShape) (state : CoreState) (which : ℕ → WordId) (count n d : ℕ) → n < count → get_or (words_among shape state.words which count) n d ≡ word_in shape state (which n)
among_is shape state which count n d there = get_or-map-range_with_len (λ number. word_among shape state.words (which number)) 0 count n n d there (omega arith)

among_each : (shape : GuestShape) (state : CoreState) (which : ℕ → WordId) (count : ℕ) → length (words_among shape state.words which count) ≡ count
among_each shape state which count = length-map-range_with_len (λ number. word_among shape state.words (which number)) 0 count

-- the words of interrupts, of vCPUs, and the plain ones
abbrev irq_words : GuestShape → CoreState → List ℕ
irq_words shape state = words_among shape state.words (λ place. IrqWord (key_at shape place)) (interrupt_count shape)

abbrev vcpu_words : GuestShape → CoreState → List ℕ
vcpu_words shape state = words_among shape state.words Vcpu shape.vcpus

abbrev plain_words : GuestShape → CoreState → List ℕ
plain_words shape state = words_among shape state.words Plain (plain_count shape)

-- no record
abbrev no_irq : Irq
no_irq = opening_irq false (Spi 0)

module _ (shape : GuestShape) (state : CoreState) (ideal : Ideal) (good : IsShape shape) (sound : IsSound shape state) (related : Related shape state ideal) (empty : AreEmpty shape state) where
  -- The records.

  irqs_each : length (irq_words shape state) ≡ interrupt_count shape
  irqs_each = among_each shape state (λ place. IrqWord (key_at shape place)) (interrupt_count shape)

  irq_at_place : (i : ℕ) → i < interrupt_count shape → get_or (map home_irq (irq_words shape state)) i no_irq ≡ get_or ideal.guest.irqs i no_irq
  irq_at_place i few =
      let key = key_at shape i in
      let there : IsTrue (has_interrupt shape key) = key_at_there shape i good few in
      get_or-map home_irq (irq_words shape state) i 0 no_irq (subst (λ n. i < n) (sym irqs_each) few)
      ∙ ap home_irq (among_is shape state (λ place. IrqWord (key_at shape place)) (interrupt_count shape) i 0 few)
      ∙ record_is shape state ideal sound related empty key there
      ∙ ap (λ s. irq_in s ideal.guest.irqs key) related.shape_is
      ∙ irq_in_there shape ideal.guest.irqs key there
      ∙ ap (λ n. get_or ideal.guest.irqs n (opening_irq false key)) (place_at shape i good few)
      ∙ get_or_default ideal.guest.irqs i (opening_irq false key) no_irq (subst (λ n. i < n) (sym related.irqs_each) few)

  irqs_same : map home_irq (irq_words shape state) ≡ ideal.guest.irqs
  irqs_same =
      let each : length (map home_irq (irq_words shape state)) ≡ interrupt_count shape = length-map (irq_words shape state) home_irq ∙ irqs_each in
      ext_get_or no_irq (map home_irq (irq_words shape state)) ideal.guest.irqs (each ∙ sym related.irqs_each) (λ i h. irq_at_place i (subst (λ n. i < n) each h))

  -- The CPU records.

  cpu_same : (vcpu : ℕ) → vcpu < shape.vcpus → cpu_at_home (vcpu_words shape state) (cpus_in shape state) vcpu ≡ cpu_at ideal.guest vcpu
  cpu_same vcpu there =
      let own : CpuRec = (seat_at state vcpu).local.cpu in
      let with_lpis : CpuRec → Bool → CpuRec = λ cpu lpis. record cpu { lpis = lpis } in
      let lpis : (cpu_at ideal.guest vcpu).lpis ≡ (vcpu_of (word_in shape state (Vcpu vcpu))).lpis = related.words (Vcpu vcpu) (lt-ltb vcpu shape.vcpus there) in
      ap (λ cpu. with_lpis cpu (vcpu_of (get_or (vcpu_words shape state) vcpu 0)).lpis) (get_or-map-range_with_len (λ n. (seat_at state n).local.cpu) 0 shape.vcpus vcpu vcpu (opening_cpu false) there (omega arith))
      ∙ ap (λ word. with_lpis own (vcpu_of word).lpis) (among_is shape state Vcpu shape.vcpus vcpu 0 there)
      ∙ ap (λ cpu. with_lpis cpu (vcpu_of (word_in shape state (Vcpu vcpu))).lpis) (sym (related.seats vcpu there).cpu.same)
      ∙ ap (with_lpis (cpu_at ideal.guest vcpu)) (sym lpis)

  cpus_same : cpus_at_home (vcpu_words shape state) (cpus_in shape state) ≡ ideal.guest.cpus
  cpus_same =
      let cpus = cpus_at_home (vcpu_words shape state) (cpus_in shape state) in
      let words : length (vcpu_words shape state) ≡ shape.vcpus = among_each shape state Vcpu shape.vcpus in
      let each : length cpus ≡ shape.vcpus = length-map-range_with_len (cpu_at_home (vcpu_words shape state) (cpus_in shape state)) 0 (length (vcpu_words shape state)) ∙ words in
      ext_get_or (opening_cpu false) cpus ideal.guest.cpus (each ∙ sym related.cpus_each)
      (λ i h. let few : i < shape.vcpus = subst (λ n. i < n) each h in
      get_or-map-range_with_len (cpu_at_home (vcpu_words shape state) (cpus_in shape state)) 0 (length (vcpu_words shape state)) i i (opening_cpu false) (subst (λ n. i < n) (sym words) few) (omega arith) ∙ cpu_same i few)

  -- The plain words.

  stored_same : (index : ℕ) → index < plain_count shape → word_at ideal.guest (plain_at shape index) ≡ slice_index ideal.guest.words index
  stored_same index few =
      ap (λ s. cond (has_plain s (plain_at shape index)) (slice_index ideal.guest.words (place_of_plain s (plain_at shape index))) 0) related.shape_is
      ∙ ap (λ b. cond b (slice_index ideal.guest.words (place_of_plain shape (plain_at shape index))) 0) (plain_there shape index few)
      ∙ ap (slice_index ideal.guest.words) (plain_back shape index few)

  says : (index : ℕ) → index < plain_count shape → IsPlainRelated shape index (word_in shape state (Plain index)) ideal.guest
  says index few = related.words (Plain index) (lt-ltb index (plain_count shape) few)

  plain_same : (index : ℕ) → index < plain_count shape → index ≢ fault_place shape → get_or (plain_words shape state) index 0 ≡ get_or ideal.guest.words index 0
  plain_same index few differ = among_is shape state Plain (plain_count shape) index 0 few ∙ sym ((says index few).stored (ne_eqb index (fault_place shape) differ)) ∙ stored_same index few

  fault_same : ideal.guest.is_stalled ≡ true → (index : ℕ) → index ≡ fault_place shape → index < plain_count shape → get_or (plain_words shape state) index 0 ≡ get_or ideal.guest.words index 0
  fault_same stalled index is few =
      among_is shape state Plain (plain_count shape) index 0 few ∙ sym ((says index few).fault (eq-eqb index (fault_place shape) is) stalled)
      ∙ ap (λ s. slice_index ideal.guest.words (place_of_plain s Fault)) related.shape_is ∙ ap (slice_index ideal.guest.words) (sym is)

  words_each : length (plain_words shape state) ≡ plain_count shape
  words_each = among_each shape state Plain (plain_count shape)

  words_by : (b : Bool) → ideal.guest.is_stalled ≡ b → plain_at_home shape b (plain_words shape state) ≡ plain_at_home shape b ideal.guest.words
  words_by true stalled = ext_get_or 0 (plain_words shape state) ideal.guest.words (words_each ∙ sym related.words_each) (λ i h. at i (subst (λ n. i < n) words_each h))
    where
      at : (i : ℕ) → i < plain_count shape → get_or (plain_words shape state) i 0 ≡ get_or ideal.guest.words i 0
      at i few = elim (cases_eq i (fault_place shape)) [
        | inl same ↦ fault_same stalled i same few
        | inr differ ↦ plain_same i few differ
      ]
  words_by false running =
      let told = plain_each shape false (plain_words shape state) in
      ext_get_or 0 (plain_at_home shape false (plain_words shape state)) (plain_at_home shape false ideal.guest.words) (told ∙ words_each ∙ sym (plain_each shape false ideal.guest.words ∙ related.words_each))
      (λ i h. at i (subst (λ n. i < n) (told ∙ words_each) h))
    where
      put : (words : List ℕ) → length words ≡ plain_count shape → (i : ℕ) → i ≡ fault_place shape → i < plain_count shape → get_or (set words (fault_place shape) 0) i 0 ≡ 0
      put words each i same few = ap (λ n. get_or (set words (fault_place shape) 0) n 0) same ∙ get_or-set_same words (fault_place shape) 0 0 (omega (arith, same, few, each))

      at : (i : ℕ) → i < plain_count shape → get_or (set (plain_words shape state) (fault_place shape) 0) i 0 ≡ get_or (set ideal.guest.words (fault_place shape) 0) i 0
      at i few = elim (cases_eq i (fault_place shape)) [
        | inl same ↦ put (plain_words shape state) words_each i same few ∙ sym (put ideal.guest.words related.words_each i same few)
        | inr differ ↦ get_or-set_other (plain_words shape state) (fault_place shape) i 0 0 differ ∙ plain_same i few differ ∙ sym (get_or-set_other ideal.guest.words (fault_place shape) i 0 0 differ)
      ]

-- The guest.

pub guest_same : (spec : IdealGuest) (state : CoreState) (ideal : Ideal) → IsShape spec.shape → IsSound spec.shape state → Related spec.shape state ideal → AreEmpty spec.shape state → told_in spec state ≡ without_past_fault ideal.guest
guest_same spec state ideal good sound related empty =
    let shape = spec.shape in
    let queue = related.words Queue refl in
    let words = words_by shape state ideal good sound related empty ideal.guest.is_stalled refl in
    same_guest (told_in spec state) (without_past_fault ideal.guest) (sym related.shape_is) (irqs_same shape state ideal good sound related empty) (cpus_same shape state ideal good sound related empty) (sym (related.words Ctlr refl).enables)
    (ap (λ b. plain_at_home shape b (plain_words shape state)) (sym queue.stalled) ∙ words ∙ ap (λ s. plain_at_home s ideal.guest.is_stalled ideal.guest.words) (sym related.shape_is))
    (sym queue.offset) (sym queue.stalled) (sym related.maps)
