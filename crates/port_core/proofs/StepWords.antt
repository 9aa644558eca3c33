-- Words that steps leave are valid.
use Rattle.std.proofs.Common.{◌≡◌, ℕ, ◌+◌, ◌*◌, ◌/◌, ◌%◌, ◌<◌, ◌&&◌, Bool, true, false, cond, if◌then◌else◌, nat_lt, nat_eq, IsTrue, Option, Some, None, refl, sym, ap, subst, ◌∙◌, arith}
use Rattle.std.specs.Option.{ForSome}
use Rattle.std.proofs.lemmas.Bool.{and_from, eq-eqb, lt-ltb}
use Rattle.core_words.specs.Words.{bit_of, field_at, GuestShape, Key, G0, G1, Irq, group_number, IsIrq, HasFlags, flags_number, packed, irq_of, IsRecordOf}
use Rattle.core_words.proofs.GicBits.BitLemmas.{flag_back, flag_small}
use Rattle.core_words.specs.GicWord.declared.record.Group.{Group}
use Rattle.core_words.proofs.GicWord.WordLemmas.{is_one, word_back, word_fits}
use Rattle.core_words.specs.Registers.{QueueWord, IsQueue, is_queue_word, queue_of, packed as packed_queue}
use Rattle.core_words.specs.IdealGuests.CanOpen.{is_own}
use Rattle.core_words.specs.declared.words.VcpuWord.{VcpuWord}
use Rattle.core_words.specs.declared.words.CtlrWord.{CtlrWord}
use Rattle.core_words.specs.Forms.{packed_vcpu, is_vcpu_word, packed_ctlr, ctlr_of, is_ctlr_word, IsCtlr}
use Rattle.port_core.specs.Valid.{is_active_by_holder, IsIrqWord}

-- The word of an interrupt.

group_bit : (group : Group) → (if nat_eq (group_number group) 1 then G1 else G0) ≡ group
group_bit G0 = refl
group_bit G1 = refl

group_small : (group : Group) → group_number group < 2
group_small G0 = omega arith
group_small G1 = omega arith

-- the flags of a record say what it says
flags_hold : (irq : Irq) → HasFlags irq (flags_number irq)
flags_hold irq =
    let soft = flag_small irq.soft in
    let line = flag_small irq.line in
    let rise = flag_small irq.rise in
    let edge = flag_small irq.edge in
    let enabled = flag_small irq.enabled in
    let group = group_small irq.group in
    let en0 = flag_small irq.en0 in
    let en1 = flag_small irq.en1 in
    let want = flag_small irq.want in
    let flags = flags_number irq in
    record {
      end = omega arith;
      soft = is_one {m = flags / 1 % 2} (omega arith) ∙ flag_back irq.soft;
      line = is_one {m = flags / 2 % 2} (omega arith) ∙ flag_back irq.line;
      rise = is_one {m = flags / 4 % 2} (omega arith) ∙ flag_back irq.rise;
      edge = is_one {m = flags / 8 % 2} (omega arith) ∙ flag_back irq.edge;
      enabled = is_one {m = flags / 16 % 2} (omega arith) ∙ flag_back irq.enabled;
      group = ap (λ b. if b then G1 else G0) (is_one {m = flags / 32 % 2} {n = group_number irq.group} (omega arith)) ∙ group_bit irq.group;
      en0 = is_one {m = flags / 64 % 2} (omega arith) ∙ flag_back irq.en0;
      en1 = is_one {m = flags / 128 % 2} (omega arith) ∙ flag_back irq.en1;
      want = is_one {m = flags / 256 % 2} (omega arith) ∙ flag_back irq.want;
    }

pub packed_is : (irq : Irq) → IsIrq irq → irq_of (packed irq) ≡ irq
packed_is irq is = word_back irq (flags_number irq) is (flags_hold irq)

-- a record that an interrupt's word can have
pub record IsOwned (shape : GuestShape) (key : Key) (irq : Irq) : Type 0 where
  pub record_of : IsRecordOf shape key irq
  pub holder : IsTrue (is_own key irq.holder)
  pub active : IsTrue (is_own key irq.act_by)
  pub one : IsTrue (is_active_by_holder irq)

pub owned_of : (shape : GuestShape) (key : Key) (word : ℕ) → IsIrqWord shape key word → IsOwned shape key (irq_of word)
owned_of shape key word is = record { record_of = is.irq; holder = is.holder; active = is.active; one = is.one }

pub irq_word : (shape : GuestShape) (key : Key) (irq : Irq) → IsOwned shape key irq → IsIrqWord shape key (packed irq)
irq_word shape key irq is =
    let back = packed_is irq is.record_of.packable in
    record {
      word_is = word_fits irq (flags_number irq) is.record_of.packable (flags_hold irq);
      irq = subst (IsRecordOf shape key) (sym back) is.record_of;
      holder = subst (λ i. IsTrue (is_own key i.holder)) (sym back) is.holder;
      active = subst (λ i. IsTrue (is_own key i.act_by)) (sym back) is.active;
      one = subst (λ i. IsTrue (is_active_by_holder i)) (sym back) is.one;
    }

-- The words of vCPUs, of the queue and of GICD_CTLR.

pub vcpu_word : (vcpu : VcpuWord) → IsTrue (is_vcpu_word (packed_vcpu vcpu))
vcpu_word vcpu = of vcpu.lpis vcpu.kick
  where
    of : (lpis kick : Bool) → IsTrue (nat_lt (bit_of lpis + bit_of kick * 2) 4)
    of true true = refl
    of true false = refl
    of false true = refl
    of false false = refl

-- a queue's word reads as it was packed, and is well formed
same_queue : (a b : QueueWord) → a.turn ≡ b.turn → a.offset ≡ b.offset → a.stalled ≡ b.stalled → a ≡ b
same_queue a b turn offset stalled =
    ap (λ t. record { turn = t; offset = a.offset; stalled = a.stalled }) turn ∙ ap (λ o. record { turn = b.turn; offset = o; stalled = a.stalled }) offset ∙ ap (λ s. record { turn = b.turn; offset = b.offset; stalled = s }) stalled

pub queue_back : (queue : QueueWord) → IsQueue queue → queue_of (packed_queue queue) ≡ queue
queue_back queue is = by_turn queue.turn is.actor
  where
    by_turn : (turn : Option ℕ) → ForSome turn (λ actor. actor < 64) → queue_of (packed_queue (record queue { turn = turn })) ≡ record queue { turn = turn }
    by_turn None few =
        let small = flag_small queue.stalled in
        let word = bit_of queue.stalled + queue.offset + 0 in
        same_queue (queue_of word) (record queue { turn = None }) (ap (λ b. cond b (Some (field_at word 33 6)) None) (is_one {m = word / 4294967296 % 2} {n = 0} (omega (arith, is.within)))) (omega (arith, is.within, is.command))
        (is_one {m = word / 1 % 2} {n = bit_of queue.stalled} (omega (arith, is.command)) ∙ flag_back queue.stalled)
    by_turn (Some actor) few =
        let small = flag_small queue.stalled in
        let few : actor < 64 = few actor refl in
        let word = bit_of queue.stalled + queue.offset + (4294967296 + actor * 8589934592) in
        same_queue (queue_of word) (record queue { turn = Some actor })
        (ap (λ b. cond b (Some (field_at word 33 6)) None) (is_one {m = word / 4294967296 % 2} {n = 1} (omega (arith, is.within))) ∙ ap Some (omega (arith, is.within)))
        (omega (arith, is.within, is.command)) (is_one {m = word / 1 % 2} {n = bit_of queue.stalled} (omega (arith, is.command)) ∙ flag_back queue.stalled)

pub queue_word : (queue : QueueWord) → IsQueue queue → IsTrue (is_queue_word (packed_queue queue))
queue_word queue is = by_turn queue.turn is.actor
  where
    by_turn : (turn : Option ℕ) → ForSome turn (λ actor. actor < 64) → IsTrue (is_queue_word (packed_queue (record queue { turn = turn })))
    by_turn None few =
        let small = flag_small queue.stalled in
        let word = bit_of queue.stalled + queue.offset + 0 in
        and_from (nat_eq (word / 2 % 16) 0 && nat_eq (word / 1048576 % 4096) 0) _
        (and_from (nat_eq (word / 2 % 16) 0) _ (eq-eqb (word / 2 % 16) 0 (omega (arith, is.command))) (eq-eqb (word / 1048576 % 4096) 0 (omega (arith, is.within))))
        (ap (λ b. cond b (nat_eq (word / 549755813888) 0) (nat_eq (word / 8589934592) 0)) (is_one {m = word / 4294967296 % 2} {n = 0} (omega (arith, is.within))) ∙ eq-eqb (word / 8589934592) 0 (omega (arith, is.within)))
    by_turn (Some actor) few =
        let small = flag_small queue.stalled in
        let few : actor < 64 = few actor refl in
        let word = bit_of queue.stalled + queue.offset + (4294967296 + actor * 8589934592) in
        and_from (nat_eq (word / 2 % 16) 0 && nat_eq (word / 1048576 % 4096) 0) _
        (and_from (nat_eq (word / 2 % 16) 0) _ (eq-eqb (word / 2 % 16) 0 (omega (arith, is.command))) (eq-eqb (word / 1048576 % 4096) 0 (omega (arith, is.within))))
        (ap (λ b. cond b (nat_eq (word / 549755813888) 0) (nat_eq (word / 8589934592) 0)) (is_one {m = word / 4294967296 % 2} {n = 1} (omega (arith, is.within))) ∙ eq-eqb (word / 549755813888) 0 (omega (arith, is.within)))

-- what any well-formed word of a queue says can be
pub queue_fits : (word : ℕ) → ForSome (queue_of word).turn (λ actor. actor < 64) → IsQueue (queue_of word)
queue_fits word few = record { actor = few; command = omega arith; within = omega arith }

-- and so GICD_CTLR's
same_ctlr : (a b : CtlrWord) → a.enables.group0 ≡ b.enables.group0 → a.enables.group1 ≡ b.enables.group1 → a.mark ≡ b.mark → a ≡ b
same_ctlr a b group0 group1 mark =
    ap (λ g. record { enables = record { group0 = g; group1 = a.enables.group1 }; mark = a.mark }) group0
    ∙ ap (λ g. record { enables = record { group0 = b.enables.group0; group1 = g }; mark = a.mark }) group1
    ∙ ap (λ m. record { enables = b.enables; mark = m }) mark

pub ctlr_back : (ctlr : CtlrWord) → IsCtlr ctlr → ctlr_of (packed_ctlr ctlr) ≡ ctlr
ctlr_back ctlr is = by_mark ctlr.mark is
  where
    by_mark : (mark : Option ℕ) → ForSome mark (λ actor. actor < 64) → ctlr_of (packed_ctlr (record ctlr { mark = mark })) ≡ record ctlr { mark = mark }
    by_mark None few =
        let small0 = flag_small ctlr.enables.group0 in
        let small1 = flag_small ctlr.enables.group1 in
        let word = bit_of ctlr.enables.group0 + bit_of ctlr.enables.group1 * 2 + 0 in
        same_ctlr (ctlr_of word) (record ctlr { mark = None }) (is_one {m = word / 1 % 2} {n = bit_of ctlr.enables.group0} (omega arith) ∙ flag_back ctlr.enables.group0)
        (is_one {m = word / 2 % 2} {n = bit_of ctlr.enables.group1} (omega arith) ∙ flag_back ctlr.enables.group1) (ap (λ b. cond b (Some (field_at word 3 6)) None) (is_one {m = word / 4 % 2} {n = 0} (omega arith)))
    by_mark (Some actor) few =
        let small0 = flag_small ctlr.enables.group0 in
        let small1 = flag_small ctlr.enables.group1 in
        let few : actor < 64 = few actor refl in
        let word = bit_of ctlr.enables.group0 + bit_of ctlr.enables.group1 * 2 + (4 + actor * 8) in
        same_ctlr (ctlr_of word) (record ctlr { mark = Some actor }) (is_one {m = word / 1 % 2} {n = bit_of ctlr.enables.group0} (omega arith) ∙ flag_back ctlr.enables.group0)
        (is_one {m = word / 2 % 2} {n = bit_of ctlr.enables.group1} (omega arith) ∙ flag_back ctlr.enables.group1)
        (ap (λ b. cond b (Some (field_at word 3 6)) None) (is_one {m = word / 4 % 2} {n = 1} (omega arith)) ∙ ap Some (omega arith))

pub ctlr_word : (ctlr : CtlrWord) → IsCtlr ctlr → IsTrue (is_ctlr_word (packed_ctlr ctlr))
ctlr_word ctlr is = by_mark ctlr.mark is
  where
    by_mark : (mark : Option ℕ) → ForSome mark (λ actor. actor < 64) → IsTrue (is_ctlr_word (packed_ctlr (record ctlr { mark = mark })))
    by_mark None few =
        let small0 = flag_small ctlr.enables.group0 in
        let small1 = flag_small ctlr.enables.group1 in
        let word = bit_of ctlr.enables.group0 + bit_of ctlr.enables.group1 * 2 + 0 in
        ap (λ b. cond b (nat_lt word 512) (nat_lt word 4)) (is_one {m = word / 4 % 2} {n = 0} (omega arith)) ∙ lt-ltb word 4 (omega arith)
    by_mark (Some actor) few =
        let small0 = flag_small ctlr.enables.group0 in
        let small1 = flag_small ctlr.enables.group1 in
        let few : actor < 64 = few actor refl in
        let word = bit_of ctlr.enables.group0 + bit_of ctlr.enables.group1 * 2 + (4 + actor * 8) in
        ap (λ b. cond b (nat_lt word 512) (nat_lt word 4)) (is_one {m = word / 4 % 2} {n = 1} (omega arith)) ∙ lt-ltb word 512 (omega arith)
