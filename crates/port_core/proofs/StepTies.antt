-- What words and actors' own states say of each other after steps.
use Rattle.std.proofs.Common.{◌≡◌, ◌≢◌, ℕ, ◌<◌, ◌^◌, Bool, IsTrue, true, false, is_none, Option, Some, None, refl, sym, ap, subst, ◌∙◌, arith}
use Rattle.std.specs.Option.{ForSome}
use Rattle.std.proofs.lemmas.Bool.{eqb-true, eq-eqb, ne_eqb}
use Rattle.core_words.specs.Words.{GuestShape, Key, Lpi, IsShape, has_interrupt, Irq as IrqRecord, is_number, packed, irq_of}
use Rattle.core_words.specs.Registers.{QueueWord, IsQueue, queue_of, packed as packed_queue}
use Rattle.core_words.specs.declared.line.Line.{Line as LineRecord}
use Rattle.port_core.specs.declared.local.Local.{Local}
use Rattle.core_words.specs.declared.words.VcpuWord.{VcpuWord}
use Rattle.core_words.specs.declared.words.CtlrWord.{CtlrWord}
use Rattle.core_words.specs.declared.word_id.WordId.{WordId}
use Rattle.core_words.specs.declared.word_id.WordId.TheVariants.{Irq, Vcpu, Index, Queue, Ctlr, Plain, Line}
use Rattle.core_words.specs.Forms.{packed_vcpu, ctlr_of, packed_ctlr, packed_line, line_of, IsLine}
use Rattle.port_core.specs.Local.{is_at, is_in_line, is_inside}
use Rattle.port_core.specs.Actor.{actor_count}
use Rattle.port_core.specs.Valid.{IsActorOrNone, IsIndexWord, IsLineWord, IsLocal, Ties, CanFind}
use Rattle.port_core.proofs.FrameLemmas.{Keeps}
use Rattle.port_core.proofs.LineLemmas.{line_back, line_word}
use Rattle.port_core.proofs.StepLocals.{none_kept}
use Rattle.port_core.proofs.StepWords.{IsOwned, irq_word, packed_is, vcpu_word, queue_word, queue_back, ctlr_word, ctlr_back}

-- Numbers that are there or not.

pub number_is : (n : ℕ) (o : Option ℕ) → is_number n o ≡ true → o ≡ Some n
number_is n None h = absurd (cc)
number_is n (Some m) h = ap Some (eqb-true m n h)

pub number_self : (n : ℕ) → is_number n (Some n) ≡ true
number_self n = eq-eqb n n refl

pub number_other : (n m : ℕ) → n ≢ m → is_number n (Some m) ≡ false
number_other n m differ = ne_eqb m n (λ e. differ (sym e))

pub none_is : {T : Type 0} (o : Option T) → is_none o ≡ true → o ≡ None
none_is None h = refl
none_is (Some x) h = absurd (cc)

-- an actor's number fits its field
pub few_actors : (shape : GuestShape) (o : Option ℕ) → IsShape shape → IsActorOrNone shape o → ForSome o (λ actor. actor < 64)
few_actors shape o good h = λ actor e. let here : actor < actor_count shape = h actor e in omega (arith, here, good.vcpus, good.devices)

-- An actor that has what it had.

pub record SameTies (before after : Local) : Type 0 where
  pub at : (key : Key) → is_at key after.at ≡ is_at key before.at
  pub turn : after.turn ≡ before.turn
  pub ctlr : after.ctlr ≡ before.ctlr
  pub line : (number : ℕ) → is_in_line number after ≡ is_in_line number before

pub ties_kept : (shape : GuestShape) (actor : ℕ) (before after : Local) → SameTies before after → (word : WordId) (n : ℕ) → Ties shape actor before word n → Ties shape actor after word n
ties_kept shape actor before after same (Irq key) n h = h ∙ sym (same.at key)
ties_kept shape actor before after same Queue n h = h ∙ sym same.turn
ties_kept shape actor before after same Ctlr n h = h ∙ sym same.ctlr
ties_kept shape actor before after same (Vcpu vcpu) n h = tt
ties_kept shape actor before after same (Index vcpu number) n h = tt
ties_kept shape actor before after same (Plain index) n h = tt
ties_kept shape actor before after same (Line number) n h = h ∙ sym (same.line number)

-- the word stays as it was
pub keeps_word : (shape : GuestShape) (actor : ℕ) (before after : Local) (word : WordId) (found : ℕ) → CanFind shape actor before word found → IsLocal shape actor after → SameTies before after → Keeps shape actor before after word found found
keeps_word shape actor before after word found find is same =
    record { valid = find.valid; local = is; here = ties_kept shape actor before after same word found find.ties; others = λ other local differ h. h; elsewhere = λ w n differ h. ties_kept shape actor before after same w n h }

-- nothing changes
pub keeps_all : (shape : GuestShape) (actor : ℕ) (local : Local) (word : WordId) (found : ℕ) → CanFind shape actor local word found → IsLocal shape actor local → Keeps shape actor local local word found found
keeps_all shape actor local word found find is = keeps_word shape actor local local word found find is (record { at = λ key. refl; turn = refl; ctlr = refl; line = λ n. refl })

-- The words of which an actor's own state says nothing.

pub keeps_vcpu : (shape : GuestShape) (actor : ℕ) (before after : Local) (vcpu found : ℕ) (left : VcpuWord) → IsLocal shape actor after → SameTies before after → Keeps shape actor before after (Vcpu vcpu) found (packed_vcpu left)
keeps_vcpu shape actor before after vcpu found left is same =
    record { valid = vcpu_word left; local = is; here = tt; others = λ other local differ h. tt; elsewhere = λ w n differ h. ties_kept shape actor before after same w n h }

pub keeps_index : (shape : GuestShape) (actor : ℕ) (before after : Local) (vcpu number found left : ℕ) → IsIndexWord shape number left → IsLocal shape actor after → SameTies before after → Keeps shape actor before after (Index vcpu number) found left
keeps_index shape actor before after vcpu number found left valid is same =
    record { valid = valid; local = is; here = tt; others = λ other local differ h. tt; elsewhere = λ w n differ h. ties_kept shape actor before after same w n h }

-- The words of interrupts.

-- who holds the interrupt does not change
pub keeps_irq :
    (shape : GuestShape) (actor : ℕ) (before after : Local) (key : Key) (found : ℕ) (irq : IrqRecord) → IsOwned shape key irq → irq.holder ≡ (irq_of found).holder → Ties shape actor before (Irq key) found → IsLocal shape actor after
    → SameTies before after → Keeps shape actor before after (Irq key) found (packed irq)
keeps_irq shape actor before after key found irq owned held ties is same =
    let back : (irq_of (packed irq)).holder ≡ (irq_of found).holder = ap (λ i. i.holder) (packed_is irq owned.record_of.packable) ∙ held in
    record {
      valid = irq_word shape key irq owned;
      local = is;
      here = ap (is_number actor) back ∙ ties ∙ sym (same.at key);
      others = λ other local differ h. ap (is_number other) back ∙ h;
      elsewhere = λ w n differ h. ties_kept shape actor before after same w n h;
    }

-- the actor begins to hold the interrupt, goes on to, or ends it
pub record Moves (key : Key) (actor : ℕ) (before after : Local) (found irq : IrqRecord) : Type 0 where
  pub here : is_number actor irq.holder ≡ is_at key after.at
  pub others : (other : ℕ) → other ≢ actor → is_number other irq.holder ≡ is_number other found.holder
  pub at : (other : Key) → other ≢ key → is_at other after.at ≡ is_at other before.at
  pub turn : after.turn ≡ before.turn
  pub ctlr : after.ctlr ≡ before.ctlr
  pub line : (number : ℕ) → is_in_line number after ≡ is_in_line number before

pub keeps_moved :
    (shape : GuestShape) (actor : ℕ) (before after : Local) (key : Key) (found : ℕ) (irq : IrqRecord) → IsOwned shape key irq → IsLocal shape actor after → Moves key actor before after (irq_of found) irq
    → Keeps shape actor before after (Irq key) found (packed irq)
keeps_moved shape actor before after key found irq owned is moves =
    let back : (irq_of (packed irq)).holder ≡ irq.holder = ap (λ i. i.holder) (packed_is irq owned.record_of.packable) in
    record {
      valid = irq_word shape key irq owned;
      local = is;
      here = ap (is_number actor) back ∙ moves.here;
      others = λ other local differ h. ap (is_number other) back ∙ moves.others other differ ∙ h;
      elsewhere = else;
    }
  where
    else : (w : WordId) (n : ℕ) → w ≢ Irq key → Ties shape actor before w n → Ties shape actor after w n
    else (Irq k) n differ h = h ∙ sym (moves.at k (λ e. differ (ap Irq e)))
    else Queue n differ h = h ∙ sym moves.turn
    else Ctlr n differ h = h ∙ sym moves.ctlr
    else (Line number) n differ h = h ∙ sym (moves.line number)
    else (Vcpu vcpu) n differ h = tt
    else (Index vcpu number) n differ h = tt
    else (Plain index) n differ h = tt

-- The queue's word and GICD_CTLR's.

pub keeps_queue :
    (shape : GuestShape) (actor : ℕ) (before : Local) (turn : Bool) (shut found : ℕ) (left : QueueWord) → shut < 2 ^ 64 → (turn ≡ false → shut ≡ 0) → IsShape shape → IsActorOrNone shape left.turn → IsQueue left → is_number actor left.turn ≡ turn
    → ((other : ℕ) → other ≢ actor → is_number other left.turn ≡ is_number other (queue_of found).turn) → IsLocal shape actor before → Keeps shape actor before (record before { turn = turn; shut = shut }) Queue found (packed_queue left)
keeps_queue shape actor before turn shut found left fits idle good actors is here others local =
    let back : (queue_of (packed_queue left)).turn ≡ left.turn = ap (λ q. q.turn) (queue_back left is) in
    record {
      valid = (queue_word left is, λ a e. actors a (sym back ∙ e));
      local = record { points = local.points; levels = local.levels; at = local.at; once = local.once; room = local.room; owes = local.owes; marks_are = local.marks_are; marks = local.marks; cands = local.cands; line = local.line; shut = fits; idle = idle; device = λ e. none_kept before _ refl refl (local.device e) };
      here = ap (is_number actor) back ∙ here;
      others = λ other l differ h. ap (is_number other) back ∙ others other differ ∙ h;
      elsewhere = else;
    }
  where
    else : (w : WordId) (n : ℕ) → w ≢ Queue → Ties shape actor before w n → Ties shape actor (record before { turn = turn; shut = shut }) w n
    else (Irq k) n differ h = h
    else Queue n differ h = absurd (differ refl)
    else Ctlr n differ h = h
    else (Line number) n differ h = h
    else (Vcpu vcpu) n differ h = tt
    else (Index vcpu number) n differ h = tt
    else (Plain index) n differ h = tt

pub keeps_ctlr :
    (shape : GuestShape) (actor : ℕ) (before : Local) (mark : Bool) (found : ℕ) (left : CtlrWord) → IsShape shape → IsActorOrNone shape left.mark → is_number actor left.mark ≡ mark
    → ((other : ℕ) → other ≢ actor → is_number other left.mark ≡ is_number other (ctlr_of found).mark) → IsLocal shape actor before → Keeps shape actor before (record before { ctlr = mark }) Ctlr found (packed_ctlr left)
keeps_ctlr shape actor before mark found left good actors here others local =
    let is = few_actors shape left.mark good actors in
    let back : (ctlr_of (packed_ctlr left)).mark ≡ left.mark = ap (λ c. c.mark) (ctlr_back left is) in
    record {
      valid = (ctlr_word left is, λ a e. actors a (sym back ∙ e));
      local = record { points = local.points; levels = local.levels; at = local.at; once = local.once; room = local.room; owes = local.owes; marks_are = local.marks_are; marks = local.marks; cands = local.cands; line = local.line; shut = local.shut; idle = local.idle; device = λ e. none_kept before _ refl refl (local.device e) };
      here = ap (is_number actor) back ∙ here;
      others = λ other l differ h. ap (is_number other) back ∙ others other differ ∙ h;
      elsewhere = else;
    }
  where
    else : (w : WordId) (n : ℕ) → w ≢ Ctlr → Ties shape actor before w n → Ties shape actor (record before { ctlr = mark }) w n
    else (Irq k) n differ h = h
    else Queue n differ h = h
    else Ctlr n differ h = absurd (differ refl)
    else (Line number) n differ h = h
    else (Vcpu vcpu) n differ h = tt
    else (Index vcpu number) n differ h = tt
    else (Plain index) n differ h = tt

-- The words of lines.

-- what a line's word can say in this guest
pub record IsLineIn (shape : GuestShape) (line : LineRecord) : Type 0 where
  pub fits : IsLine line
  pub lpi : ForSome line.pair (λ pair. IsTrue (has_interrupt shape (Lpi line.lpi)))
  pub inside : line.inside < 2 ^ shape.devices

pub line_in : (shape : GuestShape) (line : LineRecord) → IsLineIn shape line → IsLineWord shape (packed_line line)
line_in shape line is =
    let back = line_back line is.fits in
    record {
      word_is = line_word line is.fits;
      lpi = subst (λ l. ForSome l.pair (λ pair. IsTrue (has_interrupt shape (Lpi l.lpi)))) (sym back) is.lpi;
      inside = subst (λ l. l.inside < 2 ^ shape.devices) (sym back) is.inside;
    }

-- the actor gets into a line, stays there, or leaves it
pub record MovesLine (shape : GuestShape) (number actor : ℕ) (before after : Local) (found left : LineRecord) : Type 0 where
  pub here : is_inside shape actor left ≡ is_in_line number after
  pub others : (other : ℕ) → other ≢ actor → is_inside shape other left ≡ is_inside shape other found
  pub lines : (other : ℕ) → other ≢ number → is_in_line other after ≡ is_in_line other before
  pub at : after.at ≡ before.at
  pub turn : after.turn ≡ before.turn
  pub ctlr : after.ctlr ≡ before.ctlr

pub keeps_line :
    (shape : GuestShape) (actor : ℕ) (before after : Local) (number found : ℕ) (left : LineRecord) → IsLineIn shape left → IsLocal shape actor after → MovesLine shape number actor before after (line_of found) left
    → Keeps shape actor before after (Line number) found (packed_line left)
keeps_line shape actor before after number found left in_guest is moves =
    let back = line_back left in_guest.fits in
    record {
      valid = line_in shape left in_guest;
      local = is;
      here = ap (is_inside shape actor) back ∙ moves.here;
      others = λ other local differ h. ap (is_inside shape other) back ∙ moves.others other differ ∙ h;
      elsewhere = else;
    }
  where
    else : (w : WordId) (n : ℕ) → w ≢ Line number → Ties shape actor before w n → Ties shape actor after w n
    else (Irq key) n differ h = h ∙ ap (is_at key) (sym moves.at)
    else Queue n differ h = h ∙ sym moves.turn
    else Ctlr n differ h = h ∙ sym moves.ctlr
    else (Line other) n differ h = h ∙ sym (moves.lines other (λ e. differ (ap Line e)))
    else (Vcpu vcpu) n differ h = tt
    else (Index vcpu word) n differ h = tt
    else (Plain index) n differ h = tt
