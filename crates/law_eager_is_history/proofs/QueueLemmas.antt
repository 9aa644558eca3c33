-- The plain words of the ITS and its queue, as its actor knows them, and as they are.
use Rattle.std.proofs.Common.{◌≡◌, ◌≢◌, ℕ, ◌+◌, ◌/◌, ◌<◌, ◌%◌, ◌==◌, ◌&&◌, not, Bool, true, false, cond, IsTrue, All, List, [], ◌∷◌, length, fold, inl, inr, refl, sym, ap, ◌∙◌, subst, slice_set, arith}
use Rattle.std.specs.List.{list_all, slice_index}
use Rattle.std.proofs.lemmas.Bool.{and_parts, ne_eqb, eq-eqb}
use Rattle.std.proofs.lemmas.Bool.Decides.{eqb_tells}
use Rattle.std.proofs.lemmas.List.{get_or-set_same, get_or-set_other, length-set}
use Rattle.std.proofs.lemmas.List.Elements.{All-head, All-tail}
use Rattle.floor_histories.proofs.GicFrame.TestLemmas.{under}
use Rattle.floor_histories.specs.Words.{GuestShape}
use Rattle.floor_histories.specs.Registers.{queue_bytes, enabled_in}
use Rattle.floor_histories.specs.Calls.{has_plain, place_of_plain, its_from, plain_count, PlainWord, Ram, Propbaser, Pendbaser, ItsCtlr, Cbaser, Cwriter, Baser0, Baser1, Fault, Event, Up, Down, Enable, Touch, Cpu, Put, CtlrBegin, Runs, Done, Stalls, maps_done, takes_command, is_queue_valid, HaveSameIts, left_by, HappensFreely, View}
use Rattle.floor_histories.specs.GicCall.declared.event.Event.TheVariants.{Raise, Queue}
use Rattle.floor_histories.specs.Histories.{IdealGuest, view_of, word_at, with_word, after_event, after_events, IsQueueInOrder}
use Rattle.gic_ideal.proofs.EffectLemmas.{shape_event}
use Rattle.law_eager_is_history.proofs.EventLemmas.{is_plain}

-- A word that is put.

pub word_put : (guest : IdealGuest) (word other : PlainWord) (value : ℕ) → length guest.words ≡ plain_count guest.shape → IsTrue (has_plain guest.shape word) → IsTrue (has_plain guest.shape other) → place_of_plain guest.shape other < plain_count guest.shape
    → word_at (with_word guest word value) other ≡ cond (place_of_plain guest.shape other == place_of_plain guest.shape word) value (word_at guest other)
word_put guest word other value each here there within =
    let shape = guest.shape in
    let p = place_of_plain shape other in
    let q = place_of_plain shape word in
    ap (λ b. cond b (slice_index (cond (has_plain shape word) (slice_set guest.words q value) guest.words) p) 0) there
    ∙ ap (λ b. slice_index (cond b (slice_set guest.words q value) guest.words) p) here
    ∙ elim (eqb_tells p q) [
      | inl same ↦ rw same.0 (subst (λ m. slice_index (slice_set guest.words m value) p ≡ value) same.1 (get_or-set_same guest.words p value 0 (omega (arith, within, each))))
      | inr differ ↦ rw differ.0 (get_or-set_other guest.words q p value 0 differ.1 ∙ ap (λ b. cond b (slice_index guest.words p) 0) (sym there))
    ]

-- a word of the ITS when another word is put
pub word_kept : (guest : IdealGuest) (word other : PlainWord) (value : ℕ) → length guest.words ≡ plain_count guest.shape → IsTrue (has_plain guest.shape word) → IsTrue (has_plain guest.shape other) → place_of_plain guest.shape other < plain_count guest.shape
    → place_of_plain guest.shape other ≢ place_of_plain guest.shape word → word_at (with_word guest word value) other ≡ word_at guest other
word_kept guest word other value each here there within differ =
    word_put guest word other value each here there within ∙ ap (λ b. cond b value (word_at guest other)) (ne_eqb (place_of_plain guest.shape other) (place_of_plain guest.shape word) differ)

pub word_new : (guest : IdealGuest) (word : PlainWord) (value : ℕ) → length guest.words ≡ plain_count guest.shape → IsTrue (has_plain guest.shape word) → place_of_plain guest.shape word < plain_count guest.shape → word_at (with_word guest word value) word ≡ value
word_new guest word value each here within =
    word_put guest word word value each here here within ∙ ap (λ b. cond b value (word_at guest word)) (eq-eqb (place_of_plain guest.shape word) (place_of_plain guest.shape word) refl)

-- as many words stay
words_with : (guest : IdealGuest) (word : PlainWord) (value : ℕ) → length (with_word guest word value).words ≡ length guest.words
words_with guest word value = of (has_plain guest.shape word)
  where
    of : (b : Bool) → length (cond b (slice_set guest.words (place_of_plain guest.shape word) value) guest.words) ≡ length guest.words
    of true = length-set guest.words (place_of_plain guest.shape word) value
    of false = refl

pub words_event : (turn : Bool) (guest : IdealGuest) (event : Event) → IsTrue (is_plain turn event) → length (after_event guest event).words ≡ length guest.words
words_event turn guest (Raise key) h = refl
words_event turn guest (Up key) h = refl
words_event turn guest (Down key) h = refl
words_event turn guest (Enable vcpu) h = refl
words_event turn guest (Touch key touch) h = refl
words_event turn guest (Put word value) h = words_with guest word value
words_event turn guest (Queue offset Runs) h = refl
words_event turn guest (Queue offset (Done words)) h = refl
words_event turn guest (Queue offset (Stalls fault)) h = words_with guest Fault fault
words_event turn guest event h = absurd (cc)

-- What the actor that has the ITS knows of it.

module _ (guest : IdealGuest) (view : View) (each : length guest.words ≡ plain_count guest.shape) (same : HaveSameIts view (view_of guest)) where
  put_known : (word : PlainWord) (value : ℕ) → IsTrue (has_plain guest.shape word) → HaveSameIts (left_by guest.shape view (Put word value)) (view_of (after_event guest (Put word value)))
  put_known word value here =
      let shape = guest.shape in
      let knows : (other : PlainWord) → view.words other ≡ word_at guest other → IsTrue (has_plain shape other) → place_of_plain shape other < plain_count shape → cond (place_of_plain shape other == place_of_plain shape word) value (view.words other) ≡ word_at (with_word guest word value) other =
      λ other e there within. ap (cond (place_of_plain shape other == place_of_plain shape word) value) e ∙ sym (word_put guest word other value each here there within) in
      record {
        ctlr = knows ItsCtlr same.ctlr refl (omega arith);
        cbaser = knows Cbaser same.cbaser refl (omega arith);
        cwriter = knows Cwriter same.cwriter refl (omega arith);
        offset = same.offset;
        stalled = same.stalled;
        maps = same.maps;
      }

  stall_known : (offset fault : ℕ) → HaveSameIts (left_by guest.shape view (Queue offset (Stalls fault))) (view_of (after_event guest (Queue offset (Stalls fault))))
  stall_known offset fault =
      record {
        ctlr = same.ctlr ∙ sym (word_kept guest Fault ItsCtlr fault each refl refl (omega arith) (λ e. absurd (omega (arith, e))));
        cbaser = same.cbaser ∙ sym (word_kept guest Fault Cbaser fault each refl refl (omega arith) (λ e. absurd (omega (arith, e))));
        cwriter = same.cwriter ∙ sym (word_kept guest Fault Cwriter fault each refl refl (omega arith) (λ e. absurd (omega (arith, e))));
        offset = refl;
        stalled = refl;
        maps = same.maps;
      }

  pub event_known : (turn : Bool) (event : Event) → IsTrue (is_plain turn event) → HappensFreely guest.shape event → HaveSameIts (left_by guest.shape view event) (view_of (after_event guest event))
  event_known turn (Raise key) h can = record { ctlr = same.ctlr; cbaser = same.cbaser; cwriter = same.cwriter; offset = same.offset; stalled = same.stalled; maps = same.maps }
  event_known turn (Up key) h can = record { ctlr = same.ctlr; cbaser = same.cbaser; cwriter = same.cwriter; offset = same.offset; stalled = same.stalled; maps = same.maps }
  event_known turn (Down key) h can = record { ctlr = same.ctlr; cbaser = same.cbaser; cwriter = same.cwriter; offset = same.offset; stalled = same.stalled; maps = same.maps }
  event_known turn (Enable vcpu) h can = record { ctlr = same.ctlr; cbaser = same.cbaser; cwriter = same.cwriter; offset = same.offset; stalled = same.stalled; maps = same.maps }
  event_known turn (Touch key touch) h can = record { ctlr = same.ctlr; cbaser = same.cbaser; cwriter = same.cwriter; offset = same.offset; stalled = same.stalled; maps = same.maps }
  event_known turn (Put word value) h can = put_known word value can.0
  event_known turn (Queue offset Runs) h can = record { ctlr = same.ctlr; cbaser = same.cbaser; cwriter = same.cwriter; offset = refl; stalled = refl; maps = same.maps }
  event_known turn (Queue offset (Done words)) h can = absurd can
  event_known turn (Queue offset (Stalls fault)) h can = stall_known offset fault
  event_known turn event h can = absurd (cc)

  pub done_known : (offset : ℕ) (words : List ℕ) → HaveSameIts (left_by guest.shape view (Queue offset (Done words))) (view_of (after_event guest (Queue offset (Done words))))
  done_known offset words = record { ctlr = same.ctlr; cbaser = same.cbaser; cwriter = same.cwriter; offset = refl; stalled = refl; maps = ap (λ maps. maps_done maps words) same.maps }

  pub stalled_known : (offset fault : ℕ) → HaveSameIts (left_by guest.shape view (Queue offset (Stalls fault))) (view_of (after_event guest (Queue offset (Stalls fault))))
  stalled_known offset fault = stall_known offset fault

pub events_known : (turn : Bool) (shape : GuestShape) (events : List Event) (guest : IdealGuest) (view : View) → guest.shape ≡ shape → length guest.words ≡ plain_count guest.shape → HaveSameIts view (view_of guest) → IsTrue (list_all (is_plain turn) events) → All (HappensFreely shape) events
    → HaveSameIts (fold (left_by shape) view events) (view_of (after_events events guest))
events_known turn shape [] guest view is each same h can = same
events_known turn shape (event ∷ events) guest view is each same h can =
    let parts = and_parts (is_plain turn event) (list_all (is_plain turn) events) h in
    let one : HaveSameIts (left_by shape view event) (view_of (after_event guest event)) =
    subst (λ s. HaveSameIts (left_by s view event) (view_of (after_event guest event))) is (event_known guest view each same turn event parts.0 (subst (λ s. HappensFreely s event) (sym is) (All-head (HappensFreely shape) event events can))) in
    events_known turn shape events (after_event guest event) (left_by shape view event) (shape_event event guest ∙ is)
    (words_event turn guest event parts.0 ∙ each ∙ ap plain_count (sym (shape_event event guest))) one parts.1 (All-tail (HappensFreely shape) event events can)

-- whether a command is taken is known
pub takes_known : (one other : View) → HaveSameIts one other → takes_command one ≡ takes_command other
takes_known one other same =
    ap (λ w. enabled_in w && is_queue_valid (one.words Cbaser) && not one.is_stalled && not (one.offset == one.words Cwriter)) same.ctlr
    ∙ ap (λ w. enabled_in (other.words ItsCtlr) && is_queue_valid w && not one.is_stalled && not (one.offset == one.words Cwriter)) same.cbaser
    ∙ ap (λ b. enabled_in (other.words ItsCtlr) && is_queue_valid (other.words Cbaser) && not b && not (one.offset == one.words Cwriter)) same.stalled
    ∙ ap (λ n. enabled_in (other.words ItsCtlr) && is_queue_valid (other.words Cbaser) && not other.is_stalled && not (n == one.words Cwriter)) same.offset
    ∙ ap (λ w. enabled_in (other.words ItsCtlr) && is_queue_valid (other.words Cbaser) && not other.is_stalled && not (other.offset == w)) same.cwriter

-- The places of the queue stay in order.

-- an event that changes neither the queue nor where its commands are
abbrev pub keeps_word : PlainWord → Bool
keeps_word Cbaser = false
keeps_word Cwriter = false
keeps_word word = true

abbrev pub keeps_queue : Event → Bool
keeps_queue (Queue offset change) = false
keeps_queue (Put word value) = keeps_word word
keeps_queue (Cpu vcpu reg write) = false
keeps_queue event = true

pub order_as : (guest other : IdealGuest) → IsQueueInOrder guest → word_at other Cbaser ≡ word_at guest Cbaser → word_at other Cwriter ≡ word_at guest Cwriter → other.offset ≡ guest.offset → IsQueueInOrder other
order_as guest other order cbaser cwriter offset =
    record {
      next = subst (λ n. n < queue_bytes (word_at other Cbaser)) (sym offset) (subst (λ w. guest.offset < queue_bytes w) (sym cbaser) order.next);
      writer = subst (λ n. n < queue_bytes (word_at other Cbaser)) (sym cwriter) (subst (λ w. word_at guest Cwriter < queue_bytes w) (sym cbaser) order.writer);
      place = ap (λ n. n % 32) cwriter ∙ order.place;
    }

apart_from : (shape : GuestShape) (word : PlainWord) → IsTrue (has_plain shape word) → IsTrue (keeps_word word) → (its_from shape + 1 ≢ place_of_plain shape word) × (its_from shape + 2 ≢ place_of_plain shape word)
apart_from shape (Ram index) here keeps = let low : index < shape.ram / 8 = under index (shape.ram / 8) here in (λ e. absurd (omega (arith, e, low)), λ e. absurd (omega (arith, e, low)))
apart_from shape (Propbaser vcpu) here keeps = let low : vcpu < shape.vcpus = under vcpu shape.vcpus here in (λ e. absurd (omega (arith, e, low)), λ e. absurd (omega (arith, e, low)))
apart_from shape (Pendbaser vcpu) here keeps = let low : vcpu < shape.vcpus = under vcpu shape.vcpus here in (λ e. absurd (omega (arith, e, low)), λ e. absurd (omega (arith, e, low)))
apart_from shape ItsCtlr here keeps = (λ e. absurd (omega (arith, e)), λ e. absurd (omega (arith, e)))
apart_from shape Cbaser here keeps = absurd (cc)
apart_from shape Cwriter here keeps = absurd (cc)
apart_from shape Baser0 here keeps = (λ e. absurd (omega (arith, e)), λ e. absurd (omega (arith, e)))
apart_from shape Baser1 here keeps = (λ e. absurd (omega (arith, e)), λ e. absurd (omega (arith, e)))
apart_from shape Fault here keeps = (λ e. absurd (omega (arith, e)), λ e. absurd (omega (arith, e)))

pub order_put : (guest : IdealGuest) (word : PlainWord) (value : ℕ) → length guest.words ≡ plain_count guest.shape → IsTrue (has_plain guest.shape word) → IsTrue (keeps_word word) → IsQueueInOrder guest → IsQueueInOrder (with_word guest word value)
order_put guest word value each here keeps order =
    let apart = apart_from guest.shape word here keeps in
    order_as guest (with_word guest word value) order (word_kept guest word Cbaser value each here refl (omega arith) apart.0) (word_kept guest word Cwriter value each here refl (omega arith) apart.1) refl

order_event : (guest : IdealGuest) (event : Event) → length guest.words ≡ plain_count guest.shape → HappensFreely guest.shape event → IsTrue (keeps_queue event) → IsQueueInOrder guest → IsQueueInOrder (after_event guest event)
order_event guest (Put word value) each can keeps order = order_put guest word value each can.0 keeps order
order_event guest (Queue offset change) each can keeps order = absurd (cc)
order_event guest (Cpu vcpu reg write) each can keeps order = absurd (cc)
order_event guest (Raise key) each can keeps order = order_as guest _ order refl refl refl
order_event guest (Up key) each can keeps order = order_as guest _ order refl refl refl
order_event guest (Down key) each can keeps order = order_as guest _ order refl refl refl
order_event guest (Enable vcpu) each can keeps order = order_as guest _ order refl refl refl
order_event guest (Touch key touch) each can keeps order = order_as guest _ order refl refl refl
order_event guest (CtlrBegin enables) each can keeps order = order_as guest _ order refl refl refl
order_event guest event each can keeps order = order

words_kept : (guest : IdealGuest) (event : Event) → IsTrue (keeps_queue event) → length (after_event guest event).words ≡ length guest.words
words_kept guest (Put word value) keeps = words_with guest word value
words_kept guest (Queue offset change) keeps = absurd (cc)
words_kept guest (Cpu vcpu reg write) keeps = absurd (cc)
words_kept guest (Raise key) keeps = refl
words_kept guest (Up key) keeps = refl
words_kept guest (Down key) keeps = refl
words_kept guest (Enable vcpu) keeps = refl
words_kept guest (Touch key touch) keeps = refl
words_kept guest (CtlrBegin enables) keeps = refl
words_kept guest event keeps = refl

pub order_events : (shape : GuestShape) (events : List Event) (guest : IdealGuest) → guest.shape ≡ shape → length guest.words ≡ plain_count guest.shape → All (HappensFreely shape) events → IsTrue (list_all keeps_queue events) → IsQueueInOrder guest → IsQueueInOrder (after_events events guest)
order_events shape [] guest is each can keeps order = order
order_events shape (event ∷ events) guest is each can keeps order =
    let parts = and_parts (keeps_queue event) (list_all keeps_queue events) keeps in
    order_events shape events (after_event guest event) (shape_event event guest ∙ is) (words_kept guest event parts.0 ∙ each ∙ ap plain_count (sym (shape_event event guest))) (All-tail (HappensFreely shape) event events can) parts.1
    (order_event guest event each (subst (λ s. HappensFreely s event) (sym is) (All-head (HappensFreely shape) event events can)) parts.0 order)
