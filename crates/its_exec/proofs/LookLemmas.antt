-- Looks at the registers of the queue.
use Rattle.std.proofs.Common.{◌≡◌, ◌≢◌, ℕ, ◌+◌, ◌<◌, ◌==◌, ◌&&◌, nat_le, nat_lt, not, Bool, true, false, if◌then◌else◌, IsTrue, IfSome, List, [], ◌∷◌, ◌++◌, Option, Some, None, is_none, refl, sym, ap, subst, ◌∙◌, arith}
use Rattle.std.specs.List.{list_all}
use Rattle.std.proofs.lemmas.Bool.{and_parts, eq-eqb, ne_eqb, ltb-true, leb-true}
use Rattle.std.proofs.lemmas.List.Folds.{list_all-append}
use Rattle.port_call.specs.Words.{GuestShape, Lpi, interrupt_count, has_interrupt}
use Rattle.port_call.specs.Calls.{place_of_plain, PlainWord, ItsCtlr, Cbaser, Cwriter, takes_command, Happened, Place, is_queue_valid}
use Rattle.port_call.specs.GicCall.declared.event.Event.TheVariants.{Read}
use Rattle.port_call.specs.GicCall.declared.event.Place.TheVariants.{Word, Queue as QueuePlace}
use Rattle.port_call.specs.GicCall.declared.event.Found.TheVariants.{Word as FoundWord, Queue as FoundQueue}
use Rattle.port_call.specs.Registers.{enabled_in, QueueWord, queue_of, is_queue_word, IsQueue}
use Rattle.port_call.specs.Core.{Made, CoreStep, Look, RamLook, WordId, Irq, Queue, Plain, is_on, ends_command, place_of_word, Seen, AddsStep, made_by, shape_of, part_events, word_of}
use Rattle.port_call.proofs.PortCore.PortLemmas.{adds_join}
use Rattle.port_call.specs.Memory.{view_by}
use Rattle.port_call.specs.Piece.{takes_none}
use Rattle.port_call.specs.Plain.{ReadsPlain}
use Rattle.port_call.proofs.KnownLemmas.{are_off}
use Rattle.port_call.proofs.PieceLemmas.{piece_one, seen_nil, piece_nil}
use Rattle.port_call.proofs.SettleLemmas.{handed_none}
use Rattle.port_call.proofs.TurnLemmas.{piece_then, events_then}
use Rattle.its_exec.specs.declared.known.KnownQueue.{KnownQueue}
use Rattle.its_exec.specs.Known.{Knows, KnowsQueue, LooksAtQueue, is_read, takes_next, are_within, are_going, keeps_read, Reading}
use Rattle.its_exec.proofs.FrameLemmas.{both, word_of_place, since, since_last, knows_by, Leaves, leaves, knows_on, within_none, within_joins, within_by, going_joins, going_by, untouched_on}

-- Parts that only look at plain words.

pub reading_joins : (old mid new : Seen) (early late : List Made) → Reading old mid early → Reading mid new late → Reading old new (early ++ late)
reading_joins old mid new early late one two =
    record {
      adds = adds_join old mid new early late one.adds two.adds;
      local = two.local ∙ one.local;
      within = within_joins early late one.within two.within;
      going = going_joins early late one.going two.going;
      reads =
          ap (list_all is_read) (events_then old mid early late one.adds) ∙ list_all-append is_read (part_events old early) (part_events mid late)
          ∙ both (list_all is_read (part_events old early)) (list_all is_read (part_events mid late)) one.reads two.reads;
      untouched = λ id there is. two.untouched id (subst (λ shape. IsTrue (has_interrupt shape (Lpi id))) (sym (ap shape_of one.adds.new_is)) there) (one.untouched id there is);
      piece = piece_then old mid early late one.adds one.piece two.piece;
    }

pub reading_none : (seen : Seen) → Reading seen seen []
reading_none seen = record { adds = record { new_is = sym (seen_nil seen) }; local = refl; within = refl; going = refl; reads = refl; untouched = λ id there is. is; piece = piece_nil seen }

-- the words of the ITS have places of their own
pub queue_apart : (shape : GuestShape) (n : ℕ) → (place_of_word shape (Plain n) == place_of_word shape Queue) ≡ false
queue_apart shape n = ne_eqb (place_of_word shape (Plain n)) (place_of_word shape Queue) (λ e. omega (arith, e))

pub plain_apart : (shape : GuestShape) (m n : ℕ) → m ≢ n → (place_of_word shape (Plain m) == place_of_word shape (Plain n)) ≡ false
plain_apart shape m n differ = ne_eqb (place_of_word shape (Plain m)) (place_of_word shape (Plain n)) (λ e. differ (omega (arith, e)))

-- an LPI's word comes before them
pub lpi_place : (shape : GuestShape) (id : ℕ) → IsTrue (has_interrupt shape (Lpi id)) → place_of_word shape (Irq (Lpi id)) < interrupt_count shape
lpi_place shape id there =
    let parts = and_parts (nat_le 8192 id) (nat_lt id (8192 + shape.lpis)) there in
    let high = ltb-true id (8192 + shape.lpis) parts.1 in
    let low = leb-true 8192 id parts.0 in
    omega (arith, high, low)

pub plain_lpi_apart : (shape : GuestShape) (n id : ℕ) → IsTrue (has_interrupt shape (Lpi id)) → (place_of_word shape (Plain n) == place_of_word shape (Irq (Lpi id))) ≡ false
plain_lpi_apart shape n id there = let lt = lpi_place shape id there in ne_eqb (place_of_word shape (Plain n)) (place_of_word shape (Irq (Lpi id))) (λ e. omega (arith, e, lt))

pub queue_lpi_apart : (shape : GuestShape) (id : ℕ) → IsTrue (has_interrupt shape (Lpi id)) → (place_of_word shape Queue == place_of_word shape (Irq (Lpi id))) ≡ false
queue_lpi_apart shape id there = let lt = lpi_place shape id there in ne_eqb (place_of_word shape Queue) (place_of_word shape (Irq (Lpi id))) (λ e. omega (arith, e, lt))

-- a step leaves all other words
pub off_one : (shape : GuestShape) (actor : ℕ) (word : WordId) (look : Made) (step : CoreStep) → look.step ≡ step → (place_of_word shape (word_of shape actor step) == place_of_word shape word) ≡ false → IsTrue (are_off shape actor word (look ∷ []))
off_one shape actor word look step e apart =
    let P : Bool → Type 0 = λ b. IsTrue ((if b then false else true) && true) in
    subst P (sym (ap (λ s. place_of_word shape (word_of shape actor s) == place_of_word shape word) e ∙ apart)) refl

-- a look at a plain word
look_within : (look : Made) (index : ℕ) → look.step ≡ RamLook index → IsTrue (takes_none (look ∷ [])) → IsTrue (are_within (look ∷ []))
look_within look index step none = within_by (look ∷ []) none (ap (λ step. not (ends_command step) && true) step)

look_going : (look : Made) (index : ℕ) → look.step ≡ RamLook index → IsTrue (takes_none (look ∷ [])) → IsTrue (are_going (look ∷ []))
look_going look index step none = going_by (look ∷ []) none (ap (λ step. keeps_read step && true) step)

pub reading_plain : (old new : Seen) (word : PlainWord) (value : ℕ) (reads : ReadsPlain old new word value) → Reading old new (reads.look ∷ [])
reading_plain old new word value reads =
    record {
      adds = reads.adds;
      local = reads.local_is;
      within = look_within reads.look (place_of_plain (shape_of old) word) reads.step_is reads.none_taken;
      going = look_going reads.look (place_of_plain (shape_of old) word) reads.step_is reads.none_taken;
      reads = ap (list_all is_read) reads.events;
      untouched = λ id there is.
          untouched_on old new (reads.look ∷ []) id reads.adds (look_within reads.look (place_of_plain (shape_of old) word) reads.step_is reads.none_taken)
          (off_one (shape_of old) old.actor (Irq (Lpi id)) reads.look (RamLook (place_of_plain (shape_of old) word)) reads.step_is (plain_lpi_apart (shape_of old) (place_of_plain (shape_of old) word) id there)) is;
      piece = reads.piece;
    }

pub plain_leaves : (old new : Seen) (word : PlainWord) (value : ℕ) (place : Place) → ReadsPlain old new word value
    → (place_of_word (shape_of old) (Plain (place_of_plain (shape_of old) word)) == place_of_word (shape_of old) (word_of_place (shape_of old) place)) ≡ false → Leaves old new place
plain_leaves old new word value place reads apart =
    leaves old new (reads.look ∷ []) place reads.adds reads.none_taken (off_one (shape_of old) old.actor (word_of_place (shape_of old) place) reads.look (RamLook (place_of_plain (shape_of old) word)) reads.step_is apart)

-- and what it found is known
pub plain_known : (old new : Seen) (word : PlainWord) (value : ℕ) → ReadsPlain old new word value → Knows new (Word word) (FoundWord value)
plain_known old new word value reads =
    let on : is_on (shape_of old) old.actor (Plain (place_of_plain (shape_of old) word)) reads.look ≡ true
    = ap (λ step. place_of_word (shape_of old) (word_of (shape_of old) old.actor step) == place_of_word (shape_of old) (Plain (place_of_plain (shape_of old) word))) reads.step_is
    ∙ eq-eqb (place_of_word (shape_of old) (Plain (place_of_plain (shape_of old) word))) (place_of_word (shape_of old) (Plain (place_of_plain (shape_of old) word))) refl in
    let last = since_last old new reads.look (Plain (place_of_plain (shape_of old) word)) reads.adds reads.none_taken on in
    let By : ℕ → Type 0 = λ n. Knows new (Word word) (FoundWord n) in
    subst By reads.left_is (knows_by new (Word word) reads.look.left (ap (λ shape. (since_word new shape)) (ap shape_of reads.adds.new_is) ∙ last))
  where
    since_word : Seen → GuestShape → Option ℕ
    since_word seen shape = since seen (Plain (place_of_plain shape word))

-- The looks.

-- a look at the queue's word
queue_reading : (old new : Seen) (found : ℕ) (add : AddsStep old new (Look Queue) found) → Reading old new (made_by old (Look Queue) found add.tables ∷ [])
queue_reading old new found add =
    let made = made_by old (Look Queue) found add.tables in
    record {
      adds = add.adds;
      local = ap (λ seen. seen.local) add.adds.new_is;
      within = within_by (made ∷ []) (both (is_none add.tables) true (handed_none (Look Queue) found old add.tables refl add.handed) refl) refl;
      going = going_by (made ∷ []) (both (is_none add.tables) true (handed_none (Look Queue) found old add.tables refl add.handed) refl) refl;
      reads = refl;
      untouched = λ id there is.
          untouched_on old new (made ∷ []) id add.adds (within_by (made ∷ []) (both (is_none add.tables) true (handed_none (Look Queue) found old add.tables refl add.handed) refl) refl)
          (off_one (shape_of old) old.actor (Irq (Lpi id)) made (Look Queue) refl (queue_lpi_apart (shape_of old) id there)) is;
      piece = piece_one old made refl refl;
    }

queue_known : (old new : Seen) (found : ℕ) (add : AddsStep old new (Look Queue) found) → Knows new QueuePlace (FoundQueue (queue_of found).offset (queue_of found).stalled)
queue_known old new found add =
    let made = made_by old (Look Queue) found add.tables in
    let reading = queue_reading old new found add in
    knows_by new QueuePlace found (since_last old new made Queue add.adds (within_none (made ∷ []) reading.within) (eq-eqb (interrupt_count (shape_of old)) (interrupt_count (shape_of old)) refl))

pub plain_leaves_queue : (old new : Seen) (word : PlainWord) (value : ℕ) → ReadsPlain old new word value → Leaves old new QueuePlace
plain_leaves_queue old new word value reads = plain_leaves old new word value QueuePlace reads (queue_apart (shape_of old) (place_of_plain (shape_of old) word))

pub plain_leaves_plain : (old new : Seen) (word other : PlainWord) (value : ℕ) → place_of_plain (shape_of old) word ≢ place_of_plain (shape_of old) other → ReadsPlain old new word value → Leaves old new (Word other)
plain_leaves_plain old new word other value differ reads =
    plain_leaves old new word value (Word other) reads (plain_apart (shape_of old) (place_of_plain (shape_of old) word) (place_of_plain (shape_of old) other) differ)

-- a read of a plain word, as it is to be seen
abbrev read_as : PlainWord → ℕ → Happened
read_as word n = record { event = Read (Word word); found = FoundWord n }

pub looks_at :
    (s a b c new : Seen) (found ctlr cbaser cwriter : ℕ) → IsQueue (queue_of found) → AddsStep s a (Look Queue) found → ReadsPlain a b ItsCtlr ctlr → ReadsPlain b c Cbaser cbaser → ReadsPlain c new Cwriter cwriter
    → LooksAtQueue s new (record { ctlr = ctlr; cbaser = cbaser; cwriter = cwriter; offset = (queue_of found).offset; stalled = (queue_of found).stalled })
looks_at s a b c new found ctlr cbaser cwriter is add one two three =
    let made = made_by s (Look Queue) found add.tables in
    let first = reading_joins s a b (made ∷ []) (one.look ∷ []) (queue_reading s a found add) (reading_plain a b ItsCtlr ctlr one) in
    let second = reading_joins s b c (made ∷ [] ++ one.look ∷ []) (two.look ∷ []) first (reading_plain b c Cbaser cbaser two) in
    let part = (made ∷ [] ++ one.look ∷ []) ++ two.look ∷ [] ++ three.look ∷ [] in
    let shown : Happened = record { event = Read QueuePlace; found = FoundQueue (queue_of found).offset (queue_of found).stalled } in
    let one_then : part_events s (made ∷ [] ++ one.look ∷ []) ≡ shown ∷ read_as ItsCtlr ctlr ∷ []
    = events_then s a (made ∷ []) (one.look ∷ []) add.adds ∙ ap (λ events. shown ∷ events) one.events in
    let two_then : part_events s ((made ∷ [] ++ one.look ∷ []) ++ two.look ∷ []) ≡ shown ∷ read_as ItsCtlr ctlr ∷ read_as Cbaser cbaser ∷ []
    = events_then s b (made ∷ [] ++ one.look ∷ []) (two.look ∷ []) first.adds ∙ ap (λ events. events ++ part_events b (two.look ∷ [])) one_then
    ∙ ap (λ events. shown ∷ read_as ItsCtlr ctlr ∷ events) two.events in
    let three_then : part_events s part ≡ shown ∷ read_as ItsCtlr ctlr ∷ read_as Cbaser cbaser ∷ read_as Cwriter cwriter ∷ []
    = events_then s c ((made ∷ [] ++ one.look ∷ []) ++ two.look ∷ []) (three.look ∷ []) second.adds ∙ ap (λ events. events ++ part_events c (three.look ∷ [])) two_then
    ∙ ap (λ events. shown ∷ read_as ItsCtlr ctlr ∷ read_as Cbaser cbaser ∷ events) three.events in
    let whole : Reading s new part = reading_joins s c new ((made ∷ [] ++ one.look ∷ []) ++ two.look ∷ []) (three.look ∷ []) second (reading_plain c new Cwriter cwriter three) in
    record {
      part = part;
      reading = whole;
      events = three_then;
      knows =
          record {
            place =
                knows_on c new QueuePlace _ (plain_leaves_queue c new Cwriter cwriter three)
                (knows_on b c QueuePlace _ (plain_leaves_queue b c Cbaser cbaser two) (knows_on a b QueuePlace _ (plain_leaves_queue a b ItsCtlr ctlr one) (queue_known s a found add)));
            ctlr =
                knows_on c new (Word ItsCtlr) _ (plain_leaves_plain c new Cwriter ItsCtlr cwriter (λ e. omega (arith, e)) three)
                (knows_on b c (Word ItsCtlr) _ (plain_leaves_plain b c Cbaser ItsCtlr cbaser (λ e. omega (arith, e)) two) (plain_known a b ItsCtlr ctlr one));
            cbaser = knows_on c new (Word Cbaser) _ (plain_leaves_plain c new Cwriter Cbaser cwriter (λ e. omega (arith, e)) three) (plain_known b c Cbaser cbaser two);
            cwriter = plain_known c new Cwriter cwriter three;
            in_range = record { place = is.command; within = is.within };
          };
    }

-- the queue's word is unpacked
pub unpacked : (word : ℕ) (o : Option QueueWord) (queue : QueueWord) → o ≡ Some queue → o ≡ (if is_queue_word word then Some (queue_of word) else None) → queue ≡ queue_of word
unpacked word o queue e value = of (is_queue_word word) (sym e ∙ value)
  where
    of : (b : Bool) → Some queue ≡ (if b then Some (queue_of word) else None) → queue ≡ queue_of word
    of true f = cc
    of false f = absurd (cc)

pub queue_in : (word : ℕ) (o : Option QueueWord) (queue : QueueWord) → o ≡ Some queue → queue ≡ queue_of word → IfSome o IsQueue → IsQueue (queue_of word)
queue_in word o queue e same is = subst IsQueue same (of (subst (λ o. IfSome o IsQueue) e is))
  where
    of : IfSome (Some queue) IsQueue → IsQueue queue
    of h = h

-- the looks, with what was unpacked
pub looks_with :
    (s a b c new : Seen) (found ctlr cbaser cwriter : ℕ) (o : Option QueueWord) (queue : QueueWord) → o ≡ Some queue → o ≡ (if is_queue_word found then Some (queue_of found) else None) → IfSome o IsQueue → AddsStep s a (Look Queue) found
    → ReadsPlain a b ItsCtlr ctlr → ReadsPlain b c Cbaser cbaser → ReadsPlain c new Cwriter cwriter → LooksAtQueue s new (record { ctlr = ctlr; cbaser = cbaser; cwriter = cwriter; offset = queue.offset; stalled = queue.stalled })
looks_with s a b c new found ctlr cbaser cwriter o queue e value is add one two three =
    let same = unpacked found o queue e value in
    let By : QueueWord → Type 0 = λ q. LooksAtQueue s new (record { ctlr = ctlr; cbaser = cbaser; cwriter = cwriter; offset = q.offset; stalled = q.stalled }) in
    subst By (sym same) (looks_at s a b c new found ctlr cbaser cwriter (queue_in found o queue e same is) add one two three)

-- what is known of a word, and of the queue
pub word_held : (seen : Seen) (word : PlainWord) (n : ℕ) → Knows seen (Word word) (FoundWord n) → (view_by seen).words word ≡ n
word_held seen word n knows = of ((view_by seen).words word) n knows.held
  where
    of : (m n : ℕ) → FoundWord m ≡ FoundWord n → m ≡ n
    of m n e = cc

pub offset_held : (seen : Seen) (offset : ℕ) (stalled : Bool) → Knows seen QueuePlace (FoundQueue offset stalled) → (view_by seen).offset ≡ offset
offset_held seen offset stalled knows = of (view_by seen).offset offset (view_by seen).is_stalled stalled knows.held
  where
    of : (m n : ℕ) (a b : Bool) → FoundQueue m a ≡ FoundQueue n b → m ≡ n
    of m n a b e = cc

pub stalled_held : (seen : Seen) (offset : ℕ) (stalled : Bool) → Knows seen QueuePlace (FoundQueue offset stalled) → (view_by seen).is_stalled ≡ stalled
stalled_held seen offset stalled knows = of (view_by seen).offset offset (view_by seen).is_stalled stalled knows.held
  where
    of : (m n : ℕ) (a b : Bool) → FoundQueue m a ≡ FoundQueue n b → a ≡ b
    of m n a b e = cc

-- a further command is taken, by what is known
pub takes_by : (seen : Seen) (queue : KnownQueue) → KnowsQueue seen queue → takes_command (view_by seen) ≡ takes_next queue
takes_by seen queue knows =
    let takes : ℕ → ℕ → Bool → ℕ → ℕ → Bool = λ ctlr cbaser stalled offset cwriter. enabled_in ctlr && is_queue_valid cbaser && not stalled && not (offset == cwriter) in
    let view = view_by seen in
    ap (λ ctlr. takes ctlr (view.words Cbaser) view.is_stalled view.offset (view.words Cwriter)) (word_held seen ItsCtlr queue.ctlr knows.ctlr)
    ∙ ap (λ cbaser. takes queue.ctlr cbaser view.is_stalled view.offset (view.words Cwriter)) (word_held seen Cbaser queue.cbaser knows.cbaser)
    ∙ ap (λ stalled. takes queue.ctlr queue.cbaser stalled view.offset (view.words Cwriter)) (stalled_held seen queue.offset queue.stalled knows.place)
    ∙ ap (λ offset. takes queue.ctlr queue.cbaser queue.stalled offset (view.words Cwriter)) (offset_held seen queue.offset queue.stalled knows.place)
    ∙ ap (λ cwriter. takes queue.ctlr queue.cbaser queue.stalled queue.offset cwriter) (word_held seen Cwriter queue.cwriter knows.cwriter)
