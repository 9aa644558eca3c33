-- Writes of the registers of an ITS: what one found is a guest by which it is made.
use Rattle.std.proofs.Common.{◌≡◌, ℕ, ◌==◌, ◌&&◌, nat_lt, not, Bool, true, false, cond, IsTrue, List, [], ◌∷◌, ◌++◌, map, fold, All, Option, Some, None, refl, sym, ap, ap₂, ◌∙◌, subst}
use Rattle.std.specs.List.{list_all, list_any}
use Rattle.std.proofs.lemmas.Bool.{and_parts, or_left, or_right}
use Rattle.std.proofs.lemmas.List.Elements.{All-nil, All-cons, All-head, All-tail, All-weaker}
use Rattle.history_commands.specs.Words.{GuestShape}
use Rattle.history_commands.specs.Registers.{Maps, Half, has_lpis, half_written, enabled_in, queue_offset, queue_bytes, retries, cbaser_bits, baser_bits, Cbaser as CbaserReg, Cwriter as CwriterReg, Baser0 as Baser0Reg, Baser1 as Baser1Reg}
use Rattle.history_commands.specs.GicImap.declared.map.Reg.{Reg as ItsReg}
use Rattle.history_commands.specs.GicImap.declared.map.Reg.TheVariants.{Ctlr as ItsCtlrReg}
use Rattle.history_commands.specs.GicImap.declared.map.RegRef.{RegRef as ItsRef}
use Rattle.history_commands.specs.GicImap.declared.map.RegRef.TheVariants.{Plain as ItsPlain, Reserved as ItsReserved}
use Rattle.history_commands.specs.Calls.{Event, Put, Found, Happened, Place, PlainWord, ItsCtlr, Cbaser, Cwriter, Baser0, Baser1, QueueChange, Runs, Done, Stalls, View, HandsOut, IsLastRead, Makes, held_at, is_beside, named_of, place_of_plain, its_events, its_places, its_starts, its_written, its_write_places, cwriter_events, baser_written, left_by}
use Rattle.history_commands.specs.GicCall.Access.{starts_commands as register_starts}
use Rattle.history_commands.specs.GicCall.declared.event.Event.TheVariants.{Queue}
use Rattle.history_commands.specs.GicCall.declared.event.Place.TheVariants.{Word, Queue as QueuePlace, Ctlr, Lpis}
use Rattle.history_commands.specs.GicCall.declared.event.Found.TheVariants.{Nothing, Word as FoundWord, Queue as FoundQueue}
use Rattle.history_commands.specs.HistoryCalls.Found.{found_by, stores, offset_in, stalled_in}
use Rattle.history_calls.proofs.FoundLemmas.{own_word, store_found, word_found, read_found}
use Rattle.history_commands.specs.declared.its.Its.{Its}
use Rattle.history_commands.specs.Known.{its_in}
use Rattle.history_commands.specs.Stage.{AreReadBy}
use Rattle.history_commands.specs.Writing.{is_of_its}
use Rattle.history_commands.proofs.StepLemmas.{events_in, Hands}

-- Which events and places there are.

abbrev pub is_its_place : Place → Bool
is_its_place (Word word) = true
is_its_place QueuePlace = true
is_its_place place = false

hands_same : (view other : View) (event : Event) (found : Found) → is_of_its event ≡ true → ((word : PlainWord) → stores word event ≡ true → other.words word ≡ view.words word) → HandsOut view event found → HandsOut other event found
hands_same view other (Put word value) found h words is = is ∙ ap FoundWord (sym (words word (own_word word)))
hands_same view other (Queue offset Runs) found h words is = is
hands_same view other event found h words is = absurd (cc)

hands_all : (view other : View) (named : List Happened) → list_all is_of_its (events_in named) ≡ true → ((word : PlainWord) → list_any (stores word) (events_in named) ≡ true → other.words word ≡ view.words word) → All (Hands view) named → All (Hands other) named
hands_all view other [] h words all = All-nil (Hands other)
hands_all view other (one ∷ named) h words all =
    let both = and_parts (is_of_its one.event) (list_all is_of_its (events_in named)) h in
    All-cons (Hands other) one named
    (hands_same view other one.event one.found both.0 (λ word k. words word (or_left (stores word one.event) (list_any (stores word) (events_in named)) k)) (All-head (Hands view) one named all))
    (hands_all view other named both.1 (λ word k. words word (or_right (stores word one.event) (list_any (stores word) (events_in named)) k)) (All-tail (Hands view) one named all))

-- What a write found.

-- by what it found it is made as by the guest that it found
pub record IsFoundBy (shape : GuestShape) (actor : Option ℕ) (view : View) (ref : ItsRef) (value : ℕ) (piece : List Happened) : Type 0 where
  pub events : its_events shape (found_by piece) ref (Some value) ≡ its_events shape view ref (Some value)
  pub read : AreReadBy (found_by piece) piece (its_places shape ref (Some value))
  pub hands : All (Hands (found_by piece)) (named_of actor piece)
  pub starts : its_starts shape (found_by piece) ref (Some value) ≡ its_starts shape view ref (Some value)
  pub its : its_starts shape view ref (Some value) ≡ true → its_in (found_by piece) ≡ its_in view

module _ (actor : Option ℕ) (view : View) (piece : List Happened) (events : List Event) (places : List Place) (made : Makes actor view events places [] piece) where
  abbrev found : View
  found = found_by piece

  told : (word : PlainWord) → list_any (stores word) events ≡ true → found.words word ≡ view.words word
  told word h = store_found actor view piece made.found word (ap (list_any (stores word)) made.events_are ∙ h)

  read_word : (word : PlainWord) → IsLastRead (Word word) (FoundWord (view.words word)) piece → found.words word ≡ view.words word
  read_word word is = of (list_any (stores word) (events_in (named_of actor piece))) refl
    where
      of : (b : Bool) → list_any (stores word) (events_in (named_of actor piece)) ≡ b → found.words word ≡ view.words word
      of true e = store_found actor view piece made.found word e
      of false e = word_found actor view piece word e is

  read_queue : IsLastRead QueuePlace (FoundQueue view.offset view.is_stalled) piece → (found.offset ≡ view.offset) × (found.is_stalled ≡ view.is_stalled)
  read_queue is = let last = read_found QueuePlace (FoundQueue view.offset view.is_stalled) piece is in (ap offset_in last, ap stalled_in last)

  read_place : (place : Place) → is_its_place place ≡ true → IsLastRead place (held_at view place) piece → IsLastRead place (held_at found place) piece
  read_place (Word word) h is = subst (λ value. IsLastRead (Word word) (FoundWord value) piece) (sym (read_word word is)) is
  read_place QueuePlace h is = let same = read_queue is in subst (λ f. IsLastRead QueuePlace f piece) (sym (ap₂ FoundQueue same.0 same.1)) is
  read_place place h is = absurd (cc)

  read_all : (some : List Place) → list_all is_its_place some ≡ true → AreReadBy view piece some → AreReadBy found piece some
  read_all [] h all = All-nil (λ place. IsLastRead place (held_at found place) piece)
  read_all (place ∷ some) h all =
      let both = and_parts (is_its_place place) (list_all is_its_place some) h in
      All-cons (λ place. IsLastRead place (held_at found place) piece) place some (read_place place both.0 (All-head (λ place. IsLastRead place (held_at view place) piece) place some all))
      (read_all some both.1 (All-tail (λ place. IsLastRead place (held_at view place) piece) place some all))

  handed : list_all is_of_its events ≡ true → All (Hands found) (named_of actor piece)
  handed h = hands_all view found (named_of actor piece) (ap (list_all is_of_its) made.events_are ∙ h) (λ word k. told word (ap (list_any (stores word)) (sym made.events_are) ∙ k)) made.found

-- The registers.

its_same : (view other : View) → other.words ItsCtlr ≡ view.words ItsCtlr → other.words Cbaser ≡ view.words Cbaser → other.words Cwriter ≡ view.words Cwriter → other.offset ≡ view.offset → other.is_stalled ≡ view.is_stalled → its_in other ≡ its_in view
its_same view other a b c d e = cc

abbrev in_queue : Its → ℕ → Bool
in_queue its written = nat_lt (queue_offset written) (queue_bytes its.cbaser)

-- the events of a write of GITS_CWRITER, by what is known of the ITS
abbrev cwriter_by : Half → ℕ → Its → List Event
cwriter_by half value its =
    let written = half_written half its.cwriter value in
    cond (in_queue its written) (Put Cwriter (queue_offset written) ∷ cond (its.is_stalled && retries its.cbaser written) (Queue its.offset Runs ∷ []) []) []

cwriter_of_its : (half : Half) (value : ℕ) (its : Its) → list_all is_of_its (cwriter_by half value its) ≡ true
cwriter_of_its half value its = of (in_queue its (half_written half its.cwriter value)) (its.is_stalled && retries its.cbaser (half_written half its.cwriter value))
  where
    of : (b c : Bool) → list_all is_of_its (cond b (Put Cwriter (queue_offset (half_written half its.cwriter value)) ∷ cond c (Queue its.offset Runs ∷ []) []) []) ≡ true
    of true true = refl
    of true false = refl
    of false c = refl

module _ (shape : GuestShape) (actor : Option ℕ) (view : View) (half : Half) (value : ℕ) (piece : List Happened) where
  -- the second and third of what was read
  abbrev Read : Place → Type 0
  Read place = IsLastRead place (held_at view place) piece

  at_head : (place : Place) (places : List Place) → AreReadBy view piece (place ∷ places) → Read place
  at_head place places all = All-head Read place places all

  at_tail : (place : Place) (places : List Place) → AreReadBy view piece (place ∷ places) → AreReadBy view piece places
  at_tail place places all = All-tail Read place places all

  -- a write that is ignored while the ITS is enabled
  unless_same : (word : PlainWord) (events : ℕ → List Event) (b : Bool) → enabled_in (view.words ItsCtlr) ≡ b → (made : Makes actor view (cond b [] (events (view.words word))) (Word ItsCtlr ∷ []) [] piece)
      → list_all is_of_its (events (view.words word)) ≡ true → list_any (stores word) (events (view.words word)) ≡ true
      → (cond (enabled_in ((found_by piece).words ItsCtlr)) [] (events ((found_by piece).words word)) ≡ cond b [] (events (view.words word))) × All (Hands (found_by piece)) (named_of actor piece)
  unless_same word events true e made its stored =
      let ctlr = read_word actor view piece [] (Word ItsCtlr ∷ []) made ItsCtlr (at_head (Word ItsCtlr) [] made.reads) in
      (ap (λ b. cond b [] (events ((found_by piece).words word))) (ap enabled_in ctlr ∙ e), handed actor view piece [] (Word ItsCtlr ∷ []) made refl)
  unless_same word events false e made its stored =
      let ctlr = read_word actor view piece (events (view.words word)) (Word ItsCtlr ∷ []) made ItsCtlr (at_head (Word ItsCtlr) [] made.reads) in (
        ap (λ b. cond b [] (events ((found_by piece).words word))) (ap enabled_in ctlr ∙ e) ∙ ap events (told actor view piece (events (view.words word)) (Word ItsCtlr ∷ []) made word stored),
        handed actor view piece (events (view.words word)) (Word ItsCtlr ∷ []) made its,
      )

  ignored : (reg : ItsReg) (word : PlainWord) (events : ℕ → List Event) → Makes actor view (cond (enabled_in (view.words ItsCtlr)) [] (events (view.words word))) (Word ItsCtlr ∷ []) [] piece → list_all is_of_its (events (view.words word)) ≡ true
      → list_any (stores word) (events (view.words word)) ≡ true
      → (cond (enabled_in ((found_by piece).words ItsCtlr)) [] (events ((found_by piece).words word)) ≡ cond (enabled_in (view.words ItsCtlr)) [] (events (view.words word))) × All (Hands (found_by piece)) (named_of actor piece)
  ignored reg word events made its stored = unless_same word events (enabled_in (view.words ItsCtlr)) refl made its stored

  record IsRegisterFound (reg : ItsReg) : Type 0 where
    events : its_written (found_by piece) reg half value ≡ its_written view reg half value
    read : AreReadBy (found_by piece) piece (its_write_places reg)
    hands : All (Hands (found_by piece)) (named_of actor piece)
    starts : register_starts (found_by piece) reg half value ≡ register_starts view reg half value
    its : register_starts view reg half value ≡ true → its_in (found_by piece) ≡ its_in view

  nothing_found : (reg : ItsReg) → Makes actor view [] [] [] piece → All (Hands (found_by piece)) (named_of actor piece)
  nothing_found reg made = handed actor view piece [] [] made refl

  register_found : (reg : ItsReg) → Makes actor view (its_written view reg half value) (its_write_places reg) [] piece → IsRegisterFound reg
  register_found ItsCtlrReg made =
      let events : List Event = its_written view ItsCtlrReg half value in
      let places : List Place = its_write_places ItsCtlrReg in
      let second = at_tail (Word Cbaser) (Word Cwriter ∷ QueuePlace ∷ []) made.reads in
      let third = at_tail (Word Cwriter) (QueuePlace ∷ []) second in
      let cbaser = read_word actor view piece events places made Cbaser (at_head (Word Cbaser) (Word Cwriter ∷ QueuePlace ∷ []) made.reads) in
      let cwriter = read_word actor view piece events places made Cwriter (at_head (Word Cwriter) (QueuePlace ∷ []) second) in
      let queue = read_queue actor view piece events places made (at_head QueuePlace [] third) in
      record {
        events = refl;
        read = read_all actor view piece events places made places refl made.reads;
        hands = handed actor view piece events places made refl;
        starts = refl;
        its = λ h. its_same view (found_by piece) (told actor view piece events places made ItsCtlr refl) cbaser cwriter queue.0 queue.1;
      }
  register_found CwriterReg made =
      let events : List Event = its_written view CwriterReg half value in
      let places : List Place = its_write_places CwriterReg in
      let second = at_tail (Word ItsCtlr) (Word Cbaser ∷ QueuePlace ∷ Word Cwriter ∷ []) made.reads in
      let third = at_tail (Word Cbaser) (QueuePlace ∷ Word Cwriter ∷ []) second in
      let fourth = at_tail QueuePlace (Word Cwriter ∷ []) third in
      let ctlr = read_word actor view piece events places made ItsCtlr (at_head (Word ItsCtlr) (Word Cbaser ∷ QueuePlace ∷ Word Cwriter ∷ []) made.reads) in
      let cbaser = read_word actor view piece events places made Cbaser (at_head (Word Cbaser) (QueuePlace ∷ Word Cwriter ∷ []) second) in
      let queue = read_queue actor view piece events places made (at_head QueuePlace (Word Cwriter ∷ []) third) in
      let cwriter = read_word actor view piece events places made Cwriter (at_head (Word Cwriter) [] fourth) in
      let same : its_in (found_by piece) ≡ its_in view = its_same view (found_by piece) ctlr cbaser cwriter queue.0 queue.1 in
      record {
        events = ap (cwriter_by half value) same;
        read = read_all actor view piece events places made places refl made.reads;
        hands = handed actor view piece events places made (cwriter_of_its half value (its_in view));
        starts = ap (λ (one : Its). in_queue one (half_written half one.cwriter value)) same;
        its = λ h. same;
      }
  register_found CbaserReg made =
      let same = ignored CbaserReg Cbaser (λ stored. Put Cwriter 0 ∷ Queue 0 Runs ∷ Put Cbaser (cbaser_bits (half_written half stored value)) ∷ []) made refl refl in
      record { events = same.0; read = read_all actor view piece (its_written view CbaserReg half value) (its_write_places CbaserReg) made (Word ItsCtlr ∷ []) refl made.reads; hands = same.1; starts = refl; its = λ h. absurd (cc) }
  register_found Baser0Reg made =
      let same = ignored Baser0Reg Baser0 (λ stored. Put Baser0 (baser_bits (half_written half stored value)) ∷ []) made refl refl in
      record { events = same.0; read = read_all actor view piece (its_written view Baser0Reg half value) (its_write_places Baser0Reg) made (Word ItsCtlr ∷ []) refl made.reads; hands = same.1; starts = refl; its = λ h. absurd (cc) }
  register_found Baser1Reg made =
      let same = ignored Baser1Reg Baser1 (λ stored. Put Baser1 (baser_bits (half_written half stored value)) ∷ []) made refl refl in
      record { events = same.0; read = read_all actor view piece (its_written view Baser1Reg half value) (its_write_places Baser1Reg) made (Word ItsCtlr ∷ []) refl made.reads; hands = same.1; starts = refl; its = λ h. absurd (cc) }
  register_found reg made = record { events = refl; read = All-nil (λ place. IsLastRead place (held_at (found_by piece) place) piece); hands = nothing_found reg made; starts = refl; its = λ h. absurd (cc) }

  -- in a guest that has an ITS, or not
  record IsPlainFound (there : Bool) (reg : ItsReg) : Type 0 where
    events : cond there (its_written (found_by piece) reg half value) [] ≡ cond there (its_written view reg half value) []
    read : AreReadBy (found_by piece) piece (cond there (its_write_places reg) [])
    hands : All (Hands (found_by piece)) (named_of actor piece)
    starts : (there && register_starts (found_by piece) reg half value) ≡ (there && register_starts view reg half value)
    its : (there && register_starts view reg half value) ≡ true → its_in (found_by piece) ≡ its_in view

  plain_found : (there : Bool) (reg : ItsReg) → Makes actor view (cond there (its_written view reg half value) []) (cond there (its_write_places reg) []) [] piece → IsPlainFound there reg
  plain_found true reg made = let is = register_found reg made in record { events = is.events; read = is.read; hands = is.hands; starts = is.starts; its = is.its }
  plain_found false reg made = record { events = refl; read = All-nil (λ place. IsLastRead place (held_at (found_by piece) place) piece); hands = nothing_found reg made; starts = refl; its = λ h. absurd (cc) }

pub write_found : (shape : GuestShape) (actor : Option ℕ) (view : View) (ref : ItsRef) (value : ℕ) (piece : List Happened) → Makes actor view (its_events shape view ref (Some value)) (its_places shape ref (Some value)) [] piece → IsFoundBy shape actor view ref value piece
write_found shape actor view (ItsPlain reg half) value piece made =
    let is = plain_found shape actor view half value piece (has_lpis shape) reg made in
    record { events = is.events; read = is.read; hands = is.hands; starts = is.starts; its = is.its }
write_found shape actor view ItsReserved value piece made = record { events = refl; read = All-nil (λ place. IsLastRead place (held_at (found_by piece) place) piece); hands = handed actor view piece [] [] made refl; starts = refl; its = λ h. absurd (cc) }

-- What is left of the ITS.

left_its : GuestShape → Its → Event → Its
left_its shape its (Put word value) =
    record {
      ctlr = cond (place_of_plain shape ItsCtlr == place_of_plain shape word) value its.ctlr;
      cbaser = cond (place_of_plain shape Cbaser == place_of_plain shape word) value its.cbaser;
      cwriter = cond (place_of_plain shape Cwriter == place_of_plain shape word) value its.cwriter;
      offset = its.offset;
      is_stalled = its.is_stalled;
    }
left_its shape its (Queue offset Runs) = record its { offset = offset; is_stalled = false }
left_its shape its event = its

its_left : (shape : GuestShape) (view : View) (event : Event) → is_of_its event ≡ true → (its_in (left_by shape view event) ≡ left_its shape (its_in view) event) × ((left_by shape view event).maps ≡ view.maps)
unfolding left_its
its_left shape view (Put word value) h = (refl, refl)
its_left shape view (Queue offset Runs) h = (refl, refl)
its_left shape view event h = absurd (cc)

pub written_left : (shape : GuestShape) (events : List Event) (view other : View) → list_all is_of_its events ≡ true → its_in other ≡ its_in view → its_in (fold (left_by shape) other events) ≡ its_in (fold (left_by shape) view events)
written_left shape [] view other h e = e
written_left shape (event ∷ events) view other h e =
    let both = and_parts (is_of_its event) (list_all is_of_its events) h in
    written_left shape events (left_by shape view event) (left_by shape other event) both.1
    ((its_left shape other event both.0).0 ∙ ap (λ (its : Its). left_its shape its event) e ∙ sym (its_left shape view event both.0).0)

pub written_maps : (shape : GuestShape) (events : List Event) (view : View) → list_all is_of_its events ≡ true → (fold (left_by shape) view events).maps ≡ view.maps
written_maps shape [] view h = refl
written_maps shape (event ∷ events) view h =
    let both = and_parts (is_of_its event) (list_all is_of_its events) h in
    written_maps shape events (left_by shape view event) both.1 ∙ (its_left shape view event both.0).1

-- the events of a write are such
ignored_of_its : (b : Bool) (events : List Event) → list_all is_of_its events ≡ true → list_all is_of_its (cond b [] events) ≡ true
ignored_of_its true events h = refl
ignored_of_its false events h = h

register_of_its : (view : View) (reg : ItsReg) (half : Half) (value : ℕ) → list_all is_of_its (its_written view reg half value) ≡ true
register_of_its view ItsCtlrReg half value = refl
register_of_its view CwriterReg half value = cwriter_of_its half value (its_in view)
register_of_its view CbaserReg half value = ignored_of_its (enabled_in (view.words ItsCtlr)) _ refl
register_of_its view Baser0Reg half value = ignored_of_its (enabled_in (view.words ItsCtlr)) _ refl
register_of_its view Baser1Reg half value = ignored_of_its (enabled_in (view.words ItsCtlr)) _ refl
register_of_its view reg half value = refl

there_of_its : (b : Bool) (events : List Event) → list_all is_of_its events ≡ true → list_all is_of_its (cond b events []) ≡ true
there_of_its true events h = h
there_of_its false events h = refl

pub write_of_its : (shape : GuestShape) (view : View) (ref : ItsRef) (value : ℕ) → list_all is_of_its (its_events shape view ref (Some value)) ≡ true
write_of_its shape view (ItsPlain reg half) value = there_of_its (has_lpis shape) (its_written view reg half value) (register_of_its view reg half value)
write_of_its shape view ItsReserved value = refl

-- The maps do not count for a write.

abbrev pub with_maps : View → Maps → View
with_maps view maps = record view { maps = maps }

pub events_mapped : (shape : GuestShape) (view : View) (maps : Maps) (ref : ItsRef) (value : ℕ) → its_events shape (with_maps view maps) ref (Some value) ≡ its_events shape view ref (Some value)
events_mapped shape view maps (ItsPlain reg half) value = ap (λ events. cond (has_lpis shape) events []) (of reg)
  where
    of : (reg : ItsReg) → its_written (with_maps view maps) reg half value ≡ its_written view reg half value
    of ItsCtlrReg = refl
    of CwriterReg = refl
    of CbaserReg = refl
    of Baser0Reg = refl
    of Baser1Reg = refl
    of reg = refl
events_mapped shape view maps ItsReserved value = refl

pub starts_mapped : (shape : GuestShape) (view : View) (maps : Maps) (ref : ItsRef) (value : ℕ) → its_starts shape (with_maps view maps) ref (Some value) ≡ its_starts shape view ref (Some value)
starts_mapped shape view maps (ItsPlain reg half) value = ap (λ b. has_lpis shape && b) (of reg)
  where
    of : (reg : ItsReg) → register_starts (with_maps view maps) reg half value ≡ register_starts view reg half value
    of ItsCtlrReg = refl
    of CwriterReg = refl
    of reg = refl
starts_mapped shape view maps ItsReserved value = refl

held_mapped : (view : View) (maps : Maps) (place : Place) → held_at (with_maps view maps) place ≡ held_at view place
held_mapped view maps (Word word) = refl
held_mapped view maps QueuePlace = refl
held_mapped view maps Ctlr = refl
held_mapped view maps (Lpis vcpu) = refl

pub read_mapped : (view : View) (maps : Maps) (piece : List Happened) (places : List Place) → AreReadBy view piece places → AreReadBy (with_maps view maps) piece places
read_mapped view maps piece places all =
    All-weaker (λ place. IsLastRead place (held_at view place) piece) (λ place. IsLastRead place (held_at (with_maps view maps) place) piece) (λ place is. subst (λ f. IsLastRead place f piece) (sym (held_mapped view maps place)) is) places all

pub hands_mapped : (view : View) (maps : Maps) (named : List Happened) → list_all is_of_its (events_in named) ≡ true → All (Hands view) named → All (Hands (with_maps view maps)) named
hands_mapped view maps named h all = hands_all view (with_maps view maps) named h (λ word k. refl) all
