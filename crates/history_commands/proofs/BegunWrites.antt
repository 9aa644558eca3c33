-- The named events are the first ones of a register's, in some guest, exactly where they may begin it.
use Rattle.std.proofs.Common.{◌≡◌, ◌↔◌, ℕ, ◌<◌, ◌&&◌, nat_lt, Bool, true, false, cond, IsTrue, List, [], ◌∷◌, ◌++◌, map, All, Some, refl, sym, ap, ap₂, ◌∙◌, subst, arith}
use Rattle.std.proofs.lemmas.Bool.{and_parts}
use Rattle.std.proofs.lemmas.Grind.{common_steps}
use Rattle.std.proofs.lemmas.List.Elements.{All-nil, All-cons, All-head, All-tail}
use Rattle.history_commands.specs.Words.{GuestShape, bit_of, has_bit}
use Rattle.history_commands.specs.Registers.{Half, has_lpis, half_written, enabled_in, queue_offset, queue_bytes, retries, cbaser_bits, baser_bits, Cbaser as CbaserReg, Cwriter as CwriterReg, Baser0 as Baser0Reg, Baser1 as Baser1Reg}
use Rattle.history_commands.specs.GicImap.declared.map.Reg.{Reg as ItsReg}
use Rattle.history_commands.specs.GicImap.declared.map.Reg.TheVariants.{Ctlr as ItsCtlrReg}
use Rattle.history_commands.specs.GicImap.declared.map.RegRef.TheVariants.{Plain as ItsPlain}
use Rattle.history_commands.specs.GicImap.Map.{decoded as its_decoded}
use Rattle.history_commands.specs.Calls.{Event, Put, Runs, Happened, View, PlainWord, ItsCtlr, Cbaser, Cwriter, Baser0, Baser1, HandsOut, its_events, its_written, takes_turn, named_of}
use Rattle.history_commands.specs.GicCall.Access.{takes_its}
use Rattle.history_commands.specs.GicCall.declared.event.Event.TheVariants.{Queue}
use Rattle.history_commands.specs.GicCall.declared.event.Found.TheVariants.{Word as FoundWord}
use Rattle.history_commands.specs.HistoryCalls.Found.{found_by, word_in}
use Rattle.history_commands.specs.Opened.{IsWriteBegun}
use Rattle.history_commands.specs.Beginning.{held_in, IsStored, RunsFrom, MayStore, MayStart, MayRun, MayWrite, MayBegin}

-- each event of a piece hands out what a view has
abbrev pub Hands : View → Happened → Type 0
Hands view happened = HandsOut view happened.event happened.found

-- some first events of these, as a view has them
record AreFirst (view : View) (events : List Event) (named : List Happened) : Type 0 where
  more : List Event
  events_are : map (λ (h : Happened). h.event) named ++ more ≡ events
  found : All (Hands view) named

-- What an event tells.

record Tells (view : View) (word : PlainWord) (value : ℕ) (one : Happened) : Type 0 where
  stored : IsStored word value one
  held : held_in one ≡ view.words word

tells : (view : View) (word : PlainWord) (value : ℕ) (one : Happened) → one.event ≡ Put word value → HandsOut view one.event one.found → Tells view word value one
tells view word value one e hands = record { stored = ap₂ (λ event found. record { event = event; found = found }) e (found ∙ ap FoundWord (sym held)); held = held }
  where
    found : one.found ≡ FoundWord (view.words word)
    found = subst (λ event. HandsOut view event one.found) e hands

    held : held_in one ≡ view.words word
    held = ap (λ f. word_in (Some f)) found

runs : (view : View) (offset : ℕ) (one : Happened) → one.event ≡ Queue offset Runs → HandsOut view one.event one.found → RunsFrom offset one
runs view offset one e hands = ap₂ (λ event found. record { event = event; found = found }) e (subst (λ event. HandsOut view event one.found) e hands)

put_hands : (view : View) (word : PlainWord) (value : ℕ) (one : Happened) → IsStored word value one → held_in one ≡ view.words word → HandsOut view one.event one.found
put_hands view word value one e held = subst (λ (h : Happened). HandsOut view h.event h.found) (sym e) (ap FoundWord held)

runs_hands : (view : View) (offset : ℕ) (one : Happened) → RunsFrom offset one → HandsOut view one.event one.found
runs_hands view offset one e = subst (λ (h : Happened). HandsOut view h.event h.found) (sym e) refl

head_event : (x y : Event) (xs ys : List Event) → x ∷ xs ≡ y ∷ ys → x ≡ y
head_event x y xs ys h = cc

tail_events : (x y : Event) (xs ys : List Event) → x ∷ xs ≡ y ∷ ys → xs ≡ ys
tail_events x y xs ys h = cc

some_events : (x : Event) (xs : List Event) → x ∷ xs ≡ [] → ⊥
some_events x xs h = absurd (cc)

-- One event less.

module _ (view : View) (events : List Event) (one : Happened) (named : List Happened) (are : AreFirst view events (one ∷ named)) where
  hands_it : HandsOut view one.event one.found
  hands_it = All-head (Hands view) one named are.found

  module _ (event : Event) (rest : List Event) (e : events ≡ event ∷ rest) where
    is_event : one.event ≡ event
    is_event = head_event one.event event (map (λ (h : Happened). h.event) named ++ are.more) rest (are.events_are ∙ e)

    later : AreFirst view rest named
    later = record { more = are.more; events_are = tail_events one.event event (map (λ (h : Happened). h.event) named ++ are.more) rest (are.events_are ∙ e); found = All-tail (Hands view) one named are.found }

  not_none : events ≡ [] → ⊥
  not_none e = some_events one.event (map (λ (h : Happened). h.event) named ++ are.more) (are.events_are ∙ e)

nothing : (view : View) (named : List Happened) → AreFirst view [] named → named ≡ []
nothing view [] are = refl
nothing view (one ∷ named) are = absurd (not_none view [] one named are refl)

first_of : (view : View) (one : Happened) (event : Event) (rest : List Event) (named : List Happened) → one.event ≡ event → HandsOut view one.event one.found → AreFirst view rest named → AreFirst view (event ∷ rest) (one ∷ named)
first_of view one event rest named e hands are = record { more = are.more; events_are = ap₂ (λ x xs. x ∷ xs) e are.events_are; found = All-cons (Hands view) one named hands are.found }

none_of : (view : View) (events : List Event) → AreFirst view events []
none_of view events = record { more = events; events_are = refl; found = All-nil (Hands view) }

none_is : (view : View) (events : List Event) (named : List Happened) → named ≡ [] → AreFirst view events named
none_is view events named e = subst (AreFirst view events) (sym e) (none_of view events)

stored_event : (word : PlainWord) (value : ℕ) (one : Happened) → IsStored word value one → one.event ≡ Put word value
stored_event word value one e = ap (λ (h : Happened). h.event) e

-- What a view tells of the first events.

module _ (view : View) (half : Half) (value : ℕ) where
  -- one store alone
  only_told :
      (word : PlainWord) (new : ℕ → ℕ) (one : Happened) (named : List Happened) → AreFirst view (Put word (new (view.words word)) ∷ []) (one ∷ named) → IsStored word (new (held_in one)) one × (named ≡ [])
  only_told word new one named are =
      let event = Put word (new (view.words word)) in
      let told = tells view word (new (view.words word)) one (is_event view (event ∷ []) one named are event [] refl) (hands_it view (event ∷ []) one named are) in
      (subst (λ held. IsStored word (new held) one) (sym told.held) told.stored, nothing view named (later view (event ∷ []) one named are event [] refl))

  -- the events that are ignored while the ITS is enabled
  unless : (b : Bool) (events : List Event) (one : Happened) (named : List Happened) → AreFirst view (cond b [] events) (one ∷ named) → AreFirst view events (one ∷ named)
  unless true events one named are = absurd (not_none view [] one named are refl)
  unless false events one named are = are

  abbrev pub last_store : Event
  last_store = Put Cbaser (cbaser_bits (half_written half (view.words Cbaser) value))

  store_told : (named : List Happened) → AreFirst view (last_store ∷ []) named → MayStore half value named
  store_told [] are = tt
  store_told (one ∷ named) are = only_told Cbaser (λ held. cbaser_bits (half_written half held value)) one named are

  start_told : (named : List Happened) → AreFirst view (Queue 0 Runs ∷ last_store ∷ []) named → MayStart half value named
  start_told [] are = tt
  start_told (one ∷ named) are =
      let events = Queue 0 Runs ∷ last_store ∷ [] in
      (runs view 0 one (is_event view events one named are (Queue 0 Runs) (last_store ∷ []) refl) (hands_it view events one named are), store_told named (later view events one named are (Queue 0 Runs) (last_store ∷ []) refl))

  cbaser_told : (one : Happened) (named : List Happened) → AreFirst view (Put Cwriter 0 ∷ Queue 0 Runs ∷ last_store ∷ []) (one ∷ named) → IsStored Cwriter 0 one × MayStart half value named
  cbaser_told one named are =
      let more = Queue 0 Runs ∷ last_store ∷ [] in
      let events = Put Cwriter 0 ∷ more in
      ((tells view Cwriter 0 one (is_event view events one named are (Put Cwriter 0) more refl) (hands_it view events one named are)).stored, start_told named (later view events one named are (Put Cwriter 0) more refl))

  run_told : (written : ℕ) (b : Bool) (named : List Happened) → (b ≡ true → IsTrue (has_bit written 0)) → AreFirst view (cond b (Queue view.offset Runs ∷ []) []) named → MayRun written named
  run_told written b [] bit are = tt
  run_told written false (one ∷ named) bit are = absurd (not_none view [] one named are refl)
  run_told written true (one ∷ named) bit are =
      let event = Queue view.offset Runs in
      let there : (offset : ℕ) × RunsFrom offset one = (view.offset, runs view view.offset one (is_event view (event ∷ []) one named are event [] refl) (hands_it view (event ∷ []) one named are)) in
      (bit refl, (there, nothing view named (later view (event ∷ []) one named are event [] refl)))

  module _ (written : ℕ) (runs_on : Bool) (bit : runs_on ≡ true → IsTrue (has_bit written 0)) where
    move_told : (b : Bool) (one : Happened) (named : List Happened) → AreFirst view (cond b (Put Cwriter (queue_offset written) ∷ cond runs_on (Queue view.offset Runs ∷ []) []) []) (one ∷ named) → Tells view Cwriter (queue_offset written) one × MayRun written named
    move_told false one named are = absurd (not_none view [] one named are refl)
    move_told true one named are =
        let more = cond runs_on (Queue view.offset Runs ∷ []) [] in
        let event = Put Cwriter (queue_offset written) in
        (tells view Cwriter (queue_offset written) one (is_event view (event ∷ more) one named are event more refl) (hands_it view (event ∷ more) one named are), run_told written runs_on named bit (later view (event ∷ more) one named are event more refl))

  cwriter_told : (one : Happened) (named : List Happened) → AreFirst view (its_written view CwriterReg half value) (one ∷ named) → MayWrite CwriterReg half value one named
  cwriter_told one named are =
      let written = half_written half (view.words Cwriter) value in
      let fits = nat_lt (queue_offset written) (queue_bytes (view.words Cbaser)) in
      let told = move_told written (view.is_stalled && retries (view.words Cbaser) written)
      (λ h. (and_parts fits (has_bit written 0) (and_parts view.is_stalled (retries (view.words Cbaser) written) h).1).1) fits one named are in
      let same : half_written half (view.words Cwriter) value ≡ half_written half (held_in one) value = ap (λ held. half_written half held value) (sym told.0.held) in
      (subst (λ w. IsStored Cwriter (queue_offset w) one) same told.0.stored, subst (λ w. MayRun w named) same told.1)

  write_told : (reg : ItsReg) (one : Happened) (named : List Happened) → AreFirst view (its_written view reg half value) (one ∷ named) → MayWrite reg half value one named
  write_told ItsCtlrReg one named are = only_told ItsCtlr (λ held. bit_of (enabled_in value)) one named are
  write_told CbaserReg one named are = cbaser_told one named (unless (enabled_in (view.words ItsCtlr)) (Put Cwriter 0 ∷ Queue 0 Runs ∷ last_store ∷ []) one named are)
  write_told CwriterReg one named are = cwriter_told one named are
  write_told Baser0Reg one named are = only_told Baser0 (λ held. baser_bits (half_written half held value)) one named (unless (enabled_in (view.words ItsCtlr)) (Put Baser0 (baser_bits (half_written half (view.words Baser0) value)) ∷ []) one named are)
  write_told Baser1Reg one named are = only_told Baser1 (λ held. baser_bits (half_written half held value)) one named (unless (enabled_in (view.words ItsCtlr)) (Put Baser1 (baser_bits (half_written half (view.words Baser1) value)) ∷ []) one named are)
  write_told reg one named are = not_none view [] one named are refl

  begin_told : (reg : ItsReg) (named : List Happened) → AreFirst view (its_written view reg half value) named → MayBegin reg half value named
  begin_told reg [] are = tt
  begin_told reg (one ∷ named) are = write_told reg one named are

-- A guest that has them.

-- the ITS is not enabled, and its queue has the most bytes
abbrev pub words_so : ℕ → ℕ → ℕ → PlainWord → ℕ
words_so cbaser cwriter other ItsCtlr = 0
words_so cbaser cwriter other Cbaser = cbaser
words_so cbaser cwriter other Cwriter = cwriter
words_so cbaser cwriter other word = other

abbrev pub view_so : (PlainWord → ℕ) → ℕ → Bool → View
view_so words offset is_stalled = record (found_by []) { words = words; offset = offset; is_stalled = is_stalled }

record HasFirst (reg : ItsReg) (half : Half) (value : ℕ) (named : List Happened) : Type 0 where
  view : View
  are : AreFirst view (its_written view reg half value) named

lt_from : (a b : ℕ) → a < b → nat_lt a b ≡ true
lt_from a b h = grind (arith, common_steps, h)

in_queue : (written : ℕ) → nat_lt (queue_offset written) (queue_bytes 255) ≡ true
in_queue written = lt_from (queue_offset written) 1048576 (omega arith)

module _ (half : Half) (value : ℕ) where
  abbrev pub written_by : ℕ → ℕ
  written_by held = half_written half held value

  alone : (view : View) (word : PlainWord) (new : ℕ → ℕ) (one : Happened) (named : List Happened) → IsStored word (new (held_in one)) one × (named ≡ []) → held_in one ≡ view.words word → AreFirst view (Put word (new (view.words word)) ∷ []) (one ∷ named)
  alone view word new one named is held =
      let event = Put word (new (view.words word)) in
      first_of view one event [] named (stored_event word (new (held_in one)) one is.0 ∙ ap (λ n. Put word (new n)) held) (put_hands view word (new (held_in one)) one is.0 held) (none_is view [] named is.1)

  -- of GITS_CBASER
  abbrev pub cbaser_held : List Happened → ℕ
  cbaser_held (run ∷ store ∷ named) = held_in store
  cbaser_held named = 0

  store_first : (view : View) (named : List Happened) → MayStore half value named → ((one : Happened) (more : List Happened) → named ≡ one ∷ more → held_in one ≡ view.words Cbaser) → AreFirst view (last_store view half value ∷ []) named
  store_first view [] may held = none_of view (last_store view half value ∷ [])
  store_first view (one ∷ named) may held = alone view Cbaser (λ held. cbaser_bits (written_by held)) one named may (held one named refl)

  start_first : (cwriter : ℕ) (named : List Happened) → MayStart half value named → AreFirst (view_so (words_so (cbaser_held named) cwriter 0) 0 false) (Queue 0 Runs ∷ last_store (view_so (words_so (cbaser_held named) cwriter 0) 0 false) half value ∷ []) named
  start_first cwriter [] may = none_of (view_so (words_so 0 cwriter 0) 0 false) (Queue 0 Runs ∷ last_store (view_so (words_so 0 cwriter 0) 0 false) half value ∷ [])
  start_first cwriter (one ∷ []) may =
      let view = view_so (words_so 0 cwriter 0) 0 false in
      first_of view one (Queue 0 Runs) (last_store view half value ∷ []) [] (ap (λ (h : Happened). h.event) may.0) (runs_hands view 0 one may.0) (none_of view (last_store view half value ∷ []))
  start_first cwriter (one ∷ other ∷ named) may =
      let view = view_so (words_so (held_in other) cwriter 0) 0 false in
      first_of view one (Queue 0 Runs) (last_store view half value ∷ []) (other ∷ named) (ap (λ (h : Happened). h.event) may.0) (runs_hands view 0 one may.0) (alone view Cbaser (λ held. cbaser_bits (written_by held)) other named may.1 refl)

  cbaser_first : (one : Happened) (named : List Happened) → MayWrite CbaserReg half value one named → HasFirst CbaserReg half value (one ∷ named)
  cbaser_first one named may =
      let view = view_so (words_so (cbaser_held named) (held_in one) 0) 0 false in
      record {
        view = view;
        are = first_of view one (Put Cwriter 0) (Queue 0 Runs ∷ last_store view half value ∷ []) named (stored_event Cwriter 0 one may.0) (put_hands view Cwriter 0 one may.0 refl) (start_first (held_in one) named may.1);
      }

  -- of GITS_CWRITER
  cwriter_is :
      (view : View) (runs_on : Bool) → (queue : view.words Cbaser ≡ 255) → (view.is_stalled && has_bit (written_by (view.words Cwriter)) 0) ≡ runs_on
      → its_written view CwriterReg half value ≡ Put Cwriter (queue_offset (written_by (view.words Cwriter))) ∷ cond runs_on (Queue view.offset Runs ∷ []) []
  cwriter_is view runs_on queue on =
      let written = written_by (view.words Cwriter) in
      let fits : nat_lt (queue_offset written) (queue_bytes (view.words Cbaser)) ≡ true = ap (λ c. nat_lt (queue_offset written) (queue_bytes c)) queue ∙ in_queue written in
      ap (λ b. cond b (Put Cwriter (queue_offset written) ∷ cond (view.is_stalled && (b && has_bit written 0)) (Queue view.offset Runs ∷ []) []) []) fits
      ∙ ap (λ b. Put Cwriter (queue_offset written) ∷ cond b (Queue view.offset Runs ∷ []) []) on

  cwriter_first : (one : Happened) (named : List Happened) → MayWrite CwriterReg half value one named → HasFirst CwriterReg half value (one ∷ named)
  cwriter_first one [] may =
      let view = view_so (words_so 255 (held_in one) 0) 0 false in
      let written = written_by (held_in one) in
      record {
        view = view;
        are = subst (λ events. AreFirst view events (one ∷ [])) (sym (cwriter_is view false refl refl)) (first_of view one (Put Cwriter (queue_offset written)) [] [] (stored_event Cwriter (queue_offset written) one may.0) (put_hands view Cwriter (queue_offset written) one may.0 refl) (none_of view []));
      }
  cwriter_first one (other ∷ named) may =
      let offset = may.1.1.0.0 in
      let view = view_so (words_so 255 (held_in one) 0) offset true in
      let written = written_by (held_in one) in
      let last : AreFirst view (Queue offset Runs ∷ []) (other ∷ named) = first_of view other (Queue offset Runs) [] named (ap (λ (h : Happened). h.event) may.1.1.0.1) (runs_hands view offset other may.1.1.0.1) (none_is view [] named may.1.1.1) in
      record {
        view = view;
        are = subst (λ events. AreFirst view events (one ∷ other ∷ named)) (sym (cwriter_is view true refl may.1.0)) (first_of view one (Put Cwriter (queue_offset written)) (Queue offset Runs ∷ []) (other ∷ named) (stored_event Cwriter (queue_offset written) one may.0) (put_hands view Cwriter (queue_offset written) one may.0 refl) last);
      }

  write_first : (reg : ItsReg) (one : Happened) (named : List Happened) → MayWrite reg half value one named → HasFirst reg half value (one ∷ named)
  write_first ItsCtlrReg one named may =
      let view = view_so (λ word. held_in one) 0 false in
      record { view = view; are = alone view ItsCtlr (λ held. bit_of (enabled_in value)) one named may refl }
  write_first CbaserReg one named may = cbaser_first one named may
  write_first CwriterReg one named may = cwriter_first one named may
  write_first Baser0Reg one named may =
      let view = view_so (words_so 0 0 (held_in one)) 0 false in
      record { view = view; are = alone view Baser0 (λ held. baser_bits (written_by held)) one named may refl }
  write_first Baser1Reg one named may =
      let view = view_so (words_so 0 0 (held_in one)) 0 false in
      record { view = view; are = alone view Baser1 (λ held. baser_bits (written_by held)) one named may refl }
  write_first reg one named may = absurd may

  begin_first : (reg : ItsReg) (named : List Happened) → MayBegin reg half value named → HasFirst reg half value named
  begin_first reg [] may = let view = found_by [] in record { view = view; are = none_of view (its_written view reg half value) }
  begin_first reg (one ∷ named) may = write_first reg one named may

-- The program.

module _ (shape : GuestShape) (actor offset size value : ℕ) (piece : List Happened) (reg : ItsReg) (half : Half) (here : its_decoded offset size ≡ ItsPlain reg half) (turn : takes_turn shape (its_decoded offset size) (Some value) ≡ true) where
  abbrev pub own : List Happened
  own = named_of (Some actor) piece

  events_here : (view : View) → its_events shape view (its_decoded offset size) (Some value) ≡ its_written view reg half value
  events_here view =
      let takes : (has_lpis shape && takes_its reg) ≡ true = ap (λ ref. takes_turn shape ref (Some value)) (sym here) ∙ turn in
      ap (λ ref. its_events shape view ref (Some value)) here ∙ ap (λ b. cond b (its_written view reg half value) []) (and_parts (has_lpis shape) (takes_its reg) takes).0

  pub may_begin_told : (b : Bool) → IsTrue b ↔ MayBegin reg half value own → IsTrue b ↔ IsWriteBegun shape actor offset size value piece
  may_begin_told b is = (
    λ t. let first = begin_first half value reg own (is.0 t) in record { view = first.view; more = first.are.more; events_are = first.are.events_are ∙ sym (events_here first.view); found = first.are.found },
    λ begun. is.1 (begin_told begun.view half value reg own (record { more = begun.more; events_are = begun.events_are ∙ events_here begun.view; found = begun.found })),
  )
