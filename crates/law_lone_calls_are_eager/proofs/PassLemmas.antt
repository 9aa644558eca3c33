-- What the events of operations pass, whatever is beside them.
use Rattle.std.proofs.Common.{◌≡◌, ℕ, ◌+◌, ◌&&◌, ◌||◌, Bool, true, false, cond, IsTrue, List, [], ◌∷◌, ◌++◌, map, Option, Some, None, refl, sym, ap, ◌∙◌, subst}
use Rattle.std.specs.List.{list_all, range_with_len, filter_map}
use Rattle.std.specs.Option.{option_map_or, option_map}
use Rattle.std.proofs.lemmas.Bool.{and_from}
use Rattle.std.proofs.lemmas.List.Folds.{list_all-append}
use Rattle.law_home_commutes.specs.Registers.{intid_of, is_target, has_part, Enables, SetSpi, ClrSpi, Router, enables_in, message_intid, part_of, inserted, Part as RamPart, Propbaser as PropbaserReg, Pendbaser as PendbaserReg, enable_lpis_after, translated}
use Rattle.law_home_commutes.specs.Words.{IccReg, Sgi1r, Key, Private, Spi, Lpi, DeviceOp, Message, Wire, Msi, Frame, Dist, Redist, Its, Ram as Memory, Kind, ClearPending, SetPending, Routing, GuestShape, has_interrupt, interrupt_count, key_at, is_number}
use Rattle.law_home_commutes.specs.GicDmap.declared.map.Reg.TheVariants.{Ctlr as DistCtlr}
use Rattle.law_home_commutes.specs.GicDmap.declared.map.RegRef.{RegRef as DistRef}
use Rattle.law_home_commutes.specs.GicDmap.declared.map.RegRef.TheVariants.{Bits as DistBits, Plain as DistPlain, Reserved as DistReserved}
use Rattle.law_home_commutes.specs.Calls.{Ram, Propbaser, Pendbaser, Part, Map, Clear, Event, Up, Down, Touch, Enable, Put, CtlrBegin, CtlrEnd, ItsBegin, Place, QueueChange, Done, Stalls, Touching, Enables as CopyEnables, Register, part_touch, part_event, part_events, part_at, router_touch, copy_at, dist_events, is_table_zero, is_in_table, pended_at, redist_events, memory_written, sgi_at, icc_raises, device_events, lpi_event, queue_event, command_parts, command_words, next_offset, Happened, is_beside, Beside, Makes, ArePartsThen, IsCommand, AreCommands, AreStarted, left_by, View, is_its_enabled, words_read}
use Rattle.law_home_commutes.specs.GicRmap.declared.map.Reg.TheVariants.{Ctlr as RedistCtlr}
use Rattle.law_home_commutes.specs.GicRmap.declared.map.RegRef.{RegRef as RedistRef}
use Rattle.law_home_commutes.specs.GicRmap.declared.map.RegRef.TheVariants.{Bits as RedistBits, Plain as RedistPlain, Reserved as RedistReserved}
use Rattle.law_home_commutes.specs.GicCall.declared.command.Part.TheVariants.{Forget, Retarget, Raise as RaisePart, Configure}
use Rattle.law_home_commutes.specs.GicCall.declared.event.Event.TheVariants.{Raise, ItsEnd, Queue}
use Rattle.law_home_commutes.specs.GicCall.declared.touch.Touching.TheVariants.{Forget as ForgetLpi}
use Rattle.law_eager_is_history.proofs.EventLemmas.{all_found}
use Rattle.law_lone_calls_are_eager.proofs.CommandLemmas.{events_both}
use Rattle.law_lone_calls_are_eager.proofs.OneLemmas.{queue_is}
use Rattle.law_lone_calls_are_eager.proofs.ReadLemmas.{beside_passes}
use Rattle.law_lone_calls_are_eager.proofs.RunLemmas.{events_of}

-- what such an operation does to an interrupt: to an LPI no more than that it becomes pending, or has its copies of the enables
abbrev pub is_plain_touch : Key → Touching → Bool
is_plain_touch (Lpi id) (Register SetPending value) = true
is_plain_touch (Lpi id) (CopyEnables en0 en1) = true
is_plain_touch (Lpi id) touching = false
is_plain_touch key touching = true

-- a test that each event of an operation passes that is no access of a CPU interface, and takes no command
pub record PassesNamed (test : Event → Bool) : Type 0 where
  pub raise : (key : Key) → test (Raise key) ≡ true
  pub up : (key : Key) → test (Up key) ≡ true
  pub down : (key : Key) → test (Down key) ≡ true
  pub touch : (key : Key) (touching : Touching) → is_plain_touch key touching ≡ true → test (Touch key touching) ≡ true
  pub enable : (vcpu : ℕ) → test (Enable vcpu) ≡ true
  pub ctlr_begin : (enables : Enables) → test (CtlrBegin enables) ≡ true
  pub ctlr_end : test CtlrEnd ≡ true
  pub its_begin : test ItsBegin ≡ true
  pub its_end : test ItsEnd ≡ true
  pub ram : (index value : ℕ) → test (Put (Ram index) value) ≡ true
  pub propbaser : (vcpu value : ℕ) → test (Put (Propbaser vcpu) value) ≡ true
  pub pendbaser : (vcpu value : ℕ) → test (Put (Pendbaser vcpu) value) ≡ true

-- one that each event of a command passes, and each that is beside those that are named
pub record PassesBeside (test : Event → Bool) : Type 0 where
  pub beside : (actor : Option ℕ) (event : Event) → is_beside actor event ≡ true → test event ≡ true
  pub raise : (key : Key) → test (Raise key) ≡ true
  pub touch : (key : Key) (touching : Touching) → test (Touch key touching) ≡ true
  pub queue : (offset : ℕ) (change : QueueChange) → test (Queue offset change) ≡ true

-- The events of operations.

module _ (test : Event → Bool) (passes : PassesNamed test) where
  either : (b : Bool) (one other : List Event) → IsTrue (list_all test one) → IsTrue (list_all test other) → IsTrue (list_all test (cond b one other))
  either true one other h k = h
  either false one other h k = k

  parts_all : (shape : GuestShape) (frame : Frame) (kind : Kind) (first count : ℕ) (write : Option ℕ) → IsTrue (list_all test (part_events shape frame kind first count write))
  parts_all shape frame kind first count write = all_found test (part_event shape frame kind first write) 0 count (λ i. by frame i)
    where
      of : (key : Key) (i : ℕ) (b : Bool) → is_plain_touch key (part_touch kind write i) ≡ true → IsTrue (option_map_or test (option_map (λ key. Touch key (part_touch kind write i)) (cond b (Some key) None)) true)
      of key i false plain = refl
      of key i true plain = passes.touch key (part_touch kind write i) plain

      by : (frame : Frame) (i : ℕ) → IsTrue (option_map_or test (part_event shape frame kind first write i) true)
      by Dist i = of (Spi (first + i)) i (has_interrupt shape (Spi (first + i)) && has_part kind (Spi (first + i))) refl
      by (Redist vcpu) i = of (Private vcpu (first + i)) i (has_interrupt shape (Private vcpu (first + i)) && has_part kind (Private vcpu (first + i))) refl
      by Its i = refl
      by Memory i = refl

  copies_all : (shape : GuestShape) (enables : Enables) (places : List ℕ) → IsTrue (list_all test (map (copy_at shape enables) places ++ CtlrEnd ∷ []))
  copies_all shape enables [] = and_from (test CtlrEnd) true passes.ctlr_end refl
  copies_all shape enables (place ∷ places) =
      and_from (test (copy_at shape enables place)) (list_all test (map (copy_at shape enables) places ++ CtlrEnd ∷ [])) (passes.touch (key_at shape place) (CopyEnables enables.group0 enables.group1) (plain (key_at shape place))) (copies_all shape enables places)
    where
      plain : (key : Key) → is_plain_touch key (CopyEnables enables.group0 enables.group1) ≡ true
      plain (Lpi id) = refl
      plain key = refl

  pub dist_all : (shape : GuestShape) (view : View) (ref : DistRef) (write : Option ℕ) → IsTrue (list_all test (dist_events shape view ref write))
  dist_all shape view (DistBits kind first count) write = parts_all shape Dist kind first count write
  dist_all shape view (DistPlain (Router id) half) write = either (has_interrupt shape (Spi id)) (Touch (Spi id) (router_touch half write (part_at shape view Dist Routing id 0)) ∷ []) [] (and_from (test (Touch (Spi id) (router_touch half write (part_at shape view Dist Routing id 0)))) true (passes.touch (Spi id) (router_touch half write (part_at shape view Dist Routing id 0)) refl) refl) refl
  dist_all shape view (DistPlain reg half) None = refl
  dist_all shape view (DistPlain DistCtlr half) (Some value) =
      and_from (test (CtlrBegin (enables_in value))) (list_all test (map (copy_at shape (enables_in value)) (range_with_len 0 (interrupt_count shape)) ++ CtlrEnd ∷ [])) (passes.ctlr_begin (enables_in value)) (copies_all shape (enables_in value) (range_with_len 0 (interrupt_count shape)))
  dist_all shape view (DistPlain SetSpi half) (Some value) = either (has_interrupt shape (Spi (message_intid value))) (Raise (Spi (message_intid value)) ∷ []) [] (and_from (test (Raise (Spi (message_intid value)))) true (passes.raise (Spi (message_intid value))) refl) refl
  dist_all shape view (DistPlain ClrSpi half) (Some value) = either (has_interrupt shape (Spi (message_intid value))) (Touch (Spi (message_intid value)) (Register ClearPending 1) ∷ []) [] (and_from (test (Touch (Spi (message_intid value)) (Register ClearPending 1))) true (passes.touch (Spi (message_intid value)) (Register ClearPending 1) refl) refl) refl
  dist_all shape view (DistPlain reg half) (Some value) = refl
  dist_all shape view DistReserved write = refl

  enable_all : (shape : GuestShape) (view : View) (vcpu : ℕ) (b c : Bool) → IsTrue (list_all test (cond b (Enable vcpu ∷ cond c [] (filter_map (λ number. pended_at shape view vcpu (8192 + number)) (range_with_len 0 shape.lpis))) []))
  enable_all shape view vcpu false c = refl
  enable_all shape view vcpu true true = and_from (test (Enable vcpu)) true (passes.enable vcpu) refl
  enable_all shape view vcpu true false =
      and_from (test (Enable vcpu)) (list_all test (filter_map (λ number. pended_at shape view vcpu (8192 + number)) (range_with_len 0 shape.lpis))) (passes.enable vcpu)
      (all_found test (λ number. pended_at shape view vcpu (8192 + number)) 0 shape.lpis (λ i. of i (is_number vcpu (view.targets (8192 + i)) && is_in_table shape view vcpu (8192 + i))))
    where
      of : (i : ℕ) (b : Bool) → IsTrue (option_map_or test (cond b (Some (Touch (Lpi (8192 + i)) (Register SetPending 1))) None) true)
      of i true = passes.touch (Lpi (8192 + i)) (Register SetPending 1) refl
      of i false = refl

  pub redist_all : (shape : GuestShape) (view : View) (vcpu : ℕ) (ref : RedistRef) (write : Option ℕ) → IsTrue (list_all test (redist_events shape view vcpu ref write))
  redist_all shape view vcpu (RedistBits kind first count) write = parts_all shape (Redist vcpu) kind first count write
  redist_all shape view vcpu (RedistPlain reg half) None = refl
  redist_all shape view vcpu (RedistPlain RedistCtlr half) (Some value) = enable_all shape view vcpu (enable_lpis_after shape false value) (view.lpis vcpu || is_table_zero (view.words (Pendbaser vcpu)))
  redist_all shape view vcpu (RedistPlain PropbaserReg half) (Some value) = either (view.lpis vcpu) [] (Put (Propbaser vcpu) _ ∷ []) refl (and_from (test (Put (Propbaser vcpu) _)) true (passes.propbaser vcpu _) refl)
  redist_all shape view vcpu (RedistPlain PendbaserReg half) (Some value) = either (view.lpis vcpu) [] (Put (Pendbaser vcpu) _ ∷ []) refl (and_from (test (Put (Pendbaser vcpu) _)) true (passes.pendbaser vcpu _) refl)
  redist_all shape view vcpu (RedistPlain reg half) (Some value) = refl
  redist_all shape view vcpu RedistReserved write = refl

  pub memory_all : (shape : GuestShape) (view : View) (address size value : ℕ) → IsTrue (list_all test (memory_written shape view address size value))
  memory_all shape view address size value = of (part_of address size shape.ram)
    where
      of : (o : Option RamPart) → IsTrue (list_all test (option_map_or (λ part. Put (Ram part.index) (inserted (view.words (Ram part.index)) part value) ∷ []) o []))
      of None = refl
      of (Some part) = and_from (test (Put (Ram part.index) _)) true (passes.ram part.index _) refl

  pub raises_all : (shape : GuestShape) (vcpu : ℕ) (reg : IccReg) (write : Option ℕ) → IsTrue (list_all test (icc_raises shape vcpu reg write))
  raises_all shape vcpu Sgi1r (Some value) = all_found test (sgi_at value vcpu) 0 shape.vcpus (λ i. of i (is_target value vcpu i))
    where
      of : (i : ℕ) (b : Bool) → IsTrue (option_map_or test (cond b (Some (Raise (Private i (intid_of value)))) None) true)
      of i true = passes.raise (Private i (intid_of value))
      of i false = refl
  raises_all shape vcpu Sgi1r None = refl
  raises_all shape vcpu reg write = refl

  pub device_all : (view : View) (op : DeviceOp) → IsTrue (list_all test (device_events view op))
  device_all view (Message spi) = and_from (test (Raise (Spi spi))) true (passes.raise (Spi spi)) refl
  device_all view (Wire key true) = and_from (test (Up key)) true (passes.up key) refl
  device_all view (Wire key false) = and_from (test (Down key)) true (passes.down key) refl
  device_all view (Msi device event) = of (translated view.maps (is_its_enabled view) device event)
    where
      last : IsTrue (list_all test (ItsEnd ∷ []))
      last = and_from (test ItsEnd) true passes.its_end refl

      of : (o : Option ℕ) → IsTrue (list_all test (ItsBegin ∷ option_map_or (λ id. Raise (Lpi id) ∷ []) o [] ++ ItsEnd ∷ []))
      of None = and_from (test ItsBegin) (list_all test (ItsEnd ∷ [])) passes.its_begin last
      of (Some id) = and_from (test ItsBegin) (list_all test (Raise (Lpi id) ∷ ItsEnd ∷ [])) passes.its_begin (and_from (test (Raise (Lpi id))) (list_all test (ItsEnd ∷ [])) (passes.raise (Lpi id)) last)

-- Pieces, with what is beside their events.

module _ (test : Event → Bool) (passes : PassesBeside test) where
  pub makes_all : (actor : Option ℕ) (view : View) (events : List Event) (places : List Place) (before piece : List Happened) → Makes actor view events places before piece → IsTrue (list_all test events) → IsTrue (list_all test (events_of piece))
  makes_all actor view events places before piece made none = beside_passes test passes.beside actor piece (subst (λ es. IsTrue (list_all test es)) (sym made.events_are) none)

  pub both_all : (first next : List Happened) → IsTrue (list_all test (events_of first)) → IsTrue (list_all test (events_of next)) → IsTrue (list_all test (events_of (first ++ next)))
  both_all first next one two =
      ap (list_all test) (events_both first next) ∙ list_all-append test (events_of first) (events_of next) ∙ and_from (list_all test (events_of first)) (list_all test (events_of next)) one two

  part_all : (shape : GuestShape) (view : View) (targets : ℕ → Option ℕ) (part : Part) → test (lpi_event shape view targets part) ≡ true
  part_all shape view targets (Forget id) = passes.touch (Lpi id) ForgetLpi
  part_all shape view targets (Map id target) = passes.touch (Lpi id) _
  part_all shape view targets (Retarget id target) = passes.touch (Lpi id) _
  part_all shape view targets (RaisePart id) = passes.raise (Lpi id)
  part_all shape view targets (Clear id) = passes.touch (Lpi id) _
  part_all shape view targets (Configure id) = passes.touch (Lpi id) _

  parts_then_all : (actor : Option ℕ) (shape : GuestShape) (targets : ℕ → Option ℕ) (words : List Happened) (parts : List Part) (Rest : List Happened → Type 0) → ((piece : List Happened) → Rest piece → IsTrue (list_all test (events_of piece)))
      → (before piece : List Happened) → ArePartsThen actor shape targets words parts Rest before piece → IsTrue (list_all test (events_of piece))
  parts_then_all actor shape targets words [] Rest rest before piece are = rest piece are
  parts_then_all actor shape targets words (part ∷ parts) Rest rest before piece are =
      subst (λ xs. IsTrue (list_all test (events_of xs))) (sym are.split)
      (both_all are.own are.rest
      (makes_all actor are.view (lpi_event shape are.view targets part ∷ []) _ before are.own are.made (and_from (test (lpi_event shape are.view targets part)) true (part_all shape are.view targets part) refl))
      (parts_then_all actor shape targets words parts Rest rest words are.rest are.later))

  command_all : (actor : Option ℕ) (shape : GuestShape) (view : View) (piece : List Happened) → IsCommand actor shape view piece → IsTrue (list_all test (events_of piece))
  command_all actor shape view piece is =
      subst (λ xs. IsTrue (list_all test (events_of xs))) (sym is.split)
      (both_all is.fetch is.rest (makes_all actor view [] _ [] is.fetch is.fetched refl)
      (parts_then_all actor shape view.targets (words_read shape view) (command_parts shape view) (λ after. Makes actor view (queue_event shape view ∷ []) [] [] after)
      (λ after made. makes_all actor view (queue_event shape view ∷ []) [] [] after made (and_from (test (queue_event shape view)) true (queue_is shape view (λ e. test e ≡ true) (λ fault. passes.queue view.offset (Stalls fault)) (passes.queue (next_offset view) (Done (command_words shape view)))) refl))
      is.fetch is.rest is.done))

  commands_all : (actor : Option ℕ) (shape : GuestShape) (beside : Beside) (views : List View) (number : ℕ) (its : View) (piece : List Happened) → AreCommands actor shape beside number its views piece → IsTrue (list_all test (events_of piece))
  commands_all actor shape beside [] number its piece are = makes_all actor its [] [] [] piece are.0 refl
  commands_all actor shape beside (view ∷ views) number its piece are =
      subst (λ xs. IsTrue (list_all test (events_of xs))) (sym are.split)
      (both_all are.own are.rest (command_all actor shape view are.own are.command) (commands_all actor shape beside views (number + 1) (left_by shape view (queue_event shape view)) are.rest are.later))

  pub started_all : (b : Bool) (actor : Option ℕ) (shape : GuestShape) (beside : Beside) (its : View) (views : List View) (piece : List Happened) → AreStarted b actor shape beside its views piece → IsTrue (list_all test (events_of piece))
  started_all true actor shape beside its views piece are = commands_all actor shape beside views 0 its piece are
  started_all false actor shape beside its views piece are = makes_all actor its [] [] [] piece are refl
