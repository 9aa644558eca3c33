-- What a call makes of interrupts, it might make before; and what it may make only shrinks.
use Rattle.std.proofs.Common.{◌≡◌, ℕ, ◌&&◌, not, nat_lt, Bool, true, false, cond, List, [], ◌∷◌, ◌++◌, length, drop, take, fold, Option, Some, None, refl, sym, ap, ◌∙◌, inl, inr, append_assoc, append-nil, take-append-drop, drop-drop, length-append}
use Rattle.std.specs.List.{list_all, list_any}
use Rattle.std.specs.Option.{option_map_or}
use Rattle.std.proofs.lemmas.Bool.{and_parts, and_from, or_cases, or_left, or_right, or_parts, not-true, not_from_false}
use Rattle.std.proofs.lemmas.List.{map-append}
use Rattle.std.proofs.lemmas.List.Elements.{filter_map-append}
use Rattle.std.proofs.lemmas.List.Folds.{list_all-append, list_any-append}
use Rattle.law_histories.specs.Words.{Key, Lpi, Frame, Dist, Redist, Its, Ram as Memory, Icc, Mem, DeviceOp, Message, Wire, Msi, GuestShape, IccReg, is_same_key, intid_of}
use Rattle.law_histories.specs.Registers.{has_lpis, Cbaser as CbaserReg, Cwriter as CwriterReg, Creadr, Baser0 as Baser0Reg, Baser1 as Baser1Reg, translated}
use Rattle.law_histories.specs.GicRmap.Map.{decoded as redist_decoded}
use Rattle.law_histories.specs.GicImap.declared.map.Reg.TheVariants.{Ctlr as ItsCtlrReg, Iidr as ItsIidr, Typer as ItsTyper, Pidr2 as ItsPidr2}
use Rattle.law_histories.specs.GicImap.declared.map.RegRef.{RegRef as ItsRef}
use Rattle.law_histories.specs.GicImap.declared.map.RegRef.TheVariants.{Plain as ItsPlain, Reserved as ItsReserved}
use Rattle.law_histories.specs.GicImap.Map.{decoded as its_decoded}
use Rattle.law_histories.specs.GicCall.Call.{starts_commands}
use Rattle.law_histories.specs.Calls.{Event, ItsBegin, Runs, Done, Stalls, Found, Operation, Access, Device, Residence, Happened, View, is_its_enabled, its_starts, takes_turn, sets_lpis, icc_events, access_events, device_events, IsCall, IsIccCall, IsPlainCall, IsItsCall, IsItsWrite, IsDeviceCall, AreStarted, Beside, its_written_by, named_of}
use Rattle.law_histories.specs.GicCall.declared.event.Event.TheVariants.{Raise, ItsEnd, Queue}
use Rattle.law_histories.specs.Histories.{Ideal, Call, noted, made, key_in, lpi_in, takes_commands, starts_queue, vcpu_of}
use Rattle.law_histories.proofs.GicCall.TraceLemmas.{its_made, access_made, op_made, sets_events}
use Rattle.law_histories.proofs.CourseLemmas.{noted_piece}
use Rattle.law_histories.proofs.SpreadLemmas.{events_of}
use Rattle.legal_lists.specs.Legal.{Note, Made, Sees, noting, keys_of, gives_back, events_in_order, may_make_lpi, may_make_after, may_make}
use Rattle.legal_lists.proofs.KeyLemmas.{keys_at, none_at, in_order, first_key, IsAbove, is_rising, rising_at, is_turn, IsInTurn, turn_at, turn_both, turn_none, is_held, keys_named, turn_named}
use Rattle.legal_lists.proofs.EventLemmas.{made_keys, made_held, dist_access_keys, redist_keys, memory_keys, bare_keys, bare_held, its_bare, both_held, held_started, enable_rise}

-- Whatever a call makes of interrupts.

starts_takes : (shape : GuestShape) (view : View) (ref : ItsRef) (value : ℕ) → its_starts shape view ref (Some value) ≡ true → (has_lpis shape && starts_queue ref) ≡ true
starts_takes shape view (ItsPlain ItsCtlrReg half) value h = h
starts_takes shape view (ItsPlain CwriterReg half) value h = and_from (has_lpis shape) true (and_parts (has_lpis shape) _ h).0 refl
starts_takes shape view (ItsPlain CbaserReg half) value h = and_from (has_lpis shape) false (and_parts (has_lpis shape) false h).0 (and_parts (has_lpis shape) false h).1
starts_takes shape view (ItsPlain Creadr half) value h = and_from (has_lpis shape) false (and_parts (has_lpis shape) false h).0 (and_parts (has_lpis shape) false h).1
starts_takes shape view (ItsPlain Baser0Reg half) value h = and_from (has_lpis shape) false (and_parts (has_lpis shape) false h).0 (and_parts (has_lpis shape) false h).1
starts_takes shape view (ItsPlain Baser1Reg half) value h = and_from (has_lpis shape) false (and_parts (has_lpis shape) false h).0 (and_parts (has_lpis shape) false h).1
starts_takes shape view (ItsPlain ItsIidr half) value h = and_from (has_lpis shape) false (and_parts (has_lpis shape) false h).0 (and_parts (has_lpis shape) false h).1
starts_takes shape view (ItsPlain ItsTyper half) value h = and_from (has_lpis shape) false (and_parts (has_lpis shape) false h).0 (and_parts (has_lpis shape) false h).1
starts_takes shape view (ItsPlain ItsPidr2 half) value h = and_from (has_lpis shape) false (and_parts (has_lpis shape) false h).0 (and_parts (has_lpis shape) false h).1
starts_takes shape view ItsReserved value h = absurd (cc)

module _ (shape : GuestShape) (actor : ℕ) (early : List Event) (event : Event) (late : List Event) (key : Key) (is_of : key_in event ≡ Some key) where
  ordered : (operation : Operation) → keys_of (early ++ event ∷ late) ≡ keys_of (events_in_order shape actor operation) → may_make_after shape actor operation early key ≡ true
  ordered operation are =
      or_left (list_any (is_same_key key) (drop (length (keys_of early)) (keys_of (events_in_order shape actor operation)))) (option_map_or (may_make_lpi shape operation early) (lpi_in key) false)
      (in_order early event late key (keys_of (events_in_order shape actor operation)) is_of are)

  none_made : keys_of (early ++ event ∷ late) ≡ [] → ⊥
  none_made are = none_at (keys_of early) key (keys_of late) (sym (keys_at early event late key is_of) ∙ are)

  of_lpi : (operation : Operation) (id : ℕ) → lpi_in key ≡ Some id → may_make_lpi shape operation early id ≡ true → may_make_after shape actor operation early key ≡ true
  of_lpi operation id e h =
      or_right (list_any (is_same_key key) (drop (length (keys_of early)) (keys_of (events_in_order shape actor operation)))) (option_map_or (may_make_lpi shape operation early) (lpi_in key) false)
      (ap (λ o. option_map_or (may_make_lpi shape operation early) o false) e ∙ h)

  module _ (beside : Beside) (piece : List Happened) (answer : Option ℕ) (are : events_of piece ≡ early ++ event ∷ late) where
    icc_possible : (reg : IccReg) (write : Option ℕ) → IsIccCall shape actor reg write piece answer → may_make_after shape actor (Access (Icc reg write)) early key ≡ true
    icc_possible reg write is = ordered (Access (Icc reg write)) (ap keys_of (sym are) ∙ made_keys (Some actor) is.view (icc_events shape actor reg write) [] [] piece is.made)

    plain_keys : (frame : Frame) (offset size : ℕ) (write : Option ℕ) (is : IsPlainCall shape beside actor frame offset size write piece answer) → keys_of (early ++ event ∷ late) ≡ keys_of (access_events shape is.view frame offset size write)
    plain_keys frame offset size write is = ap keys_of (sym are) ∙ made_keys (Some actor) is.view (access_events shape is.view frame offset size write) _ [] piece (access_made is)

    dist_possible : (offset size : ℕ) (write : Option ℕ) → IsPlainCall shape beside actor Dist offset size write piece answer → may_make_after shape actor (Access (Mem Dist offset size write)) early key ≡ true
    dist_possible offset size write is = ordered (Access (Mem Dist offset size write)) (plain_keys Dist offset size write is ∙ dist_access_keys shape is.view offset size write)

    redist_possible : (vcpu offset size : ℕ) (write : Option ℕ) → IsPlainCall shape beside actor (Redist vcpu) offset size write piece answer → may_make_after shape actor (Access (Mem (Redist vcpu) offset size write)) early key ≡ true
    redist_possible vcpu offset size write is = of (sets_lpis shape (redist_decoded offset size) write) refl
      where
        of : (b : Bool) → sets_lpis shape (redist_decoded offset size) write ≡ b → may_make_after shape actor (Access (Mem (Redist vcpu) offset size write)) early key ≡ true
        of true e =
            let keys = plain_keys (Redist vcpu) offset size write is ∙ ap keys_of (sets_events shape is.view vcpu (redist_decoded offset size) write e) in
            let above : IsAbove (keys_of early) key = rising_at 0 (keys_of early) key (keys_of late) (ap (is_rising 0) (sym (keys_at early event late key is_of) ∙ keys) ∙ enable_rise shape is.view vcpu) in
            of_lpi (Access (Mem (Redist vcpu) offset size write)) above.id above.is (and_from (sets_lpis shape (redist_decoded offset size) write) (list_all (λ one. nat_lt (intid_of one) above.id) (keys_of early)) e above.above)
        of false e = ordered (Access (Mem (Redist vcpu) offset size write)) (plain_keys (Redist vcpu) offset size write is ∙ redist_keys shape is.view vcpu (redist_decoded offset size) write e)

    its_plain_possible : (offset size : ℕ) (write : Option ℕ) → IsPlainCall shape beside actor Its offset size write piece answer → may_make_after shape actor (Access (Mem Its offset size write)) early key ≡ true
    its_plain_possible offset size write is = absurd (none_made (plain_keys Its offset size write is ∙ bare_keys (access_events shape is.view Its offset size write) (its_bare shape is.view (its_decoded offset size) write)))

    memory_possible : (offset size : ℕ) (write : Option ℕ) → IsPlainCall shape beside actor Memory offset size write piece answer → may_make_after shape actor (Access (Mem Memory offset size write)) early key ≡ true
    memory_possible offset size write is = absurd (none_made (plain_keys Memory offset size write is ∙ memory_keys shape is.view offset size write))

    -- a call that takes the ITS
    module _ (offset size value : ℕ) (is : IsItsCall shape beside actor offset size value piece answer) where
      register : list_all is_held (events_of is.register) ≡ true
      register =
          made_held (Some actor) is.view (ItsBegin ∷ access_events shape is.view Its offset size (Some value)) _ [] is.register (its_made is)
          (bare_held (access_events shape is.view Its offset size (Some value)) (its_bare shape is.view (its_decoded offset size) (Some value)))

      register_none : keys_of (events_of is.register) ≡ []
      register_none =
          made_keys (Some actor) is.view (ItsBegin ∷ access_events shape is.view Its offset size (Some value)) _ [] is.register (its_made is)
          ∙ bare_keys (access_events shape is.view Its offset size (Some value)) (its_bare shape is.view (its_decoded offset size) (Some value))

      last_none : keys_of (events_of is.last) ≡ []
      last_none = made_keys (Some actor) is.view (ItsEnd ∷ []) [] [] is.last is.ended

      split : events_of piece ≡ events_of (is.register ++ is.commands) ++ events_of is.last
      split = ap events_of is.split ∙ map-append (λ (happened : Happened). happened.event) (is.register ++ is.commands) is.last

      turn_possible : (b : Bool) → starts_commands shape is.view Its offset size (Some value) ≡ b
          → AreStarted b (Some actor) shape beside (its_written_by shape is.view (access_events shape is.view Its offset size (Some value))) is.views is.commands → may_make_after shape actor (Access (Mem Its offset size (Some value))) early key ≡ true
      turn_possible true e started =
          let commands = held_started (Some actor) shape beside (its_written_by shape is.view (access_events shape is.view Its offset size (Some value))) is.views is.commands started in
          let turn : is_turn (events_of piece) ≡ true = ap is_turn split ∙ turn_both (events_of (is.register ++ is.commands)) (events_of is.last) (both_held is.register is.commands register commands) (turn_none (events_of is.last) last_none) in
          let at : IsInTurn early key = turn_at early event late key is_of (ap is_turn (sym are) ∙ turn) in
          of_lpi (Access (Mem Its offset size (Some value))) at.id at.is
          (and_from (takes_commands shape (Access (Mem Its offset size (Some value)))) (not (list_any gives_back early)) (starts_takes shape is.view (its_decoded offset size) value e) (not_from_false (list_any gives_back early) at.held))
      turn_possible false e started =
          let commands : keys_of (events_of is.commands) ≡ [] = made_keys (Some actor) (its_written_by shape is.view (access_events shape is.view Its offset size (Some value))) [] [] [] is.commands started in
          let first : keys_of (events_of (is.register ++ is.commands)) ≡ [] =
          ap keys_of (map-append (λ (happened : Happened). happened.event) is.register is.commands) ∙ filter_map-append key_in (events_of is.register) (events_of is.commands) ∙ ap (λ ks. ks ++ keys_of (events_of is.commands)) register_none ∙ commands in
          absurd
          (none_made
          (ap keys_of (sym are ∙ split) ∙ filter_map-append key_in (events_of (is.register ++ is.commands)) (events_of is.last) ∙ ap (λ ks. ks ++ keys_of (events_of is.last)) first ∙ last_none))

      its_possible : may_make_after shape actor (Access (Mem Its offset size (Some value))) early key ≡ true
      its_possible = turn_possible (starts_commands shape is.view Its offset size (Some value)) refl is.started

    write_possible : (b : Bool) (offset size value : ℕ) → IsItsWrite b shape beside actor offset size value piece answer → may_make_after shape actor (Access (Mem Its offset size (Some value))) early key ≡ true
    write_possible true offset size value is = its_possible offset size value is
    write_possible false offset size value is = its_plain_possible offset size (Some value) is

    msi_possible : (device number : ℕ) → IsDeviceCall beside (Msi device number) piece answer → may_make_after shape actor (Device (Msi device number)) early key ≡ true
    msi_possible device number is = elim (op_made is) [
      | inl made ↦ of (translated is.view.maps (is_its_enabled is.view) device number) made.events_are
      | inr alone ↦ once alone.id (Raise (Lpi alone.id) ∷ []) alone.raised.events_are refl refl
    ]
      where
        once : (id : ℕ) (named : List Event) → events_of (named_of None piece) ≡ named → keys_of named ≡ Lpi id ∷ [] → is_turn named ≡ true → may_make_after shape actor (Device (Msi device number)) early key ≡ true
        once id named e keys turn =
            let at : IsInTurn early key = turn_at early event late key is_of (ap is_turn (sym are) ∙ turn_named None piece (ap is_turn e ∙ turn)) in
            let none : keys_of early ≡ [] = first_key early event late key (Lpi id) is_of (ap keys_of (sym are) ∙ keys_named None piece ∙ ap keys_of e ∙ keys) in
            of_lpi (Device (Msi device number)) at.id at.is
            (and_from (not (list_any (λ one. true) (keys_of early))) (not (list_any gives_back early)) (ap (λ ks. not (list_any (λ one. true) ks)) none) (not_from_false (list_any gives_back early) at.held))

        of : (o : Option ℕ) → events_of (named_of None piece) ≡ (ItsBegin ∷ option_map_or (λ id. Raise (Lpi id) ∷ []) o [] ++ ItsEnd ∷ []) → may_make_after shape actor (Device (Msi device number)) early key ≡ true
        of None e = absurd (none_made (ap keys_of (sym are) ∙ keys_named None piece ∙ ap keys_of e))
        of (Some id) e = once id (ItsBegin ∷ Raise (Lpi id) ∷ ItsEnd ∷ []) e refl refl

    device_possible : (op : DeviceOp) → IsDeviceCall beside op piece answer → may_make_after shape actor (Device op) early key ≡ true
    device_possible (Message spi) is = ordered (Device (Message spi)) (ap keys_of (sym are) ∙ made_keys None is.view (device_events is.view (Message spi)) [] [] piece is.made)
    device_possible (Wire wired up) is = ordered (Device (Wire wired up)) (ap keys_of (sym are) ∙ made_keys None is.view (device_events is.view (Wire wired up)) [] [] piece is.made)
    device_possible (Msi device number) is = msi_possible device number is

    call_possible : (b : Bool) (operation : Operation) → IsCall shape beside (cond b (Some actor) None) operation piece answer → may_make_after shape actor operation early key ≡ true
    call_possible true (Access (Icc reg write)) is = icc_possible reg write is
    call_possible true (Access (Mem Its offset size (Some value))) is = write_possible (takes_turn shape (its_decoded offset size) (Some value)) offset size value is
    call_possible true (Access (Mem Its offset size None)) is = its_plain_possible offset size None is
    call_possible true (Access (Mem Dist offset size write)) is = dist_possible offset size write is
    call_possible true (Access (Mem (Redist vcpu) offset size write)) is = redist_possible vcpu offset size write is
    call_possible true (Access (Mem Memory offset size write)) is = memory_possible offset size write is
    call_possible true Residence is = absurd (none_made (ap keys_of (sym are) ∙ keys_named (Some actor) piece ∙ ap (λ p. keys_of (events_of p)) is.0))
    call_possible true (Device op) is = absurd is
    call_possible false (Device op) is = device_possible op is
    call_possible false (Access op) is = absurd is
    call_possible false Residence is = absurd is

-- an event that a whole call has of an interrupt, it might make after those before
pub was_possible : (shape : GuestShape) (actor : ℕ) (beside : Beside) (operation : Operation) (piece : List Happened) (answer : Option ℕ) (early : List Event) (event : Event) (late : List Event) (key : Key)
    → IsCall shape beside (vcpu_of shape actor) operation piece answer → events_of piece ≡ early ++ event ∷ late → key_in event ≡ Some key → may_make_after shape actor operation early key ≡ true
was_possible shape actor beside operation piece answer early event late key is are is_of = call_possible shape actor early event late key is_of beside piece answer are (nat_lt actor shape.vcpus) operation is

-- What may be made only shrinks.

any_dropped : {X : Type 0} (p : X → Bool) (count : ℕ) (xs : List X) → list_any p (drop count xs) ≡ true → list_any p xs ≡ true
any_dropped p count xs h =
    ap (list_any p) (sym (take-append-drop count xs)) ∙ list_any-append p (take count xs) (drop count xs) ∙ or_right (list_any p (take count xs)) (list_any p (drop count xs)) h

ordered_shrinks : (keys : List Key) (key : Key) (early more : List Event) → list_any (is_same_key key) (drop (length (keys_of (early ++ more))) keys) ≡ true → list_any (is_same_key key) (drop (length (keys_of early)) keys) ≡ true
ordered_shrinks keys key early more h =
    any_dropped (is_same_key key) (length (keys_of more)) (drop (length (keys_of early)) keys)
    (ap (list_any (is_same_key key)) (drop-drop (length (keys_of more)) (length (keys_of early)) keys ∙ ap (λ n. drop n keys) (sym (ap length (filter_map-append key_in early more) ∙ length-append (keys_of early) (keys_of more)))) ∙ h)

held_before : (early more : List Event) → not (list_any gives_back (early ++ more)) ≡ true → not (list_any gives_back early) ≡ true
held_before early more h =
    not_from_false (list_any gives_back early)
    (or_parts (list_any gives_back early) (list_any gives_back more) (sym (list_any-append gives_back early more) ∙ not-true (list_any gives_back (early ++ more)) h)).0

none_before : (early more : List Event) → not (list_any (λ key. true) (keys_of (early ++ more))) ≡ true → not (list_any (λ key. true) (keys_of early)) ≡ true
none_before early more h =
    let one : Key → Bool = λ key. true in
    not_from_false (list_any one (keys_of early))
    (or_parts (list_any one (keys_of early)) (list_any one (keys_of more))
    (sym (ap (list_any one) (filter_map-append key_in early more) ∙ list_any-append one (keys_of early) (keys_of more)) ∙ not-true (list_any one (keys_of (early ++ more))) h)).0

lpi_shrinks : (shape : GuestShape) (operation : Operation) (early more : List Event) (id : ℕ) → may_make_lpi shape operation (early ++ more) id ≡ true → may_make_lpi shape operation early id ≡ true
lpi_shrinks shape (Access (Icc reg write)) early more id h = absurd (cc)
lpi_shrinks shape (Access (Mem (Redist vcpu) offset size write)) early more id h =
    let below : Key → Bool = λ key. nat_lt (intid_of key) id in
    let sets = sets_lpis shape (redist_decoded offset size) write in
    let both = and_parts sets (list_all below (keys_of (early ++ more))) h in
    and_from sets (list_all below (keys_of early)) both.0
    (and_parts (list_all below (keys_of early)) (list_all below (keys_of more)) (sym (ap (list_all below) (filter_map-append key_in early more) ∙ list_all-append below (keys_of early) (keys_of more)) ∙ both.1)).0
lpi_shrinks shape (Access (Mem Dist offset size write)) early more id h =
    let takes = takes_commands shape (Access (Mem Dist offset size write)) in
    let both = and_parts takes (not (list_any gives_back (early ++ more))) h in
    and_from takes (not (list_any gives_back early)) both.0 (held_before early more both.1)
lpi_shrinks shape (Access (Mem Its offset size write)) early more id h =
    let takes = takes_commands shape (Access (Mem Its offset size write)) in
    let both = and_parts takes (not (list_any gives_back (early ++ more))) h in
    and_from takes (not (list_any gives_back early)) both.0 (held_before early more both.1)
lpi_shrinks shape (Access (Mem Memory offset size write)) early more id h =
    let takes = takes_commands shape (Access (Mem Memory offset size write)) in
    let both = and_parts takes (not (list_any gives_back (early ++ more))) h in
    and_from takes (not (list_any gives_back early)) both.0 (held_before early more both.1)
lpi_shrinks shape (Device (Msi device event)) early more id h =
    let both = and_parts (not (list_any (λ key. true) (keys_of (early ++ more)))) (not (list_any gives_back (early ++ more))) h in
    and_from (not (list_any (λ key. true) (keys_of early))) (not (list_any gives_back early)) (none_before early more both.0) (held_before early more both.1)
lpi_shrinks shape (Device (Message spi)) early more id h = absurd (cc)
lpi_shrinks shape (Device (Wire key up)) early more id h = absurd (cc)
lpi_shrinks shape Residence early more id h = absurd (cc)

pub makes_less : (shape : GuestShape) (actor : ℕ) (operation : Operation) (early more : List Event) (key : Key) → may_make_after shape actor operation (early ++ more) key ≡ true → may_make_after shape actor operation early key ≡ true
makes_less shape actor operation early more key h = elim (or_cases ordered_later (option_map_or (may_make_lpi shape operation (early ++ more)) (lpi_in key) false) h) [
  | inl k ↦ or_left ordered_now (option_map_or (may_make_lpi shape operation early) (lpi_in key) false) (ordered_shrinks (keys_of (events_in_order shape actor operation)) key early more k)
  | inr k ↦ or_right ordered_now (option_map_or (may_make_lpi shape operation early) (lpi_in key) false) (of (lpi_in key) k)
]
  where
    ordered_later : Bool
    ordered_later = list_any (is_same_key key) (drop (length (keys_of (early ++ more))) (keys_of (events_in_order shape actor operation)))

    ordered_now : Bool
    ordered_now = list_any (is_same_key key) (drop (length (keys_of early)) (keys_of (events_in_order shape actor operation)))

    of : (o : Option ℕ) → option_map_or (may_make_lpi shape operation (early ++ more)) o false ≡ true → option_map_or (may_make_lpi shape operation early) o false ≡ true
    of None h = absurd (cc)
    of (Some id) h = lpi_shrinks shape operation early more id h

-- Calls that go on.

-- a call goes on as another, with more events
pub record GoesOnAs (call later : Call) : Type 0 where
  pub operation : later.operation ≡ call.operation
  pub more : List Happened
  pub piece : later.piece ≡ call.piece ++ more

noted_operation : (ideal : Ideal) (event : Event) (call : Call) → (noted ideal event call).operation ≡ call.operation
noted_operation ideal (Queue offset Runs) call = refl
noted_operation ideal (Queue offset (Done words)) call = refl
noted_operation ideal (Queue offset (Stalls fault)) call = refl
noted_operation ideal event call = refl

pub made_as : (ideal : Ideal) (event : Event) (found : Found) (call : Call) → GoesOnAs call (made ideal event found call)
made_as ideal event found call = record { operation = noted_operation ideal event call; more = (record { event = event; found = found }) ∷ []; piece = ap (λ p. p ++ (record { event = event; found = found }) ∷ []) (noted_piece ideal event call) }

noting_as : (call : Call) (note : Note) → GoesOnAs call (noting call note)
noting_as call (Made signals ideal event found) = made_as ideal event found call
noting_as call (Sees ideal) = record { operation = refl; more = []; piece = sym (append-nil call.piece) }

pub notes_as : (call : Call) (notes : List Note) → GoesOnAs call (fold noting call notes)
notes_as call [] = record { operation = refl; more = []; piece = sym (append-nil call.piece) }
notes_as call (note ∷ notes) =
    let first = noting_as call note in
    let rest = notes_as (noting call note) notes in
    record { operation = rest.operation ∙ first.operation; more = first.more ++ rest.more; piece = rest.piece ∙ ap (λ p. p ++ rest.more) first.piece ∙ append_assoc call.piece first.more rest.more }

-- what it may make later it may make before
pub makes_less_as : (shape : GuestShape) (actor : ℕ) (call later : Call) (key : Key) → GoesOnAs call later → may_make shape actor later key ≡ true → may_make shape actor call key ≡ true
makes_less_as shape actor call later key goes h =
    makes_less shape actor call.operation (events_of call.piece) (events_of goes.more) key
    (ap (λ o. may_make_after shape actor o (events_of call.piece ++ events_of goes.more) key) (sym goes.operation)
    ∙ ap (λ es. may_make_after shape actor later.operation es key) (sym (ap events_of goes.piece ∙ map-append (λ (happened : Happened). happened.event) call.piece goes.more)) ∙ h)
