-- The named events of accesses of memory and of memory-mapped registers that do not take the ITS.
use Rattle.std.proofs.Common.{◌≡◌, ℕ, ◌+◌, ◌<◌, ◌==◌, ◌&&◌, ◌||◌, Bool, true, false, cond, IsTrue, All, List, [], ◌∷◌, ◌++◌, map, Option, option_map, Some, None, refl, sym, ap, ◌∙◌, subst, arith}
use Rattle.std.specs.List.{list_all, range_with_len, filter_map}
use Rattle.std.specs.Option.{option_map_or}
use Rattle.std.proofs.lemmas.Grind.{common_steps}
use Rattle.std.proofs.lemmas.Bool.{ne_eqb}
use Rattle.std.proofs.lemmas.List.Elements.{All-nil, All-cons, All-head, All-tail}
use Rattle.floor_histories.specs.Words.{Key, Private, Spi, Lpi, Frame, Dist, Redist, Its, Ram as Memory, Kind, SetPending, ClearPending, Routing, GuestShape, IsShape, has_interrupt, interrupt_count, is_same_key, key_at, place_of, is_number}
use Rattle.floor_histories.proofs.GicBase.KeyLemmas.{same_key}
use Rattle.floor_histories.proofs.GicOpen.KeyLemmas.{place_at}
use Rattle.floor_histories.specs.Registers.{has_part, Half, Enables, SetSpi, ClrSpi, Router, enables_in, message_intid, Propbaser as PropbaserReg, Pendbaser as PendbaserReg, enable_lpis_after, propbaser_bits, pendbaser_bits, half_written, Part, part_of, inserted}
use Rattle.floor_histories.specs.GicDmap.declared.map.Reg.{Reg as DistReg}
use Rattle.floor_histories.specs.GicDmap.declared.map.Reg.TheVariants.{Ctlr as DistCtlr, Typer as DistTyper, Iidr as DistIidr, Pidr2 as DistPidr2}
use Rattle.floor_histories.specs.GicDmap.declared.map.RegRef.{RegRef as DistRef}
use Rattle.floor_histories.specs.GicDmap.declared.map.RegRef.TheVariants.{Bits as DistBits, Plain as DistPlain, Reserved as DistReserved}
use Rattle.floor_histories.specs.GicRmap.declared.map.Reg.{Reg as RedistReg}
use Rattle.floor_histories.specs.GicRmap.declared.map.Reg.TheVariants.{Ctlr as RedistCtlr, Iidr as RedistIidr, Typer as RedistTyper, Pidr2 as RedistPidr2}
use Rattle.floor_histories.specs.GicRmap.declared.map.RegRef.{RegRef as RedistRef}
use Rattle.floor_histories.specs.GicRmap.declared.map.RegRef.TheVariants.{Bits as RedistBits, Plain as RedistPlain, Reserved as RedistReserved}
use Rattle.floor_histories.specs.Calls.{Ram, Propbaser, Pendbaser, Event, Enable, Touch, Put, CtlrBegin, CtlrEnd, Touching, Register, part_key, part_touch, part_event, part_events, part_at, of_spi, router_touch, copy_at, ctlr_events, dist_written, dist_plain, dist_events, is_table_zero, is_in_table, pended_at, enable_events, redist_written, redist_events, memory_written, HappensFreely, pended_events}
use Rattle.floor_histories.specs.GicCall.declared.event.Event.TheVariants.{Raise}
use Rattle.floor_histories.specs.Histories.{IdealGuest, view_of, IsSound}
use Rattle.law_eager_is_history.proofs.EventLemmas.{is_touch, are_distinct, names_key, distinct_found, all_found, map_found}
use Rattle.law_eager_is_history.proofs.PieceLemmas.{is_pend, IsNamedPiece, of_none, of_one, of_touches, where_true, where_false, of_enable, of_ctlr, IsEnablePiece}

-- Registers that have a part for each interrupt.

apart : (i j : ℕ) → i < j → (i == j) ≡ false
apart i j h = ne_eqb i j (λ e. absurd (omega (arith, e, h)))

-- a touch of an interrupt, where there is one
touch_named : (key other : Key) (touch : Touching) (b : Bool) → names_key key (option_map (λ k. Touch k touch) (cond b (Some other) None)) ≡ true → is_same_key key other ≡ true
touch_named key other touch true h = h
touch_named key other touch false h = absurd (cc)

touch_unnamed : (key other : Key) (touch : Touching) (b : Bool) → is_same_key key other ≡ false → names_key key (option_map (λ k. Touch k touch) (cond b (Some other) None)) ≡ false
touch_unnamed key other touch true h = h
touch_unnamed key other touch false h = refl

parts_apart : (shape : GuestShape) (frame : Frame) (kind : Kind) (first : ℕ) (write : Option ℕ) (i j : ℕ) → i < j → (key : Key) → names_key key (part_event shape frame kind first write i) ≡ true → names_key key (part_event shape frame kind first write j) ≡ false
parts_apart shape Dist kind first write i j less key named =
    let has : Key → Bool = λ k. has_interrupt shape k && has_part kind k in
    let is = same_key key (Spi (first + i)) (touch_named key (Spi (first + i)) (part_touch kind write i) (has (Spi (first + i))) named) in
    touch_unnamed key (Spi (first + j)) (part_touch kind write j) (has (Spi (first + j))) (subst (λ k. is_same_key k (Spi (first + j)) ≡ false) (sym is) (apart (first + i) (first + j) (omega (arith, less))))
parts_apart shape (Redist vcpu) kind first write i j less key named =
    let has : Key → Bool = λ k. has_interrupt shape k && has_part kind k in
    let is = same_key key (Private vcpu (first + i)) (touch_named key (Private vcpu (first + i)) (part_touch kind write i) (has (Private vcpu (first + i))) named) in
    touch_unnamed key (Private vcpu (first + j)) (part_touch kind write j) (has (Private vcpu (first + j)))
    (subst (λ k. is_same_key k (Private vcpu (first + j)) ≡ false) (sym is) (second (vcpu == vcpu) (apart (first + i) (first + j) (omega (arith, less)))))
  where
    second : (b : Bool) {c : Bool} → c ≡ false → (b && c) ≡ false
    second true h = h
    second false h = refl
parts_apart shape Its kind first write i j less key named = refl
parts_apart shape Memory kind first write i j less key named = refl

copies_apart : (shape : GuestShape) → IsShape shape → (i j : ℕ) → i < j → j < interrupt_count shape → (key : Key) → is_same_key key (key_at shape i) ≡ true → is_same_key key (key_at shape j) ≡ false
copies_apart shape is i j less below key named = of (is_same_key key (key_at shape j)) refl
  where
    of : (b : Bool) → is_same_key key (key_at shape j) ≡ b → b ≡ false
    of true e =
        let same : key_at shape i ≡ key_at shape j = sym (same_key key (key_at shape i) named) ∙ same_key key (key_at shape j) e in
        let numbers : i ≡ j = sym (place_at shape i is (omega (arith, less, below))) ∙ ap (place_of shape) same ∙ place_at shape j is below in
        absurd (omega (arith, numbers, less))
    of false e = refl

touch_or_none : (touch : Touching) (key : Option Key) → IsTrue (option_map_or is_touch (option_map (λ k. Touch k touch) key) true)
touch_or_none touch None = refl
touch_or_none touch (Some key) = refl

module _ (actor : ℕ) (guest : IdealGuest) (sound : IsSound guest) where
  parts_piece : (frame : Frame) (kind : Kind) (first count : ℕ) (write : Option ℕ) → All (HappensFreely guest.shape) (part_events guest.shape frame kind first count write) → IsNamedPiece actor guest (part_events guest.shape frame kind first count write)
  parts_piece frame kind first count write can =
      of_touches actor guest sound (part_events guest.shape frame kind first count write)
      (all_found is_touch (part_event guest.shape frame kind first write) 0 count (λ i. touch_or_none (part_touch kind write i) (part_key guest.shape frame kind (first + i))))
      (distinct_found (part_event guest.shape frame kind first write) count 0 count (omega arith) (λ i j less below key named. parts_apart guest.shape frame kind first write i j less key named))
      can

  -- an event of an SPI, if there is one
  spi_piece : (id : ℕ) (event : Key → Event) → All (HappensFreely guest.shape) (of_spi guest.shape id event) → (All (HappensFreely guest.shape) (event (Spi id) ∷ []) → IsNamedPiece actor guest (event (Spi id) ∷ [])) → IsNamedPiece actor guest (of_spi guest.shape id event)
  spi_piece id event can piece = where_true actor guest sound (has_interrupt guest.shape (Spi id)) (event (Spi id) ∷ []) can piece

  -- The distributor.

  copies_piece : (enables : Enables) → All (HappensFreely guest.shape) (ctlr_events guest.shape enables) → IsNamedPiece actor guest (ctlr_events guest.shape enables)
  copies_piece enables can =
      let copies : List Event = map (copy_at guest.shape enables) (range_with_len 0 (interrupt_count guest.shape)) in
      let found = map_found (copy_at guest.shape enables) 0 (interrupt_count guest.shape) in
      of_ctlr actor guest sound enables copies
      (subst (λ es. IsTrue (list_all is_touch es)) found (all_found is_touch (λ i. Some (copy_at guest.shape enables i)) 0 (interrupt_count guest.shape) (λ i. refl)))
      (subst (λ es. IsTrue (are_distinct es)) found (distinct_found (λ i. Some (copy_at guest.shape enables i)) (interrupt_count guest.shape) 0 (interrupt_count guest.shape) (omega arith) (λ i j less below key named. copies_apart guest.shape sound.shape i j less below key named)))
      (only_first copies (CtlrEnd ∷ []) (All-tail (HappensFreely guest.shape) (CtlrBegin enables) (copies ++ CtlrEnd ∷ []) can))
    where
      only_first : (first next : List Event) → All (HappensFreely guest.shape) (first ++ next) → All (HappensFreely guest.shape) first
      only_first [] next can = All-nil (HappensFreely guest.shape)
      only_first (event ∷ first) next can = All-cons (HappensFreely guest.shape) event first (All-head (HappensFreely guest.shape) event (first ++ next) can) (only_first first next (All-tail (HappensFreely guest.shape) event (first ++ next) can))

  written_piece : (reg : DistReg) (value : ℕ) → All (HappensFreely guest.shape) (dist_written guest.shape reg value) → IsNamedPiece actor guest (dist_written guest.shape reg value)
  written_piece DistCtlr value can = copies_piece (enables_in value) can
  written_piece SetSpi value can = spi_piece (message_intid value) Raise can (λ c. of_one actor guest sound (Raise (Spi (message_intid value))) refl refl refl c refl)
  written_piece ClrSpi value can = spi_piece (message_intid value) (λ key. Touch key (Register ClearPending 1)) can (λ c. of_one actor guest sound (Touch (Spi (message_intid value)) (Register ClearPending 1)) refl refl refl c refl)
  written_piece DistTyper value can = of_none actor guest sound
  written_piece DistIidr value can = of_none actor guest sound
  written_piece (Router id) value can = of_none actor guest sound
  written_piece DistPidr2 value can = of_none actor guest sound

  router_piece : (id : ℕ) (half : Half) (write : Option ℕ) → All (HappensFreely guest.shape) (dist_plain guest.shape (view_of guest) (Router id) half write) → IsNamedPiece actor guest (dist_plain guest.shape (view_of guest) (Router id) half write)
  router_piece id half write can =
      let touch = router_touch half write (part_at guest.shape (view_of guest) Dist Routing id 0) in
      spi_piece id (λ key. Touch key touch) can (λ c. of_one actor guest sound (Touch (Spi id) touch) refl refl refl c refl)

  pub dist_piece : (ref : DistRef) (write : Option ℕ) → All (HappensFreely guest.shape) (dist_events guest.shape (view_of guest) ref write) → IsNamedPiece actor guest (dist_events guest.shape (view_of guest) ref write)
  dist_piece (DistBits kind first count) write can = parts_piece Dist kind first count write can
  dist_piece (DistPlain (Router id) half) write can = router_piece id half write can
  dist_piece (DistPlain DistCtlr half) None can = of_none actor guest sound
  dist_piece (DistPlain DistTyper half) None can = of_none actor guest sound
  dist_piece (DistPlain DistIidr half) None can = of_none actor guest sound
  dist_piece (DistPlain SetSpi half) None can = of_none actor guest sound
  dist_piece (DistPlain ClrSpi half) None can = of_none actor guest sound
  dist_piece (DistPlain DistPidr2 half) None can = of_none actor guest sound
  dist_piece (DistPlain DistCtlr half) (Some value) can = written_piece DistCtlr value can
  dist_piece (DistPlain DistTyper half) (Some value) can = of_none actor guest sound
  dist_piece (DistPlain DistIidr half) (Some value) can = of_none actor guest sound
  dist_piece (DistPlain SetSpi half) (Some value) can = written_piece SetSpi value can
  dist_piece (DistPlain ClrSpi half) (Some value) can = written_piece ClrSpi value can
  dist_piece (DistPlain DistPidr2 half) (Some value) can = of_none actor guest sound
  dist_piece DistReserved write can = of_none actor guest sound

  -- A redistributor.

  -- an LPI as EnableLPIs rises
  pended_named : (key : Key) (id : ℕ) (b : Bool) → names_key key (cond b (Some (Touch (Lpi id) (Register SetPending 1))) None) ≡ true → is_same_key key (Lpi id) ≡ true
  pended_named key id true h = h
  pended_named key id false h = absurd (cc)

  pended_unnamed : (key : Key) (id : ℕ) (b : Bool) → is_same_key key (Lpi id) ≡ false → names_key key (cond b (Some (Touch (Lpi id) (Register SetPending 1))) None) ≡ false
  pended_unnamed key id true h = h
  pended_unnamed key id false h = refl

  pended_pend : (id : ℕ) (b : Bool) → IsTrue (option_map_or is_pend (cond b (Some (Touch (Lpi id) (Register SetPending 1))) None) true)
  pended_pend id true = refl
  pended_pend id false = refl

  pended_touch : (id : ℕ) (b : Bool) → IsTrue (option_map_or is_touch (cond b (Some (Touch (Lpi id) (Register SetPending 1))) None) true)
  pended_touch id true = refl
  pended_touch id false = refl

  pub enable_piece : (vcpu : ℕ) → All (HappensFreely guest.shape) (enable_events guest.shape (view_of guest) vcpu) → IsEnablePiece actor guest vcpu (pended_events guest.shape (view_of guest) vcpu)
  enable_piece vcpu can = of ((view_of guest).lpis vcpu || is_table_zero ((view_of guest).words (Pendbaser vcpu))) can
    where
      at : ℕ → Option Event
      at number = pended_at guest.shape (view_of guest) vcpu (8192 + number)

      holds : ℕ → Bool
      holds number = is_number vcpu ((view_of guest).targets (8192 + number)) && is_in_table guest.shape (view_of guest) vcpu (8192 + number)

      pended : List Event
      pended = filter_map at (range_with_len 0 guest.shape.lpis)

      pended_apart : (i j : ℕ) → i < j → (key : Key) → names_key key (at i) ≡ true → names_key key (at j) ≡ false
      pended_apart i j less key named =
          pended_unnamed key (8192 + j) (holds j) (subst (λ k. is_same_key k (Lpi (8192 + j)) ≡ false) (sym (same_key key (Lpi (8192 + i)) (pended_named key (8192 + i) (holds i) named))) (apart (8192 + i) (8192 + j) (omega (arith, less))))

      of : (b : Bool) → All (HappensFreely guest.shape) (Enable vcpu ∷ cond b [] pended) → IsEnablePiece actor guest vcpu (cond b [] pended)
      of true c = of_enable actor guest sound vcpu [] refl refl refl c
      of false c =
          of_enable actor guest sound vcpu pended (all_found is_touch at 0 guest.shape.lpis (λ i. pended_touch (8192 + i) (holds i))) (all_found is_pend at 0 guest.shape.lpis (λ i. pended_pend (8192 + i) (holds i)))
          (distinct_found at guest.shape.lpis 0 guest.shape.lpis (omega arith) (λ i j less below key named. pended_apart i j less key named)) c

  redist_written_piece : (vcpu : ℕ) (reg : RedistReg) (half : Half) (value : ℕ) → All (HappensFreely guest.shape) (redist_written guest.shape (view_of guest) vcpu reg half value) → IsNamedPiece actor guest (redist_written guest.shape (view_of guest) vcpu reg half value)
  redist_written_piece vcpu RedistCtlr half value can = where_true actor guest sound (enable_lpis_after guest.shape false value) (enable_events guest.shape (view_of guest) vcpu) can (λ c. (enable_piece vcpu c).piece)
  redist_written_piece vcpu PropbaserReg half value can =
      let put = Put (Propbaser vcpu) (propbaser_bits (half_written half ((view_of guest).words (Propbaser vcpu)) value)) in
      where_false actor guest sound ((view_of guest).lpis vcpu) (put ∷ []) can (λ c. of_one actor guest sound put refl refl refl c refl)
  redist_written_piece vcpu PendbaserReg half value can =
      let put = Put (Pendbaser vcpu) (pendbaser_bits (half_written half ((view_of guest).words (Pendbaser vcpu)) value)) in
      where_false actor guest sound ((view_of guest).lpis vcpu) (put ∷ []) can (λ c. of_one actor guest sound put refl refl refl c refl)
  redist_written_piece vcpu RedistIidr half value can = of_none actor guest sound
  redist_written_piece vcpu RedistTyper half value can = of_none actor guest sound
  redist_written_piece vcpu RedistPidr2 half value can = of_none actor guest sound

  pub redist_piece : (vcpu : ℕ) (ref : RedistRef) (write : Option ℕ) → All (HappensFreely guest.shape) (redist_events guest.shape (view_of guest) vcpu ref write) → IsNamedPiece actor guest (redist_events guest.shape (view_of guest) vcpu ref write)
  redist_piece vcpu (RedistBits kind first count) write can = parts_piece (Redist vcpu) kind first count write can
  redist_piece vcpu (RedistPlain reg half) (Some value) can = redist_written_piece vcpu reg half value can
  redist_piece vcpu (RedistPlain reg half) None can = of_none actor guest sound
  redist_piece vcpu RedistReserved write can = of_none actor guest sound

  -- The guest's memory.

  pub memory_piece : (address size value : ℕ) → All (HappensFreely guest.shape) (memory_written guest.shape (view_of guest) address size value) → IsNamedPiece actor guest (memory_written guest.shape (view_of guest) address size value)
  memory_piece address size value can = of (part_of address size guest.shape.ram) can
    where
      of : (o : Option Part) → All (HappensFreely guest.shape) (option_map_or (λ part. Put (Ram part.index) (inserted ((view_of guest).words (Ram part.index)) part value) ∷ []) o [])
          → IsNamedPiece actor guest (option_map_or (λ part. Put (Ram part.index) (inserted ((view_of guest).words (Ram part.index)) part value) ∷ []) o [])
      of None c = of_none actor guest sound
      of (Some part) c = of_one actor guest sound (Put (Ram part.index) (inserted ((view_of guest).words (Ram part.index)) part value)) refl refl refl c refl
