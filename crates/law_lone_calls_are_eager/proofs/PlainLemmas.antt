-- Accesses of the distributor, of a redistributor, of memory and of the ITS that take no turn: their events and what they read go by what the guest has as the call
-- begins.
use Rattle.std.proofs.Common.{◌≡◌, ℕ, ◌+◌, ◌&&◌, inl, Bool, true, false, cond, if◌then◌else◌, IsTrue, All, List, [], ◌∷◌, Option, Some, None, is_none, refl, sym, ap, ◌∙◌, subst, arith}
use Rattle.std.specs.List.{list_all}
use Rattle.std.specs.Option.{option_map_or}
use Rattle.std.proofs.lemmas.Bool.{and_parts}
use Rattle.std.proofs.lemmas.Option.{none-some}
use Rattle.law_home_commutes.specs.Words.{Spi, Dist, Redist, Routing, GuestShape, has_interrupt, bit_of}
use Rattle.law_home_commutes.specs.Registers.{Enables, Router, Half, has_lpis, half_read, half_written, Devices, Collections, Cbaser as CbaserReg, Cwriter as CwriterReg, Creadr, Baser0 as Baser0Reg, Baser1 as Baser1Reg, enabled_in, creadr_of, baser_of, part_of, extracted, inserted, Part, has_part, part_read, Propbaser as PropbaserReg, Pendbaser as PendbaserReg, propbaser_bits, pendbaser_bits, pendbaser_read}
use Rattle.law_home_commutes.specs.GicDmap.declared.map.Reg.TheVariants.{Ctlr as DistCtlr}
use Rattle.law_home_commutes.specs.GicDmap.declared.map.RegRef.{RegRef as DistRef}
use Rattle.law_home_commutes.specs.GicDmap.declared.map.RegRef.TheVariants.{Bits as DistBits, Plain as DistPlain, Reserved as DistReserved}
use Rattle.law_home_commutes.specs.GicDmap.Contents.{ctlr_of as dist_ctlr_of}
use Rattle.law_home_commutes.specs.GicImap.declared.map.Reg.{Reg as ItsReg}
use Rattle.law_home_commutes.specs.GicImap.declared.map.Reg.TheVariants.{Ctlr as ItsCtlrReg, Iidr as ItsIidr, Typer as ItsTyper, Pidr2 as ItsPidr2}
use Rattle.law_home_commutes.specs.GicImap.declared.map.RegRef.{RegRef as ItsRef}
use Rattle.law_home_commutes.specs.GicImap.declared.map.RegRef.TheVariants.{Plain as ItsPlain, Reserved as ItsReserved}
use Rattle.law_home_commutes.specs.GicImap.Contents.{ctlr_of as its_ctlr_of}
use Rattle.law_home_commutes.specs.Calls.{PlainWord, Ram, Propbaser, Pendbaser, ItsCtlr, Cbaser, Cwriter, Baser0, Baser1, Event, Touch, Put, Place, Touching, Register, part_key, part_at, router_touch, dist_events, dist_value, redist_written, redist_events, redist_value, its_held, its_value, memory_written, Happened, named_of, held_at, HandsOut, dist_places, redist_places, its_places, its_read_places, memory_places, View, memory_at}
use Rattle.law_home_commutes.specs.GicRmap.declared.map.Reg.TheVariants.{Ctlr as RedistCtlr}
use Rattle.law_home_commutes.specs.GicRmap.declared.map.RegRef.{RegRef as RedistRef}
use Rattle.law_home_commutes.specs.GicRmap.declared.map.RegRef.TheVariants.{Bits as RedistBits, Plain as RedistPlain, Reserved as RedistReserved}
use Rattle.law_home_commutes.specs.GicRmap.Contents.{ctlr_of as redist_ctlr_of}
use Rattle.law_home_commutes.specs.GicCall.declared.event.Found.TheVariants.{Word as FoundWord, Queue as FoundQueue, Ctlr as FoundCtlr, Lpis as FoundLpis}
use Rattle.law_home_commutes.specs.GicCall.declared.event.Place.TheVariants.{Word, Queue as QueuePlace, Ctlr, Lpis}
use Rattle.law_home_commutes.specs.GicCall.declared.touch.Touching.TheVariants.{Read as ReadTouch}
use Rattle.law_home_commutes.specs.Histories.{IdealGuest, irq_at, cpu_at, word_at, view_of}
use Rattle.law_lone_calls_are_eager.proofs.NamedLemmas.{named_run, IsIn}
use Rattle.law_lone_calls_are_eager.proofs.PartLemmas.{IsMade, irq_first, parts_same}
use Rattle.law_lone_calls_are_eager.proofs.ReadLemmas.{keeps, all_in, view_holds}
use Rattle.law_lone_calls_are_eager.proofs.RunLemmas.{events_of, marked, IsHomeRun}

-- the events of an access, and what it reads, are the same by two views
pub record IsSame (write : Option ℕ) (events other : List Event) (value second : ℕ) : Type 0 where
  pub events_are : events ≡ other
  pub value_is : write ≡ None → value ≡ second

-- What is found.

pub same_word : (m n : ℕ) → FoundWord m ≡ FoundWord n → m ≡ n
same_word m n e = cc

pub same_lpis : (a b : Bool) → FoundLpis a ≡ FoundLpis b → a ≡ b
same_lpis a b e = cc

module _ (guest : IdealGuest) (actor : Option ℕ) (view : View) (piece : List Happened) where
  abbrev IsBy : List Event → List Place → Type 0
  IsBy events places = IsMade guest actor view events places piece

  holds : (events : List Event) (places : List Place) → IsBy events places → (place : Place) → IsIn places place → IsTrue (list_all (keeps guest.shape place) events) → held_at view place ≡ held_at (marked false guest) place
  holds events places is place among keep = view_holds actor view events places piece guest is.made is.run place among keep

  pub word_held : (events : List Event) (places : List Place) → IsBy events places → (word : PlainWord) → IsIn places (Word word) → IsTrue (list_all (keeps guest.shape (Word word)) events) → view.words word ≡ word_at guest word
  word_held events places is word among keep = same_word (view.words word) (word_at guest word) (holds events places is (Word word) among keep)

  pub lpis_held : (events : List Event) (places : List Place) → IsBy events places → (vcpu : ℕ) → IsIn places (Lpis vcpu) → IsTrue (list_all (keeps guest.shape (Lpis vcpu)) events) → view.lpis vcpu ≡ (cpu_at guest vcpu).lpis
  lpis_held events places is vcpu among keep = same_lpis (view.lpis vcpu) (cpu_at guest vcpu).lpis (holds events places is (Lpis vcpu) among keep)

  -- a word that is stored first
  pub word_first : (events : List Event) (places : List Place) → IsBy events places → (word : PlainWord) (value : ℕ) (rest : List Event) → events ≡ Put word value ∷ rest → view.words word ≡ word_at guest word
  word_first events places is word value rest first = of (named_of actor piece) (named_run false guest actor piece is.run).run is.made.found (is.made.events_are ∙ first)
    where
      of : (named : List Happened) → IsHomeRun false guest named → All (λ (h : Happened). HandsOut view h.event h.found) named → events_of named ≡ Put word value ∷ rest → view.words word ≡ word_at guest word
      of [] run found are = absurd (cc)
      of (one ∷ named) run found are =
          let event_is : one.event ≡ Put word value = cc in
          let here : HandsOut view one.event one.found = all_in (λ (h : Happened). HandsOut view h.event h.found) (one ∷ named) one found (inl refl) in
          same_word (view.words word) (word_at guest word) (sym (subst (λ e. HandsOut view e one.found) event_is here) ∙ subst (λ e. HandsOut (marked false guest) e one.found) event_is run.0.hands)

  -- The distributor.

  module _ (shape : GuestShape) (same : guest.shape ≡ shape) where
    router_part : (id : ℕ) → (IsTrue (has_interrupt shape (Spi id)) → view.irqs (Spi id) ≡ irq_at guest (Spi id)) → part_at shape view Dist Routing id 0 ≡ part_at shape (view_of guest) Dist Routing id 0
    router_part id seen = subst (λ n. option_map_or (λ key. part_read Routing (view.irqs key)) (part_key shape Dist Routing n) 0 ≡ option_map_or (λ key. part_read Routing (irq_at guest key)) (part_key shape Dist Routing n) 0) plain (of (has_interrupt shape (Spi id) && has_part Routing (Spi id)) refl)
      where
        plain : id ≡ id + 0
        plain = omega arith

        of : (b : Bool) → (has_interrupt shape (Spi id) && has_part Routing (Spi id)) ≡ b → option_map_or (λ key. part_read Routing (view.irqs key)) (cond b (Some (Spi id)) None) 0 ≡ option_map_or (λ key. part_read Routing (irq_at guest key)) (cond b (Some (Spi id)) None) 0
        of true e = ap (part_read Routing) (seen (and_parts (has_interrupt shape (Spi id)) (has_part Routing (Spi id)) e).0)
        of false e = refl

    router_seen : (id : ℕ) (touching : Touching) (places : List Place) → IsBy (cond (has_interrupt shape (Spi id)) (Touch (Spi id) touching ∷ []) []) places → IsTrue (has_interrupt shape (Spi id)) → view.irqs (Spi id) ≡ irq_at guest (Spi id)
    router_seen id touching places is there =
        irq_first guest actor view (cond (has_interrupt shape (Spi id)) (Touch (Spi id) touching ∷ []) []) places piece is (Spi id) touching [] (ap (λ b. cond b (Touch (Spi id) touching ∷ []) []) there)

    ctlr_read : (half : Half) → held_at view Ctlr ≡ held_at (marked false guest) Ctlr → half_read half (dist_ctlr_of view.enables view.is_spreading) ≡ half_read half (dist_ctlr_of guest.enables false)
    ctlr_read half e =
        ap (λ x. half_read half (dist_ctlr_of x view.is_spreading)) (first view.enables guest.enables view.is_spreading false e)
        ∙ ap (λ b. half_read half (dist_ctlr_of guest.enables b)) (second view.enables guest.enables view.is_spreading false e)
      where
        first : (one other : Enables) (a b : Bool) → FoundCtlr one a ≡ FoundCtlr other b → one ≡ other
        first one other a b e = cc

        second : (one other : Enables) (a b : Bool) → FoundCtlr one a ≡ FoundCtlr other b → a ≡ b
        second one other a b e = cc

    pub dist_same : (ref : DistRef) (write : Option ℕ) → IsBy (dist_events shape view ref write) (if is_none write then dist_places ref else []) → IsSame write (dist_events shape view ref write) (dist_events shape (view_of guest) ref write) (dist_value shape view ref) (dist_value shape (view_of guest) ref)
    dist_same (DistBits kind first count) None is = record { events_are = refl; value_is = λ e. parts_same guest actor view shape Dist kind first count [] piece same is }
    dist_same (DistBits kind first count) (Some value) is = record { events_are = refl; value_is = λ e. absurd (none-some value (sym e)) }
    dist_same (DistPlain (Router id) half) None is = record { events_are = refl; value_is = λ e. ap (half_read half) (router_part id (router_seen id (ReadTouch Routing) [] is)) }
    dist_same (DistPlain (Router id) half) (Some value) is = record {
      events_are =
          ap (λ stored. cond (has_interrupt shape (Spi id)) (Touch (Spi id) (router_touch half (Some value) stored) ∷ []) [])
          (router_part id (router_seen id (Register Routing (half_written half (part_at shape view Dist Routing id 0) value)) [] is));
      value_is = λ e. absurd (none-some value (sym e));
    }
    dist_same (DistPlain DistCtlr half) None is = record { events_are = refl; value_is = λ e. ctlr_read half (holds [] (Ctlr ∷ []) is Ctlr (inl refl) refl) }
    dist_same (DistPlain reg half) None is = record { events_are = refl; value_is = λ e. refl }
    dist_same (DistPlain reg half) (Some value) is = record { events_are = refl; value_is = λ e. absurd (none-some value (sym e)) }
    dist_same DistReserved write is = record { events_are = refl; value_is = λ e. refl }

    -- A redistributor, but for writes of GICR_CTLR.

    either_put : (b : Bool) (word : PlainWord) (one two : ℕ) → (b ≡ false → one ≡ two) → (cond b [] (Put word one ∷ [])) ≡ cond b [] (Put word two ∷ [])
    either_put true word one two e = refl
    either_put false word one two e = ap (λ n. Put word n ∷ []) (e refl)

    put_keeps : (b : Bool) (vcpu : ℕ) (word : PlainWord) (value : ℕ) → IsTrue (list_all (keeps guest.shape (Lpis vcpu)) (cond b [] (Put word value ∷ [])))
    put_keeps true vcpu word value = refl
    put_keeps false vcpu word value = refl

    -- a write of GICR_PROPBASER or of GICR_PENDBASER, which is ignored once EnableLPIs is 1
    base_same : (vcpu : ℕ) (word : PlainWord) (bits : ℕ → ℕ) → IsBy (cond (view.lpis vcpu) [] (Put word (bits (view.words word)) ∷ [])) (Lpis vcpu ∷ [])
        → cond (view.lpis vcpu) [] (Put word (bits (view.words word)) ∷ []) ≡ cond (cpu_at guest vcpu).lpis [] (Put word (bits (word_at guest word)) ∷ [])
    base_same vcpu word bits is =
        either_put (view.lpis vcpu) word (bits (view.words word)) (bits (word_at guest word))
        (λ off. ap bits (word_first (cond (view.lpis vcpu) [] (Put word (bits (view.words word)) ∷ [])) (Lpis vcpu ∷ []) is word (bits (view.words word)) [] (ap (λ b. cond b [] (Put word (bits (view.words word)) ∷ [])) off)))
        ∙ ap (λ b. cond b [] (Put word (bits (word_at guest word)) ∷ []))
        (lpis_held (cond (view.lpis vcpu) [] (Put word (bits (view.words word)) ∷ [])) (Lpis vcpu ∷ []) is vcpu (inl refl) (put_keeps (view.lpis vcpu) vcpu word (bits (view.words word))))

    redist_ctlr : (vcpu : ℕ) (half : Half) (b : Bool) → has_lpis shape ≡ b → IsBy [] (cond b (Lpis vcpu ∷ []) []) → half_read half (redist_ctlr_of shape (view.lpis vcpu)) ≡ half_read half (redist_ctlr_of shape (cpu_at guest vcpu).lpis)
    redist_ctlr vcpu half true e is = ap (λ b. half_read half (redist_ctlr_of shape b)) (lpis_held [] (Lpis vcpu ∷ []) is vcpu (inl refl) refl)
    redist_ctlr vcpu half false e is = ap (λ b. half_read half (bit_of (b && view.lpis vcpu))) e ∙ sym (ap (λ b. half_read half (bit_of (b && (cpu_at guest vcpu).lpis))) e)

    pub redist_same : (vcpu : ℕ) (ref : RedistRef) (write : Option ℕ)
        → ((half : Half) (value : ℕ) → IsBy (redist_written shape view vcpu RedistCtlr half value) (redist_places shape view vcpu (RedistPlain RedistCtlr half) (Some value)) → redist_written shape view vcpu RedistCtlr half value ≡ redist_written shape (view_of guest) vcpu RedistCtlr half value)
        → IsBy (redist_events shape view vcpu ref write) (redist_places shape view vcpu ref write) → IsSame write (redist_events shape view vcpu ref write) (redist_events shape (view_of guest) vcpu ref write) (redist_value shape view vcpu ref) (redist_value shape (view_of guest) vcpu ref)
    redist_same vcpu (RedistBits kind first count) None enables is = record { events_are = refl; value_is = λ e. parts_same guest actor view shape (Redist vcpu) kind first count [] piece same is }
    redist_same vcpu (RedistBits kind first count) (Some value) enables is = record { events_are = refl; value_is = λ e. absurd (none-some value (sym e)) }
    redist_same vcpu (RedistPlain RedistCtlr half) None enables is = record { events_are = refl; value_is = λ e. redist_ctlr vcpu half (has_lpis shape) refl is }
    redist_same vcpu (RedistPlain PropbaserReg half) None enables is = record { events_are = refl; value_is = λ e. ap (half_read half) (word_held [] (Word (Propbaser vcpu) ∷ []) is (Propbaser vcpu) (inl refl) refl) }
    redist_same vcpu (RedistPlain PendbaserReg half) None enables is = record { events_are = refl; value_is = λ e. ap (λ n. half_read half (pendbaser_read n)) (word_held [] (Word (Pendbaser vcpu) ∷ []) is (Pendbaser vcpu) (inl refl) refl) }
    redist_same vcpu (RedistPlain reg half) None enables is = record { events_are = refl; value_is = λ e. refl }
    redist_same vcpu (RedistPlain RedistCtlr half) (Some value) enables is = record { events_are = enables half value is; value_is = λ e. absurd (none-some value (sym e)) }
    redist_same vcpu (RedistPlain PropbaserReg half) (Some value) enables is = record { events_are = base_same vcpu (Propbaser vcpu) (λ n. propbaser_bits (half_written half n value)) is; value_is = λ e. absurd (none-some value (sym e)) }
    redist_same vcpu (RedistPlain PendbaserReg half) (Some value) enables is = record { events_are = base_same vcpu (Pendbaser vcpu) (λ n. pendbaser_bits (half_written half n value)) is; value_is = λ e. absurd (none-some value (sym e)) }
    redist_same vcpu (RedistPlain reg half) (Some value) enables is = record { events_are = refl; value_is = λ e. absurd (none-some value (sym e)) }
    redist_same vcpu RedistReserved write enables is = record { events_are = refl; value_is = λ e. refl }

    -- The ITS, read, or written where that takes no turn.

    its_read : (reg : ItsReg) → IsBy [] (its_read_places reg) → its_held shape view reg ≡ its_held shape (view_of guest) reg
    its_read ItsCtlrReg is = ap (λ n. its_ctlr_of (enabled_in n)) (word_held [] (Word ItsCtlr ∷ []) is ItsCtlr (inl refl) refl)
    its_read ItsIidr is = refl
    its_read ItsTyper is = refl
    its_read CbaserReg is = word_held [] (Word Cbaser ∷ []) is Cbaser (inl refl) refl
    its_read CwriterReg is = word_held [] (Word Cwriter ∷ []) is Cwriter (inl refl) refl
    its_read Creadr is =
        let e = holds [] (QueuePlace ∷ []) is QueuePlace (inl refl) refl in
        ap (λ b. creadr_of b view.offset) (second view.offset guest.offset view.is_stalled guest.is_stalled e) ∙ ap (creadr_of guest.is_stalled) (first view.offset guest.offset view.is_stalled guest.is_stalled e)
      where
        first : (m n : ℕ) (a b : Bool) → FoundQueue m a ≡ FoundQueue n b → m ≡ n
        first m n a b e = cc

        second : (m n : ℕ) (a b : Bool) → FoundQueue m a ≡ FoundQueue n b → a ≡ b
        second m n a b e = cc
    its_read Baser0Reg is = ap (baser_of Devices) (word_held [] (Word Baser0 ∷ []) is Baser0 (inl refl) refl)
    its_read Baser1Reg is = ap (baser_of Collections) (word_held [] (Word Baser1 ∷ []) is Baser1 (inl refl) refl)
    its_read ItsPidr2 is = refl

    pub its_value_same : (ref : ItsRef) → IsBy [] (its_places shape ref None) → its_value shape view ref ≡ its_value shape (view_of guest) ref
    its_value_same (ItsPlain reg half) is = of (has_lpis shape) is
      where
        of : (b : Bool) → IsBy [] (cond b (its_read_places reg) []) → cond b (half_read half (its_held shape view reg)) 0 ≡ cond b (half_read half (its_held shape (view_of guest) reg)) 0
        of true is = ap (half_read half) (its_read reg is)
        of false is = refl
    its_value_same ItsReserved is = refl

    -- Memory.

    pub memory_read : (address size : ℕ) → IsBy [] (memory_places shape address size) → memory_at shape view address size ≡ memory_at shape (view_of guest) address size
    memory_read address size is = of (part_of address size shape.ram) is
      where
        of : (o : Option Part) → IsBy [] (option_map_or (λ part. Word (Ram part.index) ∷ []) o []) → option_map_or (λ part. extracted (view.words (Ram part.index)) part) o 0 ≡ option_map_or (λ part. extracted (word_at guest (Ram part.index)) part) o 0
        of None is = refl
        of (Some part) is = ap (λ n. extracted n part) (word_held [] (Word (Ram part.index) ∷ []) is (Ram part.index) (inl refl) refl)

    pub memory_same : (address size value : ℕ) → IsBy (memory_written shape view address size value) [] → memory_written shape view address size value ≡ memory_written shape (view_of guest) address size value
    memory_same address size value is = of (part_of address size shape.ram) is
      where
        of : (o : Option Part) → IsBy (option_map_or (λ part. Put (Ram part.index) (inserted (view.words (Ram part.index)) part value) ∷ []) o []) []
            → option_map_or (λ part. Put (Ram part.index) (inserted (view.words (Ram part.index)) part value) ∷ []) o [] ≡ option_map_or (λ part. Put (Ram part.index) (inserted (word_at guest (Ram part.index)) part value) ∷ []) o []
        of None is = refl
        of (Some part) is =
            ap (λ n. Put (Ram part.index) (inserted n part value) ∷ [])
            (word_first (Put (Ram part.index) (inserted (view.words (Ram part.index)) part value) ∷ []) [] is (Ram part.index) (inserted (view.words (Ram part.index)) part value) [] refl)
