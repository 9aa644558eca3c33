-- Each write of a register of the ITS that takes it: its events, and whether it starts commands, are those of the guest as the call begins.
use Rattle.std.proofs.Common.{◌≡◌, ℕ, ◌^◌, ◌<◌, ◌==◌, ◌&&◌, inl, inr, not, Bool, true, false, cond, nat_lt, IsTrue, List, [], ◌∷◌, ◌++◌, Option, refl, sym, ap, ◌∙◌, subst}
use Rattle.std.specs.List.{list_all}
use Rattle.std.proofs.lemmas.Bool.{and_from}
use Rattle.law_home_commutes.specs.Words.{bit_of}
use Rattle.law_home_commutes.specs.Registers.{Half, half_written, Cbaser as CbaserReg, Cwriter as CwriterReg, Creadr, Baser0 as Baser0Reg, Baser1 as Baser1Reg, enabled_in, cbaser_bits, queue_bytes, queue_offset, retries, baser_bits}
use Rattle.law_home_commutes.specs.GicImap.declared.map.Reg.{Reg as ItsReg}
use Rattle.law_home_commutes.specs.GicImap.declared.map.Reg.TheVariants.{Ctlr as ItsCtlrReg, Iidr as ItsIidr, Typer as ItsTyper, Pidr2 as ItsPidr2}
use Rattle.law_home_commutes.specs.Calls.{PlainWord, ItsCtlr, Cbaser, Cwriter, Baser0, Baser1, place_of_plain, Event, Put, ItsBegin, Place, Runs, its_written, takes_its, is_in_queue, Happened, named_of, held_at, IsLastRead, its_write_places, HaveSameIts, View, is_its_enabled}
use Rattle.law_home_commutes.specs.GicCall.declared.event.Event.TheVariants.{Queue}
use Rattle.law_home_commutes.specs.GicCall.declared.event.Place.TheVariants.{Word, Queue as QueuePlace}
use Rattle.law_home_commutes.specs.GicCall.Access.{starts_commands as register_starts}
use Rattle.law_home_commutes.specs.Histories.{IdealGuest, word_at, view_of}
use Rattle.law_lone_calls_are_eager.proofs.NamedLemmas.{named_run}
use Rattle.law_lone_calls_are_eager.proofs.PartLemmas.{IsMade}
use Rattle.law_lone_calls_are_eager.proofs.PlainLemmas.{word_held}
use Rattle.law_lone_calls_are_eager.proofs.ReadLemmas.{keeps, view_holds, beside_passes, all_in, last_in}
use Rattle.law_lone_calls_are_eager.proofs.RegisterLemmas.{ctlr_cwriter, ctlr_cbaser, ctlr_baser0, ctlr_baser1, cbaser_cwriter, cbaser_ctlr, cwriter_ctlr, word_later, runs_only, IsSeen, queue_pair, queue_seen, beside_runs}

module _ (guest : IdealGuest) (actor : Option ℕ) (view : View) (piece : List Happened) where
  abbrev IsBy : List Event → List Place → Type 0
  IsBy events places = IsMade guest actor view events places piece

  -- as the eager controller does
  pub record IsWritten (reg : ItsReg) (half : Half) (value : ℕ) : Type 0 where
    pub events : its_written view reg half value ≡ its_written (view_of guest) reg half value
    pub starts : register_starts view reg half value ≡ register_starts (view_of guest) reg half value
    pub known : register_starts view reg half value ≡ true → HaveSameIts view (view_of guest)

  later : (events : List Event) (places : List Place) → IsBy events places → (word : PlainWord) (value : ℕ) (early rest : List Event) → events ≡ early ++ Put word value ∷ rest → IsTrue (list_all (keeps guest.shape (Word word)) early) → view.words word ≡ word_at guest word
  later events places is word value early rest e keep =
      word_later view word value rest early (named_of actor piece) false guest (named_run false guest actor piece is.run).run is.made.found keep (is.made.events_are ∙ e)

  -- A write that the enabled ITS ignores.

  abbrev unless : Bool → List Event → List Event
  unless b events = cond b [] events

  base_keeps : (b : Bool) (word other : PlainWord) (value : ℕ) → not (place_of_plain guest.shape word == place_of_plain guest.shape other) ≡ true → IsTrue (list_all (keeps guest.shape (Word word)) (ItsBegin ∷ unless b (Put other value ∷ [])))
  base_keeps true word other value h = refl
  base_keeps false word other value h = and_from (keeps guest.shape (Word word) (Put other value)) true h refl

  baser : (word : PlainWord) (half : Half) (value : ℕ) → not (place_of_plain guest.shape ItsCtlr == place_of_plain guest.shape word) ≡ true
      → IsBy (ItsBegin ∷ unless (is_its_enabled view) (Put word (baser_bits (half_written half (view.words word) value)) ∷ [])) (Word ItsCtlr ∷ [])
      → unless (is_its_enabled view) (Put word (baser_bits (half_written half (view.words word) value)) ∷ []) ≡ unless (enabled_in (word_at guest ItsCtlr)) (Put word (baser_bits (half_written half (word_at guest word) value)) ∷ [])
  baser word half value differ is =
      of (is_its_enabled view) refl
      ∙ ap (λ n. unless (enabled_in n) (Put word (baser_bits (half_written half (word_at guest word) value)) ∷ []))
      (word_held guest actor view piece (ItsBegin ∷ unless (is_its_enabled view) (Put word (baser_bits (half_written half (view.words word) value)) ∷ [])) (Word ItsCtlr ∷ []) is ItsCtlr (inl refl) (base_keeps (is_its_enabled view) ItsCtlr word (baser_bits (half_written half (view.words word) value)) differ))
    where
      bits : ℕ → ℕ
      bits n = baser_bits (half_written half n value)

      of : (b : Bool) → is_its_enabled view ≡ b → unless b (Put word (baser_bits (half_written half (view.words word) value)) ∷ []) ≡ unless b (Put word (baser_bits (half_written half (word_at guest word) value)) ∷ [])
      of true e = refl
      of false e =
          ap (λ n. Put word (baser_bits (half_written half n value)) ∷ [])
          (later (ItsBegin ∷ unless (is_its_enabled view) (Put word (baser_bits (half_written half (view.words word) value)) ∷ [])) (Word ItsCtlr ∷ []) is word (baser_bits (half_written half (view.words word) value)) (ItsBegin ∷ []) []
          (ap (λ b. ItsBegin ∷ unless b (Put word (baser_bits (half_written half (view.words word) value)) ∷ [])) e) refl)

  abbrev cbaser_events : ℕ → List Event
  cbaser_events bits = Put Cwriter 0 ∷ Queue 0 Runs ∷ Put Cbaser bits ∷ []

  cbaser_keeps : (b : Bool) (bits : ℕ) → IsTrue (list_all (keeps guest.shape (Word ItsCtlr)) (ItsBegin ∷ unless b (cbaser_events bits)))
  cbaser_keeps true bits = refl
  cbaser_keeps false bits =
      and_from (keeps guest.shape (Word ItsCtlr) (Put Cwriter 0)) (list_all (keeps guest.shape (Word ItsCtlr)) (Queue 0 Runs ∷ Put Cbaser bits ∷ [])) (ctlr_cwriter guest.shape)
      (and_from (keeps guest.shape (Word ItsCtlr) (Put Cbaser bits)) true (ctlr_cbaser guest.shape) refl)

  cbaser : (half : Half) (value : ℕ) → IsBy (ItsBegin ∷ unless (is_its_enabled view) (cbaser_events (cbaser_bits (half_written half (view.words Cbaser) value)))) (Word ItsCtlr ∷ [])
      → unless (is_its_enabled view) (cbaser_events (cbaser_bits (half_written half (view.words Cbaser) value))) ≡ unless (enabled_in (word_at guest ItsCtlr)) (cbaser_events (cbaser_bits (half_written half (word_at guest Cbaser) value)))
  cbaser half value is =
      of (is_its_enabled view) refl
      ∙ ap (λ n. unless (enabled_in n) (cbaser_events (cbaser_bits (half_written half (word_at guest Cbaser) value))))
      (word_held guest actor view piece (ItsBegin ∷ unless (is_its_enabled view) (cbaser_events (cbaser_bits (half_written half (view.words Cbaser) value)))) (Word ItsCtlr ∷ []) is ItsCtlr (inl refl) (cbaser_keeps (is_its_enabled view) (cbaser_bits (half_written half (view.words Cbaser) value))))
    where
      of : (b : Bool) → is_its_enabled view ≡ b → unless b (cbaser_events (cbaser_bits (half_written half (view.words Cbaser) value))) ≡ unless b (cbaser_events (cbaser_bits (half_written half (word_at guest Cbaser) value)))
      of true e = refl
      of false e =
          ap (λ n. cbaser_events (cbaser_bits (half_written half n value)))
          (later (ItsBegin ∷ unless (is_its_enabled view) (cbaser_events (cbaser_bits (half_written half (view.words Cbaser) value)))) (Word ItsCtlr ∷ []) is Cbaser (cbaser_bits (half_written half (view.words Cbaser) value))
          (ItsBegin ∷ Put Cwriter 0 ∷ Queue 0 Runs ∷ []) [] (ap (λ b. ItsBegin ∷ unless b (cbaser_events (cbaser_bits (half_written half (view.words Cbaser) value)))) e)
          (and_from (keeps guest.shape (Word Cbaser) (Put Cwriter 0)) true (cbaser_cwriter guest.shape) refl))

  -- GITS_CTLR.

  ctlr : (half : Half) (value : ℕ) → view.maps ≡ guest.tables → IsBy (ItsBegin ∷ Put ItsCtlr (bit_of (enabled_in value)) ∷ []) (Word Cbaser ∷ Word Cwriter ∷ QueuePlace ∷ []) → HaveSameIts view (view_of guest)
  ctlr half value maps is =
      let events = ItsBegin ∷ Put ItsCtlr (bit_of (enabled_in value)) ∷ [] in
      let places = Word Cbaser ∷ Word Cwriter ∷ QueuePlace ∷ [] in
      let queue = queue_pair view.offset guest.offset view.is_stalled guest.is_stalled (view_holds actor view events places piece guest is.made is.run QueuePlace (inr (inr (inl refl))) refl) in
      record {
        ctlr = later events places is ItsCtlr (bit_of (enabled_in value)) (ItsBegin ∷ []) [] refl refl;
        cbaser = word_held guest actor view piece events places is Cbaser (inl refl) (and_from (keeps guest.shape (Word Cbaser) (Put ItsCtlr (bit_of (enabled_in value)))) true (cbaser_ctlr guest.shape) refl);
        cwriter = word_held guest actor view piece events places is Cwriter (inr (inl refl)) (and_from (keeps guest.shape (Word Cwriter) (Put ItsCtlr (bit_of (enabled_in value)))) true (cwriter_ctlr guest.shape) refl);
        offset = queue.0;
        stalled = queue.1;
        maps = maps;
      }

  -- GITS_CWRITER.

  abbrev again : Bool → ℕ → List Event
  again b offset = cond b (Queue offset Runs ∷ []) []

  abbrev writer_events : Bool → ℕ → Bool → ℕ → List Event
  writer_events b stored r offset = cond b (Put Cwriter stored ∷ again r offset) []

  abbrev writer_places : List Place
  writer_places = Word ItsCtlr ∷ Word Cbaser ∷ QueuePlace ∷ Word Cwriter ∷ []

  writer_keeps : (word : PlainWord) (b : Bool) (stored : ℕ) (r : Bool) (offset : ℕ) → not (place_of_plain guest.shape word == place_of_plain guest.shape Cwriter) ≡ true → IsTrue (list_all (keeps guest.shape (Word word)) (ItsBegin ∷ writer_events b stored r offset))
  writer_keeps word true stored true offset h = and_from (keeps guest.shape (Word word) (Put Cwriter stored)) true h refl
  writer_keeps word true stored false offset h = and_from (keeps guest.shape (Word word) (Put Cwriter stored)) true h refl
  writer_keeps word false stored r offset h = refl

  writer_runs : (b : Bool) (stored : ℕ) (r : Bool) (offset : ℕ) → IsTrue (list_all (runs_only guest.shape) (ItsBegin ∷ writer_events b stored r offset))
  writer_runs true stored true offset = refl
  writer_runs true stored false offset = refl
  writer_runs false stored r offset = refl

  module _ (half : Half) (value : ℕ) (maps : view.maps ≡ guest.tables) where
    abbrev mine : ℕ
    mine = half_written half (view.words Cwriter) value

    abbrev eager : ℕ
    eager = half_written half (word_at guest Cwriter) value

    abbrev events : List Event
    events = writer_events (is_in_queue view mine) (queue_offset mine) (view.is_stalled && retries (view.words Cbaser) mine) view.offset

    module _ (is : IsBy (ItsBegin ∷ writer_events (is_in_queue view mine) (queue_offset mine) (view.is_stalled && retries (view.words Cbaser) mine) view.offset) writer_places) where
      cbaser_is : view.words Cbaser ≡ word_at guest Cbaser
      cbaser_is = word_held guest actor view piece (ItsBegin ∷ events) writer_places is Cbaser (inr (inl refl)) (writer_keeps Cbaser (is_in_queue view mine) (queue_offset mine) (view.is_stalled && retries (view.words Cbaser) mine) view.offset (cbaser_cwriter guest.shape))

      ctlr_is : view.words ItsCtlr ≡ word_at guest ItsCtlr
      ctlr_is = word_held guest actor view piece (ItsBegin ∷ events) writer_places is ItsCtlr (inl refl) (writer_keeps ItsCtlr (is_in_queue view mine) (queue_offset mine) (view.is_stalled && retries (view.words Cbaser) mine) view.offset (ctlr_cwriter guest.shape))

      -- the stored offset is known, whether the write is ignored or not
      cwriter_is : (b : Bool) → is_in_queue view mine ≡ b → view.words Cwriter ≡ word_at guest Cwriter
      cwriter_is true e =
          later (ItsBegin ∷ events) writer_places is Cwriter (queue_offset mine) (ItsBegin ∷ []) (again (view.is_stalled && retries (view.words Cbaser) mine) view.offset)
          (ap (λ b. ItsBegin ∷ writer_events b (queue_offset mine) (view.is_stalled && retries (view.words Cbaser) mine) view.offset) e) refl
      cwriter_is false e =
          word_held guest actor view piece (ItsBegin ∷ events) writer_places is Cwriter (inr (inr (inr (inl refl))))
          (ap (λ b. list_all (keeps guest.shape (Word Cwriter)) (ItsBegin ∷ writer_events b (queue_offset mine) (view.is_stalled && retries (view.words Cbaser) mine) view.offset)) e)

      same : mine ≡ eager
      same = ap (λ n. half_written half n value) (cwriter_is (is_in_queue view mine) refl)

      in_same : is_in_queue view mine ≡ is_in_queue (view_of guest) eager
      in_same = ap (λ n. nat_lt (queue_offset n) (queue_bytes (view.words Cbaser))) same ∙ ap (λ c. nat_lt (queue_offset eager) (queue_bytes c)) cbaser_is

      queue_is : is_in_queue view mine ≡ true → (r : Bool) → (view.is_stalled && retries (view.words Cbaser) mine) ≡ r → (view.offset ≡ guest.offset) × (view.is_stalled ≡ guest.is_stalled)
      queue_is e true r =
          of
          (queue_seen view.offset view.is_stalled piece false guest is.run
          (beside_passes (runs_only guest.shape) (beside_runs guest.shape) actor piece
          (subst (λ es. IsTrue (list_all (runs_only guest.shape) es)) (sym is.made.events_are) (writer_runs (is_in_queue view mine) (queue_offset mine) (view.is_stalled && retries (view.words Cbaser) mine) view.offset)))
          (last_in QueuePlace (held_at view QueuePlace) piece (all_in (λ p. IsLastRead p (held_at view p) piece) writer_places QueuePlace is.made.reads (inr (inr (inl refl))))))
        where
          first : (a b : Bool) → (a && b) ≡ true → a ≡ false → ⊥
          first true b h k = absurd (cc)
          first false b h k = absurd (cc)

          of : IsSeen guest view.offset view.is_stalled → (view.offset ≡ guest.offset) × (view.is_stalled ≡ guest.is_stalled)
          of (inl same) = same
          of (inr off) = absurd (first view.is_stalled (retries (view.words Cbaser) mine) r off)
      queue_is e false r =
          queue_pair view.offset guest.offset view.is_stalled guest.is_stalled
          (view_holds actor view (ItsBegin ∷ events) writer_places piece guest is.made is.run QueuePlace (inr (inr (inl refl)))
          (ap (λ x. list_all (keeps guest.shape QueuePlace) (ItsBegin ∷ writer_events x (queue_offset mine) (view.is_stalled && retries (view.words Cbaser) mine) view.offset)) e
          ∙ ap (λ x. list_all (keeps guest.shape QueuePlace) (ItsBegin ∷ writer_events true (queue_offset mine) x view.offset)) r))

      written : (b : Bool) → is_in_queue view mine ≡ b → IsWritten CwriterReg half value
      written true e =
          let queue = queue_is e (view.is_stalled && retries (view.words Cbaser) mine) refl in
          record {
            events =
                ap (λ b. writer_events b (queue_offset mine) (view.is_stalled && retries (view.words Cbaser) mine) view.offset) in_same
                ∙ ap (λ n. writer_events (is_in_queue (view_of guest) eager) (queue_offset n) (view.is_stalled && retries (view.words Cbaser) n) view.offset) same
                ∙ ap (λ c. writer_events (is_in_queue (view_of guest) eager) (queue_offset eager) (view.is_stalled && retries c eager) view.offset) cbaser_is
                ∙ ap (λ b. writer_events (is_in_queue (view_of guest) eager) (queue_offset eager) (b && retries (word_at guest Cbaser) eager) view.offset) queue.1
                ∙ ap (λ o. writer_events (is_in_queue (view_of guest) eager) (queue_offset eager) (guest.is_stalled && retries (word_at guest Cbaser) eager) o) queue.0;
            starts = in_same;
            known = λ h. record { ctlr = ctlr_is; cbaser = cbaser_is; cwriter = cwriter_is true e; offset = queue.0; stalled = queue.1; maps = maps };
          }
      written false e = record {
        events =
            ap (λ b. writer_events b (queue_offset mine) (view.is_stalled && retries (view.words Cbaser) mine) view.offset) e
            ∙ sym (ap (λ b. writer_events b (queue_offset eager) (guest.is_stalled && retries (word_at guest Cbaser) eager) guest.offset) (sym in_same ∙ e));
        starts = in_same;
        known = λ h. absurd (let no = sym h ∙ e in cc);
      }

  -- Each register.
  pub register_written : (reg : ItsReg) (half : Half) (value : ℕ) → takes_its reg ≡ true → view.maps ≡ guest.tables → IsBy (ItsBegin ∷ its_written view reg half value) (its_write_places reg) → IsWritten reg half value
  register_written ItsCtlrReg half value takes maps is = record { events = refl; starts = refl; known = λ h. ctlr half value maps is }
  register_written CbaserReg half value takes maps is = record { events = cbaser half value is; starts = refl; known = λ h. absurd (cc) }
  register_written CwriterReg half value takes maps is = written half value maps is (is_in_queue view (half_written half (view.words Cwriter) value)) refl
  register_written Baser0Reg half value takes maps is = record { events = baser Baser0 half value (ctlr_baser0 guest.shape) is; starts = refl; known = λ h. absurd (cc) }
  register_written Baser1Reg half value takes maps is = record { events = baser Baser1 half value (ctlr_baser1 guest.shape) is; starts = refl; known = λ h. absurd (cc) }
  register_written ItsIidr half value takes maps is = absurd (cc)
  register_written ItsTyper half value takes maps is = absurd (cc)
  register_written Creadr half value takes maps is = absurd (cc)
  register_written ItsPidr2 half value takes maps is = absurd (cc)
