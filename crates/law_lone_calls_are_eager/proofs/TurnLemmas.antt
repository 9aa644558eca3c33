-- A call that takes the ITS: the events of its register, and that its commands take no other turn.
use Rattle.std.proofs.Common.{◌≡◌, ℕ, ◌&&◌, Bool, true, false, cond, IsTrue, List, [], ◌∷◌, Option, Some, refl, sym, ap, ◌∙◌, subst}
use Rattle.std.specs.List.{list_all}
use Rattle.std.proofs.lemmas.Bool.{and_parts, and_from}
use Rattle.law_home_commutes.specs.Words.{GuestShape}
use Rattle.law_home_commutes.specs.Registers.{Half, has_lpis, Cbaser as CbaserReg, Cwriter as CwriterReg, Creadr, Baser0 as Baser0Reg, Baser1 as Baser1Reg}
use Rattle.law_home_commutes.specs.GicImap.declared.map.Reg.{Reg as ItsReg}
use Rattle.law_home_commutes.specs.GicImap.declared.map.Reg.TheVariants.{Ctlr as ItsCtlrReg, Iidr as ItsIidr, Typer as ItsTyper, Pidr2 as ItsPidr2}
use Rattle.law_home_commutes.specs.GicImap.declared.map.RegRef.{RegRef as ItsRef}
use Rattle.law_home_commutes.specs.GicImap.declared.map.RegRef.TheVariants.{Plain as ItsPlain, Reserved as ItsReserved}
use Rattle.law_home_commutes.specs.Calls.{PlainWord, Event, Up, Down, Touch, Reach, Take, Leave, Enable, Cpu, Put, CtlrBegin, CtlrEnd, ItsBegin, QueueChange, Runs, Done, Stalls, its_written, takes_its, its_events, its_starts, takes_turn, Happened, is_beside, its_places, its_write_places, HaveSameIts, CanHappen, View}
use Rattle.law_home_commutes.specs.GicCall.declared.event.Event.TheVariants.{Raise, Read, ItsEnd, Queue}
use Rattle.law_home_commutes.specs.GicCall.Access.{starts_commands as register_starts}
use Rattle.law_home_commutes.specs.Histories.{IdealGuest, view_of, after_event, after_events, IsSound}
use Rattle.law_eager_is_history.specs.GicIdeal.Laws.{CanFollow}
use Rattle.law_eager_is_history.proofs.GicIdeal.SoundEvents.{sound_event}
use Rattle.law_eager_is_history.proofs.WindowLemmas.{is_no_turn}
use Rattle.law_lone_calls_are_eager.proofs.MapsLemmas.{keeps_maps}
use Rattle.law_lone_calls_are_eager.proofs.PartLemmas.{IsMade}
use Rattle.law_lone_calls_are_eager.proofs.PassLemmas.{PassesBeside}
use Rattle.law_lone_calls_are_eager.proofs.RunLemmas.{events_of, spreading_after, IsHomeRun}
use Rattle.law_lone_calls_are_eager.proofs.WrittenLemmas.{IsWritten, register_written}

-- What all events of a register pass.

module _ (test : Event → Bool) (put : (word : PlainWord) (value : ℕ) → test (Put word value) ≡ true) (runs : (offset : ℕ) → test (Queue offset Runs) ≡ true) where
  one_put : (b : Bool) (word : PlainWord) (value : ℕ) → IsTrue (list_all test (cond b [] (Put word value ∷ [])))
  one_put true word value = refl
  one_put false word value = and_from (test (Put word value)) true (put word value) refl

  three : (b : Bool) (one other : PlainWord) (value bits : ℕ) → IsTrue (list_all test (cond b [] (Put one value ∷ Queue 0 Runs ∷ Put other bits ∷ [])))
  three true one other value bits = refl
  three false one other value bits =
      and_from (test (Put one value)) (list_all test (Queue 0 Runs ∷ Put other bits ∷ [])) (put one value)
      (and_from (test (Queue 0 Runs)) (list_all test (Put other bits ∷ [])) (runs 0) (and_from (test (Put other bits)) true (put other bits) refl))

  two : (b c : Bool) (word : PlainWord) (value offset : ℕ) → IsTrue (list_all test (cond b (Put word value ∷ cond c (Queue offset Runs ∷ []) []) []))
  two false c word value offset = refl
  two true true word value offset = and_from (test (Put word value)) (list_all test (Queue offset Runs ∷ [])) (put word value) (and_from (test (Queue offset Runs)) true (runs offset) refl)
  two true false word value offset = and_from (test (Put word value)) true (put word value) refl

  written_all : (view : View) (reg : ItsReg) (half : Half) (value : ℕ) → IsTrue (list_all test (its_written view reg half value))
  written_all view ItsCtlrReg half value = and_from (test (Put _ _)) true (put _ _) refl
  written_all view CbaserReg half value = three _ _ _ _ _
  written_all view CwriterReg half value = two _ _ _ _ _
  written_all view Baser0Reg half value = one_put _ _ _
  written_all view Baser1Reg half value = one_put _ _ _
  written_all view ItsIidr half value = refl
  written_all view ItsTyper half value = refl
  written_all view Creadr half value = refl
  written_all view ItsPidr2 half value = refl

  pub its_all : (shape : GuestShape) (view : View) (ref : ItsRef) (value : ℕ) → IsTrue (list_all test (its_events shape view ref (Some value)))
  its_all shape view (ItsPlain reg half) value = of (has_lpis shape)
    where
      of : (b : Bool) → IsTrue (list_all test (cond b (its_written view reg half value) []))
      of true = written_all view reg half value
      of false = refl
  its_all shape view ItsReserved value = refl

-- A register, as the access names it.

module _ (shape : GuestShape) (guest : IdealGuest) (actor : Option ℕ) (view : View) (piece : List Happened) (value : ℕ) where
  pub record IsRegistered (ref : ItsRef) : Type 0 where
    pub events : its_events shape view ref (Some value) ≡ its_events shape (view_of guest) ref (Some value)
    pub starts : its_starts shape view ref (Some value) ≡ its_starts shape (view_of guest) ref (Some value)
    pub known : its_starts shape view ref (Some value) ≡ true → HaveSameIts view (view_of guest)

  pub registered : (ref : ItsRef) → takes_turn shape ref (Some value) ≡ true → IsMade guest actor view (ItsBegin ∷ its_events shape view ref (Some value)) (its_places shape ref (Some value)) piece → view.maps ≡ guest.tables → IsRegistered ref
  registered (ItsPlain reg half) takes made maps =
      let both = and_parts (has_lpis shape) (takes_its reg) takes in
      of both.0 (register_written guest actor view piece reg half value both.1 maps (subst (λ b. IsMade guest actor view (ItsBegin ∷ cond b (its_written view reg half value) []) (cond b (its_write_places reg) []) piece) both.0 made))
    where
      of : has_lpis shape ≡ true → IsWritten guest actor view piece reg half value → IsRegistered (ItsPlain reg half)
      of on is = record {
        events = ap (λ b. cond b (its_written view reg half value) []) on ∙ is.events ∙ sym (ap (λ b. cond b (its_written (view_of guest) reg half value) []) on);
        starts = ap (λ b. b && register_starts view reg half value) on ∙ is.starts ∙ sym (ap (λ b. b && register_starts (view_of guest) reg half value) on);
        known = λ h. is.known (sym (ap (λ b. b && register_starts view reg half value) on) ∙ h);
      }
  registered ItsReserved takes made maps = absurd (cc)

-- No other turn.

beside_no_turn : (actor : Option ℕ) (event : Event) → is_beside actor event ≡ true → is_no_turn event ≡ true
beside_no_turn actor (Raise key) h = absurd (cc)
beside_no_turn actor (Up key) h = absurd (cc)
beside_no_turn actor (Down key) h = absurd (cc)
beside_no_turn actor (Touch key touching) h = absurd (cc)
beside_no_turn actor (Reach key u) h = refl
beside_no_turn actor (Take key u) h = refl
beside_no_turn actor (Leave key u) h = refl
beside_no_turn actor (Enable u) h = absurd (cc)
beside_no_turn actor (Cpu u reg write) h = absurd (cc)
beside_no_turn actor (Read at) h = refl
beside_no_turn actor (Put other value) h = absurd (cc)
beside_no_turn actor (CtlrBegin enables) h = absurd (cc)
beside_no_turn actor CtlrEnd h = absurd (cc)
beside_no_turn actor ItsBegin h = absurd (cc)
beside_no_turn actor ItsEnd h = absurd (cc)
beside_no_turn actor (Queue offset Runs) h = absurd (cc)
beside_no_turn actor (Queue offset (Done words)) h = absurd (cc)
beside_no_turn actor (Queue offset (Stalls fault)) h = absurd (cc)

pub no_turn_passes : PassesBeside is_no_turn
no_turn_passes = record { beside = beside_no_turn; raise = λ key. refl; touch = λ key touching. refl; queue = queue_so }
  where
    queue_so : (offset : ℕ) (change : QueueChange) → is_no_turn (Queue offset change) ≡ true
    queue_so offset Runs = refl
    queue_so offset (Done words) = refl
    queue_so offset (Stalls fault) = refl

-- A run in which no command ends leaves a sound guest.

can_follow : (guest : IdealGuest) (event : Event) → keeps_maps event ≡ true → CanHappen guest.shape event → CanFollow guest event
can_follow guest (Raise key) h can = can
can_follow guest (Up key) h can = can
can_follow guest (Down key) h can = can
can_follow guest (Touch key touching) h can = can
can_follow guest (Reach key u) h can = can
can_follow guest (Take key u) h can = can
can_follow guest (Leave key u) h can = can
can_follow guest (Enable u) h can = can
can_follow guest (Cpu u reg write) h can = can
can_follow guest (Read at) h can = can
can_follow guest (Put other value) h can = can
can_follow guest (CtlrBegin enables) h can = can
can_follow guest CtlrEnd h can = can
can_follow guest ItsBegin h can = can
can_follow guest ItsEnd h can = can
can_follow guest (Queue offset Runs) h can = can
can_follow guest (Queue offset (Done words)) h can = absurd (cc)
can_follow guest (Queue offset (Stalls fault)) h can = can

pub sound_run : (piece : List Happened) (b : Bool) (guest : IdealGuest) → IsHomeRun b guest piece → IsTrue (list_all keeps_maps (events_of piece)) → IsSound guest → IsSound (after_events (events_of piece) guest)
sound_run [] b guest run keep sound = sound
sound_run (one ∷ piece) b guest run keep sound =
    let parts = and_parts (keeps_maps one.event) (list_all keeps_maps (events_of piece)) keep in
    sound_run piece (spreading_after one.event b) (after_event guest one.event) run.1 parts.1 (sound_event guest one.event sound (can_follow guest one.event parts.0 run.0.can))
