-- Accesses of the distributor, of a redistributor and of memory, and those of the ITS that take no turn.
use Rattle.std.proofs.Common.{◌≡◌, ℕ, ◌+◌, ◌++◌, ◌∷◌, ◌&&◌, ◌||◌, Bool, true, false, cond, IsTrue, List, [], Option, Some, None, refl, sym, ap, ◌∙◌, subst}
use Rattle.std.specs.List.{list_all, range_with_len, filter_map}
use Rattle.std.specs.Option.{option_map_or}
use Rattle.std.proofs.lemmas.List.{append-nil}
use Rattle.std.proofs.lemmas.Option.{none-some}
use Rattle.law_home_commutes.specs.Words.{Lpi, Frame, Dist, Redist, Its, Ram as Memory, Mem, SetPending, GuestShape, is_number}
use Rattle.law_home_commutes.specs.GicDmap.Map.{decoded as dist_decoded}
use Rattle.law_home_commutes.specs.GicRmap.Map.{decoded as redist_decoded}
use Rattle.law_home_commutes.specs.GicImap.Map.{decoded as its_decoded}
use Rattle.law_home_commutes.specs.Registers.{Half, has_lpis, Cbaser as CbaserReg, Cwriter as CwriterReg, Creadr, Baser0 as Baser0Reg, Baser1 as Baser1Reg, enable_lpis_after}
use Rattle.law_home_commutes.specs.GicImap.declared.map.Reg.{Reg as ItsReg}
use Rattle.law_home_commutes.specs.GicImap.declared.map.Reg.TheVariants.{Ctlr as ItsCtlrReg, Iidr as ItsIidr, Typer as ItsTyper, Pidr2 as ItsPidr2}
use Rattle.law_home_commutes.specs.GicImap.declared.map.RegRef.{RegRef as ItsRef}
use Rattle.law_home_commutes.specs.GicImap.declared.map.RegRef.TheVariants.{Plain as ItsPlain, Reserved as ItsReserved}
use Rattle.law_home_commutes.specs.Calls.{Cbaser, Pendbaser, Event, Enable, Touch, Moment, Access, Register, is_table_zero, is_in_table, pended_at, its_written, takes_its, redist_written, access_events, access_value, its_events, its_starts, takes_turn, queue_places, Happened, IsPlainCall, IsCall, access_places, its_places, read_answer, View}
use Rattle.law_home_commutes.specs.GicRmap.declared.map.Reg.TheVariants.{Ctlr as RedistCtlr}
use Rattle.law_home_commutes.specs.GicCall.Access.{starts_commands as register_starts}
use Rattle.law_home_commutes.specs.GicCall.Call.{starts_commands}
use Rattle.law_home_commutes.specs.Histories.{IdealGuest, word_at, view_of, after_events, begun, targets_in, vcpu_of, last_of, home, Ideal}
use Rattle.law_home_commutes.proofs.GicCall.TraceLemmas.{access_made}
use Rattle.law_eager_is_history.specs.GicIdeal.Deeds.{op_events, queued_events}
use Rattle.law_eager_is_history.proofs.CourseLemmas.{call_after}
use Rattle.law_eager_is_history.proofs.EventLemmas.{all_found}
use Rattle.law_home_commutes.proofs.HomeLemmas.{home_whole}
use Rattle.law_lone_calls_are_eager.specs.LoneCalls.{lone_call, IsEagerCall, PassesAlone}
use Rattle.law_lone_calls_are_eager.proofs.EnableLemmas.{enable_same}
use Rattle.law_lone_calls_are_eager.proofs.NamedLemmas.{named_run}
use Rattle.law_lone_calls_are_eager.proofs.PartLemmas.{IsMade}
use Rattle.law_lone_calls_are_eager.proofs.PlainLemmas.{IsSame, dist_same, redist_same, its_value_same, memory_read, memory_same}
use Rattle.law_lone_calls_are_eager.proofs.ReadLemmas.{beside_passes}
use Rattle.law_lone_calls_are_eager.proofs.RunLemmas.{events_of, LoneRun, lone_run}
use Rattle.law_lone_calls_are_eager.proofs.TargetLemmas.{keeps_targets, beside_targets, steady, all_contain, home_targets}

-- A write of GICR_CTLR moves no LPI.
written_keeps : (shape : GuestShape) (view : View) (vcpu : ℕ) (half : Half) (value : ℕ) → IsTrue (list_all keeps_targets (redist_written shape view vcpu RedistCtlr half value))
written_keeps shape view vcpu half value = of (enable_lpis_after shape false value)
  where
    one : (i : ℕ) (b : Bool) → IsTrue (option_map_or keeps_targets (cond b (Some (Touch (Lpi (8192 + i)) (Register SetPending 1))) None) true)
    one i true = refl
    one i false = refl

    some : (b : Bool) → IsTrue (list_all keeps_targets (cond b [] (filter_map (λ number. pended_at shape view vcpu (8192 + number)) (range_with_len 0 shape.lpis))))
    some true = refl
    some false = all_found keeps_targets (λ number. pended_at shape view vcpu (8192 + number)) 0 shape.lpis (λ i. one i (is_number vcpu (view.targets (8192 + i)) && is_in_table shape view vcpu (8192 + i)))

    of : (b : Bool) → IsTrue (list_all keeps_targets (cond b (Enable vcpu ∷ cond (view.lpis vcpu || is_table_zero (view.words (Pendbaser vcpu))) [] (filter_map (λ number. pended_at shape view vcpu (8192 + number)) (range_with_len 0 shape.lpis))) []))
    of true = some (view.lpis vcpu || is_table_zero (view.words (Pendbaser vcpu)))
    of false = refl

-- An access of the ITS that takes no turn makes no event, and starts no command.
no_event : (shape : GuestShape) (view : View) (ref : ItsRef) (write : Option ℕ) → takes_turn shape ref write ≡ false → its_events shape view ref write ≡ []
no_event shape view (ItsPlain reg half) None h = refl
no_event shape view (ItsPlain reg half) (Some value) h = of (has_lpis shape) h
  where
    none : (reg : ItsReg) → takes_its reg ≡ false → its_written view reg half value ≡ []
    none ItsCtlrReg h = absurd (cc)
    none ItsIidr h = refl
    none ItsTyper h = refl
    none CbaserReg h = absurd (cc)
    none CwriterReg h = absurd (cc)
    none Creadr h = refl
    none Baser0Reg h = absurd (cc)
    none Baser1Reg h = absurd (cc)
    none ItsPidr2 h = refl

    of : (b : Bool) → (b && takes_its reg) ≡ false → cond b (its_written view reg half value) [] ≡ []
    of true h = none reg h
    of false h = refl
no_event shape view ItsReserved write h = refl

no_start : (shape : GuestShape) (view : View) (ref : ItsRef) (write : Option ℕ) → takes_turn shape ref write ≡ false → its_starts shape view ref write ≡ false
no_start shape view (ItsPlain reg half) None h = refl
no_start shape view (ItsPlain reg half) (Some value) h = of (has_lpis shape) h
  where
    none : (reg : ItsReg) → takes_its reg ≡ false → register_starts view reg half value ≡ false
    none ItsCtlrReg h = absurd (cc)
    none ItsIidr h = refl
    none ItsTyper h = refl
    none CbaserReg h = absurd (cc)
    none CwriterReg h = absurd (cc)
    none Creadr h = refl
    none Baser0Reg h = absurd (cc)
    none Baser1Reg h = absurd (cc)
    none ItsPidr2 h = refl

    of : (b : Bool) → (b && takes_its reg) ≡ false → (b && register_starts view reg half value) ≡ false
    of true h = none reg h
    of false h = refl
no_start shape view ItsReserved write h = refl

-- What such an access does under the eager controller: its events alone.
plain_events : (guest : IdealGuest) (shape : GuestShape) (vcpu : ℕ) (frame : Frame) (offset size : ℕ) (write : Option ℕ) → guest.shape ≡ shape → starts_commands shape (view_of guest) frame offset size write ≡ false
    → op_events (Mem frame offset size write) guest vcpu ≡ access_events shape (view_of guest) frame offset size write
plain_events guest shape vcpu frame offset size write same none =
    let events = access_events guest.shape (view_of guest) frame offset size write in
    let changed = after_events events guest in
    ap (λ b. events ++ cond b (queued_events (queue_places (word_at changed Cbaser)) changed) []) (ap (λ s. starts_commands s (view_of guest) frame offset size write) same ∙ none)
    ∙ append-nil events ∙ ap (λ s. access_events s (view_of guest) frame offset size write) same

answer_same : (write : Option ℕ) (value other : ℕ) → (write ≡ None → value ≡ other) → read_answer write value ≡ read_answer write other
answer_same None value other same = ap Some (same refl)
answer_same (Some written) value other same = refl

module _ (guest : IdealGuest) (moments : List Moment) (actor : ℕ) (piece : List Happened) (answer : Option ℕ) where
  abbrev state : Ideal
  state = last_of guest moments

  abbrev before : IdealGuest
  before = home (last_of guest moments)

  abbrev IsEager : Frame → ℕ → ℕ → Option ℕ → Type 0
  IsEager frame offset size write = IsEagerCall actor (Access (Mem frame offset size write)) answer before (home (last_of guest (moments ++ lone_call actor (Access (Mem frame offset size write)) piece answer)))

  module _ (frame : Frame) (offset size : ℕ) (write : Option ℕ) (run : LoneRun guest moments actor (Access (Mem frame offset size write)) piece answer) (vcpu : ℕ) (is : IsPlainCall guest.shape run.ended.beside vcpu frame offset size write piece answer) where
    made_is : IsMade before (Some vcpu) is.view (access_events guest.shape is.view frame offset size write) (access_places guest.shape is.view frame offset size write) piece
    made_is = record { whole = home_whole state run.tidy.whole; run = run.run; made = access_made is }

    passes : starts_commands guest.shape (view_of before) frame offset size write ≡ false
        → IsSame write (access_events guest.shape is.view frame offset size write) (access_events guest.shape (view_of before) frame offset size write) (access_value guest.shape is.view frame offset size) (access_value guest.shape (view_of before) frame offset size)
        → IsEager frame offset size write
    passes none same =
        let named = named_run false before (Some vcpu) piece run.run in
        record {
          goes =
              run.goes ∙ named.goes
              ∙ ap (λ events. after_events events before) ((access_made is).events_are ∙ same.events_are ∙ sym (plain_events before guest.shape actor frame offset size write run.shape_is none));
          answers =
              is.answers ∙ answer_same write (access_value guest.shape is.view frame offset size) (access_value guest.shape (view_of before) frame offset size) same.value_is
              ∙ ap (λ s. read_answer write (access_value s (view_of before) frame offset size)) (sym run.shape_is);
        }

    -- for which vCPUs the LPIs are, where no event moves one
    targets_same : (events : List Event) → events ≡ access_events guest.shape is.view frame offset size write → IsTrue (list_all keeps_targets events) → (id : ℕ) → is.view.targets id ≡ (view_of before).targets id
    targets_same events events_is keep id =
        let all : IsTrue (list_all keeps_targets (events_of piece)) = beside_passes keeps_targets beside_targets (Some vcpu) piece (subst (λ es. IsTrue (list_all keeps_targets es)) (events_is ∙ sym (access_made is).events_are) keep) in
        let call = call_after actor (events_of piece) state (begun state (Access (Mem frame offset size write))) in
        let same = steady actor (events_of piece) state (begun state (Access (Mem frame offset size write))) (targets_in state) run.tidy.whole (λ i. refl) all (record { all = λ i. (refl, tt) }) in
        ap (λ f. f id) is.targets ∙ all_contain (call.targets id) (targets_in state id) (run.ended.beside.targets id) (same.all id) (run.ended.targets id) ∙ sym (home_targets guest.shape state run.tidy id)

  -- The distributor.
  dist_so : (offset size : ℕ) (write : Option ℕ) (run : LoneRun guest moments actor (Access (Mem Dist offset size write)) piece answer) (vcpu : ℕ) → IsPlainCall guest.shape run.ended.beside vcpu Dist offset size write piece answer → IsEager Dist offset size write
  dist_so offset size write run vcpu is = passes Dist offset size write run vcpu is refl (dist_same before (Some vcpu) is.view piece guest.shape run.shape_is (dist_decoded offset size) write (made_is Dist offset size write run vcpu is))

  -- A redistributor.
  redist_so : (of_vcpu offset size : ℕ) (write : Option ℕ) (run : LoneRun guest moments actor (Access (Mem (Redist of_vcpu) offset size write)) piece answer) (vcpu : ℕ) → IsPlainCall guest.shape run.ended.beside vcpu (Redist of_vcpu) offset size write piece answer
      → IsEager (Redist of_vcpu) offset size write
  redist_so of_vcpu offset size write run vcpu is =
      passes (Redist of_vcpu) offset size write run vcpu is refl
      (redist_same before (Some vcpu) is.view piece guest.shape run.shape_is of_vcpu (redist_decoded offset size) write
      (λ half value by.
      enable_same before (Some vcpu) is.view piece guest.shape of_vcpu
      (targets_same (Redist of_vcpu) offset size write run vcpu is (redist_written guest.shape is.view of_vcpu RedistCtlr half value) (sym by.made.events_are ∙ (access_made is).events_are) (written_keeps guest.shape is.view of_vcpu half value)) half value by)
      (made_is (Redist of_vcpu) offset size write run vcpu is))

  -- Memory.
  memory_so : (offset size : ℕ) (write : Option ℕ) (run : LoneRun guest moments actor (Access (Mem Memory offset size write)) piece answer) (vcpu : ℕ) → IsPlainCall guest.shape run.ended.beside vcpu Memory offset size write piece answer → IsEager Memory offset size write
  memory_so offset size None run vcpu is =
      passes Memory offset size None run vcpu is refl
      (record { events_are = refl; value_is = λ e. memory_read before (Some vcpu) is.view piece guest.shape run.shape_is offset size (made_is Memory offset size None run vcpu is) })
  memory_so offset size (Some value) run vcpu is =
      passes Memory offset size (Some value) run vcpu is refl
      (record { events_are = memory_same before (Some vcpu) is.view piece guest.shape run.shape_is offset size value (made_is Memory offset size (Some value) run vcpu is); value_is = λ e. absurd (none-some value (sym e)) })

  -- The ITS.
  pub its_so : (offset size : ℕ) (write : Option ℕ) (run : LoneRun guest moments actor (Access (Mem Its offset size write)) piece answer) (vcpu : ℕ) → takes_turn guest.shape (its_decoded offset size) write ≡ false
      → IsPlainCall guest.shape run.ended.beside vcpu Its offset size write piece answer → IsEager Its offset size write
  its_so offset size write run vcpu none is =
      passes Its offset size write run vcpu is (no_start guest.shape (view_of before) (its_decoded offset size) write none)
      (record {
        events_are = no_event guest.shape is.view (its_decoded offset size) write none ∙ sym (no_event guest.shape (view_of before) (its_decoded offset size) write none);
        value_is = λ e. its_value_same before (Some vcpu) is.view piece guest.shape run.shape_is (its_decoded offset size) (read_made write e (made_is Its offset size write run vcpu is));
      })
    where
      read_made : (write : Option ℕ) → write ≡ None → IsMade before (Some vcpu) is.view (its_events guest.shape is.view (its_decoded offset size) write) (its_places guest.shape (its_decoded offset size) write) piece
          → IsMade before (Some vcpu) is.view [] (its_places guest.shape (its_decoded offset size) None) piece
      read_made None e made = subst (λ es. IsMade before (Some vcpu) is.view es (its_places guest.shape (its_decoded offset size) None) piece) (no_read (its_decoded offset size)) made
        where
          no_read : (ref : ItsRef) → its_events guest.shape is.view ref None ≡ []
          no_read (ItsPlain reg half) = refl
          no_read ItsReserved = refl
      read_made (Some value) e made = absurd (none-some value (sym e))

-- The laws.

pub distributor_calls_pass : (offset size : ℕ) (write : Option ℕ) → PassesAlone (Access (Mem Dist offset size write))
distributor_calls_pass offset size write guest moments actor piece answer is = of (vcpu_of guest.shape actor) run.is_call
  where
    run : LoneRun guest moments actor (Access (Mem Dist offset size write)) piece answer
    run = lone_run guest moments actor (Access (Mem Dist offset size write)) piece answer is

    of : (o : Option ℕ) → IsCall guest.shape run.ended.beside o (Access (Mem Dist offset size write)) piece answer → IsEager guest moments actor piece answer Dist offset size write
    of None is_call = absurd is_call
    of (Some vcpu) is_call = dist_so guest moments actor piece answer offset size write run vcpu is_call

pub redistributor_calls_pass : (vcpu offset size : ℕ) (write : Option ℕ) → PassesAlone (Access (Mem (Redist vcpu) offset size write))
redistributor_calls_pass of_vcpu offset size write guest moments actor piece answer is = of (vcpu_of guest.shape actor) run.is_call
  where
    run : LoneRun guest moments actor (Access (Mem (Redist of_vcpu) offset size write)) piece answer
    run = lone_run guest moments actor (Access (Mem (Redist of_vcpu) offset size write)) piece answer is

    of : (o : Option ℕ) → IsCall guest.shape run.ended.beside o (Access (Mem (Redist of_vcpu) offset size write)) piece answer → IsEager guest moments actor piece answer (Redist of_vcpu) offset size write
    of None is_call = absurd is_call
    of (Some vcpu) is_call = redist_so guest moments actor piece answer of_vcpu offset size write run vcpu is_call

pub memory_calls_pass : (offset size : ℕ) (write : Option ℕ) → PassesAlone (Access (Mem Memory offset size write))
memory_calls_pass offset size write guest moments actor piece answer is = of (vcpu_of guest.shape actor) run.is_call
  where
    run : LoneRun guest moments actor (Access (Mem Memory offset size write)) piece answer
    run = lone_run guest moments actor (Access (Mem Memory offset size write)) piece answer is

    of : (o : Option ℕ) → IsCall guest.shape run.ended.beside o (Access (Mem Memory offset size write)) piece answer → IsEager guest moments actor piece answer Memory offset size write
    of None is_call = absurd is_call
    of (Some vcpu) is_call = memory_so guest moments actor piece answer offset size write run vcpu is_call
