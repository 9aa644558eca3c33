-- Calls of one actor from a guest where nothing stands at an interface: accesses that do not take the ITS, messages and wires.
use Rattle.std.proofs.Common.{◌≡◌, ℕ, ◌+◌, ◌<◌, Bool, true, false, ◌&&◌, inl, cond, nat_lt, IsTrue, All, List, [], ◌∷◌, ◌++◌, map, Option, Some, None, refl, sym, ap, ◌∙◌, subst, arith}
use Rattle.std.specs.List.{list_all}
use Rattle.std.proofs.lemmas.Grind.{common_steps}
use Rattle.std.proofs.lemmas.Bool.{and_from, eq-eqb}
use Rattle.std.proofs.lemmas.List.{append-nil, append_assoc}
use Rattle.floor_histories.proofs.GicFrame.TestLemmas.{is_under}
use Rattle.floor_histories.specs.Words.{DeviceOp, Message, Wire, Msi, Frame, Dist, Redist, Its, Ram as Memory, Mem, GuestShape, Spi, Lpi, is_number}
use Rattle.floor_histories.specs.Registers.{has_lpis, Cbaser as CbaserReg, Cwriter as CwriterReg, Creadr, Baser0 as Baser0Reg, Baser1 as Baser1Reg, Maps, translated}
use Rattle.floor_histories.specs.GicDmap.Map.{decoded as dist_decoded}
use Rattle.floor_histories.specs.GicRmap.Map.{decoded as redist_decoded}
use Rattle.floor_histories.specs.GicImap.Map.{decoded as its_decoded}
use Rattle.floor_histories.specs.GicImap.declared.map.Reg.{Reg as ItsReg}
use Rattle.floor_histories.specs.GicImap.declared.map.Reg.TheVariants.{Ctlr as ItsCtlrReg, Iidr as ItsIidr, Typer as ItsTyper, Pidr2 as ItsPidr2}
use Rattle.floor_histories.specs.GicImap.declared.map.RegRef.{RegRef as ItsRef}
use Rattle.floor_histories.specs.GicImap.declared.map.RegRef.TheVariants.{Plain as ItsPlain, Reserved as ItsReserved}
use Rattle.floor_histories.specs.Calls.{is_good_op, is_good_event, Event, Up, Down, ItsBegin, Moment, Operation, Access, Device, Place, its_written, takes_its as takes, takes_turn, its_events, its_starts, access_events, access_value, device_events, queue_places, Cbaser, Happened, Makes, IsPlainCall, IsCall, IsDeviceCall, IsAccessCall, IsItsWrite, read_answer, access_places, device_places, HappensFreely, has_place, View, is_its_enabled, Enable, Beside, MakesPlain, MakesMsi, pended_events, sets_lpis, enabled_by, msi_raises}
use Rattle.floor_histories.specs.GicCall.declared.event.Event.TheVariants.{Raise, Read, ItsEnd}
use Rattle.floor_histories.specs.GicCall.Access.{starts_commands as register_starts}
use Rattle.floor_histories.specs.GicCall.Call.{starts_commands}
use Rattle.floor_histories.specs.GicCall.declared.event.Found.TheVariants.{Nothing}
use Rattle.floor_histories.specs.Histories.{handed_out, IdealGuest, view_of, word_at, after_events, IsQueueInOrder, IsSound, Track, Ideal, Call, IsEnded, begun, targets_in, vcpu_of, view_at, happened}
use Rattle.std.specs.Option.{option_map_or}
use Rattle.std.proofs.lemmas.List.Elements.{All-nil, All-cons, All-head, All-tail}
use Rattle.floor_histories.proofs.GicCall.CallLemmas.{IsFineView, access_valid, device_valid}
use Rattle.gic_ideal.specs.Deeds.{op_events, queued_events}
use Rattle.gic_ideal.proofs.EffectLemmas.{shape_event}
use Rattle.floor_histories.proofs.GicCall.TraceLemmas.{sets_events}
use Rattle.law_eager_is_history.specs.Moments.{reads, op_made, op_read, device_made, settled, happenings, moment_of, takes_its, started_by, out_of_turn}
use Rattle.law_eager_is_history.proofs.CourseLemmas.{state_after, state_append, AreFine, fine_append, happenings_append, call_after, call_append}
use Rattle.law_eager_is_history.proofs.FreshLemmas.{IsFreshFrom, is_no_access, quiet_then}
use Rattle.law_eager_is_history.proofs.WindowLemmas.{Targets, AreWindows, HaveHeads, heads_of, is_within, is_no_turn, call_ends, next_call, windows_after, operation_after, piece_after, maps_after, beside_with, windows_begun}
use Rattle.floor_histories.proofs.GicCall.ReadLemmas.{read_of}
use Rattle.law_eager_is_history.proofs.ReadLemmas.{is_own, HandOut, reads_state, reads_happen, reads_fine, piece_makes, words_same}
use Rattle.law_eager_is_history.proofs.EventLemmas.{is_calm, all_calm, all_of, with_guest, shape_events, settled_with}
use Rattle.law_eager_is_history.proofs.PieceLemmas.{IsNamedPiece, of_one, of_none}
use Rattle.law_eager_is_history.proofs.PlaceLemmas.{ArePlaces, access_there, device_there, set_places}
use Rattle.law_eager_is_history.proofs.QueueLemmas.{order_events}
use Rattle.law_eager_is_history.proofs.AccessLemmas.{dist_piece, redist_piece, memory_piece, enable_piece}

-- A call that goes from one guest where nothing stands to another: its events may happen, are the call, and are fresh.
pub record IsGoodCall (actor : ℕ) (operation : Operation) (events : List Event) (answer : Option ℕ) (guest next : IdealGuest) : Type 0 where
  pub fine : AreFine actor (settled guest) events
  pub leaves : state_after actor events (settled guest) ≡ settled next
  pub shape : next.shape ≡ guest.shape
  pub order : IsQueueInOrder guest → IsQueueInOrder next
  pub ended : IsEnded guest.shape actor (call_after actor events (settled guest) (begun (settled guest) operation)) answer
  pub fresh : (early : Track) (late : List Moment) → early.leaving ≡ [] → ((later : Track) → later.leaving ≡ [] → IsFreshFrom (state_after actor events (settled guest)) later late)
      → IsFreshFrom (settled guest) early (map (moment_of actor) (happenings actor events (settled guest)) ++ late)

-- what holds of each read holds of all
pub reads_all : (test : Event → Bool) (places : List Place) → ((place : Place) → IsTrue (test (Read place))) → IsTrue (list_all test (reads places))
reads_all test [] each = refl
reads_all test (place ∷ places) each = and_from (test (Read place)) (list_all test (reads places)) (each place) (reads_all test places each)

-- the happenings of a call that makes some events, reads, and goes on
opened_happen : (actor : ℕ) (opens : List Event) (places : List Place) (named : List Event) (state : Ideal)
    → happenings actor (opens ++ (reads places ++ named)) state ≡ happenings actor opens state ++ (map (read_of (view_at (state_after actor opens state))) places ++ happenings actor named (state_after actor opens state))
opened_happen actor opens places named state =
    let next = state_after actor opens state in
    happenings_append actor opens (reads places ++ named) state
    ∙ ap (λ xs. happenings actor opens state ++ xs)
    (happenings_append actor (reads places) named next ∙ ap (λ xs. xs ++ happenings actor named (state_after actor (reads places) next)) (reads_happen actor places next)
    ∙ ap (λ s. map (read_of (view_at next)) places ++ happenings actor named s) (reads_state actor places next))

-- a call that reads after its first events
pub good_call :
    (actor : ℕ) (operation : Operation) (opens : List Event) (places : List Place) (named : List Event) (answer : Option ℕ) (guest next : IdealGuest) (maps : Maps) (t : Targets) (firsts : List Targets) → next.shape ≡ guest.shape → (IsQueueInOrder guest → IsQueueInOrder next)
    → ArePlaces (state_after actor opens (settled guest)).guest.shape places → AreFine actor (settled guest) opens → AreFine actor (state_after actor opens (settled guest)) named → state_after actor named (state_after actor opens (settled guest)) ≡ settled next
    → IsTrue (list_all is_no_access opens) → IsTrue (list_all is_no_access named)
    → HaveHeads (call_after actor named (state_after actor opens (settled guest)) (call_after actor (reads places) (state_after actor opens (settled guest)) (call_after actor opens (settled guest) (begun (settled guest) operation)))) t firsts
    → (call_after actor named (state_after actor opens (settled guest)) (call_after actor (reads places) (state_after actor opens (settled guest)) (call_after actor opens (settled guest) (begun (settled guest) operation)))).maps ≡ maps
    → IsCall guest.shape (beside_with maps t firsts) (vcpu_of guest.shape actor) operation
    (happenings actor opens (settled guest) ++ (map (read_of (view_at (state_after actor opens (settled guest)))) places ++ happenings actor named (state_after actor opens (settled guest)))) answer
    → IsGoodCall actor operation (opens ++ (reads places ++ named)) answer guest next
good_call actor operation opens places named answer guest next maps t firsts shape order there fine_opens fine leaves quiet_opens quiet windows maps_are is =
    let state = settled guest in
    let middle = state_after actor opens state in
    let rest = reads places ++ named in
    let events = opens ++ rest in
    let call = begun state operation in
    let open_call = call_after actor opens state call in
    let last = call_after actor events state call in
    let still : state_after actor (reads places) middle ≡ middle = reads_state actor places middle in
    let after : last ≡ call_after actor named middle (call_after actor (reads places) middle open_call) =
    call_append actor opens rest state call ∙ call_append actor (reads places) named middle open_call ∙ ap (λ s. call_after actor named s (call_after actor (reads places) middle open_call)) still in
    record {
      fine = fine_append actor opens rest state fine_opens (fine_append actor (reads places) named middle (reads_fine actor places middle there) (subst (λ s. AreFine actor s named) (sym still) fine));
      leaves = state_append actor opens rest state ∙ state_append actor (reads places) named middle ∙ ap (state_after actor named) still ∙ leaves;
      shape = shape;
      order = order;
      ended = call_ends guest.shape actor last operation (happenings actor opens state ++ (map (read_of (view_at middle)) places ++ happenings actor named middle)) maps t firsts answer (operation_after actor events state call)
          (piece_after actor events state call ∙ opened_happen actor opens places named state) (ap (λ c. c.maps) after ∙ maps_are) (subst (λ c. HaveHeads c t firsts) (sym after) windows) is;
      fresh = λ early late none rest_fresh. quiet_then actor events state early late (all_of is_no_access opens rest quiet_opens (all_of is_no_access (reads places) named (reads_all is_no_access places (λ place. refl)) quiet)) none rest_fresh;
    }

abbrev pub no_maps : Maps
no_maps = record { devices = []; events = []; collections = [] }

-- the windows of a call as it begins, and after its reads
pub begun_windows : (guest : IdealGuest) (operation : Operation) → AreWindows (begun (settled guest) operation) (targets_in (settled guest)) []
begun_windows guest operation = record { place = refl; commands = refl; heads = λ id. refl }

pub read_windows : (actor : ℕ) (places : List Place) (state : Ideal) (call : Call) (t : Targets) (firsts : List Targets) → AreWindows call t firsts → AreWindows (call_after actor (reads places) state call) t firsts
read_windows actor places state call t firsts are = windows_after actor (reads places) state call t firsts (reads_all is_within places (λ place. refl)) are

pub read_maps : (actor : ℕ) (places : List Place) (state : Ideal) (call : Call) → (call_after actor (reads places) state call).maps ≡ call.maps
read_maps actor places state call = maps_after actor (reads places) state call (reads_all is_no_turn places (λ place. refl))

-- a call that does not take the ITS, and reads first
pub named_call :
    (actor : ℕ) (operation : Operation) (places : List Place) (named : List Event) (answer : Option ℕ) (guest : IdealGuest) → ArePlaces guest.shape places → IsNamedPiece actor guest named
    → IsCall guest.shape (beside_with no_maps (targets_in (settled guest)) []) (vcpu_of guest.shape actor) operation (map (read_of (view_of guest)) places ++ happenings actor named (settled guest)) answer
    → IsGoodCall actor operation (reads places ++ named) answer guest (after_events named guest)
named_call actor operation places named answer guest there piece is =
    let state = settled guest in
    let call = begun state operation in
    let read = call_after actor (reads places) state call in
    good_call actor operation [] places named answer guest (after_events named guest) no_maps (targets_in state) [] (shape_events named guest) piece.order there tt piece.fine
    (piece.leaves ∙ settled_with guest (after_events named guest) (shape_events named guest)) refl piece.no_access (piece.windows read (read_windows actor places state call (targets_in state) [] (begun_windows guest operation)))
    (maps_after actor named state read piece.no_turn ∙ read_maps actor places state call) is

-- Accesses.

pub is_vcpu : (shape : GuestShape) (vcpu : ℕ) → vcpu < shape.vcpus → vcpu_of shape vcpu ≡ Some vcpu
is_vcpu shape vcpu h = ap (λ b. cond b (Some vcpu) None) (is_under vcpu shape.vcpus h)

pub fine_view : (guest : IdealGuest) → IsSound guest → IsFineView guest.shape (view_of guest)
fine_view guest sound = record { records = λ key there. (sound.records key there).valid; offset = record { place = sound.place; within = sound.offset }; maps = sound.maps }

-- an access of the ITS that does not take it makes no event, and starts no command
untaken_events : (shape : GuestShape) (view : View) (ref : ItsRef) (write : Option ℕ) → takes_turn shape ref write ≡ false → its_events shape view ref write ≡ []
untaken_events shape view (ItsPlain reg half) None h = refl
untaken_events shape view ItsReserved write h = refl
untaken_events shape view (ItsPlain reg half) (Some value) h = of (has_lpis shape) reg h
  where
    of : (b : Bool) (reg : ItsReg) → (b && takes reg) ≡ false → cond b (its_written view reg half value) [] ≡ []
    of false reg h = refl
    of true ItsCtlrReg h = absurd (cc)
    of true CbaserReg h = absurd (cc)
    of true CwriterReg h = absurd (cc)
    of true Baser0Reg h = absurd (cc)
    of true Baser1Reg h = absurd (cc)
    of true ItsIidr h = refl
    of true ItsTyper h = refl
    of true Creadr h = refl
    of true ItsPidr2 h = refl

untaken_starts : (shape : GuestShape) (view : View) (ref : ItsRef) (write : Option ℕ) → takes_turn shape ref write ≡ false → its_starts shape view ref write ≡ false
untaken_starts shape view (ItsPlain reg half) None h = refl
untaken_starts shape view ItsReserved write h = refl
untaken_starts shape view (ItsPlain reg half) (Some value) h = of (has_lpis shape) reg h
  where
    of : (b : Bool) (reg : ItsReg) → (b && takes reg) ≡ false → (b && register_starts view reg half value) ≡ false
    of false reg h = refl
    of true ItsCtlrReg h = absurd (cc)
    of true CbaserReg h = absurd (cc)
    of true CwriterReg h = absurd (cc)
    of true Baser0Reg h = absurd (cc)
    of true Baser1Reg h = absurd (cc)
    of true ItsIidr h = refl
    of true ItsTyper h = refl
    of true Creadr h = refl
    of true ItsPidr2 h = refl

no_starts : (shape : GuestShape) (view : View) (frame : Frame) (offset size : ℕ) (write : Option ℕ) → takes_its shape frame offset size write ≡ false → starts_commands shape view frame offset size write ≡ false
no_starts shape view Dist offset size write h = refl
no_starts shape view (Redist vcpu) offset size write h = refl
no_starts shape view Memory offset size write h = refl
no_starts shape view Its offset size write h = untaken_starts shape view (its_decoded offset size) write h

plain_access : (shape : GuestShape) (beside : Beside) (vcpu : ℕ) (frame : Frame) (offset size : ℕ) (write : Option ℕ) (piece : List Happened) (answer : Option ℕ) → takes_its shape frame offset size write ≡ false
    → IsPlainCall shape beside vcpu frame offset size write piece answer → IsAccessCall shape beside vcpu (Mem frame offset size write) piece answer
plain_access shape beside vcpu Dist offset size write piece answer h is = is
plain_access shape beside vcpu (Redist v) offset size write piece answer h is = is
plain_access shape beside vcpu Memory offset size write piece answer h is = is
plain_access shape beside vcpu Its offset size None piece answer h is = is
plain_access shape beside vcpu Its offset size (Some value) piece answer h is =
    subst (λ b. IsItsWrite b shape beside vcpu offset size value piece answer) (sym h) is

module _ (guest : IdealGuest) (sound : IsSound guest) (vcpu : ℕ) (there : vcpu < guest.shape.vcpus) where
  access_piece : (frame : Frame) (offset size : ℕ) (write : Option ℕ) → takes_its guest.shape frame offset size write ≡ false → IsTrue (is_good_op guest.shape (Mem frame offset size write)) → IsNamedPiece vcpu guest (access_events guest.shape (view_of guest) frame offset size write)
  access_piece Dist offset size write h good = dist_piece vcpu guest sound (dist_decoded offset size) write (access_valid guest.shape (view_of guest) Dist offset size write sound.shape (fine_view guest sound) good)
  access_piece (Redist v) offset size write h good = redist_piece vcpu guest sound v (redist_decoded offset size) write (access_valid guest.shape (view_of guest) (Redist v) offset size write sound.shape (fine_view guest sound) good)
  access_piece Memory offset size None h good = of_none vcpu guest sound
  access_piece Memory offset size (Some value) h good = memory_piece vcpu guest sound offset size value (access_valid guest.shape (view_of guest) Memory offset size (Some value) sound.shape (fine_view guest sound) good)
  access_piece Its offset size write h good = subst (IsNamedPiece vcpu guest) (sym (untaken_events guest.shape (view_of guest) (its_decoded offset size) write h)) (of_none vcpu guest sound)

  -- one that sets EnableLPIs reads the pending table after that
  enable_call : (v offset size : ℕ) (write : Option ℕ) → sets_lpis guest.shape (redist_decoded offset size) write ≡ true → IsTrue (is_good_op guest.shape (Mem (Redist v) offset size write))
      → IsGoodCall vcpu (Access (Mem (Redist v) offset size write)) (Enable v ∷ reads (access_places guest.shape (view_of guest) (Redist v) offset size write) ++ pended_events guest.shape (view_of guest) v)
      (read_answer write (access_value guest.shape (view_of guest) (Redist v) offset size)) guest (after_events (access_events guest.shape (view_of guest) (Redist v) offset size write) guest)
  enable_call v offset size write sets good =
      let shape = guest.shape in
      let view = view_of guest in
      let state = settled guest in
      let places = access_places shape view (Redist v) offset size write in
      let named = pended_events shape view v in
      let op = Access (Mem (Redist v) offset size write) in
      let answer = read_answer write (access_value shape view (Redist v) offset size) in
      let first = happened vcpu (Enable v) state in
      let events : access_events shape view (Redist v) offset size write ≡ Enable v ∷ named = sets_events shape view v (redist_decoded offset size) write sets in
      let is_enable = enable_piece vcpu guest sound v (subst (All (HappensFreely shape)) events (access_valid shape view (Redist v) offset size write sound.shape (fine_view guest sound) good)) in
      let piece = is_enable.piece in
      let beside = beside_with no_maps (targets_in state) [] in
      let begin : List Happened = happenings vcpu (Enable v ∷ []) state in
      let rest : List Happened = map (read_of (view_at first)) places ++ happenings vcpu named first in
      let own : IsTrue (list_all is_own named) = piece.own in
      let same : map (read_of (view_at first)) places ≡ map (read_of view) places = words_same (view_at first) view places (λ word. refl) (set_places shape view v (redist_decoded offset size) write sets) in
      let made : MakesPlain (Some v) shape view vcpu (Redist v) offset size write (begin ++ rest) =
      record {
        begin = begin;
        rest = rest;
        split = refl;
        begun = piece_makes (Some vcpu) vcpu view [] (Enable v ∷ []) state [] refl (refl, tt);
        made = subst (λ xs. Makes (Some vcpu) view named places [] (xs ++ happenings vcpu named first)) (sym same) (piece_makes (Some vcpu) vcpu view places named first [] own piece.hands.1);
      } in
      let is : IsPlainCall shape beside vcpu (Redist v) offset size write (begin ++ rest) answer =
      record { view = view; targets = refl; made = subst (λ b. MakesPlain (cond b (Some v) None) shape view vcpu (Redist v) offset size write (begin ++ rest)) (sym sets) made; answers = refl } in
      let next = after_events (Enable v ∷ named) guest in
      subst (λ es. IsGoodCall vcpu op (Enable v ∷ reads places ++ named) answer guest (after_events es guest)) (sym events)
      (good_call vcpu op (Enable v ∷ []) places named answer guest next no_maps (targets_in state) [] (shape_events (Enable v ∷ named) guest) piece.order
      (subst (λ s. ArePlaces s places) (sym (shape_event (Enable v) guest)) (access_there shape view (Redist v) offset size write sound.shape good)) (piece.fine.0, tt) piece.fine.1
      (piece.leaves ∙ settled_with guest next (shape_events (Enable v ∷ named) guest)) refl piece.no_access (is_enable.windows places (begun state op) (begun_windows guest op))
      (maps_after vcpu named first (call_after vcpu (reads places) first (next_call state vcpu (Enable v) (begun state op))) piece.no_turn ∙ read_maps vcpu places first (next_call state vcpu (Enable v) (begun state op)))
      (subst (λ v. IsCall shape beside v op (begin ++ rest) answer) (sym (is_vcpu shape vcpu there)) is))

  -- any other reads first
  first_call : (frame : Frame) (offset size : ℕ) (write : Option ℕ) → takes_its guest.shape frame offset size write ≡ false → enabled_by guest.shape frame offset size write ≡ None → IsTrue (is_good_op guest.shape (Mem frame offset size write))
      → IsGoodCall vcpu (Access (Mem frame offset size write)) (reads (access_places guest.shape (view_of guest) frame offset size write) ++ access_events guest.shape (view_of guest) frame offset size write)
      (read_answer write (access_value guest.shape (view_of guest) frame offset size)) guest (after_events (access_events guest.shape (view_of guest) frame offset size write) guest)
  first_call frame offset size write h none good =
      let view = view_of guest in
      let places = access_places guest.shape view frame offset size write in
      let named = access_events guest.shape view frame offset size write in
      let op = Access (Mem frame offset size write) in
      let piece = access_piece frame offset size write h good in
      let made : List Happened = map (read_of view) places ++ happenings vcpu named (settled guest) in
      let answer = read_answer write (access_value guest.shape view frame offset size) in
      let beside = beside_with no_maps (targets_in (settled guest)) [] in
      let is : IsPlainCall guest.shape beside vcpu frame offset size write made answer =
      record {
        view = view;
        targets = refl;
        made = subst (λ o. MakesPlain o guest.shape view vcpu frame offset size write made) (sym none) (piece_makes (Some vcpu) vcpu view places named (settled guest) [] piece.own piece.hands);
        answers = refl;
      } in
      named_call vcpu op places named answer guest (access_there guest.shape view frame offset size write sound.shape good) piece
      (subst (λ v. IsCall guest.shape beside v op made answer) (sym (is_vcpu guest.shape vcpu there)) (plain_access guest.shape beside vcpu frame offset size write made answer h is))

  out_of_turn_call : (frame : Frame) (offset size : ℕ) (write : Option ℕ) → takes_its guest.shape frame offset size write ≡ false → IsTrue (is_good_op guest.shape (Mem frame offset size write))
      → IsGoodCall vcpu (Access (Mem frame offset size write))
      (out_of_turn (enabled_by guest.shape frame offset size write) guest.shape (view_of guest) (access_places guest.shape (view_of guest) frame offset size write) (access_events guest.shape (view_of guest) frame offset size write))
      (read_answer write (access_value guest.shape (view_of guest) frame offset size)) guest (after_events (access_events guest.shape (view_of guest) frame offset size write) guest)
  out_of_turn_call Dist offset size write h good = first_call Dist offset size write h refl good
  out_of_turn_call Its offset size write h good = first_call Its offset size write h refl good
  out_of_turn_call Memory offset size write h good = first_call Memory offset size write h refl good
  out_of_turn_call (Redist v) offset size write h good = of (sets_lpis guest.shape (redist_decoded offset size) write) refl
    where
      of : (b : Bool) → sets_lpis guest.shape (redist_decoded offset size) write ≡ b
          → IsGoodCall vcpu (Access (Mem (Redist v) offset size write))
          (out_of_turn (cond b (Some v) None) guest.shape (view_of guest) (access_places guest.shape (view_of guest) (Redist v) offset size write) (access_events guest.shape (view_of guest) (Redist v) offset size write))
          (read_answer write (access_value guest.shape (view_of guest) (Redist v) offset size)) guest (after_events (access_events guest.shape (view_of guest) (Redist v) offset size write) guest)
      of true sets = enable_call v offset size write sets good
      of false sets = first_call (Redist v) offset size write h (ap (λ b. cond b (Some v) None) sets) good

  pub plain_call : (frame : Frame) (offset size : ℕ) (write : Option ℕ) → takes_its guest.shape frame offset size write ≡ false → IsTrue (is_good_op guest.shape (Mem frame offset size write))
      → IsGoodCall vcpu (Access (Mem frame offset size write)) (op_made (Mem frame offset size write) guest vcpu) (op_read (Mem frame offset size write) guest vcpu) guest (after_events (op_events (Mem frame offset size write) guest vcpu) guest)
  plain_call frame offset size write h good =
      let view = view_of guest in
      let places = access_places guest.shape view frame offset size write in
      let named = access_events guest.shape view frame offset size write in
      let op = Access (Mem frame offset size write) in
      let answer = read_answer write (access_value guest.shape view frame offset size) in
      let starts = starts_commands guest.shape view frame offset size write in
      let changed = after_events named guest in
      let queued = queued_events (queue_places (word_at changed Cbaser)) changed in
      let out = out_of_turn (enabled_by guest.shape frame offset size write) guest.shape view places named in
      let call : IsGoodCall vcpu op out answer guest changed = out_of_turn_call frame offset size write h good in
      let all : op_made (Mem frame offset size write) guest vcpu ≡ out = ap (λ b. cond b (ItsBegin ∷ reads places ++ (named ++ started_by starts changed ++ ItsEnd ∷ [])) out) h in
      let same : after_events (named ++ cond starts queued []) guest ≡ changed =
      ap (λ b. after_events (named ++ cond b queued []) guest) (no_starts guest.shape view frame offset size write h) ∙ ap (λ es. after_events es guest) (append-nil named) in
      subst (λ es. IsGoodCall vcpu op es answer guest (after_events (named ++ cond starts queued []) guest)) (sym all)
      (subst (λ g. IsGoodCall vcpu op out answer guest g) (sym same) call)

-- Devices.

pub is_device : (shape : GuestShape) (device : ℕ) → vcpu_of shape (shape.vcpus + device) ≡ None
is_device shape device = ap (λ b. cond b (Some (shape.vcpus + device)) None) (past shape.vcpus device)
  where
    past : (a b : ℕ) → nat_lt (a + b) a ≡ false
    past a b = grind (arith, common_steps)

module _ (guest : IdealGuest) (sound : IsSound guest) (actor : ℕ) (no_vcpu : vcpu_of guest.shape actor ≡ None) where
  -- a message or a wire: one event, whatever the ITS has mapped
  one_call : (op : DeviceOp) (event : Event) → IsNamedPiece actor guest (event ∷ []) → IsTrue (is_own event) → handed_out (settled guest) event ≡ Nothing
      → IsDeviceCall (beside_with no_maps (targets_in (settled guest)) []) op (happenings actor (event ∷ []) (settled guest)) None
      → IsGoodCall actor (Device op) (event ∷ []) None guest (after_events (event ∷ []) guest)
  one_call op event piece own nothing is =
      named_call actor (Device op) [] (event ∷ []) None guest (All-nil (λ place. IsTrue (has_place guest.shape place))) piece
      (subst (λ v. IsCall guest.shape (beside_with no_maps (targets_in (settled guest)) []) v (Device op) (happenings actor (event ∷ []) (settled guest)) None) (sym no_vcpu) is)

  -- the ITS is taken, maybe an LPI raised, and it is given back
  msi_call : (number event : ℕ) (raises : List Event) → msi_raises (view_of guest) number event ≡ raises → AreFine actor (record (settled guest) { has_its = Some actor }) (raises ++ ItsEnd ∷ [])
      → state_after actor (raises ++ ItsEnd ∷ []) (record (settled guest) { has_its = Some actor }) ≡ with_guest (settled guest) (after_events raises guest) → after_events (ItsBegin ∷ raises ++ ItsEnd ∷ []) guest ≡ after_events raises guest
      → IsTrue (list_all is_calm raises) → HandOut actor (view_of guest) (record (settled guest) { has_its = Some actor }) raises → (IsQueueInOrder guest → IsQueueInOrder (after_events raises guest))
      → IsGoodCall actor (Device (Msi number event)) (ItsBegin ∷ reads (device_places (Msi number event)) ++ (raises ++ ItsEnd ∷ [])) None guest (after_events (ItsBegin ∷ raises ++ ItsEnd ∷ []) guest)
  msi_call number event raises same fine leaves effect calm hands order =
      let op = Msi number event in
      let state = settled guest in
      let view = view_of guest in
      let places = device_places op in
      let turn : Ideal = record state { has_its = Some actor } in
      let rest = raises ++ ItsEnd ∷ [] in
      let own = all_calm raises calm in
      let are = all_calm rest (all_of is_calm raises (ItsEnd ∷ []) calm refl) in
      let firsts = targets_in state ∷ [] in
      let beside = beside_with guest.tables (targets_in state) firsts in
      let begin : List Happened = happenings actor (ItsBegin ∷ []) state in
      let raising : List Happened = map (read_of view) places ++ happenings actor raises turn in
      let last : List Happened = happenings actor (ItsEnd ∷ []) (state_after actor raises turn) in
      let made : List Happened = begin ++ (map (read_of view) places ++ happenings actor rest turn) in
      let split : made ≡ (begin ++ raising) ++ last =
      ap (λ xs. begin ++ xs) (ap (λ xs. map (read_of view) places ++ xs) (happenings_append actor raises (ItsEnd ∷ []) turn) ∙ sym (append_assoc (map (read_of view) places) (happenings actor raises turn) last)) in
      let makes : MakesMsi view number event made =
      record {
        raising = begin ++ raising;
        last = last;
        split = split;
        raised = record {
          begin = begin;
          rest = raising;
          split = refl;
          begun = piece_makes None actor view [] (ItsBegin ∷ []) state [] refl (refl, tt);
          made = subst (λ es. Makes None view es places [] raising) (sym same) (piece_makes None actor view places raises turn [] own.own hands);
        };
        ended = piece_makes None actor view [] (ItsEnd ∷ []) (state_after actor raises turn) [] refl (refl, tt);
      } in
      let is : IsDeviceCall beside op made None = record { view = view; maps = refl; made = inl makes; answers = refl } in
      let taken = next_call state actor ItsBegin (begun state (Device op)) in
      let windows : AreWindows taken (targets_in state) firsts = windows_begun state actor (begun state (Device op)) (targets_in state) [] (begun_windows guest (Device op)) in
      let read = call_after actor (reads places) turn taken in
      subst (λ g. IsGoodCall actor (Device op) (ItsBegin ∷ reads places ++ rest) None guest g) (sym effect)
      (good_call actor (Device op) (ItsBegin ∷ []) places rest None guest (after_events raises guest) guest.tables (targets_in state) firsts (shape_events raises guest) order (device_there guest.shape op)
      (record { can = tt; allowed = refl }, tt) fine (leaves ∙ settled_with guest (after_events raises guest) (shape_events raises guest)) refl are.no_access
      (heads_of (windows_after actor rest turn read (targets_in state) firsts are.within (read_windows actor places turn taken (targets_in state) firsts windows)))
      (maps_after actor rest turn read are.no_turn ∙ read_maps actor places turn taken)
      (subst (λ v. IsCall guest.shape beside v (Device op) made None) (sym no_vcpu) is))

  pub device_call : (op : DeviceOp) → IsTrue (is_good_event guest.shape op) → IsGoodCall actor (Device op) (device_made op guest) None guest (after_events (device_events (view_of guest) op) guest)
  device_call (Message spi) good =
      let view : View = record (view_of guest) { maps = record { devices = []; events = []; collections = [] } } in
      let piece = of_one actor guest sound (Raise (Spi spi)) refl refl refl (device_valid guest.shape (view_of guest) (Message spi) sound.maps good) refl in
      one_call (Message spi) (Raise (Spi spi)) piece refl refl
      (record { view = view; maps = refl; made = piece_makes None actor view [] (Raise (Spi spi) ∷ []) (settled guest) [] refl (refl, tt); answers = refl })
  device_call (Wire key true) good =
      let view : View = record (view_of guest) { maps = record { devices = []; events = []; collections = [] } } in
      let piece = of_one actor guest sound (Up key) refl refl refl (device_valid guest.shape (view_of guest) (Wire key true) sound.maps good) refl in
      one_call (Wire key true) (Up key) piece refl refl
      (record { view = view; maps = refl; made = piece_makes None actor view [] (Up key ∷ []) (settled guest) [] refl (refl, tt); answers = refl })
  device_call (Wire key false) good =
      let view : View = record (view_of guest) { maps = record { devices = []; events = []; collections = [] } } in
      let piece = of_one actor guest sound (Down key) refl refl refl (device_valid guest.shape (view_of guest) (Wire key false) sound.maps good) refl in
      one_call (Wire key false) (Down key) piece refl refl
      (record { view = view; maps = refl; made = piece_makes None actor view [] (Down key ∷ []) (settled guest) [] refl (refl, tt); answers = refl })
  device_call (Msi number event) good = of (translated (view_of guest).maps (is_its_enabled (view_of guest)) number event) refl (device_valid guest.shape (view_of guest) (Msi number event) sound.maps good)
    where
      ends : IsTrue (is_number actor (Some actor))
      ends = eq-eqb actor actor refl

      of : (o : Option ℕ) → translated (view_of guest).maps (is_its_enabled (view_of guest)) number event ≡ o → All (HappensFreely guest.shape) (device_events (view_of guest) (Msi number event))
          → IsGoodCall actor (Device (Msi number event)) (device_made (Msi number event) guest) None guest (after_events (device_events (view_of guest) (Msi number event)) guest)
      of None e can =
          let same : msi_raises (view_of guest) number event ≡ [] = ap (λ o. option_map_or (λ id. Raise (Lpi id) ∷ []) o []) e in
          subst (λ es. IsGoodCall actor (Device (Msi number event)) (ItsBegin ∷ reads (device_places (Msi number event)) ++ (es ++ ItsEnd ∷ [])) None guest (after_events (ItsBegin ∷ es ++ ItsEnd ∷ []) guest)) (sym same)
          (msi_call number event [] same (record { can = tt; allowed = ends }, tt) refl refl refl tt (λ order. order))
      of (Some id) e can =
          let same : msi_raises (view_of guest) number event ≡ Raise (Lpi id) ∷ [] = ap (λ o. option_map_or (λ id. Raise (Lpi id) ∷ []) o []) e in
          let free = subst (λ es. All (HappensFreely guest.shape) (ItsBegin ∷ es ++ ItsEnd ∷ [])) same can in
          let there : HappensFreely guest.shape (Raise (Lpi id)) = All-head (HappensFreely guest.shape) (Raise (Lpi id)) (ItsEnd ∷ []) (All-tail (HappensFreely guest.shape) ItsBegin (Raise (Lpi id) ∷ ItsEnd ∷ []) free) in
          subst (λ es. IsGoodCall actor (Device (Msi number event)) (ItsBegin ∷ reads (device_places (Msi number event)) ++ (es ++ ItsEnd ∷ [])) None guest (after_events (ItsBegin ∷ es ++ ItsEnd ∷ []) guest)) (sym same)
          (msi_call number event (Raise (Lpi id) ∷ []) same (record { can = there; allowed = refl }, (record { can = tt; allowed = ends }, tt)) refl refl refl (refl, tt)
          (order_events guest.shape (Raise (Lpi id) ∷ []) guest refl sound.words (All-cons (HappensFreely guest.shape) (Raise (Lpi id)) [] there (All-nil (HappensFreely guest.shape))) refl))
