-- Writes of registers of the ITS, which take it, with the commands that they start.
use Rattle.std.proofs.Common.{◌≡◌, ℕ, ◌+◌, ◌<◌, ◌%◌, Bool, true, false, not, ◌&&◌, cond, IsTrue, All, List, [], ◌∷◌, ◌++◌, map, length, Some, None, refl, sym, ap, ◌∙◌, subst, slice_index_or, arith}
use Rattle.std.specs.List.{list_all}
use Rattle.std.proofs.lemmas.Bool.{eq-eqb}
use Rattle.std.proofs.lemmas.List.{append_assoc, append-nil, length-set}
use Rattle.floor_histories.proofs.GicFrame.TestLemmas.{under}
use Rattle.floor_histories.specs.Words.{Its, Mem, GuestShape, bit_of, is_number}
use Rattle.floor_histories.specs.Registers.{Half, has_lpis, half_written, Cbaser as CbaserReg, Cwriter as CwriterReg, Creadr, Baser0 as Baser0Reg, Baser1 as Baser1Reg, enabled_in, cbaser_bits, baser_bits, queue_bytes, queue_offset, retries}
use Rattle.floor_histories.specs.GicImap.declared.map.Reg.{Reg as ItsReg}
use Rattle.floor_histories.specs.GicImap.declared.map.Reg.TheVariants.{Ctlr as ItsCtlrReg, Iidr as ItsIidr, Typer as ItsTyper, Pidr2 as ItsPidr2}
use Rattle.floor_histories.specs.GicImap.declared.map.RegRef.{RegRef as ItsRef}
use Rattle.floor_histories.specs.GicImap.declared.map.RegRef.TheVariants.{Plain as ItsPlain, Reserved as ItsReserved}
use Rattle.floor_histories.specs.GicImap.Map.{decoded as its_decoded}
use Rattle.floor_histories.specs.Calls.{has_plain, place_of_plain, plain_count, PlainWord, ItsCtlr, Cbaser, Cwriter, Baser0, Baser1, is_good_op, Event, Put, ItsBegin, Access, Runs, unless_enabled, is_in_queue, cwriter_events, its_written, takes_turn, its_events, access_events, queue_places, takes_command, Happened, Beside, HaveSameIts, AreStarted, IsItsCall, IsItsWrite, IsCall, its_written_by, access_places, HappensFreely, View, is_its_enabled, command_targets, enabled_by}
use Rattle.floor_histories.specs.GicCall.declared.event.Event.TheVariants.{ItsEnd, Queue}
use Rattle.floor_histories.specs.GicCall.declared.event.Found.TheVariants.{Word as FoundWord}
use Rattle.floor_histories.specs.GicCall.Call.{starts_commands}
use Rattle.floor_histories.proofs.GicCall.CallLemmas.{access_valid}
use Rattle.floor_histories.specs.Histories.{IdealGuest, view_of, word_at, with_word, with_queue, after_events, after_queued, IsQueueInOrder, IsSound, Call, targets_in, begun}
use Rattle.floor_histories.proofs.IdealGuests.QueueLemmas.{all_run_dry}
use Rattle.gic_ideal.specs.Deeds.{op_events}
use Rattle.gic_ideal.proofs.SoundEvents.{sound_events}
use Rattle.gic_ideal.proofs.StepLemmas.{free_follow, op_is_events}
use Rattle.law_eager_is_history.specs.Moments.{reads, op_made, settled, happenings, started_by, out_of_turn}
use Rattle.law_eager_is_history.proofs.CourseLemmas.{state_after, state_append, AreFine, fine_append, happenings_append, call_after, call_append}
use Rattle.law_eager_is_history.proofs.FreshLemmas.{is_no_access}
use Rattle.law_eager_is_history.proofs.WindowLemmas.{Targets, no_target, AreWindows, heads_of, is_no_turn, beside_of, next_call, windows_after, maps_after, windows_begun}
use Rattle.floor_histories.proofs.GicCall.ReadLemmas.{read_of}
use Rattle.law_eager_is_history.proofs.ReadLemmas.{HandOut, piece_makes}
use Rattle.law_eager_is_history.proofs.EventLemmas.{is_plain, is_calm, all_calm, all_of, plain_state, plain_are_fine, shape_events, settled_with}
use Rattle.law_eager_is_history.proofs.PlaceLemmas.{access_there}
use Rattle.law_eager_is_history.proofs.CallLemmas.{IsGoodCall, good_call, is_vcpu, fine_view, begun_windows, read_windows, read_maps}
use Rattle.law_eager_is_history.proofs.QueueLemmas.{word_kept, word_new, events_known, keeps_word, order_put}
use Rattle.law_eager_is_history.proofs.OrderLemmas.{order_commands}
use Rattle.law_eager_is_history.proofs.CommandLemmas.{turn, turn_quiet, later_targets, views_of, commands_state, commands_fine, commands_no_access, commands_no_turn, commands_windows, are_commands}

-- The events of a register.

-- in a turn they are plain, hand out what the guest had before, and leave what the LPIs are for and the order of the queue's places
pub record IsTurnPiece (n actor : ℕ) (guest : IdealGuest) (events : List Event) : Type 0 where
  pub plain : IsTrue (list_all (is_plain true) events)
  pub calm : IsTrue (list_all is_calm events)
  pub hands : HandOut actor (view_of guest) (turn n actor guest) events
  pub targets : (view_of (after_events events guest)).targets ≡ (view_of guest).targets
  pub order : IsQueueInOrder guest → IsQueueInOrder (after_events events guest)

module _ (n actor : ℕ) (guest : IdealGuest) (sound : IsSound guest) where
  none_piece : IsTurnPiece n actor guest []
  none_piece = record { plain = refl; calm = refl; hands = tt; targets = refl; order = λ order. order }

  put_piece : (word : PlainWord) (value : ℕ) → IsTrue (has_plain guest.shape word) → IsTrue (keeps_word word) → IsTurnPiece n actor guest (Put word value ∷ [])
  put_piece word value here keeps = record { plain = refl; calm = refl; hands = (refl, tt); targets = refl; order = order_put guest word value sound.words here keeps }

  unless_piece : (word : PlainWord) (value : ℕ) → IsTrue (has_plain guest.shape word) → IsTrue (keeps_word word) → IsTurnPiece n actor guest (unless_enabled (view_of guest) (Put word value ∷ []))
  unless_piece word value here keeps = of (is_its_enabled (view_of guest))
    where
      of : (b : Bool) → IsTurnPiece n actor guest (cond b [] (Put word value ∷ []))
      of true = none_piece
      of false = put_piece word value here keeps

  -- the queue starts anew
  cbaser_piece : (value : ℕ) → IsTurnPiece n actor guest (unless_enabled (view_of guest) (Put Cwriter 0 ∷ Queue 0 Runs ∷ Put Cbaser value ∷ []))
  cbaser_piece value = of (is_its_enabled (view_of guest))
    where
      first : IdealGuest
      first = with_word guest Cwriter 0

      each : length (with_word guest Cwriter 0).words ≡ plain_count guest.shape
      each = length-set guest.words (place_of_plain guest.shape Cwriter) 0 ∙ sound.words

      next : IdealGuest
      next = with_queue (with_word guest Cwriter 0) 0 false

      order : IsQueueInOrder (with_word (with_queue (with_word guest Cwriter 0) 0 false) Cbaser value)
      order =
          let last = with_word (with_queue (with_word guest Cwriter 0) 0 false) Cbaser value in
          let writer : word_at last Cwriter ≡ 0 =
          word_kept (with_queue (with_word guest Cwriter 0) 0 false) Cbaser Cwriter value each refl refl (omega arith) (λ e. absurd (omega (arith, e)))
          ∙ word_new guest Cwriter 0 sound.words refl (omega arith) in
          record { next = some (word_at last Cbaser); writer = subst (λ w. w < queue_bytes (word_at last Cbaser)) (sym writer) (some (word_at last Cbaser)); place = ap (λ w. w % 32) writer }
        where
          some : (cbaser : ℕ) → 0 < queue_bytes cbaser
          some cbaser = omega arith

      of : (b : Bool) → IsTurnPiece n actor guest (cond b [] (Put Cwriter 0 ∷ Queue 0 Runs ∷ Put Cbaser value ∷ []))
      of true = none_piece
      of false =
          record {
            plain = refl;
            calm = refl;
            hands = (refl, (refl, (ap FoundWord (word_kept guest Cwriter Cbaser 0 sound.words refl refl (omega arith) (λ e. absurd (omega (arith, e)))), tt)));
            targets = refl;
            order = λ old. order;
          }

  cwriter_piece : (value : ℕ) → IsTurnPiece n actor guest (cwriter_events (view_of guest) value)
  cwriter_piece value = of (is_in_queue (view_of guest) value) refl
    where
      again : Bool → List Event
      again b = cond b (Queue guest.offset Runs ∷ []) []

      written : is_in_queue (view_of guest) value ≡ true → IsQueueInOrder guest → IsQueueInOrder (with_word guest Cwriter (queue_offset value))
      written inside order =
          let next = with_word guest Cwriter (queue_offset value) in
          let cbaser : word_at next Cbaser ≡ word_at guest Cbaser = word_kept guest Cwriter Cbaser (queue_offset value) sound.words refl refl (omega arith) (λ e. absurd (omega (arith, e))) in
          let writer : word_at next Cwriter ≡ queue_offset value = word_new guest Cwriter (queue_offset value) sound.words refl (omega arith) in
          record {
            next = subst (λ w. guest.offset < queue_bytes w) (sym cbaser) order.next;
            writer = subst (λ w. w < queue_bytes (word_at next Cbaser)) (sym writer) (subst (λ w. queue_offset value < queue_bytes w) (sym cbaser) (under (queue_offset value) (queue_bytes (word_at guest Cbaser)) inside));
            place = ap (λ w. w % 32) writer ∙ whole;
          }
        where
          whole : queue_offset value % 32 ≡ 0
          whole = omega arith

      of : (b : Bool) → is_in_queue (view_of guest) value ≡ b → IsTurnPiece n actor guest (cond b (Put Cwriter (queue_offset value) ∷ cond ((view_of guest).is_stalled && retries ((view_of guest).words Cbaser) value) (Queue guest.offset Runs ∷ []) []) [])
      of false e = none_piece
      of true e = by ((view_of guest).is_stalled && retries ((view_of guest).words Cbaser) value)
        where
          by : (b : Bool) → IsTurnPiece n actor guest (Put Cwriter (queue_offset value) ∷ cond b (Queue guest.offset Runs ∷ []) [])
          by false = record { plain = refl; calm = refl; hands = (refl, tt); targets = refl; order = written e }
          by true = record { plain = refl; calm = refl; hands = (refl, (refl, tt)); targets = refl; order = λ order. let is = written e order in record { next = is.next; writer = is.writer; place = is.place } }

  pub written_piece : (reg : ItsReg) (half : Half) (value : ℕ) → IsTurnPiece n actor guest (its_written (view_of guest) reg half value)
  written_piece ItsCtlrReg half value = put_piece ItsCtlr (bit_of (enabled_in value)) refl refl
  written_piece CbaserReg half value = cbaser_piece (cbaser_bits (half_written half ((view_of guest).words Cbaser) value))
  written_piece CwriterReg half value = cwriter_piece (half_written half ((view_of guest).words Cwriter) value)
  written_piece Baser0Reg half value = unless_piece Baser0 (baser_bits (half_written half ((view_of guest).words Baser0) value)) refl refl
  written_piece Baser1Reg half value = unless_piece Baser1 (baser_bits (half_written half ((view_of guest).words Baser1) value)) refl refl
  written_piece ItsIidr half value = none_piece
  written_piece ItsTyper half value = none_piece
  written_piece Creadr half value = none_piece
  written_piece ItsPidr2 half value = none_piece

  pub register_piece : (ref : ItsRef) (value : ℕ) → IsTurnPiece n actor guest (its_events guest.shape (view_of guest) ref (Some value))
  register_piece (ItsPlain reg half) value = of (has_lpis guest.shape)
    where
      of : (b : Bool) → IsTurnPiece n actor guest (cond b (its_written (view_of guest) reg half value) [])
      of true = written_piece reg half value
      of false = none_piece
  register_piece ItsReserved value = none_piece

-- The call.

-- the vCPUs that the LPIs are for as the call begins, and after each of its commands
abbrev later_by : Bool → IdealGuest → List Targets
later_by true guest = later_targets (queue_places (word_at guest Cbaser)) guest
later_by false guest = []

abbrev views_by : Bool → IdealGuest → List View
views_by true guest = views_of (queue_places (word_at guest Cbaser)) guest
views_by false guest = []

abbrev after_started : Bool → IdealGuest → IdealGuest
after_started b guest = cond b (after_queued guest) guest

-- the commands that a write starts, or none, in the turn
record AreStartedFrom (actor : ℕ) (shape : GuestShape) (beside : Beside) (its : View) (starts : Bool) (guest : IdealGuest) : Type 0 where
  pub state : state_after actor (started_by starts guest) (turn shape.vcpus actor guest) ≡ turn shape.vcpus actor (after_started starts guest)
  pub fine : AreFine actor (turn shape.vcpus actor guest) (started_by starts guest)
  pub no_access : IsTrue (list_all is_no_access (started_by starts guest))
  pub no_turn : IsTrue (list_all is_no_turn (started_by starts guest))
  pub windows : (call : Call) (t : Targets) (firsts : List Targets) → AreWindows call t firsts → AreWindows (call_after actor (started_by starts guest) (turn shape.vcpus actor guest) call) t (firsts ++ later_by starts guest)
  pub are : AreStarted starts (Some actor) shape beside its (views_by starts guest) (happenings actor (started_by starts guest) (turn shape.vcpus actor guest))

order_started : (starts : Bool) (guest : IdealGuest) → IsSound guest → IsQueueInOrder guest → IsQueueInOrder (after_started starts guest)
order_started true guest sound order = order_commands (queue_places (word_at guest Cbaser)) guest sound order
order_started false guest sound order = order

dry_false : (b : Bool) → IsTrue (not b) → b ≡ false
dry_false true h = absurd (cc)
dry_false false h = refl

started : (actor : ℕ) (shape : GuestShape) (beside : Beside) (its : View) (starts : Bool) (guest : IdealGuest) → IsSound guest → IsQueueInOrder guest → guest.shape ≡ shape → HaveSameIts its (view_of guest)
    → ((k : ℕ) → command_targets beside (0 + k) ≡ slice_index_or ((view_of guest).targets ∷ later_by starts guest) k no_target) → AreStartedFrom actor shape beside its starts guest
started actor shape beside its false guest sound order is same targets =
    record {
      state = refl;
      fine = tt;
      no_access = refl;
      no_turn = refl;
      windows = λ call t firsts are. subst (AreWindows call t) (sym (append-nil firsts)) are;
      are = piece_makes (Some actor) actor its [] [] (turn shape.vcpus actor guest) [] refl tt;
    }
started actor shape beside its true guest sound order is same targets =
    let most = queue_places (word_at guest Cbaser) in
    record {
      state = commands_state shape.vcpus actor most guest sound;
      fine = commands_fine shape.vcpus actor most guest sound;
      no_access = commands_no_access shape.vcpus actor most guest sound;
      no_turn = commands_no_turn shape.vcpus actor most guest sound;
      windows = commands_windows shape.vcpus actor most guest sound;
      are = are_commands shape.vcpus actor most guest sound shape is beside 0 its same (dry_false (takes_command (view_of (after_queued guest))) (all_run_dry guest sound order)) targets;
    }

pub its_call :
    (guest : IdealGuest) → IsSound guest → IsQueueInOrder guest → (vcpu : ℕ) → vcpu < guest.shape.vcpus → (offset size value : ℕ) → takes_turn guest.shape (its_decoded offset size) (Some value) ≡ true → IsTrue (is_good_op guest.shape (Mem Its offset size (Some value)))
    → IsGoodCall vcpu (Access (Mem Its offset size (Some value))) (op_made (Mem Its offset size (Some value)) guest vcpu) None guest (after_events (op_events (Mem Its offset size (Some value)) guest vcpu) guest)
its_call guest sound order vcpu there offset size value takes good =
    let shape = guest.shape in
    let view = view_of guest in
    let op = Access (Mem Its offset size (Some value)) in
    let events = access_events shape view Its offset size (Some value) in
    let starts = starts_commands shape view Its offset size (Some value) in
    let places = access_places shape view Its offset size (Some value) in
    let n = shape.vcpus in
    let state = settled guest in
    let begun_turn = turn n vcpu guest in
    let changed = after_events events guest in
    let commands = started_by starts changed in
    let last = after_started starts changed in
    let piece : IsTurnPiece n vcpu guest events = register_piece n vcpu guest sound (its_decoded offset size) value in
    let are = all_calm events piece.calm in
    let can : All (HappensFreely shape) events = access_valid shape view Its offset size (Some value) sound.shape (fine_view guest sound) good in
    let sound' : IsSound changed = sound_events guest events sound (free_follow guest events can) in
    let firsts = targets_in state ∷ later_by starts changed in
    let beside = beside_of guest.tables firsts in
    let written : state_after vcpu events begun_turn ≡ turn n vcpu changed = plain_state true vcpu begun_turn (turn_quiet n vcpu guest) events guest piece.plain in
    let known : HaveSameIts (its_written_by shape view events) (view_of changed) =
    events_known true shape events guest view refl sound.words (record { ctlr = refl; cbaser = refl; cwriter = refl; offset = refl; stalled = refl; maps = refl }) piece.plain can in
    let run : AreStartedFrom vcpu shape beside (its_written_by shape view events) starts changed =
    started vcpu shape beside (its_written_by shape view events) starts changed sound' (piece.order order) (shape_events events guest) known
    (λ k. ap (command_targets beside) (omega arith) ∙ ap (λ t. slice_index_or (t ∷ later_by starts changed) k no_target) (sym piece.targets)) in
    let all = events ++ commands in
    let rest = events ++ commands ++ ItsEnd ∷ [] in
    let middle : state_after vcpu all begun_turn ≡ turn n vcpu last = state_append vcpu events commands begun_turn ∙ ap (state_after vcpu commands) written ∙ run.state in
    let ends : IsTrue (is_number vcpu (Some vcpu)) = eq-eqb vcpu vcpu refl in
    let begin = happenings vcpu (ItsBegin ∷ []) state in
    let reading : List Happened = map (read_of view) places ++ happenings vcpu events begun_turn in
    let started_are = happenings vcpu commands (turn n vcpu changed) in
    let over = happenings vcpu (ItsEnd ∷ []) (turn n vcpu last) in
    let made : List Happened = begin ++ (map (read_of view) places ++ happenings vcpu rest begun_turn) in
    let split : made ≡ (begin ++ reading) ++ started_are ++ over =
    ap (λ xs. begin ++ xs)
    (ap (λ xs. map (read_of view) places ++ xs)
    (happenings_append vcpu all (ItsEnd ∷ []) begun_turn ∙ ap (λ s. happenings vcpu all begun_turn ++ happenings vcpu (ItsEnd ∷ []) s) middle
    ∙ ap (λ xs. xs ++ over) (happenings_append vcpu events commands begun_turn ∙ ap (λ s. happenings vcpu events begun_turn ++ happenings vcpu commands s) written))
    ∙ sym (append_assoc (map (read_of view) places) (happenings vcpu events begun_turn ++ started_are) over)
    ∙ ap (λ xs. xs ++ over) (sym (append_assoc (map (read_of view) places) (happenings vcpu events begun_turn) started_are))) in
    let is : IsItsCall shape beside vcpu offset size value made None = record {
      view = view;
      maps = refl;
      views = views_by starts changed;
      register = begin ++ reading;
      commands = started_are;
      last = over;
      split = split;
      written = record {
        begin = begin;
        rest = reading;
        split = refl;
        begun = piece_makes (Some vcpu) vcpu view [] (ItsBegin ∷ []) state [] refl (refl, tt);
        made = piece_makes (Some vcpu) vcpu view places events begun_turn [] are.own piece.hands;
      };
      started = run.are;
      ended = piece_makes (Some vcpu) vcpu view [] (ItsEnd ∷ []) (turn n vcpu last) [] refl (refl, tt);
      answers = refl;
    } in
    let shape_last : last.shape ≡ guest.shape = ap (λ g. g.shape) (sym (op_is_events (Mem Its offset size (Some value)) guest vcpu)) ∙ shape_events (op_events (Mem Its offset size (Some value)) guest vcpu) guest in
    let taken = next_call state vcpu ItsBegin (begun state op) in
    let read = call_after vcpu (reads places) begun_turn taken in
    let t = targets_in state in
    let one : AreWindows read t (t ∷ []) = read_windows vcpu places begun_turn taken t (t ∷ []) (windows_begun state vcpu (begun state op) t [] (begun_windows guest op)) in
    let two : AreWindows (call_after vcpu events begun_turn read) t (t ∷ []) = windows_after vcpu events begun_turn read t (t ∷ []) are.within one in
    let three : AreWindows (call_after vcpu commands (turn n vcpu changed) (call_after vcpu events begun_turn read)) t firsts = run.windows (call_after vcpu events begun_turn read) t (t ∷ []) two in
    let four : AreWindows (call_after vcpu all begun_turn read) t firsts =
    subst (λ c. AreWindows c t firsts) (sym (call_append vcpu events commands begun_turn read)) (subst (λ s. AreWindows (call_after vcpu commands s (call_after vcpu events begun_turn read)) t firsts) (sym written) three) in
    let five : AreWindows (call_after vcpu rest begun_turn read) t firsts =
    subst (λ c. AreWindows c t firsts) (sym (call_append vcpu all (ItsEnd ∷ []) begun_turn read))
    (windows_after vcpu (ItsEnd ∷ []) (state_after vcpu all begun_turn) (call_after vcpu all begun_turn read) t firsts refl four) in
    let call : IsGoodCall vcpu op (ItsBegin ∷ reads places ++ rest) None guest last =
    good_call vcpu op (ItsBegin ∷ []) places rest None guest last guest.tables t firsts shape_last (λ old. order_started starts changed sound' (piece.order old)) (access_there shape view Its offset size (Some value) sound.shape good)
    (record { can = tt; allowed = refl }, tt)
    (fine_append vcpu all (ItsEnd ∷ []) begun_turn
    (fine_append vcpu events commands begun_turn (plain_are_fine true vcpu begun_turn (turn_quiet n vcpu guest) shape events guest refl piece.plain can) (subst (λ s. AreFine vcpu s commands) (sym written) run.fine))
    (subst (λ s. AreFine vcpu s (ItsEnd ∷ [])) (sym middle) (record { can = tt; allowed = ends }, tt)))
    (state_append vcpu all (ItsEnd ∷ []) begun_turn ∙ ap (state_after vcpu (ItsEnd ∷ [])) middle ∙ settled_with guest last shape_last) refl
    (all_of is_no_access all (ItsEnd ∷ []) (all_of is_no_access events commands are.no_access run.no_access) refl) (heads_of five)
    (maps_after vcpu rest begun_turn read (all_of is_no_turn all (ItsEnd ∷ []) (all_of is_no_turn events commands are.no_turn run.no_turn) refl) ∙ read_maps vcpu places begun_turn taken)
    (subst (λ v. IsCall shape beside v op made None) (sym (is_vcpu shape vcpu there)) (subst (λ b. IsItsWrite b shape beside vcpu offset size value made None) (sym takes) is)) in
    let out = out_of_turn (enabled_by shape Its offset size (Some value)) shape view places events in
    subst (λ b. IsGoodCall vcpu op (cond b (ItsBegin ∷ reads places ++ rest) out) None guest (after_events (op_events (Mem Its offset size (Some value)) guest vcpu) guest)) (sym takes)
    (subst (λ g. IsGoodCall vcpu op (ItsBegin ∷ reads places ++ rest) None guest g) (sym (op_is_events (Mem Its offset size (Some value)) guest vcpu)) call)
