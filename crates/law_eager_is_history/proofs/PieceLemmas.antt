-- The named events of a call that moves nothing: they may happen, hand out what the guest had before the call, and leave the guest that they make of it.
use Rattle.std.proofs.Common.{◌≡◌, ℕ, ◌==◌, Bool, true, false, cond, IsTrue, All, List, [], ◌∷◌, ◌++◌, Option, Some, slice_index_or, refl, sym, ap, ◌∙◌, subst}
use Rattle.std.specs.List.{list_all}
use Rattle.std.proofs.lemmas.Bool.{and_parts, and_from, eq-eqb}
use Rattle.std.proofs.lemmas.List.Elements.{All-nil, All-cons, All-append}
use Rattle.floor_histories.specs.Words.{Key, Lpi, SetPending, has_interrupt, is_same_key, place_of, Irq, raised, target_in}
use Rattle.floor_histories.specs.Calls.{opening_irq, Register, touched, Event, Enable, Touch, CtlrBegin, CtlrEnd, HandsOut, HappensFreely, Place}
use Rattle.floor_histories.proofs.IdealGuests.KeyLemmas.{IsWhole, whole_changed, irq_changed}
use Rattle.floor_histories.proofs.IdealGuests.SoundLemmas.{whole_of}
use Rattle.floor_histories.specs.Registers.{Enables}
use Rattle.std.proofs.lemmas.Grind.{fold-append}
use Rattle.floor_histories.specs.Histories.{IdealGuest, irq_at, changed_irq, view_of, after_event, after_events, IsQueueInOrder, IsSound, Ideal, handed_out, happened, Call, targets_in}
use Rattle.law_eager_is_history.specs.Moments.{settled, reads}
use Rattle.law_eager_is_history.proofs.CourseLemmas.{state_after, AreFine, fine_append, state_append, call_after}
use Rattle.law_eager_is_history.proofs.FreshLemmas.{is_no_access}
use Rattle.law_eager_is_history.proofs.WindowLemmas.{AreWindows, HaveHeads, heads_of, is_no_turn, windows_after, IsEnabling, enabling, enabling_touched, enabled_heads, next_call, enabling_reads}
use Rattle.law_eager_is_history.proofs.ReadLemmas.{is_own, HandOut, hand_append}
use Rattle.law_eager_is_history.proofs.EventLemmas.{is_plain, is_calm, is_touch, are_distinct, all_calm, all_of, with_guest, IsQuiet, settled_quiet, plain_state, plain_are_fine, touches_hand}
use Rattle.law_eager_is_history.proofs.QueueLemmas.{keeps_queue, order_events}

pub record IsNamedPiece (actor : ℕ) (guest : IdealGuest) (events : List Event) : Type 0 where
  pub fine : AreFine actor (settled guest) events
  pub hands : HandOut actor (view_of guest) (settled guest) events
  pub leaves : state_after actor events (settled guest) ≡ with_guest (settled guest) (after_events events guest)
  pub no_access : IsTrue (list_all is_no_access events)
  pub no_turn : IsTrue (list_all is_no_turn events)
  pub own : IsTrue (list_all is_own events)
  pub order : IsQueueInOrder guest → IsQueueInOrder (after_events events guest)
  pub windows : (call : Call) → AreWindows call (targets_in (settled guest)) [] → HaveHeads (call_after actor events (settled guest) call) (targets_in (settled guest)) []

-- EnableLPIs is stored, and these events follow, also where reads come between
pub record IsEnablePiece (actor : ℕ) (guest : IdealGuest) (vcpu : ℕ) (events : List Event) : Type 0 where
  pub piece : IsNamedPiece actor guest (Enable vcpu ∷ events)
  pub windows : (places : List Place) (call : Call) → AreWindows call (targets_in (settled guest)) []
      → HaveHeads (call_after actor events (happened actor (Enable vcpu) (settled guest)) (call_after actor (reads places) (happened actor (Enable vcpu) (settled guest)) (next_call (settled guest) actor (Enable vcpu) call))) (targets_in (settled guest)) []

-- a test that another one implies
pub all_weaker : (one other : Event → Bool) → ((event : Event) → IsTrue (one event) → IsTrue (other event)) → (events : List Event) → IsTrue (list_all one events) → IsTrue (list_all other events)
all_weaker one other weaker [] h = refl
all_weaker one other weaker (event ∷ events) h =
    let parts = and_parts (one event) (list_all one events) h in
    and_from (other event) (list_all other events) (weaker event parts.0) (all_weaker one other weaker events parts.1)

touch_plain : (turn : Bool) (event : Event) → IsTrue (is_touch event) → IsTrue (is_plain turn event)
touch_plain turn (Touch key touch) h = refl
touch_plain turn event h = absurd (cc)

touch_calm : (event : Event) → IsTrue (is_touch event) → IsTrue (is_calm event)
touch_calm (Touch key touch) h = refl
touch_calm event h = absurd (cc)

pub touches_plain : (turn : Bool) (events : List Event) → IsTrue (list_all is_touch events) → IsTrue (list_all (is_plain turn) events)
touches_plain turn events h = all_weaker is_touch (is_plain turn) (touch_plain turn) events h

touch_keeps : (event : Event) → IsTrue (is_touch event) → IsTrue (keeps_queue event)
touch_keeps (Touch key touch) h = refl
touch_keeps event h = absurd (cc)

touches_keep : (events : List Event) → IsTrue (list_all is_touch events) → IsTrue (list_all keeps_queue events)
touches_keep events h = all_weaker is_touch keeps_queue touch_keeps events h

pub touches_calm : (events : List Event) → IsTrue (list_all is_touch events) → IsTrue (list_all is_calm events)
touches_calm events h = all_weaker is_touch is_calm touch_calm events h

-- a touch that makes an interrupt pending moves no LPI
abbrev pub is_pend : Event → Bool
is_pend (Touch key (Register SetPending value)) = true
is_pend event = false

pub targets_kept : (actor : ℕ) (state : Ideal) (key : Key) (value : ℕ) → IsWhole state.guest → (id : ℕ) → targets_in (happened actor (Touch key (Register SetPending value)) state) id ≡ targets_in state id
targets_kept actor state key value whole id = ap (λ r. target_in r state.guest.shape) (by_there (has_interrupt state.guest.shape (Lpi id)) refl)
  where
    same_route : (b c : Bool) (irq : Irq) → (cond b (cond c (raised irq) irq) irq).route ≡ irq.route
    same_route true true irq = refl
    same_route true false irq = refl
    same_route false c irq = refl

    by_there : (b : Bool) → has_interrupt state.guest.shape (Lpi id) ≡ b → (irq_at (changed_irq key (touched state.guest.shape key (Register SetPending value)) state.guest) (Lpi id)).route ≡ (irq_at state.guest (Lpi id)).route
    by_there true e = ap (λ (i : Irq). i.route) (irq_changed state.guest key (Lpi id) (touched state.guest.shape key (Register SetPending value)) whole e) ∙ same_route (is_same_key (Lpi id) key) (value == 1) (irq_at state.guest (Lpi id))
    by_there false e = ap (λ (i : Irq). i.route) (absent (changed_irq key (touched state.guest.shape key (Register SetPending value)) state.guest) e ∙ sym (absent state.guest e))
      where
        absent : (guest : IdealGuest) → has_interrupt guest.shape (Lpi id) ≡ false → irq_at guest (Lpi id) ≡ opening_irq false (Lpi id)
        absent guest e = ap (λ b. cond b (slice_index_or guest.irqs (place_of guest.shape (Lpi id)) (opening_irq false (Lpi id))) (opening_irq false (Lpi id))) e

enabling_all : (actor : ℕ) (events : List Event) (state : Ideal) (call : Call) (t : ℕ → Option ℕ) (firsts : List (ℕ → Option ℕ)) → IsTrue (list_all is_pend events) → IsWhole state.guest → ((id : ℕ) → targets_in state id ≡ t id) → IsEnabling call t firsts → IsEnabling (call_after actor events state call) t firsts
enabling_all actor [] state call t firsts h whole same is = is
enabling_all actor (event ∷ events) state call t firsts h whole same is = of event (and_parts (is_pend event) (list_all is_pend events) h).0 (λ s c w f i. enabling_all actor events s c t firsts (and_parts (is_pend event) (list_all is_pend events) h).1 w f i)
  where
    of : (event : Event) → IsTrue (is_pend event) → ((s : Ideal) (c : Call) → IsWhole s.guest → ((id : ℕ) → targets_in s id ≡ t id) → IsEnabling c t firsts → IsEnabling (call_after actor events s c) t firsts)
        → IsEnabling (call_after actor events (happened actor event state) (next_call state actor event call)) t firsts
    of (Touch key (Register SetPending value)) h later =
        let kept : (id : ℕ) → targets_in (happened actor (Touch key (Register SetPending value)) state) id ≡ t id = λ id. targets_kept actor state key value whole id ∙ same id in
        later (happened actor (Touch key (Register SetPending value)) state) (next_call state actor (Touch key (Register SetPending value)) call) (whole_changed key (touched state.guest.shape key (Register SetPending value)) state.guest whole) kept
        (enabling_touched state actor key (Register SetPending value) call t firsts kept is)
    of event h later = absurd (cc)

module _ (actor : ℕ) (guest : IdealGuest) (sound : IsSound guest) where
  pub of_plain : (events : List Event) → IsTrue (list_all (is_plain false) events) → IsTrue (list_all is_calm events) → IsTrue (list_all keeps_queue events) → All (HappensFreely guest.shape) events → HandOut actor (view_of guest) (settled guest) events → IsNamedPiece actor guest events
  of_plain events plain calm keeps can hands =
      let are = all_calm events calm in
      let quiet = settled_quiet guest actor in
      record {
        fine = plain_are_fine false actor (settled guest) quiet guest.shape events guest refl plain can;
        hands = hands;
        leaves = plain_state false actor (settled guest) quiet events guest plain;
        no_access = are.no_access;
        no_turn = are.no_turn;
        own = are.own;
        order = order_events guest.shape events guest refl sound.words can keeps;
        windows = λ call w. heads_of (windows_after actor events (settled guest) call (targets_in (settled guest)) [] are.within w);
      }

  pub of_none : IsNamedPiece actor guest []
  of_none = of_plain [] refl refl refl (All-nil (HappensFreely guest.shape)) tt

  pub of_one : (event : Event) → IsTrue (is_plain false event) → IsTrue (is_calm event) → IsTrue (keeps_queue event) → All (HappensFreely guest.shape) (event ∷ []) → HandsOut (view_of guest) event (handed_out (settled guest) event) → IsNamedPiece actor guest (event ∷ [])
  of_one event plain calm keeps can hands = of_plain (event ∷ []) (and_from (is_plain false event) true plain refl) (and_from (is_calm event) true calm refl) (and_from (keeps_queue event) true keeps refl) can (hands, tt)

  pub of_touches : (events : List Event) → IsTrue (list_all is_touch events) → IsTrue (are_distinct events) → All (HappensFreely guest.shape) events → IsNamedPiece actor guest events
  of_touches events touches distinct can =
      of_plain events (touches_plain false events touches) (touches_calm events touches) (touches_keep events touches) can (touches_hand actor (view_of guest) (settled guest) events guest sound.shape touches distinct (λ key there. refl))

  -- events that come only where a test holds
  pub where_true : (b : Bool) (events : List Event) → All (HappensFreely guest.shape) (cond b events []) → (All (HappensFreely guest.shape) events → IsNamedPiece actor guest events) → IsNamedPiece actor guest (cond b events [])
  where_true true events can piece = piece can
  where_true false events can piece = of_none

  pub where_false : (b : Bool) (events : List Event) → All (HappensFreely guest.shape) (cond b [] events) → (All (HappensFreely guest.shape) events → IsNamedPiece actor guest events) → IsNamedPiece actor guest (cond b [] events)
  where_false true events can piece = of_none
  where_false false events can piece = piece can

  -- EnableLPIs, and then touches
  pub of_enable : (vcpu : ℕ) (events : List Event) → IsTrue (list_all is_touch events) → IsTrue (list_all is_pend events) → IsTrue (are_distinct events) → All (HappensFreely guest.shape) (Enable vcpu ∷ events) → IsEnablePiece actor guest vcpu events
  of_enable vcpu events touches pends distinct can =
      let all = Enable vcpu ∷ events in
      let plain : IsTrue (list_all (is_plain false) all) = touches_plain false events touches in
      let are = all_calm events (touches_calm events touches) in
      let quiet = settled_quiet guest actor in
      let next = after_event guest (Enable vcpu) in
      let state = with_guest (settled guest) next in
      let first = happened actor (Enable vcpu) (settled guest) in
      let whole = whole_of guest sound in
      let noted : (places : List Place) (call : Call) → AreWindows call (targets_in (settled guest)) [] → HaveHeads (call_after actor events first (call_after actor (reads places) first (next_call (settled guest) actor (Enable vcpu) call))) (targets_in (settled guest)) [] =
      λ places call w.
      enabled_heads
      (enabling_all actor events first (call_after actor (reads places) first (next_call (settled guest) actor (Enable vcpu) call)) (targets_in first) [] pends (record { shape = whole.shape; each = whole.each }) (λ id. refl)
      (enabling_reads first actor places (next_call (settled guest) actor (Enable vcpu) call) (targets_in first) [] (λ id. refl) (enabling (settled guest) actor vcpu call (targets_in (settled guest)) [] w))) in
      record {
        piece = record {
          fine = plain_are_fine false actor (settled guest) quiet guest.shape all guest refl plain can;
          hands = (refl, touches_hand actor (view_of guest) (settled guest) events next sound.shape touches distinct (λ key there. refl));
          leaves = plain_state false actor (settled guest) quiet all guest plain;
          no_access = are.no_access;
          no_turn = are.no_turn;
          own = are.own;
          order = order_events guest.shape all guest refl sound.words can (touches_keep events touches);
          windows = noted [];
        };
        windows = noted;
      }

  -- the enables are stored with the mark, touches follow, and the mark is freed
  pub of_ctlr : (enables : Enables) (events : List Event) → IsTrue (list_all is_touch events) → IsTrue (are_distinct events) → All (HappensFreely guest.shape) events → IsNamedPiece actor guest (CtlrBegin enables ∷ events ++ CtlrEnd ∷ [])
  of_ctlr enables events touches distinct can =
      let all = CtlrBegin enables ∷ events ++ CtlrEnd ∷ [] in
      let calm : IsTrue (list_all is_calm all) = all_of is_calm events (CtlrEnd ∷ []) (touches_calm events touches) refl in
      let are = all_calm all calm in
      let base : Ideal = record (settled guest) { spreads = Some actor } in
      let quiet : IsQuiet base actor false = record { home = (settled_quiet guest actor).home; its = (settled_quiet guest actor).its } in
      let next = after_event guest (CtlrBegin enables) in
      let begun = with_guest base next in
      let middle : state_after actor events begun ≡ with_guest base (after_events events next) = plain_state false actor base quiet events next (touches_plain false events touches) in
      let ends : AreFine actor (with_guest base (after_events events next)) (CtlrEnd ∷ []) = (record { can = tt; allowed = eq-eqb actor actor refl }, tt) in
      let fine : AreFine actor begun (events ++ CtlrEnd ∷ []) =
      fine_append actor events (CtlrEnd ∷ []) begun (plain_are_fine false actor base quiet guest.shape events next refl (touches_plain false events touches) can)
      (subst (λ s. AreFine actor s (CtlrEnd ∷ [])) (sym middle) ends) in
      let hands : HandOut actor (view_of guest) begun (events ++ CtlrEnd ∷ []) =
      hand_append actor (view_of guest) events (CtlrEnd ∷ []) begun (touches_hand actor (view_of guest) base events next sound.shape touches distinct (λ key there. refl)) (refl, tt) in
      record {
        fine = (record { can = tt; allowed = refl }, fine);
        hands = (refl, hands);
        leaves = state_append actor events (CtlrEnd ∷ []) begun ∙ ap (λ s. state_after actor (CtlrEnd ∷ []) s) middle
            ∙ ap (with_guest (settled guest)) (sym (fold-append after_event next events (CtlrEnd ∷ [])));
        no_access = are.no_access;
        no_turn = are.no_turn;
        own = are.own;
        order = order_events guest.shape all guest refl sound.words
            (All-cons (HappensFreely guest.shape) (CtlrBegin enables) (events ++ CtlrEnd ∷ []) tt (All-append (HappensFreely guest.shape) events (CtlrEnd ∷ []) can (All-cons (HappensFreely guest.shape) CtlrEnd [] tt (All-nil (HappensFreely guest.shape)))))
            (all_of keeps_queue events (CtlrEnd ∷ []) (touches_keep events touches) refl);
        windows = λ call w. heads_of (windows_after actor all (settled guest) call (targets_in (settled guest)) [] are.within w);
      }
