-- A list in which all calls ended is legal exactly where it is a history and fresh.
use Rattle.std.proofs.Common.{◌≡◌, ℕ, ◌&&◌, ◌||◌, ◌==◌, not, Bool, cond, List, [], ◌∷◌, None, refl, sym, ap, ◌∙◌}
use Rattle.std.specs.List.{list_all, list_any, range_with_len}
use Rattle.std.proofs.lemmas.Option.{none-some}
use Rattle.law_histories.specs.Words.{Key, GuestShape}
use Rattle.law_histories.specs.Calls.{Event, Cpu, Moment, Begin, Happens}
use Rattle.law_histories.specs.GicCall.declared.event.Moment.TheVariants.{End}
use Rattle.law_histories.specs.Histories.{Ideal, Course, opening_course, actor_count, call_of, course_of, Track, opening_track, doing_of, tracked, after_moment, is_event_of, ends_turn, is_to_come, has_named, asks_first, comes_first, is_last_open, is_awaited, is_fresh_at_acknowledge, keys_in, is_acknowledged_from}
use Rattle.law_histories.proofs.CourseLemmas.{nobody}
use Rattle.legal_lists.specs.Legal.{may_come, may_be_awaited, may_be_fresh, may_be_acknowledged_from}
use Rattle.legal_lists.specs.Laws.{WholeLegalIsFresh}

-- tests that agree on each element
all_same : {X : Type 0} (p q : X → Bool) → ((x : X) → p x ≡ q x) → (xs : List X) → list_all p xs ≡ list_all q xs
all_same p q same [] = refl
all_same p q same (x ∷ xs) = ap (λ b. b && list_all p xs) (same x) ∙ ap (λ b. q x && b) (all_same p q same xs)

any_same : {X : Type 0} (p q : X → Bool) → ((x : X) → p x ≡ q x) → (xs : List X) → list_any p xs ≡ list_any q xs
any_same p q same [] = refl
any_same p q same (x ∷ xs) = ap (λ b. b || list_any p xs) (same x) ∙ ap (λ b. q x || b) (any_same p q same xs)

-- of an actor that is in no call at the end, nothing may come but what is to come
come_is : (shape : GuestShape) (actor : ℕ) (key : Key) (moments : List Moment) → may_come shape None actor key moments ≡ is_to_come actor key moments
come_is shape actor key [] = refl
come_is shape actor key (Begin other operation ∷ moments) = ap (λ b. not (other == actor) && b) (come_is shape actor key moments)
come_is shape actor key (End other answer ∷ moments) = ap (λ b. not (other == actor) && b) (come_is shape actor key moments)
come_is shape actor key (Happens other event found ∷ moments) = ap (λ b. cond (other == actor) (is_event_of key event || (not (ends_turn event) && b)) b) (come_is shape actor key moments)

module _ (last : Course) (none : (actor : ℕ) → call_of last actor ≡ None) where
  awaited_is : (shape : GuestShape) (later : List Moment) (track : Track) (vcpu : ℕ) (key : Key) → may_be_awaited shape last later track vcpu key ≡ is_awaited shape later track vcpu key
  awaited_is shape later track vcpu key =
      any_same (λ actor. not (actor == vcpu) && (has_named shape (doing_of track actor) && may_come shape (call_of last actor) actor key later))
      (λ actor. not (actor == vcpu) && (has_named shape (doing_of track actor) && is_to_come actor key later))
      (λ actor. ap (λ b. not (actor == vcpu) && (has_named shape (doing_of track actor) && b)) (ap (λ o. may_come shape o actor key later) (none actor) ∙ come_is shape actor key later)) (range_with_len 0 (actor_count shape))

  fresh_is : (later : List Moment) (state : Ideal) (track : Track) (event : Event) → may_be_fresh last later state track event ≡ is_fresh_at_acknowledge later state track event
  fresh_is later state track (Cpu vcpu reg write) =
      ap (λ b. not (asks_first reg write) || b)
      (all_same (λ key. not (comes_first state vcpu key) || (is_last_open state.guest.shape track vcpu key || may_be_awaited state.guest.shape last later track vcpu key))
      (λ key. not (comes_first state vcpu key) || (is_last_open state.guest.shape track vcpu key || is_awaited state.guest.shape later track vcpu key))
      (λ key. ap (λ b. not (comes_first state vcpu key) || (is_last_open state.guest.shape track vcpu key || b)) (awaited_is state.guest.shape later track vcpu key)) (keys_in state.guest.shape))
  fresh_is later state track event = refl

  acknowledged_is : (state : Ideal) (track : Track) (moments : List Moment) → may_be_acknowledged_from last state track moments ≡ is_acknowledged_from state track moments
  acknowledged_is state track [] = refl
  acknowledged_is state track (Begin actor operation ∷ moments) = acknowledged_is state (tracked state (Begin actor operation) track) moments
  acknowledged_is state track (End actor answer ∷ moments) = acknowledged_is state (tracked state (End actor answer) track) moments
  acknowledged_is state track (Happens actor event found ∷ moments) =
      let after = after_moment state (Happens actor event found) in
      let later = tracked state (Happens actor event found) track in
      ap (λ b. b && may_be_acknowledged_from last after later moments) (fresh_is moments state track event) ∙ ap (λ b. is_fresh_at_acknowledge moments state track event && b) (acknowledged_is after later moments)

pub whole : WholeLegalIsFresh
whole guest moments all =
    let last : Course = course_of (opening_course guest) moments in
    let none : (actor : ℕ) → call_of last actor ≡ None = λ actor. nobody last.calls actor all in
    let same = acknowledged_is last none (opening_course guest).ideal (opening_track guest.shape) moments in
    record {
      history = λ is. is.history;
      fresh = λ is. record { acknowledge = sym same ∙ is.acknowledge; interface = is.interface; end = is.end; deactivation = is.deactivation };
      legal = λ history fresh. record {
        history = history;
        begun = λ actor call e. absurd (none-some call (sym (none actor) ∙ e));
        acknowledge = same ∙ fresh.acknowledge;
        interface = fresh.interface;
        end = fresh.end;
        deactivation = fresh.deactivation;
      };
    }
