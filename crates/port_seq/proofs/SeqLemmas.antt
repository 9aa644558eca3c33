-- A step of an actor keeps the rule of the words.
use Rattle.std.proofs.Common.{◌≡◌, ℕ, ◌<◌, ◌==◌, IsTrue, List, [], ◌∷◌, ◌++◌, set, get_or, refl, sym, ap, subst, ◌∙◌}
use Rattle.std.specs.Option.{ForSome}
use Rattle.std.proofs.lemmas.List.{map-set}
use Rattle.std.proofs.lemmas.Option.{same_Some}
use mathlib.Core.Option.{some}
use lib.ListN.{get_elem?}
use Rattle.atomic_table.specs.Table.{State, Me, Allows, keeps}
use Rattle.port_ops.specs.Words.{is_number}
use Rattle.port_ops.specs.PortCore.IdealGuests.CanOpen.{CanOpen}
use Rattle.port_ops.specs.PortCore.declared.atomic.Atomic.{Atomic}
use Rattle.port_ops.specs.PortCore.declared.local.Local.{Local}
use Rattle.port_ops.specs.PortCore.declared.run.Entry.{Entry}
use Rattle.port_ops.specs.PortCore.declared.step.CoreStep.{CoreStep}
use Rattle.port_ops.specs.PortCore.Actor.{actor_count}
use Rattle.port_ops.specs.PortCore.After.{local_after}
use Rattle.port_ops.specs.PortCore.Atomic.{applied, Makes}
use Rattle.port_ops.specs.PortCore.Condition.{Meets}
use Rattle.port_ops.specs.PortCore.Place.{place_of_word}
use Rattle.port_ops.specs.PortCore.Port.{keeps_tables}
use Rattle.port_ops.specs.PortCore.Run.{IsRun, Seat, opening, seat_at}
use Rattle.port_ops.specs.PortCore.Step.{CanStep, word_of}
use Rattle.port_ops.specs.declared.opened.Opened.{Opened}
use Rattle.port_seq.specs.declared.its_home.ItsHome.{ItsHome}
use Rattle.port_seq.specs.declared.its_home.ItsHome.TheVariants.{Here, TakenBy}
use Rattle.port_seq.specs.Home.{maps_here, taker_of}
use Rattle.port_seq.specs.Rule.{IsAfter, IsMade}
use Rattle.port_ops.specs.World.{state_after, entry_in, locals_in, HasTurn}
use Rattle.port_ops.proofs.WorldLemmas.{only_view, left_by_operation, maps_same, one_more, run_more, sound_after, taker_keeps, takes_it}

-- An operation that makes a step keeps the rule, and the seat knows the step.
pub may_make :
    (opened : Opened) (actor : ℕ) (step : CoreStep) (atomic : Atomic) (slots id place : ℕ) (me : Me (Unit {0}) (List Entry)) → CanOpen opened.guest → actor < actor_count opened.guest.shape → CanStep opened.guest.shape actor step
    → Meets opened.guest.shape actor (seat_at (state_after opened.guest opened.number me.0) actor).local (seat_at (state_after opened.guest opened.number me.0) actor).own step
    → place ≡ place_of_word opened.guest.shape (word_of opened.guest.shape actor step) → Makes opened.guest.shape actor (seat_at (state_after opened.guest opened.number me.0) actor).local step atomic
    → Allows (IsAfter opened) slots id me place (applied atomic) (IsMade opened actor step me)
may_make opened actor step atomic slots id place me good there can meets at makes s holds each view small =
    let shape = opened.guest.shape in
    let state = state_after opened.guest opened.number me.0 in
    let found = get_or s.words place 0 in
    let entry = entry_in shape state actor step found in
    let only = only_view holds.world me.0 id (subst (λ views. get_elem? views id ≡ some me.0) holds.view view) in
    let run : IsRun shape (opening opened.guest opened.number) me.0 = subst (IsRun shape (opening opened.guest opened.number)) only.1 holds.run in
    let words : s.words ≡ state.words = holds.words ∙ ap (λ world. (state_after opened.guest opened.number world).words) only.1 in
    let takes = takes_it shape state actor step found there can meets (ap (λ ws. get_or ws place 0) words ∙ ap (λ p. get_or state.words p 0) at) in
    let left = left_by_operation shape state actor step atomic found good.sound.shape (sound_after opened me.0 good run) takes makes in (
      me.0 ++ entry ∷ [],
      keeps,
      tt,
      record {
        world = me.0 ++ entry ∷ [];
        view = ap (λ views. set views id (me.0 ++ entry ∷ [])) holds.view ∙ ap (λ i. set (holds.world ∷ []) i (me.0 ++ entry ∷ [])) only.0;
        run = run_more opened me.0 entry run takes;
        words =
            ap (λ ws. set ws place (applied atomic found)) words ∙ ap (λ p. set state.words p (applied atomic found)) at ∙ ap (set state.words (place_of_word shape (word_of shape actor step))) left
            ∙ sym (ap (λ e. e.words) (one_more opened me.0 entry));
      },
      record { run = run; takes = takes; later = refl },
    )

-- What the actors have for themselves.

-- after one more step, one of them is what the step left
pub locals_more :
    (opened : Opened) (world later : List Entry) (locals : List Local) (actor : ℕ) (step : CoreStep) (found : ℕ) (next : Local) → locals ≡ locals_in (state_after opened.guest opened.number world)
    → later ≡ world ++ entry_in opened.guest.shape (state_after opened.guest opened.number world) actor step found ∷ []
    → next ≡ local_after opened.guest.shape actor (seat_at (state_after opened.guest opened.number world) actor).local step found → set locals actor next ≡ locals_in (state_after opened.guest opened.number later)
locals_more opened world later locals actor step found next are is left =
    let state = state_after opened.guest opened.number world in
    let entry = entry_in opened.guest.shape state actor step found in
    let seat : Seat = record { local = local_after opened.guest.shape actor (seat_at state actor).local step found; own = (seat_at state actor).own ++ entry.made ∷ [] } in
    ap (λ l. set l actor next) are
    ∙ ap (set (locals_in state) actor) left
    ∙ sym (map-set (λ (s : Seat). s.local) state.seats actor seat)
    ∙ sym (ap locals_in (one_more opened world entry))
    ∙ ap (λ w. locals_in (state_after opened.guest opened.number w)) (sym is)

-- The tables of the ITS.

pub maps_more :
    (opened : Opened) (world later : List Entry) (its : ItsHome) (actor : ℕ) (step : CoreStep) (found : ℕ) → later ≡ world ++ entry_in opened.guest.shape (state_after opened.guest opened.number world) actor step found ∷ []
    → IsTrue (keeps_tables (is_number actor (taker_of its)) step) → ForSome (maps_here its) (λ maps. maps ≡ (state_after opened.guest opened.number world).maps)
    → ForSome (maps_here its) (λ maps. maps ≡ (state_after opened.guest opened.number later).maps)
maps_more opened world later (TakenBy taker) actor step found is may are = λ maps e. absurd (cc)
maps_more opened world later (Here here) actor step found is may are =
    let state = state_after opened.guest opened.number world in
    let entry = entry_in opened.guest.shape state actor step found in
    λ maps e. are maps e ∙ sym (maps_same state.maps step may) ∙ sym (ap (λ s. s.maps) (one_more opened world entry)) ∙ ap (λ w. (state_after opened.guest opened.number w).maps) (sym is)

pub turn_more :
    (opened : Opened) (world later : List Entry) (its : ItsHome) (actor : ℕ) (step : CoreStep) (found : ℕ) → actor < actor_count opened.guest.shape
    → later ≡ world ++ entry_in opened.guest.shape (state_after opened.guest opened.number world) actor step found ∷ [] → IsTrue (keeps_tables (is_number actor (taker_of its)) step)
    → ForSome (taker_of its) (HasTurn opened.guest.shape (state_after opened.guest opened.number world)) → ForSome (taker_of its) (HasTurn opened.guest.shape (state_after opened.guest opened.number later))
turn_more opened world later (Here maps) actor step found there is may has = λ taker e. absurd (cc)
turn_more opened world later (TakenBy by) actor step found there is may has = λ taker e.
    let state = state_after opened.guest opened.number world in
    let entry = entry_in opened.guest.shape state actor step found in
    subst (λ s. HasTurn opened.guest.shape s taker) (sym (one_more opened world entry) ∙ ap (state_after opened.guest opened.number) (sym is))
    (taker_keeps opened world taker actor step found there (subst (λ n. IsTrue (keeps_tables (n == actor) step)) (same_Some by taker e) may) (has taker e))

-- the words of a table that is closed with its seat
pub closing_words : (opened : Opened) (table : State (Unit {0}) (List Entry)) (id : ℕ) (world : List Entry) (words : List ℕ) → IsAfter opened table → get_elem? table.views id ≡ some world → table.words ≡ words → words ≡ (state_after opened.guest opened.number world).words
closing_words opened table id world words holds view are =
    let only = only_view holds.world world id (subst (λ views. get_elem? views id ≡ some world) holds.view view) in
    sym are ∙ holds.words ∙ ap (λ w. (state_after opened.guest opened.number w).words) only.1
