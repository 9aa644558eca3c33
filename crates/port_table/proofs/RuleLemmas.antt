-- Each step of an actor keeps the rule of the shared words, and so does an actor's being split off or joined again.
use Rattle.std.proofs.Common.{◌≡◌, ℕ, zero, suc, ◌<◌, ◌&&◌, not, Bool, true, false, IsTrue, List, [], ◌∷◌, ◌++◌, set, get_or, Option, Some, refl, sym, ap, subst, ◌∙◌}
use mathlib.Core.Option.{some}
use lib.ListN.{get_elem?}
use Rattle.atomic_table.proofs.Lists.{set_again}
use Rattle.atomic_table.specs.Table.{Me, Allows, Splits, Joins, Final, Seen, gives, homes_after}
use Rattle.port_ops.specs.Registers.{Maps}
use Rattle.port_ops.specs.PortCore.IdealGuests.CanOpen.{CanOpen}
use Rattle.port_ops.specs.PortCore.declared.atomic.Atomic.{Atomic}
use Rattle.port_ops.specs.PortCore.declared.atomic.Atomic.TheVariants.{Load}
use Rattle.port_ops.specs.PortCore.declared.local.Local.{Local}
use Rattle.port_ops.specs.PortCore.declared.run.Made.{Made}
use Rattle.port_ops.specs.PortCore.declared.run.Entry.{Entry}
use Rattle.port_ops.specs.PortCore.declared.step.CoreStep.{CoreStep}
use Rattle.port_ops.specs.PortCore.Actor.{actor_count}
use Rattle.port_ops.specs.PortCore.Atomic.{applied, Makes}
use Rattle.port_ops.specs.PortCore.Condition.{Meets}
use Rattle.port_ops.specs.PortCore.Known.{known_maps}
use Rattle.port_ops.specs.PortCore.Place.{place_of_word}
use Rattle.port_ops.specs.PortCore.Port.{keeps_tables, local_by}
use Rattle.port_ops.specs.PortCore.Run.{IsRun, Seat, opening, seat_at, own_steps}
use Rattle.port_ops.specs.PortCore.Step.{CanStep, word_of}
use Rattle.port_ops.proofs.PortCore.OpeningLemmas.{opens_sound, seat_opens}
use Rattle.port_ops.proofs.PortCore.RunLemmas.{own_of_run, local_of_run}
use Rattle.port_ops.specs.declared.opened.Opened.{Opened}
use Rattle.port_ops.specs.World.{state_after, entry_in}
use Rattle.port_ops.proofs.WorldLemmas.{sound_after, one_more, run_more, takes_it, left_by_operation}
use Rattle.port_table.specs.declared.view.Account.{Account}
use Rattle.port_table.specs.declared.view.View.{View}
use Rattle.port_table.specs.declared.view.View.TheVariants.{Root, Out, Spent}
use Rattle.port_table.specs.Rule.{AreViews, IsShared, IsMade, IsReturned, local_of}
use Rattle.port_table.specs.Slot.{is_free, held, has_taken, is_release, act_by}
use Rattle.port_table.specs.View.{is_among, is_back, is_out, steps_of, own_of, split_of, joined_of, noting, joining, with_account}
use Rattle.port_table.proofs.SlotLemmas.{free_means, free_where, slot_valid, slot_home, carried_is}
use Rattle.port_table.proofs.ViewLemmas.{views_step, views_split, views_join}

-- What an actor is after a run: as its own steps made it.
abbrev pub seat_of : Opened → ℕ → List Made → Seat
seat_of opened actor own = record { local = local_of opened actor own; own = own }

pub seat_of_run : (opened : Opened) (world : List Entry) (actor : ℕ) → CanOpen opened.guest → actor < actor_count opened.guest.shape → IsRun opened.guest.shape (opening opened.guest opened.number) world
    → seat_at (state_after opened.guest opened.number world) actor ≡ seat_of opened actor (own_steps actor world)
seat_of_run opened world actor good there run =
    let shape = opened.guest.shape in
    let opens = opening opened.guest opened.number in
    let each = (opens_sound opened.guest opened.number good).actors in
    let seat = seat_opens opened.guest opened.number actor there in
    let now = seat_at (state_after opened.guest opened.number world) actor in
    let own : now.own ≡ own_steps actor world = own_of_run shape opens world actor each run ∙ ap (λ s. s.own ++ own_steps actor world) seat in
    let local : now.local ≡ local_of opened actor (own_steps actor world) = local_of_run shape opens world actor each run ∙ ap (λ s. local_by shape actor s.local (own_steps actor world)) seat in
    let with : Local → Seat = λ l. record { local = l; own = now.own } in
    let with_own : List Made → Seat = λ o. record { local = local_of opened actor (own_steps actor world); own = o } in
    ap with local ∙ ap with_own own

-- An operation that makes a step of an actor keeps the rule, and the actor's seat knows the step.
pub may_make :
    (opened : Opened) (actor : ℕ) (step : CoreStep) (atomic : Atomic) (slots id place : ℕ) (me : Me (Option Maps) View) → CanOpen opened.guest → actor < actor_count opened.guest.shape → slots ≡ 1 → CanStep opened.guest.shape actor step
    → Meets opened.guest.shape actor (local_of opened actor (own_of me.0)) (own_of me.0) step → IsTrue (keeps_tables (has_taken me.1) step) → me.0 ≡ Out actor (own_of me.0)
    → me.1 ≡ held (local_of opened actor (own_of me.0)).turn (has_taken me.1) (known_maps (own_of me.0)) → place ≡ place_of_word opened.guest.shape (word_of opened.guest.shape actor step)
    → Makes opened.guest.shape actor (local_of opened actor (own_of me.0)) step atomic → Allows (IsShared opened) slots id me place (applied atomic) (IsMade opened actor step me)
may_make opened actor step atomic slots id place me good there one can meets tables view holds at makes s rule each seen small =
    let shape = opened.guest.shape in
    let world = rule.world in
    let state = state_after opened.guest opened.number world in
    let sound = sound_after opened world good rule.run in
    let found = get_or s.words place 0 in
    let entry = entry_in shape state actor step found in
    let out : get_elem? s.views id ≡ some (Out actor (own_of me.0)) = seen ∙ ap (λ v. some v) view in
    let own : own_of me.0 ≡ own_steps actor world = rule.views.own id actor (own_of me.0) out in
    let seat : seat_of opened actor (own_of me.0) ≡ seat_at state actor = ap (seat_of opened actor) own ∙ sym (seat_of_run opened world actor good there rule.run) in
    let takes =
    takes_it shape state actor step found there can (subst (λ (z : Seat). Meets shape actor z.local z.own step) seat meets)
    (ap (λ ws. get_or ws place 0) rule.words ∙ ap (λ p. get_or state.words p 0) at) in
    let left = left_by_operation shape state actor step atomic found good.sound.shape sound takes (subst (λ (z : Seat). Makes shape actor z.local step atomic) seat makes) in
    let held_now = subst (λ (z : Seat). me.1 ≡ held z.local.turn (has_taken me.1) (known_maps z.own)) seat holds in
    let home = slot_home shape state actor step found good.sound.shape sound takes s.homes me.1 (each ∙ one) rule.home held_now tables in
    let next : Out actor (own_of me.0 ++ entry.made ∷ []) ≡ Out actor (own_steps actor world ++ entry.made ∷ []) = ap (λ o. Out actor (o ++ entry.made ∷ [])) own in (
      Out actor (own_of me.0 ++ entry.made ∷ []),
      act_by (is_release step) entry.made.tables,
      slot_valid shape state actor step found good.sound.shape sound takes s.homes me.1 (each ∙ one) rule.home held_now tables,
      record {
        world = world ++ entry ∷ [];
        run = run_more opened world entry rule.run takes;
        words =
            ap (λ ws. set ws place (applied atomic found)) rule.words ∙ ap (λ p. set state.words p (applied atomic found)) at ∙ ap (set state.words (place_of_word shape (word_of shape actor step))) left
            ∙ sym (ap (λ e. e.words) (one_more opened world entry));
        home =
            subst (λ st. IsTrue (is_free shape st) → get_elem? (homes_after s.homes me.1 (act_by (is_release step) entry.made.tables)) 0 ≡ some (some (Some st.maps))) (sym (one_more opened world entry)) home;
        views = views_step world s.views id (own_of me.0) entry rule.views out;
      },
      record {
        world = world;
        run = rule.run;
        knew = view ∙ ap (Out actor) own;
        takes = takes;
        knows = next;
        holds = carried_is (is_release step) entry.made.tables me.1;
      },
    )

-- The root splits off an actor that had no seat.
pub may_split : (opened : Opened) (id actor : ℕ) (v : View) → v ≡ Root (split_of v) (joined_of v) → is_among actor (split_of v) ≡ false → Splits (IsShared opened) id v (noting actor v) (Out actor [])
may_split opened id actor v root new s rule seen =
    record {
      world = rule.world;
      run = rule.run;
      words = rule.words;
      home = rule.home;
      views =
          subst (λ left. AreViews rule.world (set s.views id left ++ Out actor [] ∷ [])) (sym (ap (noting actor) root))
          (views_split rule.world s.views id actor (split_of v) (joined_of v) rule.views (seen ∙ ap (λ w. some w) root) new);
    }

-- It takes an actor's seat in again.
pub may_join : (opened : Opened) (id other actor : ℕ) (v w : View) → v ≡ Root (split_of v) (joined_of v) → w ≡ Out actor (own_of w) → Joins (IsShared opened) id v other w (joining v w) Spent
may_join opened id other actor v w root out s rule seen differ there =
    let both : joining v w ≡ Root (split_of v) (with_account actor (own_of w) (joined_of v)) = ap (λ x. joining x w) root ∙ ap (joining (Root (split_of v) (joined_of v))) out in
    record {
      world = rule.world;
      run = rule.run;
      words = rule.words;
      home = rule.home;
      views =
          subst (λ b. AreViews rule.world (set (set s.views id b) other Spent)) (sym both)
          (views_join rule.world s.views id other actor (split_of v) (joined_of v) (own_of w) rule.views (seen ∙ ap (λ x. some x) root) differ
          (subst (λ b. get_elem? (set s.views id b) other ≡ some (Out actor (own_of w))) both (there ∙ ap (λ x. some x) out)));
    }

-- The seat of an actor that has the ITS gives back the slot.

set_same : (words : List ℕ) (place : ℕ) → set words place (get_or words place 0) ≡ words
set_same [] place = refl
set_same (word ∷ words) zero = refl
set_same (word ∷ words) (suc place) = ap (λ ws. word ∷ ws) (set_same words place)

pub may_return :
    (opened : Opened) (actor slots id : ℕ) (me : Me (Option Maps) View) → CanOpen opened.guest → actor < actor_count opened.guest.shape → me.0 ≡ Out actor (own_of me.0) → IsTrue (local_of opened actor (own_of me.0)).turn
    → Allows (IsShared opened) slots id me 0 (applied Load) (IsReturned me)
may_return opened actor slots id me good there view turn s rule each seen small =
    let shape = opened.guest.shape in
    let state = state_after opened.guest opened.number rule.world in
    let own : own_of me.0 ≡ own_steps actor rule.world = rule.views.own id actor (own_of me.0) (seen ∙ ap (λ v. some v) view) in
    let seat : seat_of opened actor (own_of me.0) ≡ seat_at state actor = ap (seat_of opened actor) own ∙ sym (seat_of_run opened rule.world actor good there rule.run) in (
      me.0,
      gives,
      tt,
      record {
        world = rule.world;
        run = rule.run;
        words = set_same s.words 0 ∙ rule.words;
        home = λ free.
            let both : true ≡ false = sym turn ∙ ap (λ (z : Seat). z.local.turn) seat ∙ free_means shape state actor (sound_after opened rule.world good rule.run) there free in
            absurd (cc);
        views = subst (AreViews rule.world) (sym (set_again s.views id me.0 seen)) rule.views;
      },
      record { knows = refl; holds = refl },
    )

-- The end: the lists that the root keeps are the parts of a run, which leaves the words and, in the slot, the maps.

pub record Closes (opened : Opened) (joined : List Account) (words : List ℕ) (slots : List (Option Maps)) : Type 0 where
  pub world : List Entry
  pub run : IsRun opened.guest.shape (opening opened.guest opened.number) world
  pub lists : (actor : ℕ) → steps_of actor joined ≡ own_steps actor world
  pub words_are : words ≡ (state_after opened.guest opened.number world).words
  pub maps : get_elem? slots 0 ≡ some (Some (state_after opened.guest opened.number world).maps)

all_in : (split : List ℕ) (joined : List Account) → ((actor : ℕ) → IsTrue (is_among actor split) → IsTrue (is_back actor joined)) → (actor : ℕ) → is_out split joined actor ≡ false
all_in split joined back actor = of (is_among actor split) refl
  where
    of : (b : Bool) → is_among actor split ≡ b → (b && not (is_back actor joined)) ≡ false
    of false e = refl
    of true e = ap not (back actor e)

pub closes :
    (opened : Opened) (id : ℕ) (v : View) (words : List ℕ) (slots : List (Option Maps)) → CanOpen opened.guest → v ≡ Root (split_of v) (joined_of v) → ((actor : ℕ) → IsTrue (is_among actor (split_of v)) → IsTrue (is_back actor (joined_of v)))
    → ((actor : ℕ) → actor < actor_count opened.guest.shape → (local_of opened actor (steps_of actor (joined_of v))).turn ≡ false) → Final (Seen (IsShared opened) id v) words slots → Closes opened (joined_of v) words slots
closes opened id v words slots good root back idle final =
    let shape = opened.guest.shape in
    let rule = final.1.0 in
    let state = state_after opened.guest opened.number rule.world in
    let lists : (actor : ℕ) → steps_of actor (joined_of v) ≡ own_steps actor rule.world = λ actor. (rule.views.root id (split_of v) (joined_of v) (final.1.1 ∙ ap (λ w. some w) root)).kept actor (all_in (split_of v) (joined_of v) back actor) in
    let free =
    free_where shape state (sound_after opened rule.world good rule.run)
    (λ actor there. ap (λ (z : Seat). z.local.turn) (seat_of_run opened rule.world actor good there rule.run) ∙ ap (λ o. (local_of opened actor o).turn) (sym (lists actor)) ∙ idle actor there) in
    record {
      world = rule.world;
      run = rule.run;
      lists = lists;
      words_are = sym final.2 ∙ rule.words;
      maps = final.4 0 (Some state.maps) (rule.home free);
    }
