-- The first step of a command on an LPI's word finds for which vCPU that is as the command begins.
use Rattle.std.proofs.Common.{◌≡◌, ℕ, ◌<◌, not, Bool, true, false, if◌then◌else◌, IsTrue, List, [], ◌∷◌, ◌++◌, find, Option, Some, None, IfSome, refl, sym, ap, ◌∙◌, subst}
use Rattle.std.specs.Option.{option_or}
use Rattle.std.proofs.lemmas.Bool.{and_parts, eq-eqb, eqb-true}
use Rattle.std.proofs.lemmas.List.{get_or-set_other}
use Rattle.std.specs.List.{slice_index_or}
use Rattle.law_unmapped_lpis.specs.Words.{Lpi, GuestShape, has_interrupt, target_in, irq_of}
use Rattle.law_unmapped_lpis.specs.Registers.{has_target, Maps}
use Rattle.law_unmapped_lpis.specs.Histories.{irq_at, Ideal, targets_in, AreForNone}
use Rattle.law_serial_is_eager.proofs.LawEagerIsHistory.WindowLemmas.{Targets}
use Rattle.pe_mem.specs.Core.{Local, Made, CoreStep, CommandDone, WordId, Irq, actor_count, Meets, ends_command, is_on, known_maps, maps_by_step, place_of_word, Adds, Seen, seen_after, shape_of, CoreState, seat_at, word_in, word_of}
use Rattle.law_serial_is_eager.specs.LawCoreIsHistory.Laws.{followed_by}
use Rattle.pe_mem.specs.ItsExec.Known.{AgreeFound, AgreeWith, are_within, first_step, is_within}
use Rattle.pe_mem.specs.ItsExec.Plan.{IsFresh}
use Rattle.pe_mem.proofs.ItsExec.FrameLemmas.{first_on, maps_on}
use Rattle.law_found_parts_are_calls.proofs.HereRuns.{AreHere, IsHere, IsSo, after_steps, ideal_after, next_state, own_after_steps, stood}
use Rattle.law_found_parts_are_calls.proofs.LookRuns.{word_route}

-- The first step on a word.

word_next : (shape : GuestShape) (actor : ℕ) (state : CoreState) (made : Made) (word : WordId) → is_on shape actor word made ≡ false → word_in shape (next_state shape actor state made) word ≡ word_in shape state word
word_next shape actor state made word off =
    get_or-set_other state.words (place_of_word shape (word_of shape actor made.step)) (place_of_word shape word) made.left 0 (λ same. clash (eq-eqb (place_of_word shape (word_of shape actor made.step)) (place_of_word shape word) (sym same)))
  where
    clash : is_on shape actor word made ≡ true → ⊥
    clash h = let no = sym h ∙ off in absurd (cc)

first_found : (shape : GuestShape) (actor : ℕ) (word : WordId) (steps : List Made) (state : CoreState) (ideal : Ideal) → AreHere shape actor state ideal steps → IfSome (find (is_on shape actor word) steps) (λ (made : Made). made.found ≡ word_in shape state word)
first_found shape actor word [] state ideal here = tt
first_found shape actor word (made ∷ steps) state ideal here = of (is_on shape actor word made) refl (first_found shape actor word steps (next_state shape actor state made) (followed_by actor (stood shape actor state made) ideal) here.1)
  where
    of : (b : Bool) → is_on shape actor word made ≡ b → IfSome (find (is_on shape actor word) steps) (λ (other : Made). other.found ≡ word_in shape (next_state shape actor state made) word)
        → IfSome (if b then Some made else find (is_on shape actor word) steps) (λ (other : Made). other.found ≡ word_in shape state word)
    of true e later = here.0.takes.found ∙ ap (λ place. slice_index_or state.words place 0) (eqb-true (place_of_word shape (word_of shape actor made.step)) (place_of_word shape word) e)
    of false e later = subst (λ n. IfSome (find (is_on shape actor word) steps) (λ (other : Made). other.found ≡ n)) (word_next shape actor state made word e) later

-- The maps.

step_maps : (maps : Maps) (step : CoreStep) → IsTrue (not (ends_command step)) → maps_by_step maps step ≡ maps
step_maps maps (CommandDone offset stalled None) h = refl
step_maps maps (CommandDone offset true (Some words)) h = absurd (cc)
step_maps maps (CommandDone offset false (Some words)) h = absurd (cc)
step_maps maps step h = refl

maps_within : (shape : GuestShape) (actor : ℕ) (steps : List Made) (state : CoreState) → IsTrue (are_within steps) → (after_steps shape actor state steps).maps ≡ state.maps
maps_within shape actor [] state h = refl
maps_within shape actor (made ∷ steps) state h =
    let parts = and_parts (is_within made) (are_within steps) h in
    maps_within shape actor steps (next_state shape actor state made) parts.1 ∙ step_maps state.maps made.step (and_parts _ (not (ends_command made.step)) parts.0).1

-- a command is ended by the actor that has the ITS
turn_of : (shape : GuestShape) (actor : ℕ) (local : Local) (own : List Made) (step : CoreStep) → IsTrue (ends_command step) → Meets shape actor local own step → IsTrue local.turn
turn_of shape actor local own (CommandDone offset stalled ending) h meets = meets.turn
turn_of shape actor local own step h meets = absurd (cc)

-- A command, from where it begins.

module _ (old : Seen) (first : List Made) (within : IsTrue (are_within first)) (fresh : IsFresh old) (state : CoreState) (ideal : Ideal) (so : IsSo (shape_of old) state ideal) (here : AreHere (shape_of old) old.actor state ideal first)
    (t : Targets) (now : (id : ℕ) → targets_in ideal id ≡ t id) where
  abbrev shape : GuestShape
  shape = shape_of old

  last_adds : Adds old (seen_after old first) first
  last_adds = record { new_is = refl }

  target_by : (id : ℕ) → IsTrue (has_interrupt shape (Lpi id)) → t id ≡ target_in (irq_of (word_in shape state (Irq (Lpi id)))).route shape
  target_by id there =
      sym (now id) ∙ ap (λ s. target_in (irq_at ideal.guest (Lpi id)).route s) so.related.shape_is ∙ ap (λ r. target_in r shape) (sym (word_route shape state ideal id so.sound so.related there))

  found_first : AgreeFound (seen_after old first) t
  found_first = record { each = λ id there. subst (λ o. IfSome o (λ (made : Made). t id ≡ target_in (irq_of made.found).route shape)) (sym (first_is id there)) (of id there (find (is_on shape old.actor (Irq (Lpi id))) first) (first_found shape old.actor (Irq (Lpi id)) first state ideal here)) }
    where
      first_is : (id : ℕ) → IsTrue (has_interrupt shape (Lpi id)) → first_step (seen_after old first) id ≡ find (is_on shape old.actor (Irq (Lpi id))) first
      first_is id there = first_on old (seen_after old first) first id last_adds within ∙ ap (λ o. option_or o (find (is_on shape old.actor (Irq (Lpi id))) first)) (fresh.each id there).none

      of : (id : ℕ) → IsTrue (has_interrupt shape (Lpi id)) → (o : Option Made) → IfSome o (λ (made : Made). made.found ≡ word_in shape state (Irq (Lpi id))) → IfSome o (λ (made : Made). t id ≡ target_in (irq_of made.found).route shape)
      of id there None h = tt
      of id there (Some made) h = target_by id there ∙ ap (λ n. target_in (irq_of n).route shape) (sym h)

  -- with the step that ends it
  module _ (good : old.actor < actor_count (shape_of old)) (own : (seat_at state old.actor).own ≡ old.own) (ending : Made) (closes : IsTrue (ends_command ending.step))
      (here_end : IsHere (shape_of old) old.actor (after_steps (shape_of old) old.actor state first) (ideal_after (shape_of old) old.actor state ideal first) ending) (none : AreForNone ideal.guest) where
    pub tables_known : ideal.guest.tables ≡ known_maps old.own
    tables_known =
        so.related.maps ∙ sym (maps_within shape old.actor first state within)
        ∙ sym (here_end.sound.known old.actor good (turn_of shape old.actor (seat_at (after_steps shape old.actor state first) old.actor).local (seat_at (after_steps shape old.actor state first) old.actor).own ending.step closes here_end.takes.meets))
        ∙ ap known_maps (own_after_steps shape old.actor first state (subst (λ n. old.actor < n) (sym so.sound.actors) good) ∙ ap (λ xs. xs ++ first) own)
        ∙ maps_on old (seen_after old first) first last_adds within

    pub agrees_here : (end : Seen) → Adds old end first → AgreeWith end (known_maps old.own) t
    agrees_here end adds =
        subst (λ (s : Seen). AgreeWith s (known_maps old.own) t) (sym adds.new_is)
        (record { found = found_first; unmapped = λ id lost left. sym (now id) ∙ none id (ap (λ maps. has_target maps id) tables_known ∙ lost) })
