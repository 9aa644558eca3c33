-- Steps about an LPI, and what they leave.
use Rattle.std.proofs.Common.{◌≡◌, ◌≢◌, ℕ, ◌+◌, ◌/◌, ◌<◌, ◌≤◌, ◌⊎◌, inl, inr, ◌==◌, not, false, nat_lt, nat_le, IsTrue, List, [], ◌∷◌, ◌++◌, map, refl, sym, ap, subst, ◌∙◌, arith}
use Rattle.std.specs.List.{list_all}
use Rattle.std.proofs.lemmas.Bool.{and_parts, ltb-true, leb-true, ne_eqb}
use Rattle.std.proofs.lemmas.List.{map-append}
use Rattle.std.proofs.lemmas.List.Folds.{list_all-append}
use Rattle.port_call.specs.Registers.{Targets}
use Rattle.port_call.specs.Words.{Key, Lpi, GuestShape, has_interrupt, interrupt_count, is_same_key}
use Rattle.port_call.proofs.GicBase.KeyLemmas.{same_key, same_itself}
use Rattle.port_call.specs.Calls.{place_of_plain, plain_count, Ram, Propbaser, Pendbaser, ItsCtlr, Cbaser, Cwriter, Baser0, Baser1, Fault, Place}
use Rattle.port_call.specs.GicCall.declared.event.Place.TheVariants.{Word, Queue as QueuePlace, Ctlr as CtlrPlace, Lpis}
use Rattle.port_call.specs.Core.{Made, CoreStep, Look, Raise, Touch, Want, Mark, Kick, Irq, ends_command, place_of_word, plain_from, blocks_from, no_vcpus, word_of, Seen, Adds, shape_of}
use Rattle.port_call.proofs.PortCore.PlaceLemmas.{lines_hold}
use Rattle.port_call.specs.About.{is_about, are_about}
use Rattle.port_call.specs.Piece.{steps_of, takes_none}
use Rattle.port_call.specs.Tell.{TellsOf, told}
use Rattle.its_exec.specs.Known.{KnowsSame, IsUntouched, are_within, are_going, keeps_read, is_fetched}
use Rattle.its_exec.specs.Config.{is_kept}
use Rattle.its_exec.proofs.FrameLemmas.{both, word_of_place, leaves, same_by, within_by, going_by, untouched_on, all_steps, off_each}
use Rattle.its_exec.proofs.LookLemmas.{lpi_place}

-- a step about it is on its word, or on a word of a vCPU
about_place : (shape : GuestShape) (actor id : ℕ) (step : CoreStep) → IsTrue (is_about (Lpi id) step)
    → (place_of_word shape (word_of shape actor step) ≡ place_of_word shape (Irq (Lpi id))) ⊎ (blocks_from shape ≤ place_of_word shape (word_of shape actor step))
about_place shape actor id (Look (Irq other)) h = inl (ap (λ k. place_of_word shape (Irq k)) (sym (same_key (Lpi id) other h)))
about_place shape actor id (Raise other) h = inl (ap (λ k. place_of_word shape (Irq k)) (sym (same_key (Lpi id) other h)))
about_place shape actor id (Touch other seen kind) h = inl (ap (λ k. place_of_word shape (Irq k)) (sym (same_key (Lpi id) other h)))
about_place shape actor id (Want other) h = inl (ap (λ k. place_of_word shape (Irq k)) (sym (same_key (Lpi id) other h)))
about_place shape actor id (Mark other vcpu) h = inr (omega arith)
about_place shape actor id (Kick vcpu) h = inr (omega arith)
about_place shape actor id _ h = absurd (cc)

about_ends_none : (id : ℕ) (part : List Made) → IsTrue (are_about (Lpi id) part) → IsTrue (list_all (λ made. not (ends_command made.step)) part)
about_ends_none id [] h = refl
about_ends_none id (made ∷ part) h =
    let parts = and_parts (is_about (Lpi id) made.step) (are_about (Lpi id) part) h in
    both (not (ends_command made.step)) (list_all (λ made. not (ends_command made.step)) part) (of made.step parts.0) (about_ends_none id part parts.1)
  where
    of : (step : CoreStep) → IsTrue (is_about (Lpi id) step) → IsTrue (not (ends_command step))
    of (Look word) k = refl
    of (Raise other) k = refl
    of (Touch other seen kind) k = refl
    of (Want other) k = refl
    of (Mark other vcpu) k = refl
    of (Kick vcpu) k = refl
    of _ k = absurd (cc)

about_keeps : (id : ℕ) (part : List Made) → IsTrue (are_about (Lpi id) part) → IsTrue (list_all (λ made. keeps_read made.step) part)
about_keeps id [] h = refl
about_keeps id (made ∷ part) h =
    let parts = and_parts (is_about (Lpi id) made.step) (are_about (Lpi id) part) h in
    both (keeps_read made.step) (list_all (λ made. keeps_read made.step) part) (of made.step parts.0) (about_keeps id part parts.1)
  where
    of : (step : CoreStep) → IsTrue (is_about (Lpi id) step) → IsTrue (keeps_read step)
    of (Look word) k = refl
    of (Raise other) k = refl
    of (Touch other seen kind) k = refl
    of (Want other) k = refl
    of (Mark other vcpu) k = refl
    of (Kick vcpu) k = refl
    of _ k = absurd (cc)

pub about_going : (id : ℕ) (part : List Made) → IsTrue (are_about (Lpi id) part) → IsTrue (takes_none part) → IsTrue (are_going part)
about_going id part about none = going_by part none (about_keeps id part about)

pub about_within : (id : ℕ) (part : List Made) → IsTrue (are_about (Lpi id) part) → IsTrue (takes_none part) → IsTrue (are_within part)
about_within id part about none = within_by part none (about_ends_none id part about)

-- what is kept has a place between the interrupts and the words of the vCPUs
record IsBetween (shape : GuestShape) (place : ℕ) : Type 0 where
  after : interrupt_count shape ≤ place
  before : place < blocks_from shape

plain_between : (shape : GuestShape) (n : ℕ) → n < plain_count shape → IsBetween shape (plain_from shape + n)
plain_between shape n h = let hold = lines_hold (plain_from shape + plain_count shape) in record { after = omega arith; before = omega (arith, hold, h) }

kept_between : (shape : GuestShape) (address : ℕ) (place : Place) → IsTrue (is_kept shape address place) → IsBetween shape (place_of_word shape (word_of_place shape place))
kept_between shape address QueuePlace h = let hold = lines_hold (plain_from shape + plain_count shape) in record { after = omega arith; before = omega (arith, hold) }
kept_between shape address (Word (Ram index)) h =
    let inside = ltb-true index (shape.ram / 8) (and_parts (is_fetched address index) (nat_lt index (shape.ram / 8)) h).1 in plain_between shape index (omega (arith, inside))
kept_between shape address (Word (Propbaser v)) h = absurd (cc)
kept_between shape address (Word (Pendbaser v)) h = absurd (cc)
kept_between shape address (Word ItsCtlr) h = plain_between shape (place_of_plain shape ItsCtlr) (omega arith)
kept_between shape address (Word Cbaser) h = plain_between shape (place_of_plain shape Cbaser) (omega arith)
kept_between shape address (Word Cwriter) h = plain_between shape (place_of_plain shape Cwriter) (omega arith)
kept_between shape address (Word Baser0) h = plain_between shape (place_of_plain shape Baser0) (omega arith)
kept_between shape address (Word Baser1) h = plain_between shape (place_of_plain shape Baser1) (omega arith)
kept_between shape address (Word Fault) h = plain_between shape (place_of_plain shape Fault) (omega arith)
kept_between shape address CtlrPlace h = absurd (cc)
kept_between shape address (Lpis v) h = absurd (cc)

apart_between : (shape : GuestShape) (id m place : ℕ) → IsTrue (has_interrupt shape (Lpi id)) → (m ≡ place_of_word shape (Irq (Lpi id))) ⊎ (blocks_from shape ≤ m) → IsBetween shape place → (m == place) ≡ false
apart_between shape id m place there (inl same) between = let lt = lpi_place shape id there in ne_eqb m place (λ e. omega (arith, e, same, lt, between.after))
apart_between shape id m place there (inr above) between = ne_eqb m place (λ e. omega (arith, e, above, between.before))

pub about_same : (old new : Seen) (address id : ℕ) (part : List Made) (place : Place) → IsTrue (has_interrupt (shape_of old) (Lpi id)) → IsTrue (are_about (Lpi id) part) → Adds old new part → IsTrue (takes_none part)
    → IsTrue (is_kept (shape_of old) address place) → KnowsSame old new place
about_same old new address id part place there about add none kept =
    let shape = shape_of old in
    let word = word_of_place shape place in
    same_by old new place
    (leaves old new part place add none
    (off_each shape old.actor word (is_about (Lpi id)) (λ step h. apart_between shape id (place_of_word shape (word_of shape old.actor step)) (place_of_word shape word) there (about_place shape old.actor id step h) (kept_between shape address place kept)) part
    (sym (all_steps (is_about (Lpi id)) part) ∙ about)))

-- another LPI's word stays as it was
other_apart : (shape : GuestShape) (id other m : ℕ) → IsTrue (has_interrupt shape (Lpi id)) → IsTrue (has_interrupt shape (Lpi other)) → other ≢ id → (m ≡ place_of_word shape (Irq (Lpi id))) ⊎ (blocks_from shape ≤ m)
    → (m == place_of_word shape (Irq (Lpi other))) ≡ false
other_apart shape id other m there its differ (inl same) =
    let one = and_parts (nat_le 8192 id) (nat_lt id (8192 + shape.lpis)) there in
    let two = and_parts (nat_le 8192 other) (nat_lt other (8192 + shape.lpis)) its in
    let low = leb-true 8192 id one.0 in
    let lower = leb-true 8192 other two.0 in
    ne_eqb m (place_of_word shape (Irq (Lpi other))) (λ e. differ (omega (arith, e, same, low, lower)))
other_apart shape id other m there its differ (inr above) =
    let lt = lpi_place shape other its in
    let hold = lines_hold (plain_from shape + plain_count shape) in
    ne_eqb m (place_of_word shape (Irq (Lpi other))) (λ e. omega (arith, e, above, lt, hold))

pub about_untouched : (old new : Seen) (id other : ℕ) (part : List Made) → IsTrue (has_interrupt (shape_of old) (Lpi id)) → IsTrue (has_interrupt (shape_of old) (Lpi other)) → other ≢ id → IsTrue (are_about (Lpi id) part) → Adds old new part
    → IsTrue (takes_none part) → IsUntouched old other → IsUntouched new other
about_untouched old new id other part there its differ about add none is =
    let shape = shape_of old in
    untouched_on old new part other add (about_within id part about none)
    (off_each shape old.actor (Irq (Lpi other)) (is_about (Lpi id)) (λ step h. other_apart shape id other (place_of_word shape (word_of shape old.actor step)) there its differ (about_place shape old.actor id step h)) part (sym (all_steps (is_about (Lpi id)) part) ∙ about)) is

-- a raise, and what is told of it
all_marks : (key : Key) (vcpus : List ℕ) → IsTrue (list_all (is_about key) (map (Mark key) vcpus))
all_marks key [] = refl
all_marks key (v ∷ vcpus) = both (is_same_key key key) (list_all (is_about key) (map (Mark key) vcpus)) (same_itself key) (all_marks key vcpus)

all_kicks : (key : Key) (vcpus : List ℕ) → IsTrue (list_all (is_about key) (map Kick vcpus))
all_kicks key [] = refl
all_kicks key (v ∷ vcpus) = all_kicks key vcpus

pub tells_about : (shape : GuestShape) (owed : Targets) (key : Key) (part : List Made) → TellsOf shape owed (Raise key) key part → IsTrue (are_about key part)
tells_about shape owed key part form =
    let By : List Made → Type 0 = λ part. IsTrue (are_about key part) in
    let marks : List CoreStep = map (Mark key) (told shape no_vcpus form.change.found) in
    let kicks : List CoreStep = map Kick (told shape owed form.change.found) in
    let steps : steps_of (form.change ∷ (form.marks ++ form.kicks)) ≡ Raise key ∷ (marks ++ kicks)
    = ap (λ step. step ∷ steps_of (form.marks ++ form.kicks)) form.change_is
    ∙ ap (λ steps. Raise key ∷ steps) (map-append (λ made. made.step) form.marks form.kicks ∙ ap (λ steps. steps ++ steps_of form.kicks) form.marks_are ∙ ap (λ steps. marks ++ steps) form.kicks_are) in
    subst By (sym form.part_is)
    (ap (list_all (is_about key)) steps
    ∙ both (is_same_key key key) (list_all (is_about key) (marks ++ kicks)) (same_itself key)
    (list_all-append (is_about key) marks kicks
    ∙ both (list_all (is_about key) marks) (list_all (is_about key) kicks) (all_marks key (told shape no_vcpus form.change.found)) (all_kicks key (told shape owed form.change.found))))
