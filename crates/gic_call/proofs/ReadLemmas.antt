-- The reads of places in a piece: which of them are the last.
use Rattle.std.proofs.Common.{◌≡◌, ◌≢◌, ◌⊎◌, inl, inr, ℕ, ◌==◌, ◌&&◌, not, Bool, true, false, cond, IsTrue, All, List, [], ◌∷◌, ◌++◌, map, refl, sym, ap, subst, ◌∙◌}
use Rattle.std.specs.List.{list_all}
use Rattle.std.proofs.lemmas.Bool.{and_from, and_parts, cases_eq, eq-eqb}
use Rattle.std.proofs.lemmas.List.{append_assoc}
use Rattle.std.proofs.lemmas.List.Elements.{All-nil, All-cons, All-head, All-tail, All-append}
use Rattle.gic_open.specs.declared.plain.PlainWord.{PlainWord}
use Rattle.gic_open.specs.declared.plain.PlainWord.TheVariants.{Ram, Propbaser, Pendbaser, ItsCtlr, Cbaser, Cwriter, Baser0, Baser1, Fault}
use Rattle.gic_call.specs.declared.event.Event.{Event}
use Rattle.gic_call.specs.declared.event.Event.TheVariants.{Read}
use Rattle.gic_call.specs.declared.event.Place.{Place}
use Rattle.gic_call.specs.declared.event.Place.TheVariants.{Word, Queue as QueuePlace, Ctlr, Lpis}
use Rattle.gic_call.specs.declared.event.Found.{Found}
use Rattle.gic_call.specs.View.{View}
use Rattle.gic_call.specs.Trace.{Happened, held_at, IsLastRead}

-- Places are the same, or not.

abbrev word_tag : PlainWord → ℕ
word_tag (Ram index) = 0
word_tag (Propbaser vcpu) = 1
word_tag (Pendbaser vcpu) = 2
word_tag ItsCtlr = 3
word_tag Cbaser = 4
word_tag Cwriter = 5
word_tag Baser0 = 6
word_tag Baser1 = 7
word_tag Fault = 8

abbrev word_number : PlainWord → ℕ
word_number (Ram index) = index
word_number (Propbaser vcpu) = vcpu
word_number (Pendbaser vcpu) = vcpu
word_number word = 0

abbrev word_from : ℕ → ℕ → PlainWord
word_from tag number =
    cond (tag == 0) (Ram number)
    (cond (tag == 1) (Propbaser number)
    (cond (tag == 2) (Pendbaser number)
    (cond (tag == 3) ItsCtlr
    (cond (tag == 4) Cbaser
    (cond (tag == 5) Cwriter
    (cond (tag == 6) Baser0
    (cond (tag == 7) Baser1
    Fault)))))))

word_again : (word : PlainWord) → word_from (word_tag word) (word_number word) ≡ word
word_again (Ram index) = refl
word_again (Propbaser vcpu) = refl
word_again (Pendbaser vcpu) = refl
word_again ItsCtlr = refl
word_again Cbaser = refl
word_again Cwriter = refl
word_again Baser0 = refl
word_again Baser1 = refl
word_again Fault = refl

cases_word : (a b : PlainWord) → (a ≡ b) ⊎ (a ≢ b)
cases_word a b = elim (cases_eq (word_tag a) (word_tag b)) [
  | inl tags ↦ elim (cases_eq (word_number a) (word_number b)) [
    | inl numbers ↦ inl (sym (word_again a) ∙ ap (λ t. word_from t (word_number a)) tags ∙ ap (word_from (word_tag b)) numbers ∙ word_again b)
    | inr differ ↦ inr (λ e. differ (ap word_number e))
  ]
  | inr differ ↦ inr (λ e. differ (ap word_tag e))
]

of_words : (a b : PlainWord) → (a ≡ b) ⊎ (a ≢ b) → (Word a ≡ Word b) ⊎ (Word a ≢ Word b)
of_words a b (inl e) = inl (ap Word e)
of_words a b (inr differ) = inr (λ e. differ (cc))

of_vcpus : (a b : ℕ) → (a ≡ b) ⊎ (a ≢ b) → (Lpis a ≡ Lpis b) ⊎ (Lpis a ≢ Lpis b)
of_vcpus a b (inl e) = inl (ap Lpis e)
of_vcpus a b (inr differ) = inr (λ e. differ (cc))

pub cases_place : (p q : Place) → (p ≡ q) ⊎ (p ≢ q)
cases_place (Word a) (Word b) = of_words a b (cases_word a b)
cases_place (Word a) QueuePlace = inr (λ e. cc)
cases_place (Word a) Ctlr = inr (λ e. cc)
cases_place (Word a) (Lpis v) = inr (λ e. cc)
cases_place QueuePlace (Word b) = inr (λ e. cc)
cases_place QueuePlace QueuePlace = inl refl
cases_place QueuePlace Ctlr = inr (λ e. cc)
cases_place QueuePlace (Lpis v) = inr (λ e. cc)
cases_place Ctlr (Word b) = inr (λ e. cc)
cases_place Ctlr QueuePlace = inr (λ e. cc)
cases_place Ctlr Ctlr = inl refl
cases_place Ctlr (Lpis v) = inr (λ e. cc)
cases_place (Lpis u) (Word b) = inr (λ e. cc)
cases_place (Lpis u) QueuePlace = inr (λ e. cc)
cases_place (Lpis u) Ctlr = inr (λ e. cc)
cases_place (Lpis u) (Lpis v) = of_vcpus u v (cases_eq u v)

-- Reads of what a view has.

-- a read of a place that holds what the view has
abbrev pub read_of : View → Place → Happened
read_of view place = record { event = Read place; found = held_at view place }

-- no read of a place
abbrev pub NoRead : Place → Happened → Type 0
NoRead place happened = happened.event ≡ Read place → ⊥

-- a place is one of some places, or none of their reads is one of it
module _ (view : View) (P : Place → Type 0) (place : Place) where
  sought : (places : List Place) → (All P places → P place) ⊎ All (NoRead place) (map (read_of view) places)
  sought [] = inr (All-nil (NoRead place))
  sought (q ∷ places) = elim (cases_place place q) [
    | inl e ↦ inl (λ all. subst P (sym e) (All-head P q places all))
    | inr differ ↦ elim (sought places) [
      | inl later ↦ inl (λ all. later (All-tail P q places all))
      | inr none ↦ inr (All-cons (NoRead place) (read_of view q) (map (read_of view) places) (λ e. differ (sym (cc))) none)
    ]
  ]

-- the last read of each place found what the place holds, where no read of it follows
pub all_read : (view : View) (places : List Place) (before rest : List Happened) → ((place : Place) → All (NoRead place) rest) → All (λ place. IsLastRead place (held_at view place) (before ++ (map (read_of view) places ++ rest))) places
all_read view [] before rest none = All-nil (λ place. IsLastRead place (held_at view place) (before ++ rest))
all_read view (place ∷ places) before rest none =
    let piece = before ++ (read_of view place ∷ (map (read_of view) places ++ rest)) in
    let P : Place → Type 0 = λ p. IsLastRead p (held_at view p) piece in
    let later : All P places = subst (λ xs. All (λ p. IsLastRead p (held_at view p) xs) places) (append_assoc before (read_of view place ∷ []) (map (read_of view) places ++ rest)) (all_read view places (before ++ read_of view place ∷ []) rest none) in
    All-cons P place places
    (elim (sought view P place places) [
      | inl one ↦ one later
      | inr absent ↦ record { before = before; after = map (read_of view) places ++ rest; split = refl; last = All-append (NoRead place) (map (read_of view) places) rest absent (none place) }
    ])
    later

-- of the reads of some places and then of others
pub all_early : {X : Type 0} (P : X → Type 0) (xs ys : List X) → All P (xs ++ ys) → All P xs
all_early P [] ys all = All-nil P
all_early P (x ∷ xs) ys all = All-cons P x xs (All-head P x (xs ++ ys) all) (all_early P xs ys (All-tail P x (xs ++ ys) all))

pub all_late : {X : Type 0} (P : X → Type 0) (xs ys : List X) → All P (xs ++ ys) → All P ys
all_late P [] ys all = all
all_late P (x ∷ xs) ys all = all_late P xs ys (All-tail P x (xs ++ ys) all)

-- a last read stays the last where none follows
pub last_kept : (place : Place) (found : Found) (early late : List Happened) → IsLastRead place found early → All (NoRead place) late → IsLastRead place found (early ++ late)
last_kept place found early late is none = record {
  before = is.before;
  after = is.after ++ late;
  split = ap (λ xs. xs ++ late) is.split ∙ append_assoc is.before ((record { event = Read place; found = found }) ∷ is.after) late;
  last = All-append (NoRead place) is.after late is.last none;
}

-- Last reads that compute.

-- numbers that two different places do not share
abbrev place_code : Place → ℕ × ℕ
place_code (Word word) = (word_tag word, word_number word)
place_code QueuePlace = (9, 0)
place_code Ctlr = (10, 0)
place_code (Lpis vcpu) = (11, vcpu)

abbrev event_code : Event → ℕ × ℕ
event_code (Read place) = place_code place
event_code event = (12, 0)

abbrev same_code : ℕ × ℕ → ℕ × ℕ → Bool
same_code one other = one.0 == other.0 && one.1 == other.1

-- an event is no read of the place
abbrev pub is_no_read : Place → Happened → Bool
is_no_read place happened = not (same_code (event_code happened.event) (place_code place))

same_self : (code : ℕ × ℕ) → same_code code code ≡ true
same_self code = and_from (code.0 == code.0) (code.1 == code.1) (eq-eqb code.0 code.0 refl) (eq-eqb code.1 code.1 refl)

no_read : (place : Place) (happened : Happened) → IsTrue (is_no_read place happened) → happened.event ≡ Read place → ⊥
no_read place happened h e =
    let same : same_code (event_code happened.event) (place_code place) ≡ true = ap (λ event. same_code (event_code event) (place_code place)) e ∙ same_self (place_code place) in
    absurd (cc)

no_reads : (place : Place) (after : List Happened) → IsTrue (list_all (is_no_read place) after) → All (λ (happened : Happened). happened.event ≡ Read place → ⊥) after
no_reads place [] h = All-nil (λ (happened : Happened). happened.event ≡ Read place → ⊥)
no_reads place (one ∷ after) h =
    let both = and_parts (is_no_read place one) (list_all (is_no_read place) after) h in
    All-cons (λ (happened : Happened). happened.event ≡ Read place → ⊥) one after (no_read place one both.0) (no_reads place after both.1)

-- a read is the last of its place where none of the events after it is one
pub last_read : {place : Place} {found : Found} (before after : List Happened) → IsTrue (list_all (is_no_read place) after) → IsLastRead place found (before ++ (record { event = Read place; found = found }) ∷ after)
last_read {place} {found} before after h = record { before = before; after = after; split = refl; last = no_reads place after h }

-- and a read of it is one
pub is_read : (place : Place) (found : Found) → is_no_read place (record { event = Read place; found = found }) ≡ false
is_read place found = ap not (same_self (place_code place))
