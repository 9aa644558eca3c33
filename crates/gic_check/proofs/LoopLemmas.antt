-- Loops over the LPIs, over events and over actors.
use Rattle.std.proofs.Common.{◌≡◌, ℕ, ◌+◌, ◌<◌, ◌≤◌, List, [], ◌∷◌, ◌++◌, map, fold, length, slice_set, Some, None, IsTrue, refl, sym, ap, ◌∙◌, subst, add-one, arith, inl, inr}
use Rattle.std.specs.List.{range_with_len}
use Rattle.std.specs.Option.{option_map_or}
use Rattle.std.proofs.lemmas.Bool.{cases_eq}
use Rattle.std.proofs.lemmas.List.{map-append, length-set, get_or-set_same, get_or-set_other, set-get_or}
use Rattle.trace_told.specs.Words.{GuestShape}
use Rattle.trace_told.specs.Calls.{Event, Operation, Happened}
use Rattle.trace_told.specs.Histories.{doing_of}
use Rattle.trace_told.specs.LegalPlay.Board.{BoardOf}
use Rattle.trace_told.specs.LegalPlay.Pieces.{piece_of}
use Rattle.trace_told.specs.LegalPlay.Answering.{AreGood}
use Rattle.trace_told.proofs.LegalPlay.LegalSteps.GicCall.RangeLemmas.{range_with_len_more}
use Rattle.trace_told.specs.LegalPlay.HistoryPlay.HistoryCalls.Exact.{is_good}
use Rattle.history_turns.specs.Noted.{NotedOf, place_by}
use Rattle.gic_check.specs.Notes.{nothing_noted, noted_of, is_midway_in, of_each, rising_in, later_seen, seen_later, noted_made}
use Rattle.gic_check.specs.Play.{note_made, notes_made, note_seen, AreSeen}

pub mapped_more : {X : Type 0} (f : ℕ → X) (n : ℕ) (all next : List X) → all ≡ map f (range_with_len 0 n) → next ≡ all ++ f n ∷ [] → next ≡ map f (range_with_len 0 (n + 1))
mapped_more f n all next so more =
    let further : range_with_len 0 (n + 1) ≡ range_with_len 0 n ++ n ∷ [] = rw add-one (range_with_len_more 0 n n (omega arith)) in
    more ∙ (ap (λ xs. xs ++ f n ∷ []) so ∙ sym (ap (map f) further ∙ map-append f (range_with_len 0 n) (n ∷ [])))

-- events of a piece, one after the other
pub folded : {X : Type 0} (f : X → Event → X) (x : X) (piece : List Happened) → fold (λ a (h : Happened). f a h.event) x piece ≡ fold f x (map (λ (h : Happened). h.event) piece)
folded f x [] = refl
folded f x (h ∷ piece) = folded f (f x h.event) piece

-- of a call that does not set EnableLPIs nothing further is noted
pub unseen : (board : BoardOf) (notes : List NotedOf) (actor : ℕ) → rising_in board.state.guest.shape (doing_of board.track actor).operation ≡ None → notes ≡ slice_set notes actor (note_seen board actor (noted_of notes actor))
unseen board notes actor none =
    let noted = noted_of notes actor in
    let same : note_seen board actor noted ≡ noted =
    ap (λ rising. record noted { targets = seen_later board.state rising (piece_of board.pieces actor) noted }) none in
    sym (ap (slice_set notes actor) same ∙ set-get_or notes actor nothing_noted)

-- so many actors noted what they see
pub record AreSeenTo (board : BoardOf) (before after : List NotedOf) (count : ℕ) : Type 0 where
  pub rooms : length after ≡ length before
  pub each : (actor : ℕ) → actor < count → actor < length before → noted_of after actor ≡ note_seen board actor (noted_of before actor)
  pub rest : (actor : ℕ) → count ≤ actor → noted_of after actor ≡ noted_of before actor

pub none_seen : (board : BoardOf) (before : List NotedOf) → AreSeenTo board before before 0
none_seen board before = record { rooms = refl; each = λ actor below within. absurd (omega (arith, below)); rest = λ actor past. refl }

pub one_seen : (board : BoardOf) (before mid after : List NotedOf) (i : ℕ) → i < length before → AreSeenTo board before mid i → after ≡ slice_set mid i (note_seen board i (noted_of mid i)) → AreSeenTo board before after (i + 1)
one_seen board before mid after i there so is = record {
  rooms = ap length is ∙ (length-set mid i _ ∙ so.rooms);
  each = λ actor below within. elim (cases_eq actor i) [
    | inl same ↦ ap (λ a. noted_of after a) same ∙ (here ∙ sym (ap (λ a. note_seen board a (noted_of before a)) same))
    | inr differ ↦ other actor differ ∙ so.each actor (omega (arith, below, differ)) within
  ];
  rest = λ actor past. other actor (omega (arith, past)) ∙ so.rest actor (omega (arith, past));
}
  where
    here : noted_of after i ≡ note_seen board i (noted_of before i)
    here =
        let rooms = so.rooms in
        ap (λ ns. noted_of ns i) is ∙ (get_or-set_same mid i (note_seen board i (noted_of mid i)) nothing_noted (omega (arith, there, rooms)) ∙ ap (note_seen board i) (so.rest i (omega arith)))

    other : (actor : ℕ) → (actor ≡ i → ⊥) → noted_of after actor ≡ noted_of mid actor
    other actor differ = ap (λ ns. noted_of ns actor) is ∙ get_or-set_other mid i actor _ nothing_noted differ

pub all_seen : (board : BoardOf) (before after : List NotedOf) (count : ℕ) → length before ≤ count → AreSeenTo board before after count → AreSeen board before after
all_seen board before after count many so = record { rooms = so.rooms; each = λ actor within. so.each actor (omega (arith, within, many)) within }

-- What one actor notes.

pub good_here : (b : BoardOf) (s : GuestShape) (actor : ℕ) (operation : Operation) → AreGood b.state.guest.shape b.track → s ≡ b.state.guest.shape → (doing_of b.track actor).operation ≡ Some operation → IsTrue (is_good s operation)
good_here b s actor operation good same busy = subst (λ x. IsTrue (is_good x operation)) (sym same) (good actor operation busy)

module _ (b : BoardOf) (notes after : List NotedOf) (actor : ℕ) where
  pub made_none : (all : List (List ℕ)) (event : Event) → (doing_of b.track actor).operation ≡ None → notes ≡ notes_made b all actor event notes
  made_none all event idle = sym (ap (λ o. option_map_or (λ operation. slice_set notes actor (note_made b all actor event (noted_of notes actor) operation)) o notes) idle)

  pub made_is : (all : List (List ℕ)) (event : Event) (operation : Operation) (piece : List Happened) (noted next : NotedOf) → (doing_of b.track actor).operation ≡ Some operation → piece ≡ piece_of b.pieces actor → noted ≡ noted_of notes actor
      → next ≡ noted_made b.state all (is_midway_in b.state b.pieces) operation piece event noted → after ≡ slice_set notes actor next → after ≡ notes_made b all actor event notes
  made_is all event operation piece noted next busy made same is set =
      set
      ∙ (ap (slice_set notes actor) (is ∙ (ap (λ p. noted_made b.state all (is_midway_in b.state b.pieces) operation p event noted) made ∙ ap (noted_made b.state all (is_midway_in b.state b.pieces) operation (piece_of b.pieces actor) event) same))
      ∙ sym (ap (λ o. option_map_or (λ operation. slice_set notes actor (note_made b all actor event (noted_of notes actor) operation)) o notes) busy))

  pub seen_is : (vcpu : ℕ) (piece : List Happened) (noted next : NotedOf) → rising_in b.state.guest.shape (doing_of b.track actor).operation ≡ Some vcpu → piece ≡ piece_of b.pieces actor → noted ≡ noted_of notes actor
      → next ≡ record noted { targets = of_each b.state.guest.shape (later_seen b.state vcpu (place_by piece) noted) } → after ≡ slice_set notes actor next → after ≡ slice_set notes actor (note_seen b actor (noted_of notes actor))
  seen_is vcpu piece noted next rises made same is set =
      set
      ∙ ap (slice_set notes actor)
      (is
      ∙ (ap (λ p. record noted { targets = of_each b.state.guest.shape (later_seen b.state vcpu (place_by p) noted) }) made
      ∙ (sym (ap (λ rising. record noted { targets = seen_later b.state rising (piece_of b.pieces actor) noted }) rises) ∙ ap (note_seen b actor) same)))
