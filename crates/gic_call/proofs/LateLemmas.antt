-- Of a call that goes by what it read from an event of its own on: it read each of its places after that event.
use Rattle.std.proofs.Common.{◌≡◌, ℕ, ◌&&◌, not, Bool, true, false, cond, All, List, [], ◌∷◌, ◌++◌, map, Option, refl, ap, ◌∙◌}
use Rattle.std.specs.List.{list_all}
use Rattle.std.proofs.lemmas.List.{append_assoc}
use Rattle.std.proofs.lemmas.List.Folds.{list_all-append}
use Rattle.std.proofs.lemmas.List.Elements.{All-weaker}
use Rattle.gic_call.specs.declared.event.Event.{Event}
use Rattle.gic_call.specs.declared.event.Event.TheVariants.{Read}
use Rattle.gic_call.specs.declared.event.Place.{Place}
use Rattle.gic_call.specs.declared.event.Found.{Found}
use Rattle.gic_call.specs.View.{View}
use Rattle.gic_call.specs.Trace.{Happened, held_at, named_of, is_beside, IsLastRead, MakesAfter}
use Rattle.gic_call.proofs.ReadLemmas.{is_no_read, is_read}

-- a place is read after the first event that is named
abbrev pub reads_late : Option ℕ → Place → List Happened → Bool
reads_late actor place [] = false
reads_late actor place (happened ∷ piece) = cond (is_beside actor happened.event) (reads_late actor place piece) (not (list_all (is_no_read place) piece))

-- a read among some events
read_there : (place : Place) (found : Found) (piece more : List Happened) → IsLastRead place found piece → list_all (is_no_read place) (piece ++ more) ≡ false
read_there place found piece more is =
    let one : Happened = record { event = Read place; found = found } in
    ap (λ p. list_all (is_no_read place) (p ++ more)) is.split ∙ ap (list_all (is_no_read place)) (append_assoc is.before (one ∷ is.after) more)
    ∙ list_all-append (is_no_read place) is.before (one ∷ (is.after ++ more)) ∙ ap (λ b. list_all (is_no_read place) is.before && (b && list_all (is_no_read place) (is.after ++ more))) (is_read place found)
    ∙ none (list_all (is_no_read place) is.before)
  where
    none : (b : Bool) → (b && false) ≡ false
    none true = refl
    none false = refl

late_in : (actor : Option ℕ) (place : Place) (event : Event) (begin late : List Happened) → map (λ (h : Happened). h.event) (named_of actor begin) ≡ event ∷ [] → ((early : List Happened) → list_all (is_no_read place) (early ++ late) ≡ false) → reads_late actor place (begin ++ late) ≡ true
late_in actor place event [] late named there = absurd (cc)
late_in actor place event (one ∷ begin) late named there = of (is_beside actor one.event) refl named (late_in actor place event begin late)
  where
    of : (b : Bool) → is_beside actor one.event ≡ b → map (λ (h : Happened). h.event) (cond (not b) (one ∷ named_of actor begin) (named_of actor begin)) ≡ event ∷ []
        → (map (λ (h : Happened). h.event) (named_of actor begin) ≡ event ∷ [] → ((early : List Happened) → list_all (is_no_read place) (early ++ late) ≡ false) → reads_late actor place (begin ++ late) ≡ true) → reads_late actor place (one ∷ (begin ++ late)) ≡ true
    of true e named later = ap (λ b. cond b (reads_late actor place (begin ++ late)) (not (list_all (is_no_read place) (begin ++ late)))) e ∙ later named there
    of false e named later = ap (λ b. cond b (reads_late actor place (begin ++ late)) (not (list_all (is_no_read place) (begin ++ late)))) e ∙ ap not (there begin)

pub late_reads : {actor : Option ℕ} {view : View} {first : Event} {events : List Event} {places : List Place} {piece : List Happened} (more : List Happened) → MakesAfter actor view first events places piece → All (λ place. reads_late actor place (piece ++ more) ≡ true) places
late_reads {actor} {view} {first} {events} {places} {piece} more is =
    All-weaker (λ place. IsLastRead place (held_at view place) is.rest) (λ place. reads_late actor place (piece ++ more) ≡ true)
    (λ place last.
    ap (λ p. reads_late actor place (p ++ more)) is.split ∙ ap (reads_late actor place) (append_assoc is.begin is.rest more)
    ∙ late_in actor place first is.begin (is.rest ++ more) is.begun.events_are (λ early. after early place (read_there place (held_at view place) is.rest more last)))
    places is.made.reads
  where
    after : (early : List Happened) (place : Place) → list_all (is_no_read place) (is.rest ++ more) ≡ false → list_all (is_no_read place) (early ++ (is.rest ++ more)) ≡ false
    after early place e = list_all-append (is_no_read place) early (is.rest ++ more) ∙ ap (λ b. list_all (is_no_read place) early && b) e ∙ none (list_all (is_no_read place) early)
      where
        none : (b : Bool) → (b && false) ≡ false
        none true = refl
        none false = refl
