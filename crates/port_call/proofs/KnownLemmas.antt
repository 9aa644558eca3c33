-- What an actor still knows of the guest's words after more steps.
use Rattle.std.proofs.Common.{◌≡◌, ◌≢◌, ℕ, ◌==◌, Bool, true, false, if◌then◌else◌, IsTrue, List, [], ◌∷◌, ◌++◌, fold, Option, Some, None, is_some, is_none, unwrap_or, append-nil, refl, sym, ap, ◌∙◌}
use Rattle.std.specs.List.{list_all}
use Rattle.std.proofs.lemmas.Bool.{and_parts, eqb-true, false_from_ne_true}
use Rattle.std.proofs.lemmas.List.{append_assoc}
use Rattle.std.proofs.lemmas.List.Sums.{fold-append}
use Rattle.floor_core.specs.Words.{GuestShape, IsShape}
use Rattle.floor_core.specs.Registers.{Maps}
use Rattle.floor_core.specs.Core.{Made, CoreStep, CommandDone, WordId, is_on, known, no_maps, maps_by_step, maps_after, known_maps, since_turn, has_word, place_of_word}
use Rattle.floor_core.proofs.PortCore.PlaceLemmas.{word_same}
use Rattle.port_call.specs.Piece.{takes_none}

-- Words.

-- different words have different places
pub places_apart : (shape : GuestShape) (v w : WordId) → IsShape shape → IsTrue (has_word shape v) → IsTrue (has_word shape w) → v ≢ w → (place_of_word shape v == place_of_word shape w) ≡ false
places_apart shape v w good there other differ = false_from_ne_true (place_of_word shape v == place_of_word shape w) (λ e. differ (word_same shape v w good there other (eqb-true (place_of_word shape v) (place_of_word shape w) e)))

-- steps on other words leave it as it was known
abbrev pub are_off : GuestShape → ℕ → WordId → List Made → Bool
are_off shape actor word part = list_all (λ made. if is_on shape actor word made then false else true) part

last_of : GuestShape → ℕ → WordId → Option ℕ → Made → Option ℕ
last_of shape actor word last made = if is_on shape actor word made then Some made.left else last

kept_from : (shape : GuestShape) (actor : ℕ) (word : WordId) (last : Option ℕ) (part : List Made) → IsTrue (are_off shape actor word part) → fold (last_of shape actor word) last part ≡ last
unfolding last_of
kept_from shape actor word last [] off = refl
kept_from shape actor word last (made ∷ part) off =
    let parts = and_parts (if is_on shape actor word made then false else true) (are_off shape actor word part) off in
    ap (λ from. fold (last_of shape actor word) from part) (of (is_on shape actor word made) parts.0) ∙ kept_from shape actor word last part parts.1
  where
    of : (b : Bool) → IsTrue (if b then false else true) → (if b then Some made.left else last) ≡ last
    of true h = absurd (cc)
    of false h = refl

pub known_kept : (shape : GuestShape) (actor : ℕ) (word : WordId) (own part : List Made) → IsTrue (are_off shape actor word part) → known shape actor (own ++ part) word ≡ known shape actor own word
unfolding last_of
known_kept shape actor word own part off = fold-append (last_of shape actor word) None own part ∙ kept_from shape actor word (known shape actor own word) part off

-- The turn.

none_is : (o : Option Maps) → IsTrue (is_none o) → o ≡ None
none_is None h = refl
none_is (Some maps) h = absurd (cc)

since_made : List Made → Made → List Made
since_made kept made = if is_some made.tables then made ∷ [] else kept ++ made ∷ []

since_from : (kept part : List Made) → IsTrue (takes_none part) → fold since_made kept part ≡ kept ++ part
unfolding since_made
since_from kept [] none = sym (append-nil kept)
since_from kept (made ∷ part) none =
    let parts = and_parts (is_none made.tables) (takes_none part) none in
    ap (λ tables. fold since_made (if is_some tables then made ∷ [] else kept ++ made ∷ []) part) (none_is made.tables parts.0) ∙ since_from (kept ++ made ∷ []) part parts.1 ∙ append_assoc kept (made ∷ []) part

-- steps that do not take the ITS come after the one that took it last
pub since_turn_on : (own part : List Made) → IsTrue (takes_none part) → since_turn (own ++ part) ≡ since_turn own ++ part
unfolding since_made
since_turn_on own part none = fold-append since_made [] own part ∙ since_from (since_turn own) part none

-- Maps.

-- a step ends no good command
abbrev pub ends_none : CoreStep → Bool
ends_none (CommandDone offset stalled (Some words)) = false
ends_none step = true

abbrev pub are_endless : List Made → Bool
are_endless part = list_all (λ made. ends_none made.step) part

same_by_step : (maps : Maps) (step : CoreStep) → IsTrue (ends_none step) → maps_by_step maps step ≡ maps
same_by_step maps (CommandDone offset stalled (Some words)) h = absurd (cc)
same_by_step maps (CommandDone offset stalled None) h = refl
same_by_step maps _ h = refl

maps_from : (maps : Maps) (part : List Made) → IsTrue (takes_none part) → IsTrue (are_endless part) → fold maps_after maps part ≡ maps
maps_from maps [] none ends = refl
maps_from maps (made ∷ part) none ends =
    let nones = and_parts (is_none made.tables) (takes_none part) none in
    let parts = and_parts (ends_none made.step) (are_endless part) ends in
    ap (λ from. fold maps_after from part) (ap (λ tables. unwrap_or tables (maps_by_step maps made.step)) (none_is made.tables nones.0) ∙ same_by_step maps made.step parts.0) ∙ maps_from maps part nones.1 parts.1

-- steps that neither take the ITS nor end a good command leave the maps as they are known
pub maps_kept : (own part : List Made) → IsTrue (takes_none part) → IsTrue (are_endless part) → known_maps (own ++ part) ≡ known_maps own
maps_kept own part none ends = fold-append maps_after no_maps own part ∙ maps_from (known_maps own) part none ends

-- An actor that took the ITS.

-- what it did since then is the step that took it
pub since_taken : (own misses : List Made) (last : Made) (maps : Maps) → last.tables ≡ Some maps → since_turn (own ++ (misses ++ last ∷ [])) ≡ last ∷ []
unfolding since_made
since_taken own misses last maps handed =
    ap since_turn (sym (append_assoc own misses (last ∷ [])))
    ∙ fold-append since_made [] (own ++ misses) (last ∷ [])
    ∙ ap (λ tables. if is_some tables then last ∷ [] else since_turn (own ++ misses) ++ last ∷ []) handed

-- and it knows the maps that it was handed
pub maps_handed : (own misses : List Made) (last : Made) (maps : Maps) → last.tables ≡ Some maps → known_maps (own ++ (misses ++ last ∷ [])) ≡ maps
maps_handed own misses last maps handed =
    ap known_maps (sym (append_assoc own misses (last ∷ [])))
    ∙ fold-append maps_after no_maps (own ++ misses) (last ∷ [])
    ∙ ap (λ tables. unwrap_or tables (maps_by_step (known_maps (own ++ misses)) last.step)) handed
