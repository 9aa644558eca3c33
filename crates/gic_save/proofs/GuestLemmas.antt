-- The guests of an image, one after the other.
use Rattle.std.proofs.Common.{◌≡◌, ℕ, ◌+◌, ◌<◌, ◌≤◌, List, [], ◌∷◌, ◌++◌, drop, length, get_or, map, refl, ap, ◌∙◌, sym}
use Rattle.std.proofs.lemmas.List.{append-nil, append_assoc, drop_all, drop_more, map-append}
use Rattle.serde_json.specs.Data.{Data}
use Rattle.serde_json.specs.View.{view}
use Rattle.serde_json.specs.declared.value.Value.{Value}
use Rattle.scn_saved.specs.GicGuest.declared.guest.GuestSpec.{GuestSpec}
use Rattle.scn_saved.specs.declared.state.GuestState.{GuestState}
use Rattle.gic_save.specs.Image.{guest_data, guests_data}

-- those from a number on are the one of the number and those after it
pub guests_step : (values next : List Value) (value : Value) (specs : List GuestSpec) (states : List GuestState) (n : ℕ) (spec : GuestSpec) (state : GuestState) → n < length specs → n < length states → spec ≡ get_or specs n spec
    → state ≡ get_or states n state → next ≡ values ++ value ∷ [] → view value ≡ guest_data spec state
    → map view next ++ guests_data (drop (n + 1) specs) (drop (n + 1) states) ≡ map view values ++ guests_data (drop n specs) (drop n states)
guests_step values next value specs states n spec state there here g s pushed e =
    let rest : List Data = guests_data (drop (n + 1) specs) (drop (n + 1) states) in
    let left : drop n specs ≡ spec ∷ drop (n + 1) specs = drop_more specs n spec there ∙ ap (λ x. x ∷ drop (n + 1) specs) (sym g) in
    let right : drop n states ≡ state ∷ drop (n + 1) states = drop_more states n state here ∙ ap (λ x. x ∷ drop (n + 1) states) (sym s) in
    let split : guests_data (drop n specs) (drop n states) ≡ guest_data spec state ∷ rest = rw left (rw right refl) in
    ap (λ xs. map view xs ++ rest) pushed
    ∙ ap (λ xs. xs ++ rest) (map-append view values (value ∷ []))
    ∙ append_assoc (map view values) (view value ∷ []) rest
    ∙ ap (λ x. map view values ++ (x ∷ rest)) e
    ∙ ap (λ xs. map view values ++ xs) (sym split)

-- past the last one there are none
pub guests_done : (values : List Value) (specs : List GuestSpec) (states : List GuestState) (n : ℕ) → length specs ≤ n → map view values ++ guests_data (drop n specs) (drop n states) ≡ guests_data specs states → map view values ≡ guests_data specs states
guests_done values specs states n past told =
    let none : drop n specs ≡ [] = drop_all n specs past in
    sym (append-nil (map view values)) ∙ ap (λ rest. map view values ++ guests_data rest (drop n states)) (sym none) ∙ told
