-- The calls among some parts.
use Rattle.std.proofs.Common.{◌≡◌, ℕ, not, Bool, false, if◌then◌else◌, All, List, [], ◌∷◌, ◌++◌, map, filter, Option, refl, ap, ◌∙◌}
use Rattle.std.proofs.lemmas.List.{map-append}
use Rattle.std.proofs.lemmas.List.Elements.{All-head, All-tail, filter-append}
use Rattle.law_ends_agree.specs.Calls.{Operation, Residence}
use Rattle.law_one_thread_is_eager.specs.LawSerialIsEager.Serial.{WholePart}
use Rattle.law_one_thread_is_eager.specs.PePlace.Parts.{AreResidences, HaveCall, by_actor}
use Rattle.run_seq.specs.StepCalls.{CallMade, call_made, calls_among, is_residence}

pub calls_append : (early late : List WholePart) → calls_among (early ++ late) ≡ calls_among early ++ calls_among late
calls_append early late =
    let Calls : WholePart → Bool = λ part. not (is_residence part.operation) in
    ap (map call_made) (filter-append Calls early late) ∙ map-append call_made (filter Calls early) (filter Calls late)

none_called : (parts : List WholePart) → All (λ (one : WholePart). one.operation ≡ Residence) parts → calls_among parts ≡ []
none_called [] all = refl
none_called (part ∷ parts) all =
    let rest = filter (λ (one : WholePart). not (is_residence one.operation)) parts in
    ap (λ operation. map call_made (if not (is_residence operation) then part ∷ rest else rest)) (All-head (λ (one : WholePart). one.operation ≡ Residence) part parts all)
    ∙ none_called parts (All-tail (λ (one : WholePart). one.operation ≡ Residence) part parts all)

-- residences are none
pub residences_call_none : (parts : List WholePart) → AreResidences parts → calls_among parts ≡ []
residences_call_none parts resides = none_called parts resides.each

-- and a call among residences is one
pub one_call : (actor : ℕ) (operation : Operation) (answer : Option ℕ) (parts : List WholePart) → HaveCall actor operation answer parts → is_residence operation ≡ false → calls_among parts ≡ record { actor = actor; operation = operation; answer = answer } ∷ []
one_call actor operation answer parts have other =
    let whole = by_actor actor have.call in
    let rest = filter (λ (one : WholePart). not (is_residence one.operation)) have.late in
    let Made : Operation → Option ℕ → CallMade = λ operation answer. record { actor = actor; operation = operation; answer = answer } in
    let kind : is_residence have.call.operation ≡ false = ap is_residence have.operation_is ∙ other in
    ap calls_among have.split
    ∙ calls_append have.early (whole ∷ have.late)
    ∙ ap (λ calls. calls ++ calls_among (whole ∷ have.late)) (residences_call_none have.early have.before)
    ∙ ap (λ (b : Bool). map call_made (if not b then whole ∷ rest else rest)) kind
    ∙ ap (λ calls. Made have.call.operation have.call.answer ∷ calls) (residences_call_none have.late have.after)
    ∙ ap (λ operation. Made operation have.call.answer ∷ []) have.operation_is
    ∙ ap (λ answer. Made operation answer ∷ []) have.answer_is
