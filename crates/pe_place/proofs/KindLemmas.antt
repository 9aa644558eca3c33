-- What some parts are, where more come before or after them.
use Rattle.std.proofs.Common.{◌≡◌, ℕ, List, [], ◌∷◌, ◌++◌, Option, refl, ap, ◌∙◌}
use Rattle.std.proofs.lemmas.List.{append_assoc}
use Rattle.std.proofs.lemmas.List.Elements.{All-nil, All-cons, All-append}
use Rattle.gic_msi.specs.Calls.{Operation, Residence}
use Rattle.gic_msi.specs.Core.{Made}
use Rattle.law_serial_is_eager.specs.Serial.{WholePart}
use Rattle.pe_place.specs.Parts.{Part, by_actor, residence, AreOneCall, AreResidences, HaveCall}

Resides : WholePart → Type 0
Resides one = one.operation ≡ Residence

pub residences_none : AreResidences []
unfolding Resides
residences_none = record { each = All-nil Resides }

pub residences_one : (actor lrs : ℕ) (steps : List Made) → AreResidences (by_actor actor (residence lrs steps) ∷ [])
unfolding Resides
residences_one actor lrs steps = record { each = All-cons Resides (by_actor actor (residence lrs steps)) [] refl (All-nil Resides) }

pub residences_join : (early late : List WholePart) → AreResidences early → AreResidences late → AreResidences (early ++ late)
unfolding Resides
residences_join early late first second = record { each = All-append Resides early late first.each second.each }

-- one call
pub only_call : (actor : ℕ) (part : Part) → AreOneCall actor part.operation part.answer (by_actor actor part ∷ [])
only_call actor part = record { call = part; alone = refl; operation_is = refl; answer_is = refl }

pub call_one : (actor : ℕ) (part : Part) → HaveCall actor part.operation part.answer (by_actor actor part ∷ [])
call_one actor part = record { early = []; call = part; late = []; split = refl; operation_is = refl; answer_is = refl; before = residences_none; after = residences_none }

unfoldable pub call_last : (actor : ℕ) (operation : Operation) (answer : Option ℕ) (early late : List WholePart) → AreResidences early → AreOneCall actor operation answer late → HaveCall actor operation answer (early ++ late)
call_last actor operation answer early late first only =
    record {
      early = early;
      call = only.call;
      late = [];
      split = ap (λ late. early ++ late) only.alone;
      operation_is = only.operation_is;
      answer_is = only.answer_is;
      before = first;
      after = residences_none;
    }

unfoldable pub call_before : (actor : ℕ) (operation : Operation) (answer : Option ℕ) (early late : List WholePart) → HaveCall actor operation answer early → AreResidences late → HaveCall actor operation answer (early ++ late)
call_before actor operation answer early late have second =
    record {
      early = have.early;
      call = have.call;
      late = have.late ++ late;
      split = ap (λ early. early ++ late) have.split ∙ append_assoc have.early (by_actor actor have.call ∷ have.late) late;
      operation_is = have.operation_is;
      answer_is = have.answer_is;
      before = have.before;
      after = residences_join have.late late have.after second;
    }
