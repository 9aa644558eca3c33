-- What the ideal controller's calls do and answer, as steps say it.
use Rattle.std.proofs.Common.{◌≡◌, ℕ, ◌==◌, Bool, if◌then◌else◌, List, [], ◌∷◌, Option, Some, None, refl, sym, ap, subst}
use Rattle.std.specs.Prelude.{slice_get, slice_set}
use Rattle.std.specs.Option.{option_map_or, option_to_list}
use Rattle.std.proofs.lemmas.Bool.{eq-eqb, ne_eqb}
use Rattle.law_ends_agree.specs.Words.{GuestOp, Icc, Mem}
use Rattle.law_ends_agree.specs.Calls.{Value}
use Rattle.law_ends_agree.specs.GicGuest.declared.outcome.Answer.TheVariants.{Nothing}
use Rattle.law_ends_agree.specs.Histories.{IdealGuest, op_answer, access_answer}
use Rattle.law_ends_agree.specs.GicIdeal.Eager.{at_guest}
use Rattle.law_one_thread_is_eager.specs.LawEagerIsHistory.Moments.{op_read}
use Rattle.law_ends_agree.specs.GuestEnd.Outcome.{answer_by}
use Rattle.run_seq.specs.StepCalls.{CallMade, value_of}
use Rattle.run_seq.proofs.MachineLemmas.{IsButFor, but_for_set}

-- a call's answer is the step's
pub read_is_answer : (op : GuestOp) (guest : IdealGuest) (vcpu : ℕ) → answer_by (op_read op guest vcpu) ≡ op_answer op guest vcpu
read_is_answer (Icc reg write) guest vcpu = of (access_answer reg write guest vcpu)
  where
    of : (o : Option ℕ) → answer_by o ≡ option_map_or Value o Nothing
    of None = refl
    of (Some value) = refl
read_is_answer (Mem frame offset size None) guest vcpu = refl
read_is_answer (Mem frame offset size (Some value)) guest vcpu = refl

pub value_again : (value : Option ℕ) → value_of (answer_by value) ≡ value
value_again None = refl
value_again (Some value) = refl

-- the guests with a change of one
pub but_for_change : (number : ℕ) (ideal : IdealGuest) (ideals : List IdealGuest) (change : IdealGuest → IdealGuest) → slice_get ideals number ≡ Some ideal → IsButFor number (change ideal) ideals (at_guest number change ideals)
but_for_change number ideal ideals change is =
    subst (IsButFor number (change ideal) ideals) (sym (ap (λ o. option_map_or (λ guest. slice_set ideals number (change guest)) o ideals) is)) (but_for_set number (change ideal) ideals)

-- the call of the guest that it is of
pub call_here : (number n : ℕ) (made : CallMade) → n ≡ number → option_to_list (if number == n then Some made else None) ≡ made ∷ []
call_here number n made same = ap (λ (b : Bool). option_to_list (if b then Some made else None)) (eq-eqb number n (sym same))

pub call_elsewhere : (number n : ℕ) (made : CallMade) → (n ≡ number → ⊥) → option_to_list (if number == n then Some made else None) ≡ []
call_elsewhere number n made apart = ap (λ (b : Bool). option_to_list (if b then Some made else None)) (ne_eqb number n (λ e. apart (sym e)))
