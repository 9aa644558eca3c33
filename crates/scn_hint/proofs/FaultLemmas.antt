-- Which codes a fault can have, and where the step is that has one.
use Rattle.std.proofs.Common.{◌≡◌, ℕ, ◌+◌, ◌-◌, ◌≤◌, ◌==◌, inl, inr, true≢false, not, Bool, true, false, All, List, [], ◌∷◌, map, fold, suc, Option, Some, None, Result, Ok, Err, refl, sym, ap, ◌∙◌, subst, arith}
use Rattle.std.specs.Prelude.{slice_get, min, if◌then◌else◌}
use Rattle.std.specs.List.{list_all}
use Rattle.std.proofs.lemmas.Bool.{and_parts, cases_lt, eq-eqb}
use Rattle.std.proofs.lemmas.List.Elements.{All-head, All-tail}
use Rattle.serde_json.specs.Data.{Data}
use Rattle.gic_host.specs.ScnRead.ScnBase.Codes.{first_code, first_of, first_met, ok_unless}
use Rattle.gic_host.specs.ScnRead.ScnBase.StepFault.{step_fault}
use Rattle.gic_host.specs.ScnRead.ScnBase.Standing.{standing_after}
use Rattle.gic_host.specs.ScnRead.ScnBase.Words.{Icc, Mem, Message, Wire, Msi, Enter, Exit, Lrs}
use Rattle.gic_host.specs.ScnRead.ScnBase.declared.fault.Fault.{Fault}
use Rattle.gic_host.specs.ScnRead.ScnBase.declared.standing.Standing.{Standing}
use Rattle.gic_host.specs.ScnRead.ScnBase.declared.step.Mode.{Mode}
use Rattle.gic_host.specs.ScnRead.ScnBase.declared.step.Step.{Step}
use Rattle.gic_host.specs.ScnRead.ScnBase.declared.step.Step.TheVariants.{Vcpu, Device, Pe}
use Rattle.gic_host.specs.ScnRead.Reading.{before_steps, step_and_rest, steps_of}
use Rattle.gic_host.specs.ScnRead.Step.{step_of, step_said, judged}

some_code : (a b : ℕ) → Some a ≡ Some b → a ≡ b
some_code a b e = cc

-- Rows of tests: a code that no row has is not met.

pub never_met : (code : ℕ) (rows : List (Bool × ℕ)) → list_all (λ (row : Bool × ℕ). not (row.1 == code)) rows ≡ true → first_met rows ≡ Some code → ⊥
never_met code [] h e = cc
never_met code (row ∷ rows) h e =
    let both = and_parts (not (row.1 == code)) (list_all (λ (row : Bool × ℕ). not (row.1 == code)) rows) h in of row.0 both.0 e (never_met code rows both.1)
  where
    of : (met : Bool) → not (row.1 == code) ≡ true → (if met then Some row.1 else first_met rows) ≡ Some code → (first_met rows ≡ Some code → ⊥) → ⊥
    of true apart e rest = true≢false (sym apart ∙ ap not (eq-eqb row.1 code (some_code row.1 code e)))
    of false apart e rest = rest e

-- The least of some codes is one of them.

pub least_of : (a b : Option ℕ) (code : ℕ) → (a ≡ Some code → ⊥) → (b ≡ Some code → ⊥) → first_code a b ≡ Some code → ⊥
least_of None b code na nb e = nb e
least_of (Some a) None code na nb e = na e
least_of (Some a) (Some b) code na nb e =
    let is : min a b ≡ code = some_code (min a b) code e in
    elim (cases_lt a b) [
      | inl less ↦ na (ap Some (omega (arith, less, is)))
      | inr more ↦ nb (ap Some (omega (arith, more, is)))
    ]

pub none_of : {X : Type 0} (fault : X → Option ℕ) (code : ℕ) (xs : List X) → All (λ x. fault x ≡ Some code → ⊥) xs → first_of (map fault xs) ≡ Some code → ⊥
none_of {X} fault code xs all e = along xs None all (λ h. cc) e
  where
    along : (xs : List X) (before : Option ℕ) → All (λ x. fault x ≡ Some code → ⊥) xs → (before ≡ Some code → ⊥) → fold first_code before (map fault xs) ≡ Some code → ⊥
    along [] before all none e = none e
    along (x ∷ xs) before all none e =
        along xs (first_code before (fault x)) (All-tail (λ x. fault x ≡ Some code → ⊥) x xs all)
        (least_of before (fault x) code none (All-head (λ x. fault x ≡ Some code → ⊥) x xs all)) e

-- A step that can be said has no fault of shape.

met : (is : Bool) (code : ℕ) (rest : Option ℕ) → (code == 1) ≡ false → (rest ≡ Some 1 → ⊥) → (if is then Some code else rest) ≡ Some 1 → ⊥
met true code rest apart later e = true≢false (sym (eq-eqb code 1 (some_code code 1 e)) ∙ apart)
met false code rest apart later e = later e

none : (let o : Option ℕ = None in o) ≡ Some 1 → ⊥
none e = cc

unshaped : (mode : Mode) (standing : Standing) (step : Step) → step_fault mode standing step ≡ Some 1 → ⊥
unshaped mode standing (Vcpu guest vcpu (Icc reg write)) e = met _ 3 _ refl (met _ 4 _ refl (met _ 5 _ refl none)) e
unshaped mode standing (Vcpu guest vcpu (Mem frame offset size write)) e = met _ 2 _ refl (met _ 4 _ refl (met _ 5 _ refl (met _ 9 _ refl none))) e
unshaped mode standing (Device guest device (Message spi)) e = met _ 4 _ refl none e
unshaped mode standing (Device guest device (Wire key up)) e = met _ 4 _ refl (met _ 8 _ refl none) e
unshaped mode standing (Device guest device (Msi number event)) e = met _ 4 _ refl none e
unshaped mode standing (Pe pe (Enter guest vcpu)) e = met _ 4 _ refl (met _ 6 _ refl (met _ 7 _ refl none)) e
unshaped mode standing (Pe pe Exit) e = met _ 4 _ refl (met _ 5 _ refl (met _ 7 _ refl none)) e
unshaped mode standing (Pe pe Lrs) e = met _ 4 _ refl (met _ 7 _ refl none) e

err_code : {X : Type 0} (a b : ℕ) → (let r : Result X ℕ = Err a in r) ≡ Err b → a ≡ b
err_code a b e = cc

-- so a fault of shape is one of what it says
pub shape_said : (mode : Mode) (standing : Standing) (d : Data) → step_of mode standing d ≡ Err 1 → step_said d ≡ Err 1
shape_said mode standing d e = of (step_said d) refl e
  where
    of : (said : Result Step ℕ) → step_said d ≡ said → judged mode standing said ≡ Err 1 → step_said d ≡ Err 1
    of (Err code) is e = is ∙ e
    of (Ok step) is e = absurd (by (step_fault mode standing step) refl e)
      where
        by : (o : Option ℕ) → step_fault mode standing step ≡ o → ok_unless o step ≡ Err 1 → ⊥
        by None f e = cc
        by (Some code) f e = unshaped mode standing step (f ∙ ap Some (err_code {X = Step} code 1 e))

-- The step that has the fault of some steps.

pub record HasFault (mode : Mode) (number : ℕ) (ds : List Data) (fault : Fault) : Type 0 where
  pub at_least : number ≤ fault.step
  pub step : Data
  pub there : slice_get ds (fault.step - number) ≡ Some step
  pub standing : Standing
  pub fault_is : step_of mode standing step ≡ Err fault.code

pub step_with : (mode : Mode) (standing : Standing) (number : ℕ) (ds : List Data) (fault : Fault) → steps_of mode standing number ds ≡ Err fault → HasFault mode number ds fault
step_with mode standing number [] fault e = absurd (cc)
step_with mode standing number (d ∷ ds) fault e = of (step_of mode standing d) refl (λ step. step_with mode (standing_after step standing) (number + 1) ds fault) e
  where
    here : (code : ℕ) → (let f : Fault = record { code = code; step = number } in f) ≡ fault → step_of mode standing d ≡ Err code → HasFault mode number (d ∷ ds) fault
    here code same is =
        subst (HasFault mode number (d ∷ ds)) same
        (record { at_least = omega arith; step = d; there = ap (λ n. slice_get (d ∷ ds) n) (none number); standing = standing; fault_is = is })
      where
        none : (n : ℕ) → n - n ≡ 0
        none n = omega arith

    later : HasFault mode (number + 1) ds fault → HasFault mode number (d ∷ ds) fault
    later has =
        let more = has.at_least in
        record {
          at_least = omega (arith, more);
          step = has.step;
          there = ap (λ n. slice_get (d ∷ ds) n) (one_more number fault.step more) ∙ has.there;
          standing = has.standing;
          fault_is = has.fault_is;
        }
      where
        one_more : (m n : ℕ) → m + 1 ≤ n → n - m ≡ suc (n - (m + 1))
        one_more m n h = omega (arith, h)

    rest_of : (rest : Result (List Step) Fault) (step : Step) → before_steps step rest ≡ Err fault → rest ≡ Err fault
    rest_of (Ok steps) step e = absurd (cc)
    rest_of (Err other) step e = e'
      where
        e' : (let r : Result (List Step) Fault = Err other in r) ≡ Err fault
        e' = cc

    of : (made : Result Step ℕ) → step_of mode standing d ≡ made → ((step : Step) → steps_of mode (standing_after step standing) (number + 1) ds ≡ Err fault → HasFault mode (number + 1) ds fault)
        → step_and_rest number made (λ step. steps_of mode (standing_after step standing) (number + 1) ds) ≡ Err fault → HasFault mode number (d ∷ ds) fault
    of (Err code) is next e = here code (same (record { code = code; step = number }) fault e) is
      where
        same : (one other : Fault) → (let r : Result (List Step) Fault = Err one in r) ≡ Err other → one ≡ other
        same one other e = cc
    of (Ok step) is next e =
        later (next step (rest_of (steps_of mode (standing_after step standing) (number + 1) ds) step e))
