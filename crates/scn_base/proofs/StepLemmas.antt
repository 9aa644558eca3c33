-- Steps without a fault.
use Rattle.std.proofs.Common.{◌≡◌, ℕ, ◌&&◌, Bool, true, List, [], ◌∷◌, length, is_none, is_some, None, Some, Option, get_or, drop, drop-cons, suc, ◌<◌, ◌≤◌, refl, sym, ◌∙◌, arith}
use Rattle.std.specs.Bool.{IsTrue}
use Rattle.std.specs.List.{All}
use Rattle.std.proofs.Math.ListN.{length-set}
use Rattle.std.proofs.lemmas.Bool.{and_parts}
use Rattle.std.proofs.lemmas.List.{drop_all}
use Rattle.std.proofs.lemmas.Bool.Decides.{nat_tests}
use Rattle.std.proofs.lemmas.List.Elements.{All-nil, All-cons, All-head, All-tail}
use Rattle.gic_guest.specs.Words.{Icc, Mem, Message, Wire, Msi, Enter, Exit, Lrs}
use Rattle.scn_base.specs.declared.step.Step.{Step}
use Rattle.scn_base.specs.declared.step.Step.TheVariants.{Vcpu, Device, Pe}
use Rattle.scn_base.specs.declared.step.Mode.{Mode}
use Rattle.scn_base.specs.declared.step.Mode.TheVariants.{Schedule, Threads}
use Rattle.scn_base.specs.declared.pes.VcpuName.{VcpuName}
use Rattle.scn_base.specs.declared.standing.Standing.{Standing}
use Rattle.scn_base.specs.Standing.{pes_after, standing_after}
use Rattle.scn_base.specs.Good.{is_formed, stands, stand_in_turn}
use Rattle.scn_base.specs.StepFault.{step_fault}

pub length-pes_after : (step : Step) (pes : List (Option VcpuName)) → length (pes_after step pes) ≡ length pes
length-pes_after (Vcpu guest vcpu op) pes = refl
length-pes_after (Device guest device op) pes = refl
length-pes_after (Pe pe (Enter guest vcpu)) pes = simp length-set
length-pes_after (Pe pe Exit) pes = simp length-set
length-pes_after (Pe pe Lrs) pes = refl

-- a step has no fault exactly where it is formed and stands
pub clean_is : (mode : Mode) (standing : Standing) (step : Step) → is_none (step_fault mode standing step) ≡ (is_formed mode (length standing.pes) standing.shapes step && stands mode standing step)
clean_is mode standing (Vcpu guest vcpu (Icc reg write)) = grind (arith, nat_tests)
clean_is mode standing (Vcpu guest vcpu (Mem frame offset size write)) = grind (arith, nat_tests)
clean_is mode standing (Device guest device (Message spi)) = grind (arith, nat_tests)
clean_is mode standing (Device guest device (Wire key up)) = grind (arith, nat_tests)
clean_is mode standing (Device guest device (Msi number event)) = grind (arith, nat_tests)
clean_is Schedule standing (Pe pe (Enter guest vcpu)) = grind (arith, nat_tests)
clean_is Schedule standing (Pe pe Exit) = grind (arith, nat_tests)
clean_is Schedule standing (Pe pe Lrs) = grind (arith, nat_tests)
clean_is Threads standing (Pe pe (Enter guest vcpu)) = grind (arith, nat_tests)
clean_is Threads standing (Pe pe Exit) = grind (arith, nat_tests)
clean_is Threads standing (Pe pe Lrs) = grind (arith, nat_tests)

-- each step is without a fault, from a standing on
abbrev pub have_no_fault : Mode → Standing → List Step → Bool
have_no_fault mode standing [] = true
have_no_fault mode standing (step ∷ steps) = is_none (step_fault mode standing step) && have_no_fault mode (standing_after step standing) steps

-- each step is formed
abbrev pub formed_in : Mode → ℕ → Standing → Step → Type 0
formed_in mode pes standing step = IsTrue (is_formed mode pes standing.shapes step)

-- steps have no fault exactly where each is formed and they stand in turn
pub no_fault_good : (mode : Mode) (standing : Standing) (pes : ℕ) (steps : List Step) → length standing.pes ≡ pes → have_no_fault mode standing steps ≡ true
    → All (formed_in mode pes standing) steps × IsTrue (stand_in_turn mode standing steps)
no_fault_good mode standing pes [] e h = (All-nil (formed_in mode pes standing), refl)
no_fault_good mode standing pes (step ∷ steps) e h =
    let both = and_parts (is_none (step_fault mode standing step)) (have_no_fault mode (standing_after step standing) steps) h in
    let now = and_parts (is_formed mode (length standing.pes) standing.shapes step) (stands mode standing step) (sym (clean_is mode standing step) ∙ both.0) in
    let rest = no_fault_good mode (standing_after step standing) pes steps (length-pes_after step standing.pes ∙ e) both.1 in
    (All-cons (formed_in mode pes standing) step steps (rw e at now.0) rest.0, rw (now.1, rest.1) refl)

pub good_no_fault : (mode : Mode) (standing : Standing) (pes : ℕ) (steps : List Step) → length standing.pes ≡ pes → All (formed_in mode pes standing) steps → IsTrue (stand_in_turn mode standing steps)
    → have_no_fault mode standing steps ≡ true
good_no_fault mode standing pes [] e formed in_turn = refl
good_no_fault mode standing pes (step ∷ steps) e formed in_turn =
    let both = and_parts (stands mode standing step) (stand_in_turn mode (standing_after step standing) steps) in_turn in
    let first : is_formed mode (length standing.pes) standing.shapes step ≡ true = rw e (All-head (formed_in mode pes standing) step steps formed) in
    let now : is_none (step_fault mode standing step) ≡ true = clean_is mode standing step ∙ rw (first, both.0) refl in
    let rest = good_no_fault mode (standing_after step standing) pes steps (length-pes_after step standing.pes ∙ e) (All-tail (formed_in mode pes standing) step steps formed) both.1 in
    rw (now, rest) refl

is_some_or_none : (found : Option ℕ) → is_some found ≡ true → is_none found ≡ true → ⊥
is_some_or_none None is none = cc
is_some_or_none (Some code) is none = cc

-- a step with a fault, from the place of it on
pub has_fault : {P : Type 0} (mode : Mode) (standing : Standing) (steps : List Step) (i : ℕ) (d : Step) (found : Option ℕ) → i < length steps → found ≡ step_fault mode standing (get_or steps i d)
    → is_some found ≡ true → have_no_fault mode standing (drop i steps) ≡ true → P
has_fault mode standing steps i d found within is faulty clean =
    let whole = rw (drop-cons steps i d within) at clean in
    let both = and_parts (is_none (step_fault mode standing (get_or steps i d))) (have_no_fault mode (standing_after (get_or steps i d) standing) (drop (suc i) steps)) whole in
    absurd (is_some_or_none found faulty (rw is both.0))

-- no step is left
pub none_left : (mode : Mode) (standing : Standing) (steps : List Step) (i : ℕ) → length steps ≤ i → have_no_fault mode standing (drop i steps) ≡ true
none_left mode standing steps i past = rw (drop_all i steps past) refl
