-- A step of a run, beside a state of the ideal controller that agrees with the core's.
use Rattle.std.specs.List.{list_all}
use Rattle.std.proofs.Common.{◌≡◌, ℕ, ◌||◌, not, map, Bool, true, false, IsTrue, Option, refl, sym, ap, ◌∙◌, subst}
use Rattle.law_lines_translate.specs.Words.{GuestShape, IsShape}
use Rattle.law_lines_translate.specs.Registers.{Maps}
use Rattle.law_lines_translate.specs.Histories.{cpu_at, Ideal}
use Rattle.law_lines_translate.specs.Core.{Local, Entry, CoreStep, VcpuWord, packed_vcpu, vcpu_of, has_word, CoreState, Takes, IsSound, word_of, CanFind}
use Rattle.law_lines_translate.proofs.PortCore.StepLemmas.{word_there, found_valid}
use Rattle.law_core_is_history.specs.Related.{WordSays, SeatSays, Related, locals_of, stands, IsCpuRelated, is_folding}

-- an entry of a run
abbrev pub one : ℕ → CoreStep → ℕ → ℕ → Option Maps → Entry
one actor step found left tables = record { actor = actor; made = record { step = step; found = found; left = left; tables = tables } }

-- a step that an actor can make, in a sound state of the core, beside a state of the ideal controller that agrees with it
pub record IsStep (shape : GuestShape) (state : CoreState) (ideal : Ideal) (actor : ℕ) (step : CoreStep) (found left : ℕ) (tables : Option Maps) : Type 0 where
  pub good : IsShape shape
  pub sound : IsSound shape state
  pub related : Related shape state ideal
  pub takes : Takes shape state (one actor step found left tables)

module _ {shape : GuestShape} {state : CoreState} {ideal : Ideal} {actor : ℕ} {step : CoreStep} {found left : ℕ} {tables : Option Maps} (is : IsStep shape state ideal actor step found left tables) where
  -- its word is there
  pub has : IsTrue (has_word shape (word_of shape actor step))
  has = word_there shape actor step is.good is.takes.can

  -- what it finds is valid, and says what the ideal controller has
  pub finds : CanFind shape actor (locals_of state actor) (word_of shape actor step) found
  finds = found_valid shape state (one actor step found left tables) is.good is.sound is.takes

  pub says_found : WordSays shape (locals_of state) ideal (word_of shape actor step) found
  says_found = subst (WordSays shape (locals_of state) ideal (word_of shape actor step)) (sym is.takes.found) (is.related.words (word_of shape actor step) has)

-- an actor's own state with the same interface says the same of it
pub seat_same : {ideal : Ideal} {vcpu : ℕ} (before after : Local) → after.at ≡ before.at → after.cpu ≡ before.cpu → is_folding after.phase ≡ is_folding before.phase → SeatSays ideal vcpu before → SeatSays ideal vcpu after
seat_same {ideal} {vcpu} before after at cpu phase says = record {
  at = says.at ∙ sym (ap (map stands) at);
  cpu = subst (λ own. IsCpuRelated own (cpu_at ideal.guest vcpu)) (sym cpu) says.cpu;
  given = subst (λ list. IsTrue (is_folding after.phase || list_all (λ one. not one.given) list)) (sym at) (subst (λ p. IsTrue (p || list_all (λ one. not one.given) before.at)) (sym phase) says.given);
}

-- EnableLPIs in a vCPU's word
pub lpis_back : (vcpu : VcpuWord) → (vcpu_of (packed_vcpu vcpu)).lpis ≡ vcpu.lpis
lpis_back vcpu = of vcpu.lpis vcpu.kick
  where
    of : (lpis kick : Bool) → (vcpu_of (packed_vcpu (record { lpis = lpis; kick = kick }))).lpis ≡ lpis
    of true true = refl
    of true false = refl
    of false true = refl
    of false false = refl
