-- What an actor of a guest did in a run, and that one choice names the parts of all of them.
use Rattle.std.proofs.Common.{◌≡◌, ℕ, ◌<◌, ◌==◌, zero, suc, Bool, true, false, if◌then◌else◌, IsTrue, List, refl, sym, ap, subst, ◌∙◌, arith}
use Rattle.std.proofs.Math.Logic.{∥∥₁_elim, ∥∥₁_map, ∥∥₁_prop}
use Rattle.std.proofs.lemmas.Bool.{eqb-true, eqb-false}
use Rattle.std.proofs.lemmas.List.Elements.{All-weaker}
use Rattle.law_threads_are_history.specs.LawEagerIsHistory.Calls.{Made as MadeCall}
use Rattle.law_threads_are_history.specs.PePlace.Parts.{Part, steps_in}
use Rattle.law_threads_are_history.specs.Core.{Made, is_vcpu, Seen, has_registers, local_by, opening_local_of}
use Rattle.thr_cast.specs.PortTable.Told.{WordsTold, opening_seen}
use Rattle.law_threads_are_history.specs.Woven.{ActorHasDone}
use Rattle.run_thr.specs.Run.{ActorHasRun}

-- One actor.

module _ (words : WordsTold) (lrs actor : ℕ) (own : List Made) (calls : List MadeCall) (run : ActorHasRun words lrs actor own calls) where
  abbrev own_lrs : ℕ
  own_lrs = if is_vcpu words.guest.shape actor then lrs else 0

  own_are : own ≡ steps_in run.gone.parts
  own_are = sym run.own_is ∙ ap (λ (seen : Seen). seen.own) run.gone.adds.new_is

  pub actor_done : ActorHasDone words.guest words.number actor own run.gone.parts
  actor_done = record {
    from = opening_seen words actor;
    guest_is = refl;
    number_is = refl;
    actor_is = refl;
    local_is = refl;
    own_is = refl;
    steps = own_are;
    registers = All-weaker (λ (part : Part). part.lrs ≡ own_lrs) (λ (part : Part). IsTrue (has_registers words.guest.shape actor part.lrs)) (λ part on. subst (λ n. IsTrue (has_registers words.guest.shape actor n)) (sym on) run.gone.registers) run.gone.parts run.gone.on;
    calls = run.gone.are;
    proper = run.gone.proper;
  }

  -- what it has for itself, its steps made of what it opened with
  pub actor_local : run.seen.local ≡ local_by words.guest.shape actor (opening_local_of words.guest words.number actor) own
  actor_local = ap (λ (seen : Seen). seen.local) run.gone.adds.new_is ∙ ap (local_by words.guest.shape actor (opening_local_of words.guest words.number actor)) (sym own_are)

-- All actors.

-- something of which this is so
pub record One {X : Type 0} (Is : X → Type 0) : Type 0 where
  pub one : X
  pub is : Is one

-- one choice of them for the numbers below a count
pub record Chosen {X : Type 0} (Is : ℕ → X → Type 0) (count : ℕ) : Type 0 where
  pub choice : ℕ → X
  pub each : (n : ℕ) → n < count → Is n (choice n)

module _ {X : Type 0} (none : X) (Is : ℕ → X → Type 0) where
  one_more : (count : ℕ) → One (Is count) → Chosen Is count → Chosen Is (suc count)
  one_more count last chosen = record { choice = λ n. if n == count then last.one else chosen.choice n; each = λ n there. of n there (n == count) refl }
    where
      of : (n : ℕ) → n < suc count → (last_is : Bool) → (n == count) ≡ last_is → Is n (if last_is then last.one else chosen.choice n)
      of n there true e = subst (λ k. Is k last.one) (sym (eqb-true n count e)) last.is
      of n there false e = let apart = eqb-false n count e in chosen.each n (omega (arith, there, apart))

  pub choose : (count : ℕ) → ((n : ℕ) → n < count → ∥ One (Is n) ∥₁) → ∥ Chosen Is count ∥₁
  choose zero each = ∣ record { choice = λ n. none; each = λ n there. absurd (omega (arith, there)) } ∣₁
  choose (suc count) each = ∥∥₁_elim (each count (omega arith)) ∥∥₁_prop (λ last. ∥∥₁_map (choose count (λ n there. each n (omega (arith, there)))) (one_more count last))
