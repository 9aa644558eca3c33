-- Verdicts.
use Rattle.std.proofs.Common.{◌≡◌, ℕ, List, take, drop, refl, sym, ap, subst, inl, inr, arith, take-append-drop}
use Rattle.std.proofs.lemmas.Bool.{cases_lt}
use Rattle.trace_read.specs.declared.trace.TraceEvent.{TraceEvent}
use Rattle.legal_play.specs.Histories.{IdealGuest}
use Rattle.trace_told.specs.declared.verdict.Verdict.TheVariants.{Yes, No}
use Rattle.trace_told.specs.Verdict.{CanBe, IsLeastRefused}
use Rattle.trace_told.specs.Laws.{VerdictsAreOne}
use Rattle.trace_told.proofs.PartLemmas.{parts_can_be}

pub first_can_be : (guest : IdealGuest) (events : List TraceEvent) (count : ℕ) → CanBe guest events → CanBe guest (take count events)
first_can_be guest events count is = parts_can_be guest (take count events) (drop count events) (subst (CanBe guest) (sym (take-append-drop count events)) is)

not_both : (guest : IdealGuest) (events : List TraceEvent) (index : ℕ) → CanBe guest events → IsLeastRefused guest events index → ⊥
not_both guest events index can refused = refused.refused (first_can_be guest events index can)

same_least : (guest : IdealGuest) (events : List TraceEvent) (one other : ℕ) → IsLeastRefused guest events one → IsLeastRefused guest events other → one ≡ other
same_least guest events one other a b = elim (cases_lt one other) [
  | inl below ↦ absurd (a.refused (b.before one below))
  | inr past ↦ elim (cases_lt other one) [
    | inl below ↦ absurd (b.refused (a.before other below))
    | inr more ↦ omega (arith, past, more)
  ]
]

pub verdicts_are_one : VerdictsAreOne
verdicts_are_one guest events Yes Yes a b = refl
verdicts_are_one guest events Yes (No index) a b = absurd (not_both guest events index a b)
verdicts_are_one guest events (No index) Yes a b = absurd (not_both guest events index b a)
verdicts_are_one guest events (No one) (No other) a b = ap No (same_least guest events one other a b)
