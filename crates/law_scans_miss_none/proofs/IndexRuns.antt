-- The candidate indices are complete at every moment of every run.
use Rattle.std.proofs.Common.{◌≡◌, ℕ, ◌+◌, ◌*◌, ◌/◌, ◌%◌, nat_lt, inl, inr, IsTrue, List, [], ◌∷◌, Option, sym, subst, arith}
use Rattle.std.proofs.lemmas.Bool.{and_from, lt-ltb}
use Rattle.std.proofs.lemmas.Grind.{common_steps}
use Rattle.law_registers_stand.specs.Words.{Key, GuestShape, has_bit, has_interrupt, is_of_vcpu, IsShape}
use Rattle.law_registers_stand.specs.Core.{concerns, Entry, Irq, Index, has_word, index_bit, index_bits, index_words, is_asked, key_of_bit, CoreState, opening, word_in, after, IsRun, end_of, CoreStep}
use Rattle.law_registers_stand.proofs.PortCore.IndexLemmas.{asked_indexed}
use Rattle.law_registers_stand.proofs.PortCore.OpeningLemmas.{opens_sound, record_opens, word_opens}
use Rattle.law_registers_stand.proofs.PortCore.StepLocals.{bit_there}
use Rattle.law_scans_miss_none.specs.Index.{IsTold, IsComplete, IndexIsComplete}
use Rattle.law_registers_stand.specs.Registers.{Maps}
use Rattle.law_registers_stand.proofs.LawCoreIsHistory.StepContext.{IsStep}
use Rattle.law_scans_miss_none.proofs.ToldLemmas.{Lasts, Told, AllTold}
use Rattle.law_registers_stand.specs.Histories.{irq_at, Ideal, IdealGuest, CanOpen}
use Rattle.law_registers_stand.proofs.LawCoreIsHistory.ReachedRuns.{IsReached, reaches_next, reached_opens}
use Rattle.law_scans_miss_none.proofs.IndexSteps.{keeps_complete}
use Rattle.law_scans_miss_none.proofs.TellSteps.{concerns_own}

-- Nothing is said of who changed an interrupt last.

abbrev anyone : ℕ → Key → Type 0
anyone actor key = Unit {0}

no_matter : {shape : GuestShape} {state : CoreState} {ideal : Ideal} {actor : ℕ} {step : CoreStep} {found left : ℕ} {tables : Option Maps} (is : IsStep shape state ideal actor step found left tables) → Lasts is anyone anyone
no_matter is = record { kept = λ key other vcpu there quiet owes last. tt; made = λ key there changes. tt }

complete : (shape : GuestShape) (state : CoreState) → AllTold shape state anyone → IsComplete shape state
complete shape state told key vcpu there within home asks = of (told key vcpu there within home asks)
  where
    of : Told shape state anyone vcpu key → IsTold shape state vcpu key
    of (inl indexed) = inl indexed
    of (inr (inl taken)) = inr (inl taken)
    of (inr (inr owed)) = inr (inr (record { actor = owed.actor; there = owed.there; owes = owed.owes; kicks = λ waits. elim (owed.kicks waits) [ inl kick ↦ inl kick.0 | inr own ↦ inr own ] }))

run_complete : (shape : GuestShape) (state : CoreState) (entries : List Entry) → IsShape shape → IsReached shape state → AllTold shape state anyone → IsRun shape state entries → AllTold shape (end_of shape state entries) anyone
run_complete shape state [] good at told run = told
run_complete shape state (entry ∷ entries) good at told run =
    let is : IsStep shape state at.ideal entry.actor entry.made.step entry.made.found entry.made.left entry.made.tables = record { good = good; sound = at.sound; related = at.related; takes = run.0 } in
    run_complete shape (after shape state entry) entries good (reaches_next shape state entry good at run.0)
    (keeps_complete shape state at.ideal entry.actor entry.made.step entry.made.found entry.made.left entry.made.tables is (no_matter is) told) run.1

-- As a guest opens, each interrupt that concerns a vCPU has its bit.

key_back : (shape : GuestShape) (vcpu : ℕ) (key : Key) → IsShape shape → IsTrue (has_interrupt shape key) → IsTrue (is_of_vcpu vcpu key) → key_of_bit shape vcpu (index_bit shape key) ≡ key
key_back shape vcpu key is there own = grind (arith, common_steps, is.vcpus, is.spis, is.espis, is.lpis)

pub opens_told : (guest : IdealGuest) (number : ℕ) (last : ℕ → Key → Type 0) → CanOpen guest → AllTold guest.shape (opening guest number) last
opens_told guest number last good key vcpu there within home asks =
    let shape = guest.shape in
    let bit = index_bit shape key in
    let few = bit_there shape key good.sound.shape there in
    let own = concerns_own shape key vcpu (word_in shape (opening guest number) (Irq key)) there ((opens_sound guest number good).words (Irq key) there) asks in
    let asked : IsTrue (concerns shape vcpu (irq_at guest key)) = subst (λ i. IsTrue (concerns shape vcpu i)) (record_opens guest number key good there) asks in
    let is : IsTrue (is_asked guest vcpu bit) =
    and_from (nat_lt bit (index_bits shape)) (concerns shape vcpu (irq_at guest (key_of_bit shape vcpu bit))) (lt-ltb bit (index_bits shape) few)
    (subst (λ k. IsTrue (concerns shape vcpu (irq_at guest k))) (sym (key_back shape vcpu key good.sound.shape there own)) asked) in
    let same : 64 * (bit / 64) + bit % 64 ≡ bit = omega arith in
    let has : IsTrue (has_word shape (Index vcpu (bit / 64))) =
    and_from (nat_lt vcpu shape.vcpus) (nat_lt (bit / 64) (index_words shape)) (lt-ltb vcpu shape.vcpus within) (lt-ltb (bit / 64) (index_words shape) (omega (arith, few))) in
    inl (subst (λ w. IsTrue (has_bit w (bit % 64))) (sym (word_opens guest number (Index vcpu (bit / 64)) good has)) (asked_indexed guest vcpu (bit / 64) (bit % 64) (omega arith) (subst (λ b. IsTrue (is_asked guest vcpu b)) (sym same) is)))

pub runs_complete : IndexIsComplete
runs_complete guest number entries good run =
    complete guest.shape (end_of guest.shape (opening guest number) entries) (run_complete guest.shape (opening guest number) entries good.sound.shape (reached_opens guest number good) (opens_told guest number anyone good) run)
