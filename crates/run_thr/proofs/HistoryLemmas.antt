-- What a run on threads answers is one history of each guest.
use Rattle.std.proofs.Common.{◌≡◌, ℕ, ◌<◌, zero, suc, inl, inr, List, [], ◌∷◌, ◌++◌, length, map, Some, refl, sym, ap, subst, ◌∙◌, arith}
use Rattle.std.specs.Prelude.{slice_get}
use Rattle.std.specs.List.{flat_map, range_with_len}
use Rattle.std.proofs.Math.Logic.{∥∥₁_map}
use Rattle.std.proofs.lemmas.List.{length-map, map-append}
use Rattle.std.proofs.lemmas.List.Elements.{All-get_or}
use Rattle.std.proofs.lemmas.Option.{get_or_from_slice_get, slice_get-get_or, slice_get_cases, slice_get_within}
use Rattle.law_threads_are_history.proofs.IdealGuests.CanOpenLemmas.{openings_can_open}
use Rattle.law_threads_are_history.specs.LawEagerIsHistory.Possible.{IsPossible}
use Rattle.law_threads_are_history.specs.GicIdeal.Ends.{end_of, ends_of}
use Rattle.law_threads_are_history.specs.Registers.{CpuRec}
use Rattle.law_threads_are_history.specs.GuestEnd.declared.outcome.Done.{Done}
use Rattle.law_threads_are_history.specs.GuestEnd.Ends.{AllEndAt, EndsAt, HaveEnded}
use Rattle.law_threads_are_history.specs.GuestEnd.Home.{guest_of}
use Rattle.law_threads_are_history.proofs.GuestEnd.EndsLemmas.{all_end}
use Rattle.law_threads_are_history.specs.Histories.{IdealGuest}
use Rattle.law_threads_are_history.specs.IdealGuests.Opening.{opening}
use Rattle.law_threads_are_history.specs.Core.{GuestWords}
use Rattle.law_threads_are_history.specs.PortOps.Opened.{no_guest}
use Rattle.law_threads_are_history.proofs.PortOps.WorldLemmas.{map_twice}
use Rattle.thr_cast.specs.PortTable.Told.{AllDone, EndsRun, EndsRuns, RootTold, WordsTold, no_words, root_at, words_at}
use Rattle.law_threads_are_history.specs.Calls.{GuestSpec, IsGoodGuest, shapes_of}
use Rattle.law_threads_are_history.specs.GicGuest.declared.outcome.End.{End}
use Rattle.law_threads_are_history.specs.ScnBase.declared.scenario.Scenario.{Scenario}
use Rattle.law_threads_are_history.specs.ScnBase.declared.step.Mode.TheVariants.{Threads}
use Rattle.law_threads_are_history.specs.ScnBase.Good.{IsGood}
use Rattle.thr_cast.specs.ThrTrip.Script.{vcpus_of}
use Rattle.run_thr.specs.Run.{GuestHasRun, HasRun, cpu_of, local_of}
use Rattle.run_thr.proofs.GuestLemmas.{HasHistoryOf, TellsHistory, cpus_by, guest_tells}

-- Lists.

some_same : {X : Type 0} (x y : X) → Some x ≡ Some y → x ≡ y
some_same x y e = cc

-- one of two lists that go together, with one of each
abbrev pub paired : {A B : Type 0} → List A → List B → List (A × B)
paired [] ys = []
paired (x ∷ xs) [] = []
paired (x ∷ xs) (y ∷ ys) = (x, y) ∷ paired xs ys

paired_length : {A B : Type 0} (xs : List A) (ys : List B) → length ys ≡ length xs → length (paired xs ys) ≡ length xs
paired_length [] ys e = refl
paired_length (x ∷ xs) [] e = absurd (omega (arith, e))
paired_length (x ∷ xs) (y ∷ ys) e = ap suc (paired_length xs ys (omega (arith, e)))

paired_first : {A B C : Type 0} (f : A → List C) (xs : List A) (ys : List B) → length ys ≡ length xs → flat_map (λ (pair : A × B). f pair.0) (paired xs ys) ≡ flat_map f xs
paired_first f [] ys e = refl
paired_first f (x ∷ xs) [] e = absurd (omega (arith, e))
paired_first {C = C} f (x ∷ xs) (y ∷ ys) e = ap (λ (rest : List C). f x ++ rest) (paired_first f xs ys (omega (arith, e)))

paired_second : {A B : Type 0} (xs : List A) (ys : List B) → length ys ≡ length xs → map (λ (pair : A × B). pair.1) (paired xs ys) ≡ ys
paired_second [] [] e = refl
paired_second [] (y ∷ ys) e = absurd (omega (arith, e))
paired_second (x ∷ xs) [] e = absurd (omega (arith, e))
paired_second {B = B} (x ∷ xs) (y ∷ ys) e = ap (λ (rest : List B). y ∷ rest) (paired_second xs ys (omega (arith, e)))

pair_at : {A B : Type 0} (xs : List A) (ys : List B) (n : ℕ) (pair : A × B) → slice_get (paired xs ys) n ≡ Some pair → (slice_get xs n ≡ Some pair.0) × (slice_get ys n ≡ Some pair.1)
pair_at [] ys n pair e = absurd (cc)
pair_at (x ∷ xs) [] n pair e = absurd (cc)
pair_at {A = A} {B = B} (x ∷ xs) (y ∷ ys) zero pair e = let same = some_same (x, y) pair e in (ap (λ (p : A × B). Some p.0) same, ap (λ (p : A × B). Some p.1) same)
pair_at (x ∷ xs) (y ∷ ys) (suc n) pair e = pair_at xs ys n pair e

map_flat : {A B C : Type 0} (f : B → C) (g : A → List B) (xs : List A) → map f (flat_map g xs) ≡ flat_map (λ x. map f (g x)) xs
map_flat f g [] = refl
map_flat {C = C} f g (x ∷ xs) = map-append f (g x) (flat_map g xs) ∙ ap (λ (rest : List C). map f (g x) ++ rest) (map_flat f g xs)

get_of_map : {A B : Type 0} (f : A → B) (xs : List A) (n : ℕ) (x : A) → slice_get xs n ≡ Some x → slice_get (map f xs) n ≡ Some (f x)
get_of_map f [] n x e = absurd (cc)
get_of_map f (y ∷ xs) zero x e = ap (λ z. Some (f z)) (some_same y x e)
get_of_map f (y ∷ xs) (suc n) x e = get_of_map f xs n x e

-- End lines.

end_at : (guests : List GuestSpec) (ideals : List IdealGuest) (n : ℕ) (guest : GuestSpec) (ideal : IdealGuest) → slice_get guests n ≡ Some guest → slice_get ideals n ≡ Some ideal → slice_get (ends_of (map opening guests) ideals) n ≡ Some (end_of (opening guest) ideal)
end_at [] ideals n guest ideal a b = absurd (cc)
end_at (first ∷ guests) [] n guest ideal a b = absurd (cc)
end_at (first ∷ guests) (one ∷ ideals) zero guest ideal a b = ap (λ g. Some (end_of (opening g) one)) (some_same first guest a) ∙ ap (λ i. Some (end_of (opening guest) i)) (some_same one ideal b)
end_at (first ∷ guests) (one ∷ ideals) (suc n) guest ideal a b = end_at guests ideals n guest ideal a b

ends_each : (guests : List GuestSpec) (ideals : List IdealGuest) → length ideals ≡ length guests → length (ends_of (map opening guests) ideals) ≡ length guests
ends_each [] ideals e = refl
ends_each (first ∷ guests) [] e = absurd (omega (arith, e))
ends_each (first ∷ guests) (one ∷ ideals) e = ap suc (ends_each guests ideals (omega (arith, e)))

-- The ends of runs.

runs_each : (words : List WordsTold) (root : List RootTold) (left : List GuestWords) → EndsRuns words root left → length left ≡ length words
runs_each [] [] [] runs = refl
runs_each [] [] (one ∷ left) runs = absurd runs
runs_each [] (r ∷ root) left runs = absurd runs
runs_each (w ∷ words) [] left runs = absurd runs
runs_each (w ∷ words) (r ∷ root) [] runs = absurd runs
runs_each (w ∷ words) (r ∷ root) (one ∷ left) runs = ap suc (runs_each words root left runs.1)

run_at : (words : List WordsTold) (root : List RootTold) (left : List GuestWords) (n : ℕ) (one : GuestWords) → EndsRuns words root left → slice_get left n ≡ Some one → EndsRun (words_at words n) (root_at root n) one
run_at words root [] n one runs e = absurd (cc)
run_at [] [] (first ∷ left) n one runs e = absurd runs
run_at [] (r ∷ root) (first ∷ left) n one runs e = absurd runs
run_at (w ∷ words) [] (first ∷ left) n one runs e = absurd runs
run_at (w ∷ words) (r ∷ root) (first ∷ left) zero one runs e = subst (EndsRun w r) (some_same first one e) runs.0
run_at (w ∷ words) (r ∷ root) (first ∷ left) (suc n) one runs e = run_at words root left n one runs.1 e

-- All guests.

module _ (scenario : Scenario) (done : Done) (words : List WordsTold) (root : List RootTold) (run : HasRun scenario done words root) where
  -- no actor has an ITS any more
  pub all_done : AllDone words root
  all_done number there =
      (run.each number _ (slice_get-get_or scenario.guests number no_guest (subst (λ n. number < n) run.guests there))).done

  module _ (good : IsGood Threads scenario) (left : List GuestWords) (runs : EndsRuns words root left) where
    -- what is told of a guest: its words as it opened, and those that it left
    abbrev pub Told : Type 0
    Told = WordsTold × GuestWords

    abbrev pub tolds : List Told
    tolds = paired words left

    abbrev pub cpus_told : Told → List CpuRec
    cpus_told told = map (cpu_of words root) (vcpus_of told.0)

    abbrev pub ideal_told : Told → IdealGuest
    ideal_told told = guest_of told.0.guest.shape told.1 (cpus_told told)

    abbrev pub ideals : List IdealGuest
    ideals = map ideal_told tolds

    lefts : length left ≡ length words
    lefts = runs_each words root left runs

    tolds_each : length tolds ≡ length scenario.guests
    tolds_each = paired_length words left lefts ∙ run.guests

    ideals_each : length ideals ≡ length scenario.guests
    ideals_each = length-map tolds ideal_told ∙ tolds_each

    good_at : (n : ℕ) (guest : GuestSpec) → slice_get scenario.guests n ≡ Some guest → IsGoodGuest guest
    good_at n guest is = subst IsGoodGuest (get_or_from_slice_get scenario.guests n guest guest is) (All-get_or IsGoodGuest scenario.guests n guest (slice_get_within scenario.guests n guest is) good.each_guest)

    cpus_are : done.cpus ≡ flat_map cpus_told tolds
    cpus_are = run.cpus ∙ map_flat (cpu_of words root) vcpus_of words ∙ sym (paired_first (λ one. map (cpu_of words root) (vcpus_of one)) words left lefts)

    -- One guest.

    module _ (n : ℕ) (guest : GuestSpec) (told : Told) (here : slice_get scenario.guests n ≡ Some guest) (there : slice_get tolds n ≡ Some told) where
      has : GuestHasRun (opening guest) n scenario.lrs scenario.steps done.answers (words_at words n) (root_at root n)
      has = run.each n guest here

      words_are : words_at words n ≡ told.0
      words_are = get_or_from_slice_get words n told.0 no_words (pair_at words left n told there).0

      guest_is : told.0.guest ≡ opening guest
      guest_is = ap (λ (one : WordsTold). one.guest) (sym words_are) ∙ has.guest_is

      number_is : told.0.number ≡ n
      number_is = ap (λ (one : WordsTold). one.number) (sym words_are) ∙ has.number_is

      told_cpus : cpus_told told ≡ cpus_by guest.shape (words_at words n) (root_at root n)
      told_cpus =
          sym (map_twice (λ vcpu. record { guest = told.0.number; vcpu = vcpu }) (cpu_of words root) (range_with_len 0 told.0.guest.shape.vcpus))
          ∙ ap (λ (g : IdealGuest). map (λ vcpu. (local_of (words_at words told.0.number) (root_at root told.0.number) vcpu).cpu) (range_with_len 0 g.shape.vcpus)) guest_is
          ∙ ap (λ number. map (λ vcpu. (local_of (words_at words number) (root_at root number) vcpu).cpu) (range_with_len 0 guest.shape.vcpus)) number_is

      ideal_is : ideal_told told ≡ guest_of guest.shape told.1 (cpus_told told)
      ideal_is = ap (λ (g : IdealGuest). guest_of g.shape told.1 (cpus_told told)) guest_is

      tells : TellsHistory (opening guest) n scenario.steps done.answers told.1 (cpus_told told)
      tells =
          subst (TellsHistory (opening guest) n scenario.steps done.answers told.1) (sym told_cpus)
          (guest_tells (words_at words n) (root_at root n) told.1 (run_at words root left n told.1 runs (pair_at words left n told there).1) scenario.pes scenario.lrs (shapes_of scenario.guests) scenario.steps done.answers good.each_step (opening guest) n
          (get_of_map (λ (g : GuestSpec). g.shape) scenario.guests n guest here) (openings_can_open guest (good_at n guest here)) has)

      ends_told : EndsAt guest told.1 (cpus_told told) (ideal_told told)
      ends_told = subst (EndsAt guest told.1 (cpus_told told)) (sym ideal_is) (record { good = good_at n guest here; ended = tells.ended; vcpus = tells.vcpus; lines = refl })

      history_told : ∥ HasHistoryOf (opening guest) n scenario.steps done.answers (ideal_told told) ∥₁
      history_told = subst (λ ideal. ∥ HasHistoryOf (opening guest) n scenario.steps done.answers ideal ∥₁) (sym ideal_is) tells.history

    -- How they ended.

    all_ended : AllEndAt scenario.guests left done.cpus ideals
    all_ended =
        subst (λ (ws : List GuestWords). AllEndAt scenario.guests ws done.cpus ideals) (paired_second words left lefts)
        (subst (λ cpus. AllEndAt scenario.guests (map (λ (told : Told). told.1) tolds) cpus ideals) (sym cpus_are)
        (all_end (λ (told : Told). told.1) cpus_told scenario.guests tolds ideals tolds_each ideals_each
        (λ n guest told ideal here there is.
        let ideal_is = some_same (ideal_told told) ideal (sym (get_of_map ideal_told tolds n told there) ∙ is) in
        subst (EndsAt guest told.1 (cpus_told told)) ideal_is (ends_told n guest told here there))))

    pub ended_by : (cpus : List CpuRec) → cpus ≡ done.cpus → AllEndAt scenario.guests left cpus ideals
    ended_by cpus same = subst (λ cpus. AllEndAt scenario.guests left cpus ideals) (sym same) all_ended

    pub have_ended : (cpus : List CpuRec) → cpus ≡ done.cpus → HaveEnded scenario.guests left cpus
    have_ended cpus same = record { ideals = ideals; all = ended_by cpus same }

    -- so what comes out is one history of each
    pub one_history : (ends : List End) → ends ≡ ends_of (map opening scenario.guests) ideals → IsPossible scenario (record { answers = done.answers; ends = ends })
    one_history ends ends_are = record {
      answers = run.answers;
      ends = ap length ends_are ∙ ends_each scenario.guests ideals ideals_each;
      each = λ n guest here.
          let within = subst (λ k. n < k) (sym tolds_each) (slice_get_within scenario.guests n guest here) in
          let told = told_at n within in
          let ended = end_at scenario.guests ideals n guest (ideal_told told.0) here (get_of_map ideal_told tolds n told.0 told.1) in
          ∥∥₁_map (history_told n guest told.0 here told.1) (λ (has : HasHistoryOf (opening guest) n scenario.steps done.answers (ideal_told told.0)). record {
            moments = has.moments;
            is = record { history = has.history; fresh = has.fresh; whole = has.whole };
            calls = has.calls;
            ends = ap (λ (es : List End). slice_get es n) ends_are ∙ ended ∙ ap Some (has.lines (opening guest));
          });
    }
      where
        told_at : (n : ℕ) → n < length tolds → (told : Told) × (slice_get tolds n ≡ Some told)
        told_at n few = elim ((slice_get_cases tolds n).1) [
          | inl has ↦ (has.0, has.2)
          | inr past ↦ absurd (omega (arith, few, past.0))
        ]
