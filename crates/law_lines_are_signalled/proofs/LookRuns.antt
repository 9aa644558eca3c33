-- In trap mode the looks of a vCPU by its index find what the ideal controller has for it.
use Rattle.std.proofs.Common.{◌≡◌, ℕ, zero, suc, ◌+◌, ◌/◌, ◌%◌, ◌<◌, ◌≤◌, ◌&&◌, ◌==◌, inl, inr, true≢false, not, Bool, true, false, cond, IsTrue, List, [], ◌∷◌, ◌++◌, map, filter, All, Contains, Option, Some, None, is_none, refl, sym, ap, subst, ◌∙◌, arith}
use Rattle.std.specs.List.{cons_option, filter_map, list_all, list_any, range_with_len, slice_index_or}
use Rattle.std.proofs.lemmas.Grind.{common_steps}
use Rattle.std.proofs.lemmas.Bool.{and_parts, and_from, eqb-true}
use Rattle.std.proofs.lemmas.List.FromFn.{get_or-map-range_with_len}
use Rattle.gic_line.specs.Lines.{lines_by}
use Rattle.law_serial_is_eager.specs.Words.{Key, GuestShape, has_interrupt, has_bit, intid_of, is_number, is_of_vcpu, key_at, interrupt_count, Irq, IsShape}
use Rattle.law_serial_is_eager.specs.Calls.{Entry}
use Rattle.law_serial_is_eager.specs.Registers.{Candidate, CpuRec, candidates_at, is_deliverable}
use Rattle.law_serial_is_eager.specs.Lists.{Offer, is_deliverable_to}
use Rattle.law_serial_is_eager.specs.Histories.{IdealGuest, CanOpen, IsHistory, candidate_at, candidates, cpu_at, home, is_home, is_of, opening_course, standing_at}
use Rattle.law_serial_is_eager.specs.Core.{Made, Local, CoreStep, Look, Irq as IrqWord, Index, CoreState, CoreMoment, actor_count, concerns, has_no_cand, owes_no_kick, owes_no_mark, owes_nothing, index_bit, index_bits, index_words, interface_of, is_at, is_cand, key_of_bit, opening, opening_progress, end_of_moments, ideal_of, progress_in, seat_at, word_in, word_of, IsProperRun}
use Rattle.law_serial_is_eager.specs.LawCoreIsHistory.Laws.{AreCalls}
use Rattle.law_serial_is_eager.specs.LawRegistersStand.Followed.{Followed}
use Rattle.law_serial_is_eager.specs.LawScansMissNone.Excuse.{followed_in}
use Rattle.law_serial_is_eager.specs.LawScansMissNone.Scan.{offer_in}
use Rattle.law_serial_is_eager.specs.LawScansMissNone.Waiting.{IsWaiting, record_in}
use Rattle.law_serial_is_eager.specs.LawLateOnesLeave.Late.{AccessesComeFirst}
use Rattle.law_serial_is_eager.specs.LawLoneAccessesFindAll.Lone.{AreAtEase, IsAlone}
use Rattle.law_serial_is_eager.specs.LawAccessesShowHome.UpToDate.{IsUpToDate}
use Rattle.law_serial_is_eager.proofs.GicCall.ReadLemmas.{all_early, all_late}
use Rattle.law_serial_is_eager.proofs.LawHistories.StandLemmas.{none_filtered, of_key, standing_of_key}
use Rattle.law_serial_is_eager.proofs.PortCore.StepLocals.{bit_there, no_bit}
use Rattle.law_serial_is_eager.proofs.LawAccessesShowHome.ListLemmas.{range_has, range_within}
use Rattle.law_serial_is_eager.proofs.CoreProper.ScanLemmas.{bit_of_key, own_of_bit}
use Rattle.law_serial_is_eager.proofs.LawHomeCommutes.HomeLemmas.{home_rest}
use Rattle.law_serial_is_eager.proofs.LawCoreIsHistory.HistorySteps.{runs_history}
use Rattle.law_serial_is_eager.proofs.LawCoreIsHistory.StandingLemmas.{any_stands}
use Rattle.law_serial_is_eager.proofs.LawScansMissNone.Frame.{IsAt, progress_on}
use Rattle.law_serial_is_eager.proofs.LawScansMissNone.TellSteps.{concerns_own}
use Rattle.law_serial_is_eager.proofs.LawScansMissNone.ToldLemmas.{owes_none, waiting_concerns}
use Rattle.law_serial_is_eager.proofs.LawAccessesShowHome.ShowLemmas.{Where, home_cpu, is_home_so, nowhere, somewhere, where_is}
use Rattle.law_serial_is_eager.proofs.LawAccessesShowHome.StayEvents.{AllAsReached}
use Rattle.law_serial_is_eager.proofs.LawAccessesShowHome.StayRuns.{stand_so}
use Rattle.law_serial_is_eager.proofs.LawHomeCommutes.SpotLemmas.{IsTidy}
use Rattle.law_serial_is_eager.proofs.LawLoneAccessesFindAll.AskLemmas.{not_folding}
use Rattle.law_serial_is_eager.proofs.LawLoneAccessesFindAll.EaseRuns.{ease_is_up_to_date}
use Rattle.law_serial_is_eager.proofs.LawLoneAccessesFindAll.HereLemmas.{an_actor, cpu_is, end_is, local_is}
use Rattle.law_serial_is_eager.proofs.VcpuRefill.ElementLemmas.{Contains-filter, Contains-map, map_cases}
use Rattle.law_serial_is_eager.proofs.VcpuRefill.EarnedLemmas.{from_filter}
use Rattle.law_entries_are_plans.proofs.DueLemmas.{IsShown, seen_home, shown_due}
use Rattle.law_entries_are_plans.proofs.PlaceLemmas.{bit_in, offer_home, offers_in}
use Rattle.law_entries_are_plans.proofs.PlanLemmas.{AreFound, IsFound, Passes, same_tested}
use Rattle.law_entries_are_plans.proofs.RisingLemmas.{Rises, rises_from}
use Rattle.pe_icc.specs.Core.{Seen, shape_of}
use Rattle.pe_icc.specs.PortCall.Piece.{steps_of}
use Rattle.pe_icc.specs.Lines.{candidate_found, candidates_found, keys_marked}
use Rattle.law_lines_are_signalled.specs.Signalled.{LooksAreSignalled, LooksIn, MayLook, signalled_in}
use Rattle.law_lines_are_signalled.proofs.RestRuns.{is_alone, none_waits, settled_all}

-- Lists.

-- an interrupt that is offered, as a candidate
abbrev shown : Offer → Candidate
shown offer = record { id = intid_of offer.key; prio = offer.irq.prio; group = offer.irq.group }

-- nobody holds it, and no access waits for it
abbrev free : Offer → Bool
free offer = is_none offer.irq.holder && not offer.irq.want

-- the candidates of a guest are those of its interrupts that are deliverable, in their order
of_places : (guest : IdealGuest) (vcpu : ℕ) (places : List ℕ)
    → filter_map (candidate_at guest vcpu) places ≡ map shown (filter (is_deliverable_to vcpu (cpu_at guest vcpu) guest.shape) (map (λ place. offer_home guest (key_at guest.shape place)) places))
of_places guest vcpu [] = refl
of_places guest vcpu (place ∷ places) = of (is_deliverable_to vcpu (cpu_at guest vcpu) guest.shape (offer_home guest (key_at guest.shape place))) (of_places guest vcpu places)
  where
    one : Offer
    one = offer_home guest (key_at guest.shape place)

    more : List Offer
    more = filter (is_deliverable_to vcpu (cpu_at guest vcpu) guest.shape) (map (λ place. offer_home guest (key_at guest.shape place)) places)

    of : (b : Bool) → filter_map (candidate_at guest vcpu) places ≡ map shown more → cons_option (cond b (Some (shown one)) None) (filter_map (candidate_at guest vcpu) places) ≡ map shown (cond b (one ∷ more) more)
    of true rest = ap (λ list. shown one ∷ list) rest
    of false rest = rest

-- What looks found.

module _ (shape : GuestShape) (state : CoreState) (vcpu : ℕ) (seen : Seen) (same_shape : shape_of seen ≡ shape) (same_actor : seen.actor ≡ vcpu) where
  -- its words have what they have
  abbrev FoundIn : List Made → Type 0
  FoundIn part = All (λ made. made.found ≡ word_in shape state (word_of shape vcpu made.step)) part

  abbrev word_at : ℕ → ℕ
  word_at word = word_in shape state (Index vcpu word)

  abbrev words_in : ℕ → ℕ → List ℕ
  words_in from count = map word_at (range_with_len from count)

  -- the looks at the index found its words, and no interrupt
  words_found : (from count : ℕ) (part : List Made) → steps_of part ≡ map (λ word. Look (Index seen.actor word)) (range_with_len from count) → FoundIn part → map (λ made. made.found) part ≡ words_in from count
  words_found from zero [] is found = refl
  words_found from zero (made ∷ part) is found = absurd (cc)
  words_found from (suc count) [] is found = absurd (cc)
  words_found from (suc count) (made ∷ part) is found =
      let step : made.step ≡ Look (Index seen.actor from) = cc in
      let more : steps_of part ≡ map (λ word. Look (Index seen.actor word)) (range_with_len (from + 1) count) = cc in
      let here : made.found ≡ word_at from = found 0 made (omega arith) ∙ ap (λ (s : CoreStep). word_in shape state (word_of shape vcpu s)) step ∙ ap (λ v. word_in shape state (Index v from)) same_actor in
      ap (λ n. n ∷ map (λ (one : Made). one.found) part) here ∙ ap (λ list. word_at from ∷ list) (words_found (from + 1) count part more (λ k d h. found (suc k) d (omega (arith, h))))

  none_in_words : (from count : ℕ) (part irqs : List Made) → steps_of part ≡ map (λ word. Look (Index seen.actor word)) (range_with_len from count) → candidates_found seen (part ++ irqs) ≡ candidates_found seen irqs
  none_in_words from zero [] irqs is = refl
  none_in_words from zero (made ∷ part) irqs is = absurd (cc)
  none_in_words from (suc count) [] irqs is = absurd (cc)
  none_in_words from (suc count) (made ∷ part) irqs is =
      let step : made.step ≡ Look (Index seen.actor from) = cc in
      let more : steps_of part ≡ map (λ word. Look (Index seen.actor word)) (range_with_len (from + 1) count) = cc in
      ap (λ (s : CoreStep). cons_option (candidate_found seen s made.found) (candidates_found seen (part ++ irqs))) step ∙ none_in_words (from + 1) count part irqs more

  -- the looks at interrupts found those that are deliverable, of those that nobody holds and no access waits for
  abbrev deliverable : Offer → Bool
  deliverable = is_deliverable_to vcpu seen.local.cpu shape

  abbrev free_ones : List Key → List Offer
  free_ones keys = filter free (map (offer_in shape state) keys)

  irqs_found : (keys : List Key) (part : List Made) → steps_of part ≡ map (λ key. Look (IrqWord key)) keys → FoundIn part → candidates_found seen part ≡ map shown (filter deliverable (free_ones keys))
  irqs_found [] [] is found = refl
  irqs_found [] (made ∷ part) is found = absurd (cc)
  irqs_found (key ∷ keys) [] is found = absurd (cc)
  irqs_found (key ∷ keys) (made ∷ part) is found =
      let step : made.step ≡ Look (IrqWord key) = cc in
      let more : steps_of part ≡ map (λ k. Look (IrqWord k)) keys = cc in
      let here : made.found ≡ word_in shape state (IrqWord key) = found 0 made (omega arith) ∙ ap (λ (s : CoreStep). word_in shape state (word_of shape vcpu s)) step in
      ap (λ (s : CoreStep). cons_option (candidate_found seen s made.found) (candidates_found seen part)) step
      ∙ ap (λ n. cons_option (candidate_found seen (Look (IrqWord key)) n) (candidates_found seen part)) here
      ∙ ap (λ list. cons_option (candidate_found seen (Look (IrqWord key)) (word_in shape state (IrqWord key))) list) (irqs_found keys part more (λ k d h. found (suc k) d (omega (arith, h))))
      ∙ ap (λ v. cons_option (one_found v (shape_of seen)) rest) same_actor
      ∙ ap (λ s. cons_option (one_found vcpu s) rest) same_shape
      ∙ of (is_none irq.holder) (not irq.want)
    where
      irq : Irq
      irq = record_in shape state key

      rest : List Candidate
      rest = map shown (filter deliverable (free_ones keys))

      one_found : ℕ → GuestShape → Option Candidate
      one_found v s = cond (is_none irq.holder && not irq.want && is_deliverable key irq v seen.local.cpu s) (Some (shown (offer_in shape state key))) None

      by : (b : Bool) → cons_option (cond b (Some (shown (offer_in shape state key))) None) rest ≡ map shown (cond b (offer_in shape state key ∷ filter deliverable (free_ones keys)) (filter deliverable (free_ones keys)))
      by true = refl
      by false = refl

      of : (a b : Bool) → cons_option (cond (a && b && deliverable (offer_in shape state key)) (Some (shown (offer_in shape state key))) None) rest ≡ map shown (filter deliverable (cond (a && b) (offer_in shape state key ∷ free_ones keys) (free_ones keys)))
      of true true = by (deliverable (offer_in shape state key))
      of true false = refl
      of false b = refl

-- The bits of an index.

key_there : (shape : GuestShape) (vcpu bit : ℕ) → IsShape shape → vcpu < shape.vcpus → bit < index_bits shape → IsTrue (has_interrupt shape (key_of_bit shape vcpu bit))
key_there shape vcpu bit good few within = grind (arith, common_steps, few, within, good.spis, good.espis, good.lpis)

key_back : (shape : GuestShape) (vcpu : ℕ) (key : Key) → IsShape shape → IsTrue (has_interrupt shape key) → IsTrue (is_of_vcpu vcpu key) → key_of_bit shape vcpu (index_bit shape key) ≡ key
key_back shape vcpu key is there own = grind (arith, common_steps, is.vcpus, is.spis, is.espis, is.lpis)

module _ (shape : GuestShape) (state : CoreState) (vcpu : ℕ) (good : IsShape shape) (words : List ℕ) where
  abbrev marked_from : ℕ → ℕ → List Key
  marked_from from count = map (key_of_bit shape vcpu) (filter (is_cand (record { words = words })) (range_with_len from count))

  abbrev offers_from : ℕ → ℕ → List Offer
  offers_from from count = filter free (map (offer_in shape state) (marked_from from count))

  offers_rise : (from count : ℕ) → from + count ≤ index_bits shape → Rises (bit_in shape) from (offers_from from count)
  offers_rise from zero few = tt
  offers_rise from (suc count) few = of (offers_rise (from + 1) count (omega (arith, few))) (is_cand (record { words = words }) from)
    where
      one : Offer
      one = offer_in shape state (key_of_bit shape vcpu from)

      passed : Rises (bit_in shape) (from + 1) (offers_from (from + 1) count) → Rises (bit_in shape) from (offers_from (from + 1) count)
      passed later = rises_from (bit_in shape) from (from + 1) (offers_from (from + 1) count) (omega arith) later

      at : bit_in shape one ≡ from
      at = bit_of_key shape vcpu from good (omega (arith, few))

      by : Rises (bit_in shape) (from + 1) (offers_from (from + 1) count) → (b : Bool) → Rises (bit_in shape) from (cond b (one ∷ offers_from (from + 1) count) (offers_from (from + 1) count))
      by later true = (omega (arith, at), subst (λ m. Rises (bit_in shape) (m + 1) (offers_from (from + 1) count)) (sym at) later)
      by later false = passed later

      of : Rises (bit_in shape) (from + 1) (offers_from (from + 1) count) → (b : Bool) → Rises (bit_in shape) from (filter free (map (offer_in shape state) (map (key_of_bit shape vcpu) (cond b (from ∷ filter (is_cand (record { words = words })) (range_with_len (from + 1) count)) (filter (is_cand (record { words = words })) (range_with_len (from + 1) count))))))
      of later true = by later (free one)
      of later false = passed later

-- it owes no mark, and took no bit
record Owing (local : Local) : Type 0 where
  marks : IsTrue (owes_no_mark local)
  cands : IsTrue (has_no_cand local)

none_in : (words : List ℕ) (i : ℕ) → list_all (λ word. word == 0) words ≡ true → slice_index_or words i 0 ≡ 0
none_in [] i h = refl
none_in (word ∷ words) zero h = eqb-true word 0 (and_parts (word == 0) (list_all (λ word. word == 0) words) h).0
none_in (word ∷ words) (suc i) h = none_in words i (and_parts (word == 0) (list_all (λ word. word == 0) words) h).1

no_cand : (local : Local) (bit : ℕ) → IsTrue (has_no_cand local) → IsTrue (is_cand local.cands bit) → ⊥
no_cand local bit none has = no_bit (bit % 64) (subst (λ n. IsTrue (has_bit n (bit % 64))) (none_in local.cands.words (bit / 64) none) has)

-- A vCPU that is alone, with nothing at its interface.

module _ (guest : IdealGuest) (number : ℕ) (moments : List CoreMoment) (vcpu : ℕ) (seen : Seen) (part : List Made) (good : CanOpen guest) (proper : IsProperRun guest number moments) (calls : AreCalls guest.shape (opening guest number) (opening_course guest) moments)
    (firsts : AccessesComeFirst guest number moments) (ease : AreAtEase guest number moments) (few : vcpu < guest.shape.vcpus) (may : MayLook guest.shape (end_of_moments guest.shape (opening guest number) moments) vcpu (progress_in guest number moments vcpu))
    (looks : LooksIn guest.shape (end_of_moments guest.shape (opening guest number) moments) vcpu seen part) where
  abbrev shape : GuestShape
  shape = guest.shape

  abbrev state : CoreState
  state = end_of_moments guest.shape (opening guest number) moments

  abbrev at : Followed
  at = followed_in guest number moments

  abbrev back : IdealGuest
  back = home at.ideal

  here : IsAt shape state at (progress_on shape (opening_progress guest number) moments)
  here = end_is guest number good moments proper

  history : IsHistory guest (ideal_of guest.shape (opening guest number) moments)
  history = (runs_history guest number moments good proper.parted calls).history

  up : IsUpToDate guest.shape (followed_in guest number moments)
  up = ease_is_up_to_date guest number moments good proper firsts ease

  all : AllAsReached guest.shape at
  all = (stand_so guest (ideal_of guest.shape (opening guest number) moments) good history).0

  tidy : IsTidy guest.shape at.ideal
  tidy = (stand_so guest (ideal_of guest.shape (opening guest number) moments) good history).1

  there : vcpu < actor_count shape
  there = an_actor guest number moments good proper vcpu few

  alone : IsAlone guest number moments vcpu
  alone = is_alone guest number moments vcpu good proper ease there

  none : (actor : ℕ) → actor < actor_count guest.shape → (progress_in guest number moments actor).wants ≡ []
  none = none_waits guest number moments vcpu good proper ease

  -- an interrupt that nobody holds stands at no interface
  at_home : (key : Key) → IsTrue (has_interrupt shape key) → (record_in shape state key).holder ≡ None → is_home at.ideal key ≡ true
  at_home key has free = of (where_is shape good.sound.shape at tidy all up vcpu few key has)
    where
      stands : (w : ℕ) (entry : Entry) → w < shape.vcpus → of_key at.ideal key w ≡ standing_of_key key entry ∷ [] → ⊥
      stands w entry within is = by (list_any (is_of key) (standing_at at.ideal w)) refl
        where
          held : list_any (is_of key) (standing_at at.ideal w) ≡ is_at key (seat_at state w).local.at
          held = ap (list_any (is_of key)) (here.related.seats w within).at ∙ any_stands key (seat_at state w).local.at

          tied : is_at key (seat_at state w).local.at ≡ false
          tied = sym (here.sound.ties w (IrqWord key) (an_actor guest number moments good proper w within) has) ∙ ap (is_number w) free

          by : (b : Bool) → list_any (is_of key) (standing_at at.ideal w) ≡ b → ⊥
          by true e = true≢false (sym e ∙ held ∙ tied)
          by false e = let nothing = none_filtered (is_of key) (standing_at at.ideal w) e in cc

      of : Where shape good.sound.shape at tidy all up vcpu few key → is_home at.ideal key ≡ true
      of (nowhere away e) = is_home_so shape good.sound.shape at tidy all up vcpu few key away
      of (somewhere w entry is e reached) = absurd (stands w entry is.few is.here)

  abbrev words : List ℕ
  words = map (λ (made : Made). made.found) looks.by_index.words

  abbrev FoundThere : Made → Type 0
  FoundThere made = made.found ≡ word_in shape state (word_of shape vcpu made.step)

  whole : All FoundThere (looks.by_index.words ++ looks.by_index.irqs)
  whole = subst (All FoundThere) looks.by_index.part_is looks.found

  both : All FoundThere looks.by_index.words × All FoundThere looks.by_index.irqs
  both = (all_early FoundThere looks.by_index.words looks.by_index.irqs whole, all_late FoundThere looks.by_index.words looks.by_index.irqs whole)

  words_are : words ≡ map (λ word. word_in shape state (Index vcpu word)) (range_with_len 0 (index_words shape))
  words_are =
      words_found shape state vcpu seen looks.shape_is looks.actor_is 0 (index_words shape) looks.by_index.words
      (looks.by_index.words_are ∙ ap (λ (s : GuestShape). map (λ word. Look (Index seen.actor word)) (range_with_len 0 (index_words s))) looks.shape_is) both.0

  abbrev keys : List Key
  keys = keys_marked shape vcpu words

  abbrev offers : List Offer
  offers = offers_from shape state vcpu good.sound.shape words 0 (index_bits shape)

  found : AreFound shape back vcpu (index_bits shape) offers
  found = record { each = each; rise = offers_rise shape state vcpu good.sound.shape words 0 (index_bits shape) (omega arith) }
    where
      each : (offer : Offer) → Contains offers offer → IsFound shape back vcpu (index_bits shape) offer
      each offer h =
          let free_is = from_filter free (map (offer_in shape state) keys) offer h in
          of free_is.1 (map_cases (offer_in shape state) keys offer free_is.0)
        where
          of : free offer ≡ true → (key : Key) × Contains keys key × (offer_in shape state key ≡ offer) → IsFound shape back vcpu (index_bits shape) offer
          of is_free (key, among, is) = by (map_cases (key_of_bit shape vcpu) (filter (is_cand (record { words = words })) (range_with_len 0 (index_bits shape))) key among)
            where
              by : (bit : ℕ) × Contains (filter (is_cand (record { words = words })) (range_with_len 0 (index_bits shape))) bit × (key_of_bit shape vcpu bit ≡ key) → IsFound shape back vcpu (index_bits shape) offer
              by (bit, marked, same) =
                  let within = range_within (index_bits shape) bit (from_filter (is_cand (record { words = words })) (range_with_len 0 (index_bits shape)) bit marked).0 in
                  let has : IsTrue (has_interrupt shape key) = subst (λ k. IsTrue (has_interrupt shape k)) same (key_there shape vcpu bit good.sound.shape few within) in
                  let bit_is : index_bit shape key ≡ bit = ap (index_bit shape) (sym same) ∙ bit_of_key shape vcpu bit good.sound.shape within in
                  let parts = and_parts (is_none (record_in shape state key).holder) (not (record_in shape state key).want) (ap free is ∙ is_free) in
                  let holder = none_is (record_in shape state key).holder parts.0 in
                  subst (IsFound shape back vcpu (index_bits shape)) is (record {
                    there = has;
                    own = subst (λ k. IsTrue (is_of_vcpu vcpu k)) same (own_of_bit shape vcpu bit);
                    below = omega (arith, bit_is, within);
                    is = seen_home guest number moments vcpu good proper history few up alone none key has holder (at_home key has holder);
                  })
                where
                  none_is : {X : Type 0} (o : Option X) → is_none o ≡ true → o ≡ None
                  none_is None h = refl
                  none_is (Some x) h = absurd (true≢false (sym h))

  -- what passes at home has its bit
  indexed : (key : Key) → IsTrue (has_interrupt shape key) → Passes shape back vcpu key → Contains offers (offer_home back key)
  indexed key has passes = subst (Contains offers) shown_is.same (Contains-filter free (map (offer_in shape state) keys) (offer_in shape state key) is_free (Contains-map (offer_in shape state) keys key marked))
    where
      shown_is : IsShown shape back state at.track vcpu key
      shown_is = shown_due guest number moments vcpu good proper history few up alone none may.empty key has passes

      waiting : IsWaiting shape state vcpu key
      waiting = shown_is.due.waiting

      is_free : free (offer_in shape state key) ≡ true
      is_free = and_from (is_none (record_in shape state key).holder) (not (record_in shape state key).want) (ap is_none waiting.home) (ap not waiting.unwanted)

      concerned : IsTrue (concerns shape vcpu (record_in shape state key))
      concerned = waiting_concerns shape vcpu (record_in shape state key) waiting.waits

      own : IsTrue (is_of_vcpu vcpu key)
      own = concerns_own shape key vcpu (word_in shape state (IrqWord key)) has (here.sound.words (IrqWord key) has) concerned

      below : index_bit shape key < index_bits shape
      below = bit_there shape key good.sound.shape has

      found_word : slice_index_or words (index_bit shape key / 64) 0 ≡ word_in shape state (Index vcpu (index_bit shape key / 64))
      found_word =
          ap (λ list. slice_index_or list (index_bit shape key / 64) 0) words_are
          ∙ get_or-map-range_with_len (λ word. word_in shape state (Index vcpu word)) 0 (index_words shape) (index_bit shape key / 64) (index_bit shape key / 64) 0 (omega (arith, below)) (omega arith)

      settled : (actor : ℕ) → actor < actor_count shape → Owing (seat_at state actor).local
      settled actor within =
          let local = (seat_at state actor).local in
          let apart = (and_parts (owes_nothing local && not local.turn && not local.ctlr) (is_none local.line) (settled_all guest number moments vcpu good proper ease actor within)).0 in
          let free = (and_parts (owes_nothing local && not local.turn) (not local.ctlr) apart).0 in
          let owes = (and_parts (owes_nothing local) (not local.turn) free).0 in
          let two = and_parts (owes_no_kick local && owes_no_mark local) (has_no_cand local) owes in
          record { marks = (and_parts (owes_no_kick local) (owes_no_mark local) two.0).1; cands = two.1 }

      bit : is_cand (record { words = words }) (index_bit shape key) ≡ true
      bit = elim (here.told key vcpu has few waiting.home concerned) [
        | inl is ↦ (ap (λ n. has_bit n (index_bit shape key % 64)) found_word ∙ is)
        | inr (inl taken) ↦ absurd (no_cand (seat_at state vcpu).local (index_bit shape key) (settled vcpu there).cands taken)
        | inr (inr owed) ↦ absurd (owes_none key vcpu (seat_at state owed.actor).local (settled owed.actor owed.there).marks owed.owes)
      ]

      marked : Contains keys key
      marked =
          subst (Contains keys) (key_back shape vcpu key good.sound.shape has own)
          (Contains-map (key_of_bit shape vcpu) (filter (is_cand (record { words = words })) (range_with_len 0 (index_bits shape))) (index_bit shape key)
          (Contains-filter (is_cand (record { words = words })) (range_with_len 0 (index_bits shape)) (index_bit shape key) bit (range_has (index_bits shape) (index_bit shape key) below)))

  cpu : cpu_at back vcpu ≡ seen.local.cpu
  cpu =
      home_cpu shape good.sound.shape at tidy all up vcpu few ∙ cpu_is guest number moments good proper vcpu few may.unkicked (not_folding (progress_in guest number moments vcpu).local.phase may.loaded.ready)
      ∙ ap (λ (l : Local). l.cpu) (local_is guest number moments good proper vcpu there ∙ sym looks.local_is)

  found_are : candidates_found seen part ≡ candidates back vcpu
  found_are =
      ap (candidates_found seen) looks.by_index.part_is
      ∙ none_in_words shape state vcpu seen looks.shape_is looks.actor_is 0 (index_words (shape_of seen)) looks.by_index.words looks.by_index.irqs looks.by_index.words_are
      ∙ irqs_found shape state vcpu seen looks.shape_is looks.actor_is keys looks.by_index.irqs irqs_are both.1
      ∙ ap (map shown) (ap (λ (c : CpuRec). filter (is_deliverable_to vcpu c shape) offers) (sym cpu) ∙ same_tested shape back vcpu (index_bits shape) good.sound.shape few offers found indexed (is_deliverable_to vcpu (cpu_at back vcpu) shape) (λ key passes. inr passes))
      ∙ ap (λ (s : GuestShape). map shown (filter (is_deliverable_to vcpu (cpu_at back vcpu) s) (offers_in s back))) (sym shape_is)
      ∙ sym (of_places back vcpu (range_with_len 0 (interrupt_count back.shape)))
    where
      shape_is : back.shape ≡ shape
      shape_is = ap (λ (g : IdealGuest). g.shape) (home_rest at.ideal) ∙ tidy.shape_is

      irqs_are : steps_of looks.by_index.irqs ≡ map (λ key. Look (IrqWord key)) keys
      irqs_are =
          looks.by_index.irqs_are ∙ ap (λ (s : GuestShape). map (λ key. Look (IrqWord key)) (keys_marked s seen.actor words)) looks.shape_is
          ∙ ap (λ v. map (λ key. Look (IrqWord key)) (keys_marked shape v words)) looks.actor_is

  nothing : candidates_at (interface_of seen.local) ≡ []
  nothing = ap (λ (l : Local). candidates_at (interface_of l)) looks.local_is ∙ ap (λ list. candidates_at (interface_of (record (seat_at state vcpu).local { at = list }))) may.empty

  pub told : lines_by seen.local.cpu (candidates_at (interface_of seen.local) ++ candidates_found seen part) ≡ signalled_in guest number moments vcpu
  told =
      ap (λ list. lines_by seen.local.cpu (list ++ candidates_found seen part)) nothing ∙ ap (lines_by seen.local.cpu) found_are ∙ ap (λ (c : CpuRec). lines_by c (candidates back vcpu)) (sym cpu)

pub looks_are_signalled : LooksAreSignalled
looks_are_signalled guest number moments vcpu seen part good proper calls firsts ease few may looks = told guest number moments vcpu seen part good proper calls firsts ease few may looks
