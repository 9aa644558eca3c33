-- A vCPU that enters while nobody else acts: each of its claims finds the word that it expects, and so it is not kicked then.
use Rattle.std.proofs.Common.{◌≡◌, ◌≢◌, ℕ, ◌<◌, ◌&&◌, ◌||◌, true≢false, not, Bool, true, false, if◌then◌else◌, IsTrue, List, [], ◌∷◌, ◌++◌, append-nil, map, slice_index_or, Some, None, unwrap_or, refl, sym, ap, subst, ◌∙◌}
use Rattle.std.proofs.lemmas.Bool.{and_parts, eq-eqb, eqb-true, lt-ltb}
use Rattle.std.proofs.lemmas.List.{append_assoc, map-append}
use Rattle.std.proofs.lemmas.List.Folds.{list_all-append}
use Rattle.std.proofs.lemmas.Option.{none-some, same_Some}
use Rattle.guest_end.specs.Words.{Key, GuestShape, IsShape}
use Rattle.guest_end.specs.Calls.{Residence}
use Rattle.pe_place.specs.Core.{Made, CoreStep, Look, Claim, Kick, Mark, Poll, TakeIndex, Irq, Vcpu, succeeds, word_after, packed_vcpu, vcpu_of, is_on, known, place_of_word, CoreState, IsRun, IsSound, Takes, after, end_of, seat_at, word_in, word_of, begins, ends, entry_by, makes, part_of, Progress, begun, is_end_of, progressed, progress_of, stepped, IsProper, IsProperStep, is_empty, Scan, idle, taking, looking, claiming, is_idle, scan_allows}
use Rattle.port_seq.proofs.PortCore.PlaceLemmas.{word_same}
use Rattle.port_seq.proofs.PortCore.RunLemmas.{run_splits, runs_joined}
use Rattle.port_seq.proofs.PortCore.StepLemmas.{run_sound, word_there}
use Rattle.pe_place.specs.PortCall.Piece.{steps_of}
use Rattle.law_entries_are_plans.specs.CoreProper.Progress.{changed_by}
use Rattle.pe_place.proofs.CoreProper.PartLemmas.{proper_append}
use Rattle.pe_place.proofs.CoreProper.ReachLemmas.{number_is}
use Rattle.pe_place.proofs.CoreProper.ScanLemmas.{kept_on}
use Rattle.law_entries_are_plans.proofs.LawCoreIsHistory.KnownSteps.{known_more, left_in, other_in}
use Rattle.law_entries_are_plans.specs.LawRegistersStand.Asks.{IsUnkicked}
use Rattle.law_entries_are_plans.proofs.LawScansMissNone.ProgressLemmas.{operation_on}
use Rattle.law_entries_are_plans.proofs.LawScansMissNone.ScanSteps.{with_made}
use Rattle.pe_place.specs.PeLoop.Steps.{all_are, all_hit, is_claim, is_hit, is_mark, is_search, IsEntryPart}
use Rattle.seq_guest.proofs.SearchLemmas.{AreLooked, IsLooked, changed_looked, is_of_entry, known_from, scan_looked_on}

-- Step by step.

both_true : (a b : Bool) → IsTrue a → IsTrue b → IsTrue (a && b)
both_true true true h k = refl
both_true true false h k = absurd (cc)
both_true false b h k = absurd (cc)

module _ (shape : GuestShape) (good : IsShape shape) (vcpu : ℕ) (base : List Made) where
  -- a vCPU in its entry, since the look for a kick: nobody else acts, and what its scan has to claim, it looked at
  record IsEntering (state : CoreState) (mine : List Made) (p : Progress) : Type 0 where
    sound : IsSound shape state
    own : p.own ≡ base ++ mine
    operation : p.operation ≡ Some Residence
    looked : AreLooked shape vcpu mine p.scan
    current : (key : Key) (word : ℕ) → known shape vcpu mine (Irq key) ≡ Some word → word_in shape state (Irq key) ≡ word

  module _ (state : CoreState) (mine : List Made) (p : Progress) (is : IsEntering state mine p) (made : Made) (takes : Takes shape state (entry_by vcpu made)) (proper : IsProperStep shape vcpu p made.step) where
    abbrev q : Progress
    q = with_made shape vcpu made p (changed_by shape vcpu made.step made.found (succeeds shape vcpu p.local made.step made.found) p)

    own_on : (stepped shape vcpu made p).own ≡ base ++ (mine ++ made ∷ [])
    own_on = kept_on (λ (r : Progress). r.own) (λ r scan regs trapping. refl) shape vcpu q ∙ ap (λ own. own ++ made ∷ []) is.own ∙ append_assoc base mine (made ∷ [])

    current_on : (key : Key) (word : ℕ) → known shape vcpu (mine ++ made ∷ []) (Irq key) ≡ Some word → word_in shape (after shape state (entry_by vcpu made)) (Irq key) ≡ word
    current_on key word e = of (is_on shape vcpu (Irq key) made) refl (sym (known_more shape vcpu mine made (Irq key)) ∙ e)
      where
        words : List ℕ
        words = (after shape state (entry_by vcpu made)).words

        of : (b : Bool) → is_on shape vcpu (Irq key) made ≡ b → (if b then Some made.left else known shape vcpu mine (Irq key)) ≡ Some word → word_in shape (after shape state (entry_by vcpu made)) (Irq key) ≡ word
        of true on k =
            ap (λ place. slice_index_or words place 0) (sym (eqb-true (place_of_word shape (word_of shape vcpu made.step)) (place_of_word shape (Irq key)) on)) ∙ left_in shape state (entry_by vcpu made) good is.sound takes ∙ same_Some made.left word k
        of false on k =
            other_in shape state (entry_by vcpu made) good is.sound takes (Irq key)
            (λ same. true≢false (sym (eq-eqb (place_of_word shape (word_of shape vcpu made.step)) (place_of_word shape (Irq key)) (sym same)) ∙ on)) ∙ is.current key word k

    enters_on : IsTrue (is_of_entry made.step) → IsEntering (after shape state (entry_by vcpu made)) (mine ++ made ∷ []) (stepped shape vcpu made p)
    enters_on kind =
        record {
          sound = run_sound shape state (entry_by vcpu made ∷ []) good is.sound (takes, tt);
          own = own_on;
          operation = operation_on shape vcpu made p ∙ is.operation;
          looked = scan_looked_on shape vcpu (mine ++ made ∷ []) q (changed_looked shape vcpu mine made made.step (succeeds shape vcpu p.local made.step made.found) p refl kind is.looked);
          current = current_on;
        }

    -- a claim is one of a scan, and so of an interrupt that was looked at
    claimed_looked : (key : Key) (seen : ℕ) → IsProperStep shape vcpu p (Claim key seen) → IsLooked shape vcpu mine key
    claimed_looked key seen proper = of p.scan refl is.looked
      where
        allowed : (scan : Scan) → p.scan ≡ scan → IsTrue (scan_allows shape vcpu p.local scan (Claim key seen))
        allowed scan e = subst (λ scan. IsTrue (scan_allows shape vcpu p.local scan (Claim key seen))) e proper.scan

        ends_none : is_end_of shape vcpu p.operation key ≡ false
        ends_none = ap (λ operation. is_end_of shape vcpu operation key) is.operation

        never : (a b c : Bool) → b ≡ false → IsTrue (a && b && c) → ⊥
        never a b c e h = true≢false (sym (and_parts a b (and_parts (a && b) c h).0).1 ∙ e)

        of : (scan : Scan) → p.scan ≡ scan → AreLooked shape vcpu mine scan → IsLooked shape vcpu mine key
        of idle e are =
            absurd
            (never (unwrap_or p.far false) (is_end_of shape vcpu p.operation key) (is_empty p.local.at) ends_none
            (subst (λ scan. IsTrue (not (is_idle scan) || (unwrap_or p.far false && is_end_of shape vcpu p.operation key && is_empty p.local.at))) e proper.far))
        of (taking purpose words) e are = absurd (true≢false (sym (allowed (taking purpose words) e)))
        of (looking purpose from offers) e are = absurd (true≢false (sym (allowed (looking purpose from offers) e)))
        of (claiming claims others) e are = are key (allowed (claiming claims others) e)

    -- and finds the word that it expects
    hits : (step : CoreStep) → made.step ≡ step → is_hit step made.found ≡ true
    hits (Claim key seen) on = eq-eqb made.found seen (found ∙ same_Some word seen (sym whole ∙ number_is seen (known shape vcpu p.own (Irq key)) claim.seen))
      where
        claim : IsProperStep shape vcpu p (Claim key seen)
        claim = subst (IsProperStep shape vcpu p) on proper

        looked : IsLooked shape vcpu mine key
        looked = claimed_looked key seen claim

        word : ℕ
        word = looked.word

        whole : known shape vcpu p.own (Irq key) ≡ Some word
        whole = ap (λ own. known shape vcpu own (Irq key)) is.own ∙ known_from shape vcpu base mine (Irq key) word looked.known_as

        found : made.found ≡ word
        found = takes.found ∙ ap (λ step. word_in shape state (word_of shape vcpu step)) on ∙ is.current key word looked.known_as
    hits step on = refl

  hit_all :
      (steps : List Made) (state : CoreState) (mine : List Made) (p : Progress) → IsEntering state mine p → IsRun shape state (map (entry_by vcpu) steps) → IsProper shape vcpu p (map makes steps) → IsTrue (all_are is_of_entry steps) → IsTrue (all_hit steps)
  hit_all [] state mine p is run proper kinds = refl
  hit_all (made ∷ steps) state mine p is run proper kinds =
      let kind = and_parts (is_of_entry made.step) (all_are is_of_entry steps) kinds in
      both_true (is_hit made.step made.found) (all_hit steps) (hits state mine p is made run.0 proper.0 made.step refl)
      (hit_all steps (after shape state (entry_by vcpu made)) (mine ++ made ∷ []) (stepped shape vcpu made p) (enters_on state mine p is made run.0 proper.0 kind.0) run.1 proper.1 kind.1)

-- The vCPU's word.

word_apart : (shape : GuestShape) (vcpu : ℕ) (step : CoreStep) → IsTrue (is_of_entry step) → word_of shape vcpu step ≢ Vcpu vcpu
word_apart shape vcpu (TakeIndex word) kind e = cc
word_apart shape vcpu (Look (Irq key)) kind e = cc
word_apart shape vcpu (Claim key seen) kind e = cc
word_apart shape vcpu (Mark key target) kind e = cc
word_apart shape vcpu step kind e = cc

module _ (shape : GuestShape) (good : IsShape shape) (vcpu : ℕ) (within : vcpu < shape.vcpus) where
  unkicked_on : (state : CoreState) (made : Made) → IsSound shape state → Takes shape state (entry_by vcpu made) → IsTrue (is_of_entry made.step) → IsUnkicked shape state vcpu → IsUnkicked shape (after shape state (entry_by vcpu made)) vcpu
  unkicked_on state made sound takes kind free =
      ap (λ word. (vcpu_of word).kick)
      (other_in shape state (entry_by vcpu made) good sound takes (Vcpu vcpu)
      (λ same. word_apart shape vcpu made.step kind (sym (word_same shape (Vcpu vcpu) (word_of shape vcpu made.step) good (lt-ltb vcpu shape.vcpus within) (word_there shape vcpu made.step good takes.can) same)))) ∙ free

  unkicked_all : (steps : List Made) (state : CoreState) → IsSound shape state → IsRun shape state (map (entry_by vcpu) steps) → IsTrue (all_are is_of_entry steps) → IsUnkicked shape state vcpu → IsUnkicked shape (end_of shape state (map (entry_by vcpu) steps)) vcpu
  unkicked_all [] state sound run kinds free = free
  unkicked_all (made ∷ steps) state sound run kinds free =
      let kind = and_parts (is_of_entry made.step) (all_are is_of_entry steps) kinds in
      unkicked_all steps (after shape state (entry_by vcpu made)) (run_sound shape state (entry_by vcpu made ∷ []) good sound (run.0, tt)) run.1 kind.1 (unkicked_on state made sound run.0 kind.0 free)

  -- a look for a kick clears it
  cleared : (state : CoreState) (look : Made) → IsSound shape state → Takes shape state (entry_by vcpu look) → look.step ≡ Poll None None → IsUnkicked shape (after shape state (entry_by vcpu look)) vcpu
  cleared state look sound takes is =
      ap (λ step. (vcpu_of (word_in shape (after shape state (entry_by vcpu look)) (word_of shape vcpu step))).kick) (sym is)
      ∙ ap (λ word. (vcpu_of word).kick) (left_in shape state (entry_by vcpu look) good sound takes ∙ takes.left ∙ ap (λ step. word_after shape vcpu (seat_at state vcpu).local step look.found) is)
      ∙ none (vcpu_of look.found).lpis
    where
      none : (lpis : Bool) → (vcpu_of (packed_vcpu (record { lpis = lpis; kick = false }))).kick ≡ false
      none true = refl
      none false = refl

-- The entry.

kinds_of : (search claims marks : List Made) → IsTrue (all_are is_search search) → IsTrue (all_are is_claim claims) → IsTrue (all_are is_mark marks) → IsTrue (all_are is_of_entry (search ++ claims ++ marks))
kinds_of search claims marks one two three = joined (search ++ claims) marks (joined search claims (weaker is_search searches search one) (weaker is_claim claiming_is claims two)) (weaker is_mark marking_is marks three)
  where
    joined : (early late : List Made) → IsTrue (all_are is_of_entry early) → IsTrue (all_are is_of_entry late) → IsTrue (all_are is_of_entry (early ++ late))
    joined early late first second = list_all-append (λ (made : Made). is_of_entry made.step) early late ∙ both_true (all_are is_of_entry early) (all_are is_of_entry late) first second

    weaker : (test : CoreStep → Bool) → ((step : CoreStep) → IsTrue (test step) → IsTrue (is_of_entry step)) → (steps : List Made) → IsTrue (all_are test steps) → IsTrue (all_are is_of_entry steps)
    weaker test so [] h = refl
    weaker test so (made ∷ steps) h =
        let parts = and_parts (test made.step) (all_are test steps) h in
        both_true (is_of_entry made.step) (all_are is_of_entry steps) (so made.step parts.0) (weaker test so steps parts.1)

    searches : (step : CoreStep) → IsTrue (is_search step) → IsTrue (is_of_entry step)
    searches step h = ap (λ b. b || is_claim step || is_mark step) h

    claiming_is : (step : CoreStep) → IsTrue (is_claim step) → IsTrue (is_of_entry step)
    claiming_is step h = of (is_search step) (is_claim step) (is_mark step) h
      where
        of : (a b c : Bool) → IsTrue b → (a || b || c) ≡ true
        of true b c h = refl
        of false b c h = ap (λ b. b || c) h

    marking_is : (step : CoreStep) → IsTrue (is_mark step) → IsTrue (is_of_entry step)
    marking_is step h = of (is_search step) (is_claim step) (is_mark step) h
      where
        of : (a b c : Bool) → IsTrue c → (a || b || c) ≡ true
        of true b c h = refl
        of false true c h = refl
        of false false c h = h

kick_none : (vcpu : ℕ) (b : Bool) (kick : List Made) → steps_of kick ≡ (if b then [] else Kick vcpu ∷ []) → b ≡ true → kick ≡ []
kick_none vcpu true [] is e = refl
kick_none vcpu true (made ∷ kick) is e = absurd (cc)
kick_none vcpu false kick is e = absurd (cc)

module _ (shape : GuestShape) (good : IsShape shape) (vcpu : ℕ) (within : vcpu < shape.vcpus) where
  -- after the look for a kick
  looked_once : (state : CoreState) (p : Progress) (look : Made) → IsSound shape state → Takes shape state (entry_by vcpu look) → look.step ≡ Poll None None → p.operation ≡ Some Residence
      → IsEntering shape good vcpu (stepped shape vcpu look p).own (after shape state (entry_by vcpu look)) [] (stepped shape vcpu look p)
  looked_once state p look sound takes is operation =
      record {
        sound = run_sound shape state (entry_by vcpu look ∷ []) good sound (takes, tt);
        own = sym (append-nil (stepped shape vcpu look p).own);
        operation = operation_on shape vcpu look p ∙ operation;
        looked = scan_looked_on shape vcpu [] (with_made shape vcpu look p (changed_by shape vcpu look.step look.found (succeeds shape vcpu p.local look.step look.found) p)) (subst (λ step. AreLooked shape vcpu [] (changed_by shape vcpu step look.found (succeeds shape vcpu p.local step look.found) p).scan) (sym is) (of (unwrap_or p.far false)));
        current = λ key word e. absurd (none-some word e);
      }
    where
      of : (b : Bool) → AreLooked shape vcpu [] (begun b p).scan
      of true = tt
      of false = tt

  all_unkicked :
      (state : CoreState) (p : Progress) (look : Made) (search claims marks kick : List Made) → IsSound shape state → look.step ≡ Poll None None → IsTrue (all_are is_search search) → IsTrue (all_are is_claim claims) → IsTrue (all_are is_mark marks)
      → steps_of kick ≡ (if all_hit claims then [] else Kick vcpu ∷ []) → IsRun shape state (map (entry_by vcpu) (look ∷ ((search ++ claims ++ marks) ++ kick))) → IsProper shape vcpu p (map makes (look ∷ ((search ++ claims ++ marks) ++ kick))) → p.operation ≡ Some Residence
      → IsUnkicked shape (end_of shape state (map (entry_by vcpu) (look ∷ ((search ++ claims ++ marks) ++ kick)))) vcpu
  all_unkicked state p look search claims marks kick sound look_is one two three kick_is run proper operation =
      let rest = search ++ claims ++ marks in
      let mid = after shape state (entry_by vcpu look) in
      let p1 = stepped shape vcpu look p in
      let kinds = kinds_of search claims marks one two three in
      let rest_run = (run_splits shape mid (map (entry_by vcpu) rest) (map (entry_by vcpu) kick) (subst (IsRun shape mid) (map-append (entry_by vcpu) rest kick) run.1)).0 in
      let rest_proper = ((proper_append shape vcpu p1 (map makes rest) (map makes kick)).0 (subst (IsProper shape vcpu p1) (map-append makes rest kick) proper.1)).0 in
      let hit = hit_all shape good vcpu p1.own rest mid [] p1 (looked_once state p look sound run.0 look_is operation) rest_run rest_proper kinds in
      let early = and_parts (all_hit (search ++ claims)) (all_hit marks) (sym (list_all-append (λ (made : Made). is_hit made.step made.found) (search ++ claims) marks) ∙ hit) in
      let claims_hit = and_parts (all_hit search) (all_hit claims) (sym (list_all-append (λ (made : Made). is_hit made.step made.found) search claims) ∙ early.0) in
      let none = kick_none vcpu (all_hit claims) kick kick_is claims_hit.1 in
      subst (λ kick. IsUnkicked shape (end_of shape state (map (entry_by vcpu) (look ∷ (rest ++ kick)))) vcpu) (sym none)
      (subst (λ steps. IsUnkicked shape (end_of shape state (map (entry_by vcpu) (look ∷ steps))) vcpu) (sym (append-nil rest))
      (unkicked_all shape good vcpu within rest mid (run_sound shape state (entry_by vcpu look ∷ []) good sound (run.0, tt)) rest_run kinds (cleared shape good vcpu within state look sound run.0 look_is)))

  pub entry_unkicked : (state : CoreState) (p : Progress) (entry : List Made) → IsEntryPart vcpu entry → IsSound shape state → IsRun shape state (map (entry_by vcpu) entry) → IsProper shape vcpu p (map makes entry) → p.operation ≡ Some Residence
      → IsUnkicked shape (end_of shape state (map (entry_by vcpu) entry)) vcpu
  entry_unkicked state p entry is sound run proper operation =
      subst (λ entry. IsUnkicked shape (end_of shape state (map (entry_by vcpu) entry)) vcpu) (sym is.part_is)
      (all_unkicked state p is.look is.search is.claims is.marks is.kick sound is.look_is is.search_is is.claims_are is.marks_are is.kick_is (subst (λ entry. IsRun shape state (map (entry_by vcpu) entry)) is.part_is run) (subst (λ entry. IsProper shape vcpu p (map makes entry)) is.part_is proper) operation)

-- So it is after an exit and an entry in one part.

same_operation : (shape : GuestShape) (vcpu : ℕ) (steps : List Made) (p : Progress) → (progress_of shape vcpu p (map makes steps)).operation ≡ p.operation
same_operation shape vcpu [] p = refl
same_operation shape vcpu (made ∷ steps) p = same_operation shape vcpu steps (stepped shape vcpu made p) ∙ operation_on shape vcpu made p

pub part_unkicked : (shape : GuestShape) (vcpu : ℕ) (state : CoreState) (p : Progress) (lrs : ℕ) (exit entry : List Made) → IsShape shape → vcpu < shape.vcpus → IsEntryPart vcpu entry → IsSound shape state → IsRun shape state (map (entry_by vcpu) (exit ++ entry)) → IsProper shape vcpu p (part_of Residence lrs (exit ++ entry) None)
    → IsUnkicked shape (end_of shape state (map (entry_by vcpu) (exit ++ entry))) vcpu
part_unkicked shape vcpu state p lrs exit entry good within is sound run proper =
    let first = map (entry_by vcpu) exit in
    let second = map (entry_by vcpu) entry in
    let start = progressed shape vcpu p (begins Residence lrs) in
    let runs = run_splits shape state first second (subst (IsRun shape state) (map-append (entry_by vcpu) exit entry) run) in
    let whole = ((proper_append shape vcpu start (map makes (exit ++ entry)) (ends None ∷ [])).0 proper.1).0 in
    let parts = (proper_append shape vcpu start (map makes exit) (map makes entry)).0 (subst (IsProper shape vcpu start) (map-append makes exit entry) whole) in
    subst (λ state. IsUnkicked shape state vcpu) (sym (ap (end_of shape state) (map-append (entry_by vcpu) exit entry) ∙ runs_joined.end shape state first second))
    (entry_unkicked shape good vcpu within (end_of shape state first) (progress_of shape vcpu start (map makes exit)) entry is (run_sound shape state first good sound runs.0) runs.1 parts.1 (same_operation shape vcpu exit start))
