-- What a vCPU claims in a scan, it looked at in that scan.
use Rattle.std.proofs.Common.{◌≡◌, ℕ, ◌==◌, ◌&&◌, ◌||◌, not, Bool, true, false, IsTrue, if◌then◌else◌, List, [], ◌∷◌, ◌++◌, fold, Contains, Option, Some, None, is_none, option_to_list, inl, inr, refl, sym, ap, subst, ◌∙◌}
use Rattle.std.specs.Prelude.{slice_get}
use Rattle.std.specs.Option.{option_map, option_map_or}
use Rattle.std.proofs.lemmas.Grind.{fold-append}
use Rattle.std.proofs.lemmas.List.Elements.{Contains-append_cases}
use Rattle.std.proofs.lemmas.Option.{none-some, same_Some}
use Rattle.guest_end.specs.Words.{Key, GuestShape, is_same_key, Irq as IrqRecord, irq_of}
use Rattle.port_seq.proofs.GicBase.KeyLemmas.{same_key}
use Rattle.guest_end.specs.Registers.{CpuRec}
use Rattle.law_entries_are_plans.specs.Lists.{Choice, Offer, deliverable_among, first_among, is_deliverable_to, plan}
use Rattle.guest_end.proofs.VcpuRefill.EarnedLemmas.{earned, from_filter, from_ordered}
use Rattle.guest_end.proofs.VcpuRefill.ElementLemmas.{Contains-here, Contains-cases, Contains-nothing}
use Rattle.guest_end.proofs.VcpuRefill.StandLemmas.{from_filter_map}
use Rattle.pe_place.specs.Core.{Local, Made, CoreStep, Look, Claim, Mark, TakeIndex, WordId, Irq, is_on, known, has_no_cand, index_words, word_of, Progress, after_claim, filled, goes_on, looks_on, scan_on, Purpose, planned, trapped, bare, Scan, idle, taking, looking, claiming, ended_scan, has_key, is_both, key_of_both, keys_chosen, keys_of_both, next_cand, offered, scan_looked, tried, without_key, word_taken}
use Rattle.pe_place.proofs.PortCall.MemoryLemmas.{on_own}
use Rattle.law_entries_are_plans.specs.CoreProper.Progress.{changed_by}
use Rattle.law_entries_are_plans.proofs.LawCoreIsHistory.KnownSteps.{known_more}
use Rattle.law_entries_are_plans.proofs.LawRegistersStand.FillLemmas.{among_has_key, key_among}
use Rattle.pe_place.specs.PeLoop.Steps.{is_claim, is_mark, is_search}

-- What an actor knows.

-- an actor knows an interrupt's word by some of its steps
pub record IsLooked (shape : GuestShape) (vcpu : ℕ) (mine : List Made) (key : Key) : Type 0 where
  pub word : ℕ
  pub known_as : known shape vcpu mine (Irq key) ≡ Some word

looked_more : (shape : GuestShape) (vcpu : ℕ) (mine : List Made) (made : Made) (key : Key) → IsLooked shape vcpu mine key → IsLooked shape vcpu (mine ++ made ∷ []) key
looked_more shape vcpu mine made key is = of (is_on shape vcpu (Irq key) made) refl
  where
    of : (b : Bool) → is_on shape vcpu (Irq key) made ≡ b → IsLooked shape vcpu (mine ++ made ∷ []) key
    of true e = record { word = made.left; known_as = known_more shape vcpu mine made (Irq key) ∙ ap (λ b. if b then Some made.left else known shape vcpu mine (Irq key)) e }
    of false e = record { word = is.word; known_as = known_more shape vcpu mine made (Irq key) ∙ ap (λ b. if b then Some made.left else known shape vcpu mine (Irq key)) e ∙ is.known_as }

looked_now : (shape : GuestShape) (vcpu : ℕ) (mine : List Made) (made : Made) (key : Key) → word_of shape vcpu made.step ≡ Irq key → IsLooked shape vcpu (mine ++ made ∷ []) key
looked_now shape vcpu mine made key on =
    record { word = made.left; known_as = known_more shape vcpu mine made (Irq key) ∙ ap (λ b. if b then Some made.left else known shape vcpu mine (Irq key)) (on_own shape vcpu (Irq key) made on) }

-- what it knows by its last steps, it knows
known_over :
    (shape : GuestShape) (vcpu : ℕ) (word : WordId) (mine : List Made) (before : Option ℕ) (x : ℕ) → fold (λ last made. if is_on shape vcpu word made then Some made.left else last) None mine ≡ Some x
    → fold (λ last made. if is_on shape vcpu word made then Some made.left else last) before mine ≡ Some x
known_over shape vcpu word [] before x e = absurd (none-some x e)
known_over shape vcpu word (made ∷ mine) before x e = of (is_on shape vcpu word made) e (known_over shape vcpu word mine before x)
  where
    After : Option ℕ → Type 0
    After last = fold (λ last made. if is_on shape vcpu word made then Some made.left else last) last mine ≡ Some x

    of : (b : Bool) → After (if b then Some made.left else None) → (After None → After before) → After (if b then Some made.left else before)
    of true e later = e
    of false e later = later e

pub known_from : (shape : GuestShape) (vcpu : ℕ) (base mine : List Made) (word : WordId) (x : ℕ) → known shape vcpu mine word ≡ Some x → known shape vcpu (base ++ mine) word ≡ Some x
known_from shape vcpu base mine word x e = fold-append (λ last made. if is_on shape vcpu word made then Some made.left else last) None base mine ∙ known_over shape vcpu word mine (known shape vcpu base word) x e

-- What a scan has still to claim, and what it found, it looked at.

abbrev pub AreLooked : GuestShape → ℕ → List Made → Scan → Type 0
AreLooked shape vcpu mine idle = Unit {0}
AreLooked shape vcpu mine (taking purpose words) = Unit {0}
AreLooked shape vcpu mine (looking purpose from offers) = (offer : Offer) → Contains offers offer → IsLooked shape vcpu mine offer.key
AreLooked shape vcpu mine (claiming claims takes) = (key : Key) → (has_key key claims || has_key key takes) ≡ true → IsLooked shape vcpu mine key

-- what a plan chose was offered

record IsOffered (offers : List Offer) (key : Key) : Type 0 where
  offer : Offer
  among : Contains offers offer
  key_is : offer.key ≡ key

plan_key : (offers : List Offer) (vcpu : ℕ) (cpu : CpuRec) (shape : GuestShape) (n : ℕ) (key : Key) → let fill = plan offers vcpu cpu shape n in (has_key key (keys_chosen fill) || has_key key (keys_of_both fill)) ≡ true → IsOffered offers key
plan_key offers vcpu cpu shape n key = of (has_key key (keys_chosen (plan offers vcpu cpu shape n))) refl
  where
    by_choice : (choice : Choice) → Contains (plan offers vcpu cpu shape n).choice (Some choice) → choice.key ≡ key → IsOffered offers key
    by_choice choice has is = record { offer = record { key = choice.key; irq = choice.irq }; among = (earned offers vcpu cpu shape n choice has).offered; key_is = is }

    chosen : (place : Option Choice) → Contains (plan offers vcpu cpu shape n).choice place → option_map (λ (choice : Choice). choice.key) place ≡ Some key → IsOffered offers key
    chosen None has e = absurd (none-some key e)
    chosen (Some choice) has e = by_choice choice has (same_Some choice.key key e)

    both : (choice : Choice) → Contains (plan offers vcpu cpu shape n).choice (Some choice) → (b : Bool) → (if b then Some choice.key else None) ≡ Some key → IsOffered offers key
    both choice has true e = by_choice choice has (same_Some choice.key key e)
    both choice has false e = absurd (none-some key e)

    taken : (place : Option Choice) → Contains (plan offers vcpu cpu shape n).choice place → option_map_or key_of_both place None ≡ Some key → IsOffered offers key
    taken None has e = absurd (none-some key e)
    taken (Some choice) has e = both choice has (is_both choice.entry.state) e

    of : (b : Bool) → has_key key (keys_chosen (plan offers vcpu cpu shape n)) ≡ b → (b || has_key key (keys_of_both (plan offers vcpu cpu shape n))) ≡ true → IsOffered offers key
    of true e h =
        let from = from_filter_map (option_map (λ (choice : Choice). choice.key)) (plan offers vcpu cpu shape n).choice key (key_among key (keys_chosen (plan offers vcpu cpu shape n)) e) in
        chosen from.0 from.1 from.2
    of false e h =
        let from = from_filter_map (λ place. option_map_or key_of_both place None) (plan offers vcpu cpu shape n).choice key (key_among key (keys_of_both (plan offers vcpu cpu shape n)) h) in
        taken from.0 from.1 from.2

first_key : (offers : List Offer) (vcpu : ℕ) (cpu : CpuRec) (shape : GuestShape) (key : Key) → (has_key key (option_to_list (option_map (λ (offer : Offer). offer.key) (first_among offers vcpu cpu shape))) || false) ≡ true → IsOffered offers key
first_key offers vcpu cpu shape key = of (first_among offers vcpu cpu shape) refl
  where
    first_in : (xs : List Offer) (x : Offer) → slice_get xs 0 ≡ Some x → Contains xs x
    first_in [] x e = absurd (none-some x e)
    first_in (y ∷ xs) x e = subst (Contains (y ∷ xs)) (same_Some y x e) (Contains-here y xs)

    same : (b : Bool) → ((b || false) || false) ≡ true → b ≡ true
    same true h = refl
    same false h = h

    of : (first : Option Offer) → first_among offers vcpu cpu shape ≡ first → (has_key key (option_to_list (option_map (λ (offer : Offer). offer.key) first)) || false) ≡ true → IsOffered offers key
    of None e h = absurd (cc)
    of (Some offer) e h =
        record {
          offer = offer;
          among = (from_ordered (is_deliverable_to vcpu cpu shape) offers offer (first_in (deliverable_among offers vcpu cpu shape) offer e)).0;
          key_is = sym (same_key key offer.key (same (is_same_key key offer.key) h));
        }

-- As a scan goes on.

module _ (shape : GuestShape) (vcpu : ℕ) (mine : List Made) where
  abbrev Are : Scan → Type 0
  Are scan = AreLooked shape vcpu mine scan

  offered_looked : (offers : List Offer) (key : Key) → ((offer : Offer) → Contains offers offer → IsLooked shape vcpu mine offer.key) → IsOffered offers key → IsLooked shape vcpu mine key
  offered_looked offers key each is = subst (IsLooked shape vcpu mine) is.key_is (each is.offer is.among)

  filled_looked : (purpose : Purpose) (offers : List Offer) (p : Progress) → ((offer : Offer) → Contains offers offer → IsLooked shape vcpu mine offer.key) → Are (filled shape vcpu purpose offers p).scan
  filled_looked planned offers p each = λ key h. offered_looked offers key each (plan_key offers vcpu p.local.cpu shape p.lrs key h)
  filled_looked trapped offers p each = λ key h. offered_looked offers key each (first_key offers vcpu p.local.cpu shape key h)
  filled_looked bare offers p each = λ key h. absurd (cc)

  looks_looked : (purpose : Purpose) (from : ℕ) (offers : List Offer) (p : Progress) → ((offer : Offer) → Contains offers offer → IsLooked shape vcpu mine offer.key) → Are (looks_on shape vcpu purpose from offers p).scan
  looks_looked purpose from offers p each = of (is_none (next_cand shape vcpu p.local.cands from))
    where
      of : (b : Bool) → Are (if b then filled shape vcpu purpose offers p else record p { scan = looking purpose from offers }).scan
      of true = filled_looked purpose offers p each
      of false = each

  goes_looked : (scan : Scan) (p : Progress) → p.scan ≡ scan → Are scan → Are (goes_on shape vcpu scan p).scan
  goes_looked idle p e are = subst Are (sym e) are
  goes_looked (taking purpose words) p e are = of (words == index_words shape)
    where
      of : (b : Bool) → Are (if b then looks_on shape vcpu purpose 0 [] p else p).scan
      of true = looks_looked purpose 0 [] p (λ offer has. absurd (Contains-nothing offer has))
      of false = subst Are (sym e) are
  goes_looked (looking purpose from offers) p e are = looks_looked purpose from offers p are
  goes_looked (claiming claims takes) p e are = subst Are (sym e) are

  ended_looked : (local : Local) (scan : Scan) → Are scan → Are (ended_scan local scan)
  ended_looked local (claiming [] []) are = of (has_no_cand local)
    where
      of : (b : Bool) → Are (if b then idle else claiming [] [])
      of true = tt
      of false = are
  ended_looked local (claiming [] (take ∷ takes)) are = are
  ended_looked local (claiming (claim ∷ claims) takes) are = are
  ended_looked local idle are = are
  ended_looked local (taking purpose words) are = are
  ended_looked local (looking purpose from offers) are = are

  pub scan_looked_on : (p : Progress) → Are p.scan → Are (scan_on shape vcpu p).scan
  scan_looked_on p are = let on = goes_on shape vcpu p.scan p in ended_looked on.local on.scan (goes_looked p.scan p refl are)

-- A step of an entry.

-- a step after its look for a kick, but for a kick
abbrev pub is_of_entry : CoreStep → Bool
is_of_entry step = is_search step || is_claim step || is_mark step

without_among : (key other : Key) (keys : List Key) → has_key key (without_key other keys) ≡ true → has_key key keys ≡ true
without_among key other keys h = among_has_key key keys (from_filter (λ one. not (is_same_key other one)) keys key (key_among key (without_key other keys) h)).0

module _ (shape : GuestShape) (vcpu : ℕ) (mine : List Made) (made : Made) where
  abbrev Now : Scan → Type 0
  Now scan = AreLooked shape vcpu (mine ++ made ∷ []) scan

  still_looked : (scan : Scan) → AreLooked shape vcpu mine scan → Now scan
  still_looked idle are = tt
  still_looked (taking purpose words) are = tt
  still_looked (looking purpose from offers) are = λ offer has. looked_more shape vcpu mine made offer.key (are offer has)
  still_looked (claiming claims takes) are = λ key h. looked_more shape vcpu mine made key (are key h)

  word_looked : (scan : Scan) → AreLooked shape vcpu mine scan → Now (word_taken scan)
  word_looked idle are = tt
  word_looked (taking purpose words) are = tt
  word_looked (looking purpose from offers) are = still_looked (looking purpose from offers) are
  word_looked (claiming claims takes) are = still_looked (claiming claims takes) are

  look_looked : (key : Key) (irq : IrqRecord) → word_of shape vcpu made.step ≡ Irq key → (scan : Scan) → AreLooked shape vcpu mine scan → Now (scan_looked shape key irq scan)
  look_looked key irq on idle are = tt
  look_looked key irq on (taking purpose words) are = tt
  look_looked key irq on (claiming claims takes) are = still_looked (claiming claims takes) are
  look_looked key irq on (looking purpose from offers) are = λ offer has. elim (Contains-append_cases offers (offered key irq) offer has) [
    | inl before ↦ looked_more shape vcpu mine made offer.key (are offer before)
    | inr now ↦ of (is_none irq.holder && not irq.want) offer now
  ]
    where
      of : (b : Bool) (offer : Offer) → Contains (if b then (record { key = key; irq = irq }) ∷ [] else []) offer → IsLooked shape vcpu (mine ++ made ∷ []) offer.key
      of true offer has = elim (Contains-cases (record { key = key; irq = irq }) offer [] has) [
        | inl is ↦ subst (λ (offer : Offer). IsLooked shape vcpu (mine ++ made ∷ []) offer.key) is (looked_now shape vcpu mine made key on)
        | inr none ↦ absurd (Contains-nothing offer none)
      ]
      of false offer has = absurd (Contains-nothing offer has)

  tried_looked : (key : Key) (done : Bool) (claims takes : List Key) → AreLooked shape vcpu mine (claiming claims takes) → Now (tried key done (claiming claims takes))
  tried_looked key done claims takes are = of (has_key key claims) done
    where
      either : (a b c d : Bool) → (a ≡ true → c ≡ true) → (b ≡ true → d ≡ true) → (a || b) ≡ true → (c || d) ≡ true
      either true b c d f g h = ap (λ c. c || d) (f refl)
      either false b true d f g h = refl
      either false b false d f g h = g h

      fewer : (left right : List Key) → ((other : Key) → has_key other left ≡ true → has_key other claims ≡ true) → ((other : Key) → has_key other right ≡ true → has_key other takes ≡ true) → Now (claiming left right)
      fewer left right one two = λ other h. looked_more shape vcpu mine made other (are other (either (has_key other left) (has_key other right) (has_key other claims) (has_key other takes) (one other) (two other) h))

      of : (a b : Bool) → Now (if a then claiming (without_key key claims) (if b then takes else without_key key takes) else claiming claims (without_key key takes))
      of true true = fewer (without_key key claims) takes (λ other. without_among other key claims) (λ other h. h)
      of true false = fewer (without_key key claims) (without_key key takes) (λ other. without_among other key claims) (λ other. without_among other key takes)
      of false b = fewer claims (without_key key takes) (λ other h. h) (λ other. without_among other key takes)

  claim_looked : (key : Key) (irq : IrqRecord) (done : Bool) (scan : Scan) (p : Progress) → p.scan ≡ scan → AreLooked shape vcpu mine scan → Now (after_claim key irq done scan p).scan
  claim_looked key irq done idle p e are = subst Now (sym e) tt
  claim_looked key irq done (taking purpose words) p e are = subst Now (sym e) tt
  claim_looked key irq done (looking purpose from offers) p e are = subst Now (sym e) (still_looked (looking purpose from offers) are)
  claim_looked key irq done (claiming claims takes) p e are = tried_looked key done claims takes are

  pub changed_looked : (step : CoreStep) (done : Bool) (p : Progress) → made.step ≡ step → IsTrue (is_of_entry step) → AreLooked shape vcpu mine p.scan → Now (changed_by shape vcpu step made.found done p).scan
  changed_looked (TakeIndex word) done p is kind are = word_looked p.scan are
  changed_looked (Look (Irq key)) done p is kind are = look_looked key (irq_of made.found) (ap (word_of shape vcpu) is) p.scan are
  changed_looked (Claim key seen) done p is kind are = claim_looked key (irq_of made.found) done p.scan p refl are
  changed_looked (Mark key target) done p is kind are = still_looked p.scan are
  changed_looked step done p is kind are = absurd (cc)
