-- The looks at the candidates.
use Rattle.std.proofs.Common.{◌≡◌, ◌≢◌, ℕ, ◌+◌, ◌-◌, ◌/◌, ◌<◌, ◌≤◌, ◌&&◌, not, Bool, true, false, if◌then◌else◌, IsTrue, List, [], ◌∷◌, ◌++◌, map, get_or, length, All, AllPairs, Option, Some, None, is_none, append-nil, refl, sym, ap, subst, ◌∙◌, arith}
use Rattle.std.specs.List.{find, range_with_len}
use Rattle.std.specs.Option.{option_map, option_map_or}
use Rattle.std.proofs.lemmas.Bool.{eq-eqb}
use Rattle.std.proofs.lemmas.List.{map-append}
use Rattle.std.proofs.lemmas.List.Sums.{fold-append}
use Rattle.std.proofs.lemmas.List.Elements.{All-nil, All-weaker, All-push, All-get_or}
use Rattle.std.proofs.lemmas.List.Quantifiers.{all_pairs_push}
use Rattle.vcpu_state.proofs.GicWord.WordLemmas.{packed_back}
use Rattle.port_call.specs.Core.{Cands, Seen, AddsStep, made_by, Look, Irq as IrqWord, shape_of, IsIrqWord, Local, Made, is_settled_by_look, local_after, is_on, is_cand, is_vcpu, settled, without_cand, index_bit, index_bits, index_words, key_of_bit, makes, Progress, filled, is_end_of, looks_on, progressed, progress_of, stepped, IsProper, IsProperStep, Purpose, planned, trapped, bare, Scan, taking, looking, ended_scan, next_cand, offered, scan_allows}
use Rattle.port_call.proofs.PortCore.PortLemmas.{adds_join}
use Rattle.port_call.proofs.CoreProper.PartLemmas.{proper_append}
use Rattle.port_call.proofs.MemoryLemmas.{on_own}
use Rattle.port_call.proofs.SettleLemmas.{handed_none}
use Rattle.port_call.proofs.TryLemmas.{none_append}
use Rattle.port_call.proofs.TurnLemmas.{events_then, known_by_last}
use Rattle.port_call.specs.Words.{Key, GuestShape, has_interrupt, is_of_vcpu, is_same_key, Irq, irq_of, packed, IsShape, is_number}
use Rattle.vcpu_state.proofs.GicBase.KeyLemmas.{same_itself}
use Rattle.port_call.specs.Registers.{CpuRec}
use Rattle.port_call.specs.Lists.{Offer, Kept, StandsFor}
use Rattle.port_call.proofs.KnownLemmas.{known_kept, places_apart}
use Rattle.port_call.proofs.PieceLemmas.{seen_nil}
use Rattle.pe_loop.specs.Counting.{count_from, looks_in, bits_taken}
use Rattle.port_call.proofs.CoreProper.CandLemmas.{cand_same}
use Rattle.port_call.proofs.CoreProper.SearchLemmas.{found_in}
use Rattle.pe_loop.proofs.CountLemmas.{count_first, count_same, looks_append, taken_append, taken_one}
use Rattle.pe_loop.proofs.StepLemmas.{are_append}
use Rattle.pe_loop.specs.Steps.{is_search}
use Rattle.pe_loop.specs.Scanning.{told_by, looked_on, IsScanAt, TakesIndex, IsLookedOn, IsFound, AreFound, LooksAt, IsLooking}

-- An offer.

pub offered_free : (key : Key) (irq : Irq) (cpu : CpuRec) (before after : Kept) → (is_none irq.holder && not irq.want) ≡ true → ((offers : List Offer) → StandsFor before cpu offers → StandsFor after cpu (offers ++ (record { key = key; irq = irq }) ∷ []))
    → (offers : List Offer) → StandsFor before cpu offers → StandsFor after cpu (offers ++ offered key irq)
offered_free key irq cpu before after free stands offers so =
    let Stands : List Offer → Type 0 = λ more. StandsFor after cpu (offers ++ more) in
    subst Stands (sym (ap (λ b. if b then (record { key = key; irq = irq }) ∷ [] else []) free)) (stands offers so)

pub looks_at : (old new : Seen) (before after : Kept) (cpu : CpuRec) (key : Key) (found : ℕ) (irq : Irq) → IsIrqWord (shape_of old) key found → AddsStep old new (Look (IrqWord key)) found → irq ≡ irq_of found → after.lrs ≡ before.lrs → after.vcpu ≡ before.vcpu
    → ((offers : List Offer) → StandsFor before cpu offers → StandsFor after cpu (offers ++ offered key irq)) → LooksAt old new before after cpu key
looks_at old new before after cpu key found irq word add is lrs vcpu stands =
    record {
      found = found;
      adds = add;
      word = word;
      lrs = lrs;
      vcpu = vcpu;
      stands = λ offers so. subst (λ irq. StandsFor after cpu (offers ++ offered key irq)) is (stands offers so);
    }

-- The scan.

-- what comes of a scan does not depend on how far it was
filled_same : (shape : GuestShape) (vcpu : ℕ) (purpose : Purpose) (offers : List Offer) (p : Progress) (scan : Scan) → filled shape vcpu purpose offers (record p { scan = scan }) ≡ filled shape vcpu purpose offers p
filled_same shape vcpu planned offers p scan = refl
filled_same shape vcpu trapped offers p scan = refl
filled_same shape vcpu bare offers p scan = refl

pub looks_same : (shape : GuestShape) (vcpu : ℕ) (purpose : Purpose) (from : ℕ) (offers : List Offer) (p : Progress) (scan : Scan) → looks_on shape vcpu purpose from offers (record p { scan = scan }) ≡ looks_on shape vcpu purpose from offers p
looks_same shape vcpu purpose from offers p scan =
    ap (λ q. if is_none (next_cand shape vcpu p.local.cands from) then q else record p { scan = looking purpose from offers }) (filled_same shape vcpu purpose offers p scan)

looked_some : (seen : Seen) (purpose : Purpose) (from : ℕ) (offers : List Offer) (p : Progress) (key : Key) → next_cand (shape_of seen) seen.actor seen.local.cands from ≡ Some key
    → looked_on seen purpose from offers p ≡ record (told_by seen p) { scan = looking purpose from offers }
looked_some seen purpose from offers p key e =
    ap (λ o. let on = if is_none o then filled (shape_of seen) seen.actor purpose offers (told_by seen p) else record (told_by seen p) { scan = looking purpose from offers } in record on { scan = ended_scan on.local on.scan }) e

look_proper : (shape : GuestShape) (actor : ℕ) (p : Progress) (purpose : Purpose) (from : ℕ) (offers : List Offer) (key : Key) → p.scan ≡ looking purpose from offers → next_cand shape actor p.local.cands from ≡ Some key → IsProperStep shape actor p (Look (IrqWord key))
look_proper shape actor p purpose from offers key e next =
    let At : Scan → Type 0 = λ scan. IsTrue (scan_allows shape actor p.local scan (Look (IrqWord key))) in
    record {
      scan = subst At (sym e) (ap (λ o. option_map_or (is_same_key key) o false) next ∙ same_itself key);
      trap = refl;
      failed = refl;
      far = refl;
      refill = refl;
      want = refl;
      seen = refl;
    }

look_stepped :
    (now new : Seen) (p : Progress) (purpose : Purpose) (from bit : ℕ) (offers : List Offer) (key : Key) (found : ℕ) (add : AddsStep now new (Look (IrqWord key)) found) → index_bit (shape_of now) key ≡ bit
    → IsLookedOn new purpose (bit + 1) (offers ++ offered key (irq_of found)) p (stepped (shape_of now) now.actor (made_by now (Look (IrqWord key)) found add.tables) (record (told_by now p) { scan = looking purpose from offers }))
look_stepped now new p purpose from bit offers key found add is =
    let shape = shape_of now in
    let more = offers ++ offered key (irq_of found) in
    let made = made_by now (Look (IrqWord key)) found add.tables in
    let after : Option Bool → ℕ → Local → List Made → Progress = λ far bit local own.
    let on = looks_on shape now.actor purpose (bit + 1) more (record p { local = local; own = own; far = far }) in record on { scan = ended_scan on.local on.scan } in
    let local = local_after shape now.actor now.local (Look (IrqWord key)) found in
    let own = now.own ++ made ∷ [] in
    let far : Option Bool = if is_end_of shape now.actor p.operation key then Some (is_number now.actor (irq_of found).act_by) else p.far in
    let settle : Progress → Progress = λ on. record on { scan = ended_scan on.local on.scan } in
    let looked : Progress = record p { local = local; own = own; far = far } in
    record {
      far = far;
      is =
          ap settle (looks_same shape now.actor purpose (index_bit shape key + 1) more looked (looking purpose (index_bit shape key + 1) more))
          ∙ ap (λ bit. after far bit local own) is
          ∙ ap (λ seen. looked_on seen purpose (bit + 1) more (record p { far = far })) (sym add.adds.new_is);
    }

-- What was found.

-- a step on another interrupt leaves what is known of one
known_other : (now new : Seen) (offer : Offer) (key : Key) (found : ℕ) → IsShape (shape_of now) → IsTrue (has_interrupt (shape_of now) key) → offer.key ≢ key → AddsStep now new (Look (IrqWord key)) found → IsFound now offer → IsFound new offer
known_other now new offer key found good there differ add is =
    let made = made_by now (Look (IrqWord key)) found add.tables in
    let shape = shape_of now in
    let off : is_on shape now.actor (IrqWord offer.key) made ≡ false = places_apart shape (IrqWord key) (IrqWord offer.key) good there is.there (λ e. differ (sym (key_is e))) in
    let Found : Seen → Type 0 = λ seen. IsFound seen offer in
    subst Found (sym add.adds.new_is) (record {
      there = is.there;
      own = is.own;
      word = is.word;
      record_is = is.record_is;
      home = is.home;
      unwanted = is.unwanted;
      known_as = known_kept shape now.actor (IrqWord offer.key) now.own (made ∷ []) (ap (λ b. (if b then false else true) && true) off) ∙ is.known_as;
    })
  where
    key_is : IrqWord key ≡ IrqWord offer.key → key ≡ offer.key
    key_is e = cc

pub no_looks : (seen : Seen) (chooser : Kept) (cpu : CpuRec) → IsLooking seen seen chooser chooser cpu 0
no_looks seen chooser cpu =
    record {
      part = [];
      offers = [];
      adds = record { new_is = sym (seen_nil seen) };
      steps_are = refl;
      same = refl;
      none_taken = refl;
      silent = refl;
      looks = (let all : index_bits (shape_of seen) - 0 ≡ index_bits (shape_of seen) = omega arith in let same : count_from (is_cand seen.local.cands) 0 (index_bits (shape_of seen) - 0) ≡ count_from (is_cand seen.local.cands) 0 (index_bits (shape_of seen)) = ap (count_from (is_cand seen.local.cands) 0) all in omega (arith, same));
      none_left = refl;
      found = record { each = All-nil (IsFound seen); once = λ i j d less within. absurd (omega (arith, within)) };
      below = All-nil (λ offer. index_bit (shape_of seen) offer.key < 0);
      lrs = refl;
      vcpu = refl;
      stands = λ stands. stands;
      proper = λ purpose p. tt;
      goes_on = λ purpose p. record { far = p.far; is = refl };
    }

-- the interrupts that are offered are found so
offer_found : (now new : Seen) (key : Key) (found : ℕ) → IsTrue (has_interrupt (shape_of now) key) → IsTrue (is_of_vcpu now.actor key) → IsIrqWord (shape_of now) key found → AddsStep now new (Look (IrqWord key)) found → (irq_of found).holder ≡ None → (irq_of found).want ≡ false
    → IsFound new (record { key = key; irq = irq_of found })
offer_found now new key found there own word add home unwanted =
    let made = made_by now (Look (IrqWord key)) found add.tables in
    let shape = shape_of now in
    let packs : packed (irq_of found) ≡ found = packed_back found word.word_is in
    let Word : ℕ → Type 0 = λ word. IsIrqWord shape key word in
    let Found : Seen → Type 0 = λ seen. IsFound seen (record { key = key; irq = irq_of found }) in
    subst Found (sym add.adds.new_is) (record {
      there = there;
      own = own;
      word = subst Word (sym packs) word;
      record_is = ap irq_of packs;
      home = home;
      unwanted = unwanted;
      known_as = known_by_last shape now.actor now.own made (IrqWord key) (on_own shape now.actor (IrqWord key) made refl) ∙ ap Some (sym packs);
    })

record IsMore (old : Seen) (new : Seen) (bit : ℕ) (offers : List Offer) : Type 0 where
  found : AreFound new offers
  below : All (λ offer. index_bit (shape_of old) offer.key < bit + 1) offers

more_found : (old new : Seen) (bit : ℕ) (key : Key) (irq : Irq) (offers : List Offer) → index_bit (shape_of old) key ≡ bit → All (IsFound new) offers → AllPairs (λ one other. one.key ≢ other.key) offers → All (λ offer. index_bit (shape_of old) offer.key < bit) offers
    → (irq.holder ≡ None → irq.want ≡ false → IsFound new (record { key = key; irq = irq })) → IsMore old new bit (offers ++ offered key irq)
more_found old new bit key irq offers bit_is each once below more = of (is_none irq.holder) refl irq.want refl
  where
    none_is : {X : Type 0} (o : Option X) → is_none o ≡ true → o ≡ None
    none_is None e = refl
    none_is (Some x) e = absurd (cc)

    weaker : All (λ offer. index_bit (shape_of old) offer.key < bit + 1) offers
    weaker = All-weaker (λ offer. index_bit (shape_of old) offer.key < bit) (λ offer. index_bit (shape_of old) offer.key < bit + 1) (λ offer l. omega (arith, l)) offers below

    one : Offer
    one = record { key = key; irq = irq }

    same : IsMore old new bit (offers ++ [])
    same = subst (IsMore old new bit) (sym (append-nil offers)) (record { found = record { each = each; once = once }; below = weaker })

    of : (a : Bool) → is_none irq.holder ≡ a → (b : Bool) → irq.want ≡ b → IsMore old new bit (offers ++ (if a && not b then one ∷ [] else []))
    of true h false w =
        record {
          found =
              record {
                each = All-push (IsFound new) offers one each (more (none_is irq.holder h) w);
                once = all_pairs_push (λ one other. one.key ≢ other.key) offers one once (λ k d l e. let less = All-get_or (λ offer. index_bit (shape_of old) offer.key < bit) offers k d l below in let same_bit : index_bit (shape_of old) (get_or offers k d).key ≡ bit = ap (index_bit (shape_of old)) e ∙ bit_is in omega (arith, less, same_bit));
              };
          below = All-push (λ offer. index_bit (shape_of old) offer.key < bit + 1) offers one weaker (omega (arith, bit_is));
        }
    of true h true w = same
    of false h b w = same

-- a look leaves the actor's own state but for its candidates
pub look_same : (now new : Seen) (key : Key) (found : ℕ) (add : AddsStep now new (Look (IrqWord key)) found) (cands : Cands) → record new.local { cands = cands } ≡ record now.local { cands = cands }
look_same now new key found add cands = ap (λ seen. record seen.local { cands = cands }) add.adds.new_is ∙ of (is_settled_by_look (shape_of now) now.actor (irq_of found))
  where
    of : (b : Bool) → record (if b then record now.local { cands = settled (shape_of now) now.actor key now.local.cands } else now.local) { cands = cands } ≡ record now.local { cands = cands }
    of true = refl
    of false = refl

-- another candidate stays as it is
look_kept : (now new : Seen) (key : Key) (bit found i : ℕ) → AddsStep now new (Look (IrqWord key)) found → index_bit (shape_of now) key ≡ bit → bit / 64 < length now.local.cands.words → i ≢ bit → is_cand new.local.cands i ≡ is_cand now.local.cands i
look_kept now new key bit found i add bit_is room differ = ap (λ seen. is_cand seen.local.cands i) add.adds.new_is ∙ of (is_settled_by_look (shape_of now) now.actor (irq_of found)) (is_vcpu (shape_of now) now.actor && is_of_vcpu now.actor key)
  where
    same : is_cand (without_cand now.local.cands (index_bit (shape_of now) key)) i ≡ is_cand now.local.cands i
    same = ap (λ bit. is_cand (without_cand now.local.cands bit) i) bit_is ∙ cand_same now.local.cands bit i room differ

    of : (b c : Bool) → is_cand (if b then record now.local { cands = if c then without_cand now.local.cands (index_bit (shape_of now) key) else now.local.cands } else now.local).cands i ≡ is_cand now.local.cands i
    of true true = same
    of true false = refl
    of false c = refl

pub one_look :
    (old now new : Seen) (before after later : Kept) (cpu : CpuRec) (from bit : ℕ) (key : Key) → IsShape (shape_of old) → find (is_cand now.local.cands) (range_with_len from (index_bits (shape_of old) - from)) ≡ Some bit → key ≡ key_of_bit (shape_of old) old.actor bit
    → index_bit (shape_of old) key ≡ bit → bit / 64 < length now.local.cands.words → IsTrue (has_interrupt (shape_of old) key) → IsTrue (is_of_vcpu old.actor key) → IsLooking old now before after cpu from → LooksAt now new after later cpu key → IsLooking old new before later cpu (bit + 1)
one_look old now new before after later cpu from bit key good first key_is bit_is room there own so look =
    let shape = shape_of old in
    let add = look.adds in
    let made = made_by now (Look (IrqWord key)) look.found add.tables in
    let is = so.adds.new_is in
    let shape_is : shape_of now ≡ shape = ap shape_of is in
    let actor_is : now.actor ≡ old.actor = ap (λ seen. seen.actor) is in
    let search = found_in (is_cand now.local.cands) from (index_bits shape - from) bit first in
    let above = search.above in
    let below_end = search.below in
    let good_now : IsShape (shape_of now) = subst IsShape (sym shape_is) good in
    let there_now : IsTrue (has_interrupt (shape_of now) key) = ap (λ shape. has_interrupt shape key) shape_is ∙ there in
    let own_now : IsTrue (is_of_vcpu now.actor key) = ap (λ actor. is_of_vcpu actor key) actor_is ∙ own in
    let Other : Offer → Type 0 = λ offer. IsFound now offer × (index_bit shape offer.key < from) in
    let others : All Other so.offers = λ i d l. (All-get_or (IsFound now) so.offers i d l so.found.each, All-get_or (λ offer. index_bit shape offer.key < from) so.offers i d l so.below) in
    let each : All (IsFound new) so.offers = All-weaker Other (IsFound new)
    (λ offer both. known_other now new offer key look.found good_now there_now
    (λ e. let same : index_bit shape offer.key ≡ bit = ap (index_bit shape) e ∙ bit_is in let less = both.1 in omega (arith, same, less, above)) add both.0)
    so.offers others in
    let below : All (λ offer. index_bit shape offer.key < bit) so.offers = All-weaker (λ offer. index_bit shape offer.key < from) (λ offer. index_bit shape offer.key < bit) (λ offer l. omega (arith, l, above)) so.offers so.below in
    let more = more_found old new bit key (irq_of look.found) so.offers bit_is each so.found.once below (λ home unwanted. offer_found now new key look.found there_now own_now look.word add home unwanted) in
    let next : next_cand (shape_of now) now.actor now.local.cands from ≡ Some key
    = ap (λ seen. option_map (key_of_bit (shape_of seen) seen.actor) (find (is_cand now.local.cands) (range_with_len from (index_bits (shape_of seen) - from)))) is
    ∙ ap (option_map (key_of_bit shape old.actor)) first ∙ ap Some (sym key_is) in
    let at : (purpose : Purpose) (p : Progress) → looked_on now purpose from so.offers p ≡ record (told_by now p) { scan = looking purpose from so.offers } = λ purpose p. looked_some now purpose from so.offers p key next in
    let Proper : GuestShape → ℕ → Purpose → Progress → Type 0 = λ shape actor purpose p. IsProperStep shape actor (record (told_by now p) { scan = looking purpose from so.offers }) (Look (IrqWord key)) in
    let Steps : GuestShape → ℕ → Progress → Progress = λ shape actor p. stepped shape actor made p in
    record {
      part = so.part ++ made ∷ [];
      offers = so.offers ++ offered key (irq_of look.found);
      adds = adds_join old now new so.part (made ∷ []) so.adds add.adds;
      steps_are = are_append is_search so.part (made ∷ []) so.steps_are refl;
      same = look_same now new key look.found add old.local.cands ∙ so.same;
      none_taken = none_append so.part (made ∷ []) so.none_taken (ap (λ b. b && true) (handed_none (Look (IrqWord key)) look.found now add.tables refl add.handed));
      silent = events_then old now so.part (made ∷ []) so.adds ∙ ap (λ events. events ++ []) so.silent;
      looks =
          (let counted = count_first (is_cand now.local.cands) from (index_bits shape - from) bit first in
          let far : from + (index_bits shape - from) - (bit + 1) ≡ index_bits shape - (bit + 1) = omega (arith, above, below_end) in
          let rest : count_from (is_cand now.local.cands) (bit + 1) (from + (index_bits shape - from) - (bit + 1)) ≡ count_from (is_cand new.local.cands) (bit + 1) (index_bits shape - (bit + 1))
          = ap (count_from (is_cand now.local.cands) (bit + 1)) far
          ∙ count_same (is_cand now.local.cands) (is_cand new.local.cands) (bit + 1) (index_bits shape - (bit + 1)) (λ i past less. sym (look_kept now new key bit look.found i add (ap (λ shape. index_bit shape key) shape_is ∙ bit_is) room (λ e. omega (arith, e, past)))) in
          let more_looks = looks_append so.part (made ∷ []) in
          let one : looks_in (made ∷ []) ≡ 1 = refl in
          let before = so.looks in
          omega (arith, counted, rest, more_looks, one, before));
      none_left = (let both = taken_append so.part (made ∷ []) in let one : bits_taken (made ∷ []) ≡ 0 = taken_one made in let before = so.none_left in omega (arith, both, one, before));
      found = more.found;
      below = more.below;
      lrs = look.lrs ∙ so.lrs;
      vcpu = look.vcpu ∙ so.vcpu;
      stands = λ stands. look.stands so.offers (so.stands stands);
      proper = λ purpose p.
          let q = looked_on old purpose 0 [] p in
          let so_far = so.goes_on purpose p in
          let p1 : Progress = record p { far = so_far.far } in
          let step : IsProperStep shape old.actor (looked_on now purpose from so.offers p1) (Look (IrqWord key))
          = subst (λ p. IsProperStep shape old.actor p (Look (IrqWord key))) (sym (at purpose p1))
          (look_proper shape old.actor (record (told_by now p1) { scan = looking purpose from so.offers }) purpose from so.offers key refl
          (ap (λ seen. next_cand (shape_of seen) seen.actor now.local.cands from) (sym is) ∙ next)) in
          subst (IsProper shape old.actor q) (sym (map-append makes so.part (made ∷ [])))
          ((proper_append shape old.actor q (map makes so.part) (makes made ∷ [])).1
          (so.proper purpose p, (subst (λ p. IsProperStep shape old.actor p (Look (IrqWord key))) (sym so_far.is) step, tt)));
      goes_on = λ purpose p.
          let q = looked_on old purpose 0 [] p in
          let so_far = so.goes_on purpose p in
          let p1 : Progress = record p { far = so_far.far } in
          let last = look_stepped now new p1 purpose from bit so.offers key look.found add (ap (λ shape. index_bit shape key) shape_is ∙ bit_is) in
          record {
            far = last.far;
            is =
                ap (progress_of shape old.actor q) (map-append makes so.part (made ∷ [])) ∙ fold-append (progressed shape old.actor) q (map makes so.part) (makes made ∷ [])
                ∙ ap (Steps shape old.actor) (so_far.is ∙ at purpose p1)
                ∙ ap (λ seen. stepped (shape_of seen) seen.actor made (record (told_by now p1) { scan = looking purpose from so.offers })) (sym is)
                ∙ last.is;
          };
    }

-- The loop.

pub search_in : (cands : Cands) (from end bit : ℕ) → from ≤ end → find (is_cand cands) (range_with_len from (end - from)) ≡ Some bit → (from ≤ bit) × (bit < end)
search_in cands from end bit l e = let in_range = found_in (is_cand cands) from (end - from) bit e in let above = in_range.above in let below = in_range.below in (above, omega (arith, below, l))

pub fewer_left : (from end bit : ℕ) → (from ≤ bit) × (bit < end) → end - (bit + 1) < end - from
fewer_left from end bit (above, below) = omega (arith, above, below)

-- once it has all words of its index a vCPU looks at its candidates
pub all_taken : (old new : Seen) (purpose : Purpose) (p : Progress) (takes : TakesIndex old new) → IsScanAt old p (taking purpose 0) → progress_of (shape_of old) old.actor p (map makes takes.part) ≡ looked_on new purpose 0 [] p
all_taken old new purpose p takes at =
    let shape = shape_of old in
    let words = index_words shape in
    let told = told_by new p in
    let q : Progress = record told { scan = taking purpose words } in
    let settle : Progress → Progress = λ on. record on { scan = ended_scan on.local on.scan } in
    takes.goes_on purpose p at
    ∙ ap (λ b. settle (if b then looks_on shape old.actor purpose 0 [] q else q)) (eq-eqb words words refl)
    ∙ ap settle (looks_same shape old.actor purpose 0 [] told (taking purpose words))
    ∙ ap (λ seen. settle (looks_on (shape_of seen) seen.actor purpose 0 [] told)) (sym takes.adds.new_is)
