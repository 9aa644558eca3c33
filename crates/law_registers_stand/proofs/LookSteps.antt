-- A vCPU looks at its candidates.
use Rattle.std.proofs.Common.{◌≡◌, ◌≢◌, ℕ, ◌+◌, ◌<◌, ◌≤◌, ◌&&◌, not, Bool, true, false, if◌then◌else◌, IsTrue, List, [], ◌∷◌, ◌++◌, get_or, Contains, All, AllPairs, append-nil, Some, is_none, sym, ap, subst, ◌∙◌, arith}
use Rattle.std.proofs.lemmas.Bool.{eq-eqb}
use Rattle.std.proofs.lemmas.List.Elements.{All-nil, All-push, All-weaker, All-contains, All-contains_itself, Contains-get_or}
use Rattle.std.proofs.lemmas.List.Quantifiers.{all_pairs_push}
use Rattle.law_core_is_history.specs.Words.{Key, GuestShape, has_interrupt, is_of_vcpu, IsShape, irq_of}
use Rattle.law_core_is_history.proofs.GicWord.WordLemmas.{irq_fits}
use Rattle.law_core_is_history.specs.Lists.{Offer, FitsRegister}
use Rattle.law_core_is_history.specs.Core.{Local, Made, Irq, known, has_word, index_bit, place_of_word, word_of, IsIrqWord, offered}
use Rattle.law_core_is_history.proofs.CoreProper.IntidLemmas.{id_fits, in_range}
use Rattle.law_core_is_history.proofs.KnownSteps.{known_more}
use Rattle.law_registers_stand.proofs.ComeLemmas.{known_on}
use Rattle.law_registers_stand.proofs.FillLemmas.{IsOffered}

-- how far it is: nothing is at its interface; it knows the words of what it found, each interrupt once, by bits of its index below one
pub record IsLooking (shape : GuestShape) (vcpu : ℕ) (local : Local) (own : List Made) (from : ℕ) (offers : List Offer) : Type 0 where
  pub empty : local.at ≡ []
  pub each : All (IsOffered shape vcpu own) offers
  pub apart : AllPairs (λ early late. early.key ≢ late.key) offers
  pub below : All (λ offer. index_bit shape offer.key < from) offers

pub looks_at_none : (shape : GuestShape) (vcpu : ℕ) (local : Local) (own : List Made) → local.at ≡ [] → IsLooking shape vcpu local own 0 []
looks_at_none shape vcpu local own empty = record { empty = empty; each = All-nil (IsOffered shape vcpu own); apart = λ i j d l m. absurd (omega (arith, m)); below = All-nil (λ (offer : Offer). index_bit shape offer.key < 0) }

-- it has room in a list register
pub fits_register : (shape : GuestShape) (key : Key) (word : ℕ) → IsShape shape → IsTrue (has_interrupt shape key) → IsIrqWord shape key word → FitsRegister (record { key = key; irq = irq_of word })
fits_register shape key word good there valid =
    let few = (irq_fits word valid.word_is).prio_bits in
    record { id = id_fits key (in_range shape key good there); prio = omega (arith, few) }

-- what was found is known as before, where a step is on none of its words
pub offered_on : (shape : GuestShape) (vcpu : ℕ) (own : List Made) (made : Made) (offers : List Offer) → ((offer : Offer) → Contains offers offer → known shape vcpu (own ++ made ∷ []) (Irq offer.key) ≡ known shape vcpu own (Irq offer.key)) → All (IsOffered shape vcpu own) offers
    → All (IsOffered shape vcpu (own ++ made ∷ [])) offers
offered_on shape vcpu own made offers same each =
    All-weaker (Contains offers) (IsOffered shape vcpu (own ++ made ∷ []))
    (λ offer has. let is = All-contains (IsOffered shape vcpu own) offers offer each has in record { there = is.there; mine = is.mine; fits = is.fits; word = is.word; known_as = same offer has ∙ is.known_as; irq = is.irq }) offers (All-contains_itself offers)

-- a step that is on no interrupt's word
pub looking_on : (shape : GuestShape) (vcpu : ℕ) (local after : Local) (own : List Made) (made : Made) (from : ℕ) (offers : List Offer) → after.at ≡ local.at → ((key : Key) → IsTrue (has_interrupt shape key) → known shape vcpu (own ++ made ∷ []) (Irq key) ≡ known shape vcpu own (Irq key))
    → IsLooking shape vcpu local own from offers → IsLooking shape vcpu after (own ++ made ∷ []) from offers
looking_on shape vcpu local after own made from offers at same is = record {
  empty = at ∙ is.empty;
  each = offered_on shape vcpu own made offers (λ offer has. same offer.key (All-contains (IsOffered shape vcpu own) offers offer is.each has).there) is.each;
  apart = is.apart;
  below = is.below;
}

-- a look at the next candidate
module _ (shape : GuestShape) (good : IsShape shape) (vcpu : ℕ) (local after : Local) (own : List Made) (made : Made) (from : ℕ) (offers : List Offer) (is : IsLooking shape vcpu local own from offers) (key : Key) (on : word_of shape vcpu made.step ≡ Irq key) (left : made.left ≡ made.found) (there : IsTrue (has_interrupt shape key)) (mine : IsTrue (is_of_vcpu vcpu key))
    (valid : IsIrqWord shape key made.found) (ahead : from ≤ index_bit shape key) (at : after.at ≡ local.at) where
  apart_from : (offer : Offer) → Contains offers offer → offer.key ≢ key
  apart_from offer has e = let less = All-contains (λ (offer : Offer). index_bit shape offer.key < from) offers offer is.below has in let same = ap (index_bit shape) e in omega (arith, less, ahead, same)

  kept : All (IsOffered shape vcpu (own ++ made ∷ [])) offers
  kept =
      offered_on shape vcpu own made offers
      (λ offer has. known_on shape vcpu own made (Irq offer.key) good (ap (has_word shape) on ∙ there) (All-contains (IsOffered shape vcpu own) offers offer is.each has).there (λ e. apart_from offer has (of offer.key key (sym e ∙ on)))) is.each
    where
      of : (j k : Key) → Irq j ≡ Irq k → j ≡ k
      of j k e = cc

  found : IsOffered shape vcpu (own ++ made ∷ []) (record { key = key; irq = irq_of made.found })
  found = record {
    there = there;
    mine = mine;
    fits = fits_register shape key made.found good there valid;
    word = made.left;
    known_as = known_more shape vcpu own made (Irq key) ∙ ap (λ b. if b then Some made.left else known shape vcpu own (Irq key)) (eq-eqb _ _ (ap (place_of_word shape) on));
    irq = ap irq_of left;
  }

  weaker : All (λ (offer : Offer). index_bit shape offer.key < index_bit shape key + 1) offers
  weaker = All-weaker (λ (offer : Offer). index_bit shape offer.key < from) (λ (offer : Offer). index_bit shape offer.key < index_bit shape key + 1) (λ offer less. omega (arith, less, ahead)) offers is.below

  pub looks : IsLooking shape vcpu after (own ++ made ∷ []) (index_bit shape key + 1) (offers ++ offered key (irq_of made.found))
  looks = of (is_none (irq_of made.found).holder && not (irq_of made.found).want)
    where
      of : (b : Bool) → IsLooking shape vcpu after (own ++ made ∷ []) (index_bit shape key + 1) (offers ++ (if b then (record { key = key; irq = irq_of made.found }) ∷ [] else []))
      of false = subst (IsLooking shape vcpu after (own ++ made ∷ []) (index_bit shape key + 1)) (sym (append-nil offers)) (record { empty = at ∙ is.empty; each = kept; apart = is.apart; below = weaker })
      of true = record {
        empty = at ∙ is.empty;
        each = All-push (IsOffered shape vcpu (own ++ made ∷ [])) offers (record { key = key; irq = irq_of made.found }) kept found;
        apart = all_pairs_push (λ early late. early.key ≢ late.key) offers (record { key = key; irq = irq_of made.found }) is.apart (λ k d less e. apart_from (get_or offers k d) (Contains-get_or offers k d less) e);
        below = All-push (λ (offer : Offer). index_bit shape offer.key < index_bit shape key + 1) offers (record { key = key; irq = irq_of made.found }) weaker (omega arith);
      }
