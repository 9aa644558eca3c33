-- The first of the ordered interrupts, and the first candidate.
use Rattle.std.proofs.Common.{◌≡◌, Bool, true, false, cond, Option, Some, List, [], ◌∷◌, ◌++◌, refl, sym, ap, ◌∙◌}
use Rattle.std.specs.Prelude.{fold, map, filter, slice_get}
use Rattle.std.specs.Option.{option_map}
use Rattle.std.proofs.lemmas.List.{append_assoc, append-nil}
use Rattle.gic_ich.specs.GicPrio.declared.candidate.Candidate.{Candidate}
use Rattle.gic_ich.specs.GicPrio.Delivery.{first_of}
use Rattle.gic_ich.proofs.GicPrio.FirstLemmas.{first_alone, first_next}
use Rattle.vcpu_refill.specs.declared.offer.Offer.{Offer}
use Rattle.vcpu_refill.specs.Order.{candidate_of, goes_before, inserted, is_deliverable_to}
use Rattle.vcpu_refill.specs.Laws.{FirstIsFirst}

-- the first of some ordered interrupts, as a candidate
abbrev head_of : List Offer → Option Candidate
head_of sorted = option_map candidate_of (slice_get sorted 0)

-- one more interrupt, among the ordered ones and among the candidates
one_more : (sorted : List Offer) (seen : List Candidate) (one : Offer) → head_of sorted ≡ first_of seen → head_of (inserted one sorted) ≡ first_of (seen ++ candidate_of one ∷ [])
one_more [] seen one e = sym (first_alone seen (candidate_of one) e)
one_more (other ∷ others) seen one e = by_order (goes_before one other) ∙ sym (first_next seen (candidate_of other) (candidate_of one) e)
  where
    by_order : (b : Bool) → head_of (cond b (one ∷ other ∷ others) (other ∷ inserted one others)) ≡ Some (cond b (candidate_of one) (candidate_of other))
    by_order true = refl
    by_order false = refl

folded : (xs sorted : List Offer) (seen : List Candidate) → head_of sorted ≡ first_of seen → head_of (fold (λ before one. inserted one before) sorted xs) ≡ first_of (seen ++ map candidate_of xs)
folded [] sorted seen e = e ∙ ap first_of (sym (append-nil seen))
folded (x ∷ xs) sorted seen e =
    folded xs (inserted x sorted) (seen ++ candidate_of x ∷ []) (one_more sorted seen x e) ∙ ap first_of (append_assoc seen (candidate_of x ∷ []) (map candidate_of xs))

pub first : FirstIsFirst
first offers vcpu cpu shape = folded (filter (is_deliverable_to vcpu cpu shape) offers) [] [] refl
