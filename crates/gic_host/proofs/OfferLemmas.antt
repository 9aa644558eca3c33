-- What is offered of some links.
use Rattle.std.proofs.Common.{◌≡◌, ◌<◌, ◌+◌, ℕ, true, false, List, [], ◌∷◌, ◌++◌, take, length, get_or, sym, ap, ◌∙◌, subst}
use Rattle.gic_ich.specs.GicPrio.declared.cpu.CpuRec.{CpuRec}
use Rattle.floor_lists.specs.Lists.{Kept, Offer, StandsFor}
use Rattle.gic_host.specs.declared.state.LinkState.{LinkState}
use Rattle.gic_host.specs.State.{is_at}
use Rattle.gic_host.specs.Text.{offer_of, offers_at}
use Rattle.gic_host.proofs.ListLemmas.{passed_more, failed_more}

-- one more link, which is at the interface of the vCPU or not
pub offered_more : (links : List LinkState) (vcpu i : ℕ) (d : LinkState) → i < length links → is_at vcpu (get_or links i d) ≡ true → offers_at (take (i + 1) links) vcpu ≡ offers_at (take i links) vcpu ++ offer_of (get_or links i d) ∷ []
offered_more links vcpu i d within e = passed_more offer_of (is_at vcpu) links i d within e

pub not_offered : (links : List LinkState) (vcpu i : ℕ) (d : LinkState) → i < length links → is_at vcpu (get_or links i d) ≡ false → offers_at (take (i + 1) links) vcpu ≡ offers_at (take i links) vcpu
not_offered links vcpu i d within e = failed_more offer_of (is_at vcpu) links i d within e

-- a chooser stands for one more
pub stands_more : (kept : Kept) (cpu : CpuRec) (links : List LinkState) (vcpu i : ℕ) (d : LinkState) (offer : Offer) → i < length links → is_at vcpu (get_or links i d) ≡ true → offer ≡ offer_of (get_or links i d)
    → StandsFor kept cpu (offers_at (take i links) vcpu ++ offer ∷ []) → StandsFor kept cpu (offers_at (take (i + 1) links) vcpu)
stands_more kept cpu links vcpu i d offer within e is stands =
    subst (StandsFor kept cpu) (ap (λ (one : Offer). offers_at (take i links) vcpu ++ one ∷ []) is ∙ sym (offered_more links vcpu i d within e)) stands

pub stands_still : (kept : Kept) (cpu : CpuRec) (links : List LinkState) (vcpu i : ℕ) (d : LinkState) → i < length links → is_at vcpu (get_or links i d) ≡ false → StandsFor kept cpu (offers_at (take i links) vcpu) → StandsFor kept cpu (offers_at (take (i + 1) links) vcpu)
stands_still kept cpu links vcpu i d within e stands = subst (StandsFor kept cpu) (sym (not_offered links vcpu i d within e)) stands
