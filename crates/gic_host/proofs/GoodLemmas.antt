-- Good links: no two of them are to one interrupt, and their numbers fit.
use Rattle.std.proofs.Common.{◌≡◌, ◌<◌, ◌≤◌, ◌^◌, ℕ, Bool, true, false, ◌&&◌, ◌||◌, not, eqb, nat_le, cond, Some, List, [], ◌∷◌, map, filter, length, get_or, All, Contains, ◌⊎◌, inl, inr, refl, sym, ap, ◌∙◌, subst, arith}
use Rattle.std.specs.List.{list_all, list_any}
use Rattle.std.proofs.lemmas.Grind.{common_steps}
use Rattle.std.proofs.lemmas.Bool.{true≢false, false≢true, and_parts, or_parts}
use Rattle.std.proofs.lemmas.List.Elements.{All-map, Contains-get_or}
use Rattle.std.proofs.lemmas.List.Kept.{AllPairs-cons}
use Rattle.gic_ich.specs.Words.{intid_of}
use Rattle.floor_lists.specs.Lists.{Offer, FitsRegister as FitsOffer}
use Rattle.floor_lists.proofs.VcpuRefill.ElementLemmas.{Contains-nothing, Contains-cases, Contains-map, Contains-filter, map_cases}
use Rattle.floor_lists.proofs.VcpuRefill.EarnedLemmas.{from_filter}
use Rattle.floor_lists.proofs.VcpuRefill.ApartLemmas.{Apart, Differ}
use Rattle.gic_host.specs.declared.link.Link.{Link}
use Rattle.gic_host.specs.declared.state.LinkState.{LinkState}
use Rattle.gic_host.specs.Link.{is_to, link_to, FitRegisters}
use Rattle.gic_host.specs.State.{is_at}
use Rattle.gic_host.specs.Text.{offer_of, offers_at}
use Rattle.gic_host.proofs.ListLemmas.{find_unique}
use Rattle.gic_host.specs.Good.{is_good_link, clash, has_clash, are_good_links}

-- no element passes
any_none : {X : Type 0} (p : X → Bool) (xs : List X) (x : X) → list_any p xs ≡ false → Contains xs x → p x ≡ false
any_none p [] x h has = absurd (Contains-nothing x has)
any_none p (y ∷ xs) x h has =
    let parts = or_parts (p y) (list_any p xs) h in
    elim (Contains-cases y x xs has) [ inl same ↦ sym (ap p same) ∙ parts.0 | inr later ↦ any_none p xs x parts.1 later ]

-- each element passes
pub all_pass : {X : Type 0} (p : X → Bool) (xs : List X) (x : X) → list_all p xs ≡ true → Contains xs x → p x ≡ true
all_pass p [] x h has = absurd (Contains-nothing x has)
all_pass p (y ∷ xs) x h has =
    let parts = and_parts (p y) (list_all p xs) h in
    elim (Contains-cases y x xs has) [ inl same ↦ sym (ap p same) ∙ parts.0 | inr later ↦ all_pass p xs x parts.1 later ]

-- links that clash do so in either order
clash_back : (one other : Link) → clash one other ≡ true → clash other one ≡ true
clash_back one other h = grind (arith, common_steps, h)

abbrev pub link_of : LinkState → Link
link_of l = l.link

-- two of the links that clash are one
pub same_link : (ls : List LinkState) (a b : LinkState) → has_clash (map link_of ls) ≡ false → Contains ls a → Contains ls b → clash a.link b.link ≡ true → a ≡ b
same_link [] a b h has have e = absurd (Contains-nothing a has)
same_link (l ∷ ls) a b h has have e = by_place (Contains-cases l a ls has) (Contains-cases l b ls have) (λ later after. same_link ls a b parts.1 later after e)
  where
    parts : (list_any (clash l.link) (map link_of ls) ≡ false) × (has_clash (map link_of ls) ≡ false)
    parts = or_parts (list_any (clash l.link) (map link_of ls)) (has_clash (map link_of ls)) h

    alone : (m : LinkState) → Contains ls m → clash l.link m.link ≡ false
    alone m later = any_none (clash l.link) (map link_of ls) m.link parts.0 (Contains-map link_of ls m later)

    by_place : (l ≡ a) ⊎ Contains ls a → (l ≡ b) ⊎ Contains ls b → (Contains ls a → Contains ls b → a ≡ b) → a ≡ b
    by_place (inl same) (inl other) rest = sym same ∙ other
    by_place (inl same) (inr later) rest = absurd (true≢false (sym e ∙ ap (λ (m : LinkState). clash m.link b.link) (sym same) ∙ alone b later))
    by_place (inr later) (inl other) rest = absurd (true≢false (sym (clash_back a.link b.link e) ∙ ap (λ (m : LinkState). clash m.link a.link) (sym other) ∙ alone a later))
    by_place (inr later) (inr after) rest = rest later after

eqb_itself : (n : ℕ) → eqb n n ≡ true
eqb_itself n = grind arith

clash_phys : (one other : Link) → one.phys ≡ other.phys → clash one other ≡ true
clash_phys one other e = rw (e, eqb_itself other.phys) refl

or_true : (b : Bool) → (b || true) ≡ true
or_true true = refl
or_true false = refl

clash_vid : (one other : Link) → one.vid ≡ other.vid → one.vcpu ≡ other.vcpu → clash one other ≡ true
clash_vid one other e f = rw (e, f, eqb_itself other.vid, eqb_itself other.vcpu) (or_true (eqb one.phys other.phys))

-- the vCPU of an interrupt at its interface
pub at_vcpu : (vcpu : ℕ) (l : LinkState) → is_at vcpu l ≡ true → l.link.vcpu ≡ vcpu
at_vcpu vcpu l h = grind (arith, common_steps, h)

-- the parts of good links
pub record AreGood (vcpus : ℕ) (ls : List LinkState) : Type 0 where
  pub each : list_all (is_good_link vcpus) (map link_of ls) ≡ true
  pub apart : has_clash (map link_of ls) ≡ false

pub good_parts : (vcpus : ℕ) (ls : List LinkState) → are_good_links vcpus (map link_of ls) ≡ true → AreGood vcpus ls
good_parts vcpus ls h =
    let outer = and_parts (nat_le (length (map link_of ls)) 64 && list_all (is_good_link vcpus) (map link_of ls)) (not (has_clash (map link_of ls))) h in
    let inner = and_parts (nat_le (length (map link_of ls)) 64) (list_all (is_good_link vcpus) (map link_of ls)) outer.0 in
    record { each = inner.1; apart = unset (has_clash (map link_of ls)) outer.1 }
  where
    unset : (b : Bool) → not b ≡ true → b ≡ false
    unset true e = absurd (false≢true e)
    unset false e = refl

module _ (vcpus : ℕ) (ls : List LinkState) (good : AreGood vcpus ls) where
  pub one_phys : (a b : LinkState) → Contains ls a → Contains ls b → a.link.phys ≡ b.link.phys → a ≡ b
  one_phys a b has have e = same_link ls a b good.apart has have (clash_phys a.link b.link e)

  pub one_vid : (a b : LinkState) → Contains ls a → Contains ls b → a.link.vid ≡ b.link.vid → a.link.vcpu ≡ b.link.vcpu → a ≡ b
  one_vid a b has have e f = same_link ls a b good.apart has have (clash_vid a.link b.link e f)

  good_one : (l : LinkState) → Contains ls l → is_good_link vcpus l.link ≡ true
  good_one l has = all_pass (is_good_link vcpus) (map link_of ls) l.link good.each (Contains-map link_of ls l has)

  pub phys_fits : FitRegisters (map link_of ls)
  phys_fits = All-map (λ (link : Link). link.phys < 2 ^ 13) link_of ls (λ k d less. of (get_or ls k d) (good_one (get_or ls k d) (Contains-get_or ls k d less)))
    where
      of : (l : LinkState) → is_good_link vcpus l.link ≡ true → l.link.phys < 2 ^ 13
      of l h = let few : l.link.phys ≤ 1019 = grind (arith, common_steps, h) in omega (arith, few)

  pub vid_few : (l : LinkState) → Contains ls l → l.link.vid ≤ 1019
  vid_few l has = of (good_one l has)
    where
      of : is_good_link vcpus l.link ≡ true → l.link.vid ≤ 1019
      of h = grind (arith, common_steps, h)

  pub prio_few : (l : LinkState) → Contains ls l → l.link.prio ≤ 248
  prio_few l has = of (good_one l has)
    where
      of : is_good_link vcpus l.link ≡ true → l.link.prio ≤ 248
      of h = grind (arith, common_steps, h)

  -- what is offered is of a link at the interface of the vCPU, and the other way round
  pub offer_from : (vcpu : ℕ) (offer : Offer) → Contains (offers_at ls vcpu) offer → (l : LinkState) × Contains ls l × (is_at vcpu l ≡ true) × (offer_of l ≡ offer)
  offer_from vcpu offer has =
      let found = map_cases offer_of (filter (is_at vcpu) ls) offer has in
      let from = from_filter (is_at vcpu) ls found.0 found.1 in
      (found.0, from.0, from.1, found.2)

  pub offer_in : (vcpu : ℕ) (l : LinkState) → Contains ls l → is_at vcpu l ≡ true → Contains (offers_at ls vcpu) (offer_of l)
  offer_in vcpu l has at = Contains-map offer_of (filter (is_at vcpu) ls) l (Contains-filter (is_at vcpu) ls l at has)

  pub offers_fit : (vcpu : ℕ) → All FitsOffer (offers_at ls vcpu)
  offers_fit vcpu k d less =
      let from = offer_from vcpu (get_or (offers_at ls vcpu) k d) (Contains-get_or (offers_at ls vcpu) k d less) in
      let few_id = vid_few from.0 from.1 in
      let few_prio = prio_few from.0 from.1 in
      subst FitsOffer from.3 (record { id = omega (arith, few_id); prio = omega (arith, few_prio) })

-- the link of a virtual interrupt is found by its INTID
pub link_found : (vcpus : ℕ) (ls : List LinkState) (good : AreGood vcpus ls) (vcpu : ℕ) (l : LinkState) → Contains ls l → is_at vcpu l ≡ true → link_to (map link_of ls) vcpu l.link.vid ≡ Some l.link
link_found vcpus ls good vcpu l has at =
    find_unique (is_to vcpu l.link.vid) link_of ls l has (passes l (at_vcpu vcpu l at)) (λ m there e. one_vid vcpus ls good m l there has (vid_of m e) (vcpu_of m e ∙ sym (at_vcpu vcpu l at)))
  where
    passes : (l : LinkState) → l.link.vcpu ≡ vcpu → is_to vcpu l.link.vid l.link ≡ true
    passes l e = grind (arith, common_steps, e)

    vid_of : (m : LinkState) → is_to vcpu l.link.vid m.link ≡ true → m.link.vid ≡ l.link.vid
    vid_of m e = grind (arith, common_steps, e)

    vcpu_of : (m : LinkState) → is_to vcpu l.link.vid m.link ≡ true → m.link.vcpu ≡ vcpu
    vcpu_of m e = grind (arith, common_steps, e)

-- no interrupt is offered twice
pub offers_apart : (ls : List LinkState) (vcpu : ℕ) → has_clash (map link_of ls) ≡ false → Apart (offers_at ls vcpu)
offers_apart [] vcpu h = λ i j d less within. absurd (omega (arith, within))
offers_apart (l ∷ ls) vcpu h = of (is_at vcpu l) refl (offers_apart ls vcpu parts.1)
  where
    parts : (list_any (clash l.link) (map link_of ls) ≡ false) × (has_clash (map link_of ls) ≡ false)
    parts = or_parts (list_any (clash l.link) (map link_of ls)) (has_clash (map link_of ls)) h

    differ : (m : LinkState) → is_at vcpu l ≡ true → Contains ls m → is_at vcpu m ≡ true → Differ (offer_of l) (offer_of m)
    differ m at later also e =
        true≢false
        (sym (clash_vid l.link m.link (ap intid_of e) (at_vcpu vcpu l at ∙ sym (at_vcpu vcpu m also)))
        ∙ any_none (clash l.link) (map link_of ls) m.link parts.0 (Contains-map link_of ls m later))

    differ_from : is_at vcpu l ≡ true → (other : Offer) → Contains (offers_at ls vcpu) other → Differ (offer_of l) other
    differ_from at other has =
        let found = map_cases offer_of (filter (is_at vcpu) ls) other has in
        let from = from_filter (is_at vcpu) ls found.0 found.1 in
        subst (Differ (offer_of l)) found.2 (differ found.0 at from.0 from.1)

    of : (b : Bool) → is_at vcpu l ≡ b → Apart (offers_at ls vcpu) → Apart (map offer_of (cond b (l ∷ filter (is_at vcpu) ls) (filter (is_at vcpu) ls)))
    of true at rest = AllPairs-cons Differ (offer_of l) (offers_at ls vcpu) (λ k d less. differ_from at (get_or (offers_at ls vcpu) k d) (Contains-get_or (offers_at ls vcpu) k d less)) rest
    of false at rest = rest
