-- What is planned for an access is enough for it.
use Rattle.std.proofs.Common.{◌≡◌, ◌≤◌, ◌+◌, ℕ, Bool, true, false, ◌&&◌, ◌||◌, cond, eqb, nat_lt, Option, Some, None, List, [], ◌∷◌, find, length, Contains, ◌⊎◌, inl, inr, refl, sym, ap, ◌∙◌, subst, arith}
use Rattle.std.specs.Prelude.{min, if◌then◌else◌, option_to_list}
use Rattle.std.specs.Option.{option_map, option_map_or}
use Rattle.std.proofs.lemmas.Grind.{common_steps}
use Rattle.std.proofs.lemmas.Bool.{false≢true}
use Rattle.std.proofs.lemmas.Option.{none-some, same_Some}
use Rattle.gic_ich.specs.Words.{GuestShape, IccReg, Eoir0, Eoir1, Dir}
use Rattle.gic_ich.specs.GicPrio.declared.cpu.CpuRec.{CpuRec}
use Rattle.gic_ich.specs.GicPrio.Access.{deactivated_by}
use Rattle.floor_lists.specs.Lists.{Offer, plan, first_among, is_active_by, is_deliverable_to, active_among, deliverable_among, ordered}
use Rattle.floor_lists.proofs.VcpuRefill.ElementLemmas.{Contains-nothing, Contains-cases, Contains-here}
use Rattle.floor_lists.proofs.VcpuRefill.ApartLemmas.{Apart}
use Rattle.gic_host.specs.declared.state.LinkState.{LinkState}
use Rattle.gic_host.specs.State.{is_at, is_active, is_pending}
use Rattle.gic_host.specs.Text.{offer_of, offers_at}
use Rattle.gic_host.specs.Access.{asks_first, is_named, named_at, needed, offers_for}
use Rattle.gic_host.proofs.ListLemmas.{find_in}
use Rattle.gic_host.proofs.GoodLemmas.{AreGood, one_vid, offer_in, offers_apart}
use Rattle.gic_host.proofs.FirstLemmas.{first_offered, first_deliverable}

-- some interrupts at the interface of a vCPU are enough for an access: they fit into the list registers, the first of them is the first
-- of all where the access asks for it, and the one that it deactivates is among them
pub record Suffices (ls : List LinkState) (vcpu : ℕ) (cpu : CpuRec) (shape : GuestShape) (n : ℕ) (reg : IccReg) (write : Option ℕ) (offers : List Offer) : Type 0 where
  pub untrapped : (plan offers vcpu cpu shape n).trapping ≡ false
  pub among : (offer : Offer) → Contains offers offer → Contains (offers_at ls vcpu) offer
  pub apart : Apart offers
  pub first : write ≡ None → asks_first reg ≡ true → first_among offers vcpu cpu shape ≡ first_among (offers_at ls vcpu) vcpu cpu shape
  pub named : (id : ℕ) (l : LinkState) → deactivated_by reg write cpu ≡ Some id → Contains ls l → is_named vcpu id l ≡ true → Contains offers (offer_of l)

-- a read deactivates nothing
none_ended : (reg : IccReg) (cpu : CpuRec) → deactivated_by reg None cpu ≡ None
none_ended Eoir0 cpu = refl
none_ended Eoir1 cpu = refl
none_ended Dir cpu = refl
none_ended reg cpu = refl

-- the parts of a name
named_vcpu : (vcpu id : ℕ) (l : LinkState) → is_named vcpu id l ≡ true → l.link.vcpu ≡ vcpu
named_vcpu vcpu id l h = grind (arith, common_steps, h)

named_id : (vcpu id : ℕ) (l : LinkState) → is_named vcpu id l ≡ true → l.link.vid ≡ id
named_id vcpu id l h = grind (arith, common_steps, h)

pub named_is_at : (vcpu id : ℕ) (l : LinkState) → is_named vcpu id l ≡ true → is_at vcpu l ≡ true
named_is_at vcpu id l h = of (eqb l.link.vcpu vcpu) (eqb l.link.vid id) (is_active l.state) (is_pending l.state) h
  where
    of : (a b c d : Bool) → (a && b && c) ≡ true → (a && (d || c)) ≡ true
    of true true true true e = refl
    of true true true false e = refl
    of true true false d e = absurd (false≢true e)
    of true false c d e = absurd (false≢true e)
    of false b c d e = absurd (false≢true e)

-- a search finds something where an element passes
find_some : {X : Type 0} (p : X → Bool) (xs : List X) (x : X) → Contains xs x → p x ≡ true → find p xs ≡ None → ⊥
find_some p [] x has e f = Contains-nothing x has
find_some {X} p (y ∷ xs) x has e f = by_test (p y) refl f (Contains-cases y x xs has) (λ later none. find_some p xs x later e none)
  where
    by_test : (b : Bool) → p y ≡ b → cond b (Some y) (find p xs) ≡ None → (y ≡ x) ⊎ Contains xs x → (Contains xs x → find p xs ≡ None → ⊥) → ⊥
    by_test true g h place rest = none-some y (sym h)
    by_test false g h (inl same) rest = false≢true (sym g ∙ ap p same ∙ e)
    by_test false g h (inr later) rest = rest later h

-- one interrupt, or none, fits into the list registers
one_active : (o : Option Offer) (vcpu : ℕ) (cpu : CpuRec) (shape : GuestShape) → length (active_among (option_to_list o) vcpu) + min 1 (length (deliverable_among (option_to_list o) vcpu cpu shape)) ≤ 1
one_active None vcpu cpu shape = omega arith
one_active (Some offer) vcpu cpu shape = of (is_active_by vcpu offer) refl (is_deliverable_to vcpu cpu shape offer) refl
  where
    not_both : is_active_by vcpu offer ≡ true → is_deliverable_to vcpu cpu shape offer ≡ true → ⊥
    not_both active deliverable = grind (arith, common_steps, active, deliverable)

    of : (a : Bool) → is_active_by vcpu offer ≡ a → (d : Bool) → is_deliverable_to vcpu cpu shape offer ≡ d → length (ordered (cond a (offer ∷ []) [])) + min 1 (length (ordered (cond d (offer ∷ []) []))) ≤ 1
    of true e true f = absurd (not_both e f)
    of true e false f = omega arith
    of false e true f = omega arith
    of false e false f = omega arith

alone_untrapped : (o : Option Offer) (vcpu : ℕ) (cpu : CpuRec) (shape : GuestShape) (n : ℕ) → 1 ≤ n → (plan (option_to_list o) vcpu cpu shape n).trapping ≡ false
alone_untrapped o vcpu cpu shape n some =
    let few = one_active o vcpu cpu shape in
    of (length (active_among (option_to_list o) vcpu)) (min 1 (length (deliverable_among (option_to_list o) vcpu cpu shape))) few
  where
    of : (a d : ℕ) → a + d ≤ 1 → nat_lt n (a + d) ≡ false
    of a d h = grind (arith, some, h)

alone_apart : (o : Option Offer) → Apart (option_to_list o)
alone_apart None = λ i j d less within. absurd (omega (arith, within))
alone_apart (Some offer) = λ i j d less within. absurd (omega (arith, less, within))

alone_is : (o : Option Offer) (offer : Offer) → Contains (option_to_list o) offer → o ≡ Some offer
alone_is None offer has = absurd (Contains-nothing offer has)
alone_is (Some one) offer has = elim (Contains-cases one offer [] has) [ inl same ↦ ap Some same | inr later ↦ absurd (Contains-nothing offer later) ]

alone_in : (o : Option Offer) (offer : Offer) → o ≡ Some offer → Contains (option_to_list o) offer
alone_in o offer e = subst (λ (p : Option Offer). Contains (option_to_list p) offer) (sym e) (Contains-here offer [])

-- the first of one interrupt that is the first of all
alone_first : (o : Option Offer) (offers : List Offer) (vcpu : ℕ) (cpu : CpuRec) (shape : GuestShape) → first_among offers vcpu cpu shape ≡ o → first_among (option_to_list o) vcpu cpu shape ≡ o
alone_first None offers vcpu cpu shape e = refl
alone_first (Some one) offers vcpu cpu shape e = rw (first_deliverable offers vcpu cpu shape one e) refl

module _ (vcpus : ℕ) (ls : List LinkState) (good : AreGood vcpus ls) (vcpu : ℕ) (cpu : CpuRec) (shape : GuestShape) (n : ℕ) (reg : IccReg) (some : 1 ≤ n) where
  abbrev all : List Offer
  all = offers_at ls vcpu

  -- in trap mode, a read
  needed_read : (write : Option ℕ) → write ≡ None → Suffices ls vcpu cpu shape n reg write (option_to_list (needed ls vcpu cpu shape reg write))
  needed_read (Some value) e = absurd (none-some value (sym e))
  needed_read None e =
      record {
        untrapped = alone_untrapped (needed ls vcpu cpu shape reg None) vcpu cpu shape n some;
        among = λ offer has. from (asks_first reg) offer (alone_is (needed ls vcpu cpu shape reg None) offer has);
        apart = alone_apart (needed ls vcpu cpu shape reg None);
        first = λ f asks. (let is : needed ls vcpu cpu shape reg None ≡ first_among all vcpu cpu shape = ap (λ (b : Bool). if b then first_among all vcpu cpu shape else None) asks in
            alone_first (needed ls vcpu cpu shape reg None) all vcpu cpu shape (sym is) ∙ is);
        named = λ id l f has is. absurd (none-some id (sym (none_ended reg cpu) ∙ f));
      }
    where
      from : (b : Bool) (offer : Offer) → (if b then first_among all vcpu cpu shape else None) ≡ Some offer → Contains all offer
      from true offer f = first_offered all vcpu cpu shape offer f
      from false offer f = absurd (none-some offer f)

  -- in trap mode, a write
  needed_write : (value : ℕ) → Suffices ls vcpu cpu shape n reg (Some value) (option_to_list (needed ls vcpu cpu shape reg (Some value)))
  needed_write value =
      record {
        untrapped = alone_untrapped (needed ls vcpu cpu shape reg (Some value)) vcpu cpu shape n some;
        among = λ offer has. from (deactivated_by reg (Some value) cpu) offer (alone_is (needed ls vcpu cpu shape reg (Some value)) offer has);
        apart = alone_apart (needed ls vcpu cpu shape reg (Some value));
        first = λ f asks. absurd (none-some value (sym f));
        named = λ id l f has is. (
            alone_in (needed ls vcpu cpu shape reg (Some value)) (offer_of l) (ap (λ (o : Option ℕ). option_map_or (named_at ls vcpu) o None) f ∙ found id l has is (find (is_named vcpu id) ls) refl));
      }
    where
      from_named : (id : ℕ) (offer : Offer) (o : Option LinkState) → find (is_named vcpu id) ls ≡ o → option_map offer_of o ≡ Some offer → Contains all offer
      from_named id offer None f e = absurd (none-some offer e)
      from_named id offer (Some m) f e =
          let there = find_in (is_named vcpu id) ls m f in
          subst (Contains all) (same_Some (offer_of m) offer e) (offer_in vcpus ls good vcpu m there.0 (named_is_at vcpu id m there.1))

      from : (o : Option ℕ) (offer : Offer) → option_map_or (named_at ls vcpu) o None ≡ Some offer → Contains all offer
      from None offer e = absurd (none-some offer e)
      from (Some id) offer e = from_named id offer (find (is_named vcpu id) ls) refl e

      found : (id : ℕ) (l : LinkState) → Contains ls l → is_named vcpu id l ≡ true → (o : Option LinkState) → find (is_named vcpu id) ls ≡ o → option_map offer_of o ≡ Some (offer_of l)
      found id l has is None f = absurd (find_some (is_named vcpu id) ls l has is f)
      found id l has is (Some m) f =
          let there = find_in (is_named vcpu id) ls m f in
          ap (λ (k : LinkState). Some (offer_of k)) (one_vid vcpus ls good m l there.0 has (named_id vcpu id m there.1 ∙ sym (named_id vcpu id l is)) (named_vcpu vcpu id m there.1 ∙ sym (named_vcpu vcpu id l is)))

  pub suffices : (write : Option ℕ) → Suffices ls vcpu cpu shape n reg write (offers_for ls vcpu cpu shape n reg write)
  suffices write = of (plan all vcpu cpu shape n).trapping refl
    where
      alone : (w : Option ℕ) → Suffices ls vcpu cpu shape n reg w (option_to_list (needed ls vcpu cpu shape reg w))
      alone None = needed_read None refl
      alone (Some value) = needed_write value

      of : (b : Bool) → (plan all vcpu cpu shape n).trapping ≡ b → Suffices ls vcpu cpu shape n reg write (if b then option_to_list (needed ls vcpu cpu shape reg write) else all)
      of true e = alone write
      of false e =
          record {
            untrapped = e;
            among = λ offer has. has;
            apart = offers_apart ls vcpu good.apart;
            first = λ f asks. refl;
            named = λ id l f has is. offer_in vcpus ls good vcpu l has (named_is_at vcpu id l is);
          }
