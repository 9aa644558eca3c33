-- The interface of a vCPU, and the part of it that stands in list registers.
use Rattle.std.proofs.Common.{◌≡◌, ℕ, Bool, true, false, ◌&&◌, ◌||◌, eqb, cond, Option, Some, None, List, [], ◌∷◌, map, filter, get_or, Contains, ◌⊎◌, inl, inr, refl, sym, ap, ◌∙◌, subst, arith}
use Rattle.std.specs.Prelude.{IsTrue, IsSome, IfSome, if◌then◌else◌}
use Rattle.std.specs.List.{filter_map, cons_option}
use Rattle.std.specs.Option.{option_map}
use Rattle.std.proofs.lemmas.Grind.{common_steps}
use Rattle.std.proofs.lemmas.Bool.{false≢true}
use Rattle.std.proofs.lemmas.Option.{none-some, same_Some}
use Rattle.gic_ich.specs.Words.{GuestShape}
use Rattle.gic_ich.specs.GicPrio.declared.cpu.CpuRec.{CpuRec}
use Rattle.gic_ich.specs.GicPrio.declared.candidate.Candidate.{Candidate}
use Rattle.gic_ich.specs.GicPrio.Interface.{AtInterface, candidate_of as candidate_at}
use Rattle.floor_lists.specs.Lists.{Offer, Choice, Fill, LrState, Pending as PendingState, Active as ActiveState, Both, plan, chosen_as, candidate_of, is_active_by, is_deliverable_to, is_deliverable_once_inactive, entry_of as entry_of_choice, state_has_active, offer_of as offer_of_choice, IsEarned}
use Rattle.floor_lists.proofs.VcpuRefill.EarnedLemmas.{earned, both_deliverable}
use Rattle.floor_lists.proofs.VcpuRefill.StandLemmas.{from_filter_map}
use Rattle.gic_host.specs.declared.state.Virtual.{Virtual}
use Rattle.gic_host.specs.declared.state.Virtual.TheVariants.{Idle, Pending, Active}
use Rattle.gic_host.specs.declared.state.LinkState.{LinkState}
use Rattle.gic_host.specs.Link.{link_to, AreLinked}
use Rattle.std.proofs.lemmas.List.Elements.{Contains-get_or}
use Rattle.gic_host.specs.State.{is_pending, is_active, is_at, entry_of}
use Rattle.gic_host.specs.Text.{offer_of, offers_at}
use Rattle.gic_host.proofs.GoodLemmas.{AreGood, link_of, offer_from, link_found}

-- a virtual interrupt at an interface is pending or active
pub pending_or_active : (vcpu : ℕ) (l : LinkState) → is_at vcpu l ≡ true → (l.state ≡ Pending) ⊎ (l.state ≡ Active)
pending_or_active vcpu l h = of l.state refl (grind (arith, common_steps, h))
  where
    of : (s : Virtual) → l.state ≡ s → (is_pending l.state || is_active l.state) ≡ true → (l.state ≡ Pending) ⊎ (l.state ≡ Active)
    of Idle e live = absurd (false≢true (sym (ap (λ (v : Virtual). is_pending v || is_active v) e) ∙ live))
    of Pending e live = inl e
    of Active e live = inr e

-- the State that a list register has for it
abbrev pub state_for : LinkState → LrState
state_for l = if is_pending l.state then PendingState else ActiveState

-- a pending one is not active by the vCPU, and an active one is not deliverable, nor would it be
pub pending_not_active : (vcpu : ℕ) (l : LinkState) → l.state ≡ Pending → is_active_by vcpu (offer_of l) ≡ false
pending_not_active vcpu l e = rw e refl

active_not_deliverable : (vcpu : ℕ) (cpu : CpuRec) (shape : GuestShape) (l : LinkState) → l.state ≡ Active → is_deliverable_to vcpu cpu shape (offer_of l) ≡ false
active_not_deliverable vcpu cpu shape l e = rw e refl

active_not_again : (vcpu : ℕ) (cpu : CpuRec) (shape : GuestShape) (l : LinkState) → l.state ≡ Active → is_deliverable_once_inactive vcpu cpu shape (offer_of l) ≡ false
active_not_again vcpu cpu shape l e = rw e refl

-- a choice is of a link at the interface, with its State
pub record IsOf (ls : List LinkState) (vcpu : ℕ) (offers : List Offer) (choice : Choice) : Type 0 where
  pub l : LinkState
  pub among : Contains ls l
  pub at : is_at vcpu l ≡ true
  pub offered : Contains offers (offer_of l)
  pub is : choice ≡ chosen_as (state_for l) (offer_of l)

pub choice_is : (vcpus : ℕ) (ls : List LinkState) (good : AreGood vcpus ls) (offers : List Offer) (vcpu : ℕ) (cpu : CpuRec) (shape : GuestShape) (n : ℕ) (choice : Choice)
    → ((offer : Offer) → Contains offers offer → Contains (offers_at ls vcpu) offer) → Contains (plan offers vcpu cpu shape n).choice (Some choice) → IsOf ls vcpu offers choice
choice_is vcpus ls good offers vcpu cpu shape n choice sub has = from right.state
  where
    right : IsEarned offers vcpu cpu shape choice
    right = earned offers vcpu cpu shape n choice has

    found : (l : LinkState) × Contains ls l × (is_at vcpu l ≡ true) × (offer_of l ≡ offer_of_choice choice)
    found = offer_from vcpus ls good vcpu (offer_of_choice choice) (sub (offer_of_choice choice) right.offered)

    whole : (state : LrState) → choice.entry.state ≡ state → state_for found.0 ≡ state → IsOf ls vcpu offers choice
    whole state e f =
        record {
          l = found.0;
          among = found.1;
          at = found.2;
          offered = subst (Contains offers) (sym found.3) right.offered;
          is = right.whole ∙ ap (λ (s : LrState). chosen_as s (offer_of_choice choice)) (e ∙ sym f) ∙ ap (chosen_as (state_for found.0)) (sym found.3);
        }

    pending : found.0.state ≡ Pending → state_for found.0 ≡ PendingState
    pending e = rw e refl

    active : found.0.state ≡ Active → state_for found.0 ≡ ActiveState
    active e = rw e refl

    by_state : (state : LrState) → choice.entry.state ≡ state → IsTrue (state_has_active state) → found.0.state ≡ Active → IsOf ls vcpu offers choice
    by_state ActiveState e has_active is = whole ActiveState e (active is)
    by_state Both e has_active is =
        absurd (false≢true (sym (active_not_again vcpu cpu shape found.0 is) ∙ ap (is_deliverable_once_inactive vcpu cpu shape) found.3 ∙ both_deliverable offers vcpu cpu shape n choice has e))
    by_state state e has_active is = absurd (false≢true has_active)

    from : ((choice.entry.state ≡ PendingState) × IsTrue (is_deliverable_to vcpu cpu shape (offer_of_choice choice))) ⊎ (IsTrue (state_has_active choice.entry.state) × IsTrue (is_active_by vcpu (offer_of_choice choice))) → IsOf ls vcpu offers choice
    from (inl first) =
        elim (pending_or_active vcpu found.0 found.2) [
          | inl is ↦ whole PendingState first.0 (pending is)
          | inr is ↦ absurd (false≢true (sym (active_not_deliverable vcpu cpu shape found.0 is) ∙ ap (is_deliverable_to vcpu cpu shape) found.3 ∙ first.1))
        ]
    from (inr rest) =
        elim (pending_or_active vcpu found.0 found.2) [
          | inl is ↦ absurd (false≢true (sym (pending_not_active vcpu found.0 is) ∙ ap (is_active_by vcpu) found.3 ∙ rest.1))
          | inr is ↦ by_state choice.entry.state refl rest.0 is
        ]

-- it stands at the interface as the virtual interrupt does
pub same_entry : (vcpu : ℕ) (l : LinkState) → is_at vcpu l ≡ true → entry_of_choice (chosen_as (state_for l) (offer_of l)) ≡ entry_of l
same_entry vcpu l at = elim (pending_or_active vcpu l at) [ inl is ↦ rw is refl | inr is ↦ rw is refl ]

-- each that was chosen has its link
pub choices_linked : (vcpus : ℕ) (ls : List LinkState) (good : AreGood vcpus ls) (offers : List Offer) (vcpu : ℕ) (cpu : CpuRec) (shape : GuestShape) (n : ℕ)
    → ((offer : Offer) → Contains offers offer → Contains (offers_at ls vcpu) offer) → (fill : Fill) → fill.choice ≡ (plan offers vcpu cpu shape n).choice → AreLinked (map link_of ls) vcpu fill
choices_linked vcpus ls good offers vcpu cpu shape n sub fill same k d less =
    of (get_or fill.choice k d) (subst (λ (cs : List (Option Choice)). Contains cs (get_or fill.choice k d)) same (Contains-get_or fill.choice k d less))
  where
    of : (place : Option Choice) → Contains (plan offers vcpu cpu shape n).choice place → IfSome place (λ choice. IsSome (link_to (map link_of ls) vcpu choice.entry.id))
    of None has = tt
    of (Some choice) has =
        let it : IsOf ls vcpu offers choice = choice_is vcpus ls good offers vcpu cpu shape n choice sub has in
        subst IsSome (sym (ap (λ (c : Choice). link_to (map link_of ls) vcpu c.entry.id) it.is ∙ link_found vcpus ls good vcpu it.l it.among it.at)) refl

-- an entry of the part is that of a link
pub record IsPartOf (ls : List LinkState) (vcpu : ℕ) (offers : List Offer) (choices : List (Option Choice)) (entry : AtInterface) : Type 0 where
  pub choice : Choice
  pub placed : Contains choices (Some choice)
  pub of : IsOf ls vcpu offers choice
  pub is : entry ≡ entry_of of.l

pub part_is : (vcpus : ℕ) (ls : List LinkState) (good : AreGood vcpus ls) (offers : List Offer) (vcpu : ℕ) (cpu : CpuRec) (shape : GuestShape) (n : ℕ) (entry : AtInterface)
    → ((offer : Offer) → Contains offers offer → Contains (offers_at ls vcpu) offer) → Contains (filter_map (option_map entry_of_choice) (plan offers vcpu cpu shape n).choice) entry
    → IsPartOf ls vcpu offers (plan offers vcpu cpu shape n).choice entry
part_is vcpus ls good offers vcpu cpu shape n entry sub has =
    let found = from_filter_map (option_map entry_of_choice) (plan offers vcpu cpu shape n).choice entry has in
    from found.0 found.1 found.2
  where
    from : (o : Option Choice) → Contains (plan offers vcpu cpu shape n).choice o → option_map entry_of_choice o ≡ Some entry → IsPartOf ls vcpu offers (plan offers vcpu cpu shape n).choice entry
    from None there e = absurd (none-some entry e)
    from (Some choice) there e =
        let it : IsOf ls vcpu offers choice = choice_is vcpus ls good offers vcpu cpu shape n choice sub there in
        record {
          choice = choice;
          placed = there;
          of = it;
          is = sym (same_Some (entry_of_choice choice) entry e) ∙ ap entry_of_choice it.is ∙ same_entry vcpu it.l it.at;
        }

-- ---- candidates

-- a virtual interrupt is a candidate where it is deliverable
pub candidate_is : (vcpu : ℕ) (cpu : CpuRec) (shape : GuestShape) (l : LinkState) → is_at vcpu l ≡ true
    → candidate_at cpu (entry_of l) ≡ (if is_deliverable_to vcpu cpu shape (offer_of l) then Some (candidate_of (offer_of l)) else None)
candidate_is vcpu cpu shape l at = elim (pending_or_active vcpu l at) [ inl is ↦ of is (grind (arith, common_steps, at)) | inr is ↦ rw is refl ]
  where
    of : l.state ≡ Pending → eqb l.link.vcpu vcpu ≡ true → candidate_at cpu (entry_of l) ≡ (if is_deliverable_to vcpu cpu shape (offer_of l) then Some (candidate_of (offer_of l)) else None)
    of is same = rw (is, same) (enabled cpu.en1)
      where
        enabled : (b : Bool) → (if b then Some (candidate_of (offer_of l)) else None) ≡ (if b && true then Some (candidate_of (offer_of l)) else None)
        enabled true = refl
        enabled false = refl

-- the candidates of an interface are the deliverable interrupts that are offered
pub candidates_are : (ls : List LinkState) (vcpu : ℕ) (cpu : CpuRec) (shape : GuestShape) → filter_map (candidate_at cpu) (map entry_of (filter (is_at vcpu) ls)) ≡ map candidate_of (filter (is_deliverable_to vcpu cpu shape) (offers_at ls vcpu))
candidates_are [] vcpu cpu shape = refl
candidates_are (l ∷ ls) vcpu cpu shape = of (is_at vcpu l) refl (candidates_are ls vcpu cpu shape)
  where
    lives : List LinkState
    lives = filter (is_at vcpu) ls

    by : (b : Bool) (o : Option Candidate) → o ≡ (if b then Some (candidate_of (offer_of l)) else None) → (xs : List Candidate) (ys : List Offer) → xs ≡ map candidate_of ys → cons_option o xs ≡ map candidate_of (cond b (offer_of l ∷ ys) ys)
    by true o e xs ys f = rw e (ap (λ (rest : List Candidate). candidate_of (offer_of l) ∷ rest) f)
    by false o e xs ys f = rw e f

    of : (b : Bool) → is_at vcpu l ≡ b → filter_map (candidate_at cpu) (map entry_of (filter (is_at vcpu) ls)) ≡ map candidate_of (filter (is_deliverable_to vcpu cpu shape) (offers_at ls vcpu))
        → filter_map (candidate_at cpu) (map entry_of (cond b (l ∷ filter (is_at vcpu) ls) (filter (is_at vcpu) ls))) ≡ map candidate_of (filter (is_deliverable_to vcpu cpu shape) (map offer_of (cond b (l ∷ filter (is_at vcpu) ls) (filter (is_at vcpu) ls))))
    of true at rest =
        by (is_deliverable_to vcpu cpu shape (offer_of l)) (candidate_at cpu (entry_of l)) (candidate_is vcpu cpu shape l at) (filter_map (candidate_at cpu) (map entry_of (filter (is_at vcpu) ls))) (filter (is_deliverable_to vcpu cpu shape) (offers_at ls vcpu)) rest
    of false at rest = rest
