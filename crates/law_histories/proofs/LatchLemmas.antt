-- What the latched causes of an interrupt are beside the numbers of its events, and how that goes on.
use Rattle.std.proofs.Common.{◌≡◌, ◌≢◌, ℕ, ◌+◌, ◌≤◌, ◌&&◌, ◌||◌, Bool, true, false, cond, List, [], ◌∷◌, nat_lt, refl, sym, ap, ◌∙◌, subst, arith}
use Rattle.std.proofs.lemmas.Bool.{lt-ltb, le-ltb}
use Rattle.floor_histories.specs.Words.{Key, Irq}
use Rattle.floor_histories.specs.Calls.{Entry, is_lpi}
use Rattle.floor_histories.specs.Histories.{Standing}
use Rattle.law_histories.specs.Latches.{Latch}
use Rattle.law_histories.proofs.StandLemmas.{standing_of_key}

abbrev pub causes_of : Irq → Bool
causes_of irq = irq.rise || irq.soft

abbrev pub entry_causes : Entry → Bool
entry_causes entry = entry.rise || entry.soft

-- pending at an interface: it brought a cause, and the record has those that came since
pub record IsOffered (irq : Irq) (entry : Entry) (latch : Latch) : Type 0 where
  pub has : entry_causes entry ≡ true
  pub record_is : causes_of irq ≡ nat_lt latch.offer latch.cause
  pub came : nat_lt latch.spent latch.cause ≡ true

-- not pending there: the record has all
pub record IsIdle (irq : Irq) (entry : Entry) (latch : Latch) : Type 0 where
  pub no_rise : entry.rise ≡ false
  pub no_soft : entry.soft ≡ false
  pub record_is : causes_of irq ≡ nat_lt latch.spent latch.cause

abbrev pub IsEntryLatched : Bool → Irq → Entry → Latch → Type 0
IsEntryLatched true irq entry latch = IsOffered irq entry latch
IsEntryLatched false irq entry latch = IsIdle irq entry latch

-- at one interface, with this there
pub record IsStanding (key : Key) (at : ℕ → List Standing) (irq : Irq) (latch : Latch) : Type 0 where
  pub vcpu : ℕ
  pub entry : Entry
  pub here : at vcpu ≡ standing_of_key key entry ∷ []
  pub elsewhere : (other : ℕ) → other ≢ vcpu → at other ≡ []
  pub lpi : is_lpi key ≡ true → entry.rise ≡ false
  pub latched : IsEntryLatched entry.pending irq entry latch

-- at none
pub record IsAway (at : ℕ → List Standing) (irq : Irq) (latch : Latch) : Type 0 where
  pub nowhere : (vcpu : ℕ) → at vcpu ≡ []
  pub record_is : causes_of irq ≡ nat_lt latch.spent latch.cause

pub data IsLatched (key : Key) (at : ℕ → List Standing) (irq : Irq) (latch : Latch) : Type 0 where
  away : IsAway at irq latch → IsLatched key at irq latch
  stands : IsStanding key at irq latch → IsLatched key at irq latch

pub record AreInOrder (latch : Latch) : Type 0 where
  pub cause : latch.cause ≤ latch.now
  pub offer : latch.offer ≤ latch.now
  pub spent : latch.spent ≤ latch.now

pub record IsTracked (key : Key) (at : ℕ → List Standing) (irq : Irq) (latch : Latch) : Type 0 where
  pub order : AreInOrder latch
  pub lpi : is_lpi key ≡ true → irq.rise ≡ false
  pub latched : IsLatched key at irq latch

-- One event further: it brought a cause, offered the interrupt, cleared its causes, or acknowledged it, or did not.

abbrev pub latch_by : Bool → Bool → Bool → Bool → Latch → Latch
latch_by brings offers clears acks latch =
    record {
      now = latch.now + 1;
      cause = cond brings (latch.now + 1) latch.cause;
      offer = cond offers (latch.now + 1) latch.offer;
      spent = cond clears (latch.now + 1) (cond acks latch.offer latch.spent);
    }

later_if : (b : Bool) (m n : ℕ) → m ≤ n → cond b (n + 1) m ≤ n + 1
later_if true m n l = omega arith
later_if false m n l = omega (arith, l)

earlier_if : (b : Bool) (m k n : ℕ) → m ≤ n → k ≤ n → cond b k m ≤ n
earlier_if true m k n l h = h
earlier_if false m k n l h = l

order_by : (b o c a : Bool) (latch : Latch) → AreInOrder latch → AreInOrder (latch_by b o c a latch)
order_by b o c a latch order = record {
  cause = later_if b latch.cause latch.now order.cause;
  offer = later_if o latch.offer latch.now order.offer;
  spent = later_if c (cond a latch.offer latch.spent) latch.now (earlier_if a latch.spent latch.offer latch.now order.spent order.offer);
}

module _ (key : Key) (at : ℕ → List Standing) (irq : Irq) (latch : Latch) (is : IsTracked key at irq latch) where
  sooner : (n : ℕ) → n ≤ latch.now → nat_lt n (latch.now + 1) ≡ true
  sooner n l = lt-ltb n (latch.now + 1) (omega (arith, l))

  not_later : (n : ℕ) → n ≤ latch.now → nat_lt (latch.now + 1) n ≡ false
  not_later n l = le-ltb (latch.now + 1) n (omega (arith, l))

  -- nothing of it changed
  module _ (at' : ℕ → List Standing) (irq' : Irq) (same : (vcpu : ℕ) → at' vcpu ≡ at vcpu) (rise : irq'.rise ≡ irq.rise) (soft : irq'.soft ≡ irq.soft) where
    causes_same : causes_of irq' ≡ causes_of irq
    causes_same = ap (λ b. b || irq'.soft) rise ∙ ap (λ b. irq.rise || b) soft

    entry_same : (b : Bool) (entry : Entry) → IsEntryLatched b irq entry latch → IsEntryLatched b irq' entry (latch_by false false false false latch)
    entry_same true entry e = record { has = e.has; record_is = causes_same ∙ e.record_is; came = e.came }
    entry_same false entry e = record { no_rise = e.no_rise; no_soft = e.no_soft; record_is = causes_same ∙ e.record_is }

    pub unchanged : IsTracked key at' irq' (latch_by false false false false latch)
    unchanged = record { order = order_by false false false false latch is.order; lpi = λ h. rise ∙ is.lpi h; latched = of is.latched }
      where
        of : IsLatched key at irq latch → IsLatched key at' irq' (latch_by false false false false latch)
        of (away a) = away (record { nowhere = λ vcpu. same vcpu ∙ a.nowhere vcpu; record_is = causes_same ∙ a.record_is })
        of (stands s) = stands (record { vcpu = s.vcpu; entry = s.entry; here = same s.vcpu ∙ s.here; elsewhere = λ other differ. same other ∙ s.elsewhere other differ; lpi = s.lpi; latched = entry_same s.entry.pending s.entry s.latched })

  -- a cause came
  module _ (at' : ℕ → List Standing) (irq' : Irq) (same : (vcpu : ℕ) → at' vcpu ≡ at vcpu) (came : causes_of irq' ≡ true) (lpi : is_lpi key ≡ true → irq'.rise ≡ false) where
    entry_came : (b : Bool) (entry : Entry) → IsEntryLatched b irq entry latch → IsEntryLatched b irq' entry (latch_by true false false false latch)
    entry_came true entry e = record { has = e.has; record_is = came ∙ sym (sooner latch.offer is.order.offer); came = sooner latch.spent is.order.spent }
    entry_came false entry e = record { no_rise = e.no_rise; no_soft = e.no_soft; record_is = came ∙ sym (sooner latch.spent is.order.spent) }

    pub caused : IsTracked key at' irq' (latch_by true false false false latch)
    caused = record { order = order_by true false false false latch is.order; lpi = lpi; latched = of is.latched }
      where
        of : IsLatched key at irq latch → IsLatched key at' irq' (latch_by true false false false latch)
        of (away a) = away (record { nowhere = λ vcpu. same vcpu ∙ a.nowhere vcpu; record_is = came ∙ sym (sooner latch.spent is.order.spent) })
        of (stands s) = stands (record { vcpu = s.vcpu; entry = s.entry; here = same s.vcpu ∙ s.here; elsewhere = λ other differ. same other ∙ s.elsewhere other differ; lpi = s.lpi; latched = entry_came s.entry.pending s.entry s.latched })

  -- they were cleared, at home
  pub cleared_now : (at' : ℕ → List Standing) (irq' : Irq) → ((vcpu : ℕ) → at' vcpu ≡ []) → irq'.rise ≡ false → irq'.soft ≡ false → IsTracked key at' irq' (latch_by false false true false latch)
  cleared_now at' irq' nowhere rise soft = record {
    order = order_by false false true false latch is.order;
    lpi = λ h. rise;
    latched = away (record { nowhere = nowhere; record_is = ap (λ b. b || irq'.soft) rise ∙ soft ∙ sym (not_later latch.cause is.order.cause) });
  }

  -- it is offered with its causes, which the record loses
  pub offered_now :
      (at' : ℕ → List Standing) (irq' : Irq) (vcpu : ℕ) (entry : Entry) → at' vcpu ≡ standing_of_key key entry ∷ [] → ((other : ℕ) → other ≢ vcpu → at' other ≡ []) → entry.pending ≡ true → entry.rise ≡ irq.rise → entry_causes entry ≡ true
      → irq'.rise ≡ false → irq'.soft ≡ false → nat_lt latch.spent latch.cause ≡ true → IsTracked key at' irq' (latch_by false true false false latch)
  offered_now at' irq' vcpu entry here elsewhere pending from has rise soft came = record {
    order = order_by false true false false latch is.order;
    lpi = λ h. rise;
    latched = stands (record {
      vcpu = vcpu;
      entry = entry;
      here = here;
      elsewhere = elsewhere;
      lpi = λ h. from ∙ is.lpi h;
      latched = subst (λ b. IsEntryLatched b irq' entry (latch_by false true false false latch)) (sym pending) (record { has = has; record_is = ap (λ b. b || irq'.soft) rise ∙ soft ∙ sym (not_later latch.cause is.order.cause); came = came });
    });
  }

  -- it gets there with none
  pub idle_now :
      (offers : Bool) (at' : ℕ → List Standing) (irq' : Irq) (vcpu : ℕ) (entry : Entry) → at' vcpu ≡ standing_of_key key entry ∷ [] → ((other : ℕ) → other ≢ vcpu → at' other ≡ []) → entry.pending ≡ false → entry.rise ≡ false → entry.soft ≡ false
      → irq'.rise ≡ irq.rise → irq'.soft ≡ irq.soft → causes_of irq ≡ nat_lt latch.spent latch.cause → IsTracked key at' irq' (latch_by false offers false false latch)
  idle_now offers at' irq' vcpu entry here elsewhere pending no_rise no_soft rise soft record_is = record {
    order = order_by false offers false false latch is.order;
    lpi = λ h. rise ∙ is.lpi h;
    latched = stands (record {
      vcpu = vcpu;
      entry = entry;
      here = here;
      elsewhere = elsewhere;
      lpi = λ h. no_rise;
      latched = subst (λ b. IsEntryLatched b irq' entry (latch_by false offers false false latch)) (sym pending) (record { no_rise = no_rise; no_soft = no_soft; record_is = ap (λ b. b || irq'.soft) rise ∙ ap (λ b. irq.rise || b) soft ∙ record_is });
    });
  }

  -- it leaves, and the record gets them back
  pub left_now : (s : IsStanding key at irq latch) (at' : ℕ → List Standing) (irq' : Irq) → ((vcpu : ℕ) → at' vcpu ≡ []) → irq'.rise ≡ (irq.rise || s.entry.rise) → irq'.soft ≡ (irq.soft || s.entry.soft) → IsTracked key at' irq' (latch_by false false false false latch)
  left_now s at' irq' nowhere rise soft = record {
    order = order_by false false false false latch is.order;
    lpi = λ h. rise ∙ ap (λ b. b || s.entry.rise) (is.lpi h) ∙ s.lpi h;
    latched = away (record { nowhere = nowhere; record_is = ap (λ b. b || irq'.soft) rise ∙ ap (λ b. irq.rise || s.entry.rise || b) soft ∙ of s.entry.pending s.latched });
  }
    where
      some : (a b c d : Bool) → (b || d) ≡ true → (a || b || (c || d)) ≡ true
      some true b c d h = refl
      some false true c d h = refl
      some false false true d h = refl
      some false false false d h = h

      of : (b : Bool) → IsEntryLatched b irq s.entry latch → (irq.rise || s.entry.rise || (irq.soft || s.entry.soft)) ≡ nat_lt latch.spent latch.cause
      of true e = some irq.rise s.entry.rise irq.soft s.entry.soft e.has ∙ sym e.came
      of false e = none irq.rise s.entry.rise irq.soft s.entry.soft e.no_rise e.no_soft ∙ e.record_is
        where
          none : (a b c d : Bool) → b ≡ false → d ≡ false → (a || b || (c || d)) ≡ (a || c)
          none true b c d h k = refl
          none false b true d h k = ap (λ x. x || true) h
          none false b false d h k = ap (λ x. x || d) h ∙ k

  -- an access at its interface: it is acknowledged where it is pending, or its entry keeps what it brought
  pub accessed_now :
      (s : IsStanding key at irq latch) (answered : Bool) (at' : ℕ → List Standing) (irq' : Irq) (entry : Entry) → at' s.vcpu ≡ standing_of_key key entry ∷ [] → ((other : ℕ) → other ≢ s.vcpu → at' other ≡ []) → irq'.rise ≡ irq.rise → irq'.soft ≡ irq.soft
      → entry.pending ≡ cond answered false s.entry.pending → entry.rise ≡ cond answered false s.entry.rise → entry.soft ≡ cond answered false s.entry.soft → IsTracked key at' irq' (latch_by false false false (answered && s.entry.pending) latch)
  accessed_now s answered at' irq' entry here elsewhere rise soft pending no_rise no_soft = record {
    order = order_by false false false (answered && s.entry.pending) latch is.order;
    lpi = λ h. rise ∙ is.lpi h;
    latched = stands (record {
      vcpu = s.vcpu;
      entry = entry;
      here = here;
      elsewhere = elsewhere;
      lpi = λ h. no_rise ∙ kept_false answered s.entry.rise (s.lpi h);
      latched = subst (λ b. IsEntryLatched b irq' entry (latch_by false false false (answered && s.entry.pending) latch)) (sym pending) (of answered s.entry.pending s.latched no_rise no_soft);
    });
  }
    where
      kept_false : (b c : Bool) → c ≡ false → cond b false c ≡ false
      kept_false true c h = refl
      kept_false false c h = h

      causes_kept : causes_of irq' ≡ causes_of irq
      causes_kept = ap (λ b. b || irq'.soft) rise ∙ ap (λ b. irq.rise || b) soft

      of : (answered b : Bool) → IsEntryLatched b irq s.entry latch → entry.rise ≡ cond answered false s.entry.rise → entry.soft ≡ cond answered false s.entry.soft → IsEntryLatched (cond answered false b) irq' entry (latch_by false false false (answered && b) latch)
      of true true e r f = record { no_rise = r; no_soft = f; record_is = causes_kept ∙ e.record_is }
      of true false e r f = record { no_rise = r; no_soft = f; record_is = causes_kept ∙ e.record_is }
      of false true e r f = record { has = ap (λ b. b || entry.soft) r ∙ ap (λ b. s.entry.rise || b) f ∙ e.has; record_is = causes_kept ∙ e.record_is; came = e.came }
      of false false e r f = record { no_rise = r ∙ e.no_rise; no_soft = f ∙ e.no_soft; record_is = causes_kept ∙ e.record_is }
