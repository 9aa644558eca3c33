-- An interrupt for which an access waits is wanted by an actor, whatever step is made.
use Rattle.std.proofs.Common.{◌≡◌, ◌≢◌, ℕ, ◌||◌, ◌⊎◌, inl, inr, not, true≢false, Bool, true, false, IsTrue, List, [], ◌∷◌, filter, Option, Some, None, is_none, unwrap_or, if◌then◌else◌, refl, sym, ap, ◌∙◌, subst}
use Rattle.std.specs.Option.{option_map_or}
use Rattle.std.proofs.lemmas.Bool.{cases_Bool}
use Rattle.law_registers_stand.specs.Words.{Key, GuestShape, is_same_key, cleared, Irq as IrqRecord, irq_of}
use Rattle.law_registers_stand.proofs.GicBase.KeyLemmas.{same_key, same_itself}
use Rattle.law_registers_stand.specs.Calls.{Touching, Moved, reached, taken}
use Rattle.law_registers_stand.specs.Core.{vcpu_of, AtIrq, Local, CoreStep, Look, Raise, Claim, GiveBack, Release, Poll, Touch, Want, WireUp, WireDown, Irq, succeeds, moved_of, claimed_irq, entry_for, CoreState, seat_at, word_of, Progress, after_claim, after_poll, begun, Scan, claiming, has_key}
use Rattle.law_registers_stand.specs.Histories.{Ideal}
use Rattle.law_registers_stand.specs.Registers.{Maps}
use Rattle.law_registers_stand.specs.CoreProper.Progress.{changed_by}
use Rattle.law_registers_stand.proofs.LawCoreIsHistory.StepContext.{IsStep}
use Rattle.law_scans_miss_none.proofs.TellSteps.{raised_word, up_word, down_word, claim_word, claim_missed, give_back_word, release_word, touch_word, touch_missed}

-- Words.

-- an interrupt that a claim moved is wanted as it was
claimed_want : (vcpu : ℕ) (local : Local) (key : Key) (irq : IrqRecord) → (claimed_irq vcpu local key irq).want ≡ irq.want
claimed_want vcpu local key irq = of (entry_for key local.at)
  where
    pending : Moved
    pending = record { irq = cleared irq; entry = record { pending = true; active = false; rise = irq.rise; soft = irq.soft } }

    active : Moved
    active = record { irq = irq; entry = record { pending = false; active = true; rise = false; soft = false } }

    reached_want : (b : Bool) → (if b then pending else active).irq.want ≡ irq.want
    reached_want true = refl
    reached_want false = refl

    of : (o : Option AtIrq) → (option_map_or (λ entry. taken (moved_of irq entry)) o (record (reached irq) { irq = record (reached irq).irq { holder = Some vcpu } })).irq.want ≡ irq.want
    of None = reached_want (is_none irq.act_by)
    of (Some entry) = refl

-- a touch of an interrupt
abbrev pub is_touch_of : Key → CoreStep → Bool
is_touch_of key (Touch k seen kind) = is_same_key k key
is_touch_of key step = false

irq_key : (j k : Key) → Irq j ≡ Irq k → j ≡ k
irq_key j k e = cc

module _ {shape : GuestShape} {state : CoreState} {ideal : Ideal} {actor found left : ℕ} {tables : Option Maps} where
  -- an access that waits for the interrupt of a step after it waited before, or the step asks for it
  pub wanted_on : (step : CoreStep) (is : IsStep shape state ideal actor step found left tables) (key : Key) → word_of shape actor step ≡ Irq key → (irq_of left).want ≡ true → ((irq_of found).want ≡ true) ⊎ (step ≡ Want key)
  wanted_on (Look word) is key on h = inl (ap (λ n. (irq_of n).want) (sym is.takes.left) ∙ h)
  wanted_on (Raise k) is key on h = inl (ap (λ (i : IrqRecord). i.want) (sym (raised_word k is)) ∙ h)
  wanted_on (WireUp k) is key on h = inl (ap (λ (i : IrqRecord). i.want) (sym (up_word k is)) ∙ h)
  wanted_on (WireDown k) is key on h = inl (ap (λ (i : IrqRecord). i.want) (sym (down_word k is)) ∙ h)
  wanted_on (Claim k seen) is key on h = of (succeeds shape actor (seat_at state actor).local (Claim k seen) found) refl
    where
      of : (b : Bool) → succeeds shape actor (seat_at state actor).local (Claim k seen) found ≡ b → ((irq_of found).want ≡ true) ⊎ (Claim k seen ≡ Want key)
      of true e = inl (sym (claimed_want actor (seat_at state actor).local k (irq_of found)) ∙ ap (λ (i : IrqRecord). i.want) (sym (claim_word k seen is e)) ∙ h)
      of false e = inl (ap (λ n. (irq_of n).want) (sym (claim_missed k seen is e)) ∙ h)
  wanted_on (GiveBack k back) is key on h = inl (ap (λ (i : IrqRecord). i.want) (sym (give_back_word k back is)) ∙ h)
  wanted_on (Release k) is key on h = inl (ap (λ (i : IrqRecord). i.want) (sym (release_word k is)) ∙ h)
  wanted_on (Touch k seen kind) is key on h = of (succeeds shape actor (seat_at state actor).local (Touch k seen kind) found) refl
    where
      of : (b : Bool) → succeeds shape actor (seat_at state actor).local (Touch k seen kind) found ≡ b → ((irq_of found).want ≡ true) ⊎ (Touch k seen kind ≡ Want key)
      of true e = absurd (true≢false (sym h ∙ ap (λ (i : IrqRecord). i.want) (touch_word k seen kind is e)))
      of false e = inl (ap (λ n. (irq_of n).want) (sym (touch_missed k seen kind is e)) ∙ h)
  wanted_on (Want k) is key on h = inr (ap Want (irq_key k key on))
  wanted_on step is key on h = absurd (cc)

  -- a touch that is made leaves no access that waits
  pub touch_ends : (k : Key) (seen : ℕ) (kind : Touching) (is : IsStep shape state ideal actor (Touch k seen kind) found left tables) → (irq_of left).want ≡ true → succeeds shape actor (seat_at state actor).local (Touch k seen kind) found ≡ false
  touch_ends k seen kind is h = of (succeeds shape actor (seat_at state actor).local (Touch k seen kind) found) refl
    where
      of : (b : Bool) → succeeds shape actor (seat_at state actor).local (Touch k seen kind) found ≡ b → succeeds shape actor (seat_at state actor).local (Touch k seen kind) found ≡ false
      of true e = absurd (true≢false (sym h ∙ ap (λ (i : IrqRecord). i.want) (touch_word k seen kind is e)))
      of false e = e

-- What an actor wants.

-- one of some is still among them without another
still_wanted : (key k : Key) (wants : List Key) → key ≢ k → IsTrue (has_key key wants) → IsTrue (has_key key (filter (λ other. not (is_same_key k other)) wants))
still_wanted key k [] differ h = h
still_wanted key k (first ∷ rest) differ h = of (is_same_key k first) refl (is_same_key key first) refl h (still_wanted key k rest differ)
  where
    of :
        (b : Bool) → is_same_key k first ≡ b → (c : Bool) → is_same_key key first ≡ c → IsTrue (c || has_key key rest) → (IsTrue (has_key key rest) → IsTrue (has_key key (filter (λ other. not (is_same_key k other)) rest)))
        → IsTrue (has_key key (if not b then first ∷ filter (λ other. not (is_same_key k other)) rest else filter (λ other. not (is_same_key k other)) rest))
    of true e true f h later = absurd (differ (same_key key first f ∙ sym (same_key k first e)))
    of true e false f h later = later h
    of false e true f h later = ap (λ c. c || has_key key (filter (λ other. not (is_same_key k other)) rest)) f
    of false e false f h later = ap (λ c. c || has_key key (filter (λ other. not (is_same_key k other)) rest)) f ∙ later h

-- a step leaves what its actor wants, but for an interrupt that it touches; and it may want one more
pub wants_kept : (shape : GuestShape) (actor : ℕ) (step : CoreStep) (found : ℕ) (done : Bool) (p : Progress) (key : Key) → (IsTrue (is_touch_of key step) → done ≡ false) → IsTrue (has_key key p.wants) → IsTrue (has_key key (changed_by shape actor step found done p).wants)
wants_kept shape actor (Claim k seen) found done p key still h = of p.scan
  where
    of : (scan : Scan) → IsTrue (has_key key (after_claim k (irq_of found) done scan p).wants)
    of (claiming claims takes) = h
    of scan = h
wants_kept shape actor (Poll None write) found done p key still h = of (unwrap_or p.far false)
  where
    of : (b : Bool) → IsTrue (has_key key (begun b p).wants)
    of true = h
    of false = h
wants_kept shape actor (Poll (Some reg) write) found done p key still h = of (vcpu_of found).kick
  where
    of : (b : Bool) → IsTrue (has_key key (after_poll (Some reg) write b p).wants)
    of true = h
    of false = h
wants_kept shape actor (Touch k seen kind) found done p key still h = elim (cases_Bool (is_same_key k key)) [
  | inl same ↦ subst (λ b. IsTrue (has_key key (if b then filter (λ other. not (is_same_key k other)) p.wants else p.wants))) (sym (still same)) h
  | inr differ ↦ of done (λ e. true≢false (sym (subst (λ j. is_same_key k j ≡ true) (sym e) (same_itself k)) ∙ differ))
]
  where
    of : (b : Bool) → (key ≢ k) → IsTrue (has_key key (if b then filter (λ other. not (is_same_key k other)) p.wants else p.wants))
    of true apart = still_wanted key k p.wants apart h
    of false apart = h
wants_kept shape actor (Want k) found done p key still h = of (is_same_key key k)
  where
    of : (b : Bool) → IsTrue (b || has_key key p.wants)
    of true = refl
    of false = h
wants_kept shape actor (Look (Irq k)) found done p key still h = h
wants_kept shape actor step found done p key still h = h

-- a step that is a touch of an interrupt
pub record IsTouch (key : Key) (step : CoreStep) : Type 0 where
  pub seen : ℕ
  pub kind : Touching
  pub is : step ≡ Touch key seen kind

pub as_touch : (key : Key) (step : CoreStep) → IsTrue (is_touch_of key step) → IsTouch key step
as_touch key (Touch k seen kind) h = record { seen = seen; kind = kind; is = ap (λ j. Touch j seen kind) (same_key k key h) }
as_touch key step h = absurd (true≢false (sym h))
