-- What a vCPU's list registers show while it claims what it chose: what is still to be claimed or taken stands there already.
use Rattle.std.proofs.Common.{◌≡◌, ◌≢◌, ℕ, ◌⊎◌, inl, inr, Bool, true, false, cond, if◌then◌else◌, IsTrue, List, [], ◌∷◌, ◌++◌, Contains, Option, Some, None, is_none, is_some, refl, sym, ap, subst, ◌∙◌, arith}
use Rattle.std.proofs.lemmas.Bool.{ne_eqb}
use Rattle.law_core_is_history.specs.Words.{Key, GuestShape, has_interrupt, intid_of, is_of_vcpu, is_same_key, IsShape, is_number, irq_of}
use Rattle.law_core_is_history.proofs.GicBase.KeyLemmas.{same_itself}
use Rattle.law_core_is_history.specs.Lists.{IchRegs, Seen, seen_of, HoldCpu, listed_of, Pending, state_has_active, Choice, entry_of}
use Rattle.law_core_is_history.proofs.VcpuRefill.ElementLemmas.{Contains-cases}
use Rattle.law_core_is_history.specs.Core.{AtIrq, Local, Made, WordId, Irq, shown, known, entry_for, is_at, has_word, word_of, has_key, is_both}
use Rattle.law_core_is_history.proofs.PortCore.PlaceLemmas.{word_same}
use Rattle.law_core_is_history.proofs.CoreProper.IntidLemmas.{in_range, same_by_id}
use Rattle.law_core_is_history.proofs.KnownSteps.{known_more}
use Rattle.law_registers_stand.proofs.KeyLemmas.{keys_of}
use Rattle.law_registers_stand.proofs.ShowLemmas.{Shows}

-- a choice as it stands once it is claimed, and its causes taken
abbrev pub seen_choice : Choice → Seen
seen_choice choice = seen_of (entry_of choice)

-- an interrupt at the interface as it stands once its causes are taken, where they are to be taken
abbrev pub finished : List Key → AtIrq → Seen
finished takes at = if has_key at.key takes then record (seen_of (shown at)) { pending = true } else seen_of (shown at)

-- what is to be seen: a choice that is still to be claimed, or an interrupt at the interface
pub record IsAwaited (rest : List Choice) (s : Seen) : Type 0 where
  pub choice : Choice
  pub among : Contains rest choice
  pub is : seen_choice choice ≡ s

pub record IsHere (takes : List Key) (at : List AtIrq) (s : Seen) : Type 0 where
  pub entry : AtIrq
  pub among : Contains at entry
  pub is : finished takes entry ≡ s

abbrev pub Comes : List Choice → List Key → List AtIrq → Seen → Type 0
Comes rest takes at s = IsAwaited rest s ⊎ IsHere takes at s

-- the vCPU may have the choice with its State: 1 where its interrupt is inactive, 2 or 3 where it is active by the vCPU
abbrev pub IsRight : ℕ → Choice → Type 0
IsRight vcpu choice = ((choice.entry.state ≡ Pending) × (is_none choice.irq.act_by ≡ true)) ⊎ (IsTrue (state_has_active choice.entry.state) × IsTrue (is_number vcpu choice.irq.act_by))

-- a choice that is still to be claimed: the vCPU knows the word of its interrupt, which is not at its interface
pub record IsToClaim (shape : GuestShape) (vcpu : ℕ) (own : List Made) (at : List AtIrq) (takes : List Key) (choice : Choice) : Type 0 where
  pub there : IsTrue (has_interrupt shape choice.key)
  pub mine : IsTrue (is_of_vcpu vcpu choice.key)
  pub word : ℕ
  pub known_as : known shape vcpu own (Irq choice.key) ≡ Some word
  pub irq : irq_of word ≡ choice.irq
  pub right : IsRight vcpu choice
  pub away : is_at choice.key at ≡ false
  pub both : has_key choice.key takes ≡ is_both choice.entry.state

-- a vCPU claims what it chose
pub record IsClaiming (shape : GuestShape) (vcpu : ℕ) (local : Local) (own : List Made) (regs : IchRegs) (claims takes : List Key) : Type 0 where
  pub rest : List Choice
  pub keys : claims ≡ keys_of rest
  pub each : (choice : Choice) → Contains rest choice → IsToClaim shape vcpu own local.at takes choice
  pub one : (c d : Choice) → Contains rest c → Contains rest d → c.key ≡ d.key → c ≡ d
  pub holds : HoldCpu regs local.cpu
  pub shows : Shows (listed_of regs) (Comes rest takes local.at)
  pub placed : (key : Key) → has_key key takes ≡ true → (has_key key claims ≡ true) ⊎ (is_at key local.at ≡ true)
  pub coming : (entry : AtIrq) → Contains local.at entry → has_key entry.key takes ≡ true → (entry.active ≡ true) × (entry.pending ≡ false)

-- INTIDs of what is to be seen.

pub finished_id : (takes : List Key) (entry : AtIrq) → (finished takes entry).id ≡ intid_of entry.key
finished_id takes entry = of (has_key entry.key takes)
  where
    of : (b : Bool) → (if b then record (seen_of (shown entry)) { pending = true } else seen_of (shown entry)).id ≡ intid_of entry.key
    of true = refl
    of false = refl

-- two interrupts that a vCPU can have at its interface have two INTIDs
pub key_by_id : (shape : GuestShape) (vcpu : ℕ) (j k : Key) → IsShape shape → IsTrue (has_interrupt shape j) → IsTrue (has_interrupt shape k) → IsTrue (is_of_vcpu vcpu j) → IsTrue (is_of_vcpu vcpu k) → intid_of j ≡ intid_of k → j ≡ k
key_by_id shape vcpu j k good there too mine own e = same_by_id vcpu j k (in_range shape j good there) (in_range shape k good too) mine own e

-- Interrupts at the interface.

pub is_there : (at : List AtIrq) (entry : AtIrq) → Contains at entry → is_at entry.key at ≡ true
is_there [] entry (k, within, is) = absurd (omega (arith, within))
is_there (one ∷ at) entry has = elim (Contains-cases one entry at has) [
  | inl same ↦ ap (λ b. is_some (cond b (Some one) (entry_for entry.key at))) (ap (λ (x : AtIrq). is_same_key x.key entry.key) same ∙ same_itself entry.key)
  | inr later ↦ of (is_same_key one.key entry.key) (is_there at entry later)
]
  where
    of : (b : Bool) → is_at entry.key at ≡ true → is_some (cond b (Some one) (entry_for entry.key at)) ≡ true
    of true e = refl
    of false e = e

pub none_some : {X : Type 0} (o : Option X) → is_some o ≡ false → o ≡ None
none_some None e = refl
none_some (Some x) e = absurd (cc)

-- What a vCPU knows of other words stays.

pub known_on : (shape : GuestShape) (actor : ℕ) (own : List Made) (made : Made) (word : WordId) → IsShape shape → IsTrue (has_word shape (word_of shape actor made.step)) → IsTrue (has_word shape word) → word_of shape actor made.step ≢ word
    → known shape actor (own ++ made ∷ []) word ≡ known shape actor own word
known_on shape actor own made word good there too apart =
    known_more shape actor own made word
    ∙ ap (λ b. if b then Some made.left else known shape actor own word) (ne_eqb _ _ (λ e. apart (word_same shape (word_of shape actor made.step) word good there too e)))

-- a choice that is still to be claimed stays so
pub to_claim_on : (shape : GuestShape) (vcpu : ℕ) (own now : List Made) (at after : List AtIrq) (takes left : List Key) (choice : Choice) → known shape vcpu now (Irq choice.key) ≡ known shape vcpu own (Irq choice.key) → is_at choice.key after ≡ is_at choice.key at → has_key choice.key left ≡ has_key choice.key takes
    → IsToClaim shape vcpu own at takes choice → IsToClaim shape vcpu now after left choice
to_claim_on shape vcpu own now at after takes left choice knows there both to = record {
  there = to.there;
  mine = to.mine;
  word = to.word;
  known_as = knows ∙ to.known_as;
  irq = to.irq;
  right = to.right;
  away = there ∙ to.away;
  both = both ∙ to.both;
}

-- a step on no interrupt's word leaves what is to be claimed and taken
pub claiming_on : (shape : GuestShape) (vcpu : ℕ) (local after : Local) (own now : List Made) (regs : IchRegs) (claims takes : List Key) → after.at ≡ local.at → after.cpu ≡ local.cpu → ((key : Key) → IsTrue (has_interrupt shape key) → known shape vcpu now (Irq key) ≡ known shape vcpu own (Irq key))
    → IsClaiming shape vcpu local own regs claims takes → IsClaiming shape vcpu after now regs claims takes
claiming_on shape vcpu local after own now regs claims takes at cpu same is = record {
  rest = is.rest;
  keys = is.keys;
  each = λ c has. to_claim_on shape vcpu own now local.at after.at takes takes c (same c.key (is.each c has).there) (ap (is_at c.key) at) refl (is.each c has);
  one = is.one;
  holds = subst (HoldCpu regs) (sym cpu) is.holds;
  shows = subst (λ at. Shows (listed_of regs) (Comes is.rest takes at)) (sym at) is.shows;
  placed = λ key h. subst (λ at. (has_key key claims ≡ true) ⊎ (is_at key at ≡ true)) (sym at) (is.placed key h);
  coming = λ entry has h. is.coming entry (subst (λ at. Contains at entry) at has) h;
}
