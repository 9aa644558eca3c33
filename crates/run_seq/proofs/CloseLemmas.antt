-- A machine as it closes: the vCPUs leave their PEs, one after the other.
use Rattle.std.proofs.Common.{◌≡◌, ◌⊎◌, ℕ, zero, suc, ◌+◌, ◌<◌, ◌≤◌, Bool, true, false, All, inl, inr, List, [], ◌∷◌, ◌++◌, length, set, get_or, Option, Some, None, is_some, refl, sym, ap, ◌∙◌, subst, arith}
use Rattle.std.specs.Prelude.{nat_lt, slice_get}
use Rattle.std.proofs.lemmas.Bool.{and_from, lt-ltb}
use Rattle.std.proofs.lemmas.List.{append-nil, append_assoc, length-set}
use Rattle.std.proofs.lemmas.List.Elements.{All-from_get_or}
use Rattle.std.proofs.lemmas.Option.{slice_get-get_or, slice_get_within}
use Rattle.law_ends_agree.specs.Words.{Exit}
use Rattle.law_ends_agree.specs.Histories.{IdealGuest}
use Rattle.law_ends_agree.specs.GicGuest.declared.outcome.Answer.{Answer}
use Rattle.law_ends_agree.specs.ScnBase.declared.pes.VcpuName.{VcpuName}
use Rattle.law_ends_agree.specs.ScnBase.declared.step.Step.TheVariants.{Pe}
use Rattle.law_ends_agree.specs.ScnBase.Standing.{resident_of}
use Rattle.law_one_thread_is_eager.specs.PortSeq.declared.port.SeqPort.{SeqPort}
use Rattle.law_one_thread_is_eager.specs.PortSeq.Ports.{told_all}
use Rattle.law_one_thread_is_eager.specs.PortSeq.Told.{SeqTold, guest_at}
use Rattle.law_one_thread_is_eager.specs.LawSerialIsEager.Serial.{WholePart}
use Rattle.run_seq.specs.declared.machine.Machine.{Machine}
use Rattle.run_seq.specs.StepCalls.{calls_among}
use Rattle.run_seq.specs.Machine.{CanDo, Closes, DoesStep, IsGuestAt, IsMachine, IsMachineAt, IsReady}
use Rattle.run_seq.proofs.CallLemmas.{calls_append}
use Rattle.law_ends_agree.specs.GicIdeal.Eager.{state_shapes}

-- more was done, but nothing was called
pub record StillAt (states : List IdealGuest) (lrs : ℕ) (machine : Machine) (told : SeqTold) (parts : ℕ → List WholePart) (ideals : List IdealGuest) : Type 0 where
  pub more : ℕ → List WholePart
  pub calls : (number : ℕ) (guest : IdealGuest) → slice_get states number ≡ Some guest → calls_among (more number) ≡ []
  pub at : IsMachineAt states lrs machine told (λ number. parts number ++ more number) ideals

-- so far the first PEs are empty
pub record ClosesSoFar (first machine : Machine) (before told : SeqTold) (count : ℕ) : Type 0 where
  pub going : (states : List IdealGuest) (lrs : ℕ) (parts : ℕ → List WholePart) (ideals : List IdealGuest) → IsMachineAt states lrs first before parts ideals → StillAt states lrs machine told parts ideals
  pub empty : (pe : ℕ) (name : VcpuName) → slice_get machine.pes pe ≡ Some (Some name) → count ≤ pe
  pub each : length machine.pes ≡ length first.pes

-- the parts may be told otherwise
same_parts : (states : List IdealGuest) (lrs : ℕ) (machine : Machine) (told : SeqTold) (parts other : ℕ → List WholePart) (ideals : List IdealGuest) → ((number : ℕ) → parts number ≡ other number) → IsMachineAt states lrs machine told parts ideals → IsMachineAt states lrs machine told other ideals
same_parts states lrs machine told parts other ideals same at = record {
  lrs_is = at.lrs_is;
  few_lrs = at.few_lrs;
  guests = at.guests;
  ports = at.ports;
  ideals_each = at.ideals_each;
  residents = at.residents;
  once = at.once;
  each = λ n guest vcpus ideal a b d. subst (λ ps. IsGuestAt machine.pes lrs guest n (guest_at told n) vcpus ps ideal) (same n) (at.each n guest vcpus ideal a b d);
}

pub closes_none : (machine : Machine) (told : SeqTold) → ClosesSoFar machine machine told told 0
closes_none machine told = record {
  going = λ states lrs parts ideals at. record { more = λ n. []; calls = λ n guest is. refl; at = same_parts states lrs machine told parts (λ n. parts n ++ []) ideals (λ n. sym (append-nil (parts n))) at };
  empty = λ pe name e. omega arith;
  each = refl;
}

-- one leaves its PE

le_cases : (low high : ℕ) → low ≤ high → (high ≡ low) ⊎ (suc low ≤ high)
le_cases zero zero h = inl refl
le_cases zero (suc high) h = inr (omega arith)
le_cases (suc low) zero h = absurd (omega (arith, h))
le_cases (suc low) (suc high) h = elim (le_cases low high (omega (arith, h))) [
  | inl same ↦ inl (ap suc same)
  | inr more ↦ inr (omega (arith, more))
]

slice_on : (pes : List (Option VcpuName)) (pe : ℕ) (name : VcpuName) → slice_get pes pe ≡ Some (Some name) → resident_of pes pe ≡ Some name
slice_on [] pe name e = absurd (cc)
slice_on (x ∷ pes) zero name e = same x (Some name) e
  where
    same : (a b : Option VcpuName) → Some a ≡ Some b → a ≡ b
    same a b e = cc
slice_on (x ∷ pes) (suc pe) name e = slice_on pes pe name e

set_none : (pes : List (Option VcpuName)) (pe other : ℕ) (name : VcpuName) → slice_get (set pes pe None) other ≡ Some (Some name) → (other ≡ pe → ⊥) × (slice_get pes other ≡ Some (Some name))
set_none [] pe other name e = absurd (cc)
set_none (x ∷ pes) zero zero name e = absurd (cc)
set_none (x ∷ pes) zero (suc other) name e = (λ same. absurd (omega (arith, same)), e)
set_none (x ∷ pes) (suc pe) zero name e = (λ same. absurd (omega (arith, same)), e)
set_none (x ∷ pes) (suc pe) (suc other) name e = let rest = set_none pes pe other name e in (λ same. rest.0 (omega (arith, same)), rest.1)

module _ (first machine : Machine) (before told : SeqTold) (count : ℕ) (so : ClosesSoFar first machine before told count) where
  can_leave : (states : List IdealGuest) (name : VcpuName) → slice_get machine.pes count ≡ Some (Some name) → CanDo states machine (Pe count Exit)
  can_leave states name here = record {
    standing = record { shapes = state_shapes states; pes = machine.pes; wires = [] };
    pes = refl;
    formed = and_from (nat_lt count (length machine.pes)) true (lt-ltb count (length machine.pes) (slice_get_within machine.pes count (Some name) here)) refl;
    stands = ap is_some (slice_on machine.pes count name here);
  }

  pub leaves_ready : (name : VcpuName) → slice_get machine.pes count ≡ Some (Some name) → IsMachine first before → IsReady machine told (Pe count Exit)
  leaves_ready name here of =
      let still = so.going of.states of.lrs of.parts of.ideals of.at in
      record { of = record { states = of.states; lrs = of.lrs; parts = λ number. of.parts number ++ still.more number; ideals = of.ideals; at = still.at }; can = can_leave of.states name here }

  pub closes_more : (next : Machine) (later : SeqTold) (answer : Answer) (name : VcpuName) → slice_get machine.pes count ≡ Some (Some name) → length next.pes ≡ length machine.pes → IsMachine first before → DoesStep machine next told later (Pe count Exit) answer
      → next.pes ≡ set machine.pes count None → ClosesSoFar first next before later (suc count)
  closes_more next later answer name here each of steps pes = record {
    going = λ states lrs parts ideals at.
        let still = so.going states lrs parts ideals at in
        let does = steps states lrs (λ number. parts number ++ still.more number) ideals still.at (can_leave states name here) in
        record {
          more = λ number. still.more number ++ does.more number;
          calls = λ number guest is. calls_append (still.more number) (does.more number) ∙ ap (λ calls. calls ++ calls_among (does.more number)) (still.calls number guest is) ∙ does.calls number guest is;
          at =
              same_parts states lrs next later (λ number. (parts number ++ still.more number) ++ does.more number) (λ number. parts number ++ (still.more number ++ does.more number)) ideals
              (λ number. append_assoc (parts number) (still.more number) (does.more number)) does.at;
        };
    empty = λ other one e. let there = set_none machine.pes count other one (ap (λ pes. slice_get pes other) (sym pes) ∙ e) in above other (so.empty other one there.1) there.0;
    each = each ∙ so.each;
  }
    where
      above : (other : ℕ) → count ≤ other → (other ≡ count → ⊥) → suc count ≤ other
      above other low apart = one (le_cases count other low)
        where
          one : (other ≡ count) ⊎ (suc count ≤ other) → suc count ≤ other
          one (inl same) = absurd (apart same)
          one (inr more) = more

  pub closes_still : slice_get machine.pes count ≡ Some None → ClosesSoFar first machine before told (suc count)
  closes_still here = record { going = so.going; empty = λ other one e. above other one (so.empty other one e) e; each = so.each }
    where
      none : (other : ℕ) (one : VcpuName) → other ≡ count → slice_get machine.pes other ≡ Some (Some one) → ⊥
      none other one same e = differ (sym (ap (slice_get machine.pes) same) ∙ e)
        where
          differ : slice_get machine.pes count ≡ Some (Some one) → ⊥
          differ e = never (sym here ∙ e)
            where
              never : Some (let n : Option VcpuName = None in n) ≡ Some (Some one) → ⊥
              never e = cc

      above : (other : ℕ) (one : VcpuName) → count ≤ other → slice_get machine.pes other ≡ Some (Some one) → suc count ≤ other
      above other one low e = of (le_cases count other low)
        where
          of : (other ≡ count) ⊎ (suc count ≤ other) → suc count ≤ other
          of (inl same) = absurd (none other one same e)
          of (inr more) = more

-- whoever stands on the next PE leaves it

record IsOn (pes : List (Option VcpuName)) (pe : ℕ) : Type 0 where
  name : VcpuName
  is : slice_get pes pe ≡ Some (Some name)

some_on : (pes : List (Option VcpuName)) (pe : ℕ) (one : Option VcpuName) → slice_get pes pe ≡ Some one → is_some one ≡ true → IsOn pes pe
some_on pes pe None is e = absurd (never e)
  where
    never : false ≡ true → ⊥
    never e = cc
some_on pes pe (Some name) is e = record { name = name; is = is }

none_on : (one : Option VcpuName) → is_some one ≡ false → one ≡ None
none_on None e = refl
none_on (Some name) e = absurd (never e)
  where
    never : true ≡ false → ⊥
    never e = cc

module _ (first machine : Machine) (before told : SeqTold) (count : ℕ) (so : ClosesSoFar first machine before told count) (items : List (Option VcpuName)) (same : items ≡ machine.pes) (there : count < length machine.pes) (b : Bool) (is : b ≡ is_some (get_or items count None)) where
  here : slice_get machine.pes count ≡ Some (get_or machine.pes count None)
  here = slice_get-get_or machine.pes count None there

  stands : b ≡ is_some (get_or machine.pes count None)
  stands = is ∙ ap (λ pes. is_some (get_or pes count None)) same

  someone : b ≡ true → IsOn machine.pes count
  someone on = some_on machine.pes count (get_or machine.pes count None) here (sym stands ∙ on)

  pub next_ready : b ≡ true → IsMachine first before → IsReady machine told (Pe count Exit)
  next_ready on of = let one = someone on in leaves_ready first machine before told count so one.name one.is of

  pub next_leaves : b ≡ true → IsMachine first before → (next last : Machine) (port final : SeqPort) (answer : Answer) → last ≡ next → final ≡ port → DoesStep machine next told (told_all port) (Pe count Exit) answer → ClosesSoFar first last before (told_all final) (count + 1)
  next_leaves on of next last port final answer last_is final_is steps =
      let one = someone on in
      let still = so.going of.states of.lrs of.parts of.ideals of.at in
      let does = steps of.states of.lrs (λ number. of.parts number ++ still.more number) of.ideals still.at (can_leave first machine before told count so of.states one.name one.is) in
      let closes : ClosesSoFar first next before (told_all port) (suc count)
      = closes_more first machine before told count so next (told_all port) answer one.name one.is (ap length does.pes ∙ length-set machine.pes count _) of steps does.pes in
      let at : ℕ → Type 0 = λ n. ClosesSoFar first last before (told_all final) n in
      subst at (omega arith)
      (subst (λ (p : SeqPort). ClosesSoFar first last before (told_all p) (suc count)) (sym final_is) (subst (λ (m : Machine). ClosesSoFar first m before (told_all port) (suc count)) (sym last_is) closes))

  pub next_still : b ≡ false → (last : Machine) (port final : SeqPort) → last ≡ machine → final ≡ port → told_all port ≡ told → ClosesSoFar first last before (told_all final) (count + 1)
  next_still off last port final last_is final_is told_is =
      let none = none_on (get_or machine.pes count None) (sym stands ∙ off) in
      let closes : ClosesSoFar first machine before told (suc count) = closes_still first machine before told count so (here ∙ ap Some none) in
      let at : ℕ → Type 0 = λ n. ClosesSoFar first last before (told_all final) n in
      subst at (omega arith)
      (subst (λ (t : SeqTold). ClosesSoFar first last before t (suc count)) (sym (ap told_all final_is ∙ told_is)) (subst (λ (m : Machine). ClosesSoFar first m before told (suc count)) (sym last_is) closes))

-- all have left

empty_all : (pes : List (Option VcpuName)) → ((pe : ℕ) (name : VcpuName) → slice_get pes pe ≡ Some (Some name) → length pes ≤ pe) → All (λ resident. resident ≡ None) pes
empty_all pes none = All-from_get_or (λ (resident : Option VcpuName). resident ≡ None) pes None (λ pe there. of pe there (get_or pes pe None) refl)
  where
    of : (pe : ℕ) → pe < length pes → (one : Option VcpuName) → get_or pes pe None ≡ one → get_or pes pe None ≡ None
    of pe there None e = e
    of pe there (Some name) e = let past = none pe name (slice_get-get_or pes pe None there ∙ ap Some e) in absurd (omega (arith, there, past))

pub all_closed : (first machine : Machine) (before told : SeqTold) → ClosesSoFar first machine before told (length first.pes) → Closes first machine before told
all_closed first machine before told so states lrs parts ideals at =
    let still = so.going states lrs parts ideals at in
    record {
      more = still.more;
      calls = still.calls;
      pes = empty_all machine.pes (λ pe name e. subst (λ n. n ≤ pe) (sym so.each) (so.empty pe name e));
      at = still.at;
    }
