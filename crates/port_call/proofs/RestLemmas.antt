-- What an actor that owes nothing has for itself while it makes a call.
use Rattle.std.proofs.Common.{◌≡◌, ℕ, zero, suc, ◌==◌, ◌&&◌, ◌/◌, Bool, true, false, if◌then◌else◌, IsTrue, List, [], ◌∷◌, Option, bit_and, slice_index_or, slice_set, refl, sym, ap, ◌∙◌}
use Rattle.std.specs.List.{list_all}
use Rattle.std.proofs.lemmas.Bool.{and_parts, eqb-true}
use Rattle.floor_core.specs.Registers.{Targets}
use Rattle.floor_core.specs.Words.{Key, GuestShape, is_of_vcpu, has_bit, Irq}
use Rattle.floor_core.specs.Core.{Local, Cands, is_settled_by_look, looked_at, is_vcpu, no_vcpus, with_all, without_vcpu, owes_no_kick, owes_no_mark, has_no_cand, owes_nothing, owing, owing_both, settled, without_cand, index_bit}
use Rattle.port_call.specs.Rest.{StaysAtEase}
use Rattle.port_call.specs.Settle.{marks_sent, kicks_sent}

-- No candidates.

zero_kept : (words : List ℕ) (i mask : ℕ) → IsTrue (list_all (λ word. word == 0) words) → slice_set words i (bit_and (slice_index_or words i 0) mask) ≡ words
zero_kept [] i mask h = refl
zero_kept (word ∷ words) zero mask h =
    let parts = and_parts (word == 0) (list_all (λ word. word == 0) words) h in
    let is : word ≡ 0 = eqb-true word 0 parts.0 in
    ap (λ n. bit_and n mask ∷ words) is ∙ ap (λ n. n ∷ words) (sym is)
zero_kept (word ∷ words) (suc i) mask h = let parts = and_parts (word == 0) (list_all (λ word. word == 0) words) h in ap (λ rest. word ∷ rest) (zero_kept words i mask parts.1)

pub cands_kept : (shape : GuestShape) (actor : ℕ) (key : Key) (cands : Cands) → IsTrue (list_all (λ word. word == 0) cands.words) → settled shape actor key cands ≡ cands
cands_kept shape actor key cands none = of (is_vcpu shape actor && is_of_vcpu actor key)
  where
    bit : ℕ
    bit = index_bit shape key

    of : (b : Bool) → (if b then without_cand cands bit else cands) ≡ cands
    of true = let make : List ℕ → Cands = λ words. record { words = words } in ap make (zero_kept cands.words (bit / 64) _ none)
    of false = refl

-- a look takes none from one that has none
pub look_kept : (shape : GuestShape) (actor : ℕ) (key : Key) (irq : Irq) (local : Local) → IsTrue (has_no_cand local) → looked_at shape actor key irq local ≡ local
look_kept shape actor key irq local none = of (is_settled_by_look shape actor irq)
  where
    of : (b : Bool) → (if b then record local { cands = settled shape actor key local.cands } else local) ≡ local
    of true = let make : Cands → Local = λ cands. record local { cands = cands } in ap make (cands_kept shape actor key local.cands none)
    of false = refl

-- What is owed.

pub record OwesNothing (local : Local) : Type 0 where
  pub kicks : local.owes ≡ no_vcpus
  pub marks : IsTrue (owes_no_mark local)
  pub cands : IsTrue (has_no_cand local)

pub owes_none : (local : Local) → IsTrue (owes_nothing local) → OwesNothing local
owes_none local h =
    let cands = and_parts (owes_no_kick local && owes_no_mark local) (has_no_cand local) h in
    let marks = and_parts (owes_no_kick local) (owes_no_mark local) cands.0 in
    let set : ℕ → Targets = λ n. record { 0 = n } in
    record { kicks = ap set (eqb-true local.owes.0 0 marks.0); marks = marks.1; cands = cands.1 }

-- one that owes none, and is to send these and does, is so again
pub sent_at_ease : (shape : GuestShape) (actor : ℕ) (kicks : List (Option ℕ)) (key : Key) (marks : List (Option ℕ)) (local : Local) → IsTrue (owes_nothing local) → StaysAtEase local (kicks_sent (marks_sent shape actor (owing kicks key marks local)))
sent_at_ease shape actor kicks key marks local h =
    let none = owes_none local h in
    let make : Targets → Cands → Local = λ owes cands. record local { owes = owes; cands = cands } in
    record {
      same = ap (λ owes. make owes (if has_bit (with_all no_vcpus marks).0 actor then settled shape actor key local.cands else local.cands)) (sym none.kicks) ∙ ap (make local.owes) (of (has_bit (with_all no_vcpus marks).0 actor));
      marks = refl;
    }
  where
    of : (b : Bool) → (if b then settled shape actor key local.cands else local.cands) ≡ local.cands
    of true = cands_kept shape actor key local.cands (owes_none local h).cands
    of false = refl

pub told_at_ease : (shape : GuestShape) (actor : ℕ) (key : Key) (vcpus : List (Option ℕ)) (local : Local) → IsTrue (owes_nothing local) → StaysAtEase local (kicks_sent (marks_sent shape actor (owing_both key vcpus local)))
told_at_ease shape actor key vcpus local h = sent_at_ease shape actor vcpus key vcpus local h

-- a kick that is not owed leaves it so
pub kick_kept : (vcpu : ℕ) (local : Local) → local.owes ≡ no_vcpus → record local { owes = without_vcpu local.owes vcpu } ≡ local
kick_kept vcpu local none =
    let make : Targets → Local = λ owes. record local { owes = owes } in
    ap (λ owes. make (without_vcpu owes vcpu)) none ∙ ap make (sym none)

-- at ease again, and again
pub ease_owes : (before after : Local) → StaysAtEase before after → IsTrue (owes_nothing before) → IsTrue (owes_nothing after)
ease_owes before after stays h =
    let none = owes_none before h in
    let owes : after.owes ≡ before.owes = ap (λ l. l.owes) stays.same in
    let cands : after.cands ≡ before.cands = ap (λ l. l.cands) stays.same in
    ap (λ owes. owes.0 == 0 && owes_no_mark after && list_all (λ word. word == 0) after.cands.words) owes
    ∙ ap (λ marks. before.owes.0 == 0 && marks.0 == 0 && list_all (λ word. word == 0) after.cands.words) stays.marks
    ∙ ap (λ cands. before.owes.0 == 0 && true && list_all (λ word. word == 0) cands.words) cands
    ∙ all (owes_no_kick before) (owes_no_mark before) (has_no_cand before) h
  where
    all : (a b c : Bool) → IsTrue (a && b && c) → (a && true && c) ≡ true
    all true true true h = refl
    all true true false h = absurd (cc)
    all true false c h = absurd (cc)
    all false b c h = absurd (cc)
