-- The interrupts at an interface while they leave it.
use Rattle.std.proofs.Common.{◌≡◌, not, Bool, true, false, cond, if◌then◌else◌, List, [], ◌∷◌, Option, Some, None, refl, sym, ap, ◌∙◌}
use Rattle.port_call.specs.Words.{Key, is_same_key}
use Rattle.port_call.specs.Core.{AtIrq, entry_for, changed_at, without_at}

abbrev pub given : AtIrq → AtIrq
given entry = record entry { given = true }

-- an interrupt is given back where it stands
pub entry_given : (key : Key) (at : List AtIrq) (entry : AtIrq) → entry_for key at ≡ Some entry → entry_for key (changed_at given key at) ≡ Some (given entry)
entry_given key [] entry h = absurd (cc)
entry_given key (one ∷ rest) entry h = of (is_same_key one.key key) refl h (entry_given key rest entry)
  where
    of : (b : Bool) → is_same_key one.key key ≡ b → cond b (Some one) (entry_for key rest) ≡ Some entry → (entry_for key rest ≡ Some entry → entry_for key (changed_at given key rest) ≡ Some (given entry)) → entry_for key ((if b then given one else one) ∷ changed_at given key rest) ≡ Some (given entry)
    of true e f later = ap (λ b. cond b (Some (given one)) (entry_for key (changed_at given key rest))) e ∙ ap (λ o. some_given o) f
      where
        some_given : Option AtIrq → Option AtIrq
        some_given None = None
        some_given (Some at) = Some (given at)
    of false e f later = ap (λ b. cond b (Some one) (entry_for key (changed_at given key rest))) e ∙ later f

-- without it the list is the same, whether it was given back or not
pub without_given : (key : Key) (at : List AtIrq) → without_at key (changed_at given key at) ≡ without_at key at
without_given key [] = refl
without_given key (one ∷ rest) = of (is_same_key one.key key) refl (without_given key rest)
  where
    of : (b : Bool) → is_same_key one.key key ≡ b → without_at key (changed_at given key rest) ≡ without_at key rest → without_at key ((if b then given one else one) ∷ changed_at given key rest) ≡ cond (not (is_same_key one.key key)) (one ∷ without_at key rest) (without_at key rest)
    of true e later = ap (λ b. cond (not b) (given one ∷ without_at key (changed_at given key rest)) (without_at key (changed_at given key rest))) e ∙ later ∙ sym (ap (λ b. cond (not b) (one ∷ without_at key rest) (without_at key rest)) e)
    of false e later = ap (λ rest'. cond (not (is_same_key one.key key)) (one ∷ rest') rest') later
