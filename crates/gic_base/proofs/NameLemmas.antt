-- No register has a name that each differs from.
use Rattle.std.proofs.Common.{◌≡◌, ℕ, List, [], ◌∷◌, Bool, false, None, find, refl, sym, arith}
use Rattle.std.proofs.lemmas.Slice.Eq.{bytes_eq-Decides}
use Rattle.std.specs.Str.{bytes_eq}
use Rattle.gic_base.specs.declared.icc.IccReg.{IccReg}
use Rattle.gic_base.specs.Icc.{name_of, registers, register_named}

-- other texts
differs : (a b : List ℕ) → (a ≡ b → ⊥) → bytes_eq a b ≡ false
differs a b other = grind (arith, bytes_eq-Decides)

find_none : {X : Type 0} (p : X → Bool) (xs : List X) → ((x : X) → p x ≡ false) → find p xs ≡ None
find_none p [] fails = refl
find_none p (x ∷ xs) fails = rw (fails x) (find_none p xs fails)

pub register_named-none : (name : List ℕ) → ((reg : IccReg) → name_of reg ≡ name → ⊥) → None ≡ register_named name
register_named-none name others = sym (find_none (λ reg. bytes_eq (name_of reg) name) registers (λ reg. differs (name_of reg) name (others reg)))
