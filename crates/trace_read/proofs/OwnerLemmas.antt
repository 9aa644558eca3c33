-- Texts that do not begin with a v.
use Rattle.std.proofs.Common.{◌≡◌, ◌≢◌, ℕ, ◌==◌, List, [], ◌∷◌, Bool, true, false, cond, Option, None, refl, ap, arith}
use Rattle.std.proofs.lemmas.Bool.Decides.{nat_tests}
use Rattle.trace_read.specs.Name.{plain_number, owner_named}

other_first : (c : ℕ) (cs : List ℕ) (same : Bool) → (c == 118) ≡ same → ((rest : List ℕ) → c ∷ cs ≢ 118 ∷ rest) → None ≡ cond same (plain_number cs) None
other_first c cs true e other =
    let is : c ≡ 118 = grind (arith, nat_tests) in
    absurd (other cs (ap (λ n. n ∷ cs) is))
other_first c cs false e other = refl

pub no_owner : (text : List ℕ) → ((rest : List ℕ) → text ≢ 118 ∷ rest) → None ≡ owner_named text
no_owner [] other = refl
no_owner (c ∷ cs) other = other_first c cs (c == 118) refl other
