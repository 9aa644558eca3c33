-- An actor that is none is in no call.
use Rattle.std.proofs.Common.{◌≡◌, ℕ, zero, suc, true, false, ◌&&◌, ◌==◌, List, [], ◌∷◌, None, is_some, refl, ap, sym, slice_index_or, nat_lt, length, arith}
use Rattle.std.proofs.lemmas.Grind.{common_steps}
use Rattle.floor_histories.specs.Words.{GuestShape}
use Rattle.floor_histories.specs.Histories.{Doing, has_named}
use Rattle.history_check.specs.Track.{doing_in}

pub past_end : {X : Type 0} (xs : List X) (i : ℕ) (d : X) → nat_lt i (length xs) ≡ false → slice_index_or xs i d ≡ d
past_end [] i d e = refl
past_end (x ∷ xs) zero d e = absurd (grind (arith, common_steps, e))
past_end (x ∷ xs) (suc i) d e = past_end xs i d (grind (arith, common_steps, e))

pub none_in : (doings : List Doing) (actor number : ℕ) → nat_lt actor (length doings) ≡ false → false ≡ (is_some (doing_in doings actor).operation && (doing_in doings actor).number == number)
none_in doings actor number e = sym (ap (λ (d : Doing). is_some d.operation && d.number == number) (past_end doings actor (record { operation = None; number = 0; done = []; fetched = false }) e))

pub none_named : (shape : GuestShape) (doings : List Doing) (actor : ℕ) → nat_lt actor (length doings) ≡ false → true ≡ has_named shape (doing_in doings actor)
none_named shape doings actor e = sym (ap (has_named shape) (past_end doings actor (record { operation = None; number = 0; done = []; fetched = false }) e))
