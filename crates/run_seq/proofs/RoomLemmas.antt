-- The lists that are left for the steps that are left.
use Rattle.std.proofs.Common.{◌≡◌, ℕ, suc, ◌+◌, ◌<◌, if◌then◌else◌, Bool, IsTrue, All, List, ◌∷◌, length, drop, get_or, ap, ◌∙◌, arith}
use Rattle.std.specs.declared.vec.Vec.{Vec}
use Rattle.std.proofs.lemmas.Option.{slice_get-get_or}
use Rattle.law_ends_agree.specs.ScnBase.declared.step.Step.{Step}
use Rattle.law_ends_agree.proofs.GuestEnd.EndsLemmas.{drop_next}
use Rattle.law_one_thread_is_eager.specs.PePlace.Place.{IsRoom}
use Rattle.run_seq.specs.Room.{is_shown, shown_among, RoomsFor}

-- how many steps show list registers from a place on
pub shown_from : (steps : List Step) (number : ℕ) (first : Step) → number < length steps → shown_among (drop number steps) ≡ (if is_shown (get_or steps number first) then 1 else 0) + shown_among (drop (number + 1) steps)
shown_from steps number first there =
    let step = get_or steps number first in
    let next : drop number steps ≡ step ∷ drop (suc number) steps = drop_next steps number step (slice_get-get_or steps number first there) in
    ap shown_among next ∙ ap (λ n. (if is_shown step then 1 else 0) + shown_among (drop n steps)) (more number)
  where
    more : (n : ℕ) → suc n ≡ n + 1
    more n = omega arith

module _ {Z : Type 0} (steps : List Step) (number : ℕ) (first : Step) (there : number < length steps) (rooms : List (Vec ℕ Z)) (so : RoomsFor (drop number steps) rooms) where
  -- there is one for the next step, if it shows list registers
  pub some_room : IsTrue (is_shown (get_or steps number first)) → 0 < length rooms
  some_room shown =
      let count = so.count ∙ shown_from steps number first there in
      let counted : Bool → ℕ = λ b. if b then 1 else 0 in
      let one : counted (is_shown (get_or steps number first)) ≡ 1 = ap counted shown in
      omega (arith, count, one)

  -- and then the others are left
  pub rooms_left : (left : List (Vec ℕ Z)) → All IsRoom left → (if is_shown (get_or steps number first) then 1 else 0) + length left ≡ length rooms → RoomsFor (drop (number + 1) steps) left
  rooms_left left each count =
      let all = so.count ∙ shown_from steps number first there in
      record { each = each; count = omega (arith, all, count) }
