-- An actor at rest is at rest again after a proper part.
use Rattle.std.proofs.Common.{◌≡◌, ℕ, IsTrue, List, [], ◌∷◌, map, Option, refl, sym, ap, subst, ◌∙◌}
use Rattle.std.proofs.lemmas.List.Sums.{fold-append}
use Rattle.floor_histories.specs.Words.{Key}
use Rattle.floor_histories.specs.Calls.{Operation}
use Rattle.port_core.specs.declared.run.Made.{Made}
use Rattle.port_core.specs.Port.{Seen, Adds, shape_of}
use Rattle.core_proper.specs.Called.{IsAtRest}
use Rattle.core_proper.specs.Parts.{begins, makes, ends, part_of}
use Rattle.core_proper.specs.Progress.{Progress, progressed, progress_of}
use Rattle.core_proper.specs.Proper.{IsProper, wants_nothing}
use Rattle.core_proper.proofs.FollowLemmas.{steps_follow}
use Rattle.core_proper.proofs.PartLemmas.{proper_append}

none_wanted : (wants : List Key) → IsTrue (wants_nothing wants) → wants ≡ []
none_wanted [] h = refl
none_wanted (key ∷ keys) h = absurd (cc)

pub rests_again :
    (seen new : Seen) (p : Progress) (part : List Made) (operation : Operation) (lrs : ℕ) (answer : Option ℕ) → IsAtRest seen p → IsProper (shape_of seen) seen.actor p (part_of operation lrs part answer) → Adds seen new part
    → IsAtRest new (progress_of (shape_of seen) seen.actor p (part_of operation lrs part answer))
rests_again seen new p part operation lrs answer rest proper add =
    let shape = shape_of seen in
    let begun = progressed shape seen.actor p (begins operation lrs) in
    let q = progress_of shape seen.actor begun (map makes part) in
    let ended = ((proper_append shape seen.actor begun (map makes part) (ends answer ∷ [])).0 proper.1).1.0 in
    let seat = steps_follow shape seen.actor part begun seen.local seen.own (record { local = rest.local; own = rest.own }) in
    let last : progress_of shape seen.actor p (part_of operation lrs part answer) ≡ progressed shape seen.actor q (ends answer)
    = fold-append (progressed shape seen.actor) begun (map makes part) (ends answer ∷ []) in
    subst (IsAtRest new) (sym last)
    (record { local = seat.local ∙ ap (λ told. told.local) (sym add.new_is); own = seat.own ∙ ap (λ told. told.own) (sym add.new_is); scan = ended.scan; wants = none_wanted q.wants ended.want })
