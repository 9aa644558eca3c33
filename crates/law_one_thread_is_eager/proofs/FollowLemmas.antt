-- Parts that are told with what they found, one after the other: each is its call, and is fit where those of CPU interfaces begin with ease.
use Rattle.std.proofs.Common.{◌≡◌, ℕ, inl, inr, List, [], ◌∷◌, ◌++◌, refl, sym, ap, ◌∙◌, subst}
use Rattle.std.proofs.lemmas.Bool.{cases_eq}
use Rattle.std.proofs.lemmas.List.{append_assoc}
use Rattle.law_found_parts_are_calls.specs.Histories.{CanOpen}
use Rattle.law_found_parts_are_calls.specs.Core.{seen_after, CoreState, IsRun, end_of, opening, seat_at, end_of_moments, CoreMoment, entries_of, IsProperRun}
use Rattle.seq_guest.specs.PortSeq.Told.{GuestTold, state_of}
use Rattle.law_found_parts_are_calls.proofs.CoreProper.PartLemmas.{same_end}
use Rattle.law_found_parts_are_calls.proofs.LawScansMissNone.RunFrame.{proper_before}
use Rattle.law_found_parts_are_calls.specs.LawSerialIsEager.Serial.{WholePart, moments_in, moments_of}
use Rattle.law_found_parts_are_calls.proofs.LawSerialIsEager.PartLemmas.{part_entries}
use Rattle.law_found_parts_are_calls.specs.Found.{AreFoundParts, IsFoundPart, IsToldOf}
use Rattle.seq_guest.specs.PePlace.Parts.{AreCalls as AreFoundCalls, IsPartFound, part_in, parts_by}
use Rattle.seq_guest.specs.Guest.{seen_by}
use Rattle.seq_guest.proofs.PePlace.PartsLemmas.{calls_same}
use Rattle.law_one_thread_is_eager.proofs.MomentLemmas.{entries_both, mine_first, others_first}
use Rattle.law_one_thread_is_eager.proofs.SeenLemmas.{told_after, seen_mine, seen_other}

-- the parts of each actor are told with what they found, from a guest on
abbrev pub AreTold : GuestTold → List WholePart → Type 0
AreTold told parts = (actor : ℕ) → AreFoundCalls (seen_by told actor) (parts_by actor parts)

module _ (told : GuestTold) (early : List CoreMoment) (same : entries_of early ≡ told.world) where
  -- the state of the guest is that of the moments
  pub state_is : end_of_moments told.guest.shape (opening told.guest told.number) early ≡ state_of told
  state_is = same_end told.guest.shape (opening told.guest told.number) early ∙ ap (end_of told.guest.shape (opening told.guest told.number)) same

  module _ (part : WholePart) (parts : List WholePart) where
    pub entries_then : entries_of (early ++ moments_in part) ≡ (told_after told part).world
    entries_then = entries_both early (moments_in part) ∙ ap (λ xs. xs ++ entries_of (moments_in part)) same ∙ ap (λ ys. told.world ++ ys) (part_entries part)

    module _ (are : AreTold told (part ∷ parts)) where
      mine : AreFoundCalls (seen_by told part.actor) (part_in part ∷ parts_by part.actor parts)
      mine = subst (AreFoundCalls (seen_by told part.actor)) (mine_first part.actor part parts refl) (are part.actor)

      told_first : IsToldOf told.guest (end_of_moments told.guest.shape (opening told.guest told.number) early) part.actor (seen_by told part.actor)
      told_first = record {
        guest_is = refl;
        actor_is = refl;
        local_is = ap (λ (state : CoreState). (seat_at state part.actor).local) (sym state_is);
        own_is = ap (λ (state : CoreState). (seat_at state part.actor).own) (sym state_is);
      }

      pub first_found : IsFoundPart told.guest told.number early part
      first_found = of mine.0
        where
          of : IsPartFound (seen_by told part.actor) (part_in part) → IsFoundPart told.guest told.number early part
          of (inl is) = inl (record { seen = seen_by told part.actor; told = told_first; made = is.made; found = is.found })
          of (inr post) = inr (record { seen = seen_by told part.actor; told = told_first; post = post })

      pub told_then : CanOpen told.guest → IsRun told.guest.shape (opening told.guest told.number) (told_after told part).world → AreTold (told_after told part) parts
      told_then good run actor = elim (cases_eq actor part.actor) [
        | inl is ↦
            subst (λ n. AreFoundCalls (seen_by (told_after told part) n) (parts_by n parts)) (sym is)
            (calls_same (seen_after (seen_by told part.actor) part.steps) (seen_by (told_after told part) part.actor) (parts_by part.actor parts) (seen_mine told part good run) mine.1)
        | inr apart ↦
            calls_same (seen_by told actor) (seen_by (told_after told part) actor) (parts_by actor parts) (seen_other told part good run actor apart)
            (subst (AreFoundCalls (seen_by told actor)) (others_first actor part parts (λ e. apart (sym e))) (are actor))
      ]

-- Part by part.

pub parts_follow : (told : GuestTold) (early : List CoreMoment) (parts : List WholePart) → CanOpen told.guest → entries_of early ≡ told.world → IsProperRun told.guest told.number (early ++ moments_of parts) → AreTold told parts → AreFoundParts told.guest told.number early parts
parts_follow told early [] good same proper are = tt
parts_follow told early (part ∷ parts) good same proper are =
    let guest = told.guest in
    let number = told.number in
    let next = early ++ moments_in part in
    let all : early ++ (moments_in part ++ moments_of parts) ≡ next ++ moments_of parts = sym (append_assoc early (moments_in part) (moments_of parts)) in
    let proper_all = subst (IsProperRun guest number) all proper in
    let entries = entries_then told early same part parts in
    let run = subst (IsRun guest.shape (opening guest number)) entries (proper_before guest number next (moments_of parts) proper_all).parted.run in
    (first_found told early same part parts are, parts_follow (told_after told part) next parts good entries proper_all (told_then told early same part parts are good run))
