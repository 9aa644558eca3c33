-- Two parts, one after the other.
use Rattle.std.proofs.Common.{◌≡◌, ℕ, List, [], ◌++◌, map, sym, ap, subst, ◌∙◌}
use Rattle.std.proofs.lemmas.List.{map-append}
use Rattle.std.proofs.lemmas.List.Sums.{fold-append}
use Rattle.port_call.specs.Words.{GuestShape}
use Rattle.port_call.specs.Core.{Made, Seen, Adds, shape_of, part_events, makes, Progress, progressed, progress_of, IsProper}
use Rattle.port_call.proofs.CoreProper.PartLemmas.{proper_append}
use Rattle.port_call.proofs.TurnLemmas.{events_then}

pub two_on : (shape : GuestShape) (actor : ℕ) (p : Progress) (early late : List Made) → progress_of shape actor p (map makes (early ++ late)) ≡ progress_of shape actor (progress_of shape actor p (map makes early)) (map makes late)
two_on shape actor p early late = ap (progress_of shape actor p) (map-append makes early late) ∙ fold-append (progressed shape actor) p (map makes early) (map makes late)

pub two_proper : (shape : GuestShape) (actor : ℕ) (p q : Progress) (early late : List Made) → IsProper shape actor p (map makes early) → progress_of shape actor p (map makes early) ≡ q → IsProper shape actor q (map makes late) → IsProper shape actor p (map makes (early ++ late))
two_proper shape actor p q early late one is two =
    let Late : Progress → Type 0 = λ q. IsProper shape actor q (map makes late) in
    subst (IsProper shape actor p) (sym (map-append makes early late)) ((proper_append shape actor p (map makes early) (map makes late)).1 (one, subst Late (sym is) two))

-- what an actor does after another port's steps
pub same_proper : (old mid : Seen) (early late : List Made) (q : Progress) → Adds old mid early → IsProper (shape_of mid) mid.actor q (map makes late) → IsProper (shape_of old) old.actor q (map makes late)
same_proper old mid early late q add proper = let P : Seen → Type 0 = λ seen. IsProper (shape_of seen) seen.actor q (map makes late) in subst P add.new_is proper

pub same_progress : (old mid : Seen) (early late : List Made) (q : Progress) → Adds old mid early → progress_of (shape_of old) old.actor q (map makes late) ≡ progress_of (shape_of mid) mid.actor q (map makes late)
same_progress old mid early late q add = ap (λ seen. progress_of (shape_of seen) seen.actor q (map makes late)) (sym add.new_is)

pub two_silent : (old mid : Seen) (early late : List Made) → Adds old mid early → part_events old early ≡ [] → part_events mid late ≡ [] → part_events old (early ++ late) ≡ []
two_silent old mid early late add one two = events_then old mid early late add ∙ ap (λ events. events ++ part_events mid late) one ∙ two
