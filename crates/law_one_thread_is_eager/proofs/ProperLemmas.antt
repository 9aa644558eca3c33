-- A proper run of parts with more parts after them.
use Rattle.std.proofs.Common.{◌≡◌, ℕ, ◌<◌, ◌≤◌, false, IsTrue, All, List, ◌++◌, sym, ap, ◌∙◌, subst}
use Rattle.std.proofs.lemmas.Grind.{flat_map-append}
use Rattle.std.proofs.lemmas.List.Sums.{fold-append}
use Rattle.law_found_parts_are_calls.specs.Histories.{IdealGuest}
use Rattle.law_found_parts_are_calls.specs.Core.{actor_count, IsRun, opening, are_parts, opening_progress, progress_in, progress_of, progressed, IsProper, IsProperRun}
use Rattle.law_found_parts_are_calls.proofs.CoreProper.PartLemmas.{proper_append}
use Rattle.law_found_parts_are_calls.specs.LawSerialIsEager.Serial.{WholePart, moments_of}
use Rattle.seq_guest.specs.PePlace.Parts.{IsOfGuest, acts_in, acts_of, entries_in, parts_by, progress_after}
use Rattle.seq_guest.proofs.PePlace.PartsLemmas.{parts_append}
use Rattle.law_one_thread_is_eager.proofs.MomentLemmas.{entries_parts, own_parts, parts_formed, parts_there}

-- what an actor does in both
pub acts_both : (actor : ℕ) (early late : List WholePart) → acts_in (parts_by actor (early ++ late)) ≡ acts_in (parts_by actor early) ++ acts_in (parts_by actor late)
acts_both actor early late = ap acts_in (parts_append actor early late) ∙ flat_map-append acts_of (parts_by actor early) (parts_by actor late)

-- its protocol after both
pub progress_both : (guest : IdealGuest) (number : ℕ) (early late : List WholePart) (actor : ℕ)
    → progress_in guest number (moments_of (early ++ late)) actor ≡ progress_after guest.shape late (progress_in guest number (moments_of early)) actor
progress_both guest number early late actor =
    let start = opening_progress guest number actor in
    ap (progress_of guest.shape actor start) (own_parts actor (early ++ late) ∙ acts_both actor early late)
    ∙ fold-append (progressed guest.shape actor) start (acts_in (parts_by actor early)) (acts_in (parts_by actor late))
    ∙ ap (λ acts. progress_of guest.shape actor (progress_of guest.shape actor start acts) (acts_in (parts_by actor late))) (sym (own_parts actor early))

module _ (guest : IdealGuest) (number lrs : ℕ) (early late : List WholePart) (some : 1 ≤ lrs) (most : lrs ≤ 16) where
  abbrev both : List WholePart
  both = early ++ late

  -- what is asked of more parts
  pub proper_more :
      IsRun guest.shape (opening guest number) (entries_in both) → All (IsOfGuest guest.shape lrs) both → IsProperRun guest number (moments_of early)
      → ((actor : ℕ) → actor < actor_count guest.shape → IsProper guest.shape actor (progress_in guest number (moments_of early) actor) (acts_in (parts_by actor late))) → IsProperRun guest number (moments_of both)
  proper_more run formed before then =
      record {
        parted =
            record {
              run = subst (IsRun guest.shape (opening guest number)) (sym (entries_parts both)) run;
              actors = parts_there guest.shape lrs both formed;
              parts = λ actor there. subst (λ acts. IsTrue (are_parts guest.shape actor false acts)) (sym (own_parts actor both)) (parts_formed guest.shape lrs some most actor both formed);
            };
        proper = λ actor there.
            let start = opening_progress guest number actor in
            let first = subst (IsProper guest.shape actor start) (own_parts actor early) (before.proper actor there) in
            let second = subst (λ acts. IsProper guest.shape actor (progress_of guest.shape actor start acts) (acts_in (parts_by actor late))) (own_parts actor early) (then actor there) in
            subst (IsProper guest.shape actor start) (sym (own_parts actor both ∙ acts_both actor early late))
            ((proper_append guest.shape actor start (acts_in (parts_by actor early)) (acts_in (parts_by actor late))).1 (first, second));
      }
