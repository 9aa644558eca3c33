-- A moment goes on with a legal list.
use Rattle.std.proofs.Common.{◌≡◌, ◌↔◌, ℕ, ◌+◌, Bool, true, false, IsTrue, List, [], ◌∷◌, ◌++◌, sym, ◌∙◌, subst, true≢false}
use Rattle.trace_told.specs.Calls.{Moment}
use Rattle.trace_told.specs.Histories.{IdealGuest}
use Rattle.trace_told.specs.LegalPlay.LegalSteps.Step.{Pass, passed, pass_of, actor_of, GoesOnLegally}
use Rattle.trace_told.specs.LegalPlay.Board.{BoardOf, GoesOnInParts}
use Rattle.trace_told.proofs.LegalPlay.PartsLaw.{parts_are_all}
use Rattle.history_turns.specs.Noted.{NotedOf}
use Rattle.gic_check.specs.Notes.{AreAllDone}
use Rattle.gic_check.specs.Play.{PlayOf, IsPlayed, MayCome, StaysLegal, Goes}
use Rattle.gic_check.proofs.PlayLemmas.{one_more}

module _ (guest : IdealGuest) (moments : List Moment) (board : BoardOf) (notes : List NotedOf) (is : IsPlayed guest moments board notes) (moment : Moment) where
  in_parts : GoesOnLegally guest (pass_of guest moments) moment ↔ GoesOnInParts guest (pass_of guest moments) board moment
  in_parts = parts_are_all guest (pass_of guest moments) board moment is.of

  pub does_not_go : (may : Bool) (count : ℕ) (play : PlayOf) → may ≡ false → IsTrue may ↔ MayCome (pass_of guest moments) board moment → Goes guest moments moment count play false
  does_not_go may count play not so = record {
    value = (
      λ h. absurd (true≢false (sym h)),
      λ goes. let parts = in_parts.0 goes in absurd (true≢false (sym (so.1 (record { coming = parts.coming; right = parts.right; fresh = parts.fresh })) ∙ not)),
    );
    played = λ h. absurd (true≢false (sym h));
    done = λ h. absurd (true≢false (sym h));
    counted = λ h. absurd (true≢false (sym h));
  }

  pub goes_where : (may stays : Bool) (count : ℕ) (next : PlayOf) → may ≡ true → IsTrue may ↔ MayCome (pass_of guest moments) board moment → IsPlayed guest (moments ++ moment ∷ []) next.board next.notes → AreAllDone next.board.state next.done
      → next.board.moments ≡ count + 1 → IsTrue stays ↔ StaysLegal guest (pass_of guest (moments ++ moment ∷ [])) (actor_of moment) → Goes guest moments moment count next stays
  goes_where may stays count next on so played done counted legal =
      let after : IsTrue stays ↔ StaysLegal guest (passed (pass_of guest moments) moment) (actor_of moment) = subst (λ (p : Pass). IsTrue stays ↔ StaysLegal guest p (actor_of moment)) (one_more guest moments moment) legal in
      let first = so.0 on in
      record {
        value = (
          λ h. let left = after.0 h in in_parts.1 (record { coming = first.coming; right = first.right; fresh = first.fresh; begun = left.begun; answered = left.answered }),
          λ goes. let parts = in_parts.0 goes in after.1 (record { begun = parts.begun; answered = parts.answered }),
        );
        played = λ h. played;
        done = λ h. done;
        counted = λ h. counted;
      }
