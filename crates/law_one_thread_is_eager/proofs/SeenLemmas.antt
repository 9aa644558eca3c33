-- What is told of the actors of a guest after a part of one of them.
use Rattle.std.proofs.Common.{◌≡◌, ◌≢◌, ℕ, ◌==◌, Bool, if◌then◌else◌, List, [], ◌∷◌, ◌++◌, map, filter, length, refl, ap, ◌∙◌}
use Rattle.std.proofs.lemmas.Bool.{eq-eqb}
use Rattle.law_found_parts_are_calls.specs.Words.{GuestShape}
use Rattle.law_found_parts_are_calls.specs.Histories.{CanOpen}
use Rattle.law_found_parts_are_calls.specs.Core.{Entry, Made, actor_count, seen_after, CoreState, IsRun, Seat, end_of, opening, own_steps, seat_at, entry_by}
use Rattle.law_found_parts_are_calls.proofs.PortCore.RunLemmas.{local_of_run, own_of_run, run_splits, runs_joined}
use Rattle.seq_guest.proofs.PortSeq.KeptLemmas.{told_sound}
use Rattle.seq_guest.specs.PortSeq.Told.{GuestTold, state_of}
use Rattle.law_found_parts_are_calls.specs.LawSerialIsEager.Serial.{WholePart}
use Rattle.seq_guest.specs.Guest.{seen_by}
use Rattle.seq_guest.proofs.PePlace.PartsLemmas.{TellsSame}
use Rattle.seq_guest.proofs.SeatLemmas.{seat_stays}

-- a guest after a part
abbrev pub told_after : GuestTold → WholePart → GuestTold
told_after told part = record told { world = told.world ++ map (entry_by part.actor) part.steps }

own_mine : (actor : ℕ) (steps : List Made) → own_steps actor (map (entry_by actor) steps) ≡ steps
own_mine actor [] = refl
own_mine actor (made ∷ steps) =
    let rest = filter (λ (entry : Entry). entry.actor == actor) (map (entry_by actor) steps) in
    ap (λ (b : Bool). map (λ (entry : Entry). entry.made) (if b then entry_by actor made ∷ rest else rest)) (eq-eqb actor actor refl) ∙ ap (λ steps. made ∷ steps) (own_mine actor steps)

module _ (told : GuestTold) (part : WholePart) (good : CanOpen told.guest) (run : IsRun told.guest.shape (opening told.guest told.number) (told_after told part).world) where
  abbrev shape : GuestShape
  shape = told.guest.shape

  abbrev entries : List Entry
  entries = map (entry_by part.actor) part.steps

  pub state_then : state_of (told_after told part) ≡ end_of shape (state_of told) entries
  state_then = runs_joined.end shape (opening told.guest told.number) told.world entries

  both : IsRun shape (opening told.guest told.number) told.world × IsRun shape (state_of told) entries
  both = run_splits shape (opening told.guest told.number) told.world entries run

  each : length (state_of told).seats ≡ actor_count shape
  each = (told_sound told good both.0).actors

  -- of its actor
  pub seen_mine : TellsSame (seen_after (seen_by told part.actor) part.steps) (seen_by (told_after told part) part.actor)
  seen_mine =
      record {
        guest = refl;
        actor = refl;
        local =
            ap (λ (state : CoreState). (seat_at state part.actor).local) state_then
            ∙ local_of_run shape (state_of told) entries part.actor each both.1
            ∙ ap (λ steps. (seen_after (seen_by told part.actor) steps).local) (own_mine part.actor part.steps);
        own =
            ap (λ (state : CoreState). (seat_at state part.actor).own) state_then
            ∙ own_of_run shape (state_of told) entries part.actor each both.1
            ∙ ap (λ steps. (seat_at (state_of told) part.actor).own ++ steps) (own_mine part.actor part.steps);
      }

  -- of another
  pub seen_other : (other : ℕ) → other ≢ part.actor → TellsSame (seen_by told other) (seen_by (told_after told part) other)
  seen_other other apart =
      let same = ap (λ (state : CoreState). seat_at state other) state_then ∙ seat_stays shape (state_of told) part.actor other part.steps apart in
      record { guest = refl; actor = refl; local = ap (λ (seat : Seat). seat.local) same; own = ap (λ (seat : Seat). seat.own) same }
