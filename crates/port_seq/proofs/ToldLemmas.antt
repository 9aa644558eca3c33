-- What a step adds to what is told.
use Rattle.std.proofs.Common.{◌≡◌, ℕ, ◌<◌, [], ◌∷◌, ◌++◌, Some, sym, ap, subst, ◌∙◌}
use Rattle.std.proofs.lemmas.List.{get_or-set_same}
use Rattle.port_ops.specs.PortCore.IdealGuests.CanOpen.{CanOpen}
use Rattle.port_ops.specs.PortCore.declared.step.CoreStep.{CoreStep}
use Rattle.port_ops.specs.PortCore.Actor.{actor_count}
use Rattle.port_ops.specs.PortCore.After.{local_after}
use Rattle.port_ops.specs.PortCore.Port.{AddsStep, word_by, left_by}
use Rattle.port_ops.specs.PortCore.Run.{IsRun, Takes, Seat, no_seat, opening, seat_at, handed_maps}
use Rattle.port_ops.specs.PortCore.Valid.{CanFind}
use Rattle.port_ops.proofs.PortCore.RunLemmas.{runs_joined}
use Rattle.port_ops.proofs.PortCore.StepLemmas.{found_valid, entry_keeps, tables_handed, tables_valid}
use Rattle.port_seq.proofs.KeptLemmas.{told_sound}
use Rattle.port_seq.specs.Told.{GuestTold, state_of, seen_of, entry_of, with_step}
use Rattle.port_ops.proofs.WorldLemmas.{each_seat}

-- the actor that is told, after a step of it
seat_after : GuestTold → CoreStep → ℕ → Seat
seat_after told step found =
    record {
      local = local_after told.guest.shape told.actor (seat_at (state_of told) told.actor).local step found;
      own = (seat_at (state_of told) told.actor).own ++ (entry_of told step found).made ∷ [];
    }

seat_now : (told : GuestTold) (step : CoreStep) (found : ℕ) → told.actor < actor_count told.guest.shape → seat_at (state_of (with_step told step found)) told.actor ≡ seat_after told step found
unfolding seat_after
seat_now told step found there =
    ap (λ s. seat_at s told.actor) (runs_joined.end told.guest.shape (opening told.guest told.number) told.world (entry_of told step found ∷ []))
    ∙ get_or-set_same (state_of told).seats told.actor (seat_after told step found) no_seat (subst (λ n. told.actor < n) (sym (each_seat told.guest told.number told.world)) there)

module _
    (told new : GuestTold) (step : CoreStep) (found : ℕ) (good : CanOpen told.guest) (run : IsRun told.guest.shape (opening told.guest told.number) told.world)
    (takes : Takes told.guest.shape (state_of told) (entry_of told step found)) (is : new ≡ with_step told step found) where
  -- it finds a valid word that agrees with its actor
  pub told_found : CanFind told.guest.shape told.actor (seen_of told).local (word_by (seen_of told) step) found
  told_found = found_valid told.guest.shape (state_of told) (entry_of told step found) good.sound.shape (told_sound told good run) takes

  -- it leaves one
  pub told_left : CanFind told.guest.shape told.actor (seen_of new).local (word_by (seen_of told) step) (left_by (seen_of told) step found)
  unfolding seat_after
  told_left =
      let kept = entry_keeps told.guest.shape (state_of told) (entry_of told step found) good.sound.shape (told_sound told good run) takes in
      let local = ap (λ t. (seen_of t).local) is ∙ ap (λ s. s.local) (seat_now told step found takes.actor) in
      subst (λ l. CanFind told.guest.shape told.actor l (word_by (seen_of told) step) (left_by (seen_of told) step found)) (sym local) (record { valid = kept.valid; ties = kept.here })

  -- it is one step more, and nothing else changes
  pub told_adds : AddsStep (seen_of told) (seen_of new) step found
  unfolding seat_after
  told_adds =
      record {
        tables = handed_maps told.guest.shape told.actor (state_of told) step found;
        handed =
            record {
              where_taken = tables_handed told.guest.shape (state_of told) (entry_of told step found) takes;
              valid = tables_valid told.guest.shape (state_of told) (entry_of told step found) (told_sound told good run) takes;
            };
        adds =
            record {
              new_is =
                  ap seen_of is
                  ∙ ap (λ (s : Seat). record (seen_of told) { local = s.local; own = s.own; world = Some (told.world ++ entry_of told step found ∷ []) }) (seat_now told step found takes.actor);
            };
      }
