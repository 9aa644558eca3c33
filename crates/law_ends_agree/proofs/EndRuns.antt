-- The ends of runs with nothing at an interface.
use Rattle.std.proofs.Common.{◌≡◌, refl, sym, ap, subst, ◌∙◌}
use Rattle.std.proofs.lemmas.List.FromFn.{length-map-range_with_len}
use Rattle.port_ops.specs.Words.{GuestShape, interrupt_count, key_at, IsWord}
use Rattle.port_ops.specs.GuestWords.{word_among}
use Rattle.port_ops.proofs.GicOpen.KeyLemmas.{key_at_there}
use Rattle.guest_end.proofs.GicCall.PartLemmas.{each_made}
use Rattle.law_core_is_history.specs.Histories.{last_of, Ideal, IsSound as IsSoundGuest, CanOpen, IdealGuest}
use Rattle.guest_end.specs.GicIdeal.Ends.{end_of}
use Rattle.guest_end.proofs.IdealGuests.SoundLemmas.{sound_with_maps}
use Rattle.port_ops.specs.Registers.{IsValid as IsValidMaps}
use Rattle.law_core_is_history.specs.Core.{Irq, Queue, Vcpu, CoreState, IsSound, opening, seat_at, ideal_of}
use Rattle.law_core_is_history.specs.Related.{Related}
use Rattle.law_core_is_history.proofs.HistorySteps.{run_leads}
use Rattle.guest_end.specs.Home.{IsAtEnd}
use Rattle.law_ends_agree.specs.End.{words_in, cpus_in, told_in, without_past_fault, state_after, home_after, RunsEndAtHome}
use Rattle.law_ends_agree.proofs.EmptyLemmas.{home_is}
use Rattle.law_ends_agree.proofs.LineLemmas.{sound_without, lines_without}
use Rattle.law_ends_agree.proofs.SteadyRuns.{unmapped, steady_last}
use Rattle.law_ends_agree.proofs.TellLemmas.{guest_same}

-- the ideal guest is sound, since the core's maps are valid
sound_ideal : (shape : GuestShape) (state : CoreState) (ideal : Ideal) → IsSound shape state → Related shape state ideal → IsSoundGuest (unmapped ideal.guest) → IsSoundGuest ideal.guest
sound_ideal shape state ideal sound related steady =
    sound_with_maps (unmapped ideal.guest) ideal.guest.tables steady
    (subst (λ s. IsValidMaps s ideal.guest.tables) (sym related.shape_is) (subst (IsValidMaps shape) (sym related.maps) sound.maps))

-- an end can be told
told_end : (spec : IdealGuest) (state : CoreState) → CanOpen spec → IsSound spec.shape state → IsSoundGuest (told_in spec state) → IsAtEnd spec.shape (words_in spec.shape state) (cpus_in spec.shape state)
told_end spec state good sound told =
    record {
      well_formed =
          each_made IsWord (λ place. word_among spec.shape state.words (Irq (key_at spec.shape place))) (interrupt_count spec.shape)
          (λ place few. (sound.words (Irq (key_at spec.shape place)) (key_at_there spec.shape place good.sound.shape few)).word_is);
      queue = (sound.words Queue refl).0;
      each = length-map-range_with_len (λ vcpu. (seat_at state vcpu).local.cpu) 0 spec.shape.vcpus ∙ sym (length-map-range_with_len (λ vcpu. word_among spec.shape state.words (Vcpu vcpu)) 0 spec.shape.vcpus);
      sound = told;
    }

pub runs_end : RunsEndAtHome
runs_end guest number moments good parted calls empty =
    let state = state_after guest number moments in
    let ideal = last_of guest (ideal_of guest.shape (opening guest number) moments) in
    let leads = run_leads guest number moments good parted calls in
    let sound : IsSound guest.shape state = leads.at.sound in
    let related : Related guest.shape state ideal = leads.at.related in
    let same : told_in guest state ≡ without_past_fault ideal.guest = guest_same guest state ideal good.sound.shape sound related empty in
    let home : home_after guest number moments ≡ ideal.guest = home_is guest.shape state ideal sound related empty in
    let steady = steady_last guest (ideal_of guest.shape (opening guest number) moments) good leads.goes in
    record {
      told = told_end guest state good sound (subst IsSoundGuest (sym same) (sound_without ideal.guest (sound_ideal guest.shape state ideal sound related steady.guest)));
      guest_is = same ∙ sym (ap without_past_fault home);
      lines = λ opened. ap (end_of opened) same ∙ lines_without opened ideal.guest ∙ sym (ap (end_of opened) home);
    }
