use Rattle.std.proofs.Common.{◌≤◌, ◌<◌, [], length, refl, sym, ap, subst, arith, ◌∙◌}
use Rattle.std.proofs.lemmas.Option.{same_Some}
use Rattle.std.proofs.lemmas.List.FromFn.{length-map-range_with_len}
use Rattle.port_ops.specs.PortCore.IdealGuests.CanOpen.{CanOpen}
use Rattle.port_ops.specs.PortCore.Actor.{actor_count}
use Rattle.port_ops.specs.PortCore.Place.{word_count}
use Rattle.port_ops.specs.PortCore.Run.{IsRun, opening, opening_word}
use Rattle.port_ops.specs.declared.opened.Opened.{Opened}
use Rattle.port_ops.specs.World.{state_after, locals_in}
use Rattle.port_seq.proofs.KeptLemmas.{opening_made, opening_sound}
use Rattle.port_seq.proofs.guest.GuestPort.start.Goals as goal

pub of_words-requires : goal.of_words-requires
of_words-requires c = record { world = []; view = refl; run = tt; words = c.as_slice.ensures ∙ c.in_ok-words.ensures c.args.opened.number }

pub invariant_of-result : goal.invariant_of-result
invariant_of-result c =
    let opened = c.args.opened in
    let vcpus : 1 ≤ opened.guest.shape.vcpus = c.requires.sound.shape.some_vcpu in
    let table = c.in_ok-table.ensures in
    let key = c.in_ok-table.table.shared.key in
    let is = table.5 in
    let good : CanOpen key.guest = subst (λ (o : Opened). CanOpen o.guest) (sym is) c.requires in
    let world = ap (λ me. me.0) table.4 in
    record {
      good = good;
      there = subst (λ (o : Opened). 0 < actor_count o.guest.shape) (sym is) (omega (arith, vcpus));
      same = ap (λ (o : Opened). o.guest.shape) (sym is);
      home = table.2;
      words =
          table.0 ∙ ap length (c.as_slice.ensures ∙ c.in_ok-words.ensures opened.number) ∙ length-map-range_with_len (opening_word opened.guest) 0 (word_count opened.guest.shape)
          ∙ ap (λ (o : Opened). word_count o.guest.shape) (sym is);
      slots = table.1;
      run = ∣ subst (IsRun key.guest.shape (opening key.guest key.number)) (sym world) tt ∣₁;
      sound = ∣ opening_sound key.guest key.number _ world good ∣₁;
      made = opening_made key.guest key.number _ world good;
      own = c.in_ok-locals.ensures ∙ ap (λ (o : Opened). locals_in (opening o.guest o.number)) (sym is) ∙ sym (ap (λ w. locals_in (state_after key.guest key.number w)) world);
      maps = λ maps e. sym (same_Some opened.guest.tables maps e) ∙ ap (λ (o : Opened). o.guest.tables) (sym is) ∙ sym (ap (λ w. (state_after key.guest key.number w).maps) world);
      turn = λ taker e. absurd (cc);
    }
