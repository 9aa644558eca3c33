use Rattle.std.proofs.Common.{ap, ◌∙◌}
use Rattle.gic_ideal.specs.Ends.{end_of as end_between}
use Rattle.guest_end.specs.Home.{guest_of}
use Rattle.guest_end.proofs.HomeLemmas.{sound_unmapped}
use Rattle.guest_end.proofs.home.end_of.Goals as goal

pub end_of-requires-clause-closed : goal.end_of-requires-clause-closed
end_of-requires-clause-closed c =
    sound_unmapped c.in_ok-closed.closed (guest_of c.args.spec.now.shape c.args.words.now c.args.cpus.now) c.args.words.now.tables c.in_ok-closed.ensures.unmapped c.in_ok-closed.ensures.value c.requires.ended.sound

pub returns : goal.returns
returns c =
    c.in_ok-end_of.ensures
    ∙ ap (λ closed. end_between c.in_ok-opened.opened closed) c.in_ok-closed.ensures.value
    ∙ ap (λ opened. end_between opened (guest_of c.args.spec.now.shape c.args.words.now c.args.cpus.now)) c.in_ok-opened.ensures.value
