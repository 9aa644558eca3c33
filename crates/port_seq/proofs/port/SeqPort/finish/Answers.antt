use Rattle.std.proofs.Common.{◌≡◌, All, None, ◌++◌, map, sym, ap, subst, ◌∙◌}
use Rattle.port_seq.specs.Ports.{told}
use Rattle.port_seq.specs.Told.{GuestTold}
use Rattle.port_seq.proofs.GuestsLemmas.{told_among}
use Rattle.port_seq.proofs.port.SeqPort.finish.Goals as goal

pub finish-requires : goal.finish-requires
finish-requires c =
    let at = c.loop-guest in
    let all = sym at.invariant.rest ∙ ap (λ rest. at.yielded ++ rest) c.in-Some.ensures.steps.0 in
    told_among (λ (t : GuestTold). t.taken ≡ None) at.yielded c.in-Some.guest _ (subst (λ ports. All (λ (t : GuestTold). t.taken ≡ None) (map told ports)) all c.requires)
