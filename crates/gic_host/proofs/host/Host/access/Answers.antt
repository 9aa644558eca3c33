use Rattle.std.proofs.Common.{◌≡◌, ◌<◌, ◌∙◌, List, ap, set, length, sym, subst}
use Rattle.std.proofs.lemmas.List.{get_or_default, length-map, with_items_is}
use Rattle.gic_host.specs.declared.state.LinkState.{LinkState}
use Rattle.gic_host.specs.State.{HostState, after_access}
use Rattle.gic_host.proofs.HostLemmas.{state_after}
use Rattle.gic_host.proofs.host.Host.access.Goals as goal

pub returns-clause-state : goal.returns-clause-state
returns-clause-state c =
    let host : HostState = record { links = c.self.inside.links.items; cpus = c.self.inside.cpus.items; loaded = c.self.inside.loaded } in
    let within : c.args.vcpu < length c.self.inside.cpus.items = subst (λ (h : HostState). c.args.vcpu < length h.cpus) (sym c.self.view_is) c.requires.vcpu in
    let long : length c.access_links-done.new.states ≡ c.self.inside.links.len = ap length c.access_links-done.ensures.links ∙ length-map c.as_mut_slice.result.now _ ∙ ap length c.as_mut_slice.ensures.value ∙ sym c.self.inside.links.ok.0 in
    ap (λ (links : List LinkState). record host { links = links; cpus = set c.self.inside.cpus.items c.args.vcpu c.access_links-done.result.cpu }) (with_items_is c.self.inside.links c.access_links-done.new.states long)
    ∙ subst (λ (h : HostState). record host { links = c.access_links-done.new.states; cpus = set c.self.inside.cpus.items c.args.vcpu c.access_links-done.result.cpu } ≡ after_access c.args.reg c.args.write c.args.vcpu h) c.self.view_is
    (state_after c.args.reg c.args.write c.args.vcpu host c.index.result.now c.access_links-done.result.cpu c.as_mut_slice.result.now c.access_links-done.new.states c.as_mut_slice.ensures.value (c.index.ensures ∙ get_or_default c.self.inside.cpus.items c.args.vcpu _ _ within)
    c.access_links-done.ensures.cpu c.access_links-done.ensures.links)
