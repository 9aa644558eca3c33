use Rattle.std.proofs.Common.{◌≡◌, ◌<◌, ◌∙◌, ◌∷◌, ℕ, Option, take, length, replicate, zero, sym, subst}
use Rattle.std.specs.Prelude.{IfSome}
use Rattle.std.proofs.lemmas.List.{get_or_default}
use Rattle.gic_host.specs.State.{HostState}
use Rattle.gic_host.specs.Text.{registers_of}
use Rattle.gic_host.proofs.HostLemmas.{registers_some, registers_none}
use Rattle.gic_host.proofs.host.Host.registers.Goals as goal

pub returns-in-Some : goal.returns-in-Some
returns-in-Some c =
    let host : HostState = record { links = c.self.inside.links.items; cpus = c.self.inside.cpus.items; loaded = c.self.inside.loaded } in
    let loaded : IfSome c.self.inside.loaded (λ vcpu. vcpu < length c.args.self.now.cpus) = subst (λ (h : HostState). IfSome h.loaded (λ vcpu. vcpu < length c.args.self.now.cpus)) (sym c.self.view_is) c.requires.running.loaded in
    let few : c.in-Some.vcpu < length c.args.self.now.cpus = subst (λ (o : Option ℕ). IfSome o (λ vcpu. vcpu < length c.args.self.now.cpus)) c.in-Some.is loaded in
    let within : c.in-Some.vcpu < length c.self.inside.cpus.items = subst (λ (h : HostState). c.in-Some.vcpu < length h.cpus) (sym c.self.view_is) few in
    subst (λ (h : HostState). c.registers_for.result.hcr ∷ take c.args.lrs c.registers_for.result.words ≡ registers_of c.args.lrs h) c.self.view_is
    (registers_some c.args.lrs host c.in-Some.vcpu c.index.result.now c.as_slice.result.now (c.registers_for.result.hcr ∷ take c.args.lrs c.registers_for.result.words) c.in-Some.is c.as_slice.ensures.value
    (c.index.ensures ∙ get_or_default c.self.inside.cpus.items c.in-Some.vcpu _ _ within) (c.registers_for.ensures (length c.self.inside.cpus.items) within))

pub returns-in-None : goal.returns-in-None
returns-in-None c =
    let host : HostState = record { links = c.self.inside.links.items; cpus = c.self.inside.cpus.items; loaded = c.self.inside.loaded } in
    subst (λ (h : HostState). 0 ∷ take c.args.lrs (replicate 16 zero) ≡ registers_of c.args.lrs h) c.self.view_is (registers_none c.args.lrs host c.requires.lrs.1 c.in-None.is)
