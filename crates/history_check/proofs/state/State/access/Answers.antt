use Rattle.std.proofs.Common.{◌≡◌, IsTrue, map, subst, sym, ap, ◌∙◌}
use Rattle.std.specs.List.{list_all}
use Rattle.floor_histories.specs.Registers.{taken_by, deactivated_by, cpu_after, first_of, candidates_at}
use Rattle.floor_histories.specs.Histories.{cpu_at, interface_at, shown_at, standing_at}
use Rattle.history_check.specs.Access.{accessed_one}
use Rattle.history_check.specs.Ready.{fits}
use Rattle.history_check.proofs.ReadyLemmas.{here_fit, accessed_fit, after_is}
use Rattle.history_check.proofs.state.State.access.Goals as goal

pub set_standing-requires-clause-fits : goal.set_standing-requires-clause-fits
set_standing-requires-clause-fits c =
    let state = c.args.self.now in
    let here = standing_at state c.args.vcpu in
    let is : c.in_ok-standing.standing ≡ map (accessed_one c.taken-found.result c.ended.result) (map (shown_at state) here) = c.in_ok-standing.ensures in
    subst (λ s. IsTrue (list_all (fits s.guest.shape) c.in_ok-standing.standing)) (sym c.set_cpu.ensures.value)
    (subst (λ xs. IsTrue (list_all (fits state.guest.shape) xs)) (sym is) (accessed_fit state c.taken-found.result c.ended.result here (here_fit state c.args.vcpu c.requires.ready)))

pub returns-clause-after : goal.returns-clause-after
returns-clause-after c =
    let state = c.args.self.now in
    let vcpu = c.args.vcpu in
    let reg = c.args.reg in
    let write = c.args.write in
    let cpu = cpu_at state.guest vcpu in
    let shown = map (shown_at state) (standing_at state vcpu) in
    let cs = candidates_at (interface_at state vcpu) in
    let first : c.first_at-first.result ≡ first_of cs = c.first_at-first.ensures in
    let found : c.taken-found.result ≡ taken_by reg write c.cpu-cpu.result cs = c.taken-found.ensures cs first in
    let then : c.cpu_then.result ≡ cpu_after reg write cpu cs = c.cpu_then.ensures.value cs found ∙ ap (λ k. cpu_after reg write k cs) c.cpu-cpu.ensures in
    let taken : c.taken-found.result ≡ taken_by reg write cpu cs = found ∙ ap (λ k. taken_by reg write k cs) c.cpu-cpu.ensures in
    let ended : c.ended.result ≡ deactivated_by reg write cpu = c.ended.ensures ∙ ap (λ k. deactivated_by reg write k) c.cpu-cpu.ensures in
    let standing : c.in_ok-standing.standing ≡ map (accessed_one (taken_by reg write cpu cs) (deactivated_by reg write cpu)) shown =
    c.in_ok-standing.ensures ∙ ap (λ t. map (accessed_one t c.ended.result) shown) taken ∙ ap (λ e. map (accessed_one (taken_by reg write cpu cs) e) shown) ended in
    after_is state vcpu reg write c.cpu_then.result c.in_ok-standing.standing c.set_cpu.new.self c.set_standing.new.self then standing c.set_cpu.ensures.value c.set_standing.ensures.value
