-- The step of a PE, by its operation and by who stands there.
use Rattle.std.proofs.Common.{◌≤◌, get_or, None, sym, ap, subst, ◌∙◌}
use Rattle.law_ends_agree.specs.Words.{MAX_LIST_REGISTERS}
use Rattle.law_one_thread_is_eager.specs.PortSeq.Ports.{told_all}
use Rattle.run_seq.proofs.PlaceLemmas.{after_as, has_entered, has_left, none_left, who_enters, who_stands}
use Rattle.run_seq.proofs.machine.Machine.pe_step.Goals.{in-Enter-default, in-Exit-Some, in-Exit-None}
use Rattle.run_seq.proofs.machine.Machine.pe_step.Goals as goal

pub enter-requires : goal.enter-requires
enter-requires g c = who_enters c.args.self.now (told_all c.args.port.now) c.args.pe c.args.op c.in-Enter-default.guest c.in-Enter-default.vcpu c.in-Enter-default.is-0 c.requires.ready

pub leave-requires : goal.leave-requires
leave-requires g c = (who_stands c.args.self.now (told_all c.args.port.now) c.args.pe c.args.op c.in-Exit-Some.name (ap (λ pes. get_or pes c.args.pe None) (sym c.as_slice.ensures) ∙ c.in-Exit-Some.is-1) c.requires.ready).one

pub show-requires-clause-loaded : goal.show-requires-clause-loaded
show-requires-clause-loaded g c = who_stands c.args.self.now (told_all c.args.port.now) c.args.pe c.args.op c.in-Lrs-Some.name (ap (λ pes. get_or pes c.args.pe None) (sym c.as_slice.ensures) ∙ c.in-Lrs-Some.is-1) c.requires.ready

-- a PE has at most sixteen list registers
pub zeros-requires-clause-lrs : goal.zeros-requires-clause-lrs
zeros-requires-clause-lrs g c = let at = c.requires.ready.of.at in subst (λ n. n ≤ MAX_LIST_REGISTERS) (sym at.lrs_is) at.few_lrs

pub returns : goal.returns
returns g c =
    elim c.match-op.branch [
      | in-Enter-default w ↦
          after_as c.args.self.now (told_all c.args.port.now) c.args.pe c.args.op w.enter.new.self c.match-op.self w.enter.new.port c.match-op.port w.self-is w.port-is
          (has_entered c.args.self.now (told_all c.args.port.now) c.args.pe c.args.op w.enter.new.self (told_all w.enter.new.port) w.in-Enter-default.guest w.in-Enter-default.vcpu w.in-Enter-default.is-0 w.enter.ensures)
      | in-Exit-Some w ↦
          after_as c.args.self.now (told_all c.args.port.now) c.args.pe c.args.op w.leave.new.self c.match-op.self w.leave.new.port c.match-op.port w.self-is w.port-is
          (has_left c.args.self.now (told_all c.args.port.now) c.args.pe c.args.op w.leave.new.self (told_all w.leave.new.port) w.in-Exit-Some.name w.in-Exit-Some.is-0 (ap (λ pes. get_or pes c.args.pe None) (sym c.as_slice.ensures) ∙ w.in-Exit-Some.is-1) w.leave.ensures)
      | in-Exit-None w ↦
          none_left c.args.self.now (told_all c.args.port.now) c.args.pe c.args.op c.match-op.self (told_all c.match-op.port) w.in-Exit-None.is-0 (ap (λ pes. get_or pes c.args.pe None) (sym c.as_slice.ensures) ∙ w.in-Exit-None.is-1) w.self-is (ap told_all w.port-is)
    ]
