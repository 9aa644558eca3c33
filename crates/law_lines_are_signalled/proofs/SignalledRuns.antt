-- An interface that is up to date shows the lines of the ideal controller.
use Rattle.std.proofs.Common.{◌≡◌, ℕ, ◌<◌, ◌&&◌, ◌||◌, not, Bool, List, Option, None, is_some, if◌then◌else◌, Some, option_and_then, refl, sym, ap, ◌∙◌}
use Rattle.gic_line.specs.declared.lines.Lines.{Lines}
use Rattle.gic_line.specs.Lines.{lines_by}
use Rattle.law_serial_is_eager.specs.Words.{G0, G1, GuestShape, Iar1}
use Rattle.law_serial_is_eager.specs.Registers.{Candidate, CpuRec, InterfaceState, candidates_at, first_of, is_same_group, is_signalled}
use Rattle.law_serial_is_eager.specs.Histories.{IdealGuest, CanOpen, candidates, cpu_at, home, interface_at, opening_course}
use Rattle.law_serial_is_eager.specs.Core.{CoreState, CoreMoment, Progress, interface_of, opening, end_of_moments, ideal_of, progress_in, IsProperRun}
use Rattle.law_serial_is_eager.specs.LawCoreIsHistory.Laws.{AreCalls}
use Rattle.law_serial_is_eager.specs.LawScansMissNone.Excuse.{followed_in}
use Rattle.law_serial_is_eager.specs.LawLateOnesLeave.Late.{AccessesComeFirst}
use Rattle.law_serial_is_eager.specs.LawLoneAccessesFindAll.Lone.{AreAtEase, IsAlone, IsReadyFor}
use Rattle.law_serial_is_eager.specs.LawRegistersStand.Followed.{Followed}
use Rattle.law_serial_is_eager.proofs.LawCoreIsHistory.HistorySteps.{runs_history}
use Rattle.law_serial_is_eager.proofs.LawHomeCommutes.HomeLemmas.{home_rest}
use Rattle.law_serial_is_eager.proofs.LawAccessesShowHome.ShowRuns.{up_to_date_shows_home}
use Rattle.law_serial_is_eager.proofs.LawLoneAccessesFindAll.AskLemmas.{not_folding}
use Rattle.law_serial_is_eager.proofs.LawLoneAccessesFindAll.EaseRuns.{ease_is_up_to_date}
use Rattle.law_serial_is_eager.proofs.LawLoneAccessesFindAll.HereLemmas.{an_actor, cpu_is, interface_is}
use Rattle.law_serial_is_eager.proofs.LawLoneAccessesFindAll.LoneRuns.{lone_accesses_find_all}
use Rattle.law_lines_are_signalled.specs.Signalled.{LinesAreSignalled, MayTell, signalled_in}
use Rattle.law_lines_are_signalled.proofs.RestRuns.{is_alone, none_waits}

-- The lines.

-- the lines by the first of the candidates
line_by_first : CpuRec → Option Candidate → Lines
line_by_first cpu first =
    let of : Bool → Candidate → Option Candidate = λ b one. if b then Some one else None in
    record {
      irq = is_some (option_and_then (λ one. of (is_same_group one.group G1 && is_signalled one.prio one.group cpu) one) first);
      fiq = is_some (option_and_then (λ one. of (is_same_group one.group G0 && is_signalled one.prio one.group cpu) one) first);
    }

by_first : (cpu : CpuRec) (list : List Candidate) → lines_by cpu list ≡ line_by_first cpu (first_of list)
unfolding line_by_first
by_first cpu list = refl

module _ (guest : IdealGuest) (number : ℕ) (moments : List CoreMoment) (vcpu : ℕ) (good : CanOpen guest) (proper : IsProperRun guest number moments) (calls : AreCalls guest.shape (opening guest number) (opening_course guest) moments)
    (firsts : AccessesComeFirst guest number moments) (ease : AreAtEase guest number moments) (few : vcpu < guest.shape.vcpus) (may : MayTell guest.shape (end_of_moments guest.shape (opening guest number) moments) vcpu (progress_in guest number moments vcpu)) where
  abbrev shape : GuestShape
  shape = guest.shape

  abbrev state : CoreState
  state = end_of_moments guest.shape (opening guest number) moments

  abbrev at : Followed
  at = followed_in guest number moments

  abbrev p : Progress
  p = progress_in guest number moments vcpu

  alone : IsAlone guest number moments vcpu
  alone = is_alone guest number moments vcpu good proper ease (an_actor guest number moments good proper vcpu few)

  ready : IsReadyFor guest number moments vcpu Iar1 None
  ready =
      record {
        first = λ asks. record {
          asks = record { unkicked = may.unkicked; none_failed = may.none_failed; loaded = may.loaded; paid = may.paid; scanned = ap (λ b. not b || p.scanned) may.free };
          unwanted = none_waits guest number moments vcpu good proper ease;
        };
        ends = λ key e. absurd (cc);
      }

  -- the first at its interface is the first of all
  first_is : first_of (candidates_at (interface_at at.ideal vcpu)) ≡ first_of (candidates (home at.ideal) vcpu)
  first_is =
      (up_to_date_shows_home guest (ideal_of guest.shape (opening guest number) moments) vcpu Iar1 None good (runs_history guest number moments good proper.parted calls).history few (ease_is_up_to_date guest number moments good proper firsts ease)
      (lone_accesses_find_all guest number moments vcpu Iar1 None good proper few alone ready)).first refl

  cpu : cpu_at at.ideal.guest vcpu ≡ p.local.cpu
  cpu = cpu_is guest number moments good proper vcpu few may.unkicked (not_folding p.local.phase may.loaded.ready)

  home_cpu : cpu_at (home at.ideal) vcpu ≡ cpu_at at.ideal.guest vcpu
  home_cpu = ap (λ g. cpu_at g vcpu) (home_rest at.ideal)

  pub signalled : lines_by p.local.cpu (candidates_at (interface_of p.local)) ≡ signalled_in guest number moments vcpu
  signalled =
      by_first p.local.cpu (candidates_at (interface_of p.local))
      ∙ ap (λ (i : InterfaceState). line_by_first p.local.cpu (first_of (candidates_at i))) (sym (interface_is guest number moments good proper vcpu few cpu))
      ∙ ap (line_by_first p.local.cpu) first_is
      ∙ ap (λ c. line_by_first c (first_of (candidates (home at.ideal) vcpu))) (sym cpu ∙ sym home_cpu)
      ∙ sym (by_first (cpu_at (home at.ideal) vcpu) (candidates (home at.ideal) vcpu))

pub lines_are_signalled : LinesAreSignalled
lines_are_signalled guest number moments vcpu good proper calls firsts ease few may = signalled guest number moments vcpu good proper calls firsts ease few may
