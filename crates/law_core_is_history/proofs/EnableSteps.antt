-- EnableLPIs of a vCPU becomes 1.
use Rattle.std.proofs.Common.{◌≡◌, ◌≢◌, ℕ, ◌<◌, true, false, IsTrue, Option, refl, sym, ap, ◌∙◌, subst, length, inl, inr}
use Rattle.std.proofs.lemmas.List.{get_or-set_same, get_or-set_other, length-set}
use Rattle.std.proofs.lemmas.Bool.{cases_eq}
use Rattle.law_lines_translate.specs.Words.{GuestShape}
use Rattle.law_lines_translate.specs.Registers.{CpuRec, Maps}
use Rattle.law_lines_translate.specs.GicCall.declared.event.Found.TheVariants.{Lpis as FoundLpis}
use Rattle.law_lines_translate.specs.Calls.{opening_cpu}
use Rattle.law_lines_translate.specs.Histories.{cpu_at, with_cpu, Ideal}
use Rattle.law_lines_translate.specs.Core.{Local, EnableLpis, WordId, Irq as IrqWord, Vcpu, Queue, Ctlr, Plain, Index, Line, vcpu_of, CoreState}
use Rattle.law_core_is_history.specs.Related.{WordSays, SeatSays, locals_of, but_lpis, IsCpuRelated}
use Rattle.law_core_is_history.specs.Simulates.{IsSimulated}
use Rattle.law_core_is_history.proofs.RelatedLemmas.{locals_after, at_kept, says_same, frame, HasPlaces, places_of}
use Rattle.law_core_is_history.proofs.StepContext.{one, IsStep, has, says_found, lpis_back}

-- the ideal controller with a record of a vCPU's CPU interface
abbrev pub with_cpu_at : ℕ → CpuRec → Ideal → Ideal
with_cpu_at vcpu cpu ideal = record ideal { guest = with_cpu ideal.guest vcpu cpu }

module _ (shape : GuestShape) (ideal : Ideal) (vcpu : ℕ) (cpu : CpuRec) (places : HasPlaces shape ideal) (there : vcpu < shape.vcpus) where
  pub cpu_here : cpu_at (with_cpu_at vcpu cpu ideal).guest vcpu ≡ cpu
  cpu_here = get_or-set_same ideal.guest.cpus vcpu cpu (opening_cpu false) (subst (λ n. vcpu < n) (sym places.cpus) there)

  pub cpu_other : (other : ℕ) → other ≢ vcpu → cpu_at (with_cpu_at vcpu cpu ideal).guest other ≡ cpu_at ideal.guest other
  cpu_other other differ = get_or-set_other ideal.guest.cpus vcpu other cpu (opening_cpu false) differ

  pub places_with_cpu : HasPlaces shape (with_cpu_at vcpu cpu ideal)
  places_with_cpu = record { shape_is = places.shape_is; irqs = places.irqs; cpus = length-set ideal.guest.cpus vcpu cpu ∙ places.cpus; words = places.words; at = places.at }

  -- every word but the vCPU's says the same
  pub cpu_elsewhere : (locals : ℕ → Local) (w : WordId) (n : ℕ) → w ≢ Vcpu vcpu → WordSays shape locals ideal w n → WordSays shape locals (with_cpu_at vcpu cpu ideal) w n
  cpu_elsewhere locals (IrqWord key) n differ says = record { home = says.home; held = says.held }
  cpu_elsewhere locals (Vcpu other) n differ says = ap (λ (c : CpuRec). c.lpis) (cpu_other other (λ e. differ (ap Vcpu e))) ∙ says
  cpu_elsewhere locals Queue n differ says = record { turn = says.turn; offset = says.offset; stalled = says.stalled }
  cpu_elsewhere locals Ctlr n differ says = record { enables = says.enables; spreads = says.spreads }
  cpu_elsewhere locals (Plain index) n differ says = record { stored = says.stored; fault = says.fault }
  cpu_elsewhere locals (Index other number) n differ says = tt
  cpu_elsewhere locals (Line number) n differ says = tt

  -- each interface says the same, where EnableLPIs is set and the rest of the record stays
  pub seat_with_lpis : but_lpis cpu ≡ but_lpis (cpu_at ideal.guest vcpu) → IsTrue cpu.lpis → (other : ℕ) (local : Local) → SeatSays ideal other local → SeatSays (with_cpu_at vcpu cpu ideal) other local
  seat_with_lpis same set other local says = record { at = says.at; cpu = kept; given = says.given }
    where
      kept : IsCpuRelated local.cpu (cpu_at (with_cpu_at vcpu cpu ideal).guest other)
      kept = elim (cases_eq other vcpu) [
        | inl e ↦ subst (λ n. IsCpuRelated local.cpu (cpu_at (with_cpu_at vcpu cpu ideal).guest n)) (sym e) (subst (IsCpuRelated local.cpu) (sym cpu_here) (record { same = same ∙ ap (λ n. but_lpis (cpu_at ideal.guest n)) (sym e) ∙ says.cpu.same; lpis = λ h. set }))
        | inr differ ↦ subst (IsCpuRelated local.cpu) (sym (cpu_other other differ)) says.cpu
      ]

module _ {shape : GuestShape} {state : CoreState} {ideal : Ideal} {actor found left : ℕ} {tables : Option Maps} where
  pub simulates_enable : (vcpu : ℕ) → IsStep shape state ideal actor (EnableLpis vcpu) found left tables → IsSimulated shape state ideal (one actor (EnableLpis vcpu) found left tables)
  simulates_enable vcpu is =
      let cpu : CpuRec = record (cpu_at ideal.guest vcpu) { lpis = true } in
      let places = places_of shape state ideal is.related in
      let within : actor < length state.seats = subst (λ n. actor < n) (sym is.sound.actors) is.takes.actor in
      let same = says_same shape (locals_of state) (locals_after state actor _) (at_kept state actor _ within refl) in
      record {
        can = is.takes.can;
        allowed = refl;
        hands = sym (ap FoundLpis (says_found is));
        related = frame shape state ideal (with_cpu_at vcpu cpu ideal) actor _ (Vcpu vcpu) left state.maps is.good is.sound is.related is.takes.actor (has is)
            (record {
              here = ap (λ (c : CpuRec). c.lpis) (cpu_here shape ideal vcpu cpu places is.takes.can) ∙ sym (ap (λ n. (vcpu_of n).lpis) is.takes.left ∙ lpis_back (record { lpis = true; kick = true }));
              elsewhere = λ w n differ h says. cpu_elsewhere shape ideal vcpu cpu places is.takes.can (locals_after state actor _) w n differ (same ideal w n says);
              mine = λ there. seat_with_lpis shape ideal vcpu cpu places is.takes.can refl refl actor (locals_of state actor) (is.related.seats actor there);
              others = λ other local differ l says. seat_with_lpis shape ideal vcpu cpu places is.takes.can refl refl other local says;
            })
            is.related.maps (places_with_cpu shape ideal vcpu cpu places is.takes.can);
      }
