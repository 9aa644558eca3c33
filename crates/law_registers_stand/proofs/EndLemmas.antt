-- Registers agree with the interface once all is claimed and taken, and where one interrupt is taken there to be ended.
use Rattle.std.proofs.Common.{◌≡◌, ℕ, ◌≤◌, inl, inr, true, IsTrue, List, [], ◌∷◌, ◌++◌, map, Contains, Some, refl, sym, ap, subst, ◌∙◌}
use Rattle.std.proofs.lemmas.Option.{same_Some}
use Rattle.law_core_is_history.specs.Words.{Key, GuestShape, IsShape, Irq as IrqRecord, is_number}
use Rattle.law_core_is_history.specs.Calls.{reached}
use Rattle.law_core_is_history.specs.Lists.{IchRegs, HoldCpu, Seen, seen_in, seen_of, listed_of, Active, packed, Choice, FitsRegister, chosen_as}
use Rattle.law_core_is_history.proofs.GicIcv.PlaceLemmas.{from_map, map_among}
use Rattle.law_core_is_history.proofs.VcpuRefill.ElementLemmas.{Contains-here, Contains-cases, Contains-nothing}
use Rattle.law_core_is_history.proofs.VcpuRefill.StandLemmas.{stands_chosen}
use Rattle.law_core_is_history.specs.Core.{AtIrq, Local, Made, claimed_at, interface_of, shown, arrived, entry_for, IsLocal, alone, RegistersAgree}
use Rattle.law_core_is_history.proofs.CoreProper.InterfaceLemmas.{is_interface}
use Rattle.law_core_is_history.proofs.CoreProper.ReachLemmas.{number_is, reached_local}
use Rattle.law_registers_stand.proofs.AloneLemmas.{alone_holds, alone_shows}
use Rattle.law_registers_stand.proofs.ComeLemmas.{seen_choice, Comes, IsClaiming}
use Rattle.law_registers_stand.proofs.KeyLemmas.{keys_of}
use Rattle.law_registers_stand.proofs.ShowLemmas.{lives, Shows, IsSeenAmong, shows_agree, shows_as}

-- nothing is left to be claimed or taken
pub settled_agrees : (shape : GuestShape) (vcpu : ℕ) (local : Local) (own : List Made) (regs : IchRegs) → IsShape shape → IsLocal shape vcpu local → IsClaiming shape vcpu local own regs [] [] → RegistersAgree regs local
settled_agrees shape vcpu local own regs good is_local is =
    shows_agree regs (interface_of local) (is_interface shape vcpu local good is_local) (shows_as (listed_of regs) (Comes is.rest [] local.at) (IsSeenAmong (map shown local.at)) to from is.shows) is.holds
  where
    none : (rest : List Choice) → [] ≡ keys_of rest → (c : Choice) → Contains rest c → ⊥
    none [] e c has = Contains-nothing c has
    none (d ∷ rest) e c has = absurd (cc)

    to : (s : Seen) → Comes is.rest [] local.at s → IsSeenAmong (map shown local.at) s
    to s (inl awaited) = absurd (none is.rest is.keys awaited.choice awaited.among)
    to s (inr here) = record { entry = shown here.entry; among = map_among shown local.at here.entry (shown here.entry) here.among refl; is = here.is }

    from : (s : Seen) → lives s ≡ true → IsSeenAmong (map shown local.at) s → Comes is.rest [] local.at s
    from s h among =
        let of = from_map shown local.at among.entry among.among in
        inr (record { entry = of.0; among = of.1; is = ap seen_of of.2 ∙ among.is })

-- an interrupt that is active by the vCPU is taken to its empty interface, to list register 0
module _ (shape : GuestShape) (vcpu n : ℕ) (local : Local) (key : Key) (irq : IrqRecord) (some : 1 ≤ n) (few : n ≤ 16) (empty : local.at ≡ []) (fits : FitsRegister (record { key = key; irq = irq })) (active : IsTrue (is_number vcpu irq.act_by)) where
  abbrev choice : Choice
  choice = chosen_as Active (record { key = key; irq = irq })

  abbrev come : AtIrq
  come = arrived key irq (reached irq).entry

  abbrev later : Local
  later = claimed_at shape vcpu key irq local

  later_at : later.at ≡ come ∷ []
  later_at = ap (λ (l : Local). l.at) (reached_local shape vcpu key irq local (ap (entry_for key) empty)) ∙ ap (λ at. at ++ come ∷ []) empty

  come_seen : seen_of (shown come) ≡ seen_choice choice
  come_seen = ap (λ o. seen_of (shown (arrived key irq (reached (record irq { act_by = o })).entry))) (number_is vcpu irq.act_by active)

  only : (c : Choice) → Some choice ≡ Some c → IsSeenAmong (map shown (come ∷ [])) (seen_in (packed c.entry))
  only c e = record { entry = shown come; among = Contains-here (shown come) []; is = come_seen ∙ sym (stands_chosen choice fits refl).seen ∙ ap (λ (x : Choice). seen_in (packed x.entry)) (same_Some choice c e) }

  whole : (s : Seen) → lives s ≡ true → IsSeenAmong (map shown (come ∷ [])) s → (c : Choice) × (Some choice ≡ Some c) × (seen_in (packed c.entry) ≡ s)
  whole s h among = elim (Contains-cases (shown come) among.entry [] among.among) [
    | inl same ↦ (choice, refl, (stands_chosen choice fits refl).seen ∙ sym come_seen ∙ ap seen_of same ∙ among.is)
    | inr none ↦ absurd (Contains-nothing among.entry none)
  ]

  pub far_agrees : IsShape shape → IsLocal shape vcpu later → RegistersAgree (alone (Some choice) local.cpu n) later
  far_agrees good is_local =
      shows_agree (alone (Some choice) local.cpu n) (interface_of later) (is_interface shape vcpu later good is_local)
      (subst (λ at. Shows (listed_of (alone (Some choice) local.cpu n)) (IsSeenAmong (map shown at))) (sym later_at) (alone_shows (Some choice) local.cpu n some few (IsSeenAmong (map shown (come ∷ []))) only whole))
      (subst (HoldCpu (alone (Some choice) local.cpu n)) (sym (ap (λ (l : Local). l.cpu) (reached_local shape vcpu key irq local (ap (entry_for key) empty)))) (alone_holds (Some choice) local.cpu n))
