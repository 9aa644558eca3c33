-- An operation of a vCPU, as a part of its own.
use Rattle.std.proofs.Common.{◌≡◌, ◌≢◌, ℕ, true≢false, Bool, true, false, if◌then◌else◌, Option, refl, sym, ap, ◌∙◌}
use Rattle.std.proofs.lemmas.Bool.{ne_eqb}
use Rattle.guest_end.specs.Words.{GuestOp, Icc, Mem}
use Rattle.guest_end.specs.Calls.{Access}
use Rattle.port_seq.specs.Told.{GuestTold}
use Rattle.law_entries_are_plans.specs.LawSerialIsEager.Serial.{is_icc}
use Rattle.seq_guest.specs.declared.vcpus.Vcpus.{Vcpus}
use Rattle.pe_place.specs.Place.{Spot, shelf, aside, pe, gone_aside, returned}
use Rattle.seq_guest.specs.Operation.{is_of_registers}
use Rattle.pe_place.specs.Parts.{AreOneCall, AreResidences}
use Rattle.seq_guest.specs.Guest.{AreAt, GoesOn, IsAlone, MakesWay, Operates, ChangesSpots, but_one, spot_at}
use Rattle.seq_guest.proofs.GuestLemmas.{goes_about, goes_none, goes_then}

-- who left for a while comes back

pub back_again : (spot : Spot) → spot ≢ aside → returned spot ≡ spot
back_again shelf apart = refl
back_again aside apart = absurd (apart refl)
back_again pe apart = refl

pub back_from_aside : (spot : Spot) → spot ≢ aside → returned (gone_aside spot) ≡ spot
back_from_aside shelf apart = refl
back_from_aside aside apart = absurd (apart refl)
back_from_aside pe apart = refl

-- Others make way.

gone_off : (spot : Spot) → gone_aside spot ≢ pe
gone_off shelf e = cc
gone_off aside e = cc
gone_off pe e = cc

alone_then : (a b : Vcpus) (vcpu : ℕ) → ChangesSpots (but_one vcpu gone_aside) a b → IsAlone vcpu b
alone_then a b vcpu spots =
    record {
      others = λ other apart on.
          gone_off (spot_at a other) (sym (spots.spot other ∙ ap (λ (t : Bool). if t then spot_at a other else gone_aside (spot_at a other)) (ne_eqb other vcpu apart)) ∙ on);
    }

not_both : (op : GuestOp) → is_icc (Access op) ≡ true → is_of_registers op ≡ true → ⊥
not_both (Icc reg write) icc registers = true≢false (sym registers)
not_both (Mem frame offset size write) icc registers = true≢false (sym icc)

pub way_made : (old new : GuestTold) (a b : Vcpus) (vcpu : ℕ) (op : GuestOp) → is_of_registers op ≡ true → GoesOn AreResidences old new a b → ChangesSpots (but_one vcpu gone_aside) a b → MakesWay old new a b vcpu op
way_made old new a b vcpu op is goes_on spots = record { goes_on = goes_on; none = λ icc. absurd (not_both op icc is); alone = λ is. alone_then a b vcpu spots }

pub way_free : (told : GuestTold) (a : Vcpus) (vcpu : ℕ) (op : GuestOp) → is_of_registers op ≡ false → AreAt told a → MakesWay told told a a vcpu op
unfolding goes_none
way_free told a vcpu op is at = record { goes_on = goes_none told told.actor a at; none = λ icc. refl; alone = λ registers. absurd (true≢false (sym registers ∙ is)) }

pub operates :
    (first away done back last : GuestTold) (a b d e f : Vcpus) (vcpu : ℕ) (op : GuestOp) (answer : Option ℕ) → MakesWay first away a b vcpu op → GoesOn (AreOneCall vcpu (Access op) answer) away done b d → GoesOn AreResidences done back d e → GoesOn AreResidences back last e f
    → Operates first last a f vcpu op answer
operates first away done back last a b d e f vcpu op answer way does returns answers =
    let about = goes_about vcpu (Access op) answer first away done last a b d f way.goes_on does (goes_then done back last d e f returns answers) in
    record { goes_on = about.goes_on; between = away; there = b; way = way; early_is = about.early_is }
