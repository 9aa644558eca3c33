-- Where a vCPU is, by another port that tells the same of it.
use Rattle.std.proofs.Common.{◌≡◌, sym, ap, subst, ◌∙◌}
use Rattle.law_serial_is_eager.specs.Histories.{IdealGuest}
use Rattle.pe_op.specs.VcpuState.declared.shelved.Shelved.{Shelved}
use Rattle.pe_op.specs.VcpuState.declared.loaded.Loaded.{Loaded}
use Rattle.law_serial_is_eager.specs.Lists.{StandFor}
use Rattle.gic_msi.specs.Core.{Local, interface_of, is_ready, is_vcpu, Seen, IsAtRest, Progress, is_settled, AtIrq}
use Rattle.std.specs.List.{list_all}
use Rattle.std.specs.Prelude.{not}
use Rattle.pe_op.specs.PeLoop.Enter.{IsBetween}
use Rattle.pe_op.specs.PeLoop.Stay.{IsActor, IsOff, IsOn, IsUp}
use Rattle.pe_place.specs.declared.place.Place.{Place}
use Rattle.pe_place.specs.declared.place.Place.TheVariants.{Shelf, Aside, Pe}
use Rattle.pe_place.specs.Place.{IsAt, IsFollowed}

-- two ports tell the same of an actor, but for the steps of others and the tables
pub record IsSame (one other : Seen) : Type 0 where
  pub number : other.number ≡ one.number
  pub guest : other.guest ≡ one.guest
  pub actor : other.actor ≡ one.actor
  pub local : other.local ≡ one.local

actor_same : (one other : Seen) (vcpu : Shelved) → IsSame one other → IsActor one vcpu → IsActor other vcpu
actor_same one other vcpu same is =
    record {
      guest = same.number ∙ is.guest;
      number = same.actor ∙ is.number;
      is_one = ap (λ (guest : IdealGuest). is_vcpu guest.shape other.actor) same.guest ∙ ap (is_vcpu one.guest.shape) same.actor ∙ is.is_one;
    }

pub off_same : (one other : Seen) (vcpu : Shelved) → IsSame one other → IsOff one vcpu → IsOff other vcpu
off_same one other vcpu same off =
    record {
      actor = actor_same one other vcpu same off.actor;
      cpu = ap (λ (local : Local). local.cpu) same.local ∙ off.cpu;
      empty = ap (λ (local : Local). local.at) same.local ∙ off.empty;
      settled = ap is_settled same.local ∙ off.settled;
    }

on_same : (one other : Seen) (vcpu : Loaded) → IsSame one other → IsOn one vcpu → IsOn other vcpu
on_same one other vcpu same on =
    record {
      actor = actor_same one other vcpu.base same on.actor;
      stands = subst (λ (local : Local). StandFor vcpu.regs vcpu.held (interface_of local)) (sym same.local) on.stands;
      cpu = on.cpu ∙ sym (ap (λ (local : Local). local.cpu) same.local);
      whole = ap (λ (local : Local). list_all (λ (at : AtIrq). not at.given) local.at) same.local ∙ on.whole;
      settled = ap is_settled same.local ∙ on.settled;
    }

pub up_same : (one other : Seen) (vcpu : Loaded) → IsSame one other → IsUp one vcpu → IsUp other vcpu
up_same one other vcpu same up =
    record {
      on = on_same one other vcpu same up.on;
      lrs = up.lrs;
      ready = ap (λ (local : Local). is_ready local.phase) same.local ∙ up.ready;
      free = up.free;
      bare = λ trapping. ap (λ (local : Local). local.at) same.local ∙ up.bare trapping;
    }

pub at_same : (one other : Seen) (place : Place) → IsSame one other → IsAt one place → IsAt other place
at_same one other (Shelf vcpu) same at = off_same one other vcpu same at
at_same one other (Aside vcpu) same at = off_same one other vcpu same at
at_same one other (Pe vcpu) same at = up_same one other vcpu same at

-- and of the steps that it made

pub rest_same : (one other : Seen) (p : Progress) → IsSame one other → other.own ≡ one.own → IsAtRest one p → IsAtRest other p
rest_same one other p same own rest = record { local = rest.local ∙ sym same.local; own = rest.own ∙ sym own; scan = rest.scan; wants = rest.wants }

between_same : (one other : Seen) (p : Progress) → IsSame one other → other.own ≡ one.own → IsBetween one p → IsBetween other p
between_same one other p same own between = record { rest = rest_same one other p same own between.rest; none_failed = between.none_failed; debt = between.debt }

pub followed_same : (one other : Seen) (place : Place) (p : Progress) → IsSame one other → other.own ≡ one.own → IsFollowed one place p → IsFollowed other place p
followed_same one other (Shelf vcpu) p same own so = between_same one other p same own so
followed_same one other (Aside vcpu) p same own so = between_same one other p same own so
followed_same one other (Pe vcpu) p same own so = record { rest = rest_same one other p same own so.rest; regs = so.regs; trapping = so.trapping; none_failed = so.none_failed; debt = so.debt }
