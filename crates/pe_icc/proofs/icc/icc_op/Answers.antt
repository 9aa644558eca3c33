-- Tries, one after the other.
use Rattle.std.proofs.Common.{false, refl, sym, subst}
use Rattle.pe_loop.specs.VcpuState.declared.loaded.Loaded.{Loaded}
use Rattle.pe_icc.specs.declared.stay.Stay.{Stay}
use Rattle.pe_icc.specs.Icc.{IsAgain, Tries}
use Rattle.pe_icc.proofs.IccLemmas.{access_done, again_then, not_tried}
use Rattle.pe_icc.proofs.icc.icc_op.Goals as goal

pub loop-init : goal.loop-init
loop-init g c =
    let old = g.P.Port.seen c.args.port.now in
    let stay : Loaded → Stay = λ vcpu. record { vcpu = vcpu; owing = false } in
    (tt, tt, subst (λ vcpu. IsAgain old old c.args.reg c.args.write (stay c.args.vcpu.now) (stay vcpu)) (sym c.copy_of.ensures) (not_tried old c.args.reg c.args.write (stay c.args.vcpu.now) c.requires.up refl))

pub try_op-requires-clause-up : goal.try_op-requires-clause-up
try_op-requires-clause-up g c = c.loop.invariant.2.up

pub try_op-requires-clause-ending : goal.try_op-requires-clause-ending
try_op-requires-clause-ending g c = c.loop.invariant.2.ending

pub loop-preserved : goal.loop-preserved
loop-preserved g c =
    let now = g.P.Port.seen c.loop.port in
    let new = g.P.Port.seen c.try_op.new.port in (
      tt,
      tt,
      again_then (g.P.Port.seen c.args.port.now) now new c.args.reg c.args.write (record { vcpu = c.args.vcpu.now; owing = false }) c.loop.stay c.in-Again.next c.loop.invariant.2
          (subst (Tries now new c.args.reg c.args.write c.loop.stay) c.in-Again.is c.try_op.ensures),
    )

pub returns-in-Done : goal.returns-in-Done
returns-in-Done g c =
    let now = g.P.Port.seen c.loop.port in
    let new = g.P.Port.seen c.try_op.new.port in
    access_done (g.P.Port.seen c.args.port.now) now new c.args.reg c.args.write c.args.vcpu.now c.in-Done.after c.loop.stay c.in-Done.answer c.requires.up c.loop.invariant.2
    (subst (Tries now new c.args.reg c.args.write c.loop.stay) c.in-Done.is c.try_op.ensures)
