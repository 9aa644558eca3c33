use Rattle.std.proofs.Common.{◌<◌, Some, length, sym, subst, arith, set}
use Rattle.gic_ich.specs.GicLr.Entry.{packed}
use Rattle.gic_ich.specs.Place.{StandFor}
use Rattle.vcpu_state.proofs.PlaceLemmas.{put_stands}
use Rattle.vcpu_state.proofs.loaded.Loaded.put.Goals as goal

pub returns-clause-stands : goal.returns-clause-stands
returns-clause-stands c interface one at stand below free new stands with =
    let vcpu = c.args.self.now in
    let inside : c.args.place < length vcpu.regs.lr = omega arith in
    let room : c.args.place < length vcpu.held = omega arith in
    subst (λ word. StandFor (record vcpu.regs { lr = set vcpu.regs.lr c.args.place word }) (set vcpu.held c.args.place (Some c.args.held)) (record interface { at = at })) (sym c.pack.ensures.value)
    (put_stands vcpu.regs vcpu.held interface at c.args.place (packed c.args.entry.now) c.args.held one inside room stand below free new stands with)
