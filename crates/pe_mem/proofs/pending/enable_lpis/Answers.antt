-- The step, the look at the table's address, and the table.
use Rattle.std.proofs.Common.{◌≡◌, ◌<◌, sym, ap, subst, ◌∙◌, arith}
use Rattle.its_exec.specs.Calls.{Pendbaser}
use Rattle.its_exec.specs.Core.{shape_of}
use Rattle.its_exec.proofs.LookLemmas.{plain_known}
use Rattle.pe_mem.proofs.EnableLemmas.{enables_again, enables_none, enables_table, ease_after, shape_after}
use Rattle.pe_mem.proofs.TableLemmas.{TableSoFar, table_none, table_more}
use Rattle.pe_mem.proofs.pending.enable_lpis.Goals as goal

pub returns-then-of : goal.returns-then-of
returns-then-of g c =
    enables_again (g.P.Port.seen c.args.port.now) (g.P.Port.seen c.step-word.new.self) c.args.vcpu c.step-word.result c.requires.ease (ap (λ word. word.lpis) (sym c.of.ensures) ∙ c.if-of.true) c.step-word.ensures.adds

pub returns-then-has_bit : goal.returns-then-has_bit
returns-then-has_bit g c =
    enables_none (g.P.Port.seen c.args.port.now) (g.P.Port.seen c.step-word.new.self) (g.P.Port.seen c.read_plain-pendbaser.new.port) c.args.vcpu c.step-word.result c.read_plain-pendbaser.result c.requires.ease
    (ap (λ word. word.lpis) (sym c.of.ensures) ∙ c.if-of.false) (sym c.has_bit.ensures ∙ c.if-has_bit.true) c.step-word.ensures.adds c.read_plain-pendbaser.ensures

pub loop-number-init : goal.loop-number-init
loop-number-init g c =
    record {
      end = ap (λ shape. shape.lpis) c.shape-number-end.ensures;
      so =
          table_none (g.P.Port.seen c.read_plain-pendbaser.new.port) c.args.vcpu c.read_plain-pendbaser.result
          (ease_after (g.P.Port.seen c.args.port.now) (g.P.Port.seen c.step-word.new.self) (g.P.Port.seen c.read_plain-pendbaser.new.port) c.args.vcpu c.step-word.result c.read_plain-pendbaser.result c.requires.ease c.step-word.ensures.adds
          c.read_plain-pendbaser.ensures)
          (plain_known (g.P.Port.seen c.step-word.new.self) (g.P.Port.seen c.read_plain-pendbaser.new.port) (Pendbaser c.args.vcpu) c.read_plain-pendbaser.result c.read_plain-pendbaser.ensures);
    }

pub loop-number-preserved : goal.loop-number-preserved
loop-number-preserved g c =
    let old = g.P.Port.seen c.args.port.now in
    let start = g.P.Port.seen c.read_plain-pendbaser.new.port in
    let shape : shape_of start ≡ shape_of old
    = shape_after old (g.P.Port.seen c.step-word.new.self) start c.args.vcpu c.step-word.result c.read_plain-pendbaser.result c.step-word.ensures.adds c.read_plain-pendbaser.ensures in
    let there : c.args.vcpu < (shape_of start).vcpus = subst (λ shape. c.args.vcpu < shape.vcpus) (sym shape) c.requires.vcpu in
    let below : c.loop-number.number < (shape_of start).lpis = subst (λ n. c.loop-number.number < n) c.loop-number.invariant.end c.loop-number-test.true in
    record {
      end = c.loop-number.invariant.end;
      so =
          table_more start (g.P.Port.seen c.loop-number.port) (g.P.Port.seen c.pend_number-last.new.port) c.args.vcpu c.read_plain-pendbaser.result c.loop-number.number c.loop-number.last c.pend_number-last.result
          (g.P.Port.is_port c.read_plain-pendbaser.new.port).good.sound.shape.ram_words there below (sym c.has_bit.ensures ∙ c.if-has_bit.false) c.pend_number-last.ensures c.loop-number.invariant.so;
    }

pub returns : goal.returns
returns g c =
    let start = g.P.Port.seen c.read_plain-pendbaser.new.port in
    let over : c.loop-number.number ≡ (shape_of start).lpis = omega (arith, c.loop-number.invariant.end) in
    enables_table (g.P.Port.seen c.args.port.now) (g.P.Port.seen c.step-word.new.self) start (g.P.Port.seen c.loop-number.port) c.args.vcpu c.step-word.result c.read_plain-pendbaser.result c.loop-number.last
    (ap (λ word. word.lpis) (sym c.of.ensures) ∙ c.if-of.false) (sym c.has_bit.ensures ∙ c.if-has_bit.false) c.step-word.ensures.adds c.read_plain-pendbaser.ensures
    (subst (λ n. TableSoFar start (g.P.Port.seen c.loop-number.port) c.args.vcpu c.read_plain-pendbaser.result n c.loop-number.last) over c.loop-number.invariant.so)
