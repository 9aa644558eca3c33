use Rattle.std.proofs.Common.{◌+◌, ◌*◌, ℕ, subst}
use Rattle.ideal_guest.specs.declared.guest.IdealGuest.{IdealGuest}
use Rattle.guest_memory.specs.Memory.{IsRead, put_all}
use Rattle.guest_memory.proofs.MemoryLemmas.{one_more, kept_more}
use Rattle.guest_memory.proofs.memory.copy_table.Goals as goal

pub loop-number-preserved : goal.loop-number-preserved
loop-number-preserved g c =
    let May = g.M.GuestMemory.may_read c.args.memory.now in
    let now = c.loop-number.guest in
    let after = c.copy_shared.new.guest in
    let table = c.args.address in
    let bases = c.args.bases.now in
    record {
      end = c.loop-number.invariant.end;
      copied =
          one_more (λ (number : ℕ) (between after : IdealGuest). IsRead May (table + 8 * (c.args.wanted.first + number)) (put_all bases table (8 * (c.args.wanted.first + number))) between after) c.loop-number.number c.args.guest.now now after
          c.loop-number.invariant.copied (subst (λ (at : ℕ). IsRead May (table + at) (put_all bases table at) now after) c.offset_at.ensures.value c.copy_shared.ensures.copied);
      kept = kept_more c.args.guest.now now after c.loop-number.invariant.kept c.copy_shared.ensures.kept;
    }
