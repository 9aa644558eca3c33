use Rattle.std.proofs.Common.{◌≡◌, ◌+◌, drop}
use Rattle.vm_saved.specs.GicVm.GuestMemory.Wants.{bytes_in}
use Rattle.gic_c.specs.Feed.{next_of}
use Rattle.gic_c.proofs.feed.next.Given as goal

-- what comes next is among the spans that are left, behind those that were filled
abbrev pub invariant-loop-span : goal.invariant-loop-span
invariant-loop-span l =
    record {
      rest : next_of l.spans l.count ≡ next_of (drop l.span-index l.spans) l.left;
      filled : l.count + bytes_in (drop l.span-index l.spans) ≡ l.left + bytes_in l.spans;
    }
