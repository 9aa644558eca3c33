use Rattle.std.proofs.Common.{◌≡◌, ◌∙◌, ℕ, IfSome, sym, subst, arith}
use Rattle.std.specs.Ordering.{nat_cmp}
use Rattle.std.specs.Cmp.{nat_cmp_total}
use Rattle.std.specs.List.Sorted.{IsStrictlySortedBy}
use Rattle.std.specs.Map.{keys_of}
use Rattle.sorted_pairs.proofs.MapLemmas.{sorted-insert}
use Rattle.its_tab.proofs.KeptLemmas.{owner_room, event_room, kept-put, kept-moved}
use Rattle.its_tab.proofs.tables.ItsTables.map_event.Goals as goal

pub put-requires-clause-room : goal.put-requires-clause-room
put-requires-clause-room c = owner_room c.self.invariant c.args.id (c.args.device, c.args.event) c.self.inside.owners.len c.requires.lpi c.self.inside.owners.ok.0

pub put-requires-2-clause-room : goal.put-requires-2-clause-room
put-requires-2-clause-room c = event_room c.self.invariant c.args.id (c.args.device, c.args.event) c.self.inside.events.len c.self.view_is c.requires.free c.requires.lpi c.self.inside.events.ok.0

pub take-requires : goal.take-requires
take-requires c = record { sorted = subst (λ ps. IsStrictlySortedBy nat_cmp (keys_of ps)) (sym c.put.ensures.entries) (sorted-insert nat_cmp_total c.args.id (c.args.device, c.args.event) c.self.inside.owners.items c.self.invariant.indexed.index.ordered) }

pub invariant_of-self : goal.invariant_of-self
invariant_of-self c =
    let pair : ℕ × ℕ = (c.in-Some.older, c.in-Some.field-0-1) in
    kept-moved c.self.invariant (c.args.device, c.args.event) c.args.id c.args.icid c.self.view_is c.requires.mapped c.requires.free c.requires.lpi c.put-2.ensures.entries c.put.ensures.entries pair (sym c.in-Some.is ∙ c.get-older.ensures) c.if-older-id.true c.take.ensures.entries c.put-2.ensures.capacity (omega (arith, c.put.ensures.capacity, c.take.ensures.capacity))

pub invariant_of-self-else-older-id : goal.invariant_of-self-else-older-id
invariant_of-self-else-older-id c =
    kept-put c.self.invariant (c.args.device, c.args.event) c.args.id c.args.icid c.self.view_is c.requires.mapped c.requires.free c.requires.lpi c.put-2.ensures.entries c.put.ensures.entries c.get-older.result c.get-older.ensures (subst (λ o. IfSome o (λ pair. pair.0 ≡ c.args.id)) (sym c.in-Some.is) c.if-older-id.false) c.put-2.ensures.capacity c.put.ensures.capacity

pub invariant_of-self-in_default : goal.invariant_of-self-in_default
invariant_of-self-in_default c =
    kept-put c.self.invariant (c.args.device, c.args.event) c.args.id c.args.icid c.self.view_is c.requires.mapped c.requires.free c.requires.lpi c.put-2.ensures.entries c.put.ensures.entries c.get-older.result c.get-older.ensures (subst (λ o. IfSome o (λ pair. pair.0 ≡ c.args.id)) (sym c.in_default.is) tt) c.put-2.ensures.capacity c.put.ensures.capacity
