use Rattle.std.proofs.Common.{◌++◌, ◌∷◌, [], ap, ◌∙◌}
use Rattle.vcpu_shelf.proofs.EndLemmas.{has_reserve}
use Rattle.vcpu_shelf.proofs.opening.reserve.Goals as goal

pub new-requires : goal.new-requires
new-requires g c =
    let room = c.in_ok-with_capacity.field-0 in
    has_reserve c.args.places c.push.new.self.items room (c.in_ok-push.ensures.items ∙ ap (λ xs. xs ++ room ∷ []) c.new-slots.ensures.items) record { empty = c.in_ok-with_capacity.ensures.items; wide = c.in_ok-with_capacity.ensures.capacity }
