-- Standings.
use Rattle.std.proofs.Common.{◌≡◌, List, length}
use Rattle.std.proofs.lemmas.List.{length-map}
use Rattle.std.specs.List.{All}
use Rattle.std.proofs.lemmas.List.Elements.{All-map, All-weaker}
use Rattle.gic_guest.specs.Words.{IsShape}
use Rattle.gic_guest.specs.declared.guest.GuestSpec.{GuestSpec}
use Rattle.gic_guest.specs.Good.{IsGoodGuest, shapes_of}

-- the shapes of good guests are in range
pub good_shapes : (guests : List GuestSpec) → All IsGoodGuest guests → All IsShape (shapes_of guests)
good_shapes guests good = All-map IsShape (λ guest. guest.shape) guests (All-weaker IsGoodGuest (λ guest. IsShape guest.shape) (λ guest fine. fine.shape) guests good)

pub length-shapes_of : (guests : List GuestSpec) → length (shapes_of guests) ≡ length guests
length-shapes_of guests = simp length-map
