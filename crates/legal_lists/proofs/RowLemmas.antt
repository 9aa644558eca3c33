-- The rows of what worked calls may yet make: each computes.
use Rattle.std.proofs.Common.{refl}
use Rattle.legal_lists.specs.Worked.{WhatMayBeMade}

pub rows : WhatMayBeMade
rows = record {
  message = refl;
  raised = refl;
  clear = refl;
  clears = refl;
  sgi = refl;
  sent = refl;
  enable = refl;
  enabled = refl;
  msi = refl;
  signalled = refl;
  passed = refl;
  queue = refl;
  moved_on = refl;
  given_back = refl;
  its_read = refl;
  store = refl;
}
