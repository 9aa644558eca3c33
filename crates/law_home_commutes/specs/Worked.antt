-- Worked histories of the guest with two vCPUs: accesses that show the guest with all taken back, and for each clause of that one that this clause refuses.
use Rattle.std.specs.Prelude.{◌++◌, Some, None}
use Rattle.law_histories.specs.Words.{Iar1, Eoir1, Pmr}
use Rattle.law_histories.specs.Histories.{IsHistory, last_of, worked_guest, message, reach, reads, leave}
use Rattle.law_home_commutes.specs.Home.{ShowsHome}

pub record AccessesShowHome : Type 0 where
  -- an interrupt that a message made pending is at the interface, and is acknowledged there
  pub acknowledges : IsHistory worked_guest (message 40 ++ reach 0 40)
  pub acknowledged : ShowsHome (last_of worked_guest (message 40 ++ reach 0 40)) 0 Iar1 None
  -- it is active there, and is ended there
  pub ends : IsHistory worked_guest (message 40 ++ reach 0 40 ++ reads 0 Iar1 40)
  pub ended : ShowsHome (last_of worked_guest (message 40 ++ reach 0 40 ++ reads 0 Iar1 40)) 0 Eoir1 (Some 40)
  -- a register that is only the vCPU's needs nothing
  pub plain : ShowsHome (last_of worked_guest (message 40)) 0 Pmr (Some 0xf0)

pub record AccessesHideHome : Type 0 where
  -- an interrupt that is deliverable has not got to the interface
  pub left_out : ShowsHome (last_of worked_guest (message 40)) 0 Iar1 None → ⊥
  -- a message came again since it got there
  pub came_again : ShowsHome (last_of worked_guest (message 40 ++ reach 0 40 ++ message 40)) 0 Iar1 None → ⊥
  -- it left while it was active
  pub gone : ShowsHome (last_of worked_guest (message 40 ++ reach 0 40 ++ reads 0 Iar1 40 ++ leave 0 40)) 0 Eoir1 (Some 40) → ⊥
