-- The steps that were read, and those that are left.
use Rattle.std.proofs.Common.{◌≡◌, ℕ, ◌+◌, ◌<◌, Bool, List, [], ◌∷◌, ◌++◌, length, get_or, drop, map, Result, Ok, Err, sym}
use Rattle.serde_json.specs.Data.{Data}
use Rattle.scn_read.specs.ScnBase.declared.fault.Fault.{Fault}
use Rattle.scn_read.proofs.StepLemmas.{all_steps, all_steps-step}
use Rattle.scn_read.proofs.ListLemmas.{drop_item}
use Rattle.gic_host.specs.declared.link.Link.{Link}
use Rattle.gic_host.specs.declared.step.HostStep.{HostStep}
use Rattle.gic_host.specs.Good.{is_loaded_after}
use Rattle.gic_host.specs.Reading.{step_of, steps_of}

-- of values vs, from the one at i on, which is v
module _ {V : Type 0} (data_of : V → Data) (links : List Link) (vcpus : ℕ) (loaded : Bool) (vs : List V) (done : List HostStep) (i : ℕ) (v : V) (within : i < length vs) (is : v ≡ get_or vs i v)
    (whole : Result (List HostStep) Fault) (so_far : all_steps done (steps_of links vcpus loaded (i + 1) (map data_of (drop i vs))) ≡ whole) where
  -- it is a step
  pub steps_more : (step : HostStep) → step_of links vcpus loaded (data_of v) ≡ Ok step
      → all_steps (done ++ step ∷ []) (steps_of links vcpus (is_loaded_after step loaded) (i + 1 + 1) (map data_of (drop (i + 1) vs))) ≡ whole
  steps_more step e =
      let at_it = rw (drop_item vs i v within is, e) at so_far in
      rw (← all_steps-step done step (steps_of links vcpus (is_loaded_after step loaded) (i + 1 + 1) (map data_of (drop (i + 1) vs)))) at_it

  -- it has a fault
  pub steps_fail : (code : ℕ) → step_of links vcpus loaded (data_of v) ≡ Err code → whole ≡ Err (record { code = code; step = i + 1 })
  steps_fail code e = let at_it = rw (drop_item vs i v within is, e) at so_far in sym at_it
