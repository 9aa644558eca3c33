use Rattle.std.proofs.Common.{◌≡◌, IsTrue, All, map, sym, refl, ap, subst, ◌∙◌, rules}
use Rattle.saved_guest.specs.IdealGuests.Registers.{Maps, IsValid}
use Rattle.saved_guest.specs.State.{maps_of}
use Rattle.saved_check.specs.Tables.{dev_entry, col_entry, IsValidDev, IsValidCol}
use Rattle.saved_check.proofs.TableLemmas.{valid_bare, bare, devs_valid, cols_valid}
use Rattle.saved_check.proofs.tables.tables.Goals as goal
use Rattle.saved_check.proofs.tables.tables.Goals.{then-not-are_valid_devs-via-then-not-are_valid_devs, then-not-are_valid_devs-via-else-not-are_valid_devs+then-not-are_valid_cols}

pub returns-then-not-are_valid_devs : goal.returns-then-not-are_valid_devs
returns-then-not-are_valid_devs c =
    let shape = c.args.shape.now in
    let state = c.args.state.now in
    elim c.then-not-are_valid_devs.branch [
      | then-not-are_valid_devs-via-then-not-are_valid_devs w ↦ λ valid.
          let all : IsTrue c.are_valid_devs.result = c.are_valid_devs.ensures.1 (subst (All IsValidDev) (sym c.as_slice-devs.ensures) (devs_valid shape (maps_of state) state.dev refl valid)) in
          cc
      | then-not-are_valid_devs-via-else-not-are_valid_devs+then-not-are_valid_cols w ↦ λ valid.
          let all : IsTrue w.are_valid_cols.result = w.are_valid_cols.ensures.1 (subst (All (IsValidCol shape)) (sym c.as_slice-cols.ensures) (cols_valid shape (maps_of state) state.col refl valid)) in
          cc
    ]

pub map_evts-requires-clause-valid : goal.map_evts-requires-clause-valid
map_evts-requires-clause-valid c =
    let devs = c.as_slice-devs.result.now in
    let cols = c.as_slice-cols.result.now in
    let are : c.map_cols.new.tables ≡ bare devs cols =
    c.map_cols.ensures
    ∙ ap (λ (t : Maps). record t { collections = map col_entry cols }) (c.map_devs.ensures ∙ ap (λ (t : Maps). record t { devices = map dev_entry devs }) c.in_ok-tables.ensures.value) in
    subst (IsValid c.args.shape.now) (sym are)
    (valid_bare c.args.shape.now devs cols (c.are_devs_in_order.ensures.0 (search rules)) (c.are_cols_in_order.ensures.0 (search rules)) (c.are_valid_devs.ensures.0 (search rules)) (c.are_valid_cols.ensures.0 (search rules)))
