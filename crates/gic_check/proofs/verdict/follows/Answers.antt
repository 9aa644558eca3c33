use Rattle.std.proofs.Common.{◌≡◌, List, sym, subst, arith}
use Rattle.std.proofs.lemmas.Result.{IfOk-weaker}
use Rattle.trace_told.specs.Calls.{Moment}
use Rattle.trace_told.specs.LegalPlay.LegalSteps.Step.{pass_of}
use Rattle.trace_told.proofs.FaultlessLaw.{faultless}
use Rattle.history_turns.specs.Noted.{NotedOf}
use Rattle.gic_check.specs.Play.{PlayOf, GoOn, Follows}
use Rattle.gic_check.proofs.CheckLemmas.{follows_told}
use Rattle.gic_check.proofs.TellLemmas.{IsToldOf, told_some, modest_here}
use Rattle.gic_check.proofs.verdict.follows.Goals as goal

pub go_on-requires-clause-good : goal.go_on-requires-clause-good
go_on-requires-clause-good c =
    let q : PlayOf = record { board = c.play.inside.board; notes = c.play.inside.notes; done = c.play.inside.done } in
    let same : q ≡ c.args.play.now = c.play.view_is in
    let said : IsToldOf q.board c.as_slice.result.now c.args.event.now c.in-Some.moments = told_some c.in_ok-told.told c.in-Some.moments (IsToldOf q.board c.as_slice.result.now c.args.event.now) c.in-Some.is c.in_ok-told.ensures.some in
    let own : IsToldOf c.args.play.now.board c.args.play.now.notes c.args.event.now c.as_slice-in-Some.result.now =
    subst (λ (ms : List Moment). IsToldOf c.args.play.now.board c.args.play.now.notes c.args.event.now ms) (sym c.as_slice-in-Some.ensures)
    (subst (λ (r : PlayOf). IsToldOf r.board r.notes c.args.event.now c.in-Some.moments) same (subst (λ (ns : List NotedOf). IsToldOf q.board ns c.args.event.now c.in-Some.moments) c.as_slice.ensures said)) in
    let modest = modest_here c.args.play.now.board c.args.play.now.notes c.args.event.now c.as_slice-in-Some.result.now c.requires.play c.requires.there own in
    modest.good

pub go_on-requires-clause-known : goal.go_on-requires-clause-known
go_on-requires-clause-known c guest before is =
    let q : PlayOf = record { board = c.play.inside.board; notes = c.play.inside.notes; done = c.play.inside.done } in
    let same : q ≡ c.args.play.now = c.play.view_is in
    let said : IsToldOf q.board c.as_slice.result.now c.args.event.now c.in-Some.moments = told_some c.in_ok-told.told c.in-Some.moments (IsToldOf q.board c.as_slice.result.now c.args.event.now) c.in-Some.is c.in_ok-told.ensures.some in
    let own : IsToldOf c.args.play.now.board c.args.play.now.notes c.args.event.now c.as_slice-in-Some.result.now =
    subst (λ (ms : List Moment). IsToldOf c.args.play.now.board c.args.play.now.notes c.args.event.now ms) (sym c.as_slice-in-Some.ensures)
    (subst (λ (r : PlayOf). IsToldOf r.board r.notes c.args.event.now c.in-Some.moments) same (subst (λ (ns : List NotedOf). IsToldOf q.board ns c.args.event.now c.in-Some.moments) c.as_slice.ensures said)) in
    faultless (pass_of guest before).course c.args.event.now c.as_slice-in-Some.result.now (own guest before is)

pub go_on-requires-clause-room : goal.go_on-requires-clause-room
go_on-requires-clause-room c =
    let q : PlayOf = record { board = c.play.inside.board; notes = c.play.inside.notes; done = c.play.inside.done } in
    let same : q ≡ c.args.play.now = c.play.view_is in
    let said : IsToldOf q.board c.as_slice.result.now c.args.event.now c.in-Some.moments = told_some c.in_ok-told.told c.in-Some.moments (IsToldOf q.board c.as_slice.result.now c.args.event.now) c.in-Some.is c.in_ok-told.ensures.some in
    let own : IsToldOf c.args.play.now.board c.args.play.now.notes c.args.event.now c.as_slice-in-Some.result.now =
    subst (λ (ms : List Moment). IsToldOf c.args.play.now.board c.args.play.now.notes c.args.event.now ms) (sym c.as_slice-in-Some.ensures)
    (subst (λ (r : PlayOf). IsToldOf r.board r.notes c.args.event.now c.in-Some.moments) same (subst (λ (ns : List NotedOf). IsToldOf q.board ns c.args.event.now c.in-Some.moments) c.as_slice.ensures said)) in
    let modest = modest_here c.args.play.now.board c.args.play.now.notes c.args.event.now c.as_slice-in-Some.result.now c.requires.play c.requires.there own in
    let few = modest.short in
    let room = c.requires.room in
    omega (arith, few, room)

pub returns-in-Some : goal.returns-in-Some
returns-in-Some c guest moments is =
    let q : PlayOf = record { board = c.play.inside.board; notes = c.play.inside.notes; done = c.play.inside.done } in
    let same : q ≡ c.args.play.now = c.play.view_is in
    let said : IsToldOf q.board c.as_slice.result.now c.args.event.now c.in-Some.moments = told_some c.in_ok-told.told c.in-Some.moments (IsToldOf q.board c.as_slice.result.now c.args.event.now) c.in-Some.is c.in_ok-told.ensures.some in
    let own : IsToldOf c.args.play.now.board c.args.play.now.notes c.args.event.now c.as_slice-in-Some.result.now =
    subst (λ (ms : List Moment). IsToldOf c.args.play.now.board c.args.play.now.notes c.args.event.now ms) (sym c.as_slice-in-Some.ensures)
    (subst (λ (r : PlayOf). IsToldOf r.board r.notes c.args.event.now c.in-Some.moments) same (subst (λ (ns : List NotedOf). IsToldOf q.board ns c.args.event.now c.in-Some.moments) c.as_slice.ensures said)) in
    let modest = modest_here c.args.play.now.board c.args.play.now.notes c.args.event.now c.as_slice-in-Some.result.now c.requires.play c.requires.there own in
    IfOk-weaker c.go_on.result (GoOn guest moments c.as_slice-in-Some.result.now c.args.play.now.board.moments c.go_on.new.play) (Follows guest moments c.args.event.now c.args.play.now.board.moments c.go_on.new.play)
    (λ go so. follows_told guest moments c.args.event.now c.args.play.now.board.moments c.go_on.new.play c.as_slice-in-Some.result.now go (own guest moments is) modest.short so) (c.go_on.ensures guest moments is)
