-- What was done to a guest, and what it is with all that stands at interfaces taken back.
use Rattle.law_one_thread_is_eager.specs.Laws.{CallsPassHome, GuestsOpenAtHome, RegistersShowHome, ResidencesKeepHome}
use Rattle.law_one_thread_is_eager.proofs.DoneLemmas.{call_about, ease_after, home_goes, home_stays, more_done, residences_about}
use Rattle.law_one_thread_is_eager.proofs.OpeningLemmas.{opens_done, opens_home}
use Rattle.std.proofs.Common.{ℕ, ◌<◌, ◌++◌, subst, sym}
use Rattle.law_found_parts_are_calls.specs.Histories.{IdealGuest}
use Rattle.law_one_thread_is_eager.specs.Laws.{ShowsHomeOf}
use Rattle.law_one_thread_is_eager.proofs.ShowLemmas.{shown_here}
use Rattle.law_found_parts_are_calls.specs.LawSerialIsEager.Serial.{moments_of}
use Rattle.seq_guest.specs.PePlace.Parts.{AreResidences, HaveCall}
use Rattle.law_one_thread_is_eager.specs.Done.{AreSerial, HasDone}

pub guests_open_at_home : GuestsOpenAtHome
guests_open_at_home guest number told vcpus good is at spots = record { done = opens_done guest number told vcpus good is at spots; home_is = opens_home guest number good }

pub residences_keep_home : ResidencesKeepHome
residences_keep_home guest number old new before after early done run goes =
    let done_now = more_done old new before after AreResidences goes early run guest number done (residences_about guest number (moments_of early) goes.parts goes.are) in
    record { done = done_now; home_is = home_stays guest number after.lrs early goes.parts (subst (λ n. AreSerial guest number n early) (sym goes.lrs) done.serial) done_now.serial goes.are }

pub calls_pass_home : CallsPassHome
calls_pass_home guest number old new before after early actor operation answer done run goes first quiet good =
    let ease = ease_after guest number old before early done quiet in
    let about = call_about guest number (moments_of early) goes.parts actor operation answer goes.are first ease good in
    let done_now = more_done old new before after (HaveCall actor operation answer) goes early run guest number done about in
    record { done = done_now; call = home_goes guest number after.lrs actor operation answer early goes.parts (subst (λ n. AreSerial guest number n early) (sym goes.lrs) done.serial) done_now.serial goes.are }

pub registers_show_home : RegistersShowHome
registers_show_home guest number old new before after early vcpu list done run quiet few shown =
    subst (λ g. Shown g number) done.guest_is (subst (λ n. Shown old.guest n) done.number_is here) done few
  where
    Shown : IdealGuest → ℕ → Type 0
    Shown g n = HasDone g n old before early → vcpu < g.shape.vcpus → ShowsHomeOf g n before.lrs new after early (shown.shows.goes_on.parts ++ shown.later.parts) vcpu list

    here : Shown old.guest old.number
    here done few = shown_here residences_keep_home old shown.mid new before shown.between after early vcpu list done run quiet few shown.shows shown.list_is shown.later
