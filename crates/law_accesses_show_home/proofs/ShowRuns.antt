-- An access while the guest is up to date, in each state of a history.
use Rattle.std.proofs.Common.{}
use Rattle.law_accesses_show_home.specs.UpToDate.{UpToDateShowsHome}
use Rattle.law_scans_miss_none.specs.LawRegistersStand.Followed.{followed_by}
use Rattle.law_accesses_show_home.proofs.ShowLemmas.{shows}
use Rattle.law_accesses_show_home.proofs.StayRuns.{stand_so}

pub up_to_date_shows_home : UpToDateShowsHome
up_to_date_shows_home guest moments vcpu reg write good history few rest finds =
    let so = stand_so guest moments good history in
    shows guest.shape good.sound.shape (followed_by guest moments) so.1 so.0 rest vcpu few reg write finds
