-- A message through its line is of the guest that it was of, whatever comes of it.
use Rattle.std.proofs.Common.{◌≡◌, ℕ, Result, Ok, Err}
use Rattle.gic_msi.specs.Core.{Seen}
use Rattle.gic_msi.specs.Post.{PostsAs}
use Rattle.gic_msi.specs.declared.posts.MsiMiss.{MsiMiss}
use Rattle.gic_msi.specs.declared.posts.MsiMiss.TheVariants.{NoLine, Changed}
use Rattle.gic_msi.proofs.PortCore.SameLemmas.{same_after}

pub post_same : (old new : Seen) (device event : ℕ) (result : Result Unit MsiMiss) → PostsAs old new device event result → new.number ≡ old.number
post_same old new device event (Ok done) posts = (same_after old new posts.part posts.done.adds).number
post_same old new device event (Err (NoLine found)) misses = (same_after old new misses.part misses.nothing.unseen.adds).number
post_same old new device event (Err (Changed found)) misses = (same_after old new misses.part misses.nothing.unseen.adds).number
