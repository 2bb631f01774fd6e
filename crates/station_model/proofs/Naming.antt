-- Each refusal has a number from 1 to 12, and is the one of its number. Assumes nothing.
use Rattle.std.proofs.Common.{◌≡◌, ◌<◌, ◌≤◌, refl, lit<, lit≤}
use Rattle.refusals.specs.declared.Refusal.{Refusal}
use Rattle.refusals.specs.declared.Refusal.TheVariants.{UnsoundState, FullCounts, TooWide, LongList, EndlessDuration, ShortDuration, LongDuration, BadSpeed, BadDit, NoLogarithm, NoRoot, BadLine}
use Rattle.refusals.specs.Refusal.{number, of_number}

pub record Numbered (r : Refusal) : Type 0 where
  pub some : 0 < number r
  pub few : number r ≤ 12
  pub is : of_number (number r) ≡ r

pub numbered : (r : Refusal) → Numbered r
numbered UnsoundState = record { some = lit< tt; few = lit≤ tt; is = refl }
numbered FullCounts = record { some = lit< tt; few = lit≤ tt; is = refl }
numbered TooWide = record { some = lit< tt; few = lit≤ tt; is = refl }
numbered LongList = record { some = lit< tt; few = lit≤ tt; is = refl }
numbered EndlessDuration = record { some = lit< tt; few = lit≤ tt; is = refl }
numbered ShortDuration = record { some = lit< tt; few = lit≤ tt; is = refl }
numbered LongDuration = record { some = lit< tt; few = lit≤ tt; is = refl }
numbered BadSpeed = record { some = lit< tt; few = lit≤ tt; is = refl }
numbered BadDit = record { some = lit< tt; few = lit≤ tt; is = refl }
numbered NoLogarithm = record { some = lit< tt; few = lit≤ tt; is = refl }
numbered NoRoot = record { some = lit< tt; few = lit≤ tt; is = refl }
numbered BadLine = record { some = lit< tt; few = lit≤ tt; is = refl }
