-- How an answer leaves by C's way: its number as the result, its value behind a reference. Definitions only.
use Rattle.std.specs.Prelude.{ℕ, Float}
use Rattle.numbers.specs.Answers.{Said, value, refused}

-- the refusal's number of document 01, and 0 for what is done
unfoldable pub code : Said → ℕ
code (value x) = 0
code (refused n) = n

-- what stands behind the reference afterwards: the value, and after a refusal what stood there before
unfoldable pub left : Said → Float → Float
left (value x) old = x
left (refused n) old = old
