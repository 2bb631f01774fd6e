-- Document 01's worked journal, whole ("Journal program", the block after "prints"), and three that it does not have.
-- Definitions only; proofs/Examples.antt computes them.
use Rattle.std.specs.Prelude.{◌≡◌, []}
use Rattle.ranges.specs.Settings.{standard}
use Rattle.line_out.specs.Examples.{bytes}
use Rattle.journal_lines.specs.Whole.{output}

pub record Worked : Type 0 where
  pub document : output standard (bytes "W\t2\t1\nM\t3200\t1\nM\t9600\t1\nF\nX\n")
      ≡ bytes "W\t0\t00000000\t00000000\t0\t0\nM\t0\t00000000\t00000000\t0\t0\nM\t0\t00000000\t00000000\t0\t0\nF\t1\t42480000\t43160000\t0\t0\nX\t3\t42480000\t43160000\t0\t0\n"
  pub nothing : output standard (bytes "") ≡ []
  pub unended : output standard (bytes "W\t2\t1") ≡ bytes "?\tR12\t00000000\t00000000\t0\t0\n"
  pub early : output standard (bytes "F\nW\t9\t1\n\n")
      ≡ bytes "?\tR12\t00000000\t00000000\t0\t0\nW\tR3\t00000000\t00000000\t0\t0\n?\tR12\t00000000\t00000000\t0\t0\n"
