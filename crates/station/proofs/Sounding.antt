-- What the test of a station says, and that a solid station passes it. Assumes nothing.
use mathlib.Core.Path.{◌≡◌, ◌∙◌}
use mathlib.Core.Bool.{Bool, true, ◌&&◌}
use Prim.Native.Nat.{ℕ, ◌+◌}
use native.Mathlib.Omega.{arith}
use borrow.Author.Tests.{eqb-true, eq-eqb}
use lib.Dec.{T, leb, leb→le, le→leb}
use lib.ListN.{length, take, length-map}
use lib.Seq.{length-take-le}
use lib.Ieee.Bits.{is_true}
use Rattle.ranges.specs.Settings.{standard}
use Rattle.ranges.proofs.Compare.{passed}
use Rattle.marks.specs.Lists.{all}
use Rattle.marks.proofs.Bounds.{both, join}
use Rattle.tracker.specs.Sound as Tracking
use Rattle.rival.specs.View.{view_hyp}
use Rattle.bank_model.specs.Departures.{widest}
use Rattle.bank.specs.Sturdy.{Sturdy}
use Rattle.bank.specs.Sound as Banking
use Rattle.bank.proofs.Sounding.{sturdy_sound}
use Rattle.station.specs.declared.Station.{Station}
use Rattle.station.specs.View.{view}
use Rattle.station.specs.Parts.{Booked, Solid}
use Rattle.station.specs.Sound.{serials, up_to, distinct, held_once, balanced, own_sound, sound}
use Rattle.station.proofs.Serials.{times, times_among, once_of, of_once}

-- ---- the station
module _ (s : Station) where
  abbrev started : ℕ
  started = s.bank.started

  abbrev few : Bool
  few = leb started s.accepted

  abbrev even : Bool
  even = balanced started s.bank.challengers_len s.counts

  abbrev sum : ℕ
  sum = s.bank.challengers_len + s.counts.twins + s.counts.outscored + s.counts.aged + s.counts.replaced + s.counts.cleared

  -- as many challengers as are counted
  pub held : Sturdy s.bank → length (view s).bank.challengers ≡ s.bank.challengers_len
  held b =
      let k = b.crew in
      let f = k.few in
      let l = k.long in
      length-map (take s.bank.challengers_len s.bank.challengers) view_hyp ∙ length-take-le s.bank.challengers_len s.bank.challengers (omega arith)

  pub own_books : Sturdy s.bank → T (own_sound s) → Booked (view s)
  unfolding times
  own_books b t =
      let x = both (held_once started (serials s)) (few && even) t in
      let y = both few even x.1 in
      let h = held b in
      let e = eqb-true started sum (is_true even y.1) in
      record {
        once = λ n. omega (arith, once_of started (serials s) x.0 n, times_among n (take s.bank.challengers_len s.bank.challengers));
        few = leb→le started s.accepted y.0;
        balance = omega arith;
      }

  pub books_own : Sturdy s.bank → Booked (view s) → T (own_sound s)
  unfolding times
  books_own b k =
      let h = held b in
      let e = k.balance in
      let o = of_once started (serials s) (λ n. omega (arith, k.once n, times_among n (take s.bank.challengers_len s.bank.challengers))) in
      join (held_once started (serials s)) (few && even) (join (all (up_to started) (serials s)) (distinct (serials s)) o.0 o.1)
      (join few even (le→leb started s.accepted k.few) (passed (eq-eqb started sum (omega arith))))

  pub solid_sound : Solid s → T (sound standard s)
  unfolding sound
  solid_sound k =
      let p : Bool = Tracking.sound standard s.primary in
      let q : Bool = Banking.sound standard widest s.bank in
      join p (q && own_sound s) k.primary (join q (own_sound s) (sturdy_sound s.bank k.bank) (books_own k.bank k.books))

  -- ---- the test, from what its parts found
  pub solid_of : Tracking.sound standard s.primary ≡ true → Sturdy s.bank → own_sound s ≡ true → Solid s
  solid_of p b o = record { primary = passed p; bank = b; books = own_books b (passed o) }
