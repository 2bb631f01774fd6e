-- Sound stays sound: what each definition makes of a sound tracker, for every good settings record. Assumes nothing.
use Rattle.std.proofs.Common.{
  ◌≡◌,
  ℕ,
  ◌+◌,
  ◌-◌,
  ◌≤◌,
  Bool,
  true,
  false,
  cond,
  not,
  ◌&&◌,
  ◌||◌,
  T,
  eqb,
  leb,
  List,
  [],
  ◌∷◌,
  ◌++◌,
  length,
  take,
  drop,
  sym,
  refl,
  ap,
  ◌∙◌,
  subst,
  arith,
  leb→le,
  length-append,
  length-drop,
  length-take-le,
}
use mathlib.Core.Option.{Option, none, some}
use lib.ListN.{length-map}
use lib.Ieee.{Float, binary32, sub, mul, div, lt, eq, is_nan, fits, of_bits}
use lib.Ieee.Scale.{finite}
use lib.Ieee.Positive.{positive, between, positive-finite}
use lib.Ieee.Fits.{add-fits, mul-fits, div-fits}
use borrow.Author.Tests.{eqb-false}
use Rattle.order.specs.Order.{clamp}
use Rattle.ranges.specs.Settings.{Settings, Good, Held}
use Rattle.ranges.specs.Limits.{duration_min, duration_max, dah_min, dah_max, paris, speed_weight}
use Rattle.ranges.specs.Interval.{In, AllIn, within}
use Rattle.ranges.specs.Average.{average}
use Rattle.ranges.specs.Mean.{mean64, mean_of}
use Rattle.ranges.proofs.Compare.{passed}
use Rattle.ranges.proofs.Signed.{finite_number}
use Rattle.ranges.proofs.Rounded.{div_number}
use Rattle.ranges.proofs.Interval.{in_finite, scale_in}
use Rattle.ranges.proofs.Clamp.{clamp_fits}
use Rattle.ranges.proofs.Narrow.{narrow_fits}
use Rattle.ranges.proofs.Mean.{duration_number, duration_mean_in}
use Rattle.ranges.proofs.Good as G
use Rattle.ranges.proofs.Good.{speed_least, speed_most}
use Rattle.ring.specs.declared.RingEntry.{RingEntry}
use Rattle.marks.specs.Constants.{two, three}
use Rattle.pair.specs.Model.{Pair, with_init}
use Rattle.tracker.specs.Model.{
  Tracker,
  with_pair,
  with_ring,
  with_recent,
  with_egap,
  with_recovered,
  with_uncorroborated,
}
use Rattle.marks.specs.Lists.{pushed, all, duration, all_durations}
use Rattle.marks.specs.Sort.{sorted, cut, parts}
use Rattle.pair.specs.Lock.{
  bimodal,
  as_dahs,
  as_dits,
  unimodal,
  locked,
  initialized,
  ratio_or,
  constrained,
  anchors_dit,
  anchors_dah,
  moved,
  learnt,
  started,
  observed,
  boundary,
}
use Rattle.pair.specs.Sound.{centroids, pair_sound}
use Rattle.ring.specs.Ring.{entry_sound, ring_sound, durations, all_classed, uniform, drifts, entry}
use Rattle.tracker.specs.Sound.{positive_or, hint_sound}
use Rattle.tracker.specs.Steps.{
  estimate,
  dit_estimate,
  speed,
  timed,
  averaged,
  bound,
  fragment,
  relocked,
  drifted,
  recovered_by,
  checked,
  rung,
  spoken,
  followed,
  opened,
  on_mark,
  seed_dit,
  seeded,
  set_hint,
  gap_moved,
  on_gap,
  bootstrapped,
  can_begin,
  reseeded,
  settled,
  resolved,
  fresh,
  element_gap,
  element_gaps,
  from_marks,
}
use Rattle.pair.specs.Readings.{seed_pair, turned, gaps_say_dahs, unsure, other_pair}
use Rattle.marks.proofs.Cutting.{sorted_in, sorted_long, take_in, drop_in, parts_two, cut_inside}
use Rattle.marks.proofs.Places.{append_in}
use Rattle.marks.proofs.Bounds.{
  both,
  inside,
  durations_in,
  held_durations,
  join,
  outside,
  pushed_all,
  pushed_some,
  pushed_most,
  none_all,
}
use Rattle.ring.proofs.Ringing.{ring_in}
use Rattle.pair.proofs.Soundness.{
  pair_init,
  ready_centroids,
  ready_in,
  unready_zero,
  unready_few,
  ready_sound,
  unready_sound,
}
use Rattle.tracker.proofs.Soundness.{Fine}

-- ---- by the two cases of a test
pub by_cond : {A : Type 0} (P : A → Type 0) (b : Bool) (x y : A) → (b ≡ true → P x) → (b ≡ false → P y) → P (cond b x y)
by_cond P true x y f g = f refl
by_cond P false x y f g = g refl

pub on_true : {A : Type 0} (P : A → Type 0) (b : Bool) (x y : A) → b ≡ true → P x → P (cond b x y)
on_true P b x y e p = subst (λ (c : Bool). P (cond c x y)) (sym e) p

pub on_false : {A : Type 0} (P : A → Type 0) (b : Bool) (x y : A) → b ≡ false → P y → P (cond b x y)
on_false P b x y e p = subst (λ (c : Bool). P (cond c x y)) (sym e) p

-- ---- values of f32
abbrev pub fits_or : Option Float → Bool
fits_or none = true
fits_or (some x) = fits binary32 x

-- the numbers that are averaged are values of f32
pub record Floats (m : Tracker) : Type 0 where
  pub lo : T (fits binary32 m.pair.lo)
  pub hi : T (fits binary32 m.pair.hi)
  pub wpm : T (fits_or m.wpm)
  pub egap : T (fits_or m.egap)

-- ---- a pair before its constraints: the dit is a number, the dah finite, both values of f32
pub record Loose (p : Pair) : Type 0 where
  pub number : T (not (is_nan p.lo))
  pub bounded : T (finite p.hi)
  pub lo : T (fits binary32 p.lo)
  pub hi : T (fits binary32 p.hi)

duration_finite : (x : Float) → In duration_min duration_max x → T (finite x)
unfolding of_bits
duration_finite x i = in_finite duration_min duration_max x tt tt i

third_number : (m : Float) → In duration_min duration_max m → T (not (is_nan (div binary32 m three)))
unfolding of_bits
third_number m i = div_number binary32 m three (duration_finite m i) tt

threefold_finite : (m : Float) → In duration_min duration_max m → T (finite (mul binary32 three m))
unfolding of_bits mul
threefold_finite m i =
    in_finite (mul binary32 three duration_min) (mul binary32 three duration_max) (mul binary32 three m) tt tt
    (scale_in binary32 duration_min duration_max m tt tt i three tt)

mean_fits : (l : List Float) → T (fits binary32 (mean_of l))
mean_fits l = narrow_fits (mean64 l)

-- ---- a lock from 1 to 12 durations
module _ (k : Settings) (l : List Float) (m : AllIn duration_min duration_max l) (h : 1 ≤ length l)
    (w : length l ≤ 12) where
  abbrev s : List Float
  s = sorted l

  s_in : AllIn duration_min duration_max s
  s_in = sorted_in duration_min duration_max l m

  mean_in : In duration_min duration_max (mean_of s)
  mean_in = let e = sorted_long l in duration_mean_in s (omega arith) (omega arith) s_in

  two_loose : parts s ≡ true → Loose (bimodal s)
  two_loose t =
      let e = sorted_long l in
      let two = parts_two s (omega arith) s_in t in
      let c = cut_inside s two in
      let a : length (take (cut s) s) ≡ cut s = length-take-le (cut s) s (omega arith) in
      let b : length (drop (cut s) s) ≡ length s - cut s = length-drop (cut s) s in
      record {
        number =
            duration_number (mean_of (take (cut s) s))
            (duration_mean_in (take (cut s) s) (omega arith) (omega arith)
            (take_in duration_min duration_max (cut s) s s_in));
        bounded =
            duration_finite (mean_of (drop (cut s) s))
            (duration_mean_in (drop (cut s) s) (omega arith) (omega arith)
            (drop_in duration_min duration_max (cut s) s s_in));
        lo = mean_fits (take (cut s) s);
        hi = mean_fits (drop (cut s) s);
      }

  one_loose : Loose (unimodal k (mean_of s))
  one_loose =
      let x = mean_of s in
      by_cond Loose (lt k.dit_max x) (as_dahs x) (as_dits x)
      (λ e. record {
        number = third_number x mean_in;
        bounded = duration_finite x mean_in;
        lo = div-fits binary32 x three;
        hi = mean_fits s;
      })
      (λ e. record {
        number = duration_number x mean_in;
        bounded = threefold_finite x mean_in;
        lo = mean_fits s;
        hi = mul-fits binary32 three x;
      })

  pub initialized_loose : Loose (initialized k l)
  unfolding locked
  initialized_loose = by_cond Loose (parts s) (bimodal s) (unimodal k (mean_of s)) two_loose (λ e. one_loose)

  abbrev Begun : Pair → Type 0
  Begun p = (p.ready ≡ true) × (p.init ≡ [])

  pub initialized_begun : Begun (initialized k l)
  unfolding locked
  initialized_begun =
      by_cond Begun (parts s) (bimodal s) (unimodal k (mean_of s)) (λ e. (refl, refl))
      (λ e. by_cond Begun (lt k.dit_max (mean_of s)) (as_dahs (mean_of s)) (as_dits (mean_of s)) (λ e. (refl, refl))
      (λ e. (refl, refl)))

speed_ends : T (positive speed_least)
unfolding of_bits
speed_ends = tt

speed_ends' : T (positive speed_most)
unfolding of_bits
speed_ends' = tt

average_fits : (w x : Float) → T (fits binary32 (average binary32 speed_weight w x))
average_fits w x = add-fits binary32 w (mul binary32 speed_weight (sub binary32 x w))

dah_finite : (x : Float) → In dah_min dah_max x → T (finite x)
unfolding of_bits
dah_finite x i = in_finite dah_min dah_max x tt tt i

three_positive : T (positive three)
unfolding of_bits
three_positive = tt

threefold_dah : (x : Float) → In dah_min dah_max x → T (finite (mul binary32 three x))
unfolding of_bits mul
threefold_dah x i =
    in_finite (mul binary32 three dah_min) (mul binary32 three dah_max) (mul binary32 three x) tt tt
    (scale_in binary32 dah_min dah_max x tt tt i three tt)

set : (b : Bool) → T b → b ≡ true
set true t = refl
set false t = absurd t

unset : (b : Bool) → T (not b) → b ≡ false
unset true t = absurd t
unset false t = refl

-- ---- for good settings
module _ (k : Settings) (Good-k : Good k) (Held-k : Held k) where
  hint_ratio : (o : Option Float) → T (hint_sound k o) → In k.ratio_min k.ratio_max (ratio_or o)
  hint_ratio none t = G.ideal_in k Good-k
  hint_ratio (some h) t = inside k.ratio_min k.ratio_max h t

  -- ---- the constraints put both centroids in their ranges
  abbrev dit_of : Pair → Float
  dit_of p = clamp k.dit_min k.dit_max p.lo

  constrained_in : (o : Option Float) (p : Pair) → T (hint_sound k o) → Loose p
      → In k.dit_min k.dit_max (constrained k o p).lo × In dah_min dah_max (constrained k o p).hi
  unfolding constrained
  constrained_in o p t q =
      let i = G.dit_in k Good-k p.lo q.number in
      (i, G.dah_in k Good-k (dit_of p) p.hi (ratio_or o) i q.bounded (hint_ratio o t))

  constrained_fits : (o : Option Float) (p : Pair) → Loose p
      → T (fits binary32 (constrained k o p).lo) × T (fits binary32 (constrained k o p).hi)
  unfolding constrained
  constrained_fits o p q =
      let d = dit_of p in (
        clamp_fits binary32 k.dit_min k.dit_max p.lo Held-k.dit_min_held Held-k.dit_max_held q.lo,
        by_cond (λ (x : Float). T (fits binary32 x)) (within k.ratio_min k.ratio_max (div binary32 p.hi d)) p.hi
            (mul binary32 (ratio_or o) d) (λ e. q.hi) (λ e. mul-fits binary32 (ratio_or o) d),
      )

  constrained_ready : (o : Option Float) (p : Pair) → p.ready ≡ true → (constrained k o p).ready ≡ true
  unfolding constrained
  constrained_ready o p e = e

  constrained_init : (o : Option Float) (p : Pair) → T (all_durations p.init)
      → T (all_durations (constrained k o p).init)
  unfolding constrained
  constrained_init o p m = m

  constrained_sound : (o : Option Float) (p : Pair) → T (hint_sound k o) → Loose p → p.ready ≡ true
      → T (all_durations p.init) → T (pair_sound k (constrained k o p))
  constrained_sound o p t q e m =
      let i = constrained_in o p t q in
      ready_sound k (constrained k o p) (constrained_ready o p e) i.0 i.1 (constrained_init o p m)

  -- ---- a tracker that is sound and whose numbers are values of f32; one that is ready besides; one whose pair is left
  -- open
  pub record Sane (m : Tracker) : Type 0 where
    pub fine : Fine k m
    pub floats : Floats m

  pub record Up (m : Tracker) : Type 0 where
    pub sane : Sane m
    pub ready : m.pair.ready ≡ true

  pub record Rest (m : Tracker) : Type 0 where
    pub ring : T (ring_sound k m.ring)
    pub recent : T (all_durations m.recent)
    pub wpm : T (positive_or m.wpm)
    pub wpm_fits : T (fits_or m.wpm)
    pub egap : T (positive_or m.egap)
    pub egap_fits : T (fits_or m.egap)
    pub hint : T (hint_sound k m.hint)

  pub rest_of : (m : Tracker) → Sane m → Rest m
  rest_of m s =
      let f = s.fine in
      let g = s.floats in
      record {
        ring = f.ring;
        recent = f.recent;
        wpm = f.wpm;
        wpm_fits = g.wpm;
        egap = f.egap;
        egap_fits = g.egap;
        hint = f.hint;
      }

  pub bound_up : (m : Tracker) → Rest m → Loose m.pair → m.pair.ready ≡ true → T (all_durations m.pair.init)
      → Up (bound k m)
  bound_up m r q e i =
      let x = constrained_fits m.hint m.pair q in
      record {
        sane = record {
          fine =
              record {
                pair = constrained_sound m.hint m.pair r.hint q e i;
                ring = r.ring;
                recent = r.recent;
                wpm = r.wpm;
                egap = r.egap;
                hint = r.hint;
              };
          floats = record { lo = x.0; hi = x.1; wpm = r.wpm_fits; egap = r.egap_fits };
        };
        ready = constrained_ready m.hint m.pair e;
      }

  -- ---- the speed lies from 4 to 120
  estimated_in : (lo : Float) (o : Option Float) → In k.dit_min k.dit_max lo → T (positive_or o)
      → In k.dit_min k.dit_max (estimate k lo o)
  estimated_in lo none i t = i
  estimated_in lo (some g) i t = G.estimate_in k Good-k lo g i (positive-finite g t)

  module _ (m : Tracker) (f : Fine k m) (e : m.pair.ready ≡ true) where
    pub ready_dit : In k.dit_min k.dit_max m.pair.lo
    ready_dit = (ready_in k m.pair e f.pair).0

    pub ready_dah : In dah_min dah_max m.pair.hi
    ready_dah = (ready_in k m.pair e f.pair).1

    pub ready_estimate : In k.dit_min k.dit_max (dit_estimate k m)
    ready_estimate = estimated_in m.pair.lo m.egap ready_dit f.egap

    speed_in : In speed_least speed_most (speed k m)
    speed_in = G.speed_in k Good-k (dit_estimate k m) ready_estimate

    speed_positive : T (positive (speed k m))
    speed_positive = between speed_least (speed k m) speed_most speed_ends speed_ends' speed_in.0 speed_in.1

    pub timed_fine : Fine k (timed k m)
    timed_fine =
        record { pair = f.pair; ring = f.ring; recent = f.recent; wpm = speed_positive; egap = f.egap; hint = f.hint }

  pub timed_up : (m : Tracker) → Up m → Up (timed k m)
  timed_up m u =
      let f = u.sane.fine in
      let g = u.sane.floats in
      record {
        sane = record {
          fine = timed_fine m f u.ready;
          floats = record { lo = g.lo; hi = g.hi; wpm = div-fits binary32 paris (dit_estimate k m); egap = g.egap };
        };
        ready = u.ready;
      }

  averaged_positive : (o : Option Float) (raw : Float) → T (positive_or o) → T (fits_or o)
      → In speed_least speed_most raw → T (positive (averaged o raw))
  averaged_positive none raw p f i = between speed_least raw speed_most speed_ends speed_ends' i.0 i.1
  averaged_positive (some w) raw p f i = G.speed_average_positive w raw f p i

  averaged_fits : (o : Option Float) (raw : Float) → T (fits binary32 raw) → T (fits binary32 (averaged o raw))
  averaged_fits none raw f = f
  averaged_fits (some w) raw f = average_fits w raw

  pub spoken_up : (m : Tracker) → Up m → Up (spoken k m)
  spoken_up m u =
      let f = u.sane.fine in
      let g = u.sane.floats in
      record {
        sane = record {
          fine =
              record {
                pair = f.pair;
                ring = f.ring;
                recent = f.recent;
                wpm = averaged_positive m.wpm
                    (speed k m) f.wpm g.wpm (speed_in m f u.ready);
                egap = f.egap;
                hint = f.hint;
              };
          floats =
              record {
                lo = g.lo;
                hi = g.hi;
                wpm = averaged_fits m.wpm (speed k m)
                    (div-fits binary32 paris (dit_estimate k m));
                egap = g.egap;
              };
        };
        ready = u.ready;
      }

  -- ---- a lock from marks, bound
  pub locked_up : (m : Tracker) (l : List Float) → Rest m → AllIn duration_min duration_max l → 1 ≤ length l
      → length l ≤ 12 → Up (bound k (with_pair m (initialized k l)))
  locked_up m l r a h w =
      let b = initialized_begun k l a h w in
      bound_up (with_pair m (initialized k l))
      (record {
        ring = r.ring;
        recent = r.recent;
        wpm = r.wpm;
        wpm_fits = r.wpm_fits;
        egap = r.egap;
        egap_fits = r.egap_fits;
        hint = r.hint;
      })
      (initialized_loose k l a h w) b.0
      (subst (λ (z : List Float). T (all_durations z)) (sym b.1) (none_all duration))

  pub relocked_up : (m : Tracker) (l : List Float) → Rest m → AllIn duration_min duration_max l → 1 ≤ length l
      → length l ≤ 12 → Up (relocked k m l)
  relocked_up m l r a h w =
      let u = locked_up m l r a h w in
      let f = u.sane.fine in
      let g = u.sane.floats in
      record {
        sane = record {
          fine =
              record {
                pair = f.pair;
                ring = none_all
                    (entry_sound k);
                recent = f.recent;
                wpm = f.wpm;
                egap = tt;
                hint = f.hint;
              };
          floats = record { lo = g.lo; hi = g.hi; wpm = g.wpm; egap = tt };
        };
        ready = u.ready;
      }

  -- ---- a check for drift, with up to twelve marks in the ring and in the recent ones
  flagged_up : (m : Tracker) → Up m → Up (with_recovered m true)
  flagged_up m u =
      let f = u.sane.fine in
      let g = u.sane.floats in
      record {
        sane =
            record {
              fine = record {
                pair = f.pair;
                ring = f.ring;
                recent = f.recent;
                wpm = f.wpm;
                egap = f.egap;
                hint = f.hint;
              };
              floats = record { lo = g.lo; hi = g.hi; wpm = g.wpm; egap = g.egap };
            };
        ready = u.ready;
      }

  pub checked_up : (m : Tracker) → Up m → 1 ≤ length m.recent → length m.recent ≤ 12 → length m.ring ≤ 12
      → Up (checked k m)
  unfolding checked
  checked_up m u h w v =
      let r = rest_of m u.sane in
      by_cond Up (uniform m.ring) (cond (drifts m.ring) (drifted k m) (cond (fragment m) (recovered_by k m) m)) m
      (λ e. by_cond Up (drifts m.ring) (drifted k m) (cond (fragment m) (recovered_by k m) m)
      (λ e'. relocked_up m m.recent r (durations_in m.recent u.sane.fine.recent) h w)
      (λ e'. by_cond Up (fragment m) (recovered_by k m) m
      (λ e''. recovers (full m e)) (λ e''. u)))
      (λ e. u)
    where
      full : (m : Tracker) → uniform m.ring ≡ true → 12 ≤ length m.ring
      full m e =
          leb→le 12 (length m.ring)
          (both (leb 12 (length m.ring)) (all_classed true m.ring || all_classed false m.ring) (passed e)).0

      recovers : 12 ≤ length m.ring → Up (recovered_by k m)
      recovers n =
          let a = length-map m.ring (λ (x : RingEntry). x.dur_ms) in
          timed_up (with_recovered (relocked k m (durations m.ring)) true)
          (flagged_up (relocked k m (durations m.ring))
          (relocked_up m (durations m.ring) (rest_of m u.sane) (ring_in k m.ring u.sane.fine.ring) (omega arith)
          (omega arith)))

  -- ---- a ready pair learns
  module _ (p : Pair) (v : Float) (i : In k.dit_min k.dit_max p.lo) (j : In dah_min dah_max p.hi)
      (F : T (fits binary32 p.lo)) (H : T (fits binary32 p.hi)) (d : In duration_min duration_max v)
      (E : T (fits binary32 v)) where
    lo_number : T (not (is_nan p.lo))
    lo_number = finite_number p.lo (positive-finite p.lo (G.dit_positive k Good-k p.lo i))

    moved_loose : Loose (moved k p v)
    moved_loose =
        let a = average binary32 k.weight p.lo v in
        let b = average binary32 k.weight p.hi v in
        by_cond Loose (lt v (boundary p)) _ _
        (λ e. record {
          number = duration_number a (G.dit_learned_in k Good-k p.lo v F E i d);
          bounded = dah_finite p.hi j;
          lo = add-fits binary32 p.lo _;
          hi = H;
        })
        (λ e. record {
          number = lo_number;
          bounded = duration_finite b (G.dah_learned_in k Good-k p.hi v H E j d);
          lo = F;
          hi = add-fits binary32 p.hi _;
        })

    learnt_loose : Loose (learnt k p v)
    unfolding learnt
    learnt_loose =
        by_cond Loose (anchors_dit p v) _ _ (λ e. record {
          number = duration_number v d;
          bounded = dah_finite p.hi j;
          lo = E;
          hi = H;
        })
        (λ e. by_cond Loose (anchors_dah p v) _ _
        (λ e. record { number = lo_number; bounded = duration_finite v d; lo = F; hi = E }) (λ e. moved_loose))

  -- it stays ready, and its start marks stay
  abbrev Same : Pair → Pair → Type 0
  Same p q = (q.ready ≡ p.ready) × (q.init ≡ p.init)

  learnt_same : (p : Pair) (v : Float) → Same p (learnt k p v)
  unfolding learnt
  learnt_same p v =
      by_cond (Same p) (anchors_dit p v) _ _ (λ e. (refl, refl))
      (λ e. by_cond (Same p) (anchors_dah p v) _ _ (λ e. (refl, refl))
      (λ e. by_cond (Same p) (lt v (boundary p)) _ _ (λ e. (refl, refl)) (λ e. (refl, refl))))

  -- ---- a mark for the ring
  rung_up : (m : Tracker) (e : RingEntry) → Up m → T (entry_sound k e) → Up (rung m e)
  rung_up m e u t =
      let f = u.sane.fine in
      let g = u.sane.floats in
      record {
        sane = record {
          fine =
              record {
                pair = f.pair;
                ring = pushed_all
                    (entry_sound k) 12 m.ring e f.ring t;
                recent = f.recent;
                wpm = f.wpm;
                egap = f.egap;
                hint = f.hint;
              };
          floats = record { lo = g.lo; hi = g.hi; wpm = g.wpm; egap = g.egap };
        };
        ready = u.ready;
      }

  pub followed_up : (p : Pair) (m : Tracker) (d : Float) → Rest m → Loose m.pair → m.pair.ready ≡ true
      → T (all_durations m.pair.init) → T (centroids k p.lo p.hi) → T (duration d)
      → 1 ≤ length m.recent → length m.recent ≤ 12 → Up (followed k p m d)
  followed_up p m d r q e i c t h w =
      let b = bound_up m r q e i in
      let x = entry p (bound k m).pair d in
      spoken_up (checked k (rung (bound k m) x))
      (checked_up (rung (bound k m) x) (rung_up (bound k m) x b (join (duration d) (centroids k p.lo p.hi) t c)) h w
      (pushed_most 12 m.ring x))

  opened_up : (m : Tracker) → Rest m → Loose m.pair → m.pair.ready ≡ true → T (all_durations m.pair.init)
      → Up (opened k m)
  opened_up m r q e i =
      let m' = with_uncorroborated m (eqb m.pair.lo_n 1) in
      on_true Up m.pair.ready (spoken k (bound k m')) m e
      (spoken_up (bound k m')
      (bound_up m'
      (record {
        ring = r.ring;
        recent = r.recent;
        wpm = r.wpm;
        wpm_fits = r.wpm_fits;
        egap = r.egap;
        egap_fits = r.egap_fits;
        hint = r.hint;
      }) q e i))

  -- ---- one mark
  module _ (m : Tracker) (d : Float) (s : Sane m) (t : T (duration d)) (E : T (fits binary32 d)) where
    abbrev heard : Tracker
    heard = with_recent m (pushed 5 m.recent d)

    heard_rest : (p : Pair) → Rest (with_pair heard p)
    heard_rest p =
        let f = s.fine in
        let g = s.floats in
        record {
          ring = f.ring;
          recent = pushed_all duration 5 m.recent d f.recent t;
          wpm = f.wpm;
          wpm_fits = g.wpm;
          egap = f.egap;
          egap_fits = g.egap;
          hint = f.hint;
        }

    observed_ready : m.pair.ready ≡ true → observed k m.pair d ≡ learnt k m.pair d
    observed_ready e = ap (λ (b : Bool). cond b (learnt k m.pair d) (started k m.pair d)) e

    observed_unready : m.pair.ready ≡ false → observed k m.pair d ≡ started k m.pair d
    observed_unready e = ap (λ (b : Bool). cond b (learnt k m.pair d) (started k m.pair d)) e

    followed_ready : m.pair.ready ≡ true → Up (followed k m.pair (with_pair heard (learnt k m.pair d)) d)
    followed_ready e =
        let p = m.pair in
        let f = s.fine in
        let g = s.floats in
        let a = ready_in k p e f.pair in
        let n = learnt_same p d in
        let l = pushed_most 5 m.recent d in
        followed_up p (with_pair heard (learnt k p d)) d (heard_rest (learnt k p d))
        (learnt_loose p d a.0 a.1 g.lo g.hi (inside duration_min duration_max d t) E) (n.0 ∙ e)
        (subst (λ (z : List Float). T (all_durations z)) (sym n.1) (pair_init k p f.pair))
        (ready_centroids k p e f.pair) t (pushed_some 5 m.recent d (omega arith)) (omega arith)

    pub mark_up : m.pair.ready ≡ true → Up (on_mark k m d)
    unfolding on_mark
    mark_up e =
        let p = m.pair in
        on_true Up p.ready (followed k p (with_pair heard (observed k p d)) d)
        (opened k (with_pair heard (observed k p d))) e
        (subst (λ (q : Pair). Up (followed k p (with_pair heard q) d)) (sym (observed_ready e)) (followed_ready e))

    started_sane : m.pair.ready ≡ false → Sane (opened k (with_pair heard (started k m.pair d)))
    unfolding started
    started_sane e =
        let p = m.pair in
        let f = s.fine in
        let g = s.floats in
        let marks = p.init ++ (d ∷ []) in
        let few = unready_few k p e f.pair in
        let many : length marks ≡ length p.init + 1 = simp length-append in
        let all_in = pushed_in p t (pair_init k p f.pair) in
        by_cond (λ (q : Pair). Sane (opened k (with_pair heard q))) (eqb (length marks) 5) (initialized k marks)
        (with_init p marks)
        (λ x. let b = initialized_begun k marks all_in (omega arith) (omega arith) in
        (opened_up (with_pair heard (initialized k marks)) (heard_rest (initialized k marks))
        (initialized_loose k marks all_in (omega arith) (omega arith)) b.0
        (subst (λ (z : List Float). T (all_durations z)) (sym b.1) (none_all duration))).sane)
        (λ x. let z = unready_zero k p e f.pair in
        let ne = eqb-false (length marks) 5 x in
        on_false Sane p.ready
        (spoken k (bound k (with_uncorroborated (with_pair heard (with_init p marks)) (eqb p.lo_n 1))))
        (with_pair heard (with_init p marks)) e (record {
          fine = record {
            pair = unready_sound k (with_init p marks) e z.0 z.1 (fewer few many ne) (held_durations marks all_in);
            ring = f.ring;
            recent = pushed_all duration 5 m.recent d f.recent t;
            wpm = f.wpm;
            egap = f.egap;
            hint = f.hint;
          };
          floats = record { lo = g.lo; hi = g.hi; wpm = g.wpm; egap = g.egap };
        }))
      where
        pushed_in : (p : Pair) → T (duration d) → T (all_durations p.init)
            → AllIn duration_min duration_max (p.init ++ (d ∷ []))
        pushed_in p t q =
            append_in duration_min duration_max p.init d (durations_in p.init q) (inside duration_min duration_max d t)

        fewer : {a b : ℕ} → a ≤ 4 → b ≡ a + 1 → (b ≡ 5 → ⊥) → b ≤ 4
        fewer h e n = omega arith

    pub mark_sane : Sane (on_mark k m d)
    unfolding on_mark
    mark_sane =
        let p = m.pair in
        by_cond Sane p.ready (followed k p (with_pair heard (observed k p d)) d)
        (opened k (with_pair heard (observed k p d)))
        (λ e. subst (λ (q : Pair). Sane (followed k p (with_pair heard q) d)) (sym (observed_ready e))
        (followed_ready e).sane)
        (λ e. subst (λ (q : Pair). Sane (opened k (with_pair heard q))) (sym (observed_unready e)) (started_sane e))

  -- ---- the other calls

  pub fresh_sane : Sane fresh
  unfolding fits eq
  fresh_sane = record {
    fine = record { pair = tt; ring = tt; recent = tt; wpm = tt; egap = tt; hint = tt };
    floats = record { lo = tt; hi = tt; wpm = tt; egap = tt };
  }

  pub hint_sane : (m : Tracker) (h : Float) → Sane m → Sane (set_hint k m h)
  unfolding set_hint
  hint_sane m h s =
      let f = s.fine in
      let g = s.floats in
      record {
        fine = record {
          pair = f.pair;
          ring = f.ring;
          recent = f.recent;
          wpm = f.wpm;
          egap = f.egap;
          hint =
              by_cond (λ (o : Option Float). T (hint_sound k o)) (finite h)
              (some (clamp k.ratio_min k.ratio_max h)) none
              (λ e. outside k.ratio_min k.ratio_max (clamp k.ratio_min k.ratio_max h)
              (G.hint_in k Good-k h (finite_number h (passed e))))
              (λ e. tt);
        };
        floats = record { lo = g.lo; hi = g.hi; wpm = g.wpm; egap = g.egap };
      }

  moved_positive : (o : Option Float) (d : Float) → T (positive_or o) → T (fits_or o) → In duration_min duration_max d
      → T (positive (gap_moved k o d))
  unfolding of_bits
  moved_positive none d p f i = between duration_min d duration_max tt tt i.0 i.1
  moved_positive (some g) d p f i = G.gap_learned_positive k Good-k g d f p i

  moved_fits : (o : Option Float) (d : Float) → T (fits binary32 d) → T (fits binary32 (gap_moved k o d))
  moved_fits none d f = f
  moved_fits (some g) d f = add-fits binary32 g (mul binary32 k.weight (sub binary32 d g))

  pub gap_sane : (m : Tracker) (d : Float) → Sane m → T (duration d) → T (fits binary32 d) → Sane (on_gap k m d)
  unfolding on_gap
  gap_sane m d s t E =
      let f = s.fine in
      let g = s.floats in
      record {
        fine =
            record {
              pair = f.pair;
              ring = f.ring;
              recent = f.recent;
              wpm = f.wpm;
              egap = moved_positive m.egap d f.egap g.egap
                  (inside duration_min duration_max d t);
              hint = f.hint;
            };
        floats = record { lo = g.lo; hi = g.hi; wpm = g.wpm; egap = moved_fits m.egap d E };
      }

  gap_pair : (m : Tracker) (d : Float) → (on_gap k m d).pair ≡ m.pair
  unfolding on_gap
  gap_pair m d = refl

  pub gap_up : (m : Tracker) (d : Float) → Up m → T (duration d) → T (fits binary32 d) → Up (on_gap k m d)
  gap_up m d u t E =
      record { sane = gap_sane m d u.sane t E; ready = ap (λ (p : Pair). p.ready) (gap_pair m d) ∙ u.ready }

  -- a finish
  pub begin_sane : (m : Tracker) → Sane m → Sane (bootstrapped k m)
  unfolding bootstrapped
  begin_sane m s =
      by_cond Sane (can_begin m) (timed k (bound k (with_pair m (initialized k m.pair.init)))) m
      (λ e. begins (both (not m.pair.ready) (leb 2 (length m.pair.init)) (passed e))) (λ e. s)
    where
      begins : T (not m.pair.ready) × T (leb 2 (length m.pair.init))
          → Sane (timed k (bound k (with_pair m (initialized k m.pair.init))))
      begins b =
          let l = m.pair.init in
          let n = leb→le 2 (length l) b.1 in
          let f = s.fine.pair in
          let few = unready_few k m.pair (unset m.pair.ready b.0) f in
          (timed_up (bound k (with_pair m (initialized k l)))
          (locked_up m l (rest_of m s) (durations_in l (pair_init k m.pair f)) (omega arith) (omega arith))).sane

  -- a seed
  pub seed_up : (m : Tracker) (v : Float) → Sane m → T (positive v) → Up (seeded k m v)
  unfolding seeded
  seed_up m v s p =
      let d = seed_dit k v in
      let i = G.seed_in k Good-k v p in
      let f = s.fine in
      let u = with_uncorroborated (with_egap (with_recent (with_ring (with_pair m (seed_pair d)) []) []) none) true in
      timed_up u (record {
        sane = record {
          fine = record {
            pair =
                ready_sound k (seed_pair d) refl i (G.dah_anew_in k Good-k d three i (G.ideal_in k Good-k))
                (none_all duration);
            ring = none_all (entry_sound k);
            recent = none_all duration;
            wpm = f.wpm;
            egap = tt;
            hint = f.hint;
          };
          floats = record {
            lo =
                clamp_fits binary32 k.dit_min k.dit_max (div binary32 paris v) Held-k.dit_min_held Held-k.dit_max_held
                (div-fits binary32 paris v);
            hi = mul-fits binary32 three d;
            wpm = s.floats.wpm;
            egap = tt;
          };
        };
        ready = refl;
      })

  pub reseed_sane : (m : Tracker) → Sane m → Sane (reseeded k m)
  unfolding reseeded
  reseed_sane m s =
      by_cond Sane m.pair.ready (timed k m) m (λ e. (timed_up m (record { sane = s; ready = e })).sane) (λ e. s)

  pub settled_sane : (m : Tracker) → Sane m → Sane (settled m)
  unfolding settled
  settled_sane m s =
      let f = s.fine in
      let g = s.floats in
      record {
        fine = record { pair = f.pair; ring = f.ring; recent = f.recent; wpm = f.wpm; egap = f.egap; hint = f.hint };
        floats = record { lo = g.lo; hi = g.hi; wpm = g.wpm; egap = g.egap };
      }

  -- ---- assumed dits as dahs
  dit_finite : (x : Float) → In k.dit_min k.dit_max x → T (finite x)
  dit_finite x i = positive-finite x (G.dit_positive k Good-k x i)

  third_loose : (x : Float) → In k.dit_min k.dit_max x → T (not (is_nan (div binary32 x three)))
  third_loose x i = div_number binary32 x three (dit_finite x i) three_positive

  pub resolve_sane : (m : Tracker) (gaps : List Float) → Sane m → Sane (resolved k m gaps)
  unfolding resolved
  resolve_sane m gaps s =
      by_cond Sane (gaps_say_dahs k m.pair gaps) (timed k (bound k (with_pair m (turned m.pair)))) m
      (λ e. turns (is_true_of (both (unsure k m.pair) _ (passed e)).0)) (λ e. s)
    where
      is_true_of : T (unsure k m.pair) → m.pair.ready ≡ true
      is_true_of t =
          set m.pair.ready
          (both m.pair.ready _
          (both (m.pair.ready && (not m.pair.confirmed && not m.pair.placeholder_is_lo)) _ t).0).0

      turns : m.pair.ready ≡ true → Sane (timed k (bound k (with_pair m (turned m.pair))))
      turns e =
          let r = rest_of m s in
          let i = (ready_in k m.pair e s.fine.pair).0 in
          (timed_up (bound k (with_pair m (turned m.pair)))
          (bound_up (with_pair m (turned m.pair))
          (record {
            ring = r.ring;
            recent = r.recent;
            wpm = r.wpm;
            wpm_fits = r.wpm_fits;
            egap = r.egap;
            egap_fits = r.egap_fits;
            hint = r.hint;
          })
          (record {
            number = third_loose m.pair.lo i;
            bounded = dit_finite m.pair.lo i;
            lo = div-fits binary32 m.pair.lo three;
            hi = s.floats.lo;
          }) e
          (pair_init k m.pair s.fine.pair))).sane

  -- ---- for the bank
  pub gaps_up : (m : Tracker) (l : List Float) → Up m → AllIn duration_min duration_max l → T (all (fits binary32) l)
      → Up (element_gaps k m l)
  unfolding element_gaps AllIn
  gaps_up m [] u i F = u
  gaps_up m (g ∷ gs) u i F =
      let b = both (fits binary32 g) (all (fits binary32) gs) F in
      gaps_up (element_gap k m g) gs
      (by_cond Up (lt g (mul binary32 two (dit_estimate k m))) (on_gap k m g) m
      (λ e. gap_up m g u (outside duration_min duration_max g i.0) b.0) (λ e. u)) i.1 b.1

  pub marks_up : (l g : List Float) → AllIn duration_min duration_max l → 1 ≤ length l → length l ≤ 12
      → AllIn duration_min duration_max g → T (all (fits binary32) g) → Up (from_marks k l g)
  unfolding from_marks
  marks_up l g a h w b F =
      timed_up (element_gaps k (bound k (with_pair fresh (initialized k l))) g)
      (gaps_up (bound k (with_pair fresh (initialized k l))) g
      (locked_up fresh l (rest_of fresh fresh_sane) a h w) b F)

  other_loose : (p : Pair) → T (pair_sound k p) → p.ready ≡ true → T (fits binary32 p.lo) → T (fits binary32 p.hi)
      → Loose (other_pair p)
  other_loose p t e F H =
      let i = ready_in k p e t in
      by_cond Loose p.placeholder_is_lo _ _
      (λ x. record {
        number = finite_number p.hi (dah_finite p.hi i.1);
        bounded = threefold_dah p.hi i.1;
        lo = H;
        hi = mul-fits binary32 three p.hi;
      })
      (λ x. record {
        number = third_loose p.lo i.0;
        bounded = dit_finite p.lo i.0;
        lo = div-fits binary32 p.lo three;
        hi = F;
      })

  other_begun : (p : Pair) → ((other_pair p).ready ≡ true) × ((other_pair p).init ≡ [])
  other_begun p =
      by_cond (λ (q : Pair). (q.ready ≡ true) × (q.init ≡ [])) p.placeholder_is_lo _ _ (λ e. (refl, refl))
      (λ e. (refl, refl))

  pub other_up : (m : Tracker) → Up m → Up (timed k (bound k (with_pair fresh (other_pair m.pair))))
  other_up m u =
      let p = m.pair in
      let r = rest_of fresh fresh_sane in
      let b = other_begun p in
      timed_up (bound k (with_pair fresh (other_pair p)))
      (bound_up (with_pair fresh (other_pair p))
      (record {
        ring = r.ring;
        recent = r.recent;
        wpm = r.wpm;
        wpm_fits = r.wpm_fits;
        egap = r.egap;
        egap_fits = r.egap_fits;
        hint = r.hint;
      })
      (other_loose p u.sane.fine.pair u.ready u.sane.floats.lo u.sane.floats.hi) b.0
      (subst (λ (z : List Float). T (all_durations z)) (sym b.1) (none_all duration)))

  -- gaps leave the pair as it is
  pub gaps_pair : (m : Tracker) (l : List Float) → (element_gaps k m l).pair ≡ m.pair
  unfolding element_gaps
  gaps_pair m [] = refl
  gaps_pair m (g ∷ gs) =
      gaps_pair (element_gap k m g) gs
      ∙ by_cond (λ (z : Tracker). z.pair ≡ m.pair) (lt g (mul binary32 two (dit_estimate k m))) (on_gap k m g) m
      (λ e. gap_pair m g) (λ e. refl)
