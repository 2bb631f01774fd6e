-- What a count says of a class's view; a class taken out of statistics, and one put in. Assumes nothing.
use mathlib.Core.Path.{◌≡◌, refl, sym, ap, ◌∙◌}
use mathlib.Core.Bool.{Bool, ◌&&◌}
use mathlib.Core.Option.{Option, some}
use Prim.Native.Nat.{ℕ}
use lib.Dec.{T}
use lib.Ieee.{Float}
use lib.Ieee.Fits.{and_i, and_l, and_r}
use borrow.Author.Tests.{ne_eqb}
use Rattle.sender.specs.declared.TimingClass.{TimingClass}
use Rattle.sender.specs.declared.TimingClass.TheVariants.{Dot, Dash, ElementGap, CharGap, WordGap}
use Rattle.sender.specs.declared.ClassStats.{ClassStats}
use Rattle.sender.specs.declared.SenderTiming.{SenderTiming}
use Rattle.sender.specs.Model.{Class, Timing, at, put, sampled, view_class, view, stats_of, with_stats}
use Rattle.sender.specs.Sound.{class_sound, sound}

-- ---- a class with some sample
pub some_at : (m v : Float) (n : ℕ) → (n ≡ 0 → ⊥) → sampled m v n ≡ some (record { mean = m; var = v; n = n })
some_at m v n e = rw (ne_eqb n 0 e)

-- ---- the view of one class, and of statistics with one put in
pub at_view : (k : TimingClass) (s : SenderTiming) → view_class (stats_of k s) ≡ at k (view s)
at_view Dot s = refl
at_view Dash s = refl
at_view ElementGap s = refl
at_view CharGap s = refl
at_view WordGap s = refl

pub view_with : (k : TimingClass) (c : ClassStats) (s : SenderTiming) → view (with_stats k c s) ≡ put k (view_class c) (view s)
view_with Dot c s = refl
view_with Dash c s = refl
view_with ElementGap c s = refl
view_with CharGap c s = refl
view_with WordGap c s = refl

-- ---- only one class differs
pub alone : (k : TimingClass) (c : ClassStats) (s r : SenderTiming) → r ≡ with_stats k c s → r ≡ with_stats k (stats_of k r) s
alone k c s r e = e ∙ ap (λ (d : ClassStats). with_stats k d s) (sym (ap (stats_of k) e ∙ put_back k c s))
  where
    put_back : (k : TimingClass) (c : ClassStats) (s : SenderTiming) → stats_of k (with_stats k c s) ≡ c
    put_back Dot c s = refl
    put_back Dash c s = refl
    put_back ElementGap c s = refl
    put_back CharGap c s = refl
    put_back WordGap c s = refl

-- ---- five tests
pub record Five (a b c d e : Bool) : Type 0 where
  pub one : T a
  pub two : T b
  pub three : T c
  pub four : T d
  pub five : T e

to_five : (a b c d e : Bool) → T (a && b && c && d && e) → Five a b c d e
to_five a b c d e t =
    let u = and_l (a && b && c && d) e t in
    let v = and_l (a && b && c) d u in
    let w = and_l (a && b) c v in
    record { one = and_l a b w; two = and_r a b w; three = and_r (a && b) c v; four = and_r (a && b && c) d u; five = and_r (a && b && c && d) e t }

of_five : {a b c d e : Bool} → Five a b c d e → T (a && b && c && d && e)
of_five {a} {b} {c} {d} {e} h = and_i (a && b && c && d) e (and_i (a && b && c) d (and_i (a && b) c (and_i a b h.one h.two) h.three) h.four) h.five

abbrev Each : Timing → Type 0
Each t = Five (class_sound t.dot) (class_sound t.dash) (class_sound t.element_gap) (class_sound t.char_gap) (class_sound t.word_gap)

each : (t : Timing) → T (sound t) → Each t
unfolding sound
each t h = to_five (class_sound t.dot) (class_sound t.dash) (class_sound t.element_gap) (class_sound t.char_gap) (class_sound t.word_gap) h

whole : (t : Timing) → Each t → T (sound t)
unfolding sound
whole t h = of_five h

-- ---- of sound statistics each class is sound, and they stay sound with a sound class put in
pub sound_at : (k : TimingClass) (t : Timing) → T (sound t) → T (class_sound (at k t))
sound_at Dot t h = (each t h).one
sound_at Dash t h = (each t h).two
sound_at ElementGap t h = (each t h).three
sound_at CharGap t h = (each t h).four
sound_at WordGap t h = (each t h).five

pub sound_put : (k : TimingClass) (c : Option Class) (t : Timing) → T (sound t) → T (class_sound c) → T (sound (put k c t))
sound_put Dot c t h p = let f = each t h in whole (put Dot c t) (record { one = p; two = f.two; three = f.three; four = f.four; five = f.five })
sound_put Dash c t h p = let f = each t h in whole (put Dash c t) (record { one = f.one; two = p; three = f.three; four = f.four; five = f.five })
sound_put ElementGap c t h p = let f = each t h in whole (put ElementGap c t) (record { one = f.one; two = f.two; three = p; four = f.four; five = f.five })
sound_put CharGap c t h p = let f = each t h in whole (put CharGap c t) (record { one = f.one; two = f.two; three = f.three; four = p; five = f.five })
sound_put WordGap c t h p = let f = each t h in whole (put WordGap c t) (record { one = f.one; two = f.two; three = f.three; four = f.four; five = p })

-- what the code of `observe` asks of the class that is named
pub ruleset classes = (at_view, view_with, sound_at, sound_put)
