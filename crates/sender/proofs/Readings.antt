-- Of sound statistics the ratio is finite, and so is the word boundary, which lies from 3 to 12. Assumes nothing.
use mathlib.Core.Path.{◌≡◌, refl, sym, ap, ap₂, ◌∙◌, subst}
use mathlib.Core.Logic.{inl, inr}
use mathlib.Core.Bool.{Bool, true, false, ◌&&◌, cond}
use mathlib.Core.Option.{Option, none, some}
use Prim.Native.Nat.{ℕ, zero, suc, ◌≤◌, ◌<◌}
use native.Mathlib.Nat.{lt_irrefl, zero-lt-suc}
use native.Mathlib.Omega.{arith}
use lib.Dec.{T, eqb, leb}
use Rattle.std.specs.Bool.{then_some}
use Rattle.std.proofs.lemmas.Bool.Decides.{leb_tells}
use lib.Ieee.{Float, nan, inf, fin, binary32, div, mul, le, lt, fits, is_nan, of_bits}
use lib.Ieee.{size, round}
use lib.Ieee.Bits.{is_true}
use lib.Ieee.Fits.{mul-fits}
use lib.Ieee.Scale.{finite}
use lib.Ieee.Exact.{HasValue}
use lib.Ieee.Positive.{positive, between}
use borrow.Author.Tests.{lt-leb, le-leb}
use Rattle.order.specs.Order.{clamp, larger}
use Rattle.numbers.specs.Root.{sqrt_of, root_of, floor_root, root_in}
use Rattle.numbers.proofs.NearestRoot.{root_is_nearest}
use Rattle.ranges.specs.Interval.{In}
use Rattle.ranges.specs.Limits.{nought, class_min, class_max}
use Rattle.ranges.proofs.Signed.{finite_number}
use Rattle.ranges.proofs.Interval.{in_finite, mul_in, div_in}
use Rattle.ranges.proofs.Compare.{either}
use Rattle.ranges.proofs.Door.{not_positive}
use Rattle.ranges.proofs.Clamp as C
use Rattle.sender.specs.declared.ClassStats.{ClassStats}
use Rattle.sender.specs.Constants.{nominal_ratio, word_min, word_max, pause_min, pause_times, ratio_count}
use Rattle.sender.specs.Model.{Class, Timing, view_class, held}
use Rattle.sender.specs.Sound.{class_sound, sound}
use Rattle.sender.specs.Steps.{enough, ratio, boundary, word_dits, char_gap_or, pauses}
use Rattle.sender.specs.Answers.{in_dits, unless, state_refusal, optional, word_said}
use Rattle.sender.specs.declared.TimingClass.TheVariants.{CharGap, WordGap}
use Rattle.sender.proofs.Views.{some_at, sound_at}
use Rattle.sender.proofs.Samples.{mean_in}

-- ---- a sound mean is above zero, and the quotient of two is finite
pub mean_positive : (m : Float) → In class_min class_max m → T (positive m)
unfolding of_bits
mean_positive m i = between class_min m class_max tt tt i.0 i.1

pub ratio_finite : (a b : Float) → In class_min class_max a → In class_min class_max b → T (finite (div binary32 a b))
unfolding div of_bits
ratio_finite a b i j = in_finite (div binary32 class_min class_max) (div binary32 class_max class_min) (div binary32 a b) tt tt (div_in binary32 class_min class_max a class_min class_max b tt tt tt tt i j)

-- ---- the root of what is above zero is finite
valued_finite : (r : Float) (n c : ℕ) → HasValue r false n c → T (finite r)
valued_finite nan n c h = absurd h
valued_finite (inf s) n c h = absurd h
valued_finite (fin s m e) n c h = tt

pub root_finite : (v : Float) → T (fits binary32 v) → T (positive v) → T (finite (sqrt_of binary32 v))
unfolding sqrt_of
root_finite nan F p = absurd p
root_finite (inf s) F p = absurd p
root_finite (fin true m e) F p = absurd p
root_finite (fin false zero e) F p = absurd p
root_finite (fin false (suc m) e) F p = valued_finite (root_of binary32 (suc m) e) _ _ (root_is_nearest binary32 m e F).value

-- ---- the boundary
product_positive : (a b : Float) → In class_min class_max a → In class_min class_max b → T (positive (mul binary32 a b))
unfolding mul of_bits
product_positive a b i j =
    let k = mul_in binary32 class_min class_max a class_min class_max b tt tt tt tt i j in
    between (mul binary32 class_min class_min) (mul binary32 a b) (mul binary32 class_max class_max) tt tt k.0 k.1

-- the root of 7/3, as the code has it
abbrev pub nominal_root : Float
nominal_root = of_bits binary32 0x3fc3_85f2

pub nominal_root_law : sqrt_of binary32 nominal_ratio ≡ nominal_root
unfolding sqrt_of root_of floor_root root_in size round of_bits div
nominal_root_law = refl

nominal_finite : (a : Float) → In class_min class_max a → T (finite (mul binary32 a nominal_root))
unfolding mul le of_bits
nominal_finite a i =
    let k = mul_in binary32 class_min class_max a nominal_root nominal_root nominal_root tt tt tt tt i (tt, tt) in
    in_finite (mul binary32 class_min nominal_root) (mul binary32 class_max nominal_root) (mul binary32 a nominal_root) tt tt k

pub boundary_finite : (a : Float) (w : Option Class) → In class_min class_max a → T (class_sound w) → T (finite (boundary a w))
unfolding boundary
boundary_finite a none i h = rw nominal_root_law (nominal_finite a i)
boundary_finite a (some w) i h = root_finite (mul binary32 a w.mean) (mul-fits binary32 a w.mean) (product_positive a w.mean i (mean_in w h))

-- "Clamped to" 3 to 12: where there is a char gap there is a boundary, and it lies there
pub boundary_in : (a : Float) (w : Option Class) → In class_min class_max a → T (class_sound w) → In word_min word_max (clamp word_min word_max (boundary a w))
unfolding is_nan le of_bits
boundary_in a w i h = C.clamp_in word_min word_max (boundary a w) tt tt (finite_number (boundary a w) (boundary_finite a w i h)) tt tt tt

pub word_is : (c : Class) (w : Option Class) → T (class_sound (some c)) → T (class_sound w) → word_dits (some c) w ≡ some (clamp word_min word_max (boundary c.mean w))
unfolding word_dits
word_is c w h k = rw (is_true (finite (boundary c.mean w)) (boundary_finite c.mean w (mean_in c h) k))

-- ---- the ratio
pub ratio_is : (dot dash : Class) → T (class_sound (some dot)) → T (class_sound (some dash)) → enough dot ≡ true → enough dash ≡ true → ratio (some dot) (some dash) ≡ some (div binary32 dash.mean dot.mean)
unfolding ratio
ratio_is dot dash h k e f =
    rw (e, f, is_true (lt nought dot.mean) (above dot.mean (mean_positive dot.mean (mean_in dot h))), is_true (finite (div binary32 dash.mean dot.mean)) (ratio_finite dash.mean dot.mean (mean_in dash k) (mean_in dot h)))
  where
    above : (m : Float) → T (positive m) → T (lt nought m)
    above m p = elim (either (lt nought m)) [ inl t ↦ t | inr n ↦ absurd (subst T (sym (not_positive m n)) p) ]

-- ---- as the code reads them
few : (m v : Float) (n : ℕ) → n < ratio_count → (a : Bool) (o : Option Class) → (ratio (cond a none (some (record { mean = m; var = v; n = n }))) o ≡ none) × (ratio o (cond a none (some (record { mean = m; var = v; n = n }))) ≡ none)
unfolding ratio
few m v n h true none = (refl, refl)
few m v n h true (some c) = (refl, refl)
few m v n h false none = (refl, refl)
few m v n h false (some c) = (rw (lt-leb ratio_count n h), rw (lt-leb ratio_count n h) (none_either (enough c)))
  where
    none_either : (b : Bool) → cond (b && false) (some (div binary32 m c.mean)) none ≡ none
    none_either true = refl
    none_either false = refl

-- fewer than three dots, or dashes
pub few_dots : (s : ClassStats) (o : Option Class) → s.n < ratio_count → ratio (view_class s) o ≡ none
few_dots s o h = (few s.mean.0 s.var s.n h (eqb s.n 0) o).0

pub few_dashes : (s : ClassStats) (o : Option Class) → s.n < ratio_count → ratio o (view_class s) ≡ none
few_dashes s o h = (few s.mean.0 s.var s.n h (eqb s.n 0) o).1

-- a class with a sample
seen : (s : ClassStats) → (s.n ≡ 0 → ⊥) → view_class s ≡ some (record { mean = s.mean.0; var = s.var; n = s.n })
seen s e = some_at s.mean.0 s.var s.n e

many : (n : ℕ) → ratio_count ≤ n → n ≡ 0 → ⊥
many n h e = omega arith

pub ratio_of : (dot dash : ClassStats) → T (class_sound (view_class dot)) → T (class_sound (view_class dash)) → ratio_count ≤ dot.n → ratio_count ≤ dash.n → ratio (view_class dot) (view_class dash) ≡ some (div binary32 dash.mean.0 dot.mean.0)
ratio_of dot dash h k m n =
    let e = seen dot (many dot.n m) in
    let f = seen dash (many dash.n n) in
    ap₂ ratio e f ∙ ratio_is _ _ (subst (λ (o : Option Class). T (class_sound o)) e h) (subst (λ (o : Option Class). T (class_sound o)) f k) (le-leb ratio_count dot.n m) (le-leb ratio_count dash.n n)

-- what the code tests of the dashes, once there are enough dots
pub ratio_known : (dot dash : ClassStats) (b : Bool) → T (class_sound (view_class dot))
    → T (class_sound (view_class dash)) → ratio_count ≤ dot.n → b ≡ leb ratio_count dash.n
    → held (then_some b (div binary32 dash.mean.0 dot.mean.0)) ≡ ratio (view_class dot) (view_class dash)
ratio_known dot dash b h k m e = elim (leb_tells ratio_count dash.n) [
  | inl t ↦ rw (e ∙ t.0) (sym (ratio_of dot dash h k m t.1))
  | inr t ↦ rw (e ∙ t.0) (sym (few_dashes dash (view_class dot) t.1))
]

pub word_of : (c : Class) (o w : Option Class) → some c ≡ o → T (class_sound o) → T (class_sound w)
    → word_dits o w ≡ some (clamp word_min word_max (boundary c.mean w))
word_of c o w e h k =
    ap (λ (o : Option Class). word_dits o w) (sym e)
    ∙ word_is c w (subst (λ (o : Option Class). T (class_sound o)) (sym e) h) k

-- ---- whatever is said of a word boundary lies from 3 to 12
pub said_in : (o w : Option Class) (x : Float) → T (class_sound o) → T (class_sound w) → optional in_dits (word_dits o w) ≡ in_dits x → In word_min word_max x
unfolding word_dits
said_in none w x h k e = let z : ◌≡◌ {A = ℕ} 0 1 = cc in absurd (lt_irrefl 0 (subst (λ (n : ℕ). 0 < n) (sym z) (zero-lt-suc 0)))
said_in (some c) w x h k e =
    let d : in_dits (clamp word_min word_max (boundary c.mean w)) ≡ in_dits x = sym (ap (optional in_dits) (word_is c w h k)) ∙ e in
    let q : clamp word_min word_max (boundary c.mean w) ≡ x = cc in
    subst (In word_min word_max) q (boundary_in c.mean w (mean_in c h) k)

pub word_said_in : (t : Timing) (x : Float) → unless (state_refusal t) (word_said t) ≡ in_dits x → In word_min word_max x
word_said_in t x e = go (sound t) (λ h. h) e
  where
    go : (b : Bool) → (T b → T (sound t)) → unless (cond b 0 1) (word_said t) ≡ in_dits x → In word_min word_max x
    go true h e = said_in t.char_gap t.word_gap x (sound_at CharGap t (h tt)) (sound_at WordGap t (h tt)) e
    go false h e = let z : ◌≡◌ {A = ℕ} 0 1 = cc in absurd (lt_irrefl 0 (subst (λ (n : ℕ). 0 < n) (sym z) (zero-lt-suc 0)))

-- "`is_pause` of NaN is no"
nothing_below_nan : (x : Float) → le x nan ≡ false
unfolding le
nothing_below_nan nan = refl
nothing_below_nan (inf s) = refl
nothing_below_nan (fin s m e) = refl

pub pause_of_nan : (t : Timing) → pauses nan t ≡ false
unfolding pauses
pause_of_nan t = nothing_below_nan (larger pause_min (mul binary32 pause_times (char_gap_or t)))
