-- Half of a value of a format is a value of the format, where it is not too small; and two values that are not too small are so far apart that their distance can be halved. Assumes nothing.
use mathlib.Core.Path.{◌≡◌, refl, sym, ap, ◌∙◌}
use mathlib.Core.Logic.{inl, inr}
use mathlib.Core.Bool.{true, false}
use Prim.Native.Nat.{ℕ, zero, suc, ◌+◌, ◌-◌, ◌*◌, ◌^◌, ◌≤◌, ◌<◌}
use native.Mathlib.Nat.{le_trans, le_of_eq, lt_of_not-le, not-le_of_lt, mul-one, mul_comm, mul_assoc, mul-le-mul_right, mul-lt-mul_of_pos_right, lt_of_mul-lt-mul_right, le_of_mul-le-mul_right, mul-pos, pow-suc, zero-lt-suc}
use native.Mathlib.Omega.{arith}
use lib.IntN.{pos, negsuc}
use lib.Dec.{T, leb, leb→le, nleb→lt, ltb→lt, lit≤, lit<}
use lib.Pow.{pow_pos, pow-add, pow_mono}
use lib.Ieee.{Float, nan, inf, fin, Format, binary32, binary64, prec, low, emax, up, down, sub, round, le, lt, fits}
use lib.Ieee.Fits.{up_pos, round-fits, sub-fits}
use lib.Ieee.Exact.{HasValue}
use lib.Ieee.Positive.{num, den, positive, den_pos, between, positive-finite, positive_of_value, value_pos, own_value, value→cross}
use Rattle.ranges.proofs.Signed.{ps, ng, flat, le→signed, positive_ng}
use Rattle.ranges.proofs.Rounded.{Rounded, rounded_mono, sub-rounded}
use Rattle.ranges.proofs.Own.{exact, fits_parts, own_rounded}
use Rattle.ranges.proofs.Compare.{either}

-- ---- grains: what is at least 2 ^ -14 is a whole number of 2 ^ -(14 + prec), and what is at least one of them can be halved
abbrev pub base : Float
base = fin false 1 (negsuc 13)

abbrev grain : Format → ℕ
grain f = 13 + prec f

abbrev pub tiny : Format → Float
tiny f = fin false 1 (negsuc (13 + prec f))

tiny_fits : (f : Format) → T (fits f (tiny f))
unfolding fits
tiny_fits binary32 = tt
tiny_fits binary64 = tt

-- the format has room below the grain
room : (f : Format) → suc (grain f) + prec f ≤ low f
room binary32 = lit≤ tt
room binary64 = lit≤ tt

-- 2 ^ k ≤ 2 ^ a * m for an m of n digits
no_lower : (n m k a : ℕ) → m < 2 ^ n → 2 ^ k ≤ 2 ^ a * m → k < a + n
no_lower n m k a h l = lt_of_not-le (λ (g : a + n ≤ k). clash (2 ^ k) m (2 ^ a) (2 ^ n) (le_trans (le_of_eq (sym (pow-add 2 a n))) (pow_mono g)) l (pow_pos a) h)
  where
    clash : (x m p q : ℕ) → p * q ≤ x → x ≤ p * m → 0 < p → m < q → ⊥
    clash x m p q u v w h = not-le_of_lt h (le_of_mul-le-mul_right {m = q} {n = m} {k = p} (omega (arith, mul_comm p q, mul_comm p m)) w)

gap : (k l : ℕ) → k ≤ l → l - k + k ≡ l
gap k l h = omega arith

down_by : (m k l : ℕ) → k ≤ l → m * 1 * 2 ^ l ≡ m * 2 ^ (l - k) * 2 ^ k
down_by m k l h = ap (λ (z : ℕ). z * 2 ^ l) (mul-one m) ∙ ap (λ (z : ℕ). m * 2 ^ z) (sym (gap k l h)) ∙ ap (λ (z : ℕ). m * z) (pow-add 2 (l - k) k) ∙ sym (mul_assoc m (2 ^ (l - k)) (2 ^ k))

grains : (f : Format) (x : Float) → T (fits f x) → T (positive x) → T (le base x) → (G : ℕ) × (ps x * 2 ^ suc (grain f) ≡ G * den x)
grains f nan F p h = absurd p
grains f (inf s) F p h = absurd p
grains f (fin true m e) F p h = absurd p
grains f (fin false zero e) F p h = absurd p
grains f (fin false (suc m) (pos k)) F p h = (suc m * 2 ^ k * 2 ^ suc (grain f), sym (mul-one (suc m * 2 ^ k * 2 ^ suc (grain f))))
grains f (fin false (suc m) (negsuc k)) F p h =
    let w = fits_parts f false m (negsuc k) F in
    let b : suc k < 14 + prec f = no_lower (prec f) (suc m) (suc k) 14 w.0 (omega (arith, le→signed base (fin false (suc m) (negsuc k)) tt tt h)) in
    (suc m * 2 ^ (suc (grain f) - suc k), down_by (suc m) (suc k) (suc (grain f)) (omega arith))

-- ---- half of a t that is a grain at least
abbrev pub half_of : Format → Float → Float
half_of f t = round f false (num t) (den t * 2)

shift_up : (m k l : ℕ) → 0 < l → m * 2 ^ k * 2 ^ l ≡ m * 2 ^ (k + (l - 1)) * (1 * 2)
shift_up m k l h =
    ap (λ (z : ℕ). m * 2 ^ k * 2 ^ z) (one_less l h)
    ∙ ap (λ (z : ℕ). m * 2 ^ k * z) (pow-add 2 (l - 1) 1)
    ∙ sym (mul_assoc (m * 2 ^ k) (2 ^ (l - 1)) 2)
    ∙ ap (λ (z : ℕ). z * 2) (mul_assoc m (2 ^ k) (2 ^ (l - 1)) ∙ ap (λ (z : ℕ). m * z) (sym (pow-add 2 k (l - 1))))
  where
    one_less : (l : ℕ) → 0 < l → l ≡ l - 1 + 1
    one_less l h = omega arith

shift_down : (m k l : ℕ) → suc (suc k) ≤ l → m * 1 * 2 ^ l ≡ m * 2 ^ (l - suc (suc k)) * (2 ^ suc k * 2)
shift_down m k l h =
    ap (λ (z : ℕ). z * 2 ^ l) (mul-one m)
    ∙ ap (λ (z : ℕ). m * 2 ^ z) (two_less k l h)
    ∙ ap (λ (z : ℕ). m * z) (pow-add 2 (l - suc (suc k)) (suc (suc k)))
    ∙ ap (λ (z : ℕ). m * (2 ^ (l - suc (suc k)) * z)) (pow-suc 2 (suc k))
    ∙ sym (mul_assoc m (2 ^ (l - suc (suc k))) (2 ^ suc k * 2))
  where
    two_less : (k l : ℕ) → suc (suc k) ≤ l → l ≡ l - suc (suc k) + suc (suc k)
    two_less k l h = omega arith

wider : (a t c : ℕ) → a < t * c → a < t * (c * 2)
wider a t c h = omega arith

grained : (f : Format) (m k : ℕ) → m < 2 ^ prec f → 2 ^ k ≤ m * 2 ^ suc (grain f) → suc k ≤ low f
grained f m k h l = let r = room f in let b : k < suc (grain f) + prec f = no_lower (prec f) m k (suc (grain f)) h (le_trans l (le_of_eq (mul_comm m (2 ^ suc (grain f))))) in omega arith

half_value : (f : Format) (t : Float) → T (fits f t) → T (positive t) → T (le (tiny f) t) → HasValue (half_of f t) false (num t) (den t * 2)
half_value f nan F p h = absurd p
half_value f (inf s) F p h = absurd p
half_value f (fin true m e) F p h = absurd p
half_value f (fin false zero e) F p h = absurd p
half_value f (fin false (suc m) (pos k)) F p h =
    let w = fits_parts f false m (pos k) F in
    exact f false (suc m * 2 ^ k) (1 * 2) (suc m) (k + (low f - 1)) (zero-lt-suc 1) w.0 (wider (suc m * 2 ^ k) (2 ^ suc (emax f)) 1 w.2) (shift_up (suc m) k (low f) (low_pos f))
  where
    low_pos : (f : Format) → 0 < low f
    low_pos binary32 = lit< tt
    low_pos binary64 = lit< tt
half_value f (fin false (suc m) (negsuc k)) F p h =
    let w = fits_parts f false m (negsuc k) F in
    let b : suc (suc k) ≤ low f = grained f (suc m) (suc k) w.0 (omega (arith, le→signed (tiny f) (fin false (suc m) (negsuc k)) tt tt h)) in
    exact f false (suc m * 1) (2 ^ suc k * 2) (suc m) (low f - suc (suc k)) (mul-pos (pow_pos (suc k)) (zero-lt-suc 1)) w.0 (wider (suc m * 1) (2 ^ suc (emax f)) (2 ^ suc k) w.2) (shift_down (suc m) k (low f) b)

positive_ps : (x : Float) → T (positive x) → num x ≡ ps x
positive_ps nan p = absurd p
positive_ps (inf s) p = absurd p
positive_ps (fin true m e) p = absurd p
positive_ps (fin false m e) p = refl

pub record Half (f : Format) (t h : Float) : Type 0 where
  pub above : T (positive h)
  pub held : T (fits f h)
  pub twice : ps h * (den t * 2) ≡ ps t * den h

pub half : (f : Format) (t : Float) → T (fits f t) → T (positive t) → T (le (tiny f) t) → Half f t (half_of f t)
half f t F p h =
    let v = half_value f t F p h in
    let q = positive_of_value (half_of f t) (num t) (den t * 2) v (value_pos t (num t) (den t) p (den_pos t) (own_value t p)) in
    record {
      above = q;
      held = round-fits f false (num t) (den t * 2);
      twice = ap (λ (z : ℕ). z * (den t * 2)) (sym (positive_ps (half_of f t) q)) ∙ value→cross (half_of f t) (num t) (den t * 2) v ∙ ap (λ (z : ℕ). z * den (half_of f t)) (positive_ps t p);
    }

-- ---- s below b, both whole numbers of grains: their distance is a grain at least
lt→cross : (x y : Float) → T (positive x) → T (positive y) → T (lt x y) → ps x * den y < ps y * den x
unfolding lt
lt→cross nan y p q h = absurd p
lt→cross (inf s) y p q h = absurd p
lt→cross (fin true m e) y p q h = absurd p
lt→cross (fin false m e) nan p q h = absurd q
lt→cross (fin false m e) (inf t) p q h = absurd q
lt→cross (fin false m e) (fin true n d) p q h = absurd q
lt→cross (fin false m e) (fin false n d) p q h = ltb→lt (m * up e * down d) (n * up d * down e) h

grain_cross : (pb nb db a c ds X G K : ℕ) → a * db < pb * ds → pb * K ≡ X * db → a * K ≡ G * ds → 0 < db → 0 < ds → 0 < K → nb ≡ 0 → 1 * (db * ds) + (nb * ds + a * db) * K ≤ (pb * ds + c * db) * K + 0 * (db * ds)
grain_cross pb nb db a c ds X G K l e f D S k z =
    let E = simp flat at (ap (λ (z : ℕ). z * ds) e) in
    let F = simp flat at (ap (λ (z : ℕ). z * db) f) in
    let L = simp flat at (mul-lt-mul_of_pos_right l k) in
    let o : suc G ≤ X = lt_of_mul-lt-mul_right (db * ds) (simp flat (omega arith)) in
    let O = simp flat at (mul-le-mul_right (db * ds) o) in
    let Z = ap (λ (x : ℕ). x * (ds * K)) z in
    simp flat (omega arith)

-- what is not above half of a t above zero is not t
no_half : (ph dh pt dt : ℕ) → 0 < ph → 0 < dt → ph * (dt * 2) ≡ pt * dh → pt * dh ≤ ph * dt → ⊥
no_half ph dh pt dt P D e h = clash (ph * dt) (mul-pos P D) (omega arith)
  where
    clash : (x : ℕ) → 0 < x → x * 2 ≤ x → ⊥
    clash x p q = omega arith

ps_pos : (x : Float) → T (positive x) → 0 < ps x
ps_pos nan p = absurd p
ps_pos (inf s) p = absurd p
ps_pos (fin true m e) p = absurd p
ps_pos (fin false m e) p = mul-pos (ltb→lt 0 m p) (up_pos e)

-- half of a rounded fraction is at most the fraction itself
half_under : (f : Format) (t h : Float) (p n c : ℕ) → Rounded f t p n c → T (positive t) → Half f t h → ps h * c + n * den h ≤ p * den h
half_under f t h p n c r q w = elim (either (leb (ps h * c + n * den h) (p * den h))) [
  | inl y ↦ leb→le (ps h * c + n * den h) (p * den h) y
  | inr z ↦
      let H = positive-finite h w.above in
      let Q = positive-finite t q in
      let l = nleb→lt (ps h * c + n * den h) (p * den h) z in
      let nh = positive_ng h w.above in
      let k : T (le t h) = rounded_mono f t h p n c _ _ _ r (own_rounded f h H w.held) (omega (arith, ap (λ (x : ℕ). x * c) nh)) in
      absurd (no_half (ps h) (den h) (ps t) (den t) (ps_pos h w.above) (den_pos t) w.twice (omega (arith, le→signed t h Q H k, ap (λ (x : ℕ). x * den t) nh, ap (λ (x : ℕ). x * den h) (positive_ng t q))))
]

-- b - s is above zero, and its half is at most the unrounded distance
pub record Apart (f : Format) (b s : Float) : Type 0 where
  pub positive_t : T (positive (sub f b s))
  pub halved : Half f (sub f b s) (half_of f (sub f b s))
  pub under : ps (half_of f (sub f b s)) * (den b * den s) + (ng b * den s + ps s * den b) * den (half_of f (sub f b s)) ≤ (ps b * den s + ng s * den b) * den (half_of f (sub f b s))

less_cross : (pb nb db a c ds : ℕ) → c ≡ 0 → (pb * ds + c * db) * db + nb * (db * ds) ≤ pb * (db * ds) + (nb * ds + a * db) * db
less_cross pb nb db a c ds z =
    let Z = ap (λ (x : ℕ). x * (db * db)) z in
    simp flat (omega arith)

pub apart : (f : Format) (b s : Float) → T (fits f b) → T (fits f s) → T (positive b) → T (positive s) → T (le base b) → T (le base s) → T (lt s b) → Apart f b s
apart f b s F E p q h k l =
    let B = positive-finite b p in
    let S = positive-finite s q in
    let t = sub f b s in
    let r = sub-rounded f b s B S in
    let X = grains f b F p h in
    let G = grains f s E q k in
    let t-lo : T (le (tiny f) t) = rounded_mono f (tiny f) t _ _ _ _ _ _ (own_rounded f (tiny f) tt (tiny_fits f)) r
    (grain_cross (ps b) (ng b) (den b) (ps s) (ng s) (den s) X.0 G.0 (2 ^ suc (grain f)) (lt→cross s b q p l) X.1 G.1 (den_pos b) (den_pos s) (pow_pos (suc (grain f))) (positive_ng b p)) in
    let t-hi : T (le t b) = rounded_mono f t b _ _ _ _ _ _ r (own_rounded f b B F) (less_cross (ps b) (ng b) (den b) (ps s) (ng s) (den s) (positive_ng s q)) in
    let t-pos = between (tiny f) t b tt p t-lo t-hi in
    let w = half f t (sub-fits f b s) t-pos t-lo in
    record { positive_t = t-pos; halved = w; under = half_under f t (half_of f t) _ _ _ r t-pos w }
