-- `root_of` is the root rounded to the nearest: no other value of the format is as near, and there is no tie. Assumes nothing.
use Rattle.std.proofs.Common.{◌≡◌, ℕ, zero, suc, ◌+◌, ◌-◌, ◌*◌, ◌/◌, ◌%◌, ◌^◌, ◌<◌, ◌≤◌, Bool, true, false, cond, ◌&&◌, T, eqb, ltb, leb, ◌⊎◌, ℤ, pos, negsuc, sym, refl, ap, ◌∙◌, subst, inl, inr, le_trans, le_of_eq, lt_of_lt_of_le, le_of_suc-le-suc, lt_of_le_of_lt, le_of_lt, lt_irrefl, mul-le-mul_right, mod-lt, zero-lt-suc, mul_assoc, suc-mul, div-lt_iff_lt-mul, le_antisymm, lt_of_mul-lt-mul_right, eq-or-lt_of_le, mul-le-mul_left, mul-lt-mul_of_pos_right, mul-pos, one-mul, pow-suc, lt_of_not-le, div-add-mod', le-div_iff_mul-le, zero-mul, mul-one, mul_right_comm, not-le_of_lt, div-one, mul-div_cancel, mul_left_comm, arith, lit≤, eqb→eq, ltb→lt, leb→le, pow_pos, pow_mono, pow-add, shl_lt, eqb-true}
use Prim.Native.Nat.{compare}
use native.Mathlib.Nat.{eq_of_mul-eq-mul_right, pow-succ'}
use native.Mathlib.Decide.{dec_le}
use lib.Pow.{pow-lt}
use lib.Ieee.{Float, nan, inf, fin, Format, binary32, binary64, prec, emax, low, up, down, size, fits, units}
use lib.Ieee.Digits.{size-lt, size-le, size_reaches}
use lib.Ieee.Fits.{two, two-le_pos, nearest-le, and_l, and_r, down_pos, round_is, round-fits}
use lib.Ieee.Exact.{HasValue, units_val}
use lib.Ieee.Nearest.{closest, closest_same, nearest-ge, div_same}
use lib.Ieee.Scale.{finite}
use borrow.Author.Tests.{eqb-false}
use Rattle.numbers.specs.Log.{rise, fall}
use Rattle.numbers.specs.Root.{floor_root, square_units, root_of, units_of, Nearer, NearestRoot}
use Rattle.numbers.proofs.Closest.{closest_down, closest_tie, closest_up}
use Rattle.numbers.proofs.FloorRoot.{floor_root_law, square_mono, square_lt_back}

-- ---- how far `closest` can be from what it rounds: half of b
abbrev Within : ℕ → ℕ → ℕ → Type 0
Within w b x = (2 * w ≤ 2 * x * b + b) × (2 * x * b ≤ 2 * w + b)

within_at : (q b r : ℕ) → 0 < b → r < b → Within (q * b + r) b (closest (q * b + r) b)
within_at q b r B h = go (dec_le (suc (r * 2)) b) (dec_le (suc b) (r * 2))
  where
    tie : (t : ℕ) → t ≤ 1 → r * 2 ≡ b → Within (q * b + r) b (q + t)
    tie zero k e = (omega arith, omega arith)
    tie (suc t) k e = let z : t ≡ 0 = omega arith in subst (λ (x : ℕ). Within (q * b + r) b (q + suc x)) (sym z) (omega arith, omega arith)

    rem : (x : ℕ) → x % 2 ≤ 1
    rem x = omega arith

    go : Dec (suc (r * 2) ≤ b) → Dec (suc b ≤ r * 2) → Within (q * b + r) b (closest (q * b + r) b)
    go (yes l) d = subst (λ (x : ℕ). Within (q * b + r) b x) (sym (closest_down q b r l)) (omega arith, omega arith)
    go (no n) (yes l) = subst (λ (x : ℕ). Within (q * b + r) b x) (sym (closest_up q b r l h)) (omega arith, omega arith)
    go (no n) (no k) =
        let e : r * 2 ≡ b = le_antisymm (omega arith) (omega arith) in
        subst (λ (x : ℕ). Within (q * b + r) b x) (sym (closest_tie q b r B e)) (tie (q % 2) (rem q) e)

within : (w b : ℕ) → 0 < b → Within w b (closest w b)
within w b B = subst (λ (x : ℕ). Within x b (closest x b)) (div-add-mod' w b) (within_at (w / b) b (w % b) B (mod-lt w B))

-- ---- an odd number times a power of two is so in one way
even_odd : (m t : ℕ) → m % 2 ≡ 1 → m ≡ 2 * t → ⊥
even_odd m t o h = omega arith

odd_pow : (m n a b : ℕ) → m % 2 ≡ 1 → n % 2 ≡ 1 → m * 2 ^ a ≡ n * 2 ^ b → m ≡ n
odd_pow m n zero zero o p h = sym (mul-one m) ∙ h ∙ mul-one n
odd_pow m n zero (suc b) o p h = absurd (even_odd m (n * 2 ^ b) o (sym (mul-one m) ∙ h ∙ ap (λ (x : ℕ). n * x) (pow-succ' 2 b) ∙ mul_left_comm n 2 (2 ^ b)))
odd_pow m n (suc a) zero o p h = absurd (even_odd n (m * 2 ^ a) p (sym (mul-one n) ∙ sym h ∙ ap (λ (x : ℕ). m * x) (pow-succ' 2 a) ∙ mul_left_comm m 2 (2 ^ a)))
odd_pow m n (suc a) (suc b) o p h =
    odd_pow m n a b o p (eq_of_mul-eq-mul_right 2 (zero-lt-suc 1) (m * 2 ^ a) (n * 2 ^ b)
    (mul_assoc m (2 ^ a) 2 ∙ ap (λ (x : ℕ). m * x) (sym (pow-suc 2 a)) ∙ h ∙ ap (λ (x : ℕ). n * x) (pow-suc 2 b) ∙ sym (mul_assoc n (2 ^ b) 2)))

-- ---- what a format holds
abbrev pub Held : Format → ℕ → ℤ → Type 0
Held f m e = (m % 2 ≡ 1) × (m < 2 ^ prec f) × (down e ≤ 2 ^ low f) × (m * up e < 2 ^ suc (emax f) * down e)

pub held_of : (f : Format) (s : Bool) (m : ℕ) (e : ℤ) → T (fits f (fin s (suc m) e)) → Held f (suc m) e
unfolding fits
held_of f s m e h =
    let A = eqb (suc m % 2) 1 in
    let B = ltb (suc m) (2 ^ prec f) in
    let C = leb (down e) (2 ^ low f) in
    let D = ltb (suc m * up e) (2 ^ suc (emax f) * down e) in (
      eqb→eq (suc m % 2) 1 (and_l A B (and_l (A && B) C (and_l (A && B && C) D h))),
      ltb→lt (suc m) (2 ^ prec f) (and_r A B (and_l (A && B) C (and_l (A && B && C) D h))),
      leb→le (down e) (2 ^ low f) (and_r (A && B) C (and_l (A && B && C) D h)),
      ltb→lt (suc m * up e) (2 ^ suc (emax f) * down e) (and_r (A && B && C) D h),
    )

up_is : (e : ℤ) → up e ≡ 2 ^ rise e
up_is (pos a) = refl
up_is (negsuc a) = refl

down_is : (e : ℤ) → down e ≡ 2 ^ fall e
down_is (pos a) = refl
down_is (negsuc a) = refl

pow_le_back : (a l : ℕ) → 2 ^ a ≤ 2 ^ l → a ≤ l
pow_le_back a l h = le_of_suc-le-suc (lt_of_not-le (λ (g : suc l ≤ a). lt_irrefl (2 ^ l) (lt_of_lt_of_le (pow-lt g) h)))

pow_lt_back : (i p : ℕ) → 2 ^ i < 2 ^ p → i < p
pow_lt_back i p h = lt_of_not-le (λ (g : p ≤ i). lt_irrefl (2 ^ i) (lt_of_lt_of_le h (pow_mono g)))

-- m * 2 ^ e in units of 2 ^ -L, where that is whole
pub place : (L m : ℕ) (e : ℤ) → fall e ≤ L → m * up e * 2 ^ L / down e ≡ m * 2 ^ (rise e + L - fall e)
place L m e h =
    div_same (m * up e * 2 ^ L) (down e) (m * 2 ^ J) 1 (down_pos e) (lit≤ tt)
    (mul-one (m * up e * 2 ^ L)
    ∙ ap (λ (x : ℕ). m * x * 2 ^ L) (up_is e)
    ∙ mul_assoc m (2 ^ rise e) (2 ^ L)
    ∙ ap (λ (x : ℕ). m * x) (sym (pow-add 2 (rise e) L) ∙ ap (λ (x : ℕ). 2 ^ x) (sym (back (rise e + L) (fall e) (far (rise e) (fall e) h))) ∙ pow-add 2 J (fall e))
    ∙ sym (mul_assoc m (2 ^ J) (2 ^ fall e))
    ∙ ap (λ (x : ℕ). m * 2 ^ J * x) (sym (down_is e)))
    ∙ div-one (m * 2 ^ J)
  where
    J : ℕ
    J = rise e + L - fall e

    far : (r f : ℕ) → f ≤ L → f ≤ r + L
    far r f g = omega arith

    back : (x y : ℕ) → y ≤ x → x - y + y ≡ x
    back x y g = omega arith

-- ---- a value of the format, in units: n * 2 ^ j with n below 2 ^ prec
abbrev pub Short : Format → ℕ → Type 0
Short f b = (n : ℕ) × (j : ℕ) × (n < 2 ^ prec f) × (b ≡ n * 2 ^ j)

short : (f : Format) (y : Float) → T (fits f y) → T (finite y) → Short f (units_of f y)
short f nan h k = absurd k
short f (inf s) h k = absurd k
short f (fin s zero e) h k = (0, 0, pow_pos (prec f), ap (λ (x : ℕ). x / down e) (ap (λ (x : ℕ). x * 2 ^ low f) (zero-mul (up e)) ∙ zero-mul (2 ^ low f)) ∙ zero_div (down e) (down_pos e))
  where
    zero_div : (d : ℕ) → 0 < d → 0 / d ≡ 0
    zero_div d p = ap (λ (x : ℕ). x / d) (sym (zero-mul d)) ∙ mul-div_cancel 0 p
short f (fin s (suc m) e) h k =
    let H = held_of f s m e h in
    (suc m, rise e + low f - fall e, H.1, place (low f) (suc m) e (pow_le_back (fall e) (low f) (subst (λ (x : ℕ). x ≤ 2 ^ low f) (down_is e) H.2)))

value→units : (f : Format) (x : Float) (s : Bool) (a : ℕ) → HasValue x s a (2 ^ low f) → units_of f x ≡ a
value→units f nan s a h = absurd h
value→units f (inf t) s a h = absurd h
value→units f (fin t m e) s a h = ap (λ (x : ℕ). x / down e) h.1 ∙ mul-div_cancel a (down_pos e)

-- ---- small facts
odd_square : (o : ℕ) → o % 2 ≡ 1 → o * o % 2 ≡ 1
odd_square o h = subst (λ (x : ℕ). x * x % 2 ≡ 1) (sym (half o h)) (go (o / 2))
  where
    half : (x : ℕ) → x % 2 ≡ 1 → x ≡ 2 * (x / 2) + 1
    half x k = omega arith

    go : (x : ℕ) → (2 * x + 1) * (2 * x + 1) % 2 ≡ 1
    go x = omega arith

twice_wide : (f : Format) → prec f + prec f ≤ low f
twice_wide binary32 = lit≤ tt
twice_wide binary64 = lit≤ tt

high : (f : Format) → suc (emax f) ≤ emax f + emax f
high binary32 = lit≤ tt
high binary64 = lit≤ tt

bit_le : (b : Bool) → cond b 0 1 ≤ 1
bit_le true = lit≤ tt
bit_le false = lit≤ tt

module _ (f : Format) (m : ℕ) (e : ℤ) (H : Held f m e) where
  abbrev p : ℕ
  p = prec f

  abbrev l : ℕ
  l = low f

  abbrev N : ℕ
  N = square_units f m e

  abbrev R : ℕ
  R = floor_root N

  abbrev st : ℕ
  st = cond (eqb (R * R) N) 0 1

  abbrev W : ℕ
  W = 2 * R + st

  P : 0 < p
  P = two-le_pos p (two f)

  m_pos : 0 < m
  m_pos = go m H.0
    where
      go : (x : ℕ) → x % 2 ≡ 1 → 0 < x
      go x h = omega arith

  pub fall_le : fall e ≤ l
  fall_le = pow_le_back (fall e) l (subst (λ (x : ℕ). x ≤ 2 ^ l) (down_is e) H.2)

  abbrev t : ℕ
  t = rise e + 2 * l - fall e

  pub N-is : N ≡ m * 2 ^ t
  N-is = place (2 * l) m e (go (fall e) l fall_le)
    where
      go : (x y : ℕ) → x ≤ y → x ≤ 2 * y
      go x y h = omega arith

  N-ge : 2 ^ l ≤ N
  N-ge = le_trans (pow_mono (go (rise e) (fall e) l fall_le)) (le_trans (le_of_eq (sym (one-mul (2 ^ t)))) (le_trans (mul-le-mul_right (2 ^ t) m_pos) (le_of_eq (sym N-is))))
    where
      go : (r d y : ℕ) → d ≤ y → y ≤ r + 2 * y - d
      go r d y h = omega arith

  N-lt : N < 2 ^ (suc (emax f) + 2 * l)
  N-lt =
      lt_of_mul-lt-mul_right (2 ^ fall e)
      (lt_of_le_of_lt
      (le_of_eq (ap (λ (x : ℕ). x * 2 ^ fall e) N-is ∙ mul_assoc m (2 ^ t) (2 ^ fall e) ∙ ap (λ (x : ℕ). m * x) (sym (pow-add 2 t (fall e)) ∙ ap (λ (x : ℕ). 2 ^ x) (go (rise e) (fall e) l fall_le) ∙ pow-add 2 (rise e) (2 * l)) ∙ sym (mul_assoc m (2 ^ rise e) (2 ^ (2 * l)))))
      (lt_of_lt_of_le (mul-lt-mul_of_pos_right scaled (pow_pos (2 * l)))
      (le_of_eq (mul_right_comm (2 ^ suc (emax f)) (2 ^ fall e) (2 ^ (2 * l)) ∙ ap (λ (x : ℕ). x * 2 ^ fall e) (sym (pow-add 2 (suc (emax f)) (2 * l)))))))
    where
      go : (r d y : ℕ) → d ≤ y → r + 2 * y - d + d ≡ r + 2 * y
      go r d y h = omega arith

      scaled : m * 2 ^ rise e < 2 ^ suc (emax f) * 2 ^ fall e
      scaled = subst (λ (x : ℕ). m * x < 2 ^ suc (emax f) * 2 ^ fall e) (up_is e) (subst (λ (x : ℕ). m * up e < 2 ^ suc (emax f) * x) (down_is e) H.3)

  pub R-ge : 2 ^ p ≤ R
  R-ge = le_of_suc-le-suc (square_lt_back (2 ^ p) (suc R) (lt_of_le_of_lt (le_trans (le_of_eq (sym (pow-add 2 p p))) (le_trans (pow_mono (twice_wide f)) N-ge)) (floor_root_law N).1))

  R-lt : R < 2 ^ (l + emax f)
  R-lt = square_lt_back R (2 ^ (l + emax f)) (lt_of_le_of_lt (floor_root_law N).0 (lt_of_lt_of_le N-lt (le_trans (pow_mono (go (emax f) l (high f))) (le_of_eq (pow-add 2 (l + emax f) (l + emax f))))))
    where
      go : (x y : ℕ) → suc x ≤ x + x → suc x + 2 * y ≤ y + x + (y + x)
      go x y h = omega arith

  abbrev z : ℕ
  z = size R

  z_gt : p < z
  z_gt = lt_of_not-le (λ (g : z ≤ p). not-le_of_lt (lt_of_lt_of_le (size-lt R) (pow_mono g)) R-ge)

  z_le : z ≤ l + emax f
  z_le = size-le R (l + emax f) R-lt

  -- how many digits are dropped: one at least
  abbrev k : ℕ
  k = z - p

  abbrev v : ℕ
  v = 2 ^ (k - 1)

  abbrev u : ℕ
  u = 2 ^ k

  u_is : u ≡ 2 * v
  u_is = ap (λ (x : ℕ). 2 ^ x) (go z p z_gt) ∙ pow-succ' 2 (k - 1)
    where
      go : (x y : ℕ) → y < x → x - y ≡ suc (x - y - 1)
      go x y h = omega arith

  st_le : st ≤ 1
  st_le = bit_le (eqb (R * R) N)

  -- ---- the rounded root
  abbrev K : ℕ
  K = closest W (2 ^ suc k)

  abbrev a : ℕ
  a = K * u

  whole : W * 2 ^ l / 2 ^ (l + 1) ≡ R
  whole = div_same (W * 2 ^ l) (2 ^ (l + 1)) W 2 (pow_pos (l + 1)) (lit≤ tt) (mul_assoc W (2 ^ l) 2 ∙ ap (λ (x : ℕ). W * x) (sym (pow-add 2 l 1))) ∙ go R st st_le
    where
      go : (x y : ℕ) → y ≤ 1 → (2 * x + y) / 2 ≡ x
      go x y h = omega arith

  rounds : root_of f m e ≡ units f false K k
  unfolding root_of
  rounds =
      round_is f false W (2 ^ (l + 1))
      ∙ ap (λ (x : ℕ). units f false (closest (W * 2 ^ l) (2 ^ (l + 1) * 2 ^ x)) x) (ap (λ (x : ℕ). size x - p) whole)
      ∙ ap (λ (x : ℕ). units f false x k)
      (closest_same (W * 2 ^ l) (2 ^ (l + 1) * 2 ^ k) W (2 ^ suc k) (mul-pos (pow_pos (l + 1)) (pow_pos k)) (pow_pos (suc k))
      (mul_assoc W (2 ^ l) (2 ^ suc k) ∙ ap (λ (x : ℕ). W * x) (sym (pow-add 2 l (suc k)) ∙ ap (λ (x : ℕ). 2 ^ x) (go l k) ∙ pow-add 2 (l + 1) k)))
    where
      go : (x y : ℕ) → x + suc y ≡ x + 1 + y
      go x y = omega arith

  lead_le : 2 ^ (z - 1) ≤ R
  lead_le = size_reaches R (z - 1) (go z p z_gt)
    where
      go : (x y : ℕ) → y < x → x - 1 < x
      go x y h = omega arith

  K-lo : 2 ^ (p - 1) ≤ K
  K-lo =
      le_trans ((le-div_iff_mul-le (pow_pos (suc k))).1
      (le_trans (le_of_eq (sym (pow-add 2 (p - 1) (suc k)) ∙ ap (λ (x : ℕ). 2 ^ x) (go z p z_gt P) ∙ pow-succ' 2 (z - 1))) (twice R (2 ^ (z - 1)) st lead_le)))
      (nearest-ge (W / 2 ^ suc k) (compare (W % 2 ^ suc k * 2) (2 ^ suc k)))
    where
      go : (x y : ℕ) → y < x → 0 < y → y - 1 + suc (x - y) ≡ suc (x - 1)
      go x y h g = omega arith

      twice : (x y s : ℕ) → y ≤ x → 2 * y ≤ 2 * x + s
      twice x y s h = omega arith

  K-hi : K ≤ 2 ^ p
  K-hi =
      le_trans (nearest-le (W / 2 ^ suc k) (compare (W % 2 ^ suc k * 2) (2 ^ suc k)))
      ((div-lt_iff_lt-mul (pow_pos (suc k))).1
      (lt_of_lt_of_le (twice R (2 ^ z) st (size-lt R) st_le) (le_of_eq (sym (pow-succ' 2 z) ∙ ap (λ (x : ℕ). 2 ^ x) (go z p z_gt) ∙ pow-add 2 p (suc k)))))
    where
      go : (x y : ℕ) → y < x → suc x ≡ y + suc (x - y)
      go x y h = omega arith

      twice : (x y s : ℕ) → x < y → s ≤ 1 → 2 * x + s < 2 * y
      twice x y s h g = omega arith

  a_lt : a < 2 ^ (l + suc (emax f))
  a_lt = lt_of_le_of_lt (mul-le-mul_right u K-hi) (lt_of_le_of_lt (le_of_eq (sym (pow-add 2 p k) ∙ ap (λ (x : ℕ). 2 ^ x) (go z p z_gt))) (pow-lt (room z l (emax f) z_le)))
    where
      go : (x y : ℕ) → y < x → y + (x - y) ≡ x
      go x y h = omega arith

      room : (x y w : ℕ) → x ≤ y + w → x < y + suc w
      room x y w h = omega arith

  value : HasValue (root_of f m e) false a (2 ^ l)
  value = subst (λ (x : Float). HasValue x false a (2 ^ l)) (sym rounds) (units_val f false K k a_lt)

  a_is : units_of f (root_of f m e) ≡ a
  a_is = value→units f (root_of f m e) false a value

  -- ---- the root is within half a step of it
  near_hi : W ≤ 2 * a + u
  near_hi = go (2 ^ suc k) (pow-succ' 2 k) (within W (2 ^ suc k) (pow_pos (suc k))).0
    where
      go : (b : ℕ) → b ≡ 2 * u → 2 * W ≤ 2 * K * b + b → W ≤ 2 * (K * u) + u
      go b h g = let i : 2 * K * b ≡ 2 * K * (2 * u) = ap (λ (x : ℕ). 2 * K * x) h in omega arith

  near_lo : 2 * a ≤ W + u
  near_lo = go (2 ^ suc k) (pow-succ' 2 k) (within W (2 ^ suc k) (pow_pos (suc k))).1
    where
      go : (b : ℕ) → b ≡ 2 * u → 2 * K * b ≤ 2 * W + b → 2 * (K * u) ≤ W + u
      go b h g = let i : 2 * K * b ≡ 2 * K * (2 * u) = ap (λ (x : ℕ). 2 * K * x) h in omega arith

  -- ---- no tie: the root is no odd number of at least prec + 1 digits, times a power of two
  no_tie : (o c : ℕ) → o % 2 ≡ 1 → 2 ^ p ≤ o → R ≡ o * 2 ^ c → R * R ≡ N → ⊥
  no_tie o c h g r s =
      let same : o * o ≡ m =
      odd_pow (o * o) m (c + c) t (odd_square o h) H.0
      (ap (λ (x : ℕ). o * o * x) (pow-add 2 c c) ∙ swap o (2 ^ c) ∙ ap (λ (x : ℕ). x * x) (sym r) ∙ s ∙ N-is) in
      go o m (2 ^ p) same (pos_le o h) H.1 g
    where
      swap : (x y : ℕ) → x * x * (y * y) ≡ x * y * (x * y)
      swap x y = omega arith

      pos_le : (x : ℕ) → x % 2 ≡ 1 → x ≤ x * x
      pos_le x i = le_trans (le_of_eq (sym (mul-one x))) (mul-le-mul_left x (one x i))
        where
          one : (y : ℕ) → y % 2 ≡ 1 → 1 ≤ y
          one y j = omega arith

      go : (x n q : ℕ) → x * x ≡ n → x ≤ x * x → n < q → q ≤ x → ⊥
      go x n q i j y w = omega arith

  tie_above : R ≡ a + v → R * R ≡ N → ⊥
  tie_above r s = no_tie (2 * K + 1) (k - 1) (odd_one K) (wide K (2 ^ (p - 1)) (2 ^ p) K-lo (halves p P)) (r ∙ go (K * u) (ap (λ (x : ℕ). K * x) u_is)) s
    where
      odd_one : (x : ℕ) → (2 * x + 1) % 2 ≡ 1
      odd_one x = omega arith

      halves : (x : ℕ) → 0 < x → 2 ^ x ≡ 2 * 2 ^ (x - 1)
      halves x h = ap (λ (y : ℕ). 2 ^ y) (again x h) ∙ pow-succ' 2 (x - 1)
        where
          again : (y : ℕ) → 0 < y → y ≡ suc (y - 1)
          again y g = omega arith

      wide : (x h q : ℕ) → h ≤ x → q ≡ 2 * h → q ≤ 2 * x + 1
      wide x h q i j = omega arith

      go : (x : ℕ) → x ≡ K * (2 * v) → x + v ≡ (2 * K + 1) * v
      go x h = omega arith

  tie_below : 2 ^ (p - 1) < K → R + v ≡ a → R * R ≡ N → ⊥
  tie_below b r s =
      no_tie (2 * K - 1) (k - 1) (odd_one K (above_zero (2 ^ (p - 1)) K b))
      (wide K (2 ^ (p - 1)) (2 ^ p) b (halves p P))
      (go R (K - 1) (K * u) (last K (above_zero (2 ^ (p - 1)) K b)) (ap (λ (x : ℕ). K * x) u_is) r
      ∙ ap (λ (x : ℕ). x * v) (join K (above_zero (2 ^ (p - 1)) K b))) s
    where
      above_zero : (x y : ℕ) → x < y → 0 < y
      above_zero x y h = omega arith

      odd_one : (x : ℕ) → 0 < x → (2 * x - 1) % 2 ≡ 1
      odd_one x h = omega arith

      halves : (x : ℕ) → 0 < x → 2 ^ x ≡ 2 * 2 ^ (x - 1)
      halves x h = ap (λ (y : ℕ). 2 ^ y) (again x h) ∙ pow-succ' 2 (x - 1)
        where
          again : (y : ℕ) → 0 < y → y ≡ suc (y - 1)
          again y g = omega arith

      wide : (x h q : ℕ) → h < x → q ≡ 2 * h → q ≤ 2 * x - 1
      wide x h q i j = omega arith

      last : (x : ℕ) → 0 < x → x ≡ suc (x - 1)
      last x h = omega arith

      join : (x : ℕ) → 0 < x → 2 * (x - 1) + 1 ≡ 2 * x - 1
      join x h = omega arith

      go : (x j y : ℕ) → K ≡ suc j → y ≡ K * (2 * v) → x + v ≡ y → x ≡ (2 * j + 1) * v
      go x j y h g i = let w : K * (2 * v) ≡ suc j * (2 * v) = ap (λ (q : ℕ). q * (2 * v)) h in omega arith

  -- ---- against a value above
  -- h is the middle between a and the next value
  under : (h : ℕ) → h ≡ a + v → N < h * h
  under h e = lt_of_lt_of_le (floor_root_law N).1 (square_mono (suc R) h (go (eqb (R * R) N) refl (subst (λ (x : ℕ). W ≤ 2 * a + x) u_is near_hi)))
    where
      half : (x y w : ℕ) → y ≡ w + v → 2 * x + 1 ≤ 2 * w + 2 * v → suc x ≤ y
      half x y w i j = omega arith

      less : (x y w : ℕ) → y ≡ w + v → 2 * x + 0 ≤ 2 * w + 2 * v → (x ≡ w + v → ⊥) → suc x ≤ y
      less x y w i j g = omega arith

      go : (b : Bool) → eqb (R * R) N ≡ b → 2 * R + cond (eqb (R * R) N) 0 1 ≤ 2 * a + 2 * v → suc R ≤ h
      go true q r = less R h a e (subst (λ (b : Bool). 2 * R + cond b 0 1 ≤ 2 * a + 2 * v) q r) (λ i. tie_above i (eqb-true (R * R) N q))
      go false q r = half R h a e (subst (λ (b : Bool). 2 * R + cond b 0 1 ≤ 2 * a + 2 * v) q r)

  pub above : (b : ℕ) → a + u ≤ b → 4 * N < (a + b) * (a + b)
  above b g =
      lt_of_lt_of_le (four N (a + v) (under (a + v) refl)) (square_mono (2 * (a + v)) (a + b) (go a u b u_is g))
    where
      four : (x y : ℕ) → x < y * y → 4 * x < 2 * y * (2 * y)
      four x y h = omega arith

      go : (x y w : ℕ) → y ≡ 2 * v → x + y ≤ w → 2 * (x + v) ≤ x + w
      go x y w h i = omega arith

  -- ---- against a value below
  over : 2 ^ (p - 1) < K → (h : ℕ) → h + v ≡ a → h * h < N
  over b h e = go (eqb (R * R) N) refl (subst (λ (x : ℕ). 2 * a ≤ W + x) u_is near_lo)
    where
      half : (x y w : ℕ) → y + v ≡ w → 2 * w ≤ 2 * x + 1 + 2 * v → y ≤ x
      half x y w i j = omega arith

      less : (x y w : ℕ) → y + v ≡ w → 2 * w ≤ 2 * x + 0 + 2 * v → (x + v ≡ w → ⊥) → suc y ≤ x
      less x y w i j g = omega arith

      larger : (x : ℕ) → x * x < suc x * suc x
      larger x = omega arith

      strict : (x y : ℕ) → x ≤ y → (x ≡ y → ⊥) → x < y
      strict x y i j = omega arith

      go : (c : Bool) → eqb (R * R) N ≡ c → 2 * a ≤ 2 * R + cond (eqb (R * R) N) 0 1 + 2 * v → h * h < N
      go true q r =
          lt_of_lt_of_le (larger h) (le_trans (square_mono (suc h) R (less R h a e (subst (λ (c : Bool). 2 * a ≤ 2 * R + cond c 0 1 + 2 * v) q r) (λ i. tie_below b i (eqb-true (R * R) N q)))) (floor_root_law N).0)
      go false q r =
          lt_of_le_of_lt (square_mono h R (half R h a e (subst (λ (c : Bool). 2 * a ≤ 2 * R + cond c 0 1 + 2 * v) q r))) (strict (R * R) N (floor_root_law N).0 (eqb-false (R * R) N q))

  pub below : 2 ^ (p - 1) < K → (b : ℕ) → b + u ≤ a → (a + b) * (a + b) < 4 * N
  below c b g =
      let h = a - v in
      lt_of_le_of_lt (square_mono (a + b) (2 * h) (go a u b u_is g)) (four N h (over c h (back a u b u_is g)))
    where
      four : (x y : ℕ) → y * y < x → 2 * y * (2 * y) < 4 * x
      four x y h = omega arith

      go : (x y w : ℕ) → y ≡ 2 * v → w + y ≤ x → x + w ≤ 2 * (x - v)
      go x y w h i = omega arith

      back : (x y w : ℕ) → y ≡ 2 * v → w + y ≤ x → x - v + v ≡ x
      back x y w h i = omega arith

  -- a is the least value of its size: then the root is a at least
  pub least : K ≡ 2 ^ (p - 1) → (b : ℕ) → b < a → (a + b) * (a + b) < 4 * N
  least c b g =
      lt_of_lt_of_le (smaller (a + b) (2 * a) (go a b g)) (le_trans (square_mono (2 * a) (2 * R) (twice a R a_le)) (four R N (floor_root_law N).0))
    where
      a_le : a ≤ R
      a_le = le_trans (le_of_eq (ap (λ (x : ℕ). x * u) c ∙ sym (pow-add 2 (p - 1) k) ∙ ap (λ (x : ℕ). 2 ^ x) (places z p z_gt P))) lead_le
        where
          places : (x y : ℕ) → y < x → 0 < y → y - 1 + (x - y) ≡ x - 1
          places x y i j = omega arith

      go : (x y : ℕ) → y < x → x + y < 2 * x
      go x y h = omega arith

      twice : (x y : ℕ) → x ≤ y → 2 * x ≤ 2 * y
      twice x y h = omega arith

      smaller : (x y : ℕ) → x < y → x * x < y * y
      smaller x y h = lt_of_lt_of_le (larger x) (square_mono (suc x) y h)
        where
          larger : (w : ℕ) → w * w < suc w * suc w
          larger w = omega arith

      four : (x y : ℕ) → x * x ≤ y → 2 * x * (2 * x) ≤ 4 * y
      four x y h = omega arith

  -- ---- a value of the format is a whole number of steps, or lies below the least value with this step
  abbrev Steps : ℕ → Type 0
  Steps b = ((c : ℕ) × (b ≡ c * u)) ⊎ (b < 2 ^ (p - 1) * u)

  steps : (b : ℕ) → Short f b → Steps b
  steps b s = go (dec_le k s.1)
    where
      back : (x y : ℕ) → y ≤ x → x - y + y ≡ x
      back x y h = omega arith

      fewer : (x y q : ℕ) → 0 < q → (x ≤ y → ⊥) → q + y ≤ q - 1 + x
      fewer x y q h g = omega arith

      go : Dec (k ≤ s.1) → Steps b
      go (yes h) =
          inl (
            s.0 * 2 ^ (s.1 - k),
            s.3 ∙ ap (λ (x : ℕ). s.0 * x) (ap (λ (x : ℕ). 2 ^ x) (sym (back s.1 k h)) ∙ pow-add 2 (s.1 - k) k) ∙ sym (mul_assoc s.0 (2 ^ (s.1 - k)) u),
          )
      go (no n) =
          inr (lt_of_le_of_lt (le_of_eq s.3) (lt_of_lt_of_le (shl_lt p s.1 s.2) (le_trans (pow_mono (fewer k s.1 p P n)) (le_of_eq (pow-add 2 (p - 1) k)))))

  next : (c d : ℕ) → c * u < d * u → c * u + u ≤ d * u
  next c d h = le_trans (le_of_eq (sym (suc-mul c u))) (mul-le-mul_right u (lt_of_mul-lt-mul_right u h))

  pub best : (b : ℕ) → Short f b → Nearer N a b
  best b s = (up (steps b s), down (steps b s) (eq-or-lt_of_le K-lo))
    where
      up : Steps b → a < b → 4 * N < (a + b) * (a + b)
      up (inl c) h = above b (le_trans (next K c.0 (lt_of_lt_of_le h (le_of_eq c.1))) (le_of_eq (sym c.1)))
      up (inr g) h = absurd (lt_irrefl a (lt_of_lt_of_le (lt_of_lt_of_le h (le_of_lt g)) (mul-le-mul_right u K-lo)))

      down : Steps b → (2 ^ (p - 1) ≡ K) ⊎ (2 ^ (p - 1) < K) → b < a → (a + b) * (a + b) < 4 * N
      down c (inl i) h = least (sym i) b h
      down (inl c) (inr i) h = below i b (le_trans (le_of_eq (ap (λ (x : ℕ). x + u) c.1)) (next c.0 K (lt_of_le_of_lt (le_of_eq (sym c.1)) h)))
      down (inr g) (inr i) h = below i b (le_trans (sum (2 ^ (p - 1) * u) g) (le_trans (le_of_eq (sym (suc-mul (2 ^ (p - 1)) u))) (mul-le-mul_right u i)))
        where
          sum : (x : ℕ) → b < x → b + u ≤ x + u
          sum x j = omega arith

pub rooted_fits : (f : Format) (m : ℕ) (e : ℤ) → T (fits f (root_of f m e))
unfolding root_of
rooted_fits f m e = round-fits f false (2 * floor_root (square_units f m e) + cond (eqb (floor_root (square_units f m e) * floor_root (square_units f m e)) (square_units f m e)) 0 1) (2 ^ (low f + 1))

-- ---- the root in units, for laws on whole numbers
module _ (f : Format) (m : ℕ) (e : ℤ) (F : T (fits f (fin false (suc m) e))) where
  pub root_value : HasValue (root_of f (suc m) e) false (units_of f (root_of f (suc m) e)) (2 ^ low f)
  root_value = let H = held_of f false m e F in subst (λ (x : ℕ). HasValue (root_of f (suc m) e) false x (2 ^ low f)) (sym (a_is f (suc m) e H)) (value f (suc m) e H)

  finite_root : (x : Float) (a : ℕ) → HasValue x false a (2 ^ low f) → T (finite x)
  finite_root nan a h = absurd h
  finite_root (inf s) a h = absurd h
  finite_root (fin s n d) a h = tt

  pub root_short : Short f (units_of f (root_of f (suc m) e))
  root_short = short f (root_of f (suc m) e) (rooted_fits f (suc m) e) (finite_root (root_of f (suc m) e) _ root_value)

  pub root_best : (b : ℕ) → Short f b → Nearer (square_units f (suc m) e) (units_of f (root_of f (suc m) e)) b
  root_best b s = let H = held_of f false m e F in subst (λ (x : ℕ). Nearer (square_units f (suc m) e) x b) (sym (a_is f (suc m) e H)) (best f (suc m) e H b s)

  -- the square is a whole number of units
  pub units_whole : square_units f (suc m) e * down e ≡ suc m * up e * 2 ^ (2 * low f)
  units_whole =
      let H = held_of f false m e F in
      let g : fall e ≤ 2 * low f = twice (fall e) (low f) (pow_le_back (fall e) (low f) (subst (λ (x : ℕ). x ≤ 2 ^ low f) (down_is e) H.2)) in
      ap (λ (x : ℕ). x * down e) (place (2 * low f) (suc m) e g) ∙ placed g
    where
      twice : (x y : ℕ) → x ≤ y → x ≤ 2 * y
      twice x y h = omega arith

      back : (x y z : ℕ) → z ≤ y → x + y - z + z ≡ x + y
      back x y z h = omega arith

      placed : fall e ≤ 2 * low f → suc m * 2 ^ (rise e + 2 * low f - fall e) * down e ≡ suc m * up e * 2 ^ (2 * low f)
      placed g =
          ap (λ (x : ℕ). suc m * 2 ^ (rise e + 2 * low f - fall e) * x) (down_is e)
          ∙ mul_assoc (suc m) (2 ^ (rise e + 2 * low f - fall e)) (2 ^ fall e)
          ∙ ap (λ (x : ℕ). suc m * x) (sym (pow-add 2 (rise e + 2 * low f - fall e) (fall e)) ∙ ap (λ (x : ℕ). 2 ^ x) (back (rise e) (2 * low f) (fall e) g) ∙ pow-add 2 (rise e) (2 * low f))
          ∙ sym (mul_assoc (suc m) (2 ^ rise e) (2 ^ (2 * low f)))
          ∙ ap (λ (x : ℕ). suc m * x * 2 ^ (2 * low f)) (sym (up_is e))

-- ---- the theorem
pub root_is_nearest : (f : Format) (m : ℕ) (e : ℤ) → T (fits f (fin false (suc m) e)) → NearestRoot f (suc m) e (root_of f (suc m) e)
root_is_nearest f m e h =
    let H = held_of f false m e h in
    record {
      held = rooted_fits f (suc m) e;
      value = subst (λ (x : ℕ). HasValue (root_of f (suc m) e) false x (2 ^ low f)) (sym (a_is f (suc m) e H)) (value f (suc m) e H);
      best = λ y g k. subst (λ (x : ℕ). Nearer (square_units f (suc m) e) x (units_of f y)) (sym (a_is f (suc m) e H)) (best f (suc m) e H (units_of f y) (short f y g k));
    }

-- and there is only one such value: two of them have the same size
pub nearest_unique : (f : Format) (m : ℕ) (e : ℤ) (r s : Float) → T (finite r) → T (finite s) → NearestRoot f m e r → NearestRoot f m e s → units_of f r ≡ units_of f s
nearest_unique f m e r s p q a b = go (units_of f r) (units_of f s) (a.best s b.held q) (b.best r a.held p)
  where
    clash : (x y : ℕ) → x < y → y < x → ⊥
    clash x y h k = omega arith

    turn : (x y : ℕ) → (x + y) * (x + y) ≡ (y + x) * (y + x)
    turn x y = omega arith

    go : (x y : ℕ) → Nearer (square_units f m e) x y → Nearer (square_units f m e) y x → x ≡ y
    go x y h k = le_antisymm
        (le_of_suc-le-suc (lt_of_not-le (λ (g : suc y ≤ x). clash ((x + y) * (x + y)) (4 * square_units f m e) (h.1 g) (lt_of_lt_of_le (k.0 g) (le_of_eq (turn y x))))))
        (le_of_suc-le-suc (lt_of_not-le (λ (g : suc x ≤ y). clash ((y + x) * (y + x)) (4 * square_units f m e) (k.1 g) (lt_of_lt_of_le (h.0 g) (le_of_eq (turn x y))))))
