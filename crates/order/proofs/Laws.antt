-- The sign and the total order, by the library's methods and by the tests of comparisons. Assumes nothing.
use Rattle.std.proofs.Common.{◌≡◌, ℤ, zero, Bool, true, false, cond, not, ◌&&◌, ◌||◌, ◌==◌, T, Less, Equal, Greater, refl, sym, ap, ◌∙◌, subst}
use mathlib.Core.Bool.{false≢true}
use lib.Ieee.{Float, nan, inf, fin, Format, binary32, is_nan, fits, of_bits, lt, eq, le, div}
use Rattle.std.specs.Float.{is_sign_negative, total_cmp, NotNan}
use Rattle.std.specs.Ordering.{ordering_index}
use Rattle.std.proofs.lemmas.Float.{lt_of_not-le, lt_of_lt_of_le, lt_irrefl}
use Rattle.order.specs.Order.{abs, negative, total_less}
use Rattle.order.proofs.Forms.{zero_is, zero_by, zero_form}

pub sign_law : (v : Float) → is_sign_negative v ≡ negative v
unfolding is_sign_negative
sign_law nan = refl
sign_law (inf s) = refl
sign_law (fin s m e) = refl

pub no_sign : (v : Float) → is_nan v ≡ true → false ≡ negative v
unfolding is_nan
no_sign nan h = refl
no_sign (inf s) h = absurd (false≢true h)
no_sign (fin s m e) h = absurd (false≢true h)

-- ---- the total order of two numbers: the last test is by the signs
by_signs : (s t : Bool) → (ordering_index (cond s (cond t Equal Less) (cond t Greater Equal)) == 0) ≡ (s && not t)
by_signs true true = refl
by_signs true false = refl
by_signs false true = refl
by_signs false false = refl

module _ (a b : Float) (A : is_nan a ≡ false) (B : is_nan b ≡ false) where
  a_number : NotNan a
  a_number = rw A tt

  b_number : NotNan b
  b_number = rw B tt

  -- where neither is below the other they are equal, and where one is they are not
  level : lt a b ≡ false → lt b a ≡ false → (x : Bool) → eq a b ≡ x → x ≡ true
  unfolding le
  level l g true e = refl
  level l g false e = absurd (false≢true (sym g ∙ is_true (lt b a) (lt_of_not-le a b a_number b_number (rw (l, e) tt))))
    where
      is_true : (x : Bool) → T x → x ≡ true
      is_true true h = refl
      is_true false h = absurd h

  apart : lt a b ≡ false → lt b a ≡ true → (x : Bool) → eq a b ≡ x → x ≡ false
  unfolding le
  apart l g false e = refl
  apart l g true e = absurd (lt_irrefl b (lt_of_lt_of_le b a b (rw g tt) (rw (l, e) tt)))

  pub total_law : (ordering_index (total_cmp a b) == 0) ≡ total_less a b
  unfolding total_less
  total_law = rw (A, B) (go (lt a b) (lt b a) refl refl)
    where
      go : (l g : Bool) → lt a b ≡ l → lt b a ≡ g
          → (ordering_index (cond l Less (cond g Greater
          (cond (is_sign_negative a) (cond (is_sign_negative b) Equal Less) (cond (is_sign_negative b) Greater Equal)))) == 0)
          ≡ (l || (eq a b && negative a && not (negative b)))
      go true g l h = refl
      go false true l h = rw (apart l h (eq a b) refl)
      go false false l h = rw (level l h (eq a b) refl, sign_law a, sign_law b) (by_signs (negative a) (negative b))

-- ---- and where one is NaN
pub total_nan : (a b : Float) → is_nan a ≡ true → false ≡ total_less a b
unfolding total_less
total_nan a b h = rw h

pub total_over : (a b : Float) → is_nan a ≡ false → is_nan b ≡ true → true ≡ total_less a b
unfolding total_less
total_over a b h k = rw (h, k)

-- ---- and by the tests of comparisons
module _ (a b : Float) (A : is_nan a ≡ false) (B : is_nan b ≡ false) where
  pub total_less_law : lt a b ≡ true → true ≡ total_less a b
  unfolding total_less
  total_less_law l = rw (A, B, l)

  pub total_zeros : lt a b ≡ false → eq a b ≡ true → negative a ≡ true → not (negative b) ≡ total_less a b
  unfolding total_less
  total_zeros l e s = rw (A, B, l, e, s)

  pub total_plus : lt a b ≡ false → eq a b ≡ true → negative a ≡ false → false ≡ total_less a b
  unfolding total_less
  total_plus l e s = rw (A, B, l, e, s)

  pub total_more : lt a b ≡ false → eq a b ≡ false → false ≡ total_less a b
  unfolding total_less
  total_more l e = rw (A, B, l, e)

-- ---- a zero: the value without its sign, and the sign by one over it
pub abs_zero : (f : Format) (v : Float) → T (fits f v) → eq v (of_bits f 0) ≡ true → of_bits f 0 ≡ abs v
abs_zero f v h a =
    let z = zero_by f v a in
    zero_is f
    ∙ ap (fin false 0) (sym (zero_form f z.0 z.1 (subst (λ (x : Float). T (fits f x)) z.2 h)))
    ∙ ap abs (sym z.2)

over_zero : (s : Bool) (e : ℤ) → lt (div binary32 (of_bits binary32 0x3f80_0000) (fin s zero e)) (of_bits binary32 0) ≡ s
unfolding lt div of_bits
over_zero true e = refl
over_zero false e = refl

pub zero_sign : (v : Float) → eq v (of_bits binary32 0) ≡ true
    → lt (div binary32 (of_bits binary32 0x3f80_0000) v) (of_bits binary32 0) ≡ negative v
zero_sign v h =
    let z = zero_by binary32 v h in
    ap (λ (x : Float). lt (div binary32 (of_bits binary32 0x3f80_0000) x) (of_bits binary32 0)) z.2
    ∙ over_zero z.0 z.1
    ∙ ap negative (sym z.2)
