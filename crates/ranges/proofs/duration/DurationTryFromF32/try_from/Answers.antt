-- `Duration::try_from` meets its contract. Assumes nothing.
use Rattle.std.proofs.Common.{◌≡◌, refl, sym, ap, ◌∙◌, Bool, true, false}
use Rattle.std.specs.Float.{Float, nan, inf, fin, float_with_sign}
use Rattle.std.specs.Float.Ieee.{lt, of_bits, binary32}
use Rattle.std.specs.Float.Ieee.Scale.{finite}
use Rattle.ranges.proofs.Door.{refusal_is, unrefused_in}
use Rattle.ranges.proofs.duration.DurationTryFromF32.try_from.Goals as goal

-- below infinity without its sign: finite
below : (x : Float) → lt (float_with_sign false x) (inf false) ≡ finite x
unfolding lt float_with_sign
below nan = refl
below (inf s) = refl
below (fin s m e) = refl

-- whether a float is finite, by what the test gave
tested : (x y : Float) (b : Bool) → y ≡ float_with_sign false x → lt y (of_bits binary32 2139095040) ≡ b → finite x ≡ b
unfolding of_bits
tested x y b e h = sym (below x) ∙ sym (ap (λ (z : Float). lt z (inf false)) e) ∙ h

pub returns-then-not-abs : goal.returns-then-not-abs
returns-then-not-abs c = (refusal_is c.args.ms _ _ _ (tested c.args.ms _ false c.abs.ensures.value c.if-not-abs.true) refl refl, tt)

pub returns-then-ms : goal.returns-then-ms
returns-then-ms c = (refusal_is c.args.ms _ _ _ (tested c.args.ms _ true c.abs.ensures.value c.if-not-abs.false) c.if-ms.true refl, tt)

pub returns-then-ms-2 : goal.returns-then-ms-2
returns-then-ms-2 c =
    (refusal_is c.args.ms _ _ _ (tested c.args.ms _ true c.abs.ensures.value c.if-not-abs.false) c.if-ms.false c.if-ms-2.true, tt)

pub invariant_of-result : goal.invariant_of-result
invariant_of-result c = record {
  held =
      unrefused_in c.args.ms
      (sym
      (refusal_is c.args.ms _ _ _ (tested c.args.ms _ true c.abs.ensures.value c.if-not-abs.false) c.if-ms.false c.if-ms-2.false));
}

pub returns : goal.returns
returns c =
    (refusal_is c.args.ms _ _ _ (tested c.args.ms _ true c.abs.ensures.value c.if-not-abs.false) c.if-ms.false c.if-ms-2.false, refl)
