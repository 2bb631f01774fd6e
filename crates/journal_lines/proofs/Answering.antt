-- A line's answer: what the parts of the code add up to. Assumes nothing.
use mathlib.Core.Path.{◌≡◌, refl, ap, ◌∙◌, subst}
use mathlib.Core.Bool.{Bool, true, false, cond, not}
use mathlib.Core.Option.{none, some}
use mathlib.Core.Option as Math
use mathlib.Core.List.{List, ◌++◌}
use Prim.Native.Nat.{ℕ, ◌≤◌}
use native.Mathlib.Omega.{arith}
use lib.ListN.{length, drop, length-append, length-drop}
use lib.Dec.{T, leb}
use lib.Ieee.{Float, nan, inf, fin, eq, is_nan}
use Rattle.std.specs.Prelude.{Option, None, Some}
use Rattle.ranges.specs.Settings.{Settings, standard}
use Rattle.ranges.proofs.Compare.{in_number}
use Rattle.pair.specs.Model.{Pair}
use Rattle.pair.specs.Sound.{pair_sound, plus_zero}
use Rattle.pair.proofs.Soundness.{ready_in, unready_zero}
use Rattle.tracker.proofs.Soundness.{sound_fine}
use Rattle.bank_model.specs.Departures.{widest}
use Rattle.refusals.specs.declared.Refusal.TheVariants.{BadLine, TooWide}
use Rattle.station_model.specs.declared.Code.{Code}
use Rattle.station_model.specs.declared.Code.TheVariants.{Done, Refused}
use Rattle.station_model.specs.declared.Event.{Event}
use Rattle.station_model.specs.Station.{step}
use Rattle.station_model.specs.Station as Model
use Rattle.station.specs.declared.Station.{Station}
use Rattle.station.specs.declared.Outcome.{Outcome}
use Rattle.station.specs.View.{view}
use Rattle.station.specs.Parts.{Next, Steady}
use Rattle.line_in.specs.declared.Entry.{Entry}
use Rattle.line_in.specs.declared.Entry.TheVariants.{Watch, Call}
use Rattle.line_in.specs.Form.{entry}
use Rattle.line_out.specs.declared.Shown.{Shown}
use Rattle.line_out.specs.Codes.{of_code}
use Rattle.line_out.specs.Shown.{line}
use Rattle.line_out.specs.Written.{over}
use Rattle.journal_lines.specs.Journal.{Turn, answer, called, letter, shown}
use Rattle.journal_lines.specs.Parts.{Answered, Lives, reading}

-- ---- the centroids of a steady station are numbers

zero_number : (x : Float) → T (plus_zero x) → T (not (is_nan x))
unfolding eq is_nan
zero_number nan z = z
zero_number (inf s) z = tt
zero_number (fin s m e) z = tt

module _ (s : Station) (k : Steady s) where
  abbrev pair : Pair
  pair = (view s).primary.pair

  fair : T (pair_sound standard pair)
  fair = (sound_fine standard s.primary k.solid.primary).pair

  numbers : (b : Bool) → pair.ready ≡ b → T (not (is_nan pair.lo)) × T (not (is_nan pair.hi))
  numbers true e = let i = ready_in standard pair e fair in (in_number _ _ pair.lo i.0, in_number _ _ pair.hi i.1)
  numbers false e = let z = unready_zero standard pair e fair in (zero_number pair.lo z.0, zero_number pair.hi z.1)

  pub lo_number : T (not (is_nan s.primary.pair.lo))
  lo_number = (numbers pair.ready refl).0

  pub hi_number : T (not (is_nan s.primary.pair.hi))
  hi_number = (numbers pair.ready refl).1

-- ---- a call's answer is the station's

pub called_answered : (t : Option Station) (s : Station) (e : Option Entry) (c : Event) (o : Outcome) (v : Shown)
    → t ≡ Some s → e ≡ Some (Call c) → Next s c o → (l : ℕ) → l ≡ letter c
    → v ≡ shown l o.answer.code (some (view o.station))
    → Answered (Some o.station) v (answer standard (reading t) e)
called_answered t s e c o v p q k l m g =
    let h : v ≡ shown (letter c) o.answer.code (some (view o.station)) =
    g ∙ ap (λ (x : ℕ). shown x o.answer.code (some (view o.station))) m in
    let a : Answered (Some o.station) v (called c (step standard (view s) c)) =
    subst (λ (m : Model.Outcome). Answered (Some o.station) v (called c m)) k.is
    (record { station = refl; shown = h; lives = k.steady }) in
    rw (p, q) a

-- ---- what is shown is the code of a call

pub shown_of_call : (l : ℕ) (c : Code) (s : Math.Option Model.Station) → (shown l c s).code ≡ of_code c
shown_of_call l c none = refl
shown_of_call l c (some s) = refl

-- a code of a call, and that it is shown
abbrev pub OfCall : Turn → Type 0
OfCall t = (c : Code) × (t.shown.code ≡ of_code c)

either_of_call : (b : Bool) (t u : Turn) → OfCall t → OfCall u → OfCall (cond b t u)
either_of_call true t u p q = p
either_of_call false t u p q = q

pub answer_of_call : (k : Settings) (s : Math.Option Model.Station) (e : Option Entry) → OfCall (answer k s e)
answer_of_call k none (Some (Watch w b)) = either_of_call (leb w widest) _ _ (Done, refl) (Refused TooWide, refl)
answer_of_call k none (Some (Call e)) = (Refused BadLine, refl)
answer_of_call k none None = (Refused BadLine, refl)
answer_of_call k (some s) (Some (Watch w b)) = (Refused BadLine, refl)
answer_of_call k (some s) (Some (Call e)) = ((step k s e).answer.code, refl)
answer_of_call k (some s) None = (Refused BadLine, refl)

-- ---- a line's answer, written

-- it is written at the front of a buffer, and what stands behind it is left as it was
pub record Writes (s : Option Station) (put : ℕ) (was is : List ℕ) (t : Turn) : Type 0 where
  pub station : reading s ≡ t.station
  pub lives : Lives s
  pub long : put ≡ length (line t.shown)
  pub room : put ≤ length was
  pub out : is ≡ line t.shown ++ drop (length (line t.shown)) was

-- l is the line that is held
pub answer_written : (s s' : Option Station) (h l : List ℕ) (e : Option Entry) (v : Shown) (put : ℕ) (was is : List ℕ)
    → l ≡ h → e ≡ entry l → Answered s' v (answer standard (reading s) e)
    → put ≡ length (line v) → is ≡ over (line v) was → length is ≡ length was
    → Writes s' put was is (answer standard (reading s) (entry h))
answer_written s s' h l e v put was is i q a p o n =
    let f : answer standard (reading s) e ≡ answer standard (reading s) (entry h) =
    ap (answer standard (reading s)) (q ∙ ap entry i) in
    record {
      station = a.station ∙ ap (λ (t : Turn). t.station) f;
      lives = a.lives;
      long = p ∙ ap (λ (x : Shown). length (line x)) a.shown ∙ ap (λ (t : Turn). length (line t.shown)) f;
      room =
          (let y = ap length o in let z = length-append (line v) (drop (length (line v)) was) in let d = length-drop
          (length (line v)) was in omega arith);
      out = o ∙ ap (λ (x : Shown). over (line x) was) a.shown ∙ ap (λ (t : Turn). over (line t.shown) was) f;
    }
