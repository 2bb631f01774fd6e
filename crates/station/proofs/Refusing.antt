-- Which refusal a call meets, as the code finds it, and what an accepted call has. Assumes nothing.
use mathlib.Core.Path.{◌≡◌, refl, ap, sym, ◌∙◌}
use Prim.Native.Nat.{ℕ}
use mathlib.Core.Bool.{Bool, true, false, cond, not, ◌&&◌, ◌||◌, true≢false, false≢true}
use native.Mathlib.Omega.{arith}
use borrow.Author.Tests.{leb-false}
use lib.Dec.{leb}
use lib.Ieee.{Float}
use lib.Ieee.Bits.{is_true}
use Rattle.std.specs.Prelude.{is_some}
use Rattle.refusals.specs.declared.Refusal.{Refusal}
use Rattle.refusals.specs.declared.Refusal.TheVariants.{UnsoundState}
use Rattle.refusals.specs.Refusal.{number}
use Rattle.ranges.specs.Settings.{standard}
use Rattle.ranges.specs.Limits.{duration_min, duration_max}
use Rattle.ranges.specs.Interval.{In}
use Rattle.ranges.proofs.Door.{unrefused_in}
use Rattle.tracker.proofs.Answering.{good_speed}
use Rattle.station_model.specs.declared.Event.{Event}
use Rattle.station_model.specs.declared.Event.TheVariants.{Mark, Gap, Finish, Seed, Hint, Clear, Switch}
use Rattle.station_model.specs.Station.{full, fault, refusal}
use Rattle.station_model.specs.Station as Model
use Rattle.station.specs.declared.Station.{Station}
use Rattle.station.specs.View.{view}
use Rattle.station.specs.Parts.{Solid, Open, Allowed}
use Rattle.station.specs.Sound.{sound, choice_sound}
use Rattle.station.specs.Answers.{call_refusal}
use Rattle.station.proofs.Sounding.{solid_sound}

-- ---- a choice at a switch
chosen_of : (has ready : Bool) → not (has && not ready) ≡ true → has ≡ true → ready ≡ true
chosen_of true true e h = refl
chosen_of true false e h = absurd (false≢true e)
chosen_of false r e h = absurd (false≢true h)

module _ (s : Station) (e : Event) where
  -- of a sound station
  pub call_sound : Solid s → choice_sound s e ≡ true → refusal (view s) e ≡ call_refusal standard s e
  call_sound k q = rw (is_true (sound standard s) (solid_sound s k), q)

  -- of one that is not
  pub call_unsound : (why : Refusal) → why ≡ UnsoundState → sound standard s ≡ false → number why ≡ call_refusal standard s e
  call_unsound why q p = rw (q, p)

  -- ---- what an accepted call has
  pub record Accepted : Type 0 where
    pub sound : sound standard s ≡ true
    pub choice : choice_sound s e ≡ true
    pub counts : full (view s) ≡ false
    pub fault : fault e ≡ 0

  pub accepted_of : call_refusal standard s e ≡ 0 → Accepted
  accepted_of z = go (sound standard s) (choice_sound s e) (full (view s)) refl refl refl z
    where
      go : (a b f : Bool) → sound standard s ≡ a → choice_sound s e ≡ b → full (view s) ≡ f
          → cond (a && b) (cond f 2 (fault e)) 1 ≡ 0 → Accepted
      go true true true p q r z = absurd (omega arith)
      go true true false p q r z = record { sound = p; choice = q; counts = r; fault = z }
      go true false f p q r z = absurd (omega arith)
      go false b f p q r z = absurd (omega arith)

  pub accepted_refusal : Accepted → refusal (view s) e ≡ 0
  accepted_refusal k = ap (λ (x : Bool). cond x 2 (fault e)) k.counts ∙ k.fault

  neither : (a b c : Bool) → (a || (b || c)) ≡ false → (a ≡ false) × ((b ≡ false) × (c ≡ false))
  neither true b c h = absurd (true≢false h)
  neither false true c h = absurd (true≢false h)
  neither false false c h = (refl, (refl, h))

  pub accepted_open : Accepted → Open s
  accepted_open k =
      let most : ℕ = 4294967295 in
      let n = neither (leb most s.bank.marks_seen) (leb most s.bank.gaps_seen) (leb most s.accepted) k.counts in
      record {
        bank = record { marks = leb-false most s.bank.marks_seen n.0; gaps = leb-false most s.bank.gaps_seen n.1.0 };
        accepted = leb-false most s.accepted n.1.1;
      }

fair_of : (s : Station) (e : Event) → choice_sound s e ≡ true → fault e ≡ 0 → Allowed s e
fair_of s (Mark d live) q z = unrefused_in d z
fair_of s (Gap d) q z = unrefused_in d z
fair_of s Finish q z = tt
fair_of s (Seed v) q z = good_speed v z
fair_of s (Hint r) q z = tt
fair_of s Clear q z = tt
fair_of s Switch q z = chosen_of (is_some s.bank.pending) s.primary.pair.ready q

pub accepted_fair : (s : Station) (e : Event) → Accepted s e → Allowed s e
accepted_fair s e k = fair_of s e k.choice k.fault

-- the length of a mark or a gap that is not refused
unfaulted : (m : Model.Station) (e : Event) → refusal m e ≡ 0 → fault e ≡ 0
unfaulted m e z = go (full m) z
  where
    go : (b : Bool) → cond b 2 (fault e) ≡ 0 → fault e ≡ 0
    go true y = absurd (omega arith)
    go false y = y

pub mark_timed : (m : Model.Station) (e : Event) (d : Float) (live : Bool) → e ≡ Mark d live → 0 ≡ refusal m e → In duration_min duration_max d
mark_timed m e d live q z = unrefused_in d (ap fault (sym q) ∙ unfaulted m e (sym z))

pub gap_timed : (m : Model.Station) (e : Event) (d : Float) → e ≡ Gap d → 0 ≡ refusal m e → In duration_min duration_max d
gap_timed m e d q z = unrefused_in d (ap fault (sym q) ∙ unfaulted m e (sym z))
