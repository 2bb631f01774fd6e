-- What holds of every challenger holds of them after a call, if it holds of those that the call puts in. Assumes nothing.
use mathlib.Core.Path.{◌≡◌, refl, sym, subst}
use mathlib.Core.Logic.{⊎_elim}
use mathlib.Core.Bool.{Bool, false}
use mathlib.Core.List.Memᴰ
use mathlib.Core.List.{List, [], ◌∷◌, ◌++◌, map, Memᴰ}
use mathlib.Core.Option.{Option, none, some}
use Prim.Native.Nat.{ℕ}
use lib.ListN.{set, get_elem?}
use lib.Ieee.{Float}
use Rattle.ranges.specs.Settings.{Settings}
use Rattle.tracker.specs.Model.{Tracker}
use Rattle.bank_model.specs.declared.Origin.{Origin}
use Rattle.bank_model.specs.declared.Origin.TheVariants.{Bootstrap, Streak}
use Rattle.bank_model.specs.declared.Cause.{Cause}
use Rattle.bank_model.specs.Model.{Hyp, Evidence, Bank, Told, and_then, with_evidence}
use Rattle.bank_model.specs.Scores.{ln_dit, ln_dah}
use Rattle.bank_model.specs.Steps.{on, hears, duplicate_at, roomy, newborn, victim, replaced_by, replacing, spawned_at, spawned_if_at, other, on_ready, marked, scored, streak_on, emptied, candidate_at, candidate, short, streak_end, streak_at, high, cause, stay_if, staying, pruned_at, pruned, marked_told, gapped, pausing, on_gap}
use Rattle.station_model.proofs.Lists.{by_cond, in_map, in_set}

in_stay_if : (o : Option Cause) (h : Hyp) (l m : List Hyp) {y : Hyp} → ((z : Hyp) → Memᴰ z l → Memᴰ z m) → Memᴰ y (stay_if o h l) → Memᴰ y (h ∷ m)
in_stay_if none h l m {y} f n = ⊎_elim (λ e. Memᴰ.head e) (λ k. Memᴰ.tail (f y k)) (Memᴰ.cases_cons n)
in_stay_if (some c) h l m {y} f n = Memᴰ.tail (f y n)

in_staying : (f : Hyp → Option Cause) (l : List Hyp) {y : Hyp} → Memᴰ y (staying f l) → Memᴰ y l
unfolding staying
in_staying f [] n = n
in_staying f (h ∷ l) n = in_stay_if (f h) h (staying f l) l (λ z k. in_staying f l k) n

-- the evidence after a live mark
abbrev pub heard_of : Settings → Bank → Tracker → Float → Bool → Evidence
heard_of k b p d live = streak_on (scored k b p d live).evidence (high p d) d b.evidence.last_gap

module _ (P : Hyp → Type 0) where
  abbrev pub Every : List Hyp → Type 0
  Every l = (h : Hyp) → Memᴰ h l → P h

  pub every_map : (f : Hyp → Hyp) (l : List Hyp) → ((g : Hyp) → Memᴰ g l → P (f g)) → Every (map f l)
  every_map f l each h m = let r = in_map f l m in subst (λ (x : Hyp). P x) (sym r.2) (each r.0 r.1)

  every_pushed : (l : List Hyp) (n : Hyp) → Every l → P n → Every (l ++ (n ∷ []))
  every_pushed l n all one h m = ⊎_elim (λ k. all h k) (λ k. subst (λ (x : Hyp). P x) (sym (Memᴰ.eq_of_singleton k)) one) (Memᴰ.append_cases l m)

  pub every_set : (l : List Hyp) (i : ℕ) (n : Hyp) → Every l → P n → Every (set l i n)
  every_set l i n all one h m = ⊎_elim (λ e. subst (λ (x : Hyp). P x) (sym e) one) (λ k. all h k) (in_set l i n m)

  every_replaced_by : (c : Bank) (n : Hyp) (i : ℕ) (v : Option Hyp) → Every c.challengers → P n → Every (replaced_by c n i v).bank.challengers
  every_replaced_by c n i none all one = all
  every_replaced_by c n i (some v) all one = every_set c.challengers i n all one

  every_replacing : (c : Bank) (n : Hyp) (i : Option ℕ) → Every c.challengers → P n → Every (replacing c n i).bank.challengers
  every_replacing c n none all one = all
  every_replacing c n (some i) all one = every_replaced_by c n i (get_elem? c.challengers i) all one

  every_spawned : (c : Bank) (lo hi : Float) (o : Origin) (t : Tracker) → Every c.challengers → P (newborn c t o) → Every (spawned_at c lo hi o t).bank.challengers
  unfolding spawned_at
  every_spawned c lo hi o t all one =
      by_cond (λ (u : Told). Every u.bank.challengers) (duplicate_at c lo hi t) (λ x. all)
      (λ x. by_cond (λ (u : Told). Every u.bank.challengers) (roomy c) (λ y. every_pushed c.challengers (newborn c t o) all one)
      (λ y. every_replacing c (newborn c t o) (victim c.challengers) all one))

  every_spawned_if : (c : Bank) (lo hi : Float) (o : Origin) (t : Option Tracker) → Every c.challengers → ((u : Tracker) → t ≡ some u → P (newborn c u o)) → Every (spawned_if_at c lo hi o t).bank.challengers
  every_spawned_if c lo hi o none all one = all
  every_spawned_if c lo hi o (some t) all one = every_spawned c lo hi o t all (one t refl)

  module _ (k : Settings) where
    pub every_ready : (b : Bank) (p : Tracker) (marks : List Float) → Every b.challengers → ((u : Tracker) → other k p marks ≡ some u → P (newborn b u Bootstrap)) → Every (on_ready k b p marks).bank.challengers
    unfolding on_ready
    every_ready b p marks all one =
        by_cond (λ (u : Told). Every u.bank.challengers) (on b) (λ x. every_spawned_if b (ln_dit p) (ln_dah p) Bootstrap (other k p marks) all one) (λ x. all)

    every_streak_end : (c : Bank) (lo hi : Float) (v : Evidence) → Every c.challengers → (short v ≡ false → (u : Tracker) → candidate_at k lo hi v ≡ some u → P (newborn c u Streak)) → Every (streak_end k c lo hi v).bank.challengers
    every_streak_end c lo hi v all one =
        by_cond (λ (u : Told). Every u.bank.challengers) (short v) (λ x. all)
        (λ x. every_spawned_if (with_evidence c (emptied v)) lo hi Streak (candidate_at k lo hi v) all (one x))

    module _ (b : Bank) (p : Tracker) (d : Float) (live : Bool) where
      abbrev pub Candidate : Type 0
      Candidate = short (heard_of k b p d live) ≡ false → (u : Tracker) → candidate k p (heard_of k b p d live) ≡ some u → P (newborn (scored k b p d live) u Streak)

      every_marked : Every (map (marked k d live) b.challengers) → Candidate → Every (marked_told k b p d live).bank.challengers
      unfolding streak_at
      every_marked all one = by_cond (λ (u : Told). Every u.bank.challengers) live (λ x. every_streak_end (scored k b p d live) (ln_dit p) (ln_dah p) (heard_of k b p d live) all one) (λ x. all)

      -- before the leads are counted
      pub every_mark : Every (map (marked k d live) b.challengers) → Candidate → Every (and_then (marked_told k b p d live) (pruned k p)).bank.challengers
      unfolding pruned_at
      every_mark all one h m = every_marked all one h (in_staying (cause k (marked_told k b p d live).bank.score p) (marked_told k b p d live).bank.challengers m)

    pub every_gap : (b : Bank) (p : Tracker) (d : Float) → Every b.challengers → Every (map (gapped k d) b.challengers) → Every (on_gap k b p d).challengers
    unfolding on_gap
    every_gap b p d all each =
        by_cond (λ (c : Bank). Every c.challengers) (hears b p)
        (λ x. by_cond (λ (c : Bank). Every c.challengers) (pausing k b p d) (λ y. all) (λ y. each))
        (λ x. all)
