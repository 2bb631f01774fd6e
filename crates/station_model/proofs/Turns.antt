-- Where the challengers of a bank after a call come from. Assumes nothing.
use mathlib.Core.Path.{◌≡◌, refl}
use mathlib.Core.Bool.{Bool, true, false, cond}
use mathlib.Core.List.{List, map, Memᴰ}
use Prim.Native.Nat.{ℕ}
use lib.Ieee.{Float}
use Rattle.ranges.specs.Settings.{Settings}
use Rattle.tracker.specs.Model.{Tracker}
use Rattle.bank_model.specs.Model.{Hyp, Bank, and_then, up1, following}
use Rattle.bank_model.specs.Steps.{on_ready, marked, marked_told, pruned, gapped, on_gap}
use Rattle.station_model.proofs.Every.{Every, every_map, every_ready, every_mark, every_gap}

-- a challenger is an old one, a bank mark older or not, or has a serial that was free
module _ (Free : ℕ → Type 0) where
  pub data Comes (b : Bank) (mark : Bool) (h : Hyp) : Type 0 where
    old : (g : Hyp) → Memᴰ g b.challengers → h.serial ≡ g.serial → h.lead ≡ g.lead → h.age ≡ cond mark (up1 g.age) g.age → Comes b mark h
    new : Free h.serial → h.lead ≡ 0 → h.age ≡ 0 → Comes b mark h

  abbrev pub AllCome : Bank → Bool → List Hyp → Type 0
  AllCome b mark l = Every (Comes b mark) l

  pub come_same : (b : Bank) → AllCome b false b.challengers
  come_same b h m = old h m refl refl refl

  module _ (k : Settings) where
    come_marked : (b : Bank) (d : Float) (live : Bool) → AllCome b true (map (marked k d live) b.challengers)
    unfolding marked
    come_marked b d live = every_map (Comes b true) (marked k d live) b.challengers (λ g m. old g m refl refl refl)

    come_gapped : (b : Bank) (d : Float) → AllCome b false (map (gapped k d) b.challengers)
    unfolding gapped
    come_gapped b d = every_map (Comes b false) (gapped k d) b.challengers (λ g m. old g m refl refl refl)

    pub come_ready : (b : Bank) (p : Tracker) (marks : List Float) → Free (following b.started) → AllCome b false (on_ready k b p marks).bank.challengers
    come_ready b p marks free = every_ready (Comes b false) k b p marks (come_same b) (λ u e. new free refl refl)

    -- before the leads are counted
    pub come_mark : (b : Bank) (p : Tracker) (d : Float) (live : Bool) → Free (following b.started) → AllCome b true (and_then (marked_told k b p d live) (pruned k p)).bank.challengers
    come_mark b p d live free = every_mark (Comes b true) k b p d live (come_marked b d live) (λ x u e. new free refl refl)

    pub come_gap : (b : Bank) (p : Tracker) (d : Float) → AllCome b false (on_gap k b p d).challengers
    come_gap b p d = every_gap (Comes b false) k b p d (come_same b) (come_gapped b d)
