-- What holds of every station from a fresh one, whatever the calls: its setup, its trackers and evidence, when a choice can be pending. Assumes nothing.
use mathlib.Core.Path.{◌≡◌, refl, sym, ap, subst, ◌∙◌}
use mathlib.Core.Bool.{Bool, true, false}
use mathlib.Core.List.Memᴰ
use mathlib.Core.List.{List, [], ◌∷◌}
use mathlib.Core.Option.{Option, none, some}
use Prim.Native.Nat.{ℕ, zero, suc, ◌≤◌, ◌<◌}
use native.Mathlib.Omega.{arith}
use lib.ListN.{length, set, get_elem?, length-append, length-map, length-set}
use lib.Dec.{leb}
use lib.Ieee.{Float}
use Rattle.ranges.specs.Settings.{Settings, Good, Held}
use Rattle.tracker.specs.Model.{Tracker}
use Rattle.tracker.specs.Steps.{element_gap, set_hint, seeded, can_begin, bootstrapped}
use Rattle.tracker.specs.Steps as Tracking
use Rattle.tracker.proofs.Keeping.{fresh_sane, hint_sane, seed_up, begin_sane}
use Rattle.tracker.proofs.Answering.{good_duration, good_speed}
use Rattle.bank_model.specs.declared.Origin.{Origin}
use Rattle.bank_model.specs.declared.Origin.TheVariants.{Bootstrap, Streak}
use Rattle.bank_model.specs.Model.{Hyp, Evidence, Bank, Told, with_new, with_evidence}
use Rattle.bank_model.specs.Scores.{ln_dit, ln_dah}
use Rattle.bank_model.specs.Steps.{Taken, fresh_bank, on, hears, duplicate_at, roomy, newborn, victim, replaced_by, replacing, spawned_at, spawned_if_at, other, on_ready, marked, scored, emptied, candidate_at, short, streak_end, streak_at, high, pruned_at, led, qualified, marked_told, heard_mark, on_mark, gapped, pausing, on_gap, clear, formerly, reporting, taken_at, taken_of, take_switch}
use Rattle.bank_model.proofs.Ready.{mark_ready}
use Rattle.station_model.specs.declared.Event.{Event}
use Rattle.station_model.specs.declared.Event.TheVariants.{Mark, Gap, Finish, Seed, Hint, Clear, Switch}
use Rattle.station_model.specs.Station.{Station, Act, ready, fresh, learnt_act, finish_act, acted, fault, refusal, outcome, step}
use Rattle.station_model.specs.Watch.{Carries}
use Rattle.station_model.proofs.Lists.{by_cond, no, and_true, in_at}
use Rattle.station_model.proofs.Picks.{picks_inside}
use Rattle.station_model.proofs.Every.{heard_of, Every, every_map, every_set, every_ready, every_mark, every_gap}
use Rattle.station_model.proofs.Ledger.{unrefused}
use Rattle.station_model.proofs.Trackers.{Heard, Evident, evident_none, evident_gap, evident_empty, evident_on, gap_same, hint_same, hint_recent, mark_recent, begun_recent, begin_unready, Fine, Able, able_settled, able_mark, able_gap, fine_mark, fine_gap, other_able, candidate_able, able_of}

-- ---- what no call changes

pub record Setup (b c : Bank) : Type 0 where
  pub width : c.width ≡ b.width
  pub switching : c.switching ≡ b.switching

setup_then : (a b c : Bank) → Setup a b → Setup b c → Setup a c
setup_then a b c x y = record { width = y.width ∙ x.width; switching = y.switching ∙ x.switching }

-- `spawn` and `on_gap` leave the pending choice as it is
pub record Still (b c : Bank) : Type 0 where
  pub setup : Setup b c
  pub pending : c.pending ≡ b.pending
  pub marks : c.marks ≡ b.marks
  pub long : length b.challengers ≤ length c.challengers

abbrev still : (b : Bank) → Still b b
still b = record { setup = record { width = refl; switching = refl }; pending = refl; marks = refl; long = omega arith }

-- ---- `spawn`: the choice and the evidence stay

pub record Spawns (b c : Bank) : Type 0 where
  pub still : Still b c
  pub evidence : c.evidence ≡ b.evidence

abbrev unspawned : (b : Bank) → Spawns b b
unspawned b = record { still = still b; evidence = refl }

spawns_new : (b : Bank) (l : List Hyp) → length b.challengers ≤ length l → Spawns b (with_new b l)
spawns_new b l h = record { still = record { setup = record { width = refl; switching = refl }; pending = refl; marks = refl; long = h }; evidence = refl }

spawns_replaced_by : (b : Bank) (h : Hyp) (i : ℕ) (v : Option Hyp) → Spawns b (replaced_by b h i v).bank
spawns_replaced_by b h i none = unspawned b
spawns_replaced_by b h i (some v) = spawns_new b (set b.challengers i h) (omega (arith, length-set b.challengers i h))

spawns_replacing : (b : Bank) (h : Hyp) (i : Option ℕ) → Spawns b (replacing b h i).bank
spawns_replacing b h none = unspawned b
spawns_replacing b h (some i) = spawns_replaced_by b h i (get_elem? b.challengers i)

spawns_at : (b : Bank) (lo hi : Float) (o : Origin) (t : Tracker) → Spawns b (spawned_at b lo hi o t).bank
unfolding spawned_at
spawns_at b lo hi o t =
    by_cond (λ (u : Told). Spawns b u.bank) (duplicate_at b lo hi t) (λ x. unspawned b)
    (λ x. by_cond (λ (u : Told). Spawns b u.bank) (roomy b) (λ y. spawns_new b _ (omega (arith, length-append b.challengers (newborn b t o ∷ []))))
    (λ y. spawns_replacing b (newborn b t o) (victim b.challengers)))

spawns_if : (b : Bank) (lo hi : Float) (o : Origin) (t : Option Tracker) → Spawns b (spawned_if_at b lo hi o t).bank
spawns_if b lo hi o none = unspawned b
spawns_if b lo hi o (some t) = spawns_at b lo hi o t

module _ (k : Settings) where
  pub spawns_ready : (b : Bank) (p : Tracker) (marks : List Float) → Spawns b (on_ready k b p marks).bank
  unfolding on_ready
  spawns_ready b p marks = by_cond (λ (u : Told). Spawns b u.bank) (on b) (λ x. spawns_if b (ln_dit p) (ln_dah p) Bootstrap (other k p marks)) (λ x. unspawned b)

  pub still_gap : (b : Bank) (p : Tracker) (d : Float) → Still b (on_gap k b p d)
  unfolding on_gap
  still_gap b p d =
      by_cond (λ (c : Bank). Still b c) (hears b p)
      (λ x. by_cond (λ (c : Bank). Still b c) (pausing k b p d)
      (λ y. record { setup = record { width = refl; switching = refl }; pending = refl; marks = refl; long = omega arith })
      (λ y. record { setup = record { width = refl; switching = refl }; pending = refl; marks = refl; long = omega (arith, length-map b.challengers (gapped k d)) }))
      (λ x. still b)

  -- ---- a mark that the bank hears

  -- its setup stays, and it has counted n marks
  pub record Hears (b : Bank) (n : ℕ) (c : Bank) : Type 0 where
    pub setup : Setup b c
    pub marks : c.marks ≡ n

  spawns_streak : (b : Bank) (lo hi : Float) (v : Evidence) → Spawns (with_evidence b (emptied v)) (spawned_if_at (with_evidence b (emptied v)) lo hi Streak (candidate_at k lo hi v)).bank
  spawns_streak b lo hi v = spawns_if (with_evidence b (emptied v)) lo hi Streak (candidate_at k lo hi v)

  hears_streak_end : (b : Bank) (lo hi : Float) (v : Evidence) → Hears b b.marks (streak_end k b lo hi v).bank
  hears_streak_end b lo hi v =
      by_cond (λ (u : Told). Hears b b.marks u.bank) (short v) (λ x. record { setup = record { width = refl; switching = refl }; marks = refl })
      (λ x. let s = (spawns_streak b lo hi v).still in record { setup = record { width = s.setup.width; switching = s.setup.switching }; marks = s.marks })

  evident_streak_end : (b : Bank) (lo hi : Float) (v : Evidence) → Evident v → Evident (streak_end k b lo hi v).bank.evidence
  evident_streak_end b lo hi v e =
      by_cond (λ (u : Told). Evident u.bank.evidence) (short v) (λ x. e) (λ x. subst Evident (sym (spawns_streak b lo hi v).evidence) (evident_empty v v.side e))

  module _ (b : Bank) (p : Tracker) (d : Float) (live : Bool) where
    hears_marked : Hears b (suc b.marks) (marked_told k b p d live).bank
    unfolding streak_at
    hears_marked =
        by_cond (λ (u : Told). Hears b (suc b.marks) u.bank) live
        (λ x. let s = hears_streak_end (scored k b p d live) (ln_dit p) (ln_dah p) (heard_of k b p d live) in record { setup = record { width = s.setup.width; switching = s.setup.switching }; marks = omega (arith, s.marks) })
        (λ x. record { setup = record { width = refl; switching = refl }; marks = omega arith })

    pub hears_mark : Hears b (suc b.marks) (heard_mark k b p d live).bank
    unfolding qualified pruned_at
    hears_mark = let s = hears_marked in record { setup = record { width = s.setup.width; switching = s.setup.switching }; marks = s.marks }

    module _ (h : Heard d) (e : Evident b.evidence) where
      evident_heard : Evident (heard_of k b p d live)
      evident_heard = evident_on (scored k b p d live).evidence (evident_gap b.evidence none e tt) (high p d) d h b.evidence.last_gap e.last

      evident_mark : Evident (heard_mark k b p d live).bank.evidence
      unfolding qualified pruned_at streak_at
      evident_mark =
          by_cond (λ (u : Told). Evident u.bank.evidence) live (λ x. evident_streak_end (scored k b p d live) (ln_dit p) (ln_dah p) (heard_of k b p d live) evident_heard) (λ x. evident_gap b.evidence none e tt)

  evident_on_gap : (b : Bank) (p : Tracker) (d : Float) → Heard d → Evident b.evidence → Evident (on_gap k b p d).evidence
  unfolding on_gap
  evident_on_gap b p d h e =
      by_cond (λ (c : Bank). Evident c.evidence) (hears b p)
      (λ x. by_cond (λ (c : Bank). Evident c.evidence) (pausing k b p d) (λ y. evident_gap b.evidence none e tt) (λ y. evident_gap b.evidence (some d) e h))
      (λ x. e)

-- ---- stations

nothing : {A : Type 0} (i : ℕ) → ◌≡◌ {A = Option ℕ} none (some i) → A
nothing i e = no (cc)

module _ (k : Settings) (G : Good k) (H : Held k) where
  abbrev pub AbleHyp : Hyp → Type 0
  AbleHyp h = Able k G H h.tracker

  able_heard : (b : Bank) (p : Tracker) (d : Float) (live : Bool) → Heard d → Evident b.evidence → Every AbleHyp b.challengers → Every AbleHyp (heard_mark k b p d live).bank.challengers
  unfolding marked led qualified
  able_heard b p d live h e all =
      every_map AbleHyp (led k _) _
      (every_mark AbleHyp k b p d live
      (every_map AbleHyp (marked k d live) b.challengers (λ g m. by_cond (λ (t : Tracker). Able k G H t) live (λ x. able_mark k G H g.tracker d h (all g m)) (λ x. all g m)))
      (λ x u q. able_of k G H _ u (candidate_able k G H (ln_dit p) (ln_dah p) _ (evident_heard k b p d live h e) x) q))

  able_on_ready : (b : Bank) (p : Tracker) → Fine k G H p → length p.recent ≤ 12 → Every AbleHyp b.challengers → Every AbleHyp (on_ready k b p p.recent).bank.challengers
  able_on_ready b p f w all = every_ready AbleHyp k b p p.recent all (λ u e. able_of k G H _ u (other_able k G H p f w) e)

  able_on_gap : (b : Bank) (p : Tracker) (d : Float) → Heard d → Every AbleHyp b.challengers → Every AbleHyp (on_gap k b p d).challengers
  unfolding gapped
  able_on_gap b p d h all = every_gap AbleHyp k b p d all (every_map AbleHyp (gapped k d) b.challengers (λ g m. able_gap k G H g.tracker d h (all g m)))

  -- a sound primary, whose recent marks are not too many before it is ready
  pub record Primary (p : Tracker) : Type 0 where
    pub fine : Fine k G H p
    pub few : ready p ≡ false → length p.recent ≤ 5

  able_primary : (p : Tracker) → Able k G H p → Primary p
  able_primary p u = record { fine = u.sane; few = λ e. no (sym u.ready ∙ e) }

  pub record Sane (b₀ : Bank) (p : Tracker) (b : Bank) : Type 0 where
    pub setup : Setup b₀ b
    -- no choice is pending in a bank that is off, or while the primary is not ready
    pub off : on b ≡ false → b.pending ≡ none
    pub unready : ready p ≡ false → b.pending ≡ none
    pub inside : (i : ℕ) → b.pending ≡ some i → i < length b.challengers
    pub primary : Primary p
    pub able : Every AbleHyp b.challengers
    pub evident : Evident b.evidence

  module _ (b₀ : Bank) where
    abbrev SaneAct : Act → Type 0
    SaneAct a = Sane b₀ a.primary a.told.bank

    -- a bank that is still, with a primary that is no less ready
    sane_still : (p q : Tracker) (b c : Bank) → Sane b₀ p b → Still b c → (ready q ≡ false → ready p ≡ false) → Primary q → Every AbleHyp c.challengers → Evident c.evidence → Sane b₀ q c
    sane_still p q b c s t r f g v = record {
      setup = setup_then b₀ b c s.setup t.setup;
      off = λ e. t.pending ∙ s.off (ap (leb 2) (sym t.setup.width) ∙ e);
      unready = λ e. t.pending ∙ s.unready (r e);
      inside = λ i e. omega (arith, s.inside i (sym t.pending ∙ e), t.long);
      primary = f;
      able = g;
      evident = v;
    }

    -- the bank as it was
    sane_same : (p q : Tracker) (b : Bank) → Sane b₀ p b → (ready q ≡ false → ready p ≡ false) → Primary q → Sane b₀ q b
    sane_same p q b s r f = sane_still p q b b s (still b) r f s.able s.evident

    sane_mark : (p q : Tracker) (b : Bank) (d : Float) (live : Bool) → Heard d → Sane b₀ p b → (ready q ≡ false → ready p ≡ false) → Primary q → Sane b₀ q (on_mark k b q d live).bank
    unfolding on_mark qualified
    sane_mark p q b d live h s r f =
        by_cond (λ (u : Told). Sane b₀ q u.bank) (hears b q)
        (λ e. let w = hears_mark k b q d live in let o = and_true (on b) (ready q) e in record {
          setup = setup_then b₀ b _ s.setup w.setup;
          off = λ x. no (sym o.0 ∙ ap (leb 2) (sym w.setup.width) ∙ x);
          unready = λ x. no (sym o.1 ∙ x);
          inside = picks_inside _ _;
          primary = f;
          able = able_heard b q d live h s.evident s.able;
          evident = evident_mark k b q d live h s.evident;
        })
        (λ e. sane_same p q b s r f)

    sane_ready : (p q : Tracker) (b : Bank) → Sane b₀ p b → (ready q ≡ false → ready p ≡ false) → Primary q → length q.recent ≤ 12 → Sane b₀ q (on_ready k b q q.recent).bank
    sane_ready p q b s r f w =
        let t = spawns_ready k b q q.recent in
        sane_still p q b _ s t.still r f (able_on_ready b q f.fine w s.able) (subst Evident (sym t.evidence) s.evident)

    sane_learnt : (s : Station) (q : Tracker) → Sane b₀ s.primary s.bank → (ready q ≡ false → ready s.primary ≡ false) → Primary q → length q.recent ≤ 12 → SaneAct (learnt_act k s q)
    sane_learnt s q x r f w =
        by_cond SaneAct (ready q)
        (λ e. sane_ready s.primary q s.bank x r f w)
        (λ e. sane_same s.primary q s.bank x r f)

    begun_primary : (p : Tracker) → can_begin p ≡ true → Primary p → Primary (bootstrapped k p)
    begun_primary p e f = record { fine = begin_sane k G H p f.fine; few = λ z. subst (λ (l : List Float). length l ≤ 5) (sym (begun_recent k p)) (f.few (begin_unready p e)) }

    sane_finish : (s : Station) → Sane b₀ s.primary s.bank → SaneAct (finish_act k s)
    sane_finish s x =
        let p = s.primary in
        by_cond SaneAct (can_begin p)
        (λ e. let u = begin_unready p e in
        sane_ready p (bootstrapped k p) s.bank x (λ z. u) (begun_primary p e x.primary) (omega (arith, x.primary.few u, ap length (begun_recent k p))))
        (λ e. x)

    -- after a clear nothing is pending
    sane_clear : (p q : Tracker) (b : Bank) → Sane b₀ p b → (ready q ≡ false → ready p ≡ false) → Primary q → Sane b₀ q (clear b).bank
    unfolding clear
    sane_clear p q b s r f =
        by_cond (λ (u : Told). Sane b₀ q u.bank) (on b)
        (λ e. record { setup = record { width = s.setup.width; switching = s.setup.switching }; off = λ x. refl; unready = λ x. refl; inside = λ i x. nothing i x; primary = f; able = λ h m. absurd (Memᴰ.not-nil m); evident = evident_none })
        (λ e. sane_same p q b s r f)

    -- a bank with nothing pending
    sane_unpended : (p : Tracker) (b c : Bank) → Setup b₀ b → Setup b c → c.pending ≡ none → Primary p → Every AbleHyp c.challengers → Evident c.evidence → Sane b₀ p c
    sane_unpended p b c s t n f g v = record { setup = setup_then b₀ b c s t; off = λ x. n; unready = λ x. n; inside = λ i x. nothing i (sym n ∙ x); primary = f; able = g; evident = v }

    sane_at : (p : Tracker) (b : Bank) (n i : ℕ) (o : Option Hyp) → get_elem? b.challengers i ≡ o → ready p ≡ true → Sane b₀ p b → Sane b₀ (taken_at b p n i o).primary (taken_at b p n i o).bank
    sane_at p b n i none e r s = sane_unpended p b _ s.setup (record { width = refl; switching = refl }) refl s.primary s.able s.evident
    sane_at p b n i (some c) e r s =
        let g : Able k G H c.tracker = s.able c (in_at b.challengers i c e) in
        by_cond (λ (t : Taken). Sane b₀ t.primary t.bank) b.switching
        (λ x. sane_unpended _ b _ s.setup (record { width = refl; switching = refl }) refl (able_primary _ (able_settled k G H c.tracker g)) (every_set AbleHyp b.challengers i (formerly b p n) s.able (record { sane = s.primary.fine; ready = r })) (evident_empty b.evidence none s.evident))
        (λ x. by_cond (λ (d : Bank). Sane b₀ p d) c.reported
        (λ y. sane_unpended p b _ s.setup (record { width = refl; switching = refl }) refl s.primary s.able s.evident)
        (λ y. sane_unpended p b _ s.setup (record { width = refl; switching = refl }) refl s.primary (every_set AbleHyp b.challengers i (reporting c) s.able g) s.evident))

    sane_of : (p : Tracker) (b : Bank) (n : ℕ) (o : Option ℕ) → b.pending ≡ o → Sane b₀ p b → Sane b₀ (taken_of b p n o).primary (taken_of b p n o).bank
    sane_of p b n none e s = s
    sane_of p b n (some i) e s = sane_at p b n i (get_elem? b.challengers i) refl (go (ready p) refl) s
      where
        go : (x : Bool) → ready p ≡ x → ready p ≡ true
        go true y = y
        go false y = let z = s.unready y in no (cc)

    sane_take : (p : Tracker) (b : Bank) (n : ℕ) → Sane b₀ p b → Sane b₀ (take_switch b p n).primary (take_switch b p n).bank
    unfolding take_switch
    sane_take p b n s = by_cond (λ (t : Taken). Sane b₀ t.primary t.bank) (on b) (λ e. sane_of p b n b.pending refl s) (λ e. s)

    sane_live : (s : Station) (d : Float) → Heard d → Sane b₀ s.primary s.bank → SaneAct (acted k s (Mark d true))
    sane_live s d h x =
        let q = Tracking.on_mark k s.primary d in
        let f = fine_mark k G H s.primary d h x.primary.fine in
        by_cond SaneAct (ready s.primary)
        (λ e. let r = mark_ready k s.primary d e in
        sane_mark s.primary q s.bank d true h x (λ y. no (sym r ∙ y)) (record { fine = f; few = λ y. no (sym r ∙ y) }))
        (λ e. let n = mark_recent k s.primary d e in
        sane_learnt s q x (λ y. e) (record { fine = f; few = λ y. n }) (omega arith))

    sane_acted : (s : Station) (e : Event) → Carries e → fault e ≡ 0 → Sane b₀ s.primary s.bank → SaneAct (acted k s e)
    sane_acted s (Mark d true) c z x = sane_live s d (record { long = good_duration d z; held = c }) x
    sane_acted s (Mark d false) c z x = sane_mark s.primary s.primary s.bank d false (record { long = good_duration d z; held = c }) x (λ y. y) x.primary
    sane_acted s (Gap d) c z x =
        let h : Heard d = record { long = good_duration d z; held = c } in
        by_cond SaneAct (ready s.primary)
        (λ e. let r : ready (element_gap k s.primary d) ≡ true = gap_same k s.primary d ∙ e in
        sane_still s.primary (element_gap k s.primary d) s.bank _ x (still_gap k s.bank s.primary d) (λ y. no (sym r ∙ y)) (record { fine = fine_gap k G H s.primary d h x.primary.fine; few = λ y. no (sym r ∙ y) })
        (able_on_gap s.bank s.primary d h x.able) (evident_on_gap k s.bank s.primary d h x.evident))
        (λ e. x)
    sane_acted s Finish c z x = sane_finish s x
    sane_acted s (Seed v) c z x =
        let u = seed_up k G H s.primary v x.primary.fine (good_speed v z) in
        sane_clear s.primary (seeded k s.primary v) s.bank x (λ y. no (sym u.ready ∙ y)) (able_primary _ u)
    sane_acted s (Hint r) c z x =
        let p = s.primary in
        sane_same p (set_hint k p r) s.bank x (λ y. sym (hint_same k p r) ∙ y)
        (record { fine = hint_sane k G H p r x.primary.fine; few = λ y. subst (λ (l : List Float). length l ≤ 5) (sym (hint_recent k p r)) (x.primary.few (sym (hint_same k p r) ∙ y)) })
    sane_acted s Clear c z x = sane_clear s.primary s.primary s.bank x (λ y. y) x.primary
    sane_acted s Switch c z x = sane_take s.primary s.bank s.serial x

    sane_outcome : (s : Station) (e : Event) (r : ℕ) → Carries e → refusal s e ≡ r → Sane b₀ s.primary s.bank → Sane b₀ (outcome k s e r).station.primary (outcome k s e r).station.bank
    sane_outcome s e zero c z x = sane_acted s e c (unrefused s e z).1 x
    sane_outcome s e (suc n) c z x = x

    pub sane_step : (s : Station) (e : Event) → Carries e → Sane b₀ s.primary s.bank → Sane b₀ (step k s e).station.primary (step k s e).station.bank
    unfolding step
    sane_step s e c x = sane_outcome s e (refusal s e) c refl x

  pub sane_fresh : (width : ℕ) (switching : Bool) → Sane (fresh_bank width switching) (fresh width switching).primary (fresh_bank width switching)
  sane_fresh width switching = record {
    setup = record { width = refl; switching = refl };
    off = λ x. refl;
    unready = λ x. refl;
    inside = λ i x. nothing i x;
    primary = record { fine = fresh_sane k G H; few = λ x. omega arith };
    able = λ h m. absurd (Memᴰ.not-nil m);
    evident = evident_none;
  }
