-- The bank remembers right: its leads, ages and its pending choice are those of the list of calls. Assumes nothing.
use mathlib.Core.Path.{◌≡◌, refl, sym, ap, subst, ◌∙◌}
use mathlib.Core.Bool.{Bool, true, false, cond, ◌&&◌, ◌||◌, and_assoc}
use mathlib.Core.List.Memᴰ
use mathlib.Core.List.{List, [], ◌∷◌, Memᴰ}
use mathlib.Core.Option.{Option, none, some}
use Prim.Native.Nat.{ℕ, suc, ◌+◌, ◌≤◌, ◌<◌, min}
use native.Mathlib.Omega.{arith}
use lib.Dec.{ltb, leb, eqb}
use lib.Ieee.{Float}
use borrow.Author.Tests.{ltb-true, ltb-false, leb-true, leb-false, lt-ltb, le-leb, lt-leb, eq-eqb}
use Rattle.ranges.specs.Settings.{Settings}
use Rattle.tracker.specs.Model.{Tracker}
use Rattle.bank_model.specs.Model.{Hyp, Bank, up1, following}
use Rattle.bank_model.specs.Scores.{ahead, above}
use Rattle.bank_model.specs.Steps.{led, qualifies, qualified}
use Rattle.station_model.specs.declared.Event.{Event}
use Rattle.station_model.specs.declared.Counts.{Counts}
use Rattle.station_model.specs.Station.{Station, Answer, ind}
use Rattle.station_model.specs.Watch.{Call, among, heard, ended, marks_heard, add_if, ahead_among, leads_at, led_at_last, age, meets, first_highest, serial_of, named}
use Rattle.station_model.proofs.Lists.{no, in_map}
use Rattle.station_model.proofs.Books.{in_among, ind_eq, ind_true, following_is}
use Rattle.station_model.proofs.Fair.{Spare}
use Rattle.station_model.proofs.Every.{Every}
use Rattle.station_model.proofs.Picks.{at, picks, picks_same}
use Rattle.station_model.proofs.Turns.{Comes, old, new, AllCome}

-- counts stop at the largest u32
abbrev pub capped : ℕ → ℕ
capped n = min n 4294967295

up_capped : (n : ℕ) → up1 (capped n) ≡ capped (suc n)
up_capped n = go (ltb (capped n) 4294967295) refl
  where
    go : (x : Bool) → ltb (capped n) 4294967295 ≡ x → cond x (capped n + 1) (capped n) ≡ capped (suc n)
    go true e = omega (arith, ltb-true (capped n) 4294967295 e)
    go false e = omega (arith, ltb-false (capped n) 4294967295 e)

two_capped : (n : ℕ) → leb 2 (capped n) ≡ leb 2 n
two_capped n = go (leb 2 n) refl
  where
    go : (x : Bool) → leb 2 n ≡ x → leb 2 (capped n) ≡ x
    go true e = le-leb 2 (capped n) (omega (arith, leb-true 2 n e))
    go false e = lt-leb 2 (capped n) (omega (arith, leb-false 2 n e))

lead_step : (x : Bool) (l n : ℕ) → l ≡ capped n → cond x (up1 l) 0 ≡ capped (cond x (suc n) 0)
lead_step true l n e = ap up1 e ∙ up_capped n
lead_step false l n e = refl

two_led : (x y : Bool) (n : ℕ) → leb 2 (cond x (suc (cond y (suc n) 0)) 0) ≡ x && y
two_led true true n = le-leb 2 (suc (suc n)) (omega arith)
two_led true false n = refl
two_led false y n = refl

ind_zero : (b : Bool) → ind b ≡ 0 → b ≡ false
ind_zero true e = absurd (omega arith)
ind_zero false e = refl

this_one : (x y z : Bool) → x ≡ true → z ≡ false → (x && y || z) ≡ y
this_one x true z p q = rw p
this_one x false z p q = rw (p, q)

not_this : (x y z : Bool) → x ≡ false → (x && y || z) ≡ z
not_this x y z p = rw p

-- ---- marks and ages of a list of calls with one call more

pub marks_quiet : (c : Call) (calls : List Call) → heard c ≡ false → marks_heard (c ∷ calls) ≡ marks_heard calls
unfolding marks_heard
marks_quiet c calls q = ap (λ (x : Bool). add_if x c.after (marks_heard calls)) q

pub marks_heard_law : (c : Call) (calls : List Call) → heard c ≡ true → marks_heard (c ∷ calls) ≡ c.after ∷ marks_heard calls
unfolding marks_heard
marks_heard_law c calls q = ap (λ (x : Bool). add_if x c.after (marks_heard calls)) q

age_old : (j : ℕ) (c : Call) (calls : List Call) → 1 ≤ among j c.before.bank.challengers → age j (c ∷ calls) ≡ ind (heard c) + age j calls
unfolding age
age_old j c calls h = ap (λ (x : Bool). cond x (ind (heard c) + age j calls) 0) (le-leb 1 (among j c.before.bank.challengers) h)

age_new : (j : ℕ) (c : Call) (calls : List Call) → among j c.before.bank.challengers ≡ 0 → age j (c ∷ calls) ≡ 0
unfolding age
age_new j c calls h = ap (λ (x : Bool). cond x (ind (heard c) + age j calls) 0) (lt-leb 1 (among j c.before.bank.challengers) (omega arith))

-- ---- who is where

abbrev pub serial_at : Option ℕ → List Hyp → Option ℕ
serial_at o l = serial_of (at o l)

-- no serial stands in two places
abbrev pub Unique : Station → Type 0
Unique s = (j : ℕ) → ind (eqb j s.serial) + (among j s.bank.challengers + ind (ltb s.bank.started j)) ≤ 1

module _ (k : Settings) where
  -- a serial led at so many of the last marks, one after the other
  unfoldable pub streak_of : ℕ → List Station → ℕ
  streak_of j [] = 0
  streak_of j (m ∷ before) = cond (leads_at k j m) (suc (streak_of j before)) 0

  two_marks : (j : ℕ) (m : Station) (before : List Station) → leb 2 (streak_of j (m ∷ before)) ≡ leads_at k j m && led_at_last k j before
  unfolding streak_of
  two_marks j m [] = two_led (leads_at k j m) false 0
  two_marks j m (n ∷ before) = two_led (leads_at k j m) (leads_at k j n) (streak_of j before)

  none_ahead : (j : ℕ) (p : Float) (l : List Hyp) → among j l ≡ 0 → ahead_among k j p l ≡ false
  unfolding among ahead_among
  none_ahead j p [] e = refl
  none_ahead j p (h ∷ l) e = go (none_ahead j p l (omega arith)) (eqb j h.serial) refl
    where
      go : ahead_among k j p l ≡ false → (x : Bool) → eqb j h.serial ≡ x → (x && ahead k h.score p || ahead_among k j p l) ≡ false
      go below true q = absurd (omega (arith, ap ind q))
      go below false q = below

  one_ahead : (h : Hyp) (p : Float) (l : List Hyp) → Memᴰ h l → among h.serial l ≤ 1 → ahead_among k h.serial p l ≡ ahead k h.score p
  unfolding among ahead_among
  one_ahead h p [] m u = elim m [ ]
  one_ahead h p (x ∷ l) (Memᴰ.head e) u =
      let t : eqb h.serial x.serial ≡ true = eq-eqb h.serial x.serial (ap (λ (y : Hyp). y.serial) e) in
      this_one (eqb h.serial x.serial) (ahead k x.score p) (ahead_among k h.serial p l) t (none_ahead h.serial p l (omega (arith, ap ind t)))
      ∙ ap (λ (y : Hyp). ahead k y.score p) (sym e)
  one_ahead h p (x ∷ l) (Memᴰ.tail m) u =
      not_this (eqb h.serial x.serial) (ahead k x.score p) (ahead_among k h.serial p l) (ind_zero (eqb h.serial x.serial) (omega (arith, in_among h l m)))
      ∙ one_ahead h p l m (omega arith)

  -- ---- what is known of one challenger

  pub record Known (calls : List Call) (h : Hyp) : Type 0 where
    pub lead : h.lead ≡ capped (streak_of h.serial (marks_heard calls))
    pub age : h.age ≡ capped (age h.serial calls)

  -- a serial that a new challenger may have: no challenger has it, and none had it at the last mark
  pub record Free (calls : List Call) (s : Station) (j : ℕ) : Type 0 where
    pub absent : among j s.bank.challengers ≡ 0
    pub unled : streak_of j (marks_heard calls) ≡ 0

  module _ (calls : List Call) (c : Call) (all : Every (Known calls) c.before.bank.challengers) where
    lead_before : (mark : Bool) (h : Hyp) → Comes (Free calls c.before) c.before.bank mark h → h.lead ≡ capped (streak_of h.serial (marks_heard calls))
    lead_before mark h (old g m es el ea) = el ∙ (all g m).lead ∙ ap (λ (j : ℕ). capped (streak_of j (marks_heard calls))) (sym es)
    lead_before mark h (new f el ea) = el ∙ ap capped (sym f.unled)

    older : (mark : Bool) (a n : ℕ) → a ≡ capped n → cond mark (up1 a) a ≡ capped (ind mark + n)
    older true a n e = ap up1 e ∙ up_capped n ∙ ap capped (omega arith)
    older false a n e = e ∙ ap capped (omega arith)

    age_after : (h : Hyp) → Comes (Free calls c.before) c.before.bank (heard c) h → h.age ≡ capped (age h.serial (c ∷ calls))
    age_after h (old g m es el ea) =
        ea ∙ older (heard c) g.age (age g.serial calls) (all g m).age
        ∙ ap (λ (j : ℕ). capped (ind (heard c) + age j calls)) (sym es)
        ∙ ap capped (sym (age_old h.serial c calls (subst (λ (j : ℕ). 1 ≤ among j c.before.bank.challengers) (sym es) (in_among g c.before.bank.challengers m))))
    age_after h (new f el ea) = ea ∙ ap capped (sym (age_new h.serial c calls f.absent))

    known_quiet : (h : Hyp) → heard c ≡ false → Comes (Free calls c.before) c.before.bank false h → Known (c ∷ calls) h
    known_quiet h q w = record {
      lead = lead_before false h w ∙ ap (λ (ms : List Station). capped (streak_of h.serial ms)) (sym (marks_quiet c calls q));
      age = age_after h (subst (λ (x : Bool). Comes (Free calls c.before) c.before.bank x h) (sym q) w);
    }

    known_heard : (h : Hyp) → heard c ≡ true → Comes (Free calls c.before) c.before.bank true h
        → Memᴰ (led k c.after.bank.score h) c.after.bank.challengers → among h.serial c.after.bank.challengers ≤ 1
        → Known (c ∷ calls) (led k c.after.bank.score h)
    unfolding streak_of led
    known_heard h q w m u = record {
      lead =
          lead_step (ahead k h.score c.after.bank.score) h.lead (streak_of h.serial (marks_heard calls)) (lead_before true h w)
          ∙ ap (λ (x : Bool). capped (cond x (suc (streak_of h.serial (marks_heard calls))) 0)) (sym (one_ahead (led k c.after.bank.score h) c.after.bank.score c.after.bank.challengers m u))
          ∙ ap (λ (ms : List Station). capped (streak_of h.serial ms)) (sym (marks_heard_law c calls q));
      age = age_after h (subst (λ (x : Bool). Comes (Free calls c.before) c.before.bank x h) (sym q) w);
    }

  -- ---- the choice

  meets_qualifies : (calls : List Call) (c : Call) (h : Hyp) → heard c ≡ true → Known (c ∷ calls) h → qualifies c.after.bank.gap_score h ≡ meets k c calls h
  meets_qualifies calls c h q j =
      let a : leb 2 h.lead ≡ leads_at k h.serial c.after && led_at_last k h.serial (marks_heard calls) =
      ap (leb 2) (j.lead ∙ ap (λ (ms : List Station). capped (streak_of h.serial ms)) (marks_heard_law c calls q)) ∙ two_capped (streak_of h.serial (c.after ∷ marks_heard calls)) ∙ two_marks h.serial c.after (marks_heard calls) in
      let b : leb 2 h.age ≡ leb 2 (age h.serial (c ∷ calls)) = ap (leb 2) j.age ∙ two_capped (age h.serial (c ∷ calls)) in
      ap₂_and a (ap (λ (x : Bool). x && above h.gap_score c.after.bank.gap_score) b) ∙ and_assoc (leads_at k h.serial c.after) (led_at_last k h.serial (marks_heard calls)) _
    where
      ap₂_and : {x y z w : Bool} → x ≡ y → z ≡ w → (x && z) ≡ (y && w)
      ap₂_and p r = λ i. p i && r i

  named_heard : (calls : List Call) (c : Call) → heard c ≡ true → named k (c ∷ calls) ≡ serial_of (first_highest (meets k c calls) none c.after.bank.challengers)
  unfolding named
  named_heard calls c q = rw q

  named_quiet : (calls : List Call) (c : Call) → heard c ≡ false → ended c ≡ false → named k (c ∷ calls) ≡ named k calls
  unfolding named
  named_quiet calls c q r = rw (q, r)

  named_ended : (calls : List Call) (c : Call) → heard c ≡ false → ended c ≡ true → named k (c ∷ calls) ≡ none
  unfolding named
  named_ended calls c q r = rw (q, r)

  -- ---- the whole memory

  pub record Memory (calls : List Call) (s : Station) : Type 0 where
    pub known : Every (Known calls) s.bank.challengers
    pub chosen : serial_at s.bank.pending s.bank.challengers ≡ named k calls
    -- a serial that is not given out yet did not lead at the last mark, nor did the primary's if a choice is pending
    pub clean : (j : ℕ) → s.bank.started < j → streak_of j (marks_heard calls) ≡ 0
    pub primary : (i : ℕ) → s.bank.pending ≡ some i → streak_of s.serial (marks_heard calls) ≡ 0

  pub free_next : (calls : List Call) (s : Station) → Spare s.bank → Unique s → Memory calls s → Free calls s (following s.bank.started)
  free_next calls s h u m =
      let n = suc s.bank.started in
      subst (Free calls s) (sym (following_is s.bank.started h))
      (record { absent = omega (arith, u n, ind_true (ltb s.bank.started n) (lt-ltb s.bank.started n (omega arith))); unled = m.clean n (omega arith) })

  module _ (calls : List Call) (c : Call) (m : Memory calls c.before) where
    -- a call in which the bank heard no mark and no choice was made or dropped
    pub memory_quiet : heard c ≡ false → ended c ≡ false → AllCome (Free calls c.before) c.before.bank false c.after.bank.challengers
        → serial_at c.after.bank.pending c.after.bank.challengers ≡ serial_at c.before.bank.pending c.before.bank.challengers
        → c.before.bank.started ≤ c.after.bank.started → c.after.serial ≡ c.before.serial
        → ((i : ℕ) → c.after.bank.pending ≡ some i → c.before.bank.pending ≡ some i)
        → Memory (c ∷ calls) c.after
    memory_quiet q r come same grows serial pend = record {
      known = λ h j. known_quiet calls c m.known h q (come h j);
      chosen = same ∙ m.chosen ∙ sym (named_quiet calls c q r);
      clean = λ j l. ap (streak_of j) (marks_quiet c calls q) ∙ m.clean j (omega arith);
      primary = λ i e. ap (streak_of c.after.serial) (marks_quiet c calls q) ∙ ap (λ (j : ℕ). streak_of j (marks_heard calls)) serial ∙ m.primary i (pend i e);
    }

    -- an accepted clear, seed or switch
    pub memory_ended : heard c ≡ false → ended c ≡ true → AllCome (Free calls c.before) c.before.bank false c.after.bank.challengers
        → c.after.bank.pending ≡ none → c.before.bank.started ≤ c.after.bank.started
        → Memory (c ∷ calls) c.after
    memory_ended q r come none-pending grows = record {
      known = λ h j. known_quiet calls c m.known h q (come h j);
      chosen = ap (λ (o : Option ℕ). serial_at o c.after.bank.challengers) none-pending ∙ sym (named_ended calls c q r);
      clean = λ j l. ap (streak_of j) (marks_quiet c calls q) ∙ m.clean j (omega arith);
      primary = λ i e. let z : ◌≡◌ {A = Option ℕ} none (some i) = sym none-pending ∙ e in no (cc);
    }

  -- a mark that the bank heard: u is the bank before the leads are counted
  module _ (calls : List Call) (s : Station) (m : Memory calls s) (e : Event) (a : Answer) (p : Tracker) (n : ℕ) (u : Bank) (counts : Counts) (done : ℕ) where
    abbrev after : Station
    after = record { primary = p; serial = n; bank = qualified k u; counts = counts; accepted = done }

    abbrev call : Call
    call = record { event = e; answer = a; before = s; after = after }

    pub memory_heard : heard call ≡ true → AllCome (Free calls s) s.bank true u.challengers → Unique after → Memory (call ∷ calls) after
    unfolding streak_of led qualified
    memory_heard q come unique = record {
      known = known;
      chosen = ap serial_of (picks (qualifies u.gap_score) after.bank.challengers ∙ picks_same (qualifies u.gap_score) (meets k call calls) after.bank.challengers none (λ h j. meets_qualifies calls call h q (known h j))) ∙ sym (named_heard calls call q);
      clean = λ j l. unled j (omega (arith, unique j, ind_true (ltb u.started j) (lt-ltb u.started j l)));
      primary = λ i x. unled n (omega (arith, unique n, ind_eq n n refl));
    }
      where
        known : Every (Known (call ∷ calls)) after.bank.challengers
        known h j =
            let r = in_map (led k u.score) u.challengers j in
            subst (λ (x : Hyp). Known (call ∷ calls) x) (sym r.2)
            (known_heard calls call m.known r.0 q (come r.0 r.1) (Memᴰ.cast (sym r.2) j) (omega (arith, unique r.0.serial)))

        unled : (j : ℕ) → among j after.bank.challengers ≡ 0 → streak_of j (marks_heard (call ∷ calls)) ≡ 0
        unled j z = ap (streak_of j) (marks_heard_law call calls q) ∙ ap (λ (x : Bool). cond x (suc (streak_of j (marks_heard calls))) 0) (none_ahead j u.score after.bank.challengers z)
