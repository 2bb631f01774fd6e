-- The whole watch: demand 3 for every list of calls, every good settings record, every width, switching on or off, and for any program whose calls meet their contract. Assumes nothing.
use mathlib.Core.Path.{◌≡◌, refl, sym, ap, subst, ◌∙◌}
use mathlib.Core.Bool.{Bool}
use mathlib.Core.List.Permᴰ
use mathlib.Core.List.{List, [], ◌∷◌, map, Permᴰ}
use mathlib.Core.Option.{Option, none, some}
use Prim.Native.Nat.{ℕ, ◌+◌}
use native.Mathlib.Omega.{arith}
use lib.Dec.{ltb, eqb}
use borrow.Author.Tests.{lt-ltb, le-ltb}
use Rattle.ranges.specs.Settings.{Settings, Good, Held, standard}
use Rattle.ranges.proofs.Standard.{standard_good, standard_held}
use Rattle.bank_model.specs.declared.Cause.{Cause}
use Rattle.bank_model.specs.declared.Cause.TheVariants.{Twin, Outscored, Aged, Replaced, Cleared}
use Rattle.bank_model.specs.declared.Departure.{Departure}
use Rattle.bank_model.specs.Steps.{fresh_bank}
use Rattle.station_model.specs.declared.Event.{Event}
use Rattle.station_model.specs.declared.Code.{Code}
use Rattle.station_model.specs.Station.{Station, Answer, number, taken, says, fresh, ind, is_cause, of_cause, step}
use Rattle.station_model.specs.Watch.{Call, event_of, Carries, AllCarry, station_after, answer_to, call_on, calls_of, Each, SameAnswer, AsDefined, gone, departures, counts_of, due, Moved, Ruled, SwitchRule, SerialRule, Watch, Promised, Ran, RanFrom, Stepped, Settled}
use Rattle.station_model.proofs.Books.{gone_append, cause_append, by_cause, ind_true, ind_false}
use Rattle.station_model.proofs.Ledger.{Books, books_spare, booked}
use Rattle.station_model.proofs.Trackers.{fine_dit, able_dit}
use Rattle.station_model.proofs.Sane.{Sane, sane_step, sane_fresh}
use Rattle.station_model.proofs.Memory.{Memory}
use Rattle.station_model.proofs.Recall.{unique_of, memory_step, memory_fresh}
use Rattle.station_model.proofs.Rule.{right_step, kept_step}

-- ---- the order of departures is free

gone_perm : (n : ℕ) {l m : List Departure} → Permᴰ l m → gone n l ≡ gone n m
unfolding gone
gone_perm n Permᴰ.nil = refl
gone_perm n (Permᴰ.cons e d) = omega (arith, gone_perm n d, ap (λ (x : Departure). ind (eqb n x.serial)) e)
gone_perm n (Permᴰ.swap e f) = omega (arith, ap (λ (x : Departure). ind (eqb n x.serial)) e, ap (λ (x : Departure). ind (eqb n x.serial)) f)
gone_perm n (Permᴰ.trans d e) = gone_perm n d ∙ gone_perm n e

cause_perm : (c : Cause) {l m : List Departure} → Permᴰ l m → of_cause c l ≡ of_cause c m
unfolding of_cause
cause_perm c Permᴰ.nil = refl
cause_perm c (Permᴰ.cons e d) = omega (arith, cause_perm c d, ap (λ (x : Departure). ind (is_cause c x.cause)) e)
cause_perm c (Permᴰ.swap e f) = omega (arith, ap (λ (x : Departure). ind (is_cause c x.cause)) e, ap (λ (x : Departure). ind (is_cause c x.cause)) f)
cause_perm c (Permᴰ.trans d e) = cause_perm c d ∙ cause_perm c e

module _ (k : Settings) where
  -- ---- calls each of which did what the definitions say, on the station that the one before left

  Traced : Station → List Call → Station → Type 0
  Traced start [] now = now ≡ start
  Traced start (c ∷ earlier) now = Traced start earlier c.before × Stepped k c.before c.event c.after c.answer × (now ≡ c.after)

  as_defined : (start : Station) (calls : List Call) (now : Station) → Traced start calls now → (now ≡ station_after k start (map event_of calls)) × Each (AsDefined k start) calls
  unfolding Traced station_after Each
  as_defined start [] now t = (t, tt)
  as_defined start (c ∷ calls) now t = go (as_defined start calls c.before t.0)
    where
      go : (c.before ≡ station_after k start (map event_of calls)) × Each (AsDefined k start) calls → (now ≡ (step k (station_after k start (map event_of calls)) c.event).station) × (AsDefined k start c calls × Each (AsDefined k start) calls)
      go r =
          let after : c.after ≡ (step k (station_after k start (map event_of calls)) c.event).station = t.1.station ∙ ap (λ (s : Station). (step k s c.event).station) r.0 in
          (t.2 ∙ after, (record { before = r.0; after = after; answer = subst (λ (s : Station). SameAnswer c.answer (step k s c.event).answer) r.0 t.1.answer }, r.1))

  gone_same : (start : Station) (n : ℕ) (calls : List Call) → Each (AsDefined k start) calls → gone n (departures calls) ≡ gone n (departures (calls_of k start (map event_of calls)))
  unfolding departures calls_of Each
  gone_same start n [] a = refl
  gone_same start n (c ∷ calls) a =
      gone_append n c.answer.departures (departures calls)
      ∙ (λ i. gone_perm n a.0.answer.departures i + gone_same start n calls a.1 i)
      ∙ sym (gone_append n (answer_to k start c.event (map event_of calls)).departures (departures (calls_of k start (map event_of calls))))

  cause_same : (start : Station) (x : Cause) (calls : List Call) → Each (AsDefined k start) calls → of_cause x (departures calls) ≡ of_cause x (departures (calls_of k start (map event_of calls)))
  unfolding departures calls_of Each
  cause_same start x [] a = refl
  cause_same start x (c ∷ calls) a =
      cause_append x c.answer.departures (departures calls)
      ∙ (λ i. cause_perm x a.0.answer.departures i + cause_same start x calls a.1 i)
      ∙ sym (cause_append x (answer_to k start c.event (map event_of calls)).departures (departures (calls_of k start (map event_of calls))))

  -- ---- a rule of the definitions' call is one of the program's

  says_of : (n : ℕ) {a b : Code} → a ≡ b → says n b → says n a
  says_of n e s = (ap taken e ∙ s.0, ap number e ∙ s.1)

  serial_of_law : (c : Call) (s : Station) → c.before ≡ s → c.after ≡ (step k s c.event).station → c.answer.code ≡ (step k s c.event).answer.code → SerialRule (call_on k s c.event) [] → SerialRule c []
  serial_of_law c s p q r z = (
    λ n. let w = z.0 (λ y. n (ap (λ (t : Station). t.serial) q ∙ y ∙ ap (λ (t : Station). t.serial) (sym p))) in (w.0, says_of 2 r w.1),
    λ w y. z.1 (w.0, says_of 2 (sym r) w.1) (ap (λ (t : Station). t.serial) (sym q) ∙ y ∙ ap (λ (t : Station). t.serial) p),
  )

  ruled_of : (c : Call) (s : Station) (o : Option ℕ) → c.before ≡ s → c.after ≡ (step k s c.event).station → c.answer.code ≡ (step k s c.event).answer.code → Ruled o (call_on k s c.event) → Ruled o c
  ruled_of c s none p q r z = (says_of 3 r z.0, ap (λ (t : Station). t.serial) q ∙ z.1 ∙ ap (λ (t : Station). t.serial) (sym p))
  ruled_of c s (some n) p q r z = (says_of 2 r z.0, subst (λ (t : Station). Moved n t c.after) (sym p) (subst (λ (t : Station). Moved n s t) (sym q) z.1))

  -- ---- the definitions' own calls are such a list, for every list of events

  traced_defined : (start : Station) (events : List Event) → Traced start (calls_of k start events) (station_after k start events)
  unfolding Traced calls_of station_after
  traced_defined start [] = refl
  traced_defined start (e ∷ events) = (traced_defined start events, record { station = refl; answer = record { code = refl; departures = Permᴰ.refl _ } }, refl)

  events_of_law : (start : Station) (events : List Event) → map event_of (calls_of k start events) ≡ events
  unfolding calls_of
  events_of_law start [] = refl
  events_of_law start (e ∷ events) = ap (λ (l : List Event). e ∷ l) (events_of_law start events)

  module _ (G : Good k) (H : Held k) (width : ℕ) (switching : Bool) where
    -- ---- what the definitions give

    pub record Kept (calls : List Call) (s : Station) : Type 0 where
      pub books : Books calls s
      pub sane : Sane k G H (fresh_bank width switching) s.primary s.bank
      pub memory : Memory k calls s

    abbrev start : Station
    start = fresh width switching

    kept_next : (calls : List Call) (s : Station) (e : Event) → Carries e → Books (call_on k s e ∷ calls) (step k s e).station → Kept calls s → Kept (call_on k s e ∷ calls) (step k s e).station
    kept_next calls s e c b w = record {
      books = b;
      sane = sane_step k G H (fresh_bank width switching) s e c w.sane;
      memory = memory_step k calls s (unique_of calls s w.books) w.sane.off w.sane.unready w.memory e (books_spare calls s e w.books);
    }

    pub kept : (events : List Event) → AllCarry events → Kept (calls_of k start events) (station_after k start events)
    unfolding calls_of station_after AllCarry
    kept [] c = record { books = booked k width switching []; sane = sane_fresh k G H width switching; memory = memory_fresh k width switching }
    kept (e ∷ events) c = kept_next (calls_of k start events) (station_after k start events) e c.0 (booked k width switching (e ∷ events)) (kept events c.1)

    -- ---- what calls that did so come to

    serial_rules : (calls : List Call) → AllCarry (map event_of calls) → Each (AsDefined k start) calls → Each SerialRule calls
    unfolding Each station_after AllCarry
    serial_rules [] c a = tt
    serial_rules (x ∷ calls) c a =
        let w = kept (map event_of calls) c.1 in (
          serial_of_law x (station_after k start (map event_of calls)) a.0.before a.0.after a.0.answer.code
              (kept_step k _ _ width switching (unique_of _ _ w.books) w.sane.setup w.memory x.event),
          serial_rules calls c.1 a.1,
        )

    switch_rules : (calls : List Call) → AllCarry (map event_of calls) → Each (AsDefined k start) calls → Each (SwitchRule k width switching) calls
    unfolding Each station_after AllCarry
    switch_rules [] c a = tt
    switch_rules (x ∷ calls) c a =
        let w = kept (map event_of calls) c.1 in
        let s = station_after k start (map event_of calls) in (
          λ e t. ruled_of x s (due k width switching (calls_of k start (map event_of calls))) a.0.before a.0.after a.0.answer.code
              (right_step k _ _ width switching (unique_of _ _ w.books) w.sane.setup w.memory x.event e (ap taken (sym a.0.answer.code) ∙ t)),
          switch_rules calls c.1 a.1,
        )

    watch_there : (calls : List Call) → AllCarry (map event_of calls) → Each (AsDefined k start) calls → Watch k width switching calls (station_after k start (map event_of calls))
    watch_there calls c a =
        let w = kept (map event_of calls) c in
        let model = departures (calls_of k start (map event_of calls)) in
        let at = station_after k start (map event_of calls) in
        record {
          defined = a;
          ends = refl;
          balance = omega (arith, w.books.balance, by_cause model, cause_same start Twin calls a, cause_same start Outscored calls a, cause_same start Aged calls a, cause_same start Replaced calls a, cause_same start Cleared calls a);
          counts = counts_same w.books;
          once = λ n h. omega (arith, w.books.once n, gone_same start n calls a, ind_false (ltb at.bank.started n) (le-ltb at.bank.started n h));
          never = λ n h. omega (arith, w.books.once n, gone_same start n calls a, ind_true (ltb at.bank.started n) (lt-ltb at.bank.started n h));
          serials = serial_rules calls c a;
          switches = switch_rules calls c a;
          primary_dit = fine_dit k G H at.primary w.sane.primary.fine;
          challenger_dits = λ h m. able_dit k G H h.tracker (w.sane.able h m);
        }
      where
        counts_same : Books (calls_of k start (map event_of calls)) (station_after k start (map event_of calls)) → (station_after k start (map event_of calls)).counts ≡ counts_of (departures calls)
        counts_same b = λ i. record {
          twins = (b.twins ∙ sym (cause_same start Twin calls a)) i;
          outscored = (b.outscored ∙ sym (cause_same start Outscored calls a)) i;
          aged = (b.aged ∙ sym (cause_same start Aged calls a)) i;
          replaced = (b.replaced ∙ sym (cause_same start Replaced calls a)) i;
          cleared = (b.cleared ∙ sym (cause_same start Cleared calls a)) i;
        }

    watch : (calls : List Call) (now : Station) → AllCarry (map event_of calls) → Traced start calls now → Watch k width switching calls now
    watch calls now c t =
        let r = as_defined start calls now t in
        subst (λ (s : Station). Watch k width switching calls s) (sym r.0) (watch_there calls c r.1)

    -- ---- demand 3, for every list of events

    pub watch_defined : (events : List Event) → AllCarry events → Watch k width switching (calls_of k start events) (station_after k start events)
    watch_defined events c = watch _ _ (subst AllCarry (sym (events_of_law start events)) c) (traced_defined start events)

    pub promised : Promised k width switching
    promised = record { all = watch_defined }

    -- ---- demand 3 of any program

    settled_at : (calls : List Call) (now : Station) → AllCarry (map event_of calls) → Traced start calls now → Settled now
    settled_at calls now c t =
        let r = as_defined start calls now t in
        let w = kept (map event_of calls) c in
        subst (λ (s : Station). Settled s) (sym r.0) (record { inside = w.sane.inside; unready = w.sane.unready })

    module _ {S R : Type 0} (station : R → S) (view : S → Station) (answer : R → Answer) where
      -- a call of the program, on the views
      abbrev pub viewed : Ran S R → Call
      viewed c = record { event = c.event; answer = answer c.returned; before = view c.before; after = view (station c.returned) }

      -- Its step function has a contract from which follows that the view of what it returns for a sound station is as the definitions say, and sound again. The contract may leave
      -- out the stations that no list leads to.
      module _ (Called : S → Event → R → Type 0) (Sound : S → Type 0)
          (contract : (s : S) (e : Event) (r : R) → Sound s → Settled (view s) → Carries e → Called s e r → Sound (station r) × Stepped k (view s) e (view (station r)) (answer r))
          (first : S) (good : Sound first) (begins : view first ≡ fresh width switching) where
        record Trail (calls : List (Ran S R)) (now : S) : Type 0 where
          pub sound : Sound now
          pub carried : AllCarry (map event_of (map viewed calls))
          pub traced : Traced start (map viewed calls) (view now)

        trail : (calls : List (Ran S R)) (now : S) → RanFrom station Called first calls now → Trail calls now
        unfolding RanFrom Traced AllCarry
        trail [] now t = record { sound = subst (λ (s : S). Sound s) (sym t) good; carried = tt; traced = ap view t ∙ begins }
        trail (c ∷ calls) now t = go (trail calls c.before t.0)
          where
            go : Trail calls c.before → Trail (c ∷ calls) now
            go r =
                let w = contract c.before c.event c.returned r.sound (settled_at (map viewed calls) (view c.before) r.carried r.traced) t.1.0 t.1.1 in
                record { sound = subst (λ (s : S). Sound s) (sym t.2) w.0; carried = (t.1.0, r.carried); traced = (r.traced, w.1, ap view t.2) }

        pub program_watch : (calls : List (Ran S R)) (now : S) → RanFrom station Called first calls now → Watch k width switching (map viewed calls) (view now)
        program_watch calls now t = let r = trail calls now t in watch (map viewed calls) (view now) r.carried r.traced

-- ---- demand 3 with document 01's own numbers: every ready dit lies in 20 to 150 ms

pub promised_standard : (width : ℕ) (switching : Bool) → Promised standard width switching
promised_standard width switching = promised standard standard_good standard_held width switching
