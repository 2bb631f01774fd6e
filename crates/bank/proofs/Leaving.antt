-- A loop that keeps the challengers that no cause sends away, in order, each with its lead, notes the others, and finds
-- the choice: its invariant, where it begins, both turns, and where it ends. Assumes nothing.
use Rattle.std.proofs.Common.{
  ◌≡◌,
  ℕ,
  zero,
  suc,
  ◌+◌,
  ◌<◌,
  ◌≤◌,
  Bool,
  true,
  false,
  cond,
  List,
  [],
  ◌∷◌,
  ◌++◌,
  map,
  length,
  get_or,
  take,
  drop,
  set,
  sym,
  refl,
  ap,
  ◌∙◌,
  subst,
  append_assoc,
  true≢false,
  add-zero,
  add-one,
  arith,
  length-append,
  length-set,
  length-take-le,
  get_or-drop,
  take_all,
  take-suc,
  drop-drop,
  drop-set-lt,
}
use Rattle.std.specs.Prelude as Given
use Rattle.std.specs.Prelude.{None, Some}
use Rattle.std.specs.List.{AllByRecursion}
use mathlib.Core.Bool.{false≢true}
use mathlib.Core.Option.{Option, none, some}
use lib.ListN.{length-map, get_or-map}
use lib.Ieee.{Float}
use Rattle.ranges.specs.Settings.{standard}
use Rattle.pair.specs.Model.{held}
use Rattle.bank_model.specs.declared.Cause.{Cause}
use Rattle.bank_model.specs.declared.Departure.{Departure}
use Rattle.bank_model.specs.declared.departures.Departures.{Departures}
use Rattle.bank_model.specs.Departures.{widest, most_left}
use Rattle.bank_model.specs.Left.{those}
use Rattle.bank_model.specs.Model.{Hyp, Bank, Told, and_then, with_challengers}
use Rattle.bank_model.specs.Steps.{
  Best,
  Before,
  place,
  higher,
  highest_from,
  cause_at,
  stay_if,
  leave_if,
  staying,
  leaving,
  pruned_at,
  led,
  qualifies,
  qualified,
  leading,
  gone_cleared,
}
use Rattle.bank_model.proofs.Places.{highest_before}
use Rattle.bank_model.proofs.Padding.{listed_length}
use Rattle.bank_model.proofs.Departing.{few_leaving}
use Rattle.rival.specs.declared.TimingHypothesis.{TimingHypothesis}
use Rattle.rival.specs.View.{view_hyp}
use Rattle.rival.specs.Parts.{is_none, Fit}
use Rattle.bank.specs.declared.TimingBank.{TimingBank}
use Rattle.bank.specs.View.{view_all, view}
use Rattle.bank.specs.Sturdy.{Sturdy}
use Rattle.bank.proofs.Lists.{all_append, all_none, put_at_end, append-nil, map_snoc, view_length, view_at}
use Rattle.bank.proofs.Stock.{member, room, restocked}

-- ---- one more at the end
next : (l : List Hyp) (i : ℕ) (z : Hyp) → i < length l → take (i + 1) l ≡ take i l ++ (get_or l i z ∷ [])
next l i z h = rw add-one (take-suc l i z h)

module _ (f : Hyp → Option Cause) where
  stay_more : (o : Option Cause) (h : Hyp) (l m : List Hyp) → stay_if o h (l ++ m) ≡ stay_if o h l ++ m
  stay_more none h l m = refl
  stay_more (some c) h l m = refl

  leave_more : (o : Option Cause) (h : Hyp) (l m : List Departure) → leave_if o h (l ++ m) ≡ leave_if o h l ++ m
  leave_more none h l m = refl
  leave_more (some c) h l m = refl

  stay_snoc : (l : List Hyp) (x : Hyp) → staying f (l ++ (x ∷ [])) ≡ staying f l ++ stay_if (f x) x []
  unfolding staying
  stay_snoc [] x = refl
  stay_snoc (y ∷ ys) x = ap (stay_if (f y) y) (stay_snoc ys x) ∙ stay_more (f y) y (staying f ys) (stay_if (f x) x [])

  leave_snoc : (l : List Hyp) (x : Hyp) → leaving f (l ++ (x ∷ [])) ≡ leaving f l ++ leave_if (f x) x []
  unfolding leaving
  leave_snoc [] x = refl
  leave_snoc (y ∷ ys) x = ap (leave_if (f y) y) (leave_snoc ys x)
      ∙ leave_more (f y) y (leaving f ys) (leave_if (f x) x [])

  pub stay_next : (l : List Hyp) (i : ℕ) (z x : Hyp) → i < length l → get_or l i z ≡ x → staying f (take (i + 1) l)
      ≡ staying f (take i l) ++ stay_if (f x) x []
  stay_next l i z x h e = ap (staying f) (next l i z h) ∙ stay_snoc (take i l) (get_or l i z)
      ∙ ap (λ (y : Hyp). staying f (take i l) ++ stay_if (f y) y []) e

  pub leave_next : (l : List Hyp) (i : ℕ) (z x : Hyp) → i < length l → get_or l i z ≡ x → leaving f (take (i + 1) l)
      ≡ leaving f (take i l) ++ leave_if (f x) x []
  leave_next l i z x h e = ap (leaving f) (next l i z h) ∙ leave_snoc (take i l) (get_or l i z)
      ∙ ap (λ (y : Hyp). leaving f (take i l) ++ leave_if (f y) y []) e

  none_stay : staying f [] ≡ []
  unfolding staying
  none_stay = refl

  none_leave : leaving f [] ≡ []
  unfolding leaving
  none_leave = refl

no_cause : (o : Option Cause) → is_none o ≡ true → o ≡ none
no_cause none e = refl
no_cause (some c) e = absurd (false≢true e)

-- a search that goes on by one
highest_snoc : (q : Hyp → Bool) (i : ℕ) (acc : Best) (l : List Hyp) (x : Hyp) → highest_from q i acc (l ++ (x ∷ []))
    ≡ cond (q x) (higher (i + length l) x.score (highest_from q i acc l)) (highest_from q i acc l)
unfolding highest_from
highest_snoc q i acc [] x = ap (λ (n : ℕ). cond (q x) (higher n x.score acc) acc) (sym (add-zero i))
highest_snoc q i acc (y ∷ l) x =
    let a : Best = cond (q y) (higher i y.score acc) acc in
    let e : suc i + length l ≡ i + suc (length l) = omega arith in
    highest_snoc q (suc i) a l x
    ∙ ap (λ (n : ℕ). cond (q x) (higher n x.score (highest_from q (suc i) a l)) (highest_from q (suc i) a l)) e

none_found : (q : Hyp → Bool) → None ≡ highest_from q 0 None []
unfolding highest_from
none_found q = refl

-- ---- how many of the first i leave
module _ (f : Hyp → Option Cause) where
  some_leave : (o : Option Cause) (h : Hyp) (a b : List Departure) → length a ≤ length b
      → length (leave_if o h a) ≤ length (leave_if o h b)
  some_leave none h a b e = e
  some_leave (some c) h a b e = omega arith

  pub part_leaves : (l : List Hyp) (i : ℕ) → length (leaving f (take i l)) ≤ length (leaving f l)
  unfolding leaving
  part_leaves l zero = omega arith
  part_leaves [] (suc i) = omega arith
  part_leaves (h ∷ l) (suc i) = some_leave (f h) h (leaving f (take i l)) (leaving f l) (part_leaves l i)

  one_leaves : (o : Option Cause) (h : Hyp) → is_none o ≡ false → length (leave_if o h []) ≡ 1
  one_leaves none h e = absurd (true≢false e)
  one_leaves (some c) h e = refl

  pub room_to_leave : (l : List Hyp) (i : ℕ) (z x : Hyp) → i < length l → get_or l i z ≡ x → is_none (f x) ≡ false
      → length (leaving f (take i l)) + 1 ≤ length (leaving f l)
  room_to_leave l i z x h e n =
      let a = ap length (leave_next f l i z x h e) in
      let b = length-append (leaving f (take i l)) (leave_if (f x) x []) in
      let d = one_leaves (f x) x n in
      let k = part_leaves l (i + 1) in
      omega arith

-- ---- the loop: of the crowd, i were looked at, w of them stay, each sent through u, and the others left behind gone₀;
-- best is the choice among those that q picks
module _ (f : Hyp → Option Cause) (u : Hyp → Hyp) (q : Hyp →
    Bool) (crowd : List Hyp) (b : TimingBank) (gone₀ : List Departure) where
  pub record Sifting (c : TimingBank) (gone : Departures) (best : Best) (w i : ℕ) : Type 0 where
    pub upto : i ≤ b.challengers_len
    pub behind : w ≤ i
    pub same : c ≡ restocked b c.challengers
    pub front : view_all w c.challengers ≡ map u (staying f (take i crowd))
    pub choice : best ≡ highest_from q 0 None (view_all w c.challengers)
    pub rest : drop i c.challengers ≡ drop i b.challengers
    pub left : those gone ≡ gone₀ ++ leaving f (take i crowd)
    pub long : length c.challengers ≡ widest
    pub space : length (gone₀ ++ leaving f crowd) ≤ most_left
    pub fine : AllByRecursion Fit (take w c.challengers)
    pub sturdy : Sturdy b
    pub many : length crowd ≡ b.challengers_len

  pub sift_begins : (gone : Departures) → length crowd ≡ b.challengers_len → Sturdy b → those gone ≡ gone₀
      → length (gone₀ ++ leaving f crowd) ≤ most_left → Sifting b gone None 0 0
  sift_begins gone y s k r = record {
    upto = omega arith;
    behind = omega arith;
    same = refl;
    front = sym (ap (map u) (none_stay f));
    choice = none_found q;
    rest = refl;
    left = k ∙ sym (ap (λ (l : List Departure). gone₀ ++ l) (none_leave f) ∙ append-nil gone₀);
    long = s.crew.long;
    space = r;
    fine = all_none Fit;
    sturdy = s;
    many = y;
  }

  module _ (c : TimingBank) (gone : Departures) (best : Best) (w i : ℕ) (z : TimingHypothesis)
      (k : Sifting c gone best w i) (h : i < b.challengers_len) where
    abbrev here : TimingHypothesis
    here = get_or c.challengers i z

    pub sift_here : here ≡ get_or b.challengers i z
    sift_here =
        let e : get_or (drop i c.challengers) 0 z ≡ get_or (drop i b.challengers) 0 z =
        ap (λ (l : List TimingHypothesis). get_or l 0 z) k.rest in
        simp (get_or-drop, add-zero) at e

    size : i < length crowd
    size = let e = k.many in omega arith

    after : drop (i + 1) c.challengers ≡ drop (i + 1) b.challengers
    after = sym (drop-drop 1 i c.challengers) ∙ ap (drop 1) k.rest ∙ drop-drop 1 i b.challengers

    pub sift_member : Fit here
    sift_member = subst Fit (sym sift_here) (member b.challengers_len b.challengers i z h k.sturdy.crew)

    -- the one that is looked at is it
    module _ (it : TimingHypothesis) (o : Hyp) (seen : get_or crowd i o ≡ view_hyp it) where
      stays : is_none (f (view_hyp it)) ≡ true → staying f (take i crowd) ++ (view_hyp it ∷ [])
          ≡ staying f (take (i + 1) crowd)
      stays t =
          ap (λ (o : Option Cause). staying f (take i crowd)
          ++ stay_if o (view_hyp it) []) (sym (no_cause (f (view_hyp it)) t))
          ∙ sym (stay_next f crowd i o (view_hyp it) size seen)

      -- it stays, as e
      module _ (e : TimingHypothesis) (r : (view_hyp e ≡ u (view_hyp it)) × Fit e) (t : is_none (f (view_hyp it))
          ≡ true) where
        abbrev more : List TimingHypothesis
        more = set c.challengers w e

        room_there : w < length c.challengers
        room_there =
            let n = k.sturdy.crew.few in
            let m = k.behind in
            let l = k.long in
            omega arith

        at_end : take (w + 1) more ≡ take w c.challengers ++ (e ∷ [])
        at_end = put_at_end c.challengers w e room_there

        viewed : view_all (w + 1) more ≡ view_all w c.challengers ++ (view_hyp e ∷ [])
        viewed = ap (map view_hyp) at_end ∙ map_snoc view_hyp (take w c.challengers) e

        chosen : (best' : Best) → best' ≡ cond (q (view_hyp e)) (higher w e.score best) best → best'
            ≡ highest_from q 0 None (view_all (w + 1) more)
        chosen best' y =
            let l = view_length view_hyp w c.challengers (let j = room_there in omega arith) in
            let n : w ≡ 0 + length (view_all w c.challengers) = omega arith in
            y ∙ ap (λ (x : Best). cond (q (view_hyp e)) (higher w e.score x) x) k.choice
            ∙ ap (λ (j : ℕ). cond (q (view_hyp e)) (higher j e.score (highest_from q 0 None (view_all w c.challengers)))
            (highest_from q 0 None (view_all w c.challengers))) n
            ∙ sym (highest_snoc q 0 None (view_all w c.challengers) (view_hyp e))
            ∙ ap (highest_from q 0 None) (sym viewed)

        pub sift_keeps : (best' : Best) → best' ≡ cond (q (view_hyp e)) (higher w e.score best) best →
            Sifting (restocked c more) gone best' (w + 1) (i + 1)
        sift_keeps best' y =
            let m = k.behind in
            let s : List Hyp = staying f (take i crowd) in
            let as_many : leaving f (take i crowd) ≡ leaving f (take (i + 1) crowd) =
            sym (append-nil (leaving f (take i crowd)))
            ∙ ap (λ (x : Option Cause). leaving f (take i crowd)
            ++ leave_if x (view_hyp it) []) (sym (no_cause (f (view_hyp it)) t))
            ∙ sym (leave_next f crowd i o (view_hyp it) size seen) in
            record {
              upto = omega arith;
              behind = omega arith;
              same = ap (λ (x : TimingBank). restocked x more) k.same;
              front =
                  viewed ∙ ap (λ (l : List Hyp). l ++ (view_hyp e ∷ [])) k.front
                  ∙ ap (λ (x : Hyp). map u s ++ (x ∷ [])) r.0
                  ∙ sym (map_snoc u s (view_hyp it)) ∙ ap (map u) (stays t);
              choice = chosen best' y;
              rest = drop-set-lt (i + 1) c.challengers w e (omega arith) ∙ after;
              left = k.left ∙ ap (λ (l : List Departure). gone₀ ++ l) as_many;
              long = length-set c.challengers w e ∙ k.long;
              space = k.space;
              fine = subst (AllByRecursion Fit) (sym at_end) (all_append Fit (take w c.challengers) e k.fine r.1);
              sturdy = k.sturdy;
              many = k.many;
            }

      -- one that leaves has a place among those that left
      pub sift_room : is_none (f (view_hyp it)) ≡ false → gone.left_len < most_left
      sift_room n =
          let a = length-append gone₀ (leaving f (take i crowd)) in
          let d = length-append gone₀ (leaving f crowd) in
          let e = room_to_leave f crowd i o (view_hyp it) size seen n in
          let l = ap length k.left in
          let m = listed_length gone.left gone.left_len gone.listed in
          let j = k.space in
          omega arith

      pub sift_drops : (y : Departure) (more : Departures) → (y.serial ≡ it.serial) × (some y.cause ≡ f (view_hyp it)) →
          those more ≡ those gone ++ (y ∷ []) → Sifting c more best w (i + 1)
      sift_drops y more e n =
          let told : those gone ++ (y ∷ []) ≡ those gone ++ leave_if (f (view_hyp it)) (view_hyp it) [] =
          ap (λ (x : ℕ). those gone ++ (record { serial = x; cause = y.cause } ∷ [])) e.0
          ∙ ap (λ (o : Option Cause). those gone ++ leave_if o (view_hyp it) []) e.1 in
          record {
            upto = omega arith;
            behind = let a = k.behind in omega arith;
            same = k.same;
            front =
                k.front ∙ ap (map u)
                (sym (append-nil (staying f (take i crowd)))
                ∙ ap (λ (o : Option Cause). staying f (take i crowd) ++ stay_if o (view_hyp it) []) e.1
                ∙ sym (stay_next f crowd i o (view_hyp it) size seen));
            choice = k.choice;
            rest = after;
            left =
                n ∙ told ∙ ap (λ (l : List Departure). l ++ leave_if (f (view_hyp it)) (view_hyp it) []) k.left
                ∙ append_assoc gone₀ (leaving f (take i crowd)) (leave_if (f (view_hyp it)) (view_hyp it) [])
                ∙ ap (λ (l : List Departure). gone₀ ++ l) (sym (leave_next f crowd i o (view_hyp it) size seen));
            long = k.long;
            space = k.space;
            fine = k.fine;
            sturdy = k.sturdy;
            many = k.many;
          }

-- the crowd is as many as the challengers
pub sift_many : (b : TimingBank) → Sturdy b → length (view b).challengers ≡ b.challengers_len
sift_many b s = view_length view_hyp b.challengers_len b.challengers (room b.challengers_len b.challengers s.crew)

pub heard_many : (m : Hyp → Hyp) (b : TimingBank) → Sturdy b → length (map m (view b).challengers) ≡ b.challengers_len
heard_many m b s = length-map (view b).challengers m ∙ sift_many b s

-- there are fewer challengers than the widest bank has places for
pub crew_few : (b : TimingBank) → b.width ≤ widest → b.challengers_len < b.width → b.challengers_len ≤ most_left
crew_few b wide below = omega arith

pub crew_few_sturdy : (b : TimingBank) → Sturdy b → b.challengers_len ≤ most_left
crew_few_sturdy b s = crew_few b s.wide s.below

-- as many as there are challengers may leave
pub few_heard : (f : Hyp → Option Cause) (b : TimingBank) (crowd : List Hyp) → Sturdy b
    → length crowd ≡ b.challengers_len → length (leaving f crowd) ≤ most_left
few_heard f b crowd s e =
    let n = few_leaving f crowd in
    let k = crew_few_sturdy b s in
    omega arith

module _ (f : Hyp → Option Cause) (u : Hyp → Hyp) (q : Hyp →
    Bool) (b : TimingBank) (gone₀ : List Departure) (c : TimingBank) (gone : Departures) (best : Best) (w i : ℕ)
    (z : TimingHypothesis) where
  abbrev it : TimingHypothesis
  it = get_or c.challengers i z

  -- the crowd is the challengers as they stand
  module _ (k : Sifting f u q (view b).challengers b gone₀ c gone best w i) (h : i < b.challengers_len) where
    seen : get_or (view b).challengers i (view_hyp z) ≡ view_hyp it
    seen = view_at view_hyp b.challengers_len b.challengers i z h
        ∙ ap view_hyp (sym (sift_here f u q (view b).challengers b gone₀ c gone best w i z k h))

    pub keeps_here : (e : TimingHypothesis) → (view_hyp e ≡ u (view_hyp it)) × Fit e → is_none (f (view_hyp it))
        ≡ true → (best' : Best) → best' ≡ cond (q (view_hyp e)) (higher w e.score best) best →
        Sifting f u q (view b).challengers b gone₀ (restocked c (set c.challengers w e)) gone best' (w + 1) (i + 1)
    keeps_here = sift_keeps f u q (view b).challengers b gone₀ c gone best w i z k h it (view_hyp z) seen

    pub room_here : is_none (f (view_hyp it)) ≡ false → gone.left_len < most_left
    room_here = sift_room f u q (view b).challengers b gone₀ c gone best w i z k h it (view_hyp z) seen

    pub drops_here : (y : Departure) (more : Departures) → (y.serial ≡ it.serial) × (some y.cause ≡ f (view_hyp it)) →
        those more ≡ those gone ++ (y ∷ []) → Sifting f u q (view b).challengers b gone₀ c more best w (i + 1)
    drops_here = sift_drops f u q (view b).challengers b gone₀ c gone best w i z k h it (view_hyp z) seen

  -- the crowd is the challengers, each sent through m; this one is n then
  module _ (m : Hyp →
      Hyp) (k : Sifting f u q (map m (view b).challengers) b gone₀ c gone best w i) (h : i < b.challengers_len)
      (n : TimingHypothesis) (s : view_hyp n ≡ m (view_hyp it)) where
    heard : get_or (map m (view b).challengers) i (m (view_hyp z)) ≡ view_hyp n
    heard =
        get_or-map m (view b).challengers i (view_hyp z)
        ∙ ap m (view_at view_hyp b.challengers_len b.challengers i z h
        ∙ ap view_hyp (sym (sift_here f u q (map m (view b).challengers) b gone₀ c gone best w i z k h)))
        ∙ sym s

    pub keeps_heard : (e : TimingHypothesis) → (view_hyp e ≡ u (view_hyp n)) × Fit e → is_none (f (view_hyp n)) ≡ true →
        (best' : Best) → best' ≡ cond (q (view_hyp e)) (higher w e.score best) best →
        Sifting f u q (map m (view b).challengers) b gone₀ (restocked c (set c.challengers w e)) gone best' (w + 1)
        (i + 1)
    keeps_heard = sift_keeps f u q (map m (view b).challengers) b gone₀ c gone best w i z k h n (m (view_hyp z)) heard

    pub room_heard : is_none (f (view_hyp n)) ≡ false → gone.left_len < most_left
    room_heard = sift_room f u q (map m (view b).challengers) b gone₀ c gone best w i z k h n (m (view_hyp z)) heard

    pub drops_heard : (y : Departure) (more : Departures) → (y.serial ≡ n.serial) × (some y.cause ≡ f (view_hyp n)) →
        those more ≡ those gone ++ (y ∷ []) → Sifting f u q (map m (view b).challengers) b gone₀ c more best w (i + 1)
    drops_heard = sift_drops f u q (map m (view b).challengers) b gone₀ c gone best w i z k h n (m (view_hyp z)) heard

-- a bank with another count and another choice
abbrev pub counted : TimingBank → ℕ → Given.Option ℕ → TimingBank
counted c w o = record {
  width = c.width;
  switching = c.switching;
  primary_score = c.primary_score;
  primary_gap_score = c.primary_gap_score;
  challengers = c.challengers;
  challengers_len = w;
  streak = c.streak;
  streak_len = c.streak_len;
  streak_gaps = c.streak_gaps;
  streak_gaps_len = c.streak_gaps_len;
  streak_side = c.streak_side;
  last_gap = c.last_gap;
  marks_seen = c.marks_seen;
  gaps_seen = c.gaps_seen;
  pending = o;
  log = c.log;
  log_len = c.log_len;
  started = c.started;
}

abbrev with_choice : Bank → List Hyp → Option ℕ → Bank
with_choice b l o = record {
  width = b.width;
  switching = b.switching;
  score = b.score;
  gap_score = b.gap_score;
  challengers = l;
  evidence = b.evidence;
  marks = b.marks;
  gaps = b.gaps;
  pending = o;
  log = b.log;
  started = b.started;
}

-- the place of the choice that was found
held_before : (o : Given.Option ℕ) (v : Best) (w : ℕ) → held o ≡ place v → Before w v → Given.IfSome o (λ i. i < w)
held_before None v w e h = tt
held_before (Some i) None w e h = cc
held_before (Some i) (Some f) w e h = let d : i ≡ f.0 = cc in rw d h

module _ (lo hi : Float) (crowd : List Hyp) (b : TimingBank) (gone₀ : List Departure) (c : TimingBank)
    (gone : Departures) (best : Best) (w i : ℕ)
    (k : Sifting (cause_at standard b.primary_score lo hi) (led standard b.primary_score)
    (qualifies b.primary_gap_score) crowd b gone₀ c gone best w i) (h : b.challengers_len ≤ i) where
  abbrev f : Hyp → Option Cause
  f = cause_at standard b.primary_score lo hi

  abbrev u : Hyp → Hyp
  u = led standard b.primary_score

  abbrev q : Hyp → Bool
  q = qualifies b.primary_gap_score

  whole : take i crowd ≡ crowd
  whole = let e = k.many in take_all i crowd (omega arith)

  -- the bank with the crowd in it, and those that had left it
  abbrev met : Told
  met = record { bank = with_challengers (view b) crowd; left = gone₀ }

  abbrev kept : List Hyp
  kept = map u (staying f crowd)

  they : view_all w c.challengers ≡ kept
  they = k.front ∙ ap (λ (l : List Hyp). map u (staying f l)) whole

  pub sift_told : (o : Given.Option ℕ) → held o ≡ place best → record { bank = view (counted c w o); left = those gone }
      ≡ leading standard (and_then met (pruned_at standard lo hi))
  unfolding pruned_at qualified
  sift_told o e =
      ap (λ (x : TimingBank). record { bank = view (counted x w o); left = those gone }) k.same
      ∙ ap (λ (l : List Hyp). record { bank = with_choice (view b) l (held o); left = those gone }) they
      ∙ ap (λ (p : Option ℕ). record { bank = with_choice (view b) kept p; left = those gone })
      (e ∙ ap place (k.choice ∙ ap (highest_from q 0 None) they))
      ∙ ap (λ (l : List Departure). record {
        bank = with_choice (view b) kept (place (highest_from q 0 None kept));
        left = l;
      })
      (k.left ∙ ap (λ (l : List Hyp). gone₀ ++ leaving f l) whole)

  sift_before : Before w best
  sift_before =
      let s = k.sturdy.crew.few in
      let m = k.behind in
      let v = k.upto in
      let l = k.long in
      let z = view_length view_hyp w c.challengers (omega arith) in
      let e : 0 + length (view_all w c.challengers) ≡ w = omega arith in
      subst (Before w) (sym k.choice)
      (subst (λ (n : ℕ). Before n (highest_from q 0 None (view_all w c.challengers))) e
      (highest_before q 0 None (view_all w c.challengers) tt))

  pub sift_sturdy : (o : Given.Option ℕ) → held o ≡ place best → Sturdy (counted c w o)
  sift_sturdy o d =
      let s = k.sturdy in
      let m = s.below in
      let t = s.crew.few in
      let a = k.behind in
      let v = k.upto in
      subst (λ (x : TimingBank). Sturdy (counted x w o)) (sym k.same) (record {
        wide_enough = s.wide_enough;
        wide = s.wide;
        below = omega arith;
        crew = record { few = omega arith; long = k.long; each = k.fine };
        score = s.score;
        score_gap = s.score_gap;
        streaks = s.streaks;
        last_gap = s.last_gap;
        log = s.log;
        pending = held_before o best w d sift_before;
      })

-- ---- a loop that notes all of them: the first i are noted
module _ (b : TimingBank) where
  pub record Noting (left : Departures) (i : ℕ) : Type 0 where
    pub upto : i ≤ b.challengers_len
    pub sturdy : Sturdy b
    pub is : those left ≡ map gone_cleared (take i (view b).challengers)

  pub note_begins : (left : Departures) → those left ≡ [] → Sturdy b → Noting left 0
  note_begins left r s = record { upto = omega arith; sturdy = s; is = r }

  -- a place of those that there are
  below : (i : ℕ) → Sturdy b → i < length (take b.challengers_len b.challengers) → i < b.challengers_len
  below i s h = let r = room b.challengers_len b.challengers s.crew in let e =
      length-take-le b.challengers_len b.challengers r in omega arith

  pub note_room : (left : Departures) (i : ℕ) → i < length (take b.challengers_len b.challengers) → Noting left i →
      left.left_len < most_left
  note_room left i h k =
      let s = k.sturdy in
      let j = below i s h in
      let n = crew_few_sturdy b s in
      let v = sift_many b s in
      let e : length (map gone_cleared (take i (view b).challengers)) ≡ i =
      view_length gone_cleared i (view b).challengers (omega arith) in
      let l = ap length k.is in
      let m = listed_length left.left left.left_len left.listed in
      omega arith

  pub note_turns : (left more : Departures) (i : ℕ) (z : TimingHypothesis) →
      i < length (take b.challengers_len b.challengers) → Noting left i
      → those more ≡ those left ++ (gone_cleared (view_hyp (get_or (take b.challengers_len b.challengers) i z)) ∷ []) →
      Noting more (i + 1)
  note_turns left more i z h k r =
      let v = sift_many b k.sturdy in
      let j = below i k.sturdy h in
      let l = (view b).challengers in
      let m : view_hyp (get_or (take b.challengers_len b.challengers) i z) ≡ get_or l i (view_hyp z) =
      sym (get_or-map view_hyp (take b.challengers_len b.challengers) i z) in
      record {
        upto = omega arith;
        sturdy = k.sturdy;
        is =
            r ∙ ap (λ (x : List Departure). x
            ++ (gone_cleared (view_hyp (get_or (take b.challengers_len b.challengers) i z)) ∷ [])) k.is
            ∙ ap (λ (x : Hyp). map gone_cleared (take i l) ++ (gone_cleared x ∷ [])) m
            ∙ sym (map_snoc gone_cleared (take i l) (get_or l i (view_hyp z)))
            ∙ ap (map gone_cleared) (sym (next l i (view_hyp z) (omega arith)));
      }

  pub note_ends : (left : Departures) (i : ℕ) → b.challengers_len ≤ i → Noting left i → those left
      ≡ map gone_cleared (view b).challengers
  note_ends left i h k =
      let v = sift_many b k.sturdy in
      k.is ∙ ap (map gone_cleared) (take_all i (view b).challengers (omega arith))
