-- A wrapper takes a bank from its plain form and hands back the plain form of its callee's. Assumes nothing.
use mathlib.Core.Path.{◌≡◌, refl, ap, sym, ◌∙◌, subst}
use mathlib.Core.List.{List, [], ◌∷◌, map}
use Prim.Native.Nat.{ℕ, zero, suc}
use lib.ListN.{take}
use Rattle.bank_model.specs.declared.Departure.{Departure}
use Rattle.tracker.specs.Model as Tracked
use Rattle.bank_model.specs.Model as Model
use Rattle.bank_model.specs.Model.{Told}
use Rattle.bank_model.specs.Steps as Steps
use Rattle.bank.specs.declared.TimingBank.{TimingBank}
use Rattle.bank.specs.declared.Changed.{Changed}
use Rattle.bank.specs.declared.inner.switch.Taken.{Taken}
use Rattle.bank.specs.View.{view, told}
use Rattle.bank.specs.Sturdy.{Sturdy}
use Rattle.bank.specs.Switching.{view_taken}
use Rattle.plain.specs.declared.PlainBank.{PlainBank}
use Rattle.plain.specs.declared.PlainDeparture.{PlainDeparture}
use Rattle.plain_tracker.specs.declared.PlainTracker.{PlainTracker}
use Rattle.plain_tracker.specs.Plain.{carried, plain_tracker, tracker_of}
use Rattle.plain_tracker.proofs.Carrying.{take_carried}
use Rattle.plain.specs.Plain.{bank_of, plain_bank, plain_departure, no_departure}
use Rattle.plain.proofs.Back.{bank_neat, bank_sturdy, bank_view}
use Rattle.exports.proofs.Handing.{form_view}
use Rattle.exports.specs.Bank.{Blank, Held, Neat, Tells, taken_to}

-- what holds of that which a plain form means holds of the bank that was read from it
pub read : (P : TimingBank → Type 0) {c : TimingBank} (b : PlainBank) → c ≡ bank_of b → P (bank_of b) → P c
read P b e h = subst P (sym e) h

-- a plain form means what its bank does, and is as sound
pub view_as : {q : PlainBank} (d : TimingBank) → q ≡ plain_bank d → view (bank_of q) ≡ view d
view_as d e = ap (λ (z : PlainBank). view (bank_of z)) e ∙ bank_view d

pub held : {q : PlainBank} (d : TimingBank) → q ≡ plain_bank d → Sturdy d → Held q
held d e h = subst Held (sym e) (bank_sturdy d h)

-- and no number stands in it that its bank has not
pub neat : (d : TimingBank) {q : PlainBank} → q ≡ plain_bank d → Neat q
neat d e = e ∙ sym (ap (λ (z : PlainBank). plain_bank (bank_of z)) e ∙ bank_neat d)

-- those that left are told in plain form too
pub left_is : (l : List Departure) {q : List PlainDeparture} (n : ℕ) → q ≡ carried plain_departure no_departure n l
    → take n q ≡ map plain_departure (take n l)
left_is l {q} n e = ap (take n) e ∙ take_carried plain_departure no_departure l n

-- and no others
carried_twice : (n : ℕ) (l : List Departure)
    → carried (λ d. d) no_departure n
    (carried plain_departure no_departure n l) ≡ carried plain_departure no_departure n l
unfolding carried
carried_twice n [] = refl
carried_twice zero (d ∷ l) = ap (λ (r : List PlainDeparture). no_departure ∷ r) (carried_twice zero l)
carried_twice (suc n) (d ∷ l) = ap (λ (r : List PlainDeparture). plain_departure d ∷ r) (carried_twice n l)

pub left_blank : (l : List Departure) {q : List PlainDeparture} (n : ℕ) → q ≡ carried plain_departure no_departure n l
    → Blank q n
left_blank l {q} n e = e ∙ sym (ap (carried (λ d. d) no_departure n) e ∙ carried_twice n l)

pub changed_is : (m : Changed) {q : PlainBank} {l : List PlainDeparture} {t : Told} → q ≡ plain_bank m.bank.bank
    → l ≡ carried plain_departure no_departure m.gone.left_len m.gone.left → told m ≡ t → Tells t q l m.gone.left_len
changed_is m {q} {l} e f s = record {
  bank = view_as m.bank.bank e ∙ ap (λ (z : Told). z.bank) s;
  left = left_is m.gone.left m.gone.left_len f ∙ ap (λ (z : Told). map plain_departure z.left) s;
}

abbrev a_taken : Model.Bank → Tracked.Tracker → Taken → Steps.Taken
a_taken b p t = record { bank = b; primary = p; serial = t.serial; switched = t.switched }

pub taken_is : (t : Taken) {q : PlainBank} {p : PlainTracker} → q ≡ plain_bank t.bank.bank
    → p ≡ plain_tracker t.primary.tracker
    → taken_to (record { bank = q; primary = p; serial = t.serial; switched = t.switched }) ≡ view_taken t
taken_is t {q} {p} e f =
    ap (λ (b : Model.Bank). a_taken b (Tracked.view (tracker_of p)) t) (view_as t.bank.bank e)
    ∙ ap (λ (m : Tracked.Tracker). a_taken (view t.bank.bank) m t) (form_view p t.primary.tracker f)
