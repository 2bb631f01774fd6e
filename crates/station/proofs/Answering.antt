-- How a call answers: the new state, or the old one and a refusal. Assumes nothing.
use mathlib.Core.Path.{◌≡◌, ap, sym, ◌∙◌, subst}
use mathlib.Core.List.{List, [], map, map-map}
use lib.ListN.{length, take}
use lib.Seq.{length-take-le}
use native.Mathlib.Omega.{arith}
use Rattle.refusals.specs.declared.Refusal.{Refusal}
use Rattle.refusals.specs.Refusal.{number as number_of}
use Rattle.ranges.specs.Settings.{standard}
use Rattle.rival.specs.declared.TimingHypothesis.{TimingHypothesis}
use Rattle.rival.specs.View.{view_hyp}
use Rattle.bank_model.specs.declared.departures.Departures.{Departures}
use Rattle.bank_model.specs.Departures.{most_left}
use Rattle.bank_model.specs.Left.{those}
use Rattle.bank_model.proofs.Padding.{pad_length}
use Rattle.station_model.specs.declared.Event.{Event}
use Rattle.station_model.specs.declared.Code.TheVariants.{Refused}
use Rattle.station_model.specs.Station.{number, taken, acted, accepted}
use Rattle.station_model.specs.Station as Model
use Rattle.station.specs.declared.Station.{Station}
use Rattle.station.specs.declared.Outcome.{Outcome}
use Rattle.station.specs.View.{view}
use Rattle.station.specs.Parts.{Booked, Solid, Stands, NoOneLeft}
use Rattle.station.specs.Answers.{call_refusal, Called, glimpse}
use Rattle.station_model.proofs.Naming.{numbered}
use Rattle.station.proofs.Sounding.{solid_sound}
use Rattle.station.proofs.Keeping.{booked_accepted, step_accepted}
use Rattle.station.proofs.Refusing.{accepted_of, accepted_open, accepted_refusal}

-- where no one left, none is counted
none_counted : (d : Departures) → those d ≡ [] → d.left_len ≡ 0
none_counted d e =
    let long : length d.left ≡ most_left = ap length d.listed.whole ∙ pad_length most_left (take d.left_len d.left) in
    omega (arith, d.listed.few, ap length e, length-take-le d.left_len d.left)

-- ---- a call that is accepted, and one that is refused
module _ (s : Station) (e : Event) (r : Outcome) where
  pub answers : call_refusal standard s e ≡ 0 → Solid s → Stands r (accepted (view s) (acted standard (view s) e))
      → Called standard s e r × Solid r.station
  answers z k d =
      let a = accepted_of s e z in
      let kept = booked_accepted standard (view s) e (accepted_open s e a).accepted k.books in
      let books : Booked (view r.station) = subst Booked (sym (ap (λ (x : Model.Outcome). x.station) d.is)) kept in
      let solid : Solid r.station = record { primary = d.primary; bank = d.bank; books = books } in (
        record {
          says = λ h. absurd (h z);
          kept = λ h. absurd (h z);
          state = λ h. d.is ∙ step_accepted standard (view s) e (accepted_refusal s e a);
          still = λ h. solid_sound r.station solid;
        },
        solid,
      )

  module _ (why : Refusal) (q : number_of why ≡ call_refusal standard s e) (d : NoOneLeft s (Refused why) r) where
    pub answers_not : Called standard s e r
    answers_not =
        let n = (numbered why).some in
        record {
          says = λ z. (ap taken d.code, ap number d.code ∙ q);
          kept = λ z. (d.station, none_counted r.answer.gone d.none);
          state = λ z. absurd (omega arith);
          still = λ z. absurd (omega arith);
        }

    pub answers_kept : Solid s → Called standard s e r × Solid r.station
    answers_kept k = (answers_not, subst Solid (sym d.station) k)

-- what is shown of each
pub glimpse_all : (l : List TimingHypothesis) → map glimpse (map view_hyp l) ≡ map (λ h. glimpse (view_hyp h)) l
glimpse_all l = simp map-map
