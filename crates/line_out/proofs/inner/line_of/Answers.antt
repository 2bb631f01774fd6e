-- `line_out::inner::line_of` meets its contract. Assumes nothing.
use Rattle.std.proofs.Common.{[], ◌∷◌, ◌++◌, ◌∙◌, List, ℕ, ap, arith, take, take_all}
use Rattle.line_out.specs.Shown.{coded, decimal, hexadecimal, line, newline, tab}
use Rattle.line_out.proofs.Holding.{joins}
use Rattle.line_out.proofs.Lining.{whole, line_most}
use Rattle.line_out.proofs.inner.line_of.Goals as goal

pub returns-clause-value : goal.returns-clause-value
returns-clause-value c =
    let s = c.args.s in
    let a = s.letter ∷ [] in
    let b = a ++ (tab ∷ coded s.code) in
    let d = b ++ (tab ∷ hexadecimal s.dit) in
    let e = d ++ (tab ∷ hexadecimal s.dah) in
    let f = e ++ (tab ∷ decimal s.serial) in
    let g = f ++ (tab ∷ decimal s.challengers) in
    let to_a = c.push.ensures ∙ ap (λ (l : List ℕ). take 80 (l ++ a)) c.new-line.ensures in
    let to_b = joins [] a (tab ∷ coded s.code) to_a c.put_code.ensures.put in
    let to_d = joins [] b (tab ∷ hexadecimal s.dit) to_b c.put_word.ensures in
    let to_e = joins [] d (tab ∷ hexadecimal s.dah) to_d c.put_word-2.ensures in
    let to_f = joins [] e (tab ∷ decimal s.serial) to_e c.put_number.ensures in
    let to_g = joins [] f (tab ∷ decimal s.challengers) to_f c.put_number-2.ensures in
    joins [] g (newline ∷ []) to_g c.push-2.ensures
    ∙ ap (take 80) (whole s)
    ∙ take_all 80 (line s) (omega (arith, line_most s c.put_code.ensures.small))

pub returns-clause-upper_bound : goal.returns-clause-upper_bound
returns-clause-upper_bound c = rw (returns-clause-value c) (line_most c.args.s c.put_code.ensures.small)
