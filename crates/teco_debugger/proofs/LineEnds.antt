-- Lines that end.
use Rattle.std.proofs.Common.{◌≡◌, ◌∙◌, ℕ, ◌-◌, ◌<◌, ◌≤◌, ◌++◌, ◌∷◌, [], List, length, get_or, refl, sym, ap, arith, length-append, append_assoc, nat_lt}
use Rattle.std.proofs.lemmas.Bool.{lt-ltb}
use Rattle.std.proofs.lemmas.List.{get_or-append_right}
use Rattle.std.specs.Prelude.{Bool, true, false, ◌&&◌, ◌==◌, if◌then◌else◌}
use Rattle.teco_debugger.specs.Listing.{is_line_ended, with_line_end}

last_of : (old t : List ℕ) → 0 < length t → get_or (old ++ t) (length (old ++ t) - 1) 0 ≡ get_or t (length t - 1) 0
last_of old t some =
    let size = length-append old t in
    let from : length old ≤ length (old ++ t) - 1 = omega (arith, size, some) in
    let at : (length (old ++ t) - 1) - length old ≡ length t - 1 = omega (arith, size, some) in
    get_or-append_right old t (length old) (length (old ++ t) - 1) 0 refl from ∙ ap (λ i. get_or t i 0) at

ended_same : (old t : List ℕ) → 0 < length t → is_line_ended (old ++ t) ≡ is_line_ended t
ended_same old t some =
    let size = length-append old t in
    let both : 0 < length (old ++ t) = omega (arith, size, some) in
    ap (λ b. b && get_or (old ++ t) (length (old ++ t) - 1) 0 == 10) (lt-ltb 0 (length (old ++ t)) both ∙ sym (lt-ltb 0 (length t) some))
    ∙ ap (λ n. nat_lt 0 (length t) && n == 10) (last_of old t some)

choose : (b : Bool) (old t : List ℕ) → (if b then old ++ t else (old ++ t) ++ 10 ∷ []) ≡ old ++ (if b then t else t ++ 10 ∷ [])
choose true old t = refl
choose false old t = append_assoc old t (10 ∷ [])

-- what was shown before does not matter to the end
pub end_after : (old t : List ℕ) → 0 < length t → with_line_end (old ++ t) ≡ old ++ with_line_end t
end_after old t some = ap (λ b. if b then old ++ t else (old ++ t) ++ 10 ∷ []) (ended_same old t some) ∙ choose (is_line_ended t) old t

pub marked_is_some : (a mark b : List ℕ) → 0 < length mark → 0 < length (a ++ mark ++ b)
marked_is_some a mark b some = omega (arith, some, length-append (a ++ mark) b, length-append a mark)
