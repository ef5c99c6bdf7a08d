-- A room of calls that is filled from its front, one more.
use Rattle.std.proofs.Common.{◌≡◌, ℕ, ◌+◌, ◌-◌, ◌<◌, List, [], ◌∷◌, ◌++◌, length, take, drop, set, get_or, sym, ◌∙◌, ap, arith, append_assoc}
use Rattle.std.proofs.lemmas.List.{drop_more, length-take-le, set-append_right, take_more}
use Rattle.teco_ffi.specs.declared.frames.OpenCall.{OpenCall}

pub one_more : (ys room : List OpenCall) (k : ℕ) (y : OpenCall) → k < length ys → k < length room → y ≡ get_or ys k y → set (take k ys ++ drop k room) k y ≡ take (k + 1) ys ++ drop (k + 1) room
one_more ys room k y lt there is =
    let front : length (take k ys) ≡ k = length-take-le k ys (omega arith) in
    let none : k - k ≡ 0 = omega arith in
    set-append_right (take k ys) (drop k room) k k y front (omega arith)
    ∙ ap (λ (i : ℕ). take k ys ++ set (drop k room) i y) none
    ∙ ap (λ (l : List OpenCall). take k ys ++ set l 0 y) (drop_more room k y there)
    ∙ sym (append_assoc (take k ys) (y ∷ []) (drop (k + 1) room))
    ∙ ap (λ (l : List OpenCall). l ++ drop (k + 1) room) (ap (λ (z : OpenCall). take k ys ++ z ∷ []) is ∙ sym (take_more ys k y lt))
