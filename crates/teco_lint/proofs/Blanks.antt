-- Bytes of which some are spaces.
use Rattle.std.proofs.Common.{◌≡◌, ◌<◌, ◌≤◌, ℕ, ◌+◌, ◌-◌, List, [], ◌∷◌, ◌++◌, length, take, drop, replicate, sym, ap, ◌∙◌, arith, get_or}
use Rattle.std.specs.Prelude.{slice_set}
use Rattle.std.proofs.lemmas.List.{append-nil, append_assoc, drop_more, length-append, length-replicate, length-take-le, replicate-append-replicate, set_at, take-append-drop}
use Rattle.teco_lint.specs.Faults.{blanked}

-- none is
pub blanked_none : (from : ℕ) (xs : List ℕ) → xs ≡ blanked from (from - from) xs
blanked_none from xs =
    let none : 0 ≡ from - from = omega arith in
    let here : from ≡ from + 0 = omega arith in
    sym (take-append-drop from xs) ∙ ap (λ (ys : List ℕ). ys ++ drop from xs) (sym (append-nil (take from xs)))
    ∙ ap (λ (k : ℕ). take from xs ++ [] ++ drop k xs) here ∙ ap (λ (k : ℕ). blanked from k xs) none

-- one byte more
pub blanked_more : (from at : ℕ) (xs ys : List ℕ) → from ≤ at → at < length xs → ys ≡ blanked from (at - from) xs → slice_set ys at 32 ≡ blanked from (at + 1 - from) xs
blanked_more from at xs ys h l e =
    let n = at - from in
    let gap : List ℕ = replicate n 32 in
    let front : List ℕ = take from xs ++ gap in
    let here : from + n ≡ at = omega arith in
    let next : n + 1 ≡ at + 1 - from = omega arith in
    let after : at + 1 ≡ from + (at + 1 - from) = omega arith in
    let taken : length (take from xs) ≡ from = length-take-le from xs (omega arith) in
    let spaces : length gap ≡ n = length-replicate n 32 in
    let both : length front ≡ length (take from xs) + length gap = length-append (take from xs) gap in
    let long : length front ≡ at = both ∙ ap (λ (k : ℕ). k + length gap) taken ∙ ap (λ (k : ℕ). from + k) spaces ∙ here in
    let cut : drop (from + n) xs ≡ get_or xs at 0 ∷ drop (at + 1) xs = ap (λ (k : ℕ). drop k xs) here ∙ drop_more xs at 0 l in
    ap (λ (zs : List ℕ). slice_set zs at 32) (e ∙ ap (λ (zs : List ℕ). front ++ zs) cut)
    ∙ set_at front (get_or xs at 0) (drop (at + 1) xs) 32 at long
    ∙ sym (append_assoc front (32 ∷ []) (drop (at + 1) xs))
    ∙ ap (λ (zs : List ℕ). zs ++ drop (at + 1) xs) (append_assoc (take from xs) gap (32 ∷ []) ∙ ap (λ (zs : List ℕ). take from xs ++ zs) (replicate-append-replicate n 1 32))
    ∙ ap (λ (k : ℕ). take from xs ++ replicate k 32 ++ drop (at + 1) xs) next
    ∙ ap (λ (k : ℕ). take from xs ++ replicate (at + 1 - from) 32 ++ drop k xs) after
