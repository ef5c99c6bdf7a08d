-- A room that is filled with one text and then, behind it, with another is filled with the two.
use Rattle.std.proofs.Common.{◌≡◌, ℕ, List, [], ◌∷◌, ◌++◌, length, take, drop, min, refl, sym, ap, ap₂, ◌∙◌, subst, arith}
use Rattle.std.proofs.lemmas.List.{append-nil, drop_all, drop_at, length-take-le, take_at}
use native.Mathlib.Numerals.{unary_clauses}
use Rattle.teco_ffi.specs.Rooms.{filled}

none_at : (n : ℕ) → min n 0 ≡ 0
none_at n = omega arith

none : (ys : List ℕ) → filled [] ys ≡ []
none ys = subst (λ (k : ℕ). take k ys ++ drop k [] ≡ []) (sym (none_at (length ys))) refl

at_none : (n : ℕ) → min 0 n ≡ 0
at_none n = omega arith

pub filled_nothing : (room : List ℕ) → filled room [] ≡ room
filled_nothing room = ap (λ (k : ℕ). take k [] ++ drop k room) (at_none (length room))

pub filled_halves : (room a b : List ℕ) → filled (take (min (length a) (length room)) room) a ++ filled (drop (min (length a) (length room)) room) b ≡ filled room (a ++ b)
filled_halves [] [] b = refl
filled_halves (r ∷ room) [] b =
    subst (λ (k : ℕ). filled (take k (r ∷ room)) [] ++ filled (drop k (r ∷ room)) b ≡ filled (r ∷ room) b) (sym (at_none (length (r ∷ room)))) refl
filled_halves [] (x ∷ a) b =
    subst (λ (k : ℕ). filled (take k []) (x ∷ a) ++ filled (drop k []) b ≡ filled [] (x ∷ (a ++ b))) (sym (none_at (length (x ∷ a))))
    (ap (λ (l : List ℕ). l ++ filled [] b) (none (x ∷ a)) ∙ none b ∙ sym (none (x ∷ (a ++ b))))
filled_halves (r ∷ room) (x ∷ a) b = simp unary_clauses (ap (λ (l : List ℕ). x ∷ l) (filled_halves room a b))

-- What comes behind the bytes of a room that is filled with them fills it on.
pub filled_more : (room a b : List ℕ) (n : ℕ) → n ≡ min (length a) (length room) → take n (filled room a) ++ filled (drop n (filled room a)) b ≡ filled room (a ++ b)
filled_more room a b n is =
    let front = take n a in
    let long : length front ≡ n = length-take-le n a (omega arith) in
    let there : length (take n room) ≡ n = length-take-le n room (omega arith) in
    let all : filled room a ≡ front ++ drop n room = ap (λ (k : ℕ). take k a ++ drop k room) (sym is) in
    let first : take n (filled room a) ≡ front = ap (take n) all ∙ take_at front (drop n room) n long in
    let rest : drop n (filled room a) ≡ drop n room = ap (drop n) all ∙ drop_at front (drop n room) n long in
    let none : drop n (take n room) ≡ [] = drop_all n (take n room) (omega arith) in
    let same : min (length a) (length (take n room)) ≡ n = omega arith in
    let half : filled (take n room) a ≡ front = ap (λ (k : ℕ). take k a ++ drop k (take n room)) same ∙ ap (λ (l : List ℕ). front ++ l) none ∙ append-nil front in
    ap₂ ◌++◌ (first ∙ sym half) (ap (λ (l : List ℕ). filled l b) rest)
    ∙ ap (λ (k : ℕ). filled (take k room) a ++ filled (drop k room) b) is ∙ filled_halves room a b
