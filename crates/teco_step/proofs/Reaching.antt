-- What a command reaches lies in the text.
use Rattle.std.proofs.Common.{◌≡◌, subst, refl, ℕ, zero, suc, ◌+◌, ◌-◌, ◌<◌, ◌≤◌, min, max, Bool, true, false, cond, List, [], ◌∷◌, ◌++◌, length, filter, reverse, slice_get, Result, Ok, Err, ℤ, pos, negsuc, nat_le, nat_lt, arith, rules, tests}
use Rattle.std.specs.Prelude.{All}
use Rattle.std.proofs.Math.Nat.{le-max_left, max-le, min-le_left}
use Rattle.std.proofs.lemmas.List.{reverse-append}
use Rattle.std.proofs.lemmas.List.Elements.{All-append, All-cons, All-filter, All-head, All-nil, All-same, All-tail, All-weaker}
use Rattle.teco_core.specs.Ascii.{is_line_end}
use Rattle.teco_core.specs.declared.arguments.Taken.{Taken}
use Rattle.teco_core.specs.declared.arguments.Taken.TheVariants as taken
use Rattle.teco_core.specs.declared.code.Code.{Code}
use Rattle.teco_core.specs.declared.code.Code.TheVariants.{Pop}
use Rattle.teco_core.specs.Refusal.{◌>>=◌}
use Rattle.teco_core.specs.Arguments.{Arguments, taken_from}
use Rattle.teco_store.specs.State.{State}
use Rattle.teco_step.specs.Line.{line, line_ends, line_ends_from, one_past}
use Rattle.teco_step.specs.Step.{Range, place_or, reached, rising, takes_reach}

-- a place that was taken
place_by : (c : Code) (n m place : ℕ) (b : Bool) → nat_le n m ≡ b → cond b (Ok n) (Err c) ≡ Ok place → place ≤ m
place_by c n m place true h e =
    let here : n ≡ place = cc in
    let low : n ≤ m = search (rules, tests) in
    omega arith
place_by c n m place false h e = absurd cc

pub place_within : (c : Code) (s : State) (n : ℤ) (place : ℕ) → place_or c s n ≡ Ok place → place ≤ length s.text
place_within c s (pos n) place e = place_by c n (length s.text) place (nat_le n (length s.text)) refl e
place_within c s (negsuc n) place e = absurd cc

-- line ends
ends_within : (p : ℕ) (bs : List ℕ) → All (λ q. q < p + length bs) (line_ends_from p bs)
unfolding line_ends_from
ends_within p [] = All-nil (λ q. q < p + 0)
ends_within p (b ∷ bs) =
    let rest : All (λ q. q < p + suc (length bs)) (line_ends_from (suc p) bs) =
    All-weaker (λ q. q < suc p + length bs) (λ q. q < p + suc (length bs)) (λ q h. omega arith) (line_ends_from (suc p) bs) (ends_within (suc p) bs) in
    elim (is_line_end b) as (λ is. All (λ q. q < p + suc (length bs)) (cond is (p ∷ line_ends_from (suc p) bs) (line_ends_from (suc p) bs)))
    [ true ↦ All-cons (λ q. q < p + suc (length bs)) p (line_ends_from (suc p) bs) (omega arith) rest | false ↦ rest ]

all_reversed : (P : ℕ → Type 0) (xs : List ℕ) → All P xs → All P (reverse xs)
all_reversed P [] h = All-nil P
all_reversed P (x ∷ xs) h =
    let last : All P (x ∷ []) = All-cons P x [] (All-head P x xs h) (All-nil P) in
    All-same P (reverse (x ∷ xs)) (reverse xs ++ (x ∷ [])) (reverse-append (x ∷ []) xs) (All-append P (reverse xs) (x ∷ []) (all_reversed P xs (All-tail P x xs h)) last)

past_within : (m otherwise : ℕ) (xs : List ℕ) (n : ℕ) → All (λ q. q < m) xs → otherwise ≤ m → one_past (slice_get xs n) otherwise ≤ m
past_within m otherwise [] n h low = low
past_within m otherwise (x ∷ xs) zero h low = let here : x < m = All-head (λ q. q < m) x xs h in omega arith
past_within m otherwise (x ∷ xs) (suc n) h low = past_within m otherwise xs n (All-tail (λ q. q < m) x xs h) low

all_ends : (text : List ℕ) → All (λ q. q < length text) (line_ends text)
all_ends text = All-weaker (λ q. q < 0 + length text) (λ q. q < length text) (λ q h. omega arith) (line_ends text) (ends_within 0 text)

ahead_within : (text : List ℕ) (from n : ℕ) → one_past (slice_get (filter (λ place. nat_le from place) (line_ends text)) n) (length text) ≤ length text
ahead_within text from n =
    past_within (length text) (length text) (filter (λ place. nat_le from place) (line_ends text)) n (All-filter (λ place. nat_le from place) (λ q. q < length text) (line_ends text) (all_ends text)) (omega arith)

back_within : (text : List ℕ) (from n : ℕ) → one_past (slice_get (reverse (filter (λ place. nat_lt place from) (line_ends text))) n) 0 ≤ length text
back_within text from n =
    let ends : List ℕ = filter (λ place. nat_lt place from) (line_ends text) in
    past_within (length text) 0 (reverse ends) n (all_reversed (λ q. q < length text) ends (All-filter (λ place. nat_lt place from) (λ q. q < length text) (line_ends text) (all_ends text))) (omega arith)

line_within : (text : List ℕ) (from : ℕ) (n : ℤ) → line text from n ≤ length text
line_within text from (pos (suc n)) = ahead_within text from n
line_within text from (pos zero) = back_within text from 0
line_within text from (negsuc n) = back_within text from (suc n)

-- from one place in the text to another
pub between : (p q n : ℕ) → p ≤ n → q ≤ n → min p q + (max p q - min p q) ≤ n
between p q n low high =
    let top : max p q ≤ n = max-le low high in
    omega (arith, le-max_left p q, min-le_left p q)

pub rising_lies : (p q n : ℕ) → p ≤ n → q ≤ n → (min p q ≤ max p q) × (max p q ≤ n)
rising_lies p q n low high = (omega (arith, le-max_left p q, min-le_left p q), max-le low high)

abbrev pub Spans : State → Range → Type 0
Spans s r = r.low + (r.high - r.low) ≤ length s.text

rising_spans : (s : State) (p q : ℕ) (r : Range) → p ≤ length s.text → q ≤ length s.text → rising p q ≡ r → Spans s r
rising_spans s p q r low high is = subst (λ (u : Range). Spans s u) is (between p q (length s.text) low high)

two_span : (s : State) (x y : Result ℕ Code) (r : Range) → ((p : ℕ) → x ≡ Ok p → p ≤ length s.text) → ((q : ℕ) → y ≡ Ok q → q ≤ length s.text)
    → (x >>= (λ p. y >>= (λ q. Ok (rising p q)))) ≡ Ok r → Spans s r
two_span s (Ok p) (Ok q) r low high e = let is : rising p q ≡ r = cc in rising_spans s p q r (low p refl) (high q refl) is
two_span s (Ok p) (Err c) r low high e = absurd cc
two_span s (Err c) y r low high e = absurd cc

reached_spans : (s : State) (t : Taken) (r : Range) → s.pointer ≤ length s.text → reached s t ≡ Ok r → Spans s r
reached_spans s taken.None r within e =
    let is : rising s.pointer (line s.text s.pointer (pos 1)) ≡ r = cc in
    rising_spans s s.pointer (line s.text s.pointer (pos 1)) r within (line_within s.text s.pointer (pos 1)) is
reached_spans s (taken.One n) r within e =
    let is : rising s.pointer (line s.text s.pointer n) ≡ r = cc in
    rising_spans s s.pointer (line s.text s.pointer n) r within (line_within s.text s.pointer n) is
reached_spans s (taken.Two m n) r within e = two_span s (place_or Pop s m) (place_or Pop s n) r (place_within Pop s m) (place_within Pop s n) e

taken_spans : (s : State) (x : Result Taken Code) (r : Range) → s.pointer ≤ length s.text → (x >>= reached s) ≡ Ok r → Spans s r
taken_spans s (Ok t) r within e = reached_spans s t r within e
taken_spans s (Err c) r within e = absurd cc

pub reach_spans : (s : State) (a : Arguments) (r : Range) → s.pointer ≤ length s.text → takes_reach s a ≡ Ok r → Spans s r
reach_spans s a r within e = taken_spans s (taken_from a) r within e
