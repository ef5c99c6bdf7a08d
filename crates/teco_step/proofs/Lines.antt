-- The places of line ends, seen as a walk finds them: one after another from a place on, or one before another back from it.
use Rattle.std.proofs.Common.{◌≡◌, ◌∙◌, ap, sym, refl, ℕ, zero, suc, ◌+◌, ◌-◌, ◌<◌, ◌≤◌, Bool, true, false, cond, Some, None, List, [], ◌∷◌, ◌++◌, length, get_or, take, drop, reverse, filter, slice_get, ℤ, pos, negsuc, nat_abs, nat_le, nat_lt, int_lt, arith, rules, tests, add-zero, add-one, drop-cons}
use Rattle.std.proofs.lemmas.List.{append-nil, length-take-le, reverse-append, take-append-drop, take_more}
use Rattle.std.proofs.Math.ListN.{drop_of_length-le}
use Rattle.std.proofs.lemmas.List.Elements.{filter-append}
use Rattle.std.proofs.lemmas.Bool.{false_from_ne_true}
use Rattle.memchr.specs.Find.{IsFirst, IsLast, Nowhere, Passes}
use Rattle.teco_core.specs.Ascii.{is_line_end}
use Rattle.teco_step.specs.Line.{line_ends_from, line_ends, one_past, line}

pub line_ends_from-append : (p : ℕ) (xs ys : List ℕ) → line_ends_from p (xs ++ ys) ≡ line_ends_from p xs ++ line_ends_from (p + length xs) ys
unfolding line_ends_from
line_ends_from-append p [] ys = rw add-zero refl
line_ends_from-append p (x ∷ xs) ys =
    let rest : line_ends_from (suc p) (xs ++ ys) ≡ line_ends_from (suc p) xs ++ line_ends_from (p + suc (length xs)) ys =
    line_ends_from-append (suc p) xs ys ∙ ap (λ q. line_ends_from (suc p) xs ++ line_ends_from q ys) (omega arith) in
    elim (is_line_end x) as (λ b. cond b (p ∷ line_ends_from (suc p) (xs ++ ys)) (line_ends_from (suc p) (xs ++ ys)) ≡ cond b (p ∷ line_ends_from (suc p) xs) (line_ends_from (suc p) xs) ++ line_ends_from (p + suc (length xs)) ys)
    [ true ↦ ap (λ l. p ∷ l) rest | false ↦ rest ]

-- a test that is the same at all places of the bytes
keeps_all : (t : ℕ → Bool) (p : ℕ) (xs : List ℕ) → ((q : ℕ) → p ≤ q → q < p + length xs → t q ≡ true) → filter t (line_ends_from p xs) ≡ line_ends_from p xs
unfolding line_ends_from
keeps_all t p [] h = refl
keeps_all t p (x ∷ xs) h =
    let rest : filter t (line_ends_from (suc p) xs) ≡ line_ends_from (suc p) xs = keeps_all t (suc p) xs (λ q a b. h q (omega arith) (omega arith)) in
    let here : t p ≡ true = h p (omega arith) (omega arith) in
    elim (is_line_end x) as (λ b. filter t (cond b (p ∷ line_ends_from (suc p) xs) (line_ends_from (suc p) xs)) ≡ cond b (p ∷ line_ends_from (suc p) xs) (line_ends_from (suc p) xs))
    [ true ↦ rw here (ap (λ l. p ∷ l) rest) | false ↦ rest ]

drops_all : (t : ℕ → Bool) (p : ℕ) (xs : List ℕ) → ((q : ℕ) → p ≤ q → q < p + length xs → t q ≡ false) → filter t (line_ends_from p xs) ≡ []
unfolding line_ends_from
drops_all t p [] h = refl
drops_all t p (x ∷ xs) h =
    let rest : filter t (line_ends_from (suc p) xs) ≡ [] = drops_all t (suc p) xs (λ q a b. h q (omega arith) (omega arith)) in
    let here : t p ≡ false = h p (omega arith) (omega arith) in
    elim (is_line_end x) as (λ b. filter t (cond b (p ∷ line_ends_from (suc p) xs) (line_ends_from (suc p) xs)) ≡ [])
    [ true ↦ rw here rest | false ↦ rest ]

-- the line ends before a place, and those from there on
parted : (text : List ℕ) (from : ℕ) → from ≤ length text → line_ends text ≡ line_ends_from 0 (take from text) ++ line_ends_from from (drop from text)
parted text from within =
    let long : 0 + length (take from text) ≡ from = omega (arith, length-take-le from text within) in
    ap (line_ends_from 0) (sym (take-append-drop from text)) ∙ line_ends_from-append 0 (take from text) (drop from text)
    ∙ ap (λ p. line_ends_from 0 (take from text) ++ line_ends_from p (drop from text)) long

ends_ahead : (text : List ℕ) (from : ℕ) → from ≤ length text → filter (λ place. nat_le from place) (line_ends text) ≡ line_ends_from from (drop from text)
ends_ahead text from within =
    let t : ℕ → Bool = λ place. nat_le from place in
    let long = length-take-le from text within in
    let before : filter t (line_ends_from 0 (take from text)) ≡ [] = drops_all t 0 (take from text) (λ q a b. let c : q < from = omega (arith, long) in search (rules, tests)) in
    let after : filter t (line_ends_from from (drop from text)) ≡ line_ends_from from (drop from text) = keeps_all t from (drop from text) (λ q a b. search (rules, tests)) in
    ap (filter t) (parted text from within) ∙ filter-append t (line_ends_from 0 (take from text)) (line_ends_from from (drop from text)) ∙ rw (before, after) refl

ends_back : (text : List ℕ) (from : ℕ) → from ≤ length text → filter (λ place. nat_lt place from) (line_ends text) ≡ line_ends_from 0 (take from text)
ends_back text from within =
    let t : ℕ → Bool = λ place. nat_lt place from in
    let long = length-take-le from text within in
    let before : filter t (line_ends_from 0 (take from text)) ≡ line_ends_from 0 (take from text) = keeps_all t 0 (take from text) (λ q a b. let c : q < from = omega (arith, long) in search (rules, tests)) in
    let after : filter t (line_ends_from from (drop from text)) ≡ [] = drops_all t from (drop from text) (λ q a b. search (rules, tests)) in
    ap (filter t) (parted text from within) ∙ filter-append t (line_ends_from 0 (take from text)) (line_ends_from from (drop from text)) ∙ rw (before, after) (append-nil _)

-- line n, by its sign
pub line_above : (text : List ℕ) (from : ℕ) (n : ℤ) → from ≤ length text → int_lt (pos 0) n ≡ true → line text from n ≡ one_past (slice_get (line_ends_from from (drop from text)) (nat_abs n - 1)) (length text)
line_above text from (pos zero) within above = cc
line_above text from (pos (suc n)) within above =
    let e : suc n - 1 ≡ n = omega arith in
    rw e (ap (λ l. one_past (slice_get l n) (length text)) (ends_ahead text from within))
line_above text from (negsuc n) within above = cc

pub line_not_above : (text : List ℕ) (from : ℕ) (n : ℤ) → from ≤ length text → int_lt (pos 0) n ≡ false → line text from n ≡ one_past (slice_get (reverse (line_ends_from 0 (take from text))) (nat_abs n)) 0
line_not_above text from (pos zero) within below = ap (λ l. one_past (slice_get (reverse l) 0) 0) (ends_back text from within)
line_not_above text from (pos (suc n)) within below = let above : nat_lt 0 (suc n) ≡ true = search (rules, tests) in cc
line_not_above text from (negsuc n) within below = ap (λ l. one_past (slice_get (reverse l) (suc n)) 0) (ends_back text from within)

-- one line end passed over
pub get_next : (p : ℕ) (l : List ℕ) (k : ℕ) → 0 < k → slice_get (p ∷ l) k ≡ slice_get l (k - 1)
get_next p l zero above = absurd (omega arith)
get_next p l (suc k) above = let e : suc k - 1 ≡ k = omega arith in rw e refl

-- one byte of the walk
ahead_more : (text : List ℕ) (p : ℕ) → p < length text → line_ends_from p (drop p text) ≡ cond (is_line_end (get_or text p 0)) (p ∷ line_ends_from (p + 1) (drop (p + 1) text)) (line_ends_from (p + 1) (drop (p + 1) text))
unfolding line_ends_from
ahead_more text p below = rw (add-one, drop-cons text p 0) refl

back_more : (text : List ℕ) (p : ℕ) → p < length text → reverse (line_ends_from 0 (take (p + 1) text)) ≡ cond (is_line_end (get_or text p 0)) (p ∷ reverse (line_ends_from 0 (take p text))) (reverse (line_ends_from 0 (take p text)))
unfolding line_ends_from
back_more text p below =
    let b = get_or text p 0 in
    let xs = take p text in
    let long : 0 + length xs ≡ p = omega (arith, length-take-le p text (omega arith)) in
    let whole : line_ends_from 0 (take (p + 1) text) ≡ line_ends_from 0 xs ++ line_ends_from p (b ∷ []) =
    ap (line_ends_from 0) (take_more text p 0 below) ∙ line_ends_from-append 0 xs (b ∷ []) ∙ ap (λ q. line_ends_from 0 xs ++ line_ends_from q (b ∷ [])) long in
    ap reverse whole ∙ reverse-append (line_ends_from 0 xs) (line_ends_from p (b ∷ []))
    ∙ elim (is_line_end b) as (λ v. reverse (cond v (p ∷ []) []) ++ reverse (line_ends_from 0 xs) ≡ cond v (p ∷ reverse (line_ends_from 0 xs)) (reverse (line_ends_from 0 xs))) [ true ↦ refl | false ↦ refl ]

-- bytes that end no line
ahead_past : (text : List ℕ) (n p : ℕ) → p + n ≤ length text → Nowhere (Passes is_line_end text) p (p + n) → line_ends_from p (drop p text) ≡ line_ends_from (p + n) (drop (p + n) text)
ahead_past text zero p within none = rw add-zero refl
ahead_past text (suc n) p within none =
    let plain : is_line_end (get_or text p 0) ≡ false = false_from_ne_true (is_line_end (get_or text p 0)) (none p (omega arith) (omega arith)) in
    let next : p + 1 + n ≡ p + suc n = omega arith in
    rw (ahead_more text p (omega arith), plain) (ahead_past text n (p + 1) (omega arith) (λ k low high. none k (omega arith) (omega arith)) ∙ ap (λ q. line_ends_from q (drop q text)) next)

back_past : (text : List ℕ) (n p : ℕ) → p + n ≤ length text → Nowhere (Passes is_line_end text) p (p + n) → reverse (line_ends_from 0 (take (p + n) text)) ≡ reverse (line_ends_from 0 (take p text))
back_past text zero p within none = rw add-zero refl
back_past text (suc n) p within none =
    let plain : is_line_end (get_or text p 0) ≡ false = false_from_ne_true (is_line_end (get_or text p 0)) (none p (omega arith) (omega arith)) in
    let next : p + suc n ≡ p + 1 + n = omega arith in
    ap (λ q. reverse (line_ends_from 0 (take q text))) next ∙ back_past text n (p + 1) (omega arith) (λ k low high. none k (omega arith) (omega arith)) ∙ rw (back_more text p (omega arith), plain) refl

-- the first line end from a place on, and what comes after it
pub ahead_none : (text : List ℕ) (p : ℕ) → p ≤ length text → IsFirst (Passes is_line_end text) p (length text) None → line_ends_from p (drop p text) ≡ []
unfolding line_ends_from
ahead_none text p within none =
    let whole : p + (length text - p) ≡ length text = omega arith in
    let past : length text ≤ length text = omega arith in
    ahead_past text (length text - p) p (omega arith) (λ k low high. none k low (omega arith)) ∙ rw (whole, drop_of_length-le text past) refl

pub ahead_first : (text : List ℕ) (p e : ℕ) → IsFirst (Passes is_line_end text) p (length text) (Some e) → line_ends_from p (drop p text) ≡ e ∷ line_ends_from (e + 1) (drop (e + 1) text)
ahead_first text p e found =
    let place : p + (e - p) ≡ e = omega (arith, found.0.low) in
    let below : e < length text = found.0.high in
    ahead_past text (e - p) p (omega arith) (λ k low high. found.0.before k low (omega arith)) ∙ rw (place, ahead_more text e below, found.1) refl

-- the last line end before a place, and what comes before it
pub back_none : (text : List ℕ) (p : ℕ) → p ≤ length text → IsLast (Passes is_line_end text) 0 p None → reverse (line_ends_from 0 (take p text)) ≡ []
unfolding line_ends_from
back_none text p within none =
    let whole : p ≡ 0 + p = omega arith in
    ap (λ q. reverse (line_ends_from 0 (take q text))) whole ∙ back_past text p 0 (omega arith) (λ k low high. none k low (omega arith))

pub back_last : (text : List ℕ) (p e : ℕ) → p ≤ length text → IsLast (Passes is_line_end text) 0 p (Some e) → reverse (line_ends_from 0 (take p text)) ≡ e ∷ reverse (line_ends_from 0 (take e text))
back_last text p e within found =
    let place : e + 1 + (p - (e + 1)) ≡ p = omega (arith, found.0.high) in
    let below : e < length text = omega (arith, found.0.high) in
    ap (λ q. reverse (line_ends_from 0 (take q text))) (sym place) ∙ back_past text (p - (e + 1)) (e + 1) (omega arith) (λ k low high. found.0.after k low (omega arith)) ∙ rw (back_more text e below, found.1) refl
