-- What is at a place of a text, as the front of the bytes from there.
use Rattle.std.proofs.Common.{◌≡◌, ℕ, suc, zero, ◌+◌, ◌-◌, ◌++◌, length-append, length-drop, ◌<◌, ◌≤◌, Bool, true, false, cond, eqb, List, [], ◌∷◌, length, get_or, take, drop, Some, None, Ok, Err, refl, sym, ap, ◌∙◌, arith, add-one, drop-cons}
use Rattle.memchr.specs.Find.{IsFirstByte, is_byte}
use Rattle.teco_core.specs.declared.code.Code.TheVariants.{Utc}
use Rattle.std.proofs.Math.Seq.{take-append_seam}
use Rattle.std.proofs.lemmas.List.{take_rest, drop-drop}
use Rattle.teco_core.specs.declared.profile.Profile.{Profile}
use Rattle.teco_core.specs.Ascii.{is_digit}
use Rattle.teco_scan.specs.Scan.{text_at, run_of, after_run, after_fillers, token_from, rows_of, scan, scan_here, scanned}

pub front : (xs : List ℕ) (at : ℕ) → at < length xs → drop at xs ≡ get_or xs at 0 ∷ drop (at + 1) xs
front xs at h = rw (add-one, drop-cons xs at 0)

pub no_front : (xs : List ℕ) (at : ℕ) → length xs ≤ at → drop at xs ≡ []
no_front [] zero h = refl
no_front [] (suc at) h = refl
no_front (x ∷ xs) zero h = absurd (omega arith)
no_front (x ∷ xs) (suc at) h = no_front xs at (omega arith)

not_true : (b : Bool) → (b ≡ true → ⊥) → b ≡ false
not_true true h = absurd (h refl)
not_true false h = refl

text_none : (d : ℕ) (xs : List ℕ) → ((k : ℕ) → k < length xs → eqb (get_or xs k 0) d ≡ true → ⊥) → text_at d xs ≡ Err Utc
unfolding text_at
text_none d [] h = refl
text_none d (x ∷ xs) h =
    let here : eqb x d ≡ false = not_true (eqb x d) (h 0 (omega arith)) in
    let later : text_at d xs ≡ Err Utc = text_none d xs (λ k in_xs. h (suc k) (omega arith)) in
    rw (here, later)

pub text_at_none : (d : ℕ) (xs : List ℕ) → IsFirstByte (is_byte d) xs None → text_at d xs ≡ Err Utc
text_at_none d xs h = text_none d xs (λ k in_xs. h k (omega arith) in_xs)

text_some : (d : ℕ) (xs : List ℕ) (n : ℕ) → n < length xs → ((k : ℕ) → k < n → eqb (get_or xs k 0) d ≡ true → ⊥) → eqb (get_or xs n 0) d ≡ true → text_at d xs ≡ Ok (take n xs, drop (n + 1) xs)
unfolding text_at
text_some d [] n inside before here = absurd (omega arith)
text_some d (x ∷ xs) zero inside before here = rw here
text_some d (x ∷ xs) (suc n) inside before here =
    let first : eqb x d ≡ false = not_true (eqb x d) (before 0 (omega arith)) in
    let later : text_at d xs ≡ Ok (take n xs, drop (n + 1) xs) = text_some d xs n (omega arith) (λ k below. before (suc k) (omega arith)) here in
    rw (first, later, add-one, add-one)

pub text_at_some : (d : ℕ) (xs : List ℕ) (n : ℕ) → IsFirstByte (is_byte d) xs (Some n) → text_at d xs ≡ Ok (take n xs, drop (n + 1) xs)
text_at_some d xs n h = text_some d xs n h.0.high (λ k below. h.0.before k (omega arith) below) h.1

run_split : (bs : List ℕ) → run_of bs ++ after_run bs ≡ bs
unfolding run_of after_run
run_split [] = refl
run_split (b ∷ bs) = elim (is_digit b) as (λ v. cond v (b ∷ run_of bs) [] ++ cond v (after_run bs) (b ∷ bs) ≡ b ∷ bs) [ true ↦ ap (λ r. b ∷ r) (run_split bs) | false ↦ refl ]

front_of : (bs front rest : List ℕ) (n : ℕ) → front ++ rest ≡ bs → length front ≡ n → take n bs ≡ front
front_of bs front rest n whole long = rw (← whole, ← long) (take-append_seam front rest)

pub run_is : (xs : List ℕ) (at to : ℕ) → at ≤ to → to ≤ length xs → drop to xs ≡ after_run (drop at xs) → take (to - at) (drop at xs) ≡ run_of (drop at xs)
run_is xs at to past inside rest =
    let bs = drop at xs in
    front_of bs (run_of bs) (after_run bs) (to - at) (run_split bs)
    (omega (arith, length-drop at xs, length-drop to xs, ap length rest, ap length (run_split bs), length-append (run_of bs) (after_run bs)))

pub text_at_none_here : (d : ℕ) (xs : List ℕ) (at : ℕ) → IsFirstByte (is_byte d) (take (length xs - at) (drop at xs)) None → text_at d (drop at xs) ≡ Err Utc
text_at_none_here d xs at h = text_at_none d (drop at xs) (rw take_rest at h)

pub text_at_some_here : (d : ℕ) (xs : List ℕ) (at n : ℕ) → IsFirstByte (is_byte d) (take (length xs - at) (drop at xs)) (Some n) → text_at d (drop at xs) ≡ Ok (take (at + n - at) (drop at xs), drop (at + n + 1) xs)
text_at_some_here d xs at n h =
    let here : text_at d (drop at xs) ≡ Ok (take n (drop at xs), drop (n + 1) (drop at xs)) = text_at_some d (drop at xs) n (rw take_rest at h) in
    let long : at + n - at ≡ n = omega arith in
    let regrouped : at + n + 1 ≡ at + (n + 1) = omega arith in
    rw (long, regrouped, ← drop-drop (n + 1) at xs) here

scan_here_is : (p : Profile) (bs : List ℕ) → 0 < length bs → scan_here p bs ≡ scanned (token_from (rows_of p) bs)
scan_here_is p [] h = absurd (omega arith)
scan_here_is p (b ∷ bs) h = refl

pub scan_found : (p : Profile) (xs : List ℕ) (at from : ℕ) → from < length xs → drop from xs ≡ after_fillers (drop at xs) → scan p (drop at xs) ≡ scanned (token_from (rows_of p) (drop from xs))
unfolding scan
scan_found p xs at from inside rest = ap (scan_here p) (sym rest) ∙ scan_here_is p (drop from xs) (omega (arith, length-drop from xs))
