-- What words make where those that ask for a backup become options of the parser.
use Rattle.std.proofs.Common.{◌≡◌, ◌∙◌, ◌++◌, ◌<◌, ◌≤◌, ℕ, zero, suc, Bool, true, false, true≢false, refl, sym, ap, arith, List, [], ◌∷◌, length, codes, map, take, drop, get_or, set, String, Global, None, if◌then◌else◌}
use Rattle.std.specs.Prelude.{unwrap_or}
use Rattle.std.specs.Str.{bytes_eq}
use Rattle.std.specs.String.{string_bytes}
use Rattle.clap.specs.Words.{Text}
use Rattle.teco_cli.specs.Backups.{backup_in, backups_after, with_backups}

abbrev texts : List (String Global) → List Text
texts words = map string_bytes words

abbrev is_end : String Global → Bool
is_end w = bytes_eq (string_bytes w) (codes "--")

-- the first or the second of two
taken_first : (a : Bool) (p q : List Text) → a ≡ true → (if a then p else q) ≡ p
taken_first true p q e = refl
taken_first false p q e = absurd (true≢false (sym e))

taken_second : (a : Bool) (p q : List Text) → a ≡ false → (if a then p else q) ≡ q
taken_second false p q e = refl
taken_second true p q e = absurd (true≢false e)

-- the words, changed from this place on
abbrev pub from : ℕ → List (String Global) → List Text
from at xs = texts (take at xs) ++ backups_after (texts (drop at xs))

-- after the program's name
pub from_name : (xs : List (String Global)) → from 1 xs ≡ with_backups (texts xs)
unfolding backups_after
from_name [] = refl
from_name (x ∷ xs) = refl

-- a word becomes another, or stays
pub changes : (at : ℕ) (xs : List (String Global)) (one w : String Global) → at < length xs → w ≡ get_or xs at w → is_end w ≡ false
    → unwrap_or (backup_in (string_bytes w)) (string_bytes w) ≡ string_bytes one → from (suc at) (set xs at one) ≡ from at xs
unfolding backups_after
changes at [] one w lt at_w apart is = absurd (omega (arith, lt))
changes zero (x ∷ xs) one w lt at_w apart is =
    let no_x : is_end x ≡ false = ap is_end (sym at_w) ∙ apart in
    let is_x : unwrap_or (backup_in (string_bytes x)) (string_bytes x) ≡ string_bytes one = ap (λ s. unwrap_or (backup_in (string_bytes s)) (string_bytes s)) (sym at_w) ∙ is in
    ap (λ s. s ∷ backups_after (texts xs)) (sym is_x)
    ∙ sym (taken_second (is_end x) (texts (x ∷ xs)) (unwrap_or (backup_in (string_bytes x)) (string_bytes x) ∷ backups_after (texts xs)) no_x)
changes (suc at) (x ∷ xs) one w lt at_w apart is = ap (λ t. string_bytes x ∷ t) (changes at xs one w (omega (arith, lt)) at_w apart is)

pub stays : (at : ℕ) (xs : List (String Global)) (w : String Global) → at < length xs → w ≡ get_or xs at w → is_end w ≡ false
    → backup_in (string_bytes w) ≡ None → from (suc at) xs ≡ from at xs
unfolding backups_after
stays at [] w lt at_w apart is = absurd (omega (arith, lt))
stays zero (x ∷ xs) w lt at_w apart is =
    let no_x : is_end x ≡ false = ap is_end (sym at_w) ∙ apart in
    let is_x : unwrap_or (backup_in (string_bytes x)) (string_bytes x) ≡ string_bytes x = ap (λ o. unwrap_or o (string_bytes x)) (ap (λ s. backup_in (string_bytes s)) (sym at_w) ∙ is) in
    ap (λ s. s ∷ backups_after (texts xs)) (sym is_x)
    ∙ sym (taken_second (is_end x) (texts (x ∷ xs)) (unwrap_or (backup_in (string_bytes x)) (string_bytes x) ∷ backups_after (texts xs)) no_x)
stays (suc at) (x ∷ xs) w lt at_w apart is = ap (λ t. string_bytes x ∷ t) (stays at xs w (omega (arith, lt)) at_w apart is)

-- what comes after the last word, and what -- begins, stay
pub none_changes : (at : ℕ) (xs : List (String Global)) → length xs ≤ at → from at xs ≡ texts xs
unfolding backups_after
none_changes zero [] lt = refl
none_changes zero (x ∷ xs) lt = absurd (omega (arith, lt))
none_changes (suc at) [] lt = refl
none_changes (suc at) (x ∷ xs) lt = ap (λ t. string_bytes x ∷ t) (none_changes at xs (omega (arith, lt)))

pub rest_stays : (at : ℕ) (xs : List (String Global)) (w : String Global) → at < length xs → w ≡ get_or xs at w → is_end w ≡ true → from at xs ≡ texts xs
unfolding backups_after
rest_stays at [] w lt at_w end = absurd (omega (arith, lt))
rest_stays zero (x ∷ xs) w lt at_w end =
    taken_first (is_end x) (texts (x ∷ xs)) (unwrap_or (backup_in (string_bytes x)) (string_bytes x) ∷ backups_after (texts xs)) (ap is_end (sym at_w) ∙ end)
rest_stays (suc at) (x ∷ xs) w lt at_w end = ap (λ t. string_bytes x ∷ t) (rest_stays at xs w (omega (arith, lt)) at_w end)
