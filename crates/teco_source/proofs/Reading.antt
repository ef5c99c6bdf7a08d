-- What is read, and up to where.
use Rattle.std.proofs.Common.{◌≡◌, ℕ, suc, ◌+◌, ◌-◌, ◌<◌, ◌≤◌, true, false, List, [], ◌∷◌, length, drop, get_or, None, Err, eqb, refl, sym, ap, ◌∙◌, arith, add-one, drop-cons}
use Rattle.std.proofs.lemmas.List.{drop_all}
use Rattle.teco_source.specs.declared.reader.Mode.{Mode}
use Rattle.teco_source.specs.declared.reader.Mode.TheVariants.{First, Margin, Blank, Text, Hash, Mark, Caret, Comment, Wrong}
use Rattle.teco_source.specs.Laws.{bytes_in}
use Rattle.teco_source.proofs.Bytes.{at, split}
use Rattle.teco_source.specs.Source.{State, ends_line, step, run, ended, is_wrong, commands_from}

last_ends : (b : ℕ) (bs : List ℕ) → ends_line (b ∷ bs) ≡ eqb (get_or (b ∷ bs) (length bs) 0) 10
unfolding ends_line
last_ends b [] = refl
last_ends b (c ∷ bs) = last_ends c bs

pub none_ends : (xs : List ℕ) → length xs ≡ 0 → false ≡ ends_line xs
unfolding ends_line
none_ends [] e = refl
none_ends (x ∷ xs) e = absurd (omega arith)

pub some_end : (xs : List ℕ) → (length xs ≡ 0 → ⊥) → eqb (get_or xs (length xs - 1) 0) 10 ≡ ends_line xs
some_end [] ne = absurd (ne refl)
some_end (x ∷ xs) ne =
    let e : suc (length xs) - 1 ≡ length xs = omega arith in
    ap (λ (n : ℕ). eqb (get_or (x ∷ xs) n 0) 10) e ∙ sym (last_ends x xs)

pub one_read : (s : State) (i : ℕ) (xs : List ℕ) → i < length xs → is_wrong (step s (get_or xs i 0)).mode ≡ false
    → commands_from s i (drop i xs) ≡ commands_from (step s (get_or xs i 0)) (i + 1) (drop (i + 1) xs)
unfolding commands_from
one_read s i xs h w = rw (add-one, drop-cons xs i 0, w) refl

pub one_wrong : (s : State) (i : ℕ) (xs : List ℕ) → i < length xs → is_wrong (step s (get_or xs i 0)).mode ≡ true
    → commands_from s i (drop i xs) ≡ Err (i - 1)
unfolding commands_from
one_wrong s i xs h w = rw (drop-cons xs i 0, w) refl

pub all_read : (s : State) (i : ℕ) (xs : List ℕ) → length xs ≤ i → commands_from s i (drop i xs) ≡ ended s i
unfolding commands_from
all_read s i xs h = rw (drop_all i xs h) refl

-- What the end says does not hang on its place.
any_place : (mode : Mode) (bytes blanks : List ℕ) (n : ℕ) → bytes_in (ended (at mode bytes blanks) n) ≡ bytes_in (ended (at mode bytes blanks) 0)
any_place First bytes blanks n = refl
any_place Margin bytes blanks n = refl
any_place Blank bytes blanks n = refl
any_place Text bytes blanks n = refl
any_place Hash bytes blanks n = refl
any_place Mark bytes blanks n = refl
any_place Caret bytes blanks n = refl
any_place Comment bytes blanks n = refl
any_place Wrong bytes blanks n = refl

-- What is wrong stays wrong.
pub wrong_stays : (xs bytes blanks : List ℕ) → run (at Wrong bytes blanks) xs ≡ at Wrong bytes blanks
unfolding run step
wrong_stays [] bytes blanks = refl
wrong_stays (b ∷ bs) bytes blanks = wrong_stays bs bytes blanks

wrong_says : (mode : Mode) (bytes blanks xs : List ℕ) → is_wrong mode ≡ true → None ≡ bytes_in (ended (run (at mode bytes blanks) xs) 0)
wrong_says Wrong bytes blanks xs w = sym (ap (λ (s : State). bytes_in (ended s 0)) (wrong_stays xs bytes blanks))
wrong_says First bytes blanks xs w = cc
wrong_says Margin bytes blanks xs w = cc
wrong_says Blank bytes blanks xs w = cc
wrong_says Text bytes blanks xs w = cc
wrong_says Hash bytes blanks xs w = cc
wrong_says Mark bytes blanks xs w = cc
wrong_says Caret bytes blanks xs w = cc
wrong_says Comment bytes blanks xs w = cc

-- The bytes are those of the whole run.
pub bytes_of_run : (s : State) (n : ℕ) (xs : List ℕ) → is_wrong s.mode ≡ false → bytes_in (commands_from s n xs) ≡ bytes_in (ended (run s xs) 0)
unfolding commands_from run
bytes_of_run s n [] w = any_place s.mode s.bytes s.blanks n
bytes_of_run s n (b ∷ bs) w =
    split (is_wrong (step s b).mode) (λ e. rw e (wrong_says (step s b).mode (step s b).bytes (step s b).blanks bs e)) (λ e.
    rw e (bytes_of_run (step s b) (suc n) bs e))
