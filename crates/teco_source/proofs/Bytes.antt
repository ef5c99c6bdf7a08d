-- What a reader makes of one written byte.
use Rattle.std.proofs.Common.{◌≡◌, ℕ, ◌+◌, ◌-◌, ◌<◌, ◌≤◌, Bool, true, false, List, [], ◌∷◌, ◌++◌, Some, refl, sym, ap, ◌∙◌, arith, eqb, ltb, ltb-true, ltb-false}
use Rattle.std.specs.Prelude.{nat_lt}
use Rattle.std.proofs.lemmas.List.{append-nil}
use Rattle.std.proofs.lemmas.Bool.{eqb-true, false_from_ne_true, le-leb}
use Rattle.teco_source.specs.declared.reader.Mode.{Mode}
use Rattle.teco_source.specs.declared.reader.Mode.TheVariants.{First, Margin, Blank, Text, Hash, Mark, Caret, Comment, Wrong}
use Rattle.teco_source.specs.Source.{State, is_blank, marked, step, run}
use Rattle.teco_source.specs.Listing.{is_guarded, spelling}

pub run-append : (s : State) (xs ys : List ℕ) → run s (xs ++ ys) ≡ run (run s xs) ys
unfolding run
run-append s [] ys = refl
run-append s (b ∷ bs) ys = run-append (step s b) bs ys

pub split : {G : Type 0} (t : Bool) → (t ≡ true → G) → (t ≡ false → G) → G
split {G} t = elim t as (λ v. (v ≡ true → G) → (v ≡ false → G) → G) [ true ↦ λ yes no. yes refl | false ↦ λ yes no. no refl ]

pub differs : (b n : ℕ) → (b ≡ n → ⊥) → eqb b n ≡ false
differs b n ne = false_from_ne_true (eqb b n) (λ e. ne (eqb-true b n e))

abbrev pub at : Mode → List ℕ → List ℕ → State
at mode bytes blanks = record { mode = mode; bytes = bytes; blanks = blanks }

marked_capital : (c : ℕ) → 64 ≤ c → c ≤ 95 → marked c ≡ Some ((c - 64) ∷ [])
marked_capital c least most =
    rw (differs c 36 (λ is. absurd (omega arith)), differs c 33 (λ is. absurd (omega arith)), differs c 126 (λ is. absurd (omega arith)), differs c 61 (λ is. absurd (omega arith)), differs c 63 (λ is. absurd (omega arith)), differs c 96 (λ is. absurd (omega arith)), differs c 46 (λ is. absurd (omega arith)), le-leb 64 c least, le-leb c 95 most) refl

marked_control : (b : ℕ) → b < 32 → marked (b + 64) ≡ Some (b ∷ [])
marked_control b h = let is : b + 64 - 64 ≡ b = omega arith in marked_capital (b + 64) (omega arith) (omega arith) ∙ ap (λ c. Some (c ∷ [])) is

-- within a line a byte that is neither a blank nor an exclamation mark is put
pub text_reads : (b : ℕ) (bytes blanks : List ℕ) → eqb b 32 ≡ false → eqb b 33 ≡ false
    → run (at Text bytes blanks) (spelling Text b) ≡ at Text (bytes ++ blanks ++ b ∷ []) []
unfolding run step
text_reads b bytes blanks e32b e33 =
    split (eqb b 27) (λ e. let is : b ≡ 27 = eqb-true b 27 e in rw is refl) (λ e27.
    split (nat_lt b 32) (λ e. let low : b < 32 = ltb-true b 32 e in rw (e27, e, marked_control b low) refl) (λ e32.
    split (eqb b 36) (λ e. let is : b ≡ 36 = eqb-true b 36 e in rw is refl) (λ e36.
    split (eqb b 94) (λ e. let is : b ≡ 94 = eqb-true b 94 e in rw is refl) (λ e94.
    split (eqb b 127) (λ e. let is : b ≡ 127 = eqb-true b 127 e in rw is refl) (λ e127.
    let high : 32 ≤ b = ltb-false b 32 e32 in
    rw (e27, e32, e36, e94, e127, e33, differs b 10 (λ is. absurd (omega arith)), e94, e33, e32b, differs b 9 (λ is. absurd (omega arith)), differs b 13 (λ is. absurd (omega arith)), e36) refl)))))

-- a mode in which a byte is read as within a line, but blanks and marks
abbrev pub is_open : Mode → Bool
is_open First = true
is_open Margin = true
is_open Blank = true
is_open Text = true
is_open _ = false

unguarded : (mode : Mode) (b : ℕ) → eqb b 32 ≡ false → eqb b 35 ≡ false → is_guarded mode b ≡ false
unguarded First b e32b e35 = rw (e32b, e35) refl
unguarded Margin b e32b e35 = e32b
unguarded Blank b e32b e35 = refl
unguarded Text b e32b e35 = refl
unguarded Hash b e32b e35 = refl
unguarded Mark b e32b e35 = refl
unguarded Caret b e32b e35 = refl
unguarded Comment b e32b e35 = refl
unguarded Wrong b e32b e35 = refl

-- what begins the spelling of a byte that is no blank and no mark
pub begins : (mode : Mode) (b : ℕ) → eqb b 32 ≡ false → eqb b 33 ≡ false → eqb b 35 ≡ false
    → (c : ℕ) × (cs : List ℕ) × (spelling mode b ≡ c ∷ cs) × (spelling Text b ≡ c ∷ cs) × (is_blank c ≡ false) × (eqb c 33 ≡ false) × (eqb c 35 ≡ false)
begins mode b e32b e33 e35 =
    split (eqb b 27) (λ e. (36, [], rw e refl, rw e refl, refl, refl, refl)) (λ e27.
    split (ltb b 32) (λ e. (94, (b + 64) ∷ [], rw (e27, e) refl, rw (e27, e) refl, refl, refl, refl)) (λ e32.
    split (eqb b 36) (λ e. (94, 36 ∷ [], rw (e27, e32, e) refl, rw (e27, e32, e) refl, refl, refl, refl)) (λ e36.
    split (eqb b 94) (λ e. (94, 126 ∷ [], rw (e27, e32, e36, e) refl, rw (e27, e32, e36, e) refl, refl, refl, refl)) (λ e94.
    split (eqb b 127) (λ e. (94, 63 ∷ [], rw (e27, e32, e36, e94, e) refl, rw (e27, e32, e36, e94, e) refl, refl, refl, refl)) (λ e127.
    let high : 32 ≤ b = ltb-false b 32 e32 in
    (b, [], rw (e27, e32, e36, e94, e127, e33, unguarded mode b e32b e35) refl, rw (e27, e32, e36, e94, e127, e33) refl, rw (e32b, differs b 9 (λ is. absurd (omega arith)), differs b 13 (λ is. absurd (omega arith))) refl, e33, e35))))))

-- Where a line may begin a comment, what is neither a blank nor a mark is read as within a line.
pub steps_alike : (mode : Mode) (c : ℕ) (bytes blanks : List ℕ) → is_open mode ≡ true → is_blank c ≡ false → eqb c 33 ≡ false → eqb c 35 ≡ false
    → step (at mode bytes blanks) c ≡ step (at Text bytes blanks) c
unfolding step
steps_alike First c bytes blanks o e e33 e35 = rw (e35, e33, e) refl
steps_alike Margin c bytes blanks o e e33 e35 = rw (e33, e) refl
steps_alike Blank c bytes blanks o e e33 e35 = rw (e33, e) refl
steps_alike Text c bytes blanks o e e33 e35 = refl
steps_alike Hash c bytes blanks o e e33 e35 = cc
steps_alike Mark c bytes blanks o e e33 e35 = cc
steps_alike Caret c bytes blanks o e e33 e35 = cc
steps_alike Comment c bytes blanks o e e33 e35 = cc
steps_alike Wrong c bytes blanks o e e33 e35 = cc

sharp_reads : (mode : Mode) (bytes blanks : List ℕ) → is_open mode ≡ true → run (at mode bytes blanks) (spelling mode 35) ≡ at Text (bytes ++ blanks ++ 35 ∷ []) []
unfolding run step
sharp_reads First bytes blanks o =
    ap (λ (xs : List ℕ). at Text (xs ++ 35 ∷ []) []) (append-nil (bytes ++ blanks ++ []) ∙ append-nil (bytes ++ blanks))
sharp_reads Margin bytes blanks o = refl
sharp_reads Blank bytes blanks o = refl
sharp_reads Text bytes blanks o = refl
sharp_reads Hash bytes blanks o = cc
sharp_reads Mark bytes blanks o = cc
sharp_reads Caret bytes blanks o = cc
sharp_reads Comment bytes blanks o = cc
sharp_reads Wrong bytes blanks o = cc

-- A byte that is no space and no mark is put.
pub byte_reads : (mode : Mode) (b : ℕ) (bytes blanks : List ℕ) → is_open mode ≡ true → eqb b 32 ≡ false → eqb b 33 ≡ false
    → run (at mode bytes blanks) (spelling mode b) ≡ at Text (bytes ++ blanks ++ b ∷ []) []
unfolding run
byte_reads mode b bytes blanks o e32b e33 =
    split (eqb b 35) (λ e. let is : b ≡ 35 = eqb-true b 35 e in rw is (sharp_reads mode bytes blanks o)) (λ e35.
    let f : (c : ℕ) × (cs : List ℕ) × (spelling mode b ≡ c ∷ cs) × (spelling Text b ≡ c ∷ cs) × (is_blank c ≡ false) × (eqb c 33 ≡ false) × (eqb c 35 ≡ false) = begins mode b e32b e33 e35 in
    ap (run (at mode bytes blanks)) f.2
    ∙ ap (λ (s : State). run s f.1) (steps_alike mode f.0 bytes blanks o f.4 f.5 f.6)
    ∙ sym (ap (run (at Text bytes blanks)) f.3)
    ∙ text_reads b bytes blanks e32b e33)

-- no blank waits
pub unblanked : (bytes : List ℕ) (b : ℕ) → at Text (bytes ++ [] ++ b ∷ []) [] ≡ at Text (bytes ++ b ∷ []) []
unblanked bytes b = ap (λ (xs : List ℕ). at Text (xs ++ b ∷ []) []) (append-nil bytes)

-- A mark that no other one follows is a byte.
pub mark_step : (c : ℕ) (bytes blanks : List ℕ) → eqb c 33 ≡ false → step (at Mark bytes blanks) c ≡ step (at Text (bytes ++ blanks ++ 33 ∷ []) []) c
unfolding step
mark_step c bytes blanks e = rw e refl

pub sharp_step : (c : ℕ) (bytes blanks : List ℕ) → eqb c 33 ≡ false → step (at Hash bytes blanks) c ≡ step (at Text (bytes ++ blanks ++ 35 ∷ []) []) c
unfolding step
sharp_step c bytes blanks e = rw e refl

pub mark_reads : (b : ℕ) (bytes blanks : List ℕ) → eqb b 32 ≡ false → eqb b 33 ≡ false
    → run (at Mark bytes blanks) (spelling Mark b) ≡ at Text ((bytes ++ blanks ++ 33 ∷ []) ++ b ∷ []) []
unfolding run
mark_reads b bytes blanks e32b e33 =
    split (eqb b 35) (λ e. let is : b ≡ 35 = eqb-true b 35 e in rw is (mark_step 35 bytes blanks refl ∙ sharp_reads Text (bytes ++ blanks ++ 33 ∷ []) [] refl ∙ unblanked (bytes ++ blanks ++ 33 ∷ []) 35)) (λ e35.
    let f : (c : ℕ) × (cs : List ℕ) × (spelling Mark b ≡ c ∷ cs) × (spelling Text b ≡ c ∷ cs) × (is_blank c ≡ false) × (eqb c 33 ≡ false) × (eqb c 35 ≡ false) = begins Mark b e32b e33 e35 in
    ap (run (at Mark bytes blanks)) f.2
    ∙ ap (λ (s : State). run s f.1) (mark_step f.0 bytes blanks f.5)
    ∙ sym (ap (run (at Text (bytes ++ blanks ++ 33 ∷ []) [])) f.3)
    ∙ text_reads b (bytes ++ blanks ++ 33 ∷ []) [] e32b e33
    ∙ unblanked (bytes ++ blanks ++ 33 ∷ []) b)
