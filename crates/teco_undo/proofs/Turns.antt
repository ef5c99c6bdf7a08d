-- A change is turned twice: body and change are as before.
use Rattle.std.proofs.Common.{◌≡◌, ℕ, ◌+◌, ◌<◌, ◌≤◌, List, [], ◌∷◌, ◌++◌, length, take, drop, get_or, refl, sym, ◌∙◌, ap, subst, append_assoc, arith, length-append, length-drop, ℤ}
use Rattle.std.proofs.lemmas.List.{append-nil, drop_all, take_all, take_at, drop_at, length-take-le, take-append-drop, drop-drop, length-set, get_or-set_same, set-set, set-get_or}
use Rattle.teco_core.specs.Register.{Content, blank, content, with_content, with_number, with_text, numbered, texted}
use Rattle.teco_store.specs.State.{Body, IsSound, replaced}
use Rattle.teco_store.proofs.Loans.{length-lent}
use Rattle.teco_undo.proofs.Loans.{lent_text}
use Rattle.teco_store.specs.Turn.{Turn, Splice, Lend, PutIn, TakeOut, Point, Number, Text, Push, TakeOff, PopInto, PutBack, Pages, Search, Found, Done, Mode, lent, top_of, body_after, turn_after, Stands, Fits}

-- the three parts of a list
parts : (xs : List ℕ) (at n : ℕ) → take at xs ++ (take n (drop at xs) ++ drop (at + n) xs) ≡ xs
parts xs at n =
    let rest : drop (at + n) xs ≡ drop n (drop at xs) = sym (drop-drop n at xs) in
    rw rest (rw (take-append-drop n (drop at xs)) (take-append-drop at xs))

pub length-replaced : (xs ins : List ℕ) (at del : ℕ) → at + del ≤ length xs → length (replaced xs at (at + del) ins) + del ≡ length xs + length ins
length-replaced xs ins at del within =
    omega (arith, length-append (take at xs) (ins ++ drop (at + del) xs), length-append ins (drop (at + del) xs), length-drop (at + del) xs, length-take-le at xs (omega arith))

-- what stands in the place of `ins` after a splice
pub in_place : (xs ins : List ℕ) (at del : ℕ) → at + del ≤ length xs → take (length ins) (drop at (replaced xs at (at + del) ins)) ≡ ins
in_place xs ins at del within =
    let front : length (take at xs) ≡ at = length-take-le at xs (omega arith) in
    let rest : drop at (replaced xs at (at + del) ins) ≡ ins ++ drop (at + del) xs = drop_at (take at xs) (ins ++ drop (at + del) xs) at front in
    rw rest (take_at ins (drop (at + del) xs) (length ins) refl)

pub replaced_back : (xs ins : List ℕ) (at del : ℕ) → at + del ≤ length xs → replaced (replaced xs at (at + del) ins) at (at + length ins) (take del (drop at xs)) ≡ xs
replaced_back xs ins at del within =
    let front : length (take at xs) ≡ at = length-take-le at xs (omega arith) in
    let both : length (take at xs ++ ins) ≡ at + length ins = omega (arith, length-append (take at xs) ins) in
    let start : take at (replaced xs at (at + del) ins) ≡ take at xs = take_at (take at xs) (ins ++ drop (at + del) xs) at front in
    let rest : drop (at + length ins) (replaced xs at (at + del) ins) ≡ drop (at + del) xs =
    rw (← append_assoc (take at xs) ins (drop (at + del) xs)) (drop_at (take at xs ++ ins) (drop (at + del) xs) (at + length ins) both) in
    rw (start, rest) (parts xs at del)

-- bytes that are put in place of all are all
replaced_all : (xs ins : List ℕ) (n : ℕ) → length xs ≡ n → replaced xs 0 n ins ≡ ins
replaced_all xs ins n all = ap (λ (l : List ℕ). ins ++ l) (drop_all n xs (omega arith)) ∙ append-nil ins

-- what a register holds after it was put there
pub content_put : (rs : List Content) (q : ℕ) (c : Content) → q < length rs → content (with_content rs q c) q ≡ c
content_put rs q c lt = get_or-set_same rs q c blank lt

pub content_back : (rs : List Content) (q : ℕ) (c : Content) → with_content (with_content rs q c) q (content rs q) ≡ rs
content_back rs q c = set-set rs q c (get_or rs q blank) ∙ set-get_or rs q blank

pub number_back : (rs : List Content) (q : ℕ) (n : ℤ) → q < length rs → with_number (with_number rs q n) q (content rs q).number ≡ rs
number_back rs q n lt =
    ap (λ (c : Content). with_content (with_number rs q n) q (numbered (content rs q).number c)) (content_put rs q (numbered n (content rs q)) lt)
    ∙ content_back rs q (numbered n (content rs q))

pub text_back : (rs : List Content) (q : ℕ) (text : List ℕ) → q < length rs → with_text (with_text rs q text) q (content rs q).text ≡ rs
text_back rs q text lt =
    ap (λ (c : Content). with_content (with_text rs q text) q (texted (content rs q).text c)) (content_put rs q (texted text (content rs q)) lt)
    ∙ content_back rs q (texted text (content rs q))

top_back : (ps : List Content) → 0 < length ps → top_of ps ∷ drop 1 ps ≡ ps
top_back [] lt = absurd (omega arith)
top_back (p ∷ ps) lt = refl

both_back : (b : Body) (rs rs' ps ps' : List Content) → rs ≡ rs' → ps ≡ ps'
    → (let x : Body = record b { registers = rs; pushed = ps } in x) ≡ record b { registers = rs'; pushed = ps' }
both_back b rs rs' ps ps' e f = rw (e, f) refl

-- turned twice, the body is as before
pub body_again : (t : Turn) (b : Body) → Stands t b → body_after (turn_after t b) (body_after t b) ≡ b
body_again (Splice at there pointer held) b f =
    ap (λ (xs : List ℕ). let x : Body = record b { text = xs } in x) (replaced_back b.text held at there f)
body_again (Lend from count there_from there pointer) b f =
    let put = lent b.input from count in
    let came : length put ≡ count = length-lent b.input from count in
    let went : lent b.input there_from there ≡ take there b.text = lent_text b.text b.input there_from there f.0.1 in
    ap (λ (xs : List ℕ). let x : Body = record b { text = xs } in x)
    (ap (λ (n : ℕ). replaced (replaced b.text 0 (0 + there) put) 0 (0 + n) (lent b.input there_from there)) (sym came)
    ∙ ap (λ (l : List ℕ). replaced (replaced b.text 0 (0 + there) put) 0 (0 + length put) l) went
    ∙ replaced_back b.text put 0 there (omega (arith, ap length f.0.1, length-lent b.input there_from there)))
body_again (PutIn held pointer) b f =
    ap (λ (xs : List ℕ). let x : Body = record b { text = xs } in x) (replaced_back b.text held 0 0 (omega arith))
body_again (TakeOut held pointer) b f =
    let went : held ≡ take (length held) b.text = sym f ∙ sym (take_all (length held) b.text (omega (arith, ap length f))) in
    ap (λ (xs : List ℕ). let x : Body = record b { text = xs } in x)
    (ap (λ (l : List ℕ). replaced (replaced b.text 0 (0 + length held) []) 0 (0 + 0) l) went ∙ replaced_back b.text [] 0 (length held) (omega (arith, ap length f)))
body_again (Point pointer) b f = refl
body_again (Number q n) b f = ap (λ (rs : List Content). let x : Body = record b { registers = rs } in x) (number_back b.registers q n f)
body_again (Text q held) b f = ap (λ (rs : List Content). let x : Body = record b { registers = rs } in x) (text_back b.registers q held f)
body_again (Push held) b f = refl
body_again TakeOff b f = ap (λ (ps : List Content). let x : Body = record b { pushed = ps } in x) (top_back b.pushed f)
body_again (PopInto q) b f =
    both_back b _ b.registers _ b.pushed (content_back b.registers q (top_of b.pushed))
    (ap (λ (c : Content). c ∷ drop 1 b.pushed) (content_put b.registers q (top_of b.pushed) f.0) ∙ top_back b.pushed f.1)
body_again (PutBack q held) b f = both_back b _ b.registers _ b.pushed (content_back b.registers q held) refl
body_again (Pages place output form_feed) b f = refl
body_again (Search held) b f = refl
body_again (Found found) b f = refl
body_again (Done done) b f = refl
body_again (Mode mode) b f = refl

-- and so is the change
pub turn_again : (t : Turn) (b : Body) → Stands t b → turn_after (turn_after t b) (body_after t b) ≡ t
turn_again (Splice at there pointer held) b f =
    let taken : length (take there (drop at b.text)) ≡ there = length-take-le there (drop at b.text) (omega (arith, length-drop at b.text, f)) in
    rw (taken, in_place b.text held at there f) refl
turn_again (Lend from count there_from there pointer) b f = refl
turn_again (PutIn held pointer) b f = refl
turn_again (TakeOut held pointer) b f = refl
turn_again (Point pointer) b f = refl
turn_again (Number q n) b f = ap (λ (c : Content). Number q c.number) (content_put b.registers q (numbered n (content b.registers q)) f)
turn_again (Text q held) b f = ap (λ (c : Content). Text q c.text) (content_put b.registers q (texted held (content b.registers q)) f)
turn_again (Push held) b f = refl
turn_again TakeOff b f = refl
turn_again (PopInto q) b f = refl
turn_again (PutBack q held) b f = ap (PutBack q) (content_put b.registers q held f)
turn_again (Pages place output form_feed) b f = refl
turn_again (Search held) b f = refl
turn_again (Found found) b f = refl
turn_again (Done done) b f = refl
turn_again (Mode mode) b f = refl

-- what the turned change takes out stands there
pub stands_after : (t : Turn) (b : Body) → Stands t b → Stands (turn_after t b) (body_after t b)
stands_after (Splice at there pointer held) b f =
    let n : length (replaced b.text at (at + there) held) + there ≡ length b.text + length held = length-replaced b.text held at there f in
    omega arith
stands_after (Lend from count there_from there pointer) b f =
    ((f.1, replaced_all b.text (lent b.input from count) (0 + there) (omega (arith, ap length f.0.1, length-lent b.input there_from there))), f.0.0)
stands_after (PutIn held pointer) b f = replaced_all b.text held (0 + 0) (ap length f)
stands_after (TakeOut held pointer) b f = replaced_all b.text [] (0 + length held) (omega (arith, ap length f))
stands_after (Point pointer) b f = tt
stands_after (Number q n) b f = rw (length-set b.registers q (numbered n (content b.registers q))) f
stands_after (Text q held) b f = rw (length-set b.registers q (texted held (content b.registers q))) f
stands_after (Push held) b f = omega arith
stands_after TakeOff b f = tt
stands_after (PopInto q) b f = rw (length-set b.registers q (top_of b.pushed)) f.0
stands_after (PutBack q held) b f = (rw (length-set b.registers q held) f, omega arith)
stands_after (Pages place output form_feed) b f = tt
stands_after (Search held) b f = tt
stands_after (Found found) b f = tt
stands_after (Done done) b f = tt
stands_after (Mode mode) b f = tt

-- the turned change fits the turned body
pub fits_after : (capacity top : ℕ) (t : Turn) (b : Body) → Fits capacity top t b → IsSound capacity top b → Fits capacity top (turn_after t b) (body_after t b)
fits_after capacity top t b f s = (stands_after t b f.0, subst (λ (x : Body). IsSound capacity top x) (sym (body_again t b f.0)) s)
