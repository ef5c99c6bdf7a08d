-- Each byte of the commands has its place in the source, and places grow.
use Rattle.std.proofs.Common.{◌≡◌, ℕ, zero, suc, ◌+◌, ◌-◌, ◌<◌, ◌≤◌, Bool, true, false, ◌&&◌, List, [], ◌∷◌, ◌++◌, Option, Some, None, Result, Ok, Err, length, take, refl, sym, ap, subst, ◌∙◌, arith, eqb, nat_le, nat_lt, ltb-true, ltb-false, append_assoc}
use Rattle.std.specs.Prelude.{if◌then◌else◌}
use Rattle.std.specs.List.{list_all}
use Rattle.std.proofs.lemmas.Bool.{le-leb, lt-ltb}
use Rattle.std.proofs.lemmas.List.{append-nil, length-append, length-take-le, take_all}
use Rattle.std.proofs.Math.Seq.{take-append_seam, take-append-add}
use Rattle.teco_source.specs.declared.reader.Mode.{Mode}
use Rattle.teco_source.specs.declared.reader.Mode.TheVariants.{First, Margin, Blank, Text, Hash, Mark, Caret, Comment, Wrong}
use Rattle.teco_source.specs.Laws.{PlacesGrow, begin_there, bytes_in, is_rising}
use Rattle.teco_source.specs.Source.{State, start, is_blank, ends_line, marked, put, put_marked, mark_in, blank_in, plain, step, run, ended}
use Rattle.teco_source.specs.Places.{bytes_begun, fitted, places_from, places_of}
use Rattle.teco_source.proofs.Bytes.{run-append, split, at, mark_step, sharp_step}
use Rattle.teco_source.proofs.Reading.{bytes_of_run}

-- how many bytes are there, with the blanks
abbrev held : State → ℕ
held s = length s.bytes + length s.blanks

puts_one : (s : State) (b : ℕ) → bytes_begun (put (b ∷ []) s) ≡ suc (held s)
puts_one s b = rw (length-append (s.bytes ++ s.blanks) (b ∷ []), length-append s.bytes s.blanks) (omega arith)

puts_none : (s : State) → bytes_begun (put [] s) ≡ held s
puts_none s = rw (length-append (s.bytes ++ s.blanks) [], length-append s.bytes s.blanks) (omega arith)

line_begun : (v : Bool) (bytes : List ℕ) → bytes_begun (at (if v then Blank else Margin) bytes []) ≡ length bytes
line_begun true bytes = omega arith
line_begun false bytes = omega arith

mark_begun : (mode : Mode) (s : State) → bytes_begun (mark_in mode s) ≡ suc (held s)
mark_begun Text s = puts_one s 33
mark_begun First s = omega arith
mark_begun Margin s = omega arith
mark_begun Blank s = omega arith
mark_begun Hash s = omega arith
mark_begun Mark s = omega arith
mark_begun Caret s = omega arith
mark_begun Comment s = omega arith
mark_begun Wrong s = omega arith

abbrev is_in_line : Mode → Bool
is_in_line First = true
is_in_line Margin = true
is_in_line Blank = true
is_in_line Text = true
is_in_line _ = false

one_more : (bytes blanks : List ℕ) (b : ℕ) → length bytes + (length (blanks ++ b ∷ []) + 0) ≡ suc (length bytes + length blanks)
one_more bytes blanks b = rw (length-append blanks (b ∷ [])) (omega arith)

blank_begun : (mode : Mode) (bytes blanks : List ℕ) (b : ℕ) → is_in_line mode ≡ true → bytes_begun (blank_in mode (at mode bytes blanks) b) ≤ suc (length bytes + length blanks)
blank_begun First bytes blanks b h = omega arith
blank_begun Margin bytes blanks b h = omega arith
blank_begun Blank bytes blanks b h = let e = one_more bytes blanks b in omega (arith, e)
blank_begun Text bytes blanks b h = let e = one_more bytes blanks b in omega (arith, e)
blank_begun Hash bytes blanks b h = cc
blank_begun Mark bytes blanks b h = cc
blank_begun Caret bytes blanks b h = cc
blank_begun Comment bytes blanks b h = cc
blank_begun Wrong bytes blanks b h = cc

no_more : {m n : ℕ} → m ≡ n → m ≤ n
no_more {m} {n} e = omega (arith, e)

plain_begun : (mode : Mode) (bytes blanks : List ℕ) (b : ℕ) → is_in_line mode ≡ true → bytes_begun (plain (at mode bytes blanks) b) ≤ suc (length bytes + length blanks)
plain_begun mode bytes blanks b h =
    split (eqb b 10) (λ e. let l = line_begun (ends_line bytes) bytes in rw e (omega (arith, l))) (λ e10.
    split (eqb b 94) (λ e. rw (e10, e) (omega arith)) (λ e94.
    split (eqb b 33) (λ e. rw (e10, e94, e) (no_more (mark_begun mode (at mode bytes blanks)))) (λ e33.
    split (is_blank b) (λ e. rw (e10, e94, e33, e) (blank_begun mode bytes blanks b h)) (λ e.
    rw (e10, e94, e33, e) (no_more (puts_one (at mode bytes blanks) _))))))

abbrev size : Option (List ℕ) → ℕ
size (Some bs) = length bs
size None = 0

marked_size : (b : ℕ) → size (marked b) ≤ 1
marked_size b =
    split (eqb b 36) (λ e. rw e (omega arith)) (λ a.
    split (eqb b 33) (λ e. rw (a, e) (omega arith)) (λ c.
    split (eqb b 126) (λ e. rw (a, c, e) (omega arith)) (λ d.
    split (eqb b 61) (λ e. rw (a, c, d, e) (omega arith)) (λ f.
    split (eqb b 63) (λ e. rw (a, c, d, f, e) (omega arith)) (λ g.
    split (eqb b 96) (λ e. rw (a, c, d, f, g, e) (omega arith)) (λ k.
    split (eqb b 46) (λ e. rw (a, c, d, f, g, k, e) (omega arith)) (λ h.
    split (nat_le 64 b && nat_le b 95) (λ e. rw (a, c, d, f, g, k, h, e) (omega arith)) (λ i.
    split (nat_le 97 b && nat_le b 122) (λ e. rw (a, c, d, f, g, k, h, i, e) (omega arith)) (λ e. rw (a, c, d, f, g, k, h, i, e) (omega arith))))))))))

marked_begun : (o : Option (List ℕ)) (s : State) → size o ≤ 1 → bytes_begun (put_marked o s) ≤ suc (held s)
marked_begun (Some bs) s h =
    let e : length (s.bytes ++ s.blanks ++ bs) ≡ length s.bytes + (length s.blanks + length bs) = rw (length-append (s.bytes ++ s.blanks) bs, length-append s.bytes s.blanks) (omega arith) in
    omega (arith, e)
marked_begun None s h = omega arith

widen : (n x a b : ℕ) → n ≤ suc (x + 0) → x + 0 ≡ suc (a + b) → n ≤ suc (a + (b + 1))
widen n x a b p q = omega (arith, p, q)

after_begun : (bytes blanks : List ℕ) (c b : ℕ) → bytes_begun (plain (at Text (bytes ++ blanks ++ c ∷ []) []) b) ≤ suc (length bytes + (length blanks + 1))
after_begun bytes blanks c b =
    widen (bytes_begun (plain (at Text (bytes ++ blanks ++ c ∷ []) []) b)) (length (bytes ++ blanks ++ c ∷ [])) (length bytes) (length blanks)
    (plain_begun Text (bytes ++ blanks ++ c ∷ []) [] b refl) (puts_one (at Text bytes blanks) c)

-- a byte more of the source begins a byte at most
pub step_begun : (mode : Mode) (bytes blanks : List ℕ) (b : ℕ) → bytes_begun (step (at mode bytes blanks) b) ≤ suc (bytes_begun (at mode bytes blanks))
unfolding step
step_begun First bytes blanks b = split (eqb b 35) (λ e. rw e (omega arith)) (λ e. rw e (let p = plain_begun First bytes blanks b refl in omega (arith, p)))
step_begun Margin bytes blanks b = let p = plain_begun Margin bytes blanks b refl in omega (arith, p)
step_begun Blank bytes blanks b = let p = plain_begun Blank bytes blanks b refl in omega (arith, p)
step_begun Text bytes blanks b = let p = plain_begun Text bytes blanks b refl in omega (arith, p)
step_begun Hash bytes blanks b = split (eqb b 33) (λ e. rw e (omega arith)) (λ e.
    subst (λ (s : State). bytes_begun s ≤ suc (length bytes + (length blanks + 1))) (sym (sharp_step b bytes blanks e)) (after_begun bytes blanks 35 b))
step_begun Mark bytes blanks b = split (eqb b 33) (λ e. rw e (omega arith)) (λ e.
    subst (λ (s : State). bytes_begun s ≤ suc (length bytes + (length blanks + 1))) (sym (mark_step b bytes blanks e)) (after_begun bytes blanks 33 b))
step_begun Caret bytes blanks b = let p = marked_begun (marked b) (at Caret bytes blanks) (marked_size b) in omega (arith, p)
step_begun Comment bytes blanks b = split (eqb b 10) (λ e. rw e (let l = line_begun (ends_line bytes) bytes in omega (arith, l))) (λ e. rw e (omega arith))
step_begun Wrong bytes blanks b = omega arith

-- ---- lists of places

both : (a b : Bool) → a && b ≡ true → (a ≡ true) × (b ≡ true)
both true b h = (refl, h)
both false b h = cc

rise_push : (low k : ℕ) (ps : List ℕ) → is_rising low ps ≡ true → list_all (λ p. nat_lt p k) ps ≡ true → low ≤ k → is_rising low (ps ++ k ∷ []) ≡ true
rise_push low k [] r a h = rw (le-leb low k h) refl
rise_push low k (p ∷ ps) r a h =
    let one = both (nat_le low p) (is_rising (suc p) ps) r in
    let two = both (nat_lt p k) (list_all (λ q. nat_lt q k) ps) a in
    let lt : p < k = ltb-true p k two.0 in
    rw (one.0, rise_push (suc p) k ps one.1 two.1 (omega (arith, lt))) refl

rise_take : (n low : ℕ) (ps : List ℕ) → is_rising low ps ≡ true → is_rising low (take n ps) ≡ true
rise_take zero low ps r = refl
rise_take (suc n) low [] r = refl
rise_take (suc n) low (p ∷ ps) r = let one = both (nat_le low p) (is_rising (suc p) ps) r in rw (one.0, rise_take n (suc p) ps one.1) refl

all_take : (n k : ℕ) (ps : List ℕ) → list_all (λ p. nat_lt p k) ps ≡ true → list_all (λ p. nat_lt p k) (take n ps) ≡ true
all_take zero k ps a = refl
all_take (suc n) k [] a = refl
all_take (suc n) k (p ∷ ps) a = let one = both (nat_lt p k) (list_all (λ q. nat_lt q k) ps) a in rw (one.0, all_take n k ps one.1) refl

all_push : (k : ℕ) (ps : List ℕ) → list_all (λ p. nat_lt p k) ps ≡ true → list_all (λ p. nat_lt p (suc k)) (ps ++ k ∷ []) ≡ true
all_push k [] a = rw (lt-ltb k (suc k) (omega arith)) refl
all_push k (p ∷ ps) a =
    let one = both (nat_lt p k) (list_all (λ q. nat_lt q k) ps) a in
    let lt : p < k = ltb-true p k one.0 in
    rw (lt-ltb p (suc k) (omega (arith, lt)), all_push k ps one.1) refl

all_more : (k : ℕ) (ps : List ℕ) → list_all (λ p. nat_lt p k) ps ≡ true → list_all (λ p. nat_lt p (suc k)) ps ≡ true
all_more k [] a = refl
all_more k (p ∷ ps) a =
    let one = both (nat_lt p k) (list_all (λ q. nat_lt q k) ps) a in
    let lt : p < k = ltb-true p k one.0 in
    rw (lt-ltb p (suc k) (omega (arith, lt)), all_more k ps one.1) refl

-- so many places as bytes have begun, which rise below this one
record Rises (count k : ℕ) (ps : List ℕ) : Type 0 where
  many : length ps ≡ count
  rises : is_rising 0 ps ≡ true
  inside : list_all (λ p. nat_lt p k) ps ≡ true

fit_rises : (count k : ℕ) (ps : List ℕ) → count ≤ suc (length ps) → is_rising 0 ps ≡ true → list_all (λ p. nat_lt p k) ps ≡ true → Rises count (suc k) (fitted count k ps)
fit_rises count k ps h r a =
    split (nat_lt (length ps) count) (λ e.
    let lots : length ps < count = ltb-true (length ps) count e in
    let is : count ≡ suc (length ps) = omega (arith, h, lots) in
    let one : count - length ps ≡ 1 = omega (arith, is) in
    let whole : take count ps ≡ ps = take_all count ps (omega (arith, is)) in
    rw (one, whole) (record {
      many = length-append ps (k ∷ []) ∙ omega (arith, is);
      rises = rise_push 0 k ps r a (omega arith);
      inside = all_push k ps a;
    })) (λ e.
    let few : count ≤ length ps = ltb-false (length ps) count e in
    let none : count - length ps ≡ 0 = omega (arith, few) in
    rw (none, append-nil (take count ps)) (record {
      many = length-take-le count ps few;
      rises = rise_take count 0 ps r;
      inside = all_more k (take count ps) (all_take count k ps a);
    }))

-- as many as have begun
fit_many : (count k : ℕ) (ps : List ℕ) → count ≤ suc (length ps) → length (fitted count k ps) ≡ count
fit_many count k ps h =
    split (nat_lt (length ps) count) (λ e.
    let lots : length ps < count = ltb-true (length ps) count e in
    let is : count ≡ suc (length ps) = omega (arith, h, lots) in
    let one : count - length ps ≡ 1 = omega (arith, is) in
    let whole : take count ps ≡ ps = take_all count ps (omega (arith, is)) in
    rw (one, whole) (length-append ps (k ∷ []) ∙ omega (arith, is))) (λ e.
    let few : count ≤ length ps = ltb-false (length ps) count e in
    let none : count - length ps ≡ 0 = omega (arith, few) in
    rw (none, append-nil (take count ps)) (length-take-le count ps few))

goes : (xs : List ℕ) (s : State) (k : ℕ) (ps : List ℕ) → Rises (bytes_begun s) k ps → Rises (bytes_begun (run s xs)) (k + length xs) (places_from s k ps xs)
unfolding places_from run
goes [] s k ps r = subst (λ (n : ℕ). Rises (bytes_begun s) n ps) (omega arith) r
goes (b ∷ bs) s k ps r =
    let h : bytes_begun (step s b) ≤ suc (bytes_begun s) = step_begun s.mode s.bytes s.blanks b in
    let next = fit_rises (bytes_begun (step s b)) k ps (rw r.many h) r.rises r.inside in
    subst (λ (n : ℕ). Rises (bytes_begun (run (step s b) bs)) n (places_from (step s b) (suc k) (fitted (bytes_begun (step s b)) k ps) bs)) (omega arith)
    (goes bs (step s b) (suc k) (fitted (bytes_begun (step s b)) k ps) next)

-- ---- each place is that of its byte

there_push : (source : List ℕ) (n k : ℕ) (ps : List ℕ) → begin_there source n ps ≡ true
    → bytes_begun (run start (take k source)) ≤ n + length ps → n + length ps < bytes_begun (run start (take (suc k) source))
    → begin_there source n (ps ++ k ∷ []) ≡ true
unfolding begin_there
there_push source n k [] t low high =
    let l : bytes_begun (run start (take k source)) ≤ n = omega (arith, low) in
    let h : n < bytes_begun (run start (take (suc k) source)) = omega (arith, high) in
    rw (le-leb (bytes_begun (run start (take k source))) n l, lt-ltb n (bytes_begun (run start (take (suc k) source))) h) refl
there_push source n k (p ∷ ps) t low high =
    let one = both (nat_le (bytes_begun (run start (take p source))) n && nat_lt n (bytes_begun (run start (take (suc p) source)))) (begin_there source (suc n) ps) t in
    let l : bytes_begun (run start (take k source)) ≤ suc n + length ps = omega (arith, low) in
    let h : suc n + length ps < bytes_begun (run start (take (suc k) source)) = omega (arith, high) in
    rw (one.0, there_push source (suc n) k ps one.1 l h) refl

there_take : (source : List ℕ) (m n : ℕ) (ps : List ℕ) → begin_there source n ps ≡ true → begin_there source n (take m ps) ≡ true
unfolding begin_there
there_take source zero n ps t = refl
there_take source (suc m) n [] t = refl
there_take source (suc m) n (p ∷ ps) t =
    let one = both (nat_le (bytes_begun (run start (take p source))) n && nat_lt n (bytes_begun (run start (take (suc p) source)))) (begin_there source (suc n) ps) t in
    rw (one.0, there_take source m (suc n) ps one.1) refl

there_fits : (source : List ℕ) (count k : ℕ) (ps : List ℕ) → count ≤ suc (length ps) → begin_there source 0 ps ≡ true
    → bytes_begun (run start (take k source)) ≡ length ps → bytes_begun (run start (take (suc k) source)) ≡ count
    → begin_there source 0 (fitted count k ps) ≡ true
there_fits source count k ps h t before after =
    split (nat_lt (length ps) count) (λ e.
    let lots : length ps < count = ltb-true (length ps) count e in
    let is : count ≡ suc (length ps) = omega (arith, h, lots) in
    let one : count - length ps ≡ 1 = omega (arith, is) in
    let whole : take count ps ≡ ps = take_all count ps (omega (arith, is)) in
    rw (one, whole) (there_push source 0 k ps t (omega (arith, before)) (omega (arith, after, lots)))) (λ e.
    let few : count ≤ length ps = ltb-false (length ps) count e in
    let none : count - length ps ≡ 0 = omega (arith, few) in
    rw (none, append-nil (take count ps)) (there_take source count 0 ps t))

goes_there : (source front xs : List ℕ) (ps : List ℕ) → source ≡ front ++ xs → begin_there source 0 ps ≡ true
    → length ps ≡ bytes_begun (run start front)
    → begin_there source 0 (places_from (run start front) (length front) ps xs) ≡ true
unfolding places_from run
goes_there source front [] ps is t many = t
goes_there source front (b ∷ bs) ps is t many =
    let s = run start front in
    let next : run start (front ++ b ∷ []) ≡ step s b = run-append start front (b ∷ []) in
    let long : length (front ++ b ∷ []) ≡ suc (length front) = length-append front (b ∷ []) ∙ omega arith in
    let h : bytes_begun (step s b) ≤ suc (bytes_begun s) = step_begun s.mode s.bytes s.blanks b in
    let cut : take (length front) source ≡ front = ap (take (length front)) is ∙ take-append_seam front (b ∷ bs) in
    let one_more_byte : suc (length front) ≡ length front + 1 = omega arith in
    let more : take (suc (length front)) source ≡ front ++ b ∷ [] =
    ap (λ (n : ℕ). take n source) one_more_byte ∙ ap (take (length front + 1)) is ∙ take-append-add front (b ∷ bs) 1 in
    let before : bytes_begun (run start (take (length front) source)) ≡ length ps = ap (λ w. bytes_begun (run start w)) cut ∙ sym many in
    let after : bytes_begun (run start (take (suc (length front)) source)) ≡ bytes_begun (step s b) = ap (λ w. bytes_begun (run start w)) more ∙ ap bytes_begun next in
    let fits = there_fits source (bytes_begun (step s b)) (length front) ps (rw many h) t before after in
    let lengths : length (fitted (bytes_begun (step s b)) (length front) ps) ≡ bytes_begun (step s b) = fit_many (bytes_begun (step s b)) (length front) ps (rw many h) in
    subst (λ (u : State). begin_there source 0 (places_from u (suc (length front)) (fitted (bytes_begun (step s b)) (length front) ps) bs) ≡ true) next
    (subst (λ (n : ℕ). begin_there source 0 (places_from (run start (front ++ b ∷ [])) n (fitted (bytes_begun (step s b)) (length front) ps) bs) ≡ true) long
    (goes_there source (front ++ b ∷ []) bs (fitted (bytes_begun (step s b)) (length front) ps) (is ∙ sym (append_assoc front (b ∷ []) bs)) fits (lengths ∙ ap bytes_begun (sym next))))

-- at the end no more bytes are there than have begun
ends_few : (mode : Mode) (bytes blanks commands : List ℕ) (n : ℕ) → ended (at mode bytes blanks) n ≡ Ok commands → length commands ≤ bytes_begun (at mode bytes blanks)
ends_few First bytes blanks commands n e = let is : bytes ≡ commands = cc in rw (← is) (omega arith)
ends_few Margin bytes blanks commands n e = let is : bytes ≡ commands = cc in rw (← is) (omega arith)
ends_few Blank bytes blanks commands n e = let is : bytes ≡ commands = cc in rw (← is) (omega arith)
ends_few Text bytes blanks commands n e = let is : bytes ≡ commands = cc in rw (← is) (omega arith)
ends_few Comment bytes blanks commands n e = let is : bytes ≡ commands = cc in rw (← is) (omega arith)
ends_few Hash bytes blanks commands n e =
    let is : bytes ++ blanks ++ 35 ∷ [] ≡ commands = cc in
    let l = puts_one (at Hash bytes blanks) 35 in
    rw (← is) (omega (arith, l))
ends_few Mark bytes blanks commands n e =
    let is : bytes ++ blanks ++ 33 ∷ [] ≡ commands = cc in
    let l = puts_one (at Mark bytes blanks) 33 in
    rw (← is) (omega (arith, l))
ends_few Caret bytes blanks commands n e = cc
ends_few Wrong bytes blanks commands n e = cc

same_bytes : (r : Result (List ℕ) ℕ) (commands : List ℕ) → Some commands ≡ bytes_in r → r ≡ Ok commands
same_bytes (Ok bytes) commands e = cc
same_bytes (Err at) commands e = cc

pub places_grow : PlacesGrow
unfolding begin_there run
places_grow source =
    let none : 0 + length source ≡ length source = omega arith in
    let r : Rises (bytes_begun (run start source)) (length source) (places_of source) =
    subst (λ (n : ℕ). Rises (bytes_begun (run start source)) n (places_of source)) none
    (goes source start 0 [] (record { many = refl; rises = refl; inside = refl })) in
    let s = run start source in
    record {
      rises = r.rises;
      inside = r.inside;
      there = goes_there source [] source [] refl refl refl;
      each = λ commands e.
          let is : Some commands ≡ bytes_in (ended s 0) = sym (ap bytes_in e) ∙ bytes_of_run start 0 source refl in
          let few = ends_few s.mode s.bytes s.blanks commands 0 (same_bytes (ended s 0) commands is) in
          rw r.many few;
    }
