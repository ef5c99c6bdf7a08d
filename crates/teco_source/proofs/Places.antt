-- Where a caret cannot be read.
use Rattle.std.proofs.Common.{◌≡◌, ℕ, zero, suc, ◌+◌, ◌-◌, ◌≤◌, Bool, true, false, List, [], ◌∷◌, ◌++◌, Option, Some, None, Result, Err, take, refl, sym, ap, subst, ◌∙◌, arith, eqb}
use Rattle.std.specs.Prelude.{is_ok, if◌then◌else◌}
use Rattle.teco_source.specs.declared.reader.Mode.{Mode}
use Rattle.teco_source.specs.declared.reader.Mode.TheVariants.{First, Margin, Blank, Text, Hash, Mark, Caret, Comment, Wrong}
use Rattle.teco_source.specs.Source.{State, start, is_blank, ends_line, marked, put_marked, mark_in, blank_in, plain, step, is_wrong, ended, commands_from, commands_of}
use Rattle.teco_source.specs.Laws.{PlacesAreFirst}
use Rattle.teco_source.proofs.Bytes.{split, at, mark_step, sharp_step}

-- no caret waits
abbrev is_fine : Mode → Bool
is_fine Caret = false
is_fine Wrong = false
is_fine _ = true

fine_ends : (mode : Mode) (bytes blanks : List ℕ) (n : ℕ) → is_fine mode ≡ true → is_ok (ended (at mode bytes blanks) n) ≡ true
fine_ends First bytes blanks n f = refl
fine_ends Margin bytes blanks n f = refl
fine_ends Blank bytes blanks n f = refl
fine_ends Text bytes blanks n f = refl
fine_ends Hash bytes blanks n f = refl
fine_ends Mark bytes blanks n f = refl
fine_ends Comment bytes blanks n f = refl
fine_ends Caret bytes blanks n f = cc
fine_ends Wrong bytes blanks n f = cc

line_fine : (v : Bool) → is_wrong (if v then Blank else Margin) ≡ false
line_fine true = refl
line_fine false = refl

mark_fine : (mode : Mode) (s : State) → is_wrong (mark_in mode s).mode ≡ false
mark_fine First s = refl
mark_fine Margin s = refl
mark_fine Blank s = refl
mark_fine Text s = refl
mark_fine Hash s = refl
mark_fine Mark s = refl
mark_fine Caret s = refl
mark_fine Comment s = refl
mark_fine Wrong s = refl

blank_fine : (mode : Mode) (bytes blanks : List ℕ) (b : ℕ) → is_fine mode ≡ true → is_wrong (blank_in mode (at mode bytes blanks) b).mode ≡ false
blank_fine First bytes blanks b f = refl
blank_fine Margin bytes blanks b f = refl
blank_fine Blank bytes blanks b f = refl
blank_fine Text bytes blanks b f = refl
blank_fine Hash bytes blanks b f = refl
blank_fine Mark bytes blanks b f = refl
blank_fine Caret bytes blanks b f = cc
blank_fine Comment bytes blanks b f = refl
blank_fine Wrong bytes blanks b f = cc

plain_fine : (mode : Mode) (bytes blanks : List ℕ) (b : ℕ) → is_fine mode ≡ true → is_wrong (plain (at mode bytes blanks) b).mode ≡ false
plain_fine mode bytes blanks b f =
    split (eqb b 10) (λ e. rw e (line_fine (ends_line bytes))) (λ e10.
    split (eqb b 94) (λ e. rw (e10, e) refl) (λ e94.
    split (eqb b 33) (λ e. rw (e10, e94, e) (mark_fine mode (at mode bytes blanks))) (λ e33.
    split (is_blank b) (λ e. rw (e10, e94, e33, e) (blank_fine mode bytes blanks b f)) (λ e.
    rw (e10, e94, e33, e) refl))))

step_fine : (mode : Mode) (bytes blanks : List ℕ) (b : ℕ) → is_fine mode ≡ true → is_wrong (step (at mode bytes blanks) b).mode ≡ false
unfolding step
step_fine First bytes blanks b f = split (eqb b 35) (λ e. rw e refl) (λ e. rw e (plain_fine First bytes blanks b refl))
step_fine Margin bytes blanks b f = plain_fine Margin bytes blanks b refl
step_fine Blank bytes blanks b f = plain_fine Blank bytes blanks b refl
step_fine Text bytes blanks b f = plain_fine Text bytes blanks b refl
step_fine Hash bytes blanks b f = split (eqb b 33) (λ e. rw e refl) (λ e. ap (λ (s : State). is_wrong s.mode) (sharp_step b bytes blanks e) ∙ plain_fine Text (bytes ++ blanks ++ 35 ∷ []) [] b refl)
step_fine Mark bytes blanks b f = split (eqb b 33) (λ e. rw e refl) (λ e. ap (λ (s : State). is_wrong s.mode) (mark_step b bytes blanks e) ∙ plain_fine Text (bytes ++ blanks ++ 33 ∷ []) [] b refl)
step_fine Comment bytes blanks b f = split (eqb b 10) (λ e. rw e (line_fine (ends_line bytes))) (λ e. rw e refl)
step_fine Caret bytes blanks b f = cc
step_fine Wrong bytes blanks b f = cc

is_caret : (mode : Mode) → is_wrong mode ≡ false → is_fine mode ≡ false → mode ≡ Caret
is_caret Caret w f = refl
is_caret First w f = cc
is_caret Margin w f = cc
is_caret Blank w f = cc
is_caret Text w f = cc
is_caret Hash w f = cc
is_caret Mark w f = cc
is_caret Comment w f = cc
is_caret Wrong w f = cc

-- after a caret a reader is in a line, or it is wrong
marked_fine : (o : Option (List ℕ)) (s : State) → is_wrong (put_marked o s).mode ≡ false → is_fine (put_marked o s).mode ≡ true
marked_fine (Some bs) s w = refl
marked_fine None s w = cc

caret_fine : (mode : Mode) (bytes blanks : List ℕ) (c : ℕ) → mode ≡ Caret → is_wrong (step (at mode bytes blanks) c).mode ≡ false → is_fine (step (at mode bytes blanks) c).mode ≡ true
unfolding step
caret_fine Caret bytes blanks c m w = marked_fine (marked c) (at Caret bytes blanks) w
caret_fine First bytes blanks c m w = cc
caret_fine Margin bytes blanks c m w = cc
caret_fine Blank bytes blanks c m w = cc
caret_fine Text bytes blanks c m w = cc
caret_fine Hash bytes blanks c m w = cc
caret_fine Mark bytes blanks c m w = cc
caret_fine Comment bytes blanks c m w = cc
caret_fine Wrong bytes blanks c m w = cc

caret_ends : (mode : Mode) (bytes blanks : List ℕ) (n : ℕ) → mode ≡ Caret → ended (at mode bytes blanks) n ≡ Err (n - 1)
caret_ends mode bytes blanks n m = rw m refl

go_on : (s : State) (n b : ℕ) (bs : List ℕ) → is_wrong (step s b).mode ≡ false → commands_from s n (b ∷ bs) ≡ commands_from (step s b) (suc n) bs
unfolding commands_from
go_on s n b bs w = rw w refl

stops : (s : State) (n b : ℕ) (bs : List ℕ) → is_wrong (step s b).mode ≡ true → commands_from s n (b ∷ bs) ≡ Err (n - 1)
unfolding commands_from
stops s n b bs w = rw w refl

-- The bytes before the place are read, and no more.
record Breaks (s : State) (n p : ℕ) (xs : List ℕ) : Type 0 where
  k : ℕ
  is : p ≡ n + k
  before : is_ok (commands_from s n (take k xs)) ≡ true
  more : (m : ℕ) → suc k ≤ m → commands_from s n (take m xs) ≡ Err p

ends_well : (s : State) (n : ℕ) → is_fine s.mode ≡ true → is_ok (commands_from s n []) ≡ true
unfolding commands_from
ends_well s n f = fine_ends s.mode s.bytes s.blanks n f

not_both : (p : ℕ) (s : State) (n : ℕ) → is_ok (commands_from s n []) ≡ true → commands_from s n [] ≡ Err p → ⊥
not_both p s n ok e = let off : is_ok (commands_from s n []) ≡ false = rw e refl in cc

-- a byte more before the place
byte_before : (s : State) (n p b : ℕ) (bs : List ℕ) → is_wrong (step s b).mode ≡ false → Breaks (step s b) (suc n) p bs → Breaks s n p (b ∷ bs)
byte_before s n p b bs w r = record {
  k = suc r.k;
  is = let e : p ≡ suc n + r.k = r.is in omega arith;
  before = ap is_ok (go_on s n b (take r.k bs) w) ∙ r.before;
  more = longer;
}
  where
    longer : (m : ℕ) → suc (suc r.k) ≤ m → commands_from s n (take m (b ∷ bs)) ≡ Err p
    longer zero h = absurd (omega arith)
    longer (suc m) h = go_on s n b (take m bs) w ∙ r.more m (omega arith)

-- the place is here, at a caret
breaks_here : (s : State) (n b : ℕ) (bs : List ℕ) → is_fine s.mode ≡ true → ((m : ℕ) → commands_from s n (b ∷ take m bs) ≡ Err n) → Breaks s n n (b ∷ bs)
breaks_here s n b bs f all = record {
  k = 0;
  is = omega arith;
  before = ends_well s n f;
  more = longer;
}
  where
    longer : (m : ℕ) → 1 ≤ m → commands_from s n (take m (b ∷ bs)) ≡ Err n
    longer zero h = absurd (omega arith)
    longer (suc m) h = all m

abbrev fault : ℕ → Result (List ℕ) ℕ
fault n = Err n

same_place : (n p : ℕ) → fault n ≡ fault p → n ≡ p
same_place n p e = cc

before_more : (n : ℕ) → fault (suc n - 1) ≡ fault n
before_more n = let e : suc n - 1 ≡ n = omega arith in ap fault e

-- after a caret nothing can be read
at_caret : (s : State) (n b : ℕ) → is_wrong (step s b).mode ≡ false → (step s b).mode ≡ Caret → commands_from s n (b ∷ []) ≡ Err n
unfolding commands_from
at_caret s n b w m = go_on s n b [] w ∙ caret_ends (step s b).mode (step s b).bytes (step s b).blanks (suc n) m ∙ before_more n

after_caret : (s : State) (n b c : ℕ) (bs : List ℕ) → is_wrong (step s b).mode ≡ false → is_wrong (step (step s b) c).mode ≡ true → commands_from s n (b ∷ c ∷ bs) ≡ Err n
after_caret s n b c bs w v = go_on s n b (c ∷ bs) w ∙ stops (step s b) (suc n) c bs v ∙ before_more n

places : (xs : List ℕ) (s : State) (n p : ℕ) → is_fine s.mode ≡ true → commands_from s n xs ≡ Err p → Breaks s n p xs
places [] s n p f e = absurd (not_both p s n (ends_well s n f) e)
places (b ∷ []) s n p f e =
    let w : is_wrong (step s b).mode ≡ false = step_fine s.mode s.bytes s.blanks b f in
    split (is_fine (step s b).mode) (λ g. byte_before s n p b [] w (places [] (step s b) (suc n) p g (sym (go_on s n b [] w) ∙ e))) (λ g.
    let m : (step s b).mode ≡ Caret = is_caret (step s b).mode w g in
    let here : commands_from s n (b ∷ []) ≡ Err n = at_caret s n b w m in
    subst (λ (q : ℕ). Breaks s n q (b ∷ [])) (same_place n p (sym here ∙ e)) (breaks_here s n b [] f (only here)))
  where
    only : commands_from s n (b ∷ []) ≡ Err n → (m : ℕ) → commands_from s n (b ∷ take m []) ≡ Err n
    only here zero = here
    only here (suc m) = here
places (b ∷ c ∷ bs) s n p f e =
    let w : is_wrong (step s b).mode ≡ false = step_fine s.mode s.bytes s.blanks b f in
    split (is_fine (step s b).mode) (λ g. byte_before s n p b (c ∷ bs) w (places (c ∷ bs) (step s b) (suc n) p g (sym (go_on s n b (c ∷ bs) w) ∙ e))) (λ g.
    let m : (step s b).mode ≡ Caret = is_caret (step s b).mode w g in
    split (is_wrong (step (step s b) c).mode) (λ v.
    subst (λ (q : ℕ). Breaks s n q (b ∷ c ∷ bs)) (same_place n p (sym (after_caret s n b c bs w v) ∙ e)) (breaks_here s n b (c ∷ bs) f (each w m v))) (λ v.
    byte_before s n p b (c ∷ bs) w (byte_before (step s b) (suc n) p c bs v
    (places bs (step (step s b) c) (suc (suc n)) p (caret_fine (step s b).mode (step s b).bytes (step s b).blanks c m v)
    (sym (go_on s n b (c ∷ bs) w ∙ go_on (step s b) (suc n) c bs v) ∙ e)))))
  where
    each : is_wrong (step s b).mode ≡ false → (step s b).mode ≡ Caret → is_wrong (step (step s b) c).mode ≡ true → (m : ℕ) → commands_from s n (b ∷ take m (c ∷ bs)) ≡ Err n
    each w m v zero = at_caret s n b w m
    each w m v (suc k) = after_caret s n b c (take k bs) w v

pub places_are_first : PlacesAreFirst
places_are_first source p e =
    let r : Breaks start 0 p source = places source start 0 p refl e in
    let i : p ≡ 0 + r.k = r.is in
    let is : r.k ≡ p = omega arith in (
      subst (λ (q : ℕ). is_ok (commands_of (take q source)) ≡ true) is r.before,
      subst (λ (q : ℕ). (m : ℕ) → suc q ≤ m → commands_of (take m source) ≡ Err p) is r.more,
    )
