-- The lines of a head: what each tells, whatever comes after it, and why bytes begin with none of them.
use Rattle.std.proofs.Common.{◌≡◌, ℕ, ◌+◌, ◌-◌, ◌<◌, ◌≤◌, true, List, [], ◌∷◌, ◌++◌, length, take, drop, get_or, replicate, Option, Some, None, refl, sym, ap, ◌∙◌, subst, arith, append_assoc, length-append}
use Rattle.std.specs.Prelude.{codes, decimal}
use Rattle.std.proofs.Math.ListN.{get_or-append}
use Rattle.std.proofs.Math.Seq.{take-append_seam, drop-append_seam, get_or-append_seam}
use Rattle.std.proofs.lemmas.List.{append_cancel_left, drop_more, take-append-drop, length-take-le, length-replicate}
use Rattle.teco_core.specs.declared.profile.Profile.{Profile}
use Rattle.teco_core.specs.declared.profile.Profile.TheVariants.{Named}
use Rattle.teco_journal.specs.HeadFaults.{Differ, IsCutOff, Fails}
use Rattle.teco_journal.specs.declared.head_reader.HeadFault.{HeadFault}
use Rattle.teco_journal.specs.declared.head_reader.HeadFault.TheVariants.{Version, Torn, Changed}
use Rattle.teco_journal.specs.Heads.{Beginning, HasHead, FitsNumber, FitsDepth, FitsInput, number_line, depth_line, input_lines, start_lines}
use Rattle.teco_journal.proofs.Lacking.{lacks, first_lacks, other_byte}
use Rattle.teco_journal.proofs.EventWords.{decimal_lacks}
use Rattle.teco_journal.proofs.Cuts.{found_then, cut_more, cut_then, differ_more}
use Rattle.teco_journal.proofs.Digits.{number_parts, number_lines_same}

no_dash : (ds x y : List ℕ) → lacks 45 ds ≡ true → 45 ∷ x ≡ ds ++ 10 ∷ y → ⊥
no_dash [] x y h e = absurd (cc)
no_dash (d ∷ ds) x y h e = (let same : d ≡ 45 = cc in other_byte d 45 (first_lacks 45 d ds h) same)

dash_differs : (n : ℕ) (x y : List ℕ) → FitsNumber n → codes "depth -\n" ++ x ≡ number_line (codes "depth ") n ++ y → ⊥
dash_differs n x y wide e =
    no_dash (decimal n) (10 ∷ x) y (decimal_lacks 45 n (omega arith) wide)
    (append_cancel_left (codes "depth ") (45 ∷ 10 ∷ x) (decimal n ++ 10 ∷ y) (e ∙ number_parts (codes "depth ") (decimal n) y))

-- A line of a depth tells one,
pub depth_lines_same : (a b : Option ℕ) (x y : List ℕ) → FitsDepth a → FitsDepth b → depth_line a ++ x ≡ depth_line b ++ y → (a ≡ b) × (x ≡ y)
depth_lines_same (Some m) (Some n) x y p q e = (let same = number_lines_same (codes "depth ") m n x y p q e in (ap Some same.0, same.1))
depth_lines_same (Some m) None x y p q e = absurd (dash_differs m y x p (sym e))
depth_lines_same None (Some n) x y p q e = absurd (dash_differs n x y q e)
depth_lines_same None None x y p q e = (refl, ap (drop 8) e)

depth_differs : (bytes : List ℕ) → Differ (codes "depth -\n") bytes → Fails FitsNumber (number_line (codes "depth ")) bytes Changed
    → (depth : Option ℕ) → FitsDepth depth → Differ (depth_line depth) bytes
depth_differs bytes none some (Some n) fits = some n fits
depth_differs bytes none some None fits = none

pub depth_fails : (bytes : List ℕ) (fault : HeadFault) → Differ (codes "depth -\n") bytes → Fails FitsNumber (number_line (codes "depth ")) bytes fault
    → Fails FitsDepth depth_line bytes fault
depth_fails bytes Torn none h = (Some h.0, h.1, h.2)
depth_fails bytes Changed none h = depth_differs bytes none h
depth_fails bytes Version none h = h

-- Lists that begin the same bytes and are as long are the same.
same_fronts : (ks bs x y : List ℕ) → length ks ≡ length bs → ks ++ x ≡ bs ++ y → (ks ≡ bs) × (x ≡ y)
same_fronts ks bs x y long e = (
  sym (take-append_seam ks x) ∙ ap (take (length ks)) e ∙ ap (λ (i : ℕ). take i (bs ++ y)) long ∙ take-append_seam bs y,
  sym (drop-append_seam ks x) ∙ ap (drop (length ks)) e ∙ ap (λ (i : ℕ). drop i (bs ++ y)) long ∙ drop-append_seam bs y,
)

-- and lines of an input tell one.
pub input_lines_same : (a b x y : List ℕ) → FitsInput a → FitsInput b → input_lines a ++ x ≡ input_lines b ++ y → (a ≡ b) × (x ≡ y)
input_lines_same a b x y p q e =
    let first = number_lines_same (codes "input ") (length a) (length b) (a ++ 10 ∷ x) (b ++ 10 ∷ y) p q
    (sym (number_parts (number_line (codes "input ") (length a)) a x) ∙ e ∙ number_parts (number_line (codes "input ") (length b)) b y) in
    let then = same_fronts a b (10 ∷ x) (10 ∷ y) first.0 first.1 in
    (then.0, ap (drop 1) then.1)

pub input_uncounted : (bytes : List ℕ) (fault : HeadFault) → Fails FitsNumber (number_line (codes "input ")) bytes fault → Fails FitsInput input_lines bytes fault
input_uncounted bytes Torn h =
    let long : length (replicate h.0 0) ≡ h.0 = length-replicate h.0 0 in (
      replicate h.0 0,
      subst FitsNumber (sym long) h.1,
      cut_more (number_line (codes "input ") (length (replicate h.0 0)) ++ replicate h.0 0) (10 ∷ []) bytes
          (cut_more (number_line (codes "input ") (length (replicate h.0 0))) (replicate h.0 0) bytes
          (subst (λ (n : ℕ). IsCutOff bytes (number_line (codes "input ") n)) (sym long) h.2)),
    )
input_uncounted bytes Changed h = λ input fits.
    differ_more (number_line (codes "input ") (length input) ++ input) (10 ∷ []) bytes
    (differ_more (number_line (codes "input ") (length input)) input bytes (h (length input) fits))
input_uncounted bytes Version h = h

pub input_cut_off : (bytes rest : List ℕ) (n : ℕ) → FitsNumber n → bytes ≡ number_line (codes "input ") n ++ rest → length rest ≤ n → Fails FitsInput input_lines bytes Torn
input_cut_off bytes rest n wide is short =
    let pad : List ℕ = replicate (n - length rest) 0 in
    let padded : length pad ≡ n - length rest = length-replicate (n - length rest) 0 in
    let long : length (rest ++ pad) ≡ n = (let both = length-append rest pad in omega (arith, both, padded)) in
    let more : List ℕ = pad ++ 10 ∷ [] in
    let line : List ℕ = number_line (codes "input ") n in (
      rest ++ pad,
      subst FitsNumber (sym long) wide,
      (
        more,
        (let both = length-append pad (10 ∷ []) in omega (arith, both)),
        ap (λ (i : ℕ). (number_line (codes "input ") i ++ (rest ++ pad)) ++ 10 ∷ []) long
            ∙ append_assoc line (rest ++ pad) (10 ∷ []) ∙ ap (λ (l : List ℕ). line ++ l) (append_assoc rest pad (10 ∷ []))
            ∙ sym (append_assoc line rest more) ∙ ap (λ (l : List ℕ). l ++ more) (sym is),
      ),
    )

pub input_unended : (bytes rest : List ℕ) (n : ℕ) → FitsNumber n → bytes ≡ number_line (codes "input ") n ++ rest → n < length rest → (get_or rest n 0 ≡ 10 → ⊥)
    → Fails FitsInput input_lines bytes Changed
input_unended bytes rest n wide is less other = λ input fits x y e.
    (let same = number_lines_same (codes "input ") (length input) n (input ++ 10 ∷ x) (rest ++ y) fits wide
    (sym (number_parts (number_line (codes "input ") (length input)) input x) ∙ e ∙ ap (λ (l : List ℕ). l ++ y) is ∙ append_assoc (number_line (codes "input ") n) rest y) in
    other
    (sym (get_or-append rest y 0 n less) ∙ ap (λ (l : List ℕ). get_or l n 0) (sym same.1)
    ∙ ap (λ (i : ℕ). get_or (input ++ 10 ∷ x) i 0) (sym same.0) ∙ get_or-append_seam input 10 x 0))

pub input_found : (bytes rest : List ℕ) (n : ℕ) → bytes ≡ number_line (codes "input ") n ++ rest → n < length rest → get_or rest n 0 ≡ 10
    → bytes ≡ input_lines (take n rest) ++ drop (n + 1) rest
input_found bytes rest n is less end =
    let long : length (take n rest) ≡ n = length-take-le n rest (omega arith) in
    let parted : rest ≡ take n rest ++ 10 ∷ drop (n + 1) rest =
    sym (take-append-drop n rest) ∙ ap (λ (l : List ℕ). take n rest ++ l) (drop_more rest n 0 less ∙ ap (λ (b : ℕ). b ∷ drop (n + 1) rest) end) in
    is ∙ ap (λ (l : List ℕ). number_line (codes "input ") n ++ l) parted
    ∙ ap (λ (i : ℕ). number_line (codes "input ") i ++ (take n rest ++ 10 ∷ drop (n + 1) rest)) (sym long)
    ∙ sym (number_parts (number_line (codes "input ") (length (take n rest))) (take n rest) (drop (n + 1) rest))

-- The lines of a start, one behind another.
abbrev lines_line : ℕ → List ℕ
lines_line n = number_line (codes "lines ") n

start_parts : (a b c x : List ℕ) → ((a ++ b) ++ c) ++ x ≡ a ++ (b ++ (c ++ x))
start_parts a b c x = append_assoc (a ++ b) c x ∙ append_assoc a b (c ++ x)

beginning_is : (s t : Profile) (l m : ℕ) (d e : Option ℕ) (i j : List ℕ) → s ≡ t → l ≡ m → d ≡ e → i ≡ j
    → (let a : Beginning = record { profile = s; lines = l; depth = d; input = i } in
    let b : Beginning = record { profile = t; lines = m; depth = e; input = j } in a ≡ b)
beginning_is s t l m d e i j o p q r = cc

pub start_lines_same : (a b : Beginning) (x y : List ℕ) → HasHead a → HasHead b → a.profile ≡ b.profile → start_lines a ++ x ≡ start_lines b ++ y → (a ≡ b) × (x ≡ y)
start_lines_same a b x y p q same e =
    let first = number_lines_same (codes "lines ") a.lines b.lines (depth_line a.depth ++ (input_lines a.input ++ x)) (depth_line b.depth ++ (input_lines b.input ++ y)) p.0 q.0
    (sym (start_parts (lines_line a.lines) (depth_line a.depth) (input_lines a.input) x) ∙ e ∙ start_parts (lines_line b.lines) (depth_line b.depth) (input_lines b.input) y) in
    let second = depth_lines_same a.depth b.depth (input_lines a.input ++ x) (input_lines b.input ++ y) p.1 q.1 first.1 in
    let third = input_lines_same a.input b.input x y p.2 q.2 second.1 in
    (beginning_is a.profile b.profile a.lines b.lines a.depth b.depth a.input b.input same first.0 second.0 third.0, third.1)

pub fails_at_lines : (bytes : List ℕ) (fault : HeadFault) → Fails FitsNumber (number_line (codes "lines ")) bytes fault → Fails HasHead start_lines bytes fault
fails_at_lines bytes Torn h =
    let beginning : Beginning = record { profile = Named; lines = h.0; depth = None; input = [] } in (
      beginning,
      (h.1, tt, (let wide : FitsNumber 0 = omega arith in wide)),
      cut_more (lines_line h.0 ++ depth_line None) (input_lines []) bytes (cut_more (lines_line h.0) (depth_line None) bytes h.2),
    )
fails_at_lines bytes Changed h = λ o fits.
    differ_more (lines_line o.lines ++ depth_line o.depth) (input_lines o.input) bytes
    (differ_more (lines_line o.lines) (depth_line o.depth) bytes (h o.lines fits.0))
fails_at_lines bytes Version h = h

after_lines : (bytes rest : List ℕ) (n : ℕ) (o : Beginning) (x y : List ℕ) → FitsNumber n → HasHead o → bytes ≡ lines_line n ++ rest → start_lines o ++ x ≡ bytes ++ y
    → depth_line o.depth ++ (input_lines o.input ++ x) ≡ rest ++ y
after_lines bytes rest n o x y wide fits is e =
    (number_lines_same (codes "lines ") o.lines n (depth_line o.depth ++ (input_lines o.input ++ x)) (rest ++ y) fits.0 wide
    (sym (start_parts (lines_line o.lines) (depth_line o.depth) (input_lines o.input) x) ∙ e ∙ ap (λ (l : List ℕ). l ++ y) is ∙ append_assoc (lines_line n) rest y)).1

pub fails_at_depth : (bytes rest : List ℕ) (n : ℕ) (fault : HeadFault) → FitsNumber n → bytes ≡ number_line (codes "lines ") n ++ rest → Fails FitsDepth depth_line rest fault
    → Fails HasHead start_lines bytes fault
fails_at_depth bytes rest n Torn wide is h =
    let beginning : Beginning = record { profile = Named; lines = n; depth = h.0; input = [] } in (
      beginning,
      (wide, h.1, (let none : FitsNumber 0 = omega arith in none)),
      cut_more (lines_line n ++ depth_line h.0) (input_lines []) bytes (cut_then (lines_line n) (depth_line h.0) bytes rest is h.2),
    )
fails_at_depth bytes rest n Changed wide is h = λ o fits x y e. h o.depth fits.1 (input_lines o.input ++ x) y (after_lines bytes rest n o x y wide fits is e)
fails_at_depth bytes rest n Version wide is h = h

pub fails_at_input : (bytes rest left : List ℕ) (n : ℕ) (depth : Option ℕ) (fault : HeadFault) → FitsNumber n → FitsDepth depth
    → bytes ≡ number_line (codes "lines ") n ++ rest → rest ≡ depth_line depth ++ left → Fails FitsInput input_lines left fault → Fails HasHead start_lines bytes fault
fails_at_input bytes rest left n depth Torn wide deep is there h =
    let beginning : Beginning = record { profile = Named; lines = n; depth = depth; input = h.0 } in (
      beginning,
      (wide, deep, h.1),
      cut_then (lines_line n ++ depth_line depth) (input_lines h.0) bytes left (found_then (lines_line n) (depth_line depth) bytes rest left is there) h.2,
    )
fails_at_input bytes rest left n depth Changed wide deep is there h = λ o fits x y e.
    h o.input fits.2 x y
    ((depth_lines_same o.depth depth (input_lines o.input ++ x) (left ++ y) fits.1 deep
    (after_lines bytes rest n o x y wide fits is e ∙ ap (λ (l : List ℕ). l ++ y) there ∙ append_assoc (depth_line depth) left y)).1)
fails_at_input bytes rest left n depth Version wide deep is there h = h

pub start_found : (p : Profile) (bytes rest left last input : List ℕ) (n : ℕ) (depth : Option ℕ) → bytes ≡ number_line (codes "lines ") n ++ rest → rest ≡ depth_line depth ++ left
    → left ≡ input_lines input ++ last → (let o : Beginning = record { profile = p; lines = n; depth = depth; input = input } in bytes ≡ start_lines o ++ last)
start_found p bytes rest left last input n depth a b c =
    found_then (lines_line n ++ depth_line depth) (input_lines input) bytes left last (found_then (lines_line n) (depth_line depth) bytes rest left a b) c
