-- Where the fault is UTC, the bytes are a front of a token's spelling.
use Rattle.std.proofs.Common.{leb-true, ◌≡◌, ℕ, ◌≤◌, Bool, true, false, ◌⊎◌, cond, eqb, List, [], ◌∷◌, ◌++◌, Option, Some, None, Ok, Err, refl, sym, ap, subst, ◌∙◌, arith, append_assoc, inl, inr}
use Rattle.std.specs.Prelude.{◌&&◌, ◌||◌, ◌==◌, ◌-◌, not, nat_le}
use Rattle.std.proofs.lemmas.Bool.{eqb-true}
use Rattle.std.specs.List.{list_all}
use Rattle.teco_core.specs.declared.code.Code.{Code}
use Rattle.teco_core.specs.declared.code.Code.TheVariants.{Ill, Iqc, Iqn, Utc}
use Rattle.teco_core.specs.Refusal.{◌>>=◌}
use Rattle.teco_core.specs.Ascii.{is_digit, upper}
use Rattle.teco_core.specs.Register.{register_of}
use Rattle.teco_scan.specs.declared.command.Row.{Row}
use Rattle.teco_core.specs.declared.profile.Profile.{Profile}
use Rattle.teco_core.specs.declared.profile.Profile.TheVariants.{Named, Wide}
use Rattle.teco_scan.specs.declared.command.Modifiers.{Modifiers}
use Rattle.teco_scan.specs.declared.command.Name.{Name}
use Rattle.teco_scan.specs.declared.command.Name.TheVariants.{One, Two, Three, Control}
use Rattle.teco_scan.specs.declared.command.Form.{Form}
use Rattle.teco_scan.specs.declared.command.Form.TheVariants as form
use Rattle.teco_scan.specs.declared.command.Test.{Test}
use Rattle.teco_scan.specs.declared.command.Test.TheVariants as tests
use Rattle.teco_scan.specs.Table.{is_not_lower, is_first_letter, is_name, is_apart, is_table}
use Rattle.teco_scan.specs.Scan.{Reading, or_else, digits, bare, register, byte, text, set_text, replace, Instruction, step, mark, decide, tag, escape, run_of, after_run, test_of, byte_at, register_at, test_at, delimiter_at, text_at, operand_at, is_refused, admits, modifiers_at, ends_inside, is_cut, row_at, of_row, command_at, begins_run, token_from, no_modifiers}
use Rattle.teco_scan.specs.Spelling.{Marks, SpellsName, one_spelled, two_spelled, three_spelled, control_spelled, caret_spelled, Delimits, TextUpTo, SpellsOperand, bare_spelled, mark_spelled, escape_spelled, register_spelled, byte_spelled, test_spelled, text_spelled, tag_spelled, set_text_spelled, replace_spelled, Spells, IsFront}
use Rattle.teco_scan.proofs.IsSpelled.{Takes, IsByte, IsRegister, IsTest, append_nil, not_eqb, byte_takes, register_takes, test_takes, delimiter_takes, text_takes, IsCommand, as_token, TakesRow, row_takes, marks_take}
use Rattle.teco_scan.proofs.SpelledReads.{both}
use Rattle.teco_scan.proofs.IsLongest.{finished}
use Rattle.teco_scan.proofs.Faults.{Faults, other_faults, this_fault, marks_faults}

-- more bytes would make it P of something
abbrev pub CanEnd : {A : Type 0} → (A → List ℕ → Type 0) → List ℕ → Type 0
CanEnd P bs = (x : _) × (more : List ℕ) × P x (bs ++ more)

-- where the fault is UTC, more bytes would do
abbrev pub CutOf : {A : Type 0} → (A → List ℕ → Type 0) → List ℕ → Code → Type 0
CutOf P bs c = c ≡ Utc → CanEnd P bs

abbrev pub Cuts : {A : Type 0} → (A → List ℕ → Type 0) → List ℕ → Reading A → Type 0
Cuts P bs r = Faults (CutOf P bs) r

after_cut : {B : Type 0} (R : B → List ℕ → Type 0) (bs front rest : List ℕ) (r : Reading B) → bs ≡ front ++ rest → Faults (CutOf (λ y back. R y (front ++ back)) rest) r → Faults (CutOf R bs) r
after_cut R bs front rest r whole h = other_faults (CutOf (λ y back. R y (front ++ back)) rest) (CutOf R bs) r moved h
  where
    moved : (c : Code) → CutOf (λ y back. R y (front ++ back)) rest c → CutOf R bs c
    moved c h is = let e = h is in (e.0, e.1, subst (λ w. R e.0 w) (sym (append_assoc front rest e.1) ∙ ap (λ w. w ++ e.1) (sym whole)) e.2)

-- one reading and then others: what a cut one lacks, and then what the others want
then_cut : {A B : Type 0} (P : A → List ℕ → Type 0) (R : B → List ℕ → Type 0) (bs : List ℕ) (r : Reading A) (f : A × List ℕ → Reading B) → Takes P bs r → Faults (CutOf P bs) r →
    ((x : A) (front : List ℕ) → P x front → CanEnd R front) → ((x : A × List ℕ) (front : List ℕ) → P x.0 front → Faults (CutOf (λ y back. R y (front ++ back)) x.1) (f x)) → Faults (CutOf R bs) (r >>= f)
then_cut P R bs (Ok x) f t h finish next = after_cut R bs t.0 x.1 (f x) t.2 (next x t.0 t.1)
then_cut P R bs (Err c) f t h finish next = λ is. let cut = h is in let e = finish cut.0 (bs ++ cut.1) cut.2 in (e.0, cut.1 ++ e.1, subst (λ w. R e.0 w) (append_assoc bs cut.1 e.1) e.2)

byte_cuts : (bs : List ℕ) → Faults (CutOf IsByte bs) (byte_at bs)
unfolding byte_at
byte_cuts [] = λ is. (0, 0 ∷ [], refl)
byte_cuts (b ∷ bs) = tt

text_cuts : (d : ℕ) (bs : List ℕ) → Faults (CutOf (λ t front. TextUpTo d t front) bs) (text_at d bs)
unfolding text_at
text_cuts d [] = λ is. ([], d ∷ [], (tt, refl))
text_cuts d (b ∷ bs) = here (eqb b d) refl (text_at d bs) (text_cuts d bs)
  where
    here : (v : Bool) → eqb b d ≡ v → (r : Reading (List ℕ)) → Faults (CutOf (λ t front. TextUpTo d t front) bs) r → Faults (CutOf (λ t front. TextUpTo d t front) (b ∷ bs)) (cond v (Ok ([], bs)) (r >>= (λ t. Ok (b ∷ t.0, t.1))))
    here true e r h = tt
    here false e (Ok x) h = tt
    here false e (Err c) h = λ is. let cut = h is in (b ∷ cut.0, cut.1, ((not_eqb b d e, cut.2.0), ap (λ w. b ∷ w) cut.2.1))

register_cuts : (bs : List ℕ) → Faults (CutOf IsRegister bs) (register_at bs)
unfolding register_at byte_at
register_cuts [] = λ is. (0, 65 ∷ [], (65, refl, refl))
register_cuts (b ∷ bs) = here (register_of b)
  where
    here : (o : Option ℕ) → Faults (CutOf IsRegister (b ∷ bs)) (or_else o Iqn >>= (λ q. Ok (q, bs)))
    here None = λ is. absurd cc
    here (Some q) = tt

a_letter : (p : Profile) → test_of p 65 ≡ Some tests.Letter
unfolding test_of
a_letter Named = refl
a_letter Wide = refl

test_cuts : (p : Profile) (bs : List ℕ) → Faults (CutOf (IsTest p) bs) (test_at p bs)
unfolding test_at byte_at
test_cuts p [] = λ is. (tests.Letter, 65 ∷ [], (65, a_letter p, refl))
test_cuts p (b ∷ bs) = here (test_of p b)
  where
    here : (o : Option Test) → Faults (CutOf (IsTest p) (b ∷ bs)) (or_else o Iqc >>= (λ q. Ok (q, bs)))
    here None = λ is. absurd cc
    here (Some q) = tt

delimiter_cuts : (a : Bool) (n usual : ℕ) (bs : List ℕ) → Faults (CutOf (λ d front. Delimits (record { at = a; colons = n }) usual d front) bs) (delimiter_at (record { at = a; colons = n }) usual bs)
unfolding delimiter_at
delimiter_cuts true n usual bs = byte_cuts bs
delimiter_cuts false n usual bs = tt

some_delimiter : (a : Bool) (n usual : ℕ) → (d : ℕ) × (front : List ℕ) × Delimits (record { at = a; colons = n }) usual d front
some_delimiter true n usual = (usual, usual ∷ [], refl)
some_delimiter false n usual = (usual, [], (refl, refl))

nil_after : {B : Type 0} (R : B → List ℕ → Type 0) (y : B) (front : List ℕ) → R y front → CanEnd R front
nil_after R y front h = (y, [], subst (λ w. R y w) (sym (append_nil front)) h)

pub operand_cuts : (f : Form) (m : Modifiers) (bs : List ℕ) → Faults (CutOf (λ o front. SpellsOperand f m o front) bs) (operand_at f m bs)
unfolding operand_at
operand_cuts (form.Bare c) m bs = tt
operand_cuts (form.Mark c) m bs = tt
operand_cuts form.Escape m bs = tt
operand_cuts (form.Register c) m bs = then_cut IsRegister (λ o front. SpellsOperand (form.Register c) m o front) bs (register_at bs) _ (register_takes bs) (register_cuts bs)
    (λ q front is. nil_after (λ o front. SpellsOperand (form.Register c) m o front) (step (register c q)) front (subst (λ w. SpellsOperand (form.Register c) m (step (register c q)) w) (sym is.2) (register_spelled is.1))) (λ q front is. tt)
operand_cuts form.Byte m bs = then_cut IsByte (λ o front. SpellsOperand form.Byte m o front) bs (byte_at bs) _ (byte_takes bs) (byte_cuts bs)
    (λ b front is. nil_after (λ o front. SpellsOperand form.Byte m o front) (step (byte b)) front (subst (λ w. SpellsOperand form.Byte m (step (byte b)) w) (sym is) byte_spelled)) (λ b front is. tt)
operand_cuts form.Test m bs = then_cut (IsTest Named) (λ o front. SpellsOperand form.Test m o front) bs (test_at Named bs) _ (test_takes Named bs) (test_cuts Named bs)
    (λ t front is. nil_after (λ o front. SpellsOperand form.Test m o front) (decide t) front (subst (λ w. SpellsOperand form.Test m (decide t) w) (sym is.2) (test_spelled (Named, refl, is.1)))) (λ t front is. tt)
operand_cuts form.WideTest m bs = then_cut (IsTest Wide) (λ o front. SpellsOperand form.WideTest m o front) bs (test_at Wide bs) _ (test_takes Wide bs) (test_cuts Wide bs)
    (λ t front is. nil_after (λ o front. SpellsOperand form.WideTest m o front) (decide t) front (subst (λ w. SpellsOperand form.WideTest m (decide t) w) (sym is.2) (test_spelled (Wide, refl, is.1)))) (λ t front is. tt)
operand_cuts (form.Text c usual) m bs = then_cut (λ d front. Delimits m usual d front) (λ o front. SpellsOperand (form.Text c usual) m o front) bs (delimiter_at m usual bs) _ (delimiter_takes m.at m.colons usual bs) (delimiter_cuts m.at m.colons usual bs)
    (λ d front is. (step (text c []), d ∷ [], text_spelled d front (d ∷ []) is (tt, refl) refl))
    (λ d front is. then_cut (λ t front. TextUpTo d.0 t front) (λ o back. SpellsOperand (form.Text c usual) m o (front ++ back)) d.1 (text_at d.0 d.1) _ (text_takes d.0 d.1) (text_cuts d.0 d.1)
    (λ t back ends. nil_after (λ o back. SpellsOperand (form.Text c usual) m o (front ++ back)) (step (text c t)) back (text_spelled d.0 front back is ends refl)) (λ t back ends. tt))
operand_cuts form.Tag m bs = then_cut (λ t front. TextUpTo 33 t front) (λ o front. SpellsOperand form.Tag m o front) bs (text_at 33 bs) _ (text_takes 33 bs) (text_cuts 33 bs)
    (λ t front ends. nil_after (λ o front. SpellsOperand form.Tag m o front) (tag t) front (tag_spelled ends)) (λ t front ends. tt)
operand_cuts form.SetText m bs = then_cut IsRegister (λ o front. SpellsOperand form.SetText m o front) bs (register_at bs) _ (register_takes bs) (register_cuts bs)
    (λ q name named. finish_set q name named)
    (λ q name named. then_cut (λ d front. Delimits m 27 d front) (λ o front. SpellsOperand form.SetText m o (name ++ front)) q.1 (delimiter_at m 27 q.1) _ (delimiter_takes m.at m.colons 27 q.1) (delimiter_cuts m.at m.colons 27 q.1)
    (λ d front is. (step (set_text q.0 []), d ∷ [], set_text_spelled named.0 d front (d ∷ []) named.1 is (tt, refl) (ap (λ w. w ++ (front ++ d ∷ [])) named.2)))
    (λ d front is. then_cut (λ t front. TextUpTo d.0 t front) (λ o back. SpellsOperand form.SetText m o (name ++ (front ++ back))) d.1 (text_at d.0 d.1) _ (text_takes d.0 d.1) (text_cuts d.0 d.1)
    (λ t back ends. nil_after (λ o back. SpellsOperand form.SetText m o (name ++ (front ++ back))) (step (set_text q.0 t)) back (set_text_spelled named.0 d.0 front back named.1 is ends (ap (λ w. w ++ (front ++ back)) named.2))) (λ t back ends. tt)))
  where
    finish_set : (q : ℕ) (name : List ℕ) → IsRegister q name → CanEnd (λ o front. SpellsOperand form.SetText m o front) name
    finish_set q name named = let d = some_delimiter m.at m.colons 27 in
        (step (set_text q []), d.1 ++ (d.0 ∷ []), set_text_spelled named.0 d.0 d.1 (d.0 ∷ []) named.1 d.2 (tt, refl) (ap (λ w. w ++ (d.1 ++ (d.0 ∷ []))) named.2))
operand_cuts form.Replace m bs = then_cut (λ d front. Delimits m 27 d front) (λ o front. SpellsOperand form.Replace m o front) bs (delimiter_at m 27 bs) _ (delimiter_takes m.at m.colons 27 bs) (delimiter_cuts m.at m.colons 27 bs)
    (λ d front is. (step (replace [] []), d ∷ d ∷ [], replace_spelled d front (d ∷ []) (d ∷ []) is (tt, refl) (tt, refl) refl))
    (λ d front is. then_cut (λ t front. TextUpTo d.0 t front) (λ o back. SpellsOperand form.Replace m o (front ++ back)) d.1 (text_at d.0 d.1) _ (text_takes d.0 d.1) (text_cuts d.0 d.1)
    (λ t old ends. (step (replace t []), d.0 ∷ [], replace_spelled d.0 front old (d.0 ∷ []) is ends (tt, refl) refl))
    (λ t old ends. then_cut (λ u front. TextUpTo d.0 u front) (λ o back. SpellsOperand form.Replace m o (front ++ (old ++ back))) t.1 (text_at d.0 t.1) _ (text_takes d.0 t.1) (text_cuts d.0 t.1)
    (λ u new ends2. nil_after (λ o back. SpellsOperand form.Replace m o (front ++ (old ++ back))) (step (replace t.0 u)) new (replace_spelled d.0 front old new is ends ends2 refl)) (λ u new ends2. tt)))
operand_cuts form.Refused m bs = λ is. absurd cc

-- each form but a refused one has an operand
some_operand : (f : Form) (m : Modifiers) → is_refused f ≡ false → CanEnd (λ o front. SpellsOperand f m o front) []
unfolding test_of
some_operand (form.Bare c) m e = (step (bare c), [], bare_spelled)
some_operand (form.Mark c) m e = (mark c, [], mark_spelled)
some_operand form.Escape m e = (escape, [], escape_spelled)
some_operand (form.Register c) m e = (step (register c 0), 65 ∷ [], register_spelled refl)
some_operand form.Byte m e = (step (byte 0), 0 ∷ [], byte_spelled)
some_operand form.Test m e = (decide tests.Letter, 65 ∷ [], test_spelled (Named, refl, a_letter Named))
some_operand form.WideTest m e = (decide tests.Letter, 65 ∷ [], test_spelled (Wide, refl, a_letter Wide))
some_operand (form.Text c usual) m e = let d = some_delimiter m.at m.colons usual in (step (text c []), d.1 ++ (d.0 ∷ []), text_spelled d.0 d.1 (d.0 ∷ []) d.2 (tt, refl) refl)
some_operand form.Tag m e = (tag [], 33 ∷ [], tag_spelled (tt, refl))
some_operand form.SetText m e = let d = some_delimiter m.at m.colons 27 in (step (set_text 0 []), 65 ∷ (d.1 ++ (d.0 ∷ [])), set_text_spelled 65 d.0 d.1 (d.0 ∷ []) refl d.2 (tt, refl) refl)
some_operand form.Replace m e = let d = some_delimiter m.at m.colons 27 in (step (replace [] []), d.1 ++ (d.0 ∷ d.0 ∷ []), replace_spelled d.0 d.1 (d.0 ∷ []) (d.0 ∷ []) d.2 (tt, refl) (tt, refl) refl)
some_operand form.Refused m e = absurd cc

either_true : (v w : Bool) → (v || w) ≡ true → (v ≡ true) ⊎ (w ≡ true)
either_true true w e = inl refl
either_true false w e = inr e

first_upper : (l : ℕ) → is_first_letter l ≡ true → upper l ≡ l
first_upper l e = eqb-true (upper l) l (both (is_not_lower l) (not (l == 64)) (both (is_not_lower l && not (l == 64)) (not (l == 58)) (both (is_not_lower l && not (l == 64) && not (l == 58)) (not (is_digit l)) e).0).0).0

control_upper : (l : ℕ) → l ≤ 94 → upper l ≡ l
control_upper l h = grind arith

-- a name that the bytes end inside can be completed
name_ends : (n : Name) (bs : List ℕ) → is_name n ≡ true → ends_inside n bs ≡ true → (more : List ℕ) × SpellsName n (bs ++ more)
unfolding ends_inside
name_ends (One l) [] ok e = (l ∷ [], one_spelled (first_upper l ok))
name_ends (Two l k) [] ok e = let p = both (is_first_letter l) (is_not_lower k) ok in (l ∷ k ∷ [], two_spelled (first_upper l p.0) (eqb-true (upper k) k p.1))
name_ends (Three l k j) [] ok e =
    let p = both (is_first_letter l && is_not_lower k) (is_not_lower j) ok in
    let q = both (is_first_letter l) (is_not_lower k) p.0 in
    (l ∷ k ∷ j ∷ [], three_spelled (first_upper l q.0) (eqb-true (upper k) k q.1) (eqb-true (upper j) j p.1))
name_ends (Control l) [] ok e = let p = both (nat_le 65 l) (nat_le l 94) ok in
    let high : 65 ≤ l = leb-true 65 l p.0 in
    ((l - 64) ∷ [], control_spelled (omega arith))
name_ends (One l) (b ∷ bs) ok e = absurd cc
name_ends (Two l k) (b ∷ []) ok e = (k ∷ [], two_spelled (eqb-true (upper b) l e) (eqb-true (upper k) k (both (is_first_letter l) (is_not_lower k) ok).1))
name_ends (Two l k) (b ∷ c ∷ bs) ok e = absurd cc
name_ends (Three l k j) (b ∷ []) ok e =
    let p = both (is_first_letter l && is_not_lower k) (is_not_lower j) ok in
    (k ∷ j ∷ [], three_spelled (eqb-true (upper b) l e) (eqb-true (upper k) k (both (is_first_letter l) (is_not_lower k) p.0).1) (eqb-true (upper j) j p.1))
name_ends (Three l k j) (b ∷ c ∷ []) ok e =
    let p = both (is_first_letter l && is_not_lower k) (is_not_lower j) ok in
    let q = both (upper b == l) (upper c == k) e in
    (j ∷ [], three_spelled (eqb-true (upper b) l q.0) (eqb-true (upper c) k q.1) (eqb-true (upper j) j p.1))
name_ends (Three l k j) (b ∷ c ∷ d ∷ bs) ok e = absurd cc
name_ends (Control l) (b ∷ []) ok e =
    let caret : b ≡ 94 = eqb-true b 94 e in
    (l ∷ [], subst (λ w. SpellsName (Control l) (w ∷ l ∷ [])) (sym caret) (caret_spelled (control_upper l (leb-true l 94 (both (nat_le 65 l) (nat_le l 94) ok).1))))
name_ends (Control l) (b ∷ c ∷ bs) ok e = absurd cc

not_true : (v : Bool) → not v ≡ true → v ≡ false
not_true true e = absurd cc
not_true false e = refl

-- where the bytes end inside a name, some command's spelling goes on from them
cut_command : (rows : List Row) (m : Modifiers) (bs : List ℕ) → list_all (λ r. is_name r.name) rows ≡ true → is_cut rows m bs ≡ true → CanEnd (λ o front. IsCommand rows m o front) bs
unfolding is_cut
cut_command [] m bs ok e = absurd cc
cut_command (r ∷ rows) m bs ok e =
    elim (either_true (admits r m && not (is_refused r.form) && ends_inside r.name bs) (is_cut rows m bs) e) [
      | inl here ↦ let p = both (admits r m && not (is_refused r.form)) (ends_inside r.name bs) here in ends_here (both (admits r m) (not (is_refused r.form)) p.0) p.1
      | inr later ↦ again (cut_command rows m bs (both (is_name r.name) (list_all (λ r. is_name r.name) rows) ok).1 later)
    ]
  where
    ends_here : (admits r m ≡ true) × (not (is_refused r.form) ≡ true) → ends_inside r.name bs ≡ true → CanEnd (λ o front. IsCommand (r ∷ rows) m o front) bs
    ends_here h ends =
        let n = name_ends r.name bs (both (is_name r.name) (list_all (λ r. is_name r.name) rows) ok).0 ends in
        let o = some_operand r.form m (not_true (is_refused r.form) h.1) in
        (o.0, n.0 ++ o.1, record { row = r; among = inl refl; admitted = h.0; name = bs ++ n.0; operand = o.1; named = n.1; spelled = o.2; whole = sym (append_assoc bs n.0 o.1) })

    again : CanEnd (λ o front. IsCommand rows m o front) bs → CanEnd (λ o front. IsCommand (r ∷ rows) m o front) bs
    again h = (h.0, h.1, record { row = h.2.row; among = inr h.2.among; admitted = h.2.admitted; name = h.2.name; operand = h.2.operand; named = h.2.named; spelled = h.2.spelled; whole = h.2.whole })

command_cuts : (rows : List Row) → is_table rows ≡ true → (m : Modifiers) (bs : List ℕ) → Faults (CutOf (λ o front. IsCommand rows m o front) bs) (command_at rows m bs)
unfolding command_at
command_cuts rows table m bs = here (row_at rows m bs) (row_takes rows m bs)
  where
    cut_or_not : (v : Bool) → is_cut rows m bs ≡ v → Faults {A = Instruction} (CutOf (λ o front. IsCommand rows m o front) bs) (cond v (Err Utc) (Err Ill))
    cut_or_not true e = λ is. cut_command rows m bs (both (list_all (λ r. is_name r.name) rows) (is_apart rows) table).0 e
    cut_or_not false e = λ is. absurd cc

    as_command : (x : Row × List ℕ) (t : TakesRow rows m bs (Some x)) (c : Code) → CutOf (λ o back. SpellsOperand x.0.form m o back) x.1 c → CutOf (λ o back. IsCommand rows m o (t.2.0 ++ back)) x.1 c
    as_command x t c h is = let e = h is in (e.0, e.1, record { row = x.0; among = t.0; admitted = t.1; name = t.2.0; operand = x.1 ++ e.1; named = t.2.1; spelled = e.2; whole = refl })

    here : (o : Option (Row × List ℕ)) → TakesRow rows m bs o → Faults (CutOf (λ o front. IsCommand rows m o front) bs) (of_row rows m bs o)
    here None t = cut_or_not (is_cut rows m bs) refl
    here (Some x) t = after_cut (λ o front. IsCommand rows m o front) bs t.2.0 x.1 (operand_at x.0.form m x.1) t.2.2
        (other_faults (CutOf (λ o back. SpellsOperand x.0.form m o back) x.1) (CutOf (λ o back. IsCommand rows m o (t.2.0 ++ back)) x.1) (operand_at x.0.form m x.1) (as_command x t) (operand_cuts x.0.form m x.1))

behind_marks : (rows : List Row) (marks : List ℕ) (m : Modifiers) (bs : List ℕ) → Marks no_modifiers marks m → (r : Reading Instruction) → Faults (CutOf (λ o front. IsCommand rows m o front) bs) r →
    Faults (CutOf (λ t back. Spells rows t (marks ++ back)) bs) (r >>= finished m)
behind_marks rows marks m bs marked (Ok y) h = tt
behind_marks rows marks m bs marked (Err c) h = λ is. let e = h is in (record { modifiers = m; instruction = e.0 }, e.1, as_token marks marked e.2)

token_cuts : (rows : List Row) → is_table rows ≡ true → (bs : List ℕ) → Faults (CutOf (λ t front. Spells rows t front) bs) (token_from rows bs)
unfolding token_from
token_cuts rows table bs = here (begins_run bs)
  where
    command : (r : Reading Modifiers) → Takes (λ m front. Marks no_modifiers front m) bs r → Faults (λ c. c ≡ Ill) r → Faults (CutOf (λ t front. Spells rows t front) bs) (r >>= (λ m. command_at rows m.0 m.1 >>= finished m.0))
    command (Ok m) t h = after_cut (λ t front. Spells rows t front) bs t.0 m.1 (command_at rows m.0 m.1 >>= finished m.0) t.2 (behind_marks rows t.0 m.0 m.1 t.1 (command_at rows m.0 m.1) (command_cuts rows table m.0 m.1))
    command (Err c) t h = λ is. absurd cc

    here : (v : Bool) → Faults (CutOf (λ t front. Spells rows t front) bs) (cond v (Ok (record { modifiers = no_modifiers; instruction = step (digits (run_of bs)) }, after_run bs)) (modifiers_at no_modifiers bs >>= (λ m. command_at rows m.0 m.1 >>= finished m.0)))
    here true = tt
    here false = command (modifiers_at no_modifiers bs) (marks_take no_modifiers bs) (marks_faults no_modifiers bs)

-- where the fault is UTC, some token's spelling goes on from the bytes
pub cut_is_front : (rows : List Row) → is_table rows ≡ true → (bs : List ℕ) → token_from rows bs ≡ Err Utc → IsFront rows bs
cut_is_front rows table bs e = this_fault (CutOf (λ t front. Spells rows t front) bs) (token_from rows bs) Utc (token_cuts rows table bs) e refl
