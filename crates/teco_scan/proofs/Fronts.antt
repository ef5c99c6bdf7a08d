-- A front of a token's spelling is read as a token, or is UTC.
use Rattle.std.proofs.Common.{leb-true, ◌≡◌, ◌≢◌, ℕ, ◌+◌, ◌<◌, ◌≤◌, Bool, true, false, ◌⊎◌, cond, eqb, List, [], ◌∷◌, ◌++◌, length, Option, Some, None, Ok, Err, refl, sym, ap, subst, ◌∙◌, arith, append_assoc, inl, inr, length-append}
use Rattle.std.specs.Prelude.{◌&&◌, ◌||◌, not, nat_le, if◌then◌else◌}
use Rattle.std.proofs.lemmas.Bool.{eq-eqb, le-leb}
use Rattle.std.specs.List.{AllByRecursion}
use Rattle.teco_core.specs.declared.code.Code.{Code}
use Rattle.teco_core.specs.declared.code.Code.TheVariants.{Ill, Iqc, Iqn, Utc}
use Rattle.teco_core.specs.Refusal.{◌>>=◌}
use Rattle.teco_core.specs.Ascii.{is_digit, upper}
use Rattle.teco_core.specs.Register.{register_of}
use Rattle.teco_scan.specs.declared.command.Row.{Row}
use Rattle.teco_core.specs.declared.profile.Profile.{Profile}
use Rattle.teco_core.specs.declared.profile.Profile.TheVariants.{Named, Wide}
use Rattle.teco_scan.specs.declared.command.Modifiers.{Modifiers}
use Rattle.teco_scan.specs.declared.command.Name.{Name}
use Rattle.teco_scan.specs.declared.command.Form.{Form}
use Rattle.teco_scan.specs.declared.command.Form.TheVariants as form
use Rattle.teco_scan.specs.declared.command.Test.{Test}
use Rattle.teco_scan.specs.Table.{meets, is_table}
use Rattle.teco_scan.specs.Scan.{Reading, or_else, Instruction, TokenMeaning, test_of, byte_at, register_at, test_at, delimiter_at, text_at, operand_at, is_refused, admits, after_name, ends_inside, is_cut, row_at, of_row, command_at, begins_run, token_from, no_modifiers}
use Rattle.teco_scan.specs.Spelling.{test_form, Marks, no_mark, at_mark, colon_mark, SpellsName, one_spelled, two_spelled, three_spelled, control_spelled, caret_spelled, SpellsOperand, bare_spelled, mark_spelled, escape_spelled, register_spelled, byte_spelled, test_spelled, text_spelled, tag_spelled, set_text_spelled, replace_spelled, Among, BeginsWithRow, Spells, run_spelled, command_spelled, IsFront}
use Rattle.teco_scan.proofs.IsSpelled.{append_nil, TakesRow, row_takes, name_long}
use Rattle.teco_scan.proofs.SpelledReads.{both, IsName, NoMark, operand_again, name_again, meet, more_bytes, named_well, apart}
use Rattle.teco_scan.proofs.IsLongest.{name_start, finished, read_behind, IsLongerThan, longer_is, Reached, Finds, finds, alone_empty, alone_read}
use Rattle.teco_scan.proofs.Faults.{Faults, then_faults}

-- what is read is read again where more bytes follow, and so is a fault, unless the bytes were cut
abbrev pub Extends : {A : Type 0} → List ℕ → Reading A → Reading A → Type 0
Extends more (Ok x) long = long ≡ Ok (x.0, x.1 ++ more)
Extends more (Err c) long = c ≢ Utc → long ≡ Err c

then_extends : {A B : Type 0} (more : List ℕ) (r long : Reading A) (f : A × List ℕ → Reading B) → Extends more r long → ((x : A) (rest : List ℕ) → Extends more (f (x, rest)) (f (x, rest ++ more))) → Extends more (r >>= f) (long >>= f)
then_extends more (Ok x) long f h next = subst (λ r. Extends more (f x) (r >>= f)) (sym h) (next x.0 x.1)
then_extends more (Err c) long f h next = λ uncut. ap (λ r. r >>= f) (h uncut)

byte_extends : (bs more : List ℕ) → Extends more (byte_at bs) (byte_at (bs ++ more))
unfolding byte_at
byte_extends [] more = λ uncut. absurd (uncut refl)
byte_extends (b ∷ bs) more = refl

delimiter_extends : (a : Bool) (n usual : ℕ) (bs more : List ℕ) → Extends more (delimiter_at (record { at = a; colons = n }) usual bs) (delimiter_at (record { at = a; colons = n }) usual (bs ++ more))
unfolding delimiter_at
delimiter_extends true n usual bs more = byte_extends bs more
delimiter_extends false n usual bs more = refl

text_extends : (d : ℕ) (bs more : List ℕ) → Extends more (text_at d bs) (text_at d (bs ++ more))
unfolding text_at
text_extends d [] more = λ uncut. absurd (uncut refl)
text_extends d (b ∷ bs) more =
    elim (eqb b d) as (λ v. Extends more (cond v (Ok ([], bs)) (text_at d bs >>= (λ t. Ok (b ∷ t.0, t.1)))) (cond v (Ok ([], bs ++ more)) (text_at d (bs ++ more) >>= (λ t. Ok (b ∷ t.0, t.1))))) [
      | true ↦ refl
      | false ↦ then_extends more (text_at d bs) (text_at d (bs ++ more)) (λ t. Ok (b ∷ t.0, t.1)) (text_extends d bs more) (λ x rest. refl)
    ]

register_extends : (bs more : List ℕ) → Extends more (register_at bs) (register_at (bs ++ more))
unfolding register_at byte_at
register_extends [] more = λ uncut. absurd (uncut refl)
register_extends (b ∷ bs) more =
    elim (register_of b) as (λ (o : Option ℕ). Extends more (or_else o Iqn >>= (λ q. Ok (q, bs))) (or_else o Iqn >>= (λ q. Ok (q, bs ++ more)))) [ None ↦ λ uncut. refl | Some q ↦ refl ]

test_extends : (p : Profile) (bs more : List ℕ) → Extends more (test_at p bs) (test_at p (bs ++ more))
unfolding test_at byte_at
test_extends p [] more = λ uncut. absurd (uncut refl)
test_extends p (b ∷ bs) more =
    elim (test_of p b) as (λ (o : Option Test). Extends more (or_else o Iqc >>= (λ q. Ok (q, bs))) (or_else o Iqc >>= (λ q. Ok (q, bs ++ more)))) [ None ↦ λ uncut. refl | Some q ↦ refl ]

operand_extends : (f : Form) (m : Modifiers) (bs more : List ℕ) → Extends more (operand_at f m bs) (operand_at f m (bs ++ more))
unfolding operand_at
operand_extends (form.Bare c) m bs more = refl
operand_extends (form.Mark c) m bs more = refl
operand_extends form.Escape m bs more = refl
operand_extends (form.Register c) m bs more = then_extends more (register_at bs) (register_at (bs ++ more)) _ (register_extends bs more) (λ x rest. refl)
operand_extends form.Byte m bs more = then_extends more (byte_at bs) (byte_at (bs ++ more)) _ (byte_extends bs more) (λ x rest. refl)
operand_extends form.Test m bs more = then_extends more (test_at Named bs) (test_at Named (bs ++ more)) _ (test_extends Named bs more) (λ x rest. refl)
operand_extends form.WideTest m bs more = then_extends more (test_at Wide bs) (test_at Wide (bs ++ more)) _ (test_extends Wide bs more) (λ x rest. refl)
operand_extends (form.Text c usual) m bs more = then_extends more (delimiter_at m usual bs) (delimiter_at m usual (bs ++ more)) _ (delimiter_extends m.at m.colons usual bs more)
    (λ d rest. then_extends more (text_at d rest) (text_at d (rest ++ more)) _ (text_extends d rest more) (λ x rest. refl))
operand_extends form.Tag m bs more = then_extends more (text_at 33 bs) (text_at 33 (bs ++ more)) _ (text_extends 33 bs more) (λ x rest. refl)
operand_extends form.SetText m bs more = then_extends more (register_at bs) (register_at (bs ++ more)) _ (register_extends bs more)
    (λ q rest. then_extends more (delimiter_at m 27 rest) (delimiter_at m 27 (rest ++ more)) _ (delimiter_extends m.at m.colons 27 rest more)
    (λ d rest. then_extends more (text_at d rest) (text_at d (rest ++ more)) _ (text_extends d rest more) (λ x rest. refl)))
operand_extends form.Replace m bs more = then_extends more (delimiter_at m 27 bs) (delimiter_at m 27 (bs ++ more)) _ (delimiter_extends m.at m.colons 27 bs more)
    (λ d rest. then_extends more (text_at d rest) (text_at d (rest ++ more)) _ (text_extends d rest more)
    (λ t rest. then_extends more (text_at d rest) (text_at d (rest ++ more)) _ (text_extends d rest more) (λ x rest. refl)))
operand_extends form.Refused m bs more = λ uncut. refl

-- the fault, if one was read, is UTC
abbrev pub IsCutOnly : Code → Type 0
IsCutOnly c = c ≡ Utc

cut_or_not : (c : Code) → (c ≡ Utc) ⊎ (c ≢ Utc)
cut_or_not Utc = inl refl
cut_or_not c = inr (λ is. cc)

extended : {A : Type 0} (more : List ℕ) (r : Reading A) (x : A × List ℕ) → Extends more r (Ok x) → Faults IsCutOnly r
extended more (Ok y) x h = tt
extended more (Err c) x h = elim (cut_or_not c) [ inl is ↦ is | inr uncut ↦ let wrong = h uncut in absurd cc ]

-- the front of an operand's spelling
operand_front : {f : Form} {m : Modifiers} {o : Instruction} (bs more : List ℕ) → SpellsOperand f m o (bs ++ more) → Faults IsCutOnly (operand_at f m bs)
operand_front {f = f} {m = m} {o = o} bs more is =
    let whole : operand_at f m (bs ++ more) ≡ Ok (o, []) = ap (operand_at f m) (sym (append_nil (bs ++ more))) ∙ operand_again is [] in
    extended more (operand_at f m bs) (o, []) (subst (Extends more (operand_at f m bs)) whole (operand_extends f m bs more))

-- two ways to divide a list: the first part ends after the other's, or before it
abbrev pub Divided : List ℕ → List ℕ → List ℕ → List ℕ → Type 0
Divided a b c d = ((e : List ℕ) × (a ≡ c ++ e) × (d ≡ e ++ b)) ⊎ ((x : ℕ) × (e : List ℕ) × (c ≡ a ++ (x ∷ e)) × (b ≡ (x ∷ e) ++ d))

pub divide : (a b c d : List ℕ) → a ++ b ≡ c ++ d → Divided a b c d
divide a b [] d same = inl (a, refl, sym same)
divide [] b (x ∷ c) d same = inr (x, c, refl, same)
divide (y ∷ a) b (x ∷ c) d same =
    let head : y ≡ x = cc in
    let tail : a ++ b ≡ c ++ d = cc in
    elim (divide a b c d tail) [
      | inl h ↦ inl (h.0, (λ i. head i ∷ h.1 i), h.2)
      | inr h ↦ inr (h.0, h.1, (λ i. sym head i ∷ h.2 i), h.3)
    ]

-- Modifiers that the bytes end among.
marks_front : {m n : Modifiers} {whole : List ℕ} → Marks m whole n → (bs rest : List ℕ) → whole ≡ bs ++ rest → (k : Modifiers) × Marks m bs k × Marks k rest n
marks_front {m = m} no_mark [] rest same = (m, no_mark, subst (λ w. Marks m w m) same no_mark)
marks_front no_mark (b ∷ bs) rest same = absurd cc
marks_front {m = m} {n = n} (at_mark none more) [] rest same = (m, no_mark, subst (λ w. Marks m w n) same (at_mark none more))
marks_front {m = m} {n = n} (at_mark {bs = cs} none more) (b ∷ bs) rest same =
    let head : 64 ≡ b = cc in
    let tail : cs ≡ bs ++ rest = cc in
    let later = marks_front more bs rest tail in
    (later.0, subst (λ w. Marks m (w ∷ bs) later.0) head (at_mark none later.1), later.2)
marks_front {m = m} {n = n} (colon_mark few more) [] rest same = (m, no_mark, subst (λ w. Marks m w n) same (colon_mark few more))
marks_front {m = m} {n = n} (colon_mark {bs = cs} few more) (b ∷ bs) rest same =
    let head : 58 ≡ b = cc in
    let tail : cs ≡ bs ++ rest = cc in
    let later = marks_front more bs rest tail in
    (later.0, subst (λ w. Marks m (w ∷ bs) later.0) head (colon_mark few later.1), later.2)

-- a row that admits modifiers admits fewer
admits_fewer : (r : Row) {m n : Modifiers} {bs : List ℕ} → Marks m bs n → admits r n ≡ true → admits r m ≡ true
admits_fewer r no_mark e = e
admits_fewer r (at_mark {m = m} none more) e =
    let later : admits r (record m { at = true }) ≡ true = admits_fewer r more e in
    ap (λ v. (if v then r.allows.at else true) && nat_le m.colons r.allows.colons) none ∙ (both r.allows.at (nat_le m.colons r.allows.colons) later).1
admits_fewer r (colon_mark {m = m} few more) e =
    let later : admits r (record m { colons = m.colons + 1 }) ≡ true = admits_fewer r more e in
    let p = both (if m.at then r.allows.at else true) (nat_le (m.colons + 1) r.allows.colons) later in
    let low : m.colons + 1 ≤ r.allows.colons = leb-true (m.colons + 1) r.allows.colons p.1 in
    let fewer : nat_le m.colons r.allows.colons ≡ true = le-leb m.colons r.allows.colons (omega arith) in
    rw (p.0, fewer)

begins_marks : {m n : Modifiers} {marks : List ℕ} → Marks m marks n → begins_run marks ≡ false
begins_marks no_mark = refl
begins_marks (at_mark e more) = refl
begins_marks (colon_mark e more) = refl

-- a row that admits the modifiers, and inside whose name the bytes end, is seen
cut_seen : (rows : List Row) (row : Row) (m : Modifiers) (bs : List ℕ) → Among row rows → admits row m ≡ true → is_refused row.form ≡ false → ends_inside row.name bs ≡ true → is_cut rows m bs ≡ true
unfolding is_cut
cut_seen [] row m bs among admitted spelled ends = absurd among
cut_seen (r ∷ rows) row m bs (inl same) admitted spelled ends =
    let here : (admits r m && not (is_refused r.form) && ends_inside r.name bs) ≡ true =
    subst (λ (w : Row). (admits w m && not (is_refused w.form) && ends_inside w.name bs) ≡ true) same (rw (admitted, spelled, ends)) in
    ap (λ v. v || is_cut rows m bs) here
cut_seen (r ∷ rows) row m bs (inr later) admitted spelled ends =
    ap (λ v. admits r m && not (is_refused r.form) && ends_inside r.name bs || v) (cut_seen rows row m bs later admitted spelled ends) ∙ or_true (admits r m && not (is_refused r.form) && ends_inside r.name bs)
  where
    or_true : (v : Bool) → (v || true) ≡ true
    or_true true = refl
    or_true false = refl

not_refused : {f : Form} {m : Modifiers} {o : Instruction} {bs : List ℕ} → SpellsOperand f m o bs → is_refused f ≡ false
not_refused bare_spelled = refl
not_refused mark_spelled = refl
not_refused escape_spelled = refl
not_refused (register_spelled h) = refl
not_refused byte_spelled = refl
not_refused (test_spelled h) = ap is_refused h.1 ∙ elim h.0 as (λ (p : Profile). is_refused (test_form p) ≡ false) [ Named ↦ refl | Wide ↦ refl ]
not_refused (text_spelled d front back h k w) = refl
not_refused (tag_spelled h) = refl
not_refused (set_text_spelled b d front back g h k w) = refl
not_refused (replace_spelled d front old new h k l w) = refl

ends_at_once : (n : Name) → ends_inside n [] ≡ true
unfolding ends_inside
ends_at_once n = refl

longer_than : (cs bs : List ℕ) (x : ℕ) (e : List ℕ) → cs ≡ bs ++ (x ∷ e) → length bs < length cs
longer_than cs bs x e same = omega (arith, ap length same, length-append bs (x ∷ e))

-- a strict front of a name's spelling
inside_name : {n : Name} {cs : List ℕ} → SpellsName n cs → (bs : List ℕ) (x : ℕ) (e : List ℕ) → cs ≡ bs ++ (x ∷ e) → ends_inside n bs ≡ true
unfolding ends_inside
inside_name named [] x e same = refl
inside_name (one_spelled a) (b ∷ bs) x e same = absurd (omega (arith, longer_than _ (b ∷ bs) x e same))
inside_name (two_spelled {l = l} {b = c} a a2) (b ∷ []) x e same = let here : c ≡ b = cc in eq-eqb (upper b) l (ap upper (sym here) ∙ a)
inside_name (two_spelled a a2) (b ∷ c ∷ bs) x e same = absurd (omega (arith, longer_than _ (b ∷ c ∷ bs) x e same))
inside_name (three_spelled {l = l} {b = c} a a2 a3) (b ∷ []) x e same = let here : c ≡ b = cc in eq-eqb (upper b) l (ap upper (sym here) ∙ a)
inside_name (three_spelled {l = l} {k = k} {b = p} {c = q} a a2 a3) (b ∷ c ∷ []) x e same =
    let here : p ≡ b = cc in
    let next : q ≡ c = cc in
    let one : eqb (upper b) l ≡ true = eq-eqb (upper b) l (ap upper (sym here) ∙ a) in
    let two : eqb (upper c) k ≡ true = eq-eqb (upper c) k (ap upper (sym next) ∙ a2) in
    rw (one, two)
inside_name (three_spelled a a2 a3) (b ∷ c ∷ d ∷ bs) x e same = absurd (omega (arith, longer_than _ (b ∷ c ∷ d ∷ bs) x e same))
inside_name (control_spelled a) (b ∷ bs) x e same = absurd (omega (arith, longer_than _ (b ∷ bs) x e same))
inside_name (caret_spelled a) (b ∷ []) x e same = let here : 94 ≡ b = cc in eq-eqb b 94 (sym here)
inside_name (caret_spelled a) (b ∷ c ∷ bs) x e same = absurd (omega (arith, longer_than _ (b ∷ c ∷ bs) x e same))

-- Nothing is left of the bytes after the modifiers.
module _ (rows : List Row) (row : Row) (m : Modifiers) (among : Among row rows) (admitted : admits row m ≡ true) (spelled : is_refused row.form ≡ false) where
  no_row : (o : Option (Row × List ℕ)) → TakesRow rows m [] o → o ≡ None
  no_row None t = refl
  no_row (Some x) t = absurd (omega (arith, name_long t.2.1, ap length t.2.2, length-append t.2.0 x.1))

  cut_before_name : command_at rows m [] ≡ Err Utc
  unfolding command_at
  cut_before_name = ap (of_row rows m []) (no_row (row_at rows m []) (row_takes rows m [])) ∙ ap (λ v. cond v (Err Utc) (Err Ill)) (cut_seen rows row m [] among admitted spelled (ends_at_once row.name))

-- the bytes end among the modifiers
cut_in_marks : (rows : List Row) (row : Row) {m : Modifiers} (bs rest : List ℕ) → Among row rows → admits row m ≡ true → is_refused row.form ≡ false → Marks no_modifiers (bs ++ rest) m → token_from rows bs ≡ Err Utc
cut_in_marks rows row bs rest among admitted spelled marked =
    let front = marks_front marked bs rest refl in
    ap (token_from rows) (sym (append_nil bs)) ∙ read_behind rows front.1 [] tt refl ∙ ap (λ r. r >>= finished front.0) (cut_before_name rows row front.0 among (admits_fewer row front.2 admitted) spelled)

no_mark_front : (bs rest : List ℕ) → NoMark (bs ++ rest) → NoMark bs
no_mark_front [] rest h = tt
no_mark_front (b ∷ bs) rest h = h

no_run_front : (bs rest : List ℕ) → begins_run (bs ++ rest) ≡ false → begins_run bs ≡ false
no_run_front [] rest h = refl
no_run_front (b ∷ bs) rest h = h

-- The bytes end inside the name: a shorter one is read, or they are cut.
module _ (rows : List Row) (table : is_table rows ≡ true) (row : Row) (m : Modifiers) (name bs : List ℕ) (x : ℕ) (e : List ℕ) (among : Among row rows) (admitted : admits row m ≡ true) (spelled : is_refused row.form ≡ false) (named : SpellsName row.name name) (same : name ≡ bs ++ (x ∷ e)) where
  well : IsName row.name
  well = named_well rows table row among

  or_else_true : (v w : Bool) → (v || not w) ≡ true → v ≡ false → w ≡ false
  or_else_true true w h is = absurd cc
  or_else_true false true h is = absurd cc
  or_else_true false false h is = refl

  shorter : (y : Row × List ℕ) → TakesRow rows m bs (Some y) → Faults IsCutOnly (operand_at y.0.form m y.1)
  shorter y t = elim (apart rows table y.0 row t.0 among met back) [
    | inl equal ↦
        let other : SpellsName row.name t.2.0 = subst (λ (w : Row). SpellsName w.name t.2.0) equal t.2.1 in
        let one : after_name row.name name ≡ Some [] = ap (after_name row.name) (sym (append_nil name)) ∙ name_again named well [] in
        let two : after_name row.name name ≡ Some (y.1 ++ (x ∷ e)) = ap (after_name row.name) divided ∙ name_again other well (y.1 ++ (x ∷ e)) in
        let nothing : Some (y.1 ++ (x ∷ e)) ≡ Some [] = sym two ∙ one in
        let none : y.1 ++ (x ∷ e) ≡ [] = cc in
        absurd (omega (arith, ap length none, length-append y.1 (x ∷ e)))
    | inr long ↦ elim long [
      | inl longer ↦ absurd (omega (arith, more_bytes (longer_is y.0 row longer).letters t.2.1 named, longer_than name bs x e same, ap length t.2.2, length-append t.2.0 y.1))
      | inr longer ↦ alone (longer_is row y.0 longer)
    ]
  ]
    where
      divided : name ≡ t.2.0 ++ (y.1 ++ (x ∷ e))
      divided = same ∙ ap (λ w. w ++ (x ∷ e)) t.2.2 ∙ append_assoc t.2.0 y.1 (x ∷ e)

      met : meets y.0.name row.name ≡ true
      met = meet y.0.name row.name t.2.0 name (y.1 ++ (x ∷ e)) [] (named_well rows table y.0 t.0) well t.2.1 named (sym divided ∙ sym (append_nil name))

      back : meets row.name y.0.name ≡ true
      back = meet row.name y.0.name name t.2.0 [] (y.1 ++ (x ∷ e)) well (named_well rows table y.0 t.0) named t.2.1 (append_nil name ∙ divided)

      alone : IsLongerThan row y.0 → Faults IsCutOnly (operand_at y.0.form m y.1)
      alone longer = elim (alone_read y.0.form m y.1 longer.other_alone) [
        | inl read ↦ subst (Faults IsCutOnly) (sym read.1) tt
        | inr refused ↦ let wrong : is_refused form.Refused ≡ false = subst (λ f. is_refused f ≡ false) refused (or_else_true (is_refused row.form) (is_refused y.0.form) longer.refused spelled) in absurd cc
      ]

  cut_in_name : Faults IsCutOnly (command_at rows m bs)
  unfolding command_at
  cut_in_name = here (row_at rows m bs) (row_takes rows m bs)
    where
      here : (o : Option (Row × List ℕ)) → TakesRow rows m bs o → Faults IsCutOnly (of_row rows m bs o)
      here None t = subst (λ v. Faults {A = Instruction} IsCutOnly (cond v (Err Utc) (Err Ill))) (sym (cut_seen rows row m bs among admitted spelled (inside_name named bs x e same))) refl
      here (Some y) t = shorter y t

run_front : (rows : List Row) (bs rest : List ℕ) → 0 < length bs → AllByRecursion (λ b. is_digit b ≡ true) (bs ++ rest) → Faults IsCutOnly (token_from rows bs)
unfolding token_from
run_front rows [] rest long all = absurd (omega arith)
run_front rows (b ∷ bs) rest long all = rw all.0 tt

-- a front of a token's spelling that has a byte is read as a token, or is UTC
pub front_reads : (rows : List Row) → is_table rows ≡ true → (bs : List ℕ) → 0 < length bs → IsFront rows bs → Faults IsCutOnly (token_from rows bs)
front_reads rows table bs some front = of_spelling front.2 refl
  where
    operand : {row : Row} {m : Modifiers} {i : Instruction} {behind : List ℕ} (more : List ℕ) → BeginsWithRow rows row m bs behind → SpellsOperand row.form m i (behind ++ more) → Faults IsCutOnly (token_from rows bs)
    operand {row = row} {m = m} {behind = behind} more stands is = by (finds rows table stands)
      where
        reached : (y : Row × List ℕ) → Reached row behind y → Faults IsCutOnly (operand_at y.0.form m y.1)
        reached y (inl same) = subst (λ (w : Row). Faults IsCutOnly (operand_at w.form m y.1)) (sym same.0) (subst (λ w. Faults IsCutOnly (operand_at row.form m w)) (sym same.1) (operand_front behind more is))
        reached y (inr longer) = absurd (omega (arith, longer.1, ap length (alone_empty is longer.0.other_alone), length-append behind more))

        by : Finds rows row m bs behind → Faults IsCutOnly (token_from rows bs)
        by found = subst (Faults IsCutOnly) (sym found.reads) (then_faults IsCutOnly (operand_at found.at.0.form m found.at.1) (finished m) (reached found.at found.reached) (λ i. tt))

    command : {m : Modifiers} {i : Instruction} {whole : List ℕ} (row : Row) (argument : List ℕ) → BeginsWithRow rows row m whole argument → SpellsOperand row.form m i argument → whole ≡ bs ++ front.1 → Faults IsCutOnly (token_from rows bs)
    command {m = m} {i = i} row argument stands is same = in_marks (divide bs front.1 stands.marks (stands.name ++ argument) (sym same ∙ stands.whole))
      where
        well : IsName row.name
        well = named_well rows table row stands.among

        start : NoMark (stands.name ++ argument) × (begins_run (stands.name ++ argument) ≡ false)
        start = name_start stands.named well argument

        in_name : (e : List ℕ) → bs ≡ stands.marks ++ e → (stands.name ++ argument ≡ e ++ front.1) → Divided e front.1 stands.name argument → Faults IsCutOnly (token_from rows bs)
        in_name e here left (inl d) = operand front.1
            (record { among = stands.among; admitted = stands.admitted; marks = stands.marks; name = stands.name; marked = stands.marked; named = stands.named; whole = here ∙ ap (λ w. stands.marks ++ w) d.1 })
            (subst (SpellsOperand row.form m i) d.2 is)
        in_name e here left (inr d) =
            let free = no_mark_front e front.1 (subst NoMark left start.0) in
            let no_run = no_run_front e front.1 (ap begins_run (sym left) ∙ start.1) in
            subst (Faults IsCutOnly) (sym (ap (token_from rows) here ∙ read_behind rows stands.marked e free no_run))
            (then_faults IsCutOnly (command_at rows m e) (finished m) (cut_in_name rows table row m stands.name e d.0 d.1 stands.among stands.admitted (not_refused is) stands.named d.2) (λ i. tt))

        in_marks : Divided bs front.1 stands.marks (stands.name ++ argument) → Faults IsCutOnly (token_from rows bs)
        in_marks (inl d) = in_name d.0 d.1 d.2 (divide d.0 front.1 stands.name argument (sym d.2))
        in_marks (inr d) = subst (Faults IsCutOnly) (sym (cut_in_marks rows row bs (d.0 ∷ d.1) stands.among stands.admitted (not_refused is) (subst (λ w. Marks no_modifiers w m) d.2 stands.marked))) refl

    of_spelling : {t : TokenMeaning} {whole : List ℕ} → Spells rows t whole → whole ≡ bs ++ front.1 → Faults IsCutOnly (token_from rows bs)
    of_spelling (run_spelled long all) same = run_front rows bs front.1 some (subst (AllByRecursion (λ b. is_digit b ≡ true)) same all)
    of_spelling (command_spelled row argument stands is) same = command row argument stands is same
