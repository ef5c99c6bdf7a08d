-- What is read from the front of bytes is spelled so by them.
use Rattle.std.proofs.Common.{◌≡◌, ◌≢◌, ℕ, ◌+◌, ◌<◌, Bool, true, false, cond, eqb, List, [], ◌∷◌, ◌++◌, length, Option, Some, None, Ok, Err, refl, sym, ap, subst, ◌∙◌, arith, append_assoc, inl, inr, length-append}
use Rattle.std.specs.Prelude.{option_and_then}
use Rattle.std.proofs.lemmas.Bool.{eqb-true}
use Rattle.std.specs.List.{AllByRecursion}
use Rattle.teco_core.specs.declared.code.Code.TheVariants.{Ill, Iqn, Iqc, Utc}
use Rattle.teco_core.specs.Refusal.{◌>>=◌}
use Rattle.teco_core.specs.Ascii.{is_digit, upper}
use Rattle.teco_core.specs.Register.{register_of}
use Rattle.teco_scan.specs.declared.command.Modifiers.{Modifiers}
use Rattle.teco_scan.specs.declared.command.Row.{Row}
use Rattle.teco_core.specs.declared.profile.Profile.{Profile}
use Rattle.teco_core.specs.declared.profile.Profile.TheVariants.{Named, Wide}
use Rattle.teco_scan.specs.declared.command.Name.{Name}
use Rattle.teco_scan.specs.declared.command.Name.TheVariants.{One, Two, Three, Control}
use Rattle.teco_scan.specs.declared.command.Form.{Form}
use Rattle.teco_scan.specs.declared.command.Form.TheVariants as form
use Rattle.teco_scan.specs.declared.command.Test.{Test}
use Rattle.teco_scan.specs.Scan.{Reading, or_else, register, byte, text, set_text, replace, Instruction, step, decide, tag, TokenMeaning, test_of, byte_at, register_at, test_at, delimiter_at, text_at, operand_at, modifiers_at, after_letter, after_name, admits, row_at, at_row, command_at, of_row, is_cut, run_of, after_run, begins_run, token_from, no_modifiers}
use Rattle.teco_scan.specs.Spelling.{Marks, no_mark, at_mark, colon_mark, SpellsName, one_spelled, two_spelled, three_spelled, control_spelled, caret_spelled, Delimits, TextUpTo, SpellsOperand, bare_spelled, mark_spelled, escape_spelled, register_spelled, byte_spelled, test_spelled, text_spelled, tag_spelled, set_text_spelled, replace_spelled, Among, Spells, run_spelled, command_spelled, IsSpelled}

-- what was read, if anything was, is P of a front, and the rest follows it
abbrev pub Takes : {A : Type 0} → (A → List ℕ → Type 0) → List ℕ → Reading A → Type 0
Takes P bs (Ok x) = (front : List ℕ) × P x.0 front × (bs ≡ front ++ x.1)
Takes P bs (Err e) = Unit {0}

after : {B : Type 0} (R : B → List ℕ → Type 0) (bs front rest : List ℕ) (r : Reading B) → bs ≡ front ++ rest → Takes (λ y back. R y (front ++ back)) rest r → Takes R bs r
after R bs front rest (Err e) whole t = tt
after R bs front rest (Ok y) whole t = (front ++ t.0, t.1, whole ∙ ap (λ w. front ++ w) t.2 ∙ sym (append_assoc front t.0 y.1))

-- one reading, and then another of what it left
pub then : {A B : Type 0} (P : A → List ℕ → Type 0) (R : B → List ℕ → Type 0) (bs : List ℕ) (r : Reading A) (f : A × List ℕ → Reading B) → Takes P bs r → ((x : A × List ℕ) (front : List ℕ) → P x.0 front → Takes (λ y back. R y (front ++ back)) x.1 (f x)) → Takes R bs (r >>= f)
then P R bs (Err e) f t next = tt
then P R bs (Ok x) f t next = after R bs t.0 x.1 (f x) t.2 (next x t.0 t.1)

-- a test, whichever way it goes
either : {A : Type 0} (P : A → List ℕ → Type 0) (bs : List ℕ) (v : Bool) (a b : Reading A) → (v ≡ true → Takes P bs a) → (v ≡ false → Takes P bs b) → Takes P bs (cond v a b)
either P bs true a b h k = h refl
either P bs false a b h k = k refl

pub append_nil : (bs : List ℕ) → bs ++ [] ≡ bs
append_nil [] = refl
append_nil (b ∷ bs) = ap (λ w. b ∷ w) (append_nil bs)

-- nothing more is taken
now : {B : Type 0} (R : B → List ℕ → Type 0) (y : B) (rest front : List ℕ) → R y front → Takes (λ z back. R z (front ++ back)) rest (Ok (y, rest))
now R y rest front h = ([], subst (λ w. R y w) (sym (append_nil front)) h, refl)

abbrev pub IsByte : ℕ → List ℕ → Type 0
IsByte b bs = bs ≡ b ∷ []

pub byte_takes : (bs : List ℕ) → Takes IsByte bs (byte_at bs)
unfolding byte_at
byte_takes [] = tt
byte_takes (b ∷ bs) = (b ∷ [], refl, refl)

abbrev pub IsRegister : ℕ → List ℕ → Type 0
IsRegister q bs = (b : ℕ) × (register_of b ≡ Some q) × (bs ≡ b ∷ [])

register_here : (b : ℕ) (rest front : List ℕ) (o : Option ℕ) → register_of b ≡ o → front ≡ b ∷ [] → Takes (λ q back. IsRegister q (front ++ back)) rest (or_else o Iqn >>= (λ q. Ok (q, rest)))
register_here b rest front None e is = tt
register_here b rest front (Some q) e is = now IsRegister q rest front (b, e, is)

pub register_takes : (bs : List ℕ) → Takes IsRegister bs (register_at bs)
unfolding register_at
register_takes bs = then IsByte IsRegister bs (byte_at bs) _ (byte_takes bs) (λ b front is. register_here b.0 b.1 front (register_of b.0) refl is)

abbrev pub IsTest : Profile → Test → List ℕ → Type 0
IsTest p t bs = (b : ℕ) × (test_of p b ≡ Some t) × (bs ≡ b ∷ [])

test_here : (p : Profile) (b : ℕ) (rest front : List ℕ) (o : Option Test) → test_of p b ≡ o → front ≡ b ∷ [] → Takes (λ q back. IsTest p q (front ++ back)) rest (or_else o Iqc >>= (λ q. Ok (q, rest)))
test_here p b rest front None e is = tt
test_here p b rest front (Some q) e is = now (IsTest p) q rest front (b, e, is)

pub test_takes : (p : Profile) (bs : List ℕ) → Takes (IsTest p) bs (test_at p bs)
unfolding test_at
test_takes p bs = then IsByte (IsTest p) bs (byte_at bs) _ (byte_takes bs) (λ b front is. test_here p b.0 b.1 front (test_of p b.0) refl is)

pub delimiter_takes : (a : Bool) (n usual : ℕ) (bs : List ℕ) → Takes (λ d front. Delimits (record { at = a; colons = n }) usual d front) bs (delimiter_at (record { at = a; colons = n }) usual bs)
unfolding delimiter_at
delimiter_takes true n usual bs = byte_takes bs
delimiter_takes false n usual bs = ([], (refl, refl), refl)

pub not_eqb : (a b : ℕ) → eqb a b ≡ false → a ≢ b
not_eqb a b h e = grind arith

pub text_takes : (d : ℕ) (bs : List ℕ) → Takes (λ t front. TextUpTo d t front) bs (text_at d bs)
unfolding text_at
text_takes d [] = tt
text_takes d (b ∷ bs) = either (λ t front. TextUpTo d t front) (b ∷ bs) (eqb b d) _ _
    (λ yes. (b ∷ [], (tt, ap (λ w. w ∷ []) (eqb-true b d yes)), refl))
    (λ no. more_text d b bs (text_at d bs) (not_eqb b d no) (text_takes d bs))
  where
    more_text : (d b : ℕ) (bs : List ℕ) (r : Reading (List ℕ)) → b ≢ d → Takes (λ t front. TextUpTo d t front) bs r → Takes (λ t front. TextUpTo d t front) (b ∷ bs) (r >>= (λ t. Ok (b ∷ t.0, t.1)))
    more_text d b bs (Err e) other t = tt
    more_text d b bs (Ok x) other t = (b ∷ t.0, ((other, t.1.0), ap (λ w. b ∷ w) t.1.1), ap (λ w. b ∷ w) t.2)

pub operand_takes : (f : Form) (m : Modifiers) (bs : List ℕ) → Takes (λ o front. SpellsOperand f m o front) bs (operand_at f m bs)
unfolding operand_at
operand_takes (form.Bare c) m bs = ([], bare_spelled, refl)
operand_takes (form.Mark c) m bs = ([], mark_spelled, refl)
operand_takes form.Escape m bs = ([], escape_spelled, refl)
operand_takes (form.Register c) m bs = then IsRegister (λ o front. SpellsOperand (form.Register c) m o front) bs (register_at bs) _ (register_takes bs)
    (λ q front is. now (λ o front. SpellsOperand (form.Register c) m o front) (step (register c q.0)) q.1 front (subst (λ w. SpellsOperand (form.Register c) m (step (register c q.0)) w) (sym is.2) (register_spelled is.1)))
operand_takes form.Byte m bs = then IsByte (λ o front. SpellsOperand form.Byte m o front) bs (byte_at bs) _ (byte_takes bs)
    (λ b front is. now (λ o front. SpellsOperand form.Byte m o front) (step (byte b.0)) b.1 front (subst (λ w. SpellsOperand form.Byte m (step (byte b.0)) w) (sym is) byte_spelled))
operand_takes form.Test m bs = then (IsTest Named) (λ o front. SpellsOperand form.Test m o front) bs (test_at Named bs) _ (test_takes Named bs)
    (λ t front is. now (λ o front. SpellsOperand form.Test m o front) (decide t.0) t.1 front (subst (λ w. SpellsOperand form.Test m (decide t.0) w) (sym is.2) (test_spelled (Named, refl, is.1))))
operand_takes form.WideTest m bs = then (IsTest Wide) (λ o front. SpellsOperand form.WideTest m o front) bs (test_at Wide bs) _ (test_takes Wide bs)
    (λ t front is. now (λ o front. SpellsOperand form.WideTest m o front) (decide t.0) t.1 front (subst (λ w. SpellsOperand form.WideTest m (decide t.0) w) (sym is.2) (test_spelled (Wide, refl, is.1))))
operand_takes (form.Text c usual) m bs = then (λ d front. Delimits m usual d front) (λ o front. SpellsOperand (form.Text c usual) m o front) bs (delimiter_at m usual bs) _ (delimiter_takes m.at m.colons usual bs)
    (λ d front is. then (λ t front. TextUpTo d.0 t front) (λ o back. SpellsOperand (form.Text c usual) m o (front ++ back)) d.1 (text_at d.0 d.1) _ (text_takes d.0 d.1)
    (λ t back ends. now (λ o back. SpellsOperand (form.Text c usual) m o (front ++ back)) (step (text c t.0)) t.1 back (text_spelled d.0 front back is ends refl)))
operand_takes form.Tag m bs = then (λ t front. TextUpTo 33 t front) (λ o front. SpellsOperand form.Tag m o front) bs (text_at 33 bs) _ (text_takes 33 bs)
    (λ t front ends. now (λ o front. SpellsOperand form.Tag m o front) (tag t.0) t.1 front (tag_spelled ends))
operand_takes form.SetText m bs = then IsRegister (λ o front. SpellsOperand form.SetText m o front) bs (register_at bs) _ (register_takes bs)
    (λ q name named. then (λ d front. Delimits m 27 d front) (λ o front. SpellsOperand form.SetText m o (name ++ front)) q.1 (delimiter_at m 27 q.1) _ (delimiter_takes m.at m.colons 27 q.1)
    (λ d front is. then (λ t front. TextUpTo d.0 t front) (λ o back. SpellsOperand form.SetText m o (name ++ (front ++ back))) d.1 (text_at d.0 d.1) _ (text_takes d.0 d.1)
    (λ t back ends. now (λ o back. SpellsOperand form.SetText m o (name ++ (front ++ back))) (step (set_text q.0 t.0)) t.1 back (set_text_spelled named.0 d.0 front back named.1 is ends (ap (λ w. w ++ (front ++ back)) named.2)))))
operand_takes form.Replace m bs = then (λ d front. Delimits m 27 d front) (λ o front. SpellsOperand form.Replace m o front) bs (delimiter_at m 27 bs) _ (delimiter_takes m.at m.colons 27 bs)
    (λ d front is. then (λ t front. TextUpTo d.0 t front) (λ o back. SpellsOperand form.Replace m o (front ++ back)) d.1 (text_at d.0 d.1) _ (text_takes d.0 d.1)
    (λ t old ends. then (λ u front. TextUpTo d.0 u front) (λ o back. SpellsOperand form.Replace m o (front ++ (old ++ back))) t.1 (text_at d.0 t.1) _ (text_takes d.0 t.1)
    (λ u new ends2. now (λ o back. SpellsOperand form.Replace m o (front ++ (old ++ back))) (step (replace t.0 u.0)) u.1 new (replace_spelled d.0 front old new is ends ends2 refl))))
operand_takes form.Refused m bs = tt

pub marks_take : (m : Modifiers) (bs : List ℕ) → Takes (λ n front. Marks m front n) bs (modifiers_at m bs)
unfolding modifiers_at
marks_take m [] = ([], no_mark, refl)
marks_take m (b ∷ bs) = either (λ n front. Marks m front n) (b ∷ bs) (eqb b 64) _ _
    (λ is_at. either (λ n front. Marks m front n) (b ∷ bs) m.at _ _ (λ yes. tt) (λ no.
    marked b 64 m (record m { at = true }) bs (modifiers_at (record m { at = true }) bs) (eqb-true b 64 is_at) (λ front n marks. at_mark no marks) (marks_take (record m { at = true }) bs)))
    (λ other. either (λ n front. Marks m front n) (b ∷ bs) (eqb b 58) _ _
    (λ is_colon. either (λ n front. Marks m front n) (b ∷ bs) (eqb m.colons 2) _ _ (λ yes. tt) (λ no.
    marked b 58 m (record m { colons = m.colons + 1 }) bs (modifiers_at (record m { colons = m.colons + 1 }) bs) (eqb-true b 58 is_colon) (λ front n marks. colon_mark (not_eqb m.colons 2 no) marks) (marks_take (record m { colons = m.colons + 1 }) bs)))
    (λ none. ([], no_mark, refl)))
  where
    marked : (b c : ℕ) (m k : Modifiers) (bs : List ℕ) (r : Reading Modifiers) → b ≡ c → ((front : List ℕ) (n : Modifiers) → Marks k front n → Marks m (c ∷ front) n) → Takes (λ n front. Marks k front n) bs r → Takes (λ n front. Marks m front n) (b ∷ bs) r
    marked b c m k bs (Err e) is rule t = tt
    marked b c m k bs (Ok x) is rule t = (c ∷ t.0, rule t.0 x.0 t.1, rw is (ap (λ w. c ∷ w) t.2))

-- what an option of a rest says
abbrev pub TakesSome : (List ℕ → Type 0) → List ℕ → Option (List ℕ) → Type 0
TakesSome P bs (Some rest) = (front : List ℕ) × P front × (bs ≡ front ++ rest)
TakesSome P bs None = Unit {0}

whether : (P : List ℕ → Type 0) (bs : List ℕ) (v : Bool) (a b : Option (List ℕ)) → (v ≡ true → TakesSome P bs a) → (v ≡ false → TakesSome P bs b) → TakesSome P bs (cond v a b)
whether P bs true a b h k = h refl
whether P bs false a b h k = k refl

-- a letter after others
and_then : (P R : List ℕ → Type 0) (bs : List ℕ) (o : Option (List ℕ)) (f : List ℕ → Option (List ℕ)) → TakesSome P bs o → ((front rest : List ℕ) → P front → TakesSome (λ back. R (front ++ back)) rest (f rest)) → TakesSome R bs (option_and_then f o)
and_then P R bs None f t next = tt
and_then P R bs (Some rest) f t next = joined (f rest) (next t.0 rest t.1)
  where
    joined : (o : Option (List ℕ)) → TakesSome (λ back. R (t.0 ++ back)) rest o → TakesSome R bs o
    joined None u = tt
    joined (Some more) u = (t.0 ++ u.0, u.1, t.2 ∙ ap (λ w. t.0 ++ w) u.2 ∙ sym (append_assoc t.0 u.0 more))

abbrev IsLetter : ℕ → List ℕ → Type 0
IsLetter l bs = (b : ℕ) × (upper b ≡ l) × (bs ≡ b ∷ [])

implied : (P R : List ℕ → Type 0) (bs : List ℕ) (o : Option (List ℕ)) → ((front : List ℕ) → P front → R front) → TakesSome P bs o → TakesSome R bs o
implied P R bs None h t = tt
implied P R bs (Some rest) h t = (t.0, h t.0 t.1, t.2)

letter_takes : (l : ℕ) (bs : List ℕ) → TakesSome (IsLetter l) bs (after_letter l bs)
unfolding after_letter
letter_takes l [] = tt
letter_takes l (b ∷ bs) = whether (IsLetter l) (b ∷ bs) (eqb (upper b) l) _ _ (λ yes. (b ∷ [], (b, eqb-true (upper b) l yes, refl), refl)) (λ no. tt)

abbrev AreLetters : ℕ → ℕ → List ℕ → Type 0
AreLetters l k bs = (b : ℕ) × (c : ℕ) × (upper b ≡ l) × (upper c ≡ k) × (bs ≡ b ∷ c ∷ [])

letters_take : (l k : ℕ) (bs : List ℕ) → TakesSome (AreLetters l k) bs (option_and_then (after_letter k) (after_letter l bs))
letters_take l k bs = and_then (IsLetter l) (AreLetters l k) bs (after_letter l bs) (after_letter k) (letter_takes l bs)
    (λ front rest is. implied (IsLetter k) (λ back. AreLetters l k (front ++ back)) rest (after_letter k rest) (λ back was. (is.0, was.0, is.1, was.1, ap (λ w. w ++ back) is.2 ∙ ap (λ w. is.0 ∷ w) was.2)) (letter_takes k rest))

pub name_takes : (n : Name) (bs : List ℕ) → TakesSome (SpellsName n) bs (after_name n bs)
unfolding after_name
name_takes (One l) bs = implied (IsLetter l) (SpellsName (One l)) bs (after_letter l bs) (λ front is. subst (λ w. SpellsName (One l) w) (sym is.2) (one_spelled is.1)) (letter_takes l bs)
name_takes (Two l k) bs = implied (AreLetters l k) (SpellsName (Two l k)) bs (option_and_then (after_letter k) (after_letter l bs)) (λ front is. subst (λ w. SpellsName (Two l k) w) (sym is.4) (two_spelled is.2 is.3)) (letters_take l k bs)
name_takes (Three l k j) bs = and_then (AreLetters l k) (SpellsName (Three l k j)) bs (option_and_then (after_letter k) (after_letter l bs)) (after_letter j) (letters_take l k bs)
    (λ front rest is. implied (IsLetter j) (λ back. SpellsName (Three l k j) (front ++ back)) rest (after_letter j rest)
    (λ back was. subst (λ w. SpellsName (Three l k j) w) (sym (ap (λ w. w ++ back) is.4 ∙ ap (λ w. is.0 ∷ is.1 ∷ w) was.2)) (three_spelled is.2 is.3 was.1)) (letter_takes j rest))
name_takes (Control l) [] = tt
name_takes (Control l) (b ∷ bs) = whether (SpellsName (Control l)) (b ∷ bs) (eqb (b + 64) l) _ _
    (λ yes. (b ∷ [], control_spelled (eqb-true (b + 64) l yes), refl))
    (λ no. whether (SpellsName (Control l)) (b ∷ bs) (eqb b 94) _ _ (λ caret. careted (after_letter l bs) (eqb-true b 94 caret) (letter_takes l bs)) (λ other. tt))
  where
    careted : (o : Option (List ℕ)) → b ≡ 94 → TakesSome (IsLetter l) bs o → TakesSome (SpellsName (Control l)) (b ∷ bs) o
    careted None is t = tt
    careted (Some rest) is t = (94 ∷ t.1.0 ∷ [], caret_spelled t.1.1, rw is (ap (λ w. 94 ∷ w) (t.2 ∙ ap (λ w. w ++ rest) t.1.2)))

-- the row that was found
abbrev pub TakesRow : List Row → Modifiers → List ℕ → Option (Row × List ℕ) → Type 0
TakesRow rows m bs (Some x) = Among x.0 rows × (admits x.0 m ≡ true) × ((front : List ℕ) × SpellsName x.0.name front × (bs ≡ front ++ x.1))
TakesRow rows m bs None = Unit {0}

pub row_takes : (rows : List Row) (m : Modifiers) (bs : List ℕ) → TakesRow rows m bs (row_at rows m bs)
unfolding row_at
row_takes [] m bs = tt
row_takes (r ∷ rows) m bs = here (admits r m) refl (after_name r.name bs) (name_takes r.name bs) (row_at rows m bs) (later (row_at rows m bs) (row_takes rows m bs))
  where
    later : (o : Option (Row × List ℕ)) → TakesRow rows m bs o → TakesRow (r ∷ rows) m bs o
    later None t = tt
    later (Some x) t = (inr t.0, t.1, t.2)

    here : (v : Bool) → admits r m ≡ v → (o : Option (List ℕ)) → TakesSome (SpellsName r.name) bs o → (others : Option (Row × List ℕ)) → TakesRow (r ∷ rows) m bs others → TakesRow (r ∷ rows) m bs (cond v (at_row r o others) others)
    here false e o t others others_take = others_take
    here true e None t others others_take = others_take
    here true e (Some rest) t others others_take = (inl refl, e, t)

-- a command of the rows, after these modifiers
pub record IsCommand (rows : List Row) (m : Modifiers) (o : Instruction) (bs : List ℕ) : Type 0 where
  pub row : Row
  pub among : Among row rows
  pub admitted : admits row m ≡ true
  pub name : List ℕ
  pub operand : List ℕ
  pub named : SpellsName row.name name
  pub spelled : SpellsOperand row.form m o operand
  pub whole : bs ≡ name ++ operand

-- after its modifiers it is a token
pub as_token : {rows : List Row} {m : Modifiers} {o : Instruction} {bs : List ℕ} (marks : List ℕ) → Marks no_modifiers marks m → IsCommand rows m o bs → Spells rows (record { modifiers = m; instruction = o }) (marks ++ bs)
as_token marks marked c = command_spelled c.row c.operand
    (record { among = c.among; admitted = c.admitted; marks = marks; name = c.name; marked = marked; named = c.named; whole = ap (λ w. marks ++ w) c.whole }) c.spelled

pub command_takes : (rows : List Row) (m : Modifiers) (bs : List ℕ) → Takes (λ o front. IsCommand rows m o front) bs (command_at rows m bs)
unfolding command_at
command_takes rows m bs = by_row (row_at rows m bs) (row_takes rows m bs)
  where
    by_row : (o : Option (Row × List ℕ)) → TakesRow rows m bs o → Takes (λ o front. IsCommand rows m o front) bs (of_row rows m bs o)
    by_row None t = either (λ o front. IsCommand rows m o front) bs (is_cut rows m bs) (Err Utc) (Err Ill) (λ yes. tt) (λ no. tt)
    by_row (Some x) t = after (λ o front. IsCommand rows m o front) bs t.2.0 x.1 (operand_at x.0.form m x.1) t.2.2 (spelled_out (operand_at x.0.form m x.1) (operand_takes x.0.form m x.1))
      where
        spelled_out : (r : Reading Instruction) → Takes (λ o front. SpellsOperand x.0.form m o front) x.1 r → Takes (λ o back. IsCommand rows m o (t.2.0 ++ back)) x.1 r
        spelled_out (Err e) h = tt
        spelled_out (Ok y) h = (h.0, record { row = x.0; among = t.0; admitted = t.1; name = t.2.0; operand = h.0; named = t.2.1; spelled = h.1; whole = refl }, h.2)

pub run_split : (bs : List ℕ) → AllByRecursion (λ b. is_digit b ≡ true) (run_of bs) × (bs ≡ run_of bs ++ after_run bs)
unfolding run_of after_run
run_split [] = (tt, refl)
run_split (b ∷ bs) = here (is_digit b) refl (run_split bs)
  where
    here : (v : Bool) → is_digit b ≡ v → AllByRecursion (λ b. is_digit b ≡ true) (run_of bs) × (bs ≡ run_of bs ++ after_run bs) → AllByRecursion (λ b. is_digit b ≡ true) (cond v (b ∷ run_of bs) []) × (b ∷ bs ≡ cond v (b ∷ run_of bs) [] ++ cond v (after_run bs) (b ∷ bs))
    here true e h = ((e, h.0), ap (λ w. b ∷ w) h.1)
    here false e h = (tt, refl)

run_long : (bs : List ℕ) → begins_run bs ≡ true → 0 < length (run_of bs)
unfolding run_of
run_long [] e = absurd cc
run_long (b ∷ bs) e = rw e (omega arith)

-- the token that is read is spelled so by the bytes before the rest
pub token_takes : (rows : List Row) (bs : List ℕ) → Takes (λ t front. Spells rows t front) bs (token_from rows bs)
unfolding token_from
token_takes rows bs = either (λ t front. Spells rows t front) bs (begins_run bs) _ _
    (λ yes. (run_of bs, run_spelled (run_long bs yes) (run_split bs).0, (run_split bs).1))
    (λ no. then (λ m front. Marks no_modifiers front m) (λ t front. Spells rows t front) bs (modifiers_at no_modifiers bs) _ (marks_take no_modifiers bs)
    (λ m marks marked. then (λ o front. IsCommand rows m.0 o front) (λ t back. Spells rows t (marks ++ back)) m.1 (command_at rows m.0 m.1) _ (command_takes rows m.0 m.1)
    (λ o front is. now (λ t back. Spells rows t (marks ++ back)) (record { modifiers = m.0; instruction = o.0 }) o.1 front (as_token marks marked is))))

pub spelled : (rows : List Row) → IsSpelled rows
spelled rows bs rest t e = subst (λ r. Takes (λ t front. Spells rows t front) bs r) e (token_takes rows bs)

pub name_long : {n : Name} {bs : List ℕ} → SpellsName n bs → 0 < length bs
name_long (one_spelled e) = omega arith
name_long (two_spelled e f) = omega arith
name_long (three_spelled e f g) = omega arith
name_long (control_spelled e) = omega arith
name_long (caret_spelled e) = omega arith

-- no token is empty
pub spelled_long : {rows : List Row} {t : TokenMeaning} {bs : List ℕ} → Spells rows t bs → 0 < length bs
spelled_long (run_spelled long run) = long
spelled_long {bs = bs} (command_spelled row operand stands is) =
    omega (arith, name_long stands.named, ap length stands.whole, length-append stands.marks (stands.name ++ operand), length-append stands.name operand)
