-- What is spelled is read, whatever follows it.
use Rattle.std.proofs.Common.{leb-true, ◌≡◌, ◌≢◌, ℕ, ◌+◌, ◌<◌, Bool, true, false, ◌⊎◌, eqb, List, [], ◌∷◌, ◌++◌, length, Some, Ok, refl, sym, ap, subst, ◌∙◌, arith, append_assoc, inl, inr}
use Rattle.std.specs.Prelude.{◌||◌, not, ◌-◌, ◌&&◌}
use Rattle.std.proofs.lemmas.Bool.{eqb-true, eq-eqb, false_from_ne_true}
use Rattle.std.specs.List.{AllByRecursion, list_all, list_any}
use Rattle.teco_core.specs.Ascii.{upper}
use Rattle.teco_core.specs.Register.{register_of}
use Rattle.teco_scan.specs.declared.command.Modifiers.{Modifiers}
use Rattle.teco_scan.specs.declared.command.Row.{Row}
use Rattle.teco_core.specs.declared.profile.Profile.{Profile}
use Rattle.teco_core.specs.declared.profile.Profile.TheVariants.{Named, Wide}
use Rattle.teco_scan.specs.declared.command.Name.{Name}
use Rattle.teco_scan.specs.declared.command.Name.TheVariants.{One, Two, Three, Control}
use Rattle.teco_scan.specs.declared.command.Form.{Form}
use Rattle.teco_scan.specs.Scan.{Instruction, decide, test_of, byte_at, register_at, test_at, delimiter_at, text_at, operand_at, modifiers_at, after_letter, after_name}
use Rattle.teco_scan.specs.Table.{is_name, lower, first_bytes, begins_with, meets, has_more_letters, is_longer, is_apart, is_table}
use Rattle.teco_scan.specs.Spelling.{test_form, Marks, no_mark, at_mark, colon_mark, SpellsName, one_spelled, two_spelled, three_spelled, control_spelled, caret_spelled, Delimits, TextUpTo, SpellsOperand, bare_spelled, mark_spelled, escape_spelled, register_spelled, byte_spelled, test_spelled, text_spelled, tag_spelled, set_text_spelled, replace_spelled, Among}

free_text : (d : ℕ) (t rest : List ℕ) → AllByRecursion (λ b. b ≢ d) t → text_at d (t ++ (d ∷ rest)) ≡ Ok (t, rest)
unfolding text_at
free_text d [] rest free = rw (eq-eqb d d refl)
free_text d (b ∷ t) rest free =
    let other : eqb b d ≡ false = false_from_ne_true (eqb b d) (λ e. free.0 (eqb-true b d e)) in
    let later : text_at d (t ++ (d ∷ rest)) ≡ Ok (t, rest) = free_text d t rest free.1 in
    rw (other, later)

text_again : (d : ℕ) (t bs rest : List ℕ) → TextUpTo d t bs → text_at d (bs ++ rest) ≡ Ok (t, rest)
text_again d t bs rest h = ap (λ w. text_at d (w ++ rest)) h.1 ∙ ap (text_at d) (append_assoc t (d ∷ []) rest) ∙ free_text d t rest h.0

delimiter_again : (a : Bool) (n usual d : ℕ) (bs rest : List ℕ) → Delimits (record { at = a; colons = n }) usual d bs → delimiter_at (record { at = a; colons = n }) usual (bs ++ rest) ≡ Ok (d, rest)
unfolding delimiter_at byte_at
delimiter_again true n usual d bs rest h = rw h refl
delimiter_again false n usual d bs rest h = rw (h.1, h.0) refl

register_again : (b : ℕ) (rest : List ℕ) {q : _} → register_of b ≡ Some q → register_at (b ∷ rest) ≡ Ok (q, rest)
unfolding register_at byte_at
register_again b rest e = rw e

test_again : (p : Profile) (b : ℕ) (rest : List ℕ) {q : _} → test_of p b ≡ Some q → test_at p (b ∷ rest) ≡ Ok (q, rest)
unfolding test_at byte_at
test_again p b rest e = rw e

test_operand : (p : Profile) (m : Modifiers) (b : ℕ) (rest : List ℕ) {q : _} → test_of p b ≡ Some q → operand_at (test_form p) m (b ∷ rest) ≡ Ok (decide q, rest)
unfolding operand_at
test_operand Named m b rest e = rw (test_again Named b rest e)
test_operand Wide m b rest e = rw (test_again Wide b rest e)

-- an operand that is spelled is read, whatever follows it
pub operand_again : {f : Form} {m : Modifiers} {o : Instruction} {bs : List ℕ} → SpellsOperand f m o bs → (rest : List ℕ) → operand_at f m (bs ++ rest) ≡ Ok (o, rest)
unfolding operand_at byte_at
operand_again bare_spelled rest = refl
operand_again mark_spelled rest = refl
operand_again escape_spelled rest = refl
operand_again (register_spelled {b = b} e) rest = rw (register_again b rest e)
operand_again byte_spelled rest = refl
operand_again {m = m} (test_spelled {b = b} e) rest = ap (λ (f : Form). operand_at f m (b ∷ rest)) e.1 ∙ test_operand e.0 m b rest e.2
operand_again {m = m} (text_spelled {usual = usual} {t = t} d front back delimits ends whole) rest =
    let parts = ap (λ w. w ++ rest) whole ∙ append_assoc front back rest in
    rw (parts, delimiter_again m.at m.colons usual d front (back ++ rest) delimits, text_again d t back rest ends)
operand_again (tag_spelled {t = t} {bs = bs} ends) rest = rw (text_again 33 t bs rest ends)
operand_again {m = m} (set_text_spelled {t = t} b d front back named delimits ends whole) rest =
    let parts = ap (λ w. w ++ rest) whole ∙ ap (λ w. b ∷ w) (append_assoc front back rest) in
    rw (parts, register_again b (front ++ (back ++ rest)) named, delimiter_again m.at m.colons 27 d front (back ++ rest) delimits, text_again d t back rest ends)
operand_again {m = m} (replace_spelled {t = t} {u = u} d front old new delimits ends ends2 whole) rest =
    let parts = ap (λ w. w ++ rest) whole ∙ append_assoc front (old ++ new) rest ∙ ap (λ w. front ++ w) (append_assoc old new rest) in
    rw (parts, delimiter_again m.at m.colons 27 d front (old ++ (new ++ rest)) delimits, text_again d t old (new ++ rest) ends, text_again d u new rest ends2)

letter_again : (l b : ℕ) (rest : List ℕ) → upper b ≡ l → after_letter l (b ∷ rest) ≡ Some rest
unfolding after_letter
letter_again l b rest e = rw (eq-eqb (upper b) l e)

abbrev pub IsName : Name → Type 0
IsName n = is_name n ≡ true

pub both : (a b : Bool) → (a && b) ≡ true → (a ≡ true) × (b ≡ true)
both true b e = (refl, e)
both false b e = absurd cc

-- a name that is spelled is read, whatever follows it
pub name_again : {n : Name} {bs : List ℕ} → SpellsName n bs → IsName n → (rest : List ℕ) → after_name n (bs ++ rest) ≡ Some rest
unfolding after_name
name_again (one_spelled {l = l} {b = b} e) ok rest = letter_again l b rest e
name_again (two_spelled {l = l} {k = k} {b = b} {c = c} e f) ok rest = rw (letter_again l b (c ∷ rest) e) (letter_again k c rest f)
name_again (three_spelled {l = l} {k = k} {j = j} {b = b} {c = c} {d = d} e f g) ok rest = rw (letter_again l b (c ∷ d ∷ rest) e, letter_again k c (d ∷ rest) f) (letter_again j d rest g)
name_again (control_spelled {l = l} {b = b} e) ok rest = rw (eq-eqb (b + 64) l e)
name_again (caret_spelled {l = l} {b = b} e) ok rest =
    let high : eqb (94 + 64) l ≡ false = false_from_ne_true (eqb (94 + 64) l) (λ e. absurd (omega (arith, eqb-true (94 + 64) l e, leb-true l 94 (both _ _ ok).1))) in
    rw high (letter_again l b rest e)

-- the bytes begin with neither @ nor a colon
abbrev pub NoMark : List ℕ → Type 0
NoMark [] = Unit {0}
NoMark (b ∷ bs) = (b ≢ 64) × (b ≢ 58)

-- modifiers that are spelled are read, where no other follows
pub marks_again : {m n : Modifiers} {bs : List ℕ} → Marks m bs n → (rest : List ℕ) → NoMark rest → modifiers_at m (bs ++ rest) ≡ Ok (n, rest)
unfolding modifiers_at
marks_again no_mark [] h = refl
marks_again no_mark (b ∷ rest) h =
    let not_at : eqb b 64 ≡ false = false_from_ne_true (eqb b 64) (λ e. h.0 (eqb-true b 64 e)) in
    let not_colon : eqb b 58 ≡ false = false_from_ne_true (eqb b 58) (λ e. h.1 (eqb-true b 58 e)) in
    rw (not_at, not_colon)
marks_again (at_mark {m = m} {n = n} {bs = bs} none more) rest h =
    let later : modifiers_at (record m { at = true }) (bs ++ rest) ≡ Ok (n, rest) = marks_again more rest h in
    rw (none, later)
marks_again (colon_mark {m = m} {n = n} {bs = bs} few more) rest h =
    let fits : eqb m.colons 2 ≡ false = false_from_ne_true (eqb m.colons 2) (λ e. few (eqb-true m.colons 2 e)) in
    let later : modifiers_at (record m { colons = m.colons + 1 }) (bs ++ rest) ≡ Ok (n, rest) = marks_again more rest h in
    rw (fits, later)

upper_cases : (b l : ℕ) → upper b ≡ l → (b ≡ l) ⊎ (b ≡ lower l)
upper_cases b l e = grind arith

pub any_here : (p : ℕ → Bool) (b c : ℕ) → p b ≡ true → list_any p (b ∷ c ∷ []) ≡ true
any_here p b c e = rw e

pub any_next : (p : ℕ → Bool) (b c : ℕ) → p c ≡ true → list_any p (b ∷ c ∷ []) ≡ true
any_next p b c e = rw e (elim (p b) as (λ v. (v || true) ≡ true) [ true ↦ refl | false ↦ refl ])

pub any_cased : (p : ℕ → Bool) (b l : ℕ) → upper b ≡ l → p b ≡ true → list_any p (l ∷ lower l ∷ []) ≡ true
any_cased p b l e h = elim (upper_cases b l e) [ inl same ↦ any_here p l (lower l) (subst (λ w. p w ≡ true) same h) | inr more ↦ any_next p l (lower l) (subst (λ w. p w ≡ true) more h) ]

-- the byte that bytes begin with
abbrev FirstIs : (ℕ → Bool) → List ℕ → Type 0
FirstIs p [] = ⊥
FirstIs p (b ∷ bs) = p b ≡ true

any_first : (p : ℕ → Bool) {n : Name} {bs : List ℕ} → SpellsName n bs → (rest : List ℕ) → FirstIs p (bs ++ rest) → list_any p (first_bytes n) ≡ true
any_first p (one_spelled {l = l} {b = b} e) rest h = any_cased p b l e h
any_first p (two_spelled {l = l} {b = b} e f) rest h = any_cased p b l e h
any_first p (three_spelled {l = l} {b = b} e f g) rest h = any_cased p b l e h
any_first p (control_spelled {l = l} {b = b} e) rest h = any_here p (l - 64) 94 (subst (λ w. p w ≡ true) (omega arith) h)
any_first p (caret_spelled {l = l} {b = b} e) rest h = any_next p (l - 64) 94 h

-- two control commands that the same bytes begin with are one
control_same : {k l : ℕ} {bs cs : List ℕ} (rest more : List ℕ) → IsName (Control k) → IsName (Control l) → SpellsName (Control k) bs → SpellsName (Control l) cs → bs ++ rest ≡ cs ++ more → eqb k l ≡ true
control_same rest more okk okl (control_spelled {b = b} e) (control_spelled {b = c} f) same = let here : b ≡ c = cc in eq-eqb _ _ (omega arith)
control_same {l = l} rest more okk okl (control_spelled {l = k} {b = b} e) (caret_spelled {b = c} f) same = let here : b ≡ 94 = cc in absurd (omega (arith, leb-true k 94 (both _ _ okk).1))
control_same {k = k} rest more okk okl (caret_spelled {b = b} e) (control_spelled {l = l} {b = c} f) same = let here : 94 ≡ c = cc in absurd (omega (arith, leb-true l 94 (both _ _ okl).1))
control_same {k = k} {l = l} rest more okk okl (caret_spelled {b = b} e) (caret_spelled {b = c} f) same = let here : b ≡ c = cc in eq-eqb k l (sym e ∙ ap upper here ∙ f)

-- two names of two letters that the same bytes begin with have the same letters
letters_same : {k j l i : ℕ} {bs cs : List ℕ} (rest more : List ℕ) → SpellsName (Two k j) bs → SpellsName (Two l i) cs → bs ++ rest ≡ cs ++ more → (eqb k l && eqb j i) ≡ true
letters_same {k = k} {j = j} {l = l} {i = i} rest more (two_spelled {b = b} {c = c} e f) (two_spelled {b = d} {c = g} h m) same =
    let first : b ≡ d = cc in
    let second : c ≡ g = cc in
    rw (eq-eqb k l (sym e ∙ ap upper first ∙ h), eq-eqb j i (sym f ∙ ap upper second ∙ m))

begins_so : {n : Name} {bs : List ℕ} → SpellsName n bs → (rest : List ℕ) → FirstIs (begins_with n) (bs ++ rest)
begins_so (one_spelled {l = l} {b = b} e) rest = eq-eqb (upper b) l e
begins_so (two_spelled {l = l} {b = b} e f) rest = eq-eqb (upper b) l e
begins_so (three_spelled {l = l} {b = b} e f g) rest = eq-eqb (upper b) l e
begins_so (control_spelled {l = l} {b = b} e) rest = ap (λ v. v || eqb b 94) (eq-eqb (b + 64) l e)
begins_so (caret_spelled {l = l} {b = b} e) rest = elim (eqb (94 + 64) l) as (λ v. (v || true) ≡ true) [ true ↦ refl | false ↦ refl ]

-- names that the same bytes begin with meet
pub meet : (s r : Name) (bs cs rest more : List ℕ) → IsName s → IsName r → SpellsName s bs → SpellsName r cs → bs ++ rest ≡ cs ++ more → meets s r ≡ true
meet (Control k) (Control l) bs cs rest more oks okr named other same = control_same rest more oks okr named other same
meet (Control k) (One l) bs cs rest more oks okr named other same = any_first (begins_with (Control k)) other more (subst (FirstIs (begins_with (Control k))) same (begins_so named rest))
meet (Control k) (Two l j) bs cs rest more oks okr named other same = any_first (begins_with (Control k)) other more (subst (FirstIs (begins_with (Control k))) same (begins_so named rest))
meet (Control k) (Three l j i) bs cs rest more oks okr named other same = any_first (begins_with (Control k)) other more (subst (FirstIs (begins_with (Control k))) same (begins_so named rest))
meet (One k) r bs cs rest more oks okr named other same = any_first (begins_with (One k)) other more (subst (FirstIs (begins_with (One k))) same (begins_so named rest))
meet (Two k j) (Two l i) bs cs rest more oks okr named other same = letters_same rest more named other same
meet (Two k j) (One l) bs cs rest more oks okr named other same = any_first (begins_with (Two k j)) other more (subst (FirstIs (begins_with (Two k j))) same (begins_so named rest))
meet (Two k j) (Three l i h) bs cs rest more oks okr named other same = any_first (begins_with (Two k j)) other more (subst (FirstIs (begins_with (Two k j))) same (begins_so named rest))
meet (Two k j) (Control l) bs cs rest more oks okr named other same = any_first (begins_with (Two k j)) other more (subst (FirstIs (begins_with (Two k j))) same (begins_so named rest))
meet (Three k j i) r bs cs rest more oks okr named other same = any_first (begins_with (Three k j i)) other more (subst (FirstIs (begins_with (Three k j i))) same (begins_so named rest))

-- of two names that meet the one with more letters has more bytes
pub more_bytes : {s r : Name} {bs cs : List ℕ} → has_more_letters s r ≡ true → SpellsName s bs → SpellsName r cs → length cs < length bs
more_bytes h (one_spelled e) other = absurd cc
more_bytes h (control_spelled e) other = absurd cc
more_bytes h (caret_spelled e) other = absurd cc
more_bytes h (two_spelled e f) (one_spelled a) = omega arith
more_bytes h (two_spelled e f) (two_spelled a b) = absurd cc
more_bytes h (two_spelled e f) (three_spelled a b c) = absurd cc
more_bytes h (two_spelled e f) (control_spelled a) = absurd cc
more_bytes h (two_spelled e f) (caret_spelled a) = absurd cc
more_bytes h (three_spelled e f g) (one_spelled a) = omega arith
more_bytes h (three_spelled e f g) (two_spelled a b) = omega arith
more_bytes h (three_spelled e f g) (three_spelled a b c) = absurd cc
more_bytes h (three_spelled e f g) (control_spelled a) = absurd cc
more_bytes h (three_spelled e f g) (caret_spelled a) = absurd cc

pub each : (p : Row → Bool) (rows : List Row) (r : Row) → list_all p rows ≡ true → Among r rows → p r ≡ true
each p [] r all among = absurd among
each p (s ∷ rows) r all (inl same) = subst (λ w. p w ≡ true) (sym same) (both _ _ all).0
each p (s ∷ rows) r all (inr later) = each p rows r (both (p s) (list_all p rows) all).1 later

-- each name of a table is one that a command may have
pub named_well : (rows : List Row) → is_table rows ≡ true → (r : Row) → Among r rows → IsName r.name
named_well rows table r among = each (λ r. is_name r.name) rows r (both (list_all (λ r. is_name r.name) rows) (is_apart rows) table).0 among

pub one_of : (v w : Bool) → (not v || w) ≡ true → v ≡ true → w ≡ true
one_of true w e is = e
one_of false w e is = absurd cc

abbrev AreApart : List Row → Row → Row → Type 0
AreApart rows s r = (s ≡ r) ⊎ (is_longer s r ≡ true) ⊎ (is_longer r s ≡ true)

-- two rows of a table whose names the same bytes begin with are one, or one of them is longer
pub apart : (rows : List Row) → is_table rows ≡ true → (s r : Row) → Among s rows → Among r rows → (meets s.name r.name ≡ true) → (meets r.name s.name ≡ true) → (s ≡ r) ⊎ (is_longer s r ≡ true) ⊎ (is_longer r s ≡ true)
apart rows table s r is_s is_r met back = go rows (both (list_all (λ r. is_name r.name) rows) (is_apart rows) table).1 is_s is_r
  where
    go : (rows : List Row) → is_apart rows ≡ true → Among s rows → Among r rows → (s ≡ r) ⊎ (is_longer s r ≡ true) ⊎ (is_longer r s ≡ true)
    go [] e is_s is_r = absurd is_s
    go (t ∷ rows) e (inl a) (inl b) = inl (a ∙ sym b)
    go (t ∷ rows) e (inl a) (inr b) =
        let all = (both (list_all (λ r. not (meets t.name r.name) || is_longer t r) rows) (is_apart rows) e).0 in
        inr (inl (subst (λ (w : Row). is_longer w r ≡ true) (sym a) (one_of (meets t.name r.name) (is_longer t r) (each (λ r. not (meets t.name r.name) || is_longer t r) rows r all b) (subst (λ (w : Row). meets w.name r.name ≡ true) a met))))
    go (t ∷ rows) e (inr a) (inl b) =
        let all = (both (list_all (λ r. not (meets t.name r.name) || is_longer t r) rows) (is_apart rows) e).0 in
        inr (inr (subst (λ (w : Row). is_longer w s ≡ true) (sym b) (one_of (meets t.name s.name) (is_longer t s) (each (λ r. not (meets t.name r.name) || is_longer t r) rows s all a) (subst (λ (w : Row). meets w.name s.name ≡ true) b back))))
    go (t ∷ rows) e (inr a) (inr b) = go rows (both (list_all (λ r. not (meets t.name r.name) || is_longer t r) rows) (is_apart rows) e).1 a b
