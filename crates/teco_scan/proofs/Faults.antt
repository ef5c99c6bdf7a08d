-- Which fault is read, and where.
use Rattle.std.proofs.Common.{◌≡◌, ℕ, ◌+◌, Bool, true, false, ◌⊎◌, cond, eqb, List, [], ◌∷◌, ◌++◌, Option, Some, None, Ok, Err, refl, sym, ap, subst, ◌∙◌, inl, inr}
use Rattle.teco_core.specs.declared.code.Code.{Code}
use Rattle.teco_core.specs.declared.code.Code.TheVariants.{Ill, Iqn, Iqc, Utc}
use Rattle.teco_core.specs.Refusal.{◌>>=◌}
use Rattle.teco_core.specs.Register.{register_of}
use Rattle.teco_scan.specs.declared.command.Modifiers.{Modifiers}
use Rattle.teco_scan.specs.declared.command.Row.{Row}
use Rattle.teco_core.specs.declared.profile.Profile.{Profile}
use Rattle.teco_core.specs.declared.profile.Profile.TheVariants.{Named, Wide}
use Rattle.teco_scan.specs.declared.command.Form.{Form}
use Rattle.teco_scan.specs.declared.command.Form.TheVariants as form
use Rattle.teco_scan.specs.declared.command.Test.{Test}
use Rattle.teco_scan.specs.Table.{is_alone, is_table}
use Rattle.teco_scan.specs.Scan.{Reading, digits, Instruction, step, or_else, test_of, byte_at, register_at, test_at, delimiter_at, text_at, operand_at, modifiers_at, row_at, is_cut, command_at, of_row, begins_run, run_of, after_run, token_from, no_modifiers}
use Rattle.teco_scan.specs.Spelling.{test_form, Marks, BeginsWithRow, NeedsRegister, LacksRegister, LacksTest, LacksRegisterExactly, LacksTestExactly, IsFaultOfFour}
use Rattle.teco_scan.proofs.IsSpelled.{Takes, marks_take, TakesRow, row_takes}
use Rattle.teco_scan.proofs.IsLongest.{finished, Reached, Finds, finds, not_alone_test}

-- the fault, if one was read, is such
abbrev pub Faults : {A : Type 0} → (Code → Type 0) → Reading A → Type 0
Faults F (Ok x) = Unit {0}
Faults F (Err c) = F c

pub then_faults : {A B : Type 0} (F : Code → Type 0) (r : Reading A) (f : A × List ℕ → Reading B) → Faults F r → ((x : A × List ℕ) → Faults F (f x)) → Faults F (r >>= f)
then_faults F (Ok x) f h next = next x
then_faults F (Err c) f h next = h

pub other_faults : {A : Type 0} (F G : Code → Type 0) (r : Reading A) → ((c : Code) → F c → G c) → Faults F r → Faults G r
other_faults F G (Ok x) other h = tt
other_faults F G (Err c) other h = other c h

pub this_fault : {A : Type 0} (F : Code → Type 0) (r : Reading A) (c : Code) → Faults F r → r ≡ Err c → F c
this_fault F r c h e = subst (Faults F) e h

byte_faults : (F : Code → Type 0) (bs : List ℕ) → F Utc → Faults F (byte_at bs)
unfolding byte_at
byte_faults F [] cut = cut
byte_faults F (b ∷ bs) cut = tt

delimiter_faults : (F : Code → Type 0) (a : Bool) (n usual : ℕ) (bs : List ℕ) → F Utc → Faults F (delimiter_at (record { at = a; colons = n }) usual bs)
unfolding delimiter_at
delimiter_faults F true n usual bs cut = byte_faults F bs cut
delimiter_faults F false n usual bs cut = tt

text_faults : (F : Code → Type 0) (d : ℕ) (bs : List ℕ) → F Utc → Faults F (text_at d bs)
unfolding text_at
text_faults F d [] cut = cut
text_faults F d (b ∷ bs) cut = elim (eqb b d) as (λ v. Faults F (cond v (Ok ([], bs)) (text_at d bs >>= (λ t. Ok (b ∷ t.0, t.1))))) [
  | true ↦ tt
  | false ↦ then_faults F (text_at d bs) (λ t. Ok (b ∷ t.0, t.1)) (text_faults F d bs cut) (λ x. tt)
]

-- the next byte names no register; no test
abbrev pub NamesNoRegister : List ℕ → Type 0
NamesNoRegister bs = (b : ℕ) × (rest : List ℕ) × (bs ≡ b ∷ rest) × (register_of b ≡ None)

abbrev pub NamesNoTest : Profile → List ℕ → Type 0
NamesNoTest p bs = (b : ℕ) × (rest : List ℕ) × (bs ≡ b ∷ rest) × (test_of p b ≡ None)

register_faults : (F : Code → Type 0) (bs : List ℕ) → F Utc → (NamesNoRegister bs → F Iqn) → Faults F (register_at bs)
unfolding register_at byte_at
register_faults F [] cut lacks = cut
register_faults F (b ∷ bs) cut lacks = here (register_of b) refl
  where
    here : (o : Option ℕ) → register_of b ≡ o → Faults F (or_else o Iqn >>= (λ q. Ok (q, bs)))
    here None e = lacks (b, bs, refl, e)
    here (Some q) e = tt

test_faults : (p : Profile) (F : Code → Type 0) (bs : List ℕ) → F Utc → (NamesNoTest p bs → F Iqc) → Faults F (test_at p bs)
unfolding test_at byte_at
test_faults p F [] cut lacks = cut
test_faults p F (b ∷ bs) cut lacks = here (test_of p b) refl
  where
    here : (o : Option Test) → test_of p b ≡ o → Faults F (or_else o Iqc >>= (λ q. Ok (q, bs)))
    here None e = lacks (b, bs, refl, e)
    here (Some q) e = tt

-- what a fault says of the form and of the bytes after the name
abbrev pub OperandFault : Form → List ℕ → Code → Type 0
OperandFault f bs Utc = Unit {0}
OperandFault f bs Iqn = NeedsRegister f × NamesNoRegister bs
OperandFault f bs Iqc = (p : Profile) × (f ≡ test_form p) × NamesNoTest p bs
OperandFault f bs Ill = f ≡ form.Refused
OperandFault f bs c = ⊥

pub operand_faults : (f : Form) (m : Modifiers) (bs : List ℕ) → Faults (OperandFault f bs) (operand_at f m bs)
unfolding operand_at
operand_faults (form.Bare c) m bs = tt
operand_faults (form.Mark c) m bs = tt
operand_faults form.Escape m bs = tt
operand_faults (form.Register c) m bs = then_faults (OperandFault (form.Register c) bs) (register_at bs) _ (register_faults (OperandFault (form.Register c) bs) bs tt (λ lacks. (tt, lacks))) (λ x. tt)
operand_faults form.Byte m bs = then_faults (OperandFault form.Byte bs) (byte_at bs) _ (byte_faults (OperandFault form.Byte bs) bs tt) (λ x. tt)
operand_faults form.Test m bs = then_faults (OperandFault form.Test bs) (test_at Named bs) _ (test_faults Named (OperandFault form.Test bs) bs tt (λ lacks. (Named, refl, lacks))) (λ x. tt)
operand_faults form.WideTest m bs = then_faults (OperandFault form.WideTest bs) (test_at Wide bs) _ (test_faults Wide (OperandFault form.WideTest bs) bs tt (λ lacks. (Wide, refl, lacks))) (λ x. tt)
operand_faults (form.Text c usual) m bs = then_faults (OperandFault (form.Text c usual) bs) (delimiter_at m usual bs) _ (delimiter_faults (OperandFault (form.Text c usual) bs) m.at m.colons usual bs tt)
    (λ d. then_faults (OperandFault (form.Text c usual) bs) (text_at d.0 d.1) _ (text_faults (OperandFault (form.Text c usual) bs) d.0 d.1 tt) (λ t. tt))
operand_faults form.Tag m bs = then_faults (OperandFault form.Tag bs) (text_at 33 bs) _ (text_faults (OperandFault form.Tag bs) 33 bs tt) (λ t. tt)
operand_faults form.SetText m bs = then_faults (OperandFault form.SetText bs) (register_at bs) _ (register_faults (OperandFault form.SetText bs) bs tt (λ lacks. (tt, lacks)))
    (λ q. then_faults (OperandFault form.SetText bs) (delimiter_at m 27 q.1) _ (delimiter_faults (OperandFault form.SetText bs) m.at m.colons 27 q.1 tt)
    (λ d. then_faults (OperandFault form.SetText bs) (text_at d.0 d.1) _ (text_faults (OperandFault form.SetText bs) d.0 d.1 tt) (λ t. tt)))
operand_faults form.Replace m bs = then_faults (OperandFault form.Replace bs) (delimiter_at m 27 bs) _ (delimiter_faults (OperandFault form.Replace bs) m.at m.colons 27 bs tt)
    (λ d. then_faults (OperandFault form.Replace bs) (text_at d.0 d.1) _ (text_faults (OperandFault form.Replace bs) d.0 d.1 tt)
    (λ t. then_faults (OperandFault form.Replace bs) (text_at d.0 t.1) _ (text_faults (OperandFault form.Replace bs) d.0 t.1 tt) (λ u. tt)))
operand_faults form.Refused m bs = refl

pub marks_faults : (m : Modifiers) (bs : List ℕ) → Faults (λ c. c ≡ Ill) (modifiers_at m bs)
unfolding modifiers_at
marks_faults m [] = tt
marks_faults m (b ∷ bs) = here (eqb b 64) m.at (eqb b 58) (eqb m.colons 2) (modifiers_at (record m { at = true }) bs) (modifiers_at (record m { colons = m.colons + 1 }) bs) (marks_faults (record m { at = true }) bs) (marks_faults (record m { colons = m.colons + 1 }) bs)
  where
    here : (u v w x : Bool) (p q : Reading Modifiers) → Faults (λ c. c ≡ Ill) p → Faults (λ c. c ≡ Ill) q → Faults (λ c. c ≡ Ill) (cond u (cond v (Err Ill) p) (cond w (cond x (Err Ill) q) (Ok (m, b ∷ bs))))
    here true true w x p q h k = refl
    here true false w x p q h k = h
    here false v true true p q h k = refl
    here false v true false p q h k = k
    here false v false x p q h k = tt

-- what a fault says of the bytes
abbrev pub TokenFault : List Row → List ℕ → Code → Type 0
TokenFault rows bs Utc = Unit {0}
TokenFault rows bs Iqn = LacksRegister rows bs
TokenFault rows bs Iqc = LacksTest rows bs
TokenFault rows bs Ill = Unit {0}
TokenFault rows bs c = ⊥

command_faults : (rows : List Row) (m : Modifiers) (marks bs whole : List ℕ) → Marks no_modifiers marks m → whole ≡ marks ++ bs → Faults (TokenFault rows whole) (command_at rows m bs)
unfolding command_at
command_faults rows m marks bs whole marked is = here (row_at rows m bs) (row_takes rows m bs)
  where
    none : (v : Bool) → Faults {A = Instruction} (TokenFault rows whole) (cond v (Err Utc) (Err Ill))
    none true = tt
    none false = tt

    stands : (x : Row × List ℕ) → TakesRow rows m bs (Some x) → (behind : List ℕ) → x.1 ≡ behind → BeginsWithRow rows x.0 m whole behind
    stands x t behind e = record {
      among = t.0;
      admitted = t.1;
      marks = marks;
      name = t.2.0;
      marked = marked;
      named = t.2.1;
      whole = is ∙ ap (λ w. marks ++ w) (t.2.2 ∙ ap (λ w. t.2.0 ++ w) e);
    }

    said : (x : Row × List ℕ) → TakesRow rows m bs (Some x) → (c : Code) → OperandFault x.0.form x.1 c → TokenFault rows whole c
    said x t Utc h = tt
    said x t Iqn h = (x.0, m, h.1.0, h.1.1, stands x t (h.1.0 ∷ h.1.1) h.1.2, h.0, h.1.3)
    said x t Iqc h = (x.0, m, h.2.0, h.2.1, stands x t (h.2.0 ∷ h.2.1) h.2.2, h.0, h.1, h.2.3)
    said x t Ill h = tt
    said x t c h = absurd h

    here : (o : Option (Row × List ℕ)) → TakesRow rows m bs o → Faults (TokenFault rows whole) (of_row rows m bs o)
    here None t = none (is_cut rows m bs)
    here (Some x) t = other_faults (OperandFault x.0.form x.1) (TokenFault rows whole) (operand_at x.0.form m x.1) (said x t) (operand_faults x.0.form m x.1)

pub token_faults : (rows : List Row) (bs : List ℕ) → Faults (TokenFault rows bs) (token_from rows bs)
unfolding token_from
token_faults rows bs = here (begins_run bs)
  where
    command : (r : Reading Modifiers) → Takes (λ m front. Marks no_modifiers front m) bs r → Faults (λ c. c ≡ Ill) r → Faults (TokenFault rows bs) (r >>= (λ m. command_at rows m.0 m.1 >>= finished m.0))
    command (Ok m) t h = then_faults (TokenFault rows bs) (command_at rows m.0 m.1) (finished m.0) (command_faults rows m.0 t.0 m.1 bs t.1 t.2) (λ x. tt)
    command (Err c) t h = subst (TokenFault rows bs) (sym h) tt

    here : (v : Bool) → Faults (TokenFault rows bs) (cond v (Ok (record { modifiers = no_modifiers; instruction = step (digits (run_of bs)) }, after_run bs)) (modifiers_at no_modifiers bs >>= (λ m. command_at rows m.0 m.1 >>= finished m.0)))
    here true = tt
    here false = command (modifiers_at no_modifiers bs) (marks_take no_modifiers bs) (marks_faults no_modifiers bs)

pub four : (rows : List Row) → IsFaultOfFour rows
four rows bs c e = of_code c (this_fault (TokenFault rows bs) (token_from rows bs) c (token_faults rows bs) e)
  where
    of_code : (c : Code) → TokenFault rows bs c → (c ≡ Ill) ⊎ (c ≡ Iqn) ⊎ (c ≡ Iqc) ⊎ (c ≡ Utc)
    of_code Utc h = inr (inr (inr refl))
    of_code Iqn h = inr (inl refl)
    of_code Iqc h = inr (inr (inl refl))
    of_code Ill h = inl refl
    of_code c h = absurd h

not_alone_register : (f : Form) → NeedsRegister f → is_alone f ≡ true → ⊥
not_alone_register (form.Register c) h e = cc
not_alone_register form.SetText h e = cc
not_alone_register (form.Bare c) h e = absurd h
not_alone_register (form.Mark c) h e = absurd h
not_alone_register form.Escape h e = absurd h
not_alone_register form.Byte h e = absurd h
not_alone_register form.Test h e = absurd h
not_alone_register form.WideTest h e = absurd h
not_alone_register (form.Text c d) h e = absurd h
not_alone_register form.Tag h e = absurd h
not_alone_register form.Replace h e = absurd h
not_alone_register form.Refused h e = absurd h

no_register_read : (f : Form) (m : Modifiers) (b : ℕ) (rest : List ℕ) → NeedsRegister f → register_of b ≡ None → operand_at f m (b ∷ rest) ≡ Err Iqn
unfolding operand_at register_at byte_at
no_register_read (form.Register c) m b rest h e = rw e
no_register_read form.SetText m b rest h e = rw e
no_register_read (form.Bare c) m b rest h e = absurd h
no_register_read (form.Mark c) m b rest h e = absurd h
no_register_read form.Escape m b rest h e = absurd h
no_register_read form.Byte m b rest h e = absurd h
no_register_read form.Test m b rest h e = absurd h
no_register_read form.WideTest m b rest h e = absurd h
no_register_read (form.Text c d) m b rest h e = absurd h
no_register_read form.Tag m b rest h e = absurd h
no_register_read form.Replace m b rest h e = absurd h
no_register_read form.Refused m b rest h e = absurd h

no_test_read : (p : Profile) (m : Modifiers) (b : ℕ) (rest : List ℕ) → test_of p b ≡ None → operand_at (test_form p) m (b ∷ rest) ≡ Err Iqc
unfolding operand_at test_at byte_at
no_test_read Named m b rest e = rw e
no_test_read Wide m b rest e = rw e

-- where more than a name is looked for no longer name is there
found_itself : {rows : List Row} {row : Row} {m : Modifiers} {bs behind : List ℕ} → (is_alone row.form ≡ true → ⊥) → (found : Finds rows row m bs behind) → token_from rows bs ≡ (operand_at row.form m behind >>= finished m)
found_itself {row = row} {m = m} {behind = behind} more found = found.reads ∙ same found.at found.reached
  where
    same : (x : Row × List ℕ) → Reached row behind x → (operand_at x.0.form m x.1 >>= finished m) ≡ (operand_at row.form m behind >>= finished m)
    same x (inl is) = ap (λ (w : Row). operand_at w.form m x.1 >>= finished m) is.0 ∙ ap (λ w. operand_at row.form m w >>= finished m) is.1
    same x (inr longer) = absurd (more longer.0.other_alone)

pub register_exactly : (rows : List Row) → is_table rows ≡ true → LacksRegisterExactly rows
register_exactly rows table bs = (this_fault (TokenFault rows bs) (token_from rows bs) Iqn (token_faults rows bs), back)
  where
    back : LacksRegister rows bs → token_from rows bs ≡ Err Iqn
    back h = found_itself (not_alone_register h.0.form h.5) (finds rows table h.4) ∙ ap (λ r. r >>= finished h.1) (no_register_read h.0.form h.1 h.2 h.3 h.5 h.6)

pub test_exactly : (rows : List Row) → is_table rows ≡ true → LacksTestExactly rows
test_exactly rows table bs = (this_fault (TokenFault rows bs) (token_from rows bs) Iqc (token_faults rows bs), back)
  where
    back : LacksTest rows bs → token_from rows bs ≡ Err Iqc
    back h =
        let more : is_alone h.0.form ≡ true → ⊥ = λ e. not_alone_test h.5 (subst (λ f. is_alone f ≡ true) h.6 e) in
        found_itself more (finds rows table h.4) ∙ ap (λ f. operand_at f h.1 (h.2 ∷ h.3) >>= finished h.1) h.6 ∙ ap (λ r. r >>= finished h.1) (no_test_read h.5 h.1 h.2 h.3 h.7)
