-- A text that a token puts into a register is shorter than the token.
use Rattle.std.proofs.Common.{◌≡◌, ℕ, zero, suc, Bool, true, false, Some, None, ◌+◌, ◌-◌, ◌<◌, ◌≤◌, List, [], ◌∷◌, ◌++◌, length, length-append, length-drop, drop, Result, Ok, Err, refl, sym, ap, subst, ◌∙◌, arith}
use Rattle.std.proofs.lemmas.List.{length-take-le}
use Rattle.teco_core.specs.declared.code.Code.{Code}
use Rattle.teco_core.specs.declared.profile.Profile.{Profile}
use Rattle.teco_scan.specs.declared.command.Form.{Form}
use Rattle.teco_scan.specs.declared.command.Modifiers.{Modifiers}
use Rattle.teco_scan.specs.declared.command.Row.{Row}
use Rattle.teco_scan.specs.declared.token.Token.{Token}
use Rattle.teco_scan.specs.declared.token.Span.{Span}
use Rattle.teco_scan.specs.declared.token.Item.{Item as SpannedItem}
use Rattle.teco_scan.specs.declared.token.Item.TheVariants as items
use Rattle.teco_scan.specs.declared.token.TokenKind.{TokenKind}
use Rattle.teco_scan.specs.declared.token.TokenKind.TheVariants as kinds
use Rattle.teco_scan.specs.Scan.{Instruction, TokenMeaning, step, set_text, found, scan, scan_here, scanned, token_from, rows_of, after_fillers}
use Rattle.teco_scan.specs.Seen.{IsTokenAt, IsSpanIn, IsKindIn, item_in, meaning_in, bytes_in, instruction_in}
use Rattle.teco_scan.specs.Spelling.{Spells, run_spelled, command_spelled, SpellsOperand, bare_spelled, mark_spelled, escape_spelled, register_spelled, byte_spelled, test_spelled, text_spelled, tag_spelled, set_text_spelled, replace_spelled, IsSpelled}
use Rattle.teco_check.specs.Checked.{inner_length, held, may_hold}
use Rattle.teco_check.specs.Clean.{is_fine, is_whole, is_written_out, clean_within}
use Rattle.teco_scan.specs.Walk.{OpenList}
use Rattle.teco_check.specs.Walk.{wrong_with, rule}
use Rattle.teco_check.specs.declared.faults.Wrong.TheVariants as wrongs
use Rattle.teco_scan.specs.Tree.{Nodes}
use Rattle.std.specs.Prelude.{not, ◌||◌, ◌&&◌, if◌then◌else◌}
use Rattle.teco_exec.proofs.Placings.{fillers_twice}

operand_long : (f : Form) (m : Modifiers) (i : Instruction) (bs : List ℕ) (q : ℕ) (x : List ℕ) → SpellsOperand f m i bs → i ≡ step (set_text q x) → length x + 2 ≤ length bs
operand_long f m i bs q x bare_spelled e = absurd cc
operand_long f m i bs q x mark_spelled e = absurd cc
operand_long f m i bs q x escape_spelled e = absurd cc
operand_long f m i bs q x (register_spelled r) e = absurd cc
operand_long f m i bs q x byte_spelled e = absurd cc
operand_long f m i bs q x (test_spelled r) e = absurd cc
operand_long f m i bs q x (text_spelled d front back s u w) e = absurd cc
operand_long f m i bs q x (tag_spelled u) e = absurd cc
operand_long f m i bs q x (set_text_spelled {t = t} b d front back r s u w) e =
    let same : t ≡ x = cc in
    let long : length bs ≡ suc (length (front ++ back)) = ap length w in
    let tail : length back ≡ length (t ++ d ∷ []) = ap length u.1 in
    omega (arith, long, tail, ap length same, length-append front back, length-append t (d ∷ []))
operand_long f m i bs q x (replace_spelled d front old new s u v w) e = absurd cc

spells_long : (rows : List Row) (t : TokenMeaning) (bs : List ℕ) (q : ℕ) (x : List ℕ) → Spells rows t bs → t.instruction ≡ step (set_text q x) → length x + 2 ≤ length bs
spells_long rows t bs q x (run_spelled lt all) e = absurd cc
spells_long rows t bs q x (command_spelled {m = m} {i = i} row operand begins s) e =
    let h : length x + 2 ≤ length operand = operand_long row.form m i operand q x s e in
    omega (arith, h, ap length begins.whole, length-append begins.marks (begins.name ++ operand), length-append begins.name operand)

read_ok : (r : Result (TokenMeaning × List ℕ) Code) (t : TokenMeaning) (rest : List ℕ) → scanned r ≡ found t rest → r ≡ Ok (t, rest)
read_ok (Ok (u, more)) t rest e =
    let same : u ≡ t = cc in
    let left : more ≡ rest = cc in
    rw (same, left) refl
read_ok (Err c) t rest e = absurd cc

length_taken : (bs : List ℕ) (s : Span) → IsSpanIn (length bs) s → length (bytes_in bs s) ≡ s.to - s.from
length_taken bs s h =
    let inside : s.to - s.from ≤ length (drop s.from bs) = omega (arith, h.ordered, h.inside, length-drop s.from bs) in
    length-take-le (s.to - s.from) (drop s.from bs) inside

abbrev pub a_text : ℕ → Span → SpannedItem
a_text q s = items.SetText q s

-- a text that is all of what its register gets is whole and written out
pub whole_of : (whole out : Bool) → whole && out ≡ true → whole ≡ true
whole_of true out e = refl
whole_of false out e = absurd cc

pub out_of : (whole out : Bool) → whole && out ≡ true → out ≡ true
out_of true out e = e
out_of false out e = absurd cc

-- such a text may be put there if its bytes may
pub whole_may : (whole may v : Bool) → whole ≡ true → may ≡ v → whole && may ≡ v
whole_may whole may v is e = ap (λ (b : Bool). b && may) is ∙ e

one_fewer : (n : ℕ) → (n ≡ 0 → ⊥) → n ≡ suc (n - 1)
one_fewer n some = omega (arith, some)

module _ (profile : Profile) where
  here_ok : (bs : List ℕ) (t : TokenMeaning) (rest : List ℕ) → scan_here profile bs ≡ found t rest → token_from (rows_of profile) bs ≡ Ok (t, rest)
  here_ok [] t rest e = absurd cc
  here_ok (b ∷ bs) t rest e = read_ok (token_from (rows_of profile) (b ∷ bs)) t rest e

  scan_long : (spelled : (rows : List Row) → IsSpelled rows) (bs rest : List ℕ) (t : TokenMeaning) (q : ℕ) (x : List ℕ) → after_fillers bs ≡ bs → scan profile bs ≡ found t rest → t.instruction ≡ step (set_text q x)
      → length x + 2 + length rest ≤ length bs
  unfolding scan
  scan_long spelled bs rest t q x none e is =
      let r : (front : List ℕ) × Spells (rows_of profile) t front × (bs ≡ front ++ rest) = spelled (rows_of profile) bs rest t (here_ok bs t rest (ap (scan_here profile) (sym none) ∙ e)) in
      let h : length x + 2 ≤ length r.0 = spells_long (rows_of profile) t r.0 q x r.1 is in
      omega (arith, h, ap length r.2, length-append r.0 rest)

  pub token_long : (spelled : (rows : List Row) → IsSpelled rows) (bs : List ℕ) (next : ℕ) (t : Token) → IsTokenAt bs next t → scan profile (drop t.span.from bs) ≡ found (meaning_in bs t) (drop t.span.to bs)
      → t.span.from + inner_length t.kind < t.span.to
  token_long spelled bs next t at e = of_kind t.kind refl
    where
      none : after_fillers (drop t.span.from bs) ≡ drop t.span.from bs
      none = ap after_fillers at.begins ∙ fillers_twice (drop next bs) ∙ sym at.begins

      of_kind : (k : TokenKind) → t.kind ≡ k → t.span.from + inner_length k < t.span.to
      of_kind (kinds.Item (items.SetText q s)) is =
          let spans : IsKindIn (length bs) (kinds.Item (items.SetText q s)) = subst (λ (x : TokenKind). IsKindIn (length bs) x) is at.spans in
          let h : length (bytes_in bs s) + 2 + length (drop t.span.to bs) ≤ length (drop t.span.from bs)
          = scan_long spelled (drop t.span.from bs) (drop t.span.to bs) (meaning_in bs t) q (bytes_in bs s) none e (ap (λ (x : TokenKind). instruction_in bs x) is) in
          omega (arith, h, spans.ordered, spans.inside, at.long, at.inside, length-drop t.span.to bs, length-drop t.span.from bs, length_taken bs s spans)
      of_kind (kinds.Item (items.Digits s)) is = omega (arith, at.long)
      of_kind (kinds.Item (items.Bare c)) is = omega (arith, at.long)
      of_kind (kinds.Item (items.Register c q)) is = omega (arith, at.long)
      of_kind (kinds.Item (items.Byte b)) is = omega (arith, at.long)
      of_kind (kinds.Item (items.Text c s)) is = omega (arith, at.long)
      of_kind (kinds.Item (items.Replace s u)) is = omega (arith, at.long)
      of_kind (kinds.Mark b) is = omega (arith, at.long)
      of_kind (kinds.Test x) is = omega (arith, at.long)
      of_kind (kinds.Tag s) is = omega (arith, at.long)
      of_kind kinds.Escape is = omega (arith, at.long)

  pub fine_text : (n : ℕ) (code : List Bool) (text : List ℕ) (lists : List Nodes) (marks : Modifiers) (item : SpannedItem) (q : ℕ) (s : Span) (v : Bool) → item ≡ a_text q s → held code q ≡ true
      → is_whole marks && may_hold profile n code (bytes_in text s) ≡ v → is_fine (held code) (may_hold profile n code) lists marks (item_in text item) ≡ v
  fine_text n code text lists marks item q s v is h m =
      ap (λ (x : SpannedItem). is_fine (held code) (may_hold profile n code) lists marks (item_in text x)) is
      ∙ ap (λ (b : Bool). not b || (is_whole marks && may_hold profile n code (bytes_in text s))) h ∙ m

  module _ (n : ℕ) (code : List Bool) (text : List ℕ) (lists : List OpenList) (marks : Modifiers) (item : SpannedItem) (q : ℕ) (s : Span) (is : item ≡ a_text q s) (h : held code q ≡ true) where
    put_there : wrong_with profile (rule profile n code) text lists marks (item_in text item) ≡ (if is_whole marks && is_written_out profile (bytes_in text s) then (if may_hold profile n code (bytes_in text s) then None else Some wrongs.InText) else Some wrongs.Loads)
    put_there =
        ap (λ (x : SpannedItem). wrong_with profile (rule profile n code) text lists marks (item_in text x)) is
        ∙ ap (λ (b : Bool). if b then (if is_whole marks && is_written_out profile (bytes_in text s) then (if may_hold profile n code (bytes_in text s) then None else Some wrongs.InText) else Some wrongs.Loads) else None) h

    pub wrong_text : (v : Bool) → is_whole marks && is_written_out profile (bytes_in text s) ≡ true → may_hold profile n code (bytes_in text s) ≡ v → wrong_with profile (rule profile n code) text lists marks (item_in text item) ≡ (if v then None else Some wrongs.InText)
    wrong_text v whole m =
        put_there ∙ ap (λ (b : Bool). if b then (if may_hold profile n code (bytes_in text s) then None else Some wrongs.InText) else Some wrongs.Loads) whole
        ∙ ap (λ (b : Bool). if b then None else Some wrongs.InText) m

  -- A text that is looked into may be put there if it is clean, looked into one text less deep.
  pub text_may : (n : ℕ) (code : List Bool) (t : List ℕ) (v : Bool) → is_written_out profile t ≡ true → (n ≡ 0 → ⊥) → clean_within profile (suc (n - 1)) (held code) t ≡ v → may_hold profile n code t ≡ v
  text_may n code t v out some e = whole_may (is_written_out profile t) (clean_within profile n (held code) t) v out (subst (λ (m : ℕ). clean_within profile m (held code) t ≡ v) (sym (one_fewer n some)) e)

  -- where no text is looked into any more
  pub none_may : (n : ℕ) (code : List Bool) (t : List ℕ) → n ≡ 0 → is_written_out profile t ≡ true → may_hold profile n code t ≡ false
  unfolding clean_within
  none_may zero code t e out = whole_may (is_written_out profile t) false false out refl
  none_may (suc n) code t e out = absurd cc
