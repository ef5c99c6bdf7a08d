-- By which byte a mark of a block ends, and a tag.
use Rattle.std.proofs.Common.{◌≡◌, ℕ, ◌+◌, ◌-◌, ◌<◌, ◌≤◌, Bool, true, false, eqb, List, [], ◌∷◌, ◌++◌, length, drop, Ok, Err, refl, sym, ap, subst, ◌∙◌, arith, append_assoc, length-append, length-drop}
use Rattle.std.specs.List.{list_all}
use Rattle.std.proofs.lemmas.Bool.{eqb-true}
use Rattle.std.proofs.lemmas.List.{drop-drop}
use Rattle.std.proofs.Math.Seq.{drop-append_seam}
use Rattle.teco_core.specs.Ascii.{upper}
use Rattle.teco_scan.specs.declared.command.Modifiers.{Modifiers}
use Rattle.teco_scan.specs.declared.command.Name.{Name}
use Rattle.teco_scan.specs.declared.command.Name.TheVariants.{One}
use Rattle.teco_scan.specs.declared.command.Form.{Form}
use Rattle.teco_scan.specs.declared.command.Form.TheVariants as form
use Rattle.teco_scan.specs.declared.command.BlockMark.{BlockMark}
use Rattle.teco_scan.specs.declared.command.BlockMark.TheVariants.{Iterate, EndIteration, Otherwise, EndTest}
use Rattle.teco_core.specs.declared.profile.Profile.{Profile}
use Rattle.teco_core.specs.declared.profile.Profile.TheVariants.{Named, Wide}
use Rattle.teco_scan.specs.Scan.{rows_of, Instruction, mark, TokenMeaning, Reading, found, scan, scan_here, scanned, after_fillers, token_from}
use Rattle.teco_scan.specs.Spelling.{Spells, run_spelled, command_spelled, SpellsName, one_spelled, two_spelled, three_spelled, control_spelled, caret_spelled, SpellsOperand, bare_spelled, mark_spelled, escape_spelled, register_spelled, byte_spelled, test_spelled, text_spelled, tag_spelled, set_text_spelled, replace_spelled}
use Rattle.teco_scan.specs.Skip.{byte_of, is_tag}
use Rattle.teco_scan.proofs.IsSpelled.{append_nil, spelled}
use Rattle.teco_scan.proofs.SpelledReads.{each}

is_one : ℕ → Name → Bool
is_one b (One l) = eqb l b
is_one b n = false

is_written : Form → Name → Bool
is_written (form.Mark b) n = is_one (byte_of b) n
is_written f n = true

-- so is each mark of the table named
rows_written : (p : Profile) → list_all (λ r. is_written r.form r.name) (rows_of p) ≡ true
unfolding is_written is_one
rows_written Named = refl
rows_written Wide = refl

-- no letter is a mark
plain_byte : (b : ℕ) (c : BlockMark) → upper b ≡ byte_of c → b ≡ byte_of c
plain_byte b Iterate e = grind arith
plain_byte b EndIteration e = grind arith
plain_byte b Otherwise e = grind arith
plain_byte b EndTest e = grind arith

named : (n : Name) (bs : List ℕ) (c : BlockMark) → SpellsName n bs → is_one (byte_of c) n ≡ true → bs ≡ byte_of c ∷ []
unfolding is_one
named _ _ c (one_spelled {l = l} {b = b} e) one = ap (λ w. w ∷ []) (plain_byte b c (e ∙ eqb-true l (byte_of c) one))
named _ _ c (two_spelled e f) one = absurd cc
named _ _ c (three_spelled e f g) one = absurd cc
named _ _ c (control_spelled e) one = absurd cc
named _ _ c (caret_spelled e) one = absurd cc

-- only a mark's form makes a mark, and nothing follows the name
operand_none : {f : Form} {m : Modifiers} {i : Instruction} {bs : List ℕ} → SpellsOperand f m i bs → (c : BlockMark) → i ≡ mark c → (f ≡ form.Mark c) × (bs ≡ [])
operand_none bare_spelled c e = absurd cc
operand_none (mark_spelled {c = b}) c e = let same : b ≡ c = cc in (ap form.Mark same, refl)
operand_none escape_spelled c e = absurd cc
operand_none (register_spelled named) c e = absurd cc
operand_none byte_spelled c e = absurd cc
operand_none (test_spelled named) c e = absurd cc
operand_none (text_spelled d front back delimits ends whole) c e = absurd cc
operand_none (tag_spelled ends) c e = absurd cc
operand_none (set_text_spelled b d front back register delimits ends whole) c e = absurd cc
operand_none (replace_spelled d front old new delimits ends also whole) c e = absurd cc

module _ (profile : Profile) where
  -- modifiers, and then the byte
  spelled_mark : {t : TokenMeaning} {bs : List ℕ} → Spells (rows_of profile) t bs → (c : BlockMark) → t.instruction ≡ mark c → (marks : List ℕ) × (bs ≡ marks ++ (byte_of c ∷ []))
  unfolding is_written
  spelled_mark (run_spelled long run) c e = absurd cc
  spelled_mark (command_spelled row operand stands is) c e =
      let o = operand_none is c e in
      let written = each (λ r. is_written r.form r.name) (rows_of profile) row (rows_written profile) stands.among in
      let one : is_one (byte_of c) row.name ≡ true = subst (λ f. is_written f row.name ≡ true) o.0 written in
      let name : stands.name ≡ byte_of c ∷ [] = named row.name stands.name c stands.named one in
      (stands.marks, stands.whole ∙ ap (λ w. stands.marks ++ w) (ap (λ w. stands.name ++ w) o.1 ∙ append_nil stands.name ∙ name))

  scan_read : (bs more : List ℕ) (t : TokenMeaning) → scan profile bs ≡ found t more → token_from (rows_of profile) (after_fillers bs) ≡ Ok (t, more)
  unfolding scan
  scan_read bs more t is = here (after_fillers bs) is
    where
      of_reading : (r : Reading TokenMeaning) → scanned r ≡ found t more → r ≡ Ok (t, more)
      of_reading (Err c) e = absurd cc
      of_reading (Ok x) e =
          let order : x.0 ≡ t = cc in
          let rest : x.1 ≡ more = cc in
          λ i. Ok (order i, rest i)

      here : (xs : List ℕ) → scan_here profile xs ≡ found t more → token_from (rows_of profile) xs ≡ Ok (t, more)
      here [] e = absurd cc
      here (b ∷ xs) e = of_reading (token_from (rows_of profile) (b ∷ xs)) e

  -- the last byte of a token is the last that spells it
  last_byte : (xs : List ℕ) (at from to : ℕ) (t : TokenMeaning) (b : ℕ) → ((bs : List ℕ) → Spells (rows_of profile) t bs → (before : List ℕ) × (bs ≡ before ++ (b ∷ []))) → found t (drop to xs) ≡ scan profile (drop at xs) → drop from xs ≡ after_fillers (drop at xs) → from < to → to ≤ length xs →
      drop (to - 1) xs ≡ b ∷ drop to xs
  last_byte xs at from to t b ends is begins long inside =
      let read = scan_read (drop at xs) (drop to xs) t (sym is) in
      let s = spelled (rows_of profile) (after_fillers (drop at xs)) (drop to xs) t read in
      let w = ends s.0 s.1 in
      let whole : drop from xs ≡ w.0 ++ (b ∷ drop to xs) = begins ∙ s.2 ∙ ap (λ f. f ++ drop to xs) w.1 ∙ append_assoc w.0 (b ∷ []) (drop to xs) in
      let place : from + length w.0 ≡ to - 1 = omega (arith, ap length whole, length-drop from xs, length-drop to xs, length-append w.0 (b ∷ drop to xs)) in
      ap (λ n. drop n xs) (sym place) ∙ sym (drop-drop (length w.0) from xs) ∙ ap (drop (length w.0)) whole ∙ drop-append_seam w.0 (b ∷ drop to xs)

  pub mark_byte : (xs : List ℕ) (at from to : ℕ) (t : TokenMeaning) (c : BlockMark) → found t (drop to xs) ≡ scan profile (drop at xs) → t.instruction ≡ mark c → drop from xs ≡ after_fillers (drop at xs) → from < to → to ≤ length xs → drop (to - 1) xs ≡ byte_of c ∷ drop to xs
  mark_byte xs at from to t c is marked begins long inside = last_byte xs at from to t (byte_of c) (λ bs spells. spelled_mark spells c marked) is begins long inside

-- a tag ends with `!`
operand_bang : {f : Form} {m : Modifiers} {i : Instruction} {bs : List ℕ} → SpellsOperand f m i bs → (name : List ℕ) → is_tag name i ≡ true → (before : List ℕ) × (bs ≡ before ++ (33 ∷ []))
operand_bang bare_spelled name e = absurd cc
operand_bang mark_spelled name e = absurd cc
operand_bang escape_spelled name e = absurd cc
operand_bang (register_spelled named) name e = absurd cc
operand_bang byte_spelled name e = absurd cc
operand_bang (test_spelled named) name e = absurd cc
operand_bang (text_spelled d front back delimits ends whole) name e = absurd cc
operand_bang (tag_spelled {t = t} ends) name e = (t, ends.1)
operand_bang (set_text_spelled b d front back register delimits ends whole) name e = absurd cc
operand_bang (replace_spelled d front old new delimits ends also whole) name e = absurd cc

module _ (profile : Profile) where
  spelled_tag : {t : TokenMeaning} {bs : List ℕ} → Spells (rows_of profile) t bs → (name : List ℕ) → is_tag name t.instruction ≡ true → (before : List ℕ) × (bs ≡ before ++ (33 ∷ []))
  spelled_tag (run_spelled long run) name e = absurd cc
  spelled_tag (command_spelled row operand stands is) name e =
      let o = operand_bang is name e in
      let whole = stands.whole ∙ ap (λ w. stands.marks ++ (stands.name ++ w)) o.1 in (
        stands.marks ++ (stands.name ++ o.0),
        whole ∙ ap (λ w. stands.marks ++ w) (sym (append_assoc stands.name o.0 (33 ∷ []))) ∙ sym (append_assoc stands.marks (stands.name ++ o.0) (33 ∷ [])),
      )

  pub tag_byte : (xs : List ℕ) (at from to : ℕ) (t : TokenMeaning) (name : List ℕ) → found t (drop to xs) ≡ scan profile (drop at xs) → is_tag name t.instruction ≡ true → drop from xs ≡ after_fillers (drop at xs) → from < to → to ≤ length xs → drop (to - 1) xs ≡ 33 ∷ drop to xs
  tag_byte xs at from to t name is tagged begins long inside = last_byte profile xs at from to t 33 (λ bs spells. spelled_tag spells name tagged) is begins long inside
