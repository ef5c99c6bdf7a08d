-- Where in a line its check and its words stand.
use Rattle.std.proofs.Common.{◌≡◌, ℕ, ◌+◌, ◌<◌, List, ◌∷◌, ◌++◌, length, take, drop, get_or, sym, ap, ◌∙◌, arith, length-append}
use Rattle.std.proofs.lemmas.List.{drop_more, take-append-drop}
use Rattle.std.proofs.Math.Seq.{take-append_seam, drop-append-add, get_or-append_seam}
use Rattle.teco_journal.specs.Lines.{check_of, line_of}
use Rattle.teco_journal.proofs.Checks.{length_check, in_line}

module _ (last words line : List ℕ) (is : line ≡ line_of last words) where
  parted : line ≡ check_of last words ++ 32 ∷ words
  parted = is ∙ in_line (check_of last words) words

  pub line_long : 16 < length line
  line_long =
      let whole : length line ≡ length (check_of last words ++ 32 ∷ words) = ap length parted in
      let two = length-append (check_of last words) (32 ∷ words) in
      let one : length (check_of last words) ≡ 16 = length_check last words in
      omega (arith, whole, two, one)

  pub line_blank : get_or line 16 0 ≡ 32
  line_blank =
      ap (λ (l : List ℕ). get_or l 16 0) parted ∙ ap (λ (i : ℕ). get_or (check_of last words ++ 32 ∷ words) i 0) (sym (length_check last words))
      ∙ get_or-append_seam (check_of last words) 32 words 0

  pub line_check : take 16 line ≡ check_of last words
  line_check =
      ap (take 16) parted ∙ ap (λ (i : ℕ). take i (check_of last words ++ 32 ∷ words)) (sym (length_check last words)) ∙ take-append_seam (check_of last words) (32 ∷ words)

  pub line_words : drop 17 line ≡ words
  line_words =
      let at : 17 ≡ length (check_of last words) + 1 = (let one : length (check_of last words) ≡ 16 = length_check last words in omega arith) in
      ap (drop 17) parted ∙ ap (λ (i : ℕ). drop i (check_of last words ++ 32 ∷ words)) at ∙ drop-append-add (check_of last words) (32 ∷ words) 1

pub is_line_of : (last line : List ℕ) → 16 < length line → get_or line 16 0 ≡ 32 → take 16 line ≡ check_of last (drop 17 line) → line ≡ line_of last (drop 17 line)
is_line_of last line long blank is =
    sym (take-append-drop 16 line) ∙ ap (λ (l : List ℕ). take 16 line ++ l) (drop_more line 16 0 long ∙ ap (λ (b : ℕ). b ∷ drop 17 line) blank)
    ∙ ap (λ (l : List ℕ). l ++ 32 ∷ drop 17 line) is ∙ sym (in_line (check_of last (drop 17 line)) (drop 17 line))
