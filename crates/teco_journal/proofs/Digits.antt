-- Digits up to the end of a line: those of a number, or a front of them.
use Rattle.std.proofs.Common.{◌≡◌, ℕ, zero, suc, ◌+◌, ◌/◌, ◌%◌, ◌<◌, ◌≤◌, ◌⊎◌, inl, inr, true, false, List, [], ◌∷◌, ◌++◌, length, take, drop, get_or, Some, None, refl, sym, ap, ◌∙◌, arith, eqb, eq-eqb, eqb-true, append_assoc, length-append}
use Rattle.std.specs.Prelude.{decimal}
use Rattle.std.proofs.lemmas.List.{append_cancel_left, append_cancel_right, take_all, drop_more, take-append-drop}
use Rattle.std.proofs.lemmas.Fmt.{decimal_by_steps, decimal_step, decimal_injective}
use Rattle.memchr.specs.Find.{IsFirstByte, is_byte}
use Rattle.teco_source.proofs.Bytes.{differs}
use Rattle.teco_journal.specs.HeadFaults.{Fails, FailsAt, IsNoNumber}
use Rattle.teco_journal.specs.declared.head_reader.HeadFault.{HeadFault}
use Rattle.teco_journal.specs.declared.head_reader.HeadFault.TheVariants.{Version, Torn, Changed}
use Rattle.teco_journal.specs.Heads.{FitsNumber, number_line}
use Rattle.teco_journal.proofs.Lacking.{lacks, more_lacks, first_lacks, rest_lacks, other_byte, first_part}
use Rattle.teco_journal.proofs.EventWords.{decimal_lacks}
use Rattle.teco_journal.proofs.Cuts.{cut_more, differ_more}

nowhere_lacks : (c n : ℕ) (bs : List ℕ) → n ≤ length bs → ((k : ℕ) → k < n → eqb (get_or bs k 0) c ≡ true → ⊥) → lacks c (take n bs) ≡ true
nowhere_lacks c zero bs within none = refl
nowhere_lacks c (suc n) [] within none = refl
nowhere_lacks c (suc n) (b ∷ bs) within none =
    more_lacks c b (take n bs) (differs b c (λ is. none 0 (omega arith) (eq-eqb b c is)))
    (nowhere_lacks c n bs (omega arith) (λ k less. none (suc k) (omega arith)))

-- Where the first such byte stands, a front that lacks it ends; where there is none, all bytes lack it.
pub all_lack : (c : ℕ) (bs : List ℕ) → IsFirstByte (is_byte c) bs None → lacks c bs ≡ true
all_lack c bs f =
    ap (lacks c) (sym (take_all (length bs) bs (omega arith)))
    ∙ nowhere_lacks c (length bs) bs (omega arith) (λ k less. f k (omega arith) less)

pub front_lacks_it : (c k : ℕ) (bs : List ℕ) → IsFirstByte (is_byte c) bs (Some k) → lacks c (take k bs) ≡ true
front_lacks_it c k bs f =
    let less : k < length bs = f.0.high in
    nowhere_lacks c k bs (omega arith) (λ i below. f.0.before i (omega arith) below)

pub parted_there : (c k : ℕ) (bs : List ℕ) → IsFirstByte (is_byte c) bs (Some k) → bs ≡ take k bs ++ c ∷ drop (k + 1) bs
parted_there c k bs f =
    let less : k < length bs = f.0.high in
    let byte : get_or bs k 0 ≡ c = eqb-true (get_or bs k 0) c f.1 in
    sym (take-append-drop k bs) ∙ ap (λ (l : List ℕ). take k bs ++ l) (drop_more bs k 0 less ∙ ap (λ (b : ℕ). b ∷ drop (k + 1) bs) byte)

-- Bytes that lack a byte are a front of what stands before it.
pub front_up_to : (c : ℕ) (before after bytes more : List ℕ) → lacks c bytes ≡ true → before ++ c ∷ after ≡ bytes ++ more
    → (left : List ℕ) × (before ≡ bytes ++ left)
front_up_to c before after [] more h e = (before, refl)
front_up_to c [] after (b ∷ bs) more h e = absurd (other_byte b c (first_lacks c b bs h) (cc))
front_up_to c (a ∷ before) after (b ∷ bs) more h e =
    let rest = front_up_to c before after bs more (rest_lacks c b bs h) (cc) in
    let first : a ≡ b = cc in
    (rest.0, ap (λ (l : List ℕ). a ∷ l) rest.1 ∙ ap (λ (x : ℕ). x ∷ (bs ++ rest.0)) first)

front_of_more : (c : ℕ) (ds front more : List ℕ) → ds ++ c ∷ [] ≡ front ++ more → (front ≡ ds ++ c ∷ []) ⊎ ((left : List ℕ) × (ds ≡ front ++ left))
front_of_more c ds [] more e = inr (ds, refl)
front_of_more c [] (f ∷ []) more e = inl (let one : c ≡ f = cc in ap (λ (x : ℕ). x ∷ []) (sym one))
front_of_more c [] (f ∷ g ∷ fs) more e = absurd (cc)
front_of_more c (d ∷ ds) (f ∷ fs) more e =
    let first : d ≡ f = cc in
    elim (front_of_more c ds fs more (cc)) [
      | inl h ↦ inl (ap (λ (l : List ℕ). f ∷ l) h ∙ ap (λ (x : ℕ). x ∷ (ds ++ c ∷ [])) (sym first))
      | inr h ↦ inr (h.0, ap (λ (l : List ℕ). d ∷ l) h.1 ∙ ap (λ (x : ℕ). x ∷ (fs ++ h.0)) first)
    ]

abbrev IsNumber : List ℕ → Type 0
IsNumber ds = (k : ℕ) × FitsNumber k × (ds ≡ decimal k)

abbrev FrontsAreNumbers : ℕ → List ℕ → Type 0
FrontsAreNumbers n ds = FitsNumber n → ds ≡ decimal n → (front more : List ℕ) → 0 < length front → ds ≡ front ++ more → IsNumber front

one_digit : (n : ℕ) (front more : List ℕ) → FitsNumber n → (48 + n) ∷ [] ≡ decimal n → 0 < length front → (48 + n) ∷ [] ≡ front ++ more → IsNumber front
one_digit n [] more wide is some e = absurd (omega arith)
one_digit n (f ∷ []) more wide is some e = (n, wide, (let same : (48 + n) ∷ [] ≡ f ∷ [] = cc in sym same ∙ is))
one_digit n (f ∷ g ∷ fs) more wide is some e = absurd (cc)

more_digits : (n : ℕ) (ds : List ℕ) → 10 ≤ n → FrontsAreNumbers (n / 10) ds → FrontsAreNumbers n (ds ++ ((48 + n % 10) ∷ []))
more_digits n ds ten fronts wide is front more some e =
    let less : FitsNumber (n / 10) = omega arith in
    let before : ds ≡ decimal (n / 10) = append_cancel_right ds (decimal (n / 10)) ((48 + n % 10) ∷ []) (is ∙ decimal_step n ten wide) in
    elim (front_of_more (48 + n % 10) ds front more e) [
      | inl h ↦ (n, wide, h ∙ is)
      | inr h ↦ fronts less before front h.0 some h.1
    ]

-- A front of a number's digits, of one digit at least, has those of a number.
fronts_are_numbers : (n : ℕ) (front more : List ℕ) → FitsNumber n → 0 < length front → decimal n ≡ front ++ more → IsNumber front
fronts_are_numbers n front more wide some e =
    decimal_by_steps FrontsAreNumbers (λ m one h is f r s q. one_digit m f r h is s q) more_digits n wide wide refl front more some e

pub no_front : (digits : List ℕ) → 0 < length digits → ((n : ℕ) → FitsNumber n → digits ≡ decimal n → ⊥) → IsNoNumber digits Changed
no_front digits some none = λ n more wide e. (let k = fronts_are_numbers n digits more wide some e in none k.0 k.1 k.2)

pub number_parts : (word digits rest : List ℕ) → ((word ++ digits) ++ 10 ∷ []) ++ rest ≡ word ++ (digits ++ 10 ∷ rest)
number_parts word digits rest = append_assoc (word ++ digits) (10 ∷ []) rest ∙ append_assoc word digits (10 ∷ rest)

-- A line of a number tells one number, whatever comes after it.
pub number_lines_same : (word : List ℕ) (m n : ℕ) (x y : List ℕ) → FitsNumber m → FitsNumber n → number_line word m ++ x ≡ number_line word n ++ y → (m ≡ n) × (x ≡ y)
number_lines_same word m n x y p q e =
    let parts = first_part 10 (decimal m) (decimal n) x y (decimal_lacks 10 m (omega arith) p) (decimal_lacks 10 n (omega arith) q)
    (append_cancel_left word (decimal m ++ 10 ∷ x) (decimal n ++ 10 ∷ y) (sym (number_parts word (decimal m) x) ∙ e ∙ number_parts word (decimal n) y)) in
    (decimal_injective m n p q parts.0, parts.1)

-- Bytes after the word, up to the end of a line, or without one.
pub cut_number_line : (word bytes : List ℕ) (fault : HeadFault) → FailsAt word bytes fault → Fails FitsNumber (number_line word) bytes fault
cut_number_line word bytes Torn h = (0, (let wide : FitsNumber 0 = omega arith in wide), cut_more (word ++ decimal 0) (10 ∷ []) bytes (cut_more word (decimal 0) bytes h))
cut_number_line word bytes Changed h = λ n wide. differ_more (word ++ decimal n) (10 ∷ []) bytes (differ_more word (decimal n) bytes h)
cut_number_line word bytes Version h = h

-- what stands after the word
after_word : (word bytes rest : List ℕ) (n : ℕ) (x y : List ℕ) → bytes ≡ word ++ rest → number_line word n ++ x ≡ bytes ++ y → decimal n ++ 10 ∷ x ≡ rest ++ y
after_word word bytes rest n x y is e =
    append_cancel_left word (decimal n ++ 10 ∷ x) (rest ++ y)
    (sym (number_parts word (decimal n) x) ∙ e ∙ ap (λ (l : List ℕ). l ++ y) is ∙ append_assoc word rest y)

pub unended_number : (word bytes rest : List ℕ) (fault : HeadFault) → bytes ≡ word ++ rest → lacks 10 rest ≡ true → IsNoNumber rest fault
    → Fails FitsNumber (number_line word) bytes fault
unended_number word bytes rest Torn is one h = (
  h.0,
  h.1,
  (
    h.2 ++ 10 ∷ [],
    (let both = length-append h.2 (10 ∷ []) in omega (arith, both)),
    append_assoc word (decimal h.0) (10 ∷ []) ∙ ap (λ (l : List ℕ). word ++ (l ++ 10 ∷ [])) h.3
        ∙ ap (λ (l : List ℕ). word ++ l) (append_assoc rest h.2 (10 ∷ [])) ∙ sym (append_assoc word rest (h.2 ++ 10 ∷ []))
        ∙ ap (λ (l : List ℕ). l ++ (h.2 ++ 10 ∷ [])) (sym is),
  ),
)
unended_number word bytes rest Changed is one h = λ n wide x y e.
    (let front = front_up_to 10 (decimal n) x rest y one (after_word word bytes rest n x y is e) in h n front.0 wide front.1)
unended_number word bytes rest Version is one h = h

pub other_number : (word bytes rest digits left : List ℕ) → bytes ≡ word ++ rest → rest ≡ digits ++ 10 ∷ left → lacks 10 digits ≡ true
    → ((n : ℕ) → FitsNumber n → digits ≡ decimal n → ⊥) → Fails FitsNumber (number_line word) bytes Changed
other_number word bytes rest digits left is parted one none = λ n wide x y e.
    (let there : decimal n ++ 10 ∷ x ≡ digits ++ 10 ∷ (left ++ y) =
    after_word word bytes rest n x y is e ∙ ap (λ (l : List ℕ). l ++ y) parted ∙ append_assoc digits (10 ∷ left) y in
    none n wide (sym (first_part 10 (decimal n) digits x (left ++ y) (decimal_lacks 10 n (omega arith) wide) one there).0))

pub this_number : (word bytes rest digits left : List ℕ) (n : ℕ) → bytes ≡ word ++ rest → rest ≡ digits ++ 10 ∷ left → digits ≡ decimal n
    → bytes ≡ number_line word n ++ left
this_number word bytes rest digits left n is parted same =
    is ∙ ap (λ (l : List ℕ). word ++ l) (parted ∙ ap (λ (l : List ℕ). l ++ 10 ∷ left) same) ∙ sym (number_parts word (decimal n) left)

pub empty_number : (digits : List ℕ) → eqb (length digits) 0 ≡ true → IsNoNumber digits Torn
empty_number [] none = (0, (let wide : FitsNumber 0 = omega arith in wide), decimal 0, refl)
empty_number (d ∷ ds) none = (let zero : length (d ∷ ds) ≡ 0 = eqb-true (length (d ∷ ds)) 0 none in absurd (omega arith))

pub some_digits : (digits : List ℕ) → eqb (length digits) 0 ≡ false → 0 < length digits
some_digits [] some = absurd (cc)
some_digits (d ∷ ds) some = omega arith
