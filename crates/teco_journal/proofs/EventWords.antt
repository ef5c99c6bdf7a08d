-- The words of an event are one line, and they are those of no other event.
use Rattle.std.proofs.Common.{◌≡◌, ℕ, ◌+◌, ◌*◌, ◌%◌, ◌<◌, ◌≤◌, ◌^◌, true, false, List, [], ◌∷◌, ◌++◌, length, drop, get_or, Ok, None, refl, sym, ap, ◌∙◌, arith, eqb, eqb-true, ltb-false, ◌&&◌, Some, append_assoc, append-nil}
use Rattle.std.specs.Prelude.{nat_lt, codes, decimal}
use Rattle.std.proofs.lemmas.Fmt.{decimal_by_steps, decimal_injective}
use Rattle.teco_source.specs.declared.reader.Mode.{Mode}
use Rattle.teco_source.specs.declared.reader.Mode.TheVariants.{First, Blank}
use Rattle.teco_source.specs.Source.{commands_of, commands_from, run, step, ends_line}
use Rattle.teco_source.specs.Listing.{spelling, spelled, spelled_end, mode_after, is_guarded, is_mark}
use Rattle.teco_source.specs.Laws.{bytes_in}
use Rattle.teco_source.proofs.Bytes.{split, differs}
use Rattle.teco_source.proofs.Writing.{line_says}
use Rattle.teco_source.proofs.Written.{all_is_read}
use Rattle.teco_journal.specs.Events.{Event, ran, undid, redid, cut, forgot, HasRecord}
use Rattle.teco_journal.specs.Lines.{words_of}
use Rattle.teco_journal.specs.Reading.{IsLine}
use Rattle.teco_journal.proofs.Lacking.{lacks, both_lack, more_lacks, first_part}

digit_lacks : (c n : ℕ) → c < 48 → n < 10 → lacks c ((48 + n) ∷ []) ≡ true
digit_lacks c n low high = more_lacks c (48 + n) [] (differs (48 + n) c (λ is. absurd (omega arith))) refl

last_digit_lacks : (c n : ℕ) → c < 48 → lacks c ((48 + n % 10) ∷ []) ≡ true
last_digit_lacks c n low = digit_lacks c (n % 10) low (omega arith)

-- A number in digits has no byte below them.
pub decimal_lacks : (c n : ℕ) → c < 48 → n < 2 ^ 64 → lacks c (decimal n) ≡ true
decimal_lacks c n low h =
    decimal_by_steps (λ (m : ℕ) (ds : List ℕ). lacks c ds ≡ true)
    (λ m one. digit_lacks c m low one)
    (λ m ds some p. both_lack c ds ((48 + m % 10) ∷ []) p (last_digit_lacks c m low))
    n h

spelling_one : (mode : Mode) (b : ℕ) → lacks 10 (spelling mode b) ≡ true
spelling_one mode b =
    split (eqb b 27) (λ e. rw e refl) (λ e27.
    split (nat_lt b 32) (λ e. rw (e27, e) (more_lacks 10 94 ((b + 64) ∷ []) refl (more_lacks 10 (b + 64) [] (differs (b + 64) 10 (λ is. absurd (omega arith))) refl))) (λ e32.
    let high : 32 ≤ b = ltb-false b 32 e32 in
    let none : eqb b 10 ≡ false = differs b 10 (λ is. absurd (omega arith)) in
    split (eqb b 36) (λ e. rw (e27, e32, e) refl) (λ e36.
    split (eqb b 94) (λ e. rw (e27, e32, e36, e) refl) (λ e94.
    split (eqb b 127) (λ e. rw (e27, e32, e36, e94, e) refl) (λ e127.
    split (eqb b 33 && is_mark mode) (λ e. rw (e27, e32, e36, e94, e127, e) refl) (λ e33.
    split (is_guarded mode b)
    (λ e. rw (e27, e32, e36, e94, e127, e33, e) (more_lacks 10 94 (46 ∷ b ∷ []) refl (more_lacks 10 46 (b ∷ []) refl (more_lacks 10 b [] none refl))))
    (λ g. rw (e27, e32, e36, e94, e127, e33, g) (more_lacks 10 b [] none refl))))))))

end_one : (mode : Mode) → lacks 10 (spelled_end mode) ≡ true
end_one Blank = refl
end_one mode = refl

-- A text as a source spells it is one line,
pub spelled_one : (mode : Mode) (text : List ℕ) → lacks 10 (spelled mode text) ≡ true
unfolding spelled
spelled_one mode [] = end_one mode
spelled_one mode (b ∷ bs) = both_lack 10 (spelling mode b) (spelled (mode_after mode b) bs) (spelling_one mode b) (spelled_one (mode_after mode b) bs)

none_spelled : spelled First [] ≡ []
unfolding spelled
none_spelled = refl

pub empty_spelled : (text : List ℕ) → eqb (length text) 0 ≡ true → spelled First text ≡ []
empty_spelled [] h = none_spelled
empty_spelled (b ∷ bs) h = (let none : length (b ∷ bs) ≡ 0 = eqb-true (length (b ∷ bs)) 0 h in absurd (omega arith))

none_said : commands_of (10 ∷ []) ≡ Ok []
unfolding commands_from step ends_line
none_said = refl

as_line : (xs : List ℕ) → xs ++ 10 ∷ [] ≡ (xs ++ []) ++ 10 ∷ []
as_line xs = ap (λ l. l ++ 10 ∷ []) (sym (append-nil xs))

some_said : (b : ℕ) (bs : List ℕ) → commands_of (spelled First (b ∷ bs) ++ 10 ∷ []) ≡ Ok (b ∷ bs)
unfolding run
some_said b bs =
    all_is_read (spelled First (b ∷ bs) ++ 10 ∷ []) (b ∷ bs)
    (line_says [] (spelled First (b ∷ bs) ++ 10 ∷ []) [] (b ∷ bs) First 0 None (omega arith) (as_line (spelled First (b ∷ bs))) refl refl)

-- and read as that text.
pub texts_are_said : (text : List ℕ) → commands_of (spelled First text ++ 10 ∷ []) ≡ Ok text
texts_are_said [] = ap (λ l. commands_of (l ++ 10 ∷ [])) none_spelled ∙ none_said
texts_are_said (b ∷ bs) = some_said b bs

texts_are_one : (t u : List ℕ) → spelled First t ++ 10 ∷ [] ≡ spelled First u ++ 10 ∷ [] → t ≡ u
texts_are_one t u e = (let same : Some t ≡ Some u = ap bytes_in (sym (texts_are_said t) ∙ ap commands_of e ∙ texts_are_said u) in cc)

pub words_line : (e : Event) → HasRecord e → IsLine (words_of e)
words_line (ran steps text) h = (
  codes "run " ++ decimal steps ++ codes " " ++ spelled First text,
  both_lack 10 (codes "run " ++ decimal steps ++ codes " ") (spelled First text) (both_lack 10 (codes "run " ++ decimal steps) (codes " ") (both_lack 10 (codes "run ") (decimal steps) refl (decimal_lacks 10 steps (omega arith) h)) refl) (spelled_one First text),
  refl,
)
words_line undid h = (codes "undo", refl, refl)
words_line redid h = (codes "redo", refl, refl)
words_line (cut steps) h =
    (codes "rewind " ++ decimal steps, both_lack 10 (codes "rewind ") (decimal steps) refl (decimal_lacks 10 steps (omega arith) h), refl)
words_line forgot h = (codes "forget", refl, refl)

-- a number up to the blank, and a text after it
pub in_parts : (a b : List ℕ) → ((a ++ 32 ∷ []) ++ b) ++ 10 ∷ [] ≡ a ++ 32 ∷ (b ++ 10 ∷ [])
in_parts a b = append_assoc (a ++ 32 ∷ []) b (10 ∷ []) ∙ append_assoc a (32 ∷ []) (b ++ 10 ∷ [])

runs_same : (a b : ℕ) (t u : List ℕ) → a < 2 ^ 64 → b < 2 ^ 64
    → ((decimal a ++ 32 ∷ []) ++ spelled First t) ++ 10 ∷ [] ≡ ((decimal b ++ 32 ∷ []) ++ spelled First u) ++ 10 ∷ [] → ran a t ≡ ran b u
runs_same a b t u p q e =
    let parts = first_part 32 (decimal a) (decimal b) (spelled First t ++ 10 ∷ []) (spelled First u ++ 10 ∷ []) (decimal_lacks 32 a (omega arith) p) (decimal_lacks 32 b (omega arith) q)
    (sym (in_parts (decimal a) (spelled First t)) ∙ e ∙ in_parts (decimal b) (spelled First u)) in
    ap (λ n. ran n t) (decimal_injective a b p q parts.0) ∙ ap (λ xs. ran b xs) (texts_are_one t u parts.1)

cuts_same : (a b : ℕ) → a < 2 ^ 64 → b < 2 ^ 64 → decimal a ++ 10 ∷ [] ≡ decimal b ++ 10 ∷ [] → cut a ≡ cut b
cuts_same a b p q e =
    ap cut (decimal_injective a b p q (first_part 10 (decimal a) (decimal b) [] [] (decimal_lacks 10 a (omega arith) p) (decimal_lacks 10 b (omega arith) q) e).0)

-- tells the words of two kinds of event apart
abbrev pub kind : List ℕ → ℕ
kind words = get_or words 0 0 + 2 * get_or words 2 0

pub words_same : (e f : Event) → HasRecord e → HasRecord f → words_of e ≡ words_of f → e ≡ f
words_same (ran a t) (ran b u) p q is = runs_same a b t u p q (ap (drop 4) is)
words_same (cut a) (cut b) p q is = cuts_same a b p q (ap (drop 7) is)
words_same undid undid p q is = refl
words_same redid redid p q is = refl
words_same forgot forgot p q is = refl
words_same e f p q is = (let same : kind (words_of e) ≡ kind (words_of f) = ap kind is in absurd (omega arith))
