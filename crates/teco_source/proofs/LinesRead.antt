-- What a reader makes of a written line.
use Rattle.std.proofs.Common.{◌≡◌, ℕ, zero, suc, Bool, true, false, List, [], ◌∷◌, ◌++◌, Option, Some, None, refl, sym, ap, subst, ◌∙◌, eqb, eqb-true, append_assoc, map}
use Rattle.std.proofs.lemmas.List.{append-nil}
use Rattle.teco_source.specs.declared.reader.Mode.{Mode}
use Rattle.teco_source.specs.declared.reader.Mode.TheVariants.{First, Margin, Blank, Text, Hash, Mark, Caret, Comment, Wrong}
use Rattle.teco_source.specs.Source.{State, ends_line, line_begins, step, run}
use Rattle.teco_source.specs.Listing.{spelling, spelled, mode_at_mark, mode_after, spaces, margin_of, note_of, line_mode, line_written, between, in_comment}
use Rattle.teco_source.proofs.Bytes.{run-append, split, at, unblanked, byte_reads, mark_reads}

-- A reader in this mode has read this text.
abbrev Holds : Mode → List ℕ → State → Type 0
Holds Blank text s = (bytes : List ℕ) × (blanks : List ℕ) × (s ≡ at Blank bytes blanks) × (bytes ++ blanks ≡ text)
Holds Mark text s = (bytes : List ℕ) × (blanks : List ℕ) × (s ≡ at Mark bytes blanks) × (bytes ++ blanks ++ 33 ∷ [] ≡ text)
Holds First text s = s ≡ at First text []
Holds Margin text s = s ≡ at Margin text []
Holds Text text s = s ≡ at Text text []
Holds _ text s = ⊥

blank_more : (bytes blanks text : List ℕ) → bytes ++ blanks ≡ text → bytes ++ (blanks ++ 32 ∷ []) ≡ text ++ 32 ∷ []
blank_more bytes blanks text e = sym (append_assoc bytes blanks (32 ∷ [])) ∙ ap (λ (xs : List ℕ). xs ++ 32 ∷ []) e

-- a space after a guard
space_guarded : (text : List ℕ) → at Blank (text ++ [] ++ []) (32 ∷ []) ≡ at Blank text (32 ∷ [])
space_guarded text = ap (λ (xs : List ℕ). at Blank xs (32 ∷ [])) (append-nil (text ++ []) ∙ append-nil text)

-- a space more
space_more : (mode : Mode) (text : List ℕ) (s : State) → Holds mode text s → Holds Blank (text ++ 32 ∷ []) (run s (spelling mode 32))
unfolding run step
space_more First text s h = (text, 32 ∷ [], ap (λ (t : State). run t (94 ∷ 46 ∷ 32 ∷ [])) h ∙ space_guarded text, refl)
space_more Margin text s h = (text, 32 ∷ [], ap (λ (t : State). run t (94 ∷ 46 ∷ 32 ∷ [])) h ∙ space_guarded text, refl)
space_more Blank text s (bytes, blanks, is, whole) = (bytes, blanks ++ 32 ∷ [], ap (λ (t : State). run t (32 ∷ [])) is, blank_more bytes blanks text whole)
space_more Text text s h = (text, 32 ∷ [], ap (λ (t : State). run t (32 ∷ [])) h, refl)
space_more Mark text s (bytes, blanks, is, whole) = (text, 32 ∷ [], ap (λ (t : State). run t (32 ∷ [])) is ∙ ap (λ (xs : List ℕ). at Blank xs (32 ∷ [])) whole, refl)
space_more Hash text s h = absurd h
space_more Caret text s h = absurd h
space_more Comment text s h = absurd h
space_more Wrong text s h = absurd h

-- an exclamation mark more
mark_more : (mode : Mode) (text : List ℕ) (s : State) → Holds mode text s → Holds (mode_after mode 33) (text ++ 33 ∷ []) (run s (spelling mode 33))
unfolding run step
mark_more First text s h = (text, [], ap (λ (t : State). run t (33 ∷ [])) h, ap (λ (xs : List ℕ). xs ++ 33 ∷ []) (append-nil text))
mark_more Margin text s h = (text, [], ap (λ (t : State). run t (33 ∷ [])) h, ap (λ (xs : List ℕ). xs ++ 33 ∷ []) (append-nil text))
mark_more Blank text s (bytes, blanks, is, whole) = (bytes, blanks, ap (λ (t : State). run t (33 ∷ [])) is, ap (λ (xs : List ℕ). xs ++ 33 ∷ []) whole)
mark_more Text text s h = ap (λ (t : State). run t (33 ∷ [])) h ∙ unblanked text 33
mark_more Mark text s (bytes, blanks, is, whole) =
    ap (λ (t : State). run t (94 ∷ 33 ∷ [])) is ∙ unblanked (bytes ++ blanks ++ 33 ∷ []) 33 ∙ ap (λ (xs : List ℕ). at Text (xs ++ 33 ∷ []) []) whole
mark_more Hash text s h = absurd h
mark_more Caret text s h = absurd h
mark_more Comment text s h = absurd h
mark_more Wrong text s h = absurd h

-- any other byte more
other_more : (mode : Mode) (text : List ℕ) (b : ℕ) (s : State) → eqb b 32 ≡ false → eqb b 33 ≡ false → Holds mode text s → Holds Text (text ++ b ∷ []) (run s (spelling mode b))
other_more First text b s e32 e33 h = ap (λ (t : State). run t (spelling First b)) h ∙ byte_reads First b text [] refl e32 e33 ∙ unblanked text b
other_more Margin text b s e32 e33 h = ap (λ (t : State). run t (spelling Margin b)) h ∙ byte_reads Margin b text [] refl e32 e33 ∙ unblanked text b
other_more Blank text b s e32 e33 (bytes, blanks, is, whole) =
    ap (λ (t : State). run t (spelling Blank b)) is ∙ byte_reads Blank b bytes blanks refl e32 e33 ∙ ap (λ (xs : List ℕ). at Text (xs ++ b ∷ []) []) whole
other_more Text text b s e32 e33 h = ap (λ (t : State). run t (spelling Text b)) h ∙ byte_reads Text b text [] refl e32 e33 ∙ unblanked text b
other_more Mark text b s e32 e33 (bytes, blanks, is, whole) =
    ap (λ (t : State). run t (spelling Mark b)) is ∙ mark_reads b bytes blanks e32 e33 ∙ ap (λ (xs : List ℕ). at Text (xs ++ b ∷ []) []) whole
other_more Hash text b s e32 e33 h = absurd h
other_more Caret text b s e32 e33 h = absurd h
other_more Comment text b s e32 e33 h = absurd h
other_more Wrong text b s e32 e33 h = absurd h

one_more : (mode : Mode) (text : List ℕ) (b : ℕ) (s : State) → Holds mode text s → Holds (mode_after mode b) (text ++ b ∷ []) (run s (spelling mode b))
one_more mode text b s h =
    split (eqb b 32) (λ e. let is : b ≡ 32 = eqb-true b 32 e in rw is (space_more mode text s h)) (λ e32.
    split (eqb b 33) (λ e. let is : b ≡ 33 = eqb-true b 33 e in rw is (mark_more mode text s h)) (λ e33.
    let e : mode_after mode b ≡ Text = rw (e32, e33) refl in
    subst (λ (m : Mode). Holds m (text ++ b ∷ []) (run s (spelling mode b))) (sym e) (other_more mode text b s e32 e33 h)))

-- Nothing waits in the line but, it may be, a mark.
data Settled (text : List ℕ) (s : State) : Type 0 where
  settled : s ≡ at Text text [] → Settled text s
  with_mark : (bytes blanks : List ℕ) → s ≡ at Mark bytes blanks → bytes ++ blanks ++ 33 ∷ [] ≡ text → Settled text s

-- within a line
abbrev is_within : Mode → Bool
is_within First = false
is_within Margin = false
is_within _ = true

mark_is_within : (mode : Mode) → is_within (mode_at_mark mode) ≡ true
mark_is_within First = refl
mark_is_within Margin = refl
mark_is_within Blank = refl
mark_is_within Text = refl
mark_is_within Hash = refl
mark_is_within Mark = refl
mark_is_within Caret = refl
mark_is_within Comment = refl
mark_is_within Wrong = refl

after_is_within : (mode : Mode) (b : ℕ) → is_within (mode_after mode b) ≡ true
after_is_within mode b =
    split (eqb b 32) (λ e. rw e refl) (λ e32.
    split (eqb b 33) (λ e. rw (e32, e) (mark_is_within mode)) (λ e33. rw (e32, e33) refl))

-- after the last byte
settles : (mode : Mode) (text : List ℕ) (s : State) → Holds mode text s → is_within mode ≡ true → Settled text (run s (spelled mode []))
unfolding spelled run step
settles First text s h w = cc
settles Margin text s h w = cc
settles Blank text s (bytes, blanks, is, whole) w =
    settled (ap (λ (t : State). run t (94 ∷ 46 ∷ [])) is ∙ ap (λ (xs : List ℕ). at Text xs []) (append-nil (bytes ++ blanks) ∙ whole))
settles Text text s h w = settled h
settles Mark text s (bytes, blanks, is, whole) w = with_mark bytes blanks is whole
settles Hash text s h w = absurd h
settles Caret text s h w = absurd h
settles Comment text s h w = absurd h
settles Wrong text s h w = absurd h

bytes_read : (b : ℕ) (bs text : List ℕ) (mode : Mode) (s : State) → Holds mode text s → Settled (text ++ b ∷ bs) (run s (spelled mode (b ∷ bs)))
unfolding spelled
bytes_read b [] text mode s h =
    rw (run-append s (spelling mode b) (spelled (mode_after mode b) []))
    (settles (mode_after mode b) (text ++ b ∷ []) (run s (spelling mode b)) (one_more mode text b s h) (after_is_within mode b))
bytes_read b (c ∷ bs) text mode s h =
    rw (run-append s (spelling mode b) (spelled (mode_after mode b) (c ∷ bs)), ← append_assoc text (b ∷ []) (c ∷ bs))
    (bytes_read c bs (text ++ b ∷ []) (mode_after mode b) (run s (spelling mode b)) (one_more mode text b s h))

-- Spaces wait in a line, and are layout in the margin.
spaces_wait : (n : ℕ) (bytes blanks : List ℕ) → run (at Blank bytes blanks) (spaces n) ≡ at Blank bytes (blanks ++ spaces n)
unfolding run step
spaces_wait zero bytes blanks = ap (at Blank bytes) (sym (append-nil blanks))
spaces_wait (suc n) bytes blanks = spaces_wait n bytes (blanks ++ 32 ∷ []) ∙ ap (at Blank bytes) (append_assoc blanks (32 ∷ []) (spaces n))

spaces_pass : (n : ℕ) (text : List ℕ) → run (at Margin text []) (spaces n) ≡ at Margin text []
unfolding run step
spaces_pass zero text = refl
spaces_pass (suc n) text = spaces_pass n text

comment_passes : (note : List ℕ) (bytes blanks : List ℕ) → run (at Comment bytes blanks) (map in_comment note) ≡ at Comment bytes blanks
unfolding run step
comment_passes [] bytes blanks = refl
comment_passes (b ∷ bs) bytes blanks =
    split (eqb b 10) (λ e. rw e (comment_passes bs bytes blanks)) (λ e. rw (e, e) (comment_passes bs bytes blanks))

-- a comment, from its two marks to the end of the line
line_commented : (note : List ℕ) (bytes blanks : List ℕ) → run (at Blank bytes blanks) (33 ∷ 33 ∷ (map in_comment note ++ 10 ∷ [])) ≡ line_begins bytes
unfolding run step
line_commented note bytes blanks =
    run-append (at Comment bytes blanks) (map in_comment note) (10 ∷ []) ∙ ap (λ (s : State). run s (10 ∷ [])) (comment_passes note bytes blanks)

noted : (n : ℕ) (note : List ℕ) (bytes blanks : List ℕ) → run (at Blank bytes blanks) ((spaces n ++ 33 ∷ 33 ∷ map in_comment note) ++ 10 ∷ []) ≡ line_begins bytes
noted n note bytes blanks =
    rw (append_assoc (spaces n) (33 ∷ 33 ∷ map in_comment note) (10 ∷ []), run-append (at Blank bytes blanks) (spaces n) (33 ∷ 33 ∷ (map in_comment note ++ 10 ∷ [])), spaces_wait n bytes blanks)
    (line_commented note bytes (blanks ++ spaces n))

-- A note and the end of the line leave the reader before the next line.
line_ends : (text : List ℕ) (s : State) (note : Option (ℕ × List ℕ)) → Settled text s → run s (note_of note ++ 10 ∷ []) ≡ line_begins text
unfolding run step
line_ends text s None (settled is) = ap (λ (t : State). run t (10 ∷ [])) is
line_ends text s None (with_mark bytes blanks is whole) = ap (λ (t : State). run t (10 ∷ [])) is ∙ ap line_begins whole
line_ends text s (Some note) (settled is) = ap (λ (t : State). run t (note_of (Some note) ++ 10 ∷ [])) is ∙ noted note.0 note.1 text (32 ∷ [])
line_ends text s (Some note) (with_mark bytes blanks is whole) =
    ap (λ (t : State). run t (note_of (Some note) ++ 10 ∷ [])) is ∙ noted note.0 note.1 (bytes ++ blanks ++ 33 ∷ []) (32 ∷ []) ∙ ap line_begins whole

later_between : (text : List ℕ) (b : ℕ) (bs : List ℕ) → between (text ++ b ∷ bs) ≡ line_begins (text ++ b ∷ bs)
later_between [] b bs = refl
later_between (x ∷ xs) b bs = refl

holds_between : (text : List ℕ) → Holds (line_mode text) text (between text)
holds_between [] = refl
holds_between (b ∷ bs) = split (ends_line (b ∷ bs)) (λ e. rw e (b ∷ bs, [], refl, append-nil (b ∷ bs))) (λ e. rw e refl)

margin_passes : (text : List ℕ) (n : ℕ) → run (between text) (margin_of (line_mode text) n) ≡ between text
unfolding run
margin_passes [] n = refl
margin_passes (b ∷ bs) n = split (ends_line (b ∷ bs)) (λ e. rw e refl) (λ e. rw e (spaces_pass n (b ∷ bs)))

-- A line of a source says its bytes, whatever its margin and its note.
pub line_reads : (text : List ℕ) (n b : ℕ) (bs : List ℕ) (note : Option (ℕ × List ℕ))
    → run (between text) (line_written (line_mode text) n (b ∷ bs) note) ≡ between (text ++ b ∷ bs)
line_reads text n b bs note =
    let m : List ℕ = margin_of (line_mode text) n in
    let w : List ℕ = spelled (line_mode text) (b ∷ bs) in
    ap (run (between text)) (append_assoc (m ++ w) (note_of note) (10 ∷ []))
    ∙ run-append (between text) (m ++ w) (note_of note ++ 10 ∷ [])
    ∙ ap (λ (s : State). run s (note_of note ++ 10 ∷ [])) (run-append (between text) m w ∙ ap (λ (s : State). run s w) (margin_passes text n))
    ∙ line_ends (text ++ b ∷ bs) (run (between text) w) note (bytes_read b bs text (line_mode text) (between text) (holds_between text))
    ∙ sym (later_between text b bs)
