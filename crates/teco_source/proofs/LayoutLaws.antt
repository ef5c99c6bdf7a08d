-- Comments and layout are nothing.
use Rattle.std.proofs.Common.{◌≡◌, ℕ, Bool, true, false, ◌&&◌, List, [], ◌∷◌, ◌++◌, Option, Some, None, refl, sym, ap, subst, ◌∙◌, eqb, eqb-true}
use Rattle.std.specs.Prelude.{not, if◌then◌else◌}
use Rattle.std.specs.List.{list_all}
use Rattle.teco_source.specs.declared.reader.Mode.{Mode}
use Rattle.teco_source.specs.declared.reader.Mode.TheVariants.{First, Margin, Blank, Text, Hash, Mark, Caret, Comment, Wrong}
use Rattle.teco_source.specs.Source.{State, start, is_blank, ends_line, line_begins, marked, put_marked, mark_in, blank_in, plain, step, run, ended, commands_of}
use Rattle.teco_source.specs.Laws.{bytes_in, AreSame, is_one_line, begins_alike, CommentsAreNothing, CommentLinesAreNothing, BlanksBeforeAnEndAreNothing, MarginsAreNothing, BreaksAreNothing}
use Rattle.teco_source.proofs.Bytes.{run-append, split, at, mark_step, sharp_step}
use Rattle.teco_source.proofs.Reading.{wrong_stays, bytes_of_run}

first_true : (a b : Bool) → a && b ≡ true → a ≡ true
first_true true b e = refl
first_true false b e = e

second_true : (a b : Bool) → a && b ≡ true → b ≡ true
second_true true b e = e
second_true false b e = cc

not_true : (a : Bool) → not a ≡ true → a ≡ false
not_true true e = sym e
not_true false e = refl

-- what a state says at the end
abbrev says : State → Option (List ℕ)
says s = bytes_in (ended s 0)

commands_say : (source : List ℕ) → bytes_in (commands_of source) ≡ says (run start source)
commands_say source = bytes_of_run start 0 source refl

-- two ends of a source that are read alike
alike : (front xs ys : List ℕ) → says (run (run start front) xs) ≡ says (run (run start front) ys) → AreSame (front ++ xs) (front ++ ys)
alike front xs ys e =
    commands_say (front ++ xs) ∙ ap says (run-append start front xs) ∙ e ∙ sym (commands_say (front ++ ys) ∙ ap says (run-append start front ys))

-- what holds of the three blanks holds of each
of_blanks : (P : ℕ → Type 0) (b : ℕ) → is_blank b ≡ true → P 32 → P 9 → P 13 → P b
of_blanks P b e sp tab cr =
    split (eqb b 32) (λ i. let is : b ≡ 32 = eqb-true b 32 i in rw is sp) (λ n32.
    split (eqb b 9) (λ i. let is : b ≡ 9 = eqb-true b 9 i in rw is tab) (λ n9.
    split (eqb b 13) (λ i. let is : b ≡ 13 = eqb-true b 13 i in rw is cr) (λ n13.
    let off : is_blank b ≡ false = rw (n32, n9, n13) refl in cc)))

-- A blank before the end of a line is nothing.
abbrev IsNothing : Mode → List ℕ → List ℕ → ℕ → Type 0
IsNothing mode bytes blanks b = step (step (at mode bytes blanks) b) 10 ≡ step (at mode bytes blanks) 10

blank_ends : (mode : Mode) (bytes blanks : List ℕ) (b : ℕ) → is_blank b ≡ true → IsNothing mode bytes blanks b
unfolding step
blank_ends First bytes blanks b e = of_blanks (IsNothing First bytes blanks) b e refl refl refl
blank_ends Margin bytes blanks b e = of_blanks (IsNothing Margin bytes blanks) b e refl refl refl
blank_ends Blank bytes blanks b e = of_blanks (IsNothing Blank bytes blanks) b e refl refl refl
blank_ends Text bytes blanks b e = of_blanks (IsNothing Text bytes blanks) b e refl refl refl
blank_ends Hash bytes blanks b e = of_blanks (IsNothing Hash bytes blanks) b e refl refl refl
blank_ends Mark bytes blanks b e = of_blanks (IsNothing Mark bytes blanks) b e refl refl refl
blank_ends Caret bytes blanks b e = of_blanks (IsNothing Caret bytes blanks) b e refl refl refl
blank_ends Comment bytes blanks b e = of_blanks (IsNothing Comment bytes blanks) b e refl refl refl
blank_ends Wrong bytes blanks b e = of_blanks (IsNothing Wrong bytes blanks) b e refl refl refl

blanks_end : (blanks : List ℕ) (s : State) (back : List ℕ) → list_all is_blank blanks ≡ true → run s (blanks ++ 10 ∷ back) ≡ run s (10 ∷ back)
unfolding run
blanks_end [] s back e = refl
blanks_end (b ∷ bs) s back e =
    blanks_end bs (step s b) back (second_true (is_blank b) (list_all is_blank bs) e)
    ∙ ap (λ (t : State). run t back) (blank_ends s.mode s.bytes s.blanks b (first_true (is_blank b) (list_all is_blank bs) e))

-- A comment goes to the end of its line.
comment_passes : (note bytes blanks : List ℕ) → is_one_line note ≡ true → run (at Comment bytes blanks) note ≡ at Comment bytes blanks
unfolding run step
comment_passes [] bytes blanks e = refl
comment_passes (b ∷ bs) bytes blanks e =
    let other : eqb b 10 ≡ false = not_true (eqb b 10) (first_true (not (eqb b 10)) (is_one_line bs) e) in
    rw other (comment_passes bs bytes blanks (second_true (not (eqb b 10)) (is_one_line bs) e))

comment_ends : (note bytes blanks back : List ℕ) → is_one_line note ≡ true → run (at Comment bytes blanks) (note ++ 10 ∷ back) ≡ run (line_begins bytes) back
unfolding run step
comment_ends note bytes blanks back e =
    run-append (at Comment bytes blanks) note (10 ∷ back) ∙ ap (λ (s : State). run s (10 ∷ back)) (comment_passes note bytes blanks e)

abbrev IsComment : List ℕ → List ℕ → Mode → List ℕ → List ℕ → ℕ → Type 0
IsComment note back mode bytes blanks b =
    run (at mode bytes blanks) (b ∷ 33 ∷ 33 ∷ (note ++ 10 ∷ back)) ≡ run (at mode bytes blanks) (10 ∷ back)

both_wrong : (xs ys bytes blanks : List ℕ) → run (at Wrong bytes blanks) xs ≡ run (at Wrong bytes blanks) ys
both_wrong xs ys bytes blanks = wrong_stays xs bytes blanks ∙ sym (wrong_stays ys bytes blanks)

commented : (mode : Mode) (bytes blanks note back : List ℕ) (b : ℕ) → is_blank b ≡ true → is_one_line note ≡ true → IsComment note back mode bytes blanks b
unfolding run step
commented First bytes blanks note back b e o =
    of_blanks (IsComment note back First bytes blanks) b e (comment_ends note bytes blanks back o) (comment_ends note bytes blanks back o) (comment_ends note bytes blanks back o)
commented Margin bytes blanks note back b e o =
    of_blanks (IsComment note back Margin bytes blanks) b e (comment_ends note bytes blanks back o) (comment_ends note bytes blanks back o) (comment_ends note bytes blanks back o)
commented Blank bytes blanks note back b e o =
    of_blanks (IsComment note back Blank bytes blanks) b e (comment_ends note bytes (blanks ++ 32 ∷ []) back o) (comment_ends note bytes (blanks ++ 9 ∷ []) back o) (comment_ends note bytes (blanks ++ 13 ∷ []) back o)
commented Text bytes blanks note back b e o =
    of_blanks (IsComment note back Text bytes blanks) b e (comment_ends note bytes (blanks ++ 32 ∷ []) back o) (comment_ends note bytes (blanks ++ 9 ∷ []) back o) (comment_ends note bytes (blanks ++ 13 ∷ []) back o)
commented Hash bytes blanks note back b e o =
    of_blanks (IsComment note back Hash bytes blanks) b e (comment_ends note (bytes ++ blanks ++ 35 ∷ []) (32 ∷ []) back o) (comment_ends note (bytes ++ blanks ++ 35 ∷ []) (9 ∷ []) back o) (comment_ends note (bytes ++ blanks ++ 35 ∷ []) (13 ∷ []) back o)
commented Mark bytes blanks note back b e o =
    of_blanks (IsComment note back Mark bytes blanks) b e (comment_ends note (bytes ++ blanks ++ 33 ∷ []) (32 ∷ []) back o) (comment_ends note (bytes ++ blanks ++ 33 ∷ []) (9 ∷ []) back o) (comment_ends note (bytes ++ blanks ++ 33 ∷ []) (13 ∷ []) back o)
commented Caret bytes blanks note back b e o =
    of_blanks (IsComment note back Caret bytes blanks) b e (both_wrong (note ++ 10 ∷ back) back bytes blanks) (both_wrong (note ++ 10 ∷ back) back bytes blanks) (both_wrong (note ++ 10 ∷ back) back bytes blanks)
commented Comment bytes blanks note back b e o =
    of_blanks (IsComment note back Comment bytes blanks) b e (comment_ends note bytes blanks back o) (comment_ends note bytes blanks back o) (comment_ends note bytes blanks back o)
commented Wrong bytes blanks note back b e o = both_wrong (b ∷ 33 ∷ 33 ∷ (note ++ 10 ∷ back)) (10 ∷ back) bytes blanks

-- a line that is a comment
line_commented : (bytes note back : List ℕ) → is_one_line note ≡ true → run (line_begins bytes) (33 ∷ 33 ∷ (note ++ 10 ∷ back)) ≡ run (line_begins bytes) back
unfolding run step
line_commented bytes note back o =
    split (ends_line bytes) (λ e. rw e (comment_ends note bytes [] back o ∙ begun true e)) (λ e. rw e (comment_ends note bytes [] back o ∙ begun false e))
  where
    begun : (v : Bool) → ends_line bytes ≡ v → run (line_begins bytes) back ≡ run (at (if v then Blank else Margin) bytes []) back
    begun v e = rw e refl

next_commented : (mode : Mode) (bytes blanks note back : List ℕ) → is_one_line note ≡ true
    → run (at mode bytes blanks) (10 ∷ 33 ∷ 33 ∷ (note ++ 10 ∷ back)) ≡ run (at mode bytes blanks) (10 ∷ back)
unfolding run step
next_commented First bytes blanks note back o = line_commented bytes note back o
next_commented Margin bytes blanks note back o = line_commented bytes note back o
next_commented Blank bytes blanks note back o = line_commented bytes note back o
next_commented Text bytes blanks note back o = line_commented bytes note back o
next_commented Hash bytes blanks note back o = line_commented (bytes ++ blanks ++ 35 ∷ []) note back o
next_commented Mark bytes blanks note back o = line_commented (bytes ++ blanks ++ 33 ∷ []) note back o
next_commented Caret bytes blanks note back o = both_wrong (33 ∷ 33 ∷ (note ++ 10 ∷ back)) back bytes blanks
next_commented Comment bytes blanks note back o = line_commented bytes note back o
next_commented Wrong bytes blanks note back o = both_wrong (33 ∷ 33 ∷ (note ++ 10 ∷ back)) back bytes blanks

-- Blanks in a margin are passed.
blank_passes : (b : ℕ) (bytes : List ℕ) → is_blank b ≡ true → step (at Margin bytes []) b ≡ at Margin bytes []
unfolding step
blank_passes b bytes e = of_blanks (λ c. step (at Margin bytes []) c ≡ at Margin bytes []) b e refl refl refl

blanks_pass : (blanks bytes back : List ℕ) → list_all is_blank blanks ≡ true → run (at Margin bytes []) (blanks ++ back) ≡ run (at Margin bytes []) back
unfolding run
blanks_pass [] bytes back e = refl
blanks_pass (b ∷ bs) bytes back e =
    ap (λ (s : State). run s (bs ++ back)) (blank_passes b bytes (first_true (is_blank b) (list_all is_blank bs) e))
    ∙ blanks_pass bs bytes back (second_true (is_blank b) (list_all is_blank bs) e)

margin_passed : (blanks bytes text back : List ℕ) → Some bytes ≡ Some text → ends_line text ≡ false → list_all is_blank blanks ≡ true
    → run (line_begins bytes) (blanks ++ back) ≡ run (line_begins bytes) back
margin_passed blanks bytes text back same lone e =
    let is : bytes ≡ text = cc in
    rw (is, lone) (blanks_pass blanks text back e)

next_margin : (mode : Mode) (bytes waiting blanks text back : List ℕ) → says (at mode bytes waiting) ≡ Some text → ends_line text ≡ false → list_all is_blank blanks ≡ true
    → run (at mode bytes waiting) (10 ∷ (blanks ++ back)) ≡ run (at mode bytes waiting) (10 ∷ back)
unfolding run step
next_margin First bytes waiting blanks text back s lone e = margin_passed blanks bytes text back s lone e
next_margin Margin bytes waiting blanks text back s lone e = margin_passed blanks bytes text back s lone e
next_margin Blank bytes waiting blanks text back s lone e = margin_passed blanks bytes text back s lone e
next_margin Text bytes waiting blanks text back s lone e = margin_passed blanks bytes text back s lone e
next_margin Hash bytes waiting blanks text back s lone e = margin_passed blanks (bytes ++ waiting ++ 35 ∷ []) text back s lone e
next_margin Mark bytes waiting blanks text back s lone e = margin_passed blanks (bytes ++ waiting ++ 33 ∷ []) text back s lone e
next_margin Comment bytes waiting blanks text back s lone e = margin_passed blanks bytes text back s lone e
next_margin Caret bytes waiting blanks text back s lone e = cc
next_margin Wrong bytes waiting blanks text back s lone e = cc

pub comments_are_nothing : CommentsAreNothing
comments_are_nothing front note back blank b o =
    alike front (blank ∷ 33 ∷ 33 ∷ (note ++ 10 ∷ back)) (10 ∷ back)
    (ap says (commented (run start front).mode (run start front).bytes (run start front).blanks note back blank b o))

pub comment_lines_are_nothing : CommentLinesAreNothing
comment_lines_are_nothing front note back o =
    alike front (10 ∷ 33 ∷ 33 ∷ (note ++ 10 ∷ back)) (10 ∷ back)
    (ap says (next_commented (run start front).mode (run start front).bytes (run start front).blanks note back o))

pub blanks_are_nothing : BlanksBeforeAnEndAreNothing
blanks_are_nothing front blanks back e =
    alike front (blanks ++ 10 ∷ back) (10 ∷ back) (ap says (blanks_end blanks (run start front) back e))

pub margins_are_nothing : MarginsAreNothing
margins_are_nothing front blanks back text is lone e =
    alike front (10 ∷ (blanks ++ back)) (10 ∷ back)
    (ap says (next_margin (run start front).mode (run start front).bytes (run start front).blanks blanks text back
    (sym (commands_say front) ∙ ap bytes_in is) lone e))

-- a line begins
abbrev is_begun : Mode → Bool
is_begun Margin = true
is_begun Blank = true
is_begun _ = false

-- Within a line no blank waits.
abbrev IsSettled : State → Type 0
IsSettled s = s.mode ≡ Text → s.blanks ≡ []

mark_settled : (mode : Mode) (bytes blanks : List ℕ) → IsSettled (mark_in mode (at mode bytes blanks))
mark_settled Text bytes blanks m = refl
mark_settled First bytes blanks m = cc
mark_settled Margin bytes blanks m = cc
mark_settled Blank bytes blanks m = cc
mark_settled Hash bytes blanks m = cc
mark_settled Mark bytes blanks m = cc
mark_settled Caret bytes blanks m = cc
mark_settled Comment bytes blanks m = cc
mark_settled Wrong bytes blanks m = cc

blank_settled : (mode : Mode) (bytes blanks : List ℕ) (b : ℕ) → IsSettled (blank_in mode (at mode bytes blanks) b)
blank_settled First bytes blanks b m = cc
blank_settled Margin bytes blanks b m = cc
blank_settled Blank bytes blanks b m = cc
blank_settled Text bytes blanks b m = cc
blank_settled Hash bytes blanks b m = cc
blank_settled Mark bytes blanks b m = cc
blank_settled Caret bytes blanks b m = cc
blank_settled Comment bytes blanks b m = cc
blank_settled Wrong bytes blanks b m = cc

plain_settled : (mode : Mode) (bytes blanks : List ℕ) (b : ℕ) → IsSettled (plain (at mode bytes blanks) b)
plain_settled mode bytes blanks b =
    split (eqb b 10) (λ e. rw e (λ m. refl)) (λ e10.
    split (eqb b 94) (λ e. rw (e10, e) (λ m. cc)) (λ e94.
    split (eqb b 33) (λ e. rw (e10, e94, e) (mark_settled mode bytes blanks)) (λ e33.
    split (is_blank b) (λ e. rw (e10, e94, e33, e) (blank_settled mode bytes blanks b)) (λ e.
    rw (e10, e94, e33, e) (λ m. refl)))))

marked_settled : (o : Option (List ℕ)) (s : State) → IsSettled (put_marked o s)
marked_settled (Some bs) s m = refl
marked_settled None s m = cc

step_settled : (mode : Mode) (bytes blanks : List ℕ) (b : ℕ) → IsSettled (step (at mode bytes blanks) b)
unfolding step
step_settled First bytes blanks b = split (eqb b 35) (λ e. rw e (λ m. cc)) (λ e. rw e (plain_settled First bytes blanks b))
step_settled Margin bytes blanks b = plain_settled Margin bytes blanks b
step_settled Blank bytes blanks b = plain_settled Blank bytes blanks b
step_settled Text bytes blanks b = plain_settled Text bytes blanks b
step_settled Hash bytes blanks b = split (eqb b 33) (λ e. rw e (λ m. cc)) (λ e. subst IsSettled (sym (sharp_step b bytes blanks e)) (plain_settled Text (bytes ++ blanks ++ 35 ∷ []) [] b))
step_settled Mark bytes blanks b = split (eqb b 33) (λ e. rw e (λ m. cc)) (λ e. subst IsSettled (sym (mark_step b bytes blanks e)) (plain_settled Text (bytes ++ blanks ++ 33 ∷ []) [] b))
step_settled Caret bytes blanks b = marked_settled (marked b) (at Caret bytes blanks)
step_settled Comment bytes blanks b = split (eqb b 10) (λ e. rw e (λ m. refl)) (λ e. rw e (λ m. cc))
step_settled Wrong bytes blanks b = λ m. cc

run_settled : (xs : List ℕ) (s : State) → IsSettled s → IsSettled (run s xs)
unfolding run
run_settled [] s h = h
run_settled (b ∷ bs) s h = run_settled bs (step s b) (step_settled s.mode s.bytes s.blanks b)

-- what is read alike at the beginning of a line and within one
begun_step : (mode : Mode) (c : ℕ) (bytes : List ℕ) → is_begun mode ≡ true → is_blank c ≡ false → eqb c 33 ≡ false → step (at mode bytes []) c ≡ step (at Text bytes []) c
unfolding step
begun_step Margin c bytes g e e33 = rw (e33, e) refl
begun_step Blank c bytes g e e33 = rw (e33, e) refl
begun_step First c bytes g e e33 = cc
begun_step Text c bytes g e e33 = cc
begun_step Hash c bytes g e e33 = cc
begun_step Mark c bytes g e e33 = cc
begun_step Caret c bytes g e e33 = cc
begun_step Comment c bytes g e e33 = cc
begun_step Wrong c bytes g e e33 = cc

begun_mark : (mode : Mode) (bytes : List ℕ) → is_begun mode ≡ true → step (at mode bytes []) 33 ≡ at Mark bytes []
unfolding step
begun_mark Margin bytes g = refl
begun_mark Blank bytes g = refl
begun_mark First bytes g = cc
begun_mark Text bytes g = cc
begun_mark Hash bytes g = cc
begun_mark Mark bytes g = cc
begun_mark Caret bytes g = cc
begun_mark Comment bytes g = cc
begun_mark Wrong bytes g = cc

begun_end : (mode : Mode) (bytes : List ℕ) → is_begun mode ≡ true → says (at mode bytes []) ≡ Some bytes
begun_end Margin bytes g = refl
begun_end Blank bytes g = refl
begun_end First bytes g = cc
begun_end Text bytes g = cc
begun_end Hash bytes g = cc
begun_end Mark bytes g = cc
begun_end Caret bytes g = cc
begun_end Comment bytes g = cc
begun_end Wrong bytes g = cc

begun_alike : (back : List ℕ) (mode : Mode) (bytes : List ℕ) → is_begun mode ≡ true → begins_alike back ≡ true → says (run (at mode bytes []) back) ≡ says (run (at Text bytes []) back)
unfolding run step
begun_alike [] mode bytes g e = begun_end mode bytes g
begun_alike (b ∷ []) mode bytes g e =
    split (eqb b 33) (λ i. let is : b ≡ 33 = eqb-true b 33 i in rw is (ap says (begun_mark mode bytes g))) (λ e33.
    ap says (begun_step mode b bytes g (not_true (is_blank b) e) e33))
begun_alike (b ∷ c ∷ bs) mode bytes g e =
    split (eqb b 33) (λ i.
    let is : b ≡ 33 = eqb-true b 33 i in
    let other : eqb c 33 ≡ false = not_true (eqb c 33) (ap (λ (v : Bool). not (v && eqb c 33)) (sym i) ∙ second_true (not (is_blank b)) (not (eqb b 33 && eqb c 33)) e) in
    rw is (ap (λ (s : State). says (run (step s c) bs)) (begun_mark mode bytes g) ∙ ap (λ (s : State). says (run s bs)) (mark_step c bytes [] other))) (λ e33.
    ap (λ (s : State). says (run (step s c) bs)) (begun_step mode b bytes g (not_true (is_blank b) (first_true (not (is_blank b)) (not (eqb b 33 && eqb c 33)) e)) e33))

begins_is_begun : (v : Bool) → is_begun (if v then Blank else Margin) ≡ true
begins_is_begun true = refl
begins_is_begun false = refl

broken : (mode : Mode) (bytes blanks back : List ℕ) → mode ≡ Text → blanks ≡ [] → begins_alike back ≡ true
    → says (run (at mode bytes blanks) (10 ∷ back)) ≡ says (run (at mode bytes blanks) back)
unfolding run step
broken mode bytes blanks back m none e =
    rw (m, none) (begun_alike back (if ends_line bytes then Blank else Margin) bytes (begins_is_begun (ends_line bytes)) e)

pub breaks_are_nothing : BreaksAreNothing
breaks_are_nothing front back m e =
    alike front (10 ∷ back) back
    (broken (run start front).mode (run start front).bytes (run start front).blanks back m (run_settled front start (λ f. refl) m) e)
