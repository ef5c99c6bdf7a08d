-- What a change of a state moves.
use Rattle.std.proofs.Common.{◌≡◌, ◌∙◌, ap, sym, subst, refl, ℕ, ◌+◌, ◌≤◌, Bool, true, false, cond, List, [], ◌++◌, length, take, drop, Option, None, Some, ℤ, arith}
use Rattle.std.specs.Prelude.{bytes_eq}
use Rattle.std.proofs.lemmas.List.{append-nil, drop-drop, length-drop, length-take-le, take-append-drop}
use Rattle.std.proofs.Math.ListN.{drop_of_length-le}
use Rattle.std.proofs.lemmas.Bool.Decides.{Decides-eqb}
use Rattle.std.proofs.lemmas.Slice.Eq.{bytes_eq-Decides}
use Rattle.teco_core.specs.declared.case_mode.CaseMode.{CaseMode}
use Rattle.teco_core.specs.Register.{Content, content, texted}
use Rattle.teco_store.specs.Page.{finished, form_feed_if, is_input_over, left_of, page, page_load, page_of, past_page, with_next_page, with_more, with_page, with_range_written, written}
use Rattle.teco_store.specs.Search.{is_last, length_of, note_load, noted, replaced_noted, text_after}
use Rattle.teco_store.specs.State.{State, last_pushed, pointed, popped_into, pushed_from, replaced, spliced, with_case, with_register_number, with_register_text}
use Rattle.teco_step.specs.Load.{Moves, MovesPushed, MovesRegisters, MovesSearch, MovesText, gains, holds, keeps, loses, notes, numbers, replaces, same, stay}

-- bytes that came in for so many at a place
pub replaced_moves : (text came : List ℕ) (at gone : ℕ) → at + gone ≤ length text → MovesText text (replaced text at (at + gone) came) (gone + length came)
replaced_moves text came at gone within =
    let went : List ℕ = take gone (drop at text) in
    let after : List ℕ = drop (at + gone) text in
    let all : take at text ++ (went ++ after) ≡ text =
    ap (λ rest. take at text ++ (went ++ rest)) (sym (drop-drop gone at text)) ∙ ap (λ rest. take at text ++ rest) (take-append-drop gone (drop at text)) ∙ take-append-drop at text in
    let long : length went ≡ gone = length-take-le gone (drop at text) (omega (arith, length-drop at text)) in
    subst (λ (old : List ℕ). MovesText old (replaced text at (at + gone) came) (gone + length came)) all
    (subst (λ n. MovesText (take at text ++ (went ++ after)) (replaced text at (at + gone) came) (n + length came)) long
    (replaces (take at text) went came after))

-- one text for another, none for itself, and bytes that come after
whole_moves : (old new : List ℕ) → MovesText old new (length old + length new)
whole_moves old new =
    subst (λ (t : List ℕ). MovesText old t (length old + length new)) (append-nil new)
    (subst (λ (t : List ℕ). MovesText t (new ++ []) (length old + length new)) (append-nil old) (replaces [] old new []))

none_moves : (text : List ℕ) → MovesText text text 0
none_moves text = subst (λ (t : List ℕ). MovesText t t 0) (append-nil text) (replaces text [] [] [])

append_moves : (text came : List ℕ) → MovesText text (text ++ came) (length came)
append_moves text came =
    let sum : 0 + length came ≡ length came = omega arith in
    subst (λ (t : List ℕ). MovesText t (text ++ came) (length came)) (append-nil text)
    (subst (λ (t : List ℕ). MovesText (text ++ []) (text ++ t) (length came)) (append-nil came)
    (subst (λ n. MovesText (text ++ []) (text ++ (came ++ [])) n) sum (replaces text [] came [])))

-- a noted text, which may be the last one again
noted_again : (last text : List ℕ) (b : Bool) → bytes_eq text last ≡ b → MovesSearch (Some last) (Some text) (cond b 0 (length last + length text))
noted_again last text true e = subst (λ (t : List ℕ). MovesSearch (Some last) (Some t) 0) (sym ((bytes_eq-Decides text last).0 e)) (same (Some last))
noted_again last text false e = notes (Some last) text

noted_text_moves : (last : Option (List ℕ)) (text : List ℕ) → MovesSearch last (Some text) (cond (is_last last text) 0 (length_of last + length text))
noted_text_moves None text = notes None text
noted_text_moves (Some last) text = noted_again last text (bytes_eq text last) refl

search_moves : (s : State) (text : Option (List ℕ)) → MovesSearch s.last_search (text_after s.last_search text) (note_load s text)
search_moves s None = same s.last_search
search_moves s (Some text) = noted_text_moves s.last_search text

-- A change of the text, of the registers, of the push-down list and of the last search text, which leaves the output.
parts_move : (s t : State) (a b c d load : ℕ) → MovesText s.text t.text a → MovesRegisters s.registers t.registers b → MovesPushed s.pushed t.pushed c
    → MovesSearch s.last_search t.last_search d → t.output ≡ s.output → load ≡ a + (b + (c + d)) → Moves s t load
parts_move s t a b c d load in_text in_registers in_pushed in_search output all = record {
  text = a;
  registers = b;
  pushed = c;
  search = d;
  in_text = in_text;
  in_registers = in_registers;
  in_pushed = in_pushed;
  in_search = in_search;
  written = [];
  output = output ∙ sym (append-nil s.output);
  all = all;
}

pub nothing_moves : (s : State) → Moves s s 0
nothing_moves s = parts_move s s 0 0 0 0 0 (none_moves s.text) (stay s.registers) (keeps s.pushed) (same s.last_search) refl refl

pub pointer_moves : (s : State) (place : ℕ) → Moves s (pointed s place) 0
pointer_moves s place = parts_move s (pointed s place) 0 0 0 0 0 (none_moves s.text) (stay s.registers) (keeps s.pushed) (same s.last_search) refl refl

pub case_moves : (s : State) (mode : CaseMode) → Moves s (with_case s mode) 0
case_moves s mode = parts_move s (with_case s mode) 0 0 0 0 0 (none_moves s.text) (stay s.registers) (keeps s.pushed) (same s.last_search) refl refl

pub splice_moves : (s : State) (at gone : ℕ) (came : List ℕ) → at + gone ≤ length s.text → Moves s (spliced s at gone came None) (gone + length came)
splice_moves s at gone came within =
    parts_move s (spliced s at gone came None) (gone + length came) 0 0 0 (gone + length came) (replaced_moves s.text came at gone within) (stay s.registers) (keeps s.pushed) (same s.last_search) refl (omega arith)

-- registers
pub number_moves : (s : State) (q : ℕ) (n : ℤ) → Moves s (with_register_number s q n) 0
number_moves s q n = parts_move s (with_register_number s q n) 0 0 0 0 0 (none_moves s.text) (numbers s.registers q n) (keeps s.pushed) (same s.last_search) refl refl

pub register_moves : (s : State) (q : ℕ) (text : List ℕ) → Moves s (with_register_text s q text) (length (content s.registers q).text + length text)
register_moves s q text =
    let n : ℕ = length (content s.registers q).text + length text in
    parts_move s (with_register_text s q text) 0 n 0 0 n (none_moves s.text) (holds s.registers q (texted text (content s.registers q))) (keeps s.pushed) (same s.last_search) refl (omega arith)

pub push_moves : (s : State) (q : ℕ) → Moves s (pushed_from s q) (length (content s.registers q).text)
push_moves s q =
    let n : ℕ = length (content s.registers q).text in
    parts_move s (pushed_from s q) 0 0 n 0 n (none_moves s.text) (stay s.registers) (gains (content s.registers q) s.pushed) (same s.last_search) refl (omega arith)

pub pop_moves : (s : State) (q : ℕ) → Moves s (popped_into s q) (length (content s.registers q).text + length (last_pushed s).text)
pop_moves s q =
    let n : ℕ = length (content s.registers q).text + length (last_pushed s).text in
    parts_move s (popped_into s q) 0 n 0 0 n (none_moves s.text) (holds s.registers q (last_pushed s)) (loses s.pushed) (same s.last_search) refl (omega arith)

-- searches
pub note_moves : (s : State) (text : Option (List ℕ)) (is_found : Bool) (place : ℕ) → Moves s (noted s text is_found place) (note_load s text)
note_moves s text is_found place =
    let n : ℕ = note_load s text in
    parts_move s (noted s text is_found place) 0 0 0 n n (none_moves s.text) (stay s.registers) (keeps s.pushed) (search_moves s text) refl (omega arith)

pub replacement_moves : (s : State) (text : Option (List ℕ)) (at gone : ℕ) (came : List ℕ) → at + gone ≤ length s.text → Moves s (replaced_noted s text at gone came) (note_load s text + (gone + length came))
replacement_moves s text at gone came within =
    let n : ℕ = note_load s text in
    let m : ℕ = gone + length came in
    parts_move s (replaced_noted s text at gone came) m 0 0 n (n + m) (replaced_moves s.text came at gone within) (stay s.registers) (keeps s.pushed) (search_moves s text) refl (omega arith)

-- pages
pub page_moves : (s : State) → Moves s (with_page s) (page_load s)
page_moves s =
    let n : ℕ = page_load s in
    parts_move s (with_page s) n 0 0 0 n (whole_moves s.text (page s)) (stay s.registers) (keeps s.pushed) (same s.last_search) refl (omega arith)

-- a change that also writes
writes_more : (s t u : State) (bytes : List ℕ) (load : ℕ) → Moves s t load → t.output ≡ s.output → u.text ≡ t.text → u.registers ≡ t.registers → u.pushed ≡ t.pushed
    → u.last_search ≡ t.last_search → u.output ≡ s.output ++ bytes → Moves s u load
writes_more s t u bytes load m out text registers pushed search output = record {
  text = m.text;
  registers = m.registers;
  pushed = m.pushed;
  search = m.search;
  in_text = subst (λ (x : List ℕ). MovesText s.text x m.text) (sym text) m.in_text;
  in_registers = subst (λ (x : List Content). MovesRegisters s.registers x m.registers) (sym registers) m.in_registers;
  in_pushed = subst (λ (x : List Content). MovesPushed s.pushed x m.pushed) (sym pushed) m.in_pushed;
  in_search = subst (λ (x : Option (List ℕ)). MovesSearch s.last_search x m.search) (sym search) m.in_search;
  written = bytes;
  output = output;
  all = m.all;
}

pub turn_moves : (s : State) → Moves s (with_next_page s) (page_load s)
turn_moves s = writes_more s (with_page s) (with_next_page s) (written s) (page_load s) (page_moves s) refl refl refl refl refl refl

pub writing_moves : (s : State) (low high : ℕ) (form_feed : Bool) → Moves s (with_range_written s low high form_feed) 0
writing_moves s low high form_feed =
    writes_more s s (with_range_written s low high form_feed) (drop low (take high s.text) ++ form_feed_if form_feed) 0 (nothing_moves s) refl refl refl refl refl refl

abbrev emptied_text : State → State
emptied_text s = record s { text = [] }

pub exit_moves : (s : State) → Moves s (finished s) (length s.text)
exit_moves s =
    let n : ℕ = length s.text in
    let empty : State = emptied_text s in
    let gone : Moves s empty n = parts_move s empty (n + 0) 0 0 0 n (whole_moves s.text []) (stay s.registers) (keeps s.pushed) (same s.last_search) refl (omega arith) in
    writes_more s empty (finished s) (written s ++ left_of s) n gone refl refl refl refl refl refl

-- With no input left no page comes.
no_page : (s : State) → is_input_over s ≡ true → length (page s) ≡ 0
unfolding page_of
no_page s over =
    let at_end : s.place ≡ length s.input = (Decides-eqb s.place (length s.input)).0 over in
    let none : left_of s ≡ [] = drop_of_length-le s.input (omega arith) in
    ap (λ left. length (page_of s.page_lines left)) none

more_moves_by : (s : State) (b : Bool) → is_input_over s ≡ b → Moves s (cond b s (record (past_page s) { text = s.text ++ page s })) (length (page s))
more_moves_by s true over = subst (λ n. Moves s s n) (sym (no_page s over)) (nothing_moves s)
more_moves_by s false more =
    let n : ℕ = length (page s) in
    let t : State = record (past_page s) { text = s.text ++ page s } in
    parts_move s t n 0 0 0 n (append_moves s.text (page s)) (stay s.registers) (keeps s.pushed) (same s.last_search) refl (omega arith)

pub more_moves : (s : State) → Moves s (with_more s) (length (page s))
more_moves s = more_moves_by s (is_input_over s) refl
