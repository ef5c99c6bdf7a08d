use Rattle.std.proofs.Common.{◌≡◌, ℕ, ◌+◌, ◌-◌, List, length, length-drop, take, drop, Some, Ok, Err, sym, ap, ◌∙◌, subst, arith}
use Rattle.std.specs.Prelude.{decimal}
use Rattle.std.proofs.lemmas.List.{take_all}
use Rattle.teco_source.specs.declared.reader.ReaderFault.{ReaderFault}
use Rattle.teco_source.specs.Laws.{bytes_in}
use Rattle.teco_source.specs.Seen.{IsReadAs}
use Rattle.teco_source.specs.Source.{commands_of}
use Rattle.teco_journal.specs.Events.{ran}
use Rattle.teco_journal.proofs.Parsing.{run_blank, run_steps, run_text}
use Rattle.teco_journal.proofs.words.run_in.Goals as goal

rest_of : (line : List ℕ) (n : ℕ) → take (length line - n) (drop n line) ≡ drop n line
rest_of line n = take_all (length line - n) (drop n line) (let left : length (drop n line) ≡ length line - n = length-drop n line in omega arith)

text_there : (rest text : List ℕ) (blank n : ℕ) → blank ≡ n → commands_of (drop (n + 1) rest) ≡ Ok text → commands_of (take (length rest - (blank + 1)) (drop (blank + 1) rest)) ≡ Ok text
text_there rest text blank n is said = ap commands_of (rest_of rest (blank + 1)) ∙ ap (λ (i : ℕ). commands_of (drop (i + 1) rest)) is ∙ said

pub returns-in_default-number : goal.returns-in_default-number
returns-in_default-number c = λ steps text fits is.
    let at : c.memchr.result ≡ Some (length (decimal steps)) = run_blank c.args.rest.now text steps fits is c.memchr.result c.memchr.ensures in
    let end : c.in-Some.blank ≡ length (decimal steps) = cc in
    let read : c.number.result ≡ Some steps = c.number.ensures steps fits (ap (λ (i : ℕ). take i c.args.rest.now) end ∙ run_steps c.args.rest.now text steps fits is) in
    cc

pub returns-in-Ok : goal.returns-in-Ok
returns-in-Ok c = λ steps text fits is.
    let at : c.memchr.result ≡ Some (length (decimal steps)) = run_blank c.args.rest.now text steps fits is c.memchr.result c.memchr.ensures in
    let end : c.in-Some.blank ≡ length (decimal steps) = cc in
    let read : c.number.result ≡ Some steps = c.number.ensures steps fits (ap (λ (i : ℕ). take i c.args.rest.now) end ∙ run_steps c.args.rest.now text steps fits is) in
    let said : Some c.in-Ok.text.items ≡ Some text =
    ap bytes_in (sym c.in-Ok.ensures.reads ∙ text_there c.args.rest.now text c.in-Some.blank (length (decimal steps)) end (run_text c.args.rest.now text steps fits is)) in
    let number : c.in-Some-number.steps ≡ steps = cc in
    let words : c.in-Ok.text.items ≡ text = cc in
    ap (λ (n : ℕ). Some (ran n c.in-Ok.text.items)) number ∙ ap (λ (t : List ℕ). Some (ran steps t)) words

pub returns-in-Err-Caret : goal.returns-in-Err-Caret
returns-in-Err-Caret c = λ steps text fits is.
    let at : c.memchr.result ≡ Some (length (decimal steps)) = run_blank c.args.rest.now text steps fits is c.memchr.result c.memchr.ensures in
    let end : c.in-Some.blank ≡ length (decimal steps) = cc in
    let source : List ℕ = take (length c.args.rest.now - (c.in-Some.blank + 1)) (drop (c.in-Some.blank + 1) c.args.rest.now) in
    let caret : commands_of source ≡ Err c.in-Err-Caret.field-0-0 = subst (λ (f : ReaderFault). IsReadAs (commands_of source) (Err f)) c.in-Err-Caret.field-0-is c.in-Err-Caret.ensures.reads in
    let said : commands_of source ≡ Ok text = text_there c.args.rest.now text c.in-Some.blank (length (decimal steps)) end (run_text c.args.rest.now text steps fits is) in
    absurd (cc)
