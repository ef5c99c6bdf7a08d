use Rattle.std.proofs.Common.{◌≡◌, ◌∙◌, ◌++◌, ℕ, List, ap, append_assoc, sym}
use Rattle.std.proofs.lemmas.Result.{IfOk-weaker}
use Rattle.std.specs.Prelude.{codes, decimal}
use Rattle.std.specs.String.{string_bytes}
use Rattle.teco_debugger.specs.Ending.{bytes_word, string_name, told_line, torn_line}
use Rattle.teco_debugger.specs.declared.line.DebuggerLine.{DebuggerLine}
use Rattle.teco_debugger.proofs.ending.torn_line.Goals as goal

-- the parts that were joined are the line
torn_told : (text : List ℕ) (line : DebuggerLine) (name word : List ℕ) (torn : ℕ) → name ≡ string_name line.origin 0 → word ≡ bytes_word torn
    → text ≡ codes "teco-debug: " ++ (name ++ (codes ": a torn end is left out, " ++ (decimal torn ++ (word ++ codes "\n")))) → text ≡ torn_line line torn
torn_told text line name word torn named worded h =
    let number = decimal torn in
    let words = codes ": a torn end is left out, " in
    let end = codes "\n" in
    h ∙ ap (λ t. codes "teco-debug: " ++ t)
    (sym (append_assoc name (words ++ (number ++ word)) end
    ∙ ap (λ t. name ++ t) (append_assoc words (number ++ word) end ∙ ap (λ t. words ++ t) (append_assoc number word end))))
    ∙ ap (λ t. told_line (t ++ (words ++ (number ++ word)))) named
    ∙ ap (λ t. told_line (string_name line.origin 0 ++ (words ++ (number ++ t)))) worded

pub returns : goal.returns
returns c = IfOk-weaker c.format.result _ _
    (λ text h. torn_told (string_bytes text) c.args.line.now c.string_name-name.result.now c.bytes_word-word.result.now c.args.torn
    c.string_name-name.ensures c.bytes_word-word.ensures h)
    c.format.ensures.ok
