use Rattle.std.proofs.Common.{◌≡◌, ◌∙◌, ◌++◌, ℕ, List, append_assoc, codes}
use Rattle.std.proofs.lemmas.Result.{IfOk-weaker}
use Rattle.std.specs.String.{string_bytes}
use Rattle.teco_serve.proofs.fate.said_of_backup.Goals as goal

-- the parts of the line, one after another
parts_joined : (head input what suffix colon why end : List ℕ)
    → head ++ (input ++ (what ++ (input ++ (suffix ++ (colon ++ (why ++ end)))))) ≡ head ++ (input ++ (what ++ (input ++ suffix) ++ colon ++ why)) ++ end
parts_joined head input what suffix colon why end = simp append_assoc

pub returns : goal.returns
returns c = rw (← c.words-why.ensures, ← c.backup_suffix-suffix.ensures) (IfOk-weaker c.format.result _ _
    (λ text h.
    let input = c.args.input.now in
    let suffix = c.backup_suffix-suffix.result.now in
    let why = c.words-why.result.now in
    let shown : string_bytes text ≡ codes "teco: " ++ (input ++ (codes ": no backup " ++ (input ++ (suffix ++ (codes ": " ++ (why ++ codes "\n")))))) = h in
    shown ∙ parts_joined (codes "teco: ") input (codes ": no backup ") suffix (codes ": ") why (codes "\n"))
    c.format.ensures.ok)
