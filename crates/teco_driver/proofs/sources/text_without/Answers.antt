use Rattle.std.proofs.Common.{◌≡◌, ◌∙◌, ◌++◌, ◌∷◌, [], ℕ, List, append_assoc, codes}
use Rattle.std.proofs.lemmas.Result.{IfOk-weaker}
use Rattle.std.specs.String.{string_bytes}
use Rattle.teco_messages.specs.Shown.{spot_shown}
use Rattle.teco_driver.proofs.sources.text_without.Goals as goal

-- the parts of the line, one after another
parts_joined : (head name colon spot words advice end : List ℕ) → head ++ (name ++ (colon ++ (spot ++ (words ++ (advice ++ end))))) ≡ head ++ (name ++ (colon ++ spot ++ words ++ advice)) ++ end
parts_joined head name colon spot words advice end = simp append_assoc

pub returns-in-Caret : goal.returns-in-Caret
returns-in-Caret c = rw (c.in-Caret.is, ← c.source_name-name.ensures, ← c.bytes_advice-advice.ensures) (IfOk-weaker c.format.result _ _
    (λ text h.
    let name = c.source_name-name.result.now in
    let spot = spot_shown c.in-Caret.caret.spot in
    let advice = c.bytes_advice-advice.result.now in
    let words = codes ": a caret before what it cannot stand before" in
    let shown : string_bytes text ≡ codes "teco: " ++ (name ++ (codes ":" ++ (spot ++ (words ++ (advice ++ 10 ∷ []))))) = h in
    shown ∙ parts_joined (codes "teco: ") name (codes ":") spot words advice (10 ∷ []))
    c.format.ensures.ok)
