-- A line that is put piece by piece.
use Rattle.std.proofs.Common.{◌≡◌, ◌∙◌, ◌++◌, ◌<◌, ℕ, List, [], Result, Ok, Err, ap, append_assoc, codes, sym}
use Rattle.std.proofs.lemmas.Bool.{lt-ltb}
use Rattle.std.specs.Prelude.{OnOk, decimal, if◌then◌else◌, is_ok}
use Rattle.teco_driver.specs.SessionLines.{again_words}

-- five texts, one behind another
pub five_joined : (one two three four five : List ℕ) → one ++ (two ++ (three ++ (four ++ five))) ≡ one ++ two ++ three ++ four ++ five
five_joined one two three four five = simp append_assoc

-- what is told of many steps
pub again_told : (out file shown : List ℕ) (steps : ℕ) → 10000000 < steps → shown ≡ file
    → out ≡ codes "teco: " ++ (shown ++ (codes ": runs " ++ (decimal steps ++ codes " steps again\n"))) → out ≡ again_words file steps
again_told out file shown steps many same is =
    is ∙ ap (λ (name : List ℕ). codes "teco: " ++ (name ++ (codes ": runs " ++ (decimal steps ++ codes " steps again\n")))) same
    ∙ five_joined (codes "teco: ") file (codes ": runs ") (decimal steps) (codes " steps again\n")
    ∙ sym (ap (λ b. if b then codes "teco: " ++ file ++ codes ": runs " ++ decimal steps ++ codes " steps again\n" else []) (lt-ltb 10000000 steps many))

-- words around a name, then a count, then the end
pub line_with_count : (out before name behind count end first mid new : List ℕ) → first ≡ out ++ (before ++ (name ++ behind)) → mid ≡ first ++ count
    → new ≡ mid ++ end → new ≡ out ++ (before ++ name ++ behind ++ count ++ end)
line_with_count out before name behind count end first mid new a b c =
    c ∙ ap (λ t. t ++ end) (b ∙ ap (λ t. t ++ count) a)
    ∙ (append_assoc (out ++ (before ++ (name ++ behind))) count end
    ∙ (append_assoc out (before ++ (name ++ behind)) (count ++ end)
    ∙ ap (λ t. out ++ t) (append_assoc before (name ++ behind) (count ++ end) ∙ ap (λ t. before ++ t) (append_assoc name behind (count ++ end)))))
    ∙ ap (λ t. out ++ t) (five_joined before name behind count end)

-- a text that is put, if that succeeds
pub put_behind : {A E : Type 0} (r : Result A E) (old new text : List ℕ) → new ≡ (if is_ok r then old ++ text else old) → OnOk r (new ≡ old ++ text)
put_behind (Ok done) old new text e = e
put_behind (Err fault) old new text e = tt
