-- Bytes that begin with a word, that are cut off in it, or differ from it, and what this says of more words.
use Rattle.std.proofs.Common.{◌≡◌, ℕ, ◌<◌, ◌⊎◌, inl, inr, List, [], ◌∷◌, ◌++◌, length, drop, Result, Ok, Err, refl, sym, ap, ◌∙◌, subst, arith, append_assoc, append-nil, length-append}
use Rattle.std.specs.Prelude.{MatchResult}
use Rattle.std.specs.Borrow.{Bor}
use Rattle.std.proofs.lemmas.List.{append_cancel_left}
use Rattle.teco_journal.specs.HeadFaults.{Differ, IsCutOff, FailsAt}
use Rattle.teco_journal.specs.declared.head_reader.HeadFault.{HeadFault}
use Rattle.teco_journal.specs.declared.head_reader.HeadFault.TheVariants.{Version, Torn, Changed}

pub found_then : (a b bytes rest left : List ℕ) → bytes ≡ a ++ rest → rest ≡ b ++ left → bytes ≡ (a ++ b) ++ left
found_then a b bytes rest left is there = is ∙ ap (λ (l : List ℕ). a ++ l) there ∙ sym (append_assoc a b left)

-- What a word says of bytes, it says where more words come after it.
pub cut_more : (a b bytes : List ℕ) → IsCutOff bytes a → IsCutOff bytes (a ++ b)
cut_more a b bytes c =
    (c.0 ++ b, (let less : 0 < length c.0 = c.1 in let both = length-append c.0 b in omega (arith, both)), ap (λ (l : List ℕ). l ++ b) c.2 ∙ append_assoc bytes c.0 b)

pub differ_more : (a b bytes : List ℕ) → Differ a bytes → Differ (a ++ b) bytes
differ_more a b bytes d = λ x y e. d (b ++ x) y (sym (append_assoc a b x) ∙ e)

-- What more words say of the bytes after a word, they say of all with it.
pub cut_then : (a b bytes rest : List ℕ) → bytes ≡ a ++ rest → IsCutOff rest b → IsCutOff bytes (a ++ b)
cut_then a b bytes rest is c =
    (c.0, c.1, ap (λ (l : List ℕ). a ++ l) c.2 ∙ sym (append_assoc a rest c.0) ∙ ap (λ (l : List ℕ). l ++ c.0) (sym is))

pub in_front : (a b bytes rest x y : List ℕ) → bytes ≡ a ++ rest → (a ++ b) ++ x ≡ bytes ++ y → a ++ (b ++ x) ≡ a ++ (rest ++ y)
in_front a b bytes rest x y is e = sym (append_assoc a b x) ∙ e ∙ ap (λ (l : List ℕ). l ++ y) is ∙ append_assoc a rest y

pub differ_then : (a b bytes rest : List ℕ) → bytes ≡ a ++ rest → Differ b rest → Differ (a ++ b) bytes
differ_then a b bytes rest is d = λ x y e. d x y (append_cancel_left a (b ++ x) (rest ++ y) (in_front a b bytes rest x y is e))

pub fails_more : (a b bytes : List ℕ) (fault : HeadFault) → FailsAt a bytes fault → FailsAt (a ++ b) bytes fault
fails_more a b bytes Torn h = cut_more a b bytes h
fails_more a b bytes Changed h = differ_more a b bytes h
fails_more a b bytes Version h = h

pub fails_then : (a b bytes rest : List ℕ) (fault : HeadFault) → bytes ≡ a ++ rest → FailsAt b rest fault → FailsAt (a ++ b) bytes fault
fails_then a b bytes rest Torn is h = cut_then a b bytes rest is h
fails_then a b bytes rest Changed is h = differ_then a b bytes rest is h
fails_then a b bytes rest Version is h = h

-- Where two begin the same bytes, one is a front of the other.
either_front : (ks bs x y : List ℕ) → ks ++ x ≡ bs ++ y → ((rest : List ℕ) × (bs ≡ ks ++ rest)) ⊎ ((rest : List ℕ) × (ks ≡ bs ++ rest))
either_front [] bs x y e = inl (bs, refl)
either_front (a ∷ ks) [] x y e = inr (a ∷ ks, refl)
either_front (a ∷ ks) (b ∷ bs) x y e =
    let first : a ≡ b = cc in
    elim (either_front ks bs x y (cc)) [
      | inl h ↦ inl (h.0, ap (λ (l : List ℕ). b ∷ l) h.1 ∙ ap (λ (z : ℕ). z ∷ (ks ++ h.0)) (sym first))
      | inr h ↦ inr (h.0, ap (λ (l : List ℕ). a ∷ l) h.1 ∙ ap (λ (z : ℕ). z ∷ (bs ++ h.0)) first)
    ]

pub differs_from : (word bytes : List ℕ) → ((rest : List ℕ) → bytes ≡ word ++ rest → ⊥) → ((rest : List ℕ) → word ≡ bytes ++ rest → ⊥) → Differ word bytes
differs_from word bytes none other = λ x y e. elim (either_front word bytes x y e) [ inl h ↦ none h.0 h.1 | inr h ↦ other h.0 h.1 ]

cut_by : (word bytes more : List ℕ) → ((rest : List ℕ) → bytes ≡ word ++ rest → ⊥) → word ≡ bytes ++ more → IsCutOff bytes word
cut_by word bytes [] none is = absurd (none [] (sym (append-nil bytes) ∙ sym is ∙ sym (append-nil word)))
cut_by word bytes (m ∷ ms) none is = (m ∷ ms, omega arith, is)

pub cut_from : (word bytes : List ℕ) → ((rest : List ℕ) → bytes ≡ word ++ rest → ⊥) → word ≡ bytes ++ drop (length bytes) word → IsCutOff bytes word
cut_from word bytes none is = cut_by word bytes (drop (length bytes) word) none is

-- Bytes that are not cut off in a word, and don't begin with it, differ from it.
pub not_cut : (word bytes : List ℕ) (fault : HeadFault) → FailsAt word bytes fault → (fault ≡ Torn → ⊥) → Differ word bytes
not_cut word bytes Torn h other = absurd (other refl)
not_cut word bytes Changed h other = h
not_cut word bytes Version h other = absurd h

-- What a fault says, it says where a `?` hands it on.
pub failed : {T : Type 0} (r : Result T HeadFault) (P : T → Type 0) (Q : HeadFault → Type 0) (fault : HeadFault)
    → (y : HeadFault) × (r ≡ Err y) × (y ≡ fault) → Q fault → MatchResult r P Q
failed (Ok x) P Q fault e q = absurd (let none : Ok x ≡ Err e.0 = e.1 in cc)
failed (Err y) P Q fault e q = (let same : y ≡ fault = (let one : Err y ≡ Err e.0 = e.1 in let two : e.0 ≡ fault = e.2 in cc) in subst Q (sym same) q)

-- what comes after two words
pub two_words : (a b bytes rest : List ℕ) (r : Result (Bor (List ℕ)) HeadFault) → bytes ≡ a ++ rest
    → MatchResult r (λ left. rest ≡ b ++ left.now) (FailsAt b rest) → MatchResult r (λ left. bytes ≡ (a ++ b) ++ left.now) (FailsAt (a ++ b) bytes)
two_words a b bytes rest (Ok left) is h = found_then a b bytes rest left.now is h
two_words a b bytes rest (Err fault) is h = fails_then a b bytes rest fault is h
