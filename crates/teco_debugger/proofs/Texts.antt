-- Texts that are put behind one another.
use Rattle.std.proofs.Common.{◌≡◌, ◌∙◌, ◌++◌, List, ℕ, ap, append_assoc}
use Rattle.teco_messages.proofs.Calls.{two}

pub three_texts : (old one both new xs ys zs : List ℕ) → one ≡ old ++ xs → both ≡ one ++ ys → new ≡ both ++ zs → new ≡ old ++ (xs ++ ys ++ zs)
three_texts old one both new xs ys zs a b c = c ∙ ap (λ t. t ++ zs) (two old one both xs ys a b) ∙ append_assoc old (xs ++ ys) zs

-- the same three, joined from the right
pub three_from_right : (old one both new xs ys zs : List ℕ) → one ≡ old ++ xs → both ≡ one ++ ys → new ≡ both ++ zs → new ≡ old ++ (xs ++ (ys ++ zs))
three_from_right old one both new xs ys zs a b c = two old one new xs (ys ++ zs) a (c ∙ ap (λ t. t ++ zs) b ∙ append_assoc one ys zs)
