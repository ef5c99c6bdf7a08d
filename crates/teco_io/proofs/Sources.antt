-- Lemmas on what a source gives, read after read.
use Rattle.std.proofs.Common.{◌≡◌, ◌≤◌, ◌+◌, ℕ, List, [], ◌++◌, length, take, Bool, false, Option, refl, ap, ◌∙◌, arith, subst, append-nil, length-append, length-take-le}
use Rattle.std.proofs.KnownBytes.{Consumes-nil, Consumes-trans}
use Rattle.teco_io.specs.Terminal.{count_after}
use Rattle.teco_io.specs.Source.{Gives}

pub Gives-nil : {S : Type 0} (coming : S → Option (List ℕ)) (bound : S → ℕ) (failures : S → ℕ) (s : S) → Gives coming bound failures s s [] false
Gives-nil coming bound failures s = record { given = Consumes-nil (coming s); less = omega arith; count = refl }

pub Gives-more : {S : Type 0} {coming : S → Option (List ℕ)} {bound failures : S → ℕ} {a b c : S} {xs ys : List ℕ} {failed : Bool}
    → Gives coming bound failures a b xs false → Gives coming bound failures b c ys failed → Gives coming bound failures a c (xs ++ ys) failed
Gives-more {xs} {ys} {failed} p q = record {
  given = Consumes-trans _ _ _ _ _ p.given q.given;
  less = simp length-append (let e = p.less in let f = q.less in omega arith);
  count = q.count ∙ ap (count_after failed) p.count;
}

-- the last read gave nothing
pub Gives-on : {S : Type 0} {coming : S → Option (List ℕ)} {bound failures : S → ℕ} {a b c : S} {xs : List ℕ} {failed : Bool}
    → Gives coming bound failures a b xs false → Gives coming bound failures b c [] failed → Gives coming bound failures a c xs failed
Gives-on {coming} {bound} {failures} {a} {c} {xs} {failed} p q = subst (λ l. Gives coming bound failures a c l failed) (append-nil xs) (Gives-more p q)

-- after a read of so many bytes
pub length-more : (xs piece : List ℕ) (n : ℕ) → n ≤ length piece → length (xs ++ take n piece) ≡ length xs + n
length-more xs piece n within = length-append xs (take n piece) ∙ ap (λ k. length xs + k) (length-take-le n piece within)
