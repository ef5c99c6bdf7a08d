-- One put after another.
use Rattle.std.proofs.Common.{ℕ, ◌≢◌, List, [], ◌∷◌, ◌++◌, Bool, false, Result, Ok, Err, refl, sym, ap, append_assoc, ◌∙◌}
use Rattle.std.proofs.KnownBytes.{Appends-trans, Appends-nil}
use Rattle.teco_io.specs.Terminal.{IsFrontOf, Puts, Screen, Shows, count_after}

pub Shows-nil : (w : Screen) → Shows w w [] false
Shows-nil w = record { more = Appends-nil w.shown; count = refl }

pub Shows-trans : {a b c : Screen} {xs ys : List ℕ} {failed : Bool} → Shows a b xs false → Shows b c ys failed → Shows a c (xs ++ ys) failed
Shows-trans {failed} p q = record { more = Appends-trans _ _ _ _ _ p.more q.more; count = q.count ∙ ap (count_after failed) p.count }

pub front-after : (xs front ys : List ℕ) → IsFrontOf front ys → IsFrontOf (xs ++ front) (xs ++ ys)
front-after xs front ys p = (p.0, ap (λ l. xs ++ l) p.1 ∙ sym (append_assoc xs front p.0))

pub front-longer : (front xs ys : List ℕ) → IsFrontOf front xs → IsFrontOf front (xs ++ ys)
front-longer front xs ys p = (p.0 ++ ys, ap (λ l. l ++ ys) p.1 ∙ append_assoc front p.0 ys)

-- a put that comes after these bytes were shown
pub Puts-after : {A E : Type 0} {a b : Screen} {xs : List ℕ} (c : Screen) (ys : List ℕ) (r : Result A E)
    → Shows a b xs false → Puts b c ys r → Puts a c (xs ++ ys) r
Puts-after c ys (Ok done) p q = Shows-trans p q
Puts-after {xs} c ys (Err fault) p (front, front_is, q) = (xs ++ front, front-after xs front ys front_is, Shows-trans p q)

-- some bytes, before and after others
pub nonempty_before : (xs ys : List ℕ) → xs ≢ [] → xs ++ ys ≢ []
nonempty_before [] ys some = λ _. some refl
nonempty_before (x ∷ xs) ys some = λ e. cc

pub nonempty_after : (xs ys : List ℕ) → ys ≢ [] → xs ++ ys ≢ []
nonempty_after [] ys some = some
nonempty_after (x ∷ xs) ys some = λ e. cc
