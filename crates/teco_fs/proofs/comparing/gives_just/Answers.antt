use Rattle.std.proofs.Common.{◌≡◌, ◌==◌, ◌∷◌, ℕ, List, [], Option, false, true, length, refl, subst, append-nil, ◌∙◌, ◌++◌, ap, sym, take, arith, length-take-le, append_assoc}
use Rattle.std.proofs.lemmas.Grind.{common_steps}
use Rattle.std.proofs.lemmas.Bool.{eqb-true}
use Rattle.teco_io.proofs.Sources.{Gives-more, Gives-nil, Gives-on}
use Rattle.teco_io.specs.Source.{Gives}
use Rattle.teco_store.specs.Slices.{bytes_in}
use Rattle.teco_fs.proofs.comparing.gives_just.Goals as goal

-- The last read gave nothing, and all the bytes have been given.
all_given : {S : Type 0} {coming : S → Option (List ℕ)} {bound failures : S → ℕ} {a b c : S} (given front back bytes piece : List ℕ) (n : ℕ)
    → Gives coming bound failures a b given false → Gives coming bound failures b c (take n piece) false → n ≡ 0
    → bytes ≡ given ++ (front ++ back) → (length front == 0) ≡ true → (length back == 0) ≡ true → Gives coming bound failures a c bytes false
all_given {coming} {bound} {failures} {a} {b} {c} given [] [] bytes piece n p q none whole no_front no_back =
    subst (λ l. Gives coming bound failures a c l false) (sym (whole ∙ append-nil given))
    (Gives-on p (subst (λ k. Gives coming bound failures b c (take k piece) false) none q))
all_given given (x ∷ front) back bytes piece n p q none whole no_front no_back =
    let none_there = eqb-true (length (x ∷ front)) 0 no_front in
    absurd (omega arith)
all_given given [] (x ∷ back) bytes piece n p q none whole no_front no_back =
    let none_there = eqb-true (length (x ∷ back)) 0 no_back in
    absurd (omega arith)

pub pieces-preserved : goal.pieces-preserved
pieces-preserved g c =
    let given = c.pieces.invariant.0 in
    let piece = take c.in-Ok.n c.read.new.piece in (
      given ++ piece,
      Gives-more c.pieces.invariant.1 c.in-Ok.ensures.ok,
      c.pieces.invariant.2 ∙ (ap (λ l. given ++ l) c.in-Some.ensures ∙ sym (append_assoc given piece (c.in-Some.back.now ++ bytes_in c.in-Some.others))),
    )

pub pieces-init : goal.pieces-init
pieces-init g c = ([], Gives-nil _ _ _ _, refl)

pub pieces-smaller : goal.pieces-smaller
pieces-smaller g c = omega (arith, length-take-le c.in-Ok.n c.read.new.piece c.in-Ok.ensures.fits, c.in-Ok.ensures.ok.less)

pub returns-then-is_empty-clause-given : goal.returns-then-is_empty-clause-given
returns-then-is_empty-clause-given g c = λ yes.
    all_given c.pieces.invariant.0 c.pieces.front.now (bytes_in c.pieces.left) _ c.read.new.piece c.in-Ok.n c.pieces.invariant.1 c.in-Ok.ensures.ok c.if-n-eq0.true c.pieces.invariant.2
    (sym c.if-is_empty.ensures) (ap (λ (k : ℕ). k == 0) (sym c.len.ensures) ∙ yes)

pub returns-then-is_empty-clause-ended : goal.returns-then-is_empty-clause-ended
returns-then-is_empty-clause-ended g c = λ yes. c.in-Ok.ensures.ends c.if-n-eq0.true (omega arith)

pub returns-else-is_empty-clause-given : goal.returns-else-is_empty-clause-given
returns-else-is_empty-clause-given g c = grind (arith, common_steps)

pub returns-else-is_empty-clause-ended : goal.returns-else-is_empty-clause-ended
returns-else-is_empty-clause-ended g c = grind (arith, common_steps)
