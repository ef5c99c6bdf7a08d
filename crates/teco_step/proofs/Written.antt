-- What an array holds into which one text was written, and another after it.
use Rattle.std.proofs.Common.{◌≡◌, ◌∙◌, ap, ℕ, ◌+◌, List, ◌++◌, length, take, arith}
use Rattle.std.proofs.lemmas.List.{length-append}
use Rattle.std.proofs.lemmas.Slice.{take-put_mid}
use Rattle.std.proofs.Math.Seq.{take-append_seam}
use borrow.Rule.Slice.PartMut.{put_mid}

pub one_after_another : (first second xs ys rest : List ℕ) (k n : ℕ) → xs ≡ first → ys ≡ second → n ≡ length first + length second
    → take n (put_mid (length first) k (xs ++ rest) ys) ≡ first ++ second
one_after_another first second xs ys rest k n ex ey long =
    rw (ex, ey) (take-put_mid (length first) k (first ++ rest) second n long (omega (arith, length-append first rest))
    ∙ ap (λ l. l ++ second) (take-append_seam first rest))
