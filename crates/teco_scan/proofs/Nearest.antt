-- The first place of a byte, where none of the nearest bytes is it.
use Rattle.std.proofs.Common.{◌≡◌, ℕ, ◌+◌, ◌-◌, ◌≤◌, Bool, true, List, length, length-drop, get_or, take, drop, None, Some, sym, ap, subst, ◌∙◌, arith}
use Rattle.std.proofs.lemmas.List.{get_or-drop, take_rest}
use Rattle.memchr.specs.Find.{IsFirstByte, Nowhere, Passes}
use Rattle.memchr.proofs.lemmas.FindLemmas.{Nowhere-then}

module _ (test : ℕ → Bool) (bytes : List ℕ) (near : ℕ) (within : near ≤ length bytes) (before : Nowhere (Passes test bytes) 0 near) where
  later : (n : ℕ) → Nowhere (Passes test (drop near bytes)) 0 n → Nowhere (Passes test bytes) 0 (near + n)
  later n none = Nowhere-then before (λ k low high is.
      none (k - near) (omega arith) (omega arith)
      (subst (λ b. test b ≡ true) (sym (get_or-drop near bytes (k - near) 0 ∙ ap (λ i. get_or bytes i 0) (omega arith))) is))

  -- the bytes after the nearest, as a slice of the whole
  abbrev rest : List ℕ
  rest = take (length bytes - near) (drop near bytes)

  pub none_later : IsFirstByte test rest None → IsFirstByte test bytes None
  none_later found k low high =
      let none : IsFirstByte test (drop near bytes) None = subst (λ part. IsFirstByte test part None) (take_rest bytes near) found in
      later (length bytes - near) (λ i from to. none i from (omega (arith, length-drop near bytes))) k low (omega arith)

  pub first_later : (n : ℕ) → IsFirstByte test rest (Some n) → IsFirstByte test bytes (Some (near + n))
  first_later n found =
      let here : IsFirstByte test (drop near bytes) (Some n) = subst (λ part. IsFirstByte test part (Some n)) (take_rest bytes near) found in (
        record {
          low = omega arith;
          high = omega (arith, here.0.high, length-drop near bytes);
          before = later n here.0.before;
        },
        subst (λ b. test b ≡ true) (get_or-drop near bytes n 0) here.1,
      )
