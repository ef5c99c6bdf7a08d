-- Each token has a byte.
use Rattle.std.proofs.Common.{◌≡◌, ◌<◌, ◌≤◌, ℕ, true, false, cond as choose, List, [], ◌∷◌, length, Ok, Err, ap, arith, length-append}
use Rattle.teco_core.specs.declared.profile.Profile.{Profile}
use Rattle.teco_core.specs.Ascii.{is_filler}
use Rattle.teco_scan.specs.Scan.{rows_of, Reading, TokenMeaning, found, scan, scan_here, scanned, after_fillers, token_from}
use Rattle.teco_scan.specs.Spelling.{Spells}
use Rattle.teco_scan.proofs.IsSpelled.{Takes, token_takes, spelled_long}

fillers_short : (bs : List ℕ) → length (after_fillers bs) ≤ length bs
unfolding after_fillers
fillers_short [] = omega arith
fillers_short (b ∷ bs) = elim (is_filler b) as (λ v. length (choose v (after_fillers bs) (b ∷ bs)) ≤ length (b ∷ bs)) [ true ↦ omega (arith, fillers_short bs) | false ↦ omega arith ]

module _ (profile : Profile) where
  token_short : (bs : List ℕ) (r : Reading TokenMeaning) → Takes (λ t front. Spells (rows_of profile) t front) bs r → (t : TokenMeaning) (more : List ℕ) → scanned r ≡ found t more → length more < length bs
  token_short bs (Err e) h t more is = absurd cc
  token_short bs (Ok x) h t more is =
      let same : x.1 ≡ more = cc in
      omega (arith, spelled_long h.1, ap length h.2, ap length same, length-append h.0 x.1)

  here_short : (bs : List ℕ) (t : TokenMeaning) (more : List ℕ) → scan_here profile bs ≡ found t more → length more < length bs
  here_short [] t more is = absurd cc
  here_short (b ∷ bs) t more is = token_short (b ∷ bs) (token_from (rows_of profile) (b ∷ bs)) (token_takes (rows_of profile) (b ∷ bs)) t more is

  -- each token has a byte
  pub scan_short : (bs : List ℕ) (t : TokenMeaning) (more : List ℕ) → scan profile bs ≡ found t more → length more < length bs
  unfolding scan
  scan_short bs t more is = omega (arith, here_short (after_fillers bs) t more is, fillers_short bs)
