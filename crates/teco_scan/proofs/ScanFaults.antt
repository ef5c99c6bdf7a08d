-- A fault that is read is one of the text.
use Rattle.std.proofs.Common.{◌≡◌, ℕ, true, List, [], ◌∷◌, Ok, Err, ◌⊎◌, inl, inr, refl, ap, ◌∙◌}
use Rattle.teco_core.specs.declared.code.Code.{Code}
use Rattle.teco_core.specs.declared.code.Code.TheVariants.{Ill, Iqn, Iqc, Utc}
use Rattle.teco_core.specs.declared.profile.Profile.{Profile}
use Rattle.teco_scan.specs.Scan.{rows_of, Reading, TokenMeaning, fault, scan, scan_here, scanned, after_fillers, token_from}
use Rattle.teco_scan.specs.Tree.{is_fault}
use Rattle.teco_scan.proofs.Faults.{four}

module _ (profile : Profile) where
  read_fault : (bs : List ℕ) (c : Code) (r : Reading TokenMeaning) → token_from (rows_of profile) bs ≡ r → scanned r ≡ fault c → token_from (rows_of profile) bs ≡ Err c
  read_fault bs c (Ok x) is e = absurd cc
  read_fault bs c (Err d) is e = let same : d ≡ c = cc in is ∙ ap Err same

of_four : (c : Code) → (c ≡ Ill) ⊎ (c ≡ Iqn) ⊎ (c ≡ Iqc) ⊎ (c ≡ Utc) → is_fault c ≡ true
of_four c (inl e) = ap is_fault e
of_four c (inr (inl e)) = ap is_fault e
of_four c (inr (inr (inl e))) = ap is_fault e
of_four c (inr (inr (inr e))) = ap is_fault e

module _ (profile : Profile) where
  fault_here : (bs : List ℕ) (c : Code) → scan_here profile bs ≡ fault c → is_fault c ≡ true
  fault_here [] c e = absurd cc
  fault_here (b ∷ bs) c e = of_four c (four (rows_of profile) (b ∷ bs) c (read_fault profile (b ∷ bs) c (token_from (rows_of profile) (b ∷ bs)) refl e))

  pub scan_fault : (bs : List ℕ) (c : Code) → scan profile bs ≡ fault c → is_fault c ≡ true
  unfolding scan
  scan_fault bs c e = fault_here (after_fillers bs) c e
