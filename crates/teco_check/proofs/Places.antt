-- Places of tokens.
use Rattle.std.proofs.Common.{◌≡◌, ℕ, List, ap, ◌∙◌}
use Rattle.teco_core.specs.declared.profile.Profile.{Profile}
use Rattle.teco_scan.specs.Scan.{scan, after_fillers}
use Rattle.teco_exec.proofs.Placings.{scan_fillers}

module _ (profile : Profile) where
  pub scan_same : (bs more : List ℕ) → more ≡ after_fillers bs → scan profile more ≡ scan profile bs
  scan_same bs more e = ap (scan profile) e ∙ scan_fillers profile bs
