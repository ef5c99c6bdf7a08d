-- Past the end of a text nothing is found.
use Rattle.std.proofs.Common.{◌≡◌, ℕ, ◌<◌, List, length, drop, ap, arith}
use Rattle.std.proofs.lemmas.List.{drop_all}
use Rattle.teco_core.specs.declared.profile.Profile.{Profile}
use Rattle.teco_scan.specs.Scan.{ended, scan, after_fillers}

pub past_end : (p : Profile) (text : List ℕ) (at : ℕ) → length text < at → scan p (drop at text) ≡ ended
unfolding scan after_fillers
past_end p text at lt = ap (scan p) (drop_all at text (omega (arith, lt)))
