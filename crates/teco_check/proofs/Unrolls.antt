-- The walk of a check, over one token and over one list more.
use Rattle.std.proofs.Common.{◌≡◌, ℕ, ◌+◌, ◌<◌, ◌≤◌, Bool, List, ◌∷◌, length, drop, set, Some, is_some, sym, ap, ◌∙◌, arith}
use Rattle.std.specs.Prelude.{◌||◌, slice_index}
use Rattle.std.proofs.lemmas.List.{get_or-set_same}
use Rattle.teco_core.specs.declared.profile.Profile.{Profile}
use Rattle.teco_scan.specs.declared.blocks.Kind.{Kind}
use Rattle.teco_scan.specs.Scan.{Scanned, scan, after_fillers}
use Rattle.teco_scan.specs.Lists.{tag_at}
use Rattle.teco_scan.specs.Walk.{OpenList, place, in_block, at_scan}
use Rattle.teco_scan.proofs.WalkUnrolls as unrolled
use Rattle.teco_check.specs.declared.faults.Fault.{Fault}
use Rattle.teco_check.specs.Checked.{lands_below}
use Rattle.teco_check.specs.Walk.{CodeRule, by_check, lands_in, check_walk}
use Rattle.teco_check.specs.Walked.{BeginThere}
use Rattle.teco_check.proofs.Open.{below_kept}

pub one_more : (o : OpenList) (os : List OpenList) (d : ℕ) → length os ≡ d → length (o ∷ os) ≡ d + 1
one_more o os d e = omega (arith, e)

module _ (profile : Profile) where
  -- one list more: the one that begins at this place
  pub begins_more : (bytes starts : List ℕ) (d : ℕ) (o : OpenList) (os : List OpenList) → d < length starts → length os ≡ d → BeginThere profile bytes starts os → BeginThere profile bytes (set starts d o.start) (o ∷ os)
  unfolding lands_in lands_below
  begins_more bytes starts d o os lt is h name =
      ap (λ (b : Bool). is_some (tag_at profile name (length os) (drop o.start bytes)) || b) (h name ∙ ap (λ (n : ℕ). lands_below profile bytes starts n name) is ∙ sym (below_kept profile bytes starts d d o.start name (omega arith)) ∙ sym (ap (λ (n : ℕ). lands_below profile bytes (set starts d o.start) n name) is))
      ∙ ap (λ (p : ℕ). is_some (tag_at profile name (length os) (drop p bytes)) || lands_below profile bytes (set starts d o.start) (length os) name)
      (sym (ap (λ (n : ℕ). slice_index (set starts d o.start) n) is ∙ get_or-set_same starts d o.start 0 lt))

  -- from what was scanned on
  pub scanned_at : (code : CodeRule) (bytes bs : List ℕ) (o : OpenList) (os : List OpenList) (s : Scanned) (at : ℕ) → s ≡ scan profile bs → place bytes (after_fillers bs) ≡ at
      → check_walk profile code bytes o os bs ≡ at_scan (by_check profile code bytes) (check_walk profile code bytes) bytes s at o os
  scanned_at code bytes bs o os s at e p = unrolled.scanned_at profile Fault (by_check profile code bytes) bytes bs o os s at e p

  -- a block that is opened, where fewer are open than may be
  pub block_opens : (code : CodeRule) (bytes : List ℕ) (kind : Kind) (at : ℕ) (o : OpenList) (os : List OpenList) (to : ℕ) → (length os ≡ 64 → ⊥) → to ≤ length bytes
      → in_block (by_check profile code bytes) (check_walk profile code bytes) bytes kind at o os (drop to bytes) ≡ check_walk profile code bytes (record { kind = Some kind; opening = at; start = to }) (o ∷ os) (drop to bytes)
  block_opens code bytes kind at o os to few inside = unrolled.block_opens profile Fault (by_check profile code bytes) bytes (check_walk profile code bytes) kind at o os to few inside
