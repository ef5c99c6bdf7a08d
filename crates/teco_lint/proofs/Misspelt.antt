-- Misspelt texts: what the first fault of one says of it.
use Rattle.std.proofs.Common.{◌≡◌, ◌≢◌, ◌<◌, ◌-◌, ◌⊎◌, inl, inr, ℕ, zero, suc, Bool, true, false, List, drop, Option, Some, None, refl, sym, ap, ◌∙◌, arith}
use native.Mathlib.Numerals.{unary_clauses}
use Rattle.teco_scan.specs.Scan.{scan}
use Rattle.teco_check.specs.Walk.{first_within}
use Rattle.teco_check.specs.declared.faults.Fault.{Fault}
use Rattle.teco_check.specs.declared.faults.Wrong.{Wrong}
use Rattle.teco_check.specs.declared.faults.Wrong.TheVariants as wrongs
use Rattle.teco_lint.specs.Spelling.{misspelt_at, misspelt_by, misspelt_within, put_first}
use Rattle.teco_core.specs.declared.profile.Profile.{Profile}

-- what is said of the texts in one that is looked into so deep
within_text : Profile → ℕ → List Bool → List ℕ → Bool
within_text p zero code bytes = false
within_text p (suc n) code bytes = misspelt_within p n code bytes

by_first : (p : Profile) (n : ℕ) (code : List Bool) (bytes : List ℕ) (first : Option Fault) → first ≡ first_within p n code bytes
    → misspelt_within p n code bytes ≡ misspelt_at p (within_text p n code) bytes first
unfolding misspelt_within within_text
by_first p zero code bytes first is = ap (misspelt_at p (λ inside. false) bytes) (sym is)
by_first p (suc n) code bytes first is = ap (misspelt_at p (misspelt_within p n code) bytes) (sym is)

pub by_none : (p : Profile) (n : ℕ) (code : List Bool) (bytes : List ℕ) → None ≡ first_within p n code bytes → misspelt_within p n code bytes ≡ false
by_none p n code bytes is = by_first p n code bytes None is

-- what no check looks into
pub by_unseen : (p : Profile) (n : ℕ) (code : List Bool) (bytes : List ℕ) (first : Fault) → Some first ≡ first_within p n code bytes
    → (first.wrong ≡ wrongs.Calls) ⊎ (first.wrong ≡ wrongs.Loads) → misspelt_within p n code bytes ≡ false
by_unseen p n code bytes first is (inl wrong) = by_first p n code bytes (Some first) is ∙ ap (misspelt_by p (within_text p n code) bytes first.at) wrong
by_unseen p n code bytes first is (inr wrong) = by_first p n code bytes (Some first) is ∙ ap (misspelt_by p (within_text p n code) bytes first.at) wrong

-- a fault in a text that is looked into, or in one that is too deep
pub by_inner : (p : Profile) (n : ℕ) (code : List Bool) (bytes : List ℕ) (first : Fault) → Some first ≡ first_within p n code bytes → first.wrong ≡ wrongs.InText
    → 0 < n → misspelt_within p n code bytes ≡ misspelt_within p (n - 1) code (put_first (scan p (drop first.at bytes)))
unfolding misspelt_within within_text
by_inner p zero code bytes first is wrong h = absurd (omega arith)
by_inner p (suc n) code bytes first is wrong h =
    simp unary_clauses (by_first p (suc n) code bytes (Some first) is ∙ ap (misspelt_by p (misspelt_within p n code) bytes first.at) wrong)

pub by_deep : (p : Profile) (n : ℕ) (code : List Bool) (bytes : List ℕ) (first : Fault) → Some first ≡ first_within p n code bytes → first.wrong ≡ wrongs.InText
    → n ≡ 0 → misspelt_within p n code bytes ≡ false
unfolding within_text
by_deep p zero code bytes first is wrong h = by_first p zero code bytes (Some first) is ∙ ap (misspelt_by p (λ inside. false) bytes first.at) wrong
by_deep p (suc n) code bytes first is wrong h = absurd (omega arith)

seen : (p : Profile) (inside : List ℕ → Bool) (bytes : List ℕ) (at : ℕ) (wrong : Wrong) → wrong ≢ wrongs.Calls → wrong ≢ wrongs.Loads → wrong ≢ wrongs.InText
    → misspelt_by p inside bytes at wrong ≡ true
seen p inside bytes at (wrongs.Unreadable c) a b d = refl
seen p inside bytes at (wrongs.Stray c opening) a b d = refl
seen p inside bytes at wrongs.Unended a b d = refl
seen p inside bytes at wrongs.TooDeep a b d = refl
seen p inside bytes at wrongs.NoTag a b d = refl
seen p inside bytes at wrongs.Calls a b d = absurd (a refl)
seen p inside bytes at wrongs.Loads a b d = absurd (b refl)
seen p inside bytes at wrongs.InText a b d = absurd (d refl)

-- any other fault
pub by_seen : (p : Profile) (n : ℕ) (code : List Bool) (bytes : List ℕ) (first : Fault) → Some first ≡ first_within p n code bytes
    → first.wrong ≢ wrongs.Calls → first.wrong ≢ wrongs.Loads → first.wrong ≢ wrongs.InText → misspelt_within p n code bytes ≡ true
by_seen p n code bytes first is a b d = by_first p n code bytes (Some first) is ∙ seen p (within_text p n code) bytes first.at first.wrong a b d
