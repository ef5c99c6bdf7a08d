-- What a try of a match at one start tells of other starts.
use Rattle.std.specs.Prelude.{◌≡◌, ℕ, ◌+◌, ◌<◌, ◌≤◌, List, Some}
use Rattle.teco_core.specs.declared.case_mode.CaseMode.{CaseMode}
use Rattle.teco_search.specs.declared.element.Element.{Element}
use Rattle.teco_search.specs.declared.run.Try.{Try}
use Rattle.teco_search.specs.Occurrence.{blanks_at, match_end}

-- The end of the match; the spaces and tabs of the first run, if it was come to; and where another start comes to a place p of that run, it
-- has no other end.
pub record IsTry (mode : CaseMode) (es : List Element) (text : List ℕ) (start : ℕ)
    (tried : Try) : Type 0 where
  pub end : tried.end ≡ match_end mode es text start
  pub from : start ≤ tried.run
  pub blanks : 0 < tried.blanks → tried.blanks ≡ blanks_at text tried.run
  pub shared : (k p q : ℕ) → 0 < tried.blanks → k + tried.run ≡ start + p → p < tried.run + tried.blanks
      → p + blanks_at text p ≡ tried.run + tried.blanks
      → match_end mode es text k ≡ Some q → tried.end ≡ Some q
