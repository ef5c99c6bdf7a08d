use Rattle.std.proofs.Common.{◌≡◌, List, ℕ, [], true, IfSome, Option, Some, None, is_none, refl, sym, ◌∙◌}
use Rattle.teco_scan.specs.declared.breaks.ListFault.{ListFault}
use Rattle.teco_scan.specs.Breaks.{Breaks, first_break}
use Rattle.teco_scan.specs.Nesting.{is_whole}
use Rattle.teco_scan.specs.Lists.{nodes}
use Rattle.teco_core.specs.declared.profile.Profile.{Profile}
use Rattle.teco_scan.proofs.WalkWhole.{text_tells}
use Rattle.teco_scan.proofs.breaks.first_fault.Goals as goal

none_is : (r : Option ListFault) → is_none r ≡ true → r ≡ None
none_is None e = refl
none_is (Some there) e = absurd cc

module _ (profile : Profile) where
  -- by what the list that was looked through says
  told : (text : List ℕ) (r : Option ListFault) → IfSome r (λ there. Breaks profile text (record { kind = None; start = 0; depth = 0 }) 0 there) → is_whole (nodes profile text) ≡ is_none r → r ≡ first_break profile text
  told text (Some there) breaks whole = sym (breaks.walked 0 [] refl)
  told text None breaks whole = sym (none_is (first_break profile text) (sym (text_tells profile text).whole ∙ whole))

pub returns-clause-first : goal.returns-clause-first
returns-clause-first c = told c.args.profile c.args.text.now c.first_fault_from.result c.first_fault_from.ensures.breaks c.first_fault_from.ensures.whole
