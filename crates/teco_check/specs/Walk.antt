-- The first fault that a check tells: of a walk over the tokens of a text, by the rule of a check.
use Rattle.std.specs.Prelude.{ℕ, Bool, false, ◌&&◌, ◌||◌, List, [], ◌∷◌, length, drop, Option, Some, None, is_some, if◌then◌else◌}
use Rattle.teco_core.specs.declared.profile.Profile.{Profile}
use Rattle.teco_scan.specs.declared.command.Modifiers.{Modifiers}
use Rattle.teco_scan.specs.declared.command.TextCommand.TheVariants as texts
use Rattle.teco_scan.specs.declared.command.RegisterCommand.TheVariants as registers
use Rattle.teco_scan.specs.declared.blocks.Kind.{Kind}
use Rattle.teco_scan.specs.Scan.{Item, Scanned, found, no_modifiers, scan}
use Rattle.teco_scan.specs.Scan as token
use Rattle.teco_scan.specs.Lists.{tag_at}
use Rattle.teco_scan.specs.Walk.{Break, unreadable, stray, unended, too_deep, OpenList, Rule, Walker, own_list}
use Rattle.teco_scan.specs.Walk as walked
use Rattle.teco_check.specs.Checked.{held, may_hold}
use Rattle.teco_check.specs.Clean.{is_whole, is_written_out}
use Rattle.teco_check.specs.declared.faults.Fault.{Fault}
use Rattle.teco_check.specs.declared.faults.TheConstants.{MOST_TEXTS}
use Rattle.teco_check.specs.declared.faults.Wrong.{Wrong}
use Rattle.teco_check.specs.declared.faults.Wrong.TheVariants as wrongs

-- A tag of this name is directly in one of these lists, the innermost first.
unfoldable pub lands_in : Profile → List ℕ → List OpenList → List ℕ → Bool
lands_in p bytes [] name = false
lands_in p bytes (o ∷ os) name = is_some (tag_at p name (length os) (drop o.start bytes)) || lands_in p bytes os name

-- which registers hold code, and which texts may be put there
pub record CodeRule : Type 0 where
  pub holds : ℕ → Bool
  pub may : List ℕ → Bool

-- What is wrong with an item: a jump lands nowhere; a register is called that holds no code; what is in the buffer or was pushed is
-- put where code is, or what comes behind the text that is there, or a byte that a number may give; or so is a text that has a fault.
abbrev pub wrong_with : Profile → CodeRule → List ℕ → List OpenList → Modifiers → Item → Option Wrong
wrong_with p code bytes lists m (token.text texts.Go name) = if lands_in p bytes lists name then None else Some wrongs.NoTag
wrong_with p code bytes lists m (token.register registers.Macro q) = if code.holds q then None else Some wrongs.Calls
wrong_with p code bytes lists m (token.register registers.Extract q) = if code.holds q then Some wrongs.Loads else None
wrong_with p code bytes lists m (token.register registers.Pop q) = if code.holds q then Some wrongs.Loads else None
wrong_with p code bytes lists m (token.set_text q t) =
    if code.holds q then (if is_whole m && is_written_out p t then (if code.may t then None else Some wrongs.InText) else Some wrongs.Loads)
    else None
wrong_with p code bytes lists m i = None

-- where a list is opened, if it is a block's
abbrev pub opened_at : Option Kind → ℕ → Option ℕ
opened_at None opening = None
opened_at (Some kind) opening = Some opening

-- What is told of a break: it is where it breaks, but of a block without an end where that is opened.
abbrev pub told_break : ℕ → Break → OpenList → Fault
told_break at (unreadable code) list = record { at = at; wrong = wrongs.Unreadable code }
told_break at (stray code) list = record { at = at; wrong = wrongs.Stray code (opened_at list.kind list.opening) }
told_break at unended list = record { at = list.opening; wrong = wrongs.Unended }
told_break at too_deep list = record { at = at; wrong = wrongs.TooDeep }

abbrev pub told_item : ℕ → Option Wrong → Option Fault
told_item at None = None
told_item at (Some wrong) = Some record { at = at; wrong = wrong }

-- the modifiers of the token at a place
abbrev pub marks_of : Scanned → Modifiers
marks_of (found t rest) = t.modifiers
marks_of s = no_modifiers

abbrev pub marks_at : Profile → List ℕ → ℕ → Modifiers
marks_at p bytes at = marks_of (scan p (drop at bytes))

-- the rule of a check
abbrev pub by_check : Profile → CodeRule → List ℕ → Rule Fault
by_check p code bytes =
    record { breaks = told_break; item = λ at item lists. told_item at (wrong_with p code bytes lists (marks_at p bytes at) item) }

abbrev pub check_walk : Profile → CodeRule → List ℕ → Walker Fault
check_walk p code bytes list around rest = walked.walk p (by_check p code bytes) bytes list around rest

-- the code registers, where texts are looked into so many deep
abbrev pub rule : Profile → ℕ → List Bool → CodeRule
rule p n code = record { holds = held code; may = may_hold p n code }

-- The first fault of a text, if it has one, where so many texts in one another are looked into.
abbrev pub first_within : Profile → ℕ → List Bool → List ℕ → Option Fault
first_within p n code bytes = check_walk p (rule p n code) bytes own_list [] bytes

abbrev pub first_of : Profile → List Bool → List ℕ → Option Fault
first_of p code bytes = first_within p MOST_TEXTS code bytes
