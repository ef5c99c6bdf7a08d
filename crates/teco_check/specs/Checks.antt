-- What the answer of a check of a node or a list says: how clean it is, where the walk goes on, and how the list closes or breaks.
use Rattle.std.specs.Prelude.{◌≡◌, ℕ, suc, ◌+◌, Bool, List, ◌∷◌, length, drop, Option, Some, Result, IfOk, IfErr, is_ok}
use Rattle.teco_core.specs.declared.code.Code.{Code}
use Rattle.teco_core.specs.declared.profile.Profile.{Profile}
use Rattle.teco_scan.specs.declared.blocks.Kind.{Kind}
use Rattle.teco_scan.specs.declared.blocks.Kind.TheVariants.{Then}
use Rattle.teco_scan.specs.declared.blocks.SkipEnd.{SkipEnd}
use Rattle.teco_scan.specs.declared.command.Modifiers.{Modifiers}
use Rattle.teco_scan.specs.declared.command.Test.{Test}
use Rattle.teco_scan.specs.declared.token.Token.{Token}
use Rattle.teco_scan.specs.Lists.{Listed, broken, cond_at, list_at}
use Rattle.teco_scan.specs.Lists as lists
use Rattle.teco_scan.specs.Scan.{Item}
use Rattle.teco_scan.specs.Seen.{instruction_in}
use Rattle.teco_scan.specs.Tree.{Nodes}
use Rattle.teco_scan.specs.Walk.{OpenList}
use Rattle.teco_scan.specs.Walk as walked
use Rattle.teco_check.specs.declared.faults.Fault.{Fault}
use Rattle.teco_check.specs.Checked.{AreOpen, code_of, rest_clean}
use Rattle.teco_check.specs.Clean.{is_clean, is_fine}
use Rattle.teco_check.specs.Walk.{CodeRule, by_check, check_walk, told_item, wrong_with}
use Rattle.teco_check.specs.Walked.{BeginThere, after_list, after_node}

-- A list from a node in it on, if the list is of this kind: of a token, and of a conditional whose first part begins here.
abbrev pub RestOfList : Type 0
RestOfList = Option Kind → Listed

abbrev pub from_token : Profile → List ℕ → Token → Modifiers → ℕ → RestOfList
from_token p text token modifiers depth kind =
    lists.at_instruction (list_at p) (instruction_in text token.kind) modifiers (drop token.span.to text) kind depth

abbrev pub from_conditional : Profile → List ℕ → ℕ → Test → ℕ → RestOfList
from_conditional p text start test depth kind =
    cond_at (list_at p) kind depth test (list_at p (Some Then) (suc depth) (drop start text))

-- the walk from a token on, and from the first part of a conditional on, in a list with those around it
abbrev pub WalkFrom : Type 0
WalkFrom = OpenList → List OpenList → Option Fault

abbrev pub walk_from_token : Profile → CodeRule → List ℕ → Token → WalkFrom
walk_from_token p code text token list around =
    walked.at_instruction (by_check p code text) (check_walk p code text) text (instruction_in text token.kind) token.span.from
    list around (drop token.span.to text)

abbrev pub walk_from_conditional : Profile → CodeRule → List ℕ → ℕ → ℕ → WalkFrom
walk_from_conditional p code text opening start list around =
    check_walk p code text (record { kind = Some Then; opening = opening; start = start }) (list ∷ around) (drop start text)

-- A list is as clean as the rest of it after the node, where these lists are open; and it closes as the rest does.
abbrev pub NodeClean : Profile → CodeRule → List ℕ → List ℕ → ℕ → RestOfList → Result ℕ Fault → Type 0
NodeClean p code text starts depth rest answer = (open_lists : List Nodes) (kind : Option Kind)
    → AreOpen p text starts (depth + 1) open_lists
    → is_clean code.holds code.may open_lists (rest kind).0
    ≡ rest_clean p code.holds code.may open_lists text kind depth answer

abbrev pub NodeCloses : Profile → List ℕ → ℕ → RestOfList → Result ℕ Fault → Type 0
NodeCloses p text depth rest answer = (kind : Option Kind)
    → IfOk answer (λ to. (rest kind).1 ≡ (list_at p kind depth (drop to text)).1)

-- The walk goes on after the node, or its fault is that of the answer.
abbrev pub NodeFirst : Profile → CodeRule → List ℕ → List ℕ → ℕ → WalkFrom → Result ℕ Fault → Type 0
NodeFirst p code text starts depth walks answer = (list : OpenList) (around : List OpenList) → length around ≡ depth
    → BeginThere p text starts (list ∷ around) → walks list around ≡ after_node p code text list around answer

-- A fault with a code breaks the list by that code.
abbrev pub NodeBreaks : RestOfList → Result ℕ Fault → Type 0
NodeBreaks rest answer = (code : Code) (kind : Option Kind)
    → IfErr answer (λ fault. code_of fault.wrong ≡ Some code → (rest kind).1 ≡ broken code)

-- The same of a whole list: it is clean exactly if there is no fault; the walk of it ends as the answer says; and a fault with a
-- code breaks it.
abbrev pub ListClean : Profile → CodeRule → List ℕ → List ℕ → ℕ → Listed → Result SkipEnd Fault → Type 0
ListClean p code text around depth listed answer = (open_lists : List Nodes) → AreOpen p text around depth open_lists
    → is_clean code.holds code.may (listed.0 ∷ open_lists) listed.0 ≡ is_ok answer

abbrev pub ListFirst : Profile → CodeRule → List ℕ → List ℕ → ℕ → OpenList → Result SkipEnd Fault → Type 0
ListFirst p code text starts depth list answer = (around : List OpenList) → length around ≡ depth → BeginThere p text starts around
    → check_walk p code text list around (drop list.start text) ≡ after_list p code text list.kind list.opening around answer

abbrev pub ListBreaks : Listed → Result SkipEnd Fault → Type 0
ListBreaks listed answer = (code : Code)
    → IfErr answer (λ fault. code_of fault.wrong ≡ Some code → listed.1 ≡ broken code)

-- An item is fine, where these lists are open, exactly if this holds.
abbrev pub ItemFine : Profile → CodeRule → List ℕ → List ℕ → ℕ → Modifiers → Item → Bool → Type 0
ItemFine p code text starts count m item fine = (open_lists : List Nodes) → AreOpen p text starts count open_lists
    → is_fine code.holds code.may open_lists m item ≡ fine

-- The walk goes on after an item that is fine, or its fault is that of the answer.
abbrev pub ItemFirst : Profile → CodeRule → List ℕ → List ℕ → ℕ → Modifiers → Item → ℕ → ℕ → Result ℕ Fault → Type 0
ItemFirst p code text starts count m item from to answer = (list : OpenList) (around : List OpenList)
    → suc (length around) ≡ count → BeginThere p text starts (list ∷ around)
    → walked.after_item (check_walk p code text) (told_item from (wrong_with p code text (list ∷ around) m item))
    list around (drop to text)
    ≡ after_node p code text list around answer
