-- What a check of a list knows: where the lists around it begin, and what its answer says.
use Rattle.std.specs.Prelude.{◌≡◌, ℕ, zero, suc, ◌-◌, Bool, true, false, ◌||◌, ◌<◌, ◌≤◌, List, length, drop, slice_index, slice_index_or, Option, Some, None, Result, Ok, Err, is_some}
use Rattle.teco_core.specs.declared.code.Code.{Code}
use Rattle.teco_core.specs.declared.code.Code.TheVariants.{Pdo, Utc}
use Rattle.teco_core.specs.declared.profile.Profile.{Profile}
use Rattle.teco_scan.specs.declared.blocks.Kind.{Kind}
use Rattle.teco_scan.specs.Tree.{Nodes}
use Rattle.teco_scan.specs.Lists.{list_at, tag_at}
use Rattle.teco_check.specs.Clean.{lands, is_clean, clean_within, may_put}
use Rattle.teco_scan.specs.declared.command.BlockMark.TheVariants.{Iterate, EndIteration, Otherwise, EndTest}
use Rattle.teco_scan.specs.declared.command.TextCommand.TheVariants as texts
use Rattle.teco_scan.specs.declared.command.RegisterCommand.TheVariants as registers
use Rattle.teco_scan.specs.Scan.{TokenMeaning, Instruction, step, mark, decide, text, set_text, register, found, fault, scan}
use Rattle.teco_scan.specs.declared.token.Item.{Item as SpannedItem}
use Rattle.teco_scan.specs.declared.token.Item.TheVariants as items
use Rattle.teco_scan.specs.declared.token.TokenKind.{TokenKind}
use Rattle.teco_scan.specs.declared.token.TokenKind.TheVariants as kinds
use Rattle.teco_check.specs.declared.faults.Fault.{Fault}
use Rattle.teco_check.specs.declared.faults.Wrong.{Wrong}
use Rattle.teco_check.specs.declared.faults.Wrong.TheVariants as wrongs

-- The registers that hold code.
abbrev pub held : List Bool → ℕ → Bool
held code q = slice_index_or code q false

-- the texts that may be put there: those that are clean, and so on, so many texts deep
abbrev pub may_hold : Profile → ℕ → List Bool → List ℕ → Bool
may_hold p n code = may_put p (clean_within p n (held code))

-- A tag of this name is directly in one of the innermost lists so many, the outermost of which is that of the text. `starts` has the
-- place where each begins.
unfoldable pub lands_below : Profile → List ℕ → List ℕ → ℕ → List ℕ → Bool
lands_below p bytes starts zero name = false
lands_below p bytes starts (suc d) name = is_some (tag_at p name d (drop (slice_index starts d) bytes)) || lands_below p bytes starts d name

-- The lists are those that begin at these places, as far as a jump can tell.
abbrev pub AreOpen : Profile → List ℕ → List ℕ → ℕ → List Nodes → Type 0
AreOpen p bytes starts d lists = (name : List ℕ) → lands lists name ≡ lands_below p bytes starts d name

-- whether the rest of a list is clean, where a node of it was passed up to a place; a fault in the node makes it unclean
abbrev pub rest_clean : Profile → (ℕ → Bool) → (List ℕ → Bool) → List Nodes → List ℕ → Option Kind → ℕ → Result ℕ Fault → Bool
rest_clean p code may lists bytes k d (Ok to) = is_clean code may lists (list_at p k d (drop to bytes)).0
rest_clean p code may lists bytes k d (Err f) = false

-- The places of so many lists lie in the text.
abbrev pub AreInside : List ℕ → List ℕ → ℕ → Type 0
AreInside bytes starts count = (d : ℕ) → d < count → slice_index starts d ≤ length bytes

abbrev pub is_stray : Wrong → Bool
is_stray (wrongs.Stray c opening) = true
is_stray w = false

-- what an instruction can have wrong with it
abbrev pub suits : Wrong → Instruction → Bool
suits (wrongs.Stray c opening) (mark EndIteration) = true
suits (wrongs.Stray c opening) (mark Otherwise) = true
suits (wrongs.Stray c opening) (mark EndTest) = true
suits wrongs.Unended (mark Iterate) = true
suits wrongs.Unended (decide t) = true
suits wrongs.TooDeep (mark Iterate) = true
suits wrongs.TooDeep (decide t) = true
suits wrongs.NoTag (step (text texts.Go name)) = true
suits wrongs.Calls (step (register registers.Macro q)) = true
suits wrongs.Loads (step (register registers.Extract q)) = true
suits wrongs.Loads (step (register registers.Pop q)) = true
suits wrongs.Loads (step (set_text q t)) = true
suits wrongs.InText (step (set_text q t)) = true
suits w i = false

-- The bytes begin with what is wrong: with no token, or with one that can have this wrong with it.
abbrev pub IsFaultHere : Profile → List ℕ → Wrong → Type 0
IsFaultHere p bs (wrongs.Unreadable c) = scan p bs ≡ fault c
IsFaultHere p bs w = (t : TokenMeaning) × ((rest : List ℕ) × ((scan p bs ≡ found t rest) × (suits w t.instruction ≡ true)))

-- the code by which a run ends where it comes to this
abbrev pub code_of : Wrong → Option Code
code_of (wrongs.Unreadable c) = Some c
code_of (wrongs.Stray c opening) = Some c
code_of wrongs.Unended = Some Utc
code_of wrongs.TooDeep = Some Pdo
code_of wrongs.NoTag = None
code_of wrongs.Calls = None
code_of wrongs.Loads = None
code_of wrongs.InText = None

-- how long the text is that a token puts into a register
abbrev pub item_length : SpannedItem → ℕ
item_length (items.SetText q span) = span.to - span.from
item_length i = 0

abbrev pub inner_length : TokenKind → ℕ
inner_length (kinds.Item i) = item_length i
inner_length kind = 0

-- the register of an item holds code
abbrev pub item_holds : (ℕ → Bool) → SpannedItem → Bool
item_holds code (items.Register c q) = code q
item_holds code (items.SetText q span) = code q
item_holds code i = false
