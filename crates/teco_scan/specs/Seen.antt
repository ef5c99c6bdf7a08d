-- What the code found, as what it means: spans as the bytes of the text, places as the bytes from there.
use Rattle.std.specs.Prelude.{◌≡◌, ℕ, ◌+◌, ◌-◌, ◌<◌, ◌≤◌, List, length, take, drop, Option, Some, None, Result, Ok, Err}
use Rattle.teco_core.specs.declared.code.Code.{Code}
use Rattle.teco_scan.specs.declared.token.Span.{Span}
use Rattle.teco_scan.specs.declared.token.Token.{Token}
use Rattle.teco_scan.specs.declared.token.Item.{Item as SpannedItem}
use Rattle.teco_scan.specs.declared.token.Item.TheVariants as items
use Rattle.teco_scan.specs.declared.token.TokenKind.{TokenKind}
use Rattle.teco_scan.specs.declared.token.TokenKind.TheVariants as kinds
use Rattle.teco_scan.specs.declared.token.Found.{Found}
use Rattle.teco_scan.specs.declared.token.Found.TheVariants as finds
use Rattle.teco_scan.specs.Scan.{Item, digits, bare, register, byte, text, set_text, replace, Instruction, step, mark, decide, tag, escape, TokenMeaning, Scanned, found, ended, fault, after_fillers}

-- what a function returned, seen by view, is what reading gives
abbrev pub Gives : {X Y : Type 0} → (X → Y) → Result X Code → Result Y Code → Type 0
Gives view (Ok x) read = read ≡ Ok (view x)
Gives view (Err e) read = read ≡ Err e

abbrev pub GivesSome : {X Y : Type 0} → (X → Y) → Option X → Option Y → Type 0
GivesSome view (Some x) read = read ≡ Some (view x)
GivesSome view None read = read ≡ None

-- the bytes of a span
abbrev pub bytes_in : List ℕ → Span → List ℕ
bytes_in bs s = take (s.to - s.from) (drop s.from bs)

abbrev pub item_in : List ℕ → SpannedItem → Item
item_in bs (items.Digits s) = digits (bytes_in bs s)
item_in bs (items.Bare c) = bare c
item_in bs (items.Register c q) = register c q
item_in bs (items.Byte b) = byte b
item_in bs (items.Text c s) = text c (bytes_in bs s)
item_in bs (items.SetText q s) = set_text q (bytes_in bs s)
item_in bs (items.Replace s t) = replace (bytes_in bs s) (bytes_in bs t)

abbrev pub instruction_in : List ℕ → TokenKind → Instruction
instruction_in bs (kinds.Item i) = step (item_in bs i)
instruction_in bs (kinds.Mark c) = mark c
instruction_in bs (kinds.Test t) = decide t
instruction_in bs (kinds.Tag s) = tag (bytes_in bs s)
instruction_in bs kinds.Escape = escape

abbrev pub meaning_in : List ℕ → Token → TokenMeaning
meaning_in bs t = record { modifiers = t.modifiers; instruction = instruction_in bs t.kind }

abbrev pub found_in : List ℕ → Found → Scanned
found_in bs (finds.Token t) = found (meaning_in bs t) (drop t.span.to bs)
found_in bs finds.End = ended
found_in bs (finds.Fault e) = fault e

-- A span lies in order, in a text of n bytes.
pub record IsSpanIn (n : ℕ) (s : Span) : Type 0 where
  pub ordered : s.from ≤ s.to
  pub inside : s.to ≤ n

abbrev pub IsItemIn : ℕ → SpannedItem → Type 0
IsItemIn n (items.Digits s) = IsSpanIn n s
IsItemIn n (items.Bare c) = Unit {0}
IsItemIn n (items.Register c q) = Unit {0}
IsItemIn n (items.Byte b) = Unit {0}
IsItemIn n (items.Text c s) = IsSpanIn n s
IsItemIn n (items.SetText q s) = IsSpanIn n s
IsItemIn n (items.Replace s t) = IsSpanIn n s × IsSpanIn n t

abbrev pub IsKindIn : ℕ → TokenKind → Type 0
IsKindIn n (kinds.Item i) = IsItemIn n i
IsKindIn n (kinds.Mark c) = Unit {0}
IsKindIn n (kinds.Test t) = Unit {0}
IsKindIn n (kinds.Tag s) = IsSpanIn n s
IsKindIn n kinds.Escape = Unit {0}

-- A run of digits is the whole token. A text is followed by its delimiter, which is the token's last byte; the first of two
-- texts is followed by one too, and by the second.
abbrev pub IsItemPlaced : Span → SpannedItem → Type 0
IsItemPlaced whole (items.Digits s) = s ≡ whole
IsItemPlaced whole (items.Bare c) = Unit {0}
IsItemPlaced whole (items.Register c q) = Unit {0}
IsItemPlaced whole (items.Byte b) = Unit {0}
IsItemPlaced whole (items.Text c s) = s.to + 1 ≡ whole.to
IsItemPlaced whole (items.SetText q s) = s.to + 1 ≡ whole.to
IsItemPlaced whole (items.Replace s t) = (s.to + 1 ≡ t.from) × (t.to + 1 ≡ whole.to)

abbrev pub IsKindPlaced : Span → TokenKind → Type 0
IsKindPlaced whole (kinds.Item i) = IsItemPlaced whole i
IsKindPlaced whole (kinds.Mark c) = Unit {0}
IsKindPlaced whole (kinds.Test t) = Unit {0}
IsKindPlaced whole (kinds.Tag s) = s.to + 1 ≡ whole.to
IsKindPlaced whole kinds.Escape = Unit {0}

-- The token's first byte is the first from the place on that is no filler; it has a byte, and it and its texts lie in the text.
pub record IsTokenAt (bs : List ℕ) (at : ℕ) (t : Token) : Type 0 where
  pub begins : drop t.span.from bs ≡ after_fillers (drop at bs)
  pub after : at ≤ t.span.from
  pub long : t.span.from < t.span.to
  pub inside : t.span.to ≤ length bs
  pub spans : IsKindIn (length bs) t.kind
  pub placed : IsKindPlaced t.span t.kind

abbrev pub IsFoundAt : List ℕ → ℕ → Found → Type 0
IsFoundAt bs at (finds.Token t) = IsTokenAt bs at t
IsFoundAt bs at finds.End = Unit {0}
IsFoundAt bs at (finds.Fault e) = Unit {0}

-- All this leaves one answer: what is found there, with each of its places.
abbrev pub IsDetermined : Type 0
IsDetermined = (bs : List ℕ) (at : ℕ) (f g : Found) → IsFoundAt bs at f → IsFoundAt bs at g
    → found_in bs f ≡ found_in bs g → f ≡ g
