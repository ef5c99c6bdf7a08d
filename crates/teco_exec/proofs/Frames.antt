-- The open blocks, as the machine sees them.
use Rattle.std.proofs.Common.{◌≡◌, reverse, take, get_or, true, false, ◌≤◌, ◌<◌, Bool, eqb, subst, ℕ, zero, suc, ◌+◌, List, [], ◌∷◌, length, drop, Option, Some, None, Ok, Err, refl, sym, ap, ◌∙◌, ◌⊎◌, inl, inr, arith, All, MatchOption, slice_get}
use Rattle.std.proofs.lemmas.Bool.{eq-eqb, false_from_ne_true, eqb-true}
use Rattle.std.proofs.lemmas.List.{take_more, reverse-append}
use Rattle.std.proofs.lemmas.List.Elements.{All-cons, All-tail}
use Rattle.teco_core.specs.Arguments.{Arguments, no_arguments}
use Rattle.teco_core.specs.declared.code.Code.TheVariants.{Pdo, Sni, Tag, Utc}
use Rattle.teco_scan.specs.declared.blocks.Kind.{Kind}
use Rattle.teco_scan.specs.declared.blocks.Kind.TheVariants.{Iter, Then, Else}
use Rattle.teco_exec.specs.Frames.{EndsTurn, frame, frames, has_iteration, in_turn, kind_of, list_start, next_body, next_turn}
use Rattle.teco_scan.specs.Lists.{Close, Past, past, behind_block, list_at, tag_at}
use Rattle.teco_scan.specs.Lists as lists
use Rattle.teco_exec.specs.CursorMoves.{Frame, pass_text_end, end_comes, Cursor, Coming, after_leaving_block, after_leaving_iteration, passed_or_fault, after_skip, inside_second_part, passed_to, block_comes, fault_comes, after_block_end, inside_iteration, after_jump, after_tag_or}
use Rattle.teco_exec.specs.CursorMoves as machine
use Rattle.teco_exec.specs.declared.blocks.Block.{Block}
use Rattle.teco_exec.specs.declared.blocks.Body.{Body}
use Rattle.teco_exec.specs.declared.blocks.Body.TheVariants as body
use Rattle.teco_core.specs.declared.profile.Profile.{Profile}

pub frames_nil : {bs : List Block} (text : List ℕ) → bs ≡ [] → frames text bs ≡ []
unfolding frames
frames_nil text e = ap (frames text) e

pub frames_cons : {bs outer : List Block} {b : Block} (text : List ℕ) → bs ≡ b ∷ outer → frames text bs ≡ frame text b ∷ frames text outer
unfolding frames
frames_cons text e = ap (frames text) e

-- the innermost block, by its kind
pub frames_kind : {bs outer : List Block} {b : Block} {k : Kind} (text : List ℕ) → bs ≡ b ∷ outer → kind_of b.body ≡ k
    → frames text bs ≡ record (frame text b) { kind = k } ∷ frames text outer
frames_kind {outer = outer} {b = b} text e is = frames_cons text e ∙ ap (λ k. record (frame text b) { kind = k } ∷ frames text outer) is

-- the same of either kind
pub frames_either : {bs outer : List Block} {b : Block} {one other : Kind} {A : Type 0} {y : A} (text : List ℕ) (f : List Frame → A) → bs ≡ b ∷ outer
    → (kind_of b.body ≡ one) ⊎ (kind_of b.body ≡ other)
    → f (record (frame text b) { kind = one } ∷ frames text outer) ≡ y → f (record (frame text b) { kind = other } ∷ frames text outer) ≡ y → f (frames text bs) ≡ y
frames_either text f e (inl is) one other = ap f (frames_kind text e is) ∙ one
frames_either text f e (inr is) one other = ap f (frames_kind text e is) ∙ other

pub or_kind : {j k one other : Kind} → j ≡ k → (j ≡ one) ⊎ (j ≡ other) → (k ≡ one) ⊎ (k ≡ other)
or_kind e is = grind arith

pub frames_length : (text : List ℕ) (bs : List Block) → length (frames text bs) ≡ length bs
unfolding frames
frames_length text [] = refl
frames_length text (b ∷ bs) = ap suc (frames_length text bs)

-- the innermost block, which isn't taken off
pub top_cons : {b : Block} (bs : List Block) → slice_get bs 0 ≡ Some b → (outer : List Block) × (bs ≡ b ∷ outer)
top_cons [] e = absurd cc
top_cons (a ∷ bs) e = (bs, cc)

-- an iteration is open
pub inside_is : (text : List ℕ) (bs : List Block) → has_iteration bs ≡ inside_iteration (frames text bs)
unfolding frames has_iteration inside_iteration
inside_is text [] = refl
inside_is text (b ∷ bs) = ap (λ (i : Bool). elim (kind_of b.body) [ Iter ↦ true | Then ↦ i | Else ↦ i ]) (inside_is text bs)

-- The blocks are stored the outermost first.
pub innermost : (bs : List Block) (n : ℕ) (d : Block) → n < length bs → reverse (take (n + 1) bs) ≡ get_or bs n d ∷ reverse (take n bs)
innermost bs n d lt = ap reverse (take_more bs n d lt) ∙ reverse-append (take n bs) (get_or bs n d ∷ [])

pub has_iteration-cons : (b : Block) (bs : List Block) (is : kind_of b.body ≡ Iter) → has_iteration (b ∷ bs) ≡ true
unfolding has_iteration
has_iteration-cons b bs is = rw (is, has_iteration)

pub has_iteration-part : (b : Block) (bs : List Block) (is : (kind_of b.body ≡ Then) ⊎ (kind_of b.body ≡ Else)) → has_iteration (b ∷ bs) ≡ has_iteration bs
unfolding has_iteration
has_iteration-part b bs (inl is) = rw (is, has_iteration)
has_iteration-part b bs (inr is) = rw (is, has_iteration)

pub has_iteration-none : has_iteration [] ≡ false
unfolding has_iteration
has_iteration-none = refl

-- They begin in the text.
abbrev pub Begin : ℕ → List Block → Type 0
Begin n bs = All (λ (x : Block). x.start ≤ n) bs

pub begin_outer : {n : ℕ} {bs outer : List Block} {b : Block} → bs ≡ b ∷ outer → Begin n bs → Begin n outer
begin_outer {n = n} {outer = outer} {b = b} e h = All-tail (λ (x : Block). x.start ≤ n) b outer (subst (Begin n) e h)

-- where the innermost is closed, if there is one
abbrev pub Closes : List Block → List Block → Option Block → Type 0
Closes bs outer closed = MatchOption closed ((bs ≡ []) × (outer ≡ [])) (λ b. bs ≡ b ∷ outer)

pub begin_closed : {n : ℕ} (bs outer : List Block) (closed : Option Block) → Closes bs outer closed → Begin n bs → Begin n outer
begin_closed {n = n} bs outer None e h = subst (Begin n) (e.0 ∙ sym e.1) h
begin_closed bs outer (Some b) e h = begin_outer e h

pub closed_same : {mid old : List Block} (new : List Block) (closed : Option Block) → mid ≡ old → Closes mid new closed → Closes old new closed
closed_same new closed e h = subst (λ (bs : List Block). Closes bs new closed) e h

-- the innermost was seen before it was closed
pub closes_top : {bs outer : List Block} (b : Block) (new : List Block) (closed : Option Block) → bs ≡ b ∷ outer → Closes bs new closed → bs ≡ b ∷ new
closes_top {bs = bs} {outer = outer} b new None e h = absurd (let x : b ∷ outer ≡ [] = sym e ∙ h.0 in cc)
closes_top {bs = bs} {outer = outer} b new (Some x) e h = let both : b ∷ outer ≡ x ∷ new = sym e ∙ h in let same : x ≡ b = cc in subst (λ (y : Block). bs ≡ y ∷ new) same h

-- in the next turn
turned_begin : {n : ℕ} (b : Block) (outer : List Block) (x : Option Body) (new : List Block) → in_turn b outer x ≡ Some new → Begin n (b ∷ outer) → Begin n new
turned_begin b outer None new e h = absurd cc
turned_begin {n = n} b outer (Some x) new e h =
    let same : (record b { body = x } ∷ outer) ≡ new = cc in
    let P : Block → Type 0 = λ x. x.start ≤ n in
    subst (Begin n) same (All-cons P (record b { body = x }) outer (h 0 b (omega arith)) (All-tail P b outer h))

pub begin_turned : {n : ℕ} {new : List Block} (bs : List Block) → next_turn bs ≡ Some new → Begin n bs → Begin n new
begin_turned [] e h = absurd cc
begin_turned {new = new} (b ∷ outer) e h = turned_begin b outer (next_body b.body) new e h

pub start_within : {n : ℕ} (bs : List Block) → Begin n bs → list_start bs ≤ n
start_within [] h = omega arith
start_within (b ∷ bs) h = h 0 b (omega arith)

-- a block more is opened, or 64 are open
module _ (text more : List ℕ) (step : machine.BlockStep) (bs : List Block) (a : Arguments) (left : List ℕ) where
  pub opening_full : length bs ≡ 64 → fault_comes Pdo ≡ machine.pass_opening step more (record { args = a; left = left; blocks = frames text bs })
  opening_full e = rw (eq-eqb (length (frames text bs)) 64 (frames_length text bs ∙ e))

  pub opening_free : (length bs ≡ 64 → ⊥) → block_comes step more ≡ machine.pass_opening step more (record { args = a; left = left; blocks = frames text bs })
  opening_free ne = rw (false_from_ne_true (eqb (length (frames text bs)) 64) (λ e. ne (sym (frames_length text bs) ∙ eqb-true (length (frames text bs)) 64 e)))

-- the text ends, or it ends in a block
pub no_block : (text : List ℕ) (bs : List Block) → length bs ≡ 0 → end_comes ≡ pass_text_end (frames text bs)
no_block text bs e = grind (arith, frames_length)

pub some_block : (text : List ℕ) (bs : List Block) → (length bs ≡ 0 → ⊥) → fault_comes Utc ≡ pass_text_end (frames text bs)
some_block text bs ne = grind (arith, frames_length)

-- the depth at which the innermost block is, as the code counts it and as the machine does
deep : {bs outer : List Block} {b : Block} {n : ℕ} (text : List ℕ) → bs ≡ b ∷ outer → n ≡ length bs → n ≡ suc (length (frames text outer))
deep {bs = bs} {outer = outer} text e len = let h : length bs ≡ suc (length outer) = ap length e in omega (arith, frames_length text outer)

deeper : (text : List ℕ) (bs : List Block) (n : ℕ) → n ≡ length bs → n + 1 ≡ suc (length (frames text bs))
deeper text bs n e = omega (arith, frames_length text bs)

module _ (profile : Profile) where
  pub divides_then : {bs outer : List Block} {b : Block} {n : ℕ} (text more : List ℕ) (x : Close) → bs ≡ b ∷ outer → kind_of b.body ≡ Then → n ≡ length bs
      → x ≡ (list_at profile (Some Else) n more).1 → passed_or_fault (after_skip (past x) (after_block_end more (frames text outer))) ≡ machine.pass_divider profile more (frames text bs)
  divides_then text more x e is len skip = rw (skip, deep text e len, frames_kind text e is)

  -- the same where it ends well, with arguments that were dropped
  pub divides_on : {bs outer : List Block} {b : Block} {n : ℕ} {a : Arguments} (text more rest : List ℕ) (divided : Bool) → a ≡ no_arguments → bs ≡ b ∷ outer → kind_of b.body ≡ Then → n ≡ length bs
      → lists.closed divided rest ≡ (list_at profile (Some Else) n more).1 → passed_to (record { args = a; left = rest; blocks = frames text outer }) ≡ machine.pass_divider profile more (frames text bs)
  divides_on {outer = outer} text more rest divided dropped e is len skip =
      ap (λ a. passed_to (record { args = a; left = rest; blocks = frames text outer })) dropped ∙ divides_then text more (lists.closed divided rest) e is len skip

  pub passed_over : {n : ℕ} (text more : List ℕ) (bs : List Block) (x : Past) (c : Cursor) → n ≡ length bs → x ≡ past (list_at profile (Some Iter) (n + 1) more).1
      → after_skip x c ≡ after_skip (past (list_at profile (Some Iter) (suc (length (frames text bs))) more).1) c
  passed_over {n = n} text more bs x c len skip = rw (skip, deeper text bs n len)

  pub second_is : {n : ℕ} (text more : List ℕ) (bs : List Block) (x : Close) (c : Cursor) → n ≡ length bs → x ≡ (list_at profile (Some Then) (n + 1) more).1
      → inside_second_part x c ≡ inside_second_part (list_at profile (Some Then) (suc (length (frames text bs))) more).1 c
  second_is {n = n} text more bs x c len skip = rw (skip, deeper text bs n len)

-- A turn ends: the next one begins, or the iteration is over.
module _ (text more left : List ℕ) (a : Arguments) where
  abbrev turned_to : List Block → Option (List Block) → Cursor
  turned_to outer None = after_block_end more (frames text outer)
  turned_to outer (Some new) = record { args = no_arguments; left = drop (list_start new) text; blocks = frames text new }

  turned : (b : Block) (outer : List Block) (x : Body) → kind_of x ≡ Iter
      → Ok (turned_to outer (in_turn b outer (next_body x))) ≡ machine.after_turn_end more (record { args = a; left = left; blocks = frames text (record b { body = x } ∷ outer) })
  unfolding frames
  turned b outer body.Endless is = refl
  turned b outer (body.Turns zero) is = refl
  turned b outer (body.Turns (suc n)) is = refl
  turned b outer x is = absurd cc

  pub turn_goes_on : {new : List Block} {start : ℕ} (bs : List Block) → EndsTurn bs → next_turn bs ≡ Some new → list_start new ≡ start
      → Ok (record { args = no_arguments; left = drop start text; blocks = frames text new }) ≡ machine.after_turn_end more (record { args = a; left = left; blocks = frames text bs })
  turn_goes_on [] is e at = absurd is
  turn_goes_on (b ∷ outer) is e at = rw (← at) (ap (λ o. Ok (turned_to outer o)) (sym e) ∙ turned b outer b.body is)

  pub turn_is_last : (bs outer : List Block) (closed : Option Block) → Closes bs outer closed → EndsTurn bs → next_turn bs ≡ None
      → Ok (after_block_end more (frames text outer)) ≡ machine.after_turn_end more (record { args = a; left = left; blocks = frames text bs })
  turn_is_last bs outer None e is last = absurd (subst EndsTurn e.0 is)
  turn_is_last bs outer (Some b) e is last = rw e (ap (λ o. Ok (turned_to outer o)) (sym (subst (λ bs. next_turn bs ≡ None) e last)) ∙ turned b outer b.body (subst EndsTurn e is))

module _ (profile : Profile) where
  -- blocks that are left
  pub leaving_none : {bs : List Block} (text : List ℕ) (a : Arguments) (left : List ℕ) → bs ≡ [] → Err Sni ≡ after_leaving_iteration profile (frames text bs) a left
  unfolding after_leaving_iteration
  leaving_none text a left e = sym (ap (λ fs. after_leaving_iteration profile fs a left) (frames_nil text e))

  module _ {bs outer : List Block} {b : Block} {n : ℕ} (text left : List ℕ) (a : Arguments) (k : Kind) (x : Past)
      (e : bs ≡ b ∷ outer) (is : k ≡ kind_of b.body) (len : n ≡ length bs) (skip : x ≡ behind_block (list_at profile) k n (list_at profile (Some k) n left).1) where
    -- one block is left, of a kind that is known
    pub leaves : {j : Kind} → k ≡ j → after_leaving_block (λ c. after_leaving_iteration profile (frames text outer) c.args c.left) j a (frames text outer) x ≡ after_leaving_iteration profile (frames text bs) a left
    unfolding after_leaving_iteration
    leaves same = rw (← same, skip, deep text e len, is, frames_cons text e)

    pub leaves_part : (more : List ℕ) → x ≡ Ok more → (k ≡ Then) ⊎ (k ≡ Else) → after_leaving_iteration profile (frames text outer) a more ≡ after_leaving_iteration profile (frames text bs) a left
    leaves_part more passed (inl part) = ap (after_leaving_block (λ c. after_leaving_iteration profile (frames text outer) c.args c.left) Then a (frames text outer)) (sym passed) ∙ leaves part
    leaves_part more passed (inr part) = ap (after_leaving_block (λ c. after_leaving_iteration profile (frames text outer) c.args c.left) Else a (frames text outer)) (sym passed) ∙ leaves part

  -- Jumps: to a tag in the innermost list, or in a list around it.
  abbrev pub around : List ℕ → List ℕ → Arguments → List Block → machine.CursorOrError
  around text name a [] = Err Tag
  around text name a (b ∷ outer) = after_jump profile name text (frames text outer) a

  pub jumps : {n start : ℕ} (text name : List ℕ) (a : Arguments) (bs : List Block) (o : Option (List ℕ)) → n ≡ length bs → start ≡ list_start bs → o ≡ tag_at profile name n (drop start text)
      → after_tag_or o a (frames text bs) (around text name a bs) ≡ after_jump profile name text (frames text bs) a
  unfolding frames after_jump
  jumps text name a [] o len at finds = rw (finds, len, at)
  jumps text name a (b ∷ outer) o len at finds = rw (finds, len, at, frames_length text outer)
