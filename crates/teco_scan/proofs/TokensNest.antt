-- The tokens of a text nest as its nodes say.
use Rattle.std.proofs.Common.{◌≡◌, ℕ, zero, suc, Bool, true, false, List, [], ◌∷◌, ◌++◌, length, Option, Some, None, ◌==◌, cond, subst, sym, refl}
use Rattle.teco_core.specs.declared.code.Code.{Code}
use Rattle.teco_core.specs.declared.code.Code.TheVariants.{Bni, Ill, Pdo, Utc}
use Rattle.teco_core.specs.declared.limits.TheConstants.{BLOCK_LIMIT}
use Rattle.teco_scan.specs.declared.command.Modifiers.{Modifiers}
use Rattle.teco_scan.specs.declared.command.Test.{Test}
use Rattle.teco_scan.specs.declared.command.BlockMark.{BlockMark}
use Rattle.teco_scan.specs.declared.command.BlockMark.TheVariants.{Iterate, EndIteration, Otherwise, EndTest}
use Rattle.teco_scan.specs.declared.blocks.Kind.{Kind}
use Rattle.teco_scan.specs.declared.blocks.Kind.TheVariants.{Iter, Then, Else}
use Rattle.teco_core.specs.declared.profile.Profile.{Profile}
use Rattle.teco_scan.specs.Scan.{Item, Instruction, TokenMeaning, Scanned, found, ended, fault, scan}
use Rattle.teco_scan.specs.Scan as token
use Rattle.teco_scan.specs.Tree.{Nodes, done, item, escape, iter, tag, faulty}
use Rattle.teco_scan.specs.Tree as tree
use Rattle.teco_scan.specs.Lists.{Close, closed, broken, Listed, Lister, behind, past, wrong, put, iter_at, cond_at, at_mark, at_instruction, at_scan, list_within, list_at}
use Rattle.teco_scan.specs.Nesting.{TokensRead, none_read, one_read, order, is_whole, Closes, Nests, done_nests, fault_nests, item_nests, escape_nests, tag_nests, iteration_nests, one_part_nests, two_parts_nest, IsNested}

module _ (profile : Profile) where
  read_on : {bs mid left : List ℕ} {ts us : List TokenMeaning} → TokensRead profile bs ts mid → TokensRead profile mid us left → TokensRead profile bs (ts ++ us) left
  read_on none_read r = r
  read_on (one_read e q) r = one_read e (read_on q r)

-- the mark that closes a list in a block of this kind
abbrev closing : Kind → Bool → BlockMark
closing Iter divided = EndIteration
closing Then true = Otherwise
closing Then false = EndTest
closing Else divided = EndTest

module _ (profile : Profile) where
  -- A list that closes is whole, and its mark is next; the text's own doesn't close. One in a block that is broken has a fault; the
  -- text's own that has none is read to its end.
  abbrev EndsSo : Bool → Close → Option Kind → List ℕ → Type 0
  EndsSo w (closed divided rest) None left = ⊥
  EndsSo w (closed divided rest) (Some k) left = (w ≡ true) × (m : Modifiers) × (scan profile left ≡ found (order m (token.mark (closing k divided))) rest)
  EndsSo w (broken c) None left = w ≡ true → scan profile left ≡ ended
  EndsSo w (broken c) (Some k) left = w ≡ false

  record Front (l : Listed) (k : Option Kind) (bs : List ℕ) : Type 0 where
    tokens : List TokenMeaning
    left : List ℕ
    read : TokensRead profile bs tokens left
    nests : Nests l.0 tokens
    ends : EndsSo (is_whole l.0) l.1 k left

  ends_wrong : (c : Code) (k : Option Kind) (left : List ℕ) → EndsSo false (broken c) k left
  ends_wrong c None left = λ e. cc
  ends_wrong c (Some k) left = refl

  wrong_front : (c : Code) (k : Option Kind) (bs : List ℕ) → Front (wrong c) k bs
  unfolding is_whole
  wrong_front c k bs = record { tokens = []; left = bs; read = none_read; nests = fault_nests; ends = ends_wrong c k bs }

  opened_front : (limit : Bool) (l : Listed) (k : Option Kind) (bs : List ℕ) → Front l k bs → Front (cond limit (wrong Pdo) l) k bs
  opened_front true l k bs f = wrong_front Pdo k bs
  opened_front false l k bs f = f

  module _ (go : Lister) (fronts : (k : Option Kind) (d : ℕ) (bs : List ℕ) → Front (go k d bs) k bs) (k : Option Kind) (d : ℕ) (bs rest : List ℕ) (m : Modifiers) where
    item_front : (i : Item) → scan profile bs ≡ found (order m (token.step i)) rest → Front (put (item m i) (go k d rest)) k bs
    unfolding is_whole
    item_front i e = let f = fronts k d rest in record { tokens = order m (token.step i) ∷ f.tokens; left = f.left; read = one_read e f.read; nests = item_nests f.nests; ends = f.ends }

    escape_front : scan profile bs ≡ found (order m token.escape) rest → Front (put escape (go k d rest)) k bs
    unfolding is_whole
    escape_front e = let f = fronts k d rest in record { tokens = order m token.escape ∷ f.tokens; left = f.left; read = one_read e f.read; nests = escape_nests f.nests; ends = f.ends }

    tag_front : (name : List ℕ) → scan profile bs ≡ found (order m (token.tag name)) rest → Front (put (tag name) (go k d rest)) k bs
    unfolding is_whole
    tag_front name e = let f = fronts k d rest in record { tokens = order m (token.tag name) ∷ f.tokens; left = f.left; read = one_read e f.read; nests = tag_nests f.nests; ends = f.ends }

    iter_front : (body : Nodes) (c : Close) → Front (body, c) (Some Iter) rest → scan profile bs ≡ found (order m (token.mark Iterate)) rest → Front (iter_at go k d (body, c)) k bs
    unfolding is_whole
    iter_front body (closed divided more) f e = let g = fronts k d more in record {
      tokens = order m (token.mark Iterate) ∷ (f.tokens ++ (order f.ends.1 (token.mark EndIteration) ∷ g.tokens));
      left = g.left;
      read = one_read e (read_on profile f.read (one_read f.ends.2 g.read));
      nests = iteration_nests f.tokens g.tokens (order f.ends.1 (token.mark EndIteration) ∷ g.tokens) f.nests g.nests (subst (λ w. Closes w EndIteration g.tokens (order f.ends.1 (token.mark EndIteration) ∷ g.tokens)) (sym f.ends.0) (f.ends.1, refl));
      ends = g.ends;
    }
    iter_front body (broken c) f e = record {
      tokens = order m (token.mark Iterate) ∷ (f.tokens ++ []);
      left = f.left;
      read = one_read e (read_on profile f.read none_read);
      nests = iteration_nests f.tokens [] [] f.nests fault_nests (subst (λ w. Closes w EndIteration [] []) (sym f.ends) (refl, refl));
      ends = ends_wrong c k f.left;
    }

    divided_front : (t : Test) (part : Nodes) (mid : List ℕ) (one : Front (part, closed true mid) (Some Then) rest) (other : Nodes) (c : Close) → Front (other, c) (Some Else) mid
        → scan profile bs ≡ found (order m (token.decide t)) rest → Front (put (tree.cond t part other) (behind go k d (past c))) k bs
    unfolding is_whole
    divided_front t part mid one other (closed divided more) f e = let g = fronts k d more in record {
      tokens = order m (token.decide t) ∷ (one.tokens ++ (order one.ends.1 (token.mark Otherwise) ∷ (f.tokens ++ (order f.ends.1 (token.mark EndTest) ∷ g.tokens))));
      left = g.left;
      read = one_read e (read_on profile one.read (one_read one.ends.2 (read_on profile f.read (one_read f.ends.2 g.read))));
      nests = two_parts_nest one.ends.1 one.tokens f.tokens g.tokens (order f.ends.1 (token.mark EndTest) ∷ g.tokens) one.nests one.ends.0 f.nests g.nests (subst (λ w. Closes w EndTest g.tokens (order f.ends.1 (token.mark EndTest) ∷ g.tokens)) (sym f.ends.0) (f.ends.1, refl));
      ends = g.ends;
    }
    divided_front t part mid one other (broken c) f e = record {
      tokens = order m (token.decide t) ∷ (one.tokens ++ (order one.ends.1 (token.mark Otherwise) ∷ (f.tokens ++ [])));
      left = f.left;
      read = one_read e (read_on profile one.read (one_read one.ends.2 (read_on profile f.read none_read)));
      nests = two_parts_nest one.ends.1 one.tokens f.tokens [] [] one.nests one.ends.0 f.nests fault_nests (subst (λ w. Closes w EndTest [] []) (sym f.ends) (refl, refl));
      ends = ends_wrong c k f.left;
    }

    cond_front : (t : Test) (part : Nodes) (c : Close) → Front (part, c) (Some Then) rest → scan profile bs ≡ found (order m (token.decide t)) rest → Front (cond_at go k d t (part, c)) k bs
    unfolding is_whole
    cond_front t part (closed true mid) f e = let other : Listed = go (Some Else) (suc d) mid in divided_front t part mid f other.0 other.1 (fronts (Some Else) (suc d) mid) e
    cond_front t part (closed false more) f e = let g = fronts k d more in record {
      tokens = order m (token.decide t) ∷ (f.tokens ++ (order f.ends.1 (token.mark EndTest) ∷ g.tokens));
      left = g.left;
      read = one_read e (read_on profile f.read (one_read f.ends.2 g.read));
      nests = one_part_nests f.tokens g.tokens (order f.ends.1 (token.mark EndTest) ∷ g.tokens) f.nests g.nests (subst (λ w. Closes w EndTest g.tokens (order f.ends.1 (token.mark EndTest) ∷ g.tokens)) (sym f.ends.0) (f.ends.1, refl));
      ends = g.ends;
    }
    cond_front t part (broken c) f e = record {
      tokens = order m (token.decide t) ∷ (f.tokens ++ []);
      left = f.left;
      read = one_read e (read_on profile f.read none_read);
      nests = one_part_nests f.tokens [] [] f.nests fault_nests (subst (λ w. Closes w EndTest [] []) (sym f.ends) (refl, refl));
      ends = ends_wrong c k f.left;
    }

  -- A mark that closes the list is next.
  closed_front : (k : Kind) (divided : Bool) (bs rest : List ℕ) (m : Modifiers) → scan profile bs ≡ found (order m (token.mark (closing k divided))) rest → Front (done, closed divided rest) (Some k) bs
  unfolding is_whole
  closed_front k divided bs rest m e = record { tokens = []; left = bs; read = none_read; nests = done_nests; ends = (refl, m, e) }

  module _ (go : Lister) (fronts : (k : Option Kind) (d : ℕ) (bs : List ℕ) → Front (go k d bs) k bs) (d : ℕ) (bs rest : List ℕ) (m : Modifiers) where
    mark_front : (b : BlockMark) (k : Option Kind) → scan profile bs ≡ found (order m (token.mark b)) rest → Front (at_mark go b rest k d) k bs
    mark_front Iterate k e = let body : Listed = go (Some Iter) (suc d) rest in
        opened_front (d == BLOCK_LIMIT) _ k bs (iter_front go fronts k d bs rest m body.0 body.1 (fronts (Some Iter) (suc d) rest) e)
    mark_front EndIteration (Some Iter) e = closed_front Iter false bs rest m e
    mark_front EndIteration (Some Then) e = wrong_front Bni (Some Then) bs
    mark_front EndIteration (Some Else) e = wrong_front Bni (Some Else) bs
    mark_front EndIteration None e = wrong_front Bni None bs
    mark_front Otherwise (Some Then) e = closed_front Then true bs rest m e
    mark_front Otherwise (Some Iter) e = wrong_front Ill (Some Iter) bs
    mark_front Otherwise (Some Else) e = wrong_front Ill (Some Else) bs
    mark_front Otherwise None e = wrong_front Ill None bs
    mark_front EndTest (Some Then) e = closed_front Then false bs rest m e
    mark_front EndTest (Some Else) e = closed_front Else false bs rest m e
    mark_front EndTest (Some Iter) e = wrong_front Ill (Some Iter) bs
    mark_front EndTest None e = wrong_front Ill None bs

    instruction_front : (i : Instruction) (k : Option Kind) → scan profile bs ≡ found (order m i) rest → Front (at_instruction go i m rest k d) k bs
    instruction_front (token.step i) k e = item_front go fronts k d bs rest m i e
    instruction_front (token.mark b) k e = mark_front b k e
    instruction_front (token.decide t) k e = let one : Listed = go (Some Then) (suc d) rest in
        opened_front (d == BLOCK_LIMIT) _ k bs (cond_front go fronts k d bs rest m t one.0 one.1 (fronts (Some Then) (suc d) rest) e)
    instruction_front (token.tag name) k e = tag_front go fronts k d bs rest m name e
    instruction_front token.escape k e = escape_front go fronts k d bs rest m e

  scan_front : (go : Lister) (fronts : (k : Option Kind) (d : ℕ) (bs : List ℕ) → Front (go k d bs) k bs) (k : Option Kind) (d : ℕ) (bs : List ℕ) (s : Scanned) → scan profile bs ≡ s → Front (at_scan go s k d) k bs
  scan_front go fronts None d bs ended e = record { tokens = []; left = bs; read = none_read; nests = done_nests; ends = λ w. e }
  scan_front go fronts (Some k) d bs ended e = wrong_front Utc (Some k) bs
  scan_front go fronts k d bs (fault c) e = wrong_front c k bs
  scan_front go fronts k d bs (found t rest) e = instruction_front go fronts d bs rest t.modifiers t.instruction k e

  front : (n : ℕ) (k : Option Kind) (d : ℕ) (bs : List ℕ) → Front (list_within profile n k d bs) k bs
  unfolding list_within
  front zero k d bs = wrong_front Utc k bs
  front (suc n) k d bs = scan_front (list_within profile n) (front n) k d bs (scan profile bs) refl

  ends_broken : (w : Bool) (x : Close) (k : Kind) (left : List ℕ) (c : Code) → EndsSo w x (Some k) left → x ≡ broken c → w ≡ false
  ends_broken w (broken c) k left code e is = e
  ends_broken w (closed divided rest) k left code e is = absurd cc

  -- A list in a block that is broken isn't whole.
  pub broken_whole : (k : Kind) (d : ℕ) (bs : List ℕ) (c : Code) → (list_at profile (Some k) d bs).1 ≡ broken c → is_whole (list_at profile (Some k) d bs).0 ≡ false
  unfolding list_at
  broken_whole k d bs c is = let f = front (suc (length bs)) (Some k) d bs in ends_broken _ _ k f.left c f.ends is

  ends_whole : (w : Bool) (c : Close) (left : List ℕ) → EndsSo w c None left → w ≡ true → scan profile left ≡ ended
  ends_whole w (broken c) left e whole = e whole
  ends_whole w (closed divided rest) left e whole = absurd e

  pub nested : (bs : List ℕ) → IsNested profile bs
  unfolding list_at
  nested bs = let f = front (suc (length bs)) None 0 bs in record {
    tokens = f.tokens;
    left = f.left;
    read = f.read;
    nests = f.nests;
    whole = ends_whole _ _ f.left f.ends;
  }
