-- How a list of a text breaks, from a place in it on: a rule for each fault, and one for each way to come to it.
use Rattle.std.proofs.Common.{◌≡◌, ◌≢◌, ℕ, ◌+◌, ◌<◌, ◌≤◌, Bool, true, false, List, [], ◌∷◌, length, drop, Option, Some, None, Ok, Err, cond as choose, refl, sym, ap, ◌∙◌, subst, arith}
use Rattle.std.proofs.lemmas.Bool.{eq-eqb}
use Rattle.teco_core.specs.declared.code.Code.{Code}
use Rattle.teco_core.specs.declared.code.Code.TheVariants.{Bni, Ill, Pdo, Utc}
use Rattle.teco_scan.specs.declared.blocks.Kind.{Kind}
use Rattle.teco_scan.specs.declared.blocks.Kind.TheVariants.{Iter, Then, Else}
use Rattle.teco_scan.specs.declared.breaks.ListFault.{ListFault}
use Rattle.teco_scan.specs.declared.breaks.ListAt.{ListAt}
use Rattle.teco_scan.specs.declared.command.BlockMark.{BlockMark}
use Rattle.teco_scan.specs.declared.command.BlockMark.TheVariants.{Iterate, EndIteration, Otherwise, EndTest}
use Rattle.teco_scan.specs.Breaks.{Breaks, IsTokenPlace, by_spelling, fault_at, inside_list, opening}
use Rattle.teco_scan.specs.Lists.{Close, closed, broken, past, behind_block, second, list_at}
use Rattle.teco_scan.specs.Lists as lists
use Rattle.teco_core.specs.declared.profile.Profile.{Profile}
use Rattle.teco_scan.specs.Scan.{Instruction, Scanned, TokenMeaning, found, ended, fault, scan, scan_here, scanned, after_fillers, Reading}
use Rattle.teco_scan.specs.Scan as token
use Rattle.teco_scan.specs.Skip.{closing_mark, opened_kind}
use Rattle.teco_scan.specs.Walk.{OpenList, place, in_block, at_mark, at_end, at_instruction, at_scan}
use Rattle.teco_scan.proofs.SkipSteps.{closing_is}
use Rattle.teco_scan.proofs.WalkUnrolls.{place_is, scanned_at, block_opens}
use Rattle.teco_scan.proofs.WalkMeets.{Meets, after_close, block_list, go, meets}

-- where the scan comes to the end, no byte is left
none_scanned : (r : Reading TokenMeaning) → scanned r ≡ ended → ⊥
none_scanned (Ok t) e = cc
none_scanned (Err c) e = cc

module _ (profile : Profile) where
  none_here : (bs : List ℕ) → scan_here profile bs ≡ ended → bs ≡ []
  none_here [] e = refl
  none_here (b ∷ bs) e = absurd (none_scanned _ e)

  none_left : (bs : List ℕ) → scan profile bs ≡ ended → after_fillers bs ≡ []
  unfolding scan
  none_left bs e = none_here (after_fillers bs) e

  module _ (text : List ℕ) where
    -- a list, wherever its block opens
    abbrev as_open : ListAt → ℕ → OpenList
    as_open list opens = record { kind = list.kind; opening = opens; start = list.start }

    opens_block : (i : Instruction) (kind : Kind) (at : ℕ) (o : OpenList) (os : List OpenList) (more : List ℕ) → opened_kind i ≡ Some kind
        → at_instruction by_spelling (go profile text) text i at o os more ≡ in_block by_spelling (go profile text) text kind at o os more
    opens_block (token.mark Iterate) kind at o os more e = let same : Iter ≡ kind = cc in ap (λ k. in_block by_spelling (go profile text) text k at o os more) same
    opens_block (token.decide t) kind at o os more e = let same : Then ≡ kind = cc in ap (λ k. in_block by_spelling (go profile text) text k at o os more) same
    opens_block (token.step i) kind at o os more e = absurd cc
    opens_block (token.mark EndIteration) kind at o os more e = absurd cc
    opens_block (token.mark Otherwise) kind at o os more e = absurd cc
    opens_block (token.mark EndTest) kind at o os more e = absurd cc
    opens_block (token.tag name) kind at o os more e = absurd cc
    opens_block token.escape kind at o os more e = absurd cc

    passes_token : (i : Instruction) (at : ℕ) (o : OpenList) (os : List OpenList) (more : List ℕ) → opened_kind i ≡ None → closing_mark i ≡ None
        → at_instruction by_spelling (go profile text) text i at o os more ≡ go profile text o os more
    passes_token (token.step i) at o os more opens closes = refl
    passes_token (token.mark Iterate) at o os more opens closes = absurd cc
    passes_token (token.mark EndIteration) at o os more opens closes = absurd cc
    passes_token (token.mark Otherwise) at o os more opens closes = absurd cc
    passes_token (token.mark EndTest) at o os more opens closes = absurd cc
    passes_token (token.decide t) at o os more opens closes = absurd cc
    passes_token (token.tag name) at o os more opens closes = refl
    passes_token token.escape at o os more opens closes = refl

    is_stray : (mark : BlockMark) (kind : Option Kind) (d at : ℕ) (o : OpenList) (os : List OpenList) (more : List ℕ) (code : Code) → mark ≢ Iterate
        → (lists.at_mark (list_at profile) mark more kind d).1 ≡ broken code → at_mark by_spelling (go profile text) text mark kind at o os more ≡ Some (fault_at at code)
    is_stray Iterate kind d at o os more code ne e = absurd (ne refl)
    is_stray EndIteration (Some Iter) d at o os more code ne e = absurd cc
    is_stray EndIteration (Some Then) d at o os more code ne e = let same : Bni ≡ code = cc in ap (λ c. Some (fault_at at c)) same
    is_stray EndIteration (Some Else) d at o os more code ne e = let same : Bni ≡ code = cc in ap (λ c. Some (fault_at at c)) same
    is_stray EndIteration None d at o os more code ne e = let same : Bni ≡ code = cc in ap (λ c. Some (fault_at at c)) same
    is_stray Otherwise (Some Iter) d at o os more code ne e = let same : Ill ≡ code = cc in ap (λ c. Some (fault_at at c)) same
    is_stray Otherwise (Some Then) d at o os more code ne e = absurd cc
    is_stray Otherwise (Some Else) d at o os more code ne e = let same : Ill ≡ code = cc in ap (λ c. Some (fault_at at c)) same
    is_stray Otherwise None d at o os more code ne e = let same : Ill ≡ code = cc in ap (λ c. Some (fault_at at c)) same
    is_stray EndTest (Some Iter) d at o os more code ne e = let same : Ill ≡ code = cc in ap (λ c. Some (fault_at at c)) same
    is_stray EndTest (Some Then) d at o os more code ne e = absurd cc
    is_stray EndTest (Some Else) d at o os more code ne e = absurd cc
    is_stray EndTest None d at o os more code ne e = let same : Ill ≡ code = cc in ap (λ c. Some (fault_at at c)) same

    -- a list that closes is walked through, and out of it or into the second part
    pub passes : (kind : Kind) (d opening start : ℕ) (os : List OpenList) (bs : List ℕ) (divided : Bool) (rest : List ℕ) → length os ≡ d → (list_at profile (Some kind) d bs).1 ≡ closed divided rest
        → go profile text (block_list kind opening start) os bs ≡ after_close profile text kind divided opening os rest
    passes kind d opening start os bs divided rest long e =
        subst (λ c. Meets profile text kind opening os (go profile text (block_list kind opening start) os bs) c) (ap (λ n. (list_at profile (Some kind) n bs).1) long ∙ e) (meets profile text kind opening start os bs)

    past_list : (kind : Kind) (opening : ℕ) (o : OpenList) (os : List OpenList) (r : Option ListFault) (c : Close) (rest : List ℕ) → kind ≢ Then → Meets profile text kind opening (o ∷ os) r c → past c ≡ Ok rest
        → r ≡ go profile text o os rest
    past_list Then opening o os r c rest ne h e = absurd (ne refl)
    past_list Iter opening o os r (closed divided bs) rest ne h e = let same : bs ≡ rest = cc in h ∙ ap (λ x. go profile text o os x) same
    past_list Iter opening o os r (broken code) rest ne h e = absurd cc
    past_list Else opening o os r (closed divided bs) rest ne h e = let same : bs ≡ rest = cc in h ∙ ap (λ x. go profile text o os x) same
    past_list Else opening o os r (broken code) rest ne h e = absurd cc

    past_both : (opening : ℕ) (o : OpenList) (os : List OpenList) (r : Option ListFault) (c : Close) (rest : List ℕ) → Meets profile text Then opening (o ∷ os) r c
        → past (second (list_at profile) (length (o ∷ os)) c).1 ≡ Ok rest → r ≡ go profile text o os rest
    past_both opening o os r (closed true bs) rest h e =
        h ∙ past_list Else opening o os _ (list_at profile (Some Else) (length (o ∷ os)) bs).1 rest (λ same. cc) (meets profile text Else opening (place text bs) (o ∷ os) bs) e
    past_both opening o os r (closed false bs) rest h e = let same : bs ≡ rest = cc in h ∙ ap (λ x. go profile text o os x) same
    past_both opening o os r (broken code) rest h e = absurd cc

    -- a whole block is walked through
    pub passes_block : (kind : Kind) (opening start : ℕ) (o : OpenList) (os : List OpenList) (bs rest : List ℕ)
        → behind_block (list_at profile) kind (length (o ∷ os)) (list_at profile (Some kind) (length (o ∷ os)) bs).1 ≡ Ok rest
        → go profile text (block_list kind opening start) (o ∷ os) bs ≡ go profile text o os rest
    passes_block Iter opening start o os bs rest e = past_list Iter opening o os _ (list_at profile (Some Iter) (length (o ∷ os)) bs).1 rest (λ same. cc) (meets profile text Iter opening start (o ∷ os) bs) e
    passes_block Then opening start o os bs rest e = past_both opening o os _ (list_at profile (Some Then) (length (o ∷ os)) bs).1 rest (meets profile text Then opening start (o ∷ os) bs) e
    passes_block Else opening start o os bs rest e = past_list Else opening o os _ (list_at profile (Some Else) (length (o ∷ os)) bs).1 rest (λ same. cc) (meets profile text Else opening start (o ∷ os) bs) e

  module _ (text : List ℕ) (at : ℕ) where
    -- the place of what is scanned
    abbrev begins : ℕ
    begins = place text (after_fillers (drop at text))

    begins_at : (to : ℕ) → IsTokenPlace text at to → begins ≡ to
    begins_at to h = place_is text (after_fillers (drop at text)) to h.within h.rest

    -- from what was scanned
    from_scan : (list : ListAt) (s : Scanned) (opens : ℕ) (around : List OpenList) → scan profile (drop at text) ≡ s
        → go profile text (as_open text list opens) around (drop at text) ≡ at_scan by_spelling (go profile text) text s begins (as_open text list opens) around
    from_scan list s opens around e = scanned_at profile ListFault by_spelling text (drop at text) (as_open text list opens) around s begins (sym e) refl

    -- where a block is opened, the walk is in its list
    from_block : (list : ListAt) (opens : ℕ) (around : List OpenList) (t : TokenMeaning) (kind : Kind) (start : ℕ) → scan profile (drop at text) ≡ found t (drop start text) → start ≤ length text
        → opened_kind t.instruction ≡ Some kind → list.depth < 64 → length around ≡ list.depth
        → go profile text (as_open text list opens) around (drop at text) ≡ go profile text (block_list kind begins start) (as_open text list opens ∷ around) (drop start text)
    from_block list opens around t kind start e inside is lt long =
        from_scan list (found t (drop start text)) opens around e
        ∙ opens_block text t.instruction kind begins (as_open text list opens) around (drop start text) is
        ∙ block_opens profile ListFault by_spelling text (go profile text) kind begins (as_open text list opens) around start (λ deep. omega (arith, lt, long, deep)) inside

  module _ {text : List ℕ} {list : ListAt} {at : ℕ} where
    -- The text ends inside a block.
    pub ends_inside : (kind : Kind) → list.kind ≡ Some kind → scan profile (drop at text) ≡ ended
        → Breaks profile text list at (record { at = length text; opened = Some (opening kind list.start); code = Utc })
    ends_inside kind is e = record {
      walked = λ opens around long.
          from_scan text at list ended opens around e
          ∙ ap (λ (n : ℕ). at_end by_spelling list.kind n (as_open text list opens)) (ap (λ bs. place text bs) (none_left (drop at text) e) ∙ omega arith)
          ∙ ap (λ k. at_end by_spelling k (length text) (record { kind = k; opening = opens; start = list.start })) is;
    }

    -- No token (begins text at) here.
    pub no_token : {to : ℕ} {code : Code} → IsTokenPlace text at to → scan profile (drop at text) ≡ fault code → Breaks profile text list at (fault_at to code)
    no_token {code = code} here e = record { walked = λ opens around long. from_scan text at list (fault code) opens around e ∙ ap (λ (n : ℕ). Some (fault_at n code)) (begins_at text at _ here) }

    -- The mark here ends or divides no such block.
    pub stray_mark : {more : List ℕ} {to : ℕ} {code : Code} {t : TokenMeaning} (mark : BlockMark) → IsTokenPlace text at to → scan profile (drop at text) ≡ found t more
        → closing_mark t.instruction ≡ Some mark → (lists.at_mark (list_at profile) mark more list.kind list.depth).1 ≡ broken code → Breaks profile text list at (fault_at to code)
    stray_mark {more = more} {code = code} {t = t} mark here e is breaks = record {
      walked = λ opens around long.
          let closes = closing_is t.instruction mark (sym is) in
          from_scan text at list (found t more) opens around e
          ∙ ap (λ i. at_instruction by_spelling (go profile text) text i (begins text at) (as_open text list opens) around more) closes.0
          ∙ is_stray text mark list.kind list.depth (begins text at) (as_open text list opens) around more code closes.1 breaks
          ∙ ap (λ (n : ℕ). Some (fault_at n code)) (begins_at text at _ here);
    }

    -- One block too many opens here.
    pub too_deep : {more : List ℕ} {to : ℕ} {t : TokenMeaning} (kind : Kind) → IsTokenPlace text at to → scan profile (drop at text) ≡ found t more → opened_kind t.instruction ≡ Some kind
        → list.depth ≡ 64 → Breaks profile text list at (fault_at to Pdo)
    too_deep {more = more} {t = t} kind here e is deep = record {
      walked = λ opens around long.
          from_scan text at list (found t more) opens around e
          ∙ opens_block text t.instruction kind (begins text at) (as_open text list opens) around more is
          ∙ ap (λ (b : Bool). choose b (Some (fault_at (begins text at) Pdo)) (go profile text (block_list kind (begins text at) (place text more)) (as_open text list opens ∷ around) more)) (eq-eqb (length around) 64 (long ∙ deep))
          ∙ ap (λ (n : ℕ). Some (fault_at n Pdo)) (begins_at text at _ here);
    }

    -- The fault is in the first list of a block that opens here,
    pub in_first_list : {start : ℕ} {there : ListFault} {t : TokenMeaning} (kind : Kind) → scan profile (drop at text) ≡ found t (drop start text) → start ≤ length text
        → opened_kind t.instruction ≡ Some kind → list.depth < 64 → Breaks profile text (inside_list list kind start) start there → Breaks profile text list at there
    in_first_list {start = start} {t = t} kind e inside is lt b = record {
      walked = λ opens around long.
          from_block text at list opens around t kind start e inside is lt long ∙ b.walked (begins text at) (as_open text list opens ∷ around) (omega (arith, long));
    }

    -- or in the second part of a conditional that begins here.
    pub in_second_part : {start : ℕ} {there : ListFault} {t : TokenMeaning} (to : ℕ) → to ≤ length text → scan profile (drop at text) ≡ found t (drop to text) → start ≤ length text
        → opened_kind t.instruction ≡ Some Then → list.depth < 64 → (list_at profile (Some Then) (list.depth + 1) (drop to text)).1 ≡ closed true (drop start text)
        → Breaks profile text (inside_list list Else start) start there → Breaks profile text list at there
    in_second_part {start = start} {t = t} to first e inside is lt one b = record {
      walked = λ opens around long.
          let more : length (as_open text list opens ∷ around) ≡ list.depth + 1 = omega (arith, long) in
          from_block text at list opens around t Then to e first is lt long
          ∙ passes text Then (list.depth + 1) (begins text at) to (as_open text list opens ∷ around) (drop to text) true (drop start text) more one
          ∙ ap (λ (n : ℕ). go profile text (block_list Else (begins text at) n) (as_open text list opens ∷ around) (drop start text)) (place_is text (drop start text) start inside refl)
          ∙ b.walked (begins text at) (as_open text list opens ∷ around) more;
    }

    -- The fault comes after this token, which is none of a block,
    pub after_token : {next : ℕ} {there : ListFault} {t : TokenMeaning} → scan profile (drop at text) ≡ found t (drop next text) → opened_kind t.instruction ≡ None → closing_mark t.instruction ≡ None
        → Breaks profile text list next there → Breaks profile text list at there
    after_token {next = next} {t = t} e opens closes b = record {
      walked = λ place_of around long.
          from_scan text at list (found t (drop next text)) place_of around e
          ∙ passes_token text t.instruction (begins text at) (as_open text list place_of) around (drop next text) opens closes
          ∙ b.walked place_of around long;
    }

    -- or after the whole block that opens here.
    pub after_block : {next : ℕ} {there : ListFault} {t : TokenMeaning} (kind : Kind) (to : ℕ) → to ≤ length text → scan profile (drop at text) ≡ found t (drop to text)
        → opened_kind t.instruction ≡ Some kind → list.depth < 64
        → behind_block (list_at profile) kind (list.depth + 1) (list_at profile (Some kind) (list.depth + 1) (drop to text)).1 ≡ Ok (drop next text)
        → Breaks profile text list next there → Breaks profile text list at there
    after_block {next = next} {t = t} kind to inside e is lt whole b = record {
      walked = λ opens around long.
          let more : length (as_open text list opens ∷ around) ≡ list.depth + 1 = omega (arith, long) in
          from_block text at list opens around t kind to e inside is lt long
          ∙ passes_block text kind (begins text at) to (as_open text list opens) around (drop to text) (drop next text)
          (ap (λ (n : ℕ). behind_block (list_at profile) kind n (list_at profile (Some kind) n (drop to text)).1) more ∙ whole)
          ∙ b.walked opens around long;
    }
