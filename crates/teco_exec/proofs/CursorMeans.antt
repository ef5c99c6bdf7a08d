-- The moves of a cursor: what uses no step means nothing, and the steps of blocks mean what the machine does.
use Rattle.std.proofs.Common.{arith, ◌≡◌, ℕ, zero, suc, Bool, true, false, List, [], ◌∷◌, length, Option, Some, None, Ok, Err, refl, sym, ap, ◌∙◌, Result, subst, if◌then◌else◌, ℤ}
use Rattle.teco_core.specs.declared.code.Code.{Code}
use Rattle.teco_core.specs.declared.code.Code.TheVariants.{Lim, Naq, Utc, Arg}
use Rattle.teco_core.specs.Arguments.{Arguments, no_arguments, taken_from}
use Rattle.teco_scan.specs.declared.command.Modifiers.{Modifiers}
use Rattle.teco_scan.specs.declared.blocks.Kind.{Kind}
use Rattle.teco_scan.specs.declared.blocks.Kind.TheVariants.{Iter, Then}
use Rattle.teco_core.specs.declared.profile.Profile.{Profile}
use Rattle.teco_scan.specs.Scan.{Item, Scanned, scan}
use Rattle.teco_scan.specs.Tree.{Nodes, done, item, escape, iter, cond, tag}
use Rattle.teco_scan.specs.declared.command.Test.{Test}
use Rattle.teco_step.specs.declared.next.Work.{Work}
use Rattle.teco_step.specs.Step.{End, on, stop, takes_one, leave}
use Rattle.teco_exec.specs.World.{World, WorldAndEnd, pay, pay_from}
use Rattle.teco_exec.specs.Meaning.{then_rest, run_step, run_iteration, run_conditional, first_setting, leave_comes, list_by, meaning, after_part, run_turn, turns_of, turns_by}
use Rattle.teco_scan.specs.Lists.{Close, closed, broken, Past, past, Listed, wrong, behind_block, put, second, at_scan, list_at}
use Rattle.teco_scan.specs.ListLaws.{BlockLaws}
use Rattle.teco_exec.specs.CursorMoves.{Frame, Cursor, CursorOrError, Coming, passed_to, step_comes, block_comes, end_comes, fault_comes, BlockStep, innermost_kind, inside_iteration, leave_is_next, after_skip, after_block_end, passed_or_fault, pass_opening, pass_mark, pass_instruction, pass_scanned, pass, inside_block, after_counted_start, after_iteration_start, next_turn_or_end, inside_second_part, inside_chosen_part, after_leaving_block, after_leaving_iteration}
use Rattle.teco_exec.specs.Machine.{Caller, Final, setting_of}
use Rattle.teco_exec.specs.CursorMoves as machine
use Rattle.teco_exec.proofs.Sentences.{unrolls}
use Rattle.teco_exec.proofs.Passing.{at, IsPart, Passes, text_ends, faults, item_comes, tag_passes, escape_passes, iteration_opens, conditional_opens, turn_ends, part_ends, part_faults, passes}
use Rattle.teco_exec.proofs.Denoting.{after, here, whole, block_end, follows, around, goes_on, finals, under, after_iteration, after_conditional, Fits, FitsMoved}
use Rattle.teco_core.specs.declared.arguments.Taken.{Taken}
use Rattle.teco_core.specs.declared.arguments.Taken.TheVariants as taken
use Rattle.teco_exec.specs.Test.{holds}

module _ (profile : Profile) where
  -- an error goes through all
  module _ (text : List ℕ) (depth : ℕ) (w : World) (c : Code) where
    block_end_stop : (k : Kind) (left : Option ℕ) (n : Nodes) → block_end profile k left n depth w (stop c) ≡ (w, stop c)
    unfolding block_end
    block_end_stop k left n = grind arith

    pub around_stop : (bs : List Frame) (l : Close) → around profile text depth bs l w (stop c) ≡ (w, stop c)
    unfolding around
    around_stop [] l = refl
    around_stop (b ∷ bs) l =
        ap (λ (q : WorldAndEnd). goes_on profile text depth bs (follows profile b.kind bs l) q.0 q.1) (block_end_stop b.kind b.left (whole profile text (b ∷ bs)))
        ∙ around_stop bs (follows profile b.kind bs l).1

  pub under_stop : (cs : List Caller) (w : World) (c : Code) → under profile cs w (stop c) ≡ finals w (stop c)
  unfolding under
  under_stop [] w c = refl
  under_stop (b ∷ bs) w c = ap (λ (r : WorldAndEnd). under profile bs r.0 r.1) (around_stop b.text (length bs) w c b.blocks (here profile b.blocks b.left).1) ∙ under_stop bs w c

  module _ (text : List ℕ) (cs : List Caller) (w : World) where
    -- a world with other arguments
    abbrev pub given : Arguments → World
    given a = record w { arguments = a }

    -- where a list in these blocks goes on
    abbrev pub from : List Frame → Listed → World → End → Final
    from bs l v e = let r : WorldAndEnd = goes_on profile text (length cs) bs l v e in under profile cs r.0 r.1

    abbrev pub at_cursor : Cursor → Final
    at_cursor c = from c.blocks (here profile c.blocks c.left) (given c.args) on

    -- a step of a token; the cursor is after it
    abbrev pub at_step : Modifiers → Item → Option Work → Cursor → Final
    at_step m i work c = let r : WorldAndEnd = pay (given c.args) (λ v. run_step meaning i (setting_of profile m work c) v (length cs)) in from c.blocks (here profile c.blocks c.left) r.0 r.1

    abbrev pub at_iteration : List ℕ → Cursor → Final
    at_iteration bs c =
        let body : Listed = list_at profile (Some Iter) (suc (length c.blocks)) bs in
        let r : WorldAndEnd = pay (given c.args) (λ v. run_iteration meaning body.0 v (length cs) (taken_from v.arguments)) in
        from c.blocks (after profile c.blocks (past body.1)) r.0 r.1

    abbrev pub at_conditional : Test → List ℕ → Cursor → Final
    at_conditional t bs c =
        let one : Listed = list_at profile (Some Then) (suc (length c.blocks)) bs in
        let other : Listed = second (list_at profile) (suc (length c.blocks)) one.1 in
        let r : WorldAndEnd = pay (given c.args) (λ v. run_conditional meaning t one.0 other.0 v (length cs) (inside_iteration c.blocks) (takes_one Naq v.arguments)) in
        from c.blocks (after profile c.blocks (past other.1)) r.0 r.1

    abbrev pub at_turn_end : List ℕ → Cursor → Final
    at_turn_end bs c = let r : WorldAndEnd = around profile text (length cs) c.blocks (closed false bs) (given c.args) on in under profile cs r.0 r.1

    abbrev pub at_block_step : BlockStep → List ℕ → Cursor → Final
    at_block_step machine.iterates bs c = at_iteration bs c
    at_block_step machine.ends_turn bs c = at_turn_end bs c
    at_block_step (machine.decides t) bs c = at_conditional t bs c

    -- what comes next, by what it means
    abbrev pub coming_means : Cursor → Coming → Final
    coming_means c (passed_to d) = at_cursor d
    coming_means c (step_comes m i d) = at_step m i None d
    coming_means c (block_comes b bs) = at_block_step b bs c
    coming_means c end_comes = under profile cs (given c.args) on
    coming_means c (fault_comes e) = finals (given c.args) (stop e)

    -- the list from here on, known
    pub list_means : (bs : List Frame) (l : Listed) (v : World) → from bs l v on ≡ (let r : WorldAndEnd = list_by meaning (whole profile text bs) l.0 v (length cs) (inside_iteration bs) in let q : WorldAndEnd = around profile text (length cs) bs l.1 r.0 r.1 in under profile cs q.0 q.1)
    list_means bs l v = ap (λ (r : WorldAndEnd). let q : WorldAndEnd = around profile text (length cs) bs l.1 r.0 r.1 in under profile cs q.0 q.1) (unrolls.list (whole profile text bs) l.0 v (length cs) (inside_iteration bs))

    pub wrong_means : (bs : List Frame) (e : Code) (v : World) → from bs (wrong e) v on ≡ finals v (stop e)
    unfolding list_by
    wrong_means bs e v = list_means bs (wrong e) v ∙ ap (λ (q : WorldAndEnd). under profile cs q.0 q.1) (around_stop text (length cs) v e bs (broken e)) ∙ under_stop cs v e

    pub done_means : (bs : List Frame) (l : Close) (v : World) → from bs (done, l) v on ≡ (let q : WorldAndEnd = around profile text (length cs) bs l v on in under profile cs q.0 q.1)
    unfolding list_by
    done_means bs l v = list_means bs (done, l) v

-- what is paid for goes on
pub pay_then : (n : ℕ) (v : World) (act : World → WorldAndEnd) (f : World → End → WorldAndEnd) → f v (stop Lim) ≡ (v, stop Lim)
    → pay_from n v (λ u. let r : WorldAndEnd = act u in f r.0 r.1) ≡ (let r : WorldAndEnd = pay_from n v act in f r.0 r.1)
pay_then n v act f h = grind arith

module _ (profile : Profile) where
  -- whether `;` comes next
  leave_at : (s : Scanned) (k : Option Kind) (d : ℕ) → leave_comes (at_scan (list_at profile) s k d).0 ≡ leave_is_next s
  leave_at s k d = grind arith

  pub leave_same : (laws : BlockLaws profile) (k : Option Kind) (d : ℕ) (bs : List ℕ) → leave_comes (list_at profile k d bs).0 ≡ leave_is_next (scan profile bs)
  leave_same laws k d bs = ap (λ (l : Listed). leave_comes l.0) (laws.list_unrolls k d bs) ∙ leave_at (scan profile bs) k d

  module _ (laws : BlockLaws profile) (text : List ℕ) (cs : List Caller) (w : World) where
    -- what the list in the blocks of a cursor means
    abbrev listed : Cursor → Listed → Final
    listed c l = from profile text cs w c.blocks l (given profile text cs w c.args) on

    -- a node that pays for what it does
    node_pass : (c : Cursor) (n : Nodes) (l : Listed) (act : World → WorldAndEnd)
        → list_by meaning (whole profile text c.blocks) n (given profile text cs w c.args) (length cs) (inside_iteration c.blocks) ≡ pay (given profile text cs w c.args) (λ v. let r : WorldAndEnd = act v in then_rest meaning (whole profile text c.blocks) l.0 (length cs) (inside_iteration c.blocks) r.0 r.1)
        → listed c (n, l.1) ≡ (let r : WorldAndEnd = pay (given profile text cs w c.args) act in from profile text cs w c.blocks l r.0 r.1)
    node_pass c n l act is =
        list_means profile text cs w c.blocks (n, l.1) (given profile text cs w c.args)
        ∙ ap (λ (r : WorldAndEnd). let q : WorldAndEnd = around profile text (length cs) c.blocks l.1 r.0 r.1 in under profile cs q.0 q.1) (is ∙ pay_then w.fuel (given profile text cs w c.args) act (then_rest meaning (whole profile text c.blocks) l.0 (length cs) (inside_iteration c.blocks)) refl)

    part_over : (b : Frame) (outer : List Frame) (a : Arguments) (k : Kind) → IsPart k → block_end profile k b.left (whole profile text (b ∷ outer)) (length cs) (given profile text cs w a) on ≡ (given profile text cs w no_arguments, on)
    unfolding block_end
    part_over b outer a Iter part = absurd part
    part_over b outer a k part = refl

    part_pass : (a : Arguments) (left : List ℕ) (b : Frame) (outer : List Frame) (l : Close) (x : Past) → IsPart b.kind → behind_block (list_at profile) b.kind (suc (length outer)) l ≡ x
        → listed (at a left (b ∷ outer)) (done, l) ≡ from profile text cs w outer (after profile outer x) (given profile text cs w no_arguments) on
    unfolding around
    part_pass a left b outer l x part is =
        done_means profile text cs w (b ∷ outer) l (given profile text cs w a)
        ∙ ap (λ (q : WorldAndEnd). from profile text cs w outer (follows profile b.kind outer l) q.0 q.1) (part_over b outer a b.kind part)
        ∙ ap (λ x. from profile text cs w outer (after profile outer x) (given profile text cs w no_arguments) on) is

    passed : {c : Cursor} {l : Listed} {k : Coming} → Passes profile c l k → listed c l ≡ coming_means profile text cs w c k
    unfolding list_by around
    passed (text_ends a left) = done_means profile text cs w [] (broken Utc) (given profile text cs w a)
    passed (faults c e f) = wrong_means profile text cs w c.blocks e (given profile text cs w c.args)
    passed (item_comes c m i bs) =
        let l : Listed = here profile c.blocks bs in
        node_pass c (item m i l.0) l (λ v. run_step meaning i (first_setting m (inside_iteration c.blocks) (leave_comes l.0)) v (length cs)) refl
        ∙ ap (λ b. let r : WorldAndEnd = pay (given profile text cs w c.args) (λ v. run_step meaning i (first_setting m (inside_iteration c.blocks) b) v (length cs)) in from profile text cs w c.blocks l r.0 r.1) (leave_same laws (innermost_kind c.blocks) (length c.blocks) bs)
    passed (tag_passes c name bs lt) = list_means profile text cs w c.blocks (put (tag name) (here profile c.blocks bs)) (given profile text cs w c.args) ∙ sym (list_means profile text cs w c.blocks (here profile c.blocks bs) (given profile text cs w c.args))
    passed (escape_passes c bs lt) = list_means profile text cs w c.blocks (put escape (here profile c.blocks bs)) (given profile text cs w c.args) ∙ sym (list_means profile text cs w c.blocks (here profile c.blocks bs) (given profile text cs w no_arguments))
    passed (iteration_opens c bs) =
        let body : Listed = list_at profile (Some Iter) (suc (length c.blocks)) bs in
        let l : Listed = after profile c.blocks (past body.1) in
        node_pass c (iter body.0 l.0) l (λ v. run_iteration meaning body.0 v (length cs) (taken_from v.arguments)) refl
    passed (conditional_opens c t bs) =
        let one : Listed = list_at profile (Some Then) (suc (length c.blocks)) bs in
        let other : Listed = second (list_at profile) (suc (length c.blocks)) one.1 in
        let l : Listed = after profile c.blocks (past other.1) in
        node_pass c (cond t one.0 other.0 l.0) l (λ v. run_conditional meaning t one.0 other.0 v (length cs) (inside_iteration c.blocks) (takes_one Naq v.arguments)) refl
    passed (turn_ends a left start turns outer bs) = done_means profile text cs w (record { kind = Iter; start = start; left = turns } ∷ outer) (closed false bs) (given profile text cs w a)
    passed (part_ends a left b outer l bs part is lt) = part_pass a left b outer l (Ok bs) part is
    passed (part_faults a left b outer l e part is f) = part_pass a left b outer l (Err e) part is ∙ wrong_means profile text cs w outer e (given profile text cs w no_arguments)

  -- Passing what uses no step means nothing.
  pub pass_means : (laws : BlockLaws profile) (text : List ℕ) (cs : List Caller) (w : World) (c : Cursor) → at_cursor profile text cs w c ≡ coming_means profile text cs w c (pass profile c)
  pass_means laws text cs w c = passed laws text cs w (passes profile laws c)

  module _ (text : List ℕ) (cs : List Caller) (w : World) where
    -- what a cursor that goes on, or an error, means
    abbrev pub moved_means : CursorOrError → Final
    moved_means (Ok c) = at_cursor profile text cs w c
    moved_means (Err e) = finals w (stop e)

    pub stop_means : (bs : List Frame) (l : Listed) (v : World) (e : Code) → from profile text cs w bs l v (stop e) ≡ finals v (stop e)
    stop_means bs l v e = ap (λ (q : WorldAndEnd). under profile cs q.0 q.1) (around_stop profile text (length cs) v e bs l.1) ∙ under_stop profile cs v e

    -- A run means the move that it leads to, after which what is after the blocks is still the same.
    abbrev pub MeansMove : Final → CursorOrError → Type 0
    MeansMove f m = (f ≡ moved_means m) × FitsMoved profile m

    skip_leads : (bs : List Frame) (left : List ℕ) (x : Past) → Fits profile bs (after profile bs x).1 → MeansMove (from profile text cs w bs (after profile bs x) (given profile text cs w no_arguments) on) (after_skip x (record { args = no_arguments; left = left; blocks = bs }))
    skip_leads bs left (Ok more) f = (refl, f)
    skip_leads bs left (Err e) f = (wrong_means profile text cs w bs e (given profile text cs w no_arguments), tt)

    -- a turn of an iteration
    turn_means : (left : Option ℕ) (start : List ℕ) (bs : List Frame) → (let b : Frame = record { kind = Iter; start = start; left = left } in
        let r : WorldAndEnd = run_turn meaning left (whole profile text (b ∷ bs)) (given profile text cs w no_arguments) (length cs) in
        from profile text cs w bs (follows profile Iter bs (here profile (b ∷ bs) start).1) r.0 r.1 ≡ at_cursor profile text cs w (record { args = no_arguments; left = start; blocks = b ∷ bs }))
    unfolding around block_end inside_iteration
    turn_means left start bs = let b : Frame = record { kind = Iter; start = start; left = left } in
        sym (list_means profile text cs w (b ∷ bs) (here profile (b ∷ bs) start) (given profile text cs w no_arguments))

    -- The turns of an iteration that are left, from its beginning on.
    abbrev begun : Option ℕ → List ℕ → Cursor → CursorOrError
    begun None start c = Ok (inside_block Iter None start c)
    begun (Some n) start c = after_counted_start profile n start c

    begun_leads : (left : Option ℕ) (start : List ℕ) (c : Cursor) → Fits profile c.blocks (after_iteration profile c.blocks start).1
        → (let r : WorldAndEnd = meaning.turns left (list_at profile (Some Iter) (suc (length c.blocks)) start).0 (given profile text cs w no_arguments) (length cs) in
        MeansMove (from profile text cs w c.blocks (after_iteration profile c.blocks start) r.0 r.1) (begun left start (record c { args = no_arguments })))
    unfolding turns_by Fits
    begun_leads left start c f =
        let l = by left in
        (ap (λ (r : WorldAndEnd). from profile text cs w c.blocks (after_iteration profile c.blocks start) r.0 r.1) (unrolls.turns left (list_at profile (Some Iter) (suc (length c.blocks)) start).0 (given profile text cs w no_arguments) (length cs)) ∙ l.0, l.1)
      where
        by : (left : Option ℕ) → (let r : WorldAndEnd = turns_by meaning left (list_at profile (Some Iter) (suc (length c.blocks)) start).0 (given profile text cs w no_arguments) (length cs) in
            MeansMove (from profile text cs w c.blocks (after_iteration profile c.blocks start) r.0 r.1) (begun left start (record c { args = no_arguments })))
        by None = (turn_means None start c.blocks, (refl, f))
        by (Some zero) = skip_leads c.blocks c.left (past (list_at profile (Some Iter) (suc (length c.blocks)) start).1) f
        by (Some (suc n)) = (turn_means (Some n) start c.blocks, (refl, f))

    -- An iteration begins.
    pub iterated_leads : (t : Result Taken Code) (bs : List ℕ) (c : Cursor) → Fits profile c.blocks (after_iteration profile c.blocks bs).1
        → (let r : WorldAndEnd = run_iteration meaning (list_at profile (Some Iter) (suc (length c.blocks)) bs).0 (given profile text cs w c.args) (length cs) t in MeansMove (from profile text cs w c.blocks (after_iteration profile c.blocks bs) r.0 r.1) (after_iteration_start profile t bs c))
    iterated_leads (Ok taken.None) bs c f = begun_leads None bs c f
    iterated_leads (Ok (taken.One n)) bs c f = begun_leads (Some (turns_of n)) bs c f
    iterated_leads (Ok (taken.Two m n)) bs c f = (stop_means c.blocks (after_iteration profile c.blocks bs) (given profile text cs w c.args) Arg, tt)
    iterated_leads (Err e) bs c f = (stop_means c.blocks (after_iteration profile c.blocks bs) (given profile text cs w c.args) e, tt)

    -- A turn ends.
    pub turned_leads : (left : Option ℕ) (start bs : List ℕ) (outer : List Frame) → (let b : Frame = record { kind = Iter; start = start; left = left } in
        let r : WorldAndEnd = meaning.turns left (whole profile text (b ∷ outer)) (given profile text cs w no_arguments) (length cs) in
        Fits profile (b ∷ outer) (closed false bs) → MeansMove (from profile text cs w outer (follows profile Iter outer (closed false bs)) r.0 r.1) (Ok (next_turn_or_end left b outer bs)))
    unfolding Fits
    turned_leads left start bs outer f =
        let b : Frame = record { kind = Iter; start = start; left = left } in
        let r : WorldAndEnd = meaning.turns left (whole profile text (b ∷ outer)) (given profile text cs w no_arguments) (length cs) in
        let l = begun_leads left start (after_block_end bs outer) (subst (λ x. Fits profile outer (follows profile Iter outer x).1) (sym f.0) f.1) in
        subst (MeansMove (from profile text cs w outer (follows profile Iter outer (closed false bs)) r.0 r.1)) (by left f.0) (ap (λ x. from profile text cs w outer (follows profile Iter outer x) r.0 r.1) (sym f.0) ∙ l.0, l.1)
      where
        by : (left : Option ℕ) → (list_at profile (Some Iter) (suc (length outer)) start).1 ≡ closed false bs → begun left start (after_block_end bs outer) ≡ Ok (next_turn_or_end left (record { kind = Iter; start = start; left = left }) outer bs)
        by (Some zero) e = ap (λ x. after_skip (past x) (after_block_end bs outer)) e
        by None e = refl
        by (Some (suc n)) e = refl

    -- A conditional begins.
    second_leads : (bs : List Frame) (left : List ℕ) (x : Close) → Fits profile bs (after profile bs (past (second (list_at profile) (suc (length bs)) x).1)).1
        → (let other : Listed = second (list_at profile) (suc (length bs)) x in
        let r : WorldAndEnd = meaning.list other.0 other.0 (given profile text cs w no_arguments) (length cs) (inside_iteration bs) in
        let q : WorldAndEnd = after_part r.0 r.1 in
        MeansMove (from profile text cs w bs (after profile bs (past other.1)) q.0 q.1) (inside_second_part x (record { args = no_arguments; left = left; blocks = bs })))
    unfolding around block_end inside_iteration list_by Fits
    second_leads bs left (closed true more) f = (refl, (refl, f))
    second_leads bs left (closed false more) f =
        (ap (λ (r : WorldAndEnd). let q : WorldAndEnd = after_part r.0 r.1 in from profile text cs w bs (here profile bs more) q.0 q.1) (unrolls.list done done (given profile text cs w no_arguments) (length cs) (inside_iteration bs)), f)
    second_leads bs left (broken e) f = (
      ap (λ (r : WorldAndEnd). let q : WorldAndEnd = after_part r.0 r.1 in from profile text cs w bs (wrong e) q.0 q.1) (unrolls.list done done (given profile text cs w no_arguments) (length cs) (inside_iteration bs))
          ∙ wrong_means profile text cs w bs e (given profile text cs w no_arguments),
      tt,
    )

    pub decided_leads : (t : Test) (n : Result ℤ Code) (bs : List ℕ) (c : Cursor) → Fits profile c.blocks (after_conditional profile c.blocks bs).1
        → (let one : Listed = list_at profile (Some Then) (suc (length c.blocks)) bs in
        let r : WorldAndEnd = run_conditional meaning t one.0 (second (list_at profile) (suc (length c.blocks)) one.1).0 (given profile text cs w c.args) (length cs) (inside_iteration c.blocks) n in
        MeansMove (from profile text cs w c.blocks (after_conditional profile c.blocks bs) r.0 r.1) (inside_chosen_part profile t n bs c))
    unfolding around block_end inside_iteration Fits
    decided_leads t (Ok n) bs c f = go (holds t n)
      where
        go : (b : Bool) → (let one : Listed = list_at profile (Some Then) (suc (length c.blocks)) bs in
            let nodes : Nodes = if b then one.0 else (second (list_at profile) (suc (length c.blocks)) one.1).0 in
            let r : WorldAndEnd = meaning.list nodes nodes (given profile text cs w no_arguments) (length cs) (inside_iteration c.blocks) in
            let q : WorldAndEnd = after_part r.0 r.1 in
            let d : Cursor = record c { args = no_arguments } in
            MeansMove (from profile text cs w c.blocks (after_conditional profile c.blocks bs) q.0 q.1) (if b then Ok (inside_block Then None bs d) else inside_second_part one.1 d))
        go true = (refl, (refl, f))
        go false = second_leads c.blocks c.left (list_at profile (Some Then) (suc (length c.blocks)) bs).1 f
    decided_leads t (Err e) bs c f = (stop_means c.blocks (after_conditional profile c.blocks bs) (given profile text cs w c.args) e, tt)

    -- An iteration is left.
    around_broken : (bs : List Frame) (v : World) (e : Code) → inside_iteration bs ≡ true → (let r : WorldAndEnd = around profile text (length cs) bs (broken e) v leave in under profile cs r.0 r.1) ≡ finals v (stop e)
    unfolding around block_end inside_iteration
    around_broken [] v e h = absurd cc
    around_broken (b ∷ bs) v e h = go b.kind h (around_broken bs v e)
      where
        go : (k : Kind) → inside_iteration (record b { kind = k } ∷ bs) ≡ true
            → (inside_iteration bs ≡ true → (let r : WorldAndEnd = around profile text (length cs) bs (broken e) v leave in under profile cs r.0 r.1) ≡ finals v (stop e))
            → (let r : WorldAndEnd = around profile text (length cs) (record b { kind = k } ∷ bs) (broken e) v leave in under profile cs r.0 r.1) ≡ finals v (stop e)
        go Iter h next = wrong_means profile text cs w bs e v
        go k h next = next h

    pub leaving_leads : (bs : List Frame) (a : Arguments) (left : List ℕ) → inside_iteration bs ≡ true → Fits profile bs (here profile bs left).1
        → (let r : WorldAndEnd = around profile text (length cs) bs (here profile bs left).1 (given profile text cs w a) leave in MeansMove (under profile cs r.0 r.1) (after_leaving_iteration profile bs a left))
    unfolding around block_end inside_iteration after_leaving_iteration Fits
    leaving_leads [] a left h f = absurd cc
    leaving_leads (b ∷ bs) a left h f = go b.kind h (leaving_leads bs a) (behind_block (list_at profile) b.kind (suc (length bs)) (here profile (b ∷ bs) left).1) f.1
      where
        go : (k : Kind) → inside_iteration (record b { kind = k } ∷ bs) ≡ true
            → ((more : List ℕ) → inside_iteration bs ≡ true → Fits profile bs (here profile bs more).1 → (let r : WorldAndEnd = around profile text (length cs) bs (here profile bs more).1 (given profile text cs w a) leave in MeansMove (under profile cs r.0 r.1) (after_leaving_iteration profile bs a more)))
            → (x : Past) → Fits profile bs (after profile bs x).1
            → (let q : WorldAndEnd = block_end profile k b.left (whole profile text (b ∷ bs)) (length cs) (given profile text cs w a) leave in MeansMove (from profile text cs w bs (after profile bs x) q.0 q.1) (after_leaving_block (λ c. after_leaving_iteration profile bs c.args c.left) k a bs x))
        go Iter h next (Ok more) f = (refl, f)
        go Iter h next (Err e) f = (wrong_means profile text cs w bs e (given profile text cs w a), tt)
        go k h next (Ok more) f = next more h f
        go k h next (Err e) f = (around_broken bs (given profile text cs w a) e h, tt)
