-- Where a step of a token has ended, the machine goes on as is meant.
use Rattle.std.proofs.Common.{◌≡◌, ℕ, suc, ◌+◌, Bool, true, false, List, [], ◌∷◌, length, Option, Some, None, Ok, Err, refl, sym, ap, subst, ◌∙◌, arith, ◌==◌, if◌then◌else◌}
use Rattle.teco_core.specs.declared.code.Code.TheVariants.{Pdo, Tag}
use Rattle.teco_core.specs.Arguments.{Arguments}
use Rattle.teco_scan.specs.declared.command.Modifiers.{Modifiers}
use Rattle.teco_scan.specs.declared.blocks.Kind.{Kind}
use Rattle.teco_core.specs.declared.profile.Profile.{Profile}
use Rattle.teco_scan.specs.Scan.{Item}
use Rattle.teco_scan.specs.Tree.{Nodes, after_tag}
use Rattle.teco_step.specs.declared.next.Work.{Work}
use Rattle.teco_step.specs.Step.{End, on, leave, go, call, out, again, stop}
use Rattle.teco_exec.specs.World.{World, WorldAndEnd}
use Rattle.teco_exec.specs.Meaning.{then_rest, run_after_tag, run_after_step, run_call, run_step, further_by, meaning}
use Rattle.teco_exec.specs.Meaning as meant
use Rattle.teco_scan.specs.Lists.{Close, Listed, list_at, tag_at, nodes}
use Rattle.teco_scan.specs.ListLaws.{BlockLaws, Finds, EachBlockLaws}
use Rattle.teco_exec.specs.CursorMoves.{Frame, CursorOrError, innermost_kind, inside_iteration, after_tag_or, after_jump, after_leaving_iteration}
use Rattle.teco_exec.specs.Machine.{Caller, Further, Config, Machine, runs, halts, Final, final, setting_of, runs_or_halts, in_called_text, after_step_end}
use Rattle.teco_exec.proofs.Sentences.{unrolls}
use Rattle.teco_exec.proofs.Denoting.{here, whole, block_end, follows, around, goes_on, finals, under, Fits, FitsAt, FitsUnder}
use Rattle.teco_exec.proofs.CursorMeans.{around_stop, under_stop, given, from, at_cursor, at_step, stop_means, MeansMove, leaving_leads}

module _ (profile : Profile) where
  -- an exit goes through all
  module _ (text : List ℕ) (depth : ℕ) (w : World) where
    out_block : (k : Kind) (left : Option ℕ) (n : Nodes) → block_end profile k left n depth w out ≡ (w, out)
    unfolding block_end
    out_block k left n = grind arith

    around_out : (bs : List Frame) (l : Close) → around profile text depth bs l w out ≡ (w, out)
    unfolding around
    around_out [] l = refl
    around_out (b ∷ bs) l =
        ap (λ (q : WorldAndEnd). goes_on profile text depth bs (follows profile b.kind bs l) q.0 q.1) (out_block b.kind b.left (whole profile text (b ∷ bs)))
        ∙ around_out bs (follows profile b.kind bs l).1

    -- and so does a jump through one block
    pub go_block : (name : List ℕ) (k : Kind) (left : Option ℕ) (n : Nodes) → block_end profile k left n depth w (go name) ≡ (w, go name)
    unfolding block_end
    go_block name k left n = grind arith

  under_out : (cs : List Caller) (w : World) → under profile cs w out ≡ finals w out
  unfolding under
  under_out [] w = refl
  under_out (b ∷ bs) w = ap (λ (r : WorldAndEnd). under profile bs r.0 r.1) (around_out b.text (length bs) w b.blocks (here profile b.blocks b.left).1) ∙ under_out bs w

  under_go : (cs : List Caller) (w : World) (name : List ℕ) → under profile cs w (go name) ≡ finals w (stop Tag)
  unfolding under
  under_go [] w name = refl
  under_go (b ∷ bs) w name = ap (λ (r : WorldAndEnd). under profile bs r.0 r.1) (around_stop profile b.text (length bs) w Tag b.blocks (here profile b.blocks b.left).1) ∙ under_stop profile bs w Tag

  module _ (laws : BlockLaws profile) (text : List ℕ) (cs : List Caller) (w : World) (name : List ℕ) (a : Arguments) where
    -- a jump out of the innermost list, or to a tag in it
    abbrev jumps : List Frame → Close → Option Nodes → Final
    jumps bs c o = let r : WorldAndEnd = run_after_tag meaning (whole profile text bs) (given profile text cs w a) (length cs) (inside_iteration bs) name o in let q : WorldAndEnd = around profile text (length cs) bs c r.0 r.1 in under profile cs q.0 q.1

    lands_there : (bs : List Frame) (c : Close) (l : Listed) (next : CursorOrError) (o : Option (List ℕ)) → Finds profile name (innermost_kind bs) (length bs) l o
        → MeansMove profile text cs w (jumps bs c None) next
        → ((more : List ℕ) → (here profile bs more).1 ≡ l.1 → MeansMove profile text cs w (jumps bs c (Some (here profile bs more).0)) (Ok (record { args = a; left = more; blocks = bs })))
        → MeansMove profile text cs w (jumps bs c (after_tag name l.0)) (after_tag_or o a bs next)
    lands_there bs c l next None finds none there = (ap (jumps bs c) finds ∙ none.0, none.1)
    lands_there bs c l next (Some more) finds none there = let t = there more finds.1 in (ap (jumps bs c) finds.0 ∙ t.0, t.1)

    pub jumping_leads : (bs : List Frame) (c : Close) → Fits profile bs c → MeansMove profile text cs w (jumps bs c (after_tag name (whole profile text bs))) (after_jump profile name text bs a)
    unfolding after_jump around Fits
    jumping_leads [] c f = lands_there [] c (list_at profile None 0 text) (Err Tag) (tag_at profile name 0 text) (laws.search_finds name None 0 text) (under_go cs (given profile text cs w a) name, tt) (λ more e. (refl, tt))
    jumping_leads (b ∷ outer) c f =
        let out_ = jumping_leads outer (follows profile b.kind outer c).1 f.1 in
        lands_there (b ∷ outer) c (here profile (b ∷ outer) b.start) (after_jump profile name text outer a) (tag_at profile name (suc (length outer)) b.start) (laws.search_finds name (Some b.kind) (suc (length outer)) b.start)
        (ap (λ (q : WorldAndEnd). let r : WorldAndEnd = goes_on profile text (length cs) outer (follows profile b.kind outer c) q.0 q.1 in under profile cs r.0 r.1) (go_block text (length cs) (given profile text cs w a) name b.kind b.left (whole profile text (b ∷ outer))) ∙ out_.0, out_.1)
        (λ more e. (
          ap (λ x. let r : WorldAndEnd = meaning.list (whole profile text (b ∷ outer)) (here profile (b ∷ outer) more).0 (given profile text cs w a) (length cs) (inside_iteration (b ∷ outer)) in let q : WorldAndEnd = around profile text (length cs) (b ∷ outer) x r.0 r.1 in under profile cs q.0 q.1) (sym (e ∙ f.0)),
          (sym e, subst (λ x. Fits profile outer (follows profile b.kind outer x).1) (sym (e ∙ f.0)) f.1),
        ))

-- a configuration, with so much fuel
abbrev pub world_of : Config → ℕ → World
world_of c n = record { profile = c.profile; state = c.state; arguments = c.at.args; typed = c.typed; load = c.load; fuel = n }

abbrev pub goes_from : Config → World → End → Final
goes_from c w e = from c.profile c.text c.callers w c.at.blocks (here c.profile c.at.blocks c.at.left) w e

abbrev pub further_means : Option Further → Config → ℕ → Final
further_means None c n = at_cursor c.profile c.text c.callers (world_of c n) c.at
further_means (Some f) c n = at_step c.profile c.text c.callers (world_of c n) f.modifiers f.item (Some f.work) c.at

abbrev pub means : Machine → ℕ → Final
means (runs c) n = further_means c.further c n
means (halts c e) n = final n c e

abbrev pub Good : Machine → Type 0
Good (runs c) = FitsAt c.profile c.at × FitsUnder c.profile c.callers
Good (halts c e) = Unit {0}

-- A run means the machine that it leads to.
abbrev pub MeansMachine : ℕ → Final → Machine → Type 0
MeansMachine n f m = (f ≡ means m n) × Good m

pub going_leads : (c : Config) (m : CursorOrError) (n : ℕ) (f : Final) → c.further ≡ None → FitsUnder c.profile c.callers → MeansMove c.profile c.text c.callers (world_of c n) f m → MeansMachine n f (runs_or_halts c m)
going_leads c (Ok cur) n f none g l = (l.0 ∙ ap (λ x. further_means x (record c { at = cur }) n) (sym none), (l.1, g))
going_leads c (Err e) n f none g l = (l.0, tt)

-- a text is called
called_leads : (c : Config) (text : List ℕ) (n : ℕ) → c.further ≡ None → FitsAt c.profile c.at → FitsUnder c.profile c.callers
    → (let r : WorldAndEnd = run_call meaning text (world_of c n) (length c.callers) in MeansMachine n (goes_from c r.0 r.1) (in_called_text text c))
unfolding around under inside_iteration Fits FitsUnder
called_leads c text n none f g = by (length c.callers == 32)
  where
    deeper : length c.callers + 1 ≡ suc (length c.callers)
    deeper = omega arith

    by : (b : Bool) → (let w : World = world_of c n in
        let r : WorldAndEnd = if b then (w, stop Pdo) else (let r : WorldAndEnd = meaning.list (nodes c.profile text) (nodes c.profile text) w (length c.callers + 1) false in meant.after_call r.0 r.1) in
        MeansMachine n (goes_from c r.0 r.1) (if b then halts c (Some Pdo) else runs (record c { text = text; at = record { args = c.at.args; left = text; blocks = [] }; callers = record { text = c.text; left = c.at.left; blocks = c.at.blocks } ∷ c.callers })))
    by true = (stop_means c.profile c.text c.callers (world_of c n) c.at.blocks (here c.profile c.at.blocks c.at.left) (world_of c n) Pdo, tt)
    by false = (
      ap (λ d. let r : WorldAndEnd = meaning.list (nodes c.profile text) (nodes c.profile text) (world_of c n) d false in let q : WorldAndEnd = meant.after_call r.0 r.1 in goes_from c q.0 q.1) deeper
          ∙ ap (λ x. further_means x (record c { text = text; at = record { args = c.at.args; left = text; blocks = [] }; callers = record { text = c.text; left = c.at.left; blocks = c.at.blocks } ∷ c.callers }) n) (sym none),
      (tt, (f, g)),
    )

pub resumed_leads : (laws : EachBlockLaws) (m : Modifiers) (i : Item) (work : Option Work) (c : Config) (n : ℕ) → c.further ≡ None → FitsAt c.profile c.at → FitsUnder c.profile c.callers → (e : End) → (e ≡ leave → inside_iteration c.at.blocks ≡ true)
    → (let r : WorldAndEnd = run_after_step meaning i (setting_of c.profile m work c.at) (length c.callers) (world_of c n) e in MeansMachine n (goes_from c r.0 r.1) (after_step_end m i e c))
unfolding further_by
resumed_leads laws m i work c n none f g on inner = (ap (λ x. further_means x c n) (sym none), (f, g))
resumed_leads laws m i work c n none f g leave inner = going_leads c (after_leaving_iteration c.profile c.at.blocks c.at.args c.at.left) n _ none g (leaving_leads c.profile c.text c.callers (world_of c n) c.at.blocks c.at.args c.at.left (inner refl) f)
resumed_leads laws m i work c n none f g (go name) inner = going_leads c (after_jump c.profile name c.text c.at.blocks c.at.args) n _ none g (jumping_leads c.profile (laws c.profile) c.text c.callers (world_of c n) name c.at.args c.at.blocks (here c.profile c.at.blocks c.at.left).1 f)
resumed_leads laws m i work c n none f g (call text) inner = called_leads c text n none f g
resumed_leads laws m i work c n none f g out inner = (ap (λ (q : WorldAndEnd). under c.profile c.callers q.0 q.1) (around_out c.profile c.text (length c.callers) (world_of c n) c.at.blocks (here c.profile c.at.blocks c.at.left).1) ∙ under_out c.profile c.callers (world_of c n), tt)
resumed_leads laws m i work c n none f g (again left) inner = (ap (λ (r : WorldAndEnd). goes_from c r.0 r.1) (unrolls.further i (record (setting_of c.profile m work c.at) { work = Some left }) (world_of c n) (length c.callers)), (f, g))
resumed_leads laws m i work c n none f g (stop e) inner = (stop_means c.profile c.text c.callers (world_of c n) c.at.blocks (here c.profile c.at.blocks c.at.left) (world_of c n) e, tt)
