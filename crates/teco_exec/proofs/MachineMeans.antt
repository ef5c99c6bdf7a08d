-- The machine does what the recursive meaning says, and where it is after some steps.
use Rattle.std.proofs.Common.{◌≡◌, ℕ, zero, suc, ◌+◌, ◌-◌, false, List, [], ◌∷◌, ◌<◌, ◌++◌, length, Option, Some, None, refl, sym, ap, ◌∙◌, arith, ◌≤◌}
use Rattle.teco_core.specs.declared.code.Code.TheVariants.{Lim, Naq}
use Rattle.teco_core.specs.Arguments.{Arguments, taken_from}
use Rattle.teco_scan.specs.declared.command.Modifiers.{Modifiers}
use Rattle.teco_scan.specs.declared.blocks.Kind.TheVariants.{Iter}
use Rattle.teco_core.specs.declared.profile.Profile.{Profile}
use Rattle.teco_scan.specs.Scan.{Item}
use Rattle.teco_store.specs.State.{State}
use Rattle.teco_step.specs.declared.next.Work.{Work}
use Rattle.teco_step.specs.Step.{Step, on, stop, takes_one, End}
use Rattle.teco_step.specs.Effect.{effect}
use Rattle.teco_exec.specs.World.{World, WorldAndEnd, without_arguments, pay_from}
use Rattle.teco_exec.specs.Meaning.{meaning}
use Rattle.teco_exec.specs.StringMeaning.{string_run}
use Rattle.teco_scan.specs.Lists.{closed}
use Rattle.teco_scan.specs.ListLaws.{EachBlockLaws}
use Rattle.teco_exec.specs.CursorMoves.{Frame, Cursor, CursorOrError, Coming, passed_to, step_comes, block_comes, end_comes, fault_comes, BlockStep, innermost_kind, inside_iteration, after_leaving_iteration, after_jump, pass, after_block_step}
use Rattle.teco_exec.specs.Machine.{Caller, Further, Config, Machine, runs, halts, Ready, step, block, faulty, finished, Final, final, setting_of, runs_or_halts, after_step_end, after_text_end, ready_where_comes, ready_at, ready_within, ready_of, bytes_of_callers, bytes_left, after_paid_step, final_without_fuel, final_with_fuel, run_within, after_steps, start_config, Now, now_of}
use Rattle.teco_exec.specs.CursorMoves as machine
use Rattle.teco_exec.specs.MachineLaws.{MachineMeans, MachineFollows}
use Rattle.teco_step.specs.Laws.{LeavesInside}
use Rattle.teco_exec.proofs.Denoting.{after_conditional, after_iteration, here, whole, block_end, around, finals, under, Fits, FitsAt, FitsUnder}
use Rattle.teco_exec.proofs.CursorMeans.{from, at_step, at_block_step, coming_means, pass_means, stop_means, MeansMove, iterated_leads, turned_leads, decided_leads}
use Rattle.teco_exec.proofs.Passing.{TurnEnds, turn, FitsStep, FitsComing, Shorter, pass_keeps, pass_short}
use Rattle.teco_exec.proofs.Resuming.{world_of, further_means, means, Good, going_leads, resumed_leads}
use Rattle.teco_core.specs.declared.code.Code.{Code}
use Rattle.teco_exec.specs.Places.{after_coming, standing}
use Rattle.teco_exec.specs.Running.{Continuation, ready_run}

abbrev ready_means : Ready → ℕ → Final
ready_means (step m i work c) n = at_step c.profile c.text c.callers (world_of c n) m i work c.at
ready_means (block b bs c) n = at_block_step c.profile c.text c.callers (world_of c n) b bs c.at
ready_means (faulty c e) n = final n c (Some e)
ready_means (finished c e) n = final n c e

abbrev GoodReady : Ready → Type 0
GoodReady (step m i work c) = FitsAt c.profile c.at × FitsUnder c.profile c.callers
GoodReady (block b bs c) = (c.further ≡ None) × FitsStep c.profile b bs c.at.blocks × FitsUnder c.profile c.callers
GoodReady (faulty c e) = Unit {0}
GoodReady (finished c e) = Unit {0}

abbrev Arrived : Machine → Ready → Type 0
Arrived m r = ((n : ℕ) → means m n ≡ ready_means r n) × GoodReady r

-- What uses no step means nothing.
module _ (laws : EachBlockLaws) (next : Machine → Ready) where
  back : (c : Config) (cs : List Caller) → c.further ≡ None → FitsUnder c.profile cs
      → ((m : Machine) → Good m → bytes_left m < suc (length c.at.left + bytes_of_callers cs) → Arrived m (next m))
      → (((n : ℕ) → under c.profile cs (world_of c n) on ≡ ready_means (next (after_text_end (record c { callers = cs }) cs)) n) × GoodReady (next (after_text_end (record c { callers = cs }) cs)))
  unfolding under FitsUnder bytes_of_callers
  back c [] none f h = let i = h (halts (record c { callers = [] }) None) tt (omega arith) in (i.0, i.1)
  back c (b ∷ bs) none f h =
      let d : Config = record c { text = b.text; at = record { args = c.at.args; left = b.left; blocks = b.blocks }; callers = bs } in
      let i = h (runs d) (f.0, f.1) (omega arith) in
      (λ n. ap (λ x. further_means x d n) (sym none) ∙ i.0 n, i.1)

  coming_arrives : (c : Config) (k : Coming) → c.further ≡ None → FitsUnder c.profile c.callers → FitsComing c.profile c.at k → Shorter (length c.at.left) k
      → ((m : Machine) → Good m → bytes_left m < suc (length c.at.left + bytes_of_callers c.callers) → Arrived m (next m))
      → (((n : ℕ) → coming_means c.profile c.text c.callers (world_of c n) c.at k ≡ ready_means (ready_where_comes next c k) n) × GoodReady (ready_where_comes next c k))
  coming_arrives c (passed_to d) none f g lt h = let i = h (runs (record c { at = d })) (g, f) (omega arith) in (λ n. ap (λ x. further_means x (record c { at = d }) n) (sym none) ∙ i.0 n, i.1)
  coming_arrives c (step_comes m i d) none f g lt h = (λ n. refl, (g, f))
  coming_arrives c (block_comes b bs) none f g lt h = (λ n. refl, (none, g, f))
  coming_arrives c end_comes none f g lt h = back c c.callers none f h
  coming_arrives c (fault_comes e) none f g lt h = (λ n. refl, tt)

  arriving_arrives : (c : Config) (x : Option Further) → c.further ≡ x → Good (runs c)
      → ((m : Machine) → Good m → bytes_left m < suc (length c.at.left + bytes_of_callers c.callers) → Arrived m (next m))
      → (((n : ℕ) → further_means x c n ≡ ready_means (ready_at next c x) n) × GoodReady (ready_at next c x))
  arriving_arrives c (Some f) e g h = (λ n. refl, g)
  arriving_arrives c None e g h =
      let i = coming_arrives c (pass c.profile c.at) e g.1 (pass_keeps c.profile (laws c.profile) c.at g.0) (pass_short c.profile (laws c.profile) c.at) h in
      (λ n. pass_means c.profile (laws c.profile) c.text c.callers (world_of c n) c.at ∙ i.0 n, i.1)

arrives_so : (laws : EachBlockLaws) (k : ℕ) (m : Machine) → Good m → bytes_left m < k → Arrived m (ready_within k m)
unfolding ready_within
arrives_so laws zero (runs c) g lt = absurd (omega arith)
arrives_so laws zero (halts c e) g lt = absurd (omega arith)
arrives_so laws (suc k) (halts c e) g lt = (λ n. refl, tt)
arrives_so laws (suc k) (runs c) g lt = arriving_arrives laws (ready_within k) c c.further refl g (λ m gm ltm. arrives_so laws k m gm (omega arith))

pub arrives_means : (laws : EachBlockLaws) (m : Machine) → Good m → Arrived m (ready_of m)
unfolding ready_of
arrives_means laws m g = arrives_so laws (suc (bytes_left m)) m g (omega arith)

module _ (profile : Profile) where
  -- A step without fuel isn't begun.
  unpaid_turn : (text : List ℕ) (cs : List Caller) (w : World) (bs : List ℕ) {blocks : List Frame} → w.fuel ≡ 0 → TurnEnds profile bs blocks → (let r : WorldAndEnd = around profile text (length cs) blocks (closed false bs) w on in under profile cs r.0 r.1) ≡ finals w (stop Lim)
  unfolding around block_end
  unpaid_turn text cs w bs z (turn start left outer f) =
      let b : Frame = record { kind = Iter; start = start; left = left } in
      ap (λ n. let q : WorldAndEnd = pay_from n w (λ v. meaning.turns left (whole profile text (b ∷ outer)) (without_arguments v) (length cs)) in from profile text cs w outer (here profile outer bs) q.0 q.1) z ∙ stop_means profile text cs w outer (here profile outer bs) w Lim

ready_unpaid : (r : Ready) → GoodReady r → ready_means r 0 ≡ final_without_fuel r
ready_unpaid (step m i work c) g = stop_means c.profile c.text c.callers (world_of c 0) c.at.blocks (here c.profile c.at.blocks c.at.left) (world_of c 0) Lim
ready_unpaid (block machine.iterates bs c) g = stop_means c.profile c.text c.callers (world_of c 0) c.at.blocks (after_iteration c.profile c.at.blocks bs) (world_of c 0) Lim
ready_unpaid (block (machine.decides t) bs c) g = stop_means c.profile c.text c.callers (world_of c 0) c.at.blocks (after_conditional c.profile c.at.blocks bs) (world_of c 0) Lim
ready_unpaid (block machine.ends_turn bs c) g = unpaid_turn c.profile c.text c.callers (world_of c 0) bs refl g.1
ready_unpaid (faulty c e) g = refl
ready_unpaid (finished c e) g = refl

module _ (profile : Profile) where
  -- A block step that pays means what it leads to.
  turn_leads : (text : List ℕ) (cs : List Caller) (w : World) (n : ℕ) (a : Arguments) (left bs : List ℕ) {blocks : List Frame} → TurnEnds profile bs blocks
      → (let r : WorldAndEnd = around profile text (length cs) blocks (closed false bs) (record w { arguments = a; fuel = suc n }) on in MeansMove profile text cs (record w { fuel = n }) (under profile cs r.0 r.1) (machine.after_turn_end bs (record { args = a; left = left; blocks = blocks })))
  unfolding around block_end
  turn_leads text cs w n a left bs (turn start turns outer f) = turned_leads profile text cs (record w { fuel = n }) turns start bs outer f

block_leads : (b : BlockStep) (bs : List ℕ) (c : Config) (n : ℕ) → FitsStep c.profile b bs c.at.blocks → MeansMove c.profile c.text c.callers (world_of c n) (at_block_step c.profile c.text c.callers (world_of c (suc n)) b bs c.at) (after_block_step c.profile b bs c.at)
block_leads machine.iterates bs c n f = iterated_leads c.profile c.text c.callers (world_of c n) (taken_from c.at.args) bs c.at f
block_leads (machine.decides t) bs c n f = decided_leads c.profile c.text c.callers (world_of c n) t (takes_one Naq c.at.args) bs c.at f
block_leads machine.ends_turn bs c n f = turn_leads c.profile c.text c.callers (world_of c n) n c.at.args c.at.left bs f

-- the configuration after the effect of an item
abbrev pub acted : Modifiers → Item → Option Work → Config → Config
acted m i work c =
    let d : Step = effect i (setting_of c.profile m work c.at) c.state c.at.args in
    record c { state = d.state; typed = c.typed ++ d.typed; load = c.load + d.load; at = record c.at { args = d.arguments }; further = None }

ready_leads : (laws : EachBlockLaws) (inside_only : LeavesInside) (r : Ready) (n : ℕ) → GoodReady r → (ready_means r (suc n) ≡ final_with_fuel n (λ m. means m n) r) × Good (after_paid_step r)
ready_leads laws inside_only (step m i work c) n g =
    resumed_leads laws m i work (acted m i work c) n refl g.0 g.1 (effect i (setting_of c.profile m work c.at) c.state c.at.args).end (inside_only i (setting_of c.profile m work c.at) c.state c.at.args)
ready_leads laws inside_only (block b bs c) n g = going_leads c (after_block_step c.profile b bs c.at) n (at_block_step c.profile c.text c.callers (world_of c (suc n)) b bs c.at) g.0 g.2 (block_leads b bs c n g.1)
ready_leads laws inside_only (faulty c e) n g = (refl, tt)
ready_leads laws inside_only (finished c e) n g = (refl, tt)

paid_same : (n : ℕ) (f h : Machine → Final) (r : Ready) → f (after_paid_step r) ≡ h (after_paid_step r) → final_with_fuel n f r ≡ final_with_fuel n h r
paid_same n f h (faulty c x) e = refl
paid_same n f h (finished c x) e = refl
paid_same n f h r e = e

-- A machine runs as it means.
pub runs_right : (laws : EachBlockLaws) (inside_only : LeavesInside) (n : ℕ) (m : Machine) → Good m → run_within n m ≡ means m n
unfolding run_within
runs_right laws inside_only zero m g = let a = arrives_means laws m g in sym (a.0 0 ∙ ready_unpaid (ready_of m) a.1)
runs_right laws inside_only (suc n) m g =
    let a = arrives_means laws m g in
    let p = ready_leads laws inside_only (ready_of m) n a.1 in
    paid_same n (run_within n) (λ x. means x n) (ready_of m) (runs_right laws inside_only n (after_paid_step (ready_of m)) p.1) ∙ sym (a.0 (suc n) ∙ p.0)

-- what the recursive meaning of a string comes to
abbrev pub final_of : WorldAndEnd → Final
final_of r = finals r.0 r.1

start_good : (s : State) (text : List ℕ) → Good (runs (start_config s text))
unfolding Fits FitsUnder
start_good s text = (tt, tt)

-- The machine does what the string means.
pub correct : (laws : EachBlockLaws) (inside_only : LeavesInside) (s : State) (text : List ℕ) (n : ℕ) → run_within n (runs (start_config s text)) ≡ final_of (string_run s text n)
unfolding string_run around under inside_iteration
correct laws inside_only s text n =
    runs_right laws inside_only n (runs (start_config s text)) (start_good s text)

pub machine_means : EachBlockLaws → LeavesInside → MachineMeans
machine_means laws inside_only s text limit = ap (λ (f : Final). record { state = f.state; typed = f.typed; code = f.code; steps = limit - f.fuel; load = f.load }) (correct laws inside_only s text limit)

-- what is seen where a run arrives
abbrev pub ready_now : Ready → Now
ready_now (step m i work c) = now_of (runs c)
ready_now (block b bs c) = now_of (runs c)
ready_now (faulty c e) = now_of (runs c)
ready_now (finished c e) = now_of (runs c)

arriving_now : (next : Machine → Ready) → ((m : Machine) → ready_now (next m) ≡ now_of m) → (c : Config) (f : Option Further) → ready_now (ready_at next c f) ≡ now_of (runs c)
arriving_now next h c f = grind arith

arrives_seen : (k : ℕ) (m : Machine) → ready_now (ready_within k m) ≡ now_of m
unfolding ready_within
arrives_seen zero (runs c) = refl
arrives_seen (suc k) (runs c) = arriving_now (ready_within k) (arrives_seen k) c c.further
arrives_seen k (halts c e) = refl

pub arrives_now : (m : Machine) → ready_now (ready_of m) ≡ now_of m
unfolding ready_of
arrives_now m = arrives_seen (suc (bytes_left m)) m

-- Where a step leads changes nothing of what is seen.
pub going_now : (c : Config) (m : CursorOrError) → now_of (runs_or_halts c m) ≡ now_of (runs c)
going_now c m = grind arith

pub resumed_now : (m : Modifiers) (i : Item) (e : End) (c : Config) → now_of (after_step_end m i e c) ≡ now_of (runs c)
resumed_now m i e c = grind arith

exec_halts : (n : ℕ) (c : Config) (e : Option Code) → after_steps n (halts c e) ≡ halts c e
unfolding after_steps ready_of ready_within
exec_halts zero c e = refl
exec_halts (suc n) c e = exec_halts n c e

abbrev pub final_now : Final → Now
final_now f = record { state = f.state; typed = f.typed; load = f.load }

unpaid_now : (r : Ready) → ready_now r ≡ final_now (final_without_fuel r)
unpaid_now r = grind arith

paid_now : (n : ℕ) (r : Ready) → now_of (after_steps n (after_paid_step r)) ≡ final_now (run_within n (after_paid_step r)) → now_of (after_steps n (after_paid_step r)) ≡ final_now (final_with_fuel n (run_within n) r)
paid_now n (faulty c x) e = ap now_of (exec_halts n c (Some x))
paid_now n (finished c x) e = ap now_of (exec_halts n c x)
paid_now n r e = e

pub exec_now : (n : ℕ) (m : Machine) → now_of (after_steps n m) ≡ final_now (run_within n m)
unfolding after_steps run_within
exec_now zero m = sym (arrives_now m) ∙ unpaid_now (ready_of m)
exec_now (suc n) m = paid_now n (ready_of m) (exec_now n (after_paid_step (ready_of m)))

pub machine_follows : EachBlockLaws → LeavesInside → MachineFollows
machine_follows laws inside_only s text i = exec_now i (runs (start_config s text)) ∙ ap final_now (correct laws inside_only s text i)

-- How runs of the machine compose: what uses no step, a step, a call, the end.
-- What uses no step takes as many moves as there are bytes, and no more change it.
module _ (laws : EachBlockLaws) (f g : Machine → Ready) where
  back_same : (c : Config) (cs : List Caller) → ((m : Machine) → bytes_left m < suc (length c.at.left + bytes_of_callers cs) → f m ≡ g m) → f (after_text_end c cs) ≡ g (after_text_end c cs)
  unfolding bytes_of_callers
  back_same c [] h = h (halts c None) (omega arith)
  back_same c (b ∷ bs) h = h (after_text_end c (b ∷ bs)) (omega arith)

  coming_same : (c : Config) (k : Coming) → Shorter (length c.at.left) k → ((m : Machine) → bytes_left m < suc (length c.at.left + bytes_of_callers c.callers) → f m ≡ g m) → ready_where_comes f c k ≡ ready_where_comes g c k
  coming_same c (passed_to d) lt h = h (runs (record c { at = d })) (omega arith)
  coming_same c end_comes lt h = back_same c c.callers h
  coming_same c k lt h = refl

  arriving_same : (c : Config) (x : Option Further) → ((m : Machine) → bytes_left m < suc (length c.at.left + bytes_of_callers c.callers) → f m ≡ g m) → ready_at f c x ≡ ready_at g c x
  arriving_same c (Some x) h = refl
  arriving_same c None h = coming_same c (pass c.profile c.at) (pass_short c.profile (laws c.profile) c.at) h

arrives_same : (laws : EachBlockLaws) (n k : ℕ) (m : Machine) → bytes_left m < n → bytes_left m < k → ready_within n m ≡ ready_within k m
unfolding ready_within
arrives_same laws zero k m lt lt' = absurd (omega arith)
arrives_same laws (suc n) zero m lt lt' = absurd (omega arith)
arrives_same laws (suc n) (suc k) (halts c e) lt lt' = refl
arrives_same laws (suc n) (suc k) (runs c) lt lt' = arriving_same laws (ready_within n) (ready_within k) c c.further (λ m l. arrives_same laws n k m (omega arith) (omega arith))

-- One move, as an equation.
pub arrives_step : EachBlockLaws → (c : Config) → ready_of (runs c) ≡ ready_at ready_of c c.further
unfolding ready_of ready_within
arrives_step laws c = arriving_same laws (ready_within (bytes_left (runs c))) ready_of c c.further (λ m l. arrives_same laws (bytes_left (runs c)) (suc (bytes_left m)) m l (omega arith))

-- A run is told by where it arrives.
pub run_ready : (n : ℕ) (m : Machine) → run_within n m ≡ ready_run n (ready_of m)
unfolding run_within
run_ready n m = grind arith

pub halted : (n : ℕ) (c : Config) (e : Option Code) → run_within n (halts c e) ≡ final n c e
unfolding run_within ready_of ready_within
halted n c e = grind arith

pub halts_ready : (c : Config) (e : Option Code) → ready_of (halts c e) ≡ finished c e
unfolding ready_of ready_within
halts_ready c e = refl

-- A run that is over stands nowhere.
pub halts_nowhere : (c : Config) (e : Option Code) → standing (ready_of (halts c e)) ≡ None
halts_nowhere c e = ap standing (halts_ready c e)

-- One step more is the step that comes.
pub no_steps : (m : Machine) → after_steps 0 m ≡ m
unfolding after_steps
no_steps m = refl

pub after_more : (k : ℕ) (m : Machine) → after_steps (suc k) m ≡ after_paid_step (ready_of (after_steps k m))
unfolding after_steps
after_more zero m = refl
after_more (suc k) m = after_more k (after_paid_step (ready_of m))

pub paid_steps : (r : Ready) (m : Machine) → after_coming r ≡ Some m → after_paid_step r ≡ m
paid_steps (step mo i work c) m e = cc
paid_steps (block b bs c) m e = cc
paid_steps (faulty c x) m e = absurd cc
paid_steps (finished c x) m e = absurd cc

pub paid_run : (r : Ready) (m : Machine) → after_coming r ≡ Some m → (fuel : ℕ) → ready_run (suc fuel) r ≡ run_within fuel m
paid_run (step mo i work c) m e fuel = ap (run_within fuel) (paid_steps (step mo i work c) m e)
paid_run (block b bs c) m e fuel = ap (run_within fuel) (paid_steps (block b bs c) m e)
paid_run (faulty c x) m e fuel = absurd cc
paid_run (finished c x) m e fuel = absurd cc

-- no run gains fuel
paid_fuel : (n : ℕ) (r : Ready) → (run_within n (after_paid_step r)).fuel ≤ n → (final_with_fuel n (run_within n) r).fuel ≤ suc n
paid_fuel n r le = grind arith

unpaid_fuel : (r : Ready) → (final_without_fuel r).fuel ≤ 0
unpaid_fuel r = grind arith

pub fuel_within : (n : ℕ) (m : Machine) → (run_within n m).fuel ≤ n
unfolding run_within
fuel_within zero m = unpaid_fuel (ready_of m)
fuel_within (suc n) m = paid_fuel n (ready_of m) (fuel_within n (after_paid_step (ready_of m)))

pub ready_fuel : (n : ℕ) (r : Ready) → (ready_run n r).fuel ≤ n
ready_fuel zero r = unpaid_fuel r
ready_fuel (suc n) r = paid_fuel n r (fuel_within n (after_paid_step r))

-- A continuation begins at the moment that it is given.
abbrev pub Stays : Continuation → Now → Type 0
Stays next now = final_now (ready_run 0 (next now)) ≡ now

pub arrives_stays : (m : Machine) → final_now (ready_run 0 (ready_of m)) ≡ now_of m
unfolding after_steps
arrives_stays m = ap final_now (sym (run_ready 0 m)) ∙ sym (exec_now 0 m)
