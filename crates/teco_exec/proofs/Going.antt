-- The run of a whole string by some moment: what uses no step, a step, and the end.
use Rattle.std.proofs.Common.{◌≡◌, ◌≢◌, ℕ, suc, ◌+◌, ◌-◌, ◌<◌, ◌≤◌, List, [], ◌++◌, Option, Some, None, true, false, refl, sym, ap, subst, ◌∙◌, arith, append_assoc, append-nil, Bool}
use Rattle.std.proofs.lemmas.List.{append_cancel_left}
use Rattle.std.proofs.KnownBytes.{Appends-trans, Appends-nil}
use Rattle.teco_core.specs.declared.code.Code.{Code}
use Rattle.teco_core.specs.declared.code.Code.TheVariants.{Lim, Mem, Tty}
use Rattle.teco_store.specs.State.{State}
use Rattle.teco_store.specs.Trail.{Trail, moved, stepped}
use Rattle.teco_io.specs.Terminal.{Screen, Shows, IsFrontOf, count_after}
use Rattle.teco_exec.specs.Machine.{Final, Machine, Now, Ready, after_steps, ready_of, run_within}
use Rattle.teco_exec.specs.Places.{after_coming}
use Rattle.teco_exec.specs.StringMeaning.{StringMeaning, string_meaning}
use Rattle.teco_exec.specs.Runs.{Runs, EndsWell, is_tty, trail_of}
use Rattle.teco_exec.specs.Running.{Origin, Host, Continuation, RunGoesOn, StillFollows, ReachesContinuation, ReachesEnd, Reached, goes, over, stops, Reaches, Alike, Comes, sight, ended_at, ready_run, whole_run, now_at, ended_by, IsFinished}
use Rattle.teco_exec.specs.MachineLaws.{MachineMeans}
use Rattle.teco_exec.proofs.MachineMeans.{after_more, final_now, paid_run, paid_steps, run_ready, Stays, ready_fuel}

abbrev pub host_of : State → (Trail → Type 0) → Screen → ℕ → Host
host_of s follows w k = record { state = s; follows = follows; screen = w; steps = k }

-- One piece of what a terminal shows after another.
pub shows_nothing : (w : Screen) → Shows w w [] false
shows_nothing w = record { more = Appends-nil w.shown; count = refl }

pub shows_on : {a b c : Screen} {xs ys : List ℕ} {failed : Bool} → Shows a b xs false → Shows b c ys failed → Shows a c (xs ++ ys) failed
shows_on {failed} p q = record { more = Appends-trans _ _ _ _ _ p.more q.more; count = q.count ∙ ap (count_after failed) p.count }

-- A string that ends by itself ends well.
well_runs : (s : State) (text : List ℕ) (limit : ℕ) (code : Option Code) (steps : ℕ) (typed : List ℕ) (new : State) → IsFinished code → EndsWell s text limit (ended_by code steps) typed new → Runs s text limit (ended_by code steps) typed new
well_runs s text limit None steps typed new f e = e
well_runs s text limit (Some Mem) steps typed new f e = absurd cc
well_runs s text limit (Some Tty) steps typed new f e = absurd cc
well_runs s text limit (Some c) steps typed new f e = e

well_shown : (code : Option Code) (steps : ℕ) → IsFinished code → false ≡ is_tty (ended_by code steps)
well_shown code steps f = grind arith

abbrev meant_now : StringMeaning → Now
meant_now m = record { state = m.state; typed = m.typed; load = m.load }

-- Where the run has come to after some steps is what the text means under that limit.
pub now_there : MachineMeans → (o : Origin) (k : ℕ) (next : Continuation) (now : Now) → ((fuel : ℕ) → run_within (k + fuel) (whole_run o) ≡ ready_run fuel (next now)) → Stays next now → now_at o k ≡ now
now_there means o k next now leads stays =
    let none : k ≡ k + 0 = omega arith in
    sym (ap meant_now (means o.state o.text k)) ∙ ap (λ j. final_now (run_within j (whole_run o))) none ∙ ap final_now (leads 0) ∙ stays

-- What is followed from one moment to the next is followed from the first.
pub end_since : (limit : ℕ) (o : Origin) (first before after : Host) (code : Option Code) → StillFollows o first before → ReachesEnd limit o before after code → ReachesEnd limit o first after code
end_since limit o first before after code f r = record { typed = r.typed; runs = r.runs; shows = r.shows; again = r.again; follows = λ floor p. r.follows floor (f floor p) }

pub since : (limit : ℕ) (o : Origin) (first before after : Host) (d : Reached) → StillFollows o first before → Reaches limit o before after d → Reaches limit o first after d
since limit o first before after (goes next) f r = record { going = r.going; follows = λ floor p. r.follows floor (f floor p) }
since limit o first before after (over code) f r = record { ends = end_since limit o first before after code f r.ends; nowhere = r.nowhere }
since limit o first before after (stops code) f r = end_since limit o first before after (Some code) f r

-- A continuation comes to what is reached.
abbrev pub Settles : Continuation → Reached → Type 0
Settles next d = (now : Now) → Comes (next now) now d

pub alike : {r q : Ready} → r ≡ q → Alike r q
alike e = record { runs = λ fuel. ap (ready_run fuel) e; stands = ap sight e }

pub also : {r q p : Ready} → Alike r q → Alike q p → Alike r p
also a b = record { runs = λ fuel. a.runs fuel ∙ b.runs fuel; stands = a.stands ∙ b.stands }

-- neither want of memory nor a failed terminal
abbrev pub EndsByItself : Reached → Type 0
EndsByItself (goes next) = Unit {0}
EndsByItself (over code) = IsFinished code
EndsByItself (stops code) = IsFinished (Some code)

-- A step leads from one continuation to another; it changes the state, types these bytes and has this load.
abbrev pub advanced : State → List ℕ → ℕ → Now → Now
advanced t bytes n now = record { state = t; typed = now.typed ++ bytes; load = now.load + n }

pub record PaysFor (r q : Ready) : Type 0 where
  pub machine : Machine
  pub comes : after_coming r ≡ Some machine
  pub leads : ready_of machine ≡ q

abbrev pub Pays : Continuation → Continuation → State → State → List ℕ → ℕ → Type 0
Pays next further s t bytes n = (now : Now) → now.state ≡ s → PaysFor (next now) (further (advanced t bytes n now))

module _ (o : Origin) (h : Host) (next : Continuation) (g : RunGoesOn o h next) where
  pub ends_here : (limit : ℕ) (code : Option Code) → IsFinished code → h.steps ≤ limit
      → (let left = limit - h.steps in ready_run left (next (now_at o h.steps)) ≡ ended_at left (now_at o h.steps) code) → ReachesEnd limit o h h code
  ends_here limit code f le e =
      let now = now_at o h.steps in
      let left = limit - h.steps in
      let all : h.steps + left ≡ limit = omega arith in
      let r : run_within limit (whole_run o) ≡ ended_at left now code = sym (ap (λ k. run_within k (whole_run o)) all) ∙ g.leads left ∙ e in
      let m : string_meaning o.state o.text limit ≡ (let x : StringMeaning = record { state = now.state; typed = now.typed; code = code; steps = limit - left; load = now.load } in x) =
      sym (g.means o.state o.text limit) ∙ ap (λ (x : Final). let y : StringMeaning = record { state = x.state; typed = x.typed; code = x.code; steps = limit - x.fuel; load = x.load } in y) r in
      record {
        typed = now.typed;
        runs = well_runs o.state o.text limit code h.steps now.typed h.state f (record {
          code = sym (ap (λ (x : StringMeaning). x.code) m);
          steps = let same : (string_meaning o.state o.text limit).steps ≡ limit - left = ap (λ (x : StringMeaning). x.steps) m in omega arith;
          state = g.state ∙ sym (ap (λ (x : StringMeaning). x.state) m);
          bytes = sym (ap (λ (x : StringMeaning). x.typed) m);
        });
        shows = subst (λ failed. Shows o.screen h.screen now.typed failed) (well_shown code h.steps f) g.shows;
        again = g.state;
        follows = λ floor p. p;
      }

  -- no step is left
  pub limit_ends : (limit : ℕ) → h.steps ≡ limit → ((now : Now) → ready_run 0 (next now) ≡ ended_at 0 now (Some Lim)) → ReachesEnd limit o h h (Some Lim)
  limit_ends limit same e =
      let none : 0 ≡ limit - h.steps = omega arith in
      ends_here limit (Some Lim) refl (omega arith) (subst (λ k. ready_run k (next (now_at o h.steps)) ≡ ended_at k (now_at o h.steps) (Some Lim)) none (e (now_at o h.steps)))

  -- no step is left, once one was begun that changed nothing
  pub limit_ends_unchanged : (limit : ℕ) → h.steps ≡ limit → ((now : Now) → ready_run 0 (next now) ≡ ended_at 0 now (Some Lim)) → (new : State) → new ≡ h.state → (G : Trail → Type 0) → ((u : Trail) → h.follows u → G u)
      → (w : Screen) → Shows h.screen w [] false → ReachesEnd limit o h (host_of new G w h.steps) (Some Lim)
  limit_ends_unchanged limit same e new is G keeps w shows =
      let r = limit_ends limit same e in
      record {
        typed = r.typed;
        runs = subst (λ s. Runs o.state o.text limit (ended_by (Some Lim) h.steps) r.typed s) (sym is) r.runs;
        shows = subst (λ bytes. Shows o.screen w bytes false) (append-nil r.typed) (shows_on r.shows shows);
        again = is ∙ r.again;
        follows = λ floor p. keeps _ (r.follows floor p);
      }

  -- what uses no step
  pub continues : (further : Continuation) → Settles next (goes further) → ReachesContinuation o h h further
  continues further e = record {
    going = record { means = g.means; state = g.state; shows = g.shows; leads = λ fuel. g.leads fuel ∙ (e (now_at o h.steps)).runs fuel; stands = g.stands ∙ (e (now_at o h.steps)).stands };
    follows = λ floor p. p;
  }

  pub settles : (limit : ℕ) (d : Reached) → EndsByItself d → h.steps ≤ limit → Settles next d → Reaches limit o h h d
  settles limit (goes further) f le e = continues further e
  settles limit (over code) f le e =
      let there = e (now_at o h.steps) in
      record { ends = ends_here limit code f le (there.runs (limit - h.steps)); nowhere = ap (λ x. x.0) g.stands ∙ there.nowhere }
  settles limit (stops code) f le e = ends_here limit (Some code) f le (e (now_at o h.steps) (limit - h.steps))

  -- a step
  module _ (further : Continuation) (t : State) (bytes : List ℕ) (n : ℕ) (pays : Pays next further h.state t bytes n) (stays : (now : Now) → Stays further now) where
    abbrev later_now : Now
    later_now = advanced t bytes n (now_at o h.steps)

    leads_on : (fuel : ℕ) → run_within (h.steps + 1 + fuel) (whole_run o) ≡ ready_run fuel (further later_now)
    leads_on fuel =
        let paid : h.steps + 1 + fuel ≡ h.steps + suc fuel = omega arith in
        let p = pays (now_at o h.steps) (sym g.state) in
        ap (λ k. run_within k (whole_run o)) paid ∙ g.leads (suc fuel) ∙ paid_run (next (now_at o h.steps)) p.machine p.comes fuel ∙ run_ready fuel p.machine ∙ ap (ready_run fuel) p.leads

    -- what the machine is ready for then
    stands_on : ready_of (after_steps (h.steps + 1) (whole_run o)) ≡ further later_now
    stands_on =
        let one : h.steps + 1 ≡ suc h.steps = omega arith in
        let p = pays (now_at o h.steps) (sym g.state) in
        let here = ready_of (after_steps h.steps (whole_run o)) in
        let comes : after_coming here ≡ Some p.machine = ap (λ x. x.1) g.stands ∙ p.comes in
        ap (λ k. ready_of (after_steps k (whole_run o))) one ∙ ap ready_of (after_more h.steps (whole_run o) ∙ paid_steps here p.machine comes) ∙ p.leads

    now_later : now_at o (h.steps + 1) ≡ later_now
    now_later = now_there g.means o (h.steps + 1) further later_now leads_on (stays later_now)

    pub step_done : (later : Host) → later.steps ≡ h.steps + 1 → later.state ≡ t → Shows h.screen later.screen bytes false
        → ((u : Trail) → h.follows u → u.changes ≡ 0 → u.steps ≡ h.steps → u.states (h.steps + 1) ≡ t → u.load + n ≤ u.loads (h.steps + 1) → later.follows (stepped (moved u n)))
        → ReachesContinuation o h later further
    step_done later count state shows on =
        let told = trail_of o.state o.text in
        subst (λ k. ReachesContinuation o h (host_of later.state later.follows later.screen k) further) (sym count) (record {
          going = record {
            means = g.means;
            state = state ∙ sym (ap (λ (x : Now). x.state) now_later);
            shows = subst (λ typed. Shows o.screen later.screen typed false) (sym (ap (λ (x : Now). x.typed) now_later)) (shows_on g.shows shows);
            leads = λ fuel. leads_on fuel ∙ ap (λ x. ready_run fuel (further x)) (sym now_later);
            stands = ap sight (stands_on ∙ ap further (sym now_later));
          };
          follows = λ floor p.
              subst (λ load. later.follows (record (told floor (h.steps + 1)) { load = load })) (sym (ap (λ (x : Now). x.load) now_later))
              (on (told floor h.steps) p refl refl (ap (λ (x : Now). x.state) now_later)
              (let same : (string_meaning o.state o.text (h.steps + 1)).load ≡ (now_at o h.steps).load + n = ap (λ (x : Now). x.load) now_later in omega arith));
        })

    -- A step is begun that isn't done.
    module _ (limit : ℕ) (lt : h.steps < limit) (new : State) (same : new ≡ h.state) (G : Trail → Type 0) (keeps : (u : Trail) → h.follows u → G u) where
      more_steps : h.steps < (string_meaning o.state o.text limit).steps
      more_steps =
          let left = limit - h.steps - 1 in
          let all : limit ≡ h.steps + 1 + left = omega arith in
          let e : run_within limit (whole_run o) ≡ ready_run left (further later_now) = ap (λ k. run_within k (whole_run o)) all ∙ leads_on left in
          let fuel : (run_within limit (whole_run o)).fuel ≤ left = subst (λ (x : Final). x.fuel ≤ left) (sym e) (ready_fuel left (further later_now)) in
          let steps : limit - (run_within limit (whole_run o)).fuel ≡ (string_meaning o.state o.text limit).steps = ap (λ (x : StringMeaning). x.steps) (g.means o.state o.text limit) in
          omega arith

      -- memory was refused
      pub no_memory : (w : Screen) → Shows h.screen w [] false → ReachesEnd limit o h (host_of new G w h.steps) (Some Mem)
      no_memory w shows = record {
        typed = (now_at o h.steps).typed;
        runs = record { before = more_steps; state = same ∙ g.state; bytes = refl };
        shows = subst (λ bytes. Shows o.screen w bytes false) (append-nil (now_at o h.steps).typed) (shows_on g.shows shows);
        again = same ∙ g.state;
        follows = λ floor p. keeps _ p;
      }

      -- the terminal failed in a step that types these bytes
      pub no_terminal : (w : Screen) (front : List ℕ) → bytes ≢ [] → IsFrontOf front bytes → Shows h.screen w front true → ReachesEnd limit o h (host_of new G w h.steps) (Some Tty)
      no_terminal w front some part shows =
          let typed = (now_at o h.steps).typed in
          let typed_on : (now_at o (h.steps + 1)).typed ≡ typed ++ bytes = ap (λ (x : Now). x.typed) now_later in
          record {
            typed = typed ++ front;
            runs = record {
              before = more_steps;
              state = same ∙ g.state;
              types = λ e. some (sym (append_cancel_left typed [] bytes (append-nil typed ∙ e ∙ typed_on)));
              at_least = (front, refl);
              at_most = (part.0, typed_on ∙ ap (λ x. typed ++ x) part.1 ∙ sym (append_assoc typed front part.0));
            };
            shows = shows_on g.shows shows;
            again = same ∙ g.state;
            follows = λ floor p. keeps _ p;
          }
