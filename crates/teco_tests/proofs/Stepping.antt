-- A recorder that ends a step goes on with some trail.
use Rattle.std.specs.Prelude.{◌≡◌, ℕ, ◌+◌, ◌≤◌, nat_lt, if◌then◌else◌, OnOk, OnErr}
use Rattle.std.proofs.Common.{refl, sym, subst, ◌∙◌, arith, Result, Ok, Err}
use Rattle.std.proofs.lemmas.Bool.{le-ltb, lt-ltb}
use Rattle.teco_store.specs.State.{State, state_of}
use Rattle.teco_store.specs.Trail.{Trail, most_changes, moved, stepped}
use Rattle.teco_undo.specs.Follows.{Recording, Follows}
use Rattle.teco_tests.specs.Steps.{HasDone}

-- the same trail, with a state and the load by now at the steps to come
abbrev pub retold : Trail → State → Trail
retold t s = record {
  states = λ i. if nat_lt t.steps i then s else t.states i;
  loads = λ i. if nat_lt t.steps i then t.load else t.loads i;
  steps = t.steps;
  load = t.load;
  changes = t.changes;
  floor = t.floor;
}

kept_state : (t : Trail) (s : State) (i : ℕ) → i ≤ t.steps → (retold t s).states i ≡ t.states i
kept_state t s i h = rw (le-ltb t.steps i h) refl

kept_load : (t : Trail) (s : State) (i : ℕ) → i ≤ t.steps → (retold t s).loads i ≡ t.loads i
kept_load t s i h = rw (le-ltb t.steps i h) refl

next_state : (t : Trail) (s : State) → (retold t s).states (t.steps + 1) ≡ s
next_state t s = rw (lt-ltb t.steps (t.steps + 1) (omega arith)) refl

next_load : (t : Trail) (s : State) → (retold t s).loads (t.steps + 1) ≡ t.load
next_load t s = rw (lt-ltb t.steps (t.steps + 1) (omega arith)) refl

follows_retold : (r : Recording) (t : Trail) (s : State) → Follows r t → Follows r (retold t s)
follows_retold r t s f = record {
  turns = record { floor = f.turns.floor; sound = f.turns.sound; fits = f.turns.fits; marked = f.turns.marked };
  leads = record { done = f.leads.done; states = λ i h. f.leads.states i h ∙ sym (kept_state t s i h) };
  within = record {
    loads = λ i h. (let l = f.within.loads i h in let k = kept_load t s i h in omega arith);
    load = f.within.load;
    each = f.within.each;
    present = f.within.present;
    count = f.within.count;
  };
}

-- A bound on the changes may be larger.
pub few_more : (r : Recording) (n : ℕ) → HasDone n 0 r → HasDone n most_changes r
few_more r n d = record { trail = d.trail; follows = d.follows; count = d.count; few = let f = d.few in omega arith }

-- A call makes at most as many changes as a step may, or none.
pub may_move : {T E : Type 0} (x : Result T E) (r s : Recording) (n load : ℕ)
    → OnOk x ((t : Trail) → Follows r t → Follows s (moved t load))
    → OnErr x ((t : Trail) → Follows r t → Follows s t)
    → HasDone n 0 r → HasDone n most_changes s
may_move (Ok v) r s n load f k d =
    record { trail = moved d.trail load; follows = f d.trail d.follows; count = d.count; few = let few = d.few in omega arith }
may_move (Err e) r s n load f k d =
    record { trail = d.trail; follows = k d.trail d.follows; count = d.count; few = let few = d.few in omega arith }

-- what `step_done` tells
pub ends_step : (r s : Recording) (n steps : ℕ) → n + 1 ≡ steps
    → ((t : Trail) → Follows r t → t.changes ≤ most_changes → steps ≡ t.steps + 1 → t.states steps ≡ state_of r.full → t.load ≤ t.loads steps → Follows s (stepped t))
    → HasDone n most_changes r → HasDone steps 0 s
ends_step r s n steps e h d =
    let t = retold d.trail (state_of r.full) in
    let c = d.count in
    let here : steps ≡ t.steps + 1 = omega arith in
    record {
      trail = stepped t;
      follows = h t (follows_retold r d.trail (state_of r.full) d.follows) d.few here
          (subst (λ (k : ℕ). t.states k ≡ state_of r.full) (sym here) (next_state d.trail (state_of r.full)))
          (subst (λ (k : ℕ). t.load ≤ t.loads k) (sym here) (let l = next_load d.trail (state_of r.full) in omega arith));
      count = sym here;
      few = omega arith;
    }
