-- What a recorder has noted, against what it has come through.
use Rattle.std.specs.Prelude.{◌≡◌, ℕ, ◌+◌, ◌-◌, ◌*◌, ◌<◌, ◌≤◌, List, [], ◌∷◌, ◌++◌, length, take}
use Rattle.std.proofs.Common.{subst}
use Rattle.std.proofs.Math.Nat.{le_trans, le-add_right, add_assoc}
use Rattle.teco_store.specs.State.{Full, state_at, IsSound}
use Rattle.teco_store.specs.Trail.{Trail, most_changes, moved}
use Rattle.teco_store.specs.Turn.{Turn, Note, full_after, turn_after}
use Rattle.teco_undo.specs.Entry.{body_back, FitsBack, since, before, of_step, load_back}

-- an editor with the changes that were noted, the steps done, and how many more changes can be noted before memory is needed: at all,
-- and of those that are held apart
pub record Recording : Type 0 where
  pub full : Full
  pub notes : List Note
  pub done : ℕ
  pub spare : ℕ
  pub apart : ℕ

-- Each was made with at least `low` and at most `high` steps done, and none with fewer than the one before it.
abbrev pub AreMarked : ℕ → ℕ → List Note → Type 0
AreMarked low high [] = Unit {0}
AreMarked low high (c ∷ cs) = ((low ≤ c.step) × (c.step ≤ high)) × AreMarked c.step high cs

abbrev pub IsInOrder : List Note → Type 0
IsInOrder notes = (high : ℕ) × AreMarked 0 high notes

-- A sound editor has at least the capacity of a trail, and its changes, in the order of their steps, can be turned back.
pub record CanBeTurnedBack (full : Full) (notes : List Note) (t : Trail) : Type 0 where
  pub floor : t.floor ≤ full.room
  pub sound : IsSound full.room (length full.stored) full.body
  pub fits : FitsBack full.room notes full.body
  pub marked : AreMarked 0 t.steps notes

-- After the steps of a trail the changes lead back to the state after each of them.
pub record LeadsThroughStates (full : Full) (notes : List Note) (steps : ℕ) (t : Trail) : Type 0 where
  pub done : steps ≡ t.steps
  pub states : (i : ℕ) → i ≤ t.steps → state_at full.stored (body_back (since i notes) full.body) ≡ t.states i

-- The changes weigh no more than the loads of a trail, and are no more than its steps may make.
pub record IsWithinBounds (full : Full) (notes : List Note) (t : Trail) : Type 0 where
  -- the bytes of both sides of the changes of the first steps, and of all of them
  pub loads : (i : ℕ) → i ≤ t.steps
      → load_back (before i notes) (body_back (since i notes) full.body) ≤ t.loads i
  pub load : load_back notes full.body ≤ t.load
  -- the changes of each step, of the present one, and of all together
  pub each : (i : ℕ) → i < t.steps → length (of_step i notes) ≤ most_changes
  pub present : length (since t.steps notes) ≤ t.changes
  pub count : length notes ≤ most_changes * t.steps + t.changes

-- An editor and its changes, after so many steps, have come through a trail.
pub record HasCome (full : Full) (notes : List Note) (steps : ℕ) (t : Trail) : Type 0 where
  pub turns : CanBeTurnedBack full notes t
  pub leads : LeadsThroughStates full notes steps t
  pub within : IsWithinBounds full notes t

abbrev pub Follows : Recording → Trail → Type 0
Follows r t = HasCome r.full r.notes r.done t

-- after so many changes of this load
abbrev pub noting : Trail → ℕ → ℕ → Trail
noting t load count = record {
  states = t.states;
  loads = t.loads;
  steps = t.steps;
  load = t.load + load;
  changes = t.changes + count;
  floor = t.floor;
}

-- What is followed before is followed after so many changes of this load.
abbrev pub FollowsAfterChanges : ℕ → ℕ → Recording → Recording → Type 0
FollowsAfterChanges load count r s = (t : Trail) → Follows r t → Follows s (noting t load count)

-- what was followed still is
abbrev pub StillFollows : Recording → Recording → Type 0
StillFollows r s = (t : Trail) → Follows r t → Follows s t

-- `d` is put in, and what stood there is noted
abbrev pub with_note : Recording → Turn → Recording
with_note r d = record {
  full = full_after d r.full;
  notes = r.notes ++ record { step = r.done; turn = turn_after d r.full.body } ∷ [];
  done = r.done;
  spare = r.spare - 1;
  apart = r.apart;
}

-- The loads and the changes of a trail are bounds.
pub follows_eases : (r : Recording) (t : Trail) → Follows r t → Follows r (moved t 0)
follows_eases r t f = record {
  turns = record { floor = f.turns.floor; sound = f.turns.sound; fits = f.turns.fits; marked = f.turns.marked };
  leads = record { done = f.leads.done; states = f.leads.states };
  within = record {
    loads = f.within.loads;
    load = le_trans f.within.load (le-add_right t.load 0);
    each = f.within.each;
    present = le_trans f.within.present (le-add_right t.changes most_changes);
    count = subst (λ (n : ℕ). length r.notes ≤ n) (add_assoc (most_changes * t.steps) t.changes most_changes)
        (le_trans f.within.count (le-add_right (most_changes * t.steps + t.changes) most_changes));
  };
}

-- What a recorder leaves: changes that lead back to the body before, the output that was visible stored as before, and no less
-- capacity.
pub record LeadsBack (old new : Full) (notes : List Note) : Type 0 where
  pub room : old.room ≤ new.room
  pub sound : IsSound new.room (length new.stored) new.body
  pub fits : FitsBack new.room notes new.body
  pub body : body_back notes new.body ≡ old.body
  pub stored : take old.body.output new.stored ≡ take old.body.output old.stored
