-- From what a function for a token did to what a step may do.
use Rattle.std.proofs.Common.{◌≡◌, ◌∙◌, sym, ap, subst, refl, ℕ, [], true, false, Bool, Result, Ok, Err, ◌⊎◌, inl, inr}
use Rattle.teco_scan.specs.Scan.{Item}
use Rattle.teco_store.specs.State.{State}
use Rattle.teco_store.specs.Trail.{Trail, moved}
use Rattle.teco_step.specs.declared.failure.Failure.{Failure}
use Rattle.teco_step.specs.declared.next.Next.{Next}
use Rattle.teco_step.specs.declared.next.Next.TheVariants as next
use Rattle.teco_step.specs.Step.{Attempt, Step, Action, done_by, End, go, Moment, settled}
use Rattle.teco_step.specs.Families.{next_of, code_of_failure, tag_of, IsRefusal, ActsFrom, Scene, Types, Carries}
use Rattle.teco_step.specs.Stepping.{Steps, name_of, trail_after}
use Rattle.teco_step.specs.Ending.{end_of, is_unfinished}
use Rattle.teco_io.specs.Terminal.{Screen, Shows}
use Rattle.teco_step.proofs.Ends.{MayEnd}
use Rattle.teco_io.proofs.Shown.{Shows-nil}

-- an end that a token may have is told by what it leads to
end_is : (s : State) (inside : Bool) (i : Item) (n : Next) (e : End) → end_of s (tag_of e) n ≡ e → MayEnd inside i e → end_of s (name_of i) n ≡ e
end_is s inside i next.On e l m = l
end_is s inside i next.Leave e l m = l
end_is s inside i next.Go e l m = ap go (sym (subst (λ (e : End). MayEnd inside i e) (sym l) m)) ∙ l
end_is s inside i (next.Call q) e l m = l
end_is s inside i next.Out e l m = l
end_is s inside i (next.Again work) e l m = l
end_is s inside i (next.Error c) e l m = l

still_shows : (old new : Screen) → new ≡ old → Shows old new [] false
still_shows old new same = subst (λ (w : Screen). Shows old w [] false) (sym same) (Shows-nil old)

finished : (n : Next) (t : Trail) (load : ℕ) → is_unfinished n ≡ false → trail_after n t load ≡ moved t load
finished n t load is = ap (λ b. elim b as (λ _. Trail) [ true ↦ t | false ↦ moved t load ]) is

-- what stands at a moment, with what the desk follows
abbrev pub scene_at : Moment → (Trail → Type 0) → Scene
scene_at m F = record { state = m.state; arguments = m.arguments; follows = F }

-- what a function for any token did, from one moment to another
abbrev pub DoesFrom : Action → Moment → Moment → (Trail → Type 0) → (Trail → Type 0) → Result Next Failure → Type 0
DoesFrom f old new F G r =
    ((new.screen ≡ old.screen) × ActsFrom f (scene_at old F) (scene_at new G) r)
    ⊎ ((new.state ≡ old.state) × ((t : Trail) → F t → G t) × Types f old.state old.arguments new.arguments old.screen new.screen r)

module _ (inside : Bool) (i : Item) (old new : Moment) where
  -- the step of what is meant
  abbrev pub meant : Attempt → Step
  meant attempt = settled old.state old.arguments attempt

  acts_steps : (attempt : Attempt) (F G : Trail → Type 0) (r : Result Next Failure) (f : Action) → attempt ≡ done_by f old.state old.arguments → MayEnd inside i (meant attempt).end
      → new.screen ≡ old.screen → ActsFrom f (scene_at old F) (scene_at new G) r → Steps (meant attempt) (name_of i) old new (next_of r)
  acts_steps attempt F G (Ok n) f is may same m =
      let e = is ∙ m.step in
      let may_here = subst (λ (u : Attempt). MayEnd inside i (meant u).end) e may in
      subst (λ (u : Attempt). Steps (meant u) (name_of i) old new n) (sym e)
      (inl (record {
        state = refl;
        arguments = refl;
        end = end_is new.state inside i n m.end m.leads may_here;
        finished = m.finished;
        shows = still_shows old.screen new.screen same;
      }))
  acts_steps attempt F G (Err h) f is may same u =
      elim u.why [
        | inl r ↦
            subst (λ (g : Failure). Steps (meant attempt) (name_of i) old new (next.Error (code_of_failure g))) (sym r.is)
            (subst (λ (t : Attempt). Steps (meant t) (name_of i) old new (next.Error r.code)) (sym (is ∙ r.refused))
            (inl (record { state = u.state; arguments = u.arguments; end = refl; finished = r.own; shows = still_shows old.screen new.screen same })))
        | inr memory ↦
            inr (inl (record { code = ap (λ (g : Failure). next.Error (code_of_failure g)) memory; state = u.state; arguments = u.arguments; shows = still_shows old.screen new.screen same }))
      ]

  types_steps : (attempt : Attempt) (r : Result Next Failure) (f : Action) → attempt ≡ done_by f old.state old.arguments → new.state ≡ old.state
      → Types f old.state old.arguments new.arguments old.screen new.screen r → Steps (meant attempt) (name_of i) old new (next_of r)
  types_steps attempt (Ok n) f is same m =
      subst (λ (k : Next). Steps (meant attempt) (name_of i) old new k) (sym m.goes_on)
      (subst (λ (u : Attempt). Steps (meant u) (name_of i) old new next.On) (sym (is ∙ m.step))
      (inl (record { state = same; arguments = m.arguments; end = refl; finished = refl; shows = m.shows })))
  types_steps attempt (Err h) f is same (inl u) =
      let r = u.why in
      subst (λ (g : Failure). Steps (meant attempt) (name_of i) old new (next.Error (code_of_failure g))) (sym r.is)
      (subst (λ (t : Attempt). Steps (meant t) (name_of i) old new (next.Error r.code)) (sym (is ∙ r.refused))
      (inl (record { state = same; arguments = u.arguments; end = refl; finished = r.own; shows = still_shows old.screen new.screen u.screen })))
  types_steps attempt (Err h) f is same (inr u) =
      subst (λ (t : Attempt). Steps (meant t) (name_of i) old new (next.Error (code_of_failure h))) (sym (is ∙ u.step))
      (inr (inr (record {
        code = ap (λ (g : Failure). next.Error (code_of_failure g)) u.is;
        state = same;
        arguments = u.arguments;
        types = u.some;
        front = u.front;
        beginning = u.beginning;
        shows = u.shows;
      })))

  pub does_steps : (f : Action) (F G : Trail → Type 0) (r : Result Next Failure) → MayEnd inside i (meant (done_by f old.state old.arguments)).end
      → DoesFrom f old new F G r → Steps (meant (done_by f old.state old.arguments)) (name_of i) old new (next_of r)
  does_steps f F G r may (inl d) = acts_steps (done_by f old.state old.arguments) F G r f refl may d.0 d.1
  does_steps f F G r may (inr d) = types_steps (done_by f old.state old.arguments) r f refl d.0 d.2

  carries_on : (F G : Trail → Type 0) (load : ℕ) → Carries F G load → ((t : Trail) → G t → G (moved t 0)) → (t : Trail) → F t → G (moved t load)
  carries_on F G load (inl moves) eases t h = moves t h
  carries_on F G load (inr none) eases t h = subst (λ n. G (moved t n)) (sym none.0) (eases t (none.1 t h))

  refusal_follows : (attempt : Attempt) (G : Trail → Type 0) (h : Failure) → IsRefusal h attempt → ((t : Trail) → G t → G (moved t 0))
      → (t : Trail) → G t → G (trail_after (next.Error (code_of_failure h)) t (meant attempt).load)
  refusal_follows attempt G h r eases t g =
      subst (λ (k : Failure). G (trail_after (next.Error (code_of_failure k)) t (meant attempt).load)) (sym r.is)
      (subst (λ (k : Attempt). G (trail_after (next.Error r.code) t (meant k).load)) (sym r.refused)
      (subst G (sym (finished (next.Error r.code) t 0 r.own)) (eases t g)))

  pub does_follows : (f : Action) (F G : Trail → Type 0) (r : Result Next Failure) → DoesFrom f old new F G r → ((t : Trail) → G t → G (moved t 0))
      → (t : Trail) → F t → G (trail_after (next_of r) t (meant (done_by f old.state old.arguments)).load)
  does_follows f F G (Ok n) (inl (same, m)) eases t h =
      subst (λ (u : Attempt). G (trail_after n t (meant u).load)) (sym m.step) (subst G (sym (finished n t m.load m.finished)) (carries_on F G m.load m.carries eases t h))
  does_follows f F G (Err e) (inl (same, u)) eases t h =
      elim u.why [
        | inl r ↦ refusal_follows (done_by f old.state old.arguments) G e r eases t (u.follows t h)
        | inr memory ↦
            subst (λ (g : Failure). G (trail_after (next.Error (code_of_failure g)) t (meant (done_by f old.state old.arguments)).load)) (sym memory) (u.follows t h)
      ]
  does_follows f F G (Ok n) (inr (same, keeps, m)) eases t h =
      subst (λ (k : Next). G (trail_after k t (meant (done_by f old.state old.arguments)).load)) (sym m.goes_on)
      (subst (λ (u : Attempt). G (moved t (meant u).load)) (sym m.step) (eases t (keeps t h)))
  does_follows f F G (Err e) (inr (same, keeps, inl u)) eases t h = refusal_follows (done_by f old.state old.arguments) G e u.why eases t (keeps t h)
  does_follows f F G (Err e) (inr (same, keeps, inr u)) eases t h =
      subst (λ (g : Failure). G (trail_after (next.Error (code_of_failure g)) t (meant (done_by f old.state old.arguments)).load)) (sym u.is) (keeps t h)
