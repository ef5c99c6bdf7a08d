-- A run keeps its profile.
use Rattle.std.proofs.Common.{◌≡◌, ℕ, zero, suc, List, Option, Some, refl, sym, ◌∙◌, ap, arith}
use Rattle.teco_core.specs.declared.profile.Profile.{Profile}
use Rattle.teco_scan.specs.declared.command.Modifiers.{Modifiers}
use Rattle.teco_scan.specs.Scan.{Item}
use Rattle.teco_store.specs.State.{State}
use Rattle.teco_step.specs.Step.{End}
use Rattle.teco_step.specs.Effect.{effect}
use Rattle.teco_step.specs.Laws.{ProfileStays}
use Rattle.teco_exec.specs.CursorMoves.{CursorOrError, after_block_step}
use Rattle.teco_exec.specs.Machine.{Config, Further, Machine, Now, Ready, now_of, setting_of, runs, halts, step, block, faulty, finished, runs_or_halts, after_step_end, ready_at, ready_within, ready_of, after_paid_step, after_steps, start_config}
use Rattle.teco_exec.specs.MachineLaws.{MachineFollows}
use Rattle.teco_exec.specs.Laws.{ProfileIsKept}
use Rattle.teco_exec.specs.Places.{Standing, standing, stands_after}
use Rattle.teco_exec.proofs.MachineMeans.{acted, arrives_now, going_now, ready_now, resumed_now}

profile_in : Machine → Profile
profile_in (runs c) = c.profile
profile_in (halts c e) = c.profile

ready_profile : Ready → Profile
ready_profile (step m i work c) = c.profile
ready_profile (block b bs c) = c.profile
ready_profile (faulty c e) = c.profile
ready_profile (finished c e) = c.profile

going : (c : Config) (m : CursorOrError) → profile_in (runs_or_halts c m) ≡ c.profile
unfolding profile_in
going c m = grind arith

resumed : (m : Modifiers) (i : Item) (e : End) (c : Config) → profile_in (after_step_end m i e c) ≡ c.profile
unfolding profile_in
resumed m i e c = grind arith

arriving : (next : Machine → Ready) → ((m : Machine) → ready_profile (next m) ≡ profile_in m) → (c : Config) (f : Option Further) → ready_profile (ready_at next c f) ≡ c.profile
unfolding profile_in ready_profile
arriving next h c f = grind arith

arrives_so : (k : ℕ) (m : Machine) → ready_profile (ready_within k m) ≡ profile_in m
unfolding profile_in ready_profile ready_within
arrives_so zero (runs c) = refl
arrives_so (suc k) (runs c) = arriving (ready_within k) (arrives_so k) c c.further
arrives_so k (halts c e) = refl

arrives : (m : Machine) → ready_profile (ready_of m) ≡ profile_in m
unfolding ready_of
arrives m = arrives_so _ m

paid : (r : Ready) → profile_in (after_paid_step r) ≡ ready_profile r
unfolding profile_in ready_profile
paid (step m i work c) = resumed m i (effect i (setting_of c.profile m work c.at) c.state c.at.args).end (acted m i work c)
paid (block b bs c) = going c (after_block_step c.profile b bs c.at)
paid (faulty c e) = refl
paid (finished c e) = refl

steps_keep : (n : ℕ) (m : Machine) → profile_in (after_steps n m) ≡ profile_in m
unfolding after_steps
steps_keep zero m = refl
steps_keep (suc n) m = steps_keep n (after_paid_step (ready_of m)) ∙ paid (ready_of m) ∙ arrives m

stood : (r : Ready) (s : Standing) → standing r ≡ Some s → s.profile ≡ ready_profile r
unfolding ready_profile
stood (step m i work c) s e = sym (some_same e)
  where
    some_same : {a b : Standing} → Some a ≡ Some b → a.profile ≡ b.profile
    some_same e = cc
stood (block b bs c) s e = sym (some_same e)
  where
    some_same : {a b : Standing} → Some a ≡ Some b → a.profile ≡ b.profile
    some_same e = cc
stood (faulty c x) s e = sym (some_same e)
  where
    some_same : {a b : Standing} → Some a ≡ Some b → a.profile ≡ b.profile
    some_same e = cc
stood (finished c x) s e = absurd cc

-- Wherever a whole run stands, texts are read in the profile of the state in which it began.
pub stands_profile : (s : State) (text : List ℕ) (k : ℕ) (there : Standing) → stands_after s text k ≡ Some there → there.profile ≡ s.profile
unfolding profile_in
stands_profile s text k there e =
    stood (ready_of (after_steps k (runs (start_config s text)))) there e ∙ arrives (after_steps k (runs (start_config s text))) ∙ steps_keep k (runs (start_config s text))

abbrev profile_now : Now → Profile
profile_now now = now.state.profile

module _ (stays : ProfileStays) where
  paid_now : (r : Ready) → profile_now (now_of (after_paid_step r)) ≡ profile_now (ready_now r)
  paid_now (step m i work c) =
      ap profile_now (resumed_now m i (effect i (setting_of c.profile m work c.at) c.state c.at.args).end (acted m i work c)) ∙ stays i (setting_of c.profile m work c.at) c.state c.at.args
  paid_now (block b bs c) = ap profile_now (going_now c (after_block_step c.profile b bs c.at))
  paid_now (faulty c e) = refl
  paid_now (finished c e) = refl

  steps_stay : (n : ℕ) (m : Machine) → profile_now (now_of (after_steps n m)) ≡ profile_now (now_of m)
  unfolding after_steps
  steps_stay zero m = refl
  steps_stay (suc n) m = steps_stay n (after_paid_step (ready_of m)) ∙ paid_now (ready_of m) ∙ ap profile_now (arrives_now m)

  -- No string changes the profile.
  pub profile_kept : MachineFollows → ProfileIsKept
  profile_kept follows s text limit = sym (ap profile_now (follows s text limit)) ∙ steps_stay limit (runs (start_config s text))
