-- The machine and the recursive meaning: two ways of one run.
use Rattle.std.specs.Prelude.{◌≡◌, ◌-◌, ℕ, List}
use Rattle.teco_store.specs.State.{State}
use Rattle.teco_exec.specs.StringMeaning.{StringMeaning, string_meaning}
use Rattle.teco_exec.specs.Machine.{Final, Now, runs, run_within, after_steps, start_config, now_of}

-- Under a limit of steps the machine comes to what the string means.
abbrev pub MachineMeans : Type 0
MachineMeans = (s : State) (text : List ℕ) (limit : ℕ)
    → (let f : Final = run_within limit (runs (start_config s text)) in
    let m : StringMeaning = record {
      state = f.state;
      typed = f.typed;
      code = f.code;
      steps = limit - f.fuel;
      load = f.load;
    } in m ≡ string_meaning s text limit)

-- After some steps it is where the string is under that limit.
abbrev pub MachineFollows : Type 0
MachineFollows = (s : State) (text : List ℕ) (i : ℕ) → (let m : StringMeaning = string_meaning s text i in
    let now : Now = record { state = m.state; typed = m.typed; load = m.load } in
    now_of (after_steps i (runs (start_config s text))) ≡ now)
