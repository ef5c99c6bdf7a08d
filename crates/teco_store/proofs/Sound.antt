-- Editors whose output is stored anew, or who have more room, stay sound.
use Rattle.std.proofs.Common.{ℕ, ◌≤◌, arith}
use Rattle.teco_store.specs.State.{Body, IsSound}

-- with another number of stored bytes
pub sound_within : (capacity top low : ℕ) (b : Body) → b.output ≤ low → IsSound capacity top b → IsSound capacity low b
sound_within capacity top low b h s =
    record {
      pointer = s.pointer;
      text = s.text;
      room = s.room;
      registers = s.registers;
      numbers = s.numbers;
      all = s.all;
      pushed = s.pushed;
      pushed_numbers = s.pushed_numbers;
      few = s.few;
      place = s.place;
      input = s.input;
      stored = h;
      output = s.output;
      last_search = s.last_search;
    }

-- more capacity and more output stored
pub sound_more : (capacity capacity' top top' : ℕ) (b : Body) → capacity ≤ capacity' → top ≤ top' → IsSound capacity top b → IsSound capacity' top' b
sound_more capacity capacity' top top' b r m s =
    let x = s.room in let y = s.stored in
    record {
      pointer = s.pointer;
      text = s.text;
      room = omega arith;
      registers = s.registers;
      numbers = s.numbers;
      all = s.all;
      pushed = s.pushed;
      pushed_numbers = s.pushed_numbers;
      few = s.few;
      place = s.place;
      input = s.input;
      stored = omega arith;
      output = s.output;
      last_search = s.last_search;
    }
