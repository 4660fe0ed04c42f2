-- Request 01 for C callers: what each function returns, and what it leaves in the lent state, index and room.
-- Assumes nothing.
use Rattle.std.specs.Prelude.{ℕ, ◌+◌, ◌*◌, cond, List, [], length, take, ◌==◌, nat_lt}
use Rattle.telegram.specs.Numbers.{Outcome, refused_for, done, value_of, counted, fitted}
use Rattle.capture.specs.State.{State, is_left}
use Rattle.capture.specs.Calls.{Reply, telegram, more, over, Given, nexting, closing}
use Rattle.reader.specs.Layout.{state_in, holding}

-- Number and count in one: number + 256 × count, where the number is 0 when done. On a refusal what it carries stands in place of the
-- count: with 5 the checksum worked out in the second byte and the one received in the third, with any other number nothing.
abbrev pub packed : Outcome ℕ → ℕ
packed (refused_for e) = value_of e
packed (done count) = count * 256

-- What a function returns: its number and the count of the bytes that it wrote.
abbrev pub returned : Outcome (List ℕ) → ℕ
returned o = packed (counted o)

-- What a call gives back, and what it leaves in the memory of the state and in the index.
pub record Called : Type 0 where
  pub outcome : Outcome (List ℕ)
  pub memory : List ℕ
  pub at : ℕ

-- What is written for a reply: the bytes of a telegram, or none.
abbrev pub written : Reply → List ℕ → List ℕ
written (telegram t) bytes = take (4 + t.size) bytes
written more bytes = []
written over bytes = []

-- What a refusal leaves in the memory of the state: 11 leaves it, the reader's own is kept there, since it stays stopped.
abbrev pub kept_by : ℕ → State → List ℕ → List ℕ
kept_by n s mem = cond (n == 11) mem (holding s mem)

-- A refusal leaves the index. A reply whose bytes do not fit the room is 9, which leaves both; else both move.
abbrev pub answering : Outcome Reply → Given → ℕ → List ℕ → ℕ → Called
answering (refused_for e) g room mem at = record { outcome = refused_for e; memory = kept_by e.number g.state mem; at = at }
answering (done r) g room mem at =
    record {
      outcome = fitted room (written r g.bytes);
      memory = cond (nat_lt room (length (written r g.bytes))) mem (holding g.state mem);
      at = cond (nat_lt room (length (written r g.bytes))) at g.at;
    }

-- `osp_reader_next`, of the state's memory, the chunk, the index and the length of the room: 11, the reader's own, then 9.
abbrev pub next_in : Outcome State → List ℕ → List ℕ → ℕ → ℕ → Called
next_in (refused_for e) mem chunk at room = record { outcome = refused_for e; memory = mem; at = at }
next_in (done s) mem chunk at room = answering (nexting chunk s at).answer (nexting chunk s at) room mem at

unfoldable pub reader_next : List ℕ → List ℕ → ℕ → ℕ → Called
reader_next mem chunk at room = next_in (state_in mem) mem chunk at room

-- What the end gives back, and what it leaves in the memory of the state.
pub record Ended : Type 0 where
  pub outcome : Outcome (List ℕ)
  pub memory : List ℕ

-- Nothing is written at the end.
abbrev pub end_answering : Outcome Reply → State → List ℕ → Ended
end_answering (refused_for e) s mem = record { outcome = refused_for e; memory = kept_by e.number s mem }
end_answering (done r) s mem = record { outcome = done []; memory = holding s mem }

-- `osp_reader_end`, of the state's memory: 11, then the reader's own.
abbrev pub end_in : Outcome State → List ℕ → Ended
end_in (refused_for e) mem = record { outcome = refused_for e; memory = mem }
end_in (done s) mem = end_answering (closing s).answer (closing s).state mem

unfoldable pub reader_end : List ℕ → Ended
reader_end mem = end_in (state_in mem) mem

-- `osp_reader_position`, of the state's memory: 0 where the other functions give 11.
abbrev pub position_by : Outcome State → ℕ
position_by (refused_for e) = 0
position_by (done s) = cond (is_left s) s.position 0

unfoldable pub reader_position : List ℕ → ℕ
reader_position mem = position_by (state_in mem)
