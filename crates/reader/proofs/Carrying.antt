-- What a refusal of the reader over lent memory carries, on any memory.
-- Assumes nothing.
use Rattle.std.proofs.Common.{ℕ, not, ◌&&◌, eqb, ltb, leb, List, length, get_or, refl, arith}
use Rattle.telegram.specs.Numbers.{Outcome, refused_for, done}
use Rattle.telegram.specs.declared.Refusal.TheVariants.{NoChain}
use Rattle.telegram.specs.Carried.{Carried}
use Rattle.telegram.proofs.Outcomes.{either}
use Rattle.telegram.proofs.Carrying.{Answerable, well, refusing, going_on, fitting-in, answerable-carries, carried-done, carried-for}
use Rattle.capture.specs.State.{Standing, State}
use Rattle.capture.specs.Calls.{Reply, Given, nexting, closing}
use Rattle.capture.proofs.Carrying.{chunks-carry}
use Rattle.reader.specs.Layout.{reader_size, stands_in, state_in}
use Rattle.reader.specs.Interface.{written, answering, next_in, reader_next, end_answering, end_in, reader_end}
use Rattle.reader.specs.Carried.{ReaderCarries}

-- Memory holds a state, or it is 11.
stands-answerable : (mem : List ℕ) → Answerable (stands_in mem)
stands-answerable mem =
    let P : Outcome Standing → Type 0 = λ o. Answerable o in
    either P (eqb (get_or mem 0 0) 0) (well _ refl)
    (either P (eqb (get_or mem 0 0) 1) (well _ refl)
    (refusing (not (eqb (get_or mem 0 0) 2)) NoChain (omega arith)
    (refusing (not (leb 1 (get_or mem 1 0) && leb (get_or mem 1 0) 5)) NoChain (omega arith) (well _ refl))))

state-answerable : (mem : List ℕ) → Answerable (state_in mem)
unfolding state_in
state-answerable mem =
    refusing (ltb (length mem) reader_size) NoChain (omega arith) (going_on (stands_in mem) (stands-answerable mem) (λ k. well _ refl))

-- What a call on that state refuses is passed on.
answering-carries : (o : Outcome Reply) (g : Given) (room : ℕ) (mem : List ℕ) (at : ℕ) → Carried o → Carried (answering o g room mem at).outcome
answering-carries (refused_for d) g room mem at h = carried-for d (h d refl)
answering-carries (done r) g room mem at h = answerable-carries _ (fitting-in room (written r g.bytes))

next-carries : (o : Outcome State) (mem chunk : List ℕ) (at room : ℕ) → Carried o → Carried (next_in o mem chunk at room).outcome
next-carries (refused_for d) mem chunk at room h = carried-for d (h d refl)
next-carries (done s) mem chunk at room h =
    answering-carries (nexting chunk s at).answer (nexting chunk s at) room mem at (chunks-carry.next chunk s at)

ending-carries : (o : Outcome Reply) (s : State) (mem : List ℕ) → Carried o → Carried (end_answering o s mem).outcome
ending-carries (refused_for d) s mem h = carried-for d (h d refl)
ending-carries (done r) s mem h = carried-done _

end-carries : (o : Outcome State) (mem : List ℕ) → Carried o → Carried (end_in o mem).outcome
end-carries (refused_for d) mem h = carried-for d (h d refl)
end-carries (done s) mem h = ending-carries (closing s).answer (closing s).state mem (chunks-carry.closing s)

pub reader-carries : ReaderCarries
unfolding reader_next reader_end
reader-carries =
    record {
      next = λ mem chunk at room. next-carries (state_in mem) mem chunk at room (answerable-carries _ (state-answerable mem));
      end = λ mem. end-carries (state_in mem) mem (answerable-carries _ (state-answerable mem));
    }
